-- The size that the items say is the type's, and then they are given.
use Rattle.std.proofs.Common.{List, ap, ◌∙◌}
use Rattle.c_types.specs.declared.derivation.Derivation.{Derivation}
use Rattle.c_expr_rules.specs.Views.{seen_state}
use Rattle.c_check_expr.proofs.Growing.{grows_on, ok_on, err_on}
use Rattle.c_check_expr.proofs.Recursion.{passes_same, passes_failed}
use Rattle.c_names.specs.Code.{here_at}
use Rattle.c_tree.specs.declared.declared.Linkage.{Linkage}
use Rattle.c_file_rules.specs.Declaring.{sized_before, sized}
use Rattle.c_initialisers.specs.Sized.{seen_sizing}
use Rattle.c_statements.specs.Stated.{name_initialised}
use Rattle.c_statements.proofs.Initialised.{initialised_is, initialised_stops, items_grows}
use Rattle.c_statements.proofs.declarations.initialised_name.Goals as goal

pub returns : goal.returns
returns g c =
    let here = here_at c.args.scene.now.facts.now (g.S.Surroundings.told c.args.scene.now.around.now) in
    let s = seen_state c.args.state.now in
    let h = c.args.heading.now in
    let base = c.args.base in
    let ds = c.args.derivations.now in
    let i = c.args.initialiser.now in
    let z = seen_sizing c.in_ok-sizing.sizing in
    let t = seen_state c.name_declared.new.state in
    let linked = c.in_ok-before.ensures ∙ ap (λ (l : Linkage). sized_before here l h.name s ds) c.object_linkage-linkage.ensures in
    let all = c.as_slice-2.ensures.value ∙ c.in_ok-whole.ensures ∙ ap (λ (l : List Derivation). sized l c.in_ok-sizing.sizing.count) c.as_slice.ensures.value in
    let u = seen_state c.items_type.new.state in
    let v = seen_state c.declared_with.new.state in
    let named = c.in_ok-named.named in
    record {
      found = passes_same v c.declared_with.result (name_initialised here h base s ds i) _ (initialised_is here h base s ds i z c.in_ok-before.before.items c.as_slice-2.result.now c.in_ok-sizing.ensures linked all c.requires.initialised t u named.0 named.1 c.in_ok-items.items c.in_ok-named.ensures.found c.in_ok-items.ensures) c.declared_with.ensures.found;
      grows = ok_on c.declared_with.result _ _ _ (grows_on _ _ _ c.in_ok-named.ensures.grows (items_grows c.name_declared.new.state c.items_type.new.state base ds c.in_ok-sizing.sizing.count c.in_ok-named.named.1 c.in_ok-items.items c.in_ok-items.ensures)) c.declared_with.ensures.grows;
    }

pub returns-in_err-named : goal.returns-in_err-named
returns-in_err-named g c =
    let here = here_at c.args.scene.now.facts.now (g.S.Surroundings.told c.args.scene.now.around.now) in
    let s = seen_state c.args.state.now in
    let h = c.args.heading.now in
    let base = c.args.base in
    let ds = c.args.derivations.now in
    let i = c.args.initialiser.now in
    let z = seen_sizing c.in_ok-sizing.sizing in
    let t = seen_state c.name_declared.new.state in
    let linked = c.in_ok-before.ensures ∙ ap (λ (l : Linkage). sized_before here l h.name s ds) c.object_linkage-linkage.ensures in
    let all = c.as_slice-2.ensures.value ∙ c.in_ok-whole.ensures ∙ ap (λ (l : List Derivation). sized l c.in_ok-sizing.sizing.count) c.as_slice.ensures.value in
    let f = c.in_err-named.field-0.0 in
    record {
      found = passes_failed t c.from_residual-in_err-named.result f _ c.from_residual-in_err-named.ensures.1 (initialised_stops here h base s ds i z c.in_ok-before.before.items c.as_slice-2.result.now c.in_ok-sizing.ensures linked all c.requires.initialised t f c.in_err-named.ensures.found);
      grows = err_on _ c.from_residual-in_err-named.result _ _ c.from_residual-in_err-named.ensures.1;
    }
