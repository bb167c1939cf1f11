-- An object gets what its initialiser gives it, where it may have one.
use Rattle.std.proofs.Common.{◌≡◌, Bool, true, false, cond, sym, ap, ap₂, ◌∙◌, subst}
use Rattle.c_syntax.specs.Files.{initialiser_span}
use Rattle.c_tree.specs.declared.declared.Declared.TheVariants as declared
use Rattle.c_expr_rules.specs.Outcomes.{Checked}
use Rattle.c_expr_rules.specs.Expressions.{Around}
use Rattle.c_expr_rules.specs.Views.{seen_state}
use Rattle.c_expr_rules.specs.Views.{Gives}
use Rattle.c_names.specs.Code.{here_at}
use Rattle.c_file_rules.specs.Declaring.{needless, given_by, may_be_initialised, target_of}
use Rattle.c_file_rules.specs.Filling.{told_with, giving}
use Rattle.c_file_rules.specs.Initialising.{looked_at, filled, nothing_given}
use Rattle.c_file_rules.specs.declared.targets.Given.{Given}
use Rattle.c_file_rules.specs.declared.targets.Target.{Target}
use Rattle.c_statements.specs.Stated.{given_kept}
use Rattle.c_statements.proofs.Receiving.{refused}
use Rattle.c_statements.proofs.declarations.object_given.Goals as goal

pub returns-then-may_be_initialised : goal.returns-then-may_be_initialised
returns-then-may_be_initialised g c =
    let here = here_at c.args.scene.now.facts.now (g.S.Surroundings.told c.args.scene.now.around.now) in
    let s = seen_state c.args.state.now in
    let i = c.args.initialiser.now in
    let o = c.args.object in
    let p = c.args.part in
    let place = c.args.standing in
    let at = ap g.S.Surroundings.told c.checker.ensures in
    let t = seen_state c.initialiser_filled.new.state in
    let may : may_be_initialised place o ≡ true = cc in
    let path : giving c.args.given.now c.target_of-target.result (filled (g.S.Surroundings.told c.checker.result.around.now) c.target_of-target.result s i) ≡ given_kept (declared.Object o) (given_by here place (declared.Object o) p s i) = ap₂ (λ (b : Given) (t : Target). giving b t (filled (g.S.Surroundings.told c.checker.result.around.now) t s i)) c.requires.given c.target_of-target.ensures ∙ ap (λ (a : Around). given_kept (declared.Object o) (filled a (target_of o p) s i)) at ∙ ap (λ (b : Bool). given_kept (declared.Object o) (cond b (filled here.around (target_of o p) s i) (needless here s i))) (sym may) in
    record {
      found = subst (λ (x : Checked Given). Gives t (told_with c.initialiser_filled.new.given c.initialiser_filled.result) x) path c.initialiser_filled.ensures.found;
      grows = c.initialiser_filled.ensures.grows;
    }

pub returns-else-may_be_initialised : goal.returns-else-may_be_initialised
returns-else-may_be_initialised g c =
    let here = here_at c.args.scene.now.facts.now (g.S.Surroundings.told c.args.scene.now.around.now) in
    let s = seen_state c.args.state.now in
    let i = c.args.initialiser.now in
    let o = c.args.object in
    let p = c.args.part in
    let place = c.args.standing in
    let t = seen_state c.needless.new.state in
    let may : may_be_initialised place o ≡ false = cc in
    let path : needless here s i ≡ given_kept (declared.Object o) (given_by here place (declared.Object o) p s i) = sym (refused (declared.Object o) (initialiser_span i).line (looked_at here.around s i)) ∙ ap (λ (b : Bool). given_kept (declared.Object o) (cond b (filled here.around (target_of o p) s i) (needless here s i))) (sym may) in
    record {
      found = subst (λ (g : Given). Gives t (told_with g c.needless.result) (given_kept (declared.Object o) (given_by here place (declared.Object o) p s i))) (sym c.requires.given) (subst (λ (x : Checked Given). Gives t (told_with nothing_given c.needless.result) x) path c.needless.ensures.found);
      grows = c.needless.ensures.grows;
    }
