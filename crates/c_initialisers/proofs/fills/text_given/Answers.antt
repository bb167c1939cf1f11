-- A text's characters are given where it breaks no rule.
use Rattle.std.proofs.Common.{List, ℕ, refl, ap, ◌∙◌}
use Rattle.c_expr_rules.specs.TypedExpressions.{type_at}
use Rattle.c_expr_rules.specs.Views.{seen_state}
use Rattle.c_expr_rules.specs.declared.found.Found.TheVariants as found
use Rattle.c_file_rules.specs.Filling.{bytes_kept}
use Rattle.c_file_rules.specs.Initialising.{then_given, parts_of, bytes_given}
use Rattle.c_initialisers.specs.Texts.{text_rules}
use Rattle.c_initialisers.proofs.Told.{rules_told}
use Rattle.c_initialisers.proofs.fills.text_given.Goals as goal

pub returns-in_ok-give_bytes-in-Fine : goal.returns-in_ok-give_bytes-in-Fine
returns-in_ok-give_bytes-in-Fine g c =
    let around = g.S.Surroundings.told c.args.checker.now.around.now in
    let s = seen_state c.args.state.now in
    let t = c.args.target.now in
    let line = c.args.line in
    let kind = c.args.characters.0 in
    let text = c.args.bytes.now in
    let given = λ (l : List ℕ). then_given c.args.given.now (bytes_kept around line s t kind l) in
    rules_told c.args.given.now c.give_bytes.new.given (bytes_given around line s t kind (parts_of s (type_at s t.part.number)) text) t line s
    (c.in_ok-give_bytes-in-Fine.ensures ∙ ap given c.as_slice-bytes.ensures)
    (text_rules c.args.characters.1 text) (refl, (refl, tt)) (found.Fine tt) (c.in-Fine.ensures s)

pub returns-in-Breaks : goal.returns-in-Breaks
returns-in-Breaks g c =
    let around = g.S.Surroundings.told c.args.checker.now.around.now in
    let s = seen_state c.args.state.now in
    let t = c.args.target.now in
    let line = c.args.line in
    let kind = c.args.characters.0 in
    let text = c.args.bytes.now in
    let given = then_given c.args.given.now (bytes_kept around line s t kind text) in
    rules_told c.args.given.now given (bytes_given around line s t kind (parts_of s (type_at s t.part.number)) text) t line s refl
    (text_rules c.args.characters.1 text) (refl, (refl, tt)) (found.Breaks c.in-Breaks.broken c.in-Breaks.known) (c.in-Breaks.ensures s)
