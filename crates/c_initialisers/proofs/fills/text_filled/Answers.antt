-- A text's bytes give what they do.
use Rattle.std.proofs.Common.{List, ℕ, sym, ap}
use Rattle.c_expr_rules.specs.Views.{seen_state}
use Rattle.c_check_expr.proofs.Recursion.{gives_same}
use Rattle.c_file_rules.specs.Filling.{giving, told_with}
use Rattle.c_initialisers.specs.Texts.{text_given}
use Rattle.c_initialisers.proofs.fills.text_filled.Goals as goal

pub returns : goal.returns
returns g c =
    let around = g.S.Surroundings.told c.args.checker.now.around.now in
    let s = seen_state c.args.state.now in
    let t = c.args.target.now in
    let same = λ (l : List ℕ). giving c.args.given.now t (text_given around t s c.args.span.line c.args.characters l) in
    gives_same s (told_with c.text_given.new.given c.text_given.result) _ _ (ap same (sym c.in_ok-bytes.ensures)) c.text_given.ensures
