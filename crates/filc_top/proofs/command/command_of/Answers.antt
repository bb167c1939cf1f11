-- Lists of two words and of four are those words.
use Rattle.std.proofs.Common.{ℕ, List, sym, subst}
use Rattle.filc_top.specs.Commands.{IsCommandOf}
use Rattle.filc_top.proofs.Words.{of_length_two, of_length_four}
use Rattle.filc_top.proofs.command.command_of.Goals as goal

pub returns-then-words-eq2 : goal.returns-then-words-eq2
returns-then-words-eq2 c =
    subst (λ (words : List (List ℕ)). IsCommandOf words c.of_two.result) (sym (of_length_two (λ word. word.now) c.args.words.now _ c.if-words-eq2.true)) c.of_two.ensures

pub returns-then-words-eq4 : goal.returns-then-words-eq4
returns-then-words-eq4 c =
    subst (λ (words : List (List ℕ)). IsCommandOf words c.of_four.result) (sym (of_length_four (λ word. word.now) c.args.words.now _ c.if-words-eq4.true)) c.of_four.ensures
