-- The laws: each follows from what one part of a program keeps.
use Rattle.std.proofs.Common.{◌≡◌, ◌∙◌, ap, subst, Option, IsSomeAnd}
use Rattle.std.proofs.lemmas.Bool.{false≢true}
use Rattle.std.proofs.lemmas.Option.{slice_get-map}
use Rattle.std.specs.Option.{option_map}
use Rattle.c_tree.specs.declared.stmt.Stmt.{Stmt}
use Rattle.c_tree.specs.Operands.{Callee}
use Rattle.c_tree.specs.Fits.{callee_of, StmtFits, body_context}
use Rattle.program_fits.specs.Laws.{CallsHaveTheirArguments, HomesAreNotSet, BreakNeedsALoop}

pub calls_have_their_arguments : CallsHaveTheirArguments
calls_have_their_arguments program here number n f is fits =
    let same = slice_get-map callee_of program.functions number ∙ ap (option_map callee_of) is in
    subst (λ (o : Option Callee). IsSomeAnd o (λ c. n ≡ c.parameters)) same fits

pub homes_are_not_set : HomesAreNotSet
homes_are_not_set o here local n home fits = fits.1.1 home

pub break_needs_a_loop : BreakNeedsALoop
break_needs_a_loop o f line is fits = false≢true (subst (λ (s : Stmt). StmtFits o (body_context f) s) is fits.body)
