-- The code that was put together is the program's, and so it is well formed and plays it.
use Rattle.std.proofs.Common.{◌≡◌, ◌≤◌, ℕ, List, length, take, sym, ap, ◌∙◌, subst}
use Rattle.std.proofs.lemmas.List.{take_all}
use Rattle.std.specs.Prelude.{map}
use Rattle.form_tree.specs.declared.program.FunctionDef.{FunctionDef}
use Rattle.form_tree.specs.Plain.{PlainProgram}
use Rattle.filc_code.specs.declared.code.CodeFunction.{CodeFunction}
use Rattle.filc_code.specs.Plain.{plain_function, plain_code, PlainCode}
use Rattle.filc_code.specs.WellFormed.{IsWellFormed}
use Rattle.code_gen.specs.Code.{function_code, program_code}
use Rattle.code_gen.specs.Correct.{Plays}
use Rattle.code_gen.proofs.Formed.{program_formed}
use Rattle.code_gen.proofs.Program.{code_plays}
use Rattle.code_gen.proofs.compile.Goals as goal

-- after the last function
whole :
    (made : List CodeFunction) (items : List FunctionDef) (i main : ℕ) (program : PlainProgram) →
    map plain_function made ≡ map function_code (take i items) → length items ≤ i → items ≡ program.functions → main ≡ program.main →
    plain_code made main ≡ program_code program
whole made items i main program e past same_items same_main =
    let functions = e ∙ ap (λ l. map function_code l) (take_all i items past ∙ same_items) in
    λ j. record { functions = functions j; main = same_main j }

pub new-requires : goal.new-requires
new-requires c =
    subst IsWellFormed
    (sym (whole c.loop-function.functions.items c.functions-function-items.result.now c.loop-function.function-index c.main.result c.args.program.now
    c.loop-function.invariant c.loop-function-test.false c.functions-function-items.ensures.value c.main.ensures.value))
    (program_formed c.args.program.now c.functions-function-items.ensures.fits)

pub returns-clause-plays : goal.returns-clause-plays
returns-clause-plays c =
    subst (λ (code : PlainCode). Plays code c.args.program.now)
    (sym (c.new.ensures ∙ whole c.loop-function.functions.items c.functions-function-items.result.now c.loop-function.function-index c.main.result c.args.program.now
    c.loop-function.invariant c.loop-function-test.false c.functions-function-items.ensures.value c.main.ensures.value))
    (code_plays c.args.program.now c.functions-function-items.ensures.fits)
