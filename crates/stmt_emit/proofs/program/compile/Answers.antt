-- The code that was put together is the program's, with copies of its static objects.
use Rattle.std.proofs.Common.{◌≡◌, ℕ, ◌≤◌, List, length, map, take, sym, ap, ◌∙◌, subst}
use Rattle.std.proofs.lemmas.List.{take_all}
use Rattle.filc_num.specs.StaticDefs.{plain_static}
use Rattle.filc_num.specs.declared.statics.StaticDef.{StaticDef}
use Rattle.c_tree.specs.declared.program.FunctionDef.{FunctionDef}
use Rattle.c_tree.specs.Plain.{PlainProgram}
use Rattle.whole_code.specs.declared.code.CodeFunction.{CodeFunction}
use Rattle.whole_code.specs.Plain.{PlainCode, plain_function, plain_code}
use Rattle.stmt_gen.specs.Programs.{function_code}
use Rattle.stmt_emit.specs.Compiled.{IsCodeOf, Plays}
use Rattle.stmt_emit.proofs.Programs.{code_is_formed, code_plays}
use Rattle.stmt_emit.proofs.program.compile.Goals as goal

-- after the last function and the last static object
whole :
    (functions : List CodeFunction) (statics : List StaticDef) (main i k : ℕ) (fs : List FunctionDef) (ss : List StaticDef) (program : PlainProgram) →
    map plain_function functions ≡ map function_code (take i fs) → length fs ≤ i → fs ≡ program.functions →
    map plain_static statics ≡ map plain_static (take k ss) → length ss ≤ k → ss ≡ program.statics → main ≡ program.main →
    IsCodeOf (plain_code functions statics main) program
whole functions statics main i k fs ss program made past same copied behind alike begins = record {
  functions = made ∙ ap (map function_code) (take_all i fs past ∙ same);
  statics = copied ∙ ap (map plain_static) (take_all k ss behind ∙ alike);
  main = begins;
}

pub new-requires : goal.new-requires
new-requires c =
    code_is_formed _ c.args.program.now
    (whole c.loop-function.functions.items c.loop-object.statics.items c.main.result c.loop-function.function-index c.loop-object.object-index
    c.functions-function-items.result.now c.statics-object-items.result.now c.args.program.now c.loop-function.invariant c.loop-function-test.false
    c.functions-function-items.ensures.value c.loop-object.invariant c.loop-object-test.false c.statics-object-items.ensures.value c.main.ensures.value)
    c.functions-function-items.ensures.fits

pub returns-clause-plays : goal.returns-clause-plays
returns-clause-plays c =
    subst (λ (code : PlainCode). Plays code c.args.program.now) (sym c.new.ensures)
    (code_plays _ c.args.program.now
    (whole c.loop-function.functions.items c.loop-object.statics.items c.main.result c.loop-function.function-index c.loop-object.object-index
    c.functions-function-items.result.now c.statics-object-items.result.now c.args.program.now c.loop-function.invariant c.loop-function-test.false
    c.functions-function-items.ensures.value c.loop-object.invariant c.loop-object-test.false c.statics-object-items.ensures.value c.main.ensures.value)
    c.functions-function-items.ensures.fits)
