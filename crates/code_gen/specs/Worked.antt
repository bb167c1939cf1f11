-- Worked examples of what plays no program: code that idles makes backward jumps that the play doesn't make.
use Rattle.std.specs.Prelude.{List, [], ◌∷◌}
use Rattle.filc_num.specs.declared.integer.IntType.TheVariants.{I32}
use Rattle.form_tree.specs.declared.expr.Expr.TheVariants as expr
use Rattle.form_tree.specs.declared.stmt.Stmt.TheVariants as stmt
use Rattle.form_tree.specs.Plain.{PlainProgram, plain_program}
use Rattle.filc_code.specs.declared.op.Instruction.{Instruction}
use Rattle.filc_code.specs.declared.op.Op.TheVariants.{Const, Jump, Return}
use Rattle.filc_code.specs.Plain.{PlainCode}
use Rattle.code_gen.specs.Code.{at_line}
use Rattle.code_gen.specs.Correct.{Plays}

-- `int main(void){return 0;}`
abbrev pub returning : PlainProgram
returning = plain_program (record { line = 1; locals = 0; body = stmt.Return 1 (expr.Number 1 I32 0) } ∷ []) 0

abbrev pub code_of : List Instruction → PlainCode
code_of instructions =
    record { functions = record { values = 9; parameters = 0; kind = 1; instructions = instructions } ∷ []; main = 0 }

-- it jumps to its first instruction for ever
abbrev pub endless : List Instruction
endless = at_line 1 (Jump 0) ∷ (at_line 1 (Const 0 0) ∷ (at_line 1 (Return 0) ∷ []))

-- it jumps back once, and then does what it should
abbrev pub once_back : List Instruction
once_back =
    at_line 1 (Jump 2) ∷ (at_line 1 (Jump 3) ∷ (at_line 1 (Jump 1) ∷ (at_line 1 (Const 0 0) ∷ (at_line 1 (Return 0) ∷ []))))

abbrev pub EndlessCodePlaysNothing : Type 0
EndlessCodePlaysNothing = ¬ Plays (code_of endless) returning

abbrev pub OneJumpMoreIsNoPlay : Type 0
OneJumpMoreIsNoPlay = ¬ Plays (code_of once_back) returning
