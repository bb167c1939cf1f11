-- Worked code: of statements at index 0, with two locals, so their expressions have their values in register 2. A `break`
-- goes on at 90, and a `continue` at 91.
--
-- The locals x and y are registers 0 and 1. Each row is a statement of C and its instructions, worked out by hand; a jump
-- names the index of the instruction to which it leads.
--
-- And worked examples of what plays no program: code that idles makes backward jumps that the play doesn't make.
use Rattle.std.specs.Prelude.{◌≡◌, ℕ, List, [], ◌∷◌, map, false, Some, None}
use Rattle.filc_num.specs.declared.integer.IntType.TheVariants.{I32}
use Rattle.c_tree.specs.declared.operation.Access.TheVariants as access
use Rattle.c_tree.specs.declared.operation.Operation.TheVariants as op
use Rattle.c_tree.specs.declared.stmt.LocalKind.TheVariants.{Zero, Home as HomeKind, Moved}
use Rattle.c_tree.specs.declared.stmt.Case.{Case}
use Rattle.c_tree.specs.declared.stmt.Stmt.{Stmt, BreakUnless, Break, Continue, Switch', Return as ReturnStmt, end_of-Stmt, more_of-Stmt}
use Rattle.c_tree.specs.declared.program.FunctionDef.{FunctionDef}
use Rattle.c_tree.specs.Plain.{PlainProgram, plain_program}
use Rattle.ideal_machine.specs.declared.event.Answer.TheVariants.{Done}
use Rattle.ideal_machine.specs.Values.{zero_value}
use Rattle.ideal_machine.specs.Phrases.{Start}
use Rattle.tree_play.specs.Worked.Setting.{one, number, local, empty, block_of_one, block_of_two, loop_of, if_of, local_of, set}
use Rattle.whole_code.specs.declared.op.Op.{Op}
use Rattle.whole_code.specs.declared.op.Op.TheVariants.{Const, Move, Convert, Binary, Jump, JumpZero, StoreInt, Home, Return}
use Rattle.whole_code.specs.declared.op.Instruction.{Instruction}
use Rattle.whole_code.specs.Plain.{PlainCode}
use Rattle.expr_gen.specs.Operations.{at_line}
use Rattle.stmt_gen.specs.Code.{stmt_code}
use Rattle.stmt_gen.specs.Programs.{body_code}
use Rattle.stmt_gen.specs.Correct.{PlaysOn}

abbrev pub HasOps : Stmt → List Op → Type 0
HasOps s ops = map (λ (i : Instruction). i.op) (stmt_code false s 2 0 (record { broke = 90; continued = 91 })) ≡ ops

-- ---- blocks

-- a local with a home, a parameter that is moved into its home, and a local without one
abbrev pub BlockIsCode : Type 0
BlockIsCode =
    HasOps (block_of_one (local_of 1 (HomeKind 12) ∷ local_of 0 (Moved 4 (access.Integer I32)) ∷ local_of 1 Zero ∷ []) empty)
    (Home 1 12 ∷ Home 2 4 ∷ StoreInt 2 0 5 ∷ Move 0 2 ∷ Const 1 0 ∷ [])

-- ---- control

-- if (x) break; else continue;
abbrev pub IfIsCode : Type 0
IfIsCode = HasOps (if_of (local 0) (Break 1) (Continue 1)) (Move 2 0 ∷ JumpZero 2 4 ∷ Jump 90 ∷ Jump 5 ∷ Jump 91 ∷ [])

-- while (x) y = x;
abbrev pub WhileIsCode : Type 0
WhileIsCode =
    HasOps (loop_of (block_of_two [] (BreakUnless 1 (local 0)) (set 1 (local 0))) empty)
    (Move 2 0 ∷ JumpZero 2 5 ∷ Move 2 0 ∷ Move 1 2 ∷ Jump 0 ∷ [])

-- for (;; x = y) continue;
abbrev pub ForIsCode : Type 0
ForIsCode = HasOps (loop_of (Continue 1) (set 0 (local 1))) (Jump 1 ∷ Move 2 1 ∷ Move 0 2 ∷ Jump 0 ∷ [])

-- switch ((int)x) { case 7: break; default: continue; case 9: y = x; }
abbrev pub case_at : (value statement : ℕ) → Case
case_at value statement = record { value = value; statement = statement }

abbrev pub SwitchIsCode : Type 0
SwitchIsCode =
    HasOps
    (Switch' 1 (one (op.Convert I32) (local 0)) (case_at 7 0 ∷ case_at 9 2 ∷ []) 1 (tt ∷ tt ∷ tt ∷ [])
    (more_of-Stmt (Break 1) (more_of-Stmt (Continue 1) (more_of-Stmt (set 1 (local 0)) end_of-Stmt))))
    (Move 2 0 ∷ Convert 2 2 5
    ∷ Const 3 7 ∷ Binary 3 2 3 15 8 ∷ JumpZero 3 9 ∷ Const 3 9 ∷ Binary 3 2 3 15 8 ∷ JumpZero 3 11 ∷ Jump 10
    ∷ Jump 13 ∷ Jump 91 ∷ Move 2 0 ∷ Move 1 2 ∷ [])

-- ---- returns

-- return; and return x;
abbrev pub ReturnIsCode : Type 0
ReturnIsCode =
    HasOps (ReturnStmt 1 None) (Const 2 0 ∷ Return 2 ∷ [])
    × HasOps (ReturnStmt 1 (Some (local 0))) (Move 2 0 ∷ Return 2 ∷ [])

-- a function returns 0 at its end
abbrev pub assigns : FunctionDef
assigns =
    record { line = 1; library = false; kind = 1; parameters = 2; locals = 2; values = 16; body = set 1 (local 0) }

abbrev pub FunctionIsCode : Type 0
FunctionIsCode =
    map (λ (i : Instruction). i.op) (body_code assigns) ≡ Move 2 0 ∷ Move 1 2 ∷ Const 2 0 ∷ Return 2 ∷ []

-- ---- code that idles

-- `int main(void){return 0;}`
abbrev pub returning : PlainProgram
returning =
    plain_program
    (record { line = 1; library = false; kind = 1; parameters = 0; locals = 0; values = 9; body = ReturnStmt 1 (Some (number 0)) } ∷ [])
    [] 0

abbrev pub code_of : List Instruction → PlainCode
code_of instructions = record {
  functions = record { values = 9; parameters = 0; kind = 1; instructions = instructions } ∷ [];
  statics = [];
  main = 0;
}

-- it jumps to its first instruction for ever
abbrev pub endless : List Instruction
endless = at_line false 1 (Jump 0) ∷ at_line false 1 (Const 0 0) ∷ at_line false 1 (Return 0) ∷ []

-- it jumps back once, and then does what it should
abbrev pub once_back : List Instruction
once_back =
    at_line false 1 (Jump 2) ∷ at_line false 1 (Jump 3) ∷ at_line false 1 (Jump 1) ∷ at_line false 1 (Const 0 0)
    ∷ at_line false 1 (Return 0) ∷ []

-- `main` is begun, and its exit is answered
abbrev pub main_start : Start
main_start = record { id = 0; function = 0; argument = zero_value; base = λ _. 0 }

abbrev pub EndlessCodePlaysNothing : Type 0
EndlessCodePlaysNothing = ¬ PlaysOn (code_of endless) returning main_start (Done ∷ [])

abbrev pub OneJumpMoreIsNoPlay : Type 0
OneJumpMoreIsNoPlay = ¬ PlaysOn (code_of once_back) returning main_start (Done ∷ [])
