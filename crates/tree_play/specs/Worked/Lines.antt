-- Worked plays of the lines of traps.
use Rattle.std.specs.Prelude.{◌≡◌, ℕ, List, [], ◌∷◌, true, false, Some, None}
use Rattle.filc_num.specs.declared.integer.IntType.TheVariants.{I8, I32}
use Rattle.filc_num.specs.declared.integer.BinOp.TheVariants.{Div}
use Rattle.filc_num.specs.declared.reason.Reason.TheVariants.{NoCapability, NoCell, OutputLimit, Divide, CallDepth}
use Rattle.c_tree.specs.declared.operation.Operation.{Operation}
use Rattle.c_tree.specs.declared.operation.Operation.TheVariants as op
use Rattle.c_tree.specs.declared.operation.Access.TheVariants.{Integer}
use Rattle.c_tree.specs.declared.operation.Piece.{Piece}
use Rattle.c_tree.specs.declared.operation.Piece.TheVariants.{Byte, Put}
use Rattle.c_tree.specs.declared.stmt.LocalKind.TheVariants.{Zero, Home}
use Rattle.c_tree.specs.declared.expr.Expr.{Expr, Apply', Chain', Print', end_of-Expr, more_of-Expr, end_of-Link, more_of-Link}
use Rattle.c_tree.specs.declared.program.FunctionDef.{FunctionDef}
use Rattle.ideal_machine.specs.declared.value.Half.TheVariants.{Nothing, Object as ObjectHalf}
use Rattle.ideal_machine.specs.declared.finish.Finish.TheVariants.{Trapped}
use Rattle.ideal_machine.specs.declared.event.Event.TheVariants.{Check, New, Lock, Out, Trap}
use Rattle.ideal_machine.specs.declared.event.Answer.TheVariants.{Granted, Refused, Done, Absent}
use Rattle.ideal_machine.specs.Values.{integer}
use Rattle.ideal_machine.specs.Play.{Finished, Ends, fresh_log, run}
use Rattle.ideal_machine.specs.Phrases.{Start, trap}
use Rattle.tree_play.specs.Around.{Around}
use Rattle.tree_play.specs.Expressions.{play_expr}
use Rattle.tree_play.specs.Statements.{play_stmt}
use Rattle.tree_play.specs.TreePlay.{call_within}
use Rattle.tree_play.specs.Worked.Setting.{around, one, number, local, static, Traps, expr_play, empty, block_of_one, local_of, set}
use Rattle.tree_play.specs.Worked.Programs.{program_of, function_of, thread_of, EndsWith, main_of, returns}

-- an operation on one or two operands, at a line
abbrev pub one_at : (line : ℕ) → Operation → Expr → Expr
one_at line o a = Apply' line o (tt ∷ []) (more_of-Expr a end_of-Expr)

abbrev pub two_at : (line : ℕ) → Operation → Expr → Expr → Expr
two_at line o a b = Apply' line o (tt ∷ tt ∷ []) (more_of-Expr a (more_of-Expr b end_of-Expr))

-- `int main(void){int x=0;` and on line 2 `x=5/x;`: a division by 0, at its line
abbrev pub DivisionHasItsLine : Type 0
DivisionHasItsLine =
    EndsWith
    (thread_of (main_of (block_of_one (local_of 0 Zero ∷ []) (set 0 (two_at 2 (op.Binary Div I32) (number 5) (local 0)))) ∷ []) 0 (integer 0) (Done ∷ []))
    (Trap Divide 2 ∷ []) 0 (Trapped Divide 2)

-- a chain reads the int at what stands before its link; the link has the chain's line, and what stands before it its own
abbrev pub reads_behind : (line : ℕ) → Expr → Expr
reads_behind line e =
    Chain' line _ (more_of-Expr e end_of-Expr) (tt ∷ []) (more_of-Link (op.Load (Integer I32)) [] end_of-Expr end_of-Link)

abbrev pub LinkHasTheChainsLine : Type 0
LinkHasTheChainsLine =
    Traps (expr_play (reads_behind 1 (Apply' 7 (op.Number 8) [] end_of-Expr)) []) (Refused NoCapability ∷ []) (Check Nothing 8 4 false ∷ [])
    NoCapability
    × Traps (expr_play (reads_behind 7 (one_at 1 (op.Load (Integer I32)) (number 8))) []) (Refused NoCapability ∷ [])
    (Check Nothing 8 4 false ∷ []) NoCapability

-- ---- headers

-- in a header's text that was called at line 1, a link, a home and a byte of printf trap there, and not at their line 7
abbrev pub in_header : Around
in_header = record around { user_line = Some 1 }

abbrev pub prints_at : (line : ℕ) → List Piece → Expr
prints_at line pieces = Print' line (tt ∷ []) (more_of-Expr (static 0) end_of-Expr) pieces

abbrev pub HeaderHasTheUsersLine : Type 0
HeaderHasTheUsersLine =
    Traps (play_expr in_header (reads_behind 7 (number 8)) []) (Refused NoCapability ∷ []) (Check Nothing 8 4 false ∷ []) NoCapability
    × Traps (play_stmt in_header (block_of_one (record { line = 7; local = 0; kind = Home 4 } ∷ []) empty) []) (Absent ∷ [])
    (New 4 1 ∷ []) NoCell
    × Traps (play_expr in_header (prints_at 7 (Byte 97 ∷ [])) []) (Granted ∷ Done ∷ Refused OutputLimit ∷ [])
    (Check (ObjectHalf 0) 65536 4 true ∷ Lock 0 0 ∷ Out 97 ∷ []) OutputLimit

-- so does what printf calls, where there is no room for it
abbrev pub PrintingCallHasTheUsersLine : Type 0
PrintingCallHasTheUsersLine =
    run (play_expr (record in_header { call = λ _ line _. trap CallDepth line }) (prints_at 7 (Put 70 0 None ∷ [])) [])
    (fresh_log (Granted ∷ Done ∷ Done ∷ []))
    ≡ Ends (Finished (Trapped CallDepth 1))
    (record {
      answers = [];
      events = Check (ObjectHalf 0) 65536 4 true ∷ Lock 0 0 ∷ Trap CallDepth 1 ∷ [];
      jumps = 0;
      calls = 1;
    })

-- a function whose text is on line 1 reads the char at its argument
abbrev pub reads : Expr
reads = one (op.Load (Integer I8)) (local 0)

-- in the user's text it traps there; in a header's text at the line of the user's call, which is 3
abbrev pub LibraryHasTheUsersLine : Type 0
LibraryHasTheUsersLine =
    EndsWith
    (thread_of (main_of (returns (one_at 3 (op.Call 1) (number 0))) ∷ function_of false 2 1 (returns reads) ∷ []) 0 (integer 0)
    (Refused NoCapability ∷ Done ∷ []))
    (Check Nothing 0 1 false ∷ Trap NoCapability 1 ∷ []) 1 (Trapped NoCapability 1)
    × EndsWith
    (thread_of (main_of (returns (one_at 3 (op.Call 1) (number 0))) ∷ function_of true 2 1 (returns reads) ∷ []) 0 (integer 0)
    (Refused NoCapability ∷ Done ∷ []))
    (Check Nothing 0 1 false ∷ Trap NoCapability 3 ∷ []) 1 (Trapped NoCapability 3)

-- so also where one function of a header calls another
abbrev pub calls_further : FunctionDef
calls_further = function_of true 2 1 (returns (one_at 2 (op.Call 2) (local 0)))

abbrev pub LibraryCallsFurther : Type 0
LibraryCallsFurther =
    EndsWith
    (thread_of (main_of (returns (one_at 3 (op.Call 1) (number 0))) ∷ calls_further ∷ function_of true 2 1 (returns reads) ∷ []) 0 (integer 0)
    (Refused NoCapability ∷ Done ∷ []))
    (Check Nothing 0 1 false ∷ Trap NoCapability 3 ∷ []) 2 (Trapped NoCapability 3)

-- the user's function that a header's text calls has its own line, which is 5, and so has what that calls in a header
abbrev pub HeaderCallsTheUser : Type 0
HeaderCallsTheUser =
    EndsWith
    (thread_of
    (main_of (returns (one_at 3 (op.Call 1) (number 0))) ∷ calls_further
    ∷ function_of false 2 1 (returns (one_at 5 (op.Load (Integer I8)) (local 0))) ∷ []) 0 (integer 0)
    (Refused NoCapability ∷ Done ∷ []))
    (Check Nothing 0 1 false ∷ Trap NoCapability 5 ∷ []) 2 (Trapped NoCapability 5)
    × EndsWith
    (thread_of
    (main_of (returns (one_at 3 (op.Call 1) (number 0))) ∷ calls_further
    ∷ function_of false 2 1 (returns (one_at 5 (op.Call 3) (local 0))) ∷ function_of true 2 1 (returns reads) ∷ []) 0 (integer 0)
    (Refused NoCapability ∷ Done ∷ []))
    (Check Nothing 0 1 false ∷ Trap NoCapability 5 ∷ []) 3 (Trapped NoCapability 5)

-- a thread's first function has no user's call: the text of a header has the line of its `#include`
abbrev pub FirstFunctionHasItsLine : Type 0
FirstFunctionHasItsLine =
    EndsWith (thread_of (main_of empty ∷ function_of true 0 1 (returns reads) ∷ []) 1 (integer 0) (Refused NoCapability ∷ Done ∷ []))
    (Check Nothing 0 1 false ∷ Trap NoCapability 1 ∷ []) 0 (Trapped NoCapability 1)

-- a call for which there is no room traps at its line, which is the user's where a header's text makes it
abbrev pub DepthHasTheUsersLine : Type 0
DepthHasTheUsersLine =
    (n : ℕ) (start : Start) →
    run
    (call_within 1 n (program_of (main_of empty ∷ calls_further ∷ function_of true 2 1 (returns reads) ∷ [])) start 1 3
    (integer 0 ∷ []))
    (fresh_log (Done ∷ []))
    ≡ Ends (Finished (Trapped CallDepth 3)) (record { answers = []; events = Trap CallDepth 3 ∷ []; jumps = 0; calls = 1 })
