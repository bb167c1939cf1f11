-- A worked play of `printf`: its lock is object 0. What puts out a text or a number is here a function that puts out its
-- own number and two arguments, and gives 3.
use Rattle.std.specs.Prelude.{ℕ, List, [], ◌∷◌, true, Some, None}
use Rattle.filc_num.specs.declared.reason.Reason.TheVariants.{OutputLimit}
use Rattle.c_tree.specs.declared.operation.Operation.TheVariants as op
use Rattle.c_tree.specs.declared.operation.Piece.{Piece}
use Rattle.c_tree.specs.declared.operation.Piece.TheVariants.{Byte, Out as OutPiece, Put}
use Rattle.c_tree.specs.declared.expr.Expr.{Print', end_of-Expr, more_of-Expr}
use Rattle.ideal_machine.specs.declared.value.Value.{Value}
use Rattle.ideal_machine.specs.declared.value.Half.TheVariants.{Object as ObjectHalf}
use Rattle.ideal_machine.specs.declared.event.Event.TheVariants.{Check, Lock, SetInt, Out, Input}
use Rattle.ideal_machine.specs.declared.event.Answer.TheVariants.{Granted, Refused, Done, Number}
use Rattle.ideal_machine.specs.Values.{integer, value_at}
use Rattle.ideal_machine.specs.Play.{Gives, bind}
use Rattle.ideal_machine.specs.Phrases.{Phrase, put_out}
use Rattle.tree_play.specs.Around.{TextPlay}
use Rattle.tree_play.specs.Expressions.{play_expr}
use Rattle.tree_play.specs.Worked.Setting.{leaf, static, bytes_at, around, YieldsWith, Traps}

abbrev pub three_bytes : (function line : ℕ) → List Value → Phrase Value
three_bytes f line values =
    bind (put_out (integer f) line) (λ _ _.
    bind (put_out (value_at values 0) line) (λ _ _. bind (put_out (value_at values 1) line) (λ _ _. Gives tt (integer 3))))

-- these pieces of one argument, which is taken in
abbrev pub print_play : List Piece → TextPlay Value
print_play pieces =
    play_expr (record around { call = three_bytes })
    (Print' 1 (tt ∷ tt ∷ []) (more_of-Expr (static 0) (more_of-Expr (leaf op.Input) end_of-Expr)) pieces) []

-- the argument, the lock, the pieces in their order, and the lock's release; it gives how many bytes there were
abbrev pub PrintIsLocked : Type 0
PrintIsLocked =
    YieldsWith 0 2 (print_play (Byte 97 ∷ OutPiece 1 ∷ Put 70 1 (Some 16) ∷ Put 71 1 None ∷ []))
    (Number 65 ∷ Granted ∷ Done ∷ Done ∷ Done ∷ Done ∷ Done ∷ Done ∷ Done ∷ Done ∷ Done ∷ Granted ∷ Done ∷ [])
    (Input ∷ Check (ObjectHalf 0) 65536 4 true ∷ Lock 0 0
    ∷ Out 97 ∷ Out 65 ∷ Out 70 ∷ Out 65 ∷ Out 16 ∷ Out 71 ∷ Out 65 ∷ Out 0
    ∷ Check (ObjectHalf 0) 65536 4 true ∷ SetInt (bytes_at 0 0 4) 0 ∷ []) [] (integer 8)

-- a byte for which there is no room is a trap
abbrev pub PrintIsRefused : Type 0
PrintIsRefused =
    Traps (print_play (Byte 97 ∷ [])) (Number 65 ∷ Granted ∷ Done ∷ Refused OutputLimit ∷ [])
    (Input ∷ Check (ObjectHalf 0) 65536 4 true ∷ Lock 0 0 ∷ Out 97 ∷ []) OutputLimit
