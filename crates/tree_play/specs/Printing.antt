-- What `printf` does when its operands are there.
--
-- The first operand is the lock of the output, and the others are the arguments behind the format. `printf` takes the lock, puts
-- out each piece, sets the lock to 0 and gives the number of bytes as an int. It stands in place: only the library
-- functions that put out a text or a number are called.
use Rattle.std.specs.Prelude.{ℕ, List, [], ◌∷◌, Option, Some, None}
use Rattle.filc_num.specs.declared.integer.IntType.TheVariants.{I32}
use Rattle.filc_num.specs.declared.integer.BinOp.TheVariants.{Add}
use Rattle.c_tree.specs.declared.operation.Piece.{Piece}
use Rattle.c_tree.specs.declared.operation.Piece.TheVariants.{Byte, Out, Put}
use Rattle.ideal_machine.specs.declared.value.Value.{Value}
use Rattle.ideal_machine.specs.Values.{integer, value_at}
use Rattle.ideal_machine.specs.Play.{Gives, Stops, Call, Waits, bind}
use Rattle.ideal_machine.specs.Phrases.{Phrase, arithmetic, put_out}
use Rattle.ideal_machine.specs.IntAccess.{store_int}
use Rattle.ideal_machine.specs.Threads.{take_lock}
use Rattle.tree_play.specs.Around.{Around}

-- the arguments of what puts out a text or a number: it, and its radix where it has one
abbrev pub put_arguments : Value → Option ℕ → List Value
put_arguments v None = v ∷ []
put_arguments v (Some radix) = v ∷ integer radix ∷ []

-- a piece; gives how many bytes it has
abbrev pub put_piece : Around → List Value → (line : ℕ) → Piece → Phrase Value
put_piece around values line (Byte byte) = bind (put_out (integer byte) line) (λ _ _. Gives tt (integer 1))
put_piece around values line (Out operand) = bind (put_out (value_at values operand) line) (λ _ _. Gives tt (integer 1))
put_piece around values line (Put f operand radix) =
    Call (around.call f line (put_arguments (value_at values operand) radix))

-- pieces, after so many bytes
abbrev pub put_pieces : Around → List Value → (line : ℕ) → List Piece → Value → Phrase Value
put_pieces around values line [] count = Gives tt count
put_pieces around values line (piece ∷ pieces) count =
    bind (put_piece around values line piece) (λ _ bytes.
    bind (arithmetic Add I32 count bytes line) (λ _ total. put_pieces around values line pieces total))

abbrev pub print : Around → List Piece → (line : ℕ) → List Value → Phrase Value
print around pieces line [] = Stops Waits
print around pieces line (lock ∷ arguments) =
    bind (take_lock around.base around.rounds lock line) (λ _ _.
    bind (put_pieces around (lock ∷ arguments) line pieces (integer 0)) (λ _ count.
    bind (store_int around.base I32 lock (integer 0) line) (λ _ _. Gives tt count)))
