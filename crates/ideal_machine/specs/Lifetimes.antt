-- Objects that are made and freed: what is asked for each.
--
--     home            New of kind 1; where there is no object, a trap for want of a cell
--     __filc_new      New of kind 0; a null pointer where there is none
--     __filc_free     Void, but nothing for address 0
--     __filc_size     Size
--
-- A home is not voided when its block is left.
use Rattle.std.specs.Prelude.{ℕ, Option, Some, None, Result, Ok, Err}
use Rattle.filc_num.specs.declared.reason.Reason.{Reason}
use Rattle.filc_num.specs.declared.reason.Reason.TheVariants.{NoCell}
use Rattle.ideal_machine.specs.declared.value.Half.TheVariants.{Object as ObjectHalf}
use Rattle.ideal_machine.specs.declared.value.Value.{Value}
use Rattle.ideal_machine.specs.declared.event.Event.TheVariants.{New, Void, Size}
use Rattle.ideal_machine.specs.Memory.{malloc_kind, home_kind}
use Rattle.ideal_machine.specs.Values.{integer}
use Rattle.ideal_machine.specs.Queries.{Makes, NewObject}
use Rattle.ideal_machine.specs.Play.{Gives, Asks, bind}
use Rattle.ideal_machine.specs.Phrases.{Phrase, trap, unless_refused, if_zero}
use Rattle.ideal_machine.specs.Retries.{ask}

-- the pointer to a new object
abbrev pub pointer_to : NewObject → Value
pointer_to made = record { number = made.address; half = ObjectHalf made.object }

-- the home of a local: an object of so many bytes, all zero
abbrev pub home_or_trap : ℕ → Option NewObject → Phrase Value
home_or_trap line None = trap NoCell line
home_or_trap line (Some made) = Gives tt (pointer_to made)

abbrev pub make_home : (bytes line : ℕ) → Phrase Value
make_home bytes line = bind (ask (New bytes home_kind)) (λ _ made. home_or_trap line made)

-- an object of so many bytes, all zero
abbrev pub object_or_null : Option NewObject → Value
object_or_null None = integer 0
object_or_null (Some made) = pointer_to made

abbrev pub make_object : Value → Phrase Value
make_object bytes = bind (ask (New bytes.number malloc_kind)) (λ _ made. Gives tt (object_or_null made))

abbrev pub free_object : Value → (line : ℕ) → Phrase (Unit {0})
free_object p line =
    if_zero p.number (Gives tt tt) (Asks (Makes (Void p.half p.number)) (unless_refused line (Gives tt tt)))

-- how many bytes an object has
abbrev pub size_or_trap : ℕ → Result ℕ Reason → Phrase Value
size_or_trap line (Ok bytes) = Gives tt (integer bytes)
size_or_trap line (Err reason) = trap reason line

abbrev pub tell_size : Value → (line : ℕ) → Phrase Value
tell_size p line = bind (ask (Size p.half p.number)) (λ _ size. size_or_trap line size)
