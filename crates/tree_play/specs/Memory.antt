-- Values in memory by how they lie there, and how an assignment makes a new value of an old one.
--
-- An atomic pointer is read as any pointer is.
use Rattle.std.specs.Prelude.{ℕ, zero, suc, ◌*◌, if◌then◌else◌}
use Rattle.filc_num.specs.Integers.{convert_of}
use Rattle.filc_num.specs.declared.integer.IntType.{IntType}
use Rattle.filc_num.specs.declared.integer.IntType.TheVariants.{U8, U16, U32}
use Rattle.filc_num.specs.declared.integer.BinOp.{BinOp}
use Rattle.c_tree.specs.declared.operation.Access.{Access}
use Rattle.c_tree.specs.declared.operation.Access.TheVariants.{Integer, Pointer, Box}
use Rattle.c_tree.specs.declared.operation.Change.{Change}
use Rattle.c_tree.specs.declared.operation.Change.TheVariants as change
use Rattle.c_tree.specs.declared.operation.Unit.{Unit as CopyUnit}
use Rattle.c_tree.specs.declared.operation.Unit.TheVariants.{Byte, TwoBytes, FourBytes, Pointer as PointerUnit}
use Rattle.ideal_machine.specs.declared.value.Value.{Value}
use Rattle.ideal_machine.specs.declared.event.Operation.TheVariants.{Set}
use Rattle.ideal_machine.specs.Values.{integer}
use Rattle.ideal_machine.specs.Play.{Gives, Jump, bind}
use Rattle.ideal_machine.specs.Phrases.{Phrase, arithmetic}
use Rattle.ideal_machine.specs.Addresses.{advance, retreat}
use Rattle.ideal_machine.specs.IntAccess.{load_int, store_int, update_int, exchange_int, is_exchanged}
use Rattle.ideal_machine.specs.PointerAccess.{load_pointer, store_pointer, store_pair, swap_pair, PairExchange, exchange_pair}

-- ---- reads, stores and exchanges

abbrev pub load : (base : ℕ → ℕ) → Access → Value → (line : ℕ) → Phrase Value
load base (Integer ty) p line = load_int base ty p line
load base Pointer p line = load_pointer base p line
load base Box p line = load_pointer base p line

abbrev pub store : (base : ℕ → ℕ) → Access → Value → Value → (line : ℕ) → Phrase (Unit {0})
store base (Integer ty) p v line = store_int base ty p v line
store base Pointer p v line = store_pointer base p v line
store base Box p v line = store_pair base p v line

-- an atomic exchange gives the old value
abbrev pub swap : (base : ℕ → ℕ) → Access → Value → Value → (line : ℕ) → Phrase Value
swap base (Integer ty) p v line = update_int base ty p Set v line
swap base Pointer p v line = swap_pair base p v line
swap base Box p v line = swap_pair base p v line

-- ---- compare and exchange: the object at p, and what is expected at e

-- 1 where the exchange was made; else what was found is stored over what was expected, and it gives 0
abbrev pub after_int : (base : ℕ → ℕ) → IntType → (e expected : Value) → (line n : ℕ) → Phrase Value
after_int base ty e expected line n =
    if is_exchanged ty n expected then Gives tt (integer 1)
    else bind (store_int base ty e (integer (convert_of n ty)) line) (λ _ _. Gives tt (integer 0))

abbrev pub after_pair : (base : ℕ → ℕ) → (e : Value) → (line : ℕ) → PairExchange → Phrase Value
after_pair base e line exchange =
    if exchange.is_made then Gives tt (integer 1)
    else bind (store_pointer base e exchange.found line) (λ _ _. Gives tt (integer 0))

abbrev pub compare_pair : (base : ℕ → ℕ) → (rounds : ℕ) → (p e desired : Value) → (line : ℕ) → Phrase Value
compare_pair base rounds p e desired line =
    bind (load_pointer base e line) (λ _ expected.
    bind (exchange_pair base rounds p expected desired line) (λ _ exchange. after_pair base e line exchange))

abbrev pub compare_exchange : (base : ℕ → ℕ) → (rounds : ℕ) → Access → (p e desired : Value) → (line : ℕ) → Phrase Value
compare_exchange base rounds (Integer ty) p e desired line =
    bind (load_int base ty e line) (λ _ expected.
    bind (exchange_int base ty p expected desired line) (λ _ n. after_int base ty e expected line n))
compare_exchange base rounds Pointer p e desired line = compare_pair base rounds p e desired line
compare_exchange base rounds Box p e desired line = compare_pair base rounds p e desired line

-- ---- new values of old ones

-- an operator in one type, and its result converted to another
abbrev pub operate : BinOp → (computed to : IntType) → Value → Value → (line : ℕ) → Phrase Value
operate operator computed to old v line =
    bind (arithmetic operator computed old v line) (λ _ result. Gives tt (integer (convert_of result.number to)))

-- what a compound assignment, `++` or `--` makes of the old value and its right operand
abbrev pub new_value : Change → Value → Value → (line : ℕ) → Phrase Value
new_value (change.Integer operator computed to) old v line = operate operator computed to old v line
new_value (change.Advance bytes) old v line = Gives tt (advance old (v.number * bytes))
new_value (change.Retreat bytes) old v line = Gives tt (retreat old (v.number * bytes))

-- ---- copies of structures

-- integers of the structure's alignment, or where that is 8 pointers with both halves
abbrev pub unit_access : CopyUnit → Access
unit_access Byte = Integer U8
unit_access TwoBytes = Integer U16
unit_access FourBytes = Integer U32
unit_access PointerUnit = Pointer

abbrev pub unit_bytes : CopyUnit → ℕ
unit_bytes Byte = 1
unit_bytes TwoBytes = 2
unit_bytes FourBytes = 4
unit_bytes PointerUnit = 8

-- so many units from q to p, ascending, each read and then stored; code jumps back after each
abbrev pub copy_units : (base : ℕ → ℕ) → CopyUnit → ℕ → (p q : Value) → (line : ℕ) → Phrase (Unit {0})
copy_units base unit zero p q line = Gives tt tt
copy_units base unit (suc n) p q line =
    bind (load base (unit_access unit) q line) (λ _ v.
    bind (store base (unit_access unit) p v line) (λ _ _.
    Jump (copy_units base unit n (advance p (unit_bytes unit)) (advance q (unit_bytes unit)) line)))
