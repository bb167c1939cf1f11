-- What an instruction does: a line each.
--
-- d and w are registers that are written, and a, b, e, n and p are registers that are read. What an instruction asks of the
-- memory is a phrase, which C's text says alike; then it writes its register, and the thread goes on at the next
-- index, or where the instruction jumps. A jump that doesn't lead forward is counted, and so are calls.
--
-- An instruction that makes rounds stands where it is: it makes its check once, and each further round is a jump to itself.
use Rattle.std.specs.Prelude.{ℕ, ◌+◌, ◌*◌, ◌==◌, List, [], ◌∷◌, map, slice_get, nat_lt, Bool, true, Option, Some, None, if◌then◌else◌}
use Rattle.filc_num.specs.Integers.{convert_of}
use Rattle.filc_num.specs.declared.reason.Reason.TheVariants.{CallDepth, Abort}
use Rattle.whole_code.specs.declared.op.Op.{Op}
use Rattle.whole_code.specs.declared.op.Op.TheVariants as op
use Rattle.whole_code.specs.Plain.{PlainFunction, PlainCode}
use Rattle.whole_code.specs.Numbers.{operator_at, type_at, set_number}
use Rattle.ideal_machine.specs.declared.value.Value.{Value}
use Rattle.ideal_machine.specs.declared.event.Access.{Access}
use Rattle.ideal_machine.specs.declared.event.Operation.{Operation}
use Rattle.ideal_machine.specs.declared.event.Operation.TheVariants.{Set, Compute}
use Rattle.ideal_machine.specs.Values.{integer, put_at}
use Rattle.ideal_machine.specs.Play.{Gives, Stops, Jump, Call, Waits, bind}
use Rattle.ideal_machine.specs.Phrases.{Start, Phrase, arithmetic, exit, trap, leave, put_out, if_zero}
use Rattle.ideal_machine.specs.Addresses.{object_pointer, function_pointer, pointer_of_int, advance, distance, compare, int_of_pointer}
use Rattle.ideal_machine.specs.IntAccess.{check_access, load_int, store_int, update_int, exchange_int}
use Rattle.ideal_machine.specs.PointerAccess.{check_store, load_pointer, store_pointer, store_pair, swap_pair, PairExchange, exchange_round}
use Rattle.ideal_machine.specs.Lifetimes.{make_home, make_object, free_object, tell_size}
use Rattle.ideal_machine.specs.Threads.{lock_round, function_named, start_thread, join_thread, take_in}
use Rattle.whole_thread.specs.Standing.{Caller, Standing, room, first_registers, register, registers_from, with_register, at_index, onward, in_round}

-- how a thread of code begins: its start, and the number by which each static object is named
pub record CodeStart : Type 0 where
  pub id : ℕ
  pub function : ℕ
  pub argument : Value
  pub base : ℕ → ℕ
  pub names : ℕ → ℕ

-- in a history a static object is named by its own number
abbrev pub by_number : Start → CodeStart
by_number start =
    record { id = start.id; function = start.function; argument = start.argument; base = start.base; names = λ n. n }

-- what follows, from where a thread stands then
abbrev pub Next : Type 0
Next = Standing → Phrase ℕ

-- ---- how an instruction goes on

-- d becomes a value
abbrev pub sets : Next → Standing → (d : ℕ) → Value → Phrase ℕ
sets next at d v = next (onward (with_register at d v))

-- d becomes what a phrase gives
abbrev pub gives : Next → Standing → (d : ℕ) → Phrase Value → Phrase ℕ
gives next at d phrase = bind phrase (λ _ v. sets next at d v)

-- a phrase without a value
abbrev pub does : Next → Standing → Phrase (Unit {0}) → Phrase ℕ
does next at phrase = bind phrase (λ _ _. next (onward at))

-- on at a target; counted unless it leads forward
abbrev pub jumps : Next → Standing → (target : ℕ) → Phrase ℕ
jumps next at target = if nat_lt at.frame.index target then next (at_index at target) else Jump (next (at_index at target))

-- ---- instructions in rounds

-- the access of a round: the first makes the check, and a further one has what it granted
abbrev pub access_or : Option Access → Phrase Access → Phrase Access
access_or None check = check
access_or (Some access) check = Gives tt access

-- goes on by what a round found, or makes one more
abbrev pub found_or_again : {X : Type 0} → Next → Standing → Access → Option X → (X → Phrase ℕ) → Phrase ℕ
found_or_again next at access None go = Jump (next (in_round at access))
found_or_again next at access (Some x) go = go x

-- a round of a lock
abbrev pub locks : Next → Standing → Value → (line : ℕ) → Access → Phrase ℕ
locks next at p line access =
    bind (lock_round p access line) (λ _ taken. found_or_again next at access taken (λ _. next (onward at)))

abbrev pub made_number : Bool → ℕ
made_number made = if made then 1 else 0

-- d becomes the pointer that was found, and w whether the desired one has taken its place
abbrev pub sets_both : Next → Standing → (d w : ℕ) → PairExchange → Phrase ℕ
sets_both next at d w exchange =
    sets next (with_register at d exchange.found) w (integer (made_number exchange.is_made))

-- a round of a compare and exchange of a pointer
abbrev pub exchanges : Next → Standing → (d w : ℕ) → (expected desired : Value) → Access → Phrase ℕ
exchanges next at d w expected desired access =
    bind (exchange_round access expected desired) (λ _ exchange. found_or_again next at access exchange (sets_both next at d w))

-- what a read-modify-write makes: its operator, or it sets the value
abbrev pub operation_at : (op t u : ℕ) → Operation
operation_at op t u = if op == set_number then Set else Compute (operator_at op) (type_at t) (type_at u)

-- ---- calls

-- the type of each function
abbrev pub kinds_of : PlainCode → List ℕ
kinds_of code = map (λ (f : PlainFunction). f.kind) code.functions

-- the caller goes on behind its call
abbrev pub caller_at : Standing → (d : ℕ) → Caller
caller_at at d = record { frame = record at.frame { index = at.frame.index + 1 }; result = d }

-- before a function's first instruction
abbrev pub entering : List Caller → (function : ℕ) → (called_at : Option ℕ) → List Value → Standing
entering callers function called_at registers = record {
  callers = callers;
  frame = record { function = function; index = 0; called_at = called_at; registers = registers };
  granted = None;
}

abbrev pub enters : Next → Standing → (line d function : ℕ) → List Value → Option PlainFunction → Phrase ℕ
enters next at line d function arguments None = Stops Waits
enters next at line d function arguments (Some f) =
    next (entering (caller_at at d ∷ at.callers) function (Some line) (first_registers f arguments))

-- a call, where there is room for one more activation
abbrev pub calls : PlainCode → Next → Standing → (line d function : ℕ) → List Value → Phrase ℕ
calls code next at line d function arguments =
    Call (if_zero (room at) (trap CallDepth line) (enters next at line d function arguments (slice_get code.functions function)))

-- where a caller goes on
abbrev pub behind_call : Caller → List Caller → Value → Standing
behind_call caller callers v = record {
  callers = callers;
  frame = record caller.frame { registers = put_at caller.frame.registers caller.result v };
  granted = None;
}

-- a return goes on in the caller; that of a thread's first function ends the program, or the thread
abbrev pub returns : (main : Bool) → Next → List Caller → Value → Phrase ℕ
returns main next [] v = leave main v
returns main next (caller ∷ callers) v = next (behind_call caller callers v)

-- ---- the instructions

abbrev pub act : PlainCode → CodeStart → Next → Standing → (line : ℕ) → Op → Phrase ℕ
-- registers
act code start next at line (op.Const d constant) = sets next at d (integer constant)
act code start next at line (op.Move d a) = sets next at d (register at a)
act code start next at line (op.StaticAt d n) = sets next at d (object_pointer start.base (start.names n))
act code start next at line (op.FunctionAt d f) = sets next at d (function_pointer f)
-- integers
act code start next at line (op.Convert d a t) = sets next at d (integer (convert_of (register at a).number (type_at t)))
act code start next at line (op.Binary d a b o t) =
    gives next at d (arithmetic (operator_at o) (type_at t) (register at a) (register at b) line)
-- pointers that move, and pointers that are looked at
act code start next at line (op.PointerAdd d a b bytes) = sets next at d (advance (register at a) ((register at b).number * bytes))
act code start next at line (op.PointerSub d a b bytes) = gives next at d (distance bytes (register at a) (register at b))
act code start next at line (op.PointerCompare d a b o) = gives next at d (compare (operator_at o) (register at a) (register at b) line)
act code start next at line (op.ToInteger d a t) = gives next at d (int_of_pointer (type_at t) (register at a))
act code start next at line (op.ToPointer d a) = sets next at d (pointer_of_int (register at a))
-- control
act code start next at line (op.Jump target) = jumps next at target
act code start next at line (op.JumpZero a target) = if_zero (register at a).number (jumps next at target) (next (onward at))
act code start next at line op.Poll = next (onward at)
-- objects
act code start next at line (op.Home d bytes) = gives next at d (make_home bytes line)
act code start next at line (op.New d a) = gives next at d (make_object (register at a))
act code start next at line (op.Free a) = does next at (free_object (register at a) line)
act code start next at line (op.Size d a) = gives next at d (tell_size (register at a) line)
-- integers in memory
act code start next at line (op.LoadInt d p t) = gives next at d (load_int start.base (type_at t) (register at p) line)
act code start next at line (op.StoreInt p a t) = does next at (store_int start.base (type_at t) (register at p) (register at a) line)
act code start next at line (op.RmwInt d p a o t u) =
    gives next at d (update_int start.base (type_at t) (register at p) (operation_at o t u) (register at a) line)
act code start next at line (op.CasInt d p e n t) =
    bind (exchange_int start.base (type_at t) (register at p) (register at e) (register at n) line) (λ _ found. sets next at d (integer found))
act code start next at line (op.Lock p) =
    bind (access_or at.granted (check_access start.base (register at p) 4 true line)) (λ _ access. locks next at (register at p) line access)
-- pointers in memory
act code start next at line (op.LoadPointer d p) = gives next at d (load_pointer start.base (register at p) line)
act code start next at line (op.StorePointer p a) = does next at (store_pointer start.base (register at p) (register at a) line)
act code start next at line (op.BoxStore p a) = does next at (store_pair start.base (register at p) (register at a) line)
act code start next at line (op.BoxSwap d p a) = gives next at d (swap_pair start.base (register at p) (register at a) line)
act code start next at line (op.BoxCas d w p e n) =
    bind (access_or at.granted (check_store start.base (register at p) line)) (λ _ access. exchanges next at d w (register at e) (register at n) access)
-- calls
act code start next at line (op.Call d f first count) = calls code next at line d f (registers_from at first count)
act code start next at line (op.CallPointer d a first count kind) =
    bind (function_named (kinds_of code) kind (register at a) line) (λ _ f. calls code next at line d f (registers_from at first count))
act code start next at line (op.Return a) = returns (start.function == code.main) next at.callers (register at a)
-- output and input
act code start next at line (op.Out a) = does next at (put_out (register at a) line)
act code start next at line (op.Input d) = gives next at d take_in
-- threads and ends
act code start next at line (op.Spawn d a b) = gives next at d (start_thread (kinds_of code) (register at a) (register at b) line)
act code start next at line (op.Join d a) = gives next at d (join_thread (register at a))
act code start next at line (op.SelfId d) = sets next at d (integer start.id)
act code start next at line (op.Exit a) = exit (register at a)
act code start next at line op.Abort = trap Abort line
