-- Code of fewer instructions is a cut of that of more.
use Rattle.std.proofs.Common.{ℕ, zero, suc, ◌≤◌, List, [], ◌∷◌, Option, Some, None, Bool, true, false, refl, arith}
use Rattle.std.specs.Prelude.{slice_get, nat_lt, ◌==◌, if◌then◌else◌}
use Rattle.filc_num.specs.declared.reason.Reason.TheVariants.{CallDepth, Abort}
use Rattle.whole_code.specs.declared.op.Op.{Op}
use Rattle.whole_code.specs.declared.op.Op.TheVariants as op
use Rattle.whole_code.specs.declared.op.Instruction.{Instruction}
use Rattle.whole_code.specs.Plain.{PlainFunction, PlainCode, instruction_at}
use Rattle.whole_code.specs.Numbers.{operator_at, type_at}
use Rattle.ideal_machine.specs.declared.value.Value.{Value}
use Rattle.ideal_machine.specs.declared.event.Access.{Access}
use Rattle.ideal_machine.specs.Values.{integer}
use Rattle.ideal_machine.specs.Play.{Jump, bind}
use Rattle.ideal_machine.specs.Phrases.{Phrase, arithmetic, exit, trap, leave, put_out, if_zero}
use Rattle.ideal_machine.specs.Addresses.{distance, compare, int_of_pointer}
use Rattle.ideal_machine.specs.IntAccess.{check_access, load_int, store_int, update_int, exchange_int}
use Rattle.ideal_machine.specs.PointerAccess.{PairExchange, check_store, load_pointer, store_pointer, store_pair, swap_pair, exchange_round}
use Rattle.ideal_machine.specs.Lifetimes.{make_home, make_object, free_object, tell_size}
use Rattle.ideal_machine.specs.Threads.{lock_round, function_named, start_thread, join_thread, take_in}
use Rattle.ideal_machine.proofs.Cuts.{IsCutOf, cut_self, bind_cut, zero_cut}
use Rattle.whole_thread.specs.Standing.{Caller, Standing, room, register, registers_from, with_register, onward, at_index, in_round, trap_line}
use Rattle.whole_thread.specs.Act.{CodeStart, Next, sets, gives, does, jumps, access_or, found_or_again, locks, sets_both, exchanges, operation_at, kinds_of, enters, calls, returns, act}
use Rattle.whole_thread.specs.CodePlay.{act_at, exec, exec_first, code_play}

-- wherever they begin
abbrev AreCuts : Next → Next → Type 0
AreCuts next next' = (at : Standing) → IsCutOf (next at) (next' at)

-- a phrase that both say, and what follows it
phrase_cut : {X : Type 0} (p : Phrase X) (go go' : X → Phrase ℕ) → ((x : X) → IsCutOf (go x) (go' x)) → IsCutOf (bind p (λ _ x. go x)) (bind p (λ _ x. go' x))
phrase_cut p go go' h = bind_cut p p (λ _ x. go x) (λ _ x. go' x) (cut_self p) (λ _ x. h x)

module _ (next next' : Next) (h : AreCuts next next') (at : Standing) where
  sets_cut : (d : ℕ) (v : Value) → IsCutOf (sets next at d v) (sets next' at d v)
  sets_cut d v = h (onward (with_register at d v))

  gives_cut : (d : ℕ) (p : Phrase Value) → IsCutOf (gives next at d p) (gives next' at d p)
  gives_cut d p = phrase_cut p (λ v. sets next at d v) (λ v. sets next' at d v) (λ v. sets_cut d v)

  does_cut : (p : Phrase (Unit {0})) → IsCutOf (does next at p) (does next' at p)
  does_cut p = phrase_cut p (λ _. next (onward at)) (λ _. next' (onward at)) (λ _. h (onward at))

  jumps_cut : (target : ℕ) → IsCutOf (jumps next at target) (jumps next' at target)
  jumps_cut target = chosen (nat_lt at.frame.index target) where
    chosen : (b : Bool) → IsCutOf (if b then next (at_index at target) else Jump (next (at_index at target))) (if b then next' (at_index at target) else Jump (next' (at_index at target)))
    chosen true = h (at_index at target)
    chosen false = (next' (at_index at target), refl, h (at_index at target))

  -- a round that found something goes on, and another is made once more
  round_cut :
      {X : Type 0} (access : Access) (o : Option X) (go go' : X → Phrase ℕ) → ((x : X) → IsCutOf (go x) (go' x)) →
      IsCutOf (found_or_again next at access o go) (found_or_again next' at access o go')
  round_cut access None go go' each = (next' (in_round at access), refl, h (in_round at access))
  round_cut access (Some x) go go' each = each x

  locks_cut : (p : Value) (line : ℕ) (access : Access) → IsCutOf (locks next at p line access) (locks next' at p line access)
  locks_cut p line access =
      phrase_cut (lock_round p access line) (λ taken. found_or_again next at access taken (λ _. next (onward at))) (λ taken. found_or_again next' at access taken (λ _. next' (onward at)))
      (λ taken. round_cut access taken (λ _. next (onward at)) (λ _. next' (onward at)) (λ _. h (onward at)))

  both_cut : (d w : ℕ) (x : PairExchange) → IsCutOf (sets_both next at d w x) (sets_both next' at d w x)
  both_cut d w x = h _

  exchanges_cut :
      (d w : ℕ) (expected desired : Value) (access : Access) → IsCutOf (exchanges next at d w expected desired access) (exchanges next' at d w expected desired access)
  exchanges_cut d w expected desired access =
      phrase_cut (exchange_round access expected desired) (λ x. found_or_again next at access x (sets_both next at d w)) (λ x. found_or_again next' at access x (sets_both next' at d w))
      (λ x. round_cut access x (sets_both next at d w) (sets_both next' at d w) (both_cut d w))

  enters_cut :
      (line d function : ℕ) (arguments : List Value) (o : Option PlainFunction) →
      IsCutOf (enters next at line d function arguments o) (enters next' at line d function arguments o)
  enters_cut line d function arguments None = refl
  enters_cut line d function arguments (Some f) = h _

  calls_cut :
      (code : PlainCode) (line d function : ℕ) (arguments : List Value) →
      IsCutOf (calls code next at line d function arguments) (calls code next' at line d function arguments)
  calls_cut code line d function arguments =
      let o = slice_get code.functions function in (
        if_zero (room at) (trap CallDepth line) (enters next' at line d function arguments o),
        refl,
        zero_cut (room at) (trap CallDepth line) (enters next at line d function arguments o) (trap CallDepth line) (enters next' at line d function arguments o)
            (cut_self (trap CallDepth line)) (enters_cut line d function arguments o),
      )

returns_cut : (main : Bool) (next next' : Next) → AreCuts next next' → (callers : List Caller) (v : Value) → IsCutOf (returns main next callers v) (returns main next' callers v)
returns_cut main next next' h [] v = cut_self (leave main v)
returns_cut main next next' h (caller ∷ callers) v = h _

module _ (code : PlainCode) (start : CodeStart) (next next' : Next) (h : AreCuts next next') (at : Standing) where
  act_cut : (line : ℕ) (o : Op) → IsCutOf (act code start next at line o) (act code start next' at line o)
  act_cut line (op.Const d n) = h _
  act_cut line (op.Move d a) = h _
  act_cut line (op.StaticAt d n) = h _
  act_cut line (op.FunctionAt d f) = h _
  act_cut line (op.Convert d a t) = h _
  act_cut line (op.Binary d a b o t) = gives_cut next next' h at d (arithmetic (operator_at o) (type_at t) (register at a) (register at b) line)
  act_cut line (op.PointerAdd d a b bytes) = h _
  act_cut line (op.PointerSub d a b bytes) = gives_cut next next' h at d (distance bytes (register at a) (register at b))
  act_cut line (op.PointerCompare d a b o) = gives_cut next next' h at d (compare (operator_at o) (register at a) (register at b) line)
  act_cut line (op.ToInteger d a t) = gives_cut next next' h at d (int_of_pointer (type_at t) (register at a))
  act_cut line (op.ToPointer d a) = h _
  act_cut line (op.Jump target) = jumps_cut next next' h at target
  act_cut line (op.JumpZero a target) =
      zero_cut (register at a).number (jumps next at target) (next (onward at)) (jumps next' at target) (next' (onward at)) (jumps_cut next next' h at target) (h (onward at))
  act_cut line op.Poll = h _
  act_cut line (op.Home d bytes) = gives_cut next next' h at d (make_home bytes line)
  act_cut line (op.New d a) = gives_cut next next' h at d (make_object (register at a))
  act_cut line (op.Free a) = does_cut next next' h at (free_object (register at a) line)
  act_cut line (op.Size d a) = gives_cut next next' h at d (tell_size (register at a) line)
  act_cut line (op.LoadInt d p t) = gives_cut next next' h at d (load_int start.base (type_at t) (register at p) line)
  act_cut line (op.StoreInt p a t) = does_cut next next' h at (store_int start.base (type_at t) (register at p) (register at a) line)
  act_cut line (op.RmwInt d p a o t u) = gives_cut next next' h at d (update_int start.base (type_at t) (register at p) (operation_at o t u) (register at a) line)
  act_cut line (op.CasInt d p e n t) =
      phrase_cut (exchange_int start.base (type_at t) (register at p) (register at e) (register at n) line) (λ found. sets next at d (integer found)) (λ found. sets next' at d (integer found))
      (λ found. sets_cut next next' h at d (integer found))
  act_cut line (op.Lock p) =
      phrase_cut (access_or at.granted (check_access start.base (register at p) 4 true line)) (λ access. locks next at (register at p) line access)
      (λ access. locks next' at (register at p) line access) (λ access. locks_cut next next' h at (register at p) line access)
  act_cut line (op.LoadPointer d p) = gives_cut next next' h at d (load_pointer start.base (register at p) line)
  act_cut line (op.StorePointer p a) = does_cut next next' h at (store_pointer start.base (register at p) (register at a) line)
  act_cut line (op.BoxStore p a) = does_cut next next' h at (store_pair start.base (register at p) (register at a) line)
  act_cut line (op.BoxSwap d p a) = gives_cut next next' h at d (swap_pair start.base (register at p) (register at a) line)
  act_cut line (op.BoxCas d w p e n) =
      phrase_cut (access_or at.granted (check_store start.base (register at p) line)) (λ access. exchanges next at d w (register at e) (register at n) access)
      (λ access. exchanges next' at d w (register at e) (register at n) access) (λ access. exchanges_cut next next' h at d w (register at e) (register at n) access)
  act_cut line (op.Call d f first count) = calls_cut next next' h at code line d f (registers_from at first count)
  act_cut line (op.CallPointer d a first count kind) =
      phrase_cut (function_named (kinds_of code) kind (register at a) line) (λ f. calls code next at line d f (registers_from at first count))
      (λ f. calls code next' at line d f (registers_from at first count)) (λ f. calls_cut next next' h at code line d f (registers_from at first count))
  act_cut line (op.Return a) = returns_cut (start.function == code.main) next next' h at.callers (register at a)
  act_cut line (op.Out a) = does_cut next next' h at (put_out (register at a) line)
  act_cut line (op.Input d) = gives_cut next next' h at d take_in
  act_cut line (op.Spawn d a b) = gives_cut next next' h at d (start_thread (kinds_of code) (register at a) (register at b) line)
  act_cut line (op.Join d a) = gives_cut next next' h at d (join_thread (register at a))
  act_cut line (op.SelfId d) = h _
  act_cut line (op.Exit a) = cut_self (exit (register at a))
  act_cut line op.Abort = cut_self (trap Abort line)

  at_cut : (o : Option Instruction) → IsCutOf (act_at code start next at o) (act_at code start next' at o)
  at_cut None = refl
  at_cut (Some i) = act_cut (trap_line at.frame i) i.op

exec_cut : (code : PlainCode) (start : CodeStart) (m n : ℕ) → m ≤ n → (at : Standing) → IsCutOf (exec code start m at) (exec code start n at)
exec_cut code start zero n le at = tt
exec_cut code start (suc m) zero le at = absurd (omega arith)
exec_cut code start (suc m) (suc n) le at =
    at_cut code start (exec code start m) (exec code start n) (λ at. exec_cut code start m n (omega arith) at) at (instruction_at code at.frame.function at.frame.index)

pub code_cut : (code : PlainCode) (start : CodeStart) (m n : ℕ) → m ≤ n → IsCutOf (code_play m code start) (code_play n code start)
code_cut code start m n le = first (slice_get code.functions start.function) where
  first : (o : Option PlainFunction) → IsCutOf (exec_first code start m o) (exec_first code start n o)
  first None = refl
  first (Some f) = exec_cut code start m n le _
