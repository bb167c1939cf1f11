-- A thread of well-formed code stays at an instruction.
use Rattle.std.proofs.Common.{◌≡◌, ◌<◌, ◌≤◌, ◌+◌, ℕ, zero, suc, List, [], ◌∷◌, ◌++◌, length, take, replicate, slice_get, Option, Some, None, refl, sym, ap, subst, ◌∙◌, arith, length-append}
use Rattle.std.specs.Prelude.{All, option_and_then, Bool, true, false}
use Rattle.std.proofs.lemmas.List.Elements.{All-get_or}
use Rattle.std.proofs.lemmas.Option.{slice_get_within, get_or_from_slice_get}
use Rattle.whole_code.specs.declared.op.Op.{Op}
use Rattle.whole_code.specs.declared.op.Op.TheVariants as op
use Rattle.whole_code.specs.declared.op.Instruction.{Instruction}
use Rattle.whole_code.specs.Plain.{PlainFunction, PlainCode}
use Rattle.whole_code.specs.Operands.{writes}
use Rattle.whole_code.specs.WellFormed.{named_in, LeavesPlace, EndsInLeaving, IsOpWellFormed, IsFunctionWellFormed, IsWellFormed}
use Rattle.ideal_machine.specs.declared.value.Value.{Value}
use Rattle.ideal_machine.specs.Values.{zero_value, put_at}
use Rattle.whole_thread.specs.declared.stage.Stage.{Stage}
use Rattle.whole_thread.specs.declared.stage.Stage.TheVariants as stage
use Rattle.whole_thread.specs.declared.stage.Want.TheVariants as want
use Rattle.whole_thread.specs.Standing.{Frame, Caller, Standing, room, further_activations, first_registers, register, with_register, at_index, onward}
use Rattle.whole_thread.specs.Act.{caller_at, entering, behind_call}
use Rattle.whole_thread.specs.Thread.{Thread, before, here, want_of, want_by, want_at, leave_of, return_of, stage_of, begins_at, thread_after_poll}
use Rattle.thread_steps.specs.Stands.{IsFrameOf, IsCallerOf, StandsIn, BeginStands, StepStands, AnswerStands, PollStands, InstructionIsThere}
use Rattle.thread_steps.proofs.Kept.{Within, Stays, StaysBy, answer_by_keeps, step_at_keeps}

-- ---- lists

pub length_put : (vs : List Value) (n : ℕ) (v : Value) → n < length vs → length (put_at vs n v) ≡ length vs
length_put [] n v h = absurd (omega arith)
length_put (x ∷ vs) zero v h = refl
length_put (x ∷ vs) (suc n) v h = ap suc (length_put vs n v (omega arith))

pub long_take : (n : ℕ) (vs : List Value) → n ≤ length vs → length (take n vs) ≡ n
long_take zero vs h = refl
long_take (suc n) [] h = absurd (omega arith)
long_take (suc n) (v ∷ vs) h = ap suc (long_take n vs (omega arith))

long_replicate : (n : ℕ) (v : Value) → length (replicate n v) ≡ n
long_replicate zero v = refl
long_replicate (suc n) v = ap suc (long_replicate n v)

-- a function begins with as many registers as it has values
pub first_long : (f : PlainFunction) (arguments : List Value) → length (first_registers f arguments) ≡ f.values
first_long f arguments =
    let given = take f.parameters arguments in
    let zeros = replicate f.values zero_value in
    long_take f.values (given ++ zeros) (omega (arith, length-append given zeros, long_replicate f.values zero_value))

-- what a list has at a number, all keep
pub all_at : {A : Type 0} (P : A → Type 0) (xs : List A) (n : ℕ) (x : A) → All P xs → slice_get xs n ≡ Some x → P x
all_at P xs n x all e =
    subst P (get_or_from_slice_get xs n x x e) (All-get_or P xs n x (slice_get_within xs n x e) all)

pub all_first : {A : Type 0} (P : A → Type 0) (x : A) (xs : List A) → P x → All P xs → All P (x ∷ xs)
all_first P x xs px pxs zero d lt = px
all_first P x xs px pxs (suc k) d lt = pxs k d (omega (arith, lt))

pub all_rest : {A : Type 0} (P : A → Type 0) (x : A) (xs : List A) → All P (x ∷ xs) → All P xs
all_rest P x xs all k d lt = all (suc k) d (omega (arith, lt))

-- there is one at each number within
pub get_within : {A : Type 0} (xs : List A) (n : ℕ) → n < length xs → (x : A) × (slice_get xs n ≡ Some x)
get_within [] n lt = absurd (omega arith)
get_within (x ∷ xs) zero lt = (x, refl)
get_within (x ∷ xs) (suc n) lt = get_within xs n (omega arith)

-- ---- code

first_inside : (code : List Instruction) → EndsInLeaving code → 0 < length code
first_inside [] h = absurd h
first_inside (i ∷ code) h = omega arith

-- after an instruction that goes on there is another
next_inside : (code : List Instruction) (index : ℕ) (i : Instruction) → EndsInLeaving code → slice_get code index ≡ Some i → ¬ LeavesPlace i.op → index + 1 < length code
next_inside [] index i h at goes = absurd h
next_inside (j ∷ []) zero i h at goes =
    let same : j ≡ i = cc in absurd (goes (subst (λ (x : Instruction). LeavesPlace x.op) same h))
next_inside (j ∷ []) (suc index) i h at goes = absurd (omega (arith, slice_get_within (j ∷ []) (suc index) i at))
next_inside (j ∷ k ∷ code) zero i h at goes = omega arith
next_inside (j ∷ k ∷ code) (suc index) i h at goes = omega (arith, next_inside (k ∷ code) index i h at goes)

-- ---- activations

frame_on : (code : PlainCode) (frame : Frame) (h : IsFrameOf code frame) (index : ℕ) (registers : List Value) → index < length h.running.instructions →
    length registers ≡ length frame.registers → IsFrameOf code (record frame { index = index; registers = registers })
frame_on code frame h index registers inside long =
    record { running = h.running; there = h.there; inside = inside; registers = long ∙ h.registers }

enters_frame : (code : PlainCode) → IsWellFormed code → (function line : ℕ) (arguments : List Value) (f : PlainFunction) → slice_get code.functions function ≡ Some f → (called_at : Option ℕ) →
    IsFrameOf code (record { function = function; index = 0; called_at = called_at; registers = first_registers f arguments })
enters_frame code formed function line arguments f e called_at = record {
  running = f;
  there = e;
  inside = first_inside f.instructions (all_at (IsFunctionWellFormed (named_in code)) code.functions function f formed.functions e).ends;
  registers = first_long f arguments;
}

module _ (code : PlainCode) (formed : IsWellFormed code) (thread : Thread) (h : StandsIn code thread) where
  same_op : (i j : Instruction) → here code thread ≡ Some i → here code thread ≡ Some j → i.op ≡ j.op
  same_op i j e f = let both : Some i ≡ Some j = sym e ∙ f in let same : i ≡ j = cc in ap (λ (x : Instruction). x.op) same

  -- what is there is the instruction of its function
  here_is : here code thread ≡ slice_get h.frame.running.instructions thread.at.frame.index
  here_is = ap (λ o. option_and_then (λ (f : PlainFunction). slice_get f.instructions thread.at.frame.index) o) h.frame.there

  pub running_formed : IsFunctionWellFormed (named_in code) h.frame.running
  running_formed = all_at (IsFunctionWellFormed (named_in code)) code.functions thread.at.frame.function h.frame.running formed.functions h.frame.there

  pub op_formed : (i : Instruction) → here code thread ≡ Some i → IsOpWellFormed (named_in code) h.frame.running i.op
  op_formed i e =
      all_at (λ (x : Instruction). IsOpWellFormed (named_in code) h.frame.running x.op) h.frame.running.instructions thread.at.frame.index i running_formed.each (sym here_is ∙ e)

  pub next_within : (i : Instruction) → here code thread ≡ Some i → ¬ LeavesPlace i.op → thread.at.frame.index + 1 < length h.frame.running.instructions
  next_within i e goes = next_inside h.frame.running.instructions thread.at.frame.index i running_formed.ends (sym here_is ∙ e) goes

  -- a thread before an instruction
  abbrev Before : Standing → Type 0
  Before at = StandsIn code (before thread at)

  stands : (at : Standing) → IsFrameOf code at.frame → All (IsCallerOf code) at.callers → length at.callers ≤ further_activations → Before at
  stands at frame callers depth = record { frame = frame; callers = callers; depth = depth; stored = λ i access e s. absurd (cc) }

  onward_frame : (i : Instruction) → here code thread ≡ Some i → ¬ LeavesPlace i.op → (registers : List Value) → length registers ≡ length thread.at.frame.registers →
      IsFrameOf code (record thread.at.frame { index = thread.at.frame.index + 1; registers = registers })
  onward_frame i e goes registers long = frame_on code thread.at.frame h.frame (thread.at.frame.index + 1) registers (next_within i e goes) long

  enters_stand : (i : Instruction) → here code thread ≡ Some i → ¬ LeavesPlace i.op → 0 < room thread.at → (line d function : ℕ) → Within thread d →
      (arguments : List Value) (f : PlainFunction) → slice_get code.functions function ≡ Some f →
      Before (entering (caller_at thread.at d ∷ thread.at.callers) function (Some line) (first_registers f arguments))
  enters_stand i e goes left line d function lt arguments f fe =
      stands (entering (caller_at thread.at d ∷ thread.at.callers) function (Some line) (first_registers f arguments))
      (enters_frame code formed function line arguments f fe (Some line))
      (all_first (IsCallerOf code) (caller_at thread.at d) thread.at.callers
      (record { frame = onward_frame i e goes thread.at.frame.registers refl; result = lt }) h.callers) (omega (arith, left))

  returns_stand : (caller : Caller) (callers : List Caller) → thread.at.callers ≡ caller ∷ callers → (v : Value) → Before (behind_call caller callers v)
  returns_stand caller callers e v =
      let all : All (IsCallerOf code) (caller ∷ callers) = subst (All (IsCallerOf code)) e h.callers in
      let here : IsCallerOf code caller = all 0 caller (omega arith) in
      stands (behind_call caller callers v)
      (frame_on code caller.frame here.frame caller.frame.index (put_at caller.frame.registers caller.result v) here.frame.inside (length_put caller.frame.registers caller.result v here.result))
      (all_rest (IsCallerOf code) caller callers all) (omega (arith, h.depth, ap length e))

  both_long : (d w : ℕ) → Within thread d → Within thread w → (u v : Value) → length (put_at (put_at thread.at.frame.registers d u) w v) ≡ length thread.at.frame.registers
  both_long d w dl wl u v =
      let first = length_put thread.at.frame.registers d u dl in
      length_put (put_at thread.at.frame.registers d u) w v (omega (arith, first, wl)) ∙ first

  writes_within : (i : Instruction) → here code thread ≡ Some i → All (Within thread) (writes i.op)
  writes_within i e = subst (λ n. All (λ r. r < n) (writes i.op)) (sym h.frame.registers) (op_formed i e).writes

  stays : (i : Instruction) → here code thread ≡ Some i → Stays code i.op thread (StandsIn code)
  stays i e = record {
    writes = writes_within i e;
    long = length h.frame.running.instructions;
    target = (op_formed i e).target;
    stored = λ access s. h.stored i access e s;
    same = h;
    traps = λ reason line. record { frame = h.frame; callers = h.callers; depth = h.depth; stored = λ j access _ s. absurd (cc) };
    over = λ halt. record { frame = h.frame; callers = h.callers; depth = h.depth; stored = λ j access _ s. absurd (cc) };
    waits = record { frame = h.frame; callers = h.callers; depth = h.depth; stored = λ j access _ s. absurd (cc) };
    within = λ goes s. record {
      frame = h.frame;
      callers = h.callers;
      depth = h.depth;
      stored = λ j access je _. subst (λ (x : Op). ¬ LeavesPlace x) (same_op i j e je) goes;
    };
    goes = λ goes. stands (onward thread.at) (onward_frame i e goes thread.at.frame.registers refl) h.callers h.depth;
    sets = λ goes d lt v. stands (onward (with_register thread.at d v))
        (onward_frame i e goes (put_at thread.at.frame.registers d v) (length_put thread.at.frame.registers d v lt)) h.callers h.depth;
    both = λ goes d w dl wl u v. stands (onward (with_register (with_register thread.at d u) w v))
        (onward_frame i e goes (put_at (put_at thread.at.frame.registers d u) w v) (both_long d w dl wl u v)) h.callers h.depth;
    jumps = λ target lt. stands (at_index thread.at target) (frame_on code thread.at.frame h.frame target thread.at.frame.registers lt refl) h.callers h.depth;
    rounds = λ access. record { frame = h.frame; callers = h.callers; depth = h.depth; stored = λ j a _ s. absurd (cc) };
    enters = λ goes left line d function lt arguments f fe. enters_stand i e goes left line d function lt arguments f fe;
    returns = λ caller callers ce v. returns_stand caller callers ce v;
  }

  stays_by : (i : Option Instruction) → here code thread ≡ i → StaysBy code thread (StandsIn code) i
  stays_by None e = h
  stays_by (Some i) e = stays i e

  poll_keeps : (i : Instruction) → here code thread ≡ Some i → ¬ LeavesPlace i.op → StandsIn code (thread_after_poll thread)
  poll_keeps i e goes = stands (onward thread.at) (onward_frame i e goes thread.at.frame.registers refl) h.callers h.depth

pub step_stands : StepStands
step_stands code places thread formed h =
    step_at_keeps code places thread (StandsIn code) (here code thread) (stays_by code formed thread h (here code thread) refl)

pub answer_stands : AnswerStands
answer_stands code thread answer formed h =
    answer_by_keeps code thread (StandsIn code) (here code thread) (stays_by code formed thread h (here code thread) refl) answer

pub has_instruction : InstructionIsThere
has_instruction code thread h =
    let i = get_within h.frame.running.instructions thread.at.frame.index h.frame.inside in
    (i.0, ap (λ o. option_and_then (λ (f : PlainFunction). slice_get f.instructions thread.at.frame.index) o) h.frame.there ∙ i.1)

pub begin_stands : BeginStands
begin_stands code id function argument old formed lt =
    let f = get_within code.functions function lt in
    subst (λ (o : Option PlainFunction). StandsIn code (begins_at code id function argument o old)) (sym f.1)
    (record {
      frame = enters_frame code formed function 0 (argument ∷ []) f.0 f.1 None;
      callers = λ k d lt. absurd (omega (arith, lt));
      depth = omega arith;
      stored = λ i access _ s. absurd (cc);
    })

-- ---- polls

leave_wants : (main : Bool) (v : Value) → leave_of main v ≡ want.Poll → ⊥
leave_wants true v e = cc
leave_wants false v e = cc

return_wants : (main : Bool) (callers : List Caller) (v : Value) → return_of main callers v ≡ want.Poll → ⊥
return_wants main [] v e = leave_wants main v e
return_wants main (caller ∷ callers) v e = cc

-- an instruction that leads elsewhere wants no poll
module _ (code : PlainCode) (thread : Thread) where
  leaves_at : (o : Op) → LeavesPlace o → (s : Stage) → want_at code thread o s ≡ want.Poll → ⊥
  leaves_at (op.Return a) l stage.Before e = return_wants thread.main thread.at.callers (register thread.at a) e
  leaves_at (op.Return a) l (stage.Granted access) e = cc
  leaves_at (op.Return a) l (stage.Stored access) e = cc
  leaves_at (op.Return a) l (stage.Found access found) e = cc
  leaves_at (op.Return a) l (stage.Read access found pointer) e = cc
  leaves_at (op.Return a) l (stage.Matches access found pointer) e = cc
  leaves_at (op.Return a) l stage.NamedFirst e = cc
  leaves_at (op.Return a) l stage.Waits e = cc
  leaves_at (op.Return a) l (stage.Traps reason line) e = cc
  leaves_at (op.Return a) l (stage.Over halt) e = cc
  leaves_at (op.Jump t) l stage.Before e = cc
  leaves_at (op.Jump t) l (stage.Granted access) e = cc
  leaves_at (op.Jump t) l (stage.Stored access) e = cc
  leaves_at (op.Jump t) l (stage.Found access found) e = cc
  leaves_at (op.Jump t) l (stage.Read access found pointer) e = cc
  leaves_at (op.Jump t) l (stage.Matches access found pointer) e = cc
  leaves_at (op.Jump t) l stage.NamedFirst e = cc
  leaves_at (op.Jump t) l stage.Waits e = cc
  leaves_at (op.Jump t) l (stage.Traps reason line) e = cc
  leaves_at (op.Jump t) l (stage.Over halt) e = cc
  leaves_at o l s e = absurd l

not_here : (code : PlainCode) (thread : Thread) (i : Instruction) → here code thread ≡ Some i → want_of code thread ≡ want.Poll → LeavesPlace i.op → ⊥
not_here code thread i e w leaves = leaves_at code thread i.op leaves (stage_of thread) (sym (ap (want_by code thread) e) ∙ w)

pub poll_stands : PollStands
poll_stands code thread formed h w =
    let i = has_instruction code thread h in
    poll_keeps code formed thread h i.0 i.1 (λ leaves. not_here code thread i.0 i.1 w leaves)
