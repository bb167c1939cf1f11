-- A thread of which a half is freed stands where it stood.
use Rattle.std.proofs.Common.{◌≡◌, ◌<◌, ◌≤◌, ◌-◌, ℕ, suc, List, [], ◌∷◌, length, inl, inr, Bool, true, false, refl, ap, ◌∙◌, arith}
use Rattle.std.specs.Prelude.{All, nat_lt, if◌then◌else◌}
use Rattle.ideal_machine.specs.declared.value.Half.TheVariants.{Freed}
use Rattle.ideal_machine.specs.declared.value.Value.{Value}
use Rattle.ideal_machine.specs.Values.{put_at}
use Rattle.whole_code.specs.Plain.{PlainCode}
use Rattle.whole_thread.specs.Standing.{Caller}
use Rattle.whole_thread.specs.Thread.{Thread}
use Rattle.thread_steps.specs.Registers.{count_in, register_count, register_of, caller_with, callers_with, thread_with, thread_with_freed}
use Rattle.thread_steps.specs.Stands.{IsCallerOf, StandsIn, is_over, IsThreadOf, FreedStands}
use Rattle.thread_steps.proofs.Passing.{lt_holds, lt_fails}
use Rattle.thread_steps.proofs.Standing.{length_put, all_first, all_rest}

-- what holds of both holds of the one that is chosen
either : {A : Type 0} (P : A → Type 0) (x y : A) (r n : ℕ) (b : Bool) → nat_lt r n ≡ b → (r < n → P x) → (n ≤ r → P y) → P (if b then x else y)
either P x y r n true is first second = first (lt_holds r n is)
either P x y r n false is first second = second (lt_fails r n is)

module _ (code : PlainCode) where
  caller_stands : (caller : Caller) (r : ℕ) (v : Value) → r < length caller.frame.registers → IsCallerOf code caller → IsCallerOf code (caller_with caller r v)
  caller_stands caller r v lt h =
      let long : length (put_at caller.frame.registers r v) ≡ length caller.frame.registers = length_put caller.frame.registers r v lt in record {
        frame = record { running = h.frame.running; there = h.frame.there; inside = h.frame.inside; registers = long ∙ h.frame.registers };
        result = omega (arith, h.result, long);
      }

  callers_stand :
      (caller : Caller) (callers : List Caller) (r : ℕ) (v : Value) → r < count_in caller.frame.registers callers →
      All (IsCallerOf code) (caller ∷ callers) → All (IsCallerOf code) (callers_with (caller ∷ callers) r v)
  callers_stand caller [] r v lt all =
      either (All (IsCallerOf code)) (caller_with caller r v ∷ []) (caller ∷ []) r (length caller.frame.registers) (nat_lt r (length caller.frame.registers)) refl
      (λ within. all_first (IsCallerOf code) (caller_with caller r v) [] (caller_stands caller r v within (all 0 caller (omega arith))) (all_rest (IsCallerOf code) caller [] all))
      (λ past. all)
  callers_stand caller (next ∷ callers) r v lt all =
      let rest : All (IsCallerOf code) (next ∷ callers) = all_rest (IsCallerOf code) caller (next ∷ callers) all in
      let first : IsCallerOf code caller = all 0 caller (omega arith) in
      let left : ℕ = r - length caller.frame.registers in
      either (All (IsCallerOf code)) (caller_with caller r v ∷ next ∷ callers) (caller ∷ callers_with (next ∷ callers) left v) r (length caller.frame.registers)
      (nat_lt r (length caller.frame.registers)) refl
      (λ within. all_first (IsCallerOf code) (caller_with caller r v) (next ∷ callers) (caller_stands caller r v within first) rest)
      (λ past. all_first (IsCallerOf code) caller (callers_with (next ∷ callers) left v) first (callers_stand next callers left v (omega (arith, lt, past)) rest))

callers_long : (callers : List Caller) (r : ℕ) (v : Value) → length (callers_with callers r v) ≡ length callers
callers_long [] r v = refl
callers_long (caller ∷ callers) r v =
    let left : ℕ = r - length caller.frame.registers in
    either (λ (cs : List Caller). length cs ≡ suc (length callers)) (caller_with caller r v ∷ callers) (caller ∷ callers_with callers left v) r (length caller.frame.registers)
    (nat_lt r (length caller.frame.registers)) refl (λ within. refl) (λ past. ap suc (callers_long callers left v))

-- past the innermost frame
rest_stand :
    (code : PlainCode) (registers : List Value) (callers : List Caller) (r : ℕ) (v : Value) → r < count_in registers callers → length registers ≤ r →
    All (IsCallerOf code) callers → All (IsCallerOf code) (callers_with callers (r - length registers) v)
rest_stand code registers [] r v lt past all = all
rest_stand code registers (caller ∷ callers) r v lt past all = callers_stand code caller callers (r - length registers) v (omega (arith, lt, past)) all

thread_stands : (code : PlainCode) (thread : Thread) (r : ℕ) (v : Value) → r < register_count thread → StandsIn code thread → StandsIn code (thread_with thread r v)
thread_stands code thread r v lt h =
    let registers : List Value = thread.at.frame.registers in
    either (StandsIn code) (record thread { at = record thread.at { frame = record thread.at.frame { registers = put_at registers r v } } })
    (record thread { at = record thread.at { callers = callers_with thread.at.callers (r - length registers) v } }) r (length registers) (nat_lt r (length registers)) refl
    (λ within. record {
      frame = record { running = h.frame.running; there = h.frame.there; inside = h.frame.inside; registers = length_put registers r v within ∙ h.frame.registers };
      callers = h.callers;
      depth = h.depth;
      stored = h.stored;
    })
    (λ past. record {
      frame = h.frame;
      callers = rest_stand code registers thread.at.callers r v lt past h.callers;
      depth = omega (arith, callers_long thread.at.callers (r - length registers) v, h.depth);
      stored = h.stored;
    })

pub freed_stands : FreedStands
freed_stands code thread r lt h = thread_stands code thread r (record (register_of thread r) { half = Freed }) lt h

same_stage : (thread : Thread) (r : ℕ) (v : Value) → (thread_with thread r v).stage ≡ thread.stage
same_stage thread r v =
    let registers : List Value = thread.at.frame.registers in
    either (λ (t : Thread). t.stage ≡ thread.stage) (record thread { at = record thread.at { frame = record thread.at.frame { registers = put_at registers r v } } })
    (record thread { at = record thread.at { callers = callers_with thread.at.callers (r - length registers) v } }) r (length registers) (nat_lt r (length registers)) refl
    (λ within. refl) (λ past. refl)

pub freed_stays : (code : PlainCode) (thread : Thread) (r : ℕ) → r < register_count thread → IsThreadOf code thread → IsThreadOf code (thread_with_freed thread r)
freed_stays code thread r lt (inl stands) = inl (freed_stands code thread r lt stands)
freed_stays code thread r lt (inr over) = inr (ap is_over (same_stage thread r (record (register_of thread r) { half = Freed })) ∙ over)
