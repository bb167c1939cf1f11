-- Turn after turn: what follows a number of them is what follows the thread then.
use Rattle.std.proofs.Common.{◌≡◌, ℕ, zero, suc, ◌+◌, ◌-◌, ◌≤◌, List, Bool, true, false, Some, refl, sym, ap, ◌∙◌, arith}
use Rattle.std.specs.Prelude.{if◌then◌else◌}
use Rattle.whole_code.specs.declared.op.Op.{Op}
use Rattle.whole_code.specs.declared.op.Instruction.{Instruction}
use Rattle.whole_code.specs.Plain.{PlainCode}
use Rattle.whole_thread.specs.declared.stage.Stage.{Stage}
use Rattle.whole_thread.specs.declared.stage.Stage.TheVariants as stage
use Rattle.whole_thread.specs.Thread.{Thread, here, stage_of, want_at, want_before, want_of}
use Rattle.thread_steps.specs.Turns.{is_instruction, is_before, thread_after_turn, thread_after_turns, turns_within, Leads}
use Rattle.thread_steps.proofs.Turns.{want_here}

module _ (code : PlainCode) (places : List ℕ) where
  pub leads_none : (thread : Thread) → Leads code places 0 thread thread
  leads_none thread = record {
    after = λ k. let same : 0 + k ≡ k = omega arith in ap (λ (m : ℕ). thread_after_turns m code places thread) same;
    within = λ k. let same : 0 + k ≡ k = omega arith in
        let none : turns_within k code places thread ≡ 0 + turns_within k code places thread = omega arith in
        ap (λ (m : ℕ). turns_within m code places thread) same ∙ none;
  }

  one_more : (k : ℕ) (thread : Thread) → is_instruction (want_of code thread) ≡ true →
      turns_within (suc k) code places thread ≡ turns_within k code places (thread_after_turn true code places thread) + 1
  one_more k thread wants =
      ap (λ (b : Bool). if b then turns_within k code places (thread_after_turn true code places thread) + 1 else 0) wants

  pub leads_more : (n : ℕ) (old new : Thread) → Leads code places n old new → is_instruction (want_of code new) ≡ true →
      Leads code places (n + 1) old (thread_after_turn true code places new)
  leads_more n old new h wants = record {
    after = λ k. let same : n + 1 + k ≡ n + suc k = omega arith in
        ap (λ (m : ℕ). thread_after_turns m code places old) same ∙ h.after (suc k);
    within = λ k. let same : n + 1 + k ≡ n + suc k = omega arith in
        let all : turns_within (n + suc k) code places old ≡ n + turns_within (suc k) code places new = h.within (suc k) in
        let one : turns_within (suc k) code places new ≡ turns_within k code places (thread_after_turn true code places new) + 1 = one_more k new wants in
        let sum : n + turns_within (suc k) code places new ≡ n + 1 + turns_within k code places (thread_after_turn true code places new) = omega (arith, one) in
        ap (λ (m : ℕ). turns_within m code places old) same ∙ all ∙ sum;
  }

  -- one that wants something else carries none out
  none_more : (k : ℕ) (thread : Thread) → is_instruction (want_of code thread) ≡ false → turns_within k code places thread ≡ 0
  none_more zero thread other = refl
  none_more (suc k) thread other =
      ap (λ (b : Bool). if b then turns_within k code places (thread_after_turn true code places thread) + 1 else 0) other

  pub leads_exactly : (n : ℕ) (old new : Thread) → Leads code places n old new → new ≡ thread_after_turns n code places old
  leads_exactly n old new h =
      let same : n + 0 ≡ n = omega arith in
      sym (h.after 0) ∙ ap (λ (m : ℕ). thread_after_turns m code places old) same

  pub leads_stop : (n most : ℕ) (old new : Thread) → n ≤ most → Leads code places n old new → is_instruction (want_of code new) ≡ false →
      n ≡ turns_within most code places old
  leads_stop n most old new le h other =
      let same : n + (most - n) ≡ most = omega (arith, le) in
      let none : turns_within (most - n) code places new ≡ 0 = none_more (most - n) new other in
      let all : n ≡ n + turns_within (most - n) code places new = omega (arith, none) in
      all ∙ sym (h.within (most - n)) ∙ ap (λ (m : ℕ). turns_within m code places old) same

  pub leads_all : (most : ℕ) (old new : Thread) → Leads code places most old new → most ≡ turns_within most code places old
  leads_all most old new h =
      let same : most + 0 ≡ most = omega arith in
      let all : most ≡ most + turns_within 0 code places new = omega arith in
      all ∙ sym (h.within 0) ∙ ap (λ (m : ℕ). turns_within m code places old) same

  pub leads_after : (m : ℕ) (old new last : Thread) (n : ℕ) → Leads code places m old new → Leads code places n new last → Leads code places (m + n) old last
  leads_after m old new last n h g = record {
    after = λ k. let same : m + n + k ≡ m + (n + k) = omega arith in
        ap (λ (j : ℕ). thread_after_turns j code places old) same ∙ h.after (n + k) ∙ g.after k;
    within = λ k. let same : m + n + k ≡ m + (n + k) = omega arith in
        let first : turns_within (m + (n + k)) code places old ≡ m + turns_within (n + k) code places new = h.within (n + k) in
        let rest : turns_within (n + k) code places new ≡ n + turns_within k code places last = g.within k in
        let sum : m + turns_within (n + k) code places new ≡ m + n + turns_within k code places last = omega (arith, rest) in
        ap (λ (j : ℕ). turns_within j code places old) same ∙ first ∙ sum;
  }

-- before an instruction a thread wants what the instruction asks for
by_stage : (code : PlainCode) (thread : Thread) (o : Op) (s : Stage) → is_before s ≡ true → want_at code thread o s ≡ want_before code thread o
by_stage code thread o stage.Before before = refl
by_stage code thread o s before = absurd (cc)

pub before_wants : (code : PlainCode) (thread : Thread) (i : Instruction) → here code thread ≡ Some i → is_before (stage_of thread) ≡ true →
    is_instruction (want_before code thread i.op) ≡ true → is_instruction (want_of code thread) ≡ true
before_wants code thread i at before wants =
    ap is_instruction (want_here code thread i at (stage_of thread) refl ∙ by_stage code thread i.op (stage_of thread) before) ∙ wants
