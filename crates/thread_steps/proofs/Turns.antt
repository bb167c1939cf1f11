-- A turn, by the instruction where the thread stands.
use Rattle.std.proofs.Common.{◌≡◌, ℕ, List, Some, Option, Bool, true, false, refl, sym, ap, ◌∙◌, subst}
use Rattle.std.specs.Prelude.{All}
use Rattle.whole_code.specs.declared.op.Instruction.{Instruction}
use Rattle.whole_code.specs.Plain.{PlainCode}
use Rattle.whole_code.specs.WellFormed.{IsWellFormed}
use Rattle.whole_thread.specs.declared.stage.Stage.{Stage}
use Rattle.whole_thread.specs.Standing.{Caller}
use Rattle.whole_thread.specs.Thread.{Thread, here, stage_of, want_at, want_by, want_of, step_at}
use Rattle.thread_steps.specs.Stands.{IsCallerOf, HasResult, StandsIn}
use Rattle.thread_steps.specs.Turns.{is_instruction, is_before, place_in, turn_by, thread_after_turn}
use Rattle.thread_steps.proofs.Standing.{step_stands}
use Rattle.thread_steps.proofs.Within.{within_asks}

module _ (code : PlainCode) (thread : Thread) (i : Instruction) (at : here code thread ≡ Some i) where
  -- what it wants there
  pub want_here : (s : Stage) → s ≡ stage_of thread → want_of code thread ≡ want_at code thread i.op s
  want_here s e = ap (λ (o : Option Instruction). want_by code thread o) at ∙ ap (λ (x : Stage). want_at code thread i.op x) (sym e)

  pub within_here : (s : Stage) → s ≡ stage_of thread → is_before s ≡ false → false ≡ is_instruction (want_of code thread)
  within_here s e within = sym (ap is_instruction (want_here s e) ∙ within_asks code thread i.op s within)

  turn_at : (done : Bool) (places : List ℕ) → turn_by done code places thread i i.op ≡ thread_after_turn done code places thread
  turn_at true places = ap (λ (o : Option Instruction). step_at code (place_in places) thread o) (sym at)
  turn_at false places = refl

  pub turn_here : (done : Bool) (places : List ℕ) (new : Thread) → new ≡ turn_by done code places thread i i.op → new ≡ thread_after_turn done code places thread
  turn_here done places new e = e ∙ turn_at done places

turn_stands : (code : PlainCode) (done : Bool) (places : List ℕ) (thread : Thread) → IsWellFormed code → StandsIn code thread → StandsIn code (thread_after_turn done code places thread)
turn_stands code true places thread formed h = step_stands code (place_in places) thread formed h
turn_stands code false places thread formed h = h

pub new_stands : (code : PlainCode) (done : Bool) (places : List ℕ) (thread new : Thread) → IsWellFormed code → StandsIn code thread → new ≡ thread_after_turn done code places thread → StandsIn code new
new_stands code done places thread new formed h e = subst (λ (t : Thread). StandsIn code t) (sym e) (turn_stands code done places thread formed h)

-- each caller has the register of its result
pub results_there : (code : PlainCode) (callers : List Caller) → All (IsCallerOf code) callers → All HasResult callers
results_there code callers all k d lt = (all k d lt).result
