-- Who makes an event.
use Rattle.std.proofs.Common.{◌≡◌, ◌⊎◌, inl, inr, ⊎_elim, ℕ, zero, suc, ◌+◌, ◌-◌, ◌/◌, ◌%◌, List, Option, Some, None, refl, sym, ◌∙◌, ap, subst, arith}
use Rattle.std.specs.Prelude.{slice_get, option_map, IsSomeAnd, replicate}
use Rattle.filc_num.specs.StaticDefs.{PlainStatic}
use Rattle.ideal_machine.specs.declared.value.Half.{Half}
use Rattle.ideal_machine.specs.declared.value.Half.TheVariants.{Nothing}
use Rattle.ideal_machine.specs.declared.event.Event.TheVariants.{Begin, Collected}
use Rattle.ideal_machine.specs.declared.event.Answer.{Answer}
use Rattle.ideal_machine.specs.declared.event.Answer.TheVariants.{Done}
use Rattle.ideal_machine.specs.Memory.{Slot, SlotState, Free, Started, Running, Memory, World, id_of, id_or}
use Rattle.ideal_machine.specs.Beginning.{fresh_slot, first_memory}
use Rattle.ideal_machine.specs.Effects.{next_generation}
use Rattle.ideal_machine.specs.Names.{IsShown}
use Rattle.ideal_machine.specs.Allows.{state_of, IsRunning, IsStarted}
use Rattle.ideal_machine.specs.Makers.{runs, begins, collects, OnlyRunningThreadsAct, IsFirst, main_begins, cycle_ends, MainComesFirst, IdsAreOfTheirThread}
use Rattle.ideal_machine.proofs.Elements.{get-with_same}

pub only_running_threads_act : OnlyRunningThreadsAct
only_running_threads_act world memory actor (Begin function address half) answer h = begins function address half refl h.may_make
only_running_threads_act world memory actor (Collected cycle) answer h = collects cycle refl h.may_make
only_running_threads_act world memory actor event answer h = runs h.may_make

-- ---- the first event

-- the state of a slot before the first event
fresh_state : (k n : ℕ) (state : SlotState) → option_map (λ (s : Slot). s.state) (slice_get (replicate k fresh_slot) n) ≡ Some state → state ≡ Free
fresh_state zero n state e = absurd (cc)
fresh_state (suc k) zero state e = cc
fresh_state (suc k) (suc n) state e = fresh_state k n state e

pub first_state :
    (world : World) (statics : List PlainStatic) (main actor : ℕ) (state : SlotState) →
    state_of (first_memory world statics main) actor ≡ Some state → ((actor ≡ 0) × (state ≡ Started main 0 Nothing)) ⊎ (state ≡ Free)
first_state world statics main zero state e = inl (refl, cc)
first_state world statics main (suc n) state e = inr (fresh_state (world.slots - 1) n state e)

module _ (world : World) (statics : List PlainStatic) (main : ℕ) where
  abbrev at_first : Memory
  at_first = first_memory world statics main

  -- nothing runs then
  none_runs : (actor : ℕ) → ¬ IsRunning at_first actor
  none_runs actor h =
      ⊎_elim (λ started. absurd (let e : Running ≡ Started main 0 Nothing = started.1 in cc)) (λ free. absurd (let e : Running ≡ Free = free in cc))
      (first_state world statics main actor Running h)

  shown_nothing : (half shown : Half) → half ≡ Nothing → IsShown at_first half shown → shown ≡ Nothing
  shown_nothing half shown is h =
      ⊎_elim (λ same. same) (λ freed. absurd freed.1) (subst (λ half. IsShown at_first half shown) is h)

  started_first :
      (actor function address : ℕ) (half : Half) (answer : Answer) → IsStarted at_first actor function address half → answer ≡ Done →
      IsFirst world main actor (Begin function address half) answer
  started_first actor function address half answer h done =
      ⊎_elim
      (λ started.
      let is : Started function address h.0 ≡ Started main 0 Nothing = started.1 in
      let f : function ≡ main = cc in
      let a : address ≡ 0 = cc in
      let k : h.0 ≡ Nothing = cc in
      let same : half ≡ Nothing = shown_nothing h.0 half k h.2 in
      let event : Begin function address half ≡ Begin main 0 Nothing = cc in
      main_begins started.0 event done)
      (λ free. absurd (let e : Started function address h.0 ≡ Free = free in cc))
      (first_state world statics main actor (Started function address h.0) h.1)

pub main_comes_first : MainComesFirst
main_comes_first world statics main actor (Begin function address half) answer h =
    started_first world statics main actor function address half answer h.may_make h.answers
main_comes_first world statics main actor (Collected cycle) answer h = cycle_ends cycle refl h.may_make
main_comes_first world statics main actor event answer h = absurd (none_runs world statics main actor h.may_make)

-- ---- ids

free_id : (id : ℕ) (o : Option Slot) → IsSomeAnd o (λ slot. (slot.state ≡ Free) × (id ≡ id_of (id % 64) slot.generation)) → id_or (id % 64) o ≡ id
free_id id None h = absurd h
free_id id (Some slot) h = sym h.1

result_id : (id : ℕ) → id_of (id % 64) (id / 64) ≡ id
result_id id = omega arith

next_id : (id : ℕ) → id_of (id % 64) (id / 64 + 1) ≡ id + 64
next_id id = omega arith

pub ids_are_of_their_thread : IdsAreOfTheirThread
ids_are_of_their_thread world memory actor = (
  λ function address half id h. free_id id (slice_get memory.slots (id % 64)) h.answers,
  λ id result h. (
    ap (id_or (id % 64)) h.answers ∙ result_id id,
    ap (id_or (id % 64)) (get-with_same memory.slots (id % 64) next_generation ∙ ap (option_map next_generation) h.answers) ∙ next_id id,
  ),
)
