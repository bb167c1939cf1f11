-- Who makes an event: none but Begin is allowed to a thread that doesn't run, and the first one of all is the Begin of
-- `main`.
use Rattle.std.specs.Prelude.{◌≡◌, ℕ, ◌+◌, ◌%◌, List}
use Rattle.filc_num.specs.StaticDefs.{PlainStatic}
use Rattle.ideal_machine.specs.declared.value.Half.{Half}
use Rattle.ideal_machine.specs.declared.value.Half.TheVariants.{Nothing}
use Rattle.ideal_machine.specs.declared.event.Event.{Event}
use Rattle.ideal_machine.specs.declared.event.Event.TheVariants.{Spawn, Begin, Join, Collected}
use Rattle.ideal_machine.specs.declared.event.Answer.{Answer}
use Rattle.ideal_machine.specs.declared.event.Answer.TheVariants.{Done, Number}
use Rattle.ideal_machine.specs.Memory.{Memory, World, thread_id}
use Rattle.ideal_machine.specs.Beginning.{first_memory}
use Rattle.ideal_machine.specs.Allows.{IsRunning, IsStarted, IsAllowed}
use Rattle.ideal_machine.specs.Effects.{effect_of}

-- who may make an event: a running thread, a started one that begins, or the collector at the end of a cycle
pub data IsMadeBy (world : World) (memory : Memory) (actor : ℕ) (event : Event) : Type 0 where
  runs : IsRunning memory actor → IsMadeBy world memory actor event
  begins :
      (function address : ℕ) (half : Half) → event ≡ Begin function address half →
      IsStarted memory actor function address half →
      IsMadeBy world memory actor event
  collects : (cycle : ℕ) → event ≡ Collected cycle → actor ≡ world.slots → IsMadeBy world memory actor event

abbrev pub OnlyRunningThreadsAct : Type 0
OnlyRunningThreadsAct =
    (world : World) (memory : Memory) (actor : ℕ) (event : Event) (answer : Answer) →
    IsAllowed world memory actor event answer → IsMadeBy world memory actor event

-- what may come first: the Begin of `main` in slot 0; and a cycle may end at any time
pub data IsFirst (world : World) (main actor : ℕ) (event : Event) (answer : Answer) : Type 0 where
  main_begins : actor ≡ 0 → event ≡ Begin main 0 Nothing → answer ≡ Done → IsFirst world main actor event answer
  cycle_ends : (cycle : ℕ) → event ≡ Collected cycle → actor ≡ world.slots → IsFirst world main actor event answer

abbrev pub MainComesFirst : Type 0
MainComesFirst =
    (world : World) (statics : List PlainStatic) (main actor : ℕ) (event : Event) (answer : Answer) →
    IsAllowed world (first_memory world statics main) actor event answer → IsFirst world main actor event answer

-- a spawned thread's id is that of the thread for which its slot is, and so is the id of a thread whose result is taken;
-- from then on the slot is for the next one
abbrev pub IdsAreOfTheirThread : Type 0
IdsAreOfTheirThread =
    (world : World) (memory : Memory) (actor : ℕ) →
    ((function address : ℕ) (half : Half) (id : ℕ) →
    IsAllowed world memory actor (Spawn function address half) (Number id) → thread_id memory (id % 64) ≡ id)
    × ((id result : ℕ) →
    IsAllowed world memory actor (Join id) (Number result) →
    (thread_id memory (id % 64) ≡ id)
    × (thread_id (effect_of memory actor (Join id) (Number result)) (id % 64) ≡ id + 64))
