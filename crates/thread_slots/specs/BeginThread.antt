-- Beginning a thread, word by word.
use Rattle.std.specs.Prelude.{◌≡◌, ℕ, ◌+◌, ◌*◌, ◌/◌, ◌%◌, ◌^◌, ◌<◌, List}
use Rattle.heap_words.specs.Steps.{Steps}
use Rattle.heap_words.specs.Work.{Next, Work, with_stage}
use Rattle.heap_words.specs.declared.op.WordOp.TheVariants.{Load}
use Rattle.heap_words.specs.declared.piece.Step.TheVariants.{More, Done}
use Rattle.object_header.specs.Codings.{slot_code}
use Rattle.object_header.specs.Contents.{ChangesOnly, word_at}
use Rattle.object_header.specs.WordMap.{Layout, Slot, place_of, place_of_slot}
use Rattle.object_header.specs.declared.codings.SlotState.TheVariants.{Running}
use Rattle.object_header.specs.declared.words.SlotWord.{SlotWord}
use Rattle.object_header.specs.declared.words.SlotWord.TheVariants.{State, Function, Address, Capability}
use Rattle.thread_slots.specs.declared.begin_thread.BeginThread.{BeginThread}
use Rattle.thread_slots.specs.declared.begin_thread.BeginStage.{BeginStage}
use Rattle.thread_slots.specs.declared.begin_thread.BeginStage.TheVariants.{LoadState, LoadFunction, LoadAddress, LoadCapability}

-- a thread's id, its function, and the argument's address and capability
abbrev pub Beginning : Type 0
Beginning = ℕ × ℕ × ℕ × ℕ

-- at its start
abbrev pub begin_thread : ℕ → ℕ → BeginThread
begin_thread slots slot = record { slots = slots; slot = slot; stage = LoadState }

-- the id of the thread in a slot with this state word: its generation, times 64, and the slot
abbrev pub id_in : ℕ → ℕ → ℕ
id_in state slot = (state / 4 * 64 % 2 ^ 64 + slot) % 2 ^ 64

-- the words in their order
unfoldable pub begin_word : BeginStage → SlotWord
begin_word LoadState = State
begin_word (LoadFunction id) = Function
begin_word (LoadAddress id function) = Address
begin_word (LoadCapability id function address) = Capability

-- what is known after an answer; the capability is the last word
unfoldable pub begin_next : ℕ → BeginStage → ℕ → Next BeginStage Beginning
begin_next slot LoadState answer = record { piece = LoadFunction (id_in answer slot); told = More }
begin_next slot (LoadFunction id) answer = record { piece = LoadAddress id (answer % 2 ^ 32); told = More }
begin_next slot (LoadAddress id function) answer = record { piece = LoadCapability id function answer; told = More }
begin_next slot (LoadCapability id function address) answer =
    record { piece = LoadCapability id function address; told = Done (id, function, address, answer) }

abbrev pub begin_work : Work BeginThread Beginning
begin_work = record {
  wants = λ piece. Load (place_of_slot piece.slots piece.slot (begin_word piece.stage));
  takes = λ piece answer. with_stage (λ stage. record piece { stage = stage }) (begin_next piece.slot piece.stage answer);
}

-- how many words it loads behind the next one
unfoldable pub begin_steps : BeginStage → ℕ
begin_steps LoadState = 3
begin_steps (LoadFunction id) = 2
begin_steps (LoadAddress id function) = 1
begin_steps (LoadCapability id function address) = 0

-- ---- one step among those of other threads

-- a thread of this generation runs in the slot, and its function is one
pub record IsRunning (l : Layout) (words : List ℕ) (slot generation : ℕ) : Type 0 where
  pub is_slot : slot < l.slots
  pub few : generation < 2 ^ 58
  pub state : word_at l words (Slot slot State) ≡ slot_code generation Running
  pub function : word_at l words (Slot slot Function) < 2 ^ 32

-- what it has loaded still stands; of the capability it knows nothing before it has it
unfoldable pub IsLoaded : Layout → List ℕ → ℕ → ℕ → BeginStage → Type 0
IsLoaded l words slot generation LoadState = Unit {0}
IsLoaded l words slot generation (LoadFunction id) = id ≡ 64 * generation + slot
IsLoaded l words slot generation (LoadAddress id function) =
    (id ≡ 64 * generation + slot) × (function ≡ word_at l words (Slot slot Function))
IsLoaded l words slot generation (LoadCapability id function address) =
    (id ≡ 64 * generation + slot) × (function ≡ word_at l words (Slot slot Function)) × (address ≡ word_at l words (Slot slot Address))

-- the piece is of this slot of the map, where a thread of this generation runs
pub record OfSlot (l : Layout) (words : List ℕ) (slot generation : ℕ) (piece : BeginThread) : Type 0 where
  pub running : IsRunning l words slot generation
  pub slots_are : piece.slots ≡ l.slots
  pub slot_is : piece.slot ≡ slot
  pub loaded : IsLoaded l words slot generation piece.stage

-- all words of the slot but the capability and the result stay
pub record KeepsThread (l : Layout) (old new : List ℕ) (slot : ℕ) : Type 0 where
  pub state : word_at l new (Slot slot State) ≡ word_at l old (Slot slot State)
  pub function : word_at l new (Slot slot Function) ≡ word_at l old (Slot slot Function)
  pub address : word_at l new (Slot slot Address) ≡ word_at l old (Slot slot Address)

-- the thread of the slot, by its words
abbrev pub beginning_in : Layout → List ℕ → ℕ → ℕ → Beginning
beginning_in l words slot generation =
    (64 * generation + slot, word_at l words (Slot slot Function), word_at l words (Slot slot Address), word_at l words (Slot slot Capability))

-- one step
abbrev pub BeginSteps : Layout → List ℕ → ℕ → ℕ → BeginThread → Type 0
BeginSteps l words slot generation piece =
    Steps begin_work (λ p. begin_steps p.stage) words piece (Load (place_of l (Slot slot (begin_word piece.stage)))) (λ word left. ChangesOnly l words left (Slot slot (begin_word piece.stage)) word)
    (λ left next. OfSlot l left slot generation next) ⊥ (λ left out. out ≡ beginning_in l words slot generation)
