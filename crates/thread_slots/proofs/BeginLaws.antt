-- A `BeginThread`: its step, and what it does alone.
use Rattle.std.proofs.Common.{◌≡◌, ℕ, ◌+◌, ◌*◌, ◌%◌, ◌^◌, ◌<◌, List, slice_set, refl, sym, ap, ◌∙◌, subst, arith}
use Rattle.std.proofs.lemmas.List.{set-get_or}
use Rattle.heap_words.specs.Alone.{EndsAlone}
use Rattle.heap_words.specs.Operations.{words_after}
use Rattle.heap_words.specs.declared.op.WordOp.{WordOp}
use Rattle.heap_words.specs.declared.op.WordOp.TheVariants.{Load}
use Rattle.heap_words.proofs.Rules.{StepsAlone, alone_by, ends_alone}
use Rattle.object_header.specs.Contents.{IsLaidOut, ChangesOnly, word_at}
use Rattle.object_header.specs.WordMap.{Layout, Part, Slot, place_of}
use Rattle.object_header.specs.declared.words.SlotWord.{SlotWord}
use Rattle.object_header.specs.declared.words.SlotWord.TheVariants.{State, Function, Address, Capability}
use Rattle.object_header.proofs.MapProofs.{map_laws}
use Rattle.thread_slots.specs.BeginThread.{Beginning, begin_thread, id_in, begin_word, begin_next, begin_work, begin_steps, IsRunning, IsLoaded, OfSlot, KeepsThread, beginning_in, BeginSteps}
use Rattle.thread_slots.specs.declared.begin_thread.BeginThread.{BeginThread}
use Rattle.thread_slots.specs.declared.begin_thread.BeginStage.{BeginStage}
use Rattle.thread_slots.specs.declared.begin_thread.BeginStage.TheVariants.{LoadState, LoadFunction, LoadAddress, LoadCapability}

-- the id of a running thread
id_in-running : (state generation slot : ℕ) → state ≡ 4 * generation + 2 → generation < 2 ^ 58 → slot < 64 → id_in state slot ≡ 64 * generation + slot
id_in-running state generation slot is few low = omega arith

small_function : (word : ℕ) → word < 2 ^ 32 → word % 2 ^ 32 ≡ word
small_function word small = omega arith

module _ (l : Layout) (words : List ℕ) (slot generation : ℕ) (laid_out : IsLaidOut l words) (running : IsRunning l words slot generation) where
  abbrev at : BeginStage → BeginThread
  at stage = record { slots = l.slots; slot = slot; stage = stage }

  abbrev word : SlotWord → ℕ
  word w = word_at l words (Slot slot w)

  of : (stage : BeginStage) → IsLoaded l words slot generation stage → OfSlot l words slot generation (at stage)
  of stage loaded = record { running = running; slots_are = refl; slot_is = refl; loaded = loaded }

  -- the words after the load of one
  abbrev left : SlotWord → List ℕ
  left w = slice_set words (place_of l (Slot slot w)) (word w)

  same : (w : SlotWord) → left w ≡ words
  same w = set-get_or words (place_of l (Slot slot w)) 0

  -- it holds on words that a load leaves
  on : (w : SlotWord) (stage : BeginStage) → IsLoaded l words slot generation stage → OfSlot l (left w) slot generation (at stage)
  on w stage loaded = subst (λ ws. OfSlot l ws slot generation (at stage)) (sym (same w)) (of stage loaded)

  id_is : id_in (word State) slot ≡ 64 * generation + slot
  id_is = id_in-running (word State) generation slot running.state running.few (omega (arith, running.is_slot, laid_out.well_formed.few_slots))

  function_is : word Function % 2 ^ 32 ≡ word Function
  function_is = small_function (word Function) running.function

  told : (id function address : ℕ) → id ≡ 64 * generation + slot → function ≡ word Function → address ≡ word Address → ◌≡◌ {A = Beginning} (id, function, address, word Capability) (beginning_in l words slot generation)
  told id function address is is' is'' = ap (λ i. (i, function, address, word Capability)) is ∙ ap (λ f. (64 * generation + slot, f, address, word Capability)) is' ∙ ap (λ a. (64 * generation + slot, word Function, a, word Capability)) is''

  pub step_at : (stage : BeginStage) → IsLoaded l words slot generation stage → BeginSteps l words slot generation (at stage)
  unfolding begin_word begin_next begin_steps IsLoaded
  step_at LoadState loaded = record {
    wants_is = refl;
    inside = map_laws.inside l words (Slot slot State) laid_out running.is_slot;
    fits = map_laws.fits l (Slot slot State) laid_out.well_formed running.is_slot;
    leaves = map_laws.one_part l words (Slot slot State) (word State) laid_out running.is_slot;
    known = (on State (LoadFunction (id_in (word State) slot)) id_is, omega arith);
  }
  step_at (LoadFunction id) is = record {
    wants_is = refl;
    inside = map_laws.inside l words (Slot slot Function) laid_out running.is_slot;
    fits = map_laws.fits l (Slot slot Function) laid_out.well_formed running.is_slot;
    leaves = map_laws.one_part l words (Slot slot Function) (word Function) laid_out running.is_slot;
    known = (on Function (LoadAddress id (word Function % 2 ^ 32)) (is, function_is), omega arith);
  }
  step_at (LoadAddress id function) (is, is') = record {
    wants_is = refl;
    inside = map_laws.inside l words (Slot slot Address) laid_out running.is_slot;
    fits = map_laws.fits l (Slot slot Address) laid_out.well_formed running.is_slot;
    leaves = map_laws.one_part l words (Slot slot Address) (word Address) laid_out running.is_slot;
    known = (on Address (LoadCapability id function (word Address)) (is, is', refl), omega arith);
  }
  step_at (LoadCapability id function address) (is, is', is'') = record {
    wants_is = refl;
    inside = map_laws.inside l words (Slot slot Capability) laid_out running.is_slot;
    fits = map_laws.fits l (Slot slot Capability) laid_out.well_formed running.is_slot;
    leaves = map_laws.one_part l words (Slot slot Capability) (word Capability) laid_out running.is_slot;
    known = told id function address is is' is'';
  }

pub steps : (l : Layout) (words : List ℕ) (slot generation : ℕ) (piece : BeginThread) → IsLaidOut l words → OfSlot l words slot generation piece → BeginSteps l words slot generation piece
steps l words slot generation piece laid_out is =
    subst (λ slots. BeginSteps l words slot generation (record piece { slots = slots })) (sym is.slots_are)
    (subst (λ s. BeginSteps l words slot generation (record { slots = l.slots; slot = s; stage = piece.stage })) (sym is.slot_is)
    (step_at l words slot generation laid_out is.running piece.stage is.loaded))

pub starts : (l : Layout) (words : List ℕ) (slot generation : ℕ) → IsRunning l words slot generation → OfSlot l words slot generation (begin_thread l.slots slot)
unfolding IsLoaded
starts l words slot generation running = record { running = running; slots_are = refl; slot_is = refl; loaded = tt }

IsLoaded-kept : (l : Layout) (old new : List ℕ) (slot generation : ℕ) (stage : BeginStage) → KeepsThread l old new slot → IsLoaded l old slot generation stage → IsLoaded l new slot generation stage
unfolding IsLoaded
IsLoaded-kept l old new slot generation LoadState same loaded = tt
IsLoaded-kept l old new slot generation (LoadFunction id) same loaded = loaded
IsLoaded-kept l old new slot generation (LoadAddress id function) same (is, is') = (is, is' ∙ sym same.function)
IsLoaded-kept l old new slot generation (LoadCapability id function address) same (is, is', is'') = (is, is' ∙ sym same.function, is'' ∙ sym same.address)

pub keeps : (l : Layout) (old new : List ℕ) (slot generation : ℕ) (piece : BeginThread) → KeepsThread l old new slot → OfSlot l old slot generation piece → OfSlot l new slot generation piece
keeps l old new slot generation piece same is = record {
  running = record {
    is_slot = is.running.is_slot;
    few = is.running.few;
    state = same.state ∙ is.running.state;
    function = subst (λ n. n < 2 ^ 32) (sym same.function) is.running.function;
  };
  slots_are = is.slots_are;
  slot_is = is.slot_is;
  loaded = IsLoaded-kept l old new slot generation piece.stage same is.loaded;
}

-- ---- alone
module _ (l : Layout) (words : List ℕ) (slot generation : ℕ) (laid_out : IsLaidOut l words) (running : IsRunning l words slot generation) where
  abbrev Holds : List ℕ → BeginThread → Type 0
  Holds w piece = (w ≡ words) × OfSlot l words slot generation piece

  abbrev Ends : List ℕ → Beginning → Type 0
  Ends w out = (out ≡ beginning_in l words slot generation) × (w ≡ words)

  abbrev Alone : List ℕ → BeginThread → Type 0
  Alone = StepsAlone begin_work (λ p. begin_steps p.stage) Holds Ends

  -- a load leaves the words
  alone : (piece : BeginThread) (w : List ℕ) → Holds w piece → Alone w piece
  alone piece w (stays, is) =
      let part : Part = Slot slot (begin_word piece.stage) in
      let op : WordOp = Load (place_of l part) in
      let same : words_after op words ≡ words = set-get_or words (place_of l part) 0 in
      subst (λ ws. Alone ws piece) (sym stays)
      (alone_by begin_work (λ p. begin_steps p.stage) words piece op (λ word left. ChangesOnly l words left part word) (λ ws p. OfSlot l ws slot generation p) Holds (λ ws out. out ≡ beginning_in l words slot generation) Ends (steps l words slot generation piece laid_out is)
      (λ p holds. (same, subst (λ ws. OfSlot l ws slot generation p) same holds))
      (λ out told. (told, same)))

  pub ends : EndsAlone begin_work 4 (begin_thread l.slots slot) words (λ out w. Ends w out)
  unfolding begin_steps
  ends = ends_alone begin_work (λ p. begin_steps p.stage) Holds Ends alone 4 (begin_thread l.slots slot) words (refl, starts l words slot generation running) (omega arith)
