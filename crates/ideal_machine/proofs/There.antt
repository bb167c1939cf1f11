-- Every half that is kept names an object that is there.
use Rattle.std.proofs.Common.{◌≡◌, ◌≢◌, ⊎_elim, ℕ, zero, suc, ◌%◌, ◌<◌, ◌≤◌, List, [], ◌∷◌, ◌++◌, length, map, true, Option, Some, None, refl, sym, ◌∙◌, ap, subst, arith, length-append}
use Rattle.std.proofs.lemmas.List.{length-map, map-id}
use Rattle.std.proofs.lemmas.List.Elements.{All-nil, All-cons}
use Rattle.std.specs.Prelude.{slice_get, option_map, All, ◌==◌, ◌^◌, replicate, unwrap_or}
use Rattle.std.specs.Prelude.{IsSomeAnd, zip}
use Rattle.std.specs.List.{enumerate_from}
use Rattle.std.proofs.lemmas.List.FromFn.{length-enumerate_from}
use Rattle.filc_num.specs.StaticDefs.{PlainStatic}
use Rattle.filc_num.specs.declared.statics.StaticHalf.{StaticHalf}
use Rattle.filc_num.specs.declared.statics.StaticHalf.TheVariants as static
use Rattle.filc_num.specs.declared.reason.Reason.{Reason}
use Rattle.ideal_machine.specs.declared.value.Half.{Half}
use Rattle.ideal_machine.specs.declared.value.Half.TheVariants.{Nothing, Freed, Object as ObjectHalf, Function}
use Rattle.ideal_machine.specs.declared.value.Kept.{Kept}
use Rattle.ideal_machine.specs.declared.value.Kept.TheVariants as kept
use Rattle.ideal_machine.specs.declared.value.Found.{Found}
use Rattle.ideal_machine.specs.declared.value.Found.TheVariants.{Plain, Pair as FoundPair}
use Rattle.ideal_machine.specs.declared.event.Access.{Access}
use Rattle.ideal_machine.specs.declared.event.Event.TheVariants.{Check, GetInt, SetInt, RmwInt, CasInt, GetHalf, Open, SetHalf, CasHalf, New, Void, Size, Name, Lock, Out, Input, Spawn, Begin, End, Join, Collected, Exit, Trap}
use Rattle.ideal_machine.specs.declared.event.Answer.{Answer}
use Rattle.ideal_machine.specs.declared.event.Answer.TheVariants.{Granted, Done, Number, Found as FoundAnswer, Opened, Made}
use Rattle.ideal_machine.specs.Memory.{Word, Object, Pair, Slot, SlotState, Free, Started, Running, Ended, Memory, World, zero_word, no_object}
use Rattle.ideal_machine.specs.Words.{with_element, with_word, with_integer, operation_result, with_result, half_at, integer_at, with_pair, with_half, is_seen, lock_access}
use Rattle.ideal_machine.specs.Names.{half_names, kept_names, seen_names, found_names, answer_names, object_under, with_new_object, IsShown, IsFoundAs}
use Rattle.ideal_machine.specs.Allows.{state_of, refusal_or, IsOpened}
use Rattle.ideal_machine.specs.Beginning.{first_word, first_memory}
use Rattle.ideal_machine.specs.Refusals.{check_refusal, void_refusal, bytes_behind}
use Rattle.ideal_machine.specs.Effects.{new_object, with_freed, at_state, next_generation, with_slot}
use Rattle.ideal_machine.specs.There.{HalfIsThere, FoundIsThere, HalvesAreThere, StaticHalfIsThere, StaticHalvesAreThere, HalvesAreThereFirst, HalvesStayThere, AnswersNameObjects}
use Rattle.ideal_machine.proofs.Elements.{length-with_element, FromElement, as_it_was, as_changed, element_from, FromAdded, earlier, added, added_from}
use Rattle.ideal_machine.proofs.EffectCases.{either}
use Rattle.ideal_machine.proofs.ObjectsApart.{static_at}
use Rattle.ideal_machine.proofs.Makers.{first_state}

-- ---- what is there stays there

half_grows : (c d : ℕ) (half : Half) → c ≤ d → HalfIsThere c half → HalfIsThere d half
half_grows c d (ObjectHalf n) le h = omega (arith, le, h)
half_grows c d Nothing le h = tt
half_grows c d Freed le h = tt
half_grows c d (Function f) le h = tt

found_grows : (c d p q : ℕ) (found : Found) → c ≤ d → p ≤ q → FoundIsThere c p found → FoundIsThere d q found
found_grows c d p q (Plain half) le le' h = half_grows c d half le h
found_grows c d p q (FoundPair n) le le' h = omega (arith, le', h)

-- ---- names

all_tail : (P : ℕ → Type 0) (x : ℕ) (xs : List ℕ) → All P (x ∷ xs) → All P xs
all_tail P x xs h k d lt = h (suc k) d (omega (arith, lt))

all_behind : (P : ℕ → Type 0) (xs ys : List ℕ) → All P (xs ++ ys) → All P ys
all_behind P [] ys h = h
all_behind P (x ∷ xs) ys h = all_behind P xs ys (all_tail P x (xs ++ ys) h)

named_half : (c : ℕ) (half : Half) → All (λ n. n < c) (half_names half) → HalfIsThere c half
named_half c (ObjectHalf n) h = h 0 n (omega arith)
named_half c Nothing h = tt
named_half c Freed h = tt
named_half c (Function f) h = tt

-- the half of what is to be stored
abbrev half_of : Kept → Half
half_of (kept.Plain half) = half
half_of (kept.Pair address half) = half

named_kept : (c : ℕ) (half : Kept) → All (λ n. n < c) (kept_names half) → HalfIsThere c (half_of half)
named_kept c (kept.Plain half) h = named_half c half h
named_kept c (kept.Pair address half) h = named_half c half h

-- ---- words

-- each word's half has a property
abbrev EachHalf : (Found → Type 0) → List Object → Type 0
EachHalf P objects = (n k : ℕ) (o : Object) (w : Word) → slice_get objects n ≡ Some o → slice_get o.words k ≡ Some w → P w.half

each_changed :
    (P : Found → Type 0) (objects : List Object) (object word : ℕ) (change : Word → Word) → ((w : Word) → P w.half → P (change w).half) →
    EachHalf P objects → EachHalf P (with_element objects object (λ o. record o { words = with_element o.words word change }))
each_changed P objects object word change keeps h n k o w at_o at_w =
    by_object (element_from objects object (λ o. record o { words = with_element o.words word change }) n o at_o)
  where
    by_word : (old : Object) → slice_get objects n ≡ Some old → FromElement old.words word change k w → P w.half
    by_word old at (as_it_was e) = h n k old w at e
    by_word old at (as_changed x e same is) = subst (λ w. P w.half) (sym is) (keeps x (h n k old x at e))

    by_object : FromElement objects object (λ o. record o { words = with_element o.words word change }) n o → P w.half
    by_object (as_it_was e) = h n k o w e at_w
    by_object (as_changed old e same is) =
        by_word old e (element_from old.words word change k w (subst (λ o. slice_get o.words k ≡ Some w) is at_w))

each_same :
    (P : Found → Type 0) (objects : List Object) (object : ℕ) (change : Object → Object) → ((o : Object) → (change o).words ≡ o.words) →
    EachHalf P objects → EachHalf P (with_element objects object change)
each_same P objects object change same h n k o w at_o at_w = by_object (element_from objects object change n o at_o)
  where
    by_object : FromElement objects object change n o → P w.half
    by_object (as_it_was e) = h n k o w e at_w
    by_object (as_changed old e at is) =
        h n k old w e (ap (λ l. slice_get l k) (sym (same old)) ∙ subst (λ o. slice_get o.words k ≡ Some w) is at_w)

zero_words : (count k : ℕ) (w : Word) → slice_get (replicate count zero_word) k ≡ Some w → w ≡ zero_word
zero_words zero k w e = absurd (cc)
zero_words (suc count) zero w e = cc
zero_words (suc count) (suc k) w e = zero_words count k w e

each_added :
    (P : Found → Type 0) (objects : List Object) (bytes kind address : ℕ) → P (Plain Nothing) → EachHalf P objects →
    EachHalf P (map (object_under (new_object bytes kind address)) objects ++ new_object bytes kind address ∷ [])
each_added P objects bytes kind address nothing h n k o w at_o at_w =
    by_object (added_from objects (object_under (new_object bytes kind address)) (new_object bytes kind address) n o at_o)
  where
    by_object : FromAdded objects (object_under (new_object bytes kind address)) (new_object bytes kind address) n o → P w.half
    by_object (earlier x e is) = h n k x w e (subst (λ o. slice_get o.words k ≡ Some w) is at_w)
    by_object (added at is) =
        let zeros = zero_words _ k w (subst (λ o. slice_get o.words k ≡ Some w) is at_w) in
        subst (λ w. P w.half) (sym zeros) nothing

-- ---- memories

-- the halves of a memory name ones of so many objects and pairs
pub record AreAmong (objects pairs : ℕ) (memory : Memory) : Type 0 where
  pub words : EachHalf (FoundIsThere objects pairs) memory.objects
  pub of_pairs : (n : ℕ) (pair : Pair) → slice_get memory.pairs n ≡ Some pair → HalfIsThere objects pair.half
  pub slots :
      (actor function address : ℕ) (half : Half) → state_of memory actor ≡ Some (Started function address half) → HalfIsThere objects half

among : (memory : Memory) → HalvesAreThere memory → AreAmong (length memory.objects) (length memory.pairs) memory
among memory h = record { words = h.words; of_pairs = h.pairs; slots = h.slots }

are_there : (objects pairs : ℕ) (memory : Memory) → objects ≤ length memory.objects → pairs ≤ length memory.pairs → AreAmong objects pairs memory → HalvesAreThere memory
are_there c p memory le le' h = record {
  words = λ n k o w at_o at_w. found_grows c (length memory.objects) p (length memory.pairs) w.half le le' (h.words n k o w at_o at_w);
  pairs = λ n pair at. half_grows c (length memory.objects) pair.half le (h.of_pairs n pair at);
  slots = λ actor f a half at. half_grows c (length memory.objects) half le (h.slots actor f a half at);
}

module _ (memory : Memory) (h : HalvesAreThere memory) where
  abbrev objects : ℕ
  objects = length memory.objects

  abbrev pairs : ℕ
  pairs = length memory.pairs

  word_there :
      (object word : ℕ) (change : Word → Word) → ((w : Word) → FoundIsThere objects pairs w.half → FoundIsThere objects pairs (change w).half) →
      HalvesAreThere (with_word memory object word change)
  word_there object word change keeps =
      are_there objects pairs (with_word memory object word change)
      (omega (arith, length-with_element memory.objects object (λ o. record o { words = with_element o.words word change }))) (omega arith)
      (record { words = each_changed (FoundIsThere objects pairs) memory.objects object word change keeps h.words; of_pairs = h.pairs; slots = h.slots })

  integer_there : (access : Access) (value : ℕ) → HalvesAreThere (with_integer memory access value)
  integer_there access value = word_there _ _ _ (λ w there. there)

  result_there : (access : Access) (o : Option ℕ) → HalvesAreThere (with_result memory access o)
  result_there access None = h
  result_there access (Some value) = integer_there access value

  pair_there : (address : ℕ) (half : Half) → HalfIsThere objects half → (n : ℕ) (pair : Pair) →
      slice_get (map (λ (p : Pair). p) memory.pairs ++ record { address = address; half = half } ∷ []) n ≡ Some pair → HalfIsThere objects pair.half
  pair_there address half there n pair at = by_pair (added_from memory.pairs (λ (p : Pair). p) (record { address = address; half = half }) n pair at)
    where
      by_pair : FromAdded memory.pairs (λ (p : Pair). p) (record { address = address; half = half }) n pair → HalfIsThere objects pair.half
      by_pair (earlier x e is) = h.pairs n pair (e ∙ ap (λ p. Some p) (sym is))
      by_pair (added e is) = subst (λ p. HalfIsThere objects p.half) (sym is) there

  with_pair_there : (address : ℕ) (half : Half) → HalfIsThere objects half → HalvesAreThere (with_pair memory address half)
  with_pair_there address half there =
      let pair : Pair = record { address = address; half = half } in
      let all : map (λ (p : Pair). p) memory.pairs ≡ memory.pairs = map-id memory.pairs in
      are_there objects pairs (with_pair memory address half) (omega arith) (omega (arith, length-append memory.pairs (pair ∷ [])))
      (record {
        words = h.words;
        of_pairs = λ n p at.
            pair_there address half there n p (subst (λ l. slice_get (l ++ pair ∷ []) n ≡ Some p) (sym all) at);
        slots = h.slots;
      })

  freed_there : (half : Half) → HalvesAreThere (with_freed memory half)
  freed_there (ObjectHalf n) =
      are_there objects pairs (with_freed memory (ObjectHalf n))
      (omega (arith, length-with_element memory.objects n (λ o. record o { freed = true }))) (omega arith)
      (record { words = each_same (FoundIsThere objects pairs) memory.objects n (λ o. record o { freed = true }) (λ o. refl) h.words; of_pairs = h.pairs; slots = h.slots })
  freed_there half = h

  new_there : (bytes kind address : ℕ) → HalvesAreThere (with_new_object memory (new_object bytes kind address))
  new_there bytes kind address =
      let new = new_object bytes kind address in
      are_there objects pairs (with_new_object memory new)
      (omega (arith, length-append (map (object_under new) memory.objects) (new ∷ []), length-map memory.objects (object_under new))) (omega arith)
      (record { words = each_added (FoundIsThere objects pairs) memory.objects bytes kind address tt h.words; of_pairs = h.pairs; slots = h.slots })

  -- a slot's new state has a half that is there, if any
  pub slot_there :
      (n : ℕ) (change : Slot → Slot) →
      ((slot : Slot) (f a : ℕ) (half : Half) → (change slot).state ≡ Started f a half → HalfIsThere objects half) →
      HalvesAreThere (with_slot memory n change)
  slot_there n change starts = record {
    words = h.words;
    pairs = h.pairs;
    slots = λ actor f a half at. by_slot actor f a half (slice_get (with_element memory.slots n change) actor) refl at;
  }
    where
      by_source : (actor f a : ℕ) (half : Half) (slot : Slot) → slot.state ≡ Started f a half → FromElement memory.slots n change actor slot → HalfIsThere objects half
      by_source actor f a half slot state (as_it_was e) =
          h.slots actor f a half (ap (option_map (λ (s : Slot). s.state)) e ∙ ap (λ s. Some s) state)
      by_source actor f a half slot state (as_changed x e same is) =
          starts x f a half (subst (λ (s : Slot). s.state ≡ Started f a half) is state)

      by_slot :
          (actor f a : ℕ) (half : Half) (o : Option Slot) → slice_get (with_element memory.slots n change) actor ≡ o →
          option_map (λ (s : Slot). s.state) o ≡ Some (Started f a half) → HalfIsThere objects half
      by_slot actor f a half None at e = absurd (cc)
      by_slot actor f a half (Some slot) at e =
          let state : slot.state ≡ Started f a half = cc in
          by_source actor f a half slot state (element_from memory.slots n change actor slot at)

  starts_none : (state : SlotState) → ((f a : ℕ) (half : Half) → state ≢ Started f a half) → (n : ℕ) → HalvesAreThere (with_slot memory n (at_state state))
  starts_none state none n = slot_there n (at_state state) (λ slot f a half e. absurd (none f a half e))

  started_there : (f a : ℕ) (half : Half) → HalfIsThere objects half → (n : ℕ) → HalvesAreThere (with_slot memory n (at_state (Started f a half)))
  started_there f a half there n =
      slot_there n (at_state (Started f a half))
      (λ slot f' a' half' e. let is : half ≡ half' = cc in subst (HalfIsThere objects) is there)

half_there :
    (memory : Memory) (h : HalvesAreThere memory) (object word : ℕ) (half : Kept) → HalfIsThere (length memory.objects) (half_of half) →
    HalvesAreThere (with_half memory object word half)
half_there memory h object word (kept.Plain half) there = word_there memory h object word (λ w. record w { half = Plain half }) (λ w _. there)
half_there memory h object word (kept.Pair address half) there =
    let pair : Pair = record { address = address; half = half } in
    word_there (with_pair memory address half) (with_pair_there memory h address half there) object word
    (λ w. record w { half = FoundPair (length memory.pairs) }) (λ w _. omega (arith, length-append memory.pairs (pair ∷ [])))

pub halves_stay_there : HalvesStayThere
halves_stay_there world memory actor (SetInt access value) Done h allowed = integer_there memory h access value
halves_stay_there world memory actor (RmwInt access operation value) (Number old) h allowed =
    result_there memory h access (operation_result operation old value)
halves_stay_there world memory actor (CasInt access expected desired) (Number old) h allowed =
    either HalvesAreThere (old == expected % 256 ^ access.width) (with_integer memory access desired) memory (integer_there memory h access desired) h
halves_stay_there world memory actor (SetHalf object word half) Done h allowed =
    half_there memory h object word half (named_kept (length memory.objects) half (all_tail (λ n. n < length memory.objects) object (kept_names half) allowed.objects))
halves_stay_there world memory actor (CasHalf object word seen new) (FoundAnswer found) h allowed =
    let named =
    all_behind (λ n. n < length memory.objects) (seen_names seen) (kept_names new)
    (all_tail (λ n. n < length memory.objects) object (seen_names seen ++ kept_names new) allowed.objects) in
    either HalvesAreThere (is_seen seen found) (with_half memory object word new) memory (half_there memory h object word new (named_kept (length memory.objects) new named)) h
halves_stay_there world memory actor (New bytes kind) (Made object address) h allowed = new_there memory h bytes kind address
halves_stay_there world memory actor (Void half address) Granted h allowed = freed_there memory h half
halves_stay_there world memory actor (Lock object offset) Done h allowed = integer_there memory h (lock_access object offset) 1
halves_stay_there world memory actor (Out byte) Done h allowed = record { words = h.words; pairs = h.pairs; slots = h.slots }
halves_stay_there world memory actor Input (Number byte) h allowed = record { words = h.words; pairs = h.pairs; slots = h.slots }
halves_stay_there world memory actor (Spawn function address half) (Number id) h allowed =
    started_there memory h function address half (named_half _ half allowed.objects) (id % 64)
halves_stay_there world memory actor (Begin function address half) Done h allowed = starts_none memory h Running (λ f a half e. cc) actor
halves_stay_there world memory actor (End result) Done h allowed = starts_none memory h (Ended result) (λ f a half e. cc) actor
halves_stay_there world memory actor (Join id) (Number result) h allowed =
    slot_there memory h (id % 64) next_generation (λ slot f a half e. absurd (cc))
halves_stay_there world memory actor (Collected cycle) Done h allowed = record { words = h.words; pairs = h.pairs; slots = h.slots }
halves_stay_there world memory actor (Exit status) Done h allowed = record { words = h.words; pairs = h.pairs; slots = h.slots }
halves_stay_there world memory actor (Trap reason line) Done h allowed = record { words = h.words; pairs = h.pairs; slots = h.slots }
halves_stay_there world memory actor event answer h allowed = h

-- ---- answers

named_there : (c : ℕ) (half : Half) → HalfIsThere c half → All (λ n. n < c) (half_names half)
named_there c (ObjectHalf n) h = All-cons (λ n. n < c) n [] h (All-nil _)
named_there c Nothing h = All-nil _
named_there c Freed h = All-nil _
named_there c (Function f) h = All-nil _

shown_named : (memory : Memory) (c : ℕ) (half shown : Half) → IsShown memory half shown → HalfIsThere c half → All (λ n. n < c) (half_names shown)
shown_named memory c half shown h there =
    ⊎_elim (λ same. subst (λ half. All (λ n. n < c) (half_names half)) (sym same) (named_there c half there))
    (λ freed. subst (λ half. All (λ n. n < c) (half_names half)) (sym freed.0) (All-nil _)) h

found_named :
    (memory : Memory) (c p : ℕ) (stored found : Found) → IsFoundAs memory stored found → FoundIsThere c p stored → All (λ n. n < c) (found_names found)
found_named memory c p (Plain half) (Plain shown) h there = shown_named memory c half shown h there
found_named memory c p (Plain half) (FoundPair n) h there = All-nil _
found_named memory c p (FoundPair n) (FoundPair m) h there = All-nil _
found_named memory c p (FoundPair n) (Plain shown) h there = absurd (cc)

abbrev ThereIn : Memory → Found → Type 0
ThereIn memory found = FoundIsThere (length memory.objects) (length memory.pairs) found

-- what a word has is there
half_at_there : (memory : Memory) → HalvesAreThere memory → (object word : ℕ) → FoundIsThere (length memory.objects) (length memory.pairs) (half_at memory object word)
half_at_there memory h object word = by_object (slice_get memory.objects object) refl
  where
    by_word : (o : Object) → slice_get memory.objects object ≡ Some o → (w : Option Word) → slice_get o.words word ≡ w → ThereIn memory (unwrap_or w zero_word).half
    by_word o at None at_w = tt
    by_word o at (Some w) at_w = h.words object word o w at at_w

    by_object : (o : Option Object) → slice_get memory.objects object ≡ o → ThereIn memory (unwrap_or (slice_get (unwrap_or o no_object).words word) zero_word).half
    by_object None at = tt
    by_object (Some o) at = by_word o at (slice_get o.words word) refl

no_names : (P : ℕ → Type 0) (answer : Answer) → answer_names answer ≡ [] → All P (answer_names answer)
no_names P answer e = subst (All P) (sym e) (All-nil P)

refusal_names : (otherwise : Answer) (o : Option Reason) → answer_names otherwise ≡ [] → answer_names (refusal_or otherwise o) ≡ []
refusal_names otherwise None e = e
refusal_names otherwise (Some reason) e = refl

module _ (memory : Memory) where
  -- an answer that is known and names nothing
  answer_is : (c : ℕ) (answer known : Answer) → answer ≡ known → answer_names known ≡ [] → All (λ n. n < c) (answer_names answer)
  answer_is c answer known is none = no_names (λ n. n < c) answer (ap answer_names is ∙ none)

  abbrev NamesUpTo : Found → Memory → Type 0
  NamesUpTo found after = All (λ n. n < length after.objects) (found_names found)

  -- a word's half stays named when a half is stored
  named_after : (object word : ℕ) (half : Kept) (found : Found) → NamesUpTo found memory → NamesUpTo found (with_half memory object word half)
  named_after object word (kept.Plain half) found h =
      let stored = λ (o : Object). record o { words = with_element o.words word (λ w. record w { half = Plain half }) } in
      subst (λ c. All (λ n. n < c) (found_names found)) (sym (length-with_element memory.objects object stored)) h
  named_after object word (kept.Pair address half) found h =
      let stored = λ (o : Object). record o { words = with_element o.words word (λ w. record w { half = FoundPair (length memory.pairs) }) } in
      subst (λ c. All (λ n. n < c) (found_names found)) (sym (length-with_element memory.objects object stored)) h

  new_named : (object : ℕ) (new : Object) → object ≡ length memory.objects → All (λ n. n < length (with_new_object memory new).objects) (object ∷ [])
  new_named object new is =
      All-cons (λ n. n < length (with_new_object memory new).objects) object []
      (omega (arith, is, length-append (map (object_under new) memory.objects) (new ∷ []), length-map memory.objects (object_under new))) (All-nil _)

  pair_named :
      HalvesAreThere memory → (pair address : ℕ) (shown : Half) → IsOpened memory pair address shown →
      All (λ n. n < length memory.objects) (half_names shown)
  pair_named h pair address shown opened = by_pair (slice_get memory.pairs pair) refl opened
    where
      by_pair :
          (o : Option Pair) → slice_get memory.pairs pair ≡ o → IsSomeAnd o (λ p. (address ≡ p.address) × IsShown memory p.half shown) →
          All (λ n. n < length memory.objects) (half_names shown)
      by_pair None at opened = absurd opened
      by_pair (Some p) at opened = shown_named memory (length memory.objects) p.half shown opened.1 (h.pairs pair p at)

pub answers_name_objects : AnswersNameObjects
answers_name_objects world memory actor (Check half address width write) answer h allowed =
    ⊎_elim (λ is. answer_is memory _ answer _ is (refusal_names Granted (check_refusal memory half address width write) refl))
    (λ is. answer_is memory _ answer _ is.0 refl) allowed.answers.1
answers_name_objects world memory actor (GetInt access) answer h allowed = answer_is memory _ answer _ allowed.answers.1 refl
answers_name_objects world memory actor (SetInt access value) answer h allowed = answer_is memory _ answer Done allowed.answers.1 refl
answers_name_objects world memory actor (RmwInt access operation value) answer h allowed = answer_is memory _ answer (Number (integer_at memory access)) allowed.answers.2 refl
answers_name_objects world memory actor (CasInt access expected desired) answer h allowed = answer_is memory _ answer (Number (integer_at memory access)) allowed.answers.1 refl
answers_name_objects world memory actor (GetHalf object word) (FoundAnswer found) h allowed =
    found_named memory (length memory.objects) (length memory.pairs) (half_at memory object word) found allowed.answers.1 (half_at_there memory h object word)
answers_name_objects world memory actor (GetHalf object word) answer h allowed = absurd allowed.answers
answers_name_objects world memory actor (Open pair) (Opened address half) h allowed = pair_named memory h pair address half allowed.answers
answers_name_objects world memory actor (Open pair) answer h allowed = absurd allowed.answers
answers_name_objects world memory actor (SetHalf object word half) answer h allowed = answer_is memory _ answer Done allowed.answers.1 refl
answers_name_objects world memory actor (CasHalf object word seen new) (FoundAnswer found) h allowed =
    let named =
    found_named memory (length memory.objects) (length memory.pairs) (half_at memory object word) found allowed.answers.1 (half_at_there memory h object word) in
    either (NamesUpTo memory found) (is_seen seen found) (with_half memory object word new) memory (named_after memory object word new found named) named
answers_name_objects world memory actor (CasHalf object word seen new) answer h allowed = absurd allowed.answers
answers_name_objects world memory actor (New bytes kind) (Made object address) h allowed =
    new_named memory object (new_object bytes kind address) allowed.answers.next
answers_name_objects world memory actor (New bytes kind) (FoundAnswer found) h allowed = absurd allowed.answers
answers_name_objects world memory actor (New bytes kind) (Opened address half) h allowed = absurd allowed.answers
answers_name_objects world memory actor (New bytes kind) answer h allowed = All-nil _
answers_name_objects world memory actor (Void half address) answer h allowed =
    answer_is memory _ answer _ allowed.answers (refusal_names Granted (void_refusal memory half address) refl)
answers_name_objects world memory actor (Size half address) answer h allowed =
    answer_is memory _ answer _ allowed.answers (refusal_names (Number (bytes_behind memory half)) (void_refusal memory half address) refl)
answers_name_objects world memory actor (Name half address) answer h allowed = answer_is memory _ answer Done allowed.answers refl
answers_name_objects world memory actor (Lock object offset) answer h allowed = answer_is memory _ answer Done allowed.answers.2 refl
answers_name_objects world memory actor (Begin function address half) answer h allowed = answer_is memory _ answer Done allowed.answers refl
answers_name_objects world memory actor (End result) answer h allowed = answer_is memory _ answer Done allowed.answers refl
answers_name_objects world memory actor (Collected cycle) answer h allowed = answer_is memory _ answer Done allowed.answers.1 refl
answers_name_objects world memory actor (Exit status) answer h allowed = answer_is memory _ answer Done allowed.answers.1 refl
answers_name_objects world memory actor (Trap reason line) answer h allowed = answer_is memory _ answer Done allowed.answers.1 refl
answers_name_objects world memory actor event (FoundAnswer found) h allowed = absurd allowed.answers
answers_name_objects world memory actor event (Opened address half) h allowed = absurd allowed.answers
answers_name_objects world memory actor event (Made object address) h allowed = absurd allowed.answers
answers_name_objects world memory actor event answer h allowed = All-nil _

-- ---- the first memory

module _ (world : World) (statics : List PlainStatic) (there : StaticHalvesAreThere statics) where
  static_there : (c : ℕ) (n : ℕ) (half : StaticHalf) → c ≡ length statics → StaticHalfIsThere (length statics) half → FoundIsThere c 0 (first_word world statics n half).half
  static_there c n static.None is h = tt
  static_there c n (static.Object s) is h = omega (arith, is, h)
  static_there c n (static.Function f) is h = tt

  -- a word of a static object is made of one of its halves
  word_of_half :
      (words : List ℕ) (halves : List StaticHalf) (k : ℕ) (w : Word) →
      slice_get (map (λ (w : ℕ × StaticHalf). first_word world statics w.0 w.1) (zip words halves)) k ≡ Some w →
      (n : ℕ) × (half : StaticHalf) × (slice_get halves k ≡ Some half) × (w ≡ first_word world statics n half)
  word_of_half [] halves k w e = absurd (cc)
  word_of_half (n ∷ words) [] k w e = absurd (cc)
  word_of_half (n ∷ words) (half ∷ halves) zero w e = (n, half, refl, cc)
  word_of_half (n ∷ words) (half ∷ halves) (suc k) w e = word_of_half words halves k w e

  first_count : (main : ℕ) → length (first_memory world statics main).objects ≡ length statics
  first_count main = length-map (enumerate_from 0 statics) _ ∙ length-enumerate_from 0 statics

  first_there : (main : ℕ) → HalvesAreThere (first_memory world statics main)
  first_there main = record {
    words = λ n k o w at_o at_w.
        let s = static_at world statics 0 statics n o at_o in
        let half = word_of_half s.0.words s.0.halves k w (subst (λ o. slice_get o.words k ≡ Some w) s.2 at_w) in
        subst (λ w. FoundIsThere (length (first_memory world statics main).objects) 0 w.half) (sym half.3)
        (static_there _ half.0 half.1 (first_count main) (there n k s.0 half.1 s.1 half.2));
    pairs = λ n pair at. absurd (cc);
    slots = λ actor f a half at.
        ⊎_elim
        (λ started.
        let is : Started f a half ≡ Started main 0 Nothing = started.1 in
        let none : half ≡ Nothing = cc in
        subst (HalfIsThere (length (first_memory world statics main).objects)) (sym none) tt)
        (λ free. absurd (let e : Started f a half ≡ Free = free in cc))
        (first_state world statics main actor (Started f a half) at);
  }

pub halves_are_there_first : HalvesAreThereFirst
halves_are_there_first world statics main there = first_there world statics there main
