-- What a store leaves to be read.
use Rattle.std.proofs.Common.{◌≡◌, ◌≢◌, ◌⊎◌, inl, inr, ⊎_elim, ℕ, zero, suc, ◌+◌, ◌/◌, ◌%◌, ◌<◌, ◌≤◌, List, [], ◌∷◌, ◌++◌, length, map, true, Option, Some, None, refl, sym, ◌∙◌, ap, subst, arith}
use Rattle.std.proofs.lemmas.Bool.{cases_eq}
use Rattle.std.proofs.lemmas.List.{length-map, length-replicate}
use Rattle.std.proofs.lemmas.Option.{slice_get-get_or}
use Rattle.std.proofs.lemmas.Grind.{div_ceil_times}
use Rattle.std.specs.Prelude.{slice_get, unwrap_or, option_map, get_or, zip}
use Rattle.filc_num.specs.Statics.{payload_words_of}
use Rattle.filc_num.specs.WordBytes.{bytes_of, with_bytes, IsApart}
use Rattle.filc_num.proofs.WordBytes.{got_bytes, apart_bytes}
use Rattle.ideal_machine.specs.declared.value.Half.{Half}
use Rattle.ideal_machine.specs.declared.value.Half.TheVariants.{Object as ObjectHalf}
use Rattle.ideal_machine.specs.declared.value.Kept.{Kept}
use Rattle.ideal_machine.specs.declared.value.Kept.TheVariants as kept
use Rattle.ideal_machine.specs.declared.value.Found.TheVariants.{Plain, Pair as FoundPair}
use Rattle.ideal_machine.specs.declared.event.Access.{Access}
use Rattle.ideal_machine.specs.Memory.{Word, Object, Pair, Memory, no_object, zero_word, object_at, word_at}
use Rattle.ideal_machine.specs.Words.{with_element, with_word, integer_at, with_integer, with_pair, with_half}
use Rattle.ideal_machine.specs.Names.{object_under}
use Rattle.ideal_machine.specs.Effects.{new_object, with_freed}
use Rattle.ideal_machine.specs.Stores.{AreWhole, ObjectsAreWholeFirst, ObjectsStayWhole, StoredIntegersAreRead, OtherIntegersStay, StoredHalvesAreFound, OtherHalvesStay}
use Rattle.ideal_machine.proofs.Elements.{get-with_same, get-with_other, length-with_element, FromElement, as_it_was, as_changed, element_from, FromAdded, earlier, added, added_from}
use Rattle.ideal_machine.proofs.EffectCases.{OfEachChange, of_effect}
use Rattle.ideal_machine.proofs.Inside.{access_inside, word_inside, some_width}
use Rattle.ideal_machine.proofs.ObjectsApart.{static_at}

-- ---- a word once it was changed

-- the word itself
word_changed :
    (memory : Memory) (object word : ℕ) (change : Word → Word) (o : Object) → slice_get memory.objects object ≡ Some o → word < length o.words →
    word_at (with_word memory object word change) object word ≡ change (word_at memory object word)
word_changed memory object word change o at inside =
    let w = get_or o.words word zero_word in
    let at_w : slice_get o.words word ≡ Some w = slice_get-get_or o.words word zero_word inside in
    let new = λ (o : Object). record o { words = with_element o.words word change } in
    let object_is : object_at (with_word memory object word change) object ≡ new o =
    ap (λ x. unwrap_or x no_object) (get-with_same memory.objects object new ∙ ap (option_map new) at) in
    let word_is : slice_get (with_element o.words word change) word ≡ Some (change w) =
    get-with_same o.words word change ∙ ap (option_map change) at_w in
    let old : word_at memory object word ≡ w =
    ap (λ x. unwrap_or (slice_get (unwrap_or x no_object).words word) zero_word) at ∙ ap (λ x. unwrap_or x zero_word) at_w in
    ap (λ (x : Object). unwrap_or (slice_get x.words word) zero_word) object_is ∙ ap (λ x. unwrap_or x zero_word) word_is ∙ sym (ap change old)

-- any other word
other_object :
    (memory : Memory) (object word other at : ℕ) (change : Word → Word) → object ≢ other →
    word_at (with_word memory object word change) other at ≡ word_at memory other at
other_object memory object word other at change ne =
    ap (λ x. unwrap_or (slice_get (unwrap_or x no_object).words at) zero_word)
    (get-with_other memory.objects object other (λ o. record o { words = with_element o.words word change }) (λ e. ne (sym e)))

other_word :
    (memory : Memory) (object word at : ℕ) (change : Word → Word) → word ≢ at →
    word_at (with_word memory object word change) object at ≡ word_at memory object at
other_word memory object word at change ne =
    ap (λ x. unwrap_or (slice_get (unwrap_or x no_object).words at) zero_word) (get-with_same memory.objects object new)
    ∙ by_object (slice_get memory.objects object)
  where
    new : Object → Object
    new o = record o { words = with_element o.words word change }

    by_object :
        (x : Option Object) →
        unwrap_or (slice_get (unwrap_or (option_map (λ (o : Object). record o { words = with_element o.words word change }) x) no_object).words at) zero_word
        ≡ unwrap_or (slice_get (unwrap_or x no_object).words at) zero_word
    by_object None = refl
    by_object (Some o) = ap (λ x. unwrap_or x zero_word) (get-with_other o.words word at change (λ e. ne (sym e)))

other_stays :
    (memory : Memory) (object word other at : ℕ) (change : Word → Word) → (object ≢ other) ⊎ (word ≢ at) →
    word_at (with_word memory object word change) other at ≡ word_at memory other at
other_stays memory object word other at change (inl ne) = other_object memory object word other at change ne
other_stays memory object word other at change (inr ne) =
    ⊎_elim
    (λ same.
    subst (λ x. word_at (with_word memory object word change) x at ≡ word_at memory x at) same (other_word memory object word at change ne))
    (λ ne'. other_object memory object word other at change ne')
    (cases_eq object other)

-- ---- integers

word_of_access : (offset width bytes : ℕ) → 0 < width → offset + width ≤ bytes → offset / 8 < payload_words_of bytes
word_of_access offset width bytes some inside = omega (arith, some, inside, (div_ceil_times bytes 8 (omega arith)).0)

pub stored_integers_are_read : StoredIntegersAreRead
stored_integers_are_read memory access value whole h =
    let at = access_inside memory access h in
    let some = some_width access.width h.width in
    let inside : access.offset / 8 < length at.object.words =
    omega (arith, whole access.object at.object at.there, word_of_access access.offset access.width at.object.bytes some at.inside) in
    let change = λ (w : Word). record w { integer = with_bytes w.integer (access.offset % 8) access.width value } in
    ap (λ (w : Word). bytes_of w.integer (access.offset % 8) access.width)
    (word_changed memory access.object (access.offset / 8) change at.object at.there inside)
    ∙ got_bytes (word_at memory access.object (access.offset / 8)).integer (access.offset % 8) access.width value

apart_within :
    (a w b v : ℕ) → a / 8 ≡ b / 8 → IsApart a w b v → IsApart (a % 8) w (b % 8) v
apart_within a w b v same (inl le) = inl (omega (arith, same, le))
apart_within a w b v same (inr le) = inr (omega (arith, same, le))

module _ (memory : Memory) (stored read : Access) (value : ℕ) where
  abbrev change : Word → Word
  change w = record w { integer = with_bytes w.integer (stored.offset % 8) stored.width value }

  abbrev read_from : Word → ℕ
  read_from w = bytes_of w.integer (read.offset % 8) read.width

  elsewhere : (stored.object ≢ read.object) ⊎ (stored.offset / 8 ≢ read.offset / 8) → integer_at (with_integer memory stored value) read ≡ integer_at memory read
  elsewhere ne = ap read_from (other_stays memory stored.object (stored.offset / 8) read.object (read.offset / 8) change ne)

  -- the word that was changed, or one that isn't there
  in_place : IsApart (stored.offset % 8) stored.width (read.offset % 8) read.width →
      read_from (word_at (with_word memory stored.object (stored.offset / 8) change) stored.object (stored.offset / 8))
      ≡ read_from (word_at memory stored.object (stored.offset / 8))
  in_place apart =
      ap (λ x. read_from (unwrap_or (slice_get (unwrap_or x no_object).words (stored.offset / 8)) zero_word))
      (get-with_same memory.objects stored.object (λ o. record o { words = with_element o.words (stored.offset / 8) change }))
      ∙ by_object (slice_get memory.objects stored.object)
    where
      by_word : (x : Option Word) → read_from (unwrap_or (option_map change x) zero_word) ≡ read_from (unwrap_or x zero_word)
      by_word None = refl
      by_word (Some w) = apart_bytes w.integer (stored.offset % 8) stored.width value (read.offset % 8) read.width apart

      by_object :
          (x : Option Object) →
          read_from (unwrap_or (slice_get (unwrap_or (option_map (λ (o : Object). record o { words = with_element o.words (stored.offset / 8) change }) x) no_object).words (stored.offset / 8)) zero_word)
          ≡ read_from (unwrap_or (slice_get (unwrap_or x no_object).words (stored.offset / 8)) zero_word)
      by_object None = refl
      by_object (Some o) =
          ap (λ x. read_from (unwrap_or x zero_word)) (get-with_same o.words (stored.offset / 8) change)
          ∙ by_word (slice_get o.words (stored.offset / 8))

  same_word :
      stored.object ≡ read.object → stored.offset / 8 ≡ read.offset / 8 → IsApart stored.offset stored.width read.offset read.width →
      integer_at (with_integer memory stored value) read ≡ integer_at memory read
  same_word object word apart =
      subst (λ o. read_from (word_at (with_integer memory stored value) o (read.offset / 8)) ≡ read_from (word_at memory o (read.offset / 8))) object
      (subst (λ k. read_from (word_at (with_integer memory stored value) stored.object k) ≡ read_from (word_at memory stored.object k)) word
      (in_place (apart_within stored.offset stored.width read.offset read.width word apart)))

pub other_integers_stay : OtherIntegersStay
other_integers_stay memory stored read value (inl ne) = elsewhere memory stored read value (inl ne)
other_integers_stay memory stored read value (inr apart) =
    ⊎_elim
    (λ object.
    ⊎_elim (λ word. same_word memory stored read value object word apart) (λ ne. elsewhere memory stored read value (inr ne))
    (cases_eq (stored.offset / 8) (read.offset / 8)))
    (λ ne. elsewhere memory stored read value (inl ne))
    (cases_eq stored.object read.object)

-- ---- halves

last_pair : (pairs : List Pair) (pair : Pair) → slice_get (pairs ++ pair ∷ []) (length pairs) ≡ Some pair
last_pair [] pair = refl
last_pair (p ∷ pairs) pair = last_pair pairs pair

pub stored_halves_are_found : StoredHalvesAreFound
stored_halves_are_found memory object word address half h =
    let at = word_inside memory object word h in
    let paired = with_pair memory address half in (
      ap (λ (w : Word). w.half) (word_changed memory object word (λ w. record w { half = Plain half }) at.object at.there at.inside),
      ap (λ (w : Word). w.half) (word_changed paired object word (λ w. record w { half = FoundPair (length memory.pairs) }) at.object at.there at.inside),
      last_pair memory.pairs (record { address = address; half = half }),
    )

pub other_halves_stay : OtherHalvesStay
other_halves_stay memory object word other at (kept.Plain half) ne =
    ap (λ (w : Word). w.half) (other_stays memory object word other at (λ w. record w { half = Plain half }) ne)
other_halves_stay memory object word other at (kept.Pair address half) ne =
    ap (λ (w : Word). w.half) (other_stays (with_pair memory address half) object word other at (λ w. record w { half = FoundPair (length memory.pairs) }) ne)

-- ---- the words of an object

whole_changed :
    (objects : List Object) (n : ℕ) (change : Object → Object) →
    ((o : Object) → ((change o).bytes ≡ o.bytes) × (length (change o).words ≡ length o.words)) → AreWhole objects → AreWhole (with_element objects n change)
whole_changed objects n change same whole k o at = by_object (element_from objects n change k o at)
  where
    by_object : FromElement objects n change k o → length o.words ≡ payload_words_of o.bytes
    by_object (as_it_was e) = whole k o e
    by_object (as_changed old e is_n is) =
        subst (λ (o : Object). length o.words ≡ payload_words_of o.bytes) (sym is)
        ((same old).1 ∙ (whole k old e ∙ ap payload_words_of (sym (same old).0)))

whole_added : (objects : List Object) (bytes kind address : ℕ) → AreWhole objects → AreWhole (map (object_under (new_object bytes kind address)) objects ++ new_object bytes kind address ∷ [])
whole_added objects bytes kind address whole k o at = by_object (added_from objects (object_under new) new k o at)
  where
    new : Object
    new = new_object bytes kind address

    by_object : FromAdded objects (object_under (new_object bytes kind address)) (new_object bytes kind address) k o → length o.words ≡ payload_words_of o.bytes
    by_object (earlier old e is) = subst (λ (o : Object). length o.words ≡ payload_words_of o.bytes) (sym is) (whole k old e)
    by_object (added e is) =
        subst (λ (o : Object). length o.words ≡ payload_words_of o.bytes) (sym is) (length-replicate (payload_words_of bytes) zero_word)

abbrev StaysWhole : Memory → Memory → Type 0
StaysWhole memory after = AreWhole memory.objects → AreWhole after.objects

word_whole : (memory : Memory) (object word : ℕ) (change : Word → Word) → StaysWhole memory (with_word memory object word change)
word_whole memory object word change =
    whole_changed memory.objects object (λ o. record o { words = with_element o.words word change })
    (λ o. (refl, length-with_element o.words word change))

half_whole : (memory : Memory) (object word : ℕ) (half : Kept) → StaysWhole memory (with_half memory object word half)
half_whole memory object word (kept.Plain half) = word_whole memory object word (λ w. record w { half = Plain half })
half_whole memory object word (kept.Pair address half) =
    word_whole (with_pair memory address half) object word (λ w. record w { half = FoundPair (length memory.pairs) })

freed_whole : (memory : Memory) (half : Half) → StaysWhole memory (with_freed memory half)
freed_whole memory (ObjectHalf n) = whole_changed memory.objects n (λ o. record o { freed = true }) (λ o. (refl, refl))
freed_whole memory half = λ h. h

whole_cases : (memory : Memory) → OfEachChange (StaysWhole memory) memory
whole_cases memory = record {
  same = λ h. h;
  integer = λ access value. word_whole memory _ _ _;
  half = half_whole memory;
  new = λ bytes kind address. whole_added memory.objects bytes kind address;
  freed = freed_whole memory;
  slot = λ n change h. h;
  byte = λ byte h. h;
  input = λ h. h;
  cycle = λ cycle h. h;
  finish = λ finish h. h;
}

pub objects_stay_whole : ObjectsStayWhole
objects_stay_whole memory actor event answer = of_effect (StaysWhole memory) memory (whole_cases memory) actor event answer

length-zip : {A B : Type 0} (xs : List A) (ys : List B) (n : ℕ) → length xs ≡ n → length ys ≡ n → length (zip xs ys) ≡ n
length-zip [] ys n e e' = e
length-zip (x ∷ xs) [] n e e' = e'
length-zip (x ∷ xs) (y ∷ ys) zero e e' = absurd (omega (arith, e))
length-zip (x ∷ xs) (y ∷ ys) (suc n) e e' =
    ap (λ (k : ℕ). suc k) (length-zip xs ys n (omega (arith, e)) (omega (arith, e')))

pub objects_are_whole_first : ObjectsAreWholeFirst
objects_are_whole_first world statics main whole n o at =
    let s = static_at world statics 0 statics n o at in
    let lengths = whole n s.0 s.1 in
    subst (λ (o : Object). length o.words ≡ payload_words_of o.bytes) (sym s.2)
    (length-map (zip s.0.words s.0.halves) _ ∙ length-zip s.0.words s.0.halves (payload_words_of s.0.bytes) lengths.0 lengths.1)
