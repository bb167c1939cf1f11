-- Each step of a `PutByte` keeps the output in order.
use Rattle.std.proofs.Common.{◌≡◌, ◌≢◌, ℕ, ◌+◌, ◌-◌, ◌*◌, ◌^◌, ◌<◌, ◌≤◌, List, [], ◌∷◌, ◌++◌, length, Err, inl, inr, slice_index, slice_set, if◌then◌else◌, eqb, refl, sym, ap, ◌∙◌, subst, arith}
use Rattle.std.proofs.lemmas.Bool.{cases_lt}
use Rattle.std.proofs.lemmas.List.{set-get_or, get_or_append_left, get_or_push, length-append}
use Rattle.filc_num.specs.declared.reason.Reason.TheVariants.{OutputLimit}
use Rattle.heap_words.specs.Steps.{IsKnownOf}
use Rattle.heap_words.specs.Work.{Next, with_stage}
use Rattle.heap_words.specs.declared.piece.Step.TheVariants.{More, Done}
use Rattle.heap_words.proofs.Rules.{by_less, by_equal}
use Rattle.object_header.specs.Contents.{IsLaidOut, word_at}
use Rattle.object_header.specs.WordMap.{Layout, Fixed, Output, place_of}
use Rattle.object_header.specs.declared.words.FixedWord.TheVariants.{OutputHint}
use Rattle.object_header.proofs.MapProofs.{map_laws}
use Rattle.thread_slots.specs.Output.{IsWritten}
use Rattle.thread_slots.specs.PutByte.{PutOut, put_place, put_op, look_at, put_next, put_byte, put_left, steps_from, put_part, IsBehind, OfOutput, bytes_after, bytes_put, MakesPut, IsPut, GoesOn, PutSteps}
use Rattle.thread_slots.specs.declared.put_byte.PutByte.{PutByte}
use Rattle.thread_slots.specs.declared.put_byte.PutStage.{PutStage}
use Rattle.thread_slots.specs.declared.put_byte.PutStage.TheVariants.{LoadHint, LoadWord, TakeWord, StoreHint}

module _ (l : Layout) (words bytes : List ℕ) (written : IsWritten l words bytes) where
  abbrev output : ℕ → ℕ
  output index = word_at l words (Output index)

  -- a word that is taken is among the first ones, and one that is free is behind them
  pub taken_before : (index : ℕ) → index < l.out_words → output index ≢ 0 → index < length bytes
  taken_before index is_output taken = elim (cases_lt index (length bytes)) [
    | inl before ↦ before
    | inr past ↦ absurd (taken (written.free index past is_output))
  ]

  pub free_past : (index : ℕ) → output index ≡ 0 → length bytes ≤ index
  free_past index free = elim (cases_lt index (length bytes)) [
    | inl before ↦ absurd (omega (arith, free, written.taken index before))
    | inr past ↦ past
  ]

  -- the hint is no further than the first free word, where there is one
  pub hint_behind : (hint : ℕ) → hint ≡ word_at l words (Fixed OutputHint) → hint < l.out_words → hint ≤ length bytes
  hint_behind hint is inside = elim (cases_lt (length bytes) hint) [
    | inl past ↦ absurd (omega (arith, written.below_hint (length bytes) (omega (arith, past, is)) (omega (arith, past, inside))))
    | inr below ↦ below
  ]

  pub hint_full : (hint : ℕ) → hint ≡ word_at l words (Fixed OutputHint) → l.out_words ≤ hint → length bytes ≡ l.out_words
  hint_full hint is past = elim (cases_lt (length bytes) l.out_words) [
    | inl room ↦ absurd (omega (arith, written.below_hint (length bytes) (omega (arith, past, room, is)) room))
    | inr full ↦ omega (arith, full, written.fits)
  ]

  -- words that stay
  pub unchanged : (place : ℕ) → IsWritten l (slice_set words place (slice_index words place)) bytes
  unchanged place = subst (λ w. IsWritten l w bytes) (sym (set-get_or words place 0)) written

module _ (l : Layout) (words bytes : List ℕ) (laid_out : IsLaidOut l words) (written : IsWritten l words bytes) where
  -- the hint is set
  pub hinted : (index : ℕ) → index < length bytes → IsWritten l (slice_set words (place_of l (Fixed OutputHint)) (index + 1)) bytes
  hinted index before =
      let changes = map_laws.one_part l words (Fixed OutputHint) (index + 1) laid_out tt in
      record {
        fits = written.fits;
        taken = λ i below. changes.others (Output i) (omega (arith, below, written.fits)) (λ e. cc) ∙ written.taken i below;
        free = λ i past is_output. changes.others (Output i) is_output (λ e. cc) ∙ written.free i past is_output;
        below_hint = λ i below is_output. omega (arith, below, changes.changed, before);
      }

  -- the next word is taken
  pub byte_put : (byte : ℕ) → length bytes < l.out_words → IsWritten l (slice_set words (place_of l (Output (length bytes))) (byte + 1)) (bytes ++ byte ∷ [])
  byte_put byte room =
      let count = length bytes in
      let next : List ℕ = slice_set words (place_of l (Output count)) (byte + 1) in
      let changes = map_laws.one_part l words (Output count) (byte + 1) laid_out room in
      let many : length (bytes ++ byte ∷ []) ≡ count + 1 = length-append bytes (byte ∷ []) in
      let others : (i : ℕ) → i < l.out_words → i ≢ count → word_at l next (Output i) ≡ word_at l words (Output i) = λ i is_output differs. changes.others (Output i) is_output (λ same. differs (let e : i ≡ count = cc in e)) in
      record {
        fits = omega (arith, room, many);
        taken = λ i below. elim (cases_lt i count) [
          | inl before ↦ others i (omega (arith, before, room)) (λ same. omega (arith, same, before)) ∙ written.taken i before ∙ ap (λ b. b + 1) (sym (get_or_append_left bytes (byte ∷ []) 0 i before))
          | inr past ↦
              let same : count ≡ i = omega (arith, below, past, many) in
              subst (λ k. word_at l next (Output k) ≡ slice_index (bytes ++ byte ∷ []) k + 1) same (changes.changed ∙ ap (λ b. b + 1) (sym (get_or_push bytes byte 0 count refl)))
        ];
        free = λ i past is_output. others i is_output (λ same. omega (arith, same, past, many)) ∙ written.free i (omega (arith, past, many)) is_output;
        below_hint = λ i below is_output. omega (arith, many, written.below_hint i (omega (arith, below, changes.others (Fixed OutputHint) tt (λ e. cc))) is_output);
      }

module _ (l : Layout) (words bytes : List ℕ) (byte : ℕ) (laid_out : IsLaidOut l words) (written : IsWritten l words bytes) (byte_fits : byte < 256) where
  abbrev at : PutStage → PutByte
  at stage = record { slots = l.slots; out_words = l.out_words; byte = byte; stage = stage }

  -- what is known after a step at this stage, where so many steps were left, these words are left,
  -- and these bytes are put out
  abbrev Known : PutStage → ℕ → List ℕ → List ℕ → Next PutStage PutOut → Type 0
  Known stage before left after next = IsKnownOf put_left before (λ p. GoesOn l left bytes after (at stage) p) ⊥ (λ out. IsWritten l left after × IsPut l bytes after stage out) (with_stage at next)

  -- it goes on at the next stage
  goes_on : (stage next : PutStage) (left after : List ℕ) → IsWritten l left after → IsBehind l.out_words (length after) next → MakesPut bytes after stage (bytes_put next) → GoesOn l left bytes after (at stage) (at next)
  goes_on stage next left after in_order behind makes = record {
    written = in_order;
    of_output = record { slots_are = refl; out_words_are = refl; byte_fits = byte_fits; behind = behind };
    byte_is = refl;
    makes = makes;
  }

  -- a step that changes no word puts nothing out
  none_put : (stage : PutStage) → bytes_put stage ≡ 0 → MakesPut bytes bytes stage 0
  none_put stage none = ap (λ n. length bytes + n) none

  -- it goes on with this word, or gives up where there is none
  looks_at : (before place : ℕ) (stage : PutStage) (index : ℕ) → bytes_put stage ≡ 0 → (index < l.out_words → (index ≤ length bytes) × (2 * (l.out_words - index) + 1 < before)) → (l.out_words ≤ index → length bytes ≡ l.out_words) → Known stage before (slice_set words place (slice_index words place)) bytes (look_at l.out_words stage index)
  unfolding look_at IsBehind steps_from bytes_put
  looks_at before place stage index none goes full =
      let left : List ℕ = slice_set words place (slice_index words place) in
      by_less (λ b. Known stage before left bytes (if b then record { piece = LoadWord index; told = More } else record { piece = stage; told = Done (Err OutputLimit) })) index l.out_words
      (λ more. (goes_on stage (LoadWord index) left bytes (unchanged l words bytes written place) (more, (goes more).0) (none_put stage none), (goes more).1))
      (λ past. (unchanged l words bytes written place, (none_put stage none, refl, full past)))

  -- behind a word that is taken
  behind_taken : (before : ℕ) (stage : PutStage) (index : ℕ) → bytes_put stage ≡ 0 → index < l.out_words → word_at l words (Output index) ≢ 0 → 2 * (l.out_words - index) ≤ before → Known stage before (slice_set words (place_of l (Output index)) (word_at l words (Output index))) bytes (look_at l.out_words stage (index + 1))
  behind_taken before stage index none is_output taken few =
      let passed : index < length bytes = taken_before l words bytes written index is_output taken in
      looks_at before (place_of l (Output index)) stage (index + 1) none (λ more. (omega (arith, passed), omega (arith, few, more))) (λ past. omega (arith, past, passed, written.fits))

  -- the exchange is won: its word is the next one
  won : (index : ℕ) → index < l.out_words → index ≤ length bytes → word_at l words (Output index) ≡ 0 → GoesOn l (slice_set words (place_of l (Output index)) (byte + 1)) bytes (bytes ++ byte ∷ []) (at (TakeWord index)) (at (StoreHint index))
  unfolding IsBehind bytes_put
  won index is_output behind free =
      let here : length bytes ≡ index = omega (arith, behind, free_past l words bytes written index free) in
      let many : length (bytes ++ byte ∷ []) ≡ length bytes + 1 = length-append bytes (byte ∷ []) in
      let put = byte_put l words bytes laid_out written byte (omega (arith, here, is_output)) in
      goes_on (TakeWord index) (StoreHint index) (slice_set words (place_of l (Output index)) (byte + 1)) (bytes ++ byte ∷ [])
      (subst (λ i. IsWritten l (slice_set words (place_of l (Output i)) (byte + 1)) (bytes ++ byte ∷ [])) here put)
      (omega (arith, here, many)) (omega (arith, many))

  pub steps_at : (stage : PutStage) → IsBehind l.out_words (length bytes) stage → PutSteps l words bytes (at stage)
  unfolding put_place put_op put_part put_next bytes_after bytes_put IsBehind steps_from
  steps_at LoadHint behind =
      let hint = word_at l words (Fixed OutputHint) in
      record {
        wants_is = refl;
        inside = map_laws.inside l words (Fixed OutputHint) laid_out tt;
        fits = map_laws.fits l (Fixed OutputHint) laid_out.well_formed tt;
        leaves = map_laws.one_part l words (Fixed OutputHint) hint laid_out tt;
        known = looks_at (2 * l.out_words + 2) (place_of l (Fixed OutputHint)) LoadHint hint refl (λ inside. (hint_behind l words bytes written hint refl inside, omega arith)) (hint_full l words bytes written hint refl);
      }
  steps_at (LoadWord index) (is_output, behind) =
      let place = place_of l (Output index) in
      let word = word_at l words (Output index) in
      record {
        wants_is = refl;
        inside = map_laws.inside l words (Output index) laid_out is_output;
        fits = map_laws.fits l (Output index) laid_out.well_formed is_output;
        leaves = map_laws.one_part l words (Output index) word laid_out is_output;
        known =
            by_equal (λ b. Known (LoadWord index) (2 * (l.out_words - index) + 1) (slice_set words place word) bytes (if b then record { piece = TakeWord index; told = More } else look_at l.out_words (LoadWord index) (index + 1))) word 0
            (λ free. (goes_on (LoadWord index) (TakeWord index) (slice_set words place word) bytes (unchanged l words bytes written place) (is_output, behind) refl, omega arith))
            (λ taken. behind_taken (2 * (l.out_words - index) + 1) (LoadWord index) index refl is_output taken (omega arith));
      }
  steps_at (TakeWord index) (is_output, behind) =
      let place = place_of l (Output index) in
      let word = word_at l words (Output index) in
      record {
        wants_is = refl;
        inside = map_laws.inside l words (Output index) laid_out is_output;
        fits = (map_laws.fits l (Output index) laid_out.well_formed is_output, omega arith, omega (arith, byte_fits));
        leaves = map_laws.one_part l words (Output index) (if eqb word 0 then byte + 1 else word) laid_out is_output;
        known =
            by_equal (λ b. Known (TakeWord index) (2 * (l.out_words - index)) (slice_set words place (if b then byte + 1 else word)) (if b then bytes ++ byte ∷ [] else bytes) (if b then record { piece = StoreHint index; told = More } else look_at l.out_words (TakeWord index) (index + 1))) word 0
            (λ free. (won index is_output behind free, omega (arith, is_output)))
            (λ taken. behind_taken (2 * (l.out_words - index)) (TakeWord index) index refl is_output taken (omega arith));
      }
  steps_at (StoreHint index) behind =
      let last : place_of l (Output index) < 2 ^ 64 = map_laws.fits l (Output index) laid_out.well_formed (omega (arith, behind, written.fits)) in
      record {
        wants_is = refl;
        inside = map_laws.inside l words (Fixed OutputHint) laid_out tt;
        fits = (map_laws.fits l (Fixed OutputHint) laid_out.well_formed tt, omega (arith, last));
        leaves = map_laws.one_part l words (Fixed OutputHint) (index + 1) laid_out tt;
        known = (hinted l words bytes laid_out written index behind, refl);
      }

-- the same of a piece whose numbers are equal to the map's
pub steps : (l : Layout) (words bytes : List ℕ) (piece : PutByte) → IsLaidOut l words → IsWritten l words bytes → OfOutput l bytes piece → PutSteps l words bytes piece
steps l words bytes piece laid_out written is =
    subst (λ slots. PutSteps l words bytes (record piece { slots = slots })) (sym is.slots_are)
    (subst (λ out_words. PutSteps l words bytes (record { slots = l.slots; out_words = out_words; byte = piece.byte; stage = piece.stage })) (sym is.out_words_are)
    (steps_at l words bytes piece.byte laid_out written is.byte_fits piece.stage is.behind))

pub starts : (l : Layout) (bytes : List ℕ) (byte : ℕ) → byte < 256 → OfOutput l bytes (put_byte l.slots l.out_words byte) × (bytes_put (put_byte l.slots l.out_words byte).stage ≡ 0)
unfolding IsBehind bytes_put
starts l bytes byte byte_fits = (record { slots_are = refl; out_words_are = refl; byte_fits = byte_fits; behind = tt }, refl)

IsBehind-more : (out_words count more : ℕ) (stage : PutStage) → count ≤ more → IsBehind out_words count stage → IsBehind out_words more stage
unfolding IsBehind
IsBehind-more out_words count more LoadHint grows behind = tt
IsBehind-more out_words count more (LoadWord index) grows behind = (behind.0, omega (arith, grows, behind.1))
IsBehind-more out_words count more (TakeWord index) grows behind = (behind.0, omega (arith, grows, behind.1))
IsBehind-more out_words count more (StoreHint index) grows behind = omega (arith, grows, behind)

pub keeps : (l : Layout) (bytes more : List ℕ) (piece : PutByte) → length bytes ≤ length more → OfOutput l bytes piece → OfOutput l more piece
keeps l bytes more piece grows is = record {
  slots_are = is.slots_are;
  out_words_are = is.out_words_are;
  byte_fits = is.byte_fits;
  behind = IsBehind-more l.out_words (length bytes) (length more) piece.stage grows is.behind;
}
