-- A `PutByte` alone.
use Rattle.std.proofs.Common.{◌≡◌, ℕ, ◌+◌, ◌-◌, ◌<◌, ◌≤◌, Bool, List, [], ◌∷◌, ◌++◌, length, Ok, Err, slice_index, slice_set, if◌then◌else◌, refl, sym, ap, ◌∙◌, subst, arith}
use Rattle.std.proofs.lemmas.Bool.{eq-eqb}
use Rattle.std.proofs.lemmas.List.{set-get_or, length-set, length-append}
use Rattle.filc_num.specs.declared.reason.Reason.TheVariants.{OutputLimit}
use Rattle.heap_words.specs.Alone.{EndsAlone}
use Rattle.heap_words.specs.Steps.{IsKnownOf}
use Rattle.heap_words.specs.Work.{Next, with_stage}
use Rattle.heap_words.specs.declared.piece.Step.TheVariants.{More, Done}
use Rattle.heap_words.proofs.Rules.{by_less, by_equal, StepsAlone, ends_alone}
use Rattle.object_header.specs.Contents.{IsLaidOut, ChangesOnly, word_at}
use Rattle.object_header.specs.WordMap.{Layout, Fixed, Output, place_of}
use Rattle.object_header.specs.declared.words.FixedWord.TheVariants.{OutputHint}
use Rattle.object_header.proofs.MapProofs.{map_laws}
use Rattle.thread_slots.specs.Output.{IsWritten}
use Rattle.thread_slots.specs.PutByte.{PutOut, put_place, put_op, look_at, put_next, put_byte, put_work, PutsAlone}
use Rattle.thread_slots.specs.declared.put_byte.PutByte.{PutByte}
use Rattle.thread_slots.specs.declared.put_byte.PutStage.{PutStage}
use Rattle.thread_slots.specs.declared.put_byte.PutStage.TheVariants.{LoadHint, LoadWord, TakeWord, StoreHint}
use Rattle.thread_slots.proofs.PutSteps.{taken_before, free_past, hint_behind, hint_full, byte_put, hinted}

module _ (l : Layout) (words bytes : List ℕ) (byte : ℕ) (laid_out : IsLaidOut l words) (written : IsWritten l words bytes) where
  abbrev at : PutStage → PutByte
  at stage = record { slots = l.slots; out_words = l.out_words; byte = byte; stage = stage }

  -- the words where the byte is put out, and where the hint is behind it
  abbrev with_taken : List ℕ
  with_taken = slice_set words (place_of l (Output (length bytes))) (byte + 1)

  abbrev with_byte : List ℕ
  with_byte = slice_set with_taken (place_of l (Fixed OutputHint)) (length bytes + 1)

  -- how far it is, and the words
  abbrev HoldsAt : List ℕ → PutStage → Type 0
  HoldsAt w LoadHint = w ≡ words
  HoldsAt w (LoadWord index) = (w ≡ words) × (index < l.out_words) × (index ≤ length bytes)
  HoldsAt w (TakeWord index) = (w ≡ words) × (index < l.out_words) × (index ≡ length bytes)
  HoldsAt w (StoreHint index) = (w ≡ with_taken) × (index ≡ length bytes) × (length bytes < l.out_words)

  abbrev Holds : List ℕ → PutByte → Type 0
  Holds w piece = (stage : PutStage) × (piece ≡ at stage) × HoldsAt w stage

  abbrev Ends : List ℕ → PutOut → Type 0
  Ends w out = PutsAlone l words bytes byte out w

  -- how many steps come behind its next one, at most
  abbrev left_at : PutStage → ℕ
  left_at LoadHint = l.out_words + 2
  left_at (LoadWord index) = l.out_words - index + 1
  left_at (TakeWord index) = 1
  left_at (StoreHint index) = 0

  abbrev left : PutByte → ℕ
  left piece = left_at piece.stage

  abbrev Known : ℕ → List ℕ → Next PutStage PutOut → Type 0
  Known before w next = IsKnownOf left before (Holds w) ⊥ (Ends w) (with_stage at next)

  abbrev Alone : List ℕ → PutByte → Type 0
  Alone = StepsAlone put_work left Holds Ends

  -- a load leaves the words
  same : (place : ℕ) → slice_set words place (slice_index words place) ≡ words
  same place = set-get_or words place 0

  -- the byte and the hint are two parts
  puts : length bytes < l.out_words → PutsAlone l words bytes byte (Ok tt) with_byte
  puts room =
      let taken : ChangesOnly l words with_taken (Output (length bytes)) (byte + 1) = map_laws.one_part l words (Output (length bytes)) (byte + 1) laid_out room in
      let next = map_laws.laid_out l words with_taken (Output (length bytes)) (byte + 1) laid_out taken in
      let hint : ChangesOnly l with_taken with_byte (Fixed OutputHint) (length bytes + 1) = map_laws.one_part l with_taken (Fixed OutputHint) (length bytes + 1) next tt in (
        room,
        record {
          as_many = hint.as_many ∙ taken.as_many;
          byte_is = hint.others (Output (length bytes)) room (λ e. cc) ∙ taken.changed;
          hint_is = hint.changed;
          others = λ other is no_byte no_hint. hint.others other is no_hint ∙ taken.others other is no_byte;
        },
        hinted l with_taken (bytes ++ byte ∷ []) next (byte_put l words bytes laid_out written byte room) (length bytes) (omega (arith, length-append bytes (byte ∷ []))),
      )

  -- it goes on with this word, or gives up where there is none
  looks_at : (before : ℕ) (w : List ℕ) (stage : PutStage) (index : ℕ) → w ≡ words → (index < l.out_words → (index ≤ length bytes) × (l.out_words - index + 1 < before)) → (l.out_words ≤ index → length bytes ≡ l.out_words) → Known before w (look_at l.out_words stage index)
  unfolding look_at
  looks_at before w stage index stays goes full =
      by_less (λ b. Known before w (if b then record { piece = LoadWord index; told = More } else record { piece = stage; told = Done (Err OutputLimit) })) index l.out_words
      (λ more. ((LoadWord index, refl, (stays, more, (goes more).0)), (goes more).1))
      (λ past. (refl, full past, stays))

  step_at : (w : List ℕ) (stage : PutStage) → HoldsAt w stage → Alone w (at stage)
  unfolding put_place put_op put_next
  step_at w LoadHint stays =
      let hint = word_at l words (Fixed OutputHint) in
      subst (λ ws. Alone ws (at LoadHint)) (sym stays) (record {
        op = put_work.wants (at LoadHint);
        wants_is = refl;
        inside = map_laws.inside l words (Fixed OutputHint) laid_out tt;
        known = looks_at (l.out_words + 2) (slice_set words (place_of l (Fixed OutputHint)) hint) LoadHint hint (same (place_of l (Fixed OutputHint))) (λ more. (hint_behind l words bytes written hint refl more, omega arith)) (hint_full l words bytes written hint refl);
      })
  step_at w (LoadWord index) (stays, is_output, below) =
      let place = place_of l (Output index) in
      let word = word_at l words (Output index) in
      subst (λ ws. Alone ws (at (LoadWord index))) (sym stays) (record {
        op = put_work.wants (at (LoadWord index));
        wants_is = refl;
        inside = map_laws.inside l words (Output index) laid_out is_output;
        known =
            by_equal (λ b. Known (l.out_words - index + 1) (slice_set words place word) (if b then record { piece = TakeWord index; told = More } else look_at l.out_words (LoadWord index) (index + 1))) word 0
            (λ free. ((TakeWord index, refl, (same place, is_output, omega (arith, below, free_past l words bytes written index free))), omega arith))
            (λ taken. let passed : index < length bytes = taken_before l words bytes written index is_output taken in
            looks_at (l.out_words - index + 1) (slice_set words place word) (LoadWord index) (index + 1) (same place) (λ more. (omega (arith, passed), omega (arith, more))) (λ past. omega (arith, past, passed, written.fits)));
      })
  step_at w (TakeWord index) (stays, is_output, here) =
      let place = place_of l (Output index) in
      let word = word_at l words (Output index) in
      let free : word ≡ 0 = written.free index (omega (arith, here)) is_output in
      subst (λ ws. Alone ws (at (TakeWord index))) (sym stays) (record {
        op = put_work.wants (at (TakeWord index));
        wants_is = refl;
        inside = map_laws.inside l words (Output index) laid_out is_output;
        known = subst (λ (b : Bool). Known 1 (slice_set words place (if b then byte + 1 else word)) (if b then record { piece = StoreHint index; told = More } else look_at l.out_words (TakeWord index) (index + 1))) (sym (eq-eqb word 0 free))
            ((StoreHint index, refl, (ap (λ i. slice_set words (place_of l (Output i)) (byte + 1)) here, here, omega (arith, here, is_output))), omega arith);
      })
  step_at w (StoreHint index) (stays, here, room) = subst (λ ws. Alone ws (at (StoreHint index))) (sym stays) (record {
    op = put_work.wants (at (StoreHint index));
    wants_is = refl;
    inside = subst (λ n. place_of l (Fixed OutputHint) < n) (sym (length-set words (place_of l (Output (length bytes))) (byte + 1))) (map_laws.inside l words (Fixed OutputHint) laid_out tt);
    known = subst (λ i. PutsAlone l words bytes byte (Ok tt) (slice_set with_taken (place_of l (Fixed OutputHint)) (i + 1))) (sym here) (puts room);
  })

  step : (piece : PutByte) (w : List ℕ) → Holds w piece → Alone w piece
  step piece w (stage, is, here) = subst (λ p. Alone w p) (sym is) (step_at w stage here)

  pub ends : EndsAlone put_work (l.out_words + 3) (put_byte l.slots l.out_words byte) words (PutsAlone l words bytes byte)
  ends = ends_alone put_work left Holds Ends step (l.out_words + 3) (put_byte l.slots l.out_words byte) words (LoadHint, refl, refl) (omega arith)
