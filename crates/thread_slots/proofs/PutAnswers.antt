-- A `PutByte` that gives up found each word taken.
use Rattle.std.proofs.Common.{◌≡◌, ℕ, ◌+◌, ◌<◌, ◌≤◌, List, [], ◌∷◌, ◌++◌, Ok, Err, inl, inr, if◌then◌else◌, refl, sym, ◌∙◌, subst, arith}
use Rattle.std.specs.List.{Any}
use Rattle.std.proofs.lemmas.Bool.{cases_lt}
use Rattle.std.proofs.lemmas.List.{get_or_append_left, length-append}
use Rattle.std.proofs.lemmas.List.Quantifiers.{Any-push}
use Rattle.filc_num.specs.declared.reason.Reason.TheVariants.{OutputLimit}
use Rattle.heap_words.specs.Answers.{Answered, operations_at, TellsAfter}
use Rattle.heap_words.specs.Work.{Next, with_stage}
use Rattle.heap_words.specs.declared.piece.Step.TheVariants.{More, Done}
use Rattle.heap_words.proofs.Rules.{by_less, by_equal, ThenOf, then_going, at_any_answers}
use Rattle.thread_slots.specs.PutByte.{PutOut, put_place, put_op, look_at, put_next, put_byte, put_work, FoundTaken}
use Rattle.thread_slots.specs.declared.put_byte.PutByte.{PutByte}
use Rattle.thread_slots.specs.declared.put_byte.PutStage.{PutStage}
use Rattle.thread_slots.specs.declared.put_byte.PutStage.TheVariants.{LoadHint, LoadWord, TakeWord, StoreHint}

Any-before : {X : Type 0} (P : X → Type 0) (xs ys : List X) → Any P xs → Any P (xs ++ ys)
Any-before P xs ys (k, x, inside, there, holds) = (k, x, omega (arith, inside, length-append xs ys), get_or_append_left xs ys x k inside ∙ there, holds)

module _ (slots out_words byte hint : ℕ) where
  abbrev at : PutStage → PutByte
  at stage = record { slots = slots; out_words = out_words; byte = byte; stage = stage }

  abbrev answered : PutStage → ℕ → Answered
  answered stage answer = record { op = put_work.wants (at stage); answer = answer }

  -- the words from the hint up to this one were found taken
  abbrev Looked : List Answered → ℕ → Type 0
  Looked made index = (i : ℕ) → hint ≤ i → i < index → Any (FoundTaken slots byte i) made

  abbrev KnowsAt : List Answered → PutStage → Type 0
  KnowsAt made LoadHint = ⊥
  KnowsAt made (LoadWord index) = Looked made index × (index < out_words)
  KnowsAt made (TakeWord index) = Looked made index × (index < out_words)
  KnowsAt made (StoreHint index) = Unit {0}

  abbrev Knows : List Answered → PutByte → Type 0
  Knows made piece = (stage : PutStage) × (piece ≡ at stage) × KnowsAt made stage

  abbrev Ends : List Answered → PutOut → Type 0
  Ends made (Ok done) = Unit {0}
  Ends made (Err reason) = Looked made out_words

  abbrev Known : List Answered → Next PutStage PutOut → Type 0
  Known made next = ThenOf put_work Knows Ends made (with_stage at next)

  looked_more : (made : List Answered) (index : ℕ) (now : Answered) → FoundTaken slots byte index now → Looked made index → Looked (made ++ now ∷ []) (index + 1)
  looked_more made index now taken looked i from below = elim (cases_lt i index) [
    | inl before ↦ Any-before (FoundTaken slots byte i) made (now ∷ []) (looked i from before)
    | inr past ↦
        let here : index ≡ i = omega (arith, below, past) in
        Any-push (FoundTaken slots byte i) made now (subst (λ j. FoundTaken slots byte j now) here taken)
  ]

  -- it goes on behind a word that was found taken, or gives up behind the last one
  behind : (made : List Answered) (stage : PutStage) (index : ℕ) → index < out_words → Looked made (index + 1) → Known made (look_at out_words stage (index + 1))
  unfolding look_at
  behind made stage index inside looked =
      by_less (λ b. Known made (if b then record { piece = LoadWord (index + 1); told = More } else record { piece = stage; told = Done (Err OutputLimit) })) (index + 1) out_words
      (λ more. (LoadWord (index + 1), refl, (looked, more)))
      (λ past. let last : index + 1 ≡ out_words = omega (arith, inside, past) in subst (λ n. Looked made n) last looked)

  step_at : (made : List Answered) (stage : PutStage) (answer : ℕ) → KnowsAt made stage → Known (made ++ answered stage answer ∷ []) (put_next out_words stage answer)
  unfolding put_place put_op put_next
  step_at made LoadHint answer known = absurd known
  step_at made (LoadWord index) answer known =
      let now = answered (LoadWord index) answer in
      by_equal (λ b. Known (made ++ now ∷ []) (if b then record { piece = TakeWord index; told = More } else look_at out_words (LoadWord index) (index + 1))) answer 0
      (λ free. (TakeWord index, refl, (λ i from below. Any-before (FoundTaken slots byte i) made (now ∷ []) (known.0 i from below), known.1)))
      (λ taken. behind (made ++ now ∷ []) (LoadWord index) index known.1 (looked_more made index now (record { looks = inl refl; taken = taken }) known.0))
  step_at made (TakeWord index) answer known =
      let now = answered (TakeWord index) answer in
      by_equal (λ b. Known (made ++ now ∷ []) (if b then record { piece = StoreHint index; told = More } else look_at out_words (TakeWord index) (index + 1))) answer 0
      (λ won. (StoreHint index, refl, tt))
      (λ lost. behind (made ++ now ∷ []) (TakeWord index) index known.1 (looked_more made index now (record { looks = inr refl; taken = lost }) known.0))
  step_at made (StoreHint index) answer known = tt

  step : (made : List Answered) (piece : PutByte) (answer : ℕ) → Knows made piece → ThenOf put_work Knows Ends (made ++ record { op = put_work.wants piece; answer = answer } ∷ []) (put_work.takes piece answer)
  step made piece answer known =
      subst (λ p. ThenOf put_work Knows Ends (made ++ record { op = put_work.wants p; answer = answer } ∷ []) (put_work.takes p answer)) (sym known.1) (step_at made known.0 answer known.2)

  -- the load of the hint
  at_hint : Known (answered LoadHint hint ∷ []) (look_at out_words LoadHint hint)
  unfolding look_at
  at_hint =
      by_less (λ b. Known (answered LoadHint hint ∷ []) (if b then record { piece = LoadWord hint; told = More } else record { piece = LoadHint; told = Done (Err OutputLimit) })) hint out_words
      (λ inside. (LoadWord hint, refl, (λ i from below. absurd (omega (arith, from, below)), inside)))
      (λ past i from below. absurd (omega (arith, from, below, past)))

  pub ends : (answers : List ℕ) (out : PutOut) → TellsAfter put_work (at LoadHint) (hint ∷ answers) out → Ends (operations_at put_work (at LoadHint) (hint ∷ answers)) out
  unfolding put_next
  ends [] out told = subst (λ t. ThenOf put_work Knows Ends (answered LoadHint hint ∷ []) (record { piece = at (look_at out_words LoadHint hint).piece; told = t })) told at_hint
  ends (next ∷ answers) out told =
      let first : Next PutByte PutOut = with_stage at (look_at out_words LoadHint hint) in
      at_any_answers put_work Knows Ends step (next ∷ answers) (answered LoadHint hint ∷ []) first.piece out
      (then_going put_work Knows Ends (answered LoadHint hint ∷ []) first.piece first.told told.0 at_hint) told.1

pub finds_taken : (slots out_words byte hint index : ℕ) (answers : List ℕ) → TellsAfter put_work (put_byte slots out_words byte) (hint ∷ answers) (Err OutputLimit) → hint ≤ index → index < out_words → Any (FoundTaken slots byte index) (operations_at put_work (put_byte slots out_words byte) (hint ∷ answers))
finds_taken slots out_words byte hint index answers told from below = ends slots out_words byte hint answers (Err OutputLimit) told index from below
