-- What a `PutByte` changes, whatever answers it gets.
use Rattle.std.proofs.Common.{◌≡◌, ℕ, ◌+◌, ◌<◌, List, [], ◌∷◌, ◌++◌, All, Ok, Err, if◌then◌else◌, refl, sym, ap, ◌∙◌, subst}
use Rattle.std.proofs.lemmas.List.{append_assoc}
use Rattle.std.proofs.lemmas.List.Elements.{All-nil, All-push}
use Rattle.filc_num.specs.declared.reason.Reason.TheVariants.{OutputLimit}
use Rattle.heap_words.specs.Answers.{Answered, operations_at, TellsAfter}
use Rattle.heap_words.specs.Work.{Next, with_stage}
use Rattle.heap_words.specs.declared.piece.Step.TheVariants.{More, Done}
use Rattle.heap_words.proofs.Rules.{by_less, by_equal, ThenOf, at_any_answers}
use Rattle.thread_slots.specs.PutByte.{PutOut, put_place, put_op, look_at, put_next, put_byte, put_work, LeavesWords, wins, stores, PutsOnce}
use Rattle.thread_slots.specs.declared.put_byte.PutByte.{PutByte}
use Rattle.thread_slots.specs.declared.put_byte.PutStage.{PutStage}
use Rattle.thread_slots.specs.declared.put_byte.PutStage.TheVariants.{LoadHint, LoadWord, TakeWord, StoreHint}

module _ (slots out_words byte : ℕ) where
  abbrev at : PutStage → PutByte
  at stage = record { slots = slots; out_words = out_words; byte = byte; stage = stage }

  abbrev answered : PutStage → ℕ → Answered
  answered stage answer = record { op = put_work.wants (at stage); answer = answer }

  abbrev Looked : List Answered → Type 0
  Looked made = All LeavesWords made

  -- what it made before this stage: looks, and then the exchange that won
  abbrev KnowsAt : List Answered → PutStage → Type 0
  KnowsAt made LoadHint = Looked made
  KnowsAt made (LoadWord index) = (index < out_words) × Looked made
  KnowsAt made (TakeWord index) = (index < out_words) × Looked made
  KnowsAt made (StoreHint index) = (index < out_words) × (before : List Answered) × Looked before × (made ≡ before ++ wins slots byte index ∷ [])

  abbrev Knows : List Answered → PutByte → Type 0
  Knows made piece = (stage : PutStage) × (piece ≡ at stage) × KnowsAt made stage

  abbrev pub Ends : List Answered → PutOut → Type 0
  Ends made (Ok done) = PutsOnce slots out_words byte made
  Ends made (Err reason) = Looked made

  abbrev Known : List Answered → Next PutStage PutOut → Type 0
  Known made next = ThenOf put_work Knows Ends made (with_stage at next)

  -- it goes on with this word, or gives up where there is none
  looks_at : (made : List Answered) (stage : PutStage) (index : ℕ) → Looked made → Known made (look_at out_words stage index)
  unfolding look_at
  looks_at made stage index looked =
      by_less (λ b. Known made (if b then record { piece = LoadWord index; told = More } else record { piece = stage; told = Done (Err OutputLimit) })) index out_words
      (λ more. (LoadWord index, refl, (more, looked)))
      (λ past. looked)

  step_at : (made : List Answered) (stage : PutStage) (answer : ℕ) → KnowsAt made stage → Known (made ++ answered stage answer ∷ []) (put_next out_words stage answer)
  unfolding put_place put_op put_next
  step_at made LoadHint answer looked =
      let now = answered LoadHint answer in
      looks_at (made ++ now ∷ []) LoadHint answer (All-push LeavesWords made now looked tt)
  step_at made (LoadWord index) answer (is_output, looked) =
      let now = answered (LoadWord index) answer in
      let all : Looked (made ++ now ∷ []) = All-push LeavesWords made now looked tt in
      by_equal (λ b. Known (made ++ now ∷ []) (if b then record { piece = TakeWord index; told = More } else look_at out_words (LoadWord index) (index + 1))) answer 0
      (λ free. (TakeWord index, refl, (is_output, all)))
      (λ taken. looks_at (made ++ now ∷ []) (LoadWord index) (index + 1) all)
  step_at made (TakeWord index) answer (is_output, looked) =
      let now = answered (TakeWord index) answer in
      by_equal (λ b. Known (made ++ now ∷ []) (if b then record { piece = StoreHint index; told = More } else look_at out_words (TakeWord index) (index + 1))) answer 0
      (λ won. (StoreHint index, refl, (is_output, made, looked, ap (λ a. made ++ answered (TakeWord index) a ∷ []) won)))
      (λ lost. looks_at (made ++ now ∷ []) (TakeWord index) (index + 1) (All-push LeavesWords made now looked lost))
  step_at made (StoreHint index) answer (is_output, before, looked, made_are) = record {
    index = index;
    is_output = is_output;
    answer = answer;
    before = before;
    looks = looked;
    made_are = ap (λ m. m ++ stores index answer ∷ []) made_are ∙ append_assoc before (wins slots byte index ∷ []) (stores index answer ∷ []);
  }

  step : (made : List Answered) (piece : PutByte) (answer : ℕ) → Knows made piece → ThenOf put_work Knows Ends (made ++ record { op = put_work.wants piece; answer = answer } ∷ []) (put_work.takes piece answer)
  step made piece answer known =
      subst (λ p. ThenOf put_work Knows Ends (made ++ record { op = put_work.wants p; answer = answer } ∷ []) (put_work.takes p answer)) (sym known.1) (step_at made known.0 answer known.2)

  pub puts : (answers : List ℕ) (out : PutOut) → TellsAfter put_work (put_byte slots out_words byte) answers out → Ends (operations_at put_work (put_byte slots out_words byte) answers) out
  puts answers out told = at_any_answers put_work Knows Ends step answers [] (put_byte slots out_words byte) out (LoadHint, refl, All-nil LeavesWords) told
