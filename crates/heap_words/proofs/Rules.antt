-- How the laws of a piece follow from a law of one of its steps: the law of what it does alone, and
-- the law of what it does with any answers. A test is met once, for the piece and for what it
-- tells.
use Rattle.std.proofs.Common.{◌≡◌, ℕ, zero, suc, ◌<◌, ◌≤◌, Bool, true, false, ltb, eqb, List, [], ◌∷◌, ◌++◌, length, slice_index, refl, sym, subst, inl, inr, arith}
use Rattle.std.proofs.lemmas.Bool.{cases_lt, cases_eq, lt-ltb, le-ltb, eq-eqb, ne_eqb}
use Rattle.std.proofs.lemmas.List.{append_assoc}
use Rattle.heap_words.specs.Operations.{place_of, word_after, answer_of, words_after}
use Rattle.heap_words.specs.Alone.{IsGoingOn, next_on, EndsAlone}
use Rattle.heap_words.specs.Answers.{Answered, operations_at, TellsAfter}
use Rattle.heap_words.specs.Steps.{IsKnown, IsKnownOf, Steps}
use Rattle.heap_words.specs.Work.{Next, Work}
use Rattle.heap_words.specs.declared.op.WordOp.{WordOp}
use Rattle.heap_words.specs.declared.piece.Step.{Step}
use Rattle.heap_words.specs.declared.piece.Step.TheVariants.{More, Waits, Done}
use Rattle.heap_words.proofs.Finishing.{FinishesWithin-done, FinishesWithin-more}

-- what holds of a test's both outcomes
pub by_less : (C : Bool → Type 0) (m n : ℕ) → (m < n → C true) → (n ≤ m → C false) → C (ltb m n)
by_less C m n if_so if_not = elim (cases_lt m n) [
  | inl below ↦ subst C (sym (lt-ltb m n below)) (if_so below)
  | inr above ↦ subst C (sym (le-ltb m n above)) (if_not above)
]

pub by_equal : (C : Bool → Type 0) (m n : ℕ) → (m ≡ n → C true) → ((m ≡ n → ⊥) → C false) → C (eqb m n)
by_equal C m n if_so if_not = elim (cases_eq m n) [
  | inl same ↦ subst C (sym (eq-eqb m n same)) (if_so same)
  | inr other ↦ subst C (sym (ne_eqb m n other)) (if_not other)
]

-- ---- whatever it is answered
module _ {P T : Type 0} (work : Work P T) (Knows : List Answered → P → Type 0) (Ends : List Answered → T → Type 0) where
  -- what is known of the operations made so far after a step, by what it told
  abbrev pub Then : List Answered → P → Step T → Type 0
  Then made piece More = Knows made piece
  Then made piece Waits = Knows made piece
  Then made piece (Done out) = Ends made out

  abbrev pub ThenOf : List Answered → Next P T → Type 0
  ThenOf made next = Then made next.piece next.told

  pub then_going : (made : List Answered) (piece : P) (told : Step T) → IsGoingOn told → Then made piece told → Knows made piece
  then_going made piece More going known = known
  then_going made piece Waits going known = known
  then_going made piece (Done out) going known = absurd going

  abbrev pub KnowsOn : Type 0
  KnowsOn = (made : List Answered) (piece : P) (answer : ℕ) → Knows made piece → ThenOf (made ++ record { op = work.wants piece; answer = answer } ∷ []) (work.takes piece answer)

  -- what is known of the operations made so far is kept by a step, or the end holds
  pub at_any_answers : KnowsOn → (answers : List ℕ) (made : List Answered) (piece : P) (out : T) → Knows made piece → TellsAfter work piece answers out → Ends (made ++ operations_at work piece answers) out
  at_any_answers step [] made piece out known told = absurd told
  at_any_answers step (answer ∷ []) made piece out known told =
      subst (λ t. Then (made ++ record { op = work.wants piece; answer = answer } ∷ []) (work.takes piece answer).piece t) told (step made piece answer known)
  at_any_answers step (answer ∷ (next ∷ answers)) made piece out known told =
      let now : List Answered = made ++ record { op = work.wants piece; answer = answer } ∷ [] in
      let goes = then_going now (work.takes piece answer).piece (work.takes piece answer).told told.0 (step made piece answer known) in
      let rest = at_any_answers step (next ∷ answers) now (work.takes piece answer).piece out goes told.1 in
      subst (λ m. Ends m out) (append_assoc made (record { op = work.wants piece; answer = answer } ∷ []) (operations_at work (work.takes piece answer).piece (next ∷ answers))) rest

-- ---- alone
module _ {P T : Type 0} (work : Work P T) (left : P → ℕ) where
  -- the piece makes a step that holds on, and never waits
  pub record StepsAlone (Holds : List ℕ → P → Type 0) (Ends : List ℕ → T → Type 0) (words : List ℕ) (piece : P) : Type 0 where
    pub op : WordOp
    pub wants_is : work.wants piece ≡ op
    pub inside : place_of op < length words
    pub known : IsKnownOf left (left piece) (Holds (words_after op words)) ⊥ (Ends (words_after op words)) (work.takes piece (answer_of op words))

  known_as : (before : ℕ) (Holds Holds' : P → Type 0) (Ends Ends' : T → Type 0) (piece : P) (told : Step T) → ((p : P) → Holds p → Holds' p) → ((out : T) → Ends out → Ends' out) → IsKnown left before Holds ⊥ Ends piece told → IsKnown left before Holds' ⊥ Ends' piece told
  known_as before Holds Holds' Ends Ends' piece More holds ends known = (holds piece known.0, known.1)
  known_as before Holds Holds' Ends Ends' piece Waits holds ends known = absurd known.1
  known_as before Holds Holds' Ends Ends' piece (Done out) holds ends known = ends out known

  -- the step law of a piece that doesn't wait, with what is known besides
  pub alone_by : (words : List ℕ) (piece : P) (op : WordOp) (Changes : ℕ → List ℕ → Type 0) (Holds Holds' : List ℕ → P → Type 0) (Ends Ends' : List ℕ → T → Type 0) → Steps work left words piece op Changes Holds ⊥ Ends → ((p : P) → Holds (words_after op words) p → Holds' (words_after op words) p) → ((out : T) → Ends (words_after op words) out → Ends' (words_after op words) out) → StepsAlone Holds' Ends' words piece
  alone_by words piece op Changes Holds Holds' Ends Ends' step holds ends =
      let next = work.takes piece (answer_of op words) in
      record {
        op = op;
        wants_is = step.wants_is;
        inside = step.inside;
        known = known_as (left piece) (Holds (words_after op words)) (Holds' (words_after op words)) (Ends (words_after op words)) (Ends' (words_after op words)) next.piece next.told holds ends step.known;
      }

  module _ (Holds : List ℕ → P → Type 0) (Ends : List ℕ → T → Type 0) where
    abbrev Ended : ℕ → P → List ℕ → Type 0
    Ended steps piece words = EndsAlone work steps piece words (λ out words_left. Ends words_left out)

    Ended-told : (steps : ℕ) (piece : P) (words : List ℕ) (told : Step T) → place_of (work.wants piece) < length words → (next_on work piece words).told ≡ told → left piece < suc steps → IsKnown left (left piece) (Holds (words_after (work.wants piece) words)) ⊥ (Ends (words_after (work.wants piece) words)) (next_on work piece words).piece told → ((p : P) (w : List ℕ) → Holds w p → left p < steps → Ended steps p w) → Ended (suc steps) piece words
    Ended-told steps piece words More inside told_is few known rest =
        let r = rest (next_on work piece words).piece (words_after (work.wants piece) words) known.0 (omega (arith, few, known.1)) in
        record { out = r.out; left = r.left; finishes = FinishesWithin-more work steps piece words r.out r.left inside (subst (λ t. IsGoingOn t) (sym told_is) tt) r.finishes; holds = r.holds }
    Ended-told steps piece words Waits inside told_is few known rest = absurd known.1
    Ended-told steps piece words (Done out) inside told_is few known rest =
        record { out = out; left = words_after (work.wants piece) words; finishes = FinishesWithin-done work steps piece words out inside told_is; holds = known }

    Ended-step : (steps : ℕ) (piece : P) (words : List ℕ) → StepsAlone Holds Ends words piece → left piece < suc steps → ((p : P) (w : List ℕ) → Holds w p → left p < steps → Ended steps p w) → Ended (suc steps) piece words
    Ended-step steps piece words step few rest =
        let C : WordOp → Type 0 = λ op. (place_of op < length words) × IsKnownOf left (left piece) (Holds (words_after op words)) ⊥ (Ends (words_after op words)) (work.takes piece (answer_of op words)) in
        let here : C (work.wants piece) = subst C (sym step.wants_is) (step.inside, step.known) in
        Ended-told steps piece words (next_on work piece words).told here.0 refl few here.1 rest

    -- where each step holds on with fewer steps left, or ends, so many steps are enough
    pub ends_alone : ((piece : P) (words : List ℕ) → Holds words piece → StepsAlone Holds Ends words piece) → (steps : ℕ) (piece : P) (words : List ℕ) → Holds words piece → left piece < steps → Ended steps piece words
    ends_alone step zero piece words holds few = absurd (omega (arith, few))
    ends_alone step (suc steps) piece words holds few =
        Ended-step steps piece words (step piece words holds) few (λ p w h f. ends_alone step steps p w h f)

-- a piece of one step is done with it
module _ {P T : Type 0} (work : Work P T) (words : List ℕ) (piece : P) (Changes : ℕ → List ℕ → Type 0) (Ends : List ℕ → T → Type 0) where
  Once-told : (word : ℕ) (told : Step T) → place_of (work.wants piece) < length words → Changes word (words_after (work.wants piece) words) → (next_on work piece words).told ≡ told → IsKnown {P = P} (λ next. 0) 0 (λ next. ⊥) ⊥ (Ends (words_after (work.wants piece) words)) (next_on work piece words).piece told → EndsAlone work 1 piece words (λ out left. Changes word left × Ends left out)
  Once-told word More inside changes told_is known = absurd known.0
  Once-told word Waits inside changes told_is known = absurd known.1
  Once-told word (Done out) inside changes told_is known =
      record { out = out; left = words_after (work.wants piece) words; finishes = FinishesWithin-done work 0 piece words out inside told_is; holds = (changes, known) }

  pub ends_at_once : (op : WordOp) → Steps work (λ next. 0) words piece op Changes (λ words next. ⊥) ⊥ Ends → EndsAlone work 1 piece words (λ out left. Changes (word_after op (slice_index words (place_of op))) left × Ends left out)
  ends_at_once op step =
      let word = word_after op (slice_index words (place_of op)) in
      let C : WordOp → Type 0 = λ o. (place_of o < length words) × Changes word (words_after o words) × IsKnownOf {P = P} (λ next. 0) 0 (λ next. ⊥) ⊥ (Ends (words_after o words)) (work.takes piece (answer_of o words)) in
      let here : C (work.wants piece) = subst C (sym step.wants_is) (step.inside, step.leaves, step.known) in
      Once-told word (next_on work piece words).told here.0 here.1 refl here.2
