-- What is left of a run ends as the whole run does.
use Rattle.std.proofs.Common.{◌≡◌, ℕ, suc, ◌<◌, List, length, sym, ap, ◌∙◌, subst}
use Rattle.heap_words.specs.Operations.{place_of, answer_of, words_after}
use Rattle.heap_words.specs.Alone.{IsGoingOn, next_on, FinishesWithin}
use Rattle.heap_words.specs.Work.{Work}
use Rattle.heap_words.specs.declared.op.WordOp.{WordOp}
use Rattle.heap_words.specs.declared.piece.Step.{Step}
use Rattle.heap_words.specs.declared.piece.Step.TheVariants.{Done}
use Rattle.heap_words.proofs.Finishing.{FinishesWithin-done, FinishesWithin-more}

module _ {P T : Type 0} (work : Work P T) where
  -- where what is left ends with this, the whole does
  pub record EndsAs (is_going : P → Type 0) (steps : ℕ) (piece : P) (words : List ℕ) (whole_steps : ℕ) (whole : P) (first : List ℕ) : Type 0 where
    pub going : is_going piece
    pub back : (out : T) (left : List ℕ) → FinishesWithin work steps piece words out left → FinishesWithin work whole_steps whole first out left

  -- what `next`, `apply` and `take` gave is a step
  pub record IsStep (piece : P) (words : List ℕ) (told : Step T) (next : P) (left : List ℕ) : Type 0 where
    pub told_is : told ≡ (next_on work piece words).told
    pub piece_is : next ≡ (next_on work piece words).piece
    pub words_are : left ≡ words_after (work.wants piece) words

  pub made_step : (piece next : P) (words left : List ℕ) (op : WordOp) (answer : ℕ) (told : Step T) → op ≡ work.wants piece → (answer ≡ answer_of op words) × (left ≡ words_after op words) → next ≡ (work.takes piece answer).piece → told ≡ (work.takes piece answer).told → IsStep piece words told next left
  made_step piece next words left op answer told op_is applied piece_is told_is =
      let answer_is : answer ≡ answer_of (work.wants piece) words = applied.0 ∙ ap (λ o. answer_of o words) op_is in
      record {
        told_is = told_is ∙ ap (λ a. (work.takes piece a).told) answer_is;
        piece_is = piece_is ∙ ap (λ a. (work.takes piece a).piece) answer_is;
        words_are = applied.1 ∙ ap (λ o. words_after o words) op_is;
      }

  module _ (is_going : P → Type 0) (more steps : ℕ) (piece next : P) (words after_words : List ℕ) (whole_steps : ℕ) (whole : P) (first : List ℕ) (steps_is : steps ≡ suc more) (ends : EndsAs is_going steps piece words whole_steps whole first) where
    -- a piece that is done ends the whole
    pub EndsAs-done : (out : T) → place_of (work.wants piece) < length words → IsStep piece words (Done out) next after_words → FinishesWithin work whole_steps whole first out after_words
    EndsAs-done out inside step =
        let here = FinishesWithin-done work more piece words out inside (sym step.told_is) in
        ends.back out after_words (subst (λ n. FinishesWithin work n piece words out after_words) (sym steps_is) (subst (λ w. FinishesWithin work (suc more) piece words out w) (sym step.words_are) here))

    -- one step further
    pub EndsAs-more : (keeps : (p : P) (answer : ℕ) → is_going p → IsGoingOn (work.takes p answer).told → is_going (work.takes p answer).piece) (told : Step T) → place_of (work.wants piece) < length words → IsStep piece words told next after_words → IsGoingOn told → EndsAs is_going more next after_words whole_steps whole first
    EndsAs-more keeps told inside step going =
        let goes : IsGoingOn (next_on work piece words).told = subst (λ t. IsGoingOn t) step.told_is going in
        let there : EndsAs is_going more (next_on work piece words).piece (words_after (work.wants piece) words) whole_steps whole first = record {
          going = keeps piece (answer_of (work.wants piece) words) ends.going goes;
          back = λ out left finishes. ends.back out left (subst (λ n. FinishesWithin work n piece words out left) (sym steps_is) (FinishesWithin-more work more piece words out left inside goes finishes));
        } in
        subst (λ p. EndsAs is_going more p after_words whole_steps whole first) (sym step.piece_is) (subst (λ w. EndsAs is_going more (next_on work piece words).piece w whole_steps whole first) (sym step.words_are) there)
