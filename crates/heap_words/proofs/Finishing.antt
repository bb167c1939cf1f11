-- How a piece finishes alone, step by step.
use Rattle.std.proofs.Common.{◌≡◌, ℕ, suc, ◌<◌, List, length, refl, ap, ◌∙◌, subst}
use Rattle.heap_words.specs.Operations.{place_of, words_after}
use Rattle.heap_words.specs.Alone.{IsGoingOn, Run, goes_on, next_on, one_step, alone, FinishesWithin}
use Rattle.heap_words.specs.Work.{Work}
use Rattle.heap_words.specs.declared.piece.Step.{Step}
use Rattle.heap_words.specs.declared.piece.Step.TheVariants.{More, Waits, Done}

-- what isn't done goes on
pub IsGoingOn-not_done : {T : Type 0} (told : Step T) → ((out : T) → told ≡ Done out → ⊥) → IsGoingOn told
IsGoingOn-not_done More other = tt
IsGoingOn-not_done Waits other = tt
IsGoingOn-not_done (Done out) other = other out refl

module _ {P T : Type 0} (work : Work P T) where
  goes_on-going : (rest : P → List ℕ → Run P T) (told : Step T) (piece : P) (words : List ℕ) → IsGoingOn told → goes_on rest told piece words ≡ rest piece words
  goes_on-going rest More piece words going = refl
  goes_on-going rest Waits piece words going = refl
  goes_on-going rest (Done out) piece words going = absurd going

  -- the last step
  pub FinishesWithin-done : (steps : ℕ) (piece : P) (words : List ℕ) (out : T) → place_of (work.wants piece) < length words → (next_on work piece words).told ≡ Done out → FinishesWithin work (suc steps) piece words out (words_after (work.wants piece) words)
  FinishesWithin-done steps piece words out inside done =
      let next : Run P T = one_step work piece words in
      let ends : goes_on (alone work steps) next.told next.piece next.words ≡ record { told = Done out; piece = next.piece; words = next.words } = ap (λ told. goes_on (alone work steps) told next.piece next.words) done in
      record {
        inside = (inside, λ going. absurd (subst (λ told. IsGoingOn told) done going));
        tells_out = ap (λ (run : Run P T). run.told) ends;
        leaves = ap (λ (run : Run P T). run.words) ends;
      }

  -- one step and the rest
  pub FinishesWithin-more : (steps : ℕ) (piece : P) (words : List ℕ) (out : T) (left : List ℕ) → place_of (work.wants piece) < length words → IsGoingOn (next_on work piece words).told → FinishesWithin work steps (next_on work piece words).piece (words_after (work.wants piece) words) out left → FinishesWithin work (suc steps) piece words out left
  FinishesWithin-more steps piece words out left inside going rest =
      let next : Run P T = one_step work piece words in
      let goes : goes_on (alone work steps) next.told next.piece next.words ≡ alone work steps next.piece next.words = goes_on-going (alone work steps) next.told next.piece next.words going in
      record {
        inside = (inside, λ _. rest.inside);
        tells_out = ap (λ (run : Run P T). run.told) goes ∙ rest.tells_out;
        leaves = ap (λ (run : Run P T). run.words) goes ∙ rest.leaves;
      }
