-- Integers and halves are stored apart.
use Rattle.std.proofs.Common.{◌≡◌, ℕ, map, Option, Some, None, refl}
use Rattle.std.specs.Prelude.{◌==◌, ◌^◌, ◌%◌}
use Rattle.ideal_machine.specs.declared.value.Kept.{Kept}
use Rattle.ideal_machine.specs.declared.value.Kept.TheVariants.{Plain, Pair as PairKept}
use Rattle.ideal_machine.specs.declared.event.Access.{Access}
use Rattle.ideal_machine.specs.declared.event.Event.TheVariants.{SetInt, RmwInt, CasInt, SetHalf, CasHalf, Lock}
use Rattle.ideal_machine.specs.declared.event.Answer.TheVariants.{Done, Number, Found as FoundAnswer}
use Rattle.ideal_machine.specs.Memory.{Word, Object, Memory}
use Rattle.ideal_machine.specs.Words.{with_element, with_word, with_integer, operation_result, with_half, with_pair, lock_access, is_seen, with_result}
use Rattle.ideal_machine.specs.Apart.{integers_of, halves_of, IntegersLeaveHalves, HalvesLeaveIntegers}
use Rattle.ideal_machine.proofs.Elements.{map-with_element}
use Rattle.ideal_machine.proofs.EffectCases.{either}

-- what a change leaves of each word is left of all objects
words_stay :
    {A : Type 0} (view : Word → A) (memory : Memory) (object word : ℕ) (change : Word → Word) → ((w : Word) → view (change w) ≡ view w) →
    map (λ (o : Object). map view o.words) (with_word memory object word change).objects ≡ map (λ (o : Object). map view o.words) memory.objects
words_stay view memory object word change same =
    map-with_element (λ (o : Object). map view o.words) memory.objects object (λ o. record o { words = with_element o.words word change })
    (λ o. map-with_element view o.words word change same)

module _ (memory : Memory) where
  abbrev LeavesHalves : Memory → Type 0
  LeavesHalves after = (halves_of after ≡ halves_of memory) × (after.pairs ≡ memory.pairs)

  integer_leaves : (access : Access) (value : ℕ) → LeavesHalves (with_integer memory access value)
  integer_leaves access value = (words_stay (λ (w : Word). w.half) memory _ _ _ (λ w. refl), refl)

  none_left : LeavesHalves memory
  none_left = (refl, refl)

  result_leaves : (access : Access) (o : Option ℕ) → LeavesHalves (with_result memory access o)
  result_leaves access None = none_left
  result_leaves access (Some value) = integer_leaves access value

  abbrev LeavesIntegers : Memory → Type 0
  LeavesIntegers after = integers_of after ≡ integers_of memory

  half_leaves : (object word : ℕ) (half : Kept) → LeavesIntegers (with_half memory object word half)
  half_leaves object word (Plain half) = words_stay (λ (w : Word). w.integer) memory object word _ (λ w. refl)
  half_leaves object word (PairKept address half) =
      words_stay (λ (w : Word). w.integer) (with_pair memory address half) object word _ (λ w. refl)

pub integers_leave_halves : IntegersLeaveHalves
integers_leave_halves memory actor (SetInt access value) Done h = integer_leaves memory access value
integers_leave_halves memory actor (SetInt access value) answer h = none_left memory
integers_leave_halves memory actor (RmwInt access operation value) (Number old) h =
    result_leaves memory access (operation_result operation old value)
integers_leave_halves memory actor (RmwInt access operation value) answer h = none_left memory
integers_leave_halves memory actor (CasInt access expected desired) (Number old) h =
    either (LeavesHalves memory) (old == expected % 256 ^ access.width) (with_integer memory access desired) memory
    (integer_leaves memory access desired) (none_left memory)
integers_leave_halves memory actor (CasInt access expected desired) answer h = none_left memory
integers_leave_halves memory actor (Lock object offset) Done h = integer_leaves memory (lock_access object offset) 1
integers_leave_halves memory actor (Lock object offset) answer h = none_left memory
integers_leave_halves memory actor event answer h = absurd (cc)

pub halves_leave_integers : HalvesLeaveIntegers
halves_leave_integers memory actor (SetHalf object word half) Done h = half_leaves memory object word half
halves_leave_integers memory actor (SetHalf object word half) answer h = refl
halves_leave_integers memory actor (CasHalf object word seen new) (FoundAnswer found) h =
    either (LeavesIntegers memory) (is_seen seen found) (with_half memory object word new) memory (half_leaves memory object word new) refl
halves_leave_integers memory actor (CasHalf object word seen new) answer h = refl
halves_leave_integers memory actor event answer h = absurd (cc)
