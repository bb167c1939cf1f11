-- Every event leaves a later memory.
use Rattle.std.proofs.Common.{◌≡◌, ⊎_elim, ℕ, List, [], ◌∷◌, ◌++◌, map, Bool, true, false, Option, Some, refl, sym, ◌∙◌, ap, subst, arith, append-nil}
use Rattle.std.proofs.lemmas.Bool.{cases_eq}
use Rattle.std.specs.Prelude.{slice_get, option_map, IsSomeAnd, ◌||◌}
use Rattle.ideal_machine.specs.declared.value.Half.{Half}
use Rattle.ideal_machine.specs.declared.value.Half.TheVariants.{Object as ObjectHalf}
use Rattle.ideal_machine.specs.declared.value.Kept.{Kept}
use Rattle.ideal_machine.specs.declared.value.Kept.TheVariants.{Plain, Pair as PairKept}
use Rattle.ideal_machine.specs.Memory.{Word, Object, Memory}
use Rattle.ideal_machine.specs.Words.{with_element, with_word, with_half, with_pair}
use Rattle.ideal_machine.specs.Names.{object_under}
use Rattle.ideal_machine.specs.Effects.{new_object, with_freed}
use Rattle.ideal_machine.specs.Growth.{IsLaterObject, HasLaterObjects, IsLaterMemory, EventsOnlyAdd}
use Rattle.ideal_machine.proofs.Elements.{get-with_same, get-with_other, length-with_element, get-map_append}
use Rattle.ideal_machine.proofs.EffectCases.{OfEachChange, of_effect}

-- ---- objects

same_object : (o : Object) → IsLaterObject o o
same_object o = record { address = refl; bytes = refl; kind = refl; freed = λ h. h; covered = λ h. h; words = refl }

there : {A : Type 0} (P : A → Type 0) (o : Option A) (x : A) → o ≡ Some x → P x → IsSomeAnd o P
there P o x e h = subst (λ o. IsSomeAnd o P) (sym e) h

pub same_objects : (objects : List Object) → HasLaterObjects objects objects
same_objects objects n o e = there (IsLaterObject o) (slice_get objects n) o e (same_object o)

-- a change to each object that leaves it the same object
changed_objects :
    (objects : List Object) (n : ℕ) (change : Object → Object) → ((o : Object) → IsLaterObject o (change o)) →
    HasLaterObjects objects (with_element objects n change)
changed_objects objects n change later k o e =
    ⊎_elim
    (λ same.
    let at : slice_get objects n ≡ Some o = subst (λ i. slice_get objects i ≡ Some o) same e in
    subst (λ i. IsSomeAnd (slice_get (with_element objects n change) i) (IsLaterObject o)) (sym same)
    (there (IsLaterObject o) _ (change o) (get-with_same objects n change ∙ ap (option_map change) at) (later o)))
    (λ other. there (IsLaterObject o) _ o (get-with_other objects n k change other ∙ e) (same_object o))
    (cases_eq k n)

true_or : (a b : Bool) → a ≡ true → (a || b) ≡ true
true_or true b h = refl
true_or false b h = absurd (cc)

added_objects : (objects : List Object) (new : Object) → HasLaterObjects objects (map (object_under new) objects ++ new ∷ [])
added_objects objects new n o e =
    there (IsLaterObject o) _ (object_under new o) (get-map_append (object_under new) objects (new ∷ []) n o e)
    (record { address = refl; bytes = refl; kind = refl; freed = λ h. h; covered = true_or o.covered _; words = refl })

-- ---- the memory

none_more : {A : Type 0} (xs : List A) → (more : List A) × (xs ≡ xs ++ more)
none_more xs = ([], sym (append-nil xs))

with_objects : (memory : Memory) (objects : List Object) → HasLaterObjects memory.objects objects → IsLaterMemory memory (record memory { objects = objects })
with_objects memory objects later = record {
  objects = later;
  pairs = none_more memory.pairs;
  output = none_more memory.output;
  input_taken = omega arith;
  slots = refl;
}

same_memory : (memory : Memory) → IsLaterMemory memory memory
same_memory memory = with_objects memory memory.objects (same_objects memory.objects)

later_word : (change : Word → Word) (word : ℕ) (o : Object) → IsLaterObject o (record o { words = with_element o.words word change })
later_word change word o =
    record { address = refl; bytes = refl; kind = refl; freed = λ h. h; covered = λ h. h; words = length-with_element o.words word change }

word_later : (memory : Memory) (object word : ℕ) (change : Word → Word) → IsLaterMemory memory (with_word memory object word change)
word_later memory object word change =
    with_objects memory _ (changed_objects memory.objects object _ (later_word change word))

half_later : (memory : Memory) (object word : ℕ) (half : Kept) → IsLaterMemory memory (with_half memory object word half)
half_later memory object word (Plain half) = word_later memory object word _
half_later memory object word (PairKept address half) =
    let later = word_later (with_pair memory address half) object word _ in
    record { objects = later.objects; pairs = (record { address = address; half = half } ∷ [], refl); output = later.output; input_taken = later.input_taken; slots = later.slots }

freed_later : (memory : Memory) (half : Half) → IsLaterMemory memory (with_freed memory half)
freed_later memory (ObjectHalf n) =
    with_objects memory _
    (changed_objects memory.objects n _
    (λ o. record { address = refl; bytes = refl; kind = refl; freed = λ h. refl; covered = λ h. h; words = refl }))
freed_later memory half = same_memory memory

module _ (memory : Memory) where
  objects_same : HasLaterObjects memory.objects memory.objects
  objects_same = same_objects memory.objects

  later_cases : OfEachChange (IsLaterMemory memory) memory
  later_cases = record {
    same = same_memory memory;
    integer = λ access value. word_later memory _ _ _;
    half = half_later memory;
    new = λ bytes kind address. with_objects memory _ (added_objects memory.objects (new_object bytes kind address));
    freed = freed_later memory;
    slot = λ n change. record { objects = objects_same; pairs = none_more memory.pairs; output = none_more memory.output; input_taken = omega arith; slots = length-with_element memory.slots n change };
    byte = λ byte. record { objects = objects_same; pairs = none_more memory.pairs; output = (byte ∷ [], refl); input_taken = omega arith; slots = refl };
    input = record { objects = objects_same; pairs = none_more memory.pairs; output = none_more memory.output; input_taken = omega arith; slots = refl };
    cycle = λ cycle. record { objects = objects_same; pairs = none_more memory.pairs; output = none_more memory.output; input_taken = omega arith; slots = refl };
    finish = λ finish. record { objects = objects_same; pairs = none_more memory.pairs; output = none_more memory.output; input_taken = omega arith; slots = refl };
  }

pub events_only_add : EventsOnlyAdd
events_only_add memory actor event answer = of_effect (IsLaterMemory memory) memory (later_cases memory) actor event answer
