-- The objects of a history.
use Rattle.std.proofs.Common.{◌≡◌, ℕ, List, [], ◌∷◌, true, false, Option, Some, None, refl, sym, ◌∙◌, ap, subst}
use Rattle.std.proofs.lemmas.List.Elements.{All-nil, All-cons}
use Rattle.std.proofs.lemmas.Option.{slice_get-get_or}
use Rattle.std.specs.Prelude.{IsSomeAnd, IfSome, slice_get, get_or, unwrap_or}
use Rattle.ideal_machine.specs.Memory.{Object, Memory, no_object}
use Rattle.ideal_machine.specs.Names.{KeepsApart}
use Rattle.ideal_machine.specs.Growth.{IsLaterObject, HasLaterObjects}
use Rattle.ideal_machine.specs.Apart.{AreApart}
use Rattle.ideal_machine.proofs.Growth.{same_objects, events_only_add}
use Rattle.ideal_machine.proofs.ObjectsApart.{statics_are_apart, objects_stay_apart}
use Rattle.form_play.specs.Legal.{Entry, History, memory_after, last_memory, memory_before, statics_of}
use Rattle.form_play.specs.Objects.{ObjectsStay, ObjectsNeverMove, ObjectsAreApart, NamesObject, CoveredObjectsAreNotNamed}

-- ---- objects stay

later_still : (a b c : Object) → IsLaterObject a b → IsLaterObject b c → IsLaterObject a c
later_still a b c h k = record {
  address = k.address ∙ h.address;
  bytes = k.bytes ∙ h.bytes;
  kind = k.kind ∙ h.kind;
  freed = λ e. k.freed (h.freed e);
  covered = λ e. k.covered (h.covered e);
  words = k.words ∙ h.words;
}

-- what is there is there with an element
pub record IsThere {A : Type 0} (P : A → Type 0) (o : Option A) : Type 0 where
  pub element : A
  pub is : o ≡ Some element
  pub holds : P element

is_there : {A : Type 0} (P : A → Type 0) (o : Option A) → IsSomeAnd o P → IsThere P o
is_there P None h = absurd h
is_there P (Some x) h = record { element = x; is = refl; holds = h }

later_objects : (a b c : List Object) → HasLaterObjects a b → HasLaterObjects b c → HasLaterObjects a c
later_objects a b c h k n o at =
    let next = is_there (IsLaterObject o) (slice_get b n) (h n o at) in
    let last = is_there (IsLaterObject next.element) (slice_get c n) (k n next.element next.is) in
    subst (λ x. IsSomeAnd x (IsLaterObject o)) (sym last.is) (later_still o next.element last.element next.holds last.holds)

pub objects_stay : ObjectsStay
objects_stay memory [] = same_objects memory.objects
objects_stay memory (entry ∷ rest) =
    let after = memory_after memory entry in
    later_objects memory.objects after.objects (last_memory after rest).objects
    (events_only_add memory entry.actor entry.event entry.answer).objects (objects_stay after rest)

pub objects_never_move : ObjectsNeverMove
objects_never_move memory history n there =
    let o = get_or memory.objects n no_object in
    let at : slice_get memory.objects n ≡ Some o = slice_get-get_or memory.objects n no_object there in
    let last = is_there (IsLaterObject o) (slice_get (last_memory memory history).objects n) (objects_stay memory history n o at) in
    ap (λ x. (unwrap_or x no_object).address) last.is ∙ (last.holds.address ∙ sym (ap (λ x. (unwrap_or x no_object).address) at))

-- ---- objects are apart

stay_apart : (memory : Memory) (history : History) → AreApart memory.objects → AreApart (last_memory memory history).objects
stay_apart memory [] apart = apart
stay_apart memory (entry ∷ rest) apart =
    stay_apart (memory_after memory entry) rest (objects_stay_apart memory entry.actor entry.event entry.answer apart)

pub objects_are_apart : ObjectsAreApart
objects_are_apart program world history =
    stay_apart (memory_before world program) history (statics_are_apart world (statics_of program) program.main)

-- ---- covered objects

abbrev IsCovered : Memory → ℕ → Type 0
IsCovered memory n = IsSomeAnd (slice_get memory.objects n) (λ o. o.covered ≡ true)

stays_covered : (memory : Memory) (entry : Entry) (n : ℕ) → IsCovered memory n → IsCovered (memory_after memory entry) n
stays_covered memory entry n h =
    let now = is_there (λ o. o.covered ≡ true) (slice_get memory.objects n) h in
    let next = is_there (IsLaterObject now.element) (slice_get (memory_after memory entry).objects n)
    ((events_only_add memory entry.actor entry.event entry.answer).objects n now.element now.is) in
    subst (λ x. IsSomeAnd x (λ o. o.covered ≡ true)) (sym next.is) (next.holds.covered now.holds)

not_named : (memory : Memory) (entry : Entry) (n : ℕ) → KeepsApart memory entry.event entry.answer → IsCovered memory n → ¬ NamesObject n entry
not_named memory entry n apart covered named =
    let now = is_there (λ o. o.covered ≡ true) (slice_get memory.objects n) covered in
    let at : IfSome (slice_get memory.objects n) (λ o. o.covered ≡ false) =
    subst (λ k. IfSome (slice_get memory.objects k) (λ o. o.covered ≡ false)) named.2 (apart named.0 n named.1) in
    let clear : now.element.covered ≡ false = subst (λ x. IfSome x (λ o. o.covered ≡ false)) now.is at in
    let set : now.element.covered ≡ true = now.holds in
    absurd (cc)

pub covered_objects_are_not_named : CoveredObjectsAreNotNamed
covered_objects_are_not_named world memory [] n h covered = All-nil _
covered_objects_are_not_named world memory (entry ∷ rest) n h covered =
    All-cons (λ entry. ¬ NamesObject n entry) entry rest (not_named memory entry n h.1 covered)
    (covered_objects_are_not_named world (memory_after memory entry) rest n h.2 (stays_covered memory entry n covered))
