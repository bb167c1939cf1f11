-- Which objects an event names: the address rule, and how the half of a freed object may be shown.
use Rattle.std.specs.Prelude.{◌≡◌, ◌⊎◌, ℕ, ◌+◌, ◌<◌, List, [], ◌∷◌, ◌++◌, length, map, All, IsSomeAnd, IfSome, Bool, true, false, not, ◌&&◌, ◌||◌, ◌==◌, nat_lt, if◌then◌else◌, slice_get}
use Rattle.ideal_machine.specs.declared.value.Half.{Half}
use Rattle.ideal_machine.specs.declared.value.Half.TheVariants.{Freed, Object as ObjectHalf}
use Rattle.ideal_machine.specs.declared.value.Kept.{Kept}
use Rattle.ideal_machine.specs.declared.value.Kept.TheVariants.{Plain as KeptPlain, Pair as KeptPair}
use Rattle.ideal_machine.specs.declared.value.Found.{Found}
use Rattle.ideal_machine.specs.declared.value.Found.TheVariants.{Plain as FoundPlain, Pair as FoundPair}
use Rattle.ideal_machine.specs.declared.event.Seen.{Seen}
use Rattle.ideal_machine.specs.declared.event.Seen.TheVariants.{Any, Found as SeenFound}
use Rattle.ideal_machine.specs.declared.event.Event.{Event}
use Rattle.ideal_machine.specs.declared.event.Event.TheVariants.{Check, GetInt, SetInt, RmwInt, CasInt, GetHalf, SetHalf, CasHalf, Void, Size, Name, Lock, Spawn, Begin}
use Rattle.ideal_machine.specs.declared.event.Answer.{Answer}
use Rattle.ideal_machine.specs.declared.event.Answer.TheVariants.{Found as FoundAnswer, Opened, Made}
use Rattle.ideal_machine.specs.Memory.{Object, Memory}

-- ---- names

-- the objects that a half names
abbrev pub half_names : Half → List ℕ
half_names (ObjectHalf n) = n ∷ []
half_names half = []

abbrev pub kept_names : Kept → List ℕ
kept_names (KeptPlain half) = half_names half
kept_names (KeptPair address half) = half_names half

abbrev pub found_names : Found → List ℕ
found_names (FoundPlain half) = half_names half
found_names (FoundPair number) = []

abbrev pub seen_names : Seen → List ℕ
seen_names Any = []
seen_names (SeenFound found) = found_names found

-- the objects that an event names
abbrev pub event_names : Event → List ℕ
event_names (Check half address width write) = half_names half
event_names (GetInt access) = access.object ∷ []
event_names (SetInt access value) = access.object ∷ []
event_names (RmwInt access operation value) = access.object ∷ []
event_names (CasInt access expected desired) = access.object ∷ []
event_names (GetHalf object word) = object ∷ []
event_names (SetHalf object word half) = object ∷ kept_names half
event_names (CasHalf object word seen new) = object ∷ (seen_names seen ++ kept_names new)
event_names (Void half address) = half_names half
event_names (Size half address) = half_names half
event_names (Name half address) = half_names half
event_names (Lock object offset) = object ∷ []
event_names (Spawn function address half) = half_names half
event_names (Begin function address half) = half_names half
event_names event = []

-- the objects that an answer names
abbrev pub answer_names : Answer → List ℕ
answer_names (FoundAnswer found) = found_names found
answer_names (Opened address half) = half_names half
answer_names (Made object address) = object ∷ []
answer_names answer = []

-- what an event names is there
abbrev pub NamesObjects : Memory → Event → Type 0
NamesObjects memory event = All (λ n. n < length memory.objects) (event_names event)

-- ---- the address rule

-- how many bytes an object takes up: one that has none takes up one
abbrev pub extent_of : Object → ℕ
extent_of object = if object.bytes == 0 then 1 else object.bytes

-- two objects share a byte
abbrev pub overlaps : Object → Object → Bool
overlaps a b = nat_lt a.address (b.address + extent_of b) && nat_lt b.address (a.address + extent_of a)

-- an object that isn't freed is covered by a new one that lies on its bytes
abbrev pub object_under : Object → Object → Object
object_under new old = record old { covered = old.covered || (not old.freed && overlaps old new) }

-- the memory with a new object: it is the next one, and covers those that it lies on
abbrev pub with_new_object : Memory → Object → Memory
with_new_object memory new = record memory { objects = map (object_under new) memory.objects ++ new ∷ [] }

-- no thread sees two objects at one address: what an event or its answer names isn't covered
abbrev pub KeepsApart : Memory → Event → Answer → Type 0
KeepsApart memory event answer =
    All (λ n. IfSome (slice_get memory.objects n) (λ o. o.covered ≡ false)) (event_names event ++ answer_names answer)

-- ---- halves of freed objects

-- the half names an object that was freed
abbrev pub NamesFreed : Memory → Half → Type 0
NamesFreed memory (ObjectHalf n) = IsSomeAnd (slice_get memory.objects n) (λ o. o.freed ≡ true)
NamesFreed memory half = ⊥

-- how a half may be shown: as it is, or as Freed where its object was freed
abbrev pub IsShown : Memory → Half → Half → Type 0
IsShown memory half shown = (shown ≡ half) ⊎ ((shown ≡ Freed) × NamesFreed memory half)

-- how what a word has may be shown; of a pair its number
abbrev pub IsFoundAs : Memory → Found → Found → Type 0
IsFoundAs memory (FoundPlain half) (FoundPlain shown) = IsShown memory half shown
IsFoundAs memory stored shown = shown ≡ stored

abbrev pub kept_as : (Half → Half) → Kept → Kept
kept_as show (KeptPlain half) = KeptPlain (show half)
kept_as show (KeptPair address half) = KeptPair address (show half)

-- an event with its half shown so; what a CasHalf expects stays
abbrev pub event_as : (Half → Half) → Event → Event
event_as show (Check half address width write) = Check (show half) address width write
event_as show (SetHalf object word half) = SetHalf object word (kept_as show half)
event_as show (CasHalf object word seen new) = CasHalf object word seen (kept_as show new)
event_as show (Void half address) = Void (show half) address
event_as show (Size half address) = Size (show half) address
event_as show (Name half address) = Name (show half) address
event_as show (Spawn function address half) = Spawn function address (show half)
event_as show (Begin function address half) = Begin function address (show half)
event_as show event = event

-- what a thread asks may stand in a history so: as it is, or with Freed for the half of an object that was freed by then
abbrev pub IsShownAs : Memory → Event → Event → Type 0
IsShownAs memory event shown =
    (show : Half → Half) × ((half : Half) → IsShown memory half (show half)) × (shown ≡ event_as show event)
