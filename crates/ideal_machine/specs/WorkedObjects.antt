-- Worked examples of the transitions on objects: checks, allocation, `free`, sizes, names, and the first memory's static
-- objects.
use Rattle.std.specs.Prelude.{◌≡◌, ◌-◌, ◌^◌, List, [], ◌∷◌, true, false}
use Rattle.filc_num.specs.StaticDefs.{PlainStatic}
use Rattle.filc_num.specs.declared.statics.StaticHalf.TheVariants as static
use Rattle.filc_num.specs.declared.reason.Reason.TheVariants as reason
use Rattle.ideal_machine.specs.declared.value.Half.TheVariants.{Nothing, Freed, Object as ObjectHalf, Function}
use Rattle.ideal_machine.specs.declared.value.Found.TheVariants.{Plain}
use Rattle.ideal_machine.specs.declared.event.Event.{Event}
use Rattle.ideal_machine.specs.declared.event.Event.TheVariants.{Check, New, Void, Size, Name, Begin, Collected}
use Rattle.ideal_machine.specs.declared.event.Answer.{Answer}
use Rattle.ideal_machine.specs.declared.event.Answer.TheVariants.{Granted, Refused, Done, Number, Made, Absent}
use Rattle.ideal_machine.specs.Memory.{Memory, object_at, word_at, address_in}
use Rattle.ideal_machine.specs.Beginning.{first_memory}
use Rattle.ideal_machine.specs.Names.{KeepsApart}
use Rattle.ideal_machine.specs.Allows.{IsAllowed}
use Rattle.ideal_machine.specs.Effects.{effect_of}
use Rattle.ideal_machine.specs.Worked.{world, at_begin}

-- the running `main` may make this event and get this answer, or may not
abbrev pub May : Memory → Event → Answer → Type 0
May memory event answer = IsAllowed world memory 0 event answer

abbrev pub MayNot : Memory → Event → Answer → Type 0
MayNot memory event answer = ¬ May memory event answer

-- what it leaves
abbrev pub after : Memory → Event → Answer → Memory
after memory event answer = effect_of memory 0 event answer

-- ---- static objects

-- those of `char *p = "hi" + 1; int (*f)(void) = main;`, one object and a literal
abbrev pub greeting : List PlainStatic
greeting =
    record { bytes = 16; literal = false; words = 1 ∷ 0 ∷ []; halves = static.Object 1 ∷ static.Function 0 ∷ [] }
    ∷ record { bytes = 3; literal = true; words = 26984 ∷ []; halves = static.None ∷ [] } ∷ []

abbrev pub with_greeting : Memory
with_greeting = effect_of (first_memory world greeting 0) 0 (Begin 0 0 Nothing) Done

-- they lie behind the words of the run, and a pointer among them has the address and the half of what it names
abbrev pub StaticsHaveTheirContents : Type 0
StaticsHaveTheirContents =
    (address_in with_greeting 0 ≡ 8454632) × (address_in with_greeting 1 ≡ 8454704)
    × (word_at with_greeting 0 0 ≡ record { integer = 8454705; half = Plain (ObjectHalf 1) })
    × (word_at with_greeting 0 1 ≡ record { integer = 16; half = Plain (Function 0) })
    × (word_at with_greeting 1 0 ≡ record { integer = 26984; half = Plain Nothing })

-- a literal may be read and not written, and neither it nor a static object may be freed
abbrev pub LiteralsAreReadOnly : Type 0
LiteralsAreReadOnly =
    May with_greeting (Check (ObjectHalf 1) 8454704 1 false) Granted
    × May with_greeting (Check (ObjectHalf 1) 8454704 1 true) (Refused reason.ReadOnly)
    × MayNot with_greeting (Check (ObjectHalf 1) 8454704 1 true) Granted
    × May with_greeting (Check (ObjectHalf 0) 8454632 8 true) Granted
    × May with_greeting (Void (ObjectHalf 0) 8454632) (Refused reason.BadFree)
    × May with_greeting (Void (ObjectHalf 1) 8454704) (Refused reason.BadFree)

-- ---- allocation

-- an object of 16 bytes from `malloc`, and then a home of 4
abbrev pub with_one : Memory
with_one = after at_begin (New 16 0) (Made 0 65536)

abbrev pub with_two : Memory
with_two = after with_one (New 4 1) (Made 1 65552)

-- a new object is the next one and lies at a multiple of 8, at 65,536 or above; or there is none
abbrev pub NewObjectsAreNext : Type 0
NewObjectsAreNext =
    May at_begin (New 16 0) (Made 0 65536) × May at_begin (New 16 0) Absent × MayNot at_begin (New 16 0) (Made 1 65536)
    × MayNot at_begin (New 16 0) (Made 0 65528) × MayNot at_begin (New 16 0) (Made 0 65540)
    × MayNot at_begin (New 16 0) Done
    × May with_one (New 4 1) (Made 1 65552) × MayNot with_one (New 4 1) (Made 0 65552)

-- it is zero
abbrev pub NewObjectsAreZero : Type 0
NewObjectsAreZero =
    (object_at with_one 0 ≡ record {
      address = 65536;
      bytes = 16;
      kind = 0;
      freed = false;
      covered = false;
      words = record { integer = 0; half = Plain Nothing } ∷ record { integer = 0; half = Plain Nothing } ∷ [];
    })
    × (after at_begin (New 16 0) Absent ≡ at_begin)

-- ---- checks

-- a pointer without an object is refused, whatever its address
abbrev pub PointersWithoutObjects : Type 0
PointersWithoutObjects =
    May with_one (Check Nothing 65536 4 false) (Refused reason.NoCapability)
    × May with_one (Check (Function 0) 65536 4 false) (Refused reason.FunctionData)
    × May with_one (Check Freed 65536 4 false) (Refused reason.Freed)
    × MayNot with_one (Check Nothing 65536 4 false) Granted × MayNot with_one (Check Freed 65536 4 false) Granted

-- an access is granted where all its bytes are the object's and it is aligned; bounds come before alignment, also next to
-- the end of the address space
abbrev pub AccessesAreInBounds : Type 0
AccessesAreInBounds =
    May with_one (Check (ObjectHalf 0) 65548 4 true) Granted
    × May with_one (Check (ObjectHalf 0) 65552 1 false) (Refused reason.Bounds)
    × May with_one (Check (ObjectHalf 0) 65535 1 false) (Refused reason.Bounds)
    × May with_one (Check (ObjectHalf 0) 65550 4 false) (Refused reason.Bounds)
    × May with_one (Check (ObjectHalf 0) (2 ^ 64 - 4) 8 false) (Refused reason.Bounds)
    × May with_one (Check (ObjectHalf 0) 65538 4 false) (Refused reason.Alignment)
    × MayNot with_one (Check (ObjectHalf 0) 65552 1 false) Granted
    × MayNot with_one (Check (ObjectHalf 0) 65548 4 true) (Refused reason.Bounds)

-- there is no check of another width, and none of an object that isn't there
abbrev pub ChecksAreOfWidths : Type 0
ChecksAreOfWidths =
    MayNot with_one (Check (ObjectHalf 0) 65536 3 false) Granted
    × MayNot with_one (Check (ObjectHalf 0) 65536 0 false) Granted
    × MayNot with_one (Check (ObjectHalf 0) 65536 16 false) Granted
    × MayNot with_one (Check (ObjectHalf 1) 65536 1 false) (Refused reason.Bounds)

-- a write of 8 bytes may want a cell, whatever else there is against it, and no other check may
abbrev pub CellsAreWantedByWrites : Type 0
CellsAreWantedByWrites =
    May with_one (Check (ObjectHalf 0) 65536 8 true) (Refused reason.NoCell)
    × May with_one (Check Nothing 0 8 true) (Refused reason.NoCell)
    × MayNot with_one (Check (ObjectHalf 0) 65536 8 false) (Refused reason.NoCell)
    × MayNot with_one (Check (ObjectHalf 0) 65536 4 true) (Refused reason.NoCell)

-- ---- free

abbrev pub with_freed_one : Memory
with_freed_one = after with_two (Void (ObjectHalf 0) 65536) Granted

-- an object of `malloc` is freed once, by its own address
abbrev pub ObjectsAreFreedOnce : Type 0
ObjectsAreFreedOnce =
    May with_two (Void (ObjectHalf 0) 65536) Granted
    × May with_two (Void (ObjectHalf 0) 65540) (Refused reason.BadFree)
    × May with_two (Void (ObjectHalf 1) 65552) (Refused reason.BadFree)
    × May with_two (Void Nothing 65536) (Refused reason.NoCapability)
    × May with_two (Void (Function 0) 16) (Refused reason.FunctionData)
    × May with_freed_one (Void (ObjectHalf 0) 65536) (Refused reason.Freed)
    × MayNot with_freed_one (Void (ObjectHalf 0) 65536) Granted × MayNot with_two (Void (ObjectHalf 1) 65552) Granted

-- then every check of it is refused, and its bytes stay
abbrev pub FreedObjectsStay : Type 0
FreedObjectsStay =
    May with_freed_one (Check (ObjectHalf 0) 65536 4 false) (Refused reason.Freed)
    × May with_freed_one (Check (ObjectHalf 0) 65552 4 false) (Refused reason.Freed)
    × MayNot with_freed_one (Check (ObjectHalf 0) 65536 4 false) Granted
    × (object_at with_freed_one 0 ≡ record (object_at with_two 0) { freed = true })
    × (object_at with_freed_one 1 ≡ object_at with_two 1)

-- the size is told where the object could be freed
abbrev pub SizesAreOfWholeObjects : Type 0
SizesAreOfWholeObjects =
    May with_two (Size (ObjectHalf 0) 65536) (Number 16)
    × May with_two (Size (ObjectHalf 0) 65540) (Refused reason.BadFree)
    × May with_freed_one (Size (ObjectHalf 0) 65536) (Refused reason.Freed)
    × MayNot with_two (Size (ObjectHalf 0) 65536) (Number 8) × MayNot with_two (Size (ObjectHalf 0) 65536) Granted
    × MayNot with_freed_one (Size (ObjectHalf 0) 65536) (Number 16)

-- a pointer may be looked at, also one to a freed object, but to none that isn't there
abbrev pub NamesAreThere : Type 0
NamesAreThere =
    May with_freed_one (Name (ObjectHalf 0) 65536) Done × May with_two (Name Nothing 7) Done
    × MayNot with_two (Name (ObjectHalf 2) 65536) Done

-- ---- the address rule

-- a new object covers one that it lies on, but not one that was freed; one of no bytes takes up a byte
abbrev pub NewObjectsCover : Type 0
NewObjectsCover =
    let over = after with_two (New 8 0) (Made 2 65544) in
    let over_freed = after with_freed_one (New 8 0) (Made 2 65544) in
    let none = after at_begin (New 0 0) (Made 0 65536) in (
    ((object_at over 0).covered ≡ true) × ((object_at over 1).covered ≡ false) × ((object_at over 2).covered ≡ false)
    × ((object_at over_freed 0).covered ≡ false)
    × ((object_at (after none (New 0 0) (Made 1 65536)) 0).covered ≡ true)
    × ((object_at (after none (New 0 0) (Made 1 65544)) 0).covered ≡ false)
    )

-- what is covered can't be named any more
abbrev pub CoveredObjectsAreGone : Type 0
CoveredObjectsAreGone =
    let over = after with_two (New 8 0) (Made 2 65544) in
    (¬ KeepsApart over (Check (ObjectHalf 0) 65536 1 false) Granted)
    × KeepsApart over (Check (ObjectHalf 1) 65552 1 false) Granted
    × KeepsApart over (Check (ObjectHalf 2) 65544 1 false) Granted

-- ---- cycles

-- the collector's cycles end one after another, by its own actor alone
abbrev pub CyclesEndInOrder : Type 0
CyclesEndInOrder =
    IsAllowed world at_begin 8 (Collected 1) Done × (¬ IsAllowed world at_begin 8 (Collected 2) Done)
    × (¬ IsAllowed world at_begin 0 (Collected 1) Done)
    × ((effect_of at_begin 8 (Collected 1) Done).cycles ≡ 1)
    × IsAllowed world (effect_of at_begin 8 (Collected 1) Done) 8 (Collected 2) Done
