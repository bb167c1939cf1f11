-- What each call makes of a table of types, as functions: each gives the table after it, and what was made. An entry that
-- is there is taken, and any other one is new; a structure, a union or an enumeration is always new.
--
-- What isn't of the table makes nothing: no declaration has such a part.
use Rattle.std.specs.Prelude.{◌≡◌, ℕ, suc, ◌%◌, ◌==◌, ◌&&◌, ◌≤◌, bit_or, is_none, Bool, true, false, IsTrue, List, [], ◌∷◌, ◌++◌, length, slice_get, slice_set, if◌then◌else◌, Option, Some, None, Result, Ok, Err}
use Rattle.std.specs.List.{list_all}
use Rattle.std.specs.Ordering.{is_eq}
use mathlib.Core.Path.{refl}
use native.Mathlib.Decide.{ℕ_discrete, dec_le}
use Rattle.c_types.specs.declared.ctype.CType.{CType}
use Rattle.c_types.specs.declared.ctype.CType.TheVariants.{Void, Enumeration, Pointer, ArrayOf, Function, Structure, Union}
use Rattle.c_types.specs.declared.ctype.ElementCount.{ElementCount}
use Rattle.c_types.specs.declared.ctype.Extent.{Extent}
use Rattle.c_types.specs.declared.ctype.Part.{Part}
use Rattle.c_types.specs.declared.ctype.TypeFault.{TypeFault}
use Rattle.c_types.specs.declared.derivation.Derivation.{Derivation}
use Rattle.c_types.specs.declared.derivation.Derivation.TheVariants as derivation
use Rattle.c_types.specs.declared.entry.Entry.{Entry}
use Rattle.c_types.specs.declared.entry.Entry.TheVariants.{OfType, NoParameters, Parameters}
use Rattle.c_types.specs.declared.entry.Tag.{Tag}
use Rattle.c_types.specs.declared.entry.Tag.TheVariants.{Structure as StructureTag, Union as UnionTag, Enumeration as EnumerationTag}
use Rattle.c_types.specs.contracts.entry.EntryOrd.TheImpl as EntryOrder
use Rattle.c_types.specs.Declarators.{type_in, shape_at}
use Rattle.c_types.specs.Derivations.{lowest_rule}
use Rattle.c_types.specs.Extents.{is_align}
use Rattle.c_types.specs.Sizes.{Room, room_of}
use Rattle.c_types.specs.Tables.{tag_type}

abbrev pub Table : Type 0
Table = List Entry

-- ---- an entry is found by what it says

abbrev pub same_entry : Entry → Entry → Bool
same_entry e f = is_eq ((EntryOrder.ghosts).cmp e f)

abbrev pub place_of : ℕ → Entry → Table → Option ℕ
place_of n e [] = None
place_of n e (f ∷ table) = if same_entry e f then Some n else place_of (suc n) e table

abbrev pub placed : Table → Entry → Option ℕ → Table × ℕ
placed table e (Some n) = (table, n)
placed table e None = (table ++ e ∷ [], length table)

-- an entry that is there, or else a new one
abbrev pub with_entry : Table → Entry → Table × ℕ
with_entry table e = placed table e (place_of 0 e table)

abbrev pub part_with : (quals : ℕ) → Table × ℕ → Table × Part
part_with quals made = (made.0, record { number = made.1; qualifiers = record { 0 = quals } })

abbrev pub with_type : Table → CType → Table × Part
with_type table ty = part_with 0 (with_entry table (OfType ty))

-- ---- counts and extents

abbrev pub count_if : (n : ℕ) → Dec (1 ≤ n) → Option ElementCount
count_if n (yes p) = Some (record { value = n; some = p })
count_if n (no p) = None

-- a count of elements is 1 at least
abbrev pub count_of : ℕ → Option ElementCount
count_of n = count_if n (dec_le 1 n)

abbrev pub extent_if : (size align : ℕ) → Dec (1 ≤ size) → Dec (size ≤ 131072) → (b : Bool) → (IsTrue b → IsTrue (is_align align))
    → Dec (size % align ≡ 0) → Option Extent
extent_if size align (yes p) (yes q) true aligned (yes whole) =
    Some (record {
      size = size;
      align = align;
      sound =
          record { some = p; bounded = q; of_a_scalar = aligned refl; whole = whole };
    })
extent_if size align _ _ _ _ _ = None

abbrev pub extent_of : (size align : ℕ) → Option Extent
extent_of size align =
    extent_if size align (dec_le 1 size) (dec_le size 131072) (is_align align) (λ h. h) (ℕ_discrete (size % align) 0)

abbrev pub extent_in : Result Room TypeFault → Option Extent
extent_in (Ok r) = extent_of r.size r.align
extent_in (Err fault) = None

-- ---- types

abbrev pub or_void : Option CType → CType
or_void (Some ty) = ty
or_void None = Void

abbrev pub type_of_part : Table → Part → CType
type_of_part table p = or_void (type_in table p.number)

-- ---- what is of the table

abbrev pub has_form : CType → ℕ → Bool
has_form (ArrayOf a) set = set == 0
has_form (Function f) set = set == 0
has_form ty set = true

abbrev pub is_part_of : Option Entry → ℕ → Bool
is_part_of (Some (OfType ty)) set = has_form ty set
is_part_of e set = false

abbrev pub is_part : Table → Part → Bool
is_part table p = is_part_of (slice_get table p.number) p.qualifiers.0

abbrev pub is_type_entry : Option Entry → Bool
is_type_entry (Some (OfType ty)) = true
is_type_entry e = false

abbrev pub is_list_entry : Option Entry → Bool
is_list_entry (Some NoParameters) = true
is_list_entry (Some (Parameters first others)) = true
is_list_entry e = false

abbrev pub knows_list : Table → Derivation → Bool
knows_list table (derivation.Function list more) = is_list_entry (slice_get table list)
knows_list table d = true

-- ---- derivations

abbrev pub array_of : Table → Part → ElementCount → Option Extent → Table × Part
array_of table of count None = (table, of)
array_of table of count (Some e) =
    with_type table (ArrayOf (record { element = of; extent = e; count = count.value; some = count.some }))

-- what a derivation makes of a type, where it makes one
abbrev pub derived_once : Table → Part → Derivation → Table × Part
derived_once table of (derivation.Pointer set) = part_with set.0 (with_entry table (OfType (Pointer of)))
derived_once table of (derivation.Array count) = array_of table of count (extent_in (room_of (type_of_part table of)))
derived_once table of (derivation.Function list more) =
    with_type table (Function (record { result = of.number; parameters = list; more = more }))
derived_once table of d = (table, of)

abbrev pub derived_each : Table → Part → List Derivation → Table × Part
derived_each table base [] = (table, base)
derived_each table base (d ∷ ds) = let made = derived_once table base d in derived_each made.0 made.1 ds

-- what breaks a rule makes nothing
abbrev pub may_derive : Table → Part → List Derivation → Bool
may_derive table base ds =
    is_part table base && (list_all (knows_list table) ds && is_none (lowest_rule (shape_at table base.number) None ds))

abbrev pub derived : Table → Part → List Derivation → Table × Part
derived table base ds = if may_derive table base ds then derived_each table base ds else (table, base)

-- ---- lists of parameters

abbrev pub list_from : Table → List ℕ → Table × ℕ
list_from table [] = with_entry table NoParameters
list_from table (n ∷ ns) =
    let others = list_from table ns in with_entry others.0 (Parameters n others.1)

-- a list of parameters of these types
abbrev pub parameter_list : Table → List ℕ → Table × ℕ
parameter_list table types =
    list_from table (if list_all (λ n. is_type_entry (slice_get table n)) types then types else [])

-- ---- parameters

-- a parameter's type: an array is a pointer to its elements, and a function a pointer to it (6.7.6.3p7, p8)
abbrev pub adjusted_as : Table → Part → CType → Table × Part
adjusted_as table p (ArrayOf a) = with_type table (Pointer a.element)
adjusted_as table p (Function f) = with_type table (Pointer p)
adjusted_as table p ty = (table, p)

abbrev pub adjusted : Table → Part → Table × Part
adjusted table p = if is_part table p then adjusted_as table p (type_of_part table p) else (table, p)

-- ---- qualifiers

-- with further qualifiers, which an array's innermost elements get (6.7.3p9); a function has none. It goes through so
-- many arrays, which are no more than there are entries
abbrev pub qualified_as : ℕ → Table → Part → ℕ → CType → Table × Part
qualified_as (suc n) table p set (ArrayOf a) =
    let made = qualified_as n table a.element set (type_of_part table a.element) in
    with_type made.0 (ArrayOf (record a { element = made.1 }))
qualified_as n table p set (ArrayOf a) = (table, p)
qualified_as n table p set (Function f) = (table, p)
qualified_as n table p set ty =
    (table, record { number = p.number; qualifiers = record { 0 = bit_or p.qualifiers.0 set } })

abbrev pub qualified : Table → Part → (set : ℕ) → Table × Part
qualified table p set =
    if is_part table p then qualified_as (length table) table p set (type_of_part table p) else (table, p)

-- ---- structures, unions and enumerations

abbrev pub new_tag_type : Table → Tag → Table × ℕ
new_tag_type table kind = (table ++ OfType (tag_type kind (length table) None) ∷ [], length table)

abbrev pub is_tag : Tag → ℕ → CType → Bool
is_tag StructureTag n (Structure tag None) = tag == n
is_tag UnionTag n (Union tag None) = tag == n
is_tag EnumerationTag n (Enumeration tag) = tag == n
is_tag kind n ty = false

abbrev pub is_open_entry : Tag → ℕ → Option Entry → Bool
is_open_entry kind n (Some (OfType ty)) = is_tag kind n ty
is_open_entry kind n e = false

abbrev pub is_open : Table → Tag → ℕ → Bool
is_open table kind n = is_open_entry kind n (slice_get table n)

-- with contents of this size and alignment; a type gets them once
abbrev pub completed : Table → Tag → (number size align : ℕ) → Table
completed table kind n size align =
    if is_open table kind n then slice_set table n (OfType (tag_type kind n (extent_of size align))) else table
