-- What a declarator declares: an object, a function or a typedef, and what its initialiser gives it (C11 6.7, 6.2.2,
-- 6.9.2).
--
-- construct                                 rules, the lowest first
-- declarator of an object                   2 4 5 6 7 33
-- declarator of a function                  2 4 6 7 33
-- declarator of a typedef                   2 4 5 6 7 33
-- declarator before a body                  2 4 5 6 7 33
-- initialiser of what can have none         11
-- initialiser that says an array's size     2 5
use Rattle.std.specs.Prelude.{ℕ, suc, ◌==◌, ◌&&◌, ◌||◌, Bool, true, false, not, is_some, List, [], ◌∷◌, ◌++◌, map, codes, slice_get, if◌then◌else◌, Option, Some, None}
use Rattle.std.specs.Option.{option_or}
use Rattle.std.specs.Str.{bytes_eq}
use Rattle.c_syntax.specs.declared.words.Storage.{Storage}
use Rattle.c_syntax.specs.declared.words.Storage.TheVariants as storage
use Rattle.c_syntax.specs.declared.file.Declaration.{Declaration}
use Rattle.c_syntax.specs.declared.file.InitDeclarator.{InitDeclarator}
use Rattle.c_syntax.specs.declared.file.Initialiser.{Initialiser}
use Rattle.c_syntax.specs.Files.{initialiser_span}
use Rattle.c_types.specs.declared.ctype.CType.{CType}
use Rattle.c_types.specs.declared.ctype.CType.TheVariants.{ArrayOf, Function}
use Rattle.c_types.specs.declared.ctype.ElementCount.{ElementCount}
use Rattle.c_types.specs.declared.ctype.Part.{Part}
use Rattle.c_types.specs.declared.derivation.Derivation.{Derivation}
use Rattle.c_tree.specs.declared.declared.Declared.{Declared}
use Rattle.c_tree.specs.declared.declared.Declared.TheVariants as declared
use Rattle.c_tree.specs.declared.declared.DeclaredObject.{DeclaredObject}
use Rattle.c_tree.specs.declared.declared.Definition.{Definition}
use Rattle.c_tree.specs.declared.declared.Definition.TheVariants as definition
use Rattle.c_tree.specs.declared.declared.Linkage.{Linkage}
use Rattle.c_tree.specs.declared.declared.Linkage.TheVariants.{NoLinkage, Internal, External, Prior}
use Rattle.c_tree.specs.declared.declared.ObjectNumber.{ObjectNumber}
use Rattle.c_tree.specs.declared.declared.ObjectNumber.TheVariants.{Static, Local}
use Rattle.c_tree.specs.declared.stmt.Stmt.{Stmt}
use Rattle.c_tree.specs.declared.stmt.LocalDef.{LocalDef}
use Rattle.c_tree.specs.declared.stmt.LocalKind.{LocalKind}
use Rattle.c_tree.specs.declared.stmt.LocalKind.TheVariants as local
use Rattle.c_specifiers.specs.declared.list.Standing.{Standing}
use Rattle.c_specifiers.specs.declared.list.Standing.TheVariants as standing
use Rattle.c_declarators.specs.Outermost.{ends_open, with_outermost}
use Rattle.c_scope.specs.Again.{is_linked, has_linkage}
use Rattle.c_expr_rules.specs.declared.above.Fill.{Fill}
use Rattle.c_expr_rules.specs.declared.above.Placed.{Placed}
use Rattle.c_expr_rules.specs.Outcomes.{State, Checked, Fine, Rule, next, by_rules, also_if_broken, ◌breaks◌}
use Rattle.c_expr_rules.specs.TypedExpressions.{type_at, always_has_home, size_of, or_zero}
use Rattle.c_file_rules.specs.Constructs.{Here, in_order}
use Rattle.c_file_rules.specs.Naming.{is_again, is_again_by_any_type, declares, linked}
use Rattle.c_file_rules.specs.Types.{count_of}
use Rattle.c_file_rules.specs.Operations.{is_int, takes_nothing, is_int_to_int}
use Rattle.c_file_rules.specs.Declarators.{Said, is_function, made_type, type_rule, declarator_type, size_rule, size_number, is_register_word, makes_function, line_of, name_of}
use Rattle.c_file_rules.specs.Specifiers.{Declarators, formed, specifiers_said}
use Rattle.c_file_rules.specs.Initialising.{Target, Given, characters_of, filled, looked_at, elements_in}

-- ---- what is declared

abbrev pub is_typedef_word : Option Storage → Bool
is_typedef_word (Some storage.Typedef) = true
is_typedef_word _ = false

abbrev pub is_file : Standing → Bool
is_file standing.File = true
is_file standing.Definition = true
is_file _ = false

-- 6.2.2p3 to p6: in a file an object without a storage word has external linkage; `extern`, and a function without one,
-- follow what stood before; in a block an object has linkage where it is `extern`
abbrev pub function_linkage : Option Storage → Linkage
function_linkage (Some storage.Static) = Internal
function_linkage _ = Prior

abbrev pub object_linkage : Standing → Option Storage → Linkage
object_linkage place (Some storage.Extern) = Prior
object_linkage standing.File None = External
object_linkage standing.File (Some storage.Static) = Internal
object_linkage _ _ = NoLinkage

-- 6.9.2: what defines an object
abbrev pub object_definition : Standing → Option Storage → (has_initialiser : Bool) → Definition
object_definition place (Some storage.Extern) has_initialiser =
    if is_file place && has_initialiser then definition.Full else definition.None
object_definition standing.File _ has_initialiser = if has_initialiser then definition.Full else definition.Tentative
object_definition _ _ has_initialiser = definition.Full

-- an object of a block without `static` and `extern` is a local
abbrev pub is_local : Standing → Option Storage → Bool
is_local standing.Block None = true
is_local standing.Block (Some storage.Auto) = true
is_local standing.Block (Some storage.Register) = true
is_local standing.ForStart _ = true
is_local _ _ = false

-- the number of what a name with linkage stands for already, else the next one
abbrev pub static_number : ℕ → ObjectNumber → ℕ
static_number fresh (Static n) = n
static_number fresh (Local n) = fresh

abbrev pub static_of : ℕ → Option Declared → ℕ
static_of fresh (Some (declared.Object o)) = static_number fresh o.number
static_of fresh _ = fresh

abbrev pub object_number : Here → Standing → Option Storage → ℕ → State → ObjectNumber
object_number here place word name s =
    if is_local place word
    then Local s.above.next_local
    else Static (
    if is_linked (object_linkage place word) then static_of s.next_static (linked here.around s name) else s.next_static)

abbrev pub declared_object : Here → Standing → (line : ℕ) → Option Storage → (has_initialiser : Bool) → ℕ
    → State → Part → Declared
declared_object here place line word has_initialiser name s p =
    declared.Object (record {
      line = line;
      ty = p;
      number = object_number here place word name s;
      linkage = object_linkage place word;
      is_register = is_register_word word;
      definition = object_definition place word has_initialiser;
    })

abbrev pub declared_function : Here → (line : ℕ) → Option Storage → (is_defined : Bool) → ℕ → State → Part → Declared
declared_function here line word is_defined name s p =
    declared.Function (record {
      line = line;
      ty = p.number;
      number = here.function_number (is_int_to_int s (type_at s p.number)) name;
      linkage = function_linkage word;
      is_defined = is_defined;
    })

-- what the name is to stand for, as a function or none; a body or an initialiser defines it
abbrev pub thing_declared : Here → Standing → (line : ℕ) → Option Storage → (is_defined : Bool) → ℕ
    → (is_function : Bool) → State → Part → Declared
thing_declared here place line word is_defined name is_function s p =
    if is_typedef_word word
    then declared.Typedef p
    else (
    if is_function
    then declared_function here line word is_defined name s p
    else declared_object here place line word is_defined name s p)

-- what it is to stand for, by its type
abbrev pub what_declared : Here → Standing → (line : ℕ) → Option Storage → (is_defined : Bool) → ℕ → State → Part
    → Declared
what_declared here place line word is_defined name s p =
    thing_declared here place line word is_defined name (is_function (type_at s p.number)) s p

-- ---- its rules

-- whether these derivations declare the name again, whatever type they make
abbrev pub is_name_again : Here → Standing → Said → (line : ℕ) → (is_defined : Bool) → ℕ → State → List Derivation
    → Bool
is_name_again here place said line is_defined name s ds =
    is_again_by_any_type here.around s name
    (thing_declared here place line said.storage is_defined name (makes_function ds) s said.ty)

-- a function from nothing to int (5.1.2.2.1)
abbrev pub is_main_type : State → CType → Bool
is_main_type s (Function f) = is_int (type_at s f.result) && takes_nothing (slice_get s.table f.parameters)
is_main_type s _ = false

abbrev pub is_main : Here → ℕ → Bool
is_main here name = bytes_eq (here.around.spelling name) (codes "main")

-- what a file declares, and what has linkage
abbrev pub is_of_file : Standing → Declared → Bool
is_of_file place d = is_file place || has_linkage d

abbrev pub is_main_function : State → Declared → Part → Bool
is_main_function s (declared.Function f) p = is_main_type s (type_at s p.number)
is_main_function s _ p = false

abbrev pub is_bad_main : Here → Standing → ℕ → Declared → State → Part → Bool
is_bad_main here place name what s p = is_main here name && (is_of_file place what && not (is_main_function s what p))

-- an object has a size
abbrev pub size_rules : Declared → State → Part → List Rule
size_rules (declared.Object o) s p = size_number (size_rule s p)
size_rules _ s p = []

abbrev pub declared_rules : Here → Standing → ℕ → (State → Part → Declared) → State → Part → List Rule
declared_rules here place name what s p =
    2 breaks is_again here.around s name (what s p) ∷
    size_rules (what s p) s p ++ 33 breaks is_bad_main here place name (what s p) s p ∷ []

-- ---- the state behind a declarator

-- what a local begins with: a home where it is an aggregate or atomic, or its address is taken
abbrev pub local_kind : Here → State → ℕ → Part → LocalKind
local_kind here s number p =
    let ty = type_at s p.number in
    if always_has_home ty p.qualifiers.0 || here.around.has_home number
    then local.Home (or_zero (size_of ty))
    else local.Zero

abbrev pub add_local : ℕ → LocalDef → State → State
add_local number d s = record s { above = record s.above { next_local = suc number; locals = d ∷ s.above.locals } }

abbrev pub with_local : Here → (line number : ℕ) → Part → State → State
with_local here line number p s =
    add_local number (record { line = line; local = number; kind = local_kind here s number p }) s

abbrev pub add_static : ℕ → Placed → State → State
add_static number o s =
    record s { next_static = suc number; above = record s.above { placed = o ∷ s.above.placed } }

-- a static object that no declaration had before has the next number
abbrev pub with_static : (number : ℕ) → Part → State → State
with_static number p s =
    if number == s.next_static
    then add_static number (record { number = number; bytes = or_zero (size_of (type_at s p.number)) }) s
    else s

abbrev pub with_object : Here → (line : ℕ) → ObjectNumber → Part → State → State
with_object here line (Local number) p s = with_local here line number p s
with_object here line (Static number) p s = with_static number p s

abbrev pub behind_declared : Here → (line name : ℕ) → Declared → State → State
behind_declared here line name (declared.Object o) s =
    with_object here line o.number o.ty (declares here.around s name (declared.Object o))
behind_declared here line name d s = declares here.around s name d

-- ---- initialisers

-- what has no initialiser: a typedef, a function, and an `extern` object of a block
abbrev pub may_be_initialised : Standing → DeclaredObject → Bool
may_be_initialised place o = is_file place || not (is_linked o.linkage)

abbrev pub needless : Here → State → Initialiser → Checked Given
needless here s i =
    next (looked_at here.around s i) (λ s g. by_rules (initialiser_span i).line (11 breaks true ∷ []) s g)

abbrev pub is_static_number : ObjectNumber → Bool
is_static_number (Static n) = true
is_static_number (Local n) = false

-- an object as its initialiser has it, by which its type may have a size
abbrev pub target_of : DeclaredObject → Part → Target
target_of o p = record { object = o; is_static = is_static_number o.number; is_whole = true; offset = 0; part = p }

abbrev pub with_fills : ObjectNumber → List Fill → State → State
with_fills (Local n) fills s = s
with_fills (Static n) fills s =
    record s { above = record s.above { filled = record { number = n; fills = fills } ∷ s.above.filled } }

-- what an initialiser gives what is declared, in which an array has this type
abbrev pub given_by : Here → Standing → Declared → Part → State → Initialiser → Checked Given
given_by here place (declared.Object o) p s i =
    if may_be_initialised place o then filled here.around (target_of o p) s i else needless here s i
given_by here place d p s i = needless here s i

abbrev pub given_to : Declared → State → Given → Checked (List Stmt)
given_to (declared.Object o) s g =
    if is_static_number o.number then Fine (with_fills o.number g.fills s) [] else Fine s g.stores
given_to d s g = Fine s []

-- ---- an array whose size its initialiser says

-- with no element there is no count, and the size stays open
abbrev pub sized_by : List Derivation → Option ElementCount → List Derivation
sized_by ds None = ds
sized_by ds (Some count) = with_outermost count ds

-- whether the elements are characters, as those of an array of one of them
abbrev pub are_characters : State → Part → List Derivation → Bool
are_characters s base ds =
    let made = made_type s base (sized_by ds (count_of 1)) in
    is_some (characters_of made.0 (type_at made.0 made.1.number))

abbrev pub count_in : Option ℕ → Option ElementCount
count_in None = None
count_in (Some n) = count_of n

-- the count that the initialiser of an array without a size says
abbrev pub count_said : Here → State → Part → List Derivation → Initialiser → Option ElementCount
count_said here s base ds i =
    if ends_open ds then count_in (elements_in here.around (are_characters s base ds) i) else None

-- where so many elements make a type too large, but one alone does not
abbrev pub is_too_large : State → Part → List Derivation → Option ElementCount → Bool
is_too_large s base ds None = false
is_too_large s base ds (Some count) =
    is_some (type_rule s base (sized_by ds (Some count))) &&
    not (is_some (type_rule s base (sized_by ds (count_of 1))))

abbrev pub elements_of : CType → ℕ
elements_of (ArrayOf a) = a.count
elements_of _ = 0

abbrev pub count_declared : State → Option Declared → ℕ
count_declared s (Some (declared.Object o)) = elements_of (type_at s o.ty.number)
count_declared s _ = 0

-- an array with linkage may have its size by an earlier declaration
abbrev pub sized_before : Here → Linkage → ℕ → State → List Derivation → List Derivation
sized_before here NoLinkage name s ds = ds
sized_before here _ name s ds =
    sized_by ds (count_of (count_declared s (linked here.around s name)))

-- what stands open still has the size that the initialiser says, and any where it says none, since it is refused then
abbrev pub sized : List Derivation → Option ElementCount → List Derivation
sized ds count = if ends_open ds then sized_by ds (option_or count (count_of 1)) else ds

-- an initialiser that breaks a rule by the size that it says
abbrev pub size_breaks : {A : Type 0} → (line rule : ℕ) → (is_broken : Bool) → Checked A → Checked A
size_breaks line rule is_broken found = if is_broken then also_if_broken line rule (λ s x. true) found else found

-- ---- declarations

-- a name with its declarator's type
abbrev pub name_declared : Here → Standing → Said → (line name : ℕ) → (has_initialiser : Bool) → State
    → List Derivation → Checked (Declared × Part)
name_declared here place said line name has_initialiser s ds =
    let what = what_declared here place line said.storage has_initialiser name in
    let again = is_name_again here place said line has_initialiser name s ds in
    next (declarator_type line again s said.ty ds (declared_rules here place name what))
    (λ s p. Fine (behind_declared here line name (what s p) s) (what s p, p))

-- an array that takes its size from this initialiser, which says none or one that is not too large
pub record Sizing : Type 0 where
  pub count : Option ElementCount
  pub is_too_large : Bool

abbrev pub sizing_of : State → Part → List Derivation → Option ElementCount → Sizing
sizing_of s base ds count =
    if is_too_large s base ds count
    then record { count = None; is_too_large = true }
    else record { count = count; is_too_large = false }

-- in its initialiser's items an array has the size that they say, if they say one
abbrev pub items_type : State → Part → List Derivation → Option ElementCount → Part → State × Part
items_type s base ds None p = (s, p)
items_type s base ds (Some count) p = made_type s base (sized_by ds (Some count))

abbrev pub is_initialised : Standing → Declared → Bool
is_initialised place (declared.Object o) = may_be_initialised place o
is_initialised place d = false

-- the initialiser of a declared thing of this type, whose items say a size
abbrev pub declared_with : Here → Standing → Sizing → Declared → (declared items : Part) → State → Initialiser
    → Checked (List Stmt)
declared_with here place z d p items s i =
    let line = (initialiser_span i).line in
    let is_other = is_initialised place d && not (items.number == p.number) in
    next (size_breaks line 2 is_other (size_breaks line 5 z.is_too_large (given_by here place d items s i)))
    (λ s g. given_to d s g)

abbrev pub initialised_name : Here → Standing → Said → (line name : ℕ) → State → List Derivation → Initialiser
    → Checked (List Stmt)
initialised_name here place said line name s ds i =
    let z = sizing_of s said.ty ds (count_said here s said.ty ds i) in
    let by_earlier = sized_before here (object_linkage place said.storage) name s ds in
    next (name_declared here place said line name true s (sized by_earlier z.count)) (λ s d.
    let items = items_type s said.ty ds z.count d.1 in
    declared_with here place z d.0 d.1 items.1 items.0 i)

abbrev pub init_named : Here → Standing → Said → (line : ℕ) → Option ℕ → State → List Derivation
    → Option Initialiser → Checked (List Stmt)
init_named here place said line None s ds i = Fine s []
init_named here place said line (Some name) s ds None =
    next (name_declared here place said line name false s ds) (λ s d. Fine s [])
init_named here place said line (Some name) s ds (Some i) = initialised_name here place said line name s ds i

abbrev pub init_declared : Here → Standing → Said → State → InitDeclarator → Checked (List Stmt)
init_declared here place said s d =
    next (formed here s d.declarator) (λ s f.
    init_named here place said (line_of d.declarator) (name_of d.declarator) s f.derivations d.initialiser)

-- a declaration (6.7), with the statements that its initialisers are
abbrev pub declaration_checked : Here → Standing → State → Declaration → Checked (List Stmt)
declaration_checked here place s d =
    let declarators = map (λ (i : InitDeclarator). i.declarator) d.declarators in
    next (specifiers_said here place (Declarators declarators) s d.specifiers)
    (λ s said. in_order (init_declared here place said) s d.declarators)
