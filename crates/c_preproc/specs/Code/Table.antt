-- The table of macros: entries in the order of their definitions, and an index from each name to its entry.
--
-- An entry is defined if the index leads from its name to its place. So what is undefined only
-- leaves the index, and its entry stays where it is.
use Rattle.std.specs.Prelude.{◌≡◌, ℕ, suc, Bool, false, cond, ◌==◌, List, [], ◌∷◌, Option, Some, None, IsSomeAnd, slice_get, Vec}
use Rattle.std.specs.declared.alloc.Global.{Global}
use Rattle.std.specs.BTreeMap.{BTreeMap, get_by}
use Rattle.std.specs.Cmp.Lexicographic.{slice_cmp}
use Rattle.std.specs.Ordering.{nat_cmp}
use Rattle.c_lexer.specs.declared.token.Token.{Token}
use Rattle.c_preproc.specs.declared.macros.Entry.{Entry}
use Rattle.c_preproc.specs.Macros.{Macro}

abbrev pub Index : Type 0
Index = BTreeMap (Vec ℕ Global) ℕ

-- the place of the entry of a name
abbrev pub place_of : Index → List ℕ → Option ℕ
place_of index name = get_by (λ key. slice_cmp nat_cmp name key.items) index

abbrev pub macro_of_entry : Entry → Macro
macro_of_entry entry = record { name = entry.name.items; body = entry.body.items }

abbrev pub is_place : Option ℕ → ℕ → Bool
is_place None place = false
is_place (Some other) place = other == place

-- the macros of the entries from this place on that are defined, the newest first, before older ones
unfoldable pub defined_from : (List ℕ → Option ℕ) → ℕ → List Entry → List Macro → List Macro
defined_from places place [] older = older
defined_from places place (entry ∷ entries) older =
    defined_from places (suc place) entries (cond (is_place (places entry.name.items) place) (macro_of_entry entry ∷ older) older)

-- the macros that are defined, the newest first
abbrev pub defined_of : (List ℕ → Option ℕ) → List Entry → List Macro
defined_of places entries = defined_from places 0 entries []

-- the index leads from a name to an entry of that name
abbrev pub IsIndexed : (List ℕ → Option ℕ) → List Entry → Type 0
IsIndexed places entries =
    (name : List ℕ) (place : ℕ) → places name ≡ Some place → IsSomeAnd (slice_get entries place) (λ entry. entry.name.items ≡ name)

abbrev pub body_of : Option Entry → List Token
body_of None = []
body_of (Some entry) = entry.body.items

-- the tokens of the entry at a place
abbrev pub body_at : List Entry → ℕ → List Token
body_at entries place = body_of (slice_get entries place)

abbrev pub name_of : Option Entry → List ℕ
name_of None = []
name_of (Some entry) = entry.name.items

-- the name of the entry at a place
abbrev pub name_at : List Entry → ℕ → List ℕ
name_at entries place = name_of (slice_get entries place)
