-- What the table and the undo list stand for.
use Rattle.std.specs.Prelude.{◌≡◌, ℕ, ◌+◌, true, false, if◌then◌else◌, List, [], ◌∷◌, length, slice_get, unwrap_or}
use Rattle.c_parts.specs.Scopes.{Scope, declares_name, declares_typedef, with_names}
use Rattle.c_cursor.specs.declared.names.Meaning.{Meaning}
use Rattle.c_cursor.specs.declared.names.Entry.{Entry}
use Rattle.c_cursor.specs.declared.names.Entry.TheVariants.{Opens, Binds}

-- the scopes after an entry
abbrev pub after_entry : List Scope → Entry → List Scope
after_entry scopes Opens = [] ∷ scopes
after_entry scopes (Binds binding was) = with_names (binding ∷ []) scopes

abbrev pub scopes_from : List Scope → List Entry → List Scope
scopes_from scopes [] = scopes
scopes_from scopes (entry ∷ entries) = scopes_from (after_entry scopes entry) entries

-- at first there is one scope, of the file
abbrev pub scopes_of : List Entry → List Scope
scopes_of entries = scopes_from ([] ∷ []) entries

-- a name that no scope declares
abbrev pub unknown : Meaning
unknown = record { is_declared = false; depth = 0; is_typedef = false }

abbrev pub meaning : ℕ → List Scope → Meaning
meaning x [] = unknown
meaning x (scope ∷ outer) = if declares_name x scope then record { is_declared = true; depth = length outer; is_typedef = declares_typedef x scope } else meaning x outer

abbrev pub meaning_at : List Meaning → ℕ → Meaning
meaning_at table x = unwrap_or (slice_get table x) unknown

-- what an entry takes back is what was before it
abbrev pub TakesBack : List Scope → Entry → Type 0
TakesBack scopes Opens = Unit {0}
TakesBack scopes (Binds binding was) = was ≡ meaning binding.name scopes

abbrev pub TakesBackFrom : List Scope → List Entry → Type 0
TakesBackFrom scopes [] = Unit {0}
TakesBackFrom scopes (entry ∷ entries) = TakesBack scopes entry × TakesBackFrom (after_entry scopes entry) entries

pub record IsNames (table : List Meaning) (entries : List Entry) (depth : ℕ) : Type 0 where
  pub known : (x : ℕ) → meaning_at table x ≡ meaning x (scopes_of entries)
  pub undo : TakesBackFrom ([] ∷ []) entries
  pub counted : depth + 1 ≡ length (scopes_of entries)
