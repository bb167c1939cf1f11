-- The macros of the code as the definition's.
use Rattle.std.specs.Prelude.{ℕ, ◌<◌, ◌≤◌, ◌^◌, Vec, length}
use Rattle.std.specs.declared.alloc.Global.{Global}
use Rattle.c_preproc.specs.declared.macros.Table.{Table}
use Rattle.c_preproc.specs.declared.expander.Expander.{Expander}
use Rattle.c_preproc.specs.Macros.{Definitions}
use Rattle.c_preproc.specs.Code.Table.{IsIndexed, body_at, defined_of, place_of}
use Rattle.c_preproc.specs.declared.name_filter.NameFilter.{NameFilter}
use Rattle.c_preproc.specs.Code.NameFilter.{AreIn}
use Rattle.c_preproc.specs.Code.Expander.{IsStore, setting_of}

abbrev pub definitions_of : Vec ℕ Global → Table → Definitions
definitions_of bytes table = record { bytes = bytes.items; macros = defined_of (place_of table.index) table.entries.items }

-- what holds of them between two calls
pub record IsDefined (bytes : Vec ℕ Global) (table : Table) (expander : Expander) (names : NameFilter) : Type 0 where
  pub indexed : IsIndexed (place_of table.index) table.entries.items
  pub digits : 2 ≤ length bytes.items
  pub small : length bytes.items < 2 ^ 32
  pub store : IsStore (setting_of bytes.items table) expander
  pub filtered : (place : ℕ) → AreIn names.slots.items bytes.items (body_at table.entries.items place)
