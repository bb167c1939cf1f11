-- What `layout` answers, as the layout that the members have.
use Rattle.std.specs.Prelude.{◌≡◌, ⊤, Result, Ok, Err}
use Rattle.c_types.specs.declared.layouts.Layout.{Layout as LaidOut}
use Rattle.c_types.specs.declared.layouts.LayoutFault.{LayoutFault}
use Rattle.c_types.specs.declared.layouts.LayoutFault.TheVariants.{Incomplete, TooLarge, NoMemory}
use Rattle.c_types.specs.declared.ctype.TypeFault.{TypeFault}
use Rattle.c_types.specs.declared.ctype.TypeFault.TheVariants.{Incomplete as IncompleteType, TooLarge as TooLargeType}
use Rattle.c_types.specs.Layouts.{Layout}

-- the layout is the one that the members have
abbrev pub IsLaidOut : Result Layout TypeFault → LaidOut → Type 0
IsLaidOut r l = r ≡ Ok (record { offsets = l.offsets.items; size = l.size; align = l.align })

-- the members have no layout, for this reason; want of memory says nothing of them
abbrev pub HasFault : Result Layout TypeFault → LayoutFault → Type 0
HasFault r Incomplete = r ≡ Err IncompleteType
HasFault r TooLarge = r ≡ Err TooLargeType
HasFault r NoMemory = ⊤
