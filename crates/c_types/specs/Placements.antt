-- Where a member lies, as plain numbers.
use Rattle.std.specs.Prelude.{Result, Ok, Err}
use Rattle.c_types.specs.declared.members.Placement.{Placement}
use Rattle.c_types.specs.declared.ctype.TypeFault.{TypeFault}
use Rattle.c_types.specs.Layouts.{PlainPlacement}

abbrev pub placement_in : Result Placement TypeFault → Result PlainPlacement TypeFault
placement_in (Ok p) = Ok (record { offset = p.offset; end = p.end; align = p.align })
placement_in (Err fault) = Err fault
