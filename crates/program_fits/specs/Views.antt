-- What an outline and a place show: the names of a program, and where a tree stands.
use Rattle.std.specs.Prelude.{map, reverse}
use Rattle.c_tree.specs.Operands.{Outline, Context}
use Rattle.c_tree.specs.Fits.{callee_of}
use Rattle.program_fits.specs.declared.outline.Names.TheInside.{Inside as InsideNames}
use Rattle.program_fits.specs.declared.outline.Place.TheInside.{Inside as InsidePlace}

abbrev pub names_of : InsideNames → Outline
names_of n = record { callees = map callee_of n.functions.now; statics = n.statics }

-- a home is put at the list's end
abbrev pub place_of : InsidePlace → Context
place_of p = record { locals = p.locals; homes = reverse p.homes.now; may_break = p.may_break; may_continue = p.may_continue }
