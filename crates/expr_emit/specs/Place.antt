-- Where code stands in a text, and where its value comes.
use Rattle.std.specs.Prelude.{ℕ, Bool}
use Rattle.expr_emit.specs.declared.place.Place.{Place}

-- of a library header's text or not, and of a line, with its value in t
abbrev pub place_at : (library : Bool) → (line t : ℕ) → Place
place_at library line t = record { library = library; line = line; t = t }
