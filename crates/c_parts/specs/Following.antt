-- Two ways more for one production to follow another.
use Rattle.std.specs.Prelude.{◌++◌, ◌⊎◌}
use Rattle.c_parts.specs.Part.{◌&>◌, FarSpells, FarFront}
use Rattle.c_parts.specs.Reading.{in_turn, in_turn_by}
use Rattle.c_parts.specs.Production.{Shape, Production, joined}

-- one production, and then another that goes by the first's value; each such has this shape
abbrev pub followed : {A B : Type 0} → Production A → Shape → (A → Production B) → Production (A × B)
followed a shape b = record { part = a.part &> (λ x. (b x).part); read = in_turn_by a.read (λ x. (b x).read); shape = joined a.shape shape }

-- one production as far as it goes, and then another
infixr 6 ◌>&◌
abbrev pub ◌>&◌ : {A B : Type 0} → Production A → Production B → Production (A × B)
a >& b = record {
  part = record { Spells = FarSpells a.part b.part; Front = λ n ts. a.part.Front n ts ⊎ FarFront a.part b.part n ts };
  read = in_turn a.read b.read;
  shape = record { starts = a.shape.starts; goes_on = a.shape.goes_on ++ b.shape.goes_on; solid = a.shape.solid };
}
