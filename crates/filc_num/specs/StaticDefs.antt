-- Static objects as plain lists, and copies of them.
use Rattle.std.specs.Prelude.{◌≡◌, ℕ, List, Bool}
use Rattle.filc_num.specs.declared.statics.StaticDef.{StaticDef}
use Rattle.filc_num.specs.declared.statics.StaticHalf.{StaticHalf}

-- a static object: its bytes, whether it is a literal, and its first contents, word by word
pub record PlainStatic : Type 0 where
  pub bytes : ℕ
  pub literal : Bool
  pub words : List ℕ
  pub halves : List StaticHalf

abbrev pub plain_static : StaticDef → PlainStatic
plain_static s = record { bytes = s.bytes; literal = s.literal; words = s.words.items; halves = s.halves.items }

-- the second has the first's size, kind and contents
pub record IsCopy (x y : StaticDef) : Type 0 where
  pub bytes : y.bytes ≡ x.bytes
  pub literal : y.literal ≡ x.literal
  pub words : y.words.items ≡ x.words.items
  pub halves : y.halves.items ≡ x.halves.items
