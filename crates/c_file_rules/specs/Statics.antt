-- What static objects have in the beginning: an object zeros and what its initialiser gives it, and a text its bytes
-- and a zero.
use Rattle.std.specs.Prelude.{ℕ, zero, suc, ◌+◌, ◌-◌, ◌*◌, ◌/◌, ◌%◌, ◌^◌, ◌==◌, ◌&&◌, nat_lt, nat_le, Bool, true, false, List, [], ◌∷◌, ◌++◌, length, Option, Some, None}
use Rattle.std.specs.List.{find}
use Rattle.filc_num.specs.Statics.{payload_words_of}
use Rattle.filc_num.specs.declared.statics.StaticHalf.{StaticHalf}
use Rattle.filc_num.specs.declared.statics.StaticHalf.TheVariants as half
use Rattle.c_expr_rules.specs.declared.above.Fill.{Fill}
use Rattle.c_expr_rules.specs.declared.above.Filled.{Filled}
use Rattle.c_expr_rules.specs.declared.above.Placed.{Placed}
use Rattle.c_expr_rules.specs.Outcomes.{State}
use Rattle.c_expr_rules.specs.declared.state.Literal.{Literal}

pub record PlainStatic : Type 0 where
  pub bytes : ℕ
  pub literal : Bool
  pub words : List ℕ
  pub halves : List StaticHalf

abbrev pub has_byte : ℕ → Fill → Bool
has_byte place f = nat_le f.offset place && nat_lt place (f.offset + f.bytes)

abbrev pub byte_in : ℕ → Option Fill → ℕ
byte_in place None = 0
byte_in place (Some f) = f.value / 256 ^ (place - f.offset) % 256

-- little-endian: the byte at a place, and the word of so many bytes from a place on
abbrev pub byte_at : List Fill → ℕ → ℕ
byte_at fills place = byte_in place (find (has_byte place) fills)

abbrev pub word_from : List Fill → (count place : ℕ) → ℕ
word_from fills zero place = 0
word_from fills (suc n) place = byte_at fills place + 256 * word_from fills n (suc place)

abbrev pub half_in : Option Fill → StaticHalf
half_in None = half.None
half_in (Some f) = f.half

abbrev pub half_at : List Fill → ℕ → StaticHalf
half_at fills place = half_in (find (has_byte place) fills)

-- so many words from a place on
abbrev pub words_from : List Fill → (count place : ℕ) → List ℕ
words_from fills zero place = []
words_from fills (suc n) place = word_from fills 8 place ∷ words_from fills n (place + 8)

abbrev pub halves_from : List Fill → (count place : ℕ) → List StaticHalf
halves_from fills zero place = []
halves_from fills (suc n) place = half_at fills place ∷ halves_from fills n (place + 8)

abbrev pub static_with : (is_literal : Bool) → (bytes : ℕ) → List Fill → PlainStatic
static_with is_literal bytes fills =
    let count = payload_words_of bytes in
    record {
      bytes = bytes;
      literal = is_literal;
      words = words_from fills count 0;
      halves = halves_from fills count 0;
    }

abbrev pub byte_fills : ℕ → List ℕ → List Fill
byte_fills place [] = []
byte_fills place (v ∷ bytes) =
    record { offset = place; bytes = 1; value = v; half = half.None } ∷ byte_fills (suc place) bytes

abbrev pub text_static : Literal → PlainStatic
text_static l = static_with true (suc (length l.bytes)) (byte_fills 0 l.bytes)

abbrev pub fills_in : Option Filled → List Fill
fills_in None = []
fills_in (Some f) = f.fills

abbrev pub object_static : State → Placed → PlainStatic
object_static s o = static_with false o.bytes (fills_in (find (λ (f : Filled). f.number == o.number) s.above.filled))

abbrev pub static_or_text : State → Option Placed → Option Literal → List PlainStatic
static_or_text s (Some o) l = object_static s o ∷ []
static_or_text s None (Some l) = text_static l ∷ []
static_or_text s None None = []

abbrev pub static_at : State → ℕ → List PlainStatic
static_at s n =
    static_or_text s (find (λ (o : Placed). o.number == n) s.above.placed) (find
    (λ (l : Literal). l.number == n) s.literals)

-- so many statics, in order
abbrev pub statics_below : State → ℕ → List PlainStatic
statics_below s zero = []
statics_below s (suc n) = statics_below s n ++ static_at s n
