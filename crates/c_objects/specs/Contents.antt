-- First contents of static objects byte by byte, as the code sets them, and where in the lists of a state each number's
-- object, text and initialiser stand.
use Rattle.std.specs.Prelude.{◌≡◌, ◌<◌, ℕ, zero, suc, ◌+◌, ◌*◌, ◌/◌, ◌%◌, ◌==◌, List, [], ◌∷◌, length, reverse, slice_get, slice_set, slice_index, slice_index_or, if◌then◌else◌, Option, Some, None}
use Rattle.std.specs.List.{find}
use Rattle.std.specs.BTreeMap.{BTreeMap, get}
use Rattle.std.specs.Ordering.{nat_cmp}
use Rattle.filc_num.specs.declared.statics.StaticDef.{StaticDef}
use Rattle.filc_num.specs.declared.statics.StaticHalf.{StaticHalf}
use Rattle.filc_num.specs.declared.statics.StaticHalf.TheVariants as half
use Rattle.c_expr_rules.specs.declared.above.Fill.{Fill}
use Rattle.c_expr_rules.specs.declared.above.Filled.{Filled}
use Rattle.c_expr_rules.specs.declared.above.Placed.{Placed}
use Rattle.c_expr_rules.specs.Outcomes.{State}
use Rattle.c_expr_rules.specs.declared.state.Literal.{Literal}
use Rattle.c_file_rules.specs.Files.{IsStatic}
use Rattle.c_file_rules.specs.Statics.{PlainStatic, has_byte, byte_in}

-- ---- bytes

-- the half of the word that begins at a place, where one does
abbrev pub half_set : List StaticHalf → (place : ℕ) → StaticHalf → List StaticHalf
half_set halves place h = if place % 8 == 0 then slice_set halves (place / 8) h else halves

-- so many bytes of a fill
abbrev pub up_to : Fill → ℕ → Fill
up_to f count = record f { bytes = count }

-- the bytes of a fill are set, and all others stay
pub record BytesPut (old new : List ℕ) (f : Fill) : Type 0 where
  pub len : length new ≡ length old
  pub each :
      (n : ℕ) → n < length old
      → slice_index new n ≡ (if has_byte n f then byte_in n (Some f) else slice_index old n)

pub record HalvesPut (old new : List StaticHalf) (f : Fill) : Type 0 where
  pub len : length new ≡ length old
  pub each :
      (n : ℕ) → n < length old
      → slice_index_or new n half.None ≡ (if has_byte (8 * n) f then f.half else slice_index_or old n half.None)

abbrev pub byte_or : ℕ → (place : ℕ) → Option Fill → ℕ
byte_or other place None = other
byte_or other place (Some f) = byte_in place (Some f)

abbrev pub half_or : StaticHalf → Option Fill → StaticHalf
half_or other None = other
half_or other (Some f) = f.half

-- each byte is that of the first fill that has it
pub record BytesFilled (old new : List ℕ) (fills : List Fill) : Type 0 where
  pub len : length new ≡ length old
  pub each :
      (n : ℕ) → n < length old → slice_index new n ≡ byte_or (slice_index old n) n (find (has_byte n) fills)

pub record HalvesFilled (old new : List StaticHalf) (fills : List Fill) : Type 0 where
  pub len : length new ≡ length old
  pub each :
      (n : ℕ) → n < length old
      → slice_index_or new n half.None ≡ half_or (slice_index_or old n half.None) (find (has_byte (8 * n)) fills)

-- little-endian: the number of so many bytes from a place on, and so many words
unfoldable pub word_at : List ℕ → (count place : ℕ) → ℕ
word_at bytes zero place = 0
word_at bytes (suc n) place = slice_index bytes place + 256 * word_at bytes n (suc place)

unfoldable pub words_at : List ℕ → (count place : ℕ) → List ℕ
words_at bytes zero place = []
words_at bytes (suc n) place = word_at bytes 8 place ∷ words_at bytes n (place + 8)

-- ---- what has each number

abbrev pub at_index : {A : Type 0} → List A → Option ℕ → Option A
at_index xs None = None
at_index xs (Some n) = slice_get xs n

-- of several with one number the newest, which is the last, is where the map says
abbrev pub AreNewest : {A : Type 0} → (A → ℕ) → List A → BTreeMap ℕ ℕ → Type 0
AreNewest number xs places =
    (n : ℕ) → at_index xs (get nat_cmp places n) ≡ find (λ x. number x == n) (reverse xs)

abbrev pub number_placed : Placed → ℕ
number_placed o = o.number

abbrev pub number_of_text : Literal → ℕ
number_of_text l = l.number

abbrev pub number_filled : Filled → ℕ
number_filled f = f.number

abbrev pub object_of : State → ℕ → Option Placed
object_of s n = find (λ (o : Placed). o.number == n) s.above.placed

abbrev pub text_of : State → ℕ → Option Literal
text_of s n = find (λ (l : Literal). l.number == n) s.literals

abbrev pub filled_of : State → ℕ → Option Filled
filled_of s n = find (λ (f : Filled). f.number == n) s.above.filled

abbrev pub in_list : {A : Type 0} → Option A → List A
in_list None = []
in_list (Some x) = x ∷ []

-- the one static object of a list, or none
abbrev pub IsOneOf : List PlainStatic → Option StaticDef → Type 0
IsOneOf [] None = Unit {0}
IsOneOf (p ∷ []) (Some d) = IsStatic p d
IsOneOf ps d = ⊥
