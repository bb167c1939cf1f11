-- The words of an image are those of the fills that made it.
use Rattle.std.proofs.Common.{◌≡◌, ℕ, zero, suc, ◌+◌, ◌-◌, ◌*◌, ◌^◌, ◌<◌, ◌≤◌, List, [], ◌∷◌, ◌++◌, length, get_or, replicate, Option, Some, None, refl, sym, ap, ◌∙◌, arith, append_assoc}
use Rattle.std.proofs.lemmas.List.{get_or-replicate, length-replicate, same_lists, ext_get_or}
use Rattle.std.specs.List.{find}
use Rattle.filc_num.specs.declared.statics.StaticHalf.{StaticHalf}
use Rattle.filc_num.specs.declared.statics.StaticHalf.TheVariants as half
use Rattle.c_expr_rules.specs.declared.above.Fill.{Fill}
use Rattle.c_file_rules.specs.Statics.{has_byte, byte_in, byte_at, word_from, words_from, half_in, half_at, halves_from}
use Rattle.c_objects.specs.Contents.{byte_or, half_or, BytesFilled, HalvesFilled, word_at, words_at}

-- ---- four bytes and eight

module _ (bytes : List ℕ) (p : ℕ) where
  pub four_of : word_at bytes 4 p ≡ get_or bytes p 0 + 256 * get_or bytes (p + 1) 0 + 65536 * (get_or bytes (p + 2) 0 + 256 * get_or bytes (p + 3) 0)
  unfolding word_at
  four_of =
      let one = ap (λ n. get_or bytes n 0) (let e : suc p ≡ p + 1 = omega arith in e) in
      let two = ap (λ n. get_or bytes n 0) (let e : suc (suc p) ≡ p + 2 = omega arith in e) in
      let three = ap (λ n. get_or bytes n 0) (let e : suc (suc (suc p)) ≡ p + 3 = omega arith in e) in
      omega (arith, one, two, three)

  pub eight_of : word_at bytes 8 p ≡ word_at bytes 4 p + 4294967296 * word_at bytes 4 (p + 4)
  unfolding word_at
  eight_of =
      let one = ap (λ n. get_or bytes n 0) (let e : suc (suc (suc (suc p))) ≡ p + 4 = omega arith in e) in
      let two = ap (λ n. get_or bytes n 0) (let e : suc (suc (suc (suc (suc p)))) ≡ suc (p + 4) = omega arith in e) in
      let three = ap (λ n. get_or bytes n 0) (let e : suc (suc (suc (suc (suc (suc p))))) ≡ suc (suc (p + 4)) = omega arith in e) in
      let four = ap (λ n. get_or bytes n 0) (let e : suc (suc (suc (suc (suc (suc (suc p)))))) ≡ suc (suc (suc (p + 4))) = omega arith in e) in
      omega (arith, one, two, three, four)

-- ---- words in a row

pub words_more : (bytes : List ℕ) (count index : ℕ) → index < count
    → words_at bytes (count - index) (8 * index) ≡ word_at bytes 8 (8 * index) ∷ words_at bytes (count - (index + 1)) (8 * (index + 1))
unfolding words_at
words_more bytes count index less =
    let e : count - index ≡ suc (count - (index + 1)) = omega arith in
    let f : 8 * index + 8 ≡ 8 * (index + 1) = omega arith in
    ap (λ n. words_at bytes n (8 * index)) e
    ∙ ap (λ p. word_at bytes 8 (8 * index) ∷ words_at bytes (count - (index + 1)) p) f

pub no_words : (bytes : List ℕ) (count index : ℕ) → count ≤ index → words_at bytes (count - index) (8 * index) ≡ []
unfolding words_at
no_words bytes count index past =
    let e : count - index ≡ 0 = omega arith in
    ap (λ n. words_at bytes n (8 * index)) e

-- what is there, and a word more of the rest, is all
pub words_pushed : (bytes words : List ℕ) (count index word : ℕ) → index < count → word ≡ word_at bytes 8 (8 * index)
    → words ++ words_at bytes (count - index) (8 * index) ≡ words_at bytes count 0
    → (words ++ word ∷ []) ++ words_at bytes (count - (index + 1)) (8 * (index + 1)) ≡ words_at bytes count 0
words_pushed bytes words count index word less e h =
    append_assoc words (word ∷ []) (words_at bytes (count - (index + 1)) (8 * (index + 1)))
    ∙ ap (λ w. words ++ (w ∷ words_at bytes (count - (index + 1)) (8 * (index + 1)))) e
    ∙ ap (λ rest. words ++ rest) (sym (words_more bytes count index less)) ∙ h

pub length_of_words_at : (bytes : List ℕ) (count place : ℕ) → length (words_at bytes count place) ≡ count
unfolding words_at
length_of_words_at bytes zero place = refl
length_of_words_at bytes (suc n) place = ap suc (length_of_words_at bytes n (place + 8))

pub length_of_words : (fills : List Fill) (count place : ℕ) → length (words_from fills count place) ≡ count
length_of_words fills zero place = refl
length_of_words fills (suc n) place = ap suc (length_of_words fills n (place + 8))

pub length_of_halves : (fills : List Fill) (count place : ℕ) → length (halves_from fills count place) ≡ count
length_of_halves fills zero place = refl
length_of_halves fills (suc n) place = ap suc (length_of_halves fills n (place + 8))

-- ---- the words of an image

module _ (bytes : List ℕ) (fills : List Fill) (all : ℕ) (same : (n : ℕ) → n < all → get_or bytes n 0 ≡ byte_at fills n) where
  word_same : (count place : ℕ) → place + count ≤ all → word_at bytes count place ≡ word_from fills count place
  unfolding word_at
  word_same zero place within = refl
  word_same (suc n) place within =
      let first = same place (omega arith) in
      let rest = word_same n (suc place) (omega arith) in
      ap (λ b. b + 256 * word_at bytes n (suc place)) first ∙ ap (λ w. byte_at fills place + 256 * w) rest

  pub words_same : (count place : ℕ) → place + 8 * count ≤ all → words_at bytes count place ≡ words_from fills count place
  unfolding words_at
  words_same zero place within = refl
  words_same (suc n) place within =
      ap (λ w. w ∷ words_at bytes n (place + 8)) (word_same 8 place (omega arith))
      ∙ ap (λ rest. word_from fills 8 place ∷ rest) (words_same n (place + 8) (omega arith))

byte_or_zero : (n : ℕ) (o : Option Fill) → byte_or 0 n o ≡ byte_in n o
byte_or_zero n None = refl
byte_or_zero n (Some f) = refl

half_or_none : (o : Option Fill) → half_or half.None o ≡ half_in o
half_or_none None = refl
half_or_none (Some f) = refl

pub bytes_are : (old bytes : List ℕ) (fills : List Fill) (all : ℕ) → old ≡ replicate all 0 → BytesFilled old bytes fills → (n : ℕ) → n < all → get_or bytes n 0 ≡ byte_at fills n
bytes_are old bytes fills all zeros h n inside =
    let len : length old ≡ all = ap length zeros ∙ length-replicate all 0 in
    let nothing : get_or old n 0 ≡ 0 = ap (λ xs. get_or xs n 0) zeros ∙ get_or-replicate all n 0 0 inside in
    h.each n (omega (arith, len)) ∙ ap (λ b. byte_or b n (find (has_byte n) fills)) nothing ∙ byte_or_zero n (find (has_byte n) fills)

halves_at : (fills : List Fill) (count place k : ℕ) → k < count → get_or (halves_from fills count place) k half.None ≡ half_at fills (place + 8 * k)
halves_at fills zero place k less = absurd (omega arith)
halves_at fills (suc n) place zero less = let e : place ≡ place + 8 * 0 = omega arith in ap (half_at fills) e
halves_at fills (suc n) place (suc k) less =
    let e : place + 8 + 8 * k ≡ place + 8 * suc k = omega arith in
    halves_at fills n (place + 8) k (omega arith) ∙ ap (half_at fills) e

pub halves_are : (old halves : List StaticHalf) (fills : List Fill) (count : ℕ) → old ≡ replicate count half.None → HalvesFilled old halves fills → halves ≡ halves_from fills count 0
halves_are old halves fills count empty h =
    let len : length old ≡ count = ap length empty ∙ length-replicate count half.None in
    ext_get_or half.None halves (halves_from fills count 0) (h.len ∙ len ∙ sym (length_of_halves fills count 0))
    (λ n inside.
    let less : n < count = omega (arith, h.len, len) in
    let nothing : get_or old n half.None ≡ half.None = ap (λ xs. get_or xs n half.None) empty ∙ get_or-replicate count n half.None half.None less in
    let place : 8 * n ≡ 0 + 8 * n = omega arith in
    h.each n (omega (arith, len)) ∙ ap (λ x. half_or x (find (has_byte (8 * n)) fills)) nothing
    ∙ half_or_none (find (has_byte (8 * n)) fills) ∙ ap (half_at fills) place ∙ sym (halves_at fills count 0 n less))

-- ---- the words and halves of a static object

pub image_words : (old bytes seen : List ℕ) (fills : List Fill) (all count n : ℕ) (words : List ℕ)
    → old ≡ replicate all 0 → BytesFilled old bytes fills → seen ≡ bytes → words ≡ words_at seen count 0 → 8 * count ≤ all
    → count ≡ n → words ≡ words_from fills n 0
image_words old bytes seen fills all count n words zeros h s w within e =
    w ∙ ap (λ xs. words_at xs count 0) s ∙ words_same bytes fills all (bytes_are old bytes fills all zeros h) count 0 (omega arith)
    ∙ ap (λ m. words_from fills m 0) e

pub image_halves : (old halves : List StaticHalf) (fills : List Fill) (count n : ℕ)
    → old ≡ replicate count half.None → HalvesFilled old halves fills → count ≡ n → halves ≡ halves_from fills n 0
image_halves old halves fills count n empty h e =
    halves_are old halves fills count empty h ∙ ap (λ m. halves_from fills m 0) e
