-- The bytes of a fill are set one by one, and the fills from the last to the first.
use Rattle.std.proofs.Common.{◌≡◌, ◌≢◌, ℕ, suc, ◌+◌, ◌-◌, ◌*◌, ◌/◌, ◌%◌, ◌^◌, ◌<◌, ◌≤◌, Bool, true, false, cond, eqb, leb, ltb, ◌&&◌, List, [], ◌∷◌, length, get_or, set, drop, Option, Some, None, refl, sym, ap, ◌∙◌, subst, inl, inr, ◌⊎◌, arith, length-set, get_or-set_same, get_or-set_other}
use Rattle.std.proofs.lemmas.Bool.{cases_eq, cases_lt, and_from, and_left, and_right, le-leb, lt-leb, lt-ltb, le-ltb, eqb-true, eqb-false}
use Rattle.std.proofs.lemmas.List.{drop_more}
use Rattle.std.proofs.Math.Nat.{div-div-eq-div-mul, pow-suc}
use Rattle.std.specs.List.{find}
use Rattle.filc_num.specs.declared.statics.StaticHalf.{StaticHalf}
use Rattle.filc_num.specs.declared.statics.StaticHalf.TheVariants as half
use Rattle.c_expr_rules.specs.declared.above.Fill.{Fill}
use Rattle.c_file_rules.specs.Statics.{has_byte, byte_in}
use Rattle.c_objects.specs.Contents.{half_set, up_to, BytesPut, HalvesPut, byte_or, half_or, BytesFilled, HalvesFilled}

-- ---- a byte more of a fill

has_last : (f : Fill) (k : ℕ) → has_byte (f.offset + k) (up_to f (k + 1)) ≡ true
has_last f k =
    and_from (leb f.offset (f.offset + k)) (ltb (f.offset + k) (f.offset + (k + 1)))
    (le-leb f.offset (f.offset + k) (omega arith)) (lt-ltb (f.offset + k) (f.offset + (k + 1)) (omega arith))

ends_apart : (n e k : ℕ) → n ≢ e + k → (n < e + k) ⊎ (e + k ≤ n) → ltb n (e + (k + 1)) ≡ ltb n (e + k)
ends_apart n e k apart (inl below) = lt-ltb n (e + (k + 1)) (omega arith) ∙ sym (lt-ltb n (e + k) below)
ends_apart n e k apart (inr above) = le-ltb n (e + (k + 1)) (omega arith) ∙ sym (le-ltb n (e + k) above)

has_more : (f : Fill) (k n : ℕ) → n ≢ f.offset + k → has_byte n (up_to f (k + 1)) ≡ has_byte n (up_to f k)
has_more f k n apart = ap (λ b. leb f.offset n && b) (ends_apart n f.offset k apart (cases_lt n (f.offset + k)))

none_by : (e n : ℕ) → (n < e) ⊎ (e ≤ n) → (leb e n && ltb n (e + 0)) ≡ false
none_by e n (inl below) = and_left (leb e n) (ltb n (e + 0)) (lt-leb e n below)
none_by e n (inr above) = and_right (leb e n) (ltb n (e + 0)) (le-ltb n (e + 0) (omega arith))

has_none : (f : Fill) (n : ℕ) → has_byte n (up_to f 0) ≡ false
has_none f n = none_by f.offset n (cases_lt n f.offset)

pub no_byte : (old : List ℕ) (f : Fill) → BytesPut old old (up_to f 0)
no_byte old f = record {
  len = refl;
  each = λ n inside. ap (λ b. cond b (byte_in n (Some (up_to f 0))) (get_or old n 0)) (sym (has_none f n));
}

pub no_half : (old : List StaticHalf) (f : Fill) → HalvesPut old old (up_to f 0)
no_half old f = record {
  len = refl;
  each = λ n inside. ap (λ b. cond b f.half (get_or old n half.None)) (sym (has_none f (8 * n)));
}

module _ (old now : List ℕ) (f : Fill) (k byte : ℕ) (h : BytesPut old now (up_to f k)) (e : byte ≡ f.value / 256 ^ k % 256) where
  byte_there : (n : ℕ) → n < length old → n ≡ f.offset + k → get_or (set now (f.offset + k) byte) n 0 ≡ byte_in n (Some (up_to f (k + 1)))
  byte_there n inside same =
      let within : f.offset + k < length now = omega (arith, h.len) in
      let power : k ≡ n - f.offset = omega arith in
      ap (λ i. get_or (set now (f.offset + k) byte) i 0) same ∙ get_or-set_same now (f.offset + k) byte 0 within
      ∙ e ∙ ap (λ i. f.value / 256 ^ i % 256) power

  byte_by : (n : ℕ) → n < length old → (n ≡ f.offset + k) ⊎ (n ≢ f.offset + k)
      → get_or (set now (f.offset + k) byte) n 0 ≡ cond (has_byte n (up_to f (k + 1))) (byte_in n (Some (up_to f (k + 1)))) (get_or old n 0)
  byte_by n inside (inl same) =
      let has : true ≡ has_byte n (up_to f (k + 1)) = sym (ap (λ i. has_byte i (up_to f (k + 1))) same ∙ has_last f k) in
      byte_there n inside same ∙ ap (λ b. cond b (byte_in n (Some (up_to f (k + 1)))) (get_or old n 0)) has
  byte_by n inside (inr apart) =
      get_or-set_other now (f.offset + k) n byte 0 apart ∙ h.each n inside
      ∙ ap (λ b. cond b (byte_in n (Some (up_to f k))) (get_or old n 0)) (sym (has_more f k n apart))

  pub byte_more : BytesPut old (set now (f.offset + k) byte) (up_to f (k + 1))
  byte_more = record {
    len = length-set now (f.offset + k) byte ∙ h.len;
    each = λ n inside. byte_by n inside (cases_eq n (f.offset + k));
  }

module _ (old now : List StaticHalf) (f : Fill) (k : ℕ) (h : HalvesPut old now (up_to f k)) where
  half_stays : (n : ℕ) → n < length old → 8 * n ≢ f.offset + k
      → get_or now n half.None ≡ cond (has_byte (8 * n) (up_to f (k + 1))) f.half (get_or old n half.None)
  half_stays n inside apart =
      h.each n inside ∙ ap (λ b. cond b f.half (get_or old n half.None)) (sym (has_more f k (8 * n) apart))

  half_by : (n : ℕ) → n < length old → (f.offset + k) % 8 ≡ 0 → (n ≡ (f.offset + k) / 8) ⊎ (n ≢ (f.offset + k) / 8)
      → get_or (set now ((f.offset + k) / 8) f.half) n half.None ≡ cond (has_byte (8 * n) (up_to f (k + 1))) f.half (get_or old n half.None)
  half_by n inside begins (inl same) =
      let within : (f.offset + k) / 8 < length now = omega (arith, h.len) in
      let here : 8 * n ≡ f.offset + k = omega arith in
      let has : true ≡ has_byte (8 * n) (up_to f (k + 1)) = sym (ap (λ i. has_byte i (up_to f (k + 1))) here ∙ has_last f k) in
      ap (λ i. get_or (set now ((f.offset + k) / 8) f.half) i half.None) same
      ∙ get_or-set_same now ((f.offset + k) / 8) f.half half.None within
      ∙ ap (λ b. cond b f.half (get_or old n half.None)) has
  half_by n inside begins (inr apart) =
      let other : 8 * n ≢ f.offset + k = omega arith in
      get_or-set_other now ((f.offset + k) / 8) n f.half half.None apart ∙ half_stays n inside other

  halves_by : (b : Bool) → eqb ((f.offset + k) % 8) 0 ≡ b → HalvesPut old (cond b (set now ((f.offset + k) / 8) f.half) now) (up_to f (k + 1))
  halves_by true t =
      let begins : (f.offset + k) % 8 ≡ 0 = eqb-true ((f.offset + k) % 8) 0 t in
      record {
        len = length-set now ((f.offset + k) / 8) f.half ∙ h.len;
        each = λ n inside. half_by n inside begins (cases_eq n ((f.offset + k) / 8));
      }
  halves_by false t =
      let within : (f.offset + k) % 8 ≢ 0 = eqb-false ((f.offset + k) % 8) 0 t in
      record {
        len = h.len;
        each = λ n inside. half_stays n inside (λ here. within (omega arith));
      }

  pub half_more : HalvesPut old (half_set now (f.offset + k) f.half) (up_to f (k + 1))
  half_more = halves_by (eqb ((f.offset + k) % 8) 0) refl

-- what is left of the value behind a byte more
pub rest_more : (value rest k : ℕ) → rest ≡ value / 256 ^ k → rest / 256 ≡ value / 256 ^ (k + 1)
rest_more value rest k e =
    let next : suc k ≡ k + 1 = omega arith in
    ap (λ r. r / 256) e ∙ div-div-eq-div-mul value (256 ^ k) 256 ∙ ap (λ d. value / d) (sym (pow-suc 256 k))
    ∙ ap (λ n. value / 256 ^ n) next

pub byte_put : (old now new : List ℕ) (f : Fill) (k place byte : ℕ) → BytesPut old now (up_to f k) → byte ≡ f.value / 256 ^ k % 256
    → place ≡ f.offset + k → new ≡ set now place byte → BytesPut old new (up_to f (k + 1))
byte_put old now new f k place byte h e p n =
    subst (λ (xs : List ℕ). BytesPut old xs (up_to f (k + 1))) (sym (n ∙ ap (λ i. set now i byte) p)) (byte_more old now f k byte h e)

pub half_put : (old now new : List StaticHalf) (f : Fill) (k place : ℕ) → HalvesPut old now (up_to f k)
    → place ≡ f.offset + k → new ≡ half_set now place f.half → HalvesPut old new (up_to f (k + 1))
half_put old now new f k place h p n =
    subst (λ (xs : List StaticHalf). HalvesPut old xs (up_to f (k + 1))) (sym (n ∙ ap (λ i. half_set now i f.half) p)) (half_more old now f k h)

pub bytes_done : (old new : List ℕ) (f : Fill) (k : ℕ) → k ≡ f.bytes → BytesPut old new (up_to f k) → BytesPut old new f
bytes_done old new f k e h = subst (λ (n : ℕ). BytesPut old new (up_to f n)) e h

pub halves_done : (old new : List StaticHalf) (f : Fill) (k : ℕ) → k ≡ f.bytes → HalvesPut old new (up_to f k) → HalvesPut old new f
halves_done old new f k e h = subst (λ (n : ℕ). HalvesPut old new (up_to f n)) e h

-- ---- a fill before others

byte_choice : (b : Bool) (n other : ℕ) (f : Fill) (o : Option Fill)
    → cond b (byte_in n (Some f)) (byte_or other n o) ≡ byte_or other n (cond b (Some f) o)
byte_choice true n other f o = refl
byte_choice false n other f o = refl

half_choice : (b : Bool) (other : StaticHalf) (f : Fill) (o : Option Fill)
    → cond b f.half (half_or other o) ≡ half_or other (cond b (Some f) o)
half_choice true other f o = refl
half_choice false other f o = refl

pub bytes_unfilled : (old : List ℕ) → BytesFilled old old []
bytes_unfilled old = record { len = refl; each = λ n inside. refl }

pub halves_unfilled : (old : List StaticHalf) → HalvesFilled old old []
halves_unfilled old = record { len = refl; each = λ n inside. refl }

pub bytes_filled : (old now new : List ℕ) (f : Fill) (fills : List Fill) → BytesFilled old now fills → BytesPut now new f → BytesFilled old new (f ∷ fills)
bytes_filled old now new f fills g h = record {
  len = h.len ∙ g.len;
  each = λ n inside.
      h.each n (omega (arith, g.len)) ∙ ap (λ x. cond (has_byte n f) (byte_in n (Some f)) x) (g.each n inside)
      ∙ byte_choice (has_byte n f) n (get_or old n 0) f (find (has_byte n) fills);
}

pub halves_filled : (old now new : List StaticHalf) (f : Fill) (fills : List Fill) → HalvesFilled old now fills → HalvesPut now new f → HalvesFilled old new (f ∷ fills)
halves_filled old now new f fills g h = record {
  len = h.len ∙ g.len;
  each = λ n inside.
      h.each n (omega (arith, g.len)) ∙ ap (λ x. cond (has_byte (8 * n) f) f.half x) (g.each n inside)
      ∙ half_choice (has_byte (8 * n) f) (get_or old n half.None) f (find (has_byte (8 * n)) fills);
}

-- the fill before those that are set
pub bytes_next : (old now new : List ℕ) (fills : List Fill) (k m : ℕ) (d : Fill) → k < length fills → m ≡ k + 1
    → BytesFilled old now (drop m fills) → BytesPut now new (get_or fills k d) → BytesFilled old new (drop k fills)
bytes_next old now new fills k m d inside e g h =
    let rest = subst (λ (n : ℕ). BytesFilled old now (drop n fills)) e g in
    subst (λ (l : List Fill). BytesFilled old new l) (sym (drop_more fills k d inside))
    (bytes_filled old now new (get_or fills k d) (drop (k + 1) fills) rest h)

pub halves_next : (old now new : List StaticHalf) (fills : List Fill) (k m : ℕ) (d : Fill) → k < length fills → m ≡ k + 1
    → HalvesFilled old now (drop m fills) → HalvesPut now new (get_or fills k d) → HalvesFilled old new (drop k fills)
halves_next old now new fills k m d inside e g h =
    let rest = subst (λ (n : ℕ). HalvesFilled old now (drop n fills)) e g in
    subst (λ (l : List Fill). HalvesFilled old new l) (sym (drop_more fills k d inside))
    (halves_filled old now new (get_or fills k d) (drop (k + 1) fills) rest h)
