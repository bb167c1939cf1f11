-- The map of the words that were met, and the lexemes that it gives.
use Rattle.std.proofs.Common.{◌≡◌, ◌≢◌, ℕ, ◌+◌, ◌-◌, ◌<◌, cond, ◌&&◌, ◌==◌, Bool, true, false, List, length, take, drop, Option, Some, None, unwrap_or, refl, sym, ap, ◌∙◌, ◌⊎◌, inl, inr, ⊎_elim, arith, Vec}
use Rattle.std.specs.declared.alloc.Global.{Global}
use Rattle.std.specs.BTreeMap as tree
use Rattle.std.specs.Cmp.{eq_by_cmp_equiv}
use Rattle.std.specs.Cmp.Lexicographic.{slice_cmp, nat_list_cmp_total}
use Rattle.std.specs.Ordering.{nat_cmp, is_eq}
use Rattle.std.specs.Map.{lookup, IsKeyTest, AreApart, KeepsOthers}
use Rattle.std.specs.Str.{bytes_eq}
use Rattle.std.specs.List.{slice_get}
use Rattle.std.proofs.lemmas.Bool.{false≢true, cases_Bool, and_parts}
use Rattle.std.proofs.lemmas.Bool.Decides.{nat_tests}
use Rattle.std.proofs.lemmas.Map.Text.{is_eq-slice_cmp}
use Rattle.std.proofs.lemmas.Slice.Eq.{bytes_eq-Decides}
use Rattle.c_lexer.specs.declared.token.Token.{Token}
use Rattle.c_terminals.specs.Texts.{text_of, is_name, same_name}
use Rattle.c_terminals.specs.Lexemes.{first_with, has_text, number_of}
use Rattle.c_terminals.specs.Places.{Places, place_of, IsNumbering, IsNumbered}
use Rattle.c_terminals.proofs.Firsts.{or_else, or_none, first-push, first-front, first-there, taken, taken_length, in_front}

-- ---- the map, by texts

different : (a b : List ℕ) → a ≢ b → bytes_eq a b ≡ false
different a b h = ⊎_elim (λ y. absurd (h ((bytes_eq-Decides a b).0 y))) (λ n. n) (cases_Bool (bytes_eq a b))

keys_apart : (bs cs : List ℕ) → bs ≢ cs → (key : Vec ℕ Global) → is_eq (slice_cmp nat_cmp bs key.items) ≡ true → is_eq (slice_cmp nat_cmp cs key.items) ≡ false
keys_apart bs cs h key e =
    let same : bs ≡ key.items = (bytes_eq-Decides bs key.items).0 (sym (is_eq-slice_cmp bs key.items) ∙ e) in
    is_eq-slice_cmp cs key.items ∙ different cs key.items (λ g. h (same ∙ sym g))

keeps : (eq : Vec ℕ Global → Vec ℕ Global → Bool) (test : Vec ℕ Global → Bool) (old new : List (Vec ℕ Global × ℕ)) → KeepsOthers eq test old new → (other : Vec ℕ Global → Bool) → IsKeyTest eq other → AreApart test other → lookup other new ≡ lookup other old
unfolding KeepsOthers
keeps eq test old new h = h

pub others_stay : (old new : Places) (text : List ℕ) (w : Option ℕ) → tree.UpdatesBy (λ x y. slice_cmp nat_cmp x.items y.items) (λ key. slice_cmp nat_cmp text key.items) old new w → (other : List ℕ) → text ≢ other → place_of new other ≡ place_of old other
others_stay old new text w h other apart =
    keeps _ _ _ _ h.3 _ (λ x y. (eq_by_cmp_equiv nat_list_cmp_total).congr other x.items y.items) (keys_apart text other apart)

-- ---- two words at the same bytes

same_number : (m n : ℕ) → (m == n) ≡ true → m ≡ n
same_number m n h = grind (arith, nat_tests)

-- they have the same text
pub same_name-text : (bytes : List ℕ) (other t : Token) → same_name other t ≡ true → has_text bytes (text_of bytes t) other ≡ true
same_name-text bytes other t h =
    let ended = and_parts (is_name other && is_name t && other.start == t.start) (other.end == t.end) h in
    let started = and_parts (is_name other && is_name t) (other.start == t.start) ended.0 in
    let named = and_parts (is_name other) (is_name t) started.0 in
    let starts : t.start ≡ other.start = sym (same_number other.start t.start started.1) in
    let ends : t.end ≡ other.end = sym (same_number other.end t.end ended.1) in
    let texts : text_of bytes t ≡ text_of bytes other = ap (λ s. take (t.end - s) (drop s bytes)) starts ∙ ap (λ e. take (e - other.start) (drop other.start bytes)) ends in
    ap (λ b. b && bytes_eq (text_of bytes t) (text_of bytes other)) named.0 ∙ (bytes_eq-Decides (text_of bytes t) (text_of bytes other)).1 texts

-- ---- a token more

module _ (bytes : List ℕ) (tokens : List Token) (place : ℕ) (t : Token) (there : slice_get tokens place ≡ Some t) where
  pushed : (text : List ℕ) → first_with bytes (take (place + 1) tokens) text ≡ or_else (first_with bytes (take place tokens) text) (cond (has_text bytes text t) (Some (length (take place tokens))) None)
  pushed text =
      ap (λ ts. first_with bytes ts text) (taken tokens place t there)
      ∙ first-push bytes (take place tokens) t text

  absent : (text : List ℕ) → has_text bytes text t ≡ false → first_with bytes (take (place + 1) tokens) text ≡ first_with bytes (take place tokens) text
  absent text h = pushed text ∙ ap (λ b. or_else (first_with bytes (take place tokens) text) (cond b (Some (length (take place tokens))) None)) h ∙ or_none (first_with bytes (take place tokens) text)

  -- a token that is no word changes no number
  pub numbered-no_word : (places : Places) → is_name t ≡ false → IsNumbered bytes tokens place places → IsNumbered bytes tokens (place + 1) places
  numbered-no_word places h before = record {
    all = λ text. before.all text ∙ sym (absent text (ap (λ b. b && bytes_eq text (text_of bytes t)) h));
  }

  -- a word whose text was met changes none either
  pub numbered-met : (places : Places) (k : ℕ) (other : Token) → k < place → slice_get tokens k ≡ Some other → has_text bytes (text_of bytes t) other ≡ true → IsNumbered bytes tokens place places → IsNumbered bytes tokens (place + 1) places
  numbered-met places k other less at h before = record { all = λ text. before.all text ∙ sym (by text (cases_Bool (has_text bytes text t))) }
    where
      by : (text : List ℕ) → (has_text bytes text t ≡ true) ⊎ (has_text bytes text t ≡ false) → first_with bytes (take (place + 1) tokens) text ≡ first_with bytes (take place tokens) text
      by text (inl yes_) =
          let same : text ≡ text_of bytes t = (bytes_eq-Decides text (text_of bytes t)).0 ((and_parts (is_name t) (bytes_eq text (text_of bytes t)) yes_).1) in
          pushed text
          ∙ first-there bytes (take place tokens) k other text (in_front tokens place k other less at) (ap (λ x. has_text bytes x other) same ∙ h) (cond (has_text bytes text t) (Some (length (take place tokens))) None)
      by text (inr no_) = absent text no_

  -- a word has its number from then on
  pub numbered-word : (old new : Places) → is_name t ≡ true → IsNumbering old new (text_of bytes t) place → IsNumbered bytes tokens place old → IsNumbered bytes tokens (place + 1) new
  numbered-word old new named change before = record { all = λ text. by text (cases_Bool (bytes_eq text (text_of bytes t))) }
    where
      here : (text : List ℕ) → text ≡ text_of bytes t → (o : Option ℕ) → place_of old text ≡ o → first_with bytes (take place tokens) text ≡ o → or_else o (Some (length (take place tokens))) ≡ Some (unwrap_or o place)
      here text same None e f = ap Some (taken_length tokens place t there)
      here text same (Some n) e f = refl

      by : (text : List ℕ) → (bytes_eq text (text_of bytes t) ≡ true) ⊎ (bytes_eq text (text_of bytes t) ≡ false) → place_of new text ≡ first_with bytes (take (place + 1) tokens) text
      by text (inl yes_) =
          let same : text ≡ text_of bytes t = (bytes_eq-Decides text (text_of bytes t)).0 yes_ in
          let has : has_text bytes text t ≡ true = ap (λ b. b && bytes_eq text (text_of bytes t)) named ∙ yes_ in
          let first = first_with bytes (take place tokens) text in
          ap (place_of new) same ∙ change.here ∙ ap (λ x. Some (unwrap_or (place_of old x) place)) (sym same)
          ∙ ap (λ o. Some (unwrap_or o place)) (before.all text)
          ∙ sym (pushed text ∙ ap (λ b. or_else (first_with bytes (take place tokens) text) (cond b (Some (length (take place tokens))) None)) has ∙ here text same (first_with bytes (take place tokens) text) (before.all text) refl)
      by text (inr no_) =
          let apart : text_of bytes t ≢ text = λ e. false≢true (sym no_ ∙ (bytes_eq-Decides text (text_of bytes t)).1 (sym e)) in
          let lacks : has_text bytes text t ≡ false = ap (λ b. b && bytes_eq text (text_of bytes t)) named ∙ no_ in
          change.others text apart ∙ before.all text ∙ sym (absent text lacks)

  -- the number that a word gets is that of the whole list
  pub number-word : (old new : Places) → is_name t ≡ true → IsNumbering old new (text_of bytes t) place → IsNumbered bytes tokens place old → number_of bytes tokens t ≡ unwrap_or (place_of old (text_of bytes t)) place
  number-word old new named change before =
      let n = unwrap_or (place_of old (text_of bytes t)) place in
      let front : first_with bytes (take (place + 1) tokens) (text_of bytes t) ≡ Some (unwrap_or (place_of old (text_of bytes t)) place) =
      sym ((numbered-word old new named change before).all (text_of bytes t)) ∙ change.here in
      ap (λ b. cond b (unwrap_or (first_with bytes tokens (text_of bytes t)) 0) 0) named
      ∙ ap (λ o. unwrap_or o 0) (first-front bytes tokens (place + 1) (text_of bytes t) n front)
