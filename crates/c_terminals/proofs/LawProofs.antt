-- The laws of the list.
use Rattle.std.proofs.Common.{◌≡◌, ℕ, zero, suc, ◌≤◌, cond, ◌&&◌, Bool, true, false, List, [], ◌∷◌, Some, None, unwrap_or, refl, sym, ap, ◌∙◌, arith}
use Rattle.std.specs.List.{slice_get}
use Rattle.std.specs.Option.{option_map}
use Rattle.std.specs.Str.{bytes_eq}
use Rattle.std.proofs.lemmas.Bool.{and_parts}
use Rattle.std.proofs.lemmas.Slice.Eq.{bytes_eq-Decides}
use Rattle.c_lexer.specs.declared.token.Token.{Token}
use Rattle.c_terminals.specs.Texts.{text_of, is_name}
use Rattle.c_terminals.specs.Lexemes.{first_with, has_text, number_of}
use Rattle.c_terminals.specs.Law.{TextsDiffer, IsWordOf, NumbersAreOfTexts, NumbersAreOfEarlierTokens}

pub texts_differ : TextsDiffer
texts_differ = (refl, refl)

-- a word with the text stands at this number, and it is at most that one
record IsFound (bytes : List ℕ) (tokens : List Token) (text : List ℕ) (i : ℕ) : Type 0 where
  number : ℕ
  word : Token
  found : first_with bytes tokens text ≡ Some number
  there : slice_get tokens number ≡ Some word
  has : has_text bytes text word ≡ true
  least : number ≤ i

found : (bytes : List ℕ) (tokens : List Token) (i : ℕ) (t : Token) (text : List ℕ) → slice_get tokens i ≡ Some t → has_text bytes text t ≡ true → IsFound bytes tokens text i
unfolding first_with
found bytes [] i t text there h = absurd (none_some there)
  where
    none_some : None ≡ Some t → ⊥
    none_some e = cc
found bytes (x ∷ tokens) zero t text there h =
    let same : x ≡ t = ap (λ o. unwrap_or o x) there in
    let has : has_text bytes text x ≡ true = ap (has_text bytes text) same ∙ h in
    record { number = 0; word = x; found = ap (λ b. cond b (Some 0) (option_map suc (first_with bytes tokens text))) has; there = refl; has = has; least = omega arith }
found bytes (x ∷ tokens) (suc i) t text there h = by (has_text bytes text x) refl (found bytes tokens i t text there h)
  where
    by : (b : Bool) → has_text bytes text x ≡ b → IsFound bytes tokens text i → IsFound bytes (x ∷ tokens) text (suc i)
    by true e later = record { number = 0; word = x; found = ap (λ b. cond b (Some 0) (option_map suc (first_with bytes tokens text))) e; there = refl; has = e; least = omega arith }
    by false e later = record {
      number = suc later.number;
      word = later.word;
      found = ap (λ b. cond b (Some 0) (option_map suc (first_with bytes tokens text))) e ∙ ap (option_map suc) later.found;
      there = later.there;
      has = later.has;
      least = omega (arith, later.least);
    }

-- the word with the number of a word
of_word : (bytes : List ℕ) (tokens : List Token) (i : ℕ) (a : Token) → IsWordOf tokens i a → IsFound bytes tokens (text_of bytes a) i
of_word bytes tokens i a word =
    found bytes tokens i a (text_of bytes a) word.there
    (ap (λ b. b && bytes_eq (text_of bytes a) (text_of bytes a)) word.is_word ∙ (bytes_eq-Decides (text_of bytes a) (text_of bytes a)).1 refl)

number_found : (bytes : List ℕ) (tokens : List Token) (i : ℕ) (a : Token) → (word : IsWordOf tokens i a) → number_of bytes tokens a ≡ (of_word bytes tokens i a word).number
number_found bytes tokens i a word =
    ap (λ b. cond b (unwrap_or (first_with bytes tokens (text_of bytes a)) 0) 0) word.is_word
    ∙ ap (λ o. unwrap_or o 0) (of_word bytes tokens i a word).found

text_found : (bytes : List ℕ) (tokens : List Token) (text : List ℕ) (i : ℕ) → (f : IsFound bytes tokens text i) → text ≡ text_of bytes f.word
text_found bytes tokens text i f =
    (bytes_eq-Decides text (text_of bytes f.word)).0 ((and_parts (is_name f.word) (bytes_eq text (text_of bytes f.word)) f.has).1)

pub numbers_are_of_texts : NumbersAreOfTexts
numbers_are_of_texts = record {
  same = λ bytes tokens a b is_a is_b texts.
      ap (λ x. cond x (unwrap_or (first_with bytes tokens (text_of bytes a)) 0) 0) (is_a ∙ sym is_b)
      ∙ ap (λ text. cond (is_name b) (unwrap_or (first_with bytes tokens text) 0) 0) texts;
  apart = λ bytes tokens i j a b word_a word_b numbers.
      let fa = of_word bytes tokens i a word_a in
      let fb = of_word bytes tokens j b word_b in
      let one : fa.number ≡ fb.number = sym (number_found bytes tokens i a word_a) ∙ numbers ∙ number_found bytes tokens j b word_b in
      let words : Some fa.word ≡ Some fb.word = sym fa.there ∙ ap (slice_get tokens) one ∙ fb.there in
      text_found bytes tokens (text_of bytes a) i fa
      ∙ ap (λ o. text_of bytes (unwrap_or o fa.word)) words
      ∙ sym (text_found bytes tokens (text_of bytes b) j fb);
}

pub numbers_are_of_earlier_tokens : NumbersAreOfEarlierTokens
numbers_are_of_earlier_tokens bytes tokens i a word = omega (arith, number_found bytes tokens i a word, (of_word bytes tokens i a word).least)
