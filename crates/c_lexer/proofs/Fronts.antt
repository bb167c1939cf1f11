-- What each front is, in the words of the law: white space, a comment, or the longest token.
use Rattle.std.proofs.Common.{codes, ◌≡◌, ℕ, zero, suc, ◌+◌, ◌-◌, ◌==◌, ◌||◌, ◌&&◌, ◌<◌, ◌≤◌, List, [], ◌∷◌, Bool, true, false, not, cond, Option, Some, None, IsTrue, length, take, drop, refl, ap, sym, ◌∙◌, arith, subst, inl, inr}
use Rattle.std.proofs.lemmas.Bool.{eqb-true, and_parts}
use Rattle.std.proofs.lemmas.List.{length-take-le}
use Rattle.std.proofs.lemmas.List.Sums.{prefix_len-le-length}
use Rattle.std.proofs.Math.Bool.{or-true}
use Rattle.std.proofs.Math.Dec.{eqb-suc-zero}
use Rattle.std.specs.List.{list_any, prefix_len, position_or_len}
use Rattle.std.specs.Option.{option_map, option_and_then}
use Rattle.c_lexer.specs.declared.front.Front.{Front}
use Rattle.c_lexer.specs.declared.front.Front.TheVariants as front
use Rattle.c_lexer.specs.declared.token.TokenKind.{TokenKind}
use Rattle.c_lexer.specs.declared.token.TokenKind.TheVariants.{Name, Number, Character, Text, Punct, End}
use Rattle.c_lexer.specs.Classes.{line_feed, slash, star, single_quote, double_quote, is_blank, is_word, is_number_byte}
use Rattle.c_lexer.specs.Quoted.{closing, values_of}
use Rattle.c_lexer.specs.Punct.{punct_length, is_punct_of_one, is_punct_of_two, is_punct_of_three}
use Rattle.c_lexer.specs.Front.{comment_rest, quoted_kind, quoted_token, quoted_front, comment_front, slash_front, punct_front, front_of}
use Rattle.c_lexer.specs.Law.{IsBlank, IsToken, IsPunct, begins_comment}
use Rattle.c_lexer.proofs.Cases.{by_test, front_cases, front_letter, front_digit, front_double, front_single, front_punct, any_all}
use Rattle.c_lexer.proofs.Lengths.{run_all, run_fits, line_ends, comment_take, closing_take, one_more_taken, one_more_dropped}

-- a front is a blank or a token, and lies within the bytes
abbrev pub GoodFront : ℕ → List ℕ → Front → Type 0
GoodFront first rest front.LineEnd = first ≡ line_feed
GoodFront first rest (front.Blank more) = IsBlank (first ∷ take more rest) (drop more rest) × (more ≤ length rest)
GoodFront first rest (front.Token kind more) = IsToken kind (first ∷ take more rest) × (more ≤ length rest)
GoodFront first rest front.Bad = Unit {0}
GoodFront first rest front.Unclosed = Unit {0}
GoodFront first rest front.Literal = Unit {0}

punct_good : (first : ℕ) (rest : List ℕ) → GoodFront first rest (punct_front (punct_length first rest))
punct_good first [] =
    let P : ℕ → Type 0 = λ n. GoodFront first [] (punct_front n) in
    by_test P (is_punct_of_one first) 1 0 (λ h. (h, omega arith)) (λ _. tt)
punct_good first (b ∷ []) =
    let P : ℕ → Type 0 = λ n. GoodFront first (b ∷ []) (punct_front n) in
    by_test P (is_punct_of_two first b) 2 (cond (is_punct_of_one first) 1 0) (λ h. (h, omega arith)) (λ _.
    by_test P (is_punct_of_one first) 1 0 (λ h. (h, omega arith)) (λ _. tt))
punct_good first (b ∷ c ∷ rest) =
    let P : ℕ → Type 0 = λ n. GoodFront first (b ∷ c ∷ rest) (punct_front n) in
    by_test P (is_punct_of_three first b c) 3 (cond (is_punct_of_two first b) 2 (cond (is_punct_of_one first) 1 0)) (λ h. (h, omega arith)) (λ _.
    by_test P (is_punct_of_two first b) 2 (cond (is_punct_of_one first) 1 0) (λ h. (h, omega arith)) (λ _.
    by_test P (is_punct_of_one first) 1 0 (λ h. (h, omega arith)) (λ _. tt)))

-- a comment's first two bytes, and the bytes of its rest
blank_is : (second : ℕ) (rest : List ℕ) (more : ℕ) → more ≤ length rest → IsBlank (slash ∷ second ∷ take more rest) (drop more rest) → GoodFront slash (second ∷ rest) (front.Blank (more + 1))
blank_is second rest more h is =
    let e : more + 1 ≡ 1 + more = omega arith in
    let taken : take (more + 1) (second ∷ rest) ≡ second ∷ take more rest = ap (λ k. take k (second ∷ rest)) e ∙ one_more_taken second rest more in
    let dropped : drop (more + 1) (second ∷ rest) ≡ drop more rest = ap (λ k. drop k (second ∷ rest)) e ∙ one_more_dropped second rest more in
    let P : List ℕ → Type 0 = λ xs. IsBlank (slash ∷ xs) (drop (more + 1) (second ∷ rest)) in
    let Q : List ℕ → Type 0 = λ ys. IsBlank (slash ∷ second ∷ take more rest) ys in
    (subst P (sym taken) (subst Q (sym dropped) is), omega arith)

comment_good : (second : ℕ) (rest : List ℕ) (o : Option ℕ) → second ≡ star → comment_rest false rest ≡ o → GoodFront slash (second ∷ rest) (comment_front o)
comment_good second rest None h e = tt
comment_good second rest (Some more) h e =
    let found = comment_take false rest more e in
    blank_is second rest more found.0 (refl, inl (h, found.1 ∙ ap Some (sym (length-take-le more rest found.0))))

slash_good : (rest : List ℕ) → GoodFront slash rest (slash_front rest)
slash_good [] = punct_good slash []
slash_good (second ∷ rest) =
    let P : Front → Type 0 = GoodFront slash (second ∷ rest) in
    let size = position_or_len (λ b. b == line_feed) rest in
    by_test P (second == star) _ _ (λ h. comment_good second rest (comment_rest false rest) (eqb-true second star h) refl) (λ _.
    by_test P (second == slash) _ _
    (λ h. blank_is second rest size (prefix_len-le-length (λ b. not (b == line_feed)) rest) (refl, inr (eqb-true second slash h, run_all (λ b. not (b == line_feed)) rest, line_ends rest)))
    (λ _. punct_good slash (second ∷ rest)))

-- the bytes up to and with the closing quote
quoted_is : (quote : ℕ) (rest : List ℕ) (before : ℕ) → closing false quote rest ≡ Some before → (before + 1 ≤ length rest) × (option_map (λ n. n + 1) (closing false quote (take (before + 1) rest)) ≡ Some (length (take (before + 1) rest)))
quoted_is quote rest before e =
    let found = closing_take false quote rest before (before + 1) e (omega arith) in
    let within : before + 1 ≤ length rest = omega (arith, found.0) in
    (within, ap (option_map (λ n. n + 1)) found.1 ∙ ap Some (sym (length-take-le (before + 1) rest within)))

double_good : (rest : List ℕ) (o : Option ℕ) → closing false double_quote rest ≡ o → GoodFront double_quote rest (quoted_front double_quote rest o)
double_good rest None e = tt
double_good rest (Some before) e =
    let is = quoted_is double_quote rest before e in
    elim (option_map length (values_of 0 (take before rest))) as (λ v. GoodFront double_quote rest (quoted_token (before + 1) (option_and_then (quoted_kind double_quote) v))) [ None ↦ tt | Some count ↦ ((refl, is.1), is.0) ]

single_good : (rest : List ℕ) (o : Option ℕ) → closing false single_quote rest ≡ o → GoodFront single_quote rest (quoted_front single_quote rest o)
single_good rest None e = tt
single_good rest (Some before) e =
    let is = quoted_is single_quote rest before e in
    let P : Option TokenKind → Type 0 = λ kind. GoodFront single_quote rest (quoted_token (before + 1) kind) in
    elim (option_map length (values_of 0 (take before rest))) as (λ v. P (option_and_then (quoted_kind single_quote) v)) [ None ↦ tt | Some count ↦ by_test P (count == 1) (Some Character) None (λ _. ((refl, is.1), is.0)) (λ _. tt) ]

-- each front is a blank or a token
pub front_good : (library : Bool) (first : ℕ) (rest : List ℕ) → GoodFront first rest (front_of library first rest)
front_good library first rest =
    let P : Front → Type 0 = GoodFront first rest in
    front_cases P library first rest
    (λ h. h)
    (λ h. (blank h, omega arith))
    (λ h. by_test P _ front.Bad (front.Token Name (prefix_len is_word rest)) (λ _. tt) (λ _. ((h, run_all is_word rest), prefix_len-le-length is_word rest)))
    (λ h. by_test P _ (front.Token Number (prefix_len is_number_byte rest)) front.Literal (λ _. ((h, run_all is_number_byte rest), prefix_len-le-length is_number_byte rest)) (λ _. tt))
    (λ h. subst (λ f. GoodFront f rest (slash_front rest)) (sym h) (slash_good rest))
    (λ h. subst (λ f. GoodFront f rest (quoted_front f rest (closing false f rest))) (sym h) (double_good rest (closing false double_quote rest) refl))
    (λ h. subst (λ f. GoodFront f rest (quoted_front f rest (closing false f rest))) (sym h) (single_good rest (closing false single_quote rest) refl))
    (punct_good first rest)
  where
    blank : is_blank first ≡ true → IsTrue (first == line_feed || is_blank first)
    blank h = ap (λ b. (first == line_feed) || b) h ∙ or-true (first == line_feed)

name_more : (t : Bool) (kind : TokenKind) (size more : ℕ) → cond t front.Bad (front.Token Name size) ≡ front.Token kind more → size ≡ more
name_more true kind size more h = cc
name_more false kind size more h = cc

number_more : (t : Bool) (kind : TokenKind) (size more : ℕ) → cond t (front.Token Number size) front.Literal ≡ front.Token kind more → size ≡ more
number_more true kind size more h = cc
number_more false kind size more h = cc

quoted_token_more : (size more : ℕ) (o : Option TokenKind) (kind : TokenKind) → quoted_token size o ≡ front.Token kind more → size ≡ more
quoted_token_more size more None kind h = cc
quoted_token_more size more (Some k) kind h = cc

-- a quoted front ends with the first quote that closes it
quoted_ends : (quote : ℕ) (rest : List ℕ) (o : Option ℕ) (kind : TokenKind) (more n : ℕ) → closing false quote rest ≡ o → quoted_front quote rest o ≡ front.Token kind more → more < n → n ≤ length rest → option_map (λ before. before + 1) (closing false quote (take n rest)) ≡ Some (length (take n rest)) → ⊥
quoted_ends quote rest None kind more n e h less within longer = cc
quoted_ends quote rest (Some before) kind more n e h less within longer =
    let size : before + 1 ≡ more = quoted_token_more (before + 1) more _ kind h in
    let found = closing_take false quote rest before n e (omega arith) in
    let same : Some (before + 1) ≡ Some (length (take n rest)) = ap (option_map (λ b. b + 1)) (sym found.1) ∙ longer in
    let length_is : before + 1 ≡ length (take n rest) = cc in
    absurd (omega (arith, length-take-le n rest within, length_is))

punct_more : (size : ℕ) (kind : TokenKind) (more : ℕ) → punct_front size ≡ front.Token kind more → size ≡ more + 1
punct_more zero kind more h = cc
punct_more (suc size) kind more h =
    let P : Bool → Type 0 = λ t. cond t front.Bad (front.Token Punct (suc size - 1)) ≡ front.Token kind more in
    let is : front.Token Punct (suc size - 1) ≡ front.Token kind more = subst P (eqb-suc-zero size) h in
    let e : suc size - 1 ≡ more = cc in
    omega arith

slash_more : (rest : List ℕ) (kind : TokenKind) (more : ℕ) → slash_front rest ≡ front.Token kind more → punct_length slash rest ≡ more + 1
slash_more [] kind more h = punct_more (punct_length slash []) kind more h
slash_more (second ∷ rest) kind more h =
    let P : Front → Type 0 = λ f. f ≡ front.Token kind more → punct_length slash (second ∷ rest) ≡ more + 1 in
    by_test P (second == star) (comment_front (comment_rest false rest)) _ (λ _. no_comment (comment_rest false rest)) (λ _.
    by_test P (second == slash) (front.Blank (position_or_len (λ b. b == line_feed) rest + 1)) _ (λ _ e. cc) (λ _ e. punct_more (punct_length slash (second ∷ rest)) kind more e)) h
  where
    no_comment : (o : Option ℕ) → comment_front o ≡ front.Token kind more → punct_length slash (second ∷ rest) ≡ more + 1
    no_comment None e = cc
    no_comment (Some size) e = cc

-- an operator's first byte is one by itself
two_begins : (a b : ℕ) → is_punct_of_two a b ≡ true → is_punct_of_one a ≡ true
two_begins a b h =
    let P : Bool → Type 0 = λ t. t ≡ true → is_punct_of_one a ≡ true in
    by_test P (b == 61) (list_any (λ c. c == a) (codes "<>=!*/%+-&^|")) _ (λ _. any_all is_punct_of_one a (codes "<>=!*/%+-&^|") refl) (λ _.
    by_test P (a == b) (list_any (λ c. c == a) (codes "+-<>&|")) _ (λ _. any_all is_punct_of_one a (codes "+-<>&|") refl) (λ _ e.
    ap is_punct_of_one (eqb-true a 45 (and_parts (a == 45) (b == 62) e).0))) h

either : (x y : Bool) (Q : Type 0) → (x ≡ true → Q) → (y ≡ true → Q) → (x || y) ≡ true → Q
either true y Q f g h = f refl
either false y Q f g h = g h

three_begins : (a b c : ℕ) → is_punct_of_three a b c ≡ true → is_punct_of_one a ≡ true
three_begins a b c h =
    let which = (and_parts (a == b) _ h).1 in
    either (a == 46 && c == 46) _ (is_punct_of_one a ≡ true) (λ e. ap is_punct_of_one (eqb-true a 46 (and_parts (a == 46) (c == 46) e).0)) (λ e.
    either (a == 60) (a == 62) (is_punct_of_one a ≡ true) (λ f. ap is_punct_of_one (eqb-true a 60 f)) (λ f. ap is_punct_of_one (eqb-true a 62 f)) (and_parts (a == 60 || a == 62) (c == 61) e).0) which

two_length : (a b : ℕ) (rest : List ℕ) → is_punct_of_two a b ≡ true → 2 ≤ punct_length a (b ∷ rest)
two_length a b [] h = rw h (omega arith)
two_length a b (c ∷ rest) h =
    let P : ℕ → Type 0 = λ n. 2 ≤ n in
    by_test P (is_punct_of_three a b c) 3 _ (λ _. omega arith) (λ _. rw h (omega arith))

-- an operator is no longer than the longest at the front
punct_fits : (a : ℕ) (n : ℕ) (rest : List ℕ) → 0 < n → n ≤ length rest → IsPunct (a ∷ take n rest) → (is_punct_of_one a ≡ true) × (n + 1 ≤ punct_length a rest)
punct_fits a zero rest positive within is = absurd (omega arith)
punct_fits a (suc n) [] positive within is = absurd (omega arith)
punct_fits a (suc zero) (b ∷ rest) positive within is = (two_begins a b is, two_length a b rest is)
punct_fits a (suc (suc n)) (b ∷ []) positive within is = absurd (omega arith)
punct_fits a (suc (suc zero)) (b ∷ c ∷ rest) positive within is = (three_begins a b c is, rw is (omega arith))
punct_fits a (suc (suc (suc n))) (b ∷ c ∷ []) positive within is = absurd (omega arith)
punct_fits a (suc (suc (suc n))) (b ∷ c ∷ d ∷ rest) positive within is = absurd is

front_punct_more : (library : Bool) (first : ℕ) (rest : List ℕ) (kind : TokenKind) (more : ℕ) → is_punct_of_one first ≡ true → front_of library first rest ≡ front.Token kind more → punct_length first rest ≡ more + 1
front_punct_more library first rest kind more one e =
    let P : Front → Type 0 = λ f. f ≡ front.Token kind more → punct_length first rest ≡ more + 1 in
    by_test P (first == slash) (slash_front rest) (punct_front (punct_length first rest))
    (λ h f. ap (λ b. punct_length b rest) (eqb-true first slash h) ∙ slash_more rest kind more f)
    (λ _ f. punct_more (punct_length first rest) kind more f)
    (sym (front_punct library first rest one) ∙ e)

-- with more of the bytes behind it a token is none of any kind
pub front_longest : (library : Bool) (first : ℕ) (rest : List ℕ) (kind : TokenKind) (more n : ℕ) (other : TokenKind) → front_of library first rest ≡ front.Token kind more → more < n → n ≤ length rest → IsToken other (first ∷ take n rest) → ⊥
front_longest library first rest kind more n Name e less within is =
    let size = name_more _ kind (prefix_len is_word rest) more (sym (front_letter library first rest is.0) ∙ e) in
    absurd (omega (arith, size, run_fits is_word n rest within is.1))
front_longest library first rest kind more n Number e less within is =
    let size = number_more _ kind (prefix_len is_number_byte rest) more (sym (front_digit library first rest is.0) ∙ e) in
    absurd (omega (arith, size, run_fits is_number_byte n rest within is.1))
front_longest library first rest kind more n Character e less within is =
    let here : front_of library single_quote rest ≡ front.Token kind more = ap (λ b. front_of library b rest) (sym is.0) ∙ e in
    quoted_ends single_quote rest (closing false single_quote rest) kind more n refl (sym (front_single library rest) ∙ here) less within is.1
front_longest library first rest kind more n Text e less within is =
    let here : front_of library double_quote rest ≡ front.Token kind more = ap (λ b. front_of library b rest) (sym is.0) ∙ e in
    quoted_ends double_quote rest (closing false double_quote rest) kind more n refl (sym (front_double library rest) ∙ here) less within is.1
front_longest library first rest kind more n Punct e less within is =
    let fits = punct_fits first n rest (omega arith) within is in
    absurd (omega (arith, fits.1, front_punct_more library first rest kind more fits.0 e))
front_longest library first rest kind more n End e less within is = is

front_slash : (library : Bool) (rest : List ℕ) → front_of library slash rest ≡ slash_front rest
unfolding front_of
front_slash library rest = refl

-- no token stands where a comment begins
pub front_no_comment : (library : Bool) (first : ℕ) (rest : List ℕ) (kind : TokenKind) (more : ℕ) → front_of library first rest ≡ front.Token kind more → begins_comment (first ∷ rest) ≡ false
front_no_comment library first [] kind more e = refl
front_no_comment library first (second ∷ rest) kind more e = by_slash (first == slash) refl
  where
    P : Front → Type 0
    P f = f ≡ front.Token kind more → (second == slash || second == star) ≡ false

    no_rest : (o : Option ℕ) → P (comment_front o)
    no_rest None f = cc
    no_rest (Some size) f = cc

    behind_slash : slash_front (second ∷ rest) ≡ front.Token kind more → (second == slash || second == star) ≡ false
    behind_slash =
        by_test P (second == star) (comment_front (comment_rest false rest)) _ (λ _. no_rest (comment_rest false rest)) (λ no_star.
        by_test P (second == slash) (front.Blank (position_or_len (λ b. b == line_feed) rest + 1)) _ (λ _ f. cc) (λ no_slash f. rw (no_slash, no_star) refl))

    by_slash : (t : Bool) → (first == slash) ≡ t → begins_comment (first ∷ second ∷ rest) ≡ false
    by_slash false h = rw h refl
    by_slash true h =
        let here = sym (front_slash library (second ∷ rest)) ∙ ap (λ b. front_of library b (second ∷ rest)) (sym (eqb-true first slash h)) ∙ e in
        let behind = behind_slash here in
        rw (h, behind) refl
