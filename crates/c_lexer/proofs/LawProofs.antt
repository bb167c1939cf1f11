-- Proofs of the laws of comments, of quotes and of what begins nothing.
use Rattle.std.proofs.Common.{codes, ◌≡◌, ◌≢◌, ℕ, zero, suc, ◌+◌, ◌-◌, ◌<◌, ◌≤◌, ◌%◌, ◌==◌, ◌&&◌, ◌||◌, not, Bool, true, false, cond, List, [], ◌∷◌, ◌++◌, ◌⊎◌, inl, inr, Option, Some, None, is_some, length, get_or, take, nat_eq, refl, sym, ap, ◌∙◌, subst, append_assoc, eq-eqb, arith}
use Rattle.std.specs.Prelude.{reverse}
use Rattle.std.proofs.lemmas.List.{append-nil, reverse-append}
use Rattle.std.specs.List.{position_or_len, prefix_len, starts_with}
use Rattle.std.specs.Option.{option_map, option_and_then}
use Rattle.std.specs.Char.{is_ascii_digit}
use Rattle.std.proofs.lemmas.Bool.{false≢true}
use Rattle.c_lexer.specs.declared.front.Front.TheVariants.{LineEnd, Blank, Token, Bad, Literal}
use Rattle.c_lexer.specs.declared.token.TokenKind.{TokenKind}
use Rattle.c_lexer.specs.declared.token.TokenKind.TheVariants.{Name, Number, Punct}
use Rattle.c_lexer.specs.Classes.{backslash, double_quote, is_blank, is_letter, is_number_byte, is_word, line_feed, single_quote, slash, star}
use Rattle.c_lexer.specs.Front.{comment_front, comment_rest, front_of, name_front, number_front, punct_front, quoted_front, quoted_kind, quoted_token, slash_front}
use Rattle.c_lexer.specs.Number.{number_of}
use Rattle.c_lexer.specs.Quoted.{closing, escapes, values_of}
use Rattle.std.proofs.lemmas.Bool.Decides.{nat_tests}
use Rattle.c_lexer.specs.Punct.{is_punct_of_one, is_punct_of_two, is_punct_of_three, punct_length}
use Rattle.c_lexer.specs.Endings.{CommentsEndAtStarSlash, OnlyTheseAreBad, QuotesCloseUnescaped, UnescapedQuotesClose, begins_something, first_pair}

-- a star before makes a difference to a slash alone
starred : (b : Bool) (c : ℕ) (rest : List ℕ) → comment_rest b (c ∷ rest) ≡ cond (b && c == slash) (Some 1) (comment_rest false (c ∷ rest))
unfolding comment_rest
starred true c rest = refl
starred false c rest = refl

pub comments_end_at_star_slash : CommentsEndAtStarSlash
unfolding comment_rest
comments_end_at_star_slash [] = refl
comments_end_at_star_slash (a ∷ []) = refl
comments_end_at_star_slash (a ∷ b ∷ rest) =
    ap (option_map (λ n. n + 1)) (starred (a == star) b rest)
    ∙ by (a == star && b == slash) (comment_rest false (b ∷ rest)) (first_pair star slash (b ∷ rest)) (comments_end_at_star_slash (b ∷ rest))
  where
    by : (e : Bool) (x y : Option ℕ) → x ≡ option_map (λ n. n + 2) y → option_map (λ n. n + 1) (cond e (Some 1) x) ≡ option_map (λ n. n + 2) (cond e (Some 0) (option_map (λ n. n + 1) y))
    by true x y same = refl
    by false x None same = ap (option_map (λ n. n + 1)) same
    by false x (Some n) same = ap (option_map (λ n. n + 1)) same ∙ ap Some (omega arith)

-- ---- what is bad

punct_some : (size : ℕ) → punct_front size ≡ Bad → size ≡ 0
punct_some size h = by (size == 0) refl h
  where
    by : (b : Bool) → (size == 0) ≡ b → cond b Bad (Token Punct (size - 1)) ≡ Bad → size ≡ 0
    by true e g = grind (arith, nat_tests)
    by false e g = cc

no_punct : (a : ℕ) (rest : List ℕ) → punct_length a rest ≡ 0 → is_punct_of_one a ≡ false
no_punct a [] h = one (is_punct_of_one a) h
  where
    one : (b : Bool) → ◌≡◌ {A = ℕ} (cond b 1 0) 0 → b ≡ false
    one true g = cc
    one false g = refl
no_punct a (b ∷ []) h = two (is_punct_of_two a b) (is_punct_of_one a) h
  where
    two : (x y : Bool) → ◌≡◌ {A = ℕ} (cond x 2 (cond y 1 0)) 0 → y ≡ false
    two true y g = cc
    two false true g = cc
    two false false g = refl
no_punct a (b ∷ c ∷ rest) h = three (is_punct_of_three a b c) (is_punct_of_two a b) (is_punct_of_one a) h
  where
    three : (w x y : Bool) → ◌≡◌ {A = ℕ} (cond w 3 (cond x 2 (cond y 1 0))) 0 → y ≡ false
    three true x y g = cc
    three false true y g = cc
    three false false true g = cc
    three false false false g = refl

quoted_good : (quote : ℕ) (rest : List ℕ) (o : Option ℕ) → quoted_front quote rest o ≡ Bad → ⊥
quoted_good quote rest None h = cc
quoted_good quote rest (Some before) h = by (option_and_then {T = ℕ} (quoted_kind quote) (option_map length (values_of 0 (take before rest)))) h
  where
    by : (o : Option TokenKind) → quoted_token (before + 1) o ≡ Bad → ⊥
    by None g = cc
    by (Some kind) g = cc

slash_good : (rest : List ℕ) → slash_front rest ≡ Bad → ⊥
slash_good [] h = false≢true (sym (no_punct slash [] (punct_some (punct_length slash []) h)))
slash_good (b ∷ rest) h = by (b == star) (b == slash) (comment_rest false rest) h
  where
    by : (x y : Bool) (o : Option ℕ) → cond x (comment_front o) (cond y (Blank (position_or_len (λ c. c == line_feed) rest + 1)) (punct_front (punct_length slash (b ∷ rest)))) ≡ Bad → ⊥
    by true y None g = cc
    by true y (Some more) g = cc
    by false true o g = cc
    by false false o g = false≢true (sym (no_punct slash (b ∷ rest) (punct_some (punct_length slash (b ∷ rest)) g)))

number_good : (text rest : List ℕ) → number_front text rest ≡ Bad → ⊥
number_good text rest h = by (is_some (number_of (take (prefix_len is_number_byte rest + 1) text))) h
  where
    by : (b : Bool) → cond b (Token Number (prefix_len is_number_byte rest)) Literal ≡ Bad → ⊥
    by true g = cc
    by false g = cc

pub only_these_are_bad : OnlyTheseAreBad
unfolding front_of
only_these_are_bad library first rest h =
    by (first == line_feed) refl (is_blank first) refl (is_letter first) refl (is_ascii_digit first) refl (first == slash) (first == double_quote) refl (first == single_quote) refl h
  where
    name : (l s : Bool) → library ≡ l → starts_with nat_eq (first ∷ rest) (codes "__filc_") ≡ s → cond (not l && s) Bad (Token Name (prefix_len is_word rest)) ≡ Bad → (begins_something first ≡ false) ⊎ ((library ≡ false) × (starts_with nat_eq (first ∷ rest) (codes "__filc_") ≡ true))
    name true s e f g = cc
    name false true e f g = inr (e, f)
    name false false e f g = cc

    by : (a : Bool) → (first == line_feed) ≡ a → (b : Bool) → is_blank first ≡ b → (c : Bool) → is_letter first ≡ c → (d : Bool) → is_ascii_digit first ≡ d → (e : Bool) → (q : Bool) → (first == double_quote) ≡ q → (p : Bool) → (first == single_quote) ≡ p
        → cond a LineEnd (cond b (Blank 0) (cond c (name_front library (first ∷ rest) rest) (cond d (number_front (first ∷ rest) rest) (cond e (slash_front rest) (cond (q || p) (quoted_front first rest (closing false first rest)) (punct_front (punct_length first rest))))))) ≡ Bad
        → (begins_something first ≡ false) ⊎ ((library ≡ false) × (starts_with nat_eq (first ∷ rest) (codes "__filc_") ≡ true))
    by true ea b eb c ec d ed e q eq p ep g = cc
    by false ea true eb c ec d ed e q eq p ep g = cc
    by false ea false eb true ec d ed e q eq p ep g = name library _ refl refl g
    by false ea false eb false ec true ed e q eq p ep g = absurd (number_good (first ∷ rest) rest g)
    by false ea false eb false ec false ed true q eq p ep g = absurd (slash_good rest g)
    by false ea false eb false ec false ed false true eq p ep g = absurd (quoted_good first rest _ g)
    by false ea false eb false ec false ed false false eq true ep g = absurd (quoted_good first rest _ g)
    by false ea false eb false ec false ed false false eq false ep g =
        let none = no_punct first rest (punct_some (punct_length first rest) g) in
        inl (rw (ea, eb, ec, ed, eq, ep, none) refl)

-- ---- quotes

-- how many backslashes a list ends in
abbrev trail : List ℕ → ℕ
trail bs = prefix_len (λ b. b == backslash) (reverse bs)

abbrev is_odd : ℕ → Bool
is_odd n = not (n % 2 == 0)

trail-push : (bs : List ℕ) (b : ℕ) → trail (bs ++ b ∷ []) ≡ cond (b == backslash) (1 + trail bs) 0
trail-push bs b = ap (prefix_len (λ c. c == backslash)) (reverse-append bs (b ∷ []))

is_zero : (z : ℕ) → z ≡ 0 → (z == 0) ≡ true
is_zero z h = ap (λ k. k == 0) h

not_zero : (z : ℕ) → (z == 0) ≡ false → z ≢ 0
not_zero z h e = false≢true (sym h ∙ is_zero z e)

odd-more : (n : ℕ) → is_odd (1 + n) ≡ not (is_odd n)
odd-more n = by (n % 2 == 0) refl ((1 + n) % 2 == 0) refl
  where
    by : (a : Bool) → (n % 2 == 0) ≡ a → (b : Bool) → ((1 + n) % 2 == 0) ≡ b → not b ≡ not (not a)
    by true e false f = refl
    by false e true f = refl
    by true e true f =
        let one : n % 2 ≡ 0 = grind (arith, nat_tests) in
        let two : (1 + n) % 2 ≡ 0 = grind (arith, nat_tests) in
        absurd (omega arith)
    by false e false f =
        let one = not_zero (n % 2) e in
        let two = not_zero ((1 + n) % 2) f in
        absurd (omega (arith, one, two))

-- whether the byte behind is escaped
escaped-push : (bs : List ℕ) (b : ℕ) (escaped : Bool) → escaped ≡ is_odd (trail bs) → escapes escaped b ≡ is_odd (trail (bs ++ b ∷ []))
escaped-push bs b escaped is = ap (λ e. not e && b == backslash) is ∙ by (b == backslash) ∙ ap is_odd (sym (trail-push bs b))
  where
    and_true : (x : Bool) → (x && true) ≡ x
    and_true true = refl
    and_true false = refl

    and_false : (x : Bool) → (x && false) ≡ false
    and_false true = refl
    and_false false = refl

    by : (c : Bool) → (not (is_odd (trail bs)) && c) ≡ is_odd (cond c (1 + trail bs) 0)
    by true = and_true (not (is_odd (trail bs))) ∙ sym (odd-more (trail bs))
    by false = and_false (not (is_odd (trail bs)))

abbrev closes_after : List ℕ → ℕ → List ℕ → ℕ → Bool
closes_after before quote text n = get_or text n 0 == quote && trail (before ++ take n text) % 2 == 0

record IsClose (before : List ℕ) (quote : ℕ) (text : List ℕ) (n : ℕ) : Type 0 where
  within : n < length text
  closes : closes_after before quote text n ≡ true
  first : (i : ℕ) → i < n → closes_after before quote text i ≡ false
  on_line : (i : ℕ) → i < n → get_or text i 0 ≢ line_feed

-- not escaped is an even number
closes_is : (before : List ℕ) (quote b : ℕ) (escaped : Bool) → escaped ≡ is_odd (trail before) → (b == quote && trail (before ++ []) % 2 == 0) ≡ (not escaped && b == quote)
closes_is before quote b escaped is =
    ap (λ bs. b == quote && trail bs % 2 == 0) (append-nil before) ∙ by (b == quote) (trail before % 2 == 0) ∙ ap (λ e. not e && b == quote) (sym is)
  where
    by : (x y : Bool) → (x && y) ≡ (not (not y) && x)
    by true true = refl
    by true false = refl
    by false true = refl
    by false false = refl

close_found : (before : List ℕ) (quote : ℕ) (text : List ℕ) (escaped : Bool) (n : ℕ) → escaped ≡ is_odd (trail before) → closing escaped quote text ≡ Some n → IsClose before quote text n
unfolding closing
close_found before quote [] escaped n is h = cc
close_found before quote (b ∷ rest) escaped n is h =
    by (λ m e. close_found (before ++ b ∷ []) quote rest (escapes escaped b) m (escaped-push before b escaped is) e)
    (b == line_feed) refl (not escaped && b == quote) refl (closing (escapes escaped b) quote rest) refl h
  where
    deeper : (m : ℕ) → IsClose (before ++ b ∷ []) quote rest m → (not escaped && b == quote) ≡ false → b ≢ line_feed → IsClose before quote (b ∷ rest) (m + 1)
    deeper m deep other line =
        record {
          within = omega (arith, deep.within);
          closes = shift m (m + 1) (omega arith) ∙ deep.closes;
          first = λ i less. each i less other deep;
          on_line = λ i less. lines i less line deep;
        }
      where
        shift : (k n : ℕ) → n ≡ suc k → closes_after before quote (b ∷ rest) n ≡ closes_after (before ++ b ∷ []) quote rest k
        shift k n same = ap (closes_after before quote (b ∷ rest)) same ∙ ap (λ bs. get_or rest k 0 == quote && trail bs % 2 == 0) (sym (append_assoc before (b ∷ []) (take k rest)))

        each : (i : ℕ) → i < m + 1 → (not escaped && b == quote) ≡ false → IsClose (before ++ b ∷ []) quote rest m → closes_after before quote (b ∷ rest) i ≡ false
        each zero less other deep = closes_is before quote b escaped is ∙ other
        each (suc k) less other deep = shift k (suc k) refl ∙ deep.first k (omega arith)

        lines : (i : ℕ) → i < m + 1 → b ≢ line_feed → IsClose (before ++ b ∷ []) quote rest m → get_or (b ∷ rest) i 0 ≢ line_feed
        lines zero less line deep = line
        lines (suc k) less line deep = deep.on_line k (omega arith)

    by : ((m : ℕ) → closing (escapes escaped b) quote rest ≡ Some m → IsClose (before ++ b ∷ []) quote rest m) → (l : Bool) → (b == line_feed) ≡ l → (c : Bool) → (not escaped && b == quote) ≡ c → (o : Option ℕ) → closing (escapes escaped b) quote rest ≡ o → cond l None (cond c (Some 0) (option_map (λ k. k + 1) o)) ≡ Some n → IsClose before quote (b ∷ rest) n
    by deep true e c f o i g = cc
    by deep false e true f o i g =
        let zero_is : 0 ≡ n = cc in
        subst (IsClose before quote (b ∷ rest)) zero_is (record {
          within = omega arith;
          closes = closes_is before quote b escaped is ∙ f;
          first = λ i less. absurd (omega arith);
          on_line = λ i less. absurd (omega arith);
        })
    by deep false e false f None i g = cc
    by deep false e false f (Some m) i g =
        let more : m + 1 ≡ n = cc in
        subst (IsClose before quote (b ∷ rest)) more (deeper m (deep m i) f (λ same. false≢true (sym e ∙ eq-eqb b line_feed same)))

pub quotes_close_unescaped : QuotesCloseUnescaped
quotes_close_unescaped quote text n h =
    let found = close_found [] quote text false n refl h in
    record { within = found.within; closes = found.closes; first = found.first; on_line = found.on_line }

close_missing : (before : List ℕ) (quote : ℕ) (text : List ℕ) (escaped : Bool) → escaped ≡ is_odd (trail before) → closing escaped quote text ≡ None → (n : ℕ) → n < length text → ((i : ℕ) → i ≤ n → get_or text i 0 ≢ line_feed) → closes_after before quote text n ≡ false
unfolding closing
close_missing before quote [] escaped is h n within on_line = absurd (omega arith)
close_missing before quote (b ∷ rest) escaped is h n within on_line =
    by (λ e. close_missing (before ++ b ∷ []) quote rest (escapes escaped b) (escaped-push before b escaped is) e)
    (b == line_feed) refl (not escaped && b == quote) refl (closing (escapes escaped b) quote rest) refl h
  where
    shift : (k : ℕ) → closes_after before quote (b ∷ rest) (suc k) ≡ closes_after (before ++ b ∷ []) quote rest k
    shift k = ap (λ bs. get_or rest k 0 == quote && trail bs % 2 == 0) (sym (append_assoc before (b ∷ []) (take k rest)))

    at : (n : ℕ) → n < length (b ∷ rest) → ((i : ℕ) → i ≤ n → get_or (b ∷ rest) i 0 ≢ line_feed) → (not escaped && b == quote) ≡ false
        → ((n : ℕ) → n < length rest → ((i : ℕ) → i ≤ n → get_or rest i 0 ≢ line_feed) → closes_after (before ++ b ∷ []) quote rest n ≡ false) → closes_after before quote (b ∷ rest) n ≡ false
    at zero within on_line other deep = closes_is before quote b escaped is ∙ other
    at (suc k) within on_line other deep = shift k ∙ deep k (omega arith) (λ i less. on_line (suc i) (omega arith))

    by : (closing (escapes escaped b) quote rest ≡ None → (n : ℕ) → n < length rest → ((i : ℕ) → i ≤ n → get_or rest i 0 ≢ line_feed) → closes_after (before ++ b ∷ []) quote rest n ≡ false)
        → (l : Bool) → (b == line_feed) ≡ l → (c : Bool) → (not escaped && b == quote) ≡ c → (o : Option ℕ) → closing (escapes escaped b) quote rest ≡ o → cond l None (cond c (Some 0) (option_map (λ k. k + 1) o)) ≡ None → closes_after before quote (b ∷ rest) n ≡ false
    by deep true e c f o i g = let same : b ≡ line_feed = grind (arith, nat_tests) in absurd (on_line 0 (omega arith) same)
    by deep false e true f o i g = cc
    by deep false e false f None i g = at n within on_line f (deep i)
    by deep false e false f (Some m) i g = cc

pub unescaped_quotes_close : UnescapedQuotesClose
unescaped_quotes_close quote text h n within on_line = close_missing [] quote text false refl h n within on_line
