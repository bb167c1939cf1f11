-- Lemmas on the bytes between quotes: one step at a place.
use Rattle.std.proofs.Common.{◌≡◌, ℕ, zero, suc, ◌+◌, ◌-◌, ◌==◌, ◌<◌, ◌≤◌, List, [], ◌∷◌, Option, Some, None, Bool, true, false, cond, refl, arith, length, drop, get_or, ap, sym, ◌∙◌, add-one, drop-cons, drop-drop, eq-eqb, zero-add, ◌++◌, append_assoc, append-nil}
use Rattle.std.proofs.lemmas.Bool.{ne_eqb}
use Rattle.std.proofs.lemmas.List.{drop_all, nil_from_length}
use Rattle.std.specs.Option.{option_map, option_and_then}
use Rattle.c_lexer.specs.declared.quoted.Element.{Element}
use Rattle.c_lexer.specs.Classes.{line_feed}
use Rattle.c_lexer.specs.Quoted.{closing, closes, escapes, element_of, values_of, body_of, only_value, signed_char, character_of}

-- `closing` at the place i
abbrev pub closing_step : Bool → ℕ → ℕ → Option ℕ → Option ℕ
closing_step escaped quote b behind =
    cond (b == line_feed) None (cond (closes escaped quote b) (Some 0) (option_map (λ n. n + 1) behind))

closing-drop : (escaped : Bool) (quote : ℕ) (xs : List ℕ) (i : ℕ) → i < length xs → closing escaped quote (drop i xs) ≡ closing_step escaped quote (get_or xs i 0) (closing (escapes escaped (get_or xs i 0)) quote (drop (i + 1) xs))
unfolding closing
closing-drop escaped quote xs i h = rw (add-one, drop-cons xs i 0) refl

-- shifts add up
pub shifts : (o : Option ℕ) (i : ℕ) → option_map (λ n. n + i) (option_map (λ n. n + 1) o) ≡ option_map (λ n. n + (i + 1)) o
shifts None i = refl
shifts (Some n) i = ap Some (omega arith)

pub closing_line : (escaped : Bool) (quote : ℕ) (xs : List ℕ) (i : ℕ) (whole : Option ℕ) → i < length xs → get_or xs i 0 ≡ line_feed → whole ≡ option_map (λ n. n + i) (closing escaped quote (drop i xs)) → None ≡ whole
closing_line escaped quote xs i whole within is e =
    let here : closing escaped quote (drop i xs) ≡ None = closing-drop escaped quote xs i within ∙ rw (eq-eqb (get_or xs i 0) line_feed is) refl in
    sym (e ∙ ap (option_map (λ n. n + i)) here)

pub closing_quote : (escaped : Bool) (quote : ℕ) (xs : List ℕ) (i : ℕ) (whole : Option ℕ) → i < length xs → (get_or xs i 0 ≡ line_feed → ⊥) → true ≡ closes escaped quote (get_or xs i 0) → whole ≡ option_map (λ n. n + i) (closing escaped quote (drop i xs)) → Some i ≡ whole
closing_quote escaped quote xs i whole within other is e =
    let here : closing escaped quote (drop i xs) ≡ Some 0 = closing-drop escaped quote xs i within ∙ rw (ne_eqb (get_or xs i 0) line_feed other, ← is) refl in
    sym (e ∙ ap (option_map (λ n. n + i)) here ∙ ap Some (zero-add i))

pub closing_on : (escaped next : Bool) (quote : ℕ) (xs : List ℕ) (i : ℕ) (whole : Option ℕ) → i < length xs → (get_or xs i 0 ≡ line_feed → ⊥) → false ≡ closes escaped quote (get_or xs i 0) → next ≡ escapes escaped (get_or xs i 0) → whole ≡ option_map (λ n. n + i) (closing escaped quote (drop i xs)) → whole ≡ option_map (λ n. n + (i + 1)) (closing next quote (drop (i + 1) xs))
closing_on escaped next quote xs i whole within other is next_is e =
    let behind = closing (escapes escaped (get_or xs i 0)) quote (drop (i + 1) xs) in
    let here : closing escaped quote (drop i xs) ≡ option_map (λ n. n + 1) behind = closing-drop escaped quote xs i within ∙ rw (ne_eqb (get_or xs i 0) line_feed other, ← is) refl in
    e ∙ ap (option_map (λ n. n + i)) here ∙ shifts behind i ∙ ap (λ b. option_map (λ n. n + (i + 1)) (closing b quote (drop (i + 1) xs))) (sym next_is)

pub closing_end : (escaped : Bool) (quote : ℕ) (xs : List ℕ) (i : ℕ) (whole : Option ℕ) → length xs ≤ i → whole ≡ option_map (λ n. n + i) (closing escaped quote (drop i xs)) → None ≡ whole
unfolding closing
closing_end escaped quote xs i whole h e = sym (e ∙ ap (λ ys. option_map (λ n. n + i) (closing escaped quote ys)) (drop_all i xs h))

-- the bytes inside an element are passed over
values_of-inside : (inside : ℕ) (xs : List ℕ) → values_of inside xs ≡ values_of 0 (drop inside xs)
unfolding values_of
values_of-inside zero xs = refl
values_of-inside (suc inside) [] = refl
values_of-inside (suc inside) (x ∷ xs) = values_of-inside inside xs

-- `values_of` at the place i
values_of-drop : (xs : List ℕ) (i : ℕ) → i < length xs → values_of 0 (drop i xs) ≡ option_and_then (λ e. option_map (λ values. e.value ∷ values) (values_of (e.size - 1) (drop (i + 1) xs))) (element_of (get_or xs i 0) (drop (i + 1) xs))
unfolding values_of
values_of-drop xs i h = rw (add-one, drop-cons xs i 0) refl

pub values_none : (xs : List ℕ) (i : ℕ) → i < length xs → None ≡ element_of (get_or xs i 0) (drop (i + 1) xs) → values_of 0 (drop i xs) ≡ None
values_none xs i h is = values_of-drop xs i h ∙ rw (← is) refl

pub values_step : (xs : List ℕ) (i : ℕ) (e : Element) → i < length xs → 1 ≤ e.size → Some e ≡ element_of (get_or xs i 0) (drop (i + 1) xs) → values_of 0 (drop i xs) ≡ option_map (λ values. e.value ∷ values) (values_of 0 (drop (i + e.size) xs))
values_step xs i e h positive is =
    let here : values_of 0 (drop i xs) ≡ option_map (λ values. e.value ∷ values) (values_of (e.size - 1) (drop (i + 1) xs)) = values_of-drop xs i h ∙ rw (← is) refl in
    let on : drop (e.size - 1) (drop (i + 1) xs) ≡ drop (i + e.size) xs = drop-drop (e.size - 1) (i + 1) xs ∙ ap (λ k. drop k xs) (omega arith) in
    here ∙ ap (option_map (λ values. e.value ∷ values)) (values_of-inside (e.size - 1) (drop (i + 1) xs) ∙ ap (values_of 0) on)

pub values_end : (xs : List ℕ) (i : ℕ) → length xs ≤ i → values_of 0 (drop i xs) ≡ Some []
unfolding values_of
values_end xs i h = ap (values_of 0) (drop_all i xs h)

-- one value more, and then those behind it
length_more : (v : ℕ) (o : Option (List ℕ)) → option_map length (option_map (λ values. v ∷ values) o) ≡ option_map (λ n. n + 1) (option_map length o)
length_more v None = refl
length_more v (Some values) = ap Some (omega arith)

pub count_none : (xs : List ℕ) (i count : ℕ) (whole : Option ℕ) → i < length xs → None ≡ element_of (get_or xs i 0) (drop (i + 1) xs) → whole ≡ option_map (λ n. n + count) (option_map length (values_of 0 (drop i xs))) → None ≡ whole
count_none xs i count whole h is e = sym (e ∙ ap (λ o. option_map (λ n. n + count) (option_map length o)) (values_none xs i h is))

pub count_on : (xs : List ℕ) (i count : ℕ) (whole : Option ℕ) (e : Element) → i < length xs → 1 ≤ e.size → Some e ≡ element_of (get_or xs i 0) (drop (i + 1) xs) → whole ≡ option_map (λ n. n + count) (option_map length (values_of 0 (drop i xs))) → whole ≡ option_map (λ n. n + (count + 1)) (option_map length (values_of 0 (drop (i + e.size) xs)))
count_on xs i count whole e h positive is told =
    let behind = values_of 0 (drop (i + e.size) xs) in
    told ∙ ap (λ o. option_map (λ n. n + count) (option_map length o)) (values_step xs i e h positive is)
    ∙ ap (option_map (λ n. n + count)) (length_more e.value behind) ∙ shifts (option_map length behind) count

pub count_end : (xs : List ℕ) (i count : ℕ) (whole : Option ℕ) → length xs ≤ i → whole ≡ option_map (λ n. n + count) (option_map length (values_of 0 (drop i xs))) → Some count ≡ whole
count_end xs i count whole h e = sym (e ∙ ap (λ o. option_map (λ n. n + count) (option_map length o)) (values_end xs i h) ∙ ap Some (zero-add count))

pub text_none : (xs : List ℕ) (i : ℕ) (read : List ℕ) (whole : Option (List ℕ)) → i < length xs → None ≡ element_of (get_or xs i 0) (drop (i + 1) xs) → option_map (λ values. read ++ values) (values_of 0 (drop i xs)) ≡ whole → None ≡ whole
text_none xs i read whole h is e = ap (option_map (λ values. read ++ values)) (sym (values_none xs i h is)) ∙ e

-- one value more at the end, and what is left behind it
pushed_value : (read after : List ℕ) (v : ℕ) (o : Option (List ℕ)) → after ≡ read ++ v ∷ [] → option_map (λ values. after ++ values) o ≡ option_map (λ values. read ++ values) (option_map (λ values. v ∷ values) o)
pushed_value read after v None is = refl
pushed_value read after v (Some values) is = ap Some (ap (λ xs. xs ++ values) is ∙ append_assoc read (v ∷ []) values)

pub text_on : (xs : List ℕ) (i : ℕ) (read after : List ℕ) (whole : Option (List ℕ)) (e : Element) → i < length xs → 1 ≤ e.size → Some e ≡ element_of (get_or xs i 0) (drop (i + 1) xs) → after ≡ read ++ e.value ∷ [] → option_map (λ values. read ++ values) (values_of 0 (drop i xs)) ≡ whole → option_map (λ values. after ++ values) (values_of 0 (drop (i + e.size) xs)) ≡ whole
text_on xs i read after whole e h positive is after_is told =
    let behind = values_of 0 (drop (i + e.size) xs) in
    pushed_value read after e.value behind after_is ∙ ap (option_map (λ values. read ++ values)) (sym (values_step xs i e h positive is)) ∙ told

pub text_end : (xs : List ℕ) (i : ℕ) (read : List ℕ) (whole : Option (List ℕ)) → length xs ≤ i → option_map (λ values. read ++ values) (values_of 0 (drop i xs)) ≡ whole → Some read ≡ whole
text_end xs i read whole h e = ap Some (sym (append-nil read)) ∙ ap (option_map (λ values. read ++ values)) (sym (values_end xs i h)) ∙ e

pub character_empty : (text body : List ℕ) → body ≡ body_of text → length body ≡ 0 → None ≡ character_of text
unfolding values_of
character_empty text body is h = sym (ap (λ xs. option_and_then only_value (values_of 0 xs)) (sym is ∙ nil_from_length body h))

pub character_none : (text body : List ℕ) → body ≡ body_of text → 0 < length body → None ≡ element_of (get_or body 0 0) (drop 1 body) → None ≡ character_of text
character_none text body is h e = sym (ap (λ xs. option_and_then only_value (values_of 0 xs)) (sym is) ∙ ap (option_and_then only_value) (values_none body 0 h e))

pub character_one : (text body : List ℕ) (e : Element) → body ≡ body_of text → 0 < length body → 1 ≤ e.size → Some e ≡ element_of (get_or body 0 0) (drop 1 body) → e.size ≡ length body → Some (signed_char e.value) ≡ character_of text
character_one text body e is h positive element all =
    let rest : values_of 0 (drop (0 + e.size) body) ≡ Some [] = values_end body (0 + e.size) (omega arith) in
    let whole : values_of 0 body ≡ Some (e.value ∷ []) = values_step body 0 e h positive element ∙ ap (option_map (λ values. e.value ∷ values)) rest in
    sym (ap (λ xs. option_and_then only_value (values_of 0 xs)) (sym is) ∙ ap (option_and_then only_value) whole)

-- two values are no character
two_values : (v : ℕ) (o : Option Element) (behind : Element → Option (List ℕ)) → option_and_then only_value (option_map (λ values. v ∷ values) (option_and_then (λ e. option_map (λ values. e.value ∷ values) (behind e)) o)) ≡ None
two_values v None behind = refl
two_values v (Some e) behind = elim (behind e) as (λ b. option_and_then only_value (option_map (λ values. v ∷ values) (option_map (λ values. e.value ∷ values) b)) ≡ None) [ None ↦ refl | Some values ↦ refl ]

pub character_more : (text body : List ℕ) (e : Element) → body ≡ body_of text → 1 ≤ e.size → Some e ≡ element_of (get_or body 0 0) (drop 1 body) → e.size < length body → None ≡ character_of text
character_more text body e is positive element less =
    let h : 0 + e.size < length body = omega arith in
    let whole = values_step body 0 e (omega arith) positive element ∙ ap (option_map (λ values. e.value ∷ values)) (values_of-drop body (0 + e.size) h) in
    sym (ap (λ xs. option_and_then only_value (values_of 0 xs)) (sym is) ∙ ap (option_and_then only_value) whole
    ∙ two_values e.value (element_of (get_or body (0 + e.size) 0) (drop (0 + e.size + 1) body)) (λ e'. values_of (e'.size - 1) (drop (0 + e.size + 1) body)))
