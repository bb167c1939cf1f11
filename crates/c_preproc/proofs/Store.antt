-- The store: what is kept stays so when it grows and when more is kept (a sparse set).
use Rattle.std.proofs.Common.{◌≡◌, ◌≢◌, ℕ, zero, suc, ◌+◌, ◌-◌, ◌<◌, ◌≤◌, ◌==◌, Bool, true, false, cond, List, [], ◌∷◌, ◌++◌, length, get_or, set, drop, take, Option, Some, None, is_some, refl, sym, ap, ◌∙◌, subst, append_assoc, map, ◌⊎◌, inl, inr, ⊎_elim, arith, eq-eqb, length-append}
use Rattle.std.specs.List.{slice_get}
use Rattle.std.proofs.lemmas.Bool.{false≢true, cases_lt}
use Rattle.std.proofs.lemmas.Bool.Decides.{nat_tests}
use Rattle.c_preproc.specs.Macros.{placed_at}
use Rattle.std.proofs.lemmas.List.{map-append, drop_more, drop-append-le, take-append-le, get_or-set_same, get_or-set_other, get_or-drop, get_or_append_left, length-drop, length-take-le}
use Rattle.std.proofs.lemmas.Grind.{take_at_read}
use Rattle.std.proofs.lemmas.Option.{slice_get_within, slice_get-get_or, slice_get_read}
use Rattle.c_lexer.specs.declared.token.Token.{Token}
use Rattle.c_preproc.specs.declared.macros.Entry.{Entry}
use Rattle.c_preproc.specs.Code.Table.{body_at, body_of}
use Rattle.c_preproc.specs.declared.expander.Kept.{Kept}
use Rattle.c_preproc.specs.Code.Expander.{Setting, AllKept, IsKept, NameYields, if_of, is_kept, part_of}
use Rattle.c_preproc.proofs.Lists.{slice_get_before, slice_get_last}
use Rattle.c_preproc.proofs.Yields.{AtLeast, name_yields_more}

pub part-append : (tokens more : List Token) (start end : ℕ) → end ≤ length tokens → part_of (tokens ++ more) start end ≡ part_of tokens start end
part-append tokens more start end h = ⊎_elim inside past (cases_lt start (length tokens))
  where
    inside : start < length tokens → part_of (tokens ++ more) start end ≡ part_of tokens start end
    inside less =
        ap (take (end - start)) (drop-append-le start tokens more (omega arith))
        ∙ take-append-le (end - start) (drop start tokens) more (omega (arith, length-drop start tokens))

    past : length tokens ≤ start → part_of (tokens ++ more) start end ≡ part_of tokens start end
    past le =
        let none : end - start ≡ 0 = omega arith in
        rw none refl

-- the store may grow
pub kept_grown : (s : Setting) (spots : List ℕ) (kept : List Kept) (tokens more : List Token) → AllKept s spots kept tokens → AllKept s spots kept (tokens ++ more)
kept_grown s spots kept tokens more all index k there =
    let old = all index k there in
    record {
      below = old.below;
      spot = old.spot;
      ordered = old.ordered;
      within = omega (arith, old.within, length-append tokens more);
      yields = subst (NameYields s (is_kept spots kept) k.entry) (sym (part-append tokens more k.start k.end old.within)) old.yields;
    }

-- ---- one more

-- an element of the longer list is the last one, or was there
slice_get_parts : (ks : List Kept) (k : Kept) (i : ℕ) (o : Option Kept) → slice_get (ks ++ k ∷ []) i ≡ o → (o ≡ Some k) ⊎ (slice_get ks i ≡ o)
slice_get_parts [] k zero o h = inl (sym h)
slice_get_parts [] k (suc i) o h = inr h
slice_get_parts (x ∷ ks) k zero o h = inr h
slice_get_parts (x ∷ ks) k (suc i) o h = slice_get_parts ks k i o h

module _ (spots : List ℕ) (kept : List Kept) (k : Kept) (there : k.entry < length spots) where
  pub newly_kept : is_kept (set spots k.entry (length kept)) (kept ++ k ∷ []) k.entry ≡ true
  newly_kept =
      ap (λ o. is_some (if_of k.entry o)) (slice_get_last kept k _ (get_or-set_same spots k.entry (length kept) 0 there))
      ∙ ap (λ b. is_some (cond b (Some k) None)) (eq-eqb k.entry k.entry refl)

  -- another entry is kept only if it was
  pub others_kept : (entry : ℕ) → entry ≢ k.entry → is_kept (set spots k.entry (length kept)) (kept ++ k ∷ []) entry ≡ is_kept spots kept entry
  others_kept entry apart =
      ap (λ i. is_some (if_of entry (slice_get (kept ++ k ∷ []) i))) (get_or-set_other spots k.entry entry (length kept) 0 apart)
      ∙ by (slice_get_parts kept k (get_or spots entry 0) _ refl)
    where
      not_it : (k.entry == entry) ≡ false
      not_it = by_test (k.entry == entry) refl
        where
          by_test : (b : Bool) → (k.entry == entry) ≡ b → b ≡ false
          by_test false e = refl
          by_test true e = let same : k.entry ≡ entry = grind (arith, nat_tests) in absurd (apart (sym same))

      by : (slice_get (kept ++ k ∷ []) (get_or spots entry 0) ≡ Some k) ⊎ (slice_get kept (get_or spots entry 0) ≡ slice_get (kept ++ k ∷ []) (get_or spots entry 0))
          → is_some (if_of entry (slice_get (kept ++ k ∷ []) (get_or spots entry 0))) ≡ is_kept spots kept entry
      by (inr same) = ap (λ o. is_some (if_of entry o)) (sym same)
      by (inl last) = by_old (slice_get kept (get_or spots entry 0)) refl
        where
          by_old : (o : Option Kept) → slice_get kept (get_or spots entry 0) ≡ o → is_some (if_of entry (slice_get (kept ++ k ∷ []) (get_or spots entry 0))) ≡ is_some (if_of entry o)
          by_old None e = ap (λ o. is_some (if_of entry o)) last ∙ ap (λ b. is_some (cond b (Some k) None)) not_it
          by_old (Some x) e = ap (λ o. is_some (if_of entry o)) (slice_get_before kept (k ∷ []) (get_or spots entry 0) x e)

  pub at_least_kept : is_kept spots kept k.entry ≡ false → AtLeast (is_kept spots kept) (is_kept (set spots k.entry (length kept)) (kept ++ k ∷ []))
  at_least_kept new entry old = by (k.entry == entry) refl
    where
      by : (b : Bool) → (k.entry == entry) ≡ b → is_kept (set spots k.entry (length kept)) (kept ++ k ∷ []) entry ≡ true
      by true e = let same : k.entry ≡ entry = grind (arith, nat_tests) in subst (λ x. is_kept (set spots k.entry (length kept)) (kept ++ k ∷ []) x ≡ true) same newly_kept
      by false e = others_kept entry (λ same. false≢true (sym e ∙ eq-eqb k.entry entry (sym same))) ∙ old

  -- what is kept is kept with one more
  pub kept_one_more : (s : Setting) (tokens : List Token) → AllKept s spots kept tokens → is_kept spots kept k.entry ≡ false → k.entry < length s.entries → k.start ≤ k.end → k.end ≤ length tokens
      → NameYields s (is_kept (set spots k.entry (length kept)) (kept ++ k ∷ [])) k.entry (part_of tokens k.start k.end) → AllKept s (set spots k.entry (length kept)) (kept ++ k ∷ []) tokens
  kept_one_more s tokens all new known ordered within yields index x at = by (slice_get kept index) refl
    where
      was_kept : slice_get kept index ≡ Some x → IsKept s (set spots k.entry (length kept)) (kept ++ k ∷ []) tokens index x
      was_kept was =
          let old = all index x was in
          let apart : x.entry ≢ k.entry = λ same. false≢true (sym new ∙ ap (is_kept spots kept) (sym same) ∙ ap (λ i. is_some (if_of x.entry (slice_get kept i))) old.spot ∙ ap (λ o. is_some (if_of x.entry o)) was ∙ ap (λ b. is_some (cond b (Some x) None)) (eq-eqb x.entry x.entry refl)) in
          record {
            below = old.below;
            spot = get_or-set_other spots k.entry x.entry (length kept) 0 apart ∙ old.spot;
            ordered = old.ordered;
            within = old.within;
            yields = name_yields_more s (is_kept spots kept) _ x.entry _ (at_least_kept new) old.yields;
          }

      by : (o : Option Kept) → slice_get kept index ≡ o → IsKept s (set spots k.entry (length kept)) (kept ++ k ∷ []) tokens index x
      by (Some y) e =
          let same : Some y ≡ Some x = sym (slice_get_before kept (k ∷ []) index y e) ∙ at in
          was_kept (e ∙ same)
      by None e =
          let below = slice_get_within (kept ++ k ∷ []) index x at in
          let past : length kept ≤ index = ⊎_elim (λ less. absurd (none_some (e) (slice_get-get_or kept index k less))) (λ le. le) (cases_lt index (length kept)) in
          let last : index ≡ length kept = omega (arith, length-append kept (k ∷ [])) in
          let same : Some x ≡ Some k = sym at ∙ slice_get_last kept k index last in
          let is : k ≡ x = cc in
          subst (IsKept s (set spots k.entry (length kept)) (kept ++ k ∷ []) tokens index) is (record {
            below = known;
            spot = get_or-set_same spots k.entry (length kept) 0 there ∙ sym last;
            ordered = ordered;
            within = within;
            yields = yields;
          })
        where
          none_some : slice_get kept index ≡ None → slice_get kept index ≡ Some (get_or kept index k) → ⊥
          none_some a b = cc

-- ---- copies

pub part_more : (tokens : List Token) (start at : ℕ) (t : Token) → start ≤ at → at < length tokens → t ≡ get_or tokens at t → part_of tokens start (at + 1) ≡ part_of tokens start at ++ t ∷ []
part_more tokens start at t h g is =
    let n = at - start in
    let size : (at + 1) - start ≡ n + 1 = omega arith in
    let sum : start + n ≡ at = omega arith in
    ap (λ k. take k (drop start tokens)) size
    ∙ (take_at_read (drop start tokens) n t (omega (arith, length-drop start tokens))).1
    ∙ ap (λ u. take n (drop start tokens) ++ u ∷ []) (get_or-drop start tokens n t ∙ ap (λ k. get_or tokens k t) sum ∙ sym is)

pub part_nothing : (tokens : List Token) (start : ℕ) → part_of tokens start start ≡ []
part_nothing tokens start = let none : start - start ≡ 0 = omega arith in rw none refl

-- one token more of the part is copied
pub copied_more : (old tokens new : List Token) (start at : ℕ) (t : Token) → start ≤ at → at < length old → tokens ≡ old ++ part_of old start at → t ≡ get_or tokens at t → new ≡ tokens ++ t ∷ [] → new ≡ old ++ part_of old start (at + 1)
copied_more old tokens new start at t h g so_far is pushed =
    pushed ∙ ap (λ ts. ts ++ t ∷ []) so_far ∙ append_assoc old (part_of old start at) (t ∷ [])
    ∙ ap (λ ts. old ++ ts) (sym (part_more old start at t h g (is ∙ ap (λ ts. get_or ts at t) so_far ∙ get_or_append_left old (part_of old start at) t at g)))

pub length-part : (tokens : List Token) (start end : ℕ) → start ≤ end → end ≤ length tokens → length (part_of tokens start end) ≡ end - start
length-part tokens start end h g = length-take-le (end - start) (drop start tokens) (omega (arith, length-drop start tokens))

-- one token more is placed at the line of a name
pub placed_more : (name : Token) (tokens : List Token) (i : ℕ) (d : Token) → i < length tokens → map (placed_at name) (take i tokens) ++ placed_at name (get_or tokens i d) ∷ [] ≡ map (placed_at name) (take (i + 1) tokens)
placed_more name tokens i d h =
    sym (ap (map (placed_at name)) (take_at_read tokens i d h).1 ∙ map-append (placed_at name) (take i tokens) (get_or tokens i d ∷ []))

pub placed_push : (name : Token) (tokens : List Token) (i : ℕ) (d : Token) (old so_far new : List Token) → i < length tokens → so_far ≡ old ++ map (placed_at name) (take i tokens) → new ≡ so_far ++ placed_at name (get_or tokens i d) ∷ [] → new ≡ old ++ map (placed_at name) (take (i + 1) tokens)
placed_push name tokens i d old so_far new h is pushed =
    pushed ∙ ap (λ ts. ts ++ placed_at name (get_or tokens i d) ∷ []) is ∙ append_assoc old _ _ ∙ ap (λ ts. old ++ ts) (placed_more name tokens i d h)

-- ---- the tokens of an entry

pub body_is : (entries : List Entry) (place : ℕ) (e : Entry) (tokens : List Token) → place < length entries → e ≡ get_or entries place e → tokens ≡ e.body.items → tokens ≡ body_at entries place
body_is entries place e tokens below is same = same ∙ sym (ap body_of (slice_get_read entries (length entries) place e refl below is))

pub token_taken : (tokens body : List Token) (n : ℕ) (d : Token) → tokens ≡ body → n < length tokens → take (n + 1) body ≡ take n body ++ get_or tokens n d ∷ []
token_taken tokens body n d same less = subst (λ ts. take (n + 1) ts ≡ take n ts ++ get_or tokens n d ∷ []) same (take_at_read tokens n d less).1

pub token_next : (tokens body : List Token) (n : ℕ) (d : Token) → tokens ≡ body → n < length tokens → drop n body ≡ get_or tokens n d ∷ drop (n + 1) body
token_next tokens body n d same less = subst (λ ts. drop n ts ≡ get_or tokens n d ∷ drop (n + 1) ts) same (drop_more tokens n d less)
