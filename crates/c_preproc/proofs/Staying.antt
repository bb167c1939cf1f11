-- What is kept stays so where a name is defined or undefined that stands in no macro's tokens.
use Rattle.std.proofs.Common.{◌≡◌, ◌≢◌, ℕ, zero, suc, ◌+◌, ◌<◌, ◌≤◌, ◌&&◌, ◌||◌, not, Bool, true, false, cond, List, [], ◌∷◌, ◌++◌, length, get_or, take, Option, Some, None, is_some, refl, sym, ap, ◌∙◌, subst, arith}
use Rattle.std.specs.List.{flat_map, list_all, slice_get}
use Rattle.std.specs.Option.{option_map, option_map_or}
use Rattle.std.proofs.lemmas.Bool.{and_parts, false≢true}
use Rattle.std.proofs.lemmas.Grind.{take_at_read}
use Rattle.c_lexer.specs.declared.token.Token.{Token}
use Rattle.c_preproc.specs.declared.macros.Entry.{Entry}
use Rattle.c_preproc.specs.declared.expander.Expander.{Expander}
use Rattle.c_preproc.specs.declared.expander.Kept.{Kept}
use Rattle.c_preproc.specs.Texts.{is_name, same_text, text_of}
use Rattle.c_preproc.specs.Macros.{Macro, body_for, macro_of, replacement_of, without}
use Rattle.c_preproc.specs.Code.Table.{IsIndexed, body_at, body_of}
use Rattle.c_preproc.specs.Code.NameFilter.{AreIn, IsMore, is_in, may_have}
use Rattle.c_preproc.specs.Code.Expander.{Setting, IsStore, NameYields, but_for, entry_of, if_of, is_kept, is_one_of, part_of}
use Rattle.c_preproc.proofs.Depth.{length-body, length-filter_le, names_are_replaced, none_there}
use Rattle.c_preproc.proofs.LeftOut.{entry_leads, macro_of-without, not_same, same_text_then, then_same_text}
use Rattle.c_preproc.proofs.Lists.{all_push, slice_get_before}
use Rattle.c_preproc.proofs.MacroTable.{entry_at, store_empty}

-- ---- a macro whose name stands nowhere

-- the token isn't this name
abbrev is_other : List ℕ → List ℕ → Token → Bool
is_other bytes name t = not (is_name t && same_text name (text_of bytes t))

-- no other macro's tokens have the name
abbrev StandsNowhere : List ℕ → List ℕ → List Macro → Type 0
StandsNowhere bytes name macros =
    (other : List ℕ) (body : List Token) → option_map (λ macro. macro.body) (macro_of macros other) ≡ Some body → same_text name other ≡ false → list_all (is_other bytes name) body ≡ true

stands_nowhere-less : (bytes name gone : List ℕ) (macros : List Macro) → StandsNowhere bytes name macros → StandsNowhere bytes name (without macros gone)
stands_nowhere-less bytes name gone macros nowhere other body e apart = by (same_text gone other) (sym (ap (option_map (λ macro. macro.body)) (macro_of-without macros gone other)) ∙ e)
  where
    by : (b : Bool) → option_map (λ macro. macro.body) (cond b None (macro_of macros other)) ≡ Some body → list_all (is_other bytes name) body ≡ true
    by true g = cc
    by false g = nowhere other body g apart

without-without : (macros : List Macro) (a b : List ℕ) → without (without macros a) b ≡ without (without macros b) a
without-without [] a b = refl
without-without (m ∷ macros) a b = by (same_text m.name a) refl (same_text m.name b) refl (without-without macros a b)
  where
    by : (x : Bool) → same_text m.name a ≡ x → (y : Bool) → same_text m.name b ≡ y → without (without macros a) b ≡ without (without macros b) a → without (without (m ∷ macros) a) b ≡ without (without (m ∷ macros) b) a
    by true e true f deep = rw (e, f) deep
    by true e false f deep = rw (e, f, e) deep
    by false e true f deep = rw (e, f) deep
    by false e false f deep = rw (e, f, e) (ap (λ ms. m ∷ ms) deep)

flat_map-where : (f g : Token → List Token) (p : Token → Bool) (tokens : List Token) → list_all p tokens ≡ true → ((t : Token) → p t ≡ true → f t ≡ g t) → flat_map f tokens ≡ flat_map g tokens
flat_map-where f g p [] all same = refl
flat_map-where f g p (t ∷ tokens) all same =
    let both = and_parts (p t) (list_all p tokens) all in
    ap (λ ts. ts ++ flat_map f tokens) (same t both.0) ∙ ap (λ ts. g t ++ ts) (flat_map-where f g p tokens both.1 same)

body_without : (bytes name : List ℕ) (macros : List Macro) (t : Token) → is_other bytes name t ≡ true → body_for bytes (without macros name) t ≡ body_for bytes macros t
body_without bytes name macros t h = by (is_name t) (same_text name (text_of bytes t)) refl h
  where
    by : (n b : Bool) → same_text name (text_of bytes t) ≡ b → not (n && b) ≡ true → cond n (option_map (λ macro. macro.body) (macro_of (without macros name) (text_of bytes t))) None ≡ cond n (option_map (λ macro. macro.body) (macro_of macros (text_of bytes t))) None
    by false b e g = refl
    by true true e g = cc
    by true false e g = ap (option_map (λ macro. macro.body)) (macro_of-without macros name (text_of bytes t) ∙ ap (λ b. cond b None (macro_of macros (text_of bytes t))) e)

-- the body of a token that isn't the name has none of it
body_other : (bytes name : List ℕ) (macros : List Macro) (t : Token) (body : List Token) → StandsNowhere bytes name macros → is_other bytes name t ≡ true → body_for bytes macros t ≡ Some body → list_all (is_other bytes name) body ≡ true
body_other bytes name macros t body nowhere h e = by (is_name t) (same_text name (text_of bytes t)) refl h e
  where
    by : (n b : Bool) → same_text name (text_of bytes t) ≡ b → not (n && b) ≡ true → cond n (option_map (λ macro. macro.body) (macro_of macros (text_of bytes t))) None ≡ Some body → list_all (is_other bytes name) body ≡ true
    by false b f g k = cc
    by true true f g k = cc
    by true false f g k = nowhere (text_of bytes t) body k f

-- such a macro makes no difference
makes_no_difference : (n : ℕ) (bytes name : List ℕ) (macros : List Macro) (t : Token) → length macros ≤ n → StandsNowhere bytes name macros → is_other bytes name t ≡ true → replacement_of bytes macros t ≡ replacement_of bytes (without macros name) t
makes_no_difference zero bytes name macros t size nowhere h =
    let fewer = length-filter_le (λ macro. not (same_text macro.name name)) macros in
    none_there (length macros) bytes macros t size ∙ sym (none_there (length (without macros name)) bytes (without macros name) t (omega arith))
makes_no_difference (suc n) bytes name macros t size nowhere h =
    names_are_replaced bytes macros t
    ∙ by (λ (u : Token) (less : length (without macros (text_of bytes t)) ≤ n) (k : is_other bytes name u ≡ true). makes_no_difference n bytes name (without macros (text_of bytes t)) u less (stands_nowhere-less bytes name (text_of bytes t) macros nowhere) k)
    (body_for bytes macros t) refl
    ∙ sym (names_are_replaced bytes (without macros name) t ∙ ap (λ o. option_map_or (flat_map (replacement_of bytes (without (without macros name) (text_of bytes t)))) o (t ∷ [])) (body_without bytes name macros t h))
  where
    by : ((u : Token) → length (without macros (text_of bytes t)) ≤ n → is_other bytes name u ≡ true → replacement_of bytes (without macros (text_of bytes t)) u ≡ replacement_of bytes (without (without macros (text_of bytes t)) name) u)
        → (o : Option (List Token)) → body_for bytes macros t ≡ o → option_map_or (flat_map (replacement_of bytes (without macros (text_of bytes t)))) o (t ∷ []) ≡ option_map_or (flat_map (replacement_of bytes (without (without macros name) (text_of bytes t)))) o (t ∷ [])
    by deep None e = refl
    by deep (Some body) e =
        let less = length-body bytes macros t body e in
        flat_map-where _ _ (is_other bytes name) body (body_other bytes name macros t body nowhere h e)
        (λ u k. deep u (omega arith) k ∙ ap (λ ms. replacement_of bytes ms u) (without-without macros (text_of bytes t) name))

-- ---- names that a filter has not

not_in : (slots : List Bool) (bytes name : List ℕ) (tokens : List Token) → may_have slots name ≡ false → AreIn slots bytes tokens → list_all (is_other bytes name) tokens ≡ true
not_in slots bytes name [] none all = refl
not_in slots bytes name (t ∷ tokens) none all =
    let both = and_parts (is_in slots bytes t) (list_all (is_in slots bytes) tokens) all in
    rw (by (is_name t) (same_text name (text_of bytes t)) refl both.0, not_in slots bytes name tokens none both.1) refl
  where
    by : (n b : Bool) → same_text name (text_of bytes t) ≡ b → (not n || may_have slots (text_of bytes t)) ≡ true → not (n && b) ≡ true
    by false b e g = refl
    by true false e g = refl
    by true true e g = absurd (false≢true (sym none ∙ ap (may_have slots) (same_text_then name (text_of bytes t) e) ∙ g))

-- ---- the store at another table

-- each of the old yields is one of the new ones
abbrev pub Carries : Setting → Setting → Type 0
Carries s s' = (kept : ℕ → Bool) (entry : ℕ) (out : List Token) → entry < length s.entries → NameYields s kept entry out → NameYields s' kept entry out

kept_same : (spots spots' : List ℕ) (kept kept' : List Kept) (entry : ℕ) → get_or spots' entry 0 ≡ get_or spots entry 0 → kept' ≡ kept → is_kept spots' kept' entry ≡ is_kept spots kept entry
kept_same spots spots' kept kept' entry same all = ap (λ i. is_some (if_of entry (slice_get kept' i))) same ∙ ap (λ ks. is_some (if_of entry (slice_get ks (get_or spots entry 0)))) all

pub store_carried : (s s' : Setting) (x x' : Expander) → length s'.entries ≤ length x'.seats.items → length s'.entries ≤ length x'.spots.items → length s.entries ≤ length s'.entries → ((entry : ℕ) → get_or x'.spots.items entry 0 ≡ get_or x.spots.items entry 0)
    → x'.kept.items ≡ x.kept.items → x'.tokens.items ≡ x.tokens.items → Carries s s' → IsStore s x → IsStore s' x'
store_carried s s' x x' seats spots longer same kept tokens carries store = record {
  seats = seats;
  spots = spots;
  kept = λ index k there.
      let old = store.kept index k (ap (λ ks. slice_get ks index) (sym kept) ∙ there) in
      record {
        below = omega (arith, old.below);
        spot = same k.entry ∙ old.spot;
        ordered = old.ordered;
        within = omega (arith, old.within, ap length tokens);
        yields = λ hidden macros leaves apart.
            subst (λ ts. (t : Token) → entry_of s' t ≡ Some k.entry → replacement_of s'.bytes macros t ≡ part_of ts k.start k.end) (sym tokens)
            (carries (is_kept x.spots.items x.kept.items) k.entry (part_of x.tokens.items k.start k.end) old.below old.yields hidden macros leaves
            (λ entry one. sym (kept_same x.spots.items x'.spots.items x.kept.items x'.kept.items entry (same entry) kept) ∙ apart entry one));
      };
}

-- all that was kept is, or nothing is
pub store_after : (all : Bool) (s s' : Setting) (x x' : Expander) → (all ≡ true → x'.kept.items ≡ []) → (all ≡ false → (x'.kept.items ≡ x.kept.items) × (x'.tokens.items ≡ x.tokens.items)) → length s'.entries ≤ length x'.seats.items → length s'.entries ≤ length x'.spots.items → length s.entries ≤ length s'.entries
    → ((entry : ℕ) → get_or x'.spots.items entry 0 ≡ get_or x.spots.items entry 0) → (all ≡ false → Carries s s') → IsStore s x → IsStore s' x'
store_after true s s' x x' none stays seats spots longer same carries store = store_empty s' x' seats spots (none refl)
store_after false s s' x x' none stays seats spots longer same carries store = store_carried s s' x x' seats spots longer same (stays refl).0 (stays refl).1 (carries refl) store

pub carries_same : (s : Setting) → Carries s s
carries_same s kept entry out below h = h

-- ---- another table

module _ (bytes : List ℕ) (places new : List ℕ → Option ℕ) (entries more : List Entry) (bodies : (name : List ℕ) (place : ℕ) → places name ≡ Some place → body_at more place ≡ body_at entries place) where
  abbrev before : Setting
  before = record { bytes = bytes; places = places; entries = entries }

  abbrev after : Setting
  after = record { bytes = bytes; places = new; entries = more }

  same_bodies : (hidden name : List ℕ) (o : Option ℕ) → places name ≡ o → option_map (body_at more) (but_for hidden o) ≡ option_map (body_at entries) (but_for hidden o)
  same_bodies hidden name None f = refl
  same_bodies hidden name (Some place) f = by (is_one_of hidden place)
    where
      by : (b : Bool) → option_map (body_at more) (cond b None (Some place)) ≡ option_map (body_at entries) (cond b None (Some place))
      by true = refl
      by false = ap Some (bodies name place f)

  -- no name leads elsewhere
  pub carries_unmade : new ≡ places → Carries before after
  carries_unmade same = subst (λ p. Carries before (record { bytes = bytes; places = p; entries = more })) (sym same)
      (λ kept entry out below h hidden macros leaves apart. h hidden macros (record { same = λ name. leaves.same name ∙ same_bodies hidden name (places name) refl }) apart)

  -- one name does, which stands in no macro's tokens, and leads to none of the old entries
  module _ (name : List ℕ) (slots : List Bool) (none : may_have slots name ≡ false) (filtered : (place : ℕ) → AreIn slots bytes (body_at entries place)) (others : (other : List ℕ) → name ≢ other → new other ≡ places other)
      (gone : (place : ℕ) → place < length entries → new name ≡ Some place → ⊥) where
    abbrev IsOther : List ℕ → List Macro → Type 0
    IsOther hidden macros = (other : List ℕ) → same_text name other ≡ false → option_map (λ macro. macro.body) (macro_of macros other) ≡ option_map (body_at entries) (but_for hidden (places other))

    nowhere : (hidden : List ℕ) (macros : List Macro) → IsOther hidden macros → StandsNowhere bytes name macros
    nowhere hidden macros same other body f apart = at (places other) (sym (same other apart) ∙ f)
      where
        at : (o : Option ℕ) → option_map (body_at entries) (but_for hidden o) ≡ Some body → list_all (is_other bytes name) body ≡ true
        at None k = cc
        at (Some place) k = shown (is_one_of hidden place) k
          where
            shown : (b : Bool) → option_map (body_at entries) (cond b None (Some place)) ≡ Some body → list_all (is_other bytes name) body ≡ true
            shown true k = cc
            shown false k = let is : body_at entries place ≡ body = cc in subst (λ ts. list_all (is_other bytes name) ts ≡ true) is (not_in slots bytes name (body_at entries place) none (filtered place))

    -- another name that leads to an old entry
    leads_before : (other : List ℕ) (place : ℕ) → place < length entries → new other ≡ Some place → (b : Bool) → same_text name other ≡ b → (same_text name other ≡ false) × (places other ≡ Some place)
    leads_before other place below leads true f = absurd (gone place below (ap new (same_text_then name other f) ∙ leads))
    leads_before other place below leads false f = (f, sym (others other (not_same _ _ f)) ∙ leads)

    pub carries_changed : Carries before after
    carries_changed kept entry out below h hidden macros leaves apart t names =
        let was = leads_before (text_of bytes t) entry below (entry_leads after t entry names) (same_text name (text_of bytes t)) refl in
        let other : is_other bytes name t ≡ true = ap (λ b. not (is_name t && b)) was.0 ∙ not_and_false (is_name t) in
        makes_no_difference (length macros) bytes name macros t (omega arith) (nowhere hidden macros all_others) other
        ∙ by (named (is_name t) names was.1) other (but_for hidden (places name)) refl
      where
        not_and_false : (b : Bool) → not (b && false) ≡ true
        not_and_false true = refl
        not_and_false false = refl

        named : (b : Bool) → cond b (new (text_of bytes t)) None ≡ Some entry → places (text_of bytes t) ≡ Some entry → cond b (places (text_of bytes t)) None ≡ Some entry
        named true g k = k
        named false g k = g

        all_others : IsOther hidden macros
        all_others other f = leaves.same other ∙ ap (λ o. option_map (body_at more) (but_for hidden o)) (others other (not_same _ _ f)) ∙ same_bodies hidden other (places other) refl

        less : List Macro
        less = without macros name

        less_others : IsOther hidden less
        less_others other f = ap (option_map (λ macro. macro.body)) (macro_of-without macros name other ∙ ap (λ b. cond b None (macro_of macros other)) f) ∙ all_others other f

        by : entry_of before t ≡ Some entry → is_other bytes name t ≡ true → (o : Option ℕ) → but_for hidden (places name) ≡ o → replacement_of bytes less t ≡ out
        by is other None e = h hidden less (record { same = λ n. at n (same_text name n) refl }) apart t is
          where
            at : (n : List ℕ) (b : Bool) → same_text name n ≡ b → option_map (λ macro. macro.body) (macro_of less n) ≡ option_map (body_at entries) (but_for hidden (places n))
            at n false f = less_others n f
            at n true f =
                ap (option_map (λ macro. macro.body)) (macro_of-without macros name n ∙ ap (λ b. cond b None (macro_of macros n)) f)
                ∙ sym (ap (option_map (body_at entries)) e) ∙ ap (λ x. option_map (body_at entries) (but_for hidden (places x))) (same_text_then name n f)
        by is other (Some place) e =
            makes_no_difference (length less) bytes name less t (omega arith) (nowhere hidden less less_others) other
            ∙ ap (λ ms. replacement_of bytes ms t) (sym first_gone)
            ∙ sym (makes_no_difference (length (m ∷ less)) bytes name (m ∷ less) t (omega arith) (nowhere hidden (m ∷ less) with_others) other)
            ∙ h hidden (m ∷ less) (record { same = λ n. at n (same_text name n) refl }) apart t is
          where
            m : Macro
            m = record { name = name; body = body_at entries place }

            first_gone : without (m ∷ less) name ≡ without less name
            first_gone = ap (λ b. cond (not b) (m ∷ without less name) (without less name)) (then_same_text name name refl)

            with_others : IsOther hidden (m ∷ less)
            with_others other f = ap (λ b. option_map (λ macro. macro.body) (cond b (Some m) (macro_of less other))) f ∙ less_others other f

            at : (n : List ℕ) (b : Bool) → same_text name n ≡ b → option_map (λ macro. macro.body) (macro_of (m ∷ less) n) ≡ option_map (body_at entries) (but_for hidden (places n))
            at n false f = with_others n f
            at n true f =
                ap (λ b. option_map (λ macro. macro.body) (cond b (Some m) (macro_of less n))) f
                ∙ sym (ap (option_map (body_at entries)) e) ∙ ap (λ x. option_map (body_at entries) (but_for hidden (places x))) (same_text_then name n f)

-- what leads to a new entry or nowhere leads to no old one
pub not_old : (o : Option ℕ) (last place size : ℕ) → o ≡ Some last → last ≡ size → place < size → o ≡ Some place → ⊥
not_old o last place size h e below g =
    let same : Some last ≡ Some place = sym h ∙ g in
    let is : last ≡ place = cc in
    absurd (omega arith)

pub not_there : (o : Option ℕ) (place : ℕ) → o ≡ None → o ≡ Some place → ⊥
not_there o place h g = cc

-- one entry more leaves the tokens of the others
pub body_more : (places : List ℕ → Option ℕ) (entries more : List Entry) → IsIndexed places entries → (e : Entry) → more ≡ entries ++ e ∷ [] → (name : List ℕ) (place : ℕ) → places name ≡ Some place → body_at more place ≡ body_at entries place
body_more places entries more indexed e pushed name place leads =
    let at = entry_at places entries indexed name place leads in
    ap (λ es. body_of (slice_get es place)) pushed ∙ ap body_of (slice_get_before entries (e ∷ []) place at.0 at.1 ∙ sym at.1)

-- ---- no more than a 0 behind the spots

pub zero_behind : (spots : List ℕ) (i : ℕ) → get_or (spots ++ 0 ∷ []) i 0 ≡ get_or spots i 0
zero_behind [] zero = refl
zero_behind [] (suc i) = refl
zero_behind (s ∷ spots) zero = refl
zero_behind (s ∷ spots) (suc i) = zero_behind spots i

-- ---- the filter

filtered_more : (slots slots' : List Bool) (bytes : List ℕ) (tokens : List Token) → IsMore slots slots' → AreIn slots bytes tokens → AreIn slots' bytes tokens
filtered_more slots slots' bytes [] more all = refl
filtered_more slots slots' bytes (t ∷ tokens) more all =
    let both = and_parts (is_in slots bytes t) (list_all (is_in slots bytes) tokens) all in
    rw (by (is_name t) both.0, filtered_more slots slots' bytes tokens more both.1) refl
  where
    by : (n : Bool) → (not n || may_have slots (text_of bytes t)) ≡ true → (not n || may_have slots' (text_of bytes t)) ≡ true
    by false e = refl
    by true e = more (text_of bytes t) e

pub filtered_on : (slots slots' : List Bool) (bytes : List ℕ) (entries : List Entry) → IsMore slots slots' → ((place : ℕ) → AreIn slots bytes (body_at entries place)) → (place : ℕ) → AreIn slots' bytes (body_at entries place)
filtered_on slots slots' bytes entries more all place = filtered_more slots slots' bytes (body_at entries place) more (all place)

pub filtered_push : (slots slots' : List Bool) (bytes : List ℕ) (entries : List Entry) (e : Entry) → IsMore slots slots' → AreIn slots' bytes e.body.items → ((place : ℕ) → AreIn slots bytes (body_at entries place)) → (place : ℕ) → AreIn slots' bytes (body_at (entries ++ e ∷ []) place)
filtered_push slots slots' bytes [] e more added all zero = added
filtered_push slots slots' bytes [] e more added all (suc place) = refl
filtered_push slots slots' bytes (x ∷ entries) e more added all zero = filtered_more slots slots' bytes x.body.items more (all 0)
filtered_push slots slots' bytes (x ∷ entries) e more added all (suc place) = filtered_push slots slots' bytes entries e more added (λ p. all (suc p)) place

-- one token more is in it
pub filtered_next : (slots slots' : List Bool) (bytes : List ℕ) (tokens : List Token) (i : ℕ) (d : Token) → i < length tokens → IsMore slots slots' → AreIn slots bytes (take i tokens) → is_in slots' bytes (get_or tokens i d) ≡ true → AreIn slots' bytes (take (i + 1) tokens)
filtered_next slots slots' bytes tokens i d within more all one =
    all_push (is_in slots' bytes) (take i tokens) (take (i + 1) tokens) (get_or tokens i d) (take_at_read tokens i d within).1 (filtered_more slots slots' bytes (take i tokens) more all) one
