-- The table of macros: what a definition and its end change, and what a look-up finds.
use Rattle.std.proofs.Common.{◌≡◌, ◌≢◌, ℕ, zero, suc, ◌+◌, ◌<◌, ◌≤◌, cond, not, ◌==◌, Bool, true, false, List, [], ◌∷◌, ◌++◌, length, filter, get_or, Option, Some, None, IsSomeAnd, Result, Ok, Err, OnErr, refl, sym, ap, ◌∙◌, subst, ⊎_elim, arith, eq-eqb, Vec}
use Rattle.std.specs.declared.alloc.Global.{Global}
use Rattle.std.specs.Option.{option_map}
use Rattle.std.specs.BTreeMap as tree
use Rattle.std.specs.BTreeMap.{is_at}
use Rattle.std.specs.Cmp.{eq_by_cmp_equiv}
use Rattle.std.specs.Cmp.Lexicographic.{slice_cmp, nat_list_cmp_total}
use Rattle.std.specs.Ordering.{nat_cmp, is_eq}
use Rattle.std.specs.Map.{lookup, IsKeyTest, AreApart, KeepsOthers}
use Rattle.std.specs.Str.{bytes_eq}
use Rattle.std.specs.List.{slice_get}
use Rattle.std.proofs.lemmas.Bool.{false≢true, cases_Bool}
use Rattle.std.proofs.lemmas.Bool.Decides.{nat_tests}
use Rattle.std.proofs.lemmas.Map.Text.{is_eq-slice_cmp}
use Rattle.std.proofs.lemmas.Option.{slice_get_read}
use Rattle.std.proofs.lemmas.Slice.Eq.{bytes_eq-Decides}
use Rattle.c_preproc.specs.declared.macros.Entry.{Entry}
use Rattle.c_preproc.specs.Texts.{same_text}
use Rattle.c_preproc.specs.Macros.{Macro, macro_of, without}
use Rattle.c_preproc.specs.declared.expander.Expander.{Expander}
use Rattle.c_preproc.specs.declared.expander.Kept.{Kept}
use Rattle.c_preproc.specs.Code.Table.{Index, place_of, macro_of_entry, is_place, defined_from, defined_of, IsIndexed, body_of, body_at}
use Rattle.c_preproc.specs.Code.Expander.{Setting, IsStore, LeavesOut, macros_of, but_for}
use Rattle.c_preproc.proofs.Lists.{slice_get_before, slice_get_last}
use Rattle.c_preproc.proofs.LeftOut.{leads_below, same_text_then, then_same_text, not_same}

-- ---- the index, by names

-- a change at one name
pub record Changes (old new : List ℕ → Option ℕ) (name : List ℕ) (w : Option ℕ) : Type 0 where
  pub here : new name ≡ w
  pub others : (other : List ℕ) → name ≢ other → new other ≡ old other

different : (a b : List ℕ) → a ≢ b → bytes_eq a b ≡ false
different a b h = ⊎_elim (λ y. absurd (h ((bytes_eq-Decides a b).0 y))) (λ n. n) (cases_Bool (bytes_eq a b))

keys_apart : (bs cs : List ℕ) → bs ≢ cs → (key : Vec ℕ Global) → is_eq (slice_cmp nat_cmp bs key.items) ≡ true → is_eq (slice_cmp nat_cmp cs key.items) ≡ false
keys_apart bs cs h key e =
    let same : bs ≡ key.items = (bytes_eq-Decides bs key.items).0 (sym (is_eq-slice_cmp bs key.items) ∙ e) in
    is_eq-slice_cmp cs key.items ∙ different cs key.items (λ g. h (same ∙ sym g))

keeps : (eq : Vec ℕ Global → Vec ℕ Global → Bool) (test : Vec ℕ Global → Bool) (old new : List (Vec ℕ Global × ℕ)) → KeepsOthers eq test old new → (other : Vec ℕ Global → Bool) → IsKeyTest eq other → AreApart test other → lookup other new ≡ lookup other old
unfolding KeepsOthers
keeps eq test old new h = h

pub changed_by : (old new : Index) (name : List ℕ) (w : Option ℕ) → tree.UpdatesBy (λ x y. slice_cmp nat_cmp x.items y.items) (λ key. slice_cmp nat_cmp name key.items) old new w → Changes (place_of old) (place_of new) name w
changed_by old new name w h = record {
  here = h.1;
  others = λ other apart. keeps _ _ _ _ h.3 _ (λ x y. (eq_by_cmp_equiv nat_list_cmp_total).congr other x.items y.items) (keys_apart name other apart);
}

-- ---- one entry

is_place_later : (o : Option ℕ) (place : ℕ) → ((p : ℕ) → o ≡ Some p → p < place) → (k : ℕ) → place ≤ k → is_place o k ≡ false
is_place_later None place h k past = refl
is_place_later (Some p) place h k past = by (p == k) refl
  where
    by : (b : Bool) → (p == k) ≡ b → b ≡ false
    by false e = refl
    by true e = let less = h p refl in let same : p ≡ k = grind (arith, nat_tests) in absurd (omega arith)

is_place_at : (o : Option ℕ) (p : ℕ) → o ≡ Some p → is_place o p ≡ true
is_place_at o p h = ap (λ x. is_place x p) h ∙ eq-eqb p p refl

is_place_apart : (o : Option ℕ) (p k : ℕ) → o ≡ Some p → p ≢ k → is_place o k ≡ false
is_place_apart o p k h apart = ap (λ x. is_place x k) h ∙ by (p == k) refl
  where
    by : (b : Bool) → (p == k) ≡ b → b ≡ false
    by false e = refl
    by true e = absurd (apart (grind (arith, nat_tests)))

-- ---- a definition

module _ (places new : List ℕ → Option ℕ) (e : Entry) (n : ℕ) (changes : Changes places new e.name.items (Some n)) (absent : places e.name.items ≡ None) where
  kept_entry : (x : Entry) (k : ℕ) → k < n → is_place (new x.name.items) k ≡ is_place (places x.name.items) k
  kept_entry x k less = by (same_text e.name.items x.name.items) refl
    where
      by : (b : Bool) → same_text e.name.items x.name.items ≡ b → is_place (new x.name.items) k ≡ is_place (places x.name.items) k
      by true s =
          let same = same_text_then e.name.items x.name.items s in
          is_place_apart (new x.name.items) n k (ap new (sym same) ∙ changes.here) (λ g. omega arith) ∙ ap (λ o. is_place o k) (sym (ap places (sym same) ∙ absent))
      by false s = ap (λ o. is_place o k) (changes.others x.name.items (not_same _ _ s))

  defined-push : (es : List Entry) (k : ℕ) (older : List Macro) → k + length es ≡ n → defined_from new k (es ++ e ∷ []) older ≡ macro_of_entry e ∷ defined_from places k es older
  unfolding defined_from
  defined-push [] k older h =
      let here : n ≡ k = omega arith in
      ap (λ b. cond b (macro_of_entry e ∷ older) older) (is_place_at (new e.name.items) k (changes.here ∙ ap Some here))
  defined-push (x ∷ es) k older h =
      ap (λ b. defined_from new (suc k) (es ++ e ∷ []) (cond b (macro_of_entry x ∷ older) older)) (kept_entry x k (omega arith))
      ∙ defined-push es (suc k) (cond (is_place (places x.name.items) k) (macro_of_entry x ∷ older) older) (omega arith)

-- an entry that no name leads to isn't defined
defined-garbage : (places : List ℕ → Option ℕ) (e : Entry) (n : ℕ) → ((p : ℕ) → places e.name.items ≡ Some p → p < n) → (es : List Entry) (k : ℕ) (older : List Macro) → k + length es ≡ n → defined_from places k (es ++ e ∷ []) older ≡ defined_from places k es older
unfolding defined_from
defined-garbage places e n before [] k older h =
    ap (λ b. cond b (macro_of_entry e ∷ older) older) (is_place_later (places e.name.items) n before k (omega arith))
defined-garbage places e n before (x ∷ es) k older h =
    defined-garbage places e n before es (suc k) (cond (is_place (places x.name.items) k) (macro_of_entry x ∷ older) older) (omega arith)

-- ---- the end of a definition

module _ (places new : List ℕ → Option ℕ) (name : List ℕ) (changes : Changes places new name None) where
  ended : (es : List Entry) (k : ℕ) (older : List Macro) → defined_from new k es (filter (λ macro. not (same_text macro.name name)) older) ≡ filter (λ macro. not (same_text macro.name name)) (defined_from places k es older)
  unfolding defined_from
  ended [] k older = refl
  ended (x ∷ es) k older =
      ap (defined_from new (suc k) es) (by (same_text x.name.items name) refl (is_place (places x.name.items) k) refl)
      ∙ ended es (suc k) (cond (is_place (places x.name.items) k) (macro_of_entry x ∷ older) older)
    where
      gone : same_text x.name.items name ≡ true → new x.name.items ≡ None
      gone s = ap new (same_text_then x.name.items name s) ∙ changes.here

      stays : same_text x.name.items name ≡ false → new x.name.items ≡ places x.name.items
      stays s = changes.others x.name.items (λ g. not_same _ _ s (sym g))

      by : (b : Bool) → same_text x.name.items name ≡ b → (p : Bool) → is_place (places x.name.items) k ≡ p
          → cond (is_place (new x.name.items) k) (macro_of_entry x ∷ filter (λ macro. not (same_text macro.name name)) older) (filter (λ macro. not (same_text macro.name name)) older) ≡ filter (λ macro. not (same_text macro.name name)) (cond (is_place (places x.name.items) k) (macro_of_entry x ∷ older) older)
      by true s true e = rw (gone s, e, s) refl
      by true s false e = rw (gone s, e) refl
      by false s true e = rw (stays s, e, s) refl
      by false s false e = rw (stays s, e) refl

-- ---- a look-up

-- none of these entries is one that the name leads to
lookup_past : (places : List ℕ → Option ℕ) (name : List ℕ) (es : List Entry) (k : ℕ) (older : List Macro) → ((p : ℕ) → k ≤ p → is_place (places name) p ≡ false) → macro_of (defined_from places k es older) name ≡ macro_of older name
unfolding defined_from
lookup_past places name [] k older none = refl
lookup_past places name (x ∷ es) k older none =
    lookup_past places name es (suc k) (cond (is_place (places x.name.items) k) (macro_of_entry x ∷ older) older) (λ p h. none p (omega arith))
    ∙ by (same_text x.name.items name) refl (is_place (places x.name.items) k) refl
  where
    by : (b : Bool) → same_text x.name.items name ≡ b → (p : Bool) → is_place (places x.name.items) k ≡ p → macro_of (cond (is_place (places x.name.items) k) (macro_of_entry x ∷ older) older) name ≡ macro_of older name
    by b s false e = rw e refl
    by false s true e = rw (e, s) refl
    by true s true e =
        let same = same_text_then x.name.items name s in
        absurd (false≢true (sym (none k (omega arith)) ∙ ap (λ t. is_place (places t) k) (sym same) ∙ e))

lookup_there : (places : List ℕ → Option ℕ) (name : List ℕ) (es : List Entry) (k j : ℕ) (older : List Macro) (e : Entry) → places name ≡ Some (k + j) → slice_get es j ≡ Some e → e.name.items ≡ name → macro_of (defined_from places k es older) name ≡ Some (macro_of_entry e)
unfolding defined_from
lookup_there places name [] k j older e leads at same = cc
lookup_there places name (x ∷ es) k zero older e leads at same =
    let here : x ≡ e = cc in
    let named : x.name.items ≡ name = ap (λ y. y.name.items) here ∙ same in
    let at_k : places x.name.items ≡ Some k = ap places named ∙ leads ∙ ap Some (omega arith) in
    lookup_past places name es (suc k) (cond (is_place (places x.name.items) k) (macro_of_entry x ∷ older) older) (λ p h. is_place_apart (places name) (k + zero) p leads (λ g. omega arith))
    ∙ ap (λ b. macro_of (cond b (macro_of_entry x ∷ older) older) name) (is_place_at (places x.name.items) k at_k)
    ∙ ap (λ b. cond b (Some (macro_of_entry x)) (macro_of older name)) (then_same_text x.name.items name named)
    ∙ ap (λ y. Some (macro_of_entry y)) here
lookup_there places name (x ∷ es) k (suc j) older e leads at same =
    lookup_there places name es (suc k) j (cond (is_place (places x.name.items) k) (macro_of_entry x ∷ older) older) e (leads ∙ ap Some (omega arith)) at same

-- the entry that a name leads to
pub entry_at : (places : List ℕ → Option ℕ) (entries : List Entry) → IsIndexed places entries → (name : List ℕ) (place : ℕ) → places name ≡ Some place → (e : Entry) × (slice_get entries place ≡ Some e) × (e.name.items ≡ name)
entry_at places entries indexed name place leads = by (slice_get entries place) refl (indexed name place leads)
  where
    by : (o : Option Entry) → slice_get entries place ≡ o → IsSomeAnd o (λ e. e.name.items ≡ name) → (e : Entry) × (slice_get entries place ≡ Some e) × (e.name.items ≡ name)
    by None f h = absurd h
    by (Some e) f h = (e, f, h)

pub absent_then : (places : List ℕ → Option ℕ) (entries : List Entry) (name : List ℕ) → places name ≡ None → macro_of (defined_of places entries) name ≡ None
absent_then places entries name h = lookup_past places name entries 0 [] (λ p g. ap (λ o. is_place o p) h)

pub present_then : (places : List ℕ → Option ℕ) (entries : List Entry) → IsIndexed places entries → (name : List ℕ) (place : ℕ) (e : Entry) → places name ≡ Some place → slice_get entries place ≡ Some e → e.name.items ≡ name → macro_of (defined_of places entries) name ≡ Some (macro_of_entry e)
present_then places entries indexed name place e leads at same = lookup_there places name entries 0 place [] e (leads ∙ ap Some (omega arith)) at same

-- a name that isn't a macro's leads nowhere
pub then_absent : (places : List ℕ → Option ℕ) (entries : List Entry) → IsIndexed places entries → (name : List ℕ) → macro_of (defined_of places entries) name ≡ None → places name ≡ None
then_absent places entries indexed name h = by (places name) refl
  where
    by : (o : Option ℕ) → places name ≡ o → places name ≡ None
    by None e = e
    by (Some place) e =
        let at = entry_at places entries indexed name place e in
        let found = present_then places entries indexed name place at.0 e at.1 at.2 in
        cc

-- nothing is left out of all the macros
pub leaves_nothing_out : (s : Setting) → IsIndexed s.places s.entries → LeavesOut s [] (macros_of s)
leaves_nothing_out s indexed = record { same = λ name. by name (s.places name) refl }
  where
    by : (name : List ℕ) (o : Option ℕ) → s.places name ≡ o → option_map (λ macro. macro.body) (macro_of (macros_of s) name) ≡ option_map (body_at s.entries) (but_for [] o)
    by name None e = ap (option_map (λ macro. macro.body)) (absent_then s.places s.entries name e)
    by name (Some place) e =
        let at = entry_at s.places s.entries indexed name place e in
        ap (option_map (λ macro. macro.body)) (present_then s.places s.entries indexed name place at.0 e at.1 at.2)
        ∙ ap (λ o. Some (body_of o)) (sym at.1)

-- ---- the table between calls

indexed-push : (places new : List ℕ → Option ℕ) (entries : List Entry) (e : Entry) → IsIndexed places entries → Changes places new e.name.items (Some (length entries)) → IsIndexed new (entries ++ e ∷ [])
indexed-push places new entries e indexed changes name place leads = by (same_text e.name.items name) refl
  where
    by : (b : Bool) → same_text e.name.items name ≡ b → IsSomeAnd (slice_get (entries ++ e ∷ []) place) (λ x. x.name.items ≡ name)
    by true s =
        let same = same_text_then e.name.items name s in
        let last : Some (length entries) ≡ Some place = sym changes.here ∙ ap new same ∙ leads in
        let here : length entries ≡ place = cc in
        subst (λ o. IsSomeAnd o (λ x. x.name.items ≡ name)) (sym (slice_get_last entries e (length entries) refl) ∙ ap (slice_get (entries ++ e ∷ [])) here) same
    by false s =
        let at = entry_at places entries indexed name place (sym (changes.others name (not_same _ _ s)) ∙ leads) in
        subst (λ o. IsSomeAnd o (λ x. x.name.items ≡ name)) (sym (slice_get_before entries (e ∷ []) place at.0 at.1)) at.2

indexed-garbage : (places : List ℕ → Option ℕ) (entries : List Entry) (e : Entry) → IsIndexed places entries → IsIndexed places (entries ++ e ∷ [])
indexed-garbage places entries e indexed name place leads =
    let at = entry_at places entries indexed name place leads in
    subst (λ o. IsSomeAnd o (λ x. x.name.items ≡ name)) (sym (slice_get_before entries (e ∷ []) place at.0 at.1)) at.2

module _ (places : List ℕ → Option ℕ) (entries : List Entry) (indexed : IsIndexed places entries) where
  module _ (new : List ℕ → Option ℕ) (e : Entry) (changes : Changes places new e.name.items (Some (length entries))) (undefined : macro_of (defined_of places entries) e.name.items ≡ None) where
    pub defined_more : defined_of new (entries ++ e ∷ []) ≡ macro_of_entry e ∷ defined_of places entries
    defined_more = defined-push places new e (length entries) changes (then_absent places entries indexed e.name.items undefined) entries 0 [] (omega arith)

  pub defined_same : (e : Entry) → defined_of places (entries ++ e ∷ []) ≡ defined_of places entries
  defined_same e = defined-garbage places e (length entries) (leads_below places entries indexed e.name.items) entries 0 [] (omega arith)

  module _ (new : List ℕ → Option ℕ) (name : List ℕ) (changes : Changes places new name None) where
    pub defined_less : defined_of new entries ≡ without (defined_of places entries) name
    defined_less = ended places new name changes entries 0 []

    pub indexed_less : IsIndexed new entries
    indexed_less other place leads = by (same_text name other) refl
      where
        by : (b : Bool) → same_text name other ≡ b → IsSomeAnd (slice_get entries place) (λ x. x.name.items ≡ other)
        by true s =
            let nothing : None ≡ Some place = sym changes.here ∙ ap new (same_text_then name other s) ∙ leads in
            cc
        by false s = indexed other place (sym (changes.others other (not_same _ _ s)) ∙ leads)

pub first_defined : (places : List ℕ → Option ℕ) (entries : List Entry) → entries ≡ [] → defined_of places entries ≡ []
unfolding defined_from
first_defined places entries none = ap (defined_of places) none

pub nowhere : (index : Index) → index.entries ≡ [] → (name : List ℕ) → place_of index name ≡ None
nowhere index none name = ap (lookup (is_at (λ key. slice_cmp nat_cmp name key.items))) none

pub same_places : (old new : Index) → new.entries ≡ old.entries → place_of new ≡ place_of old
same_places old new same = ap (λ entries name. lookup (is_at (λ key. slice_cmp nat_cmp name key.items)) entries) same

pub on_err : {T E : Type 0} (r : Result T E) (P : Type 0) → P → OnErr r P
on_err (Ok x) P p = tt
on_err (Err e) P p = p

-- ---- the body of a name

pub body_absent : (places : List ℕ → Option ℕ) (entries : List Entry) (macros : List Macro) (name : List ℕ) → defined_of places entries ≡ macros → places name ≡ None → option_map (λ macro. macro.body) (macro_of macros name) ≡ None
body_absent places entries macros name view absent =
    ap (λ ms. option_map (λ macro. macro.body) (macro_of ms name)) (sym view) ∙ ap (option_map (λ macro. macro.body)) (absent_then places entries name absent)

pub body_present : (places : List ℕ → Option ℕ) (entries : List Entry) (macros : List Macro) (name : List ℕ) (place : ℕ) (e : Entry) → defined_of places entries ≡ macros → IsIndexed places entries → places name ≡ Some place → e ≡ get_or entries place e → option_map (λ macro. macro.body) (macro_of macros name) ≡ Some e.body.items
body_present places entries macros name place e view indexed leads is =
    let at = entry_at places entries indexed name place leads in
    let there : slice_get entries place ≡ Some e = slice_get_read entries (length entries) place e refl (leads_below places entries indexed name place leads) is in
    let same : at.0 ≡ e = cc (at.1, there) in
    ap (λ ms. option_map (λ macro. macro.body) (macro_of ms name)) (sym view)
    ∙ ap (option_map (λ macro. macro.body)) (present_then places entries indexed name place at.0 leads at.1 at.2)
    ∙ ap (λ x. Some x.body.items) same

-- nothing is kept
pub store_empty : (s : Setting) (x : Expander) → length s.entries ≤ length x.seats.items → length s.entries ≤ length x.spots.items → x.kept.items ≡ [] → IsStore s x
store_empty s x seats spots none = record {
  seats = seats;
  spots = spots;
  kept = λ index kept there. absurd (nothing index kept (ap (λ ks. slice_get ks index) (sym none) ∙ there));
}
  where
    nothing : (index : ℕ) (kept : Kept) → slice_get [] index ≡ Some kept → ⊥
    nothing index kept h = cc

-- ---- a definition, as the code makes it

module _ (places : List ℕ → Option ℕ) (entries more : List Entry) (indexed : IsIndexed places entries) (e : Entry) (pushed : more ≡ entries ++ e ∷ []) where
  -- the index leads to the new entry
  module _ (new : List ℕ → Option ℕ) (key : List ℕ) (keyed : key ≡ e.name.items) (place : ℕ) (last : place ≡ length entries) (changes : Changes places new key (Some place)) where
    entry_changes : Changes places new e.name.items (Some (length entries))
    entry_changes = subst (λ n. Changes places new e.name.items (Some n)) last (subst (λ text. Changes places new text (Some place)) keyed changes)

    pub made_indexed : IsIndexed new more
    made_indexed = subst (IsIndexed new) (sym pushed) (indexed-push places new entries e indexed entry_changes)

    pub made_macro : macro_of (defined_of places entries) e.name.items ≡ None → defined_of new more ≡ macro_of_entry e ∷ defined_of places entries
    made_macro absent = ap (defined_of new) pushed ∙ defined_more places entries indexed new e entry_changes absent

  -- or it doesn't
  module _ (new : List ℕ → Option ℕ) (same : new ≡ places) where
    pub unmade_indexed : IsIndexed new more
    unmade_indexed = subst (λ p. IsIndexed p more) (sym same) (subst (IsIndexed places) (sym pushed) (indexed-garbage places entries e indexed))

    pub unmade_macro : defined_of new more ≡ defined_of places entries
    unmade_macro = ap (λ p. defined_of p more) same ∙ ap (defined_of places) pushed ∙ defined_same places entries indexed e
