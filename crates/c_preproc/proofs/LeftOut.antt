-- Macros but for those that are hidden: what an entry's body is where some entries are left out.
use Rattle.std.proofs.Common.{◌≡◌, ◌≢◌, ℕ, ◌<◌, length, ◌||◌, ◌==◌, Bool, true, false, cond, not, List, [], ◌∷◌, Option, Some, None, IsSomeAnd, refl, sym, ap, ◌∙◌, arith, eq-eqb}
use Rattle.std.specs.List.{flat_map, slice_get}
use Rattle.std.specs.Option.{option_map, option_map_or}
use Rattle.std.proofs.lemmas.Bool.{false≢true}
use Rattle.std.proofs.lemmas.Option.{slice_get_within}
use Rattle.std.proofs.lemmas.Bool.Decides.{nat_tests}
use Rattle.std.proofs.lemmas.Slice.Eq.{compares_Decides}
use Rattle.std.proofs.Common.{rules}
use Rattle.c_lexer.specs.declared.token.Token.{Token}
use Rattle.c_preproc.specs.declared.macros.Entry.{Entry}
use Rattle.c_preproc.specs.Texts.{text_of, same_text, is_name}
use Rattle.c_preproc.specs.Macros.{Macro, macro_of, without, body_for, replacement_of}
use Rattle.c_preproc.specs.Code.Table.{IsIndexed, body_at, name_at, name_of}
use Rattle.c_preproc.specs.Code.Expander.{Setting, LeavesOut, but_for, entry_of, is_one_of}
use Rattle.c_preproc.proofs.Depth.{names_are_replaced}

pub same_text_then : (a b : List ℕ) → same_text a b ≡ true → a ≡ b
same_text_then a b h = (compares_Decides same_text (search rules) a b).0 h

pub then_same_text : (a b : List ℕ) → a ≡ b → same_text a b ≡ true
then_same_text a b h = (compares_Decides same_text (search rules) a b).1 h

pub not_same : (a b : List ℕ) → same_text a b ≡ false → a ≢ b
not_same a b h e = false≢true (sym h ∙ then_same_text a b e)

pub same_flip : (a b : List ℕ) → same_text a b ≡ same_text b a
same_flip a b = by (same_text a b) refl (same_text b a) refl
  where
    by : (x : Bool) → same_text a b ≡ x → (y : Bool) → same_text b a ≡ y → x ≡ y
    by true e true f = refl
    by false e false f = refl
    by true e false f = sym (then_same_text b a (sym (same_text_then a b e))) ∙ f
    by false e true f = sym e ∙ then_same_text a b (sym (same_text_then b a f))

-- ---- a name that is left out

pub macro_of-without : (macros : List Macro) (name other : List ℕ) → macro_of (without macros name) other ≡ cond (same_text name other) None (macro_of macros other)
macro_of-without [] name other = by (same_text name other)
  where
    by : (b : Bool) → macro_of (without [] name) other ≡ cond b None (macro_of [] other)
    by true = refl
    by false = refl
macro_of-without (m ∷ macros) name other = by (same_text m.name name) refl (macro_of-without macros name other) (same_text m.name other) refl (same_text name other) refl
  where
    by : (a : Bool) → same_text m.name name ≡ a → macro_of (without macros name) other ≡ cond (same_text name other) None (macro_of macros other)
        → (b : Bool) → same_text m.name other ≡ b → (d : Bool) → same_text name other ≡ d
        → macro_of (cond (not a) (m ∷ without macros name) (without macros name)) other ≡ cond d None (cond b (Some m) (macro_of macros other))
    by true e deep b f true g = deep ∙ ap (λ x. cond x None (macro_of macros other)) g
    by true e deep true f false g = absurd (false≢true (sym g ∙ then_same_text name other (sym (same_text_then m.name name e) ∙ same_text_then m.name other f)))
    by true e deep false f false g = deep ∙ ap (λ x. cond x None (macro_of macros other)) g
    by false e deep true f true g = absurd (false≢true (sym e ∙ then_same_text m.name name (same_text_then m.name other f ∙ sym (same_text_then name other g))))
    by false e deep true f false g = ap (λ x. cond x (Some m) (macro_of (without macros name) other)) f
    by false e deep false f d g = ap (λ x. cond x (Some m) (macro_of (without macros name) other)) f ∙ deep ∙ ap (λ x. cond x None (macro_of macros other)) g

-- the entry that a name leads to has the name
pub named_there : (places : List ℕ → Option ℕ) (entries : List Entry) → IsIndexed places entries → (name : List ℕ) (place : ℕ) → places name ≡ Some place → name_at entries place ≡ name
named_there places entries indexed name place leads = by (slice_get entries place) refl (indexed name place leads)
  where
    by : (o : Option Entry) → slice_get entries place ≡ o → IsSomeAnd o (λ entry. entry.name.items ≡ name) → name_of o ≡ name
    by None e h = absurd h
    by (Some entry) e h = h

module _ (s : Setting) (indexed : IsIndexed s.places s.entries) where
  -- one name more is left out
  pub leaves_out_more : (hidden : List ℕ) (macros : List Macro) (name : List ℕ) (entry : ℕ) → s.places name ≡ Some entry → LeavesOut s hidden macros → LeavesOut s (entry ∷ hidden) (without macros name)
  leaves_out_more hidden macros name entry leads out = record {
    same = λ other. ap (option_map (λ macro. macro.body)) (macro_of-without macros name other) ∙ by_name other (same_text name other) refl;
  }
    where
      by_place : (other : List ℕ) → same_text name other ≡ false → (o : Option ℕ) → s.places other ≡ o → option_map (body_at s.entries) (but_for hidden o) ≡ option_map (body_at s.entries) (but_for (entry ∷ hidden) o)
      by_place other apart None e = refl
      by_place other apart (Some place) e = by_entry (entry == place) refl
        where
          by_entry : (b : Bool) → (entry == place) ≡ b → option_map (body_at s.entries) (but_for hidden (Some place)) ≡ option_map (body_at s.entries) (cond (b || is_one_of hidden place) None (Some place))
          by_entry false f = refl
          by_entry true f =
              let same : entry ≡ place = grind (arith, nat_tests) in
              absurd (not_same name other apart (sym (named_there s.places s.entries indexed name entry leads) ∙ ap (name_at s.entries) same ∙ named_there s.places s.entries indexed other place e))

      by_name : (other : List ℕ) (b : Bool) → same_text name other ≡ b → option_map (λ macro. macro.body) (cond b None (macro_of macros other)) ≡ option_map (body_at s.entries) (but_for (entry ∷ hidden) (s.places other))
      by_name other true e =
          ap (λ o. option_map (body_at s.entries) o)
          (sym (ap (but_for (entry ∷ hidden)) (ap s.places (sym (same_text_then name other e)) ∙ leads) ∙ ap (λ b. cond (b || is_one_of hidden entry) None (Some entry)) (eq-eqb entry entry refl)))
      by_name other false e = out.same other ∙ by_place other e (s.places other) refl

-- the body of a token's macro
pub body_there : (s : Setting) (hidden : List ℕ) (macros : List Macro) → LeavesOut s hidden macros → (t : Token) → body_for s.bytes macros t ≡ option_map (body_at s.entries) (but_for hidden (entry_of s t))
body_there s hidden macros out t = by (is_name t)
  where
    by : (b : Bool) → cond b (option_map (λ macro. macro.body) (macro_of macros (text_of s.bytes t))) None ≡ option_map (body_at s.entries) (but_for hidden (cond b (s.places (text_of s.bytes t)) None))
    by true = out.same (text_of s.bytes t)
    by false = refl

-- a token that is no name, or a hidden one, stays
pub stays : (s : Setting) (hidden : List ℕ) (macros : List Macro) → LeavesOut s hidden macros → (t : Token) → but_for hidden (entry_of s t) ≡ None → replacement_of s.bytes macros t ≡ t ∷ []
stays s hidden macros out t none =
    names_are_replaced s.bytes macros t
    ∙ ap (λ o. option_map_or (flat_map (replacement_of s.bytes (without macros (text_of s.bytes t)))) o (t ∷ [])) (body_there s hidden macros out t ∙ ap (option_map (body_at s.entries)) none)

-- any other name is replaced
pub goes : (s : Setting) (hidden : List ℕ) (macros : List Macro) → LeavesOut s hidden macros → (t : Token) (entry : ℕ) → but_for hidden (entry_of s t) ≡ Some entry → replacement_of s.bytes macros t ≡ flat_map (replacement_of s.bytes (without macros (text_of s.bytes t))) (body_at s.entries entry)
goes s hidden macros out t entry some =
    names_are_replaced s.bytes macros t
    ∙ ap (λ o. option_map_or (flat_map (replacement_of s.bytes (without macros (text_of s.bytes t)))) o (t ∷ [])) (body_there s hidden macros out t ∙ ap (option_map (body_at s.entries)) some)

pub but_for_open : (hidden : List ℕ) (entry : ℕ) → is_one_of hidden entry ≡ false → but_for hidden (Some entry) ≡ Some entry
but_for_open hidden entry h = ap (λ b. cond b None (Some entry)) h

-- the place that a token's text leads to
pub entry_leads : (s : Setting) (t : Token) (entry : ℕ) → entry_of s t ≡ Some entry → s.places (text_of s.bytes t) ≡ Some entry
entry_leads s t entry h = by (is_name t) h
  where
    by : (b : Bool) → cond b (s.places (text_of s.bytes t)) None ≡ Some entry → s.places (text_of s.bytes t) ≡ Some entry
    by true g = g
    by false g = cc

pub leads_below : (places : List ℕ → Option ℕ) (entries : List Entry) → IsIndexed places entries → (name : List ℕ) (place : ℕ) → places name ≡ Some place → place < length entries
leads_below places entries indexed name place leads = by (slice_get entries place) refl (indexed name place leads)
  where
    by : (o : Option Entry) → slice_get entries place ≡ o → IsSomeAnd o (λ entry. entry.name.items ≡ name) → place < length entries
    by None e h = absurd h
    by (Some entry) e h = slice_get_within entries place entry e

-- the entry that a token names is there
pub entry_below : (s : Setting) → IsIndexed s.places s.entries → (t : Token) (entry : ℕ) → Some entry ≡ entry_of s t → entry < length s.entries
entry_below s indexed t entry names = leads_below s.places s.entries indexed (text_of s.bytes t) entry (entry_leads s t entry (sym names))
