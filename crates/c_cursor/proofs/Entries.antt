-- One more entry, and one less.
use Rattle.std.proofs.Common.{◌≡◌, ℕ, zero, suc, ◌+◌, ◌-◌, ◌≤◌, ◌<◌, Bool, true, false, cond, List, [], ◌∷◌, ◌++◌, length, get_or, refl, sym, ap, ◌∙◌, subst, arith}
use Rattle.std.proofs.lemmas.Option.{unwrap_or-slice_get}
use Rattle.std.proofs.lemmas.List.{get_or-set_same, get_or-set_other}
use Rattle.std.proofs.lemmas.Bool.{eqb-true, eq-eqb}
use Rattle.std.specs.Prelude.{◌||◌, ◌&&◌, eqb, slice_set, replicate}
use Rattle.c_parts.specs.declared.lexeme.Binding.{Binding}
use Rattle.c_parts.specs.Scopes.{Scope, declares_name, declares_typedef, with_names, outer_scopes, innermost}
use Rattle.c_cursor.specs.declared.names.Meaning.{Meaning}
use Rattle.c_cursor.specs.declared.names.Entry.{Entry}
use Rattle.c_cursor.specs.declared.names.Entry.TheVariants.{Opens, Binds}
use Rattle.c_cursor.proofs.Meanings.{meaning_others}
use Rattle.c_cursor.specs.Names.{after_entry, scopes_from, scopes_of, unknown, meaning, meaning_at, TakesBack, TakesBackFrom, IsNames}

pub scopes-append : (scopes : List Scope) (entries : List Entry) (entry : Entry) → scopes_from scopes (entries ++ entry ∷ []) ≡ after_entry (scopes_from scopes entries) entry
scopes-append scopes [] entry = refl
scopes-append scopes (e ∷ entries) entry = scopes-append (after_entry scopes e) entries entry

pub takes-append : (scopes : List Scope) (entries : List Entry) (entry : Entry) → TakesBackFrom scopes entries → TakesBack (scopes_from scopes entries) entry → TakesBackFrom scopes (entries ++ entry ∷ [])
takes-append scopes [] entry all h = (h, tt)
takes-append scopes (e ∷ entries) entry all h = (all.0, takes-append (after_entry scopes e) entries entry all.1 h)

pub takes-last : (scopes : List Scope) (entries : List Entry) (entry : Entry) → TakesBackFrom scopes (entries ++ entry ∷ []) → TakesBackFrom scopes entries × TakesBack (scopes_from scopes entries) entry
takes-last scopes [] entry all = (tt, all.0)
takes-last scopes (e ∷ entries) entry all = let w = takes-last (after_entry scopes e) entries entry all.1 in ((all.0, w.0), w.1)

entry-longer : (scopes : List Scope) (entry : Entry) → length (after_entry scopes entry) ≤ suc (length scopes)
entry-longer scopes Opens = omega arith
entry-longer [] (Binds b w) = omega arith
entry-longer (s ∷ scopes) (Binds b w) = omega arith

pub scopes-length : (scopes : List Scope) (entries : List Entry) → length (scopes_from scopes entries) ≤ length scopes + length entries
scopes-length scopes [] = omega arith
scopes-length scopes (e ∷ entries) =
    let k : length (scopes_from (after_entry scopes e) entries) ≤ length (after_entry scopes e) + length entries = scopes-length (after_entry scopes e) entries in
    let l : length (after_entry scopes e) ≤ suc (length scopes) = entry-longer scopes e in
    omega (arith, k, l)

-- there is room for one more scope
pub few : (table : List Meaning) (entries : List Entry) (depth : ℕ) → IsNames table entries depth → depth ≤ length entries
few table entries depth h =
    let k : length (scopes_of entries) ≤ 1 + length entries = scopes-length ([] ∷ []) entries in
    let e : depth + 1 ≡ length (scopes_of entries) = h.counted in
    omega (arith, k, e)

-- a scope is entered
pub entered : (table : List Meaning) (entries : List Entry) (depth : ℕ) → IsNames table entries depth → IsNames table (entries ++ Opens ∷ []) (depth + 1)
entered table entries depth h = record {
  known = λ x. h.known x ∙ sym (ap (λ s. meaning x s) (scopes-append ([] ∷ []) entries Opens));
  undo = takes-append ([] ∷ []) entries Opens h.undo tt;
  counted =
      let e : depth + 1 ≡ length (scopes_of entries) = h.counted in
      let k : length (scopes_of (entries ++ Opens ∷ [])) ≡ suc (length (scopes_of entries)) = ap length (scopes-append ([] ∷ []) entries Opens) in
      omega (arith, e, k);
}

pub scopes-entered : (entries : List Entry) → scopes_of (entries ++ Opens ∷ []) ≡ [] ∷ scopes_of entries
scopes-entered entries = scopes-append ([] ∷ []) entries Opens

pub scopes-declared : (entries : List Entry) (b : Binding) (was : Meaning) → scopes_of (entries ++ Binds b was ∷ []) ≡ with_names (b ∷ []) (scopes_of entries)
scopes-declared entries b was = scopes-append ([] ∷ []) entries (Binds b was)

-- ---- the table

at-or : (table : List Meaning) (x : ℕ) → meaning_at table x ≡ get_or table x unknown
at-or table x = unwrap_or-slice_get table x unknown

or-filled : (table : List Meaning) (k x : ℕ) → get_or (table ++ replicate k unknown) x unknown ≡ get_or table x unknown
or-filled [] zero x = refl
or-filled [] (suc k) zero = refl
or-filled [] (suc k) (suc x) = or-filled [] k x
or-filled (m ∷ table) k zero = refl
or-filled (m ∷ table) k (suc x) = or-filled table k x

-- filled up with names that nothing declares
pub filled : (table : List Meaning) (k x : ℕ) → meaning_at (table ++ replicate k unknown) x ≡ meaning_at table x
filled table k x = at-or (table ++ replicate k unknown) x ∙ or-filled table k x ∙ sym (at-or table x)

with-length : (b : Binding) (scopes : List Scope) (n : ℕ) → n + 1 ≡ length scopes → n + 1 ≡ length (with_names (b ∷ []) scopes)
with-length b [] n h = absurd (omega (arith, h))
with-length b (scope ∷ outer) n h = h

set-at : (table : List Meaning) (name x : ℕ) (m : Meaning) → name < length table → eqb x name ≡ true → meaning_at (slice_set table name m) x ≡ m
set-at table name x m lt e =
    ap (λ x. meaning_at (slice_set table name m) x) (eqb-true x name e) ∙ at-or (slice_set table name m) name ∙ get_or-set_same table name m unknown lt

set-other : (table : List Meaning) (name x : ℕ) (m : Meaning) → eqb x name ≡ false → meaning_at (slice_set table name m) x ≡ meaning_at table x
set-other table name x m e =
    at-or (slice_set table name m) x ∙ get_or-set_other table name x m unknown (λ same. let f : false ≡ true = sym e ∙ eq-eqb x name same in cc) ∙ sym (at-or table x)

-- a name is declared
module _ (table grown : List Meaning) (entries : List Entry) (depth : ℕ) (b : Binding) (was m : Meaning) (h : IsNames table entries depth)
    (same : (x : ℕ) → meaning_at grown x ≡ meaning_at table x) (lt : b.name < length grown)
    (before : was ≡ meaning b.name (scopes_of entries)) (behind : m ≡ meaning b.name (with_names (b ∷ []) (scopes_of entries))) where
  known-at : (x : ℕ) (c : Bool) → eqb x b.name ≡ c → meaning_at (slice_set grown b.name m) x ≡ meaning x (with_names (b ∷ []) (scopes_of entries))
  known-at x true e = set-at grown b.name x m lt e ∙ behind ∙ ap (λ y. meaning y (with_names (b ∷ []) (scopes_of entries))) (sym (eqb-true x b.name e))
  known-at x false e = set-other grown b.name x m e ∙ same x ∙ h.known x ∙ sym (meaning_others x b (scopes_of entries) e (let k : depth + 1 ≡ length (scopes_of entries) = h.counted in omega (arith, k)))

  pub declared : IsNames (slice_set grown b.name m) (entries ++ Binds b was ∷ []) depth
  declared = record {
    known = λ x. known-at x (eqb x b.name) refl ∙ ap (λ s. meaning x s) (sym (scopes-declared entries b was));
    undo = takes-append ([] ∷ []) entries (Binds b was) h.undo before;
    counted = with-length b (scopes_of entries) depth h.counted ∙ ap length (sym (scopes-declared entries b was));
  }

-- ---- one less

last-entry : (entries older : List Entry) (entry : Entry) → entries ≡ older ++ entry ∷ [] → scopes_of entries ≡ after_entry (scopes_of older) entry
last-entry entries older entry e = ap scopes_of e ∙ scopes-append ([] ∷ []) older entry

-- a scope is left
pub unentered : (table : List Meaning) (entries older : List Entry) (depth : ℕ) → IsNames table entries depth → entries ≡ older ++ Opens ∷ [] → 0 < length (scopes_of older) → IsNames table older (depth - 1)
unentered table entries older depth h e some = record {
  known = λ x. h.known x ∙ ap (λ s. meaning x s) (last-entry entries older Opens e);
  undo = (takes-last ([] ∷ []) older Opens (subst (λ l. TakesBackFrom ([] ∷ []) l) e h.undo)).0;
  counted =
      let k : depth + 1 ≡ length (scopes_of entries) = h.counted in
      let l : length (scopes_of entries) ≡ suc (length (scopes_of older)) = ap length (last-entry entries older Opens e) in
      omega (arith, k, l, some);
}

short-with : (b : Binding) (scopes : List Scope) (n : ℕ) → n + 1 ≡ length (with_names (b ∷ []) scopes) → 0 < length scopes → n + 1 ≡ length scopes
short-with b [] n h l = absurd (omega (arith, l))
short-with b (scope ∷ outer) n h l = h

declared-then : (b : Binding) (scopes : List Scope) → (meaning b.name (with_names (b ∷ []) scopes)).is_declared ≡ true
declared-then b [] = ap (λ c. (cond (c || false) (record { is_declared = true; depth = 0; is_typedef = (c && b.is_typedef) || false }) unknown).is_declared) (eq-eqb b.name b.name refl)
declared-then b (scope ∷ outer) =
    ap (λ c. (cond (c || declares_name b.name scope) (record { is_declared = true; depth = length outer; is_typedef = (c && b.is_typedef) || declares_typedef b.name scope }) (meaning b.name outer)).is_declared)
    (eq-eqb b.name b.name refl)

long-at : (table : List Meaning) (x : ℕ) → (meaning_at table x).is_declared ≡ true → x < length table
long-at [] x h = absurd (let f : false ≡ true = ap (λ m. m.is_declared) (sym (at-or [] x)) ∙ h in cc)
long-at (m ∷ table) zero h = omega arith
long-at (m ∷ table) (suc x) h =
    let k : x < length table = long-at table x (ap (λ m. m.is_declared) (at-or table x ∙ sym (at-or (m ∷ table) (suc x))) ∙ h) in omega (arith, k)

-- a declaration is taken back
module _ (table : List Meaning) (entries older : List Entry) (depth : ℕ) (b : Binding) (was : Meaning) (h : IsNames table entries depth) (e : entries ≡ older ++ Binds b was ∷ []) where
  pub reached : b.name < length table
  reached = long-at table b.name (ap (λ m. m.is_declared) (h.known b.name ∙ ap (λ s. meaning b.name s) (last-entry entries older (Binds b was) e)) ∙ declared-then b (scopes_of older))

  back-at : 0 < length (scopes_of older) → (x : ℕ) (c : Bool) → eqb x b.name ≡ c → was ≡ meaning b.name (scopes_of older) → meaning_at (slice_set table b.name was) x ≡ meaning x (scopes_of older)
  back-at some x true same w = set-at table b.name x was reached same ∙ w ∙ ap (λ y. meaning y (scopes_of older)) (sym (eqb-true x b.name same))
  back-at some x false same w =
      set-other table b.name x was same ∙ h.known x ∙ ap (λ s. meaning x s) (last-entry entries older (Binds b was) e) ∙ meaning_others x b (scopes_of older) same some

  pub undeclared : 0 < length (scopes_of older) → IsNames (slice_set table b.name was) older depth
  undeclared some =
      let w = takes-last ([] ∷ []) older (Binds b was) (subst (λ l. TakesBackFrom ([] ∷ []) l) e h.undo) in
      record {
        known = λ x. back-at some x (eqb x b.name) refl w.1;
        undo = w.0;
        counted = short-with b (scopes_of older) depth (h.counted ∙ ap length (last-entry entries older (Binds b was) e)) some;
      }

-- where there is a scope round the innermost, there was one before the last entry
pub some-older : (entries older : List Entry) (entry : Entry) → entries ≡ older ++ entry ∷ [] → 0 < length (outer_scopes (scopes_of entries)) → 0 < length (scopes_of older)
some-older entries older entry e l = at (scopes_of older) entry (subst (λ s. 0 < length (outer_scopes s)) (last-entry entries older entry e) l)
  where
    at : (scopes : List Scope) (entry : Entry) → 0 < length (outer_scopes (after_entry scopes entry)) → 0 < length scopes
    at [] Opens h = absurd (omega (arith, h))
    at [] (Binds b w) h = absurd (omega (arith, h))
    at (s ∷ scopes) entry h = omega arith

pub last-scopes : (entries older : List Entry) (entry : Entry) → entries ≡ older ++ entry ∷ [] → scopes_of entries ≡ after_entry (scopes_of older) entry
last-scopes = last-entry

-- ---- scopes

pub with-outer : (b : Binding) (scopes whole : List Scope) → whole ≡ with_names (b ∷ []) scopes → 0 < length (outer_scopes whole) → outer_scopes scopes ≡ outer_scopes whole
with-outer b [] whole e l = absurd (let k : 0 < length (outer_scopes (with_names (b ∷ []) [])) = subst (λ s. 0 < length (outer_scopes s)) e l in omega (arith, k))
with-outer b (scope ∷ outer) whole e l = sym (ap outer_scopes e)

pub with-innermost : (b : Binding) (scopes whole : List Scope) → whole ≡ with_names (b ∷ []) scopes → 0 < length (outer_scopes whole) → innermost whole ≡ b ∷ innermost scopes
with-innermost b [] whole e l = ap innermost e
with-innermost b (scope ∷ outer) whole e l = ap innermost e
