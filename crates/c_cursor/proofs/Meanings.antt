-- The meaning of a name in scopes, and how it changes.
use Rattle.std.proofs.Common.{◌≡◌, ℕ, ◌+◌, ◌<◌, Bool, true, false, cond, List, [], ◌∷◌, length, refl, sym, ap, ◌∙◌, arith}
use Rattle.std.proofs.lemmas.Bool.{eqb-true, eq-eqb}
use Rattle.std.specs.Prelude.{eqb, ◌||◌, ◌&&◌}
use Rattle.c_parts.specs.declared.lexeme.Binding.{Binding}
use Rattle.c_parts.specs.Scopes.{Scope, declares_name, declares_typedef, is_typedef, with_names}
use Rattle.c_cursor.specs.declared.names.Meaning.{Meaning}
use Rattle.c_cursor.specs.Names.{unknown, meaning}

pick : (b : Bool) (m k : Meaning) → (cond b m k).is_typedef ≡ cond b m.is_typedef k.is_typedef
pick true m k = refl
pick false m k = refl

pub meaning_typedef : (x : ℕ) (scopes : List Scope) → (meaning x scopes).is_typedef ≡ is_typedef x scopes
meaning_typedef x [] = refl
meaning_typedef x (scope ∷ outer) =
    pick (declares_name x scope) (record { is_declared = true; depth = length outer; is_typedef = declares_typedef x scope }) (meaning x outer)
    ∙ ap (λ b. cond (declares_name x scope) (declares_typedef x scope) b) (meaning_typedef x outer)

eqb-same : (x : ℕ) → eqb x x ≡ true
eqb-same x = eq-eqb x x refl

undeclared : (x : ℕ) (scope : Scope) → declares_name x scope ≡ false → declares_typedef x scope ≡ false
undeclared x [] h = refl
undeclared x (b ∷ scope) h = neither (eqb x b.name) (declares_name x scope) b.is_typedef (declares_typedef x scope) h (λ e. undeclared x scope e)
  where
    neither : (a c d f : Bool) → a || c ≡ false → (c ≡ false → f ≡ false) → (a && d) || f ≡ false
    neither true c d f h k = absurd cc
    neither false c d f h k = k h

picked : (b : Bool) (m k : Meaning) (n : ℕ) → (m.is_declared ≡ true → m.depth < n) → (k.is_declared ≡ true → k.depth < n) → (cond b m k).is_declared ≡ true → (cond b m k).depth < n
picked true m k n f g h = f h
picked false m k n f g h = g h

-- a scope that declares a name has a number
pub depth_below : (x : ℕ) (scopes : List Scope) → (meaning x scopes).is_declared ≡ true → (meaning x scopes).depth < length scopes
depth_below x [] h = absurd cc
depth_below x (scope ∷ outer) h =
    picked (declares_name x scope) (record { is_declared = true; depth = length outer; is_typedef = declares_typedef x scope }) (meaning x outer) (length (scope ∷ outer))
    (λ e. omega arith) (λ e. let k : (meaning x outer).depth < length outer = depth_below x outer e in omega (arith, k)) h

-- whether a typedef of the innermost scope is the one that is meant
abbrev pub is_here : Meaning → ℕ → Bool
is_here m depth = m.is_declared && (eqb m.depth depth && m.is_typedef)

no-here : (m : Meaning) (n : ℕ) (a : Bool) → (m.is_declared ≡ true → m.depth < n) → m.is_declared ≡ a → is_here m n ≡ false
no-here m n true f e =
    let lt : m.depth < n = f e in
    ap (λ b. b && (eqb m.depth n && m.is_typedef)) e ∙ ap (λ b. b && m.is_typedef) (apart (eqb m.depth n) refl lt)
  where
    apart : (b : Bool) → eqb m.depth n ≡ b → m.depth < n → eqb m.depth n ≡ false
    apart true h l = absurd (let same : m.depth ≡ n = eqb-true m.depth n h in omega (arith, same, l))
    apart false h l = h
no-here m n false f e = ap (λ b. b && (eqb m.depth n && m.is_typedef)) e

flag-at : (x : ℕ) (td : Bool) (scope : Scope) (outer : List Scope) (b : Bool) → declares_name x scope ≡ b
    → (td || declares_typedef x scope) ≡ cond (is_here (cond b (record { is_declared = true; depth = length outer; is_typedef = declares_typedef x scope }) (meaning x outer)) (length outer)) true td
flag-at x td scope outer true e = either td (declares_typedef x scope) (eqb (length outer) (length outer)) (eqb-same (length outer))
  where
    either : (a d s : Bool) → s ≡ true → (a || d) ≡ cond (s && d) true a
    either true true s h = ap (λ s. cond (s && true) true true) (sym h)
    either true false s h = ap (λ s. cond (s && false) true true) (sym h)
    either false true s h = ap (λ s. cond (s && true) true false) (sym h)
    either false false s h = ap (λ s. cond (s && false) true false) (sym h)
flag-at x td scope outer false e =
    ap (λ d. td || d) (undeclared x scope e) ∙ or-none td
    ∙ ap (λ b. cond b true td) (sym (no-here (meaning x outer) (length outer) (meaning x outer).is_declared (depth_below x outer) refl))
  where
    or-none : (a : Bool) → a || false ≡ a
    or-none true = refl
    or-none false = refl

-- what a name means once it is declared in the innermost scope
pub meaning_declared : (b : Binding) (scopes : List Scope) (depth : ℕ) → depth + 1 ≡ length scopes
    → meaning b.name (with_names (b ∷ []) scopes) ≡ record { is_declared = true; depth = depth; is_typedef = cond (is_here (meaning b.name scopes) depth) true b.is_typedef }
meaning_declared b [] depth e = absurd (omega (arith, e))
meaning_declared b (scope ∷ outer) depth e =
    let same : depth ≡ length outer = omega (arith, e) in
    ap (λ c. cond (c || declares_name b.name scope) (record { is_declared = true; depth = length outer; is_typedef = (c && b.is_typedef) || declares_typedef b.name scope }) (meaning b.name outer)) (eqb-same b.name)
    ∙ ap (λ f. record { is_declared = true; depth = length outer; is_typedef = f }) (flag-at b.name b.is_typedef scope outer (declares_name b.name scope) refl)
    ∙ ap (λ n. record { is_declared = true; depth = n; is_typedef = cond (is_here (meaning b.name (scope ∷ outer)) n) true b.is_typedef }) (sym same)

pub here_typedef : (b : Binding) (scopes : List Scope) (depth : ℕ) (m : Meaning) → depth + 1 ≡ length scopes → m ≡ meaning b.name scopes → is_here m depth ≡ true
    → record { is_declared = true; depth = depth; is_typedef = true } ≡ meaning b.name (with_names (b ∷ []) scopes)
here_typedef b scopes depth m e f h =
    sym (meaning_declared b scopes depth e ∙ ap (λ c. record { is_declared = true; depth = depth; is_typedef = cond c true b.is_typedef }) (ap (λ m. is_here m depth) (sym f) ∙ h))

pub other_typedef : (b : Binding) (scopes : List Scope) (depth : ℕ) (m : Meaning) → depth + 1 ≡ length scopes → m ≡ meaning b.name scopes → is_here m depth ≡ false
    → record { is_declared = true; depth = depth; is_typedef = b.is_typedef } ≡ meaning b.name (with_names (b ∷ []) scopes)
other_typedef b scopes depth m e f h =
    sym (meaning_declared b scopes depth e ∙ ap (λ c. record { is_declared = true; depth = depth; is_typedef = cond c true b.is_typedef }) (ap (λ m. is_here m depth) (sym f) ∙ h))

other-names : (a c : Bool) (p q : Meaning) (d e : Bool) (n : ℕ) → a ≡ false → cond (a || c) (record { is_declared = true; depth = n; is_typedef = (a && d) || e }) q ≡ cond c (record { is_declared = true; depth = n; is_typedef = e }) q
other-names a c p q d e n h = ap (λ a. cond (a || c) (record { is_declared = true; depth = n; is_typedef = (a && d) || e }) q) h

-- and what other names do
pub meaning_others : (x : ℕ) (b : Binding) (scopes : List Scope) → eqb x b.name ≡ false → 0 < length scopes → meaning x (with_names (b ∷ []) scopes) ≡ meaning x scopes
meaning_others x b [] h l = absurd (omega (arith, l))
meaning_others x b (scope ∷ outer) h l = other-names (eqb x b.name) (declares_name x scope) unknown (meaning x outer) b.is_typedef (declares_typedef x scope) (length outer) h
