-- The scope of a function's body is what stands nearest to its name.
use Rattle.std.proofs.Common.{◌≡◌, [], ◌∷◌, refl, sym, ap, ◌∙◌, arith}
use Rattle.std.specs.Prelude.{Some, None, unwrap_or}
use Rattle.c_syntax.specs.declared.expr.SuffixKind.{Function'}
use Rattle.c_syntax.specs.declared.expr.Declarator.{Declarator, Declarator', end_of-Suffix, more_of-Suffix}
use Rattle.c_syntax.specs.declared.expr.Core.{Core, Nothing, Parens', more_of-Declarator, end_of-Declarator}
use Rattle.c_syntax.specs.declared.expr.Core.TheVariants as core
use Rattle.c_syntax.specs.declared.expr.Core.TheBlock.{hidden-the_row-Declarator-0, shown-the_row-Suffix-10}
use Rattle.c_syntax.specs.declared.expr.Core.TheViews.{out-Declarator}
use denote.Hole.Carrier
use Rattle.c_parts.specs.Scopes.{Scope}
use Rattle.c_syntax.specs.Bodies.{body_scope}
use Rattle.c_file_parser.specs.Nearest.{nearest, nearest_core, or_else, own, own_rows}

-- the same with another core
abbrev with_core : Declarator → Core → Declarator
with_core (Declarator' span name pointers core k suffixes) other = Declarator' span name pointers other k suffixes

-- round nothing
alone : (d : Declarator) → body_scope (with_core d Nothing) ≡ unwrap_or (own_rows d) []
alone (Declarator' span name [] core [] end_of-Suffix) = refl
alone (Declarator' span name (p ∷ pointers) core [] end_of-Suffix) = refl
alone (Declarator' span name pointers core (u ∷ k) (more_of-Suffix s (Function' l parameters scope) rest)) = refl
alone (Declarator' span name pointers core (u ∷ k) (more_of-Suffix s kind rest)) = refl

-- round a declarator in parentheses
round : (d outer : Declarator) (p : _) → body_scope (with_core outer (Parens' p (more_of-Declarator d end_of-Declarator))) ≡ unwrap_or (or_else (nearest d) (own_rows outer)) []
round (Declarator' s n [] (Parens' q (more_of-Declarator d end_of-Declarator)) [] end_of-Suffix) (Declarator' span name pointers core k suffixes) p =
    let outer = round d (Declarator' span name pointers core k suffixes) p in
    grind arith
round (Declarator' s n (x ∷ ps) (Parens' q (more_of-Declarator d end_of-Declarator)) [] end_of-Suffix) (Declarator' span name pointers core k suffixes) p =
    let own = round d (Declarator' s n (x ∷ ps) (Parens' q (more_of-Declarator d end_of-Declarator)) [] end_of-Suffix) q in
    grind arith
round (Declarator' s n ps (Parens' q (more_of-Declarator d end_of-Declarator)) (u ∷ l) (more_of-Suffix at (Function' i parameters scope) rest)) (Declarator' span name pointers core k suffixes) p =
    let own = round d (Declarator' s n ps (Parens' q (more_of-Declarator d end_of-Declarator)) (u ∷ l) (more_of-Suffix at (Function' i parameters scope) rest)) q in
    grind arith
round (Declarator' s n ps (Parens' q (more_of-Declarator d end_of-Declarator)) (u ∷ l) (more_of-Suffix at kind rest)) (Declarator' span name pointers core k suffixes) p =
    let own = round d (Declarator' s n ps (Parens' q (more_of-Declarator d end_of-Declarator)) (u ∷ l) (more_of-Suffix at kind rest)) q in
    grind arith
round (Declarator' s n [] core [] end_of-Suffix) (Declarator' span name pointers other k suffixes) p = alone (Declarator' span name pointers other k suffixes)
round (Declarator' s n (x ∷ ps) core [] end_of-Suffix) (Declarator' span name pointers other k suffixes) p = refl
round (Declarator' s n ps core (u ∷ l) (more_of-Suffix at (Function' i parameters scope) rest)) (Declarator' span name pointers other k suffixes) p = refl
round (Declarator' s n ps core (u ∷ l) (more_of-Suffix at kind rest)) (Declarator' span name pointers other k suffixes) p = refl

pub body_scope_nearest : (d : Declarator) → body_scope d ≡ unwrap_or (nearest d) []
body_scope_nearest (Declarator' span name pointers (Parens' p (more_of-Declarator d end_of-Declarator)) k suffixes) = round d (Declarator' span name pointers Nothing k suffixes) p
body_scope_nearest (Declarator' span name pointers core k suffixes) = alone (Declarator' span name pointers core k suffixes)

-- ---- declarators as Rust sees them

own-rows : (d : Declarator) → own_rows d ≡ own d
unfolding out-Declarator Carrier.out shown-the_row-Suffix-10 Carrier.shown
own-rows (Declarator' span name pointers core [] end_of-Suffix) = refl
own-rows (Declarator' span name pointers core (u ∷ k) (more_of-Suffix s kind rest)) = refl

pub nearest_whole : (d : Declarator) → nearest d ≡ or_else (nearest_core (out-Declarator d).core) (own d)
unfolding out-Declarator Carrier.out
nearest_whole (Declarator' span name pointers core k suffixes) = ap (λ o. or_else (nearest_core core) o) (own-rows (Declarator' span name pointers core k suffixes))

pub nearest_parens : (inner : Declarator) → nearest_core (core.Parens inner) ≡ nearest inner
unfolding hidden-the_row-Declarator-0 Carrier.hidden
nearest_parens inner = refl

-- what stands in the parentheses is nearer
pub parens_some : (d inner at : Declarator) (scope : Scope) → (out-Declarator d).core ≡ core.Parens inner → at ≡ inner → nearest at ≡ Some scope → nearest d ≡ Some scope
parens_some d inner at scope is at-is some =
    nearest_whole d ∙ ap (λ c. or_else (nearest_core c) (own d)) is ∙ ap (λ o. or_else o (own d)) (nearest_parens inner ∙ sym (ap nearest at-is) ∙ some)

pub parens_none : (d inner at : Declarator) → (out-Declarator d).core ≡ core.Parens inner → at ≡ inner → nearest at ≡ None → nearest d ≡ own d
parens_none d inner at is at-is none =
    nearest_whole d ∙ ap (λ c. or_else (nearest_core c) (own d)) is ∙ ap (λ o. or_else o (own d)) (nearest_parens inner ∙ sym (ap nearest at-is) ∙ none)
