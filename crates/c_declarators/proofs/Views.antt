-- A declarator's derivations, at the constructors by which Rust sees it.
use Rattle.std.proofs.Common.{◌≡◌, List, ◌++◌, map, reverse, refl, sym, ap, ◌∙◌, append_assoc}
use Rattle.c_syntax.specs.declared.expr.Declarator.{Declarator, Declarator', out-Declarator}
use Rattle.c_syntax.specs.declared.expr.Core.TheVariants as core
use Rattle.c_syntax.specs.declared.expr.Core.TheBlock.{hidden-the_row-Declarator-0}
use Rattle.c_syntax.specs.declared.expr.Pointer.{Pointer}
use Rattle.c_syntax.specs.declared.expr.Suffix.{Suffix}
use Rattle.c_types.specs.declared.derivation.Derivation.{Derivation}
use denote.Hole.Carrier
use Rattle.c_declarators.specs.declared.known.Known.{Known}
use Rattle.c_declarators.specs.Declarators.{pointer_derivation, suffix_derivation, own_derivations, derivations_of, core_derivations}

pub whole_of : (known : Known) (d : Declarator) → derivations_of known d ≡ own_derivations known d ++ core_derivations known (out-Declarator d).core
unfolding out-Declarator Carrier.out
whole_of known (Declarator' span name pointers core z suffixes) = refl

pub parens_of : (known : Known) (inner : Declarator) → core_derivations known (core.Parens inner) ≡ derivations_of known inner
unfolding hidden-the_row-Declarator-0 Carrier.hidden
parens_of known inner = refl

-- a declarator's own derivations and then those in its parentheses are all of them
pub all_appended :
    (known : Known) (d inner at : Declarator) (old p s new : List Derivation) (ps : List Pointer) (ss : List Suffix) → p ≡ old ++ map pointer_derivation ps → ps ≡ (out-Declarator d).pointers → s ≡ p ++ reverse (map (suffix_derivation known) ss) → ss ≡ (out-Declarator d).suffixes → (out-Declarator d).core ≡ core.Parens inner → at ≡ inner → new ≡ s ++ derivations_of known at → new ≡ old ++ derivations_of known d
all_appended known d inner at old p s new ps ss p-is ps-are s-is ss-are core-is at-is new-is =
    let own : s ≡ old ++ own_derivations known d =
    s-is
    ∙ ap (λ x. x ++ reverse (map (suffix_derivation known) ss)) p-is
    ∙ append_assoc old (map pointer_derivation ps) (reverse (map (suffix_derivation known) ss))
    ∙ ap (λ xs. old ++ (map pointer_derivation xs ++ reverse (map (suffix_derivation known) ss))) ps-are
    ∙ ap (λ xs. old ++ (map pointer_derivation (out-Declarator d).pointers ++ reverse (map (suffix_derivation known) xs))) ss-are in
    let rest : derivations_of known at ≡ core_derivations known (out-Declarator d).core = ap (derivations_of known) at-is ∙ sym (parens_of known inner) ∙ sym (ap (core_derivations known) core-is) in
    new-is
    ∙ ap (λ x. x ++ derivations_of known at) own
    ∙ append_assoc old (own_derivations known d) (derivations_of known at)
    ∙ ap (λ x. old ++ (own_derivations known d ++ x)) rest
    ∙ ap (λ x. old ++ x) (sym (whole_of known d))
