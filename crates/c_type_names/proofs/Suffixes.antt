-- Suffixes behind those that are there, as the code goes over them, are those of the definition, which has the rest first.
use Rattle.std.proofs.Common.{◌≡◌, List, [], ◌∷◌, ◌++◌, refl, ap, sym, ◌∙◌, append_assoc, append-nil}
use Rattle.std.specs.Prelude.{Option, Some, None}
use Rattle.std.specs.Option.{option_or}
use Rattle.c_syntax.specs.declared.expr.Declarator.{Row_of-Suffix, end_of-Suffix, more_of-Suffix, items-the_row-Suffix}
use Rattle.c_syntax.specs.declared.expr.SuffixKind.{SuffixKind, Array', Function', SuffixKind-Array-0-None' as NoExpr, SuffixKind-Array-0-Some' as SomeExpr}
use Rattle.c_expr_rules.specs.Outcomes.{State, Checked, Fine, Breaks, Broke, next}
use Rattle.c_expr_rules.specs.Contexts.{constant_in, without_fault}
use Rattle.c_expr_rules.specs.declared.typed.Typed.{Typed}
use Rattle.c_syntax.specs.Values.{expr_of}
use Rattle.c_types.specs.declared.derivation.Derivation.{Derivation}
use Rattle.c_scope.specs.Scopes.{innermost_scope}
use Rattle.c_file_rules.specs.Naming.{in_scope, out_of_scope}
use Rattle.c_file_rules.specs.declared.parts.Listed.{Listed}
use Rattle.c_file_rules.specs.Constructs.{Here}
use Rattle.c_file_rules.specs.Declarators.{plain, array_formed, size_derivation, function_formed}
use Rattle.c_file_rules.specs.declared.parts.Formed.{Formed}
use Rattle.c_type_parts.specs.Lists.{suffix_list_on, suffix_made, suffix_by_parameters}
use Rattle.c_file_rules.specs.Suffixed.{suffix_on}
use Rattle.c_file_rules.specs.Specifiers.{suffix_formed, suffixes_formed, parameters_found}
use Rattle.c_file_rules.specs.declared.parts.Suffixed.{Suffixed}

abbrev array_of : Derivation → Suffixed
array_of d = record { derivation = d; prototype = None }

-- one suffix alone
abbrev as_formed : Suffixed → Formed
as_formed x = record { derivations = x.derivation ∷ []; prototype = x.prototype }

size_made :
    (c : Checked Typed) →
    next c (λ s t. Fine s (array_formed (size_derivation t (constant_in t.known))))
    ≡ next (next (next c (λ s t. Fine s (size_derivation t (constant_in t.known)))) (λ s d. Fine s (array_of d))) (λ s x. Fine s (as_formed x))
size_made (Fine s t) = refl
size_made (Breaks b s known) = refl
size_made (Broke b) = refl

parameters_made :
    (c : Checked (List Listed)) →
    next c (λ s listed. let made = function_formed (out_of_scope s) (innermost_scope s.above.names) listed in Fine made.0 made.1)
    ≡ next (next c (λ s listed. suffix_by_parameters (out_of_scope s) (innermost_scope s.above.names) listed)) (λ s x. Fine s (as_formed x))
parameters_made (Fine s listed) = refl
parameters_made (Breaks b s known) = refl
parameters_made (Broke b) = refl

one_suffix : (here : Here) (s : State) (k : SuffixKind)
    → suffix_formed here s k ≡ next (suffix_made here s k) (λ s x. Fine s (as_formed x))
one_suffix here s (Array' NoExpr) = refl
one_suffix here s (Array' (SomeExpr s1 k1)) = size_made (without_fault here.around s (expr_of (s1, k1)))
one_suffix here s (Function' z parameters scope) = parameters_made (parameters_found here (in_scope s) [] parameters)

-- the two lists one behind the other
abbrev pub behind : Formed → Formed → Formed
behind f own =
    record { derivations = f.derivations ++ own.derivations; prototype = option_or f.prototype own.prototype }

or_none : {A : Type 0} (o : Option A) → option_or o None ≡ o
or_none None = refl
or_none (Some x) = refl

or_or : {A : Type 0} (o p q : Option A) → option_or (option_or o p) q ≡ option_or o (option_or p q)
or_or None p q = refl
or_or (Some x) p q = refl

nothing_behind : (f : Formed) → f ≡ behind f plain
nothing_behind f =
    ap (λ ds. record { derivations = ds; prototype = f.prototype }) (sym (append-nil f.derivations))
    ∙ ap (λ o. record { derivations = f.derivations ++ []; prototype = o }) (sym (or_none f.prototype))

further : (f : Formed) (x : Suffixed) (own : Formed) → behind (suffix_on f x) own ≡ behind f (behind (as_formed x) own)
further f x own =
    ap (λ ds. record { derivations = ds; prototype = option_or (option_or f.prototype x.prototype) own.prototype })
    (append_assoc f.derivations (x.derivation ∷ []) own.derivations)
    ∙ ap (λ o. record { derivations = f.derivations ++ x.derivation ∷ own.derivations; prototype = o })
    (or_or f.prototype x.prototype own.prototype)

further_on :
    (f : Formed) (x : Suffixed) (c : Checked Formed) →
    next c (λ s own. Fine s (behind (suffix_on f x) own)) ≡ next (next c (λ s own. Fine s (behind (as_formed x) own))) (λ s own. Fine s (behind f own))
further_on f x (Fine s own) = ap (Fine s) (further f x own)
further_on f x (Breaks b s known) = refl
further_on f x (Broke b) = refl

-- one suffix, and then the rest behind it
suffix_then :
    (f : Formed) (c : Checked Suffixed) (ahead : State → Suffixed → Checked Formed) (others : State → Checked Formed) →
    ((s : State) (x : Suffixed) → ahead s x ≡ next (others s) (λ s own. Fine s (behind (suffix_on f x) own))) →
    next c ahead
    ≡ next (next (next c (λ s x. Fine s (as_formed x))) (λ s first. next (others s) (λ s own. Fine s (behind first own)))) (λ s own. Fine s (behind f own))
suffix_then f (Fine s x) ahead others h = h s x ∙ further_on f x (others s)
suffix_then f (Breaks b s known) ahead others h = refl
suffix_then f (Broke b) ahead others h = refl

-- the first suffix, and then the rest behind it
pub suffixes_rows :
    {m : _} (here : Here) (s : State) (f : Formed) (k : Row_of-Suffix m) →
    suffix_list_on here s f (items-the_row-Suffix _ k) ≡ next (suffixes_formed here s k) (λ s own. Fine s (behind f own))
suffixes_rows here s f end_of-Suffix = ap (Fine s) (nothing_behind f)
suffixes_rows here s f (more_of-Suffix span k rest) =
    let rest_of = λ (s : State) (first : Formed). next (suffixes_formed here s rest) (λ s own. Fine s (behind first own)) in
    let onto = λ (s : State) (own : Formed). Fine s (behind f own) in
    suffix_then f (suffix_made here s k) (λ s one. suffix_list_on here s (suffix_on f one) (items-the_row-Suffix _ rest))
    (λ s. suffixes_formed here s rest) (λ s x. suffixes_rows here s (suffix_on f x) rest)
    ∙ ap (λ c. next (next c rest_of) onto) (sym (one_suffix here s k))
