-- What stands nearest to a name, at the constructors by which Rust sees a declarator.
use Rattle.std.proofs.Common.{◌≡◌, ℕ, suc, ◌-◌, List, [], ◌∷◌, length, refl, sym, ap, ◌∙◌, slice_get, arith}
use Rattle.c_types.specs.declared.derivation.Derivation.{Derivation}
use Rattle.std.specs.Option.{option_or}
use denote.Hole.Carrier
use Rattle.c_syntax.specs.declared.expr.Core.TheBlock as b
use Rattle.c_syntax.specs.declared.expr.Core.TheVariants as core
use Rattle.c_syntax.specs.declared.expr.Declarator.{Declarator, Declarator', out-Declarator, Row_of-Suffix, end_of-Suffix, more_of-Suffix, items-the_row-Suffix}
use Rattle.c_syntax.specs.declared.expr.SuffixKind.{Array', Function'}
use Rattle.c_file_rules.specs.Declarators.{suffix_is_list, pointer_is_list, nearest_is_list, core_is_list, makes_function}
use Rattle.c_type_parts.specs.Lists.{suffixes_are_list, own_is_list, is_function_made}

suffixes_rows : {m : _} (k : Row_of-Suffix m) → suffix_is_list k ≡ suffixes_are_list (items-the_row-Suffix _ k)
suffixes_rows end_of-Suffix = refl
suffixes_rows (more_of-Suffix span (Function' z parameters scope) rest) = refl
suffixes_rows (more_of-Suffix span (Array' size) rest) = refl

pub nearest_is : (d : Declarator) → nearest_is_list d ≡ option_or (core_is_list (out-Declarator d).core) (own_is_list d)
unfolding out-Declarator Carrier.out
nearest_is (Declarator' span name pointers core z suffixes) =
    ap (λ o. option_or (core_is_list core) (option_or o (pointer_is_list pointers))) (suffixes_rows suffixes ∙ ap suffixes_are_list (sym (b.items_shown-the_row-Suffix-10 z suffixes)))

pub parens_is : (inside : Declarator) → core_is_list (core.Parens inside) ≡ nearest_is_list inside
unfolding b.hidden-the_row-Declarator-0 b.shape-the_row-Declarator-0 Carrier.hidden
parens_is inside = refl

-- ---- the last of derivations is nearest to the name

pub last_makes : (ds : List Derivation) → makes_function ds ≡ is_function_made (slice_get ds (length ds - 1))
last_makes [] = refl
last_makes (d ∷ []) =
    let first : length (d ∷ []) - 1 ≡ 0 = omega arith in
    sym (ap (λ (n : ℕ). is_function_made (slice_get (d ∷ []) n)) first)
last_makes (d ∷ e ∷ ds) =
    let more : length (d ∷ e ∷ ds) - 1 ≡ suc (length (e ∷ ds) - 1) = omega arith in
    last_makes (e ∷ ds) ∙ sym (ap (λ (n : ℕ). is_function_made (slice_get (d ∷ e ∷ ds) n)) more)
