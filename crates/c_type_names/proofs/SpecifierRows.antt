-- Rows of specifiers, members, constants and parameters as the lists that the code goes over.
use Rattle.std.proofs.Common.{◌≡◌, ℕ, Bool, false, List, [], ◌∷◌, ◌++◌, length, Some, None, refl, ap, ◌∙◌}
use Rattle.std.specs.Prelude.{Option}
use denote.Hole.Carrier
use Rattle.c_syntax.specs.declared.expr.Specifiers.{Row_of-Specifier, end_of-Specifier, more_of-Specifier, items-the_row-Specifier}
use Rattle.c_syntax.specs.declared.expr.SpecifierKind.{Row_of-Member, end_of-Member, more_of-Member, items-the_row-Member, Row_of-EnumConstant, end_of-EnumConstant, more_of-EnumConstant, items-the_row-EnumConstant}
use Rattle.c_syntax.specs.declared.expr.EnumConstant.{EnumConstant', out-EnumConstant}
use Rattle.c_syntax.specs.declared.expr.Member.{Row_of-Declarator, end_of-Declarator, more_of-Declarator, items-the_row-Declarator}
use Rattle.c_syntax.specs.declared.expr.SuffixKind.{Row_of-Parameter, end_of-Parameter, more_of-Parameter, items-the_row-Parameter, SuffixKind-Array-0-None' as NoExpr, SuffixKind-Array-0-Some' as SomeExpr}
use Rattle.c_syntax.specs.declared.expr.Parameter.{Parameter', out-Parameter}
use Rattle.c_types.specs.declared.ctype.Part.{Part}
use Rattle.c_syntax.specs.Values.{expr_of}
use Rattle.c_specifiers.specs.declared.list.Standing.TheVariants as standing
use Rattle.c_expr_rules.specs.declared.typed.Typed.{Typed}
use Rattle.c_expr_rules.specs.Contexts.{constant_in, enumeration_constant}
use Rattle.c_expr_rules.specs.Outcomes.{State, Checked, Fine, Breaks, Broke, next}
use Rattle.c_check_expr.proofs.Outcomes.{next_same}
use Rattle.c_file_rules.specs.Constructs.{Here}
use Rattle.c_file_rules.specs.declared.parts.Listed.{Listed}
use Rattle.c_type_parts.specs.Lists.{specifier_list, constant_valued, constant_list, member_list, member_declarator_list, parameter_of, parameter_list}
use Rattle.c_file_rules.specs.Specifiers.{OneDeclarator, specifiers_said, specifier_found, member_found, constant_found, formed, specifiers_in, members_found, member_declarators, constants_found, parameters_found}
use Rattle.c_file_rules.specs.Declarators.{declarator_type, line_of, name_of}
use Rattle.c_file_rules.specs.Tags.{member_rules, named_member, with_member, counted_constant, valued_constant}
use Rattle.c_file_rules.specs.declared.parts.Parts.{Parts}
use Rattle.c_file_rules.specs.declared.member_list.MembersSeen.{MembersSeen}
use Rattle.c_file_rules.specs.declared.parts.Counted.{Counted}

-- two steps that follow each other
pub next_next :
    {A B C : Type 0} (c : Checked A) (f : State → A → Checked B) (g : State → B → Checked C) → next (next c f) g ≡ next c (λ s x. next (f s x) g)
next_next (Fine s x) f g = refl
next_next (Breaks b s known) f g = refl
next_next (Broke b) f g = refl

-- one element of parts, and the rest of the list
made_then :
    {B C D : Type 0} (c : Checked B) (make : B → C) (rest others : State → C → Checked D) →
    ((s : State) (z : C) → rest s z ≡ others s z) →
    next c (λ s y. rest s (make y)) ≡ next (next c (λ s y. Fine s (make y))) others
made_then (Fine s y) make rest others same = same s (make y)
made_then (Breaks b s known) make rest others same = refl
made_then (Broke b) make rest others same = refl

two_then :
    {A B C D : Type 0} (c : Checked A) (second : State → A → Checked B) (make : B → C) (rest others : State → C → Checked D) →
    ((s : State) (z : C) → rest s z ≡ others s z) →
    next c (λ s x. next (second s x) (λ s y. rest s (make y)))
    ≡ next (next c (λ s x. next (second s x) (λ s y. Fine s (make y)))) others
two_then (Fine s x) second make rest others same = made_then (second s x) make rest others same
two_then (Breaks b s known) second make rest others same = refl
two_then (Broke b) second make rest others same = refl

then_one :
    {B C D : Type 0} (c : Checked B) (third : State → B → Checked C) (rest others : State → C → Checked D) →
    ((s : State) (z : C) → rest s z ≡ others s z) →
    next c (λ s y. next (third s y) rest) ≡ next (next c third) others
then_one (Fine s y) third rest others same = next_same (third s y) rest others same
then_one (Breaks b s known) third rest others same = refl
then_one (Broke b) third rest others same = refl

three_then :
    {A B C D : Type 0} (c : Checked A) (second : State → A → Checked B) (third : A → State → B → Checked C) (rest others : State → C → Checked D) →
    ((s : State) (z : C) → rest s z ≡ others s z) →
    next c (λ s x. next (second s x) (λ s y. next (third x s y) rest)) ≡ next (next c (λ s x. next (second s x) (third x))) others
three_then (Fine s x) second third rest others same = then_one (second s x) (third x) rest others same
three_then (Breaks b s known) second third rest others same = refl
three_then (Broke b) second third rest others same = refl

-- a constant's value
valued_as :
    (here : Here) (name : ℕ) (s : State) (c : Counted) (v : Option ℕ) (t : Typed) → valued_constant here name s c v t ≡ constant_valued here name s c v
valued_as here name s c None t = refl
valued_as here name s c (Some v) t = refl

-- ---- rows

pub specifiers_rows : {m : _} (here : Here) (is_alone : Bool) (s : State) (p : Parts) (k : Row_of-Specifier m)
    → specifiers_in here is_alone s p k ≡ specifier_list here is_alone s p (items-the_row-Specifier _ k)
specifiers_rows here is_alone s p end_of-Specifier = refl
specifiers_rows here is_alone s p (more_of-Specifier span x rest) =
    next_same (specifier_found here is_alone s p x) (λ s p. specifiers_in here is_alone s p rest)
    (λ s p. specifier_list here is_alone s p (items-the_row-Specifier _ rest)) (λ s p. specifiers_rows here is_alone s p rest)

pub members_rows : {m : _} (here : Here) (s : State) (so_far : MembersSeen) (k : Row_of-Member m)
    → members_found here s so_far k ≡ member_list here s so_far (items-the_row-Member _ k)
members_rows here s so_far end_of-Member = refl
members_rows here s so_far (more_of-Member x rest) =
    next_same (member_found here s so_far x) (λ s so_far. members_found here s so_far rest)
    (λ s so_far. member_list here s so_far (items-the_row-Member _ rest)) (λ s so_far. members_rows here s so_far rest)

pub declarators_rows : {m : _} (here : Here) (s : State) (base : Part) (so_far : MembersSeen) (k : Row_of-Declarator m)
    → member_declarators here s base so_far k ≡ member_declarator_list here s base so_far (items-the_row-Declarator _ k)
declarators_rows here s base so_far end_of-Declarator = refl
declarators_rows here s base so_far (more_of-Declarator d rest) =
    two_then (formed here s d)
    (λ s f. declarator_type (line_of d) false s base f.derivations (member_rules (name_of d) so_far.members))
    (λ p. with_member (named_member (name_of d) p) so_far)
    (λ s so_far. member_declarators here s base so_far rest)
    (λ s so_far. member_declarator_list here s base so_far (items-the_row-Declarator _ rest))
    (λ s so_far. declarators_rows here s base so_far rest)

pub constants_rows : {m : _} (here : Here) (s : State) (c : Counted) (k : Row_of-EnumConstant m)
    → constants_found here s c k ≡ constant_list here s c (items-the_row-EnumConstant _ k)
unfolding out-EnumConstant Carrier.out
constants_rows here s c end_of-EnumConstant = refl
constants_rows here s c (more_of-EnumConstant (EnumConstant' span name NoExpr) rest) =
    next_same (counted_constant here span.line name s c) (λ s c. constants_found here s c rest)
    (λ s c. constant_list here s c (items-the_row-EnumConstant _ rest)) (λ s c. constants_rows here s c rest)
constants_rows here s c (more_of-EnumConstant (EnumConstant' span name (SomeExpr s1 k1)) rest) =
    next_same (constant_found here s c (EnumConstant' span name (SomeExpr s1 k1))) (λ s c. constants_found here s c rest)
    (λ s c. constant_list here s c (items-the_row-EnumConstant _ rest)) (λ s c. constants_rows here s c rest)
    ∙ ap (λ found. next found (λ s c. constant_list here s c (items-the_row-EnumConstant _ rest)))
    (next_same (enumeration_constant here.around s (expr_of (s1, k1))) (λ s t. valued_constant here name s c (constant_in t.known) t)
    (λ s t. constant_valued here name s c (constant_in t.known)) (λ s t. valued_as here name s c (constant_in t.known) t))

pub parameters_rows : {m : _} (here : Here) (s : State) (so_far : List Listed) (k : Row_of-Parameter m)
    → parameters_found here s so_far k ≡ parameter_list here s so_far (items-the_row-Parameter _ k)
unfolding out-Parameter Carrier.out
parameters_rows here s so_far end_of-Parameter = refl
parameters_rows here s so_far (more_of-Parameter (Parameter' span specifiers d) rest) =
    three_then (specifiers_said here standing.Parameter OneDeclarator s specifiers) (λ s said. formed here s d)
    (λ said s f. parameter_of here d (length so_far) said s f)
    (λ s x. parameters_found here s (so_far ++ x ∷ []) rest)
    (λ s x. parameter_list here s (so_far ++ x ∷ []) (items-the_row-Parameter _ rest))
    (λ s x. parameters_rows here s (so_far ++ x ∷ []) rest)
