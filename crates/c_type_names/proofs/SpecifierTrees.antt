-- What specifiers, members and declarators are at the constructors by which Rust sees a tree.
use Rattle.std.proofs.Common.{◌≡◌, ℕ, Bool, List, [], ◌++◌, map, reverse, Some, None, refl, sym, ap, ◌∙◌}
use Rattle.std.specs.Prelude.{Option}
use Rattle.std.specs.Option.{option_or}
use denote.Hole.Carrier
use Rattle.c_parts.specs.declared.span.Span.{Span}
use Rattle.c_syntax.specs.declared.words.RecordKind.{RecordKind}
use Rattle.c_syntax.specs.declared.expr.Core.TheBlock as b
use Rattle.c_syntax.specs.declared.expr.Core.TheVariants as core
use Rattle.c_syntax.specs.declared.expr.Assertion.{Assertion}
use Rattle.c_syntax.specs.declared.expr.Declarator.{Declarator, Declarator', out-Declarator}
use Rattle.c_syntax.specs.declared.expr.EnumConstant.{EnumConstant}
use Rattle.c_syntax.specs.declared.expr.Expr.{Expr}
use Rattle.c_syntax.specs.declared.expr.Member.{Member}
use Rattle.c_syntax.specs.declared.expr.Member.TheVariants as member
use Rattle.c_syntax.specs.declared.expr.Parameter.{Parameter}
use Rattle.c_syntax.specs.declared.expr.Pointer.{Pointer}
use Rattle.c_syntax.specs.declared.expr.SpecifierKind.TheVariants as kind
use Rattle.c_syntax.specs.declared.expr.Specifiers.{Specifiers, Specifiers', out-Specifiers}
use Rattle.c_syntax.specs.declared.expr.SuffixKind.TheVariants as suffix
use Rattle.c_syntax.specs.declared.expr.TypeName.{TypeName, TypeName', out-TypeName}
use Rattle.c_parts.specs.declared.lexeme.Binding.{Binding}
use Rattle.c_types.specs.declared.derivation.Derivation.TheVariants as derivation
use Rattle.c_specifiers.specs.declared.list.Standing.{Standing}
use Rattle.c_specifiers.specs.declared.list.Standing.TheVariants as standing
use Rattle.c_scope.specs.Scopes.{innermost_scope}
use Rattle.c_specifiers.specs.NamesOfTypes.{typedef_type}
use Rattle.c_tree.specs.declared.declared.Declared.{Declared}
use Rattle.c_tree.specs.declared.declared.Declared.TheVariants as declared
use Rattle.c_declarators.specs.Declarators.{pointer_derivation}
use Rattle.c_expr_rules.specs.Outcomes.{State, Checked, Fine, next}
use Rattle.c_expr_rules.specs.Contexts.{assertion_constant}
use Rattle.c_check_expr.proofs.Outcomes.{next_same}
use Rattle.c_file_rules.specs.Constructs.{Here}
use Rattle.c_file_rules.specs.Naming.{in_scope, out_of_scope}
use Rattle.c_file_rules.specs.Declarators.{plain}
use Rattle.c_file_rules.specs.declared.parts.Formed.{Formed}
use Rattle.c_type_parts.specs.Lists.{typedef_part, enumeration_found, specifier_list, constant_list, member_list, member_declarator_list, suffix_list, suffix_made, size_formed, suffix_by_parameters, parameter_list}
use Rattle.c_file_rules.specs.Specifiers.{Follows, OneDeclarator, no_parts, with_declared, is_tag_alone, specified, typedef_found, type_said, specifiers_said, specifier_found, member_found, member_declarators, formed, core_formed, suffixes_formed}
use Rattle.c_file_rules.specs.Tags.{kind_of_word, type_to_list, no_members, record_found, enum_found}
use Rattle.c_file_rules.specs.declared.parts.Parts.{Parts}
use Rattle.c_file_rules.specs.declared.member_list.MembersSeen.{MembersSeen}
use Rattle.c_type_names.proofs.SpecifierRows.{next_next, specifiers_rows, members_rows, declarators_rows, constants_rows, parameters_rows}
use Rattle.c_type_names.proofs.Suffixes.{suffixes_rows, behind}
use Rattle.c_type_names.proofs.Behind.{type_behind, list_behind, atomic_behind, also, declarators_behind, as_before, suffixes_behind, array_behind, function_behind}

-- ---- type names and lists of specifiers

pub type_said_is :
    (here : Here) (s : State) (name : TypeName) →
    type_said here s name
    ≡ next (specifiers_said here standing.TypeName OneDeclarator s (out-TypeName name).specifiers) (type_behind here name)
unfolding out-TypeName Carrier.out
type_said_is here s (TypeName' span specifiers d) = refl

pub specifiers_said_is :
    (here : Here) (place : Standing) (follows : Follows) (s : State) (specifiers : Specifiers) →
    specifiers_said here place follows s specifiers
    ≡ next (specifier_list here (is_tag_alone follows (out-Specifiers specifiers).list) s no_parts (out-Specifiers specifiers).list)
    (list_behind specifiers place follows s)
unfolding out-Specifiers Carrier.out
specifiers_said_is here place follows s (Specifiers' span z list) =
    let whole = (out-Specifiers (Specifiers' span z list)).list in
    ap (λ c. next c (λ after p. specified span.line place follows whole after (with_declared s after p)))
    (specifiers_rows here (is_tag_alone follows whole) s no_parts list
    ∙ ap (λ l. specifier_list here (is_tag_alone follows whole) s no_parts l) (sym (b.items_shown-the_row-Specifier-11 z list)))

-- ---- specifiers

pub atomic_is :
    (here : Here) (is_alone : Bool) (s : State) (p : Parts) (ty : TypeName) →
    specifier_found here is_alone s p (kind.Atomic ty) ≡ next (type_said here s ty) (atomic_behind p)
unfolding b.hidden-the_row-TypeName-3 b.shape-the_row-TypeName-3 Carrier.hidden
atomic_is here is_alone s p ty = refl

pub record_is :
    (here : Here) (is_alone : Bool) (s : State) (p : Parts) (word : RecordKind) (name : Option ℕ) (members : List Member) →
    specifier_found here is_alone s p (kind.Record word name (Some members))
    ≡ next (member_list here (type_to_list here s (kind_of_word word) name).0 no_members members)
    (record_found here word name (type_to_list here s (kind_of_word word) name).1 p)
unfolding Carrier.hidden
record_is here is_alone s p word name members =
    let ty = type_to_list here s (kind_of_word word) name in
    ap (λ c. next c (λ t seen. record_found here word name ty.1 p t seen))
    (members_rows here ty.0 no_members (b.hidden-the_row-Member-7 members) ∙ ap (λ l. member_list here ty.0 no_members l) (b.items_hidden-the_row-Member-7 members))

pub enum_is :
    (here : Here) (is_alone : Bool) (s : State) (p : Parts) (name : Option ℕ) (constants : Option (List EnumConstant)) →
    specifier_found here is_alone s p (kind.Enum name constants) ≡ enumeration_found here s p name constants
unfolding Carrier.hidden
enum_is here is_alone s p name None = refl
enum_is here is_alone s p name (Some constants) =
    ap (λ c. next c (λ s c. enum_found here name p s c))
    (constants_rows here s _ (b.hidden-the_row-EnumConstant-8 constants) ∙ ap (λ l. constant_list here s _ l) (b.items_hidden-the_row-EnumConstant-8 constants))

typedef_as : (here : Here) (s : State) (name : ℕ) (d : Option Declared) (p : Parts) → typedef_found here s name (typedef_type d) p ≡ typedef_part d p
typedef_as here s name None p = refl
typedef_as here s name (Some (declared.Typedef ty)) p = refl
typedef_as here s name (Some d) p = refl

pub typedef_is :
    (here : Here) (is_alone : Bool) (s : State) (p : Parts) (name : ℕ) →
    specifier_found here is_alone s p (kind.TypedefName name) ≡ Fine s (typedef_part (s.visible (here.around.spelling name)) p)
typedef_is here is_alone s p name = ap (Fine s) (typedef_as here s name (s.visible (here.around.spelling name)) p)

-- ---- members

pub declares_is :
    (here : Here) (s : State) (so_far : MembersSeen) (span : Span) (specifiers : Specifiers) (declarators : List Declarator) →
    member_found here s so_far (member.Declares span specifiers declarators)
    ≡ next (specifiers_said here standing.Member OneDeclarator s specifiers) (declarators_behind here so_far declarators)
unfolding Carrier.hidden
declares_is here s so_far span specifiers declarators =
    next_same (specifiers_said here standing.Member OneDeclarator s specifiers)
    (λ s said. member_declarators here s said.ty (also so_far said.declares) (b.hidden-the_row-Declarator-6 declarators))
    (declarators_behind here so_far declarators) (λ s said.
    declarators_rows here s said.ty (also so_far said.declares) (b.hidden-the_row-Declarator-6 declarators)
    ∙ ap (λ l. member_declarator_list here s said.ty (also so_far said.declares) l) (b.items_hidden-the_row-Declarator-6 declarators))

pub asserts_is :
    (here : Here) (s : State) (so_far : MembersSeen) (a : Assertion) →
    member_found here s so_far (member.Asserts a) ≡ next (assertion_constant here.around s a.condition) (as_before so_far)
unfolding b.hidden-the_row-Expr-1 b.shape-the_row-Expr-1 Carrier.hidden
asserts_is here s so_far a = refl

-- ---- declarators

pub parens_formed : (here : Here) (s : State) (inside : Declarator) → core_formed here s (core.Parens inside) ≡ formed here s inside
unfolding b.hidden-the_row-Declarator-0 Carrier.hidden
parens_formed here s inside = refl

abbrev together : List Pointer → Formed → State → Formed → Checked Formed
together pointers inside s own =
    Fine s (record {
      derivations = map pointer_derivation pointers ++ reverse own.derivations ++ inside.derivations;
      prototype = option_or inside.prototype own.prototype;
    })

pub formed_is :
    (here : Here) (s : State) (d : Declarator) →
    formed here s d ≡ next (core_formed here s (out-Declarator d).core) (suffixes_behind here d)
unfolding out-Declarator Carrier.out
formed_is here s (Declarator' span name pointers core z suffixes) =
    next_same (core_formed here s core) (λ s inside. next (suffixes_formed here s suffixes) (together pointers inside))
    (λ s inside. next (suffix_list here s (out-Declarator (Declarator' span name pointers core z suffixes)).suffixes) (together pointers inside)) (λ s inside.
    sym (ap (λ c. next c (together pointers inside))
    (ap (λ l. suffix_list here s l) (b.items_shown-the_row-Suffix-10 z suffixes) ∙ suffixes_rows here s plain suffixes)
    ∙ next_next (suffixes_formed here s suffixes) (λ s own. Fine s (behind plain own)) (together pointers inside)))

-- ---- suffixes

pub open_is : (here : Here) (s : State) → suffix_made here s (suffix.Array None) ≡ Fine s (record { derivation = derivation.OpenArray; prototype = None })
unfolding Carrier.hidden
open_is here s = refl

pub size_is :
    (here : Here) (s : State) (e : Expr) →
    suffix_made here s (suffix.Array (Some e)) ≡ next (size_formed here s e) array_behind
unfolding Carrier.hidden
size_is here s e = refl

pub function_is :
    (here : Here) (s : State) (parameters : List Parameter) (scope : List Binding) →
    suffix_made here s (suffix.Function parameters scope)
    ≡ next (parameter_list here (in_scope s) [] parameters) function_behind
unfolding Carrier.hidden
function_is here s parameters scope =
    ap (λ c. next c (λ s listed. suffix_by_parameters (out_of_scope s) (innermost_scope s.above.names) listed))
    (parameters_rows here (in_scope s) [] (b.hidden-the_row-Parameter-9 parameters) ∙ ap (λ l. parameter_list here (in_scope s) [] l) (b.items_hidden-the_row-Parameter-9 parameters))
