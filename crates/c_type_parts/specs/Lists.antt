-- Lists of one level as the code sees them: what each function over a row of the tree gives, over the list of the row's
-- elements; and parts of definitions that the code has as functions of their own.
use Rattle.std.specs.Prelude.{ℕ, ◌||◌, Bool, true, false, List, [], ◌∷◌, ◌++◌, map, length, Option, Some, None, Result, Ok, Err}
use Rattle.std.specs.Option.{option_or}
use Rattle.filc_num.specs.declared.integer.IntType.TheVariants.{I32}
use Rattle.filc_num.specs.Integers.{convert_of}
use Rattle.c_syntax.specs.declared.expr.Expr.{Expr}
use Rattle.c_syntax.specs.declared.expr.SuffixKind.{SuffixKind, Array', Function', SuffixKind-Array-0-None' as NoExpr, SuffixKind-Array-0-Some' as SomeExpr}
use Rattle.c_syntax.specs.declared.expr.Member.{Member}
use Rattle.c_syntax.specs.declared.expr.EnumConstant.{EnumConstant, out-EnumConstant}
use Rattle.c_syntax.specs.declared.expr.Declarator.{Declarator, out-Declarator}
use Rattle.c_syntax.specs.declared.expr.Suffix.{Suffix, out-Suffix}
use Rattle.c_syntax.specs.declared.expr.Parameter.{Parameter, out-Parameter}
use Rattle.c_syntax.specs.Values.{expr_of}
use Rattle.c_types.specs.declared.ctype.Part.{Part}
use Rattle.c_types.specs.declared.rule.TypeRule.{TypeRule}
use Rattle.c_types.specs.declared.derivation.Derivation.{Derivation}
use Rattle.c_types.specs.declared.derivation.Derivation.TheVariants as derivation
use Rattle.c_rules.specs.declared.rule.Rule.{Rule}
use Rattle.c_rules.specs.declared.rule.Rule.TheVariants as rule
use Rattle.c_tree.specs.declared.declared.Declared.{Declared}
use Rattle.c_tree.specs.declared.declared.Declared.TheVariants as declared
use Rattle.c_scope.specs.Scopes.{InnerNames, innermost_scope}
use Rattle.c_specifiers.specs.declared.list.Standing.{Standing}
use Rattle.c_specifiers.specs.declared.list.Standing.TheVariants as standing
use Rattle.c_declarations.specs.declared.specifier_list.Words.{Words}
use Rattle.c_declarations.specs.ParameterTypes.{parameters_in, rule_of_list}
use Rattle.c_declarations.specs.declared.specifier_list.Named.{Named}
use Rattle.c_declarations.specs.declared.specifier_list.Named.TheVariants as named
use Rattle.c_declarations.specs.Specified.{lowest, rule_of_words}
use Rattle.c_syntax.specs.declared.words.Storage.{Storage}
use Rattle.c_syntax.specs.declared.file.InitDeclarator.{InitDeclarator}
use Rattle.c_syntax.specs.declared.expr.Specifier.{Specifier}
use Rattle.c_expr_rules.specs.Outcomes.{State, Checked, Fine, next}
use Rattle.c_expr_rules.specs.TypedExpressions.{type_at}
use Rattle.c_expr_rules.specs.Contexts.{constant_in, enumeration_constant, without_fault}
use Rattle.c_file_rules.specs.Naming.{declares, is_again, in_scope, out_of_scope, with_types}
use Rattle.c_file_rules.specs.declared.parts.Suffixed.{Suffixed}
use Rattle.c_file_rules.specs.Suffixed.{suffix_on}
use Rattle.c_file_rules.specs.Constructs.{when, Here}
use Rattle.c_names.specs.Plain.{IsPlainType}
use Rattle.c_types.specs.Extensions.{qualified, parameter_list as list_of_types}
use Rattle.c_type_parts.specs.declared.said.Follows.{Follows}
use Rattle.c_type_parts.specs.declared.said.Follows.TheVariants as follows
use Rattle.c_file_rules.specs.Specifiers.{Follows as Following, Declarators, OneDeclarator, storage_or, named_plain, names_function, is_misplaced, declares_nothing, specifier_found, specifiers_said, formed, member_found, parameters_found}
use Rattle.c_types.specs.declared.entry.Tag.TheVariants as tag
use Rattle.c_file_rules.specs.Tags.{tag_alone, enum_found, with_part, counted_constant, after_constant, member_rules, named_member, with_member}
use Rattle.c_file_rules.specs.declared.parts.Parts.{Parts}
use Rattle.c_file_rules.specs.declared.member_list.MembersSeen.{MembersSeen}
use Rattle.c_file_rules.specs.declared.parts.Counted.{Counted}
use Rattle.c_file_rules.specs.Declarators.{pointer_is_list, is_function_derivation, plain, size_derivation, adjusted_types, list_derivation, parameter_type, kept, outermost_pointer, parameter_found, declarator_type, line_of, name_of}
use Rattle.c_file_rules.specs.declared.parts.Said.{Said}
use Rattle.c_file_rules.specs.declared.parts.Listed.{Listed}
use Rattle.c_file_rules.specs.declared.parts.Formed.{Formed}

-- ---- specifiers

abbrev pub typedef_part : Option Declared → Parts → Parts
typedef_part (Some (declared.Typedef ty)) p = with_part false (Ok ty) p
typedef_part d p = with_part false (Err rule.UnknownName) p

-- what follows, as the code has it
abbrev pub seen_follows : Follows → Following
seen_follows (follows.Declarators inits) = Declarators (map (λ (i : InitDeclarator). i.declarator) inits.now)
seen_follows follows.OneDeclarator = OneDeclarator

-- what words and parts say
abbrev pub said_of : State → Words → Parts → State × Said
said_of s w p =
    let plain = named_plain s p.whole w.named in
    let made = qualified plain.0 plain.1 w.set.0 in
    (with_types made.0 s, record { storage = storage_or w.storage; ty = made.1; declares = p.declares })

-- the rule that a list of these words breaks
abbrev pub list_rule : Standing → Following → State → Words → Parts → Said → Option Rule
list_rule place follows s w p said =
    let broken = lowest p.broken (rule_of_words s.table p.whole w.storage w.named w.set) in
    let has_function = names_function broken (type_at s said.ty.number) in
    lowest (lowest broken (when (is_misplaced place follows has_function said.storage) rule.BadSpecifiers))
    (when (declares_nothing follows p) rule.NothingDeclared)

-- a type that words name is made of nothing
abbrev pub AreOfTypes : Option Named → Type 0
AreOfTypes (Some (named.Basic ty)) = IsPlainType ty
AreOfTypes _ = Unit {0}

abbrev pub specifier_list : Here → Bool → State → Parts → List Specifier → Checked Parts
specifier_list here is_alone s p [] = Fine s p
specifier_list here is_alone s p (x ∷ rest) =
    next (specifier_found here is_alone s p x.kind) (λ s p. specifier_list here is_alone s p rest)

-- ---- enumeration constants

abbrev pub constant_with : Here → (name : ℕ) → State → Counted → (value : ℕ) → Checked Counted
constant_with here name s c v =
    let kept = convert_of v I32 in
    Fine (declares here.around s name (declared.Constant kept))
    (record { value = after_constant kept; is_again = c.is_again || is_again here.around s name (declared.Constant kept) })

abbrev pub constant_valued : Here → (name : ℕ) → State → Counted → Option ℕ → Checked Counted
constant_valued here name s c None = Fine s c
constant_valued here name s c (Some v) = constant_with here name s c v

abbrev pub constant_by : Here → (line name : ℕ) → State → Counted → Option Expr → Checked Counted
constant_by here line name s c None = counted_constant here line name s c
constant_by here line name s c (Some e) =
    next (enumeration_constant here.around s e) (λ s t. constant_valued here name s c (constant_in t.known))

abbrev pub constant_element : Here → State → Counted → EnumConstant → Checked Counted
constant_element here s c constant =
    let x = out-EnumConstant constant in constant_by here x.span.line x.name s c x.value

abbrev pub constant_list : Here → State → Counted → List EnumConstant → Checked Counted
constant_list here s c [] = Fine s c
constant_list here s c (x ∷ rest) = next (constant_element here s c x) (λ s c. constant_list here s c rest)

-- an enumeration among specifiers
abbrev pub enumeration_found : Here → State → Parts → Option ℕ → Option (List EnumConstant) → Checked Parts
enumeration_found here s p name None = let found = tag_alone here s false tag.Enumeration name p in Fine found.0 found.1
enumeration_found here s p name (Some constants) =
    next (constant_list here s (record { value = 0; is_again = false }) constants) (λ s c. enum_found here name p s c)

-- ---- members

abbrev pub member_list : Here → State → MembersSeen → List Member → Checked MembersSeen
member_list here s so_far [] = Fine s so_far
member_list here s so_far (m ∷ rest) =
    next (member_found here s so_far m) (λ s so_far. member_list here s so_far rest)

abbrev pub member_declared : Here → State → Part → MembersSeen → Declarator → Checked MembersSeen
member_declared here s base so_far d =
    next (formed here s d) (λ s f.
    next (declarator_type (line_of d) false s base f.derivations (member_rules (name_of d) so_far.members)) (λ s p.
    Fine s (with_member (named_member (name_of d) p) so_far)))

abbrev pub member_declarator_list : Here → State → Part → MembersSeen → List Declarator → Checked MembersSeen
member_declarator_list here s base so_far [] = Fine s so_far
member_declarator_list here s base so_far (d ∷ rest) =
    next (member_declared here s base so_far d) (λ s so_far. member_declarator_list here s base so_far rest)

-- ---- parameters

abbrev pub parameter_of : Here → Declarator → (index : ℕ) → Said → State → Formed → Checked Listed
parameter_of here d index said s f =
    parameter_found here (line_of d) index said (name_of d) s (outermost_pointer f.derivations)

-- a type, unless its derivations break a rule
abbrev pub type_or_rule : Part → Option TypeRule → Result Part TypeRule
type_or_rule made None = Ok made
type_or_rule made (Some broken) = Err broken

-- ---- suffixes

abbrev pub size_formed : Here → State → Expr → Checked Derivation
size_formed here s e = next (without_fault here.around s e) (λ s t. Fine s (size_derivation t (constant_in t.known)))

abbrev pub function_suffix : State → InnerNames → List Listed → State × Suffixed
function_suffix s scope listed =
    let ps = map parameter_type listed in
    let types = adjusted_types s.table (parameters_in s.table ps) in
    let made = list_of_types types.0 types.1 in (
      with_types made.0 s,
      record {
        derivation = list_derivation (rule_of_list s.table ps) made.1;
        prototype = Some (record { listed = kept s.table listed; scope = scope });
      },
    )

abbrev pub parameter_listed : Here → State → (index : ℕ) → Parameter → Checked Listed
parameter_listed here s index p =
    let x = out-Parameter p in
    next (specifiers_said here standing.Parameter OneDeclarator s x.specifiers) (λ s said.
    next (formed here s x.declarator) (λ s f. parameter_of here x.declarator index said s f))

abbrev pub parameter_list : Here → State → List Listed → List Parameter → Checked (List Listed)
parameter_list here s so_far [] = Fine s so_far
parameter_list here s so_far (p ∷ rest) =
    next (parameter_listed here s (length so_far) p) (λ s x. parameter_list here s (so_far ++ x ∷ []) rest)

abbrev pub suffix_by_parameters : State → InnerNames → List Listed → Checked Suffixed
suffix_by_parameters s scope listed = let made = function_suffix s scope listed in Fine made.0 made.1

abbrev pub suffix_made : Here → State → SuffixKind → Checked Suffixed
suffix_made here s (Array' NoExpr) = Fine s (record { derivation = derivation.OpenArray; prototype = None })
suffix_made here s (Array' (SomeExpr s1 k1)) =
    next (size_formed here s (expr_of (s1, k1))) (λ s d. Fine s (record { derivation = d; prototype = None }))
suffix_made here s (Function' z parameters scope) =
    next (parameters_found here (in_scope s) [] parameters) (λ s listed.
    suffix_by_parameters (out_of_scope s) (innermost_scope s.above.names) listed)

-- suffixes behind those that are there
abbrev pub suffix_list_on : Here → State → Formed → List Suffix → Checked Formed
suffix_list_on here s f [] = Fine s f
suffix_list_on here s f (x ∷ rest) =
    next (suffix_made here s (out-Suffix x).kind) (λ s one. suffix_list_on here s (suffix_on f one) rest)

abbrev pub suffix_list : Here → State → List Suffix → Checked Formed
suffix_list here s suffixes = suffix_list_on here s plain suffixes

-- ---- what stands nearest to a name

abbrev pub kind_is_list : SuffixKind → Bool
kind_is_list (Array' size) = false
kind_is_list (Function' z parameters scope) = true

abbrev pub suffixes_are_list : List Suffix → Option Bool
suffixes_are_list [] = None
suffixes_are_list (x ∷ rest) = Some (kind_is_list (out-Suffix x).kind)

-- of a declarator without what stands in its parentheses
abbrev pub own_is_list : Declarator → Option Bool
own_is_list d = option_or (suffixes_are_list (out-Declarator d).suffixes) (pointer_is_list (out-Declarator d).pointers)

-- ---- what derivations make last

abbrev pub is_function_made : Option Derivation → Bool
is_function_made None = false
is_function_made (Some d) = is_function_derivation d
