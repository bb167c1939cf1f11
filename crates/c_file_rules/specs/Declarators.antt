-- What declarators make, without what stands in them: types, sizes of arrays and lists of parameters (C11 6.7.6).
use Rattle.std.specs.Prelude.{ℕ, ◌==◌, ◌&&◌, Bool, true, false, not, is_some, int_le, pos, List, [], ◌∷◌, ◌++◌, map, if◌then◌else◌, Option, Some, None, Result, Ok, Err}
use Rattle.std.specs.Option.{option_or}
use Rattle.filc_num.specs.CIntTypes.{int_type_of}
use Rattle.filc_num.specs.Integers.{value_of}
use Rattle.c_syntax.specs.declared.words.Storage.{Storage}
use Rattle.c_syntax.specs.declared.words.Storage.TheVariants as storage
use Rattle.c_syntax.specs.declared.expr.Member.{end_of-Declarator, more_of-Declarator}
use Rattle.c_syntax.specs.declared.expr.Declarator.{Declarator, Declarator', out-Declarator, Row_of-Suffix, end_of-Suffix, more_of-Suffix}
use Rattle.c_syntax.specs.declared.expr.Core.{Core, Name as CoreName, Parens' as CoreParens', Nothing as NoCore}
use Rattle.c_syntax.specs.declared.expr.SuffixKind.{Array', Function'}
use Rattle.c_types.specs.declared.ctype.CType.{CType}
use Rattle.c_types.specs.declared.ctype.CType.TheVariants.{Function}
use Rattle.c_types.specs.declared.ctype.ElementCount.{ElementCount}
use Rattle.c_types.specs.declared.ctype.Part.{Part}
use Rattle.c_types.specs.declared.derivation.Derivation.{Derivation}
use Rattle.c_types.specs.declared.derivation.Derivation.TheVariants as derivation
use Rattle.c_types.specs.declared.rule.TypeRule.{TypeRule}
use Rattle.c_types.specs.Declarators.{shape_at}
use Rattle.c_types.specs.Derivations.{lowest_rule}
use Rattle.c_types.specs.Sizes.{room_of}
use Rattle.c_rules.specs.declared.rule.Rule.{Rule as CRule}
use Rattle.c_rules.specs.Rules.{number_of}
use Rattle.c_tree.specs.declared.declared.Declared.{Declared}
use Rattle.c_tree.specs.declared.declared.Declared.TheVariants as declared
use Rattle.c_tree.specs.declared.declared.Definition.TheVariants as definition
use Rattle.c_tree.specs.declared.declared.Linkage.TheVariants.{NoLinkage}
use Rattle.c_tree.specs.declared.declared.ObjectNumber.TheVariants.{Local}
use Rattle.c_declarators.specs.declared.parameters.ParameterType.{ParameterType}
use Rattle.c_declarators.specs.Outermost.{with_outermost}
use Rattle.c_type_rules.specs.Members.{rule_of_room}
use Rattle.c_declarations.specs.Declarations.{known_rule}
use Rattle.c_declarations.specs.ParameterTypes.{parameters_in, rule_of_list}
use Rattle.c_declarators.specs.Parameters.{says_none}
use Rattle.c_scope.specs.Scopes.{InnerNames}
use Rattle.c_expr_rules.specs.Outcomes.{State, Checked, Fine, Rule, next, by_rules, ◌breaks◌}
use Rattle.c_expr_rules.specs.TypedExpressions.{type_at}
use Rattle.c_expr_rules.specs.declared.typed.Typed.{Typed}
use Rattle.c_expr_rules.specs.Operators.{kind_in}
use Rattle.c_expr_rules.specs.Contexts.{is_integer_constant}
use Rattle.c_file_rules.specs.Types.{Table, count_of, derived, parameter_list, adjusted}
use Rattle.c_file_rules.specs.Naming.{is_again, declares, with_types}
use Rattle.c_file_rules.specs.Constructs.{Here}
-- of a list: its storage class, its type, and whether it declares something by itself
pub use Rattle.c_file_rules.specs.declared.parts.Said.{Said}
-- a parameter: its name, the line of its declarator, and its type or the rule that its declarator breaks
pub use Rattle.c_file_rules.specs.declared.parts.Listed.{Listed}
-- a list of parameters, with the scope that it leaves to a body
pub use Rattle.c_file_rules.specs.declared.parts.Prototype.{Prototype}
-- a declarator's derivations, in the order in which they are applied, and its list of parameters that is nearest to the
-- name
pub use Rattle.c_file_rules.specs.declared.parts.Formed.{Formed}

abbrev pub plain : Formed
plain = record { derivations = []; prototype = None }

abbrev pub array_formed : Derivation → Formed
array_formed d = record { derivations = d ∷ []; prototype = None }

-- ---- what stands nearest to the name

-- whether what stands nearest to a declarator's name is a list of parameters, where anything stands there
abbrev pub suffix_is_list : {m : _} → Row_of-Suffix m → Option Bool
suffix_is_list end_of-Suffix = None
suffix_is_list (more_of-Suffix span (Function' z parameters scope) rest) = Some true
suffix_is_list (more_of-Suffix span (Array' size) rest) = Some false

abbrev pub pointer_is_list : {A : Type 0} → List A → Option Bool
pointer_is_list [] = None
pointer_is_list (p ∷ pointers) = Some false

abbrev mutual
  pub nearest_is_list : Declarator → Option Bool
  nearest_is_list (Declarator' span name pointers core z suffixes) =
      option_or (core_is_list core) (option_or (suffix_is_list suffixes) (pointer_is_list pointers))

  pub core_is_list : Core → Option Bool
  core_is_list (CoreName span name) = None
  core_is_list NoCore = None
  core_is_list (CoreParens' p (more_of-Declarator inside end_of-Declarator)) = nearest_is_list inside

-- whether a function is declared, where nothing beside the name says that a function is named
abbrev pub if_alone : Bool → Option Bool → Bool
if_alone names_function None = names_function
if_alone names_function (Some is_list) = is_list

abbrev pub is_function_declared : (names_function : Bool) → Declarator → Bool
is_function_declared names_function d = if_alone names_function (nearest_is_list d)

abbrev pub line_of : Declarator → ℕ
line_of d = (out-Declarator d).span.line

abbrev pub name_of : Declarator → Option ℕ
name_of d = (out-Declarator d).name

-- ---- types

abbrev pub is_function : CType → Bool
is_function (Function signature) = true
is_function _ = false

-- a type that derivations make of a base, or the first rule that they break
abbrev pub type_rule : State → Part → List Derivation → Option TypeRule
type_rule s base ds = lowest_rule (shape_at s.table base.number) None ds

abbrev pub made_type : State → Part → List Derivation → State × Part
made_type s base ds = let made = derived s.table base ds in (with_types made.0 s, made.1)

-- a declarator over its base, with the rules that the thing it declares adds
abbrev pub declarator_with : (line : ℕ) → Bool → Option CRule → State × Part → (State → Part → List Rule)
    → Checked Part
declarator_with line is_again None made rules = by_rules line (rules made.0 made.1) made.0 made.1
declarator_with line is_again (Some r) made rules =
    by_rules line (2 breaks is_again ∷ number_of r breaks true ∷ []) made.0 made.1

-- where it has no type, it is declared again if no type would do
abbrev pub declarator_type : (line : ℕ) → (is_again : Bool) → State → Part → List Derivation → (State
    → Part → List Rule) → Checked Part
declarator_type line is_again s base ds rules =
    declarator_with line is_again (known_rule (type_rule s base ds)) (made_type s base ds) rules

abbrev pub size_rule : State → Part → Option CRule
size_rule s p = rule_of_room (room_of (type_at s p.number))

-- whether the last of the derivations, which is nearest to the name, makes a function
abbrev pub is_function_derivation : Derivation → Bool
is_function_derivation (derivation.Function list more) = true
is_function_derivation (derivation.BadFunction broken) = true
is_function_derivation _ = false

abbrev pub makes_function : List Derivation → Bool
makes_function [] = false
makes_function (d ∷ []) = is_function_derivation d
makes_function (d ∷ ds) = makes_function ds

-- ---- arrays' sizes: a count where the constant is one, at least 1 (6.7.6.2p1)

abbrev pub is_positive : Typed → ℕ → Bool
is_positive t v = not (v == 0) && int_le (pos 0) (value_of (int_type_of (kind_in t)) v)

abbrev pub size_of_count : Option ElementCount → Derivation
size_of_count None = derivation.BadArray
size_of_count (Some c) = derivation.Array c

abbrev pub size_derivation : Typed → Option ℕ → Derivation
size_derivation t None = derivation.BadArray
size_derivation t (Some v) =
    if is_integer_constant t && is_positive t v then size_of_count (count_of v) else derivation.BadArray

-- ---- lists of parameters

abbrev pub parameter_type : Listed → ParameterType
parameter_type p = record { ty = p.ty; has_name = is_some p.name }

-- the types of parameters after their adjustment
abbrev pub adjusted_one : Table → Result Part TypeRule → Table × List ℕ
adjusted_one t (Ok p) = let made = adjusted t p in (made.0, made.1.number ∷ [])
adjusted_one t (Err broken) = (t, [])

abbrev pub adjusted_types : Table → List ParameterType → Table × List ℕ
adjusted_types t [] = (t, [])
adjusted_types t (p ∷ ps) =
    let first = adjusted_one t p.ty in let rest = adjusted_types first.0 ps in (rest.0, first.1 ++ rest.1)

abbrev pub list_derivation : Option TypeRule → ℕ → Derivation
list_derivation None list = derivation.Function list false
list_derivation (Some broken) list = derivation.BadFunction broken

-- the parameters that there are: a void alone says that there are none
abbrev pub kept : Table → List Listed → List Listed
kept t listed = if says_none t (map parameter_type listed) then [] else listed

abbrev pub function_formed : State → InnerNames → List Listed → State × Formed
function_formed s scope listed =
    let ps = map parameter_type listed in
    let types = adjusted_types s.table (parameters_in s.table ps) in
    let made = parameter_list types.0 types.1 in
    let list = list_derivation (rule_of_list s.table ps) made.1 in
    let prototype : Prototype = record { listed = kept s.table listed; scope = scope } in
    (with_types made.0 s, record { derivations = list ∷ []; prototype = Some prototype })

-- ---- parameters: one with a name is declared, and its declarator is a construct

abbrev pub outermost_one : Option ElementCount → List Derivation → List Derivation
outermost_one None ds = ds
outermost_one (Some one) ds = with_outermost one ds

-- an array of a size that isn't said is adjusted to a pointer, so any size does
abbrev pub outermost_pointer : List Derivation → List Derivation
outermost_pointer ds = outermost_one (count_of 1) ds

abbrev pub parameter_object : (line index : ℕ) → Bool → Part → Declared
parameter_object line index is_register ty =
    declared.Object (record {
      line = line;
      ty = ty;
      number = Local index;
      linkage = NoLinkage;
      is_register = is_register;
      definition = definition.Full;
    })

abbrev pub is_register_word : Option Storage → Bool
is_register_word (Some storage.Register) = true
is_register_word _ = false

-- void and what has no size; a structure is the function's declarator's rule
abbrev pub size_number : Option CRule → List Rule
size_number None = []
size_number (Some r) = number_of r breaks true ∷ []

abbrev pub parameter_rules : Here → (name line index : ℕ) → Bool → State → Part → List Rule
parameter_rules here name line index is_register s p =
    2 breaks is_again here.around s name (parameter_object line index is_register p) ∷ size_number (size_rule s p)

abbrev pub unnamed_type : Option TypeRule → State × Part → Result Part TypeRule
unnamed_type None made = Ok made.1
unnamed_type (Some broken) made = Err broken

abbrev pub parameter_found : Here → (line index : ℕ) → Said → Option ℕ → State → List Derivation → Checked Listed
parameter_found here line index said None s ds =
    let made = made_type s said.ty ds in
    Fine made.0 (record { name = None; line = line; ty = unnamed_type (type_rule s said.ty ds) made })
parameter_found here line index said (Some name) s ds =
    let is_register = is_register_word said.storage in
    let again = is_again here.around s name (parameter_object line index is_register said.ty) in
    next (declarator_type line again s said.ty ds (λ s p. [])) (λ s p.
    let made = adjusted s.table p in
    by_rules line (parameter_rules here name line index is_register (with_types made.0 s) made.1)
    (declares here.around (with_types made.0 s) name (parameter_object line index is_register made.1))
    (record { name = Some name; line = line; ty = Ok made.1 }))
