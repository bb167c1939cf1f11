-- What specifiers say and declarators make, with all that stands in them (C11 6.7.2, 6.7.6, 6.7.7, 6.7.10).
--
-- The recursion says the order: specifiers from left to right, each with its members or constants, then the list
-- itself; a declarator's inner declarator, its suffixes from left to right, each with its size or its parameters, then
-- the declarator.
--
-- construct                              rules, the lowest first
-- list of specifiers                     2 3 5 8 23 31, and where no declarator follows 40
-- enumeration constant's expression      10
-- enumeration constant without one       2 10
-- member's declarator                    4 5 6 7 8
-- parameter's declarator, with a name    2 4 5 6 7
-- type name's declarator                 4 5 6 7
-- array's size                           10
-- assertion's condition                  10 32
use Rattle.std.specs.Prelude.{ℕ, zero, suc, ◌+◌, nat_lt, ◌&&◌, ◌||◌, Bool, true, false, not, List, [], ◌∷◌, ◌++◌, map, reverse, length, Option, Some, None, Result, Ok, Err}
use Rattle.std.specs.List.{list_any}
use Rattle.std.specs.Option.{option_or}
use Rattle.c_syntax.specs.declared.words.Storage.{Storage}
use Rattle.c_syntax.specs.declared.words.Storage.TheVariants as storage
use Rattle.c_syntax.specs.declared.expr.TypeName.{TypeName, TypeName'}
use Rattle.c_syntax.specs.declared.expr.Specifier.{Specifier}
use Rattle.c_syntax.specs.declared.expr.Specifiers.{Specifiers, Specifiers', out-Specifiers, Row_of-Specifier, end_of-Specifier, more_of-Specifier}
use Rattle.c_syntax.specs.declared.expr.SpecifierKind.{SpecifierKind, Storage as StorageWord, Function as FunctionWord, Qualifier, Basic, Atomic', Record', Enum', TypedefName, end_of-TypeName, more_of-TypeName, Row_of-Member, end_of-Member, more_of-Member, SpecifierKind-Record-2-None' as NoMembers, SpecifierKind-Record-2-Some' as Members, Row_of-EnumConstant, end_of-EnumConstant, more_of-EnumConstant, SpecifierKind-Enum-1-None' as NoConstants, SpecifierKind-Enum-1-Some' as Constants}
use Rattle.c_syntax.specs.declared.expr.Member.{Member, Declares', Asserts', Row_of-Declarator, end_of-Declarator, more_of-Declarator}
use Rattle.c_syntax.specs.declared.expr.EnumConstant.{EnumConstant, EnumConstant'}
use Rattle.c_syntax.specs.declared.expr.Declarator.{Declarator, Declarator', Row_of-Suffix, end_of-Suffix, more_of-Suffix}
use Rattle.c_syntax.specs.declared.expr.Core.{Core, Name as CoreName, Parens' as CoreParens', Nothing as NoCore}
use Rattle.c_syntax.specs.declared.expr.SuffixKind.{SuffixKind, Array', Function', SuffixKind-Array-0-None' as NoExpr, SuffixKind-Array-0-Some' as SomeExpr, Row_of-Parameter, end_of-Parameter, more_of-Parameter}
use Rattle.c_syntax.specs.declared.expr.Parameter.{Parameter'}
use Rattle.c_syntax.specs.Values.{expr_of}
use Rattle.c_types.specs.declared.ctype.CType.{CType}
use Rattle.c_types.specs.declared.ctype.Part.{Part}
use Rattle.c_types.specs.declared.derivation.Derivation.TheVariants as derivation
use Rattle.c_types.specs.declared.entry.Tag.TheVariants as tag
use Rattle.c_types.specs.Declarators.{type_in}
use Rattle.c_rules.specs.declared.rule.Rule.{Rule as CRule}
use Rattle.c_rules.specs.declared.rule.Rule.TheVariants as rule
use Rattle.c_specifiers.specs.declared.list.Standing.{Standing}
use Rattle.c_specifiers.specs.declared.list.Standing.TheVariants as standing
use Rattle.c_specifiers.specs.declared.names.NameFault.{NameFault}
use Rattle.c_specifiers.specs.NamesOfTypes.{typedef_type}
use Rattle.c_declarators.specs.Declarators.{pointer_derivation}
use Rattle.c_type_rules.specs.Atomic.{atomic_type}
use Rattle.c_declarations.specs.Specified.{lowest, rule_of_specifiers, storage_in_list, named_in_list, set_in_list}
use Rattle.c_declarations.specs.declared.specifier_list.Named.{Named}
use Rattle.c_declarations.specs.declared.specifier_list.Named.TheVariants as named
use Rattle.c_expr_rules.specs.Outcomes.{State, Checked, Fine, next, by_rules, ◌breaks◌}
use Rattle.c_expr_rules.specs.TypedExpressions.{type_at, part_of}
use Rattle.c_expr_rules.specs.Expressions.{Around}
use Rattle.c_expr_rules.specs.Contexts.{constant_in, enumeration_constant, assertion_constant, without_fault}
use Rattle.c_scope.specs.Blocks.{innermost}
use Rattle.c_scope.specs.Scopes.{innermost_scope}
use Rattle.c_file_rules.specs.Types.{Table, with_type, qualified}
use Rattle.c_file_rules.specs.Naming.{in_scope, out_of_scope, with_types}
use Rattle.c_file_rules.specs.Constructs.{Here, when, by_rule}
use Rattle.c_file_rules.specs.Declarators.{Said, Listed, Formed, plain, array_formed, is_function_declared, line_of, name_of, is_function, declarator_type, size_derivation, function_formed, outermost_pointer, parameter_found}
use Rattle.c_file_rules.specs.Tags.{Parts, kind_of_word, with_part, tag_alone, type_to_list, MembersSeen, no_members, with_member, named_member, member_rules, record_found, Counted, counted_constant, valued_constant, enum_found}

-- what follows a list of specifiers: the declarators of a declaration, or one declarator by the grammar
pub data Follows : Type 0 where
  Declarators : List Declarator → Follows
  OneDeclarator : Follows

-- ---- lists of specifiers

abbrev pub no_parts : Parts
no_parts = record { whole = None; broken = None; declares = false }

abbrev pub storage_or : Option (Option Storage) → Option Storage
storage_or None = None
storage_or (Some word) = word

abbrev pub type_or : Option (Result Part CRule) → Part
type_or (Some (Ok part)) = part
type_or _ = part_of 0 0

-- the type that is named, without the qualifiers of the list
abbrev pub named_plain : State → Option (Result Part CRule) → Option Named → Table × Part
named_plain s whole (Some (named.Basic ty)) = with_type s.table ty
named_plain s whole (Some named.Whole) = (s.table, type_or whole)
named_plain s whole None = (s.table, type_or whole)

abbrev pub said_by : Standing → List Specifier → State → Parts → State × Said
said_by place list s p =
    let plain = named_plain s p.whole (named_in_list list) in
    let made = qualified plain.0 plain.1 (set_in_list list).0 in (
      with_types made.0 s,
      record {
        storage = storage_or (storage_in_list place list);
        ty = made.1;
        declares = p.declares;
      },
    )

-- in a block a function has no storage word but `extern` (6.7.1p7), and a `for` declares none, with a storage word or
-- without (6.8.5p3)
abbrev pub forbids_functions : Standing → Option Storage → Bool
forbids_functions standing.Block (Some storage.Extern) = false
forbids_functions standing.Block (Some storage.Typedef) = false
forbids_functions standing.Block (Some word) = true
forbids_functions standing.ForStart word = true
forbids_functions place word = false

abbrev pub declarators_in : Follows → List Declarator
declarators_in (Declarators ds) = ds
declarators_in OneDeclarator = []

-- what is declared is a function, and its place forbids it with this storage word
abbrev pub is_misplaced : Standing → Follows → (names_function : Bool) → Option Storage → Bool
is_misplaced place follows names_function word =
    forbids_functions place word && list_any (is_function_declared names_function) (declarators_in follows)

abbrev pub names_function : Option CRule → CType → Bool
names_function None ty = is_function ty
names_function (Some r) ty = false

abbrev pub declares_nothing : Follows → Parts → Bool
declares_nothing (Declarators []) p = not p.declares
declares_nothing follows p = false

-- how many names this scope has, a tag's as often as it is named in a new way
abbrev pub names_here : State → ℕ
names_here s = length (innermost s.above.names.ordinary) + length (innermost s.above.names.tags)

-- a tag or a constant that is declared in a size or a constant counts as well
abbrev pub with_declared : (before after : State) → Parts → Parts
with_declared before after p =
    record p { declares = p.declares || nat_lt (names_here before) (names_here after) }

-- the rules of a list that names this type
abbrev pub list_rule : Standing → Follows → List Specifier → State → Parts → Said → Option CRule
list_rule place follows list s p said =
    let broken = lowest p.broken (rule_of_specifiers s.table place list p.whole) in
    let has_function = names_function broken (type_at s said.ty.number) in
    lowest (lowest broken (when (is_misplaced place follows has_function said.storage) rule.BadSpecifiers))
    (when (declares_nothing follows p) rule.NothingDeclared)

abbrev pub specified : (line : ℕ) → Standing → Follows → List Specifier → State → Parts → Checked Said
specified line place follows list s p =
    let said = said_by place list s p in by_rule line (list_rule place follows list said.0 p said.1) said.0 said.1

-- `struct s;` alone: one specifier, which is a tag, and no declarator (6.7.2.3p7)
abbrev pub is_tag_kind : SpecifierKind → Bool
is_tag_kind (Record' word (Some name) NoMembers) = true
is_tag_kind _ = false

abbrev pub is_tag_alone : Follows → List Specifier → Bool
is_tag_alone (Declarators []) (x ∷ []) = is_tag_kind x.kind
is_tag_alone follows list = false

abbrev pub typedef_found : Here → State → ℕ → Result Part NameFault → Parts → Parts
typedef_found here s name (Ok part) so_far = with_part false (Ok part) so_far
typedef_found here s name (Err fault) so_far = with_part false (Err rule.UnknownName) so_far

abbrev pub atomic_found : State → Said → Parts → Parts
atomic_found s said so_far = with_part said.declares (atomic_type (type_in s.table said.ty.number) said.ty) so_far

-- ---- the recursion

abbrev mutual
  -- a type name (6.7.7)
  pub type_said : Here → State → TypeName → Checked Said
  type_said here s (TypeName' span specifiers d) =
      next (specifiers_said here standing.TypeName OneDeclarator s specifiers) (λ s said.
      next (formed here s d) (λ s f.
      next (declarator_type (line_of d) false s said.ty f.derivations (λ s p. [])) (λ s p.
      Fine s (record said { ty = p }))))

  pub specifiers_said : Here → Standing → Follows → State → Specifiers → Checked Said
  specifiers_said here place follows s (Specifiers' span z list) =
      let specifiers = (out-Specifiers (Specifiers' span z list)).list in
      next (specifiers_in here (is_tag_alone follows specifiers) s no_parts list) (λ after p.
      specified span.line place follows specifiers after (with_declared s after p))

  pub specifiers_in : {m : _} → Here → Bool → State → Parts → Row_of-Specifier m → Checked Parts
  specifiers_in here is_alone s p end_of-Specifier = Fine s p
  specifiers_in here is_alone s p (more_of-Specifier span k rest) =
      next (specifier_found here is_alone s p k) (λ s p. specifiers_in here is_alone s p rest)

  pub specifier_found : Here → Bool → State → Parts → SpecifierKind → Checked Parts
  specifier_found here is_alone s p (StorageWord word) = Fine s p
  specifier_found here is_alone s p (FunctionWord word) = Fine s p
  specifier_found here is_alone s p (Qualifier word) = Fine s p
  specifier_found here is_alone s p (Basic word) = Fine s p
  specifier_found here is_alone s p (Atomic' z (more_of-TypeName ty end_of-TypeName)) =
      next (type_said here s ty) (λ s said. Fine s (atomic_found s said p))
  specifier_found here is_alone s p (TypedefName name) =
      Fine s (typedef_found here s name (typedef_type (s.visible (here.around.spelling name))) p)
  specifier_found here is_alone s p (Record' word name NoMembers) =
      let found = tag_alone here s is_alone (kind_of_word word) name p in Fine found.0 found.1
  specifier_found here is_alone s p (Record' word name (Members z members)) =
      let ty = type_to_list here s (kind_of_word word) name in
      next (members_found here ty.0 no_members members) (λ s seen. record_found here word name ty.1 p s seen)
  specifier_found here is_alone s p (Enum' name NoConstants) =
      let found = tag_alone here s false tag.Enumeration name p in Fine found.0 found.1
  specifier_found here is_alone s p (Enum' name (Constants z constants)) =
      next (constants_found here s (record { value = 0; is_again = false }) constants)
      (λ s c. enum_found here name p s c)

  pub members_found : {m : _} → Here → State → MembersSeen → Row_of-Member m → Checked MembersSeen
  members_found here s so_far end_of-Member = Fine s so_far
  members_found here s so_far (more_of-Member member rest) =
      next (member_found here s so_far member) (λ s so_far. members_found here s so_far rest)

  pub member_found : Here → State → MembersSeen → Member → Checked MembersSeen
  member_found here s so_far (Declares' span specifiers z declarators) =
      next (specifiers_said here standing.Member OneDeclarator s specifiers) (λ s said.
      member_declarators here s said.ty (record so_far { declares = so_far.declares || said.declares }) declarators)
  member_found here s so_far (Asserts' span s1 k1 text) =
      next (assertion_constant here.around s (expr_of (s1, k1))) (λ s t. Fine s so_far)

  pub member_declarators : {m : _} → Here → State → Part → MembersSeen → Row_of-Declarator m → Checked MembersSeen
  member_declarators here s base so_far end_of-Declarator = Fine s so_far
  member_declarators here s base so_far (more_of-Declarator d rest) =
      next (formed here s d) (λ s f.
      next (declarator_type (line_of d) false s base f.derivations (member_rules (name_of d) so_far.members)) (λ s p.
      member_declarators here s base (with_member (named_member (name_of d) p) so_far) rest))

  pub constants_found : {m : _} → Here → State → Counted → Row_of-EnumConstant m → Checked Counted
  constants_found here s c end_of-EnumConstant = Fine s c
  constants_found here s c (more_of-EnumConstant constant rest) =
      next (constant_found here s c constant) (λ s c. constants_found here s c rest)

  pub constant_found : Here → State → Counted → EnumConstant → Checked Counted
  constant_found here s c (EnumConstant' span name NoExpr) = counted_constant here span.line name s c
  constant_found here s c (EnumConstant' span name (SomeExpr s1 k1)) =
      next (enumeration_constant here.around s (expr_of (s1, k1)))
      (λ s t. valued_constant here name s c (constant_in t.known) t)

  -- a declarator's pointers come first, then its suffixes from right to left, then what stands in its parentheses
  -- (6.7.6p4)
  pub formed : Here → State → Declarator → Checked Formed
  formed here s (Declarator' span name pointers core z suffixes) =
      next (core_formed here s core) (λ s inside.
      next (suffixes_formed here s suffixes) (λ s own.
      Fine s (record {
        derivations = map pointer_derivation pointers ++ reverse own.derivations ++ inside.derivations;
        prototype = option_or inside.prototype own.prototype;
      })))

  pub core_formed : Here → State → Core → Checked Formed
  core_formed here s (CoreName span name) = Fine s plain
  core_formed here s NoCore = Fine s plain
  core_formed here s (CoreParens' p (more_of-Declarator inside end_of-Declarator)) = formed here s inside

  -- suffixes, from left to right
  pub suffixes_formed : {m : _} → Here → State → Row_of-Suffix m → Checked Formed
  suffixes_formed here s end_of-Suffix = Fine s plain
  suffixes_formed here s (more_of-Suffix span k rest) =
      next (suffix_formed here s k) (λ s first.
      next (suffixes_formed here s rest) (λ s others.
      Fine s (record {
        derivations = first.derivations ++ others.derivations;
        prototype = option_or first.prototype others.prototype;
      })))

  pub suffix_formed : Here → State → SuffixKind → Checked Formed
  suffix_formed here s (Array' NoExpr) = Fine s (array_formed derivation.OpenArray)
  suffix_formed here s (Array' (SomeExpr s1 k1)) =
      next (without_fault here.around s (expr_of (s1, k1))) (λ s t.
      Fine s (array_formed (size_derivation t (constant_in t.known))))
  suffix_formed here s (Function' z parameters scope) =
      next (parameters_found here (in_scope s) [] parameters) (λ s listed.
      let made = function_formed (out_of_scope s) (innermost_scope s.above.names) listed in Fine made.0 made.1)

  pub parameters_found : {m : _} → Here → State → List Listed → Row_of-Parameter m → Checked (List Listed)
  parameters_found here s so_far end_of-Parameter = Fine s so_far
  parameters_found here s so_far (more_of-Parameter (Parameter' span specifiers d) rest) =
      next (specifiers_said here standing.Parameter OneDeclarator s specifiers) (λ s said.
      next (formed here s d) (λ s f.
      let ds = outermost_pointer f.derivations in
      next (parameter_found here (line_of d) (length so_far) said (name_of d) s ds) (λ s p.
      parameters_found here s (so_far ++ p ∷ []) rest)))

-- ---- what is round expressions, where type names nest so deep

abbrev pub type_named : Here → State → TypeName → Checked Part
type_named here s ty = next (type_said here s ty) (λ s said. Fine s said.ty)

-- where more nest than the grammar lets, the innermost names no type
abbrev pub no_type_named : State → TypeName → Checked Part
no_type_named s (TypeName' span specifiers d) = by_rules span.line (3 breaks true ∷ []) s (part_of 0 0)

-- a type name has expressions in which one nests less
abbrev pub around_at : ℕ → Here → Around
around_at zero here = record here.around { named_type = no_type_named }
around_at (suc n) here =
    record here.around { named_type = (λ s ty. type_named (record here { around = around_at n here }) s ty) }

-- with the types that type names name: of a file of the grammar at most 200 nest
abbrev pub with_named_types : Here → Here
with_named_types here = record here { around = around_at 201 here }
