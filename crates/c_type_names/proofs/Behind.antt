-- What is looked at behind the first part of each construct, and what the whole is made of.
use Rattle.std.proofs.Common.{◌≡◌, ℕ, Bool, false, List, [], ◌++◌, map, reverse, Some, None, refl, ap₂}
use Rattle.std.specs.Prelude.{◌||◌, Option}
use Rattle.std.specs.Option.{option_or}
use Rattle.c_syntax.specs.declared.expr.Declarator.{Declarator, out-Declarator}
use Rattle.c_syntax.specs.declared.expr.Parameter.{Parameter, out-Parameter}
use Rattle.c_syntax.specs.declared.expr.Specifiers.{Specifiers, out-Specifiers}
use Rattle.c_syntax.specs.declared.expr.TypeName.{TypeName, out-TypeName}
use Rattle.c_types.specs.declared.ctype.Part.{Part}
use Rattle.c_types.specs.declared.derivation.Derivation.{Derivation}
use Rattle.c_specifiers.specs.declared.list.Standing.{Standing}
use Rattle.c_scope.specs.Scopes.{innermost_scope}
use Rattle.c_declarators.specs.Declarators.{pointer_derivation}
use Rattle.c_expr_rules.specs.Outcomes.{State, Checked, Rule, Fine, next, by_rules}
use Rattle.c_expr_rules.specs.declared.typed.Typed.{Typed}
use Rattle.c_file_rules.specs.Constructs.{Here}
use Rattle.c_check_expr.proofs.Outcomes.{next_same}
use Rattle.c_declarations.specs.Declarations.{known_rule}
use Rattle.c_rules.specs.declared.rule.Rule.{Rule as CRule}
use Rattle.c_file_rules.specs.Naming.{out_of_scope}
use Rattle.c_file_rules.specs.Declarators.{declarator_type, declarator_with, type_rule, made_type, line_of, name_of}
use Rattle.c_file_rules.specs.Specifiers.{Follows, OneDeclarator, specified, specifiers_said, formed, with_declared, atomic_found}
use Rattle.c_file_rules.specs.Tags.{member_rules, named_member, with_member}
use Rattle.c_file_rules.specs.declared.member_list.MembersSeen.{MembersSeen}
use Rattle.c_file_rules.specs.declared.parts.Formed.{Formed}
use Rattle.c_file_rules.specs.declared.parts.Listed.{Listed}
use Rattle.c_file_rules.specs.declared.parts.Parts.{Parts}
use Rattle.c_file_rules.specs.declared.parts.Said.{Said}
use Rattle.c_file_rules.specs.declared.parts.Suffixed.{Suffixed}
use Rattle.c_type_parts.specs.Lists.{seen_follows, suffix_list, suffix_by_parameters, member_declarator_list, member_declared, parameter_of}
use Rattle.c_type_parts.specs.declared.said.Follows.{Follows as FollowsInCode}
use Rattle.c_type_parts.specs.declared.said.Follows.TheVariants as follows

-- ---- type names and lists of specifiers

-- a place where one declarator follows
pub said_at :
    (here : Here) (s : State) (specifiers : Specifiers) (standing wanted : Standing) (after : FollowsInCode) →
    standing ≡ wanted → after ≡ follows.OneDeclarator →
    specifiers_said here standing (seen_follows after) s specifiers ≡ specifiers_said here wanted OneDeclarator s specifiers
said_at here s specifiers standing wanted after p q =
    ap₂ (λ w a. specifiers_said here w (seen_follows a) s specifiers) p q

abbrev pub said_with : Said → State → Part → Checked Said
said_with said s p = Fine s (record said { ty = p })

abbrev pub type_made : TypeName → Said → State → Formed → Checked Said
type_made name said s f =
    next (declarator_type (line_of (out-TypeName name).declarator) false s said.ty f.derivations (λ s p. [])) (said_with said)

abbrev pub type_behind : Here → TypeName → State → Said → Checked Said
type_behind here name s said = next (formed here s (out-TypeName name).declarator) (type_made name said)

-- a list at its end, with what is declared since the state before it
abbrev pub list_behind : Specifiers → Standing → Follows → State → State → Parts → Checked Said
list_behind specifiers place follows before s p =
    specified (out-Specifiers specifiers).span.line place follows (out-Specifiers specifiers).list s (with_declared before s p)

-- ---- specifiers and members

abbrev pub atomic_behind : Parts → State → Said → Checked Parts
atomic_behind p s said = Fine s (atomic_found s said p)

abbrev pub also : MembersSeen → Bool → MembersSeen
also so_far declares = record so_far { declares = so_far.declares || declares }

abbrev pub declarators_behind : Here → MembersSeen → List Declarator → State → Said → Checked MembersSeen
declarators_behind here so_far declarators s said = member_declarator_list here s said.ty (also so_far said.declares) declarators

abbrev pub as_before : MembersSeen → State → Typed → Checked MembersSeen
as_before so_far s t = Fine s so_far

abbrev pub member_made : Declarator → MembersSeen → State → Part → Checked MembersSeen
member_made d so_far s p = Fine s (with_member (named_member (name_of d) p) so_far)

abbrev pub member_obeyed : Declarator → MembersSeen → State → Part → Checked MembersSeen
member_obeyed d so_far s p =
    next (by_rules (line_of d) (member_rules (name_of d) so_far.members s p) s p) (member_made d so_far)

abbrev pub member_behind : Part → Declarator → MembersSeen → State → Formed → Checked MembersSeen
member_behind base d so_far s f =
    next (declarator_type (line_of d) false s base f.derivations (λ s p. [])) (member_obeyed d so_far)

-- rules of what is declared are looked at where there is a type
rules_behind :
    {A : Type 0} (line : ℕ) (broken : Option CRule) (made : State × Part) (rules : State → Part → List Rule) (go : State → Part → Checked A) →
    next (declarator_with line false broken made rules) go
    ≡ next (declarator_with line false broken made (λ s p. [])) (λ s p. next (by_rules line (rules s p) s p) go)
rules_behind line None made rules go = refl
rules_behind line (Some r) made rules go = refl

pub member_is :
    (here : Here) (s : State) (base : Part) (so_far : MembersSeen) (d : Declarator) →
    member_declared here s base so_far d ≡ next (formed here s d) (member_behind base d so_far)
member_is here s base so_far d =
    next_same (formed here s d)
    (λ s f. next (declarator_type (line_of d) false s base f.derivations (member_rules (name_of d) so_far.members)) (member_made d so_far))
    (member_behind base d so_far) (λ s f.
    rules_behind (line_of d) (known_rule (type_rule s base f.derivations)) (made_type s base f.derivations) (member_rules (name_of d) so_far.members) (member_made d so_far))

-- ---- declarators

abbrev pub joined_behind : Declarator → Formed → State → Formed → Checked Formed
joined_behind d inside s own =
    Fine s (record {
      derivations = map pointer_derivation (out-Declarator d).pointers ++ reverse own.derivations ++ inside.derivations;
      prototype = option_or inside.prototype own.prototype;
    })

abbrev pub suffixes_behind : Here → Declarator → State → Formed → Checked Formed
suffixes_behind here d s inside = next (suffix_list here s (out-Declarator d).suffixes) (joined_behind d inside)

abbrev pub array_behind : State → Derivation → Checked Suffixed
array_behind s d = Fine s (record { derivation = d; prototype = None })

abbrev pub function_behind : State → List Listed → Checked Suffixed
function_behind s listed = suffix_by_parameters (out_of_scope s) (innermost_scope s.above.names) listed

abbrev pub parameter_made : Here → Parameter → (index : ℕ) → Said → State → Formed → Checked Listed
parameter_made here p index said s f = parameter_of here (out-Parameter p).declarator index said s f

abbrev pub parameter_behind : Here → Parameter → (index : ℕ) → State → Said → Checked Listed
parameter_behind here p index s said = next (formed here s (out-Parameter p).declarator) (parameter_made here p index said)
