-- What a construct gives, by what was given of its parts.
use Rattle.std.proofs.Common.{◌≡◌, ℕ, Bool, false, List, [], ◌∷◌, ◌++◌, map, reverse, refl, sym, ap, ap₂, ◌∙◌, subst}
use Rattle.std.specs.Option.{option_or}
use Rattle.std.specs.Prelude.{◌||◌, nat_lt, length, Err}
use Rattle.c_syntax.specs.declared.expr.Declarator.{Declarator, out-Declarator}
use Rattle.c_syntax.specs.declared.expr.Pointer.{Pointer}
use Rattle.c_declarators.specs.Declarators.{pointer_derivation}
use Rattle.c_syntax.specs.declared.expr.Parameter.{Parameter, out-Parameter}
use Rattle.c_syntax.specs.declared.expr.Specifier.{Specifier}
use Rattle.c_syntax.specs.declared.expr.Specifiers.{Specifiers, out-Specifiers}
use Rattle.c_syntax.specs.declared.expr.Suffix.{Suffix, out-Suffix}
use Rattle.c_syntax.specs.declared.expr.TypeName.{TypeName, out-TypeName}
use Rattle.c_types.specs.declared.ctype.Part.{Part}
use Rattle.c_types.specs.declared.derivation.Derivation.{Derivation}
use Rattle.c_specifiers.specs.declared.list.Standing.{Standing}
use Rattle.c_specifiers.specs.declared.list.Standing.TheVariants as standing
use Rattle.c_expr_rules.specs.Outcomes.{State, Checked, Fine, next, by_rules}
use Rattle.c_expr_rules.specs.Views.{Passes, seen_state}
use Rattle.c_expr_rules.specs.declared.state.State.{State as Kept}
use Rattle.c_scope.specs.Scopes.{InnerNames, innermost_scope, without_block}
use Rattle.c_expr_rules.specs.declared.found.Fault.{Fault}
use Rattle.c_check_expr.proofs.Outcomes.{Fails, behind_passed, fails_at}
use Rattle.c_file_rules.specs.Constructs.{Here}
use Rattle.c_file_rules.specs.Declarators.{declarator_type, line_of, name_of}
use Rattle.c_file_rules.specs.Specifiers.{Follows, OneDeclarator, no_parts, names_here, is_tag_alone, specified, type_said, specifiers_said, formed}
use Rattle.c_file_rules.specs.Tags.{member_rules, named_member, with_member}
use Rattle.c_file_rules.specs.declared.member_list.MembersSeen.{MembersSeen}
use Rattle.c_file_rules.specs.declared.parts.Formed.{Formed}
use Rattle.c_file_rules.specs.declared.parts.Listed.{Listed}
use Rattle.c_file_rules.specs.declared.parts.Parts.{Parts}
use Rattle.c_file_rules.specs.declared.parts.Said.{Said}
use Rattle.c_file_rules.specs.Suffixed.{suffix_on}
use Rattle.c_file_rules.specs.declared.parts.Suffixed.{Suffixed}
use Rattle.c_type_parts.specs.Lists.{seen_follows, specifier_list, member_declared, parameter_listed, parameter_list, parameter_of, function_suffix, suffix_by_parameters, suffix_made, suffix_list_on, suffix_list}
use Rattle.c_type_parts.specs.declared.said.Follows.{Follows as FollowsInCode}
use Rattle.c_type_parts.specs.declared.said.Follows.TheVariants as follows
use Rattle.c_type_names.proofs.Behind.{said_at, said_with, type_made, type_behind, list_behind, member_made, member_obeyed, member_behind, member_is, function_behind, parameter_made, parameter_behind, joined_behind, suffixes_behind}
use Rattle.c_type_names.proofs.Chains.{goes, stops, failed_behind}
use Rattle.c_type_names.proofs.SpecifierRows.{next_next}
use Rattle.c_type_names.proofs.SpecifierTrees.{type_said_is, specifiers_said_is}

-- ---- specifiers where one declarator follows

module _ (here : Here) (s : State) (specifiers : Specifiers) (standing wanted : Standing) (after : FollowsInCode) (p : standing ≡ wanted) (q : after ≡ follows.OneDeclarator) where
  pub said_is : (t : State) (said : Said) → specifiers_said here standing (seen_follows after) s specifiers ≡ Fine t said → specifiers_said here wanted OneDeclarator s specifiers ≡ Fine t said
  said_is t said h = sym (said_at here s specifiers standing wanted after p q) ∙ h

  pub said_fails : (t : State) (f : Fault) → Passes t (Err f) (specifiers_said here standing (seen_follows after) s specifiers) → Passes t (Err f) (specifiers_said here wanted OneDeclarator s specifiers)
  said_fails t f h = subst (λ (c : Checked Said). Passes t (Err f) c) (said_at here s specifiers standing wanted after p q) h

-- ---- a type over a base

module _ (line : ℕ) (s : State) (base : Part) (ds : List Derivation) (seen : List Derivation) (same : seen ≡ ds) where
  pub typed_is : (t : State) (p : Part) → declarator_type line false s base seen (λ s p. []) ≡ Fine t p → declarator_type line false s base ds (λ s p. []) ≡ Fine t p
  typed_is t p h = ap (λ ds. declarator_type line false s base ds (λ s p. [])) (sym same) ∙ h

  pub typed_fails : (t : State) (f : Fault) → Passes t (Err f) (declarator_type line false s base seen (λ s p. [])) → Passes t (Err f) (declarator_type line false s base ds (λ s p. []))
  typed_fails t f h = subst (λ ds. Passes t (Err f) (declarator_type line false s base ds (λ s p. []))) same h

-- ---- a type name

module _ (here : Here) (s : State) (name : TypeName) where
  pub type_fails_said : (t : State) (f : Fault) → Passes t (Err f) (specifiers_said here standing.TypeName OneDeclarator s (out-TypeName name).specifiers) → Fails f (type_said here s name)
  type_fails_said t f h = fails_at f _ _ (type_said_is here s name) (behind_passed t f (specifiers_said here standing.TypeName OneDeclarator s (out-TypeName name).specifiers) (type_behind here name) h)

  module _ (t : State) (said : Said) (first : specifiers_said here standing.TypeName OneDeclarator s (out-TypeName name).specifiers ≡ Fine t said) where
    pub type_fails_formed : (u : State) (f : Fault) → Passes u (Err f) (formed here t (out-TypeName name).declarator) → Fails f (type_said here s name)
    type_fails_formed u f h =
        fails_at f _ _ (type_said_is here s name) (stops (specifiers_said here standing.TypeName OneDeclarator s (out-TypeName name).specifiers) (type_behind here name) t said f first
        (behind_passed u f (formed here t (out-TypeName name).declarator) (type_made name said) h))

    module _ (u : State) (x : Formed) (second : formed here t (out-TypeName name).declarator ≡ Fine u x) where
      pub type_fails_typed : (v : State) (f : Fault) → Passes v (Err f) (declarator_type (line_of (out-TypeName name).declarator) false u said.ty x.derivations (λ s p. [])) → Fails f (type_said here s name)
      type_fails_typed v f h =
          fails_at f _ _ (type_said_is here s name) (stops (specifiers_said here standing.TypeName OneDeclarator s (out-TypeName name).specifiers) (type_behind here name) t said f first
          (stops (formed here t (out-TypeName name).declarator) (type_made name said) u x f second (behind_passed v f (declarator_type (line_of (out-TypeName name).declarator) false u said.ty x.derivations (λ s p. [])) (said_with said) h)))

      pub type_goes : (v : State) (p : Part) → declarator_type (line_of (out-TypeName name).declarator) false u said.ty x.derivations (λ s p. []) ≡ Fine v p → type_said here s name ≡ Fine v (record said { ty = p })
      type_goes v p h =
          type_said_is here s name ∙ goes _ (type_behind here name) t said _ first
          (goes _ (type_made name said) u x _ second (goes _ (said_with said) v p _ h refl))

-- ---- a list of specifiers

module _ (here : Here) (place : Standing) (after : Follows) (s t : State) (specifiers : Specifiers) (list : List Specifier) (alone : Bool)
    (same : list ≡ (out-Specifiers specifiers).list) (is_alone : alone ≡ is_tag_alone after list) where
  listed_as : specifier_list here (is_tag_alone after (out-Specifiers specifiers).list) s no_parts (out-Specifiers specifiers).list ≡ specifier_list here alone s no_parts list
  listed_as = ap (λ l. specifier_list here (is_tag_alone after l) s no_parts l) (sym same) ∙ ap (λ b. specifier_list here b s no_parts list) (sym is_alone)

  pub list_said :
      (p q : Parts) (before behind : ℕ) →
      specifier_list here alone s no_parts list ≡ Fine t p → before ≡ names_here s → behind ≡ names_here t →
      q ≡ record p { declares = p.declares || nat_lt before behind } →
      specifiers_said here place after s specifiers ≡ specified (out-Specifiers specifiers).span.line place after list t q
  list_said p q before behind h b d e =
      specifiers_said_is here place after s specifiers
      ∙ goes _ (list_behind specifiers place after s) t p _ (listed_as ∙ h)
      (ap (λ l. specified (out-Specifiers specifiers).span.line place after l t (record p { declares = p.declares || nat_lt (names_here s) (names_here t) })) (sym same)
      ∙ ap (λ q. specified (out-Specifiers specifiers).span.line place after list t q) (sym (e ∙ ap₂ (λ b d. record p { declares = p.declares || nat_lt b d }) b d)))

  pub list_stops : (f : Fault) → Fails f (specifier_list here alone s no_parts list) → Fails f (specifiers_said here place after s specifiers)
  list_stops f h =
      fails_at f _ _ (specifiers_said_is here place after s specifiers ∙ ap (λ c. next c (list_behind specifiers place after s)) listed_as) (failed_behind f (specifier_list here alone s no_parts list) (list_behind specifiers place after s) h)

-- ---- a member's declarator

module _ (here : Here) (s : State) (base : Part) (so_far : MembersSeen) (d : Declarator) where
  pub member_fails_formed : (t : State) (f : Fault) → Passes t (Err f) (formed here s d) → Fails f (member_declared here s base so_far d)
  member_fails_formed t f h = fails_at f _ _ (member_is here s base so_far d) (behind_passed t f (formed here s d) (member_behind base d so_far) h)

  module _ (t : State) (x : Formed) (first : formed here s d ≡ Fine t x) where
    pub member_fails_typed : (u : State) (f : Fault) → Passes u (Err f) (declarator_type (line_of d) false t base x.derivations (λ s p. [])) → Fails f (member_declared here s base so_far d)
    member_fails_typed u f h =
        fails_at f _ _ (member_is here s base so_far d) (stops (formed here s d) (member_behind base d so_far) t x f first
        (behind_passed u f (declarator_type (line_of d) false t base x.derivations (λ s p. [])) (member_obeyed d so_far) h))

    module _ (u : State) (p : Part) (second : declarator_type (line_of d) false t base x.derivations (λ s p. []) ≡ Fine u p) where
      pub member_fails_rules : (f : Fault) → Passes u (Err f) (by_rules (line_of d) (member_rules (name_of d) so_far.members u p) u p) → Fails f (member_declared here s base so_far d)
      member_fails_rules f h =
          fails_at f _ _ (member_is here s base so_far d) (stops (formed here s d) (member_behind base d so_far) t x f first
          (stops (declarator_type (line_of d) false t base x.derivations (λ s p. [])) (member_obeyed d so_far) u p f second (behind_passed u f (by_rules (line_of d) (member_rules (name_of d) so_far.members u p) u p) (member_made d so_far) h)))

      pub member_goes :
          (q : Part) (more : MembersSeen) → by_rules (line_of d) (member_rules (name_of d) so_far.members u p) u p ≡ Fine u q → more ≡ with_member (named_member (name_of d) q) so_far →
          member_declared here s base so_far d ≡ Fine u more
      member_goes q more h e =
          member_is here s base so_far d ∙ goes _ (member_behind base d so_far) t x _ first
          (goes _ (member_obeyed d so_far) u p _ second (goes _ (member_made d so_far) u q _ h (ap (Fine u) (sym e))))

-- ---- a declarator

abbrev joined_of : List Pointer → Formed → Formed → Formed
joined_of pointers inside own =
    record {
      derivations = map pointer_derivation pointers ++ reverse own.derivations ++ inside.derivations;
      prototype = option_or inside.prototype own.prototype;
    }

pub joined_is :
    (d : Declarator) (inside own : Formed) (s : State) (pointers : List Pointer) (made : Formed) →
    pointers ≡ (out-Declarator d).pointers → made ≡ joined_of pointers inside own → joined_behind d inside s own ≡ Fine s made
joined_is d inside own s pointers made same is =
    ap (λ (ps : List Pointer). Fine s (joined_of ps inside own)) (sym same) ∙ ap (Fine s) (sym is)

pub own_fails :
    (here : Here) (d : Declarator) (inside : Formed) (s t : State) (f : Fault) (suffixes : List Suffix) →
    suffixes ≡ (out-Declarator d).suffixes → Passes t (Err f) (suffix_list here s suffixes) → Fails f (suffixes_behind here d s inside)
own_fails here d inside s t f suffixes same h =
    behind_passed t f (suffix_list here s (out-Declarator d).suffixes) (joined_behind d inside)
    (subst (λ (xs : List Suffix). Passes t (Err f) (suffix_list here s xs)) same h)

-- ---- a parameter

module _ (here : Here) (s : State) (index : ℕ) (p : Parameter) where
  pub parameter_fails_said : (t : State) (f : Fault) → Passes t (Err f) (specifiers_said here standing.Parameter OneDeclarator s (out-Parameter p).specifiers) → Fails f (parameter_listed here s index p)
  parameter_fails_said t f h = behind_passed t f (specifiers_said here standing.Parameter OneDeclarator s (out-Parameter p).specifiers) (parameter_behind here p index) h

  module _ (t : State) (said : Said) (first : specifiers_said here standing.Parameter OneDeclarator s (out-Parameter p).specifiers ≡ Fine t said) where
    pub parameter_fails_formed : (u : State) (f : Fault) → Passes u (Err f) (formed here t (out-Parameter p).declarator) → Fails f (parameter_listed here s index p)
    parameter_fails_formed u f h =
        stops (specifiers_said here standing.Parameter OneDeclarator s (out-Parameter p).specifiers) (parameter_behind here p index) t said f first (behind_passed u f (formed here t (out-Parameter p).declarator) (parameter_made here p index said) h)

    pub parameter_is :
        (u : State) (x : Formed) → formed here t (out-Parameter p).declarator ≡ Fine u x →
        parameter_listed here s index p ≡ parameter_of here (out-Parameter p).declarator index said u x
    parameter_is u x second =
        goes _ (parameter_behind here p index) t said _ first (goes _ (parameter_made here p index said) u x _ second refl)

-- what is found of a parameter where its place is known by this number
module _ (here : Here) (s t u : State) (index place : ℕ) (p : Parameter) (said : Said) (x : Formed) (same : place ≡ index)
    (first : specifiers_said here standing.Parameter OneDeclarator s (out-Parameter p).specifiers ≡ Fine t said)
    (second : formed here t (out-Parameter p).declarator ≡ Fine u x) where
  placed_as : parameter_listed here s index p ≡ parameter_of here (out-Parameter p).declarator place said u x
  placed_as =
      parameter_is here s index p t said first u x second
      ∙ ap (λ i. parameter_of here (out-Parameter p).declarator i said u x) (sym same)

  pub parameter_found_is :
      (v : State) (one : Listed) → parameter_of here (out-Parameter p).declarator place said u x ≡ Fine v one → parameter_listed here s index p ≡ Fine v one
  parameter_found_is v one h = placed_as ∙ h

  pub parameter_found_fails :
      (v : State) (f : Fault) → Passes v (Err f) (parameter_of here (out-Parameter p).declarator place said u x) → Passes v (Err f) (parameter_listed here s index p)
  parameter_found_fails v f h = subst (λ (c : Checked Listed). Passes v (Err f) c) (sym placed_as) h

-- ---- a function's parameters, whose scope is closed

pub function_is_found :
    (u v w : Kept) (scope : InnerNames) (listed : List Listed) (made : Suffixed) →
    v ≡ record u { scopes = without_block u.scopes } → scope ≡ innermost_scope u.scopes →
    seen_state w ≡ (function_suffix (seen_state v) scope listed).0 → made ≡ (function_suffix (seen_state v) scope listed).1 →
    function_behind (seen_state u) listed ≡ Fine (seen_state w) made
function_is_found u v w scope listed made closed names state found =
    ap₂ (λ (s : State) (n : InnerNames). suffix_by_parameters s n listed) (sym (ap seen_state closed)) (sym names)
    ∙ ap₂ (λ (s : State) (x : Suffixed). Fine s x) (sym state) (sym found)

-- ---- one suffix, and one parameter, behind those that are there

abbrev pub suffix_with : Here → State → Formed → Suffix → Checked Formed
suffix_with here s f x = next (suffix_made here s (out-Suffix x).kind) (λ s one. Fine s (suffix_on f one))

pub suffix_goes : (here : Here) (s : State) (f : Formed) (x : Suffix) (rest : List Suffix) → suffix_list_on here s f (x ∷ rest) ≡ next (suffix_with here s f x) (λ s f. suffix_list_on here s f rest)
suffix_goes here s f x rest =
    sym (next_next (suffix_made here s (out-Suffix x).kind) (λ s one. Fine s (suffix_on f one)) (λ s f. suffix_list_on here s f rest))

pub suffix_one :
    (here : Here) (s t : State) (f more : Formed) (x : Suffix) (one : Suffixed) →
    suffix_made here s (out-Suffix x).kind ≡ Fine t one → more ≡ suffix_on f one → suffix_with here s f x ≡ Fine t more
suffix_one here s t f more x one h e = goes _ (λ s one. Fine s (suffix_on f one)) t one _ h (ap (Fine t) (sym e))

pub suffix_one_fails :
    (here : Here) (s t : State) (f : Formed) (x : Suffix) (fault : Fault) → Passes t (Err fault) (suffix_made here s (out-Suffix x).kind) → Fails fault (suffix_with here s f x)
suffix_one_fails here s t f x fault h = behind_passed t fault (suffix_made here s (out-Suffix x).kind) (λ s one. Fine s (suffix_on f one)) h

abbrev pub parameter_with : Here → State → List Listed → Parameter → Checked (List Listed)
parameter_with here s so_far p = next (parameter_listed here s (length so_far) p) (λ s x. Fine s (so_far ++ x ∷ []))

pub parameter_goes : (here : Here) (s : State) (so_far : List Listed) (p : Parameter) (rest : List Parameter) → parameter_list here s so_far (p ∷ rest) ≡ next (parameter_with here s so_far p) (λ s so_far. parameter_list here s so_far rest)
parameter_goes here s so_far p rest =
    sym (next_next (parameter_listed here s (length so_far) p) (λ s x. Fine s (so_far ++ x ∷ [])) (λ s so_far. parameter_list here s so_far rest))

module _ (here : Here) (s : State) (so_far : List Listed) (p : Parameter) where
  pub parameter_one :
      (t : State) (more : List Listed) (x : Listed) → parameter_listed here s (length so_far) p ≡ Fine t x → more ≡ so_far ++ x ∷ [] → parameter_with here s so_far p ≡ Fine t more
  parameter_one t more x h e = goes _ (λ s x. Fine s (so_far ++ x ∷ [])) t x _ h (ap (Fine t) (sym e))

  pub parameter_one_stops : (f : Fault) → Fails f (parameter_listed here s (length so_far) p) → Fails f (parameter_with here s so_far p)
  parameter_one_stops f h = failed_behind f (parameter_listed here s (length so_far) p) (λ s x. Fine s (so_far ++ x ∷ [])) h

  pub parameter_one_fails : (t : State) (f : Fault) → Passes t (Err f) (parameter_listed here s (length so_far) p) → Fails f (parameter_with here s so_far p)
  parameter_one_fails t f h = behind_passed t f (parameter_listed here s (length so_far) p) (λ s x. Fine s (so_far ++ x ∷ [])) h
