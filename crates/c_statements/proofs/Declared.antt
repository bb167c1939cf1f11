-- A declarator's type first, and then what the thing that it declares adds: as the code does it.
use Rattle.std.proofs.Common.{◌≡◌, ℕ, Bool, true, false, List, [], ◌∷◌, ◌++◌, suc, reverse, refl, sym, ap, ◌∙◌}
use Rattle.std.proofs.lemmas.List.{reverse-append}
use Rattle.std.specs.Prelude.{Option, Some, None, is_some, Result, Ok, Err}
use Rattle.c_syntax.specs.declared.file.Initialiser.{Initialiser}
use Rattle.c_specifiers.specs.declared.list.Standing.{Standing}
use Rattle.c_file_rules.specs.declared.parts.Said.{Said}
use Rattle.c_types.specs.declared.derivation.Derivation.{Derivation}
use Rattle.c_types.specs.declared.ctype.TypeFault.{TypeFault}
use Rattle.c_types.specs.declared.ctype.TypeFault.TheVariants.{Incomplete, TooLarge}
use Rattle.c_types.specs.Sizes.{Room, room_of}
use Rattle.c_type_rules.specs.Members.{rule_of_room}
use Rattle.c_declarations.specs.Declarations.{known_rule}
use Rattle.c_tree.specs.declared.declared.Declared.{Declared}
use Rattle.c_tree.specs.declared.declared.Declared.TheVariants as declared
use Rattle.c_tree.specs.declared.stmt.LocalDef.{LocalDef}
use Rattle.c_tree.specs.declared.stmt.LocalKind.{LocalKind}
use Rattle.c_rules.specs.declared.rule.Rule.{Rule as CRule}
use Rattle.c_types.specs.declared.ctype.Part.{Part}
use Rattle.c_expr_rules.specs.Outcomes.{State, Checked, Fine, Rule, next, by_rules, outcome_of, first_broken}
use Rattle.c_expr_rules.specs.TypedExpressions.{type_at}
use Rattle.c_check_expr.proofs.Outcomes.{next_same}
use Rattle.c_file_rules.specs.Constructs.{Here}
use Rattle.c_file_rules.specs.Naming.{is_again, declares}
use Rattle.c_file_rules.specs.Declarators.{declarator_with, declarator_type, size_rule, type_rule, made_type}
use Rattle.c_file_rules.specs.Declaring.{behind_declared, declared_rules, size_rules, is_bad_main, what_declared, init_named, local_kind, with_local}
use Rattle.c_statements.specs.Stated.{IsOfSize, name_rules, name_again, name_stated, name_or_initialised, object_behind, stated_by_rules}
use Rattle.c_statements.specs.declared.declaring.Heading.{Heading}

abbrev pub no_rules : State → Part → List Rule
no_rules s p = []

of_room : (r : Result Room TypeFault) → IsOfSize (rule_of_room r)
of_room (Ok room) = tt
of_room (Err Incomplete) = tt
of_room (Err TooLarge) = tt

-- the type's rules stand before the thing's
pub declared_on :
    {A : Type 0} (line : ℕ) (t : Bool) (r : Option CRule) (made : State × Part) (rules : State → Part → List Rule)
    (go : State → Part → Checked A) →
    next (declarator_with line t r made rules) go
    ≡ next (declarator_with line t r made no_rules) (λ s p. next (by_rules line (rules s p) s p) go)
declared_on line t None made rules go = refl
declared_on line true (Some r) made rules go = refl
declared_on line false (Some r) made rules go = refl

-- ---- a declarator whose rules are looked at behind its type

pub size_rule_low : (s : State) (p : Part) → IsOfSize (size_rule s p)
size_rule_low s p = of_room (room_of (type_at s p.number))

pub behind_is : (here : Here) (line name : ℕ) (what : Declared) (s : State) → object_behind here line what (declares here.around s name what) ≡ behind_declared here line name what s
behind_is here line name (declared.Object o) s = refl
behind_is here line name (declared.Function f) s = refl
behind_is here line name (declared.Typedef ty) s = refl
behind_is here line name (declared.Constant v) s = refl
behind_is here line name (declared.Tag t) s = refl

-- the rules of a name, as the code finds them one by one
pub rules_are :
    (here : Here) (h : Heading) (what : Declared) (s : State) (p : Part) (again main : Bool) (size : List Rule) →
    again ≡ is_again here.around s h.name what → size_rules what s p ≡ size → main ≡ is_bad_main here h.standing h.name what s p →
    name_rules again size main ≡ declared_rules here h.standing h.name (λ s p. what) s p
rules_are here h what s p again main size a z m =
    ap (λ b. name_rules b size main) a
    ∙ ap (λ (l : List Rule). name_rules (is_again here.around s h.name what) l main) (sym z)
    ∙ ap (λ b. name_rules (is_again here.around s h.name what) (size_rules what s p) b) m

-- what is made of a construct that broke no rule
by_same :
    {A B : Type 0} (line : ℕ) (broken : Option ℕ) (s : State) (x : A) (f g : State → A → Checked B) → f s x ≡ g s x →
    next (outcome_of line broken s x) f ≡ next (outcome_of line broken s x) g
by_same line None s x f g h = h
by_same line (Some n) s x f g h = refl

-- the type first, and then the rest by it
pub name_is :
    (here : Here) (h : Heading) (base : Part) (s : State) (ds : List Derivation) →
    name_stated here h base s ds
    ≡ next (declarator_type h.line (name_again here h base s ds) s base ds no_rules)
    (λ s p. stated_by_rules here h (what_declared here h.standing h.line h.storage h.is_given h.name s p) s p)
name_is here h base s ds =
    let again = name_again here h base s ds in
    let what = what_declared here h.standing h.line h.storage h.is_given h.name in
    let rules = declared_rules here h.standing h.name what in
    let go = λ (s : State) (p : Part). Fine (behind_declared here h.line h.name (what s p) s) (what s p, p) in
    declared_on h.line again (known_rule (type_rule s base ds)) (made_type s base ds) rules go
    ∙ next_same (declarator_type h.line again s base ds no_rules) (λ s p. next (by_rules h.line (rules s p) s p) go) (λ s p. stated_by_rules here h (what s p) s p)
    (λ s p. by_same h.line (first_broken (rules s p)) s p go (λ t q. Fine (behind_declared here h.line h.name (what s p) t) (what s p, q)) refl)

-- a declarator's name by its heading
pub init_is :
    (here : Here) (place : Standing) (said : Said) (line name : ℕ) (s : State) (ds : List Derivation) (i : Option Initialiser) →
    init_named here place said line (Some name) s ds i
    ≡ name_or_initialised here (record { standing = place; storage = said.storage; line = line; name = name; is_given = is_some i }) said.ty s ds i
init_is here place said line name s ds None = refl
init_is here place said line name s ds (Some i) = refl

-- ---- a local more

abbrev located : State → (next : ℕ) → List LocalDef → State
located s next locals = record s { above = record s.above { next_local = next; locals = locals } }

pub local_added :
    (here : Here) (s : State) (line number next : ℕ) (p : Part) (kind : LocalKind) (old new : List LocalDef) → next ≡ suc number → kind ≡ local_kind here s number p →
    new ≡ old ++ record { line = line; local = number; kind = kind } ∷ [] → s.above.locals ≡ reverse old → located s next (reverse new) ≡ with_local here line number p s
local_added here s line number next p kind old new n k w q =
    let of : LocalKind → LocalDef = λ k. record { line = line; local = number; kind = k } in
    ap (λ (n : ℕ). located s n (reverse new)) n
    ∙ ap (λ (l : List LocalDef). located s (suc number) l) (ap reverse w ∙ reverse-append old (of kind ∷ []) ∙ ap (λ (l : List LocalDef). of kind ∷ l) (sym q))
    ∙ ap (λ (k : LocalKind). located s (suc number) (of k ∷ s.above.locals)) k
