-- A construct is looked at by the code as by the definition.
use Rattle.std.proofs.Common.{◌≡◌, ℕ, Bool, true, false, List, [], ◌∷◌, refl, sym, ap, ◌∙◌, Option, Some, None}
use Rattle.c_syntax.specs.declared.file.Function.{Function}
use Rattle.c_syntax.specs.declared.file.External.{External}
use Rattle.c_syntax.specs.declared.file.External.TheVariants.{Function as Defined, Declaration as Declares, Assertion as Asserts}
use Rattle.c_rules.specs.declared.rule.Rule.{Rule as CRule}
use Rattle.c_types.specs.declared.ctype.Part.{Part}
use Rattle.c_tree.specs.declared.declared.Declared.{Declared}
use Rattle.c_specifiers.specs.declared.list.Standing.TheVariants as standing
use Rattle.c_expr_rules.specs.Expressions.{Around}
use Rattle.c_expr_rules.specs.Contexts.{assertion_constant}
use Rattle.c_expr_rules.specs.Outcomes.{State, Checked, Fine, Breaks, Broke, Broken, Rule, next, inner, by_rules, outcome_of, first_broken}
use Rattle.c_objects.specs.Contents.{in_list}
use Rattle.c_statements.specs.Bodied.{function_checked_at, function_behind, heading_of, what_of, stated_before_body, body_of}
use Rattle.c_file_rules.specs.Constructs.{Here}
use Rattle.c_declarations.specs.Declarations.{known_rule}
use Rattle.c_file_rules.specs.Declarators.{declarator_type, declarator_with, type_rule, made_type, line_of, name_of}
use Rattle.c_file_rules.specs.Declaring.{what_declared, is_name_again, declaration_checked}
use Rattle.c_file_rules.specs.Files.{external_checked}
use Rattle.c_file_rules.specs.Functions.{body_checked, inside_function, at_body, function_of, function_rules, function_checked, in_function, name_or_zero}
use Rattle.c_file_rules.specs.Naming.{declaration, declares, leaves, with_declared}
use Rattle.c_file_rules.specs.Specifiers.{OneDeclarator, specifiers_said, formed}
use Rattle.c_file_rules.specs.Statements.{with_locals}
use Rattle.c_file_rules.specs.declared.jumps.Inside.{Inside}
use Rattle.c_file_rules.specs.declared.parts.Said.{Said}
use Rattle.c_file_rules.specs.declared.parts.Formed.{Formed}
use Rattle.c_file_rules.specs.declared.made.Made.{Made}
use Rattle.c_check.specs.Going.{in_homes, construct_at, taken_at}

-- what follows is the same
pub next_same : {A B : Type 0} (c : Checked A) (f g : State → A → Checked B) → ((s : State) (x : A) → f s x ≡ g s x) → next c f ≡ next c g
next_same (Fine s x) f g h = h s x
next_same (Breaks b s known) f g h = refl
next_same (Broke b) f g h = refl

abbrev no_rules : State → Part → List Rule
no_rules s p = []

-- the rules of a thing stand behind those of its type
rules_behind :
    {A : Type 0} (line : ℕ) (t : Bool) (r : Option CRule) (made : State × Part) (rules : State → Part → List Rule)
    (go : State → Part → Checked A) →
    next (declarator_with line t r made rules) go
    ≡ next (declarator_with line t r made no_rules) (λ s p. next (by_rules line (rules s p) s p) go)
rules_behind line t None made rules go = refl
rules_behind line true (Some r) made rules go = refl
rules_behind line false (Some r) made rules go = refl

-- rules that are looked at before a thing is declared and behind it
either_state :
    {A : Type 0} (line : ℕ) (o : Option ℕ) (s t : State) (p : Part) (go : State → Part → Checked A)
    (k : State → Checked A) → go s p ≡ k t →
    next (outcome_of line o s p) go ≡ next (outcome_of line o t (tt {0})) (λ s none. k s)
either_state line None s t p go k e = e
either_state line (Some r) s t p go k e = refl

-- a body behind its heading, as the definition has it
abbrev body_at : (here inner : Here) → Function → Said → Formed → State → Part → Checked Made
body_at here inner f said d s p =
    let name = name_or_zero (name_of f.declarator) in
    let what = what_declared here standing.Definition (line_of f.declarator) said.storage true name in
    let begin = at_body inner d.prototype (declares here.around s name (what s p)) in
    next (leaves (next (body_checked inner (inside_function s p) begin f.body) (λ s tree.
    function_of inner f p d.prototype s tree))) (λ s made. Fine (with_locals [] s) made)

abbrev rules_at : Here → Function → Said → State → Part → List Rule
rules_at here f said =
    let name = name_or_zero (name_of f.declarator) in
    function_rules here f.declarator name (what_declared here standing.Definition (line_of f.declarator) said.storage true name)

abbrev behind : (here inner : Here) → Function → State → Said → State → Formed → Checked Made
behind here inner f s0 said s d =
    let line = line_of f.declarator in
    let name = name_or_zero (name_of f.declarator) in
    let again = is_name_again here standing.Definition said line true name s d.derivations in
    next (declarator_type line again s said.ty d.derivations (rules_at here f said)) (body_at here inner f said d)

-- what a name declares changes no type
inside_declared : (around : Around) (s : State) (name : ℕ) (what : Option Declared) (p : Part)
    → inside_function s p ≡ inside_function (with_declared around s name what) p
inside_declared around s name None p = refl
inside_declared around s name (Some what) p = refl

inside_same : (around : Around) (s : State) (name : ℕ) (what : Declared) (p : Part)
    → inside_function s p ≡ inside_function (declares around s name what) p
inside_same around s name what p = inside_declared around s name (declaration around s name what) p

abbrev body_inside : (here : Here) → Function → Formed → Part → State → Inside → Checked Made
body_inside here f d p begin inside =
    next (leaves (next (body_checked here inside begin f.body) (λ s tree.
    function_of here f p d.prototype s tree))) (λ s made. Fine (with_locals [] s) made)

body_same : (here inner : Here) (f : Function) (said : Said) (d : Formed) (name : ℕ) (s : State) (what : Declared) (p : Part)
    → body_inside inner f d p (at_body inner d.prototype (declares here.around s name what)) (inside_function s p)
    ≡ body_of inner f p d.prototype (declares here.around s name what)
body_same here inner f said d name s what p =
    ap (body_inside inner f d p (at_body inner d.prototype (declares here.around s name what))) (inside_same here.around s name what p)

behind_same : (here inner : Here) (f : Function) (s0 : State) (said : Said) (s : State) (d : Formed)
    → behind here inner f s0 said s d ≡ function_behind here inner f said s d
behind_same here inner f s0 said s d =
    let line = line_of f.declarator in
    let name = name_or_zero (name_of f.declarator) in
    let again = is_name_again here standing.Definition said line true name s d.derivations in
    let rule = known_rule (type_rule s said.ty d.derivations) in
    let made = made_type s said.ty d.derivations in
    let heading = heading_of line name said in
    rules_behind line again rule made (rules_at here f said) (body_at here inner f said d)
    ∙ next_same (declarator_with line again rule made no_rules)
    (λ s p. next (by_rules line (rules_at here f said s p) s p) (body_at here inner f said d))
    (λ s p. next (stated_before_body here heading f.declarator s p) (λ s none. body_of inner f p d.prototype s))
    (λ s p. either_state line (first_broken (rules_at here f said s p)) s (declares here.around s name (what_of here heading s p)) p
    (body_at here inner f said d) (λ s. body_of inner f p d.prototype s)
    (body_same here inner f said d name s (what_of here heading s p) p))

function_same : (here : Here) (taken : ℕ → List ℕ) (s : State) (f : Function)
    → function_checked here taken s f
    ≡ function_checked_at here (in_function taken here (name_or_zero (name_of f.declarator))) s f
function_same here taken s f =
    let inside = in_function taken here (name_or_zero (name_of f.declarator)) in
    next_same (specifiers_said here standing.Definition OneDeclarator s f.specifiers)
    (λ s said. next (formed here s f.declarator) (λ s d. behind here inside f s said s d))
    (λ s said. next (formed here s f.declarator) (λ s d. function_behind here inside f said s d))
    (λ s said. next_same (formed here s f.declarator)
    (λ s d. behind here inside f s said s d)
    (λ s d. function_behind here inside f said s d)
    (λ s d. behind_same here inside f s said s d))

-- what a construct makes, as a list
abbrev pub listed : Checked (Option Made) → Checked (List Made)
listed c = next c (λ s m. Fine s (in_list m))

some_listed : (c : Checked Made) → listed (next c (λ s made. Fine s (Some made))) ≡ next c (λ s made. Fine s (made ∷ []))
some_listed (Fine s made) = refl
some_listed (Breaks b s known) = refl
some_listed (Broke b) = refl

none_listed : {A : Type 0} (c : Checked A) → listed (next c (λ s x. Fine s None)) ≡ next c (λ s x. Fine s [])
none_listed (Fine s x) = refl
none_listed (Breaks b s known) = refl
none_listed (Broke b) = refl

pub external_same : (here : Here) (homes : List (List ℕ)) (s : State) (item : External)
    → external_checked here (taken_at homes) s item ≡ listed (construct_at here homes s item)
external_same here homes s (Defined f) =
    ap (λ c. next c (λ s made. Fine s (made ∷ []))) (function_same here (taken_at homes) s f)
    ∙ sym (some_listed (function_checked_at here (in_homes homes here (Defined f)) s f))
external_same here homes s (Declares d) = sym (none_listed (declaration_checked here standing.File s d))
external_same here homes s (Asserts a) = sym (none_listed (assertion_constant here.around s a.condition))

pub listed_fine : (c : Checked (Option Made)) (s : State) (made : Option Made) → c ≡ Fine s made → listed c ≡ Fine s (in_list made)
listed_fine c s made e = ap listed e

pub listed_broke : (c : Checked (Option Made)) (b : Broken) → inner c ≡ Broke b → listed c ≡ Broke b
listed_broke (Fine s x) b e = cc
listed_broke (Breaks broken s known) b e = cc
listed_broke (Broke broken) b e = cc
