-- A static assertion that breaks a rule breaks it as a construct of a file.
use Rattle.std.proofs.Common.{◌≡◌, List, [], sym, subst, Option, None}
use Rattle.std.specs.Prelude.{Result, Ok, Err, IsErrAnd}
use Rattle.c_syntax.specs.declared.file.External.{External}
use Rattle.c_syntax.specs.declared.file.External.TheVariants.{Assertion as Asserts}
use Rattle.c_syntax.specs.declared.expr.Assertion.{Assertion}
use Rattle.c_tree.specs.declared.stmt.Stmt.{Stmt}
use Rattle.c_expr_rules.specs.Contexts.{assertion_constant}
use Rattle.c_expr_rules.specs.declared.found.Fault.{Fault}
use Rattle.c_expr_rules.specs.declared.found.Fault.TheVariants as fault
use Rattle.c_expr_rules.specs.Outcomes.{State, Checked, Fine, Breaks, Broke, next}
use Rattle.c_expr_rules.specs.Views.{Passes}
use Rattle.c_file_rules.specs.Constructs.{Here}
use Rattle.c_file_rules.specs.Statements.{asserted}
use Rattle.c_file_rules.specs.declared.made.Made.{Made}
use Rattle.c_statements.specs.Waiting.{nothing_asserted}
use Rattle.c_check.specs.Going.{external_at}

-- whatever an assertion makes where it breaks no rule
stops_alike : {A : Type 0} (c : Checked A) (t : State) (f : Fault) → Passes {A = List Stmt} t (Err f) (next c (λ s x. Fine s []))
    → Passes {A = Option Made} t (Err f) (next c (λ s x. Fine s None))
stops_alike c t fault.NoMemory p = tt
stops_alike (Fine s x) t (fault.Broke b) p = cc
stops_alike (Breaks broken s known) t (fault.Broke b) p = cc
stops_alike (Broke broken) t (fault.Broke b) p = cc

pub assertion_stops : (here there : Here) (s t : State) (item : External) (a : Assertion) (r : Result (Option Made) Fault) (f : Fault)
    → item ≡ Asserts a → IsErrAnd r (λ e. e ≡ f) → Passes t (nothing_asserted (Err f)) (asserted here s a)
    → Passes t r (external_at here there s item)
assertion_stops here there s t item a (Ok made) f i e p = absurd e
assertion_stops here there s t item a (Err g) f i e p =
    subst (λ x. Passes {A = Option Made} t (Err g) (external_at here there s x)) (sym i)
    (subst (λ g. Passes {A = Option Made} t (Err g) (external_at here there s (Asserts a))) (sym e)
    (stops_alike (assertion_constant here.around s a.condition) t f p))
