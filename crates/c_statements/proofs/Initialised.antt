-- A name with an initialiser, by what was found of each part.
use Rattle.std.proofs.Common.{◌≡◌, Bool, true, List, refl, sym, ap, ◌∙◌}
use Rattle.std.specs.Prelude.{Option, Some, None, Err}
use Rattle.c_syntax.specs.declared.file.Initialiser.{Initialiser}
use Rattle.c_types.specs.declared.ctype.ElementCount.{ElementCount}
use Rattle.c_types.specs.declared.ctype.Part.{Part}
use Rattle.c_types.specs.declared.derivation.Derivation.{Derivation}
use Rattle.c_tree.specs.declared.declared.Declared.{Declared}
use Rattle.c_tree.specs.declared.stmt.Stmt.{Stmt}
use Rattle.c_expr_rules.specs.Outcomes.{State, Checked, Fine, next}
use Rattle.c_expr_rules.specs.Views.{Grows, Passes, seen_state}
use Rattle.c_expr_rules.specs.declared.state.State.{State as CodeState}
use Rattle.c_expr_rules.specs.declared.found.Fault.{Fault}
use Rattle.c_check_expr.proofs.Outcomes.{Fails, next_goes, behind_passed, fails_at}
use Rattle.c_file_rules.specs.Constructs.{Here}
use Rattle.c_file_rules.specs.Declaring.{Sizing, sizing_of, count_said, sized_before, sized, object_linkage, items_type, name_declared}
use Rattle.c_statements.specs.Stated.{said_of_heading, name_stated, name_initialised, with_initialiser}
use Rattle.c_statements.specs.declared.declaring.Heading.{Heading}
use Rattle.c_statements.specs.declared.declarations.Receiver.{Receiver}
use Rattle.c_statements.proofs.Blocked.{same_grows}

module _ (here : Here) (h : Heading) (base : Part) (s : State) (ds : List Derivation) (i : Initialiser) where
  abbrev before : List Derivation
  before = sized_before here (object_linkage h.standing h.storage) h.name s ds

  abbrev receives : (is_too_large : Bool) → Declared × Part → (items : Part) → Receiver
  receives is_too_large d items = record { standing = h.standing; what = d.0; part = d.1; items = items; is_too_large = is_too_large }

  abbrev rest : Sizing → State → Declared × Part → Checked (List Stmt)
  rest z s d = let items = items_type s base ds z.count d.1 in with_initialiser here (receives z.is_too_large d items.1) items.0 i

  abbrev by_sizing : Sizing → Checked (List Stmt)
  by_sizing z = next (name_declared here h.standing (said_of_heading h base) h.line h.name true s (sized before z.count)) (rest z)

  module _ (z : Sizing) (first whole : List Derivation) (sizes : z ≡ sizing_of s base ds (count_said here s base ds i))
      (p : first ≡ before) (q : whole ≡ sized first z.count) (given : h.is_given ≡ true) where
    whole_is : name_initialised here h base s ds i ≡ next (name_stated here h base s whole) (rest z)
    whole_is =
        ap by_sizing (sym sizes)
        ∙ ap (λ (b : Bool). next (name_declared here h.standing (said_of_heading h base) h.line h.name b s (sized before z.count)) (rest z)) (sym given)
        ∙ ap (λ (l : List Derivation). next (name_stated here h base s l) (rest z)) (sym (q ∙ ap (λ (l : List Derivation). sized l z.count) p))

    pub initialised_stops : (t : State) (f : Fault) → Passes {A = Declared × Part} t (Err f) (name_stated here h base s whole) → Fails f (name_initialised here h base s ds i)
    initialised_stops t f failed =
        fails_at f (name_initialised here h base s ds i) (next (name_stated here h base s whole) (rest z)) whole_is
        (behind_passed t f (name_stated here h base s whole) (rest z) failed)

    pub initialised_is :
        (t u : State) (what : Declared) (part items : Part) → name_stated here h base s whole ≡ Fine t (what, part) →
        (u, items) ≡ items_type t base ds z.count part →
        name_initialised here h base s ds i ≡ with_initialiser here (receives z.is_too_large (what, part) items) u i
    initialised_is t u what part items n e =
        whole_is ∙ next_goes (name_stated here h base s whole) (rest z) t (what, part) n
        ∙ ap (λ (x : State × Part). with_initialiser here (receives z.is_too_large (what, part) x.1) x.0 i) (sym e)

-- ---- the type of the items is made beside the names and the lists of the state

kept_names : (t : State) (base : Part) (ds : List Derivation) (count : Option ElementCount) (p : Part) → (items_type t base ds count p).0.above.names ≡ t.above.names
kept_names t base ds None p = refl
kept_names t base ds (Some n) p = refl

kept_used : (t : State) (base : Part) (ds : List Derivation) (count : Option ElementCount) (p : Part) → (items_type t base ds count p).0.used ≡ t.used
kept_used t base ds None p = refl
kept_used t base ds (Some n) p = refl

kept_taken : (t : State) (base : Part) (ds : List Derivation) (count : Option ElementCount) (p : Part) → (items_type t base ds count p).0.taken ≡ t.taken
kept_taken t base ds None p = refl
kept_taken t base ds (Some n) p = refl

kept_literals : (t : State) (base : Part) (ds : List Derivation) (count : Option ElementCount) (p : Part) → (items_type t base ds count p).0.literals ≡ t.literals
kept_literals t base ds None p = refl
kept_literals t base ds (Some n) p = refl

pub items_grows :
    (old new : CodeState) (base : Part) (ds : List Derivation) (count : Option ElementCount) (p items : Part) →
    (seen_state new, items) ≡ items_type (seen_state old) base ds count p → Grows old new
items_grows old new base ds count p items e =
    same_grows old new
    (ap (λ (x : State × Part). x.0.above.names) e ∙ kept_names (seen_state old) base ds count p)
    (ap (λ (x : State × Part). x.0.used) e ∙ kept_used (seen_state old) base ds count p)
    (ap (λ (x : State × Part). x.0.taken) e ∙ kept_taken (seen_state old) base ds count p)
    (ap (λ (x : State × Part). x.0.literals) e ∙ kept_literals (seen_state old) base ds count p)
