-- What an initialiser gives a declared thing, as the code keeps it: rules by its size leave it as it is.
use Rattle.std.proofs.Common.{◌≡◌, ℕ, Bool, true, false, [], ◌∷◌, refl, sym, ap, ◌∙◌, subst}
use Rattle.std.specs.Prelude.{Option, Some, None, Result, Ok, Err, IsErrAnd}
use Rattle.c_tree.specs.declared.declared.Declared.{Declared}
use Rattle.c_tree.specs.declared.declared.Declared.TheVariants as declared
use Rattle.c_tree.specs.declared.declared.ObjectNumber.TheVariants.{Static, Local}
use Rattle.c_tree.specs.declared.declared.ObjectNumber.{ObjectNumber}
use Rattle.c_tree.specs.declared.declared.DeclaredObject.{DeclaredObject}
use Rattle.c_expr_rules.specs.Outcomes as o
use Rattle.c_expr_rules.specs.Outcomes.{State, Checked, Fine, Breaks, Broke, Broken, next, inner, by_rules, outcome_of, outcome_with, known_in_spite, also_if_broken, ◌breaks◌}
use Rattle.c_expr_rules.specs.Views.{Gives, Passes, checked, seen_broken}
use Rattle.c_expr_rules.specs.declared.found.Fault.{Fault}
use Rattle.c_expr_rules.specs.declared.found.Fault.TheVariants as fault
use Rattle.c_expr_rules.specs.declared.found.Found.{Found}
use Rattle.c_expr_rules.specs.declared.found.Found.TheVariants as found
use Rattle.c_check_expr.proofs.Outcomes.{Fails, gives_fault}
use Rattle.c_file_rules.specs.Declaring.{given_to, size_breaks}
use Rattle.c_file_rules.specs.Filling.{found_with, told_with}
use Rattle.c_file_rules.specs.declared.targets.Given.{Given}
use Rattle.c_statements.specs.Stated.{kept_for, given_kept}

-- an initialiser where none may stand gives nothing that is kept
pub refused : (d : Declared) (line : ℕ) (c : Checked Given) →
    given_kept d (next c (λ s g. by_rules line (11 breaks true ∷ []) s g)) ≡ next c (λ s g. by_rules line (11 breaks true ∷ []) s g)
refused d line (Fine s g) = refl
refused d line (Breaks b s known) = refl
refused d line (Broke b) = refl

-- the same of what the code found
pub refused_so : (line : ℕ) (s : State) (g h : Given) (found : Found (Unit {0})) →
    checked s found ≡ by_rules line (11 breaks true ∷ []) s tt → by_rules line (11 breaks true ∷ []) s g ≡ checked s (found_with h found)
refused_so line s g h (found.Fine x) e = cc
refused_so line s g h (found.Breaks b known) e = cc

-- what is found, with this in place of nothing
abbrev with_given : Given → Checked (Unit {0}) → Checked Given
with_given g (Fine s x) = Fine s g
with_given g (Breaks b s known) = Breaks b s None
with_given g (Broke b) = Broke b

seen_with : (s : State) (g : Given) (found : Found (Unit {0})) → checked s (found_with g found) ≡ with_given g (checked s found)
seen_with s g (found.Fine x) = refl
seen_with s g (found.Breaks b known) = refl

module _ (d : Declared) (g : Given) (line rule : ℕ) (low : (x : Given) → known_in_spite rule x ≡ None) where
  breaks_so : (X : Checked Given) (c : Checked (Unit {0})) → given_kept d X ≡ with_given g c →
      given_kept d (also_if_broken line rule (λ s x. true) X) ≡ with_given g (also_if_broken line rule (λ s x. true) c)
  breaks_so (Fine s x) (Fine t u) h =
      let same : s ≡ t = cc in
      ap (λ (k : Option Given). given_kept d (Breaks (record { rule = rule; line = line }) s k)) (low x)
      ∙ ap (λ (s : State). Breaks (record { rule = rule; line = line }) s None) same
  breaks_so (Fine s x) (Breaks b t known) h = cc
  breaks_so (Fine s x) (Broke b) h = cc
  breaks_so (Breaks b s None) (Breaks e t known) h =
      let broken : b ≡ e = cc in
      let same : s ≡ t = cc in
      ap (λ (b : Broken). Breaks (o.lower rule true b) s None) broken ∙ ap (λ (s : State). Breaks (o.lower rule true e) s None) same
  breaks_so (Breaks b s None) (Fine t u) h = cc
  breaks_so (Breaks b s None) (Broke e) h = cc
  breaks_so (Breaks b s (Some x)) (Fine t u) h = cc
  breaks_so (Breaks b s (Some x)) (Breaks e t known) h = cc
  breaks_so (Breaks b s (Some x)) (Broke e) h = cc
  breaks_so (Broke b) (Fine t u) h = cc
  breaks_so (Broke b) (Breaks e t known) h = cc
  breaks_so (Broke b) (Broke e) h = h

  by_size : (is_broken : Bool) (X : Checked Given) (c : Checked (Unit {0})) → given_kept d X ≡ with_given g c →
      given_kept d (size_breaks line rule is_broken X) ≡ with_given g (size_breaks line rule is_broken c)
  by_size true X c h = breaks_so X c h
  by_size false X c h = h

  -- a rule by the size more
  pub breaks_kept :
      (is_broken : Bool) (s : State) (found after : Found (Unit {0})) (X : Checked Given) →
      checked s after ≡ size_breaks line rule is_broken (checked s found) → given_kept d X ≡ checked s (found_with g found) →
      given_kept d (size_breaks line rule is_broken X) ≡ checked s (found_with g after)
  breaks_kept is_broken s found after X e h =
      by_size is_broken X (checked s found) (h ∙ seen_with s g found)
      ∙ ap (with_given g) (sym e) ∙ sym (seen_with s g after)

-- what passed is given
pub passed_kept : (d : Declared) (g : Given) (s : State) (found : Found (Unit {0})) (X : Checked Given) (x : Unit {0}) →
    given_kept d X ≡ checked s (found_with g found) → checked s found ≡ Fine s x → given_kept d X ≡ Fine s g
passed_kept d g s found X x h e = h ∙ seen_with s g found ∙ ap (with_given g) e

stopped_with : (g : Given) (c : Checked (Unit {0})) (b : Broken) → inner c ≡ Broke b → inner (with_given g c) ≡ Broke b
stopped_with g (Fine s x) b h = cc
stopped_with g (Breaks e s known) b h = cc
stopped_with g (Broke e) b h =
    let same : e ≡ b = cc in
    ap (λ (b : Broken). Broke b) same

pub stopped_kept : (d : Declared) (g : Given) (s t : State) (found : Found (Unit {0})) (X : Checked Given) (f : Fault) →
    given_kept d X ≡ checked s (found_with g found) → Passes {A = Unit {0}} t (Err f) (checked s found) → Passes {A = Given} t (Err f) (given_kept d X)
stopped_kept d g s t found X (fault.Broke b) h p = ap inner (h ∙ seen_with s g found) ∙ stopped_with g (checked s found) (seen_broken b) p
stopped_kept d g s t found X fault.NoMemory h p = tt

-- what an earlier construct broke
broke_only : (d : Declared) (X : Checked Given) (b : Broken) → given_kept d X ≡ Broke b → X ≡ Broke b
broke_only d (Fine s x) b h = cc
broke_only d (Breaks e s None) b h = cc
broke_only d (Breaks e s (Some x)) b h = cc
broke_only d (Broke e) b h = cc

size_stops : (line rule : ℕ) (is_broken : Bool) (b : Broken) → size_breaks {A = Given} line rule is_broken (Broke b) ≡ Broke b
size_stops line rule true b = refl
size_stops line rule false b = refl

pub sizes_fail : (d : Declared) (line : ℕ) (other large : Bool) (X : Checked Given) (f : Fault) →
    Fails f (given_kept d X) → Fails f (given_kept d (size_breaks line 2 other (size_breaks line 5 large X)))
sizes_fail d line other large X (fault.Broke b) h =
    ap (λ (X : Checked Given). given_kept d (size_breaks line 2 other (size_breaks line 5 large X))) (broke_only d X (seen_broken b) h)
    ∙ ap (λ (X : Checked Given). given_kept d (size_breaks line 2 other X)) (size_stops line 5 large (seen_broken b))
    ∙ ap (given_kept d) (size_stops line 2 other (seen_broken b))
sizes_fail d line other large X fault.NoMemory h = h

-- ---- the statements that what is kept is

kept_number : (n : ObjectNumber) (o : DeclaredObject) (s : State) (g : Given) → o.number ≡ n → given_to (declared.Object o) s (kept_for (declared.Object o) g) ≡ given_to (declared.Object o) s g
kept_number (Static n) o s g e = rw e
kept_number (Local n) o s g e = rw e

kept_to : (d : Declared) (s : State) (g : Given) → given_to d s (kept_for d g) ≡ given_to d s g
kept_to (declared.Object o) s g = kept_number o.number o s g refl
kept_to (declared.Function f) s g = refl
kept_to (declared.Typedef ty) s g = refl
kept_to (declared.Constant v) s g = refl
kept_to (declared.Tag t) s g = refl

pub given_by_kept : (d : Declared) (X : Checked Given) → next X (λ s g. given_to d s g) ≡ next (given_kept d X) (λ s g. given_to d s g)
given_by_kept d (Fine s g) = sym (kept_to d s g)
given_by_kept d (Breaks b s None) = refl
given_by_kept d (Breaks b s (Some g)) = refl
given_by_kept d (Broke b) = refl

-- ---- a call that failed, with what it left

pub told_fails : (s : State) (g : Given) (r : Result (Found (Unit {0})) Fault) (f : Fault) (a : Checked Given) → IsErrAnd r (λ e. e ≡ f) → Fails f a → Gives s (told_with g r) a
told_fails s g (Ok x) f a h w = absurd h
told_fails s g (Err e) f a h w = gives_fault s e a (subst (λ (f : Fault). Fails f a) (sym h) w)
