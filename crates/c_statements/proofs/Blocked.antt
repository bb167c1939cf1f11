-- A block or a scope that is opened, gone through and closed.
use Rattle.std.proofs.Common.{◌≡◌, ◌<◌, ◌≤◌, List, [], suc, length, take, reverse, sym, ap, ap₂, ◌∙◌, subst, arith}
use Rattle.std.proofs.lemmas.List.{reverse-reverse, take_all}
use Rattle.c_scope.specs.Scopes.{Names}
use Rattle.c_tree.specs.declared.stmt.LocalDef.{LocalDef}
use Rattle.c_tree.specs.declared.stmt.Stmt.{Stmt}
use Rattle.c_expr_rules.specs.Outcomes as o
use Rattle.c_expr_rules.specs.Outcomes.{Checked, Fine, next}
use Rattle.std.specs.Prelude.{Result, Err, IsErrAnd}
use Rattle.c_expr_rules.specs.Views.{Grows, Passes, seen_state}
use Rattle.c_expr_rules.specs.declared.found.Fault.{Fault}
use Rattle.c_expr_rules.specs.declared.state.State.{State}
use Rattle.c_check_expr.proofs.Outcomes.{Fails, fails_at, behind_passed}
use Rattle.c_check_expr.proofs.Recursion.{passes_failed}
use Rattle.c_file_rules.specs.Constructs.{Here}
use Rattle.c_file_rules.specs.Naming.{in_scope, out_of_scope, leaves, scoped}
use Rattle.c_file_rules.specs.Statements.{with_locals, block_of, block_with}
use Rattle.c_names.specs.Blocks.{AddsTo}
use Rattle.c_names.proofs.Growth.{adds_then_grows, adds_on, grows_of}
use Rattle.c_statements.specs.Waiting.{block_left}
use Rattle.c_statements.proofs.Steps.{leaves_fails, next_fails, passes_err_on, leaves_passes}

-- a scope in the code: opened, gone through, closed
pub scope_grows :
    (s t u v : State) → AddsTo s t → length t.scopes.ordinary ≡ suc (length s.scopes.ordinary) → Grows t u → AddsTo u v →
    length u.scopes.ordinary ≡ suc (length v.scopes.ordinary) → Grows s v
scope_grows s t u v a d g b e =
    let depth : length v.scopes.ordinary ≡ length s.scopes.ordinary = omega (arith, d, e, g.depth) in
    grows_of s v (adds_on s u v (adds_then_grows s t u a g) b) depth

-- in it the file's block isn't the innermost one
pub scope_inside : (t u : State) → 1 < length t.scopes.ordinary → Grows t u → 1 < length u.scopes.ordinary
scope_inside t u h g = omega (arith, h, g.depth)

-- ---- what a scope gives

pub scope_ends :
    {A : Type 0} (s t u : o.State) (inside : o.State → Checked A) (x : A) →
    inside (in_scope s) ≡ Fine t x → u ≡ out_of_scope t → scoped s inside ≡ Fine u x
scope_ends s t u inside x p e = ap leaves p ∙ ap (λ u. Fine u x) (sym e)

pub scope_fails :
    {A : Type 0} (s : o.State) (inside : o.State → Checked A) (f : Fault) → Fails f (inside (in_scope s)) → Fails f (scoped s inside)
scope_fails s inside f h = leaves_fails f (inside (in_scope s)) h

-- what a block gives
pub block_ends :
    (here : Here) (s t u : o.State) (inside : o.State → Checked (List Stmt)) (body : List Stmt) (made : Stmt) →
    inside (in_scope (with_locals [] s)) ≡ Fine t body → u ≡ with_locals s.above.locals (out_of_scope t) → made ≡ block_left t body →
    block_with here s inside ≡ Fine u made
block_ends here s t u inside body made p e m =
    ap (λ (c : Checked (List Stmt)). next (leaves c) (λ after statements. block_of s.above.locals after statements)) p
    ∙ ap₂ (λ (u : o.State) (x : Stmt). Fine u x) (sym e) (sym m)

pub block_fails :
    (here : Here) (s : o.State) (inside : o.State → Checked (List Stmt)) (f : Fault) →
    Fails f (inside (in_scope (with_locals [] s))) → Fails f (block_with here s inside)
block_fails here s inside f h =
    next_fails f (leaves (inside (in_scope (with_locals [] s)))) (λ after statements. block_of s.above.locals after statements)
    (leaves_fails f (inside (in_scope (with_locals [] s))) h)

-- the locals of a block in their order
pub locals_in_order : (locals : List LocalDef) → locals ≡ reverse (reverse locals)
locals_in_order locals = sym (reverse-reverse locals)

-- ---- a state that has the same names and lists

same_list : {A : Type 0} (xs ys : List A) → reverse xs ≡ reverse ys → xs ≡ ys
same_list xs ys e = sym (reverse-reverse xs) ∙ ap reverse e ∙ reverse-reverse ys

kept_all : {A : Type 0} (xs ys : List A) → reverse xs ≡ reverse ys → take (length ys) xs ≡ ys
kept_all xs ys e = ap (take (length ys)) (same_list xs ys e) ∙ (let h : length ys ≤ length ys = omega arith in take_all (length ys) ys h)

pub same_grows :
    (s t : State) → (seen_state t).above.names ≡ (seen_state s).above.names → (seen_state t).used ≡ (seen_state s).used →
    (seen_state t).taken ≡ (seen_state s).taken → (seen_state t).literals ≡ (seen_state s).literals → Grows s t
same_grows s t n u k l =
    record {
      depth = ap (λ (names : Names). length names.ordinary) n;
      used = kept_all t.used.items s.used.items u;
      taken = kept_all t.taken.items s.taken.items k;
      literals = kept_all t.literals.items s.literals.items l;
    }

-- ---- what a construct gives that is a scope, or a block, by what was found in the scope's state

module _ {A : Type 0} (whole : Checked A) (s begun : o.State) (inside : o.State → Checked A)
    (is : whole ≡ scoped s inside) (begins : begun ≡ in_scope s) where
  pub in_scope_ends : (t u : o.State) (x : A) → inside begun ≡ Fine t x → u ≡ out_of_scope t → whole ≡ Fine u x
  in_scope_ends t u x p e = is ∙ scope_ends s t u inside x (ap inside (sym begins) ∙ p) e

  pub in_scope_fails : (t : o.State) (r : Result A Fault) (f : Fault) → IsErrAnd r (λ e. e ≡ f) → Fails f (inside begun) → Passes t r whole
  in_scope_fails t r f h w =
      passes_failed t r f whole h (fails_at f whole (scoped s inside) is (scope_fails s inside f
      (fails_at f (inside (in_scope s)) (inside begun) (ap inside (sym begins)) w)))

  -- where what is found in it is the last that is looked at
  pub in_scope_passes : (t : o.State) (r : Result A Fault) (f : Fault) → IsErrAnd r (λ e. e ≡ f) → Passes {A = A} t (Err f) (inside begun) → Passes t r whole
  in_scope_passes t r f h p =
      passes_err_on t r f whole h (subst (λ (c : Checked A). Passes {A = A} t (Err f) c) (sym (is ∙ ap (λ (u : o.State). leaves (inside u)) (sym begins)))
      (leaves_passes t f (inside begun) p))

module _ (here : Here) (whole : Checked Stmt) (s begun : o.State) (inside : o.State → Checked (List Stmt))
    (is : whole ≡ block_with here s inside) (begins : begun ≡ in_scope (with_locals [] s)) where
  pub in_block_ends :
      (t u : o.State) (body : List Stmt) (made : Stmt) (locals : List LocalDef) →
      inside begun ≡ Fine t body → u ≡ with_locals locals (out_of_scope t) → locals ≡ s.above.locals → made ≡ block_left t body → whole ≡ Fine u made
  in_block_ends t u body made locals p e l m =
      is ∙ block_ends here s t u inside body made (ap inside (sym begins) ∙ p) (e ∙ ap (λ (l : List LocalDef). with_locals l (out_of_scope t)) l) m

  pub in_block_fails : (t : o.State) (r : Result Stmt Fault) (f : Fault) → IsErrAnd r (λ e. e ≡ f) → Fails f (inside begun) → Passes t r whole
  in_block_fails t r f h w =
      passes_failed t r f whole h (fails_at f whole (block_with here s inside) is (block_fails here s inside f
      (fails_at f (inside (in_scope (with_locals [] s))) (inside begun) (ap inside (sym begins)) w)))

  -- where what is found in it is all that is looked at
  pub in_block_stops : (t v : o.State) (r : Result Stmt Fault) (f : Fault) → IsErrAnd r (λ e. e ≡ f) → Passes {A = List Stmt} v (Err f) (inside begun) → Passes t r whole
  in_block_stops t v r f h p =
      let there = in_scope (with_locals [] s) in
      passes_failed t r f whole h (fails_at f whole (block_with here s inside) is
      (behind_passed v f (leaves (inside there)) (λ after statements. block_of s.above.locals after statements)
      (leaves_passes v f (inside there) (subst (λ (u : o.State). Passes {A = List Stmt} v (Err f) (inside u)) begins p))))
