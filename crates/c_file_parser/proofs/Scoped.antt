-- A scope is left as it was entered.
use Rattle.std.proofs.Common.{◌≡◌, ◌<◌, List, length, sym, ap, ◌∙◌, subst}
use Rattle.std.specs.Prelude.{Result, Err}
use Rattle.std.specs.Result.{IsErrAnd}
use Rattle.c_cursor.specs.declared.fault.Fault.{Fault}
use Rattle.c_cursor.specs.declared.fault.Fault.TheVariants as fault
use Rattle.c_cursor.specs.Input.{Input, Gives, answer, in_state}
use Rattle.c_cursor.proofs.Loops.{gives_err}
use Rattle.c_parts.specs.declared.lexeme.Lexeme.{Lexeme}
use Rattle.c_parts.specs.Scopes.{State, Scope, entered, outer_scopes, with_scopes}
use Rattle.c_parts.specs.Reading.{Took, shape_of}
use Rattle.c_parts.specs.Production.{Production, scoped_with}
use Rattle.c_parts.proofs.Laws.{Sound, Taken}
use Rattle.c_parts.proofs.Whole.{Whole}

module _ {A : Type 0} (p : Production A) (whole : Whole p) (scope : Scope) (n : State) (ts rest : List Lexeme) (x : A) (k : State) (took : p.read (entered scope n) ts ≡ Took x rest k) where
  still_outer : outer_scopes k.scopes ≡ n.scopes
  still_outer =
      let taken : Taken p.part (entered scope n) ts x rest k = subst (λ a. Sound p.part (entered scope n) ts a) took (whole.reads.sound (entered scope n) ts) in
      whole.reads.keeps (entered scope n) taken.taken x k taken.spells

  pub outer_room : 0 < length n.scopes → 0 < length (outer_scopes k.scopes)
  outer_room h = subst (λ s. 0 < length s) (sym still_outer) h

  pub scoped_took : (scoped_with scope p).read n ts ≡ Took x rest (with_scopes k (outer_scopes k.scopes))
  scoped_took = ap (λ a. shape_of (λ n x k. x) (λ n x k. with_scopes k n.scopes) n a) took ∙ ap (λ s. Took x rest (with_scopes k s)) (sym still_outer)

-- a failure inside is one of the whole
pub scoped_failed : {A : Type 0} (p : Production A) (scope : Scope) (i j : Input) (r : Result A Fault) (f : Fault) → IsErrAnd r (λ e. e ≡ f)
    → Gives (answer p.read (in_state i (entered scope i.state))) (Err f) j → Gives (answer (scoped_with scope p).read i) r j
scoped_failed {A} p scope i j r f h w = gives_err (answer (scoped_with scope p).read i) r f j h (inside f w)
  where
    inside : (f : Fault) → Gives (answer p.read (in_state i (entered scope i.state))) (Err f) j → Gives (answer (scoped_with scope p).read i) (Err f) j
    inside fault.Syntax w = ap (λ a. shape_of (λ n x k. x) (λ n x k. with_scopes k n.scopes) i.state a) w
    inside fault.Deep w = ap (λ a. shape_of (λ n x k. x) (λ n x k. with_scopes k n.scopes) i.state a) w
    inside fault.NoMemory w = tt
