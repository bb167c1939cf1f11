-- A scope is left as it was entered.
use Rattle.std.proofs.Common.{◌≡◌, ℕ, ◌<◌, false, List, [], length, refl, sym, ap, ◌∙◌, subst}
use Rattle.std.specs.Prelude.{Result, Err}
use Rattle.std.specs.Result.{IsErrAnd}
use Rattle.c_cursor.specs.declared.fault.Fault.{Fault}
use Rattle.c_cursor.specs.declared.fault.Fault.TheVariants as fault
use Rattle.c_cursor.specs.Input.{Input, Gives, answer, in_state}
use Rattle.c_cursor.proofs.Loops.{gives_err}
use Rattle.c_parts.specs.declared.lexeme.Lexeme.{Lexeme}
use Rattle.c_parts.specs.Scopes.{State, Scope, entered, innermost, outer_scopes, with_scopes}
use Rattle.c_parts.specs.Reading.{Took, shape_of}
use Rattle.c_parts.proofs.Laws.{Sound, Taken}
use Rattle.c_parts.proofs.Good.{Good, made-good, optional-good}
use Rattle.c_syntax.specs.declared.expr.Parameter.{Parameter}
use Rattle.c_syntax.specs.Values.{all_listed}
use Rattle.c_syntax.specs.Grammar.{inner, optional_parameters, collected_parameters}
use Rattle.c_syntax.proofs.Declarators.{parameters-good}
use Rattle.c_syntax.proofs.Levels.{same-level}

module _ (room : ℕ) (n : State) (ts rest : List Lexeme) (x : List Parameter) (k : State) (took : (optional_parameters (inner room)).read (entered [] n) ts ≡ Took x rest k) where
  pub still_outer : outer_scopes k.scopes ≡ n.scopes
  still_outer =
      let g : Good false (optional_parameters (inner room)) (optional_parameters (inner room)) =
      made-good all_listed (optional-good (parameters-good (inner room) (inner room) (same-level room)) refl) in
      let taken : Taken (optional_parameters (inner room)).part (entered [] n) ts x rest k =
      subst (λ a. Sound (optional_parameters (inner room)).part (entered [] n) ts a) took (g.low.reads.sound (entered [] n) ts) in
      g.low.reads.keeps (entered [] n) taken.taken x k taken.spells

  pub outer_room : 0 < length n.scopes → 0 < length (outer_scopes k.scopes)
  outer_room h = subst (λ s. 0 < length s) (sym still_outer) h

  pub collected_took : (collected_parameters (inner room)).read n ts ≡ Took (x, innermost k.scopes) rest (with_scopes k (outer_scopes k.scopes))
  collected_took =
      ap (λ a. shape_of (λ n x k. (x, innermost k.scopes)) (λ n x k. with_scopes k n.scopes) n a) took ∙ ap (λ s. Took (x, innermost k.scopes) rest (with_scopes k s)) (sym still_outer)

-- a failure inside is one of the whole
pub collected_failed : (room : ℕ) (i j : Input) (r : Result (List Parameter × Scope) Fault) (f : Fault) → IsErrAnd r (λ e. e ≡ f)
    → Gives (answer (optional_parameters (inner room)).read (in_state i (entered [] i.state))) (Err f) j → Gives (answer (collected_parameters (inner room)).read i) r j
collected_failed room i j r f h w = gives_err (answer (collected_parameters (inner room)).read i) r f j h (inside f w)
  where
    inside : (f : Fault) → Gives (answer (optional_parameters (inner room)).read (in_state i (entered [] i.state))) (Err f) j → Gives (answer (collected_parameters (inner room)).read i) (Err f) j
    inside fault.Syntax w = ap (λ a. shape_of (λ n x k. (x, innermost k.scopes)) (λ n x k. with_scopes k n.scopes) i.state a) w
    inside fault.Deep w = ap (λ a. shape_of (λ n x k. (x, innermost k.scopes)) (λ n x k. with_scopes k n.scopes) i.state a) w
    inside fault.NoMemory w = tt
