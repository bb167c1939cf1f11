-- A level of binary operators over the next tighter one, read from where that one ended.
use Rattle.std.proofs.Common.{◌≡◌, ℕ, zero, suc, ◌+◌, ◌-◌, ◌<◌, List, refl, sym, ap, ◌∙◌, subst, arith}
use Rattle.std.specs.Prelude.{Ok, Err}
use Rattle.c_parts.specs.declared.lexeme.Lexeme.{Lexeme}
use Rattle.c_parts.specs.Scopes.{State}
use Rattle.c_parts.specs.Reading.{Why, Syntax, Deep, Answer, Took, Refused, and_then, pure, shape_of, ◌>>=◌}
use Rattle.c_parts.specs.Production.{many, span_of}
use Rattle.c_cursor.specs.declared.fault.Fault.{Fault}
use Rattle.c_cursor.specs.declared.fault.Fault.TheVariants as fault
use Rattle.c_cursor.specs.declared.marks.Start.{Start}
use Rattle.c_cursor.specs.Input.{Input, Gives, answer, start_at, span_from}
use Rattle.c_syntax.specs.declared.expr.Expr.{Expr}
use Rattle.c_syntax.specs.declared.expr.Link.{Link}
use Rattle.c_syntax.specs.Values.{chain, chain_of}
use Rattle.c_syntax.specs.Grammar.{Inner, binary, cast, link, operators_over}

module _ (i : Inner) where
  -- what is read of a level, by what is read of the next tighter one
  over : ℕ → State → Answer Expr → Answer Expr
  over k n a =
      shape_of (λ n x k. chain_of x) (λ n x k. k) n
      (shape_of (λ n x k. (span_of n k, x)) (λ n x k. k) n
      (and_then a (λ x. (many (link (operators_over k) (binary k i))).read >>= λ ls. pure (x, ls))))

  is_over : (k : ℕ) (n : State) (ts : List Lexeme) → (binary (suc k) i).read n ts ≡ over k n ((binary k i).read n ts)
  unfolding over
  is_over k n ts = refl

  over_refused : (k : ℕ) (why : Why) (n : State) (ts rest : List Lexeme) → (binary k i).read n ts ≡ Refused why rest → (binary (suc k) i).read n ts ≡ Refused why rest
  unfolding over
  over_refused k why n ts rest e = is_over k n ts ∙ ap (over k n) e

  -- a refusal of a level is one of each looser one
  refused_above : (d k l : ℕ) → d + k ≡ l → (why : Why) (n : State) (ts rest : List Lexeme) → (binary k i).read n ts ≡ Refused why rest → (binary l i).read n ts ≡ Refused why rest
  refused_above zero k l h why n ts rest e = subst (λ m. (binary m i).read n ts ≡ Refused why rest) (let q : k ≡ l = omega (arith, h) in q) e
  refused_above (suc d) k l h why n ts rest e =
      refused_above d (suc k) l (let q : d + suc k ≡ l = omega (arith, h) in q) why n ts rest (over_refused k why n ts rest e)

  first_refused : (l : ℕ) (why : Why) (n : State) (ts rest : List Lexeme) → (cast i).read n ts ≡ Refused why rest → (binary l i).read n ts ≡ Refused why rest
  first_refused l why n ts rest e = refused_above l 0 l (let q : l + 0 ≡ l = omega arith in q) why n ts rest e

  -- the first operand failed
  pub first_failed : (l : ℕ) (old new : Input) (f : Fault) → Gives (answer (cast i).read old) (Err f) new → Gives (answer (binary l i).read old) (Err f) new
  first_failed l old new fault.Syntax e = first_refused l Syntax old.state old.rest new.rest e
  first_failed l old new fault.Deep e = first_refused l Deep old.state old.rest new.rest e
  first_failed l old new fault.NoMemory e = tt

  links_refused : (k l : ℕ) (old at : Input) (x : Expr) (why : Why) (rest : List Lexeme) → k < l → answer (binary k i).read old ≡ Took x at.rest at.state
      → answer (many (link (operators_over k) (binary k i))).read at ≡ Refused why rest → answer (binary l i).read old ≡ Refused why rest
  unfolding over
  links_refused k l old at x why rest h e w =
      refused_above (l - suc k) (suc k) l (let q : (l - suc k) + suc k ≡ l = omega (arith, h) in q) why old.state old.rest rest
      (is_over k old.state old.rest ∙ ap (over k old.state) e ∙ ap (λ b. shape_of (λ n x k. chain_of x) (λ n x k. k) old.state (shape_of (λ n x k. (span_of n k, x)) (λ n x k. k) old.state (and_then b (λ ls. pure (x, ls))))) w)

  -- the links of a level failed
  pub links_failed : (k l : ℕ) (old at new : Input) (x : Expr) (f : Fault) → k < l → answer (binary k i).read old ≡ Took x at.rest at.state
      → Gives (answer (many (link (operators_over k) (binary k i))).read at) (Err f) new → Gives (answer (binary l i).read old) (Err f) new
  links_failed k l old at new x fault.Syntax h e w = links_refused k l old at x Syntax new.rest h e w
  links_failed k l old at new x fault.Deep h e w = links_refused k l old at x Deep new.rest h e w
  links_failed k l old at new x fault.NoMemory h e w = tt

  -- one level more is read
  pub level_read : (k : ℕ) (old at new : Input) (start : Start) (x : Expr) (ls : List Link) (y : Expr) → answer (binary k i).read old ≡ Took x at.rest at.state
      → Gives (answer (many (link (operators_over k) (binary k i))).read at) (Ok ls) new → start ≡ start_at old.state → y ≡ chain (span_from start new) x ls
      → answer (binary (k + 1) i).read old ≡ Took y new.rest new.state
  unfolding over
  level_read k old at new start x ls y e w s v =
      subst (λ m. answer (binary m i).read old ≡ Took y new.rest new.state) (let q : suc k ≡ k + 1 = omega arith in q)
      (is_over k old.state old.rest ∙ ap (over k old.state) e
      ∙ ap (λ b. shape_of (λ n x k. chain_of x) (λ n x k. k) old.state (shape_of (λ n x k. (span_of n k, x)) (λ n x k. k) old.state (and_then b (λ ls. pure (x, ls))))) w
      ∙ ap (λ t. Took (chain (span_from t new) x ls) new.rest new.state) (sym s) ∙ ap (λ z. Took z new.rest new.state) (sym v))
