-- The jumps of a switch: the value is compared with each case's, and each jump leads forward.
use Rattle.std.proofs.Common.{◌≡◌, ◌≢◌, ℕ, ◌+◌, ◌%◌, ◌<◌, ◌≤◌, List, [], ◌∷◌, ◌++◌, Bool, true, false, refl, sym, ap, ◌∙◌, subst, arith}
use Rattle.std.specs.Prelude.{◌^◌, ◌==◌, not, All, if◌then◌else◌}
use Rattle.std.proofs.lemmas.List.Elements.{All-head, All-tail}
use Rattle.filc_num.specs.Integers.{convert_of, binary_of, truth_of}
use Rattle.filc_num.specs.declared.integer.IntType.{IntType}
use Rattle.filc_num.specs.declared.integer.IntType.TheVariants.{U64}
use Rattle.filc_num.specs.declared.integer.BinOp.TheVariants.{Ne}
use Rattle.filc_num.proofs.Conversions.{IsValue-convert_of}
use Rattle.c_tree.specs.declared.expr.Expr.{Expr, Apply', Chain', Logic', Choose', Print', end_of-Expr, more_of-Expr}
use Rattle.c_tree.specs.declared.operation.Operation.{Operation}
use Rattle.c_tree.specs.declared.operation.Operation.TheVariants as op
use Rattle.c_tree.specs.declared.stmt.Case.{Case}
use Rattle.whole_code.specs.declared.op.Op.TheVariants.{Jump}
use Rattle.whole_code.specs.declared.op.Instruction.{Instruction}
use Rattle.ideal_machine.specs.declared.value.Value.{Value}
use Rattle.ideal_machine.specs.Values.{State, integer, value_at, put_at}
use Rattle.ideal_machine.specs.Play.{Gives, Log, Behaviour, Goes, Ends, run}
use Rattle.ideal_machine.specs.Phrases.{arithmetic}
use Rattle.ideal_machine.proofs.Runs.{then_do, run_bind}
use Rattle.ideal_machine.proofs.Values.{value_at-put_same, value_at-put_other}
use Rattle.tree_play.specs.Around.{Around, line_in}
use Rattle.tree_play.specs.Apply.{apply}
use Rattle.tree_play.specs.Expressions.{play_expr, play_operands}
use Rattle.tree_play.specs.Statements.{statement_for}
use Rattle.expr_gen.specs.Operations.{at_line}
use Rattle.expr_gen.specs.Code.{instructions}
use Rattle.expr_gen.specs.Stretch.{Site, Between, Bounded, from, Landing, Runs, Agree, Arrived, InRegister}
use Rattle.expr_gen.proofs.Between.{front_at, back_at}
use Rattle.expr_gen.proofs.Registers.{agree_put}
use Rattle.expr_gen.proofs.Stretch.{line_at, came, jump_on, zero_taken, zero_passed}
use Rattle.expr_gen.proofs.Instructions.{const_runs, binary_known}
use Rattle.stmt_gen.specs.Code.{case_ops, cases_size, cases_code}
use Rattle.stmt_gen.specs.Correct.{IsConverted, IsWordCase}
use Rattle.stmt_gen.proofs.Flows.{at_index}

-- ---- what was converted is a word

abbrev pub GivesWord : Behaviour State Value → Type 0
GivesWord (Goes s v w) = v.number < 2 ^ 64
GivesWord (Ends e w) = Unit {0}

then_word : {A : Type 0} (o : Behaviour State A) (go : State → A → Log → Behaviour State Value) → ((s : State) (v : A) (w : Log) → GivesWord (go s v w)) → GivesWord (then_do o go)
then_word (Goes s v w) go each = each s v w
then_word (Ends e w) go each = tt

conversion_word : (around : Around) (ty : IntType) (line : ℕ) (vs : List Value) (env : State) (w : Log) → GivesWord (run (apply around (op.Convert ty) line vs env) w)
conversion_word around ty line [] env w = tt
conversion_word around ty line (v ∷ []) env w = (IsValue-convert_of ty v.number).fits
conversion_word around ty line (v ∷ u ∷ vs) env w = tt

pub converted_word : (around : Around) (e : Expr) → IsConverted e → (env : State) (w : Log) → GivesWord (run (play_expr around e env) w)
converted_word around (Apply' line o z operands) is env w =
    let go = λ (o : Operation) (env : State) (vs : List Value). apply around o (line_in around line) vs env in
    subst GivesWord (sym (run_bind (play_operands around operands env) (go o) w))
    (subst (λ o. GivesWord (then_do (run (play_operands around operands env) w) (λ s vs. run (go o s vs)))) (sym is.1)
    (then_word (run (play_operands around operands env) w) (λ s vs. run (go (op.Convert is.0) s vs))
    (λ s vs w1. conversion_word around is.0 (line_in around line) vs s w1)))
converted_word around (Chain' line s (more_of-Expr first end_of-Expr) z links) is env w = absurd is
converted_word around (Logic' line all z operands) is env w = absurd is
converted_word around (Choose' line s (more_of-Expr test end_of-Expr) s1 (more_of-Expr one end_of-Expr) s2 (more_of-Expr other end_of-Expr)) is env w = absurd is
converted_word around (Print' line z operands pieces) is env w = absurd is

abbrev pub WordInRegister : ℕ → List Value → Value → Type 0
WordInRegister t regs v = InRegister t regs v × (v.number < 2 ^ 64)

pub with_word :
    (site : Site) (k t to : ℕ) (base : List Value) (K : Bounded) (w : Log) (o : Behaviour State Value) → GivesWord o →
    Runs site (Arrived k t to base (InRegister t)) K w o → Runs site (Arrived k t to base (WordInRegister t)) K w o
with_word site k t to base K w (Goes s v w1) small r = record {
  index = r.index;
  after = r.after;
  comes = r.comes;
  holds = record { here = r.holds.here; matches = r.holds.matches; value = (r.holds.value, small) };
}
with_word site k t to base K w (Ends e w1) small r = r

-- ---- a comparison

test_arithmetic :
    (v : Value) (n c line : ℕ) → v.number ≡ n → n < 2 ^ 64 → c < 2 ^ 64 →
    arithmetic Ne U64 v (integer c) line ≡ Gives tt (integer (truth_of (not (n == c))))
unfolding binary_of convert_of
test_arithmetic v n c line e ln lc =
    let x : v.number % 2 ^ 64 ≡ n = omega (arith, e, ln) in
    let y : c % 2 ^ 64 ≡ c = omega (arith, lc) in
    ap (λ (z : ℕ). Gives tt (integer (truth_of (not (z == c % 2 ^ 64))))) x ∙ ap (λ (z : ℕ). Gives tt (integer (truth_of (not (n == z))))) y

module _ (site : Site) (k : ℕ) {A : Type 0} (Q : Landing State A) (env : State) (w : Log) (b : Behaviour State A) (n : ℕ) (small : n < 2 ^ 64) where
  -- from an index, wherever registers agree with the locals
  abbrev RunsFrom : ℕ → Type 0
  RunsFrom index = (regs : List Value) → Agree k regs env → Runs site Q (from site index regs) w b

  abbrev RunsWith : ℕ → Type 0
  RunsWith index = (regs : List Value) → Agree k regs env → (value_at regs k).number ≡ n → Runs site Q (from site index regs) w b

  -- one case: where its value is the one, to its statement, else on to the next case
  case_runs :
      (line c pc to : ℕ) (go : Bool → ℕ) (regs : List Value) → c < 2 ^ 64 → Between site pc (instructions site.library line (case_ops c k (go true))) to → to ≤ go true →
      (value_at regs k).number ≡ n → Agree k regs env → (RunsFrom (go false) → RunsWith to) → RunsFrom (go (n == c)) → Runs site Q (from site pc regs) w b
  case_runs line c pc to go regs word has le value agree rest each =
      let regs1 = put_at regs (k + 1) (integer c) in
      let ne : k ≢ k + 1 = omega arith in
      let first = value_at-put_other regs (k + 1) k (integer c) ne in
      let e = ap (λ (x : Value). x.number) first ∙ value in
      let v = value_at regs1 k in
      let truth = integer (truth_of (not (n == c))) in
      const_runs site Q pc line (k + 1) c regs w b has.0
      (binary_known site Q (pc + 1) line (k + 1) k (k + 1) Ne U64 v (integer c) truth regs1 w b has.1.0 refl (value_at-put_same regs (k + 1) (integer c))
      (test_arithmetic v n c (line_at site line) e small word)
      (tested regs1 e (agree_put k (k + 1) regs env (integer c) (omega arith) agree) (n == c) each)) where
        tested :
            (regs1 : List Value) → (value_at regs1 k).number ≡ n → Agree k regs1 env → (holds : Bool) → RunsFrom (go holds) →
            Runs site Q (from site (pc + 1 + 1) (put_at regs1 (k + 1) (integer (truth_of (not holds))))) w b
        tested regs1 e agree1 true each =
            let regs2 = put_at regs1 (k + 1) (integer 0) in
            came site Q (from site (pc + 1 + 1) regs2) w (from site (go true) regs2) w b
            (zero_taken site line (k + 1) (pc + 1 + 1) (go true) regs2 w has.1.1.0 (ap (λ (x : Value). x.number) (value_at-put_same regs1 (k + 1) (integer 0))) (omega (arith, has.1.1.1, le)))
            (each regs2 (agree_put k (k + 1) regs1 env (integer 0) (omega arith) agree1))
        tested regs1 e agree1 false each =
            let regs2 = put_at regs1 (k + 1) (integer 1) in
            let ne : k ≢ k + 1 = omega arith in
            let same = ap (λ (x : Value). x.number) (value_at-put_other regs1 (k + 1) k (integer 1) ne) ∙ e in
            came site Q (from site (pc + 1 + 1) regs2) w (from site (pc + 1 + 1 + 1) regs2) w b
            (zero_passed site line (k + 1) (pc + 1 + 1) (go true) 0 regs2 w has.1.1.0 (ap (λ (x : Value). x.number) (value_at-put_same regs1 (k + 1) (integer 1))))
            (at_index site k Q to (pc + 1 + 1 + 1) regs2 w b has.1.1.1 (rest each regs2 (agree_put k (k + 1) regs1 env (integer 1) (omega arith) agree1) same))

  pub cases_run :
      (line : ℕ) (index_of : ℕ → ℕ) (cases : List Case) (other pc to : ℕ) (cs : List Instruction) (regs : List Value) → All IsWordCase cases →
      Between site pc (cases_code site.library line k index_of cases ++ at_line site.library line (Jump (index_of other)) ∷ cs) to →
      ((m : ℕ) → pc + cases_size cases < index_of m) → (value_at regs k).number ≡ n → Agree k regs env →
      RunsFrom (index_of (statement_for cases other n)) → Runs site Q (from site pc regs) w b
  cases_run line index_of [] other pc to cs regs fit has lt value agree each =
      came site Q (from site pc regs) w (from site (index_of other) regs) w b (jump_on site line pc (index_of other) regs w (omega (arith, lt other)) has.0) (each regs agree)
  cases_run line index_of (c ∷ cases) other pc to cs regs fit has lt value agree each =
      let c0 = instructions site.library line (case_ops c.value k (index_of c.statement)) in
      let jo = at_line site.library line (Jump (index_of other)) in
      let cc = cases_code site.library line k index_of cases ++ jo ∷ cs in
      let go = λ (holds : Bool). index_of (if holds then c.statement else statement_for cases other n) in
      case_runs line c.value pc (pc + 3) go regs (All-head IsWordCase c cases fit) (front_at site pc 3 c0 cc to refl has) (omega (arith, lt c.statement)) value agree
      (λ each1 regs1 agree1 value1.
      cases_run line index_of cases other (pc + 3) to cs regs1 (All-tail IsWordCase c cases fit) (back_at site pc 3 c0 cc to refl has) (λ m. omega (arith, lt m)) value1 agree1 each1)
      each
