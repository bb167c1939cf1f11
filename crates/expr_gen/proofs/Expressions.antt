-- The code of an expression runs its play, and leaves its value in the stated register: one induction over the five kinds.
use Rattle.std.proofs.Common.{◌≡◌, ℕ, suc, ◌+◌, ◌<◌, ◌≤◌, List, [], ◌∷◌, ◌++◌, length, Bool, true, false, refl, sym, ap, ◌∙◌, subst, arith}
use Rattle.c_tree.specs.declared.expr.Expr.{Expr, Apply', Chain', Logic', Choose', Print', Row_of-Expr, end_of-Expr, more_of-Expr, Row_of-Link, end_of-Link, more_of-Link}
use Rattle.c_tree.specs.Operands.{Outline, Context}
use Rattle.c_tree.specs.Fits.{count_of, ExprFits, OperandsFit, LinksFit}
use Rattle.whole_code.specs.declared.op.Op.TheVariants.{Const, Jump, JumpZero}
use Rattle.whole_code.specs.declared.op.Instruction.{Instruction}
use Rattle.ideal_machine.specs.declared.value.Value.{Value}
use Rattle.ideal_machine.specs.Values.{State, integer, value_at, put_at}
use Rattle.ideal_machine.specs.Play.{Play, Gives, bind, Log, Goes, run}
use Rattle.ideal_machine.specs.Phrases.{Phrase, if_zero}
use Rattle.tree_play.specs.Around.{Around, TextPlay, in_state}
use Rattle.tree_play.specs.Apply.{apply}
use Rattle.tree_play.specs.Printing.{print}
use Rattle.tree_play.specs.Expressions.{play_expr, play_operands, play_links, play_logic}
use Rattle.expr_gen.specs.Operations.{at_line}
use Rattle.expr_gen.specs.Code.{op_code, print_code, op_size, expr_size, operands_size, tests_size, logic_size, branch_code, expr_code, operands_code, links_code, logic_code}
use Rattle.expr_gen.specs.Stretch.{Site, around_at, Between, Bounded, from, Comes, Landing, Runs, HasWords, CallRuns, values_from, Matches, Arrived, InRegister, InRegisters}
use Rattle.expr_gen.specs.Correct.{ExpressionsPlay}
use Rattle.expr_gen.proofs.Between.{ends, front_at, back_at}
use Rattle.expr_gen.proofs.Registers.{matches_self, matches_on}
use Rattle.expr_gen.proofs.Stretch.{line_at, came, lands, bind_runs, onward, jump_on, branches}
use Rattle.expr_gen.proofs.Instructions.{const_runs}
use Rattle.expr_gen.proofs.Landing.{puts}
use Rattle.expr_gen.proofs.Sizes.{op_length, expr_length, operands_length, logic_length}
use Rattle.expr_gen.proofs.Operations.{apply_runs}
use Rattle.expr_gen.proofs.Printing.{print_runs}

module _ (site : Site) (k : ℕ) where
  -- one play after another, where the first computes something
  pub value_runs :
      {A T B : Type 0} (t pc1 : ℕ) (base : List Value) (V : List Value → A → Type 0) (Q : Landing T B) (K : Bounded) (w : Log) (p : TextPlay A) (go : State → A → Play T B) →
      HasWords w → Runs site (Arrived k t pc1 base V) K w (run p w) →
      ((env : State) (v : A) (regs : List Value) (w1 : Log) → HasWords w1 → Matches k t base regs env → V regs v → Runs site Q (from site pc1 regs) w1 (run (go env v) w1)) →
      Runs site Q K w (run (bind p go) w)
  value_runs t pc1 base V Q K w p go words r each =
      bind_runs site (Arrived k t pc1 base V) Q K w p go words r
      (λ env v pc regs w1 words1 a. subst (λ x. Runs site Q (from site x regs) w1 (run (go env v) w1)) (sym a.here) (each env v regs w1 words1 a.matches a.value))

  -- a test, and one of two stretches: what the first comes to ends with a jump to the end of the second
  pub branch_runs :
      {A : Type 0} (Q Q1 : Landing State A) (line t pc to n0 n1 n2 : ℕ) (base regs : List Value) (w : Log) (ct c1 c2 : List Instruction) (test : TextPlay Value)
      (one other : State → TextPlay A) → HasWords w → length ct ≡ n0 → length c1 ≡ n1 → length c2 ≡ n2 →
      Between site pc (branch_code site.library line t pc n0 n1 n2 ct c1 c2) to →
      (Between site pc ct (pc + n0) → Runs site (Arrived k t (pc + n0) base (InRegister t)) (from site pc regs) w (run test w)) →
      ((env : State) (regs : List Value) (w : Log) → HasWords w → Between site (pc + n0 + 1) c1 (pc + n0 + 1 + n1) → Matches k t base regs env →
      Runs site Q1 (from site (pc + n0 + 1) regs) w (run (one env) w)) →
      ((env : State) (regs : List Value) (w : Log) → HasWords w → Between site (pc + n0 + 1 + n1 + 1) c2 to → Matches k t base regs env →
      Runs site Q (from site (pc + n0 + 1 + n1 + 1) regs) w (run (other env) w)) →
      ((env : State) (v : A) (at : ℕ) (regs : List Value) (w : Log) →
      ((regs : List Value) (w : Log) → Comes (from site (pc + n0 + 1 + n1) regs) w (from site to regs) w) → Q1 env v at regs → Runs site Q (from site at regs) w (Goes env v w)) →
      Runs site Q (from site pc regs) w (run (bind test (λ env v. if_zero v.number (other env) (one env))) w)
  branch_runs Q Q1 line t pc to n0 n1 n2 base regs w ct c1 c2 test one other words l0 l1 l2 has rt r1 r2 join =
      let p1 = pc + n0 in
      let p2 = p1 + 1 + n1 in
      let target = p2 + 1 + n2 in
      let jz = at_line site.library line (JumpZero t (p2 + 1)) in
      let j = at_line site.library line (Jump target) in
      let has1 = back_at site pc n0 ct (jz ∷ (c1 ++ (j ∷ c2))) to l0 has in
      let has2 = back_at site (p1 + 1) n1 c1 (j ∷ c2) to l1 has1.1 in
      let e : target ≡ to = omega (arith, ends site (p2 + 1) c2 to has2.1, l2) in
      value_runs t p1 base (InRegister t) Q (from site pc regs) w test (λ env v. if_zero v.number (other env) (one env)) words
      (rt (front_at site pc n0 ct (jz ∷ (c1 ++ (j ∷ c2))) to l0 has))
      (λ env v regs1 w1 words1 matches value.
      branches site Q line t p1 (p2 + 1) v.number regs1 w1 (other env) (one env) has1.0 (ap (λ (x : Value). x.number) value) (omega arith)
      (λ _. r2 env regs1 w1 words1 has2.1 matches)
      (onward site Q1 Q (from site (p1 + 1) regs1) w1 (run (one env) w1)
      (r1 env regs1 w1 words1 (front_at site (p1 + 1) n1 c1 (j ∷ c2) to l1 has1.1) matches)
      (λ env2 v2 at regs2 w2 h.
      join env2 v2 at regs2 w2
      (λ regs w. subst (λ x. Comes (from site p2 regs) w (from site x regs) w) e (jump_on site line p2 target regs w (omega arith) has2.0)) h)))

-- where `&&` has its 0
zero_stands :
    {m : _} (site : Site) (line : ℕ) (row : Row_of-Expr m) (t pc to : ℕ) → Between site pc (logic_code site.library line true row t pc) to →
    Between site (pc + tests_size row + 2) (at_line site.library line (Const t 0) ∷ []) to
zero_stands site line end_of-Expr t pc to has =
    let e : pc + 1 + 1 ≡ pc + 0 + 2 = omega arith in
    subst (λ x. Between site x (at_line site.library line (Const t 0) ∷ []) to) e has.1.1
zero_stands site line (more_of-Expr e rest) t pc to has =
    let library = site.library in
    let p1 = pc + expr_size e in
    let ce = expr_code library e t pc in
    let jz = at_line library line (JumpZero t (p1 + 1 + tests_size rest + 2)) in
    let has1 = back_at site pc (expr_size e) ce (jz ∷ logic_code library line true rest t (p1 + 1)) to (expr_length library e t pc) has in
    let same : p1 + 1 + tests_size rest + 2 ≡ pc + tests_size (more_of-Expr e rest) + 2 = omega arith in
    subst (λ x. Between site x (at_line library line (Const t 0) ∷ []) to) same (zero_stands site line rest t (p1 + 1) to has1.1)

module _ (site : Site) (rounds : ℕ) (call : (function line : ℕ) → List Value → Phrase Value) (more : 0 < rounds) (calls : CallRuns site call) (outline : Outline) (here : Context) where
  abbrev k : ℕ
  k = here.locals

  abbrev around : Around
  around = around_at site rounds call

  abbrev library : Bool
  library = site.library

  -- the value is there already, and a jump leads to the end
  lands_after_jump :
      (t pc1 to : ℕ) (base : List Value) (env : State) (v : Value) (at : ℕ) (regs : List Value) (w : Log) →
      ((regs : List Value) (w : Log) → Comes (from site pc1 regs) w (from site to regs) w) → Arrived k t pc1 base (InRegister t) env v at regs →
      Runs site (Arrived k t to base (InRegister t)) (from site at regs) w (Goes env v w)
  lands_after_jump t pc1 to base env v at regs w jump a =
      subst (λ x. Runs site (Arrived k t to base (InRegister t)) (from site x regs) w (Goes env v w)) (sym a.here)
      (came site (Arrived k t to base (InRegister t)) (from site pc1 regs) w (from site to regs) w (Goes env v w) (jump regs w)
      (lands site (Arrived k t to base (InRegister t)) to regs w env v (record { here = refl; matches = a.matches; value = a.value })))

  constant_runs :
      (line t pc to n : ℕ) (base regs : List Value) (env : State) (w : Log) → k ≤ t → Between site pc (at_line library line (Const t n) ∷ []) to → Matches k t base regs env →
      Runs site (Arrived k t to base (InRegister t)) (from site pc regs) w (Goes env (integer n) w)
  constant_runs line t pc to n base regs env w le has matches =
      const_runs site (Arrived k t to base (InRegister t)) pc line t n regs w (Goes env (integer n) w) has.0
      (puts site k t to base le (pc + 1) regs env (integer n) w has.1 matches)

  mutual
    pub expr_runs :
        (e : Expr) (t pc to : ℕ) (base regs : List Value) (env : State) (w : Log) → k ≤ t → ExprFits outline here e → HasWords w →
        Between site pc (expr_code library e t pc) to → Matches k t base regs env →
        Runs site (Arrived k t to base (InRegister t)) (from site pc regs) w (run (play_expr around e env) w)
    expr_runs (Apply' line o z operands) t pc to base regs env w le fit words has matches =
        let n = count_of operands in
        let p1 = pc + operands_size operands in
        let co = operands_code library operands t pc in
        let cc = op_code library o line t n p1 in
        let l0 = operands_length library operands t pc in
        let P = Arrived k t to base (InRegister t) in
        let l = line_at site line in
        value_runs site k t p1 base (InRegisters t n) P (from site pc regs) w (play_operands around operands env) (λ env1 vs. apply around o l vs env1) words
        (operands_run operands t pc p1 base regs env w le fit.1 words (front_at site pc (operands_size operands) co cc to l0 has) matches)
        (λ env1 vs regs1 w1 words1 matches1 value1.
        subst (λ vs. Runs site P (from site p1 regs1) w1 (run (apply around o l vs env1) w1)) value1
        (apply_runs site rounds call more calls outline here t to base le line p1 n regs1 env1 w1 words1 matches1 o fit.0
        (back_at site pc (operands_size operands) co cc to l0 has)))
    expr_runs (Chain' line s (more_of-Expr first end_of-Expr) z links) t pc to base regs env w le fit words has matches =
        let cf = expr_code library first t pc in
        let n = expr_size first in
        let cl = links_code library line links t (pc + n) in
        let l0 = expr_length library first t pc in
        value_runs site k t (pc + n) base (InRegister t) (Arrived k t to base (InRegister t)) (from site pc regs) w (play_expr around first env)
        (λ env1 v. play_links around line links v env1) words
        (expr_runs first t pc (pc + n) base regs env w le fit.0 words (front_at site pc n cf cl to l0 has) matches)
        (λ env1 v regs1 w1 words1 matches1 value1.
        links_run line links t (pc + n) to base regs1 env1 v w1 le fit.1 words1 (back_at site pc n cf cl to l0 has) matches1 value1)
    expr_runs (Logic' line all z operands) t pc to base regs env w le fit words has matches =
        logic_run line all operands t pc to base regs env w le fit.1 words has matches
    expr_runs (Choose' line s (more_of-Expr test end_of-Expr) s1 (more_of-Expr one end_of-Expr) s2 (more_of-Expr other end_of-Expr)) t pc to base regs env w le fit words has matches =
        let ct = expr_code library test t pc in
        let p1 = pc + expr_size test + 1 in
        let c1 = expr_code library one t p1 in
        let p2 = p1 + expr_size one in
        let c2 = expr_code library other t (p2 + 1) in
        branch_runs site k (Arrived k t to base (InRegister t)) (Arrived k t p2 base (InRegister t)) line t pc to (expr_size test) (expr_size one) (expr_size other) base regs w
        ct c1 c2 (play_expr around test env) (play_expr around one) (play_expr around other) words
        (expr_length library test t pc) (expr_length library one t p1) (expr_length library other t (p2 + 1)) has
        (λ h. expr_runs test t pc (pc + expr_size test) base regs env w le fit.0 words h matches)
        (λ env1 regs1 w1 words1 h matches1. expr_runs one t p1 p2 base regs1 env1 w1 le fit.1.0 words1 h matches1)
        (λ env1 regs1 w1 words1 h matches1. expr_runs other t (p2 + 1) to base regs1 env1 w1 le fit.1.1 words1 h matches1)
        (λ env1 v at regs1 w1 jump a. lands_after_jump t p2 to base env1 v at regs1 w1 jump a)
    expr_runs (Print' line z operands pieces) t pc to base regs env w le fit words has matches =
        let n = count_of operands in
        let p1 = pc + operands_size operands in
        let co = operands_code library operands t pc in
        let cc = print_code library pieces line t n in
        let l0 = operands_length library operands t pc in
        let P = Arrived k t to base (InRegister t) in
        let l = line_at site line in
        value_runs site k t p1 base (InRegisters t n) P (from site pc regs) w (play_operands around operands env) (λ env1 vs. in_state env1 (print around pieces l vs)) words
        (operands_run operands t pc p1 base regs env w le fit.1.0 words (front_at site pc (operands_size operands) co cc to l0 has) matches)
        (λ env1 vs regs1 w1 words1 matches1 value1.
        subst (λ vs. Runs site P (from site p1 regs1) w1 (run (in_state env1 (print around pieces l vs)) w1)) value1
        (print_runs site rounds call more calls k t to base le outline pieces line p1 n regs1 env1 w1 words1 matches1 fit.0 fit.1.1
        (back_at site pc (operands_size operands) co cc to l0 has)))

    pub operands_run :
        {m : _} (row : Row_of-Expr m) (t pc to : ℕ) (base regs : List Value) (env : State) (w : Log) → k ≤ t → OperandsFit outline here row → HasWords w →
        Between site pc (operands_code library row t pc) to → Matches k t base regs env →
        Runs site (Arrived k t to base (InRegisters t (count_of row))) (from site pc regs) w (run (play_operands around row env) w)
    operands_run end_of-Expr t pc to base regs env w le fit words has matches =
        lands site (Arrived k t to base (InRegisters t 0)) pc regs w env [] (record { here = has; matches = matches; value = refl })
    operands_run (more_of-Expr e rest) t pc to base regs env w le fit words has matches =
        let n = count_of rest in
        let ce = expr_code library e t pc in
        let p1 = pc + expr_size e in
        let l0 = expr_length library e t pc in
        let cr = operands_code library rest (t + 1) p1 in
        let P = Arrived k t to base (InRegisters t (suc n)) in
        value_runs site k t p1 base (InRegister t) P (from site pc regs) w (play_expr around e env)
        (λ env1 v. bind (play_operands around rest env1) (λ env2 vs. Gives env2 (v ∷ vs))) words
        (expr_runs e t pc p1 base regs env w le fit.0 words (front_at site pc (expr_size e) ce cr to l0 has) matches)
        (λ env1 v regs1 w1 words1 matches1 value1.
        value_runs site k (t + 1) to regs1 (InRegisters (t + 1) n) P (from site p1 regs1) w1 (play_operands around rest env1) (λ env2 vs. Gives env2 (v ∷ vs)) words1
        (operands_run rest (t + 1) p1 to regs1 regs1 env1 w1 (omega (arith, le)) fit.1 words1 (back_at site pc (expr_size e) ce cr to l0 has)
        (matches_self k (t + 1) regs1 env1 matches1.agree))
        (λ env2 vs regs2 w2 _ matches2 value2.
        lands site P to regs2 w2 env2 (v ∷ vs) (record {
          here = refl;
          matches = matches_on k t (t + 1) base regs1 regs2 env1 env2 (omega arith) matches1 matches2;
          value = ap (λ l. value_at regs2 t ∷ l) value2 ∙ ap (λ x. x ∷ vs) (matches2.kept t le (omega arith) ∙ value1);
        })))

    links_run :
        {m : _} (line : ℕ) (links : Row_of-Link m) (t pc to : ℕ) (base regs : List Value) (env : State) (v : Value) (w : Log) → k ≤ t → LinksFit outline here links →
        HasWords w → Between site pc (links_code library line links t pc) to → Matches k t base regs env → value_at regs t ≡ v →
        Runs site (Arrived k t to base (InRegister t)) (from site pc regs) w (run (play_links around line links v env) w)
    links_run line end_of-Link t pc to base regs env v w le fit words has matches value =
        lands site (Arrived k t to base (InRegister t)) pc regs w env v (record { here = has; matches = matches; value = value })
    links_run line (more_of-Link o z operands links) t pc to base regs env v w le fit words has matches value =
        let n = count_of operands in
        let co = operands_code library operands (t + 1) pc in
        let p1 = pc + operands_size operands in
        let cc = op_code library o line t (suc n) p1 in
        let p2 = p1 + op_size o in
        let cl = links_code library line links t p2 in
        let P = Arrived k t to base (InRegister t) in
        let l = line_at site line in
        let l0 = operands_length library operands (t + 1) pc in
        let l1 = op_length library o line t (suc n) p1 in
        let has1 = back_at site pc (operands_size operands) co (cc ++ cl) to l0 has in
        let rest = λ (env : State) (v : Value). play_links around line links v env in
        value_runs site k (t + 1) p1 regs (InRegisters (t + 1) n) P (from site pc regs) w (play_operands around operands env) (λ env1 vs. bind (apply around o l (v ∷ vs) env1) rest) words
        (operands_run operands (t + 1) pc p1 regs regs env w (omega (arith, le)) fit.1.0 words (front_at site pc (operands_size operands) co (cc ++ cl) to l0 has)
        (matches_self k (t + 1) regs env matches.agree))
        (λ env1 vs regs1 w1 words1 matches1 value1.
        let whole : values_from regs1 t (suc n) ≡ v ∷ vs = ap (λ l. value_at regs1 t ∷ l) value1 ∙ ap (λ x. x ∷ vs) (matches1.kept t le (omega arith) ∙ value) in
        value_runs site k t p2 base (InRegister t) P (from site p1 regs1) w1 (apply around o l (v ∷ vs) env1) rest words1
        (subst (λ vs. Runs site (Arrived k t p2 base (InRegister t)) (from site p1 regs1) w1 (run (apply around o l vs env1) w1)) whole
        (apply_runs site rounds call more calls outline here t p2 base le line p1 (suc n) regs1 env1 w1 words1
        (matches_on k t (t + 1) base regs regs1 env env1 (omega arith) matches matches1) o fit.0 (front_at site p1 (op_size o) cc cl to l1 has1)))
        (λ env2 x regs2 w2 words2 matches2 value2.
        links_run line links t p2 to base regs2 env2 x w2 le fit.1.1 words2 (back_at site p1 (op_size o) cc cl to l1 has1) matches2 value2))

    logic_run :
        {m : _} (line : ℕ) (all : Bool) (row : Row_of-Expr m) (t pc to : ℕ) (base regs : List Value) (env : State) (w : Log) → k ≤ t → OperandsFit outline here row →
        HasWords w → Between site pc (logic_code library line all row t pc) to → Matches k t base regs env →
        Runs site (Arrived k t to base (InRegister t)) (from site pc regs) w (run (play_logic around all row env) w)
    logic_run line true end_of-Expr t pc to base regs env w le fit words has matches =
        let P = Arrived k t to base (InRegister t) in
        let regs1 = put_at regs t (integer 1) in
        let e : pc + 3 ≡ to = omega (arith, has.1.1.1) in
        const_runs site P pc line t 1 regs w (Goes env (integer 1) w) has.0
        (came site P (from site (pc + 1) regs1) w (from site (pc + 3) regs1) w (Goes env (integer 1) w) (jump_on site line (pc + 1) (pc + 3) regs1 w (omega arith) has.1.0)
        (puts site k t to base le (pc + 3) regs env (integer 1) w e matches))
    logic_run line false end_of-Expr t pc to base regs env w le fit words has matches = constant_runs line t pc to 0 base regs env w le has matches
    logic_run line true (more_of-Expr e rest) t pc to base regs env w le fit words has matches =
        let ce = expr_code library e t pc in
        let p1 = pc + expr_size e in
        let l0 = expr_length library e t pc in
        let cr = logic_code library line true rest t (p1 + 1) in
        let target = p1 + 1 + tests_size rest + 2 in
        let jz = at_line library line (JumpZero t target) in
        let has1 = back_at site pc (expr_size e) ce (jz ∷ cr) to l0 has in
        let P = Arrived k t to base (InRegister t) in
        value_runs site k t p1 base (InRegister t) P (from site pc regs) w (play_expr around e env)
        (λ env1 v. if_zero v.number (Gives env1 (integer 0)) (play_logic around true rest env1)) words
        (expr_runs e t pc p1 base regs env w le fit.0 words (front_at site pc (expr_size e) ce (jz ∷ cr) to l0 has) matches)
        (λ env1 v regs1 w1 words1 matches1 value1.
        branches site P line t p1 target v.number regs1 w1 (Gives env1 (integer 0)) (play_logic around true rest env1) has1.0 (ap (λ (x : Value). x.number) value1) (omega arith)
        (λ _. constant_runs line t target to 0 base regs1 env1 w1 le (zero_stands site line rest t (p1 + 1) to has1.1) matches1)
        (logic_run line true rest t (p1 + 1) to base regs1 env1 w1 le fit.1 words1 has1.1 matches1))
    logic_run line false (more_of-Expr e rest) t pc to base regs env w le fit words has matches =
        let ct = expr_code library e t pc in
        let p1 = pc + expr_size e + 1 in
        let c1 = at_line library line (Const t 1) ∷ [] in
        let p2 = p1 + 1 in
        let c2 = logic_code library line false rest t (p2 + 1) in
        branch_runs site k (Arrived k t to base (InRegister t)) (Arrived k t p2 base (InRegister t)) line t pc to (expr_size e) 1 (logic_size false rest) base regs w ct c1 c2
        (play_expr around e env) (λ env1. Gives env1 (integer 1)) (play_logic around false rest) words
        (expr_length library e t pc) refl (logic_length library line false rest t (p2 + 1)) has
        (λ h. expr_runs e t pc (pc + expr_size e) base regs env w le fit.0 words h matches)
        (λ env1 regs1 w1 _ h matches1. constant_runs line t p1 p2 1 base regs1 env1 w1 le h matches1)
        (λ env1 regs1 w1 words1 h matches1. logic_run line false rest t (p2 + 1) to base regs1 env1 w1 le fit.1 words1 h matches1)
        (λ env1 v at regs1 w1 jump a. lands_after_jump t p2 to base env1 v at regs1 w1 jump a)

pub expressions_play : ExpressionsPlay
expressions_play site rounds call more calls outline here e t pc to base regs env w le fit words has matches =
    expr_runs site rounds call more calls outline here e t pc to base regs env w le fit words has matches
