-- The code of an expression runs its play, and leaves its value in the stated register.
use Rattle.std.proofs.Common.{◌≡◌, ℕ, ◌+◌, ◌≤◌, List, [], ◌∷◌, length, Some, sym, ◌∙◌, subst, arith}
use Rattle.std.specs.Prelude.{slice_get}
use Rattle.filc_num.specs.declared.integer.IntType.{IntType}
use Rattle.filc_num.specs.declared.integer.BinOp.{BinOp}
use Rattle.filc_num.specs.declared.integer.BinOp.TheVariants.{Sub}
use Rattle.form_tree.specs.declared.expr.Expr.{Expr, Number, Local, Negate', Chain', end_of-Expr, more_of-Expr, Row_of-Link, end_of-Link, more_of-Link}
use Rattle.form_tree.specs.Fits.{ExprFits, LinksFit}
use Rattle.filc_code.specs.declared.op.Op.TheVariants.{Const, Move, Binary}
use Rattle.filc_code.specs.Numbers.{operator_number, type_at, type_number}
use Rattle.ideal_machine.specs.declared.value.Value.{Value}
use Rattle.ideal_machine.specs.Values.{State, integer, value_at, put_at}
use Rattle.ideal_machine.specs.Play.{Play, Gives, bind, Log, Goes, run}
use Rattle.ideal_machine.specs.Phrases.{arithmetic}
use Rattle.ideal_machine.proofs.Values.{value_at-put_same, value_at-put_other}
use Rattle.form_play.specs.FormPlay.{TextPlay, in_state, play_expr, play_links}
use Rattle.code_gen.specs.Code.{at_line, expr_code, links_code}
use Rattle.code_gen.proofs.Numbers.{operator_back, type_back}
use Rattle.code_gen.proofs.Between.{Between, front, back}
use Rattle.code_gen.proofs.Registers.{Matches, matches_self, matches_put, matches_on}
use Rattle.code_gen.proofs.Stretch.{Site, Bounded, from, Landing, Runs, lands, bind_runs, phrase_runs, at_instruction}

-- where a value has been computed: at the stretch's end, with registers that match
pub record Arrived (k t pc2 : ℕ) (base : List Value) (env : State) (v : Value) (index : ℕ) (after : List Value) : Type 0 where
  pub here : index ≡ pc2
  pub matches : Matches k t base after env
  pub value : value_at after t ≡ v

module _ (site : Site) (k : ℕ) where
  -- one play after another, where the first computes a value
  pub value_runs :
      {T B : Type 0} (t pc1 : ℕ) (base : List Value) (Q : Landing T B) (K : Bounded) (w : Log) (p : TextPlay Value) (go : State → Value → Play T B) →
      Runs site (Arrived k t pc1 base) K w (run p w) →
      ((env : State) (v : Value) (regs : List Value) (w1 : Log) → Matches k t base regs env → value_at regs t ≡ v → Runs site Q (from site pc1 regs) w1 (run (go env v) w1)) →
      Runs site Q K w (run (bind p go) w)
  value_runs t pc1 base Q K w p go r each =
      bind_runs site (Arrived k t pc1 base) Q K w p go r
      (λ env v pc regs w1 a. subst (λ x. Runs site Q (from site x regs) w1 (run (go env v) w1)) (sym a.here) (each env v regs w1 a.matches a.value))

  -- arithmetic on two registers, with its result in another
  binary_runs :
      {T B : Type 0} (Q : Landing T B) (d a b line pc : ℕ) (op : BinOp) (ty : IntType) (regs : List Value) (w : Log) (x y : Value) (go : Value → Play T B) →
      slice_get site.code pc ≡ Some (at_line line (Binary d a b (operator_number op) (type_number ty))) → value_at regs a ≡ x → value_at regs b ≡ y →
      ((v : Value) (w1 : Log) → Runs site Q (from site (pc + 1) (put_at regs d v)) w1 (run (go v) w1)) →
      Runs site Q (from site pc regs) w (run (bind (arithmetic op ty x y line) (λ _ v. go v)) w)
  binary_runs Q d a b line pc op ty regs w x y go h ex ey each =
      let next = λ (m : ℕ) (v : Value). from site (pc + 1) (put_at regs d v) m in
      let P = λ (o : BinOp) (u : IntType) (l r : Value). Runs site Q (λ m. bind (arithmetic o u l r line) (λ _ v. next m v)) w (run (bind (arithmetic op ty x y line) (λ _ v. go v)) w) in
      at_instruction site Q pc regs w (at_line line (Binary d a b (operator_number op) (type_number ty))) (run (bind (arithmetic op ty x y line) (λ _ v. go v)) w) h
      (subst (λ o. P o (type_at (type_number ty)) (value_at regs a) (value_at regs b)) (sym (operator_back op))
      (subst (λ u. P op u (value_at regs a) (value_at regs b)) (sym (type_back ty))
      (subst (λ l. P op ty l (value_at regs b)) (sym ex) (subst (λ r. P op ty x r) (sym ey) (phrase_runs site Q (arithmetic op ty x y line) next go w each)))))

  -- the value comes into t by the last instruction
  puts :
      (t pc pc2 : ℕ) (base regs : List Value) (env : State) (v : Value) (w : Log) → k ≤ t → pc ≡ pc2 → Matches k t base regs env →
      Runs site (Arrived k t pc2 base) (from site pc (put_at regs t v)) w (Goes env v w)
  puts t pc pc2 base regs env v w le e matches =
      lands site (Arrived k t pc2 base) pc (put_at regs t v) w env v
      (record { here = e; matches = matches_put k t t base regs env v le (omega arith) matches; value = value_at-put_same regs t v })

  mutual
    pub expr_runs :
        (e : Expr) (t pc pc2 : ℕ) (base regs : List Value) (env : State) (w : Log) → k ≤ t → ExprFits k e → Between site.code pc (expr_code e t) pc2 →
        Matches k t base regs env → Runs site (Arrived k t pc2 base) (from site pc regs) w (run (play_expr e env) w)
    expr_runs (Number line ty n) t pc pc2 base regs env w le fit has matches =
        at_instruction site (Arrived k t pc2 base) pc regs w (at_line line (Const t n)) (Goes env (integer n) w) has.0
        (puts t (pc + 1) pc2 base regs env (integer n) w le has.1 matches)
    expr_runs (Local line ty x) t pc pc2 base regs env w le fit has matches =
        subst (λ v. Runs site (Arrived k t pc2 base) (from site pc regs) w (Goes env v w)) (matches.agree.same x fit)
        (at_instruction site (Arrived k t pc2 base) pc regs w (at_line line (Move t x)) (Goes env (value_at regs x) w) has.0
        (puts t (pc + 1) pc2 base regs env (value_at regs x) w le has.1 matches))
    expr_runs (Negate' line ty s (more_of-Expr operand end_of-Expr)) t pc pc2 base regs env w le fit has matches =
        let ce = expr_code operand t in
        let zero_at = at_line line (Const (t + 1) 0) in
        let minus = at_line line (Binary t (t + 1) t (operator_number Sub) (type_number ty)) in
        let p1 = pc + length ce in
        let here = back site.code pc ce (zero_at ∷ (minus ∷ [])) pc2 has in
        let P = Arrived k t pc2 base in
        value_runs t p1 base P (from site pc regs) w (play_expr operand env) (λ env1 v. in_state env1 (arithmetic Sub ty (integer 0) v line))
        (expr_runs operand t pc p1 base regs env w le fit.1 (front site.code pc ce (zero_at ∷ (minus ∷ [])) pc2 has) matches)
        (λ env1 v regs1 w1 matches1 value1.
        let regs2 = put_at regs1 (t + 1) (integer 0) in
        let matches2 = matches_put k t (t + 1) base regs1 env1 (integer 0) (omega arith) (omega arith) matches1 in
        at_instruction site P p1 regs1 w1 zero_at (run (in_state env1 (arithmetic Sub ty (integer 0) v line)) w1) here.0
        (binary_runs P t (t + 1) t line (p1 + 1) Sub ty regs2 w1 (integer 0) v (λ x. Gives env1 x) here.1.0 (value_at-put_same regs1 (t + 1) (integer 0))
        (value_at-put_other regs1 (t + 1) t (integer 0) (omega arith) ∙ value1)
        (λ x w2. puts t (p1 + 1 + 1) pc2 base regs2 env1 x w2 le here.1.1 matches2)))
    expr_runs (Chain' line s (more_of-Expr first end_of-Expr) z links) t pc pc2 base regs env w le fit has matches =
        let cf = expr_code first t in
        let cl = links_code line links t in
        value_runs t (pc + length cf) base (Arrived k t pc2 base) (from site pc regs) w (play_expr first env) (play_links line links)
        (expr_runs first t pc (pc + length cf) base regs env w le fit.0 (front site.code pc cf cl pc2 has) matches)
        (λ env1 v regs1 w1 matches1 value1.
        links_run line links t (pc + length cf) pc2 base regs1 env1 v w1 le fit.1 (back site.code pc cf cl pc2 has) matches1 value1)

    links_run :
        {m : _} (line : ℕ) (links : Row_of-Link m) (t pc pc2 : ℕ) (base regs : List Value) (env : State) (left : Value) (w : Log) → k ≤ t → LinksFit k links →
        Between site.code pc (links_code line links t) pc2 → Matches k t base regs env → value_at regs t ≡ left →
        Runs site (Arrived k t pc2 base) (from site pc regs) w (run (play_links line links env left) w)
    links_run line end_of-Link t pc pc2 base regs env left w le fit has matches value =
        lands site (Arrived k t pc2 base) pc regs w env left (record { here = has; matches = matches; value = value })
    links_run line (more_of-Link op ty operand links) t pc pc2 base regs env left w le fit has matches value =
        let ce = expr_code operand (t + 1) in
        let i = at_line line (Binary t t (t + 1) (operator_number op) (type_number ty)) in
        let cl = links_code line links t in
        let p1 = pc + length ce in
        let here = back site.code pc ce (i ∷ cl) pc2 has in
        let P = Arrived k t pc2 base in
        value_runs (t + 1) p1 regs P (from site pc regs) w (play_expr operand env) (λ env1 right. bind (arithmetic op ty left right line) (λ _ v. play_links line links env1 v))
        (expr_runs operand (t + 1) pc p1 regs regs env w (omega arith) fit.1.0 (front site.code pc ce (i ∷ cl) pc2 has) (matches_self k (t + 1) regs env matches.agree))
        (λ env1 right regs1 w1 matches1 value1.
        let matches2 = matches_on k t (t + 1) base regs regs1 env env1 (omega arith) matches matches1 in
        binary_runs P t t (t + 1) line p1 op ty regs1 w1 left right (λ v. play_links line links env1 v) here.0
        (matches1.kept t le (omega arith) ∙ value) value1
        (λ v w2. links_run line links t (p1 + 1) pc2 base (put_at regs1 t v) env1 v w2 le fit.1.1 here.1
        (matches_put k t t base regs1 env1 v le (omega arith) matches2) (value_at-put_same regs1 t v)))
