-- The code of a statement runs its play: by its flow it lands at the stretch's end, or at a return.
use Rattle.std.proofs.Common.{◌≡◌, ℕ, zero, suc, ◌+◌, ◌≤◌, List, [], ◌∷◌, ◌++◌, length, Some, refl, sym, ap, subst, arith}
use Rattle.std.specs.Prelude.{slice_get}
use Rattle.form_tree.specs.declared.stmt.LocalDef.{LocalDef}
use Rattle.form_tree.specs.declared.stmt.Stmt.{Stmt, Empty, Assign, While', Block', PutChar, Return, Row_of-Stmt, end_of-Stmt, more_of-Stmt}
use Rattle.form_tree.specs.Fits.{StmtFits, StmtsFit}
use Rattle.filc_code.specs.declared.op.Instruction.{Instruction}
use Rattle.filc_code.specs.declared.op.Op.TheVariants.{Const, Move, Jump, JumpZero, Return as ReturnOp, Out}
use Rattle.ideal_machine.specs.declared.value.Value.{Value}
use Rattle.ideal_machine.specs.Values.{State, zero_value, value_at, put_at}
use Rattle.ideal_machine.specs.Play.{Gives, Jump as JumpMark, bind, Log, with_jump, Goes, run}
use Rattle.ideal_machine.specs.Phrases.{put_out, if_zero}
use Rattle.form_play.specs.FormPlay.{Around, Flow, Normal, Broke, Continued, Returned, TextPlay, play_expr, on_normal, after_body, loop, with_zeros, play_stmt, play_stmts}
use Rattle.code_gen.specs.Code.{at_line, expr_code, zeros_code, while_code, stmt_code, stmts_code}
use Rattle.code_gen.proofs.Between.{Between, front, back}
use Rattle.code_gen.proofs.Registers.{Agree, agree_both, matches_none}
use Rattle.code_gen.proofs.Stretch.{Site, from, Comes, comes_on, Landing, Runs, came, lands, bind_runs, phrase_runs, steps, at_instruction, jump_back, branches}
use Rattle.code_gen.proofs.Expressions.{Arrived, value_runs, expr_runs}

pub le_self : (k : ℕ) → k ≤ k
le_self k = omega arith

-- a function's return of this value stands there
pub record Returns (site : Site) (v : Value) (index : ℕ) (after : List Value) : Type 0 where
  pub line : ℕ
  pub a : ℕ
  pub here : slice_get site.code index ≡ Some (at_line line (ReturnOp a))
  pub value : value_at after a ≡ v

-- where a statement lands, by its flow; none breaks or continues yet
abbrev pub Flowed : Site → ℕ → ℕ → State → Flow → ℕ → List Value → Type 0
Flowed site k pc2 env Normal index after = (index ≡ pc2) × Agree k after env
Flowed site k pc2 env Broke index after = ⊥
Flowed site k pc2 env Continued index after = ⊥
Flowed site k pc2 env (Returned v) index after = Returns site v index after

module _ (site : Site) (k : ℕ) where
  -- from an index that has another name
  at_index :
      (Q : Landing State Flow) (pc pc' : ℕ) (regs : List Value) (w : Log) (p : TextPlay Flow) → pc' ≡ pc → Runs site Q (from site pc regs) w (run p w) →
      Runs site Q (from site pc' regs) w (run p w)
  at_index Q pc pc' regs w p e r = subst (λ x. Runs site Q (from site x regs) w (run p w)) (sym e) r

  -- what runs from an index, wherever the registers agree
  abbrev RunsFrom : ℕ → ℕ → (State → TextPlay Flow) → Type 0
  RunsFrom pc pc2 go = (env : State) (regs : List Value) (w : Log) → Agree k regs env → Runs site (Flowed site k pc2) (from site pc regs) w (run (go env) w)

  -- what follows a statement that came to its end; a return stays
  normal_runs :
      (pc1 pc2 : ℕ) (go : State → TextPlay Flow) → RunsFrom pc1 pc2 go → (env : State) (f : Flow) (at : ℕ) (regs : List Value) (w : Log) →
      Flowed site k pc1 env f at regs → Runs site (Flowed site k pc2) (from site at regs) w (run (on_normal go env f) w)
  normal_runs pc1 pc2 go each env Normal at regs w h = at_index (Flowed site k pc2) pc1 at regs w (go env) h.0 (each env regs w h.1)
  normal_runs pc1 pc2 go each env Broke at regs w h = absurd h
  normal_runs pc1 pc2 go each env Continued at regs w h = absurd h
  normal_runs pc1 pc2 go each env (Returned v) at regs w h = lands site (Flowed site k pc2) at regs w env (Returned v) h

  -- what follows a loop's body
  body_goes :
      (pc1 pc2 : ℕ) (go : State → TextPlay Flow) → RunsFrom pc1 pc2 go → (env : State) (f : Flow) (at : ℕ) (regs : List Value) (w : Log) →
      Flowed site k pc1 env f at regs → Runs site (Flowed site k pc2) (from site at regs) w (run (after_body go env f) w)
  body_goes pc1 pc2 go each env Normal at regs w h = at_index (Flowed site k pc2) pc1 at regs w (go env) h.0 (each env regs w h.1)
  body_goes pc1 pc2 go each env Broke at regs w h = absurd h
  body_goes pc1 pc2 go each env Continued at regs w h = absurd h
  body_goes pc1 pc2 go each env (Returned v) at regs w h = lands site (Flowed site k pc2) at regs w env (Returned v) h

  -- the locals of a block
  zeros_come :
      (locals : List LocalDef) (pc pc2 : ℕ) (regs : List Value) (env : State) (w : Log) → Between site.code pc (zeros_code locals) pc2 → Agree k regs env →
      (after : List Value) × Comes (from site pc regs) w (from site pc2 after) w × Agree k after (with_zeros locals env)
  zeros_come [] pc pc2 regs env w has agree = (regs, λ m. (m, ap (λ p. run (from site p regs m) w) has), agree)
  zeros_come (d ∷ locals) pc pc2 regs env w has agree =
      let regs1 = put_at regs d.local zero_value in
      let r = zeros_come locals (pc + 1) pc2 regs1 (put_at env d.local zero_value) w has.1 (agree_both k d.local regs env zero_value agree) in
      (r.0, comes_on (from site pc regs) w (from site (pc + 1) regs1) w (from site pc2 r.0) w (steps site pc regs w (at_line d.line (Const d.local 0)) has.0) r.1, r.2)

  -- a loop of a test and a body, between two indices
  module _ (line at pc2 : ℕ) (ct cb : List Instruction) (test : State → TextPlay Value) (body : State → TextPlay Flow) (has : Between site.code at (while_code line k at ct cb) pc2)
      (test_runs : (env : State) (regs : List Value) (w : Log) → Agree k regs env → Runs site (Arrived k k (at + length ct) regs) (from site at regs) w (run (test env) w))
      (body_runs : RunsFrom (at + length ct + 1) (at + length ct + 1 + length cb) body) where
    abbrev p1 : ℕ
    p1 = at + length ct

    abbrev p2 : ℕ
    p2 = p1 + 1 + length cb

    abbrev out : ℕ
    out = p2 + 1

    there : Between site.code p1 (at_line line (JumpZero k out) ∷ (cb ++ at_line line (Jump at) ∷ [])) pc2
    there = back site.code at ct (at_line line (JumpZero k out) ∷ (cb ++ at_line line (Jump at) ∷ [])) pc2 has

    last : Between site.code p2 (at_line line (Jump at) ∷ []) pc2
    last = back site.code (p1 + 1) cb (at_line line (Jump at) ∷ []) pc2 there.1

    abbrev again : ℕ → State → TextPlay Flow
    again n env = JumpMark (loop n test body env)

    again_runs : (n : ℕ) → RunsFrom at pc2 (loop n test body) → RunsFrom p2 pc2 (again n)
    again_runs n next env regs w agree =
        came site (Flowed site k pc2) (from site p2 regs) w (from site at regs) (with_jump w) (run (loop n test body env) (with_jump w))
        (jump_back site line p2 at regs w (omega arith) last.0) (next env regs (with_jump w) agree)

    pub loop_runs : (n : ℕ) → RunsFrom at pc2 (loop n test body)
    loop_runs zero env regs w agree = (0, refl)
    loop_runs (suc n) env regs w agree =
        let P = Flowed site k pc2 in
        value_runs site k k p1 regs P (from site at regs) w (test env) (λ env1 v. if_zero v.number (Gives env1 Normal) (bind (body env1) (after_body (again n))))
        (test_runs env regs w agree)
        (λ env1 v regs1 w1 matches1 value1.
        branches site P line k p1 out v regs1 w1 (Gives env1 Normal) (bind (body env1) (after_body (again n))) there.0 value1 (omega arith)
        (lands site P out regs1 w1 env1 Normal (last.1, matches1.agree))
        (bind_runs site (Flowed site k p2) P (from site (p1 + 1) regs1) w1 (body env1) (after_body (again n)) (body_runs env1 regs1 w1 matches1.agree)
        (λ env2 f pc regs2 w2 h. body_goes p2 pc2 (again n) (again_runs n (loop_runs n)) env2 f pc regs2 w2 h)))

  module _ (around : Around) where
    mutual
      pub stmt_runs : (s : Stmt) (pc pc2 : ℕ) → StmtFits k s → Between site.code pc (stmt_code s k pc) pc2 → RunsFrom pc pc2 (play_stmt around s)
      stmt_runs Empty pc pc2 fit has env regs w agree = lands site (Flowed site k pc2) pc regs w env Normal (has, agree)
      stmt_runs (Assign line local value) pc pc2 fit has env regs w agree =
          let ce = expr_code value k in
          let i = at_line line (Move local k) in
          let p1 = pc + length ce in
          let here = back site.code pc ce (i ∷ []) pc2 has in
          let P = Flowed site k pc2 in
          value_runs site k k p1 regs P (from site pc regs) w (play_expr value env) (λ env1 v. Gives (put_at env1 local v) Normal)
          (expr_runs site k value k pc p1 regs regs env w (le_self k) fit.1 (front site.code pc ce (i ∷ []) pc2 has) (matches_none k regs regs env agree))
          (λ env1 v regs1 w1 matches1 value1.
          at_instruction site P p1 regs1 w1 i (Goes (put_at env1 local v) Normal w1) here.0
          (lands site P (p1 + 1) (put_at regs1 local (value_at regs1 k)) w1 (put_at env1 local v) Normal
          (here.1, subst (λ x. Agree k (put_at regs1 local x) (put_at env1 local v)) (sym value1) (agree_both k local regs1 env1 v matches1.agree))))
      stmt_runs (While' line test s (more_of-Stmt body end_of-Stmt)) pc pc2 fit has env regs w agree =
          let ct = expr_code test k in
          let cb = stmt_code body k (pc + length ct + 1) in
          let jb = at_line line (Jump pc) in
          let rest = at_line line (JumpZero k (pc + length ct + 1 + length cb + 1)) ∷ (cb ++ jb ∷ []) in
          loop_runs line pc pc2 ct cb (play_expr test) (play_stmt around body) has
          (λ env1 regs1 w1 agree1.
          expr_runs site k test k pc (pc + length ct) regs1 regs1 env1 w1 (le_self k) fit.0 (front site.code pc ct rest pc2 has) (matches_none k regs1 regs1 env1 agree1))
          (stmt_runs body (pc + length ct + 1) (pc + length ct + 1 + length cb) fit.1
          (front site.code (pc + length ct + 1) cb (jb ∷ []) pc2 (back site.code pc ct rest pc2 has).1))
          around.rounds env regs w agree
      stmt_runs (Block' locals z body) pc pc2 fit has env regs w agree =
          let cz = zeros_code locals in
          let p1 = pc + length cz in
          let cs = stmts_code body k p1 in
          let r = zeros_come locals pc p1 regs env w (front site.code pc cz cs pc2 has) agree in
          came site (Flowed site k pc2) (from site pc regs) w (from site p1 r.0) w (run (play_stmts around body (with_zeros locals env)) w) r.1
          (stmts_run body p1 pc2 fit.1 (back site.code pc cz cs pc2 has) (with_zeros locals env) r.0 w r.2)
      stmt_runs (PutChar line value) pc pc2 fit has env regs w agree =
          let ce = expr_code value k in
          let i = at_line line (Out k) in
          let p1 = pc + length ce in
          let here = back site.code pc ce (i ∷ []) pc2 has in
          let P = Flowed site k pc2 in
          value_runs site k k p1 regs P (from site pc regs) w (play_expr value env) (λ env1 v. bind (put_out v line) (λ _ _. Gives env1 Normal))
          (expr_runs site k value k pc p1 regs regs env w (le_self k) fit (front site.code pc ce (i ∷ []) pc2 has) (matches_none k regs regs env agree))
          (λ env1 v regs1 w1 matches1 value1.
          at_instruction site P p1 regs1 w1 i (run (bind (put_out v line) (λ _ _. Gives env1 Normal)) w1) here.0
          (subst (λ x. Runs site P (λ m. bind (put_out x line) (λ _ _. from site (p1 + 1) regs1 m)) w1 (run (bind (put_out v line) (λ _ _. Gives env1 Normal)) w1)) (sym value1)
          (phrase_runs site P (put_out v line) (λ m _. from site (p1 + 1) regs1 m) (λ _. Gives env1 Normal) w1
          (λ _ w2. lands site P (p1 + 1) regs1 w2 env1 Normal (here.1, matches1.agree)))))
      stmt_runs (Return line value) pc pc2 fit has env regs w agree =
          let ce = expr_code value k in
          let i = at_line line (ReturnOp k) in
          let p1 = pc + length ce in
          let here = back site.code pc ce (i ∷ []) pc2 has in
          let P = Flowed site k pc2 in
          value_runs site k k p1 regs P (from site pc regs) w (play_expr value env) (λ env1 v. Gives env1 (Returned v))
          (expr_runs site k value k pc p1 regs regs env w (le_self k) fit (front site.code pc ce (i ∷ []) pc2 has) (matches_none k regs regs env agree))
          (λ env1 v regs1 w1 matches1 value1. lands site P p1 regs1 w1 env1 (Returned v) (record { line = line; a = k; here = here.0; value = value1 }))

      pub stmts_run : {m : _} (body : Row_of-Stmt m) (pc pc2 : ℕ) → StmtsFit k body → Between site.code pc (stmts_code body k pc) pc2 → RunsFrom pc pc2 (play_stmts around body)
      stmts_run end_of-Stmt pc pc2 fit has env regs w agree = lands site (Flowed site k pc2) pc regs w env Normal (has, agree)
      stmts_run (more_of-Stmt s rest) pc pc2 fit has env regs w agree =
          let cs = stmt_code s k pc in
          let p1 = pc + length cs in
          let cr = stmts_code rest k p1 in
          bind_runs site (Flowed site k p1) (Flowed site k pc2) (from site pc regs) w (play_stmt around s env) (on_normal (play_stmts around rest))
          (stmt_runs s pc p1 fit.0 (front site.code pc cs cr pc2 has) env regs w agree)
          (λ env1 f at regs1 w1 h. normal_runs p1 pc2 (play_stmts around rest) (stmts_run rest p1 pc2 fit.1 (back site.code pc cs cr pc2 has)) env1 f at regs1 w1 h)
