-- The code of a statement runs its play, and by its flow lands at its end, at an exit or at a return: one induction over
-- the nine kinds.
use Rattle.std.proofs.Common.{◌≡◌, ℕ, zero, suc, ◌+◌, ◌<◌, ◌≤◌, List, [], ◌∷◌, ◌++◌, Bool, Option, Some, None, refl, ap, ◌∙◌, subst, arith}
use Rattle.c_tree.specs.declared.expr.Expr.{Expr}
use Rattle.c_tree.specs.declared.stmt.Stmt.{Stmt, Run, Block', If', Loop', BreakUnless, Break, Continue, Switch', Return as ReturnStmt, Row_of-Stmt, end_of-Stmt, more_of-Stmt}
use Rattle.c_tree.specs.Operands.{Outline, Context}
use Rattle.c_tree.specs.Fits.{ExprFits, OptionalFits, StmtFits, StmtsFit, in_loop, behind_body, in_switch, in_block}
use Rattle.whole_code.specs.declared.op.Op.TheVariants.{Jump, JumpZero, Return}
use Rattle.ideal_machine.specs.declared.value.Value.{Value}
use Rattle.ideal_machine.specs.Values.{State, zero_value, put_at}
use Rattle.ideal_machine.specs.Play.{Gives, bind, Log, Goes, run}
use Rattle.ideal_machine.specs.Phrases.{Phrase, if_zero}
use Rattle.ideal_machine.proofs.Values.{value_at-put_same}
use Rattle.tree_play.specs.Around.{Around, Normal, Broke, Continued, Returned}
use Rattle.tree_play.specs.Expressions.{play_expr}
use Rattle.tree_play.specs.Statements.{on_normal, after_switch, enter_block, statement_for, play_return, play_stmt, play_stmts}
use Rattle.expr_gen.specs.Operations.{at_line}
use Rattle.expr_gen.specs.Code.{expr_size, expr_code}
use Rattle.expr_gen.specs.Stretch.{Site, around_at, Between, from, Runs, HasWords, CallRuns, Agree, Arrived, InRegister}
use Rattle.expr_gen.proofs.Between.{ends, front_at, back_at}
use Rattle.expr_gen.proofs.Registers.{matches_self}
use Rattle.expr_gen.proofs.Sizes.{expr_length}
use Rattle.expr_gen.proofs.Stretch.{came, lands, bind_runs, jump_on, branches}
use Rattle.expr_gen.proofs.Instructions.{const_runs}
use Rattle.expr_gen.proofs.Expressions.{value_runs, branch_runs, expressions_play}
use Rattle.stmt_gen.specs.Code.{Exits, locals_size, locals_code, cases_size, cases_code, switch_exits, loop_exits, return_code, stmt_size, stmts_size, index_in, stmt_code, stmts_code}
use Rattle.stmt_gen.specs.Correct.{SwitchesFit, RowSwitchesFit, StandAfter, IsReturnOf, Flowed, StatementsPlay}
use Rattle.stmt_gen.proofs.Sizes.{index_after, locals_length, cases_length, stmt_length, stmts_length}
use Rattle.stmt_gen.proofs.Flows.{after_on, at_index, normal_runs, join, switch_runs}
use Rattle.stmt_gen.proofs.Blocks.{block_locals, Entered, locals_run}
use Rattle.stmt_gen.proofs.Switches.{converted_word, WordInRegister, with_word, cases_run}
use Rattle.stmt_gen.proofs.Loops.{loop_runs}

module _ (site : Site) (rounds : ℕ) (call : (function line : ℕ) → List Value → Phrase Value) (more : 0 < rounds) (calls : CallRuns site call) (outline : Outline) (k : ℕ) where
  abbrev around : Around
  around = around_at site rounds call

  abbrev library : Bool
  library = site.library

  -- an expression of a statement has its value in k
  expr_runs :
      (here : Context) (e : Expr) (pc to : ℕ) (regs : List Value) (env : State) (w : Log) → here.locals ≡ k → ExprFits outline here e → HasWords w →
      Between site pc (expr_code library e k pc) to → Agree k regs env →
      Runs site (Arrived k k to regs (InRegister k)) (from site pc regs) w (run (play_expr around e env) w)
  expr_runs here e pc to regs env w same fit words has agree =
      subst (λ k. Between site pc (expr_code library e k pc) to → Agree k regs env → Runs site (Arrived k k to regs (InRegister k)) (from site pc regs) w (run (play_expr around e env) w)) same
      (λ has agree.
      expressions_play site rounds call more calls outline here e here.locals pc to regs regs env w (omega arith) fit words has
      (matches_self here.locals here.locals regs env agree)) has agree

  return_runs :
      (here : Context) (line : ℕ) (value : Option Expr) (pc to : ℕ) (x : Exits) (regs : List Value) (env : State) (w : Log) → here.locals ≡ k →
      OptionalFits outline here value → HasWords w → Between site pc (return_code library line value k pc) to → Agree k regs env →
      Runs site (Flowed site k to x) (from site pc regs) w (run (play_return around value env) w)
  return_runs here line None pc to x regs env w same fit words has agree =
      let regs1 = put_at regs k zero_value in
      let returns : IsReturnOf site zero_value (pc + 1) regs1 = record { line = line; register = k; here = has.1.0; value = value_at-put_same regs k zero_value } in
      const_runs site (Flowed site k to x) pc line k 0 regs w (Goes env (Returned zero_value) w) has.0
      (lands site (Flowed site k to x) (pc + 1) regs1 w env (Returned zero_value) returns)
  return_runs here line (Some value) pc to x regs env w same fit words has agree =
      let cv = expr_code library value k pc in
      let p1 = pc + expr_size value in
      let l0 = expr_length library value k pc in
      let i = at_line library line (Return k) in
      let has1 = back_at site pc (expr_size value) cv (i ∷ []) to l0 has in
      let Q = Flowed site k to x in
      value_runs site k k p1 regs (InRegister k) Q (from site pc regs) w (play_expr around value env) (λ env1 v. Gives env1 (Returned v)) words
      (expr_runs here value pc p1 regs env w same fit words (front_at site pc (expr_size value) cv (i ∷ []) to l0 has) agree)
      (λ env1 v regs1 w1 words1 matches1 value1.
      let returns : IsReturnOf site v p1 regs1 = record { line = line; register = k; here = has1.0; value = value1 } in
      lands site Q p1 regs1 w1 env1 (Returned v) returns)

  mutual
    pub stmt_runs :
        (here : Context) (s : Stmt) (pc to : ℕ) (x : Exits) (regs : List Value) (env : State) (w : Log) → here.locals ≡ k → StmtFits outline here s → SwitchesFit s → HasWords w →
        StandAfter x to → Between site pc (stmt_code library s k pc x) to → Agree k regs env →
        Runs site (Flowed site k to x) (from site pc regs) w (run (play_stmt around s env) w)
    stmt_runs here (Run value) pc to x regs env w same fit small words after has agree =
        value_runs site k k to regs (InRegister k) (Flowed site k to x) (from site pc regs) w (play_expr around value env) (λ env1 _. Gives env1 Normal) words
        (expr_runs here value pc to regs env w same fit words has agree)
        (λ env1 v regs1 w1 words1 matches1 value1. lands site (Flowed site k to x) to regs1 w1 env1 Normal (refl, matches1.agree))
    stmt_runs here (Block' locals z body) pc to x regs env w same fit small words after has agree =
        let p1 = pc + locals_size locals in
        let cl = locals_code library locals k in
        let cb = stmts_code library body k p1 x in
        let l0 = locals_length library locals k in
        let Q = Flowed site k to x in
        bind_runs site (Entered site rounds call k p1) Q (from site pc regs) w (enter_block around locals env) (λ env1 _. play_stmts around body 0 env1) words
        (locals_run site rounds call k here locals pc p1 regs env w same fit.0 words (front_at site pc (locals_size locals) cl cb to l0 has) agree)
        (λ env1 u at regs1 w1 words1 a.
        at_index site k Q p1 at regs1 w1 (run (play_stmts around body 0 env1) w1) a.0
        (stmts_run (in_block here locals) body 0 p1 to x regs1 env1 w1 (block_locals here locals ∙ same) fit.1 small words1 after
        (back_at site pc (locals_size locals) cl cb to l0 has) a.1))
    stmt_runs here (If' line test s (more_of-Stmt one end_of-Stmt) s1 (more_of-Stmt other end_of-Stmt)) pc to x regs env w same fit small words after has agree =
        let ct = expr_code library test k pc in
        let p1 = pc + expr_size test + 1 in
        let p2 = p1 + stmt_size one in
        let c1 = stmt_code library one k p1 x in
        let c2 = stmt_code library other k (p2 + 1) x in
        let l1 = stmt_length library one k p1 x in
        let l2 = stmt_length library other k (p2 + 1) x in
        let l0 = expr_length library test k pc in
        let jz = at_line library line (JumpZero k (p2 + 1)) in
        let j = at_line library line (Jump (p2 + 1 + stmt_size other)) in
        let has1 = back_at site pc (expr_size test) ct (jz ∷ (c1 ++ (j ∷ c2))) to l0 has in
        let has2 = back_at site p1 (stmt_size one) c1 (j ∷ c2) to l1 has1.1 in
        let le : p2 ≤ to = omega (arith, ends site (p2 + 1) c2 to has2.1) in
        branch_runs site k (Flowed site k to x) (Flowed site k p2 x) line k pc to (expr_size test) (stmt_size one) (stmt_size other) regs regs w
        ct c1 c2 (play_expr around test env) (play_stmt around one) (play_stmt around other) words l0 l1 l2 has
        (λ h. expr_runs here test pc (pc + expr_size test) regs env w same fit.0 words h agree)
        (λ env1 regs1 w1 words1 h matches1. stmt_runs here one p1 p2 x regs1 env1 w1 same fit.1.0 small.0 words1 (after_on x p2 to le after) h matches1.agree)
        (λ env1 regs1 w1 words1 h matches1. stmt_runs here other (p2 + 1) to x regs1 env1 w1 same fit.1.1 small.1 words1 after h matches1.agree)
        (λ env1 f at regs1 w1 jump h. join site k p2 to x jump env1 f at regs1 w1 h)
    stmt_runs here (Loop' line s (more_of-Stmt body end_of-Stmt) s1 (more_of-Stmt next end_of-Stmt)) pc to x regs env w same fit small words after has agree =
        let p1 = pc + stmt_size body in
        let p2 = p1 + stmt_size next in
        let x1 = loop_exits p1 p2 in
        let x2 = loop_exits p2 p2 in
        let cb = stmt_code library body k pc x1 in
        let cn = stmt_code library next k p1 x2 in
        let j = at_line library line (Jump pc) in
        let l0 = stmt_length library body k pc x1 in
        let l1 = stmt_length library next k p1 x2 in
        let has1 = back_at site pc (stmt_size body) cb (cn ++ j ∷ []) to l0 has in
        let has2 = back_at site p1 (stmt_size next) cn (j ∷ []) to l1 has1 in
        let before : StandAfter x1 p1 = record { broke = omega arith; continued = omega arith } in
        let before2 : StandAfter x2 p2 = record { broke = omega arith; continued = omega arith } in
        loop_runs site k line pc p1 p2 to x (play_stmt around body) (play_stmt around next) has2.0 (omega arith) has2.1
        (λ env1 regs1 w1 words1 agree1.
        stmt_runs (in_loop here) body pc p1 x1 regs1 env1 w1 same fit.0 small.0 words1 before (front_at site pc (stmt_size body) cb (cn ++ j ∷ []) to l0 has) agree1)
        (λ env1 regs1 w1 words1 agree1.
        stmt_runs (behind_body here) next p1 p2 x2 regs1 env1 w1 same fit.1 small.1 words1 before2 (front_at site p1 (stmt_size next) cn (j ∷ []) to l1 has1) agree1)
        rounds env regs w words agree
    stmt_runs here (BreakUnless line test) pc to x regs env w same fit small words after has agree =
        let ct = expr_code library test k pc in
        let p1 = pc + expr_size test in
        let l0 = expr_length library test k pc in
        let jz = at_line library line (JumpZero k x.broke) in
        let Q = Flowed site k to x in
        let has1 = back_at site pc (expr_size test) ct (jz ∷ []) to l0 has in
        value_runs site k k p1 regs (InRegister k) Q (from site pc regs) w (play_expr around test env) (λ env1 v. if_zero v.number (Gives env1 Broke) (Gives env1 Normal)) words
        (expr_runs here test pc p1 regs env w same fit.1 words (front_at site pc (expr_size test) ct (jz ∷ []) to l0 has) agree)
        (λ env1 v regs1 w1 words1 matches1 value1.
        branches site Q line k p1 x.broke v.number regs1 w1 (Gives env1 Broke) (Gives env1 Normal) has1.0 (ap (λ (u : Value). u.number) value1) (omega (arith, has1.1, after.broke))
        (λ _. lands site Q x.broke regs1 w1 env1 Broke (refl, matches1.agree))
        (lands site Q (p1 + 1) regs1 w1 env1 Normal (has1.1, matches1.agree)))
    stmt_runs here (Break line) pc to x regs env w same fit small words after has agree =
        let Q = Flowed site k to x in
        came site Q (from site pc regs) w (from site x.broke regs) w (Goes env Broke w) (jump_on site line pc x.broke regs w (omega (arith, has.1, after.broke)) has.0)
        (lands site Q x.broke regs w env Broke (refl, agree))
    stmt_runs here (Continue line) pc to x regs env w same fit small words after has agree =
        let Q = Flowed site k to x in
        came site Q (from site pc regs) w (from site x.continued regs) w (Goes env Continued w)
        (jump_on site line pc x.continued regs w (omega (arith, has.1, after.continued)) has.0)
        (lands site Q x.continued regs w env Continued (refl, agree))
    stmt_runs here (Switch' line value cases other z body) pc to x regs env w same fit small words after has agree =
        let cv = expr_code library value k pc in
        let p1 = pc + expr_size value in
        let l0 = expr_length library value k pc in
        let ab = p1 + cases_size cases + 1 in
        let out = ab + stmts_size body in
        let x1 = switch_exits out x in
        let index_of = λ (n : ℕ). index_in body n ab in
        let cc = cases_code library line k index_of cases in
        let jo = at_line library line (Jump (index_of other)) in
        let cs = stmts_code library body k ab x1 in
        let Q = Flowed site k to x in
        let Q1 = Flowed site k to x1 in
        let has1 = back_at site pc (expr_size value) cv (cc ++ (jo ∷ cs)) to l0 has in
        let has2 = back_at site p1 (cases_size cases) cc (jo ∷ cs) to (cases_length library line k index_of cases) has1 in
        let e : out ≡ to = omega (arith, ends site ab cs to has2.1, stmts_length library body k ab x1) in
        let after1 : StandAfter x1 to = record { broke = omega (arith, e); continued = after.continued } in
        value_runs site k k p1 regs (WordInRegister k) Q (from site pc regs) w (play_expr around value env)
        (λ env1 v. bind (play_stmts around body (statement_for cases other v.number) env1) after_switch) words
        (with_word site k k p1 regs (from site pc regs) w (run (play_expr around value env) w) (converted_word around value small.0 env w)
        (expr_runs here value pc p1 regs env w same fit.0 words (front_at site pc (expr_size value) cv (cc ++ (jo ∷ cs)) to l0 has) agree))
        (λ env1 v regs1 w1 words1 matches1 value1.
        let n = statement_for cases other v.number in
        bind_runs site Q1 Q (from site p1 regs1) w1 (play_stmts around body n env1) after_switch words1
        (cases_run site k Q1 env1 w1 (run (play_stmts around body n env1) w1) v.number value1.1 line index_of cases other p1 to cs regs1 small.1.0 has1
        (λ m. omega (arith, index_after body m ab)) (ap (λ (u : Value). u.number) value1.0) matches1.agree
        (λ regs2 agree2. stmts_run (in_switch here) body n ab to x1 regs2 env1 w1 same fit.1.1.1 small.1.1 words1 after1 has2.1 agree2))
        (λ env2 f at regs2 w2 words2 h. switch_runs site k to out x e env2 f at regs2 w2 h))
    stmt_runs here (ReturnStmt line value) pc to x regs env w same fit small words after has agree =
        return_runs here line value pc to x regs env w same fit words has agree

    -- from a statement of the row on
    pub stmts_run :
        {m : _} (here : Context) (row : Row_of-Stmt m) (n pc to : ℕ) (x : Exits) (regs : List Value) (env : State) (w : Log) → here.locals ≡ k → StmtsFit outline here row →
        RowSwitchesFit row → HasWords w → StandAfter x to → Between site pc (stmts_code library row k pc x) to → Agree k regs env →
        Runs site (Flowed site k to x) (from site (index_in row n pc) regs) w (run (play_stmts around row n env) w)
    stmts_run here end_of-Stmt zero pc to x regs env w same fit small words after has agree = lands site (Flowed site k to x) pc regs w env Normal (has, agree)
    stmts_run here end_of-Stmt (suc n) pc to x regs env w same fit small words after has agree = lands site (Flowed site k to x) pc regs w env Normal (has, agree)
    stmts_run here (more_of-Stmt s rest) (suc n) pc to x regs env w same fit small words after has agree =
        let p1 = pc + stmt_size s in
        stmts_run here rest n p1 to x regs env w same fit.1 small.1 words after
        (back_at site pc (stmt_size s) (stmt_code library s k pc x) (stmts_code library rest k p1 x) to (stmt_length library s k pc x) has) agree
    stmts_run here (more_of-Stmt s rest) zero pc to x regs env w same fit small words after has agree =
        let n = stmt_size s in
        let p1 = pc + n in
        let cs = stmt_code library s k pc x in
        let cr = stmts_code library rest k p1 x in
        let l0 = stmt_length library s k pc x in
        let has1 = back_at site pc n cs cr to l0 has in
        let le : p1 ≤ to = omega (arith, ends site p1 cr to has1) in
        bind_runs site (Flowed site k p1 x) (Flowed site k to x) (from site pc regs) w (play_stmt around s env) (on_normal (λ env1. play_stmts around rest 0 env1)) words
        (stmt_runs here s pc p1 x regs env w same fit.0 small.0 words (after_on x p1 to le after) (front_at site pc n cs cr to l0 has) agree)
        (normal_runs site k p1 to x (λ env1. play_stmts around rest 0 env1)
        (λ env1 regs1 w1 words1 agree1. stmts_run here rest 0 p1 to x regs1 env1 w1 same fit.1 small.1 words1 after has1 agree1))

pub statements_play : StatementsPlay
statements_play site rounds call more calls outline here s pc to x regs env w fit small words after has agree =
    stmt_runs site rounds call more calls outline here.locals here s pc to x regs env w refl fit small words after has agree
