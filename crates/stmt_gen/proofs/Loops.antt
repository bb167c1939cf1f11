-- A loop: its parts in turn, and a jump back, which the play counts.
use Rattle.std.proofs.Common.{◌≡◌, ℕ, zero, suc, ◌+◌, ◌≤◌, refl}
use Rattle.whole_code.specs.declared.op.Op.TheVariants.{Jump}
use Rattle.ideal_machine.specs.Values.{State}
use Rattle.ideal_machine.specs.Play.{Jump as Jumps, bind, with_jump, run}
use Rattle.tree_play.specs.Around.{Flow, TextPlay}
use Rattle.tree_play.specs.Statements.{in_round, loop}
use Rattle.expr_gen.specs.Stretch.{Site, from}
use Rattle.expr_gen.proofs.Stretch.{came, bind_runs, Has, jump_back}
use Rattle.stmt_gen.specs.Code.{Exits, loop_exits}
use Rattle.stmt_gen.specs.Correct.{Flowed}
use Rattle.stmt_gen.proofs.Flows.{PlaysFrom, round_runs}

module _ (site : Site) (k line pc p1 p2 to : ℕ) (x : Exits) (body next : State → TextPlay Flow) (back : Has site p2 line (Jump pc)) (le : pc ≤ p2) (end : p2 + 1 ≡ to)
    (body_runs : PlaysFrom site k pc p1 (loop_exits p1 p2) body) (next_runs : PlaysFrom site k p1 p2 (loop_exits p2 p2) next) where
  pub loop_runs : (n : ℕ) → PlaysFrom site k pc to x (loop n body next)
  loop_runs zero env regs w words agree = (0, refl)
  loop_runs (suc n) env regs w words agree =
      let Q = Flowed site k to x in
      let again = λ (env : State). Jumps (loop n body next env) in
      let rest = λ (env : State). bind (next env) (in_round again) in
      bind_runs site (Flowed site k p1 (loop_exits p1 p2)) Q (from site pc regs) w (body env) (in_round rest) words (body_runs env regs w words agree)
      (round_runs site k p1 to p2 x rest end
      (λ env1 regs1 w1 words1 agree1.
      bind_runs site (Flowed site k p2 (loop_exits p2 p2)) Q (from site p1 regs1) w1 (next env1) (in_round again) words1 (next_runs env1 regs1 w1 words1 agree1)
      (round_runs site k p2 to p2 x again end
      (λ env2 regs2 w2 words2 agree2.
      came site Q (from site p2 regs2) w2 (from site pc regs2) (with_jump w2) (run (loop n body next env2) (with_jump w2)) (jump_back site line p2 pc regs2 w2 le back)
      (loop_runs n env2 regs2 (with_jump w2) words2 agree2)))))
