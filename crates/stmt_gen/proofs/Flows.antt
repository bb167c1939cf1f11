-- Where statements land: what follows one by its flow, and what a part of a loop or of a switch makes of it.
use Rattle.std.proofs.Common.{◌≡◌, ℕ, ◌+◌, ◌≤◌, List, refl, sym, ◌∙◌, subst, arith}
use Rattle.ideal_machine.specs.declared.value.Value.{Value}
use Rattle.ideal_machine.specs.Values.{State}
use Rattle.ideal_machine.specs.Play.{Log, Behaviour, Goes, run}
use Rattle.tree_play.specs.Around.{Flow, Normal, Broke, Continued, Returned, TextPlay}
use Rattle.tree_play.specs.Statements.{on_normal, in_round, after_switch}
use Rattle.expr_gen.specs.Stretch.{Site, from, Comes, Landing, Runs, HasWords, Agree}
use Rattle.expr_gen.proofs.Stretch.{came, lands}
use Rattle.stmt_gen.specs.Code.{Exits, switch_exits, loop_exits}
use Rattle.stmt_gen.specs.Correct.{StandAfter, Flowed}

pub after_on : (x : Exits) (to1 to : ℕ) → to1 ≤ to → StandAfter x to → StandAfter x to1
after_on x to1 to le h = record { broke = omega (arith, le, h.broke); continued = omega (arith, le, h.continued) }

module _ (site : Site) (k : ℕ) where
  -- from an index that has another name
  pub at_index :
      {S A : Type 0} (Q : Landing S A) (pc at : ℕ) (regs : List Value) (w : Log) (b : Behaviour S A) → at ≡ pc →
      Runs site Q (from site pc regs) w b → Runs site Q (from site at regs) w b
  at_index Q pc at regs w b e r = subst (λ x. Runs site Q (from site x regs) w b) (sym e) r

  -- what is played from an index, wherever registers agree with the locals
  abbrev pub PlaysFrom : (pc to : ℕ) → Exits → (State → TextPlay Flow) → Type 0
  PlaysFrom pc to x go =
      (env : State) (regs : List Value) (w : Log) → HasWords w → Agree k regs env → Runs site (Flowed site k to x) (from site pc regs) w (run (go env) w)

  -- what follows a statement that came to its end; any other flow stays
  pub normal_runs :
      (pc1 to : ℕ) (x : Exits) (go : State → TextPlay Flow) → PlaysFrom pc1 to x go →
      (env : State) (f : Flow) (at : ℕ) (regs : List Value) (w : Log) → HasWords w → Flowed site k pc1 x env f at regs →
      Runs site (Flowed site k to x) (from site at regs) w (run (on_normal go env f) w)
  normal_runs pc1 to x go each env Normal at regs w words h = at_index (Flowed site k to x) pc1 at regs w (run (go env) w) h.0 (each env regs w words h.1)
  normal_runs pc1 to x go each env Broke at regs w words h = lands site (Flowed site k to x) at regs w env Broke h
  normal_runs pc1 to x go each env Continued at regs w words h = lands site (Flowed site k to x) at regs w env Continued h
  normal_runs pc1 to x go each env (Returned v) at regs w words h = lands site (Flowed site k to x) at regs w env (Returned v) h

  -- a jump from the end of a stretch to the end of another; any other flow stays
  pub join :
      (pc1 to : ℕ) (x : Exits) → ((regs : List Value) (w : Log) → Comes (from site pc1 regs) w (from site to regs) w) →
      (env : State) (f : Flow) (at : ℕ) (regs : List Value) (w : Log) → Flowed site k pc1 x env f at regs →
      Runs site (Flowed site k to x) (from site at regs) w (Goes env f w)
  join pc1 to x jump env Normal at regs w h =
      at_index (Flowed site k to x) pc1 at regs w (Goes env Normal w) h.0
      (came site (Flowed site k to x) (from site pc1 regs) w (from site to regs) w (Goes env Normal w) (jump regs w)
      (lands site (Flowed site k to x) to regs w env Normal (refl, h.1)))
  join pc1 to x jump env Broke at regs w h = lands site (Flowed site k to x) at regs w env Broke h
  join pc1 to x jump env Continued at regs w h = lands site (Flowed site k to x) at regs w env Continued h
  join pc1 to x jump env (Returned v) at regs w h = lands site (Flowed site k to x) at regs w env (Returned v) h

  -- after a part of a loop, whose break goes after the jump back
  pub round_runs :
      (pc1 to back : ℕ) (x : Exits) (go : State → TextPlay Flow) → back + 1 ≡ to → PlaysFrom pc1 to x go →
      (env : State) (f : Flow) (at : ℕ) (regs : List Value) (w : Log) → HasWords w → Flowed site k pc1 (loop_exits pc1 back) env f at regs →
      Runs site (Flowed site k to x) (from site at regs) w (run (in_round go env f) w)
  round_runs pc1 to back x go e each env Normal at regs w words h = at_index (Flowed site k to x) pc1 at regs w (run (go env) w) h.0 (each env regs w words h.1)
  round_runs pc1 to back x go e each env Continued at regs w words h = at_index (Flowed site k to x) pc1 at regs w (run (go env) w) h.0 (each env regs w words h.1)
  round_runs pc1 to back x go e each env Broke at regs w words h = lands site (Flowed site k to x) at regs w env Normal (h.0 ∙ e, h.1)
  round_runs pc1 to back x go e each env (Returned v) at regs w words h = lands site (Flowed site k to x) at regs w env (Returned v) h

  -- after the statements of a switch, which a break leaves
  pub switch_runs :
      (to out : ℕ) (x : Exits) → out ≡ to →
      (env : State) (f : Flow) (at : ℕ) (regs : List Value) (w : Log) → Flowed site k to (switch_exits out x) env f at regs →
      Runs site (Flowed site k to x) (from site at regs) w (run (after_switch env f) w)
  switch_runs to out x e env Normal at regs w h = lands site (Flowed site k to x) at regs w env Normal h
  switch_runs to out x e env Broke at regs w h = lands site (Flowed site k to x) at regs w env Normal (h.0 ∙ e, h.1)
  switch_runs to out x e env Continued at regs w h = lands site (Flowed site k to x) at regs w env Continued h
  switch_runs to out x e env (Returned v) at regs w h = lands site (Flowed site k to x) at regs w env (Returned v) h
