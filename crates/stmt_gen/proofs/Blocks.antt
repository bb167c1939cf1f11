-- Where a block is entered: its locals begin with 0, with a home, or with a home that takes a parameter's value.
use Rattle.std.proofs.Common.{◌≡◌, ◌≢◌, ℕ, ◌+◌, ◌<◌, List, [], ◌∷◌, refl, sym, ◌∙◌, subst, arith}
use Rattle.c_tree.specs.declared.operation.Access.{Access}
use Rattle.c_tree.specs.declared.stmt.LocalDef.{LocalDef}
use Rattle.c_tree.specs.declared.stmt.LocalKind.{LocalKind}
use Rattle.c_tree.specs.declared.stmt.LocalKind.TheVariants as kind
use Rattle.c_tree.specs.Operands.{Context}
use Rattle.c_tree.specs.Fits.{after_kind, in_block, LocalsFit}
use Rattle.whole_code.specs.declared.op.Op.TheVariants.{Home}
use Rattle.ideal_machine.specs.declared.value.Value.{Value}
use Rattle.ideal_machine.specs.Values.{State, zero_value, value_at, put_at}
use Rattle.ideal_machine.specs.Play.{Gives, bind, Log, run}
use Rattle.ideal_machine.specs.Phrases.{Phrase}
use Rattle.ideal_machine.specs.Lifetimes.{make_home}
use Rattle.ideal_machine.proofs.Values.{value_at-put_same, value_at-put_other}
use Rattle.tree_play.specs.Around.{TextPlay}
use Rattle.tree_play.specs.Memory.{store}
use Rattle.tree_play.specs.Statements.{first_value, enter_block}
use Rattle.expr_gen.specs.Code.{instructions}
use Rattle.expr_gen.specs.Stretch.{Site, around_at, Between, from, Landing, Runs, HasWords, Agree}
use Rattle.expr_gen.proofs.Between.{front_at, back_at}
use Rattle.expr_gen.proofs.Registers.{agree_put, agree_both}
use Rattle.expr_gen.proofs.Stretch.{line_at, bind_bind, lands}
use Rattle.expr_gen.proofs.Instructions.{const_runs, move_runs, gives_runs, store_runs}
use Rattle.stmt_gen.specs.Code.{local_ops, local_size, locals_code}
use Rattle.stmt_gen.proofs.Flows.{at_index}
use Rattle.stmt_gen.proofs.Sizes.{local_length}

-- a home more is no local more
kind_locals : (local : ℕ) (begins : LocalKind) (here : Context) → (after_kind local begins here).locals ≡ here.locals
kind_locals local kind.Zero here = refl
kind_locals local (kind.Home bytes) here = refl
kind_locals local (kind.Moved bytes lies) here = refl

pub block_locals : (here : Context) (locals : List LocalDef) → (in_block here locals).locals ≡ here.locals
block_locals here [] = refl
block_locals here (d ∷ locals) = block_locals (after_kind d.local d.kind here) locals ∙ kind_locals d.local d.kind here

module _ (site : Site) (rounds : ℕ) (call : (function line : ℕ) → List Value → Phrase Value) (k : ℕ) where
  -- where the locals of a block have begun
  abbrev pub Entered : ℕ → Landing State (Unit {0})
  Entered to env u index after = (index ≡ to) × Agree k after env

  module _ {A : Type 0} (Q : Landing State A) (d line pc to : ℕ) (regs : List Value) (env : State) (w : Log) (go : Value → TextPlay A) (words : HasWords w) (agree : Agree k regs env)
      (each : (v : Value) (regs1 : List Value) (w1 : Log) → HasWords w1 → Agree k regs1 (put_at env d v) → Runs site Q (from site to regs1) w1 (run (go v) w1)) where
    -- the parameter's value is stored in its home, which is in k first
    moved_runs :
        (bytes : ℕ) (lies : Access) → d < k → Between site pc (instructions site.library line (local_ops (kind.Moved bytes lies) d k)) to →
        Runs site Q (from site pc regs) w (run (bind (first_value (around_at site rounds call) (kind.Moved bytes lies) (line_at site line) (value_at env d)) (λ _ v. go v)) w)
    moved_runs bytes lies lt has =
        let l = line_at site line in
        let v = value_at env d in
        let made = make_home bytes l in
        let stored = λ (home : Value). store site.start.base lies home v l in
        let ne : d ≢ k = omega (arith, lt) in
        subst (Runs site Q (from site pc regs) w) (sym (bind_bind made (λ _ home. bind (stored home) (λ _ _. Gives tt home)) (λ _ v. go v) w))
        (gives_runs site Q pc line k (Home k bytes) made made regs w (λ home. bind (bind (stored home) (λ _ _. Gives tt home)) (λ _ v. go v)) words has.0 (λ m. refl) refl
        (λ home w1 words1.
        let regs1 = put_at regs k home in
        subst (Runs site Q (from site (pc + 1) regs1) w1) (sym (bind_bind (stored home) (λ _ _. Gives tt home) (λ _ v. go v) w1))
        (store_runs site Q lies (pc + 1) line k d home v regs1 w1 (go home) words1 has.1.0 (value_at-put_same regs k home) (value_at-put_other regs k d home ne ∙ agree.same d lt)
        (λ w2 words2.
        move_runs site Q (pc + 1 + 1) line d k home regs1 w2 (run (go home) w2) has.1.1.0 (value_at-put_same regs k home)
        (at_index site k Q to (pc + 1 + 1 + 1) (put_at regs1 d home) w2 (run (go home) w2) has.1.1.1
        (each home (put_at regs1 d home) w2 words2 (agree_both k d regs1 env home (agree_put k k regs env home (omega arith) agree))))))))

    local_runs :
        (begins : LocalKind) → d < k → Between site pc (instructions site.library line (local_ops begins d k)) to →
        Runs site Q (from site pc regs) w (run (bind (first_value (around_at site rounds call) begins (line_at site line) (value_at env d)) (λ _ v. go v)) w)
    local_runs kind.Zero lt has =
        let regs1 = put_at regs d zero_value in
        const_runs site Q pc line d 0 regs w (run (go zero_value) w) has.0
        (at_index site k Q to (pc + 1) regs1 w (run (go zero_value) w) has.1 (each zero_value regs1 w words (agree_both k d regs env zero_value agree)))
    local_runs (kind.Home bytes) lt has =
        let made = make_home bytes (line_at site line) in
        gives_runs site Q pc line d (Home d bytes) made made regs w go words has.0 (λ m. refl) refl
        (λ v w1 words1. at_index site k Q to (pc + 1) (put_at regs d v) w1 (run (go v) w1) has.1 (each v (put_at regs d v) w1 words1 (agree_both k d regs env v agree)))
    local_runs (kind.Moved bytes lies) lt has = moved_runs bytes lies lt has

  pub locals_run :
      (here : Context) (locals : List LocalDef) (pc to : ℕ) (regs : List Value) (env : State) (w : Log) → here.locals ≡ k → LocalsFit here locals → HasWords w →
      Between site pc (locals_code site.library locals k) to → Agree k regs env →
      Runs site (Entered to) (from site pc regs) w (run (enter_block (around_at site rounds call) locals env) w)
  locals_run here [] pc to regs env w same fit words has agree = lands site (Entered to) pc regs w env tt (has, agree)
  locals_run here (d ∷ locals) pc to regs env w same fit words has agree =
      let c0 = instructions site.library d.line (local_ops d.kind d.local k) in
      let n = local_size d.kind in
      let cl = locals_code site.library locals k in
      let l0 = local_length site.library d.kind d.local k d.line in
      let lt : d.local < k = omega (arith, fit.0.0.0, same) in
      local_runs (Entered to) d.local d.line pc (pc + n) regs env w (λ v. enter_block (around_at site rounds call) locals (put_at env d.local v)) words agree
      (λ v regs1 w1 words1 agree1.
      locals_run (after_kind d.local d.kind here) locals (pc + n) to regs1 (put_at env d.local v) w1 (kind_locals d.local d.kind here ∙ same) fit.1 words1
      (back_at site pc n c0 cl to l0 has) agree1)
      d.kind lt (front_at site pc n c0 cl to l0 has)
