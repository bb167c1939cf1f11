-- Instructions that make rounds: they stand where they are, with the access that their check has granted.
use Rattle.std.proofs.Common.{◌≡◌, ℕ, zero, suc, ◌+◌, ◌<◌, List, true, Option, Some, None, refl, sym, ap, ◌∙◌, subst, arith}
use Rattle.whole_code.specs.declared.op.Op.{Op}
use Rattle.whole_code.specs.declared.op.Op.TheVariants.{Lock, BoxCas}
use Rattle.ideal_machine.specs.declared.value.Value.{Value}
use Rattle.ideal_machine.specs.declared.event.Access.{Access}
use Rattle.ideal_machine.specs.Values.{integer, value_at, put_at}
use Rattle.ideal_machine.specs.Play.{Play, Stops, Jump, Cut, bind, Log, with_jump, run}
use Rattle.ideal_machine.specs.Phrases.{Phrase}
use Rattle.ideal_machine.specs.Retries.{or_else, retry}
use Rattle.ideal_machine.specs.IntAccess.{check_access}
use Rattle.ideal_machine.specs.PointerAccess.{PairExchange, check_store, exchange_round, exchange_pair}
use Rattle.ideal_machine.specs.Threads.{lock_round, take_lock}
use Rattle.whole_thread.specs.Standing.{in_round}
use Rattle.whole_thread.specs.Act.{by_number, act, found_or_again, locks, exchanges, made_number}
use Rattle.whole_thread.specs.CodePlay.{act_at, exec}
use Rattle.expr_gen.specs.Stretch.{Site, standing, Bounded, from, Landing, Runs, HasWords}
use Rattle.expr_gen.proofs.Stretch.{line_at, same_line, bind_bind, came, phrase_runs, retry_runs, Has, at_op}

module _ (site : Site) {S A : Type 0} (Q : Landing S A) where
  -- the first round, and then others from where the instruction stands
  pub rounds_run :
      {X : Type 0} (step : Phrase (Option X)) (here : Bounded) (again : ℕ → Option X → Phrase ℕ) (go : X → Play S A) →
      ((m : ℕ) → here (suc m) ≡ bind step (λ _ r. again m r)) → ((m : ℕ) → again m None ≡ Jump (here m)) → here 0 ≡ Stops Cut →
      ((x : X) (w1 : Log) → HasWords w1 → Runs site Q (λ m. again m (Some x)) w1 (run (go x) w1)) →
      (n : ℕ) (w : Log) → 0 < n → HasWords w → Runs site Q (λ m. bind step (λ _ r. again m r)) w (run (bind (retry n step) (λ _ x. go x)) w)
  rounds_run step here again go same jumps cut each zero w lt words = absurd (omega (arith, lt))
  rounds_run step here again go same jumps cut each (suc n) w lt words =
      let f = λ (r : Option _). bind (or_else r (Jump (retry n step))) (λ _ x. go x) in
      subst (Runs site Q (λ m. bind step (λ _ r. again m r)) w) (sym (bind_bind step (λ _ r. or_else r (Jump (retry n step))) (λ _ x. go x) w))
      (phrase_runs site Q step again f w words after) where
        after : (r : Option _) (w : Log) → HasWords w → Runs site Q (λ m. again m r) w (run (bind (or_else r (Jump (retry n step))) (λ _ x. go x)) w)
        after None w words =
            came site Q (λ m. again m None) w here (with_jump w) (run (bind (retry n step) (λ _ x. go x)) (with_jump w)) (λ m. (m, ap (λ p. run p w) (jumps m)))
            (retry_runs site Q step here again go same jumps cut each n (with_jump w) words)
        after (Some x) w words = each x w words

  -- an instruction that makes one more round
  abbrev granted_at : (pc : ℕ) → List Value → Access → Bounded
  granted_at pc regs access m = exec site.code (by_number site.start) m (in_round (standing site pc regs) access)

  granted_step :
      (pc line : ℕ) (o : Op) (regs : List Value) (access : Access) → Has site pc line o → (m : ℕ) →
      granted_at pc regs access (suc m) ≡ act site.code (by_number site.start) (exec site.code (by_number site.start) m) (in_round (standing site pc regs) access) (line_at site line) o
  granted_step pc line o regs access h m =
      let start = by_number site.start in
      let next = exec site.code start m in
      let at = in_round (standing site pc regs) access in
      ap (λ i. act_at site.code start next at i) h ∙ ap (λ l. act site.code start next at l o) (same_line site.library site.called_at line)

  -- ---- locks

  lock_here :
      (rounds : ℕ) → 0 < rounds → (pc line a : ℕ) (regs : List Value) (w : Log) (go : Play S A) → HasWords w → Has site pc line (Lock a) →
      ((w1 : Log) → HasWords w1 → Runs site Q (from site (pc + 1) regs) w1 (run go w1)) →
      Runs site Q (from site pc regs) w (run (bind (take_lock site.start.base rounds (value_at regs a) (line_at site line)) (λ _ _. go)) w)
  lock_here rounds more pc line a regs w go words h each =
      let l = line_at site line in
      let p = value_at regs a in
      let check = check_access site.start.base p 4 true l in
      let at = standing site pc regs in
      let next = λ (m : ℕ). exec site.code (by_number site.start) m in
      at_op site Q pc regs w line (Lock a) (run (bind (take_lock site.start.base rounds p l) (λ _ _. go)) w) h
      (subst (Runs site Q (λ m. bind check (λ _ access. locks (next m) at p l access)) w) (sym (bind_bind check (λ _ access. retry rounds (lock_round p access l)) (λ _ _. go) w))
      (phrase_runs site Q check (λ m access. locks (next m) at p l access) (λ access. bind (retry rounds (lock_round p access l)) (λ _ _. go)) w words
      (λ access w1 words1.
      rounds_run (lock_round p access l) (granted_at pc regs access) (λ m taken. found_or_again (next m) at access taken (λ _. from site (pc + 1) regs m)) (λ _. go)
      (λ m. granted_step pc line (Lock a) regs access h m) (λ m. refl) refl (λ _ w2 words2. each w2 words2) rounds w1 more words1)))

  pub lock_runs :
      (rounds : ℕ) → 0 < rounds → (pc line a : ℕ) (p : Value) (regs : List Value) (w : Log) (go : Play S A) → HasWords w → Has site pc line (Lock a) →
      value_at regs a ≡ p → ((w1 : Log) → HasWords w1 → Runs site Q (from site (pc + 1) regs) w1 (run go w1)) →
      Runs site Q (from site pc regs) w (run (bind (take_lock site.start.base rounds p (line_at site line)) (λ _ _. go)) w)
  lock_runs rounds more pc line a p regs w go words h e each =
      subst (λ x. Runs site Q (from site pc regs) w (run (bind (take_lock site.start.base rounds x (line_at site line)) (λ _ _. go)) w)) e
      (lock_here rounds more pc line a regs w go words h each)

  -- ---- exchanges of pairs

  abbrev registers_after : (d made : ℕ) → List Value → PairExchange → List Value
  registers_after d made regs x = put_at (put_at regs d x.found) made (integer (made_number x.is_made))

  exchange_here :
      (rounds : ℕ) → 0 < rounds → (pc line d made a e n : ℕ) (regs : List Value) (w : Log) (go : PairExchange → Play S A) → HasWords w →
      Has site pc line (BoxCas d made a e n) →
      ((x : PairExchange) (w1 : Log) → HasWords w1 → Runs site Q (from site (pc + 1) (registers_after d made regs x)) w1 (run (go x) w1)) →
      Runs site Q (from site pc regs) w (run (bind (exchange_pair site.start.base rounds (value_at regs a) (value_at regs e) (value_at regs n) (line_at site line)) (λ _ x. go x)) w)
  exchange_here rounds more pc line d made a e n regs w go words h each =
      let l = line_at site line in
      let p = value_at regs a in
      let expected = value_at regs e in
      let desired = value_at regs n in
      let check = check_store site.start.base p l in
      let at = standing site pc regs in
      let next = λ (m : ℕ). exec site.code (by_number site.start) m in
      at_op site Q pc regs w line (BoxCas d made a e n) (run (bind (exchange_pair site.start.base rounds p expected desired l) (λ _ x. go x)) w) h
      (subst (Runs site Q (λ m. bind check (λ _ access. exchanges (next m) at d made expected desired access)) w)
      (sym (bind_bind check (λ _ access. retry rounds (exchange_round access expected desired)) (λ _ x. go x) w))
      (phrase_runs site Q check (λ m access. exchanges (next m) at d made expected desired access) (λ access. bind (retry rounds (exchange_round access expected desired)) (λ _ x. go x)) w words
      (λ access w1 words1.
      rounds_run (exchange_round access expected desired) (granted_at pc regs access)
      (λ m x. found_or_again (next m) at access x (λ x. from site (pc + 1) (registers_after d made regs x) m)) go
      (λ m. granted_step pc line (BoxCas d made a e n) regs access h m) (λ m. refl) refl (λ x w2 words2. each x w2 words2) rounds w1 more words1)))

  pub exchange_runs :
      (rounds : ℕ) → 0 < rounds → (pc line d made a e n : ℕ) (p expected desired : Value) (regs : List Value) (w : Log) (go : PairExchange → Play S A) → HasWords w →
      Has site pc line (BoxCas d made a e n) → value_at regs a ≡ p → value_at regs e ≡ expected → value_at regs n ≡ desired →
      ((x : PairExchange) (w1 : Log) → HasWords w1 → Runs site Q (from site (pc + 1) (registers_after d made regs x)) w1 (run (go x) w1)) →
      Runs site Q (from site pc regs) w (run (bind (exchange_pair site.start.base rounds p expected desired (line_at site line)) (λ _ x. go x)) w)
  exchange_runs rounds more pc line d made a e n p expected desired regs w go words h ep ee en each =
      let R = λ (x y z : Value). Runs site Q (from site pc regs) w (run (bind (exchange_pair site.start.base rounds x y z (line_at site line)) (λ _ x. go x)) w) in
      subst (λ x. R x expected desired) ep (subst (λ y. R (value_at regs a) y desired) ee (subst (λ z. R (value_at regs a) (value_at regs e) z) en
      (exchange_here rounds more pc line d made a e n regs w go words h each)))
