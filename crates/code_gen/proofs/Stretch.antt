-- Stretches of code: what it means that a play of code, with a bound, runs a behaviour.
--
-- Where the play goes on, the code lands at an index with registers of which something is known; where the play ends, the
-- code ends like it. `bind_runs` is the one lemma of every construct: what a first part does, and what a second does
-- from wherever the first may land, give the two in a row. `phrase_runs` is the one lemma of every event: both sides say
-- the same phrase, so only what follows it is to be run.
use Rattle.std.proofs.Common.{◌≡◌, ℕ, zero, suc, ◌+◌, ◌<◌, ◌≤◌, List, Some, Bool, refl, sym, ap, ◌∙◌, subst}
use Rattle.std.specs.Prelude.{slice_get, nat_lt}
use Rattle.std.proofs.lemmas.Bool.{lt-ltb, le-ltb}
use Rattle.filc_code.specs.declared.op.Instruction.{Instruction}
use Rattle.filc_code.specs.declared.op.Op.TheVariants.{Jump, JumpZero}
use Rattle.ideal_machine.specs.declared.value.Value.{Value}
use Rattle.ideal_machine.specs.Values.{value_at}
use Rattle.ideal_machine.specs.Play.{Play, bind, Log, with_jump, Behaviour, Goes, Ends, run}
use Rattle.ideal_machine.specs.Phrases.{Phrase, if_zero}
use Rattle.ideal_machine.proofs.Runs.{then_do, run_bind}
use Rattle.code_thread.specs.Exec.{go_to, act, act_at, exec}
use Rattle.code_gen.specs.Code.{at_line}

-- where code runs: whether its thread is that of `main`, and the function's code
pub record Site : Type 0 where
  pub main : Bool
  pub code : List Instruction

-- what code does, with each bound
abbrev pub Bounded : Type 0
Bounded = ℕ → Phrase ℕ

-- the play from an index, with registers
abbrev pub from : Site → ℕ → List Value → Bounded
from site pc regs m = exec site.main site.code m pc regs

-- whatever the second does with m instructions, the first does with some
abbrev pub Comes : Bounded → Log → Bounded → Log → Type 0
Comes K w K1 w1 = (m : ℕ) → (j : ℕ) × (run (K j) w ≡ run (K1 m) w1)

pub comes_on : (K : Bounded) (w : Log) (K1 : Bounded) (w1 : Log) (K2 : Bounded) (w2 : Log) → Comes K w K1 w1 → Comes K1 w1 K2 w2 → Comes K w K2 w2
comes_on K w K1 w1 K2 w2 a b m = let y = b m in let x = a y.0 in (x.0, x.1 ∙ y.1)

-- what is known where a play gives a state and a value, and code stands at an index with registers
abbrev pub Landing : Type 0 → Type 0 → Type 1
Landing S A = S → A → ℕ → List Value → Type 0

pub record Arrives {S A : Type 0} (site : Site) (P : Landing S A) (K : Bounded) (w : Log) (state : S) (v : A) (w1 : Log) : Type 0 where
  pub index : ℕ
  pub after : List Value
  pub comes : Comes K w (from site index after) w1
  pub holds : P state v index after

-- code runs a behaviour: it lands where the play goes on, and ends where it ends
abbrev pub Runs : {S A : Type 0} → Site → Landing S A → Bounded → Log → Behaviour S A → Type 0
Runs site P K w (Goes state v w1) = Arrives site P K w state v w1
Runs site P K w (Ends e w1) = (j : ℕ) × (run (K j) w ≡ Ends e w1)

module _ (site : Site) where
  -- code that comes to code that runs it
  pub came :
      {S A : Type 0} (P : Landing S A) (K : Bounded) (w : Log) (K1 : Bounded) (w1 : Log) (o : Behaviour S A) → Comes K w K1 w1 → Runs site P K1 w1 o →
      Runs site P K w o
  came P K w K1 w1 (Goes s v w2) c r = record {
    index = r.index;
    after = r.after;
    comes = comes_on K w K1 w1 (from site r.index r.after) w2 c r.comes;
    holds = r.holds;
  }
  came P K w K1 w1 (Ends e w2) c r = let x = c r.0 in (x.0, x.1 ∙ r.1)

  -- the play has come to its end, and the code stands there
  pub lands : {S A : Type 0} (P : Landing S A) (pc : ℕ) (regs : List Value) (w : Log) (s : S) (v : A) → P s v pc regs → Runs site P (from site pc regs) w (Goes s v w)
  lands P pc regs w s v h = record { index = pc; after = regs; comes = λ m. (m, refl); holds = h }

  then_runs :
      {S A T B : Type 0} (P : Landing S A) (Q : Landing T B) (K : Bounded) (w : Log) (o : Behaviour S A) (go : S → A → Log → Behaviour T B) → Runs site P K w o →
      ((s : S) (v : A) (pc : ℕ) (regs : List Value) (w1 : Log) → P s v pc regs → Runs site Q (from site pc regs) w1 (go s v w1)) →
      Runs site Q K w (then_do o go)
  then_runs P Q K w (Goes s v w1) go r each = came Q K w (from site r.index r.after) w1 (go s v w1) r.comes (each s v r.index r.after w1 r.holds)
  then_runs P Q K w (Ends e w1) go r each = r

  -- one play after another
  pub bind_runs :
      {S A T B : Type 0} (P : Landing S A) (Q : Landing T B) (K : Bounded) (w : Log) (p : Play S A) (go : S → A → Play T B) → Runs site P K w (run p w) →
      ((s : S) (v : A) (pc : ℕ) (regs : List Value) (w1 : Log) → P s v pc regs → Runs site Q (from site pc regs) w1 (run (go s v) w1)) →
      Runs site Q K w (run (bind p go) w)
  bind_runs P Q K w p go r each = subst (Runs site Q K w) (sym (run_bind p go w)) (then_runs P Q K w (run p w) (λ s v. run (go s v)) r each)

  after_phrase :
      {S X A : Type 0} (Q : Landing S A) (K : ℕ → X → Phrase ℕ) (w : Log) (o : Behaviour (Unit {0}) X) (go : X → Log → Behaviour S A) (k : Bounded) →
      ((m : ℕ) → run (k m) w ≡ then_do o (λ _ x. run (K m x))) →
      ((x : X) (w1 : Log) → Runs site Q (λ m. K m x) w1 (go x w1)) → Runs site Q k w (then_do o (λ _ x. go x))
  after_phrase Q K w (Goes s x w1) go k same each = came Q k w (λ m. K m x) w1 (go x w1) (λ m. (m, same m)) (each x w1)
  after_phrase Q K w (Ends e w1) go k same each = (0, same 0)

  -- a phrase that both sides say, whatever it asks
  pub phrase_runs :
      {S X A : Type 0} (Q : Landing S A) (phrase : Phrase X) (K : ℕ → X → Phrase ℕ) (go : X → Play S A) (w : Log) →
      ((x : X) (w1 : Log) → Runs site Q (λ m. K m x) w1 (run (go x) w1)) →
      Runs site Q (λ m. bind phrase (λ _ x. K m x)) w (run (bind phrase (λ _ x. go x)) w)
  phrase_runs Q phrase K go w each =
      subst (Runs site Q (λ m. bind phrase (λ _ x. K m x)) w) (sym (run_bind phrase (λ _ x. go x) w))
      (after_phrase Q K w (run phrase w) (λ x. run (go x)) (λ m. bind phrase (λ _ x. K m x)) (λ m. run_bind phrase (λ _ x. K m x) w) each)

  -- ---- single instructions

  pub step :
      (pc : ℕ) (regs : List Value) (i : Instruction) → slice_get site.code pc ≡ Some i → (m : ℕ) →
      from site pc regs (suc m) ≡ act site.main i.op i.line (exec site.main site.code m) pc regs
  step pc regs i h m = ap (λ o. act_at site.main o (exec site.main site.code m) pc regs) h

  -- what an instruction does at its index
  abbrev pub does : ℕ → List Value → Instruction → Bounded
  does pc regs i m = act site.main i.op i.line (exec site.main site.code m) pc regs

  pub steps : (pc : ℕ) (regs : List Value) (w : Log) (i : Instruction) → slice_get site.code pc ≡ Some i → Comes (from site pc regs) w (does pc regs i) w
  steps pc regs w i h m = (suc m, ap (λ p. run p w) (step pc regs i h m))

  pub at_instruction :
      {S A : Type 0} (P : Landing S A) (pc : ℕ) (regs : List Value) (w : Log) (i : Instruction) (o : Behaviour S A) → slice_get site.code pc ≡ Some i →
      Runs site P (does pc regs i) w o → Runs site P (from site pc regs) w o
  at_instruction P pc regs w i o h r = came P (from site pc regs) w (does pc regs i) w o (steps pc regs w i h) r

  -- jumps
  jumps_on : (pc target : ℕ) (regs : List Value) (w : Log) → pc < target → Comes (λ m. go_to (nat_lt pc target) (from site target regs m)) w (from site target regs) w
  jumps_on pc target regs w lt m = (m, ap (λ b. run (go_to b (from site target regs m)) w) (lt-ltb pc target lt))

  pub jump_back :
      (line pc target : ℕ) (regs : List Value) (w : Log) → target ≤ pc → slice_get site.code pc ≡ Some (at_line line (Jump target)) →
      Comes (from site pc regs) w (from site target regs) (with_jump w)
  jump_back line pc target regs w le h m =
      (suc m, ap (λ p. run p w) (step pc regs (at_line line (Jump target)) h m ∙ ap (λ b. go_to b (from site target regs m)) (le-ltb pc target le)))

  -- a jump where a register is 0
  pub branches :
      {S A : Type 0} (Q : Landing S A) (line t pc target : ℕ) (v : Value) (regs : List Value) (w : Log) (a b : Play S A) →
      slice_get site.code pc ≡ Some (at_line line (JumpZero t target)) → value_at regs t ≡ v → pc < target →
      Runs site Q (from site target regs) w (run a w) → Runs site Q (from site (pc + 1) regs) w (run b w) →
      Runs site Q (from site pc regs) w (run (if_zero v.number a b) w)
  branches {S} {A} Q line t pc target v regs w a b h value lt r s =
      at_instruction Q pc regs w (at_line line (JumpZero t target)) (run (if_zero v.number a b) w) h
      (subst (λ (x : Value). Runs site Q (jumps x.number) w (run (if_zero v.number a b) w)) (sym value) (chosen v.number)) where
        jumps : ℕ → Bounded
        jumps n m = if_zero n (go_to (nat_lt pc target) (from site target regs m)) (from site (pc + 1) regs m)

        chosen : (n : ℕ) → Runs site Q (jumps n) w (run (if_zero n a b) w)
        chosen zero = came Q (λ m. go_to (nat_lt pc target) (from site target regs m)) w (from site target regs) w (run a w) (jumps_on pc target regs w lt) r
        chosen (suc n) = s
