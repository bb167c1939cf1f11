-- Where the last instruction of an operation leaves its value in the operation's register.
use Rattle.std.proofs.Common.{◌≡◌, ℕ, ◌+◌, ◌≤◌, List, refl, arith}
use Rattle.ideal_machine.specs.declared.value.Value.{Value}
use Rattle.ideal_machine.specs.Values.{State, value_at, put_at}
use Rattle.ideal_machine.specs.Play.{Gives, bind, Log, Goes, run}
use Rattle.ideal_machine.specs.Phrases.{Phrase}
use Rattle.ideal_machine.proofs.Values.{value_at-put_same}
use Rattle.whole_code.specs.declared.op.Op.{Op}
use Rattle.c_tree.specs.declared.operation.Operation.{Operation}
use Rattle.tree_play.specs.Apply.{apply}
use Rattle.expr_gen.specs.Stretch.{Site, around_at, from, Landing, Runs, HasWords, values_from, Matches, Arrived, InRegister}
use Rattle.expr_gen.proofs.Registers.{matches_put}
use Rattle.expr_gen.proofs.Stretch.{line_at, lands, does, Has}
use Rattle.expr_gen.proofs.Instructions.{gives_runs, does_runs}

module _ (site : Site) (k t to : ℕ) (base : List Value) (le : k ≤ t) where
  abbrev pub Into : Landing State Value
  Into = Arrived k t to base (InRegister t)

  -- the value is there
  pub stays :
      (pc : ℕ) (regs : List Value) (env : State) (v : Value) (w : Log) → pc ≡ to → Matches k t base regs env → value_at regs t ≡ v →
      Runs site Into (from site pc regs) w (Goes env v w)
  stays pc regs env v w e matches value = lands site Into pc regs w env v (record { here = e; matches = matches; value = value })

  -- the value comes there
  pub puts :
      (pc : ℕ) (regs : List Value) (env : State) (v : Value) (w : Log) → pc ≡ to → Matches k t base regs env →
      Runs site Into (from site pc (put_at regs t v)) w (Goes env v w)
  puts pc regs env v w e matches =
      stays pc (put_at regs t v) env v w e (matches_put k t t base regs env v le (omega arith) matches) (value_at-put_same regs t v)

  -- a phrase gives it, by the last instruction
  pub last_gives :
      (pc line : ℕ) (o : Op) (made said : Phrase Value) (regs : List Value) (env : State) (w : Log) → HasWords w → Has site pc line o → pc + 1 ≡ to →
      ((m : ℕ) → does site pc regs line o m ≡ bind made (λ _ v. from site (pc + 1) (put_at regs t v) m)) → made ≡ said → Matches k t base regs env →
      Runs site Into (from site pc regs) w (run (bind said (λ _ v. Gives env v)) w)
  last_gives pc line o made said regs env w words h to_end same e matches =
      gives_runs site Into pc line t o made said regs w (λ v. Gives env v) words h same e (λ v w1 _. puts (pc + 1) regs env v w1 to_end matches)

  -- a phrase without a value, beside the first operand
  pub last_does :
      (pc line : ℕ) (o : Op) (made : Phrase (Unit {0})) (regs : List Value) (env : State) (w : Log) → HasWords w → Has site pc line o → pc + 1 ≡ to →
      ((m : ℕ) → does site pc regs line o m ≡ bind made (λ _ _. from site (pc + 1) regs m)) → Matches k t base regs env →
      Runs site Into (from site pc regs) w (run (bind made (λ _ _. Gives env (value_at regs t))) w)
  last_does pc line o made regs env w words h to_end same matches =
      does_runs site Into pc line o made made regs w (Gives env (value_at regs t)) words h same refl
      (λ w1 _. stays (pc + 1) regs env (value_at regs t) w1 to_end matches refl)

-- the code of an operation on so many operands runs it
abbrev pub Applied :
    (site : Site) (rounds : ℕ) (call : (function line : ℕ) → List Value → Phrase Value) (k t to : ℕ) (base : List Value) (le : k ≤ t) → Operation → (line pc count : ℕ) →
    List Value → State → Log → Type 0
Applied site rounds call k t to base le o line pc count regs env w =
    Runs site (Into site k t to base le) (from site pc regs) w (run (apply (around_at site rounds call) o (line_at site line) (values_from regs t count) env) w)
