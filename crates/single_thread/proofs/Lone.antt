-- Plays of one thread: they ask only to put out bytes and to end the program, and make nothing after that. The play
-- of code from `main` on is one.
use Rattle.std.proofs.Common.{ℕ, zero, suc, ◌+◌, List, Option, Some, None, Bool, true, false, Result, Ok, Err, refl, subst, sym, eq-eqb}
use Rattle.std.specs.Prelude.{slice_get, nat_lt}
use Rattle.filc_num.specs.declared.integer.ArithFault.{ArithFault}
use Rattle.filc_num.specs.declared.reason.Reason.{Reason}
use Rattle.filc_code.specs.declared.op.Instruction.{Instruction}
use Rattle.filc_code.specs.declared.op.Op.{Op}
use Rattle.filc_code.specs.declared.op.Op.TheVariants.{Const, Move, Binary, Jump, JumpZero, Return, Out as OutOp, Exit as ExitOp}
use Rattle.filc_code.specs.Plain.{PlainFunction, PlainCode}
use Rattle.filc_code.specs.Numbers.{operator_at, type_at}
use Rattle.ideal_machine.specs.declared.value.Value.{Value}
use Rattle.ideal_machine.specs.declared.event.Event.TheVariants.{Out, Exit, Trap}
use Rattle.ideal_machine.specs.Values.{integer, value_at, put_at}
use Rattle.ideal_machine.specs.Queries.{Makes}
use Rattle.ideal_machine.specs.Play.{Play, Gives, Stops, Asks, Jump as JumpMark, Call, Finished, bind}
use Rattle.ideal_machine.specs.Phrases.{Phrase, if_zero, unless_refused, put_out, operator_result, arithmetic_result, arithmetic}
use Rattle.code_thread.specs.Exec.{Next, go_to, act, act_at, exec, exec_called, exec_thread}
use Rattle.single_thread.specs.Alone.{main_start}

-- the program has ended
abbrev pub IsOver : {S A : Type 0} → Play S A → Type 0
IsOver (Stops (Finished finish)) = Unit {0}
IsOver play = ⊥

-- a play of one thread
abbrev pub IsLone : {S A : Type 0} → Play S A → Type 0
IsLone (Gives state value) = Unit {0}
IsLone (Stops stop) = Unit {0}
IsLone (Asks (Makes (Out byte)) next) = (reply : Option Reason) → IsLone (next reply)
IsLone (Asks (Makes (Exit status)) next) = IsOver (next tt)
IsLone (Asks (Makes (Trap reason line)) next) = IsOver (next tt)
IsLone (Asks query next) = ⊥
IsLone (JumpMark next) = IsLone next
IsLone (Call next) = IsLone next

over_bind : {S A T B : Type 0} (p : Play S A) (go : S → A → Play T B) → IsOver p → IsOver (bind p go)
over_bind (Stops (Finished finish)) go h = tt
over_bind p go h = absurd h

pub bind_lone : {S A T B : Type 0} (p : Play S A) (go : S → A → Play T B) → IsLone p → ((s : S) (v : A) → IsLone (go s v)) → IsLone (bind p go)
bind_lone (Gives s v) go h each = each s v
bind_lone (Stops stop) go h each = tt
bind_lone (Asks (Makes (Out byte)) next) go h each = λ reply. bind_lone (next reply) go (h reply) each
bind_lone (Asks (Makes (Exit status)) next) go h each = over_bind (next tt) go h
bind_lone (Asks (Makes (Trap reason line)) next) go h each = over_bind (next tt) go h
bind_lone (Asks query next) go h each = absurd h
bind_lone (JumpMark p) go h each = bind_lone p go h each
bind_lone (Call p) go h each = bind_lone p go h each

refused_lone : {S A : Type 0} (line : ℕ) (go : Play S A) → IsLone go → (reply : Option Reason) → IsLone (unless_refused line go reply)
refused_lone line go h None = h
refused_lone line go h (Some reason) = tt

out_lone : (value : Value) (line : ℕ) → IsLone (put_out value line)
out_lone value line = λ reply. refused_lone line (Gives tt tt) tt reply

result_lone : (r : Result ℕ ArithFault) (line : ℕ) → IsLone (arithmetic_result r line)
result_lone (Ok n) line = tt
result_lone (Err fault) line = tt

zero_lone : (n : ℕ) (p q : Phrase ℕ) → IsLone p → IsLone q → IsLone (if_zero n p q)
zero_lone zero p q h k = h
zero_lone (suc n) p q h k = k

jump_lone : (b : Bool) (p : Phrase ℕ) → IsLone p → IsLone (go_to b p)
jump_lone true p h = h
jump_lone false p h = h

-- whatever follows from any index
abbrev AreLone : Next → Type 0
AreLone next = (index : ℕ) (registers : List Value) → IsLone (next index registers)

module _ (next : Next) (h : AreLone next) (index : ℕ) (registers : List Value) where
  act_lone : (op : Op) (line : ℕ) → IsLone (act true op line next index registers)
  act_lone (Const d n) line = h (index + 1) (put_at registers d (integer n))
  act_lone (Move d a) line = h (index + 1) (put_at registers d (value_at registers a))
  act_lone (Binary d a b op t) line =
      let x = value_at registers a in
      let y = value_at registers b in
      bind_lone (arithmetic (operator_at op) (type_at t) x y line) (λ _ v. next (index + 1) (put_at registers d v))
      (result_lone (operator_result (operator_at op) (type_at t) x.number y.number) line) (λ _ v. h (index + 1) (put_at registers d v))
  act_lone (Jump target) line = jump_lone (nat_lt index target) (next target registers) (h target registers)
  act_lone (JumpZero a target) line =
      zero_lone (value_at registers a).number (go_to (nat_lt index target) (next target registers)) (next (index + 1) registers)
      (jump_lone (nat_lt index target) (next target registers) (h target registers)) (h (index + 1) registers)
  act_lone (Return a) line = tt
  act_lone (OutOp a) line =
      bind_lone (put_out (value_at registers a) line) (λ _ _. next (index + 1) registers) (out_lone (value_at registers a) line)
      (λ _ _. h (index + 1) registers)
  act_lone (ExitOp a) line = tt

  at_lone : (o : Option Instruction) → IsLone (act_at true o next index registers)
  at_lone None = tt
  at_lone (Some i) = act_lone i.op i.line

pub exec_lone : (code : List Instruction) (m index : ℕ) (registers : List Value) → IsLone (exec true code m index registers)
exec_lone code zero index registers = tt
exec_lone code (suc m) index registers = at_lone (exec true code m) (λ p r. exec_lone code m p r) index registers (slice_get code index)

called_lone : (o : Option PlainFunction) (m : ℕ) → IsLone (exec_called true o m)
called_lone None m = tt
called_lone (Some f) m = exec_lone f.instructions m 0 _

-- a thread of `main` is one
pub thread_lone : (m : ℕ) (code : PlainCode) → IsLone (exec_thread m code (main_start code))
thread_lone m code =
    subst (λ b. IsLone (exec_called b (slice_get code.functions code.main) m)) (sym (eq-eqb code.main code.main refl))
    (called_lone (slice_get code.functions code.main) m)
