-- A run of m instructions makes at most m backward jumps, and fewer where it makes an event.
use Rattle.std.proofs.Common.{◌≡◌, ◌⊎◌, inl, inr, ⊎_elim, ℕ, zero, suc, ◌+◌, ◌%◌, ◌≤◌, List, [], length, Option, Some, None, Bool, true, false, Result, Ok, Err, refl, subst, sym, arith, eq-eqb}
use Rattle.std.specs.Prelude.{slice_get, nat_lt}
use Rattle.filc_num.specs.declared.integer.ArithFault.{ArithFault}
use Rattle.filc_num.specs.declared.reason.Reason.{Reason}
use Rattle.filc_code.specs.declared.op.Instruction.{Instruction}
use Rattle.filc_code.specs.declared.op.Op.{Op}
use Rattle.filc_code.specs.declared.op.Op.TheVariants.{Const, Move, Binary, Jump, JumpZero, Return, Out as OutOp, Exit as ExitOp}
use Rattle.filc_code.specs.Plain.{PlainFunction, PlainCode}
use Rattle.filc_code.specs.Numbers.{operator_at, type_at}
use Rattle.ideal_machine.specs.declared.value.Value.{Value}
use Rattle.ideal_machine.specs.Memory.{Memory, World}
use Rattle.ideal_machine.specs.Values.{integer, value_at, put_at}
use Rattle.ideal_machine.specs.Play.{Gives, bind}
use Rattle.ideal_machine.specs.Phrases.{Phrase, if_zero, unless_refused, operator_result, arithmetic_result}
use Rattle.code_thread.specs.Exec.{Next, go_to, act, act_at, exec, exec_called, exec_thread}
use Rattle.single_thread.specs.Alone.{made_by, jumps_by, main_start}
use Rattle.single_thread.proofs.Gained.{out_jumps}

module _ (world : World) where
  -- fewer jumps than m, or at most m and no event
  abbrev pub Few : ℕ → Phrase ℕ → Memory → Type 0
  Few m p memory = (jumps_by world p memory + 1 ≤ m) ⊎ ((made_by world p memory ≡ []) × (jumps_by world p memory ≤ m))

  at_most : (m : ℕ) (p : Phrase ℕ) (memory : Memory) → Few m p memory → jumps_by world p memory ≤ m
  at_most m p memory few = ⊎_elim (λ h. omega (arith, h)) (λ h. h.1) few

  -- wherever it begins
  abbrev AreFew : ℕ → Next → Type 0
  AreFew m next = (index : ℕ) (registers : List Value) (memory : Memory) → Few m (next index registers) memory

  -- an instruction that isn't a jump back, and what follows it
  one_more : (m : ℕ) (p : Phrase ℕ) (memory : Memory) → Few m p memory → Few (suc m) p memory
  one_more m p memory few = inl (omega (arith, at_most m p memory few))

  jump_few : (m : ℕ) (b : Bool) (p : Phrase ℕ) (memory : Memory) → Few m p memory → Few (suc m) (go_to b p) memory
  jump_few m true p memory few = one_more m p memory few
  jump_few m false p memory few = ⊎_elim (λ h. inl (omega (arith, h))) (λ h. inr (h.0, omega (arith, h.1))) few

  zero_few : (m n : ℕ) (p q : Phrase ℕ) (memory : Memory) → Few m p memory → Few m q memory → Few m (if_zero n p q) memory
  zero_few m zero p q memory h k = h
  zero_few m (suc n) p q memory h k = k

  result_few :
      (m : ℕ) (r : Result ℕ ArithFault) (line : ℕ) (go : Value → Phrase ℕ) (memory : Memory) → ((v : Value) → Few m (go v) memory) →
      Few (suc m) (bind (arithmetic_result r line) (λ _ v. go v)) memory
  result_few m (Ok n) line go memory h = one_more m (go (integer n)) memory (h (integer n))
  result_few m (Err fault) line go memory h = inl (omega arith)

  -- what follows a byte, where it was put out or not
  module _ (byte line : ℕ) (go : Phrase ℕ) where
    abbrev byte_out : Option Reason → Phrase (Unit {0})
    byte_out reply = unless_refused line (Gives tt tt) reply

    abbrev after_byte : Option Reason → Phrase ℕ
    after_byte reply = bind (byte_out reply) (λ _ _. go)

    room_few : (m : ℕ) (memory : Memory) (room : Bool) → ((memory : Memory) → Few m go memory) → out_jumps world byte after_byte memory room ≤ m
    room_few m memory true h = at_most m go _ (h _)
    room_few m memory false h = omega arith

  op_few : (m : ℕ) (next : Next) → AreFew m next → (index : ℕ) (registers : List Value) (memory : Memory) (op : Op) (line : ℕ) → Few (suc m) (act true op line next index registers) memory
  op_few m next h index registers memory (Const d n) line = one_more m (next (index + 1) (put_at registers d (integer n))) memory (h _ _ memory)
  op_few m next h index registers memory (Move d a) line = one_more m (next (index + 1) (put_at registers d (value_at registers a))) memory (h _ _ memory)
  op_few m next h index registers memory (Binary d a b op t) line =
      result_few m (operator_result (operator_at op) (type_at t) (value_at registers a).number (value_at registers b).number) line
      (λ v. next (index + 1) (put_at registers d v)) memory (λ v. h (index + 1) (put_at registers d v) memory)
  op_few m next h index registers memory (Jump target) line = jump_few m (nat_lt index target) (next target registers) memory (h target registers memory)
  op_few m next h index registers memory (JumpZero a target) line =
      zero_few (suc m) (value_at registers a).number (go_to (nat_lt index target) (next target registers)) (next (index + 1) registers) memory
      (jump_few m (nat_lt index target) (next target registers) memory (h target registers memory))
      (one_more m (next (index + 1) registers) memory (h (index + 1) registers memory))
  op_few m next h index registers memory (Return a) line = inl (omega arith)
  op_few m next h index registers memory (OutOp a) line =
      let few = room_few ((value_at registers a).number % 256) line (next (index + 1) registers) m memory (nat_lt (length memory.output) world.output) (λ mem. h (index + 1) registers mem) in
      inl (omega (arith, few))
  op_few m next h index registers memory (ExitOp a) line = inl (omega arith)

  at_few : (m : ℕ) (next : Next) → AreFew m next → (o : Option Instruction) → (index : ℕ) (registers : List Value) (memory : Memory) → Few (suc m) (act_at true o next index registers) memory
  at_few m next h None index registers memory = inr (refl, omega arith)
  at_few m next h (Some i) index registers memory = op_few m next h index registers memory i.op i.line

  exec_few : (code : List Instruction) (m : ℕ) → AreFew m (exec true code m)
  exec_few code zero index registers memory = inr (refl, omega arith)
  exec_few code (suc m) index registers memory =
      at_few m (exec true code m) (λ p r mem. exec_few code m p r mem) (slice_get code index) index registers memory

  called_few : (o : Option PlainFunction) (m : ℕ) (memory : Memory) → Few m (exec_called true o m) memory
  called_few None m memory = inr (refl, omega arith)
  called_few (Some f) m memory = exec_few f.instructions m 0 _ memory

  pub thread_few : (m : ℕ) (code : PlainCode) (memory : Memory) → Few m (exec_thread m code (main_start code)) memory
  thread_few m code memory =
      subst (λ b. Few m (exec_called b (slice_get code.functions code.main) m) memory) (sym (eq-eqb code.main code.main refl))
      (called_few (slice_get code.functions code.main) m memory)
