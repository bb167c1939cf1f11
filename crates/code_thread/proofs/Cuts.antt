-- A run of fewer instructions is a cut of one of more.
use Rattle.std.proofs.Common.{ℕ, zero, suc, ◌+◌, ◌≤◌, List, Option, Some, None, Bool, true, false, refl, arith}
use Rattle.std.specs.Prelude.{slice_get, nat_lt, ◌==◌}
use Rattle.filc_code.specs.declared.op.Instruction.{Instruction}
use Rattle.filc_code.specs.declared.op.Op.{Op}
use Rattle.filc_code.specs.declared.op.Op.TheVariants.{Const, Move, Binary, Jump, JumpZero, Return, Out, Exit}
use Rattle.filc_code.specs.Plain.{PlainFunction, PlainCode}
use Rattle.filc_code.specs.Numbers.{operator_at, type_at}
use Rattle.ideal_machine.specs.declared.value.Value.{Value}
use Rattle.ideal_machine.specs.Values.{integer, value_at, put_at}
use Rattle.ideal_machine.specs.Play.{bind}
use Rattle.ideal_machine.specs.Phrases.{Start, Phrase, exit, leave, put_out, arithmetic}
use Rattle.ideal_machine.proofs.Cuts.{IsCutOf, cut_self, bind_cut, zero_cut}
use Rattle.code_thread.specs.Exec.{Next, go_to, act, act_at, exec, exec_called, exec_thread}

-- wherever they begin
abbrev AreCuts : Next → Next → Type 0
AreCuts next next' = (index : ℕ) (registers : List Value) → IsCutOf (next index registers) (next' index registers)

jump_cut : (b : Bool) (p q : Phrase ℕ) → IsCutOf p q → IsCutOf (go_to b p) (go_to b q)
jump_cut true p q h = h
jump_cut false p q h = (q, refl, h)

-- a phrase that both say, and what follows it
phrase_cut : {X : Type 0} (p : Phrase X) (go go' : X → Phrase ℕ) → ((x : X) → IsCutOf (go x) (go' x)) → IsCutOf (bind p (λ _ x. go x)) (bind p (λ _ x. go' x))
phrase_cut p go go' h = bind_cut p p (λ _ x. go x) (λ _ x. go' x) (cut_self p) (λ _ x. h x)

module _ (main : Bool) (next next' : Next) (h : AreCuts next next') (index : ℕ) (registers : List Value) where
  act_cut : (op : Op) (line : ℕ) → IsCutOf (act main op line next index registers) (act main op line next' index registers)
  act_cut (Const d n) line = h (index + 1) (put_at registers d (integer n))
  act_cut (Move d a) line = h (index + 1) (put_at registers d (value_at registers a))
  act_cut (Binary d a b op t) line =
      phrase_cut (arithmetic (operator_at op) (type_at t) (value_at registers a) (value_at registers b) line)
      (λ v. next (index + 1) (put_at registers d v)) (λ v. next' (index + 1) (put_at registers d v)) (λ v. h (index + 1) (put_at registers d v))
  act_cut (Jump target) line = jump_cut (nat_lt index target) (next target registers) (next' target registers) (h target registers)
  act_cut (JumpZero a target) line =
      zero_cut (value_at registers a).number _ (next (index + 1) registers) _ (next' (index + 1) registers)
      (jump_cut (nat_lt index target) (next target registers) (next' target registers) (h target registers)) (h (index + 1) registers)
  act_cut (Return a) line = cut_self (leave main (value_at registers a))
  act_cut (Out a) line =
      phrase_cut (put_out (value_at registers a) line) (λ _. next (index + 1) registers) (λ _. next' (index + 1) registers) (λ _. h (index + 1) registers)
  act_cut (Exit a) line = cut_self (exit (value_at registers a))

  at_cut : (o : Option Instruction) → IsCutOf (act_at main o next index registers) (act_at main o next' index registers)
  at_cut None = refl
  at_cut (Some i) = act_cut i.op i.line

pub exec_cut : (main : Bool) (code : List Instruction) (m n : ℕ) → m ≤ n → (index : ℕ) (registers : List Value) → IsCutOf (exec main code m index registers) (exec main code n index registers)
exec_cut main code zero n le index registers = tt
exec_cut main code (suc m) zero le index registers = absurd (omega arith)
exec_cut main code (suc m) (suc n) le index registers =
    at_cut main (exec main code m) (exec main code n) (λ p r. exec_cut main code m n (omega arith) p r) index registers (slice_get code index)

called_cut : (main : Bool) (o : Option PlainFunction) (m n : ℕ) → m ≤ n → IsCutOf (exec_called main o m) (exec_called main o n)
called_cut main None m n le = refl
called_cut main (Some f) m n le = exec_cut main f.instructions m n le 0 _

pub thread_cut : (code : PlainCode) (start : Start) (m n : ℕ) → m ≤ n → IsCutOf (exec_thread m code start) (exec_thread n code start)
thread_cut code start m n le = called_cut (start.function == code.main) (slice_get code.functions start.function) m n le
