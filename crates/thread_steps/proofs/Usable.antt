-- What an instruction of well-formed code uses is there.
use Rattle.std.proofs.Common.{◌≡◌, ◌<◌, ◌+◌, ℕ, zero, suc, ◌∷◌, length, get_or, Some, refl, ap, ◌∙◌, subst, arith}
use Rattle.std.specs.Prelude.{All}
use Rattle.whole_code.specs.declared.op.Op.{Op}
use Rattle.whole_code.specs.declared.op.Op.TheVariants as op
use Rattle.whole_code.specs.Operands.{numbers_from}
use Rattle.whole_code.specs.Plain.{PlainFunction, PlainCode}
use Rattle.whole_code.specs.WellFormed.{named_in, IsOpWellFormed}
use Rattle.whole_thread.specs.Thread.{Thread}
use Rattle.thread_steps.specs.Usable.{IsUsable}
use Rattle.thread_steps.specs.Turns.{room_of}

number_at : (first count i d : ℕ) → i < count → get_or (numbers_from first count) i d ≡ first + i
number_at first zero i d lt = absurd (omega (arith, lt))
number_at first (suc count) zero d lt = omega arith
number_at first (suc count) (suc i) d lt =
    let there : first + 1 + i ≡ first + suc i = omega arith in
    number_at (first + 1) count i d (omega (arith, lt)) ∙ there

numbers_long : (first count : ℕ) → length (numbers_from first count) ≡ count
numbers_long first zero = refl
numbers_long first (suc count) = ap suc (numbers_long (first + 1) count)

arguments_there : (values first count : ℕ) → All (λ r. r < values) (numbers_from first count) → (i : ℕ) → i < count → first + i < values
arguments_there values first count all i lt =
    subst (λ n. n < values) (number_at first count i 0 lt) (all i 0 (omega (arith, lt, numbers_long first count)))

more_arguments : (values a first count : ℕ) → All (λ r. r < values) (a ∷ numbers_from first count) → All (λ r. r < values) (numbers_from first count)
more_arguments values a first count all k d lt = all (suc k) d (omega (arith, lt))

pub same_function : (f g : PlainFunction) → Some f ≡ Some g → f ≡ g
same_function f g e = cc

module _ (code : PlainCode) (thread : Thread) (f : PlainFunction) (long : length thread.at.frame.registers ≡ f.values) where
  there : (r : ℕ) → r < f.values → r < length thread.at.frame.registers
  there r lt = omega (arith, lt, long)

  pub usable : (o : Op) → IsOpWellFormed (named_in code) f o → IsUsable (room_of code thread) o
  usable (op.Const d constant) h = there d (h.writes 0 d (omega arith))
  usable (op.Move d a) h = (there d (h.writes 0 d (omega arith)), there a (h.reads 0 a (omega arith)))
  usable (op.StaticAt d n) h = (there d (h.writes 0 d (omega arith)), h.names)
  usable (op.FunctionAt d g) h = (there d (h.writes 0 d (omega arith)), h.names)
  usable (op.Convert d a t) h = (there d (h.writes 0 d (omega arith)), there a (h.reads 0 a (omega arith)), h.numbers)
  usable (op.Binary d a b o t) h = (there d (h.writes 0 d (omega arith)), there a (h.reads 0 a (omega arith)), there b (h.reads 1 b (omega arith)), h.numbers.0, h.numbers.1)
  usable (op.PointerAdd d a b bytes) h = (there d (h.writes 0 d (omega arith)), there a (h.reads 0 a (omega arith)), there b (h.reads 1 b (omega arith)))
  usable (op.PointerSub d a b bytes) h = (there d (h.writes 0 d (omega arith)), there a (h.reads 0 a (omega arith)), there b (h.reads 1 b (omega arith)), h.numbers)
  usable (op.PointerCompare d a b o) h = (there d (h.writes 0 d (omega arith)), there a (h.reads 0 a (omega arith)), there b (h.reads 1 b (omega arith)), h.numbers)
  usable (op.ToInteger d a t) h = (there d (h.writes 0 d (omega arith)), there a (h.reads 0 a (omega arith)), h.numbers)
  usable (op.ToPointer d a) h = (there d (h.writes 0 d (omega arith)), there a (h.reads 0 a (omega arith)))
  usable (op.Jump target) h = tt
  usable (op.JumpZero a target) h = there a (h.reads 0 a (omega arith))
  usable op.Poll h = tt
  usable (op.Home d bytes) h = there d (h.writes 0 d (omega arith))
  usable (op.LoadInt d p t) h = (there d (h.writes 0 d (omega arith)), there p (h.reads 0 p (omega arith)), h.numbers)
  usable (op.StoreInt p a t) h = (there p (h.reads 0 p (omega arith)), there a (h.reads 1 a (omega arith)), h.numbers)
  usable (op.RmwInt d p a o t u) h = (there d (h.writes 0 d (omega arith)), there p (h.reads 0 p (omega arith)), there a (h.reads 1 a (omega arith)), h.numbers.0, h.numbers.1)
  usable (op.CasInt d p e n t) h = (there d (h.writes 0 d (omega arith)), there p (h.reads 0 p (omega arith)), there e (h.reads 1 e (omega arith)), there n (h.reads 2 n (omega arith)), h.numbers)
  usable (op.LoadPointer d p) h = (there d (h.writes 0 d (omega arith)), there p (h.reads 0 p (omega arith)))
  usable (op.StorePointer p a) h = (there p (h.reads 0 p (omega arith)), there a (h.reads 1 a (omega arith)))
  usable (op.BoxStore p a) h = (there p (h.reads 0 p (omega arith)), there a (h.reads 1 a (omega arith)))
  usable (op.BoxSwap d p a) h = (there d (h.writes 0 d (omega arith)), there p (h.reads 0 p (omega arith)), there a (h.reads 1 a (omega arith)))
  usable (op.BoxCas d w p e n) h = (there d (h.writes 0 d (omega arith)), there w (h.writes 1 w (omega arith)), there p (h.reads 0 p (omega arith)), there e (h.reads 1 e (omega arith)), there n (h.reads 2 n (omega arith)))
  usable (op.Call d g first count) h = (there d (h.writes 0 d (omega arith)), h.names, λ i lt. there (first + i) (arguments_there f.values first count h.reads i lt))
  usable (op.CallPointer d a first count kind) h = (there d (h.writes 0 d (omega arith)), there a (h.reads 0 a (omega arith)), λ i lt. there (first + i) (arguments_there f.values first count (more_arguments f.values a first count h.reads) i lt))
  usable (op.Return a) h = there a (h.reads 0 a (omega arith))
  usable (op.New d a) h = (there d (h.writes 0 d (omega arith)), there a (h.reads 0 a (omega arith)))
  usable (op.Free a) h = there a (h.reads 0 a (omega arith))
  usable (op.Size d a) h = (there d (h.writes 0 d (omega arith)), there a (h.reads 0 a (omega arith)))
  usable (op.Lock p) h = there p (h.reads 0 p (omega arith))
  usable (op.Out a) h = there a (h.reads 0 a (omega arith))
  usable (op.Input d) h = there d (h.writes 0 d (omega arith))
  usable (op.Spawn d a b) h = (there d (h.writes 0 d (omega arith)), there a (h.reads 0 a (omega arith)), there b (h.reads 1 b (omega arith)))
  usable (op.Join d a) h = (there d (h.writes 0 d (omega arith)), there a (h.reads 0 a (omega arith)))
  usable (op.SelfId d) h = there d (h.writes 0 d (omega arith))
  usable (op.Exit a) h = there a (h.reads 0 a (omega arith))
  usable op.Abort h = tt
