-- A thread of a code stays one.
use Rattle.std.proofs.Common.{◌≡◌, ℕ, zero, suc, ◌+◌, ◌%◌, ◌<◌, ◌≤◌, List, [], ◌∷◌, length, Some, Bool, true, false, Result, Ok, Err, refl, sym, ap, ◌∙◌, subst, arith}
use Rattle.std.specs.Prelude.{slice_get, option_and_then, ◌==◌}
use Rattle.std.proofs.lemmas.List.Elements.{All-get_or}
use Rattle.std.proofs.lemmas.Option.{slice_get_within, get_or_from_slice_get}
use Rattle.filc_num.specs.declared.registers.TheConstants.{REGISTERS}
use Rattle.filc_num.specs.declared.integer.ArithFault.{ArithFault}
use Rattle.filc_code.specs.declared.op.Instruction.{Instruction}
use Rattle.filc_code.specs.declared.op.Op.{Op}
use Rattle.filc_code.specs.declared.op.Op.TheVariants.{Const, Move, Binary, Jump, JumpZero, Return, Out, Exit}
use Rattle.filc_code.specs.Plain.{PlainFunction, PlainCode}
use Rattle.filc_code.specs.WellFormed.{KeepsRegisters, KeepsTarget, IsOpWellFormed, LeavesPlace, EndsInLeaving, IsFunctionWellFormed}
use Rattle.ideal_machine.specs.declared.value.Value.{Value}
use Rattle.ideal_machine.specs.declared.event.Answer.{Answer}
use Rattle.ideal_machine.specs.declared.event.Answer.TheVariants.{Refused, Done}
use Rattle.ideal_machine.specs.Values.{integer, value_at, put_at}
use Rattle.code_thread.specs.declared.stage.Stage.{Stage}
use Rattle.code_thread.specs.declared.stage.Stage.TheVariants.{Acts, PutsOut, Ends, Exits, Traps, Over}
use Rattle.code_thread.specs.Exec.{first_registers}
use Rattle.code_thread.specs.Thread.{Thread, leave_stage, stage_of, stage_at, thread_at, at_stage, put_result, registers_after, zero_index, index_after, thread_after_operation, step_from, thread_after_step, answer_at, thread_after_answer, thread_after_begin, is_before, IsThreadOf}

-- ---- registers

length-put_at : (vs : List Value) (n : ℕ) (v : Value) → n < length vs → length (put_at vs n v) ≡ length vs
length-put_at [] n v h = absurd (omega arith)
length-put_at (x ∷ vs) zero v h = refl
length-put_at (x ∷ vs) (suc n) v h = ap suc (length-put_at vs n v (omega arith))

-- registers of so many are registers of more
pub keeps_more : (values more : ℕ) (op : Op) → values ≤ more → KeepsRegisters values op → KeepsRegisters more op
keeps_more values more (Const d n) le h = omega (arith, h)
keeps_more values more (Move d a) le h = (omega (arith, h.0), omega (arith, h.1))
keeps_more values more (Binary d a b op t) le h = (omega (arith, h.0), omega (arith, h.1), omega (arith, h.2))
keeps_more values more (Jump target) le h = tt
keeps_more values more (JumpZero a target) le h = omega (arith, h)
keeps_more values more (Return a) le h = omega (arith, h)
keeps_more values more (Out a) le h = omega (arith, h)
keeps_more values more (Exit a) le h = omega (arith, h)

-- registers after an operation that has a result
abbrev pub Written : List Value → Result (List Value) ArithFault
Written registers = Ok registers

module _ (registers after : List Value) where
  same_long : Written registers ≡ Ok after → length after ≡ length registers
  same_long e = let same : registers ≡ after = cc in ap length (sym same)

  put_long : (d : ℕ) (v : Value) → d < length registers → Written (put_at registers d v) ≡ Ok after → length after ≡ length registers
  put_long d v h e = let same : put_at registers d v ≡ after = cc in sym (ap length same) ∙ length-put_at registers d v h

  result_long : (d : ℕ) (r : Result ℕ ArithFault) → d < length registers → put_result d registers r ≡ Ok after → length after ≡ length registers
  result_long d (Ok n) h e = put_long d (integer n) h e
  result_long d (Err fault) h e = absurd (cc)

  -- an operation keeps how many registers there are
  pub registers_long : (op : Op) → KeepsRegisters (length registers) op → registers_after op registers ≡ Ok after → length after ≡ length registers
  registers_long (Const d n) h e = put_long d (integer n) h e
  registers_long (Move d a) h e = put_long d (value_at registers a) h.0 e
  registers_long (Binary d a b op t) h e = result_long d _ h.0 e
  registers_long (Jump target) h e = same_long e
  registers_long (JumpZero a target) h e = same_long e
  registers_long (Return a) h e = same_long e
  registers_long (Out a) h e = same_long e
  registers_long (Exit a) h e = same_long e

-- ---- what stands before a thread, by its stage

pub leave_acts : (main : Bool) (v : Value) (op : Op) (line : ℕ) → leave_stage main v ≡ Acts op line → ⊥
leave_acts true v op line e = cc
leave_acts false v op line e = cc

pub leave_puts : (main : Bool) (v : Value) (byte line : ℕ) → leave_stage main v ≡ PutsOut byte line → ⊥
leave_puts true v byte line e = cc
leave_puts false v byte line e = cc

-- an operation on registers
pub record ActsView (op : Op) (l : ℕ) (acts : Op) (line : ℕ) : Type 0 where
  pub op_is : op ≡ acts
  pub line_is : l ≡ line

-- a byte that is put out
pub record OutView (registers : List Value) (op : Op) (l byte line : ℕ) : Type 0 where
  pub a : ℕ
  pub op_is : op ≡ Out a
  pub byte_is : (value_at registers a).number % 256 ≡ byte
  pub line_is : l ≡ line

module _ (main : Bool) (registers : List Value) where
  pub acts_view : (op : Op) (l : ℕ) (acts : Op) (line : ℕ) → stage_of main op l registers ≡ Acts acts line → ActsView op l acts line
  acts_view (Const d n) l acts line e = record { op_is = cc; line_is = cc }
  acts_view (Move d a) l acts line e = record { op_is = cc; line_is = cc }
  acts_view (Binary d a b o t) l acts line e = record { op_is = cc; line_is = cc }
  acts_view (Jump target) l acts line e = record { op_is = cc; line_is = cc }
  acts_view (JumpZero a target) l acts line e = record { op_is = cc; line_is = cc }
  acts_view (Return a) l acts line e = absurd (leave_acts main (value_at registers a) acts line e)
  acts_view (Out a) l acts line e = absurd (cc)
  acts_view (Exit a) l acts line e = absurd (cc)

  pub out_view : (op : Op) (l byte line : ℕ) → stage_of main op l registers ≡ PutsOut byte line → OutView registers op l byte line
  out_view (Out a) l byte line e = record { a = a; op_is = refl; byte_is = cc; line_is = cc }
  out_view (Return a) l byte line e = absurd (leave_puts main (value_at registers a) byte line e)
  out_view op l byte line e = absurd (cc)

-- ---- indices

-- the instruction at an index keeps what its function's keep
pub op_formed : (f : PlainFunction) (index : ℕ) (i : Instruction) → IsFunctionWellFormed f → slice_get f.instructions index ≡ Some i → IsOpWellFormed f.values (length f.instructions) i.op
op_formed f index i formed at =
    subst (λ (x : Instruction). IsOpWellFormed f.values (length f.instructions) x.op) (get_or_from_slice_get f.instructions index i i at)
    (All-get_or (λ (x : Instruction). IsOpWellFormed f.values (length f.instructions) x.op) f.instructions index i (slice_get_within f.instructions index i at) formed.each)

-- code has an instruction
pub first_inside : (code : List Instruction) → EndsInLeaving code → 0 < length code
first_inside [] h = absurd h
first_inside (i ∷ code) h = omega arith

-- there is one at each index inside
pub instruction_inside : (code : List Instruction) (index : ℕ) → index < length code → (i : Instruction) × (slice_get code index ≡ Some i)
instruction_inside [] index lt = absurd (omega arith)
instruction_inside (i ∷ code) zero lt = (i, refl)
instruction_inside (i ∷ code) (suc index) lt = instruction_inside code index (omega arith)

-- after an instruction that goes on there is another
pub next_inside : (code : List Instruction) (index : ℕ) (i : Instruction) → EndsInLeaving code → slice_get code index ≡ Some i → ¬ LeavesPlace i.op → index + 1 < length code
next_inside [] index i h at goes = absurd h
next_inside (j ∷ []) zero i h at goes =
    let same : j ≡ i = cc in absurd (goes (subst (λ (x : Instruction). LeavesPlace x.op) same h))
next_inside (j ∷ []) (suc index) i h at goes = absurd (omega (arith, slice_get_within (j ∷ []) (suc index) i at))
next_inside (j ∷ k ∷ code) zero i h at goes = omega arith
next_inside (j ∷ k ∷ code) (suc index) i h at goes = omega (arith, next_inside (k ∷ code) index i h at goes)

zero_inside : (n a b long : ℕ) → a < long → b < long → zero_index n a b < long
zero_inside zero a b long h k = h
zero_inside (suc n) a b long h k = k

-- the index after an operation on registers is one of the code's
op_inside :
    (main : Bool) (index long : ℕ) (registers : List Value) (op : Op) → KeepsTarget long op → (¬ LeavesPlace op → index + 1 < long) →
    (l : ℕ) (acts : Op) (line : ℕ) → stage_of main op l registers ≡ Acts acts line → index_after op index registers < long
op_inside main index long registers (Const d n) target next l acts line e = next (λ h. h)
op_inside main index long registers (Move d a) target next l acts line e = next (λ h. h)
op_inside main index long registers (Binary d a b o t) target next l acts line e = next (λ h. h)
op_inside main index long registers (Jump to) target next l acts line e = target
op_inside main index long registers (JumpZero a to) target next l acts line e =
    zero_inside (value_at registers a).number to (index + 1) long target (next (λ h. h))
op_inside main index long registers (Return a) target next l acts line e = absurd (leave_acts main (value_at registers a) acts line e)
op_inside main index long registers (Out a) target next l acts line e = next (λ h. h)
op_inside main index long registers (Exit a) target next l acts line e = next (λ h. h)

-- ---- threads

-- what a thread stands before
pub record Stands (code : List Instruction) (thread : Thread) : Type 0 where
  pub i : Instruction
  pub at : slice_get code thread.index ≡ Some i
  pub stage : stage_of thread.main i.op i.line thread.registers ≡ thread.stage

pub standing : (code : PlainCode) (thread : Thread) (h : IsThreadOf code thread) → is_before thread.stage ≡ true → Stands h.running.instructions thread
standing code thread h before =
    let i = instruction_inside h.running.instructions thread.index h.inside in
    record { i = i.0; at = i.1; stage = ap (λ o. stage_at thread.main o thread.registers) (sym i.1) ∙ h.stands before }

-- a thread that comes to an index of its function
pub arrives :
    (code : PlainCode) (function : ℕ) (f : PlainFunction) (main : Bool) (index : ℕ) (registers : List Value) →
    slice_get code.functions function ≡ Some f → IsFunctionWellFormed f → index < length f.instructions → length registers ≡ REGISTERS →
    IsThreadOf code (thread_at code function main index registers)
arrives code function f main index registers there formed inside long = record {
  running = f;
  there = there;
  formed = formed;
  inside = inside;
  registers = long;
  stands = λ before. ap (λ o. stage_at main (option_and_then (λ (g : PlainFunction). slice_get g.instructions index) o) registers) (sym there);
}

-- a thread whose instruction has begun, or that has ended
begun_stays : (code : PlainCode) (thread : Thread) (stage : Stage) → is_before stage ≡ false → IsThreadOf code thread → IsThreadOf code (at_stage thread stage)
begun_stays code thread stage begun h =
    record { running = h.running; there = h.there; formed = h.formed; inside = h.inside; registers = h.registers; stands = λ before. absurd (cc) }

module _ (code : PlainCode) (thread : Thread) (h : IsThreadOf code thread) where
  abbrev instructions : List Instruction
  instructions = h.running.instructions

  next_of : (s : Stands instructions thread) → ¬ LeavesPlace s.i.op → thread.index + 1 < length instructions
  next_of s goes = next_inside instructions thread.index s.i h.formed.ends s.at goes

  operation_keeps :
      (op : Op) (line : ℕ) (r : Result (List Value) ArithFault) → index_after op thread.index thread.registers < length instructions →
      ((after : List Value) → r ≡ Ok after → length after ≡ REGISTERS) → IsThreadOf code (thread_after_operation code thread op line r)
  operation_keeps op line (Ok after) inside long =
      arrives code thread.function h.running thread.main (index_after op thread.index thread.registers) after h.there h.formed inside (long after refl)
  operation_keeps op line (Err fault) inside long = begun_stays code thread (Traps _ line) refl h

  -- the index after the operation before which the thread stands
  pub step_inside : (op : Op) (line : ℕ) → thread.stage ≡ Acts op line → index_after op thread.index thread.registers < length instructions
  step_inside op line e =
      let s = standing code thread h (ap is_before e) in
      let v = acts_view thread.main thread.registers s.i.op s.i.line op line (s.stage ∙ e) in
      subst (λ (o : Op). index_after o thread.index thread.registers < length instructions) v.op_is
      (op_inside thread.main thread.index (length instructions) thread.registers s.i.op (op_formed h.running thread.index s.i h.formed s.at).target
      (next_of s) s.i.line op line (s.stage ∙ e))

  -- the index after the byte that the thread puts out
  pub out_inside : (byte line : ℕ) → thread.stage ≡ PutsOut byte line → thread.index + 1 < length instructions
  out_inside byte line e =
      let s = standing code thread h (ap is_before e) in
      let v = out_view thread.main thread.registers s.i.op s.i.line byte line (s.stage ∙ e) in
      next_of s (λ leaves. subst LeavesPlace v.op_is leaves)

  step_keeps_at : (s : Stage) → thread.stage ≡ s → IsThreadOf code (step_from code thread s)
  step_keeps_at (Acts op line) e =
      let s = standing code thread h (ap is_before e) in
      let v = acts_view thread.main thread.registers s.i.op s.i.line op line (s.stage ∙ e) in
      let keeps = subst (KeepsRegisters h.running.values) v.op_is (op_formed h.running thread.index s.i h.formed s.at).registers in
      let room : h.running.values ≤ length thread.registers = omega (arith, h.formed.values, h.registers) in
      operation_keeps op line (registers_after op thread.registers) (step_inside op line e)
      (λ after w. registers_long thread.registers after op (keeps_more h.running.values (length thread.registers) op room keeps) w ∙ h.registers)
  step_keeps_at (PutsOut byte line) e = h
  step_keeps_at (Ends result) e = h
  step_keeps_at (Exits status) e = h
  step_keeps_at (Traps reason line) e = h
  step_keeps_at (Over halt) e = h

  -- a step keeps a thread of a code
  pub step_keeps : IsThreadOf code (thread_after_step code thread)
  step_keeps = step_keeps_at thread.stage refl

  out_keeps : (byte line : ℕ) (answer : Answer) → thread.stage ≡ PutsOut byte line → IsThreadOf code (answer_at code thread (PutsOut byte line) answer)
  out_keeps byte line Done e =
      arrives code thread.function h.running thread.main (thread.index + 1) thread.registers h.there h.formed (out_inside byte line e) h.registers
  out_keeps byte line (Refused reason) e = begun_stays code thread (Traps reason line) refl h
  out_keeps byte line answer e = h

  answer_keeps_at : (s : Stage) (answer : Answer) → thread.stage ≡ s → IsThreadOf code (answer_at code thread s answer)
  answer_keeps_at (Acts op line) answer e = h
  answer_keeps_at (PutsOut byte line) answer e = out_keeps byte line answer e
  answer_keeps_at (Ends result) answer e = begun_stays code thread (Over _) refl h
  answer_keeps_at (Exits status) answer e = begun_stays code thread (Over _) refl h
  answer_keeps_at (Traps reason line) answer e = begun_stays code thread (Over _) refl h
  answer_keeps_at (Over halt) answer e = h

  -- an answer keeps a thread of a code
  pub answer_keeps : (answer : Answer) → IsThreadOf code (thread_after_answer code thread answer)
  answer_keeps answer = answer_keeps_at thread.stage answer refl

  pub same_running : (f : PlainFunction) → slice_get code.functions thread.function ≡ Some f → h.running ≡ f
  same_running f e = let both : Some h.running ≡ Some f = sym h.there ∙ e in cc

-- a frame
pub first_long : length first_registers ≡ REGISTERS
unfolding first_registers
first_long = refl

-- a thread that begins
pub begin_makes :
    (code : PlainCode) (function : ℕ) (f : PlainFunction) → slice_get code.functions function ≡ Some f → IsFunctionWellFormed f →
    IsThreadOf code (thread_after_begin code function)
begin_makes code function f there formed =
    arrives code function f (function == code.main) 0 first_registers there formed (first_inside f.instructions formed.ends) first_long

-- ---- as the calls find them

-- a thread whose stage is the one before the instruction at its index
pub arrives_at_stage :
    (code : PlainCode) (thread : Thread) (f : PlainFunction) → slice_get code.functions thread.function ≡ Some f → IsFunctionWellFormed f →
    thread.index < length f.instructions → length thread.registers ≡ REGISTERS →
    thread.stage ≡ stage_at thread.main (slice_get f.instructions thread.index) thread.registers → IsThreadOf code thread
arrives_at_stage code thread f there formed inside long e =
    record { running = f; there = there; formed = formed; inside = inside; registers = long; stands = λ before. sym e }

module _ (code : PlainCode) (thread : Thread) (f : PlainFunction) (h : IsThreadOf code thread) (there : slice_get code.functions thread.function ≡ Some f) where
  -- the index after an instruction on registers
  pub index_after_step : (op : Op) (line : ℕ) → thread.stage ≡ Acts op line → index_after op thread.index thread.registers < length f.instructions
  index_after_step op line e =
      subst (λ (g : PlainFunction). index_after op thread.index thread.registers < length g.instructions) (same_running code thread h f there)
      (step_inside code thread h op line e)

  -- the index after a byte was put out
  pub index_after_out : (byte line : ℕ) → thread.stage ≡ PutsOut byte line → thread.index + 1 < length f.instructions
  index_after_out byte line e =
      subst (λ (g : PlainFunction). thread.index + 1 < length g.instructions) (same_running code thread h f there) (out_inside code thread h byte line e)

  -- what the thread stands before
  pub stands_before : is_before thread.stage ≡ true → Stands f.instructions thread
  stands_before before = subst (λ (g : PlainFunction). Stands g.instructions thread) (same_running code thread h f there) (standing code thread h before)
