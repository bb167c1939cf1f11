-- The calls of a thread go on in the play of its code.
use Rattle.std.proofs.Common.{◌≡◌, ⊎_elim, ℕ, zero, suc, ◌+◌, ◌%◌, ◌<◌, List, length, Option, Some, Bool, true, false, Result, Ok, Err, refl, sym, ap, ◌∙◌, subst, arith}
use Rattle.std.specs.Prelude.{slice_get, nat_lt, option_and_then, ◌==◌, ◌||◌}
use Rattle.std.proofs.lemmas.Bool.{lt-ltb}
use Rattle.filc_num.specs.declared.integer.ArithFault.{ArithFault}
use Rattle.filc_num.specs.declared.reason.Reason.{Reason}
use Rattle.filc_code.specs.declared.op.Instruction.{Instruction}
use Rattle.filc_code.specs.declared.op.Op.{Op}
use Rattle.filc_code.specs.declared.op.Op.TheVariants.{Const, Move, Binary, Jump, JumpZero, Return, Out, Exit}
use Rattle.filc_code.specs.Plain.{PlainFunction, PlainCode}
use Rattle.filc_code.specs.WellFormed.{IsFunctionWellFormed}
use Rattle.ideal_machine.specs.declared.value.Value.{Value}
use Rattle.ideal_machine.specs.declared.event.Event.{Event}
use Rattle.ideal_machine.specs.declared.event.Event.TheVariants.{Out as OutEvent, End as EndEvent, Exit as ExitEvent, Trap as TrapEvent}
use Rattle.ideal_machine.specs.declared.event.Answer.{Answer}
use Rattle.ideal_machine.specs.declared.finish.Finish.TheVariants.{Exited}
use Rattle.ideal_machine.specs.Values.{integer, value_at, put_at}
use Rattle.ideal_machine.specs.Queries.{Makes, room_reply}
use Rattle.ideal_machine.specs.Play.{Gives, Stops, Asks, Finished, bind}
use Rattle.ideal_machine.specs.Phrases.{Start, Phrase, trap, unless_refused, exit, leave, reason_of, arithmetic_result, if_zero}
use Rattle.ideal_machine.proofs.Replies.{out_view as reply_view}
use Rattle.code_thread.specs.declared.stage.Stage.{Stage}
use Rattle.code_thread.specs.declared.stage.Stage.TheVariants.{Acts, PutsOut, Ends, Exits, Traps, Over}
use Rattle.code_thread.specs.declared.stage.Halt.{Halt}
use Rattle.code_thread.specs.declared.stage.Want.TheVariants.{Event as WantEvent, Instruction as WantInstruction, Stopped}
use Rattle.code_thread.specs.Exec.{go_to, act, act_at, exec, exec_called, exec_thread, first_registers}
use Rattle.code_thread.specs.Thread.{Thread, want_at, leave_stage, stage_of, stage_at, thread_at, put_result, registers_after, zero_index, index_after, thread_after_operation, step_from, answer_at, thread_after_begin, halt_play, plays_at, plays_on, is_trap, is_trapping, step_play, is_before, IsThreadOf}
use Rattle.code_thread.specs.Follows.{AsksThen, ThreadFollows}
use Rattle.code_thread.proofs.Threads.{Written, leave_acts, acts_view, out_view, first_inside, instruction_inside, index_after_step, index_after_out, stands_before}

-- ---- a thread that comes to an instruction plays from there

-- a stage before an instruction is no trap and no end
before_plays :
    (code : List Instruction) (m : ℕ) (thread : Thread) (s : Stage) → is_before s ≡ true →
    (plays_at code m thread s ≡ exec thread.main code m thread.index thread.registers) × (is_trap s ≡ false)
before_plays code m thread (Acts op line) h = (refl, refl)
before_plays code m thread (PutsOut byte line) h = (refl, refl)
before_plays code m thread (Ends result) h = (refl, refl)
before_plays code m thread (Exits status) h = (refl, refl)
before_plays code m thread (Traps reason line) h = absurd (cc)
before_plays code m thread (Over halt) h = absurd (cc)

leave_before : (main : Bool) (v : Value) → is_before (leave_stage main v) ≡ true
leave_before true v = refl
leave_before false v = refl

pub op_before : (main : Bool) (op : Op) (line : ℕ) (registers : List Value) → is_before (stage_of main op line registers) ≡ true
op_before main (Return a) line registers = leave_before main (value_at registers a)
op_before main op line registers = refl

-- a thread at an index of its function, where there is an instruction
there_before :
    (code : PlainCode) (function : ℕ) (f : PlainFunction) (main : Bool) (index : ℕ) (registers : List Value) →
    slice_get code.functions function ≡ Some f → index < length f.instructions →
    is_before (thread_at code function main index registers).stage ≡ true
there_before code function f main index registers there inside =
    let i = instruction_inside f.instructions index inside in
    ap (λ o. is_before (stage_at main (option_and_then (λ (g : PlainFunction). slice_get g.instructions index) o) registers)) there
    ∙ ap (λ o. is_before (stage_at main o registers)) i.1 ∙ op_before main i.0.op i.0.line registers

-- it plays from there
there_plays :
    (code : PlainCode) (function : ℕ) (f : PlainFunction) (main : Bool) (index : ℕ) (registers : List Value) (m : ℕ) →
    slice_get code.functions function ≡ Some f → index < length f.instructions →
    (plays_on f.instructions m (thread_at code function main index registers) ≡ exec main f.instructions m index registers)
    × (is_trapping (thread_at code function main index registers) ≡ false)
there_plays code function f main index registers m there inside =
    let thread = thread_at code function main index registers in
    before_plays f.instructions m thread thread.stage (there_before code function f main index registers there inside)

-- ---- a step

ahead : (index : ℕ) (p : Phrase ℕ) → p ≡ go_to (nat_lt index (index + 1)) p
ahead index p = ap (λ b. go_to b p) (sym (lt-ltb index (index + 1) (omega arith)))

module _ (main : Bool) (line index : ℕ) (next : ℕ → List Value → Phrase ℕ) (registers : List Value) where
  -- what follows at the next index with these registers
  goes_ahead : (written after : List Value) → Written written ≡ Ok after → next (index + 1) written ≡ go_to (nat_lt index (index + 1)) (next (index + 1) after)
  goes_ahead written after e = let same : written ≡ after = cc in ap (λ l. next (index + 1) l) same ∙ ahead index (next (index + 1) after)

  result_goes :
      (d : ℕ) (after : List Value) (r : Result ℕ ArithFault) → put_result d registers r ≡ Ok after →
      bind (arithmetic_result r line) (λ _ v. next (index + 1) (put_at registers d v)) ≡ go_to (nat_lt index (index + 1)) (next (index + 1) after)
  result_goes d after (Ok n) e = goes_ahead (put_at registers d (integer n)) after e
  result_goes d after (Err fault) e = absurd (cc)

  result_traps :
      (d : ℕ) (fault : ArithFault) (r : Result ℕ ArithFault) → put_result d registers r ≡ Err fault →
      bind (arithmetic_result r line) (λ _ v. next (index + 1) (put_at registers d v)) ≡ trap (reason_of fault) line
  result_traps d fault (Ok n) e = absurd (cc)
  result_traps d fault (Err other) e = let same : other ≡ fault = cc in ap (λ f. trap (reason_of f) line) same

  zero_goes :
      (n target : ℕ) (after : List Value) → Written registers ≡ Ok after →
      if_zero n (go_to (nat_lt index target) (next target registers)) (next (index + 1) registers)
      ≡ go_to (nat_lt index (zero_index n target (index + 1))) (next (zero_index n target (index + 1)) after)
  zero_goes zero target after e = let same : registers ≡ after = cc in ap (λ r. go_to (nat_lt index target) (next target r)) same
  zero_goes (suc n) target after e = goes_ahead registers after e

  -- an operation on registers that has a result
  act_goes :
      (op : Op) (after : List Value) (l : ℕ) (acts : Op) (at : ℕ) → stage_of main op l registers ≡ Acts acts at → registers_after op registers ≡ Ok after →
      act main op line next index registers ≡ go_to (nat_lt index (index_after op index registers)) (next (index_after op index registers) after)
  act_goes (Const d n) after l acts at st e = goes_ahead (put_at registers d (integer n)) after e
  act_goes (Move d a) after l acts at st e = goes_ahead (put_at registers d (value_at registers a)) after e
  act_goes (Binary d a b op t) after l acts at st e = result_goes d after _ e
  act_goes (Jump target) after l acts at st e =
      let same : registers ≡ after = cc in ap (λ r. go_to (nat_lt index target) (next target r)) same
  act_goes (JumpZero a target) after l acts at st e = zero_goes (value_at registers a).number target after e
  act_goes (Return a) after l acts at st e = absurd (leave_acts main (value_at registers a) acts at st)
  act_goes (Out a) after l acts at st e = absurd (cc)
  act_goes (Exit a) after l acts at st e = absurd (cc)

  -- and one that has none
  act_traps : (op : Op) (fault : ArithFault) → registers_after op registers ≡ Err fault → act main op line next index registers ≡ trap (reason_of fault) line
  act_traps (Binary d a b op t) fault e = result_traps d fault _ e
  act_traps op fault e = absurd (cc)

module _ (code : PlainCode) (f : PlainFunction) (thread : Thread) (there : slice_get code.functions thread.function ≡ Some f) (m : ℕ) where
  abbrev next : ℕ → List Value → Phrase ℕ
  next = exec thread.main f.instructions m

  -- what follows a step
  abbrev Steps : Phrase ℕ → Thread → Type 0
  Steps play new = play ≡ step_play thread new (plays_on f.instructions m new)

  -- the operation's result decides
  operation_steps :
      (op : Op) (line : ℕ) (r : Result (List Value) ArithFault) → index_after op thread.index thread.registers < length f.instructions →
      (l : ℕ) (acts : Op) (at : ℕ) → stage_of thread.main op l thread.registers ≡ Acts acts at → registers_after op thread.registers ≡ r →
      Steps (act thread.main op line next thread.index thread.registers) (thread_after_operation code thread op line r)
  operation_steps op line (Ok after) inside l acts at st e =
      let p = index_after op thread.index thread.registers in
      let new = thread_at code thread.function thread.main p after in
      let plays = there_plays code thread.function f thread.main p after m there inside in
      act_goes thread.main line thread.index next thread.registers op after l acts at st e
      ∙ ap (λ q. go_to (nat_lt thread.index p) q) (sym plays.0)
      ∙ ap (λ b. go_to (b || nat_lt thread.index p) (plays_on f.instructions m new)) (sym plays.1)
  operation_steps op line (Err fault) inside l acts at st e = act_traps thread.main line thread.index next thread.registers op fault e

  steps_at :
      (s : Stage) → thread.stage ≡ s → IsThreadOf code thread → want_at s ≡ WantInstruction →
      Steps (plays_at f.instructions (suc m) thread s) (step_from code thread s)
  steps_at (Acts op line) e h w =
      let st = stands_before code thread f h there (ap is_before e) in
      let v = acts_view thread.main thread.registers st.i.op st.i.line op line (st.stage ∙ e) in
      let stage = subst (λ (o : Op). stage_of thread.main o st.i.line thread.registers ≡ Acts op line) v.op_is (st.stage ∙ e) in
      ap (λ o. act_at thread.main o next thread.index thread.registers) st.at
      ∙ ap (λ o. act thread.main o st.i.line next thread.index thread.registers) v.op_is
      ∙ ap (λ l. act thread.main op l next thread.index thread.registers) v.line_is
      ∙ operation_steps op line (registers_after op thread.registers) (index_after_step code thread f h there op line e) st.i.line op line stage refl
  steps_at (PutsOut byte line) e h w = absurd (cc)
  steps_at (Ends result) e h w = absurd (cc)
  steps_at (Exits status) e h w = absurd (cc)
  steps_at (Traps reason line) e h w = absurd (cc)
  steps_at (Over halt) e h w = absurd (cc)

  -- ---- an answer

  abbrev Asking : Phrase ℕ → Event → Stage → Type 0
  Asking play event s = AsksThen play event (λ answer. plays_on f.instructions m (answer_at code thread s answer))

  -- the end of the thread, and of the program
  end_asks : (result : ℕ) → Asking (Asks (Makes (EndEvent result)) (λ _. Gives tt result)) (EndEvent result) (Ends result)
  end_asks result = record { query = Makes (EndEvent result); next = λ _. Gives tt result; asks = refl; wish = refl; then = λ answer reply h. refl }

  exit_asks : (status : ℕ) → Asking (Asks (Makes (ExitEvent status)) (λ _. Stops (Finished (Exited status)))) (ExitEvent status) (Exits status)
  exit_asks status = record { query = Makes (ExitEvent status); next = λ _. Stops (Finished (Exited status)); asks = refl; wish = refl; then = λ answer reply h. refl }

  -- a byte that is put out
  abbrev byte_out : ℕ → Option Reason → Phrase (Unit {0})
  byte_out line reply = unless_refused line (Gives tt tt) reply

  abbrev after_byte : ℕ → Option Reason → Phrase ℕ
  after_byte line reply = bind (byte_out line reply) (λ _ _. next (thread.index + 1) thread.registers)

  out_asks :
      (byte line : ℕ) → thread.index + 1 < length f.instructions →
      Asking (Asks (Makes (OutEvent byte)) (after_byte line)) (OutEvent byte) (PutsOut byte line)
  out_asks byte line inside = record { query = Makes (OutEvent byte); next = after_byte line; asks = refl; wish = refl; then = λ answer reply h. replied answer reply h } where
    replied : (answer : Answer) (reply : Option Reason) → room_reply answer ≡ Some reply → after_byte line reply ≡ plays_on f.instructions m (answer_at code thread (PutsOut byte line) answer)
    replied answer reply h =
        ⊎_elim
        (λ v. ap (after_byte line) v.1
        ∙ (sym (there_plays code thread.function f thread.main (thread.index + 1) thread.registers m there inside).0
        ∙ ap (λ a. plays_on f.instructions m (answer_at code thread (PutsOut byte line) a)) (sym v.0)))
        (λ v. ap (after_byte line) v.1 ∙ ap (λ a. plays_on f.instructions m (answer_at code thread (PutsOut byte line) a)) (sym v.0))
        (reply_view answer reply h)

  -- what an instruction asks, by the stage before it
  ends_at : (main : Bool) (v : Value) (result : ℕ) → leave_stage main v ≡ Ends result → Asking (leave main v) (EndEvent result) (Ends result)
  ends_at false v result e = let same : v.number ≡ result = cc in subst (λ n. Asking (leave false v) (EndEvent n) (Ends n)) same (end_asks v.number)
  ends_at true v result e = absurd (cc)

  exits_at : (v : Value) (status : ℕ) → v.number % 256 ≡ status → Asking (exit v) (ExitEvent status) (Exits status)
  exits_at v status same = subst (λ n. Asking (exit v) (ExitEvent n) (Exits n)) same (exit_asks (v.number % 256))

  leaves_at : (main : Bool) (v : Value) (status : ℕ) → leave_stage main v ≡ Exits status → Asking (leave main v) (ExitEvent status) (Exits status)
  leaves_at true v status e = exits_at v status (cc)
  leaves_at false v status e = absurd (cc)

  module _ (op : Op) (l : ℕ) where
    abbrev play_here : Phrase ℕ
    play_here = act thread.main op l next thread.index thread.registers

  op_ends : (op : Op) (l result : ℕ) → stage_of thread.main op l thread.registers ≡ Ends result → Asking (play_here op l) (EndEvent result) (Ends result)
  op_ends (Return a) l result e = ends_at thread.main (value_at thread.registers a) result e
  op_ends op l result e = absurd (cc)

  op_exits : (op : Op) (l status : ℕ) → stage_of thread.main op l thread.registers ≡ Exits status → Asking (play_here op l) (ExitEvent status) (Exits status)
  op_exits (Return a) l status e = leaves_at thread.main (value_at thread.registers a) status e
  op_exits (Exit a) l status e = exits_at (value_at thread.registers a) status (cc)
  op_exits op l status e = absurd (cc)

  op_outs :
      (op : Op) (l byte line : ℕ) → thread.index + 1 < length f.instructions → stage_of thread.main op l thread.registers ≡ PutsOut byte line →
      Asking (play_here op l) (OutEvent byte) (PutsOut byte line)
  op_outs op l byte line inside e =
      let v = out_view thread.main thread.registers op l byte line e in
      let b = (value_at thread.registers v.a).number % 256 in
      subst (λ (o : Op). Asking (play_here o l) (OutEvent byte) (PutsOut byte line)) (sym v.op_is)
      (subst (λ n. Asking (play_here (Out v.a) l) (OutEvent n) (PutsOut n line)) v.byte_is
      (subst (λ n. Asking (play_here (Out v.a) l) (OutEvent b) (PutsOut b n)) v.line_is (out_asks b l inside)))

  asks_at :
      (event : Event) (s : Stage) → thread.stage ≡ s → IsThreadOf code thread → want_at s ≡ WantEvent event → Asking (plays_at f.instructions (suc m) thread s) event s
  asks_at event (Acts op line) e h w = absurd (cc)
  asks_at event (PutsOut byte line) e h w =
      let st = stands_before code thread f h there (ap is_before e) in
      let same : OutEvent byte ≡ event = cc in
      subst (λ ev. Asking (exec thread.main f.instructions (suc m) thread.index thread.registers) ev (PutsOut byte line)) same
      (subst (λ o. Asking (act_at thread.main o next thread.index thread.registers) (OutEvent byte) (PutsOut byte line)) (sym st.at)
      (op_outs st.i.op st.i.line byte line (index_after_out code thread f h there byte line e) (st.stage ∙ e)))
  asks_at event (Ends result) e h w =
      let st = stands_before code thread f h there (ap is_before e) in
      let same : EndEvent result ≡ event = cc in
      subst (λ ev. Asking (exec thread.main f.instructions (suc m) thread.index thread.registers) ev (Ends result)) same
      (subst (λ o. Asking (act_at thread.main o next thread.index thread.registers) (EndEvent result) (Ends result)) (sym st.at)
      (op_ends st.i.op st.i.line result (st.stage ∙ e)))
  asks_at event (Exits status) e h w =
      let st = stands_before code thread f h there (ap is_before e) in
      let same : ExitEvent status ≡ event = cc in
      subst (λ ev. Asking (exec thread.main f.instructions (suc m) thread.index thread.registers) ev (Exits status)) same
      (subst (λ o. Asking (act_at thread.main o next thread.index thread.registers) (ExitEvent status) (Exits status)) (sym st.at)
      (op_exits st.i.op st.i.line status (st.stage ∙ e)))
  asks_at event (Traps reason line) e h w =
      let same : TrapEvent reason line ≡ event = cc in
      subst (λ ev. Asking (trap reason line) ev (Traps reason line)) same
      (record { query = Makes (TrapEvent reason line); next = λ _. _; asks = refl; wish = refl; then = λ answer reply h. refl })
  asks_at event (Over halt) e h w = absurd (cc)

-- ---- a trap, and an end

traps_at : (code : List Instruction) (thread : Thread) (m n : ℕ) (s : Stage) → is_trap s ≡ true → plays_at code m thread s ≡ plays_at code n thread s
traps_at code thread m n (Traps reason line) h = refl
traps_at code thread m n s h = absurd (cc)

stops_at : (code : List Instruction) (thread : Thread) (m : ℕ) (s : Stage) → want_at s ≡ Stopped → (halt : Halt) × (plays_at code m thread s ≡ halt_play halt)
stops_at code thread m (Over halt) h = (halt, refl)
stops_at code thread m s h = absurd (cc)

-- ---- all of it

begins :
    (code : PlainCode) (f : PlainFunction) → IsFunctionWellFormed f → (start : Start) (m : ℕ) → slice_get code.functions start.function ≡ Some f →
    plays_on f.instructions m (thread_after_begin code start.function) ≡ exec_thread m code start
begins code f formed start m there =
    let main = start.function == code.main in
    (there_plays code start.function f main 0 first_registers m there (first_inside f.instructions formed.ends)).0
    ∙ ap (λ o. exec_called main o m) (sym there)

pub thread_follows : ThreadFollows
thread_follows code f formed = record {
  begins = begins code f formed;
  steps = λ thread m there h w. steps_at code f thread there m thread.stage refl h w;
  asks = λ thread m event there h w. asks_at code f thread there m event thread.stage refl h w;
  trapping = λ thread m n h. traps_at f.instructions thread m n thread.stage h;
  stops = λ thread m h. stops_at f.instructions thread m thread.stage h;
}
