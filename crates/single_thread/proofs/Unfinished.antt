-- A run of well-formed code goes on until the program ends or the run is cut: there is an instruction wherever it
-- comes, and the machine's answers fit.
use Rattle.std.proofs.Common.{◌≡◌, ℕ, zero, suc, ◌+◌, ◌%◌, ◌<◌, List, [], length, Option, Some, None, Bool, true, false, Result, Ok, Err, refl, sym, subst, eq-eqb}
use Rattle.std.specs.Prelude.{slice_get, nat_lt}
use Rattle.std.proofs.lemmas.List.Elements.{All-get_or}
use Rattle.std.proofs.lemmas.Option.{slice_get-get_or}
use Rattle.filc_num.specs.declared.integer.ArithFault.{ArithFault}
use Rattle.filc_num.specs.declared.reason.Reason.{Reason}
use Rattle.filc_code.specs.declared.op.Op.{Op}
use Rattle.filc_code.specs.declared.op.Op.TheVariants.{Const, Move, Binary, Jump, JumpZero, Return, Out as OutOp, Exit as ExitOp}
use Rattle.filc_code.specs.Plain.{PlainFunction, PlainCode}
use Rattle.filc_code.specs.Numbers.{operator_at, type_at}
use Rattle.filc_code.specs.WellFormed.{IsFunctionWellFormed, IsWellFormed, IsOpWellFormed, LeavesPlace}
use Rattle.ideal_machine.specs.declared.value.Value.{Value}
use Rattle.ideal_machine.specs.Values.{integer, value_at, put_at}
use Rattle.ideal_machine.specs.Memory.{Memory, World}
use Rattle.ideal_machine.specs.Play.{Cut, Stop, Waits, Gives, bind, by_reply}
use Rattle.ideal_machine.specs.Phrases.{Phrase, if_zero, unless_refused, operator_result, arithmetic_result}
use Rattle.ideal_machine.specs.Queries.{room_reply}
use Rattle.ideal_machine.specs.declared.event.Event.TheVariants.{Out}
use Rattle.form_play.specs.Observable.{finish_of}
use Rattle.code_thread.specs.Exec.{Next, go_to, act, act_at, exec, exec_called, first_registers}
use Rattle.code_thread.proofs.Threads.{first_inside, instruction_inside, next_inside, op_formed}
use Rattle.single_thread.specs.Alone.{room_answer, memory_with, made_by, stop_by, memory_after_begin}
use Rattle.single_thread.specs.Runs.{RunsAreUnfinished}
use Rattle.single_thread.proofs.Gained.{out_made}

module _ (world : World) where
  -- a play that ends the program or is cut
  abbrev EndsOrCut : Phrase ℕ → Memory → Type 0
  EndsOrCut play memory = finish_of (made_by world play memory) ≡ None → stop_by world play memory ≡ Some Cut

  -- wherever a thread comes in so many instructions
  abbrev AllCut : ℕ → Next → Type 0
  AllCut n next = (index : ℕ) → index < n → (registers : List Value) (memory : Memory) → EndsOrCut (next index registers) memory

  jump_cuts : (b : Bool) (p : Phrase ℕ) (memory : Memory) → EndsOrCut p memory → EndsOrCut (go_to b p) memory
  jump_cuts true p memory h = h
  jump_cuts false p memory h = h

  zero_cuts : (n : ℕ) (p q : Phrase ℕ) (memory : Memory) → EndsOrCut p memory → EndsOrCut q memory → EndsOrCut (if_zero n p q) memory
  zero_cuts zero p q memory h k = h
  zero_cuts (suc n) p q memory h k = k

  result_cuts :
      (r : Result ℕ ArithFault) (line : ℕ) (go : Value → Phrase ℕ) (memory : Memory) → ((v : Value) → EndsOrCut (go v) memory) →
      EndsOrCut (bind (arithmetic_result r line) (λ _ v. go v)) memory
  result_cuts (Ok n) line go memory h = h (integer n)
  result_cuts (Err fault) line go memory h = λ none. absurd (cc)

  -- what follows a byte, where it was put out or not
  module _ (byte line : ℕ) (go : Phrase ℕ) where
    abbrev byte_out : Option Reason → Phrase (Unit {0})
    byte_out reply = unless_refused line (Gives tt tt) reply

    abbrev after_byte : Option Reason → Phrase ℕ
    after_byte reply = bind (byte_out reply) (λ _ _. go)

    abbrev out_stop : Memory → Bool → Option Stop
    out_stop memory room =
        by_reply (room_reply (room_answer room)) (Some Waits) (λ reply. stop_by world (after_byte reply) (memory_with memory (Out byte) (room_answer room)))

    room_cuts : (memory : Memory) (room : Bool) → ((memory : Memory) → EndsOrCut go memory) → finish_of (out_made world byte after_byte memory room) ≡ None → out_stop memory room ≡ Some Cut
    room_cuts memory true h = h _
    room_cuts memory false h = λ none. absurd (cc)

  module _ (long : ℕ) (next : Next) (each : AllCut long next) (index : ℕ) (registers : List Value) (memory : Memory) where
    op_cuts : (op : Op) (line values : ℕ) → IsOpWellFormed values long op → (¬ LeavesPlace op → index + 1 < long) → EndsOrCut (act true op line next index registers) memory
    op_cuts (Const d n) line values formed on = each (index + 1) (on (λ h. h)) _ memory
    op_cuts (Move d a) line values formed on = each (index + 1) (on (λ h. h)) _ memory
    op_cuts (Binary d a b op t) line values formed on =
        result_cuts (operator_result (operator_at op) (type_at t) (value_at registers a).number (value_at registers b).number) line
        (λ v. next (index + 1) (put_at registers d v)) memory (λ v. each (index + 1) (on (λ h. h)) (put_at registers d v) memory)
    op_cuts (Jump target) line values formed on =
        jump_cuts (nat_lt index target) (next target registers) memory (each target formed.target registers memory)
    op_cuts (JumpZero a target) line values formed on =
        zero_cuts (value_at registers a).number (go_to (nat_lt index target) (next target registers)) (next (index + 1) registers) memory
        (jump_cuts (nat_lt index target) (next target registers) memory (each target formed.target registers memory))
        (each (index + 1) (on (λ h. h)) registers memory)
    op_cuts (Return a) line values formed on = λ none. absurd (cc)
    op_cuts (OutOp a) line values formed on =
        room_cuts ((value_at registers a).number % 256) line (next (index + 1) registers) memory (nat_lt (length memory.output) world.output)
        (λ m. each (index + 1) (on (λ h. h)) registers m)
    op_cuts (ExitOp a) line values formed on = λ none. absurd (cc)

  exec_cuts : (f : PlainFunction) → IsFunctionWellFormed f → (m : ℕ) → AllCut (length f.instructions) (exec true f.instructions m)
  exec_cuts f formed zero index inside registers memory = λ none. refl
  exec_cuts f formed (suc m) index inside registers memory =
      let i = instruction_inside f.instructions index inside in
      subst (λ o. EndsOrCut (act_at true o (exec true f.instructions m) index registers) memory) (sym i.1)
      (op_cuts (length f.instructions) (exec true f.instructions m) (exec_cuts f formed m) index registers memory i.0.op i.0.line f.values
      (op_formed f index i.0 formed i.1) (next_inside f.instructions index i.0 formed.ends i.1))

  thread_cuts : (code : PlainCode) → IsWellFormed code → (m : ℕ) (memory : Memory) → EndsOrCut (exec_called true (slice_get code.functions code.main) m) memory
  thread_cuts code formed m memory =
      let nothing : PlainFunction = record { values = 0; parameters = 0; kind = 0; instructions = [] } in
      let at = slice_get-get_or code.functions code.main nothing formed.main in
      let f = All-get_or IsFunctionWellFormed code.functions code.main nothing formed.main formed.functions in
      subst (λ o. EndsOrCut (exec_called true o m) memory) (sym at)
      (exec_cuts _ f m 0 (first_inside _ f.ends) first_registers memory)

pub runs_are_unfinished : RunsAreUnfinished
runs_are_unfinished world code formed m =
    subst (λ b. EndsOrCut world (exec_called b (slice_get code.functions code.main) m) (memory_after_begin world code)) (sym (eq-eqb code.main code.main refl))
    (thread_cuts world code formed m (memory_after_begin world code))
