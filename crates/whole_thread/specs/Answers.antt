-- What a thread makes of the answer to the event that it wants.
--
-- An answer that doesn't fit the event is no reply to it, and no law speaks of it.
use Rattle.std.specs.Prelude.{ℕ, ◌-◌, ◌%◌, ◌==◌, Bool, true, false, Option, Some, None, Result, Ok, Err, if◌then◌else◌}
use Rattle.filc_num.specs.Integers.{bytes_of, convert_of}
use Rattle.filc_num.specs.declared.integer.IntType.TheVariants.{U64}
use Rattle.filc_num.specs.declared.reason.Reason.{Reason}
use Rattle.filc_num.specs.declared.reason.Reason.TheVariants.{NoCell}
use Rattle.whole_code.specs.declared.op.Op.{Op}
use Rattle.whole_code.specs.declared.op.Op.TheVariants as op
use Rattle.whole_code.specs.declared.op.Instruction.{Instruction}
use Rattle.whole_code.specs.Plain.{PlainCode}
use Rattle.whole_code.specs.Numbers.{operator_at, type_at}
use Rattle.ideal_machine.specs.declared.value.Half.{Half}
use Rattle.ideal_machine.specs.declared.value.Half.TheVariants.{Object as ObjectHalf}
use Rattle.ideal_machine.specs.declared.value.Found.{Found}
use Rattle.ideal_machine.specs.declared.value.Found.TheVariants.{Plain as FoundPlain, Pair as FoundPair}
use Rattle.ideal_machine.specs.declared.value.Value.{Value}
use Rattle.ideal_machine.specs.declared.finish.Finish.TheVariants.{Exited, Trapped}
use Rattle.ideal_machine.specs.declared.event.Access.{Access}
use Rattle.ideal_machine.specs.declared.event.Answer.{Answer}
use Rattle.ideal_machine.specs.Values.{integer}
use Rattle.ideal_machine.specs.Queries.{NewObject, OpenPair, LockReply, Taken, CheckedAgain, check_reply, plain_check_reply, room_reply, done_reply, number_reply, found_reply, pair_reply, object_reply, size_reply, byte_reply, id_reply, lock_reply}
use Rattle.ideal_machine.specs.Play.{by_reply}
use Rattle.ideal_machine.specs.Phrases.{operator_result}
use Rattle.ideal_machine.specs.Addresses.{elements_between}
use Rattle.ideal_machine.specs.Words.{same_found}
use Rattle.ideal_machine.specs.Lifetimes.{pointer_to, object_or_null}
use Rattle.ideal_machine.specs.Threads.{minus_one, number_or}
use Rattle.whole_thread.specs.declared.stage.Halt.TheVariants as halt
use Rattle.whole_thread.specs.declared.stage.Stage.{Stage}
use Rattle.whole_thread.specs.declared.stage.Stage.TheVariants as stage
use Rattle.whole_thread.specs.Standing.{trap_line, register, with_register, in_round}
use Rattle.whole_thread.specs.Act.{made_number}
use Rattle.whole_thread.specs.Thread.{Thread, place_address, stage_of, at_stage, before, goes_on, gets, gets_result, here}

-- ---- refusals

-- a trap for a reason, or on
abbrev pub unless_refused : Thread → (line : ℕ) → Thread → Option Reason → Thread
unless_refused thread line on None = on
unless_refused thread line on (Some reason) = at_stage thread (stage.Traps reason line)

-- the access of an object's bytes; a check is granted to no other half, and to no address before the object, where the
-- difference is 0
abbrev pub granted_stage : Half → (address width : ℕ) → Stage
granted_stage (ObjectHalf n) address width =
    stage.Granted (record { object = n; offset = address - place_address n; width = width })
granted_stage half address width = stage.Waits

-- behind a check of so many bytes at a pointer
abbrev pub checked : Thread → (line : ℕ) → Value → (width : ℕ) → Option Reason → Thread
checked thread line p width refusal = unless_refused thread line (at_stage thread (granted_stage p.half p.number width)) refusal

-- a check that may, or may not, find no cell
abbrev pub checks : Thread → (line : ℕ) → Value → (width : ℕ) → Answer → Thread
checks thread line p width answer = by_reply (plain_check_reply answer) thread (checked thread line p width)

abbrev pub checks_for_cell : Thread → (line : ℕ) → Value → Answer → Thread
checks_for_cell thread line p answer = by_reply (check_reply answer) thread (checked thread line p 8)

-- ---- values

abbrev pub gets_size : Thread → (line d : ℕ) → Result ℕ Reason → Thread
gets_size thread line d (Ok bytes) = gets thread d (integer bytes)
gets_size thread line d (Err reason) = at_stage thread (stage.Traps reason line)

abbrev pub gets_home : Thread → (line d : ℕ) → Option NewObject → Thread
gets_home thread line d None = at_stage thread (stage.Traps NoCell line)
gets_home thread line d (Some made) = gets thread d (pointer_to made)

-- an integer as a value of a type
abbrev pub gets_int : Thread → (d t : ℕ) → ℕ → Thread
gets_int thread d t n = gets thread d (integer (convert_of n (type_at t)))

-- ---- locks

-- one more round of the instruction, behind its check
abbrev pub again : Thread → Access → Thread
again thread access = before thread (in_round thread.at access)

-- a lock is taken, or its check is made once more
abbrev pub locks : Thread → (line : ℕ) → Access → LockReply → Thread
locks thread line access Taken = goes_on thread
locks thread line access (CheckedAgain refusal) = unless_refused thread line (again thread access) refusal

-- ---- pointers

-- the pointer of a half that was found: its address is the word's integer; a pair has both
abbrev pub opened_pointer : OpenPair → Value
opened_pointer opened = record { number = opened.address; half = opened.half }

abbrev pub gets_pointer : Thread → Op → Access → Found → Value → Thread
gets_pointer thread (op.LoadPointer d p) access found pointer = gets thread d pointer
gets_pointer thread (op.BoxSwap d p a) access found pointer = gets thread d pointer
gets_pointer thread (op.BoxCas d w p e n) access found pointer = at_stage thread (stage.Read access found pointer)
gets_pointer thread op access found pointer = thread

abbrev pub reads : Thread → Op → Access → Found → Answer → Thread
reads thread op access (FoundPlain half) answer =
    by_reply (number_reply answer) thread (λ n. gets_pointer thread op access (FoundPlain half) (record { number = n; half = half }))
reads thread op access (FoundPair pair) answer =
    by_reply (pair_reply answer) thread (λ opened. gets_pointer thread op access (FoundPair pair) (opened_pointer opened))

-- the pointer that was found, and whether it was replaced
abbrev pub gets_both : Thread → (d w : ℕ) → Value → (made : Bool) → Thread
gets_both thread d w pointer made =
    gets (record thread { at = with_register thread.at d pointer }) w (integer (made_number made))

-- the expected pointer is named: where its address is another, the exchange isn't made
abbrev pub compares : Thread → Op → Access → Found → Value → Thread
compares thread (op.BoxCas d w p e n) access found pointer =
    if pointer.number == (register thread.at e).number then at_stage thread (stage.Matches access found pointer)
    else gets_both thread d w pointer false
compares thread op access found pointer = thread

-- where something else is there by now, one more round
abbrev pub replaces : Thread → Op → Access → Found → Value → Found → Thread
replaces thread (op.BoxCas d w p e n) access found pointer there =
    if same_found there found then gets_both thread d w pointer true else again thread access
replaces thread op access found pointer there = thread

-- both pointers are named
abbrev pub looks : Thread → (line : ℕ) → Op → Thread
looks thread line (op.PointerSub d a b bytes) =
    gets thread d (integer (elements_between bytes (register thread.at a).number (register thread.at b).number))
looks thread line (op.PointerCompare d a b o) =
    gets_result thread line d (operator_result (operator_at o) U64 (register thread.at a).number (register thread.at b).number)
looks thread line op = thread

-- ---- ends

abbrev pub leaves_stage : (main : Bool) → Value → Stage
leaves_stage true v = stage.Over (halt.Finished (Exited (v.number % 256)))
leaves_stage false v = stage.Over (halt.Returned v.number)

-- ---- the answer, by the stage

-- to another thread, when it is done
abbrev pub when_done : Thread → Thread → Answer → Thread
when_done thread on answer = by_reply (done_reply answer) thread (λ _. on)

-- before an instruction
abbrev pub answer_before : Thread → (line : ℕ) → Op → Answer → Thread
answer_before thread line (op.PointerSub d a b bytes) answer = when_done thread (at_stage thread stage.NamedFirst) answer
answer_before thread line (op.PointerCompare d a b o) answer = when_done thread (at_stage thread stage.NamedFirst) answer
answer_before thread line (op.ToInteger d a t) answer = when_done thread (gets_int thread d t (register thread.at a).number) answer
answer_before thread line (op.Home d bytes) answer = by_reply (object_reply answer) thread (gets_home thread line d)
answer_before thread line (op.New d a) answer = by_reply (object_reply answer) thread (λ made. gets thread d (object_or_null made))
answer_before thread line (op.Free a) answer = by_reply (plain_check_reply answer) thread (unless_refused thread line (goes_on thread))
answer_before thread line (op.Size d a) answer = by_reply (size_reply answer) thread (gets_size thread line d)
answer_before thread line (op.LoadInt d p t) answer = checks thread line (register thread.at p) (bytes_of (type_at t)) answer
answer_before thread line (op.StoreInt p a t) answer = checks thread line (register thread.at p) (bytes_of (type_at t)) answer
answer_before thread line (op.RmwInt d p a o t u) answer = checks thread line (register thread.at p) (bytes_of (type_at t)) answer
answer_before thread line (op.CasInt d p e n t) answer = checks thread line (register thread.at p) (bytes_of (type_at t)) answer
answer_before thread line (op.Lock p) answer = checks thread line (register thread.at p) 4 answer
answer_before thread line (op.LoadPointer d p) answer = checks thread line (register thread.at p) 8 answer
answer_before thread line (op.StorePointer p a) answer = checks_for_cell thread line (register thread.at p) answer
answer_before thread line (op.BoxStore p a) answer = checks_for_cell thread line (register thread.at p) answer
answer_before thread line (op.BoxSwap d p a) answer = checks_for_cell thread line (register thread.at p) answer
answer_before thread line (op.BoxCas d w p e n) answer = checks_for_cell thread line (register thread.at p) answer
answer_before thread line (op.Return a) answer = when_done thread (at_stage thread (leaves_stage thread.main (register thread.at a))) answer
answer_before thread line (op.Out a) answer = by_reply (room_reply answer) thread (unless_refused thread line (goes_on thread))
answer_before thread line (op.Input d) answer = by_reply (byte_reply answer) thread (λ byte. gets thread d (number_or minus_one byte))
answer_before thread line (op.Spawn d a b) answer = by_reply (id_reply answer) thread (λ id. gets thread d (number_or minus_one id))
answer_before thread line (op.Join d a) answer = by_reply (id_reply answer) thread (λ result. gets thread d (number_or 4294967296 result))
answer_before thread line (op.Exit a) answer = when_done thread (at_stage thread (leaves_stage true (register thread.at a))) answer
answer_before thread line op answer = thread

-- behind a granted check
abbrev pub answer_granted : Thread → (line : ℕ) → Op → Access → Answer → Thread
answer_granted thread line (op.LoadInt d p t) access answer = by_reply (number_reply answer) thread (gets_int thread d t)
answer_granted thread line (op.StoreInt p a t) access answer = when_done thread (goes_on thread) answer
answer_granted thread line (op.RmwInt d p a o t u) access answer = by_reply (number_reply answer) thread (gets_int thread d t)
answer_granted thread line (op.CasInt d p e n t) access answer = by_reply (number_reply answer) thread (λ found. gets thread d (integer found))
answer_granted thread line (op.Lock p) access answer = by_reply (lock_reply answer) thread (locks thread line access)
answer_granted thread line (op.LoadPointer d p) access answer = by_reply (found_reply answer) thread (λ found. at_stage thread (stage.Found access found))
answer_granted thread line (op.StorePointer p a) access answer = when_done thread (at_stage thread (stage.Stored access)) answer
answer_granted thread line (op.BoxStore p a) access answer = when_done thread (goes_on thread) answer
answer_granted thread line (op.BoxSwap d p a) access answer = by_reply (found_reply answer) thread (λ found. at_stage thread (stage.Found access found))
answer_granted thread line (op.BoxCas d w p e n) access answer = by_reply (found_reply answer) thread (λ found. at_stage thread (stage.Found access found))
answer_granted thread line op access answer = thread

abbrev pub answer_at : Thread → (line : ℕ) → Op → Stage → Answer → Thread
answer_at thread line op stage.Before answer = answer_before thread line op answer
answer_at thread line op (stage.Granted access) answer = answer_granted thread line op access answer
answer_at thread line op (stage.Stored access) answer = when_done thread (goes_on thread) answer
answer_at thread line op (stage.Found access found) answer = reads thread op access found answer
answer_at thread line op (stage.Read access found pointer) answer = when_done thread (compares thread op access found pointer) answer
answer_at thread line op (stage.Matches access found pointer) answer =
    by_reply (found_reply answer) thread (replaces thread op access found pointer)
answer_at thread line op stage.NamedFirst answer = when_done thread (looks thread line op) answer
answer_at thread line op stage.Waits answer = thread
answer_at thread line op (stage.Traps reason l) answer =
    when_done thread (at_stage thread (stage.Over (halt.Finished (Trapped reason l)))) answer
answer_at thread line op (stage.Over halt) answer = thread

abbrev pub answer_by : Thread → Option Instruction → Answer → Thread
answer_by thread None answer = thread
answer_by thread (Some i) answer = answer_at thread (trap_line thread.at.frame i) i.op (stage_of thread) answer

-- a thread after the answer to the event that it wants
abbrev pub thread_after_answer : PlainCode → Thread → Answer → Thread
thread_after_answer code thread answer = answer_by thread (here code thread) answer
