-- A turn leaves to the outside what it would have seen: by the law that a thread's calls follow the play of its code.
use Rattle.std.proofs.Common.{◌≡◌, ℕ, suc, ◌+◌, ◌-◌, ◌<◌, ◌≤◌, List, [], ◌∷◌, ◌++◌, length, Option, Some, None, Bool, true, false, Result, Ok, Err, refl, sym, ◌∙◌, ap, subst, arith, append_assoc, append-nil, eq-eqb}
use Rattle.std.specs.Prelude.{slice_get, option_and_then, nat_lt, ◌==◌}
use Rattle.std.proofs.lemmas.Bool.{lt-ltb, le-ltb}
use Rattle.filc_num.specs.declared.integer.ArithFault.{ArithFault}
use Rattle.filc_num.specs.declared.reason.Reason.{Reason}
use Rattle.filc_num.specs.declared.reason.Reason.TheVariants.{OutputLimit}
use Rattle.filc_code.specs.declared.op.Op.{Op}
use Rattle.filc_code.specs.declared.op.Op.TheVariants.{Return}
use Rattle.filc_code.specs.Plain.{PlainFunction, PlainCode, instruction_at}
use Rattle.ideal_machine.specs.declared.value.Value.{Value}
use Rattle.ideal_machine.specs.declared.finish.Finish.{Finish}
use Rattle.ideal_machine.specs.declared.finish.Finish.TheVariants.{Exited, Trapped}
use Rattle.ideal_machine.specs.declared.event.Event.{Event}
use Rattle.ideal_machine.specs.declared.event.Event.TheVariants.{Out, Exit}
use Rattle.ideal_machine.specs.declared.event.Answer.{Answer}
use Rattle.ideal_machine.specs.declared.event.Answer.TheVariants.{Refused, Done}
use Rattle.ideal_machine.specs.Queries.{Query, Makes, EventReply, event_reply, Reply, reply_to, wish_of}
use Rattle.ideal_machine.specs.Play.{Stops, Asks, Cut}
use Rattle.ideal_machine.specs.Phrases.{Phrase, trap}
use Rattle.form_play.specs.Observable.{Observable, bytes_of, finish_of}
use Rattle.code_thread.specs.declared.stage.Stage.{Stage}
use Rattle.code_thread.specs.declared.stage.Stage.TheVariants.{Acts, PutsOut, Exits}
use Rattle.code_thread.specs.declared.stage.Halt.TheVariants.{Finished}
use Rattle.code_thread.specs.declared.stage.Want.TheVariants.{Event as WantEvent, Instruction as WantInstruction}
use Rattle.code_thread.specs.Exec.{go_to, exec_called, exec_thread, first_registers}
use Rattle.code_thread.specs.Thread.{Thread, want_at, want_of, stage_of, stage_at, thread_at, thread_after_operation, registers_after, step_from, thread_after_step, answer_at, thread_after_answer, thread_after_begin, halt_play, plays_at, plays_on, IsThreadOf}
use Rattle.code_thread.proofs.Threads.{instruction_inside, step_keeps, answer_keeps}
use Rattle.code_thread.proofs.Follow.{thread_follows}
use Rattle.single_thread.specs.Alone.{made_by, memory_with, main_start, run_world, observable_of_run}
use Rattle.single_thread.specs.Turns.{memory_of, seen_by, plays_in, seen_from, seen_at_end, IsReadyAt, IsReady, trap_at, TurnTells}
use Rattle.single_thread.proofs.Gained.{out_made}

-- ---- what is seen of a play

module _ (code : PlainCode) (output : List ℕ) where
  -- nothing more was put out
  as_it_is : (finish : Option Finish) → seen_at_end (output ++ []) finish ≡ seen_at_end output finish
  as_it_is finish = ap (λ (l : List ℕ). seen_at_end l finish) (append-nil output)

  seen_trap : (reason : Reason) (line : ℕ) → seen_by code (trap reason line) output ≡ seen_at_end output (Some (Trapped reason line))
  unfolding seen_by
  seen_trap reason line = as_it_is (Some (Trapped reason line))

  seen_cut : seen_by code (Stops Cut) output ≡ seen_at_end output None
  unfolding seen_by
  seen_cut = as_it_is None

  seen_jump : (b : Bool) (p : Phrase ℕ) → seen_by code (go_to b p) output ≡ seen_by code p output
  unfolding seen_by
  seen_jump true p = refl
  seen_jump false p = refl

  -- an exit, after which nothing is made
  seen_exit :
      (status : ℕ) (next : Unit {0} → Phrase ℕ) (finish : Finish) → next tt ≡ halt_play (Finished finish) →
      seen_by code (Asks (Makes (Exit status)) next) output ≡ seen_at_end output (Some (Exited status))
  unfolding seen_by
  seen_exit status next finish is =
      ap (λ (p : Phrase ℕ). seen_at_end (output ++ bytes_of (made_by run_world p (memory_with (memory_of code output) (Exit status) Done))) (Some (Exited status))) is
      ∙ as_it_is (Some (Exited status))

  -- what is seen of a byte that has room or hasn't
  abbrev out_seen : ℕ → (Option Reason → Phrase ℕ) → Bool → Observable
  out_seen byte next room =
      let made = out_made run_world byte next (memory_of code output) room in
      record { bytes = output ++ bytes_of made; finish = finish_of made }

  -- a byte that has room
  seen_out :
      (byte : ℕ) (next : Option Reason → Phrase ℕ) → nat_lt (length output) 1048576 ≡ true →
      seen_by code (Asks (Makes (Out byte)) next) output ≡ seen_by code (next None) (output ++ byte ∷ [])
  unfolding seen_by
  seen_out byte next room =
      let more = made_by run_world (next None) (memory_of code (output ++ byte ∷ [])) in
      ap (λ (b : Bool). out_seen byte next b) room
      ∙ ap (λ (l : List ℕ). seen_at_end l (finish_of more)) (sym (append_assoc output (byte ∷ []) (bytes_of more)))

  -- a byte that has none
  seen_full :
      (byte : ℕ) (next : Option Reason → Phrase ℕ) (line : ℕ) → nat_lt (length output) 1048576 ≡ false → next (Some OutputLimit) ≡ trap OutputLimit line →
      seen_by code (Asks (Makes (Out byte)) next) output ≡ seen_at_end output (Some (Trapped OutputLimit line))
  unfolding seen_by
  seen_full byte next line full is =
      ap (λ (b : Bool). out_seen byte next b) full
      ∙ ap (λ (p : Phrase ℕ). let made = made_by run_world p (memory_of code output) in seen_at_end (output ++ bytes_of made) (finish_of made)) is
      ∙ as_it_is (Some (Trapped OutputLimit line))

-- ---- a query by its event

-- what a query that wants an event asks
record Wanted (event : Event) (query : Query) (next : Reply query → Phrase ℕ) : Type 0 where
  by : EventReply event → Phrase ℕ
  asks : Asks query next ≡ Asks (Makes event) by
  then : (answer : Answer) (reply : EventReply event) → event_reply event answer ≡ Some reply → (own : Reply query) × (reply_to query answer ≡ Some own) × (next own ≡ by reply)

-- only the event itself, where it is no check and no lock
abbrev IsPlain : Event → Type 0
IsPlain event = (query : Query) (next : Reply query → Phrase ℕ) → wish_of query ≡ event → Wanted event query next

made_wanted : (event asked : Event) (next : EventReply asked → Phrase ℕ) → asked ≡ event → Wanted event (Makes asked) next
made_wanted event asked next e =
    subst (λ (ev : Event). (next : EventReply ev → Phrase ℕ) → Wanted event (Makes ev) next) (sym e)
    (λ next. record { by = next; asks = refl; then = λ answer reply h. (reply, h, refl) }) next

out_plain : (byte : ℕ) → IsPlain (Out byte)
out_plain byte (Makes asked) next e = made_wanted (Out byte) asked next e
out_plain byte query next e = absurd (cc)

exit_plain : (status : ℕ) → IsPlain (Exit status)
exit_plain status (Makes asked) next e = made_wanted (Exit status) asked next e
exit_plain status query next e = absurd (cc)

-- ---- stages by what they want

acts_by : (s : Stage) → want_at s ≡ WantInstruction → (op : Op) × (line : ℕ) × (s ≡ Acts op line)
acts_by (Acts op line) w = (op, line, refl)
acts_by s w = absurd (cc)

puts_by : (s : Stage) (byte : ℕ) → want_at s ≡ WantEvent (Out byte) → (line : ℕ) × (s ≡ PutsOut byte line)
puts_by (PutsOut b line) byte w = let same : b ≡ byte = cc in (line, ap (λ n. PutsOut n line) same)
puts_by s byte w = absurd (cc)

exits_by : (s : Stage) (status : ℕ) → want_at s ≡ WantEvent (Exit status) → s ≡ Exits status
exits_by (Exits n) status w = let same : n ≡ status = cc in ap Exits same
exits_by s status w = absurd (cc)

-- ---- where a thread comes to

-- a stage before an instruction of `main`
record Came (stage : Stage) : Type 0 where
  ready : IsReadyAt stage
  untrapped : trap_at stage ≡ None

came_op : (op : Op) (line : ℕ) (registers : List Value) → Came (stage_of true op line registers)
came_op (Return a) line registers = record { ready = tt; untrapped = refl }
came_op op line registers = record { ready = tt; untrapped = refl }

module _ (code : PlainCode) where
  came :
      (function : ℕ) (main : Bool) (index : ℕ) (registers : List Value) → main ≡ true → IsThreadOf code (thread_at code function main index registers) →
      Came (thread_at code function main index registers).stage
  came function main index registers is h =
      let i = instruction_inside h.running.instructions index h.inside in
      let at : instruction_at code function index ≡ Some i.0 =
      ap (λ o. option_and_then (λ (f : PlainFunction). slice_get f.instructions index) o) h.there ∙ i.1 in
      subst (λ o. Came (stage_at main o registers)) (sym at)
      (subst (λ (b : Bool). Came (stage_of b i.0.op i.0.line registers)) (sym is) (came_op i.0.op i.0.line registers))

  comes_ready :
      (function : ℕ) (main : Bool) (index : ℕ) (registers : List Value) → main ≡ true → IsThreadOf code (thread_at code function main index registers) →
      IsReady code (thread_at code function main index registers)
  comes_ready function main index registers is h = record { of_code = h; main = is; stage = (came function main index registers is h).ready }

  -- what is seen of a thread of a function
  seen_here :
      (f : PlainFunction) (m : ℕ) (t : Thread) (output : List ℕ) → slice_get code.functions t.function ≡ Some f →
      seen_from code m t output ≡ seen_by code (plays_on f.instructions m t) output
  seen_here f m t output there = ap (λ o. seen_by code (plays_in o m t) output) there

-- ---- a turn of a thread that is ready

module _ (code : PlainCode) (t : Thread) (r : IsReady code t) (output : List ℕ) where
  abbrev h : IsThreadOf code t
  h = r.of_code

  abbrev f : PlainFunction
  f = h.running

  -- a turn that comes to an instruction
  tells_came :
      (index : ℕ) (registers : List Value) (bytes : List ℕ) → IsThreadOf code (thread_at code t.function t.main index registers) →
      ((m : ℕ) → seen_from code (suc m) t output ≡ seen_by code (plays_on f.instructions m (thread_at code t.function t.main index registers)) bytes) →
      TurnTells code t output (trap_at (thread_at code t.function t.main index registers).stage) (thread_at code t.function t.main index registers) bytes
  tells_came index registers bytes of each =
      let new = thread_at code t.function t.main index registers in
      subst (λ o. TurnTells code t output o new bytes) (sym (came code t.function t.main index registers r.main of).untrapped)
      (comes_ready code t.function t.main index registers r.main of, λ m. each m ∙ sym (seen_here code f m new bytes h.there))

  -- an operation, by its result
  operation_tells :
      (op : Op) (line : ℕ) (result : Result (List Value) ArithFault) → IsThreadOf code (thread_after_operation code t op line result) →
      ((m : ℕ) → seen_from code (suc m) t output ≡ seen_by code (plays_on f.instructions m (thread_after_operation code t op line result)) output) →
      TurnTells code t output (trap_at (thread_after_operation code t op line result).stage) (thread_after_operation code t op line result) output
  operation_tells op line (Ok after) of each = tells_came _ after output of each
  operation_tells op line (Err fault) of each = λ m. each m ∙ seen_trap code output _ line

  pub act_tells : want_of t ≡ WantInstruction → TurnTells code t output (trap_at (thread_after_step code t).stage) (thread_after_step code t) output
  act_tells w =
      let a = acts_by t.stage w in
      let new = thread_after_step code t in
      let each : (m : ℕ) → seen_from code (suc m) t output ≡ seen_by code (plays_on f.instructions m new) output = λ m.
      seen_here code f (suc m) t output h.there ∙ ap (λ p. seen_by code p output) ((thread_follows code f h.formed).steps t m h.there h w)
      ∙ seen_jump code output _ (plays_on f.instructions m new) in
      subst
      (λ (s : Stage).
      IsThreadOf code (step_from code t s) → ((m : ℕ) → seen_from code (suc m) t output ≡ seen_by code (plays_on f.instructions m (step_from code t s)) output) →
      TurnTells code t output (trap_at (step_from code t s).stage) (step_from code t s) output)
      (sym a.2) (operation_tells a.0 a.1 (registers_after a.0 t.registers)) (step_keeps code t h) each

  -- what the thread's play asks, and how it goes on by each answer
  record Wish (event : Event) (m : ℕ) : Type 0 where
    by : EventReply event → Phrase ℕ
    seen : seen_from code (suc m) t output ≡ seen_by code (Asks (Makes event) by) output
    then : (answer : Answer) (reply : EventReply event) → event_reply event answer ≡ Some reply → by reply ≡ plays_on f.instructions m (thread_after_answer code t answer)

  wish : (event : Event) → IsPlain event → want_of t ≡ WantEvent event → (m : ℕ) → Wish event m
  wish event plain w m =
      let a = (thread_follows code f h.formed).asks t m event h.there h w in
      let wanted = plain a.query a.next a.wish in
      record {
        by = wanted.by;
        seen = seen_here code f (suc m) t output h.there ∙ ap (λ p. seen_by code p output) (a.asks ∙ wanted.asks);
        then = λ answer reply fit. let own = wanted.then answer reply fit in sym own.2 ∙ a.then answer own.0 own.1;
      }

  pub out_tells :
      (byte : ℕ) → want_of t ≡ WantEvent (Out byte) → length output < 1048576 →
      TurnTells code t output (trap_at (thread_after_answer code t Done).stage) (thread_after_answer code t Done) (output ++ byte ∷ [])
  out_tells byte w room =
      let p = puts_by t.stage byte w in
      let new = thread_after_answer code t Done in
      let bytes = output ++ byte ∷ [] in
      let each : (m : ℕ) → seen_from code (suc m) t output ≡ seen_by code (plays_on f.instructions m new) bytes = λ m.
      let a = wish (Out byte) (out_plain byte) w m in
      a.seen ∙ (seen_out code output byte a.by (lt-ltb (length output) 1048576 room) ∙ ap (λ q. seen_by code q bytes) (a.then Done None refl)) in
      subst
      (λ (s : Stage).
      IsThreadOf code (answer_at code t s Done) → ((m : ℕ) → seen_from code (suc m) t output ≡ seen_by code (plays_on f.instructions m (answer_at code t s Done)) bytes) →
      TurnTells code t output (trap_at (answer_at code t s Done).stage) (answer_at code t s Done) bytes)
      (sym p.1) (tells_came (t.index + 1) t.registers bytes) (answer_keeps code t h Done) each

  pub full_tells :
      (byte : ℕ) → want_of t ≡ WantEvent (Out byte) → 1048576 ≤ length output →
      TurnTells code t output (trap_at (thread_after_answer code t (Refused OutputLimit)).stage) (thread_after_answer code t (Refused OutputLimit)) output
  full_tells byte w full =
      let p = puts_by t.stage byte w in
      subst
      (λ (s : Stage).
      ((m : ℕ) → (wish (Out byte) (out_plain byte) w m).by (Some OutputLimit) ≡ plays_on f.instructions m (answer_at code t s (Refused OutputLimit))) →
      TurnTells code t output (trap_at (answer_at code t s (Refused OutputLimit)).stage) (answer_at code t s (Refused OutputLimit)) output)
      (sym p.1)
      (λ goes m.
      let a = wish (Out byte) (out_plain byte) w m in
      a.seen ∙ seen_full code output byte a.by p.0 (le-ltb (length output) 1048576 full) (goes m))
      (λ m. (wish (Out byte) (out_plain byte) w m).then (Refused OutputLimit) (Some OutputLimit) refl)

  pub exit_tells : (new : Thread) (status : ℕ) → want_of t ≡ WantEvent (Exit status) → TurnTells code t output (Some (Exited status)) new output
  exit_tells new status w m =
      let e = exits_by t.stage status w in
      let a = wish (Exit status) (exit_plain status) w m in
      let ends : a.by tt ≡ halt_play (Finished (Exited status)) =
      a.then Done tt refl ∙ ap (λ (s : Stage). plays_on f.instructions m (answer_at code t s Done)) e in
      a.seen ∙ seen_exit code output status a.by (Exited status) ends

  -- ---- after the last turn

  ready_plays : (s : Stage) → IsReadyAt s → plays_at f.instructions 0 t s ≡ Stops Cut
  ready_plays (Acts op line) ready = refl
  ready_plays (PutsOut byte line) ready = refl
  ready_plays (Exits status) ready = refl
  ready_plays s ready = absurd ready

  pub spent_tells : seen_from code 0 t output ≡ seen_at_end output None
  spent_tells = seen_here code f 0 t output h.there ∙ (ap (λ p. seen_by code p output) (ready_plays t.stage r.stage) ∙ seen_cut code output)

-- ---- the first turn

-- the thread of `main` at its first instruction
record Begins (code : PlainCode) (main : Bool) : Type 0 where
  ready : IsReady code (thread_at code code.main main 0 first_registers)
  seen : (m : ℕ) → seen_from code m (thread_at code code.main main 0 first_registers) [] ≡ seen_by code (exec_called main (slice_get code.functions code.main) m) []

module _ (code : PlainCode) where
  begins : (main : Bool) → main ≡ true → main ≡ (code.main == code.main) → IsThreadOf code (thread_at code code.main main 0 first_registers) → Begins code main
  begins main is same h =
      let plays = λ (m : ℕ).
      subst (λ (b : Bool). plays_on h.running.instructions m (thread_at code code.main b 0 first_registers) ≡ exec_called b (slice_get code.functions code.main) m)
      (sym same) ((thread_follows code h.running h.formed).begins (main_start code) m h.there) in
      record {
        ready = comes_ready code code.main main 0 first_registers is h;
        seen = λ m. seen_here code h.running m (thread_at code code.main main 0 first_registers) [] h.there ∙ ap (λ p. seen_by code p []) (plays m);
      }

  history_seen : (m : ℕ) → seen_by code (exec_thread m code (main_start code)) [] ≡ observable_of_run m code
  unfolding seen_by
  history_seen m = refl

  begin_ready : IsThreadOf code (thread_after_begin code code.main) → Begins code (code.main == code.main)
  begin_ready h = begins (code.main == code.main) (eq-eqb code.main code.main refl) refl h

-- ---- as the calls say it

-- a turn that left this thread, these bytes and this end
pub turn_is :
    (code : PlainCode) (old : Thread) (before : List ℕ) (thread new : Thread) (output after : List ℕ) (end : Option Finish) → new ≡ thread → after ≡ output →
    end ≡ trap_at new.stage → TurnTells code old before (trap_at thread.stage) thread output → TurnTells code old before end new after
turn_is code old before thread new output after end is bytes ends h =
    let p = subst (λ (u : Thread). TurnTells code old before (trap_at u.stage) u output) (sym is) h in
    let q = subst (λ (o : List ℕ). TurnTells code old before (trap_at new.stage) new o) (sym bytes) p in
    subst (λ (e : Option Finish). TurnTells code old before e new after) (sym ends) q

-- before the first turn
pub begin_is :
    (code : PlainCode) (t : Thread) (output : List ℕ) (main : ℕ) → main ≡ code.main → t ≡ thread_after_begin code main → output ≡ [] → IsThreadOf code t →
    IsReady code t × ((m : ℕ) → seen_from code m t output ≡ observable_of_run m code)
begin_is code t output main is_main is empty h =
    let is' : thread_after_begin code code.main ≡ t = sym (is ∙ ap (λ (n : ℕ). thread_after_begin code n) is_main) in
    let b = begin_ready code (subst (IsThreadOf code) (sym is') h) in
    let seen = λ (m : ℕ). ap (λ (l : List ℕ). seen_from code m t l) empty ∙ (ap (λ (u : Thread). seen_from code m u []) (sym is') ∙ b.seen m ∙ history_seen code m) in
    (subst (IsReady code) is' b.ready, seen)

-- after the turn that ended the program
pub end_is :
    (code : PlainCode) (old new : Thread) (before after : List ℕ) (finish : Finish) (left : ℕ) (all : Observable) → 0 < left →
    TurnTells code old before (Some finish) new after → seen_from code left old before ≡ all → seen_at_end after (Some finish) ≡ all
end_is code old new before after finish left all some tells seen =
    let is : suc (left - 1) ≡ left = omega arith in
    sym (tells (left - 1)) ∙ (ap (λ (n : ℕ). seen_from code n old before) is ∙ seen)

-- after the last turn
pub spent_is :
    (code : PlainCode) (t : Thread) (output : List ℕ) (left : ℕ) (all : Observable) → left ≡ 0 → IsReady code t → seen_from code left t output ≡ all →
    seen_at_end output None ≡ all
spent_is code t output left all none ready seen =
    sym (spent_tells code t ready output) ∙ (ap (λ (n : ℕ). seen_from code n t output) (sym none) ∙ seen)
