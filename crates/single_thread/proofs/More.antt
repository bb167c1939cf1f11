-- A run of more instructions goes on from one of fewer, and makes nothing once the program has ended.
use Rattle.std.proofs.Common.{◌≡◌, ℕ, ◌+◌, [], ◌∷◌, ◌++◌, length, true, false, Option, Some, None, refl, sym, ap, subst, arith}
use Rattle.std.specs.Prelude.{IsSome, nat_lt}
use Rattle.filc_num.specs.declared.reason.Reason.TheVariants.{OutputLimit}
use Rattle.ideal_machine.specs.declared.event.Event.{Event}
use Rattle.ideal_machine.specs.declared.event.Event.TheVariants.{Out, Exit, Trap}
use Rattle.ideal_machine.specs.declared.event.Answer.{Answer}
use Rattle.ideal_machine.specs.declared.event.Answer.TheVariants.{Refused, Done}
use Rattle.ideal_machine.specs.Memory.{Memory, World}
use Rattle.ideal_machine.specs.Queries.{Query, Makes, Reply, reply_to, event_of, wish_of}
use Rattle.ideal_machine.specs.Play.{Gives, Stops, Asks, Jump, Call, Finished, Waits, Cut, by_reply}
use Rattle.ideal_machine.specs.Phrases.{Phrase}
use Rattle.ideal_machine.proofs.Cuts.{IsCutOf}
use Rattle.form_play.specs.Legal.{History}
use Rattle.form_play.specs.Observable.{finish_of}
use Rattle.code_thread.specs.Exec.{exec_thread}
use Rattle.code_thread.proofs.Cuts.{thread_cut}
use Rattle.single_thread.specs.Alone.{answer_of, entry_of, memory_with, made_by, main_start, main_begin, memory_after_begin}
use Rattle.single_thread.specs.Runs.{RunsGoOn, RunsEnd}
use Rattle.single_thread.proofs.Lone.{IsOver, IsLone, thread_lone}
use Rattle.single_thread.proofs.Gained.{by_room, out_made}

module _ (world : World) where
  -- the second history is the first and more
  abbrev GoesOn : History → History → Type 0
  GoesOn made made' = (more : History) × (made' ≡ made ++ more)

  asks_on :
      (q : Query) (next next' : Reply q → Phrase ℕ) (memory : Memory) (answer : Answer) (o : Option (Reply q)) →
      ((r : Reply q) → GoesOn (made_by world (next r) (memory_with memory (event_of q r) answer)) (made_by world (next' r) (memory_with memory (event_of q r) answer))) →
      GoesOn (by_reply o [] (λ r. entry_of (event_of q r) answer ∷ made_by world (next r) (memory_with memory (event_of q r) answer)))
      (by_reply o [] (λ r. entry_of (event_of q r) answer ∷ made_by world (next' r) (memory_with memory (event_of q r) answer)))
  asks_on q next next' memory answer None each = ([], refl)
  asks_on q next next' memory answer (Some r) each = let more = each r in (more.0, ap (λ l. entry_of (event_of q r) answer ∷ l) more.1)

  goes_on : (p p' : Phrase ℕ) (memory : Memory) → IsCutOf p p' → GoesOn (made_by world p memory) (made_by world p' memory)
  goes_on (Gives s v) p' memory h = ([], ap (λ q. made_by world q memory) h)
  goes_on (Stops Cut) p' memory h = (made_by world p' memory, refl)
  goes_on (Stops (Finished f)) p' memory h = ([], ap (λ q. made_by world q memory) h)
  goes_on (Stops Waits) p' memory h = ([], ap (λ q. made_by world q memory) h)
  goes_on (Asks q next) p' memory h =
      let answer = answer_of world memory (wish_of q) in
      subst (λ x. GoesOn (made_by world (Asks q next) memory) (made_by world x memory)) (sym h.1)
      (asks_on q next h.0 memory answer (reply_to q answer) (λ r. goes_on (next r) (h.0 r) (memory_with memory (event_of q r) answer) (h.2 r)))
  goes_on (Jump p) p' memory h =
      subst (λ x. GoesOn (made_by world p memory) (made_by world x memory)) (sym h.1) (goes_on p h.0 memory h.2)
  goes_on (Call p) p' memory h =
      subst (λ x. GoesOn (made_by world p memory) (made_by world x memory)) (sym h.1) (goes_on p h.0 memory h.2)

  -- a play that is over is no cut
  over_same : (p p' : Phrase ℕ) → IsOver p → IsCutOf p p' → p' ≡ p
  over_same (Stops (Finished f)) p' over h = h
  over_same p p' over h = absurd over

  -- an event that is done, and ends the program
  done_same :
      (e : Event) (next next' : Phrase ℕ) (memory : Memory) → IsOver next → IsCutOf next next' →
      entry_of e Done ∷ made_by world next' (memory_with memory e Done) ≡ entry_of e Done ∷ made_by world next (memory_with memory e Done)
  done_same e next next' memory over h = ap (λ p. entry_of e Done ∷ made_by world p (memory_with memory e Done)) (over_same next next' over h)

  -- once the program has ended, a play that goes on makes the same
  abbrev EndsSo : History → History → Type 0
  EndsSo made made' = IsSome (finish_of made) → made' ≡ made

  end_same : (p p' : Phrase ℕ) → IsLone p → (memory : Memory) → IsCutOf p p' → EndsSo (made_by world p memory) (made_by world p' memory)
  end_same (Gives s v) p' lone memory h some = let no : false ≡ true = some in cc
  end_same (Stops e) p' lone memory h some = let no : false ≡ true = some in cc
  end_same (Asks (Makes (Out byte)) next) p' lone memory h some =
      subst (λ x. EndsSo (made_by world (Asks (Makes (Out byte)) next) memory) (made_by world x memory)) (sym h.1)
      (by_room (λ room. EndsSo (out_made world byte next memory room) (out_made world byte h.0 memory room))
      (λ some. ap (λ l. entry_of (Out byte) Done ∷ l) (end_same (next None) (h.0 None) (lone None) _ (h.2 None) some))
      (λ some. ap (λ l. entry_of (Out byte) (Refused OutputLimit) ∷ l) (end_same (next (Some _)) (h.0 (Some _)) (lone (Some _)) _ (h.2 (Some _)) some))
      (nat_lt (length memory.output) world.output)) some
  end_same (Asks (Makes (Exit status)) next) p' lone memory h some =
      subst (λ x. made_by world x memory ≡ made_by world (Asks (Makes (Exit status)) next) memory) (sym h.1)
      (done_same (Exit status) (next tt) (h.0 tt) memory lone (h.2 tt))
  end_same (Asks (Makes (Trap reason line)) next) p' lone memory h some =
      subst (λ x. made_by world x memory ≡ made_by world (Asks (Makes (Trap reason line)) next) memory) (sym h.1)
      (done_same (Trap reason line) (next tt) (h.0 tt) memory lone (h.2 tt))
  end_same (Asks q next) p' lone memory h some = absurd lone
  end_same (Jump p) p' lone memory h some =
      subst (λ x. made_by world x memory ≡ made_by world p memory) (sym h.1) (end_same p h.0 lone memory h.2 some)
  end_same (Call p) p' lone memory h some =
      subst (λ x. made_by world x memory ≡ made_by world p memory) (sym h.1) (end_same p h.0 lone memory h.2 some)

pub runs_go_on : RunsGoOn
runs_go_on world code m k =
    let start = main_start code in
    let r = goes_on world (exec_thread m code start) (exec_thread (m + k) code start) (memory_after_begin world code) (thread_cut code start m (m + k) (omega arith)) in
    (r.0, ap (λ l. main_begin code ∷ l) r.1)

pub runs_end : RunsEnd
runs_end world code m k some =
    let start = main_start code in
    ap (λ l. main_begin code ∷ l)
    (end_same world (exec_thread m code start) (exec_thread (m + k) code start) (thread_lone m code) (memory_after_begin world code) (thread_cut code start m (m + k) (omega arith)) some)
