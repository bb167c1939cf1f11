-- The code of a program plays it, in both directions.
--
-- A function's code runs its play to the end, so for each bound on rounds there is one on instructions (`follows`). The other
-- direction needs no induction of its own: of the code of m instructions and the code that follows the play with one
-- round more than jumps were made, either the first is a cut of the second, or the second is over (`settled`).
use Rattle.std.proofs.Common.{◌≡◌, ⊎_elim, ℕ, ◌+◌, ◌<◌, ◌≤◌, List, [], ◌∷◌, Option, Some, None, Bool, true, false, refl, sym, ap, ◌∙◌, subst, arith}
use Rattle.std.specs.Prelude.{slice_get, option_map, ◌==◌, All, if◌then◌else◌}
use Rattle.std.proofs.lemmas.Bool.{cases_lt}
use Rattle.std.proofs.lemmas.Option.{slice_get-map}
use Rattle.c_tree.specs.declared.program.FunctionDef.{FunctionDef}
use Rattle.c_tree.specs.Plain.{PlainProgram}
use Rattle.c_tree.specs.Fits.{IsProgram}
use Rattle.whole_code.specs.Plain.{PlainCode}
use Rattle.ideal_machine.specs.declared.value.Value.{Value}
use Rattle.ideal_machine.specs.declared.event.Answer.{Answer}
use Rattle.ideal_machine.specs.Play.{Finished, Waits, Cut, Log, fresh_log, Behaviour, Goes, Ends, log_of, run}
use Rattle.ideal_machine.specs.Phrases.{Start, leave}
use Rattle.ideal_machine.specs.Reaches.{IsLater, Reaches}
use Rattle.ideal_machine.proofs.Runs.{then_do, run_bind, later_self}
use Rattle.ideal_machine.proofs.Cuts.{cut_reaches, HasJumps, far_after}
use Rattle.tree_play.specs.TreePlay.{play_function, with_function, around_of, call_within, further_activations, play_first, play_thread, play}
use Rattle.tree_play.proofs.Far.{thread_far}
use Rattle.tree_play.proofs.More.{more_rounds}
use Rattle.whole_thread.specs.Standing.{first_registers}
use Rattle.whole_thread.specs.Act.{by_number}
use Rattle.whole_thread.specs.CodePlay.{exec_first, code_play, code_events}
use Rattle.expr_gen.specs.Stretch.{Bounded, from, ReturnsTo, IsWordAnswer}
use Rattle.stmt_gen.specs.Programs.{function_code, program_code}
use Rattle.stmt_gen.specs.Correct.{ProgramSwitchesFit, ProgramsPlay}
use Rattle.stmt_gen.proofs.Cuts.{code_cut}
use Rattle.stmt_gen.proofs.Calls.{site_of, function_returns, calls_run}

-- what a function returns to its thread
thread_end :
    (main : Bool) (K : Bounded) (w : Log) (o : Behaviour (Unit {0}) Value) → ReturnsTo K (λ v m. leave main v) w o →
    (m : ℕ) × (run (K m) w ≡ then_do o (λ _ v. run (leave main v)))
thread_end main K w (Goes s v w1) r = r 0
thread_end main K w (Ends e w1) r = r

-- a thread's first function isn't called at a line
no_line : (library : Bool) (line : Option ℕ) → (if library then line else line) ≡ line
no_line true line = refl
no_line false line = refl

module _ (program : PlainProgram) (is : IsProgram program) (numbers : ProgramSwitchesFit program) (start : Start) (answers : List Answer) (words : All IsWordAnswer answers) where
  abbrev w : Log
  w = fresh_log answers

  abbrev code : PlainCode
  code = program_code program

  abbrev main : Bool
  main = start.function == program.main

  first_follows :
      (n : ℕ) → 0 < n → (o : Option FunctionDef) → slice_get program.functions start.function ≡ o →
      (m : ℕ) × (run (exec_first code (by_number start) m (option_map function_code o)) w
      ≡ then_do (run (with_function o (λ f. play_function (around_of n program start None (call_within further_activations n program start)) f (start.argument ∷ []))) w) (λ _ v. run (leave main v)))
  first_follows n more None e = (0, refl)
  first_follows n more (Some f) e =
      let call = call_within further_activations n program start in
      let site = site_of program is numbers start n more [] start.function None f.library in
      let K = from site 0 (first_registers (function_code f) (start.argument ∷ [])) in
      thread_end main K w (run (play_function (around_of n program start None call) f (start.argument ∷ [])) w)
      (function_returns program is numbers start n more [] start.function None None call f (start.argument ∷ []) w e (no_line f.library None)
      (calls_run program is numbers start n more further_activations [] start.function None f.library (omega arith)) words)

  follows : (n : ℕ) → 0 < n → (m : ℕ) × (code_events m code (by_number start) answers ≡ play n program start answers)
  follows n more =
      let o = slice_get program.functions start.function in
      let r = first_follows n more o refl in (
        r.0,
        ap (λ c. run (exec_first code (by_number start) r.0 c) w) (slice_get-map function_code program.functions start.function)
            ∙ (r.1 ∙ sym (run_bind (play_first n program start) (λ _ v. leave main v) w)),
      )

  without_rounds : (m : ℕ) × Reaches (play 0 program start answers) (code_events m code (by_number start) answers)
  without_rounds =
      let r = follows 1 (omega arith) in
      (r.0, subst (Reaches (play 0 program start answers)) (sym r.1) (more_rounds 0 1 (omega arith) program start answers))

  -- two behaviours that are the same, and later
  reaches_same : (o p : Behaviour (Unit {0}) ℕ) → p ≡ o → IsLater (log_of o) (log_of p) → Reaches o p
  reaches_same (Goes s v w) p e later = e
  reaches_same (Ends (Finished f) w) p e later = e
  reaches_same (Ends Waits w) p e later = e
  reaches_same (Ends Cut w) p e later = later

  -- a is what the play comes to, b what the code comes to with more instructions: where a isn't cut they are the same,
  -- and a cut one would have made more backward jumps than b
  settled : (a b : Behaviour (Unit {0}) ℕ) (t : ℕ) → (log_of b).jumps < t → HasJumps t a → Reaches a b → b ≡ a
  settled (Goes s v w) b t lt far r = r
  settled (Ends (Finished f) w) b t lt far r = r
  settled (Ends Waits w) b t lt far r = r
  settled (Ends Cut w) b t lt far r = absurd (omega (arith, r.jumps, far, lt))

  backs :
      (m : ℕ) →
      Reaches (code_events m code (by_number start) answers) (play ((log_of (code_events m code (by_number start) answers)).jumps + 1) program start answers)
  backs m =
      let o = code_events m code (by_number start) answers in
      let n = (log_of o).jumps + 1 in
      let p = play n program start answers in
      let j = follows n (omega arith) in
      let cut = λ (a b : ℕ) (le : a ≤ b). cut_reaches (code_play a code (by_number start)) (code_play b code (by_number start)) w (code_cut code (by_number start) a b le) in
      ⊎_elim
      (λ lt.
      let le : j.0 ≤ m = omega arith in
      let r = subst (λ q. Reaches q o) j.1 (cut j.0 m le) in
      let none_yet : 0 + n ≡ n = omega arith in
      let far = subst (λ t. HasJumps t p) none_yet (far_after n (play_thread n program start) w (thread_far n program start)) in
      let same : o ≡ p = settled p o n (omega arith) far r in
      reaches_same o p (sym same) (subst (λ q. IsLater (log_of o) (log_of q)) same (later_self (log_of o))))
      (λ le. subst (λ q. Reaches o q) j.1 (cut m j.0 le))
      (cases_lt j.0 m)

pub programs_play : ProgramsPlay
programs_play program is numbers start answers words = record {
  of_play = follows program is numbers start answers words;
  of_no_round = without_rounds program is numbers start answers words;
  of_code = backs program is numbers start answers words;
}
