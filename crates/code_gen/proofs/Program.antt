-- The code of a program plays it, in both directions.
--
-- A function's code runs its play to the end, so for each n there is an m (`follows`). The other direction needs no
-- induction of its own: of the run of m instructions and the one that follows the play with one round more than
-- it made jumps, either the first is a cut of the second, or the second is over (`settled`).
use Rattle.std.proofs.Common.{◌≡◌, ⊎_elim, ℕ, zero, suc, ◌+◌, ◌<◌, ◌≤◌, List, [], ◌∷◌, length, Option, Some, None, Bool, refl, sym, ap, ◌∙◌, subst, arith}
use Rattle.std.specs.Prelude.{slice_get, option_map, replicate, ◌==◌}
use Rattle.std.proofs.lemmas.Bool.{cases_lt}
use Rattle.std.proofs.lemmas.List.Elements.{All-get_or}
use Rattle.std.proofs.lemmas.Option.{slice_get-map, slice_get_within, get_or_from_slice_get}
use Rattle.filc_num.specs.declared.registers.TheConstants.{REGISTERS}
use Rattle.form_tree.specs.declared.program.FunctionDef.{FunctionDef}
use Rattle.form_tree.specs.Plain.{PlainProgram}
use Rattle.form_tree.specs.Fits.{FunctionFits, IsProgram}
use Rattle.filc_code.specs.declared.op.Op.TheVariants.{Const, Return as ReturnOp}
use Rattle.ideal_machine.specs.declared.value.Value.{Value}
use Rattle.ideal_machine.specs.declared.event.Answer.{Answer}
use Rattle.ideal_machine.specs.Values.{State, zero_value, value_at, put_at}
use Rattle.ideal_machine.specs.Play.{Finished, Waits, Cut, Gives, Log, fresh_log, Behaviour, Goes, Ends, log_of, run}
use Rattle.ideal_machine.specs.Phrases.{Start, leave}
use Rattle.ideal_machine.specs.Reaches.{IsLater, Reaches}
use Rattle.ideal_machine.proofs.Runs.{then_do, run_bind, later_self}
use Rattle.ideal_machine.proofs.Cuts.{cut_reaches, HasJumps, far_after}
use Rattle.ideal_machine.proofs.Values.{value_at-put_same}
use Rattle.form_play.specs.FormPlay.{Around, Flow, Normal, Broke, Continued, Returned, play_stmt, result_of, play_function, play_called, around_of, play_thread, play}
use Rattle.form_play.proofs.Far.{thread_far}
use Rattle.code_thread.specs.Exec.{first_registers, exec, exec_called, exec_thread, code_events}
use Rattle.code_thread.proofs.Cuts.{thread_cut}
use Rattle.code_gen.specs.Code.{at_line, stmt_code, body_code, function_code, program_code}
use Rattle.code_gen.specs.Correct.{CodePlays}
use Rattle.code_gen.proofs.Between.{Between, front, back, stands_all}
use Rattle.code_gen.proofs.Registers.{Agree}
use Rattle.code_gen.proofs.Stretch.{Site, Bounded, from, Comes, comes_on, Runs, step, steps}
use Rattle.code_gen.proofs.Statements.{Flowed, stmt_runs}

-- ---- a function

zeros_at : (n x : ℕ) → value_at (replicate n zero_value) x ≡ zero_value
zeros_at zero x = refl
zeros_at (suc n) zero = refl
zeros_at (suc n) (suc x) = zeros_at n x

first_zeros : (x : ℕ) → value_at first_registers x ≡ zero_value
unfolding first_registers
first_zeros x = zeros_at REGISTERS x

-- code runs a function: it comes to the return of the function's value
abbrev ReturnsTo : Bool → Bounded → Log → Behaviour (Unit {0}) Value → Type 0
ReturnsTo main K w (Goes s v w1) = Comes K w (λ m. leave main v) w1
ReturnsTo main K w (Ends e w1) = (j : ℕ) × (run (K j) w ≡ Ends e w1)

module _ (site : Site) where
  return_comes :
      (line a : ℕ) (v : Value) (pc : ℕ) (regs : List Value) (w : Log) → slice_get site.code pc ≡ Some (at_line line (ReturnOp a)) → value_at regs a ≡ v →
      Comes (from site pc regs) w (λ m. leave site.main v) w
  return_comes line a v pc regs w h e m = (suc m, ap (λ p. run p w) (step site pc regs (at_line line (ReturnOp a)) h m ∙ ap (λ x. leave site.main x) e))

  -- the return of 0 at a body's end
  end_comes :
      (line k pc pc2 : ℕ) (regs : List Value) (w : Log) → Between site.code pc (at_line line (Const k 0) ∷ (at_line line (ReturnOp k) ∷ [])) pc2 →
      Comes (from site pc regs) w (λ m. leave site.main zero_value) w
  end_comes line k pc pc2 regs w has =
      comes_on (from site pc regs) w (from site (pc + 1) (put_at regs k zero_value)) w (λ m. leave site.main zero_value) w
      (steps site pc regs w (at_line line (Const k 0)) has.0)
      (return_comes line k zero_value (pc + 1) (put_at regs k zero_value) w has.1.0 (value_at-put_same regs k zero_value))

  -- after the body, by its flow
  flow_comes :
      (line k pc pc2 : ℕ) (env : State) (f : Flow) (at : ℕ) (regs : List Value) (w : Log) → Between site.code pc (at_line line (Const k 0) ∷ (at_line line (ReturnOp k) ∷ [])) pc2 →
      Flowed site k pc env f at regs → Comes (from site at regs) w (λ m. leave site.main (result_of f)) w
  flow_comes line k pc pc2 env Normal at regs w has h = subst (λ x. Comes (from site x regs) w (λ m. leave site.main zero_value) w) (sym h.0) (end_comes line k pc pc2 regs w has)
  flow_comes line k pc pc2 env Broke at regs w has h = absurd h
  flow_comes line k pc pc2 env Continued at regs w has h = absurd h
  flow_comes line k pc pc2 env (Returned v) at regs w has h = return_comes h.line h.a v at regs w h.here h.value

  body_returns :
      (k pc : ℕ) (K : Bounded) (w : Log) (o : Behaviour State Flow) → Runs site (Flowed site k pc) K w o →
      ((env : State) (f : Flow) (at : ℕ) (regs : List Value) (w1 : Log) → Flowed site k pc env f at regs → Comes (from site at regs) w1 (λ m. leave site.main (result_of f)) w1) →
      ReturnsTo site.main K w (then_do o (λ _ f w1. Goes tt (result_of f) w1))
  body_returns k pc K w (Goes s f w1) r each = comes_on K w (from site r.index r.after) w1 (λ m. leave site.main (result_of f)) w1 r.comes (each s f r.index r.after w1 r.holds)
  body_returns k pc K w (Ends e w1) r each = r

-- a function's code runs it
function_returns :
    (main : Bool) (around : Around) (f : FunctionDef) (w : Log) → FunctionFits f →
    ReturnsTo main (λ m. exec main (body_code f) m 0 first_registers) w (run (play_function around f) w)
function_returns main around f w fits =
    let k = f.locals in
    let code = body_code f in
    let site : Site = record { main = main; code = code } in
    let cs = stmt_code f.body k 0 in
    let tail = at_line f.line (Const k 0) ∷ (at_line f.line (ReturnOp k) ∷ []) in
    let pc2 = 0 + length code in
    let env = replicate k zero_value in
    let has = stands_all code [] in
    let agree : Agree k first_registers env = record { same = λ x _. first_zeros x ∙ sym (zeros_at k x) } in
    let K = from site 0 first_registers in
    subst (ReturnsTo main K w) (sym (run_bind (play_stmt around f.body env) (λ _ flow. Gives tt (result_of flow)) w))
    (body_returns site k (0 + length cs) K w (run (play_stmt around f.body env) w)
    (stmt_runs site k around f.body 0 (0 + length cs) fits.body (front code 0 cs tail pc2 has) env first_registers w agree)
    (λ env1 flow at regs w1 h. flow_comes site f.line k (0 + length cs) pc2 env1 flow at regs w1 (back code 0 cs tail pc2 has) h))

-- ---- a thread

-- what a function returns to its thread
thread_end :
    (main : Bool) (K : Bounded) (w : Log) (o : Behaviour (Unit {0}) Value) → ReturnsTo main K w o → (m : ℕ) × (run (K m) w ≡ then_do o (λ _ v. run (leave main v)))
thread_end main K w (Goes s v w1) r = r 0
thread_end main K w (Ends e w1) r = r

called_follows :
    (main : Bool) (around : Around) (w : Log) (o : Option FunctionDef) → ((f : FunctionDef) → o ≡ Some f → FunctionFits f) →
    (m : ℕ) × (run (exec_called main (option_map function_code o) m) w ≡ then_do (run (play_called around o) w) (λ _ v. run (leave main v)))
called_follows main around w None fits = (0, refl)
called_follows main around w (Some f) fits =
    thread_end main (λ m. exec main (body_code f) m 0 first_registers) w (run (play_function around f) w) (function_returns main around f w (fits f refl))

module _ (program : PlainProgram) (is : IsProgram program) (start : Start) (answers : List Answer) where
  abbrev w : Log
  w = fresh_log answers

  abbrev main : Bool
  main = start.function == program.main

  follows : (n : ℕ) → (m : ℕ) × (code_events m (program_code program) start answers ≡ play n program start answers)
  follows n =
      let o = slice_get program.functions start.function in
      let fits : (f : FunctionDef) → o ≡ Some f → FunctionFits f = λ f e.
      subst FunctionFits (get_or_from_slice_get program.functions start.function f f e)
      (All-get_or FunctionFits program.functions start.function f (slice_get_within program.functions start.function f e) is.functions) in
      let r = called_follows main (around_of n start) w o fits in (
        r.0,
        ap (λ c. run (exec_called main c r.0) w) (slice_get-map function_code program.functions start.function)
            ∙ (r.1 ∙ sym (run_bind (play_called (around_of n start) o) (λ _ v. leave main v) w)),
      )

  -- two behaviours that are the same, and later
  reaches_same : (o p : Behaviour (Unit {0}) ℕ) → p ≡ o → IsLater (log_of o) (log_of p) → Reaches o p
  reaches_same (Goes s v w) p e later = e
  reaches_same (Ends (Finished f) w) p e later = e
  reaches_same (Ends Waits w) p e later = e
  reaches_same (Ends Cut w) p e later = later

  -- a is what the play comes to, b what the code comes to with more instructions: where a isn't cut they are the same,
  -- and a cut one would have made more backward jumps than b
  settled : (a b : Behaviour (Unit {0}) ℕ) (t : ℕ) → (log_of b).jumps < t → HasJumps t a → Reaches a b → b ≡ a
  settled (Goes s v w) b t lt far r = r
  settled (Ends (Finished f) w) b t lt far r = r
  settled (Ends Waits w) b t lt far r = r
  settled (Ends Cut w) b t lt far r = absurd (omega (arith, r.jumps, far, lt))

  backs :
      (m : ℕ) → Reaches (code_events m (program_code program) start answers) (play ((log_of (code_events m (program_code program) start answers)).jumps + 1) program start answers)
  backs m =
      let code = program_code program in
      let o = code_events m code start answers in
      let n = (log_of o).jumps + 1 in
      let p = play n program start answers in
      let j = follows n in
      let cut = λ (a b : ℕ) (le : a ≤ b). cut_reaches (exec_thread a code start) (exec_thread b code start) w (thread_cut code start a b le) in
      ⊎_elim
      (λ lt.
      let le : j.0 ≤ m = omega arith in
      let r = subst (λ q. Reaches q o) j.1 (cut j.0 m le) in
      let none_yet : 0 + n ≡ n = omega arith in
      let far = subst (λ t. HasJumps t p) none_yet (far_after n (play_thread n program start) w (thread_far n program start)) in
      let same : o ≡ p = settled p o n (omega arith) far r in
      reaches_same o p (sym same) (subst (λ q. IsLater (log_of o) (log_of q)) same (later_self (log_of o))))
      (λ le. subst (λ q. Reaches o q) j.1 (cut m j.0 le))
      (cases_lt j.0 m)

pub code_plays : CodePlays
code_plays program is start answers = record { of_play = follows program is start answers; of_code = backs program is start answers }
