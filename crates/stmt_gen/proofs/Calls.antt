-- The code of functions runs their calls, to the depth that there is room for.
use Rattle.std.proofs.Common.{◌≡◌, ℕ, zero, suc, ◌+◌, ◌-◌, ◌<◌, List, [], ◌∷◌, ◌++◌, length, Option, Some, None, Bool, refl, sym, ap, ◌∙◌, subst, arith}
use Rattle.std.specs.Prelude.{slice_get, option_map, ◌==◌, if◌then◌else◌}
use Rattle.std.proofs.lemmas.List.Elements.{All-get_or}
use Rattle.std.proofs.lemmas.Option.{slice_get-map, slice_get_within, get_or_from_slice_get}
use Rattle.filc_num.specs.declared.reason.Reason.{Reason}
use Rattle.filc_num.specs.declared.reason.Reason.TheVariants.{CallDepth}
use Rattle.c_tree.specs.declared.program.FunctionDef.{FunctionDef}
use Rattle.c_tree.specs.Plain.{PlainProgram}
use Rattle.c_tree.specs.Fits.{FunctionFits, IsProgram, outline_of, body_context}
use Rattle.whole_code.specs.declared.op.Op.TheVariants.{Const, Return}
use Rattle.whole_code.specs.Plain.{PlainFunction}
use Rattle.ideal_machine.specs.declared.value.Value.{Value}
use Rattle.ideal_machine.specs.declared.finish.Finish.TheVariants.{Trapped}
use Rattle.ideal_machine.specs.declared.event.Event.TheVariants.{Trap}
use Rattle.ideal_machine.specs.Queries.{Makes}
use Rattle.ideal_machine.specs.Values.{State, zero_value, value_at, put_at}
use Rattle.ideal_machine.specs.Play.{Gives, Stops, Finished, Log, Behaviour, Goes, Ends, run}
use Rattle.ideal_machine.specs.Phrases.{Start, Phrase, trap, if_zero}
use Rattle.ideal_machine.proofs.Runs.{both_reply, then_do, run_bind}
use Rattle.ideal_machine.proofs.Values.{value_at-put_same}
use Rattle.tree_play.specs.Around.{Around, Flow, Normal, Broke, Continued, Returned}
use Rattle.tree_play.specs.Statements.{play_stmt}
use Rattle.tree_play.specs.TreePlay.{result_of, first_state, play_function, with_function, user_line_of, around_of, call_within}
use Rattle.whole_thread.specs.Standing.{Caller, further_activations, first_registers}
use Rattle.whole_thread.specs.Act.{by_number, caller_at, enters, returns, kinds_of}
use Rattle.whole_thread.specs.CodePlay.{exec}
use Rattle.expr_gen.specs.Operations.{at_line}
use Rattle.expr_gen.specs.Stretch.{Site, standing, around_at, Between, Bounded, from, Comes, Landing, Runs, ReturnsTo, HasWords, CallRuns}
use Rattle.expr_gen.proofs.Between.{front_at, back_at}
use Rattle.expr_gen.proofs.Stretch.{comes_on, Has, step, steps}
use Rattle.stmt_gen.specs.Code.{Exits, stmt_size, stmt_code}
use Rattle.stmt_gen.specs.Programs.{body_exits, body_code, function_code, program_code}
use Rattle.stmt_gen.specs.Correct.{SwitchesFit, StandAfter, Flowed, ProgramSwitchesFit}
use Rattle.stmt_gen.proofs.Sizes.{stmt_length}
use Rattle.stmt_gen.proofs.Statements.{statements_play}
use Rattle.stmt_gen.proofs.Stands.{function_there, body_stands, kinds_same, first_agree}

-- a trap on both sides
trap_returns :
    (K : Bounded) (leave : Value → Bounded) (reason : Reason) (line : ℕ) (w : Log) → run (K 0) w ≡ run (trap {S = Unit {0}} {A = ℕ} reason line) w →
    ReturnsTo K leave w (run (trap reason line) w)
trap_returns K leave reason line w e =
    let stop = Finished (Trapped reason line) in
    both_reply (λ o o'. run (K 0) w ≡ o → ReturnsTo K leave w o') (Makes (Trap reason line)) w.answers w (λ _. run (Stops stop)) (λ _. run (Stops stop)) (λ e. (0, e))
    (λ r rest e. (0, e)) e

-- where a return goes on
abbrev pub leaves : Site → Value → Bounded
leaves site v m = returns (site.start.function == site.code.main) (exec site.code (by_number site.start) m) site.callers v

module _ (site : Site) where
  return_comes : (index line r : ℕ) (v : Value) (regs : List Value) (w : Log) → Has site index line (Return r) → value_at regs r ≡ v → Comes (from site index regs) w (leaves site v) w
  return_comes index line r v regs w h e m = (suc m, ap (λ p. run p w) (step site index regs line (Return r) h m ∙ ap (λ x. leaves site x m) e))

  module _ (line k index to : ℕ) (has : Between site index (at_line site.library line (Const k 0) ∷ at_line site.library line (Return k) ∷ []) to) where
    -- the return of 0 at a body's end
    end_comes : (regs : List Value) (w : Log) → Comes (from site index regs) w (leaves site zero_value) w
    end_comes regs w =
        let regs1 = put_at regs k zero_value in
        comes_on (from site index regs) w (from site (index + 1) regs1) w (leaves site zero_value) w (steps site index regs w line (Const k 0) has.0)
        (return_comes (index + 1) line k zero_value regs1 w has.1.0 (value_at-put_same regs k zero_value))

    at_end : (at : ℕ) (regs : List Value) (w : Log) → at ≡ index → Comes (from site at regs) w (leaves site zero_value) w
    at_end at regs w e = subst (λ x. Comes (from site x regs) w (leaves site zero_value) w) (sym e) (end_comes regs w)

    -- after the body, by its flow
    flow_comes :
        (x : Exits) → x.broke ≡ index → x.continued ≡ index → (env : State) (f : Flow) (at : ℕ) (regs : List Value) (w : Log) → Flowed site k index x env f at regs →
        Comes (from site at regs) w (leaves site (result_of f)) w
    flow_comes x eb ec env Normal at regs w h = at_end at regs w h.0
    flow_comes x eb ec env Broke at regs w h = at_end at regs w (h.0 ∙ eb)
    flow_comes x eb ec env Continued at regs w h = at_end at regs w (h.0 ∙ ec)
    flow_comes x eb ec env (Returned v) at regs w h = return_comes at h.line h.register v regs w h.here h.value

  finish :
      (P : Landing State Flow) (K : Bounded) (w : Log) (o : Behaviour State Flow) → Runs site P K w o →
      ((env : State) (f : Flow) (at : ℕ) (regs : List Value) (w : Log) → P env f at regs → Comes (from site at regs) w (leaves site (result_of f)) w) →
      ReturnsTo K (leaves site) w (then_do o (λ _ f w1. Goes tt (result_of f) w1))
  finish P K w (Goes s f w1) r each = comes_on K w (from site r.index r.after) w1 (leaves site (result_of f)) w1 r.comes (each s f r.index r.after w1 r.holds)
  finish P K w (Ends e w1) r each = r

-- a function's code runs it, where that of those it calls runs them
function_runs :
    (program : PlainProgram) (site : Site) (rounds : ℕ) (call : (function line : ℕ) → List Value → Phrase Value) (f : FunctionDef) (arguments : List Value) (w : Log) →
    0 < rounds → CallRuns site call → FunctionFits (outline_of program) f → SwitchesFit f.body → HasWords w → site.library ≡ f.library →
    slice_get site.code.functions site.function ≡ Some (function_code f) →
    ReturnsTo (from site 0 (first_registers (function_code f) arguments)) (leaves site) w (run (play_function (around_at site rounds call) f arguments) w)
function_runs program site rounds call f arguments w more calls fits numbers words same there =
    let k = f.locals in
    let size = stmt_size f.body in
    let x = body_exits f in
    let around = around_at site rounds call in
    let env = first_state f arguments in
    let regs = first_registers (function_code f) arguments in
    let end = 0 + length (body_code f) in
    let P = Flowed site k (0 + size) x in
    let K = from site 0 regs in
    let code = λ (library : Bool). stmt_code library f.body k 0 x ++ at_line library f.line (Const k 0) ∷ at_line library f.line (Return k) ∷ [] in
    let cb = stmt_code site.library f.body k 0 x in
    let tail = at_line site.library f.line (Const k 0) ∷ at_line site.library f.line (Return k) ∷ [] in
    let has : Between site 0 (cb ++ tail) end = subst (λ library. Between site 0 (code library) end) (sym same) (body_stands site f there) in
    let l0 = stmt_length site.library f.body k 0 x in
    let after : StandAfter x (0 + size) = record { broke = omega arith; continued = omega arith } in
    subst (ReturnsTo K (leaves site) w) (sym (run_bind (play_stmt around f.body env) (λ _ flow. Gives tt (result_of flow)) w))
    (finish site P K w (run (play_stmt around f.body env) w)
    (statements_play site rounds call more calls (outline_of program) (body_context f) f.body 0 (0 + size) x regs env w fits.body numbers words after
    (front_at site 0 size cb tail end l0 has) (first_agree f arguments (omega (arith, fits.needed))))
    (λ env1 flow at regs1 w1 h. flow_comes site f.line k (0 + size) end (back_at site 0 size cb tail end l0 has) x (omega arith) (omega arith) env1 flow at regs1 w1 h))

module _ (program : PlainProgram) (is : IsProgram program) (numbers : ProgramSwitchesFit program) (start : Start) (rounds : ℕ) (more : 0 < rounds) where
  abbrev pub site_of : List Caller → (function : ℕ) → Option ℕ → (library : Bool) → Site
  site_of callers function called_at library = record {
    code = program_code program;
    start = start;
    callers = callers;
    function = function;
    called_at = called_at;
    library = library;
  }

  abbrev around_with : ((function line : ℕ) → List Value → Phrase Value) → (kinds : List ℕ) → (user_line : Option ℕ) → Around
  around_with call kinds user_line =
      record { rounds = rounds; id = start.id; base = start.base; kinds = kinds; user_line = user_line; call = call }

  -- the text of an activation knows the same as its site
  pub function_returns :
      (callers : List Caller) (function : ℕ) (called_at user_line : Option ℕ) (call : (function line : ℕ) → List Value → Phrase Value) (f : FunctionDef) (arguments : List Value) (w : Log) →
      slice_get program.functions function ≡ Some f → (if f.library then called_at else None) ≡ user_line → CallRuns (site_of callers function called_at f.library) call → HasWords w →
      ReturnsTo (from (site_of callers function called_at f.library) 0 (first_registers (function_code f) arguments)) (leaves (site_of callers function called_at f.library)) w
      (run (play_function (around_of rounds program start user_line call) f arguments) w)
  function_returns callers function called_at user_line call f arguments w e line calls words =
      let site = site_of callers function called_at f.library in
      let K = from site 0 (first_registers (function_code f) arguments) in
      let fits = subst (FunctionFits (outline_of program)) (get_or_from_slice_get program.functions function f f e)
      (All-get_or (FunctionFits (outline_of program)) program.functions function f (slice_get_within program.functions function f e) is.functions) in
      let fine = subst (λ (f : FunctionDef). SwitchesFit f.body) (get_or_from_slice_get program.functions function f f e)
      (All-get_or (λ (f : FunctionDef). SwitchesFit f.body) program.functions function f (slice_get_within program.functions function f e) numbers) in
      subst (λ kinds. ReturnsTo K (leaves site) w (run (play_function (around_with call kinds user_line) f arguments) w)) (kinds_same program)
      (subst (λ l. ReturnsTo K (leaves site) w (run (play_function (around_with call (kinds_of (program_code program)) l) f arguments) w)) line
      (function_runs program site rounds call f arguments w more calls fits fine words refl (function_there program function f e)))

  -- a call in an activation enters its function, where there is room for one more
  pub calls_run :
      (depth : ℕ) (callers : List Caller) (function : ℕ) (called_at : Option ℕ) (library : Bool) → further_activations - length callers ≡ depth →
      CallRuns (site_of callers function called_at library) (call_within depth rounds program start)
  calls_run zero callers function called_at library e g line arguments index d regs w words =
      let site = site_of callers function called_at library in
      let leave = λ (v : Value). from site (index + 1) (put_at regs d v) in
      let enter = λ (m : ℕ). enters (exec site.code (by_number start) m) (standing site index regs) line d g arguments (slice_get site.code.functions g) in
      subst (λ n. ReturnsTo (λ m. if_zero n (trap CallDepth line) (enter m)) leave w (run (trap CallDepth line) w)) (sym e)
      (trap_returns (λ m. trap CallDepth line) leave CallDepth line w refl)
  calls_run (suc depth) callers function called_at library e g line arguments index d regs w words =
      let site = site_of callers function called_at library in
      let leave = λ (v : Value). from site (index + 1) (put_at regs d v) in
      let at = standing site index regs in
      let enter = λ (o : Option PlainFunction) (m : ℕ). enters (exec site.code (by_number start) m) at line d g arguments o in
      let play = run (call_within (suc depth) rounds program start g line arguments) w in
      subst (λ n. ReturnsTo (λ m. if_zero n (trap CallDepth line) (enter (slice_get site.code.functions g) m)) leave w play) (sym e)
      (subst (λ o. ReturnsTo (enter o) leave w play) (sym (slice_get-map function_code program.functions g))
      (entered (slice_get program.functions g) refl
      (λ (f : FunctionDef). calls_run depth (caller_at at d ∷ callers) g (Some line) f.library (omega (arith, e))))) where
        entered :
            (o : Option FunctionDef) → slice_get program.functions g ≡ o →
            ((f : FunctionDef) → CallRuns (site_of (caller_at (standing (site_of callers function called_at library) index regs) d ∷ callers) g (Some line) f.library) (call_within depth rounds program start)) →
            ReturnsTo
            (λ m. enters (exec (program_code program) (by_number start) m) (standing (site_of callers function called_at library) index regs) line d g arguments (option_map function_code o))
            (λ v. from (site_of callers function called_at library) (index + 1) (put_at regs d v)) w
            (run (with_function o (λ f. play_function (around_of rounds program start (user_line_of f line) (call_within depth rounds program start)) f arguments)) w)
        entered None e1 deeper = (0, refl)
        entered (Some f) e1 deeper =
            function_returns (caller_at (standing (site_of callers function called_at library) index regs) d ∷ callers) g (Some line) (user_line_of f line)
            (call_within depth rounds program start) f arguments w e1 refl (deeper f) words
