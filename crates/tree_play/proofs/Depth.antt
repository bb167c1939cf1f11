-- How deep a function calls itself: by induction on the room for activations, and not by making 1,024 calls.
use Rattle.std.proofs.Common.{◌≡◌, ℕ, zero, suc, ◌+◌, ◌≤◌, List, [], ◌∷◌, ◌++◌, true, refl, ap, ◌∙◌, arith, append_assoc}
use Rattle.std.specs.Prelude.{replicate}
use Rattle.filc_num.specs.declared.reason.Reason.TheVariants.{CallDepth}
use Rattle.ideal_machine.specs.declared.value.Value.{Value}
use Rattle.ideal_machine.specs.declared.finish.Finish.TheVariants.{Exited, Trapped}
use Rattle.ideal_machine.specs.declared.event.Event.{Event}
use Rattle.ideal_machine.specs.declared.event.Event.TheVariants.{Input, Trap}
use Rattle.ideal_machine.specs.declared.event.Answer.{Answer}
use Rattle.ideal_machine.specs.declared.event.Answer.TheVariants.{Done, Number}
use Rattle.ideal_machine.specs.Values.{State, integer}
use Rattle.ideal_machine.specs.Play.{Stop, Finished, Play, Gives, bind, Log, fresh_log, Goes, Ends, run}
use Rattle.ideal_machine.specs.Phrases.{Phrase, leave}
use Rattle.ideal_machine.proofs.Runs.{then_do, run_bind}
use Rattle.tree_play.specs.Around.{Flow, Returned, TextPlay}
use Rattle.tree_play.specs.Statements.{on_normal}
use Rattle.tree_play.specs.TreePlay.{result_of, call_within, play_first}
use Rattle.tree_play.specs.Worked.Depth.{deep, deep_start, DepthIsReached, DepthIsPassed}

-- ---- what follows a play that gives a value, or stops

goes_on :
    {S A T B : Type 0} (p : Play S A) (go : S → A → Play T B) (w : Log) (s : S) (v : A) (w' : Log) → run p w ≡ Goes s v w' →
    run (bind p go) w ≡ run (go s v) w'
goes_on p go w s v w' e = run_bind p go w ∙ ap (λ o. then_do o (λ s v. run (go s v))) e

stops_there :
    {S A T B : Type 0} (p : Play S A) (go : S → A → Play T B) (w : Log) (stop : Stop) (w' : Log) → run p w ≡ Ends stop w' →
    run (bind p go) w ≡ Ends stop w'
stops_there p go w stop w' e = run_bind p go w ∙ ap (λ o. then_do o (λ s v. run (go s v))) e

-- `return f();` with this call, in a body that goes on otherwise
abbrev returning : Phrase Value → (State → TextPlay Flow) → Phrase Value
returning call next =
    bind (bind (bind (bind call (λ _ v. Gives [] v)) (λ state v. Gives state (Returned v))) (on_normal next)) (λ _ flow. Gives tt (result_of flow))

returns_it : (call : Phrase Value) (next : State → TextPlay Flow) (w : Log) (v : Value) (w' : Log) → run call w ≡ Goes tt v w' → run (returning call next) w ≡ Goes tt v w'
returns_it call next w v w' e =
    let a = goes_on call (λ _ v. Gives [] v) w tt v w' e in
    let b = goes_on (bind call (λ _ v. Gives [] v)) (λ state v. Gives state (Returned v)) w [] v w' a in
    let c = goes_on (bind (bind call (λ _ v. Gives [] v)) (λ state v. Gives state (Returned v))) (on_normal next) w [] (Returned v) w' b in
    goes_on (bind (bind (bind call (λ _ v. Gives [] v)) (λ state v. Gives state (Returned v))) (on_normal next)) (λ _ flow. Gives tt (result_of flow)) w [] (Returned v) w' c

stops_it : (call : Phrase Value) (next : State → TextPlay Flow) (w : Log) (stop : Stop) (w' : Log) → run call w ≡ Ends stop w' → run (returning call next) w ≡ Ends stop w'
stops_it call next w stop w' e =
    let a = stops_there call (λ _ v. Gives [] v) w stop w' e in
    let b = stops_there (bind call (λ _ v. Gives [] v)) (λ state v. Gives state (Returned v)) w stop w' a in
    let c = stops_there (bind (bind call (λ _ v. Gives [] v)) (λ state v. Gives state (Returned v))) (on_normal next) w stop w' b in
    stops_there (bind (bind (bind call (λ _ v. Gives [] v)) (λ state v. Gives state (Returned v))) (on_normal next)) (λ _ flow. Gives tt (result_of flow)) w stop w' c

-- ---- logs

abbrev log : List Answer → List Event → ℕ → ℕ → Log
log answers events jumps calls = record { answers = answers; events = events; jumps = jumps; calls = calls }

same_log : (answers : List Answer) (a b : List Event) (jumps c d : ℕ) → a ≡ b → c ≡ d → log answers a jumps c ≡ log answers b jumps d
same_log answers a b jumps c d e f = ap (λ events. log answers events jumps c) e ∙ ap (λ calls. log answers b jumps calls) f

-- ---- calls

-- with room for as many calls it returns
within :
    (n room calls line : ℕ) → calls ≤ room → (rest : List Answer) (events : List Event) (jumps before : ℕ) →
    run (call_within (suc room) n deep deep_start 0 line []) (log (replicate calls (Number 1) ++ Number 0 ∷ rest) events jumps before)
    ≡ Goes tt (integer 0) (log rest (events ++ replicate (suc calls) Input) jumps (before + calls))
within n room zero line le rest events jumps before =
    ap (λ l. Goes tt (integer 0) l) (same_log rest _ _ jumps before (before + 0) refl (omega arith))
within n zero (suc calls) line le rest events jumps before = absurd (omega (arith, le))
within n (suc room) (suc calls) line le rest events jumps before =
    let w = log (replicate calls (Number 1) ++ Number 0 ∷ rest) (events ++ Input ∷ []) jumps (before + 1) in
    let deeper = within n room calls 1 (omega (arith, le)) rest (events ++ Input ∷ []) jumps (before + 1) in
    returns_it (call_within (suc room) n deep deep_start 0 1 []) _ w (integer 0) _ deeper
    ∙ ap (λ l. Goes tt (integer 0) l)
    (same_log rest _ _ jumps _ _ (append_assoc events (Input ∷ []) (replicate (suc calls) Input)) (omega arith))

-- with room for one less the last one traps
passed :
    (n room line : ℕ) (rest : List Answer) (events : List Event) (jumps before : ℕ) →
    run (call_within (suc room) n deep deep_start 0 line []) (log (replicate (suc room) (Number 1) ++ Done ∷ rest) events jumps before)
    ≡ Ends (Finished (Trapped CallDepth 1)) (log rest (events ++ (replicate (suc room) Input ++ Trap CallDepth 1 ∷ [])) jumps (before + suc room))
passed n zero line rest events jumps before =
    ap (λ l. Ends (Finished (Trapped CallDepth 1)) l) (same_log rest _ _ jumps _ _ (append_assoc events (Input ∷ []) (Trap CallDepth 1 ∷ [])) (omega arith))
passed n (suc room) line rest events jumps before =
    let w = log (replicate (suc room) (Number 1) ++ Done ∷ rest) (events ++ Input ∷ []) jumps (before + 1) in
    let deeper = passed n room 1 rest (events ++ Input ∷ []) jumps (before + 1) in
    stops_it (call_within (suc room) n deep deep_start 0 1 []) _ w (Finished (Trapped CallDepth 1)) _ deeper
    ∙ ap (λ l. Ends (Finished (Trapped CallDepth 1)) l)
    (same_log rest _ _ jumps _ _ (append_assoc events (Input ∷ []) (replicate (suc room) Input ++ Trap CallDepth 1 ∷ [])) (omega arith))

pub depth_is_reached : DepthIsReached
depth_is_reached n calls le =
    let answers = replicate calls (Number 1) ++ Number 0 ∷ Done ∷ [] in
    goes_on (play_first n deep deep_start) (λ _ v. leave true v) (fresh_log answers) tt (integer 0) _ (within n 1023 calls 1 le (Done ∷ []) [] 0 0)
    ∙ ap (λ l. Ends (Finished (Exited 0)) l) (same_log [] _ _ 0 _ _ refl (omega arith))

pub depth_is_passed : DepthIsPassed
depth_is_passed n =
    let answers = replicate 1024 (Number 1) ++ Done ∷ [] in
    stops_there (play_first n deep deep_start) (λ _ v. leave true v) (fresh_log answers) (Finished (Trapped CallDepth 1)) _ (passed n 1023 1 [] [] 0 0)
