-- Nothing follows an event that ends its thread: it comes last in every phrase, and what `bind` puts after it isn't reached.
use Rattle.std.proofs.Common.{◌≡◌, ℕ, zero, suc, List, [], ◌∷◌, ◌++◌, Bool, true, false, Option, Some, None, refl, sym, ap, ◌∙◌, append_assoc, append-nil}
use Rattle.filc_num.specs.declared.reason.Reason.{Reason}
use Rattle.ideal_machine.specs.declared.value.Half.{Half}
use Rattle.ideal_machine.specs.declared.value.Half.TheVariants.{Nothing, Freed, Object as ObjectHalf, Function as FunctionHalf}
use Rattle.ideal_machine.specs.declared.value.Value.{Value}
use Rattle.ideal_machine.specs.declared.event.Event.{Event}
use Rattle.ideal_machine.specs.declared.event.Answer.{Answer}
use Rattle.ideal_machine.specs.Queries.{Reply, event_of}
use Rattle.ideal_machine.specs.Play.{Play, Gives, Stops, Asks, Jump, Call, Finished, bind, Log, with_event, with_jump, with_call, log_of, run}
use Rattle.ideal_machine.specs.Phrases.{Phrase, unless_refused, leave}
use Rattle.ideal_machine.specs.Retries.{or_else, retry}
use Rattle.ideal_machine.specs.IntAccess.{access_at}
use Rattle.ideal_machine.specs.Endings.{is_end, AreEndedOnce}
use Rattle.ideal_machine.proofs.Runs.{one_reply}
use Rattle.ideal_machine.proofs.Relates.{Relates}

-- ---- plays

-- the program has ended
abbrev IsOver : {S A : Type 0} → Play S A → Type 0
IsOver (Stops (Finished finish)) = Unit {0}
IsOver play = ⊥

-- nothing is asked
abbrev IsQuiet : {S A : Type 0} → Play S A → Type 0
IsQuiet (Gives state value) = Unit {0}
IsQuiet (Stops stop) = Unit {0}
IsQuiet play = ⊥

-- an end is followed by nothing, whatever this play is bound to
abbrev pub IsInner : {S A : Type 0} → Play S A → Type 0
IsInner (Gives state value) = Unit {0}
IsInner (Stops stop) = Unit {0}
IsInner (Asks query next) = (reply : Reply query) → IsInner (next reply) × (is_end (event_of query reply) ≡ true → IsOver (next reply))
IsInner (Jump next) = IsInner next
IsInner (Call next) = IsInner next

-- an end is followed by nothing
abbrev pub IsOuter : {S A : Type 0} → Play S A → Type 0
IsOuter (Gives state value) = Unit {0}
IsOuter (Stops stop) = Unit {0}
IsOuter (Asks query next) = (reply : Reply query) → IsOuter (next reply) × (is_end (event_of query reply) ≡ true → IsQuiet (next reply))
IsOuter (Jump next) = IsOuter next
IsOuter (Call next) = IsOuter next

over_bind : {S A T B : Type 0} (p : Play S A) (go : S → A → Play T B) → IsOver p → IsOver (bind p go)
over_bind (Stops (Finished finish)) go h = tt
over_bind p go h = absurd h

over_quiet : {S A : Type 0} (p : Play S A) → IsOver p → IsQuiet p
over_quiet (Stops (Finished finish)) h = tt
over_quiet p h = absurd h

pub bind_inner : {S A T B : Type 0} (p : Play S A) (go : S → A → Play T B) → IsInner p → ((s : S) (v : A) → IsInner (go s v)) → IsInner (bind p go)
bind_inner (Gives s v) go h each = each s v
bind_inner (Stops e) go h each = tt
bind_inner (Asks q next) go h each = λ reply. (bind_inner (next reply) go (h reply).0 each, λ e. over_bind (next reply) go ((h reply).1 e))
bind_inner (Jump p) go h each = bind_inner p go h each
bind_inner (Call p) go h each = bind_inner p go h each

pub bind_outer : {S A T B : Type 0} (p : Play S A) (go : S → A → Play T B) → IsInner p → ((s : S) (v : A) → IsOuter (go s v)) → IsOuter (bind p go)
bind_outer (Gives s v) go h each = each s v
bind_outer (Stops e) go h each = tt
bind_outer (Asks q next) go h each =
    λ reply. (bind_outer (next reply) go (h reply).0 each, λ e. over_quiet (bind (next reply) go) (over_bind (next reply) go ((h reply).1 e)))
bind_outer (Jump p) go h each = bind_outer p go h each
bind_outer (Call p) go h each = bind_outer p go h each

pub leave_outer : (main : Bool) (v : Value) → IsOuter (leave main v)
leave_outer true v = λ _. (tt, λ _. tt)
leave_outer false v = λ _. (tt, λ _. tt)

-- ---- phrases

or_else_inner : {X : Type 0} (found : Option X) (p : Phrase X) → IsInner p → IsInner (or_else found p)
or_else_inner None p h = h
or_else_inner (Some x) p h = tt

retry_inner : {X : Type 0} (n : ℕ) (step : Phrase (Option X)) → IsInner step → IsInner (retry n step)
retry_inner zero step h = tt
retry_inner (suc n) step h = bind_inner step _ h (λ _ found. or_else_inner found (Jump (retry n step)) (retry_inner n step h))

access_inner : (base : ℕ → ℕ) (half : Half) (address width : ℕ) → IsInner (access_at base half address width)
access_inner base (ObjectHalf m) address width = tt
access_inner base Nothing address width = tt
access_inner base Freed address width = tt
access_inner base (FunctionHalf f) address width = tt

refused_inner : {S A : Type 0} (line : ℕ) (go : Play S A) → IsInner go → (reply : Option Reason) → IsInner (unless_refused line go reply)
refused_inner line go h None = h
refused_inner line go h (Some reason) = λ _. (tt, λ _. tt)

pub inner_relates : (n : ℕ) → Relates n n (λ S A p q. IsInner p)
inner_relates n = record {
  gives = λ state value. tt;
  checks = λ base p width write line reply. (refused_inner line _ (access_inner base p.half p.number width) reply, λ is. absurd (cc));
  cell_checks = λ base p line reply. (refused_inner line _ (access_inner base p.half p.number 8) reply, λ is. absurd (cc));
  asks = λ query next next' e h reply. (h reply, λ is. absurd (true_is_false (sym is ∙ e reply)));
  traps = λ reason line _. (tt, λ _. tt);
  exits = λ value _. (tt, λ _. tt);
  jumps = λ p p' h. h;
  calls = λ p p' h. h;
  binds = λ p p' go go' h each. bind_inner p go h each;
  retries = λ step h. retry_inner n step h;
} where
  true_is_false : true ≡ false → ⊥
  true_is_false e = absurd (cc)

-- ---- what a run makes

-- the events that came
pub record Makes (old new : Log) : Type 0 where
  pub made : List Event
  pub events : new.events ≡ old.events ++ made
  pub ended : AreEndedOnce made

made_nothing : (w : Log) → Makes w w
made_nothing w = record { made = []; events = sym (append-nil w.events); ended = tt }

quiet_log : {S A : Type 0} (p : Play S A) (w : Log) → IsQuiet p → log_of (run p w) ≡ w
quiet_log (Gives s v) w h = refl
quiet_log (Stops e) w h = refl
quiet_log (Asks q next) w h = absurd h
quiet_log (Jump p) w h = absurd h
quiet_log (Call p) w h = absurd h

-- a list that adds nothing is empty
adds_nothing : (l made : List Event) → l ≡ l ++ made → made ≡ []
adds_nothing [] made e = sym e
adds_nothing (x ∷ l) made e = adds_nothing l made (cc)

event_made :
    {S A : Type 0} (e : Event) (rest : List Answer) (w : Log) (p : Play S A) → (is_end e ≡ true → IsQuiet p) → Makes (with_event e rest w) (log_of (run p (with_event e rest w))) →
    Makes w (log_of (run p (with_event e rest w)))
event_made e rest w p quiet m = record {
  made = e ∷ m.made;
  events = m.events ∙ append_assoc w.events (e ∷ []) m.made;
  ended = (λ is. adds_nothing (w.events ++ e ∷ []) m.made (sym (same is) ∙ m.events), m.ended);
} where
  same : is_end e ≡ true → (log_of (run p (with_event e rest w))).events ≡ w.events ++ e ∷ []
  same is = ap (λ l. l.events) (quiet_log p (with_event e rest w) (quiet is))

pub outer_makes : {S A : Type 0} (p : Play S A) (w : Log) → IsOuter p → Makes w (log_of (run p w))
outer_makes (Gives s v) w h = made_nothing w
outer_makes (Stops e) w h = made_nothing w
outer_makes (Asks q next) w h =
    one_reply (λ o. Makes w (log_of o)) q w.answers w (λ r. run (next r)) (made_nothing w)
    (λ r rest. event_made (event_of q r) rest w (next r) (h r).1 (outer_makes (next r) (with_event (event_of q r) rest w) (h r).0))
outer_makes (Jump p) w h = let m = outer_makes p (with_jump w) h in record { made = m.made; events = m.events; ended = m.ended }
outer_makes (Call p) w h = let m = outer_makes p (with_call w) h in record { made = m.made; events = m.events; ended = m.ended }
