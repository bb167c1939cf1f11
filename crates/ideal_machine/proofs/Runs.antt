-- Laws of running a play: each is an induction over the constructors of a play, and knows no event.
use Rattle.std.proofs.Common.{◌≡◌, ℕ, ◌+◌, ◌≤◌, List, [], ◌∷◌, ◌++◌, length, Option, Some, None, refl, sym, ◌∙◌, ap, arith, append_assoc, append-nil, length-append}
use Rattle.ideal_machine.specs.declared.event.Event.{Event}
use Rattle.ideal_machine.specs.declared.event.Answer.{Answer}
use Rattle.ideal_machine.specs.Queries.{Query, Reply, reply_to, event_of}
use Rattle.ideal_machine.specs.Play.{Finished, Waits, Cut, Play, Gives, Stops, Asks, Jump, Call, bind, Log, with_event, with_jump, with_call, Behaviour, Goes, Ends, log_of, by_reply, run_query, run}
use Rattle.ideal_machine.specs.Reaches.{IsLater, Reaches}

-- ---- taking an answer

-- what holds of the two sides wherever they go on holds of them where they take an answer
pub both_reply :
    {S A T B : Type 0} (R : Behaviour S A → Behaviour T B → Type 0) (q : Query) (left : List Answer) (w : Log)
    (go : Reply q → Log → Behaviour S A) (go' : Reply q → Log → Behaviour T B) → R (Ends Waits w) (Ends Waits w) →
    ((r : Reply q) (rest : List Answer) → R (go r (with_event (event_of q r) rest w)) (go' r (with_event (event_of q r) rest w))) →
    R (run_query q left w go) (run_query q left w go')
both_reply R q [] w go go' waits each = waits
both_reply R q (a ∷ rest) w go go' waits each = chosen (reply_to q a) where
  chosen : (o : Option (Reply q)) →
      R (by_reply o (Ends Waits w) (λ r. go r (with_event (event_of q r) rest w))) (by_reply o (Ends Waits w) (λ r. go' r (with_event (event_of q r) rest w)))
  chosen None = waits
  chosen (Some r) = each r rest

-- the same of one side
pub one_reply :
    {S A : Type 0} (P : Behaviour S A → Type 0) (q : Query) (left : List Answer) (w : Log) (go : Reply q → Log → Behaviour S A) →
    P (Ends Waits w) → ((r : Reply q) (rest : List Answer) → P (go r (with_event (event_of q r) rest w))) → P (run_query q left w go)
one_reply P q left w go waits each = both_reply (λ o _. P o) q left w go go waits each

-- ---- one play after another

abbrev pub then_do : {S A T B : Type 0} → Behaviour S A → (S → A → Log → Behaviour T B) → Behaviour T B
then_do (Goes s v w) go = go s v w
then_do (Ends e w) go = Ends e w

pub run_bind : {S A T B : Type 0} (p : Play S A) (go : S → A → Play T B) (w : Log) → run (bind p go) w ≡ then_do (run p w) (λ s v. run (go s v))
run_bind (Gives s v) go w = refl
run_bind (Stops e) go w = refl
run_bind (Asks q k) go w =
    both_reply (λ o o'. o ≡ then_do o' (λ s v. run (go s v))) q w.answers w (λ r. run (bind (k r) go)) (λ r. run (k r)) refl
    (λ r rest. run_bind (k r) go (with_event (event_of q r) rest w))
run_bind (Jump p) go w = run_bind p go (with_jump w)
run_bind (Call p) go w = run_bind p go (with_call w)

-- ---- a run goes on from its log

pub later_self : (w : Log) → IsLater w w
later_self w = record { events = ([], sym (append-nil w.events)); jumps = omega arith; calls = omega arith }

pub later_on : (u v w : Log) → IsLater u v → IsLater v w → IsLater u w
later_on u v w h k = record {
  events = (
    h.events.0 ++ k.events.0,
    k.events.1 ∙ ap (λ l. l ++ k.events.0) h.events.1 ∙ append_assoc u.events h.events.0 k.events.0,
  );
  jumps = omega (arith, h.jumps, k.jumps);
  calls = omega (arith, h.calls, k.calls);
}

pub later_by_event : (e : Event) (rest : List Answer) (w : Log) → IsLater w (with_event e rest w)
later_by_event e rest w = record { events = (e ∷ [], refl); jumps = omega arith; calls = omega arith }

later_by_jump : (w : Log) → IsLater w (with_jump w)
later_by_jump w = record { events = ([], sym (append-nil w.events)); jumps = omega arith; calls = omega arith }

later_by_call : (w : Log) → IsLater w (with_call w)
later_by_call w = record { events = ([], sym (append-nil w.events)); jumps = omega arith; calls = omega arith }

pub run_later : {S A : Type 0} (p : Play S A) (w : Log) → IsLater w (log_of (run p w))
run_later (Gives s v) w = later_self w
run_later (Stops e) w = later_self w
run_later (Asks q k) w =
    one_reply (λ o. IsLater w (log_of o)) q w.answers w (λ r. run (k r)) (later_self w)
    (λ r rest. later_on w (with_event (event_of q r) rest w) _ (later_by_event (event_of q r) rest w) (run_later (k r) (with_event (event_of q r) rest w)))
run_later (Jump p) w = later_on w (with_jump w) _ (later_by_jump w) (run_later p (with_jump w))
run_later (Call p) w = later_on w (with_call w) _ (later_by_call w) (run_later p (with_call w))

-- ---- each event takes an answer

-- the events made and the answers left
abbrev pub count_of : {S A : Type 0} → Behaviour S A → ℕ
count_of o = length (log_of o).events + length (log_of o).answers

one_more : (events : List Event) (e : Event) (n : ℕ) → length (events ++ e ∷ []) + n ≡ length events + 1 + n
one_more events e n = omega (arith, length-append events (e ∷ []))

query_count :
    {S A : Type 0} (q : Query) (left : List Answer) (w : Log) (go : Reply q → Log → Behaviour S A) → left ≡ w.answers →
    ((r : Reply q) (rest : List Answer) → count_of (go r (with_event (event_of q r) rest w)) ≡ length w.events + 1 + length rest) →
    count_of (run_query q left w go) ≡ length w.events + length w.answers
query_count q [] w go is each = refl
query_count q (a ∷ rest) w go is each = chosen (reply_to q a) where
  counts : length w.events + 1 + length rest ≡ length w.events + length w.answers
  counts = omega (arith, ap length is)

  chosen : (o : Option (Reply q)) →
      count_of (by_reply o (Ends Waits w) (λ r. go r (with_event (event_of q r) rest w))) ≡ length w.events + length w.answers
  chosen None = refl
  chosen (Some r) = each r rest ∙ counts

pub run_count : {S A : Type 0} (p : Play S A) (w : Log) → count_of (run p w) ≡ length w.events + length w.answers
run_count (Gives s v) w = refl
run_count (Stops e) w = refl
run_count (Asks q next) w =
    query_count q w.answers w (λ r. run (next r)) refl
    (λ r rest. run_count (next r) (with_event (event_of q r) rest w) ∙ one_more w.events (event_of q r) (length rest))
run_count (Jump p) w = run_count p (with_jump w)
run_count (Call p) w = run_count p (with_call w)

-- ---- so what is reached by as many events has the same

pub no_length : {T : Type 0} (l : List T) → length l ≡ 0 → l ≡ []
no_length [] h = refl
no_length (e ∷ l) h = absurd (omega (arith, h))

later_same : (u v : Log) → IsLater u v → length v.events ≤ length u.events → v.events ≡ u.events
later_same u v later counts =
    let more = later.events.0 in
    let nothing : length more ≡ 0 = omega (arith, counts, ap length later.events.1, length-append u.events more) in
    later.events.1 ∙ (ap (λ l. u.events ++ l) (no_length more nothing) ∙ append-nil u.events)

pub reached_events : {S A : Type 0} (o p : Behaviour S A) → Reaches o p → length (log_of p).events ≤ length (log_of o).events → (log_of p).events ≡ (log_of o).events
reached_events (Goes s v w) p r counts = ap (λ q. (log_of q).events) r
reached_events (Ends (Finished f) w) p r counts = ap (λ q. (log_of q).events) r
reached_events (Ends Waits w) p r counts = ap (λ q. (log_of q).events) r
reached_events (Ends Cut w) p r counts = later_same w (log_of p) r counts
