-- A run on fewer answers: it takes them all and makes the first events, or it does all that it does on more.
use Rattle.std.proofs.Common.{◌≡◌, ◌⊎◌, inl, inr, List, [], ◌∷◌, ◌++◌, Option, Some, None, refl, sym, subst}
use Rattle.ideal_machine.specs.declared.event.Event.{Event}
use Rattle.ideal_machine.specs.declared.event.Answer.{Answer}
use Rattle.ideal_machine.specs.Queries.{Query, Reply, reply_to, event_of}
use Rattle.ideal_machine.specs.Play.{Waits, Play, Gives, Stops, Asks, Jump, Call, Log, with_event, with_jump, with_call, Behaviour, Ends, log_of, by_reply, run_query, run}
use Rattle.ideal_machine.specs.Reaches.{IsLater}
use Rattle.ideal_machine.proofs.Runs.{run_later}

-- the log with these answers left
abbrev pub with_answers : List Answer → Log → Log
with_answers answers log = record log { answers = answers }

-- a log from fewer answers beside one from these and more
pub record IsCutShort (short long : Log) : Type 0 where
  pub taken : short.answers ≡ []
  pub events : (more : List Event) × (long.events ≡ short.events ++ more)

pub record IsAlike (more : List Answer) (short long : Log) : Type 0 where
  pub left : long.answers ≡ short.answers ++ more
  pub events : long.events ≡ short.events

abbrev pub Fewer : {S A : Type 0} → List Answer → Behaviour S A → Behaviour S A → Type 0
Fewer more short long = IsCutShort (log_of short) (log_of long) ⊎ IsAlike more (log_of short) (log_of long)

module _ {S A : Type 0} (more : List Answer) where
  query_fewer :
      (q : Query) (few all : List Answer) (w : Log) (go : Reply q → Log → Behaviour S A) → all ≡ few ++ more →
      ((r : Reply q) (rest : List Answer) → Fewer more (go r (with_event (event_of q r) rest w)) (go r (with_event (event_of q r) (rest ++ more) w))) →
      ((all : List Answer) → IsLater w (log_of (run_query q all (with_answers all w) go))) →
      Fewer more (run_query q few (with_answers few w) go) (run_query q all (with_answers all w) go)
  query_fewer q [] all w go is each later = inl (record { taken = refl; events = (later all).events })
  query_fewer q (a ∷ rest) all w go is each later =
      subst (λ all. Fewer more (run_query q (a ∷ rest) (with_answers (a ∷ rest) w) go) (run_query q all (with_answers all w) go)) (sym is) (chosen (reply_to q a)) where
        chosen : (o : Option (Reply q)) →
            Fewer more (by_reply o (Ends Waits (with_answers (a ∷ rest) w)) (λ r. go r (with_event (event_of q r) rest w)))
            (by_reply o (Ends Waits (with_answers (a ∷ rest ++ more) w)) (λ r. go r (with_event (event_of q r) (rest ++ more) w)))
        chosen None = inr (record { left = refl; events = refl })
        chosen (Some r) = each r rest

  pub run_fewer : (p : Play S A) (few : List Answer) (w : Log) → Fewer more (run p (with_answers few w)) (run p (with_answers (few ++ more) w))
  run_fewer (Gives s v) few w = inr (record { left = refl; events = refl })
  run_fewer (Stops e) few w = inr (record { left = refl; events = refl })
  run_fewer (Asks q k) few w =
      query_fewer q few (few ++ more) w (λ r. run (k r)) refl (λ r rest. run_fewer (k r) rest (with_event (event_of q r) rest w))
      (λ all. let l = run_later (Asks q k) (with_answers all w) in record { events = l.events; jumps = l.jumps; calls = l.calls })
  run_fewer (Jump p) few w = run_fewer p few (with_jump w)
  run_fewer (Call p) few w = run_fewer p few (with_call w)
