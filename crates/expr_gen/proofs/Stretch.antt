-- Rules of stretches: one play after another, phrases that both sides say, and single instructions.
--
-- `bind_runs` is the one lemma of every construct: what a first part does, and what a second does from wherever the first
-- may land, give the two in a row. `phrase_runs` is the one lemma of every event: both sides say the same phrase, so
-- only what follows it is to be run.
use Rattle.std.proofs.Common.{◌≡◌, ℕ, zero, suc, ◌+◌, ◌<◌, ◌≤◌, List, [], ◌∷◌, Option, Some, None, Bool, true, false, refl, sym, ap, ◌∙◌, subst}
use Rattle.std.specs.Prelude.{All, nat_lt, if◌then◌else◌}
use Rattle.std.proofs.lemmas.Bool.{lt-ltb, le-ltb}
use Rattle.std.proofs.lemmas.List.Elements.{All-tail}
use Rattle.whole_code.specs.declared.op.Op.{Op}
use Rattle.whole_code.specs.declared.op.Op.TheVariants.{Jump, JumpZero}
use Rattle.whole_code.specs.Plain.{instruction_at}
use Rattle.ideal_machine.specs.declared.value.Value.{Value}
use Rattle.ideal_machine.specs.declared.event.Answer.{Answer}
use Rattle.ideal_machine.specs.Queries.{Query, Reply, reply_to, event_of}
use Rattle.ideal_machine.specs.Values.{value_at}
use Rattle.ideal_machine.specs.Play.{Play, Gives, Stops, Asks, Jump as Jumps, Call, Waits, Cut, bind, Log, with_event, with_jump, with_call, Behaviour, Goes, Ends, log_of, by_reply, run_query, run}
use Rattle.ideal_machine.specs.Phrases.{Phrase, if_zero}
use Rattle.ideal_machine.specs.Retries.{or_else, retry}
use Rattle.ideal_machine.proofs.Runs.{both_reply, then_do, run_bind}
use Rattle.tree_play.specs.Around.{line_or}
use Rattle.whole_thread.specs.Standing as code
use Rattle.whole_thread.specs.Act.{by_number, act}
use Rattle.whole_thread.specs.CodePlay.{act_at, exec}
use Rattle.expr_gen.specs.Operations.{at_line}
use Rattle.expr_gen.specs.Stretch.{Site, standing, Bounded, from, Comes, Landing, Runs, IsWordAnswer, HasWords}

-- ---- plays

-- how sequences are bracketed
pub bind_bind :
    {S A T B U C : Type 0} (p : Play S A) (f : S → A → Play T B) (g : T → B → Play U C) (w : Log) →
    run (bind (bind p f) g) w ≡ run (bind p (λ s v. bind (f s v) g)) w
bind_bind (Gives s v) f g w = refl
bind_bind (Stops e) f g w = refl
bind_bind (Asks q k) f g w =
    both_reply (λ o o'. o ≡ o') q w.answers w (λ r. run (bind (bind (k r) f) g)) (λ r. run (bind (k r) (λ s v. bind (f s v) g))) refl
    (λ r rest. bind_bind (k r) f g (with_event (event_of q r) rest w))
bind_bind (Jumps p) f g w = bind_bind p f g (with_jump w)
bind_bind (Call p) f g w = bind_bind p f g (with_call w)

query_words :
    {S A : Type 0} (q : Query) (left : List Answer) (w : Log) (go : Reply q → Log → Behaviour S A) → All IsWordAnswer left → HasWords w →
    ((r : Reply q) (rest : List Answer) → All IsWordAnswer rest → HasWords (log_of (go r (with_event (event_of q r) rest w)))) →
    HasWords (log_of (run_query q left w go))
query_words q [] w go h words each = words
query_words q (a ∷ rest) w go h words each = chosen (reply_to q a) where
  chosen : (o : Option (Reply q)) → HasWords (log_of (by_reply o (Ends Waits w) (λ r. go r (with_event (event_of q r) rest w))))
  chosen None = words
  chosen (Some r) = each r rest (All-tail IsWordAnswer a rest h)

-- the answers that are left are some of those that were there
pub run_words : {S A : Type 0} (p : Play S A) (w : Log) → HasWords w → HasWords (log_of (run p w))
run_words (Gives s v) w words = words
run_words (Stops e) w words = words
run_words (Asks q k) w words =
    query_words q w.answers w (λ r. run (k r)) words words (λ r rest h. run_words (k r) (with_event (event_of q r) rest w) h)
run_words (Jumps p) w words = run_words p (with_jump w) words
run_words (Call p) w words = run_words p (with_call w) words

-- ---- stretches

pub comes_on : (K : Bounded) (w : Log) (K1 : Bounded) (w1 : Log) (K2 : Bounded) (w2 : Log) → Comes K w K1 w1 → Comes K1 w1 K2 w2 → Comes K w K2 w2
comes_on K w K1 w1 K2 w2 a b m = let y = b m in let x = a y.0 in (x.0, x.1 ∙ y.1)

-- the line of a trap on both sides
abbrev pub line_at : Site → ℕ → ℕ
line_at site line = line_or (if site.library then site.called_at else None) line

pub same_line : (library : Bool) (called_at : Option ℕ) (line : ℕ) → (if library then code.line_or called_at line else line) ≡ line_or (if library then called_at else None) line
same_line false called_at line = refl
same_line true None line = refl
same_line true (Some call_line) line = refl

module _ (site : Site) where
  -- code that comes to code that runs it
  pub came :
      {S A : Type 0} (P : Landing S A) (K : Bounded) (w : Log) (K1 : Bounded) (w1 : Log) (o : Behaviour S A) → Comes K w K1 w1 → Runs site P K1 w1 o →
      Runs site P K w o
  came P K w K1 w1 (Goes s v w2) c r = record {
    index = r.index;
    after = r.after;
    comes = comes_on K w K1 w1 (from site r.index r.after) w2 c r.comes;
    holds = r.holds;
  }
  came P K w K1 w1 (Ends e w2) c r = let x = c r.0 in (x.0, x.1 ∙ r.1)

  -- the play has come to its end, and the code stands there
  pub lands : {S A : Type 0} (P : Landing S A) (pc : ℕ) (regs : List Value) (w : Log) (s : S) (v : A) → P s v pc regs → Runs site P (from site pc regs) w (Goes s v w)
  lands P pc regs w s v h = record { index = pc; after = regs; comes = λ m. (m, refl); holds = h }

  then_runs :
      {S A T B : Type 0} (P : Landing S A) (Q : Landing T B) (K : Bounded) (w : Log) (o : Behaviour S A) (go : S → A → Log → Behaviour T B) →
      HasWords (log_of o) → Runs site P K w o →
      ((s : S) (v : A) (pc : ℕ) (regs : List Value) (w1 : Log) → HasWords w1 → P s v pc regs → Runs site Q (from site pc regs) w1 (go s v w1)) →
      Runs site Q K w (then_do o go)
  then_runs P Q K w (Goes s v w1) go words r each =
      came Q K w (from site r.index r.after) w1 (go s v w1) r.comes (each s v r.index r.after w1 words r.holds)
  then_runs P Q K w (Ends e w1) go words r each = r

  -- one play after another
  pub bind_runs :
      {S A T B : Type 0} (P : Landing S A) (Q : Landing T B) (K : Bounded) (w : Log) (p : Play S A) (go : S → A → Play T B) → HasWords w →
      Runs site P K w (run p w) →
      ((s : S) (v : A) (pc : ℕ) (regs : List Value) (w1 : Log) → HasWords w1 → P s v pc regs → Runs site Q (from site pc regs) w1 (run (go s v) w1)) →
      Runs site Q K w (run (bind p go) w)
  bind_runs P Q K w p go words r each =
      subst (Runs site Q K w) (sym (run_bind p go w)) (then_runs P Q K w (run p w) (λ s v. run (go s v)) (run_words p w words) r each)

  -- the play ends there, and the code goes on a little
  pub onward :
      {S A : Type 0} (P Q : Landing S A) (K : Bounded) (w : Log) (o : Behaviour S A) → Runs site P K w o →
      ((s : S) (v : A) (pc : ℕ) (regs : List Value) (w1 : Log) → P s v pc regs → Runs site Q (from site pc regs) w1 (Goes s v w1)) → Runs site Q K w o
  onward P Q K w (Goes s v w1) r each = came Q K w (from site r.index r.after) w1 (Goes s v w1) r.comes (each s v r.index r.after w1 r.holds)
  onward P Q K w (Ends e w1) r each = r

  after_phrase :
      {S X A : Type 0} (Q : Landing S A) (K : ℕ → X → Phrase ℕ) (w : Log) (o : Behaviour (Unit {0}) X) (go : X → Log → Behaviour S A) (k : Bounded) →
      HasWords (log_of o) → ((m : ℕ) → run (k m) w ≡ then_do o (λ _ x. run (K m x))) →
      ((x : X) (w1 : Log) → HasWords w1 → Runs site Q (λ m. K m x) w1 (go x w1)) → Runs site Q k w (then_do o (λ _ x. go x))
  after_phrase Q K w (Goes s x w1) go k words same each = came Q k w (λ m. K m x) w1 (go x w1) (λ m. (m, same m)) (each x w1 words)
  after_phrase Q K w (Ends e w1) go k words same each = (0, same 0)

  -- a phrase that both sides say, whatever it asks
  pub phrase_runs :
      {S X A : Type 0} (Q : Landing S A) (phrase : Phrase X) (K : ℕ → X → Phrase ℕ) (go : X → Play S A) (w : Log) → HasWords w →
      ((x : X) (w1 : Log) → HasWords w1 → Runs site Q (λ m. K m x) w1 (run (go x) w1)) →
      Runs site Q (λ m. bind phrase (λ _ x. K m x)) w (run (bind phrase (λ _ x. go x)) w)
  phrase_runs Q phrase K go w words each =
      subst (Runs site Q (λ m. bind phrase (λ _ x. K m x)) w) (sym (run_bind phrase (λ _ x. go x) w))
      (after_phrase Q K w (run phrase w) (λ x. run (go x)) (λ m. bind phrase (λ _ x. K m x)) (run_words phrase w words)
      (λ m. run_bind phrase (λ _ x. K m x) w) each)

  -- a retry: the instruction stands where it is until its step gives something, and each time costs one of the bound
  pub retry_runs :
      {S X A : Type 0} (Q : Landing S A) (step : Phrase (Option X)) (here : Bounded) (again : ℕ → Option X → Phrase ℕ) (go : X → Play S A) →
      ((m : ℕ) → here (suc m) ≡ bind step (λ _ r. again m r)) → ((m : ℕ) → again m None ≡ Jumps (here m)) → here 0 ≡ Stops Cut →
      ((x : X) (w1 : Log) → HasWords w1 → Runs site Q (λ m. again m (Some x)) w1 (run (go x) w1)) →
      (n : ℕ) (w : Log) → HasWords w → Runs site Q here w (run (bind (retry n step) (λ _ x. go x)) w)
  retry_runs Q step here again go same jumps cut each zero w words = (0, ap (λ p. run p w) cut)
  retry_runs Q step here again go same jumps cut each (suc n) w words =
      let f = λ (r : Option _). bind (or_else r (Jumps (retry n step))) (λ _ x. go x) in
      came Q here w (λ m. bind step (λ _ r. again m r)) w (run (bind (retry (suc n) step) (λ _ x. go x)) w) (λ m. (suc m, ap (λ p. run p w) (same m)))
      (subst (Runs site Q (λ m. bind step (λ _ r. again m r)) w) (sym (bind_bind step (λ _ r. or_else r (Jumps (retry n step))) (λ _ x. go x) w))
      (phrase_runs Q step again f w words (λ r w1 words1. after (λ w2 words2. retry_runs Q step here again go same jumps cut each n w2 words2) r w1 words1))) where
        after :
            ((w : Log) → HasWords w → Runs site Q here w (run (bind (retry n step) (λ _ x. go x)) w)) → (r : Option _) (w : Log) → HasWords w →
            Runs site Q (λ m. again m r) w (run (bind (or_else r (Jumps (retry n step))) (λ _ x. go x)) w)
        after more None w words =
            came Q (λ m. again m None) w here (with_jump w) (run (bind (retry n step) (λ _ x. go x)) (with_jump w)) (λ m. (m, ap (λ p. run p w) (jumps m)))
            (more (with_jump w) words)
        after more (Some x) w words = each x w words

  -- ---- single instructions

  -- what an instruction of this line does at its index
  abbrev pub does : (pc : ℕ) → List Value → (line : ℕ) → Op → Bounded
  does pc regs line o m = act site.code (by_number site.start) (exec site.code (by_number site.start) m) (standing site pc regs) (line_at site line) o

  abbrev pub Has : (pc line : ℕ) → Op → Type 0
  Has pc line o = instruction_at site.code site.function pc ≡ Some (at_line site.library line o)

  pub step : (pc : ℕ) (regs : List Value) (line : ℕ) (o : Op) → Has pc line o → (m : ℕ) → from site pc regs (suc m) ≡ does pc regs line o m
  step pc regs line o h m =
      let start = by_number site.start in
      let next = exec site.code start m in
      let at = standing site pc regs in
      ap (λ i. act_at site.code start next at i) h ∙ ap (λ l. act site.code start next at l o) (same_line site.library site.called_at line)

  pub steps : (pc : ℕ) (regs : List Value) (w : Log) (line : ℕ) (o : Op) → Has pc line o → Comes (from site pc regs) w (does pc regs line o) w
  steps pc regs w line o h m = (suc m, ap (λ p. run p w) (step pc regs line o h m))

  pub at_op :
      {S A : Type 0} (P : Landing S A) (pc : ℕ) (regs : List Value) (w : Log) (line : ℕ) (o : Op) (b : Behaviour S A) → Has pc line o →
      Runs site P (does pc regs line o) w b → Runs site P (from site pc regs) w b
  at_op P pc regs w line o b h r = came P (from site pc regs) w (does pc regs line o) w b (steps pc regs w line o h) r

  -- ---- jumps

  abbrev pub go_to : Bool → Phrase ℕ → Phrase ℕ
  go_to forward next = if forward then next else Jumps next

  pub jumps_on : (pc target : ℕ) (regs : List Value) (w : Log) → pc < target → Comes (λ m. go_to (nat_lt pc target) (from site target regs m)) w (from site target regs) w
  jumps_on pc target regs w lt m = (m, ap (λ b. run (go_to b (from site target regs m)) w) (lt-ltb pc target lt))

  pub jump_on : (line pc target : ℕ) (regs : List Value) (w : Log) → pc < target → Has pc line (Jump target) → Comes (from site pc regs) w (from site target regs) w
  jump_on line pc target regs w lt h m =
      (suc m, ap (λ p. run p w) (step pc regs line (Jump target) h m ∙ ap (λ b. go_to b (from site target regs m)) (lt-ltb pc target lt)))

  pub jump_back : (line pc target : ℕ) (regs : List Value) (w : Log) → target ≤ pc → Has pc line (Jump target) → Comes (from site pc regs) w (from site target regs) (with_jump w)
  jump_back line pc target regs w le h m =
      (suc m, ap (λ p. run p w) (step pc regs line (Jump target) h m ∙ ap (λ b. go_to b (from site target regs m)) (le-ltb pc target le)))

  -- a jump where a register is 0
  pub branches :
      {S A : Type 0} (Q : Landing S A) (line t pc target n : ℕ) (regs : List Value) (w : Log) (a b : Play S A) → Has pc line (JumpZero t target) →
      (value_at regs t).number ≡ n → pc < target → (n ≡ 0 → Runs site Q (from site target regs) w (run a w)) →
      Runs site Q (from site (pc + 1) regs) w (run b w) → Runs site Q (from site pc regs) w (run (if_zero n a b) w)
  branches {S} {A} Q line t pc target n regs w a b h value lt r s =
      at_op Q pc regs w line (JumpZero t target) (run (if_zero n a b) w) h
      (subst (λ x. Runs site Q (jumps x) w (run (if_zero n a b) w)) (sym value) (chosen n r)) where
        jumps : ℕ → Bounded
        jumps x m = if_zero x (go_to (nat_lt pc target) (from site target regs m)) (from site (pc + 1) regs m)

        chosen : (n : ℕ) → (n ≡ 0 → Runs site Q (from site target regs) w (run a w)) → Runs site Q (jumps n) w (run (if_zero n a b) w)
        chosen zero r = came Q (λ m. go_to (nat_lt pc target) (from site target regs m)) w (from site target regs) w (run a w) (jumps_on pc target regs w lt) (r refl)
        chosen (suc n) r = s

  -- a jump where a register is known to be 0, or not to be
  pub zero_taken :
      (line t pc target : ℕ) (regs : List Value) (w : Log) → Has pc line (JumpZero t target) → (value_at regs t).number ≡ 0 → pc < target →
      Comes (from site pc regs) w (from site target regs) w
  zero_taken line t pc target regs w h e lt m =
      let taken = λ (n : ℕ). if_zero n (go_to (nat_lt pc target) (from site target regs m)) (from site (pc + 1) regs m) in
      (suc m, ap (λ p. run p w) (step pc regs line (JumpZero t target) h m ∙ ap taken e ∙ ap (λ b. go_to b (from site target regs m)) (lt-ltb pc target lt)))

  pub zero_passed :
      (line t pc target n : ℕ) (regs : List Value) (w : Log) → Has pc line (JumpZero t target) → (value_at regs t).number ≡ suc n →
      Comes (from site pc regs) w (from site (pc + 1) regs) w
  zero_passed line t pc target n regs w h e m =
      let taken = λ (n : ℕ). if_zero n (go_to (nat_lt pc target) (from site target regs m)) (from site (pc + 1) regs m) in
      (suc m, ap (λ p. run p w) (step pc regs line (JumpZero t target) h m ∙ ap taken e))
