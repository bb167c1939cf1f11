-- One turn of a loop that reads any number of a part, and keeps what a function gives of what it has read.
use Rattle.std.proofs.Common.{◌≡◌, ℕ, zero, suc, ◌+◌, ◌-◌, ◌<◌, Bool, true, false, cond, List, [], ◌∷◌, ◌++◌, length, refl, sym, ap, ◌∙◌, subst, arith, append_assoc, append-nil}
use Rattle.std.specs.Prelude.{Result, Ok, Err}
use Rattle.std.specs.Result.{IsErrAnd}
use Rattle.c_parts.specs.declared.lexeme.Lexeme.{Lexeme}
use Rattle.c_parts.specs.Scopes.{State}
use Rattle.c_parts.specs.Reading.{Why, Syntax, Deep, Answer, Took, Refused, Reader, Test, and_then, pure, ahead, times, change, shape_of, ◌>>=◌}
use Rattle.c_cursor.specs.declared.fault.Fault.{Fault}
use Rattle.c_cursor.specs.declared.fault.Fault.TheVariants as fault
use Rattle.c_cursor.specs.Input.{Input, Gives, answer}

-- What is kept of a list, one value after the other.
pub record Keeps {A B : Type 0} (keep : List A → List B) : Type 0 where
  pub none : keep [] ≡ []
  pub one : (a : A) (y : List A) → keep (a ∷ y) ≡ keep (a ∷ []) ++ keep y

-- all of it
pub keeps_all : {A : Type 0} → Keeps {A = A} (λ y. y)
keeps_all = record { none = refl; one = λ a y. refl }

-- what a loop has kept, and what it will
abbrev pub kept : {A B : Type 0} → (List A → List B) → Test → Reader A → ℕ → Input → List B → Answer (List B)
kept keep test r k i more = and_then (times test r k i.state i.rest) (λ y. pure (more ++ keep y))

-- the same where all is kept
abbrev pub so_far : {A : Type 0} → Test → Reader A → ℕ → Input → List A → Answer (List A)
so_far test r k i more = kept (λ y. y) test r k i more

counted : (len turn : ℕ) → turn < len → len - turn ≡ suc (len - (turn + 1))
counted len turn h = omega (arith, h)

module _ {A B : Type 0} (keep : List A → List B) (keeps : Keeps keep) (test : Test) (r : Reader A) where
  entered : (k : ℕ) (i : Input) (more : List B) (b : Answer A) → ahead test i.state i.rest ≡ true → r i.state i.rest ≡ b
      → kept keep test r (suc k) i more ≡ and_then (and_then b (λ a. times test r k >>= λ y. pure (a ∷ y))) (λ y. pure (more ++ keep y))
  entered k i more b at_one e =
      ap (λ b. and_then (cond b (and_then (r i.state i.rest) (λ a. times test r k >>= λ y. pure (a ∷ y))) (Took [] i.rest i.state)) (λ y. pure (more ++ keep y))) at_one
      ∙ ap (λ b. and_then (and_then b (λ a. times test r k >>= λ y. pure (a ∷ y))) (λ y. pure (more ++ keep y))) e

  pushed : (more : List B) (a : A) (b : Answer (List A)) → and_then (and_then b (λ y. pure (a ∷ y))) (λ y. pure (more ++ keep y)) ≡ and_then b (λ y. pure ((more ++ keep (a ∷ [])) ++ keep y))
  pushed more a (Took y rest m) = ap (λ l. Took l rest m) (ap (λ l. more ++ l) (keeps.one a y) ∙ sym (append_assoc more (keep (a ∷ [])) (keep y)))
  pushed more a (Refused why rest) = refl

  -- a turn that takes one more
  pub keep_on : (len turn : ℕ) (i j : Input) (more : List B) (a : A) (whole : Answer (List B)) → turn < len → kept keep test r (len - turn) i more ≡ whole
      → ahead test i.state i.rest ≡ true → Gives (r i.state i.rest) (Ok a) j → kept keep test r (len - (turn + 1)) j (more ++ keep (a ∷ [])) ≡ whole
  keep_on len turn i j more a whole lt e at_one h =
      sym (subst (λ k. kept keep test r k i more ≡ kept keep test r (len - (turn + 1)) j (more ++ keep (a ∷ []))) (sym (counted len turn lt))
      (entered (len - (turn + 1)) i more (Took a j.rest j.state) at_one h ∙ pushed more a (times test r (len - (turn + 1)) j.state j.rest))) ∙ e

  keep_refused : (len turn : ℕ) (i : Input) (left : List Lexeme) (more : List B) (why : Why) (whole : Answer (List B)) → turn < len → kept keep test r (len - turn) i more ≡ whole
      → ahead test i.state i.rest ≡ true → r i.state i.rest ≡ Refused why left → whole ≡ Refused why left
  keep_refused len turn i left more why whole lt e at_one h =
      sym e ∙ ap (λ k. kept keep test r k i more) (counted len turn lt) ∙ entered (len - (turn + 1)) i more (Refused why left) at_one h

  -- a turn whose part failed
  pub keep_failed : (len turn : ℕ) (i j : Input) (more : List B) (f : Fault) (whole : Answer (List B)) → turn < len → kept keep test r (len - turn) i more ≡ whole
      → ahead test i.state i.rest ≡ true → Gives (r i.state i.rest) (Err f) j → Gives whole (Err f) j
  keep_failed len turn i j more fault.Syntax whole lt e at_one h = keep_refused len turn i j.rest more Syntax whole lt e at_one h
  keep_failed len turn i j more fault.Deep whole lt e at_one h = keep_refused len turn i j.rest more Deep whole lt e at_one h
  keep_failed len turn i j more fault.NoMemory whole lt e at_one h = tt

  nothing-more : (more : List B) → more ++ keep [] ≡ more
  nothing-more more = ap (λ l. more ++ l) keeps.none ∙ append-nil more

  stops-at : (k : ℕ) (n : State) (rest : List Lexeme) (more : List B) → ahead test n rest ≡ false → and_then (times test r k n rest) (λ y. pure (more ++ keep y)) ≡ Took more rest n
  stops-at zero n rest more h = ap (λ l. Took l rest n) (nothing-more more)
  stops-at (suc k) n rest more h =
      ap (λ b. and_then (cond b (and_then (r n rest) (λ a. times test r k >>= λ y. pure (a ∷ y))) (Took [] rest n)) (λ y. pure (more ++ keep y))) h ∙ ap (λ l. Took l rest n) (nothing-more more)

  -- no more of them follows
  pub keep_stops : (k : ℕ) (i : Input) (more : List B) (whole : Answer (List B)) → kept keep test r k i more ≡ whole → ahead test i.state i.rest ≡ false → Gives whole (Ok more) i
  keep_stops k i more whole e h = sym e ∙ stops-at k i.state i.rest more h

-- ---- the same where all is kept

module _ {A : Type 0} (test : Test) (r : Reader A) where
  pub turn_on : (len turn : ℕ) (i j : Input) (more : List A) (a : A) (whole : Answer (List A)) → turn < len → so_far test r (len - turn) i more ≡ whole
      → ahead test i.state i.rest ≡ true → Gives (r i.state i.rest) (Ok a) j → so_far test r (len - (turn + 1)) j (more ++ (a ∷ [])) ≡ whole
  turn_on = keep_on (λ y. y) keeps_all test r

  pub turn_failed : (len turn : ℕ) (i j : Input) (more : List A) (f : Fault) (whole : Answer (List A)) → turn < len → so_far test r (len - turn) i more ≡ whole
      → ahead test i.state i.rest ≡ true → Gives (r i.state i.rest) (Err f) j → Gives whole (Err f) j
  turn_failed = keep_failed (λ y. y) keeps_all test r

  pub loop_stops : (k : ℕ) (i : Input) (more : List A) (whole : Answer (List A)) → so_far test r k i more ≡ whole → ahead test i.state i.rest ≡ false → Gives whole (Ok more) i
  loop_stops = keep_stops (λ y. y) keeps_all test r

  -- a turn that takes one more, where only the tokens count
  pub skip_on : (len turn : ℕ) (i j : Input) (a : A) (whole : Answer (Unit {0})) → turn < len → answer (change (λ x. tt {0}) (times test r (len - turn))) i ≡ whole
      → ahead test i.state i.rest ≡ true → Gives (r i.state i.rest) (Ok a) j → answer (change (λ x. tt {0}) (times test r (len - (turn + 1)))) j ≡ whole
  skip_on len turn i j a whole lt e at_one h =
      sym (dropped j a (times test r (len - (turn + 1)) j.state j.rest)) ∙ sym (ap (λ b. shape_of (λ n x k. tt {0}) (λ n x k. k) i.state b) (taken (len - (turn + 1)) i (Took a j.rest j.state) at_one h))
      ∙ ap (λ k. answer (change (λ x. tt {0}) (times test r k)) i) (sym (counted len turn lt)) ∙ e
    where
      dropped : (j : Input) (a : A) (b : Answer (List A)) → shape_of {A = List A} {B = Unit {0}} (λ n x k. tt {0}) (λ n x k. k) i.state (and_then b (λ y. pure (a ∷ y))) ≡ shape_of (λ n x k. tt {0}) (λ n x k. k) j.state b
      dropped j a (Took y rest m) = refl
      dropped j a (Refused why rest) = refl

      taken : (k : ℕ) (i : Input) (b : Answer A) → ahead test i.state i.rest ≡ true → r i.state i.rest ≡ b
          → times test r (suc k) i.state i.rest ≡ and_then b (λ a. times test r k >>= λ y. pure (a ∷ y))
      taken k i b at_one e =
          ap (λ b. cond b (and_then (r i.state i.rest) (λ a. times test r k >>= λ y. pure (a ∷ y))) (Took [] i.rest i.state)) at_one
          ∙ ap (λ b. and_then b (λ a. times test r k >>= λ y. pure (a ∷ y))) e

-- an error that is handed on
pub gives_err : {Y : Type 0} (a : Answer Y) (r : Result Y Fault) (f : Fault) (i : Input) → IsErrAnd r (λ e. e ≡ f) → Gives a (Err f) i → Gives a r i
gives_err a (Ok x) f i h w = absurd h
gives_err a (Err e) f i h w = subst (λ e. Gives a (Err e) i) (sym h) w
