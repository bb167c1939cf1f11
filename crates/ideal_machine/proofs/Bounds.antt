-- Every phrase with a greater bound on rounds goes on where the one with the smaller was cut, and is cut only after as many
-- backward jumps as its bound.
use Rattle.std.proofs.Common.{ℕ, zero, suc, ◌≤◌, Option, Some, None, refl, arith}
use Rattle.ideal_machine.specs.declared.value.Half.{Half}
use Rattle.ideal_machine.specs.declared.value.Half.TheVariants.{Nothing, Freed, Object as ObjectHalf, Function as FunctionHalf}
use Rattle.ideal_machine.specs.Play.{Play, Jump}
use Rattle.ideal_machine.specs.Phrases.{Phrase, trap, exit}
use Rattle.ideal_machine.specs.Retries.{or_else, retry}
use Rattle.ideal_machine.specs.IntAccess.{access_at, check_access}
use Rattle.ideal_machine.specs.PointerAccess.{check_store}
use Rattle.ideal_machine.proofs.Cuts.{refused_far, IsCutOf, cut_self, bind_cut, IsFar, nearer, bind_far}
use Rattle.ideal_machine.proofs.Relates.{Relates}

-- ---- a greater bound

or_else_cut : {X : Type 0} (found : Option X) (p q : Phrase X) → IsCutOf p q → IsCutOf (or_else found p) (or_else found q)
or_else_cut None p q h = h
or_else_cut (Some x) p q h = refl

retry_cut : {X : Type 0} (n n' : ℕ) → n ≤ n' → (step : Phrase (Option X)) → IsCutOf (retry n step) (retry n' step)
retry_cut zero n' le step = tt
retry_cut (suc n) zero le step = absurd (omega (arith, le))
retry_cut (suc n) (suc n') le step =
    bind_cut step step _ _ (cut_self step)
    (λ _ found. or_else_cut found (Jump (retry n step)) (Jump (retry n' step)) (retry n' step, refl, retry_cut n n' (omega (arith, le)) step))

pub cuts_relate : (n n' : ℕ) → n ≤ n' → Relates n n' (λ S A p q. IsCutOf p q)
cuts_relate n n' le = record {
  gives = λ state value. refl;
  checks = λ base p width write line. cut_self (check_access base p width write line);
  cell_checks = λ base p line. cut_self (check_store base p line);
  asks = λ query next next' e h. (next', refl, h);
  traps = λ reason line. cut_self (trap reason line);
  exits = λ value. cut_self (exit value);
  jumps = λ p p' h. (p', refl, h);
  calls = λ p p' h. (p', refl, h);
  binds = λ p p' go go' h each. bind_cut p p' go go' h each;
  retries = λ step h. retry_cut n n' le step;
}

-- ---- how far a cut is

far_jump : {S A : Type 0} (n : ℕ) (p : Play S A) → IsFar n p → IsFar n (Jump p)
far_jump zero p h = tt
far_jump (suc n) p h = nearer n p h

or_else_far : {X : Type 0} (n : ℕ) (found : Option X) (p : Phrase X) → IsFar n p → IsFar n (or_else found p)
or_else_far n None p h = h
or_else_far n (Some x) p h = tt

retry_far : {X : Type 0} (n : ℕ) (step : Phrase (Option X)) → IsFar n step → IsFar n (retry n step)
retry_far zero step h = refl
retry_far (suc n) step h =
    bind_far (suc n) step _ h (λ _ found. or_else_far (suc n) found (Jump (retry n step)) (retry_far n step (nearer n step h)))

access_far : (n : ℕ) (base : ℕ → ℕ) (half : Half) (address width : ℕ) → IsFar n (access_at base half address width)
access_far n base (ObjectHalf m) address width = tt
access_far n base Nothing address width = tt
access_far n base Freed address width = tt
access_far n base (FunctionHalf f) address width = tt

pub far_relates : (n : ℕ) → Relates n n (λ S A p q. IsFar n p)
far_relates n = record {
  gives = λ state value. tt;
  checks = λ base p width write line reply. refused_far n line _ (access_far n base p.half p.number width) reply;
  cell_checks = λ base p line reply. refused_far n line _ (access_far n base p.half p.number 8) reply;
  asks = λ query next next' e h. h;
  traps = λ reason line _. tt;
  exits = λ value _. tt;
  jumps = λ p p' h. far_jump n p h;
  calls = λ p p' h. h;
  binds = λ p p' go go' h each. bind_far n p go h each;
  retries = λ step h. retry_far n step h;
}
