-- Plays with a bound: a greater bound goes on where a smaller one cuts, and a cut comes only after so many jumps.
use Rattle.std.proofs.Common.{◌≡◌, ℕ, zero, suc, ◌+◌, ◌≤◌, Option, Some, None, Bool, true, false, Result, Ok, Err, refl, sym, ap, subst, arith}
use Rattle.filc_num.specs.declared.integer.IntType.{IntType}
use Rattle.filc_num.specs.declared.integer.BinOp.{BinOp}
use Rattle.filc_num.specs.declared.integer.ArithFault.{ArithFault}
use Rattle.filc_num.specs.declared.reason.Reason.{Reason}
use Rattle.ideal_machine.specs.declared.value.Value.{Value}
use Rattle.ideal_machine.specs.Queries.{Reply, event_of}
use Rattle.ideal_machine.specs.Play.{Stop, Finished, Waits, Cut, Play, Gives, Stops, Asks, Jump, Call, bind, Log, with_event, with_jump, with_call, Behaviour, Goes, Ends, run}
use Rattle.ideal_machine.specs.Phrases.{unless_refused, leave, put_out, operator_result, arithmetic_result, arithmetic, if_zero}
use Rattle.ideal_machine.specs.Reaches.{Reaches}
use Rattle.ideal_machine.proofs.Runs.{both_reply, one_reply, run_later}

-- ---- a play with a greater bound

-- q is p, with other plays in the place of some of its cuts
abbrev pub IsCutOf : {S A : Type 0} → Play S A → Play S A → Type 0
IsCutOf (Gives s v) q = q ≡ Gives s v
IsCutOf (Stops Cut) q = Unit {0}
IsCutOf (Stops (Finished f)) q = q ≡ Stops (Finished f)
IsCutOf (Stops Waits) q = q ≡ Stops Waits
IsCutOf {S} {A} (Asks e k) q = (k' : Reply e → Play S A) × (q ≡ Asks e k') × ((r : Reply e) → IsCutOf (k r) (k' r))
IsCutOf {S} {A} (Jump p) q = (p' : Play S A) × (q ≡ Jump p') × IsCutOf p p'
IsCutOf {S} {A} (Call p) q = (p' : Play S A) × (q ≡ Call p') × IsCutOf p p'

pub cut_self : {S A : Type 0} (p : Play S A) → IsCutOf p p
cut_self (Gives s v) = refl
cut_self (Stops Cut) = tt
cut_self (Stops (Finished f)) = refl
cut_self (Stops Waits) = refl
cut_self (Asks e k) = (k, refl, λ r. cut_self (k r))
cut_self (Jump p) = (p, refl, cut_self p)
cut_self (Call p) = (p, refl, cut_self p)

-- where both go on as cuts, both together are
pub bind_cut :
    {S A T B : Type 0} (p p' : Play S A) (go go' : S → A → Play T B) → IsCutOf p p' → ((s : S) (v : A) → IsCutOf (go s v) (go' s v)) →
    IsCutOf (bind p go) (bind p' go')
bind_cut (Gives s v) p' go go' h each = subst (λ q. IsCutOf (go s v) (bind q go')) (sym h) (each s v)
bind_cut (Stops Cut) p' go go' h each = tt
bind_cut (Stops (Finished f)) p' go go' h each = ap (λ q. bind q go') h
bind_cut (Stops Waits) p' go go' h each = ap (λ q. bind q go') h
bind_cut (Asks e k) p' go go' h each =
    (λ r. bind (h.0 r) go', ap (λ q. bind q go') h.1, λ r. bind_cut (k r) (h.0 r) go go' (h.2 r) each)
bind_cut (Jump p) p' go go' h each = (bind h.0 go', ap (λ q. bind q go') h.1, bind_cut p h.0 go go' h.2 each)
bind_cut (Call p) p' go go' h each = (bind h.0 go', ap (λ q. bind q go') h.1, bind_cut p h.0 go go' h.2 each)

-- one of two
pub zero_cut :
    {S A : Type 0} (n : ℕ) (p q p' q' : Play S A) → IsCutOf p p' → IsCutOf q q' → IsCutOf (if_zero n p q) (if_zero n p' q')
zero_cut zero p q p' q' h k = h
zero_cut (suc n) p q p' q' h k = k

-- a run that was cut says a prefix, any other says all
pub cut_reaches : {S A : Type 0} (p q : Play S A) (w : Log) → IsCutOf p q → Reaches (run p w) (run q w)
cut_reaches (Gives s v) q w h = ap (λ q. run q w) h
cut_reaches (Stops Cut) q w h = run_later q w
cut_reaches (Stops (Finished f)) q w h = ap (λ q. run q w) h
cut_reaches (Stops Waits) q w h = ap (λ q. run q w) h
cut_reaches (Asks e k) q w h =
    subst (λ q. Reaches (run (Asks e k) w) (run q w)) (sym h.1)
    (both_reply Reaches e w.answers w (λ r. run (k r)) (λ r. run (h.0 r)) refl
    (λ r rest. cut_reaches (k r) (h.0 r) (with_event (event_of e r) rest w) (h.2 r)))
cut_reaches (Jump p) q w h =
    subst (λ q. Reaches (run (Jump p) w) (run q w)) (sym h.1) (cut_reaches p h.0 (with_jump w) h.2)
cut_reaches (Call p) q w h =
    subst (λ q. Reaches (run (Call p) w) (run q w)) (sym h.1) (cut_reaches p h.0 (with_call w) h.2)

-- ---- how far a cut is

-- there is no backward jump before a cut that is met at once
abbrev pub IsFarStop : ℕ → Stop → Type 0
IsFarStop n Cut = n ≡ 0
IsFarStop n (Finished f) = Unit {0}
IsFarStop n Waits = Unit {0}

-- each way to a cut passes at least n backward jumps
abbrev pub IsFar : {S A : Type 0} → ℕ → Play S A → Type 0
IsFar n (Gives s v) = Unit {0}
IsFar n (Stops e) = IsFarStop n e
IsFar n (Asks e k) = (r : Reply e) → IsFar n (k r)
IsFar zero (Jump p) = Unit {0}
IsFar (suc n) (Jump p) = IsFar n p
IsFar n (Call p) = IsFar n p

pub far_zero : {S A : Type 0} (p : Play S A) → IsFar zero p
far_zero (Gives s v) = tt
far_zero (Stops Cut) = refl
far_zero (Stops (Finished f)) = tt
far_zero (Stops Waits) = tt
far_zero (Asks e k) = λ r. far_zero (k r)
far_zero (Jump p) = tt
far_zero (Call p) = far_zero p

pub nearer : {S A : Type 0} (n : ℕ) (p : Play S A) → IsFar (suc n) p → IsFar n p
nearer n (Gives s v) h = tt
nearer n (Stops Cut) h = absurd (omega arith)
nearer n (Stops (Finished f)) h = tt
nearer n (Stops Waits) h = tt
nearer n (Asks e k) h = λ r. nearer n (k r) (h r)
nearer zero (Jump p) h = tt
nearer (suc n) (Jump p) h = nearer n p h
nearer n (Call p) h = nearer n p h

pub bind_far :
    {S A T B : Type 0} (n : ℕ) (p : Play S A) (go : S → A → Play T B) → IsFar n p → ((s : S) (v : A) → IsFar n (go s v)) → IsFar n (bind p go)
bind_far n (Gives s v) go h each = each s v
bind_far n (Stops e) go h each = h
bind_far n (Asks e k) go h each = λ r. bind_far n (k r) go (h r) each
bind_far zero (Jump p) go h each = tt
bind_far (suc n) (Jump p) go h each = bind_far n p go h (λ s v. nearer n (go s v) (each s v))
bind_far n (Call p) go h each = bind_far n p go h each

pub zero_far : {S A : Type 0} (n q : ℕ) (a b : Play S A) → IsFar n a → IsFar n b → IsFar n (if_zero q a b)
zero_far n zero a b h k = h
zero_far n (suc q) a b h k = k

-- a cut run has made this many backward jumps
abbrev pub HasJumps : {S A : Type 0} → ℕ → Behaviour S A → Type 0
HasJumps t (Ends Cut w) = t ≤ w.jumps
HasJumps t (Goes s v w) = Unit {0}
HasJumps t (Ends (Finished f) w) = Unit {0}
HasJumps t (Ends Waits w) = Unit {0}

has_fewer : {S A : Type 0} (t t' : ℕ) (o : Behaviour S A) → t' ≤ t → HasJumps t o → HasJumps t' o
has_fewer t t' (Ends Cut w) le h = omega (arith, h)
has_fewer t t' (Goes s v w) le h = tt
has_fewer t t' (Ends (Finished f) w) le h = tt
has_fewer t t' (Ends Waits w) le h = tt

pub far_after : {S A : Type 0} (n : ℕ) (p : Play S A) (w : Log) → IsFar n p → HasJumps (w.jumps + n) (run p w)
far_after n (Gives s v) w h = tt
far_after n (Stops Cut) w h = omega arith
far_after n (Stops (Finished f)) w h = tt
far_after n (Stops Waits) w h = tt
far_after n (Asks e k) w h =
    one_reply (HasJumps (w.jumps + n)) e w.answers w (λ r. run (k r)) tt
    (λ r rest. far_after n (k r) (with_event (event_of e r) rest w) (h r))
far_after zero (Jump p) w h =
    has_fewer (w.jumps + 1 + 0) (w.jumps + 0) (run p (with_jump w)) (omega arith) (far_after zero p (with_jump w) (far_zero p))
far_after (suc n) (Jump p) w h =
    has_fewer (w.jumps + 1 + n) (w.jumps + suc n) (run p (with_jump w)) (omega arith) (far_after n p (with_jump w) h)
far_after n (Call p) w h = far_after n p (with_call w) h

-- ---- phrases have no cut

pub refused_far : {S A : Type 0} (n line : ℕ) (go : Play S A) → IsFar n go → (r : Option Reason) → IsFar n (unless_refused line go r)
refused_far n line go h None = h
refused_far n line go h (Some reason) = λ _. tt

pub out_far : (n : ℕ) (v : Value) (line : ℕ) → IsFar n (put_out v line)
out_far n v line = λ r. refused_far n line (Gives tt tt) tt r

pub leave_far : (n : ℕ) (main : Bool) (v : Value) → IsFar n (leave main v)
leave_far n true v = λ _. tt
leave_far n false v = λ _. tt

result_far : (n : ℕ) (r : Result ℕ ArithFault) (line : ℕ) → IsFar n (arithmetic_result r line)
result_far n (Ok m) line = tt
result_far n (Err fault) line = λ _. tt

pub arithmetic_far : (n : ℕ) (op : BinOp) (ty : IntType) (a b : Value) (line : ℕ) → IsFar n (arithmetic op ty a b line)
arithmetic_far n op ty a b line = result_far n (operator_result op ty a.number b.number) line
