-- Compare and exchange: what is expected is read, the exchange is made, and where it isn't what was found is stored.
use Rattle.std.proofs.Common.{◌≡◌, ◌≢◌, ℕ, ◌+◌, ◌%◌, ◌<◌, ◌≤◌, List, [], ◌∷◌, Bool, true, false, refl, sym, ap, ◌∙◌, subst, arith}
use Rattle.std.specs.Prelude.{◌^◌, ◌==◌, All, if◌then◌else◌}
use Rattle.std.proofs.lemmas.List.Elements.{All-head}
use Rattle.std.proofs.lemmas.Nat.{mod_below}
use Rattle.filc_num.specs.Integers.{convert_of, binary_of, bytes_of, truth_of}
use Rattle.filc_num.specs.declared.integer.IntType.{IntType}
use Rattle.filc_num.specs.declared.integer.IntType.TheVariants.{Bool as BoolType, I8, U8, I16, U16, I32, U32, I64, U64}
use Rattle.filc_num.specs.declared.integer.BinOp.TheVariants.{Eq}
use Rattle.c_tree.specs.declared.operation.Access.{Access}
use Rattle.c_tree.specs.declared.operation.Access.TheVariants as access
use Rattle.c_tree.specs.declared.operation.Operation.{Operation}
use Rattle.c_tree.specs.declared.operation.Operation.TheVariants as op
use Rattle.whole_code.specs.declared.op.Op.TheVariants as code
use Rattle.whole_code.specs.Numbers.{type_at, type_number}
use Rattle.ideal_machine.specs.declared.value.Value.{Value}
use Rattle.ideal_machine.specs.declared.event.Access.{Access as MemoryAccess}
use Rattle.ideal_machine.specs.declared.event.Event.TheVariants.{CasInt}
use Rattle.ideal_machine.specs.declared.event.Answer.{Answer}
use Rattle.ideal_machine.specs.declared.event.Answer.TheVariants.{Granted, Refused, Done, Number, Found as FoundAnswer, Opened, Made, Absent, End as InputEnd}
use Rattle.ideal_machine.specs.Queries.{Makes}
use Rattle.ideal_machine.specs.Values.{State, integer, value_at, put_at}
use Rattle.ideal_machine.specs.Play.{Play, Gives, bind, Log, Behaviour, Goes, Ends, log_of, run_query, run}
use Rattle.ideal_machine.specs.Phrases.{Phrase, arithmetic, if_zero}
use Rattle.ideal_machine.specs.Retries.{ask}
use Rattle.ideal_machine.specs.IntAccess.{check_access, load_int, store_int, exchange_int, is_exchanged}
use Rattle.ideal_machine.specs.PointerAccess.{PairExchange, load_pointer, store_pointer, exchange_pair}
use Rattle.ideal_machine.proofs.Runs.{then_do, run_bind}
use Rattle.ideal_machine.proofs.Values.{value_at-put_same, value_at-put_other}
use Rattle.tree_play.specs.Memory.{after_int, after_pair, compare_pair}
use Rattle.whole_thread.specs.Act.{made_number}
use Rattle.expr_gen.specs.Operations.{unsigned_of}
use Rattle.expr_gen.specs.Code.{op_code}
use Rattle.expr_gen.specs.Stretch.{Site, Between, Bounded, from, Landing, Runs, IsWordAnswer, HasWords, Matches}
use Rattle.expr_gen.proofs.Numbers.{type_back}
use Rattle.expr_gen.proofs.Registers.{matches_same}
use Rattle.expr_gen.proofs.Stretch.{line_at, bind_bind, run_words, came, Has, at_op, jump_on, branches}
use Rattle.expr_gen.proofs.Instructions.{const_runs, convert_runs, binary_known, load_runs, store_runs}
use Rattle.expr_gen.proofs.Rounds.{exchange_runs}
use Rattle.expr_gen.proofs.Landing.{Into, puts, Applied}

-- ---- what was found is a word

abbrev IsSmall : Behaviour (Unit {0}) ℕ → Type 0
IsSmall (Goes s n w) = n < 2 ^ 64
IsSmall (Ends e w) = Unit {0}

found_small : (place : MemoryAccess) (expected desired : ℕ) (left : List Answer) (w : Log) → All IsWordAnswer left →
    IsSmall (run_query (Makes (CasInt place expected desired)) left w (λ n w1. Goes tt n w1))
found_small place expected desired [] w h = tt
found_small place expected desired (Number n ∷ rest) w h = All-head IsWordAnswer (Number n) rest h
found_small place expected desired (Granted ∷ rest) w h = tt
found_small place expected desired (Refused reason ∷ rest) w h = tt
found_small place expected desired (Done ∷ rest) w h = tt
found_small place expected desired (FoundAnswer found ∷ rest) w h = tt
found_small place expected desired (Opened address half ∷ rest) w h = tt
found_small place expected desired (Made object address ∷ rest) w h = tt
found_small place expected desired (Absent ∷ rest) w h = tt
found_small place expected desired (InputEnd ∷ rest) w h = tt

after_check : (o : Behaviour (Unit {0}) MemoryAccess) (expected desired : ℕ) → HasWords (log_of o) → IsSmall (then_do o (λ _ place. run (ask (CasInt place expected desired))))
after_check (Goes s place w) expected desired words = found_small place expected desired w.answers w words
after_check (Ends e w) expected desired words = tt

exchange_small : (base : ℕ → ℕ) (ty : IntType) (p expected desired : Value) (line : ℕ) (w : Log) → HasWords w → IsSmall (run (exchange_int base ty p expected desired line) w)
exchange_small base ty p expected desired line w words =
    let check = check_access base p (bytes_of ty) true line in
    subst IsSmall (sym (run_bind check (λ _ place. ask (CasInt place expected.number desired.number)) w))
    (after_check (run check w) expected.number desired.number (run_words check w words))

-- ---- whether the exchange was made

same_test : (n e m : ℕ) → n < 2 ^ 64 → 0 < m → m ≤ 2 ^ 64 → truth_of (n % 2 ^ 64 == (e % m) % 2 ^ 64) ≡ truth_of (n == e % m)
same_test n e m small some most =
    let x : n % 2 ^ 64 ≡ n = omega (arith, small) in
    let below : e % m < m = mod_below e m some in
    let y : (e % m) % 2 ^ 64 ≡ e % m = omega (arith, below, most) in
    ap (λ z. truth_of (z == (e % m) % 2 ^ 64)) x ∙ ap (λ z. truth_of (n == z)) y

test_arithmetic : (ty : IntType) (n line : ℕ) (expected : Value) → n < 2 ^ 64 →
    arithmetic Eq U64 (integer n) (integer (convert_of expected.number (unsigned_of ty))) line ≡ Gives tt (integer (truth_of (is_exchanged ty n expected)))
unfolding binary_of convert_of
test_arithmetic BoolType n line v h = ap (λ (x : ℕ). Gives tt (integer x)) (same_test n v.number (2 ^ 8) h (omega arith) (omega arith))
test_arithmetic I8 n line v h = ap (λ (x : ℕ). Gives tt (integer x)) (same_test n v.number (2 ^ 8) h (omega arith) (omega arith))
test_arithmetic U8 n line v h = ap (λ (x : ℕ). Gives tt (integer x)) (same_test n v.number (2 ^ 8) h (omega arith) (omega arith))
test_arithmetic I16 n line v h = ap (λ (x : ℕ). Gives tt (integer x)) (same_test n v.number (2 ^ 16) h (omega arith) (omega arith))
test_arithmetic U16 n line v h = ap (λ (x : ℕ). Gives tt (integer x)) (same_test n v.number (2 ^ 16) h (omega arith) (omega arith))
test_arithmetic I32 n line v h = ap (λ (x : ℕ). Gives tt (integer x)) (same_test n v.number (2 ^ 32) h (omega arith) (omega arith))
test_arithmetic U32 n line v h = ap (λ (x : ℕ). Gives tt (integer x)) (same_test n v.number (2 ^ 32) h (omega arith) (omega arith))
test_arithmetic I64 n line v h = ap (λ (x : ℕ). Gives tt (integer x)) (same_test n v.number (2 ^ 64) h (omega arith) (omega arith))
test_arithmetic U64 n line v h = ap (λ (x : ℕ). Gives tt (integer x)) (same_test n v.number (2 ^ 64) h (omega arith) (omega arith))

-- ---- the instruction

module _ (site : Site) {S A : Type 0} (Q : Landing S A) where
  small_then : (K : ℕ → ℕ → Phrase ℕ) (w : Log) (o : Behaviour (Unit {0}) ℕ) (go : ℕ → Play S A) (k : Bounded) → HasWords (log_of o) → IsSmall o →
      ((m : ℕ) → run (k m) w ≡ then_do o (λ _ n. run (K m n))) →
      ((n : ℕ) (w1 : Log) → HasWords w1 → n < 2 ^ 64 → Runs site Q (λ m. K m n) w1 (run (go n) w1)) → Runs site Q k w (then_do o (λ _ n. run (go n)))
  small_then K w (Goes s n w1) go k words small same each = came site Q k w (λ m. K m n) w1 (run (go n) w1) (λ m. (m, same m)) (each n w1 words small)
  small_then K w (Ends e w1) go k words small same each = (0, same 0)

  cas_runs :
      (ty : IntType) (pc line d a e n : ℕ) (p expected desired : Value) (regs : List Value) (w : Log) (go : ℕ → Play S A) → HasWords w → Has site pc line (code.CasInt d a e n (type_number ty)) →
      value_at regs a ≡ p → value_at regs e ≡ expected → value_at regs n ≡ desired →
      ((found : ℕ) (w1 : Log) → HasWords w1 → found < 2 ^ 64 → Runs site Q (from site (pc + 1) (put_at regs d (integer found))) w1 (run (go found) w1)) →
      Runs site Q (from site pc regs) w (run (bind (exchange_int site.start.base ty p expected desired (line_at site line)) (λ _ found. go found)) w)
  cas_runs ty pc line d a e n p expected desired regs w go words h ep ee en each =
      let l = line_at site line in
      let b = site.start.base in
      let x = value_at regs a in
      let y = value_at regs e in
      let z = value_at regs n in
      let u = type_at (type_number ty) in
      let next = λ (m found : ℕ). from site (pc + 1) (put_at regs d (integer found)) m in
      let said = exchange_int b ty p expected desired l in
      let same =
      ap (λ u. exchange_int b u x y z l) (type_back ty) ∙ ap (λ v. exchange_int b ty v y z l) ep ∙ ap (λ v. exchange_int b ty p v z l) ee
      ∙ ap (λ v. exchange_int b ty p expected v l) en in
      at_op site Q pc regs w line (code.CasInt d a e n (type_number ty)) (run (bind said (λ _ found. go found)) w) h
      (subst (λ phrase. Runs site Q (λ m. bind phrase (λ _ found. next m found)) w (run (bind said (λ _ found. go found)) w)) (sym same)
      (subst (Runs site Q (λ m. bind said (λ _ found. next m found)) w) (sym (run_bind said (λ _ found. go found) w))
      (small_then next w (run said w) go (λ m. bind said (λ _ found. next m found)) (run_words said w words) (exchange_small b ty p expected desired l w words)
      (λ m. run_bind said (λ _ found. next m found) w) each)))

-- ---- the operation

-- a choice by a truth value
choice_by_truth : {S A : Type 0} (made : Bool) (a b : Phrase A) (go : A → Play S A) → bind (if made then a else b) (λ _ v. go v) ≡ if_zero (truth_of made) (bind b (λ _ v. go v)) (bind a (λ _ v. go v))
choice_by_truth true a b go = refl
choice_by_truth false a b go = refl

module _ (site : Site) (rounds : ℕ) (call : (function line : ℕ) → List Value → Phrase Value) (k t to : ℕ) (base : List Value) (le : k ≤ t) where
  module _ (line pc n : ℕ) (regs : List Value) (env : State) (w : Log) (words : HasWords w) (matches : Matches k t base regs env) where
    abbrev Plays : Operation → (c : ℕ) → Type 0
    Plays o c = Applied site rounds call k t to base le o line pc c regs env w

    abbrev Stands : Operation → Type 0
    Stands o = Between site pc (op_code site.library o line t n pc) to

    abbrev p : Value
    p = value_at regs t

    abbrev e : Value
    e = value_at regs (t + 1)

    abbrev v : Value
    v = value_at regs (t + 1 + 1)

    third : value_at regs (t + 2) ≡ v
    third = let e : t + 2 ≡ t + 1 + 1 = omega arith in ap (value_at regs) e

    abbrev Below : List Value → Type 0
    Below regs1 = (x : ℕ) → x < t + 3 → value_at regs1 x ≡ value_at regs x

    below_put : (d : ℕ) (x : Value) (regs1 : List Value) → t + 3 ≤ d → Below regs1 → Below (put_at regs1 d x)
    below_put d x regs1 le below y lt = let ne : y ≢ d = omega (arith, lt, le) in value_at-put_other regs1 d y x ne ∙ below y lt

    still : (regs1 : List Value) → Below regs1 → Matches k t base regs1 env
    still regs1 below = matches_same k t base regs regs1 env le (λ x lt. let l3 : x < t + 3 = omega (arith, lt) in below x l3) matches

    -- 1 comes into t, and a jump leads to the end
    made_runs : (at end : ℕ) (regs1 : List Value) (w : Log) → Has site at line (code.Const t 1) → Has site (at + 1) line (code.Jump end) → at + 1 < end → end ≡ to → Below regs1 →
        Runs site (Into site k t to base le) (from site at regs1) w (Goes env (integer 1) w)
    made_runs at end regs1 w h1 h2 lt e below =
        let Q = Into site k t to base le in
        let regs2 = put_at regs1 t (integer 1) in
        const_runs site Q at line t 1 regs1 w (Goes env (integer 1) w) h1
        (came site Q (from site (at + 1) regs2) w (from site end regs2) w (Goes env (integer 1) w) (jump_on site line (at + 1) end regs2 w lt h2)
        (puts site k t to base le end regs1 env (integer 1) w e (still regs1 below)))

    integer_plays : (ty : IntType) → Stands (op.Cas (access.Integer ty)) → Plays (op.Cas (access.Integer ty)) 3
    integer_plays ty has =
        let Q = Into site k t to base le in
        let l = line_at site line in
        let b = site.start.base in
        let give = λ (x : Value). Gives env x in
        let after = λ (expected : Value) (found : ℕ). after_int b ty e expected l found in
        let exchange = λ (expected : Value). exchange_int b ty p expected v l in
        subst (Runs site Q (from site pc regs) w) (sym (bind_bind (load_int b ty e l) (λ _ expected. bind (exchange expected) (λ _ found. after expected found)) (λ _ x. give x) w))
        (load_runs site Q (access.Integer ty) pc line (t + 3) (t + 1) e regs w (λ expected. bind (bind (exchange expected) (λ _ found. after expected found)) (λ _ x. give x)) words has.0 refl
        (λ expected w1 words1.
        let regs1 = put_at regs (t + 3) expected in
        let below1 = below_put (t + 3) expected regs (omega arith) (λ x _. refl) in
        subst (Runs site Q (from site (pc + 1) regs1) w1) (sym (bind_bind (exchange expected) (λ _ found. after expected found) (λ _ x. give x) w1))
        (cas_runs site Q ty (pc + 1) line (t + 4) t (t + 3) (t + 2) p expected v regs1 w1 (λ found. bind (after expected found) (λ _ x. give x)) words1 has.1.0
        (below1 t (omega arith)) (value_at-put_same regs (t + 3) expected) (below1 (t + 2) (omega arith) ∙ third)
        (λ found w2 words2 small.
        let made = is_exchanged ty found expected in
        let regs2 = put_at regs1 (t + 4) (integer found) in
        let below2 = below_put (t + 4) (integer found) regs1 (omega arith) below1 in
        let low = integer (convert_of expected.number (unsigned_of ty)) in
        let regs3 = put_at regs2 (t + 5) low in
        let regs4 = put_at regs3 (t + 5) (integer (truth_of made)) in
        let below4 = below_put (t + 5) (integer (truth_of made)) regs3 (omega arith) (below_put (t + 5) low regs2 (omega arith) below2) in
        let n34 : t + 3 ≢ t + 4 = omega arith in
        let n45 : t + 4 ≢ t + 5 = omega arith in
        let found_at : value_at regs4 (t + 4) ≡ integer found =
        value_at-put_other regs3 (t + 5) (t + 4) (integer (truth_of made)) n45 ∙ value_at-put_other regs2 (t + 5) (t + 4) low n45 ∙ value_at-put_same regs1 (t + 4) (integer found) in
        let store : Phrase Value = bind (store_int b ty e (integer (convert_of found ty)) l) (λ _ _. Gives tt (integer 0)) in
        let play = run (bind (after expected found) (λ _ x. give x)) w2 in
        let i2 = pc + 1 + 1 in
        let i4 = i2 + 1 + 1 in
        let failed = i4 + 1 + 1 + 1 in
        let target : pc + 7 ≡ failed = omega arith in
        convert_runs site Q i2 line (t + 5) (t + 3) (unsigned_of ty) expected regs2 w2 play has.1.1.0
        (value_at-put_other regs1 (t + 4) (t + 3) (integer found) n34 ∙ value_at-put_same regs (t + 3) expected)
        (binary_known site Q (i2 + 1) line (t + 5) (t + 4) (t + 5) Eq U64 (integer found) low (integer (truth_of made)) regs3 w2 play has.1.1.1.0
        (value_at-put_other regs2 (t + 5) (t + 4) low n45 ∙ value_at-put_same regs1 (t + 4) (integer found)) (value_at-put_same regs2 (t + 5) low) (test_arithmetic ty found l expected small)
        (subst (λ x. Runs site Q (from site i4 regs4) w2 (run x w2)) (sym (choice_by_truth made (Gives tt (integer 1)) store give))
        (branches site Q line (t + 5) i4 failed (truth_of made) regs4 w2 (bind store (λ _ x. give x)) (Gives env (integer 1))
        (subst (λ x. Has site i4 line (code.JumpZero (t + 5) x)) target has.1.1.1.1.0)
        (ap (λ (x : Value). x.number) (value_at-put_same regs3 (t + 5) (integer (truth_of made)))) (omega arith)
        (λ _.
        let back = integer (convert_of found ty) in
        let regs5 = put_at regs4 (t + 4) back in
        let below5 = below_put (t + 4) back regs4 (omega arith) below4 in
        subst (Runs site Q (from site failed regs4) w2) (sym (bind_bind (store_int b ty e back l) (λ _ _. Gives tt (integer 0)) (λ _ x. give x) w2))
        (convert_runs site Q failed line (t + 4) (t + 4) ty (integer found) regs4 w2 (run (bind (store_int b ty e back l) (λ _ _. give (integer 0))) w2) has.1.1.1.1.1.1.1.0 found_at
        (store_runs site Q (access.Integer ty) (failed + 1) line (t + 1) (t + 4) e back regs5 w2 (give (integer 0)) words2 has.1.1.1.1.1.1.1.1.0
        (below5 (t + 1) (omega arith)) (value_at-put_same regs4 (t + 4) back)
        (λ w3 _.
        const_runs site Q (failed + 1 + 1) line t 0 regs5 w3 (Goes env (integer 0) w3) has.1.1.1.1.1.1.1.1.1.0
        (puts site k t to base le (failed + 1 + 1 + 1) regs5 env (integer 0) w3 has.1.1.1.1.1.1.1.1.1.1 (still regs5 below5))))))
        (made_runs (i4 + 1) (pc + 10) regs4 w2 has.1.1.1.1.1.0 has.1.1.1.1.1.1.0 (omega arith) (omega (arith, has.1.1.1.1.1.1.1.1.1.1)) below4))))))))

    pair_plays : (has : Between site pc (op_code site.library (op.Cas access.Box) line t n pc) to) → 0 < rounds →
        Runs site (Into site k t to base le) (from site pc regs) w (run (bind (compare_pair site.start.base rounds p e v (line_at site line)) (λ _ x. Gives env x)) w)
    pair_plays has more =
        let Q = Into site k t to base le in
        let l = line_at site line in
        let b = site.start.base in
        let give = λ (x : Value). Gives env x in
        let exchange = λ (expected : Value). exchange_pair b rounds p expected v l in
        let after = λ (x : PairExchange). after_pair b e l x in
        subst (Runs site Q (from site pc regs) w) (sym (bind_bind (load_pointer b e l) (λ _ expected. bind (exchange expected) (λ _ x. after x)) (λ _ x. give x) w))
        (load_runs site Q access.Box pc line (t + 3) (t + 1) e regs w (λ expected. bind (bind (exchange expected) (λ _ x. after x)) (λ _ x. give x)) words has.0 refl
        (λ expected w1 words1.
        let regs1 = put_at regs (t + 3) expected in
        let below1 = below_put (t + 3) expected regs (omega arith) (λ x _. refl) in
        subst (Runs site Q (from site (pc + 1) regs1) w1) (sym (bind_bind (exchange expected) (λ _ x. after x) (λ _ x. give x) w1))
        (exchange_runs site Q rounds more (pc + 1) line (t + 4) (t + 5) t (t + 3) (t + 2) p expected v regs1 w1 (λ x. bind (after x) (λ _ y. give y)) words1 has.1.0
        (below1 t (omega arith)) (value_at-put_same regs (t + 3) expected) (below1 (t + 2) (omega arith) ∙ third)
        (λ x w2 words2.
        let regs2 = put_at regs1 (t + 4) x.found in
        let regs3 = put_at regs2 (t + 5) (integer (made_number x.is_made)) in
        let below3 = below_put (t + 5) (integer (made_number x.is_made)) regs2 (omega arith) (below_put (t + 4) x.found regs1 (omega arith) below1) in
        let n45 : t + 4 ≢ t + 5 = omega arith in
        let found_at : value_at regs3 (t + 4) ≡ x.found = value_at-put_other regs2 (t + 5) (t + 4) (integer (made_number x.is_made)) n45 ∙ value_at-put_same regs1 (t + 4) x.found in
        let store : Phrase Value = bind (store_pointer b e x.found l) (λ _ _. Gives tt (integer 0)) in
        let i2 = pc + 1 + 1 in
        let failed = i2 + 1 + 1 + 1 in
        let target : pc + 5 ≡ failed = omega arith in
        subst (λ z. Runs site Q (from site i2 regs3) w2 (run z w2)) (sym (choice_by_truth x.is_made (Gives tt (integer 1)) store give))
        (branches site Q line (t + 5) i2 failed (truth_of x.is_made) regs3 w2 (bind store (λ _ y. give y)) (Gives env (integer 1))
        (subst (λ z. Has site i2 line (code.JumpZero (t + 5) z)) target has.1.1.0)
        (ap (λ (y : Value). y.number) (value_at-put_same regs2 (t + 5) (integer (made_number x.is_made)))) (omega arith)
        (λ _.
        subst (Runs site Q (from site failed regs3) w2) (sym (bind_bind (store_pointer b e x.found l) (λ _ _. Gives tt (integer 0)) (λ _ y. give y) w2))
        (store_runs site Q access.Pointer failed line (t + 1) (t + 4) e x.found regs3 w2 (give (integer 0)) words2 has.1.1.1.1.1.0 (below3 (t + 1) (omega arith)) found_at
        (λ w3 _.
        const_runs site Q (failed + 1) line t 0 regs3 w3 (Goes env (integer 0) w3) has.1.1.1.1.1.1.0
        (puts site k t to base le (failed + 1 + 1) regs3 env (integer 0) w3 has.1.1.1.1.1.1.1 (still regs3 below3)))))
        (made_runs (i2 + 1) (pc + 7) regs3 w2 has.1.1.1.0 has.1.1.1.1.0 (omega arith) (omega (arith, has.1.1.1.1.1.1.1)) below3))))))

    pub cas_plays : (lies : Access) → 0 < rounds → Stands (op.Cas lies) → Plays (op.Cas lies) 3
    cas_plays (access.Integer ty) more has = integer_plays ty has
    cas_plays access.Pointer more has = pair_plays has more
    cas_plays access.Box more has = pair_plays has more
