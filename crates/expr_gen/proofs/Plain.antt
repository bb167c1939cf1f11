-- Operations of values alone: constants, integers, and pointers that move or are looked at. One lemma each, from
-- the operands in t and t + 1.
use Rattle.std.proofs.Common.{◌≡◌, ◌≢◌, ℕ, ◌+◌, ◌*◌, ◌≤◌, List, [], refl, ap, subst, arith}
use Rattle.filc_num.specs.Integers.{convert_of}
use Rattle.filc_num.specs.declared.integer.IntType.{IntType}
use Rattle.filc_num.specs.declared.integer.BinOp.{BinOp}
use Rattle.filc_num.specs.declared.integer.BinOp.TheVariants.{Sub, Xor, Eq}
use Rattle.c_tree.specs.declared.operation.Change.TheVariants as change
use Rattle.c_tree.specs.declared.operation.Operation.{Operation}
use Rattle.c_tree.specs.declared.operation.Operation.TheVariants as op
use Rattle.whole_code.specs.declared.op.Op.TheVariants as code
use Rattle.whole_code.specs.Numbers.{operator_at, operator_number, type_at, type_number}
use Rattle.ideal_machine.specs.declared.value.Value.{Value}
use Rattle.ideal_machine.specs.Values.{State, integer, value_at, put_at}
use Rattle.ideal_machine.specs.Play.{Gives, bind, Log, Goes, run}
use Rattle.ideal_machine.specs.Phrases.{Phrase, arithmetic}
use Rattle.ideal_machine.specs.Addresses.{object_pointer, function_pointer, pointer_of_int, advance, distance, compare, int_of_pointer}
use Rattle.ideal_machine.specs.Threads.{minus_one}
use Rattle.ideal_machine.proofs.Values.{value_at-put_same, value_at-put_other}
use Rattle.expr_gen.specs.Code.{op_code}
use Rattle.expr_gen.specs.Stretch.{Site, Between, from, Runs, HasWords, Matches}
use Rattle.expr_gen.proofs.Numbers.{operator_back, type_back}
use Rattle.expr_gen.proofs.Registers.{matches_put, matches_same}
use Rattle.expr_gen.proofs.Stretch.{line_at, at_op}
use Rattle.expr_gen.proofs.Instructions.{const_runs, move_runs, convert_runs, add_runs, binary_runs}
use Rattle.expr_gen.proofs.Changes.{change_runs}
use Rattle.expr_gen.proofs.Landing.{Into, stays, puts, last_gives, Applied}

module _ (site : Site) (rounds : ℕ) (call : (function line : ℕ) → List Value → Phrase Value) (k t to : ℕ) (base : List Value) (le : k ≤ t) where
  module _ (line pc n : ℕ) (regs : List Value) (env : State) (w : Log) (words : HasWords w) (matches : Matches k t base regs env) where
    abbrev Plays : Operation → (c : ℕ) → Type 0
    Plays o c = Applied site rounds call k t to base le o line pc c regs env w

    abbrev Stands : Operation → Type 0
    Stands o = Between site pc (op_code site.library o line t n pc) to

    abbrev a : Value
    a = value_at regs t

    abbrev b : Value
    b = value_at regs (t + 1)

    -- ---- constants, objects and functions

    pub number_plays : (v : ℕ) → Stands (op.Number v) → Plays (op.Number v) 0
    number_plays v has =
        const_runs site (Into site k t to base le) pc line t v regs w (Goes env (integer v) w) has.0
        (puts site k t to base le (pc + 1) regs env (integer v) w has.1 matches)

    pub static_plays : (s : ℕ) → Stands (op.Static s) → Plays (op.Static s) 0
    static_plays s has =
        let v = object_pointer site.start.base s in
        at_op site (Into site k t to base le) pc regs w line (code.StaticAt t s) (Goes env v w) has.0
        (puts site k t to base le (pc + 1) regs env v w has.1 matches)

    pub function_plays : (f : ℕ) → Stands (op.Function f) → Plays (op.Function f) 0
    function_plays f has =
        let v = function_pointer f in
        at_op site (Into site k t to base le) pc regs w line (code.FunctionAt t f) (Goes env v w) has.0
        (puts site k t to base le (pc + 1) regs env v w has.1 matches)

    pub self_plays : Stands op.SelfId → Plays op.SelfId 0
    self_plays has =
        let v = integer site.start.id in
        at_op site (Into site k t to base le) pc regs w line (code.SelfId t) (Goes env v w) has.0
        (puts site k t to base le (pc + 1) regs env v w has.1 matches)

    -- ---- integers

    pub convert_plays : (ty : IntType) → Stands (op.Convert ty) → Plays (op.Convert ty) 1
    convert_plays ty has =
        let v = integer (convert_of a.number ty) in
        convert_runs site (Into site k t to base le) pc line t t ty a regs w (Goes env v w) has.0 refl
        (puts site k t to base le (pc + 1) regs env v w has.1 matches)

    pub binary_plays : (o : BinOp) (ty : IntType) → Stands (op.Binary o ty) → Plays (op.Binary o ty) 2
    binary_plays o ty has =
        binary_runs site (Into site k t to base le) pc line t t (t + 1) o ty a b regs w (λ v. Gives env v) words has.0 refl refl
        (λ v w1 _. puts site k t to base le (pc + 1) regs env v w1 has.1 matches)

    -- a constant in t + 1
    abbrev scratch : ℕ → List Value
    scratch c = put_at regs (t + 1) (integer c)

    scratch_a : (c : ℕ) → value_at (scratch c) t ≡ a
    scratch_a c = let ne : t ≢ t + 1 = omega arith in value_at-put_other regs (t + 1) t (integer c) ne

    scratch_c : (c : ℕ) → value_at (scratch c) (t + 1) ≡ integer c
    scratch_c c = value_at-put_same regs (t + 1) (integer c)

    scratch_matches : (c : ℕ) → Matches k t base (scratch c) env
    scratch_matches c = matches_put k t (t + 1) base regs env (integer c) (omega (arith, le)) (omega arith) matches

    pub negate_plays : (ty : IntType) → Stands (op.Negate ty) → Plays (op.Negate ty) 1
    negate_plays ty has =
        const_runs site (Into site k t to base le) pc line (t + 1) 0 regs w (run (bind (arithmetic Sub ty (integer 0) a (line_at site line)) (λ _ v. Gives env v)) w) has.0
        (binary_runs site (Into site k t to base le) (pc + 1) line t (t + 1) t Sub ty (integer 0) a (scratch 0) w (λ v. Gives env v) words has.1.0 (scratch_c 0) (scratch_a 0)
        (λ v w1 _. puts site k t to base le (pc + 1 + 1) (scratch 0) env v w1 has.1.1 (scratch_matches 0)))

    pub complement_plays : (ty : IntType) → Stands (op.Complement ty) → Plays (op.Complement ty) 1
    complement_plays ty has =
        const_runs site (Into site k t to base le) pc line (t + 1) minus_one regs w (run (bind (arithmetic Xor ty a (integer minus_one) (line_at site line)) (λ _ v. Gives env v)) w) has.0
        (binary_runs site (Into site k t to base le) (pc + 1) line t t (t + 1) Xor ty a (integer minus_one) (scratch minus_one) w (λ v. Gives env v) words has.1.0 (scratch_a minus_one) (scratch_c minus_one)
        (λ v w1 _. puts site k t to base le (pc + 1 + 1) (scratch minus_one) env v w1 has.1.1 (scratch_matches minus_one)))

    pub not_plays : (ty : IntType) → Stands (op.Not ty) → Plays (op.Not ty) 1
    not_plays ty has =
        const_runs site (Into site k t to base le) pc line (t + 1) 0 regs w (run (bind (arithmetic Eq ty a (integer 0) (line_at site line)) (λ _ v. Gives env v)) w) has.0
        (binary_runs site (Into site k t to base le) (pc + 1) line t t (t + 1) Eq ty a (integer 0) (scratch 0) w (λ v. Gives env v) words has.1.0 (scratch_a 0) (scratch_c 0)
        (λ v w1 _. puts site k t to base le (pc + 1 + 1) (scratch 0) env v w1 has.1.1 (scratch_matches 0)))

    -- ---- pointers that move

    pub advance_plays : (bytes : ℕ) → Stands (op.Advance bytes) → Plays (op.Advance bytes) 2
    advance_plays bytes has =
        let v = advance a (b.number * bytes) in
        add_runs site (Into site k t to base le) pc line t t (t + 1) bytes a b regs w (Goes env v w) has.0 refl refl
        (puts site k t to base le (pc + 1) regs env v w has.1 matches)

    pub advance_by_plays : (bytes : ℕ) → Stands (op.AdvanceBy bytes) → Plays (op.AdvanceBy bytes) 2
    advance_by_plays bytes has =
        let v = advance b (a.number * bytes) in
        add_runs site (Into site k t to base le) pc line t (t + 1) t bytes b a regs w (Goes env v w) has.0 refl refl
        (puts site k t to base le (pc + 1) regs env v w has.1 matches)

    pub retreat_plays : (bytes : ℕ) → Stands (op.Retreat bytes) → Plays (op.Retreat bytes) 2
    retreat_plays bytes has =
        change_runs site (Into site k t to base le) (change.Retreat bytes) pc line t (t + 2) t (t + 1) to [] a b regs w (λ v. Gives env v) words has refl refl (omega arith) (omega arith)
        (λ v pc1 regs1 w1 _ e same others.
        stays site k t to base le pc1 regs1 env v w1 e
        (matches_same k t base regs regs1 env le (λ x lt. let n0 : x ≢ t = omega (arith, lt) in let n2 : x ≢ t + 2 = omega (arith, lt) in others x n0 n2) matches) same)

    pub offset_plays : (bytes : ℕ) → Stands (op.Offset bytes) → Plays (op.Offset bytes) 1
    offset_plays bytes has =
        let v = advance a (bytes * 1) in
        let same : v ≡ advance a bytes = ap (λ n. advance a n) (omega arith) in
        const_runs site (Into site k t to base le) pc line (t + 1) bytes regs w (Goes env (advance a bytes) w) has.0
        (subst (λ u. Runs site (Into site k t to base le) (from site (pc + 1) (scratch bytes)) w (Goes env u w)) same
        (add_runs site (Into site k t to base le) (pc + 1) line t t (t + 1) 1 a (integer bytes) (scratch bytes) w (Goes env v w) has.1.0 (scratch_a bytes) (scratch_c bytes)
        (puts site k t to base le (pc + 1 + 1) (scratch bytes) env v w has.1.1 (scratch_matches bytes))))

    pub to_pointer_plays : Stands op.ToPointer → Plays op.ToPointer 1
    to_pointer_plays has =
        let v = pointer_of_int a in
        at_op site (Into site k t to base le) pc regs w line (code.ToPointer t t) (Goes env v w) has.0
        (puts site k t to base le (pc + 1) regs env v w has.1 matches)

    -- ---- pointers that are looked at

    pub distance_plays : (bytes : ℕ) → Stands (op.Distance bytes) → Plays (op.Distance bytes) 2
    distance_plays bytes has =
        last_gives site k t to base le pc line (code.PointerSub t t (t + 1) bytes) (distance bytes a b) (distance bytes a b) regs env w words has.0 has.1 (λ m. refl) refl matches

    pub compare_plays : (o : BinOp) → Stands (op.Compare o) → Plays (op.Compare o) 2
    compare_plays o has =
        let l = line_at site line in
        last_gives site k t to base le pc line (code.PointerCompare t t (t + 1) (operator_number o)) (compare (operator_at (operator_number o)) a b l) (compare o a b l) regs env w words has.0 has.1 (λ m. refl)
        (ap (λ x. compare x a b l) (operator_back o)) matches

    pub to_integer_plays : (ty : IntType) → Stands (op.ToInteger ty) → Plays (op.ToInteger ty) 1
    to_integer_plays ty has =
        last_gives site k t to base le pc line (code.ToInteger t t (type_number ty)) (int_of_pointer (type_at (type_number ty)) a) (int_of_pointer ty a) regs env w words has.0 has.1 (λ m. refl)
        (ap (λ u. int_of_pointer u a) (type_back ty)) matches

    -- ---- the comma

    pub second_plays : Stands op.Second → Plays op.Second 2
    second_plays has =
        move_runs site (Into site k t to base le) pc line t (t + 1) b regs w (Goes env b w) has.0 refl
        (puts site k t to base le (pc + 1) regs env b w has.1 matches)
