-- Copies of structures: a loop that counts down, with one backward jump a unit.
use Rattle.std.proofs.Common.{◌≡◌, ◌≢◌, ℕ, zero, suc, ◌+◌, ◌-◌, ◌*◌, ◌%◌, ◌<◌, ◌≤◌, List, refl, sym, ap, ◌∙◌, subst, arith}
use Rattle.std.specs.Prelude.{◌^◌, pos, ◌-ℤ◌}
use Rattle.filc_num.specs.Integers.{convert_of, binary_of, bits_of}
use Rattle.filc_num.specs.declared.integer.IntType.TheVariants.{U64}
use Rattle.filc_num.specs.declared.integer.BinOp.TheVariants.{Sub}
use Rattle.filc_num.proofs.Residues.{difference_of_values}
use Rattle.c_tree.specs.declared.operation.Unit.{Unit as CopyUnit}
use Rattle.c_tree.specs.declared.operation.Operation.{Operation}
use Rattle.c_tree.specs.declared.operation.Operation.TheVariants as op
use Rattle.whole_code.specs.declared.op.Op.TheVariants.{Jump}
use Rattle.ideal_machine.specs.declared.value.Value.{Value}
use Rattle.ideal_machine.specs.Values.{State, integer, value_at, put_at}
use Rattle.ideal_machine.specs.Play.{Gives, Jump as Jumps, bind, Log, with_jump, Goes, run}
use Rattle.ideal_machine.specs.Phrases.{Phrase, arithmetic}
use Rattle.ideal_machine.specs.Addresses.{advance}
use Rattle.ideal_machine.proofs.Values.{value_at-put_same, value_at-put_other}
use Rattle.tree_play.specs.Memory.{load, store, unit_access, unit_bytes, copy_units}
use Rattle.expr_gen.specs.Code.{op_code}
use Rattle.expr_gen.specs.Stretch.{Site, Between, from, Runs, HasWords, Matches}
use Rattle.expr_gen.proofs.Registers.{matches_same}
use Rattle.expr_gen.proofs.Stretch.{line_at, bind_bind, came, Has, jump_back, zero_taken, zero_passed}
use Rattle.expr_gen.proofs.Instructions.{const_runs, move_runs, add_runs, binary_known, load_runs, store_runs}
use Rattle.expr_gen.proofs.Landing.{Into, stays, Applied}

-- ---- one less

less_one : (n : ℕ) → suc n < 2 ^ 64 → bits_of (pos (suc n % 2 ^ 64) -ℤ pos 1) % 2 ^ 64 ≡ n
less_one n h =
    let small : suc n % 2 ^ 64 < 2 ^ 64 = omega (arith, h) in
    let one : 1 < 2 ^ 64 = omega arith in
    let e : bits_of (pos (suc n % 2 ^ 64) -ℤ pos 1) ≡ (suc n % 2 ^ 64 + (2 ^ 64 - 1)) % 2 ^ 64 = difference_of_values U64 (suc n % 2 ^ 64) 1 small one in
    omega (arith, h, e)

minus_one_arithmetic : (n line : ℕ) → arithmetic Sub U64 (integer (suc n)) (integer 1) line ≡ Gives tt (integer (bits_of (pos (suc n % 2 ^ 64) -ℤ pos 1) % 2 ^ 64))
unfolding binary_of convert_of
minus_one_arithmetic n line = refl

count_down : (n line : ℕ) → suc n < 2 ^ 64 → arithmetic Sub U64 (integer (suc n)) (integer 1) line ≡ Gives tt (integer n)
count_down n line h = minus_one_arithmetic n line ∙ ap (λ (x : ℕ). Gives tt (integer x)) (less_one n h)

-- ---- the loop

module _ (site : Site) (rounds : ℕ) (call : (function line : ℕ) → List Value → Phrase Value) (k t to : ℕ) (base : List Value) (le : k ≤ t) where
  module _ (line pc n : ℕ) (regs : List Value) (env : State) (w : Log) (words : HasWords w) (matches : Matches k t base regs env) where
    abbrev Plays : Operation → (c : ℕ) → Type 0
    Plays o c = Applied site rounds call k t to base le o line pc c regs env w

    abbrev p : Value
    p = value_at regs t

    abbrev q : Value
    q = value_at regs (t + 1)

    -- the registers of the loop, before its test
    pub record Loop (left : ℕ) (into out_of : Value) (regs1 : List Value) : Type 0 where
      pub source : value_at regs1 (t + 1) ≡ out_of
      pub target : value_at regs1 (t + 2) ≡ into
      pub counter : value_at regs1 (t + 3) ≡ integer left
      pub one : value_at regs1 (t + 4) ≡ integer 1
      pub first : value_at regs1 t ≡ p
      pub below : (x : ℕ) → x < t → value_at regs1 x ≡ value_at regs x

    -- from the test on, with so many units left
    loop_runs :
        (unit : CopyUnit) (count : ℕ) → Between site pc (op_code site.library (op.Copy unit count) line t n pc) to → (left : ℕ) → left < 2 ^ 64 → (into out_of : Value) (regs1 : List Value)
        (w : Log) → HasWords w → Loop left into out_of regs1 →
        Runs site (Into site k t to base le) (from site (pc + 1 + 1 + 1) regs1) w
        (run (bind (copy_units site.start.base unit left into out_of (line_at site line)) (λ _ _. Gives env p)) w)
    loop_runs unit count has zero lt into out_of regs1 w words h =
        let Q = Into site k t to base le in
        let head = pc + 1 + 1 + 1 in
        let end : pc + 10 ≡ to = omega (arith, has.1.1.1.1.1.1.1.1.1.1) in
        came site Q (from site head regs1) w (from site (pc + 10) regs1) w (Goes env p w)
        (zero_taken site line (t + 3) head (pc + 10) regs1 w has.1.1.1.0 (ap (λ (x : Value). x.number) h.counter) (omega arith))
        (stays site k t to base le (pc + 10) regs1 env p w end (matches_same k t base regs regs1 env le h.below matches) h.first)
    loop_runs unit count has (suc left) lt into out_of regs1 w words h =
        let Q = Into site k t to base le in
        let l = line_at site line in
        let b = site.start.base in
        let lies = unit_access unit in
        let bytes = unit_bytes unit in
        let head = pc + 1 + 1 + 1 in
        let i0 = head + 1 in
        let i1 = i0 + 1 in
        let i2 = i1 + 1 in
        let i3 = i2 + 1 in
        let i4 = i3 + 1 in
        let i5 = i4 + 1 in
        let into1 = advance into (1 * bytes) in
        let out1 = advance out_of (1 * bytes) in
        let rest = λ (x y : Value). copy_units b unit left x y l in
        let go = λ (x y : Value). bind (rest x y) (λ _ _. Gives env p) in
        let stored = λ (v : Value). bind (store b lies into v l) (λ _ _. Jumps (rest (advance into bytes) (advance out_of bytes))) in
        let same : 1 * bytes ≡ bytes = omega arith in
        let head_is : pc + 3 ≡ head = omega arith in
        came site Q (from site head regs1) w (from site i0 regs1) w (run (bind (copy_units b unit (suc left) into out_of l) (λ _ _. Gives env p)) w)
        (zero_passed site line (t + 3) head (pc + 10) left regs1 w has.1.1.1.0 (ap (λ (x : Value). x.number) h.counter))
        (subst (Runs site Q (from site i0 regs1) w) (sym (bind_bind (load b lies out_of l) (λ _ v. stored v) (λ _ _. Gives env p) w))
        (load_runs site Q lies i0 line (t + 5) (t + 1) out_of regs1 w (λ v. bind (stored v) (λ _ _. Gives env p)) words has.1.1.1.1.0 h.source
        (λ v w1 words1.
        let regs2 = put_at regs1 (t + 5) v in
        let keeps2 = λ (x : ℕ) (lt : x < t + 5). let ne : x ≢ t + 5 = omega (arith, lt) in value_at-put_other regs1 (t + 5) x v ne in
        subst (Runs site Q (from site i1 regs2) w1) (sym (bind_bind (store b lies into v l) (λ _ _. Jumps (rest (advance into bytes) (advance out_of bytes))) (λ _ _. Gives env p) w1))
        (store_runs site Q lies i1 line (t + 2) (t + 5) into v regs2 w1 (Jumps (go (advance into bytes) (advance out_of bytes))) words1 has.1.1.1.1.1.0
        (keeps2 (t + 2) (omega arith) ∙ h.target) (value_at-put_same regs1 (t + 5) v)
        (λ w2 words2.
        let regs3 = put_at regs2 (t + 2) into1 in
        let regs4 = put_at regs3 (t + 1) out1 in
        let regs5 = put_at regs4 (t + 3) (integer left) in
        let keeps3 = λ (x : ℕ) (ne : x ≢ t + 2) (lt : x < t + 5). value_at-put_other regs2 (t + 2) x into1 ne ∙ keeps2 x lt in
        let keeps4 = λ (x : ℕ) (n2 : x ≢ t + 2) (n1 : x ≢ t + 1) (lt : x < t + 5). value_at-put_other regs3 (t + 1) x out1 n1 ∙ keeps3 x n2 lt in
        let keeps5 = λ (x : ℕ) (n2 : x ≢ t + 2) (n1 : x ≢ t + 1) (n3 : x ≢ t + 3) (lt : x < t + 5). value_at-put_other regs4 (t + 3) x (integer left) n3 ∙ keeps4 x n2 n1 lt in
        let play = run (Jumps (go (advance into bytes) (advance out_of bytes))) w2 in
        let n21 : t + 2 ≢ t + 1 = omega arith in
        let n23 : t + 2 ≢ t + 3 = omega arith in
        let n13 : t + 1 ≢ t + 3 = omega arith in
        add_runs site Q i2 line (t + 2) (t + 2) (t + 4) bytes into (integer 1) regs2 w2 play has.1.1.1.1.1.1.0 (keeps2 (t + 2) (omega arith) ∙ h.target) (keeps2 (t + 4) (omega arith) ∙ h.one)
        (add_runs site Q i3 line (t + 1) (t + 1) (t + 4) bytes out_of (integer 1) regs3 w2 play has.1.1.1.1.1.1.1.0 (keeps3 (t + 1) (omega arith) (omega arith) ∙ h.source)
        (keeps3 (t + 4) (omega arith) (omega arith) ∙ h.one)
        (binary_known site Q i4 line (t + 3) (t + 3) (t + 4) Sub U64 (integer (suc left)) (integer 1) (integer left) regs4 w2 play
        has.1.1.1.1.1.1.1.1.0 (keeps4 (t + 3) (omega arith) (omega arith) (omega arith) ∙ h.counter) (keeps4 (t + 4) (omega arith) (omega arith) (omega arith) ∙ h.one)
        (count_down left l lt)
        (came site Q (from site i5 regs5) w2 (from site head regs5) (with_jump w2) play
        (jump_back site line i5 head regs5 w2 (omega arith) (subst (λ x. Has site i5 line (Jump x)) head_is has.1.1.1.1.1.1.1.1.1.0))
        (loop_runs unit count has left (omega (arith, lt)) (advance into bytes) (advance out_of bytes) regs5 (with_jump w2) words2 (record {
          source = value_at-put_other regs4 (t + 3) (t + 1) (integer left) n13 ∙ value_at-put_same regs3 (t + 1) out1 ∙ ap (advance out_of) same;
          target = value_at-put_other regs4 (t + 3) (t + 2) (integer left) n23 ∙ value_at-put_other regs3 (t + 1) (t + 2) out1 n21 ∙ value_at-put_same regs2 (t + 2) into1
              ∙ ap (advance into) same;
          counter = value_at-put_same regs4 (t + 3) (integer left);
          one = keeps5 (t + 4) (omega arith) (omega arith) (omega arith) (omega arith) ∙ h.one;
          first = keeps5 t (omega arith) (omega arith) (omega arith) (omega arith) ∙ h.first;
          below = λ x b.
              let n2 : x ≢ t + 2 = omega (arith, b) in
              let n1 : x ≢ t + 1 = omega (arith, b) in
              let n3 : x ≢ t + 3 = omega (arith, b) in
              let n5 : x < t + 5 = omega (arith, b) in
              keeps5 x n2 n1 n3 n5 ∙ h.below x b;
        }))))))))))

    pub copy_plays : (unit : CopyUnit) (count : ℕ) → count < 2 ^ 64 → Between site pc (op_code site.library (op.Copy unit count) line t n pc) to → Plays (op.Copy unit count) 2
    copy_plays unit count lt has =
        let Q = Into site k t to base le in
        let b = run (bind (copy_units site.start.base unit count p q (line_at site line)) (λ _ _. Gives env p)) w in
        let regs1 = put_at regs (t + 2) p in
        let regs2 = put_at regs1 (t + 3) (integer count) in
        let regs3 = put_at regs2 (t + 4) (integer 1) in
        let keeps = λ (x : ℕ) (lt : x < t + 2).
        let n2 : x ≢ t + 2 = omega (arith, lt) in
        let n3 : x ≢ t + 3 = omega (arith, lt) in
        let n4 : x ≢ t + 4 = omega (arith, lt) in
        value_at-put_other regs2 (t + 4) x (integer 1) n4 ∙ value_at-put_other regs1 (t + 3) x (integer count) n3 ∙ value_at-put_other regs (t + 2) x p n2 in
        let n23 : t + 2 ≢ t + 3 = omega arith in
        let n24 : t + 2 ≢ t + 4 = omega arith in
        let n34 : t + 3 ≢ t + 4 = omega arith in
        move_runs site Q pc line (t + 2) t p regs w b has.0 refl
        (const_runs site Q (pc + 1) line (t + 3) count regs1 w b has.1.0
        (const_runs site Q (pc + 1 + 1) line (t + 4) 1 regs2 w b has.1.1.0
        (loop_runs unit count has count lt p q regs3 w words (record {
          source = keeps (t + 1) (omega arith);
          target = value_at-put_other regs2 (t + 4) (t + 2) (integer 1) n24 ∙ value_at-put_other regs1 (t + 3) (t + 2) (integer count) n23 ∙ value_at-put_same regs (t + 2) p;
          counter = value_at-put_other regs2 (t + 4) (t + 3) (integer 1) n34 ∙ value_at-put_same regs1 (t + 3) (integer count);
          one = value_at-put_same regs2 (t + 4) (integer 1);
          first = keeps t (omega arith);
          below = λ x b. keeps x (omega (arith, b));
        }))))
