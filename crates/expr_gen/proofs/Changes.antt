-- New values of old ones: pointers that go back, and the lemma of every change.
use Rattle.std.proofs.Common.{◌≡◌, ◌≢◌, ℕ, ◌+◌, ◌-◌, ◌*◌, ◌%◌, ◌<◌, List, ◌++◌, refl, sym, ap, ◌∙◌, subst, arith}
use Rattle.std.specs.Prelude.{◌^◌, pos, ◌-ℤ◌}
use Rattle.std.proofs.Math.Nat.{add-mul}
use Rattle.std.proofs.lemmas.Nat.{mul-mod_first, mod_below}
use Rattle.filc_num.specs.Integers.{convert_of, binary_of, bits_of}
use Rattle.filc_num.specs.declared.integer.IntType.TheVariants.{U64}
use Rattle.filc_num.specs.declared.integer.BinOp.TheVariants.{Sub}
use Rattle.filc_num.proofs.Residues.{difference_of_values}
use Rattle.c_tree.specs.declared.operation.Change.{Change}
use Rattle.c_tree.specs.declared.operation.Change.TheVariants as change
use Rattle.whole_code.specs.declared.op.Op.{Op}
use Rattle.ideal_machine.specs.declared.value.Value.{Value}
use Rattle.ideal_machine.specs.Values.{integer, value_at, put_at}
use Rattle.ideal_machine.specs.Play.{Play, Gives, bind, Log, run}
use Rattle.ideal_machine.specs.Phrases.{arithmetic}
use Rattle.ideal_machine.specs.Addresses.{advance, retreat}
use Rattle.ideal_machine.proofs.Values.{value_at-put_same, value_at-put_other}
use Rattle.tree_play.specs.Memory.{new_value}
use Rattle.expr_gen.specs.Operations.{change_ops}
use Rattle.expr_gen.specs.Code.{instructions}
use Rattle.expr_gen.specs.Stretch.{Site, Between, from, Landing, Runs, HasWords}
use Rattle.expr_gen.proofs.Stretch.{line_at, bind_bind}
use Rattle.expr_gen.proofs.Instructions.{const_runs, convert_runs, add_runs, binary_runs}

-- ---- minus i in 64 bits

abbrev pub minus : ℕ → ℕ
minus i = bits_of (pos 0 -ℤ pos (i % 2 ^ 64)) % 2 ^ 64

pub minus_arithmetic : (v : Value) (line : ℕ) → arithmetic Sub U64 (integer 0) v line ≡ Gives tt (integer (minus v.number))
unfolding binary_of convert_of
minus_arithmetic v line = refl

cancels : (j : ℕ) → j < 2 ^ 64 → (bits_of (pos 0 -ℤ pos j) % 2 ^ 64 + j) % 2 ^ 64 ≡ 0
cancels j h =
    let e : bits_of (pos 0 -ℤ pos j) ≡ (0 + (2 ^ 64 - j)) % 2 ^ 64 = difference_of_values U64 0 j (omega arith) h in omega (arith, h, e)

shifts : (p x y : ℕ) → (x + y) % 2 ^ 64 ≡ 0 → (p + x) % 2 ^ 64 ≡ (p + (2 ^ 64 - y % 2 ^ 64)) % 2 ^ 64
shifts p x y h = omega (arith, h)

-- so many elements back is minus so many forward
pub minus_elements : (p : Value) (i bytes : ℕ) → advance p (minus i * bytes) ≡ retreat p (i * bytes)
minus_elements p i bytes =
    let below : i % 2 ^ 64 < 2 ^ 64 = mod_below i (2 ^ 64) (omega arith) in
    let once : (minus i + i) % 2 ^ 64 ≡ 0 = omega (arith, cancels (i % 2 ^ 64) below) in
    let nothing : 0 * bytes % 2 ^ 64 ≡ 0 = omega arith in
    let times : ((minus i + i) * bytes) % 2 ^ 64 ≡ 0 = sym (mul-mod_first (minus i + i) bytes (2 ^ 64)) ∙ ap (λ x. (x * bytes) % 2 ^ 64) once ∙ nothing in
    let parts : (minus i * bytes + i * bytes) % 2 ^ 64 ≡ 0 = ap (λ x. x % 2 ^ 64) (sym (add-mul (minus i) i bytes)) ∙ times in
    ap (λ (n : ℕ). record p { number = n }) (shifts p.number (minus i * bytes) (i * bytes) parts)

-- ---- changes

module _ (site : Site) {S A : Type 0} (Q : Landing S A) where
  -- d becomes the new value, and but for it and s each register stays
  pub change_runs :
      (how : Change) (pc line d s a b to : ℕ) (rest : List Op) (old v : Value) (regs : List Value) (w : Log) (go : Value → Play S A) → HasWords w →
      Between site pc (instructions site.library line (change_ops how d s a b ++ rest)) to → value_at regs a ≡ old → value_at regs b ≡ v → a ≢ s → b ≢ s →
      ((new : Value) (pc1 : ℕ) (regs1 : List Value) (w1 : Log) → HasWords w1 → Between site pc1 (instructions site.library line rest) to → value_at regs1 d ≡ new →
      ((x : ℕ) → x ≢ d → x ≢ s → value_at regs1 x ≡ value_at regs x) → Runs site Q (from site pc1 regs1) w1 (run (go new) w1)) →
      Runs site Q (from site pc regs) w (run (bind (new_value how old v (line_at site line)) (λ _ new. go new)) w)
  change_runs (change.Integer o computed ty) pc line d s a b to rest old v regs w go words has ea eb na nb each =
      let p = arithmetic o computed old v (line_at site line) in
      let made = λ (r : Value). integer (convert_of r.number ty) in
      subst (Runs site Q (from site pc regs) w) (sym (bind_bind p (λ _ r. Gives tt (made r)) (λ _ new. go new) w))
      (binary_runs site Q pc line d a b o computed old v regs w (λ r. go (made r)) words has.0 ea eb
      (λ r w1 words1.
      convert_runs site Q (pc + 1) line d d ty r (put_at regs d r) w1 (run (go (made r)) w1) has.1.0 (value_at-put_same regs d r)
      (each (made r) (pc + 1 + 1) (put_at (put_at regs d r) d (made r)) w1 words1 has.1.1 (value_at-put_same (put_at regs d r) d (made r))
      (λ x nd ns. value_at-put_other (put_at regs d r) d x (made r) nd ∙ value_at-put_other regs d x r nd))))
  change_runs (change.Advance bytes) pc line d s a b to rest old v regs w go words has ea eb na nb each =
      let new = advance old (v.number * bytes) in
      add_runs site Q pc line d a b bytes old v regs w (run (go new) w) has.0 ea eb
      (each new (pc + 1) (put_at regs d new) w words has.1 (value_at-put_same regs d new) (λ x nd ns. value_at-put_other regs d x new nd))
  change_runs (change.Retreat bytes) pc line d s a b to rest old v regs w go words has ea eb na nb each =
      let l = line_at site line in
      let regs1 = put_at regs s (integer 0) in
      let new = λ (r : Value). advance old (r.number * bytes) in
      const_runs site Q pc line s 0 regs w (run (go (retreat old (v.number * bytes))) w) has.0
      (subst (λ x. Runs site Q (from site (pc + 1) regs1) w (run (go x) w)) (minus_elements old v.number bytes)
      (subst (λ p. Runs site Q (from site (pc + 1) regs1) w (run (bind p (λ _ r. go (new r))) w)) (minus_arithmetic v l)
      (binary_runs site Q (pc + 1) line s s b Sub U64 (integer 0) v regs1 w (λ r. go (new r)) words has.1.0 (value_at-put_same regs s (integer 0))
      (value_at-put_other regs s b (integer 0) nb ∙ eb)
      (λ r w1 words1.
      let regs2 = put_at regs1 s r in
      let others = λ (x : ℕ) (ns : x ≢ s). value_at-put_other regs1 s x r ns ∙ value_at-put_other regs s x (integer 0) ns in
      add_runs site Q (pc + 1 + 1) line d a s bytes old r regs2 w1 (run (go (new r)) w1) has.1.1.0 (others a na ∙ ea) (value_at-put_same regs1 s r)
      (each (new r) (pc + 1 + 1 + 1) (put_at regs2 d (new r)) w1 words1 has.1.1.1 (value_at-put_same regs2 d (new r))
      (λ x nd ns. value_at-put_other regs2 d x (new r) nd ∙ others x ns))))))
