-- Single instructions: what is to be run once one has been carried out.
--
-- What stands in the registers that it reads is said by equalities, so a stretch of several instructions needs no
-- rewriting of its own.
use Rattle.std.proofs.Common.{◌≡◌, ℕ, suc, ◌+◌, ◌*◌, List, refl, sym, ap, ◌∙◌, subst}
use Rattle.filc_num.specs.Integers.{convert_of}
use Rattle.filc_num.specs.declared.integer.IntType.{IntType}
use Rattle.filc_num.specs.declared.integer.BinOp.{BinOp}
use Rattle.c_tree.specs.declared.operation.Access.{Access}
use Rattle.c_tree.specs.declared.operation.Access.TheVariants as access
use Rattle.whole_code.specs.declared.op.Op.{Op}
use Rattle.whole_code.specs.declared.op.Op.TheVariants.{Const, Move, Convert, PointerAdd, LoadInt, LoadPointer, StoreInt, StorePointer, BoxStore}
use Rattle.whole_code.specs.Numbers.{operator_at, operator_number, type_at, type_number}
use Rattle.ideal_machine.specs.declared.value.Value.{Value}
use Rattle.ideal_machine.specs.Values.{integer, value_at, put_at}
use Rattle.ideal_machine.specs.Play.{Play, Gives, bind, Log, Behaviour, run}
use Rattle.ideal_machine.specs.Phrases.{Phrase, arithmetic}
use Rattle.ideal_machine.specs.Addresses.{advance}
use Rattle.ideal_machine.specs.IntAccess.{load_int, store_int}
use Rattle.ideal_machine.specs.PointerAccess.{load_pointer, store_pointer, store_pair}
use Rattle.tree_play.specs.Memory.{load, store}
use Rattle.expr_gen.specs.Operations.{binary_op, load_op, store_op}
use Rattle.expr_gen.specs.Stretch.{Site, from, Landing, Runs, HasWords}
use Rattle.expr_gen.proofs.Numbers.{operator_back, type_back}
use Rattle.expr_gen.proofs.Stretch.{line_at, came, phrase_runs, does, Has, step, at_op}

module _ (site : Site) {S A : Type 0} (Q : Landing S A) where
  -- ---- values that are known

  pub const_runs :
      (pc line d n : ℕ) (regs : List Value) (w : Log) (b : Behaviour S A) → Has site pc line (Const d n) →
      Runs site Q (from site (pc + 1) (put_at regs d (integer n))) w b → Runs site Q (from site pc regs) w b
  const_runs pc line d n regs w b h r = at_op site Q pc regs w line (Const d n) b h r

  pub move_runs :
      (pc line d a : ℕ) (x : Value) (regs : List Value) (w : Log) (b : Behaviour S A) → Has site pc line (Move d a) → value_at regs a ≡ x →
      Runs site Q (from site (pc + 1) (put_at regs d x)) w b → Runs site Q (from site pc regs) w b
  move_runs pc line d a x regs w b h e r =
      at_op site Q pc regs w line (Move d a) b h (subst (λ v. Runs site Q (from site (pc + 1) (put_at regs d v)) w b) (sym e) r)

  pub convert_runs :
      (pc line d a : ℕ) (ty : IntType) (x : Value) (regs : List Value) (w : Log) (b : Behaviour S A) → Has site pc line (Convert d a (type_number ty)) →
      value_at regs a ≡ x → Runs site Q (from site (pc + 1) (put_at regs d (integer (convert_of x.number ty)))) w b → Runs site Q (from site pc regs) w b
  convert_runs pc line d a ty x regs w b h e r =
      let P = λ (v : Value) (u : IntType). Runs site Q (from site (pc + 1) (put_at regs d (integer (convert_of v.number u)))) w b in
      at_op site Q pc regs w line (Convert d a (type_number ty)) b h
      (subst (λ v. P v (type_at (type_number ty))) (sym e) (subst (λ u. P x u) (sym (type_back ty)) r))

  pub add_runs :
      (pc line d a i bytes : ℕ) (x y : Value) (regs : List Value) (w : Log) (b : Behaviour S A) → Has site pc line (PointerAdd d a i bytes) →
      value_at regs a ≡ x → value_at regs i ≡ y → Runs site Q (from site (pc + 1) (put_at regs d (advance x (y.number * bytes)))) w b →
      Runs site Q (from site pc regs) w b
  add_runs pc line d a i bytes x y regs w b h ex ey r =
      let P = λ (p q : Value). Runs site Q (from site (pc + 1) (put_at regs d (advance p (q.number * bytes)))) w b in
      at_op site Q pc regs w line (PointerAdd d a i bytes) b h
      (subst (λ p. P p (value_at regs i)) (sym ex) (subst (λ q. P x q) (sym ey) r))

  -- ---- phrases

  -- d becomes what a phrase gives
  pub gives_runs :
      (pc line d : ℕ) (o : Op) (made said : Phrase Value) (regs : List Value) (w : Log) (go : Value → Play S A) → HasWords w → Has site pc line o →
      ((m : ℕ) → does site pc regs line o m ≡ bind made (λ _ v. from site (pc + 1) (put_at regs d v) m)) → made ≡ said →
      ((v : Value) (w1 : Log) → HasWords w1 → Runs site Q (from site (pc + 1) (put_at regs d v)) w1 (run (go v) w1)) →
      Runs site Q (from site pc regs) w (run (bind said (λ _ v. go v)) w)
  gives_runs pc line d o made said regs w go words h same e each =
      let next = λ (m : ℕ) (v : Value). from site (pc + 1) (put_at regs d v) m in
      came site Q (from site pc regs) w (λ m. bind said (λ _ v. next m v)) w (run (bind said (λ _ v. go v)) w)
      (λ m. (suc m, ap (λ p. run p w) (step site pc regs line o h m ∙ same m ∙ ap (λ p. bind p (λ _ v. next m v)) e)))
      (phrase_runs site Q said next go w words each)

  -- a phrase without a value
  pub does_runs :
      (pc line : ℕ) (o : Op) (made said : Phrase (Unit {0})) (regs : List Value) (w : Log) (go : Play S A) → HasWords w → Has site pc line o →
      ((m : ℕ) → does site pc regs line o m ≡ bind made (λ _ _. from site (pc + 1) regs m)) → made ≡ said →
      ((w1 : Log) → HasWords w1 → Runs site Q (from site (pc + 1) regs) w1 (run go w1)) →
      Runs site Q (from site pc regs) w (run (bind said (λ _ _. go)) w)
  does_runs pc line o made said regs w go words h same e each =
      let next = λ (m : ℕ) (v : Unit {0}). from site (pc + 1) regs m in
      came site Q (from site pc regs) w (λ m. bind said (λ _ v. next m v)) w (run (bind said (λ _ _. go)) w)
      (λ m. (suc m, ap (λ p. run p w) (step site pc regs line o h m ∙ same m ∙ ap (λ p. bind p (λ _ v. next m v)) e)))
      (phrase_runs site Q said next (λ _. go) w words (λ _ w1 words1. each w1 words1))

  pub binary_runs :
      (pc line d a b : ℕ) (o : BinOp) (ty : IntType) (x y : Value) (regs : List Value) (w : Log) (go : Value → Play S A) → HasWords w →
      Has site pc line (binary_op o ty d a b) → value_at regs a ≡ x → value_at regs b ≡ y →
      ((v : Value) (w1 : Log) → HasWords w1 → Runs site Q (from site (pc + 1) (put_at regs d v)) w1 (run (go v) w1)) →
      Runs site Q (from site pc regs) w (run (bind (arithmetic o ty x y (line_at site line)) (λ _ v. go v)) w)
  binary_runs pc line d a b o ty x y regs w go words h ex ey each =
      let l = line_at site line in
      let p = value_at regs a in
      let q = value_at regs b in
      let u = type_at (type_number ty) in
      gives_runs pc line d (binary_op o ty d a b) (arithmetic (operator_at (operator_number o)) u p q l) (arithmetic o ty x y l) regs w go words h (λ m. refl)
      (ap (λ z. arithmetic z u p q l) (operator_back o) ∙ ap (λ z. arithmetic o z p q l) (type_back ty) ∙ ap (λ z. arithmetic o ty z q l) ex
      ∙ ap (λ z. arithmetic o ty x z l) ey) each

  -- arithmetic whose result is known
  pub binary_known :
      (pc line d a b : ℕ) (o : BinOp) (ty : IntType) (x y v : Value) (regs : List Value) (w : Log) (made : Behaviour S A) → Has site pc line (binary_op o ty d a b) →
      value_at regs a ≡ x → value_at regs b ≡ y → arithmetic o ty x y (line_at site line) ≡ Gives tt v →
      Runs site Q (from site (pc + 1) (put_at regs d v)) w made → Runs site Q (from site pc regs) w made
  binary_known pc line d a b o ty x y v regs w made h ex ey known r =
      let l = line_at site line in
      let p = value_at regs a in
      let q = value_at regs b in
      let u = type_at (type_number ty) in
      let e =
      ap (λ z. arithmetic z u p q l) (operator_back o) ∙ ap (λ z. arithmetic o z p q l) (type_back ty) ∙ ap (λ z. arithmetic o ty z q l) ex
      ∙ ap (λ z. arithmetic o ty x z l) ey ∙ known in
      came site Q (from site pc regs) w (from site (pc + 1) (put_at regs d v)) w made
      (λ m. (suc m, ap (λ p. run p w) (step site pc regs line (binary_op o ty d a b) h m ∙ ap (λ p. bind p (λ _ v. from site (pc + 1) (put_at regs d v) m)) e))) r

  -- ---- memory

  pub load_runs :
      (lies : Access) (pc line d a : ℕ) (p : Value) (regs : List Value) (w : Log) (go : Value → Play S A) → HasWords w → Has site pc line (load_op lies d a) →
      value_at regs a ≡ p → ((v : Value) (w1 : Log) → HasWords w1 → Runs site Q (from site (pc + 1) (put_at regs d v)) w1 (run (go v) w1)) →
      Runs site Q (from site pc regs) w (run (bind (load site.start.base lies p (line_at site line)) (λ _ v. go v)) w)
  load_runs (access.Integer ty) pc line d a p regs w go words h e each =
      let l = line_at site line in
      let base = site.start.base in
      gives_runs pc line d (LoadInt d a (type_number ty)) (load_int base (type_at (type_number ty)) (value_at regs a) l) (load_int base ty p l) regs w go words h (λ m. refl)
      (ap (λ u. load_int base u (value_at regs a) l) (type_back ty) ∙ ap (λ v. load_int base ty v l) e) each
  load_runs access.Pointer pc line d a p regs w go words h e each =
      let l = line_at site line in
      let base = site.start.base in
      gives_runs pc line d (LoadPointer d a) (load_pointer base (value_at regs a) l) (load_pointer base p l) regs w go words h (λ m. refl) (ap (λ v. load_pointer base v l) e) each
  load_runs access.Box pc line d a p regs w go words h e each =
      let l = line_at site line in
      let base = site.start.base in
      gives_runs pc line d (LoadPointer d a) (load_pointer base (value_at regs a) l) (load_pointer base p l) regs w go words h (λ m. refl) (ap (λ v. load_pointer base v l) e) each

  pub store_runs :
      (lies : Access) (pc line a b : ℕ) (p v : Value) (regs : List Value) (w : Log) (go : Play S A) → HasWords w → Has site pc line (store_op lies a b) →
      value_at regs a ≡ p → value_at regs b ≡ v → ((w1 : Log) → HasWords w1 → Runs site Q (from site (pc + 1) regs) w1 (run go w1)) →
      Runs site Q (from site pc regs) w (run (bind (store site.start.base lies p v (line_at site line)) (λ _ _. go)) w)
  store_runs (access.Integer ty) pc line a b p v regs w go words h ep ev each =
      let l = line_at site line in
      let base = site.start.base in
      let x = value_at regs b in
      does_runs pc line (StoreInt a b (type_number ty)) (store_int base (type_at (type_number ty)) (value_at regs a) x l) (store_int base ty p v l) regs w go words h (λ m. refl)
      (ap (λ u. store_int base u (value_at regs a) x l) (type_back ty) ∙ ap (λ y. store_int base ty y x l) ep ∙ ap (λ y. store_int base ty p y l) ev) each
  store_runs access.Pointer pc line a b p v regs w go words h ep ev each =
      let l = line_at site line in
      let base = site.start.base in
      let x = value_at regs b in
      does_runs pc line (StorePointer a b) (store_pointer base (value_at regs a) x l) (store_pointer base p v l) regs w go words h (λ m. refl)
      (ap (λ y. store_pointer base y x l) ep ∙ ap (λ y. store_pointer base p y l) ev) each
  store_runs access.Box pc line a b p v regs w go words h ep ev each =
      let l = line_at site line in
      let base = site.start.base in
      let x = value_at regs b in
      does_runs pc line (BoxStore a b) (store_pair base (value_at regs a) x l) (store_pair base p v l) regs w go words h (λ m. refl)
      (ap (λ y. store_pair base y x l) ep ∙ ap (λ y. store_pair base p y l) ev) each
