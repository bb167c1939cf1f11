-- Instructions that name what is there are well formed.
use Rattle.std.proofs.Common.{◌≡◌, ℕ, zero, suc, ◌+◌, ◌<◌, ◌≤◌, refl, List, [], ◌∷◌, ◌++◌, length, All, arith}
use Rattle.std.specs.Prelude.{IsTrue}
use mathlib.Core.Logic.{inl, inr}
use Rattle.std.specs.List.{AllByRecursion}
use Rattle.std.proofs.lemmas.List.Elements.{All-from_recursion}
use Rattle.filc_num.specs.Integers.{is_promoted}
use Rattle.filc_num.specs.declared.integer.BinOp.{BinOp}
use Rattle.filc_num.specs.declared.integer.BinOp.TheVariants.{Add, Sub, Mul, Div, Rem, And, Or, Xor, Shl, Shr, Lt, Le, Gt, Ge, Eq, Ne}
use Rattle.filc_num.specs.declared.integer.IntType.{IntType}
use Rattle.filc_num.specs.declared.integer.IntType.TheVariants.{Bool as BoolType, I8, U8, I16, U16, I32, U32, I64, U64}
use Rattle.c_tree.specs.declared.operation.Access.{Access}
use Rattle.c_tree.specs.declared.operation.Access.TheVariants as access
use Rattle.c_tree.specs.declared.operation.Change.{Change}
use Rattle.c_tree.specs.declared.operation.Change.TheVariants as change
use Rattle.c_tree.specs.Operands.{is_comparison, ChangeFits}
use Rattle.whole_code.specs.declared.op.Op.{Op}
use Rattle.whole_code.specs.declared.op.Op.TheVariants.{Const, Convert, Binary, PointerAdd, LoadInt, StoreInt, RmwInt, LoadPointer, StorePointer, BoxStore, BoxSwap}
use Rattle.whole_code.specs.Numbers.{operator_number, type_number, set_number, IsOperatorNumber, IsComparisonNumber, IsTypeNumber, IsArithmeticNumber}
use Rattle.whole_code.specs.Operands.{reads, writes, numbers_from}
use Rattle.whole_code.specs.Plain.{PlainFunction}
use Rattle.whole_code.specs.WellFormed.{Named, IsOpWellFormed, KeepsTarget, KeepsNames, KeepsNumbers}
use Rattle.expr_gen.specs.Operations.{binary_op, load_op, store_op, swap_op, fetch_op, change_ops}

-- ---- numbers

pub operator_within : (op : BinOp) → IsOperatorNumber (operator_number op)
operator_within Add = omega arith
operator_within Sub = omega arith
operator_within Mul = omega arith
operator_within Div = omega arith
operator_within Rem = omega arith
operator_within And = omega arith
operator_within Or = omega arith
operator_within Xor = omega arith
operator_within Shl = omega arith
operator_within Shr = omega arith
operator_within Lt = omega arith
operator_within Le = omega arith
operator_within Gt = omega arith
operator_within Ge = omega arith
operator_within Eq = omega arith
operator_within Ne = omega arith

pub comparison_within : (op : BinOp) → IsTrue (is_comparison op) → IsComparisonNumber (operator_number op)
comparison_within Add h = absurd (cc)
comparison_within Sub h = absurd (cc)
comparison_within Mul h = absurd (cc)
comparison_within Div h = absurd (cc)
comparison_within Rem h = absurd (cc)
comparison_within And h = absurd (cc)
comparison_within Or h = absurd (cc)
comparison_within Xor h = absurd (cc)
comparison_within Shl h = absurd (cc)
comparison_within Shr h = absurd (cc)
comparison_within Lt h = (omega arith, omega arith)
comparison_within Le h = (omega arith, omega arith)
comparison_within Gt h = (omega arith, omega arith)
comparison_within Ge h = (omega arith, omega arith)
comparison_within Eq h = (omega arith, omega arith)
comparison_within Ne h = (omega arith, omega arith)

pub type_within : (ty : IntType) → IsTypeNumber (type_number ty)
type_within BoolType = omega arith
type_within I8 = omega arith
type_within U8 = omega arith
type_within I16 = omega arith
type_within U16 = omega arith
type_within I32 = omega arith
type_within U32 = omega arith
type_within I64 = omega arith
type_within U64 = omega arith

pub promoted_within : (ty : IntType) → IsTrue (is_promoted ty) → IsArithmeticNumber (type_number ty)
promoted_within BoolType h = absurd (cc)
promoted_within I8 h = absurd (cc)
promoted_within U8 h = absurd (cc)
promoted_within I16 h = absurd (cc)
promoted_within U16 h = absurd (cc)
promoted_within I32 h = (omega arith, omega arith)
promoted_within U32 h = (omega arith, omega arith)
promoted_within I64 h = (omega arith, omega arith)
promoted_within U64 h = (omega arith, omega arith)

-- ---- instructions of a function

module _ (named : Named) (f : PlainFunction) where
  abbrev pub IsRegister : ℕ → Type 0
  IsRegister r = r < f.values

  abbrev pub AreOps : List Op → Type 0
  AreOps ops = AllByRecursion (IsOpWellFormed named f) ops

  pub formed :
      (op : Op) → AllByRecursion IsRegister (reads op) → AllByRecursion IsRegister (writes op) → KeepsTarget (length f.instructions) op →
      KeepsNames named.functions named.statics op → KeepsNumbers op → IsOpWellFormed named f op
  formed op r w t n k = record {
    reads = All-from_recursion IsRegister (reads op) r;
    writes = All-from_recursion IsRegister (writes op) w;
    target = t;
    names = n;
    numbers = k;
  }

  pub both : (a b : List Op) → AreOps a → AreOps b → AreOps (a ++ b)
  both [] b h k = k
  both (op ∷ a) b h k = (h.0, both a b h.1 k)

  pub registers_from : (first count : ℕ) → first + count ≤ f.values → AllByRecursion IsRegister (numbers_from first count)
  registers_from first zero room = tt
  registers_from first (suc count) room = (omega arith, registers_from (first + 1) count (omega arith))

  pub binary_formed :
      (op : BinOp) (ty : IntType) (d a b : ℕ) → d < f.values → a < f.values → b < f.values → IsTrue (is_promoted ty) → IsOpWellFormed named f (binary_op op ty d a b)
  binary_formed op ty d a b hd ha hb h =
      formed (Binary d a b (operator_number op) (type_number ty)) (ha, (hb, tt)) (hd, tt) tt tt (operator_within op, promoted_within ty h)

  pub load_formed : (lies : Access) (d p : ℕ) → d < f.values → p < f.values → IsOpWellFormed named f (load_op lies d p)
  load_formed (access.Integer ty) d p hd hp = formed (LoadInt d p (type_number ty)) (hp, tt) (hd, tt) tt tt (type_within ty)
  load_formed access.Pointer d p hd hp = formed (LoadPointer d p) (hp, tt) (hd, tt) tt tt tt
  load_formed access.Box d p hd hp = formed (LoadPointer d p) (hp, tt) (hd, tt) tt tt tt

  pub store_formed : (lies : Access) (p a : ℕ) → p < f.values → a < f.values → IsOpWellFormed named f (store_op lies p a)
  store_formed (access.Integer ty) p a hp ha = formed (StoreInt p a (type_number ty)) (hp, (ha, tt)) tt tt tt (type_within ty)
  store_formed access.Pointer p a hp ha = formed (StorePointer p a) (hp, (ha, tt)) tt tt tt tt
  store_formed access.Box p a hp ha = formed (BoxStore p a) (hp, (ha, tt)) tt tt tt tt

  pub swap_formed : (lies : Access) (d p a : ℕ) → d < f.values → p < f.values → a < f.values → IsOpWellFormed named f (swap_op lies d p a)
  swap_formed (access.Integer ty) d p a hd hp ha =
      formed (RmwInt d p a set_number (type_number ty) (type_number ty)) (hp, (ha, tt)) (hd, tt) tt tt (type_within ty, inr (refl, refl))
  swap_formed access.Pointer d p a hd hp ha = formed (BoxSwap d p a) (hp, (ha, tt)) (hd, tt) tt tt tt
  swap_formed access.Box d p a hd hp ha = formed (BoxSwap d p a) (hp, (ha, tt)) (hd, tt) tt tt tt

  pub fetch_formed :
      (object : IntType) (op : BinOp) (computed : IntType) (d p a : ℕ) → d < f.values → p < f.values → a < f.values → IsTrue (is_promoted computed) →
      IsOpWellFormed named f (fetch_op object op computed d p a)
  fetch_formed object op computed d p a hd hp ha h =
      formed (RmwInt d p a (operator_number op) (type_number object) (type_number computed)) (hp, (ha, tt)) (hd, tt) tt tt
      (type_within object, inl (operator_within op, promoted_within computed h))

  pub change_formed :
      (how : Change) (d s a b : ℕ) → ChangeFits how → d < f.values → s < f.values → a < f.values → b < f.values → AreOps (change_ops how d s a b)
  change_formed (change.Integer op computed to) d s a b fit hd hs ha hb =
      (binary_formed op computed d a b hd ha hb fit, (formed (Convert d d (type_number to)) (hd, tt) (hd, tt) tt tt (type_within to), tt))
  change_formed (change.Advance bytes) d s a b fit hd hs ha hb = (formed (PointerAdd d a b bytes) (ha, (hb, tt)) (hd, tt) tt tt tt, tt)
  change_formed (change.Retreat bytes) d s a b fit hd hs ha hb = (
    formed (Const s 0) tt (hs, tt) tt tt tt,
    (binary_formed Sub U64 s s b hs hs hb refl, (formed (PointerAdd d a s bytes) (ha, (hs, tt)) (hd, tt) tt tt tt, tt)),
  )
