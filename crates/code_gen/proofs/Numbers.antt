-- The number of an operator or a type stands for it again.
use Rattle.std.proofs.Common.{◌≡◌, refl}
use Rattle.filc_num.specs.declared.integer.BinOp.{BinOp}
use Rattle.filc_num.specs.declared.integer.BinOp.TheVariants.{Add, Sub, Mul, Div, Rem, And, Or, Xor, Shl, Shr, Lt, Le, Gt, Ge, Eq, Ne}
use Rattle.filc_num.specs.declared.integer.IntType.{IntType}
use Rattle.filc_num.specs.declared.integer.IntType.TheVariants.{Bool as BoolType, I8, U8, I16, U16, I32, U32, I64, U64}
use Rattle.filc_code.specs.Numbers.{operator_at, operator_number, type_at, type_number}

pub operator_back : (op : BinOp) → operator_at (operator_number op) ≡ op
operator_back Add = refl
operator_back Sub = refl
operator_back Mul = refl
operator_back Div = refl
operator_back Rem = refl
operator_back And = refl
operator_back Or = refl
operator_back Xor = refl
operator_back Shl = refl
operator_back Shr = refl
operator_back Lt = refl
operator_back Le = refl
operator_back Gt = refl
operator_back Ge = refl
operator_back Eq = refl
operator_back Ne = refl

pub type_back : (ty : IntType) → type_at (type_number ty) ≡ ty
type_back BoolType = refl
type_back I8 = refl
type_back U8 = refl
type_back I16 = refl
type_back U16 = refl
type_back I32 = refl
type_back U32 = refl
type_back I64 = refl
type_back U64 = refl
