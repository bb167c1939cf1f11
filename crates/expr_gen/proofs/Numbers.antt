-- The number of an operator or a type stands for it again.
use Rattle.std.proofs.Common.{◌≡◌, refl, ap, ◌∙◌}
use Rattle.filc_num.specs.declared.integer.BinOp.{BinOp}
use Rattle.filc_num.specs.declared.integer.BinOp.TheVariants.{Add, Sub, Mul, Div, Rem, And, Or, Xor, Shl, Shr, Lt, Le, Gt, Ge, Eq, Ne}
use Rattle.filc_num.specs.declared.integer.IntType.{IntType}
use Rattle.filc_num.specs.declared.integer.IntType.TheVariants.{Bool as BoolType, I8, U8, I16, U16, I32, U32, I64, U64}
use Rattle.ideal_machine.specs.declared.event.Operation.TheVariants.{Set, Compute}
use Rattle.whole_code.specs.Numbers.{operator_at, operator_number, type_at, type_number, set_number}
use Rattle.whole_thread.specs.Act.{operation_at}

pub operator_back : (o : BinOp) → operator_at (operator_number o) ≡ o
operator_back Add = refl
operator_back Sub = refl
operator_back Mul = refl
operator_back Div = refl
operator_back Rem = refl
operator_back And = refl
operator_back Or = refl
operator_back Xor = refl
operator_back Shl = refl
operator_back Shr = refl
operator_back Lt = refl
operator_back Le = refl
operator_back Gt = refl
operator_back Ge = refl
operator_back Eq = refl
operator_back Ne = refl

pub type_back : (ty : IntType) → type_at (type_number ty) ≡ ty
type_back BoolType = refl
type_back I8 = refl
type_back U8 = refl
type_back I16 = refl
type_back U16 = refl
type_back I32 = refl
type_back U32 = refl
type_back I64 = refl
type_back U64 = refl

pub set_back : (t : IntType) → operation_at set_number (type_number t) (type_number t) ≡ Set
set_back t = refl

types_back : (o : BinOp) (t u : IntType) → Compute o (type_at (type_number t)) (type_at (type_number u)) ≡ Compute o t u
types_back o t u = ap (λ x. Compute o x (type_at (type_number u))) (type_back t) ∙ ap (λ x. Compute o t x) (type_back u)

pub operation_back : (o : BinOp) (t u : IntType) → operation_at (operator_number o) (type_number t) (type_number u) ≡ Compute o t u
operation_back Add t u = types_back Add t u
operation_back Sub t u = types_back Sub t u
operation_back Mul t u = types_back Mul t u
operation_back Div t u = types_back Div t u
operation_back Rem t u = types_back Rem t u
operation_back And t u = types_back And t u
operation_back Or t u = types_back Or t u
operation_back Xor t u = types_back Xor t u
operation_back Shl t u = types_back Shl t u
operation_back Shr t u = types_back Shr t u
operation_back Lt t u = types_back Lt t u
operation_back Le t u = types_back Le t u
operation_back Gt t u = types_back Gt t u
operation_back Ge t u = types_back Ge t u
operation_back Eq t u = types_back Eq t u
operation_back Ne t u = types_back Ne t u
