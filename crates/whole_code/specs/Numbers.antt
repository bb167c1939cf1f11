-- The numbers of operators and types in instructions: counted from 0 in the order of their declaration.
use Rattle.std.specs.Prelude.{◌≡◌, ℕ, ◌<◌, ◌≤◌, ◌⊎◌, List, [], ◌∷◌, slice_index_or}
use Rattle.filc_num.specs.declared.integer.BinOp.{BinOp}
use Rattle.filc_num.specs.declared.integer.BinOp.TheVariants.{Add, Sub, Mul, Div, Rem, And, Or, Xor, Shl, Shr, Lt, Le, Gt, Ge, Eq, Ne}
use Rattle.filc_num.specs.declared.integer.IntType.{IntType}
use Rattle.filc_num.specs.declared.integer.IntType.TheVariants.{Bool, I8, U8, I16, U16, I32, U32, I64, U64}

-- the operators in the order of their numbers
abbrev pub operators : List BinOp
operators = Add ∷ Sub ∷ Mul ∷ Div ∷ Rem ∷ And ∷ Or ∷ Xor ∷ Shl ∷ Shr ∷ Lt ∷ Le ∷ Gt ∷ Ge ∷ Eq ∷ Ne ∷ []

-- the operator of a number; no other number stands for one
abbrev pub operator_at : ℕ → BinOp
operator_at n = slice_index_or operators n Add

-- the number of an operator
abbrev pub operator_number : BinOp → ℕ
operator_number Add = 0
operator_number Sub = 1
operator_number Mul = 2
operator_number Div = 3
operator_number Rem = 4
operator_number And = 5
operator_number Or = 6
operator_number Xor = 7
operator_number Shl = 8
operator_number Shr = 9
operator_number Lt = 10
operator_number Le = 11
operator_number Gt = 12
operator_number Ge = 13
operator_number Eq = 14
operator_number Ne = 15

-- the types in the order of their numbers
abbrev pub types : List IntType
types = Bool ∷ I8 ∷ U8 ∷ I16 ∷ U16 ∷ I32 ∷ U32 ∷ I64 ∷ U64 ∷ []

-- the type of a number; no other number stands for one
abbrev pub type_at : ℕ → IntType
type_at n = slice_index_or types n I32

-- the number of a type
abbrev pub type_number : IntType → ℕ
type_number Bool = 0
type_number I8 = 1
type_number U8 = 2
type_number I16 = 3
type_number U16 = 4
type_number I32 = 5
type_number U32 = 6
type_number I64 = 7
type_number U64 = 8

-- the number that stands for no operator, but for taking the value as it is
abbrev pub set_number : ℕ
set_number = 16

-- ---- which numbers an instruction may have

abbrev pub IsOperatorNumber : ℕ → Type 0
IsOperatorNumber op = op < 16

-- an operator of two addresses: Lt, Le, Gt, Ge, Eq or Ne
abbrev pub IsComparisonNumber : ℕ → Type 0
IsComparisonNumber op = (10 ≤ op) × (op < 16)

abbrev pub IsTypeNumber : ℕ → Type 0
IsTypeNumber t = t < 9

-- the number of a type in which arithmetic is done: I32, U32, I64 or U64
abbrev pub IsArithmeticNumber : ℕ → Type 0
IsArithmeticNumber t = (5 ≤ t) × (t < 9)

-- what is made of an integer of the first type in one step: an operator, computed in the second, or the value is taken
abbrev pub IsOperation : (op t u : ℕ) → Type 0
IsOperation op t u = (IsOperatorNumber op × IsArithmeticNumber u) ⊎ ((op ≡ set_number) × (u ≡ t))
