-- Worked code: of expressions at index 0, with two locals, so their values come into register 2.
--
-- The locals x and y, or p and q, are registers 0 and 1. Each row is an expression of C and its instructions, one after
-- another, worked out by hand from what each instruction does (`docs/MACHINE.md`); operators and types have numbers.
use Rattle.std.specs.Prelude.{◌≡◌, List, [], ◌∷◌, map, false, true, Some}
use Rattle.filc_num.specs.declared.integer.BinOp.TheVariants.{Add, Sub, Mul, Lt}
use Rattle.filc_num.specs.declared.integer.IntType.TheVariants.{I8, I32, U32}
use Rattle.c_tree.specs.declared.expr.Expr.{Expr, Chain', Logic', Choose', Print', end_of-Expr, more_of-Expr, end_of-Link, more_of-Link}
use Rattle.c_tree.specs.declared.operation.Access.TheVariants as access
use Rattle.c_tree.specs.declared.operation.Change.TheVariants as change
use Rattle.c_tree.specs.declared.operation.Unit.TheVariants as unit
use Rattle.c_tree.specs.declared.operation.Operation.TheVariants as op
use Rattle.c_tree.specs.declared.operation.Piece.TheVariants as piece
use Rattle.tree_play.specs.Worked.Setting.{one, two, three, number, local}
use Rattle.whole_code.specs.declared.op.Op.{Op}
use Rattle.whole_code.specs.declared.op.Op.TheVariants.{Const, Move, Convert, Binary, PointerAdd, PointerSub, Jump, JumpZero, LoadInt, StoreInt, CasInt, LoadPointer, StorePointer, BoxCas, Call, Lock, Out}
use Rattle.whole_code.specs.declared.op.Instruction.{Instruction}
use Rattle.expr_gen.specs.Code.{expr_code}

abbrev pub HasOps : Expr → List Op → Type 0
HasOps e ops = map (λ (i : Instruction). i.op) (expr_code false e 2 0) ≡ ops

-- ---- operators

-- x - y, and -x
abbrev pub DifferenceIsCode : Type 0
DifferenceIsCode = HasOps (two (op.Binary Sub I32) (local 0) (local 1)) (Move 2 0 ∷ Move 3 1 ∷ Binary 2 2 3 1 5 ∷ [])

abbrev pub MinusIsCode : Type 0
MinusIsCode = HasOps (one (op.Negate I32) (local 0)) (Move 2 0 ∷ Const 3 0 ∷ Binary 2 3 2 1 5 ∷ [])

-- x < y of unsigned ints, and (signed char)x
abbrev pub ComparisonIsCode : Type 0
ComparisonIsCode = HasOps (two (op.Binary Lt U32) (local 0) (local 1)) (Move 2 0 ∷ Move 3 1 ∷ Binary 2 2 3 10 6 ∷ [])

abbrev pub ConversionIsCode : Type 0
ConversionIsCode = HasOps (one (op.Convert I8) (local 0)) (Move 2 0 ∷ Convert 2 2 1 ∷ [])

-- ---- pointers

-- p - i and p - q of elements of 8 bytes
abbrev pub RetreatIsCode : Type 0
RetreatIsCode =
    HasOps (two (op.Retreat 8) (local 0) (local 1)) (Move 2 0 ∷ Move 3 1 ∷ Const 4 0 ∷ Binary 4 4 3 1 8 ∷ PointerAdd 2 2 4 8 ∷ [])

abbrev pub DistanceIsCode : Type 0
DistanceIsCode = HasOps (two (op.Distance 8) (local 0) (local 1)) (Move 2 0 ∷ Move 3 1 ∷ PointerSub 2 2 3 8 ∷ [])

-- a[i] * i of ints: a chain keeps to two registers
abbrev pub ElementIsCode : Type 0
ElementIsCode =
    HasOps
    (Chain' 1 _ (more_of-Expr (local 0) end_of-Expr) (tt ∷ tt ∷ tt ∷ [])
    (more_of-Link (op.Advance 4) (tt ∷ []) (more_of-Expr (local 1) end_of-Expr)
    (more_of-Link (op.Load (access.Integer I32)) [] end_of-Expr
    (more_of-Link (op.Binary Mul I32) (tt ∷ []) (more_of-Expr (local 1) end_of-Expr) end_of-Link))))
    (Move 2 0 ∷ Move 3 1 ∷ PointerAdd 2 2 3 4 ∷ LoadInt 2 2 5 ∷ Move 3 1 ∷ Binary 2 2 3 2 5 ∷ [])

-- ---- assignments

-- x++ of an int: the old value is the expression's
abbrev pub StepIsCode : Type 0
StepIsCode =
    HasOps (one (op.StepLocal 0 (change.Integer Add I32 I32)) (number 1))
    (Const 2 1 ∷ Binary 3 0 2 0 5 ∷ Convert 3 3 5 ∷ Move 2 0 ∷ Move 0 3 ∷ [])

-- *p = x, and *p += x of a signed char
abbrev pub StoreIsCode : Type 0
StoreIsCode = HasOps (two (op.Store (access.Integer I32)) (local 0) (local 1)) (Move 2 0 ∷ Move 3 1 ∷ StoreInt 2 3 5 ∷ Move 2 3 ∷ [])

abbrev pub UpdateIsCode : Type 0
UpdateIsCode =
    HasOps (two (op.Update (access.Integer I8) (change.Integer Add I32 I8)) (local 0) (local 1))
    (Move 2 0 ∷ Move 3 1 ∷ LoadInt 4 2 1 ∷ Binary 3 4 3 0 5 ∷ Convert 3 3 1 ∷ StoreInt 2 3 1 ∷ Move 2 3 ∷ [])

-- a structure of two pointers
abbrev pub CopyIsCode : Type 0
CopyIsCode =
    HasOps (two (op.Copy unit.Pointer 2) (local 0) (local 1))
    (Move 2 0 ∷ Move 3 1 ∷ Move 4 2 ∷ Const 5 2 ∷ Const 6 1
    ∷ JumpZero 5 12 ∷ LoadPointer 7 3 ∷ StorePointer 4 7 ∷ PointerAdd 4 4 6 8 ∷ PointerAdd 3 3 6 8 ∷ Binary 5 5 6 1 8 ∷ Jump 5 ∷ [])

-- ---- atomic operations, of which the operands are x, y and 7

abbrev pub ExchangeIsCode : Type 0
ExchangeIsCode =
    HasOps (three (op.Cas (access.Integer I8)) (local 0) (local 1) (number 7))
    (Move 2 0 ∷ Move 3 1 ∷ Const 4 7
    ∷ LoadInt 5 3 1 ∷ CasInt 6 2 5 4 1 ∷ Convert 7 5 2 ∷ Binary 7 6 7 14 8 ∷ JumpZero 7 10 ∷ Const 2 1 ∷ Jump 13
    ∷ Convert 6 6 1 ∷ StoreInt 3 6 1 ∷ Const 2 0 ∷ [])

abbrev pub PairExchangeIsCode : Type 0
PairExchangeIsCode =
    HasOps (three (op.Cas access.Box) (local 0) (local 1) (number 7))
    (Move 2 0 ∷ Move 3 1 ∷ Const 4 7
    ∷ LoadPointer 5 3 ∷ BoxCas 6 7 2 5 4 ∷ JumpZero 7 8 ∷ Const 2 1 ∷ Jump 10 ∷ StorePointer 3 6 ∷ Const 2 0 ∷ [])

-- ---- control

-- x && y, x || y, and x ? 7 : 8
abbrev pub AndIsCode : Type 0
AndIsCode =
    HasOps (Logic' 1 true (tt ∷ tt ∷ []) (more_of-Expr (local 0) (more_of-Expr (local 1) end_of-Expr)))
    (Move 2 0 ∷ JumpZero 2 6 ∷ Move 2 1 ∷ JumpZero 2 6 ∷ Const 2 1 ∷ Jump 7 ∷ Const 2 0 ∷ [])

abbrev pub OrIsCode : Type 0
OrIsCode =
    HasOps (Logic' 1 false (tt ∷ tt ∷ []) (more_of-Expr (local 0) (more_of-Expr (local 1) end_of-Expr)))
    (Move 2 0 ∷ JumpZero 2 4 ∷ Const 2 1 ∷ Jump 9 ∷ Move 2 1 ∷ JumpZero 2 8 ∷ Const 2 1 ∷ Jump 9 ∷ Const 2 0 ∷ [])

abbrev pub ChoiceIsCode : Type 0
ChoiceIsCode =
    HasOps (Choose' 1 _ (more_of-Expr (local 0) end_of-Expr) _ (more_of-Expr (number 7) end_of-Expr) _ (more_of-Expr (number 8) end_of-Expr))
    (Move 2 0 ∷ JumpZero 2 4 ∷ Const 2 7 ∷ Jump 5 ∷ Const 2 8 ∷ [])

-- printf("a%x", y), with the lock in x: function 3 puts out a number in a radix
abbrev pub PrintIsCode : Type 0
PrintIsCode =
    HasOps (Print' 1 (tt ∷ tt ∷ []) (more_of-Expr (local 0) (more_of-Expr (local 1) end_of-Expr)) (piece.Byte 97 ∷ piece.Put 3 1 (Some 16) ∷ []))
    (Move 2 0 ∷ Move 3 1 ∷ Lock 2 ∷ Const 4 0
    ∷ Const 5 97 ∷ Out 5 ∷ Const 5 1 ∷ Binary 4 4 5 0 5
    ∷ Move 5 3 ∷ Const 6 16 ∷ Call 5 3 5 2 ∷ Binary 4 4 5 0 5
    ∷ Const 5 0 ∷ StoreInt 2 5 5 ∷ Move 2 4 ∷ [])
