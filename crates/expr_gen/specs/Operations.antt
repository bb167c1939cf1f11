-- What an operation's code is: a line each.
--
-- The operands stand in t, t + 1, .., so many as n says, and the value comes into t. The registers after the operands are
-- free. No line of code is here that the order of evaluation doesn't ask for: an operand stays where it was evaluated,
-- and only a value that was made elsewhere is moved into t.
use Rattle.std.specs.Prelude.{ℕ, ◌+◌, ◌-◌, List, [], ◌∷◌, ◌++◌, Bool, Some, None}
use Rattle.filc_num.specs.declared.integer.BinOp.{BinOp}
use Rattle.filc_num.specs.declared.integer.BinOp.TheVariants.{Add, Sub, Xor, Eq}
use Rattle.filc_num.specs.declared.integer.IntType.{IntType}
use Rattle.filc_num.specs.declared.integer.IntType.TheVariants.{Bool as BoolType, I8, U8, I16, U16, I32, U32, I64, U64}
use Rattle.c_tree.specs.declared.operation.Access.{Access}
use Rattle.c_tree.specs.declared.operation.Access.TheVariants as access
use Rattle.c_tree.specs.declared.operation.Change.{Change}
use Rattle.c_tree.specs.declared.operation.Change.TheVariants as change
use Rattle.c_tree.specs.declared.operation.Operation.{Operation}
use Rattle.c_tree.specs.declared.operation.Operation.TheVariants as op
use Rattle.c_tree.specs.declared.operation.Piece.{Piece}
use Rattle.c_tree.specs.declared.operation.Piece.TheVariants as piece
use Rattle.ideal_machine.specs.Threads.{minus_one}
use Rattle.tree_play.specs.Memory.{unit_access, unit_bytes}
use Rattle.whole_code.specs.declared.op.Op.{Op}
use Rattle.whole_code.specs.declared.op.Op.TheVariants.{Const, Move, StaticAt, FunctionAt, Convert, Binary, PointerAdd, PointerSub, PointerCompare, ToInteger, ToPointer, Jump, JumpZero, LoadInt, StoreInt, RmwInt, CasInt, LoadPointer, StorePointer, BoxStore, BoxSwap, BoxCas, Call, CallPointer, New, Free, Size, Lock, Out, Input, Spawn, Join, SelfId, Exit, Abort}
use Rattle.whole_code.specs.declared.op.Instruction.{Instruction}
use Rattle.whole_code.specs.Numbers.{operator_number, type_number, set_number}

-- ---- instructions

-- an instruction of this line; `library` says whether it plays a header's text
abbrev pub at_line : (library : Bool) → (line : ℕ) → Op → Instruction
at_line library line o = record { line = line; library = library; op = o }

-- a operator b in this type
abbrev pub binary_op : BinOp → IntType → (d a b : ℕ) → Op
binary_op operator ty d a b = Binary d a b (operator_number operator) (type_number ty)

-- ---- memory

-- d becomes what lies at p
abbrev pub load_op : Access → (d p : ℕ) → Op
load_op (access.Integer ty) d p = LoadInt d p (type_number ty)
load_op access.Pointer d p = LoadPointer d p
load_op access.Box d p = LoadPointer d p

-- a is stored at p
abbrev pub store_op : Access → (p a : ℕ) → Op
store_op (access.Integer ty) p a = StoreInt p a (type_number ty)
store_op access.Pointer p a = StorePointer p a
store_op access.Box p a = BoxStore p a

-- d becomes what lies at p, and a takes its place
abbrev pub swap_op : Access → (d p a : ℕ) → Op
swap_op (access.Integer ty) d p a = RmwInt d p a set_number (type_number ty) (type_number ty)
swap_op access.Pointer d p a = BoxSwap d p a
swap_op access.Box d p a = BoxSwap d p a

-- d becomes the integer at p, in place of which comes what an operator makes of it and a
abbrev pub fetch_op : (object : IntType) → BinOp → (computed : IntType) → (d p a : ℕ) → Op
fetch_op object operator computed d p a =
    RmwInt d p a (operator_number operator) (type_number object) (type_number computed)

-- ---- new values of old ones

-- d becomes what a change makes of a by b; s is free, and neither a nor b
abbrev pub change_ops : Change → (d s a b : ℕ) → List Op
change_ops (change.Integer operator computed to) d s a b =
    binary_op operator computed d a b ∷ Convert d d (type_number to) ∷ []
change_ops (change.Advance bytes) d s a b = PointerAdd d a b bytes ∷ []
change_ops (change.Retreat bytes) d s a b = Const s 0 ∷ binary_op Sub U64 s s b ∷ PointerAdd d a s bytes ∷ []

-- ---- copies of structures

-- from q to p, by a loop that counts down: p' in t + 2 and q in t + 1 go forward, t + 3 counts
abbrev pub copy_ops : Access → (bytes count t at : ℕ) → List Op
copy_ops lies bytes count t at =
    Move (t + 2) t ∷ Const (t + 3) count ∷ Const (t + 4) 1
    ∷ JumpZero (t + 3) (at + 10)
    ∷ load_op lies (t + 5) (t + 1) ∷ store_op lies (t + 2) (t + 5)
    ∷ PointerAdd (t + 2) (t + 2) (t + 4) bytes ∷ PointerAdd (t + 1) (t + 1) (t + 4) bytes
    ∷ binary_op Sub U64 (t + 3) (t + 3) (t + 4) ∷ Jump (at + 3) ∷ []

-- ---- compare and exchange

-- the unsigned type of as many bytes
abbrev pub unsigned_of : IntType → IntType
unsigned_of BoolType = U8
unsigned_of I8 = U8
unsigned_of U8 = U8
unsigned_of I16 = U16
unsigned_of U16 = U16
unsigned_of I32 = U32
unsigned_of U32 = U32
unsigned_of I64 = U64
unsigned_of U64 = U64

-- the object at t, the address of what is expected in t + 1, and what is desired in t + 2. Where the exchange isn't made,
-- what was found is stored over what was expected
abbrev pub cas_ops : Access → (t at : ℕ) → List Op
cas_ops (access.Integer ty) t at =
    LoadInt (t + 3) (t + 1) (type_number ty) ∷ CasInt (t + 4) t (t + 3) (t + 2) (type_number ty)
    ∷ Convert (t + 5) (t + 3) (type_number (unsigned_of ty)) ∷ binary_op Eq U64 (t + 5) (t + 4) (t + 5)
    ∷ JumpZero (t + 5) (at + 7) ∷ Const t 1 ∷ Jump (at + 10)
    ∷ Convert (t + 4) (t + 4) (type_number ty) ∷ StoreInt (t + 1) (t + 4) (type_number ty) ∷ Const t 0 ∷ []
cas_ops lies t at =
    LoadPointer (t + 3) (t + 1) ∷ BoxCas (t + 4) (t + 5) t (t + 3) (t + 2)
    ∷ JumpZero (t + 5) (at + 5) ∷ Const t 1 ∷ Jump (at + 7)
    ∷ StorePointer (t + 1) (t + 4) ∷ Const t 0 ∷ []

-- ---- operations

abbrev pub operation_ops : Operation → (t n at : ℕ) → List Op
-- constants, locals, objects and functions
operation_ops (op.Number v) t n at = Const t v ∷ []
operation_ops (op.Local x) t n at = Move t x ∷ []
operation_ops (op.Static s) t n at = StaticAt t s ∷ []
operation_ops (op.Function f) t n at = FunctionAt t f ∷ []
-- integers
operation_ops (op.Convert ty) t n at = Convert t t (type_number ty) ∷ []
operation_ops (op.Binary operator ty) t n at = binary_op operator ty t t (t + 1) ∷ []
operation_ops (op.Negate ty) t n at = Const (t + 1) 0 ∷ binary_op Sub ty t (t + 1) t ∷ []
operation_ops (op.Complement ty) t n at = Const (t + 1) minus_one ∷ binary_op Xor ty t t (t + 1) ∷ []
operation_ops (op.Not ty) t n at = Const (t + 1) 0 ∷ binary_op Eq ty t t (t + 1) ∷ []
-- pointers that move
operation_ops (op.Advance bytes) t n at = PointerAdd t t (t + 1) bytes ∷ []
operation_ops (op.Retreat bytes) t n at = change_ops (change.Retreat bytes) t (t + 2) t (t + 1)
operation_ops (op.AdvanceBy bytes) t n at = PointerAdd t (t + 1) t bytes ∷ []
operation_ops (op.Offset bytes) t n at = Const (t + 1) bytes ∷ PointerAdd t t (t + 1) 1 ∷ []
operation_ops op.ToPointer t n at = ToPointer t t ∷ []
-- pointers that are looked at
operation_ops (op.Distance bytes) t n at = PointerSub t t (t + 1) bytes ∷ []
operation_ops (op.Compare operator) t n at = PointerCompare t t (t + 1) (operator_number operator) ∷ []
operation_ops (op.ToInteger ty) t n at = ToInteger t t (type_number ty) ∷ []
-- locals without a home
operation_ops (op.SetLocal x) t n at = Move x t ∷ []
operation_ops (op.UpdateLocal x how) t n at = change_ops how t (t + 1) x t ++ Move x t ∷ []
operation_ops (op.StepLocal x how) t n at = change_ops how (t + 1) (t + 1) x t ++ Move t x ∷ Move x (t + 1) ∷ []
-- memory
operation_ops (op.Load lies) t n at = load_op lies t t ∷ []
operation_ops (op.Store lies) t n at = store_op lies t (t + 1) ∷ Move t (t + 1) ∷ []
operation_ops (op.Update lies how) t n at =
    load_op lies (t + 2) t ∷ change_ops how (t + 1) (t + 3) (t + 2) (t + 1) ++ store_op lies t (t + 1) ∷ Move t (t + 1) ∷ []
operation_ops (op.Step lies how) t n at =
    load_op lies (t + 2) t ∷ change_ops how (t + 1) (t + 3) (t + 2) (t + 1) ++ store_op lies t (t + 1) ∷ Move t (t + 2) ∷ []
operation_ops (op.Copy unit count) t n at = copy_ops (unit_access unit) (unit_bytes unit) count t at
-- atomic operations
operation_ops (op.Swap lies) t n at = swap_op lies t t (t + 1) ∷ []
operation_ops (op.Cas lies) t n at = cas_ops lies t at
operation_ops (op.Fetch object operator computed) t n at = fetch_op object operator computed t t (t + 1) ∷ []
operation_ops (op.Combine object operator computed) t n at =
    fetch_op object operator computed (t + 2) t (t + 1) ∷ binary_op operator computed t (t + 2) (t + 1)
    ∷ Convert t t (type_number object) ∷ []
-- calls
operation_ops (op.Call f) t n at = Call t f t n ∷ []
operation_ops (op.CallPointer kind) t n at = CallPointer t t (t + 1) (n - 1) kind ∷ []
-- intrinsics
operation_ops op.New t n at = New t t ∷ []
operation_ops op.Free t n at = Free t ∷ []
operation_ops op.Size t n at = Size t t ∷ []
operation_ops op.Lock t n at = Lock t ∷ []
operation_ops op.Out t n at = Out t ∷ []
operation_ops op.Input t n at = Input t ∷ []
operation_ops op.Spawn t n at = Spawn t t (t + 1) ∷ []
operation_ops op.Join t n at = Join t t ∷ []
operation_ops op.SelfId t n at = SelfId t ∷ []
operation_ops op.Exit t n at = Exit t ∷ []
operation_ops op.Abort t n at = Abort ∷ []
-- the comma
operation_ops op.Second t n at = Move t (t + 1) ∷ []

-- ---- printf

-- a piece, of operands from t on: how many bytes it has comes into c + 1
abbrev pub piece_ops : Piece → (t c : ℕ) → List Op
piece_ops (piece.Byte byte) t c = Const (c + 1) byte ∷ Out (c + 1) ∷ Const (c + 1) 1 ∷ []
piece_ops (piece.Out operand) t c = Out (t + operand) ∷ Const (c + 1) 1 ∷ []
piece_ops (piece.Put f operand None) t c = Move (c + 1) (t + operand) ∷ Call (c + 1) f (c + 1) 1 ∷ []
piece_ops (piece.Put f operand (Some radix)) t c =
    Move (c + 1) (t + operand) ∷ Const (c + 2) radix ∷ Call (c + 1) f (c + 1) 2 ∷ []

-- pieces, which are counted in c
abbrev pub pieces_ops : List Piece → (t c : ℕ) → List Op
pieces_ops [] t c = []
pieces_ops (p ∷ pieces) t c = piece_ops p t c ++ (binary_op Add I32 c c (c + 1) ∷ pieces_ops pieces t c)

-- the lock in t is taken, the pieces are put out, the lock becomes 0, and their count comes into t
abbrev pub print_ops : List Piece → (t n : ℕ) → List Op
print_ops pieces t n =
    Lock t ∷ Const (t + n) 0
    ∷ (pieces_ops pieces t (t + n) ++ (Const (t + n + 1) 0 ∷ StoreInt t (t + n + 1) (type_number I32) ∷ Move t (t + n) ∷ []))
