-- Worked listings.
use Rattle.std.specs.Prelude.{codes, ◌≡◌, ℕ, List, [], ◌∷◌, ◌++◌, true, false}
use Rattle.whole_code.specs.declared.op.Op.{Op}
use Rattle.whole_code.specs.declared.op.Op.TheVariants.{Const, Move, StaticAt, FunctionAt, Convert, Binary, PointerAdd, PointerSub, PointerCompare, ToInteger, ToPointer, Jump, JumpZero, Poll, Home, LoadInt, StoreInt, RmwInt, CasInt, LoadPointer, StorePointer, BoxStore, BoxSwap, BoxCas, Call, CallPointer, Return, New, Free, Size, Lock, Out, Input, Spawn, Join, SelfId, Exit, Abort}
use Rattle.whole_code.specs.declared.op.Instruction.{Instruction}
use Rattle.whole_code.specs.Plain.{PlainFunction, PlainCode}
use Rattle.whole_code.specs.Listing.{instruction_line, listing_of}

abbrev pub at_line : (line : ℕ) → Op → Instruction
at_line line op = record { line = line; library = false; op = op }

-- two functions, of which the second is `main`: the line of an instruction is that of the file, also in library text
abbrev pub two_functions : PlainCode
two_functions = record {
  functions =
      record { values = 9; parameters = 1; kind = 0; instructions = record { line = 1; library = true; op = Return 0 } ∷ [] }
      ∷ record { values = 10; parameters = 0; kind = 1; instructions = at_line 2 (Const 0 18446744073709551615) ∷ at_line 12 (Call 1 0 0 1) ∷ at_line 12 (Return 1) ∷ [] } ∷ [];
  statics = [];
  main = 1;
}

abbrev pub FunctionsAreListed : Type 0
FunctionsAreListed =
    listing_of two_functions
    ≡ codes "filc code 1\nfunction 0 9\n0 1 Return 0\nfunction 1 10\n0 2 Const 0 18446744073709551615\n1 12 Call 1 0 0 1\n2 12 Return 1\n"

-- an instruction at index 10, line 3
abbrev pub Lists : Op → List ℕ → Type 0
Lists op text = instruction_line 10 (at_line 3 op) ≡ codes "10 3 " ++ text ++ codes "\n"

abbrev pub RegistersAreListed : Type 0
RegistersAreListed =
    Lists (Const 1 23) (codes "Const 1 23") × Lists (Move 1 2) (codes "Move 1 2") × Lists (StaticAt 1 2) (codes "StaticAt 1 2")
    × Lists (FunctionAt 1 2) (codes "FunctionAt 1 2") × Lists (Convert 1 2 3) (codes "Convert 1 2 3")
    × Lists (Binary 1 2 3 4 5) (codes "Binary 1 2 3 4 5") × Lists (PointerAdd 1 2 3 4) (codes "PointerAdd 1 2 3 4")
    × Lists (PointerSub 1 2 3 4) (codes "PointerSub 1 2 3 4") × Lists (PointerCompare 1 2 3 10) (codes "PointerCompare 1 2 3 10")
    × Lists (ToInteger 1 2 3) (codes "ToInteger 1 2 3") × Lists (ToPointer 1 2) (codes "ToPointer 1 2")
    × Lists (Jump 255) (codes "Jump 255") × Lists (JumpZero 1 2) (codes "JumpZero 1 2") × Lists Poll (codes "Poll")

abbrev pub MemoryIsListed : Type 0
MemoryIsListed =
    Lists (Home 1 24) (codes "Home 1 24") × Lists (LoadInt 1 2 3) (codes "LoadInt 1 2 3") × Lists (StoreInt 1 2 3) (codes "StoreInt 1 2 3")
    × Lists (RmwInt 1 2 3 16 5 5) (codes "RmwInt 1 2 3 16 5 5") × Lists (CasInt 1 2 3 4 5) (codes "CasInt 1 2 3 4 5")
    × Lists (LoadPointer 1 2) (codes "LoadPointer 1 2") × Lists (StorePointer 1 2) (codes "StorePointer 1 2")
    × Lists (BoxStore 1 2) (codes "BoxStore 1 2") × Lists (BoxSwap 1 2 3) (codes "BoxSwap 1 2 3")
    × Lists (BoxCas 1 2 3 4 5) (codes "BoxCas 1 2 3 4 5")

abbrev pub CallsAreListed : Type 0
CallsAreListed =
    Lists (Call 1 2 3 4) (codes "Call 1 2 3 4") × Lists (CallPointer 1 2 3 4 5) (codes "CallPointer 1 2 3 4 5") × Lists (Return 1) (codes "Return 1")
    × Lists (New 1 2) (codes "New 1 2") × Lists (Free 1) (codes "Free 1") × Lists (Size 1 2) (codes "Size 1 2") × Lists (Lock 1) (codes "Lock 1")
    × Lists (Out 1) (codes "Out 1") × Lists (Input 1) (codes "Input 1") × Lists (Spawn 1 2 3) (codes "Spawn 1 2 3") × Lists (Join 1 2) (codes "Join 1 2")
    × Lists (SelfId 1) (codes "Self 1") × Lists (Exit 1) (codes "Exit 1") × Lists Abort (codes "Abort")
