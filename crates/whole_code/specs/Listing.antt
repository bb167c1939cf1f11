-- The listing of code, as bytes.
--
--     filc code 1                     the first line
--     function N V                    for each function: its number and how many registers it has
--     INDEX LINE NAME OPERAND ..      for each of its instructions, its operands in their order
--
-- Words are separated by single spaces, numbers are decimal, and each line ends with a line feed.
use Rattle.std.specs.Prelude.{codes, ℕ, ◌+◌, List, [], ◌∷◌, ◌++◌}
use Rattle.std.specs.Fmt.{decimal}
use Rattle.whole_code.specs.declared.op.Instruction.{Instruction}
use Rattle.whole_code.specs.declared.op.Op.{Op}
use Rattle.whole_code.specs.declared.op.Op.TheVariants.{Const, Move, StaticAt, FunctionAt, Convert, Binary, PointerAdd, PointerSub, PointerCompare, ToInteger, ToPointer, Jump, JumpZero, Poll, Home, LoadInt, StoreInt, RmwInt, CasInt, LoadPointer, StorePointer, BoxStore, BoxSwap, BoxCas, Call, CallPointer, Return, New, Free, Size, Lock, Out, Input, Spawn, Join, SelfId, Exit, Abort}
use Rattle.whole_code.specs.Plain.{PlainFunction, PlainCode}

abbrev pub name_of : Op → List ℕ
name_of (Const d constant) = codes "Const"
name_of (Move d a) = codes "Move"
name_of (StaticAt d n) = codes "StaticAt"
name_of (FunctionAt d f) = codes "FunctionAt"
name_of (Convert d a t) = codes "Convert"
name_of (Binary d a b op t) = codes "Binary"
name_of (PointerAdd d a b bytes) = codes "PointerAdd"
name_of (PointerSub d a b bytes) = codes "PointerSub"
name_of (PointerCompare d a b op) = codes "PointerCompare"
name_of (ToInteger d a t) = codes "ToInteger"
name_of (ToPointer d a) = codes "ToPointer"
name_of (Jump target) = codes "Jump"
name_of (JumpZero a target) = codes "JumpZero"
name_of Poll = codes "Poll"
name_of (Home d bytes) = codes "Home"
name_of (LoadInt d p t) = codes "LoadInt"
name_of (StoreInt p a t) = codes "StoreInt"
name_of (RmwInt d p a op t u) = codes "RmwInt"
name_of (CasInt d p e n t) = codes "CasInt"
name_of (LoadPointer d p) = codes "LoadPointer"
name_of (StorePointer p a) = codes "StorePointer"
name_of (BoxStore p a) = codes "BoxStore"
name_of (BoxSwap d p a) = codes "BoxSwap"
name_of (BoxCas d w p e n) = codes "BoxCas"
name_of (Call d f first count) = codes "Call"
name_of (CallPointer d a first count kind) = codes "CallPointer"
name_of (Return a) = codes "Return"
name_of (New d a) = codes "New"
name_of (Free a) = codes "Free"
name_of (Size d a) = codes "Size"
name_of (Lock p) = codes "Lock"
name_of (Out a) = codes "Out"
name_of (Input d) = codes "Input"
name_of (Spawn d a b) = codes "Spawn"
name_of (Join d a) = codes "Join"
name_of (SelfId d) = codes "Self"
name_of (Exit a) = codes "Exit"
name_of Abort = codes "Abort"

abbrev pub operands_of : Op → List ℕ
operands_of (Const d constant) = d ∷ constant ∷ []
operands_of (Move d a) = d ∷ a ∷ []
operands_of (StaticAt d n) = d ∷ n ∷ []
operands_of (FunctionAt d f) = d ∷ f ∷ []
operands_of (Convert d a t) = d ∷ a ∷ t ∷ []
operands_of (Binary d a b op t) = d ∷ a ∷ b ∷ op ∷ t ∷ []
operands_of (PointerAdd d a b bytes) = d ∷ a ∷ b ∷ bytes ∷ []
operands_of (PointerSub d a b bytes) = d ∷ a ∷ b ∷ bytes ∷ []
operands_of (PointerCompare d a b op) = d ∷ a ∷ b ∷ op ∷ []
operands_of (ToInteger d a t) = d ∷ a ∷ t ∷ []
operands_of (ToPointer d a) = d ∷ a ∷ []
operands_of (Jump target) = target ∷ []
operands_of (JumpZero a target) = a ∷ target ∷ []
operands_of Poll = []
operands_of (Home d bytes) = d ∷ bytes ∷ []
operands_of (LoadInt d p t) = d ∷ p ∷ t ∷ []
operands_of (StoreInt p a t) = p ∷ a ∷ t ∷ []
operands_of (RmwInt d p a op t u) = d ∷ p ∷ a ∷ op ∷ t ∷ u ∷ []
operands_of (CasInt d p e n t) = d ∷ p ∷ e ∷ n ∷ t ∷ []
operands_of (LoadPointer d p) = d ∷ p ∷ []
operands_of (StorePointer p a) = p ∷ a ∷ []
operands_of (BoxStore p a) = p ∷ a ∷ []
operands_of (BoxSwap d p a) = d ∷ p ∷ a ∷ []
operands_of (BoxCas d w p e n) = d ∷ w ∷ p ∷ e ∷ n ∷ []
operands_of (Call d f first count) = d ∷ f ∷ first ∷ count ∷ []
operands_of (CallPointer d a first count kind) = d ∷ a ∷ first ∷ count ∷ kind ∷ []
operands_of (Return a) = a ∷ []
operands_of (New d a) = d ∷ a ∷ []
operands_of (Free a) = a ∷ []
operands_of (Size d a) = d ∷ a ∷ []
operands_of (Lock p) = p ∷ []
operands_of (Out a) = a ∷ []
operands_of (Input d) = d ∷ []
operands_of (Spawn d a b) = d ∷ a ∷ b ∷ []
operands_of (Join d a) = d ∷ a ∷ []
operands_of (SelfId d) = d ∷ []
operands_of (Exit a) = a ∷ []
operands_of Abort = []

-- ---- lines

-- numbers behind a word
abbrev pub words_after : List ℕ → List ℕ
words_after [] = []
words_after (n ∷ numbers) = (codes " " ++ decimal n) ++ words_after numbers

-- the line of the instruction at an index
abbrev pub instruction_line : (index : ℕ) → Instruction → List ℕ
instruction_line index i =
    decimal index ++ codes " " ++ decimal i.line ++ codes " " ++ name_of i.op ++ words_after (operands_of i.op) ++ codes "\n"

-- the lines of instructions from an index on
abbrev pub instruction_lines : (index : ℕ) → List Instruction → List ℕ
instruction_lines index [] = []
instruction_lines index (i ∷ instructions) = instruction_line index i ++ instruction_lines (index + 1) instructions

-- the line of the function of a number, and those of its instructions
abbrev pub function_lines : (number : ℕ) → PlainFunction → List ℕ
function_lines number f =
    codes "function " ++ decimal number ++ codes " " ++ decimal f.values ++ codes "\n" ++ instruction_lines 0 f.instructions

-- the lines of functions from a number on
abbrev pub functions_lines : (number : ℕ) → List PlainFunction → List ℕ
functions_lines number [] = []
functions_lines number (f ∷ functions) = function_lines number f ++ functions_lines (number + 1) functions

abbrev pub listing_of : PlainCode → List ℕ
listing_of code = codes "filc code 1\n" ++ functions_lines 0 code.functions
