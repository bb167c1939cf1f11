-- The reasons why a run is trapped: their numbers, which a trap's word codes, and their texts.
use Rattle.std.specs.Prelude.{ℕ, List, codes}
use Rattle.filc_num.specs.declared.reason.Reason.{Reason}
use Rattle.filc_num.specs.declared.reason.Reason.TheVariants.{NoCapability, FunctionData, Freed, Bounds, Alignment, ReadOnly, NotFunction, FunctionType, BadFree, NoCell, Divide, Shift, OutputLimit, CallDepth, Abort}

-- the reasons are counted from 1; of several that hold for one access, the least counts
abbrev pub number_of : Reason → ℕ
number_of NoCapability = 1
number_of FunctionData = 2
number_of Freed = 3
number_of Bounds = 4
number_of Alignment = 5
number_of ReadOnly = 6
number_of NotFunction = 7
number_of FunctionType = 8
number_of BadFree = 9
number_of NoCell = 10
number_of Divide = 11
number_of Shift = 12
number_of OutputLimit = 13
number_of CallDepth = 14
number_of Abort = 15

-- the words that the line of a trap has
unfoldable pub text_of : Reason → List ℕ
text_of NoCapability = codes "no capability"
text_of FunctionData = codes "function used as data"
text_of Freed = codes "freed"
text_of Bounds = codes "out of bounds"
text_of Alignment = codes "misaligned"
text_of ReadOnly = codes "read-only"
text_of NotFunction = codes "not a function"
text_of FunctionType = codes "function type"
text_of BadFree = codes "bad free"
text_of NoCell = codes "no cell"
text_of Divide = codes "division"
text_of Shift = codes "shift count"
text_of OutputLimit = codes "output limit"
text_of CallDepth = codes "call depth"
text_of Abort = codes "abort"
