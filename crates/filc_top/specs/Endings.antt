-- The endings of a call: the status of each, and the line that it writes to standard error.
use Rattle.std.specs.Prelude.{ℕ, List, [], ◌∷◌, ◌++◌, codes}
use Rattle.std.specs.Fmt.{decimal}
use Rattle.filc_num.specs.Reasons.{text_of}
use Rattle.c_rules.specs.Refusals.{refusal_text}
use Rattle.c_rules.specs.declared.refusal.Refusal.{Refusal}
use Rattle.c_rules.specs.declared.refusal.RefusalKind.TheVariants.{NotBuilt}
use Rattle.c_rules.specs.declared.refusal.RefusalKind.TheVariants as kind
use Rattle.c_front.specs.declared.fault.FrontFault.{FrontFault}
use Rattle.c_front.specs.declared.fault.FrontFault.TheVariants as front
use Rattle.c_parser.specs.declared.fault.ParseFault.{ParseFault}
use Rattle.c_parser.specs.declared.fault.ParseFault.TheVariants as parser
use Rattle.c_rules.specs.declared.fault.CheckFault.{CheckFault}
use Rattle.c_rules.specs.declared.fault.CheckFault.TheVariants as check
use Rattle.checked_program.specs.declared.Unfit.{Unfit}
use Rattle.checked_program.specs.declared.Unfit.TheVariants as unfit
use Rattle.filc_top.specs.declared.ending.Ending.{Ending}
use Rattle.filc_top.specs.declared.ending.Ending.TheVariants.{Exited, Listed, Refused, Trapped, Deadlock, Spent, InputLimit, ReadFault, WriteFault, Usage, NoMemory}

-- the status of the program
abbrev pub status_of : Ending → ℕ
status_of (Exited status) = status
status_of Listed = 0
status_of Usage = 64
status_of ReadFault = 65
status_of WriteFault = 66
status_of NoMemory = 67
status_of (Refused refusal) = 68
status_of InputLimit = 69
status_of (Trapped reason line) = 70
status_of Deadlock = 71
status_of Spent = 72

-- the refusal of a file that `run` does not run yet
abbrev pub not_built : Refusal
not_built = record { kind = NotBuilt; line = 1 }

-- the refusal of a file that breaks no rule, and of which no program is made
abbrev pub unfit_program : Refusal
unfit_program = record { kind = kind.Unfit; line = 1 }

-- the end of a line that names a line of the file
abbrev pub at_line : List ℕ → ℕ → List ℕ
at_line text line = text ++ (codes " at line " ++ (decimal line ++ (10 ∷ [])))

-- the line of an ending
abbrev pub line_of : Ending → List ℕ
line_of (Exited status) = []
line_of Listed = []
line_of WriteFault = []
line_of Usage = codes "filc: usage: run, threads, check or code FILE, or demo N\n"
line_of ReadFault = codes "filc: read fault\n"
line_of NoMemory = codes "filc: no memory\n"
line_of (Refused refusal) = codes "filc: refused: " ++ at_line (refusal_text refusal.kind) refusal.line
line_of InputLimit = codes "filc: input too long\n"
line_of (Trapped reason line) = codes "filc: trap: " ++ at_line (text_of reason) line
line_of Deadlock = codes "filc: deadlock\n"
line_of Spent = codes "filc: turns spent\n"

-- how a call ends whose file was not carried to its parser
abbrev pub of_front : FrontFault → Ending
of_front (front.Refused refusal) = Refused refusal
of_front front.NoMemory = NoMemory

-- how a call ends whose file has no tree
abbrev pub of_parser : ParseFault → Ending
of_parser (parser.Syntax line) = Refused (record { kind = kind.Syntax; line = line })
of_parser (parser.Deep line) = Refused (record { kind = kind.Deep; line = line })
of_parser parser.NoMemory = NoMemory

-- how a call ends whose file has a tree that is no program
abbrev pub of_checker : CheckFault → Ending
of_checker (check.Rule line rule) = Refused (record { kind = kind.Rule rule; line = line })
of_checker check.NoMemory = NoMemory

-- how a call ends whose file breaks no rule and makes no program
abbrev pub of_unfit : Unfit → Ending
of_unfit unfit.Parts = Refused unfit_program
of_unfit unfit.NoMemory = NoMemory
