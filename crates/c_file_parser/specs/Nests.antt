-- A function value that reads the constructs of statements and initialisers that count as nesting, where so many
-- may be open.
use Rattle.std.specs.Prelude.{ℕ, Result}
use Rattle.std.specs.declared.alloc.Global.{Global}
use denote.Ref.{MutBor}
use Rattle.c_cursor.specs.Input.{Input, answer, Gives}
use Rattle.c_cursor.specs.declared.fault.Fault.{Fault}
use Rattle.c_syntax.specs.Files.{bodies}
use Rattle.c_file_parser.specs.declared.constructs.Construct.{Construct}
use Rattle.c_file_parser.specs.declared.constructs.Opened.{Opened}
use Rattle.c_file_parser.specs.Constructs.{construct_read}

pub record Nests (room : ℕ) (pre : Global → MutBor Input → ℕ → Construct → Type 0)
    (post : Global → MutBor Input → ℕ → Construct → Result Opened Fault → MutBor Input → Type 0) : Type 0 where
  pub callable : (alloc : Global) (old : MutBor Input) (what : Construct) → pre alloc old room what
  pub reads : (alloc : Global) (old new : MutBor Input) (what : Construct) (r : Result Opened Fault) → post alloc old room what r new
      → Gives (answer (construct_read what (bodies room)) old.now) r new.now
