-- A function value that reads the constructs that count as nesting, where so many may be open.
use Rattle.std.specs.Prelude.{ℕ, Result}
use Rattle.std.specs.declared.alloc.Global.{Global}
use denote.Ref.{MutBor}
use Rattle.c_cursor.specs.Input.{Input, answer, Gives}
use Rattle.c_cursor.specs.declared.fault.Fault.{Fault}
use Rattle.c_syntax.specs.Grammar.{inner}
use Rattle.c_expr_parser.specs.declared.opened.What.{What}
use Rattle.c_expr_parser.specs.declared.opened.Opened.{Opened}
use Rattle.c_expr_parser.specs.Opened.{opened_read}

pub record Nests (room : ℕ) (pre : Global → MutBor Input → ℕ → What → Type 0)
    (post : Global → MutBor Input → ℕ → What → Result Opened Fault → MutBor Input → Type 0) : Type 0 where
  pub callable : (alloc : Global) (old : MutBor Input) (what : What) → pre alloc old room what
  pub reads : (alloc : Global) (old new : MutBor Input) (what : What) (r : Result Opened Fault) → post alloc old room what r new
      → Gives (answer (opened_read what (inner room)) old.now) r new.now
