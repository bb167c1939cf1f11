-- What declarations and statements keep beside what expressions look at: names by blocks, and what a function and a file have so far.
use Rattle.std.specs.Prelude.{ℕ, List}
use Rattle.c_tree.specs.declared.stmt.LocalDef.{LocalDef}
use Rattle.c_scope.specs.Scopes.{Names}
pub use Rattle.c_expr_rules.specs.declared.above.Fill.{Fill}
pub use Rattle.c_expr_rules.specs.declared.above.Filled.{Filled}
pub use Rattle.c_expr_rules.specs.declared.above.Placed.{Placed}

pub record Above : Type 0 where
  pub names : Names
  -- of a function, the number of its next local, and of its innermost block the locals so far, the last one first
  pub next_local : ℕ
  pub locals : List LocalDef
  -- static objects, without texts, and what their initialisers give, the last one first
  pub placed : List Placed
  pub filled : List Filled
