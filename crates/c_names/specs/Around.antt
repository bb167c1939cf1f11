-- What is round the expressions of a function.
use Rattle.std.specs.Prelude.{ℕ, List}
use Rattle.c_expr_rules.specs.Expressions.{Around}
use Rattle.c_file_rules.specs.Kinds.{is_among}

-- in a function whose locals with a home are these
abbrev pub with_homes : List ℕ → Around → Around
with_homes homes around = record around { has_home = (λ local. is_among local homes) }
