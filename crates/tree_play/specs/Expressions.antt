-- The play of expressions: operands from left to right, and then one operation on their values (the order that this C
-- has; C11 6.5 leaves it open).
--
-- Only `&&`, `||` and `?:` leave operands out (C11 6.5.13 to 6.5.15). What an operation does with values is `apply`.
use Rattle.std.specs.Prelude.{ℕ, List, [], ◌∷◌, Bool, true, false}
use Rattle.c_tree.specs.declared.expr.Expr.{Expr, Apply', Chain', Logic', Choose', Print', Row_of-Expr, end_of-Expr, more_of-Expr, Row_of-Link, end_of-Link, more_of-Link}
use Rattle.ideal_machine.specs.declared.value.Value.{Value}
use Rattle.ideal_machine.specs.Values.{State, integer}
use Rattle.ideal_machine.specs.Play.{Gives, bind}
use Rattle.ideal_machine.specs.Phrases.{if_zero}
use Rattle.tree_play.specs.Around.{Around, line_in, TextPlay, in_state}
use Rattle.tree_play.specs.Apply.{apply}
use Rattle.tree_play.specs.Printing.{print}

abbrev mutual
  pub play_expr : Around → Expr → State → TextPlay Value
  play_expr around (Apply' line op z operands) state =
      bind (play_operands around operands state) (λ state values. apply around op (line_in around line) values state)
  play_expr around (Chain' line s (more_of-Expr first end_of-Expr) z links) state =
      bind (play_expr around first state) (λ state v. play_links around line links v state)
  play_expr around (Logic' line all z operands) state = play_logic around all operands state
  play_expr around (Choose' line s (more_of-Expr test end_of-Expr) s1 (more_of-Expr one end_of-Expr) s2 (more_of-Expr other end_of-Expr)) state =
      bind (play_expr around test state) (λ state v.
      if_zero v.number (play_expr around other state) (play_expr around one state))
  play_expr around (Print' line z operands pieces) state =
      bind (play_operands around operands state) (λ state values.
      in_state state (print around pieces (line_in around line) values))

  -- operands, from left to right
  pub play_operands : {m : _} → Around → Row_of-Expr m → State → TextPlay (List Value)
  play_operands around end_of-Expr state = Gives state []
  play_operands around (more_of-Expr e rest) state =
      bind (play_expr around e state) (λ state v.
      bind (play_operands around rest state) (λ state values. Gives state (v ∷ values)))

  -- the rest of a chain: what stands before a link is the first operand of its operation
  pub play_links : {m : _} → Around → ℕ → Row_of-Link m → Value → State → TextPlay Value
  play_links around line end_of-Link v state = Gives state v
  play_links around line (more_of-Link op z operands links) v state =
      bind (play_operands around operands state) (λ state values.
      bind (apply around op (line_in around line) (v ∷ values) state) (λ state v. play_links around line links v state))

  -- `&&` where all are wanted, else `||`: the operands up to the first that decides; gives 1 or 0
  pub play_logic : {m : _} → Around → Bool → Row_of-Expr m → State → TextPlay Value
  play_logic around true end_of-Expr state = Gives state (integer 1)
  play_logic around false end_of-Expr state = Gives state (integer 0)
  play_logic around true (more_of-Expr e rest) state =
      bind (play_expr around e state) (λ state v.
      if_zero v.number (Gives state (integer 0)) (play_logic around true rest state))
  play_logic around false (more_of-Expr e rest) state =
      bind (play_expr around e state) (λ state v.
      if_zero v.number (play_logic around false rest state) (Gives state (integer 1)))
