-- Worked plays of the order of evaluation.
use Rattle.std.specs.Prelude.{ℕ, [], ◌∷◌, true, false}
use Rattle.filc_num.specs.declared.integer.IntType.TheVariants.{I32}
use Rattle.filc_num.specs.declared.integer.BinOp.TheVariants.{Add, Sub}
use Rattle.filc_num.specs.declared.reason.Reason.TheVariants.{NotFunction}
use Rattle.c_tree.specs.declared.operation.Operation.TheVariants as op
use Rattle.c_tree.specs.declared.operation.Access.TheVariants.{Integer, Box}
use Rattle.c_tree.specs.declared.operation.Change.TheVariants.{Integer as IntChange}
use Rattle.c_tree.specs.declared.expr.Expr.{Expr, Chain', Logic', Choose', end_of-Expr, more_of-Expr, end_of-Link, more_of-Link}
use Rattle.ideal_machine.specs.declared.value.Half.TheVariants.{Object as ObjectHalf}
use Rattle.ideal_machine.specs.declared.value.Kept.TheVariants.{Pair as KeptPair}
use Rattle.ideal_machine.specs.declared.event.Operation.TheVariants.{Compute}
use Rattle.ideal_machine.specs.declared.event.Event.TheVariants.{Check, GetInt, SetInt, RmwInt, SetHalf, Input}
use Rattle.ideal_machine.specs.declared.event.Answer.TheVariants.{Granted, Done, Number}
use Rattle.ideal_machine.specs.Values.{integer}
use Rattle.tree_play.specs.Worked.Setting.{leaf, one, two, number, local, static, bytes_at, into, Yields, Traps, expr_play}

abbrev pub input : Expr
input = leaf op.Input

-- ---- assignments

-- `a[i++] = i`, where i is 0: the place is found, then the right side is computed, which is 1 by then
abbrev pub element : Expr
element =
    Chain' 1 _ (more_of-Expr (static 0) end_of-Expr) (tt ∷ [])
    (more_of-Link (op.Advance 4) (tt ∷ []) (more_of-Expr (one (op.StepLocal 0 (IntChange Add I32 I32)) (number 1)) end_of-Expr) end_of-Link)

abbrev pub LvalueComesFirst : Type 0
LvalueComesFirst =
    Yields (expr_play (two (op.Store (Integer I32)) element (local 0)) (integer 0 ∷ [])) (Granted ∷ Done ∷ [])
    (Check (ObjectHalf 0) 65536 4 true ∷ SetInt (bytes_at 0 0 4) 1 ∷ []) (integer 1 ∷ []) (integer 1)

-- `*p += *q`: the right side is computed, then the old value is read, then the store is made
abbrev pub OldValueIsReadLate : Type 0
OldValueIsReadLate =
    Yields (expr_play (two (op.Update (Integer I32) (IntChange Add I32 I32)) (static 0) (one (op.Load (Integer I32)) (static 1))) [])
    (Granted ∷ Number 2 ∷ Granted ∷ Number 40 ∷ Granted ∷ Done ∷ [])
    (Check (ObjectHalf 1) 66560 4 false ∷ GetInt (bytes_at 1 0 4) ∷ Check (ObjectHalf 0) 65536 4 false ∷ GetInt (bytes_at 0 0 4)
    ∷ Check (ObjectHalf 0) 65536 4 true ∷ SetInt (bytes_at 0 0 4) 42 ∷ []) [] (integer 42)

-- `x += (x = 5)`, where x is 1, is 10
abbrev pub LocalIsReadLate : Type 0
LocalIsReadLate =
    Yields (expr_play (one (op.UpdateLocal 0 (IntChange Add I32 I32)) (one (op.SetLocal 0) (number 5))) (integer 1 ∷ [])) [] []
    (integer 10 ∷ []) (integer 10)

-- `p[0]++` gives the old value, and reads and stores
abbrev pub StepGivesTheOldValue : Type 0
StepGivesTheOldValue =
    Yields (expr_play (two (op.Step (Integer I32) (IntChange Add I32 I32)) (static 0) (number 1)) [])
    (Granted ∷ Number 7 ∷ Granted ∷ Done ∷ [])
    (Check (ObjectHalf 0) 65536 4 false ∷ GetInt (bytes_at 0 0 4) ∷ Check (ObjectHalf 0) 65536 4 true ∷ SetInt (bytes_at 0 0 4) 8 ∷ [])
    [] (integer 7)

-- ---- operands

-- from left to right: 66 - 65
abbrev pub LeftComesFirst : Type 0
LeftComesFirst =
    Yields (expr_play (two (op.Binary Sub I32) input input) []) (Number 66 ∷ Number 65 ∷ []) (Input ∷ Input ∷ []) [] (integer 1)

-- a call's function and arguments are evaluated before the pointer is looked at
abbrev pub PointerIsLookedAtLast : Type 0
PointerIsLookedAtLast =
    Traps (expr_play (two (op.CallPointer 1) input input) []) (Number 66 ∷ Number 65 ∷ []) (Input ∷ Input ∷ []) NotFunction

-- the last argument of an atomic call, its order, is evaluated before the event; the operand that waits for it keeps its
-- capability
abbrev pub before_order : Expr → Expr
before_order e =
    Chain' 1 _ (more_of-Expr e end_of-Expr) (tt ∷ []) (more_of-Link (op.Advance 0) (tt ∷ []) (more_of-Expr input end_of-Expr) end_of-Link)

abbrev pub OrderIsEvaluatedFirst : Type 0
OrderIsEvaluatedFirst =
    Yields (expr_play (two (op.Fetch I32 Add I32) (static 0) (before_order (number 2))) []) (Number 9 ∷ Granted ∷ Number 5 ∷ [])
    (Input ∷ Check (ObjectHalf 0) 65536 4 true ∷ RmwInt (bytes_at 0 0 4) (Compute Add I32 I32) 2 ∷ []) [] (integer 5)
    × Yields (expr_play (two (op.Store Box) (static 0) (before_order (static 1))) []) (Number 9 ∷ Granted ∷ Done ∷ [])
    (Input ∷ Check (ObjectHalf 0) 65536 8 true ∷ SetHalf 0 0 (KeptPair 66560 (ObjectHalf 1)) ∷ []) [] (into 1 0)

-- `&&` and `||` stop at the operand that decides, and give 1 or 0
abbrev pub both : Expr → Expr → Expr
both a b = Logic' 1 true (tt ∷ tt ∷ []) (more_of-Expr a (more_of-Expr b end_of-Expr))

abbrev pub either : Expr → Expr → Expr
either a b = Logic' 1 false (tt ∷ tt ∷ []) (more_of-Expr a (more_of-Expr b end_of-Expr))

abbrev pub LogicStops : Type 0
LogicStops =
    Yields (expr_play (both (number 0) input) []) [] [] [] (integer 0)
    × Yields (expr_play (both (number 2) input) []) (Number 7 ∷ []) (Input ∷ []) [] (integer 1)
    × Yields (expr_play (either input input) []) (Number 7 ∷ []) (Input ∷ []) [] (integer 1)
    × Yields (expr_play (either (number 0) input) []) (Number 0 ∷ []) (Input ∷ []) [] (integer 0)

-- `test ? a : b` evaluates one of the two
abbrev pub OneIsChosen : Type 0
OneIsChosen =
    (a b : ℕ) →
    Yields (expr_play (Choose' 1 _ (more_of-Expr input end_of-Expr) _ (more_of-Expr (number a) end_of-Expr) _ (more_of-Expr input end_of-Expr)) [])
    (Number 1 ∷ []) (Input ∷ []) [] (integer a)
    × Yields (expr_play (Choose' 1 _ (more_of-Expr input end_of-Expr) _ (more_of-Expr input end_of-Expr) _ (more_of-Expr (number b) end_of-Expr)) [])
    (Number 0 ∷ []) (Input ∷ []) [] (integer b)

-- the comma gives its right side
abbrev pub CommaGivesTheRight : Type 0
CommaGivesTheRight = (v : ℕ) → Yields (expr_play (two op.Second input (number v)) []) (Number 65 ∷ []) (Input ∷ []) [] (integer v)
