-- Statements: blocks, selection, loops and jumps (C11 6.8).
--
-- The recursion says the order: each part of a statement where it stands, and the statement last. A block is a scope,
-- and so is each `if`, `while`, `do`, `for` and `switch`, and each statement under one (6.8.4p3, 6.8.5p5).
--
-- construct                       rules, the lowest first
-- condition                       24, by the expression
-- value of a switch               25, by the expression
-- case's constant                 10, by the expression
-- label `case`                    26
-- label `default`                 27
-- break                           28
-- continue                        29
-- value of a return               18, by the expression
-- return                          30
-- assertion's condition           10 32, by the expression
use Rattle.std.specs.Prelude.{ℕ, suc, ◌==◌, Bool, true, not, is_some, List, [], ◌∷◌, ◌++◌, reverse, length, if◌then◌else◌, Option, Some, None}
use Rattle.std.specs.List.{list_any}
use Rattle.filc_num.specs.CIntTypes.{int_type_of}
use Rattle.filc_num.specs.declared.c_int_type.CIntType.{CIntType}
use Rattle.c_parts.specs.declared.span.Span.{Span}
use Rattle.c_syntax.specs.declared.expr.Expr.{Expr}
use Rattle.c_syntax.specs.declared.expr.Assertion.{Assertion}
use Rattle.c_syntax.specs.declared.file.Block.{Row_of-BlockItem, end_of-BlockItem, more_of-BlockItem}
use Rattle.c_syntax.specs.declared.file.BlockItem.{BlockItem, Declaration as ItemDeclaration, Assertion as ItemAssertion, Statement' as ItemStatement'}
use Rattle.c_syntax.specs.declared.file.StatementKind.{StatementKind, Block' as InBlock', Empty, Expression, If', While', Do', For', Switch', Break, Continue, Return, None' as NoElse, Some' as Else', end_of-Statement, more_of-Statement, Row_of-SwitchItem, end_of-SwitchItem, more_of-SwitchItem}
use Rattle.c_syntax.specs.declared.file.SwitchItem.{SwitchItem, Case, Default, Declaration as SwitchDeclaration, Assertion as SwitchAssertion, Statement' as SwitchStatement'}
use Rattle.c_syntax.specs.declared.file.ForStart.{ForStart}
use Rattle.c_syntax.specs.declared.file.ForStart.TheVariants.{Declaration as StartDeclaration, Expression as StartExpression}
use Rattle.c_tree.specs.declared.operation.Operation.TheVariants as op
use Rattle.c_tree.specs.declared.expr.Expr.{Expr as Tree}
use Rattle.c_tree.specs.declared.expr.Expr.TheVariants as tree
use Rattle.c_tree.specs.declared.stmt.Stmt.{Stmt}
use Rattle.c_tree.specs.declared.stmt.Stmt.TheVariants as stmt
use Rattle.c_tree.specs.declared.stmt.Case.{Case as CaseOf}
use Rattle.c_tree.specs.declared.stmt.LocalDef.{LocalDef}
use Rattle.c_specifiers.specs.declared.list.Standing.TheVariants as standing
use Rattle.c_expr_rules.specs.Outcomes.{State, Checked, Fine, next, by_rules, ◌breaks◌}
use Rattle.c_expr_rules.specs.TypedExpressions.{tree_of, is_void, type_at}
use Rattle.c_expr_rules.specs.Operators.{kind_in}
use Rattle.c_expr_rules.specs.Expressions.{typed_value}
use Rattle.c_expr_rules.specs.Contexts.{condition, switch_value, result, assertion_constant, case_constant, constant_in}
use Rattle.c_file_rules.specs.Naming.{scoped}
use Rattle.c_file_rules.specs.Constructs.{Here}
use Rattle.c_file_rules.specs.Declaring.{declaration_checked}
-- what a statement stands in: a loop or switch, a loop, and a function with a result of the type of this number
pub use Rattle.c_file_rules.specs.declared.jumps.Inside.{Inside}
-- of a switch so far: its statements, its cases and its default, by the statement where each goes on
pub use Rattle.c_file_rules.specs.declared.switches.Switched.{Switched}

abbrev pub in_loop : Inside → Inside
in_loop i = record i { may_break = true; may_continue = true }

abbrev pub in_switch : Inside → Inside
in_switch i = record i { may_break = true }

abbrev pub nothing_done : Stmt
nothing_done = stmt.Block [] []

-- ---- blocks: their locals in order, which are zero when the block is entered

abbrev pub with_locals : List LocalDef → State → State
with_locals locals s = record s { above = record s.above { locals = locals } }

abbrev pub block_of : List LocalDef → State → List Stmt → Checked Stmt
block_of outer s statements = Fine (with_locals outer s) (stmt.Block (reverse s.above.locals) statements)

-- a scope whose locals are a block's
abbrev pub block_with : Here → State → (State → Checked (List Stmt)) → Checked Stmt
block_with here s inside =
    next (scoped (with_locals [] s) inside) (λ after statements. block_of s.above.locals after statements)

-- ---- expressions in statements

abbrev pub run_value : Here → State → Expr → Checked Stmt
run_value here s e = next (typed_value here.around s e) (λ s t. Fine s (stmt.Run (tree_of t.made)))

abbrev pub optional_run : Here → State → Option Expr → Checked (List Stmt)
optional_run here s None = Fine s []
optional_run here s (Some e) = next (run_value here s e) (λ s done. Fine s (done ∷ []))

-- a loop's condition, before its body
abbrev pub tested : Here → State → Expr → Checked (List Stmt)
tested here s e = next (condition here.around s e) (λ s t. Fine s (stmt.BreakUnless e.span.line (tree_of t.made) ∷ []))

abbrev pub optionally_tested : Here → State → Option Expr → Checked (List Stmt)
optionally_tested here s None = Fine s []
optionally_tested here s (Some e) = tested here s e

abbrev pub asserted : Here → State → Assertion → Checked (List Stmt)
asserted here s a = next (assertion_constant here.around s a.condition) (λ s t. Fine s [])

abbrev pub start_done : Here → State → ForStart → Checked (List Stmt)
start_done here s (StartDeclaration d) = declaration_checked here standing.ForStart s d
start_done here s (StartExpression e) = optional_run here s e

-- ---- return (6.8.6.4)

abbrev pub optional_result : Here → State → ℕ → Option Expr → Checked (Option Tree)
optional_result here s ty None = Fine s None
optional_result here s ty (Some e) = next (result here.around s ty e) (λ s t. Fine s (Some (tree_of t.made)))

-- a value in a void function, or none in another
abbrev pub is_bad_return : State → ℕ → Option Tree → Bool
is_bad_return s ty value = if is_void (type_at s ty) then is_some value else not (is_some value)

-- ---- switches (6.8.4.2)

abbrev pub nothing_switched : Switched
nothing_switched = record { statements = []; cases = []; other = None }

abbrev pub with_statements : List Stmt → Switched → Switched
with_statements more w = record w { statements = w.statements ++ more }

abbrev pub has_case : ℕ → Switched → Bool
has_case v w = list_any (λ (c : CaseOf). c.value == v) w.cases

-- a case's constant, as a value of the promoted type, is none of those before (p3)
abbrev pub with_case : (line : ℕ) → State → Option ℕ → Switched → Checked Switched
with_case line s None w = Fine s w
with_case line s (Some v) w =
    by_rules line (26 breaks has_case v w ∷ []) s (record w {
      cases =
          w.cases ++ record { value = v; statement = length w.statements } ∷ [];
    })

abbrev pub with_default : (line : ℕ) → State → Switched → Checked Switched
with_default line s w =
    by_rules line (27 breaks is_some w.other ∷ []) s (record w { other = Some (length w.statements) })

-- without a default the switch is left
abbrev pub or_end : Option ℕ → ℕ → ℕ
or_end None end = end
or_end (Some statement) end = statement

abbrev pub other_of : Switched → ℕ
other_of w = or_end w.other (length w.statements)

-- the value stands in a local of its own, which has no home and no name
abbrev pub with_switch_local : State → State
with_switch_local s = record s { above = record s.above { next_local = suc s.above.next_local } }

abbrev pub set_local : (line local : ℕ) → Tree → Stmt
set_local line local value = stmt.Run (tree.Apply line (op.SetLocal local) (value ∷ []))

-- a local's value, which has this kind (C11 6.8.4.2p5)
abbrev pub local_as : (line local : ℕ) → CIntType → Tree
local_as line local k = tree.Apply line (op.Convert (int_type_of k)) (tree.Apply line (op.Local local) [] ∷ [])

abbrev pub switch_on : (line local : ℕ) → CIntType → State → Switched → Checked (List Stmt)
switch_on line local k s w =
    Fine s (stmt.Switch line (local_as line local k) w.cases (other_of w) w.statements ∷ [])

-- ---- statements

abbrev mutual
  pub statement_checked : Here → Inside → State → Span → StatementKind → Checked Stmt
  statement_checked here i s span (InBlock' s1 z items) = block_with here s (λ s. items_checked here i s items)
  statement_checked here i s span Empty = Fine s nothing_done
  statement_checked here i s span (Expression e) = run_value here s e
  statement_checked here i s span (If' e p (more_of-Statement s1 k1 end_of-Statement) NoElse) =
      scoped s (λ s. next (condition here.around s e) (λ s t.
      next (scoped s (λ s. statement_checked here i s s1 k1)) (λ s one. Fine s (stmt.If span.line (tree_of t.made) one nothing_done))))
  statement_checked here i s span (If' e p (more_of-Statement s1 k1 end_of-Statement) (Else' q
      (more_of-Statement s2 k2 end_of-Statement))) =
      scoped s (λ s. next (condition here.around s e) (λ s t.
      next (scoped s (λ s. statement_checked here i s s1 k1)) (λ s one.
      next (scoped s (λ s. statement_checked here i s s2 k2)) (λ s other. Fine s (stmt.If span.line (tree_of t.made) one other)))))
  statement_checked here i s span (While' e p (more_of-Statement s1 k1 end_of-Statement)) =
      scoped s (λ s. next (tested here s e) (λ s test.
      next (scoped s (λ s. statement_checked here (in_loop i) s s1 k1)) (λ s body.
      Fine s (stmt.Loop span.line (stmt.Block [] (test ++ body ∷ [])) nothing_done))))
  statement_checked here i s span (Do' p (more_of-Statement s1 k1 end_of-Statement) e) =
      scoped s (λ s. next (scoped s (λ s. statement_checked here (in_loop i) s s1 k1)) (λ s body.
      next (condition here.around s e) (λ s t.
      Fine s (stmt.Loop span.line body (stmt.BreakUnless e.span.line (tree_of t.made))))))
  statement_checked here i s span (For' start test step p (more_of-Statement s1 k1 end_of-Statement)) =
      block_with here s (λ s. next (start_done here s start) (λ s first.
      next (optionally_tested here s test) (λ s test.
      next (optional_run here s step) (λ s step.
      next (scoped s (λ s. statement_checked here (in_loop i) s s1 k1)) (λ s body.
      Fine s (first ++ stmt.Loop span.line (stmt.Block [] (test ++ body ∷ [])) (stmt.Block [] step) ∷ []))))))
  statement_checked here i s span (Switch' e z items) =
      scoped s (λ s. next (switch_value here.around s e) (λ s t.
      let local = s.above.next_local in
      next (block_with here (with_switch_local s) (λ s.
      next (switch_checked here (in_switch i) (kind_in t) s nothing_switched items)
      (λ s w. switch_on span.line local (kind_in t) s w))) (λ s block.
      Fine s (stmt.Block [] (set_local e.span.line local (tree_of t.made) ∷ block ∷ [])))))
  statement_checked here i s span Break = by_rules span.line (28 breaks not i.may_break ∷ []) s (stmt.Break span.line)
  statement_checked here i s span Continue =
      by_rules span.line (29 breaks not i.may_continue ∷ []) s (stmt.Continue span.line)
  statement_checked here i s span (Return e) =
      next (optional_result here s i.result e) (λ s value.
      by_rules span.line (30 breaks is_bad_return s i.result value ∷ []) s (stmt.Return span.line value))

  pub items_checked : {m : _} → Here → Inside → State → Row_of-BlockItem m → Checked (List Stmt)
  items_checked here i s end_of-BlockItem = Fine s []
  items_checked here i s (more_of-BlockItem item rest) =
      next (item_checked here i s item) (λ s first. next (items_checked here i s rest)
      (λ s more. Fine s (first ++ more)))

  pub item_checked : Here → Inside → State → BlockItem → Checked (List Stmt)
  item_checked here i s (ItemDeclaration d) = declaration_checked here standing.Block s d
  item_checked here i s (ItemAssertion a) = asserted here s a
  item_checked here i s (ItemStatement' span k) =
      next (statement_checked here i s span k) (λ s done. Fine s (done ∷ []))

  -- what stands in a switch on a value of this kind
  pub switch_checked : {m : _} → Here → Inside → CIntType → State → Switched → Row_of-SwitchItem m → Checked Switched
  switch_checked here i k s w end_of-SwitchItem = Fine s w
  switch_checked here i k s w (more_of-SwitchItem item rest) =
      next (switched here i k s w item) (λ s w. switch_checked here i k s w rest)

  pub switched : Here → Inside → CIntType → State → Switched → SwitchItem → Checked Switched
  switched here i k s w (Case span e) =
      next (case_constant here.around s k e) (λ s t. with_case span.line s (constant_in t.known) w)
  switched here i k s w (Default span) = with_default span.line s w
  switched here i k s w (SwitchDeclaration d) =
      next (declaration_checked here standing.Block s d) (λ s done. Fine s (with_statements done w))
  switched here i k s w (SwitchAssertion a) = next (asserted here s a) (λ s none. Fine s w)
  switched here i k s w (SwitchStatement' span kind) =
      next (statement_checked here i s span kind) (λ s done. Fine s (with_statements (done ∷ []) w))
