-- A statement is what its parts make of it, in their order: where a part breaks a rule, nothing behind it is looked at.
use Rattle.std.proofs.Common.{◌≡◌, ◌+◌, ℕ, List, [], ◌∷◌, ◌++◌, drop, reverse, refl, sym, ap, ◌∙◌}
use Rattle.std.specs.Prelude.{Vec, Option, Some, None}
use Rattle.std.specs.Option.{option_copied}
use Rattle.std.specs.declared.alloc.Global.{Global}
use Rattle.c_syntax.specs.declared.file.BlockItem.{BlockItem}
use Rattle.c_syntax.specs.declared.file.BlockItem.TheVariants as item
use Rattle.c_syntax.specs.declared.file.Statement.{Statement, out-Statement}
use Rattle.c_syntax.specs.declared.file.StatementKind.TheVariants as kind
use Rattle.c_tree.specs.declared.expr.Expr.{Expr as Tree}
use Rattle.c_tree.specs.declared.stmt.LocalDef.{LocalDef}
use Rattle.c_tree.specs.declared.stmt.Stmt.{Stmt}
use Rattle.c_tree.specs.declared.stmt.Stmt.TheVariants as stmt
use Rattle.c_expr_rules.specs.Outcomes.{State, Fine, next}
use Rattle.c_expr_rules.specs.Contexts.{switch_value, case_constant, constant_in}
use Rattle.c_expr_rules.specs.declared.typed.Typed.{Typed}
use Rattle.c_specifiers.specs.declared.list.Standing.TheVariants as standing
use Rattle.c_syntax.specs.declared.file.SwitchItem.TheVariants as switch
use Rattle.c_file_rules.specs.Declaring.{declaration_checked}
use Rattle.c_file_rules.specs.Switching.{told_switch}
use Rattle.c_syntax.specs.declared.file.SwitchItem.{SwitchItem}
use Rattle.c_expr_rules.specs.Views.{seen_state}
use Rattle.c_check_expr.proofs.Growing.{stays, grows_on, on_any, err_on}
use Rattle.c_check_expr.proofs.Outcomes.{next_goes, behind_passed, fails_at}
use Rattle.c_check_expr.proofs.Recursion.{two_go, second_fails, passes_same, passes_failed}
use Rattle.c_names.specs.Code.{here_at}
use Rattle.c_file_rules.specs.Naming.{scoped}
use Rattle.c_file_rules.specs.Statements.{block_with, tested, start_done, optionally_tested, optional_run, nothing_switched, item_checked, switched, asserted, with_case, with_statements}
use Rattle.c_file_rules.specs.declared.switches.Switched.{Switched}
use Rattle.c_statements.specs.StatementLists.{one_statement, statement_under, item_list, switch_list, kind_of, items_in}
use Rattle.c_statements.specs.Waiting.{test_of, unless_of, statement_loop}
use Rattle.c_statements.proofs.Before.{statements_before, all_before, list_goes, list_fails, list_ends}
use Rattle.c_statements.proofs.Blocked.{scope_grows, scope_inside, in_scope_ends, in_scope_fails, in_scope_passes, in_block_ends, in_block_fails, in_block_stops}
use Rattle.c_statements.proofs.Steps.{goes_fails, switch_fails, asserted_in}
use Rattle.c_statements.proofs.StatementTrees.{of_kind, items_are, block_is, statement_item_is, statement_case_is, cases_go, cases_fail, cases_end, choice_rest, choice_inside, choice_is, while_inside, while_is, do_inside, do_is, for_inside, for_is, switch_inside, switch_is, switch_goes, switch_stops}
use Rattle.c_statements.proofs.statements.+statements.Goals as goal

pub statement_under-returns : goal.statement_under-returns
statement_under-returns g t c =
    let here = here_at c.args.scene.now.facts.now (g.S.Surroundings.told c.args.scene.now.around.now) in
    let s = seen_state c.args.state.now in
    let i = c.args.inside in
    let x = c.args.statement.now in
    let line = (out-Statement x).span.line in
    let begun = seen_state c.enter.new.state in
    let u = seen_state c.statement_made.new.state in
    let v = seen_state c.leave.new.state in
    let inside = λ (s : State). one_statement here i s x in
    record {
      found = in_scope_ends (statement_under here i s x) s begun inside refl c.in_ok-enter.ensures.state u v _ (c.in_ok-done.ensures.found ∙ ap (λ (x : Stmt). Fine u x) (sym c.in_ok-new.ensures)) c.leave.ensures.state;
      grows = scope_grows c.args.state.now c.enter.new.state c.statement_made.new.state c.leave.new.state c.in_ok-enter.ensures.lists c.in_ok-enter.ensures.depth c.in_ok-done.ensures.grows c.leave.ensures.lists c.leave.ensures.depth;
    }

pub statement_under-returns-in_err-done : goal.statement_under-returns-in_err-done
statement_under-returns-in_err-done g t c =
    let here = here_at c.args.scene.now.facts.now (g.S.Surroundings.told c.args.scene.now.around.now) in
    let s = seen_state c.args.state.now in
    let i = c.args.inside in
    let x = c.args.statement.now in
    let line = (out-Statement x).span.line in
    let begun = seen_state c.enter.new.state in
    let u = seen_state c.statement_made.new.state in
    let inside = λ (s : State). one_statement here i s x in
    let f = c.in_err-done.field-0.0 in
    record {
      found = in_scope_passes (statement_under here i s x) s begun inside refl c.in_ok-enter.ensures.state u c.from_residual-in_err-done.result f c.from_residual-in_err-done.ensures.1 c.in_err-done.ensures.found;
      grows = err_on _ c.from_residual-in_err-done.result _ _ c.from_residual-in_err-done.ensures.1;
    }

pub statement_under-leave-requires : goal.statement_under-leave-requires
statement_under-leave-requires g t c = scope_inside c.enter.new.state c.statement_made.new.state c.in_ok-enter.ensures.inside c.in_ok-done.ensures.grows

pub choice_made-returns-in_ok-otherwise-in-None : goal.choice_made-returns-in_ok-otherwise-in-None
choice_made-returns-in_ok-otherwise-in-None g t c =
    let here = here_at c.args.scene.now.facts.now (g.S.Surroundings.told c.args.scene.now.around.now) in
    let s = seen_state c.args.state.now in
    let i = c.args.inside in
    let x = c.args.statement.now in
    let line = (out-Statement x).span.line in
    let begun = seen_state c.enter.new.state in
    let e = c.in-If.condition in
    let one = c.get-one.result.now in
    let o = c.in-If.otherwise in
    let is : kind_of x ≡ kind.If e one o = cc in
    let inside = choice_inside here i line e one o in
    let whole = of_kind here i s x _ is ∙ choice_is here i s (out-Statement x).span e one o in
    let first = test_of here begun e in
    let second = λ (s : State). statement_under here i s one in
    let go = λ (s : State) (test : Tree) (u : State) (one : Stmt). choice_rest here i line test one o u in
    let t1 = seen_state c.test_tree.new.state in
    let t2 = seen_state c.statement_under.new.state in
    let v = seen_state c.leave.new.state in
    let none : o ≡ None = cc in
    let nothing = c.in_ok-otherwise-in-None.ensures ∙ c.nothing_done-nothing.ensures in
    record {
      found = in_scope_ends (one_statement here i s x) s begun inside whole c.in_ok-enter.ensures.state t2 v _ (two_go first second go t1 t2 c.in_ok-test.test c.in_ok-then.then _ c.in_ok-test.ensures.found c.in_ok-then.ensures.found (ap (λ (n : Stmt). Fine t2 (stmt.If line c.in_ok-test.test c.in_ok-then.then n)) nothing ∙ sym (ap (λ (o : Option Statement). choice_rest here i line c.in_ok-test.test c.in_ok-then.then o t2) none))) c.leave.ensures.state;
      grows = scope_grows c.args.state.now c.enter.new.state c.statement_under.new.state c.leave.new.state c.in_ok-enter.ensures.lists c.in_ok-enter.ensures.depth (grows_on _ _ _ c.in_ok-test.ensures.grows c.in_ok-then.ensures.grows) c.leave.ensures.lists c.leave.ensures.depth;
    }

pub choice_made-returns-in_ok-otherwise-in-Some : goal.choice_made-returns-in_ok-otherwise-in-Some
choice_made-returns-in_ok-otherwise-in-Some g t c =
    let here = here_at c.args.scene.now.facts.now (g.S.Surroundings.told c.args.scene.now.around.now) in
    let s = seen_state c.args.state.now in
    let i = c.args.inside in
    let x = c.args.statement.now in
    let line = (out-Statement x).span.line in
    let begun = seen_state c.enter.new.state in
    let e = c.in-If.condition in
    let one = c.get-one.result.now in
    let o = c.in-If.otherwise in
    let is : kind_of x ≡ kind.If e one o = cc in
    let inside = choice_inside here i line e one o in
    let whole = of_kind here i s x _ is ∙ choice_is here i s (out-Statement x).span e one o in
    let first = test_of here begun e in
    let second = λ (s : State). statement_under here i s one in
    let go = λ (s : State) (test : Tree) (u : State) (one : Stmt). choice_rest here i line test one o u in
    let t1 = seen_state c.test_tree.new.state in
    let t2 = seen_state c.statement_under.new.state in
    let other = c.get-other.result.now in
    let some : o ≡ Some other = cc in
    let t3 = seen_state c.statement_under-in-Some.new.state in
    let v = seen_state c.leave-in-Some.new.state in
    record {
      found = in_scope_ends (one_statement here i s x) s begun inside whole c.in_ok-enter.ensures.state t3 v _ (two_go first second go t1 t2 c.in_ok-test.test c.in_ok-then.then _ c.in_ok-test.ensures.found c.in_ok-then.ensures.found (sym (ap (λ (o : Option Statement). choice_rest here i line c.in_ok-test.test c.in_ok-then.then o t2) some ∙ next_goes (statement_under here i t2 other) (λ (s : State) (y : Stmt). Fine s (stmt.If line c.in_ok-test.test c.in_ok-then.then y)) t3 c.in_ok-otherwise-in-Some.otherwise c.in_ok-otherwise-in-Some.ensures.found))) c.leave-in-Some.ensures.state;
      grows = scope_grows c.args.state.now c.enter.new.state c.statement_under-in-Some.new.state c.leave-in-Some.new.state c.in_ok-enter.ensures.lists c.in_ok-enter.ensures.depth (grows_on _ _ _ c.in_ok-test.ensures.grows (grows_on _ _ _ c.in_ok-then.ensures.grows c.in_ok-otherwise-in-Some.ensures.grows)) c.leave-in-Some.ensures.lists c.leave-in-Some.ensures.depth;
    }

pub choice_made-returns-in_err-test : goal.choice_made-returns-in_err-test
choice_made-returns-in_err-test g t c =
    let here = here_at c.args.scene.now.facts.now (g.S.Surroundings.told c.args.scene.now.around.now) in
    let s = seen_state c.args.state.now in
    let i = c.args.inside in
    let x = c.args.statement.now in
    let line = (out-Statement x).span.line in
    let begun = seen_state c.enter.new.state in
    let e = c.in-If.condition in
    let one = c.get-one.result.now in
    let o = c.in-If.otherwise in
    let is : kind_of x ≡ kind.If e one o = cc in
    let inside = choice_inside here i line e one o in
    let whole = of_kind here i s x _ is ∙ choice_is here i s (out-Statement x).span e one o in
    let first = test_of here begun e in
    let second = λ (s : State). statement_under here i s one in
    let go = λ (s : State) (test : Tree) (u : State) (one : Stmt). choice_rest here i line test one o u in
    let f = c.in_err-test.field-0.0 in
    record {
      found = in_scope_fails (one_statement here i s x) s begun inside whole c.in_ok-enter.ensures.state (seen_state c.test_tree.new.state) c.from_residual-in_err-test.result f c.from_residual-in_err-test.ensures.1 (behind_passed (seen_state c.test_tree.new.state) f first (λ (s : State) (test : Tree). next (second s) (λ (u : State) (one : Stmt). go s test u one)) c.in_err-test.ensures.found);
      grows = err_on _ c.from_residual-in_err-test.result _ _ c.from_residual-in_err-test.ensures.1;
    }

pub choice_made-returns-in_err-then : goal.choice_made-returns-in_err-then
choice_made-returns-in_err-then g t c =
    let here = here_at c.args.scene.now.facts.now (g.S.Surroundings.told c.args.scene.now.around.now) in
    let s = seen_state c.args.state.now in
    let i = c.args.inside in
    let x = c.args.statement.now in
    let line = (out-Statement x).span.line in
    let begun = seen_state c.enter.new.state in
    let e = c.in-If.condition in
    let one = c.get-one.result.now in
    let o = c.in-If.otherwise in
    let is : kind_of x ≡ kind.If e one o = cc in
    let inside = choice_inside here i line e one o in
    let whole = of_kind here i s x _ is ∙ choice_is here i s (out-Statement x).span e one o in
    let first = test_of here begun e in
    let second = λ (s : State). statement_under here i s one in
    let go = λ (s : State) (test : Tree) (u : State) (one : Stmt). choice_rest here i line test one o u in
    let t1 = seen_state c.test_tree.new.state in
    let t2 = seen_state c.statement_under.new.state in
    let f = c.in_err-then.field-0.0 in
    record {
      found = in_scope_fails (one_statement here i s x) s begun inside whole c.in_ok-enter.ensures.state (seen_state c.statement_under.new.state) c.from_residual-in_err-then.result f c.from_residual-in_err-then.ensures.1 (second_fails first second go t1 t2 c.in_ok-test.test f c.in_ok-test.ensures.found c.in_err-then.ensures.found);
      grows = err_on _ c.from_residual-in_err-then.result _ _ c.from_residual-in_err-then.ensures.1;
    }

pub choice_made-returns-in_err-otherwise-in-Some : goal.choice_made-returns-in_err-otherwise-in-Some
choice_made-returns-in_err-otherwise-in-Some g t c =
    let here = here_at c.args.scene.now.facts.now (g.S.Surroundings.told c.args.scene.now.around.now) in
    let s = seen_state c.args.state.now in
    let i = c.args.inside in
    let x = c.args.statement.now in
    let line = (out-Statement x).span.line in
    let begun = seen_state c.enter.new.state in
    let e = c.in-If.condition in
    let one = c.get-one.result.now in
    let o = c.in-If.otherwise in
    let is : kind_of x ≡ kind.If e one o = cc in
    let inside = choice_inside here i line e one o in
    let whole = of_kind here i s x _ is ∙ choice_is here i s (out-Statement x).span e one o in
    let first = test_of here begun e in
    let second = λ (s : State). statement_under here i s one in
    let go = λ (s : State) (test : Tree) (u : State) (one : Stmt). choice_rest here i line test one o u in
    let t1 = seen_state c.test_tree.new.state in
    let t2 = seen_state c.statement_under.new.state in
    let other = c.get-other.result.now in
    let some : o ≡ Some other = cc in
    let t3 = seen_state c.statement_under-in-Some.new.state in
    let f = c.in_err-otherwise-in-Some.field-0.0 in
    record {
      found = in_scope_fails (one_statement here i s x) s begun inside whole c.in_ok-enter.ensures.state (seen_state c.statement_under-in-Some.new.state) c.from_residual-in_err-otherwise-in-Some.result f c.from_residual-in_err-otherwise-in-Some.ensures.1 (goes_fails f first (λ (s : State) (test : Tree). next (second s) (λ (u : State) (one : Stmt). go s test u one)) t1 c.in_ok-test.test c.in_ok-test.ensures.found (goes_fails f (second t1) (λ (u : State) (one : Stmt). go t1 c.in_ok-test.test u one) t2 c.in_ok-then.then c.in_ok-then.ensures.found (fails_at f _ (choice_rest here i line c.in_ok-test.test c.in_ok-then.then (Some other) t2) (ap (λ (o : Option Statement). choice_rest here i line c.in_ok-test.test c.in_ok-then.then o t2) some) (behind_passed t3 f (statement_under here i t2 other) (λ (s : State) (y : Stmt). Fine s (stmt.If line c.in_ok-test.test c.in_ok-then.then y)) c.in_err-otherwise-in-Some.ensures.found))));
      grows = err_on _ c.from_residual-in_err-otherwise-in-Some.result _ _ c.from_residual-in_err-otherwise-in-Some.ensures.1;
    }

pub choice_made-leave-requires : goal.choice_made-leave-requires
choice_made-leave-requires g t c = scope_inside c.enter.new.state c.statement_under.new.state c.in_ok-enter.ensures.inside (grows_on _ _ _ c.in_ok-test.ensures.grows c.in_ok-then.ensures.grows)

pub choice_made-leave-requires-in-Some : goal.choice_made-leave-requires-in-Some
choice_made-leave-requires-in-Some g t c = scope_inside c.enter.new.state c.statement_under-in-Some.new.state c.in_ok-enter.ensures.inside (grows_on _ _ _ c.in_ok-test.ensures.grows (grows_on _ _ _ c.in_ok-then.ensures.grows c.in_ok-otherwise-in-Some.ensures.grows))

pub while_made-returns : goal.while_made-returns
while_made-returns g t c =
    let here = here_at c.args.scene.now.facts.now (g.S.Surroundings.told c.args.scene.now.around.now) in
    let s = seen_state c.args.state.now in
    let i = c.args.inside in
    let x = c.args.statement.now in
    let line = (out-Statement x).span.line in
    let begun = seen_state c.enter.new.state in
    let e = c.in-While.condition in
    let under = c.get-under.result.now in
    let w = c.in_loop-within.result in
    let is : kind_of x ≡ kind.While e under = cc in
    let inside = while_inside here w line e under in
    let whole = of_kind here i s x _ is ∙ while_is here i w s (out-Statement x).span e under c.in_loop-within.ensures in
    let first = tested here begun e in
    let second = λ (s : State). statement_under here w s under in
    let go = λ (s : State) (turn : List Stmt) (u : State) (body : Stmt). Fine u (statement_loop line turn body []) in
    let t1 = seen_state c.tested.new.state in
    let t2 = seen_state c.statement_under.new.state in
    let v = seen_state c.leave.new.state in
    let made = c.in_ok-made.ensures ∙ ap (λ (n : List Stmt). statement_loop line c.in_ok-turn.turn c.in_ok-done.done n) c.new-nothing.ensures in
    record {
      found = in_scope_ends (one_statement here i s x) s begun inside whole c.in_ok-enter.ensures.state t2 v _ (two_go first second go t1 t2 c.in_ok-turn.turn c.in_ok-done.done _ c.in_ok-turn.ensures.found c.in_ok-done.ensures.found (ap (λ (n : Stmt). Fine t2 n) made)) c.leave.ensures.state;
      grows = scope_grows c.args.state.now c.enter.new.state c.statement_under.new.state c.leave.new.state c.in_ok-enter.ensures.lists c.in_ok-enter.ensures.depth (grows_on _ _ _ c.in_ok-turn.ensures.grows c.in_ok-done.ensures.grows) c.leave.ensures.lists c.leave.ensures.depth;
    }

pub while_made-returns-in_err-turn : goal.while_made-returns-in_err-turn
while_made-returns-in_err-turn g t c =
    let here = here_at c.args.scene.now.facts.now (g.S.Surroundings.told c.args.scene.now.around.now) in
    let s = seen_state c.args.state.now in
    let i = c.args.inside in
    let x = c.args.statement.now in
    let line = (out-Statement x).span.line in
    let begun = seen_state c.enter.new.state in
    let e = c.in-While.condition in
    let under = c.get-under.result.now in
    let w = c.in_loop-within.result in
    let is : kind_of x ≡ kind.While e under = cc in
    let inside = while_inside here w line e under in
    let whole = of_kind here i s x _ is ∙ while_is here i w s (out-Statement x).span e under c.in_loop-within.ensures in
    let first = tested here begun e in
    let second = λ (s : State). statement_under here w s under in
    let go = λ (s : State) (turn : List Stmt) (u : State) (body : Stmt). Fine u (statement_loop line turn body []) in
    let f = c.in_err-turn.field-0.0 in
    record {
      found = in_scope_fails (one_statement here i s x) s begun inside whole c.in_ok-enter.ensures.state (seen_state c.tested.new.state) c.from_residual-in_err-turn.result f c.from_residual-in_err-turn.ensures.1 (behind_passed (seen_state c.tested.new.state) f first (λ (s : State) (turn : List Stmt). next (second s) (λ (u : State) (body : Stmt). go s turn u body)) c.in_err-turn.ensures.found);
      grows = err_on _ c.from_residual-in_err-turn.result _ _ c.from_residual-in_err-turn.ensures.1;
    }

pub while_made-returns-in_err-done : goal.while_made-returns-in_err-done
while_made-returns-in_err-done g t c =
    let here = here_at c.args.scene.now.facts.now (g.S.Surroundings.told c.args.scene.now.around.now) in
    let s = seen_state c.args.state.now in
    let i = c.args.inside in
    let x = c.args.statement.now in
    let line = (out-Statement x).span.line in
    let begun = seen_state c.enter.new.state in
    let e = c.in-While.condition in
    let under = c.get-under.result.now in
    let w = c.in_loop-within.result in
    let is : kind_of x ≡ kind.While e under = cc in
    let inside = while_inside here w line e under in
    let whole = of_kind here i s x _ is ∙ while_is here i w s (out-Statement x).span e under c.in_loop-within.ensures in
    let first = tested here begun e in
    let second = λ (s : State). statement_under here w s under in
    let go = λ (s : State) (turn : List Stmt) (u : State) (body : Stmt). Fine u (statement_loop line turn body []) in
    let t1 = seen_state c.tested.new.state in
    let t2 = seen_state c.statement_under.new.state in
    let f = c.in_err-done.field-0.0 in
    record {
      found = in_scope_fails (one_statement here i s x) s begun inside whole c.in_ok-enter.ensures.state (seen_state c.statement_under.new.state) c.from_residual-in_err-done.result f c.from_residual-in_err-done.ensures.1 (second_fails first second go t1 t2 c.in_ok-turn.turn f c.in_ok-turn.ensures.found c.in_err-done.ensures.found);
      grows = err_on _ c.from_residual-in_err-done.result _ _ c.from_residual-in_err-done.ensures.1;
    }

pub while_made-leave-requires : goal.while_made-leave-requires
while_made-leave-requires g t c = scope_inside c.enter.new.state c.statement_under.new.state c.in_ok-enter.ensures.inside (grows_on _ _ _ c.in_ok-turn.ensures.grows c.in_ok-done.ensures.grows)

pub do_made-returns : goal.do_made-returns
do_made-returns g t c =
    let here = here_at c.args.scene.now.facts.now (g.S.Surroundings.told c.args.scene.now.around.now) in
    let s = seen_state c.args.state.now in
    let i = c.args.inside in
    let x = c.args.statement.now in
    let line = (out-Statement x).span.line in
    let begun = seen_state c.enter.new.state in
    let e = c.in-Do.condition in
    let under = c.get-under.result.now in
    let w = c.in_loop-within.result in
    let is : kind_of x ≡ kind.Do under e = cc in
    let inside = do_inside here w line under e in
    let whole = of_kind here i s x _ is ∙ do_is here i w s (out-Statement x).span under e c.in_loop-within.ensures in
    let first = statement_under here w begun under in
    let second = λ (s : State). unless_of here s e in
    let go = λ (s : State) (body : Stmt) (u : State) (test : Stmt). Fine u (stmt.Loop line body test) in
    let t1 = seen_state c.statement_under.new.state in
    let t2 = seen_state c.break_unless.new.state in
    let v = seen_state c.leave.new.state in
    let made = c.in_ok-next.ensures in
    record {
      found = in_scope_ends (one_statement here i s x) s begun inside whole c.in_ok-enter.ensures.state t2 v _ (two_go first second go t1 t2 c.in_ok-body.body c.in_ok-test.test _ c.in_ok-body.ensures.found c.in_ok-test.ensures.found (ap (λ (n : Stmt). Fine t2 (stmt.Loop line c.in_ok-body.body n)) made)) c.leave.ensures.state;
      grows = scope_grows c.args.state.now c.enter.new.state c.break_unless.new.state c.leave.new.state c.in_ok-enter.ensures.lists c.in_ok-enter.ensures.depth (grows_on _ _ _ c.in_ok-body.ensures.grows c.in_ok-test.ensures.grows) c.leave.ensures.lists c.leave.ensures.depth;
    }

pub do_made-returns-in_err-body : goal.do_made-returns-in_err-body
do_made-returns-in_err-body g t c =
    let here = here_at c.args.scene.now.facts.now (g.S.Surroundings.told c.args.scene.now.around.now) in
    let s = seen_state c.args.state.now in
    let i = c.args.inside in
    let x = c.args.statement.now in
    let line = (out-Statement x).span.line in
    let begun = seen_state c.enter.new.state in
    let e = c.in-Do.condition in
    let under = c.get-under.result.now in
    let w = c.in_loop-within.result in
    let is : kind_of x ≡ kind.Do under e = cc in
    let inside = do_inside here w line under e in
    let whole = of_kind here i s x _ is ∙ do_is here i w s (out-Statement x).span under e c.in_loop-within.ensures in
    let first = statement_under here w begun under in
    let second = λ (s : State). unless_of here s e in
    let go = λ (s : State) (body : Stmt) (u : State) (test : Stmt). Fine u (stmt.Loop line body test) in
    let f = c.in_err-body.field-0.0 in
    record {
      found = in_scope_fails (one_statement here i s x) s begun inside whole c.in_ok-enter.ensures.state (seen_state c.statement_under.new.state) c.from_residual-in_err-body.result f c.from_residual-in_err-body.ensures.1 (behind_passed (seen_state c.statement_under.new.state) f first (λ (s : State) (body : Stmt). next (second s) (λ (u : State) (test : Stmt). go s body u test)) c.in_err-body.ensures.found);
      grows = err_on _ c.from_residual-in_err-body.result _ _ c.from_residual-in_err-body.ensures.1;
    }

pub do_made-returns-in_err-test : goal.do_made-returns-in_err-test
do_made-returns-in_err-test g t c =
    let here = here_at c.args.scene.now.facts.now (g.S.Surroundings.told c.args.scene.now.around.now) in
    let s = seen_state c.args.state.now in
    let i = c.args.inside in
    let x = c.args.statement.now in
    let line = (out-Statement x).span.line in
    let begun = seen_state c.enter.new.state in
    let e = c.in-Do.condition in
    let under = c.get-under.result.now in
    let w = c.in_loop-within.result in
    let is : kind_of x ≡ kind.Do under e = cc in
    let inside = do_inside here w line under e in
    let whole = of_kind here i s x _ is ∙ do_is here i w s (out-Statement x).span under e c.in_loop-within.ensures in
    let first = statement_under here w begun under in
    let second = λ (s : State). unless_of here s e in
    let go = λ (s : State) (body : Stmt) (u : State) (test : Stmt). Fine u (stmt.Loop line body test) in
    let t1 = seen_state c.statement_under.new.state in
    let t2 = seen_state c.break_unless.new.state in
    let f = c.in_err-test.field-0.0 in
    record {
      found = in_scope_fails (one_statement here i s x) s begun inside whole c.in_ok-enter.ensures.state (seen_state c.break_unless.new.state) c.from_residual-in_err-test.result f c.from_residual-in_err-test.ensures.1 (second_fails first second go t1 t2 c.in_ok-body.body f c.in_ok-body.ensures.found c.in_err-test.ensures.found);
      grows = err_on _ c.from_residual-in_err-test.result _ _ c.from_residual-in_err-test.ensures.1;
    }

pub do_made-leave-requires : goal.do_made-leave-requires
do_made-leave-requires g t c = scope_inside c.enter.new.state c.break_unless.new.state c.in_ok-enter.ensures.inside (grows_on _ _ _ c.in_ok-body.ensures.grows c.in_ok-test.ensures.grows)

pub for_made-returns : goal.for_made-returns
for_made-returns g t c =
    let here = here_at c.args.scene.now.facts.now (g.S.Surroundings.told c.args.scene.now.around.now) in
    let s = seen_state c.args.state.now in
    let i = c.args.inside in
    let x = c.args.statement.now in
    let line = (out-Statement x).span.line in
    let begun = seen_state c.enter_block.new.state in
    let start = c.in-For.start in
    let e = option_copied c.as_ref-condition.result in
    let p = option_copied c.as_ref-step.result in
    let under = c.get-under.result.now in
    let w = c.in_loop-within.result in
    let is : kind_of x ≡ kind.For start e p under = cc in
    let inside = for_inside here w line start e p under in
    let whole = of_kind here i s x _ is ∙ for_is here i w s (out-Statement x).span start e p under c.in_loop-within.ensures in
    let last = λ (first turn step : List Stmt) (u : State) (body : Stmt). Fine u (first ++ statement_loop line turn body step ∷ []) in
    let fourth = λ (first turn step : List Stmt) (u : State). next (statement_under here w u under) (last first turn step) in
    let third = λ (first turn : List Stmt) (u : State). next (optional_run here u p) (λ (u : State) (step : List Stmt). fourth first turn step u) in
    let second = λ (first : List Stmt) (u : State). next (optionally_tested here u e) (λ (u : State) (turn : List Stmt). third first turn u) in
    let first = start_done here begun start in
    let t1 = seen_state c.start_done.new.state in
    let t2 = seen_state c.optionally_tested.new.state in
    let t3 = seen_state c.optional_run.new.state in
    let t4 = seen_state c.statement_under.new.state in
    let go1 = λ (u : State) (first : List Stmt). second first u in
    let go2 = λ (first : List Stmt) (u : State) (turn : List Stmt). third first turn u in
    let go3 = λ (first turn : List Stmt) (u : State) (step : List Stmt). fourth first turn step u in
    let all = c.in_ok-body.ensures ∙ ap (λ (m : Stmt). c.in_ok-first.first ++ m ∷ []) c.in_ok-made.ensures in
    let same = ap (λ (v : Vec LocalDef Global). reverse v.items) c.in_ok-outer.ensures.outer in
    record {
      found = in_block_ends here (one_statement here i s x) s begun inside whole c.in_ok-outer.ensures.state t4 (seen_state c.leave_block.new.state) c.in_ok-body.body c.leave_block.result (reverse c.in_ok-outer.outer.items) (next_goes first go1 t1 c.in_ok-first.first c.in_ok-first.ensures.found ∙ next_goes (optionally_tested here t1 e) (go2 c.in_ok-first.first) t2 c.in_ok-turn.turn c.in_ok-turn.ensures.found ∙ next_goes (optional_run here t2 p) (go3 c.in_ok-first.first c.in_ok-turn.turn) t3 c.in_ok-next.next c.in_ok-next.ensures.found ∙ next_goes (statement_under here w t3 under) (last c.in_ok-first.first c.in_ok-turn.turn c.in_ok-next.next) t4 c.in_ok-done.done c.in_ok-done.ensures.found ∙ ap (λ (l : List Stmt). Fine t4 l) (sym all)) c.leave_block.ensures.state same c.leave_block.ensures.made;
      grows = scope_grows c.args.state.now c.enter_block.new.state c.statement_under.new.state c.leave_block.new.state c.in_ok-outer.ensures.lists c.in_ok-outer.ensures.depth (grows_on _ _ _ c.in_ok-first.ensures.grows (grows_on _ _ _ c.in_ok-turn.ensures.grows (grows_on _ _ _ c.in_ok-next.ensures.grows c.in_ok-done.ensures.grows))) c.leave_block.ensures.lists c.leave_block.ensures.depth;
    }

pub for_made-returns-in_err-first : goal.for_made-returns-in_err-first
for_made-returns-in_err-first g t c =
    let here = here_at c.args.scene.now.facts.now (g.S.Surroundings.told c.args.scene.now.around.now) in
    let s = seen_state c.args.state.now in
    let i = c.args.inside in
    let x = c.args.statement.now in
    let line = (out-Statement x).span.line in
    let begun = seen_state c.enter_block.new.state in
    let start = c.in-For.start in
    let e = option_copied c.as_ref-condition.result in
    let p = option_copied c.as_ref-step.result in
    let under = c.get-under.result.now in
    let w = c.in_loop-within.result in
    let is : kind_of x ≡ kind.For start e p under = cc in
    let inside = for_inside here w line start e p under in
    let whole = of_kind here i s x _ is ∙ for_is here i w s (out-Statement x).span start e p under c.in_loop-within.ensures in
    let last = λ (first turn step : List Stmt) (u : State) (body : Stmt). Fine u (first ++ statement_loop line turn body step ∷ []) in
    let fourth = λ (first turn step : List Stmt) (u : State). next (statement_under here w u under) (last first turn step) in
    let third = λ (first turn : List Stmt) (u : State). next (optional_run here u p) (λ (u : State) (step : List Stmt). fourth first turn step u) in
    let second = λ (first : List Stmt) (u : State). next (optionally_tested here u e) (λ (u : State) (turn : List Stmt). third first turn u) in
    let first = start_done here begun start in
    let t1 = seen_state c.start_done.new.state in
    let go1 = λ (u : State) (first : List Stmt). second first u in
    let go2 = λ (first : List Stmt) (u : State) (turn : List Stmt). third first turn u in
    let go3 = λ (first turn : List Stmt) (u : State) (step : List Stmt). fourth first turn step u in
    let f = c.in_err-first.field-0.0 in
    record {
      found = in_block_fails here (one_statement here i s x) s begun inside whole c.in_ok-outer.ensures.state (seen_state c.start_done.new.state) c.from_residual-in_err-first.result f c.from_residual-in_err-first.ensures.1 (behind_passed t1 f first go1 c.in_err-first.ensures.found);
      grows = err_on _ c.from_residual-in_err-first.result _ _ c.from_residual-in_err-first.ensures.1;
    }

pub for_made-returns-in_err-turn : goal.for_made-returns-in_err-turn
for_made-returns-in_err-turn g t c =
    let here = here_at c.args.scene.now.facts.now (g.S.Surroundings.told c.args.scene.now.around.now) in
    let s = seen_state c.args.state.now in
    let i = c.args.inside in
    let x = c.args.statement.now in
    let line = (out-Statement x).span.line in
    let begun = seen_state c.enter_block.new.state in
    let start = c.in-For.start in
    let e = option_copied c.as_ref-condition.result in
    let p = option_copied c.as_ref-step.result in
    let under = c.get-under.result.now in
    let w = c.in_loop-within.result in
    let is : kind_of x ≡ kind.For start e p under = cc in
    let inside = for_inside here w line start e p under in
    let whole = of_kind here i s x _ is ∙ for_is here i w s (out-Statement x).span start e p under c.in_loop-within.ensures in
    let last = λ (first turn step : List Stmt) (u : State) (body : Stmt). Fine u (first ++ statement_loop line turn body step ∷ []) in
    let fourth = λ (first turn step : List Stmt) (u : State). next (statement_under here w u under) (last first turn step) in
    let third = λ (first turn : List Stmt) (u : State). next (optional_run here u p) (λ (u : State) (step : List Stmt). fourth first turn step u) in
    let second = λ (first : List Stmt) (u : State). next (optionally_tested here u e) (λ (u : State) (turn : List Stmt). third first turn u) in
    let first = start_done here begun start in
    let t1 = seen_state c.start_done.new.state in
    let t2 = seen_state c.optionally_tested.new.state in
    let go1 = λ (u : State) (first : List Stmt). second first u in
    let go2 = λ (first : List Stmt) (u : State) (turn : List Stmt). third first turn u in
    let go3 = λ (first turn : List Stmt) (u : State) (step : List Stmt). fourth first turn step u in
    let f = c.in_err-turn.field-0.0 in
    record {
      found = in_block_fails here (one_statement here i s x) s begun inside whole c.in_ok-outer.ensures.state (seen_state c.optionally_tested.new.state) c.from_residual-in_err-turn.result f c.from_residual-in_err-turn.ensures.1 (fails_at f (next first go1) (next (optionally_tested here t1 e) (go2 c.in_ok-first.first)) (next_goes first go1 t1 c.in_ok-first.first c.in_ok-first.ensures.found) (behind_passed t2 f (optionally_tested here t1 e) (go2 c.in_ok-first.first) c.in_err-turn.ensures.found));
      grows = err_on _ c.from_residual-in_err-turn.result _ _ c.from_residual-in_err-turn.ensures.1;
    }

pub for_made-returns-in_err-next : goal.for_made-returns-in_err-next
for_made-returns-in_err-next g t c =
    let here = here_at c.args.scene.now.facts.now (g.S.Surroundings.told c.args.scene.now.around.now) in
    let s = seen_state c.args.state.now in
    let i = c.args.inside in
    let x = c.args.statement.now in
    let line = (out-Statement x).span.line in
    let begun = seen_state c.enter_block.new.state in
    let start = c.in-For.start in
    let e = option_copied c.as_ref-condition.result in
    let p = option_copied c.as_ref-step.result in
    let under = c.get-under.result.now in
    let w = c.in_loop-within.result in
    let is : kind_of x ≡ kind.For start e p under = cc in
    let inside = for_inside here w line start e p under in
    let whole = of_kind here i s x _ is ∙ for_is here i w s (out-Statement x).span start e p under c.in_loop-within.ensures in
    let last = λ (first turn step : List Stmt) (u : State) (body : Stmt). Fine u (first ++ statement_loop line turn body step ∷ []) in
    let fourth = λ (first turn step : List Stmt) (u : State). next (statement_under here w u under) (last first turn step) in
    let third = λ (first turn : List Stmt) (u : State). next (optional_run here u p) (λ (u : State) (step : List Stmt). fourth first turn step u) in
    let second = λ (first : List Stmt) (u : State). next (optionally_tested here u e) (λ (u : State) (turn : List Stmt). third first turn u) in
    let first = start_done here begun start in
    let t1 = seen_state c.start_done.new.state in
    let t2 = seen_state c.optionally_tested.new.state in
    let t3 = seen_state c.optional_run.new.state in
    let go1 = λ (u : State) (first : List Stmt). second first u in
    let go2 = λ (first : List Stmt) (u : State) (turn : List Stmt). third first turn u in
    let go3 = λ (first turn : List Stmt) (u : State) (step : List Stmt). fourth first turn step u in
    let f = c.in_err-next.field-0.0 in
    record {
      found = in_block_fails here (one_statement here i s x) s begun inside whole c.in_ok-outer.ensures.state (seen_state c.optional_run.new.state) c.from_residual-in_err-next.result f c.from_residual-in_err-next.ensures.1 (fails_at f (next first go1) (next (optional_run here t2 p) (go3 c.in_ok-first.first c.in_ok-turn.turn)) (next_goes first go1 t1 c.in_ok-first.first c.in_ok-first.ensures.found ∙ next_goes (optionally_tested here t1 e) (go2 c.in_ok-first.first) t2 c.in_ok-turn.turn c.in_ok-turn.ensures.found) (behind_passed t3 f (optional_run here t2 p) (go3 c.in_ok-first.first c.in_ok-turn.turn) c.in_err-next.ensures.found));
      grows = err_on _ c.from_residual-in_err-next.result _ _ c.from_residual-in_err-next.ensures.1;
    }

pub for_made-returns-in_err-done : goal.for_made-returns-in_err-done
for_made-returns-in_err-done g t c =
    let here = here_at c.args.scene.now.facts.now (g.S.Surroundings.told c.args.scene.now.around.now) in
    let s = seen_state c.args.state.now in
    let i = c.args.inside in
    let x = c.args.statement.now in
    let line = (out-Statement x).span.line in
    let begun = seen_state c.enter_block.new.state in
    let start = c.in-For.start in
    let e = option_copied c.as_ref-condition.result in
    let p = option_copied c.as_ref-step.result in
    let under = c.get-under.result.now in
    let w = c.in_loop-within.result in
    let is : kind_of x ≡ kind.For start e p under = cc in
    let inside = for_inside here w line start e p under in
    let whole = of_kind here i s x _ is ∙ for_is here i w s (out-Statement x).span start e p under c.in_loop-within.ensures in
    let last = λ (first turn step : List Stmt) (u : State) (body : Stmt). Fine u (first ++ statement_loop line turn body step ∷ []) in
    let fourth = λ (first turn step : List Stmt) (u : State). next (statement_under here w u under) (last first turn step) in
    let third = λ (first turn : List Stmt) (u : State). next (optional_run here u p) (λ (u : State) (step : List Stmt). fourth first turn step u) in
    let second = λ (first : List Stmt) (u : State). next (optionally_tested here u e) (λ (u : State) (turn : List Stmt). third first turn u) in
    let first = start_done here begun start in
    let t1 = seen_state c.start_done.new.state in
    let t2 = seen_state c.optionally_tested.new.state in
    let t3 = seen_state c.optional_run.new.state in
    let t4 = seen_state c.statement_under.new.state in
    let go1 = λ (u : State) (first : List Stmt). second first u in
    let go2 = λ (first : List Stmt) (u : State) (turn : List Stmt). third first turn u in
    let go3 = λ (first turn : List Stmt) (u : State) (step : List Stmt). fourth first turn step u in
    let f = c.in_err-done.field-0.0 in
    record {
      found = in_block_fails here (one_statement here i s x) s begun inside whole c.in_ok-outer.ensures.state (seen_state c.statement_under.new.state) c.from_residual-in_err-done.result f c.from_residual-in_err-done.ensures.1 (fails_at f (next first go1) (next (statement_under here w t3 under) (last c.in_ok-first.first c.in_ok-turn.turn c.in_ok-next.next)) (next_goes first go1 t1 c.in_ok-first.first c.in_ok-first.ensures.found ∙ next_goes (optionally_tested here t1 e) (go2 c.in_ok-first.first) t2 c.in_ok-turn.turn c.in_ok-turn.ensures.found ∙ next_goes (optional_run here t2 p) (go3 c.in_ok-first.first c.in_ok-turn.turn) t3 c.in_ok-next.next c.in_ok-next.ensures.found) (behind_passed t4 f (statement_under here w t3 under) (last c.in_ok-first.first c.in_ok-turn.turn c.in_ok-next.next) c.in_err-done.ensures.found));
      grows = err_on _ c.from_residual-in_err-done.result _ _ c.from_residual-in_err-done.ensures.1;
    }

pub for_made-leave_block-requires : goal.for_made-leave_block-requires
for_made-leave_block-requires g t c = scope_inside c.enter_block.new.state c.statement_under.new.state c.in_ok-outer.ensures.inside (grows_on _ _ _ c.in_ok-first.ensures.grows (grows_on _ _ _ c.in_ok-turn.ensures.grows (grows_on _ _ _ c.in_ok-next.ensures.grows c.in_ok-done.ensures.grows)))

pub switch_made-returns : goal.switch_made-returns
switch_made-returns g t c =
    let here = here_at c.args.scene.now.facts.now (g.S.Surroundings.told c.args.scene.now.around.now) in
    let s = seen_state c.args.state.now in
    let i = c.args.inside in
    let x = c.args.statement.now in
    let line = (out-Statement x).span.line in
    let begun = seen_state c.enter.new.state in
    let e = c.in-Switch.value in
    let items = c.in-Switch.items in
    let list = items_in (kind_of x) in
    let w = c.in_switch-within.result in
    let is : kind_of x ≡ kind.Switch e items = cc in
    let inside = switch_inside here w line e list in
    let whole = of_kind here i s x _ is ∙ switch_is here i w s (out-Statement x).span e items c.in_switch-within.ensures ∙ ap (λ (l : List SwitchItem). scoped s (switch_inside here w line e l)) (items_are x e items is) in
    let t = seen_state c.switch_typed.new.state in
    let two = seen_state c.take_switch_local.new.state in
    let third = seen_state c.enter_block.new.state in
    let u = seen_state c.switch_body.new.state in
    let same = ap (λ (v : Vec LocalDef Global). reverse v.items) c.in_ok-outer.ensures.outer in
    let after = seen_state c.leave_block-block.new.state in
    record {
      found = in_scope_ends (one_statement here i s x) s begun inside whole c.in_ok-enter.ensures.state after (seen_state c.leave.new.state) c.in_ok-both.both (switch_goes here w line c.in_ok-local.local e list begun t two third u after c.in_ok-typed.typed c.kind_of_value-kind.result c.in_ok-body.body c.in_ok-done.done c.leave_block-block.result c.in_ok-both.both (reverse c.in_ok-outer.outer.items) c.in_ok-typed.ensures.found c.in_ok-local.ensures.local c.in_ok-local.ensures.state c.kind_of_value-kind.ensures c.in_ok-outer.ensures.state c.in_ok-body.ensures.found c.in_ok-done.ensures c.leave_block-block.ensures.state same c.leave_block-block.ensures.made c.in_ok-both.ensures) c.leave.ensures.state;
      grows = scope_grows c.args.state.now c.enter.new.state c.leave_block-block.new.state c.leave.new.state c.in_ok-enter.ensures.lists c.in_ok-enter.ensures.depth (grows_on _ _ _ c.in_ok-typed.ensures.grows (grows_on _ _ _ c.in_ok-local.ensures.grows (scope_grows c.take_switch_local.new.state c.enter_block.new.state c.switch_body.new.state c.leave_block-block.new.state c.in_ok-outer.ensures.lists c.in_ok-outer.ensures.depth c.in_ok-body.ensures.grows c.leave_block-block.ensures.lists c.leave_block-block.ensures.depth))) c.leave.ensures.lists c.leave.ensures.depth;
    }

pub switch_made-returns-in_err-typed : goal.switch_made-returns-in_err-typed
switch_made-returns-in_err-typed g t c =
    let here = here_at c.args.scene.now.facts.now (g.S.Surroundings.told c.args.scene.now.around.now) in
    let s = seen_state c.args.state.now in
    let i = c.args.inside in
    let x = c.args.statement.now in
    let line = (out-Statement x).span.line in
    let begun = seen_state c.enter.new.state in
    let e = c.in-Switch.value in
    let items = c.in-Switch.items in
    let list = items_in (kind_of x) in
    let w = c.in_switch-within.result in
    let is : kind_of x ≡ kind.Switch e items = cc in
    let inside = switch_inside here w line e list in
    let whole = of_kind here i s x _ is ∙ switch_is here i w s (out-Statement x).span e items c.in_switch-within.ensures ∙ ap (λ (l : List SwitchItem). scoped s (switch_inside here w line e l)) (items_are x e items is) in
    let f = c.in_err-typed.field-0.0 in
    record {
      found = in_scope_fails (one_statement here i s x) s begun inside whole c.in_ok-enter.ensures.state (seen_state c.switch_typed.new.state) c.from_residual-in_err-typed.result f c.from_residual-in_err-typed.ensures.1 (behind_passed (seen_state c.switch_typed.new.state) f (switch_value here.around begun e) _ c.in_err-typed.ensures.found);
      grows = err_on _ c.from_residual-in_err-typed.result _ _ c.from_residual-in_err-typed.ensures.1;
    }

pub switch_made-returns-in_err-body : goal.switch_made-returns-in_err-body
switch_made-returns-in_err-body g t c =
    let here = here_at c.args.scene.now.facts.now (g.S.Surroundings.told c.args.scene.now.around.now) in
    let s = seen_state c.args.state.now in
    let i = c.args.inside in
    let x = c.args.statement.now in
    let line = (out-Statement x).span.line in
    let begun = seen_state c.enter.new.state in
    let e = c.in-Switch.value in
    let items = c.in-Switch.items in
    let list = items_in (kind_of x) in
    let w = c.in_switch-within.result in
    let is : kind_of x ≡ kind.Switch e items = cc in
    let inside = switch_inside here w line e list in
    let whole = of_kind here i s x _ is ∙ switch_is here i w s (out-Statement x).span e items c.in_switch-within.ensures ∙ ap (λ (l : List SwitchItem). scoped s (switch_inside here w line e l)) (items_are x e items is) in
    let t = seen_state c.switch_typed.new.state in
    let two = seen_state c.take_switch_local.new.state in
    let third = seen_state c.enter_block.new.state in
    let u = seen_state c.switch_body.new.state in
    let f = c.in_err-body.field-0.0 in
    record {
      found = in_scope_fails (one_statement here i s x) s begun inside whole c.in_ok-enter.ensures.state (seen_state c.switch_body.new.state) c.from_residual-in_err-body.result f c.from_residual-in_err-body.ensures.1 (switch_stops here w line e list begun t two third u c.in_ok-typed.typed c.kind_of_value-kind.result f c.in_ok-typed.ensures.found c.in_ok-local.ensures.state c.kind_of_value-kind.ensures c.in_ok-outer.ensures.state c.in_err-body.ensures.found);
      grows = err_on _ c.from_residual-in_err-body.result _ _ c.from_residual-in_err-body.ensures.1;
    }

pub switch_made-leave_block-block-requires : goal.switch_made-leave_block-block-requires
switch_made-leave_block-block-requires g t c = scope_inside c.enter_block.new.state c.switch_body.new.state c.in_ok-outer.ensures.inside c.in_ok-body.ensures.grows

pub switch_made-leave-requires : goal.switch_made-leave-requires
switch_made-leave-requires g t c = scope_inside c.enter.new.state c.leave_block-block.new.state c.in_ok-enter.ensures.inside (grows_on _ _ _ c.in_ok-typed.ensures.grows (grows_on _ _ _ c.in_ok-local.ensures.grows (scope_grows c.take_switch_local.new.state c.enter_block.new.state c.switch_body.new.state c.leave_block-block.new.state c.in_ok-outer.ensures.lists c.in_ok-outer.ensures.depth c.in_ok-body.ensures.grows c.leave_block-block.ensures.lists c.leave_block-block.ensures.depth)))

pub statement_made-returns-in_ok-done-in-Block : goal.statement_made-returns-in_ok-done-in-Block
statement_made-returns-in_ok-done-in-Block g t c =
    let here = here_at c.args.scene.now.facts.now (g.S.Surroundings.told c.args.scene.now.around.now) in
    let s = seen_state c.args.state.now in
    let i = c.args.inside in
    let x = c.args.statement.now in
    let line = (out-Statement x).span.line in
    let begun = seen_state c.enter_block.new.state in
    let blk = c.in-Block.block in
    let list = c.as_slice-list.result.now in
    let is : kind_of x ≡ kind.Block blk = cc in
    let inside = λ (s : State). item_list here i s list in
    let whole = of_kind here i s x _ is ∙ block_is here i s (out-Statement x).span blk ∙ ap (λ (l : List BlockItem). block_with here s (λ s. item_list here i s l)) (sym c.as_slice-list.ensures) in
    let t = seen_state c.block_items.new.state in
    let same = ap (λ (v : Vec LocalDef Global). reverse v.items) c.in_ok-outer-in-Block.ensures.outer in
    record {
      found = in_block_ends here (one_statement here i s x) s begun inside whole c.in_ok-outer-in-Block.ensures.state t (seen_state c.leave_block.new.state) c.in_ok-done-in-Block.done c.leave_block.result (reverse c.in_ok-outer-in-Block.outer.items) c.in_ok-done-in-Block.ensures.found c.leave_block.ensures.state same c.leave_block.ensures.made;
      grows = scope_grows c.args.state.now c.enter_block.new.state c.block_items.new.state c.leave_block.new.state c.in_ok-outer-in-Block.ensures.lists c.in_ok-outer-in-Block.ensures.depth c.in_ok-done-in-Block.ensures.grows c.leave_block.ensures.lists c.leave_block.ensures.depth;
    }

pub statement_made-returns-in_err-done-in-Block : goal.statement_made-returns-in_err-done-in-Block
statement_made-returns-in_err-done-in-Block g t c =
    let here = here_at c.args.scene.now.facts.now (g.S.Surroundings.told c.args.scene.now.around.now) in
    let s = seen_state c.args.state.now in
    let i = c.args.inside in
    let x = c.args.statement.now in
    let line = (out-Statement x).span.line in
    let begun = seen_state c.enter_block.new.state in
    let blk = c.in-Block.block in
    let list = c.as_slice-list.result.now in
    let is : kind_of x ≡ kind.Block blk = cc in
    let inside = λ (s : State). item_list here i s list in
    let whole = of_kind here i s x _ is ∙ block_is here i s (out-Statement x).span blk ∙ ap (λ (l : List BlockItem). block_with here s (λ s. item_list here i s l)) (sym c.as_slice-list.ensures) in
    let f = c.in_err-done-in-Block.field-0.0 in
    let t = seen_state c.block_items.new.state in
    record {
      found = in_block_stops here (one_statement here i s x) s begun inside whole c.in_ok-outer-in-Block.ensures.state t t c.from_residual-in_err-done-in-Block.result f c.from_residual-in_err-done-in-Block.ensures.1 c.in_err-done-in-Block.ensures.found;
      grows = err_on _ c.from_residual-in_err-done-in-Block.result _ _ c.from_residual-in_err-done-in-Block.ensures.1;
    }

pub statement_made-leave_block-requires : goal.statement_made-leave_block-requires
statement_made-leave_block-requires g t c = scope_inside c.enter_block.new.state c.block_items.new.state c.in_ok-outer-in-Block.ensures.inside c.in_ok-done-in-Block.ensures.grows

pub statement_made-returns-in-Expression : goal.statement_made-returns-in-Expression
statement_made-returns-in-Expression g t c =
    let here = here_at c.args.scene.now.facts.now (g.S.Surroundings.told c.args.scene.now.around.now) in
    let s = seen_state c.args.state.now in
    let i = c.args.inside in
    let x = c.args.statement.now in
    let line = (out-Statement x).span.line in
    let is : kind_of x ≡ kind.Expression c.in-Expression.expr = cc in
    record {
      found = passes_same (seen_state c.run_value.new.state) c.run_value.result _ _ (of_kind here i s x _ is) c.run_value.ensures.found;
      grows = c.run_value.ensures.grows;
    }

pub statement_made-returns-in-Return : goal.statement_made-returns-in-Return
statement_made-returns-in-Return g t c =
    let here = here_at c.args.scene.now.facts.now (g.S.Surroundings.told c.args.scene.now.around.now) in
    let s = seen_state c.args.state.now in
    let i = c.args.inside in
    let x = c.args.statement.now in
    let line = (out-Statement x).span.line in
    let is : kind_of x ≡ kind.Return (option_copied c.as_ref.result) = cc in
    record {
      found = passes_same (seen_state c.return_at.new.state) c.return_at.result _ _ (of_kind here i s x _ is) c.return_at.ensures.found;
      grows = c.return_at.ensures.grows;
    }

pub statement_made-returns-in-Break : goal.statement_made-returns-in-Break
statement_made-returns-in-Break g t c =
    let here = here_at c.args.scene.now.facts.now (g.S.Surroundings.told c.args.scene.now.around.now) in
    let s = seen_state c.args.state.now in
    let i = c.args.inside in
    let x = c.args.statement.now in
    let line = (out-Statement x).span.line in
    let is : kind_of x ≡ kind.Break = cc in
    record {
      found = passes_same s c.break_at.result _ _ (of_kind here i s x _ is) (c.break_at.ensures s);
      grows = on_any c.break_at.result _ _ (stays c.args.state.now);
    }

pub statement_made-returns-in-Continue : goal.statement_made-returns-in-Continue
statement_made-returns-in-Continue g t c =
    let here = here_at c.args.scene.now.facts.now (g.S.Surroundings.told c.args.scene.now.around.now) in
    let s = seen_state c.args.state.now in
    let i = c.args.inside in
    let x = c.args.statement.now in
    let line = (out-Statement x).span.line in
    let is : kind_of x ≡ kind.Continue = cc in
    record {
      found = passes_same s c.continue_at.result _ _ (of_kind here i s x _ is) (c.continue_at.ensures s);
      grows = on_any c.continue_at.result _ _ (stays c.args.state.now);
    }

pub statement_made-returns-in-Empty : goal.statement_made-returns-in-Empty
statement_made-returns-in-Empty g t c =
    let here = here_at c.args.scene.now.facts.now (g.S.Surroundings.told c.args.scene.now.around.now) in
    let s = seen_state c.args.state.now in
    let i = c.args.inside in
    let x = c.args.statement.now in
    let line = (out-Statement x).span.line in
    let is : kind_of x ≡ kind.Empty = cc in
    record {
      found = of_kind here i s x _ is ∙ ap (λ (y : Stmt). Fine s y) (sym c.nothing_done.ensures);
      grows = stays c.args.state.now;
    }

pub block_item-returns-in-Declaration : goal.block_item-returns-in-Declaration
block_item-returns-in-Declaration g t c =
    let here = here_at c.args.scene.now.facts.now (g.S.Surroundings.told c.args.scene.now.around.now) in
    let s = seen_state c.args.state.now in
    let i = c.args.inside in
    let x = c.args.item.now in
    let is : x ≡ item.Declaration c.in-Declaration.declaration = cc in
    record {
      found = passes_same (seen_state c.declaration_made.new.state) c.declaration_made.result _ _ (ap (item_checked here i s) is) c.declaration_made.ensures.found;
      grows = c.declaration_made.ensures.grows;
    }

pub block_item-returns-in_ok-asserted-in-Assertion : goal.block_item-returns-in_ok-asserted-in-Assertion
block_item-returns-in_ok-asserted-in-Assertion g t c =
    let here = here_at c.args.scene.now.facts.now (g.S.Surroundings.told c.args.scene.now.around.now) in
    let s = seen_state c.args.state.now in
    let i = c.args.inside in
    let x = c.args.item.now in
    let is : x ≡ item.Assertion c.in-Assertion.assertion = cc in
    record {
      found = ap (item_checked here i s) is ∙ c.in_ok-asserted-in-Assertion.ensures.found ∙ ap (λ (l : List Stmt). Fine (seen_state c.asserted.new.state) l) (sym c.new-statements.ensures);
      grows = c.in_ok-asserted-in-Assertion.ensures.grows;
    }

pub block_item-returns-in_ok-push-in-Statement : goal.block_item-returns-in_ok-push-in-Statement
block_item-returns-in_ok-push-in-Statement g t c =
    let here = here_at c.args.scene.now.facts.now (g.S.Surroundings.told c.args.scene.now.around.now) in
    let s = seen_state c.args.state.now in
    let i = c.args.inside in
    let x = c.args.item.now in
    let y = c.in-Statement.statement in
    let is : x ≡ item.Statement y = cc in
    let t = seen_state c.statement_made.new.state in
    let all = c.in_ok-push-in-Statement.ensures.ok ∙ ap (λ (l : List Stmt). l ++ c.in_ok-done-in-Statement.done ∷ []) c.new-statements.ensures in
    record {
      found = ap (item_checked here i s) is ∙ statement_item_is here i s y ∙ next_goes (one_statement here i s y) (λ (s : State) (done : Stmt). Fine s (done ∷ [])) t c.in_ok-done-in-Statement.done c.in_ok-done-in-Statement.ensures.found ∙ ap (λ (l : List Stmt). Fine t l) (sym all);
      grows = c.in_ok-done-in-Statement.ensures.grows;
    }

pub block_item-returns-in_err-done-in-Statement : goal.block_item-returns-in_err-done-in-Statement
block_item-returns-in_err-done-in-Statement g t c =
    let here = here_at c.args.scene.now.facts.now (g.S.Surroundings.told c.args.scene.now.around.now) in
    let s = seen_state c.args.state.now in
    let i = c.args.inside in
    let x = c.args.item.now in
    let y = c.in-Statement.statement in
    let is : x ≡ item.Statement y = cc in
    let t = seen_state c.statement_made.new.state in
    let f = c.in_err-done-in-Statement.field-0.0 in
    record {
      found = passes_failed t c.from_residual-in_err-done-in-Statement.result f _ c.from_residual-in_err-done-in-Statement.ensures.1 (fails_at f (item_checked here i s x) (next (one_statement here i s y) (λ (s : State) (done : Stmt). Fine s (done ∷ []))) (ap (item_checked here i s) is ∙ statement_item_is here i s y) (behind_passed t f (one_statement here i s y) (λ (s : State) (done : Stmt). Fine s (done ∷ [])) c.in_err-done-in-Statement.ensures.found));
      grows = err_on _ c.from_residual-in_err-done-in-Statement.result _ _ c.from_residual-in_err-done-in-Statement.ensures.1;
    }

pub switch_body-returns : goal.switch_body-returns
switch_body-returns g t c =
    let here = here_at c.args.scene.now.facts.now (g.S.Surroundings.told c.args.scene.now.around.now) in
    let s = seen_state c.args.state.now in
    let x = c.args.statement.now in
    let e = c.in-Switch.value in
    let items = c.in-Switch.items in
    let is : kind_of x ≡ kind.Switch e items = cc in
    let list = λ (l : List SwitchItem). switch_list here c.args.inside c.args.kind s nothing_switched l in
    record {
      found = passes_same (seen_state c.switch_items.new.state) c.switch_items.result _ _ (ap list (sym (items_are x e items is) ∙ sym c.as_slice-list.ensures)) c.switch_items.ensures.found;
      grows = c.switch_items.ensures.grows;
    }

pub switch_items-items-init : goal.switch_items-items-init
switch_items-items-init g t c =
    let here = here_at c.args.scene.now.facts.now (g.S.Surroundings.told c.args.scene.now.around.now) in
    (ap (λ (w : Switched). switch_list here c.args.inside c.args.kind (seen_state c.args.state.now) w c.args.items.now) c.nothing_switched-switched.ensures, stays c.args.state.now)

pub switch_items-items-preserved : goal.switch_items-items-preserved
switch_items-items-preserved g t c =
    let here = here_at c.args.scene.now.facts.now (g.S.Surroundings.told c.args.scene.now.around.now) in
    let step = cases_go here c.args.inside c.args.kind (seen_state c.items.state) (seen_state c.switch_item.new.state) c.items.switched c.switch_item.new.so_far c.args.items.now c.items.item-index c.item-item.result c.item-item.result c.items-test.true c.item-item.is c.in_ok-switch_item.ensures.found in
    (sym step ∙ c.items.invariant.0, grows_on _ _ _ c.items.invariant.1 c.in_ok-switch_item.ensures.grows)

pub switch_items-returns : goal.switch_items-returns
switch_items-returns g t c =
    let here = here_at c.args.scene.now.facts.now (g.S.Surroundings.told c.args.scene.now.around.now) in
    let s = seen_state c.args.state.now in
    record {
      found = sym c.items.invariant.0 ∙ cases_end here c.args.inside c.args.kind (seen_state c.items.state) c.items.switched c.args.items.now c.items.item-index c.items-test.false;
      grows = c.items.invariant.1;
    }

pub switch_items-returns-in_err-switch_item : goal.switch_items-returns-in_err-switch_item
switch_items-returns-in_err-switch_item g t c =
    let here = here_at c.args.scene.now.facts.now (g.S.Surroundings.told c.args.scene.now.around.now) in
    let s = seen_state c.args.state.now in
    let f = c.in_err-switch_item.field-0.0 in
    let t = seen_state c.switch_item.new.state in
    record {
      found = passes_failed t c.from_residual.result f _ c.from_residual.ensures.1 (fails_at f _ _ (sym c.items.invariant.0) (cases_fail here c.args.inside c.args.kind (seen_state c.items.state) t c.items.switched c.args.items.now c.items.item-index c.item-item.result c.item-item.result f c.items-test.true c.item-item.is c.in_err-switch_item.ensures.found));
      grows = err_on _ c.from_residual.result _ _ c.from_residual.ensures.1;
    }

pub switch_item-returns-in_ok-typed-in-Case : goal.switch_item-returns-in_ok-typed-in-Case
switch_item-returns-in_ok-typed-in-Case g t c =
    let here = here_at c.args.scene.now.facts.now (g.S.Surroundings.told c.args.scene.now.around.now) in
    let s = seen_state c.args.state.now in
    let i = c.args.inside in
    let k = c.args.kind in
    let x = c.args.item.now in
    let w = c.args.so_far.now in
    let span = c.in-Case.span in
    let e = c.in-Case.value in
    let is : x ≡ switch.Case span e = cc in
    let first = case_constant here.around s k e in
    let go = λ (s : State) (t : Typed). with_case span.line s (constant_in t.known) w in
    let u = seen_state c.case_typed.new.state in
    record {
      found = passes_same u (told_switch c.add_case.new.self c.add_case.result) (switched here i k s w x) (with_case span.line u c.constant_in.result w) (ap (switched here i k s w) is ∙ next_goes first go u c.in_ok-typed-in-Case.typed c.in_ok-typed-in-Case.ensures.found ∙ ap (λ (v : Option ℕ). with_case span.line u v w) (sym c.constant_in.ensures)) (c.add_case.ensures u);
      grows = on_any c.add_case.result _ _ c.in_ok-typed-in-Case.ensures.grows;
    }

pub switch_item-returns-in_err-typed-in-Case : goal.switch_item-returns-in_err-typed-in-Case
switch_item-returns-in_err-typed-in-Case g t c =
    let here = here_at c.args.scene.now.facts.now (g.S.Surroundings.told c.args.scene.now.around.now) in
    let s = seen_state c.args.state.now in
    let i = c.args.inside in
    let k = c.args.kind in
    let x = c.args.item.now in
    let w = c.args.so_far.now in
    let span = c.in-Case.span in
    let e = c.in-Case.value in
    let is : x ≡ switch.Case span e = cc in
    let first = case_constant here.around s k e in
    let go = λ (s : State) (t : Typed). with_case span.line s (constant_in t.known) w in
    let u = seen_state c.case_typed.new.state in
    let f = c.in_err-typed-in-Case.field-0.0 in
    record {
      found = switch_fails u w c.from_residual.result f (switched here i k s w x) c.from_residual.ensures.1 (fails_at f (switched here i k s w x) (next first go) (ap (switched here i k s w) is) (behind_passed u f first go c.in_err-typed-in-Case.ensures.found));
      grows = err_on _ c.from_residual.result _ _ c.from_residual.ensures.1;
    }

pub switch_item-returns-in-Default : goal.switch_item-returns-in-Default
switch_item-returns-in-Default g t c =
    let here = here_at c.args.scene.now.facts.now (g.S.Surroundings.told c.args.scene.now.around.now) in
    let s = seen_state c.args.state.now in
    let i = c.args.inside in
    let k = c.args.kind in
    let x = c.args.item.now in
    let w = c.args.so_far.now in
    let is : x ≡ switch.Default c.in-Default.span = cc in
    record {
      found = passes_same s (told_switch c.add_default.new.self c.add_default.result) (switched here i k s w x) _ (ap (switched here i k s w) is) (c.add_default.ensures s);
      grows = on_any c.add_default.result _ _ (stays c.args.state.now);
    }

pub switch_item-returns-in-Assertion : goal.switch_item-returns-in-Assertion
switch_item-returns-in-Assertion g t c =
    let here = here_at c.args.scene.now.facts.now (g.S.Surroundings.told c.args.scene.now.around.now) in
    let s = seen_state c.args.state.now in
    let i = c.args.inside in
    let k = c.args.kind in
    let x = c.args.item.now in
    let w = c.args.so_far.now in
    let a = c.in-Assertion.assertion in
    let is : x ≡ switch.Assertion a = cc in
    let u = seen_state c.asserted.new.state in
    record {
      found = passes_same u (told_switch w c.asserted.result) (switched here i k s w x) (next (asserted here s a) (λ (s : State) (none : List Stmt). Fine s w)) (ap (switched here i k s w) is) (asserted_in u c.asserted.result (asserted here s a) w c.asserted.ensures.found);
      grows = c.asserted.ensures.grows;
    }

pub switch_item-returns-in_ok-add_statements-in-Declaration : goal.switch_item-returns-in_ok-add_statements-in-Declaration
switch_item-returns-in_ok-add_statements-in-Declaration g t c =
    let here = here_at c.args.scene.now.facts.now (g.S.Surroundings.told c.args.scene.now.around.now) in
    let s = seen_state c.args.state.now in
    let i = c.args.inside in
    let k = c.args.kind in
    let x = c.args.item.now in
    let w = c.args.so_far.now in
    let d = c.in-Declaration.declaration in
    let is : x ≡ switch.Declaration d = cc in
    let first = declaration_checked here standing.Block s d in
    let go = λ (s : State) (done : List Stmt). Fine s (with_statements done w) in
    let u = seen_state c.declaration_made.new.state in
    record {
      found = ap (switched here i k s w) is ∙ next_goes first go u c.in_ok-done-in-Declaration.done c.in_ok-done-in-Declaration.ensures.found ∙ ap (λ (v : Switched). Fine u v) (sym c.in_ok-add_statements-in-Declaration.ensures);
      grows = c.in_ok-done-in-Declaration.ensures.grows;
    }

pub switch_item-returns-in_err-done-in-Declaration : goal.switch_item-returns-in_err-done-in-Declaration
switch_item-returns-in_err-done-in-Declaration g t c =
    let here = here_at c.args.scene.now.facts.now (g.S.Surroundings.told c.args.scene.now.around.now) in
    let s = seen_state c.args.state.now in
    let i = c.args.inside in
    let k = c.args.kind in
    let x = c.args.item.now in
    let w = c.args.so_far.now in
    let d = c.in-Declaration.declaration in
    let is : x ≡ switch.Declaration d = cc in
    let first = declaration_checked here standing.Block s d in
    let go = λ (s : State) (done : List Stmt). Fine s (with_statements done w) in
    let u = seen_state c.declaration_made.new.state in
    let f = c.in_err-done-in-Declaration.field-0.0 in
    record {
      found = switch_fails u w c.from_residual-in_err-done-in-Declaration.result f (switched here i k s w x) c.from_residual-in_err-done-in-Declaration.ensures.1 (fails_at f (switched here i k s w x) (next first go) (ap (switched here i k s w) is) (behind_passed u f first go c.in_err-done-in-Declaration.ensures.found));
      grows = err_on _ c.from_residual-in_err-done-in-Declaration.result _ _ c.from_residual-in_err-done-in-Declaration.ensures.1;
    }

pub switch_item-returns-in_ok-add_statement-in-Statement : goal.switch_item-returns-in_ok-add_statement-in-Statement
switch_item-returns-in_ok-add_statement-in-Statement g t c =
    let here = here_at c.args.scene.now.facts.now (g.S.Surroundings.told c.args.scene.now.around.now) in
    let s = seen_state c.args.state.now in
    let i = c.args.inside in
    let k = c.args.kind in
    let x = c.args.item.now in
    let w = c.args.so_far.now in
    let y = c.in-Statement.statement in
    let is : x ≡ switch.Statement y = cc in
    let first = one_statement here i s y in
    let go = λ (s : State) (done : Stmt). Fine s (with_statements (done ∷ []) w) in
    let u = seen_state c.statement_made.new.state in
    let whole = ap (switched here i k s w) is ∙ statement_case_is here i k s w y in
    record {
      found = whole ∙ next_goes first go u c.in_ok-done-in-Statement.done c.in_ok-done-in-Statement.ensures.found ∙ ap (λ (v : Switched). Fine u v) (sym c.in_ok-add_statement-in-Statement.ensures);
      grows = c.in_ok-done-in-Statement.ensures.grows;
    }

pub switch_item-returns-in_err-done-in-Statement : goal.switch_item-returns-in_err-done-in-Statement
switch_item-returns-in_err-done-in-Statement g t c =
    let here = here_at c.args.scene.now.facts.now (g.S.Surroundings.told c.args.scene.now.around.now) in
    let s = seen_state c.args.state.now in
    let i = c.args.inside in
    let k = c.args.kind in
    let x = c.args.item.now in
    let w = c.args.so_far.now in
    let y = c.in-Statement.statement in
    let is : x ≡ switch.Statement y = cc in
    let first = one_statement here i s y in
    let go = λ (s : State) (done : Stmt). Fine s (with_statements (done ∷ []) w) in
    let u = seen_state c.statement_made.new.state in
    let whole = ap (switched here i k s w) is ∙ statement_case_is here i k s w y in
    let f = c.in_err-done-in-Statement.field-0.0 in
    record {
      found = switch_fails u w c.from_residual-in_err-done-in-Statement.result f (switched here i k s w x) c.from_residual-in_err-done-in-Statement.ensures.1 (fails_at f (switched here i k s w x) (next first go) whole (behind_passed u f first go c.in_err-done-in-Statement.ensures.found));
      grows = err_on _ c.from_residual-in_err-done-in-Statement.result _ _ c.from_residual-in_err-done-in-Statement.ensures.1;
    }

pub block_items-items-init : goal.block_items-items-init
block_items-items-init g t c =
    let here = here_at c.args.scene.now.facts.now (g.S.Surroundings.told c.args.scene.now.around.now) in
    let s = seen_state c.args.state.now in
    (ap (λ (xs : List Stmt). statements_before xs (item_list here c.args.inside s c.args.items.now)) c.new-statements.ensures ∙ all_before (item_checked here c.args.inside) s c.args.items.now, stays c.args.state.now)

pub block_items-items-preserved : goal.block_items-items-preserved
block_items-items-preserved g t c =
    let here = here_at c.args.scene.now.facts.now (g.S.Surroundings.told c.args.scene.now.around.now) in
    let step = list_goes (item_checked here c.args.inside) (seen_state c.items.state) (seen_state c.block_item.new.state) c.items.statements c.in_ok-done.done c.args.items.now c.items.item-index c.item-item.result c.item-item.result c.items-test.true c.item-item.is c.in_ok-done.ensures.found in
    (ap (λ (xs : List Stmt). statements_before xs (item_list here c.args.inside (seen_state c.block_item.new.state) (drop (c.items.item-index + 1) c.args.items.now))) c.in_ok-append.ensures ∙ step ∙ c.items.invariant.0, grows_on _ _ _ c.items.invariant.1 c.in_ok-done.ensures.grows)

pub block_items-returns : goal.block_items-returns
block_items-returns g t c =
    let here = here_at c.args.scene.now.facts.now (g.S.Surroundings.told c.args.scene.now.around.now) in
    let s = seen_state c.args.state.now in
    record {
      found = sym c.items.invariant.0 ∙ list_ends (item_checked here c.args.inside) (seen_state c.items.state) c.items.statements c.args.items.now c.items.item-index c.items-test.false;
      grows = c.items.invariant.1;
    }

pub block_items-returns-in_err-done : goal.block_items-returns-in_err-done
block_items-returns-in_err-done g t c =
    let here = here_at c.args.scene.now.facts.now (g.S.Surroundings.told c.args.scene.now.around.now) in
    let s = seen_state c.args.state.now in
    let f = c.in_err-done.field-0.0 in
    let t = seen_state c.block_item.new.state in
    record {
      found = passes_failed t c.from_residual.result f _ c.from_residual.ensures.1 (fails_at f _ _ (sym c.items.invariant.0) (list_fails (item_checked here c.args.inside) (seen_state c.items.state) t c.items.statements c.args.items.now c.items.item-index c.item-item.result c.item-item.result f c.items-test.true c.item-item.is c.in_err-done.ensures.found));
      grows = err_on _ c.from_residual.result _ _ c.from_residual.ensures.1;
    }
