-- The recursion ends since each operand nests less than its expression. A list is no deeper than its deepest element, so what goes
-- over one ranks above what checks an element, and what is given the whole expression below what gives it.
--
-- In each loop what is found so far, with the rest of the list, is what all of the list gives.
use Rattle.std.proofs.Common.{◌≡◌, ◌+◌, ◌*◌, drop}
use Rattle.c_check_expr.specs.Lists.{operator_list, argument_list, link_list, test_list, comma_list}
use Rattle.c_expr_rules.specs.Views.{seen_state, checked, Grows}
use Rattle.c_check_expr.proofs.Lists.{values_before}
use Rattle.c_check_expr.proofs.parts.Checker.+typed.Given as goal

abbrev pub decreases-cast_expression : goal.decreases-cast_expression
decreases-cast_expression g l = 7 * goal.size-cast_expression g l

abbrev pub decreases-conditional_expression : goal.decreases-conditional_expression
decreases-conditional_expression g l = 7 * goal.size-conditional_expression g l

abbrev pub decreases-assignment_expression : goal.decreases-assignment_expression
decreases-assignment_expression g l = 7 * goal.size-assignment_expression g l

abbrev pub decreases-first_operator : goal.decreases-first_operator
decreases-first_operator g l = 7 * goal.size-first_operator g l

abbrev pub decreases-chain : goal.decreases-chain
decreases-chain g l = 7 * goal.size-chain g l

abbrev pub decreases-commas : goal.decreases-commas
decreases-commas g l = 7 * goal.size-commas g l

abbrev pub decreases-postfix : goal.decreases-postfix
decreases-postfix g l = 7 * goal.size-postfix g l + 1

abbrev pub decreases-expression : goal.decreases-expression
decreases-expression g l = 7 * goal.size-expression g l + 2

abbrev pub decreases-operand : goal.decreases-operand
decreases-operand g l = 7 * goal.size-operand g l + 3

abbrev pub decreases-print : goal.decreases-print
decreases-print g l = 7 * goal.size-print g l + 5

abbrev pub decreases-value : goal.decreases-value
decreases-value g l = 7 * goal.size-value g l + 3

abbrev pub decreases-arguments : goal.decreases-arguments
decreases-arguments g l = 7 * goal.size-arguments g l + 4

abbrev pub decreases-called : goal.decreases-called
decreases-called g l = 7 * goal.size-called g l + 5

abbrev pub decreases-special_call : goal.decreases-special_call
decreases-special_call g l = 7 * goal.size-special_call g l + 6

abbrev pub decreases-operator : goal.decreases-operator
decreases-operator g l = 7 * goal.size-operator g l + 6

-- operators behind an operand, of which the first is done before the loop
abbrev pub invariant-postfix-operators : goal.invariant-postfix-operators
invariant-postfix-operators g l =
    let around = g.S.Surroundings.told l.self.around.now in
    (operator_list around l.line (checked (seen_state l.state) l.found) (drop l.operator-index l.rest)
    ≡ operator_list around l.line (checked (seen_state l.initial.state) l.initial.found) l.rest)
    × Grows l.fn.state l.state

abbrev pub invariant-arguments-arguments : goal.invariant-arguments-arguments
invariant-arguments-arguments g l =
    let around = g.S.Surroundings.told l.self.around.now in
    (values_before l.values.items (argument_list around l.wanted (seen_state l.state) (drop l.operand-index l.arguments))
    ≡ argument_list around l.fn.wanted (seen_state l.fn.state) l.arguments)
    × Grows l.fn.state l.state

abbrev pub invariant-chain-links : goal.invariant-chain-links
invariant-chain-links g l =
    let around = g.S.Surroundings.told l.self.around.now in
    (link_list around l.line (checked (seen_state l.state) l.found) (drop l.link-index l.operators)
    ≡ link_list around l.line (checked (seen_state l.initial.state) l.initial.found) l.operators)
    × Grows l.fn.state l.state

abbrev pub invariant-chain-tests : goal.invariant-chain-tests
invariant-chain-tests g l =
    let around = g.S.Surroundings.told l.self.around.now in
    (test_list around l.line l.all (checked (seen_state l.state) l.tests) (drop l.link-index l.operators)
    ≡ test_list around l.line l.all (checked (seen_state l.initial.state) l.initial.tests) l.operators)
    × Grows l.fn.state l.state

abbrev pub invariant-commas-commas : goal.invariant-commas-commas
invariant-commas-commas g l =
    let around = g.S.Surroundings.told l.self.around.now in
    (comma_list around l.line (checked (seen_state l.state) l.value) (drop l.next-index l.others)
    ≡ comma_list around l.line (checked (seen_state l.initial.state) l.initial.value) l.others)
    × Grows l.fn.state l.state
