-- The types so far, with those of the rest of the statements, are those of all.
use Rattle.std.proofs.Common.{◌≡◌, drop}
use Rattle.std.specs.Prelude.{fold}
use Rattle.c_objects.specs.Calls.{statement_kinds}
use Rattle.c_file_rules.specs.Kinds.{with_kind}
use Rattle.c_objects.proofs.kinded.+statements.Given as goal

abbrev pub invariant-add_stmts-statements : goal.invariant-add_stmts-statements
invariant-add_stmts-statements l =
    fold with_kind l.kinds (statement_kinds (drop l.statement-index l.statements)) ≡ fold with_kind l.fn.kinds (statement_kinds l.statements)
