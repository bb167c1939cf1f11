-- The scope that was entered is left.
use Rattle.std.proofs.Common.{◌≡◌, sym, ap, ◌∙◌, subst}
use Rattle.std.specs.Prelude.{[], Err}
use Rattle.c_parts.specs.Reading.{Took}
use Rattle.c_cursor.specs.Input.{Gives, answer}
use Rattle.c_syntax.specs.Grammar.{inner}
use Rattle.c_syntax.specs.Files.{bodies, statement}
use Rattle.c_file_parser.proofs.Scoped.{outer_room, scoped_took, scoped_failed}
use Rattle.c_file_parser.proofs.Wholes.{statement_whole}
use Rattle.c_file_parser.proofs.rules.Rules.scoped_statement.Goals as goal

pub returns-in_err-statement : goal.returns-in_err-statement
returns-in_err-statement g c =
    scoped_failed (statement (inner c.args.self.now.room) (bodies c.args.self.now.room)) [] c.args.cursor.now c.statement.new.cursor c.from_residual-in_err-statement.result c.in_err-statement.field-0.0 c.from_residual-in_err-statement.ensures.1
    (subst (λ i. Gives (answer (statement (inner c.args.self.now.room) (bodies c.args.self.now.room)).read i) (Err c.in_err-statement.field-0.0) c.statement.new.cursor) c.in_ok-enter.ensures.entered c.in_err-statement.ensures)

pub leave-requires : goal.leave-requires
leave-requires g c =
    outer_room (statement (inner c.args.self.now.room) (bodies c.args.self.now.room)) (statement_whole c.args.self.now.room) [] c.args.cursor.now.state c.args.cursor.now.rest c.statement.new.cursor.rest c.in_ok-statement.statement c.statement.new.cursor.state
    (subst (λ i. answer (statement (inner c.args.self.now.room) (bodies c.args.self.now.room)).read i ≡ Took c.in_ok-statement.statement c.statement.new.cursor.rest c.statement.new.cursor.state) c.in_ok-enter.ensures.entered c.in_ok-statement.ensures)
    c.enter.ensures.some

pub returns : goal.returns
returns g c =
    scoped_took (statement (inner c.args.self.now.room) (bodies c.args.self.now.room)) (statement_whole c.args.self.now.room) [] c.args.cursor.now.state c.args.cursor.now.rest c.statement.new.cursor.rest c.in_ok-statement.statement c.statement.new.cursor.state
    (subst (λ i. answer (statement (inner c.args.self.now.room) (bodies c.args.self.now.room)).read i ≡ Took c.in_ok-statement.statement c.statement.new.cursor.rest c.statement.new.cursor.state) c.in_ok-enter.ensures.entered c.in_ok-statement.ensures)
    ∙ ap (λ i. Took c.in_ok-statement.statement i.rest i.state) (sym c.leave.ensures)
