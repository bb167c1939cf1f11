-- The scope that was entered is left.
use Rattle.std.proofs.Common.{◌≡◌, sym, ap, ◌∙◌, subst}
use Rattle.std.specs.Prelude.{[], Err}
use Rattle.c_parts.specs.Reading.{Took}
use Rattle.c_cursor.specs.Input.{Gives, answer}
use Rattle.c_syntax.specs.Grammar.{inner}
use Rattle.c_syntax.specs.Files.{bodies}
use Rattle.c_file_parser.specs.Constructs.{compound}
use Rattle.c_file_parser.proofs.Scoped.{outer_room, scoped_took, scoped_failed}
use Rattle.c_file_parser.proofs.Wholes.{compound_whole}
use Rattle.c_file_parser.proofs.rules.Rules.scoped_compound.Goals as goal

pub returns-in_err-kind : goal.returns-in_err-kind
returns-in_err-kind g c =
    scoped_failed (compound c.args.what (inner c.args.self.now.room) (bodies c.args.self.now.room)) [] c.args.cursor.now c.compound.new.cursor c.from_residual-in_err-kind.result c.in_err-kind.field-0.0 c.from_residual-in_err-kind.ensures.1
    (subst (λ i. Gives (answer (compound c.args.what (inner c.args.self.now.room) (bodies c.args.self.now.room)).read i) (Err c.in_err-kind.field-0.0) c.compound.new.cursor) c.in_ok-enter.ensures.entered c.in_err-kind.ensures)

pub leave-requires : goal.leave-requires
leave-requires g c =
    outer_room (compound c.args.what (inner c.args.self.now.room) (bodies c.args.self.now.room)) (compound_whole c.args.what c.args.self.now.room) [] c.args.cursor.now.state c.args.cursor.now.rest c.compound.new.cursor.rest c.in_ok-kind.kind c.compound.new.cursor.state
    (subst (λ i. answer (compound c.args.what (inner c.args.self.now.room) (bodies c.args.self.now.room)).read i ≡ Took c.in_ok-kind.kind c.compound.new.cursor.rest c.compound.new.cursor.state) c.in_ok-enter.ensures.entered c.in_ok-kind.ensures)
    c.enter.ensures.some

pub returns : goal.returns
returns g c =
    scoped_took (compound c.args.what (inner c.args.self.now.room) (bodies c.args.self.now.room)) (compound_whole c.args.what c.args.self.now.room) [] c.args.cursor.now.state c.args.cursor.now.rest c.compound.new.cursor.rest c.in_ok-kind.kind c.compound.new.cursor.state
    (subst (λ i. answer (compound c.args.what (inner c.args.self.now.room) (bodies c.args.self.now.room)).read i ≡ Took c.in_ok-kind.kind c.compound.new.cursor.rest c.compound.new.cursor.state) c.in_ok-enter.ensures.entered c.in_ok-kind.ensures)
    ∙ ap (λ i. Took c.in_ok-kind.kind i.rest i.state) (sym c.leave.ensures)
