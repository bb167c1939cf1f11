-- The scope that was entered is left.
use Rattle.std.proofs.Common.{◌≡◌, sym, ap, ◌∙◌, subst}
use Rattle.std.specs.Prelude.{Err}
use Rattle.c_parts.specs.Reading.{Took}
use Rattle.c_cursor.specs.Input.{Gives, answer}
use Rattle.c_syntax.specs.Grammar.{inner}
use Rattle.c_syntax.specs.Files.{bodies}
use Rattle.c_file_parser.specs.Constructs.{block_braces}
use Rattle.c_file_parser.proofs.Scoped.{outer_room, scoped_took, scoped_failed}
use Rattle.c_file_parser.proofs.Wholes.{block_whole}
use Rattle.c_file_parser.proofs.rules.Rules.body.Goals as goal

pub returns-in_err-items : goal.returns-in_err-items
returns-in_err-items g c =
    scoped_failed (block_braces (inner c.args.self.now.room) (bodies c.args.self.now.room)) c.args.scope.now c.args.cursor.now c.block_braces.new.cursor c.from_residual-in_err-items.result c.in_err-items.field-0.0 c.from_residual-in_err-items.ensures.1
    (subst (λ i. Gives (answer (block_braces (inner c.args.self.now.room) (bodies c.args.self.now.room)).read i) (Err c.in_err-items.field-0.0) c.block_braces.new.cursor) c.in_ok-enter_with.ensures.entered c.in_err-items.ensures)

pub leave-requires : goal.leave-requires
leave-requires g c =
    outer_room (block_braces (inner c.args.self.now.room) (bodies c.args.self.now.room)) (block_whole c.args.self.now.room) c.args.scope.now c.args.cursor.now.state c.args.cursor.now.rest c.block_braces.new.cursor.rest c.in_ok-items.items c.block_braces.new.cursor.state
    (subst (λ i. answer (block_braces (inner c.args.self.now.room) (bodies c.args.self.now.room)).read i ≡ Took c.in_ok-items.items c.block_braces.new.cursor.rest c.block_braces.new.cursor.state) c.in_ok-enter_with.ensures.entered c.in_ok-items.ensures)
    c.enter_with.ensures.some

pub returns : goal.returns
returns g c =
    scoped_took (block_braces (inner c.args.self.now.room) (bodies c.args.self.now.room)) (block_whole c.args.self.now.room) c.args.scope.now c.args.cursor.now.state c.args.cursor.now.rest c.block_braces.new.cursor.rest c.in_ok-items.items c.block_braces.new.cursor.state
    (subst (λ i. answer (block_braces (inner c.args.self.now.room) (bodies c.args.self.now.room)).read i ≡ Took c.in_ok-items.items c.block_braces.new.cursor.rest c.block_braces.new.cursor.state) c.in_ok-enter_with.ensures.entered c.in_ok-items.ensures)
    ∙ ap (λ i. Took c.in_ok-items.items i.rest i.state) (sym c.leave.ensures)
