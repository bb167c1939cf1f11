-- What the reader of a whole list returned is right, whichever way it ended.
use Rattle.std.proofs.Common.{◌-◌, length, sym, ap, ◌∙◌, subst}
use Rattle.c_parts.specs.Reading.{Syntax}
use Rattle.c_cursor.specs.Input.{start_of}
use Rattle.c_syntax.specs.Spelling.{files, IsRightlyRefused}
use Rattle.c_syntax.proofs.Claimed.{files-read}
use Rattle.c_expr_parser.proofs.Returned.{is_spelled, is_refused_behind, is_right}
use Rattle.c_expr_parser.specs.Refusals.{IsRight, refusal_of}
use Rattle.c_file_parser.proofs.whole.file.Goals as goal

pub returns-then-remaining-eq0-clause-spelled : goal.returns-then-remaining-eq0-clause-spelled
returns-then-remaining-eq0-clause-spelled c =
    is_spelled files files-read c.new-cursor.result c.whole_file-read.new.cursor c.args.tokens.now c.new-cursor.ensures.rest c.new-cursor.ensures.state
    c.in-Ok.file c.in-Ok.ensures (sym c.remaining-remaining.ensures ∙ c.if-remaining-eq0.true)

pub returns-in-Ok-clause-refused : goal.returns-in-Ok-clause-refused
returns-in-Ok-clause-refused c =
    subst (λ k. IsRightlyRefused files Syntax (start_of c.args.tokens.now) c.args.tokens.now k)
    (sym (c.saturating_sub-place.ensures ∙ ap (λ k. length c.args.tokens.now - k) c.remaining-remaining.ensures))
    (is_refused_behind files files-read c.new-cursor.result c.whole_file-read.new.cursor c.args.tokens.now c.new-cursor.ensures.rest c.new-cursor.ensures.state
    c.in-Ok.file c.in-Ok.ensures (λ e. c.if-remaining-eq0.false (c.remaining-remaining.ensures ∙ e)))

pub returns-clause-refused : goal.returns-clause-refused
returns-clause-refused c =
    subst (λ r. IsRight files (start_of c.args.tokens.now) c.args.tokens.now r)
    (sym (c.refusal_at.ensures ∙ ap (λ k. refusal_of c.in-Err.fault k) (c.saturating_sub-place.ensures ∙ ap (λ k. length c.args.tokens.now - k) c.remaining-remaining.ensures)))
    (is_right files files-read c.new-cursor.result c.whole_file-read.new.cursor c.args.tokens.now c.new-cursor.ensures.rest c.new-cursor.ensures.state
    c.in-Err.fault c.in-Err.ensures)
