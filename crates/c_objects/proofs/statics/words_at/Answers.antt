-- The words of an object or a text.
use Rattle.std.proofs.Common.{◌≡◌, suc, ◌+◌, length, sym, ap, ◌∙◌, rules, arith}
use Rattle.filc_num.specs.Statics.{payload_words_of}
use Rattle.c_expr_rules.specs.Views.{seen_state}
use Rattle.c_objects.proofs.StaticLists.{object_words, text_words}
use Rattle.c_objects.proofs.statics.words_at.Goals as goal

pub returns-in-Some : goal.returns-in-Some
returns-in-Some c =
    c.div_ceil.ensures ∙ sym (object_words (seen_state c.args.state.now) c.args.number c.in-Some.object.now (sym c.in-Some.ensures))

pub returns-in_ok-bytes-in-Some-text_at : goal.returns-in_ok-bytes-in-Some-text_at
returns-in_ok-bytes-in-Some-text_at c =
    let text = c.in-Some-text_at.text.now in
    let size : c.in_ok-bytes-in-Some-text_at.bytes ≡ c.len.result + 1 = search rules in
    let whole : c.in_ok-bytes-in-Some-text_at.bytes ≡ suc (length text.bytes) = omega (arith, size, c.len.ensures) in
    c.div_ceil-in-Some-text_at.ensures ∙ ap payload_words_of whole
    ∙ sym (text_words (seen_state c.args.state.now) c.args.number text (sym c.in_default.ensures) (sym c.in-Some-text_at.ensures))
