-- A word more of the rest.
use Rattle.std.proofs.Common.{◌≡◌, ◌++◌, ◌+◌, ◌-◌, ◌*◌, ◌≤◌, sym, ap, ◌∙◌, arith}
use Rattle.std.proofs.lemmas.List.{append-nil}
use Rattle.c_objects.specs.Contents.{word_at, words_at}
use Rattle.c_objects.proofs.Words.{words_pushed, no_words}
use Rattle.c_objects.proofs.contents.words_of.Goals as goal

pub words-preserved : goal.words-preserved
words-preserved c =
    let l = c.words in
    let bytes = c.args.bytes.now in
    let place : l.index * 8 ≡ 8 * l.index = omega arith in
    let rest = words_at bytes (c.args.count - (l.index + 1)) (8 * (l.index + 1)) in
    ap (λ words. words ++ rest) c.in_ok-push.ensures.items
    ∙ words_pushed bytes l.words.items c.args.count l.index c.word_of.result (omega arith)
    (c.word_of.ensures ∙ ap (word_at bytes 8) place) l.invariant

pub returns : goal.returns
returns c =
    let l = c.words in
    let past : c.args.count ≤ l.index = omega arith in
    sym (append-nil l.words.items)
    ∙ ap (λ rest. l.words.items ++ rest) (sym (no_words c.args.bytes.now c.args.count l.index past)) ∙ l.invariant
