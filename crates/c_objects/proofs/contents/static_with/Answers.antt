-- The image's words are those of the fills.
use Rattle.std.proofs.Common.{◌≡◌, ◌*◌, length, refl, ap, rules, arith}
use Rattle.c_objects.proofs.Words.{length_of_words_at, image_words, image_halves}
use Rattle.c_objects.proofs.contents.static_with.Goals as goal

pub invariant_of-result : goal.invariant_of-result
invariant_of-result c =
    let count = c.div_ceil-count.result in
    let words = c.in_ok-words.words in
    let halves = c.put_all.new.halves in
    record {
      a_word_each =
          omega (arith, words.ok.0, ap length c.in_ok-words.ensures, length_of_words_at c.as_slice.result.now count 0, c.div_ceil-count.ensures);
      a_half_each =
          omega (arith, halves.ok.0, c.in_ok-halves.halves.ok.0, c.in_ok-put_all.ensures.halves.len, c.in_ok-halves.ensures.len, c.div_ceil-count.ensures);
    }

pub returns : goal.returns
returns c =
    let count = c.div_ceil-count.result in
    let size : c.in_ok-length.length ≡ count * 8 = search rules in
    let image = c.in_ok-image.ensures.items_if_clones_equal (search rules) in
    let halves = c.in_ok-halves.ensures.items_if_clones_equal (search rules) in
    let words = image_words c.in_ok-image.image.items c.put_all.new.bytes.items c.as_slice.result.now c.args.fills.now c.in_ok-length.length count _ _
    image c.in_ok-put_all.ensures.bytes c.as_slice.ensures.value c.in_ok-words.ensures (omega arith) c.div_ceil-count.ensures in
    let others = image_halves c.in_ok-halves.halves.items c.put_all.new.halves.items c.args.fills.now count _
    halves c.in_ok-put_all.ensures.halves c.div_ceil-count.ensures in
    (refl, (refl, (words, others)))
