-- What was appended, with the numbers that are left, is the whole text.
use Rattle.std.proofs.Common.{◌≡◌, ◌++◌, drop}
use Rattle.whole_code.specs.Listing.{words_after}
use Rattle.whole_code.proofs.lines.push_words.Given as goal

abbrev pub invariant-loop-number : goal.invariant-loop-number
invariant-loop-number l =
    l.text.items ++ words_after (drop l.number-index l.numbers) ≡ l.fn.text.items ++ words_after l.numbers
