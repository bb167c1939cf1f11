-- The words so far, and those of the rest, are all.
use Rattle.std.proofs.Common.{◌≡◌, ◌++◌, ◌-◌, ◌*◌}
use Rattle.c_objects.specs.Contents.{words_at}
use Rattle.c_objects.proofs.contents.words_of.Given as goal

abbrev pub invariant-words : goal.invariant-words
invariant-words l =
    l.words.items ++ words_at l.bytes (l.count - l.index) (8 * l.index) ≡ words_at l.bytes l.count 0
