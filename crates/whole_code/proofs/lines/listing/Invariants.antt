-- What was appended, with the lines of the functions that are left, is the whole text.
use Rattle.std.proofs.Common.{◌≡◌, ◌++◌, drop, map}
use Rattle.whole_code.specs.Plain.{plain_function}
use Rattle.whole_code.specs.Listing.{functions_lines, listing_of}
use Rattle.whole_code.proofs.lines.listing.Given as goal

abbrev pub invariant-loop-number : goal.invariant-loop-number
invariant-loop-number l =
    l.text.items ++ functions_lines l.number (map plain_function (drop l.number l.function-items)) ≡ listing_of l.code
