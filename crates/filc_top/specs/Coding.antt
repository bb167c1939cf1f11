-- Which file has which listing: that of the code that the compiler makes of its program, which plays it.
use Rattle.std.specs.Prelude.{◌≡◌, ℕ, List}
use Rattle.c_tree.specs.Plain.{PlainProgram}
use Rattle.whole_code.specs.Plain.{PlainCode}
use Rattle.whole_code.specs.Listing.{listing_of}
use Rattle.stmt_emit.specs.Compiled.{IsCodeOf, Plays}
use Rattle.filc_top.specs.Checking.{HasProgram}

-- the file is a program, and this is the listing of its code
pub record HasListing (file text : List ℕ) : Type 0 where
  pub program : PlainProgram
  pub code : PlainCode
  pub is_program : HasProgram file program
  pub is_code : IsCodeOf code program
  pub plays : Plays code program
  pub text_is : text ≡ listing_of code

-- a file has one listing at most
abbrev pub FilesHaveOneListing : Type 0
FilesHaveOneListing = (file one other : List ℕ) → HasListing file one → HasListing file other → one ≡ other
