-- What the code keeps of the words that it has met.
use Rattle.std.specs.Prelude.{◌≡◌, ◌≢◌, ℕ, ◌<◌, true, List, Option, slice_get, Some, take, unwrap_or, Vec}
use Rattle.std.specs.declared.alloc.Global.{Global}
use Rattle.std.specs.BTreeMap.{BTreeMap, get_by}
use Rattle.std.specs.Cmp.Lexicographic.{slice_cmp}
use Rattle.std.specs.Ordering.{nat_cmp}
use Rattle.c_lexer.specs.declared.token.Token.{Token}
use Rattle.c_terminals.specs.Texts.{same_name}
use Rattle.c_terminals.specs.Lexemes.{first_with}

-- a map from texts to numbers, and what it has for a text
abbrev pub Places : Type 0
Places = BTreeMap (Vec ℕ Global) ℕ

abbrev pub place_of : Places → List ℕ → Option ℕ
place_of places text = get_by (λ key. slice_cmp nat_cmp text key.items) places

-- the text has its number, or this one from now on, and the other texts keep theirs
pub record IsNumbering (old new : Places) (text : List ℕ) (next : ℕ) : Type 0 where
  pub here : place_of new text ≡ Some (unwrap_or (place_of old text) next)
  pub others : (other : List ℕ) → text ≢ other → place_of new other ≡ place_of old other

-- the map has the words among so many tokens
pub record IsNumbered (bytes : List ℕ) (tokens : List Token) (place : ℕ) (places : Places) : Type 0 where
  pub all : (text : List ℕ) → place_of places text ≡ first_with bytes (take place tokens) text

-- an earlier word stands at the same bytes as this one
pub record IsSameAt (tokens : List Token) (token : Token) (place earlier : ℕ) : Type 0 where
  pub before : earlier < place
  pub other : Token
  pub there : slice_get tokens earlier ≡ Some other
  pub same : same_name other token ≡ true
