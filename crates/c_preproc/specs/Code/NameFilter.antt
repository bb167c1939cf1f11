-- A Bloom filter of one hash: which names may be in it.
use Rattle.std.specs.Prelude.{◌≡◌, ℕ, ◌+◌, ◌*◌, ◌%◌, Bool, true, not, ◌||◌, nat_lt, IsTrue, List, [], ◌∷◌, length, slice_index_or}
use Rattle.std.specs.List.{list_all}
use Rattle.c_lexer.specs.declared.token.Token.{Token}
use Rattle.c_preproc.specs.Texts.{is_name, text_of}

abbrev pub slot_from : ℕ → List ℕ → ℕ
slot_from slot [] = slot
slot_from slot (b ∷ name) = slot_from ((slot * 31 + b) % 262144) name

abbrev pub slot_of : List ℕ → ℕ
slot_of name = slot_from 0 name

-- where there is no slot, everything may be in it
abbrev pub may_have : List Bool → List ℕ → Bool
may_have slots name = not (nat_lt (slot_of name) (length slots)) || slice_index_or slots (slot_of name) true

-- what may have been in it still may
abbrev pub IsMore : List Bool → List Bool → Type 0
IsMore old new = (name : List ℕ) → may_have old name ≡ true → may_have new name ≡ true

-- the token is in it, or no name
abbrev pub is_in : List Bool → List ℕ → Token → Bool
is_in slots bytes token = not (is_name token) || may_have slots (text_of bytes token)

-- each name among tokens is in it
abbrev pub AreIn : List Bool → List ℕ → List Token → Type 0
AreIn slots bytes tokens = IsTrue (list_all (is_in slots bytes) tokens)
