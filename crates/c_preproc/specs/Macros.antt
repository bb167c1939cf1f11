-- Macros: a name and the tokens that it stands for.
--
-- A macro isn't expanded within its own expansion: there it is as if it were not defined.
use Rattle.std.specs.Prelude.{ℕ, zero, suc, cond, not, List, [], ◌∷◌, length, map, filter, Option, None}
use Rattle.std.specs.List.{flat_map, find}
use Rattle.std.specs.Option.{option_map, option_map_or}
use Rattle.c_lexer.specs.declared.token.Token.{Token}
use Rattle.c_preproc.specs.Texts.{text_of, same_text, is_name}

pub record Macro : Type 0 where
  pub name : List ℕ
  pub body : List Token

-- the macros that are defined, the newest first, and the bytes of which all tokens are slices
pub record Definitions : Type 0 where
  pub bytes : List ℕ
  pub macros : List Macro

-- the macro of this name
abbrev pub macro_of : List Macro → List ℕ → Option Macro
macro_of macros name = find (λ macro. same_text macro.name name) macros

-- the macros without that of this name
abbrev pub without : List Macro → List ℕ → List Macro
without macros name = filter (λ macro. not (same_text macro.name name)) macros

-- the tokens of the macro that a token names
abbrev pub body_for : List ℕ → List Macro → Token → Option (List Token)
body_for bytes macros token = cond (is_name token) (option_map (λ macro. macro.body) (macro_of macros (text_of bytes token))) None

-- What stands for a token: the tokens of its macro, each replaced where that macro is not there any more, or else the
-- token itself. A macro is gone at each replacement, so their number is depth enough: `NamesAreReplaced` has no depth.
unfoldable pub replacement : ℕ → List ℕ → List Macro → Token → List Token
replacement zero bytes macros token = token ∷ []
replacement (suc depth) bytes macros token =
    option_map_or (flat_map (replacement depth bytes (without macros (text_of bytes token)))) (body_for bytes macros token) (token ∷ [])

abbrev pub replacement_of : List ℕ → List Macro → Token → List Token
replacement_of bytes macros token = replacement (length macros) bytes macros token

-- a macro's token in place of a name: the line and the library flag are the name's
abbrev pub placed_at : Token → Token → Token
placed_at name token = record token { line = name.line; library = name.library }

-- the expansion of a token
abbrev pub expansion_of_token : List ℕ → List Macro → Token → List Token
expansion_of_token bytes macros token = map (placed_at token) (replacement_of bytes macros token)
