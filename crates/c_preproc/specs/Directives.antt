-- A token list as directives and other tokens.
--
-- A # that is the first token on its line begins a directive, which has the other tokens of the line.
use Rattle.std.specs.Prelude.{codes, ℕ, zero, suc, if◌then◌else◌, not, ◌&&◌, List, [], ◌∷◌, length}
use Rattle.std.specs.List.{take_while}
use Rattle.c_lexer.specs.declared.token.Token.{Token}
use Rattle.c_lexer.specs.declared.token.TokenKind.TheVariants.{End}
use Rattle.c_preproc.specs.declared.directives.DirectiveWord.{DirectiveWord}
use Rattle.c_preproc.specs.declared.directives.DirectiveWord.TheVariants.{Nothing, Include, Define, Undefine, If, IfDefined, IfUndefined, ElseIf, Else, EndIf, Pragma, Unknown}
use Rattle.c_preproc.specs.Texts.{is_word, is_punctuator, same_kind}

-- a directive by its # and the tokens behind it, or another token
pub data Block : Type 0 where
  Directive : Token → List Token → Block
  Plain : Token → Block

-- the tokens that stand on the line of the one before them
abbrev pub rest_of_line : List Token → List Token
rest_of_line tokens = take_while (λ token. not token.first && not (same_kind token.kind End)) tokens

-- the blocks in order, where the next `inside` tokens are part of a directive that began before them
unfoldable pub blocks_of : List ℕ → ℕ → List Token → List Block
blocks_of bytes inside [] = []
blocks_of bytes zero (token ∷ tokens) =
    if token.first && is_punctuator bytes token (codes "#")
    then Directive token (rest_of_line tokens) ∷ blocks_of bytes (length (rest_of_line tokens)) tokens
    else Plain token ∷ blocks_of bytes 0 tokens
blocks_of bytes (suc inside) (token ∷ tokens) = blocks_of bytes inside tokens

-- what a directive is by its word; `error` is one that is never good
abbrev pub word_of : List ℕ → Token → DirectiveWord
word_of bytes word =
    if is_word bytes word (codes "include") then Include
    else if is_word bytes word (codes "define") then Define
    else if is_word bytes word (codes "undef") then Undefine
    else if is_word bytes word (codes "if") then If
    else if is_word bytes word (codes "ifdef") then IfDefined
    else if is_word bytes word (codes "ifndef") then IfUndefined
    else if is_word bytes word (codes "elif") then ElseIf
    else if is_word bytes word (codes "else") then Else
    else if is_word bytes word (codes "endif") then EndIf
    else if is_word bytes word (codes "pragma") then Pragma
    else Unknown

-- what the directive is that has these tokens behind its #
abbrev pub directive_word : List ℕ → List Token → DirectiveWord
directive_word bytes [] = Nothing
directive_word bytes (word ∷ tokens) = word_of bytes word
