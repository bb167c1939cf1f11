-- What preprocessing is, apart from how the definition goes through a list.
--
-- Tokens of which none is a # and none is a macro's name expand to themselves, and so does what an expansion
-- gives. A group of `#if 0` may be cut out, one of `#if 1` is what stands in it, a name is replaced by what it
-- is defined as, and lines never fall.
use Rattle.std.specs.Prelude.{codes, ◌≡◌, ℕ, ◌≤◌, Bool, true, false, not, ◌&&◌, ◌||◌, ◌==◌, nat_le, if◌then◌else◌, IsTrue, List, [], ◌∷◌, ◌++◌, drop, length, map, None, Ok}
use Rattle.std.specs.Option.{option_map_or}
use Rattle.std.specs.List.{flat_map, list_all, list_any}
use Rattle.c_lexer.specs.List.{all_within}
use Rattle.c_lexer.specs.declared.token.Token.{Token}
use Rattle.c_lexer.specs.declared.token.TokenKind.TheVariants.{Number, End}
use Rattle.c_preproc.specs.declared.directives.DirectiveWord.{DirectiveWord}
use Rattle.c_preproc.specs.declared.directives.DirectiveWord.TheVariants.{Define, If, EndIf}
use Rattle.c_preproc.specs.Texts.{text_of, same_kind, same_text, is_name, is_punctuator}
use Rattle.c_preproc.specs.Directives.{Block, Directive, Plain, blocks_of, directive_word}
use Rattle.c_preproc.specs.Groups.{unbalanced_line}
use Rattle.c_preproc.specs.Expansion.{expansion_of, expansion_of_blocks, has_parameters, with_digits, token_limit}
use Rattle.c_preproc.specs.Macros.{Macro, body_for, placed_at, replacement_of, without}

-- the token is the name of the one macro that is there at the beginning
abbrev pub is_filc : List ℕ → Token → Bool
is_filc texts token = is_name token && same_text (codes "__FILC__") (text_of texts token)

-- no directive begins with the token, and it isn't the one macro that is there at the beginning
abbrev pub is_untouched : List ℕ → Token → Bool
is_untouched texts token = not (is_punctuator texts token (codes "#")) && not (is_filc texts token)

-- such tokens expand to themselves, if they aren't too many
abbrev pub ExpandsToItself : List ℕ → List Token → Type 0
ExpandsToItself bytes tokens =
    length tokens ≤ token_limit → IsTrue (list_all (is_untouched (with_digits bytes)) tokens) → expansion_of bytes tokens ≡ Ok tokens

-- whatever the bytes and the tokens
abbrev pub UntouchedTokensStay : Type 0
UntouchedTokensStay = (bytes : List ℕ) (tokens : List Token) → ExpandsToItself bytes tokens

-- what tokens expand to expands to itself, where the one macro of a new beginning isn't left in it
abbrev pub ExpansionsStay : Type 0
ExpansionsStay =
    (bytes : List ℕ) (tokens out : List Token) → IsTrue (all_within (length bytes) tokens) → expansion_of bytes tokens ≡ Ok out
    → IsTrue (list_all (λ token. not (is_filc (with_digits bytes) token)) out) → expansion_of (with_digits bytes) out ≡ Ok out

-- a name is replaced by its macro's tokens, each of them replaced where that macro is not there; any other token stays
abbrev pub NamesAreReplaced : Type 0
NamesAreReplaced =
    (bytes : List ℕ) (macros : List Macro) (token : Token)
    → replacement_of bytes macros token
    ≡ option_map_or (flat_map (replacement_of bytes (without macros (text_of bytes token)))) (body_for bytes macros token) (token ∷ [])

-- ---- groups

-- a block that isn't the End
abbrev pub is_inner : Block → Bool
is_inner (Plain token) = not (same_kind token.kind End)
is_inner (Directive hash line) = true

-- the directive of this word, with these tokens behind it
abbrev pub IsDirective : List ℕ → DirectiveWord → List Token → Block → Type 0
IsDirective texts word tokens (Directive hash line) = (directive_word texts line ≡ word) × (drop 1 line ≡ tokens)
IsDirective texts word tokens (Plain token) = ⊥

-- a number that is written so
pub record IsNumber (texts text : List ℕ) (token : Token) : Type 0 where
  pub kind : token.kind ≡ Number
  pub spelled : text_of texts token ≡ text

-- each part and each end has its `if`, and each `if` its end
abbrev pub AreBalanced : List ℕ → List Block → Type 0
AreBalanced texts blocks = unbalanced_line texts [] blocks ≡ None

-- `#if` with this number, and what it ends with
pub record IsGroup (texts number : List ℕ) (first last : Block) : Type 0 where
  pub token : Token
  pub is_number : IsNumber texts number token
  pub begins : IsDirective texts If (token ∷ []) first
  pub ends : IsDirective texts EndIf [] last

-- what stands between `#if 0` and its `#endif` may be cut out with them, wherever it stands
abbrev pub GroupsOfZeroAreCutOut : Type 0
GroupsOfZeroAreCutOut =
    (bytes : List ℕ) (front middle back : List Block) (first last : Block)
    → IsGroup (with_digits bytes) (codes "0") first last → AreBalanced (with_digits bytes) middle → IsTrue (list_all is_inner middle)
    → expansion_of_blocks bytes (front ++ (first ∷ (middle ++ (last ∷ back)))) ≡ expansion_of_blocks bytes (front ++ back)

-- what stands between `#if 1` and its `#endif` may stand there without them
abbrev pub GroupsOfOneStay : Type 0
GroupsOfOneStay =
    (bytes : List ℕ) (front middle back : List Block) (first last : Block)
    → IsGroup (with_digits bytes) (codes "1") first last → AreBalanced (with_digits bytes) middle
    → expansion_of_blocks bytes (front ++ (first ∷ (middle ++ (last ∷ back)))) ≡ expansion_of_blocks bytes (front ++ (middle ++ back))

-- ---- definitions

-- `#define` of this name as these tokens
pub record IsDefinition (texts : List ℕ) (name : Token) (body : List Token) (block : Block) : Type 0 where
  pub directive : IsDirective texts Define (name ∷ body) block
  pub named : IsTrue (is_name name)
  pub plain : has_parameters texts name body ≡ false

-- the tokens in place of a token, where one name stands for others
abbrev pub in_place_of : List ℕ → Token → List Token → Token → List Token
in_place_of texts name body token =
    if is_name token && same_text (text_of texts name) (text_of texts token) then map (placed_at token) body else token ∷ []

-- where no other macro and no directive follows a definition, each token of its name is replaced by its tokens
abbrev pub DefinitionsReplace : Type 0
DefinitionsReplace =
    (bytes : List ℕ) (name : Token) (body tokens : List Token) (block : Block)
    → let texts = with_digits bytes in
    IsDefinition texts name body block → IsTrue (is_untouched texts name) → IsTrue (list_all (is_untouched texts) body) → IsTrue (list_all (is_untouched texts) tokens)
    → length (flat_map (in_place_of texts name body) tokens) ≤ token_limit
    → expansion_of_blocks bytes (block ∷ map Plain tokens) ≡ Ok (flat_map (in_place_of texts name body) tokens)

-- ---- lines

abbrev pub never_fall : List ℕ → Bool
never_fall [] = true
never_fall (a ∷ []) = true
never_fall (a ∷ b ∷ lines) = nat_le a b && never_fall (b ∷ lines)

abbrev pub lines_of : List Token → List ℕ
lines_of tokens = map (λ token. token.line) tokens

-- where the lines of tokens never fall, those of their expansion never do
abbrev pub LinesNeverFall : Type 0
LinesNeverFall = (bytes : List ℕ) (tokens out : List Token) → IsTrue (never_fall (lines_of tokens)) → expansion_of bytes tokens ≡ Ok out → IsTrue (never_fall (lines_of out))

-- each line of an expansion is that of a token which was there
abbrev pub LinesAreOfTheFile : Type 0
LinesAreOfTheFile = (bytes : List ℕ) (tokens out : List Token) → expansion_of bytes tokens ≡ Ok out → IsTrue (list_all (λ token. list_any (λ line. line == token.line) (lines_of tokens)) out)

-- ---- lines and blocks

-- nothing is left, or the next token is the first of its line or the End
abbrev pub begins_line : List Token → Bool
begins_line [] = true
begins_line (token ∷ tokens) = token.first || same_kind token.kind End

-- where a list goes on with a new line, its blocks are those of both parts: so what is said of blocks holds of lines
abbrev pub BlocksEndWithLines : Type 0
BlocksEndWithLines =
    (texts : List ℕ) (tokens more : List Token) → IsTrue (begins_line more)
    → blocks_of texts 0 (tokens ++ more) ≡ blocks_of texts 0 tokens ++ blocks_of texts 0 more
