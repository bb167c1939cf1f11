-- The phases before the parser, and the refusal of a file by each fault.
use Rattle.std.specs.Prelude.{ℕ, List, Result, Ok, Err}
use Rattle.c_rules.specs.declared.refusal.RefusalKind.{RefusalKind}
use Rattle.c_rules.specs.declared.refusal.RefusalKind.TheVariants as kind
use Rattle.c_lexer.specs.declared.fault.LexFault.{LexFault}
use Rattle.c_lexer.specs.declared.fault.LexFault.TheVariants as lexer
use Rattle.c_lexer.specs.declared.token.Token.{Token}
use Rattle.c_lexer.specs.Source.{without_splices}
use Rattle.c_lexer.specs.Tokens.{tokens_of}
use Rattle.c_preproc.specs.declared.fault.PreFault.{PreFault}
use Rattle.c_preproc.specs.declared.fault.PreFault.TheVariants as preprocessor
use Rattle.c_preproc.specs.Expansion.{expansion_of}
use Rattle.c_front.specs.declared.fault.FrontFault.{FrontFault}
use Rattle.c_front.specs.declared.fault.FrontFault.TheVariants as front

-- the file is refused for this reason, at this line
abbrev pub refusal : RefusalKind → ℕ → FrontFault
refusal kind line = front.Refused (record { kind = kind; line = line })

abbrev pub of_lexer : LexFault → FrontFault
of_lexer (lexer.Bad line) = refusal kind.Bad line
of_lexer (lexer.Unclosed line) = refusal kind.Unclosed line
of_lexer (lexer.Literal line) = refusal kind.Literal line
of_lexer lexer.TooLong = refusal kind.TooLong 1
of_lexer lexer.NoMemory = front.NoMemory

abbrev pub of_preprocessor : PreFault → FrontFault
of_preprocessor (preprocessor.Directive line) = refusal kind.Directive line
of_preprocessor (preprocessor.Header line) = refusal kind.Header line
of_preprocessor (preprocessor.Unbalanced line) = refusal kind.Unbalanced line
of_preprocessor (preprocessor.Expanded line) = refusal kind.Expanded line
of_preprocessor preprocessor.NoMemory = front.NoMemory

-- a list of tokens, or why there is none
abbrev pub Outcome : Type 0
Outcome = Result (List Token) FrontFault

-- what the preprocessor gives
abbrev pub of_expansion : Result (List Token) PreFault → Outcome
of_expansion (Ok tokens) = Ok tokens
of_expansion (Err fault) = Err (of_preprocessor fault)

-- the preprocessor goes on with what the lexer gives, whose tokens are slices of these bytes
abbrev pub behind_lexer : List ℕ → Result (List Token) LexFault → Outcome
behind_lexer bytes (Ok tokens) = of_expansion (expansion_of bytes tokens)
behind_lexer bytes (Err fault) = Err (of_lexer fault)

-- the expanded tokens of a file, or its first refusal
abbrev pub expanded_tokens_of : List ℕ → Outcome
expanded_tokens_of file = behind_lexer (without_splices file) (tokens_of file)
