-- What checking a file comes to: its phases, one after the other, and the refusal of the first that refuses it.
--
-- A file is a program where each phase takes what the one before it gave. Else it is refused for one reason at one line.
use Rattle.std.specs.Prelude.{◌≡◌, ℕ, List, Ok, Err, codes}
use Rattle.c_rules.specs.declared.refusal.Refusal.{Refusal}
use Rattle.c_rules.specs.declared.refusal.RefusalKind.TheVariants as kind
use Rattle.c_lexer.specs.declared.token.Token.{Token}
use Rattle.c_lexer.specs.Source.{without_splices}
use Rattle.c_preproc.specs.Expansion.{with_digits}
use Rattle.c_front.specs.Phases.{expanded_tokens_of}
use Rattle.c_front.specs.declared.fault.FrontFault.TheVariants as front
use Rattle.c_syntax.specs.declared.file.File.{File}
use Rattle.c_parser.specs.Parse.{IsFault, IsTree}
use Rattle.c_parser.specs.declared.fault.ParseFault.{ParseFault}
use Rattle.c_tree.specs.Fits.{IsProgram}
use Rattle.c_tree.specs.Plain.{PlainProgram}
use Rattle.c_rules.specs.Rules.{number_of}
use Rattle.c_rules.specs.declared.rule.Rule.{Rule}
use Rattle.c_check.specs.Rounds.{tokens_of}
use Rattle.c_file_rules.specs.Files.{Tokens, IsProgramOf, IsRefused}
use Rattle.filc_top.specs.Endings.{of_parser, unfit_program}
use Rattle.filc_top.specs.declared.ending.Ending.TheVariants as ending

-- what the tokens of a file are slices of
abbrev pub token_bytes : List ℕ → List ℕ
token_bytes file = with_digits (without_splices file)

-- what a file's tokens and names mean
abbrev pub meaning : (file : List ℕ) → List Token → Tokens
meaning file tokens = tokens_of (record { bytes = token_bytes file; list = tokens })

-- the file's tokens spell this tree
pub record HasTree (file : List ℕ) (tokens : List Token) (tree : File) : Type 0 where
  pub expanded : expanded_tokens_of file ≡ Ok tokens
  pub spelled : IsTree (token_bytes file) tokens tree

-- ---- programs

-- the file is this program of the language
pub record HasProgram (file : List ℕ) (program : PlainProgram) : Type 0 where
  pub tokens : List Token
  pub tree : File
  pub has_tree : HasTree file tokens tree
  pub is_program : IsProgramOf (meaning file tokens) tree program
  pub fits : IsProgram program

-- what `check` writes of a file that is a program
abbrev pub accepted_text : List ℕ
accepted_text = codes "accepted\n"

-- the file is a program, and this is the text that says so
pub record IsTextOfCheck (file text : List ℕ) : Type 0 where
  pub program : PlainProgram
  pub is_program : HasProgram file program
  pub text_is : text ≡ accepted_text

-- ---- refusals

-- the refusal of a broken rule
abbrev pub refusal_of_rule : Rule → ℕ → Refusal
refusal_of_rule rule line = record { kind = kind.Rule rule; line = line }

-- the file's tree breaks this rule first, at this line
abbrev pub BreaksFirst : Tokens → File → Rule → ℕ → Type 0
BreaksFirst t tree rule line = IsRefused t tree (record { rule = number_of rule; line = line })

-- the tree breaks no rule, and its functions and objects don't keep what a program keeps
pub record IsUnfit (t : Tokens) (tree : File) : Type 0 where
  pub program : PlainProgram
  pub is_program : IsProgramOf t tree program
  pub unfit : IsProgram program → ⊥

-- why a file is refused
pub data IsRefusedFile (file : List ℕ) (refusal : Refusal) : Type 0 where
  -- its bytes are no tokens, or its directives aren't carried out
  before_parser : expanded_tokens_of file ≡ Err (front.Refused refusal) → IsRefusedFile file refusal
  -- its tokens spell no tree
  by_parser :
      (tokens : List Token) (fault : ParseFault) → expanded_tokens_of file ≡ Ok tokens →
      IsFault (token_bytes file) tokens fault → of_parser fault ≡ ending.Refused refusal → IsRefusedFile file refusal
  -- they spell one, and it breaks a rule of the language
  by_rule :
      (tokens : List Token) (tree : File) (rule : Rule) (line : ℕ) → HasTree file tokens tree →
      BreaksFirst (meaning file tokens) tree rule line → refusal ≡ refusal_of_rule rule line → IsRefusedFile file refusal
  -- it breaks none, and its functions and objects don't keep what a program keeps. No file is known to be so
  unfit :
      (tokens : List Token) (tree : File) → HasTree file tokens tree → IsUnfit (meaning file tokens) tree →
      refusal ≡ unfit_program → IsRefusedFile file refusal

-- ---- the laws

-- a file has one refusal at most
abbrev pub FilesHaveOneRefusal : Type 0
FilesHaveOneRefusal = (file : List ℕ) (one other : Refusal) → IsRefusedFile file one → IsRefusedFile file other → one ≡ other

-- and none where it is a program
abbrev pub ProgramsAreNotRefused : Type 0
ProgramsAreNotRefused =
    (file : List ℕ) (program : PlainProgram) (refusal : Refusal) → HasProgram file program → IsRefusedFile file refusal → ⊥
