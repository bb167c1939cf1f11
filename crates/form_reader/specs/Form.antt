-- The small form: which files can be run so far, and the program that each of them is.
use Rattle.std.specs.Prelude.{◌≡◌, ℕ, ◌≤◌, ◌<◌, Bool, true, false, List, [], ◌∷◌, ◌++◌, length, map, None, codes, position}
use Rattle.std.specs.List.{list_all}
use Rattle.std.specs.Str.{bytes_eq}
use Rattle.filc_num.specs.declared.integer.IntType.TheVariants.{I32}
use Rattle.form_tree.specs.declared.stmt.LocalDef.{LocalDef}
use Rattle.form_tree.specs.declared.stmt.Stmt.{Stmt}
use Rattle.form_tree.specs.declared.stmt.Stmt.TheVariants as stmt
use Rattle.form_tree.specs.declared.program.FunctionDef.{FunctionDef}
use Rattle.form_tree.specs.Plain.{PlainProgram, plain_program}
use Rattle.form_tree.specs.Temps.{values_of}
use Rattle.form_reader.specs.Lexemes.{Lexeme, Run, Mark, Twin, is_letter, lexemes}
use Rattle.form_reader.specs.Grammar.{front_line, AreStmts, IsStmt}

-- the bytes of a lexeme
abbrev pub text_of : Lexeme → List ℕ
text_of (Run bytes line) = bytes
text_of (Mark byte line) = byte ∷ []
text_of (Twin line) = 45 ∷ 45 ∷ []

-- a name that is none of these
abbrev pub IsNew : List (List ℕ) → List ℕ → Type 0
IsNew seen name = position (λ other. bytes_eq other name) seen ≡ None

-- the words of C that are letters alone, and the names of the two functions
abbrev pub reserved : List (List ℕ)
reserved =
    codes "auto" ∷ codes "break" ∷ codes "case" ∷ codes "char" ∷ codes "const" ∷ codes "continue" ∷ codes "default" ∷ codes "do" ∷ codes "double" ∷ codes "else" ∷ codes "enum" ∷ codes "extern" ∷ codes "float" ∷ codes "for" ∷ codes "goto" ∷ codes "if" ∷ codes "inline" ∷ codes "int" ∷ codes "long" ∷ codes "register" ∷ codes "restrict" ∷ codes "return" ∷ codes "short" ∷ codes "signed" ∷ codes "sizeof" ∷ codes "static" ∷ codes "struct" ∷ codes "switch" ∷ codes "typedef" ∷ codes "union" ∷ codes "unsigned" ∷ codes "void" ∷ codes "volatile" ∷ codes "while" ∷ codes "main" ∷ codes "putchar" ∷ []

-- a name: letters alone, and none of the words that C keeps for itself or the form for its functions
pub record IsName (bytes : List ℕ) : Type 0 where
  pub some : 0 < length bytes
  pub letters : list_all is_letter bytes ≡ true
  pub free : IsNew reserved bytes

-- the locals that `main` declares, and their names
pub record PlainDeclared : Type 0 where
  pub names : List (List ℕ)
  pub locals : List LocalDef

abbrev pub plain_declared : List (List ℕ) → List LocalDef → PlainDeclared
plain_declared names locals = record { names = names; locals = locals }

-- the local of this number
abbrev pub local_of : ℕ → ℕ → LocalDef
local_of line local = record { line = line; local = local; ty = I32 }

-- `int NAME;`, with these lines
abbrev pub declaration : ℕ → List ℕ → ℕ → ℕ → List Lexeme
declaration first name line end = Run (codes "int") first ∷ Run name line ∷ Mark 59 end ∷ []

-- `int NAME;` again and again, each name a new one, behind these that are declared already
abbrev pub AreDeclarations : List (List ℕ) → List (List ℕ) → List LocalDef → List Lexeme → Type 0
AreDeclarations seen [] [] lexemes = lexemes ≡ []
AreDeclarations seen (name ∷ names) (local ∷ locals) lexemes =
    (first line end : ℕ) × (rest : List Lexeme) × (lexemes ≡ declaration first name line end ++ rest) × IsName name × IsNew seen name × (local ≡ local_of line (length seen)) × AreDeclarations (seen ++ (name ∷ [])) names locals rest
AreDeclarations seen names locals lexemes = ⊥

-- the declaration of `putchar`, where there is one
abbrev pub intro_texts : Bool → List (List ℕ)
intro_texts true = codes "int" ∷ codes "putchar" ∷ codes "(" ∷ codes "int" ∷ codes "c" ∷ codes ")" ∷ codes ";" ∷ []
intro_texts false = []

-- the head of `main`, with the brace of its body
abbrev pub head_texts : List (List ℕ)
head_texts = codes "int" ∷ codes "main" ∷ codes "(" ∷ codes "void" ∷ codes ")" ∷ codes "{" ∷ []

-- `main` with these locals and this body
abbrev pub main_of : ℕ → ℕ → List LocalDef → List Stmt → FunctionDef
main_of line count locals body = record { line = line; locals = count; body = stmt.Block locals body }

-- `main`, from its `int` to the brace that ends the file
pub record IsMain (putchar : Bool) (program : PlainProgram) (lexemes : List Lexeme) : Type 0 where
  pub names : List (List ℕ)
  pub locals : List LocalDef
  pub body : List Stmt
  pub head : List Lexeme
  pub declared : List Lexeme
  pub statements : List Lexeme
  pub end : ℕ
  pub spelled : lexemes ≡ head ++ (declared ++ (statements ++ (Mark 125 end ∷ [])))
  pub head_is : map text_of head ≡ head_texts
  pub declared_are : AreDeclarations [] names locals declared
  -- the body nests at most 200 deep, its own braces among it
  pub statements_are : AreStmts (IsStmt names putchar 199) body statements
  pub program_is : program ≡ plain_program (main_of (front_line head) (length names) locals body ∷ []) 0
  pub values : values_of (main_of (front_line head) (length names) locals body) ≤ 256

-- the file has the form, and is this program
pub record HasForm (file : List ℕ) (program : PlainProgram) : Type 0 where
  pub size : length file ≤ 1048576
  pub putchar : Bool
  pub intro : List Lexeme
  pub main : List Lexeme
  pub spelled : lexemes 1 file ≡ intro ++ main
  pub intro_is : map text_of intro ≡ intro_texts putchar
  pub main_is : IsMain putchar program main
