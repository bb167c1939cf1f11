-- The grammar of the small form: which lexemes spell an expression or a statement.
--
-- A production says of a tree and a list of lexemes that the list spells the tree. What may stand in
-- it is handed in as a production too, so each line reads as a line of the grammar. The
-- room says how deep brackets, prefix operators, right sides of assignments, and statements under a
-- `while` may still nest. Operators of one rank are a list and nest nothing.
use Rattle.std.specs.Prelude.{◌≡◌, ◌⊎◌, ℕ, ◌<◌, ◌≤◌, zero, suc, Bool, true, false, List, [], ◌∷◌, ◌++◌, length, Option, Some, None, codes, position, if◌then◌else◌, ◌==◌, ◌&&◌, ◌||◌}
use Rattle.std.specs.Fmt.{decimal}
use Rattle.std.specs.Str.{bytes_eq}
use Rattle.filc_num.specs.declared.integer.BinOp.{BinOp}
use Rattle.filc_num.specs.declared.integer.BinOp.TheVariants.{Add, Sub, Mul, Lt}
use Rattle.filc_num.specs.declared.integer.IntType.TheVariants.{I32}
use Rattle.form_tree.specs.declared.expr.Expr.{Expr}
use Rattle.form_tree.specs.declared.expr.Expr.TheVariants as expr
use Rattle.form_tree.specs.declared.expr.Link.{Link, out-Link}
use Rattle.form_tree.specs.declared.stmt.Stmt.{Stmt}
use Rattle.form_tree.specs.declared.stmt.Stmt.TheVariants as stmt
use Rattle.form_reader.specs.Lexemes.{Lexeme, Run, Mark, Twin, begins, is_letter}

-- a production: what spells an expression
abbrev pub ExprSpelling : Type 1
ExprSpelling = Expr → List Lexeme → Type 0

-- the line of the first lexeme
abbrev pub front_line : List Lexeme → ℕ
front_line [] = 0
front_line (Run bytes line ∷ lexemes) = line
front_line (Mark byte line ∷ lexemes) = line
front_line (Twin line ∷ lexemes) = line

-- the operators of a rank: `*`, then `+` and `-`, then `<`
abbrev pub operator_of : ℕ → ℕ → Option BinOp
operator_of rank byte =
    if rank == 1 && byte == 42 then Some Mul
    else (if rank == 2 && byte == 43 then Some Add
    else (if rank == 2 && byte == 45 then Some Sub
    else (if rank == 3 && byte == 60 then Some Lt else None)))

-- operators of a rank, each with the operand behind it
abbrev pub AreLinks : ℕ → ExprSpelling → List Link → List Lexeme → Type 0
AreLinks rank Operand [] lexemes = lexemes ≡ []
AreLinks rank Operand (link ∷ links) lexemes =
    (byte line : ℕ) × (here rest : List Lexeme) × (lexemes ≡ Mark byte line ∷ (here ++ rest)) × (operator_of rank byte ≡ Some (out-Link link).op) × ((out-Link link).ty ≡ I32) × Operand (out-Link link).operand here × AreLinks rank Operand links rest

-- one operand, or operands with operators of a rank between them
pub data IsChain (rank : ℕ) (Operand : ExprSpelling) (e : Expr) (lexemes : List Lexeme) : Type 0 where
  single : Operand e lexemes → IsChain rank Operand e lexemes
  several : (first : Expr) (links : List Link) (here rest : List Lexeme) → lexemes ≡ here ++ rest → e ≡ expr.Chain (front_line here) first links → Operand first here → AreLinks rank Operand links rest → 0 < length links → IsChain rank Operand e lexemes

-- what a rank's operators bind, and all that bind tighter
unfoldable pub IsOfRank : ℕ → ExprSpelling → ExprSpelling
IsOfRank zero Prefix = Prefix
IsOfRank (suc rank) Prefix = IsChain (suc rank) (IsOfRank rank Prefix)

-- a number, or the name of a local
pub data IsLeaf (names : List (List ℕ)) (e : Expr) (lexemes : List Lexeme) : Type 0 where
  number : (n line : ℕ) → n ≤ 2147483647 → lexemes ≡ Run (decimal n) line ∷ [] → e ≡ expr.Number line I32 n → IsLeaf names e lexemes
  local : (bytes : List ℕ) (line local : ℕ) → begins is_letter bytes ≡ true → position (λ name. bytes_eq name bytes) names ≡ Some local → lexemes ≡ Run bytes line ∷ [] → e ≡ expr.Local line I32 local → IsLeaf names e lexemes

-- a leaf, an expression in brackets, or a minus sign with its operand
pub data IsPrefixed (names : List (List ℕ)) (Inner Operand : ExprSpelling) (e : Expr) (lexemes : List Lexeme) : Type 0 where
  leaf : IsLeaf names e lexemes → IsPrefixed names Inner Operand e lexemes
  bracketed : (left right : ℕ) (inner : List Lexeme) → lexemes ≡ Mark 40 left ∷ (inner ++ Mark 41 right ∷ []) → Inner e inner → IsPrefixed names Inner Operand e lexemes
  negated : (line : ℕ) (operand : Expr) (rest : List Lexeme) → lexemes ≡ Mark 45 line ∷ rest → e ≡ expr.Negate line I32 operand → Operand operand rest → IsPrefixed names Inner Operand e lexemes

-- what no operator but a prefix stands in, with room for so much nesting
unfoldable pub IsPrefix : List (List ℕ) → ℕ → ExprSpelling
IsPrefix names zero = IsLeaf names
IsPrefix names (suc room) = IsPrefixed names (IsOfRank 3 (IsPrefix names room)) (IsPrefix names room)

-- an expression
abbrev pub IsExpr : List (List ℕ) → ℕ → ExprSpelling
IsExpr names room = IsOfRank 3 (IsPrefix names room)

-- what spells a statement
abbrev pub StmtSpelling : Type 1
StmtSpelling = Stmt → List Lexeme → Type 0

-- statements, one after another
abbrev pub AreStmts : StmtSpelling → List Stmt → List Lexeme → Type 0
AreStmts IsOne [] lexemes = lexemes ≡ []
AreStmts IsOne (s ∷ rest) lexemes = (here behind : List Lexeme) × (lexemes ≡ here ++ behind) × IsOne s here × AreStmts IsOne rest behind

-- what stands before a closing mark
abbrev pub IsClosed : ℕ → ExprSpelling → ExprSpelling
IsClosed mark Inner e lexemes = (inner : List Lexeme) × (line : ℕ) × (lexemes ≡ inner ++ (Mark mark line ∷ [])) × Inner e inner

-- the words that begin a statement of their own
abbrev pub is_keyword : List ℕ → Bool
is_keyword bytes = bytes_eq bytes (codes "return") || (bytes_eq bytes (codes "while") || bytes_eq bytes (codes "putchar"))

-- a statement that nests nothing
pub data IsFlat (names : List (List ℕ)) (room : ℕ) (s : Stmt) (lexemes : List Lexeme) : Type 0 where
  empty : (line : ℕ) → lexemes ≡ Mark 59 line ∷ [] → s ≡ stmt.Empty → IsFlat names room s lexemes
  returned : (line : ℕ) (value : Expr) (here : List Lexeme) → lexemes ≡ Run (codes "return") line ∷ here → s ≡ stmt.Return line value → IsClosed 59 (IsExpr names room) value here → IsFlat names room s lexemes

-- a statement that nests something, with this room inside it, where `IsOne` is what spells a statement there
pub data IsDeep (names : List (List ℕ)) (putchar : Bool) (room : ℕ) (IsOne : StmtSpelling) (s : Stmt) (lexemes : List Lexeme) : Type 0 where
  assign : (bytes : List ℕ) (line sign local : ℕ) (value : Expr) (here : List Lexeme) → is_keyword bytes ≡ false → position (λ name. bytes_eq name bytes) names ≡ Some local → lexemes ≡ Run bytes line ∷ Mark 61 sign ∷ here → s ≡ stmt.Assign line local value → IsClosed 59 (IsExpr names room) value here → IsDeep names putchar room IsOne s lexemes
  loop : (line left : ℕ) (test : Expr) (body : Stmt) (here behind : List Lexeme) → lexemes ≡ Run (codes "while") line ∷ Mark 40 left ∷ (here ++ behind) → s ≡ stmt.While line test body → IsClosed 41 (IsExpr names room) test here → IsOne body behind → IsDeep names putchar room IsOne s lexemes
  block : (left right : ℕ) (body : List Stmt) (here : List Lexeme) → lexemes ≡ Mark 123 left ∷ (here ++ (Mark 125 right ∷ [])) → s ≡ stmt.Block [] body → AreStmts IsOne body here → IsDeep names putchar room IsOne s lexemes
  put : (line left end : ℕ) (value : Expr) (here : List Lexeme) → putchar ≡ true → lexemes ≡ Run (codes "putchar") line ∷ Mark 40 left ∷ (here ++ (Mark 59 end ∷ [])) → s ≡ stmt.PutChar line value → IsClosed 41 (IsExpr names room) value here → IsDeep names putchar room IsOne s lexemes

-- a statement, with room for so much nesting
unfoldable pub IsStmt : List (List ℕ) → Bool → ℕ → StmtSpelling
IsStmt names putchar zero = IsFlat names zero
IsStmt names putchar (suc room) = λ s lexemes. IsFlat names (suc room) s lexemes ⊎ IsDeep names putchar room (IsStmt names putchar room) s lexemes
