-- What the grammar spells names only the locals that are declared.
use Rattle.std.proofs.Common.{◌≡◌, inl, inr, ℕ, ◌<◌, zero, suc, Bool, List, [], ◌∷◌, length, refl, sym, subst}
use Rattle.std.specs.Prelude.{IsTrue, All, Some, position}
use Rattle.std.specs.Str.{bytes_eq}
use Rattle.std.proofs.lemmas.List.Quantifiers.{position-Some}
use Rattle.std.proofs.lemmas.List.Elements.{All-nil}
use Rattle.filc_num.specs.Integers.{is_promoted}
use Rattle.filc_num.specs.declared.integer.IntType.{IntType}
use Rattle.filc_num.specs.declared.integer.IntType.TheVariants.{I32}
use Rattle.form_tree.specs.declared.expr.Expr.{Expr, Negate, Chain, Row_of-Link, end_of-Link, more_of-Link, items-the_row-Link}
use Rattle.form_tree.specs.declared.expr.Expr.TheBlock.{hidden-the_row-Expr-0, shape-the_row-Expr-0, hidden-the_row-Link-1, items_hidden-the_row-Link-1}
use Rattle.form_tree.specs.declared.expr.Link.{Link, out-Link}
use Rattle.form_tree.specs.declared.stmt.LocalDef.{LocalDef}
use Rattle.form_tree.specs.declared.stmt.Stmt.{Stmt, While, Block, Row_of-Stmt, end_of-Stmt, more_of-Stmt, items-the_row-Stmt}
use Rattle.form_tree.specs.declared.stmt.Stmt.TheBlock.{hidden-the_row-Stmt-0, shape-the_row-Stmt-0, hidden-the_row-Stmt-1, items_hidden-the_row-Stmt-1}
use denote.Hole.Carrier
use Rattle.form_tree.specs.Fits.{ExprFits, LinksFit, StmtFits, StmtsFit}
use Rattle.form_reader.specs.Lexemes.{Lexeme}
use Rattle.form_reader.specs.Grammar.{front_line, ExprSpelling, StmtSpelling, AreLinks, IsChain, single, several, IsOfRank, IsLeaf, number, local, leaf, bracketed, negated, IsPrefix, IsExpr, AreStmts, IsClosed, IsFlat, empty, returned, IsDeep, assign, loop, block, put, IsStmt}

-- the same of the links and statements of a list
abbrev pub ListLinksFit : ℕ → List Link → Type 0
ListLinksFit n [] = Unit {0}
ListLinksFit n (l ∷ links) = IsTrue (is_promoted (out-Link l).ty) × (ExprFits n (out-Link l).operand × ListLinksFit n links)

abbrev pub ListStmtsFit : ℕ → List Stmt → Type 0
ListStmtsFit n [] = Unit {0}
ListStmtsFit n (s ∷ rest) = StmtFits n s × ListStmtsFit n rest

module _ (n : ℕ) where
  links_row : {m : _} (k : Row_of-Link m) → ListLinksFit n (items-the_row-Link _ k) → LinksFit n k
  links_row end_of-Link fit = tt
  links_row (more_of-Link op ty operand rest) (promoted, (first, others)) = (promoted, (first, links_row rest others))

  stmts_row : {m : _} (k : Row_of-Stmt m) → ListStmtsFit n (items-the_row-Stmt _ k) → StmtsFit n k
  stmts_row end_of-Stmt fit = tt
  stmts_row (more_of-Stmt s rest) (first, others) = (first, stmts_row rest others)

  negate_fits : (line : ℕ) (ty : IntType) (e : Expr) → IsTrue (is_promoted ty) → ExprFits n e → ExprFits n (Negate line ty e)
  unfolding hidden-the_row-Expr-0 shape-the_row-Expr-0 Carrier.hidden
  negate_fits line ty e promoted fits = (promoted, fits)

  chain_fits : (line : ℕ) (e : Expr) (links : List Link) → ExprFits n e → ListLinksFit n links → ExprFits n (Chain line e links)
  unfolding hidden-the_row-Expr-0 shape-the_row-Expr-0 Carrier.hidden
  chain_fits line e links first others =
      (first, links_row (hidden-the_row-Link-1 links) (subst (λ (l : List Link). ListLinksFit n l) (sym (items_hidden-the_row-Link-1 links)) others))

  while_fits : (line : ℕ) (test : Expr) (s : Stmt) → ExprFits n test → StmtFits n s → StmtFits n (While line test s)
  unfolding hidden-the_row-Stmt-0 shape-the_row-Stmt-0 Carrier.hidden
  while_fits line test s first body = (first, body)

  pub block_fits : (locals : List LocalDef) (body : List Stmt) → All (λ (d : LocalDef). d.local < n) locals → ListStmtsFit n body → StmtFits n (Block locals body)
  block_fits locals body declared fit =
      (declared, stmts_row (hidden-the_row-Stmt-1 body) (subst (λ (l : List Stmt). ListStmtsFit n l) (sym (items_hidden-the_row-Stmt-1 body)) fit))

position_within : (test : List ℕ → Bool) (names : List (List ℕ)) (i : ℕ) → position test names ≡ Some i → i < length names
position_within test names i found = (position-Some test names i [] found).0

module _ (names : List (List ℕ)) where
  leaf_fits : (e : Expr) (here : List Lexeme) → IsLeaf names e here → ExprFits (length names) e
  leaf_fits e here (number n line within spelled is) = subst (λ (x : Expr). ExprFits (length names) x) (sym is) tt
  leaf_fits e here (local bytes line l letter known spelled is) =
      subst (λ (x : Expr). ExprFits (length names) x) (sym is) (position_within (λ name. bytes_eq name bytes) names l known)

  module _ (Operand : ExprSpelling) (fits : (e : Expr) (here : List Lexeme) → Operand e here → ExprFits (length names) e) where
    links_fit : (rank : ℕ) (links : List Link) (here : List Lexeme) → AreLinks rank Operand links here → ListLinksFit (length names) links
    links_fit rank [] here none = tt
    links_fit rank (l ∷ links) here (byte, line, front, rest, same, op, ty, one, others) =
        (subst (λ (t : IntType). IsTrue (is_promoted t)) (sym ty) refl, (fits (out-Link l).operand front one, links_fit rank links rest others))

    ranked_chain : (rank : ℕ) (e : Expr) (here : List Lexeme) → IsChain rank Operand e here → ExprFits (length names) e
    ranked_chain rank e here (single one) = fits e here one
    ranked_chain rank e here (several first links front rest same is one others some) =
        subst (λ (x : Expr). ExprFits (length names) x) (sym is) (chain_fits (length names) (front_line front) first links (fits first front one) (links_fit rank links rest others))

  rank_fits : (rank : ℕ) (Prefix : ExprSpelling) → ((e : Expr) (here : List Lexeme) → Prefix e here → ExprFits (length names) e) → (e : Expr) (here : List Lexeme) → IsOfRank rank Prefix e here → ExprFits (length names) e
  unfolding IsOfRank
  rank_fits zero Prefix fits e here one = fits e here one
  rank_fits (suc rank) Prefix fits e here one = ranked_chain (IsOfRank rank Prefix) (rank_fits rank Prefix fits) (suc rank) e here one

  prefix_fits : (room : ℕ) (e : Expr) (here : List Lexeme) → IsPrefix names room e here → ExprFits (length names) e
  unfolding IsPrefix
  prefix_fits zero e here one = leaf_fits e here one
  prefix_fits (suc room) e here (leaf one) = leaf_fits e here one
  prefix_fits (suc room) e here (bracketed left right inner same one) = rank_fits 3 (IsPrefix names room) (prefix_fits room) e inner one
  prefix_fits (suc room) e here (negated line operand rest same is one) =
      subst (λ (x : Expr). ExprFits (length names) x) (sym is) (negate_fits (length names) line I32 operand refl (prefix_fits room operand rest one))

  closed_fits : (mark room : ℕ) (e : Expr) (here : List Lexeme) → IsClosed mark (IsExpr names room) e here → ExprFits (length names) e
  closed_fits mark room e here (inner, line, same, one) = rank_fits 3 (IsPrefix names room) (prefix_fits room) e inner one

  flat_fits : (room : ℕ) (s : Stmt) (here : List Lexeme) → IsFlat names room s here → StmtFits (length names) s
  flat_fits room s here (empty line same is) = subst (λ (x : Stmt). StmtFits (length names) x) (sym is) tt
  flat_fits room s here (returned line value front same is one) = subst (λ (x : Stmt). StmtFits (length names) x) (sym is) (closed_fits 59 room value front one)

  pub stmts_fit : (IsOne : StmtSpelling) → ((s : Stmt) (here : List Lexeme) → IsOne s here → StmtFits (length names) s) → (list : List Stmt) (here : List Lexeme) → AreStmts IsOne list here → ListStmtsFit (length names) list
  stmts_fit IsOne fits [] here none = tt
  stmts_fit IsOne fits (s ∷ list) here (front, behind, same, one, others) = (fits s front one, stmts_fit IsOne fits list behind others)

  deep_fits : (putchar : Bool) (room : ℕ) (IsOne : StmtSpelling) → ((s : Stmt) (here : List Lexeme) → IsOne s here → StmtFits (length names) s) → (s : Stmt) (here : List Lexeme) → IsDeep names putchar room IsOne s here → StmtFits (length names) s
  deep_fits putchar room IsOne fits s here (assign bytes line sign l value front other known same is one) =
      subst (λ (x : Stmt). StmtFits (length names) x) (sym is) (position_within (λ name. bytes_eq name bytes) names l known, closed_fits 59 room value front one)
  deep_fits putchar room IsOne fits s here (loop line left test body front behind same is one inner) =
      subst (λ (x : Stmt). StmtFits (length names) x) (sym is) (while_fits (length names) line test body (closed_fits 41 room test front one) (fits body behind inner))
  deep_fits putchar room IsOne fits s here (block left right body front same is are) =
      subst (λ (x : Stmt). StmtFits (length names) x) (sym is) (block_fits (length names) [] body (All-nil (λ (d : LocalDef). d.local < length names)) (stmts_fit IsOne fits body front are))
  deep_fits putchar room IsOne fits s here (put line left end value front may same is one) =
      subst (λ (x : Stmt). StmtFits (length names) x) (sym is) (closed_fits 41 room value front one)

  pub stmt_fits : (putchar : Bool) (room : ℕ) (s : Stmt) (here : List Lexeme) → IsStmt names putchar room s here → StmtFits (length names) s
  unfolding IsStmt
  stmt_fits putchar zero s here one = flat_fits zero s here one
  stmt_fits putchar (suc room) s here (inl one) = flat_fits (suc room) s here one
  stmt_fits putchar (suc room) s here (inr one) = deep_fits putchar room (IsStmt names putchar room) (stmt_fits putchar room) s here one
