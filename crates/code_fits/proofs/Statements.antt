-- The code of every statement that fits is well formed.
use Rattle.std.proofs.Common.{◌≡◌, ℕ, zero, suc, ◌+◌, ◌<◌, ◌≤◌, List, [], ◌∷◌, ◌++◌, length, All, Bool, Option, Some, None, refl, arith}
use Rattle.std.specs.Prelude.{max}
use Rattle.std.proofs.lemmas.List.Elements.{All-head, All-tail}
use Rattle.filc_num.specs.declared.integer.BinOp.TheVariants.{Ne}
use Rattle.filc_num.specs.declared.integer.IntType.TheVariants.{U64}
use Rattle.c_tree.specs.declared.expr.Expr.{Expr}
use Rattle.c_tree.specs.declared.stmt.LocalDef.{LocalDef}
use Rattle.c_tree.specs.declared.stmt.LocalKind.{LocalKind}
use Rattle.c_tree.specs.declared.stmt.LocalKind.TheVariants as kind
use Rattle.c_tree.specs.declared.stmt.Case.{Case}
use Rattle.c_tree.specs.declared.stmt.Stmt.{Stmt, Run, Block', If', Loop', BreakUnless, Break, Continue, Switch', Return as ReturnStmt, Row_of-Stmt, end_of-Stmt, more_of-Stmt}
use Rattle.c_tree.specs.Operands.{Outline, Context}
use Rattle.c_tree.specs.Fits.{StmtFits, StmtsFit, OptionalFits, LocalsFit, after_kind, in_block, in_loop, behind_body, in_switch, statements_in}
use Rattle.c_tree.specs.Temps.{temps_of, stmt_temps, stmts_temps, optional_temps}
use Rattle.whole_code.specs.declared.op.Op.{Op}
use Rattle.whole_code.specs.declared.op.Op.TheVariants.{Const, Move, Home, Jump, JumpZero, Return}
use Rattle.whole_code.specs.declared.op.Instruction.{Instruction}
use Rattle.whole_code.specs.Plain.{PlainFunction}
use Rattle.whole_code.specs.WellFormed.{Named}
use Rattle.expr_gen.specs.Operations.{at_line, store_op}
use Rattle.expr_gen.specs.Code.{instructions, expr_size, expr_code}
use Rattle.stmt_gen.specs.Code.{Exits, local_ops, locals_size, locals_code, case_ops, cases_size, cases_code, switch_exits, loop_exits, return_size, return_code, stmt_size, stmts_size, index_in, stmt_code, stmts_code}
use Rattle.stmt_gen.proofs.Blocks.{block_locals}
use Rattle.code_fits.specs.Formed.{named_by, AreFormed, StatementsAreFormed}
use Rattle.code_fits.proofs.Instructions.{AreOps, formed, binary_formed, store_formed}
use Rattle.code_fits.proofs.Expressions.{none, and_then, one, joined, of_line, branch_formed, temps_pos, expr_formed}

-- a statement of a row begins before the row's end
index_within : {m : _} (row : Row_of-Stmt m) (statement at : ℕ) → index_in row statement at ≤ at + stmts_size row
index_within row zero at = omega arith
index_within end_of-Stmt (suc n) at = omega arith
index_within (more_of-Stmt s rest) (suc n) at = omega (arith, index_within rest n (at + stmt_size s))

module _ (outline : Outline) (f : PlainFunction) (library : Bool) (t : ℕ) (wide : t + 6 ≤ f.values) where
  abbrev n : Named
  n = named_by outline

  abbrev Are : List Instruction → Type 0
  Are code = AreFormed n f code

  abbrev Inside : ℕ → Type 0
  Inside index = index < length f.instructions

  local_formed : (begins : LocalKind) (d line : ℕ) → d < t → Are (instructions library line (local_ops begins d t))
  local_formed kind.Zero d line lt =
      let h : d < f.values = omega arith in
      of_line n f library line (Const d 0 ∷ []) (formed n f (Const d 0) tt (h, tt) tt tt tt, tt)
  local_formed (kind.Home bytes) d line lt =
      let h : d < f.values = omega arith in
      of_line n f library line (Home d bytes ∷ []) (formed n f (Home d bytes) tt (h, tt) tt tt tt, tt)
  local_formed (kind.Moved bytes lies) d line lt =
      let h : d < f.values = omega arith in
      let ht : t < f.values = omega arith in
      of_line n f library line (Home t bytes ∷ store_op lies t d ∷ Move d t ∷ [])
      (formed n f (Home t bytes) tt (ht, tt) tt tt tt, (store_formed n f lies t d ht h, (formed n f (Move d t) (ht, tt) (h, tt) tt tt tt, tt)))

  locals_formed : (here : Context) (locals : List LocalDef) → LocalsFit here locals → here.locals ≤ t → Are (locals_code library locals t)
  locals_formed here [] fit le = none n f
  locals_formed here (d ∷ locals) fit le =
      joined n f (instructions library d.line (local_ops d.kind d.local t)) (locals_code library locals t) (local_formed d.kind d.local d.line (omega (arith, fit.0.0.0)))
      (locals_formed (after_kind d.local d.kind here) locals fit.1 (omega (arith, block_locals here (d ∷ []), le)))

  cases_formed :
      (line : ℕ) (index_of : ℕ → ℕ) (cases : List Case) → ((c : ℕ) → Inside (index_of c)) → Are (cases_code library line t index_of cases)
  cases_formed line index_of [] inside = none n f
  cases_formed line index_of (c ∷ cases) inside =
      let h : t < f.values = omega arith in
      let h1 : t + 1 < f.values = omega arith in
      joined n f (instructions library line (case_ops c.value t (index_of c.statement))) (cases_code library line t index_of cases)
      (of_line n f library line (case_ops c.value t (index_of c.statement)) (
        formed n f (Const (t + 1) c.value) tt (h1, tt) tt tt tt,
        (
          binary_formed n f Ne U64 (t + 1) t (t + 1) h1 h h1 refl,
          (formed n f (JumpZero (t + 1) (index_of c.statement)) (h1, tt) tt (inside c.statement) tt tt, tt),
        ),
      ))
      (cases_formed line index_of cases inside)

  return_formed :
      (here : Context) (line : ℕ) (value : Option Expr) (at : ℕ) → OptionalFits outline here value → here.locals ≤ t → t + optional_temps value + 6 ≤ f.values →
      Inside (at + return_size value) → Are (return_code library line value t at)
  return_formed here line None at fit le room inside =
      let h : t < f.values = omega arith in
      and_then n f (at_line library line (Const t 0)) (at_line library line (Return t) ∷ []) (formed n f (Const t 0) tt (h, tt) tt tt tt)
      (one n f (at_line library line (Return t)) (formed n f (Return t) (h, tt) tt tt tt tt))
  return_formed here line (Some value) at fit le room inside =
      let h : t < f.values = omega arith in
      joined n f (expr_code library value t at) (at_line library line (Return t) ∷ []) (expr_formed outline here f library value t at fit le room (omega arith))
      (one n f (at_line library line (Return t)) (formed n f (Return t) (h, tt) tt tt tt tt))

  mutual
    pub stmt_formed :
        (here : Context) (s : Stmt) (at : ℕ) (x : Exits) → StmtFits outline here s → here.locals ≤ t → t + stmt_temps s + 6 ≤ f.values → Inside (at + stmt_size s) →
        Inside x.broke → Inside x.continued → Are (stmt_code library s t at x)
    stmt_formed here (Run value) at x fit le room inside hb hc = expr_formed outline here f library value t at fit le room inside
    stmt_formed here (Block' locals z body) at x fit le room inside hb hc =
        joined n f (locals_code library locals t) (stmts_code library body t (at + locals_size locals) x) (locals_formed here locals fit.0 le)
        (stmts_formed (in_block here locals) body (at + locals_size locals) x fit.1 (omega (arith, block_locals here locals, le)) room (omega arith) hb hc)
    stmt_formed here (If' line test s (more_of-Stmt one' end_of-Stmt) s1 (more_of-Stmt other end_of-Stmt)) at x fit le room inside hb hc =
        branch_formed n f library line t at (expr_size test) (stmt_size one') (stmt_size other)
        (expr_code library test t at) (stmt_code library one' t (at + expr_size test + 1) x) (stmt_code library other t (at + expr_size test + 1 + stmt_size one' + 1) x)
        (omega arith) inside
        (expr_formed outline here f library test t at fit.0 le (omega arith) (omega arith))
        (stmt_formed here one' (at + expr_size test + 1) x fit.1.0 le (omega arith) (omega arith) hb hc)
        (stmt_formed here other (at + expr_size test + 1 + stmt_size one' + 1) x fit.1.1 le (omega arith) (omega arith) hb hc)
    stmt_formed here (Loop' line s (more_of-Stmt body end_of-Stmt) s1 (more_of-Stmt next end_of-Stmt)) at x fit le room inside hb hc =
        let p1 = at + stmt_size body in
        let p2 = at + stmt_size body + stmt_size next in
        let cb = stmt_code library body t at (loop_exits p1 p2) in
        let cn = stmt_code library next t p1 (loop_exits p2 p2) in
        let j = at_line library line (Jump at) in
        let start : Inside at = omega arith in
        let middle : Inside p1 = omega arith in
        let back : Inside p2 = omega arith in
        let end : Inside (p2 + 1) = omega arith in
        joined n f cb (cn ++ j ∷ []) (stmt_formed (in_loop here) body at (loop_exits p1 p2) fit.0 le (omega arith) middle end middle)
        (joined n f cn (j ∷ []) (stmt_formed (behind_body here) next p1 (loop_exits p2 p2) fit.1 le (omega arith) back end back)
        (one n f j (formed n f (Jump at) tt tt start tt tt)))
    stmt_formed here (BreakUnless line test) at x fit le room inside hb hc =
        let h : t < f.values = omega arith in
        joined n f (expr_code library test t at) (at_line library line (JumpZero t x.broke) ∷ []) (expr_formed outline here f library test t at fit.1 le room (omega arith))
        (one n f (at_line library line (JumpZero t x.broke)) (formed n f (JumpZero t x.broke) (h, tt) tt hb tt tt))
    stmt_formed here (Break line) at x fit le room inside hb hc = one n f (at_line library line (Jump x.broke)) (formed n f (Jump x.broke) tt tt hb tt tt)
    stmt_formed here (Continue line) at x fit le room inside hb hc =
        one n f (at_line library line (Jump x.continued)) (formed n f (Jump x.continued) tt tt hc tt tt)
    stmt_formed here (Switch' line value cases other z body) at x fit le room inside hb hc =
        let p = at + expr_size value + cases_size cases + 1 in
        let x1 = switch_exits (p + stmts_size body) x in
        let index_of = λ (i : ℕ). index_in body i p in
        let cv = expr_code library value t at in
        let cc = cases_code library line t index_of cases in
        let jo = at_line library line (Jump (index_of other)) in
        let cs = stmts_code library body t p x1 in
        let end : Inside (p + stmts_size body) = omega arith in
        let there : (i : ℕ) → Inside (index_of i) = λ i. omega (arith, index_within body i p, end) in
        joined n f cv (cc ++ (jo ∷ cs)) (expr_formed outline here f library value t at fit.0 le (omega arith) (omega arith))
        (joined n f cc (jo ∷ cs) (cases_formed line index_of cases there)
        (and_then n f jo cs (formed n f (Jump (index_of other)) tt tt (there other) tt tt)
        (stmts_formed (in_switch here) body p x1 fit.1.1.1 le (omega arith) end end hc)))
    stmt_formed here (ReturnStmt line value) at x fit le room inside hb hc = return_formed here line value at fit le room inside

    stmts_formed :
        {m : _} (here : Context) (row : Row_of-Stmt m) (at : ℕ) (x : Exits) → StmtsFit outline here row → here.locals ≤ t → t + stmts_temps row + 6 ≤ f.values → Inside (at + stmts_size row) →
        Inside x.broke → Inside x.continued → Are (stmts_code library row t at x)
    stmts_formed here end_of-Stmt at x fit le room inside hb hc = none n f
    stmts_formed here (more_of-Stmt s rest) at x fit le room inside hb hc =
        joined n f (stmt_code library s t at x) (stmts_code library rest t (at + stmt_size s) x)
        (stmt_formed here s at x fit.0 le (omega arith) (omega arith) hb hc) (stmts_formed here rest (at + stmt_size s) x fit.1 le (omega arith) (omega arith) hb hc)

pub statements_are_formed : StatementsAreFormed
statements_are_formed outline here f library s t at x fit le room inside hb hc = stmt_formed outline f library t (omega arith) here s at x fit le (omega arith) inside hb hc
