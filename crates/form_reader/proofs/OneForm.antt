-- A file is of one program.
use Rattle.std.proofs.Common.{◌≡◌, ℕ, Bool, true, false, List, [], ◌∷◌, ◌++◌, length, map, refl, sym, ap, subst, ◌∙◌, codes}
use Rattle.form_tree.specs.declared.stmt.LocalDef.{LocalDef}
use Rattle.form_tree.specs.Plain.{PlainProgram, plain_program}
use Rattle.form_reader.specs.Lexemes.{Lexeme, Run, Mark}
use Rattle.form_reader.specs.Grammar.{front_line, AreStmts, IsStmt}
use Rattle.form_reader.specs.Form.{text_of, local_of, declaration, AreDeclarations, intro_texts, main_of, IsMain, HasForm}
use Rattle.form_reader.specs.Reading.{EndsDeclarations}
use Rattle.form_reader.proofs.Fronts.{same_front}
use Rattle.form_reader.proofs.Declaring.{no_stmt_int}
use Rattle.form_reader.proofs.Mains.{both_heads, no_texts}
use Rattle.form_reader.proofs.OneExpr.{fronts}
use Rattle.form_reader.proofs.OneStmt.{stmts_one, stmt_one}

-- the declarations
declared_one :
    (seen names names' : List (List ℕ)) (locals locals' : List LocalDef) (a b x y : List Lexeme) →
    AreDeclarations seen names locals a → AreDeclarations seen names' locals' b → EndsDeclarations x →
    EndsDeclarations y → a ++ x ≡ b ++ y → (names ≡ names') × (locals ≡ locals') × (x ≡ y)
declared_one seen [] [] [] [] a b x y p q ends ends' stands = (refl, refl, fronts a b [] [] x y p q stands)
declared_one seen [] [] [] (d ∷ locals') a b x y p q ends ends' stands = absurd q
declared_one seen [] [] (d ∷ locals) locals' a b x y p q ends ends' stands = absurd p
declared_one seen [] (k ∷ names') (d ∷ locals) locals' a b x y p q ends ends' stands = absurd p
declared_one seen [] (k ∷ names') [] [] a b x y p q ends ends' stands = absurd q
declared_one seen [] (k ∷ names') [] (d ∷ locals') a b x y p (first, line, end, rest, same, is, new, made, others) ends ends' stands =
    absurd (ends first (Run k line ∷ Mark 59 end ∷ (rest ++ y)) (fronts a b [] (declaration first k line end ++ rest) x y p same stands))
declared_one seen (k ∷ names) names' [] locals' a b x y p q ends ends' stands = absurd p
declared_one seen (k ∷ names) [] (d ∷ locals) (d' ∷ locals') a b x y p q ends ends' stands = absurd q
declared_one seen (k ∷ names) [] (d ∷ locals) [] a b x y (first, line, end, rest, same, is, new, made, others) q ends ends' stands =
    absurd (ends' first (Run k line ∷ Mark 59 end ∷ (rest ++ x)) (sym (fronts a b (declaration first k line end ++ rest) [] x y same q stands)))
declared_one seen (k ∷ names) (k' ∷ names') (d ∷ locals) [] a b x y p q ends ends' stands = absurd q
declared_one seen (k ∷ names) (k' ∷ names') (d ∷ locals) (d' ∷ locals') a b x y (first, line, end, rest, same, is, new, made, others) (first', line', end', rest', same', is', new', made', others') ends ends' stands =
    let both : Run (codes "int") first ∷ Run k line ∷ Mark 59 end ∷ (rest ++ x) ≡ Run (codes "int") first' ∷ Run k' line' ∷ Mark 59 end' ∷ (rest' ++ y) = fronts a b (declaration first k line end ++ rest) (declaration first' k' line' end' ++ rest') x y same same' stands in
    let name_is : k ≡ k' = cc in
    let line_is : line ≡ line' = cc in
    let tail : rest ++ x ≡ rest' ++ y = cc in
    let other = subst (λ (name : List ℕ). AreDeclarations (seen ++ (name ∷ [])) names' locals' rest') (sym name_is) others' in
    let found = declared_one (seen ++ (k ∷ [])) names names' locals locals' rest rest' x y others other ends ends' tail in
    let local_is : d ≡ d' = made ∙ (ap (λ (n : ℕ). local_of n (length seen)) line_is ∙ sym made') in
    ((λ i. name_is i ∷ found.0 i), (λ i. local_is i ∷ found.1 i), found.2)

-- `main`
main_one : (putchar : Bool) (p q : PlainProgram) (start : List Lexeme) → IsMain putchar p start → IsMain putchar q start → p ≡ q
main_one putchar p q start m n =
    let after_m = m.statements ++ (Mark 125 m.end ∷ []) in
    let after_n = n.statements ++ (Mark 125 n.end ∷ []) in
    let head = same_front m.head n.head (m.declared ++ after_m) (n.declared ++ after_n) (m.head_is ∙ sym n.head_is) (sym m.spelled ∙ n.spelled) in
    let declared = declared_one [] m.names n.names m.locals n.locals m.declared n.declared after_m after_n m.declared_are n.declared_are
    (no_stmt_int m.names m.locals m.declared m.declared_are putchar 199 m.end m.body m.statements m.statements_are)
    (no_stmt_int n.names n.locals n.declared n.declared_are putchar 199 n.end n.body n.statements n.statements_are) head.1 in
    let are : AreStmts (IsStmt m.names putchar 199) n.body n.statements = subst (λ (names : List (List ℕ)). AreStmts (IsStmt names putchar 199) n.body n.statements) (sym declared.0) n.statements_are in
    let body = stmts_one m.names putchar 199 (stmt_one m.names putchar 199) m.body n.body m.statements n.statements (Mark 125 m.end ∷ []) (Mark 125 n.end ∷ []) m.statements_are are (m.end, [], refl) (n.end, [], refl) declared.2 in
    m.program_is ∙ ((λ i. plain_program (main_of (front_line (head.0 i)) (length (declared.0 i)) (declared.1 i) (body.0 i) ∷ []) 0) ∙ sym n.program_is)

-- a file can't begin with both heads
not_both : (file : List ℕ) (p q : PlainProgram) (h : HasForm file p) (g : HasForm file q) → map text_of h.intro ≡ intro_texts true → map text_of g.intro ≡ intro_texts false → IsMain false q g.main → ⊥
not_both file p q h g with without m =
    both_heads h.intro h.main m.head (m.declared ++ (m.statements ++ (Mark 125 m.end ∷ []))) with m.head_is
    (sym h.spelled ∙ (g.spelled ∙ (ap (λ (x : List Lexeme). x ++ g.main) (no_texts g.intro without) ∙ m.spelled)))

pub form_one : (file : List ℕ) (p q : PlainProgram) → HasForm file p → HasForm file q → p ≡ q
form_one file p q h g = by h.putchar g.putchar h.intro_is g.intro_is h.main_is g.main_is
  where
    by : (putchar other : Bool) → map text_of h.intro ≡ intro_texts putchar → map text_of g.intro ≡ intro_texts other → IsMain putchar p h.main → IsMain other q g.main → p ≡ q
    by true true i j m n =
        let same = same_front h.intro g.intro h.main g.main (i ∙ sym j) (sym h.spelled ∙ g.spelled) in
        main_one true p q h.main m (subst (λ (x : List Lexeme). IsMain true q x) (sym same.1) n)
    by false false i j m n =
        let same : h.main ≡ g.main = fronts h.intro g.intro [] [] h.main g.main (no_texts h.intro i) (no_texts g.intro j) (sym h.spelled ∙ g.spelled) in
        main_one false p q h.main m (subst (λ (x : List Lexeme). IsMain false q x) (sym same) n)
    by true false i j m n = absurd (not_both file p q h g i j n)
    by false true i j m n = absurd (not_both file q p g h j i m)
