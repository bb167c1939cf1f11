-- A list of lexemes spells one statement and one block.
use Rattle.std.proofs.Common.{◌≡◌, ℕ, ◌-◌, ◌<◌, ◌⊎◌, inl, inr, zero, suc, Bool, false, List, [], ◌∷◌, ◌++◌, refl, sym, ap, subst, ◌∙◌, arith, append_assoc, codes}
use Rattle.std.specs.Prelude.{Some, position}
use Rattle.std.specs.Str.{bytes_eq}
use Rattle.std.proofs.lemmas.List.{append_cancel_right}
use Rattle.form_tree.specs.declared.expr.Expr.{Expr}
use Rattle.form_tree.specs.declared.stmt.Stmt.{Stmt}
use Rattle.form_tree.specs.declared.stmt.Stmt.TheVariants as stmt
use Rattle.form_reader.specs.Lexemes.{Lexeme, Run, Mark}
use Rattle.form_reader.specs.Grammar.{IsExpr, AreStmts, IsClosed, is_keyword, IsStmt}
use Rattle.form_reader.specs.Reading.{EndsAnywhere, EndsBlock}
use Rattle.form_reader.proofs.Worded.{WordCase, return_case, assign_case, loop_case, put_case, MarkCase, empty_case, block_case, word_case, mark_case, stmt_front, no_keyword, differ}
use Rattle.form_reader.proofs.OneExpr.{IsOne, fronts, bracket_one, semicolon_one}

module _ (names : List (List ℕ)) (putchar : Bool) where
  -- ---- statements, up to a brace

  module _ (room : ℕ) (one : IsOne Stmt (IsStmt names putchar room) EndsAnywhere) where
    -- no statement begins with a closing brace
    no_brace : (s : Stmt) (here x y : List Lexeme) → IsStmt names putchar room s here → EndsBlock x → x ≡ here ++ y → ⊥
    no_brace s here x y is (line, rest, brace) same = by (stmt_front names putchar room s here is)
      where
        by : ((bytes : List ℕ) × (l : ℕ) × (more : List Lexeme) × (here ≡ Run bytes l ∷ more)) ⊎ ((byte l : ℕ) × (more : List Lexeme) × ((byte ≡ 59) ⊎ (byte ≡ 123)) × (here ≡ Mark byte l ∷ more)) → ⊥
        by (inl (bytes, l, more, front)) =
            let clash : Mark 125 line ∷ rest ≡ Run bytes l ∷ (more ++ y) = sym brace ∙ (same ∙ ap (λ (t : List Lexeme). t ++ y) front) in
            cc
        by (inr (byte, l, more, inl is, front)) =
            let both : Mark 125 line ∷ rest ≡ Mark byte l ∷ (more ++ y) = sym brace ∙ (same ∙ ap (λ (t : List Lexeme). t ++ y) front) in
            let byte_is : 125 ≡ byte = cc in
            omega (arith, byte_is, is)
        by (inr (byte, l, more, inr is, front)) =
            let both : Mark 125 line ∷ rest ≡ Mark byte l ∷ (more ++ y) = sym brace ∙ (same ∙ ap (λ (t : List Lexeme). t ++ y) front) in
            let byte_is : 125 ≡ byte = cc in
            omega (arith, byte_is, is)

    pub stmts_one : IsOne (List Stmt) (AreStmts (IsStmt names putchar room)) EndsBlock
    stmts_one [] [] a b x y p q ends ends' stands = (refl, p ∙ sym q, fronts a b [] [] x y p q stands)
    stmts_one [] (s ∷ more) a b x y p (here, after, same, is, others) ends ends' stands =
        absurd (no_brace s here x (after ++ y) is ends (fronts a b [] (here ++ after) x y p same stands ∙ append_assoc here after y))
    stmts_one (s ∷ more) [] a b x y (here, after, same, is, others) q ends ends' stands =
        absurd (no_brace s here y (after ++ x) is ends' (sym (fronts a b (here ++ after) [] x y same q stands) ∙ append_assoc here after x))
    stmts_one (s ∷ more) (s' ∷ more') a b x y (here, after, same, is, others) (here', after', same', is', others') ends ends' stands =
        let split : here ++ (after ++ x) ≡ here' ++ (after' ++ y) = sym (append_assoc here after x) ∙ (fronts a b (here ++ after) (here' ++ after') x y same same' stands ∙ append_assoc here' after' y) in
        let first = one s s' here here' (after ++ x) (after' ++ y) is is' tt tt split in
        let rest = stmts_one more more' after after' x y others others' ends ends' first.2 in
        ((λ i. first.0 i ∷ rest.0 i), same ∙ ((λ i. first.1 i ++ rest.1 i) ∙ sym same'), rest.2)

  -- ---- a statement, with what stands inside it

  module _ (room : ℕ) (inside : 0 < room → IsOne Stmt (IsStmt names putchar (room - 1)) EndsAnywhere) where
    module _ (s u : Stmt) (x y : List Lexeme) where
      module _ (bytes : List ℕ) (line : ℕ) (start : List Lexeme) where
        after_return :
            (value : Expr) (here : List Lexeme) → bytes ≡ codes "return" → start ≡ here ++ x →
            s ≡ stmt.Return line value → IsClosed 59 (IsExpr names room) value here →
            WordCase names putchar room u bytes line start y → (s ≡ u) × (x ≡ y)
        after_return value here word split made closed (return_case value' here' word' split' made' closed') =
            let found = semicolon_one names room value value' here here' x y closed closed' tt tt (sym split ∙ split') in
            (made ∙ (ap (stmt.Return line) found.0 ∙ sym made'), found.2)
        after_return value here word split made closed (assign_case sign local value' here' some other known split' made' closed') =
            absurd (no_keyword bytes (codes "return") refl word other)
        after_return value here word split made closed (loop_case left test body here' last some word' split' made' closed' is) =
            absurd (differ bytes (codes "return") (codes "while") refl refl word word')
        after_return value here word split made closed (put_case left end value' here' some word' there split' made' closed') =
            absurd (differ bytes (codes "return") (codes "putchar") refl refl word word')

        after_assign :
            (sign local : ℕ) (value : Expr) (here : List Lexeme) → is_keyword bytes ≡ false →
            position (λ name. bytes_eq name bytes) names ≡ Some local → start ≡ Mark 61 sign ∷ (here ++ x) →
            s ≡ stmt.Assign line local value → IsClosed 59 (IsExpr names (room - 1)) value here →
            WordCase names putchar room u bytes line start y → (s ≡ u) × (x ≡ y)
        after_assign sign local value here other known split made closed (return_case value' here' word split' made' closed') =
            absurd (no_keyword bytes (codes "return") refl word other)
        after_assign sign local value here other known split made closed (assign_case sign' local' value' here' some other' known' split' made' closed') =
            let both : Mark 61 sign ∷ (here ++ x) ≡ Mark 61 sign' ∷ (here' ++ y) = sym split ∙ split' in
            let tail : here ++ x ≡ here' ++ y = cc in
            let found = semicolon_one names (room - 1) value value' here here' x y closed closed' tt tt tail in
            let locals : Some local ≡ Some local' = sym known ∙ known' in
            let local_is : local ≡ local' = cc in
            (made ∙ ((λ i. stmt.Assign line (local_is i) (found.0 i)) ∙ sym made'), found.2)
        after_assign sign local value here other known split made closed (loop_case left test body here' last some word split' made' closed' is) =
            absurd (no_keyword bytes (codes "while") refl word other)
        after_assign sign local value here other known split made closed (put_case left end value' here' some word there split' made' closed') =
            absurd (no_keyword bytes (codes "putchar") refl word other)

        after_loop :
            (left : ℕ) (test : Expr) (body : Stmt) (here last : List Lexeme) → bytes ≡ codes "while" →
            start ≡ Mark 40 left ∷ (here ++ (last ++ x)) → s ≡ stmt.While line test body →
            IsClosed 41 (IsExpr names (room - 1)) test here → IsStmt names putchar (room - 1) body last →
            WordCase names putchar room u bytes line start y → (s ≡ u) × (x ≡ y)
        after_loop left test body here last word split made closed is (return_case value' here' word' split' made' closed') =
            absurd (differ bytes (codes "while") (codes "return") refl refl word word')
        after_loop left test body here last word split made closed is (assign_case sign local value' here' some other known split' made' closed') =
            absurd (no_keyword bytes (codes "while") refl word other)
        after_loop left test body here last word split made closed is (loop_case left' test' body' here' last' some word' split' made' closed' is') =
            let both : Mark 40 left ∷ (here ++ (last ++ x)) ≡ Mark 40 left' ∷ (here' ++ (last' ++ y)) = sym split ∙ split' in
            let tail : here ++ (last ++ x) ≡ here' ++ (last' ++ y) = cc in
            let found = bracket_one names (room - 1) test test' here here' (last ++ x) (last' ++ y) closed closed' tt tt tail in
            let body_one = inside some body body' last last' x y is is' tt tt found.2 in
            (made ∙ ((λ i. stmt.While line (found.0 i) (body_one.0 i)) ∙ sym made'), body_one.2)
        after_loop left test body here last word split made closed is (put_case left' end value' here' some word' there split' made' closed') =
            absurd (differ bytes (codes "while") (codes "putchar") refl refl word word')

        after_put :
            (left end : ℕ) (value : Expr) (here : List Lexeme) → bytes ≡ codes "putchar" →
            start ≡ Mark 40 left ∷ (here ++ (Mark 59 end ∷ x)) → s ≡ stmt.PutChar line value →
            IsClosed 41 (IsExpr names (room - 1)) value here →
            WordCase names putchar room u bytes line start y → (s ≡ u) × (x ≡ y)
        after_put left end value here word split made closed (return_case value' here' word' split' made' closed') =
            absurd (differ bytes (codes "putchar") (codes "return") refl refl word word')
        after_put left end value here word split made closed (assign_case sign local value' here' some other known split' made' closed') =
            absurd (no_keyword bytes (codes "putchar") refl word other)
        after_put left end value here word split made closed (loop_case left' test body here' last some word' split' made' closed' is) =
            absurd (differ bytes (codes "putchar") (codes "while") refl refl word word')
        after_put left end value here word split made closed (put_case left' end' value' here' some word' there split' made' closed') =
            let both : Mark 40 left ∷ (here ++ (Mark 59 end ∷ x)) ≡ Mark 40 left' ∷ (here' ++ (Mark 59 end' ∷ y)) = sym split ∙ split' in
            let tail : here ++ (Mark 59 end ∷ x) ≡ here' ++ (Mark 59 end' ∷ y) = cc in
            let found = bracket_one names (room - 1) value value' here here' (Mark 59 end ∷ x) (Mark 59 end' ∷ y) closed closed' tt tt tail in
            let last : Mark 59 end ∷ x ≡ Mark 59 end' ∷ y = found.2 in
            let rest : x ≡ y = cc in
            (made ∙ (ap (stmt.PutChar line) found.0 ∙ sym made'), rest)

        words_one : WordCase names putchar room s bytes line start x → WordCase names putchar room u bytes line start y → (s ≡ u) × (x ≡ y)
        words_one (return_case value here word split made closed) q = after_return value here word split made closed q
        words_one (assign_case sign local value here some other known split made closed) q = after_assign sign local value here other known split made closed q
        words_one (loop_case left test body here last some word split made closed is) q = after_loop left test body here last word split made closed is q
        words_one (put_case left end value here some word there split made closed) q = after_put left end value here word split made closed q

      marks_one : (byte : ℕ) (start : List Lexeme) → MarkCase names putchar room s byte start x → MarkCase names putchar room u byte start y → (s ≡ u) × (x ≡ y)
      marks_one byte start (empty_case is made split) (empty_case is' made' split') = (made ∙ sym made', sym split ∙ split')
      marks_one byte start (empty_case is made split) (block_case right body here some is' split' made' are) = absurd (omega (arith, is, is'))
      marks_one byte start (block_case right body here some is split made are) (empty_case is' made' split') = absurd (omega (arith, is, is'))
      marks_one byte start (block_case right body here some is split made are) (block_case right' body' here' some' is' split' made' are') =
          let found = stmts_one (room - 1) (inside some) body body' here here' (Mark 125 right ∷ x) (Mark 125 right' ∷ y) are are' (right, x, refl) (right', y, refl) (sym split ∙ split') in
          let last : Mark 125 right ∷ x ≡ Mark 125 right' ∷ y = found.2 in
          let rest : x ≡ y = cc in
          (made ∙ (ap (stmt.Block []) found.0 ∙ sym made'), rest)

      module _ (a b : List Lexeme) (p : IsStmt names putchar room s a) (q : IsStmt names putchar room u b) (stands : a ++ x ≡ b ++ y) where
        with_fronts : (s ≡ u) × (x ≡ y) → (s ≡ u) × (a ≡ b) × (x ≡ y)
        with_fronts same = (same.0, append_cancel_right a b y (subst (λ (z : List Lexeme). a ++ z ≡ b ++ y) same.1 stands), same.1)

        stmts_same : (s ≡ u) × (a ≡ b) × (x ≡ y)
        stmts_same = by (stmt_front names putchar room s a p)
          where
            by :
                ((bytes : List ℕ) × (line : ℕ) × (more : List Lexeme) × (a ≡ Run bytes line ∷ more)) ⊎ ((byte line : ℕ) × (more : List Lexeme) × ((byte ≡ 59) ⊎ (byte ≡ 123)) × (a ≡ Mark byte line ∷ more)) →
                (s ≡ u) × (a ≡ b) × (x ≡ y)
            by (inl (bytes, line, more, front)) =
                let here : Run bytes line ∷ (more ++ x) ≡ a ++ x = sym (ap (λ (t : List Lexeme). t ++ x) front) in
                with_fronts
                (words_one bytes line (more ++ x) (word_case names putchar room s a x (more ++ x) bytes line p here)
                (word_case names putchar room u b y (more ++ x) bytes line q (here ∙ stands)))
            by (inr (byte, line, more, which, front)) =
                let here : Mark byte line ∷ (more ++ x) ≡ a ++ x = sym (ap (λ (t : List Lexeme). t ++ x) front) in
                with_fronts
                (marks_one byte (more ++ x) (mark_case names putchar room s a x (more ++ x) byte line p here)
                (mark_case names putchar room u b y (more ++ x) byte line q (here ∙ stands)))

    stmt_step : IsOne Stmt (IsStmt names putchar room) EndsAnywhere
    stmt_step s u a b x y p q any any' stands = stmts_same s u x y a b p q stands

  pub stmt_one : (room : ℕ) → IsOne Stmt (IsStmt names putchar room) EndsAnywhere
  stmt_one zero = stmt_step zero (λ some. absurd (omega (arith, some)))
  stmt_one (suc room) =
      let less : room ≡ suc room - 1 = omega arith in
      stmt_step (suc room) (λ some. subst (λ (n : ℕ). IsOne Stmt (IsStmt names putchar n) EndsAnywhere) less (stmt_one room))
