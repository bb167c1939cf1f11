-- How the readers of statements are put together.
use Rattle.std.proofs.Common.{◌≡◌, ℕ, ◌-◌, ◌<◌, ◌⊎◌, inl, inr, zero, suc, Bool, true, false, List, [], ◌∷◌, ◌++◌, refl, sym, ap, subst, ◌∙◌, arith, append_assoc, codes}
use Rattle.std.specs.Prelude.{Some, None, Ok, Err, position}
use Rattle.std.specs.Str.{bytes_eq}
use Rattle.std.proofs.lemmas.Bool.{false≢true}
use Rattle.form_tree.specs.declared.expr.Expr.{Expr}
use Rattle.form_tree.specs.declared.stmt.Stmt.{Stmt}
use Rattle.form_tree.specs.declared.stmt.Stmt.TheVariants as stmt
use Rattle.form_reader.specs.declared.form.ReadFault.{ReadFault}
use Rattle.form_reader.specs.declared.form.ReadFault.TheVariants.{NotForm}
use Rattle.form_reader.specs.Lexemes.{Lexeme, Run, Mark}
use Rattle.form_reader.specs.Grammar.{IsExpr, AreStmts, IsClosed, is_keyword, IsFlat, empty, returned, IsDeep, assign, loop, block, put, IsStmt}
use Rattle.form_reader.specs.Reading.{Reads, EndsRank, EndsAnywhere}
use Rattle.form_reader.proofs.Composed.{same_fault}

-- ---- an expression and the mark that closes it

module _ (names : List (List ℕ)) (room mark : ℕ) (ends : (line : ℕ) (rest : List Lexeme) → EndsRank 3 (Mark mark line ∷ rest)) (start middle : List Lexeme) where
  -- where a derivation has the mark
  closes : (inner rest : List Lexeme) (line : ℕ) (here : List Lexeme) → here ≡ inner ++ (Mark mark line ∷ []) → start ≡ here ++ rest → start ≡ inner ++ (Mark mark line ∷ rest)
  closes inner rest line here same stands = stands ∙ (ap (λ (x : List Lexeme). x ++ rest) same ∙ append_assoc inner (Mark mark line ∷ []) rest)

  pub closed_fails : (fault : ReadFault) → Reads (IsExpr names room) (EndsRank 3) (Err fault) start middle → Reads (IsClosed mark (IsExpr names room)) EndsAnywhere (Err fault) start middle
  closed_fails fault r =
      record {
        found = tt;
        only = λ e here rest (inner, line, same, is) any stands. same_fault fault middle e (Mark mark line ∷ rest) middle e rest (r.only e inner (Mark mark line ∷ rest) is (ends line rest) (closes inner rest line here same stands));
      }

  pub closed_read : (f : Expr) (new : List Lexeme) (line : ℕ) → Reads (IsExpr names room) (EndsRank 3) (Ok f) start middle → middle ≡ Mark mark line ∷ new → Reads (IsClosed mark (IsExpr names room)) EndsAnywhere (Ok f) start new
  closed_read f new line r closed =
      record {
        found = (r.found.0 ++ (Mark mark line ∷ []), (r.found.0, line, refl, r.found.1), r.found.2 ∙ (ap (λ (x : List Lexeme). r.found.0 ++ x) closed ∙ sym (append_assoc r.found.0 (Mark mark line ∷ []) new)));
        only = λ e here rest (inner, l, same, is) any stands.
            let read = r.only e inner (Mark mark l ∷ rest) is (ends l rest) (closes inner rest l here same stands) in
            let both : Mark mark line ∷ new ≡ Mark mark l ∷ rest = sym closed ∙ read.1 in
            (read.0, cc);
      }

  pub closed_open : (f : Expr) (new : List Lexeme) → Reads (IsExpr names room) (EndsRank 3) (Ok f) start middle → ((line : ℕ) (rest : List Lexeme) → middle ≡ Mark mark line ∷ rest → ⊥) → Reads (IsClosed mark (IsExpr names room)) EndsAnywhere (Err NotForm) start new
  closed_open f new r none =
      record {
        found = tt;
        only = λ e here rest (inner, l, same, is) any stands.
            let read = r.only e inner (Mark mark l ∷ rest) is (ends l rest) (closes inner rest l here same stands) in
            none l rest read.1;
      }

-- ---- what a statement begins with

-- behind a word
pub data WordCase (names : List (List ℕ)) (putchar : Bool) (room : ℕ) (s : Stmt) (bytes : List ℕ) (line : ℕ) (behind rest : List Lexeme) : Type 0 where
  return_case : (value : Expr) (here : List Lexeme) → bytes ≡ codes "return" → behind ≡ here ++ rest → s ≡ stmt.Return line value → IsClosed 59 (IsExpr names room) value here → WordCase names putchar room s bytes line behind rest
  assign_case : (sign local : ℕ) (value : Expr) (here : List Lexeme) → 0 < room → is_keyword bytes ≡ false → position (λ name. bytes_eq name bytes) names ≡ Some local → behind ≡ Mark 61 sign ∷ (here ++ rest) → s ≡ stmt.Assign line local value → IsClosed 59 (IsExpr names (room - 1)) value here → WordCase names putchar room s bytes line behind rest
  loop_case : (left : ℕ) (test : Expr) (body : Stmt) (here last : List Lexeme) → 0 < room → bytes ≡ codes "while" → behind ≡ Mark 40 left ∷ (here ++ (last ++ rest)) → s ≡ stmt.While line test body → IsClosed 41 (IsExpr names (room - 1)) test here → IsStmt names putchar (room - 1) body last → WordCase names putchar room s bytes line behind rest
  put_case : (left end : ℕ) (value : Expr) (here : List Lexeme) → 0 < room → bytes ≡ codes "putchar" → putchar ≡ true → behind ≡ Mark 40 left ∷ (here ++ (Mark 59 end ∷ rest)) → s ≡ stmt.PutChar line value → IsClosed 41 (IsExpr names (room - 1)) value here → WordCase names putchar room s bytes line behind rest

-- behind a mark
pub data MarkCase (names : List (List ℕ)) (putchar : Bool) (room : ℕ) (s : Stmt) (byte : ℕ) (behind rest : List Lexeme) : Type 0 where
  empty_case : byte ≡ 59 → s ≡ stmt.Empty → behind ≡ rest → MarkCase names putchar room s byte behind rest
  block_case : (right : ℕ) (body : List Stmt) (here : List Lexeme) → 0 < room → byte ≡ 123 → behind ≡ here ++ (Mark 125 right ∷ rest) → s ≡ stmt.Block [] body → AreStmts (IsStmt names putchar (room - 1)) body here → MarkCase names putchar room s byte behind rest

module _ (names : List (List ℕ)) (putchar : Bool) where
  pub stmt_view : (room : ℕ) (s : Stmt) (here : List Lexeme) → IsStmt names putchar room s here → IsFlat names room s here ⊎ ((0 < room) × IsDeep names putchar (room - 1) (IsStmt names putchar (room - 1)) s here)
  unfolding IsStmt
  stmt_view zero s here is = inl is
  stmt_view (suc room) s here (inl h) = inl h
  stmt_view (suc room) s here (inr h) =
      let less : room ≡ suc room - 1 = omega arith in
      inr (omega arith, subst (λ (n : ℕ). IsDeep names putchar n (IsStmt names putchar n) s here) less h)

  pub stmt_flat : (room : ℕ) (s : Stmt) (here : List Lexeme) → IsFlat names room s here → IsStmt names putchar room s here
  unfolding IsStmt
  stmt_flat zero s here is = is
  stmt_flat (suc room) s here is = inl is

  pub stmt_deep : (room : ℕ) (s : Stmt) (here : List Lexeme) → 0 < room → IsDeep names putchar (room - 1) (IsStmt names putchar (room - 1)) s here → IsStmt names putchar room s here
  unfolding IsStmt
  stmt_deep zero s here some is = absurd (omega arith)
  stmt_deep (suc room) s here some is =
      let less : suc room - 1 ≡ room = omega arith in
      inr (subst (λ (n : ℕ). IsDeep names putchar n (IsStmt names putchar n) s here) less is)

  module _ (room : ℕ) (s : Stmt) (here rest behind : List Lexeme) where
    pub word_case : (bytes : List ℕ) (line : ℕ) → IsStmt names putchar room s here → Run bytes line ∷ behind ≡ here ++ rest → WordCase names putchar room s bytes line behind rest
    word_case bytes line is stands =
        elim (stmt_view room s here is) [ inl h ↦ flat h | inr h ↦ deep h.0 h.1 ]
      where
        flat : IsFlat names room s here → WordCase names putchar room s bytes line behind rest
        flat (empty l same made) =
            let clash : Run bytes line ∷ behind ≡ Mark 59 l ∷ rest = stands ∙ ap (λ (x : List Lexeme). x ++ rest) same in
            cc
        flat (returned l value inner same made closed) =
            let both : Run bytes line ∷ behind ≡ Run (codes "return") l ∷ (inner ++ rest) = stands ∙ ap (λ (x : List Lexeme). x ++ rest) same in
            let at : l ≡ line = cc in
            return_case value inner (cc) (cc) (made ∙ ap (λ (m : ℕ). stmt.Return m value) at) closed

        deep : 0 < room → IsDeep names putchar (room - 1) (IsStmt names putchar (room - 1)) s here → WordCase names putchar room s bytes line behind rest
        deep some (assign bs l sign place value inner other first same made closed) =
            let both : Run bytes line ∷ behind ≡ Run bs l ∷ (Mark 61 sign ∷ (inner ++ rest)) = stands ∙ ap (λ (x : List Lexeme). x ++ rest) same in
            let at : l ≡ line = cc in
            let text : bs ≡ bytes = cc in
            assign_case sign place value inner some (subst (λ (b : List ℕ). is_keyword b ≡ false) text other) (subst (λ (b : List ℕ). position (λ name. bytes_eq name b) names ≡ Some place) text first) (cc) (made ∙ ap (λ (m : ℕ). stmt.Assign m place value) at) closed
        deep some (loop l left test body inner last same made closed one) =
            let both : Run bytes line ∷ behind ≡ Run (codes "while") l ∷ (Mark 40 left ∷ ((inner ++ last) ++ rest)) = stands ∙ ap (λ (x : List Lexeme). x ++ rest) same in
            let at : l ≡ line = cc in
            let tail : behind ≡ Mark 40 left ∷ ((inner ++ last) ++ rest) = cc in
            loop_case left test body inner last some (cc) (tail ∙ ap (λ (x : List Lexeme). Mark 40 left ∷ x) (append_assoc inner last rest)) (made ∙ ap (λ (m : ℕ). stmt.While m test body) at) closed one
        deep some (block left right body inner same made are) =
            let clash : Run bytes line ∷ behind ≡ Mark 123 left ∷ ((inner ++ (Mark 125 right ∷ [])) ++ rest) = stands ∙ ap (λ (x : List Lexeme). x ++ rest) same in
            cc
        deep some (put l left end value inner there same made closed) =
            let both : Run bytes line ∷ behind ≡ Run (codes "putchar") l ∷ (Mark 40 left ∷ ((inner ++ (Mark 59 end ∷ [])) ++ rest)) = stands ∙ ap (λ (x : List Lexeme). x ++ rest) same in
            let at : l ≡ line = cc in
            let tail : behind ≡ Mark 40 left ∷ ((inner ++ (Mark 59 end ∷ [])) ++ rest) = cc in
            put_case left end value inner some (cc) there (tail ∙ ap (λ (x : List Lexeme). Mark 40 left ∷ x) (append_assoc inner (Mark 59 end ∷ []) rest)) (made ∙ ap (λ (m : ℕ). stmt.PutChar m value) at) closed

    pub mark_case : (byte line : ℕ) → IsStmt names putchar room s here → Mark byte line ∷ behind ≡ here ++ rest → MarkCase names putchar room s byte behind rest
    mark_case byte line is stands =
        elim (stmt_view room s here is) [ inl h ↦ flat h | inr h ↦ deep h.0 h.1 ]
      where
        flat : IsFlat names room s here → MarkCase names putchar room s byte behind rest
        flat (empty l same made) =
            let both : Mark byte line ∷ behind ≡ Mark 59 l ∷ rest = stands ∙ ap (λ (x : List Lexeme). x ++ rest) same in
            empty_case (cc) made (cc)
        flat (returned l value inner same made closed) =
            let clash : Mark byte line ∷ behind ≡ Run (codes "return") l ∷ (inner ++ rest) = stands ∙ ap (λ (x : List Lexeme). x ++ rest) same in
            cc

        deep : 0 < room → IsDeep names putchar (room - 1) (IsStmt names putchar (room - 1)) s here → MarkCase names putchar room s byte behind rest
        deep some (assign bs l sign place value inner other first same made closed) =
            let clash : Mark byte line ∷ behind ≡ Run bs l ∷ (Mark 61 sign ∷ (inner ++ rest)) = stands ∙ ap (λ (x : List Lexeme). x ++ rest) same in
            cc
        deep some (loop l left test body inner last same made closed one) =
            let clash : Mark byte line ∷ behind ≡ Run (codes "while") l ∷ (Mark 40 left ∷ ((inner ++ last) ++ rest)) = stands ∙ ap (λ (x : List Lexeme). x ++ rest) same in
            cc
        deep some (block left right body inner same made are) =
            let both : Mark byte line ∷ behind ≡ Mark 123 left ∷ ((inner ++ (Mark 125 right ∷ [])) ++ rest) = stands ∙ ap (λ (x : List Lexeme). x ++ rest) same in
            let tail : behind ≡ (inner ++ (Mark 125 right ∷ [])) ++ rest = cc in
            block_case right body inner some (cc) (tail ∙ append_assoc inner (Mark 125 right ∷ []) rest) made are
        deep some (put l left end value inner there same made closed) =
            let clash : Mark byte line ∷ behind ≡ Run (codes "putchar") l ∷ (Mark 40 left ∷ ((inner ++ (Mark 59 end ∷ [])) ++ rest)) = stands ∙ ap (λ (x : List Lexeme). x ++ rest) same in
            cc

  -- a statement begins with a word or a mark
  pub stmt_front : (room : ℕ) (s : Stmt) (here : List Lexeme) → IsStmt names putchar room s here → ((bytes : List ℕ) × (line : ℕ) × (more : List Lexeme) × (here ≡ Run bytes line ∷ more)) ⊎ ((byte line : ℕ) × (more : List Lexeme) × ((byte ≡ 59) ⊎ (byte ≡ 123)) × (here ≡ Mark byte line ∷ more))
  stmt_front room s here is =
      elim (stmt_view room s here is) [ inl h ↦ flat h | inr h ↦ deep h.1 ]
    where
      flat : IsFlat names room s here → ((bytes : List ℕ) × (line : ℕ) × (more : List Lexeme) × (here ≡ Run bytes line ∷ more)) ⊎ ((byte line : ℕ) × (more : List Lexeme) × ((byte ≡ 59) ⊎ (byte ≡ 123)) × (here ≡ Mark byte line ∷ more))
      flat (empty l same made) = inr (59, l, [], inl refl, same)
      flat (returned l value inner same made closed) = inl (codes "return", l, inner, same)

      deep : IsDeep names putchar (room - 1) (IsStmt names putchar (room - 1)) s here → ((bytes : List ℕ) × (line : ℕ) × (more : List Lexeme) × (here ≡ Run bytes line ∷ more)) ⊎ ((byte line : ℕ) × (more : List Lexeme) × ((byte ≡ 59) ⊎ (byte ≡ 123)) × (here ≡ Mark byte line ∷ more))
      deep (assign bs l sign place value inner other first same made closed) = inl (bs, l, Mark 61 sign ∷ inner, same)
      deep (loop l left test body inner last same made closed one) = inl (codes "while", l, Mark 40 left ∷ (inner ++ last), same)
      deep (block left right body inner same made are) = inr (123, left, inner ++ (Mark 125 right ∷ []), inr refl, same)
      deep (put l left end value inner there same made closed) = inl (codes "putchar", l, Mark 40 left ∷ (inner ++ (Mark 59 end ∷ [])), same)

-- ---- the words tell the statements apart

return_is_keyword : is_keyword (codes "return") ≡ true
return_is_keyword = refl

while_is_keyword : is_keyword (codes "while") ≡ true
while_is_keyword = refl

putchar_is_keyword : is_keyword (codes "putchar") ≡ true
putchar_is_keyword = refl

pub no_keyword : (bytes word : List ℕ) → is_keyword word ≡ true → bytes ≡ word → is_keyword bytes ≡ false → ⊥
no_keyword bytes word keyword same other = false≢true (sym other ∙ (ap is_keyword same ∙ keyword))

pub differ : (bytes a b : List ℕ) → bytes_eq a a ≡ true → bytes_eq b a ≡ false → bytes ≡ a → bytes ≡ b → ⊥
differ bytes a b same other p q = false≢true (sym other ∙ (ap (λ (x : List ℕ). bytes_eq x a) (sym q ∙ p) ∙ same))

module _ (names : List (List ℕ)) (putchar : Bool) (room : ℕ) (bytes : List ℕ) (line : ℕ) (start : List Lexeme) where
  -- ---- `return`

  as_return : (s : Stmt) (here rest : List Lexeme) → bytes ≡ codes "return" → IsStmt names putchar room s here → Run bytes line ∷ start ≡ here ++ rest → (value : Expr) × (inner : List Lexeme) × (start ≡ inner ++ rest) × (s ≡ stmt.Return line value) × IsClosed 59 (IsExpr names room) value inner
  as_return s here rest word is stands = by (word_case names putchar room s here rest start bytes line is stands)
    where
      by : WordCase names putchar room s bytes line start rest → (value : Expr) × (inner : List Lexeme) × (start ≡ inner ++ rest) × (s ≡ stmt.Return line value) × IsClosed 59 (IsExpr names room) value inner
      by (return_case value inner same split made closed) = (value, inner, split, made, closed)
      by (assign_case sign place value inner some other first split made closed) = absurd (no_keyword bytes (codes "return") return_is_keyword word other)
      by (loop_case left test body inner last some same split made closed one) = absurd (differ bytes (codes "return") (codes "while") refl refl word same)
      by (put_case left end value inner some same there split made closed) = absurd (differ bytes (codes "return") (codes "putchar") refl refl word same)

  pub return_fails : (fault : ReadFault) (new : List Lexeme) → bytes ≡ codes "return" → Reads (IsClosed 59 (IsExpr names room)) EndsAnywhere (Err fault) start new → Reads (IsStmt names putchar room) EndsAnywhere (Err fault) (Run bytes line ∷ start) new
  return_fails fault new word r =
      record { found = tt; only = λ s here rest is any stands. let k = as_return s here rest word is stands in same_fault fault new k.0 rest new s rest (r.only k.0 k.1 rest k.4 tt k.2) }

  pub return_read : (value : Expr) (new : List Lexeme) → bytes ≡ codes "return" → Reads (IsClosed 59 (IsExpr names room)) EndsAnywhere (Ok value) start new → Reads (IsStmt names putchar room) EndsAnywhere (Ok (stmt.Return line value)) (Run bytes line ∷ start) new
  return_read value new word r =
      record {
        found = (
          Run bytes line ∷ r.found.0,
          stmt_flat names putchar room (stmt.Return line value) (Run bytes line ∷ r.found.0) (returned line value r.found.0 (ap (λ (b : List ℕ). Run b line ∷ r.found.0) word) refl r.found.1),
          ap (λ (x : List Lexeme). Run bytes line ∷ x) r.found.2,
        );
        only = λ s here rest is any stands.
            let k = as_return s here rest word is stands in
            let read = r.only k.0 k.1 rest k.4 tt k.2 in
            (ap (λ (v : Expr). stmt.Return line v) read.0 ∙ sym k.3, read.1);
      }

  pub word_no_room : (new : List Lexeme) → room ≡ 0 → (bytes ≡ codes "return" → ⊥) → Reads (IsStmt names putchar room) EndsAnywhere (Err NotForm) (Run bytes line ∷ start) new
  word_no_room new none other =
      record { found = tt; only = λ s here rest is any stands. by s rest (word_case names putchar room s here rest start bytes line is stands) }
    where
      by : (s : Stmt) (rest : List Lexeme) → WordCase names putchar room s bytes line start rest → ⊥
      by s rest (return_case value inner same split made closed) = other same
      by s rest (assign_case sign place value inner some word first split made closed) = omega arith
      by s rest (loop_case left test body inner last some same split made closed one) = omega arith
      by s rest (put_case left end value inner some same there split made closed) = omega arith

  -- ---- an assignment

  as_assign : (s : Stmt) (here rest : List Lexeme) → is_keyword bytes ≡ false → IsStmt names putchar room s here → Run bytes line ∷ start ≡ here ++ rest → (sign place : ℕ) × (value : Expr) × (inner : List Lexeme) × (position (λ name. bytes_eq name bytes) names ≡ Some place) × (start ≡ Mark 61 sign ∷ (inner ++ rest)) × (s ≡ stmt.Assign line place value) × IsClosed 59 (IsExpr names (room - 1)) value inner
  as_assign s here rest word is stands = by (word_case names putchar room s here rest start bytes line is stands)
    where
      by : WordCase names putchar room s bytes line start rest → (sign place : ℕ) × (value : Expr) × (inner : List Lexeme) × (position (λ name. bytes_eq name bytes) names ≡ Some place) × (start ≡ Mark 61 sign ∷ (inner ++ rest)) × (s ≡ stmt.Assign line place value) × IsClosed 59 (IsExpr names (room - 1)) value inner
      by (return_case value inner same split made closed) = absurd (no_keyword bytes (codes "return") return_is_keyword same word)
      by (assign_case sign place value inner some other first split made closed) = (sign, place, value, inner, first, split, made, closed)
      by (loop_case left test body inner last some same split made closed one) = absurd (no_keyword bytes (codes "while") while_is_keyword same word)
      by (put_case left end value inner some same there split made closed) = absurd (no_keyword bytes (codes "putchar") putchar_is_keyword same word)

  pub assign_unknown : (new : List Lexeme) → is_keyword bytes ≡ false → position (λ name. bytes_eq name bytes) names ≡ None → Reads (IsStmt names putchar room) EndsAnywhere (Err NotForm) (Run bytes line ∷ start) new
  assign_unknown new word none =
      record {
        found = tt;
        only = λ s here rest is any stands.
            let k = as_assign s here rest word is stands in
            let clash : None ≡ Some k.1 = sym none ∙ k.4 in
            cc;
      }

  pub assign_no_sign : (new : List Lexeme) → is_keyword bytes ≡ false → ((l : ℕ) (rest : List Lexeme) → start ≡ Mark 61 l ∷ rest → ⊥) → Reads (IsStmt names putchar room) EndsAnywhere (Err NotForm) (Run bytes line ∷ start) new
  assign_no_sign new word none =
      record { found = tt; only = λ s here rest is any stands. let k = as_assign s here rest word is stands in none k.0 (k.3 ++ rest) k.5 }

  pub assign_fails : (fault : ReadFault) (l : ℕ) (middle new : List Lexeme) → is_keyword bytes ≡ false → start ≡ Mark 61 l ∷ middle → Reads (IsClosed 59 (IsExpr names (room - 1))) EndsAnywhere (Err fault) middle new → Reads (IsStmt names putchar room) EndsAnywhere (Err fault) (Run bytes line ∷ start) new
  assign_fails fault l middle new word sign r =
      record {
        found = tt;
        only = λ s here rest is any stands.
            let k = as_assign s here rest word is stands in
            let both : Mark 61 l ∷ middle ≡ Mark 61 k.0 ∷ (k.3 ++ rest) = sym sign ∙ k.5 in
            let split : middle ≡ k.3 ++ rest = cc in
            same_fault fault new k.2 rest new s rest (r.only k.2 k.3 rest k.7 tt split);
      }

  pub assign_read : (place : ℕ) (value : Expr) (l : ℕ) (middle new : List Lexeme) → 0 < room → is_keyword bytes ≡ false → position (λ name. bytes_eq name bytes) names ≡ Some place → start ≡ Mark 61 l ∷ middle → Reads (IsClosed 59 (IsExpr names (room - 1))) EndsAnywhere (Ok value) middle new → Reads (IsStmt names putchar room) EndsAnywhere (Ok (stmt.Assign line place value)) (Run bytes line ∷ start) new
  assign_read place value l middle new some word known sign r =
      record {
        found = (
          Run bytes line ∷ (Mark 61 l ∷ r.found.0),
          stmt_deep names putchar room (stmt.Assign line place value) (Run bytes line ∷ (Mark 61 l ∷ r.found.0)) some (assign bytes line l place value r.found.0 word known refl refl r.found.1),
          ap (λ (x : List Lexeme). Run bytes line ∷ x) (sign ∙ ap (λ (x : List Lexeme). Mark 61 l ∷ x) r.found.2),
        );
        only = λ s here rest is any stands.
            let k = as_assign s here rest word is stands in
            let both : Mark 61 l ∷ middle ≡ Mark 61 k.0 ∷ (k.3 ++ rest) = sym sign ∙ k.5 in
            let split : middle ≡ k.3 ++ rest = cc in
            let read = r.only k.2 k.3 rest k.7 tt split in
            let places : Some place ≡ Some k.1 = sym known ∙ k.4 in
            let same_place : place ≡ k.1 = cc in
            ((λ i. stmt.Assign line (same_place i) (read.0 i)) ∙ sym k.6, read.1);
      }

  -- ---- `while`

  as_loop : (s : Stmt) (here rest : List Lexeme) → bytes ≡ codes "while" → IsStmt names putchar room s here → Run bytes line ∷ start ≡ here ++ rest → (left : ℕ) × (test : Expr) × (body : Stmt) × (inner last : List Lexeme) × (start ≡ Mark 40 left ∷ (inner ++ (last ++ rest))) × (s ≡ stmt.While line test body) × IsClosed 41 (IsExpr names (room - 1)) test inner × IsStmt names putchar (room - 1) body last
  as_loop s here rest word is stands = by (word_case names putchar room s here rest start bytes line is stands)
    where
      by : WordCase names putchar room s bytes line start rest → (left : ℕ) × (test : Expr) × (body : Stmt) × (inner last : List Lexeme) × (start ≡ Mark 40 left ∷ (inner ++ (last ++ rest))) × (s ≡ stmt.While line test body) × IsClosed 41 (IsExpr names (room - 1)) test inner × IsStmt names putchar (room - 1) body last
      by (return_case value inner same split made closed) = absurd (differ bytes (codes "while") (codes "return") refl refl word same)
      by (assign_case sign place value inner some other first split made closed) = absurd (no_keyword bytes (codes "while") while_is_keyword word other)
      by (loop_case left test body inner last some same split made closed one) = (left, test, body, inner, last, split, made, closed, one)
      by (put_case left end value inner some same there split made closed) = absurd (differ bytes (codes "while") (codes "putchar") refl refl word same)

  pub loop_no_bracket : (new : List Lexeme) → bytes ≡ codes "while" → ((l : ℕ) (rest : List Lexeme) → start ≡ Mark 40 l ∷ rest → ⊥) → Reads (IsStmt names putchar room) EndsAnywhere (Err NotForm) (Run bytes line ∷ start) new
  loop_no_bracket new word none =
      record { found = tt; only = λ s here rest is any stands. let k = as_loop s here rest word is stands in none k.0 (k.3 ++ (k.4 ++ rest)) k.5 }

  module _ (l : ℕ) (middle : List Lexeme) (bracket : start ≡ Mark 40 l ∷ middle) where
    -- what stands behind the bracket
    loop_split : (left : ℕ) (inner last rest : List Lexeme) → start ≡ Mark 40 left ∷ (inner ++ (last ++ rest)) → middle ≡ inner ++ (last ++ rest)
    loop_split left inner last rest split =
        let both : Mark 40 l ∷ middle ≡ Mark 40 left ∷ (inner ++ (last ++ rest)) = sym bracket ∙ split in
        cc

    pub test_fails : (fault : ReadFault) (new : List Lexeme) → bytes ≡ codes "while" → Reads (IsClosed 41 (IsExpr names (room - 1))) EndsAnywhere (Err fault) middle new → Reads (IsStmt names putchar room) EndsAnywhere (Err fault) (Run bytes line ∷ start) new
    test_fails fault new word r =
        record {
          found = tt;
          only = λ s here rest is any stands.
              let k = as_loop s here rest word is stands in
              same_fault fault new k.1 (k.4 ++ rest) new s rest (r.only k.1 k.3 (k.4 ++ rest) k.7 tt (loop_split k.0 k.3 k.4 rest k.5));
        }

    module _ (test : Expr) (behind : List Lexeme) (word : bytes ≡ codes "while") (r : Reads (IsClosed 41 (IsExpr names (room - 1))) EndsAnywhere (Ok test) middle behind) where
      pub body_fails : (fault : ReadFault) (new : List Lexeme) → Reads (IsStmt names putchar (room - 1)) EndsAnywhere (Err fault) behind new → Reads (IsStmt names putchar room) EndsAnywhere (Err fault) (Run bytes line ∷ start) new
      body_fails fault new b =
          record {
            found = tt;
            only = λ s here rest is any stands.
                let k = as_loop s here rest word is stands in
                let read = r.only k.1 k.3 (k.4 ++ rest) k.7 tt (loop_split k.0 k.3 k.4 rest k.5) in
                same_fault fault new k.2 rest new s rest (b.only k.2 k.4 rest k.8 tt read.1);
          }

      pub loop_read : (body boxed : Stmt) (new : List Lexeme) → 0 < room → boxed ≡ body → Reads (IsStmt names putchar (room - 1)) EndsAnywhere (Ok body) behind new → Reads (IsStmt names putchar room) EndsAnywhere (Ok (stmt.While line test boxed)) (Run bytes line ∷ start) new
      loop_read body boxed new some box b =
          record {
            found = (
              Run bytes line ∷ (Mark 40 l ∷ (r.found.0 ++ b.found.0)),
              stmt_deep names putchar room (stmt.While line test boxed) (Run bytes line ∷ (Mark 40 l ∷ (r.found.0 ++ b.found.0))) some
                  (loop line l test body r.found.0 b.found.0 (ap (λ (w : List ℕ). Run w line ∷ (Mark 40 l ∷ (r.found.0 ++ b.found.0))) word) (ap (λ (x : Stmt). stmt.While line test x) box) r.found.1 b.found.1),
              ap (λ (x : List Lexeme). Run bytes line ∷ x) (bracket ∙ ap (λ (x : List Lexeme). Mark 40 l ∷ x) (r.found.2 ∙ (ap (λ (x : List Lexeme). r.found.0 ++ x) b.found.2 ∙ sym (append_assoc r.found.0 b.found.0 new)))),
            );
            only = λ s here rest is any stands.
                let k = as_loop s here rest word is stands in
                let read = r.only k.1 k.3 (k.4 ++ rest) k.7 tt (loop_split k.0 k.3 k.4 rest k.5) in
                let inside = b.only k.2 k.4 rest k.8 tt read.1 in
                ((λ i. stmt.While line (read.0 i) ((box ∙ inside.0) i)) ∙ sym k.6, inside.1);
          }

  -- ---- `putchar`

  as_put : (s : Stmt) (here rest : List Lexeme) → bytes ≡ codes "putchar" → IsStmt names putchar room s here → Run bytes line ∷ start ≡ here ++ rest → (left end : ℕ) × (value : Expr) × (inner : List Lexeme) × (putchar ≡ true) × (start ≡ Mark 40 left ∷ (inner ++ (Mark 59 end ∷ rest))) × (s ≡ stmt.PutChar line value) × IsClosed 41 (IsExpr names (room - 1)) value inner
  as_put s here rest word is stands = by (word_case names putchar room s here rest start bytes line is stands)
    where
      by : WordCase names putchar room s bytes line start rest → (left end : ℕ) × (value : Expr) × (inner : List Lexeme) × (putchar ≡ true) × (start ≡ Mark 40 left ∷ (inner ++ (Mark 59 end ∷ rest))) × (s ≡ stmt.PutChar line value) × IsClosed 41 (IsExpr names (room - 1)) value inner
      by (return_case value inner same split made closed) = absurd (differ bytes (codes "putchar") (codes "return") refl refl word same)
      by (assign_case sign place value inner some other first split made closed) = absurd (no_keyword bytes (codes "putchar") putchar_is_keyword word other)
      by (loop_case left test body inner last some same split made closed one) = absurd (differ bytes (codes "putchar") (codes "while") refl refl word same)
      by (put_case left end value inner some same there split made closed) = (left, end, value, inner, there, split, made, closed)

  pub put_undeclared : (new : List Lexeme) → bytes ≡ codes "putchar" → putchar ≡ false → Reads (IsStmt names putchar room) EndsAnywhere (Err NotForm) (Run bytes line ∷ start) new
  put_undeclared new word none =
      record { found = tt; only = λ s here rest is any stands. let k = as_put s here rest word is stands in false≢true (sym none ∙ k.4) }

  pub put_no_bracket : (new : List Lexeme) → bytes ≡ codes "putchar" → ((l : ℕ) (rest : List Lexeme) → start ≡ Mark 40 l ∷ rest → ⊥) → Reads (IsStmt names putchar room) EndsAnywhere (Err NotForm) (Run bytes line ∷ start) new
  put_no_bracket new word none =
      record { found = tt; only = λ s here rest is any stands. let k = as_put s here rest word is stands in none k.0 (k.3 ++ (Mark 59 k.1 ∷ rest)) k.5 }

  module _ (l : ℕ) (middle : List Lexeme) (bracket : start ≡ Mark 40 l ∷ middle) where
    put_split : (left end : ℕ) (inner rest : List Lexeme) → start ≡ Mark 40 left ∷ (inner ++ (Mark 59 end ∷ rest)) → middle ≡ inner ++ (Mark 59 end ∷ rest)
    put_split left end inner rest split =
        let both : Mark 40 l ∷ middle ≡ Mark 40 left ∷ (inner ++ (Mark 59 end ∷ rest)) = sym bracket ∙ split in
        cc

    pub put_fails : (fault : ReadFault) (new : List Lexeme) → bytes ≡ codes "putchar" → Reads (IsClosed 41 (IsExpr names (room - 1))) EndsAnywhere (Err fault) middle new → Reads (IsStmt names putchar room) EndsAnywhere (Err fault) (Run bytes line ∷ start) new
    put_fails fault new word r =
        record {
          found = tt;
          only = λ s here rest is any stands.
              let k = as_put s here rest word is stands in
              same_fault fault new k.2 (Mark 59 k.1 ∷ rest) new s rest (r.only k.2 k.3 (Mark 59 k.1 ∷ rest) k.7 tt (put_split k.0 k.1 k.3 rest k.5));
        }

    module _ (value : Expr) (behind : List Lexeme) (word : bytes ≡ codes "putchar") (r : Reads (IsClosed 41 (IsExpr names (room - 1))) EndsAnywhere (Ok value) middle behind) where
      pub put_no_end : (new : List Lexeme) → ((m : ℕ) (rest : List Lexeme) → behind ≡ Mark 59 m ∷ rest → ⊥) → Reads (IsStmt names putchar room) EndsAnywhere (Err NotForm) (Run bytes line ∷ start) new
      put_no_end new none =
          record {
            found = tt;
            only = λ s here rest is any stands.
                let k = as_put s here rest word is stands in
                let read = r.only k.2 k.3 (Mark 59 k.1 ∷ rest) k.7 tt (put_split k.0 k.1 k.3 rest k.5) in
                none k.1 rest read.1;
          }

      pub put_read : (m : ℕ) (new : List Lexeme) → 0 < room → putchar ≡ true → behind ≡ Mark 59 m ∷ new → Reads (IsStmt names putchar room) EndsAnywhere (Ok (stmt.PutChar line value)) (Run bytes line ∷ start) new
      put_read m new some there ended =
          record {
            found = (
              Run bytes line ∷ (Mark 40 l ∷ (r.found.0 ++ (Mark 59 m ∷ []))),
              stmt_deep names putchar room (stmt.PutChar line value) (Run bytes line ∷ (Mark 40 l ∷ (r.found.0 ++ (Mark 59 m ∷ [])))) some
                  (put line l m value r.found.0 there (ap (λ (w : List ℕ). Run w line ∷ (Mark 40 l ∷ (r.found.0 ++ (Mark 59 m ∷ [])))) word) refl r.found.1),
              ap (λ (x : List Lexeme). Run bytes line ∷ x) (bracket ∙ ap (λ (x : List Lexeme). Mark 40 l ∷ x) (r.found.2 ∙ (ap (λ (x : List Lexeme). r.found.0 ++ x) ended ∙ sym (append_assoc r.found.0 (Mark 59 m ∷ []) new)))),
            );
            only = λ s here rest is any stands.
                let k = as_put s here rest word is stands in
                let read = r.only k.2 k.3 (Mark 59 k.1 ∷ rest) k.7 tt (put_split k.0 k.1 k.3 rest k.5) in
                let both : Mark 59 m ∷ new ≡ Mark 59 k.1 ∷ rest = sym ended ∙ read.1 in
                (ap (λ (v : Expr). stmt.PutChar line v) read.0 ∙ sym k.6, cc);
          }
