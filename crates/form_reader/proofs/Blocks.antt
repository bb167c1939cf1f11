-- How the readers of `;`, of blocks and of lists of statements are put together.
use Rattle.std.proofs.Common.{◌≡◌, ℕ, ◌-◌, ◌<◌, ◌⊎◌, inl, inr, Bool, List, [], ◌∷◌, ◌++◌, length, refl, sym, ap, subst, ◌∙◌, arith, append_assoc, append-nil, length-append}
use Rattle.std.specs.Prelude.{Ok, Err}
use Rattle.form_tree.specs.declared.stmt.LocalDef.{LocalDef}
use Rattle.form_tree.specs.declared.stmt.Stmt.{Stmt}
use Rattle.form_tree.specs.declared.stmt.Stmt.TheVariants as stmt
use Rattle.form_reader.specs.declared.form.ReadFault.{ReadFault}
use Rattle.form_reader.specs.declared.form.ReadFault.TheVariants.{NotForm}
use Rattle.form_reader.specs.Lexemes.{Lexeme, Run, Mark, Twin}
use Rattle.form_reader.specs.Grammar.{AreStmts, empty, block, IsStmt}
use Rattle.form_reader.specs.Reading.{Reads, EndsAnywhere, EndsBlock}
use Rattle.form_reader.proofs.Composed.{same_fault}
use Rattle.form_reader.proofs.Worded.{MarkCase, empty_case, block_case, mark_case, stmt_front, stmt_flat, stmt_deep}

module _ (names : List (List ℕ)) (putchar : Bool) (room : ℕ) where
  -- ---- a mark

  module _ (byte line : ℕ) (start : List Lexeme) where
    pub empty_read : byte ≡ 59 → Reads (IsStmt names putchar room) EndsAnywhere (Ok stmt.Empty) (Mark byte line ∷ start) start
    empty_read is =
        record {
          found = (Mark byte line ∷ [], stmt_flat names putchar room stmt.Empty (Mark byte line ∷ []) (empty line (ap (λ (b : ℕ). Mark b line ∷ []) is) refl), refl);
          only = λ s here rest one any stands. by s rest (mark_case names putchar room s here rest start byte line one stands);
        }
      where
        by : (s : Stmt) (rest : List Lexeme) → MarkCase names putchar room s byte start rest → (stmt.Empty ≡ s) × (start ≡ rest)
        by s rest (empty_case same made split) = (sym made, split)
        by s rest (block_case right body inner some same split made are) = absurd (omega (arith, is, same))

    pub mark_unknown : (new : List Lexeme) → (byte ≡ 59 → ⊥) → (byte ≡ 123 → ⊥) → Reads (IsStmt names putchar room) EndsAnywhere (Err NotForm) (Mark byte line ∷ start) new
    mark_unknown new other another =
        record { found = tt; only = λ s here rest one any stands. by s rest (mark_case names putchar room s here rest start byte line one stands) }
      where
        by : (s : Stmt) (rest : List Lexeme) → MarkCase names putchar room s byte start rest → ⊥
        by s rest (empty_case same made split) = other same
        by s rest (block_case right body inner some same split made are) = another same

    pub block_no_room : (new : List Lexeme) → (byte ≡ 59 → ⊥) → room ≡ 0 → Reads (IsStmt names putchar room) EndsAnywhere (Err NotForm) (Mark byte line ∷ start) new
    block_no_room new other none =
        record { found = tt; only = λ s here rest one any stands. by s rest (mark_case names putchar room s here rest start byte line one stands) }
      where
        by : (s : Stmt) (rest : List Lexeme) → MarkCase names putchar room s byte start rest → ⊥
        by s rest (empty_case same made split) = other same
        by s rest (block_case right body inner some same split made are) = omega arith

    as_block : (s : Stmt) (here rest : List Lexeme) → byte ≡ 123 → IsStmt names putchar room s here → Mark byte line ∷ start ≡ here ++ rest → (right : ℕ) × (body : List Stmt) × (inner : List Lexeme) × (start ≡ inner ++ (Mark 125 right ∷ rest)) × (s ≡ stmt.Block [] body) × AreStmts (IsStmt names putchar (room - 1)) body inner
    as_block s here rest brace one stands = by (mark_case names putchar room s here rest start byte line one stands)
      where
        by : MarkCase names putchar room s byte start rest → (right : ℕ) × (body : List Stmt) × (inner : List Lexeme) × (start ≡ inner ++ (Mark 125 right ∷ rest)) × (s ≡ stmt.Block [] body) × AreStmts (IsStmt names putchar (room - 1)) body inner
        by (empty_case same made split) = absurd (omega (arith, brace, same))
        by (block_case right body inner some same split made are) = (right, body, inner, split, made, are)

    pub block_fails : (fault : ReadFault) (new : List Lexeme) → byte ≡ 123 → Reads (AreStmts (IsStmt names putchar (room - 1))) EndsBlock (Err fault) start new → Reads (IsStmt names putchar room) EndsAnywhere (Err fault) (Mark byte line ∷ start) new
    block_fails fault new brace r =
        record {
          found = tt;
          only = λ s here rest one any stands.
              let k = as_block s here rest brace one stands in
              same_fault fault new k.1 (Mark 125 k.0 ∷ rest) new s rest (r.only k.1 k.2 (Mark 125 k.0 ∷ rest) k.5 (k.0, rest, refl) k.3);
        }

    module _ (body : List Stmt) (middle : List Lexeme) (brace : byte ≡ 123) (r : Reads (AreStmts (IsStmt names putchar (room - 1))) EndsBlock (Ok body) start middle) where
      pub block_not_closed : (new : List Lexeme) → ((m : ℕ) (rest : List Lexeme) → middle ≡ Mark 125 m ∷ rest → ⊥) → Reads (IsStmt names putchar room) EndsAnywhere (Err NotForm) (Mark byte line ∷ start) new
      block_not_closed new none =
          record {
            found = tt;
            only = λ s here rest one any stands.
                let k = as_block s here rest brace one stands in
                let read = r.only k.1 k.2 (Mark 125 k.0 ∷ rest) k.5 (k.0, rest, refl) k.3 in
                none k.0 rest read.1;
          }

      pub block_read : (locals : List LocalDef) (m : ℕ) (new : List Lexeme) → 0 < room → locals ≡ [] → middle ≡ Mark 125 m ∷ new → Reads (IsStmt names putchar room) EndsAnywhere (Ok (stmt.Block locals body)) (Mark byte line ∷ start) new
      block_read locals m new some no_locals closed =
          record {
            found = (
              Mark 123 line ∷ (r.found.0 ++ (Mark 125 m ∷ [])),
              stmt_deep names putchar room (stmt.Block locals body) (Mark 123 line ∷ (r.found.0 ++ (Mark 125 m ∷ []))) some
                  (block line m body r.found.0 refl (ap (λ (l : List LocalDef). stmt.Block l body) no_locals) r.found.1),
              ap (λ (b : ℕ). Mark b line ∷ start) brace ∙ ap (λ (x : List Lexeme). Mark 123 line ∷ x) (r.found.2 ∙ (ap (λ (x : List Lexeme). r.found.0 ++ x) closed ∙ sym (append_assoc r.found.0 (Mark 125 m ∷ []) new))),
            );
            only = λ s here rest one any stands.
                let k = as_block s here rest brace one stands in
                let read = r.only k.1 k.2 (Mark 125 k.0 ∷ rest) k.5 (k.0, rest, refl) k.3 in
                let both : Mark 125 m ∷ new ≡ Mark 125 k.0 ∷ rest = sym closed ∙ read.1 in
                ((λ i. stmt.Block (no_locals i) (read.0 i)) ∙ sym k.4, cc);
          }

  -- ---- what begins no statement

  pub stmt_not_twin : (line : ℕ) (old behind new : List Lexeme) → old ≡ Twin line ∷ behind → Reads (IsStmt names putchar room) EndsAnywhere (Err NotForm) old new
  stmt_not_twin line old behind new at =
      record { found = tt; only = λ s here rest one any stands. by here rest (stmt_front names putchar room s here one) (sym at ∙ stands) }
    where
      by : (here rest : List Lexeme) → ((bytes : List ℕ) × (l : ℕ) × (more : List Lexeme) × (here ≡ Run bytes l ∷ more)) ⊎ ((byte l : ℕ) × (more : List Lexeme) × ((byte ≡ 59) ⊎ (byte ≡ 123)) × (here ≡ Mark byte l ∷ more)) → Twin line ∷ behind ≡ here ++ rest → ⊥
      by here rest (inl h) both = let clash : Twin line ∷ behind ≡ Run h.0 h.1 ∷ (h.2 ++ rest) = both ∙ ap (λ (x : List Lexeme). x ++ rest) h.3 in cc
      by here rest (inr h) both = let clash : Twin line ∷ behind ≡ Mark h.0 h.1 ∷ (h.2 ++ rest) = both ∙ ap (λ (x : List Lexeme). x ++ rest) h.4 in cc

  pub stmt_not_end : (old new : List Lexeme) → old ≡ [] → Reads (IsStmt names putchar room) EndsAnywhere (Err NotForm) old new
  stmt_not_end old new at =
      record { found = tt; only = λ s here rest one any stands. by here rest (stmt_front names putchar room s here one) (sym at ∙ stands) }
    where
      by : (here rest : List Lexeme) → ((bytes : List ℕ) × (l : ℕ) × (more : List Lexeme) × (here ≡ Run bytes l ∷ more)) ⊎ ((byte l : ℕ) × (more : List Lexeme) × ((byte ≡ 59) ⊎ (byte ≡ 123)) × (here ≡ Mark byte l ∷ more)) → [] ≡ here ++ rest → ⊥
      by here rest (inl h) both = let clash : [] ≡ Run h.0 h.1 ∷ (h.2 ++ rest) = both ∙ ap (λ (x : List Lexeme). x ++ rest) h.3 in cc
      by here rest (inr h) both = let clash : [] ≡ Mark h.0 h.1 ∷ (h.2 ++ rest) = both ∙ ap (λ (x : List Lexeme). x ++ rest) h.4 in cc

  -- ---- a list of statements

  -- a statement takes a lexeme at least
  pub stmt_shorter : (s : Stmt) (old here new : List Lexeme) → IsStmt names putchar room s here → old ≡ here ++ new → length new < length old
  stmt_shorter s old here new one stood =
      elim (stmt_front names putchar room s here one) [
        | inl h ↦ by h.2 (Run h.0 h.1) (stood ∙ ap (λ (x : List Lexeme). x ++ new) h.3)
        | inr h ↦ by h.2 (Mark h.0 h.1) (stood ∙ ap (λ (x : List Lexeme). x ++ new) h.4)
      ]
    where
      by : (more : List Lexeme) (first : Lexeme) → old ≡ first ∷ (more ++ new) → length new < length old
      by more first same = omega (arith, ap length same, length-append more new)

  -- what is still to come of the statements that a derivation has
  pub record ToCome (all so_far : List Stmt) (tokens rest : List Lexeme) : Type 0 where
    pub more : List Stmt
    pub ahead : List Lexeme
    pub all_are : all ≡ so_far ++ more
    pub spelled : AreStmts (IsStmt names putchar room) more ahead
    pub stand : tokens ≡ ahead ++ rest

  -- what stands when some statements were read
  pub record StmtsSoFar (start tokens : List Lexeme) (list : List Stmt) : Type 0 where
    pub here : List Lexeme
    pub spelled : AreStmts (IsStmt names putchar room) list here
    pub stood : start ≡ here ++ tokens
    pub only : (all : List Stmt) (front rest : List Lexeme) → AreStmts (IsStmt names putchar room) all front → EndsBlock rest → start ≡ front ++ rest → ToCome all list tokens rest

  pub stmts_start : (start : List Lexeme) (list : List Stmt) → list ≡ [] → StmtsSoFar start start list
  stmts_start start list none =
      record {
        here = [];
        spelled = subst (λ (l : List Stmt). AreStmts (IsStmt names putchar room) l []) (sym none) refl;
        stood = refl;
        only = λ all front rest are ends stands. record { more = all; ahead = front; all_are = ap (λ (l : List Stmt). l ++ all) (sym none); spelled = are; stand = stands };
      }

  stmts-snoc : (list : List Stmt) (here : List Lexeme) (s : Stmt) (more : List Lexeme) → AreStmts (IsStmt names putchar room) list here → IsStmt names putchar room s more → AreStmts (IsStmt names putchar room) (list ++ (s ∷ [])) (here ++ more)
  stmts-snoc [] here s more none one = (more, [], ap (λ (x : List Lexeme). x ++ more) none ∙ sym (append-nil more), one, refl)
  stmts-snoc (k ∷ ks) here s more (h, r, same, first, rest) one = (h, r ++ more, ap (λ (x : List Lexeme). x ++ more) same ∙ append_assoc h r more, first, stmts-snoc ks r s more rest one)

  module _ (start tokens : List Lexeme) (list : List Stmt) (a : StmtsSoFar start tokens list) where
    -- a brace ends them
    pub stmts_end : (line : ℕ) (behind : List Lexeme) → tokens ≡ Mark 125 line ∷ behind → Reads (AreStmts (IsStmt names putchar room)) EndsBlock (Ok list) start tokens
    stmts_end line behind brace =
        record {
          found = (a.here, a.spelled, a.stood);
          only = λ all front rest are ends stands. let c = a.only all front rest are ends stands in by all rest c.more c.ahead c.all_are c.spelled c.stand;
        }
      where
        no_brace : (s : Stmt) (h r : List Lexeme) → IsStmt names putchar room s h → Mark 125 line ∷ behind ≡ h ++ r → ⊥
        no_brace s h r one both =
            elim (stmt_front names putchar room s h one) [
              | inl w ↦ (let clash : Mark 125 line ∷ behind ≡ Run w.0 w.1 ∷ (w.2 ++ r) = both ∙ ap (λ (x : List Lexeme). x ++ r) w.3 in cc)
              | inr w ↦ (let same : Mark 125 line ∷ behind ≡ Mark w.0 w.1 ∷ (w.2 ++ r) = both ∙ ap (λ (x : List Lexeme). x ++ r) w.4 in
                  let byte : 125 ≡ w.0 = cc in
                  elim w.3 [ inl e ↦ absurd (omega (arith, e, byte)) | inr e ↦ absurd (omega (arith, e, byte)) ])
            ]

        by : (all : List Stmt) (rest : List Lexeme) (more : List Stmt) (ahead : List Lexeme) → all ≡ list ++ more → AreStmts (IsStmt names putchar room) more ahead → tokens ≡ ahead ++ rest → (list ≡ all) × (tokens ≡ rest)
        by all rest [] ahead all_are none stand = (sym (all_are ∙ append-nil list), stand ∙ ap (λ (x : List Lexeme). x ++ rest) none)
        by all rest (k ∷ ks) ahead all_are (h, r, same, one, others) stand =
            absurd (no_brace k h (r ++ rest) one (sym brace ∙ (stand ∙ (ap (λ (x : List Lexeme). x ++ rest) same ∙ append_assoc h r rest))))

    module _ (no_brace : (l : ℕ) (rest : List Lexeme) → tokens ≡ Mark 125 l ∷ rest → ⊥) where
      -- where no brace stands, the derivation has a statement
      next_stmt : (all : List Stmt) (rest : List Lexeme) → EndsBlock rest → ToCome all list tokens rest → (s : Stmt) × (others : List Stmt) × (h r : List Lexeme) × (all ≡ list ++ (s ∷ others)) × IsStmt names putchar room s h × AreStmts (IsStmt names putchar room) others r × (tokens ≡ h ++ (r ++ rest))
      next_stmt all rest ends c = by c.more c.ahead c.all_are c.spelled c.stand
        where
          by : (more : List Stmt) (ahead : List Lexeme) → all ≡ list ++ more → AreStmts (IsStmt names putchar room) more ahead → tokens ≡ ahead ++ rest → (s : Stmt) × (others : List Stmt) × (h r : List Lexeme) × (all ≡ list ++ (s ∷ others)) × IsStmt names putchar room s h × AreStmts (IsStmt names putchar room) others r × (tokens ≡ h ++ (r ++ rest))
          by [] ahead all_are none stand = absurd (no_brace ends.0 ends.1 (stand ∙ (ap (λ (x : List Lexeme). x ++ rest) none ∙ ends.2)))
          by (k ∷ ks) ahead all_are (h, r, same, one, others) stand = (k, ks, h, r, all_are, one, others, stand ∙ (ap (λ (x : List Lexeme). x ++ rest) same ∙ append_assoc h r rest))

      pub stmts_fail : (fault : ReadFault) (new : List Lexeme) → Reads (IsStmt names putchar room) EndsAnywhere (Err fault) tokens new → Reads (AreStmts (IsStmt names putchar room)) EndsBlock (Err fault) start new
      stmts_fail fault new r =
          record {
            found = tt;
            only = λ all front rest are ends stands.
                let n = next_stmt all rest ends (a.only all front rest are ends stands) in
                same_fault fault new n.0 (n.3 ++ rest) new all rest (r.only n.0 n.2 (n.3 ++ rest) n.5 tt n.7);
          }

      pub stmts_more : (s : Stmt) (new : List Lexeme) → Reads (IsStmt names putchar room) EndsAnywhere (Ok s) tokens new → StmtsSoFar start new (list ++ (s ∷ []))
      stmts_more s new r =
          record {
            here = a.here ++ r.found.0;
            spelled = stmts-snoc list a.here s r.found.0 a.spelled r.found.1;
            stood = a.stood ∙ (ap (λ (x : List Lexeme). a.here ++ x) r.found.2 ∙ sym (append_assoc a.here r.found.0 new));
            only = λ all front rest are ends stands.
                let n = next_stmt all rest ends (a.only all front rest are ends stands) in
                let read = r.only n.0 n.2 (n.3 ++ rest) n.5 tt n.7 in
                record {
                  more = n.1;
                  ahead = n.3;
                  all_are = n.4 ∙ (ap (λ (x : Stmt). list ++ (x ∷ n.1)) (sym read.0) ∙ sym (append_assoc list (s ∷ []) n.1));
                  spelled = n.6;
                  stand = read.1;
                };
          }
