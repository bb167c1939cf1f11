-- How `main` and a whole file are put together.
use Rattle.std.proofs.Common.{◌≡◌, ℕ, ◌-◌, ◌<◌, ◌≤◌, Bool, true, false, List, [], ◌∷◌, ◌++◌, length, map, refl, sym, ap, subst, ◌∙◌, arith, codes}
use Rattle.std.specs.Prelude.{Ok, Err, Result, IfOk}
use Rattle.form_tree.specs.declared.stmt.LocalDef.{LocalDef}
use Rattle.form_tree.specs.declared.stmt.Stmt.{Stmt}
use Rattle.form_tree.specs.declared.stmt.Stmt.TheVariants.{Block}
use Rattle.form_tree.specs.declared.program.FunctionDef.{FunctionDef}
use Rattle.form_tree.specs.Fits.{StmtFits}
use Rattle.form_tree.specs.Plain.{PlainProgram, plain_program}
use Rattle.form_tree.specs.Temps.{values_of}
use Rattle.form_reader.specs.declared.form.ReadFault.{ReadFault}
use Rattle.form_reader.specs.declared.form.ReadFault.TheVariants.{NotForm, NoMemory}
use Rattle.form_reader.specs.declared.form.TheConstants.{MOST_BYTES, MOST_NESTING, MOST_VALUES, INTRO}
use Rattle.form_reader.specs.Lexemes.{Lexeme, Run, Mark, Twin, lexemes}
use Rattle.form_reader.specs.Grammar.{front_line, AreStmts, IsStmt}
use Rattle.form_reader.specs.Form.{text_of, PlainDeclared, plain_declared, AreDeclarations, intro_texts, head_texts, main_of, IsMain, HasForm}
use Rattle.form_reader.specs.Reading.{IsReadAs, IsJust, Reads, EndsBlock, EndsDeclarations}
use Rattle.form_reader.proofs.Fronts.{same_front}
use Rattle.form_reader.proofs.Fitting.{block_fits, stmts_fit, stmt_fits}
use Rattle.form_reader.proofs.Declaring.{declared_numbers, no_stmt_int}

-- an error that is known of a part is the error of the whole
pub just_fault : {T U L : Type 0} (e : ReadFault) (new : List L) (t : T) (rest : List L) (u : U) → IsReadAs {T = T} {L = L} (Err e) new t rest → IsJust {T = U} (Err e) u
just_fault NoMemory new t rest u h = tt
just_fault NotForm new t rest u h = absurd h

-- a head is not empty, so its line is the line in front
front_is : (head rest : List Lexeme) → map text_of head ≡ head_texts → front_line (head ++ rest) ≡ front_line head
front_is [] rest texts = absurd cc
front_is (Run bytes line ∷ head) rest texts = refl
front_is (Mark byte line ∷ head) rest texts = refl
front_is (Twin line ∷ head) rest texts = refl

-- what was declared and read fits
pub main_fits : (d : PlainDeclared) (declared : List Lexeme) (body : List Stmt) (statements : List Lexeme) (putchar : Bool) (room : ℕ) → AreDeclarations [] d.names d.locals declared → AreStmts (IsStmt d.names putchar room) body statements → StmtFits (length d.names) (Block d.locals body)
main_fits d declared body statements putchar room are spelled =
    block_fits (length d.names) d.locals body (declared_numbers (length d.names) [] d.names d.locals declared are (omega arith)) (stmts_fit d.names (IsStmt d.names putchar room) (stmt_fits d.names putchar room) body statements spelled)

-- a function's values are its names and 8 at the least
few_names : (line : ℕ) (names : List (List ℕ)) (locals : List LocalDef) (body : List Stmt) → values_of (main_of line (length names) locals body) ≤ MOST_VALUES → length names ≤ 256
few_names line names locals body within = omega arith

module _ (putchar : Bool) (start : List Lexeme) (head old : List Lexeme) (headed : start ≡ head ++ old) (texts : map text_of head ≡ head_texts) where
  -- behind the head
  behind_head : (program : PlainProgram) (m : IsMain putchar program start) → (head ≡ m.head) × (old ≡ m.declared ++ (m.statements ++ (Mark 125 m.end ∷ [])))
  behind_head program m = same_front head m.head old (m.declared ++ (m.statements ++ (Mark 125 m.end ∷ []))) (texts ∙ sym m.head_is) (sym headed ∙ m.spelled)

  module _ (result : Result PlainDeclared ReadFault) (middle : List Lexeme) (only : (d : PlainDeclared) (here rest : List Lexeme) → AreDeclarations [] d.names d.locals here → length d.names ≤ 256 → EndsDeclarations rest → old ≡ here ++ rest → IsReadAs result middle d rest) where
    as_declared : (program : PlainProgram) (m : IsMain putchar program start) → IsReadAs result middle (plain_declared m.names m.locals) (m.statements ++ (Mark 125 m.end ∷ []))
    as_declared program m =
        only (plain_declared m.names m.locals) m.declared (m.statements ++ (Mark 125 m.end ∷ [])) m.declared_are (few_names (front_line m.head) m.names m.locals m.body m.values)
        (no_stmt_int m.names m.locals m.declared m.declared_are putchar (MOST_NESTING - 1) m.end m.body m.statements m.statements_are) (behind_head program m).1

  pub declarations_fail : (fault : ReadFault) (middle : List Lexeme) → ((d : PlainDeclared) (here rest : List Lexeme) → AreDeclarations [] d.names d.locals here → length d.names ≤ 256 → EndsDeclarations rest → old ≡ here ++ rest → IsReadAs (Err fault) middle d rest) → (program : PlainProgram) → IsMain putchar program start → IsJust {T = PlainProgram} (Err fault) program
  declarations_fail fault middle only program m = just_fault fault middle (plain_declared m.names m.locals) (m.statements ++ (Mark 125 m.end ∷ [])) program (as_declared (Err fault) middle only program m)

  module _ (d : PlainDeclared) (middle : List Lexeme) (only : (e : PlainDeclared) (here rest : List Lexeme) → AreDeclarations [] e.names e.locals here → length e.names ≤ 256 → EndsDeclarations rest → old ≡ here ++ rest → (d ≡ e) × (middle ≡ rest)) where
    as_stmts : (program : PlainProgram) (m : IsMain putchar program start) → (d ≡ plain_declared m.names m.locals) × (middle ≡ m.statements ++ (Mark 125 m.end ∷ [])) × AreStmts (IsStmt d.names putchar (MOST_NESTING - 1)) m.body m.statements
    as_stmts program m =
        let read = as_declared (Ok d) middle only program m in
        (read.0, read.1, subst (λ (e : PlainDeclared). AreStmts (IsStmt e.names putchar (MOST_NESTING - 1)) m.body m.statements) (sym read.0) m.statements_are)

    pub statements_fail : (fault : ReadFault) (behind : List Lexeme) → Reads (AreStmts (IsStmt d.names putchar (MOST_NESTING - 1))) EndsBlock (Err fault) middle behind → (program : PlainProgram) → IsMain putchar program start → IsJust {T = PlainProgram} (Err fault) program
    statements_fail fault behind r program m =
        let k = as_stmts program m in
        just_fault fault behind m.body (Mark 125 m.end ∷ []) program (r.only m.body m.statements (Mark 125 m.end ∷ []) k.2 (m.end, [], refl) k.1)

    module _ (body : List Stmt) (behind : List Lexeme) (r : Reads (AreStmts (IsStmt d.names putchar (MOST_NESTING - 1))) EndsBlock (Ok body) middle behind) where
      pub not_ended : ((line : ℕ) → behind ≡ Mark 125 line ∷ [] → ⊥) → (program : PlainProgram) → IsMain putchar program start → ⊥
      not_ended none program m =
          let k = as_stmts program m in
          let read = r.only m.body m.statements (Mark 125 m.end ∷ []) k.2 (m.end, [], refl) k.1 in
          none m.end read.1

      -- the program that is made is the one that the derivation has
      pub the_main : (line : ℕ) → line ≡ front_line start → (program : PlainProgram) → (m : IsMain putchar program start) → (main_of line (length d.names) d.locals body ≡ main_of (front_line m.head) (length m.names) m.locals m.body) × (program ≡ plain_program (main_of line (length d.names) d.locals body ∷ []) 0)
      the_main line at program m =
          let k = as_stmts program m in
          let read = r.only m.body m.statements (Mark 125 m.end ∷ []) k.2 (m.end, [], refl) k.1 in
          let lines : line ≡ front_line m.head = at ∙ (ap front_line headed ∙ (front_is head old texts ∙ ap front_line (behind_head program m).0)) in
          let same : main_of line (length d.names) d.locals body ≡ main_of (front_line m.head) (length m.names) m.locals m.body = (λ i. main_of (lines i) (length (k.0 i).names) (k.0 i).locals (read.0 i)) in
          (same, m.program_is ∙ ap (λ (f : FunctionDef). plain_program (f ∷ []) 0) (sym same))

      pub too_many : (line : ℕ) → line ≡ front_line start → MOST_VALUES < values_of (main_of line (length d.names) d.locals body) → (program : PlainProgram) → IsMain putchar program start → ⊥
      too_many line at many program m =
          let k = the_main line at program m in
          omega (arith, ap values_of k.0, many, m.values)

      pub is_main : (line end : ℕ) (declared : List Lexeme) (program : PlainProgram) → line ≡ front_line start → AreDeclarations [] d.names d.locals declared → old ≡ declared ++ middle → behind ≡ Mark 125 end ∷ [] → program ≡ plain_program (main_of line (length d.names) d.locals body ∷ []) 0 → values_of (main_of line (length d.names) d.locals body) ≤ MOST_VALUES → IsMain putchar program start
      is_main line end declared program at are split ended made within =
          let lines : line ≡ front_line head = at ∙ (ap front_line headed ∙ front_is head old texts) in
          record {
            names = d.names;
            locals = d.locals;
            body = body;
            head = head;
            declared = declared;
            statements = r.found.0;
            end = end;
            spelled = headed ∙ ap (λ (x : List Lexeme). head ++ x) (split ∙ ap (λ (x : List Lexeme). declared ++ x) (r.found.2 ∙ ap (λ (x : List Lexeme). r.found.0 ++ x) ended));
            head_is = texts;
            declared_are = are;
            statements_are = r.found.1;
            program_is = made ∙ ap (λ (n : ℕ). plain_program (main_of n (length d.names) d.locals body ∷ []) 0) lines;
            values = subst (λ (n : ℕ). values_of (main_of n (length d.names) d.locals body) ≤ MOST_VALUES) lines within;
          }

-- ---- a whole file

-- a file can't begin with both
pub both_heads : (intro main head rest : List Lexeme) → map text_of intro ≡ intro_texts true → map text_of head ≡ head_texts → intro ++ main ≡ head ++ rest → ⊥
both_heads [] main head rest intro_is head_is same = cc
both_heads (a ∷ []) main head rest intro_is head_is same = cc
both_heads (a ∷ (b ∷ intro)) main [] rest intro_is head_is same = cc
both_heads (a ∷ (b ∷ intro)) main (c ∷ []) rest intro_is head_is same = cc
both_heads (a ∷ (b ∷ intro)) main (c ∷ (d ∷ head)) rest intro_is head_is same =
    let one : b ≡ d = cc in
    let left : text_of b ≡ codes "putchar" = cc in
    let right : text_of d ≡ codes "main" = cc in
    let clash : codes "putchar" ≡ codes "main" = sym left ∙ (ap text_of one ∙ right) in
    cc

pub no_texts : (intro : List Lexeme) → map text_of intro ≡ [] → intro ≡ []
no_texts [] none = refl
no_texts (a ∷ intro) none = absurd cc

pub form_with : (file : List ℕ) (program : PlainProgram) (intro main : List Lexeme) → length file ≤ MOST_BYTES → lexemes 1 file ≡ intro ++ main → map text_of intro ≡ map (λ text. text.now) INTRO → IsMain true program main → HasForm file program
form_with file program intro main size spelled texts is =
    record { size = size; putchar = true; intro = intro; main = main; spelled = spelled; intro_is = texts; main_is = is }

pub form_without : (file : List ℕ) (program : PlainProgram) → length file ≤ MOST_BYTES → IsMain false program (lexemes 1 file) → HasForm file program
form_without file program size is =
    record { size = size; putchar = false; intro = []; main = lexemes 1 file; spelled = refl; intro_is = refl; main_is = is }

pub main_with : (file : List ℕ) (program : PlainProgram) (intro main : List Lexeme) → lexemes 1 file ≡ intro ++ main → map text_of intro ≡ map (λ text. text.now) INTRO → HasForm file program → IsMain true program main
main_with file program intro main spelled texts h = by h.putchar h.intro_is h.main_is
  where
    by : (putchar : Bool) → map text_of h.intro ≡ intro_texts putchar → IsMain putchar program h.main → IsMain true program main
    by true other m =
        let same = same_front intro h.intro main h.main (texts ∙ sym other) (sym spelled ∙ h.spelled) in
        subst (λ (x : List Lexeme). IsMain true program x) (sym same.1) m
    by false other m =
        let none : h.intro ≡ [] = no_texts h.intro other in
        absurd (both_heads intro main m.head (m.declared ++ (m.statements ++ (Mark 125 m.end ∷ []))) texts m.head_is (sym spelled ∙ (h.spelled ∙ (ap (λ (x : List Lexeme). x ++ h.main) none ∙ m.spelled))))

pub main_without : (file : List ℕ) (program : PlainProgram) → ((front rest : List Lexeme) → lexemes 1 file ≡ front ++ rest → map text_of front ≡ map (λ text. text.now) INTRO → ⊥) → HasForm file program → IsMain false program (lexemes 1 file)
main_without file program no_intro h = by h.putchar h.intro_is h.main_is
  where
    by : (putchar : Bool) → map text_of h.intro ≡ intro_texts putchar → IsMain putchar program h.main → IsMain false program (lexemes 1 file)
    by true other m = absurd (no_intro h.intro h.main h.spelled other)
    by false other m =
        let none : h.intro ≡ [] = no_texts h.intro other in
        subst (λ (x : List Lexeme). IsMain false program x) (sym (h.spelled ∙ ap (λ (x : List Lexeme). x ++ h.main) none)) m

-- ---- results

-- what two clauses say of a result that is no error
pub ok_both : {T E : Type 0} (r : Result T E) (P Q R : T → Type 0) → IfOk r P → IfOk r Q → ((x : T) → P x → Q x → R x) → IfOk r R
ok_both (Ok x) P Q R p q both = both x p q
ok_both (Err e) P Q R p q both = tt

pub ok_map : {T E : Type 0} (r : Result T E) (P R : T → Type 0) → IfOk r P → ((x : T) → P x → R x) → IfOk r R
ok_map (Ok x) P R p f = f x p
ok_map (Err e) P R p f = tt

-- a result that is the known tree where it is no error, and no refusal
pub just_known : {T : Type 0} (r : Result T ReadFault) (known : T) → IfOk r (λ x. x ≡ known) → (r ≡ Err NotForm → ⊥) → IsJust r known
just_known (Ok x) known made refused = made
just_known (Err NoMemory) known made refused = tt
just_known (Err NotForm) known made refused = refused refl
