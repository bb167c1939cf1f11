-- How a list of declarations is read.
use Rattle.std.proofs.Common.{◌≡◌, ℕ, ◌+◌, ◌<◌, ◌≤◌, zero, suc, Bool, true, List, [], ◌∷◌, ◌++◌, length, refl, sym, ap, subst, ◌∙◌, arith, append_assoc, append-nil, length-append, codes, get_or}
use Rattle.std.specs.Prelude.{Some, None, All, position}
use Rattle.std.specs.Str.{bytes_eq}
use Rattle.std.specs.Cmp.Lexicographic.{same_text}
use Rattle.std.proofs.lemmas.List.Quantifiers.{position-Some}
use Rattle.std.proofs.lemmas.List.Elements.{All-nil, All-cons}
use Rattle.form_tree.specs.declared.stmt.LocalDef.{LocalDef}
use Rattle.form_tree.specs.declared.stmt.Stmt.{Stmt}
use Rattle.form_reader.specs.Grammar.{AreStmts, IsStmt}
use Rattle.form_reader.proofs.Worded.{WordCase, return_case, assign_case, loop_case, put_case, word_case, differ}
use Rattle.form_reader.specs.Lexemes.{Lexeme, Run, Mark}
use Rattle.form_reader.specs.Form.{reserved, IsName, IsNew, PlainDeclared, plain_declared, local_of, declaration, AreDeclarations}
use Rattle.form_reader.specs.Reading.{EndsDeclarations}

-- as many locals as names, and each at its number
pub declared_numbers : (n : ℕ) (seen names : List (List ℕ)) (locals : List LocalDef) (here : List Lexeme) → AreDeclarations seen names locals here → length seen + length names ≤ n → All (λ (d : LocalDef). d.local < n) locals
declared_numbers n seen [] [] here are within = All-nil (λ (d : LocalDef). d.local < n)
declared_numbers n seen [] (d ∷ locals) here are within = absurd are
declared_numbers n seen (name ∷ names) [] here are within = absurd are
declared_numbers n seen (name ∷ names) (d ∷ locals) here (first, line, end, rest, same, is, new, made, others) within =
    All-cons (λ (x : LocalDef). x.local < n) d locals
    (subst (λ (x : LocalDef). x.local < n) (sym made) (omega arith))
    (declared_numbers n (seen ++ (name ∷ [])) names locals rest others (omega (arith, length-append seen (name ∷ []))))

-- one more behind them
declared_more : (seen names : List (List ℕ)) (locals : List LocalDef) (here : List Lexeme) (first line end : ℕ) (name : List ℕ) → AreDeclarations seen names locals here → IsName name → IsNew (seen ++ names) name → AreDeclarations seen (names ++ (name ∷ [])) (locals ++ (local_of line (length (seen ++ names)) ∷ [])) (here ++ declaration first name line end)
declared_more seen [] [] here first line end name none is new =
    (first, line, end, [], ap (λ (x : List Lexeme). x ++ declaration first name line end) none, is, subst (λ (s : List (List ℕ)). IsNew s name) (append-nil seen) new, ap (λ (s : List (List ℕ)). local_of line (length s)) (append-nil seen), refl)
declared_more seen [] (d ∷ locals) here first line end name are is new = absurd are
declared_more seen (k ∷ names) [] here first line end name are is new = absurd are
declared_more seen (k ∷ names) (d ∷ locals) here first line end name (f, l, e, rest, same, k_is, k_new, made, others) is new =
    let one : seen ++ (k ∷ names) ≡ (seen ++ (k ∷ [])) ++ names = sym (append_assoc seen (k ∷ []) names) in
    let more = declared_more (seen ++ (k ∷ [])) names locals rest first line end name others is (subst (λ (s : List (List ℕ)). IsNew s name) one new) in (
      f,
      l,
      e,
      rest ++ declaration first name line end,
      ap (λ (x : List Lexeme). x ++ declaration first name line end) same ∙ append_assoc (declaration f k l e) rest (declaration first name line end),
      k_is,
      k_new,
      made,
      subst (λ (s : List (List ℕ)). AreDeclarations (seen ++ (k ∷ [])) (names ++ (name ∷ [])) (locals ++ (local_of line (length s) ∷ [])) (rest ++ declaration first name line end)) (sym one) more,
    )

-- what is still to come of the declarations that a derivation has
pub record ToDeclare (all d : PlainDeclared) (tokens rest : List Lexeme) : Type 0 where
  pub names : List (List ℕ)
  pub locals : List LocalDef
  pub ahead : List Lexeme
  pub all_names : all.names ≡ d.names ++ names
  pub all_locals : all.locals ≡ d.locals ++ locals
  pub spelled : AreDeclarations d.names names locals ahead
  pub stand : tokens ≡ ahead ++ rest

-- what stands when some declarations were read
pub record DeclaredSoFar (start tokens : List Lexeme) (d : PlainDeclared) : Type 0 where
  pub here : List Lexeme
  pub spelled : AreDeclarations [] d.names d.locals here
  pub stood : start ≡ here ++ tokens
  pub few : length d.names ≤ 256
  pub only : (all : PlainDeclared) (front rest : List Lexeme) → AreDeclarations [] all.names all.locals front → EndsDeclarations rest → start ≡ front ++ rest → ToDeclare all d tokens rest

pub declare_start : (start : List Lexeme) (d : PlainDeclared) → d ≡ plain_declared [] [] → DeclaredSoFar start start d
declare_start start d none =
    subst (λ (x : PlainDeclared). DeclaredSoFar start start x) (sym none)
    (record {
      here = [];
      spelled = refl;
      stood = refl;
      few = omega arith;
      only = λ all front rest are ends stands. record { names = all.names; locals = all.locals; ahead = front; all_names = refl; all_locals = refl; spelled = are; stand = stands };
    })

module _ (start tokens : List Lexeme) (d : PlainDeclared) (a : DeclaredSoFar start tokens d) where
  -- no `int` ends them
  pub declare_end : EndsDeclarations tokens → (all : PlainDeclared) (front rest : List Lexeme) → AreDeclarations [] all.names all.locals front → EndsDeclarations rest → start ≡ front ++ rest → (d ≡ all) × (tokens ≡ rest)
  declare_end none all front rest are ends stands = let c = a.only all front rest are ends stands in by c.names c.locals c.ahead c.all_names c.all_locals c.spelled c.stand
    where
      by : (names : List (List ℕ)) (locals : List LocalDef) (ahead : List Lexeme) → all.names ≡ d.names ++ names → all.locals ≡ d.locals ++ locals → AreDeclarations d.names names locals ahead → tokens ≡ ahead ++ rest → (d ≡ all) × (tokens ≡ rest)
      by [] [] ahead n l empty stand =
          let names_are : d.names ≡ all.names = sym (n ∙ append-nil d.names) in
          let locals_are : d.locals ≡ all.locals = sym (l ∙ append-nil d.locals) in
          ((λ i. plain_declared (names_are i) (locals_are i)), stand ∙ ap (λ (x : List Lexeme). x ++ rest) empty)
      by [] (k ∷ locals) ahead n l spelled stand = absurd spelled
      by (k ∷ names) [] ahead n l spelled stand = absurd spelled
      by (k ∷ names) (e ∷ locals) ahead n l (first, line, end, more, same, is, new, made, others) stand =
          absurd (none first (Run k line ∷ (Mark 59 end ∷ (more ++ rest))) (stand ∙ ap (λ (x : List Lexeme). x ++ rest) same))

  module _ (some : EndsDeclarations tokens → ⊥) where
    -- where an `int` stands, the derivation has a declaration
    next_declared : (all : PlainDeclared) (rest : List Lexeme) → EndsDeclarations rest → ToDeclare all d tokens rest → (name : List ℕ) × (names : List (List ℕ)) × (locals : List LocalDef) × (first line end : ℕ) × (more : List Lexeme) × (tokens ≡ declaration first name line end ++ (more ++ rest)) × IsName name × IsNew d.names name × (all.names ≡ d.names ++ (name ∷ names)) × (all.locals ≡ d.locals ++ (local_of line (length d.names) ∷ locals)) × AreDeclarations (d.names ++ (name ∷ [])) names locals more
    next_declared all rest ends c = by c.names c.locals c.ahead c.all_names c.all_locals c.spelled c.stand
      where
        by : (names : List (List ℕ)) (locals : List LocalDef) (ahead : List Lexeme) → all.names ≡ d.names ++ names → all.locals ≡ d.locals ++ locals → AreDeclarations d.names names locals ahead → tokens ≡ ahead ++ rest → (name : List ℕ) × (others : List (List ℕ)) × (behind : List LocalDef) × (first line end : ℕ) × (more : List Lexeme) × (tokens ≡ declaration first name line end ++ (more ++ rest)) × IsName name × IsNew d.names name × (all.names ≡ d.names ++ (name ∷ others)) × (all.locals ≡ d.locals ++ (local_of line (length d.names) ∷ behind)) × AreDeclarations (d.names ++ (name ∷ [])) others behind more
        by [] [] ahead n l empty stand = absurd (some (λ line more same. ends line more (sym (stand ∙ ap (λ (x : List Lexeme). x ++ rest) empty) ∙ same)))
        by [] (k ∷ locals) ahead n l spelled stand = absurd spelled
        by (k ∷ names) [] ahead n l spelled stand = absurd spelled
        by (k ∷ names) (e ∷ locals) ahead n l (first, line, end, more, same, is, new, made, others) stand =
            (k, names, locals, first, line, end, more, stand ∙ ap (λ (x : List Lexeme). x ++ rest) same, is, new, n, l ∙ ap (λ (x : LocalDef). d.locals ++ (x ∷ locals)) made, others)

    -- what stands there is no declaration
    pub declare_not : (new : List Lexeme) → ((first line end : ℕ) (name : List ℕ) (rest : List Lexeme) → tokens ≡ declaration first name line end ++ rest → ⊥) → (all : PlainDeclared) (front rest : List Lexeme) → AreDeclarations [] all.names all.locals front → EndsDeclarations rest → start ≡ front ++ rest → ⊥
    declare_not new none all front rest are ends stands =
        let n = next_declared all rest ends (a.only all front rest are ends stands) in
        none n.3 n.4 n.5 n.0 (n.6 ++ rest) n.7

    module _ (first line end : ℕ) (name : List ℕ) (new : List Lexeme) (at : tokens ≡ declaration first name line end ++ new) where
      -- the derivation has just this one
      the_same : (all : PlainDeclared) (rest : List Lexeme) → EndsDeclarations rest → ToDeclare all d tokens rest → (names : List (List ℕ)) × (locals : List LocalDef) × (more : List Lexeme) × (new ≡ more ++ rest) × IsName name × IsNew d.names name × (all.names ≡ d.names ++ (name ∷ names)) × (all.locals ≡ d.locals ++ (local_of line (length d.names) ∷ locals)) × AreDeclarations (d.names ++ (name ∷ [])) names locals more
      the_same all rest ends c =
          let n = next_declared all rest ends c in
          let both : Run (codes "int") first ∷ (Run name line ∷ (Mark 59 end ∷ new)) ≡ Run (codes "int") n.3 ∷ (Run n.0 n.4 ∷ (Mark 59 n.5 ∷ (n.6 ++ rest))) = sym at ∙ n.7 in
          let name_is : n.0 ≡ name = cc in
          let line_is : n.4 ≡ line = cc in
          let behind : new ≡ n.6 ++ rest = cc in (
            n.1,
            n.2,
            n.6,
            behind,
            subst IsName name_is n.8,
            subst (λ (x : List ℕ). IsNew d.names x) name_is n.9,
            n.10 ∙ ap (λ (x : List ℕ). d.names ++ (x ∷ n.1)) name_is,
            n.11 ∙ ap (λ (x : ℕ). d.locals ++ (local_of x (length d.names) ∷ n.2)) line_is,
            subst (λ (x : List ℕ). AreDeclarations (d.names ++ (x ∷ [])) n.1 n.2 n.6) name_is n.12,
          )

      pub declare_full : length d.names ≡ 256 → (all : PlainDeclared) (front rest : List Lexeme) → AreDeclarations [] all.names all.locals front → length all.names ≤ 256 → EndsDeclarations rest → start ≡ front ++ rest → ⊥
      declare_full full all front rest are few ends stands =
          let n = the_same all rest ends (a.only all front rest are ends stands) in
          omega (arith, ap length n.6, length-append d.names (name ∷ n.0))

      pub declare_wrong : (IsName name → IsNew d.names name → ⊥) → (all : PlainDeclared) (front rest : List Lexeme) → AreDeclarations [] all.names all.locals front → EndsDeclarations rest → start ≡ front ++ rest → ⊥
      declare_wrong wrong all front rest are ends stands =
          let n = the_same all rest ends (a.only all front rest are ends stands) in
          wrong n.4 n.5

      pub declare_more : (e : PlainDeclared) → e ≡ plain_declared (d.names ++ (name ∷ [])) (d.locals ++ (local_of line (length d.names) ∷ [])) → IsName name → IsNew d.names name → length d.names < 256 → DeclaredSoFar start new e
      declare_more e made is fresh room =
          subst (λ (x : PlainDeclared). DeclaredSoFar start new x) (sym made)
          (record {
            here = a.here ++ declaration first name line end;
            spelled = declared_more [] d.names d.locals a.here first line end name a.spelled is fresh;
            stood = a.stood ∙ (ap (λ (x : List Lexeme). a.here ++ x) at ∙ sym (append_assoc a.here (declaration first name line end) new));
            few = omega (arith, length-append d.names (name ∷ []));
            only = λ all front rest are ends stands.
                let n = the_same all rest ends (a.only all front rest are ends stands) in
                record {
                  names = n.0;
                  locals = n.1;
                  ahead = n.2;
                  all_names = n.6 ∙ sym (append_assoc d.names (name ∷ []) n.0);
                  all_locals = n.7 ∙ sym (append_assoc d.locals (local_of line (length d.names) ∷ []) n.1);
                  spelled = n.8;
                  stand = n.3;
                };
          })

      pub declare_shorter : length new < length tokens
      declare_shorter = omega (arith, ap length at)

-- `int` is the name of no local
no_some : (x : ℕ) → Some x ≡ None → ⊥
no_some x same = cc

not_int : (name : List ℕ) → IsName name → bytes_eq name (codes "int") ≡ true → ⊥
not_int name is same =
    let text : name ≡ codes "int" = same_text name (codes "int") (sym same) in
    no_some 17 (subst (λ (n : List ℕ). IsNew reserved n) text is.free)

not_int_at : (seen names : List (List ℕ)) (locals : List LocalDef) (here : List Lexeme) (i : ℕ) → AreDeclarations seen names locals here → i < length names → bytes_eq (get_or names i []) (codes "int") ≡ true → ⊥
not_int_at seen [] locals here i are within = absurd (omega arith)
not_int_at seen (name ∷ names) [] here i are within = absurd are
not_int_at seen (name ∷ names) (d ∷ locals) here zero (f, l, e, rest, same, is, new, made, others) within = not_int name is
not_int_at seen (name ∷ names) (d ∷ locals) here (suc i) (f, l, e, rest, same, is, new, made, others) within = not_int_at (seen ++ (name ∷ [])) names locals rest i others (omega arith)

pub no_int : (names : List (List ℕ)) (locals : List LocalDef) (here : List Lexeme) (i : ℕ) → AreDeclarations [] names locals here → position (λ name. bytes_eq name (codes "int")) names ≡ Some i → ⊥
no_int names locals here i are found =
    let at = position-Some (λ name. bytes_eq name (codes "int")) names i [] found in
    not_int_at [] names locals here i are at.0 at.1

-- so no statement begins with it
pub no_stmt_int : (names : List (List ℕ)) (locals : List LocalDef) (declared : List Lexeme) → AreDeclarations [] names locals declared → (putchar : Bool) (room end : ℕ) (body : List Stmt) (here : List Lexeme) → AreStmts (IsStmt names putchar room) body here → EndsDeclarations (here ++ (Mark 125 end ∷ []))
no_stmt_int names locals declared are putchar room end [] here none line rest same =
    let clash : Mark 125 end ∷ [] ≡ Run (codes "int") line ∷ rest = sym (ap (λ (x : List Lexeme). x ++ (Mark 125 end ∷ [])) none) ∙ same in
    cc
no_stmt_int names locals declared are putchar room end (s ∷ body) here (front, behind, split, one, others) line rest same =
    by (word_case names putchar room s front (behind ++ (Mark 125 end ∷ [])) rest (codes "int") line one (sym same ∙ (ap (λ (x : List Lexeme). x ++ (Mark 125 end ∷ [])) split ∙ append_assoc front behind (Mark 125 end ∷ []))))
  where
    by : WordCase names putchar room s (codes "int") line rest (behind ++ (Mark 125 end ∷ [])) → ⊥
    by (return_case value inner word stood made closed) = differ (codes "int") (codes "return") (codes "int") refl refl word refl
    by (assign_case sign place value inner some other known stood made closed) = no_int names locals declared place are known
    by (loop_case left test body inner last some word stood made closed last_is) = differ (codes "int") (codes "while") (codes "int") refl refl word refl
    by (put_case left last value inner some word there stood made closed) = differ (codes "int") (codes "putchar") (codes "int") refl refl word refl
