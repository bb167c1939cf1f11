-- What is claimed of expressions and files follows from how they are read.
use Rattle.std.proofs.Common.{◌≡◌, ℕ, suc, ◌+◌, ◌-◌, ◌≤◌, Bool, true, List, [], ◌∷◌, ◌++◌, length, refl, sym, ap, ◌∙◌, subst, arith, append-nil, length-append}
use Rattle.c_parts.specs.declared.terminal.Terminal.TheVariants as t
use Rattle.c_parts.specs.declared.lexeme.Lexeme.{Lexeme}
use Rattle.c_parts.specs.Scopes.{State}
use Rattle.c_parts.specs.Kinds.{Kinds, has, disjoint}
use Rattle.c_parts.specs.Part.{Part}
use Rattle.c_parts.specs.Production.{Production, mark, sign, ◌&◌, made}
use Rattle.c_parts.specs.Reading.{Reader, Why, Syntax, Deep, Answer, Took, Refused, left_of}
use Rattle.c_parts.proofs.Laws.{Reads, Sound, Taken, Reached}
use Rattle.c_parts.proofs.Agree.{Agrees}
use Rattle.c_parts.proofs.Good.{Good, and-good, made-good, token-good}
use Rattle.c_parts.proofs.Unbounded.{above, above-is, one-tree, spells-grows, syntax-exact, syntax-none, taken-stops, deep-exact, deep-not-at, deep-somewhere}
use Rattle.c_syntax.specs.declared.expr.Expr.{Expr}
use Rattle.c_syntax.specs.declared.file.File.{File}
use Rattle.c_syntax.specs.Grammar.{inner}
use Rattle.c_syntax.specs.Files.{bodies}
use Rattle.c_syntax.specs.Spelling.{Nesting, expressions, whole_expressions, files, most_nesting, Spells, IsRefusedAt, IsRefused, IsRightlyRefused, HaveOneTree, SpelledBegin, PrefixesBegin, NestingGrows}
use Rattle.c_syntax.proofs.Expressions.{expression-good}
use Rattle.c_syntax.proofs.Levels.{same-level, two-levels}
use Rattle.c_syntax.proofs.Statements.{file-good}
use Rattle.c_syntax.proofs.BodyLevels.{same-bodies, two-bodies}

-- how it is read, at each level and at two
pub record IsRead {X : Type 0} (p : Nesting X) : Type 0 where
  pub starts : Kinds
  pub goes_on : Kinds
  pub reads : (d : ℕ) → Reads (p d).part (has starts) (has goes_on) (p d).read
  pub agrees : (d k : ℕ) → Agrees true (p d).read (p (above d k)).read

place-of : (ts us rest : List Lexeme) → ts ≡ us ++ rest → length us ≡ length ts - length rest
place-of ts us rest e = let k : length ts ≡ length us + length rest = ap length e ∙ length-append us rest in omega (arith, k)

module _ {X : Type 0} (p : Nesting X) (r : IsRead p) where
  abbrev part_at : ℕ → Part X
  part_at d = (p d).part

  abbrev reader_at : ℕ → Reader X
  reader_at d = (p d).read

  pub have-one-tree : HaveOneTree p
  have-one-tree d e n m k ts x y h w = (one-tree part_at reader_at r.reads r.agrees d e n ts x y m k h w).0

  pub spelled-begin : SpelledBegin p
  spelled-begin d n m ts x h = (r.reads d).front n ts x m h

  pub prefixes-begin : PrefixesBegin p
  prefixes-begin d n us vs h = (r.reads d).closed n us vs h

  pub nesting-grows : NestingGrows p
  nesting-grows d k n m ts x h =
      subst (λ e. (part_at e).Spells n ts x m) (above-is d k ∙ (let e : suc (suc (d + k)) ≡ 2 + d + k = omega arith in e))
      (spells-grows part_at reader_at r.reads r.agrees d k n ts x m h)

  -- what is read is spelled
  read-is-spelled : (n : State) (ts : List Lexeme) (x : X) (m : State) → reader_at most_nesting n ts ≡ Took x [] m → Spells p most_nesting n ts x
  read-is-spelled n ts x m e =
      let w : Taken (part_at most_nesting) n ts x [] m = subst (λ a. Sound (part_at most_nesting) n ts a) e ((r.reads most_nesting).sound n ts) in
      record { after = m; spells = subst (λ l. (part_at most_nesting).Spells n l x m) (sym (w.whole ∙ append-nil w.taken)) w.spells }

  -- what is spelled is read
  spelled-is-read : (n : State) (ts : List Lexeme) (x : X) (h : Spells p most_nesting n ts x) → reader_at most_nesting n ts ≡ Took x [] h.after
  spelled-is-read n ts x h = subst (λ l. reader_at most_nesting n l ≡ Took x [] h.after) (append-nil ts) ((r.reads most_nesting).complete n ts x h.after [] h.spells refl)

  refused-at : (why : Why) (n : State) (us rest : List Lexeme) → reader_at most_nesting n (us ++ rest) ≡ Refused why rest → IsRefusedAt p why n us rest
  refused-at Syntax n us [] e = λ d x h.
      syntax-none part_at reader_at r.reads r.agrees most_nesting n us [] (subst (λ l. reader_at most_nesting n l ≡ Refused Syntax []) (append-nil us) e) d x h.after h.spells
  refused-at Syntax n us (t ∷ rest) e = λ d. syntax-exact part_at reader_at r.reads r.agrees most_nesting n us rest t e d
  refused-at Deep n us [] e =
      let w = deep-somewhere part_at reader_at r.reads r.agrees most_nesting n (us ++ []) [] e in
      let p : length w.more ≤ length w.more = omega arith in
      absurd (let k : suc (length w.more) ≤ 0 = w.past in omega (arith, k))
  refused-at Deep n us (t ∷ rest) e = (
    deep-not-at part_at reader_at r.reads r.agrees most_nesting n us rest t e,
    subst (λ d. (part_at d).Front n (us ++ (t ∷ []))) (above-is most_nesting 0) (deep-exact part_at reader_at r.reads r.agrees most_nesting n us rest t e),
  )

  -- where it is refused
  refused-is-exact : (why : Why) (n : State) (ts rest : List Lexeme) → reader_at most_nesting n ts ≡ Refused why rest → IsRefused p why n ts (length ts - length rest)
  refused-is-exact why n ts rest e =
      let w : Reached (part_at most_nesting) n ts rest = subst (λ a. Reached (part_at most_nesting) n ts (left_of a)) e ((r.reads most_nesting).reached n ts) in
      record {
        before = w.taken;
        rest = rest;
        whole = w.whole;
        many = place-of ts w.taken rest w.whole;
        begins = w.front;
        at = refused-at why n w.taken rest (subst (λ l. reader_at most_nesting n l ≡ Refused why rest) w.whole e);
      }

  -- what stands behind a value is refused
  behind-is-refused : (n : State) (ts rest : List Lexeme) (t : Lexeme) (x : X) (m : State) → reader_at most_nesting n ts ≡ Took x (t ∷ rest) m → IsRefused p Syntax n ts (length ts - length (t ∷ rest))
  behind-is-refused n ts rest t x m e =
      let w : Taken (part_at most_nesting) n ts x (t ∷ rest) m = subst (λ a. Sound (part_at most_nesting) n ts a) e ((r.reads most_nesting).sound n ts) in
      record {
        before = w.taken;
        rest = t ∷ rest;
        whole = w.whole;
        many = place-of ts w.taken (t ∷ rest) w.whole;
        begins = (r.reads most_nesting).front n w.taken x m w.spells;
        at = λ d. taken-stops part_at reader_at r.reads r.agrees most_nesting n w.taken rest t x m (subst (λ l. reader_at most_nesting n l ≡ Took x (t ∷ rest) m) w.whole e) d;
      }

  not-read : (n : State) (ts : List Lexeme) (a : Answer X) → reader_at most_nesting n ts ≡ a → ((x : X) (m : State) → a ≡ Took x [] m → ⊥) → (x : X) → Spells p most_nesting n ts x → ⊥
  not-read n ts a e other x h = other x h.after (sym e ∙ spelled-is-read n ts x h)

  pub refused-right : (why : Why) (n : State) (ts rest : List Lexeme) → reader_at most_nesting n ts ≡ Refused why rest → IsRightlyRefused p why n ts (length ts - length rest)
  refused-right why n ts rest e = (refused-is-exact why n ts rest e, not-read n ts (Refused why rest) e (λ x m f. cc))

  pub behind-right : (n : State) (ts rest : List Lexeme) (x : X) (m : State) → reader_at most_nesting n ts ≡ Took x rest m → (length rest ≡ 0 → ⊥) → IsRightlyRefused p Syntax n ts (length ts - length rest)
  behind-right n ts [] x m e h = absurd (h refl)
  behind-right n ts (t ∷ rest) x m e h = (behind-is-refused n ts rest t x m e, not-read n ts (Took x (t ∷ rest) m) e (λ y k f. let g : t ∷ rest ≡ [] = ap left_of f in cc))

  pub whole-right : (n : State) (ts rest : List Lexeme) (x : X) (m : State) → reader_at most_nesting n ts ≡ Took x rest m → length rest ≡ 0 → Spells p most_nesting n ts x
  whole-right n ts [] x m e h = read-is-spelled n ts x m e
  whole-right n ts (t ∷ rest) x m e h = absurd (omega (arith, h))

-- ---- expressions

pub expressions-read : IsRead expressions
expressions-read = record {
  starts = (expressions 0).shape.starts;
  goes_on = (expressions 0).shape.goes_on;
  reads = λ d. (expression-good (inner d) (inner d) (same-level d)).low.reads;
  agrees = λ d k. (expression-good (inner d) (inner (above d k)) (two-levels d k)).agree;
}

list-good : {strict : Bool} {a b : Production Expr} → Good strict a b → disjoint (t.End ∷ []) a.shape.goes_on ≡ true
    → Good strict (made (λ x. x.0) (a & sign t.End)) (made (λ x. x.0) (b & sign t.End))
list-good g apart = made-good (λ x. x.0) (and-good g (token-good (t.End ∷ []) mark) apart)

pub whole-expressions-read : IsRead whole_expressions
whole-expressions-read = record {
  starts = (whole_expressions 0).shape.starts;
  goes_on = [];
  reads = λ d. (list-good (expression-good (inner d) (inner d) (same-level d)) refl).low.reads;
  agrees = λ d k. (list-good (expression-good (inner d) (inner (above d k)) (two-levels d k)) refl).agree;
}

-- ---- files

pub files-read : IsRead files
files-read = record {
  starts = (files 0).shape.starts;
  goes_on = (files 0).shape.goes_on;
  reads = λ d. (file-good (inner d) (inner d) (same-level d) (bodies d) (bodies d) (same-bodies d)).low.reads;
  agrees = λ d k. (file-good (inner d) (inner (above d k)) (two-levels d k) (bodies d) (bodies (above d k)) (two-bodies d k)).agree;
}
