-- A list of lexemes spells one expression: two derivations from the front of one list are one.
use Rattle.std.proofs.Common.{◌≡◌, ℕ, ◌<◌, zero, suc, Bool, true, false, List, [], ◌∷◌, ◌++◌, length, refl, sym, ap, subst, ◌∙◌, arith, append_assoc}
use Rattle.std.specs.Prelude.{Some, None}
use Rattle.std.specs.Fmt.{decimal}
use Rattle.std.proofs.lemmas.Fmt.{decimal_injective}
use Rattle.filc_num.specs.declared.integer.IntType.TheVariants.{I32}
use Rattle.form_tree.specs.declared.expr.Expr.{Expr}
use Rattle.form_tree.specs.declared.expr.Expr.TheVariants as expr
use Rattle.form_tree.specs.declared.expr.Link.{Link, out-Link}
use Rattle.form_reader.specs.Lexemes.{Lexeme, Run, Mark, begins, is_letter}
use Rattle.form_reader.specs.Grammar.{ExprSpelling, front_line, operator_of, AreLinks, IsChain, single, several, IsOfRank, IsLeaf, number, local, IsPrefixed, leaf, bracketed, negated, IsPrefix, IsExpr, IsClosed}
use Rattle.form_reader.specs.Reading.{HasNoOperator, EndsRank, EndsAnywhere}
use Rattle.form_reader.proofs.Leaves.{name_only, number_only}
use Rattle.form_reader.proofs.Ranks.{ends_below, same_link}

-- a production spells one tree at the front of a list, where what may follow it is known
abbrev pub IsOne : (T : Type 0) → (T → List Lexeme → Type 0) → (List Lexeme → Type 0) → Type 0
IsOne T Spells Ends =
    (t u : T) (a b x y : List Lexeme) → Spells t a → Spells u b → Ends x → Ends y → a ++ x ≡ b ++ y → (t ≡ u) × (a ≡ b) × (x ≡ y)

-- the lists go on from their fronts
pub fronts : (a b c d x y : List Lexeme) → a ≡ c → b ≡ d → a ++ x ≡ b ++ y → c ++ x ≡ d ++ y
fronts a b c d x y p q stands = sym (ap (λ (l : List Lexeme). l ++ x) p) ∙ (stands ∙ ap (λ (l : List Lexeme). l ++ y) q)

-- ---- leaves

leaf_front : (names : List (List ℕ)) (e : Expr) (a : List Lexeme) → IsLeaf names e a → (bytes : List ℕ) × (line : ℕ) × (a ≡ Run bytes line ∷ [])
leaf_front names e a (number n line small same is) = (decimal n, line, same)
leaf_front names e a (local bytes line place first found same is) = (bytes, line, same)

same_leaf :
    (names : List (List ℕ)) (t u : Expr) (bytes : List ℕ) (line : ℕ) (letter : Bool) →
    begins is_letter bytes ≡ letter → IsLeaf names t (Run bytes line ∷ []) →
    IsLeaf names u (Run bytes line ∷ []) → t ≡ u
same_leaf names t u bytes line true h p q =
    let m = name_only names t bytes line h p in
    let n = name_only names u bytes line h q in
    let both : Some m.0 ≡ Some n.0 = sym m.1 ∙ n.1 in
    let place : m.0 ≡ n.0 = cc in
    m.2 ∙ (ap (λ (k : ℕ). expr.Local line I32 k) place ∙ sym n.2)
same_leaf names t u bytes line false h p q =
    let m = number_only names t bytes line h p in
    let n = number_only names u bytes line h q in
    let value : m.0 ≡ n.0 = decimal_injective m.0 n.0 (omega (arith, m.1)) (omega (arith, n.1)) (sym m.2 ∙ n.2) in
    m.3 ∙ (ap (λ (k : ℕ). expr.Number line I32 k) value ∙ sym n.3)

leaf_one : (names : List (List ℕ)) → IsOne Expr (IsLeaf names) EndsAnywhere
leaf_one names t u a b x y p q ends ends' stands =
    let f = leaf_front names t a p in
    let g = leaf_front names u b q in
    let both : Run f.0 f.1 ∷ x ≡ Run g.0 g.1 ∷ y = fronts a b (Run f.0 f.1 ∷ []) (Run g.0 g.1 ∷ []) x y f.2 g.2 stands in
    let bytes : f.0 ≡ g.0 = cc in
    let line : f.1 ≡ g.1 = cc in
    let rest : x ≡ y = cc in
    let same : a ≡ b = f.2 ∙ ((λ i. Run (bytes i) (line i) ∷ []) ∙ sym g.2) in
    (same_leaf names t u f.0 f.1 (begins is_letter f.0) refl (subst (IsLeaf names t) f.2 p) (subst (IsLeaf names u) (sym same ∙ f.2) q), same, rest)

-- ---- ranks

module _ (r : ℕ) (Operand : ExprSpelling) (one : IsOne Expr Operand (EndsRank r)) where
  -- no link stands where no operator may
  no_link : (links : List Link) (rest x y : List Lexeme) → AreLinks (suc r) Operand links rest → 0 < length links → EndsRank (suc r) x → x ≡ rest ++ y → ⊥
  no_link [] rest x y none some ends same = omega arith
  no_link (l ∷ ls) rest x y (byte, line, here, more, spelled, op, ty, operand, others) some ends same =
      let front : x ≡ Mark byte line ∷ ((here ++ more) ++ y) = same ∙ ap (λ (t : List Lexeme). t ++ y) spelled in
      let none = subst (HasNoOperator (suc r)) front ends.0 in
      let clash : None ≡ Some (out-Link l).op = sym none ∙ op in
      cc

  links_one :
      (ks ls : List Link) (a b x y : List Lexeme) → AreLinks (suc r) Operand ks a →
      AreLinks (suc r) Operand ls b → EndsRank (suc r) x → EndsRank (suc r) y → a ++ x ≡ b ++ y →
      (ks ≡ ls) × (a ≡ b) × (x ≡ y)
  links_one [] [] a b x y p q ends ends' stands = (refl, p ∙ sym q, fronts a b [] [] x y p q stands)
  links_one [] (l ∷ ls) a b x y p q ends ends' stands = absurd (no_link (l ∷ ls) b x y q (omega arith) ends (fronts a b [] b x y p refl stands))
  links_one (k ∷ ks) [] a b x y p q ends ends' stands = absurd (no_link (k ∷ ks) a y x p (omega arith) ends' (sym (fronts a b a [] x y refl q stands)))
  links_one (k ∷ ks) (l ∷ ls) a b x y (byte, line, h, m, same, op, ty, operand, more) (byte', line', h', m', same', op', ty', operand', more') ends ends' stands =
      let both : Mark byte line ∷ ((h ++ m) ++ x) ≡ Mark byte' line' ∷ ((h' ++ m') ++ y) = fronts a b (Mark byte line ∷ (h ++ m)) (Mark byte' line' ∷ (h' ++ m')) x y same same' stands in
      let byte_is : byte ≡ byte' = cc in
      let line_is : line ≡ line' = cc in
      let tail : (h ++ m) ++ x ≡ (h' ++ m') ++ y = cc in
      let split : h ++ (m ++ x) ≡ h' ++ (m' ++ y) = sym (append_assoc h m x) ∙ (tail ∙ append_assoc h' m' y) in
      let first = one (out-Link k).operand (out-Link l).operand h h' (m ++ x) (m' ++ y) operand operand' (ends_below r Operand ks m x more ends) (ends_below r Operand ls m' y more' ends') split in
      let others = links_one ks ls m m' x y more more' ends ends' first.2 in
      let ops : Some (out-Link k).op ≡ Some (out-Link l).op = sym op ∙ (ap (operator_of (suc r)) byte_is ∙ op') in
      let op_is : (out-Link k).op ≡ (out-Link l).op = cc in
      let link = same_link k l op_is (ty ∙ sym ty') first.0 in
      ((λ i. link i ∷ others.0 i), same ∙ ((λ i. Mark (byte_is i) (line_is i) ∷ (first.1 i ++ others.1 i)) ∙ sym same'), others.2)

  chain_one : IsOne Expr (IsChain (suc r) Operand) (EndsRank (suc r))
  chain_one t u a b x y (single p) (single q) ends ends' stands = one t u a b x y p q ends.1 ends'.1 stands
  chain_one t u a b x y (single p) (several first links here rest same is operand more some) ends ends' stands =
      let split : a ++ x ≡ here ++ (rest ++ y) = fronts a b a (here ++ rest) x y refl same stands ∙ append_assoc here rest y in
      let found = one t first a here x (rest ++ y) p operand ends.1 (ends_below r Operand links rest y more ends') split in
      absurd (no_link links rest x y more some ends found.2)
  chain_one t u a b x y (several first links here rest same is operand more some) (single q) ends ends' stands =
      let split : here ++ (rest ++ x) ≡ b ++ y = sym (append_assoc here rest x) ∙ fronts a b (here ++ rest) b x y same refl stands in
      let found = one first u here b (rest ++ x) y operand q (ends_below r Operand links rest x more ends) ends'.1 split in
      absurd (no_link links rest y x more some ends' (sym found.2))
  chain_one t u a b x y (several first links here rest same is operand more some) (several first' links' here' rest' same' is' operand' more' some') ends ends' stands =
      let split : here ++ (rest ++ x) ≡ here' ++ (rest' ++ y) = sym (append_assoc here rest x) ∙ (fronts a b (here ++ rest) (here' ++ rest') x y same same' stands ∙ append_assoc here' rest' y) in
      let found = one first first' here here' (rest ++ x) (rest' ++ y) operand operand' (ends_below r Operand links rest x more ends) (ends_below r Operand links' rest' y more' ends') split in
      let others = links_one links links' rest rest' x y more more' ends ends' found.2 in
      (is ∙ ((λ i. expr.Chain (front_line (found.1 i)) (found.0 i) (others.0 i)) ∙ sym is'), same ∙ ((λ i. found.1 i ++ others.1 i) ∙ sym same'), others.2)

rank_one : (Prefix : ExprSpelling) → IsOne Expr Prefix EndsAnywhere → (rank : ℕ) → IsOne Expr (IsOfRank rank Prefix) (EndsRank rank)
unfolding IsOfRank
rank_one Prefix one zero t u a b x y p q ends ends' stands = one t u a b x y p q tt tt stands
rank_one Prefix one (suc rank) t u a b x y p q ends ends' stands = chain_one rank (IsOfRank rank Prefix) (rank_one Prefix one rank) t u a b x y p q ends ends' stands

-- ---- prefixes

ends_bracket : (line : ℕ) (rest : List Lexeme) → EndsRank 3 (Mark 41 line ∷ rest)
ends_bracket line rest = (refl, (refl, (refl, tt)))

ends_semicolon : (line : ℕ) (rest : List Lexeme) → EndsRank 3 (Mark 59 line ∷ rest)
ends_semicolon line rest = (refl, (refl, (refl, tt)))

module _ (names : List (List ℕ)) (Inner Operand : ExprSpelling) (inner_one : IsOne Expr Inner (EndsRank 3)) (operand_one : IsOne Expr Operand EndsAnywhere) where
  -- a leaf begins with no mark
  no_leaf : (e : Expr) (a b x y : List Lexeme) (byte line : ℕ) (more : List Lexeme) → IsLeaf names e a → b ≡ Mark byte line ∷ more → a ++ x ≡ b ++ y → ⊥
  no_leaf e a b x y byte line more p same stands =
      let f = leaf_front names e a p in
      let clash : Run f.0 f.1 ∷ x ≡ Mark byte line ∷ (more ++ y) = fronts a b (Run f.0 f.1 ∷ []) (Mark byte line ∷ more) x y f.2 same stands in
      cc

  -- nor does an expression in brackets begin with a minus sign
  no_bracket : (left line : ℕ) (more rest : List Lexeme) (a b x y : List Lexeme) → a ≡ Mark 40 left ∷ more → b ≡ Mark 45 line ∷ rest → a ++ x ≡ b ++ y → ⊥
  no_bracket left line more rest a b x y same same' stands =
      let clash : Mark 40 left ∷ (more ++ x) ≡ Mark 45 line ∷ (rest ++ y) = fronts a b (Mark 40 left ∷ more) (Mark 45 line ∷ rest) x y same same' stands in
      cc

  module _ (t u : Expr) (a b x y : List Lexeme) (stands : a ++ x ≡ b ++ y) where
    brackets_one :
        (left right left' right' : ℕ) (inner inner' : List Lexeme) →
        a ≡ Mark 40 left ∷ (inner ++ Mark 41 right ∷ []) →
        b ≡ Mark 40 left' ∷ (inner' ++ Mark 41 right' ∷ []) → Inner t inner → Inner u inner' →
        (t ≡ u) × (a ≡ b) × (x ≡ y)
    brackets_one left right left' right' inner inner' same same' is is' =
        let both : Mark 40 left ∷ ((inner ++ Mark 41 right ∷ []) ++ x) ≡ Mark 40 left' ∷ ((inner' ++ Mark 41 right' ∷ []) ++ y) = fronts a b (Mark 40 left ∷ (inner ++ Mark 41 right ∷ [])) (Mark 40 left' ∷ (inner' ++ Mark 41 right' ∷ [])) x y same same' stands in
        let left_is : left ≡ left' = cc in
        let tail : (inner ++ Mark 41 right ∷ []) ++ x ≡ (inner' ++ Mark 41 right' ∷ []) ++ y = cc in
        let split : inner ++ (Mark 41 right ∷ x) ≡ inner' ++ (Mark 41 right' ∷ y) = sym (append_assoc inner (Mark 41 right ∷ []) x) ∙ (tail ∙ append_assoc inner' (Mark 41 right' ∷ []) y) in
        let found = inner_one t u inner inner' (Mark 41 right ∷ x) (Mark 41 right' ∷ y) is is' (ends_bracket right x) (ends_bracket right' y) split in
        let last : Mark 41 right ∷ x ≡ Mark 41 right' ∷ y = found.2 in
        let right_is : right ≡ right' = cc in
        let rest : x ≡ y = cc in
        (found.0, same ∙ ((λ i. Mark 40 (left_is i) ∷ (found.1 i ++ Mark 41 (right_is i) ∷ [])) ∙ sym same'), rest)

    minus_one :
        (line line' : ℕ) (operand operand' : Expr) (rest rest' : List Lexeme) → a ≡ Mark 45 line ∷ rest →
        b ≡ Mark 45 line' ∷ rest' → t ≡ expr.Negate line I32 operand → u ≡ expr.Negate line' I32 operand' →
        Operand operand rest → Operand operand' rest' → (t ≡ u) × (a ≡ b) × (x ≡ y)
    minus_one line line' operand operand' rest rest' same same' is is' spelled spelled' =
        let both : Mark 45 line ∷ (rest ++ x) ≡ Mark 45 line' ∷ (rest' ++ y) = fronts a b (Mark 45 line ∷ rest) (Mark 45 line' ∷ rest') x y same same' stands in
        let line_is : line ≡ line' = cc in
        let tail : rest ++ x ≡ rest' ++ y = cc in
        let found = operand_one operand operand' rest rest' x y spelled spelled' tt tt tail in
        (is ∙ ((λ i. expr.Negate (line_is i) I32 (found.0 i)) ∙ sym is'), same ∙ ((λ i. Mark 45 (line_is i) ∷ found.1 i) ∙ sym same'), found.2)

    -- what the second is, where the first is this
    after_leaf : IsLeaf names t a → IsPrefixed names Inner Operand u b → (t ≡ u) × (a ≡ b) × (x ≡ y)
    after_leaf p (leaf q) = leaf_one names t u a b x y p q tt tt stands
    after_leaf p (bracketed left right inner same is) = absurd (no_leaf t a b x y 40 left (inner ++ Mark 41 right ∷ []) p same stands)
    after_leaf p (negated line operand rest same is spelled) = absurd (no_leaf t a b x y 45 line rest p same stands)

    after_bracket : (left right : ℕ) (inner : List Lexeme) → a ≡ Mark 40 left ∷ (inner ++ Mark 41 right ∷ []) → Inner t inner → IsPrefixed names Inner Operand u b → (t ≡ u) × (a ≡ b) × (x ≡ y)
    after_bracket left right inner same is (leaf q) = absurd (no_leaf u b a y x 40 left (inner ++ Mark 41 right ∷ []) q same (sym stands))
    after_bracket left right inner same is (bracketed left' right' inner' same' is') = brackets_one left right left' right' inner inner' same same' is is'
    after_bracket left right inner same is (negated line operand rest same' is' spelled) = absurd (no_bracket left line (inner ++ Mark 41 right ∷ []) rest a b x y same same' stands)

    after_minus :
        (line : ℕ) (operand : Expr) (rest : List Lexeme) → a ≡ Mark 45 line ∷ rest →
        t ≡ expr.Negate line I32 operand → Operand operand rest → IsPrefixed names Inner Operand u b →
        (t ≡ u) × (a ≡ b) × (x ≡ y)
    after_minus line operand rest same is spelled (leaf q) = absurd (no_leaf u b a y x 45 line rest q same (sym stands))
    after_minus line operand rest same is spelled (bracketed left right inner same' is') = absurd (no_bracket left line (inner ++ Mark 41 right ∷ []) rest b a y x same' same (sym stands))
    after_minus line operand rest same is spelled (negated line' operand' rest' same' is' spelled') = minus_one line line' operand operand' rest rest' same same' is is' spelled spelled'

    both_prefixed : IsPrefixed names Inner Operand t a → IsPrefixed names Inner Operand u b → (t ≡ u) × (a ≡ b) × (x ≡ y)
    both_prefixed (leaf p) q = after_leaf p q
    both_prefixed (bracketed left right inner same is) q = after_bracket left right inner same is q
    both_prefixed (negated line operand rest same is spelled) q = after_minus line operand rest same is spelled q

  prefixed_one : IsOne Expr (IsPrefixed names Inner Operand) EndsAnywhere
  prefixed_one t u a b x y p q ends ends' stands = both_prefixed t u a b x y stands p q

prefix_one : (names : List (List ℕ)) (room : ℕ) → IsOne Expr (IsPrefix names room) EndsAnywhere
unfolding IsPrefix
prefix_one names zero = leaf_one names
prefix_one names (suc room) = prefixed_one names (IsOfRank 3 (IsPrefix names room)) (IsPrefix names room) (rank_one (IsPrefix names room) (prefix_one names room) 3) (prefix_one names room)

-- ---- an expression and the mark that closes it

expr_one : (names : List (List ℕ)) (room : ℕ) → IsOne Expr (IsExpr names room) (EndsRank 3)
expr_one names room = rank_one (IsPrefix names room) (prefix_one names room) 3

closed_one : (names : List (List ℕ)) (room mark : ℕ) → ((line : ℕ) (rest : List Lexeme) → EndsRank 3 (Mark mark line ∷ rest)) → IsOne Expr (IsClosed mark (IsExpr names room)) EndsAnywhere
closed_one names room mark ends t u a b x y (inner, line, same, is) (inner', line', same', is') any any' stands =
    let split : inner ++ (Mark mark line ∷ x) ≡ inner' ++ (Mark mark line' ∷ y) = sym (append_assoc inner (Mark mark line ∷ []) x) ∙ (fronts a b (inner ++ (Mark mark line ∷ [])) (inner' ++ (Mark mark line' ∷ [])) x y same same' stands ∙ append_assoc inner' (Mark mark line' ∷ []) y) in
    let found = expr_one names room t u inner inner' (Mark mark line ∷ x) (Mark mark line' ∷ y) is is' (ends line x) (ends line' y) split in
    let last : Mark mark line ∷ x ≡ Mark mark line' ∷ y = found.2 in
    let line_is : line ≡ line' = cc in
    let rest : x ≡ y = cc in
    (found.0, same ∙ ((λ i. found.1 i ++ (Mark mark (line_is i) ∷ [])) ∙ sym same'), rest)

pub bracket_one : (names : List (List ℕ)) (room : ℕ) → IsOne Expr (IsClosed 41 (IsExpr names room)) EndsAnywhere
bracket_one names room = closed_one names room 41 ends_bracket

pub semicolon_one : (names : List (List ℕ)) (room : ℕ) → IsOne Expr (IsClosed 59 (IsExpr names room)) EndsAnywhere
semicolon_one names room = closed_one names room 59 ends_semicolon
