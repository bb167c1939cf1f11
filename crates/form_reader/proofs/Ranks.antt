-- Operators of one rank: what may stand behind an operand, and that a list of lexemes spells one list of links.
use Rattle.std.proofs.Common.{◌≡◌, ℕ, ◌<◌, ◌==◌, ◌&&◌, ◌⊎◌, inl, inr, zero, suc, Bool, true, false, cond, List, [], ◌∷◌, ◌++◌, refl, sym, ap, subst, ◌∙◌, arith, append_assoc, append-nil}
use Rattle.std.specs.Prelude.{Some, None, Ok}
use Rattle.std.proofs.lemmas.Bool.{and_parts, eqb-true}
use Rattle.filc_num.specs.declared.integer.BinOp.{BinOp}
use Rattle.filc_num.specs.declared.integer.BinOp.TheVariants.{Mul, Add, Sub, Lt}
use Rattle.filc_num.specs.declared.integer.IntType.TheVariants.{I32}
use Rattle.form_tree.specs.declared.expr.Expr.{Expr}
use Rattle.form_tree.specs.declared.expr.Link.{Link, out-Link, roll-Link, roll-out-Link}
use Rattle.form_reader.specs.Lexemes.{Lexeme, Mark}
use Rattle.form_reader.specs.Grammar.{operator_of, ExprSpelling, AreLinks}
use Rattle.form_reader.specs.Reading.{IsReadAs, HasNoOperator, EndsRank}

-- which operator stands where
ranked : (rank byte : ℕ) (op : BinOp) → operator_of rank byte ≡ Some op → ((rank ≡ 1) × (byte ≡ 42)) ⊎ (((rank ≡ 2) × (byte ≡ 43)) ⊎ (((rank ≡ 2) × (byte ≡ 45)) ⊎ ((rank ≡ 3) × (byte ≡ 60))))
ranked rank byte op is =
    by_tests Mul Add Sub Lt (rank == 1 && byte == 42) (rank == 2 && byte == 43) (rank == 2 && byte == 45) (rank == 3 && byte == 60)
    (both rank 1 byte 42) (both rank 2 byte 43) (both rank 2 byte 45) (both rank 3 byte 60) is
  where
    both : (m n c d : ℕ) → (m == n && c == d) ≡ true → (m ≡ n) × (c ≡ d)
    both m n c d h = let parts = and_parts (m == n) (c == d) h in (eqb-true m n parts.0, eqb-true c d parts.1)

    by_tests : {A B C D : Type 0} (a b c d : BinOp) (p q r s : Bool) → (p ≡ true → A) → (q ≡ true → B) → (r ≡ true → C) → (s ≡ true → D) → cond p (Some a) (cond q (Some b) (cond r (Some c) (cond s (Some d) None))) ≡ Some op → A ⊎ (B ⊎ (C ⊎ D))
    by_tests a b c d true q r s f g h k e = inl (f refl)
    by_tests a b c d false true r s f g h k e = inr (inl (g refl))
    by_tests a b c d false false true s f g h k e = inr (inr (inl (h refl)))
    by_tests a b c d false false false true f g h k e = inr (inr (inr (k refl)))
    by_tests a b c d false false false false f g h k e = cc

-- an operator's byte is of one rank: none of a lower one
same_rank : (rank other byte : ℕ) (op : BinOp) → operator_of rank byte ≡ Some op → other < rank → operator_of other byte ≡ None
same_rank rank other byte op is below =
    elim (ranked rank byte op is) [
      | inl h ↦ at other byte (inl (omega arith, h.1))
      | inr (inl h) ↦ at other byte (inr (inl (omega arith, h.1)))
      | inr (inr (inl h)) ↦ at other byte (inr (inr (inl (omega arith, h.1))))
      | inr (inr (inr h)) ↦ at other byte (inr (inr (inr (omega arith, h.1))))
    ]
  where
    at : (m c : ℕ) → ((m < 1) × (c ≡ 42)) ⊎ (((m < 2) × (c ≡ 43)) ⊎ (((m < 2) × (c ≡ 45)) ⊎ ((m < 3) × (c ≡ 60)))) → operator_of m c ≡ None
    at zero c h = refl
    at (suc zero) c (inl h) = absurd (omega arith)
    at (suc zero) c (inr (inl h)) = rw h.1 refl
    at (suc zero) c (inr (inr (inl h))) = rw h.1 refl
    at (suc zero) c (inr (inr (inr h))) = rw h.1 refl
    at (suc (suc zero)) c (inl h) = absurd (omega arith)
    at (suc (suc zero)) c (inr (inl h)) = absurd (omega arith)
    at (suc (suc zero)) c (inr (inr (inl h))) = absurd (omega arith)
    at (suc (suc zero)) c (inr (inr (inr h))) = rw h.1 refl
    at (suc (suc (suc m))) c (inl h) = absurd (omega arith)
    at (suc (suc (suc m))) c (inr (inl h)) = absurd (omega arith)
    at (suc (suc (suc m))) c (inr (inr (inl h))) = absurd (omega arith)
    at (suc (suc (suc m))) c (inr (inr (inr h))) = absurd (omega arith)

-- an operator ends what binds tighter
ends_tighter : (rank other byte line : ℕ) (op : BinOp) (rest : List Lexeme) → operator_of rank byte ≡ Some op → other < rank → EndsRank other (Mark byte line ∷ rest)
ends_tighter rank zero byte line op rest is below = tt
ends_tighter rank (suc other) byte line op rest is below =
    (same_rank rank (suc other) byte op is below, ends_tighter rank other byte line op rest is (omega arith))

-- two links with the same parts are one
pub same_link : (k link : Link) → (out-Link k).op ≡ (out-Link link).op → (out-Link k).ty ≡ (out-Link link).ty → (out-Link k).operand ≡ (out-Link link).operand → k ≡ link
same_link k link a b c =
    let parts : out-Link k ≡ out-Link link = λ i. record { op = a i; ty = b i; operand = c i } in
    sym (roll-out-Link k) ∙ (ap roll-Link parts ∙ roll-out-Link link)

-- what is still to come of the links that a derivation has
pub record Ahead (rank : ℕ) (Operand : ExprSpelling) (links so_far : List Link) (tokens rest : List Lexeme) : Type 0 where
  pub more : List Link
  pub ahead : List Lexeme
  pub links_are : links ≡ so_far ++ more
  pub spelled : AreLinks rank Operand more ahead
  pub stand : tokens ≡ ahead ++ rest

-- the next link of a derivation, where an operator stands
pub record Next (below : ℕ) (Operand : ExprSpelling) (op : BinOp) (links so_far : List Link) (tokens rest : List Lexeme) : Type 0 where
  pub link : Link
  pub links_behind : List Link
  pub here : List Lexeme
  pub behind : List Lexeme
  pub links_are : links ≡ so_far ++ (link ∷ links_behind)
  pub op_is : (out-Link link).op ≡ op
  pub ty_is : (out-Link link).ty ≡ I32
  pub operand : Operand (out-Link link).operand here
  pub spelled : AreLinks (suc below) Operand links_behind behind
  pub stand : tokens ≡ here ++ (behind ++ rest)
  pub ends : EndsRank below (behind ++ rest)

module _ (below : ℕ) (Operand : ExprSpelling) where
  -- behind links of a rank stands nothing that binds tighter
  pub ends_below : (links : List Link) (here rest : List Lexeme) → AreLinks (suc below) Operand links here → EndsRank (suc below) rest → EndsRank below (here ++ rest)
  ends_below [] here rest none ends = subst (λ (h : List Lexeme). EndsRank below (h ++ rest)) (sym none) ends.1
  ends_below (k ∷ ks) here rest (byte, line, h, r, spelled, op, ty, operand, links) ends =
      subst (λ (x : List Lexeme). EndsRank below (x ++ rest)) (sym spelled) (ends_tighter (suc below) below byte line (out-Link k).op ((h ++ r) ++ rest) op (omega arith))

  -- no operator stands there, so no link is to come
  pub at_none : (links so_far : List Link) (tokens rest : List Lexeme) → HasNoOperator (suc below) tokens → Ahead (suc below) Operand links so_far tokens rest → (so_far ≡ links) × (tokens ≡ rest)
  at_none links so_far tokens rest none a = by_more a.more a.ahead a.links_are a.spelled a.stand
    where
      by_more : (more : List Link) (ahead : List Lexeme) → links ≡ so_far ++ more → AreLinks (suc below) Operand more ahead → tokens ≡ ahead ++ rest → (so_far ≡ links) × (tokens ≡ rest)
      by_more [] ahead links_are empty stand = (sym (links_are ∙ append-nil so_far), stand ∙ ap (λ (x : List Lexeme). x ++ rest) empty)
      by_more (k ∷ ks) ahead links_are (byte, line, h, r, spelled, op, ty, operand, more) stand =
          let begins = subst (HasNoOperator (suc below)) (stand ∙ ap (λ (x : List Lexeme). x ++ rest) spelled) none in
          let clash : None ≡ Some (out-Link k).op = sym begins ∙ op in
          cc

  -- an operator stands there, so the next link is to come
  pub at_some : (links so_far : List Link) (tokens behind rest : List Lexeme) (byte line : ℕ) (op : BinOp) → tokens ≡ Mark byte line ∷ behind → operator_of (suc below) byte ≡ Some op → EndsRank (suc below) rest → Ahead (suc below) Operand links so_far tokens rest → Next below Operand op links so_far behind rest
  at_some links so_far tokens behind rest byte line op here_is op_is ends a = by_more a.more a.ahead a.links_are a.spelled a.stand
    where
      by_more : (more : List Link) (ahead : List Lexeme) → links ≡ so_far ++ more → AreLinks (suc below) Operand more ahead → tokens ≡ ahead ++ rest → Next below Operand op links so_far behind rest
      by_more [] ahead links_are empty stand =
          let begins = subst (HasNoOperator (suc below)) (sym (ap (λ (x : List Lexeme). x ++ rest) empty) ∙ (sym stand ∙ here_is)) ends.0 in
          let clash : None ≡ Some op = sym begins ∙ op_is in
          cc
      by_more (k ∷ ks) ahead links_are (b, l, h, r, spelled, k_op, ty, operand, more) stand =
          let both : Mark byte line ∷ behind ≡ Mark b l ∷ ((h ++ r) ++ rest) = sym here_is ∙ (stand ∙ ap (λ (x : List Lexeme). x ++ rest) spelled) in
          let same_byte : b ≡ byte = cc in
          let tail : behind ≡ (h ++ r) ++ rest = cc in
          let same_op : Some (out-Link k).op ≡ Some op = sym k_op ∙ (ap (operator_of (suc below)) same_byte ∙ op_is) in
          record {
            link = k;
            links_behind = ks;
            here = h;
            behind = r;
            links_are = links_are;
            op_is = cc;
            ty_is = ty;
            operand = operand;
            spelled = more;
            stand = tail ∙ append_assoc h r rest;
            ends = ends_below ks r rest more ends;
          }

  -- the link was read: the others are to come
  pub went_on : (links so_far : List Link) (op : BinOp) (tokens new rest : List Lexeme) (found : Expr) (link : Link) (n : Next below Operand op links so_far tokens rest) → IsReadAs (Ok found) new (out-Link n.link).operand (n.behind ++ rest) → (out-Link link).op ≡ op → (out-Link link).ty ≡ I32 → (out-Link link).operand ≡ found → Ahead (suc below) Operand links (so_far ++ (link ∷ [])) new rest
  went_on links so_far op tokens new rest found link n read op_is ty_is operand_is =
      let same = same_link n.link link (n.op_is ∙ sym op_is) (n.ty_is ∙ sym ty_is) (sym (operand_is ∙ read.0)) in
      record {
        more = n.links_behind;
        ahead = n.behind;
        links_are = n.links_are ∙ (ap (λ (x : Link). so_far ++ (x ∷ n.links_behind)) same ∙ sym (append_assoc so_far (link ∷ []) n.links_behind));
        spelled = n.spelled;
        stand = read.1;
      }

  -- one link more behind those that stand there
  pub links-snoc : (links : List Link) (here : List Lexeme) (link : Link) (byte line : ℕ) (more : List Lexeme) → AreLinks (suc below) Operand links here → operator_of (suc below) byte ≡ Some (out-Link link).op → (out-Link link).ty ≡ I32 → Operand (out-Link link).operand more → AreLinks (suc below) Operand (links ++ (link ∷ [])) (here ++ (Mark byte line ∷ more))
  links-snoc [] here link byte line more none op ty operand =
      (byte, line, more, [], ap (λ (x : List Lexeme). x ++ (Mark byte line ∷ more)) none ∙ ap (λ (x : List Lexeme). Mark byte line ∷ x) (sym (append-nil more)), op, ty, operand, refl)
  links-snoc (k ∷ ks) here link byte line more (b, l, h, r, spelled, k_op, k_ty, k_operand, rest) op ty operand =
      (b, l, h, r ++ (Mark byte line ∷ more), ap (λ (x : List Lexeme). x ++ (Mark byte line ∷ more)) spelled ∙ ap (λ (x : List Lexeme). Mark b l ∷ x) (append_assoc h r (Mark byte line ∷ more)), k_op, k_ty, k_operand, links-snoc ks r link byte line more rest op ty operand)

-- what stands when some links were read: these, and of any derivation the others are to come
pub record AreSoFar (below : ℕ) (Operand : ExprSpelling) (start tokens : List Lexeme) (links : List Link) : Type 0 where
  pub here : List Lexeme
  pub spelled : AreLinks (suc below) Operand links here
  pub stood : start ≡ here ++ tokens
  pub only : (all : List Link) (front rest : List Lexeme) → AreLinks (suc below) Operand all front → EndsRank (suc below) rest → start ≡ front ++ rest → Ahead (suc below) Operand all links tokens rest
