-- How readers are put together: what each part reads gives what the whole reads.
use Rattle.std.proofs.Common.{◌≡◌, ℕ, ◌-◌, ◌<◌, ◌⊎◌, inl, inr, zero, suc, List, [], ◌∷◌, ◌++◌, length, refl, sym, ap, subst, ◌∙◌, arith, append_assoc, append-nil}
use Rattle.std.specs.Prelude.{Option, Some, None, Ok, Err, Result, IfSome, IfNone}
use Rattle.std.specs.Option.{ok_or}
use Rattle.filc_num.specs.declared.integer.BinOp.{BinOp}
use Rattle.filc_num.specs.declared.integer.IntType.TheVariants.{I32}
use Rattle.form_tree.specs.declared.expr.Expr.{Expr}
use Rattle.form_tree.specs.declared.expr.Expr.TheVariants as expr
use Rattle.form_tree.specs.declared.expr.Link.{Link, out-Link}
use Rattle.form_reader.specs.declared.form.ReadFault.{ReadFault}
use Rattle.form_reader.specs.declared.form.ReadFault.TheVariants.{NotForm, NoMemory}
use Rattle.form_reader.specs.Lexemes.{Lexeme, Run, Mark, Twin}
use Rattle.form_reader.specs.Tokens.{lexeme_of}
use Rattle.form_reader.specs.declared.lexemes.Token.{Token}
use Rattle.form_reader.specs.Grammar.{front_line, ExprSpelling, AreLinks, IsChain, single, several, IsOfRank, IsLeaf, number, local, IsPrefixed, leaf, bracketed, negated, IsPrefix, operator_of}
use Rattle.form_reader.specs.Reading.{IsReadAs, Reads, HasNoOperator, EndsRank}
use Rattle.form_reader.proofs.Ranks.{AreSoFar, at_none, at_some, went_on, links-snoc, ends_below}

-- an error on the way is an error of the whole
pub same_fault : {T U K L : Type 0} (e : ReadFault) (a : List K) (t : T) (b : List K) (c : List L) (u : U) (d : List L) → IsReadAs {T = T} {L = K} (Err e) a t b → IsReadAs {T = U} {L = L} (Err e) c u d
same_fault NoMemory a t b c u d h = tt
same_fault NotForm a t b c u d h = absurd h

-- ---- prefixes

-- with no room there are leaves alone
module _ (names : List (List ℕ)) where
  pub prefix_leaf : (room : ℕ) (e : Expr) (here : List Lexeme) → IsLeaf names e here → IsPrefix names room e here
  unfolding IsPrefix
  prefix_leaf zero e here h = h
  prefix_leaf (suc room) e here h = leaf h

  pub prefix_made : (room : ℕ) (e : Expr) (here : List Lexeme) → 0 < room → IsPrefixed names (IsOfRank 3 (IsPrefix names (room - 1))) (IsPrefix names (room - 1)) e here → IsPrefix names room e here
  unfolding IsPrefix
  prefix_made zero e here some h = absurd (omega arith)
  prefix_made (suc room) e here some h =
      let less : suc room - 1 ≡ room = omega arith in
      subst (λ (n : ℕ). IsPrefixed names (IsOfRank 3 (IsPrefix names n)) (IsPrefix names n) e here) less h

  pub prefix_view : (room : ℕ) (e : Expr) (here : List Lexeme) → IsPrefix names room e here → IsLeaf names e here ⊎ ((0 < room) × IsPrefixed names (IsOfRank 3 (IsPrefix names (room - 1))) (IsPrefix names (room - 1)) e here)
  unfolding IsPrefix
  prefix_view zero e here h = inl h
  prefix_view (suc room) e here h =
      let less : room ≡ suc room - 1 = omega arith in
      inr (omega arith, subst (λ (n : ℕ). IsPrefixed names (IsOfRank 3 (IsPrefix names n)) (IsPrefix names n) e here) less h)

  -- a leaf is one run
  leaf_run : (e : Expr) (here : List Lexeme) → IsLeaf names e here → (bytes : List ℕ) × (line : ℕ) × (here ≡ Run bytes line ∷ [])
  leaf_run e here (number n line small same is) = (_, line, same)
  leaf_run e here (local bytes line place first found same is) = (bytes, line, same)

-- what a list that begins with a run or a mark can be
module _ (names : List (List ℕ)) (room : ℕ) (e : Expr) (here rest behind : List Lexeme) where
  -- behind a mark stands what its prefix wants
  pub record Marked (byte line : ℕ) : Type 0 where
    pub some : 0 < room
    pub which : ((byte ≡ 40) × (inner : List Lexeme) × (right : ℕ) × (behind ≡ inner ++ (Mark 41 right ∷ rest)) × IsOfRank 3 (IsPrefix names (room - 1)) e inner)
        ⊎ ((byte ≡ 45) × (operand : Expr) × (inner : List Lexeme) × (e ≡ expr.Negate line I32 operand) × (behind ≡ inner ++ rest) × IsPrefix names (room - 1) operand inner)

  pub begins_run : (bytes : List ℕ) (line : ℕ) → IsPrefix names room e here → Run bytes line ∷ behind ≡ here ++ rest → IsLeaf names e (Run bytes line ∷ []) × (behind ≡ rest)
  begins_run bytes line is stands =
      elim (prefix_view names room e here is) [
        | inl h ↦ at_leaf h
        | inr h ↦ at_prefix h.1
      ]
    where
      at_leaf : IsLeaf names e here → IsLeaf names e (Run bytes line ∷ []) × (behind ≡ rest)
      at_leaf h =
          let run = leaf_run names e here h in
          let both : Run bytes line ∷ behind ≡ Run run.0 run.1 ∷ rest = stands ∙ ap (λ (x : List Lexeme). x ++ rest) run.2 in
          let same : here ≡ Run bytes line ∷ [] = run.2 ∙ cc in
          (subst (IsLeaf names e) same h, cc)

      at_prefix : IsPrefixed names (IsOfRank 3 (IsPrefix names (room - 1))) (IsPrefix names (room - 1)) e here → IsLeaf names e (Run bytes line ∷ []) × (behind ≡ rest)
      at_prefix (leaf h) = at_leaf h
      at_prefix (bracketed left right inner same inside) =
          let clash : Run bytes line ∷ behind ≡ Mark 40 left ∷ ((inner ++ (Mark 41 right ∷ [])) ++ rest) = stands ∙ ap (λ (x : List Lexeme). x ++ rest) same in
          cc
      at_prefix (negated l operand inner same made inside) =
          let clash : Run bytes line ∷ behind ≡ Mark 45 l ∷ (inner ++ rest) = stands ∙ ap (λ (x : List Lexeme). x ++ rest) same in
          cc

  pub begins_mark : (byte line : ℕ) → IsPrefix names room e here → Mark byte line ∷ behind ≡ here ++ rest → Marked byte line
  begins_mark byte line is stands =
      elim (prefix_view names room e here is) [
        | inl h ↦ at_leaf h
        | inr h ↦ at_prefix h.0 h.1
      ]
    where
      at_leaf : IsLeaf names e here → Marked byte line
      at_leaf h =
          let run = leaf_run names e here h in
          let clash : Mark byte line ∷ behind ≡ Run run.0 run.1 ∷ rest = stands ∙ ap (λ (x : List Lexeme). x ++ rest) run.2 in
          cc

      at_prefix : 0 < room → IsPrefixed names (IsOfRank 3 (IsPrefix names (room - 1))) (IsPrefix names (room - 1)) e here → Marked byte line
      at_prefix some (leaf h) = at_leaf h
      at_prefix some (bracketed left right inner same inside) =
          let both : Mark byte line ∷ behind ≡ Mark 40 left ∷ ((inner ++ (Mark 41 right ∷ [])) ++ rest) = stands ∙ ap (λ (x : List Lexeme). x ++ rest) same in
          let tail : behind ≡ (inner ++ (Mark 41 right ∷ [])) ++ rest = cc in
          record { some = some; which = inl (cc, inner, right, tail ∙ append_assoc inner (Mark 41 right ∷ []) rest, inside) }
      at_prefix some (negated l operand inner same made inside) =
          let both : Mark byte line ∷ behind ≡ Mark 45 l ∷ (inner ++ rest) = stands ∙ ap (λ (x : List Lexeme). x ++ rest) same in
          let same_line : l ≡ line = cc in
          record { some = some; which = inr (cc, operand, inner, made ∙ ap (λ (m : ℕ). expr.Negate m I32 operand) same_line, cc, inside) }

  pub begins_twin : (line : ℕ) → IsPrefix names room e here → Twin line ∷ behind ≡ here ++ rest → ⊥
  begins_twin line is stands =
      elim (prefix_view names room e here is) [
        | inl h ↦ at_leaf h
        | inr h ↦ at_prefix h.1
      ]
    where
      at_leaf : IsLeaf names e here → ⊥
      at_leaf h =
          let run = leaf_run names e here h in
          let clash : Twin line ∷ behind ≡ Run run.0 run.1 ∷ rest = stands ∙ ap (λ (x : List Lexeme). x ++ rest) run.2 in
          cc

      at_prefix : IsPrefixed names (IsOfRank 3 (IsPrefix names (room - 1))) (IsPrefix names (room - 1)) e here → ⊥
      at_prefix (leaf h) = at_leaf h
      at_prefix (bracketed left right inner same inside) =
          let clash : Twin line ∷ behind ≡ Mark 40 left ∷ ((inner ++ (Mark 41 right ∷ [])) ++ rest) = stands ∙ ap (λ (x : List Lexeme). x ++ rest) same in
          cc
      at_prefix (negated l operand inner same made inside) =
          let clash : Twin line ∷ behind ≡ Mark 45 l ∷ (inner ++ rest) = stands ∙ ap (λ (x : List Lexeme). x ++ rest) same in
          cc

-- a prefix takes a lexeme at least
module _ (names : List (List ℕ)) where
  pub prefix_some : (room : ℕ) (e : Expr) (here : List Lexeme) → IsPrefix names room e here → (first : Lexeme) × (more : List Lexeme) × (here ≡ first ∷ more)
  prefix_some room e here is =
      elim (prefix_view names room e here is) [
        | inl h ↦ at_leaf h
        | inr h ↦ at_prefix h.1
      ]
    where
      at_leaf : IsLeaf names e here → (first : Lexeme) × (more : List Lexeme) × (here ≡ first ∷ more)
      at_leaf h = let run = leaf_run names e here h in (Run run.0 run.1, [], run.2)

      at_prefix : IsPrefixed names (IsOfRank 3 (IsPrefix names (room - 1))) (IsPrefix names (room - 1)) e here → (first : Lexeme) × (more : List Lexeme) × (here ≡ first ∷ more)
      at_prefix (leaf h) = at_leaf h
      at_prefix (bracketed left right inner same inside) = (Mark 40 left, inner ++ (Mark 41 right ∷ []), same)
      at_prefix (negated l operand inner same made inside) = (Mark 45 l, inner, same)

  pub rank_some : (rank room : ℕ) (e : Expr) (here : List Lexeme) → IsOfRank rank (IsPrefix names room) e here → (first : Lexeme) × (more : List Lexeme) × (here ≡ first ∷ more)
  unfolding IsOfRank
  rank_some zero room e here is = prefix_some room e here is
  rank_some (suc rank) room e here (single h) = rank_some rank room e here h
  rank_some (suc rank) room e here (several first links front rest same is operand more some) =
      let front_some = rank_some rank room first front operand in
      (front_some.0, front_some.1 ++ rest, same ∙ ap (λ (x : List Lexeme). x ++ rest) front_some.2)

  -- ---- what stands behind a mark

  module _ (room byte line : ℕ) (start : List Lexeme) where
    pub no_room : (new : List Lexeme) → room ≡ 0 → Reads (IsPrefix names room) (EndsRank 0) (Err NotForm) (Mark byte line ∷ start) new
    no_room new none =
        record { found = tt; only = λ e here rest is ends stands. let m = begins_mark names room e here rest start byte line is stands in absurd (omega (arith, m.some)) }

    pub no_prefix : (new : List Lexeme) → (byte ≡ 40 → ⊥) → (byte ≡ 45 → ⊥) → Reads (IsPrefix names room) (EndsRank 0) (Err NotForm) (Mark byte line ∷ start) new
    no_prefix new other another =
        record {
          found = tt;
          only = λ e here rest is ends stands.
              let m = begins_mark names room e here rest start byte line is stands in
              elim m.which [ inl h ↦ absurd (other h.0) | inr h ↦ absurd (another h.0) ];
        }

    -- brackets: what the derivation has in them
    in_brackets : (e : Expr) (here rest : List Lexeme) → byte ≡ 40 → IsPrefix names room e here → Mark byte line ∷ start ≡ here ++ rest → (inner : List Lexeme) × (right : ℕ) × (start ≡ inner ++ (Mark 41 right ∷ rest)) × IsOfRank 3 (IsPrefix names (room - 1)) e inner
    in_brackets e here rest opens is stands =
        let m = begins_mark names room e here rest start byte line is stands in
        elim m.which [ inl h ↦ (h.1, h.2, h.3, h.4) | inr h ↦ absurd (omega (arith, opens, h.0)) ]

    behind_minus : (e : Expr) (here rest : List Lexeme) → byte ≡ 45 → IsPrefix names room e here → Mark byte line ∷ start ≡ here ++ rest → (operand : Expr) × (inner : List Lexeme) × (e ≡ expr.Negate line I32 operand) × (start ≡ inner ++ rest) × IsPrefix names (room - 1) operand inner
    behind_minus e here rest minus is stands =
        let m = begins_mark names room e here rest start byte line is stands in
        elim m.which [ inl h ↦ absurd (omega (arith, minus, h.0)) | inr h ↦ (h.1, h.2, h.3, h.4, h.5) ]

    pub brackets_fail : (fault : ReadFault) (new : List Lexeme) → byte ≡ 40 → Reads (IsOfRank 3 (IsPrefix names (room - 1))) (EndsRank 3) (Err fault) start new → Reads (IsPrefix names room) (EndsRank 0) (Err fault) (Mark byte line ∷ start) new
    brackets_fail fault new opens r =
        record {
          found = tt;
          only = λ e here rest is ends stands.
              let b = in_brackets e here rest opens is stands in
              same_fault fault new e (Mark 41 b.1 ∷ rest) new e rest (r.only e b.0 (Mark 41 b.1 ∷ rest) b.3 (refl, (refl, (refl, tt))) b.2);
        }

    pub brackets_read : (f : Expr) (behind new : List Lexeme) (right : ℕ) → 0 < room → byte ≡ 40 → Reads (IsOfRank 3 (IsPrefix names (room - 1))) (EndsRank 3) (Ok f) start behind → behind ≡ Mark 41 right ∷ new → Reads (IsPrefix names room) (EndsRank 0) (Ok f) (Mark byte line ∷ start) new
    brackets_read f behind new right some opens r closed =
        record {
          found = (
            Mark 40 line ∷ (r.found.0 ++ (Mark 41 right ∷ [])),
            prefix_made names room f (Mark 40 line ∷ (r.found.0 ++ (Mark 41 right ∷ []))) some (bracketed line right r.found.0 refl r.found.1),
            ap (λ (b : ℕ). Mark b line ∷ start) opens ∙ ap (λ (x : List Lexeme). Mark 40 line ∷ x) (r.found.2 ∙ (ap (λ (x : List Lexeme). r.found.0 ++ x) closed ∙ sym (append_assoc r.found.0 (Mark 41 right ∷ []) new))),
          );
          only = λ e here rest is ends stands.
              let b = in_brackets e here rest opens is stands in
              let read = r.only e b.0 (Mark 41 b.1 ∷ rest) b.3 (refl, (refl, (refl, tt))) b.2 in
              let both : Mark 41 right ∷ new ≡ Mark 41 b.1 ∷ rest = sym closed ∙ read.1 in
              (read.0, cc);
        }

    pub brackets_open : (f : Expr) (behind new : List Lexeme) → byte ≡ 40 → Reads (IsOfRank 3 (IsPrefix names (room - 1))) (EndsRank 3) (Ok f) start behind → ((right : ℕ) (rest : List Lexeme) → behind ≡ Mark 41 right ∷ rest → ⊥) → Reads (IsPrefix names room) (EndsRank 0) (Err NotForm) (Mark byte line ∷ start) new
    brackets_open f behind new opens r none =
        record {
          found = tt;
          only = λ e here rest is ends stands.
              let b = in_brackets e here rest opens is stands in
              let read = r.only e b.0 (Mark 41 b.1 ∷ rest) b.3 (refl, (refl, (refl, tt))) b.2 in
              none b.1 rest read.1;
        }

    pub minus_fails : (fault : ReadFault) (new : List Lexeme) → byte ≡ 45 → Reads (IsPrefix names (room - 1)) (EndsRank 0) (Err fault) start new → Reads (IsPrefix names room) (EndsRank 0) (Err fault) (Mark byte line ∷ start) new
    minus_fails fault new minus r =
        record {
          found = tt;
          only = λ e here rest is ends stands.
              let b = behind_minus e here rest minus is stands in
              same_fault fault new b.0 rest new e rest (r.only b.0 b.1 rest b.4 tt b.3);
        }

    pub minus_read : (f boxed : Expr) (new : List Lexeme) → 0 < room → byte ≡ 45 → boxed ≡ f → Reads (IsPrefix names (room - 1)) (EndsRank 0) (Ok f) start new → Reads (IsPrefix names room) (EndsRank 0) (Ok (expr.Negate line I32 boxed)) (Mark byte line ∷ start) new
    minus_read f boxed new some minus box r =
        record {
          found = (
            Mark 45 line ∷ r.found.0,
            prefix_made names room (expr.Negate line I32 boxed) (Mark 45 line ∷ r.found.0) some (negated line f r.found.0 refl (ap (λ (x : Expr). expr.Negate line I32 x) box) r.found.1),
            ap (λ (b : ℕ). Mark b line ∷ start) minus ∙ ap (λ (x : List Lexeme). Mark 45 line ∷ x) r.found.2,
          );
          only = λ e here rest is ends stands.
              let b = behind_minus e here rest minus is stands in
              let read = r.only b.0 b.1 rest b.4 tt b.3 in
              (ap (λ (x : Expr). expr.Negate line I32 x) (box ∙ read.0) ∙ sym b.2, read.1);
        }

  -- ---- the first lexeme of a prefix

  module _ (room : ℕ) (old new : List Lexeme) where
    pub run_read : (o : Option Expr) (bytes : List ℕ) (line : ℕ) → old ≡ Run bytes line ∷ new → IfSome o (λ f. IsLeaf names f (Run bytes line ∷ [])) → IfSome o (λ f. (e : Expr) → IsLeaf names e (Run bytes line ∷ []) → f ≡ e) → IfNone o ((e : Expr) → IsLeaf names e (Run bytes line ∷ []) → ⊥) → Reads (IsPrefix names room) (EndsRank 0) (ok_or o NotForm) old new
    run_read (Some f) bytes line at found unique none =
        record {
          found = (Run bytes line ∷ [], prefix_leaf names room f (Run bytes line ∷ []) found, at);
          only = λ e here rest is ends stands.
              let run = begins_run names room e here rest new bytes line is (sym at ∙ stands) in
              (unique e run.0, run.1);
        }
    run_read None bytes line at found unique none =
        record {
          found = tt;
          only = λ e here rest is ends stands.
              let run = begins_run names room e here rest new bytes line is (sym at ∙ stands) in
              none e run.0;
        }

    pub twin_read : (line : ℕ) → old ≡ Twin line ∷ new → Reads (IsPrefix names room) (EndsRank 0) (Err NotForm) old new
    twin_read line at = record { found = tt; only = λ e here rest is ends stands. begins_twin names room e here rest new line is (sym at ∙ stands) }

    pub end_read : old ≡ [] → Reads (IsPrefix names room) (EndsRank 0) (Err NotForm) old new
    end_read at =
        record {
          found = tt;
          only = λ e here rest is ends stands.
              let some = prefix_some room e here is in
              let clash : [] ≡ some.0 ∷ (some.1 ++ rest) = sym at ∙ (stands ∙ ap (λ (x : List Lexeme). x ++ rest) some.2) in
              cc;
        }

-- ---- links

module _ (below : ℕ) (Operand : ExprSpelling) (start tokens : List Lexeme) (links : List Link) where
  pub links_end : HasNoOperator (suc below) tokens → AreSoFar below Operand start tokens links → Reads (AreLinks (suc below) Operand) (EndsRank (suc below)) (Ok links) start tokens
  links_end none a =
      record {
        found = (a.here, a.spelled, a.stood);
        only = λ all front rest are ends stands. at_none below Operand all links tokens rest none (a.only all front rest are ends stands);
      }

  pub links_fail : (fault : ReadFault) (behind new : List Lexeme) (byte line : ℕ) (op : BinOp) → tokens ≡ Mark byte line ∷ behind → operator_of (suc below) byte ≡ Some op → Reads Operand (EndsRank below) (Err fault) behind new → AreSoFar below Operand start tokens links → Reads (AreLinks (suc below) Operand) (EndsRank (suc below)) (Err fault) start new
  links_fail fault behind new byte line op at op_is r a =
      record {
        found = tt;
        only = λ all front rest are ends stands.
            let n = at_some below Operand all links tokens behind rest byte line op at op_is ends (a.only all front rest are ends stands) in
            same_fault fault new (out-Link n.link).operand (n.behind ++ rest) new all rest (r.only (out-Link n.link).operand n.here (n.behind ++ rest) n.operand n.ends n.stand);
      }

  pub links_more : (f : Expr) (link : Link) (behind new : List Lexeme) (byte line : ℕ) (op : BinOp) → tokens ≡ Mark byte line ∷ behind → operator_of (suc below) byte ≡ Some op → Reads Operand (EndsRank below) (Ok f) behind new → (out-Link link).op ≡ op → (out-Link link).ty ≡ I32 → (out-Link link).operand ≡ f → AreSoFar below Operand start tokens links → AreSoFar below Operand start new (links ++ (link ∷ []))
  links_more f link behind new byte line op at op_is r link_op link_ty link_operand a =
      record {
        here = a.here ++ (Mark byte line ∷ r.found.0);
        spelled = links-snoc below Operand links a.here link byte line r.found.0 a.spelled (op_is ∙ ap Some (sym link_op)) link_ty (subst (λ (x : Expr). Operand x r.found.0) (sym link_operand) r.found.1);
        stood = a.stood ∙ (ap (λ (x : List Lexeme). a.here ++ x) (at ∙ ap (λ (x : List Lexeme). Mark byte line ∷ x) r.found.2) ∙ sym (append_assoc a.here (Mark byte line ∷ r.found.0) new));
        only = λ all front rest are ends stands.
            let n = at_some below Operand all links tokens behind rest byte line op at op_is ends (a.only all front rest are ends stands) in
            went_on below Operand all links op behind new rest f link n (r.only (out-Link n.link).operand n.here (n.behind ++ rest) n.operand n.ends n.stand) link_op link_ty link_operand;
      }

-- none were read yet
pub links_start : (below : ℕ) (Operand : ExprSpelling) (start : List Lexeme) (links : List Link) → links ≡ [] → AreSoFar below Operand start start links
links_start below Operand start links none =
    record {
      here = [];
      spelled = subst (λ (ls : List Link). AreLinks (suc below) Operand ls []) (sym none) refl;
      stood = refl;
      only = λ all front rest are ends stands. record { more = all; ahead = front; links_are = ap (λ (ls : List Link). ls ++ all) (sym none); spelled = are; stand = stands };
    }

-- ---- a rank: an operand, and links

-- the front line is that of the first part
front_line-append : (here rest : List Lexeme) → ((first : Lexeme) × (more : List Lexeme) × (here ≡ first ∷ more)) → front_line (here ++ rest) ≡ front_line here
front_line-append [] rest (first, more, same) = cc
front_line-append (Run bytes line ∷ xs) rest some = refl
front_line-append (Mark byte line ∷ xs) rest some = refl
front_line-append (Twin line ∷ xs) rest some = refl

module _ (names : List (List ℕ)) (room below : ℕ) where
  -- what a derivation of a rank has: an operand, and links that may be none
  record Parts (e : Expr) (here : List Lexeme) : Type 0 where
    first : Expr
    links : List Link
    front : List Lexeme
    behind : List Lexeme
    same : here ≡ front ++ behind
    operand : IsOfRank below (IsPrefix names room) first front
    are : AreLinks (suc below) (IsOfRank below (IsPrefix names room)) links behind
    which : ((links ≡ []) × (e ≡ first)) ⊎ ((0 < length links) × (e ≡ expr.Chain (front_line front) first links))

  parts_of : (e : Expr) (here : List Lexeme) → IsChain (suc below) (IsOfRank below (IsPrefix names room)) e here → Parts e here
  parts_of e here (single h) = record { first = e; links = []; front = here; behind = []; same = sym (append-nil here); operand = h; are = refl; which = inl (refl, refl) }
  parts_of e here (several first links front rest same is operand more some) = record { first = first; links = links; front = front; behind = rest; same = same; operand = operand; are = more; which = inr (some, is) }

  module _ (start middle : List Lexeme) where
    pub first_fails : (fault : ReadFault) → Reads (IsOfRank below (IsPrefix names room)) (EndsRank below) (Err fault) start middle → Reads (IsChain (suc below) (IsOfRank below (IsPrefix names room))) (EndsRank (suc below)) (Err fault) start middle
    first_fails fault r =
        record {
          found = tt;
          only = λ e here rest is ends stands.
              let p = parts_of e here is in
              same_fault fault middle p.first (p.behind ++ rest) middle e rest
              (r.only p.first p.front (p.behind ++ rest) p.operand (ends_below below (IsOfRank below (IsPrefix names room)) p.links p.behind rest p.are ends) (stands ∙ (ap (λ (x : List Lexeme). x ++ rest) p.same ∙ append_assoc p.front p.behind rest)));
        }

    module _ (f : Expr) (r : Reads (IsOfRank below (IsPrefix names room)) (EndsRank below) (Ok f) start middle) where
      -- the first operand is that of the derivation
      first_is : (e : Expr) (here rest : List Lexeme) (p : Parts e here) → EndsRank (suc below) rest → start ≡ here ++ rest → (f ≡ p.first) × (middle ≡ p.behind ++ rest)
      first_is e here rest p ends stands =
          r.only p.first p.front (p.behind ++ rest) p.operand (ends_below below (IsOfRank below (IsPrefix names room)) p.links p.behind rest p.are ends) (stands ∙ (ap (λ (x : List Lexeme). x ++ rest) p.same ∙ append_assoc p.front p.behind rest))

      pub links_failed : (fault : ReadFault) (new : List Lexeme) → Reads (AreLinks (suc below) (IsOfRank below (IsPrefix names room))) (EndsRank (suc below)) (Err fault) middle new → Reads (IsChain (suc below) (IsOfRank below (IsPrefix names room))) (EndsRank (suc below)) (Err fault) start new
      links_failed fault new ls =
          record {
            found = tt;
            only = λ e here rest is ends stands.
                let p = parts_of e here is in
                let first = first_is e here rest p ends stands in
                same_fault fault new p.links rest new e rest (ls.only p.links p.behind rest p.are ends first.1);
          }

      pub one_operand : (links : List Link) (new : List Lexeme) → links ≡ [] → Reads (AreLinks (suc below) (IsOfRank below (IsPrefix names room))) (EndsRank (suc below)) (Ok links) middle new → Reads (IsChain (suc below) (IsOfRank below (IsPrefix names room))) (EndsRank (suc below)) (Ok f) start new
      one_operand links new none ls =
          let nothing : ls.found.0 ≡ [] = subst (λ (l : List Link). AreLinks (suc below) (IsOfRank below (IsPrefix names room)) l ls.found.0) none ls.found.1 in
          record {
            found = (r.found.0, single r.found.1, r.found.2 ∙ ap (λ (x : List Lexeme). r.found.0 ++ x) (ls.found.2 ∙ ap (λ (x : List Lexeme). x ++ new) nothing));
            only = λ e here rest is ends stands.
                let p = parts_of e here is in
                let first = first_is e here rest p ends stands in
                let read = ls.only p.links p.behind rest p.are ends first.1 in
                elim p.which [
                  | inl h ↦ (first.0 ∙ sym h.1, read.1)
                  | inr h ↦ absurd (omega (arith, h.0, ap length (sym read.0 ∙ none)))
                ];
          }

      pub several_operands : (boxed : Expr) (line : ℕ) (links : List Link) (new : List Lexeme) → boxed ≡ f → line ≡ front_line start → (links ≡ [] → ⊥) → Reads (AreLinks (suc below) (IsOfRank below (IsPrefix names room))) (EndsRank (suc below)) (Ok links) middle new → Reads (IsChain (suc below) (IsOfRank below (IsPrefix names room))) (EndsRank (suc below)) (Ok (expr.Chain line boxed links)) start new
      several_operands boxed line links new box line_is some ls =
          let front_is : front_line start ≡ front_line r.found.0 = ap front_line r.found.2 ∙ front_line-append r.found.0 middle (rank_some names below room f r.found.0 r.found.1) in
          record {
            found = (
              r.found.0 ++ ls.found.0,
              several f links r.found.0 ls.found.0 refl (λ i. expr.Chain ((line_is ∙ front_is) i) (box i) links) r.found.1 ls.found.1 (some_links links some),
              r.found.2 ∙ (ap (λ (x : List Lexeme). r.found.0 ++ x) ls.found.2 ∙ sym (append_assoc r.found.0 ls.found.0 new)),
            );
            only = λ e here rest is ends stands.
                let p = parts_of e here is in
                let first = first_is e here rest p ends stands in
                let read = ls.only p.links p.behind rest p.are ends first.1 in
                let line_at : line ≡ front_line p.front = line_is ∙ (ap front_line (stands ∙ (ap (λ (x : List Lexeme). x ++ rest) p.same ∙ append_assoc p.front p.behind rest)) ∙ front_line-append p.front (p.behind ++ rest) (rank_some names below room p.first p.front p.operand)) in
                elim p.which [
                  | inl h ↦ absurd (some (read.0 ∙ h.0))
                  | inr h ↦ ((λ i. expr.Chain (line_at i) ((box ∙ first.0) i) (read.0 i)) ∙ sym h.1, read.1)
                ];
          }
        where
          some_links : (ls : List Link) → (ls ≡ [] → ⊥) → 0 < length ls
          some_links [] none = absurd (none refl)
          some_links (k ∷ ks) none = omega arith

-- ---- by the number of the rank

pub rank_zero : (names : List (List ℕ)) (room rank : ℕ) (result : Result Expr ReadFault) (old new : List Lexeme) → rank ≡ 0 → Reads (IsPrefix names room) (EndsRank 0) result old new → Reads (IsOfRank rank (IsPrefix names room)) (EndsRank rank) result old new
unfolding IsOfRank
rank_zero names room rank result old new none r = subst (λ (n : ℕ). Reads (IsOfRank n (IsPrefix names room)) (EndsRank n) result old new) (sym none) r

pub rank_more : (names : List (List ℕ)) (room rank : ℕ) (result : Result Expr ReadFault) (old new : List Lexeme) → 0 < rank → Reads (IsChain (suc (rank - 1)) (IsOfRank (rank - 1) (IsPrefix names room))) (EndsRank (suc (rank - 1))) result old new → Reads (IsOfRank rank (IsPrefix names room)) (EndsRank rank) result old new
unfolding IsOfRank
rank_more names room rank result old new some r =
    let same : suc (rank - 1) ≡ rank = omega arith in
    let at : Reads (IsOfRank (suc (rank - 1)) (IsPrefix names room)) (EndsRank (suc (rank - 1))) result old new = r in
    subst (λ (n : ℕ). Reads (IsOfRank n (IsPrefix names room)) (EndsRank n) result old new) same at

-- what is left when a mark that stands there was taken
pub taken_behind : (taken : Option Token) (old new : List Lexeme) (byte line : ℕ) (behind : List Lexeme) → IfSome taken (λ token. old ≡ lexeme_of token ∷ new) → IfNone taken ((old ≡ []) × (new ≡ [])) → old ≡ Mark byte line ∷ behind → old ≡ Mark byte line ∷ new
taken_behind (Some token) old new byte line behind some none at =
    let same : lexeme_of token ∷ new ≡ Mark byte line ∷ behind = sym some ∙ at in
    let front : lexeme_of token ≡ Mark byte line = cc in
    some ∙ ap (λ (x : Lexeme). x ∷ new) front
taken_behind None old new byte line behind some none at =
    let clash : [] ≡ Mark byte line ∷ behind = sym none.0 ∙ at in
    cc
