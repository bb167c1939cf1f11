-- What is kept of what an initialiser gives: of a local its stores, and of a static object its fills.
use Rattle.std.proofs.Common.{◌≡◌, ℕ, ◌+◌, ◌<◌, ◌≤◌, min, Bool, true, false, List, [], ◌∷◌, ◌++◌, length, get_or, take, drop, refl, sym, ap, ap₂, ◌∙◌, append_assoc, append-nil, arith}
use native.Mathlib.Decide.{dec_le}
use Rattle.std.proofs.lemmas.List.{at_drop_all, drop_more}
use Rattle.filc_num.specs.declared.c_int_type.CIntType.{CIntType}
use Rattle.filc_num.specs.CIntTypes.{int_type_of}
use Rattle.filc_num.specs.Integers.{convert_of}
use Rattle.c_tree.specs.declared.stmt.Stmt.{Stmt}
use Rattle.c_expr_rules.specs.declared.above.Fill.{Fill}
use Rattle.c_expr_rules.specs.Expressions.{Around}
use Rattle.c_expr_rules.specs.Outcomes.{State}
use Rattle.c_expr_rules.specs.TypedExpressions.{constant}
use Rattle.c_expr_rules.specs.declared.typed.Typed.{Typed}
use Rattle.c_file_rules.specs.Initialising.{nothing_given, then_given, part_target, value_given, bytes_given}
use Rattle.c_file_rules.specs.declared.targets.Target.{Target}
use Rattle.c_file_rules.specs.declared.targets.Given.{Given}
use Rattle.c_file_rules.specs.declared.targets.PartAt.{PartAt}
use Rattle.c_file_rules.specs.Filling.{kept_of, value_kept, with_fill, with_store}

same_given : (a b : List Stmt) (f g : List Fill) → a ≡ b → f ≡ g → ◌≡◌ {A = Given} (record { stores = a; fills = f }) (record { stores = b; fills = g })
same_given a b f g e h = ap₂ (λ (x : List Stmt) (y : List Fill). let z : Given = record { stores = x; fills = y } in z) e h

pub given_assoc : (a b c : Given) → then_given (then_given a b) c ≡ then_given a (then_given b c)
given_assoc a b c =
    same_given (a.stores ++ b.stores ++ c.stores) (a.stores ++ (b.stores ++ c.stores)) (a.fills ++ b.fills ++ c.fills) (a.fills ++ (b.fills ++ c.fills))
    (append_assoc a.stores b.stores c.stores) (append_assoc a.fills b.fills c.fills)

pub given_nothing : (a : Given) → then_given a nothing_given ≡ a
given_nothing a = same_given (a.stores ++ []) a.stores (a.fills ++ []) a.fills (append-nil a.stores) (append-nil a.fills)

pub kept_then : (is_static : Bool) (a b : Given) → kept_of is_static (then_given a b) ≡ then_given (kept_of is_static a) (kept_of is_static b)
kept_then true a b = refl
kept_then false a b = refl

pub kept_nothing : (is_static : Bool) → kept_of is_static nothing_given ≡ nothing_given
kept_nothing true = refl
kept_nothing false = refl

-- ---- one value

module _ (around : Around) (line : ℕ) (s : State) (t : Target) (v : Typed) (g : Given) where
  pub fill_kept : t.is_static ≡ true → with_fill s t v.known g ≡ then_given g (value_kept around line s t v)
  fill_kept e =
      let given = value_given around line s t v in
      sym (ap (λ b. then_given g (kept_of b given)) e
      ∙ same_given (g.stores ++ []) g.stores (g.fills ++ given.fills) (g.fills ++ given.fills) (append-nil g.stores) refl)

  pub store_kept : t.is_static ≡ false → with_store around line s t v g ≡ then_given g (value_kept around line s t v)
  store_kept e =
      let given = value_given around line s t v in
      sym (ap (λ b. then_given g (kept_of b given)) e
      ∙ same_given (g.stores ++ given.stores) (g.stores ++ given.stores) (g.fills ++ []) g.fills refl (append-nil g.fills))

-- ---- the characters of a text

module _ (around : Around) (line : ℕ) (s : State) (t : Target) (k : CIntType) where
  -- no more parts count than there are bytes
  pub as_many_parts : (parts : List PartAt) (bytes : List ℕ) → bytes_given around line s t k (take (length bytes) parts) bytes ≡ bytes_given around line s t k parts bytes
  as_many_parts [] [] = refl
  as_many_parts [] (v ∷ bytes) = refl
  as_many_parts (p ∷ parts) [] = refl
  as_many_parts (p ∷ parts) (v ∷ bytes) =
      ap (then_given (value_given around line s (part_target t p) (constant k line (convert_of v (int_type_of k))))) (as_many_parts parts bytes)

  pub byte_given : (parts : List PartAt) (bytes : List ℕ) (i : ℕ) (p : PartAt) → i < length parts → i < length bytes
      → bytes_given around line s t k (drop i parts) (drop i bytes)
      ≡ then_given (value_given around line s (part_target t (get_or parts i p)) (constant k line (convert_of (get_or bytes i 0) (int_type_of k))))
      (bytes_given around line s t k (drop (i + 1) parts) (drop (i + 1) bytes))
  byte_given parts bytes i p inside within =
      ap₂ (bytes_given around line s t k) (drop_more parts i p inside) (drop_more bytes i 0 within)

  no_bytes : (parts : List PartAt) → bytes_given around line s t k parts [] ≡ nothing_given
  no_bytes [] = refl
  no_bytes (p ∷ parts) = refl

  module _ (parts : List PartAt) (bytes : List ℕ) (i : ℕ) (before whole : Given)
      (so_far : then_given before (kept_of t.is_static (bytes_given around line s t k (drop i parts) (drop i bytes))) ≡ whole) where
    -- a byte more
    pub bytes_go : (p : PartAt) (v : ℕ) (after : Given) → i < length parts → i < length bytes → p ≡ get_or parts i p → v ≡ get_or bytes i 0
        → after ≡ then_given before (value_kept around line s (part_target t p) (constant k line (convert_of v (int_type_of k))))
        → then_given after (kept_of t.is_static (bytes_given around line s t k (drop (i + 1) parts) (drop (i + 1) bytes))) ≡ whole
    bytes_go p v after inside within part byte is =
        let rest = bytes_given around line s t k (drop (i + 1) parts) (drop (i + 1) bytes) in
        let given = λ (q : PartAt) (w : ℕ). value_given around line s (part_target t q) (constant k line (convert_of w (int_type_of k))) in
        let next : bytes_given around line s t k (drop i parts) (drop i bytes) ≡ then_given (given p v) rest =
        byte_given parts bytes i p inside within
        ∙ ap (λ (q : PartAt). then_given (given q (get_or bytes i 0)) rest) (sym part)
        ∙ ap (λ (w : ℕ). then_given (given p w) rest) (sym byte) in
        ap (λ (g : Given). then_given g (kept_of t.is_static rest)) is
        ∙ given_assoc before (kept_of t.is_static (given p v)) (kept_of t.is_static rest)
        ∙ ap (then_given before) (sym (kept_then t.is_static (given p v) rest))
        ∙ ap (λ (g : Given). then_given before (kept_of t.is_static g)) (sym next)
        ∙ so_far

    ended : bytes_given around line s t k (drop i parts) (drop i bytes) ≡ nothing_given → before ≡ whole
    ended none =
        sym (given_nothing before) ∙ ap (then_given before) (sym (kept_nothing t.is_static))
        ∙ ap (λ (g : Given). then_given before (kept_of t.is_static g)) (sym none) ∙ so_far

    -- no part is left, or no byte
    pub bytes_end : min (length parts) (length bytes) ≤ i → before ≡ whole
    bytes_end past = by (dec_le (length parts) i) where
      by : Dec (length parts ≤ i) → before ≡ whole
      by (yes p) = ended (at_drop_all (λ (l : List PartAt). bytes_given around line s t k l (drop i bytes)) parts i p)
      by (no p) =
          let q : length bytes ≤ i = omega (arith, p) in
          ended (at_drop_all (bytes_given around line s t k (drop i parts)) bytes i q ∙ no_bytes (drop i parts))
