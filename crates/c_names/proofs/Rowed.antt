-- The functions that are one operation each, row by row; and the state before a file.
use Rattle.std.proofs.Common.{◌≡◌, ℕ, zero, suc, ◌+◌, ◌-◌, ◌<◌, ◌≤◌, Bool, true, false, cond, ltb, ltb-true, ◌++◌, List, [], ◌∷◌, length, take, map, reverse, Some, None, refl, sym, ap, ◌∙◌, arith, slice_get}
use Rattle.std.specs.Prelude.{Option, slice_index_or}
use Rattle.std.specs.BTreeMap.{get}
use Rattle.std.specs.Ordering.{nat_cmp}
use Rattle.c_scope.specs.Blocks.{visible}
use Rattle.c_scope.specs.Scopes.{Names}
use Rattle.c_types.specs.Extensions.{Table}
use Rattle.c_expr_rules.specs.declared.state.State.{State}
use Rattle.c_expr_rules.specs.Views.{seen_state}
use Rattle.c_file_rules.specs.Files.{start_state}
use Rattle.c_file_rules.specs.Operations.{Intrinsic, intrinsics, operation_at, with_intrinsic, with_intrinsics, start_of}
use Rattle.c_tree.specs.declared.operation.Operation.{Operation}
use Rattle.c_tree.specs.declared.operation.Operation.TheVariants as op
use Rattle.c_names.specs.declared.operations.Written.TheVariants as written
use Rattle.c_names.specs.Begun.{seen_intrinsic}
use Rattle.c_names.specs.declared.operations.Intrinsic.{Intrinsic as Row}
use Rattle.c_names.proofs.Fresh.{name_in}

-- what would stand past the rows
abbrev pub no_row : Row
no_row =
    record {
      operation = op.Number 0;
      name = record { ref_ptr = (0, 0); now = [] };
      gives = written.Void;
      takes = record { ref_ptr = (0, 0); now = [] };
    }

pub rows_length : (rows : List Row) → length (map seen_intrinsic rows) ≡ length rows
rows_length [] = refl
rows_length (r ∷ rows) = ap suc (rows_length rows)

pub row_name : (rows : List Row) (k : ℕ) (d : Row) → k < length rows → (slice_index_or rows k d).name.now ≡ name_in (slice_get (map seen_intrinsic rows) k)
row_name [] k d h = absurd (omega (arith, h))
row_name (r ∷ rows) zero d h = refl
row_name (r ∷ rows) (suc k) d h = row_name rows k d (omega (arith, h))

pub row_at : (rows : List Row) (k : ℕ) (d : Row) → k < length rows → slice_get (map seen_intrinsic rows) k ≡ Some (seen_intrinsic (slice_index_or rows k d))
row_at [] k d h = absurd (omega (arith, h))
row_at (r ∷ rows) zero d h = refl
row_at (r ∷ rows) (suc k) d h = row_at rows k d (omega (arith, h))

abbrev or_first : Intrinsic → Option Intrinsic → Intrinsic
or_first y (Some x) = x
or_first y None = y

-- one row more
pub one_more : (xs : List Intrinsic) (n k : ℕ) (s : Table × Names) (x : Intrinsic) → slice_get xs k ≡ Some x
    → with_intrinsics n (take (suc k) xs) s ≡ with_intrinsic (n + k) x (with_intrinsics n (take k xs) s)
one_more [] n k s x h = cc
one_more (y ∷ xs) n zero s x h =
    let same : y ≡ x = ap (or_first y) h in
    let number : n ≡ n + 0 = omega arith in
    ap (λ m. with_intrinsic m y s) number ∙ ap (λ z. with_intrinsic (n + 0) z s) same
one_more (y ∷ xs) n (suc k) s x h =
    let number : suc n + k ≡ n + suc k = omega arith in
    one_more xs (suc n) k (with_intrinsic n y s) x h
    ∙ ap (λ m. with_intrinsic m x (with_intrinsics (suc n) (take k xs) (with_intrinsic n y s))) number

-- the state before a file
pub begun : (bodies : ℕ) (s : State) → s.types ≡ (start_of bodies).0 → s.scopes ≡ (start_of bodies).1
    → ((n : ℕ) → get nat_cmp s.contents n ≡ None) → s.next_static ≡ 0 → s.literals.items ≡ [] → s.used.items ≡ []
    → s.taken.items ≡ [] → s.next_local ≡ 0 → s.locals.items ≡ [] → s.placed.items ≡ [] → s.filled.items ≡ []
    → seen_state s ≡ start_state bodies
begun bodies s types scopes contents next_static literals used taken next_local locals placed filled =
    λ i. record {
      visible = (λ letters. visible letters (scopes i).ordinary);
      table = types i;
      contents = (λ n. contents n i);
      next_static = next_static i;
      literals = reverse (literals i);
      used = reverse (used i);
      taken = reverse (taken i);
      above =
          record {
            names = scopes i;
            next_local = next_local i;
            locals = reverse (locals i);
            placed = reverse (placed i);
            filled = reverse (filled i);
          };
    }

-- ---- the operation that a function is, by the table

not_below : (a b : ℕ) → b ≤ a → (t : Bool) → ltb a b ≡ t → t ≡ false
not_below a b h false e = refl
not_below a b h true e = let below = ltb-true a b e in absurd (omega (arith, h, below))

pub placed_at : (bodies number : ℕ) (xs : List Operation) (o : Option Operation) → xs ≡ map (λ (i : Intrinsic). i.operation) intrinsics ++ op.Out ∷ [] → bodies ≤ number
    → slice_get xs (number - bodies) ≡ o → o ≡ operation_at bodies number
placed_at bodies number xs o e h p =
    sym p ∙ ap (λ ys. slice_get ys (number - bodies)) e
    ∙ sym (ap (λ b. cond b None (slice_get (map (λ (i : Intrinsic). i.operation) intrinsics ++ op.Out ∷ []) (number - bodies))) (not_below number bodies h (ltb number bodies) refl))
