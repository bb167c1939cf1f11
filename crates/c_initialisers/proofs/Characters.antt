-- Of which derivations, with one element in the array whose size isn't said, an array of characters comes.
use Rattle.std.proofs.Common.{◌≡◌, ℕ, suc, ◌-◌, ◌==◌, ◌≤◌, Bool, true, false, ◌&&◌, cond, List, [], ◌∷◌, length, Option, Some, None, refl, sym, ap, ◌∙◌, subst, is_none, arith}
use Rattle.std.specs.List.{list_all}
use Rattle.std.specs.Prelude.{slice_get, slice_set, is_some, IsSomeAnd, if◌then◌else◌}
use Rattle.std.proofs.lemmas.Bool.Decides.{nat_tests}
use native.Mathlib.Decide.{dec_le}
use Rattle.filc_num.specs.declared.c_int_type.CIntType.{CIntType}
use Rattle.c_types.specs.declared.ctype.CType.{CType}
use Rattle.c_types.specs.declared.ctype.ElementCount.{ElementCount}
use Rattle.c_types.specs.declared.ctype.Part.{Part}
use Rattle.c_types.specs.declared.derivation.Derivation.{Derivation}
use Rattle.c_types.specs.declared.derivation.Derivation.TheVariants as derivation
use Rattle.c_types.specs.declared.entry.Entry.{Entry}
use Rattle.c_types.specs.declared.entry.Entry.TheVariants.{OfType, NoParameters, Parameters}
use Rattle.c_types.specs.Derivations.{lowest_rule}
use Rattle.c_types.specs.Declarators.{type_in, shape_at, type_of_entry, IsTypeEntry, Makes, IsDerived}
use Rattle.c_types.specs.Extensions.{Table, or_void, is_part, is_part_of, knows_list, may_derive, derived_each, count_if, count_of}
use Rattle.c_types.specs.Whole.{IsTypeAt}
use Rattle.c_declarators.specs.Outermost.{ends_open, is_open}
use Rattle.c_expr_rules.specs.IntegerTypes.{integer_kind}
use Rattle.c_expr_rules.specs.Outcomes.{State}
use Rattle.c_expr_rules.specs.TypedExpressions.{type_at}
use Rattle.c_file_rules.specs.Declaring.{sized_by, are_characters}
use Rattle.c_file_rules.specs.Initialising.{kind_or_none, is_character, characters_of}
use Rattle.c_file_rules.specs.Naming.{with_types}
use Rattle.c_file_rules.proofs.Deriving.{derived_made}

-- ---- tests

and_left : (a b : Bool) → (a && b) ≡ true → a ≡ true
and_left true b h = refl
and_left false b h = cc

and_right : (a b : Bool) → (a && b) ≡ true → b ≡ true
and_right true b h = h
and_right false b h = cc

and_false : (a : Bool) → (a && false) ≡ false
and_false true = refl
and_false false = refl

none_there : {A : Type 0} (o : Option A) → is_none o ≡ true → o ≡ None
none_there None h = refl
none_there (Some x) h = cc

-- ---- the kind of characters

characters_by_kind : (k : Option CIntType) (count : ℕ) → is_some (kind_or_none k count) ≡ is_character k
characters_by_kind None count = refl
characters_by_kind (Some k) count = by (is_character (Some k)) where
  by : (b : Bool) → is_some {T = CIntType × ℕ} (if b then Some (k, count) else None) ≡ b
  by true = refl
  by false = refl

-- what a derivation makes is no integer
no_integer : (t : Table) (of : Part) (d : Derivation) (made : Part) → Makes t of d made → integer_kind (or_void (type_in t made.number)) ≡ None
no_integer t of (derivation.Pointer set) made h = ap (λ (o : Option Entry). integer_kind (or_void (type_of_entry o))) h.0
no_integer t of (derivation.Array count) made h = ap (λ (o : Option Entry). integer_kind (or_void (type_of_entry o))) h.1.0
no_integer t of (derivation.Function list more) made h = ap (λ (o : Option Entry). integer_kind (or_void (type_of_entry o))) h.0
no_integer t of derivation.OpenArray made h = absurd h
no_integer t of derivation.BadArray made h = absurd h
no_integer t of (derivation.BadFunction broken) made h = absurd h

not_one : (n : ℕ) → (suc (suc n) == 1) ≡ false
not_one n = grind (arith, nat_tests)

-- an array that is made last has characters where it is the only derivation, and its base is a character
characters_made : (s : State) (base made : Part) (count : ElementCount) (ds : List Derivation) → ends_open ds ≡ true
    → IsDerived s.table base (slice_set ds (length ds - 1) (derivation.Array count)) made
    → is_some (characters_of s (type_at s made.number)) ≡ (length ds == 1 && is_character (integer_kind (type_at s base.number)))
unfolding IsDerived
characters_made s base made count [] ends h = cc
characters_made s base made count (d ∷ []) ends h =
    let a = h.1.0 in
    ap (λ (p : Part). is_some (characters_of s (type_at s p.number))) (sym h.2)
    ∙ ap (λ (o : Option Entry). is_some (characters_of s (or_void (type_of_entry o)))) h.1.1.0
    ∙ characters_by_kind (integer_kind (type_at s a.element.number)) a.count
    ∙ ap (λ (p : Part). is_character (integer_kind (type_at s p.number))) h.1.2
characters_made s base made count (d ∷ e ∷ rest) ends h =
    let n : length (d ∷ e ∷ rest) - 1 ≡ suc (length (e ∷ rest) - 1) = omega arith in
    let k = subst (λ (n : ℕ). IsDerived s.table base (slice_set (d ∷ e ∷ rest) n (derivation.Array count)) made) n h in
    let left : ends_open (e ∷ rest) ≡ true = sym (ap (λ (n : ℕ). is_open (slice_get (d ∷ e ∷ rest) n)) n) ∙ ends in
    characters_made s k.0 made count (e ∷ rest) left k.2
    ∙ ap (λ (o : Option CIntType). length (e ∷ rest) == 1 && is_character o) (no_integer s.table base d k.0 k.1)
    ∙ and_false (length (e ∷ rest) == 1)
    ∙ ap (λ b. b && is_character (integer_kind (type_at s base.number))) (sym (not_one (length rest)))

-- ---- what is of a table

type_there : (o : Option Entry) (set : ℕ) → is_part_of o set ≡ true → IsSomeAnd o IsTypeEntry
type_there None set h = cc
type_there (Some (OfType ty)) set h = tt
type_there (Some NoParameters) set h = cc
type_there (Some (Parameters a b)) set h = cc

same_type : (o p : Option Entry) → IsSomeAnd o IsTypeEntry → ((e : Entry) → o ≡ Some e → p ≡ Some e) → type_of_entry p ≡ type_of_entry o
same_type None p there kept = absurd there
same_type (Some e) p there kept = ap type_of_entry (kept e refl)

-- one element is a count
one_counts : (d : Dec (1 ≤ 1)) → (c : ElementCount) × (count_if 1 d ≡ Some c)
one_counts (yes p) = (record { value = 1; some = p }, refl)
one_counts (no p) = absurd (p (omega arith))

-- ---- what is made of derivations that break no rule, and of others

pub characters_alone : (s : State) (base : Part) (ds : List Derivation) → ends_open ds ≡ true
    → may_derive s.table base (sized_by ds (count_of 1)) ≡ true
    → are_characters s base ds ≡ (length ds == 1 && is_character (integer_kind (type_at s base.number)))
characters_alone s base ds ends may =
    let t = s.table in
    let all = sized_by ds (count_of 1) in
    let one = one_counts (dec_le 1 1) in
    let listed : all ≡ slice_set ds (length ds - 1) (derivation.Array one.0) =
    ap (sized_by ds) one.1 ∙ ap (λ b. cond b (slice_set ds (length ds - 1) (derivation.Array one.0)) ds) ends in
    let known : is_part t base ≡ true = and_left (is_part t base) (list_all (knows_list t) all && is_none (lowest_rule (shape_at t base.number) None all)) may in
    let lists : (list_all (knows_list t) all && is_none (lowest_rule (shape_at t base.number) None all)) ≡ true =
    and_right (is_part t base) (list_all (knows_list t) all && is_none (lowest_rule (shape_at t base.number) None all)) may in
    let fine : is_none (lowest_rule (shape_at t base.number) None all) ≡ true = and_right (list_all (knows_list t) all) (is_none (lowest_rule (shape_at t base.number) None all)) lists in
    let there : IsTypeAt t base.number = type_there (slice_get t base.number) base.qualifiers.0 known in
    let made = derived_each t base all in
    let held = derived_made t base all there (none_there (lowest_rule (shape_at t base.number) None all) fine) in
    ap (λ (m : Table × Part). let u = with_types m.0 s in is_some (characters_of u (type_at u m.1.number))) (ap (λ b. cond b made (t, base)) may)
    ∙ characters_made (with_types made.0 s) base made.1 one.0 ds ends (subst (λ (l : List Derivation). IsDerived made.0 base l made.1) listed held.1)
    ∙ ap (λ (o : Option CType). length ds == 1 && is_character (integer_kind (or_void o))) (same_type (slice_get t base.number) (slice_get made.0 base.number) there (held.0 base.number))

pub characters_before : (s : State) (base : Part) (ds : List Derivation) → may_derive s.table base (sized_by ds (count_of 1)) ≡ false
    → are_characters s base ds ≡ is_some (characters_of s (type_at s base.number))
characters_before s base ds may =
    ap (λ (m : Table × Part). let u = with_types m.0 s in is_some (characters_of u (type_at u m.1.number))) (ap (λ b. cond b (derived_each s.table base (sized_by ds (count_of 1))) (s.table, base)) may)
