-- One derivation after the other: the faults, and the types that are made.
use Rattle.std.proofs.Common.{◌≡◌, ◌⊎◌, ℕ, suc, ◌+◌, ◌<◌, All, List, [], ◌∷◌, ◌++◌, length, get_or, drop, Option, Some, None, refl, sym, ap, ◌∙◌, subst, ⊎_elim, Bool, Result, Ok, IsSomeAnd, add-one}
use Rattle.std.proofs.Math.Seq.{drop-cons}
use Rattle.std.proofs.lemmas.List.Elements.{All-weaker, All-tail}
use Rattle.c_types.specs.declared.derivation.Derivation.{Derivation}
use Rattle.c_types.specs.declared.rule.TypeRule.{TypeRule}
use Rattle.c_types.specs.declared.rule.DeriveFault.{DeriveFault}
use Rattle.c_types.specs.declared.rule.DeriveFault.TheVariants.{Broken, NoMemory}
use Rattle.std.specs.Prelude.{slice_get}
use Rattle.std.proofs.lemmas.Option.{slice_get_within}
use Rattle.c_types.specs.declared.ctype.CType.{CType}
use Rattle.c_types.specs.declared.ctype.CType.TheVariants.{Pointer, ArrayOf, Function}
use Rattle.c_types.specs.declared.ctype.TypeFault.{TypeFault}
use Rattle.c_types.specs.declared.ctype.Array.{Array}
use Rattle.c_types.specs.declared.ctype.ElementCount.{ElementCount}
use Rattle.c_types.specs.declared.qualifier_set.Qualifiers.{Qualifiers}
use Rattle.c_types.specs.declared.ctype.Part.{Part}
use Rattle.c_types.specs.declared.derivation.Derivation.TheVariants.{Pointer as PointerTo, Array as ArrayOfSo, OpenArray, BadArray, Function as FunctionOf, BadFunction}
use Rattle.c_types.specs.declared.entry.Entry.{Entry}
use Rattle.c_types.specs.declared.entry.Entry.TheVariants.{OfType, NoParameters, Parameters}
use Rattle.c_types.specs.Sizes.{Room}
use Rattle.c_types.specs.Derivations.{Shape, shape_of, shape_after, rule_of, lower, lowest, lowest_rule, IsCause}
use Rattle.c_types.specs.Declarators.{IsTypeEntry, type_of_entry, shape_of_any, shape_at, Keeps, Makes, IsDerived, IsParameterList}
use Rattle.c_types.specs.LayoutLaws.{room_size, room_align}
use Rattle.c_types.specs.Extensions.{derived_once, derived_each}
use Rattle.c_types.proofs.Orders.{array_by_parts}
use Rattle.c_types.proofs.Extending.{each_next}
use Rattle.c_types.specs.Whole.{IsListEntry, IsListAt, IsPartOf, IsPart, DerivationFits}
use Rattle.c_types.proofs.Numberings.{slice_get-push_before}
use Rattle.c_types.proofs.Whole.{Stays, Keeps-stays, part_is_type}

-- what is left at an index is the element there and what is left behind it
pub left_at : {A : Type 0} (xs : List A) (i : ℕ) (x : A) → i < length xs → x ≡ get_or xs i x → drop i xs ≡ x ∷ drop (i + 1) xs
left_at xs i x h e = drop-cons xs i x h ∙ ap (λ y. y ∷ drop (suc i) xs) (sym e) ∙ ap (λ n. x ∷ drop n xs) (sym (add-one i))

pub left_with : {A : Type 0} (xs : List A) (i : ℕ) (d : A) → i < length xs → drop i xs ≡ get_or xs i d ∷ drop (i + 1) xs
left_with xs i d h = drop-cons xs i d h ∙ ap (λ n. get_or xs i d ∷ drop n xs) (sym (add-one i))

-- the next derivation
pub next_rule : (s s' : Shape) (acc acc' f : Option TypeRule) (ds : List Derivation) (i : ℕ) (d : Derivation) → i < length ds → d ≡ get_or ds i d → f ≡ rule_of s d → acc' ≡ lowest acc f → s' ≡ shape_after s d → lowest_rule s' acc' (drop (i + 1) ds) ≡ lowest_rule s acc (drop i ds)
unfolding lowest_rule
next_rule s s' acc acc' f ds i d h e f-is acc-is s-is =
    ap (λ x. lowest_rule x acc' (drop (i + 1) ds)) s-is
    ∙ ap (λ x. lowest_rule (shape_after s d) x (drop (i + 1) ds)) (acc-is ∙ ap (lowest acc) f-is)
    ∙ sym (ap (lowest_rule s acc) (left_at ds i d h e))

-- ---- a table that grows

pub Keeps-table : (old new : List Entry) (e : Entry) → (new ≡ old) ⊎ (new ≡ old ++ e ∷ []) → Keeps old new
Keeps-table old new e h = λ n x at. ⊎_elim (λ p. ap (λ (t : List Entry). slice_get t n) p ∙ at)
    (λ p. ap (λ (t : List Entry). slice_get t n) p ∙ slice_get-push_before old e n (slice_get_within old n x at) ∙ at) h

pub Keeps-trans : (a b c : List Entry) → Keeps a b → Keeps b c → Keeps a c
Keeps-trans a b c h k = λ n e at. k n e (h n e at)

same_shape : (o p : Option Entry) → IsSomeAnd o IsTypeEntry → ((e : Entry) → o ≡ Some e → p ≡ Some e) → shape_of_any (type_of_entry p) ≡ shape_of_any (type_of_entry o)
same_shape None p there kept = absurd there
same_shape (Some e) p there kept = ap (λ (x : Option Entry). shape_of_any (type_of_entry x)) (kept e refl)

pub shape_at-keeps : (t t' : List Entry) (n : ℕ) → Keeps t t' → IsSomeAnd (slice_get t n) IsTypeEntry → shape_at t' n ≡ shape_at t n
shape_at-keeps t t' n k there = same_shape (slice_get t n) (slice_get t' n) there (λ e at. k n e at)

with_room : (o : Option Entry) (r : Room) → (shape_of_any (type_of_entry o)).room ≡ Some (Ok r) → IsSomeAnd o IsTypeEntry
with_room None r h = cc
with_room (Some (OfType ty)) r h = tt
with_room (Some NoParameters) r h = cc
with_room (Some (Parameters a b)) r h = cc

pub Makes-keeps : (t t' : List Entry) (of : Part) (d : Derivation) (made : Part) → Keeps t t' → Makes t of d made → Makes t' of d made
Makes-keeps t t' of (PointerTo q) made k h = (k made.number _ h.0, h.1)
Makes-keeps t t' of (FunctionOf ps more) made k h = (k made.number _ h.0, h.1)
Makes-keeps t t' of (ArrayOfSo count) made k h =
    let shape = shape_at-keeps t t' of.number k (with_room (slice_get t of.number) _ h.4) in
    (h.0, (k made.number _ h.1.0, h.1.1), h.2, h.3, ap (λ (s : Shape). s.room) shape ∙ h.4)
Makes-keeps t t' of OpenArray made k h = absurd h
Makes-keeps t t' of BadArray made k h = absurd h
Makes-keeps t t' of (BadFunction broken) made k h = absurd h

pub IsDerived-keeps : (t t' : List Entry) (base : Part) (ds : List Derivation) (made : Part) → Keeps t t' → IsDerived t base ds made → IsDerived t' base ds made
unfolding IsDerived
IsDerived-keeps t t' base [] made k h = h
IsDerived-keeps t t' base (d ∷ ds) made k h = (h.0, Makes-keeps t t' base d h.0 k h.1, IsDerived-keeps t t' h.0 ds made k h.2)

pub IsParameterList-keeps : (t t' : List Entry) (types : List ℕ) (n : ℕ) → Keeps t t' → IsParameterList t types n → IsParameterList t' types n
unfolding IsParameterList
IsParameterList-keeps t t' [] n k h = k n _ h
IsParameterList-keeps t t' (ty ∷ types) n k h = (h.0, k n _ h.1, IsParameterList-keeps t t' types h.0 k h.2)

-- ---- what a derivation makes is a type, of the shape that comes behind

pub Makes-type : (t : List Entry) (of : Part) (d : Derivation) (made : Part) → Makes t of d made → IsSomeAnd (slice_get t made.number) IsTypeEntry
Makes-type t of (PointerTo q) made h = rw h.0 tt
Makes-type t of (FunctionOf ps more) made h = rw h.0 tt
Makes-type t of (ArrayOfSo count) made h = rw h.1.0 tt
Makes-type t of OpenArray made h = absurd h
Makes-type t of BadArray made h = absurd h
Makes-type t of (BadFunction broken) made h = absurd h

-- ..and a part in its one form
of_pointer : (o : Option Entry) (to : Part) (set : ℕ) → o ≡ Some (OfType (Pointer to)) → IsPartOf o set
of_pointer o to set h = subst (λ (x : Option Entry). IsPartOf x set) (sym h) tt

pub Makes-part : (t : List Entry) (of : Part) (d : Derivation) (made : Part) → Makes t of d made → IsPart t made
Makes-part t of (PointerTo q) made h = of_pointer (slice_get t made.number) of made.qualifiers.0 h.0
Makes-part t of (FunctionOf ps more) made h = subst (λ (x : Option Entry). IsPartOf x made.qualifiers.0) (sym h.0) h.1
Makes-part t of (ArrayOfSo count) made h = subst (λ (x : Option Entry). IsPartOf x made.qualifiers.0) (sym h.1.0) h.1.1
Makes-part t of OpenArray made h = absurd h
Makes-part t of BadArray made h = absurd h
Makes-part t of (BadFunction broken) made h = absurd h

-- ---- the lists that derivations name

pub DerivationFits-keeps : (t t' : List Entry) → Stays t t' → (d : Derivation) → DerivationFits t d → DerivationFits t' d
DerivationFits-keeps t t' s (PointerTo q) h = tt
DerivationFits-keeps t t' s (ArrayOfSo count) h = tt
DerivationFits-keeps t t' s OpenArray h = tt
DerivationFits-keeps t t' s BadArray h = tt
DerivationFits-keeps t t' s (FunctionOf ps more) h = s.lists ps h
DerivationFits-keeps t t' s (BadFunction broken) h = tt

pub All-keeps : (t t' : List Entry) (ds : List Derivation) → Stays t t' → All (DerivationFits t) ds → All (DerivationFits t') ds
All-keeps t t' ds s h = All-weaker (DerivationFits t) (DerivationFits t') (DerivationFits-keeps t t' s) ds h

-- the number of a list of parameters is one
pub list_at : (t : List Entry) (types : List ℕ) (n : ℕ) → IsParameterList t types n → IsListAt t n
unfolding IsParameterList
list_at t [] n h = subst (λ (o : Option Entry). IsSomeAnd o IsListEntry) (sym h) tt
list_at t (ty ∷ types) n h = subst (λ (o : Option Entry). IsSomeAnd o IsListEntry) (sym h.1) tt

pub Makes-shape : (t : List Entry) (of : Part) (d : Derivation) (made : Part) → Makes t of d made → shape_at t made.number ≡ shape_after (shape_at t of.number) d
Makes-shape t of (PointerTo q) made h = rw h.0 refl
Makes-shape t of (FunctionOf ps more) made h = rw h.0 refl
Makes-shape t of (ArrayOfSo count) made h = rw (h.1.0, h.4, h.3) refl
Makes-shape t of OpenArray made h = absurd h
Makes-shape t of BadArray made h = absurd h
Makes-shape t of (BadFunction broken) made h = absurd h

-- ---- faults

-- a fault stays one
stays : (s : Shape) (f : TypeRule) (ds : List Derivation) → (g : TypeRule) × (lowest_rule s (Some f) ds ≡ Some g)
unfolding lowest_rule
stays s f [] = (f, refl)
stays s f (d ∷ ds) = by (rule_of s d) refl (λ g. stays (shape_after s d) g ds)
  where
    by : (o : Option TypeRule) → rule_of s d ≡ o → ((g : TypeRule) → (x : TypeRule) × (lowest_rule (shape_after s d) (Some g) ds ≡ Some x)) → (x : TypeRule) × (lowest_rule (shape_after s d) (lowest (Some f) (rule_of s d)) ds ≡ Some x)
    by None e more = let m = more f in (m.0, ap (λ o. lowest_rule (shape_after s d) (lowest (Some f) o) ds) e ∙ m.1)
    by (Some g) e more = let m = more (lower f g) in (m.0, ap (λ o. lowest_rule (shape_after s d) (lowest (Some f) o) ds) e ∙ m.1)

pub fine_next : (s : Shape) (d : Derivation) (ds : List Derivation) → lowest_rule s None (d ∷ ds) ≡ None → rule_of s d ≡ None → lowest_rule (shape_after s d) None ds ≡ None
unfolding lowest_rule
fine_next s d ds h f = ap (λ o. lowest_rule (shape_after s d) o ds) (sym f) ∙ h

no_rule : (s : Shape) (d : Derivation) (ds : List Derivation) (f : TypeRule) → lowest_rule s None (d ∷ ds) ≡ None → rule_of s d ≡ Some f → ⊥
unfolding lowest_rule
no_rule s d ds f h e =
    let m = stays (shape_after s d) f ds in
    let clash : Some m.0 ≡ None = sym m.1 ∙ ap (λ o. lowest_rule (shape_after s d) o ds) (sym e) ∙ h in
    cc

-- a derivation among those that break no rule breaks none: it fails for want of memory alone
pub no_cause : (s : Shape) (d : Derivation) (ds : List Derivation) (f : DeriveFault) (o : Option TypeRule) → lowest_rule s None (d ∷ ds) ≡ None → IsCause (rule_of s d) f → IsCause o f
no_cause s d ds (Broken r) o h e = absurd (no_rule s d ds r h e)
no_cause s d ds NoMemory o h e = tt

-- ---- the loop over the derivations

-- while a declarator's type is made: what is made so far, with what is left, is the whole
pub record IsDeriving (first now : List Entry) (base part : Part) (ds left : List Derivation) : Type 0 where
  pub kept : Keeps first now
  pub there : IsPart now part
  pub lists : All (DerivationFits now) left
  pub fine : lowest_rule (shape_at now part.number) None left ≡ None
  pub each : derived_each first base ds ≡ derived_each now part left
  pub so_far : (table : List Entry) (made : Part) → Keeps now table → IsDerived table part left made → IsDerived table base ds made

pub derive-starts : (first : List Entry) (base : Part) (ds : List Derivation) → IsPart first base → All (DerivationFits first) ds → lowest_rule (shape_at first base.number) None ds ≡ None → IsDeriving first first base base ds ds
derive-starts first base ds there lists fine = record { kept = λ n e at. at; there = there; lists = lists; fine = fine; each = refl; so_far = λ table made k h. h }

module _ (first now new : List Entry) (base part next : Part) (ds rest : List Derivation) (d : Derivation) (ok : IsDeriving first now base part ds (d ∷ rest)) where
  pub derive-step : Keeps now new → rule_of (shape_at now part.number) d ≡ None → Makes new part d next → new ≡ (derived_once now part d).0 → next ≡ (derived_once now part d).1 → IsDeriving first new base next ds rest
  unfolding IsDerived
  derive-step k f makes grown gives =
      let shape : shape_at new next.number ≡ shape_after (shape_at now part.number) d =
      Makes-shape new part d next makes ∙ ap (λ s. shape_after s d) (shape_at-keeps now new part.number k (part_is_type now part ok.there)) in
      record {
        kept = Keeps-trans first now new ok.kept k;
        there = Makes-part new part d next makes;
        lists = All-keeps now new rest (Keeps-stays now new k) (All-tail (DerivationFits now) d rest ok.lists);
        fine = ap (λ s. lowest_rule s None rest) shape ∙ fine_next (shape_at now part.number) d rest ok.fine f;
        each = ok.each ∙ each_next now new part next d rest grown gives;
        so_far = λ table made l h. ok.so_far table made (Keeps-trans now new table k l) (next, Makes-keeps new table part d next l makes, h);
      }

pub derive-ends : (first now : List Entry) (base part : Part) (ds : List Derivation) → IsDeriving first now base part ds [] → IsDerived now base ds part
unfolding IsDerived
derive-ends first now base part ds ok = ok.so_far now part (λ n e at. at) refl

-- ---- the entry that is put in is what the derivation makes

module _ (t : List Entry) (of : Part) (n : ℕ) (made : CType × Qualifiers) (d : Derivation) (at : slice_get t n ≡ Some (OfType made.0)) where
  pub made_pointer : (q : Qualifiers) → d ≡ PointerTo q → made ≡ (Pointer of, q) → Makes t of d (record { number = n; qualifiers = made.1 })
  made_pointer q d-is made-is =
      subst (λ (x : Derivation). Makes t of x (record { number = n; qualifiers = made.1 })) (sym d-is)
      (at ∙ ap (λ (m : CType × Qualifiers). Some (OfType m.0)) made-is, ap (λ (m : CType × Qualifiers). m.1) made-is)

  pub made_function : (parameters : ℕ) (more : Bool) (q : Qualifiers) → d ≡ FunctionOf parameters more → made ≡ (Function (record { result = of.number; parameters = parameters; more = more }), q) → q.0 ≡ 0 → Makes t of d (record { number = n; qualifiers = made.1 })
  made_function parameters more q d-is made-is plain =
      subst (λ (x : Derivation). Makes t of x (record { number = n; qualifiers = made.1 })) (sym d-is)
      (at ∙ ap (λ (m : CType × Qualifiers). Some (OfType m.0)) made-is, ap (λ (m : CType × Qualifiers). m.1.0) made-is ∙ plain)

  pub made_array : (old : List Entry) (count : ElementCount) (a : Array) (q : Qualifiers) → d ≡ ArrayOfSo count → made ≡ (ArrayOf a, q) → q.0 ≡ 0 → a.element ≡ of → a.count ≡ count.value → Keeps old t → IsSomeAnd (slice_get old of.number) IsTypeEntry → (shape_at old of.number).room ≡ Some (Ok (record { size = a.extent.size; align = a.extent.align })) → Makes t of d (record { number = n; qualifiers = made.1 })
  made_array old count a q d-is made-is plain element counted k there room =
      subst (λ (x : Derivation). Makes t of x (record { number = n; qualifiers = made.1 })) (sym d-is) (
        a,
        (at ∙ ap (λ (m : CType × Qualifiers). Some (OfType m.0)) made-is, ap (λ (m : CType × Qualifiers). m.1.0) made-is ∙ plain),
        element,
        counted,
        ap (λ (s : Shape). s.room) (shape_at-keeps old t of.number k there) ∙ room,
      )

-- the shape of the type of a number
pub shape_known : (t : List Entry) (n : ℕ) (ty : CType) (s : Shape) → Some ty ≡ type_of_entry (slice_get t n) → s ≡ shape_of ty → shape_at t n ≡ s
shape_known t n ty s h e = ap shape_of_any (sym h) ∙ sym e

-- ---- one number

abbrev known_size : Option (Result Room TypeFault) → ℕ
known_size None = 0
known_size (Some room) = room_size room

abbrev known_align : Option (Result Room TypeFault) → ℕ
known_align None = 1
known_align (Some room) = room_align room

abbrev pub Once : List Entry → Type 0
Once t = (e : Entry) (i j : ℕ) → slice_get t i ≡ Some e → slice_get t j ≡ Some e → i ≡ j

one_entry : (t : List Entry) (n : ℕ) (e f : Entry) → slice_get t n ≡ Some e → slice_get t n ≡ Some f → e ≡ f
one_entry t n e f p q = let h : Some e ≡ Some f = sym p ∙ q in cc

part_by_parts : (p q : Part) → p.number ≡ q.number → p.qualifiers.0 ≡ q.qualifiers.0 → p ≡ q
part_by_parts p q n k =
    ap (λ (x : ℕ). let r : Part = record { number = x; qualifiers = p.qualifiers } in r) n
    ∙ ap (λ (x : ℕ). let r : Part = record { number = q.number; qualifiers = record { 0 = x } } in r) k

module _ (t : List Entry) (once : Once t) where
  makes_one : (of : Part) (d : Derivation) (p q : Part) → Makes t of d p → Makes t of d q → p ≡ q
  makes_one of (PointerTo quals) p q h k = part_by_parts p q (once (OfType (Pointer of)) p.number q.number h.0 k.0) (ap (λ (x : Qualifiers). x.0) (h.1 ∙ sym k.1))
  makes_one of (FunctionOf ps more) p q h k =
      part_by_parts p q (once (OfType (Function (record { result = of.number; parameters = ps; more = more }))) p.number q.number h.0 k.0) (h.1 ∙ sym k.1)
  makes_one of (ArrayOfSo count) p q h k =
      let a : Array = h.0 in
      let b : Array = k.0 in
      let rooms = sym h.4 ∙ k.4 in
      let size : a.extent.size ≡ b.extent.size = ap known_size rooms in
      let align : a.extent.align ≡ b.extent.align = ap known_align rooms in
      let same : a ≡ b = array_by_parts a b (h.2 ∙ sym k.2) size align (h.3 ∙ sym k.3) in
      part_by_parts p q (once (OfType (ArrayOf b)) p.number q.number (h.1.0 ∙ ap (λ (x : Array). Some (OfType (ArrayOf x))) same) k.1.0) (h.1.1 ∙ sym k.1.1)
  makes_one of OpenArray p q h k = absurd h
  makes_one of BadArray p q h k = absurd h
  makes_one of (BadFunction broken) p q h k = absurd h

  pub derived_one : (base : Part) (ds : List Derivation) (p q : Part) → IsDerived t base ds p → IsDerived t base ds q → p ≡ q
  unfolding IsDerived
  derived_one base [] p q h k = sym h ∙ k
  derived_one base (d ∷ ds) p q h k =
      let next : h.0 ≡ k.0 = makes_one base d h.0 k.0 h.1 k.1 in
      derived_one k.0 ds p q (subst (λ (x : Part). IsDerived t x ds p) next h.2) k.2

  pub list_one : (list : List ℕ) (m n : ℕ) → IsParameterList t list m → IsParameterList t list n → m ≡ n
  unfolding IsParameterList
  list_one [] m n h k = once NoParameters m n h k
  list_one (ty ∷ list) m n h k =
      let rest : h.0 ≡ k.0 = list_one list h.0 k.0 h.2 k.2 in
      once (Parameters ty k.0) m n (h.1 ∙ ap (λ x. Some (Parameters ty x)) rest) k.1

pub one_list : (t : List Entry) (list other : List ℕ) (n : ℕ) → IsParameterList t list n → IsParameterList t other n → list ≡ other
unfolding IsParameterList
one_list t [] [] n h k = refl
one_list t [] (b ∷ other) n h k = let clash = one_entry t n NoParameters (Parameters b k.0) h k.1 in cc
one_list t (a ∷ list) [] n h k = let clash = one_entry t n (Parameters a h.0) NoParameters h.1 k in cc
one_list t (a ∷ list) (b ∷ other) n h k =
    let same = one_entry t n (Parameters a h.0) (Parameters b k.0) h.1 k.1 in
    let first : a ≡ b = cc in
    let rest : h.0 ≡ k.0 = cc in
    ap (λ x. x ∷ list) first ∙ ap (λ xs. b ∷ xs) (one_list t list other k.0 (subst (IsParameterList t list) rest h.2) k.2)
