-- A table that gets an entry more, or contents for a structure, stays whole.
use Rattle.std.proofs.Common.{◌≡◌, ℕ, zero, suc, ◌<◌, List, [], ◌∷◌, ◌++◌, length, Option, Some, None, Ok, IsSomeAnd, IsTrue, refl, sym, ◌∙◌, subst, ⊎_elim}
use Rattle.std.specs.Prelude.{slice_get, slice_set}
use Rattle.std.proofs.lemmas.Option.{slice_get_within}
use Rattle.c_types.specs.declared.ctype.CType.TheVariants.{Void, Integer, Enumeration, Pointer, ArrayOf, Function, Structure, Union}
use Rattle.c_types.specs.declared.ctype.Extent.{Extent}
use Rattle.c_types.specs.declared.ctype.Part.{Part}
use Rattle.c_types.specs.declared.entry.Tag.{Tag}
use Rattle.c_types.specs.declared.entry.Tag.TheVariants.{Structure as StructureTag, Union as UnionTag, Enumeration as EnumerationTag}
use Rattle.c_types.specs.declared.entry.Entry.{Entry}
use Rattle.c_types.specs.declared.entry.Entry.TheVariants.{OfType, NoParameters, Parameters}
use Rattle.c_types.specs.Sizes.{Room}
use Rattle.c_types.specs.Tables.{is_derived, tag_type}
use Rattle.c_types.specs.Declarators.{IsTypeEntry, type_of_entry, shape_of_any, shape_at, Keeps}
use Rattle.c_types.specs.Whole.{IsListEntry, IsTypeAt, IsListAt, IsPartOf, IsPart, EntryFits, NamesBefore, IsWhole}
use Rattle.c_types.proofs.Numberings.{slice_get-push_before, push_cases, set_cases}

-- what of a table another one keeps
pub record Stays (old new : List Entry) : Type 0 where
  pub types : (n : ℕ) → IsTypeAt old n → IsTypeAt new n
  pub lists : (n : ℕ) → IsListAt old n → IsListAt new n
  pub parts : (p : Part) → IsPart old p → IsPart new p
  pub rooms : (n : ℕ) (r : Room) → (shape_at old n).room ≡ Some (Ok r) → (shape_at new n).room ≡ Some (Ok r)

-- ---- each entry stays

-- what holds of an entry holds of it where the table keeps it
kept_at : (P : Option Entry → Type 0) (o p : Option Entry) → (P None → ⊥) → ((e : Entry) → o ≡ Some e → p ≡ Some e) → P o → P p
kept_at P None p never k h = absurd (never h)
kept_at P (Some e) p never k h = subst P (sym (k e refl)) h

pub Keeps-stays : (old new : List Entry) → Keeps old new → Stays old new
Keeps-stays old new k = record {
  types = λ n h. kept_at (λ (o : Option Entry). IsSomeAnd o IsTypeEntry) (slice_get old n) (slice_get new n) (λ (x : ⊥). x) (λ e at. k n e at) h;
  lists = λ n h. kept_at (λ (o : Option Entry). IsSomeAnd o IsListEntry) (slice_get old n) (slice_get new n) (λ (x : ⊥). x) (λ e at. k n e at) h;
  parts = λ p h. kept_at (λ (o : Option Entry). IsPartOf o p.qualifiers.0) (slice_get old p.number) (slice_get new p.number) (λ (x : ⊥). x) (λ e at. k p.number e at) h;
  rooms = λ n r h. kept_at (λ (o : Option Entry). (shape_of_any (type_of_entry o)).room ≡ Some (Ok r)) (slice_get old n) (slice_get new n) (no_room r) (λ e at. k n e at) h;
}
  where
    no_room : (r : Room) → (shape_of_any (type_of_entry None)).room ≡ Some (Ok r) → ⊥
    no_room r h = cc

-- ---- one entry changes

-- what holds of each entry, and of the new one where it holds of the old one, holds of each entry after it is set
set_at : (P : Option Entry → Type 0) (t : List Entry) (i : ℕ) (before after : Entry) → slice_get t i ≡ Some before → (P (Some before) → P (Some after)) → (n : ℕ) → P (slice_get t n) → P (slice_get (slice_set t i after) n)
set_at P [] i before after at f n h = cc
set_at P (x ∷ xs) zero before after at f zero h = f (subst P at h)
set_at P (x ∷ xs) zero before after at f (suc n) h = h
set_at P (x ∷ xs) (suc i) before after at f zero h = h
set_at P (x ∷ xs) (suc i) before after at f (suc n) h = set_at P xs i before after at f n h

tag_is_type : (tag : Tag) (i : ℕ) (o p : Option Extent) → IsSomeAnd (Some (OfType (tag_type tag i o))) IsTypeEntry → IsSomeAnd (Some (OfType (tag_type tag i p))) IsTypeEntry
tag_is_type StructureTag i o p h = tt
tag_is_type UnionTag i o p h = tt
tag_is_type EnumerationTag i o p h = tt

tag_is_list : (tag : Tag) (i : ℕ) (o p : Option Extent) → IsSomeAnd (Some (OfType (tag_type tag i o))) IsListEntry → IsSomeAnd (Some (OfType (tag_type tag i p))) IsListEntry
tag_is_list StructureTag i o p h = absurd h
tag_is_list UnionTag i o p h = absurd h
tag_is_list EnumerationTag i o p h = absurd h

tag_is_part : (tag : Tag) (i set : ℕ) (o p : Option Extent) → IsPartOf (Some (OfType (tag_type tag i o))) set → IsPartOf (Some (OfType (tag_type tag i p))) set
tag_is_part StructureTag i set o p h = tt
tag_is_part UnionTag i set o p h = tt
tag_is_part EnumerationTag i set o p h = tt

tag_room : (tag : Tag) (i : ℕ) (p : Option Extent) (r : Room) → (shape_of_any (type_of_entry (Some (OfType (tag_type tag i None))))).room ≡ Some (Ok r) → (shape_of_any (type_of_entry (Some (OfType (tag_type tag i p))))).room ≡ Some (Ok r)
tag_room StructureTag i p r h = cc
tag_room UnionTag i p r h = cc
tag_room EnumerationTag i p r h = h

pub tag_derived : (tag : Tag) (i : ℕ) (o p : Option Extent) (e : Entry) → IsTrue (is_derived e) → Some (OfType (tag_type tag i o)) ≡ Some e → Some (OfType (tag_type tag i p)) ≡ Some e
tag_derived StructureTag i o p e d h = absurd (clash e d h)
  where
    clash : (e : Entry) → IsTrue (is_derived e) → Some (OfType (Structure i o)) ≡ Some e → ⊥
    clash e d h = let same : OfType (Structure i o) ≡ e = cc in let no = subst (λ (x : Entry). IsTrue (is_derived x)) (sym same) d in cc
tag_derived UnionTag i o p e d h = absurd (clash e d h)
  where
    clash : (e : Entry) → IsTrue (is_derived e) → Some (OfType (Union i o)) ≡ Some e → ⊥
    clash e d h = let same : OfType (Union i o) ≡ e = cc in let no = subst (λ (x : Entry). IsTrue (is_derived x)) (sym same) d in cc
tag_derived EnumerationTag i o p e d h = h

module _ (t : List Entry) (tag : Tag) (i : ℕ) (contents : Extent) (at-i : slice_get t i ≡ Some (OfType (tag_type tag i None))) where
  pub Stays-complete : Stays t (slice_set t i (OfType (tag_type tag i (Some contents))))
  Stays-complete = record {
    types = λ n h. set_at (λ (o : Option Entry). IsSomeAnd o IsTypeEntry) t i _ _ at-i (tag_is_type tag i None (Some contents)) n h;
    lists = λ n h. set_at (λ (o : Option Entry). IsSomeAnd o IsListEntry) t i _ _ at-i (tag_is_list tag i None (Some contents)) n h;
    parts = λ p h. set_at (λ (o : Option Entry). IsPartOf o p.qualifiers.0) t i _ _ at-i (tag_is_part tag i p.qualifiers.0 None (Some contents)) p.number h;
    rooms = λ n r h. set_at (λ (o : Option Entry). (shape_of_any (type_of_entry o)).room ≡ Some (Ok r)) t i _ _ at-i (tag_room tag i (Some contents) r) n h;
  }

  pub derived_stays : (n : ℕ) (e : Entry) → IsTrue (is_derived e) → slice_get t n ≡ Some e → slice_get (slice_set t i (OfType (tag_type tag i (Some contents)))) n ≡ Some e
  derived_stays n e d h = set_at (λ (o : Option Entry). o ≡ Some e) t i _ _ at-i (tag_derived tag i None (Some contents) e d) n h

-- ---- what an entry names

pub EntryFits-stays : (old new : List Entry) → Stays old new → (e : Entry) → EntryFits old e → EntryFits new e
EntryFits-stays old new s (OfType Void) h = tt
EntryFits-stays old new s (OfType (Integer kind)) h = tt
EntryFits-stays old new s (OfType (Enumeration tag)) h = tt
EntryFits-stays old new s (OfType (Pointer to)) h = s.parts to h
EntryFits-stays old new s (OfType (ArrayOf a)) h = (s.parts a.element h.0, (s.rooms a.element.number _ h.1.0, h.1.1))
EntryFits-stays old new s (OfType (Function f)) h = (s.types f.result h.0, s.lists f.parameters h.1)
EntryFits-stays old new s (OfType (Structure tag x)) h = tt
EntryFits-stays old new s (OfType (Union tag x)) h = tt
EntryFits-stays old new s NoParameters h = tt
EntryFits-stays old new s (Parameters a b) h = (s.types a h.0, s.lists b h.1)

some_within : (t : List Entry) (n : ℕ) (o : Option Entry) → slice_get t n ≡ o → (o ≡ None → ⊥) → n < length t
some_within t n None h never = absurd (never refl)
some_within t n (Some e) h never = slice_get_within t n e h

type_within : (t : List Entry) (n : ℕ) → IsTypeAt t n → n < length t
type_within t n h = some_within t n (slice_get t n) refl (λ e. subst (λ (o : Option Entry). IsSomeAnd o IsTypeEntry) e h)

list_within : (t : List Entry) (n : ℕ) → IsListAt t n → n < length t
list_within t n h = some_within t n (slice_get t n) refl (λ e. subst (λ (o : Option Entry). IsSomeAnd o IsListEntry) e h)

pub part_within : (t : List Entry) (p : Part) → IsPart t p → p.number < length t
part_within t p h = some_within t p.number (slice_get t p.number) refl (λ e. subst (λ (o : Option Entry). IsPartOf o p.qualifiers.0) e h)

named_before : (t : List Entry) (e : Entry) → EntryFits t e → NamesBefore (length t) e
named_before t (OfType Void) h = tt
named_before t (OfType (Integer kind)) h = tt
named_before t (OfType (Enumeration tag)) h = tt
named_before t (OfType (Pointer to)) h = part_within t to h
named_before t (OfType (ArrayOf a)) h = part_within t a.element h.0
named_before t (OfType (Function f)) h = (type_within t f.result h.0, list_within t f.parameters h.1)
named_before t (OfType (Structure tag x)) h = tt
named_before t (OfType (Union tag x)) h = tt
named_before t NoParameters h = tt
named_before t (Parameters a b) h = (type_within t a h.0, list_within t b h.1)

-- a part's number is that of a type
of_type : (o : Option Entry) (set : ℕ) → IsPartOf o set → IsSomeAnd o IsTypeEntry
of_type None set h = absurd h
of_type (Some (OfType ty)) set h = tt
of_type (Some NoParameters) set h = absurd h
of_type (Some (Parameters a b)) set h = absurd h

pub part_is_type : (t : List Entry) (p : Part) → IsPart t p → IsTypeAt t p.number
part_is_type t p h = of_type (slice_get t p.number) p.qualifiers.0 h

-- ---- the whole table

pub IsWhole-same : (t t' : List Entry) → t' ≡ t → IsWhole t → IsWhole t'
IsWhole-same t t' e w = subst IsWhole (sym e) w

pub IsWhole-push : (t : List Entry) (e : Entry) → IsWhole t → EntryFits t e → IsWhole (t ++ e ∷ [])
IsWhole-push t e w f = record {
  fits = λ n x at. ⊎_elim (λ p. EntryFits-stays t (t ++ e ∷ []) grown x (w.fits n x p.1)) (λ p. EntryFits-stays t (t ++ e ∷ []) grown x (subst (EntryFits t) p.1 f)) (push_cases t e x n at);
  order = λ n x at. ⊎_elim (λ p. w.order n x p.1) (λ p. subst (λ (k : ℕ). NamesBefore k x) (sym p.0) (subst (NamesBefore (length t)) p.1 (named_before t e f))) (push_cases t e x n at);
}
  where
    grown : Stays t (t ++ e ∷ [])
    grown = Keeps-stays t (t ++ e ∷ []) (λ n x at. slice_get-push_before t e n (slice_get_within t n x at) ∙ at)

pub tag_fits : (t : List Entry) (tag : Tag) (i : ℕ) (o : Option Extent) → EntryFits t (OfType (tag_type tag i o))
tag_fits t StructureTag i o = tt
tag_fits t UnionTag i o = tt
tag_fits t EnumerationTag i o = tt

tag_names : (n : ℕ) (tag : Tag) (i : ℕ) (o : Option Extent) → NamesBefore n (OfType (tag_type tag i o))
tag_names n StructureTag i o = tt
tag_names n UnionTag i o = tt
tag_names n EnumerationTag i o = tt

pub IsWhole-complete : (t : List Entry) (tag : Tag) (i : ℕ) (contents : Extent) → slice_get t i ≡ Some (OfType (tag_type tag i None)) → IsWhole t → IsWhole (slice_set t i (OfType (tag_type tag i (Some contents))))
IsWhole-complete t tag i contents at-i w = record {
  fits = λ n x at. ⊎_elim (λ p. EntryFits-stays t new stays x (w.fits n x p.1)) (λ p. subst (EntryFits new) p.1 (tag_fits new tag i (Some contents))) (set_cases t i (OfType (tag_type tag i (Some contents))) x n at);
  order = λ n x at. ⊎_elim (λ p. w.order n x p.1) (λ p. subst (NamesBefore n) p.1 (tag_names n tag i (Some contents))) (set_cases t i (OfType (tag_type tag i (Some contents))) x n at);
}
  where
    new : List Entry
    new = slice_set t i (OfType (tag_type tag i (Some contents)))

    stays : Stays t new
    stays = Stays-complete t tag i contents at-i
