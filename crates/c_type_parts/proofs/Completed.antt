-- A type without an extent that is completed without one stays as it is.
use Rattle.std.proofs.Common.{◌≡◌, ℕ, zero, suc, true, false, cond, Bool, List, [], ◌∷◌, Option, Some, None, refl, sym, ap, ◌∙◌, subst, eqb-true, unwrap_or, slice_get, slice_set}
use Rattle.c_syntax.specs.declared.words.RecordKind.{RecordKind}
use Rattle.c_syntax.specs.declared.words.RecordKind.TheVariants as word
use Rattle.c_types.specs.declared.ctype.CType.TheVariants.{Enumeration, Structure, Union}
use Rattle.c_types.specs.declared.entry.Entry.{Entry}
use Rattle.c_types.specs.declared.entry.Entry.TheVariants.{OfType}
use Rattle.c_types.specs.declared.entry.Tag.{Tag}
use Rattle.c_types.specs.declared.entry.Tag.TheVariants.{Structure as StructureTag, Union as UnionTag, Enumeration as EnumerationTag}
use Rattle.c_types.specs.Extensions.{Table, is_open_entry, is_open, completed, extent_of}
use Rattle.c_types.specs.Layouts.{layout_of, placements_of}
use Rattle.c_types.specs.Tables.{tag_type}
use Rattle.c_expr_rules.specs.Outcomes.{State}
use Rattle.c_type_parts.specs.Laid.{no_contents}
use Rattle.c_file_rules.specs.Naming.{with_types}
use Rattle.c_file_rules.specs.Tags.{kind_of_word, laid_out, members_layout, with_contents}

-- what an open entry is
pub open_is : (kind : Tag) (n : ℕ) (e : Option Entry) → is_open_entry kind n e ≡ true → e ≡ Some (OfType (tag_type kind n None))
open_is StructureTag n (Some (OfType (Structure tag None))) h = ap (λ t. Some (OfType (Structure t None))) (eqb-true tag n h)
open_is UnionTag n (Some (OfType (Union tag None))) h = ap (λ t. Some (OfType (Union t None))) (eqb-true tag n h)
open_is EnumerationTag n (Some (OfType (Enumeration tag))) h = ap (λ t. Some (OfType (Enumeration t))) (eqb-true tag n h)
open_is kind n e h = cc

same_put : (t : Table) (n : ℕ) (e : Entry) → slice_get t n ≡ Some e → slice_set t n e ≡ t
same_put [] n e h = refl
same_put (f ∷ t) zero e h = ap (λ o. unwrap_or o e ∷ t) (sym h)
same_put (f ∷ t) (suc n) e h = ap (λ rest. f ∷ rest) (same_put t n e h)

unextended : (b : Bool) (t : Table) (kind : Tag) (n : ℕ) → is_open t kind n ≡ b → cond b (slice_set t n (OfType (tag_type kind n None))) t ≡ t
unextended false t kind n h = refl
unextended true t kind n h = same_put t n (OfType (tag_type kind n None)) (open_is kind n (slice_get t n) h)

-- completed with no bytes, which is no extent
pub completed_empty : (t : Table) (kind : Tag) (n align : ℕ) → extent_of 0 align ≡ None → completed t kind n 0 align ≡ t
completed_empty t kind n align none =
    ap (λ x. cond (is_open t kind n) (slice_set t n (OfType (tag_type kind n x))) t) none ∙ unextended (is_open t kind n) t kind n refl

-- a list without members leaves a type without an extent, and no member
pub nothing_laid : (s : State) (w : RecordKind) (number : ℕ) → laid_out (kind_of_word w) number s [] (members_layout s w []) ≡ with_contents number no_contents s
unfolding layout_of placements_of native.Mathlib.Decide.dec_le
nothing_laid s word.Struct number = ap (λ (t : Table). with_types t (with_contents number no_contents s)) (completed_empty s.table StructureTag number 1 refl)
nothing_laid s word.Union number = ap (λ (t : Table). with_types t (with_contents number no_contents s)) (completed_empty s.table UnionTag number 1 refl)
