-- A type of its own gets its contents where it stands.
use Rattle.std.proofs.Common.{◌≡◌, List, false, None, Some, sym, ap, ◌∙◌, subst}
use Rattle.std.specs.Prelude.{slice_get, slice_set}
use Rattle.c_types.specs.declared.ctype.CType.{CType}
use Rattle.c_types.specs.declared.entry.Entry.{Entry}
use Rattle.c_types.specs.declared.entry.Entry.TheVariants.{OfType}
use Rattle.c_types.specs.Tables.{IsAt, is_derived, tag_type}
use Rattle.c_types.specs.Whole.{IsWhole}
use Rattle.c_types.proofs.Whole.{IsWhole-complete}
use Rattle.c_types.proofs.Numberings.{IsNumbered-complete, tagged_is_not_derived, tagged_is_at}
use Rattle.c_types.proofs.table.Types.complete.Goals as goal

pub invariant_of-self : goal.invariant_of-self
invariant_of-self c =
    let t = c.type_of_tag.result in
    let n = c.args.number in
    let told : t ≡ tag_type c.args.tag n (Some c.args.contents) = c.type_of_tag.ensures in
    let own : is_derived (OfType t) ≡ false = ap (λ (x : CType). is_derived (OfType x)) told ∙ tagged_is_not_derived c.args.tag n (Some c.args.contents) in
    let at-number : IsAt (OfType t) n = subst (λ (x : CType). IsAt (OfType x) n) (sym told) (tagged_is_at c.args.tag n (Some c.args.contents)) in
    let stood = ap (λ (xs : List Entry). slice_get xs n) c.self.view_is ∙ c.requires in
    record {
      numbered = IsNumbered-complete c.self.inside.entries.items c.self.inside.numbers n (OfType (tag_type c.args.tag n None)) (OfType t) c.self.invariant.numbered stood
          (tagged_is_not_derived c.args.tag n None) own at-number;
      whole = subst (λ (x : CType). IsWhole (slice_set c.self.inside.entries.items n (OfType x))) (sym told)
          (IsWhole-complete c.self.inside.entries.items c.args.tag n c.args.contents stood c.self.invariant.whole);
    }
