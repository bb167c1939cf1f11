-- A new type of its own goes to the end of the table.
use Rattle.std.proofs.Common.{◌≡◌, ℕ, ◌++◌, ◌∷◌, [], List, false, length, None, sym, ap, ◌∙◌, subst, rules, arith}
use Rattle.std.proofs.lemmas.Grind.{common_steps}
use Rattle.c_types.specs.declared.ctype.CType.{CType}
use Rattle.c_types.specs.declared.entry.Entry.{Entry}
use Rattle.c_types.specs.declared.entry.Entry.TheVariants.{OfType}
use Rattle.c_types.specs.Tables.{IsNumbered, IsAt, is_derived, tag_type}
use Rattle.c_types.specs.Whole.{EntryFits, IsWhole}
use Rattle.c_types.proofs.Whole.{IsWhole-push, tag_fits}
use Rattle.c_types.proofs.Numberings.{IsNumbered-declare, tagged_is_not_derived, tagged_is_at}
use Rattle.c_types.proofs.table.Types.declare.Goals as goal

pub invariant_of-self-2 : goal.invariant_of-self-2
invariant_of-self-2 c =
    let t = c.type_of_tag.result in
    let told : t ≡ tag_type c.args.tag c.in-Ok.number None = c.type_of_tag.ensures in
    let pushed : c.push.new.self.items ≡ c.self.inside.entries.items ++ OfType t ∷ [] = grind (arith, common_steps, c.push.ensures.items) in
    let number : c.in-Ok.number ≡ length c.self.inside.entries.items = c.in-Ok.ensures.1 ∙ c.len.ensures ∙ search rules in
    let own : is_derived (OfType t) ≡ false = ap (λ (x : CType). is_derived (OfType x)) told ∙ tagged_is_not_derived c.args.tag c.in-Ok.number None in
    let at-number : IsAt (OfType t) c.in-Ok.number = subst (λ (x : CType). IsAt (OfType x) c.in-Ok.number) (sym told) (tagged_is_at c.args.tag c.in-Ok.number None) in
    let fits : EntryFits c.self.inside.entries.items (OfType t) =
    subst (λ (x : CType). EntryFits c.self.inside.entries.items (OfType x)) (sym told) (tag_fits c.self.inside.entries.items c.args.tag c.in-Ok.number None) in
    record {
      numbered = subst (λ (xs : List Entry). IsNumbered xs c.self.inside.numbers) (sym pushed)
          (IsNumbered-declare c.self.inside.entries.items c.self.inside.numbers (OfType t) c.self.invariant.numbered own (subst (λ (n : ℕ). IsAt (OfType t) n) number at-number));
      whole = subst IsWhole (sym pushed) (IsWhole-push c.self.inside.entries.items (OfType t) c.self.invariant.whole fits);
    }
