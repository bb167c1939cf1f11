-- A number that is there keeps its first place, and a new one has the last.
use Rattle.std.proofs.Common.{◌≡◌, ◌++◌, ◌∷◌, [], ◌<◌, ◌^◌, ℕ, List, Some, length, sym, ap, ◌∙◌, subst, arith, length-append}
use Rattle.std.specs.BTreeMap.{Updates, IsUnchanged}
use Rattle.std.specs.Ordering.{nat_cmp}
use Rattle.c_file_rules.specs.Places.{IsPlacedBy}
use Rattle.c_file_rules.proofs.Placed.{place_known, place_new, place_same}
use Rattle.c_file_rules.proofs.Popping.{popped, on_ok, on_err}
use Rattle.c_file_rules.proofs.numbering.Numbering.push.Goals as goal

pub invariant_of-self-then-contains_key : goal.invariant_of-self-then-contains_key
invariant_of-self-then-contains_key c =
    let list = c.self.inside.list in
    let few : length (list ++ c.args.one ∷ []) < 2 ^ 32 = omega (arith, length-append list (c.args.one ∷ [])) in
    subst (λ (xs : List ℕ). IsPlacedBy xs c.self.inside.places) (sym c.in_ok-push.ensures.ok)
    (record {
      place = place_known list c.args.one c.self.inside.places c.self.inside.places c.self.invariant.place (sym c.contains_key.ensures ∙ c.if-contains_key.true);
      few = few;
    })

pub invariant_of-self-then-is_err : goal.invariant_of-self-then-is_err
invariant_of-self-then-is_err c =
    let list = c.self.inside.list in
    let same = popped c.pop.result list c.push.new.self c.pop.new.self c.args.one c.in_ok-push.ensures.ok c.pop.ensures in
    record {
      place = place_same list c.pop.new.self c.self.inside.places c.insert.new.self c.self.invariant.place same
          (on_err c.insert.result (IsUnchanged c.self.inside.places c.insert.new.self) (sym c.is_err.ensures.value ∙ c.if-is_err.true) c.insert.ensures.err);
      few = subst (λ (xs : List ℕ). length xs < 2 ^ 32) (sym same) c.self.invariant.few;
    }

pub invariant_of-self-else-is_err : goal.invariant_of-self-else-is_err
invariant_of-self-else-is_err c =
    let list = c.self.inside.list in
    let few : length (list ++ c.args.one ∷ []) < 2 ^ 32 = omega (arith, length-append list (c.args.one ∷ [])) in
    let told = on_ok c.insert.result (Updates nat_cmp c.self.inside.places c.insert.new.self c.args.one (Some c.len-length.result)) (sym c.is_err.ensures.value ∙ c.if-is_err.false) c.insert.ensures.updates in
    let updates = subst (λ n. Updates nat_cmp c.self.inside.places c.insert.new.self c.args.one (Some n)) c.len-length.ensures told in
    subst (λ (xs : List ℕ). IsPlacedBy xs c.insert.new.self) (sym c.in_ok-push.ensures.ok)
    (record {
      place = place_new list c.args.one c.self.inside.places c.insert.new.self c.self.invariant.place (sym c.contains_key.ensures ∙ c.if-contains_key.false) updates;
      few = few;
    })

pub returns-then-is_err-clause-err : goal.returns-then-is_err-clause-err
returns-then-is_err-clause-err c =
    popped c.pop.result c.self.inside.list c.push.new.self c.pop.new.self c.args.one c.in_ok-push.ensures.ok c.pop.ensures ∙ c.self.view_is
