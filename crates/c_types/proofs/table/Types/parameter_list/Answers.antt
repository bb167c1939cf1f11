-- The type at the index stands before those behind it.
use Rattle.std.proofs.Common.{◌≡◌, ◌+◌, ◌-◌, ◌∷◌, ℕ, List, get_or, drop, subst, sym, arith}
use Rattle.std.proofs.Math.Seq.{drop-length}
use Rattle.c_types.specs.Declarators.{IsParameterList}
use Rattle.c_types.proofs.Deriving.{Keeps-table, Keeps-trans, IsParameterList-keeps, left_with, list_at}
use Rattle.c_types.specs.Extensions.{list_from}
use Rattle.c_types.proofs.Extending.{list_next}
use Rattle.c_types.proofs.Whole.{Keeps-stays}
use Rattle.c_types.proofs.table.Types.parameter_list.Goals as goal

pub loop-index-init : goal.loop-index-init
unfolding IsParameterList
loop-index-init c = (
  Keeps-table c.args.self.now c.number_of.new.self _ c.number_of.ensures.table,
  subst (λ (xs : List ℕ). IsParameterList c.number_of.new.self xs c.in_ok-list.list) (sym (drop-length c.args.types.now)) c.in_ok-list.ensures.number,
  subst (λ (xs : List ℕ). c.number_of.new.self ≡ (list_from c.args.self.now xs).0) (sym (drop-length c.args.types.now)) c.in_ok-list.ensures.grown,
  subst (λ (xs : List ℕ). c.in_ok-list.list ≡ (list_from c.args.self.now xs).1) (sym (drop-length c.args.types.now)) c.in_ok-list.ensures.gives,
)

pub loop-index-preserved : goal.loop-index-preserved
unfolding IsParameterList
loop-index-preserved c =
    let types = c.args.types.now in
    let i = c.loop-index.index - 1 in
    let t = c.loop-index.self in
    let t' = c.number_of-in-loop-index.new.self in
    let kept = Keeps-table t t' _ c.number_of-in-loop-index.ensures.table in
    let next : i + 1 ≡ c.loop-index.index = omega arith in
    let rest : IsParameterList t (drop (i + 1) types) c.loop-index.list = subst (λ n. IsParameterList t (drop n types) c.loop-index.list) (sym next) c.loop-index.invariant.1 in
    let list : IsParameterList t' (get_or types i 0 ∷ drop (i + 1) types) c.in_ok-list-2.list = (c.loop-index.list, c.in_ok-list-2.ensures.number, IsParameterList-keeps t t' (drop (i + 1) types) c.loop-index.list kept rest) in
    let made = list_next c.args.self.now t t' c.loop-index.list c.in_ok-list-2.list (get_or types i 0) (drop (i + 1) types)
    (subst (λ n. t ≡ (list_from c.args.self.now (drop n types)).0) (sym next) c.loop-index.invariant.2)
    (subst (λ n. c.loop-index.list ≡ (list_from c.args.self.now (drop n types)).1) (sym next) c.loop-index.invariant.3)
    c.in_ok-list-2.ensures.grown c.in_ok-list-2.ensures.gives in
    let left = sym (left_with types i 0 (omega arith)) in (
      Keeps-trans c.args.self.now t t' c.loop-index.invariant.0 kept,
      subst (λ (xs : List ℕ). IsParameterList t' xs c.in_ok-list-2.list) left list,
      subst (λ (xs : List ℕ). t' ≡ (list_from c.args.self.now xs).0) left made.0,
      subst (λ (xs : List ℕ). c.in_ok-list-2.list ≡ (list_from c.args.self.now xs).1) left made.1,
    )

pub number_of-requires-in-loop-index-clause-fits : goal.number_of-requires-in-loop-index-clause-fits
number_of-requires-in-loop-index-clause-fits c = (
  (Keeps-stays c.args.self.now c.loop-index.self c.loop-index.invariant.0).types _ (c.requires (c.loop-index.index - 1) 0 (omega arith)),
  list_at c.loop-index.self _ c.loop-index.list c.loop-index.invariant.1,
)

pub returns-clause-number : goal.returns-clause-number
returns-clause-number c = list_at c.loop-index.self _ c.loop-index.list c.loop-index.invariant.1

pub returns-in_err-list-2-clause-kept : goal.returns-in_err-list-2-clause-kept
returns-in_err-list-2-clause-kept c = Keeps-trans c.args.self.now c.loop-index.self c.number_of-in-loop-index.new.self c.loop-index.invariant.0 c.in_err-list-2.ensures.kept
