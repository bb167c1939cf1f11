-- A declarator whose derivations break no rule breaks none on the way.
use Rattle.std.proofs.Common.{◌≡◌, length, drop, ◌∷◌, ◌+◌, ◌≤◌, ap, sym, subst, arith}
use Rattle.std.proofs.Math.ListN.{drop_of_length-le}
use Rattle.c_types.proofs.Deriving.{IsDeriving, Keeps-trans, left_at, no_cause, derive-step, derive-ends}
use Rattle.c_types.proofs.table.Types.derive_all.Goals as goal
use Rattle.c_types.specs.declared.ctype.Part.{Part}
use Rattle.c_types.specs.Extensions.{Table, derived_each}
use Rattle.c_types.proofs.table.Types.derive_all.Goals.{After-derive, After-loop-derivation}

-- before a step: what is left is the derivation there and those behind it
before : (c : After-derive) → IsDeriving c.args.self.now c.loop-derivation.self c.args.base c.loop-derivation.part c.args.derivations.now (c.derivation-item.result ∷ drop (c.loop-derivation.derivation-index + 1) c.args.derivations.now)
before c =
    subst (IsDeriving c.args.self.now c.loop-derivation.self c.args.base c.loop-derivation.part c.args.derivations.now)
    (left_at c.args.derivations.now c.loop-derivation.derivation-index c.derivation-item.result (omega arith) c.derivation-item.is) c.loop-derivation.invariant

pub loop-derivation-preserved : goal.loop-derivation-preserved
loop-derivation-preserved c =
    derive-step c.args.self.now c.loop-derivation.self c.derive.new.self c.args.base c.loop-derivation.part c.in-Ok.next c.args.derivations.now _ c.derivation-item.result
    (before (goal.at.loop-derivation-preserved c).After-derive) c.derive.ensures.kept c.in-Ok.ensures.fine c.in-Ok.ensures.made
    c.in-Ok.ensures.grown c.in-Ok.ensures.gives

pub returns-in-Err-clause-fault : goal.returns-in-Err-clause-fault
returns-in-Err-clause-fault c =
    no_cause _ c.derivation-item.result _ c.in-Err.fault _ (before (goal.at.returns-in-Err-clause-fault c).After-derive).fine c.in-Err.ensures.fault

pub returns-in-Err-clause-kept : goal.returns-in-Err-clause-kept
returns-in-Err-clause-kept c = Keeps-trans c.args.self.now c.loop-derivation.self c.derive.new.self c.loop-derivation.invariant.kept c.derive.ensures.kept

pub returns-clause-made : goal.returns-clause-made
returns-clause-made c =
    let past : length c.args.derivations.now ≤ c.loop-derivation.derivation-index = omega (arith, c.loop-derivation-test.false) in
    derive-ends c.args.self.now c.loop-derivation.self c.args.base c.loop-derivation.part c.args.derivations.now
    (subst (IsDeriving c.args.self.now c.loop-derivation.self c.args.base c.loop-derivation.part c.args.derivations.now) (drop_of_length-le c.args.derivations.now past) c.loop-derivation.invariant)

-- the end: nothing is left
ended : (c : After-loop-derivation) → length c.args.derivations.now ≤ c.loop-derivation.derivation-index → derived_each c.args.self.now c.args.base c.args.derivations.now ≡ (c.loop-derivation.self, c.loop-derivation.part)
ended c past =
    (subst (IsDeriving c.args.self.now c.loop-derivation.self c.args.base c.loop-derivation.part c.args.derivations.now) (drop_of_length-le c.args.derivations.now past) c.loop-derivation.invariant).each

pub returns-clause-gives : goal.returns-clause-gives
returns-clause-gives c = ap (λ (x : Table × Part). x.1) (sym (ended (goal.at.returns-clause-gives c).After-loop-derivation (omega (arith, c.loop-derivation-test.false))))

pub returns-clause-grown : goal.returns-clause-grown
returns-clause-grown c = ap (λ (x : Table × Part). x.0) (sym (ended (goal.at.returns-clause-grown c).After-loop-derivation (omega (arith, c.loop-derivation-test.false))))
