use Rattle.std.proofs.Common.{refl, ap, ◌∙◌, sym}
use Rattle.c_scope.specs.Blocks.{without_newest}
use Rattle.c_scope.proofs.SameLengths.{declared_and_taken}
use Rattle.c_scope.proofs.Names.{on_ok, on_err}
use Rattle.c_scope.proofs.scopes.declare_linked.Goals as goal

pub returns-then-is_err-2-clause-err : goal.returns-then-is_err-2-clause-err
returns-then-is_err-2-clause-err c =
    let made = on_ok c.declare.result _ (sym c.is_err.ensures.value ∙ c.if-is_err.false) c.declare.ensures.ok in (
      refl,
      c.take_back.ensures ∙ ap without_newest made ∙ declared_and_taken (record { name = c.args.name.now; what = c.args.declared }) c.args.blocks.now c.requires,
      on_err c.declare-then-has_its_linkage.result _ (sym c.is_err-then-has_its_linkage.ensures.value ∙ c.if-is_err-2.true) c.declare-then-has_its_linkage.ensures.err,
    )
