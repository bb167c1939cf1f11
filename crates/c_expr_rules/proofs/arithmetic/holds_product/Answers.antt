-- What passes 64 bits is none of the type's integers.
use Rattle.std.proofs.Common.{rules, sym}
use Rattle.std.proofs.lemmas.Int.{to_z-of_z}
use mir.Syntax.{w64}
use mir.Val.{SFits}
use Rattle.c_expr_rules.proofs.Held.{held_fits}
use Rattle.c_expr_rules.proofs.arithmetic.holds_product.Goals as goal

pub returns-in-None : goal.returns-in-None
returns-in-None c =
    let f : SFits w64 c.args.x = search rules in
    let g : SFits w64 c.args.y = search rules in
    sym (held_fits c.args.ty _ c.requires (simp to_z-of_z at c.in-None.ensures))
