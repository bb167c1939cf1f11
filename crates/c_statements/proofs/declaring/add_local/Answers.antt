-- The last local is the first of those that the definition has.
use Rattle.std.proofs.Common.{refl}
use Rattle.c_expr_rules.specs.Views.{seen_state}
use Rattle.c_names.specs.Code.{here_at}
use Rattle.c_statements.proofs.Declared.{local_added}
use Rattle.c_statements.proofs.declaring.add_local.Goals as goal

pub returns-clause-state : goal.returns-clause-state
returns-clause-state g c =
    let here = here_at c.args.scene.now.facts.now (g.S.Surroundings.told c.args.scene.now.around.now) in
    local_added here (seen_state c.args.state.now) c.args.line c.args.number c.in_ok-next.next c.args.part c.local_kind-kind.result c.args.state.now.locals.items
    c.push.new.self.items c.in_ok-next.ensures c.local_kind-kind.ensures c.in_ok-push.ensures.items refl
