-- Nothing is made, declared or used but the functions that are one operation each.
use Rattle.std.proofs.Common.{ℕ, List, [], refl, ap}
use Rattle.std.specs.BTreeMap.{is_at}
use Rattle.std.specs.Map.{lookup}
use Rattle.std.specs.Ordering.{nat_cmp}
use Rattle.c_expr_rules.specs.declared.state.Contents.{Contents}
use Rattle.c_names.proofs.Rowed.{begun}
use Rattle.c_names.proofs.beginning.start.Goals as goal

pub returns : goal.returns
returns c =
    begun c.args.bodies
    (record {
      scopes = c.add_intrinsics.new.scopes;
      types = c.add_intrinsics.new.types;
      contents = c.new-2.result;
      next_static = 0;
      literals = c.new-3.result;
      used = c.new-4.result;
      taken = c.new-5.result;
      next_local = 0;
      locals = c.new-6.result;
      placed = c.new-7.result;
      filled = c.new-8.result;
    })
    c.in_ok-add_intrinsics.ensures.grown c.in_ok-add_intrinsics.ensures.names
    (λ n. ap (λ (es : List (ℕ × Contents)). lookup (is_at (nat_cmp n)) es) c.new-2.ensures.empty) refl c.new-3.ensures.items c.new-4.ensures.items c.new-5.ensures.items refl
    c.new-6.ensures.items c.new-7.ensures.items c.new-8.ensures.items
