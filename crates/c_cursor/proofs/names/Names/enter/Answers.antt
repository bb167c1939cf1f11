use Rattle.std.proofs.Common.{◌≡◌, ◌+◌, ◌≤◌, [], ◌∷◌, length, sym, ap, ◌∙◌, subst, arith, length-append}
use Rattle.c_cursor.specs.declared.names.Entry.TheVariants.{Opens}
use Rattle.c_cursor.specs.Names.{IsNames}
use Rattle.c_cursor.proofs.Entries.{few, entered, scopes-entered}
use Rattle.c_cursor.proofs.names.Names.enter.Goals as goal

pub overflow_add-self : goal.overflow_add-self
overflow_add-self c =
    let room : c.self.inside.depth ≤ length c.self.inside.entries.items = few c.self.inside.table.items c.self.inside.entries.items c.self.inside.depth c.self.invariant in
    let more : length c.push.new.self.items ≡ length c.self.inside.entries.items + 1 = ap length c.in_ok-push.ensures.items ∙ length-append c.self.inside.entries.items (Opens ∷ []) in
    grind (arith, room, more, c.len-entries.ensures, c.len-entries.type_inv)

pub invariant_of-self-2 : goal.invariant_of-self-2
invariant_of-self-2 c =
    subst (λ entries. IsNames c.self.inside.table.items entries (c.self.inside.depth + 1)) (sym c.in_ok-push.ensures.items)
    (entered c.self.inside.table.items c.self.inside.entries.items c.self.inside.depth c.self.invariant)

pub returns-clause-ok : goal.returns-clause-ok
returns-clause-ok c =
    ap Rattle.c_cursor.specs.Names.scopes_of c.in_ok-push.ensures.items ∙ scopes-entered c.self.inside.entries.items ∙ ap (λ s. [] ∷ s) c.self.view_is
