use Rattle.std.proofs.Common.{[], ◌∷◌, sym, ap, ◌∙◌, subst}
use Rattle.std.specs.Prelude.{slice_set}
use Rattle.c_parts.specs.Scopes.{with_names}
use Rattle.c_cursor.specs.Names.{IsNames, scopes_of, meaning}
use Rattle.c_cursor.proofs.Entries.{declared, scopes-declared}
use Rattle.c_cursor.proofs.names.Names.declare.Goals as goal

pub invariant_of-self-2 : goal.invariant_of-self-2
invariant_of-self-2 c =
    subst (λ entries. IsNames (slice_set c.reach.new.table.items c.args.binding.name c.meaning_with-meaning.result) entries c.self.inside.depth) (sym c.in_ok-push.ensures.items)
    (declared c.self.inside.table.items c.reach.new.table.items c.self.inside.entries.items c.self.inside.depth c.args.binding c.meaning-was.result c.meaning_with-meaning.result c.self.invariant
    c.reach.ensures.same c.in_ok-reach.ensures.reached
    (c.meaning-was.ensures ∙ ap (λ s. meaning c.args.binding.name s) (sym c.self.view_is))
    (c.meaning_with-meaning.ensures ∙ ap (λ s. meaning c.args.binding.name (with_names (c.args.binding ∷ []) s)) (sym c.self.view_is)))

pub returns-clause-ok : goal.returns-clause-ok
returns-clause-ok c =
    ap scopes_of c.in_ok-push.ensures.items ∙ scopes-declared c.self.inside.entries.items c.args.binding c.meaning-was.result ∙ ap (λ s. with_names (c.args.binding ∷ []) s) c.self.view_is
