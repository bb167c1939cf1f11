use Rattle.std.proofs.Common.{◌≡◌, ◌<◌, [], ◌∷◌, ◌++◌, length, sym, ap, ◌∙◌, subst, arith}
use Rattle.std.proofs.lemmas.Grind.{common_steps}
use Rattle.c_parts.specs.Scopes.{outer_scopes}
use Rattle.c_cursor.specs.declared.names.Entry.TheVariants.{Opens, Binds}
use Rattle.c_cursor.proofs.Entries.{unentered, undeclared, reached, some-older, last-scopes}
use Rattle.c_cursor.proofs.names.Names.take_back.Goals as goal

pub invariant_of-self : goal.invariant_of-self
invariant_of-self c =
    let e : c.self.inside.entries.items ≡ c.pop.new.self.items ++ Opens ∷ [] = c.in-Some-Opens.ensures.items ∙ ap (λ x. c.pop.new.self.items ++ x ∷ []) c.in-Some-Opens.field-0-is in
    unentered c.self.inside.table.items c.self.inside.entries.items c.pop.new.self.items c.self.inside.depth c.self.invariant e
    (some-older c.self.inside.entries.items c.pop.new.self.items Opens e (subst (λ s. 0 < length (outer_scopes s)) (sym c.self.view_is) c.requires))

pub index_mut-requires : goal.index_mut-requires
index_mut-requires c =
    let within : c.in-Some-Binds.binding.name < length c.self.inside.table.items =
    reached c.self.inside.table.items c.self.inside.entries.items c.pop.new.self.items c.self.inside.depth c.in-Some-Binds.binding c.in-Some-Binds.was c.self.invariant
    (c.in-Some-Binds.ensures.items ∙ ap (λ x. c.pop.new.self.items ++ x ∷ []) c.in-Some-Binds.field-0-is) in
    grind (arith, common_steps, within)

pub invariant_of-self-in-Some-Binds : goal.invariant_of-self-in-Some-Binds
invariant_of-self-in-Some-Binds c =
    let e : c.self.inside.entries.items ≡ c.pop.new.self.items ++ Binds c.in-Some-Binds.binding c.in-Some-Binds.was ∷ [] =
    c.in-Some-Binds.ensures.items ∙ ap (λ x. c.pop.new.self.items ++ x ∷ []) c.in-Some-Binds.field-0-is in
    undeclared c.self.inside.table.items c.self.inside.entries.items c.pop.new.self.items c.self.inside.depth c.in-Some-Binds.binding c.in-Some-Binds.was c.self.invariant e
    (some-older c.self.inside.entries.items c.pop.new.self.items (Binds c.in-Some-Binds.binding c.in-Some-Binds.was) e
    (subst (λ s. 0 < length (outer_scopes s)) (sym c.self.view_is) c.requires))

pub returns-in-Some-Opens-clause-none : goal.returns-in-Some-Opens-clause-none
returns-in-Some-Opens-clause-none c =
    sym c.self.view_is ∙ last-scopes c.self.inside.entries.items c.pop.new.self.items Opens (c.in-Some-Opens.ensures.items ∙ ap (λ x. c.pop.new.self.items ++ x ∷ []) c.in-Some-Opens.field-0-is)

pub returns-in-Some-Binds-clause-some : goal.returns-in-Some-Binds-clause-some
returns-in-Some-Binds-clause-some c =
    sym c.self.view_is ∙ last-scopes c.self.inside.entries.items c.pop.new.self.items (Binds c.in-Some-Binds.binding c.in-Some-Binds.was)
    (c.in-Some-Binds.ensures.items ∙ ap (λ x. c.pop.new.self.items ++ x ∷ []) c.in-Some-Binds.field-0-is)
