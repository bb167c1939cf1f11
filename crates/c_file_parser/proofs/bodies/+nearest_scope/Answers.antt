-- What stands in the parentheses is nearer than a declarator's own.
use Rattle.std.proofs.Common.{◌≡◌, None, Some, MatchOption, sym, subst}
use Rattle.c_file_parser.proofs.BodyScopes.{parens_some, parens_none}
use Rattle.c_file_parser.proofs.bodies.+nearest_scope.Goals as goal

pub returns-in-Some : goal.returns-in-Some
returns-in-Some t c = parens_some c.args.declarator.now c.in-Parens.inner c.get.result.now c.in-Some.scope.now c.in-Parens.is c.get.ensures c.in-Some.ensures

pub returns-in-None : goal.returns-in-None
returns-in-None t c =
    subst (λ o. MatchOption c.own_scope.result (o ≡ None) (λ scope. o ≡ Some scope.now))
    (sym (parens_none c.args.declarator.now c.in-Parens.inner c.get.result.now c.in-Parens.is c.get.ensures c.in-None.ensures)) c.own_scope.ensures
