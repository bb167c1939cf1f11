-- The plain type stays the one that is named where the table grows.
use Rattle.c_types.proofs.Deriving.{Keeps-trans}
use Rattle.c_type_rules.specs.Qualified.{IsQualified}
use Rattle.c_declarations.specs.Specified.{IsNamedWith}
use Rattle.c_declarations.proofs.Outcomes.{if_ok}
use Rattle.c_declarations.proofs.Specifying.{named_with}
use Rattle.c_declarations.proofs.specifier_list.qualified_part.Goals as goal

pub returns-clause-named : goal.returns-clause-named
returns-clause-named c =
    if_ok c.qualify.result (IsQualified c.qualify.new.types c.in_ok-plain.plain c.args.words.set) (IsNamedWith c.qualify.new.types c.args.whole c.args.words.named c.args.words.set)
    (λ ty q. named_with c.named_part.new.types c.qualify.new.types c.args.whole c.args.words.named c.args.words.set c.in_ok-plain.plain ty c.qualify.ensures.kept c.in_ok-plain.ensures.named q)
    c.qualify.ensures.qualified

pub returns-clause-kept : goal.returns-clause-kept
returns-clause-kept c = Keeps-trans c.args.types.now c.named_part.new.types c.qualify.new.types c.named_part.ensures.kept c.qualify.ensures.kept
