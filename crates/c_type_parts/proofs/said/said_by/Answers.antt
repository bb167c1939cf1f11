-- The type that the words name has their qualifiers.
use Rattle.c_type_parts.proofs.Saying.{said_leaves, said_is, said_grows}
use Rattle.c_type_parts.proofs.said.said_by.Goals as goal

pub returns-clause-state : goal.returns-clause-state
returns-clause-state c =
    said_leaves c.args.state.now c.plain_type.new.state c.in_ok-plain.plain c.args.words c.args.parts c.in_ok-plain.ensures.state c.in_ok-plain.ensures.part
    c.qualified.new.types c.in_ok-ty.ensures.grown

pub returns-clause-said : goal.returns-clause-said
returns-clause-said c =
    said_is c.args.state.now c.plain_type.new.state c.in_ok-plain.plain c.args.words c.args.parts c.in_ok-plain.ensures.state c.in_ok-plain.ensures.part
    c.in_ok-ty.ty c.storage_or.result c.in_ok-ty.ensures.gives c.storage_or.ensures

pub returns-clause-grows : goal.returns-clause-grows
returns-clause-grows c =
    said_grows c.args.state.now c.plain_type.new.state c.in_ok-plain.plain c.args.words c.args.parts c.in_ok-plain.ensures.state c.in_ok-plain.ensures.part c.qualified.new.types
