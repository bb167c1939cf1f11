-- What words name is of their types.
use Rattle.std.proofs.Common.{subst}
use Rattle.c_type_parts.specs.Lists.{AreOfTypes}
use Rattle.c_type_parts.proofs.said.plain_type.Goals as goal

pub named_type-requires : goal.named_type-requires
named_type-requires c = subst AreOfTypes c.in-Some.is c.requires
