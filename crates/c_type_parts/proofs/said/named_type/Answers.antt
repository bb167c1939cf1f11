-- Words name a type that is made of nothing.
use Rattle.std.proofs.Common.{Some, subst}
use Rattle.c_declarations.specs.declared.specifier_list.Named.{Named}
use Rattle.c_type_parts.specs.Lists.{AreOfTypes}
use Rattle.c_type_parts.proofs.said.named_type.Goals as goal

pub with_type-requires : goal.with_type-requires
with_type-requires c = subst (λ (n : Named). AreOfTypes (Some n)) c.in-Basic.is c.requires
