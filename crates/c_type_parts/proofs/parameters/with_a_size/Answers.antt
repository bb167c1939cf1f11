-- The whole list is the one that is completed.
use Rattle.std.proofs.Common.{length, ap, ◌∙◌}
use Rattle.c_file_rules.specs.Declarators.{outermost_pointer}
use Rattle.c_type_parts.proofs.Sized.{kept_whole}
use Rattle.c_type_parts.proofs.parameters.with_a_size.Goals as goal

pub returns : goal.returns
returns c =
    kept_whole c.in_ok-list.list.items c.complete_with_one.new.derivations c.in_ok-list.list.len c.in_ok-list.list.ok.0 (c.complete_with_one.auto.derivations ∙ ap length c.deref_mut.ensures.value)
    ∙ c.complete_with_one.ensures ∙ ap outermost_pointer (c.deref_mut.ensures.value ∙ c.in_ok-list.ensures.items)
