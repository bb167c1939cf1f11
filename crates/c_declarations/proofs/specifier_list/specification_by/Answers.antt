-- Words that break no rule have a storage class.
use Rattle.c_declarations.specs.Specified.{rule_of_storage, rule_of_named}
use Rattle.c_declarations.proofs.Specifying.{second_fine, class_there}
use Rattle.c_declarations.proofs.specifier_list.specification_by.Goals as goal

pub qualified_part-requires-clause-fine : goal.qualified_part-requires-clause-fine
qualified_part-requires-clause-fine c =
    second_fine (rule_of_storage c.args.words.storage) (rule_of_named c.args.types.now c.args.whole c.args.words.set c.args.words.named) c.requires.fine

pub returns-clause-said : goal.returns-clause-said
returns-clause-said c = record {
  class = class_there c.args.words.storage (rule_of_named c.args.types.now c.args.whole c.args.words.set c.args.words.named) c.unwrap_or-storage.result c.requires.fine c.unwrap_or-storage.ensures;
  ty = c.in_ok-ty.ensures.named;
  inline = c.has_function_word-is_inline.ensures;
  no_return = c.has_function_word-is_no_return.ensures;
}
