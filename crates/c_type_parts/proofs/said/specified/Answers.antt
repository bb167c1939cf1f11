-- The words are those of the list.
use Rattle.std.proofs.Common.{sym, subst}
use Rattle.c_expr_rules.specs.Views.{seen_state}
use Rattle.c_type_parts.specs.Lists.{AreOfTypes, seen_follows}
use Rattle.c_type_parts.proofs.WordTypes.{words_name_plain}
use Rattle.c_type_parts.proofs.Saying.{list_is_said}
use Rattle.c_type_parts.proofs.said.specified.Goals as goal

pub said_by-requires : goal.said_by-requires
said_by-requires c = subst AreOfTypes (sym c.in_ok-words.ensures.named_is) (words_name_plain c.args.list.now)

pub returns-clause-found : goal.returns-clause-found
returns-clause-found c =
    list_is_said c.args.line c.args.place.standing (seen_follows c.args.place.follows) c.args.list.now (seen_state c.args.state.now) (seen_state c.said_by.new.state) c.args.parts c.in_ok-words.words c.in_ok-said.said c.list_rule.result c.obey_rule.result
    c.in_ok-words.ensures c.in_ok-said.ensures.state c.in_ok-said.ensures.said c.list_rule.ensures c.obey_rule.ensures
