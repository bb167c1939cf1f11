-- What stands in the parentheses comes behind a declarator's own.
use Rattle.c_declarators.proofs.Outcomes.{on_ok}
use Rattle.c_declarators.proofs.Views.{all_appended}
use Rattle.c_declarators.proofs.derivations.+append_all.Goals as goal

pub returns-in-Parens : goal.returns-in-Parens
returns-in-Parens t c =
    on_ok c.append_all.result _ _
    (all_appended c.args.known.now c.args.declarator.now c.in-Parens.inner c.get.result.now c.args.derivations.now.items c.append_pointers.new.derivations.items c.append_suffixes.new.derivations.items c.append_all.new.derivations.items c.as_slice.result.now c.as_slice-2.result.now
    c.in_ok-append_pointers.ensures c.as_slice.ensures c.in_ok-append_suffixes.ensures c.as_slice-2.ensures c.in-Parens.is c.get.ensures)
    c.append_all.ensures
