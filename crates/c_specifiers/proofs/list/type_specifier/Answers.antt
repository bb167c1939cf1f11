-- The choice is made among what the specifiers are.
use Rattle.std.proofs.Common.{sym, ap, ◌∙◌}
use Rattle.c_specifiers.specs.Specifiers.{type_of_words}
use Rattle.c_specifiers.specs.Lists.{named_type, has_no_word}
use Rattle.c_specifiers.proofs.Choices.{same_choice}
use Rattle.c_specifiers.proofs.list.type_specifier.Goals as goal

pub returns-in-Some-clause-named : goal.returns-in-Some-clause-named
unfolding named_type
returns-in-Some-clause-named c =
    let words = sym (c.as_slice-list.ensures.value ∙ c.in-Ok.ensures) in
    same_choice _ _ _ _ _ _ _ _ (sym c.whole_count-wholes.ensures) (ap has_no_word words ∙ sym c.has_no_word-no_word.ensures) (ap type_of_words words ∙ sym c.type_named-basic.ensures) (sym c.first_whole-first.ensures)
    ∙ sym c.in-Some.ensures

pub returns-clause-bad : goal.returns-clause-bad
unfolding named_type
returns-clause-bad c = λ bad.
    let words = sym (c.as_slice-list.ensures.value ∙ c.in-Ok.ensures) in
    same_choice _ _ _ _ _ _ _ _ (sym c.whole_count-wholes.ensures) (ap has_no_word words ∙ sym c.has_no_word-no_word.ensures) (ap type_of_words words ∙ sym c.type_named-basic.ensures) (sym c.first_whole-first.ensures)
    ∙ sym c.in-None.ensures
