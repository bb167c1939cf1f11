-- The number of a word, and what the map has after it.
use Rattle.std.proofs.Common.{◌≡◌, ◌∙◌, ap, false, subst, sym, true, unwrap_or}
use Rattle.c_terminals.specs.Places.{IsNumbering, place_of}
use Rattle.c_terminals.specs.Texts.{is_name, text_of}
use Rattle.c_terminals.proofs.Numbering.{number-word, numbered-no_word, numbered-word}
use Rattle.c_terminals.proofs.whole.number_at.Goals as goal

pub returns-then-not-is_name-clause-numbered : goal.returns-then-not-is_name-clause-numbered
returns-then-not-is_name-clause-numbered c =
    let tokens = c.args.tokens.now in
    let lacks : is_name c.args.token ≡ false = sym c.if-not-is_name.ensures in
    numbered-no_word tokens.bytes.items tokens.list.items c.args.place c.args.token c.requires.there c.args.places.now lacks c.requires.numbered

pub returns-clause-number : goal.returns-clause-number
returns-clause-number c =
    let tokens = c.args.tokens.now in
    let bytes = tokens.bytes.items in
    let t = c.args.token in
    let named : is_name t ≡ true = sym c.if-not-is_name.ensures in
    let same : c.text_of-text.result.now ≡ text_of bytes t = c.text_of-text.ensures ∙ ap (λ bs. text_of bs t) c.deref.ensures.value in
    let change : IsNumbering c.args.places.now c.number_of.new.places (text_of bytes t) c.args.place =
    subst (λ text. IsNumbering c.args.places.now c.number_of.new.places text c.args.place) same c.in_ok-number.ensures.places in
    c.in_ok-number.ensures.number ∙ ap (λ text. unwrap_or (place_of c.args.places.now text) c.args.place) same
    ∙ sym (number-word bytes tokens.list.items c.args.place t c.requires.there c.args.places.now c.number_of.new.places named change c.requires.numbered)

pub returns-clause-numbered : goal.returns-clause-numbered
returns-clause-numbered c =
    let tokens = c.args.tokens.now in
    let bytes = tokens.bytes.items in
    let t = c.args.token in
    let named : is_name t ≡ true = sym c.if-not-is_name.ensures in
    let same : c.text_of-text.result.now ≡ text_of bytes t = c.text_of-text.ensures ∙ ap (λ bs. text_of bs t) c.deref.ensures.value in
    let change : IsNumbering c.args.places.now c.number_of.new.places (text_of bytes t) c.args.place =
    subst (λ text. IsNumbering c.args.places.now c.number_of.new.places text c.args.place) same c.in_ok-number.ensures.places in
    numbered-word bytes tokens.list.items c.args.place t c.requires.there c.args.places.now c.number_of.new.places named change c.requires.numbered
