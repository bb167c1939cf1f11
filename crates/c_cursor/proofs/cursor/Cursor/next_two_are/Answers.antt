use Rattle.std.proofs.Common.{◌≡◌, ◌+◌, true, length, refl, sym, ap, ◌∙◌, subst}
use Rattle.std.specs.Prelude.{Some, slice_get}
use Rattle.std.proofs.lemmas.Option.{slice_get_read}
use Rattle.c_parts.specs.Kinds.{member, kind}
use Rattle.c_parts.specs.Production.{two_of}
use Rattle.c_parts.specs.Reading.{ahead_two}
use Rattle.c_cursor.specs.Cursor.{input_of}
use Rattle.c_cursor.specs.Input.{behind}
use Rattle.c_cursor.proofs.Ahead.{two_at}
use Rattle.c_cursor.proofs.cursor.Cursor.next_two_are.Goals as goal

pub returns-then-is_one_of : goal.returns-then-is_one_of
returns-then-is_one_of c =
    let tokens = c.self.inside.tokens.now in
    let at : slice_get tokens c.self.inside.place ≡ Some c.in-Some-Some.token.now =
    slice_get_read tokens (length tokens) c.self.inside.place c.in-Some-Some.token.now refl c.in-Some-Some.ensures.lookup.3.0 c.in-Some-Some.ensures.lookup.1 in
    let past : slice_get tokens (c.self.inside.place + 1) ≡ Some c.in-Some-Some.behind.now =
    slice_get_read tokens (length tokens) (c.self.inside.place + 1) c.in-Some-Some.behind.now refl c.in-Some-Some.ensures'.lookup.3.0 c.in-Some-Some.ensures'.lookup.1 in
    let first : member (kind c.args.self.now.state c.in-Some-Some.token.now) c.args.first.now ≡ true =
    ap (λ k. member k c.args.first.now) (sym c.kind.ensures) ∙ sym c.is_one_of.ensures ∙ c.if-is_one_of.true in
    let state = (input_of c.self.inside).state in
    c.is_one_of-then-is_one_of.ensures ∙ ap (λ k. member k c.args.second.now) c.kind_behind.ensures
    ∙ subst (λ i. member (kind (behind c.in-Some-Some.token.now.terminal i.state) c.in-Some-Some.behind.now) c.args.second.now ≡ ahead_two (two_of c.args.first.now c.args.second.now) i.state i.rest)
    c.self.view_is
    (sym (two_at c.args.first.now c.args.second.now state tokens c.self.inside.place c.in-Some-Some.token.now c.in-Some-Some.behind.now at past
    (subst (λ i. member (kind i.state c.in-Some-Some.token.now) c.args.first.now ≡ true) (sym c.self.view_is) first)))
