-- The list so far is that of the tokens so far.
use Rattle.std.proofs.Common.{◌≡◌, ◌∙◌, Some, ap, arith, length, map, sym, take}
use Rattle.std.specs.BTreeMap.{is_at}
use Rattle.std.specs.Cmp.Lexicographic.{slice_cmp}
use Rattle.std.specs.List.{slice_get}
use Rattle.std.specs.Map.{lookup}
use Rattle.std.specs.Ordering.{nat_cmp}
use Rattle.std.proofs.lemmas.List.{length-map, length-take-le, take_all}
use Rattle.std.proofs.lemmas.Option.{slice_get-get_or}
use Rattle.c_terminals.specs.Lexemes.{first_with, lexeme_of, lexemes_of}
use Rattle.c_terminals.proofs.whole.lexemes.Goals as goal

pub loop-place-init : goal.loop-place-init
unfolding first_with
loop-place-init c = record {
  so_far = c.new-lexemes.ensures.items;
  numbered = record {
    all = λ text. ap (lookup (is_at (λ key. slice_cmp nat_cmp text key.items))) c.new-places.ensures.empty;
  };
}

pub read_next-requires-clause-there : goal.read_next-requires-clause-there
read_next-requires-clause-there c =
    let tokens = c.args.tokens.now in
    let list = tokens.list.items in
    let l = c.loop-place in
    let size = c.len-tokens_number.ensures ∙ tokens.list.ok.0 in
    let many : length c.deref.result.now ≡ l.place =
    ap length (c.deref.ensures.value ∙ l.invariant.so_far)
    ∙ length-map (take l.place list) (lexeme_of tokens.bytes.items list)
    ∙ length-take-le l.place list (omega (arith, size, c.loop-place-test.true)) in
    ap (slice_get list) many
    ∙ slice_get-get_or list l.place c.index-token.result.now (omega (arith, size, c.loop-place-test.true))
    ∙ ap Some (sym c.index-token.ensures)

pub returns-clause-list : goal.returns-clause-list
unfolding lexemes_of
returns-clause-list c =
    let tokens = c.args.tokens.now in
    let l = c.loop-place in
    let size = c.len-tokens_number.ensures ∙ tokens.list.ok.0 in
    l.invariant.so_far
    ∙ ap (map (lexeme_of tokens.bytes.items tokens.list.items)) (take_all l.place tokens.list.items (omega (arith, size, c.loop-place-test.false)))
