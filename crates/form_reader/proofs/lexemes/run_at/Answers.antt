use Rattle.std.proofs.Common.{◌≡◌, ℕ, ◌≤◌, length, take, drop, sym, ap, subst, ◌∙◌}
use Rattle.std.proofs.lemmas.List.Sums.{prefix_len-le-length}
use Rattle.std.specs.List.{prefix_len}
use Rattle.form_reader.specs.Lexemes.{is_word}
use Rattle.form_reader.proofs.Lexing.{lexemes-run}
use Rattle.form_reader.proofs.lexemes.run_at.Goals as goal

pub split_at-requires : goal.split_at-requires
split_at-requires c =
    subst (λ n. n ≤ length c.args.bytes.now) (sym c.run_length.ensures) (prefix_len-le-length is_word c.args.bytes.now)

pub returns-clause-front : goal.returns-clause-front
returns-clause-front c =
    let front : c.split_at.result.0.now ≡ take (prefix_len is_word c.args.bytes.now) c.args.bytes.now =
    c.split_at.ensures.front ∙ ap (λ (n : ℕ). take n c.args.bytes.now) c.run_length.ensures in
    let back : c.split_at.result.1.now ≡ drop (prefix_len is_word c.args.bytes.now) c.args.bytes.now =
    c.split_at.ensures.back ∙ ap (λ (n : ℕ). drop n c.args.bytes.now) c.run_length.ensures in
    rw (front, back) (lexemes-run c.args.line c.args.bytes.now c.requires)
