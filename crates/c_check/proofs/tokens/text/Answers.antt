-- Text by text.
use Rattle.std.proofs.Common.{◌≡◌, [], ◌∙◌, arith}
use Rattle.c_check.specs.Tokens.{plain_tokens, text_between}
use Rattle.c_check.proofs.TextLists.{no_text, text_on, text_end}
use Rattle.c_check.proofs.tokens.text.Goals as goal

pub returns-then-last-first : goal.returns-then-last-first
returns-then-last-first c =
    let e : text_between (plain_tokens c.args.tokens.now) c.args.first c.args.last ≡ [] =
    no_text (plain_tokens c.args.tokens.now) c.args.first c.args.last (omega arith) in
    cc

pub texts-preserved : goal.texts-preserved
texts-preserved c =
    record {
      below = omega arith;
      bytes =
          text_on (plain_tokens c.args.tokens.now) c.texts.token c.args.last c.texts.bytes.items c.append.new.self.items c.in_ok-more.more.items
          (omega arith) c.in_ok-append.ensures.items c.in_ok-more.ensures
          ∙ c.texts.invariant.bytes;
    }

pub returns : goal.returns
returns c =
    c.from_vec-2.ensures
    ∙ text_end (plain_tokens c.args.tokens.now) c.texts.token c.args.last c.texts.bytes.items c.append-2.new.self.items c.in_ok-more-2.more.items
    (omega (arith, c.texts.invariant.below)) c.in_ok-append-2.ensures.items c.in_ok-more-2.ensures
    ∙ c.texts.invariant.bytes
