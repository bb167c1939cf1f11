use Rattle.std.proofs.Common.{true, false, ap, sym, ◌∙◌}
use Rattle.std.proofs.lemmas.List.{nil_from_length}
use Rattle.c_preproc.specs.Expansion.{decided_of, is_defined, or_directive, truth_token}
use Rattle.c_preproc.proofs.Decided.{operand_in, first_behind, on_defined, on_last, on_nameless, on_word, word_in}
use Rattle.c_preproc.proofs.condition.decide.Goals as goal

pub loop-token-init : goal.loop-token-init
loop-token-init c = first_behind c.new-decided.result.items (decided_of c.args.macros.now 0 c.args.tokens.now) c.new-decided.ensures.items

pub loop-token-preserved-then-not-is_word : goal.loop-token-preserved-then-not-is_word
loop-token-preserved-then-not-is_word c =
    let l = c.loop-token in
    on_word c.args.macros.now l.decided.items c.push.new.self.items _ l.rest.now c.in-Some.behind.now c.in-Some.token.now c.in-Some.ensures.cases.0 (word_in c.bytes-bytes.result.now c.args.macros.now.bytes c.in-Some.token.now false c.bytes-bytes.ensures.bytes (sym c.if-not-is_word.ensures)) c.in_ok-push.ensures.items l.invariant

pub returns-in_default-operand_of_defined : goal.returns-in_default-operand_of_defined
returns-in_default-operand_of_defined c =
    let l = c.loop-token in
    λ _. ap (or_directive c.args.line) (on_nameless c.args.macros.now l.decided.items _ l.rest.now c.in-Some.behind.now c.in-Some.token.now c.in-Some.ensures.cases.0 (word_in c.bytes-bytes.result.now c.args.macros.now.bytes c.in-Some.token.now true c.bytes-bytes.ensures.bytes (sym c.if-not-is_word.ensures)) (operand_in c.bytes-bytes.result.now c.args.macros.now.bytes c.in-Some.behind.now _ c.bytes-bytes.ensures.bytes (sym c.in_default-operand_of_defined.ensures.value)) l.invariant)

pub loop-token-preserved : goal.loop-token-preserved
loop-token-preserved c =
    let l = c.loop-token in
    on_defined c.args.macros.now l.decided.items c.push-in-Some.new.self.items _ l.rest.now c.in-Some.behind.now c.split_at.result.1.now c.in-Some.token.now c.in-Some-operand_of_defined.name c.truth_token.result c.in-Some-operand_of_defined.count c.in-Some.ensures.cases.0 (word_in c.bytes-bytes.result.now c.args.macros.now.bytes c.in-Some.token.now true c.bytes-bytes.ensures.bytes (sym c.if-not-is_word.ensures)) (operand_in c.bytes-bytes.result.now c.args.macros.now.bytes c.in-Some.behind.now _ c.bytes-bytes.ensures.bytes (sym c.in-Some-operand_of_defined.ensures.value))
    (c.truth_token.ensures ∙ ap (λ b. truth_token c.bytes-bytes.result.now b c.in-Some.token.now) c.is_defined.ensures ∙ ap (λ bs. truth_token bs (is_defined c.args.macros.now c.in-Some-operand_of_defined.name) c.in-Some.token.now) c.bytes-bytes.ensures.bytes) c.in_ok-push-2.ensures.items c.split_at.ensures.back l.invariant

pub returns : goal.returns
returns c = ap (or_directive c.args.line) (on_last c.args.macros.now c.loop-token.decided.items _ c.loop-token.rest.now (nil_from_length _ c.in_default.ensures.cases) c.loop-token.invariant)
