-- Each block in its turn: the outcome of what is left stays that of the whole.
use Rattle.std.proofs.Common.{refl, ◌∙◌}
use Rattle.std.proofs.lemmas.List.{nil_from_length}
use Rattle.std.proofs.lemmas.Result.{err_from_is_err_and}
use Rattle.c_preproc.specs.Code.Seen.{seen}
use Rattle.c_preproc.proofs.Carried.{directive_bytes, directive_fault, directive_step, on_no_block, token_bytes, token_fault, token_step}
use Rattle.c_preproc.proofs.carry.carry_tokens.Goals as goal

pub loop-token-init : goal.loop-token-init
loop-token-init c = record { bytes = refl; told = refl }

pub returns-in_err-after_token-in-None : goal.returns-in_err-after_token-in-None
returns-in_err-after_token-in-None c =
    let l = c.loop-token in
    let r = c.from_residual in
    let p = err_from_is_err_and r.result r.ensures.1 in
    rw (p.1, p.2)
    (λ not_memory. token_fault c.args.state.now.macros.bytes c.bytes.result.now (seen l.state) (seen l.state) l.rest.now c.in-Some.behind.now c.in-Some.token.now _ l.invariant.bytes c.bytes.ensures.bytes c.in-Some.ensures.cases.0 l.invariant.told _ c.in-None.ensures.block (c.in_err-after_token-in-None.ensures not_memory))

pub loop-token-preserved-in-None : goal.loop-token-preserved-in-None
loop-token-preserved-in-None c =
    let l = c.loop-token in
    let goes = c.in_ok-after_token-in-None.ensures in
    record {
      bytes = token_bytes (seen l.state) (seen c.after_token.new.state) c.in-Some.token.now goes ∙ l.invariant.bytes;
      told = token_step c.args.state.now.macros.bytes c.bytes.result.now (seen l.state) (seen c.after_token.new.state) l.rest.now c.in-Some.behind.now c.in-Some.token.now _ l.invariant.bytes c.bytes.ensures.bytes c.in-Some.ensures.cases.0 l.invariant.told c.in-None.ensures.block goes;
    }

pub returns-in_err-after_directive-in-Some-directive_length :
    goal.returns-in_err-after_directive-in-Some-directive_length
returns-in_err-after_directive-in-Some-directive_length c =
    let l = c.loop-token in
    let r = c.from_residual-in_err-after_directive-in-Some-directive_length in
    let p = err_from_is_err_and r.result r.ensures.1 in
    rw (p.1, p.2)
    (λ not_memory. directive_fault c.args.state.now.macros.bytes c.bytes.result.now (seen l.state) (seen l.state) l.rest.now c.in-Some.behind.now c.in-Some.token.now _ l.invariant.bytes c.bytes.ensures.bytes c.in-Some.ensures.cases.0 l.invariant.told c.split_at.result.0.now c.split_at.result.1.now c.in-Some-directive_length.count c.in-Some-directive_length.ensures.block c.split_at.ensures.front c.split_at.ensures.back _ (c.in_err-after_directive-in-Some-directive_length.ensures not_memory))

pub loop-token-preserved : goal.loop-token-preserved
loop-token-preserved c =
    let l = c.loop-token in
    let goes = c.in_ok-after_directive-in-Some-directive_length.ensures in
    record {
      bytes = directive_bytes c.in-Some.token.now.line (seen l.state) (seen c.after_directive.new.state) c.split_at.result.0.now goes ∙ l.invariant.bytes;
      told = directive_step c.args.state.now.macros.bytes c.bytes.result.now (seen l.state) (seen c.after_directive.new.state) l.rest.now c.in-Some.behind.now c.in-Some.token.now _ l.invariant.bytes c.bytes.ensures.bytes c.in-Some.ensures.cases.0 l.invariant.told c.split_at.result.0.now c.split_at.result.1.now c.in-Some-directive_length.count c.in-Some-directive_length.ensures.block c.split_at.ensures.front c.split_at.ensures.back goes;
    }

pub returns : goal.returns
returns c =
    let l = c.loop-token in
    on_no_block c.args.state.now.macros.bytes (seen l.state) l.rest.now _ (nil_from_length _ c.in_default.ensures.cases) l.invariant.told
