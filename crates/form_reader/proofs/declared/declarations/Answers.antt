use Rattle.std.proofs.Common.{◌≡◌, ℕ, ◌<◌, List, length, sym, ap, subst, arith}
use Rattle.std.proofs.lemmas.Bool.{both_ways}
use Rattle.std.proofs.lemmas.List.{length-map}
use Rattle.form_reader.specs.Form.{IsNew}
use Rattle.form_reader.proofs.Declaring.{declare_start, declare_end, declare_not, declare_full, declare_wrong, declare_more}
use Rattle.form_reader.proofs.declared.declarations.Goals as goal

pub loop-tokens-init : goal.loop-tokens-init
loop-tokens-init c =
    declare_start c.args.tokens.now c.new-declared.result c.new-declared.ensures

pub returns-in_default-clause-only : goal.returns-in_default-clause-only
returns-in_default-clause-only c d here rest are few ends stands =
    declare_not c.args.tokens.now c.loop-tokens.tokens c.loop-tokens.declared c.loop-tokens.invariant (c.is_at_declaration.ensures.yes c.loop-tokens-test.true) c.declaration.new.tokens c.in_default.ensures.none d here rest are ends stands

pub returns-then-names-eq-MOST_LOCALS-clause-only : goal.returns-then-names-eq-MOST_LOCALS-clause-only
returns-then-names-eq-MOST_LOCALS-clause-only c d here rest are few ends stands =
    let found = c.in-Some.ensures.found in
    let full : length c.loop-tokens.declared.names ≡ 256 = omega (arith, ap length c.names.ensures, length-map c.names.result.now (λ n. n.now), c.if-names-eq-MOST_LOCALS.true) in
    declare_full c.args.tokens.now c.loop-tokens.tokens c.loop-tokens.declared c.loop-tokens.invariant (c.is_at_declaration.ensures.yes c.loop-tokens-test.true) found.0 c.in-Some.line found.1 c.in-Some.name.now c.declaration.new.tokens found.2 full d here rest are few ends stands

pub returns-then-not-is_name-clause-only : goal.returns-then-not-is_name-clause-only
returns-then-not-is_name-clause-only c d here rest are few ends stands =
    let found = c.in-Some.ensures.found in
    declare_wrong c.args.tokens.now c.loop-tokens.tokens c.loop-tokens.declared c.loop-tokens.invariant (c.is_at_declaration.ensures.yes c.loop-tokens-test.true) found.0 c.in-Some.line found.1 c.in-Some.name.now c.declaration.new.tokens found.2 (λ is fresh. both_ways c.is_name.result c.if-not-is_name.true (c.is_name.ensures.1 is)) d here rest are ends stands

pub returns-then-is_among-clause-only : goal.returns-then-is_among-clause-only
returns-then-is_among-clause-only c d here rest are few ends stands =
    let found = c.in-Some.ensures.found in
    declare_wrong c.args.tokens.now c.loop-tokens.tokens c.loop-tokens.declared c.loop-tokens.invariant (c.is_at_declaration.ensures.yes c.loop-tokens-test.true) found.0 c.in-Some.line found.1 c.in-Some.name.now c.declaration.new.tokens found.2 (λ is fresh. c.is_among.ensures.yes c.if-is_among.true (subst (λ (seen : List (List ℕ)). IsNew seen c.in-Some.name.now) (sym c.names-in-loop-tokens.ensures) fresh)) d here rest are ends stands

pub loop-tokens-preserved : goal.loop-tokens-preserved
loop-tokens-preserved c =
    let found = c.in-Some.ensures.found in
    let room : length c.loop-tokens.declared.names < 256 = omega (arith, ap length c.names.ensures, length-map c.names.result.now (λ n. n.now), c.if-names-eq-MOST_LOCALS.false, c.loop-tokens.invariant.few) in
    declare_more c.args.tokens.now c.loop-tokens.tokens c.loop-tokens.declared c.loop-tokens.invariant (c.is_at_declaration.ensures.yes c.loop-tokens-test.true) found.0 c.in-Some.line found.1 c.in-Some.name.now c.declaration.new.tokens found.2 c.add.new.self c.in_ok-add.ensures.added (c.is_name.ensures.0 c.if-not-is_name.false)
    (subst (λ (seen : List (List ℕ)). IsNew seen c.in-Some.name.now) c.names-in-loop-tokens.ensures (c.is_among.ensures.no c.if-is_among.false)) room

pub returns-clause-only : goal.returns-clause-only
returns-clause-only c d here rest are few ends stands =
    declare_end c.args.tokens.now c.loop-tokens.tokens c.loop-tokens.declared c.loop-tokens.invariant (c.is_at_declaration.ensures.no c.loop-tokens-test.false) d here rest are ends stands
