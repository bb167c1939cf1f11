-- A step ends the run, or goes on.
use Rattle.std.proofs.Common.{◌≡◌, ℕ, ◌+◌, ◌-◌, ◌<◌, suc, List, length, subst, arith}
use Rattle.heap_words.specs.Operations.{place_of}
use Rattle.heap_words.specs.declared.op.WordOp.{WordOp}
use Rattle.heap_words.specs.declared.piece.Step.TheVariants.{Done}
use Rattle.heap_words.proofs.Finishing.{IsGoingOn-not_done}
use Rattle.heap_words.proofs.Trying.{EndsAs, made_step, EndsAs-done, EndsAs-more}
use Rattle.heap_words.proofs.piece.try_alone.Goals as goal

inside : (op wanted : WordOp) (place many : ℕ) (words : List ℕ) → op ≡ wanted → place ≡ place_of op → many ≡ length words → place < many → place_of wanted < length words
inside op wanted place many words op_is place_is many_is below =
    subst (λ o. place_of o < length words) op_is (omega arith)

pub loop-init : goal.loop-init
loop-init g c =
    let P = g.P.Piece in
    let all : c.args.steps ≡ c.args.steps - 0 = omega arith in
    subst (λ n. EndsAs P.work P.is_going n c.args.piece.now c.args.words.now c.args.steps c.args.piece.now c.args.words.now) all
    (record { going = c.requires; back = λ out left finishes. finishes })

pub loop-preserved : goal.loop-preserved
loop-preserved g c =
    let P = g.P.Piece in
    let left_is : c.args.steps - c.loop.counter ≡ suc (c.args.steps - (c.loop.counter + 1)) = omega arith in
    let step = made_step P.work c.loop.piece c.take.new.self c.loop.words c.apply-answer.new.self c.next-op.result c.apply-answer.result c.take.result c.next-op.ensures c.apply-answer.ensures c.take.ensures.state c.take.ensures.told in
    EndsAs-more P.work P.is_going (c.args.steps - (c.loop.counter + 1)) (c.args.steps - c.loop.counter) c.loop.piece c.take.new.self c.loop.words c.apply-answer.new.self c.args.steps c.args.piece.now c.args.words.now left_is c.loop.invariant g.met.P.Piece.keeps_going c.take.result (inside _ _ _ _ _ c.next-op.ensures c.place.ensures c.len.ensures c.if-place-len.false) step (IsGoingOn-not_done c.take.result c.in_default.not-Done)

pub returns-in-Done : goal.returns-in-Done
returns-in-Done g c =
    let P = g.P.Piece in
    let left_is : c.args.steps - c.loop.counter ≡ suc (c.args.steps - (c.loop.counter + 1)) = omega arith in
    let step = made_step P.work c.loop.piece c.take.new.self c.loop.words c.apply-answer.new.self c.next-op.result c.apply-answer.result (Done c.in-Done.out) c.next-op.ensures c.apply-answer.ensures c.take.ensures.state c.in-Done.ensures.told in
    EndsAs-done P.work P.is_going (c.args.steps - (c.loop.counter + 1)) (c.args.steps - c.loop.counter) c.loop.piece c.take.new.self c.loop.words c.apply-answer.new.self c.args.steps c.args.piece.now c.args.words.now left_is c.loop.invariant c.in-Done.out (inside _ _ _ _ _ c.next-op.ensures c.place.ensures c.len.ensures c.if-place-len.false) step
