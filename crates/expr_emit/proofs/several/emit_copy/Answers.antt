-- The loop of a copy goes back to the fourth instruction, and ends behind the tenth.
use Rattle.std.proofs.Common.{◌≡◌, ℕ, ◌+◌, ◌-◌, [], ◌∷◌, Bool, ap, ◌∙◌, arith}
use Rattle.filc_num.specs.declared.integer.BinOp.TheVariants.{Sub}
use Rattle.filc_num.specs.declared.integer.IntType.TheVariants.{U64}
use Rattle.c_tree.specs.declared.operation.Access.{Access}
use Rattle.whole_code.specs.declared.op.Op.{Op}
use Rattle.whole_code.specs.declared.op.Op.TheVariants.{Const, Move, PointerAdd, Jump, JumpZero}
use Rattle.expr_gen.specs.Operations.{binary_op, load_op, store_op, copy_ops}
use Rattle.expr_gen.specs.Code.{instructions}
use Rattle.expr_emit.specs.Tail.{PlainTail, before, PutsBefore}
use Rattle.expr_emit.proofs.Tails.{on_ok}
use Rattle.expr_emit.proofs.several.emit_copy.Goals as goal

copy_put :
    (library : Bool) (line bytes0 bytes count t from to left one value end test : ℕ) (lies0 lies : Access) (load store onward further less : Op) (s0 s1 : PlainTail) →
    lies ≡ lies0 → bytes ≡ bytes0 → from ≡ t + 1 → to ≡ t + 2 → left ≡ t + 3 → one ≡ t + 4 → value ≡ t + 5 → end ≡ s0.start → test ≡ end - 7 →
    load ≡ load_op lies value from → store ≡ store_op lies to value → onward ≡ PointerAdd to to one bytes → further ≡ PointerAdd from from one bytes →
    less ≡ binary_op Sub U64 left left one →
    s1 ≡ before (instructions library line (Move to t ∷ Const left count ∷ Const one 1 ∷ JumpZero left end ∷ load ∷ store ∷ onward ∷ further ∷ less ∷ Jump test ∷ [])) s0 →
    PutsBefore 10 (λ at. instructions library line (copy_ops lies0 bytes0 count t at)) s0 s1
copy_put library line bytes0 bytes count t from to left one value end test lies0 lies load store onward further less s0 s1 l0 b0 r1 r2 r3 r4 r5 last back o1 o2 o3 o4 o5 e room =
    let at = s0.start - 10 in
    let end_at : end ≡ at + 10 = omega (arith, last, room) in
    let test_at : test ≡ at + 3 = omega (arith, back, last, room) in
    let same : Move to t ∷ Const left count ∷ Const one 1 ∷ JumpZero left end ∷ load ∷ store ∷ onward ∷ further ∷ less ∷ Jump test ∷ [] ≡ copy_ops lies0 bytes0 count t at = cc in
    e ∙ ap (λ ops. before (instructions library line ops) s0) same

pub returns : goal.returns
returns c =
    on_ok c.put.result _ _
    (λ e. copy_put c.args.place.library c.args.place.line _ c.unit_bytes-bytes.result c.args.count c.args.place.t c.in_ok-from.from c.in_ok-to.to c.in_ok-left.left c.in_ok-one.one
    c.in_ok-value.value c.start-end.result c.saturating_sub-test.result _ c.unit_access-lies.result c.load_op.result c.store_op.result c.step_op.result
    c.step_op-2.result c.binary_op.result c.args.tail.now c.put.new.tail c.unit_access-lies.ensures c.unit_bytes-bytes.ensures c.in_ok-from.ensures c.in_ok-to.ensures c.in_ok-left.ensures c.in_ok-one.ensures
    c.in_ok-value.ensures c.start-end.ensures c.saturating_sub-test.ensures c.load_op.ensures c.store_op.ensures c.step_op.ensures c.step_op-2.ensures
    c.binary_op.ensures e)
    c.put.ensures
