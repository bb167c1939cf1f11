-- Every operation's code runs it.
use Rattle.std.proofs.Common.{◌≡◌, ℕ, suc, ◌-◌, ◌<◌, ◌≤◌, List, sym, subst, arith}
use Rattle.c_tree.specs.declared.operation.Operation.{Operation}
use Rattle.c_tree.specs.declared.operation.Operation.TheVariants as op
use Rattle.c_tree.specs.Operands.{Outline, Context, OpFits}
use Rattle.ideal_machine.specs.declared.value.Value.{Value}
use Rattle.ideal_machine.specs.Values.{State}
use Rattle.ideal_machine.specs.Play.{Log}
use Rattle.ideal_machine.specs.Phrases.{Phrase}
use Rattle.expr_gen.specs.Code.{op_code}
use Rattle.expr_gen.specs.Correct.{OperationsPlay}
use Rattle.expr_gen.specs.Stretch.{Site, Between, HasWords, CallRuns, Matches}
use Rattle.expr_gen.proofs.Landing.{Applied}
use Rattle.expr_gen.proofs.Plain as plain
use Rattle.expr_gen.proofs.Locals as locals
use Rattle.expr_gen.proofs.Memory as memory
use Rattle.expr_gen.proofs.Copies as copies
use Rattle.expr_gen.proofs.Atomics as atomics
use Rattle.expr_gen.proofs.Exchanges as exchanges
use Rattle.expr_gen.proofs.Calls as calls
use Rattle.expr_gen.proofs.Intrinsics as intrinsics

module _ (site : Site) (rounds : ℕ) (call : (function line : ℕ) → List Value → Phrase Value) (more : 0 < rounds) (run_calls : CallRuns site call) (outline : Outline) (here : Context)
    (t to : ℕ) (base : List Value) (le : here.locals ≤ t) where
  module _ (line pc n : ℕ) (regs : List Value) (env : State) (w : Log) (words : HasWords w) (matches : Matches here.locals t base regs env) where
    abbrev Plays : Operation → (c : ℕ) → Type 0
    Plays o c = Applied site rounds call here.locals t to base le o line pc c regs env w

    with_count : (o : Operation) (c : ℕ) → n ≡ c → Plays o c → Plays o n
    with_count o c e r = subst (λ x. Plays o x) (sym e) r

    pub apply_runs : (o : Operation) → OpFits outline here o n → Between site pc (op_code site.library o line t n pc) to → Plays o n
    apply_runs (op.Number v) fit has =
        with_count (op.Number v) 0 fit (plain.number_plays site rounds call here.locals t to base le line pc n regs env w words matches v has)
    apply_runs (op.Local x) fit has =
        with_count (op.Local x) 0 fit.0 (locals.local_plays site rounds call here.locals t to base le line pc n regs env w words matches x fit.1 has)
    apply_runs (op.Static s) fit has =
        with_count (op.Static s) 0 fit.0 (plain.static_plays site rounds call here.locals t to base le line pc n regs env w words matches s has)
    apply_runs (op.Function f) fit has =
        with_count (op.Function f) 0 fit.0 (plain.function_plays site rounds call here.locals t to base le line pc n regs env w words matches f has)
    apply_runs (op.Convert ty) fit has =
        with_count (op.Convert ty) 1 fit (plain.convert_plays site rounds call here.locals t to base le line pc n regs env w words matches ty has)
    apply_runs (op.Binary o ty) fit has =
        with_count (op.Binary o ty) 2 fit.0 (plain.binary_plays site rounds call here.locals t to base le line pc n regs env w words matches o ty has)
    apply_runs (op.Negate ty) fit has =
        with_count (op.Negate ty) 1 fit.0 (plain.negate_plays site rounds call here.locals t to base le line pc n regs env w words matches ty has)
    apply_runs (op.Complement ty) fit has =
        with_count (op.Complement ty) 1 fit.0 (plain.complement_plays site rounds call here.locals t to base le line pc n regs env w words matches ty has)
    apply_runs (op.Not ty) fit has =
        with_count (op.Not ty) 1 fit.0 (plain.not_plays site rounds call here.locals t to base le line pc n regs env w words matches ty has)
    apply_runs (op.Advance bytes) fit has =
        with_count (op.Advance bytes) 2 fit.0 (plain.advance_plays site rounds call here.locals t to base le line pc n regs env w words matches bytes has)
    apply_runs (op.Retreat bytes) fit has =
        with_count (op.Retreat bytes) 2 fit.0 (plain.retreat_plays site rounds call here.locals t to base le line pc n regs env w words matches bytes has)
    apply_runs (op.AdvanceBy bytes) fit has =
        with_count (op.AdvanceBy bytes) 2 fit.0 (plain.advance_by_plays site rounds call here.locals t to base le line pc n regs env w words matches bytes has)
    apply_runs (op.Offset bytes) fit has =
        with_count (op.Offset bytes) 1 fit (plain.offset_plays site rounds call here.locals t to base le line pc n regs env w words matches bytes has)
    apply_runs op.ToPointer fit has =
        with_count op.ToPointer 1 fit (plain.to_pointer_plays site rounds call here.locals t to base le line pc n regs env w words matches has)
    apply_runs (op.Distance bytes) fit has =
        with_count (op.Distance bytes) 2 fit.0 (plain.distance_plays site rounds call here.locals t to base le line pc n regs env w words matches bytes has)
    apply_runs (op.Compare o) fit has =
        with_count (op.Compare o) 2 fit.0 (plain.compare_plays site rounds call here.locals t to base le line pc n regs env w words matches o has)
    apply_runs (op.ToInteger ty) fit has =
        with_count (op.ToInteger ty) 1 fit (plain.to_integer_plays site rounds call here.locals t to base le line pc n regs env w words matches ty has)
    apply_runs (op.SetLocal x) fit has =
        with_count (op.SetLocal x) 1 fit.0 (locals.set_plays site rounds call here.locals t to base le line pc n regs env w words matches x fit.1.0 has)
    apply_runs (op.UpdateLocal x how) fit has =
        with_count (op.UpdateLocal x how) 1 fit.0 (locals.update_plays site rounds call here.locals t to base le line pc n regs env w words matches x how fit.1.0 has)
    apply_runs (op.StepLocal x how) fit has =
        with_count (op.StepLocal x how) 1 fit.0 (locals.step_plays site rounds call here.locals t to base le line pc n regs env w words matches x how fit.1.0 has)
    apply_runs (op.Load lies) fit has =
        with_count (op.Load lies) 1 fit (memory.load_plays site rounds call here.locals t to base le line pc n regs env w words matches lies has)
    apply_runs (op.Store lies) fit has =
        with_count (op.Store lies) 2 fit (memory.store_plays site rounds call here.locals t to base le line pc n regs env w words matches lies has)
    apply_runs (op.Update lies how) fit has =
        with_count (op.Update lies how) 2 fit.0 (memory.update_plays site rounds call here.locals t to base le line pc n regs env w words matches lies how has)
    apply_runs (op.Step lies how) fit has =
        with_count (op.Step lies how) 2 fit.0 (memory.step_plays site rounds call here.locals t to base le line pc n regs env w words matches lies how has)
    apply_runs (op.Copy unit count) fit has =
        with_count (op.Copy unit count) 2 fit.0 (copies.copy_plays site rounds call here.locals t to base le line pc n regs env w words matches unit count (omega (arith, fit.1)) has)
    apply_runs (op.Swap lies) fit has =
        with_count (op.Swap lies) 2 fit.0 (atomics.swap_plays site rounds call here.locals t to base le line pc n regs env w words matches lies has)
    apply_runs (op.Cas lies) fit has =
        with_count (op.Cas lies) 3 fit.0 (exchanges.cas_plays site rounds call here.locals t to base le line pc n regs env w words matches lies more has)
    apply_runs (op.Fetch object o computed) fit has =
        with_count (op.Fetch object o computed) 2 fit.0 (atomics.fetch_plays site rounds call here.locals t to base le line pc n regs env w words matches object o computed has)
    apply_runs (op.Combine object o computed) fit has =
        with_count (op.Combine object o computed) 2 fit.0 (atomics.combine_plays site rounds call here.locals t to base le line pc n regs env w words matches object o computed has)
    apply_runs (op.Call f) fit has = calls.call_plays site rounds call run_calls here.locals t to base le line pc n regs env w words matches f has
    apply_runs (op.CallPointer kind) fit has =
        let e : n ≡ suc (n - 1) = omega (arith, fit.0) in
        with_count (op.CallPointer kind) (suc (n - 1)) e (calls.pointer_plays site rounds call run_calls here.locals t to base le line pc n regs env w words matches kind (n - 1) e has)
    apply_runs op.New fit has =
        with_count op.New 1 fit (intrinsics.new_plays site rounds call here.locals t to base le line pc n regs env w words matches has)
    apply_runs op.Free fit has =
        with_count op.Free 1 fit (intrinsics.free_plays site rounds call here.locals t to base le line pc n regs env w words matches has)
    apply_runs op.Size fit has =
        with_count op.Size 1 fit (intrinsics.size_plays site rounds call here.locals t to base le line pc n regs env w words matches has)
    apply_runs op.Lock fit has =
        with_count op.Lock 1 fit (intrinsics.lock_plays site rounds call here.locals t to base le line pc n regs env w words matches more has)
    apply_runs op.Out fit has =
        with_count op.Out 1 fit (intrinsics.out_plays site rounds call here.locals t to base le line pc n regs env w words matches has)
    apply_runs op.Input fit has =
        with_count op.Input 0 fit (intrinsics.input_plays site rounds call here.locals t to base le line pc n regs env w words matches has)
    apply_runs op.Spawn fit has =
        with_count op.Spawn 2 fit (intrinsics.spawn_plays site rounds call here.locals t to base le line pc n regs env w words matches has)
    apply_runs op.Join fit has =
        with_count op.Join 1 fit (intrinsics.join_plays site rounds call here.locals t to base le line pc n regs env w words matches has)
    apply_runs op.Exit fit has =
        with_count op.Exit 1 fit (intrinsics.exit_plays site rounds call here.locals t to base le line pc n regs env w words matches has)
    apply_runs op.Abort fit has =
        with_count op.Abort 0 fit (intrinsics.abort_plays site rounds call here.locals t to base le line pc n regs env w words matches has)
    apply_runs op.SelfId fit has =
        with_count op.SelfId 0 fit (plain.self_plays site rounds call here.locals t to base le line pc n regs env w words matches has)
    apply_runs op.Second fit has =
        with_count op.Second 2 fit (plain.second_plays site rounds call here.locals t to base le line pc n regs env w words matches has)

pub operations_play : OperationsPlay
operations_play site rounds call more run_calls outline here o line t n pc to base regs env w le fit words has matches =
    apply_runs site rounds call more run_calls outline here t to base le line pc n regs env w words matches o fit has
