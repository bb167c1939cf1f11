-- Code plays the same whatever its static objects hold: what they hold is in memory, and code only names them.
use Rattle.std.proofs.Common.{◌≡◌, ℕ, zero, suc, ◌+◌, List, refl, sym, ap, ◌∙◌, subst}
use Rattle.std.specs.Prelude.{slice_get, Option, Some, None}
use Rattle.filc_num.specs.declared.statics.StaticDef.{StaticDef}
use Rattle.c_tree.specs.Plain.{PlainProgram}
use Rattle.ideal_machine.specs.declared.event.Answer.{Answer}
use Rattle.ideal_machine.specs.Play.{log_of, run, fresh_log}
use Rattle.ideal_machine.specs.Phrases.{Start}
use Rattle.ideal_machine.specs.Reaches.{Reaches}
use Rattle.tree_play.specs.TreePlay.{play}
use Rattle.whole_code.specs.declared.op.Op.{Op}
use Rattle.whole_code.specs.declared.op.Op.TheVariants as op
use Rattle.whole_code.specs.declared.op.Instruction.{Instruction}
use Rattle.whole_code.specs.Plain.{PlainFunction, PlainCode, instruction_at}
use Rattle.whole_thread.specs.Standing.{Standing}
use Rattle.whole_thread.specs.Act.{CodeStart, by_number, Next, act}
use Rattle.whole_thread.specs.CodePlay.{act_at, exec, exec_first, code_events}
use Rattle.stmt_gen.specs.Correct.{PlaysOn}

module _ (code : PlainCode) (statics : List StaticDef) where
  -- the same functions, with other static objects
  abbrev pub other : PlainCode
  other = record { functions = code.functions; statics = statics; main = code.main }

  same_act : (start : CodeStart) (next : Next) (at : Standing) (line : ℕ) (o : Op) → act other start next at line o ≡ act code start next at line o
  same_act start next at line (op.Const d constant) = refl
  same_act start next at line (op.Move d a) = refl
  same_act start next at line (op.StaticAt d n) = refl
  same_act start next at line (op.FunctionAt d f) = refl
  same_act start next at line (op.Convert d a t) = refl
  same_act start next at line (op.Binary d a b o t) = refl
  same_act start next at line (op.PointerAdd d a b bytes) = refl
  same_act start next at line (op.PointerSub d a b bytes) = refl
  same_act start next at line (op.PointerCompare d a b o) = refl
  same_act start next at line (op.ToInteger d a t) = refl
  same_act start next at line (op.ToPointer d a) = refl
  same_act start next at line (op.Jump target) = refl
  same_act start next at line (op.JumpZero a target) = refl
  same_act start next at line op.Poll = refl
  same_act start next at line (op.Home d bytes) = refl
  same_act start next at line (op.New d a) = refl
  same_act start next at line (op.Free a) = refl
  same_act start next at line (op.Size d a) = refl
  same_act start next at line (op.LoadInt d p t) = refl
  same_act start next at line (op.StoreInt p a t) = refl
  same_act start next at line (op.RmwInt d p a o t u) = refl
  same_act start next at line (op.CasInt d p e n t) = refl
  same_act start next at line (op.Lock p) = refl
  same_act start next at line (op.LoadPointer d p) = refl
  same_act start next at line (op.StorePointer p a) = refl
  same_act start next at line (op.BoxStore p a) = refl
  same_act start next at line (op.BoxSwap d p a) = refl
  same_act start next at line (op.BoxCas d w p e n) = refl
  same_act start next at line (op.Call d f first count) = refl
  same_act start next at line (op.CallPointer d a first count kind) = refl
  same_act start next at line (op.Return a) = refl
  same_act start next at line (op.Out a) = refl
  same_act start next at line (op.Input d) = refl
  same_act start next at line (op.Spawn d a b) = refl
  same_act start next at line (op.Join d a) = refl
  same_act start next at line (op.SelfId d) = refl
  same_act start next at line (op.Exit a) = refl
  same_act start next at line op.Abort = refl

  same_act_at : (start : CodeStart) (next : Next) (at : Standing) (i : Option Instruction) → act_at other start next at i ≡ act_at code start next at i
  same_act_at start next at None = refl
  same_act_at start next at (Some i) = same_act start next at _ i.op

  same_exec : (start : CodeStart) (m : ℕ) (at : Standing) → exec other start m at ≡ exec code start m at
  same_exec start zero at = refl
  same_exec start (suc m) at =
      let i = instruction_at code at.frame.function at.frame.index in
      let next : exec other start m ≡ exec code start m = (λ k s. same_exec start m s k) in
      ap (λ n. act_at other start n at i) next ∙ same_act_at start (exec code start m) at i

  same_first : (start : CodeStart) (m : ℕ) (f : Option PlainFunction) → exec_first other start m f ≡ exec_first code start m f
  same_first start m None = refl
  same_first start m (Some f) = same_exec start m _

  same_events : (m : ℕ) (start : CodeStart) (answers : List Answer) → code_events m other start answers ≡ code_events m code start answers
  same_events m start answers = ap (λ p. run p (fresh_log answers)) (same_first start m (slice_get code.functions start.function))

  pub other_plays : (program : PlainProgram) (start : Start) (answers : List Answer) → PlaysOn code program start answers → PlaysOn other program start answers
  other_plays program start answers plays =
      let same = λ (m : ℕ). same_events m (by_number start) answers in
      let no_round = plays.of_no_round in
      record {
        of_play = λ n more. (let played = plays.of_play n more in (played.0, same played.0 ∙ played.1));
        of_no_round = (no_round.0, subst (λ b. Reaches (play 0 program start answers) b) (sym (same no_round.0)) no_round.1);
        of_code = λ m. subst (λ b. Reaches b (play ((log_of b).jumps + 1) program start answers)) (sym (same m)) (plays.of_code m);
      }
