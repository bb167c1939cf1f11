-- Within an instruction nothing is carried out on registers.
use Rattle.std.proofs.Common.{◌≡◌, false, refl}
use Rattle.whole_code.specs.declared.op.Op.{Op}
use Rattle.whole_code.specs.declared.op.Op.TheVariants as op
use Rattle.whole_code.specs.Plain.{PlainCode}
use Rattle.ideal_machine.specs.declared.event.Access.{Access}
use Rattle.ideal_machine.specs.declared.value.Found.{Found}
use Rattle.ideal_machine.specs.declared.value.Found.TheVariants.{Plain as FoundPlain, Pair as FoundPair}
use Rattle.whole_thread.specs.declared.stage.Stage.{Stage}
use Rattle.whole_thread.specs.declared.stage.Stage.TheVariants as stage
use Rattle.whole_thread.specs.Thread.{Thread, want_pointer, want_granted, want_found, want_stored, want_read, want_matching, want_second, want_at}
use Rattle.thread_steps.specs.Turns.{is_instruction, is_before}

pointer_asks : (access : Access) (found : Found) → is_instruction (want_pointer access found) ≡ false
pointer_asks access (FoundPlain half) = refl
pointer_asks access (FoundPair pair) = refl

granted_asks : (thread : Thread) (o : Op) (access : Access) → is_instruction (want_granted thread o access) ≡ false
granted_asks thread (op.LoadInt d p t) access = refl
granted_asks thread (op.StoreInt p a t) access = refl
granted_asks thread (op.RmwInt d p a o t u) access = refl
granted_asks thread (op.CasInt d p e n t) access = refl
granted_asks thread (op.Lock p) access = refl
granted_asks thread (op.LoadPointer d p) access = refl
granted_asks thread (op.StorePointer p a) access = refl
granted_asks thread (op.BoxStore p a) access = refl
granted_asks thread (op.BoxSwap d p a) access = refl
granted_asks thread (op.BoxCas d w p e n) access = refl
granted_asks thread o access = refl

found_asks : (o : Op) (access : Access) (found : Found) → is_instruction (want_found o access found) ≡ false
found_asks (op.LoadPointer d p) access found = pointer_asks access found
found_asks (op.BoxSwap d p a) access found = pointer_asks access found
found_asks (op.BoxCas d w p e n) access found = pointer_asks access found
found_asks o access found = refl

stored_asks : (thread : Thread) (o : Op) (access : Access) → is_instruction (want_stored thread o access) ≡ false
stored_asks thread (op.StorePointer p a) access = refl
stored_asks thread o access = refl

read_asks : (thread : Thread) (o : Op) → is_instruction (want_read thread o) ≡ false
read_asks thread (op.BoxCas d w p e n) = refl
read_asks thread o = refl

matching_asks : (thread : Thread) (o : Op) (access : Access) (found : Found) → is_instruction (want_matching thread o access found) ≡ false
matching_asks thread (op.BoxCas d w p e n) access found = refl
matching_asks thread o access found = refl

second_asks : (thread : Thread) (o : Op) → is_instruction (want_second thread o) ≡ false
second_asks thread (op.PointerSub d a b bytes) = refl
second_asks thread (op.PointerCompare d a b o) = refl
second_asks thread o = refl

pub within_asks : (code : PlainCode) (thread : Thread) (o : Op) (s : Stage) → is_before s ≡ false → is_instruction (want_at code thread o s) ≡ false
within_asks code thread o stage.Before other = absurd (cc)
within_asks code thread o (stage.Granted access) other = granted_asks thread o access
within_asks code thread o (stage.Stored access) other = stored_asks thread o access
within_asks code thread o (stage.Found access found) other = found_asks o access found
within_asks code thread o (stage.Read access found pointer) other = read_asks thread o
within_asks code thread o (stage.Matches access found pointer) other = matching_asks thread o access found
within_asks code thread o stage.NamedFirst other = second_asks thread o
within_asks code thread o stage.Waits other = refl
within_asks code thread o (stage.Traps reason line) other = refl
within_asks code thread o (stage.Over halt) other = refl
