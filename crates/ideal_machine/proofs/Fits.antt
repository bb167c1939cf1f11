-- Every allowed answer is a reply.
use Rattle.std.proofs.Common.{◌≡◌, inl, inr, ⊎_elim, ℕ, Bool, true, false, Option, Some, None, refl, sym, subst}
use Rattle.std.specs.Prelude.{IsSome, not, ◌&&◌, ◌||◌, ◌==◌, ◌%◌, if◌then◌else◌}
use Rattle.filc_num.specs.declared.reason.Reason.{Reason}
use Rattle.filc_num.specs.declared.reason.Reason.TheVariants.{Freed as FreedReason, Bounds, Alignment, ReadOnly, BadFree, NoCell, OutputLimit}
use Rattle.ideal_machine.specs.declared.value.Half.{Half}
use Rattle.ideal_machine.specs.declared.value.Half.TheVariants.{Nothing, Freed, Object as ObjectHalf, Function}
use Rattle.ideal_machine.specs.declared.event.Event.TheVariants.{Check, GetInt, SetInt, RmwInt, CasInt, GetHalf, Open, SetHalf, CasHalf, New, Void, Size, Name, Lock, Out, Input, Spawn, Begin, End, Join, Collected, Exit, Trap}
use Rattle.ideal_machine.specs.declared.event.Answer.{Answer}
use Rattle.ideal_machine.specs.declared.event.Answer.TheVariants.{Granted, Refused, Done, Number, Found as FoundAnswer, Opened, Made, Absent, End as InputEnd}
use Rattle.ideal_machine.specs.Memory.{Object, Memory, object_at, malloc_kind, literal_kind}
use Rattle.ideal_machine.specs.Words.{integer_at}
use Rattle.ideal_machine.specs.Refusals.{has_bytes, access_refusal, check_refusal, free_refusal, void_refusal, bytes_behind}
use Rattle.ideal_machine.specs.Queries.{check_reply, plain_check_reply, size_reply, number_reply, done_reply}
use Rattle.ideal_machine.specs.Allows.{refusal_or}
use Rattle.ideal_machine.specs.Fits.{AllowedAnswersAreReplies, AllowedChecksAreReplies}

-- ---- refusals

-- a reason against a pointer is none but those of pointers
abbrev IsOfPointers : Option Reason → Type 0
IsOfPointers (Some NoCell) = ⊥
IsOfPointers o = Unit {0}

one_of : (b : Bool) (reason : Reason) (rest : Option Reason) → IsOfPointers (Some reason) → IsOfPointers rest → IsOfPointers (if b then Some reason else rest)
one_of true reason rest h k = h
one_of false reason rest h k = k

access_reason : (o : Object) (address width : ℕ) (write : Bool) → IsOfPointers (access_refusal o address width write)
access_reason o address width write =
    one_of o.freed FreedReason _ tt
    (one_of (not (has_bytes o address width)) Bounds _ tt
    (one_of (not (address % width == 0)) Alignment _ tt (one_of (write && (o.kind == literal_kind)) ReadOnly None tt tt)))

check_reason : (memory : Memory) (half : Half) (address width : ℕ) (write : Bool) → IsOfPointers (check_refusal memory half address width write)
check_reason memory Nothing address width write = tt
check_reason memory Freed address width write = tt
check_reason memory (ObjectHalf n) address width write = access_reason (object_at memory n) address width write
check_reason memory (Function f) address width write = tt

free_reason : (o : Object) (address : ℕ) → IsOfPointers (free_refusal o address)
free_reason o address =
    one_of o.freed FreedReason _ tt (one_of (not (o.kind == malloc_kind) || not (address == o.address)) BadFree None tt tt)

void_reason : (memory : Memory) (half : Half) (address : ℕ) → IsOfPointers (void_refusal memory half address)
void_reason memory Nothing address = tt
void_reason memory Freed address = tt
void_reason memory (ObjectHalf n) address = free_reason (object_at memory n) address
void_reason memory (Function f) address = tt

plain_fits : (o : Option Reason) → IsOfPointers o → IsSome (plain_check_reply (refusal_or Granted o))
plain_fits None h = refl
plain_fits (Some NoCell) h = absurd h
plain_fits (Some reason) h = refl

size_fits : (bytes : ℕ) (o : Option Reason) → IsOfPointers o → IsSome (size_reply (refusal_or (Number bytes) o))
size_fits bytes None h = refl
size_fits bytes (Some NoCell) h = absurd h
size_fits bytes (Some reason) h = refl

check_fits : (o : Option Reason) → IsSome (check_reply (refusal_or Granted o))
check_fits None = refl
check_fits (Some reason) = refl

-- ---- answers

done_fits : (answer : Answer) → answer ≡ Done → IsSome (done_reply answer)
done_fits answer is = subst (λ a. IsSome (done_reply a)) (sym is) refl

number_fits : (answer : Answer) (n : ℕ) → answer ≡ Number n → IsSome (number_reply answer)
number_fits answer n is = subst (λ a. IsSome (number_reply a)) (sym is) refl

pub allowed_answers_are_replies : AllowedAnswersAreReplies
allowed_answers_are_replies world memory actor (Check half address width write) answer h =
    ⊎_elim
    (λ is.
    inl (subst (λ a. IsSome (plain_check_reply a)) (sym is)
    (plain_fits (check_refusal memory half address width write) (check_reason memory half address width write))))
    (λ is. inr is.0)
    h.answers.1
allowed_answers_are_replies world memory actor (GetInt access) answer h = inl (number_fits answer (integer_at memory access) h.answers.1)
allowed_answers_are_replies world memory actor (SetInt access value) answer h = inl (done_fits answer h.answers.1)
allowed_answers_are_replies world memory actor (RmwInt access operation value) answer h =
    inl (number_fits answer (integer_at memory access) h.answers.2)
allowed_answers_are_replies world memory actor (CasInt access expected desired) answer h =
    inl (number_fits answer (integer_at memory access) h.answers.1)
allowed_answers_are_replies world memory actor (GetHalf object word) (FoundAnswer found) h = inl refl
allowed_answers_are_replies world memory actor (Open pair) (Opened address half) h = inl refl
allowed_answers_are_replies world memory actor (SetHalf object word half) answer h = inl (done_fits answer h.answers.1)
allowed_answers_are_replies world memory actor (CasHalf object word seen new) (FoundAnswer found) h = inl refl
allowed_answers_are_replies world memory actor (New bytes kind) (Made object address) h = inl refl
allowed_answers_are_replies world memory actor (New bytes kind) Absent h = inl refl
allowed_answers_are_replies world memory actor (Void half address) answer h =
    inl (subst (λ a. IsSome (plain_check_reply a)) (sym h.answers) (plain_fits (void_refusal memory half address) (void_reason memory half address)))
allowed_answers_are_replies world memory actor (Size half address) answer h =
    inl (subst (λ a. IsSome (size_reply a)) (sym h.answers)
    (size_fits (bytes_behind memory half) (void_refusal memory half address) (void_reason memory half address)))
allowed_answers_are_replies world memory actor (Name half address) answer h = inl (done_fits answer h.answers)
allowed_answers_are_replies world memory actor (Lock object offset) answer h = inl (done_fits answer h.answers.2)
allowed_answers_are_replies world memory actor (Out byte) Done h = inl refl
allowed_answers_are_replies world memory actor (Out byte) (Refused OutputLimit) h = inl refl
allowed_answers_are_replies world memory actor Input (Number byte) h = inl refl
allowed_answers_are_replies world memory actor Input InputEnd h = inl refl
allowed_answers_are_replies world memory actor (Spawn function address half) (Number id) h = inl refl
allowed_answers_are_replies world memory actor (Spawn function address half) Absent h = inl refl
allowed_answers_are_replies world memory actor (Begin function address half) answer h = inl (done_fits answer h.answers)
allowed_answers_are_replies world memory actor (End result) answer h = inl (done_fits answer h.answers)
allowed_answers_are_replies world memory actor (Join id) (Number result) h = inl refl
allowed_answers_are_replies world memory actor (Join id) Absent h = inl refl
allowed_answers_are_replies world memory actor (Collected cycle) answer h = inl (done_fits answer h.answers.1)
allowed_answers_are_replies world memory actor (Exit status) answer h = inl (done_fits answer h.answers.1)
allowed_answers_are_replies world memory actor (Trap reason line) answer h = inl (done_fits answer h.answers.1)
allowed_answers_are_replies world memory actor event answer h = absurd h.answers

pub allowed_checks_are_replies : AllowedChecksAreReplies
allowed_checks_are_replies world memory actor half address answer h =
    ⊎_elim (λ is. subst (λ a. IsSome (check_reply a)) (sym is) (check_fits (check_refusal memory half address 8 true)))
    (λ is. subst (λ a. IsSome (check_reply a)) (sym is.0) refl) h.answers.1
