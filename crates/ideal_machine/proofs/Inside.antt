-- Where an allowed access lies, and what a check that refuses nothing says.
use Rattle.std.proofs.Common.{◌≡◌, ◌≢◌, ℕ, ◌+◌, ◌-◌, ◌%◌, ◌<◌, ◌≤◌, length, Bool, true, false, not, ◌&&◌, Option, Some, None, refl, sym, ◌∙◌, ap, subst, arith}
use Rattle.std.proofs.lemmas.Bool.{and_parts, leb-true, le-leb, eqb-true, eq-eqb, ne_eqb, and_from}
use Rattle.std.specs.Prelude.{slice_get, unwrap_or, nat_le, ◌==◌, ◌||◌, if◌then◌else◌, IsTrue}
use Rattle.filc_num.specs.declared.reason.Reason.{Reason}
use Rattle.filc_num.specs.declared.reason.Reason.TheVariants.{Bounds, Alignment, ReadOnly, BadFree, Freed as FreedReason}
use Rattle.filc_num.specs.WordBytes.{IsWidth}
use Rattle.ideal_machine.specs.declared.value.Half.{Half}
use Rattle.ideal_machine.specs.declared.value.Half.TheVariants.{Object as ObjectHalf}
use Rattle.ideal_machine.specs.declared.event.Access.{Access}
use Rattle.ideal_machine.specs.declared.event.Event.TheVariants.{GetInt, SetInt, RmwInt, CasInt, GetHalf, SetHalf, CasHalf, Lock}
use Rattle.ideal_machine.specs.declared.event.Answer.TheVariants.{Found}
use Rattle.ideal_machine.specs.Memory.{Object, Memory, no_object, object_at, malloc_kind, literal_kind}
use Rattle.ideal_machine.specs.Words.{is_within, lock_access}
use Rattle.ideal_machine.specs.Refusals.{has_bytes, access_refusal, check_refusal, free_refusal, void_refusal}
use Rattle.ideal_machine.specs.Allows.{IsAccess, HasWord}
use Rattle.ideal_machine.specs.Inside.{LiesInside, AccessesLieInside, WordName, IsWordOf, HalvesLieInside, MayAccess, ChecksAreExact, MayFree, FreesAreExact}

-- ---- accesses

within_sum : (bytes offset width : ℕ) → IsTrue (is_within bytes offset width) → offset + width ≤ bytes
within_sum bytes offset width h =
    let parts = and_parts (nat_le width bytes) (nat_le offset (bytes - width)) h in
    omega (arith, leb-true width bytes parts.0, leb-true offset (bytes - width) parts.1)

pub some_width : (width : ℕ) → IsWidth width → 0 < width
some_width width h = grind (arith, h)

pub access_inside : (memory : Memory) (access : Access) → IsAccess memory access → LiesInside memory access
access_inside memory access h = by_object (slice_get memory.objects access.object) refl (within_sum _ access.offset access.width h.inside)
  where
    by_object :
        (o : Option Object) → slice_get memory.objects access.object ≡ o →
        access.offset + access.width ≤ (unwrap_or (slice_get memory.objects access.object) no_object).bytes → LiesInside memory access
    by_object None at fits =
        let none : access.offset + access.width ≤ 0 = subst (λ o. access.offset + access.width ≤ (unwrap_or o no_object).bytes) at fits in
        absurd (omega (arith, some_width access.width h.width, none))
    by_object (Some o) at fits =
        record { object = o; there = at; inside = subst (λ o. access.offset + access.width ≤ (unwrap_or o no_object).bytes) at fits }

at_access : (memory : Memory) (a b : Access) → Some a ≡ Some b → IsAccess memory a → LiesInside memory b
at_access memory a b e h = let is : a ≡ b = cc in subst (LiesInside memory) is (access_inside memory a h)

pub accesses_lie_inside : AccessesLieInside
accesses_lie_inside world memory actor (GetInt a) answer h access e = at_access memory a access e h.answers.0
accesses_lie_inside world memory actor (SetInt a value) answer h access e = at_access memory a access e h.answers.0
accesses_lie_inside world memory actor (RmwInt a operation value) answer h access e = at_access memory a access e h.answers.0
accesses_lie_inside world memory actor (CasInt a expected desired) answer h access e = at_access memory a access e h.answers.0
accesses_lie_inside world memory actor (Lock object offset) answer h access e =
    at_access memory (lock_access object offset) access e h.answers.0
accesses_lie_inside world memory actor event answer h access e = absurd (cc)

pub word_inside : (memory : Memory) (object word : ℕ) → HasWord memory object word → IsWordOf memory (record { object = object; word = word })
word_inside memory object word h = by_object (slice_get memory.objects object) refl h
  where
    by_object :
        (o : Option Object) → slice_get memory.objects object ≡ o →
        word < length (unwrap_or (slice_get memory.objects object) no_object).words → IsWordOf memory (record { object = object; word = word })
    by_object None at fits =
        let none : word < 0 = subst (λ o. word < length (unwrap_or o no_object).words) at fits in absurd (omega (arith, none))
    by_object (Some o) at fits =
        record { object = o; there = at; inside = subst (λ o. word < length (unwrap_or o no_object).words) at fits }

at_word :
    (memory : Memory) (object word : ℕ) (name : WordName) → Some (record { object = object; word = word }) ≡ Some name →
    HasWord memory object word → IsWordOf memory name
at_word memory object word name e h =
    let is : record { object = object; word = word } ≡ name = cc in subst (IsWordOf memory) is (word_inside memory object word h)

pub halves_lie_inside : HalvesLieInside
halves_lie_inside world memory actor (GetHalf object word) (Found found) h name e = at_word memory object word name e h.answers.0
halves_lie_inside world memory actor (SetHalf object word half) answer h name e = at_word memory object word name e h.answers.0
halves_lie_inside world memory actor (CasHalf object word seen new) (Found found) h name e = at_word memory object word name e h.answers.0
halves_lie_inside world memory actor (GetHalf object word) answer h name e = absurd h.answers
halves_lie_inside world memory actor (CasHalf object word seen new) answer h name e = absurd h.answers
halves_lie_inside world memory actor event answer h name e = absurd (cc)

-- ---- checks

-- a chain of tests that gives none passes each
passes : (b : Bool) (reason : Reason) (rest : Option Reason) → (if b then Some reason else rest) ≡ None → (b ≡ false) × (rest ≡ None)
passes true reason rest h = absurd (cc)
passes false reason rest h = (refl, h)

not_not : (b : Bool) → not b ≡ false → b ≡ true
not_not true h = refl
not_not false h = absurd (cc)

pass_on : (b : Bool) (reason : Reason) (rest : Option Reason) → b ≡ false → rest ≡ None → (if b then Some reason else rest) ≡ None
pass_on true reason rest is h = absurd (cc)
pass_on false reason rest is h = h

-- what is known of an object by its number
pub record IsObject (memory : Memory) (n : ℕ) : Type 0 where
  pub object : Object
  pub there : slice_get memory.objects n ≡ Some object
  pub is : object_at memory n ≡ object

object_there : (memory : Memory) (n : ℕ) → (object_at memory n).freed ≡ false → IsObject memory n
object_there memory n live = by_object (slice_get memory.objects n) refl live
  where
    by_object : (o : Option Object) → slice_get memory.objects n ≡ o → (object_at memory n).freed ≡ false → IsObject memory n
    by_object None at live =
        let freed : true ≡ false = subst (λ o. (unwrap_or o no_object).freed ≡ false) at live in absurd (cc)
    by_object (Some o) at live = record { object = o; there = at; is = ap (λ o. unwrap_or o no_object) at }

bytes_sum : (o : Object) (address width : ℕ) → has_bytes o address width ≡ true → (o.address ≤ address) × (address + width ≤ o.address + o.bytes)
bytes_sum o address width h =
    let parts = and_parts (nat_le o.address address) (is_within o.bytes (address - o.address) width) h in
    let from : o.address ≤ address = leb-true o.address address parts.0 in
    let fits = within_sum o.bytes (address - o.address) width parts.1 in
    (from, omega (arith, from, fits))

sum_bytes : (o : Object) (address width : ℕ) → o.address ≤ address → address + width ≤ o.address + o.bytes → has_bytes o address width ≡ true
sum_bytes o address width from below =
    and_from (nat_le o.address address) (is_within o.bytes (address - o.address) width) (le-leb o.address address from)
    (and_from (nat_le width o.bytes) (nat_le (address - o.address) (o.bytes - width)) (le-leb width o.bytes (omega (arith, from, below)))
    (le-leb (address - o.address) (o.bytes - width) (omega (arith, from, below))))

unwritten : (write : Bool) (kind : ℕ) → (write && (kind == literal_kind)) ≡ false → write ≡ true → kind ≢ literal_kind
unwritten true kind h e same = absurd (let t : (kind == literal_kind) ≡ true = eq-eqb kind literal_kind same in cc)
unwritten false kind h e same = absurd (cc)

written_so : (write : Bool) (kind : ℕ) → (write ≡ true → kind ≢ literal_kind) → (write && (kind == literal_kind)) ≡ false
written_so true kind h = ne_eqb kind literal_kind (h refl)
written_so false kind h = refl

granted_object :
    (o : Object) (address width : ℕ) (write : Bool) → access_refusal o address width write ≡ None →
    (o.freed ≡ false) × (has_bytes o address width ≡ true) × (address % width ≡ 0) × (write ≡ true → o.kind ≢ literal_kind)
granted_object o address width write h =
    let freed = passes o.freed FreedReason _ h in
    let bounds = passes (not (has_bytes o address width)) Bounds _ freed.1 in
    let aligned = passes (not (address % width == 0)) Alignment _ bounds.1 in
    let kind = passes (write && (o.kind == literal_kind)) ReadOnly None aligned.1 in (
      freed.0,
      not_not (has_bytes o address width) bounds.0,
      eqb-true (address % width) 0 (not_not (address % width == 0) aligned.0),
      unwritten write o.kind kind.0,
    )

access_granted :
    (o : Object) (address width : ℕ) (write : Bool) → o.freed ≡ false → o.address ≤ address → address + width ≤ o.address + o.bytes →
    address % width ≡ 0 → (write ≡ true → o.kind ≢ literal_kind) → access_refusal o address width write ≡ None
access_granted o address width write live from below aligned written =
    pass_on o.freed FreedReason _ live
    (pass_on (not (has_bytes o address width)) Bounds _ (ap not (sum_bytes o address width from below))
    (pass_on (not (address % width == 0)) Alignment _ (ap not (eq-eqb (address % width) 0 aligned))
    (pass_on (write && (o.kind == literal_kind)) ReadOnly None (written_so write o.kind written) refl)))

check_says : (memory : Memory) (half : Half) (address width : ℕ) (write : Bool) → check_refusal memory half address width write ≡ None → MayAccess memory half address width write
check_says memory (ObjectHalf n) address width write h =
    let facts = granted_object (object_at memory n) address width write h in
    let at = object_there memory n facts.0 in
    let bytes = bytes_sum (object_at memory n) address width facts.1 in
    record {
      number = n;
      object = at.object;
      named = refl;
      there = at.there;
      live = subst (λ o. o.freed ≡ false) at.is facts.0;
      from = subst (λ o. o.address ≤ address) at.is bytes.0;
      below = subst (λ o. address + width ≤ o.address + o.bytes) at.is bytes.1;
      aligned = facts.2;
      written = subst (λ o. write ≡ true → o.kind ≢ literal_kind) at.is facts.3;
    }
check_says memory half address width write h = absurd (cc)

check_grants : (memory : Memory) (half : Half) (address width : ℕ) (write : Bool) → MayAccess memory half address width write → check_refusal memory half address width write ≡ None
check_grants memory half address width write h =
    let is : object_at memory h.number ≡ h.object = ap (λ o. unwrap_or o no_object) h.there in
    subst (λ half. check_refusal memory half address width write ≡ None) (sym h.named)
    (subst (λ o. access_refusal o address width write ≡ None) (sym is)
    (access_granted h.object address width write h.live h.from h.below h.aligned h.written))

pub checks_are_exact : ChecksAreExact
checks_are_exact memory half address width write = (check_says memory half address width write, check_grants memory half address width write)

-- ---- free

own_parts : (kind address own : ℕ) → (not (kind == malloc_kind) || not (address == own)) ≡ false → (kind ≡ malloc_kind) × (address ≡ own)
own_parts kind address own h =
    let parts = neither (kind == malloc_kind) (address == own) h in (eqb-true kind malloc_kind parts.0, eqb-true address own parts.1)
  where
    neither : (a b : Bool) → (not a || not b) ≡ false → (a ≡ true) × (b ≡ true)
    neither true true h = (refl, refl)
    neither true false h = absurd (cc)
    neither false b h = absurd (cc)

own_so : (kind address own : ℕ) → kind ≡ malloc_kind → address ≡ own → (not (kind == malloc_kind) || not (address == own)) ≡ false
own_so kind address own made same =
    ap (λ b. not b || not (address == own)) (eq-eqb kind malloc_kind made) ∙ ap not (eq-eqb address own same)

free_says : (memory : Memory) (half : Half) (address : ℕ) → void_refusal memory half address ≡ None → MayFree memory half address
free_says memory (ObjectHalf n) address h =
    let o = object_at memory n in
    let freed = passes o.freed FreedReason _ h in
    let own = passes (not (o.kind == malloc_kind) || not (address == o.address)) BadFree None freed.1 in
    let facts = own_parts o.kind address o.address own.0 in
    let at = object_there memory n freed.0 in
    record {
      number = n;
      object = at.object;
      named = refl;
      there = at.there;
      live = subst (λ o. o.freed ≡ false) at.is freed.0;
      made = subst (λ o. o.kind ≡ malloc_kind) at.is facts.0;
      own = subst (λ o. address ≡ o.address) at.is facts.1;
    }
free_says memory half address h = absurd (cc)

free_grants : (memory : Memory) (half : Half) (address : ℕ) → MayFree memory half address → void_refusal memory half address ≡ None
free_grants memory half address h =
    let is : object_at memory h.number ≡ h.object = ap (λ o. unwrap_or o no_object) h.there in
    subst (λ half. void_refusal memory half address ≡ None) (sym h.named)
    (subst (λ o. free_refusal o address ≡ None) (sym is)
    (pass_on h.object.freed FreedReason _ h.live
    (pass_on (not (h.object.kind == malloc_kind) || not (address == h.object.address)) BadFree None (own_so h.object.kind address h.object.address h.made h.own) refl)))

pub frees_are_exact : FreesAreExact
frees_are_exact memory half address = (free_says memory half address, free_grants memory half address)
