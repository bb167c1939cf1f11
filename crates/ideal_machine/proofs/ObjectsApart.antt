-- Two objects in use share no byte.
use Rattle.std.proofs.Common.{◌≡◌, ⊎_elim, ℕ, zero, suc, ◌+◌, ◌*◌, ◌<◌, ◌≤◌, List, [], ◌∷◌, ◌++◌, length, map, Bool, true, false, not, ◌&&◌, ◌||◌, Option, Some, None, refl, sym, ◌∙◌, ap, subst, arith}
use Rattle.std.proofs.lemmas.Bool.{cases_eq, ne_eqb, lt-ltb, cases_order}
use Rattle.std.proofs.lemmas.List.Sums.{sum_by-cons}
use Rattle.std.proofs.lemmas.Grind.{div_ceil_times}
use Rattle.std.specs.Prelude.{slice_get, option_map, take, sum_by, nat_lt, ◌==◌, if◌then◌else◌}
use Rattle.std.specs.List.{enumerate_from}
use Rattle.filc_num.specs.Statics.{payload_words_of}
use Rattle.filc_num.specs.StaticDefs.{PlainStatic}
use Rattle.ideal_machine.specs.declared.value.Half.{Half}
use Rattle.ideal_machine.specs.declared.value.Half.TheVariants.{Object as ObjectHalf}
use Rattle.ideal_machine.specs.declared.value.Kept.{Kept}
use Rattle.ideal_machine.specs.declared.value.Kept.TheVariants.{Plain, Pair as PairKept}
use Rattle.ideal_machine.specs.Memory.{Word, Object, Memory, World}
use Rattle.ideal_machine.specs.Beginning.{words_of_static, static_object}
use Rattle.ideal_machine.specs.Words.{with_element, with_word, with_half, with_pair}
use Rattle.ideal_machine.specs.Names.{extent_of, overlaps, object_under}
use Rattle.ideal_machine.specs.Effects.{new_object, with_freed}
use Rattle.ideal_machine.specs.Apart.{TakesUp, IsInUse, AreApart, StaticsAreApart, ObjectsStayApart}
use Rattle.ideal_machine.proofs.Elements.{get-with_same, get-with_other}
use Rattle.ideal_machine.proofs.EffectCases.{OfEachChange, of_effect}

-- ---- changes that take no byte and bring nothing back into use

pub record TakesNoMore (old new : Object) : Type 0 where
  pub address : new.address ≡ old.address
  pub bytes : new.bytes ≡ old.bytes
  pub in_use : IsInUse new → IsInUse old

takes_back : (old new : Object) → TakesNoMore old new → (byte : ℕ) → TakesUp new byte → TakesUp old byte
takes_back old new less byte h = record {
  from = subst (λ (a : ℕ). a ≤ byte) less.address h.from;
  below = subst (λ (b : ℕ). byte < old.address + (if b == 0 then 1 else b)) less.bytes
      (subst (λ (a : ℕ). byte < a + extent_of new) less.address h.below);
}

takes_same : (o : Object) → TakesNoMore o o
takes_same o = record { address = refl; bytes = refl; in_use = λ h. h }

-- where an element of the changed list came from
pub record CameFrom (objects : List Object) (n : ℕ) (new : Object) : Type 0 where
  pub old : Object
  pub there : slice_get objects n ≡ Some old
  pub less : TakesNoMore old new

apart_from :
    (objects after : List Object) → ((n : ℕ) (new : Object) → slice_get after n ≡ Some new → CameFrom objects n new) →
    AreApart objects → AreApart after
apart_from objects after came apart n m a b ne at_a at_b use_a use_b byte take_a take_b =
    let x = came n a at_a in
    let y = came m b at_b in
    apart n m x.old y.old ne x.there y.there (x.less.in_use use_a) (y.less.in_use use_b) byte
    (takes_back x.old a x.less byte take_a) (takes_back y.old b y.less byte take_b)

came_changed :
    (objects : List Object) (n : ℕ) (change : Object → Object) → ((o : Object) → TakesNoMore o (change o)) → (o : Option Object) →
    slice_get objects n ≡ o → (new : Object) → option_map change o ≡ Some new → CameFrom objects n new
came_changed objects n change less None at new e = absurd (cc)
came_changed objects n change less (Some o) at new e =
    let is : change o ≡ new = cc in
    record { old = o; there = at; less = subst (λ new. TakesNoMore o new) is (less o) }

apart_changed :
    (objects : List Object) (n : ℕ) (change : Object → Object) → ((o : Object) → TakesNoMore o (change o)) → AreApart objects →
    AreApart (with_element objects n change)
apart_changed objects n change less =
    apart_from objects (with_element objects n change)
    (λ k new e.
    ⊎_elim
    (λ same.
    let at : slice_get (with_element objects n change) n ≡ Some new = subst (λ i. slice_get (with_element objects n change) i ≡ Some new) same e in
    subst (λ i. CameFrom objects i new) (sym same)
    (came_changed objects n change less (slice_get objects n) refl new (sym (get-with_same objects n change) ∙ at)))
    (λ other. record { old = new; there = sym (get-with_other objects n k change other) ∙ e; less = takes_same new })
    (cases_eq k n))

-- ---- a new object

-- an element of the new list: one of the old, perhaps covered, or the new one
data IsOf (objects : List Object) (new : Object) (n : ℕ) (object : Object) : Type 0 where
  earlier : (old : Object) → slice_get objects n ≡ Some old → object ≡ object_under new old → IsOf objects new n object
  last : n ≡ length objects → object ≡ new → IsOf objects new n object

element_of :
    (objects : List Object) (new : Object) (n : ℕ) (object : Object) →
    slice_get (map (object_under new) objects ++ new ∷ []) n ≡ Some object → IsOf objects new n object
element_of [] new zero object e = last refl (cc)
element_of [] new (suc n) object e = absurd (cc)
element_of (o ∷ objects) new zero object e = earlier o refl (cc)
element_of (o ∷ objects) new (suc n) object e = later (element_of objects new n object e)
  where
    later : IsOf objects new n object → IsOf (o ∷ objects) new (suc n) object
    later (earlier old at is) = earlier old at is
    later (last at is) = last (omega (arith, at)) is

use_before : (new old : Object) → IsInUse (object_under new old) → IsInUse old
use_before new old h = record { live = h.live; seen = or_left old.covered _ h.seen }
  where
    or_left : (a b : Bool) → (a || b) ≡ false → a ≡ false
    or_left true b h = absurd (cc)
    or_left false b h = refl

no_overlap : (freed over covered : Bool) → freed ≡ false → (covered || (not freed && over)) ≡ false → over ≡ false
no_overlap true over covered live h = absurd (cc)
no_overlap false over true live h = absurd (cc)
no_overlap false over false live h = h

-- an object that a new one leaves in use shares no byte with it
uncovered : (new old : Object) → IsInUse (object_under new old) → (byte : ℕ) → TakesUp old byte → ¬ TakesUp new byte
uncovered new old h byte take_old take_new =
    let first : nat_lt old.address (new.address + extent_of new) ≡ true =
    lt-ltb old.address (new.address + extent_of new) (omega (arith, take_old.from, take_new.below)) in
    let second : nat_lt new.address (old.address + extent_of old) ≡ true =
    lt-ltb new.address (old.address + extent_of old) (omega (arith, take_new.from, take_old.below)) in
    let over : overlaps old new ≡ true = ap (λ b. b && nat_lt new.address (old.address + extent_of old)) first ∙ second in
    let none : overlaps old new ≡ false = no_overlap old.freed (overlaps old new) old.covered h.live h.seen in
    absurd (cc)

apart_added : (objects : List Object) (new : Object) → AreApart objects → AreApart (map (object_under new) objects ++ new ∷ [])
apart_added objects new apart n m a b ne at_a at_b use_a use_b byte take_a take_b =
    both (element_of objects new n a at_a) (element_of objects new m b at_b)
  where
    in_use : (old object : Object) → object ≡ object_under new old → IsInUse object → IsInUse (object_under new old)
    in_use old object is h = subst IsInUse is h

    takes : (old object : Object) → object ≡ object_under new old → TakesUp object byte → TakesUp old byte
    takes old object is h =
        let t : TakesUp (object_under new old) byte = subst (λ o. TakesUp o byte) is h in record { from = t.from; below = t.below }

    takes_new : (object : Object) → object ≡ new → TakesUp object byte → TakesUp new byte
    takes_new object is h = subst (λ o. TakesUp o byte) is h

    both : IsOf objects new n a → IsOf objects new m b → ⊥
    both (earlier x at_x is_x) (earlier y at_y is_y) =
        apart n m x y ne at_x at_y (use_before new x (in_use x a is_x use_a)) (use_before new y (in_use y b is_y use_b)) byte
        (takes x a is_x take_a) (takes y b is_y take_b)
    both (earlier x at_x is_x) (last at_y is_y) =
        uncovered new x (in_use x a is_x use_a) byte (takes x a is_x take_a) (takes_new b is_y take_b)
    both (last at_x is_x) (earlier y at_y is_y) =
        uncovered new y (in_use y b is_y use_b) byte (takes y b is_y take_b) (takes_new a is_x take_a)
    both (last at_x is_x) (last at_y is_y) = ne (at_x ∙ sym at_y)

-- ---- every event

abbrev StaysApart : Memory → Memory → Type 0
StaysApart memory after = AreApart memory.objects → AreApart after.objects

word_apart : (memory : Memory) (object word : ℕ) (change : Word → Word) → StaysApart memory (with_word memory object word change)
word_apart memory object word change =
    apart_changed memory.objects object _ (λ o. record { address = refl; bytes = refl; in_use = λ h. record { live = h.live; seen = h.seen } })

half_apart : (memory : Memory) (object word : ℕ) (half : Kept) → StaysApart memory (with_half memory object word half)
half_apart memory object word (Plain half) = word_apart memory object word _
half_apart memory object word (PairKept address half) = word_apart (with_pair memory address half) object word _

not_in_use : (o : Object) → IsInUse (record o { freed = true }) → IsInUse o
not_in_use o h = absurd (let live : true ≡ false = h.live in cc)

freed_apart : (memory : Memory) (half : Half) → StaysApart memory (with_freed memory half)
freed_apart memory (ObjectHalf n) =
    apart_changed memory.objects n _ (λ o. record { address = refl; bytes = refl; in_use = not_in_use o })
freed_apart memory half = λ h. h

apart_cases : (memory : Memory) → OfEachChange (StaysApart memory) memory
apart_cases memory = record {
  same = λ h. h;
  integer = λ access value. word_apart memory _ _ _;
  half = half_apart memory;
  new = λ bytes kind address. apart_added memory.objects (new_object bytes kind address);
  freed = freed_apart memory;
  slot = λ n change h. h;
  byte = λ byte h. h;
  input = λ h. h;
  cycle = λ cycle h. h;
  finish = λ finish h. h;
}

pub objects_stay_apart : ObjectsStayApart
objects_stay_apart memory actor event answer = of_effect (StaysApart memory) memory (apart_cases memory) actor event answer

-- ---- static objects

pub static_at :
    (world : World) (all : List PlainStatic) (from : ℕ) (statics : List PlainStatic) (n : ℕ) (o : Object) →
    slice_get (map (λ (s : ℕ × PlainStatic). static_object world all s.0 s.1) (enumerate_from from statics)) n ≡ Some o →
    (s : PlainStatic) × (slice_get statics n ≡ Some s) × (o ≡ static_object world all (from + n) s)
static_at world all from [] n o e = absurd (cc)
static_at world all from (s ∷ statics) zero o e =
    let is : static_object world all from s ≡ o = cc in
    let same : from ≡ from + 0 = omega arith in
    (s, refl, sym is ∙ ap (λ k. static_object world all k s) same)
static_at world all from (s ∷ statics) (suc n) o e =
    let h = static_at world all (from + 1) statics n o e in
    let same : from + 1 + n ≡ from + suc n = omega arith in
    (h.0, h.1, h.2 ∙ ap (λ k. static_object world all k h.0) same)

-- what stands before a later static holds an earlier one
sum_before :
    (f : PlainStatic → ℕ) (statics : List PlainStatic) (n m : ℕ) (s : PlainStatic) → slice_get statics n ≡ Some s → n < m →
    sum_by f (take n statics) + f s ≤ sum_by f (take m statics)
sum_before f [] n m s at lt = absurd (cc)
sum_before f (x ∷ statics) zero zero s at lt = absurd (omega (arith, lt))
sum_before f (x ∷ statics) zero (suc m) s at lt =
    let is : x ≡ s = cc in
    let same : f x ≡ f s = ap f is in
    omega (arith, sum_by-cons f x (take m statics), same)
sum_before f (x ∷ statics) (suc n) zero s at lt = absurd (omega (arith, lt))
sum_before f (x ∷ statics) (suc n) (suc m) s at lt =
    omega (arith, sum_before f statics n m s at (omega (arith, lt)), sum_by-cons f x (take n statics), sum_by-cons f x (take m statics))

extent_fits : (bytes table : ℕ) → (if bytes == 0 then 1 else bytes) ≤ 8 * (5 + payload_words_of bytes + table)
extent_fits zero table = omega arith
extent_fits (suc n) table =
    let some : (suc n == 0) ≡ false = ne_eqb (suc n) 0 (λ h. omega (arith, h)) in
    subst (λ b. (if b then 1 else suc n) ≤ 8 * (5 + payload_words_of (suc n) + table)) (sym some)
    (omega (arith, (div_ceil_times (suc n) 8 (omega arith)).0))

statics_in_order :
    (world : World) (statics : List PlainStatic) (n m : ℕ) (s t : PlainStatic) → slice_get statics n ≡ Some s → n < m →
    (static_object world statics n s).address + extent_of (static_object world statics n s) ≤ (static_object world statics m t).address
statics_in_order world statics n m s t at lt =
    let before = sum_before words_of_static statics n m s at lt in
    let room = extent_fits s.bytes (if s.literal then 0 else payload_words_of s.bytes) in
    omega (arith, before, room)

pub statics_are_apart : StaticsAreApart
statics_are_apart world statics main n m a b ne at_a at_b use_a use_b byte take_a take_b =
    ⊎_elim (λ same. absurd (ne same))
    (⊎_elim
    (λ lt. in_order n m a b (static_at world statics 0 statics n a at_a) (static_at world statics 0 statics m b at_b) lt take_a take_b)
    (λ gt. in_order m n b a (static_at world statics 0 statics m b at_b) (static_at world statics 0 statics n a at_a) gt take_b take_a))
    (cases_order n m)
  where
    in_order :
        (n m : ℕ) (a b : Object) →
        ((s : PlainStatic) × (slice_get statics n ≡ Some s) × (a ≡ static_object world statics (0 + n) s)) →
        ((t : PlainStatic) × (slice_get statics m ≡ Some t) × (b ≡ static_object world statics (0 + m) t)) → n < m →
        TakesUp a byte → ¬ TakesUp b byte
    in_order n m a b s t lt take_a take_b =
        let zero_n : 0 + n ≡ n = omega arith in
        let zero_m : 0 + m ≡ m = omega arith in
        let is_a : a ≡ static_object world statics n s.0 = s.2 ∙ ap (λ k. static_object world statics k s.0) zero_n in
        let is_b : b ≡ static_object world statics m t.0 = t.2 ∙ ap (λ k. static_object world statics k t.0) zero_m in
        let x = subst (λ o. TakesUp o byte) is_a take_a in
        let y = subst (λ o. TakesUp o byte) is_b take_b in
        omega (arith, statics_in_order world statics n m s.0 t.0 s.1 lt, x.below, y.from)
