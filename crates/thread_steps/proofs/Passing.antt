-- A callee's frame, as it is filled register by register, is that with which its function begins.
use Rattle.std.proofs.Common.{◌≡◌, ℕ, zero, suc, ◌+◌, ◌-◌, ◌*◌, ◌<◌, ◌≤◌, min, List, [], ◌∷◌, ◌++◌, map, length, take, drop, set, replicate, ◌≢◌, ◌⊎◌, inl, inr, Bool, true, false, refl, sym, ap, ◌∙◌, subst, arith, rules}
use Rattle.std.specs.Prelude.{nat_lt, slice_index_or, if◌then◌else◌}
use Rattle.std.proofs.lemmas.List.{length-take, length-drop, get_or-set_same, get_or-set_other}
use Rattle.whole_code.specs.Plain.{PlainFunction}
use Rattle.whole_code.specs.Operands.{numbers_from}
use Rattle.ideal_machine.specs.declared.value.Value.{Value}
use Rattle.ideal_machine.specs.Values.{zero_value, value_at}
use Rattle.whole_thread.specs.Standing.{first_registers}
use Rattle.thread_steps.specs.declared.activation.Activation.{Activation}
use Rattle.thread_steps.specs.Blocks.{frame_registers, caller_of, callers_of, no_activation}
use Rattle.thread_steps.specs.Passing.{callee_register, first_register}
use Rattle.thread_steps.proofs.Blocks.{value_at_get, frame_value, get_take}
use Rattle.thread_steps.proofs.Standing.{first_long}

-- ---- lists of values

-- lists of one length with the same values
pub same_values : (xs ys : List Value) → length xs ≡ length ys → ((k : ℕ) → k < length xs → value_at xs k ≡ value_at ys k) → xs ≡ ys
same_values [] [] long same = refl
same_values [] (y ∷ ys) long same = absurd (omega (arith, long))
same_values (x ∷ xs) [] long same = absurd (omega (arith, long))
same_values (x ∷ xs) (y ∷ ys) long same =
    let first : x ≡ y = same zero (omega arith) in
    let rest : xs ≡ ys = same_values xs ys (omega (arith, long)) (λ k lt. same (suc k) (omega (arith, lt))) in
    ap (λ v. v ∷ xs) first ∙ ap (λ l. y ∷ l) rest

value_first : (xs ys : List Value) (k : ℕ) → k < length xs → value_at (xs ++ ys) k ≡ value_at xs k
value_first [] ys k lt = absurd (omega (arith, lt))
value_first (x ∷ xs) ys zero lt = refl
value_first (x ∷ xs) ys (suc k) lt = value_first xs ys k (omega (arith, lt))

value_zero : (n k : ℕ) → value_at (replicate n zero_value) k ≡ zero_value
value_zero zero k = refl
value_zero (suc n) zero = refl
value_zero (suc n) (suc k) = value_zero n k

value_second : (xs : List Value) (n k : ℕ) → length xs ≤ k → value_at (xs ++ replicate n zero_value) k ≡ zero_value
value_second [] n k le = value_zero n k
value_second (x ∷ xs) n zero le = absurd (omega (arith, le))
value_second (x ∷ xs) n (suc k) le = value_second xs n k (omega (arith, le))

value_mapped : (g : ℕ → Value) (first count k : ℕ) → k < count → value_at (map g (numbers_from first count)) k ≡ g (first + k)
value_mapped g first zero k lt = absurd (omega (arith, lt))
value_mapped g first (suc count) zero lt = ap g (omega arith)
value_mapped g first (suc count) (suc k) lt =
    let there : first + 1 + k ≡ first + suc k = omega arith in
    value_mapped g (first + 1) count k (omega (arith, lt)) ∙ ap g there

length_mapped : (g : ℕ → Value) (first count : ℕ) → length (map g (numbers_from first count)) ≡ count
length_mapped g first zero = refl
length_mapped g first (suc count) = ap suc (length_mapped g (first + 1) count)

-- ---- frames by their registers

frame_long : (rs : List Value) (depth values : ℕ) → length (frame_registers rs depth values) ≡ min values (min 256 (length rs - 256 * depth))
frame_long rs depth values =
    length-take values (take 256 (drop (256 * depth) rs))
    ∙ ap (λ n. min values n) (length-take 256 (drop (256 * depth) rs))
    ∙ ap (λ n. min values (min 256 n)) (length-drop (256 * depth) rs)

pub frame_full : (rs : List Value) (depth values : ℕ) → length rs ≡ 262144 → depth < 1024 → values ≤ 256 → length (frame_registers rs depth values) ≡ values
frame_full rs depth values long deep few = omega (arith, frame_long rs depth values, long, deep, few)

pub frame_ext :
    (rs ts : List Value) (depth values : ℕ) → length rs ≡ length ts → ((r : ℕ) → r < 256 → value_at rs (256 * depth + r) ≡ value_at ts (256 * depth + r)) →
    frame_registers rs depth values ≡ frame_registers ts depth values
frame_ext rs ts depth values long same =
    let lengths : length (frame_registers rs depth values) ≡ length (frame_registers ts depth values) =
    frame_long rs depth values ∙ ap (λ n. min values (min 256 (n - 256 * depth))) long ∙ sym (frame_long ts depth values) in
    same_values (frame_registers rs depth values) (frame_registers ts depth values) lengths (λ k lt.
    let short : k < 256 = omega (arith, lt, frame_long rs depth values) in
    let there : k < length (frame_registers ts depth values) = omega (arith, lt, lengths) in
    frame_value rs depth values k lt ∙ same k short ∙ sym (frame_value ts depth values k there))

pub callers_ext :
    (waiting : List Activation) (rs ts : List Value) (depth : ℕ) → length rs ≡ length ts → ((k : ℕ) → k < 256 * depth → value_at rs k ≡ value_at ts k) →
    callers_of waiting rs depth ≡ callers_of waiting ts depth
callers_ext waiting rs ts zero long same = refl
callers_ext waiting rs ts (suc depth) long same =
    let a : Activation = slice_index_or waiting depth no_activation in
    ap (λ l. record { frame = record { function = a.function; index = a.index; called_at = a.called_at; registers = l }; result = a.result } ∷ callers_of waiting rs depth)
    (frame_ext rs ts depth a.values long (λ r lt. same (256 * depth + r) (omega (arith, lt))))
    ∙ ap (λ cs. caller_of ts depth a ∷ cs) (callers_ext waiting rs ts depth long (λ k lt. same k (omega (arith, lt))))

-- ---- order

pub lt_true : (a b : ℕ) → a < b → nat_lt a b ≡ true
lt_true a b h = search rules

pub lt_holds : (a b : ℕ) → nat_lt a b ≡ true → a < b
lt_holds a b e = search rules

pub lt_fails : (a b : ℕ) → nat_lt a b ≡ false → b ≤ a
lt_fails a b e = search rules

-- ---- writes

pub value_set_same : (rs : List Value) (n : ℕ) (v : Value) → n < length rs → value_at (set rs n v) n ≡ v
value_set_same rs n v lt = value_at_get (set rs n v) n ∙ get_or-set_same rs n v zero_value lt

pub value_set_other : (rs : List Value) (n m : ℕ) (v : Value) → m ≢ n → value_at (set rs n v) m ≡ value_at rs m
value_set_other rs n m v other = value_at_get (set rs n v) m ∙ get_or-set_other rs n m v zero_value other ∙ sym (value_at_get rs m)

passed_by_same : (b : Bool) (rs ts : List Value) (from given k : ℕ) → nat_lt k given ≡ b → (k < given → value_at rs (from + k) ≡ value_at ts (from + k)) →
    (if b then value_at rs (from + k) else zero_value) ≡ (if b then value_at ts (from + k) else zero_value)
passed_by_same true rs ts from given k e same = same (lt_holds k given e)
passed_by_same false rs ts from given k e same = refl

-- what is passed is the same of blocks with the same arguments
pub passed_same : (rs ts : List Value) (from given k : ℕ) → (k < given → value_at rs (from + k) ≡ value_at ts (from + k)) → callee_register rs from given k ≡ callee_register ts from given k
passed_same rs ts from given k same = passed_by_same (nat_lt k given) rs ts from given k refl same

less_or_same : (n k : ℕ) → n < k + 1 → (n < k) ⊎ (n ≡ k)
less_or_same n k lt = grind arith

pub all_below : (P : ℕ → Type 0) (k : ℕ) → ((n : ℕ) → n < k → P n) → P k → (n : ℕ) → n < k + 1 → P n
all_below P k before here n lt = elim (less_or_same n k lt) [ inl less ↦ before n less | inr same ↦ subst P (sym same) here ]

-- ---- a callee's frame

module _ (old : List Value) (depth first count : ℕ) (f : PlainFunction) (values : ℕ) where
  abbrev frame : List Value
  frame = frame_registers old depth values

  abbrev arguments : List Value
  arguments = map (λ r. value_at frame r) (numbers_from first count)

  abbrev head : List Value
  head = take f.parameters arguments

  head_long : length head ≡ min f.parameters count
  head_long = length-take f.parameters arguments ∙ ap (λ n. min f.parameters n) (length_mapped (λ r. value_at frame r) first count)

  -- an argument
  passed_argument : (k : ℕ) → k < min f.parameters count → ((i : ℕ) → i < count → first + i < length frame) →
      value_at (head ++ replicate f.values zero_value) k ≡ value_at old (256 * depth + first + k)
  passed_argument k lt have =
      let within : k < count = omega (arith, lt) in
      let there : 256 * depth + (first + k) ≡ 256 * depth + first + k = omega arith in
      value_first head (replicate f.values zero_value) k (omega (arith, lt, head_long))
      ∙ get_take f.parameters arguments k (omega (arith, lt, head_long))
      ∙ value_mapped (λ r. value_at frame r) first count k within
      ∙ frame_value old depth values (first + k) (have k within)
      ∙ ap (λ n. value_at old n) there

  passed_by : (b : Bool) (k : ℕ) → nat_lt k (min f.parameters count) ≡ b → ((i : ℕ) → i < count → first + i < length frame) →
      (if b then value_at old (256 * depth + first + k) else zero_value) ≡ value_at (head ++ replicate f.values zero_value) k
  passed_by true k e have = sym (passed_argument k (lt_holds k (min f.parameters count) e) have)
  passed_by false k e have = sym (value_second head f.values k (omega (arith, head_long, lt_fails k (min f.parameters count) e)))

  -- the frame that is filled so is the callee's first
  pub frame_filled : (new : List Value) → length new ≡ 262144 → depth + 1 < 1024 → f.values ≤ 256 →
      ((i : ℕ) → i < count → first + i < length frame) →
      ((k : ℕ) → k < f.values → value_at new (256 * depth + 256 + k) ≡ callee_register old (256 * depth + first) (min f.parameters count) k) →
      frame_registers new (suc depth) f.values ≡ first_registers f arguments
  frame_filled new long deep few have filled =
      let full : length (frame_registers new (suc depth) f.values) ≡ f.values = frame_full new (suc depth) f.values long (omega (arith, deep)) few in
      let both : length (frame_registers new (suc depth) f.values) ≡ length (first_registers f arguments) = full ∙ sym (first_long f arguments) in
      same_values (frame_registers new (suc depth) f.values) (first_registers f arguments) both (λ k lt.
      let k_lt : k < f.values = omega (arith, lt, full) in
      let there : 256 * suc depth + k ≡ 256 * depth + 256 + k = omega arith in
      frame_value new (suc depth) f.values k lt
      ∙ ap (λ n. value_at new n) there
      ∙ filled k k_lt
      ∙ passed_by (nat_lt k (min f.parameters count)) k refl have
      ∙ sym (get_take f.values (head ++ replicate f.values zero_value) k (omega (arith, k_lt, first_long f arguments))))

-- ---- a thread's first frame

begun_by : (b : Bool) (f : PlainFunction) (argument : Value) (k : ℕ) → nat_lt k (min f.parameters 1) ≡ b →
    (if b then argument else zero_value) ≡ value_at (take f.parameters (argument ∷ []) ++ replicate f.values zero_value) k
begun_by true f argument k e =
    let lt : k < min f.parameters 1 = lt_holds k (min f.parameters 1) e in
    let zero_k : 0 ≡ k = omega (arith, lt) in
    let long : length (take f.parameters (argument ∷ [])) ≡ min f.parameters 1 = length-take f.parameters (argument ∷ []) in
    ap (λ n. value_at (argument ∷ []) n) zero_k
    ∙ sym (get_take f.parameters (argument ∷ []) k (omega (arith, lt, long)))
    ∙ sym (value_first (take f.parameters (argument ∷ [])) (replicate f.values zero_value) k (omega (arith, lt, long)))
begun_by false f argument k e =
    let long : length (take f.parameters (argument ∷ [])) ≡ min f.parameters 1 = length-take f.parameters (argument ∷ []) in
    sym (value_second (take f.parameters (argument ∷ [])) f.values k (omega (arith, long, lt_fails k (min f.parameters 1) e)))

-- the frame that is filled so is the first one of a thread
pub first_filled : (f : PlainFunction) (argument : Value) (rs : List Value) → length rs ≡ 262144 → f.values ≤ 256 →
    ((k : ℕ) → k < f.values → value_at rs k ≡ first_register argument (min f.parameters 1) k) →
    frame_registers rs 0 f.values ≡ first_registers f (argument ∷ [])
first_filled f argument rs long few filled =
    let full : length (frame_registers rs 0 f.values) ≡ f.values = frame_full rs 0 f.values long (omega arith) few in
    let both : length (frame_registers rs 0 f.values) ≡ length (first_registers f (argument ∷ [])) = full ∙ sym (first_long f (argument ∷ [])) in
    same_values (frame_registers rs 0 f.values) (first_registers f (argument ∷ [])) both (λ k lt.
    let k_lt : k < f.values = omega (arith, lt, full) in
    let there : 256 * 0 + k ≡ k = omega arith in
    frame_value rs 0 f.values k lt
    ∙ ap (λ n. value_at rs n) there
    ∙ filled k k_lt
    ∙ begun_by (nat_lt k (min f.parameters 1)) f argument k refl
    ∙ sym (get_take f.values (take f.parameters (argument ∷ []) ++ replicate f.values zero_value) k (omega (arith, k_lt, first_long f (argument ∷ [])))))
