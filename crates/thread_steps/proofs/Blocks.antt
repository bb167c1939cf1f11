-- Reads and writes of one frame in the block of all.
use Rattle.std.proofs.Common.{◌≡◌, ℕ, zero, suc, ◌+◌, ◌*◌, ◌<◌, ◌≤◌, List, [], ◌∷◌, length, take, drop, set, get_or, ◌-◌, refl, sym, ap, ◌∙◌, arith}
use Rattle.std.proofs.lemmas.List.{drop-set-add, take-set-le, get_or-drop, get_or_read}
use Rattle.std.specs.Prelude.{slice_index_or}
use Rattle.std.proofs.Math.Seq.{take-set-lt}
use Rattle.ideal_machine.specs.declared.value.Value.{Value}
use Rattle.ideal_machine.specs.Values.{zero_value, value_at, put_at}
use Rattle.thread_steps.specs.declared.activation.Activation.{Activation}
use Rattle.thread_steps.specs.Blocks.{frame_registers, caller_of, callers_of, no_activation}

-- ---- lists of values

pub value_at_get : (vs : List Value) (n : ℕ) → value_at vs n ≡ get_or vs n zero_value
value_at_get [] n = refl
value_at_get (x ∷ vs) zero = refl
value_at_get (x ∷ vs) (suc n) = value_at_get vs n

pub put_at_set : (vs : List Value) (n : ℕ) (v : Value) → n < length vs → set vs n v ≡ put_at vs n v
put_at_set [] n v h = absurd (omega arith)
put_at_set (x ∷ vs) zero v h = refl
put_at_set (x ∷ vs) (suc n) v h = ap (λ l. x ∷ l) (put_at_set vs n v (omega arith))

pub length_take : (n : ℕ) (vs : List Value) → length (take n vs) ≤ n
length_take zero vs = omega arith
length_take (suc n) [] = omega arith
length_take (suc n) (x ∷ vs) = omega (arith, length_take n vs)

pub length_taken : (n : ℕ) (vs : List Value) → length (take n vs) ≤ length vs
length_taken zero vs = omega arith
length_taken (suc n) [] = omega arith
length_taken (suc n) (x ∷ vs) = omega (arith, length_taken n vs)

pub get_take : (n : ℕ) (vs : List Value) (r : ℕ) → r < length (take n vs) → value_at (take n vs) r ≡ value_at vs r
get_take zero vs r h = absurd (omega arith)
get_take (suc n) [] r h = absurd (omega arith)
get_take (suc n) (x ∷ vs) zero h = refl
get_take (suc n) (x ∷ vs) (suc r) h = get_take n vs r (omega arith)

pub get_drop : (n : ℕ) (vs : List Value) (r : ℕ) → value_at (drop n vs) r ≡ value_at vs (n + r)
get_drop n vs r = value_at_get (drop n vs) r ∙ get_or-drop n vs r zero_value ∙ sym (value_at_get vs (n + r))

-- ---- one frame

module _ (rs : List Value) (depth values : ℕ) where
  abbrev frame : List Value
  frame = frame_registers rs depth values

  abbrev whole : List Value
  whole = take 256 (drop (256 * depth) rs)

  pub frame_short : length frame ≤ 256
  frame_short = omega (arith, length_taken values whole, length_take 256 (drop (256 * depth) rs))

  pub index_within : (base d : ℕ) → length rs ≡ 262144 → depth < 1024 → base ≡ 256 * depth → d < length frame → base + d < length rs
  index_within base d long deep start lt = omega (arith, frame_short, long, deep, start, lt)

  -- a register of the frame is one of the block
  pub frame_value : (d : ℕ) → d < length frame → value_at frame d ≡ value_at rs (256 * depth + d)
  frame_value d lt =
      get_take values whole d lt ∙ get_take 256 (drop (256 * depth) rs) d (omega (arith, lt, length_taken values whole)) ∙ get_drop (256 * depth) rs d

  pub frame_read : (base d : ℕ) (v : Value) → length rs ≡ 262144 → depth < 1024 → base ≡ 256 * depth → d < length frame → v ≡ get_or rs (base + d) v → v ≡ value_at frame d
  frame_read base d v long deep start lt e =
      get_or_read rs (base + d) v (index_within base d long deep start lt) e zero_value
      ∙ sym (value_at_get rs (base + d)) ∙ ap (λ n. value_at rs (n + d)) start ∙ sym (frame_value d lt)

  -- a write of it is one there
  pub frame_write : (base d : ℕ) (v : Value) → base ≡ 256 * depth → d < length frame → frame_registers (set rs (base + d) v) depth values ≡ put_at frame d v
  frame_write base d v start lt =
      let short : d < 256 = omega (arith, frame_short, lt) in
      let few : d < values = omega (arith, length_take values whole, lt) in
      ap (λ n. frame_registers (set rs (n + d) v) depth values) start
      ∙ ap (λ l. take values (take 256 l)) (drop-set-add (256 * depth) rs d v)
      ∙ ap (λ l. take values l) (take-set-lt 256 (drop (256 * depth) rs) d v short)
      ∙ take-set-lt values whole d v few
      ∙ put_at_set frame d v lt

-- ---- the frames below

-- a write past a frame leaves it
below_same : (rs : List Value) (depth values i : ℕ) (v : Value) → 256 ≤ i → frame_registers (set rs (256 * depth + i) v) depth values ≡ frame_registers rs depth values
below_same rs depth values i v le =
    ap (λ l. take values (take 256 l)) (drop-set-add (256 * depth) rs i v) ∙ ap (λ l. take values l) (take-set-le 256 (drop (256 * depth) rs) i v le)

pub frame_same : (rs : List Value) (depth values n : ℕ) (v : Value) → 256 * depth + 256 ≤ n → frame_registers (set rs n v) depth values ≡ frame_registers rs depth values
frame_same rs depth values n v le =
    let i : ℕ = n - 256 * depth in
    let there : n ≡ 256 * depth + i = omega (arith, le) in
    ap (λ m. frame_registers (set rs m v) depth values) there ∙ below_same rs depth values i v (omega (arith, le))

pub callers_same : (waiting : List Activation) (rs : List Value) (depth n : ℕ) (v : Value) → 256 * depth ≤ n → callers_of waiting (set rs n v) depth ≡ callers_of waiting rs depth
callers_same waiting rs zero n v le = refl
callers_same waiting rs (suc depth) n v le =
    let a : Activation = slice_index_or waiting depth no_activation in
    let low : 256 * depth + 256 ≤ n = omega (arith, le) in
    let rest : 256 * depth ≤ n = omega (arith, le) in
    ap (λ l. record { frame = record { function = a.function; index = a.index; called_at = a.called_at; registers = l }; result = a.result } ∷ callers_of waiting (set rs n v) depth)
    (frame_same rs depth a.values n v low)
    ∙ ap (λ cs. caller_of rs depth a ∷ cs) (callers_same waiting rs depth n v rest)
