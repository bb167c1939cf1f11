-- Where the registers of the frames stand in the block, from the innermost frame on.
use Rattle.std.proofs.Common.{◌≡◌, ℕ, zero, suc, ◌+◌, ◌-◌, ◌*◌, ◌<◌, ◌≤◌, min, List, [], ◌∷◌, length, take, drop, set, get_or, Bool, true, false, Option, refl, sym, ap, ◌∙◌, arith, rules}
use Rattle.std.specs.Prelude.{nat_lt, slice_index_or, if◌then◌else◌}
use Rattle.std.proofs.lemmas.List.{length-take-le, length-take, length-drop, drop-set-lt, get_or_read}
use Rattle.ideal_machine.specs.declared.value.Half.TheVariants.{Freed}
use Rattle.ideal_machine.specs.declared.value.Value.{Value}
use Rattle.ideal_machine.specs.declared.event.Access.{Access}
use Rattle.ideal_machine.specs.Values.{zero_value, value_at, put_at}
use Rattle.whole_thread.specs.declared.stage.Stage.{Stage}
use Rattle.whole_thread.specs.Standing.{Caller}
use Rattle.whole_thread.specs.Thread.{Thread}
use Rattle.thread_steps.specs.declared.activation.Activation.{Activation}
use Rattle.thread_steps.specs.Blocks.{frame_registers, caller_of, callers_of, no_activation}
use Rattle.thread_steps.specs.Registers.{count_in, register_in, caller_with, callers_with, thread_with, thread_with_freed, values_in_frame, waiting_count, block_count, block_index}
use Rattle.thread_steps.proofs.Blocks.{value_at_get, frame_value, frame_write, callers_same}
use Rattle.thread_steps.proofs.Passing.{lt_true, lt_holds, lt_fails}

-- an activation of those that wait
abbrev pub waiting_at : List Activation → ℕ → Activation
waiting_at waiting depth = slice_index_or waiting depth no_activation

-- ---- how many there are

few_in_frame : (values : ℕ) → values_in_frame values ≤ 256
few_in_frame values = omega arith

-- one more activation that waits
pub waiting_more :
    (waiting : List Activation) (k : ℕ) (a : Activation) → k < length waiting → a ≡ get_or waiting k a →
    waiting_count waiting (k + 1) ≡ values_in_frame a.values + waiting_count waiting k
waiting_more waiting k a lt read =
    let one : k + 1 ≡ suc k = omega arith in
    ap (λ n. waiting_count waiting n) one
    ∙ ap (λ (x : Activation). values_in_frame x.values + waiting_count waiting k) (sym (get_or_read waiting k a lt read no_activation))

-- a register past those of the innermost frame is one of an activation that waits
pub deeper : (waiting : List Activation) (depth values r : ℕ) → r < block_count waiting depth values → values_in_frame values ≤ r → 0 < depth
deeper waiting zero values r lt past = absurd (omega (arith, lt, past))
deeper waiting (suc depth) values r lt past = omega arith

-- ---- where a register is

pub index_here : (waiting : List Activation) (depth values r : ℕ) → r < values_in_frame values → 256 * depth + r ≡ block_index waiting depth values r
index_here waiting zero values r lt = omega arith
index_here waiting (suc depth) values r lt =
    ap (λ (b : Bool). if b then 256 * suc depth + r else block_index waiting depth (waiting_at waiting depth).values (r - values_in_frame values))
    (sym (lt_true r (values_in_frame values) lt))

pub not_less : (a b : ℕ) → b ≤ a → nat_lt a b ≡ false
not_less a b le = search rules

pub index_past :
    (waiting : List Activation) (depth values r n : ℕ) (a : Activation) → depth ≡ suc n → values_in_frame values ≤ r → n < length waiting → a ≡ get_or waiting n a →
    block_index waiting n a.values (r - values_in_frame values) ≡ block_index waiting depth values r
index_past waiting depth values r n a deep past lt read =
    let there : waiting_at waiting n ≡ a = sym (get_or_read waiting n a lt read no_activation) in
    let one : block_index waiting n a.values (r - values_in_frame values) ≡ block_index waiting n (waiting_at waiting n).values (r - values_in_frame values) =
    ap (λ (x : Activation). block_index waiting n x.values (r - values_in_frame values)) (sym there) in
    let two : block_index waiting n (waiting_at waiting n).values (r - values_in_frame values) ≡ block_index waiting (suc n) values r =
    ap (λ (b : Bool). if b then 256 * suc n + r else block_index waiting n (waiting_at waiting n).values (r - values_in_frame values)) (sym (not_less r (values_in_frame values) past)) in
    one ∙ two ∙ ap (λ d. block_index waiting d values r) (sym deep)

-- past the innermost frame there are the others
pub rest_there :
    (waiting : List Activation) (depth values r n : ℕ) (a : Activation) → depth ≡ suc n → values_in_frame values ≤ r → n < length waiting → a ≡ get_or waiting n a →
    r < block_count waiting depth values → r - values_in_frame values < block_count waiting n a.values
rest_there waiting depth values r n a deep past lt read there =
    let one : depth ≡ n + 1 = omega (arith, deep) in
    let all : waiting_count waiting depth ≡ values_in_frame a.values + waiting_count waiting n =
    ap (λ d. waiting_count waiting d) one ∙ waiting_more waiting n a lt read in
    omega (arith, all, past, there)

index_low_by :
    (waiting : List Activation) (depth values r : ℕ) (b : Bool) → nat_lt r (values_in_frame values) ≡ b →
    (values_in_frame values ≤ r → block_index waiting depth (waiting_at waiting depth).values (r - values_in_frame values) < 256 * depth + 256) →
    (if b then 256 * suc depth + r else block_index waiting depth (waiting_at waiting depth).values (r - values_in_frame values)) < 256 * suc depth + 256
index_low_by waiting depth values r true is beyond = omega (arith, lt_holds r (values_in_frame values) is, few_in_frame values)
index_low_by waiting depth values r false is beyond = omega (arith, beyond (lt_fails r (values_in_frame values) is))

pub index_low :
    (waiting : List Activation) (depth values r : ℕ) → r < block_count waiting depth values → block_index waiting depth values r < 256 * depth + 256
index_low waiting zero values r lt = omega (arith, lt, few_in_frame values)
index_low waiting (suc depth) values r lt =
    index_low_by waiting depth values r (nat_lt r (values_in_frame values)) refl
    (λ past. index_low waiting depth (waiting_at waiting depth).values (r - values_in_frame values) (omega (arith, lt, past)))

module _ (rs : List Value) (long : length rs ≡ 262144) where
  -- a frame has all the registers of its activation
  frame_long : (depth values : ℕ) → depth < 1024 → length (frame_registers rs depth values) ≡ values_in_frame values
  frame_long depth values deep =
      let left : 256 ≤ length (drop (256 * depth) rs) = omega (arith, length-drop (256 * depth) rs, long, deep) in
      length-take values (take 256 (drop (256 * depth) rs))
      ∙ ap (λ n. min values n) (length-take-le 256 (drop (256 * depth) rs) left)

  pub count_is :
      (waiting : List Activation) (depth values : ℕ) → depth < 1024 →
      block_count waiting depth values ≡ count_in (frame_registers rs depth values) (callers_of waiting rs depth)
  count_is waiting zero values deep = omega (arith, frame_long zero values deep)
  count_is waiting (suc depth) values deep =
      ap (λ n. n + block_count waiting depth (waiting_at waiting depth).values) (sym (frame_long (suc depth) values deep))
      ∙ ap (λ n. length (frame_registers rs (suc depth) values) + n) (count_is waiting depth (waiting_at waiting depth).values (omega (arith, deep)))

  -- ---- reading

  value_by :
      (waiting : List Activation) (depth values r : ℕ) (b : Bool) → nat_lt r (length (frame_registers rs (suc depth) values)) ≡ b →
      (length (frame_registers rs (suc depth) values) ≤ r →
      register_in (frame_registers rs depth (waiting_at waiting depth).values) (callers_of waiting rs depth) (r - length (frame_registers rs (suc depth) values))
      ≡ value_at rs (block_index waiting depth (waiting_at waiting depth).values (r - length (frame_registers rs (suc depth) values)))) →
      (if b then value_at (frame_registers rs (suc depth) values) r
      else register_in (frame_registers rs depth (waiting_at waiting depth).values) (callers_of waiting rs depth) (r - length (frame_registers rs (suc depth) values)))
      ≡ value_at rs (if b then 256 * suc depth + r else block_index waiting depth (waiting_at waiting depth).values (r - length (frame_registers rs (suc depth) values)))
  value_by waiting depth values r true is beyond = frame_value rs (suc depth) values r (lt_holds r (length (frame_registers rs (suc depth) values)) is)
  value_by waiting depth values r false is beyond = beyond (lt_fails r (length (frame_registers rs (suc depth) values)) is)

  value_is :
      (waiting : List Activation) (depth values r : ℕ) → depth < 1024 → r < block_count waiting depth values →
      register_in (frame_registers rs depth values) (callers_of waiting rs depth) r ≡ value_at rs (block_index waiting depth values r)
  value_is waiting zero values r deep lt =
      let within : r < length (frame_registers rs zero values) = omega (arith, frame_long zero values deep, lt) in
      let start : 256 * 0 + r ≡ r = omega arith in
      frame_value rs zero values r within ∙ ap (λ n. value_at rs n) start
  value_is waiting (suc depth) values r deep lt =
      let all : length (frame_registers rs (suc depth) values) ≡ values_in_frame values = frame_long (suc depth) values deep in
      value_by waiting depth values r (nat_lt r (length (frame_registers rs (suc depth) values))) refl
      (λ past. value_is waiting depth (waiting_at waiting depth).values (r - length (frame_registers rs (suc depth) values)) (omega (arith, deep)) (omega (arith, all, past, lt)))
      ∙ ap (λ n. value_at rs (if nat_lt r n then 256 * suc depth + r else block_index waiting depth (waiting_at waiting depth).values (r - n))) all

  -- what is read of the block there is the register
  pub value_read :
      (waiting : List Activation) (depth values r n : ℕ) (v : Value) → depth < 1024 → r < block_count waiting depth values → n ≡ block_index waiting depth values r →
      n < length rs → v ≡ get_or rs n v → v ≡ register_in (frame_registers rs depth values) (callers_of waiting rs depth) r
  value_read waiting depth values r n v deep lt is within read =
      get_or_read rs n v within read zero_value ∙ sym (value_at_get rs n) ∙ ap (λ m. value_at rs m) is ∙ sym (value_is waiting depth values r deep lt)

  -- ---- writing

  -- a write before a frame leaves it
  frame_above : (depth values n : ℕ) (v : Value) → n < 256 * depth → frame_registers (set rs n v) depth values ≡ frame_registers rs depth values
  frame_above depth values n v lt = ap (λ l. take values (take 256 l)) (drop-set-lt (256 * depth) rs n v lt)

  -- a frame of which a register is written
  frame_put : (depth values r : ℕ) (v : Value) → r < length (frame_registers rs depth values) → frame_registers (set rs (256 * depth + r) v) depth values ≡ put_at (frame_registers rs depth values) r v
  frame_put depth values r v lt = frame_write rs depth values (256 * depth) r v refl lt

  abbrev caller_at : Activation → List Value → Caller
  caller_at a registers = record { frame = record { function = a.function; index = a.index; called_at = a.called_at; registers = registers }; result = a.result }

  callers_by :
      (waiting : List Activation) (depth r : ℕ) (v : Value) → suc depth < 1024 → (b : Bool) →
      nat_lt r (length (frame_registers rs (suc depth) (waiting_at waiting (suc depth)).values)) ≡ b →
      r < block_count waiting (suc depth) (waiting_at waiting (suc depth)).values →
      (length (frame_registers rs (suc depth) (waiting_at waiting (suc depth)).values) ≤ r →
      callers_of waiting (set rs (block_index waiting depth (waiting_at waiting depth).values (r - length (frame_registers rs (suc depth) (waiting_at waiting (suc depth)).values))) v) (suc depth)
      ≡ callers_with (callers_of waiting rs (suc depth)) (r - length (frame_registers rs (suc depth) (waiting_at waiting (suc depth)).values)) v) →
      callers_of waiting (set rs (if b then 256 * suc depth + r
      else block_index waiting depth (waiting_at waiting depth).values (r - length (frame_registers rs (suc depth) (waiting_at waiting (suc depth)).values))) v) (suc (suc depth))
      ≡ (if b then caller_with (caller_of rs (suc depth) (waiting_at waiting (suc depth))) r v ∷ callers_of waiting rs (suc depth)
      else caller_of rs (suc depth) (waiting_at waiting (suc depth)) ∷ callers_with (callers_of waiting rs (suc depth)) (r - length (frame_registers rs (suc depth) (waiting_at waiting (suc depth)).values)) v)
  callers_by waiting depth r v deep true is lt beyond =
      let a : Activation = waiting_at waiting (suc depth) in
      let within : r < length (frame_registers rs (suc depth) a.values) = lt_holds r (length (frame_registers rs (suc depth) a.values)) is in
      ap (λ l. caller_at a l ∷ callers_of waiting (set rs (256 * suc depth + r) v) (suc depth)) (frame_put (suc depth) a.values r v within)
      ∙ ap (λ cs. caller_with (caller_of rs (suc depth) a) r v ∷ cs) (callers_same waiting rs (suc depth) (256 * suc depth + r) v (omega arith))
  callers_by waiting depth r v deep false is lt beyond =
      let a : Activation = waiting_at waiting (suc depth) in
      let past : length (frame_registers rs (suc depth) a.values) ≤ r = lt_fails r (length (frame_registers rs (suc depth) a.values)) is in
      let left : ℕ = r - length (frame_registers rs (suc depth) a.values) in
      let n : ℕ = block_index waiting depth (waiting_at waiting depth).values left in
      let low : n < 256 * depth + 256 = index_low waiting depth (waiting_at waiting depth).values left (omega (arith, lt, past, frame_long (suc depth) a.values deep)) in
      ap (λ l. caller_at a l ∷ callers_of waiting (set rs n v) (suc depth)) (frame_above (suc depth) a.values n v (omega (arith, low)))
      ∙ ap (λ cs. caller_of rs (suc depth) a ∷ cs) (beyond past)

  callers_written :
      (waiting : List Activation) (depth r : ℕ) (v : Value) → depth < 1024 → r < block_count waiting depth (waiting_at waiting depth).values →
      callers_of waiting (set rs (block_index waiting depth (waiting_at waiting depth).values r) v) (suc depth) ≡ callers_with (callers_of waiting rs (suc depth)) r v
  callers_written waiting zero r v deep lt =
      let a : Activation = waiting_at waiting zero in
      let within : r < length (frame_registers rs zero a.values) = omega (arith, frame_long zero a.values deep, lt) in
      let start : r ≡ 256 * 0 + r = omega arith in
      ap (λ n. caller_at a (frame_registers (set rs n v) zero a.values) ∷ []) start
      ∙ ap (λ l. caller_at a l ∷ []) (frame_put zero a.values r v within)
      ∙ ap (λ (b : Bool). if b then caller_with (caller_of rs zero a) r v ∷ [] else caller_of rs zero a ∷ []) (sym (lt_true r (length (frame_registers rs zero a.values)) within))
  callers_written waiting (suc depth) r v deep lt =
      let a : Activation = waiting_at waiting (suc depth) in
      let all : length (frame_registers rs (suc depth) a.values) ≡ values_in_frame a.values = frame_long (suc depth) a.values deep in
      ap (λ n. callers_of waiting (set rs (if nat_lt r n then 256 * suc depth + r else block_index waiting depth (waiting_at waiting depth).values (r - n)) v) (suc (suc depth))) (sym all)
      ∙ callers_by waiting depth r v deep (nat_lt r (length (frame_registers rs (suc depth) a.values))) refl lt
      (λ past. callers_written waiting depth (r - length (frame_registers rs (suc depth) a.values)) v (omega (arith, deep)) (omega (arith, all, past, lt)))

  -- ---- a thread

  module _ (id : ℕ) (main : Bool) (function index : ℕ) (called_at : Option ℕ) (granted : Option Access) (stage : Stage) where
    abbrev thread_in : List Caller → List Value → Thread
    thread_in callers registers = record {
      id = id;
      main = main;
      at = record { callers = callers; frame = record { function = function; index = index; called_at = called_at; registers = registers }; granted = granted };
      stage = stage;
    }

    -- the thread, of which the block has this value in place of one
    abbrev thread_set : List Activation → (depth values n : ℕ) → Value → Thread
    thread_set waiting depth values n v = thread_in (callers_of waiting (set rs n v) depth) (frame_registers (set rs n v) depth values)

    thread_by :
        (waiting : List Activation) (depth values r : ℕ) (v : Value) → suc depth < 1024 → (b : Bool) →
        nat_lt r (length (frame_registers rs (suc depth) values)) ≡ b → r < block_count waiting (suc depth) values →
        thread_set waiting (suc depth) values (if b then 256 * suc depth + r else block_index waiting depth (waiting_at waiting depth).values (r - length (frame_registers rs (suc depth) values))) v
        ≡ (if b then thread_in (callers_of waiting rs (suc depth)) (put_at (frame_registers rs (suc depth) values) r v)
        else thread_in (callers_with (callers_of waiting rs (suc depth)) (r - length (frame_registers rs (suc depth) values)) v) (frame_registers rs (suc depth) values))
    thread_by waiting depth values r v deep true is lt =
        let within : r < length (frame_registers rs (suc depth) values) = lt_holds r (length (frame_registers rs (suc depth) values)) is in
        ap (λ l. thread_in (callers_of waiting (set rs (256 * suc depth + r) v) (suc depth)) l) (frame_put (suc depth) values r v within)
        ∙ ap (λ cs. thread_in cs (put_at (frame_registers rs (suc depth) values) r v)) (callers_same waiting rs (suc depth) (256 * suc depth + r) v (omega arith))
    thread_by waiting depth values r v deep false is lt =
        let past : length (frame_registers rs (suc depth) values) ≤ r = lt_fails r (length (frame_registers rs (suc depth) values)) is in
        let left : ℕ = r - length (frame_registers rs (suc depth) values) in
        let n : ℕ = block_index waiting depth (waiting_at waiting depth).values left in
        let there : left < block_count waiting depth (waiting_at waiting depth).values = omega (arith, lt, past, frame_long (suc depth) values deep) in
        let low : n < 256 * depth + 256 = index_low waiting depth (waiting_at waiting depth).values left there in
        ap (λ l. thread_in (callers_of waiting (set rs n v) (suc depth)) l) (frame_above (suc depth) values n v (omega (arith, low)))
        ∙ ap (λ cs. thread_in cs (frame_registers rs (suc depth) values)) (callers_written waiting depth left v (omega (arith, deep)) there)

    thread_written :
        (waiting : List Activation) (depth values r : ℕ) (v : Value) → depth < 1024 → r < block_count waiting depth values →
        thread_set waiting depth values (block_index waiting depth values r) v ≡ thread_with (thread_in (callers_of waiting rs depth) (frame_registers rs depth values)) r v
    thread_written waiting zero values r v deep lt =
        let within : r < length (frame_registers rs zero values) = omega (arith, frame_long zero values deep, lt) in
        let start : r ≡ 256 * 0 + r = omega arith in
        ap (λ n. thread_in [] (frame_registers (set rs n v) zero values)) start
        ∙ ap (λ l. thread_in [] l) (frame_put zero values r v within)
        ∙ ap (λ (b : Bool). if b then thread_in [] (put_at (frame_registers rs zero values) r v)
        else thread_in (callers_with [] (r - length (frame_registers rs zero values)) v) (frame_registers rs zero values)) (sym (lt_true r (length (frame_registers rs zero values)) within))
    thread_written waiting (suc depth) values r v deep lt =
        let all : length (frame_registers rs (suc depth) values) ≡ values_in_frame values = frame_long (suc depth) values deep in
        ap (λ n. thread_set waiting (suc depth) values (if nat_lt r n then 256 * suc depth + r else block_index waiting depth (waiting_at waiting depth).values (r - n)) v) (sym all)
        ∙ thread_by waiting depth values r v deep (nat_lt r (length (frame_registers rs (suc depth) values))) refl lt

    -- a register of which the half is made Freed
    pub thread_freed :
        (waiting : List Activation) (depth values r n : ℕ) (v : Value) → depth < 1024 → r < block_count waiting depth values → n ≡ block_index waiting depth values r →
        n < length rs → v ≡ get_or rs n v →
        thread_set waiting depth values n (record v { half = Freed }) ≡ thread_with_freed (thread_in (callers_of waiting rs depth) (frame_registers rs depth values)) r
    thread_freed waiting depth values r n v deep lt is within read =
        ap (λ m. thread_set waiting depth values m (record v { half = Freed })) is
        ∙ thread_written waiting depth values r (record v { half = Freed }) deep lt
        ∙ ap (λ (x : Value). thread_with (thread_in (callers_of waiting rs depth) (frame_registers rs depth values)) r (record x { half = Freed }))
        (value_read waiting depth values r n v deep lt is within read)
