-- An activation is put on the ones that wait, and taken off again.
use Rattle.std.proofs.Common.{◌≡◌, ℕ, zero, suc, ◌+◌, ◌*◌, ◌<◌, ◌≤◌, List, ◌∷◌, length, set, get_or, refl, sym, ap, ◌∙◌, subst, arith}
use Rattle.std.specs.Prelude.{All, slice_index_or}
use Rattle.std.proofs.lemmas.List.{get_or-set_same, get_or-set_other, get_or_read}
use Rattle.ideal_machine.specs.declared.value.Value.{Value}
use Rattle.ideal_machine.specs.Values.{value_at}
use Rattle.thread_steps.specs.declared.activation.Activation.{Activation}
use Rattle.thread_steps.specs.Blocks.{frame_registers, caller_of, callers_of, no_activation}
use Rattle.thread_steps.specs.Stands.{HasResult}
use Rattle.thread_steps.proofs.Passing.{frame_ext, callers_ext}

pub callers_long : (waiting : List Activation) (rs : List Value) (depth : ℕ) → length (callers_of waiting rs depth) ≡ depth
callers_long waiting rs zero = refl
callers_long waiting rs (suc depth) = ap suc (callers_long waiting rs depth)

callers_kept : (waiting : List Activation) (a : Activation) (rs : List Value) (depth n : ℕ) → depth ≤ n → callers_of (set waiting n a) rs depth ≡ callers_of waiting rs depth
callers_kept waiting a rs zero n le = refl
callers_kept waiting a rs (suc depth) n le =
    ap (λ x. caller_of rs depth x ∷ callers_of (set waiting n a) rs depth) (get_or-set_other waiting n depth a no_activation (λ e. omega (arith, e, le)))
    ∙ ap (λ cs. caller_of rs depth (slice_index_or waiting depth no_activation) ∷ cs) (callers_kept waiting a rs depth n (omega (arith, le)))

-- one more that waits, while the callee's frame was filled
pub callers_pushed :
    (waiting : List Activation) (a : Activation) (old new : List Value) (depth : ℕ) → depth < length waiting → length new ≡ length old →
    ((k : ℕ) → k < 256 * depth + 256 → value_at new k ≡ value_at old k) →
    callers_of (set waiting depth a) new (suc depth) ≡ caller_of old depth a ∷ callers_of waiting old depth
callers_pushed waiting a old new depth lt long below =
    ap (λ x. caller_of new depth x ∷ callers_of (set waiting depth a) new depth) (get_or-set_same waiting depth a no_activation lt)
    ∙ ap (λ l. record { frame = record { function = a.function; index = a.index; called_at = a.called_at; registers = l }; result = a.result } ∷ callers_of (set waiting depth a) new depth)
    (frame_ext new old depth a.values long (λ r r_lt. below (256 * depth + r) (omega (arith, r_lt))))
    ∙ ap (λ cs. caller_of old depth a ∷ cs)
    (callers_kept waiting a new depth depth (omega arith) ∙ callers_ext waiting new old depth long (λ k k_lt. below k (omega (arith, k_lt))))

-- the innermost of those that wait
pub callers_first :
    (waiting : List Activation) (rs : List Value) (depth n : ℕ) (a : Activation) → depth ≡ suc n → n < length waiting → a ≡ get_or waiting n a →
    callers_of waiting rs depth ≡ caller_of rs n a ∷ callers_of waiting rs n
callers_first waiting rs depth n a e lt read =
    ap (λ k. callers_of waiting rs k) e
    ∙ ap (λ x. caller_of rs n x ∷ callers_of waiting rs n) (sym (get_or_read waiting n a lt read no_activation))

pub result_there :
    (waiting : List Activation) (rs : List Value) (depth n : ℕ) (a : Activation) → depth ≡ suc n → n < length waiting → a ≡ get_or waiting n a →
    All HasResult (callers_of waiting rs depth) → a.result < length (frame_registers rs n a.values)
result_there waiting rs depth n a e lt read all =
    let all_first : All HasResult (caller_of rs n a ∷ callers_of waiting rs n) = subst (All HasResult) (callers_first waiting rs depth n a e lt read) all in
    all_first 0 (caller_of rs n a) (omega arith)
