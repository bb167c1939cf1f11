-- What static objects take up, by their words and their number.
use Rattle.std.proofs.Common.{◌≡◌, ℕ, ◌+◌, ◌*◌, ◌≤◌, ◌^◌, Bool, true, false, List, [], ◌∷◌, length, arith}
use Rattle.std.specs.Prelude.{sum_by, if◌then◌else◌}
use Rattle.std.proofs.Math.Seq.{take-length}
use Rattle.std.proofs.lemmas.List.Sums.{sum_by-cons}
use Rattle.filc_num.specs.declared.statics.StaticDef.{StaticDef}
use Rattle.filc_num.specs.Statics.{payload_words_of}
use Rattle.filc_num.specs.StaticDefs.{plain_static}
use Rattle.ideal_machine.specs.Beginning.{words_of_static}
use Rattle.ideal_step.specs.Statics.{plain_statics, HaveAddresses}

word_count : StaticDef → ℕ
word_count s = length s.words.items

one_at_most : (literal : Bool) (n : ℕ) → 5 + n + (if literal then 0 else n) ≤ 5 + 2 * n
one_at_most true n = omega arith
one_at_most false n = omega arith

words_at_most : (s : StaticDef) → words_of_static (plain_static s) ≤ 5 + 2 * length s.words.items
words_at_most s =
    let e : length s.words.items ≡ payload_words_of s.bytes = omega (arith, s.a_word_each) in
    rw e (one_at_most s.literal (payload_words_of s.bytes))

all_at_most : (ss : List StaticDef) → sum_by words_of_static (plain_statics ss) ≤ 5 * length ss + 2 * sum_by (λ (s : StaticDef). length s.words.items) ss
all_at_most [] = omega arith
all_at_most (s ∷ ss) =
    omega (arith, sum_by-cons words_of_static (plain_static s) (plain_statics ss), sum_by-cons (λ (d : StaticDef). length d.words.items) s ss, words_at_most s, all_at_most ss)

pub limits_give_addresses : (ss : List StaticDef) → sum_by (λ (s : StaticDef). length s.words.items) ss ≤ 262144 → length ss ≤ 2 ^ 32 → HaveAddresses (plain_statics ss)
limits_give_addresses ss h k =
    rw take-length (omega (arith, all_at_most ss, h, k))
