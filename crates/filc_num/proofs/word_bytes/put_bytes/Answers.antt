-- The old bytes are a part of the word, and the new ones have room in their place.
use Rattle.std.proofs.Common.{◌≡◌, ◌≤◌, ◌<◌, ◌+◌, ◌-◌, ◌*◌, ◌%◌, ◌^◌, ℕ, ap, ◌∙◌, arith}
use Rattle.filc_num.specs.WordBytes.{bytes_of, with_bytes}
use Rattle.filc_num.proofs.WordBytes.{taken_fits, shifted_fits, replaced, fits_bytes}
use Rattle.filc_num.proofs.word_bytes.put_bytes.Goals as goal

-- a shift that loses no bit
exact_shift : (x p r : ℕ) → x ≡ p → p * r < 18446744073709551616 → x * r % 18446744073709551616 ≡ p * r
exact_shift x p r e h = rw e (let small : p * r % 18446744073709551616 ≡ p * r = omega arith in small)

module _ (n o w v x y : ℕ) (fits : n < 18446744073709551616) (inside : o + w ≤ 8) (old : x ≡ bytes_of n o w) (new : y ≡ v % 256 ^ w) where
  old_part : x * 2 ^ (8 * o) % 18446744073709551616 ≡ bytes_of n o w * 2 ^ (8 * o)
  old_part =
      let h = taken_fits n o w in
      exact_shift x (bytes_of n o w) (2 ^ (8 * o)) old (omega (arith, h))

  new_part : y * 2 ^ (8 * o) % 18446744073709551616 ≡ v % 256 ^ w * 2 ^ (8 * o)
  new_part = exact_shift y (v % 256 ^ w) (2 ^ (8 * o)) new (shifted_fits o w v inside)

  pub old_is_less : x * 2 ^ (8 * o) % 18446744073709551616 ≤ n
  old_is_less = rw old_part (taken_fits n o w)

  pub is_exchange : (n - x * 2 ^ (8 * o) % 18446744073709551616) + y * 2 ^ (8 * o) % 18446744073709551616 ≡ with_bytes n o w v
  is_exchange =
      ap (λ (m : ℕ). (n - m) + y * 2 ^ (8 * o) % 18446744073709551616) old_part
      ∙ ap (λ (m : ℕ). (n - bytes_of n o w * 2 ^ (8 * o)) + m) new_part
      ∙ replaced n o w v

pub overflow_sub-result : goal.overflow_sub-result
overflow_sub-result c =
    old_is_less c.args.word c.args.offset c.args.width c.args.value c.get_bytes.result c.low_bytes.result c.ranges.word.fits c.requires.inside c.get_bytes.ensures.exact c.low_bytes.ensures.exact

pub overflow_add-result : goal.overflow_add-result
overflow_add-result c =
    let e = is_exchange c.args.word c.args.offset c.args.width c.args.value c.get_bytes.result c.low_bytes.result c.ranges.word.fits c.requires.inside c.get_bytes.ensures.exact c.low_bytes.ensures.exact in
    let h = fits_bytes c.args.word c.args.offset c.args.width c.args.value c.requires.inside c.ranges.word.fits in
    record { fits = rw e h }

pub returns : goal.returns
returns c =
    is_exchange c.args.word c.args.offset c.args.width c.args.value c.get_bytes.result c.low_bytes.result c.ranges.word.fits c.requires.inside c.get_bytes.ensures.exact c.low_bytes.ensures.exact
