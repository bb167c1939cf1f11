-- What no integer of 64 bits with a sign is, no signed type holds.
use Rattle.std.proofs.Common.{◌≡◌, arith}
use Rattle.std.specs.Prelude.{false, ℤ, IsTrue}
use Rattle.std.specs.Int.{w64}
use Rattle.std.specs.Int.RustNames.{FitsSigned}
use Rattle.std.proofs.lemmas.Int.{ints}
use Rattle.filc_num.specs.declared.integer.IntType.{IntType}
use Rattle.filc_num.specs.declared.integer.IntType.TheVariants as i
use Rattle.filc_num.specs.Integers.{is_signed}
use Rattle.c_expr_rules.specs.Constants.{holds}

pub held_fits : (ty : IntType) (z : ℤ) → IsTrue (is_signed ty) → ¬ (FitsSigned w64 z) → holds ty z ≡ false
held_fits i.I8 z s n = grind (arith, ints)
held_fits i.I16 z s n = grind (arith, ints)
held_fits i.I32 z s n = grind (arith, ints)
held_fits i.I64 z s n = grind (arith, ints)
held_fits i.Bool z s n = cc
held_fits i.U8 z s n = cc
held_fits i.U16 z s n = cc
held_fits i.U32 z s n = cc
held_fits i.U64 z s n = cc
