-- The names of the functions that are one operation each are different.
use Rattle.std.proofs.Common.{◌≡◌, ℕ, zero, suc, ◌+◌, ◌<◌, List, [], ◌∷◌, take, None, refl, arith}
use Rattle.std.specs.Prelude.{slice_get, Option, Some}
use Rattle.c_scope.specs.Blocks.{visible, declared_in, innermost}
use Rattle.c_scope.specs.Scopes.{Names, no_names}
use Rattle.c_file_rules.specs.Operations.{Intrinsic, intrinsics, with_intrinsics}

-- the names before the function at this index
abbrev pub names_before : (bodies index : ℕ) → Names
names_before bodies index = (with_intrinsics bodies (take index intrinsics) ([], no_names)).1

abbrev pub name_in : Option Intrinsic → List ℕ
name_in None = []
name_in (Some i) = i.name

abbrev pub name_at : (index : ℕ) → List ℕ
name_at index = name_in (slice_get intrinsics index)

-- its name isn't among them
pub fresh : (bodies index : ℕ) → index < 11 → (visible (name_at index) (names_before bodies index).linked ≡ None) × (declared_in (name_at index) (innermost (names_before bodies index).ordinary) ≡ None)
fresh bodies zero within = (refl, refl)
fresh bodies (suc zero) within = (refl, refl)
fresh bodies (suc (suc zero)) within = (refl, refl)
fresh bodies (suc (suc (suc zero))) within = (refl, refl)
fresh bodies (suc (suc (suc (suc zero)))) within = (refl, refl)
fresh bodies (suc (suc (suc (suc (suc zero))))) within = (refl, refl)
fresh bodies (suc (suc (suc (suc (suc (suc zero)))))) within = (refl, refl)
fresh bodies (suc (suc (suc (suc (suc (suc (suc zero))))))) within = (refl, refl)
fresh bodies (suc (suc (suc (suc (suc (suc (suc (suc zero)))))))) within = (refl, refl)
fresh bodies (suc (suc (suc (suc (suc (suc (suc (suc (suc zero))))))))) within = (refl, refl)
fresh bodies (suc (suc (suc (suc (suc (suc (suc (suc (suc (suc zero)))))))))) within = (refl, refl)
fresh bodies (suc (suc (suc (suc (suc (suc (suc (suc (suc (suc (suc n))))))))))) within = absurd (omega (arith, within))
