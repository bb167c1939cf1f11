-- Tests that are turned twice, and conversions that are made where a test says so.
use Rattle.std.proofs.Common.{◌≡◌, refl}
use Rattle.std.specs.Prelude.{Bool, true, false, not, ◌&&◌, Option, Some, None, if◌then◌else◌}
use Rattle.filc_num.specs.declared.c_int_type.CIntType.{CIntType}
use Rattle.c_types.specs.declared.ctype.CType.{CType}
use Rattle.c_expr_rules.specs.TypedExpressions.{Typed, is_pointer}
use Rattle.c_expr_rules.specs.Converting.{to_integer, cast_to_integer, is_bool, pointer_as, or_itself, is_none}

pub not_not : (b : Bool) → not (not b) ≡ b
not_not true = refl
not_not false = refl

pointer_converted :
    (b : Bool) (t u : Typed) → is_none (if b then Some u else None) ≡ false → or_itself t (if b then Some u else None) ≡ u
pointer_converted true t u h = refl
pointer_converted false t u h = let g : true ≡ false = h in cc

-- a value that converts to an integer type is cast to it
pub converted_integer :
    (ty : CType) (kind : CIntType) (k : Option CIntType) (t : Typed) → is_none (to_integer ty kind k t) ≡ false →
    or_itself t (to_integer ty kind k t) ≡ cast_to_integer ty kind k t
converted_integer ty kind (Some from) t h = refl
converted_integer ty kind None t h = pointer_converted (is_bool kind && is_pointer t.ty) t (pointer_as ty kind t) h
