-- Through the arrays of a member to what is const of it.
use Rattle.std.proofs.Common.{◌≡◌, ℕ, zero, suc, ◌-◌, ◌+◌, ◌<◌, Bool, refl, sym, ap, ◌∙◌, subst, arith}
use Rattle.std.specs.Prelude.{◌||◌, Some, None}
use Rattle.c_types.specs.declared.ctype.Part.{Part}
use Rattle.c_type_parts.specs.Laid.{element_in}
use Rattle.c_types.specs.declared.ctype.CType.{CType}
use Rattle.c_types.specs.declared.ctype.CType.TheVariants.{Void, Integer, Enumeration, Pointer, ArrayOf, Function, Structure, Union}
use Rattle.c_expr_rules.specs.Outcomes.{State}
use Rattle.c_expr_rules.specs.TypedExpressions.{type_at, is_const, record_number}
use Rattle.c_expr_rules.specs.Operators.{has_const, contents_of}
use Rattle.c_file_rules.specs.Tags.{is_const_type}

-- what is const of a type that is looked into no further
abbrev pub is_const_here : State → (quals : ℕ) → CType → Bool
is_const_here s quals ty = is_const quals || has_const (contents_of s (record_number ty))

-- no array is left
pub const_ends : (n : ℕ) (s : State) (quals : ℕ) (ty : CType) → None ≡ element_in ty → is_const_type n s quals ty ≡ is_const_here s quals ty
const_ends zero s quals ty e = refl
const_ends (suc n) s quals Void e = refl
const_ends (suc n) s quals (Integer kind) e = refl
const_ends (suc n) s quals (Enumeration tag) e = refl
const_ends (suc n) s quals (Pointer to) e = refl
const_ends (suc n) s quals (ArrayOf a) e = cc
const_ends (suc n) s quals (Function signature) e = refl
const_ends (suc n) s quals (Structure tag contents) e = refl
const_ends (suc n) s quals (Union tag contents) e = refl

-- none may be gone through any more
pub const_stops : (n : ℕ) (s : State) (quals : ℕ) (ty : CType) → n ≡ 0 → is_const_type n s quals ty ≡ is_const_here s quals ty
const_stops zero s quals ty none = refl
const_stops (suc n) s quals ty none = absurd (omega (arith, none))

-- through one array
through :
    (n : ℕ) (s : State) (quals : ℕ) (ty : CType) (element : Part) → Some element ≡ element_in ty →
    is_const_type (suc n) s quals ty ≡ is_const_type n s element.qualifiers.0 (type_at s element.number)
through n s quals Void element e = cc
through n s quals (Integer kind) element e = cc
through n s quals (Enumeration tag) element e = cc
through n s quals (Pointer to) element e = cc
through n s quals (ArrayOf a) element e =
    let same : a.element ≡ element = cc in ap (λ (p : Part). is_const_type n s p.qualifiers.0 (type_at s p.number)) same
through n s quals (Function signature) element e = cc
through n s quals (Structure tag contents) element e = cc
through n s quals (Union tag contents) element e = cc

pub const_goes :
    (length turn : ℕ) (s : State) (quals : ℕ) (ty : CType) (element : Part) → turn < length → Some element ≡ element_in ty →
    is_const_type (length - turn) s quals ty ≡ is_const_type (length - (turn + 1)) s element.qualifiers.0 (type_at s element.number)
const_goes length turn s quals ty element within is =
    let more : length - turn ≡ suc (length - (turn + 1)) = omega arith in
    ap (λ (n : ℕ). is_const_type n s quals ty) more ∙ through (length - (turn + 1)) s quals ty element is
