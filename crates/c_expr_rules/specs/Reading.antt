-- Values of places, and addresses (C11 6.3.2.1).
use Rattle.std.specs.Prelude.{ℕ, ◌&&◌, Bool, true, false, not, [], ◌∷◌, None}
use Rattle.c_types.specs.declared.ctype.CType.{CType}
use Rattle.c_types.specs.declared.qualifier_set.Qualifiers.{Qualifiers}
use Rattle.c_types.specs.declared.ctype.CType.TheVariants.{Void, Integer, Enumeration, Pointer, ArrayOf, Function, Structure, Union}
use Rattle.c_tree.specs.declared.operation.Operation.TheVariants as op
use Rattle.c_expr_rules.specs.declared.known.Known.TheVariants as known
use Rattle.c_expr_rules.specs.Outcomes.{State, Checked, Fine, Breaks, Broke, by_rules, ◌breaks◌}
use Rattle.c_expr_rules.specs.TypedExpressions.{Typed, Place, Value, InLocal, InMemory, InValue, VoidAt, Designator, plain, value, with_operation, access_of, part_of, is_record, is_complete}

abbrev pub is_register : Place → Bool
is_register Value = false
is_register (InLocal local number r) = r
is_register (InMemory number r) = r
is_register (InValue number r) = r
is_register (VoidAt number) = false
is_register (Designator function number) = false

-- a structure's value, if it is complete (rule 4): its address. It is a part of the object that it comes from
abbrev pub record_value : State → Typed → CType → Checked Typed
record_value s t ty = by_rules t.line (4 breaks not (is_complete ty) ∷ []) s (record (value ty t.line t.made known.Nothing) { of_register = is_register t.place })

-- an array is a pointer to its first element, which has the array's qualifiers; a scalar is loaded
abbrev pub memory_value : State → Typed → CType → Checked Typed
memory_value s t (ArrayOf a) =
    Fine s (record (value (Pointer a.element) t.line t.made t.known) { of_register = is_register t.place })
memory_value s t (Structure tag contents) = record_value s t (Structure tag contents)
memory_value s t (Union tag contents) = record_value s t (Union tag contents)
memory_value s t Void = Fine s (value Void t.line t.made known.Nothing)
memory_value s t (Function signature) = Fine s (value Void t.line t.made known.Nothing)
memory_value s t (Integer kind) = Fine s (value (Integer kind) t.line (with_operation t.line (op.Load (access_of (Integer kind) t.quals.0)) [] t.made) known.Nothing)
memory_value s t (Enumeration tag) = Fine s (value (Enumeration tag) t.line (with_operation t.line (op.Load (access_of (Enumeration tag) t.quals.0)) [] t.made) known.Nothing)
memory_value s t (Pointer to) = Fine s (value (Pointer to) t.line (with_operation t.line (op.Load (access_of (Pointer to) t.quals.0)) [] t.made) known.Nothing)

-- the value of an expression: what its place has, and of a function a pointer to it
abbrev pub read_place : State → Typed → Place → Checked Typed
read_place s t Value = Fine s t
read_place s t (InLocal local number is_register) = Fine s (value t.ty t.line t.made known.Nothing)
read_place s t (InMemory number is_register) = memory_value s t t.ty
read_place s t (InValue number is_register) = memory_value s t t.ty
read_place s t (VoidAt number) = Fine s (value Void t.line t.made known.Nothing)
read_place s t (Designator function number) = Fine s (value (Pointer (part_of number 0)) t.line t.made t.known)

abbrev pub read : State → Typed → Checked Typed
read s t = read_place s t t.place

-- an expression that is found, as a value. What breaks a rule by itself has no place
abbrev pub read_found : Checked Typed → Checked Typed
read_found (Fine s t) = read s t
read_found (Breaks broken s k) = Breaks broken s k
read_found (Broke broken) = Broke broken

abbrev pub is_lvalue : Place → Bool
is_lvalue Value = false
is_lvalue (InLocal local number is_register) = true
is_lvalue (InMemory number is_register) = true
is_lvalue (InValue number is_register) = false
is_lvalue (VoidAt number) = false
is_lvalue (Designator function number) = false

-- what an assignment changes is an object with a size (rule 4); nothing else is looked at before its right side is
abbrev pub target : State → Typed → Checked Typed
target s t = by_rules t.line (4 breaks (is_lvalue t.place && (is_record t.ty && not (is_complete t.ty))) ∷ []) s t

abbrev pub target_found : Checked Typed → Checked Typed
target_found (Fine s t) = target s t
target_found (Breaks broken s k) = Breaks broken s k
target_found (Broke broken) = Broke broken

-- what a pointer value points to: void is no place, and an element of a register array is a part of it. The address that is known of
-- the pointer is the place's (6.5.3.2p3)
abbrev pub behind : State → ℕ → Typed → (number : ℕ) → Qualifiers → CType → Typed
behind s line t number quals Void = record (value Void line t.made t.known) { quals = quals; place = VoidAt number }
behind s line t number quals (Function signature) = record { ty = Function signature; quals = plain; place = Designator None number; line = line; made = t.made; known = t.known; is_null = false; of_register = false }
behind s line t number quals ty = record { ty = ty; quals = quals; place = InMemory number t.of_register; line = line; made = t.made; known = t.known; is_null = false; of_register = false }
