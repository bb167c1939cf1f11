-- Lists of parameters and adjusted parameters are those that their names say.
use Rattle.std.proofs.Common.{ℕ, List, [], ◌∷◌, Option, Some, None, refl}
use Rattle.c_types.specs.declared.ctype.CType.{CType}
use Rattle.c_types.specs.declared.ctype.CType.TheVariants.{Void, Integer, Enumeration, Pointer, ArrayOf, Function, Structure, Union}
use Rattle.c_types.specs.declared.ctype.Part.{Part}
use Rattle.c_types.specs.declared.entry.Entry.TheVariants.{OfType, NoParameters, Parameters}
use Rattle.c_types.specs.Declarators.{type_in, Keeps, IsParameterList, IsAdjusted, IsAdjustedOf}
use Rattle.c_types.proofs.Extending.{entry_taken, entry_keeps}
use Rattle.c_file_rules.specs.Types.{Table, with_entry, list_from, type_of_part, adjusted_as, or_void}

-- ---- lists of parameters

list_stays : (old new : Table) → Keeps old new → (types : List ℕ) (n : ℕ) → IsParameterList old types n → IsParameterList new types n
unfolding IsParameterList
list_stays old new k [] n h = k n NoParameters h
list_stays old new k (ty ∷ types) n h = (h.0, k n (Parameters ty h.0) h.1, list_stays old new k types h.0 h.2)

pub list_made : (t : Table) (types : List ℕ) → Keeps t (list_from t types).0 × IsParameterList (list_from t types).0 types (list_from t types).1
unfolding IsParameterList
list_made t [] = (entry_keeps t NoParameters, entry_taken t NoParameters)
list_made t (ty ∷ types) =
    let others = list_made t types in
    let rest = list_from t types in
    let e = Parameters ty rest.1 in
    let k = entry_keeps rest.0 e in
    (λ n x h. k n x (others.0 n x h), (rest.1, entry_taken rest.0 e, list_stays rest.0 (with_entry rest.0 e).0 k types rest.1 others.1))

-- ---- parameters after their adjustment

pub adjusted_made : (t : Table) (p : Part) → Keeps t (adjusted_as t p (type_of_part t p)).0 × IsAdjusted t (adjusted_as t p (type_of_part t p)).0 p (adjusted_as t p (type_of_part t p)).1
adjusted_made t p = by (type_in t p.number) where
  by : (o : Option CType) → Keeps t (adjusted_as t p (or_void o)).0 × IsAdjustedOf o (adjusted_as t p (or_void o)).0 p (adjusted_as t p (or_void o)).1
  by None = (λ n x h. h, refl)
  by (Some Void) = (λ n x h. h, refl)
  by (Some (Integer kind)) = (λ n x h. h, refl)
  by (Some (Enumeration tag)) = (λ n x h. h, refl)
  by (Some (Pointer to)) = (λ n x h. h, refl)
  by (Some (ArrayOf a)) = (entry_keeps t (OfType (Pointer a.element)), (entry_taken t (OfType (Pointer a.element)), refl))
  by (Some (Function f)) = (entry_keeps t (OfType (Pointer p)), (entry_taken t (OfType (Pointer p)), refl))
  by (Some (Structure tag contents)) = (λ n x h. h, refl)
  by (Some (Union tag contents)) = (λ n x h. h, refl)
