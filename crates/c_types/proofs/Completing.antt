-- A structure that gets its contents keeps what was derived.
use Rattle.std.proofs.Common.{◌≡◌, ℕ, List, [], ◌∷◌, Some, refl, IsTrue}
use Rattle.std.specs.Prelude.{slice_get}
use Rattle.c_types.specs.declared.ctype.CType.TheVariants.{Pointer, ArrayOf, Function}
use Rattle.c_types.specs.declared.ctype.Part.{Part}
use Rattle.c_types.specs.declared.derivation.Derivation.{Derivation}
use Rattle.c_types.specs.declared.derivation.Derivation.TheVariants.{Pointer as PointerTo, Array as ArrayOfSo, OpenArray, BadArray, Function as FunctionOf, BadFunction}
use Rattle.c_types.specs.declared.entry.Entry.{Entry}
use Rattle.c_types.specs.declared.entry.Entry.TheVariants.{OfType, NoParameters, Parameters}
use Rattle.c_types.specs.Tables.{is_derived}
use Rattle.c_types.specs.Declarators.{Makes, IsDerived, IsParameterList}
use Rattle.c_types.proofs.Whole.{Stays}

module _ (t t' : List Entry) (stays : Stays t t') (kept : (n : ℕ) (e : Entry) → IsTrue (is_derived e) → slice_get t n ≡ Some e → slice_get t' n ≡ Some e) where
  makes_stays : (of : Part) (d : Derivation) (made : Part) → Makes t of d made → Makes t' of d made
  makes_stays of (PointerTo q) made h = (kept made.number (OfType (Pointer of)) refl h.0, h.1)
  makes_stays of (FunctionOf ps more) made h = (kept made.number (OfType (Function (record { result = of.number; parameters = ps; more = more }))) refl h.0, h.1)
  makes_stays of (ArrayOfSo count) made h =
      (h.0, (kept made.number (OfType (ArrayOf h.0)) refl h.1.0, h.1.1), h.2, h.3, stays.rooms of.number _ h.4)
  makes_stays of OpenArray made h = absurd h
  makes_stays of BadArray made h = absurd h
  makes_stays of (BadFunction broken) made h = absurd h

  pub IsDerived-stays : (base : Part) (ds : List Derivation) (made : Part) → IsDerived t base ds made → IsDerived t' base ds made
  unfolding IsDerived
  IsDerived-stays base [] made h = h
  IsDerived-stays base (d ∷ ds) made h = (h.0, makes_stays base d h.0 h.1, IsDerived-stays h.0 ds made h.2)

  pub IsParameterList-stays : (types : List ℕ) (n : ℕ) → IsParameterList t types n → IsParameterList t' types n
  unfolding IsParameterList
  IsParameterList-stays [] n h = kept n NoParameters refl h
  IsParameterList-stays (ty ∷ types) n h = (h.0, kept n (Parameters ty h.0) refl h.1, IsParameterList-stays types h.0 h.2)
