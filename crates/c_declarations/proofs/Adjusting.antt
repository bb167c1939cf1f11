-- Parameters are adjusted one after the other.
use Rattle.std.proofs.Common.{◌≡◌, ℕ, ◌+◌, ◌<◌, ◌≤◌, Bool, true, false, cond, List, [], ◌∷◌, ◌++◌, length, get_or, take, All, Option, Some, None, Result, Ok, Err, refl, sym, ap, ◌∙◌, subst}
use Rattle.std.specs.Prelude.{IsOk}
use Rattle.std.proofs.lemmas.List.{take_all, take_more}
use Rattle.std.proofs.lemmas.List.Elements.{All-nil, All-cons, All-push, All-weaker}
use Rattle.c_types.specs.declared.ctype.CType.{CType}
use Rattle.c_types.specs.declared.ctype.CType.TheVariants.{Void, Integer, Enumeration, Pointer, ArrayOf, Function, Structure, Union}
use Rattle.c_types.specs.declared.ctype.Part.{Part}
use Rattle.c_types.specs.declared.entry.Entry.{Entry}
use Rattle.c_types.specs.declared.rule.TypeRule.{TypeRule}
use Rattle.c_types.specs.Derivations.{lower, lowest}
use Rattle.c_types.specs.Declarators.{type_in, Keeps, IsAdjustedOf, IsAdjusted, IsParameterList}
use Rattle.c_types.specs.Whole.{IsTypeAt, IsPart}
use Rattle.c_types.proofs.Deriving.{Keeps-trans}
use Rattle.c_types.proofs.Whole.{Keeps-stays, part_is_type}
use Rattle.c_declarators.specs.declared.parameters.ParameterType.{ParameterType}
use Rattle.c_declarators.specs.Parameters.{rule_of_outcome, rule_of_parameter, lowest_rule, says_none}
use Rattle.c_type_rules.proofs.Peeling.{one_type}
use Rattle.c_declarations.specs.ParameterTypes.{IsTypeOfTable, ParameterFits, IsAdjustedTo, AreAdjusted, parameters_in, IsListOf}

-- ---- parameters that break no rule have a type

stays : (t : List Entry) (f : TypeRule) (ps : List ParameterType) → (g : TypeRule) × (lowest_rule t (Some f) ps ≡ Some g)
unfolding lowest_rule
stays t f [] = (f, refl)
stays t f (p ∷ ps) = by (rule_of_parameter t p) refl (λ g. stays t g ps)
  where
    by : (o : Option TypeRule) → rule_of_parameter t p ≡ o → ((g : TypeRule) → (x : TypeRule) × (lowest_rule t (Some g) ps ≡ Some x)) → (x : TypeRule) × (lowest_rule t (lowest (Some f) (rule_of_parameter t p)) ps ≡ Some x)
    by None e more = let m = more f in (m.0, ap (λ o. lowest_rule t (lowest (Some f) o) ps) e ∙ m.1)
    by (Some g) e more = let m = more (lower f g) in (m.0, ap (λ o. lowest_rule t (lowest (Some f) o) ps) e ∙ m.1)

pub each_is_fine : (t : List Entry) (ps : List ParameterType) → lowest_rule t None ps ≡ None → All (λ (p : ParameterType). rule_of_parameter t p ≡ None) ps
unfolding lowest_rule
each_is_fine t [] h = All-nil (λ (p : ParameterType). rule_of_parameter t p ≡ None)
each_is_fine t (p ∷ ps) h = by (rule_of_parameter t p) refl (each_is_fine t ps)
  where
    by : (o : Option TypeRule) → rule_of_parameter t p ≡ o → (lowest_rule t None ps ≡ None → All (λ (p : ParameterType). rule_of_parameter t p ≡ None) ps) → All (λ (p : ParameterType). rule_of_parameter t p ≡ None) (p ∷ ps)
    by None e rest = All-cons (λ (p : ParameterType). rule_of_parameter t p ≡ None) p ps e (rest (ap (λ o. lowest_rule t o ps) (sym e) ∙ h))
    by (Some f) e rest =
        let m = stays t f ps in
        let clash : Some m.0 ≡ None = sym m.1 ∙ ap (λ o. lowest_rule t o ps) (sym e) ∙ h in
        cc

-- ---- a table that grows

adjusted_in : (ty : Option CType) (t t' : List Entry) (p made : Part) → Keeps t t' → IsAdjustedOf ty t p made → IsAdjustedOf ty t' p made
adjusted_in None t t' p made k h = h
adjusted_in (Some Void) t t' p made k h = h
adjusted_in (Some (Integer kind)) t t' p made k h = h
adjusted_in (Some (Enumeration tag)) t t' p made k h = h
adjusted_in (Some (Pointer to)) t t' p made k h = h
adjusted_in (Some (ArrayOf a)) t t' p made k h = (k made.number _ h.0, h.1)
adjusted_in (Some (Function f)) t t' p made k h = (k made.number _ h.0, h.1)
adjusted_in (Some (Structure tag x)) t t' p made k h = h
adjusted_in (Some (Union tag x)) t t' p made k h = h

to_keeps : (old t t' : List Entry) (r : Result Part TypeRule) (n : ℕ) → Keeps t t' → IsAdjustedTo old t r n → IsAdjustedTo old t' r n
to_keeps old t t' (Ok part) n k h = (h.0, adjusted_in (type_in old part.number) t t' part h.0 k h.1, h.2)
to_keeps old t t' (Err broken) n k h = absurd h

pub AreAdjusted-keeps : (old t t' : List Entry) (ps : List ParameterType) (ns : List ℕ) → Keeps t t' → AreAdjusted old t ps ns → AreAdjusted old t' ps ns
unfolding AreAdjusted
AreAdjusted-keeps old t t' [] [] k h = tt
AreAdjusted-keeps old t t' (p ∷ ps) (n ∷ ns) k h = (to_keeps old t t' p.ty n k h.0, AreAdjusted-keeps old t t' ps ns k h.1)
AreAdjusted-keeps old t t' [] (n ∷ ns) k h = absurd h
AreAdjusted-keeps old t t' (p ∷ ps) [] k h = absurd h

pub AreAdjusted-push : (old t : List Entry) (ps : List ParameterType) (ns : List ℕ) (p : ParameterType) (n : ℕ) → AreAdjusted old t ps ns → IsAdjustedTo old t p.ty n → AreAdjusted old t (ps ++ p ∷ []) (ns ++ n ∷ [])
unfolding AreAdjusted
AreAdjusted-push old t [] [] p n h k = (k, tt)
AreAdjusted-push old t (q ∷ ps) (m ∷ ns) p n h k = (h.0, AreAdjusted-push old t ps ns p n h.1 k)
AreAdjusted-push old t [] (m ∷ ns) p n h k = absurd h
AreAdjusted-push old t (q ∷ ps) [] p n h k = absurd h

pub types_keep : (t t' : List Entry) (ns : List ℕ) → Keeps t t' → All (IsTypeAt t) ns → All (IsTypeAt t') ns
types_keep t t' ns k h = All-weaker (IsTypeAt t) (IsTypeAt t') (λ n. (Keeps-stays t t' k).types n) ns h

pub adjusted_from : (old now new : List Entry) (part made : Part) → Keeps old now → IsPart old part → IsAdjusted now new part made → IsAdjusted old new part made
adjusted_from old now new part made k there h =
    subst (λ (ty : Option CType). IsAdjustedOf ty new part made)
    (one_type old now part k there) h

-- ---- the list

pub fits_there : (t : List Entry) (ps : List ParameterType) → All (ParameterFits t) ps → All (ParameterFits t) (parameters_in t ps)
fits_there t ps h = by (says_none t ps)
  where
    by : (b : Bool) → All (ParameterFits t) (cond b [] ps)
    by true = All-nil (ParameterFits t)
    by false = h

pub list_of : (old now new : List Entry) (ps : List ParameterType) (ns : List ℕ) (n : ℕ) → AreAdjusted old now ps ns → Keeps now new → IsParameterList new ns n → IsListOf old new ps n
list_of old now new ps ns n h k l = record { numbers = ns; adjusted = AreAdjusted-keeps old now new ps ns k h; list = l }

-- ---- the loop over the parameters

-- the parameters before this index are adjusted
pub record IsAdjusting (old now : List Entry) (ps : List ParameterType) (i : ℕ) (ns : List ℕ) : Type 0 where
  pub kept : Keeps old now
  pub so_far : AreAdjusted old now (take i ps) ns
  pub types : All (IsTypeAt now) ns

starts_so : (old : List Entry) (ps : List ParameterType) → AreAdjusted old old (take 0 ps) []
unfolding AreAdjusted
starts_so old [] = tt
starts_so old (p ∷ ps) = tt

pub adjusting_starts : (old : List Entry) (ps : List ParameterType) (ns : List ℕ) → ns ≡ [] → IsAdjusting old old ps 0 ns
adjusting_starts old ps ns h = record {
  kept = λ n e at. at;
  so_far = subst (AreAdjusted old old (take 0 ps)) (sym h) (starts_so old ps);
  types = subst (All (IsTypeAt old)) (sym h) (All-nil (IsTypeAt old));
}

pub adjusting_ends : (old now : List Entry) (ps : List ParameterType) (i : ℕ) (ns : List ℕ) → length ps ≤ i → IsAdjusting old now ps i ns → AreAdjusted old now ps ns
adjusting_ends old now ps i ns past ok = subst (λ (qs : List ParameterType). AreAdjusted old now qs ns) (take_all i ps past) ok.so_far

module _ (old : List Entry) (ps : List ParameterType) (i : ℕ) (d p : ParameterType) (within : i < length ps) (at : p ≡ get_or ps i d) where
  pub type_there : (part : Part) → All (ParameterFits old) ps → p.ty ≡ Ok part → IsPart old part
  type_there part h is =
      let fits : ParameterFits old p = subst (ParameterFits old) (sym at) (h i d within) in
      subst (IsTypeOfTable old) is fits

  pub has_type : lowest_rule old None ps ≡ None → IsOk p.ty
  has_type h = by p.ty (subst (λ (q : ParameterType). rule_of_parameter old q ≡ None) (sym at) (each_is_fine old ps h i d within))
    where
      by : (r : Result Part TypeRule) → rule_of_outcome old r ≡ None → IsOk r
      by (Ok part) fine = refl
      by (Err broken) fine = cc

  adjust_step : (now new : List Entry) (ns : List ℕ) (part made : Part) → p.ty ≡ Ok part → IsPart old part → Keeps old now → Keeps now new → AreAdjusted old now (take i ps) ns → IsAdjusted now new part made → AreAdjusted old new (take (i + 1) ps) (ns ++ made.number ∷ [])
  adjust_step now new ns part made is there k l so_far h =
      let more : take (i + 1) ps ≡ take i ps ++ p ∷ [] = take_more ps i d within ∙ ap (λ (q : ParameterType). take i ps ++ q ∷ []) (sym at) in
      let this : IsAdjustedTo old new p.ty made.number = subst (λ (r : Result Part TypeRule). IsAdjustedTo old new r made.number) (sym is) (made, adjusted_from old now new part made k there h, refl) in
      subst (λ (qs : List ParameterType). AreAdjusted old new qs (ns ++ made.number ∷ [])) (sym more)
      (AreAdjusted-push old new (take i ps) ns p made.number (AreAdjusted-keeps old now new (take i ps) ns l so_far) this)

  pub adjusting_step : (now new : List Entry) (ns ns' : List ℕ) (part made : Part) → IsAdjusting old now ps i ns → p.ty ≡ Ok part → IsPart old part → Keeps now new → IsAdjusted now new part made → IsPart new made → ns' ≡ ns ++ made.number ∷ [] → IsAdjusting old new ps (i + 1) ns'
  adjusting_step now new ns ns' part made ok is there l h made_there pushed = record {
    kept = Keeps-trans old now new ok.kept l;
    so_far = subst (AreAdjusted old new (take (i + 1) ps)) (sym pushed) (adjust_step now new ns part made is there ok.kept l ok.so_far h);
    types = subst (All (IsTypeAt new)) (sym pushed) (All-push (IsTypeAt new) ns made.number (types_keep now new ns l ok.types) (part_is_type new made made_there));
  }
