-- What is declared behind an earlier declaration is of one thing with it, and with those before it.
use Rattle.std.proofs.Common.{◌≡◌, ℕ, Bool, true, false, cond, ◌&&◌, ◌||◌, List, [], ◌∷◌, Option, Some, None, refl, sym, ap, ◌∙◌, subst}
use Rattle.std.specs.Option.{option_or}
use Rattle.std.specs.Str.{bytes_eq}
use Rattle.c_types.specs.declared.ctype.Part.{Part}
use Rattle.c_tree.specs.declared.declared.Linkage.{Linkage}
use Rattle.c_tree.specs.declared.declared.Linkage.TheVariants.{NoLinkage, Internal, External, Prior}
use Rattle.c_tree.specs.declared.declared.Declared.{Declared}
use Rattle.c_tree.specs.declared.declared.Declared.TheVariants.{Object, Function, Typedef, Constant, Tag}
use Rattle.c_scope.specs.declared.space.Space.TheVariants.{Ordinary, Tag as TagSpace}
use Rattle.c_scope.specs.Blocks.{Naming, declared_in, visible, innermost, with_declaration}
use Rattle.c_scope.specs.Again.{same_part, same_linkage, linkage_of, has_linkage, settled_linkage, with_linkage, is_one_thing, merge, behind, beside, may_be_linked, declared_as}
use Rattle.c_scope.specs.Scopes.{Names, with_linked}
use Rattle.c_scope.specs.OneThing.{IsReached, begins, enters, leaves, declares, IsSameThing, IsOneWith, AreOneThing}
use Rattle.c_scope.proofs.Names.{same_name}

part_by_fields : (p q : Part) → p.number ≡ q.number → p.qualifiers.0 ≡ q.qualifiers.0 → p ≡ q
part_by_fields p q n k =
    ap (λ (x : ℕ). let r : Part = record { number = x; qualifiers = p.qualifiers } in r) n
    ∙ ap (λ (x : ℕ). let r : Part = record { number = q.number; qualifiers = record { 0 = x } } in r) k

linkage_told : (a b : Linkage) → same_linkage a b ≡ true → a ≡ b
linkage_told NoLinkage NoLinkage h = refl
linkage_told Internal Internal h = refl
linkage_told External External h = refl
linkage_told Prior Prior h = refl
linkage_told _ _ h = cc

-- what stood before is still the same thing
merge_is_same : (a b : Declared) → is_one_thing a b ≡ true → IsSameThing (merge a b) a
merge_is_same (Object a) (Object b) h = (refl, refl)
merge_is_same (Function a) (Function b) h = (refl, refl)
merge_is_same (Object a) (Function b) h = cc
merge_is_same (Object a) (Typedef b) h = cc
merge_is_same (Object a) (Constant b) h = cc
merge_is_same (Object a) (Tag b) h = cc
merge_is_same (Function a) (Object b) h = cc
merge_is_same (Function a) (Typedef b) h = cc
merge_is_same (Function a) (Constant b) h = cc
merge_is_same (Function a) (Tag b) h = cc
merge_is_same (Typedef a) _ h = cc
merge_is_same (Constant a) _ h = cc
merge_is_same (Tag a) _ h = cc

same_transitive : (a b c : Declared) → IsSameThing a b → IsSameThing b c → IsSameThing a c
same_transitive (Object a) (Object b) (Object c) h k = (h.0 ∙ k.0, h.1 ∙ k.1)
same_transitive (Function a) (Function b) (Function c) h k = (h.0 ∙ k.0, h.1 ∙ k.1)
same_transitive (Object a) (Object b) (Function c) h k = absurd k
same_transitive (Object a) (Object b) (Typedef c) h k = absurd k
same_transitive (Object a) (Object b) (Constant c) h k = absurd k
same_transitive (Object a) (Object b) (Tag c) h k = absurd k
same_transitive (Function a) (Function b) (Object c) h k = absurd k
same_transitive (Function a) (Function b) (Typedef c) h k = absurd k
same_transitive (Function a) (Function b) (Constant c) h k = absurd k
same_transitive (Function a) (Function b) (Tag c) h k = absurd k
same_transitive (Object a) (Function b) c h k = absurd h
same_transitive (Object a) (Typedef b) c h k = absurd h
same_transitive (Object a) (Constant b) c h k = absurd h
same_transitive (Object a) (Tag b) c h k = absurd h
same_transitive (Function a) (Object b) c h k = absurd h
same_transitive (Function a) (Typedef b) c h k = absurd h
same_transitive (Function a) (Constant b) c h k = absurd h
same_transitive (Function a) (Tag b) c h k = absurd h
same_transitive (Typedef a) b c h k = absurd h
same_transitive (Constant a) b c h k = absurd h
same_transitive (Tag a) b c h k = absurd h

-- a name that isn't declared is one with nothing
one_with_none : (name : List ℕ) (what : Declared) (block : List Naming) → declared_in name block ≡ None → IsOneWith (record { name = name; what = what }) block
one_with_none name what [] h = tt
one_with_none name what (e ∷ older) h = by (bytes_eq name e.name) refl (one_with_none name what older)
  where
    by : (b : Bool) → bytes_eq name e.name ≡ b → (declared_in name older ≡ None → IsOneWith (record { name = name; what = what }) older) → IsOneWith (record { name = name; what = what }) (e ∷ older)
    by true t rest = let clash : Some e.what ≡ None = sym (ap (λ b. cond b (Some e.what) (declared_in name older)) t) ∙ h in cc
    by false t rest =
        (λ same. let clash : true ≡ false = sym same ∙ t in cc, rest (sym (ap (λ b. cond b (Some e.what) (declared_in name older)) t) ∙ h))

-- what is the same thing as the first is the same as all that the first is one with
carried : (name : List ℕ) (what : Declared) (d : Naming) (older : List Naming) → name ≡ d.name → IsSameThing what d.what → IsOneWith d older → IsOneWith (record { name = name; what = what }) older
carried name what d [] n s h = tt
carried name what d (e ∷ older) n s h =
    (λ same. same_transitive what d.what e.what s (h.0 (ap (λ (x : List ℕ). bytes_eq x e.name) (sym n) ∙ same)), carried name what d older n s h.1)

-- a declaration of the same thing as the newest of its name is one with all
one_with_newest : (name : List ℕ) (what before : Declared) (block : List Naming) → declared_in name block ≡ Some before → IsSameThing what before → AreOneThing block → IsOneWith (record { name = name; what = what }) block
one_with_newest name what before [] h s ok = cc
one_with_newest name what before (e ∷ older) h s ok = by (bytes_eq name e.name) refl (λ rest. one_with_newest name what before older rest s ok.1)
  where
    by : (b : Bool) → bytes_eq name e.name ≡ b → (declared_in name older ≡ Some before → IsOneWith (record { name = name; what = what }) older) → IsOneWith (record { name = name; what = what }) (e ∷ older)
    by true t rest =
        let there : Some e.what ≡ Some before = sym (ap (λ b. cond b (Some e.what) (declared_in name older)) t) ∙ h in
        let is : before ≡ e.what = cc in
        let same = subst (IsSameThing what) is s in
        (λ h. same, carried name what e older (same_name name e.name t) same ok.0)
    by false t rest =
        (λ same. let clash : true ≡ false = sym same ∙ t in cc, rest (sym (ap (λ b. cond b (Some e.what) (declared_in name older)) t) ∙ h))

-- ---- a declaration

behind_is_one : (name : List ℕ) (what d : Declared) (block : List Naming) (o : Option Declared) → declared_in name block ≡ o → AreOneThing block → behind o what ≡ Some d → IsOneWith (record { name = name; what = d }) block
behind_is_one name what d block None e ok h = one_with_none name d block e
behind_is_one name what d block (Some before) e ok h = by (is_one_thing before what) refl
  where
    by : (b : Bool) → is_one_thing before what ≡ b → IsOneWith (record { name = name; what = d }) block
    by true t =
        let is : Some (merge before what) ≡ Some d = sym (ap (λ b. cond b (Some (merge before what)) None) t) ∙ h in
        let same : merge before what ≡ d = cc in
        one_with_newest name d before block e (subst (λ x. IsSameThing x before) same (merge_is_same before what t)) ok
    by false t = let clash : None ≡ Some d = sym (ap (λ b. cond b (Some (merge before what)) None) t) ∙ h in cc

-- a declaration without linkage declares something without
beside_is_unlinked : (here : Option Declared) (what d : Declared) → has_linkage what ≡ false → beside here what ≡ Some d → has_linkage d ≡ false
beside_is_unlinked None what d u h = let same : what ≡ d = cc in subst (λ x. has_linkage x ≡ false) same u
beside_is_unlinked (Some (Typedef a)) (Typedef b) d u h = by (same_part a b) refl
  where
    by : (x : Bool) → same_part a b ≡ x → has_linkage d ≡ false
    by true t = let is : Some (Typedef a) ≡ Some d = sym (ap (λ y. cond y (Some (Typedef a)) None) t) ∙ h in let same : Typedef a ≡ d = cc in subst (λ y. has_linkage y ≡ false) same refl
    by false t = let clash : None ≡ Some d = sym (ap (λ y. cond y (Some (Typedef a)) None) t) ∙ h in cc
beside_is_unlinked (Some (Tag a)) (Tag b) d u h = by (a.is_listed && b.is_listed) refl
  where
    by : (x : Bool) → (a.is_listed && b.is_listed) ≡ x → has_linkage d ≡ false
    by true t = let clash : None ≡ Some d = sym (ap (λ y. cond y None (Some (Tag (record a { is_listed = a.is_listed || b.is_listed })))) t) ∙ h in cc
    by false t =
        let is : Some (Tag (record a { is_listed = a.is_listed || b.is_listed })) ≡ Some d = sym (ap (λ y. cond y None (Some (Tag (record a { is_listed = a.is_listed || b.is_listed })))) t) ∙ h in
        let same : Tag (record a { is_listed = a.is_listed || b.is_listed }) ≡ d = cc in
        subst (λ y. has_linkage y ≡ false) same refl
beside_is_unlinked (Some (Object a)) what d u h = cc
beside_is_unlinked (Some (Function a)) what d u h = cc
beside_is_unlinked (Some (Constant a)) what d u h = cc
beside_is_unlinked (Some (Typedef a)) (Object b) d u h = cc
beside_is_unlinked (Some (Typedef a)) (Function b) d u h = cc
beside_is_unlinked (Some (Typedef a)) (Constant b) d u h = cc
beside_is_unlinked (Some (Typedef a)) (Tag b) d u h = cc
beside_is_unlinked (Some (Tag a)) (Object b) d u h = cc
beside_is_unlinked (Some (Tag a)) (Function b) d u h = cc
beside_is_unlinked (Some (Tag a)) (Typedef b) d u h = cc
beside_is_unlinked (Some (Tag a)) (Constant b) d u h = cc

or_nothing : (o : Option Declared) → option_or o None ≡ o
or_nothing None = refl
or_nothing (Some d) = refl

-- a declaration with linkage that may stand is one with those before it
declared_is_one : (here : Option Declared) (name : List ℕ) (what d : Declared) (block : List Naming) → AreOneThing block → has_linkage d ≡ true → declared_as here (visible name (block ∷ [])) what ≡ Some d → IsOneWith (record { name = name; what = d }) block
declared_is_one here name what d block ok linked h = by (has_linkage what) refl (may_be_linked here) refl
  where
    seen : visible name (block ∷ []) ≡ declared_in name block
    seen = or_nothing (declared_in name block)

    by : (x : Bool) → has_linkage what ≡ x → (y : Bool) → may_be_linked here ≡ y → IsOneWith (record { name = name; what = d }) block
    by false t y u =
        let plain : beside here what ≡ Some d = sym (ap (λ b. cond b (cond (may_be_linked here) (behind (visible name (block ∷ [])) (with_linkage (settled_linkage (visible name (block ∷ [])) (linkage_of what)) what)) None) (beside here what)) t) ∙ h in
        let clash : true ≡ false = sym linked ∙ beside_is_unlinked here what d t plain in
        cc
    by true t true u =
        let own = with_linkage (settled_linkage (visible name (block ∷ [])) (linkage_of what)) what in
        let merged_up : behind (visible name (block ∷ [])) own ≡ Some d =
        sym (ap (λ b. cond b (cond (may_be_linked here) (behind (visible name (block ∷ [])) own) None) (beside here what)) t ∙ ap (λ b. cond b (behind (visible name (block ∷ [])) own) None) u) ∙ h in
        behind_is_one name own d block (declared_in name block) refl ok (ap (λ o. behind o own) (sym seen) ∙ merged_up)
    by true t false u =
        let own = with_linkage (settled_linkage (visible name (block ∷ [])) (linkage_of what)) what in
        let clash : None ≡ Some d =
        sym (ap (λ b. cond b (cond (may_be_linked here) (behind (visible name (block ∷ [])) own) None) (beside here what)) t ∙ ap (λ b. cond b (behind (visible name (block ∷ [])) own) None) u) ∙ h in
        cc

-- the declarations with linkage are one block, of one thing for each name
pub record IsOne (linked : List (List Naming)) : Type 0 where
  pub block : List Naming
  pub alone : linked ≡ block ∷ []
  pub things : AreOneThing block

with_one : (linked : List (List Naming)) (here : Option Declared) (name : List ℕ) (what d : Declared) → IsOne linked → declared_as here (visible name linked) what ≡ Some d → IsOne (with_linked (record { name = name; what = d }) linked)
with_one linked here name what d one h = by (has_linkage d) refl
  where
    by : (b : Bool) → has_linkage d ≡ b → IsOne (with_linked (record { name = name; what = d }) linked)
    by false t = subst IsOne (sym (ap (λ b. cond b (with_declaration (record { name = name; what = d }) linked) linked) t)) one
    by true t =
        let told : declared_as here (visible name (one.block ∷ [])) what ≡ Some d = ap (λ (bs : List (List Naming)). declared_as here (visible name bs) what) (sym one.alone) ∙ h in
        let new : IsOne (with_declaration (record { name = name; what = d }) linked) = record {
          block = record { name = name; what = d } ∷ one.block;
          alone = ap (with_declaration (record { name = name; what = d })) one.alone;
          things = (declared_is_one here name what d one.block one.things t told, one.things);
        } in
        subst IsOne (sym (ap (λ b. cond b (with_declaration (record { name = name; what = d }) linked) linked) t)) new

pub reached_is_one : {names : Names} → IsReached names → IsOne names.linked
reached_is_one begins = record { block = []; alone = refl; things = tt }
reached_is_one (enters r) = reached_is_one r
reached_is_one (leaves r) = reached_is_one r
reached_is_one (declares {names} Ordinary name what d r own h) = with_one names.linked (declared_in name (innermost names.ordinary)) name what d (reached_is_one r) h
reached_is_one (declares {names} TagSpace name what d r own h) = with_one names.linked (declared_in name (innermost names.tags)) name what d (reached_is_one r) h

pub linked_are_one : (names : Names) → IsReached names → AreOneThing (innermost names.linked)
linked_are_one names r =
    let one = reached_is_one r in
    subst (λ (bs : List (List Naming)). AreOneThing (innermost bs)) (sym one.alone) one.things
