-- A change of the tree at one name.
use Rattle.std.proofs.Common.{◌≡◌, ◌≢◌, ℕ, Bool, true, false, List, [], Option, Some, None, refl, sym, ap, ◌∙◌, ⊎_elim, Vec, Result, Ok, Err}
use Rattle.std.specs.Result.{is_err, OnOk, OnErr}
use Rattle.std.specs.declared.alloc.Global.{Global}
use Rattle.std.specs.Option.{option_flatten, IsSome}
use Rattle.std.specs.BTreeMap as tree
use Rattle.std.specs.Cmp.{eq_by_cmp_equiv}
use Rattle.std.specs.Cmp.Lexicographic.{slice_cmp, nat_list_cmp_total}
use Rattle.std.specs.Ordering.{nat_cmp, is_eq}
use Rattle.std.specs.Map.{lookup, IsKeyTest, AreApart, KeepsOthers}
use Rattle.std.specs.Str.{bytes_eq}
use Rattle.std.proofs.lemmas.Bool.{false≢true, cases_Bool}
use Rattle.std.proofs.lemmas.Map.Text.{is_eq-slice_cmp}
use Rattle.std.proofs.lemmas.Slice.Eq.{bytes_eq-Decides}
use Rattle.c_scope.specs.Stacks.{Index, newest_known, Changes}

pub same_name : (a b : List ℕ) → bytes_eq a b ≡ true → a ≡ b
same_name a b h = (bytes_eq-Decides a b).0 h

pub other_name : (a b : List ℕ) → a ≢ b → bytes_eq a b ≡ false
other_name a b h = ⊎_elim (λ y. absurd (h (same_name a b y))) (λ n. n) (cases_Bool (bytes_eq a b))

pub names_differ : (a b : List ℕ) → bytes_eq a b ≡ false → a ≢ b
names_differ a b h e = false≢true (sym h ∙ (bytes_eq-Decides a b).1 e)

keys_apart : (bs cs : List ℕ) → bs ≢ cs → (key : Vec ℕ Global) → is_eq (slice_cmp nat_cmp bs key.items) ≡ true → is_eq (slice_cmp nat_cmp cs key.items) ≡ false
keys_apart bs cs h key e =
    let same : bs ≡ key.items = same_name bs key.items (sym (is_eq-slice_cmp bs key.items) ∙ e) in
    is_eq-slice_cmp cs key.items ∙ other_name cs key.items (λ g. h (same ∙ sym g))

keeps : {V : Type 0} (eq : Vec ℕ Global → Vec ℕ Global → Bool) (test : Vec ℕ Global → Bool) (old new : List (Vec ℕ Global × V)) → KeepsOthers eq test old new → (other : Vec ℕ Global → Bool) → IsKeyTest eq other → AreApart test other → lookup other new ≡ lookup other old
unfolding KeepsOthers
keeps eq test old new h = h

pub changed_by : (old new : Index) (name : List ℕ) (w : Option ℕ) → tree.UpdatesBy (λ x y. slice_cmp nat_cmp x.items y.items) (λ key. slice_cmp nat_cmp name key.items) old new (Some w) → Changes (newest_known old) (newest_known new) name w
changed_by old new name w h = record {
  here = ap option_flatten h.1;
  others = λ other apart. ap option_flatten (keeps _ _ _ _ h.3 _ (λ x y. (eq_by_cmp_equiv nat_list_cmp_total).congr other x.items y.items) (keys_apart name other apart));
}

some_inside : (o : Option (Option ℕ)) (i : ℕ) → option_flatten o ≡ Some i → IsSome o
some_inside None i h = cc
some_inside (Some x) i h = refl

-- a name that leads to a declaration is known
pub known : (index : Index) (name : List ℕ) (i : ℕ) → newest_known index name ≡ Some i → IsSome (tree.get_by (λ key. slice_cmp nat_cmp name key.items) index)
known index name i h = some_inside (tree.get_by (λ key. slice_cmp nat_cmp name key.items) index) i h

-- a tree that is unchanged
pub same_newest : (old new : Index) → tree.IsUnchanged old new → (name : List ℕ) → newest_known new name ≡ newest_known old name
same_newest old new h name = ap (λ (es : List (Vec ℕ Global × Option ℕ)). option_flatten (lookup (λ key. is_eq (slice_cmp nat_cmp name key.items)) es)) h

-- in an empty tree no name leads anywhere
pub nowhere : (index : Index) → index.entries ≡ [] → (name : List ℕ) → newest_known index name ≡ None
nowhere index none name = ap (λ (es : List (Vec ℕ Global × Option ℕ)). option_flatten (lookup (λ key. is_eq (slice_cmp nat_cmp name key.items)) es)) none

-- what holds where a result is known to be `Ok`
pub on_ok : {T E : Type 0} (r : Result T E) (P : Type 0) → is_err r ≡ false → OnOk r P → P
on_ok (Ok x) P e h = h
on_ok (Err x) P e h = cc

pub on_err : {T E : Type 0} (r : Result T E) (P : Type 0) → is_err r ≡ true → OnErr r P → P
on_err (Ok x) P e h = cc
on_err (Err x) P e h = h
