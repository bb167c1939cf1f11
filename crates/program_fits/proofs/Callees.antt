-- Functions by their kinds, and the homes from either end.
use Rattle.std.proofs.Common.{◌≡◌, ℕ, ◌↔◌, IsTrue, All, Contains, Bool, eqb, List, [], ◌∷◌, ◌++◌, map, reverse, Decides, inl, inr, sym, subst}
use Rattle.std.proofs.lemmas.Bool.Decides.{Decides-eqb}
use Rattle.std.proofs.lemmas.List.{reverse-append, reverse-reverse}
use Rattle.std.proofs.lemmas.List.Elements.{All-map, All-weaker, contains_decides, Decides-contains, Contains-append_cases, Contains-append_left, Contains-append_right}
use Rattle.std.specs.List.{IsAnyAnswer}
use Rattle.c_tree.specs.declared.program.FunctionDef.{FunctionDef}
use Rattle.c_tree.specs.Operands.{Callee}
use Rattle.c_tree.specs.Fits.{callee_of, TakesItsArgument}
use Rattle.program_fits.proofs.Loops.{All-unmap}

abbrev pub TakesAs : ℕ → ℕ → Callee → Type 0
TakesAs kind n c = c.kind ≡ kind → n ≡ c.parameters

-- what each function keeps as those see it that call it
pub over_callees :
    (kind n : ℕ) (r : Bool) (fs : List FunctionDef) (cs : List Callee) → map callee_of fs ≡ cs → IsTrue r ↔ All (λ (f : FunctionDef). TakesAs kind n (callee_of f)) fs →
    IsTrue r ↔ All (TakesAs kind n) cs
over_callees kind n r fs cs same says = (
  λ t. subst (λ (l : List Callee). All (TakesAs kind n) l) same (All-map (TakesAs kind n) callee_of fs (says.0 t)),
  λ all. says.1 (All-unmap (TakesAs kind n) callee_of fs (subst (λ (l : List Callee). All (TakesAs kind n) l) (sym same) all)),
)

pub threads : (r : Bool) (cs : List Callee) → IsTrue r ↔ All (TakesAs 0 1) cs → IsTrue r ↔ All TakesItsArgument cs
threads r cs says = (
  λ t. All-weaker (TakesAs 0 1) TakesItsArgument (λ c h k. sym (h k)) cs (says.0 t),
  λ all. says.1 (All-weaker TakesItsArgument (TakesAs 0 1) (λ c h k. sym (h k)) cs all),
)

contains_reverse : (xs : List ℕ) (x : ℕ) → Contains xs x → Contains (reverse xs) x
contains_reverse [] x h = h
contains_reverse (y ∷ ys) x h =
    let rest : Contains ys x → Contains (reverse ys) x = λ p. contains_reverse ys x p in
    let cases = Contains-append_cases (y ∷ []) ys x h in
    let there : Contains (reverse ys ++ (y ∷ [])) x =
    elim cases [
      | inl a ↦ Contains-append_right (reverse ys) (y ∷ []) x a
      | inr p ↦ Contains-append_left (reverse ys) (y ∷ []) x (rest p)
    ]
    in
    subst (λ (l : List ℕ). Contains l x) (sym (reverse-append (y ∷ []) ys)) there

-- what is sought from one end is sought from the other
pub sought :
    (xs homes : List ℕ) (x : ℕ) (r : Bool) → reverse xs ≡ homes → IsAnyAnswer (λ y t. eqb y x ≡ t) xs r → IsTrue r ↔ Contains homes x
sought xs homes x r same answer =
    let found : Decides r (Contains xs x) = Decides-contains xs x r (contains_decides eqb Decides-eqb xs x r answer) in (
      λ t. subst (λ (l : List ℕ). Contains l x) same (contains_reverse xs x (found.0 t)),
      λ h.
          let turned : Contains (reverse xs) x = subst (λ (l : List ℕ). Contains l x) (sym same) h in
          found.1 (subst (λ (l : List ℕ). Contains l x) (reverse-reverse xs) (contains_reverse (reverse xs) x turned)),
    )
