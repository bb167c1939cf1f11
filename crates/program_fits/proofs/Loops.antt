-- A test of parts, one after the other, and a loop that stops at the first element that doesn't fit.
use Rattle.std.proofs.Common.{◌≡◌, ℕ, ◌+◌, ◌<◌, ◌≤◌, ◌↔◌, IsTrue, IfOk, All, Result, Ok, Err, Bool, true, false, List, [], ◌∷◌, length, get_or, take, map, refl, sym, ◌∙◌, subst}
use Rattle.std.proofs.lemmas.Bool.{false≢true}
use Rattle.std.proofs.lemmas.List.{take_all}
use Rattle.std.proofs.lemmas.List.Elements.{All-nil, All-cons, All-head, All-tail, All-more}

pub no_true : {P : Type 0} → (P → ⊥) → IsTrue false ↔ P
no_true lacks = (λ h. absurd (false≢true h), λ p. absurd (lacks p))

-- a test that failed
pub fails : {P : Type 0} (r : Bool) → (IsTrue r ↔ P) → r ≡ false → P → ⊥
fails r says e p = false≢true (sym e ∙ says.1 p)

-- ---- parts

pub itself : (P : Type 0) → P ↔ P
itself P = (λ p. p, λ p. p)

-- the first part is there, so the second decides
pub second_decides : {A B E : Type 0} → E ↔ (A × B) → A → E ↔ B
second_decides view a = (λ e. (view.0 e).1, λ p. view.1 (a, p))

-- the first part isn't there
pub first_lacks : {A B E : Type 0} → E ↔ (A × B) → (A → ⊥) → E → ⊥
first_lacks view lacks e = lacks (view.0 e).0

pub follows : {P Q : Type 0} (r : Bool) → Q ↔ P → IsTrue r ↔ P → IsTrue r ↔ Q
follows r view says = (λ t. view.1 (says.0 t), λ q. says.1 (view.0 q))

pub follows_ok : {P Q F : Type 0} (r : Result Bool F) → Q ↔ P → IfOk r (λ (t : Bool). IsTrue t ↔ P) → IfOk r (λ (t : Bool). IsTrue t ↔ Q)
follows_ok (Ok t) view says = (λ h. view.1 (says.0 h), λ q. says.1 (view.0 q))
follows_ok (Err e) view says = says

-- ---- loops

pub stops : {X : Type 0} (P : X → Type 0) (xs : List X) (i : ℕ) (x : X) → i < length xs → x ≡ get_or xs i x → (P x → ⊥) → All P xs → ⊥
stops P xs i x within is lacks all = lacks (subst P (sym is) (all i x within))

pub goes_on : {X : Type 0} (P : X → Type 0) (xs : List X) (i : ℕ) (x : X) → i < length xs → x ≡ get_or xs i x → P x → All P (take i xs) → All P (take (i + 1) xs)
goes_on P xs i x within is here before = All-more P xs i x within before (subst P is here)

pub ends : {X : Type 0} (P : X → Type 0) (xs : List X) (i : ℕ) → length xs ≤ i → All P (take i xs) → IsTrue true ↔ All P xs
ends P xs i past before = (λ _. subst (All P) (take_all i xs past) before, λ _. refl)

-- what holds of each image holds of each element
pub All-unmap : {X Y : Type 0} (P : X → Type 0) (f : Y → X) (ys : List Y) → All P (map f ys) → All (λ y. P (f y)) ys
All-unmap P f [] h = All-nil (λ y. P (f y))
All-unmap P f (y ∷ ys) h = All-cons (λ y. P (f y)) y ys (All-head P (f y) (map f ys) h) (All-unmap P f ys (All-tail P (f y) (map f ys) h))
