-- What holds of each element of a list holds of each of its parts, and the other way round.
use Rattle.std.proofs.Common.{◌≡◌, ◌↔◌, ℕ, List, [], ◌∷◌, ◌++◌, All, Bool, true, false, ◌&&◌, IsTrue, refl, subst}
use Rattle.std.proofs.lemmas.List.Elements.{All-append, All-nil, All-cons, All-head, All-tail}

All_left : (P : ℕ → Type 0) (xs ys : List ℕ) → All P (xs ++ ys) → All P xs
All_left P [] ys h = All-nil P
All_left P (x ∷ xs) ys h = All-cons P x xs (All-head P x (xs ++ ys) h) (All_left P xs ys (All-tail P x (xs ++ ys) h))

All_right : (P : ℕ → Type 0) (xs ys : List ℕ) → All P (xs ++ ys) → All P ys
All_right P [] ys h = h
All_right P (x ∷ xs) ys h = All_right P xs ys (All-tail P x (xs ++ ys) h)

pub two_parts : (P : ℕ → Type 0) (xs ys : List ℕ) (a b : Bool) → (IsTrue a ↔ All P xs) → (IsTrue b ↔ All P ys) → IsTrue (a && b) ↔ All P (xs ++ ys)
two_parts P xs ys true true p q = (λ h. All-append P xs ys (p.0 refl) (q.0 refl), λ h. refl)
two_parts P xs ys true false p q = (λ (h : false ≡ true). cc, λ h. q.1 (All_right P xs ys h))
two_parts P xs ys false b p q = (λ (h : false ≡ true). cc, λ h. p.1 (All_left P xs ys h))

pub three_parts : (P : ℕ → Type 0) (xs ys zs all : List ℕ) (a b c : Bool) → xs ++ ys ++ zs ≡ all → (IsTrue a ↔ All P xs) → (IsTrue b ↔ All P ys) → (IsTrue c ↔ All P zs) → IsTrue (a && b && c) ↔ All P all
three_parts P xs ys zs all a b c e p q r =
    subst (λ (l : List ℕ). IsTrue (a && b && c) ↔ All P l) e (two_parts P (xs ++ ys) zs (a && b) c (two_parts P xs ys a b p q) r)
