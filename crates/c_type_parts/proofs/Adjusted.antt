-- The types of parameters one after the other.
use Rattle.std.proofs.lemmas.List.{drop_more}
use Rattle.std.proofs.Common.{◌≡◌, ℕ, ◌+◌, ◌<◌, length, get_or, drop, subst, List, [], ◌∷◌, ◌++◌, refl, sym, ap, ◌∙◌, append_assoc}
use Rattle.std.specs.Prelude.{Result}
use Rattle.c_types.specs.Extensions.{Table}
use Rattle.c_declarators.specs.declared.parameters.ParameterType.{ParameterType}
use Rattle.c_file_rules.specs.Declarators.{adjusted_one, adjusted_types}

-- the numbers so far, and those of the rest, are these
abbrev pub AreTypes : Table × List ℕ → Table → List ℕ → List ParameterType → Type 0
AreTypes all t numbers rest = ((adjusted_types t rest).0 ≡ all.0) × (numbers ++ (adjusted_types t rest).1 ≡ all.1)

pub next_type :
    (all : Table × List ℕ) (t new : Table) (numbers more : List ℕ) (p : ParameterType) (rest : List ParameterType) →
    new ≡ (adjusted_one t p.ty).0 → more ≡ numbers ++ (adjusted_one t p.ty).1 → AreTypes all t numbers (p ∷ rest) → AreTypes all new more rest
next_type all t new numbers more p rest grown gives so_far = (
  ap (λ (x : Table). (adjusted_types x rest).0) grown ∙ so_far.0,
  ap (λ (x : Table). more ++ (adjusted_types x rest).1) grown
      ∙ ap (λ (xs : List ℕ). xs ++ (adjusted_types (adjusted_one t p.ty).0 rest).1) gives
      ∙ append_assoc numbers (adjusted_one t p.ty).1 (adjusted_types (adjusted_one t p.ty).0 rest).1
      ∙ so_far.1,
)

-- the next parameter is the one at the index
pub next_type_at :
    (all : Table × List ℕ) (t new : Table) (numbers more : List ℕ) (ps : List ParameterType) (i : ℕ) (d p : ParameterType) →
    i < length ps → p ≡ get_or ps i d → new ≡ (adjusted_one t p.ty).0 → more ≡ numbers ++ (adjusted_one t p.ty).1 →
    AreTypes all t numbers (drop i ps) → AreTypes all new more (drop (i + 1) ps)
next_type_at all t new numbers more ps i d p within at grown gives so_far =
    next_type all t new numbers more p (drop (i + 1) ps) grown gives
    (subst (AreTypes all t numbers) (drop_more ps i d within ∙ ap (λ (x : ParameterType). x ∷ drop (i + 1) ps) (sym at)) so_far)
