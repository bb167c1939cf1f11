-- A declaration changes no number of blocks, and is the one that is taken back.
use Rattle.std.proofs.Common.{◌≡◌, ◌<◌, List, [], ◌∷◌, length, Result, Ok, Err, refl, ap, ◌∙◌, arith}
use Rattle.std.specs.Result.{OnOk, IfErr}
use Rattle.c_scope.specs.Blocks.{Naming, with_declaration, without_newest}

pub length-declaration : (d : Naming) (blocks : List (List Naming)) → 0 < length blocks → length (with_declaration d blocks) ≡ length blocks
length-declaration d [] some = absurd (omega arith)
length-declaration d (block ∷ outer) some = refl

-- the same, under a name that a tactic's list can have
pub declared_depth : (d : Naming) (blocks : List (List Naming)) → 0 < length blocks → length (with_declaration d blocks) ≡ length blocks
declared_depth d blocks some = length-declaration d blocks some

pub declared_and_taken : (d : Naming) (blocks : List (List Naming)) → 0 < length blocks → without_newest (with_declaration d blocks) ≡ blocks
declared_and_taken d [] some = absurd (omega arith)
declared_and_taken d (block ∷ outer) some = refl

-- what a declaration leaves, whether it is made or not
pub same_length : {F : Type 0} (r : Result (Unit {0}) F) (d : Naming) (old new : List (List Naming)) (P : F → Type 0) (Q : Type 0) → 0 < length old → OnOk r (new ≡ with_declaration d old) → IfErr r (λ fault. P fault × (new ≡ old) × Q) → length new ≡ length old
same_length (Ok x) d old new P Q some ok err = ap length ok ∙ length-declaration d old some
same_length (Err f) d old new P Q some ok err = ap length err.1
