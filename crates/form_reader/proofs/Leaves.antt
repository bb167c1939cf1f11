-- A lexeme spells one leaf at most, and which, its first byte tells.
use Rattle.std.proofs.Common.{◌≡◌, ℕ, ◌≤◌, true, false, List, [], ◌∷◌, sym, ap, subst, ◌∙◌}
use Rattle.std.specs.Prelude.{Some, position}
use Rattle.std.specs.Fmt.{decimal}
use Rattle.std.specs.Str.{bytes_eq}
use Rattle.std.proofs.lemmas.Bool.{both_ways}
use Rattle.filc_num.specs.declared.integer.IntType.TheVariants.{I32}
use Rattle.form_tree.specs.declared.expr.Expr.{Expr}
use Rattle.form_tree.specs.declared.expr.Expr.TheVariants as expr
use Rattle.form_reader.specs.Lexemes.{Run, begins, is_letter}
use Rattle.form_reader.specs.Grammar.{IsLeaf, number, local}
use Rattle.form_reader.specs.declared.form.TheConstants.{MOST_NUMBER}
use Rattle.form_reader.proofs.Digits.{decimal-no_letter}

-- what begins with a letter is a name
pub name_only : (names : List (List ℕ)) (e : Expr) (bytes : List ℕ) (line : ℕ) → begins is_letter bytes ≡ true → IsLeaf names e (Run bytes line ∷ []) → (place : ℕ) × (position (λ name. bytes_eq name bytes) names ≡ Some place) × (e ≡ expr.Local line I32 place)
name_only names e bytes line letter (number n l small same is) =
    let text : bytes ≡ decimal n = cc in
    absurd (both_ways (begins is_letter (decimal n)) (decimal-no_letter n small) (ap (begins is_letter) (sym text) ∙ letter))
name_only names e bytes line letter (local bs l place first found same is) =
    let text : bs ≡ bytes = cc in
    let where_is : l ≡ line = cc in
    (place, subst (λ (b : List ℕ). position (λ name. bytes_eq name b) names ≡ Some place) text found, is ∙ ap (λ (m : ℕ). expr.Local m I32 place) where_is)

-- what doesn't is a number
pub number_only : (names : List (List ℕ)) (e : Expr) (bytes : List ℕ) (line : ℕ) → begins is_letter bytes ≡ false → IsLeaf names e (Run bytes line ∷ []) → (n : ℕ) × (n ≤ MOST_NUMBER) × (bytes ≡ decimal n) × (e ≡ expr.Number line I32 n)
number_only names e bytes line other (number n l small same is) =
    let text : bytes ≡ decimal n = cc in
    let where_is : l ≡ line = cc in
    (n, small, text, is ∙ ap (λ (m : ℕ). expr.Number m I32 n) where_is)
number_only names e bytes line other (local bs l place first found same is) =
    let text : bs ≡ bytes = cc in
    absurd (both_ways (begins is_letter bytes) other (ap (begins is_letter) (sym text) ∙ first))
