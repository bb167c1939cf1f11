-- What the bytes of a text give an array of characters.
use Rattle.std.specs.Prelude.{ℕ, nat_lt, List, [], ◌∷◌, length}
use Rattle.filc_num.specs.declared.c_int_type.CIntType.{CIntType}
use Rattle.c_expr_rules.specs.Expressions.{Around, is_too_long}
use Rattle.c_expr_rules.specs.Outcomes.{State, Checked, Rule, by_rules, ◌breaks◌}
use Rattle.c_expr_rules.specs.TypedExpressions.{type_at}
use Rattle.c_file_rules.specs.Initialising.{parts_of, bytes_given}
use Rattle.c_file_rules.specs.declared.targets.Given.{Given}
use Rattle.c_file_rules.specs.declared.targets.Target.{Target}

-- bytes are too many for an object, or for so many characters
abbrev pub text_rules : (most : ℕ) → (bytes : List ℕ) → List Rule
text_rules most bytes = 5 breaks is_too_long bytes ∷ 11 breaks nat_lt most (length bytes) ∷ []

abbrev pub text_given : Around → Target → State → (line : ℕ) → CIntType × ℕ → (bytes : List ℕ) → Checked Given
text_given around t s line characters bytes =
    by_rules line (text_rules characters.1 bytes) s
    (bytes_given around line s t characters.0 (parts_of s (type_at s t.part.number)) bytes)
