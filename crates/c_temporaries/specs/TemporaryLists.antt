-- The greatest need over the lists that the code sees of a tree.
use Rattle.std.specs.Prelude.{ℕ, suc, ◌+◌, ◌-◌, ◌^◌, max, min, List, [], ◌∷◌, Option, Some, None}
use Rattle.c_syntax.specs.declared.expr.Expr.{Expr}
use Rattle.c_syntax.specs.declared.expr.Link.{Link}
use Rattle.c_syntax.specs.declared.expr.Postfix.{Postfix}
use Rattle.c_syntax.specs.declared.expr.Specifier.{Specifier}
use Rattle.c_syntax.specs.declared.expr.Member.{Member}
use Rattle.c_syntax.specs.declared.expr.EnumConstant.{EnumConstant}
use Rattle.c_syntax.specs.declared.expr.Declarator.{Declarator}
use Rattle.c_syntax.specs.declared.expr.Suffix.{Suffix, out-Suffix}
use Rattle.c_syntax.specs.declared.expr.Parameter.{Parameter}
use Rattle.c_expr_rules.specs.Temporaries.{temporaries_of, operator_temporaries, specifier_temporaries, member_temporaries, constant_temporaries, declarator_temporaries, suffix_temporaries, parameter_temporaries}

-- a count as a u64 gives it: the greatest one where the count is more
abbrev pub as_u64 : ℕ → ℕ
as_u64 n = min n (2 ^ 64 - 1)

abbrev pub most_of_operators : List Postfix → ℕ
most_of_operators [] = 0
most_of_operators (o ∷ rest) = max (operator_temporaries o.kind) (most_of_operators rest)

abbrev pub most_of_arguments : (i : ℕ) → List Expr → ℕ
most_of_arguments i [] = 0
most_of_arguments i (e ∷ rest) = max (i + temporaries_of e) (most_of_arguments (suc i) rest)

abbrev pub most_of_links : List Link → ℕ
most_of_links [] = 0
most_of_links (l ∷ rest) = max (1 + temporaries_of l.operand) (most_of_links rest)

abbrev pub most_of_seconds : List Expr → ℕ
most_of_seconds [] = 0
most_of_seconds (e ∷ rest) = max (1 + temporaries_of e) (most_of_seconds rest)

abbrev pub most_of_specifiers : List Specifier → ℕ
most_of_specifiers [] = 0
most_of_specifiers (s ∷ rest) = max (specifier_temporaries s.kind) (most_of_specifiers rest)

abbrev pub most_of_members : List Member → ℕ
most_of_members [] = 0
most_of_members (m ∷ rest) = max (member_temporaries m) (most_of_members rest)

abbrev pub most_of_constants : List EnumConstant → ℕ
most_of_constants [] = 0
most_of_constants (c ∷ rest) = max (constant_temporaries c) (most_of_constants rest)

abbrev pub most_of_declarators : List Declarator → ℕ
most_of_declarators [] = 0
most_of_declarators (d ∷ rest) = max (declarator_temporaries d) (most_of_declarators rest)

abbrev pub most_of_suffixes : List Suffix → ℕ
most_of_suffixes [] = 0
most_of_suffixes (s ∷ rest) = max (suffix_temporaries (out-Suffix s).kind) (most_of_suffixes rest)

abbrev pub most_of_parameters : List Parameter → ℕ
most_of_parameters [] = 0
most_of_parameters (p ∷ rest) = max (parameter_temporaries p) (most_of_parameters rest)
