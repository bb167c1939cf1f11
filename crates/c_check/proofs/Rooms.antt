-- What a type name names at no room, and at room for one more.
use Rattle.std.proofs.Common.{◌≡◌, ℕ, zero, suc, ◌-◌, true, [], ◌∷◌, refl, sym, ap, ◌∙◌, arith}
use denote.Hole.Carrier
use Rattle.c_syntax.specs.declared.expr.TypeName.{TypeName, TypeName', out-TypeName}
use Rattle.c_expr_rules.specs.Expressions.{Around}
use Rattle.c_expr_rules.specs.Outcomes.{State, by_rules, ◌breaks◌}
use Rattle.c_expr_rules.specs.TypedExpressions.{part_of}
use Rattle.c_names.specs.Code.{here_at}
use Rattle.c_check.specs.Rounds.{bare_here, round_at}
use Rattle.c_file_rules.specs.Specifiers.{around_at, type_named}
use Rattle.c_check.specs.Tokens.{PlainTokens}
use Rattle.c_names.specs.declared.facts.Facts.{Facts}

pub no_room : (t : PlainTokens) (facts : Facts) (room : ℕ) (s : State) (name : TypeName) → room ≡ 0
    → (around_at room (bare_here t facts)).named_type s name ≡ by_rules (out-TypeName name).span.line (3 breaks true ∷ []) s (part_of 0 0)
unfolding out-TypeName Carrier.out
no_room t facts zero s (TypeName' span specifiers d) e = refl
no_room t facts (suc room) s name e = absurd (omega (arith, e))

-- in room for so many type names nothing but what they name is other
same_round : (t : PlainTokens) (facts : Facts) (room : ℕ) → round_at t facts room ≡ around_at room (bare_here t facts)
same_round t facts zero = refl
same_round t facts (suc room) = refl

pub one_room : (t : PlainTokens) (facts : Facts) (room : ℕ) (s : State) (name : TypeName) → (room ≡ 0 → ⊥)
    → (around_at room (bare_here t facts)).named_type s name ≡ type_named (here_at facts (round_at t facts (room - 1))) s name
one_room t facts zero s name h = absurd (h refl)
one_room t facts (suc room) s name h =
    sym (ap (λ (a : Around). type_named (record (bare_here t facts) { around = a }) s name) (same_round t facts room))
    ∙ ap (λ k. type_named (here_at facts (round_at t facts k)) s name) (let e : room ≡ suc room - 1 = omega arith in e)
