-- What stands inside at no room, and at room for one more.
use Rattle.std.proofs.Common.{◌≡◌, ℕ, zero, suc, ◌-◌, List, refl, ap, arith}
use Rattle.c_parts.specs.declared.lexeme.Lexeme.{Lexeme}
use Rattle.c_parts.specs.Scopes.{State}
use Rattle.c_parts.specs.Kinds.{has}
use Rattle.c_parts.specs.Reading.{Refused, deep_if}
use Rattle.c_syntax.specs.Grammar.{inner, deeper, nowhere}
use Rattle.c_expr_parser.specs.declared.opened.What.{What}
use Rattle.c_expr_parser.specs.declared.opened.What.TheVariants as w
use Rattle.c_expr_parser.specs.Opened.{opened_read, starts_of}

nothing-at : (what : What) (n : State) (ts : List Lexeme) → opened_read what nowhere n ts ≡ Refused (deep_if (has (starts_of what)) n ts) ts
nothing-at w.Parens n ts = refl
nothing-at w.TypeParens n ts = refl
nothing-at w.AtomicParens n ts = refl
nothing-at w.Index n ts = refl
nothing-at w.Call n ts = refl
nothing-at w.Prefixed n ts = refl
nothing-at w.Converted n ts = refl
nothing-at w.Right n ts = refl
nothing-at w.Choice n ts = refl
nothing-at w.Members n ts = refl
nothing-at w.Constants n ts = refl
nothing-at w.Declarator n ts = refl
nothing-at w.Abstract n ts = refl
nothing-at w.Parameter n ts = refl
nothing-at w.Array n ts = refl
nothing-at w.Function n ts = refl
nothing-at w.Asserted n ts = refl

pub nothing_opens : (what : What) (room : ℕ) (n : State) (ts : List Lexeme) → room ≡ 0 → opened_read what (inner room) n ts ≡ Refused (deep_if (has (starts_of what)) n ts) ts
unfolding inner
nothing_opens what zero n ts e = nothing-at what n ts
nothing_opens what (suc room) n ts e = absurd (omega (arith, e))

pub one_opens : (what : What) (room : ℕ) (n : State) (ts : List Lexeme) → (room ≡ 0 → ⊥) → opened_read what (inner room) n ts ≡ opened_read what (deeper (inner (room - 1))) n ts
unfolding inner
one_opens what zero n ts h = absurd (h refl)
one_opens what (suc room) n ts h = ap (λ k. opened_read what (deeper (inner k)) n ts) (let e : room ≡ suc room - 1 = omega arith in e)
