-- What stands inside at no room, and at room for one more.
use Rattle.std.proofs.Common.{◌≡◌, ℕ, zero, suc, ◌-◌, List, refl, ap, arith}
use Rattle.c_parts.specs.declared.lexeme.Lexeme.{Lexeme}
use Rattle.c_parts.specs.Scopes.{Scope, State}
use Rattle.c_parts.specs.Kinds.{has}
use Rattle.c_parts.specs.Reading.{Refused, deep_if}
use Rattle.c_syntax.specs.Grammar.{inner}
use Rattle.c_syntax.specs.Files.{brace, bodies, deeper_bodies, no_bodies}
use Rattle.c_file_parser.specs.declared.constructs.Construct.{Construct}
use Rattle.c_file_parser.specs.declared.constructs.Construct.TheVariants as c
use Rattle.c_file_parser.specs.Constructs.{construct_read, starts_of}

nothing-at : (what : Construct) (n : State) (ts : List Lexeme) → construct_read what no_bodies n ts ≡ Refused (deep_if (has (starts_of what)) n ts) ts
nothing-at c.Initialisers n ts = refl
nothing-at c.Block n ts = refl
nothing-at c.SwitchBody n ts = refl
nothing-at c.Header n ts = refl
nothing-at c.Under n ts = refl

pub nothing_opens : (what : Construct) (room : ℕ) (n : State) (ts : List Lexeme) → room ≡ 0 → construct_read what (bodies room) n ts ≡ Refused (deep_if (has (starts_of what)) n ts) ts
unfolding bodies
nothing_opens what zero n ts e = nothing-at what n ts
nothing_opens what (suc room) n ts e = absurd (omega (arith, e))

pub one_opens : (what : Construct) (room : ℕ) (n : State) (ts : List Lexeme) → (room ≡ 0 → ⊥) → construct_read what (bodies room) n ts ≡ construct_read what (deeper_bodies (inner (room - 1)) (bodies (room - 1))) n ts
unfolding bodies
one_opens what zero n ts h = absurd (h refl)
one_opens what (suc room) n ts h = ap (λ k. construct_read what (deeper_bodies (inner k) (bodies k)) n ts) (let e : room ≡ suc room - 1 = omega arith in e)

-- the same of a function's body
pub no_body : (scope : Scope) (room : ℕ) (n : State) (ts : List Lexeme) → room ≡ 0 → ((bodies room).body scope).read n ts ≡ Refused (deep_if (has brace) n ts) ts
unfolding bodies
no_body scope zero n ts e = refl
no_body scope (suc room) n ts e = absurd (omega (arith, e))

pub one_body : (scope : Scope) (room : ℕ) (n : State) (ts : List Lexeme) → (room ≡ 0 → ⊥) → ((bodies room).body scope).read n ts ≡ ((deeper_bodies (inner (room - 1)) (bodies (room - 1))).body scope).read n ts
unfolding bodies
one_body scope zero n ts h = absurd (h refl)
one_body scope (suc room) n ts h = ap (λ k. ((deeper_bodies (inner k) (bodies k)).body scope).read n ts) (let e : room ≡ suc room - 1 = omega arith in e)
