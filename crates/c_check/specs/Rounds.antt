-- What is round the expressions of a file, and what is known of a function value that names types.
use Rattle.std.specs.Prelude.{ℕ, [], Result, OnOk}
use denote.Ref.{Bor, MutBor}
use Rattle.c_lexer.specs.declared.tokens.Tokens.{Tokens as Kept}
use Rattle.c_syntax.specs.declared.expr.TypeName.{TypeName}
use Rattle.c_types.specs.declared.ctype.Part.{Part}
use Rattle.c_expr_rules.specs.declared.found.Fault.{Fault}
use Rattle.c_expr_rules.specs.declared.state.State.{State}
use Rattle.c_expr_rules.specs.Expressions.{Around}
use Rattle.c_expr_rules.specs.Views.{seen_state, Passes, Grows}
use Rattle.c_names.specs.declared.facts.Facts.{Facts}
use Rattle.c_file_rules.specs.Constructs.{Here}
use Rattle.c_names.specs.Code.{kind_by, here_at}
use Rattle.c_file_rules.specs.Files.{Tokens, Ahead, around_of}
use Rattle.c_file_rules.specs.Specifiers.{around_at}
use Rattle.c_check.specs.Tokens.{PlainTokens, plain_tokens, text_at, number_at, character_at, text_between, is_library_at}

-- what a file's tokens and names mean
abbrev pub tokens_of : PlainTokens → Tokens
tokens_of t =
    record {
      number = number_at t;
      character = character_at t;
      text = text_between t;
      is_library = is_library_at t;
      spelling = text_at t;
    }

abbrev pub known_ahead : Facts → Ahead
known_ahead facts = record { taken = (λ function. []); kind_of = kind_by facts.kinds }

-- round the expressions of a file, where they have no type names
abbrev pub bare_around : PlainTokens → Facts → Around
bare_around t facts = around_of (tokens_of t) (known_ahead facts) facts.bodies facts.printer

abbrev pub bare_here : PlainTokens → Facts → Here
bare_here t facts = here_at facts (bare_around t facts)

-- where so many type names may nest in them
abbrev pub round_at : PlainTokens → Facts → (room : ℕ) → Around
round_at t facts room = record (bare_around t facts) { named_type = (around_at room (bare_here t facts)).named_type }

-- ---- the function value that names types, where so many may nest

pub record NamesTypes (room : ℕ) (pre : Bor Facts → Bor Kept → MutBor State → ℕ → Bor TypeName → Type 0)
    (post : Bor Facts → Bor Kept → MutBor State → ℕ → Bor TypeName → Result Part Fault → MutBor State → Type 0) : Type 0 where
  pub callable :
      (facts : Bor Facts) (tokens : Bor Kept) (old : MutBor State) (name : Bor TypeName) → pre facts tokens old room name
  pub names :
      (facts : Bor Facts) (tokens : Bor Kept) (old new : MutBor State) (name : Bor TypeName) (r : Result Part Fault)
      → post facts tokens old room name r new
      → Passes (seen_state new.now) r ((around_at room (bare_here (plain_tokens tokens.now) facts.now)).named_type (seen_state old.now) name.now)
  pub grows :
      (facts : Bor Facts) (tokens : Bor Kept) (old new : MutBor State) (name : Bor TypeName) (r : Result Part Fault)
      → post facts tokens old room name r new → OnOk r (Grows old.now new.now)
