-- What is round a construct is the same in the code and in the definition.
use Rattle.std.proofs.Common.{◌≡◌, ℕ, Bool, List, refl, ap, ◌∙◌, Option, Some, None}
use Rattle.std.specs.Prelude.{slice_get, option_map}
use Rattle.std.proofs.Math.Path.{fun_ext}
use Rattle.std.proofs.lemmas.Option.{slice_get-map}
use Rattle.c_lexer.specs.declared.token.Token.{Token}
use Rattle.c_names.specs.declared.facts.Facts.{Facts}
use Rattle.c_names.specs.Code.{here_at, is_flagged, is_library_in, function_number_in}
use Rattle.c_file_rules.specs.Constructs.{Here}
use Rattle.c_file_rules.specs.Files.{here_of}
use Rattle.c_file_rules.specs.Specifiers.{with_named_types}
use Rattle.c_check.specs.Going.{IsOfFile, ahead_of}
use Rattle.c_check.specs.Rounds.{bare_around, round_at, tokens_of}
use Rattle.c_check.specs.Tokens.{PlainTokens, library_flags, is_library_at, is_library_token}

flag : (o : Option Token) → is_flagged (option_map (λ (t : Token). t.library) o) ≡ is_library_token o
flag None = refl
flag (Some t) = refl

library_same : (t : PlainTokens) (facts : Facts) → facts.library.items ≡ library_flags t → (token : ℕ)
    → is_library_in facts token ≡ is_library_at t token
library_same t facts e token =
    ap (λ l. is_flagged (slice_get l token)) e
    ∙ ap is_flagged (slice_get-map (λ (x : Token). x.library) t.list token)
    ∙ flag (slice_get t.list token)

abbrev here_with : PlainTokens → Facts → (ℕ → Bool) → Here
here_with t facts is_library =
    with_named_types (record {
      around = bare_around t facts;
      function_number = function_number_in facts (bare_around t facts);
      is_library = is_library;
    })

pub here_same : (t : PlainTokens) (facts : Facts) (homes : List (List ℕ)) → IsOfFile t facts
    → here_at facts (round_at t facts 201) ≡ here_of (tokens_of t) (ahead_of facts.kinds homes) facts.bodies facts.printer
here_same t facts homes h = ap (here_with t facts) (fun_ext (library_same t facts h.library))
