-- The rules of the whole: behind them `main` is there.
use Rattle.std.specs.Prelude.{codes, nat_lt}
use Rattle.std.specs.List.{filter_map}
use Rattle.c_rules.specs.declared.fault.CheckFault.{CheckFault}
use Rattle.c_expr_rules.specs.declared.found.Broken.{Broken as Found}
use Rattle.c_expr_rules.specs.Views.{seen_broken}
use Rattle.c_file_rules.specs.Files.{body_spelled}
use Rattle.c_file_rules.specs.Statics.{statics_below}
use Rattle.c_objects.specs.Closing.{seen_some}
use Rattle.c_check.specs.Answers.{IsClosed, IsEnding, refusal_of, whole_at}
use Rattle.c_check.specs.Tokens.{PlainTokens, text_at}
use Rattle.std.proofs.Common.{◌≡◌, ℕ, List, [], ◌∷◌, ap, subst, ◌∙◌, sym, Option, Some, None, length}
use Rattle.c_expr_rules.specs.Outcomes.{State, Broken, Fine, Broke}
use Rattle.c_file_rules.specs.declared.made.Made.{Made}
use Rattle.c_file_rules.specs.Files.{Whole, at, first_broken, first_line, first_of, line_if, linked_in, too_many_values, undefined_function, undefined_object, words_in, closing, closed, outcome_of}
use Rattle.c_objects.specs.Closing.{closing_by}

third_is_none : (a b : Option Broken) (h : Broken) (rest : List (Option Broken))
    → first_broken (a ∷ b ∷ Some h ∷ rest) ≡ None → ⊥
third_is_none (Some a) b h rest e = cc
third_is_none None (Some b) h rest e = cc
third_is_none None None h rest e = cc

without_main : (s : State) (functions : List Made) (words : ℕ) → closing_by s functions words None ≡ None → ⊥
without_main s functions words e =
    third_is_none
    (at 34 (first_line (filter_map (undefined_function (length functions)) s.used)))
    (at 35 (first_line (filter_map (undefined_object (linked_in s)) s.used)))
    (record { rule = 39; line = 1 })
    (at 37 (line_if (nat_lt 4000 (length functions)) 1)
    ∷ at 38 (line_if (nat_lt 262144 words) 1)
    ∷ at 36 (first_of (filter_map too_many_values functions))
    ∷ [])
    e

pub main_missing : (s : State) (functions : List Made) (words : ℕ) (main : Option ℕ) (found : Option Found) → main ≡ None → found ≡ None
    → seen_some found ≡ closing_by s functions words main → ⊥
main_missing s functions words main found m n e =
    without_main s functions words (sym (ap (closing_by s functions words) m) ∙ sym e ∙ ap seen_some n)

-- with the words counted the code's rules are those of the definition
pub closing_same : (s : State) (w : Whole) (words : ℕ) → words ≡ words_in w.statics
    → closing_by s w.functions words w.main ≡ first_broken (closing s w)
closing_same s w words e = ap (λ n. closing_by s w.functions n w.main) e

pub closed_fine : (s : State) (w : Whole) → first_broken (closing s w) ≡ None → closed s w ≡ Fine s w
closed_fine s w e = ap (outcome_of s w) e

pub closed_broke : (s : State) (w : Whole) (b : Broken) → first_broken (closing s w) ≡ Some b → closed s w ≡ Broke b
closed_broke s w b e = ap (outcome_of s w) e

-- ---- as the code looks at them

by_words : (t : PlainTokens) (bodies : List ℕ) (s : State) (functions : List Made) (words : ℕ) (main : Option ℕ)
    → words ≡ words_in (statics_below s s.next_static) → main ≡ body_spelled (text_at t) (codes "main") 0 bodies
    → closing_by s functions words main ≡ first_broken (closing s (whole_at t bodies s functions))
by_words t bodies s functions words main e m =
    ap (closing_by s functions words) m ∙ closing_same s (whole_at t bodies s functions) words e

-- what the code found is what the definition finds
found_there : (t : PlainTokens) (bodies : List ℕ) (s : State) (functions list : List Made) (words : ℕ) (main : Option ℕ) (found : Option Found)
    → list ≡ functions → words ≡ words_in (statics_below s s.next_static) → main ≡ body_spelled (text_at t) (codes "main") 0 bodies
    → seen_some found ≡ closing_by s list words main → first_broken (closing s (whole_at t bodies s functions)) ≡ seen_some found
found_there t bodies s functions list words main found l e m h =
    sym (by_words t bodies s functions words main e m) ∙ ap (λ xs. closing_by s xs words main) (sym l) ∙ sym h

pub ending_broken : (t : PlainTokens) (bodies : List ℕ) (s : State) (functions list : List Made) (words : ℕ) (main : Option ℕ) (found : Option Found)
    (b : Found) (f : CheckFault) → list ≡ functions → words ≡ words_in (statics_below s s.next_static)
    → main ≡ body_spelled (text_at t) (codes "main") 0 bodies → seen_some found ≡ closing_by s list words main → found ≡ Some b
    → f ≡ refusal_of b → IsEnding t bodies s functions f
ending_broken t bodies s functions list words main found b f l e m h there r =
    let k : first_broken (closing s (whole_at t bodies s functions)) ≡ Some (seen_broken b) =
    found_there t bodies s functions list words main found l e m h ∙ ap seen_some there in
    subst (IsEnding t bodies s functions) (sym r) k

pub ending_fine : (t : PlainTokens) (bodies : List ℕ) (s : State) (functions list : List Made) (words : ℕ) (main : Option ℕ) (found : Option Found)
    (n : ℕ) → list ≡ functions → words ≡ words_in (statics_below s s.next_static)
    → main ≡ body_spelled (text_at t) (codes "main") 0 bodies → seen_some found ≡ closing_by s list words main → found ≡ None
    → main ≡ Some n → IsClosed t bodies s functions n
ending_fine t bodies s functions list words main found n l e m h none there =
    record {
      accepted =
          closed_fine s (whole_at t bodies s functions)
          (found_there t bodies s functions list words main found l e m h ∙ ap seen_some none);
      main_is = sym m ∙ there;
    }
