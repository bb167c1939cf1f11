-- Balanced blocks do the same in two states that differ in the `if`s around them, if both are active or neither is.
use Rattle.std.proofs.Common.{codes, ◌≡◌, ℕ, suc, ◌&&◌, ◌||◌, List, [], ◌∷◌, ◌++◌, Bool, true, false, not, cond, refl, ap, sym, subst, ◌∙◌, arith, length, drop, Option, Some, None, Result, Ok, Err}
use Rattle.c_lexer.specs.declared.token.Token.{Token}
use Rattle.c_lexer.specs.declared.token.TokenKind.TheVariants.{End}
use Rattle.c_preproc.specs.declared.directives.DirectiveWord.{DirectiveWord}
use Rattle.c_preproc.specs.declared.directives.DirectiveWord.TheVariants.{Nothing, Include, Define, Undefine, If, IfDefined, IfUndefined, ElseIf, Else, EndIf, Pragma, Unknown}
use Rattle.c_preproc.specs.declared.groups.Open.{Open}
use Rattle.c_preproc.specs.declared.groups.Step.TheVariants.{Balanced}
use Rattle.c_preproc.specs.declared.state.Group.{Group}
use Rattle.c_preproc.specs.declared.state.Group.TheVariants.{Outside, Waiting, Active, Past}
use Rattle.c_preproc.specs.declared.fault.PreFault.{PreFault}
use Rattle.c_preproc.specs.declared.fault.PreFault.TheVariants as fault
use Rattle.c_preproc.specs.Texts.{is_name, is_punctuator, same_kind, same_tokens, text_of}
use Rattle.c_preproc.specs.Directives.{Block, Plain, Directive, directive_word}
use Rattle.c_preproc.specs.Groups.{after_step, opens_after, step_of, unbalanced_line}
use Rattle.c_preproc.specs.Macros.{Macro, macro_of}
use Rattle.c_preproc.specs.Outcomes.{and_then}
use Rattle.c_preproc.specs.Expansion.{State, after_blocks, after_directive, after_group, after_token, bare, carry_out, condition_of, define, else_if, else_of, end_if, group_if, has_parameters, hash_line, is_active, is_as_wanted, is_defined, no_hash, only_name, open_by_name, or_directive, pass_over, undefine, with_expansion, with_groups, with_macro}
use Rattle.c_preproc.proofs.CutOut.{goes_on, none_open}
use Rattle.c_preproc.proofs.Carried.{directive_bytes, token_bytes}

-- a definition looks at no group
abbrev with_all : List Group → Result State PreFault → Result State PreFault
with_all groups (Ok s) = Ok (with_groups s groups)
with_all groups (Err why) = Err why

define-groups : (line : ℕ) (s : State) (groups : List Group) (tokens : List Token) → define line (with_groups s groups) tokens ≡ with_all groups (define line s tokens)
define-groups line s groups [] = refl
define-groups line s groups (name ∷ body) = by (not (is_name name) || has_parameters s.definitions.bytes name body) (macro_of s.definitions.macros (text_of s.definitions.bytes name)) (hash_line s.definitions.bytes body)
  where
    macro : Macro
    macro = record { name = text_of s.definitions.bytes name; body = body }

    by_same : (b : Bool) (h : Option ℕ) → and_then (cond b (Ok (with_groups s groups)) (Err (fault.Directive line))) (no_hash h) ≡ with_all groups (and_then (cond b (Ok s) (Err (fault.Directive line))) (no_hash h))
    by_same true None = refl
    by_same true (Some at) = refl
    by_same false h = refl

    by : (b : Bool) (o : Option Macro) (h : Option ℕ) → cond b (Err (fault.Directive line)) (and_then (with_macro line (with_groups s groups) macro o) (no_hash h)) ≡ with_all groups (cond b (Err (fault.Directive line)) (and_then (with_macro line s macro o) (no_hash h)))
    by true o h = refl
    by false None None = refl
    by false None (Some at) = refl
    by false (Some old) h = by_same (same_tokens s.definitions.bytes old.body body) h

module _ (one two : List Group) (alike : is_active one ≡ is_active two) where
  active-inside : (inner : List Group) → is_active (inner ++ one) ≡ is_active (inner ++ two)
  active-inside [] = alike
  active-inside (Outside ∷ inner) = refl
  active-inside (Waiting ∷ inner) = refl
  active-inside (Active ∷ inner) = refl
  active-inside (Past ∷ inner) = refl

  -- the same fault, or two states that differ in the `if`s around them
  abbrev Alike : ℕ → Result State PreFault → Result State PreFault → Type 0
  Alike n (Err why) (Err other) = why ≡ other
  Alike n (Ok a) (Ok b) = (inner : List Group) × (s : State) × (length inner ≡ n) × (a ≡ with_groups s (inner ++ one)) × (b ≡ with_groups s (inner ++ two))
  Alike n (Err why) (Ok b) = ⊥
  Alike n (Ok a) (Err why) = ⊥

  alike_all : (n : ℕ) (inner : List Group) (r : Result State PreFault) → length inner ≡ n → Alike n (with_all (inner ++ one) r) (with_all (inner ++ two) r)
  alike_all n inner (Ok s) h = (inner, s, h, refl, refl)
  alike_all n inner (Err why) h = refl

  -- a part or an end of the innermost `if`
  else_if-alike : (line : ℕ) (s : State) (tokens : List Token) (g : Group) (inner : List Group) (n : ℕ) → suc (length inner) ≡ n → Alike n (else_if line (with_groups s (g ∷ (inner ++ one))) tokens (g ∷ (inner ++ one))) (else_if line (with_groups s (g ∷ (inner ++ two))) tokens (g ∷ (inner ++ two)))
  else_if-alike line s tokens Waiting inner n h = by (condition_of s.definitions line tokens)
    where
      by : (r : Result Bool PreFault) → Alike n (and_then r (λ holds. Ok (with_groups (with_groups s (Waiting ∷ (inner ++ one))) (group_if holds ∷ (inner ++ one))))) (and_then r (λ holds. Ok (with_groups (with_groups s (Waiting ∷ (inner ++ two))) (group_if holds ∷ (inner ++ two)))))
      by (Ok holds) = (group_if holds ∷ inner, s, h, refl, refl)
      by (Err why) = refl
  else_if-alike line s tokens Outside inner n h = (Outside ∷ inner, s, h, refl, refl)
  else_if-alike line s tokens Active inner n h = (Past ∷ inner, s, h, refl, refl)
  else_if-alike line s tokens Past inner n h = (Past ∷ inner, s, h, refl, refl)

  else_of-alike : (line : ℕ) (s : State) (tokens : List Token) (g : Group) (inner : List Group) (n : ℕ) → suc (length inner) ≡ n → Alike n (else_of line (with_groups s (g ∷ (inner ++ one))) tokens (g ∷ (inner ++ one))) (else_of line (with_groups s (g ∷ (inner ++ two))) tokens (g ∷ (inner ++ two)))
  else_of-alike line s tokens g inner n h = by (bare line g tokens)
    where
      by : (r : Result Group PreFault) → Alike n (and_then r (λ group. Ok (with_groups (with_groups s (g ∷ (inner ++ one))) (after_group group ∷ (inner ++ one))))) (and_then r (λ group. Ok (with_groups (with_groups s (g ∷ (inner ++ two))) (after_group group ∷ (inner ++ two)))))
      by (Ok group) = (after_group group ∷ inner, s, h, refl, refl)
      by (Err why) = refl

  end_if-alike : (line : ℕ) (s : State) (tokens : List Token) (g : Group) (inner : List Group) (n : ℕ) → length inner ≡ n → Alike n (end_if line (with_groups s (g ∷ (inner ++ one))) tokens (g ∷ (inner ++ one))) (end_if line (with_groups s (g ∷ (inner ++ two))) tokens (g ∷ (inner ++ two)))
  end_if-alike line s tokens g inner n h = by (bare line g tokens)
    where
      by : (r : Result Group PreFault) → Alike n (and_then r (λ group. Ok (with_groups (with_groups s (g ∷ (inner ++ one))) (inner ++ one)))) (and_then r (λ group. Ok (with_groups (with_groups s (g ∷ (inner ++ two))) (inner ++ two))))
      by (Ok group) = (inner, s, h, refl, refl)
      by (Err why) = refl

  else_if-open : (line : ℕ) (s : State) (tokens : List Token) (inner : List Group) (opens : List Open) → length inner ≡ length opens → step_of ElseIf opens ≡ Balanced → Alike (length opens) (else_if line (with_groups s (inner ++ one)) tokens (inner ++ one)) (else_if line (with_groups s (inner ++ two)) tokens (inner ++ two))
  else_if-open line s tokens inner [] h e = cc
  else_if-open line s tokens [] (o ∷ opens) h e = absurd (omega arith)
  else_if-open line s tokens (g ∷ inner) (o ∷ opens) h e = else_if-alike line s tokens g inner _ h

  else_of-open : (line : ℕ) (s : State) (tokens : List Token) (inner : List Group) (opens : List Open) → length inner ≡ length opens → step_of Else opens ≡ Balanced → Alike (length (opens_after line Else opens)) (else_of line (with_groups s (inner ++ one)) tokens (inner ++ one)) (else_of line (with_groups s (inner ++ two)) tokens (inner ++ two))
  else_of-open line s tokens inner [] h e = cc
  else_of-open line s tokens [] (o ∷ opens) h e = absurd (omega arith)
  else_of-open line s tokens (g ∷ inner) (o ∷ opens) h e = else_of-alike line s tokens g inner _ h

  end_if-open : (line : ℕ) (s : State) (tokens : List Token) (inner : List Group) (opens : List Open) → length inner ≡ length opens → step_of EndIf opens ≡ Balanced → Alike (length (opens_after line EndIf opens)) (end_if line (with_groups s (inner ++ one)) tokens (inner ++ one)) (end_if line (with_groups s (inner ++ two)) tokens (inner ++ two))
  end_if-open line s tokens inner [] h e = cc
  end_if-open line s tokens [] (o ∷ opens) h e = absurd (omega arith)
  end_if-open line s tokens (g ∷ inner) (o ∷ opens) h e = end_if-alike line s tokens g inner _ (let shorter : length inner ≡ length opens = omega arith in shorter)

  name-alike : (wanted : Bool) (line : ℕ) (s : State) (tokens : List Token) (inner : List Group) (n : ℕ) → length inner ≡ n → Alike (suc n) (open_by_name wanted line (with_groups s (inner ++ one)) tokens) (open_by_name wanted line (with_groups s (inner ++ two)) tokens)
  name-alike wanted line s tokens inner n h = by (only_name tokens)
    where
      by : (o : Option Token) → Alike (suc n)
          (and_then (or_directive line o) (λ name. Ok (with_groups s (group_if (is_as_wanted wanted (is_defined s.definitions name)) ∷ (inner ++ one)))))
          (and_then (or_directive line o) (λ name. Ok (with_groups s (group_if (is_as_wanted wanted (is_defined s.definitions name)) ∷ (inner ++ two)))))
      by None = refl
      by (Some name) = (group_if (is_as_wanted wanted (is_defined s.definitions name)) ∷ inner, s, ap suc h, refl, refl)

  if-alike : (line : ℕ) (s : State) (tokens : List Token) (inner : List Group) (n : ℕ) → length inner ≡ n → Alike (suc n) (carry_out line (with_groups s (inner ++ one)) If tokens) (carry_out line (with_groups s (inner ++ two)) If tokens)
  if-alike line s tokens inner n h = by (condition_of s.definitions line tokens)
    where
      by : (r : Result Bool PreFault) → Alike (suc n) (and_then r (λ holds. Ok (with_groups s (group_if holds ∷ (inner ++ one))))) (and_then r (λ holds. Ok (with_groups s (group_if holds ∷ (inner ++ two)))))
      by (Ok holds) = (group_if holds ∷ inner, s, ap suc h, refl, refl)
      by (Err why) = refl

  undefine-alike : (line : ℕ) (s : State) (tokens : List Token) (inner : List Group) (n : ℕ) → length inner ≡ n → Alike n (carry_out line (with_groups s (inner ++ one)) Undefine tokens) (carry_out line (with_groups s (inner ++ two)) Undefine tokens)
  undefine-alike line s tokens inner n h = by (only_name tokens)
    where
      by : (o : Option Token) → Alike n (and_then (or_directive line o) (λ name. Ok (undefine (with_groups s (inner ++ one)) name))) (and_then (or_directive line o) (λ name. Ok (undefine (with_groups s (inner ++ two)) name)))
      by None = refl
      by (Some name) = (inner, undefine s name, h, refl, refl)

  define-alike : (line : ℕ) (s : State) (tokens : List Token) (inner : List Group) (n : ℕ) → length inner ≡ n → Alike n (define line (with_groups s (inner ++ one)) tokens) (define line (with_groups s (inner ++ two)) tokens)
  define-alike line s tokens inner n h =
      subst (λ r. Alike n r (define line (with_groups s (inner ++ two)) tokens)) (sym (define-groups line s (inner ++ one) tokens))
      (subst (λ r. Alike n (with_all (inner ++ one) (define line s tokens)) r) (sym (define-groups line s (inner ++ two) tokens)) (alike_all n inner (define line s tokens) h))

  carry-alike : (line : ℕ) (s : State) (w : DirectiveWord) (tokens : List Token) (inner : List Group) (opens : List Open) → length inner ≡ length opens → step_of w opens ≡ Balanced
      → Alike (length (opens_after line w opens)) (carry_out line (with_groups s (inner ++ one)) w tokens) (carry_out line (with_groups s (inner ++ two)) w tokens)
  carry-alike line s Nothing tokens inner opens h e = (inner, s, h, refl, refl)
  carry-alike line s Include tokens inner opens h e = refl
  carry-alike line s Define tokens inner opens h e = define-alike line s tokens inner _ h
  carry-alike line s Undefine tokens inner opens h e = undefine-alike line s tokens inner _ h
  carry-alike line s If tokens inner opens h e = if-alike line s tokens inner _ h
  carry-alike line s IfDefined tokens inner opens h e = name-alike true line s tokens inner _ h
  carry-alike line s IfUndefined tokens inner opens h e = name-alike false line s tokens inner _ h
  carry-alike line s ElseIf tokens inner opens h e = else_if-open line s tokens inner opens h e
  carry-alike line s Else tokens inner opens h e = else_of-open line s tokens inner opens h e
  carry-alike line s EndIf tokens inner opens h e = end_if-open line s tokens inner opens h e
  carry-alike line s Pragma tokens inner opens h e = (inner, s, h, refl, refl)
  carry-alike line s Unknown tokens inner opens h e = refl

  pass-alike : (line : ℕ) (s : State) (w : DirectiveWord) (tokens : List Token) (inner : List Group) (opens : List Open) → length inner ≡ length opens → step_of w opens ≡ Balanced
      → Alike (length (opens_after line w opens)) (pass_over line (with_groups s (inner ++ one)) w tokens) (pass_over line (with_groups s (inner ++ two)) w tokens)
  pass-alike line s If tokens inner opens h e = (Outside ∷ inner, s, ap suc h, refl, refl)
  pass-alike line s IfDefined tokens inner opens h e = (Outside ∷ inner, s, ap suc h, refl, refl)
  pass-alike line s IfUndefined tokens inner opens h e = (Outside ∷ inner, s, ap suc h, refl, refl)
  pass-alike line s ElseIf tokens inner opens h e = else_if-open line s tokens inner opens h e
  pass-alike line s Else tokens inner opens h e = else_of-open line s tokens inner opens h e
  pass-alike line s EndIf tokens inner opens h e = end_if-open line s tokens inner opens h e
  pass-alike line s Nothing tokens inner opens h e = (inner, s, h, refl, refl)
  pass-alike line s Include tokens inner opens h e = (inner, s, h, refl, refl)
  pass-alike line s Define tokens inner opens h e = (inner, s, h, refl, refl)
  pass-alike line s Undefine tokens inner opens h e = (inner, s, h, refl, refl)
  pass-alike line s Pragma tokens inner opens h e = (inner, s, h, refl, refl)
  pass-alike line s Unknown tokens inner opens h e = (inner, s, h, refl, refl)

  directive-alike : (line : ℕ) (s : State) (tokens : List Token) (inner : List Group) (opens : List Open) → length inner ≡ length opens → step_of (directive_word s.definitions.bytes tokens) opens ≡ Balanced
      → Alike (length (opens_after line (directive_word s.definitions.bytes tokens) opens)) (after_directive line (with_groups s (inner ++ one)) tokens) (after_directive line (with_groups s (inner ++ two)) tokens)
  directive-alike line s tokens inner opens h e =
      let w = directive_word s.definitions.bytes tokens in
      by w (is_active (inner ++ one)) (is_active (inner ++ two)) (active-inside inner) (carry-alike line s w (drop 1 tokens) inner opens h e) (pass-alike line s w (drop 1 tokens) inner opens h e)
    where
      by : (w : DirectiveWord) (a b : Bool) → a ≡ b
          → Alike (length (opens_after line w opens)) (carry_out line (with_groups s (inner ++ one)) w (drop 1 tokens)) (carry_out line (with_groups s (inner ++ two)) w (drop 1 tokens))
          → Alike (length (opens_after line w opens)) (pass_over line (with_groups s (inner ++ one)) w (drop 1 tokens)) (pass_over line (with_groups s (inner ++ two)) w (drop 1 tokens))
          → Alike (length (opens_after line w opens)) (cond a (carry_out line (with_groups s (inner ++ one)) w (drop 1 tokens)) (pass_over line (with_groups s (inner ++ one)) w (drop 1 tokens))) (cond b (carry_out line (with_groups s (inner ++ two)) w (drop 1 tokens)) (pass_over line (with_groups s (inner ++ two)) w (drop 1 tokens)))
      by w true true same carried passed = carried
      by w false false same carried passed = passed
      by w true false same carried passed = cc
      by w false true same carried passed = cc

  token-alike : (s : State) (t : Token) (inner : List Group) (n : ℕ) → length inner ≡ n → Alike n (after_token (with_groups s (inner ++ one)) t) (after_token (with_groups s (inner ++ two)) t)
  token-alike s t inner n h = by (is_active (inner ++ one)) (is_active (inner ++ two)) (active-inside inner) (same_kind t.kind End) (is_punctuator s.definitions.bytes t (codes "#")) (with_expansion s.definitions t s.out)
    where
      put : List Group → Bool → Result (List Token) PreFault → Result State PreFault
      put groups hash r = cond hash (Err (fault.Directive t.line)) (and_then r (λ out. Ok (record (with_groups s groups) { out = out })))

      by_put : (hash : Bool) (r : Result (List Token) PreFault) → Alike n (put (inner ++ one) hash r) (put (inner ++ two) hash r)
      by_put true r = refl
      by_put false (Ok out) = (inner, record s { out = out }, h, refl, refl)
      by_put false (Err why) = refl

      by : (a b : Bool) → a ≡ b → (e hash : Bool) (r : Result (List Token) PreFault) → Alike n (cond (not a && not e) (Ok (with_groups s (inner ++ one))) (put (inner ++ one) hash r)) (cond (not b && not e) (Ok (with_groups s (inner ++ two))) (put (inner ++ two) hash r))
      by true true same e hash r = by_put hash r
      by false false same true hash r = by_put hash r
      by false false same false hash r = (inner, s, h, refl, refl)
      by true false same e hash r = cc
      by false true same e hash r = cc

  module _ (texts : List ℕ) (a b : List Block) (rest : (s : State) → s.definitions.bytes ≡ texts → after_blocks (with_groups s one) a ≡ after_blocks (with_groups s two) b) where
    -- what follows is the same where the states are alike
    then-alike : (n : ℕ) (r r' : Result State PreFault) (ahead : List Block) → Alike n r r' → ((s : State) → r ≡ Ok s → s.definitions.bytes ≡ texts)
        → ((inner : List Group) (s : State) → length inner ≡ n → s.definitions.bytes ≡ texts → after_blocks (with_groups s (inner ++ one)) (ahead ++ a) ≡ after_blocks (with_groups s (inner ++ two)) (ahead ++ b))
        → and_then r (λ after. after_blocks after (ahead ++ a)) ≡ and_then r' (λ after. after_blocks after (ahead ++ b))
    then-alike n (Err why) (Err other) ahead same keeps deep = ap Err same
    then-alike n (Ok s) (Ok s') ahead same keeps deep =
        ap (λ x. after_blocks x (ahead ++ a)) same.3
        ∙ deep same.0 same.1 same.2 (ap (λ x. x.definitions.bytes) (sym same.3) ∙ keeps s refl)
        ∙ ap (λ x. after_blocks x (ahead ++ b)) (sym same.4)
    then-alike n (Err why) (Ok s) ahead same keeps deep = absurd same
    then-alike n (Ok s) (Err why) ahead same keeps deep = absurd same

    pub carried-alike : (s : State) (inner : List Group) (opens : List Open) (middle : List Block) → length inner ≡ length opens → s.definitions.bytes ≡ texts → unbalanced_line texts opens middle ≡ None → after_blocks (with_groups s (inner ++ one)) (middle ++ a) ≡ after_blocks (with_groups s (inner ++ two)) (middle ++ b)
    unfolding unbalanced_line after_blocks
    carried-alike s inner opens [] h same e = by inner (h ∙ ap length (none_open opens e))
      where
        by : (inner : List Group) → length inner ≡ 0 → after_blocks (with_groups s (inner ++ one)) a ≡ after_blocks (with_groups s (inner ++ two)) b
        by [] g = rest s same
        by (g ∷ inner) k = absurd (omega arith)
    carried-alike s inner opens (Plain t ∷ middle) h same e =
        then-alike (length inner) (after_token (with_groups s (inner ++ one)) t) (after_token (with_groups s (inner ++ two)) t) middle (token-alike s t inner (length inner) refl)
        (λ after is. token_bytes (with_groups s (inner ++ one)) after t is ∙ same)
        (λ inner' after size kept. carried-alike after inner' opens middle (size ∙ h) kept e)
    carried-alike s inner opens (Directive hash tokens ∷ middle) h same e =
        let w = directive_word s.definitions.bytes tokens in
        let word : directive_word texts tokens ≡ w = ap (λ bs. directive_word bs tokens) (sym same) in
        let goes = goes_on (step_of w opens) hash.line (unbalanced_line texts (opens_after hash.line w opens) middle) (ap (λ v. after_step (step_of v opens) hash.line (unbalanced_line texts (opens_after hash.line v opens) middle)) (sym word) ∙ e) in
        then-alike (length (opens_after hash.line w opens)) (after_directive hash.line (with_groups s (inner ++ one)) tokens) (after_directive hash.line (with_groups s (inner ++ two)) tokens) middle (directive-alike hash.line s tokens inner opens h goes.0)
        (λ after is. directive_bytes hash.line (with_groups s (inner ++ one)) after tokens is ∙ same)
        (λ inner' after size kept. carried-alike after inner' (opens_after hash.line w opens) middle size kept goes.1)
