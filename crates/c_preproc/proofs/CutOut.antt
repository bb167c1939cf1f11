-- Groups that are balanced: they leave the open `if`s and the state behind them as they were.
use Rattle.std.proofs.Common.{◌≡◌, ℕ, zero, suc, List, [], ◌∷◌, ◌++◌, true, false, refl, ap, ◌∙◌, length, drop, Option, Some, None, Result, Ok, Err}
use Rattle.std.proofs.lemmas.Bool.{and_parts}
use Rattle.std.specs.List.{list_all}
use Rattle.c_lexer.specs.declared.token.Token.{Token}
use Rattle.c_preproc.specs.declared.directives.DirectiveWord.{DirectiveWord}
use Rattle.c_preproc.specs.declared.directives.DirectiveWord.TheVariants.{Nothing, Include, Define, Undefine, If, IfDefined, IfUndefined, ElseIf, Else, EndIf, Pragma, Unknown}
use Rattle.c_preproc.specs.declared.groups.Open.{Open}
use Rattle.c_preproc.specs.declared.groups.Step.{Step}
use Rattle.c_preproc.specs.declared.groups.Step.TheVariants.{Balanced, Misplaced, Alone}
use Rattle.c_preproc.specs.declared.state.Group.{Group}
use Rattle.c_preproc.specs.declared.state.Group.TheVariants.{Outside}
use Rattle.c_preproc.specs.declared.fault.PreFault.{PreFault}
use Rattle.c_preproc.specs.Directives.{Block, Plain, Directive, directive_word}
use Rattle.c_preproc.specs.Groups.{after_step, earlier, opens_after, outermost, step_of, unbalanced_line, with_else, with_if}
use Rattle.c_preproc.specs.Outcomes.{and_then}
use Rattle.c_preproc.specs.Expansion.{State, after_block, after_blocks, after_directive, after_token, is_active, pass_over, with_groups}
use Rattle.c_preproc.specs.Law.{is_inner}
use Rattle.c_preproc.proofs.Carried.{directive_bytes, token_bytes}

not_some_line : (line : ℕ) (o : Option ℕ) → earlier (Some line) o ≡ None → ⊥
not_some_line line None e = cc
not_some_line line (Some b) e = cc

pub none_open : (opens : List Open) → outermost opens ≡ None → opens ≡ []
none_open [] e = refl
none_open (o ∷ []) e = cc
none_open (o ∷ p ∷ opens) e = let rest = none_open (p ∷ opens) e in cc

-- ---- the open `if`s

-- behind a directive that is not out of place
abbrev pub Goes : Step → ℕ → Option ℕ → Type 0
Goes step line behind = after_step step line behind ≡ None

pub goes_on : (step : Step) (line : ℕ) (behind : Option ℕ) → Goes step line behind → (step ≡ Balanced) × (behind ≡ None)
goes_on Balanced line behind e = (refl, e)
goes_on Misplaced line behind e = absurd (not_some_line line behind e)
goes_on Alone line behind e = cc

-- with more `if`s open around it
step_of-inside : (w : DirectiveWord) (inner opens : List Open) → step_of w inner ≡ Balanced → step_of w (inner ++ opens) ≡ Balanced
step_of-inside ElseIf [] opens e = cc
step_of-inside ElseIf (o ∷ inner) opens e = e
step_of-inside Else [] opens e = cc
step_of-inside Else (o ∷ inner) opens e = e
step_of-inside EndIf [] opens e = cc
step_of-inside EndIf (o ∷ inner) opens e = refl
step_of-inside Nothing inner opens e = refl
step_of-inside Include inner opens e = refl
step_of-inside Define inner opens e = refl
step_of-inside Undefine inner opens e = refl
step_of-inside If inner opens e = refl
step_of-inside IfDefined inner opens e = refl
step_of-inside IfUndefined inner opens e = refl
step_of-inside Pragma inner opens e = refl
step_of-inside Unknown inner opens e = refl

opens_after-inside : (line : ℕ) (w : DirectiveWord) (inner opens : List Open) → step_of w inner ≡ Balanced → opens_after line w (inner ++ opens) ≡ opens_after line w inner ++ opens
opens_after-inside line Else [] opens e = cc
opens_after-inside line Else (o ∷ inner) opens e = refl
opens_after-inside line EndIf [] opens e = cc
opens_after-inside line EndIf (o ∷ inner) opens e = refl
opens_after-inside line ElseIf inner opens e = refl
opens_after-inside line Nothing inner opens e = refl
opens_after-inside line Include inner opens e = refl
opens_after-inside line Define inner opens e = refl
opens_after-inside line Undefine inner opens e = refl
opens_after-inside line If inner opens e = refl
opens_after-inside line IfDefined inner opens e = refl
opens_after-inside line IfUndefined inner opens e = refl
opens_after-inside line Pragma inner opens e = refl
opens_after-inside line Unknown inner opens e = refl

-- balanced blocks leave the `if`s around them as they are
pub balance-inside : (texts : List ℕ) (inner opens : List Open) (middle rest : List Block) → unbalanced_line texts inner middle ≡ None → unbalanced_line texts (inner ++ opens) (middle ++ rest) ≡ unbalanced_line texts opens rest
unfolding unbalanced_line
balance-inside texts inner opens [] rest e = ap (λ os. unbalanced_line texts (os ++ opens) rest) (none_open inner e)
balance-inside texts inner opens (Plain t ∷ middle) rest e = balance-inside texts inner opens middle rest e
balance-inside texts inner opens (Directive hash tokens ∷ middle) rest e =
    let w = directive_word texts tokens in
    let goes = goes_on (step_of w inner) hash.line _ e in
    ap (λ s. after_step s hash.line (unbalanced_line texts (opens_after hash.line w (inner ++ opens)) (middle ++ rest))) (step_of-inside w inner opens goes.0)
    ∙ ap (λ os. unbalanced_line texts os (middle ++ rest)) (opens_after-inside hash.line w inner opens goes.0)
    ∙ balance-inside texts (opens_after hash.line w inner) opens middle rest goes.1

-- what stands before two lists that are out of balance alike
pub balance-before : (texts : List ℕ) (opens : List Open) (front a b : List Block) → ((opens : List Open) → unbalanced_line texts opens a ≡ unbalanced_line texts opens b) → unbalanced_line texts opens (front ++ a) ≡ unbalanced_line texts opens (front ++ b)
unfolding unbalanced_line
balance-before texts opens [] a b same = same opens
balance-before texts opens (Plain t ∷ front) a b same = balance-before texts opens front a b same
balance-before texts opens (Directive hash tokens ∷ front) a b same =
    let w = directive_word texts tokens in
    ap (after_step (step_of w opens) hash.line) (balance-before texts (opens_after hash.line w opens) front a b same)

-- ---- the state

-- what stands before two lists that are carried out alike
pub state-before : (s : State) (front a b : List Block) → ((after : State) → after.definitions.bytes ≡ s.definitions.bytes → after_blocks after a ≡ after_blocks after b) → after_blocks s (front ++ a) ≡ after_blocks s (front ++ b)
unfolding after_blocks
state-before s [] a b same = same s refl
state-before s (block ∷ front) a b same = by (after_block s block) refl (λ (after : State) (is : after.definitions.bytes ≡ s.definitions.bytes). state-before after front a b (λ last e. same last (e ∙ is)))
  where
    keeps : (block : Block) (after : State) → after_block s block ≡ Ok after → after.definitions.bytes ≡ s.definitions.bytes
    keeps (Plain t) after e = token_bytes s after t e
    keeps (Directive hash tokens) after e = directive_bytes hash.line s after tokens e

    by : (r : Result State PreFault) → after_block s block ≡ r → ((after : State) → after.definitions.bytes ≡ s.definitions.bytes → after_blocks after (front ++ a) ≡ after_blocks after (front ++ b)) → and_then r (λ after. after_blocks after (front ++ a)) ≡ and_then r (λ after. after_blocks after (front ++ b))
    by (Err why) e deep = refl
    by (Ok after) e deep = deep after (keeps block after e)

-- groups that are not looked at, inside of these
abbrev outsides : ℕ → List Group → List Group
outsides zero groups = groups
outsides (suc n) groups = Outside ∷ outsides n groups

module _ (s : State) (groups : List Group) (passive : is_active groups ≡ false) (rest : List Block) where
  passive_inside : (n : ℕ) → is_active (outsides n groups) ≡ false
  passive_inside zero = passive
  passive_inside (suc n) = refl

  -- the state inside of these `if`s
  abbrev inside : List Open → State
  inside opens = with_groups s (outsides (length opens) groups)

  -- a directive in front of what is passed over
  directive_passed : (line : ℕ) (w : DirectiveWord) (tokens : List Token) (opens : List Open) (middle : List Block) → step_of w opens ≡ Balanced
      → ((after : List Open) → after ≡ opens_after line w opens → after_blocks (inside after) (middle ++ rest) ≡ after_blocks (with_groups s groups) rest)
      → and_then (pass_over line (inside opens) w tokens) (λ after. after_blocks after (middle ++ rest)) ≡ after_blocks (with_groups s groups) rest
  directive_passed line If tokens opens middle e deep = deep (with_if line opens) refl
  directive_passed line IfDefined tokens opens middle e deep = deep (with_if line opens) refl
  directive_passed line IfUndefined tokens opens middle e deep = deep (with_if line opens) refl
  directive_passed line ElseIf tokens [] middle e deep = cc
  directive_passed line ElseIf tokens (o ∷ opens) middle e deep = deep (o ∷ opens) refl
  directive_passed line Else tokens [] middle e deep = cc
  directive_passed line Else tokens (o ∷ opens) middle e deep = deep (with_else (o ∷ opens)) refl
  directive_passed line EndIf tokens [] middle e deep = cc
  directive_passed line EndIf tokens (o ∷ opens) middle e deep = deep opens refl
  directive_passed line Nothing tokens opens middle e deep = deep opens refl
  directive_passed line Include tokens opens middle e deep = deep opens refl
  directive_passed line Define tokens opens middle e deep = deep opens refl
  directive_passed line Undefine tokens opens middle e deep = deep opens refl
  directive_passed line Pragma tokens opens middle e deep = deep opens refl
  directive_passed line Unknown tokens opens middle e deep = deep opens refl

  -- balanced blocks are passed over
  pub passed-over : (opens : List Open) (middle : List Block) → unbalanced_line s.definitions.bytes opens middle ≡ None → list_all is_inner middle ≡ true → after_blocks (inside opens) (middle ++ rest) ≡ after_blocks (with_groups s groups) rest
  unfolding unbalanced_line after_blocks
  passed-over opens [] e inner = ap (λ os. after_blocks (inside os) rest) (none_open opens e)
  passed-over opens (Plain t ∷ middle) e inner =
      let both = and_parts (is_inner (Plain t)) (list_all is_inner middle) inner in
      let stays : after_token (inside opens) t ≡ Ok (inside opens) = rw (passive_inside (length opens), both.0) refl in
      ap (λ r. and_then r (λ after. after_blocks after (middle ++ rest))) stays ∙ passed-over opens middle e both.1
  passed-over opens (Directive hash tokens ∷ middle) e inner =
      let w = directive_word s.definitions.bytes tokens in
      let goes = goes_on (step_of w opens) hash.line _ e in
      let passes : after_directive hash.line (inside opens) tokens ≡ pass_over hash.line (inside opens) w (drop 1 tokens) = rw (passive_inside (length opens)) refl in
      ap (λ r. and_then r (λ after. after_blocks after (middle ++ rest))) passes
      ∙ directive_passed hash.line w (drop 1 tokens) opens middle goes.0 (λ after is. passed-over after middle (ap (λ os. unbalanced_line s.definitions.bytes os middle) is ∙ goes.1) inner)
