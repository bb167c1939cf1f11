-- The blocks one after another: what a step leaves alone, and the outcome of what is left.
use Rattle.std.proofs.Common.{codes, ◌≡◌, ℕ, ◌&&◌, ◌||◌, List, [], ◌∷◌, Bool, true, false, not, cond, refl, ap, sym, ◌∙◌, subst, take, drop, Option, Some, None, Result, Ok, Err}
use Rattle.std.proofs.lemmas.Bool.{and_parts}
use Rattle.std.specs.List.{list_all, filter}
use Rattle.c_lexer.specs.declared.token.Token.{Token}
use Rattle.c_preproc.specs.declared.fault.PreFault.{PreFault}
use Rattle.c_preproc.specs.declared.fault.PreFault.TheVariants as fault
use Rattle.c_preproc.specs.Texts.{text_of, same_tokens, same_kind, is_name, is_punctuator}
use Rattle.c_lexer.specs.declared.token.TokenKind.TheVariants.{End}
use Rattle.c_preproc.specs.declared.directives.DirectiveWord.{DirectiveWord}
use Rattle.c_preproc.specs.declared.directives.DirectiveWord.TheVariants.{Nothing, Include, Define, Undefine, If, IfDefined, IfUndefined, ElseIf, Else, EndIf, Pragma, Unknown}
use Rattle.c_preproc.specs.declared.state.Group.{Group}
use Rattle.c_preproc.specs.declared.state.Group.TheVariants.{Outside, Waiting, Active, Past}
use Rattle.c_preproc.proofs.Lists.{all_drop}
use Rattle.c_preproc.specs.Directives.{Block, Plain, Directive, blocks_of, directive_word}
use Rattle.c_preproc.specs.Macros.{Macro, macro_of}
use Rattle.c_preproc.specs.Outcomes.{and_then}
use Rattle.c_preproc.specs.Expansion.{State, after_block, after_blocks, after_directive, after_group, after_token, bare, carry_out, condition_of, define, with_macro, else_if, else_of, end_if, group_if, has_parameters, hash_line, is_active, no_hash, only_name, open_by_name, or_directive, pass_over, with_expansion, with_groups}

-- ---- one block in front

pub on_block : (bytes : List ℕ) (s s' : State) (block : Block) (rest ahead left : List Token) (t : Token) (whole : Result State PreFault) → rest ≡ t ∷ ahead → blocks_of bytes 0 (t ∷ ahead) ≡ block ∷ blocks_of bytes 0 left → after_block s block ≡ Ok s'
    → after_blocks s (blocks_of bytes 0 rest) ≡ whole → after_blocks s' (blocks_of bytes 0 left) ≡ whole
unfolding after_blocks
on_block bytes s s' block rest ahead left t whole is front goes told =
    sym (ap (λ r. and_then r (λ after. after_blocks after (blocks_of bytes 0 left))) goes)
    ∙ ap (after_blocks s) (sym front) ∙ ap (λ ts. after_blocks s (blocks_of bytes 0 ts)) (sym is) ∙ told

pub on_block_fault : (bytes : List ℕ) (s : State) (block : Block) (rest ahead left : List Token) (t : Token) (why : PreFault) (whole : Result State PreFault) → rest ≡ t ∷ ahead → blocks_of bytes 0 (t ∷ ahead) ≡ block ∷ blocks_of bytes 0 left → after_block s block ≡ Err why
    → after_blocks s (blocks_of bytes 0 rest) ≡ whole → whole ≡ Err why
unfolding after_blocks
on_block_fault bytes s block rest ahead left t why whole is front fails told =
    sym told ∙ ap (λ ts. after_blocks s (blocks_of bytes 0 ts)) is ∙ ap (after_blocks s) front
    ∙ ap (λ r. and_then r (λ after. after_blocks after (blocks_of bytes 0 left))) fails

pub on_no_block : (bytes : List ℕ) (s : State) (rest : List Token) (whole : Result State PreFault) → rest ≡ [] → after_blocks s (blocks_of bytes 0 rest) ≡ whole → whole ≡ Ok s
unfolding after_blocks blocks_of
on_no_block bytes s rest whole none told = sym told ∙ ap (λ ts. after_blocks s (blocks_of bytes 0 ts)) none

-- ---- what a directive leaves alone

abbrev pub Keeps : {A : Type 0} → (A → Type 0) → Result A PreFault → Type 0
Keeps P (Ok x) = P x
Keeps P (Err why) = Unit {0}

pub keeps_then : {A B : Type 0} (P : B → Type 0) (r : Result A PreFault) (next : A → Result B PreFault) → ((x : A) → r ≡ Ok x → Keeps P (next x)) → Keeps P (and_then r next)
keeps_then P (Ok x) next h = h x refl
keeps_then P (Err why) next h = tt

pub keeps_cond : {A : Type 0} (P : A → Type 0) (b : Bool) (x y : Result A PreFault) → (b ≡ true → Keeps P x) → (b ≡ false → Keeps P y) → Keeps P (cond b x y)
keeps_cond P true x y hx hy = hx refl
keeps_cond P false x y hx hy = hy refl

pub kept : {A : Type 0} (P : A → Type 0) (r : Result A PreFault) (x : A) → Keeps P r → r ≡ Ok x → P x
kept P r x h e = subst (Keeps P) e h

-- each token of each macro passes the test
abbrev pub BodiesHold : (Token → Bool) → List Macro → Type 0
BodiesHold p macros = list_all (λ macro. list_all p macro.body) macros ≡ true

-- the bytes and the tokens stay, and macros' tokens go on passing the test
pub record Follows (p : Token → Bool) (s s' : State) : Type 0 where
  pub bytes : s'.definitions.bytes ≡ s.definitions.bytes
  pub out : s'.out ≡ s.out
  pub bodies : BodiesHold p s.definitions.macros → BodiesHold p s'.definitions.macros

-- the test, but for a #
abbrev pub or_punctuator : List ℕ → (Token → Bool) → Token → Bool
or_punctuator bytes p t = p t || is_punctuator bytes t (codes "#")

-- tokens without a #
no_hashes : (bytes : List ℕ) (p : Token → Bool) (tokens : List Token) → hash_line bytes tokens ≡ None → list_all (or_punctuator bytes p) tokens ≡ true → list_all p tokens ≡ true
no_hashes bytes p [] none all = refl
no_hashes bytes p (t ∷ tokens) none all = by (is_punctuator bytes t (codes "#")) (no_hashes bytes p tokens) none (and_parts (or_punctuator bytes p t) (list_all (or_punctuator bytes p) tokens) all)
  where
    or_false : (b : Bool) → (b || false) ≡ true → b ≡ true
    or_false true h = refl
    or_false false h = h

    by : (b : Bool) → (hash_line bytes tokens ≡ None → list_all (or_punctuator bytes p) tokens ≡ true → list_all p tokens ≡ true) → cond b (Some t.line) (hash_line bytes tokens) ≡ None → ((p t || b) ≡ true) × (list_all (or_punctuator bytes p) tokens ≡ true) → (p t && list_all p tokens) ≡ true
    by true deep e both = cc
    by false deep e both = rw (or_false (p t) both.0, deep e both.1) refl

pub filter_holds : (p : Token → Bool) (test : Macro → Bool) (macros : List Macro) → BodiesHold p macros → BodiesHold p (filter test macros)
filter_holds p test [] all = refl
filter_holds p test (m ∷ macros) all =
    let both = and_parts (list_all p m.body) (list_all (λ macro. list_all p macro.body) macros) all in
    by (test m) both.0 (filter_holds p test macros both.1)
  where
    by : (b : Bool) → list_all p m.body ≡ true → BodiesHold p (filter test macros) → BodiesHold p (cond b (m ∷ filter test macros) (filter test macros))
    by true one deep = rw (one, deep) refl
    by false one deep = deep

module _ (p : Token → Bool) (s : State) where
  same_state : Follows p s s
  same_state = record { bytes = refl; out = refl; bodies = λ h. h }

  same_macros : (groups : List Group) → Follows p s (with_groups s groups)
  same_macros groups = record { bytes = refl; out = refl; bodies = λ h. h }

  define_follows : (line : ℕ) (tokens : List Token) → list_all (or_punctuator s.definitions.bytes p) tokens ≡ true → Keeps (Follows p s) (define line s tokens)
  define_follows line [] all = tt
  define_follows line (name ∷ body) all =
      let bytes = s.definitions.bytes in
      let macro : Macro = record { name = text_of bytes name; body = body } in
      keeps_cond (Follows p s) (not (is_name name) || has_parameters bytes name body) (Err (fault.Directive line)) _ (λ _. tt)
      (λ _. by_hash (hash_line bytes body) refl (macro_of s.definitions.macros macro.name) (and_parts (or_punctuator bytes p name) (list_all (or_punctuator bytes p) body) all).1)
    where
      again : (o : Option Macro) → list_all p body ≡ true → Keeps (Follows p s) (with_macro line s (record { name = text_of s.definitions.bytes name; body = body }) o)
      again None one = record { bytes = refl; out = refl; bodies = λ h. rw (one, h) refl }
      again (Some old) one = keeps_cond (Follows p s) (same_tokens s.definitions.bytes old.body body) (Ok s) (Err (fault.Directive line)) (λ _. same_state) (λ _. tt)

      by_hash : (h : Option ℕ) → hash_line s.definitions.bytes body ≡ h → (o : Option Macro) → list_all (or_punctuator s.definitions.bytes p) body ≡ true → Keeps (Follows p s) (and_then (with_macro line s (record { name = text_of s.definitions.bytes name; body = body }) o) (no_hash h))
      by_hash None e o body_holds =
          let holds = again o (no_hashes s.definitions.bytes p body e body_holds) in
          keeps_then (Follows p s) (with_macro line s (record { name = text_of s.definitions.bytes name; body = body }) o) (no_hash None) (λ after is. kept (Follows p s) _ after holds is)
      by_hash (Some at) e o body_holds = keeps_then (Follows p s) (with_macro line s (record { name = text_of s.definitions.bytes name; body = body }) o) (no_hash (Some at)) (λ after is. tt)

  else_if_follows : (line : ℕ) (tokens : List Token) (groups : List Group) → Keeps (Follows p s) (else_if line s tokens groups)
  else_if_follows line tokens [] = same_state
  else_if_follows line tokens (Waiting ∷ groups) = keeps_then (Follows p s) (condition_of s.definitions line tokens) _ (λ holds is. same_macros (group_if holds ∷ groups))
  else_if_follows line tokens (Outside ∷ groups) = same_macros (Outside ∷ groups)
  else_if_follows line tokens (Active ∷ groups) = same_macros (Past ∷ groups)
  else_if_follows line tokens (Past ∷ groups) = same_macros (Past ∷ groups)

  else_of_follows : (line : ℕ) (tokens : List Token) (groups : List Group) → Keeps (Follows p s) (else_of line s tokens groups)
  else_of_follows line tokens [] = same_state
  else_of_follows line tokens (group ∷ groups) = keeps_then (Follows p s) (bare line group tokens) _ (λ g is. same_macros (after_group g ∷ groups))

  end_if_follows : (line : ℕ) (tokens : List Token) (groups : List Group) → Keeps (Follows p s) (end_if line s tokens groups)
  end_if_follows line tokens [] = same_state
  end_if_follows line tokens (group ∷ groups) = keeps_then (Follows p s) (bare line group tokens) _ (λ g is. same_macros groups)

  open_by_name_follows : (wanted : Bool) (line : ℕ) (tokens : List Token) → Keeps (Follows p s) (open_by_name wanted line s tokens)
  open_by_name_follows wanted line tokens = keeps_then (Follows p s) (or_directive line (only_name tokens)) _ (λ name is. same_macros _)

  carry_out_follows : (line : ℕ) (word : DirectiveWord) (tokens : List Token) → list_all (or_punctuator s.definitions.bytes p) tokens ≡ true → Keeps (Follows p s) (carry_out line s word tokens)
  carry_out_follows line Nothing tokens h = same_state
  carry_out_follows line Include tokens h = tt
  carry_out_follows line Define tokens h = define_follows line tokens h
  carry_out_follows line Undefine tokens h =
      keeps_then (Follows p s) (or_directive line (only_name tokens)) _ (λ name is. record { bytes = refl; out = refl; bodies = filter_holds p _ s.definitions.macros })
  carry_out_follows line If tokens h = keeps_then (Follows p s) (condition_of s.definitions line tokens) _ (λ holds is. same_macros (group_if holds ∷ s.groups))
  carry_out_follows line IfDefined tokens h = open_by_name_follows true line tokens
  carry_out_follows line IfUndefined tokens h = open_by_name_follows false line tokens
  carry_out_follows line ElseIf tokens h = else_if_follows line tokens s.groups
  carry_out_follows line Else tokens h = else_of_follows line tokens s.groups
  carry_out_follows line EndIf tokens h = end_if_follows line tokens s.groups
  carry_out_follows line Pragma tokens h = same_state
  carry_out_follows line Unknown tokens h = tt

  pass_over_follows : (line : ℕ) (word : DirectiveWord) (tokens : List Token) → Keeps (Follows p s) (pass_over line s word tokens)
  pass_over_follows line If tokens = same_macros _
  pass_over_follows line IfDefined tokens = same_macros _
  pass_over_follows line IfUndefined tokens = same_macros _
  pass_over_follows line ElseIf tokens = else_if_follows line tokens s.groups
  pass_over_follows line Else tokens = else_of_follows line tokens s.groups
  pass_over_follows line EndIf tokens = end_if_follows line tokens s.groups
  pass_over_follows line _ tokens = same_state

  pub directive_follows : (line : ℕ) (tokens : List Token) → list_all (or_punctuator s.definitions.bytes p) tokens ≡ true → Keeps (Follows p s) (after_directive line s tokens)
  directive_follows line tokens all =
      let word = directive_word s.definitions.bytes tokens in
      keeps_cond (Follows p s) (is_active s.groups) (carry_out line s word (drop 1 tokens)) (pass_over line s word (drop 1 tokens))
      (λ _. carry_out_follows line word (drop 1 tokens) (all_drop (or_punctuator s.definitions.bytes p) 1 tokens all)) (λ _. pass_over_follows line word (drop 1 tokens))

-- ---- the bytes

pub any_token : (tokens : List Token) → list_all (λ t. true) tokens ≡ true
any_token [] = refl
any_token (t ∷ tokens) = any_token tokens

pub directive_bytes : (line : ℕ) (s s' : State) (tokens : List Token) → after_directive line s tokens ≡ Ok s' → s'.definitions.bytes ≡ s.definitions.bytes
directive_bytes line s s' tokens e = (kept (Follows (λ t. true) s) _ s' (directive_follows (λ t. true) s line tokens (any_token tokens)) e).bytes

pub token_bytes : (s s' : State) (t : Token) → after_token s t ≡ Ok s' → s'.definitions.bytes ≡ s.definitions.bytes
token_bytes s s' t e =
    let P : State → Type 0 = λ after. after.definitions.bytes ≡ s.definitions.bytes in
    kept P _ s'
    (keeps_cond P (not (is_active s.groups) && not (same_kind t.kind End)) (Ok s) _ (λ _. refl)
    (λ _. keeps_cond P (is_punctuator s.definitions.bytes t (codes "#")) (Err (fault.Directive t.line)) _ (λ _. tt)
    (λ _. keeps_then P (with_expansion s.definitions t s.out) _ (λ out is. refl)))) e

-- ---- a loop's step, with the bytes as the code has them

module _ (bytes seen_bytes : List ℕ) (s s' : State) (rest ahead : List Token) (t : Token) (whole : Result State PreFault) (same : s.definitions.bytes ≡ bytes) (seen_is : seen_bytes ≡ s.definitions.bytes) (is : rest ≡ t ∷ ahead) (told : after_blocks s (blocks_of bytes 0 rest) ≡ whole) where
  at_bytes : (blocks left : List Block) → blocks_of seen_bytes 0 (t ∷ ahead) ≡ blocks → blocks ≡ left → blocks_of bytes 0 (t ∷ ahead) ≡ left
  at_bytes blocks left front e = ap (λ bs. blocks_of bs 0 (t ∷ ahead)) (sym same ∙ sym seen_is) ∙ front ∙ e

  pub token_step : blocks_of seen_bytes 0 (t ∷ ahead) ≡ Plain t ∷ blocks_of seen_bytes 0 ahead → after_token s t ≡ Ok s' → after_blocks s' (blocks_of bytes 0 ahead) ≡ whole
  token_step front goes =
      on_block bytes s s' (Plain t) rest ahead ahead t whole is (at_bytes _ _ front (ap (λ bs. Plain t ∷ blocks_of bs 0 ahead) (seen_is ∙ same))) goes told

  pub token_fault : (why : PreFault) → blocks_of seen_bytes 0 (t ∷ ahead) ≡ Plain t ∷ blocks_of seen_bytes 0 ahead → after_token s t ≡ Err why → whole ≡ Err why
  token_fault why front fails =
      on_block_fault bytes s (Plain t) rest ahead ahead t why whole is (at_bytes _ _ front (ap (λ bs. Plain t ∷ blocks_of bs 0 ahead) (seen_is ∙ same))) fails told

  module _ (line left : List Token) (count : ℕ) (front : blocks_of seen_bytes 0 (t ∷ ahead) ≡ Directive t (take count ahead) ∷ blocks_of seen_bytes 0 (drop count ahead)) (lines : line ≡ take count ahead) (lefts : left ≡ drop count ahead) where
    front_is : blocks_of bytes 0 (t ∷ ahead) ≡ Directive t line ∷ blocks_of bytes 0 left
    front_is = at_bytes _ _ front (ap (λ bs. Directive t (take count ahead) ∷ blocks_of bs 0 (drop count ahead)) (seen_is ∙ same) ∙ ap (λ ts. Directive t ts ∷ blocks_of bytes 0 (drop count ahead)) (sym lines) ∙ ap (λ ts. Directive t line ∷ blocks_of bytes 0 ts) (sym lefts))

    pub directive_step : after_directive t.line s line ≡ Ok s' → after_blocks s' (blocks_of bytes 0 left) ≡ whole
    directive_step goes = on_block bytes s s' (Directive t line) rest ahead left t whole is front_is goes told

    pub directive_fault : (why : PreFault) → after_directive t.line s line ≡ Err why → whole ≡ Err why
    directive_fault why fails = on_block_fault bytes s (Directive t line) rest ahead left t why whole is front_is fails told
