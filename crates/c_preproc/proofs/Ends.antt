-- What an expanded list is made of: tokens of the list and of macros, and at its end the one End.
use Rattle.std.proofs.Common.{codes, ◌≡◌, ℕ, zero, suc, ◌+◌, ◌≤◌, ◌&&◌, List, [], ◌∷◌, ◌++◌, Bool, true, false, not, cond, nat_lt, nat_le, arith, length-append, refl, ap, sym, ◌∙◌, subst, length, map, take, Option, Some, None, Result, Ok, Err, ◌⊎◌, inl, inr, ⊎_elim}
use Rattle.std.proofs.lemmas.Bool.{and_parts, le-leb, leb-true, ltb-false}
use Rattle.std.specs.List.{flat_map, list_all}
use Rattle.std.specs.Option.{option_map, option_map_or}
use Rattle.c_lexer.specs.List.{all_within, is_end, ends_once}
use Rattle.c_lexer.specs.declared.token.Token.{Token}
use Rattle.c_lexer.specs.declared.token.TokenKind.{TokenKind}
use Rattle.c_lexer.specs.declared.token.TokenKind.TheVariants.{Name, Number, Character, Text, Punct, End}
use Rattle.c_preproc.specs.declared.fault.PreFault.{PreFault}
use Rattle.c_preproc.specs.declared.fault.PreFault.TheVariants as fault
use Rattle.c_preproc.specs.Texts.{text_of, same_text, same_kind, is_name, is_punctuator}
use Rattle.c_preproc.specs.Directives.{blocks_of, rest_of_line}
use Rattle.c_preproc.specs.Macros.{Definitions, Macro, body_for, expansion_of_token, macro_of, placed_at, replacement, replacement_of, without}
use Rattle.c_preproc.specs.Expansion.{State, after_blocks, after_directive, after_token, filc_macro, first_state, is_active, token_limit, with_digits, with_expansion}
use Rattle.c_preproc.proofs.Lists.{and_false, all_append, all_take}
use Rattle.c_preproc.proofs.Blocks.{stands_behind, take_while-front, take_while-pass, take_while-stop}
use Rattle.c_preproc.proofs.Carried.{BodiesHold, Follows, Keeps, any_token, directive_bytes, directive_follows, filter_holds, kept, keeps_cond, keeps_then, or_punctuator, token_bytes}

-- ---- what an expansion is made of

-- where a token is put changes nothing of what the test says
abbrev pub KeepsPlace : (Token → Bool) → Type 0
KeepsPlace p = (name t : Token) → p (placed_at name t) ≡ p t

-- a macro's tokens pass the test that all macros' do
found_all : (p : Token → Bool) (macros : List Macro) (name : List ℕ) (body : List Token) → BodiesHold p macros → option_map (λ macro. macro.body) (macro_of macros name) ≡ Some body → list_all p body ≡ true
found_all p [] name body all e = cc
found_all p (macro ∷ macros) name body all e =
    let both = and_parts (list_all p macro.body) (list_all (λ macro. list_all p macro.body) macros) all in
    by (same_text macro.name name) both.0 (found_all p macros name body both.1) e
  where
    by : (b : Bool) → list_all p macro.body ≡ true → (option_map (λ macro. macro.body) (macro_of macros name) ≡ Some body → list_all p body ≡ true) → option_map (λ macro. macro.body) (cond b (Some macro) (macro_of macros name)) ≡ Some body → list_all p body ≡ true
    by true here behind g = let same : macro.body ≡ body = cc in ap (list_all p) (sym same) ∙ here
    by false here behind g = behind g

body_all : (p : Token → Bool) (bytes : List ℕ) (macros : List Macro) (t : Token) (body : List Token) → BodiesHold p macros → body_for bytes macros t ≡ Some body → list_all p body ≡ true
body_all p bytes macros t body all e = by (is_name t) e
  where
    by : (b : Bool) → cond b (option_map (λ macro. macro.body) (macro_of macros (text_of bytes t))) None ≡ Some body → list_all p body ≡ true
    by true g = found_all p macros (text_of bytes t) body all g
    by false g = cc

all_flat_map : (p : Token → Bool) (f : Token → List Token) (tokens : List Token) → ((t : Token) → p t ≡ true → list_all p (f t) ≡ true) → list_all p tokens ≡ true → list_all p (flat_map f tokens) ≡ true
all_flat_map p f [] each all = refl
all_flat_map p f (t ∷ tokens) each all =
    let both = and_parts (p t) (list_all p tokens) all in
    all_append p (f t) (flat_map f tokens) (each t both.0) (all_flat_map p f tokens each both.1)

replacement-all : (p : Token → Bool) (depth : ℕ) (bytes : List ℕ) (macros : List Macro) (t : Token) → BodiesHold p macros → p t ≡ true → list_all p (replacement depth bytes macros t) ≡ true
unfolding replacement
replacement-all p zero bytes macros t all one = rw one refl
replacement-all p (suc depth) bytes macros t all one =
    by (body_for bytes macros t) refl (λ u h. replacement-all p depth bytes (without macros (text_of bytes t)) u (filter_holds p (λ macro. not (same_text macro.name (text_of bytes t))) macros all) h)
  where
    by : (o : Option (List Token)) → body_for bytes macros t ≡ o → ((u : Token) → p u ≡ true → list_all p (replacement depth bytes (without macros (text_of bytes t)) u) ≡ true) → list_all p (option_map_or (flat_map (replacement depth bytes (without macros (text_of bytes t)))) o (t ∷ [])) ≡ true
    by None e deep = rw one refl
    by (Some body) e deep = all_flat_map p _ body deep (body_all p bytes macros t body all e)

all_placed : (p : Token → Bool) (name : Token) (tokens : List Token) → KeepsPlace p → list_all p tokens ≡ true → list_all p (map (placed_at name) tokens) ≡ true
all_placed p name [] keeps all = refl
all_placed p name (t ∷ tokens) keeps all =
    let both = and_parts (p t) (list_all p tokens) all in
    rw (keeps name t, both.0, all_placed p name tokens keeps both.1) refl

pub expansion-all : (p : Token → Bool) → KeepsPlace p → (bytes : List ℕ) (macros : List Macro) (t : Token) → BodiesHold p macros → p t ≡ true → list_all p (expansion_of_token bytes macros t) ≡ true
expansion-all p keeps bytes macros t all one = all_placed p t (replacement_of bytes macros t) keeps (replacement-all p (length macros) bytes macros t all one)

-- ---- what a step gives

-- the token's expansion is behind the list
pub record Expands (s s' : State) (t : Token) : Type 0 where
  pub definitions : s'.definitions ≡ s.definitions
  pub out : s'.out ≡ s.out ++ expansion_of_token s.definitions.bytes s.definitions.macros t
  pub fits : length s'.out ≤ token_limit
  pub plain : is_punctuator s.definitions.bytes t (codes "#") ≡ false

pub token_gives : (s s' : State) (t : Token) → after_token s t ≡ Ok s' → (s' ≡ s) ⊎ Expands s s' t
token_gives s s' t e =
    let P : State → Type 0 = λ after. (after ≡ s) ⊎ Expands s after t in
    kept P _ s'
    (keeps_cond P (not (is_active s.groups) && not (same_kind t.kind End)) (Ok s) _ (λ _. inl refl)
    (λ _. keeps_cond P (is_punctuator s.definitions.bytes t (codes "#")) (Err (fault.Directive t.line)) _ (λ _. tt)
    (λ plain. keeps_then P (with_expansion s.definitions t s.out) _ (λ out is. inr (fitted plain out is))))) e
  where
    fitted : is_punctuator s.definitions.bytes t (codes "#") ≡ false → (out : List Token) → with_expansion s.definitions t s.out ≡ Ok out → Expands s (record s { out = out }) t
    fitted plain out is = by (nat_lt token_limit (length s.out + length (expansion_of_token s.definitions.bytes s.definitions.macros t))) refl is
      where
        by : (b : Bool) → nat_lt token_limit (length s.out + length (expansion_of_token s.definitions.bytes s.definitions.macros t)) ≡ b → cond b (Err (fault.Expanded t.line)) (Ok (s.out ++ expansion_of_token s.definitions.bytes s.definitions.macros t)) ≡ Ok out → Expands s (record s { out = out }) t
        by true f g = cc
        by false f g =
            let more = expansion_of_token s.definitions.bytes s.definitions.macros t in
            let is_out : s.out ++ more ≡ out = cc in
            let few = ltb-false token_limit (length s.out + length more) f in
            record { definitions = refl; out = sym is_out; fits = omega (arith, few, length-append s.out more, ap length is_out); plain = plain }

-- ---- what each step keeps holds of the last state

rest_holds : (p : Token → Bool) (tokens : List Token) → list_all p tokens ≡ true → list_all p (rest_of_line tokens) ≡ true
rest_holds p tokens all = all_take p _ tokens all

-- a fact of the state and of the tokens that are left
module _ (P : List Token → State → Type 0) (inside : (s : State) (t : Token) (rest : List Token) → P (t ∷ rest) s → P rest s)
    (at_token : (s s' : State) (t : Token) (rest : List Token) → P (t ∷ rest) s → after_token s t ≡ Ok s' → P rest s')
    (at_directive : (s s' : State) (line : ℕ) (t : Token) (rest : List Token) → P (t ∷ rest) s → after_directive line s (rest_of_line rest) ≡ Ok s' → P rest s') where
  pub tokens_keep : (bytes : List ℕ) (within : ℕ) (tokens : List Token) (s : State) → P tokens s → Keeps (P []) (after_blocks s (blocks_of bytes within tokens))
  unfolding blocks_of after_blocks
  tokens_keep bytes within [] s h = h
  tokens_keep bytes (suc within) (t ∷ tokens) s h = tokens_keep bytes within tokens s (inside s t tokens h)
  tokens_keep bytes zero (t ∷ tokens) s h =
      by (λ (within : ℕ) (after : State) (k : P tokens after). tokens_keep bytes within tokens after k) (t.first && is_punctuator bytes t (codes "#")) refl
    where
      by : ((within : ℕ) (after : State) → P tokens after → Keeps (P []) (after_blocks after (blocks_of bytes within tokens))) → (b : Bool) → (t.first && is_punctuator bytes t (codes "#")) ≡ b → Keeps (P []) (after_blocks s (blocks_of bytes zero (t ∷ tokens)))
      by deep true e =
          rw e (keeps_then (P []) (after_directive t.line s (rest_of_line tokens)) _ (λ after is. deep (length (rest_of_line tokens)) after (at_directive s after t.line t tokens h is)))
      by deep false e = rw e (keeps_then (P []) (after_token s t) _ (λ after is. deep 0 after (at_token s after t tokens h is)))

-- a fact of the state, where the tokens that are left pass a test
module _ (p : Token → Bool) (P : State → Type 0) (at_token : (s s' : State) (t : Token) → P s → p t ≡ true → after_token s t ≡ Ok s' → P s')
    (at_directive : (s s' : State) (line : ℕ) (tokens : List Token) → P s → list_all p tokens ≡ true → after_directive line s tokens ≡ Ok s' → P s') where
  pub blocks_keep : (bytes : List ℕ) (inside : ℕ) (tokens : List Token) (s : State) → list_all p tokens ≡ true → P s → Keeps P (after_blocks s (blocks_of bytes inside tokens))
  blocks_keep bytes inside tokens s all h =
      keeps_weaker _ (tokens_keep (λ rest after. P after × (list_all p rest ≡ true))
      (λ after t rest k. (k.0, (and_parts (p t) (list_all p rest) k.1).1))
      (λ a b t rest k is. let both = and_parts (p t) (list_all p rest) k.1 in (at_token a b t k.0 both.0 is, both.1))
      (λ a b line t rest k is. let both = and_parts (p t) (list_all p rest) k.1 in (at_directive a b line (rest_of_line rest) k.0 (rest_holds p rest both.1) is, both.1))
      bytes inside tokens s (h, all))
    where
      keeps_weaker : (r : Result State PreFault) → Keeps (λ after. P after × (list_all p [] ≡ true)) r → Keeps P r
      keeps_weaker (Ok after) k = k.0
      keeps_weaker (Err why) k = tt

-- ---- each token passes a test that the tokens of the list do

-- of the tokens so far and those of macros
pub record Holds (p : Token → Bool) (s : State) : Type 0 where
  pub bodies : BodiesHold p s.definitions.macros
  pub out : list_all p s.out ≡ true

or_punctuator-all : (bytes : List ℕ) (p : Token → Bool) (tokens : List Token) → list_all p tokens ≡ true → list_all (or_punctuator bytes p) tokens ≡ true
or_punctuator-all bytes p [] all = refl
or_punctuator-all bytes p (t ∷ tokens) all =
    let both = and_parts (p t) (list_all p tokens) all in
    rw (both.0, or_punctuator-all bytes p tokens both.1) refl

pub directive_holds : (p : Token → Bool) (s s' : State) (line : ℕ) (tokens : List Token) → Holds p s → list_all (or_punctuator s.definitions.bytes p) tokens ≡ true → after_directive line s tokens ≡ Ok s' → Holds p s'
directive_holds p s s' line tokens h all e =
    let follows = kept (Follows p s) _ s' (directive_follows p s line tokens all) e in
    record { bodies = follows.bodies h.bodies; out = ap (list_all p) follows.out ∙ h.out }

pub token_holds : (p : Token → Bool) → KeepsPlace p → (s s' : State) (t : Token) → Holds p s → p t ≡ true → after_token s t ≡ Ok s' → Holds p s'
token_holds p keeps s s' t h one e = ⊎_elim (λ same. subst (Holds p) (sym same) h) expanded (token_gives s s' t e)
  where
    expanded : Expands s s' t → Holds p s'
    expanded x = record {
      bodies = ap (λ d. list_all (λ macro. list_all p macro.body) d.macros) x.definitions ∙ h.bodies;
      out = ap (list_all p) x.out ∙ all_append p s.out _ h.out (expansion-all p keeps s.definitions.bytes s.definitions.macros t h.bodies one);
    }

pub list_holds : (p : Token → Bool) → KeepsPlace p → (bytes : List ℕ) (tokens : List Token) (s s' : State) → list_all p tokens ≡ true → Holds p s → after_blocks s (blocks_of bytes 0 tokens) ≡ Ok s' → Holds p s'
list_holds p keeps bytes tokens s s' all h e =
    kept (Holds p) _ s' (blocks_keep p (Holds p) (λ a b t h one is. token_holds p keeps a b t h one is) (λ a b line ts h one is. directive_holds p a b line ts h (or_punctuator-all a.definitions.bytes p ts one) is) bytes 0 tokens s all h) e

-- ---- the end of the list

abbrev pub is_inner : Token → Bool
is_inner token = not (is_end token.kind)

end_or_not : (kind : TokenKind) → is_end kind ≡ same_kind kind End
end_or_not Name = refl
end_or_not Number = refl
end_or_not Character = refl
end_or_not Text = refl
end_or_not Punct = refl
end_or_not End = refl

end_is : (kind : TokenKind) → is_end kind ≡ true → kind ≡ End
end_is Name e = cc
end_is Number e = cc
end_is Character e = cc
end_is Text e = cc
end_is Punct e = cc
end_is End e = refl

inner_then_end : (tokens : List Token) (t : Token) → list_all is_inner tokens ≡ true → is_end t.kind ≡ true → ends_once (tokens ++ t ∷ []) ≡ true
inner_then_end [] t inner e = e
inner_then_end (u ∷ []) t inner e = let both = and_parts (is_inner u) true inner in rw (both.0, e) refl
inner_then_end (u ∷ v ∷ tokens) t inner e =
    let both = and_parts (is_inner u) (list_all is_inner (v ∷ tokens)) inner in
    rw (both.0, inner_then_end (v ∷ tokens) t both.1 e) refl

-- the tokens of a line have no End
rest_is_inner : (tokens : List Token) → list_all is_inner (rest_of_line tokens) ≡ true
rest_is_inner [] = refl
rest_is_inner (t ∷ tokens) = by (rest_is_inner tokens) (stands_behind t) refl
  where
    by : list_all is_inner (rest_of_line tokens) ≡ true → (b : Bool) → stands_behind t ≡ b → list_all is_inner (rest_of_line (t ∷ tokens)) ≡ true
    by behind true e =
        let inner : is_inner t ≡ true = ap not (end_or_not t.kind) ∙ (and_parts (not t.first) (not (same_kind t.kind End)) e).1 in
        ap (list_all is_inner) (take_while-pass stands_behind t tokens e) ∙ rw (inner, behind) refl
    by behind false e = ap (list_all is_inner) (take_while-stop stands_behind t tokens e)

-- an End is appended as it is, whatever is active
end_stays : (bytes : List ℕ) (macros : List Macro) (t : Token) → t.kind ≡ End → expansion_of_token bytes macros t ≡ t ∷ []
unfolding replacement
end_stays bytes [] t e = refl
end_stays bytes (macro ∷ macros) t e = rw e refl

abbrev EndsOnce : State → Type 0
EndsOnce s = ends_once s.out ≡ true

end_token : (s : State) (t : Token) → is_end t.kind ≡ true → Holds is_inner s → Keeps EndsOnce (after_token s t)
end_token s t e h =
    let is = end_is t.kind e in
    keeps_cond EndsOnce (not (is_active s.groups) && not (same_kind t.kind End)) (Ok s) _ (λ g. absurd_and (not (is_active s.groups)) (ap (λ k. not (is_active s.groups) && not (same_kind k End)) (sym is) ∙ g))
    (λ _. keeps_cond EndsOnce (is_punctuator s.definitions.bytes t (codes "#")) (Err (fault.Directive t.line)) _ (λ _. tt)
    (λ _. keeps_then EndsOnce (with_expansion s.definitions t s.out) _ (λ out g.
    by (nat_lt token_limit (length s.out + length (expansion_of_token s.definitions.bytes s.definitions.macros t))) out (end_stays s.definitions.bytes s.definitions.macros t is) g)))
  where
    absurd_and : (b : Bool) → (b && false) ≡ true → EndsOnce s
    absurd_and true g = cc
    absurd_and false g = cc

    by : (b : Bool) (out : List Token) → expansion_of_token s.definitions.bytes s.definitions.macros t ≡ t ∷ [] → cond b (Err (fault.Expanded t.line)) (Ok (s.out ++ expansion_of_token s.definitions.bytes s.definitions.macros t)) ≡ Ok out → ends_once out ≡ true
    by true out stays g = cc
    by false out stays g =
        let is_out : s.out ++ expansion_of_token s.definitions.bytes s.definitions.macros t ≡ out = cc in
        ap ends_once (sym is_out ∙ ap (λ ts. s.out ++ ts) stays) ∙ inner_then_end s.out t h.out e

not_inner : (t : Token) → is_end t.kind ≡ true → is_inner t ≡ true → ⊥
not_inner t e inner = let other : not true ≡ true = rw e at inner in cc

ends_blocks : (bytes : List ℕ) (inside : ℕ) (tokens : List Token) (s : State) → ends_once tokens ≡ true → list_all is_inner (take inside tokens) ≡ true → Holds is_inner s → Keeps EndsOnce (after_blocks s (blocks_of bytes inside tokens))
unfolding blocks_of after_blocks
ends_blocks bytes inside [] s once line h = cc
ends_blocks bytes (suc inside) (t ∷ []) s once line h = absurd (not_inner t once (and_parts (is_inner t) (list_all is_inner (take inside [])) line).0)
ends_blocks bytes (suc inside) (t ∷ u ∷ tokens) s once line h =
    ends_blocks bytes inside (u ∷ tokens) s (and_parts (is_inner t) (ends_once (u ∷ tokens)) once).1 (and_parts (is_inner t) (list_all is_inner (take inside (u ∷ tokens))) line).1 h
ends_blocks bytes zero (t ∷ []) s once line h =
    let plain : (t.first && is_punctuator bytes t (codes "#")) ≡ false = rw (end_is t.kind once) (and_false t.first) in
    rw plain (keeps_then EndsOnce (after_token s t) _ (λ after is. kept EndsOnce _ after (end_token s t once h) is))
ends_blocks bytes zero (t ∷ u ∷ tokens) s once line h =
    let both = and_parts (is_inner t) (ends_once (u ∷ tokens)) once in
    by both.0 (λ (inside : ℕ) (after : State) (in_line : list_all is_inner (take inside (u ∷ tokens)) ≡ true) (k : Holds is_inner after). ends_blocks bytes inside (u ∷ tokens) after both.1 in_line k)
    (t.first && is_punctuator bytes t (codes "#")) refl
  where
    by : is_inner t ≡ true → ((inside : ℕ) (after : State) → list_all is_inner (take inside (u ∷ tokens)) ≡ true → Holds is_inner after → Keeps EndsOnce (after_blocks after (blocks_of bytes inside (u ∷ tokens)))) → (b : Bool) → (t.first && is_punctuator bytes t (codes "#")) ≡ b → Keeps EndsOnce (after_blocks s (blocks_of bytes zero (t ∷ u ∷ tokens)))
    by inner deep true e =
        let rest = rest_of_line (u ∷ tokens) in
        let in_line : list_all is_inner (take (length rest) (u ∷ tokens)) ≡ true = ap (list_all is_inner) (sym (take_while-front stands_behind (u ∷ tokens))) ∙ rest_is_inner (u ∷ tokens) in
        rw e (keeps_then EndsOnce (after_directive t.line s rest) _
        (λ after is. deep (length rest) after in_line (directive_holds is_inner s after t.line rest h (or_punctuator-all s.definitions.bytes is_inner rest (rest_is_inner (u ∷ tokens))) is)))
    by inner deep false e = rw e (keeps_then EndsOnce (after_token s t) _ (λ after is. deep 0 after refl (token_holds is_inner (λ name v. refl) s after t h inner is)))

-- ---- the whole

abbrev pub is_slice : ℕ → Token → Bool
is_slice size token = nat_le token.start token.end && nat_le token.end size

-- slices of a file are slices of the file with the digits behind it
pub within_more : (file : List ℕ) (tokens : List Token) → all_within (length file) tokens ≡ true → all_within (length (with_digits file)) tokens ≡ true
within_more file [] all = refl
within_more file (t ∷ tokens) all =
    let both = and_parts (is_slice (length file) t) (all_within (length file) tokens) all in
    let slice = and_parts (nat_le t.start t.end) (nat_le t.end (length file)) both.0 in
    let bound : t.end ≤ length file = leb-true t.end (length file) slice.1 in
    let more = le-leb t.end (length (with_digits file)) (omega (arith, length-append file (codes "10"))) in
    rw (slice.0, more, within_more file tokens both.1) refl

first_within : (file : List ℕ) → Holds (is_slice (length (with_digits file))) (first_state file)
first_within file = record { bodies = one; out = refl }
  where
    one : BodiesHold (is_slice (length (with_digits file))) (filc_macro file ∷ [])
    one =
        let start = le-leb (length file) (length file + 1) (omega arith) in
        let end = le-leb (length file + 1) (length (with_digits file)) (omega (arith, length-append file (codes "10"))) in
        rw (start, end) refl

pub result_within : (file : List ℕ) (tokens : List Token) (s : State) → all_within (length file) tokens ≡ true → after_blocks (first_state file) (blocks_of (with_digits file) 0 tokens) ≡ Ok s → all_within (length (with_digits file)) s.out ≡ true
result_within file tokens s all e =
    (list_holds (is_slice (length (with_digits file))) (λ name t. refl) (with_digits file) tokens (first_state file) s (within_more file tokens all) (first_within file) e).out

pub result_ends : (file : List ℕ) (tokens : List Token) (s : State) → ends_once tokens ≡ true → after_blocks (first_state file) (blocks_of (with_digits file) 0 tokens) ≡ Ok s → ends_once s.out ≡ true
result_ends file tokens s once e = kept EndsOnce _ s (ends_blocks (with_digits file) 0 tokens (first_state file) once refl (record { bodies = refl; out = refl })) e

pub result_bytes : (file : List ℕ) (tokens : List Token) (s : State) → after_blocks (first_state file) (blocks_of (with_digits file) 0 tokens) ≡ Ok s → s.definitions.bytes ≡ with_digits file
result_bytes file tokens s e =
    let P : State → Type 0 = λ after. after.definitions.bytes ≡ with_digits file in
    kept P _ s (blocks_keep (λ t. true) P (λ a b t h one is. token_bytes a b t is ∙ h) (λ a b line ts h one is. directive_bytes line a b ts is ∙ h) (with_digits file) 0 tokens (first_state file) (any_token tokens) refl) e

-- the first state as the code makes it
pub from_first : (m : Definitions) (file seen_file : List ℕ) (tokens seen_tokens : List Token) (r : Result State PreFault) → m.bytes ≡ with_digits seen_file → m.macros ≡ filc_macro seen_file ∷ [] → seen_file ≡ file → seen_tokens ≡ tokens
    → after_blocks (record { definitions = m; groups = []; out = [] }) (blocks_of m.bytes 0 seen_tokens) ≡ r → after_blocks (first_state file) (blocks_of (with_digits file) 0 tokens) ≡ r
from_first m file seen_file tokens seen_tokens r bytes macros same same_tokens told =
    sym (ap (λ d. let s : State = record { definitions = d; groups = []; out = [] } in after_blocks s (blocks_of d.bytes 0 seen_tokens)) is
    ∙ ap (λ f. after_blocks (first_state f) (blocks_of (with_digits f) 0 seen_tokens)) same ∙ ap (λ ts. after_blocks (first_state file) (blocks_of (with_digits file) 0 ts)) same_tokens)
    ∙ told
  where
    is : m ≡ record { bytes = with_digits seen_file; macros = filc_macro seen_file ∷ [] }
    is = ap (λ bs. let d : Definitions = record { bytes = bs; macros = m.macros } in d) bytes ∙ ap (λ ms. let d : Definitions = record { bytes = with_digits seen_file; macros = ms } in d) macros
