-- What an expansion gives: no # is left in it, it isn't too long, and so it expands to itself.
use Rattle.std.proofs.Common.{codes, ◌≡◌, ℕ, ◌-◌, ◌≤◌, ◌&&◌, ◌||◌, List, [], ◌∷◌, ◌++◌, Bool, true, false, not, cond, nat_le, refl, ap, sym, ◌∙◌, subst, arith, length, take, drop, Option, Some, None, Result, Ok, Err, ⊎_elim, length-drop}
use Rattle.std.proofs.lemmas.Bool.{and_parts, leb-true}
use Rattle.std.proofs.lemmas.List.{take-append-le, drop-append-le}
use Rattle.std.specs.List.{list_all}
use Rattle.c_lexer.specs.List.{all_within}
use Rattle.c_lexer.specs.declared.token.Token.{Token}
use Rattle.c_preproc.specs.declared.fault.PreFault.{PreFault}
use Rattle.c_preproc.specs.declared.fault.PreFault.TheVariants as fault
use Rattle.c_preproc.specs.Texts.{text_of, is_punctuator}
use Rattle.c_preproc.specs.Directives.{blocks_of}
use Rattle.c_preproc.specs.Groups.{unbalanced_line}
use Rattle.c_preproc.specs.Outcomes.{and_then}
use Rattle.c_preproc.specs.Expansion.{Outcome, State, after_blocks, after_directive, after_token, first_fault, is_before, first_state, list_of, token_limit, with_digits}
use Rattle.c_preproc.specs.Law.{is_filc, is_untouched, ExpansionsStay}
use Rattle.c_preproc.proofs.Lists.{all_append}
use Rattle.c_preproc.proofs.Carried.{Follows, any_token, directive_follows, kept, or_punctuator}
use Rattle.c_preproc.proofs.Ends.{Expands, Holds, blocks_keep, directive_holds, expansion-all, is_slice, result_within, token_gives}
use Rattle.c_preproc.proofs.Untouched.{expands_to_itself}

abbrev no_hash : List ℕ → Token → Bool
no_hash texts token = not (is_punctuator texts token (codes "#"))

-- no # is left, and there aren't too many tokens
record IsSettled (texts : List ℕ) (s : State) : Type 0 where
  bytes : s.definitions.bytes ≡ texts
  holds : Holds (no_hash texts) s
  few : length s.out ≤ token_limit

all_pass : (texts : List ℕ) (tokens : List Token) → list_all (or_punctuator texts (no_hash texts)) tokens ≡ true
all_pass texts [] = refl
all_pass texts (t ∷ tokens) = rw (all_pass texts tokens) (by (is_punctuator texts t (codes "#")))
  where
    by : (b : Bool) → ((not b || b) && true) ≡ true
    by true = refl
    by false = refl

token_settles : (texts : List ℕ) (s s' : State) (t : Token) → IsSettled texts s → true ≡ true → after_token s t ≡ Ok s' → IsSettled texts s'
token_settles texts s s' t h _ e = ⊎_elim (λ same. subst (IsSettled texts) (sym same) h) expanded (token_gives s s' t e)
  where
    expanded : Expands s s' t → IsSettled texts s'
    expanded x =
        let plain : no_hash texts t ≡ true = ap not (ap (λ bs. is_punctuator bs t (codes "#")) (sym h.bytes) ∙ x.plain) in
        record {
          bytes = ap (λ d. d.bytes) x.definitions ∙ h.bytes;
          holds = record {
            bodies = ap (λ d. list_all (λ macro. list_all (no_hash texts) macro.body) d.macros) x.definitions ∙ h.holds.bodies;
            out = ap (list_all (no_hash texts)) x.out ∙ all_append (no_hash texts) s.out _ h.holds.out (expansion-all (no_hash texts) (λ name u. refl) s.definitions.bytes s.definitions.macros t h.holds.bodies plain);
          };
          few = x.fits;
        }

directive_settles : (texts : List ℕ) (s s' : State) (line : ℕ) (tokens : List Token) → IsSettled texts s → list_all (λ t. true) tokens ≡ true → after_directive line s tokens ≡ Ok s' → IsSettled texts s'
directive_settles texts s s' line tokens h _ e =
    let any = kept (Follows (λ t. true) s) _ s' (directive_follows (λ t. true) s line tokens (any_or s.definitions.bytes tokens)) e in
    record {
      bytes = any.bytes ∙ h.bytes;
      holds = directive_holds (no_hash texts) s s' line tokens h.holds (ap (λ bs. list_all (or_punctuator bs (no_hash texts)) tokens) h.bytes ∙ all_pass texts tokens) e;
      few = subst (λ out. length out ≤ token_limit) (sym any.out) h.few;
    }
  where
    any_or : (bytes : List ℕ) (ts : List Token) → list_all (or_punctuator bytes (λ t. true)) ts ≡ true
    any_or bytes [] = refl
    any_or bytes (t ∷ ts) = any_or bytes ts

settled : (texts file : List ℕ) (tokens : List Token) (s : State) → texts ≡ with_digits file → after_blocks (first_state file) (blocks_of texts 0 tokens) ≡ Ok s → IsSettled texts s
settled texts file tokens s is e =
    kept (IsSettled texts) _ s (blocks_keep (λ t. true) (IsSettled texts) (token_settles texts) (directive_settles texts) texts 0 tokens (first_state file) (any_token tokens) (record { bytes = sym is; holds = record { bodies = refl; out = refl }; few = omega arith })) e

-- ---- a second time

-- a token is the same slice of longer bytes
same_slice : (texts more : List ℕ) (t : Token) → is_slice (length texts) t ≡ true → text_of (texts ++ more) t ≡ text_of texts t
same_slice texts more t h =
    let both = and_parts (nat_le t.start t.end) (nat_le t.end (length texts)) h in
    let start : t.start ≤ t.end = leb-true t.start t.end both.0 in
    let end : t.end ≤ length texts = leb-true t.end (length texts) both.1 in
    ap (take (t.end - t.start)) (drop-append-le t.start texts more (omega arith))
    ∙ take-append-le (t.end - t.start) (drop t.start texts) more (omega (arith, length-drop t.start texts))

untouched_again : (texts more : List ℕ) (out : List Token) → all_within (length texts) out ≡ true → list_all (no_hash texts) out ≡ true → list_all (λ t. not (is_filc texts t)) out ≡ true → list_all (is_untouched (texts ++ more)) out ≡ true
untouched_again texts more [] within clean named = refl
untouched_again texts more (t ∷ out) within clean named =
    let w = and_parts (is_slice (length texts) t) (all_within (length texts) out) within in
    let c = and_parts (no_hash texts t) (list_all (no_hash texts) out) clean in
    let n = and_parts (not (is_filc texts t)) (list_all (λ u. not (is_filc texts u)) out) named in
    let slice = same_slice texts more t w.0 in
    let behind = untouched_again texts more out w.1 c.1 n.1 in
    let plain : no_hash (texts ++ more) t ≡ true = rw slice c.0 in
    let name : not (is_filc (texts ++ more) t) ≡ true = rw slice n.0 in
    rw (plain, name, behind) refl

-- an outcome that stands is no other fault
stands : (line : Option ℕ) (outcome : Outcome) (out : List Token) → first_fault line outcome ≡ Ok out → outcome ≡ Ok out
stands None outcome out e = e
stands (Some line) (Ok tokens) out e = cc
stands (Some line) (Err why) out e = late (is_before why line) e
  where
    late : (b : Bool) → cond b (Err why) (Err (fault.Unbalanced line)) ≡ Ok out → Err why ≡ Ok out
    late true f = f
    late false f = cc

-- the state whose tokens a list is
pub last_state : (r : Result State PreFault) (out : List Token) → and_then r (λ state. Ok state.out) ≡ Ok out → (s : State) × (r ≡ Ok s) × (s.out ≡ out)
last_state (Ok s) out e = (s, refl, cc)
last_state (Err why) out e = cc

pub expansion_then : (bytes : List ℕ) (tokens out : List Token) → first_fault (unbalanced_line (with_digits bytes) [] (blocks_of (with_digits bytes) 0 tokens)) (list_of bytes (blocks_of (with_digits bytes) 0 tokens)) ≡ Ok out → (s : State) × (after_blocks (first_state bytes) (blocks_of (with_digits bytes) 0 tokens) ≡ Ok s) × (s.out ≡ out)
expansion_then bytes tokens out e = last_state _ out (stands _ _ out e)

pub expansions_stay : ExpansionsStay
expansions_stay bytes tokens out within e named =
    let texts = with_digits bytes in
    let last = expansion_then bytes tokens out e in
    let is = settled texts bytes tokens last.0 refl last.1 in
    let inside = ap (all_within (length texts)) (sym last.2) ∙ result_within bytes tokens last.0 within last.1 in
    expands_to_itself texts out (subst (λ ts. length ts ≤ token_limit) last.2 is.few) (untouched_again texts (codes "10") out inside (ap (list_all (no_hash texts)) (sym last.2) ∙ is.holds.out) named)
