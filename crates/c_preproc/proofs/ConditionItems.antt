-- The reader over tokens: a token without an item, or one that no expression goes on with, leaves no answer.
use Rattle.std.proofs.Common.{◌≡◌, ℕ, ◌+◌, ◌<◌, ◌≤◌, Bool, List, [], ◌∷◌, length, reverse, drop, get_or, false, Option, Some, None, refl, ap, sym, ◌∙◌, add-one, drop-cons}
use Rattle.std.proofs.lemmas.List.{drop_all}
use Rattle.std.specs.Option.{option_map, option_and_then}
use Rattle.c_lexer.specs.declared.token.Token.{Token}
use Rattle.c_lexer.specs.declared.token.TokenKind.TheVariants.{Name}
use Rattle.c_preproc.specs.Texts.{text_of}
use Rattle.c_preproc.specs.declared.condition_reader.Frame.{Frame}
use Rattle.c_preproc.specs.declared.condition_item.Item.{Item}
use Rattle.c_preproc.specs.declared.condition_reader.Mode.{Mode}
use Rattle.c_preproc.specs.declared.condition_reader.Mode.TheVariants.{Wanted}
use Rattle.c_preproc.specs.Condition.{item_of_kind, truth, truth_of_items}
use Rattle.c_preproc.specs.Expansion.{items_of}
use Rattle.c_preproc.specs.Code.Reading.{State, state, take_item, end_of}
use Rattle.c_preproc.proofs.ConditionSteps.{run}
use Rattle.c_preproc.proofs.ConditionRuns.{run-truth}

abbrev pub answer_of : State → List Item → Option Bool
answer_of s items = option_and_then (λ v. truth v.bits) (run items s)

-- the answer of all the tokens from a state on
abbrev pub answer : List ℕ → List Token → State → Option Bool
answer bytes tokens s = option_and_then (answer_of s) (items_of bytes tokens)

-- from the beginning
answer-first : (bytes : List ℕ) (tokens : List Token) → answer bytes tokens (state [] Wanted) ≡ option_and_then truth_of_items (items_of bytes tokens)
answer-first bytes tokens = by_items (items_of bytes tokens)
  where
    by_items : (o : Option (List Item)) → option_and_then (answer_of (state [] Wanted)) o ≡ option_and_then truth_of_items o
    by_items None = refl
    by_items (Some items) = run-truth items

pub on_start : (bytes : List ℕ) (tokens : List Token) (frames : List Frame) → frames ≡ [] → answer bytes tokens (state (reverse frames) Wanted) ≡ option_and_then truth_of_items (items_of bytes tokens)
on_start bytes tokens frames none = ap (λ fs. answer bytes tokens (state (reverse fs) Wanted)) none ∙ answer-first bytes tokens

-- ---- a token in front

answer-item : (bytes : List ℕ) (item : Item) (o : Option (List Item)) (s : State) (next : Option State) → next ≡ take_item s item → option_and_then (answer_of s) (option_map (λ items. item ∷ items) o) ≡ option_and_then (λ s. option_and_then (answer_of s) o) next
unfolding run
answer-item bytes item None s None e = refl
answer-item bytes item None s (Some after) e = refl
answer-item bytes item (Some items) s next e = ap (λ n. option_and_then (λ v. truth v.bits) (option_and_then (λ s. run items s) n)) (sym e) ∙ by_next next
  where
    by_next : (n : Option State) → option_and_then (λ v. truth v.bits) (option_and_then (λ s. run items s) n) ≡ option_and_then (λ s. answer_of s items) n
    by_next None = refl
    by_next (Some after) = refl

answer-none : (bytes : List ℕ) (token : Token) (tokens : List Token) (s : State) → None ≡ item_of_kind token.kind (text_of bytes token) → answer bytes (token ∷ tokens) s ≡ None
answer-none bytes token tokens s e = by_item (item_of_kind token.kind (text_of bytes token)) e
  where
    by_item : (o : Option Item) → None ≡ o → option_and_then (answer_of s) (option_and_then (λ item. option_map (λ items. item ∷ items) (items_of bytes tokens)) o) ≡ None
    by_item None e = refl
    by_item (Some item) e = absurd (cc)

answer-token : (bytes : List ℕ) (token : Token) (tokens : List Token) (s : State) (item : Item) (next : Option State) → Some item ≡ item_of_kind token.kind (text_of bytes token) → next ≡ take_item s item → answer bytes (token ∷ tokens) s ≡ option_and_then (λ s. answer bytes tokens s) next
answer-token bytes token tokens s item next e step = by_item (item_of_kind token.kind (text_of bytes token)) e
  where
    by_item : (o : Option Item) → Some item ≡ o → option_and_then (answer_of s) (option_and_then (λ item. option_map (λ items. item ∷ items) (items_of bytes tokens)) o) ≡ option_and_then (λ s. answer bytes tokens s) next
    by_item None e = absurd (cc)
    by_item (Some spelled) e =
        let same : item ≡ spelled = cc in
        answer-item bytes spelled (items_of bytes tokens) s next (step ∙ ap (take_item s) same)

-- ---- at a place

abbrev blank_token : Token
blank_token = record { kind = Name; line = 0; start = 0; end = 0; first = false; library = false }

abbrev token_at : List Token → ℕ → Token
token_at tokens i = get_or tokens i blank_token

abbrev item_at : List ℕ → List Token → ℕ → Option Item
item_at bytes tokens i = item_of_kind (token_at tokens i).kind (text_of bytes (token_at tokens i))

drop-token : (tokens : List Token) (i : ℕ) → i < length tokens → drop i tokens ≡ token_at tokens i ∷ drop (i + 1) tokens
drop-token tokens i h = rw (add-one, drop-cons tokens i blank_token) refl

-- a token that has no item
pub on_none : (bytes : List ℕ) (tokens : List Token) (i : ℕ) (s : State) (all : Option Bool) → i < length tokens → None ≡ item_at bytes tokens i → answer bytes (drop i tokens) s ≡ all → None ≡ all
on_none bytes tokens i s all h e so_far =
    sym (answer-none bytes (token_at tokens i) (drop (i + 1) tokens) s e) ∙ ap (λ ps. answer bytes ps s) (sym (drop-token tokens i h)) ∙ so_far

-- a token whose item is taken or isn't
on_token : (bytes : List ℕ) (tokens : List Token) (i : ℕ) (s : State) (item : Item) (next : Option State) (all : Option Bool) → i < length tokens → Some item ≡ item_at bytes tokens i → next ≡ take_item s item → answer bytes (drop i tokens) s ≡ all → option_and_then (λ s. answer bytes (drop (i + 1) tokens) s) next ≡ all
on_token bytes tokens i s item next all h e step so_far =
    sym (answer-token bytes (token_at tokens i) (drop (i + 1) tokens) s item next e step) ∙ ap (λ ps. answer bytes ps s) (sym (drop-token tokens i h)) ∙ so_far

pub on_refused : (bytes : List ℕ) (tokens : List Token) (i : ℕ) (s : State) (item : Item) (frames : List Frame) (mode : Option Mode) (all : Option Bool) → i < length tokens → Some item ≡ item_at bytes tokens i → option_map (state frames) mode ≡ take_item s item → mode ≡ None → answer bytes (drop i tokens) s ≡ all → None ≡ all
on_refused bytes tokens i s item frames mode all h e step none so_far =
    on_token bytes tokens i s item None all h e (ap (option_map (state frames)) (sym none) ∙ step) so_far

pub on_taken : (bytes : List ℕ) (tokens : List Token) (i : ℕ) (s : State) (item : Item) (frames : List Frame) (mode : Option Mode) (next : Mode) (all : Option Bool) → i < length tokens → Some item ≡ item_at bytes tokens i → option_map (state frames) mode ≡ take_item s item → mode ≡ Some next → answer bytes (drop i tokens) s ≡ all → answer bytes (drop (i + 1) tokens) (state frames next) ≡ all
on_taken bytes tokens i s item frames mode next all h e step some so_far =
    on_token bytes tokens i s item (Some (state frames next)) all h e (ap (option_map (state frames)) (sym some) ∙ step) so_far

-- no token is left
pub on_end : (bytes : List ℕ) (tokens : List Token) (i : ℕ) (s : State) (all : Option Bool) → length tokens ≤ i → answer bytes (drop i tokens) s ≡ all → option_and_then (λ v. truth v.bits) (end_of s) ≡ all
unfolding run
on_end bytes tokens i s all h so_far = ap (λ ps. answer bytes ps s) (sym (drop_all i tokens h)) ∙ so_far
