-- How a name is expanded: a depth-first search over the entries, which keeps what it found.
use Rattle.std.specs.Prelude.{◌≡◌, ℕ, zero, suc, ◌+◌, ◌-◌, ◌<◌, ◌≤◌, Bool, true, false, cond, ◌==◌, IsTrue, List, [], ◌∷◌, ◌++◌, length, map, reverse, drop, take, slice_index, slice_get, Option, Some, None, is_some, sum_by}
use Rattle.std.specs.List.{flat_map, list_any}
use Rattle.std.specs.Option.{option_map, option_map_or}
use Rattle.c_lexer.specs.declared.token.Token.{Token}
use Rattle.c_preproc.specs.declared.macros.Entry.{Entry}
use Rattle.c_preproc.specs.declared.macros.Table.{Table}
use Rattle.c_preproc.specs.declared.expander.Frame.{Frame}
use Rattle.c_preproc.specs.declared.expander.Kept.{Kept}
use Rattle.c_preproc.specs.declared.expander.Expander.{Expander}
use Rattle.c_preproc.specs.declared.expander.Fit.{Fit}
use Rattle.c_preproc.specs.declared.expander.Fit.TheVariants.{Fits, TooMany}
use Rattle.c_preproc.specs.declared.expander.Found.{Found}
use Rattle.c_preproc.specs.declared.expander.Found.TheVariants as found
use Rattle.c_preproc.specs.Texts.{text_of, is_name}
use Rattle.c_preproc.specs.Expansion.{token_limit}
use Rattle.c_preproc.specs.Macros.{Macro, macro_of, without, body_for, replacement_of}
use Rattle.c_preproc.specs.Code.Table.{place_of, defined_of, body_at, name_at}

-- the bytes of which tokens are slices, the place of each name, and the entries
pub record Setting : Type 0 where
  pub bytes : List ℕ
  pub places : List ℕ → Option ℕ
  pub entries : List Entry

-- what a table says of these bytes
abbrev pub setting_of : List ℕ → Table → Setting
setting_of bytes table = record { bytes = bytes; places = place_of table.index; entries = table.entries.items }

abbrev pub macros_of : Setting → List Macro
macros_of s = defined_of s.places s.entries

-- the entry that a token names
abbrev pub entry_of : Setting → Token → Option ℕ
entry_of s token = cond (is_name token) (s.places (text_of s.bytes token)) None

abbrev pub is_one_of : List ℕ → ℕ → Bool
is_one_of entries entry = list_any (λ other. other == entry) entries

abbrev pub entries_of : List Frame → List ℕ
entries_of frames = map (λ frame. frame.entry) frames

-- ---- what is left to be done; frames are the innermost first

-- the macros that are there inside of these frames
unfoldable pub macros_inside : Setting → List Frame → List Macro
macros_inside s [] = macros_of s
macros_inside s (frame ∷ outer) = without (macros_inside s outer) (name_at s.entries frame.entry)

-- what stands for tokens inside of these frames
abbrev pub replacements : Setting → List Frame → List Token → List Token
replacements s frames tokens = flat_map (replacement_of s.bytes (macros_inside s frames)) tokens

-- what the frames have still to give
unfoldable pub left_of : Setting → List Frame → List Token
left_of s [] = []
left_of s (frame ∷ outer) = replacements s (frame ∷ outer) (drop frame.next (body_at s.entries frame.entry)) ++ left_of s outer

-- in how many steps a token is replaced: one, or one for each of its macro's tokens and two more
unfoldable pub effort : ℕ → List ℕ → List Macro → Token → ℕ
effort zero bytes macros token = 1
effort (suc depth) bytes macros token =
    option_map_or (λ body. 2 + sum_by (effort depth bytes (without macros (text_of bytes token))) body) (body_for bytes macros token) 1

abbrev pub effort_of : List ℕ → List Macro → Token → ℕ
effort_of bytes macros token = effort (length macros) bytes macros token

-- in how many steps the frames are done
unfoldable pub work_of : Setting → List Frame → ℕ
work_of s [] = 0
work_of s (frame ∷ outer) =
    1 + sum_by (effort_of s.bytes (macros_inside s (frame ∷ outer))) (drop frame.next (body_at s.entries frame.entry)) + work_of s outer

-- ---- what is kept

abbrev pub if_of : ℕ → Option Kept → Option Kept
if_of entry None = None
if_of entry (Some kept) = cond (kept.entry == entry) (Some kept) None

-- the kept expansion of an entry: its spot is the index of one of that entry
abbrev pub kept_at : List ℕ → List Kept → ℕ → Option Kept
kept_at spots kept entry = if_of entry (slice_get kept (slice_index spots entry))

abbrev pub is_kept : List ℕ → List Kept → ℕ → Bool
is_kept spots kept entry = is_some (kept_at spots kept entry)

-- the part of the store from `start` to `end`
abbrev pub part_of : List Token → ℕ → ℕ → List Token
part_of tokens start end = take (end - start) (drop start tokens)

abbrev pub but_for : List ℕ → Option ℕ → Option ℕ
but_for hidden None = None
but_for hidden (Some entry) = cond (is_one_of hidden entry) None (Some entry)

-- the macros are those of the entries but for these
pub record LeavesOut (s : Setting) (hidden : List ℕ) (macros : List Macro) : Type 0 where
  pub same : (name : List ℕ) → option_map (λ macro. macro.body) (macro_of macros name) ≡ option_map (body_at s.entries) (but_for hidden (s.places name))

-- wherever no kept entry is hidden the tokens are replaced by these
abbrev pub Yields : Setting → (ℕ → Bool) → List Token → List Token → Type 0
Yields s kept tokens out =
    (hidden : List ℕ) (macros : List Macro) → LeavesOut s hidden macros → ((entry : ℕ) → is_one_of hidden entry ≡ true → kept entry ≡ false)
    → flat_map (replacement_of s.bytes macros) tokens ≡ out

-- wherever no kept entry is hidden a name of the entry is replaced by these
abbrev pub NameYields : Setting → (ℕ → Bool) → ℕ → List Token → Type 0
NameYields s kept entry out =
    (hidden : List ℕ) (macros : List Macro) → LeavesOut s hidden macros → ((other : ℕ) → is_one_of hidden other ≡ true → kept other ≡ false)
    → (token : Token) → entry_of s token ≡ Some entry → replacement_of s.bytes macros token ≡ out

-- a kept expansion is known by its spot, and its tokens stand for the entry's name
pub record IsKept (s : Setting) (spots : List ℕ) (all : List Kept) (tokens : List Token) (index : ℕ) (kept : Kept) : Type 0 where
  pub below : kept.entry < length s.entries
  pub spot : slice_index spots kept.entry ≡ index
  pub ordered : kept.start ≤ kept.end
  pub within : kept.end ≤ length tokens
  pub yields : NameYields s (is_kept spots all) kept.entry (part_of tokens kept.start kept.end)

abbrev pub AllKept : Setting → List ℕ → List Kept → List Token → Type 0
AllKept s spots all tokens = (index : ℕ) (kept : Kept) → slice_get all index ≡ Some kept → IsKept s spots all tokens index kept

-- what holds of the store between two expansions
pub record IsStore (s : Setting) (x : Expander) : Type 0 where
  pub seats : length s.entries ≤ length x.seats.items
  pub spots : length s.entries ≤ length x.spots.items
  pub kept : AllKept s x.spots.items x.kept.items x.tokens.items

-- ---- the frames

-- the entry is defined, and its expansion begins within the store
pub record IsOpen (s : Setting) (frame : Frame) (tokens : List Token) : Type 0 where
  pub defined : s.places (name_at s.entries frame.entry) ≡ Some frame.entry
  pub within : frame.start ≤ length tokens

-- a frame whose token is being replaced: without a hidden name the tokens before that one are replaced
pub record IsAt (s : Setting) (kept : ℕ → Bool) (token : Token) (frame : Frame) (tokens : List Token) : Type 0 where
  pub opened : IsOpen s frame tokens
  pub before : List Token
  pub taken : take frame.next (body_at s.entries frame.entry) ≡ before ++ token ∷ []
  pub clean : IsTrue frame.clean → Yields s kept before (drop frame.start tokens)

-- frames that wait for the entry that a token of the innermost names
abbrev pub AreWaiting : Setting → (ℕ → Bool) → ℕ → List Frame → List Token → Type 0
AreWaiting s kept entry [] tokens = Unit {0}
AreWaiting s kept entry (frame ∷ outer) tokens =
    ((token : Token) × (entry_of s token ≡ Some entry) × IsAt s kept token frame tokens) × AreWaiting s kept frame.entry outer (take frame.start tokens)

-- a frame whose first tokens are replaced
pub record IsBetween (s : Setting) (kept : ℕ → Bool) (frame : Frame) (tokens : List Token) : Type 0 where
  pub opened : IsOpen s frame tokens
  pub clean : IsTrue frame.clean → Yields s kept (take frame.next (body_at s.entries frame.entry)) (drop frame.start tokens)

abbrev pub AreTraced : Setting → (ℕ → Bool) → List Frame → List Token → Type 0
AreTraced s kept [] tokens = Unit {0}
AreTraced s kept (frame ∷ outer) tokens = IsBetween s kept frame tokens × AreWaiting s kept frame.entry outer (take frame.start tokens)

-- the same, where the innermost frame is at this token
abbrev pub AreAt : Setting → (ℕ → Bool) → Token → List Frame → List Token → Type 0
AreAt s kept token [] tokens = ⊥
AreAt s kept token (frame ∷ outer) tokens = IsAt s kept token frame tokens × AreWaiting s kept frame.entry outer (take frame.start tokens)

-- the seat of an entry that is open is the index of its frame
abbrev pub AreSeated : List ℕ → List ℕ → Type 0
AreSeated seats entries = (k : ℕ) → k < length entries → slice_index seats (slice_index entries k) ≡ k

-- no entry that is kept is open, and each that is open has its seat
pub record ArePlaced (seats spots : List ℕ) (kept : List Kept) (stack : List Frame) : Type 0 where
  pub seated : AreSeated seats (entries_of stack)
  pub apart : (entry : ℕ) → is_one_of (entries_of stack) entry ≡ true → is_kept spots kept entry ≡ false

-- what holds of the store while it has these frames
pub record IsWalking (s : Setting) (x : Expander) (stack : List Frame) : Type 0 where
  pub store : IsStore s x
  pub placed : ArePlaced x.seats.items x.spots.items x.kept.items stack
  pub traced : AreTraced s (is_kept x.spots.items x.kept.items) (reverse stack) x.tokens.items

pub record IsWalkingAt (s : Setting) (x : Expander) (token : Token) : Type 0 where
  pub store : IsStore s x
  pub placed : ArePlaced x.seats.items x.spots.items x.kept.items x.stack.items
  pub at : AreAt s (is_kept x.spots.items x.kept.items) token (reverse x.stack.items) x.tokens.items

-- ---- a step

abbrev pub known_or_new : ℕ → Option Kept → Found
known_or_new entry None = found.New entry
known_or_new entry (Some kept) = found.Known kept

-- what an entry is found to be, by those that are open and those that are kept
abbrev pub found_by : List ℕ → (ℕ → Option Kept) → Option ℕ → Found
found_by opened kept None = found.Plain
found_by opened kept (Some entry) = cond (is_one_of opened entry) found.Hidden (known_or_new entry (kept entry))

-- what a token is found to be
abbrev pub found_of : Setting → Expander → Token → Found
found_of s x token = found_by (entries_of x.stack.items) (kept_at x.spots.items x.kept.items) (entry_of s token)

-- it fits, and that holds; or what is wanted is longer than the limit
abbrev pub IfFits : Fit → (size limit : ℕ) → Type 0 → Type 0
IfFits Fits size limit Holds = Holds
IfFits TooMany size limit Holds = limit < size

-- tokens were appended
abbrev pub Appends : Fit → ℕ → List Token → List Token → List Token → Type 0
Appends fit limit more old new = IfFits fit (length old + length more) limit ((new ≡ old ++ more) × (length new ≤ limit))

-- what was left came nearer to its end: what was put out is no part of it any more
pub record Advances (s : Setting) (left : List Token) (work : ℕ) (tokens new_tokens : List Token) (frames : List Frame) : Type 0 where
  pub added : List Token
  pub grown : new_tokens ≡ tokens ++ added
  pub gives : added ++ left_of s frames ≡ left
  pub less : work_of s frames < work

-- a step was made towards what was left
abbrev pub IsStep : Fit → Setting → ℕ → List Token → ℕ → List Token → Expander → Type 0
IsStep fit s limit left work tokens x =
    IfFits fit (length tokens + length left) limit (IsWalking s x x.stack.items × Advances s left work tokens x.tokens.items (reverse x.stack.items))

-- a list was left as it is or grew at its end
abbrev pub Grows : List Token → List Token → Type 0
Grows old new = (more : List Token) × (new ≡ old ++ more)

-- the innermost frame has met a hidden name
abbrev pub taint : List Frame → List Frame
taint [] = []
taint (frame ∷ outer) = record frame { clean = false } ∷ outer

-- the token was replaced, or begins to be, before what was left
abbrev pub IsReplaced : Fit → Setting → ℕ → Token → Expander → Expander → Type 0
IsReplaced fit s limit token old new =
    let frames = reverse old.stack.items in
    IsStep fit s limit (replacement_of s.bytes (macros_inside s frames) token ++ left_of s frames) (effort_of s.bytes (macros_inside s frames) token + work_of s frames) old.tokens.items new

-- what was put into the store and what is left are together what is wanted
pub record IsRunning (s : Setting) (x : Expander) (start wanted : List Token) : Type 0 where
  pub walking : IsWalking s x x.stack.items
  pub added : List Token
  pub grown : x.tokens.items ≡ start ++ added
  pub gives : added ++ left_of s (reverse x.stack.items) ≡ wanted

-- the part of the store is what is wanted
pub record IsPart (kept : Kept) (tokens wanted : List Token) : Type 0 where
  pub ordered : kept.start ≤ kept.end
  pub within : kept.end ≤ length tokens
  pub part : part_of tokens kept.start kept.end ≡ wanted

-- there is such a part, or what is wanted is longer than the limit
abbrev pub IsRange : Option Kept → List Token → List Token → Type 0
IsRange None tokens wanted = token_limit < length wanted
IsRange (Some kept) tokens wanted = IsPart kept tokens wanted
