-- The expansion of a token list: its directives carried out in order, and macros expanded in the other tokens.
--
-- Faults come in the order of their lines. An `if` without its end, and a part in the wrong place,
-- are found by nesting alone, and stand before any other fault of the same or a later line.
use Rattle.std.specs.Prelude.{codes, ℕ, zero, suc, ◌+◌, ◌-◌, Bool, true, false, cond, if◌then◌else◌, not, ◌&&◌, ◌||◌, ◌==◌, nat_lt, List, [], ◌∷◌, ◌++◌, length, drop, Option, Some, None, is_some, Result, Ok, Err}
use Rattle.std.specs.Option.{option_map, option_and_then}
use Rattle.c_lexer.specs.declared.token.Token.{Token}
use Rattle.c_lexer.specs.declared.token.TokenKind.TheVariants.{Number, End}
use Rattle.c_preproc.specs.declared.fault.PreFault.{PreFault}
use Rattle.c_preproc.specs.declared.fault.PreFault.TheVariants as fault
use Rattle.c_preproc.specs.declared.directives.DirectiveWord.{DirectiveWord}
use Rattle.c_preproc.specs.declared.directives.DirectiveWord.TheVariants.{Nothing, Include, Define, Undefine, If, IfDefined, IfUndefined, ElseIf, Else, EndIf, Pragma, Unknown}
use Rattle.c_preproc.specs.declared.state.Group.{Group}
use Rattle.c_preproc.specs.declared.state.Group.TheVariants.{Outside, Waiting, Active, Past}
use Rattle.c_preproc.specs.declared.condition_item.Item.{Item}
use Rattle.c_preproc.specs.Outcomes.{and_then}
use Rattle.c_preproc.specs.Texts.{text_of, same_tokens, same_kind, is_name, is_word, is_punctuator}
use Rattle.c_preproc.specs.Directives.{Block, Directive, Plain, blocks_of, directive_word}
use Rattle.c_preproc.specs.Macros.{Definitions, Macro, macro_of, expansion_of_token, without}
use Rattle.c_preproc.specs.Condition.{item_of_kind, truth_of_items}
use Rattle.c_preproc.specs.Groups.{unbalanced_line}

-- ---- expansions, one behind another

-- the most tokens of an expanded list, and of the expanded list of one condition
abbrev pub token_limit : ℕ
token_limit = 4194304

-- the token's expansion behind a list, if that isn't too long
abbrev pub with_expansion : Definitions → Token → List Token → Result (List Token) PreFault
with_expansion d token out =
    let more = expansion_of_token d.bytes d.macros token in
    cond (nat_lt token_limit (length out + length more)) (Err (fault.Expanded token.line)) (Ok (out ++ more))

unfoldable pub with_expansions : Definitions → List Token → List Token → Result (List Token) PreFault
with_expansions d [] out = Ok out
with_expansions d (token ∷ tokens) out = and_then (with_expansion d token out) (with_expansions d tokens)

-- ---- conditions

abbrev pub is_defined : Definitions → Token → Bool
is_defined d name = is_some (macro_of d.macros (text_of d.bytes name))

-- the name that `defined` asks for, and the number of tokens behind `defined` that do so
abbrev pub operand_of_defined : List ℕ → List Token → Option (Token × ℕ)
operand_of_defined bytes [] = None
operand_of_defined bytes (a ∷ []) = cond (is_name a) (Some (a, 1)) None
operand_of_defined bytes (a ∷ b ∷ []) = cond (is_name a) (Some (a, 1)) None
operand_of_defined bytes (a ∷ b ∷ c ∷ rest) =
    cond (is_name a) (Some (a, 1))
    (cond (is_punctuator bytes a (codes "(") && (is_name b && is_punctuator bytes c (codes ")"))) (Some (b, 3)) None)

-- the bytes of the expanded tokens: those of the file, and the 1 and the 0 that a `defined` stands for
abbrev pub with_digits : List ℕ → List ℕ
with_digits bytes = bytes ++ codes "10"

-- the number that a `defined` stands for: one of the last two bytes
abbrev pub truth_token : List ℕ → Bool → Token → Token
truth_token bytes holds token =
    let start = length bytes - cond holds 2 1 in
    record token { kind = Number; start = start; end = start + 1 }

-- the tokens of a condition with each `defined` decided, where the next `inside` are part of one; none where one has no name
unfoldable pub decided_of : Definitions → ℕ → List Token → Option (List Token)
decided_of d inside [] = Some []
decided_of d (suc inside) (token ∷ tokens) = decided_of d inside tokens
decided_of d zero (token ∷ tokens) =
    cond (is_word d.bytes token (codes "defined"))
    (option_and_then (λ (name, count). option_map (λ behind. truth_token d.bytes (is_defined d name) token ∷ behind) (decided_of d count tokens)) (operand_of_defined d.bytes tokens))
    (option_map (λ behind. token ∷ behind) (decided_of d 0 tokens))

-- the items of tokens; none where one is none
abbrev pub items_of : List ℕ → List Token → Option (List Item)
items_of bytes [] = Some []
items_of bytes (token ∷ tokens) = option_and_then (λ item. option_map (λ items. item ∷ items) (items_of bytes tokens)) (item_of_kind token.kind (text_of bytes token))

abbrev pub or_directive : {A : Type 0} → ℕ → Option A → Result A PreFault
or_directive line None = Err (fault.Directive line)
or_directive line (Some x) = Ok x

-- whether a condition holds
abbrev pub condition_of : Definitions → ℕ → List Token → Result Bool PreFault
condition_of d line tokens =
    and_then (or_directive line (decided_of d 0 tokens)) (λ decided.
    and_then (with_expansions d decided []) (λ expanded.
    or_directive line (option_and_then truth_of_items (items_of d.bytes expanded))))

-- ---- one directive after another

-- the definitions, the group that each open `if` is in, innermost first, and the tokens so far
pub record State : Type 0 where
  pub definitions : Definitions
  pub groups : List Group
  pub out : List Token

abbrev pub is_active : List Group → Bool
is_active [] = true
is_active (Active ∷ groups) = true
is_active (group ∷ groups) = false

-- exactly one name
abbrev pub only_name : List Token → Option Token
only_name [] = None
only_name (a ∷ []) = cond (is_name a) (Some a) None
only_name (a ∷ b ∷ rest) = None

-- the line of the first #, which has no place in a macro's tokens
abbrev pub hash_line : List ℕ → List Token → Option ℕ
hash_line bytes [] = None
hash_line bytes (token ∷ tokens) = cond (is_punctuator bytes token (codes "#")) (Some token.line) (hash_line bytes tokens)

-- a parenthesis directly behind the name, as of a macro with parameters
abbrev pub has_parameters : List ℕ → Token → List Token → Bool
has_parameters bytes name [] = false
has_parameters bytes name (token ∷ tokens) = is_punctuator bytes token (codes "(") && token.start == name.end

abbrev pub with_macros : State → List Macro → State
with_macros state macros = record state { definitions = record { bytes = state.definitions.bytes; macros = macros } }

abbrev pub with_groups : State → List Group → State
with_groups state groups = record state { groups = groups }

-- a second definition has the same tokens, and changes nothing
abbrev pub with_macro : ℕ → State → Macro → Option Macro → Result State PreFault
with_macro line state macro None = Ok (with_macros state (macro ∷ state.definitions.macros))
with_macro line state macro (Some old) = cond (same_tokens state.definitions.bytes old.body macro.body) (Ok state) (Err (fault.Directive line))

abbrev pub no_hash : Option ℕ → State → Result State PreFault
no_hash None state = Ok state
no_hash (Some at) state = Err (fault.Directive at)

abbrev pub define : ℕ → State → List Token → Result State PreFault
define line state [] = Err (fault.Directive line)
define line state (name ∷ body) =
    let bytes = state.definitions.bytes in
    let macro : Macro = record { name = text_of bytes name; body = body } in
    cond (not (is_name name) || has_parameters bytes name body) (Err (fault.Directive line))
    (and_then (with_macro line state macro (macro_of state.definitions.macros macro.name)) (no_hash (hash_line bytes body)))

abbrev pub undefine : State → Token → State
undefine state name = with_macros state (without state.definitions.macros (text_of state.definitions.bytes name))

-- the group that a condition chooses
abbrev pub group_if : Bool → Group
group_if holds = cond holds Active Waiting

-- `ifdef` wants the name to be defined, and `ifndef` wants it not to be
abbrev pub is_as_wanted : Bool → Bool → Bool
is_as_wanted wanted holds = cond wanted holds (not holds)

-- an `if` in an active group
abbrev pub open_if : State → Bool → State
open_if state holds = with_groups state (group_if holds ∷ state.groups)

-- `elif` and `else`: not looked at where their `if` isn't, and never active after an active group
abbrev pub after_group : Group → Group
after_group Outside = Outside
after_group Waiting = Active
after_group Active = Past
after_group Past = Past

abbrev pub else_if : ℕ → State → List Token → List Group → Result State PreFault
else_if line state tokens [] = Ok state
else_if line state tokens (Waiting ∷ groups) =
    and_then (condition_of state.definitions line tokens) (λ holds. Ok (with_groups state (group_if holds ∷ groups)))
else_if line state tokens (group ∷ groups) = Ok (with_groups state (after_group group ∷ groups))

-- nothing stands behind the word, or nothing of the `if` is looked at
abbrev pub bare : ℕ → Group → List Token → Result Group PreFault
bare line Outside tokens = Ok Outside
bare line group [] = Ok group
bare line group (token ∷ tokens) = Err (fault.Directive line)

abbrev pub else_of : ℕ → State → List Token → List Group → Result State PreFault
else_of line state tokens [] = Ok state
else_of line state tokens (group ∷ groups) = and_then (bare line group tokens) (λ group. Ok (with_groups state (after_group group ∷ groups)))

abbrev pub end_if : ℕ → State → List Token → List Group → Result State PreFault
end_if line state tokens [] = Ok state
end_if line state tokens (group ∷ groups) = and_then (bare line group tokens) (λ group. Ok (with_groups state groups))

-- `ifdef` and `ifndef` in an active group
abbrev pub open_by_name : Bool → ℕ → State → List Token → Result State PreFault
open_by_name wanted line state tokens =
    and_then (or_directive line (only_name tokens)) (λ name. Ok (open_if state (is_as_wanted wanted (is_defined state.definitions name))))

-- a directive in an active group, with the tokens behind its word
abbrev pub carry_out : ℕ → State → DirectiveWord → List Token → Result State PreFault
carry_out line state Nothing tokens = Ok state
carry_out line state Include tokens = Err (fault.Header line)
carry_out line state Define tokens = define line state tokens
carry_out line state Undefine tokens = and_then (or_directive line (only_name tokens)) (λ name. Ok (undefine state name))
carry_out line state If tokens = and_then (condition_of state.definitions line tokens) (λ holds. Ok (open_if state holds))
carry_out line state IfDefined tokens = open_by_name true line state tokens
carry_out line state IfUndefined tokens = open_by_name false line state tokens
carry_out line state ElseIf tokens = else_if line state tokens state.groups
carry_out line state Else tokens = else_of line state tokens state.groups
carry_out line state EndIf tokens = end_if line state tokens state.groups
carry_out line state Pragma tokens = Ok state
carry_out line state Unknown tokens = Err (fault.Directive line)

abbrev pub open_outside : State → State
open_outside state = with_groups state (Outside ∷ state.groups)

-- a directive in a group that isn't active: only nesting counts
abbrev pub pass_over : ℕ → State → DirectiveWord → List Token → Result State PreFault
pass_over line state If tokens = Ok (open_outside state)
pass_over line state IfDefined tokens = Ok (open_outside state)
pass_over line state IfUndefined tokens = Ok (open_outside state)
pass_over line state ElseIf tokens = else_if line state tokens state.groups
pass_over line state Else tokens = else_of line state tokens state.groups
pass_over line state EndIf tokens = end_if line state tokens state.groups
pass_over line state _ tokens = Ok state

-- the directive that has these tokens behind its #
abbrev pub after_directive : ℕ → State → List Token → Result State PreFault
after_directive line state tokens =
    let word = directive_word state.definitions.bytes tokens in
    if is_active state.groups then carry_out line state word (drop 1 tokens) else pass_over line state word (drop 1 tokens)

-- a token that is no part of a directive
abbrev pub after_token : State → Token → Result State PreFault
after_token state token =
    cond (not (is_active state.groups) && not (same_kind token.kind End)) (Ok state)
    (cond (is_punctuator state.definitions.bytes token (codes "#")) (Err (fault.Directive token.line))
    (and_then (with_expansion state.definitions token state.out) (λ out. Ok (record state { out = out }))))

abbrev pub after_block : State → Block → Result State PreFault
after_block state (Plain token) = after_token state token
after_block state (Directive hash tokens) = after_directive hash.line state tokens

-- the blocks one after another, up to the first fault
unfoldable pub after_blocks : State → List Block → Result State PreFault
after_blocks state [] = Ok state
after_blocks state (block ∷ blocks) = and_then (after_block state block) (λ after. after_blocks after blocks)

-- ---- the whole

abbrev pub Outcome : Type 0
Outcome = Result (List Token) PreFault

-- whether a fault is of an earlier line than this one; want of memory has none
abbrev pub is_before : PreFault → ℕ → Bool
is_before (fault.Directive at) line = nat_lt at line
is_before (fault.Header at) line = nat_lt at line
is_before (fault.Unbalanced at) line = nat_lt at line
is_before (fault.Expanded at) line = nat_lt at line
is_before fault.NoMemory line = true

-- of two faults the one of the earlier line, and of one line Unbalanced
abbrev pub first_fault : Option ℕ → Outcome → Outcome
first_fault None outcome = outcome
first_fault (Some line) (Ok tokens) = Err (fault.Unbalanced line)
first_fault (Some line) (Err other) = if is_before other line then Err other else Err (fault.Unbalanced line)

-- the only macro that is there at the beginning
abbrev pub filc_macro : List ℕ → Macro
filc_macro bytes = record {
  name = codes "__FILC__";
  body = record { kind = Number; line = 0; start = length bytes; end = length bytes + 1; first = false; library = false } ∷ [];
}

abbrev pub first_state : List ℕ → State
first_state bytes = record { definitions = record { bytes = with_digits bytes; macros = filc_macro bytes ∷ [] }; groups = []; out = [] }

-- the tokens when all blocks are carried out
abbrev pub list_of : List ℕ → List Block → Outcome
list_of bytes blocks = and_then (after_blocks (first_state bytes) blocks) (λ state. Ok state.out)

-- the expansion of blocks whose tokens are slices of these bytes, or its first fault
abbrev pub expansion_of_blocks : List ℕ → List Block → Outcome
expansion_of_blocks bytes blocks = first_fault (unbalanced_line (with_digits bytes) [] blocks) (list_of bytes blocks)

-- the expansion of a token list whose tokens are slices of these bytes, or its first fault
abbrev pub expansion_of : List ℕ → List Token → Outcome
expansion_of bytes tokens = expansion_of_blocks bytes (blocks_of (with_digits bytes) 0 tokens)
