-- A group whose condition is 0 may be cut out.
use Rattle.std.proofs.Common.{codes, ◌≡◌, ℕ, List, [], ◌∷◌, ◌++◌, Bool, true, false, refl, ap, sym, subst, ◌∙◌, drop, Some, Ok}
use Rattle.std.specs.List.{list_all}
use Rattle.std.specs.Option.{option_and_then}
use Rattle.c_lexer.specs.declared.token.Token.{Token}
use Rattle.c_lexer.specs.declared.token.TokenKind.TheVariants.{Number}
use Rattle.c_lexer.specs.Number.{number_of}
use Rattle.c_preproc.specs.declared.directives.DirectiveWord.TheVariants.{If, EndIf}
use Rattle.c_preproc.specs.declared.groups.Open.{Open}
use Rattle.c_preproc.specs.declared.state.Group.{Group}
use Rattle.c_preproc.specs.declared.state.Group.TheVariants.{Outside, Waiting, Active, Past}
use Rattle.c_preproc.specs.Directives.{Block, Plain, Directive, directive_word}
use Rattle.c_preproc.specs.Macros.{Definitions, Macro, expansion_of_token, replacement}
use Rattle.c_preproc.specs.Condition.{read_tree, truth_of_items, value_of}
use Rattle.c_preproc.specs.Groups.{after_step, opens_after, step_of, unbalanced_line, with_if}
use Rattle.c_preproc.specs.Outcomes.{and_then}
use Rattle.c_preproc.specs.Expansion.{State, after_blocks, after_directive, condition_of, decided_of, expansion_of_blocks, first_fault, first_state, is_active, items_of, or_directive, with_digits, with_expansions, with_groups}
use Rattle.c_preproc.specs.Law.{AreBalanced, GroupsOfOneStay, GroupsOfZeroAreCutOut, is_inner, IsGroup, IsNumber}
use Rattle.c_preproc.proofs.Alike.{carried-alike}
use Rattle.c_preproc.proofs.CutOut.{balance-before, balance-inside, passed-over, state-before}

-- ---- a condition that is a number

number_stays : (bytes : List ℕ) (macros : List Macro) (t : Token) → t.kind ≡ Number → expansion_of_token bytes macros t ≡ t ∷ []
unfolding replacement
number_stays bytes [] t e = refl
number_stays bytes (macro ∷ macros) t e = rw e refl

pub number_holds : (d : Definitions) (line : ℕ) (t : Token) → t.kind ≡ Number → condition_of d line (t ∷ []) ≡ or_directive line (option_and_then truth_of_items (items_of d.bytes (t ∷ [])))
unfolding decided_of with_expansions
number_holds d line t kind =
    let decided : decided_of d 0 (t ∷ []) ≡ Some (t ∷ []) = rw kind refl in
    let expanded : with_expansions d (t ∷ []) [] ≡ Ok (t ∷ []) = rw (number_stays d.bytes d.macros t kind) refl in
    ap (λ o. and_then (or_directive line o) (λ tokens. and_then (with_expansions d tokens []) (λ expanded. or_directive line (option_and_then truth_of_items (items_of d.bytes expanded))))) decided
    ∙ ap (λ r. and_then r (λ expanded. or_directive line (option_and_then truth_of_items (items_of d.bytes expanded)))) expanded

zero_holds_not : (d : Definitions) (line : ℕ) (t : Token) → IsNumber d.bytes (codes "0") t → condition_of d line (t ∷ []) ≡ Ok false
unfolding read_tree value_of number_of
zero_holds_not d line t is = number_holds d line t is.kind ∙ rw (is.kind, is.spelled) refl

-- ---- a group

-- a directive in front
at_directive : (s : State) (hash : Token) (line : List Token) (rest : List Block) → after_blocks s (Directive hash line ∷ rest) ≡ and_then (after_directive hash.line s line) (λ after. after_blocks after rest)
unfolding after_blocks
at_directive s hash line rest = refl

-- the `if` opens a group that isn't active
opens_passive : (s : State) (hash : Token) (line : List Token) (number : Token) → directive_word s.definitions.bytes line ≡ If → drop 1 line ≡ number ∷ [] → IsNumber s.definitions.bytes (codes "0") number
    → (group : Group) × (after_directive hash.line s line ≡ Ok (with_groups s (group ∷ s.groups))) × (is_active (group ∷ s.groups) ≡ false)
opens_passive s hash line number word tokens is = by (is_active s.groups) refl
  where
    by : (b : Bool) → is_active s.groups ≡ b → (group : Group) × (after_directive hash.line s line ≡ Ok (with_groups s (group ∷ s.groups))) × (is_active (group ∷ s.groups) ≡ false)
    by true e = (Waiting, rw (e, word, tokens, zero_holds_not s.definitions hash.line number is) refl, refl)
    by false e = (Outside, rw (e, word) refl, refl)

-- an end that closes a group
closes : (s : State) (hash : Token) (line : List Token) (group : Group) (groups : List Group) → directive_word s.definitions.bytes line ≡ EndIf → drop 1 line ≡ [] → after_directive hash.line (with_groups s (group ∷ groups)) line ≡ Ok (with_groups s groups)
closes s hash line Outside groups word none = rw word refl
closes s hash line Waiting groups word none = rw (word, none) refl
closes s hash line Active groups word none = rw (word, none) refl
closes s hash line Past groups word none = rw (word, none) refl

state_cut : (s : State) (middle back : List Block) (first last : Block) → IsGroup s.definitions.bytes (codes "0") first last → AreBalanced s.definitions.bytes middle → list_all is_inner middle ≡ true → after_blocks s (first ∷ (middle ++ (last ∷ back))) ≡ after_blocks s back
state_cut s middle back (Plain t) last group balanced inner = absurd group.begins
state_cut s middle back first (Plain t) group balanced inner = absurd group.ends
state_cut s middle back (Directive hash line) (Directive end end_line) group balanced inner =
    let opens = opens_passive s hash line group.token group.begins.0 group.begins.1 group.is_number in
    at_directive s hash line (middle ++ (Directive end end_line ∷ back))
    ∙ ap (λ r. and_then r (λ after. after_blocks after (middle ++ (Directive end end_line ∷ back)))) opens.1
    ∙ passed-over s (opens.0 ∷ s.groups) opens.2 (Directive end end_line ∷ back) [] middle balanced inner
    ∙ at_directive (with_groups s (opens.0 ∷ s.groups)) end end_line back
    ∙ ap (λ r. and_then r (λ after. after_blocks after back)) (closes s end end_line opens.0 s.groups group.ends.0 group.ends.1)

balance_cut : (texts number : List ℕ) (opens : List Open) (middle back : List Block) (first last : Block) → IsGroup texts number first last → AreBalanced texts middle → unbalanced_line texts opens (first ∷ (middle ++ (last ∷ back))) ≡ unbalanced_line texts opens back
unfolding unbalanced_line
balance_cut texts number opens middle back (Plain t) last group balanced = absurd group.begins
balance_cut texts number opens middle back first (Plain t) group balanced = absurd group.ends
balance_cut texts number opens middle back (Directive hash line) (Directive end end_line) group balanced =
    ap (λ w. after_step (step_of w opens) hash.line (unbalanced_line texts (opens_after hash.line w opens) (middle ++ (Directive end end_line ∷ back)))) group.begins.0
    ∙ balance-inside texts [] (with_if hash.line opens) middle (Directive end end_line ∷ back) balanced
    ∙ ap (λ w. after_step (step_of w (with_if hash.line opens)) end.line (unbalanced_line texts (opens_after end.line w (with_if hash.line opens)) back)) group.ends.0

-- two ways to go on from wherever the front leads
pub after_front : (bytes : List ℕ) (front a b : List Block) → ((opens : List Open) → unbalanced_line (with_digits bytes) opens a ≡ unbalanced_line (with_digits bytes) opens b)
    → ((s : State) → s.definitions.bytes ≡ with_digits bytes → after_blocks s a ≡ after_blocks s b) → expansion_of_blocks bytes (front ++ a) ≡ expansion_of_blocks bytes (front ++ b)
after_front bytes front a b balance states =
    ap (λ o. first_fault o (and_then (after_blocks (first_state bytes) (front ++ a)) (λ state. Ok state.out))) (balance-before (with_digits bytes) [] front a b balance)
    ∙ ap (λ r. first_fault (unbalanced_line (with_digits bytes) [] (front ++ b)) (and_then r (λ state. Ok state.out))) (state-before (first_state bytes) front a b states)

pub groups_of_zero_are_cut_out : GroupsOfZeroAreCutOut
groups_of_zero_are_cut_out bytes front middle back first last group balanced inner =
    after_front bytes front (first ∷ (middle ++ (last ∷ back))) back
    (λ opens. balance_cut (with_digits bytes) (codes "0") opens middle back first last group balanced)
    (λ s same. state_cut s middle back first last (subst (λ bs. IsGroup bs (codes "0") first last) (sym same) group) (subst (λ bs. AreBalanced bs middle) (sym same) balanced) inner)

-- ---- a group that is looked at

one_holds : (d : Definitions) (line : ℕ) (t : Token) → IsNumber d.bytes (codes "1") t → condition_of d line (t ∷ []) ≡ Ok true
unfolding read_tree value_of number_of
one_holds d line t is = number_holds d line t is.kind ∙ rw (is.kind, is.spelled) refl

-- the `if` opens a group that is active where it stands in one that is
opens_alike : (s : State) (hash : Token) (line : List Token) (number : Token) → directive_word s.definitions.bytes line ≡ If → drop 1 line ≡ number ∷ [] → IsNumber s.definitions.bytes (codes "1") number
    → (group : Group) × (after_directive hash.line s line ≡ Ok (with_groups s (group ∷ s.groups))) × (is_active (group ∷ s.groups) ≡ is_active s.groups)
opens_alike s hash line number word tokens is = by (is_active s.groups) refl
  where
    by : (b : Bool) → is_active s.groups ≡ b → (group : Group) × (after_directive hash.line s line ≡ Ok (with_groups s (group ∷ s.groups))) × (is_active (group ∷ s.groups) ≡ is_active s.groups)
    by true e = (Active, rw (e, word, tokens, one_holds s.definitions hash.line number is) refl, sym e)
    by false e = (Outside, rw (e, word) refl, sym e)

state_stays : (s : State) (middle back : List Block) (first last : Block) → IsGroup s.definitions.bytes (codes "1") first last → AreBalanced s.definitions.bytes middle → after_blocks s (first ∷ (middle ++ (last ∷ back))) ≡ after_blocks s (middle ++ back)
state_stays s middle back (Plain t) last group balanced = absurd group.begins
state_stays s middle back first (Plain t) group balanced = absurd group.ends
state_stays s middle back (Directive hash line) (Directive end end_line) group balanced =
    let opens = opens_alike s hash line group.token group.begins.0 group.begins.1 group.is_number in
    at_directive s hash line (middle ++ (Directive end end_line ∷ back))
    ∙ ap (λ r. and_then r (λ after. after_blocks after (middle ++ (Directive end end_line ∷ back)))) opens.1
    ∙ carried-alike (opens.0 ∷ s.groups) s.groups opens.2 s.definitions.bytes (Directive end end_line ∷ back) back
    (λ after same. at_directive (with_groups after (opens.0 ∷ s.groups)) end end_line back
    ∙ ap (λ r. and_then r (λ after. after_blocks after back)) (closes after end end_line opens.0 s.groups (ap (λ bs. directive_word bs end_line) same ∙ group.ends.0) group.ends.1))
    s [] [] middle refl refl balanced

pub groups_of_one_stay : GroupsOfOneStay
groups_of_one_stay bytes front middle back first last group balanced =
    after_front bytes front (first ∷ (middle ++ (last ∷ back))) (middle ++ back)
    (λ opens. balance_cut (with_digits bytes) (codes "1") opens middle back first last group balanced ∙ sym (balance-inside (with_digits bytes) [] opens middle back balanced))
    (λ s same. state_stays s middle back first last (subst (λ bs. IsGroup bs (codes "1") first last) (sym same) group) (subst (λ bs. AreBalanced bs middle) (sym same) balanced))
