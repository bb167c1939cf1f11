-- A condition: its tree, and the value of the tree in 64 bits.
--
-- The operators and their levels are C's, without the comma and without assignments. Only what C
-- evaluates counts: of the right side of && and ||, where the left one decides, and of the side of ? :
-- that isn't chosen, the kind matters and not whether it has a value.
use Rattle.std.specs.Prelude.{codes, ℕ, zero, suc, ◌+◌, ◌*◌, ◌-◌, ◌^◌, Bool, true, false, if◌then◌else◌, not, ◌&&◌, ◌||◌, ◌==◌, nat_lt, List, [], ◌∷◌, length, drop, Option, Some, None}
use Rattle.std.specs.List.{list_any}
use Rattle.std.specs.Option.{option_map, option_and_then}
use Rattle.std.specs.Result.{result_ok}
use Rattle.filc_num.specs.declared.integer.BinOp.{BinOp}
use Rattle.filc_num.specs.declared.integer.BinOp.TheVariants as op
use Rattle.filc_num.specs.declared.integer.IntType.{IntType}
use Rattle.filc_num.specs.declared.integer.IntType.TheVariants.{I64, U64}
use Rattle.filc_num.specs.Integers.{binary_of, is_comparison, truth_of}
use Rattle.c_lexer.specs.declared.token.TokenKind.{TokenKind}
use Rattle.c_lexer.specs.declared.token.TokenKind.TheVariants.{Name, Number, Character, Text, Punct, End}
use Rattle.c_lexer.specs.Number.{number_of, is_u}
use Rattle.c_lexer.specs.Quoted.{character_of}
use Rattle.c_preproc.specs.declared.condition_item.Value.{Value}
use Rattle.c_preproc.specs.declared.condition_item.Sign.{Sign}
use Rattle.c_preproc.specs.declared.condition_item.Sign.TheVariants as sign
use Rattle.c_preproc.specs.declared.condition_item.Joint.{Joint}
use Rattle.c_preproc.specs.declared.condition_item.Joint.TheVariants as joint
use Rattle.c_preproc.specs.declared.condition_item.Separator.{Separator}
use Rattle.c_preproc.specs.declared.condition_item.Separator.TheVariants.{Open, Close, Question, Colon}
use Rattle.c_preproc.specs.declared.condition_item.Punctuator.{Punctuator}
use Rattle.c_preproc.specs.declared.condition_item.Item.{Item}
use Rattle.c_preproc.specs.declared.condition_item.Item.TheVariants as item
use Rattle.c_preproc.specs.Texts.{same_text}

-- ---- items

abbrev pub separator_of : List ℕ → Option Separator
separator_of text =
    if same_text text (codes "(") then Some Open
    else if same_text text (codes ")") then Some Close
    else if same_text text (codes "?") then Some Question
    else if same_text text (codes ":") then Some Colon
    else None

abbrev pub sign_of : List ℕ → Option Sign
sign_of text =
    if same_text text (codes "+") then Some sign.Plus
    else if same_text text (codes "-") then Some sign.Minus
    else if same_text text (codes "~") then Some sign.Complement
    else if same_text text (codes "!") then Some sign.Not
    else None

abbrev pub operation : BinOp → Option Joint
operation o = Some (joint.Operator o)

abbrev pub arithmetic_of : List ℕ → Option Joint
arithmetic_of text =
    if same_text text (codes "+") then operation op.Add
    else if same_text text (codes "-") then operation op.Sub
    else if same_text text (codes "*") then operation op.Mul
    else if same_text text (codes "/") then operation op.Div
    else if same_text text (codes "%") then operation op.Rem
    else None

-- what joins two operands, by its text
abbrev pub joint_of : List ℕ → Option Joint
joint_of text =
    if same_text text (codes "||") then Some joint.Either
    else if same_text text (codes "&&") then Some joint.Both
    else if same_text text (codes "|") then operation op.Or
    else if same_text text (codes "^") then operation op.Xor
    else if same_text text (codes "&") then operation op.And
    else if same_text text (codes "==") then operation op.Eq
    else if same_text text (codes "!=") then operation op.Ne
    else if same_text text (codes "<") then operation op.Lt
    else if same_text text (codes ">") then operation op.Gt
    else if same_text text (codes "<=") then operation op.Le
    else if same_text text (codes ">=") then operation op.Ge
    else if same_text text (codes "<<") then operation op.Shl
    else if same_text text (codes ">>") then operation op.Shr
    else arithmetic_of text

abbrev pub precedence_of_operator : BinOp → ℕ
precedence_of_operator op.Or = 4
precedence_of_operator op.Xor = 5
precedence_of_operator op.And = 6
precedence_of_operator op.Eq = 7
precedence_of_operator op.Ne = 7
precedence_of_operator op.Lt = 8
precedence_of_operator op.Gt = 8
precedence_of_operator op.Le = 8
precedence_of_operator op.Ge = 8
precedence_of_operator op.Shl = 9
precedence_of_operator op.Shr = 9
precedence_of_operator op.Add = 10
precedence_of_operator op.Sub = 10
precedence_of_operator op.Mul = 11
precedence_of_operator op.Div = 11
precedence_of_operator op.Rem = 11

-- the level of what joins two operands, from || at 2 to * / % at 11; level 1 is that of a choice
abbrev pub precedence : Joint → ℕ
precedence joint.Either = 2
precedence joint.Both = 3
precedence (joint.Operator o) = precedence_of_operator o

-- no level is above that of * / %
abbrev pub highest_level : ℕ
highest_level = 11

-- what a punctuator may stand for
abbrev pub punctuator_of : List ℕ → Punctuator
punctuator_of text = record { separator = separator_of text; sign = sign_of text; joint = joint_of text }

-- a value is unsigned where the number has a u, or where 64 signed bits don't hold it
abbrev pub is_unsigned : List ℕ → ℕ → Bool
is_unsigned text value = list_any is_u text || not (nat_lt value (2 ^ 63))

abbrev pub value : Bool → Option ℕ → Value
value unsigned bits = record { unsigned = unsigned; bits = bits }

abbrev pub constant : Bool → ℕ → Item
constant unsigned bits = item.Operand (value unsigned (Some bits))

-- a token as an item; a name that is left over is 0, and a text is none
abbrev pub item_of_kind : TokenKind → List ℕ → Option Item
item_of_kind Name text = Some (constant false 0)
item_of_kind Number text = option_map (λ number. constant (is_unsigned text number.value) number.value) (number_of text)
item_of_kind Character text = option_map (λ value. constant false value) (character_of text)
item_of_kind Text text = None
item_of_kind Punct text = Some (item.Punctuator (punctuator_of text))
item_of_kind End text = None

-- ---- trees

-- the expression that items spell
pub data Tree : Type 0 where
  Constant : Value → Tree
  Prefix : Sign → Tree → Tree
  Infix : Joint → Tree → Tree → Tree
  Choice : Tree → Tree → Tree → Tree

abbrev pub is_open : Option Separator → Bool
is_open (Some Open) = true
is_open _ = false

abbrev pub is_close : Option Separator → Bool
is_close (Some Close) = true
is_close _ = false

abbrev pub is_question : Option Separator → Bool
is_question (Some Question) = true
is_question _ = false

abbrev pub is_colon : Option Separator → Bool
is_colon (Some Colon) = true
is_colon _ = false

abbrev pub joint_in : ℕ → Option Joint → Option Joint
joint_in level None = None
joint_in level (Some j) = if precedence j == level then Some j else None

-- what joins operands at this level, at the front
abbrev pub joint_at : ℕ → List Item → Option Joint
joint_at level [] = None
joint_at level (item.Operand v ∷ items) = None
joint_at level (item.Punctuator p ∷ items) = joint_in level p.joint

-- what stands behind this separator at the front
abbrev pub behind_separator : (Option Separator → Bool) → List Item → Option (List Item)
behind_separator is [] = None
behind_separator is (item.Operand v ∷ items) = None
behind_separator is (item.Punctuator p ∷ items) = if is p.separator then Some items else None

-- a tree, and the items behind it
abbrev pub Read : Type 0
Read = Option (Tree × List Item)

abbrev pub then_read : Read → (Tree → List Item → Read) → Read
then_read None next = None
then_read (Some (tree, items)) next = next tree items

abbrev pub then_separator : (Option Separator → Bool) → List Item → (List Item → Read) → Read
then_separator is items next = option_and_then next (behind_separator is items)

-- what is to be read next: an expression whose operators are all above a level, or the rest of a chain of operators of
-- one level, behind its left side
pub data Task : Type 0 where
  Above : ℕ → Task
  Chain : ℕ → Tree → Task

-- an operand with its signs: a value, an expression between parentheses, or one behind a sign
abbrev pub operand : (Task → List Item → Read) → List Item → Read
operand read [] = None
operand read (item.Operand v ∷ items) = Some (Constant v, items)
operand read (item.Punctuator p ∷ items) = behind p.sign
  where
    behind : Option Sign → Read
    behind (Some s) = then_read (read (Above highest_level) items) (λ tree rest. Some (Prefix s tree, rest))
    behind None =
        if is_open p.separator
        then then_read (read (Above 0) items) (λ tree rest. then_separator is_close rest (λ last. Some (tree, last)))
        else None

-- a choice, or its condition alone
abbrev pub choice : (Task → List Item → Read) → Tree → List Item → Read
choice read tree items = behind (behind_separator is_question items)
  where
    behind : Option (List Item) → Read
    behind None = Some (tree, items)
    behind (Some rest) =
        then_read (read (Above 0) rest) (λ yes_tree rest_1. then_separator is_colon rest_1 (λ rest_2.
        then_read (read (Above 0) rest_2) (λ no_tree rest_3. Some (Choice tree yes_tree no_tree, rest_3))))

-- the next operator of the level and its right side, or the chain as it is
abbrev pub chain : (Task → List Item → Read) → ℕ → Tree → List Item → Read
chain read level left items = behind (joint_at level items)
  where
    behind : Option Joint → Read
    behind None = Some (left, items)
    behind (Some j) =
        then_read (read (Above level) (drop 1 items)) (λ right rest. read (Chain level (Infix j left right)) rest)

-- reads by a task; each step counts, and `steps` is more than there can be
unfoldable pub read_tree : ℕ → Task → List Item → Read
read_tree zero task items = None
read_tree (suc steps) (Above zero) items = then_read (read_tree steps (Above 1) items) (choice (read_tree steps))
read_tree (suc steps) (Above (suc level)) items =
    if suc level == highest_level then operand (read_tree steps) items
    else then_read (read_tree steps (Above (suc (suc level))) items) (λ left rest. read_tree steps (Chain (suc (suc level)) left) rest)
read_tree (suc steps) (Chain level left) items = chain (read_tree steps) level left items

-- the tree, where nothing is left behind it
abbrev pub whole_tree : Read → Option Tree
whole_tree None = None
whole_tree (Some (tree, [])) = Some tree
whole_tree (Some (tree, (item ∷ items))) = None

-- the tree that all the items spell: no item needs more than a step for each level and one for itself
abbrev pub tree_of : List Item → Option Tree
tree_of items = whole_tree (read_tree (16 * (length items + 1)) (Above 0) items)

-- ---- values

abbrev pub type_of : Bool → IntType
type_of unsigned = if unsigned then U64 else I64

abbrev pub is_shift : BinOp → Bool
is_shift op.Shl = true
is_shift op.Shr = true
is_shift _ = false

-- what an operator gives on the bits of two values of one type
abbrev pub bits_of_operator : BinOp → Bool → Option ℕ → Option ℕ → Option ℕ
bits_of_operator o unsigned a b = option_and_then (λ v. option_and_then (λ w. result_ok (binary_of o (type_of unsigned) v w)) b) a

abbrev pub truth : Option ℕ → Option Bool
truth bits = option_map (λ v. not (v == 0)) bits

abbrev pub bits_of_truth : Option Bool → Option ℕ
bits_of_truth holds = option_map truth_of holds

abbrev pub bits_of_both : Option ℕ → Option ℕ → Option ℕ
bits_of_both a b = option_and_then (λ holds. if holds then bits_of_truth (truth b) else Some 0) (truth a)

abbrev pub bits_of_either : Option ℕ → Option ℕ → Option ℕ
bits_of_either a b = option_and_then (λ holds. if holds then Some 1 else bits_of_truth (truth b)) (truth a)

abbrev pub bits_of_not : Option ℕ → Option ℕ
bits_of_not bits = option_map (λ holds. truth_of (not holds)) (truth bits)

abbrev pub value_of_sign : Sign → Value → Value
value_of_sign sign.Plus a = a
value_of_sign sign.Minus a = value a.unsigned (bits_of_operator op.Sub a.unsigned (Some 0) a.bits)
value_of_sign sign.Complement a = value a.unsigned (bits_of_operator op.Xor a.unsigned a.bits (Some (2 ^ 64 - 1)))
value_of_sign sign.Not a = value false (bits_of_not a.bits)

-- the operands are unsigned if one of them is; the count of a shift has its own type
abbrev pub is_operand_unsigned : BinOp → Value → Value → Bool
is_operand_unsigned o a b = a.unsigned || (b.unsigned && not (is_shift o))

-- a comparison is signed
abbrev pub value_of_operator : BinOp → Value → Value → Value
value_of_operator o a b =
    value (is_operand_unsigned o a b && not (is_comparison o)) (bits_of_operator o (is_operand_unsigned o a b) a.bits b.bits)

abbrev pub value_of_joint : Joint → Value → Value → Value
value_of_joint (joint.Operator o) a b = value_of_operator o a b
value_of_joint joint.Both a b = value false (bits_of_both a.bits b.bits)
value_of_joint joint.Either a b = value false (bits_of_either a.bits b.bits)

abbrev pub bits_of_choice : Option Bool → Option ℕ → Option ℕ → Option ℕ
bits_of_choice holds first second = option_and_then (λ b. if b then first else second) holds

abbrev pub value_of_choice : Option Bool → Value → Value → Value
value_of_choice holds first second = value (first.unsigned || second.unsigned) (bits_of_choice holds first.bits second.bits)

-- the value of each part, evaluated or not
unfoldable pub value_of : Tree → Value
value_of (Constant v) = v
value_of (Prefix s a) = value_of_sign s (value_of a)
value_of (Infix j a b) = value_of_joint j (value_of a) (value_of b)
value_of (Choice c a b) = value_of_choice (truth (value_of c).bits) (value_of a) (value_of b)

-- whether the items hold: none where they are no expression, or have no value
abbrev pub truth_of_items : List Item → Option Bool
truth_of_items items = option_and_then (λ tree. truth (value_of tree).bits) (tree_of items)
