-- How much of the items a reading takes: an expression one at least, and no reading adds any.
use Rattle.std.proofs.Common.{ℕ, zero, suc, ◌+◌, ◌≤◌, ◌==◌, Bool, true, false, cond, List, [], ◌∷◌, length, Option, Some, None, arith}
use Rattle.std.specs.Option.{option_and_then}
use Rattle.c_preproc.specs.declared.condition_item.Sign.{Sign}
use Rattle.c_preproc.specs.declared.condition_item.Joint.{Joint}
use Rattle.c_preproc.specs.declared.condition_item.Separator.{Separator}
use Rattle.c_preproc.specs.declared.condition_item.Item.{Item}
use Rattle.c_preproc.specs.declared.condition_item.Item.TheVariants as item
use Rattle.c_preproc.specs.Condition.{Tree, Prefix, Infix, Choice, highest_level, is_open, is_close, is_question, is_colon, joint_in, Read, then_read, then_separator, Task, Above, Chain, operand, choice, chain, read_tree}

-- a reading that gives a tree leaves this many items fewer than there were
abbrev pub Shorter : ℕ → ℕ → Read → Type 0
Shorter fewer n None = Unit {0}
Shorter fewer n (Some (tree, rest)) = length rest + fewer ≤ n

abbrev pub Reader : Type 0
Reader = Task → List Item → Read

-- what a task takes of the items
abbrev pub taken_by : Task → ℕ
taken_by (Above level) = 1
taken_by (Chain level left) = 0

-- as a premise on the reader of the parts
abbrev pub TakesItems : Reader → Type 0
TakesItems read = (task : Task) (items : List Item) → Shorter (taken_by task) (length items) (read task items)

Shorter-then : (k m fewer n : ℕ) (o : Read) (next : Tree → List Item → Read) → Shorter k m o → ((tree : Tree) (rest : List Item) → length rest + k ≤ m → Shorter fewer n (next tree rest)) → Shorter fewer n (then_read o next)
Shorter-then k m fewer n None next h on = tt
Shorter-then k m fewer n (Some (tree, rest)) next h on = on tree rest h

Shorter-weaker : (k m fewer n : ℕ) (o : Read) → Shorter k m o → ((left : ℕ) → left + k ≤ m → left + fewer ≤ n) → Shorter fewer n o
Shorter-weaker k m fewer n None h on = tt
Shorter-weaker k m fewer n (Some (tree, rest)) h on = on (length rest) h

Shorter-separator : (fewer n : ℕ) (is : Option Separator → Bool) (items : List Item) (next : List Item → Read) → ((rest : List Item) → length rest + 1 ≤ length items → Shorter fewer n (next rest)) → Shorter fewer n (then_separator is items next)
Shorter-separator fewer n is [] next on = tt
Shorter-separator fewer n is (item.Operand v ∷ items) next on = tt
Shorter-separator fewer n is (item.Punctuator p ∷ items) next on = by_case (is p.separator)
  where
    by_case : (b : Bool) → Shorter fewer n (option_and_then next (cond b (Some items) None))
    by_case true = on items (omega arith)
    by_case false = tt

-- the sides of a choice
takes-sides : (read : Reader) → TakesItems read → (n : ℕ) (tree : Tree) (items : List Item) → length items + 1 ≤ n → Shorter 1 n (then_read (read (Above 0) items) (λ yes_tree rest_1. then_separator is_colon rest_1 (λ rest_2. then_read (read (Above 0) rest_2) (λ no_tree rest_3. Some (Choice tree yes_tree no_tree, rest_3)))))
takes-sides read takes n tree items h =
    Shorter-then 1 (length items) 1 n _ _ (takes (Above 0) items) (λ first rest_1 h_1.
    Shorter-separator 1 n _ rest_1 _ (λ rest_2 h_2.
    Shorter-then 1 (length rest_2) 1 n _ _ (takes (Above 0) rest_2) (λ second rest_3 h_3. omega arith)))

takes-choice : (read : Reader) → TakesItems read → (n : ℕ) (tree : Tree) (items : List Item) → length items + 1 ≤ n → Shorter 1 n (choice read tree items)
takes-choice read takes n tree [] h = h
takes-choice read takes n tree (item.Operand v ∷ items) h = h
takes-choice read takes n tree (item.Punctuator p ∷ items) h = by_case (is_question p.separator)
  where
    by_case : (b : Bool) → Shorter 1 n (elim (cond b (Some items) None) as (λ _. Read) [ None ↦ Some (tree, item.Punctuator p ∷ items) | Some rest ↦ then_read (read (Above 0) rest) (λ yes_tree rest_1. then_separator is_colon rest_1 (λ rest_2. then_read (read (Above 0) rest_2) (λ no_tree rest_3. Some (Choice tree yes_tree no_tree, rest_3)))) ])
    by_case true = takes-sides read takes n tree items (omega arith)
    by_case false = h

-- what stands between parentheses, and their end
takes-inside : (read : Reader) → TakesItems read → (items : List Item) (b : Bool) → Shorter 1 (suc (length items)) (cond b (then_read (read (Above 0) items) (λ tree rest. then_separator is_close rest (λ last. Some (tree, last)))) None)
takes-inside read takes items true =
    Shorter-then 1 (length items) 1 (suc (length items)) _ _ (takes (Above 0) items) (λ tree rest h.
    Shorter-separator 1 (suc (length items)) _ rest _ (λ last h_1. omega arith))
takes-inside read takes items false = tt

takes-operand : (read : Reader) → TakesItems read → (items : List Item) → Shorter 1 (length items) (operand read items)
takes-operand read takes [] = tt
takes-operand read takes (item.Operand v ∷ items) = omega arith
takes-operand read takes (item.Punctuator p ∷ items) = by_sign p.sign
  where
    by_sign : (s : Option Sign) → Shorter 1 (suc (length items)) (elim s as (λ _. Read) [ None ↦ cond (is_open p.separator) (then_read (read (Above 0) items) (λ tree rest. then_separator is_close rest (λ last. Some (tree, last)))) None | Some sign ↦ then_read (read (Above highest_level) items) (λ tree rest. Some (Prefix sign tree, rest)) ])
    by_sign None = takes-inside read takes items (is_open p.separator)
    by_sign (Some sign) = Shorter-then 1 (length items) 1 (suc (length items)) _ _ (takes (Above highest_level) items) (λ tree rest h. omega arith)

takes-right : (read : Reader) → TakesItems read → (level : ℕ) (left : Tree) (joint : Joint) (items : List Item) → Shorter 0 (suc (length items)) (then_read (read (Above level) items) (λ right rest. read (Chain level (Infix joint left right)) rest))
takes-right read takes level left joint items =
    Shorter-then 1 (length items) 0 (suc (length items)) _ _ (takes (Above level) items) (λ right rest h.
    Shorter-weaker 0 (length rest) 0 (suc (length items)) _ (takes (Chain level (Infix joint left right)) rest) (λ n h_1. omega arith))

takes-chain : (read : Reader) → TakesItems read → (level : ℕ) (left : Tree) (items : List Item) → Shorter 0 (length items) (chain read level left items)
takes-chain read takes level left [] = omega arith
takes-chain read takes level left (item.Operand v ∷ items) = omega arith
takes-chain read takes level left (item.Punctuator p ∷ items) = by_joint (joint_in level p.joint)
  where
    by_joint : (j : Option Joint) → Shorter 0 (suc (length items)) (elim j as (λ _. Read) [ None ↦ Some (left, item.Punctuator p ∷ items) | Some joint ↦ then_read (read (Above level) items) (λ right rest. read (Chain level (Infix joint left right)) rest) ])
    by_joint None = omega arith
    by_joint (Some joint) = takes-right read takes level left joint items

takes-level : (read : Reader) → TakesItems read → (level : ℕ) (items : List Item) → Shorter 1 (length items) (then_read (read (Above (suc (suc level))) items) (λ left rest. read (Chain (suc (suc level)) left) rest))
takes-level read takes level items =
    Shorter-then 1 (length items) 1 (length items) _ _ (takes (Above (suc (suc level))) items) (λ left rest h.
    Shorter-weaker 0 (length rest) 1 (length items) _ (takes (Chain (suc (suc level)) left) rest) (λ n h_1. omega arith))

one_of : (b : Bool) (fewer n : ℕ) (x y : Read) → Shorter fewer n x → Shorter fewer n y → Shorter fewer n (cond b x y)
one_of true fewer n x y p q = p
one_of false fewer n x y p q = q

pub takes : (steps : ℕ) → TakesItems (read_tree steps)
unfolding read_tree
takes zero task items = tt
takes (suc steps) (Above zero) items =
    Shorter-then 1 (length items) 1 (length items) _ _ (takes steps (Above 1) items) (λ tree rest h. takes-choice (read_tree steps) (takes steps) (length items) tree rest h)
takes (suc steps) (Above (suc level)) items =
    one_of (suc level == highest_level) 1 (length items) _ _ (takes-operand (read_tree steps) (takes steps) items) (takes-level (read_tree steps) (takes steps) level items)
takes (suc steps) (Chain level left) items = takes-chain (read_tree steps) (takes steps) level left items
