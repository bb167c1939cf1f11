-- The reader against the definition: from any frames, what it makes of the items is what the definition's reading makes of them.
use Rattle.std.proofs.Common.{◌≡◌, ℕ, zero, suc, ◌+◌, ◌*◌, ◌≤◌, ◌==◌, ◌&&◌, nat_lt, nat_le, Bool, true, false, cond, List, [], ◌∷◌, length, Option, Some, None, refl, ap, sym, subst, ◌∙◌, arith, inl, inr}
use Rattle.std.proofs.lemmas.Bool.{cases_eq, cases_Bool, ne_eqb, eq-eqb, lt-ltb, le-leb, cond-false, cond-true}
use Rattle.std.specs.Option.{option_map, option_and_then}
use Rattle.c_preproc.specs.declared.condition_item.Sign.{Sign}
use Rattle.c_preproc.specs.declared.condition_item.Joint.{Joint}
use Rattle.c_preproc.specs.declared.condition_item.Punctuator.{Punctuator}
use Rattle.c_preproc.specs.declared.condition_item.Item.{Item}
use Rattle.c_preproc.specs.declared.condition_item.Item.TheVariants as item
use Rattle.c_preproc.specs.declared.condition_reader.Frame.{Frame}
use Rattle.c_preproc.specs.declared.condition_reader.Frame.TheVariants.{Sign as SignFrame, Parenthesis, Right, Yes, No}
use Rattle.c_preproc.specs.Condition.{Tree, Prefix, Infix, Choice, Read, then_read, then_separator, Task, Above, Chain, highest_level, is_open, is_close, is_colon, is_question, joint_in, precedence, operand, choice, chain, read_tree, whole_tree, tree_of, truth, value_of, value_of_sign, value_of_joint, value_of_choice, truth_of_items}
use Rattle.c_preproc.specs.Code.Reading.{top_floor, whole, shift, shift_first, shift_sign, with_frame, go_on, reduce_all}
use Rattle.c_preproc.proofs.ConditionFrames.{shift_in}
use Rattle.c_preproc.proofs.ConditionReads.{Reader, TakesItems, takes}
use Rattle.c_preproc.proofs.ConditionSteps.{run, behind, wanted, Next, followed, followed-then, shift-low, shift-same, shift-high, shift-question, shift-joint, pops, after_colon, after_close, run-same, run-opens}

-- ---- the theorem, for each task

-- From frames that wait for a level no higher, a task's reading is what the reader makes of the items.
abbrev Met : Reader → ℕ → Task → Type 0
Met read steps (Above level) =
    (frames : List Frame) (items : List Item) → top_floor frames ≤ level → level ≤ 11 → 12 * length items + 12 ≤ steps + level →
    run items (wanted frames) ≡ followed (λ tree rest. run rest (behind frames level tree)) (read (Above level) items)
Met read steps (Chain level left) =
    (below : ℕ) (frames : List Frame) (items : List Item) → level ≡ below + 1 → top_floor frames ≤ below → 1 ≤ below → below ≤ 10 → 12 * length items + 1 ≤ steps →
    run items (behind frames level left) ≡ followed (λ tree rest. run rest (behind frames below tree)) (read (Chain level left) items)

abbrev AllMet : Reader → ℕ → Type 0
AllMet read steps = (task : Task) → Met read steps task

-- ---- a choice

abbrev sides : Reader → Tree → List Item → Read
sides read tree items =
    then_read (read (Above 0) items) (λ first rest_1. then_separator is_colon rest_1 (λ rest_2.
    then_read (read (Above 0) rest_2) (λ second rest_3. Some (Choice tree first second, rest_3))))

abbrev choice_by : Reader → Tree → List Item → Option (List Item) → Read
choice_by read tree items None = Some (tree, items)
choice_by read tree items (Some rest) = sides read tree rest

met-sides : (read : Reader) (steps : ℕ) → AllMet read steps → TakesItems read → (frames : List Frame) (tree : Tree) (items : List Item) → 12 * length items + 12 ≤ steps → run items (wanted (Yes (truth (value_of tree).bits) ∷ frames)) ≡ followed (λ tree rest. run rest (behind frames 0 tree)) (sides read tree items)
unfolding value_of
met-sides read steps met takes frames tree items room =
    let holds = truth (value_of tree).bits in
    met (Above 0) (Yes holds ∷ frames) items (omega arith) (omega arith) (omega arith)
    ∙ followed-then (length items) _ _ (λ first rest. run rest (behind (Yes holds ∷ frames) 0 first)) (λ tree rest. run rest (behind frames 0 tree)) (takes (Above 0) items) (λ first rest_1 h_1.
    after_colon frames holds (value_of first) rest_1 _ (λ tree rest. run rest (behind frames 0 tree)) (λ rest_2 h_2.
    met (Above 0) (No holds (value_of first) ∷ frames) rest_2 (omega arith) (omega arith) (omega arith)
    ∙ followed-then (length rest_2) _ _ (λ second rest. run rest (behind (No holds (value_of first) ∷ frames) 0 second)) (λ tree rest. run rest (behind frames 0 tree)) (takes (Above 0) rest_2) (λ second rest_3 h_3.
    pops (No holds (value_of first)) frames (whole 0 (value_of second)) (whole 0 (value_of_choice holds (value_of first) (value_of second))) rest_3 (omega arith) refl)))

met-choice : (read : Reader) (steps : ℕ) → AllMet read steps → TakesItems read → (frames : List Frame) (tree : Tree) (items : List Item) → top_floor frames ≤ 0 → 12 * length items + 12 ≤ steps → run items (behind frames 1 tree) ≡ followed (λ tree rest. run rest (behind frames 0 tree)) (choice read tree items)
unfolding run reduce_all
met-choice read steps met takes frames tree [] low room = refl
met-choice read steps met takes frames tree (item.Operand v ∷ items) low room = refl
met-choice read steps met takes frames tree (item.Punctuator p ∷ items) low room =
    elim (cases_Bool (is_question p.separator)) [
      | inl is ↦
          let none : top_floor frames ≡ 0 = omega arith in
          let opens : shift_in frames (whole 1 (value_of tree)) p ≡ Some (Yes (truth (value_of tree).bits)) = ap (λ n. shift n (whole 1 (value_of tree)) p) none ∙ shift-question (value_of tree) p is in
          run-opens frames (whole 1 (value_of tree)) (Yes (truth (value_of tree).bits)) p items opens
          ∙ met-sides read steps met takes frames tree items (omega arith)
          ∙ ap (λ b. followed (λ tree rest. run rest (behind frames 0 tree)) (choice_by read tree (item.Punctuator p ∷ items) (cond b (Some items) None))) (sym is)
      | inr other ↦
          run-same frames 1 0 (value_of tree) p items
          (shift-high (top_floor frames) (value_of tree) p other ∙ sym (shift-low (top_floor frames) 0 (value_of tree) p (omega arith)))
          ∙ ap (λ b. followed (λ tree rest. run rest (behind frames 0 tree)) (choice_by read tree (item.Punctuator p ∷ items) (cond b (Some items) None))) (sym other)
    ]

-- ---- an operand with its signs

abbrev inside : Reader → List Item → Bool → Read
inside read items b = cond b (then_read (read (Above 0) items) (λ tree rest. then_separator is_close rest (λ last. Some (tree, last)))) None

abbrev operand_by : Reader → Punctuator → List Item → Option Sign → Read
operand_by read p items None = inside read items (is_open p.separator)
operand_by read p items (Some s) = then_read (read (Above highest_level) items) (λ tree rest. Some (Prefix s tree, rest))

-- a frame opens where an operand begins
run-begins : (frames : List Frame) (frame : Option Frame) (p : Punctuator) (items : List Item) → shift_first p ≡ frame → run (item.Punctuator p ∷ items) (wanted frames) ≡ option_and_then (λ s. run items s) (with_frame frames frame)
unfolding run
run-begins frames frame p items e = ap (λ f. option_and_then (λ s. run items s) (with_frame frames f)) e

met-sign : (read : Reader) (steps : ℕ) → AllMet read steps → TakesItems read → (frames : List Frame) (s : Sign) (items : List Item) → 12 * length items + 1 ≤ steps → run items (wanted (SignFrame s ∷ frames)) ≡ followed (λ tree rest. run rest (behind frames 11 tree)) (then_read (read (Above highest_level) items) (λ tree rest. Some (Prefix s tree, rest)))
unfolding value_of
met-sign read steps met takes frames s items room =
    met (Above 11) (SignFrame s ∷ frames) items (omega arith) (omega arith) (omega arith)
    ∙ followed-then (length items) _ _ (λ tree rest. run rest (behind (SignFrame s ∷ frames) 11 tree)) (λ tree rest. run rest (behind frames 11 tree)) (takes (Above 11) items) (λ tree rest h.
    pops (SignFrame s) frames (whole 11 (value_of tree)) (whole 11 (value_of_sign s (value_of tree))) rest (omega arith) refl)

met-inside : (read : Reader) (steps : ℕ) → AllMet read steps → TakesItems read → (frames : List Frame) (items : List Item) → 12 * length items + 12 ≤ steps → run items (wanted (Parenthesis ∷ frames)) ≡ followed (λ tree rest. run rest (behind frames 11 tree)) (inside read items true)
met-inside read steps met takes frames items room =
    met (Above 0) (Parenthesis ∷ frames) items (omega arith) (omega arith) (omega arith)
    ∙ followed-then (length items) _ _ (λ tree rest. run rest (behind (Parenthesis ∷ frames) 0 tree)) (λ tree rest. run rest (behind frames 11 tree)) (takes (Above 0) items) (λ tree rest h.
    after_close frames (value_of tree) rest _ (λ tree rest. run rest (behind frames 11 tree)) (λ last. refl))

met-operand : (read : Reader) (steps : ℕ) → AllMet read steps → TakesItems read → (frames : List Frame) (items : List Item) → 12 * length items ≤ steps → run items (wanted frames) ≡ followed (λ tree rest. run rest (behind frames 11 tree)) (operand read items)
unfolding run value_of
met-operand read steps met takes frames [] room = refl
met-operand read steps met takes frames (item.Operand v ∷ items) room = refl
met-operand read steps met takes frames (item.Punctuator p ∷ items) room = by_sign p.sign refl
  where
    last : Next
    last = λ tree rest. run rest (behind frames 11 tree)

    by_open : (b : Bool) → is_open p.separator ≡ b → p.sign ≡ None → run (item.Punctuator p ∷ items) (wanted frames) ≡ followed last (inside read items b)
    by_open true is none =
        run-begins frames (Some Parenthesis) p items (ap (λ s. shift_sign s p.separator) none ∙ cond-true _ _ _ is)
        ∙ met-inside read steps met takes frames items (omega arith)
    by_open false is none = run-begins frames None p items (ap (λ s. shift_sign s p.separator) none ∙ cond-false _ _ _ is)

    by_sign : (s : Option Sign) → p.sign ≡ s → run (item.Punctuator p ∷ items) (wanted frames) ≡ followed last (operand_by read p items p.sign)
    by_sign (Some s) is =
        run-begins frames (Some (SignFrame s)) p items (ap (λ s. shift_sign s p.separator) is)
        ∙ met-sign read steps met takes frames s items (omega arith)
        ∙ ap (λ o. followed last (operand_by read p items o)) (sym is)
    by_sign None is =
        by_open (is_open p.separator) refl is
        ∙ ap (λ o. followed last (operand_by read p items o)) (sym is)

-- ---- a chain

abbrev right_side : Reader → ℕ → Tree → Joint → List Item → Read
right_side read level left j items = then_read (read (Above level) items) (λ right rest. read (Chain level (Infix j left right)) rest)

abbrev chain_by : Reader → ℕ → Tree → List Item → List Item → Option Joint → Read
chain_by read level left items rest None = Some (left, items)
chain_by read level left items rest (Some j) = right_side read level left j rest

met-right : (read : Reader) (steps : ℕ) → AllMet read steps → TakesItems read → (frames : List Frame) (below : ℕ) (left : Tree) (j : Joint) (items : List Item) → precedence j ≡ below + 1 → top_floor frames ≤ below → 1 ≤ below → below ≤ 10 → 12 * length items + 12 ≤ steps → run items (wanted (Right j (value_of left) ∷ frames)) ≡ followed (λ tree rest. run rest (behind frames below tree)) (right_side read (below + 1) left j items)
unfolding value_of
met-right read steps met takes frames below left j items is low least most room =
    let frame = Right j (value_of left) in
    met (Above (below + 1)) (frame ∷ frames) items (omega (arith, is)) (omega arith) (omega arith)
    ∙ followed-then (length items) _ _ (λ tree rest. run rest (behind (frame ∷ frames) (below + 1) tree)) (λ tree rest. run rest (behind frames below tree)) (takes (Above (below + 1)) items) (λ right rest h.
    pops frame frames (whole (below + 1) (value_of right)) (whole (precedence j) (value_of_joint j (value_of left) (value_of right))) rest (omega (arith, is)) refl
    ∙ ap (λ n. run rest (behind frames n (Infix j left right))) is
    ∙ met (Chain (below + 1) (Infix j left right)) below frames rest refl low least most (omega arith))

met-chain : (read : Reader) (steps : ℕ) → AllMet read steps → TakesItems read → (frames : List Frame) (below : ℕ) (left : Tree) (items : List Item) → top_floor frames ≤ below → 1 ≤ below → below ≤ 10 → 12 * length items ≤ steps → run items (behind frames (below + 1) left) ≡ followed (λ tree rest. run rest (behind frames below tree)) (chain read (below + 1) left items)
unfolding run reduce_all
met-chain read steps met takes frames below left [] low least most room = refl
met-chain read steps met takes frames below left (item.Operand v ∷ items) low least most room = refl
met-chain read steps met takes frames below left (item.Punctuator p ∷ items) low least most room = by_joint p.joint refl
  where
    met_by : Option Joint → Type 0
    met_by o = run (item.Punctuator p ∷ items) (behind frames (below + 1) left) ≡ followed (λ tree rest. run rest (behind frames below tree)) (chain_by read (below + 1) left (item.Punctuator p ∷ items) items o)

    same : joint_in (below + 1) p.joint ≡ None → met_by (joint_in (below + 1) p.joint)
    same none =
        subst met_by (sym none) (run-same frames (below + 1) below (value_of left) p items (shift-same (top_floor frames) below (value_of left) p least none))

    at_level : (j : Joint) → p.joint ≡ Some j → precedence j ≡ below + 1 → met_by (joint_in (below + 1) p.joint)
    at_level j is level =
        let test : (nat_lt (top_floor frames) (precedence j) && nat_le (precedence j) (below + 1)) ≡ true = rw (lt-ltb (top_floor frames) (precedence j) (omega (arith, level)), le-leb (precedence j) (below + 1) (omega (arith, level))) refl in
        let here : joint_in (below + 1) p.joint ≡ Some j = ap (joint_in (below + 1)) is ∙ cond-true _ _ _ (eq-eqb (precedence j) (below + 1) level) in
        subst met_by (sym here)
        (run-opens frames (whole (below + 1) (value_of left)) (Right j (value_of left)) p items (shift-joint (top_floor frames) (whole (below + 1) (value_of left)) p j is test)
        ∙ met-right read steps met takes frames below left j items level low least most (omega arith))

    by_joint : (o : Option Joint) → p.joint ≡ o → met_by (joint_in (below + 1) p.joint)
    by_joint None is = same (ap (joint_in (below + 1)) is)
    by_joint (Some j) is =
        elim (cases_eq (precedence j) (below + 1)) [
          | inl level ↦ at_level j is level
          | inr other ↦ same (ap (joint_in (below + 1)) is ∙ cond-false _ _ _ (ne_eqb (precedence j) (below + 1) other))
        ]

-- ---- a level

met-level : (read : Reader) (steps : ℕ) → AllMet read steps → TakesItems read → (frames : List Frame) (level : ℕ) (items : List Item) → top_floor frames ≤ suc level → suc level ≤ 10 → 12 * length items + 12 ≤ steps + suc (suc level) → run items (wanted frames) ≡ followed (λ tree rest. run rest (behind frames (suc level) tree)) (then_read (read (Above (suc (suc level))) items) (λ left rest. read (Chain (suc (suc level)) left) rest))
met-level read steps met takes frames level items low most room =
    met (Above (suc (suc level))) frames items (omega arith) (omega arith) (omega arith)
    ∙ followed-then (length items) _ _ (λ tree rest. run rest (behind frames (suc (suc level)) tree)) (λ tree rest. run rest (behind frames (suc level) tree)) (takes (Above (suc (suc level))) items) (λ left rest h.
    met (Chain (suc (suc level)) left) (suc level) frames rest (omega arith) low (omega arith) most (omega arith))

met-suc : (read : Reader) (steps : ℕ) → AllMet read steps → TakesItems read → (frames : List Frame) (level : ℕ) (items : List Item) → top_floor frames ≤ suc level → suc level ≤ 11 → 12 * length items + 12 ≤ suc steps + suc level → run items (wanted frames) ≡ followed (λ tree rest. run rest (behind frames (suc level) tree)) (cond (suc level == highest_level) (operand read items) (then_read (read (Above (suc (suc level))) items) (λ left rest. read (Chain (suc (suc level)) left) rest)))
met-suc read steps met takes frames level items low most room =
    elim (cases_eq (suc level) 11) [
      | inl is ↦
          met-operand read steps met takes frames items (omega arith)
          ∙ ap (λ n. followed (λ tree rest. run rest (behind frames n tree)) (operand read items)) (sym is)
          ∙ ap (followed (λ tree rest. run rest (behind frames (suc level) tree))) (sym (cond-true _ _ _ (eq-eqb (suc level) 11 is)))
      | inr other ↦
          met-level read steps met takes frames level items low (omega arith) (omega arith)
          ∙ ap (followed (λ tree rest. run rest (behind frames (suc level) tree))) (sym (cond-false _ _ _ (ne_eqb (suc level) 11 other)))
    ]

met : (steps : ℕ) (task : Task) → Met (read_tree steps) steps task
unfolding read_tree
met zero (Above level) = λ frames items low most room. absurd (omega arith)
met zero (Chain level left) = λ below frames items is low least most room. absurd (omega arith)
met (suc steps) (Above zero) = λ frames items low most room.
    met steps (Above 1) frames items (omega arith) (omega arith) (omega arith)
    ∙ followed-then (length items) _ _ (λ tree rest. run rest (behind frames 1 tree)) (λ tree rest. run rest (behind frames 0 tree)) (takes steps (Above 1) items) (λ tree rest h.
    met-choice (read_tree steps) steps (met steps) (takes steps) frames tree rest low (omega arith))
met (suc steps) (Above (suc level)) = λ frames items low most room.
    met-suc (read_tree steps) steps (met steps) (takes steps) frames level items low most room
met (suc steps) (Chain level left) = λ below frames items is low least most room.
    subst (λ n. run items (behind frames n left) ≡ followed (λ tree rest. run rest (behind frames below tree)) (chain (read_tree steps) n left items)) (sym is)
    (met-chain (read_tree steps) steps (met steps) (takes steps) frames below left items low least most (omega arith))

-- ---- the whole

followed-whole : (o : Read) → followed (λ tree rest. run rest (behind [] 0 tree)) o ≡ option_map value_of (whole_tree o)
unfolding run reduce_all go_on
followed-whole None = refl
followed-whole (Some (tree, [])) = refl
followed-whole (Some (tree, (item.Operand v ∷ items))) = refl
followed-whole (Some (tree, (item.Punctuator p ∷ items))) =
    ap (λ f. option_and_then (λ s. run items s) (with_frame [] f)) (shift-low 0 0 (value_of tree) p (omega arith))

-- all the items give the value of their tree
run-tree : (items : List Item) → run items (wanted []) ≡ option_map value_of (tree_of items)
run-tree items =
    met (16 * (length items + 1)) (Above 0) [] items (omega arith) (omega arith) (omega arith) ∙ followed-whole _

truth-tree : (o : Option Tree) → option_and_then (λ v. truth v.bits) (option_map value_of o) ≡ option_and_then (λ tree. truth (value_of tree).bits) o
truth-tree None = refl
truth-tree (Some tree) = refl

pub run-truth : (items : List Item) → option_and_then (λ v. truth v.bits) (run items (wanted [])) ≡ truth_of_items items
run-truth items = ap (option_and_then (λ v. truth v.bits)) (run-tree items) ∙ truth-tree (tree_of items)
