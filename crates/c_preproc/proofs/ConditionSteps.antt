-- Single steps of the reader over items: what a punctuator opens, what becomes of a frame, and what goes on with what.
use Rattle.std.proofs.Common.{◌≡◌, ℕ, ◌+◌, ◌≤◌, ◌==◌, ◌&&◌, nat_lt, nat_le, Bool, true, false, cond, List, [], ◌∷◌, length, Option, Some, None, refl, ap, sym, ◌∙◌, arith, inl, inr}
use Rattle.std.proofs.lemmas.Bool.{cases_eq, ne_eqb, eq-eqb, lt-ltb, le-ltb, le-leb, lt-leb, cases_lt, cond-false, cond-true}
use Rattle.std.proofs.Math.Bool.{and-false}
use Rattle.std.specs.Option.{option_and_then}
use Rattle.filc_num.specs.declared.integer.BinOp.TheVariants as op
use Rattle.c_preproc.specs.declared.condition_item.Value.{Value}
use Rattle.c_preproc.specs.declared.condition_item.Joint.{Joint}
use Rattle.c_preproc.specs.declared.condition_item.Joint.TheVariants as joint
use Rattle.c_preproc.specs.declared.condition_item.Separator.{Separator}
use Rattle.c_preproc.specs.declared.condition_item.Separator.TheVariants.{Open, Close, Question, Colon}
use Rattle.c_preproc.specs.declared.condition_item.Punctuator.{Punctuator}
use Rattle.c_preproc.specs.declared.condition_item.Item.{Item}
use Rattle.c_preproc.specs.declared.condition_item.Item.TheVariants as item
use Rattle.c_preproc.specs.declared.condition_reader.Frame.{Frame}
use Rattle.c_preproc.specs.declared.condition_reader.Frame.TheVariants.{Parenthesis, Right, Yes, No}
use Rattle.c_preproc.specs.declared.condition_reader.Whole.{Whole}
use Rattle.c_preproc.specs.declared.condition_reader.Mode.TheVariants.{Wanted, Behind}
use Rattle.c_preproc.specs.Condition.{Tree, Read, then_read, then_separator, highest_level, is_close, is_colon, is_question, joint_in, precedence, truth, value_of}
use Rattle.c_preproc.specs.Code.Reading.{floor_of, whole, reduce, first_frame, shift, shift_choice, shift_joint, State, state, with_frame, close, first_some, after_reduction, go_on, take_item, reduce_all, end_of}
use Rattle.c_preproc.proofs.ConditionFrames.{shift_in, go_on-opens, go_on-top}
use Rattle.c_preproc.proofs.ConditionReads.{Shorter, takes}

-- the value of all the items from a state on
unfoldable pub run : List Item → State → Option Value
run [] s = end_of s
run (item ∷ items) s = option_and_then (λ next. run items next) (take_item s item)

-- the run that goes on behind a tree of this level
abbrev pub behind : List Frame → ℕ → Tree → State
behind frames level tree = state frames (Behind (whole level (value_of tree)))

abbrev pub wanted : List Frame → State
wanted frames = state frames Wanted

-- what a reading is followed by
abbrev pub Next : Type 0
Next = Tree → List Item → Option Value

abbrev pub followed : Next → Read → Option Value
followed next None = None
followed next (Some (tree, rest)) = next tree rest

pub followed-then : (n : ℕ) (o : Read) (then : Tree → List Item → Read) (first last : Next) → Shorter 1 n o → ((tree : Tree) (rest : List Item) → length rest + 1 ≤ n → first tree rest ≡ followed last (then tree rest)) → followed first o ≡ followed last (then_read o then)
followed-then n None then first last takes on = refl
followed-then n (Some (tree, rest)) then first last takes on = on tree rest takes

-- ---- levels

precedence-low : (j : Joint) → 2 ≤ precedence j
precedence-low joint.Either = omega arith
precedence-low joint.Both = omega arith
precedence-low (joint.Operator op.Or) = omega arith
precedence-low (joint.Operator op.Xor) = omega arith
precedence-low (joint.Operator op.And) = omega arith
precedence-low (joint.Operator op.Eq) = omega arith
precedence-low (joint.Operator op.Ne) = omega arith
precedence-low (joint.Operator op.Lt) = omega arith
precedence-low (joint.Operator op.Gt) = omega arith
precedence-low (joint.Operator op.Le) = omega arith
precedence-low (joint.Operator op.Ge) = omega arith
precedence-low (joint.Operator op.Shl) = omega arith
precedence-low (joint.Operator op.Shr) = omega arith
precedence-low (joint.Operator op.Add) = omega arith
precedence-low (joint.Operator op.Sub) = omega arith
precedence-low (joint.Operator op.Mul) = omega arith
precedence-low (joint.Operator op.Div) = omega arith
precedence-low (joint.Operator op.Rem) = omega arith

-- ---- what a punctuator opens

-- nothing goes on with what is whole up to the level of what the frame waits for
joint-low : (floor right level : ℕ) → level ≤ floor → (nat_lt floor right && nat_le right level) ≡ false
joint-low floor right level h =
    elim (cases_lt floor right) [
      | inl above ↦ rw (lt-leb right level (omega arith)) (and-false (nat_lt floor right))
      | inr below ↦ rw (le-ltb floor right below) refl
    ]

choice-low : (floor level : ℕ) → level ≤ floor → (floor == 0 && nat_lt 0 level) ≡ false
choice-low floor level h =
    elim (cases_eq floor 0) [
      | inl e ↦ rw (le-ltb 0 level (omega arith)) (and-false (floor == 0))
      | inr n ↦ rw (ne_eqb floor 0 n) refl
    ]

shift_joint-low : (floor level : ℕ) (v : Value) (o : Option Joint) → level ≤ floor → shift_joint floor (whole level v) o ≡ None
shift_joint-low floor level v None h = refl
shift_joint-low floor level v (Some j) h = cond-false _ _ _ (joint-low floor (precedence j) level h)

shift_choice-low : (floor level : ℕ) (v : Value) (s : Option Separator) → level ≤ floor → shift_choice floor (whole level v) s ≡ None
shift_choice-low floor level v s h =
    let test : (is_question s && (floor == 0 && nat_lt 0 level)) ≡ false = rw (choice-low floor level h) (and-false (is_question s)) in
    cond-false _ _ _ test

pub shift-low : (floor level : ℕ) (v : Value) (p : Punctuator) → level ≤ floor → shift floor (whole level v) p ≡ None
shift-low floor level v p h = rw (shift_joint-low floor level v p.joint h) (shift_choice-low floor level v p.separator h)

-- an operator of another level goes on with a chain's rest or not, whether the chain is read or isn't
le-same : (right level : ℕ) → (right ≡ level + 1 → ⊥) → nat_le right (level + 1) ≡ nat_le right level
le-same right level other =
    elim (cases_lt level right) [
      | inl above ↦ lt-leb right (level + 1) (omega arith) ∙ sym (lt-leb right level above)
      | inr below ↦ le-leb right (level + 1) (omega arith) ∙ sym (le-leb right level below)
    ]

shift_joint-same : (floor level : ℕ) (v : Value) (o : Option Joint) → joint_in (level + 1) o ≡ None → shift_joint floor (whole (level + 1) v) o ≡ shift_joint floor (whole level v) o
shift_joint-same floor level v None none = refl
shift_joint-same floor level v (Some j) none =
    let other : precedence j ≡ level + 1 → ⊥ = λ e. absurd (let s : Some j ≡ None = sym (cond-true _ _ _ (eq-eqb (precedence j) (level + 1) e)) ∙ none in cc) in
    ap (λ b. cond (nat_lt floor (precedence j) && b) (Some (Right j v)) None) (le-same (precedence j) level other)

shift_choice-same : (floor level : ℕ) (v : Value) (s : Option Separator) → 1 ≤ level → shift_choice floor (whole (level + 1) v) s ≡ shift_choice floor (whole level v) s
shift_choice-same floor level v s low =
    ap (λ b. cond (is_question s && (floor == 0 && b)) (Some (Yes (truth v.bits))) None) (lt-ltb 0 (level + 1) (omega arith) ∙ sym (lt-ltb 0 level (omega arith)))

pub shift-same : (floor level : ℕ) (v : Value) (p : Punctuator) → 1 ≤ level → joint_in (level + 1) p.joint ≡ None → shift floor (whole (level + 1) v) p ≡ shift floor (whole level v) p
shift-same floor level v p low none =
    ap (λ o. first_frame o (shift_choice floor (whole (level + 1) v) p.separator)) (shift_joint-same floor level v p.joint none)
    ∙ ap (first_frame (shift_joint floor (whole level v) p.joint)) (shift_choice-same floor level v p.separator low)

-- behind both sides of `||` only a choice goes on
shift_joint-high : (floor : ℕ) (v : Value) (o : Option Joint) → shift_joint floor (whole 1 v) o ≡ None
shift_joint-high floor v None = refl
shift_joint-high floor v (Some j) =
    let e : (nat_lt floor (precedence j) && nat_le (precedence j) 1) ≡ false = rw (lt-leb (precedence j) 1 (omega (arith, precedence-low j))) (and-false (nat_lt floor (precedence j))) in
    cond-false _ _ _ e

pub shift-high : (floor : ℕ) (v : Value) (p : Punctuator) → is_question p.separator ≡ false → shift floor (whole 1 v) p ≡ None
shift-high floor v p other =
    let test : (is_question p.separator && (floor == 0 && nat_lt 0 1)) ≡ false = rw other refl in
    rw (shift_joint-high floor v p.joint) (cond-false _ _ _ test)

pub shift-question : (v : Value) (p : Punctuator) → is_question p.separator ≡ true → shift 0 (whole 1 v) p ≡ Some (Yes (truth v.bits))
shift-question v p is =
    let test : (is_question p.separator && (0 == 0 && nat_lt 0 1)) ≡ true = rw is refl in
    rw (shift_joint-high 0 v p.joint) (cond-true _ _ _ test)

-- an operator that is above the floor and goes on with the value
pub shift-joint : (floor : ℕ) (w : Whole) (p : Punctuator) (j : Joint) → p.joint ≡ Some j → (nat_lt floor (precedence j) && nat_le (precedence j) w.level) ≡ true → shift floor w p ≡ Some (Right j w.value)
shift-joint floor w p j is test =
    ap (λ o. first_frame (shift_joint floor w o) (shift_choice floor w p.separator)) is ∙ ap (λ o. first_frame o (shift_choice floor w p.separator)) (cond-true _ _ _ test)

-- ---- separators

close-parenthesis : (frames : List Frame) (v : Value) (s : Option Separator) → close frames Parenthesis v s ≡ cond (is_close s) (Some (state frames (Behind (whole highest_level v)))) None
close-parenthesis frames v None = refl
close-parenthesis frames v (Some Open) = refl
close-parenthesis frames v (Some Close) = refl
close-parenthesis frames v (Some Question) = refl
close-parenthesis frames v (Some Colon) = refl

close-yes : (frames : List Frame) (holds : Option Bool) (v : Value) (s : Option Separator) → close frames (Yes holds) v s ≡ cond (is_colon s) (Some (wanted (No holds v ∷ frames))) None
close-yes frames holds v None = refl
close-yes frames holds v (Some Open) = refl
close-yes frames holds v (Some Close) = refl
close-yes frames holds v (Some Question) = refl
close-yes frames holds v (Some Colon) = refl

-- ---- a frame gets its value

pub pops : (frame : Frame) (frames : List Frame) (w next : Whole) (items : List Item) → w.level ≤ floor_of frame → reduce frame w.value ≡ Some next → run items (state (frame ∷ frames) (Behind w)) ≡ run items (state frames (Behind next))
unfolding run reduce_all
pops frame frames w next [] low settles = ap (λ s. option_and_then (λ w. reduce_all frames w.value) s) settles
pops frame frames w next (item.Operand v ∷ items) low settles = refl
pops frame frames w next (item.Punctuator p ∷ items) low settles =
    ap (option_and_then (λ next. run items next))
    (go_on-top frame frames w p (shift-low (floor_of frame) w.level w.value p low)
    ∙ ap (λ s. after_reduction s (λ next. go_on frames next p) (close frames frame w.value p.separator)) settles)

-- a separator that is the wanted one or isn't
by_separator : (b : Bool) (rest : List Item) (s : State) (next : List Item → Read) (last : Next) → run rest s ≡ followed last (next rest) → option_and_then (λ s. run rest s) (cond b (Some s) None) ≡ followed last (option_and_then next (cond b (Some rest) None))
by_separator true rest s next last on = on
by_separator false rest s next last on = refl

pub after_colon : (frames : List Frame) (holds : Option Bool) (v : Value) (items : List Item) (next : List Item → Read) (last : Next) → ((rest : List Item) → length rest + 1 ≤ length items → run rest (wanted (No holds v ∷ frames)) ≡ followed last (next rest)) → run items (state (Yes holds ∷ frames) (Behind (whole 0 v))) ≡ followed last (then_separator is_colon items next)
unfolding run reduce_all
after_colon frames holds v [] next last on = refl
after_colon frames holds v (item.Operand u ∷ items) next last on = refl
after_colon frames holds v (item.Punctuator p ∷ items) next last on =
    ap (option_and_then (λ s. run items s))
    (go_on-top (Yes holds) frames (whole 0 v) p (shift-low 0 0 v p (omega arith)) ∙ close-yes frames holds v p.separator)
    ∙ by_separator (is_colon p.separator) items (wanted (No holds v ∷ frames)) next last (on items (omega arith))

pub after_close : (frames : List Frame) (v : Value) (items : List Item) (next : List Item → Read) (last : Next) → ((rest : List Item) → run rest (state frames (Behind (whole highest_level v))) ≡ followed last (next rest)) → run items (state (Parenthesis ∷ frames) (Behind (whole 0 v))) ≡ followed last (then_separator is_close items next)
unfolding run reduce_all
after_close frames v [] next last on = refl
after_close frames v (item.Operand u ∷ items) next last on = refl
after_close frames v (item.Punctuator p ∷ items) next last on =
    ap (option_and_then (λ s. run items s))
    (go_on-top Parenthesis frames (whole 0 v) p (shift-low 0 0 v p (omega arith)) ∙ close-parenthesis frames v p.separator)
    ∙ by_separator (is_close p.separator) items (state frames (Behind (whole highest_level v))) next last (on items)

-- ---- the level of a value that the next punctuator doesn't go on with

go_on-same : (frames : List Frame) (one other : ℕ) (v : Value) (p : Punctuator) → shift_in frames (whole one v) p ≡ shift_in frames (whole other v) p → go_on frames (whole one v) p ≡ go_on frames (whole other v) p
unfolding go_on
go_on-same [] one other v p e = ap (with_frame []) e
go_on-same (top ∷ frames) one other v p e =
    ap (λ o. first_some (with_frame (top ∷ frames) o) (after_reduction (reduce top v) (λ next. go_on frames next p) (close frames top v p.separator))) e

pub run-same : (frames : List Frame) (one other : ℕ) (v : Value) (p : Punctuator) (items : List Item) → shift_in frames (whole one v) p ≡ shift_in frames (whole other v) p → run (item.Punctuator p ∷ items) (state frames (Behind (whole one v))) ≡ run (item.Punctuator p ∷ items) (state frames (Behind (whole other v)))
unfolding run
run-same frames one other v p items e = ap (option_and_then (λ next. run items next)) (go_on-same frames one other v p e)

-- a punctuator opens a frame
pub run-opens : (frames : List Frame) (w : Whole) (frame : Frame) (p : Punctuator) (items : List Item) → shift_in frames w p ≡ Some frame → run (item.Punctuator p ∷ items) (state frames (Behind w)) ≡ run items (wanted (frame ∷ frames))
unfolding run
run-opens frames w frame p items e = ap (option_and_then (λ next. run items next)) (go_on-opens frames w p frame e)
