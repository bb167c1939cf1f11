-- Operator-precedence parsing: what the reader makes of one item after another, with values in place of trees.
use Rattle.std.specs.Prelude.{ℕ, if◌then◌else◌, ◌&&◌, ◌==◌, nat_lt, nat_le, List, [], ◌∷◌, Option, Some, None}
use Rattle.std.specs.Option.{option_map, option_and_then}
use Rattle.c_preproc.specs.declared.condition_item.Value.{Value}
use Rattle.c_preproc.specs.declared.condition_item.Sign.{Sign}
use Rattle.c_preproc.specs.declared.condition_item.Joint.{Joint}
use Rattle.c_preproc.specs.declared.condition_item.Separator.{Separator}
use Rattle.c_preproc.specs.declared.condition_item.Separator.TheVariants.{Close, Colon}
use Rattle.c_preproc.specs.declared.condition_item.Punctuator.{Punctuator}
use Rattle.c_preproc.specs.declared.condition_item.Item.{Item}
use Rattle.c_preproc.specs.declared.condition_item.Item.TheVariants as item
use Rattle.c_preproc.specs.declared.condition_reader.Frame.{Frame}
use Rattle.c_preproc.specs.declared.condition_reader.Frame.TheVariants.{Sign as SignFrame, Parenthesis, Right, Yes, No}
use Rattle.c_preproc.specs.declared.condition_reader.Whole.{Whole}
use Rattle.c_preproc.specs.declared.condition_reader.Mode.{Mode}
use Rattle.c_preproc.specs.declared.condition_reader.Mode.TheVariants.{Wanted, Behind}
use Rattle.c_preproc.specs.Condition.{highest_level, is_open, is_question, precedence, truth, value_of_sign, value_of_joint, value_of_choice}

-- ---- frames

-- operators above this level belong to what the frame waits for
abbrev pub floor_of : Frame → ℕ
floor_of (SignFrame s) = highest_level
floor_of Parenthesis = 0
floor_of (Right j left) = precedence j
floor_of (Yes holds) = 0
floor_of (No holds first) = 0

-- the innermost frame is the first
abbrev pub top_floor : List Frame → ℕ
top_floor [] = 0
top_floor (frame ∷ frames) = floor_of frame

abbrev pub whole : ℕ → Value → Whole
whole level v = record { level = level; value = v }

-- what the frame makes of the value that it waited for; none where it waits for a separator too
abbrev pub reduce : Frame → Value → Option Whole
reduce (SignFrame s) v = Some (whole highest_level (value_of_sign s v))
reduce Parenthesis v = None
reduce (Right j left) v = Some (whole (precedence j) (value_of_joint j left v))
reduce (Yes holds) v = None
reduce (No holds first) v = Some (whole 0 (value_of_choice holds first v))

abbrev pub shift_joint : ℕ → Whole → Option Joint → Option Frame
shift_joint floor w None = None
shift_joint floor w (Some j) = if nat_lt floor (precedence j) && nat_le (precedence j) w.level then Some (Right j w.value) else None

abbrev pub shift_choice : ℕ → Whole → Option Separator → Option Frame
shift_choice floor w separator = if is_question separator && (floor == 0 && nat_lt 0 w.level) then Some (Yes (truth w.value.bits)) else None

abbrev pub first_frame : Option Frame → Option Frame → Option Frame
first_frame None other = other
first_frame (Some f) other = Some f

-- the frame that a punctuator opens behind a value
abbrev pub shift : ℕ → Whole → Punctuator → Option Frame
shift floor w p = first_frame (shift_joint floor w p.joint) (shift_choice floor w p.separator)

abbrev pub shift_open : Option Separator → Option Frame
shift_open separator = if is_open separator then Some Parenthesis else None

abbrev pub shift_sign : Option Sign → Option Separator → Option Frame
shift_sign (Some s) separator = Some (SignFrame s)
shift_sign None separator = shift_open separator

-- the frame that a punctuator opens where an operand begins
abbrev pub shift_first : Punctuator → Option Frame
shift_first p = shift_sign p.sign p.separator

-- ---- the reader

-- the frames, innermost first, and what is to come next
pub record State : Type 0 where
  pub frames : List Frame
  pub mode : Mode

abbrev pub state : List Frame → Mode → State
state frames mode = record { frames = frames; mode = mode }

-- waits for an operand in one frame more
abbrev pub with_frame : List Frame → Option Frame → Option State
with_frame frames frame = option_map (λ f. state (f ∷ frames) Wanted) frame

abbrev pub begin : List Frame → Item → Option State
begin frames (item.Operand v) = Some (state frames (Behind (whole highest_level v)))
begin frames (item.Punctuator p) = with_frame frames (shift_first p)

-- a frame that was taken off the others gets its value and its separator
abbrev pub close : List Frame → Frame → Value → Option Separator → Option State
close frames Parenthesis v (Some Close) = Some (state frames (Behind (whole highest_level v)))
close frames (Yes holds) v (Some Colon) = Some (state (No holds v ∷ frames) Wanted)
close frames _ v _ = None

abbrev pub first_some : Option State → Option State → Option State
first_some None other = other
first_some (Some s) other = Some s

abbrev pub after_reduction : Option Whole → (Whole → Option State) → Option State → Option State
after_reduction None next other = other
after_reduction (Some w) next other = next w

-- the punctuator opens a frame, or else the innermost frame gets the value, and so on
unfoldable pub go_on : List Frame → Whole → Punctuator → Option State
go_on [] w p = with_frame [] (shift 0 w p)
go_on (frame ∷ frames) w p =
    first_some (with_frame (frame ∷ frames) (shift (floor_of frame) w p))
    (after_reduction (reduce frame w.value) (λ next. go_on frames next p) (close frames frame w.value p.separator))

abbrev pub go_on_with : List Frame → Whole → Item → Option State
go_on_with frames w (item.Operand v) = None
go_on_with frames w (item.Punctuator p) = go_on frames w p

abbrev pub take_in : Mode → List Frame → Item → Option State
take_in Wanted frames i = begin frames i
take_in (Behind w) frames i = go_on_with frames w i

abbrev pub take_item : State → Item → Option State
take_item s i = take_in s.mode s.frames i

-- all frames get their values
unfoldable pub reduce_all : List Frame → Value → Option Value
reduce_all [] v = Some v
reduce_all (frame ∷ frames) v = option_and_then (λ w. reduce_all frames w.value) (reduce frame v)

abbrev pub end_in : Mode → List Frame → Option Value
end_in Wanted frames = None
end_in (Behind w) frames = reduce_all frames w.value

abbrev pub end_of : State → Option Value
end_of s = end_in s.mode s.frames
