-- A thread of a program that keeps what a program keeps is gapless: every number that its text names is one of the program's,
-- every operation has its operands, and `printf` has its lock.
use Rattle.std.proofs.Common.{◌≡◌, ℕ, zero, suc, ◌<◌, List, [], ◌∷◌, length, map, Bool, true, false, Option, Some, None, refl, sym, ap, subst, arith}
use Rattle.std.proofs.lemmas.List.Elements.{All-head, All-tail}
use Rattle.std.specs.Prelude.{slice_get, ◌==◌, if◌then◌else◌, All, IsSomeAnd}
use Rattle.filc_num.specs.declared.reason.Reason.{Reason}
use Rattle.filc_num.specs.declared.reason.Reason.TheVariants.{FunctionType}
use Rattle.filc_num.specs.declared.integer.IntType.TheVariants.{I32}
use Rattle.c_tree.specs.declared.operation.Operation.{Operation}
use Rattle.c_tree.specs.declared.operation.Operation.TheVariants as op
use Rattle.c_tree.specs.declared.operation.Piece.{Piece}
use Rattle.c_tree.specs.declared.operation.Piece.TheVariants as piece
use Rattle.c_tree.specs.declared.expr.Expr.{Expr, Apply', Chain', Logic', Choose', Print', Row_of-Expr, end_of-Expr, more_of-Expr, Row_of-Link, end_of-Link, more_of-Link}
use Rattle.c_tree.specs.declared.stmt.LocalDef.{LocalDef}
use Rattle.c_tree.specs.declared.stmt.LocalKind.{LocalKind}
use Rattle.c_tree.specs.declared.stmt.LocalKind.TheVariants.{Zero, Home, Moved}
use Rattle.c_tree.specs.declared.stmt.Stmt.{Stmt, Run, Block', If', Loop', BreakUnless, Break, Continue, Switch', Return, Row_of-Stmt, end_of-Stmt, more_of-Stmt}
use Rattle.c_tree.specs.declared.program.FunctionDef.{FunctionDef}
use Rattle.c_tree.specs.Plain.{PlainProgram}
use Rattle.c_tree.specs.Operands.{Callee, Outline, Context, OpFits}
use Rattle.c_tree.specs.Fits.{count_of, PieceFits, ExprFits, OperandsFit, LinksFit, in_loop, behind_body, in_switch, in_block, OptionalFits, StmtFits, StmtsFit, body_context, FunctionFits, callee_of, outline_of, IsProgram}
use Rattle.ideal_machine.specs.declared.value.Half.{Half}
use Rattle.ideal_machine.specs.declared.value.Half.TheVariants.{Nothing, Freed, Object as ObjectHalf, Function as FunctionHalf}
use Rattle.ideal_machine.specs.declared.value.Value.{Value}
use Rattle.ideal_machine.specs.declared.event.Access.{Access}
use Rattle.ideal_machine.specs.Values.{State, integer, value_at, put_at}
use Rattle.ideal_machine.specs.Queries.{Reply}
use Rattle.ideal_machine.specs.Play.{Play, Gives, Stops, Asks, Jump, Call, Finished, Waits, Cut, bind}
use Rattle.ideal_machine.specs.Phrases.{Phrase, Start, trap, unless_refused, leave, if_zero}
use Rattle.ideal_machine.specs.Retries.{or_else, retry}
use Rattle.ideal_machine.specs.IntAccess.{access_at}
use Rattle.ideal_machine.specs.Threads.{minus_one, if_kind, function_of_half, function_named}
use Rattle.ideal_machine.proofs.Relates as phrase
use Rattle.ideal_machine.proofs.Relates.{Relates}
use Rattle.tree_play.specs.Around.{Around, line_in, Flow, Normal, Broke, Continued, Returned, TextPlay}
use Rattle.tree_play.specs.Apply.{apply}
use Rattle.tree_play.specs.Printing.{put_arguments, put_piece, put_pieces, print}
use Rattle.tree_play.specs.Expressions.{play_expr, play_operands, play_links, play_logic}
use Rattle.tree_play.specs.Statements.{on_normal, in_round, after_switch, loop, first_value, enter_block, statement_for, play_return, play_stmt, play_stmts}
use Rattle.tree_play.specs.TreePlay.{first_state, play_function, with_function, user_line_of, around_of, call_within, further_activations, play_first, play_thread}
use Rattle.tree_play.specs.Gapless.{IfGranted, IsPossible, IsGapless, ProgramsAreGapless}
use Rattle.tree_play.proofs.Related.{load_related, store_related, swap_related, compare_related, operate_related, change_related, copy_related}

-- ---- plays

-- the play is gapless, and gives only values of this kind
abbrev Keeps : {S A : Type 0} → (A → Type 0) → Play S A → Type 0
Keeps V (Gives state value) = V value
Keeps V (Stops (Finished finish)) = Unit {0}
Keeps V (Stops Cut) = Unit {0}
Keeps V (Stops Waits) = ⊥
Keeps V (Asks query next) = (reply : Reply query) → IsPossible query reply → Keeps V (next reply)
Keeps V (Jump next) = Keeps V next
Keeps V (Call next) = Keeps V next

abbrev Any : {A : Type 0} → A → Type 0
Any value = Unit {0}

gapless : {S A : Type 0} (V : A → Type 0) (p : Play S A) → Keeps V p → IsGapless p
gapless V (Gives state value) h = tt
gapless V (Stops (Finished finish)) h = tt
gapless V (Stops Cut) h = tt
gapless V (Stops Waits) h = absurd h
gapless V (Asks query next) h = λ reply possible. gapless V (next reply) (h reply possible)
gapless V (Jump p) h = gapless V p h
gapless V (Call p) h = gapless V p h

bind_keeps :
    {S A T B : Type 0} (V : A → Type 0) (W : B → Type 0) (p : Play S A) (go : S → A → Play T B) → Keeps V p → ((s : S) (v : A) → V v → Keeps W (go s v)) →
    Keeps W (bind p go)
bind_keeps V W (Gives s v) go h each = each s v h
bind_keeps V W (Stops (Finished finish)) go h each = tt
bind_keeps V W (Stops Cut) go h each = tt
bind_keeps V W (Stops Waits) go h each = absurd h
bind_keeps V W (Asks q next) go h each = λ reply possible. bind_keeps V W (next reply) go (h reply possible) each
bind_keeps V W (Jump p) go h each = bind_keeps V W p go h each
bind_keeps V W (Call p) go h each = bind_keeps V W p go h each

-- the same as a fact of its own
record Kept {S A : Type 0} (V : A → Type 0) (play : Play S A) : Type 0 where
  keeps : Keeps V play

gives_kept : {S A : Type 0} (state : S) (value : A) → Kept Any (Gives state value)
gives_kept state value = record { keeps = tt }

call_kept : {S A : Type 0} (p : Play S A) → Kept Any p → Kept Any (Call p)
call_kept p h = record { keeps = h.keeps }

jump_kept : {S A : Type 0} (p : Play S A) → Kept Any p → Kept Any (Jump p)
jump_kept p h = record { keeps = h.keeps }

trap_kept : {S A : Type 0} (reason : Reason) (line : ℕ) → Kept {S = S} {A = A} Any (trap reason line)
trap_kept reason line = record { keeps = λ _ _. tt }

bind_kept :
    {S A T B : Type 0} (V : A → Type 0) (W : B → Type 0) (p : Play S A) (go : S → A → Play T B) → Kept V p → ((s : S) (v : A) → V v → Kept W (go s v)) →
    Kept W (bind p go)
bind_kept V W p go h each = record { keeps = bind_keeps V W p go h.keeps (λ s v k. (each s v k).keeps) }

bind_any : {S A T B : Type 0} (p : Play S A) (go : S → A → Play T B) → Kept Any p → ((s : S) (v : A) → Kept Any (go s v)) → Kept Any (bind p go)
bind_any p go h each = bind_kept Any Any p go h (λ s v _. each s v)

-- ---- phrases

access_keeps :
    (base : ℕ → ℕ) (half : Half) (address width line : ℕ) (reply : Option Reason) → IfGranted half reply →
    Keeps {A = Access} Any (unless_refused line (access_at base half address width) reply)
access_keeps base half address width line (Some reason) h = λ _ _. tt
access_keeps base (ObjectHalf n) address width line None h = tt
access_keeps base Nothing address width line None h = absurd h
access_keeps base Freed address width line None h = absurd h
access_keeps base (FunctionHalf f) address width line None h = absurd h

or_else_keeps : {X : Type 0} (found : Option X) (p : Phrase X) → Kept Any p → Kept Any (or_else found p)
or_else_keeps None p h = h
or_else_keeps (Some x) p h = gives_kept tt x

retry_keeps : {X : Type 0} (n : ℕ) (step : Phrase (Option X)) → Kept Any step → Kept Any (retry n step)
retry_keeps zero step h = record { keeps = tt }
retry_keeps (suc n) step h = bind_any step _ h (λ _ found. or_else_keeps found (Jump (retry n step)) (jump_kept _ (retry_keeps n step h)))

abbrev Rel : (S A : Type 0) → Play S A → Play S A → Type 0
Rel S A p q = Kept Any p

keeps_relates : (n : ℕ) → Relates n n Rel
keeps_relates n = record {
  gives = λ state value. gives_kept state value;
  checks = λ base p width write line. record { keeps = λ reply h. access_keeps base p.half p.number width line reply h };
  cell_checks = λ base p line. record { keeps = λ reply h. access_keeps base p.half p.number 8 line reply h };
  asks = λ query next next' e h. record { keeps = λ reply possible. (h reply).keeps };
  traps = λ reason line. trap_kept reason line;
  exits = λ value. record { keeps = λ _ _. tt };
  jumps = λ p p' h. jump_kept p h;
  calls = λ p p' h. call_kept p h;
  binds = λ p p' go go' h each. bind_any p go h each;
  retries = λ step h. retry_keeps n step h;
}

zero_keeps : {S A : Type 0} {V : A → Type 0} (n : ℕ) (p q : Play S A) → Kept V p → Kept V q → Kept V (if_zero n p q)
zero_keeps zero p q h k = h
zero_keeps (suc n) p q h k = k

-- a call through a pointer goes on with a function that is there
if_kind_keeps :
    {B : Type 0} (wanted f line : ℕ) (kind : Option ℕ) (go : Unit {0} → ℕ → Play State B) → ((there : IsSomeAnd kind (λ k. Unit {0})) → Kept Any (go tt f)) →
    Kept Any (bind (if_kind wanted f line kind) go)
if_kind_keeps wanted f line None go each = record { keeps = λ _ _. tt }
if_kind_keeps wanted f line (Some kind) go each = chosen (kind == wanted) where
  chosen : (b : Bool) → Kept Any (bind (if b then Gives tt f else trap FunctionType line) go)
  chosen true = each tt
  chosen false = record { keeps = λ _ _. tt }

named_keeps :
    {B : Type 0} (kinds : List ℕ) (wanted : ℕ) (p : Value) (line : ℕ) (go : Unit {0} → ℕ → Play State B) →
    ((f : ℕ) → IsSomeAnd (slice_get kinds f) (λ k. Unit {0}) → Kept Any (go tt f)) → Kept Any (bind (function_named kinds wanted p line) go)
named_keeps kinds wanted p line go each = of_half p.half where
  of_half : (half : Half) → Kept Any (bind (function_of_half kinds wanted line half) go)
  of_half (FunctionHalf f) = if_kind_keeps wanted f line (slice_get kinds f) go (each f)
  of_half Nothing = record { keeps = λ _ _. tt }
  of_half Freed = record { keeps = λ _ _. tt }
  of_half (ObjectHalf n) = record { keeps = λ _ _. tt }

-- ---- operands

of_none : (P : List Value → Type 0) (values : List Value) → length values ≡ 0 → P [] → P values
of_none P [] e h = h
of_none P (a ∷ rest) e h = absurd (omega (arith, e))

of_one : (P : List Value → Type 0) (values : List Value) → length values ≡ 1 → ((a : Value) → P (a ∷ [])) → P values
of_one P [] e h = absurd (omega (arith, e))
of_one P (a ∷ []) e h = h a
of_one P (a ∷ b ∷ rest) e h = absurd (omega (arith, e))

of_two : (P : List Value → Type 0) (values : List Value) → length values ≡ 2 → ((a b : Value) → P (a ∷ b ∷ [])) → P values
of_two P [] e h = absurd (omega (arith, e))
of_two P (a ∷ rest) e h = of_one (λ rest. P (a ∷ rest)) rest (omega (arith, e)) (h a)

of_three : (P : List Value → Type 0) (values : List Value) → length values ≡ 3 → ((a b c : Value) → P (a ∷ b ∷ c ∷ [])) → P values
of_three P [] e h = absurd (omega (arith, e))
of_three P (a ∷ rest) e h = of_two (λ rest. P (a ∷ rest)) rest (omega (arith, e)) (h a)

of_some : (P : List Value → Type 0) (values : List Value) → 0 < length values → ((a : Value) (rest : List Value) → P (a ∷ rest)) → P values
of_some P [] e h = absurd (omega (arith, e))
of_some P (a ∷ rest) e h = h a rest

-- ---- numbers of functions

-- there is something at this number
abbrev IsThere : {A : Type 0} → List A → ℕ → Type 0
IsThere list n = IsSomeAnd (slice_get list n) (λ _. Unit {0})

callee_there : (callees : List Callee) (f n : ℕ) → IsSomeAnd (slice_get callees f) (λ c. n ≡ c.parameters) → IsThere callees f
callee_there [] f n h = absurd h
callee_there (c ∷ callees) zero n h = tt
callee_there (c ∷ callees) (suc f) n h = callee_there callees f n h

map_there : {A B : Type 0} (g : A → B) (list : List A) (n : ℕ) → IsThere (map g list) n → IsThere list n
map_there g [] n h = absurd h
map_there g (a ∷ list) zero h = tt
map_there g (a ∷ list) (suc n) h = map_there g list n h

there_by_length : {A : Type 0} (list : List A) (n : ℕ) → n < length list → IsThere list n
there_by_length [] n h = absurd (omega (arith, h))
there_by_length (a ∷ list) zero h = tt
there_by_length (a ∷ list) (suc n) h = there_by_length list n (omega (arith, h))

-- ---- a text that fits

module _
    (around : Around) (outline : Outline) (kinds : around.kinds ≡ map (λ (c : Callee). c.kind) outline.callees)
    (calls : (f line : ℕ) (values : List Value) → IsThere outline.callees f → Kept Any (around.call f line values)) (here : Context) where
  abbrev n : ℕ
  n = around.rounds

  abbrev rel : Relates n n Rel
  rel = keeps_relates n

  kind_there : (f : ℕ) → IsThere around.kinds f → IsThere outline.callees f
  kind_there f h = map_there (λ (c : Callee). c.kind) outline.callees f (subst (λ list. IsThere list f) kinds h)

  then_gives : {X : Type 0} (state : State) (p : Phrase X) (go : X → Value) → Kept Any p → Kept Any (bind p (λ _ x. Gives state (go x)))
  then_gives state p go h = bind_any p _ h (λ _ x. gives_kept state (go x))

  apply_keeps : (o : Operation) (line : ℕ) (values : List Value) (state : State) → OpFits outline here o (length values) → Kept Any (apply around o line values state)
  apply_keeps (op.Number m) line values state h = gives_kept state _
  apply_keeps (op.Local local) line values state h = gives_kept state _
  apply_keeps (op.Static m) line values state h = gives_kept state _
  apply_keeps (op.Function f) line values state h = gives_kept state _
  apply_keeps (op.Convert ty) line values state h =
      of_one (λ values. Kept Any (apply around (op.Convert ty) line values state)) values h (λ v. gives_kept _ _)
  apply_keeps (op.Binary o ty) line values state h =
      of_two (λ values. Kept Any (apply around (op.Binary o ty) line values state)) values h.0 (λ a b. then_gives state _ (λ v. v) (phrase.operator n n Rel rel o ty a b line))
  apply_keeps (op.Negate ty) line values state h =
      of_one (λ values. Kept Any (apply around (op.Negate ty) line values state)) values h.0 (λ a. then_gives state _ (λ v. v) (phrase.operator n n Rel rel _ ty (integer 0) a line))
  apply_keeps (op.Complement ty) line values state h =
      of_one (λ values. Kept Any (apply around (op.Complement ty) line values state)) values h.0 (λ a. then_gives state _ (λ v. v) (phrase.operator n n Rel rel _ ty a (integer minus_one) line))
  apply_keeps (op.Not ty) line values state h =
      of_one (λ values. Kept Any (apply around (op.Not ty) line values state)) values h.0 (λ a. then_gives state _ (λ v. v) (phrase.operator n n Rel rel _ ty a (integer 0) line))
  apply_keeps (op.Advance bytes) line values state h =
      of_two (λ values. Kept Any (apply around (op.Advance bytes) line values state)) values h.0 (λ p i. gives_kept _ _)
  apply_keeps (op.Retreat bytes) line values state h =
      of_two (λ values. Kept Any (apply around (op.Retreat bytes) line values state)) values h.0 (λ p i. gives_kept _ _)
  apply_keeps (op.AdvanceBy bytes) line values state h =
      of_two (λ values. Kept Any (apply around (op.AdvanceBy bytes) line values state)) values h.0 (λ i p. gives_kept _ _)
  apply_keeps (op.Offset bytes) line values state h =
      of_one (λ values. Kept Any (apply around (op.Offset bytes) line values state)) values h (λ p. gives_kept _ _)
  apply_keeps op.ToPointer line values state h =
      of_one (λ values. Kept Any (apply around op.ToPointer line values state)) values h (λ v. gives_kept _ _)
  apply_keeps (op.Distance bytes) line values state h =
      of_two (λ values. Kept Any (apply around (op.Distance bytes) line values state)) values h.0 (λ p q. then_gives state _ (λ v. v) (phrase.between n n Rel rel bytes p q))
  apply_keeps (op.Compare o) line values state h =
      of_two (λ values. Kept Any (apply around (op.Compare o) line values state)) values h.0 (λ p q. then_gives state _ (λ v. v) (phrase.comparison n n Rel rel o p q line))
  apply_keeps (op.ToInteger ty) line values state h =
      of_one (λ values. Kept Any (apply around (op.ToInteger ty) line values state)) values h (λ p. then_gives state _ (λ v. v) (phrase.as_int n n Rel rel ty p))
  apply_keeps (op.SetLocal local) line values state h =
      of_one (λ values. Kept Any (apply around (op.SetLocal local) line values state)) values h.0 (λ v. gives_kept _ _)
  apply_keeps (op.UpdateLocal local c) line values state h =
      of_one (λ values. Kept Any (apply around (op.UpdateLocal local c) line values state)) values h.0
      (λ v. bind_any _ _ (change_related n n Rel rel c (value_at state local) v line) (λ _ new. gives_kept _ _))
  apply_keeps (op.StepLocal local c) line values state h =
      of_one (λ values. Kept Any (apply around (op.StepLocal local c) line values state)) values h.0
      (λ v. bind_any _ _ (change_related n n Rel rel c (value_at state local) v line) (λ _ new. gives_kept _ _))
  apply_keeps (op.Load access) line values state h =
      of_one (λ values. Kept Any (apply around (op.Load access) line values state)) values h (λ p. then_gives state _ (λ v. v) (load_related n n Rel rel around.base access p line))
  apply_keeps (op.Store access) line values state h =
      of_two (λ values. Kept Any (apply around (op.Store access) line values state)) values h (λ p v. then_gives state _ (λ _. v) (store_related n n Rel rel around.base access p v line))
  apply_keeps (op.Update access c) line values state h =
      of_two (λ values. Kept Any (apply around (op.Update access c) line values state)) values h.0 (λ p v. bind_any _ _ (load_related n n Rel rel around.base access p line) (λ _ old.
      bind_any _ _ (change_related n n Rel rel c old v line) (λ _ new. then_gives state _ (λ _. new) (store_related n n Rel rel around.base access p new line))))
  apply_keeps (op.Step access c) line values state h =
      of_two (λ values. Kept Any (apply around (op.Step access c) line values state)) values h.0 (λ p v. bind_any _ _ (load_related n n Rel rel around.base access p line) (λ _ old.
      bind_any _ _ (change_related n n Rel rel c old v line) (λ _ new. then_gives state _ (λ _. old) (store_related n n Rel rel around.base access p new line))))
  apply_keeps (op.Copy unit m) line values state h =
      of_two (λ values. Kept Any (apply around (op.Copy unit m) line values state)) values h.0 (λ p q. then_gives state _ (λ _. p) (copy_related n n Rel rel around.base unit m p q line))
  apply_keeps (op.Swap access) line values state h =
      of_two (λ values. Kept Any (apply around (op.Swap access) line values state)) values h.0 (λ p v. then_gives state _ (λ v. v) (swap_related n n Rel rel around.base access p v line))
  apply_keeps (op.Cas access) line values state h =
      of_three (λ values. Kept Any (apply around (op.Cas access) line values state)) values h.0 (λ p e v. then_gives state _ (λ v. v) (compare_related n n Rel rel around.base access p e v line))
  apply_keeps (op.Fetch ty o computed) line values state h =
      of_two (λ values. Kept Any (apply around (op.Fetch ty o computed) line values state)) values h.0 (λ p v. then_gives state _ (λ v. v) (phrase.update n n Rel rel around.base ty p _ v line))
  apply_keeps (op.Combine ty o computed) line values state h =
      of_two (λ values. Kept Any (apply around (op.Combine ty o computed) line values state)) values h.0 (λ p v. bind_any _ _ (phrase.update n n Rel rel around.base ty p _ v line) (λ _ old.
      then_gives state _ (λ v. v) (operate_related n n Rel rel o computed ty old v line)))
  apply_keeps (op.Call f) line values state h = call_kept _ (then_gives state _ (λ v. v) (calls f line values (callee_there outline.callees f _ h)))
  apply_keeps op.New line values state h =
      of_one (λ values. Kept Any (apply around op.New line values state)) values h (λ bytes. then_gives state _ (λ v. v) (phrase.object n n Rel rel bytes))
  apply_keeps op.Free line values state h =
      of_one (λ values. Kept Any (apply around op.Free line values state)) values h (λ p. then_gives state _ (λ _. p) (phrase.free n n Rel rel p line))
  apply_keeps op.Size line values state h =
      of_one (λ values. Kept Any (apply around op.Size line values state)) values h (λ p. then_gives state _ (λ v. v) (phrase.size n n Rel rel p line))
  apply_keeps op.Lock line values state h =
      of_one (λ values. Kept Any (apply around op.Lock line values state)) values h (λ p. then_gives state _ (λ _. p) (phrase.lock n n Rel rel around.base p line))
  apply_keeps op.Out line values state h =
      of_one (λ values. Kept Any (apply around op.Out line values state)) values h (λ v. then_gives state _ (λ _. v) (phrase.out n n Rel rel v line))
  apply_keeps op.Input line values state h =
      of_none (λ values. Kept Any (apply around op.Input line values state)) values h (then_gives state _ (λ v. v) (phrase.input n n Rel rel))
  apply_keeps op.Spawn line values state h =
      of_two (λ values. Kept Any (apply around op.Spawn line values state)) values h (λ f v. then_gives state _ (λ v. v) (phrase.start n n Rel rel around.kinds f v line))
  apply_keeps op.Join line values state h =
      of_one (λ values. Kept Any (apply around op.Join line values state)) values h (λ id. then_gives state _ (λ v. v) (phrase.join n n Rel rel id))
  apply_keeps op.SelfId line values state h =
      of_none (λ values. Kept Any (apply around op.SelfId line values state)) values h (gives_kept _ _)
  apply_keeps op.Exit line values state h =
      of_one (λ values. Kept Any (apply around op.Exit line values state)) values h (λ v. record { keeps = λ _ _. tt })
  apply_keeps op.Abort line values state h =
      of_none (λ values. Kept Any (apply around op.Abort line values state)) values h (record { keeps = λ _ _. tt })
  apply_keeps op.Second line values state h =
      of_two (λ values. Kept Any (apply around op.Second line values state)) values h (λ a b. gives_kept _ _)
  apply_keeps (op.CallPointer kind) line values state h =
      of_some (λ values. Kept Any (apply around (op.CallPointer kind) line values state)) values h.0
      (λ p rest. named_keeps around.kinds kind p line _ (λ f there. call_kept _ (then_gives state _ (λ v. v) (calls f line rest (kind_there f there)))))

  -- ---- printing

  piece_keeps : (values : List Value) (line count : ℕ) (x : Piece) → PieceFits outline count x → Kept Any (put_piece around values line x)
  piece_keeps values line count (piece.Byte byte) h = bind_any _ _ (phrase.out n n Rel rel (integer byte) line) (λ _ _. gives_kept tt _)
  piece_keeps values line count (piece.Out operand) h = bind_any _ _ (phrase.out n n Rel rel (value_at values operand) line) (λ _ _. gives_kept tt _)
  piece_keeps values line count (piece.Put f operand radix) h =
      call_kept _ (calls f line (put_arguments (value_at values operand) radix) (put_there outline.callees f _ h.1)) where
        put_there : (callees : List Callee) (f m : ℕ) → IsSomeAnd (slice_get callees f) (λ c. c.parameters ≡ m) → IsThere callees f
        put_there [] f m h = absurd h
        put_there (c ∷ callees) zero m h = tt
        put_there (c ∷ callees) (suc f) m h = put_there callees f m h

  pieces_keep : (values : List Value) (line count : ℕ) (pieces : List Piece) (total : Value) → All (PieceFits outline count) pieces → Kept Any (put_pieces around values line pieces total)
  pieces_keep values line count [] total h = gives_kept tt total
  pieces_keep values line count (x ∷ pieces) total h =
      bind_any _ _ (piece_keeps values line count x (All-head (PieceFits outline count) x pieces h)) (λ _ bytes.
      bind_any _ _ (phrase.operator n n Rel rel _ I32 total bytes line) (λ _ sum. pieces_keep values line count pieces sum (All-tail (PieceFits outline count) x pieces h)))

  print_keeps : (pieces : List Piece) (line count : ℕ) (values : List Value) → 0 < length values → All (PieceFits outline count) pieces → Kept Any (print around pieces line values)
  print_keeps pieces line count [] some h = absurd (omega (arith, some))
  print_keeps pieces line count (lock ∷ arguments) some h =
      bind_any _ _ (phrase.lock n n Rel rel around.base lock line) (λ _ _.
      bind_any _ _ (pieces_keep (lock ∷ arguments) line count pieces (integer 0) h) (λ _ total.
      bind_any _ _ (phrase.write n n Rel rel around.base I32 lock (integer 0) line) (λ _ _. gives_kept tt total)))

  -- ---- expressions

  mutual
    expr_keeps : (e : Expr) (state : State) → ExprFits outline here e → Kept Any (play_expr around e state)
    expr_keeps (Apply' line o z operands) state h =
        bind_kept (λ values. length values ≡ count_of operands) Any _ _ (operands_keep operands state h.1) (λ st values count.
        apply_keeps o (line_in around line) values st (subst (OpFits outline here o) (sym count) h.0))
    expr_keeps (Chain' line s (more_of-Expr first end_of-Expr) z links) state h =
        bind_any _ _ (expr_keeps first state h.0) (λ st v. links_keep line links v st h.1)
    expr_keeps (Logic' line all z operands) state h = logic_keeps all operands state h.1
    expr_keeps (Choose' line s (more_of-Expr test end_of-Expr) s1 (more_of-Expr one end_of-Expr) s2 (more_of-Expr other end_of-Expr)) state h =
        bind_any _ _ (expr_keeps test state h.0) (λ st v. zero_keeps v.number _ _ (expr_keeps other st h.1.1) (expr_keeps one st h.1.0))
    expr_keeps (Print' line z operands pieces) state h =
        bind_kept (λ values. length values ≡ count_of operands) Any _ _ (operands_keep operands state h.1.0) (λ st values count.
        then_gives st _ (λ v. v) (print_keeps pieces (line_in around line) (count_of operands) values (omega (arith, count, h.0)) h.1.1))

    operands_keep :
        {m : _} (operands : Row_of-Expr m) (state : State) → OperandsFit outline here operands →
        Kept (λ values. length values ≡ count_of operands) (play_operands around operands state)
    operands_keep end_of-Expr state h = record { keeps = refl }
    operands_keep (more_of-Expr e rest) state h =
        bind_kept Any (λ values. length values ≡ suc (count_of rest)) _ _ (expr_keeps e state h.0) (λ st v _.
        bind_kept (λ values. length values ≡ count_of rest) (λ values. length values ≡ suc (count_of rest)) _ _ (operands_keep rest st h.1)
        (λ st values count. record { keeps = ap suc count }))

    links_keep : {m : _} (line : ℕ) (links : Row_of-Link m) (v : Value) (state : State) → LinksFit outline here links → Kept Any (play_links around line links v state)
    links_keep line end_of-Link v state h = gives_kept state v
    links_keep line (more_of-Link o z operands links) v state h =
        bind_kept (λ values. length values ≡ count_of operands) Any _ _ (operands_keep operands state h.1.0) (λ st values count.
        bind_any _ _ (apply_keeps o (line_in around line) (v ∷ values) st (subst (OpFits outline here o) (sym (ap suc count)) h.0)) (λ st v.
        links_keep line links v st h.1.1))

    logic_keeps : {m : _} (all : Bool) (operands : Row_of-Expr m) (state : State) → OperandsFit outline here operands → Kept Any (play_logic around all operands state)
    logic_keeps true end_of-Expr state h = gives_kept state _
    logic_keeps false end_of-Expr state h = gives_kept state _
    logic_keeps true (more_of-Expr e rest) state h =
        bind_any _ _ (expr_keeps e state h.0) (λ st v. zero_keeps v.number _ _ (gives_kept st _) (logic_keeps true rest st h.1))
    logic_keeps false (more_of-Expr e rest) state h =
        bind_any _ _ (expr_keeps e state h.0) (λ st v. zero_keeps v.number _ _ (logic_keeps false rest st h.1) (gives_kept st _))

-- ---- statements

normal_keeps : (next : State → TextPlay Flow) → ((s : State) → Kept Any (next s)) → (s : State) (f : Flow) → Kept Any (on_normal next s f)
normal_keeps next h s Normal = h s
normal_keeps next h s Broke = gives_kept s _
normal_keeps next h s Continued = gives_kept s _
normal_keeps next h s (Returned v) = gives_kept s _

round_keeps : (next : State → TextPlay Flow) → ((s : State) → Kept Any (next s)) → (s : State) (f : Flow) → Kept Any (in_round next s f)
round_keeps next h s Normal = h s
round_keeps next h s Broke = gives_kept s _
round_keeps next h s Continued = h s
round_keeps next h s (Returned v) = gives_kept s _

switch_keeps : (s : State) (f : Flow) → Kept Any (after_switch s f)
switch_keeps s Normal = gives_kept s _
switch_keeps s Broke = gives_kept s _
switch_keeps s Continued = gives_kept s _
switch_keeps s (Returned v) = gives_kept s _

loop_keeps :
    (n : ℕ) (body next : State → TextPlay Flow) → ((s : State) → Kept Any (body s)) → ((s : State) → Kept Any (next s)) → (s : State) →
    Kept Any (loop n body next s)
loop_keeps zero body next b x s = record { keeps = tt }
loop_keeps (suc n) body next b x s =
    let again = λ (s : State). Jump (loop n body next s) in
    let step = λ (s : State). bind (next s) (in_round again) in
    bind_any (body s) (in_round step) (b s)
    (round_keeps step (λ s. bind_any (next s) (in_round again) (x s) (round_keeps again (λ s. jump_kept _ (loop_keeps n body next b x s)))))

module _
    (around : Around) (outline : Outline) (kinds : around.kinds ≡ map (λ (c : Callee). c.kind) outline.callees)
    (calls : (f line : ℕ) (values : List Value) → IsThere outline.callees f → Kept Any (around.call f line values)) where
  abbrev bound : ℕ
  bound = around.rounds

  first_keeps : (kind : LocalKind) (line : ℕ) (v : Value) → Kept Any (first_value around kind line v)
  first_keeps Zero line v = gives_kept tt _
  first_keeps (Home bytes) line v = phrase.home bound bound Rel (keeps_relates bound) bytes line
  first_keeps (Moved bytes access) line v =
      bind_any _ _ (phrase.home bound bound Rel (keeps_relates bound) bytes line) (λ _ home.
      bind_any _ _ (store_related bound bound Rel (keeps_relates bound) around.base access home v line) (λ _ _. gives_kept tt home))

  enter_keeps : (locals : List LocalDef) (state : State) → Kept Any (enter_block around locals state)
  enter_keeps [] state = gives_kept state tt
  enter_keeps (d ∷ locals) state =
      bind_any _ _ (first_keeps d.kind (line_in around d.line) (value_at state d.local)) (λ _ v. enter_keeps locals (put_at state d.local v))

  value_keeps : (here : Context) (e : Expr) (state : State) → ExprFits outline here e → Kept Any (play_expr around e state)
  value_keeps here e state h = expr_keeps around outline kinds calls here e state h

  return_keeps : (here : Context) (value : Option Expr) (state : State) → OptionalFits outline here value → Kept Any (play_return around value state)
  return_keeps here None state h = gives_kept state _
  return_keeps here (Some value) state h = bind_any _ _ (value_keeps here value state h) (λ st v. gives_kept st _)

  mutual
    stmt_keeps : (here : Context) (s : Stmt) (state : State) → StmtFits outline here s → Kept Any (play_stmt around s state)
    stmt_keeps here (Run value) state h = bind_any _ _ (value_keeps here value state h) (λ st v. gives_kept st _)
    stmt_keeps here (Block' locals z body) state h = bind_any _ _ (enter_keeps locals state) (λ st _. stmts_keep (in_block here locals) body 0 st h.1)
    stmt_keeps here (If' line test s (more_of-Stmt one end_of-Stmt) s1 (more_of-Stmt other end_of-Stmt)) state h =
        bind_any _ _ (value_keeps here test state h.0) (λ st v. zero_keeps v.number _ _ (stmt_keeps here other st h.1.1) (stmt_keeps here one st h.1.0))
    stmt_keeps here (Loop' line s (more_of-Stmt body end_of-Stmt) s1 (more_of-Stmt next end_of-Stmt)) state h =
        loop_keeps bound _ _ (λ st. stmt_keeps (in_loop here) body st h.0) (λ st. stmt_keeps (behind_body here) next st h.1) state
    stmt_keeps here (BreakUnless line test) state h =
        bind_any _ _ (value_keeps here test state h.1) (λ st v. zero_keeps v.number _ _ (gives_kept st Broke) (gives_kept st Normal))
    stmt_keeps here (Break line) state h = gives_kept state _
    stmt_keeps here (Continue line) state h = gives_kept state _
    stmt_keeps here (Switch' line value cases other z body) state h =
        bind_any _ _ (value_keeps here value state h.0) (λ st v.
        bind_any _ _ (stmts_keep (in_switch here) body (statement_for cases other v.number) st h.1.1.1) (λ st f. switch_keeps st f))
    stmt_keeps here (Return line value) state h = return_keeps here value state h

    stmts_keep : {m : _} (here : Context) (body : Row_of-Stmt m) (skipped : ℕ) (state : State) → StmtsFit outline here body → Kept Any (play_stmts around body skipped state)
    stmts_keep here end_of-Stmt skipped state h = gives_kept state _
    stmts_keep here (more_of-Stmt s rest) (suc skipped) state h = stmts_keep here rest skipped state h.1
    stmts_keep here (more_of-Stmt s rest) zero state h =
        bind_any _ _ (stmt_keeps here s state h.0) (λ st f. normal_keeps (λ st. play_stmts around rest 0 st) (λ st. stmts_keep here rest 0 st h.1) st f)

  function_keeps : (f : FunctionDef) (arguments : List Value) → FunctionFits outline f → Kept Any (play_function around f arguments)
  function_keeps f arguments h = bind_any _ _ (stmt_keeps (body_context f) f.body (first_state f arguments) h.body) (λ _ flow. gives_kept tt _)

-- ---- calls and threads

module _ (n : ℕ) (program : PlainProgram) (start : Start) (fits : IsProgram program) where
  -- the types of the functions are those of the outline
  same_kinds : (functions : List FunctionDef) → map (λ (f : FunctionDef). f.kind) functions ≡ map (λ (c : Callee). c.kind) (map callee_of functions)
  same_kinds [] = refl
  same_kinds (f ∷ functions) = ap (λ kinds. f.kind ∷ kinds) (same_kinds functions)

  fits_at :
      (functions : List FunctionDef) (f : ℕ) → All (FunctionFits (outline_of program)) functions → IsThere functions f →
      IsSomeAnd (slice_get functions f) (FunctionFits (outline_of program))
  fits_at [] f all h = absurd h
  fits_at (g ∷ functions) zero all h = All-head (FunctionFits (outline_of program)) g functions all
  fits_at (g ∷ functions) (suc f) all h = fits_at functions f (All-tail (FunctionFits (outline_of program)) g functions all) h

  found_keeps : (o : Option FunctionDef) (go : FunctionDef → Phrase Value) → IsSomeAnd o (FunctionFits (outline_of program)) →
      ((f : FunctionDef) → FunctionFits (outline_of program) f → Kept Any (go f)) → Kept Any (with_function o go)
  found_keeps None go h each = absurd h
  found_keeps (Some f) go h each = each f h

  call_keeps : (room f line : ℕ) (arguments : List Value) → IsThere (outline_of program).callees f → Kept Any (call_within room n program start f line arguments)
  call_keeps zero f line arguments h = trap_kept _ line
  call_keeps (suc room) f line arguments h =
      found_keeps (slice_get program.functions f) _ (fits_at program.functions f fits.functions (map_there callee_of program.functions f h))
      (λ g k. function_keeps (around_of n program start (user_line_of g line) (call_within room n program start)) (outline_of program) (same_kinds program.functions)
      (call_keeps room) g arguments k)

  first_function_keeps : start.function < length program.functions → Kept Any (play_first n program start)
  first_function_keeps lt =
      found_keeps (slice_get program.functions start.function) _ (fits_at program.functions start.function fits.functions (there_by_length program.functions start.function lt))
      (λ g k. function_keeps (around_of n program start None (call_within further_activations n program start)) (outline_of program) (same_kinds program.functions)
      (call_keeps further_activations) g (start.argument ∷ []) k)

leave_keeps : (main : Bool) (v : Value) → Kept Any (leave main v)
leave_keeps true v = record { keeps = λ _ _. tt }
leave_keeps false v = record { keeps = λ _ _. tt }

pub programs_are_gapless : ProgramsAreGapless
programs_are_gapless n program start fits lt =
    gapless Any (play_thread n program start)
    (bind_any (play_first n program start) _ (first_function_keeps n program start fits lt) (λ _ v. leave_keeps _ v)).keeps
