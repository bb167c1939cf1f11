-- What relates a play of C's text to one with another bound on rounds and other calls: one induction, which serves each law
-- of the play.
use Rattle.std.proofs.Common.{ℕ, zero, suc, List, [], ◌∷◌, Bool, true, false, Option, Some, None}
use Rattle.std.specs.Prelude.{slice_get}
use Rattle.filc_num.specs.Integers.{convert_of}
use Rattle.filc_num.specs.declared.integer.IntType.{IntType}
use Rattle.filc_num.specs.declared.integer.BinOp.{BinOp}
use Rattle.filc_num.specs.declared.integer.IntType.TheVariants.{I32}
use Rattle.c_tree.specs.declared.operation.Access.{Access}
use Rattle.c_tree.specs.declared.operation.Access.TheVariants.{Integer, Pointer, Box}
use Rattle.c_tree.specs.declared.operation.Change.{Change}
use Rattle.c_tree.specs.declared.operation.Change.TheVariants as change
use Rattle.c_tree.specs.declared.operation.Unit.{Unit as CopyUnit}
use Rattle.c_tree.specs.declared.operation.Operation.{Operation}
use Rattle.c_tree.specs.declared.operation.Operation.TheVariants as op
use Rattle.c_tree.specs.declared.operation.Piece.{Piece}
use Rattle.c_tree.specs.declared.operation.Piece.TheVariants as piece
use Rattle.c_tree.specs.declared.expr.Expr.{Expr, Apply', Chain', Logic', Choose', Print', Row_of-Expr, end_of-Expr, more_of-Expr, Row_of-Link, end_of-Link, more_of-Link}
use Rattle.c_tree.specs.declared.stmt.LocalDef.{LocalDef}
use Rattle.c_tree.specs.declared.stmt.LocalKind.{LocalKind}
use Rattle.c_tree.specs.declared.stmt.LocalKind.TheVariants.{Zero, Home, Moved}
use Rattle.c_tree.specs.declared.stmt.Stmt.{Stmt, Run, Block', If', Loop', BreakUnless, Break, Continue, Switch', Return, Row_of-Stmt, end_of-Stmt, more_of-Stmt}
use Rattle.c_tree.specs.declared.program.FunctionDef.{FunctionDef}
use Rattle.c_tree.specs.Plain.{PlainProgram}
use Rattle.ideal_machine.specs.declared.value.Value.{Value}
use Rattle.ideal_machine.specs.Values.{State, integer, value_at, put_at}
use Rattle.ideal_machine.specs.Play.{Play, Gives, Stops, Waits, bind}
use Rattle.ideal_machine.specs.Phrases.{Phrase, Start}
use Rattle.ideal_machine.specs.IntAccess.{is_exchanged}
use Rattle.ideal_machine.specs.Threads.{minus_one}
use Rattle.ideal_machine.proofs.Relates as phrase
use Rattle.ideal_machine.proofs.Relates.{Relates}
use Rattle.tree_play.specs.Around.{Around, line_in, Flow, Normal, Broke, Continued, Returned, TextPlay}
use Rattle.tree_play.specs.Memory.{load, store, swap, compare_pair, compare_exchange, operate, new_value, unit_access, copy_units}
use Rattle.tree_play.specs.Apply.{apply}
use Rattle.tree_play.specs.Printing.{put_arguments, put_piece, put_pieces, print}
use Rattle.tree_play.specs.Expressions.{play_expr, play_operands, play_links, play_logic}
use Rattle.tree_play.specs.Statements.{on_normal, after_switch, loop, first_value, enter_block, statement_for, play_return, play_stmt, play_stmts}
use Rattle.tree_play.specs.TreePlay.{first_state, result_of, play_function, with_function, user_line_of, around_of, call_within, further_activations, play_first}

-- a play that waits for an answer is related to itself
abbrev pub Waiting : ((S A : Type 0) → Play S A → Play S A → Type 0) → Type 1
Waiting R = (S A : Type 0) → R S A (Stops Waits) (Stops Waits)

-- a relation of loops: related parts make related loops
abbrev pub RelatesLoops : (rounds rounds' : ℕ) → ((S A : Type 0) → Play S A → Play S A → Type 0) → Type 0
RelatesLoops rounds rounds' R =
    (body body' next next' : State → TextPlay Flow) → ((s : State) → R State Flow (body s) (body' s)) →
    ((s : State) → R State Flow (next s) (next' s)) → (s : State) → R State Flow (loop rounds body next s) (loop rounds' body' next' s)

module _ (n n' : ℕ) (R : (S A : Type 0) → Play S A → Play S A → Type 0) (r : Relates n n' R) where
  abbrev Related : {S A : Type 0} → Play S A → Play S A → Type 0
  Related {S} {A} p q = R S A p q

  -- ---- memory

  pub load_related : (base : ℕ → ℕ) (access : Access) (p : Value) (line : ℕ) → Related (load base access p line) (load base access p line)
  load_related base (Integer ty) p line = phrase.read n n' R r base ty p line
  load_related base Pointer p line = phrase.read_both n n' R r base p line
  load_related base Box p line = phrase.read_both n n' R r base p line

  pub store_related : (base : ℕ → ℕ) (access : Access) (p v : Value) (line : ℕ) → Related (store base access p v line) (store base access p v line)
  store_related base (Integer ty) p v line = phrase.write n n' R r base ty p v line
  store_related base Pointer p v line = phrase.write_both n n' R r base p v line
  store_related base Box p v line = phrase.write_pair n n' R r base p v line

  pub swap_related : (base : ℕ → ℕ) (access : Access) (p v : Value) (line : ℕ) → Related (swap base access p v line) (swap base access p v line)
  swap_related base (Integer ty) p v line = phrase.update n n' R r base ty p _ v line
  swap_related base Pointer p v line = phrase.swap_both n n' R r base p v line
  swap_related base Box p v line = phrase.swap_both n n' R r base p v line

  pair_related :
      (base : ℕ → ℕ) (p e v : Value) (line : ℕ) → Related (compare_pair base n p e v line) (compare_pair base n' p e v line)
  pair_related base p e v line =
      r.binds _ _ _ _ (phrase.read_both n n' R r base e line) (λ _ expected.
      r.binds _ _ _ _ (phrase.exchange_both n n' R r base p expected v line) (λ _ x.
      phrase.either n n' R r x.is_made _ _ _ _ (r.gives tt (integer 1))
      (r.binds _ _ _ _ (phrase.write_both n n' R r base e x.found line) (λ _ _. r.gives tt (integer 0)))))

  pub compare_related :
      (base : ℕ → ℕ) (access : Access) (p e v : Value) (line : ℕ) →
      Related (compare_exchange base n access p e v line) (compare_exchange base n' access p e v line)
  compare_related base (Integer ty) p e v line =
      r.binds _ _ _ _ (phrase.read n n' R r base ty e line) (λ _ expected.
      r.binds _ _ _ _ (phrase.exchange n n' R r base ty p expected v line) (λ _ m.
      phrase.either n n' R r (is_exchanged ty m expected) _ _ _ _ (r.gives tt (integer 1))
      (r.binds _ _ _ _ (phrase.write n n' R r base ty e (integer (convert_of m ty)) line) (λ _ _. r.gives tt (integer 0)))))
  compare_related base Pointer p e v line = pair_related base p e v line
  compare_related base Box p e v line = pair_related base p e v line

  pub operate_related :
      (o : BinOp) (computed to : IntType) (old v : Value) (line : ℕ) → Related (operate o computed to old v line) (operate o computed to old v line)
  operate_related o computed to old v line = r.binds _ _ _ _ (phrase.operator n n' R r o computed old v line) (λ _ x. r.gives tt _)

  pub change_related : (c : Change) (old v : Value) (line : ℕ) → Related (new_value c old v line) (new_value c old v line)
  change_related (change.Integer o computed to) old v line = operate_related o computed to old v line
  change_related (change.Advance bytes) old v line = r.gives tt _
  change_related (change.Retreat bytes) old v line = r.gives tt _

  pub copy_related : (base : ℕ → ℕ) (unit : CopyUnit) (m : ℕ) (p q : Value) (line : ℕ) → Related (copy_units base unit m p q line) (copy_units base unit m p q line)
  copy_related base unit zero p q line = r.gives tt tt
  copy_related base unit (suc m) p q line =
      r.binds _ _ _ _ (load_related base (unit_access unit) q line) (λ _ v.
      r.binds _ _ _ _ (store_related base (unit_access unit) p v line) (λ _ _. r.jumps _ _ (copy_related base unit m _ _ line)))

module _
    (around : Around) (n' : ℕ) (R : (S A : Type 0) → Play S A → Play S A → Type 0) (r : Relates around.rounds n' R)
    (waits : Waiting R) (loops : RelatesLoops around.rounds n' R)
    (call' : (function line : ℕ) → List Value → Phrase Value)
    (calls : (f line : ℕ) (values : List Value) → R (Unit {0}) Value (around.call f line values) (call' f line values)) where
  abbrev n : ℕ
  n = around.rounds

  -- the same text with the other bound and the other calls
  abbrev around' : Around
  around' = record around { rounds = n'; call = call' }

  abbrev Alike : {S A : Type 0} → Play S A → Play S A → Type 0
  Alike {S} {A} p q = R S A p q

  -- a phrase, and then a value
  then_alike :
      {X : Type 0} (state : State) (p p' : Phrase X) (go : X → Value) → Alike p p' →
      Alike (bind p (λ _ x. Gives state (go x))) (bind p' (λ _ x. Gives state (go x)))
  then_alike state p p' go h = r.binds p p' _ _ h (λ _ x. r.gives state (go x))

  -- ---- operations

  apply_alike : (o : Operation) (line : ℕ) (values : List Value) (state : State) → Alike (apply around o line values state) (apply around' o line values state)
  apply_alike (op.Number m) line values state = r.gives state _
  apply_alike (op.Local local) line values state = r.gives state _
  apply_alike (op.Static m) line values state = r.gives state _
  apply_alike (op.Function f) line values state = r.gives state _
  apply_alike (op.Convert ty) line (v ∷ []) state = r.gives state _
  apply_alike (op.Binary o ty) line (a ∷ b ∷ []) state = then_alike state _ _ (λ v. v) (phrase.operator n n' R r o ty a b line)
  apply_alike (op.Negate ty) line (a ∷ []) state = then_alike state _ _ (λ v. v) (phrase.operator n n' R r _ ty (integer 0) a line)
  apply_alike (op.Complement ty) line (a ∷ []) state = then_alike state _ _ (λ v. v) (phrase.operator n n' R r _ ty a (integer minus_one) line)
  apply_alike (op.Not ty) line (a ∷ []) state = then_alike state _ _ (λ v. v) (phrase.operator n n' R r _ ty a (integer 0) line)
  apply_alike (op.Advance bytes) line (p ∷ i ∷ []) state = r.gives state _
  apply_alike (op.Retreat bytes) line (p ∷ i ∷ []) state = r.gives state _
  apply_alike (op.AdvanceBy bytes) line (i ∷ p ∷ []) state = r.gives state _
  apply_alike (op.Offset bytes) line (p ∷ []) state = r.gives state _
  apply_alike op.ToPointer line (v ∷ []) state = r.gives state _
  apply_alike (op.Distance bytes) line (p ∷ q ∷ []) state = then_alike state _ _ (λ v. v) (phrase.between n n' R r bytes p q)
  apply_alike (op.Compare o) line (p ∷ q ∷ []) state = then_alike state _ _ (λ v. v) (phrase.comparison n n' R r o p q line)
  apply_alike (op.ToInteger ty) line (p ∷ []) state = then_alike state _ _ (λ v. v) (phrase.as_int n n' R r ty p)
  apply_alike (op.SetLocal local) line (v ∷ []) state = r.gives _ v
  apply_alike (op.UpdateLocal local c) line (v ∷ []) state = r.binds _ _ _ _ (change_related n n' R r c (value_at state local) v line) (λ _ new. r.gives _ new)
  apply_alike (op.StepLocal local c) line (v ∷ []) state = r.binds _ _ _ _ (change_related n n' R r c (value_at state local) v line) (λ _ new. r.gives _ _)
  apply_alike (op.Load access) line (p ∷ []) state = then_alike state _ _ (λ v. v) (load_related n n' R r around.base access p line)
  apply_alike (op.Store access) line (p ∷ v ∷ []) state = then_alike state _ _ (λ _. v) (store_related n n' R r around.base access p v line)
  apply_alike (op.Update access c) line (p ∷ v ∷ []) state = r.binds _ _ _ _ (load_related n n' R r around.base access p line) (λ _ old.
      r.binds _ _ _ _ (change_related n n' R r c old v line) (λ _ new. then_alike state _ _ (λ _. new) (store_related n n' R r around.base access p new line)))
  apply_alike (op.Step access c) line (p ∷ v ∷ []) state = r.binds _ _ _ _ (load_related n n' R r around.base access p line) (λ _ old.
      r.binds _ _ _ _ (change_related n n' R r c old v line) (λ _ new. then_alike state _ _ (λ _. old) (store_related n n' R r around.base access p new line)))
  apply_alike (op.Copy unit m) line (p ∷ q ∷ []) state = then_alike state _ _ (λ _. p) (copy_related n n' R r around.base unit m p q line)
  apply_alike (op.Swap access) line (p ∷ v ∷ []) state = then_alike state _ _ (λ v. v) (swap_related n n' R r around.base access p v line)
  apply_alike (op.Cas access) line (p ∷ e ∷ v ∷ []) state = then_alike state _ _ (λ v. v) (compare_related n n' R r around.base access p e v line)
  apply_alike (op.Fetch ty o computed) line (p ∷ v ∷ []) state = then_alike state _ _ (λ v. v) (phrase.update n n' R r around.base ty p _ v line)
  apply_alike (op.Combine ty o computed) line (p ∷ v ∷ []) state = r.binds _ _ _ _ (phrase.update n n' R r around.base ty p _ v line) (λ _ old.
      then_alike state _ _ (λ v. v) (operate_related n n' R r o computed ty old v line))
  apply_alike (op.Call f) line values state = r.calls _ _ (then_alike state _ _ (λ v. v) (calls f line values))
  apply_alike (op.CallPointer kind) line (p ∷ values) state =
      r.binds _ _ _ _ (phrase.function n n' R r around.kinds kind p line) (λ _ f. r.calls _ _ (then_alike state _ _ (λ v. v) (calls f line values)))
  apply_alike op.New line (bytes ∷ []) state = then_alike state _ _ (λ v. v) (phrase.object n n' R r bytes)
  apply_alike op.Free line (p ∷ []) state = then_alike state _ _ (λ _. p) (phrase.free n n' R r p line)
  apply_alike op.Size line (p ∷ []) state = then_alike state _ _ (λ v. v) (phrase.size n n' R r p line)
  apply_alike op.Lock line (p ∷ []) state = then_alike state _ _ (λ _. p) (phrase.lock n n' R r around.base p line)
  apply_alike op.Out line (v ∷ []) state = then_alike state _ _ (λ _. v) (phrase.out n n' R r v line)
  apply_alike op.Input line [] state = then_alike state _ _ (λ v. v) (phrase.input n n' R r)
  apply_alike op.Spawn line (f ∷ v ∷ []) state = then_alike state _ _ (λ v. v) (phrase.start n n' R r around.kinds f v line)
  apply_alike op.Join line (id ∷ []) state = then_alike state _ _ (λ v. v) (phrase.join n n' R r id)
  apply_alike op.SelfId line [] state = r.gives state _
  apply_alike op.Exit line (v ∷ []) state = then_alike state _ _ (λ _. v) (r.exits v)
  apply_alike op.Abort line [] state = r.traps _ line
  apply_alike op.Second line (a ∷ b ∷ []) state = r.gives state b
  apply_alike o line values state = waits _ _

  -- ---- printing

  piece_alike : (values : List Value) (line : ℕ) (x : Piece) → Alike (put_piece around values line x) (put_piece around' values line x)
  piece_alike values line (piece.Byte byte) = r.binds _ _ _ _ (phrase.out n n' R r (integer byte) line) (λ _ _. r.gives tt _)
  piece_alike values line (piece.Out operand) = r.binds _ _ _ _ (phrase.out n n' R r (value_at values operand) line) (λ _ _. r.gives tt _)
  piece_alike values line (piece.Put f operand radix) = r.calls _ _ (calls f line (put_arguments (value_at values operand) radix))

  pieces_alike :
      (values : List Value) (line : ℕ) (pieces : List Piece) (count : Value) →
      Alike (put_pieces around values line pieces count) (put_pieces around' values line pieces count)
  pieces_alike values line [] count = r.gives tt count
  pieces_alike values line (x ∷ pieces) count =
      r.binds _ _ _ _ (piece_alike values line x) (λ _ bytes.
      r.binds _ _ _ _ (phrase.operator n n' R r _ I32 count bytes line) (λ _ total. pieces_alike values line pieces total))

  print_alike : (pieces : List Piece) (line : ℕ) (values : List Value) → Alike (print around pieces line values) (print around' pieces line values)
  print_alike pieces line [] = waits _ _
  print_alike pieces line (lock ∷ arguments) =
      r.binds _ _ _ _ (phrase.lock n n' R r around.base lock line) (λ _ _.
      r.binds _ _ _ _ (pieces_alike (lock ∷ arguments) line pieces (integer 0)) (λ _ count.
      r.binds _ _ _ _ (phrase.write n n' R r around.base I32 lock (integer 0) line) (λ _ _. r.gives tt count)))

  -- ---- expressions

  mutual
    pub expr_alike : (e : Expr) (state : State) → Alike (play_expr around e state) (play_expr around' e state)
    expr_alike (Apply' line o z operands) state =
        r.binds _ _ _ _ (operands_alike operands state) (λ st values. apply_alike o (line_in around line) values st)
    expr_alike (Chain' line s (more_of-Expr first end_of-Expr) z links) state =
        r.binds _ _ _ _ (expr_alike first state) (λ st v. links_alike line links v st)
    expr_alike (Logic' line all z operands) state = logic_alike all operands state
    expr_alike (Choose' line s (more_of-Expr test end_of-Expr) s1 (more_of-Expr one end_of-Expr) s2 (more_of-Expr other end_of-Expr)) state =
        r.binds _ _ _ _ (expr_alike test state) (λ st v. phrase.by_zero n n' R r v.number _ _ _ _ (expr_alike other st) (expr_alike one st))
    expr_alike (Print' line z operands pieces) state =
        r.binds _ _ _ _ (operands_alike operands state) (λ st values. then_alike st _ _ (λ v. v) (print_alike pieces (line_in around line) values))

    operands_alike : {m : _} (operands : Row_of-Expr m) (state : State) → Alike (play_operands around operands state) (play_operands around' operands state)
    operands_alike end_of-Expr state = r.gives state []
    operands_alike (more_of-Expr e rest) state =
        r.binds _ _ _ _ (expr_alike e state) (λ st v. r.binds _ _ _ _ (operands_alike rest st) (λ st values. r.gives st (v ∷ values)))

    links_alike :
        {m : _} (line : ℕ) (links : Row_of-Link m) (v : Value) (state : State) →
        Alike (play_links around line links v state) (play_links around' line links v state)
    links_alike line end_of-Link v state = r.gives state v
    links_alike line (more_of-Link o z operands links) v state =
        r.binds _ _ _ _ (operands_alike operands state) (λ st values.
        r.binds _ _ _ _ (apply_alike o (line_in around line) (v ∷ values) st) (λ st v. links_alike line links v st))

    logic_alike : {m : _} (all : Bool) (operands : Row_of-Expr m) (state : State) → Alike (play_logic around all operands state) (play_logic around' all operands state)
    logic_alike true end_of-Expr state = r.gives state _
    logic_alike false end_of-Expr state = r.gives state _
    logic_alike true (more_of-Expr e rest) state =
        r.binds _ _ _ _ (expr_alike e state) (λ st v. phrase.by_zero n n' R r v.number _ _ _ _ (r.gives st _) (logic_alike true rest st))
    logic_alike false (more_of-Expr e rest) state =
        r.binds _ _ _ _ (expr_alike e state) (λ st v. phrase.by_zero n n' R r v.number _ _ _ _ (logic_alike false rest st) (r.gives st _))

  -- ---- statements

  normal_alike : (next next' : State → TextPlay Flow) → ((s : State) → Alike (next s) (next' s)) → (s : State) (f : Flow) → Alike (on_normal next s f) (on_normal next' s f)
  normal_alike next next' h s Normal = h s
  normal_alike next next' h s Broke = r.gives s _
  normal_alike next next' h s Continued = r.gives s _
  normal_alike next next' h s (Returned v) = r.gives s _

  switch_alike : (s : State) (f : Flow) → Alike (after_switch s f) (after_switch s f)
  switch_alike s Normal = r.gives s _
  switch_alike s Broke = r.gives s _
  switch_alike s Continued = r.gives s _
  switch_alike s (Returned v) = r.gives s _

  first_alike : (kind : LocalKind) (line : ℕ) (v : Value) → Alike (first_value around kind line v) (first_value around' kind line v)
  first_alike Zero line v = r.gives tt _
  first_alike (Home bytes) line v = phrase.home n n' R r bytes line
  first_alike (Moved bytes access) line v =
      r.binds _ _ _ _ (phrase.home n n' R r bytes line) (λ _ home. r.binds _ _ _ _ (store_related n n' R r around.base access home v line) (λ _ _. r.gives tt home))

  enter_alike : (locals : List LocalDef) (state : State) → Alike (enter_block around locals state) (enter_block around' locals state)
  enter_alike [] state = r.gives state tt
  enter_alike (d ∷ locals) state =
      r.binds _ _ _ _ (first_alike d.kind (line_in around d.line) (value_at state d.local)) (λ _ v. enter_alike locals (put_at state d.local v))

  return_alike : (value : Option Expr) (state : State) → Alike (play_return around value state) (play_return around' value state)
  return_alike None state = r.gives state _
  return_alike (Some value) state = r.binds _ _ _ _ (expr_alike value state) (λ st v. r.gives st _)

  mutual
    pub stmt_alike : (s : Stmt) (state : State) → Alike (play_stmt around s state) (play_stmt around' s state)
    stmt_alike (Run value) state = r.binds _ _ _ _ (expr_alike value state) (λ st v. r.gives st Normal)
    stmt_alike (Block' locals z body) state = r.binds _ _ _ _ (enter_alike locals state) (λ st _. stmts_alike body 0 st)
    stmt_alike (If' line test s (more_of-Stmt one end_of-Stmt) s1 (more_of-Stmt other end_of-Stmt)) state =
        r.binds _ _ _ _ (expr_alike test state) (λ st v. phrase.by_zero n n' R r v.number _ _ _ _ (stmt_alike other st) (stmt_alike one st))
    stmt_alike (Loop' line s (more_of-Stmt body end_of-Stmt) s1 (more_of-Stmt next end_of-Stmt)) state =
        loops _ _ _ _ (λ st. stmt_alike body st) (λ st. stmt_alike next st) state
    stmt_alike (BreakUnless line test) state =
        r.binds _ _ _ _ (expr_alike test state) (λ st v. phrase.by_zero n n' R r v.number _ _ _ _ (r.gives st Broke) (r.gives st Normal))
    stmt_alike (Break line) state = r.gives state Broke
    stmt_alike (Continue line) state = r.gives state Continued
    stmt_alike (Switch' line value cases other z body) state =
        r.binds _ _ _ _ (expr_alike value state) (λ st v.
        r.binds _ _ _ _ (stmts_alike body (statement_for cases other v.number) st) (λ st f. switch_alike st f))
    stmt_alike (Return line value) state = return_alike value state

    stmts_alike : {m : _} (body : Row_of-Stmt m) (skipped : ℕ) (state : State) → Alike (play_stmts around body skipped state) (play_stmts around' body skipped state)
    stmts_alike end_of-Stmt skipped state = r.gives state Normal
    stmts_alike (more_of-Stmt s rest) (suc skipped) state = stmts_alike rest skipped state
    stmts_alike (more_of-Stmt s rest) zero state =
        r.binds _ _ _ _ (stmt_alike s state) (λ st f. normal_alike _ _ (λ st. stmts_alike rest 0 st) st f)

  pub function_alike : (f : FunctionDef) (arguments : List Value) → Alike (play_function around f arguments) (play_function around' f arguments)
  function_alike f arguments =
      r.binds _ _ _ _ (stmt_alike f.body (first_state f arguments)) (λ _ flow. r.gives tt (result_of flow))

-- ---- calls and threads

module _
    (n n' : ℕ) (R : (S A : Type 0) → Play S A → Play S A → Type 0) (r : Relates n n' R) (waits : Waiting R) (loops : RelatesLoops n n' R)
    (program : PlainProgram) (start : Start) where
  call_alike :
      (room f line : ℕ) (arguments : List Value) →
      R (Unit {0}) Value (call_within room n program start f line arguments) (call_within room n' program start f line arguments)
  call_alike zero f line arguments = r.traps _ line
  call_alike (suc room) f line arguments = chosen (call_alike room) (slice_get program.functions f) where
    chosen :
        ((g line : ℕ) (values : List Value) → R (Unit {0}) Value (call_within room n program start g line values) (call_within room n' program start g line values)) →
        (o : Option FunctionDef) →
        R (Unit {0}) Value
        (with_function o (λ g. play_function (around_of n program start (user_line_of g line) (call_within room n program start)) g arguments))
        (with_function o (λ g. play_function (around_of n' program start (user_line_of g line) (call_within room n' program start)) g arguments))
    chosen deeper None = waits _ _
    chosen deeper (Some g) =
        function_alike (around_of n program start (user_line_of g line) (call_within room n program start)) n' R r waits loops
        (call_within room n' program start) deeper g arguments

  pub first_function_alike : R (Unit {0}) Value (play_first n program start) (play_first n' program start)
  first_function_alike = chosen (slice_get program.functions start.function) where
    chosen :
        (o : Option FunctionDef) →
        R (Unit {0}) Value
        (with_function o (λ g. play_function (around_of n program start None (call_within further_activations n program start)) g (start.argument ∷ [])))
        (with_function o (λ g. play_function (around_of n' program start None (call_within further_activations n' program start)) g (start.argument ∷ [])))
    chosen None = waits _ _
    chosen (Some g) =
        function_alike (around_of n program start None (call_within further_activations n program start)) n' R r waits loops
        (call_within further_activations n' program start) (call_alike further_activations) g (start.argument ∷ [])
