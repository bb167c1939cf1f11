-- What a program keeps: each name is one of the program's, each operation has its operands and a type that it
-- is computed in, and the functions and statics are within the limits of a program.
use Rattle.std.specs.Prelude.{◌≡◌, ℕ, suc, ◌<◌, ◌≤◌, true, false, IsTrue, IsSomeAnd, All, List, [], ◌∷◌, length, map, sum_by, slice_get, Option, Some, None}
use Rattle.filc_num.specs.declared.registers.TheConstants.{REGISTERS}
use Rattle.filc_num.specs.Integers.{bytes_of}
use Rattle.filc_num.specs.declared.statics.StaticDef.{StaticDef}
use Rattle.filc_num.specs.declared.statics.StaticHalf.{StaticHalf}
use Rattle.filc_num.specs.declared.statics.StaticHalf.TheVariants as half
use Rattle.c_types.specs.declared.ctype.TheConstants.{MOST_OBJECT_BYTES}
use Rattle.c_tree.specs.declared.operation.Access.{Access}
use Rattle.c_tree.specs.declared.operation.Access.TheVariants as access
use Rattle.c_tree.specs.declared.operation.Piece.{Piece}
use Rattle.c_tree.specs.declared.operation.Piece.TheVariants as piece
use Rattle.c_tree.specs.declared.expr.Expr.{Expr, Apply', Chain', Logic', Choose', Print', Row_of-Expr, end_of-Expr, more_of-Expr, Row_of-Link, end_of-Link, more_of-Link}
use Rattle.c_tree.specs.declared.stmt.Stmt.{Stmt, Run, Block', If', Loop', BreakUnless, Break, Continue, Switch', Return, Row_of-Stmt, end_of-Stmt, more_of-Stmt}
use Rattle.c_tree.specs.declared.stmt.Case.{Case}
use Rattle.c_tree.specs.declared.stmt.LocalDef.{LocalDef}
use Rattle.c_tree.specs.declared.stmt.LocalKind.{LocalKind}
use Rattle.c_tree.specs.declared.stmt.LocalKind.TheVariants as kind
use Rattle.c_tree.specs.declared.program.FunctionDef.{FunctionDef}
use Rattle.c_tree.specs.Plain.{PlainProgram}
use Rattle.c_tree.specs.Operands.{Callee, Outline, Context, IsValue, OpFits}
use Rattle.c_tree.specs.Temps.{needed_by}

-- ---- expressions

abbrev pub count_of : {m : _} → Row_of-Expr m → ℕ
count_of end_of-Expr = 0
count_of (more_of-Expr e rest) = suc (count_of rest)

-- a text has one operand, a number one more for its radix
abbrev pub put_parameters : Option ℕ → ℕ
put_parameters None = 1
put_parameters (Some radix) = 2

-- what a piece puts out is one of so many operands, but not the first
abbrev pub IsPutOut : ℕ → ℕ → Type 0
IsPutOut operands operand = (0 < operand) × (operand < operands)

abbrev pub PieceFits : Outline → ℕ → Piece → Type 0
PieceFits o operands (piece.Byte byte) = Unit {0}
PieceFits o operands (piece.Out operand) = IsPutOut operands operand
PieceFits o operands (piece.Put function operand radix) =
    IsPutOut operands operand × IsSomeAnd (slice_get o.callees function) (λ c. c.parameters ≡ put_parameters radix)

abbrev mutual
  pub ExprFits : Outline → Context → Expr → Type 0
  ExprFits o here (Apply' line op z operands) = OpFits o here op (count_of operands) × OperandsFit o here operands
  ExprFits o here (Chain' line s (more_of-Expr first end_of-Expr) z links) = ExprFits o here first × LinksFit o here links
  ExprFits o here (Logic' line all z operands) = (0 < count_of operands) × OperandsFit o here operands
  ExprFits o here (Choose' line s (more_of-Expr test end_of-Expr) s1 (more_of-Expr one end_of-Expr) s2 (more_of-Expr other end_of-Expr)) =
      ExprFits o here test × (ExprFits o here one × ExprFits o here other)
  -- the first operand of `printf` is the lock of the output
  ExprFits o here (Print' line z operands pieces) =
      (0 < count_of operands) × (OperandsFit o here operands × All (PieceFits o (count_of operands)) pieces)

  pub OperandsFit : {m : _} → Outline → Context → Row_of-Expr m → Type 0
  OperandsFit o here end_of-Expr = Unit {0}
  OperandsFit o here (more_of-Expr e rest) = ExprFits o here e × OperandsFit o here rest

  -- a link's first operand is what stands before it
  pub LinksFit : {m : _} → Outline → Context → Row_of-Link m → Type 0
  LinksFit o here end_of-Link = Unit {0}
  LinksFit o here (more_of-Link op z operands links) = OpFits o here op (suc (count_of operands)) × (OperandsFit o here operands × LinksFit o here links)

-- ---- statements

abbrev pub in_loop : Context → Context
in_loop here = record here { may_break = true; may_continue = true }

-- behind a loop's body nothing is left to go on from
abbrev pub behind_body : Context → Context
behind_body here = record here { may_break = true; may_continue = false }

abbrev pub in_switch : Context → Context
in_switch here = record here { may_break = true }

-- a home has a byte at least, and no more than an object may have
abbrev pub IsHomeSize : ℕ → Type 0
IsHomeSize bytes = (1 ≤ bytes) × (bytes ≤ MOST_OBJECT_BYTES)

-- how many bytes lie in memory
abbrev pub bytes_of_access : Access → ℕ
bytes_of_access (access.Integer ty) = bytes_of ty
bytes_of_access access.Pointer = 8
bytes_of_access access.Box = 8

abbrev pub KindFits : LocalKind → Type 0
KindFits kind.Zero = Unit {0}
KindFits (kind.Home bytes) = IsHomeSize bytes
KindFits (kind.Moved bytes lies) = bytes ≡ bytes_of_access lies

-- a block's local has no home yet
abbrev pub LocalFits : Context → LocalDef → Type 0
LocalFits here d = IsValue here d.local × KindFits d.kind

-- where a local stands after its declaration
abbrev pub after_kind : ℕ → LocalKind → Context → Context
after_kind local kind.Zero here = here
after_kind local (kind.Home bytes) here = record here { homes = local ∷ here.homes }
after_kind local (kind.Moved bytes lies) here = record here { homes = local ∷ here.homes }

-- each of a block's locals fits behind those before it
abbrev pub LocalsFit : Context → List LocalDef → Type 0
LocalsFit here [] = Unit {0}
LocalsFit here (d ∷ locals) = LocalFits here d × LocalsFit (after_kind d.local d.kind here) locals

-- inside a block
abbrev pub in_block : Context → List LocalDef → Context
in_block here [] = here
in_block here (d ∷ locals) = in_block (after_kind d.local d.kind here) locals

abbrev pub OptionalFits : Outline → Context → Option Expr → Type 0
OptionalFits o here None = Unit {0}
OptionalFits o here (Some value) = ExprFits o here value

abbrev pub statements_in : {m : _} → Row_of-Stmt m → ℕ
statements_in end_of-Stmt = 0
statements_in (more_of-Stmt s rest) = suc (statements_in rest)

abbrev mutual
  pub StmtFits : Outline → Context → Stmt → Type 0
  StmtFits o here (Run value) = ExprFits o here value
  StmtFits o here (Block' locals z body) = LocalsFit here locals × StmtsFit o (in_block here locals) body
  StmtFits o here (If' line test s (more_of-Stmt one end_of-Stmt) s1 (more_of-Stmt other end_of-Stmt)) =
      ExprFits o here test × (StmtFits o here one × StmtFits o here other)
  StmtFits o here (Loop' line s (more_of-Stmt body end_of-Stmt) s1 (more_of-Stmt next end_of-Stmt)) =
      StmtFits o (in_loop here) body × StmtFits o (behind_body here) next
  StmtFits o here (BreakUnless line test) = IsTrue here.may_break × ExprFits o here test
  StmtFits o here (Break line) = IsTrue here.may_break
  StmtFits o here (Continue line) = IsTrue here.may_continue
  StmtFits o here (Switch' line value cases other z body) =
      ExprFits o here value × (All (λ (c : Case). c.statement ≤ statements_in body) cases × ((other ≤ statements_in body) × StmtsFit o (in_switch here) body))
  StmtFits o here (Return line value) = OptionalFits o here value

  pub StmtsFit : {m : _} → Outline → Context → Row_of-Stmt m → Type 0
  StmtsFit o here end_of-Stmt = Unit {0}
  StmtsFit o here (more_of-Stmt s rest) = StmtFits o here s × StmtsFit o here rest

-- ---- functions, statics and the program

abbrev pub body_context : FunctionDef → Context
body_context f = record { locals = f.locals; homes = []; may_break = false; may_continue = false }

-- what a function keeps: its registers hold all that it needs, and are no more than a frame has
pub record FunctionFits (o : Outline) (f : FunctionDef) : Type 0 where
  pub parameters : f.parameters ≤ f.locals
  pub body : StmtFits o (body_context f) f.body
  pub needed : needed_by f ≤ f.values
  pub values : f.values ≤ REGISTERS

-- what a static word's half names is one of the program's
abbrev pub HalfFits : Outline → StaticHalf → Type 0
HalfFits o half.None = Unit {0}
HalfFits o (half.Object number) = number < o.statics
HalfFits o (half.Function number) = number < length o.callees

pub record StaticFits (o : Outline) (s : StaticDef) : Type 0 where
  pub size : s.bytes ≤ MOST_OBJECT_BYTES
  pub halves : All (HalfFits o) s.halves.items

abbrev pub callee_of : FunctionDef → Callee
callee_of f = record { kind = f.kind; parameters = f.parameters }

abbrev pub outline_of : PlainProgram → Outline
outline_of program = record { callees = map callee_of program.functions; statics = length program.statics }

-- what may be started as a thread takes one argument: kind 0 is `int(void*)`
abbrev pub TakesItsArgument : Callee → Type 0
TakesItsArgument c = c.kind ≡ 0 → c.parameters ≡ 1

-- what a program keeps; `main` takes nothing
pub record IsProgram (program : PlainProgram) : Type 0 where
  pub functions : All (FunctionFits (outline_of program)) program.functions
  pub statics : All (StaticFits (outline_of program)) program.statics
  pub threads : All TakesItsArgument (outline_of program).callees
  pub main : IsSomeAnd (slice_get program.functions program.main) (λ f. f.parameters ≡ 0)
  pub function_count : length program.functions ≤ 4000
  pub static_words : sum_by (λ (s : StaticDef). length s.words.items) program.statics ≤ 262144
