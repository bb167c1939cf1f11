-- The code of a statement and the code of a program play them.
--
-- For each bound on rounds there is a bound on instructions with which code makes the play's events, takes its answers and
-- makes as many backward jumps and calls, and then it stands where its flow says, or has ended like the play. Of a program
-- the other direction holds too: what code does with so many instructions reaches what the program plays. The premises:
--
--     SwitchesFit         a switch goes by a converted value, and the numbers of its cases are words
--     IsWordAnswer        and so are the numbers in answers
--     0 < rounds          with no round a lock, or an exchange of an atomic pointer, is cut between its check and its first
--                         round, where code has no place; that play is a cut of the one with a round
use Rattle.std.specs.Prelude.{◌≡◌, ℕ, ◌+◌, ◌<◌, ◌≤◌, ◌^◌, Bool, List, length, All, Some}
use Rattle.filc_num.specs.declared.integer.IntType.{IntType}
use Rattle.c_tree.specs.declared.expr.Expr.{Expr, Apply', Chain', Logic', Choose', Print', end_of-Expr, more_of-Expr}
use Rattle.c_tree.specs.declared.operation.Operation.TheVariants as op
use Rattle.c_tree.specs.declared.stmt.Case.{Case}
use Rattle.c_tree.specs.declared.stmt.Stmt.{Stmt, Run, Block', If', Loop', BreakUnless, Break, Continue, Switch', Return as ReturnStmt, Row_of-Stmt, end_of-Stmt, more_of-Stmt}
use Rattle.c_tree.specs.declared.program.FunctionDef.{FunctionDef}
use Rattle.c_tree.specs.Operands.{Outline, Context}
use Rattle.c_tree.specs.Fits.{StmtFits, IsProgram}
use Rattle.c_tree.specs.Plain.{PlainProgram}
use Rattle.whole_code.specs.declared.op.Op.TheVariants.{Return}
use Rattle.whole_code.specs.Plain.{PlainCode, instruction_at}
use Rattle.ideal_machine.specs.declared.value.Value.{Value}
use Rattle.ideal_machine.specs.declared.event.Answer.{Answer}
use Rattle.ideal_machine.specs.Values.{State, value_at}
use Rattle.ideal_machine.specs.Play.{Log, log_of, run}
use Rattle.ideal_machine.specs.Phrases.{Start, Phrase}
use Rattle.ideal_machine.specs.Reaches.{Reaches}
use Rattle.tree_play.specs.Around.{Flow, Normal, Broke, Continued, Returned}
use Rattle.tree_play.specs.Statements.{play_stmt}
use Rattle.tree_play.specs.TreePlay.{play}
use Rattle.whole_thread.specs.Act.{by_number}
use Rattle.whole_thread.specs.CodePlay.{code_events}
use Rattle.expr_gen.specs.Operations.{at_line}
use Rattle.expr_gen.specs.Stretch.{Site, around_at, Between, Runs, from, IsWordAnswer, HasWords, CallRuns, Agree}
use Rattle.stmt_gen.specs.Code.{Exits, stmt_size, stmt_code}
use Rattle.stmt_gen.specs.Programs.{program_code}

-- ---- switches of a tree

-- what a switch goes by has been converted, so it is a word (C11 6.8.4.2p5)
abbrev pub IsConverted : Expr → Type 0
IsConverted (Apply' line o z operands) = (ty : IntType) × (o ≡ op.Convert ty)
IsConverted (Chain' line s (more_of-Expr first end_of-Expr) z links) = ⊥
IsConverted (Logic' line all z operands) = ⊥
IsConverted (Choose' line s (more_of-Expr test end_of-Expr) s1 (more_of-Expr one end_of-Expr) s2 (more_of-Expr other end_of-Expr)) = ⊥
IsConverted (Print' line z operands pieces) = ⊥

-- a case's value is a word, as the tree's own type says
abbrev pub IsWordCase : Case → Type 0
IsWordCase c = c.value < 2 ^ 64

-- each switch of a statement goes by a converted value, and its cases' values are words
abbrev mutual
  pub SwitchesFit : Stmt → Type 0
  SwitchesFit (Run value) = Unit {0}
  SwitchesFit (Block' locals z body) = RowSwitchesFit body
  SwitchesFit (If' line test s (more_of-Stmt one end_of-Stmt) s1 (more_of-Stmt other end_of-Stmt)) =
      SwitchesFit one × SwitchesFit other
  SwitchesFit (Loop' line s (more_of-Stmt body end_of-Stmt) s1 (more_of-Stmt next end_of-Stmt)) = SwitchesFit body × SwitchesFit next
  SwitchesFit (BreakUnless line test) = Unit {0}
  SwitchesFit (Break line) = Unit {0}
  SwitchesFit (Continue line) = Unit {0}
  SwitchesFit (Switch' line value cases other z body) =
      IsConverted value × (All IsWordCase cases × RowSwitchesFit body)
  SwitchesFit (ReturnStmt line value) = Unit {0}

  pub RowSwitchesFit : {m : _} → Row_of-Stmt m → Type 0
  RowSwitchesFit end_of-Stmt = Unit {0}
  RowSwitchesFit (more_of-Stmt s rest) = SwitchesFit s × RowSwitchesFit rest

-- ---- where statements land

-- the exits stand after a stretch that ends there
pub record StandAfter (exits : Exits) (to : ℕ) : Type 0 where
  pub broke : to ≤ exits.broke
  pub continued : to ≤ exits.continued

-- the instruction there returns this value
pub record IsReturnOf (site : Site) (v : Value) (index : ℕ) (after : List Value) : Type 0 where
  pub line : ℕ
  pub register : ℕ
  pub here : instruction_at site.code site.function index ≡ Some (at_line site.library line (Return register))
  pub value : value_at after register ≡ v

-- by its flow a statement lands at its end, at an exit, or at a return of its value
abbrev pub Flowed : Site → (k to : ℕ) → Exits → State → Flow → (index : ℕ) → List Value → Type 0
Flowed site k to exits env Normal index after = (index ≡ to) × Agree k after env
Flowed site k to exits env Broke index after = (index ≡ exits.broke) × Agree k after env
Flowed site k to exits env Continued index after = (index ≡ exits.continued) × Agree k after env
Flowed site k to exits env (Returned v) index after = IsReturnOf site v index after

-- ---- the laws

-- the code of every statement plays it, wherever it stands and whatever it is answered
abbrev pub StatementsPlay : Type 0
StatementsPlay =
    (site : Site) (rounds : ℕ) (call : (function line : ℕ) → List Value → Phrase Value) → 0 < rounds → CallRuns site call →
    (outline : Outline) (here : Context) (s : Stmt) (from_index to : ℕ) (exits : Exits) (registers : List Value) (env : State) (w : Log) →
    StmtFits outline here s → SwitchesFit s → HasWords w → StandAfter exits to →
    Between site from_index (stmt_code site.library s here.locals from_index exits) to → Agree here.locals registers env →
    Runs site (Flowed site here.locals to exits) (from site from_index registers) w (run (play_stmt (around_at site rounds call) s env) w)

-- code is as long as its size says, by which jumps go
abbrev pub CodeHasItsSize : Type 0
CodeHasItsSize =
    (library : Bool) (s : Stmt) (t at : ℕ) (exits : Exits) → length (stmt_code library s t at exits) ≡ stmt_size s

-- each function's switches fit
abbrev pub ProgramSwitchesFit : PlainProgram → Type 0
ProgramSwitchesFit program = All (λ (f : FunctionDef). SwitchesFit f.body) program.functions

-- code plays a program, in a thread that is begun so, on these answers: for each bound on rounds, at least one, there is a
-- bound on instructions with which the two have the same events, answers left, backward jumps, calls and end, also where
-- the bound cut the play; the play without a round reaches code; and for each bound on instructions the code reaches the
-- play with one round more than the backward jumps that it made
pub record PlaysOn (code : PlainCode) (program : PlainProgram) (start : Start) (answers : List Answer) : Type 0 where
  pub of_play :
      (n : ℕ) → 0 < n → (m : ℕ) × (code_events m code (by_number start) answers ≡ play n program start answers)
  pub of_no_round : (m : ℕ) × Reaches (play 0 program start answers) (code_events m code (by_number start) answers)
  pub of_code :
      (m : ℕ) →
      Reaches (code_events m code (by_number start) answers)
      (play ((log_of (code_events m code (by_number start) answers)).jumps + 1) program start answers)

-- the code of a program plays it, whatever function is begun, with whatever id, argument and addresses, and whatever words
-- it is answered
abbrev pub ProgramsPlay : Type 0
ProgramsPlay =
    (program : PlainProgram) → IsProgram program → ProgramSwitchesFit program → (start : Start) (answers : List Answer) →
    All IsWordAnswer answers → PlaysOn (program_code program) program start answers
