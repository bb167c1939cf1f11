-- A file construct by construct, as the code goes through it, by what is known ahead.
use Rattle.std.specs.Prelude.{◌≡◌, ℕ, false, List, ◌++◌, length, slice_get, Option, Some, None}
use Rattle.c_syntax.specs.declared.expr.Declarator.{out-Declarator}
use Rattle.c_syntax.specs.declared.file.External.{External}
use Rattle.c_syntax.specs.declared.file.External.TheVariants.{Function as Defined, Declaration as Declares, Assertion as Asserts}
use Rattle.c_syntax.specs.declared.file.File.{File}
use Rattle.c_specifiers.specs.declared.list.Standing.TheVariants as standing
use Rattle.c_expr_rules.specs.declared.found.Fault.{Fault}
use Rattle.c_expr_rules.specs.declared.found.Fault.TheVariants as fault
use Rattle.c_expr_rules.specs.Contexts.{assertion_constant}
use Rattle.c_expr_rules.specs.Outcomes.{State, Checked, Fine, Broke, next, inner}
use Rattle.c_expr_rules.specs.Views.{seen_broken}
use Rattle.c_names.specs.declared.facts.Facts.{Facts}
use Rattle.c_names.specs.declared.facts.Kinds.{Kinds}
use Rattle.c_names.specs.Around.{with_homes}
use Rattle.c_statements.specs.Bodied.{function_checked_at}
use Rattle.c_names.specs.Code.{kind_by}
use Rattle.c_file_rules.specs.Constructs.{in_order, Here}
use Rattle.c_file_rules.specs.Declaring.{declaration_checked}
use Rattle.c_file_rules.specs.Files.{Ahead, bodies_of, external_checked, here_of, start_state}
use Rattle.c_file_rules.specs.Functions.{name_or_zero}
use Rattle.c_file_rules.specs.declared.made.Made.{Made}
use Rattle.c_check.specs.Known.{locals_or_none}
use Rattle.c_file_rules.specs.Printing.{printer_in}
use Rattle.c_check.specs.Rounds.{tokens_of}
use Rattle.c_check.specs.Tokens.{PlainTokens, library_flags}

-- ---- what is told of a file

-- these facts are told of a file of these tokens
pub record IsOfFile (t : PlainTokens) (facts : Facts) : Type 0 where
  pub library : facts.library.items ≡ library_flags t

-- but for what `printf` stands for the same is told
pub record IsSameFile (old new : Facts) : Type 0 where
  pub bodies : new.bodies ≡ old.bodies
  pub kinds : new.kinds ≡ old.kinds
  pub library : new.library.items ≡ old.library.items

-- ---- one construct

-- a construct, with the function that it makes
abbrev pub external_at : (here inner : Here) → State → External → Checked (Option Made)
external_at here inner s (Defined f) = next (function_checked_at here inner s f) (λ s made. Fine s (Some made))
external_at here inner s (Declares d) = next (declaration_checked here standing.File s d) (λ s stores. Fine s None)
external_at here inner s (Asserts a) = next (assertion_constant here.around s a.condition) (λ s t. Fine s None)

abbrev pub number_of_item : Here → External → ℕ
number_of_item here (Defined f) =
    here.function_number false (name_or_zero (out-Declarator f.declarator).name)
number_of_item here (Declares d) = 0
number_of_item here (Asserts a) = 0

abbrev pub taken_at : List (List ℕ) → ℕ → List ℕ
taken_at homes n = locals_or_none (slice_get homes n)

abbrev pub in_homes : List (List ℕ) → Here → External → Here
in_homes homes here item =
    record here { around = with_homes (taken_at homes (number_of_item here item)) here.around }

abbrev pub construct_at : Here → List (List ℕ) → State → External → Checked (Option Made)
construct_at here homes s item = external_at here (in_homes homes here item) s item

-- what is known ahead, as the code has it
abbrev pub ahead_of : Kinds → List (List ℕ) → Ahead
ahead_of kinds homes = record { taken = taken_at homes; kind_of = kind_by kinds }

-- ---- constructs one after another

-- a construct as the definition looks at it
abbrev pub look_at : PlainTokens → Ahead → (bodies : List ℕ) → State → External → Checked (List Made)
look_at t ahead bodies s x =
    external_checked (here_of (tokens_of t) ahead bodies (printer_in (length bodies) s)) ahead.taken s x

-- a construct that breaks no rule adds its functions to those before it
pub record Adds (before : List Made) (found : Checked (List Made)) (s : State) (after : List Made) : Type 0 where
  pub made : List Made
  pub is : found ≡ Fine s made
  pub joined : after ≡ before ++ made

-- this rule is broken
abbrev pub IsStopped : {A : Type 0} → Checked A → Fault → Type 0
IsStopped found (fault.Broke b) = found ≡ Broke (seen_broken b)
IsStopped found fault.NoMemory = Unit {0}

abbrev pub constructs_by : PlainTokens → Ahead → File → Checked (List Made)
constructs_by t ahead file =
    let bodies = bodies_of file in
    in_order (look_at t ahead bodies) (start_state (length bodies)) file.items

-- all constructs broke no rule, and left this
abbrev pub HasGone : PlainTokens → Ahead → File → State → List Made → Type 0
HasGone t ahead file s functions = constructs_by t ahead file ≡ Fine s functions

-- a construct broke this rule
abbrev pub HasStopped : PlainTokens → Ahead → File → Fault → Type 0
HasStopped t ahead file broken = IsStopped (constructs_by t ahead file) broken
