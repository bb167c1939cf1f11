-- The answer for a whole file.
use Rattle.std.specs.Prelude.{◌≡◌, ℕ, List, Some}
use Rattle.c_rules.specs.declared.fault.CheckFault.{CheckFault}
use Rattle.c_rules.specs.declared.fault.CheckFault.TheVariants as check
use Rattle.c_rules.specs.Rules.{number_of}
use Rattle.c_syntax.specs.declared.file.File.{File}
use Rattle.c_tree.specs.Plain.{plain_program}
use Rattle.c_expr_rules.specs.declared.found.Broken.{Broken}
use Rattle.c_expr_rules.specs.declared.found.Fault.{Fault}
use Rattle.c_expr_rules.specs.declared.found.Fault.TheVariants as fault
use Rattle.c_expr_rules.specs.Outcomes.{State, Checked, Fine}
use Rattle.c_expr_rules.specs.Views.{seen_state}
use Rattle.c_file_rules.specs.Files.{Tokens, Ahead, Whole, IsProgramOf, Stops, bodies_of, file_answer, file_checked, whole_of, closed, closing, first_broken}
use Rattle.c_file_rules.specs.declared.made.Made.{Made}
use Rattle.c_check.specs.declared.reading.Reading.{Reading}
use Rattle.c_check.specs.declared.whole.CheckedFile.{CheckedFile}
use Rattle.c_check.specs.Rounds.{tokens_of}
use Rattle.c_check.specs.Tokens.{PlainTokens}

abbrev pub refusal_of : Broken → CheckFault
refusal_of b = check.Rule b.line b.rule

abbrev pub answer_of : Fault → CheckFault
answer_of (fault.Broke b) = refusal_of b
answer_of fault.NoMemory = check.NoMemory

-- ---- the rules of the whole

-- a file behind its constructs, as the definition has it
abbrev pub whole_at : PlainTokens → (bodies : List ℕ) → State → List Made → Whole
whole_at t bodies s functions = whole_of (tokens_of t) bodies s functions

-- no rule of the whole is broken, and this is the number of `main`
pub record IsClosed (t : PlainTokens) (bodies : List ℕ) (s : State) (functions : List Made) (main : ℕ) : Type 0 where
  pub accepted : closed s (whole_at t bodies s functions) ≡ Fine s (whole_at t bodies s functions)
  pub main_is : (whole_at t bodies s functions).main ≡ Some main

-- this rule of the whole is broken
abbrev pub IsEnding : PlainTokens → (bodies : List ℕ) → State → List Made → CheckFault → Type 0
IsEnding t bodies s functions (check.Rule line rule) =
    first_broken (closing s (whole_at t bodies s functions)) ≡ Some (record { rule = number_of rule; line = line })
IsEnding t bodies s functions check.NoMemory = Unit {0}

-- ---- a reading

-- one reading breaks no rule, and tells this
pub record IsReading (t : PlainTokens) (ahead : Ahead) (file : File) (r : Reading) : Type 0 where
  pub accepted :
      file_checked (tokens_of t) ahead file
      ≡ Fine (seen_state r.state) (whole_at t (bodies_of file) (seen_state r.state) r.functions.items)
  pub main_is : (whole_at t (bodies_of file) (seen_state r.state) r.functions.items).main ≡ Some r.main

-- this is the first rule that is broken
abbrev pub IsRefusedBy : {A : Type 0} → Checked A → CheckFault → Type 0
IsRefusedBy found (check.Rule line rule) = Stops found (record { rule = number_of rule; line = line })
IsRefusedBy found check.NoMemory = Unit {0}

-- ---- the answer

-- why a file has no program
abbrev pub IsRefusal : Tokens → File → CheckFault → Type 0
IsRefusal t file broken = IsRefusedBy (file_answer t file) broken

-- these are the parts of the program that a file is
abbrev pub IsChecked : Tokens → File → CheckedFile → Type 0
IsChecked t file c = IsProgramOf t file (plain_program c.functions.items c.statics.items c.main)
