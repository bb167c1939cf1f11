-- A declarator step by step as the code takes it: its name is declared, its rules are looked at, and then it is placed.
use Rattle.std.specs.Prelude.{ℕ, ◌==◌, ◌&&◌, Bool, false, not, List, [], ◌∷◌, ◌++◌, Option, Some, None, Result, Ok, Err}
use Rattle.std.specs.declared.alloc.AllocError.{AllocError}
use Rattle.c_rules.specs.declared.rule.Rule.{Rule as CRule}
use Rattle.c_rules.specs.declared.rule.Rule.TheVariants as rule
use Rattle.c_syntax.specs.Files.{initialiser_span}
use Rattle.c_syntax.specs.declared.file.Initialiser.{Initialiser}
use Rattle.c_types.specs.declared.ctype.Part.{Part}
use Rattle.c_types.specs.declared.derivation.Derivation.{Derivation}
use Rattle.c_tree.specs.declared.declared.Declared.{Declared}
use Rattle.c_tree.specs.declared.declared.Declared.TheVariants as declared
use Rattle.c_tree.specs.declared.stmt.Stmt.{Stmt}
use Rattle.c_expr_rules.specs.declared.found.Fault.{Fault}
use Rattle.c_expr_rules.specs.declared.found.Fault.TheVariants.{NoMemory}
use Rattle.c_expr_rules.specs.Outcomes.{State, Checked, Fine, Rule, next, by_rules, outcome_with, ◌breaks◌}
use Rattle.c_statements.specs.declared.declarations.Receiver.{Receiver}
use Rattle.c_statements.specs.declared.declaring.Heading.{Heading}
use Rattle.c_file_rules.specs.Declaring.{is_static_number, with_object, behind_declared, declared_rules, is_name_again, name_declared, is_initialised, size_breaks, given_by, given_to, initialised_name}
use Rattle.c_file_rules.specs.Filling.{kept_of}
use Rattle.c_file_rules.specs.declared.targets.Given.{Given}
use Rattle.c_file_rules.specs.Constructs.{Here}
use Rattle.c_file_rules.specs.declared.parts.Said.{Said}

-- an object behind its declarator, whose name is declared
abbrev pub object_behind : Here → (line : ℕ) → Declared → State → State
object_behind here line (declared.Object o) s = with_object here line o.number o.ty s
object_behind here line d s = s

-- the rules of a name, where these are those of a size
abbrev pub name_rules : (is_again : Bool) → List Rule → (is_bad_main : Bool) → List Rule
name_rules is_again size is_bad_main = 2 breaks is_again ∷ size ++ 33 breaks is_bad_main ∷ []

-- a rule of a type without a size, if any
abbrev pub IsOfSize : Option CRule → Type 0
IsOfSize None = Unit {0}
IsOfSize (Some rule.IncompleteType) = Unit {0}
IsOfSize (Some rule.ObjectTooLarge) = Unit {0}
IsOfSize (Some r) = ⊥

-- a declarator of this type, with its rules
abbrev pub stated_by_rules : Here → Heading → Declared → State → Part → Checked (Declared × Part)
stated_by_rules here h what s p =
    next (by_rules h.line (declared_rules here h.standing h.name (λ s p. what) s p) s p)
    (λ s p. Fine (behind_declared here h.line h.name what s) (what, p))

-- specifiers that name this base
abbrev pub said_of_heading : Heading → Part → Said
said_of_heading h base = record { storage = h.storage; ty = base; declares = false }

abbrev pub name_again : Here → Heading → Part → State → List Derivation → Bool
name_again here h base s ds =
    is_name_again here h.standing (said_of_heading h base) h.line h.is_given h.name s ds

abbrev pub name_stated : Here → Heading → Part → State → List Derivation → Checked (Declared × Part)
name_stated here h base s ds = name_declared here h.standing (said_of_heading h base) h.line h.name h.is_given s ds

abbrev pub name_initialised : Here → Heading → Part → State → List Derivation → Initialiser → Checked (List Stmt)
name_initialised here h base s ds i = initialised_name here h.standing (said_of_heading h base) h.line h.name s ds i

abbrev pub name_or_initialised : Here → Heading → Part → State → List Derivation → Option Initialiser
    → Checked (List Stmt)
name_or_initialised here h base s ds None = next (name_stated here h base s ds) (λ s d. Fine s [])
name_or_initialised here h base s ds (Some i) = name_initialised here h base s ds i

-- of what is given an object, what the code keeps
abbrev pub kept_for : Declared → Given → Given
kept_for (declared.Object o) g = kept_of (is_static_number o.number) g
kept_for d g = g

abbrev pub given_kept : Declared → Checked Given → Checked Given
given_kept what found = outcome_with (λ s g. kept_for what g) found

-- what the initialiser of a declared thing gives it, of which its items say a size; and then its statements
abbrev pub is_other_size : Receiver → Bool
is_other_size r = is_initialised r.standing r.what && not (r.items.number == r.part.number)

abbrev pub found_by : Here → Receiver → State → Initialiser → Checked Given
found_by here r s i =
    let line = (initialiser_span i).line in
    size_breaks line 2 (is_other_size r) (size_breaks line 5 r.is_too_large (given_by here r.standing r.what r.items s i))

abbrev pub with_initialiser : Here → Receiver → State → Initialiser → Checked (List Stmt)
with_initialiser here r s i = next (found_by here r s i) (λ s g. given_to r.what s g)

-- a result that only want of memory spoils
abbrev pub in_memory : {A : Type 0} → Result A AllocError → Result A Fault
in_memory (Ok x) = Ok x
in_memory (Err e) = Err NoMemory
