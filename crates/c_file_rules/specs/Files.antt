-- A whole file: its declarations and functions in their order, and then the rules of the whole (C11 6.9).
--
-- construct                     rules, the lowest first
-- the whole file, in this order 34 35 39 37 38 36
use Rattle.std.specs.Prelude.{◌≡◌, ℕ, zero, suc, ◌==◌, nat_lt, min, Bool, true, false, is_none, List, [], ◌∷◌, map, length, sum_by, codes, if◌then◌else◌, Option, Some, None}
use Rattle.std.specs.List.{filter_map}
use Rattle.std.specs.Option.{option_or}
use Rattle.std.specs.Str.{bytes_eq}
use Rattle.filc_num.specs.declared.statics.StaticDef.{StaticDef}
use Rattle.c_syntax.specs.declared.expr.Declarator.{out-Declarator}
use Rattle.c_syntax.specs.declared.file.External.{External}
use Rattle.c_syntax.specs.declared.file.External.TheVariants.{Function as Defined, Declaration as Declares, Assertion as Asserts}
use Rattle.c_syntax.specs.declared.file.File.{File}
use Rattle.c_tree.specs.declared.declared.Declared.{Declared}
use Rattle.c_tree.specs.declared.declared.Declared.TheVariants as declared
use Rattle.c_tree.specs.declared.declared.Definition.{Definition}
use Rattle.c_tree.specs.declared.declared.Definition.TheVariants as definition
use Rattle.c_tree.specs.declared.declared.ObjectNumber.{ObjectNumber}
use Rattle.c_tree.specs.declared.declared.ObjectNumber.TheVariants.{Static, Local}
use Rattle.c_tree.specs.declared.program.FunctionDef.{FunctionDef}
use Rattle.c_tree.specs.Plain.{PlainProgram}
use Rattle.c_scope.specs.Blocks.{Naming, innermost}
use Rattle.c_specifiers.specs.declared.list.Standing.TheVariants as standing
use Rattle.c_expr_rules.specs.Outcomes.{Broken, State, Checked, Fine, Breaks, Broke, next}
use Rattle.c_expr_rules.specs.Expressions.{Around}
use Rattle.c_expr_rules.specs.Contexts.{assertion_constant}
use Rattle.c_file_rules.specs.Constructs.{Here, in_order}
use Rattle.c_file_rules.specs.Naming.{with_names}
use Rattle.c_file_rules.specs.Specifiers.{no_type_named, with_named_types}
use Rattle.c_file_rules.specs.Printing.{printer_in}
use Rattle.c_file_rules.specs.Declaring.{declaration_checked}
use Rattle.filc_num.specs.declared.c_int_type.CIntType.{CIntType}
use Rattle.filc_num.specs.declared.c_int_type.CIntType.TheVariants as kind
use Rattle.c_types.specs.declared.ctype.CType.TheVariants.{Integer}
use Rattle.c_types.specs.declared.ctype.ElementCount.{ElementCount}
use Rattle.c_types.specs.declared.derivation.Derivation.TheVariants as derivation
use Rattle.c_expr_rules.specs.declared.printer.Printer.{Printer}
use Rattle.c_file_rules.specs.Types.{Table, count_of, with_type, derived, qualified}
use Rattle.c_file_rules.specs.Operations.{operation_at, bodiless_number, start_of, thread_type}
use Rattle.c_file_rules.specs.Kinds.{types_of_functions}
use Rattle.c_file_rules.specs.Statics.{PlainStatic, statics_below}
use Rattle.c_file_rules.specs.Functions.{Made, function_checked}

-- ---- the constructs of a file

abbrev pub external_checked : Here → (ℕ → List ℕ) → State → External → Checked (List Made)
external_checked here taken s (Defined f) = next (function_checked here taken s f) (λ s made. Fine s (made ∷ []))
external_checked here taken s (Declares d) = next (declaration_checked here standing.File s d) (λ s stores. Fine s [])
external_checked here taken s (Asserts a) = next (assertion_constant here.around s a.condition) (λ s t. Fine s [])

-- ---- numbers of functions: those of their bodies in order, and behind them those of functions without a body

abbrev pub body_name : External → Option ℕ
body_name (Defined f) = (out-Declarator f.declarator).name
body_name (Declares d) = None
body_name (Asserts a) = None

abbrev pub bodies_of : File → List ℕ
bodies_of file = filter_map body_name file.items

abbrev pub place_from : ℕ → ℕ → List ℕ → Option ℕ
place_from n name [] = None
place_from n name (m ∷ names) = if m == name then Some n else place_from (suc n) name names

abbrev pub number_or : ℕ → Option ℕ → ℕ
number_or other None = other
number_or other (Some n) = n

abbrev pub number_of_function : (spelling : ℕ → List ℕ) → (bodies : List ℕ) → (takes_and_gives_int : Bool)
    → (name : ℕ) → ℕ
number_of_function spelling bodies takes_and_gives_int name =
    number_or (bodiless_number (length bodies) (spelling name) takes_and_gives_int name) (place_from 0 name bodies)

-- the function with a body that is spelled so
abbrev pub body_spelled : (spelling : ℕ → List ℕ) → List ℕ → ℕ → (bodies : List ℕ) → Option ℕ
body_spelled spelling letters n [] = None
body_spelled spelling letters n (name ∷ names) =
    if bytes_eq (spelling name) letters then Some n else body_spelled spelling letters (suc n) names

-- ---- the rules of the whole file

abbrev pub least_with : ℕ → Option ℕ → Option ℕ
least_with l None = Some l
least_with l (Some m) = Some (min l m)

-- the first of the lines, which is that of what is declared first
abbrev pub first_line : List ℕ → Option ℕ
first_line [] = None
first_line (l ∷ lines) = least_with l (first_line lines)

-- the line of a function that is used and has no body, where so many have one. A call of an operation doesn't use it
abbrev pub undefined_function : (bodies : ℕ) → Declared → Option ℕ
undefined_function bodies (declared.Function f) = if nat_lt f.number bodies then None else Some f.line
undefined_function bodies _ = None

abbrev pub is_number : ℕ → ObjectNumber → Bool
is_number number (Static n) = n == number
is_number number (Local n) = false

-- how far a declaration defines the static object of this number
abbrev pub defines : ℕ → Declared → Option Definition
defines number (declared.Object o) = if is_number number o.number then Some o.definition else None
defines number _ = None

abbrev pub is_undefined : Option Definition → Bool
is_undefined (Some definition.None) = true
is_undefined _ = false

-- how far the declarations with linkage define an object in the end: the newest one says it
abbrev pub definition_of : ℕ → List Naming → Option Definition
definition_of number [] = None
definition_of number (d ∷ older) = option_or (defines number d.what) (definition_of number older)

abbrev pub line_if : Bool → ℕ → Option ℕ
line_if true line = Some line
line_if false line = None

abbrev pub undefined_static : List Naming → ℕ → ObjectNumber → Option ℕ
undefined_static linked line (Local n) = None
undefined_static linked line (Static n) = line_if (is_undefined (definition_of n linked)) line

abbrev pub undefined_object : List Naming → Declared → Option ℕ
undefined_object linked (declared.Object o) = undefined_static linked o.line o.number
undefined_object linked _ = None

abbrev pub too_many_values : Made → Option ℕ
too_many_values m = line_if (nat_lt 256 m.function.values) m.function.line

abbrev pub first_of : List ℕ → Option ℕ
first_of [] = None
first_of (l ∷ lines) = Some l

-- what a file has in the end, before the rules of the whole
pub record Whole : Type 0 where
  pub functions : List Made
  pub statics : List PlainStatic
  pub main : Option ℕ

abbrev pub functions_in : List Made → List FunctionDef
functions_in functions = map (λ (m : Made). m.function) functions

abbrev pub words_in : List PlainStatic → ℕ
words_in statics = sum_by (λ (x : PlainStatic). length x.words) statics

-- a rule of the whole, with the line where it is broken
abbrev pub at : ℕ → Option ℕ → Option Broken
at number None = None
at number (Some line) = Some (record { rule = number; line = line })

abbrev pub linked_in : State → List Naming
linked_in s = innermost s.above.names.linked

-- in this order
abbrev pub closing : State → Whole → List (Option Broken)
closing s w =
    at 34 (first_line (filter_map (undefined_function (length w.functions)) s.used)) ∷
    at 35 (first_line (filter_map (undefined_object (linked_in s)) s.used)) ∷
    at 39 (line_if (is_none w.main) 1) ∷
    at 37 (line_if (nat_lt 4000 (length w.functions)) 1) ∷
    at 38 (line_if (nat_lt 262144 (words_in w.statics)) 1) ∷
    at 36 (first_of (filter_map too_many_values w.functions)) ∷
    []

abbrev pub first_broken : List (Option Broken) → Option Broken
first_broken [] = None
first_broken (b ∷ rest) = option_or b (first_broken rest)

-- ---- what a file is

-- what tokens and names mean, by their numbers
pub record Tokens : Type 0 where
  pub number : ℕ → CIntType × ℕ
  pub character : ℕ → ℕ
  -- the bytes of the texts from one token to another
  pub text : ℕ → ℕ → List ℕ
  pub is_library : ℕ → Bool
  pub spelling : ℕ → List ℕ

-- what only the end of a file tells: of each function the locals whose address is taken, and the number of a function's type
pub record Ahead : Type 0 where
  pub taken : ℕ → List ℕ
  pub kind_of : ℕ → ℕ

abbrev pub char_array : Table → Option ElementCount → Table × ℕ
char_array table None = (table, 0)
char_array table (Some count) =
    let char = with_type table (Integer kind.Char) in
    let made = derived char.0 char.1 (derivation.Array count ∷ []) in
    (made.0, made.1.number)

-- which locals have a home is known in each function, and type names are read as deep as they nest
abbrev pub around_of : Tokens → Ahead → (bodies : List ℕ) → Option Printer → Around
around_of t ahead bodies printer =
    record {
      number = t.number;
      character = t.character;
      text = t.text;
      spelling = t.spelling;
      has_home = (λ local. false);
      kind_of = ahead.kind_of;
      intrinsic = operation_at (length bodies);
      printer = printer;
      char_array = (λ table n. char_array table (count_of n));
      qualified_array = qualified;
      named_type = no_type_named;
    }

abbrev pub here_of : Tokens → Ahead → (bodies : List ℕ) → Option Printer → Here
here_of t ahead bodies printer =
    with_named_types (record {
      around = around_of t ahead bodies printer;
      function_number = number_of_function t.spelling bodies;
      is_library = t.is_library;
    })

-- a file's begin
abbrev pub start_state : (bodies : ℕ) → State
start_state bodies =
    let start = start_of bodies in
    with_names start.1 (record {
      visible = (λ letters. None);
      table = start.0;
      contents = (λ n. None);
      next_static = 0;
      literals = [];
      used = [];
      taken = [];
      above = record { names = start.1; next_local = 0; locals = []; placed = []; filled = [] };
    })

abbrev pub whole_of : Tokens → (bodies : List ℕ) → State → List Made → Whole
whole_of t bodies s functions =
    record {
      functions = functions;
      statics = statics_below s s.next_static;
      main = body_spelled t.spelling (codes "main") 0 bodies;
    }

abbrev pub outcome_of : State → Whole → Option Broken → Checked Whole
outcome_of s w None = Fine s w
outcome_of s w (Some broken) = Broke broken

abbrev pub closed : State → Whole → Checked Whole
closed s w = outcome_of s w (first_broken (closing s w))

abbrev pub file_checked : Tokens → Ahead → File → Checked Whole
file_checked t ahead file =
    let bodies = bodies_of file in
    next (in_order (λ s x. external_checked (here_of t ahead bodies (printer_in (length bodies) s)) ahead.taken s x)
    (start_state (length bodies)) file.items)
    (λ s functions. closed s (whole_of t bodies s functions))

-- ---- a file is read twice

-- before a file is read no address is taken, and the type of a function stands for its own number
abbrev pub nothing_known : Ahead
nothing_known = record { taken = (λ function. []); kind_of = (λ ty. ty) }

abbrev pub taken_in : List Made → ℕ → List ℕ
taken_in [] n = []
taken_in (m ∷ functions) zero = m.taken
taken_in (m ∷ functions) (suc n) = taken_in functions n

abbrev pub kind_number : (types : List ℕ) → ℕ → ℕ
kind_number types ty = number_or (length types) (place_from 0 ty types)

-- what a whole file's first reading tells
abbrev pub known_at : State → List Made → Ahead
known_at s functions =
    record {
      taken = taken_in functions;
      kind_of = kind_number (types_of_functions (thread_type s.table) (functions_in functions));
    }

-- the second reading knows what the first one found
abbrev pub file_answer : Tokens → File → Checked Whole
file_answer t file =
    next (file_checked t nothing_known file) (λ s whole. file_checked t (known_at s whole.functions) file)

-- ---- the answer: a program, or the first broken rule

abbrev pub IsStatic : PlainStatic → StaticDef → Type 0
IsStatic p d =
    (d.bytes ≡ p.bytes) × ((d.literal ≡ p.literal) × ((d.words.items ≡ p.words) × (d.halves.items ≡ p.halves)))

abbrev pub AreStatics : List PlainStatic → List StaticDef → Type 0
AreStatics [] [] = Unit {0}
AreStatics (p ∷ ps) (d ∷ ds) = IsStatic p d × AreStatics ps ds
AreStatics _ _ = ⊥

pub record IsProgramOf (t : Tokens) (file : File) (program : PlainProgram) : Type 0 where
  pub end : State
  pub whole : Whole
  pub accepted : file_answer t file ≡ Fine end whole
  pub functions : program.functions ≡ functions_in whole.functions
  pub statics : AreStatics whole.statics program.statics
  pub main : whole.main ≡ Some program.main

abbrev pub Stops : {A : Type 0} → Checked A → Broken → Type 0
Stops (Fine s x) broken = ⊥
Stops (Breaks b s known) broken = b ≡ broken
Stops (Broke b) broken = b ≡ broken

abbrev pub IsRefused : Tokens → File → Broken → Type 0
IsRefused t file broken = Stops (file_answer t file) broken
