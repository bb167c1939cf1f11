-- Files as they are written, by the line of each construct's first token. Names are numbers: 100 is `main`, 101 is
-- `putchar`, and any other is a letter.
use Rattle.std.specs.Prelude.{ℕ, zero, suc, ◌+◌, List, [], ◌∷◌, map, Option, Some, None}
use Rattle.c_syntax.specs.declared.words.Storage.{Storage}
use Rattle.c_syntax.specs.declared.words.BasicType.{BasicType}
use Rattle.c_syntax.specs.declared.words.BasicType.TheVariants as basic
use Rattle.c_syntax.specs.declared.words.RecordKind.TheVariants.{Struct, Union}
use Rattle.c_syntax.specs.declared.expr.Expr.{Expr}
use Rattle.c_syntax.specs.declared.expr.Specifier.{Specifier}
use Rattle.c_syntax.specs.declared.expr.Specifiers.{Specifiers}
use Rattle.c_syntax.specs.declared.expr.SpecifierKind.{SpecifierKind}
use Rattle.c_syntax.specs.declared.expr.SpecifierKind.TheVariants as k
use Rattle.c_syntax.specs.declared.expr.Member.{Member}
use Rattle.c_syntax.specs.declared.expr.Member.TheVariants as m
use Rattle.c_syntax.specs.declared.expr.Assertion.{Assertion, roll-Assertion}
use Rattle.c_syntax.specs.declared.expr.EnumConstant.{EnumConstant}
use Rattle.c_syntax.specs.declared.expr.Declarator.{Declarator}
use Rattle.c_syntax.specs.declared.expr.Core.TheVariants as core
use Rattle.c_syntax.specs.declared.expr.Suffix.{Suffix}
use Rattle.c_syntax.specs.declared.expr.SuffixKind.TheVariants as suffix
use Rattle.c_syntax.specs.declared.expr.Parameter.{Parameter}
use Rattle.c_syntax.specs.declared.file.Initialiser.TheVariants as i
use Rattle.c_syntax.specs.declared.file.InitDeclarator.{InitDeclarator}
use Rattle.c_syntax.specs.declared.file.Declaration.{Declaration}
use Rattle.c_syntax.specs.declared.file.Block.{Block}
use Rattle.c_syntax.specs.declared.file.BlockItem.{BlockItem}
use Rattle.c_syntax.specs.declared.file.BlockItem.TheVariants as item
use Rattle.c_syntax.specs.declared.file.Statement.{Statement}
use Rattle.c_syntax.specs.declared.file.StatementKind.{StatementKind}
use Rattle.c_syntax.specs.declared.file.StatementKind.TheVariants as s
use Rattle.c_syntax.specs.declared.file.ForStart.TheVariants as start
use Rattle.c_syntax.specs.declared.file.SwitchItem.{SwitchItem}
use Rattle.c_syntax.specs.declared.file.SwitchItem.TheVariants as switch
use Rattle.c_syntax.specs.declared.file.External.{External}
use Rattle.c_syntax.specs.declared.file.External.TheVariants as e
use Rattle.c_syntax.specs.Values.{specifier_of, specifiers_of, constant_of, pointer_of, name_core, declarator_of, suffix_of, parameter_of, member_of}
use Rattle.c_syntax.specs.Files.{statement_of, block_of}
use Rattle.c_expr_rules.proofs.WrittenExpressions.{at, number}

-- ---- specifiers

abbrev pub spec : ℕ → SpecifierKind → Specifier
spec line x = specifier_of (at line 0 0, x)

abbrev pub specs : (line : ℕ) → SpecifierKind → List SpecifierKind → Specifiers
specs line x xs = specifiers_of (at line 0 0, (spec line x, map (spec line) xs))

abbrev pub basic_type : ℕ → BasicType → Specifiers
basic_type line w = specs line (k.Basic w) []

abbrev pub int_at : ℕ → Specifiers
int_at line = basic_type line basic.Int

abbrev pub char_at : ℕ → Specifiers
char_at line = basic_type line basic.Char

abbrev pub void_at : ℕ → Specifiers
void_at line = basic_type line basic.Void

-- `int` behind a storage class
abbrev pub stored : ℕ → Storage → Specifiers
stored line w = specs line (k.Storage w) (k.Basic basic.Int ∷ [])

abbrev pub struct_tag : ℕ → SpecifierKind
struct_tag name = k.Record Struct (Some name) None

abbrev pub union_tag : ℕ → SpecifierKind
union_tag name = k.Record Union (Some name) None

abbrev pub struct_of : ℕ → List Member → SpecifierKind
struct_of name members = k.Record Struct (Some name) (Some members)

abbrev pub nameless_struct : List Member → SpecifierKind
nameless_struct members = k.Record Struct None (Some members)

abbrev pub union_of : ℕ → List Member → SpecifierKind
union_of name members = k.Record Union (Some name) (Some members)

abbrev pub enum_of : List EnumConstant → SpecifierKind
enum_of constants = k.Enum None (Some constants)

abbrev pub constant_at : (line name : ℕ) → EnumConstant
constant_at line name = constant_of (at line 0 0, (name, None))

abbrev pub constant_is : (line name : ℕ) → Expr → EnumConstant
constant_is line name x = constant_of (at line 0 0, (name, Some x))

-- ---- declarators

abbrev pub declarator_with : (line name : ℕ) → List Suffix → Declarator
declarator_with line name suffixes = declarator_of (at line 0 0, ([], (name_core (at line 0 0, name), suffixes)))

abbrev pub plain : (line name : ℕ) → Declarator
plain line name = declarator_with line name []

abbrev pub pointer_to : (line name : ℕ) → Declarator
pointer_to line name =
    declarator_of (at line 0 0, (pointer_of (at line 0 0, (tt, [])) ∷ [], (name_core (at line 0 0, name), [])))

abbrev pub array_suffix : ℕ → Option Expr → Suffix
array_suffix line size = suffix_of (at line 0 0, suffix.Array size)

abbrev pub array : (line name : ℕ) → Expr → Declarator
array line name size = declarator_with line name (array_suffix line (Some size) ∷ [])

abbrev pub open_array : (line name : ℕ) → Declarator
open_array line name = declarator_with line name (array_suffix line None ∷ [])

abbrev pub function_suffix : ℕ → List Parameter → Suffix
function_suffix line parameters = suffix_of (at line 0 0, suffix.Function parameters [])

abbrev pub takes : (line name : ℕ) → List Parameter → Declarator
takes line name parameters = declarator_with line name (function_suffix line parameters ∷ [])

abbrev pub parameter : ℕ → Specifiers → Declarator → Parameter
parameter line x d = parameter_of (at line 0 0, (x, d))

abbrev pub member : ℕ → Specifiers → Declarator → Member
member line x d = member_of (at line 0 0, (x, (d ∷ [], tt)))

abbrev pub int_member : (line name : ℕ) → Member
int_member line name = member line (int_at line) (plain line name)

-- a parameter's declarator without a name
abbrev pub nameless : ℕ → Declarator
nameless line = declarator_of (at line 0 0, ([], (core.Nothing, [])))

-- a pointer to a function of one int
abbrev pub function_pointer : (line name : ℕ) → Declarator
function_pointer line name =
    declarator_of (
      at line 0 0,
      (
        [],
        (
          core.Parens (pointer_to line name),
          function_suffix line
              (parameter line (int_at line) (nameless line) ∷ []) ∷ [],
        ),
      ),
    )

-- ---- declarations

abbrev pub bare : Declarator → InitDeclarator
bare d = record { span = at 1 0 0; declarator = d; initialiser = None }

abbrev pub with_value : Declarator → Expr → InitDeclarator
with_value d x = record { span = at 1 0 0; declarator = d; initialiser = Some (i.Expression x) }

abbrev pub with_list : (line : ℕ) → Declarator → List Expr → InitDeclarator
with_list line d xs =
    record { span = at 1 0 0; declarator = d; initialiser = Some (i.List (at line 0 0) (map i.Expression xs)) }

abbrev pub declaration : Specifiers → List InitDeclarator → Declaration
declaration x ds = record { span = at 1 0 0; specifiers = x; declarators = ds }

abbrev pub declares : Specifiers → List InitDeclarator → External
declares x ds = e.Declaration (declaration x ds)

abbrev pub declares_one : Specifiers → Declarator → External
declares_one x d = declares x (bare d ∷ [])

abbrev pub assertion : Expr → Assertion
assertion x = roll-Assertion (record { span = at 1 0 0; condition = x; text = at 1 0 0 })

-- ---- statements

abbrev pub statement : ℕ → StatementKind → Statement
statement line x = statement_of (at line 0 0, x)

abbrev pub does : ℕ → StatementKind → BlockItem
does line x = item.Statement (statement line x)

abbrev pub here : Specifiers → List InitDeclarator → BlockItem
here x ds = item.Declaration (declaration x ds)

abbrev pub value : Expr → BlockItem
value x = does x.span.line (s.Expression x)

abbrev pub switch_on : (line : ℕ) → Expr → List SwitchItem → BlockItem
switch_on line x items = does line (s.Switch x items)

abbrev pub case_of : ℕ → Expr → SwitchItem
case_of line x = switch.Case (at line 0 0) x

abbrev pub default : ℕ → SwitchItem
default line = switch.Default (at line 0 0)

abbrev pub switch_does : ℕ → StatementKind → SwitchItem
switch_does line x = switch.Statement (statement line x)

-- a `for` with this declaration, and nothing else
abbrev pub for_with : Declaration → StatementKind
for_with d = s.For (start.Declaration d) None None (statement 1 s.Empty)

-- ---- functions

abbrev pub body : List BlockItem → Block
body items = block_of (at 1 0 0, items)

abbrev pub function_at : ℕ → Specifiers → Declarator → List BlockItem → External
function_at line x d items =
    e.Function (record { span = at line 0 0; specifiers = x; declarator = d; body = body items })

-- `void f(void)` with so much in its body, where f is name 50; a list without parameters is from nothing
abbrev pub in_f : List BlockItem → External
in_f items = function_at 1 (void_at 1) (takes 1 50 []) items

abbrev pub main_function : External
main_function = function_at 1 (int_at 1) (takes 1 100 []) (does 1 (s.Return (Some (number 1 0))) ∷ [])

-- a member list's assertion
abbrev pub asserting : Expr → Member
asserting x = m.Asserts (assertion x)

-- so many objects of type int in a block, by names of their own
abbrev pub locals_from : ℕ → List BlockItem
locals_from zero = []
locals_from (suc n) = here (int_at 1) (bare (plain 1 (1000 + n)) ∷ []) ∷ locals_from n
