-- Small files whose answers were worked out by hand, which the checker computes. Each has a `main` behind it, but where
-- a row says so.
use Rattle.std.proofs.Common.{◌≡◌, ℕ, false, List, [], ◌∷◌, replicate, refl}
use Rattle.std.specs.Prelude.{◌==◌, ◌++◌, map, codes, if◌then◌else◌, Option, Some, None}
use Rattle.std.specs.List.{fold}
use Rattle.filc_num.specs.declared.c_int_type.CIntType.TheVariants as kind
use Rattle.c_syntax.specs.declared.expr.SpecifierKind.TheVariants as k
use Rattle.c_syntax.specs.declared.words.BasicType.TheVariants as basic
use Rattle.c_syntax.specs.declared.words.Qualifier.TheVariants as q
use Rattle.c_syntax.specs.declared.words.Prefix.TheVariants as p
use Rattle.c_syntax.specs.declared.words.Storage.TheVariants as w
use Rattle.c_syntax.specs.declared.words.RecordKind.TheVariants.{Struct}
use Rattle.c_syntax.specs.declared.file.External.{External}
use Rattle.c_syntax.specs.declared.file.External.TheVariants as e
use Rattle.c_syntax.specs.declared.file.StatementKind.TheVariants as s
use Rattle.c_syntax.specs.declared.expr.TypeName.{TypeName'}
use Rattle.c_expr_rules.specs.Outcomes.{Checked, Fine, Breaks, Broke}
use Rattle.c_expr_rules.proofs.WrittenExpressions.{at, name, number, text, parens, before, after, called, called_with, pair, divide, add, equal, size_of, size_of_type}
use denote.Hole.Carrier.{out, roll, hidden, shown}
use native.Mathlib.Decide.{ℕ_discrete, dec_le}
use Rattle.c_syntax.specs.declared.expr.Core.TheViews.{roll-Specifiers, out-Specifiers, roll-Declarator, out-Declarator, roll-EnumConstant, roll-Parameter}
use Rattle.c_syntax.specs.declared.expr.Core.TheBlock.{hidden-the_row-Declarator-0, hidden-the_row-Specifier-11, shown-the_row-Specifier-11}
use Rattle.c_syntax.specs.declared.file.BlockItem.TheBlock.{hidden-the_row-SwitchItem-2}
use Rattle.c_syntax.specs.declared.file.Initialiser.TheBlock.{hidden-the_row-Initialiser-0}
use Rattle.c_tree.specs.declared.expr.Expr.TheBlock.{hidden-the_row-Expr-0, hidden-the_row-Expr-1, hidden-the_row-Link-2}
use Rattle.c_tree.specs.declared.stmt.Stmt.TheBlock.{hidden-the_row-Stmt-0, hidden-the_row-Stmt-1}
use Rattle.filc_num.specs.Integers.{convert_of, binary_of}
use Rattle.c_types.specs.Derivations.{lowest_rule}
use Rattle.c_types.specs.Layouts.{layout_of, placements_of}
use Rattle.c_specifiers.specs.Lists.{named_type}
use Rattle.c_specifiers.specs.Specifiers.{same_words}
use Rattle.c_specifiers.specs.QualifierSets.{with_qualifiers}
use Rattle.c_declarators.specs.Parameters.{lowest_rule as lowest_parameter_rule}
use Rattle.c_tree.specs.declared.stmt.Stmt.{Stmt}
use Rattle.filc_num.specs.declared.integer.IntType.TheVariants.{I32}
use Rattle.filc_num.specs.declared.statics.StaticHalf.TheVariants as half
use Rattle.c_syntax.specs.declared.expr.PostfixKind.{Member}
use Rattle.c_tree.specs.declared.operation.Operation.TheVariants as op
use Rattle.c_tree.specs.declared.operation.Access.TheVariants as access
use Rattle.c_tree.specs.declared.stmt.Stmt.TheVariants as stmt
use Rattle.c_tree.specs.declared.stmt.LocalKind.TheVariants as local
use Rattle.c_expr_rules.specs.TypedExpressions.{tree_of, with_operation, leaf}
use Rattle.c_file_rules.specs.Statements.{set_local, local_as}
use Rattle.c_file_rules.specs.Statics.{PlainStatic}
use Rattle.c_file_rules.specs.Functions.{Made}
use Rattle.c_file_rules.specs.Kinds.{kinds_in, with_kind}
use Rattle.c_file_rules.specs.Files.{Tokens, Ahead, Whole, start_state, closed, functions_in, file_checked, nothing_known, known_at}
use Rattle.c_file_rules.proofs.WrittenFiles.{specs, int_at, char_at, void_at, stored, struct_tag, union_tag, struct_of, nameless_struct, union_of, enum_of, constant_at, constant_is, plain, pointer_to, array, open_array, takes, parameter, member, int_member, bare, with_value, with_list, declares, declares_one, assertion, does, here, value, switch_on, switch_does, case_of, default, function_at, in_f, main_function, nameless, asserting, declaration, for_with, locals_from, function_pointer}

data Seen : Type 0 where
  Accepted : Seen
  Refused : (rule line : ℕ) → Seen

abbrev seen_of : Checked Whole → Seen
seen_of (Fine s w) = Accepted
seen_of (Breaks broken s known) = Refused broken.rule broken.line
seen_of (Broke broken) = Refused broken.rule broken.line

-- token 1 is the text "abc", and token 2 is "ab"
abbrev texts : ℕ → List ℕ
texts n = if n == 1 then codes "abc" else codes "ab"

abbrev spelled : ℕ → List ℕ
spelled n = if n == 100 then codes "main" else (if n == 101 then codes "putchar" else (if n == 102 then codes "__filc_printf" else (if n == 103 then codes "__filc_free" else n ∷ [])))

abbrev tokens : Tokens
tokens =
    record {
      number = (λ n. (kind.Int, n));
      character = (λ n. n);
      text = (λ first last. texts first);
      is_library = (λ n. false);
      spelling = spelled;
    }

unfoldable checked_file : List External → Checked Whole
unfolding roll out hidden shown roll-Specifiers out-Specifiers roll-Declarator out-Declarator roll-EnumConstant roll-Parameter hidden-the_row-Declarator-0 hidden-the_row-Specifier-11 shown-the_row-Specifier-11 hidden-the_row-SwitchItem-2 hidden-the_row-Initialiser-0 hidden-the_row-Expr-0 hidden-the_row-Expr-1 hidden-the_row-Link-2 hidden-the_row-Stmt-0 hidden-the_row-Stmt-1 dec_le ℕ_discrete convert_of binary_of lowest_rule layout_of placements_of named_type same_words with_qualifiers lowest_parameter_rule
checked_file xs = file_checked tokens nothing_known (record { items = xs })

-- a file without `main` behind it, and one with it
abbrev alone : List External → Seen
alone xs = seen_of (checked_file xs)

abbrev seen : List External → Seen
seen xs = alone (xs ++ main_function ∷ [])

abbrev statics_in : Checked Whole → List PlainStatic
statics_in (Fine s w) = w.statics
statics_in (Breaks broken s known) = []
statics_in (Broke broken) = []

abbrev bodies_in : Checked Whole → List Stmt
bodies_in (Fine s w) = map (λ (m : Made). m.function.body) w.functions
bodies_in (Breaks broken s known) = []
bodies_in (Broke broken) = []

abbrev first_words : List PlainStatic → List ℕ
first_words [] = []
first_words (x ∷ rest) = x.words

-- the words of a file's first static
abbrev words_of : List External → List ℕ
words_of xs = first_words (statics_in (checked_file xs))

-- ---- rule 2: declared again

constant_then_object : seen (declares (specs 1 (enum_of (constant_at 1 1 ∷ [])) []) [] ∷
    declares_one (int_at 2) (plain 2 1) ∷ []) ≡ Refused 2 2
unfolding checked_file
constant_then_object = refl

tentative_definitions : seen (declares_one (stored 1 w.Extern) (plain 1 1) ∷
    declares_one (int_at 1) (plain 1 1) ∷ declares_one (int_at 1) (plain 1 1) ∷ []) ≡ Accepted
unfolding checked_file
tentative_definitions = refl

two_initialisers : seen (declares (int_at 1) (with_value (plain 1 1) (number 1 1) ∷ []) ∷
    declares (int_at 2) (with_value (plain 2 1) (number 2 1) ∷ []) ∷ []) ≡ Refused 2 2
unfolding checked_file
two_initialisers = refl

linkage_differs : seen (declares_one (int_at 1) (plain 1 1) ∷ declares_one (stored 2 w.Static) (plain 2 1) ∷
    []) ≡ Refused 2 2
unfolding checked_file
linkage_differs = refl

functions_of_two_types : seen (declares_one (int_at 1) (takes 1 51 []) ∷
    declares_one (char_at 2) (takes 2 51 []) ∷ []) ≡ Refused 2 2
unfolding checked_file
functions_of_two_types = refl

-- no type makes these equal, though none can be made
typedef_and_array_without_type : seen (declares_one (stored 1 w.Typedef) (plain 1 9) ∷
    declares_one (int_at 2) (array 2 9 (number 2 0)) ∷ []) ≡ Refused 2 2
unfolding checked_file
typedef_and_array_without_type = refl

object_and_typedef_without_type : seen (declares_one (int_at 1) (plain 1 1) ∷
    declares_one (stored 2 w.Typedef) (array 2 1 (number 2 0)) ∷ []) ≡ Refused 2 2
unfolding checked_file
object_and_typedef_without_type = refl

function_and_array_without_type : seen (declares_one (int_at 1) (takes 1 51 []) ∷
    declares_one (int_at 2) (array 2 51 (number 2 0)) ∷ []) ≡ Refused 2 2
unfolding checked_file
function_and_array_without_type = refl

other_linkage_without_type : seen (declares_one (stored 1 w.Static) (array 1 1 (number 1 2)) ∷
    declares_one (int_at 2) (array 2 1 (number 2 0)) ∷ []) ≡ Refused 2 2
unfolding checked_file
other_linkage_without_type = refl

same_linkage_without_type : seen (declares_one (int_at 1) (array 1 1 (number 1 3)) ∷
    declares_one (stored 2 w.Extern) (open_array 2 1) ∷ []) ≡ Refused 6 2
unfolding checked_file
same_linkage_without_type = refl

two_bodies : seen (in_f [] ∷ in_f [] ∷ []) ≡ Refused 2 1
unfolding checked_file
two_bodies = refl

empty_list_is_from_nothing : seen (declares_one (int_at 1) (takes 1 51 []) ∷
    declares_one (int_at 1) (takes 1 51 (parameter 1 (void_at 1) (nameless 1) ∷ [])) ∷ []) ≡ Accepted
unfolding checked_file
empty_list_is_from_nothing = refl

local_then_extern : seen (in_f (here (int_at 1) (bare (plain 1 1) ∷ []) ∷
    here (stored 2 w.Extern) (bare (plain 2 1) ∷ []) ∷ []) ∷ []) ≡ Refused 2 2
unfolding checked_file
local_then_extern = refl

extern_long_then_int : seen (in_f (here (specs 1 (k.Storage w.Extern) (k.Basic basic.Long ∷
    [])) (bare (plain 1 1) ∷ []) ∷ []) ∷ declares_one (int_at 2) (plain 2 1) ∷ []) ≡ Refused 2 2
unfolding checked_file
extern_long_then_int = refl

parameter_and_local : seen (function_at 1 (int_at 1) (takes 1 51 (parameter 1 (int_at 1) (plain 1 1) ∷
    [])) (here (int_at 2) (bare (plain 2 1) ∷ []) ∷ []) ∷ []) ≡ Refused 2 2
unfolding checked_file
parameter_and_local = refl

typedef_twice : seen (declares_one (stored 1 w.Typedef) (plain 1 9) ∷
    declares_one (stored 1 w.Typedef) (plain 1 9) ∷ []) ≡ Accepted
unfolding checked_file
typedef_twice = refl

tag_listed_twice : seen (declares (specs 1 (struct_of 20 (int_member 1 1 ∷ [])) []) [] ∷
    declares (specs 2 (union_of 20 (int_member 2 1 ∷ [])) []) [] ∷ []) ≡ Refused 2 2
unfolding checked_file
tag_listed_twice = refl

tag_within_its_list : seen (declares (specs 1 (struct_of 20 (member 1 (specs 1 (struct_of 20 (int_member 1 1 ∷
    [])) []) (plain 1 2) ∷ [])) []) [] ∷ []) ≡ Refused 2 1
unfolding checked_file
tag_within_its_list = refl

constant_without_value_again : seen (declares (specs 1 (enum_of (constant_at 1 1 ∷ constant_at 2 1 ∷
    constant_is 2 2 (pair 2 (number 2 1) divide (number 2 0)) ∷ [])) []) [] ∷ []) ≡ Refused 2 2
unfolding checked_file
constant_without_value_again = refl

constant_with_value_again : seen (declares (specs 1 (enum_of (constant_at 1 1 ∷ constant_is 2 1 (number 2 1) ∷
    constant_is 2 2 (pair 2 (number 2 1) divide (number 2 0)) ∷ [])) []) [] ∷ []) ≡ Refused 10 2
unfolding checked_file
constant_with_value_again = refl

another_size_by_an_initialiser : seen (declares_one (int_at 1) (array 1 1 (number 1 3)) ∷
    declares (int_at 1) (with_list 2 (open_array 1 1) (number 2 1 ∷ []) ∷ []) ∷ []) ≡ Refused 2 2
unfolding checked_file
another_size_by_an_initialiser = refl

item_before_the_size : seen (declares_one (int_at 1) (array 1 1 (number 1 3)) ∷
    declares (int_at 1) (with_list 2 (open_array 1 1) (name 3 9 ∷ []) ∷ []) ∷ []) ≡ Refused 1 3
unfolding checked_file
item_before_the_size = refl

same_size_by_an_initialiser : seen (declares_one (int_at 1) (array 1 1 (number 1 1)) ∷
    declares (int_at 1) (with_list 2 (open_array 1 1) (number 2 1 ∷ []) ∷ []) ∷ []) ≡ Accepted
unfolding checked_file
same_size_by_an_initialiser = refl

expression_that_says_no_size : seen (declares_one (int_at 1) (array 1 1 (number 1 3)) ∷
    declares (int_at 2) (with_value (open_array 2 1) (number 3 1) ∷ []) ∷ []) ≡ Refused 11 3
unfolding checked_file
expression_that_says_no_size = refl

initialiser_that_may_not_stand : seen (declares_one (int_at 1) (array 1 1 (number 1 3)) ∷
    in_f (here (stored 2 w.Extern) (with_list 3 (open_array 2 1) (number 3 1 ∷ []) ∷ []) ∷ []) ∷ []) ≡ Refused 11 3
unfolding checked_file
initialiser_that_may_not_stand = refl

-- `struct s{char c[131072];}x;`, and in a block `struct s a[]={x, ..};`
abbrev two_large : (second : ℕ) → List External
two_large second =
    declares (specs 1 (struct_of 20 (member 1 (char_at 1) (array 1 1 (number 1 131072)) ∷ [])) [])
    (bare (plain 1 2) ∷ []) ∷
    in_f (here (specs 2 (struct_tag 20) []) (with_list 3 (open_array 2 1) (name 3 2 ∷ name 4 second ∷ []) ∷ []) ∷ []) ∷ []

too_large_by_an_initialiser : seen (two_large 2) ≡ Refused 5 3
unfolding checked_file
too_large_by_an_initialiser = refl

item_before_too_large : seen (two_large 3) ≡ Refused 1 4
unfolding checked_file
item_before_too_large = refl

-- otherwise than in C11, an array has the size that its initialiser says in the initialiser too
size_in_its_own_initialiser : seen (in_f (here (int_at 1) (with_list 1 (open_array 1 1) (size_of 1 (name 1 1) ∷ []) ∷ []) ∷ []) ∷ []) ≡ Accepted
unfolding checked_file
size_in_its_own_initialiser = refl

body_and_initialiser : seen (in_f [] ∷ declares (void_at 2) (with_value (takes 2 50 []) (number 3 1) ∷ []) ∷ []) ≡ Refused 2 2
unfolding checked_file
body_and_initialiser = refl

-- ---- rule 3: specifiers

qualifier_alone : seen (declares (specs 1 (k.Qualifier q.Const) []) [] ∷ []) ≡ Refused 3 1
unfolding checked_file
qualifier_alone = refl

two_storage_words : seen (declares_one (specs 1 (k.Storage w.Static) (k.Storage w.Extern ∷ k.Basic basic.Int ∷
    [])) (plain 1 1) ∷ []) ≡ Refused 3 1
unfolding checked_file
two_storage_words = refl

auto_in_a_file : seen (declares_one (stored 1 w.Auto) (plain 1 1) ∷ []) ≡ Refused 3 1
unfolding checked_file
auto_in_a_file = refl

static_function_in_a_block : seen (in_f (here (stored 1 w.Static) (bare (takes 1 51 []) ∷ []) ∷ []) ∷
    []) ≡ Refused 3 1
unfolding checked_file
static_function_in_a_block = refl

extern_parameter : seen (declares_one (int_at 1) (takes 1 51 (parameter 1 (stored 1 w.Extern) (plain 1 1) ∷
    [])) ∷ []) ≡ Refused 3 1
unfolding checked_file
extern_parameter = refl

register_parameter : seen (declares_one (int_at 1) (takes 1 51 (parameter 1 (stored 1 w.Register) (plain 1 1) ∷
    [])) ∷ []) ≡ Accepted
unfolding checked_file
register_parameter = refl

short_long : seen (declares_one (specs 1 (k.Basic basic.Short) (k.Basic basic.Long ∷ [])) (plain 1 1) ∷
    []) ≡ Refused 3 1
unfolding checked_file
short_long = refl

static_function_before_its_parameters : seen (in_f (here (stored 1 w.Static) (bare (takes 2 51 (parameter 2 (int_at 2) (array 2 1 (number 2 0)) ∷
    [])) ∷ []) ∷ []) ∷ []) ≡ Refused 3 1
unfolding checked_file
static_function_before_its_parameters = refl

static_pointer_in_a_block : seen (in_f (here (stored 1 w.Static) (bare (pointer_to 1 1) ∷ []) ∷ []) ∷ []) ≡ Accepted
unfolding checked_file
static_pointer_in_a_block = refl

function_in_a_for : seen (in_f (does 1 (for_with (declaration (int_at 2) (bare (takes 2 51 []) ∷ []))) ∷ []) ∷ []) ≡ Refused 3 2
unfolding checked_file
function_in_a_for = refl

object_in_a_for : seen (in_f (does 1 (for_with (declaration (int_at 2) (bare (plain 2 1) ∷ []))) ∷ []) ∷ []) ≡ Accepted
unfolding checked_file
object_in_a_for = refl

-- ---- rules 4, 5, 6 and 7: types

void_object : seen (declares_one (void_at 1) (plain 1 1) ∷ []) ≡ Refused 4 1
unfolding checked_file
void_object = refl

incomplete_static : seen (declares_one (specs 1 (k.Storage w.Static) (struct_tag 20 ∷ [])) (plain 1 1) ∷
    declares (specs 1 (struct_of 20 (int_member 1 1 ∷ [])) []) [] ∷ []) ≡ Refused 4 1
unfolding checked_file
incomplete_static = refl

void_parameter_with_a_name : seen (declares_one (void_at 1) (takes 1 51 (parameter 1 (void_at 1) (plain 2 1) ∷
    [])) ∷ []) ≡ Refused 4 2
unfolding checked_file
void_parameter_with_a_name = refl

too_large : seen (declares_one (char_at 1) (array 1 1 (number 1 131073)) ∷ []) ≡ Refused 5 1
unfolding checked_file
too_large = refl

large_structure : seen (declares (specs 1 (struct_of 20 (member 2 (char_at 2) (array 2 1 (number 2 131072)) ∷
    int_member 3 2 ∷ [])) []) [] ∷ []) ≡ Refused 5 1
unfolding checked_file
large_structure = refl

no_size : seen (declares_one (int_at 1) (open_array 1 1) ∷ []) ≡ Refused 6 1
unfolding checked_file
no_size = refl

size_of_zero : seen (declares_one (int_at 1) (array 1 1 (number 1 0)) ∷ []) ≡ Refused 6 1
unfolding checked_file
size_of_zero = refl

size_that_is_no_constant : seen (declares_one (int_at 1) (plain 1 2) ∷
    declares_one (int_at 1) (array 2 1 (name 2 2)) ∷ []) ≡ Refused 6 2
unfolding checked_file
size_that_is_no_constant = refl

size_with_a_fault : seen (declares_one (int_at 1) (array 1 1 (pair 2 (number 2 1) divide (number 2 0))) ∷
    []) ≡ Refused 10 2
unfolding checked_file
size_with_a_fault = refl

open_parameter : seen (declares_one (int_at 1) (takes 1 51 (parameter 1 (int_at 1) (open_array 1 1) ∷ [])) ∷
    []) ≡ Accepted
unfolding checked_file
open_parameter = refl

structure_result : seen (declares_one (specs 1 (struct_of 20 (int_member 1 1 ∷ [])) []) (takes 1 51 []) ∷
    []) ≡ Refused 7 1
unfolding checked_file
structure_result = refl

body_of_a_void_object : seen (function_at 1 (void_at 1) (plain 1 51) [] ∷ []) ≡ Refused 4 1
unfolding checked_file
body_of_a_void_object = refl

structure_parameter : seen (declares (specs 1 (struct_of 20 (int_member 1 1 ∷ [])) []) [] ∷
    declares_one (int_at 1) (takes 2 51 (parameter 3 (specs 3 (struct_tag 20) []) (plain 3 1) ∷ [])) ∷
    []) ≡ Refused 7 2
unfolding checked_file
structure_parameter = refl

body_of_no_function : seen (function_at 1 (int_at 1) (plain 1 51) [] ∷ []) ≡ Refused 7 1
unfolding checked_file
body_of_no_function = refl

-- ---- rules 8, 31 and 40: members and tags

function_member : seen (declares (specs 1 (struct_of 20 (member 1 (int_at 1) (takes 2 1 []) ∷ [])) []) [] ∷
    []) ≡ Refused 8 2
unfolding checked_file
function_member = refl

member_twice : seen (declares (specs 1 (struct_of 20 (int_member 1 1 ∷ int_member 2 1 ∷ [])) []) [] ∷
    []) ≡ Refused 8 2
unfolding checked_file
member_twice = refl

assertions_alone : seen (declares (specs 1 (struct_of 20 (asserting (number 2 1) ∷ [])) []) [] ∷ []) ≡ Refused 8 1
unfolding checked_file
assertions_alone = refl

another_kind_of_tag : seen (declares (specs 1 (struct_tag 20) []) [] ∷
    declares_one (specs 2 (union_tag 20) []) (pointer_to 2 1) ∷ []) ≡ Refused 31 2
unfolding checked_file
another_kind_of_tag = refl

enumeration_without_names : seen (declares (specs 1 (k.Enum (Some 20) None) []) [] ∷ []) ≡ Refused 31 1
unfolding checked_file
enumeration_without_names = refl

tag_alone : seen (declares (specs 1 (struct_tag 20) []) [] ∷ []) ≡ Accepted
unfolding checked_file
tag_alone = refl

structure_alone : seen (declares (specs 1
    (k.Record Struct None (Some (int_member 1 1 ∷
    []))) []) [] ∷ []) ≡ Refused 40 1
unfolding checked_file
structure_alone = refl

-- `struct{int a[sizeof(enum{A})];};`
constant_in_a_size : seen (declares (specs 1 (nameless_struct (member 1 (int_at 1)
    (array 1 1 (size_of_type 1 (TypeName' (at 1 0 0) (specs 1 (enum_of (constant_at 1 1 ∷ [])) []) (nameless 1)))) ∷ [])) []) [] ∷
    declares_one (int_at 2) (plain 2 1) ∷ []) ≡ Refused 2 2
unfolding checked_file
constant_in_a_size = refl

nothing_in_a_block : seen (in_f (here (int_at 2) [] ∷ []) ∷ []) ≡ Refused 40 2
unfolding checked_file
nothing_in_a_block = refl

unknown_member : seen (declares (specs 1 (struct_of 20 (int_member 1 1 ∷ [])) []) (bare (plain 1 2) ∷ []) ∷
    in_f (value (after 2 (name 2 2) (Member 3)) ∷ []) ∷ []) ≡ Refused 9 2
unfolding checked_file
unknown_member = refl

-- ---- rules 10 and 32: constants

zero_divisor : seen (declares (specs 1 (enum_of (constant_is 1 1 (pair 2 (number 2 1) divide (number 2 0)) ∷
    [])) []) [] ∷ []) ≡ Refused 10 2
unfolding checked_file
zero_divisor = refl

behind_the_greatest_int : seen (declares (specs 1 (enum_of (constant_is 1 1 (number 1 2147483647) ∷
    constant_at 2 2 ∷ [])) []) [] ∷ []) ≡ Refused 10 2
unfolding checked_file
behind_the_greatest_int = refl

false_assertion : seen (e.Assertion (assertion (number 2 0)) ∷ []) ≡ Refused 32 2
unfolding checked_file
false_assertion = refl

true_assertion : seen (e.Assertion (assertion (number 1 1)) ∷ []) ≡ Accepted
unfolding checked_file
true_assertion = refl

-- ---- rule 11: initialisers

braces_round_a_scalar : seen (declares (int_at 1) (with_list 2 (plain 1 1) (number 2 1 ∷ []) ∷ []) ∷
    []) ≡ Refused 11 2
unfolding checked_file
braces_round_a_scalar = refl

too_many_items : seen (declares (int_at 1) (with_list 1 (array 1 1 (number 1 1)) (number 1 1 ∷ number 2 2 ∷ []) ∷
    []) ∷ []) ≡ Refused 11 1
unfolding checked_file
too_many_items = refl

unknown_name_without_a_place : seen (declares (int_at 1) (with_list 1 (array 1 1 (number 1 1)) (number 1 1 ∷
    name 2 9 ∷ []) ∷ []) ∷ []) ≡ Refused 1 2
unfolding checked_file
unknown_name_without_a_place = refl

array_without_braces : seen (declares (int_at 1) (with_value (array 1 1 (number 1 2)) (number 1 1) ∷ []) ∷
    []) ≡ Refused 11 1
unfolding checked_file
array_without_braces = refl

text_that_fits_but_for_its_zero : seen (declares (char_at 1) (with_value (array 1 1 (number 1 3)) (text 1 1) ∷
    []) ∷ []) ≡ Accepted
unfolding checked_file
text_that_fits_but_for_its_zero = refl

text_that_is_too_long : seen (declares (char_at 1) (with_value (array 1 1 (number 1 2)) (text 1 1) ∷ []) ∷
    []) ≡ Refused 11 1
unfolding checked_file
text_that_is_too_long = refl

text_for_atomic_characters : seen (declares (specs 1 (k.Qualifier q.Atomic) (k.Basic basic.Char ∷ []))
    (with_value (open_array 1 1) (text 1 1) ∷ []) ∷ []) ≡ Accepted
unfolding checked_file
text_for_atomic_characters = refl

text_says_the_size : seen (declares (char_at 1) (with_value (open_array 1 1) (text 1 1) ∷ []) ∷ []) ≡ Accepted
unfolding checked_file
text_says_the_size = refl

static_from_an_object : seen (declares (int_at 1) (with_value (plain 1 2) (number 1 3) ∷ []) ∷
    declares (int_at 1) (with_value (plain 1 1) (name 2 2) ∷ []) ∷ []) ≡ Refused 11 2
unfolding checked_file
static_from_an_object = refl

address_is_constant : seen (declares_one (int_at 1) (plain 1 2) ∷
    declares (int_at 1) (with_value (pointer_to 1 1) (before 1 p.AddressOf (name 1 2)) ∷ []) ∷ []) ≡ Accepted
unfolding checked_file
address_is_constant = refl

function_with_an_initialiser : seen (declares (int_at 1) (with_value (takes 1 51 []) (number 2 1) ∷ []) ∷
    []) ≡ Refused 11 2
unfolding checked_file
function_with_an_initialiser = refl

extern_in_a_block : seen (in_f (here (stored 1 w.Extern) (with_value (plain 1 1) (number 2 1) ∷ []) ∷ []) ∷
    []) ≡ Refused 11 2
unfolding checked_file
extern_in_a_block = refl

its_own_name : seen (in_f (here (int_at 1) (with_value (plain 1 1) (name 1 1) ∷ []) ∷ []) ∷ []) ≡ Accepted
unfolding checked_file
its_own_name = refl

contents_of_an_array : words_of (declares (int_at 1) (with_list 1 (array 1 1 (number 1 3)) (number 1 1 ∷
    number 1 2 ∷ []) ∷ []) ∷ main_function ∷ []) ≡ 8589934593 ∷ 0 ∷ []
unfolding checked_file
contents_of_an_array = refl

contents_of_a_text : words_of (declares (char_at 1) (with_value (open_array 1 1) (text 1 2) ∷ []) ∷
    main_function ∷ []) ≡ 25185 ∷ []
unfolding checked_file
contents_of_a_text = refl

halves_of_a_pointer : statics_in (checked_file (declares_one (int_at 1) (plain 1 2) ∷
    declares (int_at 1) (with_value (pointer_to 1 1) (before 1 p.AddressOf (name 1 2)) ∷ []) ∷ main_function ∷
    [])) ≡
    record { bytes = 4; literal = false; words = 0 ∷ []; halves = half.None ∷ [] } ∷
    record { bytes = 8; literal = false; words = 0 ∷ []; halves = half.Object 0 ∷ [] } ∷
    []
unfolding checked_file
halves_of_a_pointer = refl

-- it is an object of zeros, though nothing defines or uses it
extern_object_alone : words_of (declares_one (stored 1 w.Extern) (plain 1 1) ∷ main_function ∷ []) ≡ 0 ∷ []
unfolding checked_file
extern_object_alone = refl

store_of_an_item : bodies_in (checked_file (function_at 1 (int_at 1) (takes 1 100 [])
    (here (int_at 1) (with_list 2 (array 1 1 (number 1 2)) (number 2 7 ∷ []) ∷ []) ∷ []) ∷ [])) ≡
    stmt.Block (record { line = 1; local = 0; kind = local.Home 8 } ∷ [])
    (stmt.Run (tree_of (with_operation 2 (op.Store (access.Integer I32)) (tree_of (leaf 2 (op.Number 7)) ∷ [])
    (with_operation 2 (op.Offset 0) [] (leaf 2 (op.Local 0))))) ∷ []) ∷
    []
unfolding checked_file
store_of_an_item = refl

local_without_a_home : bodies_in (checked_file (function_at 1 (int_at 1) (takes 1 100 [])
    (here (int_at 1) (with_value (plain 1 1) (number 2 7) ∷ []) ∷ []) ∷ [])) ≡
    stmt.Block (record { line = 1; local = 0; kind = local.Zero } ∷ [])
    (stmt.Run (tree_of (with_operation 2 (op.SetLocal 0) [] (leaf 2 (op.Number 7)))) ∷ []) ∷
    []
unfolding checked_file
local_without_a_home = refl

-- ---- rules 24 to 30: statements

case_again : seen (in_f (switch_on 1 (number 1 1) (case_of 1 (number 1 1) ∷
    case_of 2 (pair 2 (number 2 1) add (number 2 0)) ∷ []) ∷ []) ∷ []) ≡ Refused 26 2
unfolding checked_file
case_again = refl

two_defaults : seen (in_f (switch_on 1 (number 1 1) (default 1 ∷ default 2 ∷ []) ∷ []) ∷ []) ≡ Refused 27 2
unfolding checked_file
two_defaults = refl

empty_switch : seen (in_f (switch_on 1 (number 1 1) [] ∷ []) ∷ []) ≡ Accepted
unfolding checked_file
empty_switch = refl

switch_on_a_pointer : seen (in_f (here (int_at 1) (bare (pointer_to 1 1) ∷ []) ∷ switch_on 1 (name 2 1) [] ∷
    []) ∷ []) ≡ Refused 25 2
unfolding checked_file
switch_on_a_pointer = refl

break_outside : seen (in_f (does 2 s.Break ∷ []) ∷ []) ≡ Refused 28 2
unfolding checked_file
break_outside = refl

continue_outside : seen (in_f (does 2 s.Continue ∷ []) ∷ []) ≡ Refused 29 2
unfolding checked_file
continue_outside = refl

value_in_a_void_function : seen (in_f (does 2 (s.Return (Some (number 2 1))) ∷ []) ∷ []) ≡ Refused 30 2
unfolding checked_file
value_in_a_void_function = refl

no_value : seen (function_at 1 (int_at 1) (takes 1 51 []) (does 2 (s.Return None) ∷ []) ∷ []) ≡ Refused 30 2
unfolding checked_file
no_value = refl

bad_result : seen (function_at 1 (int_at 1) (takes 1 51 []) (here (int_at 1) (bare (pointer_to 1 1) ∷ []) ∷
    does 2 (s.Return (Some (name 3 1))) ∷ []) ∷ []) ≡ Refused 18 3
unfolding checked_file
bad_result = refl

local_of_a_switch : bodies_in (checked_file (function_at 1 (int_at 1) (takes 1 100 [])
    (switch_on 2 (number 2 9) (case_of 3 (number 3 1) ∷ default 4 ∷ switch_does 5 s.Break ∷ []) ∷ []) ∷ [])) ≡
    stmt.Block [] (stmt.Block [] (set_local 2 0 (tree_of (leaf 2 (op.Number 9))) ∷
    stmt.Block [] (stmt.Switch 2 (local_as 2 0 kind.Int)
    (record { value = 1; statement = 0 } ∷ []) 0 (stmt.Break 5 ∷ []) ∷ []) ∷ []) ∷ []) ∷
    []
unfolding checked_file
local_of_a_switch = refl

-- ---- rules 33 to 39: the whole file

main_that_is_no_function : alone (declares_one (int_at 1) (plain 2 100) ∷ []) ≡ Refused 33 2
unfolding checked_file
main_that_is_no_function = refl

local_main : seen (in_f (here (int_at 1) (bare (plain 1 100) ∷ []) ∷ []) ∷ []) ≡ Accepted
unfolding checked_file
local_main = refl

no_main : alone (in_f [] ∷ []) ≡ Refused 39 1
unfolding checked_file
no_main = refl

undefined_function : seen (declares_one (int_at 1) (takes 2 51 []) ∷ in_f (value (after 3 (name 3 51) called) ∷
    []) ∷ []) ≡ Refused 34 2
unfolding checked_file
undefined_function = refl

function_that_is_not_used : seen (declares_one (int_at 1) (takes 2 51 []) ∷ []) ≡ Accepted
unfolding checked_file
function_that_is_not_used = refl

undefined_object : seen (declares_one (stored 1 w.Extern) (plain 2 1) ∷ in_f (value (name 3 1) ∷ []) ∷
    []) ≡ Refused 35 2
unfolding checked_file
undefined_object = refl

object_that_is_defined_later : seen (declares_one (stored 1 w.Extern) (plain 2 1) ∷ in_f (value (name 3 1) ∷
    []) ∷ declares_one (int_at 4) (plain 4 1) ∷ []) ≡ Accepted
unfolding checked_file
object_that_is_defined_later = refl

undefined_before_no_main : alone (declares_one (int_at 1) (takes 2 51 []) ∷
    in_f (value (after 3 (name 3 51) called) ∷ []) ∷ []) ≡ Refused 34 2
unfolding checked_file
undefined_before_no_main = refl

putchar_without_a_body : seen (declares_one (int_at 1) (takes 1 101 (parameter 1 (int_at 1) (nameless 1) ∷ [])) ∷
    in_f (value (after 2 (name 2 101) (called_with (number 2 65))) ∷ []) ∷ []) ≡ Accepted
unfolding checked_file
putchar_without_a_body = refl

putchar_of_another_type : seen (declares_one (void_at 1) (takes 1 101 (parameter 1 (int_at 1) (nameless 1) ∷ [])) ∷
    in_f (value (after 2 (name 2 101) (called_with (number 2 65))) ∷ []) ∷ []) ≡ Refused 34 1
unfolding checked_file
putchar_of_another_type = refl

-- an operation is called, and nothing else is done with it
putchar_in_a_block : seen (in_f (here (int_at 1) (bare (takes 1 101 (parameter 1 (int_at 1) (nameless 1) ∷ [])) ∷ []) ∷
    value (after 2 (name 2 101) (called_with (number 2 65))) ∷ []) ∷ []) ≡ Accepted
unfolding checked_file
putchar_in_a_block = refl

putchar_that_is_not_called : seen (declares_one (int_at 2) (takes 2 101 (parameter 2 (int_at 2) (nameless 2) ∷ [])) ∷
    in_f (value (name 3 101) ∷ []) ∷ []) ≡ Refused 34 2
unfolding checked_file
putchar_that_is_not_called = refl

putchar_as_an_argument : seen (declares_one (int_at 2) (takes 2 101 (parameter 2 (int_at 2) (nameless 2) ∷ [])) ∷
    in_f (value (after 3 (name 3 101) (called_with (pair 3 (name 3 101) equal (number 3 0)))) ∷ []) ∷ []) ≡ Refused 34 2
unfolding checked_file
putchar_as_an_argument = refl

address_of_putchar : seen (declares_one (int_at 2) (takes 2 101 (parameter 2 (int_at 2) (nameless 2) ∷ [])) ∷
    declares (int_at 3) (with_value (function_pointer 3 1) (name 3 101) ∷ []) ∷ []) ≡ Refused 34 2
unfolding checked_file
address_of_putchar = refl

-- `printf` is a name that nothing declares where what it stands for isn't there
printf_without_its_parts : seen (in_f (value (after 2 (name 2 102) (called_with (text 2 1))) ∷ []) ∷ []) ≡ Refused 1 2
unfolding checked_file
printf_without_its_parts = refl

as_many_values_as_there_may_be : seen (function_at 2 (void_at 2) (takes 2 51 []) (locals_from 248) ∷ []) ≡ Accepted
unfolding checked_file
as_many_values_as_there_may_be = refl

too_many_values : seen (function_at 2 (void_at 2) (takes 2 51 []) (locals_from 249) ∷ []) ≡ Refused 36 2
unfolding checked_file
too_many_values = refl

values_of_a_declarator : seen (function_at 2 (void_at 2) (takes 2 51 (parameter 2 (int_at 2)
    (array 2 1 (pair 2 (number 2 1) add (parens 2 (pair 2 (number 2 1) add (number 2 1))))) ∷ [])) (locals_from 245) ∷ []) ≡ Refused 36 2
unfolding checked_file
values_of_a_declarator = refl

-- a whole file of so many functions of so many values, and of a static object of so many words
abbrev closed_with : (functions values words : ℕ) → Option ℕ → Seen
closed_with functions values words main =
    seen_of (closed (start_state 0) (record {
      functions = replicate functions (record {
        function = record {
          line = 3;
          library = false;
          kind = 0;
          parameters = 0;
          locals = 0;
          values = values;
          body = stmt.Break 3;
        };
        taken = [];
      });
      statics = record { bytes = 0; literal = false; words = replicate words 0; halves = [] } ∷ [];
      main = main;
    }))

as_much_as_there_may_be : closed_with 4000 256 262144 (Some 0) ≡ Accepted
unfolding checked_file
as_much_as_there_may_be = refl

no_main_first : closed_with 4001 257 262145 None ≡ Refused 39 1
unfolding checked_file
no_main_first = refl

then_too_many_functions : closed_with 4001 257 262145 (Some 0) ≡ Refused 37 1
unfolding checked_file
then_too_many_functions = refl

then_too_large_statics : closed_with 4000 257 262145 (Some 0) ≡ Refused 38 1
unfolding checked_file
then_too_large_statics = refl

then_too_many_values : closed_with 4000 257 262144 (Some 0) ≡ Refused 36 3
unfolding checked_file
then_too_many_values = refl

-- ---- numbers of functions' types

-- where the file's first reading has told what it knows
abbrev known_in : Checked Whole → Ahead
known_in (Fine s w) = known_at s w.functions
known_in (Breaks broken s known) = nothing_known
known_in (Broke broken) = nothing_known

unfoldable answer_of : List External → Checked Whole
unfolding checked_file
answer_of xs = file_checked tokens (known_in (checked_file xs)) (record { items = xs })

abbrev kinds_seen : Checked Whole → List ℕ
kinds_seen (Fine s w) = kinds_in (functions_in w.functions)
kinds_seen (Breaks broken s known) = []
kinds_seen (Broke broken) = []

-- `int f(int a){}` and then `int main(void){int(*p)(int);p(1);}`
abbrev call_through_a_pointer : List External
call_through_a_pointer =
    function_at 1 (int_at 1) (takes 1 51 (parameter 1 (int_at 1) (plain 1 1) ∷ [])) [] ∷
    function_at 2 (int_at 2) (takes 2 100 []) (here (int_at 3) (bare (function_pointer 3 1) ∷ []) ∷
    value (after 4 (name 4 1) (called_with (number 4 1))) ∷ []) ∷
    []

functions_then_calls : kinds_seen (answer_of call_through_a_pointer) ≡ 1 ∷ 2 ∷ 1 ∷ []
unfolding answer_of
functions_then_calls = refl

new_kinds_are_the_next_ones : fold with_kind (7 ∷ []) (9 ∷ 7 ∷ 8 ∷ 9 ∷ []) ≡ 7 ∷ 9 ∷ 8 ∷ []
new_kinds_are_the_next_ones = refl

-- ---- the order: the first construct that breaks a rule

later_rule_decides : seen (declares_one (void_at 1) (plain 1 1) ∷ declares_one (int_at 2) (plain 2 2) ∷
    declares_one (stored 3 w.Static) (plain 3 2) ∷ []) ≡ Refused 4 1
unfolding checked_file
later_rule_decides = refl

specifiers_before_declarator : seen (declares_one (stored 1 w.Auto) (array 2 1 (number 2 0)) ∷ []) ≡ Refused 3 1
unfolding checked_file
specifiers_before_declarator = refl
