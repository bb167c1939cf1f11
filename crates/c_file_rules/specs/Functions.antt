-- Functions with a body (C11 6.9.1).
--
-- construct                  rules, the lowest first
-- declarator before a body   2 4 5 6 7 33
use Rattle.std.specs.Prelude.{if◌then◌else◌, ℕ, suc, ◌+◌, ◌==◌, ◌&&◌, ◌||◌, nat_lt, Bool, true, false, not, List, [], ◌∷◌, ◌++◌, reverse, length, Option, Some, None}
use Rattle.std.specs.List.{list_any}
use Rattle.c_syntax.specs.declared.expr.Declarator.{Declarator}
use Rattle.c_syntax.specs.declared.file.Block.{Block}
use Rattle.c_syntax.specs.declared.file.Function.{Function}
use Rattle.c_types.specs.declared.ctype.CType.{CType}
use Rattle.c_types.specs.declared.ctype.CType.TheVariants.{Function as FunctionType}
use Rattle.c_types.specs.declared.ctype.Part.{Part}
use Rattle.c_tree.specs.declared.declared.Declared.{Declared}
use Rattle.c_tree.specs.declared.program.FunctionDef.{FunctionDef}
use Rattle.c_tree.specs.declared.stmt.LocalDef.{LocalDef}
use Rattle.c_tree.specs.declared.stmt.LocalKind.TheVariants as local
use Rattle.c_tree.specs.declared.stmt.Stmt.{Stmt}
use Rattle.c_scope.specs.Scopes.{Names, with_block, with_scope}
use Rattle.c_specifiers.specs.declared.list.Standing.TheVariants as standing
use Rattle.c_expr_rules.specs.Outcomes.{State, Checked, Fine, Rule, next, ◌breaks◌}
use Rattle.c_expr_rules.specs.TypedExpressions.{type_at, always_has_home, access_of, size_of, or_zero}
use Rattle.c_file_rules.specs.Constructs.{Here, in_order}
use Rattle.c_file_rules.specs.Naming.{with_names, declares, leaves}
use Rattle.c_file_rules.specs.Declarators.{Listed, Prototype, is_function_declared, declarator_type, line_of, name_of}
use Rattle.c_file_rules.specs.Specifiers.{OneDeclarator, formed, specifiers_said}
use Rattle.c_file_rules.specs.Declaring.{what_declared, is_name_again, declared_rules}
use Rattle.c_file_rules.specs.Statements.{Inside, item_checked, block_of, with_locals}
use Rattle.c_file_rules.specs.Values.{function_temporaries}
use Rattle.std.specs.Prelude.{is_some, Result, Ok, Err}
use Rattle.c_types.specs.declared.rule.TypeRule.{TypeRule}
use Rattle.c_tree.specs.declared.stmt.LocalKind.{LocalKind}
-- a function, with the locals whose address is taken in it
pub use Rattle.c_file_rules.specs.declared.made.Made.{Made}

-- of a function, and of what is none
abbrev pub listed_in : Option Prototype → List Listed
listed_in None = []
listed_in (Some p) = p.listed

-- the body's scope is that of the parameters
abbrev pub body_names : Option Prototype → Names → Names
body_names None names = with_block names
body_names (Some p) names = with_scope p.scope names

-- a parameter with a name whose address is taken, or that is atomic, is moved into a home
abbrev pub is_moved : Here → State → ℕ → Listed → Part → Bool
is_moved here s number p ty =
    is_some p.name && (always_has_home (type_at s ty.number) ty.qualifiers.0 || here.around.has_home number)

abbrev pub moved_kind : State → Part → LocalKind
moved_kind s ty =
    let t = type_at s ty.number in local.Moved (or_zero (size_of t)) (access_of t ty.qualifiers.0)

abbrev pub parameter_home : Here → State → ℕ → Listed → Result Part TypeRule → List LocalDef
parameter_home here s number p (Err broken) = []
parameter_home here s number p (Ok ty) =
    if is_moved here s number p ty
    then record { line = p.line; local = number; kind = moved_kind s ty } ∷ []
    else []

abbrev pub parameter_homes : Here → State → ℕ → List Listed → List LocalDef
parameter_homes here s number [] = []
parameter_homes here s number (p ∷ ps) =
    parameter_home here s number p p.ty ++ parameter_homes here s (suc number) ps

abbrev pub result_in : CType → ℕ
result_in (FunctionType f) = f.result
result_in _ = 0

abbrev pub inside_function : State → Part → Inside
inside_function s p = record { may_break = false; may_continue = false; result = result_in (type_at s p.number) }

-- at a body's begin: its parameters are its first locals
abbrev pub at_body : Here → Option Prototype → State → State
at_body here prototype s =
    let inside = with_names (body_names prototype s.above.names) s in
    let count = length (listed_in prototype) in
    record inside {
      taken =
          [];
      above =
          record inside.above {
            next_local =
                count;
            locals = reverse (parameter_homes here inside 0 (listed_in prototype));
          };
    }

-- a function's values: its locals, its switches, the greatest need of its expressions, and 8
abbrev pub values_of : State → Function → ℕ
values_of s f = s.above.next_local + function_temporaries f + 8

abbrev pub function_of : Here → Function → Part → Option Prototype → State → Stmt → Checked Made
function_of here f p prototype s tree =
    Fine s (record {
      function = record {
        line = f.span.line;
        library = here.is_library f.span.first;
        kind = here.around.kind_of p.number;
        parameters = length (listed_in prototype);
        locals = s.above.next_local;
        values = values_of s f;
        body = tree;
      };
      taken = s.taken;
    })

abbrev pub body_checked : Here → Inside → State → Block → Checked Stmt
body_checked here i s body =
    next (in_order (item_checked here i) s body.items) (λ s statements. block_of [] s statements)

-- of the rules of a declarator the new one stands before rule 33
abbrev pub merged : List Rule → Rule → List Rule
merged [] r = r ∷ []
merged (q ∷ rules) r = if nat_lt r.number q.number then r ∷ q ∷ rules else q ∷ merged rules r

-- the name is a function by a list of parameters of its declarator itself (p2)
abbrev pub function_rules : Here → Declarator → ℕ → (State → Part → Declared) → State → Part → List Rule
function_rules here d name what s p =
    merged (declared_rules here standing.Definition name what s p) (7 breaks not (is_function_declared false d))

abbrev pub name_or_zero : Option ℕ → ℕ
name_or_zero None = 0
name_or_zero (Some name) = name

-- which locals have their address taken is known of each function
abbrev pub in_function : (ℕ → List ℕ) → Here → ℕ → Here
in_function taken here name =
    record here {
      around =
          record here.around { has_home = (λ l. list_any (λ m. m == l) (taken (here.function_number false name))) };
    }

abbrev pub function_checked : Here → (ℕ → List ℕ) → State → Function → Checked Made
function_checked here taken s f =
    let line = line_of f.declarator in
    let name = name_or_zero (name_of f.declarator) in
    let inner = in_function taken here name in
    next (specifiers_said here standing.Definition OneDeclarator s f.specifiers) (λ s said.
    next (formed here s f.declarator) (λ s d.
    let what = what_declared here standing.Definition line said.storage true name in
    let again = is_name_again here standing.Definition said line true name s d.derivations in
    next (declarator_type line again s said.ty d.derivations (function_rules here f.declarator name what)) (λ s p.
    let begin = at_body inner d.prototype (declares here.around s name (what s p)) in
    next (leaves (next (body_checked inner (inside_function s p) begin f.body) (λ s tree.
    function_of inner f p d.prototype s tree))) (λ s made. Fine (with_locals [] s) made))))
