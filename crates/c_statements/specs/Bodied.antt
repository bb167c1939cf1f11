-- A function step by step, as the code takes it: its heading where it stands, and its body where it is known which of its
-- locals have their address taken.
use Rattle.std.specs.Prelude.{ℕ, true, List, [], ◌∷◌, Option, Some, None}
use Rattle.c_syntax.specs.declared.expr.Declarator.{Declarator}
use Rattle.c_syntax.specs.declared.file.Function.{Function}
use Rattle.c_types.specs.declared.ctype.Part.{Part}
use Rattle.c_tree.specs.declared.declared.Declared.{Declared}
use Rattle.c_tree.specs.declared.stmt.LocalDef.{LocalDef}
use Rattle.c_tree.specs.declared.stmt.Stmt.{Stmt}
use Rattle.c_specifiers.specs.declared.list.Standing.TheVariants as standing
use Rattle.c_expr_rules.specs.Outcomes.{State, Checked, Fine, next, by_rules}
use Rattle.c_statements.specs.declared.declaring.Heading.{Heading}
use Rattle.c_statements.specs.declared.functions.Counts.{Counts}
use Rattle.c_file_rules.specs.Constructs.{Here}
use Rattle.c_file_rules.specs.Declarators.{declarator_type, line_of, name_of}
use Rattle.c_file_rules.specs.declared.parts.Said.{Said}
use Rattle.c_file_rules.specs.declared.parts.Listed.{Listed}
use Rattle.c_file_rules.specs.declared.parts.Prototype.{Prototype}
use Rattle.c_file_rules.specs.declared.parts.Formed.{Formed}
use Rattle.c_file_rules.specs.Declaring.{what_declared, is_name_again}
use Rattle.c_file_rules.specs.Functions.{body_names, parameter_home, body_checked, inside_function, at_body, function_of, function_rules, name_or_zero}
use Rattle.c_file_rules.specs.declared.made.Made.{Made}
use Rattle.c_file_rules.specs.Naming.{with_names, declares, leaves}
use Rattle.c_file_rules.specs.Specifiers.{OneDeclarator, specifiers_said, formed}
use Rattle.c_file_rules.specs.Statements.{with_locals}

-- a body's scope is that of its parameters
abbrev pub entered : Option Prototype → State → State
entered prototype s = with_names (body_names prototype s.above.names) s

abbrev pub homes_in : Option LocalDef → List LocalDef
homes_in None = []
homes_in (Some d) = d ∷ []

abbrev pub home_of : Here → State → (number : ℕ) → Listed → List LocalDef
home_of here s number p = parameter_home here s number p p.ty

-- a function of which this is counted
abbrev pub made_with : Here → Function → Part → State → Counts → Stmt → Made
made_with here f p s c tree =
    record {
      function = record {
        line = f.span.line;
        library = here.is_library f.span.first;
        kind = here.around.kind_of p.number;
        parameters = c.parameters;
        locals = s.above.next_local;
        values = c.values;
        body = tree;
      };
      taken = c.taken;
    }

abbrev pub body_of : Here → Function → Part → Option Prototype → State → Checked Made
body_of here f p prototype s =
    next (leaves (next (body_checked here (inside_function s p) (at_body here prototype s) f.body) (λ s tree.
    function_of here f p prototype s tree))) (λ s made. Fine (with_locals [] s) made)

abbrev pub what_of : Here → Heading → State → Part → Declared
what_of here h s p = what_declared here h.standing h.line h.storage h.is_given h.name s p

abbrev pub stated_before_body : Here → Heading → Declarator → State → Part → Checked (Unit {0})
stated_before_body here h d s p =
    by_rules h.line (function_rules here d h.name (what_of here h) s p) (declares here.around s h.name (what_of here h s p)) tt

abbrev pub heading_of : (line name : ℕ) → Said → Heading
heading_of line name said =
    record { standing = standing.Definition; storage = said.storage; line = line; name = name; is_given = true }

abbrev pub function_behind : (here inner : Here) → Function → Said → State → Formed → Checked Made
function_behind here inner f said s d =
    let line = line_of f.declarator in
    let name = name_or_zero (name_of f.declarator) in
    let again = is_name_again here standing.Definition said line true name s d.derivations in
    next (declarator_type line again s said.ty d.derivations (λ s p. [])) (λ s p.
    next (stated_before_body here (heading_of line name said) f.declarator s p) (λ s none.
    body_of inner f p d.prototype s))

abbrev pub function_checked_at : (here inner : Here) → State → Function → Checked Made
function_checked_at here inner s f =
    next (specifiers_said here standing.Definition OneDeclarator s f.specifiers) (λ s said.
    next (formed here s f.declarator) (λ s d. function_behind here inner f said s d))
