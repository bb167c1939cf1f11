-- What `printf` stands for: the output's lock and three functions with bodies, once the file has declared them.
use Rattle.std.specs.Prelude.{ℕ, zero, suc, ◌&&◌, nat_lt, Bool, false, List, codes, slice_get, if◌then◌else◌, Option, Some, None}
use Rattle.c_types.specs.declared.ctype.CType.{CType}
use Rattle.c_types.specs.declared.ctype.CType.TheVariants.{Function}
use Rattle.c_types.specs.declared.entry.Entry.{Entry}
use Rattle.c_types.specs.declared.entry.Entry.TheVariants.{Parameters}
use Rattle.c_tree.specs.declared.declared.Declared.{Declared}
use Rattle.c_tree.specs.declared.declared.Declared.TheVariants as declared
use Rattle.c_tree.specs.declared.declared.ObjectNumber.{ObjectNumber}
use Rattle.c_tree.specs.declared.declared.ObjectNumber.TheVariants.{Static, Local}
use Rattle.c_scope.specs.Blocks.{visible}
use Rattle.c_expr_rules.specs.Outcomes.{State}
use Rattle.c_expr_rules.specs.TypedExpressions.{type_at}
use Rattle.c_expr_rules.specs.declared.printer.Printer.{Printer}
use Rattle.c_file_rules.specs.Operations.{takes_nothing}

abbrev pub takes_so_many : (count : ℕ) → State → Option Entry → Bool
takes_so_many zero s list = takes_nothing list
takes_so_many (suc n) s (Some (Parameters first others)) = takes_so_many n s (slice_get s.table others)
takes_so_many (suc n) s _ = false

abbrev pub has_parameters : (count : ℕ) → State → CType → Bool
has_parameters count s (Function f) = takes_so_many count s (slice_get s.table f.parameters)
has_parameters count s _ = false

-- the number of a function with so many parameters, where so many functions have bodies and it is one of them
abbrev pub body_taking : (bodies count : ℕ) → State → Option Declared → Option ℕ
body_taking bodies count s (Some (declared.Function f)) =
    if nat_lt f.number bodies && has_parameters count s (type_at s f.ty) then Some f.number else None
body_taking bodies count s _ = None

abbrev pub static_of_number : ObjectNumber → Option ℕ
static_of_number (Static n) = Some n
static_of_number (Local n) = None

abbrev pub static_in : Option Declared → Option ℕ
static_in (Some (declared.Object o)) = static_of_number o.number
static_in _ = None

abbrev pub linked_as : State → (letters : List ℕ) → Option Declared
linked_as s letters = visible letters s.above.names.linked

abbrev pub printer_with : (lock text unsigned signed : Option ℕ) → Option Printer
printer_with (Some lock) (Some text) (Some unsigned) (Some signed) =
    Some (record { lock = lock; text = text; unsigned = unsigned; signed = signed })
printer_with _ _ _ _ = None

abbrev pub printer_in : (bodies : ℕ) → State → Option Printer
printer_in bodies s =
    printer_with (static_in (linked_as s (codes "__filc_out_lock")))
    (body_taking bodies 1 s (linked_as s (codes "__filc_put")))
    (body_taking bodies 2 s (linked_as s (codes "__filc_put_unsigned")))
    (body_taking bodies 1 s (linked_as s (codes "__filc_put_signed")))
