-- A format as far as it is read: what it prints so far, and what the rest of it prints.
use Rattle.std.specs.Prelude.{◌≡◌, ℕ, suc, Bool, List, [], ◌∷◌, ◌++◌, reverse, Option, Some, None}
use Rattle.c_tree.specs.declared.operation.Piece.{Piece}
use Rattle.c_tree.specs.declared.operation.Piece.TheVariants as piece
use Rattle.c_expr_rules.specs.Outcomes as o
use Rattle.c_expr_rules.specs.TypedExpressions as t
use Rattle.c_expr_rules.specs.declared.typed.Typed.{Typed}
use Rattle.c_expr_rules.specs.TypedExpressions.{pointed_part}
use Rattle.c_expr_rules.specs.Calls as c
use Rattle.c_expr_rules.specs.declared.printer.Mode.TheVariants.{Text}
use Rattle.c_expr_rules.specs.declared.printer.Printer.{Printer}
use Rattle.c_expr_rules.specs.Calls.{is_small, is_great, as_kind, is_text_part, itself, with_directive, printout}
use Rattle.c_calls.specs.declared.printing.Directive.{Directive}
use Rattle.c_calls.specs.declared.printing.Taken.{Taken}
use Rattle.c_calls.specs.declared.printing.Taken.TheVariants as takes_as
use Rattle.c_calls.specs.declared.printing.Output.{Output}
use Rattle.c_calls.specs.declared.printing.Output.TheVariants as output
use Rattle.c_calls.specs.declared.printing.Printout.{Printout}
use Rattle.c_calls.specs.declared.printing.Reading.{Reading}
use Rattle.c_calls.specs.declared.printing.Progress.{Progress}
use Rattle.c_calls.specs.declared.printing.Progress.TheVariants as progress

-- ---- directives

abbrev pub takes_value : o.State → Taken → Typed → Bool
takes_value s (takes_as.Small kind) x = is_small x
takes_value s (takes_as.Great kind) x = is_great x
takes_value s takes_as.Text x = is_text_part s (pointed_part x.ty)

abbrev pub given_value : Taken → Typed → Typed
given_value (takes_as.Small kind) x = as_kind kind x
given_value (takes_as.Great kind) x = as_kind kind x
given_value takes_as.Text x = itself x

abbrev pub piece_of : Output → ℕ → Piece
piece_of output.Byte n = piece.Out n
piece_of (output.By function radix) n = piece.Put function n radix

-- a library function puts out the value
abbrev pub put_by : Taken → ℕ → Option ℕ → Option Directive
put_by what function radix = Some (record { taken = what; output = output.By function radix })

abbrev pub seen_directive : o.State → Option Directive → Option c.Directive
seen_directive s None = None
seen_directive s (Some d) = Some (record { takes = takes_value s d.taken; gives = given_value d.taken; piece = piece_of d.output })

-- ---- what is printed

abbrev pub seen_printout : Option Printout → Option c.Printout
seen_printout None = None
seen_printout (Some p) = Some (record { operands = p.operands; pieces = p.pieces })

-- what is printed so far, and then this
abbrev pub printed_before : Printout → Option c.Printout → Option c.Printout
printed_before p None = None
printed_before p (Some q) = Some (record { operands = p.operands ++ q.operands; pieces = p.pieces ++ q.pieces })

abbrev pub values_left : Reading → List Typed
values_left r = reverse r.pending

-- all that is printed, with this rest of the format
abbrev pub rest_of : o.State → Printer → Reading → List ℕ → Option c.Printout
rest_of s f r format = printed_before r.printed (printout s f r.mode format r.operand_number (values_left r))

-- ---- steps

-- a directive takes the next value, or the format is bad
abbrev pub TakesValue : o.State → Option Directive → (old new : Reading) → Progress → Type 0
TakesValue s d old new progress.On =
    (f : Printer) (rest : List ℕ) → printed_before old.printed (with_directive (seen_directive s d) old.operand_number (values_left old) (λ xs. printout s f Text rest (suc old.operand_number) xs)) ≡ rest_of s f new rest
TakesValue s d old new progress.Ends = ⊥
TakesValue s d old new progress.Bad = (p : List Typed → Option c.Printout) → with_directive (seen_directive s d) old.operand_number (values_left old) p ≡ None

-- a byte of the format is read
abbrev pub TakesByte : o.State → Printer → ℕ → (old new : Reading) → Progress → Type 0
TakesByte s f byte old new progress.On = (rest : List ℕ) → rest_of s f old (byte ∷ rest) ≡ rest_of s f new rest
TakesByte s f byte old new progress.Ends = (rest : List ℕ) → rest_of s f old (byte ∷ rest) ≡ rest_of s f new []
TakesByte s f byte old new progress.Bad = (rest : List ℕ) → rest_of s f old (byte ∷ rest) ≡ None
