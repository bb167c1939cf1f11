-- What a format prints goes on behind what it printed so far.
use Rattle.std.proofs.Common.{◌≡◌, ◌≢◌, ◌+◌, ◌<◌, ◌≤◌, List, [], ◌∷◌, ◌++◌, length, get_or, drop, refl, sym, ap, ◌∙◌, subst, add-one, append_assoc}
use Rattle.std.specs.Prelude.{ℕ, suc, Bool, true, false, ◌==◌, reverse, Option, Some, None, if◌then◌else◌}
use Rattle.std.proofs.lemmas.Bool.{ne_eqb}
use Rattle.std.proofs.lemmas.List.{reverse-append, reverse-reverse, at_drop_more, at_drop_all}
use Rattle.c_tree.specs.declared.expr.Expr.{Expr}
use Rattle.c_tree.specs.declared.operation.Piece.{Piece}
use Rattle.c_tree.specs.declared.operation.Piece.TheVariants as piece
use Rattle.filc_num.specs.declared.c_int_type.CIntType.TheVariants as kind
use Rattle.c_expr_rules.specs.declared.known.Known.TheVariants as known
use Rattle.c_expr_rules.specs.Outcomes as o
use Rattle.c_expr_rules.specs.Outcomes.{◌breaks◌}
use Rattle.c_expr_rules.specs.TypedExpressions.{tree_of, kind_value}
use Rattle.c_expr_rules.specs.declared.typed.Typed.{Typed}
use Rattle.c_expr_rules.specs.declared.made.Made.{Made}
use Rattle.c_expr_rules.specs.Calls as c
use Rattle.c_expr_rules.specs.declared.printer.Mode.TheVariants.{Text}
use Rattle.c_expr_rules.specs.declared.printer.Printer.{Printer}
use Rattle.c_expr_rules.specs.declared.printer.Mode.TheVariants.{Percent}
use Rattle.c_expr_rules.specs.declared.printer.Mode.{Mode}
use Rattle.c_expr_rules.specs.declared.printer.Mode.TheVariants.{Long}
use Rattle.c_expr_rules.specs.Calls.{with_operand, with_directive, with_byte, directive, long_directive, all_printed, printout, is_not_printed, print_made, print_value}
use Rattle.c_expr_rules.specs.declared.printer.Mode.TheVariants.{Percent, Long}
use Rattle.c_calls.specs.Printouts.{takes_value, given_value, piece_of, seen_directive, seen_printout, printed_before, values_left, rest_of, TakesValue, TakesByte}
use Rattle.c_calls.specs.declared.printing.Directive.{Directive}
use Rattle.c_calls.specs.declared.printing.Printout.{Printout}
use Rattle.c_calls.specs.declared.printing.Reading.{Reading}
use Rattle.c_calls.specs.declared.printing.Progress.{Progress}
use Rattle.c_calls.specs.declared.printing.Progress.TheVariants as progress

abbrev printed : List Expr → List Piece → Option c.Printout
printed operands pieces = Some (record { operands = operands; pieces = pieces })

two_same : (a b : List Expr) (c d : List Piece) → a ≡ b → c ≡ d → printed a c ≡ printed b d
two_same a b c d p q = ap (λ x. printed x c) p ∙ ap (printed b) q

-- one more item stands before what follows, or behind what was
one_more : {A : Type 0} (old new more : List A) (x : A) → new ≡ old ++ x ∷ [] → old ++ (x ∷ more) ≡ new ++ more
one_more old new more x e = sym (append_assoc old (x ∷ []) more) ∙ ap (λ l. l ++ more) (sym e)

-- a directive takes a value that it takes
pub directive_goes :
    (s : o.State) (d : Directive) (old new : Printout) (n : ℕ) (x : Typed) (xs : List Typed) (p : List Typed → Option c.Printout) → takes_value s d.taken x ≡ true →
    new.operands ≡ old.operands ++ tree_of (given_value d.taken x).made ∷ [] → new.pieces ≡ old.pieces ++ piece_of d.output n ∷ [] →
    printed_before old (with_directive (seen_directive s (Some d)) n (x ∷ xs) p) ≡ printed_before new (p xs)
directive_goes s d old new n x xs p t operands pieces =
    elim (p xs)
    as (λ q. printed_before old (with_operand (record { takes = takes_value s d.taken; gives = given_value d.taken; piece = piece_of d.output }) n x q) ≡ printed_before new q) [
      | None ↦ refl
      | Some q ↦ rw t (two_same _ _ _ _ (one_more old.operands new.operands q.operands _ operands) (one_more old.pieces new.pieces q.pieces _ pieces))
    ]

-- values that are left, the next one last
pub next_value : (xs : List Typed) (x : Typed) → reverse (xs ++ x ∷ []) ≡ x ∷ reverse xs
next_value xs x = reverse-append xs (x ∷ [])

not_all : (zs : List Typed) (y : Typed) → all_printed (zs ++ y ∷ []) ≡ None
not_all [] y = refl
not_all (z ∷ zs) y = refl

pub left_over : (y : Typed) (ys : List Typed) → all_printed (reverse (y ∷ ys)) ≡ None
left_over y ys = ap all_printed (reverse-append (y ∷ []) ys) ∙ not_all (reverse ys) y

-- ---- behind `%` and behind `%l`

pub percent_takes :
    (s : o.State) (f : Printer) (byte : ℕ) (old new : Reading) (d : Option Directive) (t : Progress) → old.mode ≡ Percent → (byte == 37) ≡ false → (byte == 108) ≡ false →
    seen_directive s d ≡ directive s f byte → TakesValue s d old new t → TakesByte s f byte old new t
percent_takes s f byte old new d progress.On m a b e h = λ rest. rw (m, a, b, ← e) (h f rest)
percent_takes s f byte old new d progress.Ends m a b e h = absurd h
percent_takes s f byte old new d progress.Bad m a b e h = λ rest. rw (m, a, b, ← e) (ap (printed_before old.printed) (h (λ (xs : List Typed). printout s f Text rest (suc old.operand_number) xs)))

pub long_takes :
    (s : o.State) (f : Printer) (byte : ℕ) (old new : Reading) (d : Option Directive) (t : Progress) → old.mode ≡ Long →
    seen_directive s d ≡ long_directive f byte → TakesValue s d old new t → TakesByte s f byte old new t
long_takes s f byte old new d progress.On m e h = λ rest. rw (m, ← e) (h f rest)
long_takes s f byte old new d progress.Ends m e h = absurd h
long_takes s f byte old new d progress.Bad m e h = λ rest. rw (m, ← e) (ap (printed_before old.printed) (h (λ (xs : List Typed). printout s f Text rest (suc old.operand_number) xs)))

-- ---- a byte that is printed itself

pub byte_goes :
    (old new : Printout) (byte : ℕ) (q : Option c.Printout) → new.operands ≡ old.operands → new.pieces ≡ old.pieces ++ piece.Byte byte ∷ [] →
    printed_before old (with_byte byte q) ≡ printed_before new q
byte_goes old new byte None operands pieces = refl
byte_goes old new byte (Some q) operands pieces =
    two_same _ _ _ _ (ap (λ l. l ++ q.operands) (sym operands)) (one_more old.pieces new.pieces q.pieces _ pieces)

put_goes :
    (s : o.State) (f : Printer) (byte : ℕ) (old : Reading) → old.mode ≡ Text → (byte == 0) ≡ false → (byte == 37) ≡ false →
    TakesByte s f byte old (record old { printed = record old.printed { pieces = old.printed.pieces ++ piece.Byte byte ∷ [] }; mode = Text }) progress.On
put_goes s f byte old m z p = λ rest. rw (m, z, p) (byte_goes old.printed (record old.printed { pieces = old.printed.pieces ++ piece.Byte byte ∷ [] }) byte _ refl refl)

pub text_goes :
    (s : o.State) (f : Printer) (byte : ℕ) (old new : Reading) → old.mode ≡ Text → byte ≢ 0 → byte ≢ 37 →
    new ≡ record old { printed = record old.printed { pieces = old.printed.pieces ++ piece.Byte byte ∷ [] }; mode = Text } → TakesByte s f byte old new progress.On
text_goes s f byte old new m z p e =
    subst (λ (r : Reading). TakesByte s f byte old r progress.On) (sym e) (put_goes s f byte old m (ne_eqb byte 0 z) (ne_eqb byte 37 p))

percent_put :
    (s : o.State) (f : Printer) (old : Reading) → old.mode ≡ Percent →
    TakesByte s f 37 old (record old { printed = record old.printed { pieces = old.printed.pieces ++ piece.Byte 37 ∷ [] }; mode = Text }) progress.On
percent_put s f old m = λ rest. rw m (byte_goes old.printed (record old.printed { pieces = old.printed.pieces ++ piece.Byte 37 ∷ [] }) 37 _ refl refl)

percent_byte :
    (s : o.State) (f : Printer) (byte : ℕ) (old : Reading) → old.mode ≡ Percent → byte ≡ 37 →
    TakesByte s f byte old (record old { printed = record old.printed { pieces = old.printed.pieces ++ piece.Byte byte ∷ [] }; mode = Text }) progress.On
percent_byte s f byte old m e =
    subst (λ (k : ℕ). TakesByte s f k old (record old { printed = record old.printed { pieces = old.printed.pieces ++ piece.Byte k ∷ [] }; mode = Text }) progress.On) (sym e) (percent_put s f old m)

pub percent_goes :
    (s : o.State) (f : Printer) (byte : ℕ) (old new : Reading) → old.mode ≡ Percent → byte ≡ 37 →
    new ≡ record old { printed = record old.printed { pieces = old.printed.pieces ++ piece.Byte byte ∷ [] }; mode = Text } → TakesByte s f byte old new progress.On
percent_goes s f byte old new m b e = subst (λ (r : Reading). TakesByte s f byte old r progress.On) (sym e) (percent_byte s f byte old m b)

-- where values are left, a format that ends is bad
pub not_ended : (s : o.State) (f : Printer) (p : Printout) (m : Mode) (n : ℕ) (ys : List Typed) → (ys ≡ [] → ⊥) → printed_before p (printout s f m [] n (reverse ys)) ≡ None
not_ended s f p Text n [] h = absurd (h refl)
not_ended s f p Text n (y ∷ ys) h = ap (printed_before p) (left_over y ys)
not_ended s f p Percent n ys h = refl
not_ended s f p Long n ys h = refl

-- ---- a reading goes on

abbrev with_values : o.State → Option Directive → Reading → (List Typed → Option c.Printout) → List Typed → Option c.Printout
with_values s d old p xs = printed_before old.printed (with_directive (seen_directive s d) old.operand_number xs p)

pub value_taken :
    (s : o.State) (d : Option Directive) (what : Directive) (old new : Reading) (x : Typed) → d ≡ Some what → old.pending ≡ new.pending ++ x ∷ [] → takes_value s what.taken x ≡ true →
    new.mode ≡ Text → new.operand_number ≡ old.operand_number + 1 → new.printed.operands ≡ old.printed.operands ++ tree_of (given_value what.taken x).made ∷ [] →
    new.printed.pieces ≡ old.printed.pieces ++ piece_of what.output old.operand_number ∷ [] → TakesValue s d old new progress.On
value_taken s d what old new x e pending t mode number operands pieces = λ f rest.
    let n = old.operand_number in
    let p = λ (xs : List Typed). printout s f Text rest (suc n) xs in
    ap (with_values s d old p) (ap reverse pending ∙ next_value new.pending x) ∙
    ap (λ (d : Option Directive). with_values s d old p (x ∷ reverse new.pending)) e ∙
    directive_goes s what old.printed new.printed n x (reverse new.pending) p t operands pieces ∙
    ap (λ (k : ℕ). printed_before new.printed (printout s f Text rest k (reverse new.pending))) (sym (number ∙ add-one n)) ∙
    ap (λ (m : Mode). printed_before new.printed (printout s f m rest new.operand_number (reverse new.pending))) (sym mode)

-- ---- a format from its beginning to its end

before_nothing : (q : Option c.Printout) → printed_before (record { operands = []; pieces = [] }) q ≡ q
before_nothing None = refl
before_nothing (Some q) = refl

abbrev reading_of : List Expr → List Piece → List Typed → Reading
reading_of operands pieces xs = record { printed = record { operands = operands; pieces = pieces }; mode = Text; operand_number = 1; pending = xs }

pub begins :
    (s : o.State) (f : Printer) (format : List ℕ) (values : List Typed) (operands : List Expr) (pieces : List Piece) (xs : List Typed) → operands ≡ [] → pieces ≡ [] → xs ≡ reverse values →
    rest_of s f (reading_of operands pieces xs) (drop 0 format) ≡ printout s f Text format 1 values
begins s f format values operands pieces xs no_operands no_pieces e =
    ap (λ (l : List Expr). rest_of s f (reading_of l pieces xs) format) no_operands ∙
    ap (λ (l : List Piece). rest_of s f (reading_of [] l xs) format) no_pieces ∙
    before_nothing (printout s f Text format 1 (reverse xs)) ∙ ap (printout s f Text format 1) (ap reverse e ∙ reverse-reverse values)

-- a byte of the format is read
next_byte :
    (s : o.State) (f : Printer) (format : List ℕ) (i : ℕ) (old : Reading) (q : Option c.Printout) → i < length format →
    rest_of s f old (drop i format) ≡ q → rest_of s f old (get_or format i 0 ∷ drop (i + 1) format) ≡ q
next_byte s f format i old q h e = sym (at_drop_more (rest_of s f old) format i 0 h) ∙ e

abbrev turned : o.State → Printer → List ℕ → ℕ → (old new : Reading) → Progress → Type 0
turned s f format i old new k = TakesByte s f (get_or format i 0) old new k

pub goes_on :
    (s : o.State) (f : Printer) (format : List ℕ) (i : ℕ) (old new : Reading) (k : Progress) (q : Option c.Printout) → i < length format → rest_of s f old (drop i format) ≡ q → k ≡ progress.On →
    TakesByte s f (get_or format i 0) old new k → rest_of s f new (drop (i + 1) format) ≡ q
goes_on s f format i old new k q h e is t =
    let went : turned s f format i old new progress.On = subst (turned s f format i old new) is t in
    sym (went (drop (i + 1) format)) ∙ next_byte s f format i old q h e

-- it ends the format
pub ends_here :
    (s : o.State) (f : Printer) (format : List ℕ) (i : ℕ) (old new : Reading) (k : Progress) (q : Option c.Printout) → i < length format → rest_of s f old (drop i format) ≡ q → k ≡ progress.Ends →
    TakesByte s f (get_or format i 0) old new k → rest_of s f new [] ≡ q
ends_here s f format i old new k q h e is t =
    let went : turned s f format i old new progress.Ends = subst (turned s f format i old new) is t in
    sym (went (drop (i + 1) format)) ∙ next_byte s f format i old q h e

-- the format is bad there
pub is_bad :
    (s : o.State) (f : Printer) (format : List ℕ) (i : ℕ) (old new : Reading) (k : Progress) (q : Option c.Printout) → i < length format → rest_of s f old (drop i format) ≡ q → k ≡ progress.Bad →
    TakesByte s f (get_or format i 0) old new k → None ≡ q
is_bad s f format i old new k q h e is t =
    let went : turned s f format i old new progress.Bad = subst (turned s f format i old new) is t in
    sym (went (drop (i + 1) format)) ∙ next_byte s f format i old q h e

-- and after its last byte
pub ends_after :
    (s : o.State) (f : Printer) (format : List ℕ) (i : ℕ) (r : Reading) (q : Option c.Printout) → length format ≤ i → rest_of s f r (drop i format) ≡ q → rest_of s f r [] ≡ q
ends_after s f format i r q h e = sym (at_drop_all (rest_of s f r) format i h) ∙ e

-- ---- the call

pub call_is :
    (s : o.State) (line : ℕ) (f : Printer) (p : Option Printout) (q : Option c.Printout) (bad : Bool) (m : Made) (found : Typed) → seen_printout p ≡ q → bad ≡ is_not_printed (seen_printout p) →
    m ≡ print_made line f (seen_printout p) → found ≡ kind_value kind.Int line m known.Nothing →
    o.by_rules line (22 breaks bad ∷ []) s found ≡ o.by_rules line (22 breaks is_not_printed q ∷ []) s (print_value line f q)
call_is s line f p q bad m found e bad-is made-is found-is =
    ap (λ (b : Bool). o.by_rules line (22 breaks b ∷ []) s found) (bad-is ∙ ap is_not_printed e) ∙
    ap (λ (x : Typed). o.by_rules line (22 breaks is_not_printed q ∷ []) s x)
    (found-is ∙ ap (λ (m : Made). kind_value kind.Int line m known.Nothing) (made-is ∙ ap (λ (p : Option c.Printout). print_made line f p) e))
