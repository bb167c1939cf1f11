-- What statements need, at the constructors by which Rust sees them: rows as lists.
use Rattle.std.proofs.Common.{◌≡◌, ℕ, max, List, refl, sym, ap, ◌∙◌}
use Rattle.std.specs.Prelude.{Option, Some, None}
use Rattle.c_parts.specs.declared.span.Span.{Span}
use denote.Hole.Carrier
use Rattle.c_syntax.specs.declared.expr.Expr.{Expr}
use Rattle.c_syntax.specs.declared.file.Block.{Block}
use Rattle.c_syntax.specs.declared.file.BlockItem.TheBlock as b
use Rattle.c_syntax.specs.declared.file.ForStart.{ForStart}
use Rattle.c_syntax.specs.declared.file.Statement.{Statement}
use Rattle.c_syntax.specs.declared.file.StatementKind.TheVariants as kind
use Rattle.c_syntax.specs.declared.file.SwitchItem.{SwitchItem}
use Rattle.c_syntax.specs.declared.file.Initialiser.TheBlock as i
use Rattle.c_syntax.specs.declared.file.Initialiser.TheVariants as initialiser
use Rattle.c_syntax.specs.declared.file.Initialiser.{Initialiser, Row_of-Initialiser, end_of-Initialiser, more_of-Initialiser, items-the_row-Initialiser}
use Rattle.c_syntax.specs.declared.file.Block.{Row_of-BlockItem, end_of-BlockItem, more_of-BlockItem, items-the_row-BlockItem}
use Rattle.c_syntax.specs.declared.file.StatementKind.{Row_of-SwitchItem, end_of-SwitchItem, more_of-SwitchItem, items-the_row-SwitchItem}
use Rattle.c_expr_rules.specs.Temporaries.{temporaries_of}
use Rattle.c_temporaries.specs.Needs.{statement_temporaries, otherwise_temporaries}
use Rattle.c_temporaries.proofs.Most.{none_needed}
use Rattle.c_file_rules.specs.Values.{greatest, kind_temporaries, optional_temporaries, start_temporaries, initialiser_temporaries, initialisers_temporaries, item_temporaries, items_temporaries, switch_item_temporaries, switch_temporaries}

pub need_of_items : {m : _} (k : Row_of-BlockItem m) → items_temporaries k ≡ greatest item_temporaries (items-the_row-BlockItem _ k)
need_of_items end_of-BlockItem = refl
need_of_items (more_of-BlockItem x rest) = ap (max (item_temporaries x)) (need_of_items rest)

pub need_of_switch : {m : _} (k : Row_of-SwitchItem m) → switch_temporaries k ≡ greatest switch_item_temporaries (items-the_row-SwitchItem _ k)
need_of_switch end_of-SwitchItem = refl
need_of_switch (more_of-SwitchItem x rest) = ap (max (switch_item_temporaries x)) (need_of_switch rest)

pub need_of_initialisers : {m : _} (k : Row_of-Initialiser m) → initialisers_temporaries k ≡ greatest initialiser_temporaries (items-the_row-Initialiser _ k)
need_of_initialisers end_of-Initialiser = refl
need_of_initialisers (more_of-Initialiser x rest) = ap (max (initialiser_temporaries x)) (need_of_initialisers rest)

pub list_needs : (span : Span) (items : List Initialiser)
    → initialiser_temporaries (initialiser.List span items) ≡ greatest initialiser_temporaries items
list_needs span items =
    need_of_initialisers (i.hidden-the_row-Initialiser-0 items)
    ∙ ap (greatest initialiser_temporaries) (i.items_hidden-the_row-Initialiser-0 items)

-- ---- statements

pub block_needs : (x : Block) → kind_temporaries (kind.Block x) ≡ greatest item_temporaries x.items
block_needs x =
    need_of_items (b.hidden-the_row-BlockItem-0 x.items)
    ∙ ap (greatest item_temporaries) (b.items_hidden-the_row-BlockItem-0 x.items)

pub if_needs : (e : Expr) (one : Statement) (other : Option Statement)
    → kind_temporaries (kind.If e one other) ≡ max (temporaries_of e) (max (statement_temporaries one) (otherwise_temporaries other))
unfolding b.hidden-the_row-Statement-1 b.shape-the_row-Statement-1 Carrier.hidden
if_needs e one None = ap (max (temporaries_of e)) (sym (none_needed (statement_temporaries one)))
if_needs e one (Some other) = refl

pub while_needs : (e : Expr) (body : Statement)
    → kind_temporaries (kind.While e body) ≡ max (temporaries_of e) (statement_temporaries body)
unfolding b.hidden-the_row-Statement-1 b.shape-the_row-Statement-1 Carrier.hidden
while_needs e body = refl

pub do_needs : (body : Statement) (e : Expr)
    → kind_temporaries (kind.Do body e) ≡ max (temporaries_of e) (statement_temporaries body)
unfolding b.hidden-the_row-Statement-1 b.shape-the_row-Statement-1 Carrier.hidden
do_needs body e = refl

pub for_needs : (start : ForStart) (test step : Option Expr) (body : Statement)
    → kind_temporaries (kind.For start test step body)
    ≡ max (start_temporaries start) (max (optional_temporaries test) (max (optional_temporaries step) (statement_temporaries body)))
unfolding b.hidden-the_row-Statement-1 b.shape-the_row-Statement-1 Carrier.hidden
for_needs start test step body = refl

pub switch_needs : (e : Expr) (items : List SwitchItem)
    → kind_temporaries (kind.Switch e items) ≡ max (temporaries_of e) (greatest switch_item_temporaries items)
switch_needs e items =
    ap (max (temporaries_of e)) (need_of_switch (b.hidden-the_row-SwitchItem-2 items)
    ∙ ap (greatest switch_item_temporaries) (b.items_hidden-the_row-SwitchItem-2 items))
