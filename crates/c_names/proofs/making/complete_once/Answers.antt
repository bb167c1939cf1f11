-- A type that is open gets the extent of its contents.
use Rattle.std.proofs.Common.{cond, Some, sym, ap, ◌∙◌, slice_set}
use Rattle.c_types.specs.declared.entry.Entry.TheVariants.{OfType}
use Rattle.c_types.specs.Extensions.{is_open}
use Rattle.c_types.specs.Tables.{tag_type}
use Rattle.c_types.proofs.Extending.{extent_known}
use Rattle.c_names.proofs.making.complete_once.Goals as goal

pub returns-then-is_open : goal.returns-then-is_open
returns-then-is_open c =
    let t = c.args.types.now in
    c.complete.ensures
    ∙ sym (ap (λ x. cond (is_open t c.args.tag c.args.number) (slice_set t c.args.number (OfType (tag_type c.args.tag c.args.number x))) t) (extent_known c.args.extent)
    ∙ ap (λ b. cond b (slice_set t c.args.number (OfType (tag_type c.args.tag c.args.number (Some c.args.extent)))) t) (sym c.is_open.ensures ∙ c.if-is_open.true))
