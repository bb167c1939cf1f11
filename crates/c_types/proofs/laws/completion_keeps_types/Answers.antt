use Rattle.std.proofs.Common.{Some}
use Rattle.std.specs.Prelude.{slice_set}
use Rattle.c_types.specs.declared.entry.Entry.TheVariants.{OfType}
use Rattle.c_types.specs.Tables.{tag_type}
use Rattle.c_types.proofs.Whole.{Stays-complete, derived_stays}
use Rattle.c_types.proofs.Completing.{IsDerived-stays, IsParameterList-stays}
use Rattle.c_types.proofs.laws.completion_keeps_types.Goals as goal

pub returns : goal.returns
returns c = λ tag n contents at.
    let t = c.args.types.now in
    let t' = slice_set t n (OfType (tag_type tag n (Some contents))) in
    let stays = Stays-complete t tag n contents at in
    let kept = derived_stays t tag n contents at in
    record {
      derived = λ base made ds h. IsDerived-stays t t' stays kept base ds made h;
      lists = λ list m h. IsParameterList-stays t t' stays kept list m h;
      parts = λ p h. stays.parts p h;
    }
