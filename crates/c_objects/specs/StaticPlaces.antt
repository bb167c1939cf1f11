-- Where the static objects of a state stand in its lists.
use Rattle.c_expr_rules.specs.declared.state.State.{State}
use Rattle.c_objects.specs.declared.statics.Places.{Places}
use Rattle.c_objects.specs.Contents.{AreNewest, number_placed, number_of_text, number_filled}

pub record ArePlaces (s : State) (places : Places) : Type 0 where
  pub objects : AreNewest number_placed s.placed.items places.objects
  pub texts : AreNewest number_of_text s.literals.items places.texts
  pub fills : AreNewest number_filled s.filled.items places.fills
