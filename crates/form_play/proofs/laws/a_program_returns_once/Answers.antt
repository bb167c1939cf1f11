-- The histories that the program has; that it has no others is found by computing.
use Rattle.std.proofs.Common.{inl, refl, []}
use Rattle.std.proofs.lemmas.List.Elements.{All-nil}
use Rattle.ideal_machine.specs.declared.value.Half.TheVariants.{Nothing}
use Rattle.ideal_machine.specs.declared.event.Event.TheVariants.{Begin, Exit}
use Rattle.ideal_machine.specs.declared.event.Answer.TheVariants.{Done}
use Rattle.ideal_machine.specs.Memory.{default_world}
use Rattle.ideal_machine.specs.Allows.{IsAllowed}
use Rattle.form_play.specs.Legal.{memory_after, memory_before}
use Rattle.form_play.specs.Worked.{returning, begin}
use Rattle.form_play.proofs.laws.a_program_returns_once.Goals as goal

begin_allowed : IsAllowed (default_world []) (memory_before (default_world []) returning) 0 (Begin 0 0 Nothing) Done
begin_allowed = record { may_make = (Nothing, refl, inl refl); objects = All-nil _; answers = refl }

exit_allowed :
    IsAllowed (default_world []) (memory_after (memory_before (default_world []) returning) begin) 0 (Exit 3) Done
exit_allowed = record { may_make = refl; objects = All-nil _; answers = (refl, refl) }

pub returns-clause-main_returns : goal.returns-clause-main_returns
returns-clause-main_returns c = (
  λ n. record {
    allowed = (begin_allowed, All-nil _, (exit_allowed, All-nil _, tt));
    played = (((λ half. half, λ half. inl refl, refl), tt), (tt, tt));
  },
  λ n. record { allowed = (begin_allowed, All-nil _, tt); played = (tt, tt) },
  λ n. record { allowed = tt; played = tt },
)
