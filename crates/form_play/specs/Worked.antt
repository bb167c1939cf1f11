-- Worked examples of legal histories, of the program `int main(void){return 3;}`.
use Rattle.std.specs.Prelude.{◌≡◌, ℕ, [], ◌∷◌}
use Rattle.filc_num.specs.declared.integer.IntType.TheVariants.{I32}
use Rattle.form_tree.specs.declared.expr.Expr.TheVariants as expr
use Rattle.form_tree.specs.declared.stmt.Stmt.TheVariants as stmt
use Rattle.form_tree.specs.Plain.{PlainProgram, plain_program}
use Rattle.ideal_machine.specs.declared.value.Half.TheVariants.{Nothing}
use Rattle.ideal_machine.specs.declared.event.Event.{Event}
use Rattle.ideal_machine.specs.declared.event.Event.TheVariants.{Out, Begin, Exit}
use Rattle.ideal_machine.specs.declared.event.Answer.TheVariants.{Done}
use Rattle.ideal_machine.specs.Memory.{default_world}
use Rattle.ideal_machine.specs.Worked.{after_spawn, after_join}
use Rattle.form_play.specs.Legal.{Entry, History, IsLegalHistory, start_of}

abbrev pub returning : PlainProgram
returning = plain_program (record { line = 1; locals = 0; body = stmt.Return 1 (expr.Number 1 I32 3) } ∷ []) 0

-- an event of the thread in slot 0 that was done
abbrev pub done : Event → Entry
done event = record { actor = 0; event = event; answer = Done }

abbrev pub begin : Entry
begin = done (Begin 0 0 Nothing)

-- these entries are a legal history of it, whatever the bound
abbrev pub AreLegal : History → Type 0
AreLegal history = (n : ℕ) → IsLegalHistory history returning (default_world []) n

-- they are none, whatever the bound
abbrev pub AreNotLegal : History → Type 0
AreNotLegal history = (n : ℕ) → IsLegalHistory history returning (default_world []) n → ⊥

-- `main` begins and ends the program with the status that it returns; each beginning of this is legal too
abbrev pub MainReturns : Type 0
MainReturns = AreLegal (begin ∷ done (Exit 3) ∷ []) × AreLegal (begin ∷ []) × AreLegal []

-- nothing but its Exit comes after its beginning, nor the Exit before it
abbrev pub NothingElse : Type 0
NothingElse =
    AreNotLegal (begin ∷ done (Exit 4) ∷ []) × AreNotLegal (begin ∷ done (Out 65) ∷ []) × AreNotLegal (done (Exit 3) ∷ [])

-- an event of an actor after its Exit
abbrev pub NothingAfterExit : Type 0
NothingAfterExit = AreNotLegal (begin ∷ done (Exit 3) ∷ done (Out 65) ∷ [])

-- a second beginning in a slot that is running
abbrev pub NoSecondBegin : Type 0
NoSecondBegin = AreNotLegal (begin ∷ begin ∷ done (Exit 3) ∷ [])

-- a thread is begun with the id of its slot and of the slot's generation
abbrev pub ThreadsHaveTheirIds : Type 0
ThreadsHaveTheirIds =
    (base : ℕ → ℕ) →
    ((start_of after_spawn 1 2 8 Nothing base).id ≡ 1) × ((start_of after_join 1 2 8 Nothing base).id ≡ 65)
