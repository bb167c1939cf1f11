-- Code that idles plays nothing.
use Rattle.std.proofs.Common.{◌≡◌, ℕ, zero, suc, List, [], ◌∷◌, true, subst, refl}
use Rattle.ideal_machine.specs.declared.value.Value.{Value}
use Rattle.ideal_machine.specs.declared.event.Answer.TheVariants.{Done}
use Rattle.ideal_machine.specs.Values.{zero_value}
use Rattle.ideal_machine.specs.Play.{Finished, Waits, Cut, Log, with_jump, Behaviour, Goes, Ends, run}
use Rattle.ideal_machine.specs.Phrases.{Start}
use Rattle.code_thread.specs.Exec.{exec, first_registers, code_events}
use Rattle.code_gen.specs.Worked.{code_of, endless, once_back, EndlessCodePlaysNothing, OneJumpMoreIsNoPlay}

abbrev start : Start
start = record { id = 0; function = 0; argument = zero_value; base = λ _. 0 }

-- it was cut
abbrev IsCutShort : Behaviour (Unit {0}) ℕ → Type 0
IsCutShort (Goes s v w) = ⊥
IsCutShort (Ends (Finished f) w) = ⊥
IsCutShort (Ends Waits w) = ⊥
IsCutShort (Ends Cut w) = Unit {0}

-- it was cut, or made a backward jump
abbrev HasIdled : Behaviour (Unit {0}) ℕ → Type 0
HasIdled (Ends Cut w) = Unit {0}
HasIdled (Goes s v w) = w.jumps ≡ 1
HasIdled (Ends (Finished f) w) = w.jumps ≡ 1
HasIdled (Ends Waits w) = w.jumps ≡ 1

endless_cut : (m : ℕ) (regs : List Value) (w : Log) → IsCutShort (run (exec true endless m 0 regs) w)
endless_cut zero regs w = tt
endless_cut (suc m) regs w = endless_cut m regs (with_jump w)

pub endless_plays_nothing : EndlessCodePlaysNothing
endless_plays_nothing plays =
    let h = (plays start (Done ∷ [])).of_play 0 in
    subst IsCutShort h.1 (endless_cut h.0 first_registers _)

once_idles : (m : ℕ) → HasIdled (code_events m (code_of once_back) start (Done ∷ []))
once_idles zero = tt
once_idles (suc zero) = tt
once_idles (suc (suc zero)) = tt
once_idles (suc (suc (suc zero))) = tt
once_idles (suc (suc (suc (suc zero)))) = tt
once_idles (suc (suc (suc (suc (suc m))))) = refl

-- the play makes no backward jump
abbrev HasNone : ℕ → Type 0
HasNone zero = Unit {0}
HasNone (suc n) = ⊥

pub one_jump_more : OneJumpMoreIsNoPlay
one_jump_more plays =
    let h = (plays start (Done ∷ [])).of_play 0 in
    subst HasNone (subst HasIdled h.1 (once_idles h.0)) tt
