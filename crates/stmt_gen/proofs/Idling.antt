-- Code that idles plays nothing.
use Rattle.std.proofs.Common.{◌≡◌, ℕ, zero, suc, ◌<◌, List, [], ◌∷◌, None, subst, refl, arith}
use Rattle.ideal_machine.specs.declared.value.Value.{Value}
use Rattle.ideal_machine.specs.declared.event.Answer.TheVariants.{Done}
use Rattle.ideal_machine.specs.Play.{Finished, Waits, Cut, Log, with_jump, Behaviour, Goes, Ends, run}
use Rattle.whole_thread.specs.Standing.{Standing}
use Rattle.whole_thread.specs.Act.{entering, by_number}
use Rattle.whole_thread.specs.CodePlay.{exec, code_events}
use Rattle.stmt_gen.specs.Worked.{code_of, endless, once_back, main_start, EndlessCodePlaysNothing, OneJumpMoreIsNoPlay}

-- it was cut
abbrev IsCutShort : Behaviour (Unit {0}) ℕ → Type 0
IsCutShort (Goes s v w) = ⊥
IsCutShort (Ends (Finished f) w) = ⊥
IsCutShort (Ends Waits w) = ⊥
IsCutShort (Ends Cut w) = Unit {0}

-- it was cut, or made a backward jump
abbrev HasIdled : Behaviour (Unit {0}) ℕ → Type 0
HasIdled (Ends Cut w) = Unit {0}
HasIdled (Goes s v w) = w.jumps ≡ 1
HasIdled (Ends (Finished f) w) = w.jumps ≡ 1
HasIdled (Ends Waits w) = w.jumps ≡ 1

-- before the first instruction of `main`, whatever its registers hold
abbrev at_first : List Value → Standing
at_first registers = entering [] 0 None registers

endless_cut : (m : ℕ) (registers : List Value) (w : Log) → IsCutShort (run (exec (code_of endless) (by_number main_start) m (at_first registers)) w)
endless_cut zero registers w = tt
endless_cut (suc m) registers w = endless_cut m registers (with_jump w)

one_round : 0 < 1
one_round = omega arith

pub endless_plays_nothing : EndlessCodePlaysNothing
endless_plays_nothing plays =
    let h = plays.of_play 1 one_round in
    subst IsCutShort h.1 (endless_cut h.0 _ _)

once_idles : (m : ℕ) → HasIdled (code_events m (code_of once_back) (by_number main_start) (Done ∷ []))
once_idles zero = tt
once_idles (suc zero) = tt
once_idles (suc (suc zero)) = tt
once_idles (suc (suc (suc zero))) = tt
once_idles (suc (suc (suc (suc zero)))) = tt
once_idles (suc (suc (suc (suc (suc m))))) = refl

-- the play makes no backward jump
abbrev HasNone : ℕ → Type 0
HasNone zero = Unit {0}
HasNone (suc n) = ⊥

pub one_jump_more : OneJumpMoreIsNoPlay
one_jump_more plays =
    let h = plays.of_play 1 one_round in
    subst HasNone (subst HasIdled h.1 (once_idles h.0)) tt
