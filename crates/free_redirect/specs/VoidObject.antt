-- Making an object void, in one step.
use Rattle.std.specs.Prelude.{◌≡◌, ℕ, ◌==◌, bit_and, bit_or, List, Result, Ok, Err, if◌then◌else◌}
use Rattle.filc_num.specs.declared.reason.Reason.{Reason}
use Rattle.filc_num.specs.declared.reason.Reason.TheVariants.{Freed}
use Rattle.heap_words.specs.Steps.{Steps}
use Rattle.heap_words.specs.Work.{Work}
use Rattle.heap_words.specs.declared.op.WordOp.TheVariants.{Or}
use Rattle.heap_words.specs.declared.piece.Step.TheVariants.{Done}
use Rattle.object_header.specs.Codings.{HasVoidBit}
use Rattle.object_header.specs.Contents.{ChangesOnly, state_at}
use Rattle.object_header.specs.WordMap.{Layout, Site, Header, IsSite, place_of, place_of_header, place_of_site}
use Rattle.object_header.specs.declared.codings.TheConstants.{VOID_BIT}
use Rattle.object_header.specs.declared.words.HeaderWord.TheVariants.{State}
use Rattle.free_redirect.specs.declared.void_object.VoidObject.{VoidObject}

-- nothing, or why the object can't be freed
abbrev pub VoidOut : Type 0
VoidOut = Result (Unit {0}) Reason

-- at its start
abbrev pub void_object : ℕ → VoidObject
void_object object = record { object = object }

-- it was freed before where the old state has the void bit
unfoldable pub void_out : ℕ → VoidOut
void_out state = if bit_and state VOID_BIT == 0 then Ok tt else Err Freed

abbrev pub void_work : Work VoidObject VoidOut
void_work = record {
  wants = λ piece. Or (place_of_header piece.object State) VOID_BIT;
  takes = λ piece answer. record { piece = piece; told = Done (void_out answer) };
}

-- the piece is of this site of the map
pub record OfObject (l : Layout) (site : Site) (piece : VoidObject) : Type 0 where
  pub in_map : IsSite l site
  pub object_is : piece.object ≡ place_of_site l site

-- it tells `Freed` exactly where the object was freed before
abbrev pub IsVoidOut : ℕ → VoidOut → Type 0
IsVoidOut state (Ok done) = ¬ HasVoidBit state
IsVoidOut state (Err reason) = (reason ≡ Freed) × HasVoidBit state

-- its step: the state gets the void bit
abbrev pub VoidSteps : Layout → List ℕ → Site → VoidObject → Type 0
VoidSteps l words site piece =
    Steps void_work (λ p. 0) words piece (Or (place_of l (Header site State)) VOID_BIT) (λ word left. ChangesOnly l words left (Header site State) word)
    (λ left next. ⊥) ⊥ (λ left out. IsVoidOut (state_at l words site) out)

-- alone: besides, nothing else changes
abbrev pub VoidsAlone : Layout → List ℕ → Site → VoidOut → List ℕ → Type 0
VoidsAlone l words site out left =
    ChangesOnly l words left (Header site State) (bit_or (state_at l words site) VOID_BIT) × IsVoidOut (state_at l words site) out
