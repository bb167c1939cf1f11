-- A `VoidObject`: its step, and what it does alone.
use Rattle.std.proofs.Common.{◌≡◌, ◌↔◌, ℕ, List, Ok, Err, if◌then◌else◌, refl, ap, ◌∙◌, arith}
use Rattle.std.specs.Prelude.{bit_and, bit_or}
use Rattle.filc_num.specs.declared.reason.Reason.TheVariants.{Freed}
use Rattle.heap_words.specs.Alone.{EndsAlone}
use Rattle.heap_words.specs.declared.op.WordOp.TheVariants.{Or}
use Rattle.heap_words.proofs.Rules.{by_equal, ends_at_once}
use Rattle.object_header.specs.Codings.{HasVoidBit}
use Rattle.object_header.specs.Contents.{IsLaidOut, ChangesOnly, state_at}
use Rattle.object_header.specs.WordMap.{Layout, Site, Header, IsSite, place_of, place_of_header, place_of_site}
use Rattle.object_header.specs.declared.codings.TheConstants.{VOID_BIT}
use Rattle.object_header.specs.declared.words.HeaderWord.TheVariants.{State}
use Rattle.object_header.proofs.MapProofs.{map_laws}
use Rattle.free_redirect.specs.VoidObject.{VoidOut, void_object, void_out, void_work, OfObject, IsVoidOut, VoidSteps, VoidsAlone}
use Rattle.free_redirect.specs.declared.void_object.VoidObject.{VoidObject}

told : (state : ℕ) → IsVoidOut state (void_out state)
unfolding void_out
told state = by_equal (λ b. IsVoidOut state (if b then Ok tt else Err Freed)) (bit_and state VOID_BIT) 0 (λ none bit. bit none) (λ bit. (refl, bit))

pub tells_freed : (state : ℕ) → ◌≡◌ {A = VoidOut} (void_out state) (Err Freed) ↔ HasVoidBit state
unfolding void_out
tells_freed state = by_equal (λ b. ◌≡◌ {A = VoidOut} (if b then Ok tt else Err Freed) (Err Freed) ↔ HasVoidBit state) (bit_and state VOID_BIT) 0
    (λ none. (λ (freed : ◌≡◌ {A = VoidOut} (Ok tt) (Err Freed)). cc, λ bit. absurd (bit none)))
    (λ bit. (λ _. bit, λ _. refl))

pub steps : (l : Layout) (words : List ℕ) (site : Site) (piece : VoidObject) → IsLaidOut l words → OfObject l site piece → VoidSteps l words site piece
steps l words site piece laid_out is =
    let part = Header site State in
    record {
      wants_is = ap (λ place. Or place VOID_BIT) (ap (λ object. place_of_header object State) is.object_is ∙ map_laws.header l site State);
      inside = map_laws.inside l words part laid_out is.in_map;
      fits = (map_laws.fits l part laid_out.well_formed is.in_map, omega arith);
      leaves = map_laws.one_part l words part (bit_or (state_at l words site) VOID_BIT) laid_out is.in_map;
      known = told (state_at l words site);
    }

pub ends : (l : Layout) (words : List ℕ) (site : Site) → IsLaidOut l words → IsSite l site → EndsAlone void_work 1 (void_object (place_of_site l site)) words (VoidsAlone l words site)
ends l words site laid_out is_site =
    ends_at_once void_work words (void_object (place_of_site l site)) (λ word left. ChangesOnly l words left (Header site State) word) (λ left out. IsVoidOut (state_at l words site) out) (Or (place_of l (Header site State)) VOID_BIT)
    (steps l words site (void_object (place_of_site l site)) laid_out (record { in_map = is_site; object_is = refl }))
