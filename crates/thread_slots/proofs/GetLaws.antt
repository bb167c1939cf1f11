-- A `GetByte`: its step, and what it does alone.
use Rattle.std.proofs.Common.{◌≡◌, ℕ, ◌+◌, ◌%◌, ◌^◌, ◌<◌, ◌≤◌, ◌↔◌, Bool, List, IfSome, Option, Some, None, slice_set, if◌then◌else◌, eqb, refl, sym, ◌∙◌, subst, arith}
use Rattle.std.proofs.lemmas.Bool.{eq-eqb}
use Rattle.std.proofs.lemmas.List.{set-get_or}
use Rattle.heap_words.specs.Alone.{EndsAlone}
use Rattle.heap_words.specs.Steps.{IsKnownOf}
use Rattle.heap_words.specs.Work.{Next, with_stage}
use Rattle.heap_words.specs.declared.piece.Step.{Step}
use Rattle.heap_words.specs.declared.piece.Step.TheVariants.{More, Waits, Done}
use Rattle.heap_words.proofs.Rules.{by_less, by_equal, StepsAlone, ends_alone}
use Rattle.object_header.specs.Contents.{IsLaidOut, ChangesOnly, word_at}
use Rattle.object_header.specs.WordMap.{Layout, Fixed, place_of}
use Rattle.object_header.specs.declared.words.FixedWord.TheVariants.{InputCount}
use Rattle.object_header.proofs.MapProofs.{map_laws}
use Rattle.thread_slots.specs.GetByte.{get_op, get_next, get_byte, get_work, get_steps, OfInput, IsLost, IsGot, GetSteps, GetsAlone}
use Rattle.thread_slots.specs.declared.get_byte.GetByte.{GetByte}

-- a number below another one has a next one
no_wrap : (byte many : ℕ) → byte < many → many < 2 ^ 64 → (byte + 1) % 2 ^ 64 ≡ byte + 1
no_wrap byte many below fits = omega arith

module _ (l : Layout) (words : List ℕ) (many : ℕ) (laid_out : IsLaidOut l words) (fits : many < 2 ^ 64) where
  abbrev at : Option ℕ → GetByte
  at found = record { length = many; found = found }

  abbrev place : ℕ
  place = place_of l (Fixed InputCount)

  abbrev got : ℕ
  got = word_at l words (Fixed InputCount)

  -- ---- its step
  abbrev Known : ℕ → List ℕ → Option ℕ → Next (Option ℕ) (Option ℕ) → Type 0
  Known before w found next = IsKnownOf (λ (p : GetByte). get_steps p.found) before (λ (p : GetByte). OfInput p × (p.length ≡ many) × IfSome p.found (λ byte. got ≡ byte)) (IsLost got found) (IsGot l words w many) (with_stage at next)

  pub step_at : (found : Option ℕ) → IfSome found (λ byte. byte < many) → GetSteps l words (at found)
  unfolding get_op get_next get_steps IsLost IsGot
  step_at None below = record {
    wants_is = refl;
    inside = map_laws.inside l words (Fixed InputCount) laid_out tt;
    fits = map_laws.fits l (Fixed InputCount) laid_out.well_formed tt;
    leaves = map_laws.one_part l words (Fixed InputCount) got laid_out tt;
    known =
        by_less (λ b. Known 1 (slice_set words place got) None (if b then record { piece = Some got; told = More } else record { piece = None; told = Done None })) got many
        (λ below. ((record { length_fits = fits; below = below }, refl, refl), omega arith))
        (λ end. end);
  }
  step_at (Some byte) below =
      let next : (byte + 1) % 2 ^ 64 ≡ byte + 1 = no_wrap byte many below fits in
      record {
        wants_is = refl;
        inside = map_laws.inside l words (Fixed InputCount) laid_out tt;
        fits = (map_laws.fits l (Fixed InputCount) laid_out.well_formed tt, omega (arith, below, fits), omega arith);
        leaves = map_laws.one_part l words (Fixed InputCount) (if eqb got byte then (byte + 1) % 2 ^ 64 else got) laid_out tt;
        known =
            by_equal (λ b. Known 0 (slice_set words place (if b then (byte + 1) % 2 ^ 64 else got)) (Some byte) (if b then record { piece = Some byte; told = Done (Some byte) } else record { piece = None; told = Waits })) got byte
            (λ same. (below, same, (map_laws.one_part l words (Fixed InputCount) ((byte + 1) % 2 ^ 64) laid_out tt).changed ∙ next))
            (λ other. ((record { length_fits = fits; below = tt }, refl, tt), other));
      }

  -- ---- alone
  abbrev HoldsAt : List ℕ → Option ℕ → Type 0
  HoldsAt w None = w ≡ words
  HoldsAt w (Some byte) = (w ≡ words) × (byte < many) × (got ≡ byte)

  abbrev Holds : List ℕ → GetByte → Type 0
  Holds w piece = (found : Option ℕ) × (piece ≡ at found) × HoldsAt w found

  abbrev Ends : List ℕ → Option ℕ → Type 0
  Ends w out = GetsAlone l words many out w

  abbrev left : GetByte → ℕ
  left piece = get_steps piece.found

  abbrev Alone : List ℕ → GetByte → Type 0
  Alone = StepsAlone get_work left Holds Ends

  abbrev AloneKnown : ℕ → List ℕ → Next (Option ℕ) (Option ℕ) → Type 0
  AloneKnown before w next = IsKnownOf left before (Holds w) ⊥ (Ends w) (with_stage at next)

  alone_at : (w : List ℕ) (found : Option ℕ) → HoldsAt w found → Alone w (at found)
  unfolding get_op get_next get_steps
  alone_at w None stays = subst (λ ws. Alone ws (at None)) (sym stays) (record {
    op = get_work.wants (at None);
    wants_is = refl;
    inside = map_laws.inside l words (Fixed InputCount) laid_out tt;
    known =
        by_less (λ b. AloneKnown 1 (slice_set words place got) (if b then record { piece = Some got; told = More } else record { piece = None; told = Done None })) got many
        (λ below. ((Some got, refl, (set-get_or words place 0, below, refl)), omega arith))
        (λ end. (end, set-get_or words place 0));
  })
  alone_at w (Some byte) (stays, below, same) =
      let changes : ChangesOnly l words (slice_set words place ((byte + 1) % 2 ^ 64)) (Fixed InputCount) (byte + 1) = subst (λ n. ChangesOnly l words (slice_set words place ((byte + 1) % 2 ^ 64)) (Fixed InputCount) n) (no_wrap byte many below fits) (map_laws.one_part l words (Fixed InputCount) ((byte + 1) % 2 ^ 64) laid_out tt) in
      subst (λ ws. Alone ws (at (Some byte))) (sym stays) (record {
        op = get_work.wants (at (Some byte));
        wants_is = refl;
        inside = map_laws.inside l words (Fixed InputCount) laid_out tt;
        known = subst (λ (b : Bool). AloneKnown 0 (slice_set words place (if b then (byte + 1) % 2 ^ 64 else got)) (if b then record { piece = Some byte; told = Done (Some byte) } else record { piece = None; told = Waits })) (sym (eq-eqb got byte same)) (below, same, changes);
      })

  alone : (piece : GetByte) (w : List ℕ) → Holds w piece → Alone w piece
  alone piece w (found, is, here) = subst (λ p. Alone w p) (sym is) (alone_at w found here)

  pub ends : EndsAlone get_work 2 (get_byte many) words (GetsAlone l words many)
  unfolding get_steps
  ends = ends_alone get_work left Holds Ends alone 2 (get_byte many) words (None, refl, refl) (omega arith)

pub steps : (l : Layout) (words : List ℕ) (piece : GetByte) → IsLaidOut l words → OfInput piece → GetSteps l words piece
steps l words piece laid_out is = step_at l words piece.length laid_out is.length_fits piece.found is.below

-- the end is told by a load that shows it, and by nothing else
pub tells_end : (many : ℕ) (found : Option ℕ) (answer : ℕ) → (get_next many found answer).told ≡ Done None ↔ ((found ≡ None) × (many ≤ answer))
unfolding get_next
tells_end many None answer = by_less (λ b. let next : Next (Option ℕ) (Option ℕ) = if b then record { piece = Some answer; told = More } else record { piece = None; told = Done None } in next.told ≡ Done None ↔ (◌≡◌ {A = Option ℕ} None None × (many ≤ answer))) answer many
    (λ below. (λ (ends : ◌≡◌ {A = Step (Option ℕ)} More (Done None)). cc, λ at. absurd (omega (arith, at.1, below))))
    (λ end. (λ _. (refl, end), λ _. refl))
tells_end many (Some byte) answer = by_equal (λ b. let next : Next (Option ℕ) (Option ℕ) = if b then record { piece = Some byte; told = Done (Some byte) } else record { piece = None; told = Waits } in next.told ≡ Done None ↔ ((Some byte ≡ None) × (many ≤ answer))) answer byte
    (λ won. (λ (ends : Done (Some byte) ≡ Done None). cc, λ at. let clash : Some byte ≡ None = at.0 in cc))
    (λ lost. (λ (ends : ◌≡◌ {A = Step (Option ℕ)} Waits (Done None)). cc, λ at. let clash : Some byte ≡ None = at.0 in cc))
