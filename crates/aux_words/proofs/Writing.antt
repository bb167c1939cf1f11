-- A `WriteHalf`: its step, and what it does alone.
use Rattle.std.proofs.Common.{◌≡◌, ◌≢◌, ℕ, ◌^◌, ◌<◌, List, Option, Some, None, inl, inr, if◌then◌else◌, slice_set, refl, sym, ap, ◌∙◌, subst, arith}
use Rattle.std.proofs.lemmas.Bool.{cases_eq}
use Rattle.std.proofs.lemmas.List.{set-get_or}
use Rattle.heap_words.specs.Alone.{EndsAlone}
use Rattle.heap_words.specs.Operations.{words_after}
use Rattle.heap_words.specs.Steps.{IsKnownOf}
use Rattle.heap_words.specs.Work.{Next, with_stage}
use Rattle.heap_words.specs.declared.op.WordOp.{WordOp}
use Rattle.heap_words.specs.declared.op.WordOp.TheVariants.{Load, Store}
use Rattle.heap_words.specs.declared.piece.Step.TheVariants.{More, Done}
use Rattle.heap_words.proofs.Rules.{by_equal, StepsAlone, alone_by, ends_alone}
use Rattle.object_header.specs.Contents.{IsLaidOut, ChangesOnly}
use Rattle.object_header.specs.Halves.{table_of, IsHalf, KnowsTable}
use Rattle.object_header.specs.WordMap.{Layout, Site, Part, Header, Payload, IsPart, place_of, place_of_site}
use Rattle.object_header.specs.declared.words.HeaderWord.TheVariants.{Table}
use Rattle.object_header.proofs.MapProofs.{map_laws}
use Rattle.aux_words.specs.HalfSteps.{half_place, half_part, half_steps, KeepsTable, HasHalf}
use Rattle.aux_words.specs.ReadHalf.{read_half, read_work}
use Rattle.aux_words.specs.WriteHalf.{write_half, write_op, write_next, write_work, OfWrite, SetsHalf, WriteSteps}
use Rattle.aux_words.specs.declared.write_half.WriteHalf.{WriteHalf}
use Rattle.aux_words.proofs.Halves.{header_at, known_half, half_at, starts as word_starts, keeps as word_keeps, half_stays}
use Rattle.aux_words.proofs.Reading.{ends as read_ends}

pub starts : (l : Layout) (words : List ℕ) (site : Site) (word cap : ℕ) → IsPart l (Payload site word) → cap < 2 ^ 64 → (table_of l words site ≡ 0 → cap ≡ 0) → OfWrite l words site (write_half (place_of_site l site) word cap None)
starts l words site word cap in_map fits has = record { of_word = word_starts l words site word in_map; cap_fits = fits; has_table = has }

pub starts_at_table : (l : Layout) (words : List ℕ) (site : Site) (word cap : ℕ) → IsPart l (Payload site word) → cap < 2 ^ 64 → table_of l words site ≢ 0 → OfWrite l words site (write_half (place_of_site l site) word cap (Some (table_of l words site)))
unfolding KnowsTable
starts_at_table l words site word cap in_map fits some = record {
  of_word = record { in_map = in_map; object_is = refl; knows = (some, refl) };
  cap_fits = fits;
  has_table = λ none. absurd (some none);
}

pub keeps : (l : Layout) (old new : List ℕ) (site : Site) (piece : WriteHalf) → KeepsTable l old new site → OfWrite l old site piece → OfWrite l new site piece
keeps l old new site piece stays is = record {
  of_word = word_keeps l old new site piece.object piece.word piece.table stays is.of_word;
  cap_fits = is.cap_fits;
  has_table = λ none. elim (cases_eq (table_of l old site) 0) [
    | inl before ↦ is.has_table before
    | inr some ↦ absurd (some (sym (stays some) ∙ none))
  ];
}

module _ (l : Layout) (words : List ℕ) (site : Site) (half : Part) (object word cap : ℕ) (laid_out : IsLaidOut l words) (has : HasHalf l words site word half) where
  abbrev at : Option ℕ → WriteHalf
  at table = record { object = object; word = word; cap = cap; table = table }

  abbrev Known : ℕ → List ℕ → Next (Option ℕ) (Unit {0}) → Type 0
  Known before left next = IsKnownOf {P = WriteHalf} (λ p. half_steps p.table) before (λ p. OfWrite l left site p × (p.word ≡ word) × (p.cap ≡ cap)) ⊥ (λ out. SetsHalf l words left site half cap) (with_stage at next)

  step_at : (table : Option ℕ) → OfWrite l words site (at table) → WriteSteps l words site half (at table)
  unfolding half_place half_part half_steps write_op write_next KnowsTable
  step_at None is =
      let part = Header site Table in
      let found = table_of l words site in
      let same : slice_set words (place_of l part) found ≡ words = set-get_or words (place_of l part) 0 in
      record {
        wants_is = ap Load (header_at l site object is.of_word.object_is);
        inside = map_laws.inside l words part laid_out is.of_word.in_map.0;
        fits = map_laws.fits l part laid_out.well_formed is.of_word.in_map.0;
        leaves = map_laws.one_part l words part found laid_out is.of_word.in_map.0;
        known =
            by_equal (λ b. Known 1 (slice_set words (place_of l part) found) (if b then record { piece = None; told = Done tt } else record { piece = Some found; told = More })) found 0
            (λ none. (λ _. (is.has_table none, same), λ some. absurd (some none)))
            (λ some.
            let next : OfWrite l words site (at (Some found)) = record { of_word = record { in_map = is.of_word.in_map; object_is = is.of_word.object_is; knows = (some, refl) }; cap_fits = is.cap_fits; has_table = is.has_table } in
            ((subst (λ ws. OfWrite l ws site (at (Some found))) (sym same) next, refl, refl), omega arith));
      }
  step_at (Some table) is =
      let is_half = known_half l words site word table half is.of_word.knows has in
      let changes = map_laws.one_part l words half cap laid_out is_half.in_map in
      record {
        wants_is = ap (λ place. Store place cap) (half_at l words site word table half laid_out is.of_word.knows is_half);
        inside = map_laws.inside l words half laid_out is_half.in_map;
        fits = (map_laws.fits l half laid_out.well_formed is_half.in_map, is.cap_fits);
        leaves = changes;
        known = (λ none. absurd (is_half.has_table none), λ _. changes);
      }

pub steps : (l : Layout) (words : List ℕ) (site : Site) (half : Part) (piece : WriteHalf) → IsLaidOut l words → OfWrite l words site piece → HasHalf l words site piece.word half → WriteSteps l words site half piece
steps l words site half piece laid_out is has = step_at l words site half piece.object piece.word piece.cap laid_out has piece.table is

module _ (l : Layout) (words : List ℕ) (site : Site) (word cap : ℕ) (half : Part) (laid_out : IsLaidOut l words) (has : HasHalf l words site word half) where
  -- until the store the words stay
  abbrev Holds : List ℕ → WriteHalf → Type 0
  Holds w piece = (w ≡ words) × OfWrite l words site piece × (piece.word ≡ word) × (piece.cap ≡ cap)

  abbrev Ends : List ℕ → Unit {0} → Type 0
  Ends w out = SetsHalf l words w site half cap

  abbrev Alone : List ℕ → WriteHalf → Type 0
  Alone = StepsAlone write_work (λ p. half_steps p.table) Holds Ends

  alone_at : (object : ℕ) (table : Option ℕ) → OfWrite l words site (write_half object word cap table) → Alone words (write_half object word cap table)
  unfolding half_place half_part half_steps write_op write_next
  alone_at object None is =
      let part : Part = Header site Table in
      let op : WordOp = Load (place_of l part) in
      let same : words_after op words ≡ words = set-get_or words (place_of l part) 0 in
      alone_by write_work (λ p. half_steps p.table) words (write_half object word cap None) op (λ found left. ChangesOnly l words left part found) (λ ws p. OfWrite l ws site p × (p.word ≡ word) × (p.cap ≡ cap)) Holds Ends Ends (steps l words site half (write_half object word cap None) laid_out is has)
      (λ p holds. (same, subst (λ ws. OfWrite l ws site p) same holds.0, holds.1, holds.2))
      (λ out told. told)
  alone_at object (Some table) is =
      let step = steps l words site half (write_half object word cap (Some table)) laid_out is has in
      record { op = Store (place_of l half) cap; wants_is = step.wants_is; inside = step.inside; known = step.known }

  alone : (piece : WriteHalf) (w : List ℕ) → Holds w piece → Alone w piece
  alone piece w (stays, is, word_is, cap_is) =
      let P : ℕ → ℕ → Type 0 = λ n c. OfWrite l words site (write_half piece.object n c piece.table) → Alone words (write_half piece.object n c piece.table) in
      subst (λ ws. Alone ws piece) (sym stays) (subst (λ n. P n piece.cap) (sym word_is) (subst (λ c. P word c) (sym cap_is) (alone_at piece.object piece.table)) is)

  pub ends : IsPart l (Payload site word) → cap < 2 ^ 64 → (table_of l words site ≡ 0 → cap ≡ 0) → EndsAlone write_work 2 (write_half (place_of_site l site) word cap None) words (λ out left. Ends left out)
  unfolding half_steps
  ends in_map fits some = ends_alone write_work (λ p. half_steps p.table) Holds Ends alone 2 (write_half (place_of_site l site) word cap None) words (refl, starts l words site word cap in_map fits some, refl, refl) (omega arith)

pub got : (l : Layout) (old new : List ℕ) (site : Site) (word cap : ℕ) (half : Part) → IsLaidOut l old → IsPart l (Payload site word) → IsHalf l old site word half → ChangesOnly l old new half cap → EndsAlone read_work 2 (read_half (place_of_site l site) word) new (λ out left. (out ≡ cap) × (left ≡ new))
got l old new site word cap half laid_out in_map is changes =
    let stays = half_stays l old new site word cap half in_map is changes in
    let run = read_ends l new site word half (map_laws.laid_out l old new half cap laid_out changes) (inr stays) in_map in
    record { out = run.out; left = run.left; finishes = run.finishes; holds = (run.holds.0.1 stays.has_table ∙ changes.changed, run.holds.1) }
