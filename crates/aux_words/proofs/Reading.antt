-- A `ReadHalf`: its step, and what it does alone.
use Rattle.std.proofs.Common.{◌≡◌, ℕ, List, Option, Some, None, if◌then◌else◌, slice_set, refl, sym, ap, ◌∙◌, subst, arith}
use Rattle.std.proofs.lemmas.List.{set-get_or}
use Rattle.heap_words.specs.Alone.{EndsAlone}
use Rattle.heap_words.specs.Operations.{words_after}
use Rattle.heap_words.specs.Steps.{IsKnownOf}
use Rattle.heap_words.specs.Work.{Next, with_stage}
use Rattle.heap_words.specs.declared.op.WordOp.{WordOp}
use Rattle.heap_words.specs.declared.op.WordOp.TheVariants.{Load}
use Rattle.heap_words.specs.declared.piece.Step.TheVariants.{More, Done}
use Rattle.heap_words.proofs.Rules.{by_equal, StepsAlone, alone_by, ends_alone}
use Rattle.object_header.specs.Contents.{IsLaidOut, ChangesOnly, word_at}
use Rattle.object_header.specs.Halves.{table_of, KnowsTable}
use Rattle.object_header.specs.WordMap.{Layout, Site, Part, Header, Payload, IsPart, place_of, place_of_site}
use Rattle.object_header.specs.declared.words.HeaderWord.TheVariants.{Table}
use Rattle.object_header.proofs.MapProofs.{map_laws}
use Rattle.aux_words.specs.HalfSteps.{half_place, half_part, half_steps, OfWord, HasHalf}
use Rattle.aux_words.specs.ReadHalf.{read_half, read_next, read_work, IsHalfWord, ReadSteps}
use Rattle.aux_words.specs.declared.read_half.ReadHalf.{ReadHalf}
use Rattle.aux_words.proofs.Halves.{header_at, known_half, half_at, starts}

module _ (l : Layout) (words : List ℕ) (site : Site) (half : Part) (object word : ℕ) (laid_out : IsLaidOut l words) (has : HasHalf l words site word half) where
  abbrev at : Option ℕ → ReadHalf
  at table = record { object = object; word = word; table = table }

  abbrev Known : ℕ → List ℕ → Next (Option ℕ) ℕ → Type 0
  Known before left next = IsKnownOf {P = ReadHalf} (λ p. half_steps p.table) before (λ p. OfWord l left site p.object p.word p.table × (p.word ≡ word)) ⊥ (λ out. IsHalfWord l words site half out) (with_stage at next)

  step_at : (table : Option ℕ) → OfWord l words site object word table → ReadSteps l words site half (at table)
  unfolding half_place half_part half_steps read_next KnowsTable
  step_at None is =
      let part = Header site Table in
      let found = table_of l words site in
      let same : slice_set words (place_of l part) found ≡ words = set-get_or words (place_of l part) 0 in
      record {
        wants_is = ap Load (header_at l site object is.object_is);
        inside = map_laws.inside l words part laid_out is.in_map.0;
        fits = map_laws.fits l part laid_out.well_formed is.in_map.0;
        leaves = map_laws.one_part l words part found laid_out is.in_map.0;
        known =
            by_equal (λ b. Known 1 (slice_set words (place_of l part) found) (if b then record { piece = None; told = Done 0 } else record { piece = Some found; told = More })) found 0
            (λ none. (λ _. refl, λ some. absurd (some none)))
            (λ some. ((subst (λ ws. OfWord l ws site object word (Some found)) (sym same) (record { in_map = is.in_map; object_is = is.object_is; knows = (some, refl) }), refl), omega arith));
      }
  step_at (Some table) is =
      let is_half = known_half l words site word table half is.knows has in
      record {
        wants_is = ap Load (half_at l words site word table half laid_out is.knows is_half);
        inside = map_laws.inside l words half laid_out is_half.in_map;
        fits = map_laws.fits l half laid_out.well_formed is_half.in_map;
        leaves = map_laws.one_part l words half (word_at l words half) laid_out is_half.in_map;
        known = (λ none. absurd (is_half.has_table none), λ _. refl);
      }

pub steps : (l : Layout) (words : List ℕ) (site : Site) (half : Part) (piece : ReadHalf) → IsLaidOut l words → OfWord l words site piece.object piece.word piece.table → HasHalf l words site piece.word half → ReadSteps l words site half piece
steps l words site half piece laid_out is has = step_at l words site half piece.object piece.word laid_out has piece.table is

module _ (l : Layout) (words : List ℕ) (site : Site) (word : ℕ) (half : Part) (laid_out : IsLaidOut l words) (has : HasHalf l words site word half) where
  abbrev Holds : List ℕ → ReadHalf → Type 0
  Holds w piece = (w ≡ words) × OfWord l words site piece.object piece.word piece.table × (piece.word ≡ word)

  abbrev Ends : List ℕ → ℕ → Type 0
  Ends w out = IsHalfWord l words site half out × (w ≡ words)

  abbrev Alone : List ℕ → ReadHalf → Type 0
  Alone = StepsAlone read_work (λ p. half_steps p.table) Holds Ends

  -- a load leaves the words
  alone : (piece : ReadHalf) (w : List ℕ) → Holds w piece → Alone w piece
  alone piece w (stays, is, word_is) =
      let part : Part = half_part site half piece.table in
      let op : WordOp = Load (place_of l part) in
      let same : words_after op words ≡ words = set-get_or words (place_of l part) 0 in
      let step = steps l words site half piece laid_out is (subst (λ n. HasHalf l words site n half) (sym word_is) has) in
      subst (λ ws. Alone ws piece) (sym stays)
      (alone_by read_work (λ p. half_steps p.table) words piece op (λ word left. ChangesOnly l words left part word) (λ ws p. OfWord l ws site p.object p.word p.table × (p.word ≡ piece.word)) Holds (λ ws out. IsHalfWord l words site half out) Ends step
      (λ p holds. (same, subst (λ ws. OfWord l ws site p.object p.word p.table) same holds.0, holds.1 ∙ word_is))
      (λ out told. (told, same)))

  pub ends : IsPart l (Payload site word) → EndsAlone read_work 2 (read_half (place_of_site l site) word) words (λ out left. Ends left out)
  unfolding half_steps
  ends in_map = ends_alone read_work (λ p. half_steps p.table) Holds Ends alone 2 (read_half (place_of_site l site) word) words (refl, starts l words site word in_map, refl) (omega arith)
