-- What the stores of a publish have filled so far.
use Rattle.std.proofs.Common.{◌≡◌, ℕ, ◌+◌, ◌*◌, ◌^◌, ◌<◌, ◌≤◌, List, inl, inr, refl, ◌∙◌, subst, arith}
use Rattle.std.proofs.lemmas.Bool.{cases_lt}
use Rattle.object_header.specs.Codings.{kind_number}
use Rattle.object_header.specs.Contents.{ChangesOnly, IsPartOf, IsPublished, KeepsSite, word_at}
use Rattle.object_header.specs.WordMap.{Layout, Site, Header, Payload, IsSite, IsPart, IsWellFormed, payload_words, place_of, place_of_site}
use Rattle.object_header.specs.declared.codings.Kind.{Kind}
use Rattle.object_header.specs.declared.codings.Kind.TheVariants.{Malloc, Home, Static, Literal, Table as TableKind, Boxed}
use Rattle.object_header.specs.declared.words.HeaderWord.TheVariants.{State, Mark, Link, Size, Table}
use Rattle.object_header.proofs.MapProofs.{map_laws}
use Rattle.cell_alloc.specs.declared.publish.PublishStage.{PublishStage}
use Rattle.cell_alloc.specs.declared.publish.PublishStage.TheVariants.{ClearLink, SetSize, ClearTable, ClearWord, SetMark, SetState}
use Rattle.cell_alloc.specs.Publish.{stage_place, stage_word, stage_part, stores_before, IsInPayload, IsFilledTo}

-- ---- the part that a stage stores to
pub is_part : (l : Layout) (site : Site) (payload : ℕ) (stage : PublishStage) → IsSite l site → payload ≡ payload_words l site → IsInPayload payload stage → IsPart l (stage_part site stage)
unfolding stage_part IsInPayload
is_part l site payload ClearLink is many inside = is
is_part l site payload SetSize is many inside = is
is_part l site payload ClearTable is many inside = is
is_part l site payload (ClearWord word) is many inside = (is, omega (arith, many, inside))
is_part l site payload SetMark is many inside = is
is_part l site payload SetState is many inside = is

pub of_site : (site : Site) (stage : PublishStage) → IsPartOf site (stage_part site stage)
unfolding stage_part
of_site site ClearLink = refl
of_site site SetSize = refl
of_site site ClearTable = refl
of_site site (ClearWord word) = refl
of_site site SetMark = refl
of_site site SetState = refl

pub place_at : (l : Layout) (site : Site) (stage : PublishStage) → IsWellFormed l → IsPart l (stage_part site stage) → stage_place (place_of_site l site) stage ≡ place_of l (stage_part site stage)
unfolding stage_place stage_part
place_at l site ClearLink well_formed is = map_laws.header l site Link
place_at l site SetSize well_formed is = map_laws.header l site Size
place_at l site ClearTable well_formed is = map_laws.header l site Table
place_at l site (ClearWord word) well_formed is = map_laws.payload l site word well_formed is
place_at l site SetMark well_formed is = map_laws.header l site Mark
place_at l site SetState well_formed is = map_laws.header l site State

-- ---- what it stores there is a word
kind_number-small : (kind : Kind) → kind_number kind < 6
kind_number-small Malloc = omega arith
kind_number-small Home = omega arith
kind_number-small Static = omega arith
kind_number-small Literal = omega arith
kind_number-small TableKind = omega arith
kind_number-small Boxed = omega arith

pub word_fits : (bytes : ℕ) (kind : Kind) (colour : ℕ) (stage : PublishStage) → bytes < 2 ^ 60 → colour < 2 ^ 64 → stage_word bytes kind colour stage < 2 ^ 64
unfolding stage_word
word_fits bytes kind colour ClearLink few small = omega arith
word_fits bytes kind colour SetSize few small = omega (arith, few, kind_number-small kind)
word_fits bytes kind colour ClearTable few small = omega arith
word_fits bytes kind colour (ClearWord word) few small = omega arith
word_fits bytes kind colour SetMark few small = small
word_fits bytes kind colour SetState few small = omega arith

-- ---- what stands
module _ (l : Layout) (site : Site) (bytes : ℕ) (kind : Kind) (colour payload : ℕ) (is : IsSite l site) (many : payload ≡ payload_words l site) where
  abbrev Filled : List ℕ → ℕ → Type 0
  Filled words stores = IsFilledTo l words site bytes kind colour payload stores

  pub unfilled : (words : List ℕ) → Filled words 0
  unfilled words = record {
    link = λ none. absurd (omega (arith, none));
    size = λ none. absurd (omega (arith, none));
    table = λ none. absurd (omega (arith, none));
    payload_word = λ word none. absurd (omega (arith, none));
    mark = λ none. absurd (omega (arith, none));
  }

  -- others leave the site
  pub kept : (old new : List ℕ) (stores : ℕ) → KeepsSite l old new site → Filled old stores → Filled new stores
  kept old new stores stays filled = record {
    link = λ stored. stays.same (Header site Link) is refl ∙ filled.link stored;
    size = λ stored. stays.same (Header site Size) is refl ∙ filled.size stored;
    table = λ stored. stays.same (Header site Table) is refl ∙ filled.table stored;
    payload_word = λ word stored inside. stays.same (Payload site word) (is, omega (arith, inside, many)) refl ∙ filled.payload_word word stored inside;
    mark = λ stored. stays.same (Header site Mark) is refl ∙ filled.mark stored;
  }

  module _ (words left : List ℕ) where
    -- one store more
    pub filled_by : (stage : PublishStage) → IsInPayload payload stage → ChangesOnly l words left (stage_part site stage) (stage_word bytes kind colour stage) → Filled words (stores_before payload stage) → Filled left (stores_before payload stage + 1)
    unfolding stage_part stage_word stores_before IsInPayload
    filled_by ClearLink inside changes filled = record {
      link = λ stored. changes.changed;
      size = λ stored. absurd (omega (arith, stored));
      table = λ stored. absurd (omega (arith, stored));
      payload_word = λ word stored. absurd (omega (arith, stored));
      mark = λ stored. absurd (omega (arith, stored));
    }
    filled_by SetSize inside changes filled = record {
      link = λ stored. changes.others (Header site Link) is (λ e. cc) ∙ filled.link (omega arith);
      size = λ stored. changes.changed;
      table = λ stored. absurd (omega (arith, stored));
      payload_word = λ word stored. absurd (omega (arith, stored));
      mark = λ stored. absurd (omega (arith, stored));
    }
    filled_by ClearTable inside changes filled = record {
      link = λ stored. changes.others (Header site Link) is (λ e. cc) ∙ filled.link (omega arith);
      size = λ stored. changes.others (Header site Size) is (λ e. cc) ∙ filled.size (omega arith);
      table = λ stored. changes.changed;
      payload_word = λ word stored. absurd (omega (arith, stored));
      mark = λ stored. absurd (omega (arith, stored));
    }
    filled_by (ClearWord at) inside changes filled = record {
      link = λ stored. changes.others (Header site Link) is (λ e. cc) ∙ filled.link (omega arith);
      size = λ stored. changes.others (Header site Size) is (λ e. cc) ∙ filled.size (omega arith);
      table = λ stored. changes.others (Header site Table) is (λ e. cc) ∙ filled.table (omega arith);
      payload_word = λ word stored below. elim (cases_lt word at) [
        | inl before ↦ changes.others (Payload site word) (is, omega (arith, below, many)) (λ same. let e : word ≡ at = cc in omega (arith, e, before)) ∙ filled.payload_word word (omega (arith, before)) below
        | inr behind ↦
            let e : at ≡ word = omega (arith, behind, stored) in
            subst (λ n. word_at l left (Payload site n) ≡ 0) e changes.changed
      ];
      mark = λ stored. absurd (omega (arith, stored, inside));
    }
    filled_by SetMark inside changes filled = record {
      link = λ stored. changes.others (Header site Link) is (λ e. cc) ∙ filled.link (omega arith);
      size = λ stored. changes.others (Header site Size) is (λ e. cc) ∙ filled.size (omega arith);
      table = λ stored. changes.others (Header site Table) is (λ e. cc) ∙ filled.table (omega arith);
      payload_word = λ word stored below. changes.others (Payload site word) (is, omega (arith, below, many)) (λ e. cc) ∙ filled.payload_word word (omega (arith, below)) below;
      mark = λ stored. changes.changed;
    }
    filled_by SetState inside changes filled = record {
      link = λ stored. changes.others (Header site Link) is (λ e. cc) ∙ filled.link (omega arith);
      size = λ stored. changes.others (Header site Size) is (λ e. cc) ∙ filled.size (omega arith);
      table = λ stored. changes.others (Header site Table) is (λ e. cc) ∙ filled.table (omega arith);
      payload_word = λ word stored below. changes.others (Payload site word) (is, omega (arith, below, many)) (λ e. cc) ∙ filled.payload_word word (omega (arith, below)) below;
      mark = λ stored. changes.others (Header site Mark) is (λ e. cc) ∙ filled.mark (omega arith);
    }

    -- with the last store it is published
    pub published : bytes ≤ 8 * payload_words l site → ChangesOnly l words left (stage_part site SetState) (stage_word bytes kind colour SetState) → Filled words (stores_before payload SetState) → IsPublished l left site bytes kind colour
    unfolding stage_part stage_word stores_before IsInPayload
    published fits changes filled =
        let all : Filled left (payload + 4 + 1) = filled_by SetState tt changes filled in
        record {
          fits = fits;
          state = changes.changed;
          mark = all.mark (omega arith);
          link = all.link (omega arith);
          size = all.size (omega arith);
          table = all.table (omega arith);
          payload = λ word inside. all.payload_word word (omega (arith, inside, many)) (omega (arith, inside, many));
        }
