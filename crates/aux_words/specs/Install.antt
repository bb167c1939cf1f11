-- Installing a table, in one step.
use Rattle.std.specs.Prelude.{◌≡◌, ◌≢◌, ℕ, ◌≤◌, ◌==◌, List, if◌then◌else◌}
use Rattle.heap_words.specs.Steps.{Steps}
use Rattle.heap_words.specs.Work.{Work}
use Rattle.heap_words.specs.declared.op.WordOp.TheVariants.{Exchange}
use Rattle.heap_words.specs.declared.piece.Step.TheVariants.{Done}
use Rattle.object_header.specs.Contents.{ChangesOnly}
use Rattle.object_header.specs.Halves.{table_of}
use Rattle.object_header.specs.WordMap.{Layout, Site, Header, IsSite, payload_words, place_of, place_of_header, place_of_site}
use Rattle.object_header.specs.declared.words.HeaderWord.TheVariants.{Table}
use Rattle.aux_words.specs.declared.install.Install.{Install}

-- at its start
abbrev pub install : ℕ → ℕ → Install
install object table = record { object = object; table = table }

-- the table that stands there after the exchange
unfoldable pub install_out : ℕ → ℕ → ℕ
install_out table found = if found == 0 then table else found

abbrev pub install_work : Work Install ℕ
install_work = record {
  wants = λ piece. Exchange (place_of_header piece.object Table) 0 piece.table;
  takes = λ piece answer. record { piece = piece; told = Done (install_out piece.table answer) };
}

-- the table is a site of at least as many words as the object, and not the object itself
pub record OfInstall (l : Layout) (site table : Site) (piece : Install) : Type 0 where
  pub in_map : IsSite l site
  pub object_is : piece.object ≡ place_of_site l site
  pub is_table : IsSite l table
  pub table_is : piece.table ≡ place_of_site l table
  pub not_own : table ≢ site
  pub as_many : payload_words l site ≤ payload_words l table

-- the object has this table then, which was its own or the one that is brought; no other word
-- changes
abbrev pub Installs : Layout → List ℕ → List ℕ → Site → ℕ → ℕ → Type 0
Installs l old new site table out =
    (table_of l old site ≡ 0 → (out ≡ table) × ChangesOnly l old new (Header site Table) table)
    × (table_of l old site ≢ 0 → (out ≡ table_of l old site) × (new ≡ old))

-- its step
abbrev pub InstallSteps : Layout → List ℕ → Site → Install → Type 0
InstallSteps l words site piece =
    Steps install_work (λ p. 0) words piece (Exchange (place_of l (Header site Table)) 0 piece.table) (λ word left. ChangesOnly l words left (Header site Table) word)
    (λ left next. ⊥) ⊥ (λ left out. Installs l words left site piece.table out)
