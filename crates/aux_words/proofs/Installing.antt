-- An `Install`: its step, and what it does alone.
use Rattle.std.proofs.Common.{◌≡◌, ℕ, ◌^◌, ◌<◌, List, eqb, if◌then◌else◌, slice_set, refl, ap, arith}
use Rattle.std.proofs.lemmas.List.{set-get_or}
use Rattle.heap_words.specs.Alone.{EndsAlone}
use Rattle.heap_words.specs.declared.op.WordOp.TheVariants.{Exchange}
use Rattle.heap_words.proofs.Rules.{by_equal, ends_at_once}
use Rattle.object_header.specs.Contents.{IsLaidOut, ChangesOnly}
use Rattle.object_header.specs.Halves.{table_of}
use Rattle.object_header.specs.WordMap.{Layout, Site, Header, IsSite, place_of, place_of_site}
use Rattle.object_header.specs.declared.words.HeaderWord.TheVariants.{Table}
use Rattle.object_header.proofs.MapProofs.{map_laws}
use Rattle.aux_words.specs.Install.{install, install_out, install_work, OfInstall, Installs, InstallSteps}
use Rattle.aux_words.specs.declared.install.Install.{Install}
use Rattle.aux_words.proofs.Halves.{header_at}

module _ (l : Layout) (words : List ℕ) (site : Site) (laid_out : IsLaidOut l words) (is_site : IsSite l site) where
  abbrev found : ℕ
  found = table_of l words site

  abbrev left : ℕ → List ℕ
  left table = slice_set words (place_of l (Header site Table)) (if eqb found 0 then table else found)

  installed : (table : ℕ) → Installs l words (left table) site table (install_out table found)
  unfolding install_out
  installed table =
      by_equal (λ b. Installs l words (slice_set words (place_of l (Header site Table)) (if b then table else found)) site table (if b then table else found)) found 0
      (λ none. (λ _. (refl, map_laws.one_part l words (Header site Table) table laid_out is_site), λ some. absurd (some none)))
      (λ some. (λ none. absurd (some none), λ _. (refl, set-get_or words (place_of l (Header site Table)) 0)))

  pub step_at : (piece : Install) → piece.object ≡ place_of_site l site → piece.table < 2 ^ 64 → InstallSteps l words site piece
  step_at piece object_is fits = record {
    wants_is = ap (λ place. Exchange place 0 piece.table) (header_at l site piece.object object_is);
    inside = map_laws.inside l words (Header site Table) laid_out is_site;
    fits = (map_laws.fits l (Header site Table) laid_out.well_formed is_site, omega arith, fits);
    leaves = map_laws.one_part l words (Header site Table) (if eqb found 0 then piece.table else found) laid_out is_site;
    known = installed piece.table;
  }

pub steps : (l : Layout) (words : List ℕ) (site table : Site) (piece : Install) → IsLaidOut l words → OfInstall l site table piece → InstallSteps l words site piece
steps l words site table piece laid_out is =
    let fits : piece.table < 2 ^ 64 = omega (arith, is.table_is, (map_laws.partition l).inside (Header table Table) is.is_table, laid_out.well_formed.small) in
    step_at l words site laid_out is.in_map piece is.object_is fits

pub ends : (l : Layout) (words : List ℕ) (site table : Site) → IsLaidOut l words → OfInstall l site table (install (place_of_site l site) (place_of_site l table)) → EndsAlone install_work 1 (install (place_of_site l site) (place_of_site l table)) words (λ out left. Installs l words left site (place_of_site l table) out)
ends l words site table laid_out is =
    let piece = install (place_of_site l site) (place_of_site l table) in
    let run = ends_at_once install_work words piece (λ word left. ChangesOnly l words left (Header site Table) word) (λ left out. Installs l words left site piece.table out) (Exchange (place_of l (Header site Table)) 0 piece.table) (steps l words site table piece laid_out is) in
    record { out = run.out; left = run.left; finishes = run.finishes; holds = run.holds.1 }
