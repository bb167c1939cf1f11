-- A place tells its site, and where the next static lies.
use Rattle.std.proofs.Common.{◌≡◌, ℕ, ◌+◌, ◌<◌, length, true, arith}
use Rattle.std.proofs.lemmas.List.Sums.{sum_by_more}
use Rattle.object_header.specs.WordMap.{Layout, Site, Static, Header, static_size, static_at, site_start, place_of_site, IsSite}
use Rattle.object_header.specs.declared.words.HeaderWord.TheVariants.{State}
use Rattle.object_header.proofs.Covers.{partition}

-- no two sites have one place
pub one_site : (l : Layout) (site other : Site) → IsSite l site → IsSite l other → place_of_site l site ≡ place_of_site l other → site ≡ other
one_site l site other is is' e =
    let same : Header site State ≡ Header other State = (partition l).disjoint (Header site State) (Header other State) is is' (omega arith) in
    cc

-- the next static begins where a static ends
pub next_static : (l : Layout) (index : ℕ) → index < length l.statics → site_start l (Static (index + 1)) ≡ site_start l (Static index) + static_size (static_at l.statics index)
next_static l index h = omega (arith, sum_by_more static_size l.statics index (record { words = 0; table = true }) h)
