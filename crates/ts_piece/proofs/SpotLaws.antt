-- Spots of versions in batches.
use Rattle.std.proofs.Common.{◌≡◌, ℕ, ◌<◌, List, [], ◌∷◌, map, length, All}
use Rattle.std.proofs.lemmas.List.{length-map}
use Rattle.std.proofs.lemmas.Simd.{map-map}
use Rattle.std.proofs.lemmas.List.Elements.{All-map}
use Rattle.ts_base.specs.declared.heads.Version.{Version}
use Rattle.ts_table.specs.Picks.{picked}
use Rattle.ts_piece.specs.declared.spots.Spot.{Spot}
use Rattle.ts_piece.specs.Spots.{version_in, spotted, in_first, IsSpot}

-- the versions at places of a table that is the one batch
pub are_picked : (batches : List (List Version)) (spots : List Spot) (table : List Version) (places : List ℕ) → batches ≡ table ∷ [] → spots ≡ map in_first places
    → spotted batches spots ≡ picked table places
are_picked batches spots table places one firsts = rw (one, firsts) (map-map (version_in (table ∷ [])) in_first places)

-- places of that table are spots
pub are_spots : (batches : List (List Version)) (spots : List Spot) (table : List Version) (places : List ℕ) → batches ≡ table ∷ [] → spots ≡ map in_first places
    → All (λ place. place < length table) places → All (IsSpot batches) spots
are_spots batches spots table places one firsts within = rw (one, firsts) (All-map (IsSpot (table ∷ [])) in_first places within)

pub ruleset tables = (are_picked, are_spots)

-- there are as many versions as spots
pub as_many : (batches : List (List Version)) (spots : List Spot) → length (spotted batches spots) ≡ length spots
as_many batches spots = length-map spots (version_in batches)

pub ruleset counts = (as_many)
