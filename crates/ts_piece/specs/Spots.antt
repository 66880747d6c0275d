-- Versions of batches, by where they stand.
use Rattle.std.specs.Prelude.{ℕ, ◌<◌, List, [], map, length}
use Rattle.std.specs.List.{slice_index_or}
use Rattle.ts_base.specs.declared.heads.Version.{Version}
use Rattle.ts_table.specs.Tables.{version_or}
use Rattle.ts_piece.specs.declared.spots.Spot.{Spot}

-- the version at a spot
abbrev pub version_in : List (List Version) → Spot → Version
version_in batches s = version_or (slice_index_or batches s.batch []) s.place

-- there is a version at the spot
abbrev pub IsSpot : List (List Version) → Spot → Type 0
IsSpot batches s = s.place < length (slice_index_or batches s.batch [])

-- the versions at these spots
abbrev pub spotted : List (List Version) → List Spot → List Version
spotted batches spots = map (version_in batches) spots

-- a place of the first batch
abbrev pub in_first : ℕ → Spot
in_first place = record { batch = 0; place = place }
