-- Versions in order: how two stand, and how they take their places.
use Rattle.std.specs.Prelude.{Bool, true, cond, not, List, [], ◌∷◌}
use Rattle.std.specs.BTreeMap.{insert_entry}
use Rattle.std.specs.declared.cmp.Ordering.{Ordering}
use Rattle.ts_base.specs.declared.heads.Version.{Version}
use Rattle.ts_base.specs.Coords.{coords_eq}
use Rattle.ts_schema.specs.declared.frames.Frame.{Frame}
use Rattle.ts_piece.specs.declared.spots.Spot.{Spot}
use Rattle.ts_piece.specs.Spots.{version_in}
use Rattle.ts_model.specs.declared.merging.VersionPlace.{VersionPlace}
use Rattle.ts_model.specs.Merging.{version_place, version_place_cmp}
use Rattle.ts_consolidate.specs.declared.ranks.Ranked.{Ranked}

-- the place of a version
abbrev pub place_of : Frame → Version → VersionPlace
place_of frame v = version_place frame v.coords v.key

-- how two versions stand: by their cells in global order, those of one cell by their keys
abbrev pub by_version : Frame → Version → Version → Ordering
by_version frame v w = version_place_cmp (place_of frame v) (place_of frame w)

-- the entries once the versions at these spots have taken their places too, so that of one place the first of them is kept
abbrev pub placed_behind : Frame → List (List Version) → List Spot → List (VersionPlace × Spot) → List (VersionPlace × Spot)
placed_behind frame batches [] es = es
placed_behind frame batches (s ∷ ss) es = insert_entry version_place_cmp (placed_behind frame batches ss es) (place_of frame (version_in batches s)) s

-- the next version, if there is one, stands at another cell
abbrev pub is_last : Version → List Version → Bool
is_last v [] = true
is_last v (w ∷ ws) = not (coords_eq v.coords w.coords)

-- the last version of each cell, where those of one cell are neighbours
abbrev pub last_alone : List Version → List Version
last_alone [] = []
last_alone (v ∷ vs) = cond (is_last v vs) (v ∷ last_alone vs) (last_alone vs)

-- where a version that is ranked stands
abbrev pub spot_of : Ranked → Spot
spot_of r = record { batch = r.batch; place = r.place }
