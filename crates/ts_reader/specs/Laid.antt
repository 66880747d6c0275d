-- Strips of versions, laid into the slots of a box.
use Rattle.std.specs.Prelude.{◌≡◌, ℕ, ◌+◌, ◌-◌, ◌<◌, ◌≤◌, List, [], ◌∷◌, ◌++◌, length, map, replicate, slice_index_or, All, Option, Some, None}
use Rattle.std.specs.List.{flat_map}
use Rattle.std.specs.List.Sorted.{IsPermutation}
use Rattle.ts_base.specs.declared.heads.Version.{Version}
use Rattle.ts_strip.specs.declared.strips.Strip.{Strip}
use Rattle.ts_batch.specs.Batches.{versions_of}
use Rattle.ts_domain.specs.declared.boxes.SubBox.{SubBox}
use Rattle.ts_domain.specs.Boxes.{cells_of, coords_of_box}
use Rattle.ts_strip.specs.Strips.{strip_versions, Climb, IsStrip}

-- what stands in the slots of so many cells, from one on: the versions of the strips, and none between them
abbrev pub laid : List (List Version) → ℕ → List Strip → ℕ → List (Option Version)
laid batches at [] cells = replicate (cells - at) None
laid batches at (s ∷ strips) cells = replicate (s.start - at) None ++ (map Some (strip_versions batches s) ++ laid batches (s.start + s.count) strips cells)

-- the versions of the strip stand in their batch
pub record IsThere (batches : List (List Version)) (s : Strip) : Type 0 where
  pub named : s.batch < length batches
  pub room : s.place + s.count ≤ length (slice_index_or batches s.batch [])

-- the strips have all versions of the batches, each once, in the order of their cells in the box; no cell has two
pub record AreLaid (sub : SubBox) (batches : List (List Version)) (strips : List Strip) : Type 0 where
  pub each : All (IsStrip batches (coords_of_box sub)) strips
  pub climb : Climb 0 strips (cells_of sub)
  pub turn : List Strip
  pub shuffled : IsPermutation turn strips
  pub all : flat_map (strip_versions batches) turn ≡ versions_of batches
