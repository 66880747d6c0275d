-- Strips: so many cells that stand one after another in a box, whose versions stand so in a batch.
use Rattle.std.specs.Prelude.{◌≡◌, ℕ, ◌+◌, ◌<◌, ◌≤◌, ℤ, List, [], ◌∷◌, map, length, take, drop, slice_index_or}
use Rattle.ts_base.specs.declared.heads.Version.{Version}
use Rattle.ts_strip.specs.declared.strips.Strip.{Strip}

-- the versions of a strip
abbrev pub strip_versions : List (List Version) → Strip → List Version
strip_versions batches s = take s.count (drop s.place (slice_index_or batches s.batch []))

-- the versions stand in the batch, and their cells in the box
pub record IsStrip (batches : List (List Version)) (cells : List (List ℤ)) (s : Strip) : Type 0 where
  pub named : s.batch < length batches
  pub room : s.place + s.count ≤ length (slice_index_or batches s.batch [])
  pub alike : map (λ (v : Version). v.coords) (strip_versions batches s) ≡ take s.count (drop s.start cells)

-- no strip begins before a place, nor before the end of another, and the last ends within so many cells
abbrev pub Climb : ℕ → List Strip → ℕ → Type 0
Climb at [] cells = at ≤ cells
Climb at (s ∷ strips) cells = (at ≤ s.start) × Climb (s.start + s.count) strips cells
