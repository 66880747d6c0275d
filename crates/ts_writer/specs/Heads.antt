-- The head of the piece of a write.
use Rattle.std.specs.Prelude.{ℕ, false, [], ◌∷◌, length}
use Rattle.ts_base.specs.declared.heads.Head.{Head}
use Rattle.ts_base.specs.Keys.{frag_of}
use Rattle.ts_domain.specs.declared.boxes.SubBox.{SubBox}
use Rattle.ts_schema.specs.declared.frames.Frame.{Frame}
use Rattle.ts_table.specs.declared.origins.Origin.{Origin}
use Rattle.ts_model.specs.declared.deeds.Written.{Written}
use Rattle.ts_model.specs.Commands.{low_of_cells, high_of_cells}

-- the head of the piece of a write of this origin, of so many cells in this hull
abbrev pub head_over : Frame → Origin → SubBox → ℕ → Head
head_over frame origin hull count = record {
  frag = frag_of origin.key;
  schema = origin.schema;
  dense = frame.dense;
  consolidated = false;
  low = hull.low;
  high = hull.high;
  cells = count;
  origins = origin.key ∷ [];
}

-- the head of the piece of a write
abbrev pub head_in : Frame → Written → Head
head_in frame w = head_over frame (record { key = w.key; schema = w.schema }) (record { low = low_of_cells w.cells; high = high_of_cells w.cells }) (length w.cells)
