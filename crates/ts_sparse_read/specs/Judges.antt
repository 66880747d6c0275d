-- What the spans hold that were got of tiles.
use Rattle.std.specs.Prelude.{ℕ, List, [], ◌∷◌, ◌++◌, length, map, drop, Option, None, Result, Ok, Err}
use Rattle.ts_schema.specs.declared.attrs.Attr.{Attr}
use Rattle.ts_schema.specs.declared.frames.Frame.{Frame}
use Rattle.ts_schema.specs.Wants.{taken}
use Rattle.ts_plain.specs.declared.stored.StoredHead.{StoredHead}
use Rattle.ts_plain.specs.declared.stored.StoredCell.{StoredCell}
use Rattle.ts_plain.specs.Pieces.{version_in}
use Rattle.ts_fetch.specs.declared.judging.Verdict.{Verdict}
use Rattle.ts_fetch.specs.declared.judging.Verdict.TheVariants.{Whole, Broken}
use Rattle.ts_sparse.specs.Cuts.{last_or}
use Rattle.ts_sparse_read.specs.declared.opened.Opened.{Opened}
use Rattle.ts_sparse_read.specs.declared.opened.Span.{Span}
use Rattle.ts_sparse_read.specs.declared.opened.WantedTile.{WantedTile}
use Rattle.ts_sparse_read.specs.Faults.{Fault, and_then, Ranged}
use Rattle.ts_sparse_read.specs.TileReads.{cells_of_tile}

-- the bytes that were got of spans, none where none were
abbrev pub ranged : List Span → List (List ℕ) → List Ranged
ranged [] got = []
ranged (s ∷ spans) [] = record { part = s.part; from = s.from; bytes = [] } ∷ ranged spans []
ranged (s ∷ spans) (bytes ∷ got) = record { part = s.part; from = s.from; bytes = bytes } ∷ ranged spans got

-- the cells of tiles whose spans were got one after another, or what is broken in the first tile that is: the cells of each stand behind the last one of those before it
abbrev pub cells_of_tiles : Frame → List Attr → List ℕ → StoredHead → Option StoredCell → List WantedTile → List (List ℕ) → Result (List StoredCell) Fault
cells_of_tiles frame attrs places head before [] got = Ok []
cells_of_tiles frame attrs places head before (t ∷ tiles) got =
    and_then (cells_of_tile frame attrs places head before t.leaf t.cells (ranged t.spans got)) (λ cells.
    and_then (cells_of_tiles frame attrs places head (last_or before cells) tiles (drop (length t.spans) got)) (λ others. Ok (cells ++ others)))

-- what a fetch answers: what is wanted of the cells, or the part that is broken
abbrev pub verdict_on : Opened → Result (List StoredCell) Fault → Verdict
verdict_on opened (Ok cells) = Whole (taken opened.want (map (version_in opened.head) cells))
verdict_on opened (Err fault) = Broken fault.part fault.at

-- the verdict on what was got of the tiles
unfoldable pub sparse_judge : Opened → List (List ℕ) → Verdict
sparse_judge opened got = verdict_on opened (cells_of_tiles opened.frame opened.attrs (opened.want).attrs opened.head None opened.tiles got)
