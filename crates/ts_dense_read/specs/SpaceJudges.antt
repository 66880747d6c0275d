-- What the spans hold that were got of space tiles.
use Rattle.std.specs.Prelude.{ℕ, List, [], ◌∷◌, ◌++◌, length, drop, Result, Ok, Err}
use Rattle.ts_schema.specs.declared.attrs.Attr.{Attr}
use Rattle.ts_schema.specs.declared.frames.Frame.{Frame}
use Rattle.ts_schema.specs.Wants.{taken}
use Rattle.ts_plain.specs.declared.stored.StoredHead.{StoredHead}
use Rattle.ts_plain.specs.declared.stored.StoredCell.{StoredCell}
use Rattle.ts_fetch.specs.declared.judging.Verdict.{Verdict}
use Rattle.ts_fetch.specs.declared.judging.Verdict.TheVariants.{Whole, Broken}
use Rattle.ts_dense.specs.Slots.{versions_of}
use Rattle.ts_sparse_read.specs.declared.opened.WantedTile.{WantedTile}
use Rattle.ts_sparse_read.specs.Faults.{Fault, and_then}
use Rattle.ts_sparse_read.specs.Judges.{ranged}
use Rattle.ts_dense_read.specs.declared.opened.Opened.{Opened}
use Rattle.ts_dense_read.specs.SlotReads.{slots_of_tile}

-- the slots of tiles whose spans were got one after another, or what is broken in the first tile that is
abbrev pub slots_of_tiles : Frame → List Attr → List ℕ → StoredHead → List WantedTile → List (List ℕ) → Result (List StoredCell) Fault
slots_of_tiles frame attrs places head [] got = Ok []
slots_of_tiles frame attrs places head (t ∷ tiles) got =
    and_then (slots_of_tile frame attrs places head t.leaf t.cells (ranged t.spans got)) (λ slots.
    and_then (slots_of_tiles frame attrs places head tiles (drop (length t.spans) got)) (λ others. Ok (slots ++ others)))

-- what a fetch answers: what is wanted of the cells that the slots have, or the part that is broken
abbrev pub verdict_on : Opened → Result (List StoredCell) Fault → Verdict
verdict_on opened (Ok slots) = Whole (taken opened.want (versions_of opened.head slots))
verdict_on opened (Err fault) = Broken fault.part fault.at

-- the verdict on what was got of the tiles
unfoldable pub space_judge : Opened → List (List ℕ) → Verdict
space_judge opened got = verdict_on opened (slots_of_tiles opened.frame opened.attrs (opened.want).attrs opened.head opened.tiles got)
