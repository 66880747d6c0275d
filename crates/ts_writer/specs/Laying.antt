-- What laying the columns of a write gives.
use Rattle.std.specs.Prelude.{◌≡◌, ⊤, List, Result, Ok, Err}
use Rattle.ts_base.specs.declared.heads.Cell.{Cell}
use Rattle.ts_base.specs.declared.heads.Piece.{Piece}
use Rattle.ts_schema.specs.declared.frames.Frame.{Frame}
use Rattle.ts_table.specs.declared.origins.Origin.{Origin}
use Rattle.ts_model.specs.declared.answers.Refusal.{Refusal}
use Rattle.ts_model.specs.Commands.{◌or_else◌, piece_of}
use Rattle.ts_writer.specs.declared.laying.LayFault.{LayFault}
use Rattle.ts_writer.specs.declared.laying.LayFault.TheVariants as fault

-- the result is the one that is wanted, a value or a refusal, unless there was no memory
abbrev pub LaysOr : {A : Type 0} → Result A Refusal → Result A LayFault → Type 0
LaysOr wanted (Ok x) = wanted ≡ Ok x
LaysOr wanted (Err (fault.Refused r)) = wanted ≡ Err r
LaysOr wanted (Err fault.OutOfMemory) = ⊤

-- the piece of a write of this origin, where it lays cells, or why it is refused
abbrev pub pieced : Frame → Origin → Result (List Cell) Refusal → Result Piece Refusal
pieced frame origin laid = laid or_else λ cells. Ok (piece_of frame (record { key = origin.key; schema = origin.schema; cells = cells }))
