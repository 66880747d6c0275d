-- The pieces so far were appended, and no write failed.
use Rattle.std.proofs.Common.{◌≡◌, take}
use Rattle.std.specs.List.{flat_map}
use Rattle.std.specs.Io.KnownBytes.{Appends}
use Rattle.ts_top.proofs.texts.write_pieces.Given as goal

abbrev pub invariant-loop-piece : goal.invariant-loop-piece
invariant-loop-piece g l =
    Appends (g.K.Sink.contents l.initial.sink) (g.K.Sink.contents l.sink) (flat_map (λ piece. piece) (take l.piece-index l.pieces))
    × (g.K.Sink.faults l.sink ≡ g.K.Sink.faults l.initial.sink)
