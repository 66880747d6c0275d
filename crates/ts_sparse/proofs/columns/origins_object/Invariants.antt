-- The places so far.
use Rattle.std.proofs.Common.{◌≡◌, take, map}
use Rattle.std.specs.List.{flat_map}
use Rattle.ts_base.specs.declared.heads.Version.{Version}
use Rattle.ts_wire.specs.Numbers.{number_bytes}
use Rattle.ts_plain.specs.Writes.{place_of}
use Rattle.ts_piece.specs.Spots.{spotted}
use Rattle.ts_sparse.proofs.columns.origins_object.Given as goal

abbrev pub invariant-loop-spot : goal.invariant-loop-spot
invariant-loop-spot l = l.scribe ≡ flat_map (number_bytes 4) (map (λ (v : Version). place_of l.origins v.key) (spotted l.batches (take l.spot-index l.spots)))
