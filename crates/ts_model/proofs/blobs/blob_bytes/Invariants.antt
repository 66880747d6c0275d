use Rattle.std.proofs.Common.{◌≡◌, ◌*◌, ◌++◌, drop}
use Rattle.std.specs.Option.{option_map}
use Rattle.ts_model.specs.Commands.{blob_bytes}
use Rattle.ts_model.proofs.blobs.blob_bytes.Given as goal

abbrev pub invariant-loop-pair : goal.invariant-loop-pair
invariant-loop-pair l = option_map (λ rest. l.bytes ++ rest) (blob_bytes (drop (2 * l.pair) l.text)) ≡ blob_bytes l.text
