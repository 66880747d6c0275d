-- The starts and the bytes so far.
use Rattle.std.proofs.Common.{◌≡◌, take, map}
use Rattle.std.specs.List.{flat_map}
use Rattle.ts_table.specs.Texts.{joined, starts_from}
use Rattle.ts_wire.specs.Numbers.{number_bytes}
use Rattle.ts_column.specs.Spelled.{text_of}
use Rattle.ts_column.proofs.words.write_texts.Given as goal

abbrev pub invariant-loop-place : goal.invariant-loop-place
invariant-loop-place l =
    record {
      starts : l.starts.items ≡ flat_map (number_bytes 8) (starts_from 0 (map text_of (take l.place l.column)));
      bytes : l.bytes ≡ joined (map text_of (take l.place l.column));
    }
