-- The first fault is not among the byte lists before.
use Rattle.std.proofs.Common.{◌≡◌, drop}
use Rattle.ts_column.specs.Faults.{text_fault}
use Rattle.ts_column.proofs.texts.sought_fault.Given as goal

abbrev pub invariant-loop-place : goal.invariant-loop-place
invariant-loop-place l = text_fault l.ty (drop l.place l.starts) l.bytes ≡ text_fault l.ty l.starts l.bytes
