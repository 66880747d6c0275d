-- No attribute so far agrees.
use Rattle.std.proofs.Common.{◌≡◌, drop}
use Rattle.ts_schema.specs.Attrs.{shown_val}
use Rattle.ts_schema.proofs.showing.shown_val.Given as goal

abbrev pub invariant-loop-place : goal.invariant-loop-place
invariant-loop-place l = shown_val (drop l.place l.attrs) (drop l.place l.row) l.wanted ≡ shown_val l.attrs l.row l.wanted
