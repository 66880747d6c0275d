-- The values so far.
use Rattle.std.proofs.Common.{◌≡◌, take}
use Rattle.ts_schema.specs.Attrs.{shown_row}
use Rattle.ts_schema.proofs.showing.show_row.Given as goal

abbrev pub invariant-loop-attr : goal.invariant-loop-attr
invariant-loop-attr l = l.shown ≡ shown_row l.attrs l.row (take l.attr-index l.wanted)
