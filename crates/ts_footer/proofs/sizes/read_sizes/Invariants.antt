use Rattle.std.proofs.Common.{◌≡◌, drop}
use Rattle.ts_wire.specs.Place.{each_at}
use Rattle.ts_wire.proofs.Loop.{with_front}
use Rattle.ts_footer.specs.Columns.{size_at}
use Rattle.ts_footer.proofs.sizes.read_sizes.Given as goal

-- what was read, and what is still to be read, is all of it
abbrev pub invariant-loop-form : goal.invariant-loop-form
invariant-loop-form l =
    let read = size_at l.cells l.tiles in
    with_front l.sizes (each_at read (drop l.form-index l.forms) l.cursor) ≡ each_at read l.forms l.fn.cursor
