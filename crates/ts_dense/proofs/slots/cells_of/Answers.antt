-- Where the piece has all cells of its hull, each slot has the next version.
use Rattle.std.proofs.Common.{sym, ap, ◌∙◌}
use Rattle.ts_base.specs.declared.heads.Head.{Head}
use Rattle.ts_dense.proofs.FullSlots.{full_slots}
use Rattle.ts_dense.proofs.slots.cells_of.Goals as goal

pub returns-then-len-head : goal.returns-then-len-head
returns-then-len-head c =
    full_slots c.args.frame.now c.args.schema.now.attrs c.args.piece.now c.args.tiles.now c.requires.fits c.requires.tiles (sym c.len.ensures ∙ c.if-len-head.true ∙ ap (λ (head : Head). head.cells) c.head.ensures)
