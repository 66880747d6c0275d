-- The tree's spelling begins with its leaves.
use Rattle.std.proofs.Common.{ap, ◌∙◌}
use Rattle.ts_wire.specs.Place.{place}
use Rattle.ts_footer.proofs.TreeLeaves.{leaves_told, leaves_whole}
use Rattle.ts_footer.proofs.leaves.leaves_of.Goals as goal

pub returns-in-Ok : goal.returns-in-Ok
returns-in-Ok c =
    let at = c.new-cursor.ensures.is ∙ ap (λ text. place text 0) (c.as_slice.ensures ∙ c.in_ok-bytes.ensures) in
    leaves_told c.args.hull.now c.args.tree.now.leaves c.args.tiles 0 c.new-cursor.result c.requires.many c.requires.fits at _ c.in-Ok.leaves c.in-Ok.ensures.reads

pub unreachable-requires : goal.unreachable-requires
unreachable-requires c =
    let at = c.new-cursor.ensures.is ∙ ap (λ text. place text 0) (c.as_slice.ensures ∙ c.in_ok-bytes.ensures) in
    leaves_whole c.args.hull.now c.args.tree.now.leaves c.args.tiles 0 c.new-cursor.result c.requires.many c.requires.fits at c.read_leaves.new.cursor c.in-Err-Damaged.field-0 c.in-Err-Damaged.field-0-0 c.in-Err-Damaged.field-0-is c.in-Err-Damaged.ensures.reads
