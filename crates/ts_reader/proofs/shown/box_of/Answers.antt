-- The versions of the table are the cells of the box.
use Rattle.std.proofs.Common.{map, ap, ◌∙◌}
use Rattle.ts_table.specs.declared.origins.Origin.{Origin}
use Rattle.ts_reader.specs.Shown.{pair_of}
use Rattle.ts_reader.proofs.Across.{box_pairs}
use Rattle.ts_reader.proofs.shown.box_of.Goals as goal

pub returns : goal.returns
returns c =
    let r = c.args.reading.now in
    let origin : Origin = record { key = (r.current).key; schema = (r.current).key } in
    ap (map pair_of) (c.of_box.ensures ∙ c.of.ensures) ∙ box_pairs origin c.args.vals.items (r.ready).sub c.requires.reading.valid c.requires.long
