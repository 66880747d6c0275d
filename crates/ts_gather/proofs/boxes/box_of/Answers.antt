-- The columns make a table of the box.
use Rattle.std.proofs.Common.{◌∙◌}
use Rattle.ts_gather.proofs.BoxLaws.{box_table, box_is}
use Rattle.ts_gather.proofs.boxes.box_of.Goals as goal

pub of-requires : goal.of-requires
of-requires c =
    let a = c.args in
    box_table a.origin a.order a.outer.now a.inner a.attrs.now a.vals.items c.in_ok-columns.columns.items c.in_ok-columns.ensures c.requires.valid c.requires.within c.requires.few

pub returns : goal.returns
returns c =
    let a = c.args in
    c.of.ensures ∙ box_is a.origin a.order a.outer.now a.inner a.attrs.now a.vals.items c.in_ok-columns.columns.items c.in_ok-columns.ensures
