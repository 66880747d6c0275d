-- All versions are of one write.
use Rattle.std.proofs.Common.{sym}
use Rattle.ts_table.proofs.BoxTables.{version_over}
use Rattle.ts_table.proofs.box_table.BoxTable.key.Goals as goal

pub returns : goal.returns
returns c =
    let t = c.self.inside in
    let within = rw (← c.self.view_is) at c.requires in
    rw (← c.self.view_is) (sym (version_over t.origin t.attrs.items t.order t.sub c.args.place within).0)
