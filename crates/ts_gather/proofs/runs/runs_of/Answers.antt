-- One row more.
use Rattle.std.proofs.Common.{rules, ◌≡◌, ◌<◌, ◌++◌, ◌∷◌, [], length, get_or, refl}
use Rattle.ts_gather.proofs.RunLaws.{writing_more}
use Rattle.ts_gather.proofs.runs.runs_of.Goals as goal

pub loop-row-preserved : goal.loop-row-preserved
loop-row-preserved c =
    let l = c.loop-row in
    let row = get_or c.args.rows.now l.row-index 0 in
    let o = get_or c.args.origins.now (get_or c.args.rows.now l.row-index 0) 0 in
    let within : c.loop-row.row-index < length c.args.rows.now = search rules in
    let push : c.push.new.self.items ≡ c.loop-row.cells.items ++ c.in_ok-cell.cell ∷ [] = search rules in
    record {
      rows = writing_more c.args.keys.now c.args.schema c.args.origins.now c.args.rows.now l.writes.items c.write_of.new.writes.items l.cells.items c.push.new.self.items l.row-index row o c.in_ok-cell.cell
          l.invariant.rows within refl refl c.in_ok-cell.ensures.ends c.in_ok-cell.ensures.cell c.in_ok-cell.ensures.longer c.in_ok-cell.ensures.kept push;
      last = c.in_ok-cell.ensures.ends;
    }
