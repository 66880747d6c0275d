-- The values at the places have the kinds and the integers there.
use Rattle.std.proofs.Common.{rules}
use Rattle.ts_table.proofs.Parts.{gathered_vals}
use Rattle.ts_table.proofs.column.Column.gathered.Goals as goal

pub returns-in_ok-numbers : goal.returns-in_ok-numbers
returns-in_ok-numbers c =
    let col = c.self.inside in
    rw (c.of.ensures, c.in_ok-kinds.ensures, c.in_ok-numbers.ensures, c.new.ensures, ← c.self.view_is) (gathered_vals col.numbers col.texts col.kinds c.args.places.now (search rules) (rw c.self.view_is (search rules)))
