-- Both cells have a coordinate for each dimension of the domain.
use Rattle.std.proofs.Common.{arith}
use Rattle.ts_order.proofs.OrderLemmas.{length-is_in_domain}
use Rattle.ts_table.proofs.cell.Cell.compare.Goals as goal

pub cmp_plain-requires : goal.cmp_plain-requires
cmp_plain-requires c =
    let first = length-is_in_domain c.args.domain.now c.args.self.now.coords c.requires.first in
    let second = length-is_in_domain c.args.domain.now c.args.other.now.coords c.requires.second in
    rw (c.coords-in-Plain.ensures, c.coords.ensures) (omega (arith, first, second))
