-- Both cells have as many coordinates as the domain has dimensions.
use Rattle.std.proofs.Common.{ap, sym, ◌∙◌, length}
use Rattle.ts_order.proofs.OrderLemmas.{length-is_in_domain}
use Rattle.ts_table.specs.Tables.{no_version, version_or}
use Rattle.ts_select.proofs.layout.cmp_at.Goals as goal

pub cmp_rows-requires-clause-first_long : goal.cmp_rows-requires-clause-first_long
cmp_rows-requires-clause-first_long c =
    length-is_in_domain c.args.frame.now.domain (version_or c.args.cells.now c.args.a).coords (c.requires.inside c.args.a no_version c.requires.first) ∙ sym c.count.ensures.count

pub cmp_rows-requires-clause-second_long : goal.cmp_rows-requires-clause-second_long
cmp_rows-requires-clause-second_long c =
    length-is_in_domain c.args.frame.now.domain (version_or c.args.cells.now c.args.b).coords (c.requires.inside c.args.b no_version c.requires.second) ∙ sym c.count.ensures.count

pub cmp_plain-requires : goal.cmp_plain-requires
cmp_plain-requires c =
    let domain = c.args.frame.now.domain in
    let first = length-is_in_domain domain (version_or c.args.cells.now c.args.a).coords (c.requires.inside c.args.a no_version c.requires.first) in
    let second = length-is_in_domain domain (version_or c.args.cells.now c.args.b).coords (c.requires.inside c.args.b no_version c.requires.second) in
    ap length c.coords-in-Col.ensures ∙ second ∙ sym first ∙ sym (ap length c.coords.ensures)
