-- Both cells have as many coordinates as the domain has dimensions.
use Rattle.std.proofs.Common.{sym, ◌∙◌}
use Rattle.ts_order.proofs.OrderLemmas.{length-is_in_domain}
use Rattle.ts_model.proofs.selection.cmp_in.Goals as goal

pub cmp_plain-requires : goal.cmp_plain-requires
cmp_plain-requires c = length-is_in_domain c.args.frame.now.domain c.args.b.now c.requires.second ∙ sym (length-is_in_domain c.args.frame.now.domain c.args.a.now c.requires.first)

pub cmp_plain-requires-in-Col : goal.cmp_plain-requires-in-Col
cmp_plain-requires-in-Col c = length-is_in_domain c.args.frame.now.domain c.args.b.now c.requires.second ∙ sym (length-is_in_domain c.args.frame.now.domain c.args.a.now c.requires.first)
