use Rattle.std.proofs.Common.{option_map, ap, ◌∙◌}
use Rattle.ts_script.specs.Trees.{view}
use Rattle.ts_script.proofs.TreeLemmas.{members_view-lookup}
use Rattle.ts_script.proofs.tree.take_member.Goals as goal

pub returns : goal.returns
returns c = ap (option_map view) c.remove.ensures.value ∙ members_view-lookup c.args.key.now c.args.members.now.entries
