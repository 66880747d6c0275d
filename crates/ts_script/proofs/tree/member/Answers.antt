use Rattle.std.proofs.Common.{option_map, ap, ◌∙◌}
use Rattle.ts_script.specs.Trees.{view}
use Rattle.ts_script.proofs.TreeLemmas.{view_behind, members_view-lookup}
use Rattle.ts_script.proofs.tree.member.Goals as goal

pub returns : goal.returns
returns c = view_behind c.get.result ∙ ap (option_map view) c.get.ensures.value ∙ members_view-lookup c.args.key.now c.args.members.now.entries
