use Rattle.std.proofs.lemmas.Map.Views.{All-insert_key}
use Rattle.ts_base.specs.Names.{name_cmp}
use Rattle.ts_folder.specs.Listings.{IsNameUnder}
use Rattle.ts_folder.proofs.Kept.{is_added, is_kept}
use Rattle.ts_folder.proofs.listing.add_name.Goals as goal

pub returns-clause-under : goal.returns-clause-under
returns-clause-under c =
    rw c.in_ok-insert.ensures.keys (All-insert_key name_cmp c.args.name (IsNameUnder c.args.prefix) c.args.names.now.keys c.requires.names c.requires.name)

pub returns-clause-added : goal.returns-clause-added
returns-clause-added c = is_added _ _ c.args.name c.in_ok-insert.ensures.updates.0

pub returns-clause-kept : goal.returns-clause-kept
returns-clause-kept c = is_kept _ _ c.args.name c.in_ok-insert.ensures.updates.0
