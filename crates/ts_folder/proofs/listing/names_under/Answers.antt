use Rattle.std.proofs.Common.{[], rules}
use Rattle.std.proofs.lemmas.List.Elements.{All-nil}
use Rattle.std.specs.List.Sorted.{IsStrictlySortedBy}
use Rattle.ts_base.specs.declared.names.Prefix.{Prefix}
use Rattle.ts_folder.specs.Listings.{IsListing, IsNameUnder}
use Rattle.ts_folder.proofs.listing.names_under.Goals as goal

-- a folder that is not there holds no names
none_listed : (prefix : Prefix) → IsListing prefix []
unfolding IsStrictlySortedBy
none_listed prefix = record { each = All-nil (IsNameUnder prefix); ascending = search rules }

pub returns-in-Err-clause-listing : goal.returns-in-Err-clause-listing
returns-in-Err-clause-listing g c = rw c.new.ensures (none_listed c.args.prefix)
