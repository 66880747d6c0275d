use Rattle.std.proofs.Common.{All}
use Rattle.std.specs.List.{Contains}
use Rattle.ts_base.specs.declared.names.Name.{Name}
use Rattle.ts_folder.specs.Listings.{HasNameOf, IsNameUnder}
use Rattle.ts_folder.proofs.listing.add_names.Given as goal

-- what was added so far stands under the prefix, no name of a file so far is lost, and none that was there
abbrev pub invariant-loop-file : goal.invariant-loop-file
invariant-loop-file l =
    All (IsNameUnder l.prefix) l.names.keys
    × (goal.iterator-loop-file).can_next l.file-iterator
    × (goal.iterator-loop-file).is_finite l.file-iterator
    × All (λ file. HasNameOf l.prefix l.names.keys file.now) l.yielded
    × ((n : Name) → Contains l.fn.names.keys n → Contains l.names.keys n)
