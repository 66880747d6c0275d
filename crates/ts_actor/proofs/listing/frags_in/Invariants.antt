use Rattle.std.proofs.Common.{◌≡◌, take}
use Rattle.std.specs.Prelude.{filter_map, All}
use Rattle.ts_actor.specs.Listings.{IsSpelledAs, frag_in}
use Rattle.ts_actor.proofs.listing.frags_in.Given as goal

-- what the names so far name
abbrev pub invariant-loop-name : goal.invariant-loop-name
invariant-loop-name l = record {
  is : l.frags ≡ filter_map (frag_in l.kind) (take l.name-index l.names);
  spelled : All (IsSpelledAs l.kind) l.frags;
}
