use Rattle.std.proofs.Common.{◌<◌, length}
use Rattle.std.specs.Io.KnownBytes.{Consumes}
use Rattle.ts_folder.proofs.listing.read_listing.Given as goal

-- what was read so far stands before what is left of the listing, and there is room for more
abbrev pub invariant-loop : goal.invariant-loop
invariant-loop g l = Consumes (g.D.Read.remaining l.fn.files) (g.D.Read.remaining l.files) l.listing.items × (0 < length l.room.items)
