-- The places of values of one kind.
use Rattle.std.proofs.Common.{rules}
use Rattle.ts_table.proofs.KindLists.{same_at}
use Rattle.ts_table.proofs.kinds.Kinds.gathered.Goals as goal

pub returns-then-are_none : goal.returns-then-are_none
returns-then-are_none c =
    let ks = c.self.inside in
    rw (c.in_ok-same.ensures.ok, ← c.self.view_is) (same_at ks.count ks.first ks.rest.items c.args.places.now (search rules) (rw c.self.view_is (search rules)))
