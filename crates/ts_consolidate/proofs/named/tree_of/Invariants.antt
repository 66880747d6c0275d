-- The keys that the fragments so far name, which are the last ones of the list.
use Rattle.std.proofs.Common.{◌≡◌, map, reverse}
use Rattle.ts_consolidate.specs.Named.{keys_in, keys_of}
use Rattle.ts_consolidate.proofs.named.tree_of.Given as goal

abbrev pub invariant-loop-fragment : goal.invariant-loop-fragment
invariant-loop-fragment l = keys_in l.named ≡ keys_of (reverse (map (λ o. o.now) l.yielded))
