use Rattle.std.proofs.Common.{◌≡◌, map, reverse}
use Rattle.ts_reader.specs.Newest.{keys_in, keys_of_others}
use Rattle.ts_reader.proofs.named.others.Given as goal

-- the keys that the fragments so far name, which are the last ones of the list
abbrev pub invariant-loop-fragment : goal.invariant-loop-fragment
invariant-loop-fragment l = keys_in l.named ≡ keys_of_others l.current (reverse (map (λ o. o.now) l.yielded))
