-- The greatest of the keys so far, which are the last ones of the list.
use Rattle.std.proofs.Common.{◌≡◌, map, reverse}
use Rattle.ts_schema.specs.Evolutions.{schema_at}
use Rattle.ts_schema.proofs.holding.greatest_until.Given as goal

abbrev pub invariant-loop-key : goal.invariant-loop-key
invariant-loop-key l = l.found ≡ schema_at (reverse (map (λ key. key.now) l.yielded)) l.b
