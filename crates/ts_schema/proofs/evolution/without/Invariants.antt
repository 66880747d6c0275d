-- The attributes that were kept so far.
use Rattle.std.proofs.Common.{◌≡◌, take}
use Rattle.ts_schema.specs.Evolutions.{without}
use Rattle.ts_schema.proofs.evolution.without.Given as goal

abbrev pub invariant-loop-attr : goal.invariant-loop-attr
invariant-loop-attr l = l.kept ≡ without l.less (take l.attr-index l.attrs)
