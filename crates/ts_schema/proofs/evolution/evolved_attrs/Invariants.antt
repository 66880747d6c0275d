-- The attributes that were kept, and those that were added so far.
use Rattle.std.proofs.Common.{◌≡◌, ◌++◌, take}
use Rattle.ts_schema.specs.Evolutions.{without}
use Rattle.ts_schema.proofs.evolution.evolved_attrs.Given as goal

abbrev pub invariant-loop-attr : goal.invariant-loop-attr
invariant-loop-attr l = l.evolved ≡ without l.change.less l.attrs ++ take l.attr-index l.change.add
