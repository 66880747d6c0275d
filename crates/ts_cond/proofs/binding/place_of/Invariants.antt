use Rattle.std.proofs.Common.{◌≡◌, drop}
use Rattle.ts_cond.specs.Picks.{place_from}
use Rattle.ts_cond.proofs.binding.place_of.Given as goal

abbrev pub invariant-loop-place : goal.invariant-loop-place
invariant-loop-place l = place_from l.field l.place (drop l.place l.attrs) ≡ place_from l.field 0 l.attrs
