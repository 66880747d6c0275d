-- The sides so far make the product, and those that are left make it that of all.
use Rattle.std.proofs.Common.{◌≡◌, ◌≤◌, ◌*◌, drop}
use Rattle.ts_plain.specs.Rules.{volume}
use Rattle.ts_plain.proofs.rules.volume.Given as goal

abbrev pub invariant-loop-side : goal.invariant-loop-side
invariant-loop-side l = (1 ≤ l.cells) × (l.cells * volume (drop l.side-index l.hull) ≡ volume l.hull)
