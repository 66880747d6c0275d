use Rattle.std.proofs.Common.{◌≡◌, ◌+◌, ◌*◌, ◌^◌, ◌≤◌, drop}
use Rattle.ts_script.specs.Options.{number_from}
use Rattle.ts_script.proofs.options.decimal.Given as goal

abbrev pub invariant-loop-place : goal.invariant-loop-place
invariant-loop-place l = (l.number + 23 ≤ 23 * 10 ^ l.place) × (number_from l.number (drop l.place l.digits) ≡ number_from 0 l.digits)
