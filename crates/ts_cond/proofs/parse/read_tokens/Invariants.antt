use Rattle.std.proofs.Common.{◌≡◌, ◌≤◌, ◌+◌, length}
use Rattle.ts_cond.specs.Machine.{depth_in, reads}
use Rattle.ts_cond.specs.States.{group_of, reading_of}
use Rattle.ts_cond.specs.Tokens.{scan}
use Rattle.ts_cond.proofs.parse.read_tokens.Given as goal

abbrev pub decreases-loop-rest : goal.decreases-loop-rest
decreases-loop-rest l = length l.rest

abbrev pub invariant-loop-rest : goal.invariant-loop-rest
invariant-loop-rest l =
    (reads (reading_of l.state) (scan 0 l.at l.rest) ≡ reads (reading_of l.fn.start) (scan 0 0 l.fn.text))
    × (depth_in (group_of l.state.group) ≤ 32)
    × (l.state.nodes ≤ 1024)
    × (length l.state.naming.used + length l.state.naming.unused ≤ 255)
    × (l.at + length l.rest ≡ length l.fn.text)
