use Rattle.std.proofs.Common.{◌≡◌, ◌+◌, ◌-◌, ◌++◌, length}
use Rattle.std.specs.Prelude.{All}
use Rattle.ts_model.specs.Jobs.{IsFitLine}
use Rattle.ts_script.specs.Generator.{write_lines}
use Rattle.ts_script.proofs.generator.push_writes.Given as goal

abbrev pub invariant-loop-k : goal.invariant-loop-k
invariant-loop-k l = (l.lines.items ++ write_lines l.cells l.k (l.count - l.k) ≡ l.initial.lines.items ++ write_lines l.cells 0 l.count)
    × All IsFitLine l.lines.items
    × (length l.lines.items ≡ length l.initial.lines.items + l.k)
