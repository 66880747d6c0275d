-- Cells are counted one by one, and space tiles by their extent.
use Rattle.std.proofs.Common.{rules, arith, ◌≡◌, ℤ, pos, negsuc, ◌-ℤ◌, ◌≤ℤ◌, refl, FitsSigned, to_z-of_z}
use Rattle.std.specs.Prelude.{unsigned_abs}
use Rattle.std.specs.Int.{w128}
use Rattle.std.proofs.lemmas.Int.{ints}
use Rattle.ts_table.proofs.RankSteps.{cells_line, tiles_line}
use Rattle.ts_table.proofs.ranks.line_of.Goals as goal
use Rattle.ts_table.proofs.ranks.line_of.Goals.{in-Cells, in-Tiles}

positive : (z : ℤ) → pos 1 ≤ℤ z → z ≡ pos (unsigned_abs z)
positive (pos n) h = refl
positive (negsuc n) h = absurd (omega (arith, ints))

pub returns : goal.returns
returns c =
    let d = c.args.dim.now in
    let sound = c.requires.sound in
    let low : FitsSigned w128 d.low = search rules in
    let high : FitsSigned w128 d.high = search rules in
    let wide : FitsSigned w128 d.extent = search rules in
    let last : c.abs_diff-last.result ≡ unsigned_abs (d.high -ℤ d.low) = rw (to_z-of_z low, to_z-of_z high) at c.abs_diff-last.ensures in
    elim c.match-counted.branch [
      | in-Cells w ↦ rw (w.in-Cells.is, w.extent-is, to_z-of_z low) (cells_line d c.abs_diff-last.result sound last)
      | in-Tiles w ↦
          let extent : c.match-counted.extent ≡ unsigned_abs d.extent = rw (to_z-of_z wide) at w.extent-is in
          rw (w.in-Tiles.is, extent, to_z-of_z low) (tiles_line d c.abs_diff-last.result (unsigned_abs d.extent) sound last (positive d.extent sound.some))
    ]
