-- The generator: the script that writes so many cells, and looks after them.
use Rattle.std.specs.Prelude.{ℕ, zero, suc, ◌+◌, ◌-◌, ◌*◌, ◌/◌, ◌%◌, ◌≤◌, pos, List, [], ◌∷◌, ◌++◌, codes, decimal, map, true, false, Some, None, min}
use Rattle.std.specs.List.{range_with_len}
use Rattle.ts_base.specs.declared.values.Val.{Val}
use Rattle.ts_base.specs.declared.values.Val.TheVariants.{Int}
use Rattle.ts_base.specs.declared.values.ValType.TheVariants.{I64}
use Rattle.ts_domain.specs.declared.orders.Order.TheVariants.{Row}
use Rattle.ts_domain.specs.declared.orders.Layout.TheVariants as layouts
use Rattle.ts_value.specs.Fill.{fill_of}
use Rattle.ts_model.specs.declared.commands.Command.{Command}
use Rattle.ts_model.specs.declared.commands.Command.TheVariants.{Create, Write, Read, Delete, Consolidate, Vacuum}
use Rattle.ts_model.specs.declared.commands.Line.{Line}
use Rattle.ts_script.specs.Words.{line_alone}

-- how many writes bring so many cells, 100 by each but the last
abbrev pub writes_for : ℕ → ℕ
writes_for cells = (cells + 99) / 100

-- the coordinate of a cell, by its number
abbrev pub place_of : ℕ → ℕ
place_of i = i * 48271 % 10000

-- the cells of write number k, by their numbers
abbrev pub batch : ℕ → ℕ → List ℕ
batch cells k = range_with_len (100 * k) (min 100 (cells - 100 * k))

-- so many whole numbers are the values of a column
abbrev pub values_of : (ℕ → ℕ) → List ℕ → List Val
values_of number numbers = map (λ i. Int (pos (number i))) numbers

-- the array: sparse, with one dimension `x` from 0 to 9999 in tiles of 100, and one attribute `v`
abbrev pub array_made : Command
array_made = Create (record {
  dense = false;
  dims = record { name = codes "x"; ty = I64; low = pos 0; high = pos 9999; extent = pos 100 } ∷ [];
  cell = Row;
  tile = Row;
  capacity = 10000;
  attrs = record { name = codes "v"; ty = I64; nullable = false; fill = fill_of I64 false } ∷ [];
})

-- a write of cells with these numbers: each lies at its place, and its number is its value
abbrev pub numbers_written : List ℕ → Command
numbers_written numbers = Write (record {
  cols = record { name = codes "v"; values = values_of (λ i. i) numbers } ∷ record { name = codes "x"; values = values_of place_of numbers } ∷ [];
  sub = [];
  layout = Row;
})

-- the writes from number k on, so many; number k is stamped k + 1
abbrev pub write_lines : ℕ → ℕ → ℕ → List Line
write_lines cells k zero = []
write_lines cells k (suc more) = line_alone (Some (k + 1)) false (numbers_written (batch cells k)) ∷ write_lines cells (k + 1) more

-- a read of all that there is, up to its stamp
abbrev pub all_read : Command
all_read = Read 0 0 (record { sub = []; fields = []; filter = None; layout = layouts.Row })

-- what comes behind the writes, at this stamp: a delete of the values below a number, a consolidation, a vacuum and a read
abbrev pub closing_lines : ℕ → ℕ → List Line
closing_lines at below =
    line_alone (Some at) false (Delete (codes "v < " ++ decimal below))
    ∷ line_alone (Some at) true (Consolidate 0 0 (record { min = 2; max = 64 }))
    ∷ line_alone (Some at) false Vacuum
    ∷ line_alone (Some at) true all_read
    ∷ []

-- the script that writes so many cells and looks after them: a create, the writes, and the rest behind them; the delete takes the lower quarter of the values
unfoldable pub generated : ℕ → List Line
generated cells = line_alone (Some 0) false array_made ∷ write_lines cells 0 (writes_for cells) ++ closing_lines (writes_for cells + 1) (cells / 4)

-- so many cells can be asked for
abbrev pub IsCellCount : ℕ → Type 0
IsCellCount cells = (1 ≤ cells) × (cells ≤ 100000)
