-- Lists of integers by their width.
use Rattle.std.specs.Prelude.{ℤ, List}
use Rattle.ts_table.specs.declared.numbers.Packing.{Packing}
use Rattle.ts_table.specs.declared.numbers.Packing.TheVariants as packing
use Rattle.ts_table.specs.declared.numbers.Integers.{Integers}
use Rattle.ts_table.specs.declared.numbers.Integers.TheVariants as integers

-- the integers that are packed so
abbrev pub packed_numbers : Packing → List ℤ
packed_numbers (packing.Short numbers) = numbers.items
packed_numbers (packing.Long numbers) = numbers

-- the integers that are seen
abbrev pub numbers_seen : Integers → List ℤ
numbers_seen (integers.Short numbers) = numbers.now
numbers_seen (integers.Long numbers) = numbers.now
