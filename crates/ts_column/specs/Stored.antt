-- Values as they are stored, before it is known which are there.
use Rattle.std.specs.Prelude.{ℕ, pos, List, [], map}
use Rattle.std.specs.List.{slice_index_or}
use Rattle.ts_base.specs.declared.values.Val.{Val}
use Rattle.ts_base.specs.declared.values.Val.TheVariants.{Int, Bytes}
use Rattle.ts_table.specs.declared.kinds.Kind.{Kind}
use Rattle.ts_table.specs.declared.kinds.Kind.TheVariants as kind
use Rattle.ts_table.specs.Columns.{val_of, vals_from}
use Rattle.ts_column.specs.declared.stored.Stored.{Stored}
use Rattle.ts_column.specs.declared.stored.Stored.TheVariants.{Numbers, Texts}

-- the values
abbrev pub stored_vals : Stored → List Val
stored_vals (Numbers numbers) = map Int numbers
stored_vals (Texts texts) = map Bytes texts

-- the values of these kinds
abbrev pub kinds_vals : Stored → List Kind → List Val
kinds_vals (Numbers numbers) kinds = vals_from numbers [] 0 kinds
kinds_vals (Texts texts) kinds = vals_from [] texts 0 kinds

-- the kind of the values
abbrev pub kind_of : Stored → Kind
kind_of (Numbers numbers) = kind.Number
kind_of (Texts texts) = kind.Text

-- the value at a place that is of a kind
abbrev pub kind_val : Stored → Kind → ℕ → Val
kind_val (Numbers numbers) k place = val_of k (slice_index_or numbers place (pos 0)) []
kind_val (Texts texts) k place = val_of k (pos 0) (slice_index_or texts place [])
