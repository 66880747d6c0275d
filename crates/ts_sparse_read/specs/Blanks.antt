-- Cells of which some attributes are read.
use Rattle.std.specs.Prelude.{ℕ, suc, if◌then◌else◌, List, [], ◌∷◌, get_or}
use Rattle.ts_base.specs.declared.values.Val.{Val}
use Rattle.ts_base.specs.declared.values.Val.TheVariants.{Null}
use Rattle.ts_schema.specs.declared.attrs.Attr.{Attr}
use Rattle.ts_plain.specs.declared.stored.StoredCell.{StoredCell}
use Rattle.ts_sparse_read.specs.TileReads.{is_among}

-- the values of the attributes from the k-th on, null where they are not among these places
abbrev pub blanked_row : List ℕ → ℕ → List Attr → List Val → List Val
blanked_row places k [] row = []
blanked_row places k (a ∷ attrs) row = (if is_among places k then get_or row k Null else Null) ∷ blanked_row places (suc k) attrs row

-- the cell with the values of the attributes at these places alone
abbrev pub blanked : List Attr → List ℕ → StoredCell → StoredCell
blanked attrs places cell = record { coords = cell.coords; origin = cell.origin; row = blanked_row places 0 attrs cell.row }
