-- Values that were decoded fit their type.
use Rattle.std.proofs.Common.{ℕ, Bool, List}
use Rattle.std.specs.List.{All}
use Rattle.ts_base.specs.declared.values.Val.{Val}
use Rattle.ts_base.specs.declared.values.ValType.{ValType}
use Rattle.ts_value.specs.Fits.{Fits}
use Rattle.ts_column.specs.declared.tiles.Tile.{Tile}
use Rattle.ts_column.specs.Spelled.{IsSpelled}

pub decoded_fits : (ty : ValType) (nullable : Bool) (count : ℕ) (tile : Tile) (vals : List Val) → IsSpelled ty nullable count tile vals → All (Fits ty nullable) vals
decoded_fits ty nullable count tile vals spelled = spelled.fits
