-- Tiles: the values of some cells of one attribute as bytes, in three parts.
use Rattle.std.specs.Prelude.{◌≡◌, ℕ, ◌-◌, Bool, true, false, ◌&&◌, if◌then◌else◌, ℤ, pos, nat_eq, nat_le, List, [], ◌∷◌, ◌++◌, map, length, Option, Some, None, Result, Ok, Err}
use Rattle.std.specs.Ordering.{int_eq}
use Rattle.ts_base.specs.declared.values.Val.{Val}
use Rattle.ts_base.specs.declared.values.Val.TheVariants.{Null, Int, Bytes}
use Rattle.ts_base.specs.declared.values.ValType.{ValType}
use Rattle.ts_base.specs.declared.values.ValType.TheVariants.{I8, I16, I32, I64}
use Rattle.ts_base.specs.Values.{is_integer, width_of}
use Rattle.ts_value.specs.Fits.{fits_of}
use Rattle.ts_table.specs.Texts.{first_or}
use Rattle.ts_column.specs.declared.tiles.Tile.{Tile}
use Rattle.ts_column.specs.declared.tiles.TileFault.{TileFault}
use Rattle.ts_column.specs.declared.tiles.TileFault.TheVariants as fault
use Rattle.ts_wire.specs.Place.{Place, Read, place, bytes_at, given, mapped, ruled, items_at, each_at, whole}
use Rattle.ts_wire.specs.Numbers.{number_at, int_at}
use Rattle.ts_wire.specs.Fields.{bool_at}

-- ---- integers

-- whether the numbers of an integer type may be negative
abbrev pub is_signed : ValType → Bool
is_signed I8 = true
is_signed I16 = true
is_signed I32 = true
is_signed I64 = true
is_signed _ = false

-- so many integers of n bytes
unfoldable pub ints_at : ℕ → Bool → ℕ → Place → Read (List ℤ)
ints_at n signed count = items_at (λ _. int_at n signed) count []

-- the integers that the bytes hold, or the offset of the first broken field
unfoldable pub ints_in : ℕ → Bool → ℕ → List ℕ → Result (List ℤ) ℕ
ints_in n signed count bytes = whole (ints_at n signed count) (place bytes 0)

-- ---- texts and blobs: where the bytes of each start, and the bytes

-- the last of these, if there is one
abbrev pub last_of : List ℕ → Option ℕ
last_of [] = None
last_of (s ∷ []) = Some s
last_of (s ∷ t ∷ starts) = last_of (t ∷ starts)

-- whether a start may stand behind these: the first is 0, and none is below the one before
abbrev pub may_follow : Option ℕ → ℕ → Bool
may_follow None s = nat_eq s 0
may_follow (Some before) s = nat_le before s

-- a start in eight bytes behind those before it, and not past the end
abbrev pub start_at : ℕ → List ℕ → Place → Read ℕ
start_at end front = ruled (λ s. may_follow (last_of front) s && nat_le s end) (number_at 8)

-- so many starts of byte lists that end here
unfoldable pub starts_in : ℕ → ℕ → List ℕ → Result (List ℕ) ℕ
starts_in end count bytes = whole (items_at (start_at end) count []) (place bytes 0)

-- how many bytes go from each start to the next, and from the last to the end
abbrev pub lengths_to : List ℕ → ℕ → List ℕ
lengths_to [] end = []
lengths_to (s ∷ starts) end = (first_or starts end - s) ∷ lengths_to starts end

-- so many bytes, which are UTF-8 where the type is that of texts
abbrev pub text_at : ValType → ℕ → Place → Read Val
text_at ty n = ruled (fits_of ty false) (mapped Bytes (bytes_at n))

-- the texts or blobs with these starts that the bytes hold
unfoldable pub texts_of : ValType → List ℕ → List ℕ → Result (List Val) ℕ
texts_of ty starts bytes = whole (each_at (text_at ty) (lengths_to starts (length bytes))) (place bytes 0)

-- ---- which values are there

-- the value is the one that a null is stored as: 0, or no bytes
abbrev pub is_blank : Val → Bool
is_blank Null = true
is_blank (Int z) = int_eq z (pos 0)
is_blank (Bytes bytes) = nat_eq (length bytes) 0

-- the value is no null
abbrev pub is_there : Val → Bool
is_there Null = false
is_there _ = true

-- whether the stored value is there: a mark that says so, or one that says that it is null and stands beside a blank
abbrev pub mark_at : Val → Place → Read Bool
mark_at val = ruled (λ there. if there then is_there val else is_blank val) bool_at

-- the stored value, or null where its mark says so
unfoldable pub cell_at : Val → Place → Read Val
cell_at val = mapped (λ there. if there then val else Null) (mark_at val)

-- the values of cells with these stored values; where there can be no null there are no marks
abbrev pub cells_in : Bool → List Val → List ℕ → Result (List Val) ℕ
cells_in true vals bytes = whole (each_at cell_at vals) (place bytes 0)
cells_in false vals bytes = whole (given vals) (place bytes 0)

-- ---- a whole tile

-- which part of a tile is broken, and at which offset in it
pub data TileBreak : Type 0 where
  InFixed : ℕ → TileBreak
  InVar : ℕ → TileBreak
  InValidity : ℕ → TileBreak

-- the answer of a part as that of the tile
abbrev pub in_part : {A : Type 0} → (ℕ → TileBreak) → Result A ℕ → Result A TileBreak
in_part part (Ok x) = Ok x
in_part part (Err at) = Err (part at)

-- the next part, if the one before is whole
abbrev pub then_part : {A B : Type 0} → Result A TileBreak → (A → Result B TileBreak) → Result B TileBreak
then_part (Ok x) next = next x
then_part (Err e) next = Err e

-- the stored integers: they stand in the fixed part, and the part of bytes is empty
unfoldable pub numbers_in : ValType → ℕ → Tile → Result (List Val) TileBreak
numbers_in ty count tile =
    then_part (in_part InFixed (ints_in (width_of ty) (is_signed ty) count tile.fixed)) (λ numbers.
    in_part InVar (whole (given (map Int numbers)) (place tile.var 0)))

-- the stored texts or blobs: where they start stands in the fixed part, and their bytes one after another in their own
unfoldable pub byte_lists_in : ValType → ℕ → Tile → Result (List Val) TileBreak
byte_lists_in ty count tile =
    then_part (in_part InFixed (starts_in (length tile.var) count tile.fixed)) (λ starts.
    in_part InVar (texts_of ty starts tile.var))

-- the stored values
abbrev pub stored_in : Bool → ValType → ℕ → Tile → Result (List Val) TileBreak
stored_in true ty count tile = numbers_in ty count tile
stored_in false ty count tile = byte_lists_in ty count tile

-- the values of so many cells of a type, or the first part that is broken
unfoldable pub tile_vals : ValType → Bool → ℕ → Tile → Result (List Val) TileBreak
tile_vals ty nullable count tile =
    then_part (stored_in (is_integer ty) ty count tile) (λ vals. in_part InValidity (cells_in nullable vals tile.validity))

-- the values of all tiles, or the break of the first that has one
abbrev pub tiles_vals : ValType → Bool → List ℕ → List Tile → Result (List (List Val)) TileBreak
tiles_vals ty nullable [] tiles = Ok []
tiles_vals ty nullable (count ∷ counts) [] = Ok []
tiles_vals ty nullable (count ∷ counts) (tile ∷ tiles) =
    then_part (tile_vals ty nullable count tile) (λ vals. then_part (tiles_vals ty nullable counts tiles) (λ others. Ok (vals ∷ others)))

-- the values are those of the answer, or the break is; but there may be no memory
abbrev pub DecodesTile : {A B : Type 0} → (A → B) → Result B TileBreak → Result A TileFault → Type 0
DecodesTile seen answer (Ok x) = answer ≡ Ok (seen x)
DecodesTile seen answer (Err (fault.Fixed damaged)) = answer ≡ Err (InFixed damaged.at)
DecodesTile seen answer (Err (fault.Var damaged)) = answer ≡ Err (InVar damaged.at)
DecodesTile seen answer (Err (fault.Validity damaged)) = answer ≡ Err (InValidity damaged.at)
DecodesTile seen answer (Err fault.OutOfMemory) = Unit {0}

-- the list has each column, or the answer is the first that is none
abbrev pub gathered_from : {C : Type 0} → List C → List (Result C TileFault) → Result (List C) TileFault
gathered_from front [] = Ok front
gathered_from front (Ok c ∷ rest) = gathered_from (front ++ c ∷ []) rest
gathered_from front (Err e ∷ rest) = Err e

-- so it is, but there may be no memory
abbrev pub GatherTo : {C : Type 0} → List (Result C TileFault) → Result (List C) TileFault → Type 0
GatherTo results (Ok columns) = gathered_from [] results ≡ Ok columns
GatherTo results (Err fault.OutOfMemory) = Unit {0}
GatherTo results (Err e) = gathered_from [] results ≡ Err e
