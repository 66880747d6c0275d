-- What the cells of a tile that was read keep.
use Rattle.std.proofs.Common.{◌≡◌, ℕ, ◌^◌, ◌<◌, ◌≤◌, true, ℤ, List, length, Option, Some, None, Ok, refl, subst, arith}
use Rattle.std.specs.Prelude.{IsTrue, nat_lt}
use Rattle.std.specs.List.{All}
use Rattle.std.proofs.lemmas.Bool.{lt-ltb}
use Rattle.std.proofs.lemmas.List.Elements.{All-weaker}
use Rattle.ts_base.specs.declared.values.Val.{Val}
use Rattle.ts_base.specs.Values.{is_integer, width_of}
use Rattle.ts_domain.specs.declared.dims.Dim.{Dim}
use Rattle.ts_domain.specs.declared.boxes.SubBox.{SubBox}
use Rattle.ts_domain.specs.Bounds.{is_between}
use Rattle.ts_wire.specs.Exact.{IsBytes, EachFits}
use Rattle.ts_wire.specs.Numbers.{FitsInt}
use Rattle.ts_wire.proofs.Laws.{EachFits-length}
use Rattle.ts_schema.specs.declared.attrs.Attr.{Attr}
use Rattle.ts_schema.specs.declared.frames.Frame.{Frame}
use Rattle.ts_plain.specs.declared.stored.StoredHead.{StoredHead}
use Rattle.ts_plain.specs.declared.stored.StoredCell.{StoredCell}
use Rattle.ts_plain.specs.Plain.{FitsValue}
use Rattle.ts_column.specs.Tiles.{is_signed}
use Rattle.ts_sparse.specs.Sparse.{leaf_of, FitsTypes}
use Rattle.ts_sparse.specs.Cuts.{Rise}
use Rattle.ts_sparse_read.specs.Faults.{Fault, and_then, Ranged}
use Rattle.ts_sparse_read.specs.TileReads.{is_among, rows_in, cells_from, coords_of_tile, vals_of_tile, origins_if, order_fault, unless, cells_of_tile}
use Rattle.ts_sparse_read.specs.ReadRows.{rows_fit, rows_between, cells_many, cells_all, hull_is_leaf, cells_rise}
use Rattle.ts_sparse_read.specs.ReadColumns.{then_ok, coords_columns, vals_long, vals_fit, origins_column}

-- a tile has a cell, the array a dimension, and all its dimensions are of integers; the leaf has as many sides, there are origins but not too many, and what was got is bytes and not too long
pub record CanRead (frame : Frame) (head : StoredHead) (leaf : SubBox) (count : ℕ) (ranges : List Ranged) : Type 0 where
  pub some_cell : 1 ≤ count
  pub some_dim : 1 ≤ length frame.domain
  pub ints : All (λ (d : Dim). is_integer d.ty ≡ true) frame.domain
  pub lows : length leaf.low ≡ length frame.domain
  pub highs : length leaf.high ≡ length frame.domain
  pub some_origin : 1 ≤ length head.origins
  pub few_origins : length head.origins < 256 ^ 4
  pub bytes : All (λ (r : Ranged). IsBytes r.bytes) ranges
  pub short : All (λ (r : Ranged). length r.bytes < 2 ^ 64) ranges

-- so many cells, of which the leaf is the hull; each has its coordinates in the leaf and in their types, an origin that is known, and a value for each attribute; and each may stand behind the one before it
pub record IsReadTile (frame : Frame) (attrs : List Attr) (places : List ℕ) (head : StoredHead) (before : Option StoredCell) (leaf : SubBox) (count : ℕ) (cells : List StoredCell) : Type 0 where
  pub many : length cells ≡ count
  pub hull : leaf_of cells ≡ leaf
  pub inside : All (λ (c : StoredCell). IsTrue (is_between leaf.low leaf.high c.coords)) cells
  pub typed : All (FitsTypes frame.domain) cells
  pub wide : All (λ (c : StoredCell). length c.row ≡ length attrs) cells
  -- where all attributes are read
  pub fits : ((k : ℕ) → k < length attrs → is_among places k ≡ true) → All (λ (c : StoredCell). EachFits FitsValue attrs c.row) cells
  pub known : All (λ (c : StoredCell). c.origin < length head.origins) cells
  pub small : All (λ (c : StoredCell). c.origin < 256 ^ 4) cells
  pub rises : Rise frame head before cells

-- ---- proofs

unless_ok : (cs cells : List StoredCell) (o : Option Fault) → unless cs o ≡ Ok cells → (cs ≡ cells) × (o ≡ None)
unless_ok cs cells None h = let is : cs ≡ cells = cc in (is, refl)
unless_ok cs cells (Some fault) h = absurd (cc)

-- the cells of columns that were read
cells_read : (frame : Frame) (attrs : List Attr) (places : List ℕ) (head : StoredHead) (before : Option StoredCell) (leaf : SubBox) (count : ℕ) (ranges : List Ranged) → CanRead frame head leaf count ranges
    → (coords : List (List ℤ)) (vals : List (List Val)) (origins : List ℕ) → coords_of_tile leaf count ranges 0 frame.domain ≡ Ok coords → vals_of_tile places count ranges 0 attrs ≡ Ok vals
    → origins_if head.consolidated (length head.origins) count ranges ≡ Ok origins
    → order_fault frame head.consolidated ranges 0 before (cells_from (rows_in count coords) origins (rows_in count vals)) ≡ None
    → IsReadTile frame attrs places head before leaf count (cells_from (rows_in count coords) origins (rows_in count vals))
cells_read frame attrs places head before leaf count ranges can coords vals origins coords_are vals_are origins_are none =
    let columns = coords_columns leaf count ranges can.bytes 0 frame.domain coords (omega (arith, can.lows)) (omega (arith, can.highs)) can.ints coords_are in
    let typed = rows_fit (λ (d : Dim) (x : ℤ). FitsInt (width_of d.ty) (is_signed d.ty) x) count frame.domain coords columns.0 in
    let sides = rows_between count leaf.low leaf.high coords columns.1 in
    let wide = rows_fit (λ (a : Attr) (v : Val). Unit {0}) count attrs vals (vals_long places count ranges can.bytes can.short attrs vals vals_are) in
    let known = origins_column head.consolidated (length head.origins) count ranges origins can.bytes can.some_origin can.few_origins origins_are in
    let I = λ (row : List ℤ). IsTrue (is_between leaf.low leaf.high row) in
    let E = λ (row : List ℤ). EachFits (λ (d : Dim) (x : ℤ). FitsInt (width_of d.ty) (is_signed d.ty) x) frame.domain row in
    let O = λ (o : ℕ). o < length head.origins in
    let W = λ (row : List Val). EachFits (λ (a : Attr) (v : Val). Unit {0}) attrs row in
    let V = λ (row : List Val). EachFits FitsValue attrs row in
    let xs = rows_in count coords in
    let rows = rows_in count vals in
    let inside = cells_all (λ (c : StoredCell). I c.coords) I O W (λ x o r is _ _. is) xs origins rows sides.fits known.fits wide.fits in
    let origins_known = cells_all (λ (c : StoredCell). O c.origin) I O W (λ x o r _ is _. is) xs origins rows sides.fits known.fits wide.fits in
    record {
      many = cells_many count xs origins rows sides.many known.many wide.many;
      hull = hull_is_leaf leaf count coords origins rows can.some_cell columns.1 known.many wide.many inside;
      inside = inside;
      typed = cells_all (λ (c : StoredCell). E c.coords) E O W (λ x o r is _ _. is) xs origins rows typed.fits known.fits wide.fits;
      wide = cells_all (λ (c : StoredCell). length c.row ≡ length attrs) I O W (λ x o r _ _ is. EachFits-length (λ (a : Attr) (v : Val). Unit {0}) attrs r is) xs origins rows sides.fits known.fits wide.fits;
      fits = λ all. cells_all (λ (c : StoredCell). V c.row) I O V (λ x o r _ _ is. is) xs origins rows sides.fits known.fits (rows_fit FitsValue count attrs vals (vals_fit places count ranges can.bytes can.short attrs vals all vals_are)).fits;
      known = origins_known;
      small = All-weaker (λ (c : StoredCell). O c.origin) (λ (c : StoredCell). c.origin < 256 ^ 4) (λ c is. below c.origin (length head.origins) is can.few_origins) (cells_from xs origins rows) origins_known;
      rises = cells_rise frame head head.consolidated ranges 0 before (cells_from xs origins rows)
          (All-weaker (λ (c : StoredCell). O c.origin) (λ (c : StoredCell). IsTrue (nat_lt c.origin (length head.origins))) (λ c is. lt-ltb c.origin (length head.origins) is) (cells_from xs origins rows) origins_known) none;
    }
  where
    below : (o n : ℕ) → o < n → n < 256 ^ 4 → o < 256 ^ 4
    below o n a b = omega arith

-- the cells of a tile that was read keep all this
pub tile_read : (frame : Frame) (attrs : List Attr) (places : List ℕ) (head : StoredHead) (before : Option StoredCell) (leaf : SubBox) (count : ℕ) (ranges : List Ranged) (cells : List StoredCell) → CanRead frame head leaf count ranges
    → cells_of_tile frame attrs places head before leaf count ranges ≡ Ok cells → IsReadTile frame attrs places head before leaf count cells
unfolding cells_of_tile
tile_read frame attrs places head before leaf count ranges cells can found =
    let whole = λ (coords : List (List ℤ)) (vals : List (List Val)) (origins : List ℕ). cells_from (rows_in count coords) origins (rows_in count vals) in
    let last = λ (coords : List (List ℤ)) (vals : List (List Val)) (origins : List ℕ). unless (whole coords vals origins) (order_fault frame head.consolidated ranges 0 before (whole coords vals origins)) in
    let a = then_ok (coords_of_tile leaf count ranges 0 frame.domain)
    (λ coords. and_then (vals_of_tile places count ranges 0 attrs) (λ vals. and_then (origins_if head.consolidated (length head.origins) count ranges) (λ origins. last coords vals origins))) cells found in
    let b = then_ok (vals_of_tile places count ranges 0 attrs) (λ vals. and_then (origins_if head.consolidated (length head.origins) count ranges) (λ origins. last a.0 vals origins)) cells a.2 in
    let c = then_ok (origins_if head.consolidated (length head.origins) count ranges) (λ origins. last a.0 b.0 origins) cells b.2 in
    let kept = unless_ok (whole a.0 b.0 c.0) cells (order_fault frame head.consolidated ranges 0 before (whole a.0 b.0 c.0)) c.2 in
    are_same (whole a.0 b.0 c.0) kept.0 (cells_read frame attrs places head before leaf count ranges can a.0 b.0 c.0 a.1 b.1 c.1 kept.1)
  where
    are_same : (cs : List StoredCell) → cs ≡ cells → IsReadTile frame attrs places head before leaf count cs → IsReadTile frame attrs places head before leaf count cells
    are_same cs same is = subst (λ (ds : List StoredCell). IsReadTile frame attrs places head before leaf count ds) same is
