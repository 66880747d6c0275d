-- The columns of a tile whose leaf lies in the domain.
use Rattle.std.proofs.Common.{◌≡◌, ℕ, ◌≤◌, ℤ, List, length, map, sym, ◌∙◌, arith}
use Rattle.std.specs.Prelude.{IsTrue}
use Rattle.std.specs.List.{All}
use Rattle.std.proofs.lemmas.List.{length-map}
use Rattle.std.proofs.lemmas.List.Elements.{All-weaker}
use Rattle.ts_base.specs.declared.values.Val.{Val}
use Rattle.ts_base.specs.Values.{is_integer}
use Rattle.ts_domain.specs.declared.dims.Dim.{Dim}
use Rattle.ts_domain.specs.declared.boxes.SubBox.{SubBox}
use Rattle.ts_domain.specs.Bounds.{is_between}
use Rattle.ts_domain.specs.Dims.{IsDim, IsDomain}
use Rattle.ts_domain.specs.Domains.{LiesInDomain}
use Rattle.ts_domain.proofs.Between.{length-is_between}
use Rattle.ts_gather.proofs.PartLaws.{between_on}
use Rattle.ts_schema.specs.declared.frames.Frame.{Frame}
use Rattle.ts_plain.specs.declared.stored.StoredCell.{StoredCell}
use Rattle.ts_plain.specs.Insides.{IsInside}
use Rattle.ts_sparse_read.specs.TileReads.{rows_in, cells_from}
use Rattle.ts_sparse_read.specs.ReadRows.{AreSides, rows_between, cells_all}
use Rattle.ts_sparse_read.specs.Sifts.{AreSound}
use Rattle.ts_sparse_read.specs.Picks.{LieInLeaf}
use Rattle.ts_sparse_read.proofs.ColumnSteps.{sides_long}

-- ---- the domain

-- cells of columns that span the sides of a leaf lie in the leaf
pub cells_in_leaf : (leaf : SubBox) (count : ℕ) (coords : List (List ℤ)) (origins : List ℕ) (vals : List (List Val)) → AreSides count leaf.low leaf.high coords
    → LieInLeaf leaf (record { count = count; coords = coords; origins = origins; vals = vals })
cells_in_leaf leaf count coords origins vals are =
    let I = λ (row : List ℤ). IsTrue (is_between leaf.low leaf.high row) in
    cells_all (λ (c : StoredCell). I c.coords) I (λ _. Unit {0}) (λ _. Unit {0}) (λ x o r inside _ _. inside) (rows_in count coords) origins (rows_in count vals) (rows_between count leaf.low leaf.high coords are).fits (λ _ _ _. tt)
    (λ _ _ _. tt)

-- and in the domain, where the leaf does
cells_inside : (frame : Frame) (leaf : SubBox) (cells : List StoredCell) → LiesInDomain frame.domain leaf → All (λ (c : StoredCell). IsTrue (is_between leaf.low leaf.high c.coords)) cells → All (IsInside frame) cells
cells_inside frame leaf cells lies inside =
    All-weaker (λ (c : StoredCell). IsTrue (is_between leaf.low leaf.high c.coords)) (IsInside frame)
    (λ c t. between_on (map (λ (d : Dim). d.low) frame.domain) (map (λ (d : Dim). d.high) frame.domain) leaf.low leaf.high c.coords lies.0 lies.1 t) cells inside

-- a box in the domain has as many sides
pub lies_long : (dims : List Dim) (leaf : SubBox) → LiesInDomain dims leaf → (length leaf.low ≡ length dims) × (length leaf.high ≡ length dims)
lies_long dims leaf lies =
    let lows = map (λ (d : Dim). d.low) dims in
    let highs = map (λ (d : Dim). d.high) dims in
    let many = length-map dims (λ (d : Dim). d.low) in
    (sym (length-is_between lows highs leaf.low lies.0).0 ∙ many, sym (length-is_between lows highs leaf.high lies.1).0 ∙ many)

-- the dimensions of a domain have integers
pub ints_of : (dims : List Dim) → IsDomain dims → All (λ (d : Dim). IsTrue (is_integer d.ty)) dims
ints_of dims is = All-weaker IsDim (λ (d : Dim). IsTrue (is_integer d.ty)) (λ d dim. dim.integer) dims is.valid

-- the columns of a tile are sound, whose coordinates span the sides of a leaf in the domain
pub columns_sound : (frame : Frame) (leaf : SubBox) (count : ℕ) (coords : List (List ℤ)) (origins : List ℕ) (vals : List (List Val)) → 1 ≤ length frame.domain → length frame.domain ≤ 8 → LiesInDomain frame.domain leaf
    → AreSides count leaf.low leaf.high coords → length origins ≡ count → All (λ (column : List Val). length column ≡ count) vals → AreSound frame (record { count = count; coords = coords; origins = origins; vals = vals })
columns_sound frame leaf count coords origins vals some few lies sides many_origins many =
    let long = sides_long count leaf.low leaf.high coords sides in
    let lows = (lies_long frame.domain leaf lies).0 in
    record {
      some = omega (arith, long.1, lows, some);
      few = omega (arith, long.1, lows, few);
      coords = long.0;
      origins = many_origins;
      vals = many;
      inside = cells_inside frame leaf (cells_from (rows_in count coords) origins (rows_in count vals)) lies (cells_in_leaf leaf count coords origins vals sides);
    }
