-- Two fetches that got the same of the same objects read the same cells.
use Rattle.std.proofs.Common.{◌≡◌, ℕ, suc, ◌*◌, ◌<◌, ◌≤◌, List, [], ◌∷◌, ◌++◌, length, drop, Option, Result, Ok, Err, refl, sym, ap, ◌∙◌, subst, arith, inl, inr}
use Rattle.std.specs.List.{flat_map}
use Rattle.std.proofs.Math.Nat.{mul-le-mul_left, mul-le-mul_right, one-le-mul}
use Rattle.std.proofs.lemmas.Bool.{cases_order}
use Rattle.ts_base.specs.declared.names.Part.TheVariants as part
use Rattle.ts_domain.specs.declared.boxes.SubBox.{SubBox}
use Rattle.ts_schema.specs.declared.attrs.Attr.{Attr}
use Rattle.ts_schema.specs.declared.frames.Frame.{Frame}
use Rattle.ts_schema.specs.Parts.{Got}
use Rattle.ts_plain.specs.declared.stored.StoredCell.{StoredCell}
use Rattle.ts_footer.specs.declared.columns.ColumnForm.TheVariants.{Fixed}
use Rattle.ts_footer.specs.declared.columns.ColumnSize.{ColumnSize}
use Rattle.ts_footer.specs.declared.footers.Footer.{Footer}
use Rattle.ts_footer.specs.Columns.{fixed_length}
use Rattle.ts_sparse.specs.Cuts.{last_or}
use Rattle.ts_fetch.specs.declared.planned.Planned.{Planned}
use Rattle.ts_fetch.specs.Plans.{AreRanges}
use Rattle.ts_sparse_read.specs.declared.opened.UsedColumn.{UsedColumn}
use Rattle.ts_sparse_read.specs.Faults.{Fault, and_then, Ranged}
use Rattle.ts_sparse_read.specs.TileReads.{cells_of_tile}
use Rattle.ts_sparse_read.specs.Used.{tile_size}
use Rattle.ts_sparse_read.specs.Opens.{tile_at, tiles_at, tile_calls}
use Rattle.ts_sparse_read.specs.Judges.{ranged, cells_of_tiles}
use Rattle.ts_sparse_read.specs.HeardOnce.{gots_on, same_spans}
use Rattle.ts_sparse_read.specs.UsedSame.{HasFirst}

-- a tile behind another starts behind it
not_there : (w n i j : ℕ) → 1 ≤ w → 1 ≤ n → i < j → fixed_length w (i * n) ≡ fixed_length w (j * n) → ⊥
not_there w n i j wide some less e =
    let step : suc i * n ≤ j * n = mul-le-mul_right n (omega (arith, less)) in
    let up : w * (suc i * n) ≤ w * (j * n) = mul-le-mul_left w step in
    let one : 1 ≤ w * n = one-le-mul wide some in
    omega (arith, up, one, e)

-- tiles that start at one place are one tile
one_place : (w n i j : ℕ) → 1 ≤ w → 1 ≤ n → fixed_length w (i * n) ≡ fixed_length w (j * n) → i ≡ j
one_place w n i j wide some e =
    elim (cases_order i j) [
      | inl same ↦ same
      | inr other ↦ elim other [
        | inl less ↦ absurd (not_there w n i j wide some less e)
        | inr more ↦ absurd (not_there w n j i wide some more (sym e))
      ]
    ]

some_cells : (capacity : ℕ) → 1 ≤ tile_size capacity
some_cells capacity = omega arith

-- where the first of what was got begins
abbrev first_at : List Got → ℕ
first_at [] = 0
first_at (g ∷ gots) = g.at

module _ (frame : Frame) (attrs : List Attr) (footer : Footer) (ps qs : List ℕ)
    (alike : (before : Option StoredCell) (leaf : SubBox) (count : ℕ) (ranges : List Ranged) → cells_of_tile frame attrs ps footer.head before leaf count ranges ≡ cells_of_tile frame attrs qs footer.head before leaf count ranges) where
  -- the gets of the tiles at these places
  abbrev plan : List UsedColumn → List ℕ → List Planned
  plan used tiles = flat_map tile_calls (tiles_at frame footer used tiles)

  -- the cells of the tiles at these places
  abbrev read : List UsedColumn → List ℕ → Option StoredCell → List ℕ → List (List ℕ) → Result (List StoredCell) Fault
  read used places before tiles got = cells_of_tiles frame attrs places footer.head before (tiles_at frame footer used tiles) got

  -- the cells of further tiles, behind these
  abbrev then_read : List UsedColumn → List ℕ → Option StoredCell → List ℕ → List (List ℕ) → List StoredCell → Result (List StoredCell) Fault
  then_read used places before tiles got cells = and_then (read used places (last_or before cells) tiles got) (λ others. Ok (cells ++ others))

  -- what was got of the tiles is the same, so their cells are
  abbrev ReadSame : List UsedColumn → List ℕ → List ℕ → Type 0
  ReadSame used tiles more = (got heard : List (List ℕ)) (before : Option StoredCell) → AreRanges (plan used tiles) got → AreRanges (plan used more) heard → gots_on (plan used tiles) got ≡ gots_on (plan used more) heard
      → read used ps before tiles got ≡ read used qs before more heard

  then_same : (used : List UsedColumn) (before : Option StoredCell) (tiles more : List ℕ) (got heard : List (List ℕ)) → ((b : Option StoredCell) → read used ps b tiles got ≡ read used qs b more heard)
      → (r : Result (List StoredCell) Fault) → and_then r (then_read used ps before tiles got) ≡ and_then r (then_read used qs before more heard)
  then_same used before tiles more got heard rest (Ok cells) = ap (λ (r : Result (List StoredCell) Fault). and_then r (λ others. Ok (cells ++ others))) (rest (last_or before cells))
  then_same used before tiles more got heard rest (Err fault) = refl

  -- the same tile in front
  front_same : (used : List UsedColumn) (i : ℕ) (tiles more : List ℕ) → ReadSame used tiles more → ReadSame used (i ∷ tiles) (i ∷ more)
  front_same used i tiles more rest got heard before one two e =
      let t = tile_at frame footer used i in
      let n = length t.spans in
      let is = same_spans t.spans (plan used tiles) (plan used more) got heard one two e in
      ap (λ (r : Result (List StoredCell) Fault). and_then r (then_read used ps before tiles (drop n got)))
      (alike before t.leaf t.cells (ranged t.spans got) ∙ ap (cells_of_tile frame attrs qs footer.head before t.leaf t.cells) is.same)
      ∙ then_same used before tiles more (drop n got) (drop n heard) (λ b. rest (drop n got) (drop n heard) b is.one is.two is.rest) (cells_of_tile frame attrs qs footer.head before t.leaf t.cells (ranged t.spans heard))

  module _ (width : ℕ) (wide : 1 ≤ width) (size : ColumnSize) (others : List UsedColumn) where
    -- the first object has so many bytes for each cell
    abbrev objects : List UsedColumn
    objects = record { part = part.Dim 0; form = Fixed width; size = size } ∷ others

    -- what was got of it tells which tile it was
    first_place : (i j : ℕ) (tiles more : List ℕ) (got heard : List (List ℕ)) → AreRanges (plan objects (i ∷ tiles)) got → AreRanges (plan objects (j ∷ more)) heard
        → gots_on (plan objects (i ∷ tiles)) got ≡ gots_on (plan objects (j ∷ more)) heard → i ≡ j
    first_place i j tiles more [] heard one two e = absurd one
    first_place i j tiles more (b ∷ got) [] one two e = absurd two
    first_place i j tiles more (b ∷ got) (c ∷ heard) one two e =
        let at : fixed_length width (i * tile_size frame.capacity) ≡ fixed_length width (j * tile_size frame.capacity) = ap first_at e in
        one_place width (tile_size frame.capacity) i j wide (some_cells frame.capacity) at

    -- something is got of a tile
    some_got : (j : ℕ) (more : List ℕ) (heard : List (List ℕ)) → AreRanges (plan objects (j ∷ more)) heard → [] ≡ gots_on (plan objects (j ∷ more)) heard → ⊥
    some_got j more [] two e = two
    some_got j more (c ∷ heard) two e = cc

    cells_alike : (tiles more : List ℕ) → ReadSame objects tiles more
    cells_alike [] [] got heard before one two e = refl
    cells_alike [] (j ∷ more) got heard before one two e = absurd (some_got j more heard two e)
    cells_alike (i ∷ tiles) [] got heard before one two e = absurd (some_got i tiles got one (sym e))
    cells_alike (i ∷ tiles) (j ∷ more) got heard before one two e =
        subst (λ (k : ℕ). AreRanges (plan objects (k ∷ more)) heard → gots_on (plan objects (i ∷ tiles)) got ≡ gots_on (plan objects (k ∷ more)) heard → read objects ps before (i ∷ tiles) got ≡ read objects qs before (k ∷ more) heard)
        (first_place i j tiles more got heard one two e) (front_same objects i tiles more (cells_alike tiles more) got heard before one) two e

  -- where they use the same objects, the first of which has the coordinates along the first dimension
  pub same_cells : (used : List UsedColumn) → HasFirst used → (tiles more : List ℕ) → ReadSame used tiles more
  same_cells used first tiles more = subst (λ (objects : List UsedColumn). ReadSame objects tiles more) (sym first.is) (cells_alike first.width first.wide first.size first.others tiles more)
