-- Taking what is wanted, cell by cell and tile by tile.
use Rattle.std.proofs.Common.{◌≡◌, ℕ, ◌+◌, ◌<◌, Bool, ℤ, List, [], ◌∷◌, ◌++◌, length, map, Option, Some, None, refl, sym, ap, subst, ◌∙◌, arith, append_assoc}
use Rattle.std.specs.Prelude.{Result, Ok, Err}
use Rattle.std.proofs.lemmas.List.{append-nil, map-append}
use Rattle.std.proofs.lemmas.List.Elements.{All-get_or, filter-append}
use Rattle.ts_base.specs.declared.heads.Version.{Version}
use Rattle.ts_base.specs.declared.values.Val.{Val}
use Rattle.ts_domain.specs.declared.boxes.SubBox.{SubBox}
use Rattle.ts_schema.specs.declared.frames.Frame.{Frame}
use Rattle.ts_schema.specs.declared.wants.Want.{Want}
use Rattle.ts_schema.specs.Wants.{is_wanted, cut, taken}
use Rattle.ts_plain.specs.declared.stored.StoredCell.{StoredCell}
use Rattle.ts_plain.specs.Insides.{IsInside}
use Rattle.ts_plain.specs.Pieces.{version_in}
use Rattle.ts_sparse.specs.Cuts.{last_or}
use Rattle.ts_sparse_read.specs.declared.columns.Columns.{Columns}
use Rattle.ts_sparse_read.specs.declared.opened.Opened.{Opened}
use Rattle.ts_sparse_read.specs.declared.sifted.Sifted.{Sifted}
use Rattle.ts_sparse_read.specs.declared.sifted.Spot.{Spot}
use Rattle.ts_sparse_read.specs.declared.faults.CellFault.{CellFault}
use Rattle.ts_sparse_read.specs.declared.faults.CellFault.TheVariants as fault
use Rattle.ts_sparse_read.specs.Faults.{Fault, and_then, Ranged}
use Rattle.ts_sparse_read.specs.TileReads.{coords_of_tile, vals_of_tile, origins_if, order_fault, unless, cells_of_tile}
use Rattle.ts_sparse_read.specs.Reads.{DecodesFault}
use Rattle.ts_sparse_read.specs.Sifts.{spot_of, bare_if, last_spot, IsSpotInside, columns_of_tile, cells_in, cell_in, AreSound, wanted_of, sifted, sift_cells, sift_part}
use Rattle.ts_sparse_read.proofs.CellSteps.{cells_long, cell_there}

-- ---- faults

-- what is broken stays so whatever is read behind it
pub fault_stays : {A B C D : Type 0} (seen : A → B) (also : C → D) (answer : Result B Fault) (next : B → Result D Fault) (f : CellFault) → DecodesFault seen answer (Err f) → DecodesFault also (and_then answer next) (Err f)
fault_stays seen also answer next (fault.Broken part at) e = ap (λ a. and_then a next) e
fault_stays seen also answer next fault.OutOfMemory e = tt

-- an answer that is the same is told the same
pub told_same : {A B : Type 0} (seen : A → B) (x y : Result B Fault) (r : Result A CellFault) → x ≡ y → DecodesFault seen y r → DecodesFault seen x r
told_same seen x y r is = subst (λ a. DecodesFault seen a r) (sym is)

-- ---- where the last cell stands

-- where a cell stands, if there is one
abbrev pub spot_if : Option StoredCell → Option Spot
spot_if None = None
spot_if (Some c) = Some (spot_of c)

pub spot_back : (s : Option Spot) → spot_if (bare_if s) ≡ s
spot_back None = refl
spot_back (Some s) = refl

-- the last of cells stands where the last spot is
pub last_spots : (before : Option StoredCell) (cells : List StoredCell) → spot_if (last_or before cells) ≡ last_spot (spot_if before) cells
last_spots before [] = refl
last_spots before (c ∷ cells) = last_spots (Some c) cells

-- the last spot of two lists is that of the second behind that of the first
last_join : (last : Option Spot) (xs ys : List StoredCell) → last_spot last (xs ++ ys) ≡ last_spot (last_spot last xs) ys
last_join last [] ys = refl
last_join last (x ∷ xs) ys = last_join (Some (spot_of x)) xs ys

-- ---- where a cell stands

-- the cell at a place lies in the domain
pub spot_inside : (frame : Frame) (columns : Columns) (k : ℕ) (spot : Spot) → AreSound frame columns → k < columns.count → spot ≡ spot_of (cell_in columns k) → IsSpotInside frame spot
spot_inside frame columns k spot sound within is =
    let c = cell_in columns k in
    let long = cells_long columns.count columns.coords columns.origins columns.vals sound.coords sound.origins sound.vals in
    let at = All-get_or (IsInside frame) (cells_in columns) k c (omega (arith, long)) sound.inside in
    let here = subst (λ (d : StoredCell). IsInside frame d) (cell_there columns.count columns.coords columns.origins columns.vals k c sound.coords sound.origins sound.vals within) at in
    subst (λ (s : Spot). IsSpotInside frame s) (sym is) here

-- whether cells may stand behind one depends on where that stands alone
pub order_bare : (frame : Frame) (consolidated : Bool) (ranges : List Ranged) (k : ℕ) (before : Option StoredCell) (cells : List StoredCell)
    → order_fault frame consolidated ranges k before cells ≡ order_fault frame consolidated ranges k (bare_if (spot_if before)) cells
order_bare frame consolidated ranges k before [] = refl
order_bare frame consolidated ranges k None (c ∷ cells) = refl
order_bare frame consolidated ranges k (Some b) (c ∷ cells) = refl

-- ---- what is wanted of two lists

pub taken_join : (want : Want) (xs ys : List Version) → taken want (xs ++ ys) ≡ taken want xs ++ taken want ys
taken_join want xs ys = ap (map (cut want)) (filter-append (is_wanted want) xs ys) ∙ map-append (cut want) _ _

module _ (opened : Opened) where
  -- what is wanted of two lists is what is wanted of each
  pub wanted_join : (xs ys : List StoredCell) → wanted_of opened.want opened.head (xs ++ ys) ≡ wanted_of opened.want opened.head xs ++ wanted_of opened.want opened.head ys
  wanted_join xs ys =
      ap (taken opened.want) (map-append (version_in opened.head) xs ys) ∙ taken_join opened.want (map (version_in opened.head) xs) (map (version_in opened.head) ys)

  -- what is taken of two lists is what is taken of the second behind the first
  pub sifted_join : (s : Sifted) (xs ys : List StoredCell) → sifted opened s (xs ++ ys) ≡ sifted opened (sifted opened s xs) ys
  sifted_join s xs ys =
      let found : s.found ++ wanted_of opened.want opened.head (xs ++ ys) ≡ (s.found ++ wanted_of opened.want opened.head xs) ++ wanted_of opened.want opened.head ys =
      ap (λ vs. s.found ++ vs) (wanted_join xs ys) ∙ sym (append_assoc s.found (wanted_of opened.want opened.head xs) (wanted_of opened.want opened.head ys)) in
      let last = last_join s.last xs ys in
      λ i. record { found = found i; last = last i }

  -- nothing is taken of no cells
  pub sifted_none : (s : Sifted) → sifted opened s [] ≡ s
  sifted_none s = let found = append-nil s.found in λ i. record { found = found i; last = s.last }

  -- ---- the columns of a tile

  -- the cells of a tile are those of its columns, where their order has no fault
  tile_split : (before : Option StoredCell) (leaf : SubBox) (count : ℕ) (ranges : List Ranged)
      → cells_of_tile opened.frame opened.attrs (opened.want).attrs opened.head before leaf count ranges
      ≡ and_then (columns_of_tile opened leaf count ranges) (λ (c : Columns). unless (cells_in c) (order_fault opened.frame (opened.head).consolidated ranges 0 before (cells_in c)))
  unfolding cells_of_tile
  tile_split before leaf count ranges =
      go (coords_of_tile leaf count ranges 0 (opened.frame).domain) (vals_of_tile (opened.want).attrs count ranges 0 opened.attrs) (origins_if (opened.head).consolidated (length (opened.head).origins) count ranges)
    where
      columns : List (List ℤ) → List (List Val) → List ℕ → Columns
      columns cs vs os = record { count = count; coords = cs; origins = os; vals = vs }

      last : Columns → Result (List StoredCell) Fault
      last c = unless (cells_in c) (order_fault opened.frame (opened.head).consolidated ranges 0 before (cells_in c))

      go : (a : Result (List (List ℤ)) Fault) (b : Result (List (List Val)) Fault) (o : Result (List ℕ) Fault)
          → and_then a (λ cs. and_then b (λ vs. and_then o (λ os. last (columns cs vs os)))) ≡ and_then (and_then a (λ cs. and_then b (λ vs. and_then o (λ os. Ok (columns cs vs os))))) last
      go (Ok cs) (Ok vs) (Ok os) = refl
      go (Ok cs) (Ok vs) (Err f) = refl
      go (Ok cs) (Err f) o = refl
      go (Err f) b o = refl

  -- what is taken of a tile is what is taken of the cells of its columns
  part_split : (s : Sifted) (leaf : SubBox) (count : ℕ) (ranges : List Ranged)
      → sift_part opened s leaf count ranges ≡ and_then (columns_of_tile opened leaf count ranges) (λ (c : Columns). sift_cells opened ranges 0 s (cells_in c))
  part_split s leaf count ranges =
      ap (λ (r : Result (List StoredCell) Fault). and_then r (λ cs. Ok (sifted opened s cs))) (tile_split (bare_if s.last) leaf count ranges) ∙ go (columns_of_tile opened leaf count ranges)
    where
      last : Columns → Result (List StoredCell) Fault
      last c = unless (cells_in c) (order_fault opened.frame (opened.head).consolidated ranges 0 (bare_if s.last) (cells_in c))

      go : (a : Result Columns Fault) → and_then (and_then a last) (λ cs. Ok (sifted opened s cs)) ≡ and_then a (λ c. and_then (last c) (λ cs. Ok (sifted opened s cs)))
      go (Ok c) = refl
      go (Err f) = refl

  -- what is broken among the columns comes first
  pub part_stops : {A B : Type 0} (seen : A → Columns) (also : B → Sifted) (s : Sifted) (leaf : SubBox) (count : ℕ) (ranges : List Ranged) (f : CellFault)
      → DecodesFault seen (columns_of_tile opened leaf count ranges) (Err f) → DecodesFault also (sift_part opened s leaf count ranges) (Err f)
  part_stops seen also s leaf count ranges f is =
      let next = λ (c : Columns). sift_cells opened ranges 0 s (cells_in c) in
      told_same also (sift_part opened s leaf count ranges) (and_then (columns_of_tile opened leaf count ranges) next) (Err f) (part_split s leaf count ranges)
      (fault_stays seen also (columns_of_tile opened leaf count ranges) next f is)

  -- then what is taken of the cells is told
  pub part_goes : {B : Type 0} (also : B → Sifted) (s : Sifted) (leaf : SubBox) (count : ℕ) (ranges : List Ranged) (c : Columns) (r : Result B CellFault) → columns_of_tile opened leaf count ranges ≡ Ok c
      → DecodesFault also (sift_cells opened ranges 0 s (cells_in c)) r → DecodesFault also (sift_part opened s leaf count ranges) r
  part_goes also s leaf count ranges c r is told =
      let next = λ (c : Columns). sift_cells opened ranges 0 s (cells_in c) in
      told_same also (sift_part opened s leaf count ranges) (sift_cells opened ranges 0 s (cells_in c)) r (part_split s leaf count ranges ∙ ap (λ (a : Result Columns Fault). and_then a next) is) told
