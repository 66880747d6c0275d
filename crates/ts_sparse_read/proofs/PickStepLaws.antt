-- Going over the cells of a tile in their order, and what is taken of them.
use Rattle.std.proofs.Common.{◌≡◌, ℕ, zero, suc, ◌+◌, ◌<◌, ◌≤◌, Bool, true, false, not, List, [], ◌∷◌, drop, Option, Some, None, refl, sym, ap, subst, ◌∙◌, arith, add-one}
use Rattle.std.specs.Prelude.{if◌then◌else◌, Result, Ok, Err}
use Rattle.std.specs.Option.{option_or}
use Rattle.std.specs.Ordering.{is_gt, ordering_then}
use Rattle.std.proofs.Math.Seq.{drop-nil}
use Rattle.std.proofs.lemmas.List.{drop_more, drop_all}
use Rattle.ts_order.specs.Orders.{order_cmp, tile_numbers}
use Rattle.ts_order.proofs.OrderLemmas.{order_cmp-same}
use Rattle.ts_schema.specs.declared.frames.Frame.{Frame}
use Rattle.ts_plain.specs.declared.stored.StoredCell.{StoredCell}
use Rattle.ts_plain.specs.Rules.{coords_rise, origin_rises}
use Rattle.ts_gather.specs.Rows.{AreColumns}
use Rattle.ts_sparse_read.specs.declared.columns.Columns.{Columns}
use Rattle.ts_sparse_read.specs.declared.faults.CellFault.{CellFault}
use Rattle.ts_sparse_read.specs.declared.faults.CellFault.TheVariants as fault
use Rattle.ts_sparse_read.specs.declared.opened.Opened.{Opened}
use Rattle.ts_sparse_read.specs.declared.sifted.Sifted.{Sifted}
use Rattle.ts_sparse_read.specs.declared.sifted.Spot.{Spot}
use Rattle.ts_sparse_read.specs.Faults.{Fault, and_then, Ranged}
use Rattle.ts_sparse_read.specs.Reads.{DecodesFault, TellsFault}
use Rattle.ts_sparse_read.specs.TileReads.{coords_fault, origin_fault, place_fault, order_fault, unless}
use Rattle.ts_sparse_read.specs.Sifts.{spot_of, bare_if, last_spot, cells_in, cell_in, AreSound, versions_at, picked, wanted_of, sifted, sift_cells}
use Rattle.ts_sparse_read.specs.Picks.{cell_behind, MayStandBehind}
use Rattle.ts_sparse_read.proofs.CellSteps.{cells_long, cell_there}

-- from a place on, the cells are the one there and those behind it
cells_on : (c : Columns) (k : ℕ) → AreColumns c.count c.coords c.origins c.vals → k < c.count → drop k (cells_in c) ≡ cell_in c k ∷ drop (k + 1) (cells_in c)
cells_on c k are within =
    let d = cell_in c k in
    let long = cells_long c.count c.coords c.origins c.vals are.coords are.origins are.vals in
    drop_more (cells_in c) k d (omega (arith, long)) ∙ ap (λ (e : StoredCell). e ∷ drop (k + 1) (cells_in c)) (cell_there c.count c.coords c.origins c.vals k d are.coords are.origins are.vals within)

-- sound columns are columns
pub are_columns : (frame : Frame) (c : Columns) → AreSound frame c → AreColumns c.count c.coords c.origins c.vals
are_columns frame c sound = record { some = sound.some; few = sound.few; coords = sound.coords; origins = sound.origins; vals = sound.vals }

-- ---- the order of the cells

module _ (frame : Frame) (consolidated : Bool) (ranges : List Ranged) where
  -- in one space tile a cell may stand behind another one by their cell order
  pub place_shared : (k : ℕ) (first second : StoredCell) → tile_numbers frame.domain first.coords ≡ tile_numbers frame.domain second.coords → MayStandBehind frame first second
      → place_fault frame consolidated ranges k (Some first) second ≡ None
  place_shared k first second shared may =
      let tie = order_cmp-same frame.tile (tile_numbers frame.domain first.coords) (tile_numbers frame.domain second.coords) shared in
      ap (λ o. decided (not (is_gt (ordering_then o (order_cmp frame.cell first.coords second.coords)))) (origin_rises frame.dense (Some first) second.coords second.origin)) tie
      ∙ ap (λ a. decided a (origin_rises frame.dense (Some first) second.coords second.origin)) may.rises
      ∙ ap (λ b. decided true b) may.later
    where
      decided : Bool → Bool → Option Fault
      decided a b = if a then (if b then None else Some (origin_fault frame consolidated ranges k)) else Some (coords_fault frame ranges k)

  -- behind the first cell of a tile stands one of the tile
  pub told_next : {A : Type 0} (j k : ℕ) (before : Option StoredCell) (c : Columns) (r : Result A CellFault) → k ≡ j + 1
      → TellsFault (place_fault frame consolidated ranges k (Some (cell_in c j)) (cell_in c k)) r → TellsFault (place_fault frame consolidated ranges k (cell_behind before c k) (cell_in c k)) r
  told_next j k before c r next told =
      subst (λ (o : Option Fault). TellsFault o r) (ap (λ n. place_fault frame consolidated ranges k (cell_behind before c n) (cell_in c k)) (sym (next ∙ add-one j))) told

  -- what is broken first is so at the first cell, or else at those behind it
  order_split : (k : ℕ) (before : Option StoredCell) (c : StoredCell) (cells : List StoredCell)
      → order_fault frame consolidated ranges k before (c ∷ cells) ≡ option_or (place_fault frame consolidated ranges k before c) (order_fault frame consolidated ranges (suc k) (Some c) cells)
  order_split k before c cells = go (coords_rise frame before c.coords) (origin_rises frame.dense before c.coords c.origin)
    where
      go : (a b : Bool)
          → (if a then (if b then order_fault frame consolidated ranges (suc k) (Some c) cells else Some (origin_fault frame consolidated ranges k)) else Some (coords_fault frame ranges k))
          ≡ option_or (if a then (if b then None else Some (origin_fault frame consolidated ranges k)) else Some (coords_fault frame ranges k)) (order_fault frame consolidated ranges (suc k) (Some c) cells)
      go true true = refl
      go true false = refl
      go false b = refl

  -- what is broken first is so from this place on
  abbrev pub Clear : Option StoredCell → Columns → ℕ → Type 0
  Clear before c k = order_fault frame consolidated ranges 0 before (cells_in c) ≡ order_fault frame consolidated ranges k (cell_behind before c k) (drop k (cells_in c))

  split_at : (before : Option StoredCell) (c : Columns) (k : ℕ) → Clear before c k → AreSound frame c → k < c.count
      → order_fault frame consolidated ranges 0 before (cells_in c)
      ≡ option_or (place_fault frame consolidated ranges k (cell_behind before c k) (cell_in c k)) (order_fault frame consolidated ranges (suc k) (Some (cell_in c k)) (drop (k + 1) (cells_in c)))
  split_at before c k clear sound within =
      clear ∙ ap (order_fault frame consolidated ranges k (cell_behind before c k)) (cells_on c k (are_columns frame c sound) within) ∙ order_split k (cell_behind before c k) (cell_in c k) (drop (k + 1) (cells_in c))

  -- one cell more that may stand where it does
  pub order_more : (before : Option StoredCell) (c : Columns) (k : ℕ) → Clear before c k → AreSound frame c → k < c.count → place_fault frame consolidated ranges k (cell_behind before c k) (cell_in c k) ≡ None
      → Clear before c (k + 1)
  order_more before c k clear sound within none =
      split_at before c k clear sound within
      ∙ ap (λ o. option_or o (order_fault frame consolidated ranges (suc k) (Some (cell_in c k)) (drop (k + 1) (cells_in c)))) none
      ∙ ap (λ n. order_fault frame consolidated ranges n (cell_behind before c n) (drop (k + 1) (cells_in c))) (sym (add-one k))

  -- what is broken at a cell is what is broken first
  pub order_stop : (A B : Type 0) (before : Option StoredCell) (c : Columns) (k : ℕ) (f : CellFault) → Clear before c k → AreSound frame c → k < c.count
      → TellsFault {A = A} (place_fault frame consolidated ranges k (cell_behind before c k) (cell_in c k)) (Err f) → TellsFault {A = B} (order_fault frame consolidated ranges 0 before (cells_in c)) (Err f)
  order_stop A B before c k fault.OutOfMemory clear sound within told = tt
  order_stop A B before c k (fault.Broken part at) clear sound within told =
      split_at before c k clear sound within ∙ ap (λ o. option_or o (order_fault frame consolidated ranges (suc k) (Some (cell_in c k)) (drop (k + 1) (cells_in c)))) told

  -- behind the last cell nothing is broken
  pub order_done : (before : Option StoredCell) (c : Columns) (k : ℕ) → Clear before c k → AreSound frame c → c.count ≤ k → order_fault frame consolidated ranges 0 before (cells_in c) ≡ None
  order_done before c k clear sound over =
      let long = cells_long c.count c.coords c.origins c.vals sound.coords sound.origins sound.vals in
      clear ∙ ap (order_fault frame consolidated ranges k (cell_behind before c k)) (drop_all k (cells_in c) (omega (arith, long)))

-- ---- what is taken

module _ (opened : Opened) (c : Columns) (ranges : List Ranged) where
  -- where the order has no fault, what is wanted is taken
  pub picks_done : (places : List ℕ) (last new : Option Spot) → order_fault opened.frame (opened.head).consolidated ranges 0 (bare_if last) (cells_in c) ≡ None
      → versions_at opened c places ≡ wanted_of opened.want opened.head (cells_in c) → new ≡ last_spot last (cells_in c)
      → sift_cells opened ranges 0 (picked opened c [] last) (cells_in c) ≡ Ok (picked opened c places new)
  picks_done places last new clear is moved =
      let found = sym is in
      let there = sym moved in
      ap (λ (o : Option Fault). and_then (unless (cells_in c) o) (λ cells. Ok (sifted opened (picked opened c [] last) cells))) clear
      ∙ (λ i. Ok (record { found = found i; last = there i }))

  -- where the order has a fault, that is told
  pub picks_fault : {A : Type 0} (B : Type 0) (seen : A → Sifted) (s : Sifted) (f : CellFault) → TellsFault {A = B} (order_fault opened.frame (opened.head).consolidated ranges 0 (bare_if s.last) (cells_in c)) (Err f)
      → DecodesFault seen (sift_cells opened ranges 0 s (cells_in c)) (Err f)
  picks_fault B seen s fault.OutOfMemory told = tt
  picks_fault B seen s (fault.Broken part at) told = ap (λ (o : Option Fault). and_then (unless (cells_in c) o) (λ cells. Ok (sifted opened s cells))) told

  -- what is broken is so whatever was found before the tile
  pub picks_stop : {A B : Type 0} (seen : A → Sifted) (also : B → Sifted) (s : Sifted) (f : CellFault) → DecodesFault seen (sift_cells opened ranges 0 (picked opened c [] s.last) (cells_in c)) (Err f)
      → DecodesFault also (sift_cells opened ranges 0 s (cells_in c)) (Err f)
  picks_stop seen also s fault.OutOfMemory e = tt
  picks_stop seen also s (fault.Broken part at) e = go (order_fault opened.frame (opened.head).consolidated ranges 0 (bare_if s.last) (cells_in c)) e
    where
      go : (o : Option Fault) → and_then (unless (cells_in c) o) (λ cells. Ok (sifted opened (picked opened c [] s.last) cells)) ≡ Err (record { part = part; at = at })
          → and_then (unless (cells_in c) o) (λ cells. Ok (sifted opened s cells)) ≡ Err (record { part = part; at = at })
      go None e = absurd (cc)
      go (Some g) e = e

-- ---- where the last cell stands

-- the last spot of some cells is that of the last one
last_at : (last : Option Spot) (cells : List StoredCell) (k : ℕ) (c : StoredCell) → drop k cells ≡ c ∷ [] → last_spot last cells ≡ Some (spot_of c)
last_at last [] k c is = absurd (cc (drop-nil k))
last_at last (d ∷ cells) zero c is = let one : d ≡ c = cc in let none : cells ≡ [] = cc in ap (last_spot (Some (spot_of d))) none ∙ ap (λ (e : StoredCell). Some (spot_of e)) one
last_at last (d ∷ cells) (suc k) c is = last_at (Some (spot_of d)) cells k c is

pub last_moved : (c : Columns) (last : Option Spot) (end : ℕ) → AreColumns c.count c.coords c.origins c.vals → c.count ≡ end + 1 → last_spot last (cells_in c) ≡ Some (spot_of (cell_in c end))
last_moved c last end are many =
    let long = cells_long c.count c.coords c.origins c.vals are.coords are.origins are.vals in
    last_at last (cells_in c) end (cell_in c end) (cells_on c end are (omega (arith, many)) ∙ ap (λ cells. cell_in c end ∷ cells) (drop_all (end + 1) (cells_in c) (omega (arith, long, many))))

pub last_stays : (c : Columns) (last : Option Spot) → AreColumns c.count c.coords c.origins c.vals → c.count ≡ 0 → last_spot last (cells_in c) ≡ last
last_stays c last are none =
    let long = cells_long c.count c.coords c.origins c.vals are.coords are.origins are.vals in
    ap (last_spot last) (drop_all 0 (cells_in c) (omega (arith, long, none)))

-- where the last cell stands is where the last spot moves
pub ruleset last_steps = (last_moved, last_stays)
