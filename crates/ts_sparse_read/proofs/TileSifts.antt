-- Taking what is wanted, tile by tile.
use Rattle.std.proofs.Common.{◌≡◌, ℕ, zero, suc, ◌+◌, ◌-◌, ◌<◌, ◌≤◌, min, List, [], ◌∷◌, ◌++◌, length, get_or, take, drop, Option, refl, sym, ap, ◌∙◌, arith, length-drop}
use Rattle.std.specs.Prelude.{Result, Ok, Err, IfOk}
use Rattle.std.proofs.Math.Seq.{drop-nil}
use Rattle.std.proofs.Math.ListN.{drop_of_length-le}
use Rattle.std.proofs.lemmas.List.{drop-drop}
use Rattle.ts_domain.specs.declared.boxes.SubBox.{SubBox}
use Rattle.ts_schema.specs.declared.attrs.Attr.{Attr}
use Rattle.ts_schema.specs.declared.frames.Frame.{Frame}
use Rattle.ts_plain.specs.declared.stored.StoredHead.{StoredHead}
use Rattle.ts_plain.specs.declared.stored.StoredCell.{StoredCell}
use Rattle.ts_fetch.specs.declared.judging.Verdict.{Verdict}
use Rattle.ts_fetch.specs.declared.judging.Verdict.TheVariants.{Whole, Broken}
use Rattle.ts_sparse.specs.Cuts.{last_or}
use Rattle.ts_sparse_read.specs.declared.opened.Opened.{Opened}
use Rattle.ts_sparse_read.specs.declared.opened.WantedTile.{WantedTile}
use Rattle.ts_sparse_read.specs.declared.sifted.Sifted.{Sifted}
use Rattle.ts_sparse_read.specs.declared.faults.CellFault.{CellFault}
use Rattle.ts_sparse_read.specs.declared.faults.CellFault.TheVariants as fault
use Rattle.ts_sparse_read.specs.Faults.{Fault, and_then, Ranged}
use Rattle.ts_sparse_read.specs.TileReads.{rows_in, cells_from, coords_of_tile, vals_of_tile, origins_if, unless, cells_of_tile}
use Rattle.ts_sparse_read.specs.Judges.{ranged, cells_of_tiles, verdict_on}
use Rattle.ts_sparse_read.specs.Reads.{DecodesFault, IsToldAs}
use Rattle.ts_sparse_read.specs.Sifts.{bare_if, last_spot, sifted, nothing_sifted, sift_tile, sift_tiles}
use Rattle.ts_sparse_read.proofs.SiftLaws.{fault_stays, told_same, spot_if, spot_back, last_spots, order_bare, sifted_join, sifted_none}

-- ---- the cell before a tile

module _ (frame : Frame) (attrs : List Attr) (places : List ℕ) (head : StoredHead) where
  -- what a tile holds depends on where the cell before it stands alone
  tile_bare : (before : Option StoredCell) (leaf : SubBox) (count : ℕ) (ranges : List Ranged)
      → cells_of_tile frame attrs places head before leaf count ranges ≡ cells_of_tile frame attrs places head (bare_if (spot_if before)) leaf count ranges
  unfolding cells_of_tile
  tile_bare before leaf count ranges =
      λ i. and_then (coords_of_tile leaf count ranges 0 frame.domain) (λ coords. and_then (vals_of_tile places count ranges 0 attrs) (λ vals. and_then (origins_if head.consolidated (length head.origins) count ranges) (λ origins.
      unless (cells_from (rows_in count coords) origins (rows_in count vals)) (order_bare frame head.consolidated ranges 0 before (cells_from (rows_in count coords) origins (rows_in count vals)) i))))

  -- so of tiles
  tiles_bare : (before : Option StoredCell) (tiles : List WantedTile) (got : List (List ℕ)) → cells_of_tiles frame attrs places head before tiles got ≡ cells_of_tiles frame attrs places head (bare_if (spot_if before)) tiles got
  tiles_bare before [] got = refl
  tiles_bare before (t ∷ tiles) got =
      ap (λ r. and_then r (next before)) (tile_bare before t.leaf t.cells (ranged t.spans got))
      ∙ under (λ b. tiles_bare b tiles (drop (length t.spans) got)) (cells_of_tile frame attrs places head (bare_if (spot_if before)) t.leaf t.cells (ranged t.spans got))
    where
      rest : Option StoredCell → Result (List StoredCell) Fault
      rest b = cells_of_tiles frame attrs places head b tiles (drop (length t.spans) got)

      next : Option StoredCell → List StoredCell → Result (List StoredCell) Fault
      next b cells = and_then (rest (last_or b cells)) (λ others. Ok (cells ++ others))

      same : (cells : List StoredCell) → spot_if (last_or before cells) ≡ spot_if (last_or (bare_if (spot_if before)) cells)
      same cells = last_spots before cells ∙ ap (λ s. last_spot s cells) (sym (spot_back (spot_if before))) ∙ sym (last_spots (bare_if (spot_if before)) cells)

      under : ((b : Option StoredCell) → rest b ≡ rest (bare_if (spot_if b))) → (r : Result (List StoredCell) Fault) → and_then r (next before) ≡ and_then r (next (bare_if (spot_if before)))
      under each (Ok cells) =
          ap (λ r. and_then r (λ others. Ok (cells ++ others)))
          (each (last_or before cells) ∙ ap (λ s. rest (bare_if s)) (same cells) ∙ sym (each (last_or (bare_if (spot_if before)) cells)))
      under each (Err f) = refl

-- ---- one tile more

pub drop_here : (t : WantedTile) (i : ℕ) (tiles : List WantedTile) → i < length tiles → get_or tiles i t ≡ t → drop i tiles ≡ t ∷ drop (suc i) tiles
drop_here t i [] within is = absurd (omega (arith, within))
drop_here t zero (s ∷ tiles) within is = ap (λ x. x ∷ tiles) is
drop_here t (suc i) (s ∷ tiles) within is = drop_here t i tiles (omega (arith, within)) is

-- past the end nothing is left, however far
drop_min : {X : Type 0} (k : ℕ) (ys : List X) → drop (min (length ys) k) ys ≡ drop k ys
drop_min k [] = drop-nil (min 0 k) ∙ sym (drop-nil k)
drop_min zero (y ∷ ys) = let none : min (suc (length ys)) 0 ≡ 0 = omega arith in ap (λ m. drop m (y ∷ ys)) none
drop_min (suc k) (y ∷ ys) = let one : min (suc (length ys)) (suc k) ≡ suc (min (length ys) k) = omega arith in ap (λ m. drop m (y ∷ ys)) one ∙ drop_min k ys

pub drop_capped : {X : Type 0} (next k : ℕ) (xs : List X) → drop (next + min (length xs - next) k) xs ≡ drop k (drop next xs)
drop_capped next k xs = sym (drop-drop (min (length xs - next) k) next xs) ∙ ap (λ n. drop (min n k) (drop next xs)) (sym (length-drop next xs)) ∙ drop_min k (drop next xs)

-- what is left is all that is left
pub rest_whole : {X : Type 0} (next : ℕ) (xs : List X) → take (length xs - next) (drop next xs) ≡ drop next xs
rest_whole {X = X} next xs = ap (λ k. take k (drop next xs)) (sym (length-drop next xs)) ∙ every (drop next xs)
  where
    every : (ys : List X) → take (length ys) ys ≡ ys
    every [] = refl
    every (y ∷ ys) = ap (λ l. y ∷ l) (every ys)

module _ (opened : Opened) where
  joined : (s : Sifted) (cells : List StoredCell) (r : Result (List StoredCell) Fault)
      → and_then (and_then r (λ others. Ok (cells ++ others))) (λ cs. Ok (sifted opened s cs)) ≡ and_then r (λ cs. Ok (sifted opened (sifted opened s cells) cs))
  joined s cells (Ok others) = ap Ok (sifted_join opened s cells others)
  joined s cells (Err f) = refl

  -- behind what is taken of one tile comes what is taken of the others
  tiles_step : (s : Sifted) (t : WantedTile) (tiles : List WantedTile) (got : List (List ℕ)) → sift_tiles opened s (t ∷ tiles) got ≡ and_then (sift_tile opened s t got) (λ n. sift_tiles opened n tiles (drop (length t.spans) got))
  tiles_step s t tiles got = go (cells_of_tile opened.frame opened.attrs (opened.want).attrs opened.head (bare_if s.last) t.leaf t.cells (ranged t.spans got))
    where
      rest : Option StoredCell → Result (List StoredCell) Fault
      rest b = cells_of_tiles opened.frame opened.attrs (opened.want).attrs opened.head b tiles (drop (length t.spans) got)

      bared : (cells : List StoredCell) → rest (last_or (bare_if s.last) cells) ≡ rest (bare_if (last_spot s.last cells))
      bared cells =
          tiles_bare opened.frame opened.attrs (opened.want).attrs opened.head (last_or (bare_if s.last) cells) tiles (drop (length t.spans) got)
          ∙ ap (λ l. rest (bare_if l)) (last_spots (bare_if s.last) cells ∙ ap (λ l. last_spot l cells) (spot_back s.last))

      go : (r : Result (List StoredCell) Fault)
          → and_then (and_then r (λ cells. and_then (rest (last_or (bare_if s.last) cells)) (λ others. Ok (cells ++ others)))) (λ cs. Ok (sifted opened s cs))
          ≡ and_then (and_then r (λ cs. Ok (sifted opened s cs))) (λ n. sift_tiles opened n tiles (drop (length t.spans) got))
      go (Ok cells) = joined s cells (rest (last_or (bare_if s.last) cells)) ∙ ap (λ r. and_then r (λ cs. Ok (sifted opened (sifted opened s cells) cs))) (bared cells)
      go (Err f) = refl

  -- what is taken of all tiles is what is taken of those from the i-th on, behind what was taken so far
  abbrev pub Walking : List (List ℕ) → Sifted → ℕ → ℕ → Type 0
  Walking got s i next = sift_tiles opened nothing_sifted opened.tiles got ≡ sift_tiles opened s (drop i opened.tiles) (drop next got)

  walk_on : (got : List (List ℕ)) (s : Sifted) (i next : ℕ) (t : WantedTile) → Walking got s i next → i < length opened.tiles → get_or opened.tiles i t ≡ t
      → sift_tiles opened nothing_sifted opened.tiles got ≡ and_then (sift_tile opened s t (drop next got)) (λ n. sift_tiles opened n (drop (suc i) opened.tiles) (drop (length t.spans) (drop next got)))
  walk_on got s i next t walks within is = walks ∙ ap (λ ts. sift_tiles opened s ts (drop next got)) (drop_here t i opened.tiles within is) ∙ tiles_step s t (drop (suc i) opened.tiles) (drop next got)

  -- one tile more, whose spans are done with
  pub walk_more : (got : List (List ℕ)) (s other : Sifted) (i next k : ℕ) (t : WantedTile) → Walking got s i next → i < length opened.tiles → get_or opened.tiles i t ≡ t
      → sift_tile opened s t (drop next got) ≡ Ok other → k ≡ min (length got - next) (length t.spans) → Walking got other (i + 1) (next + k)
  walk_more got s other i next k t walks within is read steps =
      let one : suc i ≡ i + 1 = omega arith in
      walk_on got s i next t walks within is
      ∙ ap (λ (r : Result Sifted Fault). and_then r (λ n. sift_tiles opened n (drop (suc i) opened.tiles) (drop (length t.spans) (drop next got)))) read
      ∙ ap (λ n. sift_tiles opened other (drop n opened.tiles) (drop (length t.spans) (drop next got))) one
      ∙ ap (λ gots. sift_tiles opened other (drop (i + 1) opened.tiles) gots) (sym (drop_capped next (length t.spans) got))
      ∙ ap (λ m. sift_tiles opened other (drop (i + 1) opened.tiles) (drop (next + m) got)) (sym steps)

  -- what is broken in a tile is what is broken at all
  pub walk_stops : {A B : Type 0} (seen : A → Sifted) (also : B → Sifted) (got : List (List ℕ)) (s : Sifted) (i next : ℕ) (t : WantedTile) (f : CellFault) → Walking got s i next → i < length opened.tiles → get_or opened.tiles i t ≡ t
      → DecodesFault seen (sift_tile opened s t (drop next got)) (Err f) → DecodesFault also (sift_tiles opened nothing_sifted opened.tiles got) (Err f)
  walk_stops seen also got s i next t f walks within is broken =
      let on = λ (n : Sifted). sift_tiles opened n (drop (suc i) opened.tiles) (drop (length t.spans) (drop next got)) in
      told_same also (sift_tiles opened nothing_sifted opened.tiles got) (and_then (sift_tile opened s t (drop next got)) on) (Err f) (walk_on got s i next t walks within is)
      (fault_stays seen also (sift_tile opened s t (drop next got)) on f broken)

  -- behind the last tile all is taken
  pub walk_ends : (got : List (List ℕ)) (s : Sifted) (i next : ℕ) → Walking got s i next → length opened.tiles ≤ i → sift_tiles opened nothing_sifted opened.tiles got ≡ Ok s
  walk_ends got s i next walks past = walks ∙ ap (λ ts. sift_tiles opened s ts (drop next got)) (drop_of_length-le opened.tiles past) ∙ ap Ok (sifted_none opened s)

  -- ---- the verdict

  -- what was taken is answered
  pub whole_judged : (answer : Result (List StoredCell) Fault) (s : Sifted) → and_then answer (λ cs. Ok (sifted opened nothing_sifted cs)) ≡ Ok s → Whole s.found ≡ verdict_on opened answer
  whole_judged (Ok cells) s e = let is : sifted opened nothing_sifted cells ≡ s = cc in ap (λ (t : Sifted). Whole t.found) (sym is)
  whole_judged (Err f) s e = absurd (cc)

  -- what is broken is told
  pub told_judged : {A E : Type 0} (seen : A → Sifted) (answer : Result (List StoredCell) Fault) (f : CellFault) (r : Result Verdict E) → DecodesFault seen (and_then answer (λ cs. Ok (sifted opened nothing_sifted cs))) (Err f) → IfOk r (IsToldAs f)
      → IfOk r (λ verdict. verdict ≡ verdict_on opened answer)
  told_judged seen (Ok cells) (fault.Broken part at) (Ok verdict) e is = absurd (cc)
  told_judged seen (Err g) (fault.Broken part at) (Ok verdict) e is = let same : g ≡ record { part = part; at = at } = cc in is ∙ ap (λ (h : Fault). Broken h.part h.at) (sym same)
  told_judged seen answer fault.OutOfMemory (Ok verdict) e is = absurd is
  told_judged seen answer f (Err x) e is = tt

-- the steps of the loop over the tiles
pub ruleset walk_steps = (walk_more, walk_ends)
