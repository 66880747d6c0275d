-- Taking what is wanted, tile by tile.
use Rattle.std.proofs.Common.{◌≡◌, ℕ, suc, ◌+◌, ◌-◌, ◌<◌, ◌≤◌, min, List, [], ◌∷◌, ◌++◌, length, get_or, drop, refl, sym, ap, ◌∙◌, arith, append_assoc}
use Rattle.std.specs.Prelude.{Result, Ok, Err, IfOk}
use Rattle.std.proofs.Math.ListN.{drop_of_length-le}
use Rattle.std.proofs.lemmas.List.{append-nil}
use Rattle.ts_base.specs.declared.heads.Version.{Version}
use Rattle.ts_base.specs.declared.values.Val.{Val}
use Rattle.ts_domain.specs.declared.boxes.SubBox.{SubBox}
use Rattle.ts_order.specs.Orders.{coords_in_order}
use Rattle.ts_plain.specs.declared.stored.StoredCell.{StoredCell}
use Rattle.ts_fetch.specs.declared.judging.Verdict.{Verdict}
use Rattle.ts_fetch.specs.declared.judging.Verdict.TheVariants.{Whole, Broken}
use Rattle.ts_sparse_read.specs.declared.opened.WantedTile.{WantedTile}
use Rattle.ts_sparse_read.specs.declared.faults.CellFault.{CellFault}
use Rattle.ts_sparse_read.specs.declared.faults.CellFault.TheVariants as fault
use Rattle.ts_sparse_read.specs.Faults.{Fault, and_then, Ranged}
use Rattle.ts_sparse_read.specs.TileReads.{rows_in, cells_from, vals_of_tile}
use Rattle.ts_sparse_read.specs.Judges.{ranged}
use Rattle.ts_sparse_read.specs.Reads.{DecodesFault, IsToldAs}
use Rattle.ts_sparse_read.proofs.SiftLaws.{fault_stays, told_same}
use Rattle.ts_sparse_read.proofs.TileSifts.{drop_here, drop_capped}
use Rattle.ts_dense_read.specs.declared.opened.Opened.{Opened}
use Rattle.ts_dense_read.specs.declared.slots.TileSlots.{TileSlots}
use Rattle.ts_dense_read.specs.SlotReads.{slot_origins_if, slots_of_tile}
use Rattle.ts_dense_read.specs.SpaceJudges.{slots_of_tiles, verdict_on}
use Rattle.ts_dense_read.specs.SpaceTakes.{read_of_tile, slots_in, taken_of, behind, part_taken, tile_taken, tiles_taken}
use Rattle.ts_dense_read.proofs.SlotTakes.{taken_both}

-- ---- what was taken before

-- nothing before leaves all as it is
behind_none : (r : Result (List Version) Fault) → behind [] r ≡ r
behind_none (Ok xs) = refl
behind_none (Err f) = refl

-- what was taken before stands before all that is taken then
behind_more : (found here : List Version) (r : Result (List Version) Fault) → behind found (behind here r) ≡ behind (found ++ here) r
behind_more found here (Ok more) = ap Ok (sym (append_assoc found here more))
behind_more found here (Err f) = refl

behind_then : (found : List Version) (r : Result (List Version) Fault) (rest : Result (List Version) Fault) → behind found (and_then r (λ here. behind here rest)) ≡ and_then (behind found r) (λ here. behind here rest)
behind_then found (Ok here) rest = behind_more found here rest
behind_then found (Err f) rest = refl

module _ (opened : Opened) where
  -- ---- one tile

  -- the slots of a tile are those of what was read of it
  tile_split : (leaf : SubBox) (count : ℕ) (ranges : List Ranged)
      → slots_of_tile opened.frame opened.attrs (opened.want).attrs opened.head leaf count ranges ≡ and_then (read_of_tile opened count ranges) (λ (s : TileSlots). Ok (slots_in opened leaf s))
  unfolding slots_of_tile
  tile_split leaf count ranges = go (vals_of_tile (opened.want).attrs count ranges 0 opened.attrs)
    where
      made : List ℕ → List (List Val) → TileSlots
      made origins vals = record { count = count; origins = origins; vals = vals }

      next : List (List Val) → Result (List ℕ) Fault
      next vals = slot_origins_if (opened.head).consolidated (length (opened.head).origins) (opened.want).attrs opened.attrs count (rows_in count vals) ranges

      last : (vals : List (List Val)) (r : Result (List ℕ) Fault)
          → and_then r (λ origins. Ok (cells_from (coords_in_order (opened.frame).cell leaf) origins (rows_in count vals))) ≡ and_then (and_then r (λ origins. Ok (made origins vals))) (λ (s : TileSlots). Ok (slots_in opened leaf s))
      last vals (Ok origins) = refl
      last vals (Err f) = refl

      go : (r : Result (List (List Val)) Fault)
          → and_then r (λ vals. and_then (next vals) (λ origins. Ok (cells_from (coords_in_order (opened.frame).cell leaf) origins (rows_in count vals))))
          ≡ and_then (and_then r (λ vals. and_then (next vals) (λ origins. Ok (made origins vals)))) (λ (s : TileSlots). Ok (slots_in opened leaf s))
      go (Ok vals) = last vals (next vals)
      go (Err f) = refl

  -- so what is taken of it
  part_split : (leaf : SubBox) (count : ℕ) (ranges : List Ranged) → part_taken opened leaf count ranges ≡ and_then (read_of_tile opened count ranges) (λ (s : TileSlots). Ok (taken_of opened (slots_in opened leaf s)))
  part_split leaf count ranges =
      ap (λ (r : Result (List StoredCell) Fault). and_then r (λ cs. Ok (taken_of opened cs))) (tile_split leaf count ranges) ∙ go (read_of_tile opened count ranges)
    where
      go : (r : Result TileSlots Fault) → and_then (and_then r (λ (s : TileSlots). Ok (slots_in opened leaf s))) (λ cs. Ok (taken_of opened cs)) ≡ and_then r (λ (s : TileSlots). Ok (taken_of opened (slots_in opened leaf s)))
      go (Ok s) = refl
      go (Err f) = refl

  -- what is broken in what was read is told
  pub part_stops : {A B : Type 0} (seen : A → TileSlots) (also : B → List Version) (found : List Version) (leaf : SubBox) (count : ℕ) (ranges : List Ranged) (f : CellFault)
      → DecodesFault seen (read_of_tile opened count ranges) (Err f) → DecodesFault also (behind found (part_taken opened leaf count ranges)) (Err f)
  part_stops seen also found leaf count ranges f is =
      let next = λ (s : TileSlots). Ok (taken_of opened (slots_in opened leaf s)) in
      told_same also (behind found (part_taken opened leaf count ranges)) (behind found (and_then (read_of_tile opened count ranges) next)) (Err f) (ap (behind found) (part_split leaf count ranges))
      (fault_stays also also (and_then (read_of_tile opened count ranges) next) (λ more. Ok (found ++ more)) f (fault_stays seen also (read_of_tile opened count ranges) next f is))

  -- then what is wanted of the slots is taken
  pub part_goes : (found more : List Version) (leaf : SubBox) (count : ℕ) (ranges : List Ranged) (s : TileSlots) → read_of_tile opened count ranges ≡ Ok s → more ≡ found ++ taken_of opened (slots_in opened leaf s)
      → behind found (part_taken opened leaf count ranges) ≡ Ok more
  part_goes found more leaf count ranges s is push =
      ap (behind found) (part_split leaf count ranges ∙ ap (λ (r : Result TileSlots Fault). and_then r (λ (t : TileSlots). Ok (taken_of opened (slots_in opened leaf t)))) is) ∙ ap Ok (sym push)

  -- ---- one tile more

  -- behind what is taken of one tile comes what is taken of the others
  tiles_step : (t : WantedTile) (tiles : List WantedTile) (got : List (List ℕ)) → tiles_taken opened (t ∷ tiles) got ≡ and_then (tile_taken opened t got) (λ here. behind here (tiles_taken opened tiles (drop (length t.spans) got)))
  tiles_step t tiles got =
      go (slots_of_tile opened.frame opened.attrs (opened.want).attrs opened.head t.leaf t.cells (ranged t.spans got)) (slots_of_tiles opened.frame opened.attrs (opened.want).attrs opened.head tiles (drop (length t.spans) got))
    where
      both : (here : List StoredCell) (r : Result (List StoredCell) Fault)
          → and_then (and_then r (λ others. Ok (here ++ others))) (λ cs. Ok (taken_of opened cs)) ≡ behind (taken_of opened here) (and_then r (λ cs. Ok (taken_of opened cs)))
      both here (Ok others) = ap Ok (taken_both opened here others)
      both here (Err f) = refl

      go : (a r : Result (List StoredCell) Fault)
          → and_then (and_then a (λ here. and_then r (λ others. Ok (here ++ others)))) (λ cs. Ok (taken_of opened cs))
          ≡ and_then (and_then a (λ cs. Ok (taken_of opened cs))) (λ here. behind here (and_then r (λ cs. Ok (taken_of opened cs))))
      go (Ok here) r = both here r
      go (Err f) r = refl

  -- what is taken of all tiles is what is taken of those from the i-th on, behind what was taken so far
  abbrev pub Walking : List (List ℕ) → List Version → ℕ → ℕ → Type 0
  Walking got found i next = tiles_taken opened opened.tiles got ≡ behind found (tiles_taken opened (drop i opened.tiles) (drop next got))

  -- before the first tile nothing was taken
  pub walk_starts : (got : List (List ℕ)) (found : List Version) → found ≡ [] → Walking got found 0 0
  walk_starts got found none = sym (ap (λ vs. behind vs (tiles_taken opened opened.tiles got)) none ∙ behind_none (tiles_taken opened opened.tiles got))

  walk_on : (got : List (List ℕ)) (found : List Version) (i next : ℕ) (t : WantedTile) → Walking got found i next → i < length opened.tiles → get_or opened.tiles i t ≡ t
      → tiles_taken opened opened.tiles got ≡ and_then (behind found (tile_taken opened t (drop next got))) (λ here. behind here (tiles_taken opened (drop (suc i) opened.tiles) (drop (length t.spans) (drop next got))))
  walk_on got found i next t walks within is =
      walks ∙ ap (λ ts. behind found (tiles_taken opened ts (drop next got))) (drop_here t i opened.tiles within is)
      ∙ ap (behind found) (tiles_step t (drop (suc i) opened.tiles) (drop next got))
      ∙ behind_then found (tile_taken opened t (drop next got)) (tiles_taken opened (drop (suc i) opened.tiles) (drop (length t.spans) (drop next got)))

  -- one tile more, whose spans are done with
  pub walk_more : (got : List (List ℕ)) (found other : List Version) (i next k : ℕ) (t : WantedTile) → Walking got found i next → i < length opened.tiles → get_or opened.tiles i t ≡ t
      → behind found (tile_taken opened t (drop next got)) ≡ Ok other → k ≡ min (length got - next) (length t.spans) → Walking got other (i + 1) (next + k)
  walk_more got found other i next k t walks within is read steps =
      let one : suc i ≡ i + 1 = omega arith in
      walk_on got found i next t walks within is
      ∙ ap (λ (r : Result (List Version) Fault). and_then r (λ here. behind here (tiles_taken opened (drop (suc i) opened.tiles) (drop (length t.spans) (drop next got))))) read
      ∙ ap (λ n. behind other (tiles_taken opened (drop n opened.tiles) (drop (length t.spans) (drop next got)))) one
      ∙ ap (λ gots. behind other (tiles_taken opened (drop (i + 1) opened.tiles) gots)) (sym (drop_capped next (length t.spans) got))
      ∙ ap (λ m. behind other (tiles_taken opened (drop (i + 1) opened.tiles) (drop (next + m) got))) (sym steps)

  -- what is broken in a tile is what is broken at all
  pub walk_stops : {A B : Type 0} (seen : A → List Version) (also : B → List Version) (got : List (List ℕ)) (found : List Version) (i next : ℕ) (t : WantedTile) (f : CellFault) → Walking got found i next → i < length opened.tiles → get_or opened.tiles i t ≡ t
      → DecodesFault seen (behind found (tile_taken opened t (drop next got))) (Err f) → DecodesFault also (tiles_taken opened opened.tiles got) (Err f)
  walk_stops seen also got found i next t f walks within is broken =
      let on = λ (here : List Version). behind here (tiles_taken opened (drop (suc i) opened.tiles) (drop (length t.spans) (drop next got))) in
      told_same also (tiles_taken opened opened.tiles got) (and_then (behind found (tile_taken opened t (drop next got))) on) (Err f) (walk_on got found i next t walks within is)
      (fault_stays seen also (behind found (tile_taken opened t (drop next got))) on f broken)

  -- behind the last tile all is taken
  pub walk_ends : (got : List (List ℕ)) (found : List Version) (i next : ℕ) → Walking got found i next → length opened.tiles ≤ i → tiles_taken opened opened.tiles got ≡ Ok found
  walk_ends got found i next walks past = walks ∙ ap (λ ts. behind found (tiles_taken opened ts (drop next got))) (drop_of_length-le opened.tiles past) ∙ ap Ok (append-nil found)

  -- ---- the verdict

  -- what was taken is answered
  pub whole_judged : (answer : Result (List StoredCell) Fault) (found : List Version) → and_then answer (λ cs. Ok (taken_of opened cs)) ≡ Ok found → Whole found ≡ verdict_on opened answer
  whole_judged (Ok cells) found e = let is : taken_of opened cells ≡ found = cc in ap Whole (sym is)
  whole_judged (Err f) found e = absurd (cc)

  -- what is broken is told
  pub told_judged : {A E : Type 0} (seen : A → List Version) (answer : Result (List StoredCell) Fault) (f : CellFault) (r : Result Verdict E) → DecodesFault seen (and_then answer (λ cs. Ok (taken_of opened cs))) (Err f) → IfOk r (IsToldAs f)
      → IfOk r (λ verdict. verdict ≡ verdict_on opened answer)
  told_judged seen (Ok cells) (fault.Broken part at) (Ok verdict) e is = absurd (cc)
  told_judged seen (Err g) (fault.Broken part at) (Ok verdict) e is = let same : g ≡ record { part = part; at = at } = cc in is ∙ ap (λ (h : Fault). Broken h.part h.at) (sym same)
  told_judged seen answer fault.OutOfMemory (Ok verdict) e is = absurd is
  told_judged seen answer f (Err x) e is = tt
