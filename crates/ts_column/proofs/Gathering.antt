-- What was decoded side by side is what is decoded one after the other.
use Rattle.std.proofs.Common.{◌≡◌, ℕ, zero, suc, ◌+◌, Bool, List, [], ◌∷◌, ◌++◌, length, get_or, drop, Result, Ok, Err, refl, sym, ap, subst, ◌∙◌, arith, append_assoc}
use Rattle.std.specs.List.{AllZip, range_with_len}
use Rattle.std.proofs.lemmas.List.{append-nil, drop_more, drop_all}
use Rattle.ts_base.specs.declared.values.Val.{Val}
use Rattle.ts_base.specs.declared.values.ValType.{ValType}
use Rattle.ts_column.specs.declared.tiles.Tile.{Tile}
use Rattle.ts_column.specs.declared.tiles.TileFault.{TileFault}
use Rattle.ts_column.specs.declared.tiles.TileFault.TheVariants as fault
use Rattle.ts_column.specs.Tiles.{TileBreak, InFixed, InVar, InValidity, then_part, tile_vals, tiles_vals, DecodesTile, gathered_from, GatherTo}

-- a tile of no bytes
no_tile : Tile
no_tile = record { fixed = []; var = []; validity = [] }

module _ (ty : ValType) (nullable : Bool) where
  -- each answer is that of its tile
  abbrev pub Answers : List ℕ → List Tile → List (Result (List Val) TileFault) → Type 0
  Answers [] [] [] = Unit {0}
  Answers (c ∷ cs) (t ∷ ts) (x ∷ xs) = DecodesTile (λ vals. vals) (tile_vals ty nullable c t) x × Answers cs ts xs
  Answers _ _ _ = ⊥

  -- the answers by the places of the tiles
  abbrev pub AnswersAt : List ℕ → List Tile → ℕ → Result (List Val) TileFault → Type 0
  AnswersAt counts tiles i x = (d : Tile) → DecodesTile (λ vals. vals) (tile_vals ty nullable (get_or counts i 0) (get_or tiles i d)) x

  pub by_place : (counts : List ℕ) (tiles : List Tile) (n start : ℕ) (xs : List (Result (List Val) TileFault)) → start + n ≡ length counts → length tiles ≡ length counts
      → AllZip (AnswersAt counts tiles) (range_with_len start n) xs → Answers (drop start counts) (drop start tiles) xs
  by_place counts tiles zero start [] whole same all = rw (drop_all start counts (omega arith), drop_all start tiles (omega arith)) tt
  by_place counts tiles zero start (x ∷ xs) whole same all = elim all [ ]
  by_place counts tiles (suc n) start [] whole same all = elim all [ ]
  by_place counts tiles (suc n) start (x ∷ xs) whole same (first, others) =
      let here : drop start counts ≡ get_or counts start 0 ∷ drop (start + 1) counts = drop_more counts start 0 (omega arith) in
      let there : drop start tiles ≡ get_or tiles start no_tile ∷ drop (start + 1) tiles = drop_more tiles start no_tile (omega arith) in
      rw (here, there) (first no_tile, by_place counts tiles n (start + 1) xs (omega arith) same others)

  -- the values behind those before
  abbrev pub behind : List (List Val) → Result (List (List Val)) TileBreak → Result (List (List Val)) TileBreak
  behind front (Ok vals) = Ok (front ++ vals)
  behind front (Err e) = Err e

  behind_one : (front : List (List Val)) (vals : List Val) (r : Result (List (List Val)) TileBreak) → behind (front ++ vals ∷ []) r ≡ behind front (then_part r (λ others. Ok (vals ∷ others)))
  behind_one front vals (Ok others) = ap Ok (append_assoc front (vals ∷ []) others)
  behind_one front vals (Err e) = refl

  -- a tile that is broken breaks the list
  stops : (count : ℕ) (counts : List ℕ) (tile : Tile) (tiles : List Tile) (front : List (List Val)) (e : TileBreak) → tile_vals ty nullable count tile ≡ Err e → behind front (tiles_vals ty nullable (count ∷ counts) (tile ∷ tiles)) ≡ Err e
  stops count counts tile tiles front e is = rw is refl

  pub in_turn : (counts : List ℕ) (tiles : List Tile) (front : List (List Val)) (xs : List (Result (List Val) TileFault)) → Answers counts tiles xs
      → DecodesTile (λ vals. vals) (behind front (tiles_vals ty nullable counts tiles)) (gathered_from front xs)
  in_turn [] [] front [] all = ap Ok (append-nil front)
  in_turn [] [] front (x ∷ xs) all = elim all [ ]
  in_turn [] (t ∷ ts) front xs all = elim all [ ]
  in_turn (c ∷ cs) [] front xs all = elim all [ ]
  in_turn (c ∷ cs) (t ∷ ts) front [] all = elim all [ ]
  in_turn (c ∷ cs) (t ∷ ts) front (Ok vals ∷ xs) (first, others) =
      let rest = in_turn cs ts (front ++ vals ∷ []) xs others in
      let same : behind (front ++ vals ∷ []) (tiles_vals ty nullable cs ts) ≡ behind front (tiles_vals ty nullable (c ∷ cs) (t ∷ ts)) =
      behind_one front vals (tiles_vals ty nullable cs ts) ∙ ap (λ r. behind front (then_part r (λ vs. then_part (tiles_vals ty nullable cs ts) (λ os. Ok (vs ∷ os))))) (sym first) in
      subst (λ (a : Result (List (List Val)) TileBreak). DecodesTile (λ vals. vals) a (gathered_from (front ++ vals ∷ []) xs)) same rest
  in_turn (c ∷ cs) (t ∷ ts) front (Err (fault.Fixed d) ∷ xs) (first, others) = stops c cs t ts front (InFixed d.at) first
  in_turn (c ∷ cs) (t ∷ ts) front (Err (fault.Var d) ∷ xs) (first, others) = stops c cs t ts front (InVar d.at) first
  in_turn (c ∷ cs) (t ∷ ts) front (Err (fault.Validity d) ∷ xs) (first, others) = stops c cs t ts front (InValidity d.at) first
  in_turn (c ∷ cs) (t ∷ ts) front (Err fault.OutOfMemory ∷ xs) (first, others) = tt

  -- behind nothing
  nothing : (r : Result (List (List Val)) TileBreak) → behind [] r ≡ r
  nothing (Ok vals) = refl
  nothing (Err e) = refl

  -- the answer that was gathered
  gathered_so : (counts : List ℕ) (tiles : List Tile) (xs : List (Result (List Val) TileFault)) (r : Result (List (List Val)) TileFault) → Answers counts tiles xs → gathered_from [] xs ≡ r
      → DecodesTile (λ vals. vals) (tiles_vals ty nullable counts tiles) r
  gathered_so counts tiles xs r all so =
      let first = in_turn counts tiles [] xs all in
      subst (λ (a : Result (List (List Val)) TileBreak). DecodesTile (λ vals. vals) a r) (nothing (tiles_vals ty nullable counts tiles))
      (subst (λ (q : Result (List (List Val)) TileFault). DecodesTile (λ vals. vals) (behind [] (tiles_vals ty nullable counts tiles)) q) so first)

  -- what was gathered is what is decoded one tile after the other
  pub gathered_all : (counts : List ℕ) (tiles : List Tile) (xs : List (Result (List Val) TileFault)) (result : Result (List (List Val)) TileFault) → Answers counts tiles xs
      → GatherTo xs result → DecodesTile (λ vals. vals) (tiles_vals ty nullable counts tiles) result
  gathered_all counts tiles xs (Ok vals) all so = gathered_so counts tiles xs (Ok vals) all so
  gathered_all counts tiles xs (Err fault.OutOfMemory) all so = tt
  gathered_all counts tiles xs (Err (fault.Fixed d)) all so = gathered_so counts tiles xs (Err (fault.Fixed d)) all so
  gathered_all counts tiles xs (Err (fault.Var d)) all so = gathered_so counts tiles xs (Err (fault.Var d)) all so
  gathered_all counts tiles xs (Err (fault.Validity d)) all so = gathered_so counts tiles xs (Err (fault.Validity d)) all so
