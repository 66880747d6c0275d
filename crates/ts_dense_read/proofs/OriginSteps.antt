-- The origins of slots, slot after slot.
use Rattle.std.proofs.Common.{◌≡◌, ℕ, ◌+◌, ◌<◌, ◌≤◌, List, [], ◌∷◌, ◌++◌, length, drop, get_or, Ok, Err, ap, ◌∙◌, arith}
use Rattle.std.specs.List.{All}
use Rattle.std.proofs.lemmas.List.{length-append}
use Rattle.ts_base.specs.declared.values.Val.{Val}
use Rattle.ts_base.specs.declared.values.Val.TheVariants.{Null}
use Rattle.ts_schema.specs.declared.attrs.Attr.{Attr}
use Rattle.ts_wire.specs.Place.{Place, each_at}
use Rattle.ts_wire.proofs.Loop.{with_front, each_place_on, each_place_stop, each_done}
use Rattle.ts_sparse_read.specs.TileReads.{rows_in}
use Rattle.ts_sparse_read.proofs.CellSteps.{rows_long, row_of}
use Rattle.ts_dense_read.specs.SlotReads.{slot_origin_at}
use Rattle.ts_dense_read.specs.SpaceTakes.{row_there}

module _ (entries : ℕ) (places : List ℕ) (attrs : List Attr) (vals : List (List Val)) (count : ℕ) where
  -- the origins that were read, and those that are still to be read, are all of them
  pub record Reading (start : Place) (origins : List ℕ) (cursor : Place) (k : ℕ) : Type 0 where
    pub many : length origins ≡ k
    pub read : with_front origins (each_at (slot_origin_at entries places attrs) (drop k (rows_in count vals)) cursor) ≡ each_at (slot_origin_at entries places attrs) (rows_in count vals) start

  pub reading_more : (start p q : Place) (origins more : List ℕ) (k origin : ℕ) → All (λ (column : List Val). length column ≡ count) vals → Reading start origins p k → k < count
      → slot_origin_at entries places attrs (row_there vals k) p ≡ Ok (origin, q) → more ≡ origins ++ origin ∷ [] → Reading start more q (k + 1)
  reading_more start p q origins more k origin all so within is push =
      let here : k < length (rows_in count vals) = omega (arith, rows_long count vals all, within) in
      let at : slot_origin_at entries places attrs (get_or (rows_in count vals) k []) p ≡ Ok (origin, q) = ap (λ row. slot_origin_at entries places attrs row p) (row_of Null count vals k all within) ∙ is in
      record {
        many = ap length push ∙ length-append origins (origin ∷ []) ∙ ap (λ n. n + 1) so.many;
        read = ap (λ os. with_front os (each_at (slot_origin_at entries places attrs) (drop (k + 1) (rows_in count vals)) q)) push
            ∙ each_place_on (slot_origin_at entries places attrs) (rows_in count vals) k [] origins p q origin (each_at (slot_origin_at entries places attrs) (rows_in count vals) start) here at so.read;
      }

  pub reading_stops : (start p : Place) (origins : List ℕ) (k at : ℕ) → All (λ (column : List Val). length column ≡ count) vals → Reading start origins p k → k < count
      → slot_origin_at entries places attrs (row_there vals k) p ≡ Err at → each_at (slot_origin_at entries places attrs) (rows_in count vals) start ≡ Err at
  reading_stops start p origins k at all so within is =
      let here : k < length (rows_in count vals) = omega (arith, rows_long count vals all, within) in
      each_place_stop (slot_origin_at entries places attrs) (rows_in count vals) k [] origins p (each_at (slot_origin_at entries places attrs) (rows_in count vals) start) here so.read at
      (ap (λ row. slot_origin_at entries places attrs row p) (row_of Null count vals k all within) ∙ is)

  pub reading_ends : (start p : Place) (origins : List ℕ) (k : ℕ) → All (λ (column : List Val). length column ≡ count) vals → Reading start origins p k → count ≤ k
      → each_at (slot_origin_at entries places attrs) (rows_in count vals) start ≡ Ok (origins, p)
  reading_ends start p origins k all so over =
      each_done (slot_origin_at entries places attrs) (rows_in count vals) k origins p (each_at (slot_origin_at entries places attrs) (rows_in count vals) start) (omega (arith, rows_long count vals all, over)) so.read

-- each value of a column of so many stands at a place
pub all_within : (count place : ℕ) (vals : List (List Val)) → All (λ (column : List Val). length column ≡ count) vals → place < count → All (λ (column : List Val). place < length column) vals
all_within count place vals all within i d here = omega (arith, all i d here, within)

pub ruleset reading_steps = (reading_more, reading_stops, reading_ends)
