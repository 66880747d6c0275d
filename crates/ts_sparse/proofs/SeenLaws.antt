-- Where the integers and the values of batches are seen: batch by batch, and the one at a spot.
use Rattle.std.proofs.Common.{◌≡◌, ℕ, zero, suc, ◌+◌, ◌<◌, ◌≤◌, ℤ, pos, List, [], ◌∷◌, ◌++◌, length, map, take, get_or, Option, Some, refl, sym, ap, ◌∙◌, subst, arith}
use Rattle.std.specs.List.{slice_get, slice_index_or}
use Rattle.std.proofs.lemmas.List.{take_more, take_all, length-map}
use Rattle.std.proofs.lemmas.Option.{unwrap_or-slice_get}
use Rattle.std.specs.Option.{unwrap_or}
use Rattle.ts_base.specs.declared.heads.Version.{Version}
use Rattle.ts_base.specs.declared.values.Val.{Val}
use Rattle.ts_base.specs.declared.values.Val.TheVariants.{Null, Int}
use Rattle.ts_wire.specs.Exact.{EachFits}
use Rattle.ts_table.specs.declared.numbers.Integers.{Integers}
use Rattle.ts_table.specs.Tables.{column_of, HasVals, version_or}
use Rattle.ts_piece.specs.declared.spots.Spot.{Spot}
use Rattle.ts_piece.specs.Spots.{IsSpot}
use Rattle.ts_sparse.specs.declared.values.Source.{Source}
use Rattle.ts_sparse.specs.Seen.{coord_of, IsSlice, AreSlices, IsSource, AreSources}

-- ---- batch by batch

module _ {S : Type 0} (Of : List Version → S → Type 0) where
  each_push : (batches : List (List Version)) (items : List S) (b : List Version) (s : S) → EachFits Of batches items → Of b s → EachFits Of (batches ++ b ∷ []) (items ++ s ∷ [])
  each_push [] [] b s are is = (is, tt)
  each_push [] (t ∷ items) b s are is = absurd are
  each_push (a ∷ batches) [] b s are is = absurd are
  each_push (a ∷ batches) (t ∷ items) b s are is = (are.0, each_push batches items b s are.1 is)

  -- one batch more
  pub each_next : (batches : List (List Version)) (items next : List S) (i : ℕ) (b : List Version) (s : S) → EachFits Of (take i batches) items → i < length batches → b ≡ get_or batches i b → Of b s → next ≡ items ++ s ∷ []
      → EachFits Of (take (i + 1) batches) next
  each_next batches items next i b s are within this is push =
      let front : take (i + 1) batches ≡ take i batches ++ b ∷ [] = take_more batches i b within ∙ ap (λ x. take i batches ++ x ∷ []) (sym this) in
      subst (λ bs. EachFits Of bs next) (sym front) (subst (EachFits Of (take i batches ++ b ∷ [])) (sym push) (each_push (take i batches) items b s are is))

  pub each_none : (batches : List (List Version)) (items : List S) → items ≡ [] → EachFits Of (take 0 batches) items
  each_none batches items none = subst (EachFits Of []) (sym none) tt

  pub each_whole : (batches : List (List Version)) (items : List S) (i : ℕ) → EachFits Of (take i batches) items → length batches ≤ i → EachFits Of batches items
  each_whole batches items i are over = subst (λ bs. EachFits Of bs items) (take_all i batches over) are

  each_many : (batches : List (List Version)) (items : List S) → EachFits Of batches items → length items ≡ length batches
  each_many [] [] are = refl
  each_many [] (t ∷ items) are = absurd are
  each_many (a ∷ batches) [] are = absurd are
  each_many (a ∷ batches) (t ∷ items) are = ap suc (each_many batches items are.1)

  -- what is found for the batch at a place is of that batch
  each_there : (batches : List (List Version)) (items : List S) (k : ℕ) (d : S) → EachFits Of batches items → k < length batches → Of (slice_index_or batches k []) (get_or items k d)
  each_there [] items k d are within = absurd (omega (arith, within))
  each_there (b ∷ batches) [] k d are within = absurd are
  each_there (b ∷ batches) (s ∷ items) zero d are within = are.0
  each_there (b ∷ batches) (s ∷ items) (suc k) d are within = each_there batches items k d are.1 (omega (arith, within))

pub ruleset eaches = (each_none, each_next, each_whole)

-- ---- at a spot

no_batch : (k : ℕ) (d : List Version) → slice_index_or [] k d ≡ d
no_batch k d = search arith

-- the batch of a spot is there
within_batches : (batches : List (List Version)) (k place : ℕ) → place < length (slice_index_or batches k []) → k < length batches
within_batches [] k place within = absurd (omega (arith, within, ap length (no_batch k [])))
within_batches (b ∷ batches) zero place within = omega arith
within_batches (b ∷ batches) (suc k) place within = let more = within_batches batches k place within in omega (arith, more)

pub batch_there : (batches : List (List Version)) (s : Spot) → IsSpot batches s → s.batch < length batches
batch_there batches s is = within_batches batches s.batch s.place is

-- there are as many slices, or sources, as batches
pub slices_many : (dim : ℕ) (batches : List (List Version)) (slices : List (Option Integers)) → AreSlices dim batches slices → length slices ≡ length batches
slices_many dim batches slices are = each_many _ batches slices are

pub sources_many : (attr : ℕ) (batches : List (List Version)) (sources : List Source) → AreSources attr batches sources → length sources ≡ length batches
sources_many attr batches sources are = each_many _ batches sources are

-- ---- coordinates

-- the slice that is found for the batch of a spot has its coordinates
pub slice_there : (dim : ℕ) (batches : List (List Version)) (slices : List (Option Integers)) (s : Spot) (d found : Option Integers) → AreSlices dim batches slices → IsSpot batches s → get_or slices s.batch d ≡ found
    → IsSlice dim (slice_index_or batches s.batch []) found
slice_there dim batches slices s d found are is same = subst (IsSlice dim (slice_index_or batches s.batch [])) same (each_there (IsSlice dim) batches slices s.batch d are (batch_there batches s is))

-- the coordinate at a place of a slice
pub coord_there : (dim : ℕ) (versions : List Version) (all : List ℤ) (place : ℕ) → all ≡ column_of versions dim → place < length versions → get_or all place (pos 0) ≡ coord_of dim (version_or versions place)
coord_there dim versions all place same within = ap (λ zs. get_or zs place (pos 0)) same ∙ go versions place within
  where
    go : (versions : List Version) (place : ℕ) → place < length versions → get_or (column_of versions dim) place (pos 0) ≡ coord_of dim (version_or versions place)
    go [] place within = absurd (omega (arith, within))
    go (v ∷ versions) zero within = refl
    go (v ∷ versions) (suc place) within = go versions place (omega (arith, within))

pub coords_long : (dim : ℕ) (versions : List Version) (all : List ℤ) → all ≡ column_of versions dim → length all ≡ length versions
coords_long dim versions all same = ap length same ∙ length-map versions _

-- ---- values

-- the source that is found for the batch of a spot has its values
pub source_there : (attr : ℕ) (batches : List (List Version)) (sources : List Source) (s : Spot) (d found : Source) → AreSources attr batches sources → IsSpot batches s → get_or sources s.batch d ≡ found
    → IsSource attr (slice_index_or batches s.batch []) found
source_there attr batches sources s d found are is same = subst (IsSource attr (slice_index_or batches s.batch [])) same (each_there (IsSource attr) batches sources s.batch d are (batch_there batches s is))

-- the column of integers that a slice has
pub ints_are : (attr : ℕ) (versions : List Version) (column : List Val) (all : List ℤ) → HasVals versions attr column → map Int all ≡ column → HasVals versions attr (map Int all)
ints_are attr versions column all has same = subst (HasVals versions attr) (sym same) has

pub ints_long : (attr : ℕ) (versions : List Version) (all : List ℤ) → HasVals versions attr (map Int all) → length all ≡ length versions
ints_long attr versions all has = sym (length-map all Int) ∙ has.long

-- the value at a place of a column
pub value_there : (attr : ℕ) (versions : List Version) (column : List Val) (place : ℕ) (v : Val) → HasVals versions attr column → place < length versions → slice_get column place ≡ Some v → v ≡ get_or (version_or versions place).row attr Null
value_there attr versions column place v has within some =
    sym (ap (λ o. unwrap_or o Null) (has.there place within ∙ some)) ∙ unwrap_or-slice_get (version_or versions place).row attr Null

-- the value at a place of a slice
pub int_there : (attr : ℕ) (versions : List Version) (all : List ℤ) (place : ℕ) (z : ℤ) → HasVals versions attr (map Int all) → place < length versions → z ≡ get_or all place (pos 0) → Int z ≡ get_or (version_or versions place).row attr Null
int_there attr versions all place z has within is =
    let long = ints_long attr versions all has in
    value_there attr versions (map Int all) place (Int z) has within (go all place (omega (arith, within, long)) ∙ ap (λ y. Some (Int y)) (sym is))
  where
    go : (all : List ℤ) (i : ℕ) → i < length all → slice_get (map Int all) i ≡ Some (Int (get_or all i (pos 0)))
    go [] i within = absurd (omega (arith, within))
    go (x ∷ all) zero within = refl
    go (x ∷ all) (suc i) within = go all i (omega (arith, within))
