-- The versions of a strip, and the places of their cells.
use Rattle.std.proofs.Common.{◌≡◌, ℕ, ◌+◌, ◌<◌, ◌≤◌, ◌⊎◌, inl, inr, ℤ, List, [], ◌∷◌, ◌++◌, length, get_or, take, drop, Some, true, false, int_cmp, sym, ap, subst, ◌∙◌, arith, Less}
use Rattle.std.specs.Prelude.{slice_get}
use Rattle.std.specs.Cmp.Lexicographic.{slice_cmp}
use Rattle.std.specs.Ordering.{is_eq}
use Rattle.std.proofs.lemmas.Bool.{cases_lt}
use Rattle.std.proofs.lemmas.Cmp.{tied_itself}
use Rattle.std.proofs.lemmas.List.{get_or-drop, get_or-map, get_or-take, length-drop, length-map, length-take, take_more}
use Rattle.std.proofs.lemmas.Option.{slice_get-get_or}
use Rattle.ts_base.specs.declared.heads.Version.{Version}
use Rattle.ts_domain.specs.declared.boxes.SubBox.{SubBox}
use Rattle.ts_domain.specs.declared.orders.Order.TheVariants.{Row}
use Rattle.ts_domain.specs.Boxes.{IsBox, coords_of_box}
use Rattle.ts_order.specs.Orders.{Ascends}
use Rattle.ts_order.proofs.OrderedCoords.{Ascends-coords_in_order}
use Rattle.ts_model.proofs.Newest.{coords_total}
use Rattle.ts_strip.specs.declared.strips.Strip.{Strip}
use Rattle.ts_strip.specs.Strips.{strip_versions, IsStrip}
use Rattle.ts_table.specs.Tables.{no_version, version_or}
use Rattle.ts_reader.proofs.BoxSlots.{in_row_order}

module _ (batches : List (List Version)) (cells : List (List ℤ)) (s : Strip) (strip : IsStrip batches cells s) (step : ℕ) (within : step < s.count) where
  abbrev own : List Version
  own = get_or batches s.batch []

  long : length (strip_versions batches s) ≡ s.count
  long = let cut = length-take s.count (drop s.place own) in let left = length-drop s.place own in omega (arith, cut, left, strip.room)

  -- the cell of the next version stands in the box
  pub strip_within : s.start + step < length cells
  strip_within =
      let alike = sym (length-map (strip_versions batches s) (λ (v : Version). v.coords)) ∙ ap length strip.alike in
      let cut = length-take s.count (drop s.start cells) in
      let left = length-drop s.start cells in
      omega (arith, within, long, alike, cut, left)

  next : get_or (strip_versions batches s) step no_version ≡ version_or own (s.place + step)
  next = get_or-take s.count (drop s.place own) step no_version within ∙ get_or-drop s.place own step no_version

  -- it stands at its place
  pub strip_there : slice_get cells (s.start + step) ≡ Some (version_or own (s.place + step)).coords
  strip_there =
      slice_get-get_or cells (s.start + step) [] strip_within
      ∙ ap Some (sym (get_or-take s.count (drop s.start cells) step [] within ∙ get_or-drop s.start cells step []) ∙ ap (λ (cs : List (List ℤ)). get_or cs step []) (sym strip.alike)
      ∙ get_or-map (λ (v : Version). v.coords) (strip_versions batches s) step no_version [] (omega (arith, within, long)) ∙ ap (λ (v : Version). v.coords) next)

  -- one version more
  pub strip_more : take (step + 1) (strip_versions batches s) ≡ take step (strip_versions batches s) ++ version_or own (s.place + step) ∷ []
  strip_more = take_more (strip_versions batches s) step no_version (omega (arith, within, long)) ∙ ap (λ v. take step (strip_versions batches s) ++ v ∷ []) next

-- a cell stands at one place of a box
pub one_place : (sub : SubBox) → IsBox sub → (i j : ℕ) (c : List ℤ) → slice_get (coords_of_box sub) i ≡ Some c → slice_get (coords_of_box sub) j ≡ Some c → i ≡ j
one_place sub valid i j c at_i at_j = by (cases_lt i j) (cases_lt j i)
  where
    rises : Ascends (slice_cmp int_cmp) (coords_of_box sub)
    rises = subst (Ascends (slice_cmp int_cmp)) (in_row_order sub) (Ascends-coords_in_order Row sub valid)

    apart : slice_cmp int_cmp c c ≡ Less → ⊥
    apart less = let tie : is_eq (slice_cmp int_cmp c c) ≡ true = ap is_eq (tied_itself coords_total c) in let other : false ≡ true = sym (ap is_eq less) ∙ tie in cc

    by : (i < j) ⊎ (j ≤ i) → (j < i) ⊎ (i ≤ j) → i ≡ j
    by (inl below) _ = absurd (apart (rises i j c c below at_i at_j))
    by (inr past) (inl above) = absurd (apart (rises j i c c above at_j at_i))
    by (inr past) (inr few) = omega (arith, past, few)
