-- A consolidation has no more versions than its head counts cells.
use Rattle.std.proofs.Common.{◌≡◌, ℕ, ℤ, ◌≤◌, ◌<◌, ◌-◌, ◌^◌, ◌||◌, Bool, true, false, eqb, inl, inr, List, [], ◌∷◌, length, refl, sym, ◌∙◌, ap, subst, arith}
use Rattle.std.specs.Prelude.{IsTrue, All, min, map as list_map}
use Rattle.std.specs.List.{AllByRecursion, IsDistinct, list_any}
use Rattle.std.specs.declared.cmp.Ordering.TheVariants.{Less, Equal}
use Rattle.std.proofs.lemmas.Bool.{true≢false, ne_eqb, eqb-true}
use Rattle.std.proofs.lemmas.List.{length-map}
use Rattle.std.proofs.lemmas.List.Elements.{All-head, All-tail, All-weaker}
use Rattle.std.proofs.lemmas.Map.Steps.{length-le_from_distinct_below}
use Rattle.ts_base.specs.declared.heads.Piece.{Piece}
use Rattle.ts_base.specs.declared.heads.Version.{Version}
use Rattle.ts_domain.specs.Bounds.{is_between, cells_between}
use Rattle.ts_order.specs.Places.{coords_of_place, place_of}
use Rattle.ts_order.proofs.PlaceLaws.{place_of-below, coords_of_place-place_of}
use Rattle.ts_order.proofs.OrderLemmas.{global_cmp-same}
use Rattle.ts_schema.specs.declared.attrs.Attr.{Attr}
use Rattle.ts_schema.specs.declared.frames.Frame.{Frame}
use Rattle.ts_model.specs.Commands.{global_order}
use Rattle.ts_model.specs.Consolidated.{IsMergedVersion, ComesBefore, Rise, IsConsolidated}

module _ (frame : Frame) (dense : frame.dense ≡ true) (low high : List ℤ) where
  -- the place of a version's cell in the box
  abbrev number : Version → ℕ
  number v = place_of low high v.coords

  -- its cell lies in the box
  abbrev Within : Version → Type 0
  Within v = IsTrue (is_between low high v.coords)

  -- no cell comes before itself
  not_itself : (c : List ℤ) → global_order frame c c ≡ Less → ⊥
  not_itself c less = let equal : global_order frame c c ≡ Equal = global_cmp-same frame.domain frame.tile frame.cell c c refl in cc

  -- versions of which one comes before the other have different places
  apart : (v w : Version) → Within v → Within w → ComesBefore frame v w → eqb (number v) (number w) ≡ false
  apart v w first second before = ne_eqb (number v) (number w) (λ same.
      let one : v.coords ≡ w.coords = sym (coords_of_place-place_of low high v.coords first) ∙ ap (coords_of_place low high) same ∙ coords_of_place-place_of low high w.coords second in
      elim before [
        | inl less ↦ not_itself v.coords (subst (λ c. global_order frame v.coords c ≡ Less) (sym one) less)
        | inr (sparse, same_cell, keys) ↦ true≢false (sym dense ∙ sparse)
      ])

  -- and so have those of which one comes before all others
  all_apart : (v : Version) (vs : List Version) → Within v → All Within vs → All (ComesBefore frame v) vs → AllByRecursion (λ (n : ℕ). eqb (number v) n ≡ false) (list_map number vs)
  all_apart v [] own all before = tt
  all_apart v (w ∷ vs) own all before =
      (apart v w own (All-head Within w vs all) (All-head (ComesBefore frame v) w vs before), all_apart v vs own (All-tail Within w vs all) (All-tail (ComesBefore frame v) w vs before))

  -- versions that rise have different places
  distinct : (vs : List Version) → All Within vs → Rise frame vs → IsDistinct eqb (list_map number vs)
  unfolding IsDistinct
  distinct [] all rise = tt
  distinct (v ∷ vs) all rise = (all_apart v vs (All-head Within v vs all) (All-tail Within v vs all) rise.0, distinct vs (All-tail Within v vs all) rise.1)

  -- each of the places is one of the box
  below : (q : ℕ) (vs : List Version) → All Within vs → list_any (eqb q) (list_map number vs) ≡ true → q < cells_between low high
  below q [] all found = cc
  below q (v ∷ vs) all found = by (eqb q (number v)) refl found (below q vs (All-tail Within v vs all))
    where
      by : (b : Bool) → eqb q (number v) ≡ b → (b || list_any (eqb q) (list_map number vs)) ≡ true → (list_any (eqb q) (list_map number vs) ≡ true → q < cells_between low high) → q < cells_between low high
      by true same found rest = subst (λ n. n < cells_between low high) (sym (eqb-true q (number v) same)) (place_of-below low high v.coords (All-head Within v vs all))
      by false other found rest = rest found

  -- so there are no more versions than cells
  few_rise : (vs : List Version) → All Within vs → Rise frame vs → length vs ≤ cells_between low high
  few_rise vs all rise =
      let many = length-le_from_distinct_below (list_map number vs) (cells_between low high) (distinct vs all rise) (λ q found. below q vs all found) in
      let long = length-map vs number in
      omega (arith, many, long)

-- a consolidation has no more versions than its head counts cells
pub counted_versions : (frame : Frame) (attrs : List Attr) (p : Piece) → IsConsolidated frame attrs p → length p.versions ≤ p.head.cells
counted_versions frame attrs p is = by frame.dense refl
  where
    within : All (λ (v : Version). IsTrue (is_between p.head.low p.head.high v.coords)) p.versions
    within = All-weaker (IsMergedVersion frame attrs p.head) (λ (v : Version). IsTrue (is_between p.head.low p.head.high v.coords)) (λ v of. of.hull) p.versions is.versions

    by : (b : Bool) → frame.dense ≡ b → length p.versions ≤ p.head.cells
    by true dense =
        let many = few_rise frame dense p.head.low p.head.high p.versions within is.rise in
        let whole = is.whole dense in
        let few = is.few in
        omega (arith, many, whole, few)
    by false sparse = let same = is.cells sparse in omega (arith, same)
