-- Versions by their spots: what holds of each, and whether neighbours ascend.
use Rattle.std.proofs.Common.{◌≡◌, ℕ, ◌+◌, ◌-◌, ◌<◌, inl, inr, List, length, get_or, sym, ap, ◌∙◌, subst, arith}
use Rattle.std.specs.Prelude.{All}
use Rattle.std.specs.Cmp.{IsTotalOrder}
use Rattle.std.specs.List.{AllAdjacentBelow}
use Rattle.std.specs.declared.cmp.Ordering.TheVariants.{Less}
use Rattle.std.proofs.lemmas.Bool.{cases_lt}
use Rattle.std.proofs.lemmas.Cmp.{on_total}
use Rattle.std.proofs.lemmas.List.{get_or-map, length-map}
use Rattle.ts_base.specs.declared.heads.Version.{Version}
use Rattle.ts_schema.specs.declared.frames.Frame.{Frame}
use Rattle.ts_piece.specs.declared.spots.Spot.{Spot}
use Rattle.ts_piece.specs.Spots.{version_in, spotted}
use Rattle.ts_model.specs.declared.merging.VersionPlace.{VersionPlace}
use Rattle.ts_model.specs.Merging.{version_place_cmp}
use Rattle.ts_model.proofs.UnionLaws.{version_total}
use Rattle.ts_consolidate.specs.Placing.{by_version, place_of}

-- what holds of each version holds of the one at a spot
pub all_at : (P : Version → Type 0) (batches : List (List Version)) (spots : List Spot) (k : ℕ) (s : Spot) → k < length spots → All P (spotted batches spots) → P (version_in batches (get_or spots k s))
all_at P batches spots k s within all = subst P (get_or-map (version_in batches) spots k s (version_in batches s) within) (all k (version_in batches s) (omega (arith, within, length-map spots (version_in batches))))

-- versions by their places stand to one another in a total order
pub by_version_total : (frame : Frame) → IsTotalOrder (by_version frame)
by_version_total frame = on_total (place_of frame) version_total

module _ (frame : Frame) (batches : List (List Version)) (spots : List Spot) (next : ℕ) (s : Spot) (some : 1 < next + 1) (within : next < length spots) where
  -- the place of the version at the next spot is that of the last one then
  pub last_next : (p : VersionPlace) → p ≡ place_of frame (version_in batches (get_or spots next s)) → (d : Version) → p ≡ place_of frame (get_or (spotted batches spots) (next + 1 - 1) d)
  last_next p is d =
      let at : next ≡ next + 1 - 1 = omega arith in
      is ∙ ap (place_of frame) (sym (get_or-map (version_in batches) spots next s d within)) ∙ ap (λ n. place_of frame (get_or (spotted batches spots) n d)) at

  -- where that version comes behind the last one, one more of them ascends
  pub up_next : (l p : VersionPlace) → ((d : Version) → l ≡ place_of frame (get_or (spotted batches spots) (next - 1) d)) → p ≡ place_of frame (version_in batches (get_or spots next s)) → version_place_cmp l p ≡ Less
      → AllAdjacentBelow (λ (v w : Version). by_version frame v w ≡ Less) (spotted batches spots) next → AllAdjacentBelow (λ (v w : Version). by_version frame v w ≡ Less) (spotted batches spots) (next + 1)
  up_next l p last is less up k d below = elim (cases_lt (k + 1) next) [
    | inl before ↦ up k d before
    | inr behind ↦
        let low : next - 1 ≡ k = omega (arith, behind, below) in
        let high : next + 1 - 1 ≡ k + 1 = omega (arith, behind, below) in
        let first : l ≡ place_of frame (get_or (spotted batches spots) k d) = last d ∙ ap (λ n. place_of frame (get_or (spotted batches spots) n d)) low in
        let second : p ≡ place_of frame (get_or (spotted batches spots) (k + 1) d) = last_next p is d ∙ ap (λ n. place_of frame (get_or (spotted batches spots) n d)) high in
        (λ i. version_place_cmp (sym first i) (sym second i)) ∙ less
  ]
