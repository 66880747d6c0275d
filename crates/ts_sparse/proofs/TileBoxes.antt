-- The loop that makes the boxes of tiles, without a list of the boxes of cells.
use Rattle.std.proofs.Common.{◌≡◌, ℕ, zero, suc, ◌-◌, ◌<◌, ◌≤◌, List, [], ◌∷◌, length, get_or, refl, sym, ap, ◌∙◌, subst, arith}
use Rattle.std.proofs.lemmas.List.{length-map}
use Rattle.std.proofs.lemmas.List.Elements.{All-head}
use Rattle.ts_base.specs.declared.heads.Version.{Version}
use Rattle.ts_domain.specs.declared.boxes.SubBox.{SubBox}
use Rattle.ts_domain.specs.Rects.{IsLike, AllLike}
use Rattle.ts_rtree.proofs.Likes.{like_other}
use Rattle.ts_rtree.proofs.HullLaws.{Making}
use Rattle.ts_sparse.specs.Laying.{box_of_version, boxes_of}

-- the box of the version at a place
pub box_at : (versions : List Version) (place : ℕ) (v : Version) (box : SubBox) → place < length versions → v ≡ get_or versions place v → box ≡ box_of_version v → box ≡ get_or (boxes_of versions) place box
box_at [] place v box within is made = absurd (omega (arith, within))
box_at (w ∷ versions) zero v box within is made = made ∙ ap box_of_version is
box_at (w ∷ versions) (suc place) v box within is made = box_at versions place v box (omega (arith, within)) is made

-- the first box, and nothing made yet
pub first_made : (tile : ℕ) (versions : List Version) (v : Version) (hull : SubBox) → 1 ≤ length versions → v ≡ get_or versions 0 v → hull ≡ box_of_version v → AllLike (boxes_of versions) → Making tile (boxes_of versions) [] (tile - 1) hull 1
first_made tile [] v hull some is made alike = absurd (omega (arith, some))
first_made tile (w ∷ versions) v hull some is made (sub, like) =
    let same : box_of_version w ≡ hull = sym (made ∙ ap box_of_version is) in
    let first = All-head (IsLike sub) (box_of_version w) (boxes_of versions) like in
    subst (λ (b : SubBox). Making tile (boxes_of (w ∷ versions)) [] (tile - 1) b 1) same
    (refl, omega arith, record { valid = first.valid; dims = refl }, like_other sub (box_of_version w) (boxes_of (w ∷ versions)) first like)

pub box_within : (versions : List Version) (place : ℕ) → place < length versions → place < length (boxes_of versions)
box_within versions place within = let long = length-map versions box_of_version in omega (arith, within, long)

-- the next box is like the hull so far
pub next_like : (tile : ℕ) (versions : List Version) (done : List SubBox) (left place : ℕ) (hull box : SubBox) (v : Version) → Making tile (boxes_of versions) done left hull place → place < length versions → v ≡ get_or versions place v → box ≡ box_of_version v → IsLike hull box
next_like tile versions done left place hull box v (whole, few, this, all) within is made =
    subst (IsLike hull) (sym (box_at versions place v box within is made)) (all place box (box_within versions place within))
