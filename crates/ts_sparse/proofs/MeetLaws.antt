-- A read needs the tiles alone whose leaves meet its box.
use Rattle.std.proofs.Common.{◌≡◌, Bool, true, false, List, [], ◌∷◌, ◌++◌, refl, sym, ap, ◌∙◌, arith}
use Rattle.std.specs.Prelude.{ℤ, IsTrue, All, ◌&&◌, ◌+◌, length, map, filter, flat_map, get_or, int_le}
use Rattle.std.proofs.lemmas.Bool.{and_parts, and_from}
use Rattle.std.proofs.lemmas.Int.{ints}
use Rattle.std.proofs.lemmas.List.{length_push, append_assoc, map-append}
use Rattle.std.proofs.lemmas.List.Concat.{flat_map-cons}
use Rattle.std.proofs.Math.Seq.{get_or-append_seam}
use Rattle.std.proofs.lemmas.List.Elements.{filter-append, All-head, All-tail}
use Rattle.ts_base.specs.declared.heads.Version.{Version}
use Rattle.ts_base.specs.Keys.{is_within}
use Rattle.ts_domain.specs.declared.boxes.SubBox.{SubBox}
use Rattle.ts_domain.specs.Bounds.{is_between, do_meet}
use Rattle.ts_domain.specs.Boxes.{is_in_box, do_boxes_meet}
use Rattle.ts_schema.specs.declared.wants.Want.{Want}
use Rattle.ts_schema.specs.Wants.{taken, is_wanted, cut}
use Rattle.ts_domain.specs.Rects.{places_from, places_meeting}
use Rattle.ts_sparse.specs.Cuts.{taken_at}

-- a tile of versions, with the box that its cells lie in
pub record CutOf : Type 0 where
  pub leaf : SubBox
  pub versions : List Version

-- each cell of the tile lies in its leaf
abbrev pub IsInLeaf : CutOf → Type 0
IsInLeaf tile = All (λ v. IsTrue (is_in_box tile.leaf v.coords)) tile.versions

-- the leaves of tiles
abbrev pub leaves_in : List CutOf → List SubBox
leaves_in tiles = map (λ t. t.leaf) tiles

-- the versions of each tile
abbrev pub versions_by_tile : List CutOf → List (List Version)
versions_by_tile tiles = map (λ t. t.versions) tiles

-- the versions of all tiles
abbrev pub all_versions : List CutOf → List Version
all_versions tiles = flat_map (λ t. t.versions) tiles

-- where some cell lies in both boxes, they meet
pub cell_meets : (ls hs ks gs xs : List ℤ) → is_between ls hs xs ≡ true → is_between ks gs xs ≡ true → do_meet ls hs ks gs ≡ true
cell_meets [] hs ks gs xs a b = refl
cell_meets (l ∷ ls) [] ks gs xs a b = refl
cell_meets (l ∷ ls) (h ∷ hs) [] gs xs a b = refl
cell_meets (l ∷ ls) (h ∷ hs) (k ∷ ks) [] xs a b = refl
cell_meets (l ∷ ls) (h ∷ hs) (k ∷ ks) (g ∷ gs) [] a b = absurd (cc)
cell_meets (l ∷ ls) (h ∷ hs) (k ∷ ks) (g ∷ gs) (x ∷ xs) a b =
    let one = and_parts (int_le l x && int_le x h) (is_between ls hs xs) a in
    let two = and_parts (int_le k x && int_le x g) (is_between ks gs xs) b in
    let first = and_parts (int_le l x) (int_le x h) one.0 in
    let second = and_parts (int_le k x) (int_le x g) two.0 in
    and_from (int_le l g && int_le k h) (do_meet ls hs ks gs)
    (and_from (int_le l g) (int_le k h) (through l x g first.0 second.1) (through k x h second.0 first.1))
    (cell_meets ls hs ks gs xs one.1 two.1)
  where
    through : (a b c : ℤ) → int_le a b ≡ true → int_le b c ≡ true → int_le a c ≡ true
    through a b c e f = grind (arith, ints)

-- a tile whose leaf does not meet the box has nothing that is wanted
none_wanted : (want : Want) (leaf : SubBox) (vs : List Version) → do_boxes_meet leaf want.sub ≡ false → All (λ v. IsTrue (is_in_box leaf v.coords)) vs → filter (is_wanted want) vs ≡ []
none_wanted want leaf [] miss inside = refl
none_wanted want leaf (v ∷ vs) miss inside = by (none_wanted want leaf vs miss (All-tail (λ v. IsTrue (is_in_box leaf v.coords)) v vs inside)) (is_wanted want v) refl
  where
    by : filter (is_wanted want) vs ≡ [] → (t : Bool) → is_wanted want v ≡ t → filter (is_wanted want) (v ∷ vs) ≡ []
    by rest false e = rw e rest
    by rest true e =
        let here = and_parts (is_within want.a want.b v.key) (is_in_box want.sub v.coords) e in
        let meets : do_boxes_meet leaf want.sub ≡ true = cell_meets leaf.low leaf.high want.sub.low want.sub.high v.coords (All-head (λ v. IsTrue (is_in_box leaf v.coords)) v vs inside) here.1 in
        absurd (cc)

taken-append : (want : Want) (xs ys : List Version) → taken want (xs ++ ys) ≡ taken want xs ++ taken want ys
taken-append want xs ys = ap (λ vs. map (cut want) vs) (filter-append (is_wanted want) xs ys) ∙ map-append (cut want) (filter (is_wanted want) xs) (filter (is_wanted want) ys)

suffices : (want : Want) (front : List (List Version)) (tiles : List CutOf) → All IsInLeaf tiles
    → taken_at want (front ++ versions_by_tile tiles) (places_from want.sub (length front) (leaves_in tiles)) ≡ taken want (all_versions tiles)
suffices want front [] inside = refl
suffices want front (t ∷ ts) inside = by (others (suffices want (front ++ (t.versions ∷ [])) ts (All-tail IsInLeaf t ts inside))) (do_boxes_meet t.leaf want.sub) refl ∙ sym (ap (λ vs. taken want vs) (flat_map-cons (λ t. t.versions) t ts) ∙ taken-append want t.versions (all_versions ts))
  where
    parts : List (List Version)
    parts = front ++ (t.versions ∷ versions_by_tile ts)

    others : taken_at want ((front ++ (t.versions ∷ [])) ++ versions_by_tile ts) (places_from want.sub (length (front ++ (t.versions ∷ []))) (leaves_in ts)) ≡ taken want (all_versions ts)
        → taken_at want parts (places_from want.sub (length front + 1) (leaves_in ts)) ≡ taken want (all_versions ts)
    others rest =
        ap (λ ps. taken_at want ps (places_from want.sub (length front + 1) (leaves_in ts))) (sym (append_assoc front (t.versions ∷ []) (versions_by_tile ts)))
        ∙ ap (λ n. taken_at want ((front ++ (t.versions ∷ [])) ++ versions_by_tile ts) (places_from want.sub n (leaves_in ts))) (sym (length_push front t.versions))
        ∙ rest

    by : taken_at want parts (places_from want.sub (length front + 1) (leaves_in ts)) ≡ taken want (all_versions ts) → (m : Bool) → do_boxes_meet t.leaf want.sub ≡ m → taken_at want parts (places_from want.sub (length front) (leaves_in (t ∷ ts))) ≡ taken want t.versions ++ taken want (all_versions ts)
    by after true e =
        rw e (flat_map-cons (λ i. taken want (get_or parts i [])) (length front) (places_from want.sub (length front + 1) (leaves_in ts))
        ∙ ap (λ vs. taken want vs ++ taken_at want parts (places_from want.sub (length front + 1) (leaves_in ts))) (get_or-append_seam front t.versions (versions_by_tile ts) [])
        ∙ ap (λ vs. taken want t.versions ++ vs) after)
    by after false e = rw e (after ∙ sym (ap (λ vs. map (cut want) vs ++ taken want (all_versions ts)) (none_wanted want t.leaf t.versions e (All-head IsInLeaf t ts inside))))

pub tiles_suffice : (want : Want) (tiles : List CutOf) → All IsInLeaf tiles → taken_at want (versions_by_tile tiles) (places_meeting want.sub (leaves_in tiles)) ≡ taken want (all_versions tiles)
tiles_suffice want tiles inside = suffices want [] tiles inside
