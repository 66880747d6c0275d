-- Strips one after another, and the versions of all.
use Rattle.std.proofs.Common.{◌≡◌, ℕ, zero, suc, ◌+◌, ◌<◌, ◌≤◌, ℤ, List, [], ◌∷◌, ◌++◌, length, map, get_or, take, drop, refl, sym, ap, subst, ◌∙◌, arith}
use Rattle.std.specs.List.{flat_map}
use Rattle.std.proofs.lemmas.List.{length-map, drop_more, drop-map, append_assoc, append-nil, map-id, take_more}
use Rattle.std.proofs.lemmas.Grind.{flat_map-append}
use Rattle.ts_base.specs.declared.heads.Version.{Version}
use Rattle.ts_base.specs.declared.values.Val.{Val}
use Rattle.ts_batch.specs.Batches.{versions_of}
use Rattle.ts_table.specs.declared.origins.Origin.{Origin}
use Rattle.ts_table.specs.BoxTables.{versions_over}
use Rattle.ts_domain.specs.declared.boxes.SubBox.{SubBox}
use Rattle.ts_domain.specs.Boxes.{cells_of, coords_of_box}
use Rattle.ts_domain.proofs.Between.{length-coords_between}
use Rattle.ts_domain.specs.declared.orders.Order.TheVariants.{Row}
use Rattle.ts_order.specs.Orders.{coords_in_order}
use Rattle.ts_strip.specs.declared.strips.Strip.{Strip}
use Rattle.ts_strip.specs.Strips.{strip_versions, Climb, IsStrip}

-- the cells of a box are those in row order
pub in_row_order : (sub : SubBox) → coords_in_order Row sub ≡ coords_of_box sub
in_row_order sub = map-id (coords_of_box sub)

-- ---- that climb

pub climb_more : (strips : List Strip) (i at cells : ℕ) (s : Strip) → i < length strips → s ≡ get_or strips i s → at ≤ s.start
    → Climb (s.start + s.count) (drop (i + 1) strips) cells → Climb at (drop i strips) cells
climb_more strips i at cells s within this low rest =
    subst (λ l. Climb at l cells) (sym (drop_more strips i s within ∙ ap (λ t. t ∷ drop (i + 1) strips) (sym this))) (low, rest)

-- ---- of one batch

map_take : {X Y : Type 0} (f : X → Y) (n : ℕ) (xs : List X) → map f (take n xs) ≡ take n (map f xs)
map_take f zero xs = refl
map_take f (suc n) [] = refl
map_take f (suc n) (x ∷ xs) = ap (λ ys. f x ∷ ys) (map_take f n xs)

nothing : {X : Type 0} (m : ℕ) → ◌≡◌ {A = List X} (take m []) []
nothing zero = refl
nothing (suc m) = refl

-- so many more
pub take_add : {X : Type 0} (n m : ℕ) (xs : List X) → take (n + m) xs ≡ take n xs ++ take m (drop n xs)
take_add zero m xs = let all : zero + m ≡ m = omega arith in ap (λ k. take k xs) all
take_add (suc n) m [] = let all : suc n + m ≡ suc (n + m) = omega arith in ap (λ k. take k []) all ∙ sym (nothing m)
take_add (suc n) m (x ∷ xs) = let all : suc n + m ≡ suc (n + m) = omega arith in ap (λ k. take k (x ∷ xs)) all ∙ ap (λ ys. x ∷ ys) (take_add n m xs)

module _ (batches : List (List Version)) (sub inner : SubBox) (batch : ℕ) where
  abbrev versions : List Version
  versions = get_or batches batch []

  -- the next strip of a batch whose versions are of the cells of a box
  pub next_strip : (place count start : ℕ) → batch < length batches → map (λ (v : Version). v.coords) versions ≡ coords_of_box inner → place + count ≤ cells_of inner
      → take count (drop place (coords_of_box inner)) ≡ take count (drop start (coords_of_box sub)) → IsStrip batches (coords_of_box sub) (record { start = start; count = count; batch = batch; place = place })
  next_strip place count start named cells room same =
      let long = sym (length-map versions (λ (v : Version). v.coords)) ∙ ap length cells ∙ length-coords_between inner.low inner.high in
      record {
        named = named;
        room = omega (arith, room, long);
        alike = map_take (λ (v : Version). v.coords) count (drop place versions) ∙ ap (take count) (sym (drop-map (λ (v : Version). v.coords) place versions) ∙ ap (drop place) cells) ∙ same;
      }

-- the cells of the versions over coordinates
pub cells_over : (o : Origin) (attrs : List (List Val)) (place : ℕ) (coords : List (List ℤ)) → map (λ (v : Version). v.coords) (versions_over o attrs place coords) ≡ coords
cells_over o attrs place [] = refl
cells_over o attrs place (c ∷ coords) = ap (λ cs. c ∷ cs) (cells_over o attrs (suc place) coords)

-- ---- one more

-- the versions of one strip more, which are the next of a batch
pub versions_more : (batches : List (List Version)) (strips : List Strip) (s : Strip) (before versions : List Version) (place : ℕ)
    → flat_map (strip_versions batches) strips ≡ before ++ take place (get_or batches s.batch []) → versions ≡ get_or batches s.batch [] → place ≡ s.place
    → flat_map (strip_versions batches) (strips ++ s ∷ []) ≡ before ++ take (place + s.count) versions
versions_more batches strips s before versions place so same here =
    let own = get_or batches s.batch [] in
    let next : take place own ++ take s.count (drop s.place own) ≡ take (place + s.count) own = sym (take_add place s.count own ∙ ap (λ k. take place own ++ take s.count (drop k own)) here) in
    flat_map-append (strip_versions batches) strips (s ∷ [])
    ∙ ap (λ vs. flat_map (strip_versions batches) strips ++ vs) (append-nil (strip_versions batches s))
    ∙ ap (λ vs. vs ++ take s.count (drop s.place own)) so
    ∙ append_assoc before (take place own) (take s.count (drop s.place own))
    ∙ ap (λ vs. before ++ vs) next ∙ ap (λ vs. before ++ take (place + s.count) vs) (sym same)

-- the versions of one batch more
pub batch_more : (batches : List (List Version)) (i : ℕ) → i < length batches → versions_of (take (i + 1) batches) ≡ versions_of (take i batches) ++ get_or batches i []
batch_more batches i within = ap versions_of (take_more batches i [] within) ∙ flat_map-append (λ batch. batch) (take i batches) (get_or batches i [] ∷ []) ∙ ap (λ vs. versions_of (take i batches) ++ vs) (append-nil (get_or batches i []))
