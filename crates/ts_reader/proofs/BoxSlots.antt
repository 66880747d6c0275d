-- Lists with a slot for each place of a box: what one more version changes.
use Rattle.std.proofs.Common.{◌≡◌, ℕ, ℤ, ◌<◌, ◌+◌, suc, zero, Bool, true, false, cond, List, [], ◌∷◌, ◌++◌, length, take, Option, Some, None, map, refl, sym, ap, ◌∙◌, arith}
use Rattle.std.specs.Prelude.{slice_get, slice_set}
use Rattle.std.specs.Option.{option_map_or}
use Rattle.std.specs.Ordering.{int_cmp}
use Rattle.std.specs.Cmp.Lexicographic.{slice_cmp}
use Rattle.std.specs.FinMap as finite
use Rattle.std.proofs.lemmas.List.{length-map, map-append, map-id, take_more}
use Rattle.std.proofs.lemmas.Option.{none-some, same_Some}
use Rattle.ts_base.specs.declared.heads.Version.{Version}
use Rattle.ts_base.specs.Keys.{key_lt}
use Rattle.ts_base.specs.Coords.{coords_eq}
use Rattle.ts_domain.specs.declared.boxes.SubBox.{SubBox}
use Rattle.ts_domain.specs.declared.orders.Order.TheVariants.{Row}
use Rattle.ts_domain.specs.Boxes.{cells_of, coords_of_box}
use Rattle.ts_domain.proofs.Between.{length-coords_between}
use Rattle.ts_order.specs.Orders.{coords_in_order}
use Rattle.ts_model.specs.Pieces.{Newest, with_version}
use Rattle.ts_model.proofs.Newest.{coords_total, coords_same, coords_tie, coords_itself}
use Rattle.ts_reader.specs.Newest.{slots_in}
use Rattle.ts_reader.proofs.Erased.{mapped_at}

-- the coordinates of a box are those in row order
pub in_row_order : (sub : SubBox) → coords_in_order Row sub ≡ coords_of_box sub
in_row_order sub = map-id (coords_of_box sub)

module _ {X Y : Type 0} (f g : X → Y) where
  -- two functions that agree on all items of a list
  same_mapped : (xs : List X) → ((j : ℕ) (y : X) → slice_get xs j ≡ Some y → f y ≡ g y) → map f xs ≡ map g xs
  same_mapped [] same = refl
  same_mapped (y ∷ xs) same = ap (λ z. z ∷ map f xs) (same zero y refl) ∙ ap (λ ys. g y ∷ ys) (same_mapped xs (λ j z at. same (suc j) z at))

  -- two functions that agree on all items of a list but one
  pub set_mapped : (xs : List X) (i : ℕ) (x : X) → slice_get xs i ≡ Some x → ((j : ℕ) (y : X) → slice_get xs j ≡ Some y → (j ≡ i → ⊥) → f y ≡ g y) → slice_set (map f xs) i (g x) ≡ map g xs
  set_mapped [] i x at same = absurd (none-some x at)
  set_mapped (y ∷ xs) zero x at same = ap (λ z. g z ∷ map f xs) (sym (same_Some y x at)) ∙ ap (λ ys. g y ∷ ys) (same_mapped xs (λ j z at. same (suc j) z at (λ e. cc)))
  set_mapped (y ∷ xs) (suc i) x at same =
      ap (λ z. z ∷ slice_set (map f xs) i (g x)) (same zero y refl (λ e. cc))
      ∙ ap (λ ys. g y ∷ ys) (set_mapped xs i x at (λ j z at other. same (suc j) z at (λ e. other (omega (arith, e)))))

-- at each coordinate, after a newer version
newer_at : (m : Newest) (v : Version) (c : List ℤ) → option_map_or (λ w. key_lt w.key v.key) (finite.get m v.coords) true ≡ true
    → finite.get (with_version m v) c ≡ cond (coords_eq v.coords c) (Some v) (finite.get m c)
newer_at m v c newer =
    ap (λ b. finite.get (cond b (finite.insert m v.coords v) m) c) newer
    ∙ finite.get-insert coords_total m v.coords v c ∙ ap (λ b. cond b (Some v) (finite.get m c)) (coords_tie c v.coords)

module _ (sub : SubBox) (m : Newest) (v : Version) where
  -- a newer version takes the slot of its place
  pub slot_put : (place : ℕ) → slice_get (coords_of_box sub) place ≡ Some v.coords → ((other : ℕ) → slice_get (coords_of_box sub) other ≡ Some v.coords → other ≡ place)
      → option_map_or (λ w. key_lt w.key v.key) (finite.get m v.coords) true ≡ true → slice_set (slots_in sub m) place (Some v) ≡ slots_in sub (with_version m v)
  slot_put place at only newer =
      sym (ap (slice_set (slots_in sub m) place) (newer_at m v v.coords newer ∙ ap (λ b. cond b (Some v) (finite.get m v.coords)) (coords_itself v.coords)))
      ∙ set_mapped (finite.get m) (finite.get (with_version m v)) (coords_of_box sub) place v.coords at elsewhere
    where
      apart : (other : ℕ) (c : List ℤ) → slice_get (coords_of_box sub) other ≡ Some c → (other ≡ place → ⊥) → (b : Bool) → coords_eq v.coords c ≡ b → finite.get m c ≡ cond b (Some v) (finite.get m c)
      apart other c there else true same = absurd (else (only other (there ∙ ap Some (sym (coords_same v.coords c same)))))
      apart other c there else false same = refl

      elsewhere : (other : ℕ) (c : List ℤ) → slice_get (coords_of_box sub) other ≡ Some c → (other ≡ place → ⊥) → finite.get m c ≡ finite.get (with_version m v) c
      elsewhere other c there else = apart other c there else (coords_eq v.coords c) refl ∙ sym (newer_at m v c newer)

  -- another version changes nothing
  pub slot_left : option_map_or (λ w. key_lt w.key v.key) (finite.get m v.coords) true ≡ false → slots_in sub m ≡ slots_in sub (with_version m v)
  slot_left older = sym (ap (λ b. slots_in sub (cond b (finite.insert m v.coords v) m)) older)

-- the version in the slot of a place tells whether another is newer than the one at its coordinates
pub tells_new : (sub : SubBox) (m : Newest) (v : Version) (place : ℕ) (slot : Option Version) → slice_get (coords_of_box sub) place ≡ Some v.coords → slice_get (slots_in sub m) place ≡ Some slot
    → option_map_or (λ w. key_lt w.key v.key) (finite.get m v.coords) true ≡ option_map_or (λ w. key_lt w.key v.key) slot true
tells_new sub m v place slot at stands = sym (ap (λ o. option_map_or (λ w. key_lt w.key v.key) o true) (mapped_at (finite.get m) (coords_of_box sub) place v.coords slot at stands))

-- there is a slot for each cell
pub slots_length : (sub : SubBox) (m : Newest) → length (slots_in sub m) ≡ cells_of sub
slots_length sub m = length-map (coords_of_box sub) (finite.get m) ∙ length-coords_between sub.low sub.high

-- no versions
abbrev none : Newest
none = finite.empty

none_at : (cs : List (List ℤ)) → map (λ (c : List ℤ). None) cs ≡ map (finite.get none) cs
none_at [] = refl
none_at (c ∷ cs) = ap (λ o. o ∷ map (λ (d : List ℤ). None) cs) (sym (finite.get-empty (slice_cmp int_cmp) c)) ∙ ap (λ os. finite.get none c ∷ os) (none_at cs)

-- no version stands in a slot at first
pub slots_empty : (sub : SubBox) → map (λ c. None) (coords_of_box sub) ≡ slots_in sub finite.empty
slots_empty sub = none_at (coords_of_box sub)

-- one place more
pub none_more : (cs : List (List ℤ)) (place : ℕ) → place < length cs → map {B = Option Version} (λ c. None) (take (place + 1) cs) ≡ map (λ c. None) (take place cs) ++ None ∷ []
none_more cs place within = ap (map (λ c. None)) (take_more cs place [] within) ∙ map-append (λ c. None) (take place cs) _
