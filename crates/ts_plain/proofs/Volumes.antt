-- The number of cells of a hull.
use Rattle.std.proofs.Common.{◌≡◌, ℕ, ◌+◌, ◌≤◌, ◌<◌, ◌*◌, ◌^◌, true, ℤ, pos, negsuc, List, [], ◌∷◌, length, drop, get_or, refl, sym, ap, ◌∙◌, arith, mul_assoc, le_refl}
use Rattle.std.proofs.lemmas.List.{drop_more}
use Rattle.std.specs.Prelude.{◌≤ℤ◌, ◌+ℤ◌, ◌-ℤ◌}
use Rattle.std.specs.List.{All}
use Rattle.std.proofs.lemmas.Int.{ints}
use Rattle.std.proofs.lemmas.Nat.{mul-le}
use Rattle.std.proofs.Math.Nat.{min-eq_left}
use Rattle.std.proofs.lemmas.List.Elements.{All-head, All-tail, All-drop}
use Rattle.ts_domain.specs.Bounds.{natural_of, count_between}
use Rattle.ts_plain.specs.declared.stored.Side.{Side}
use Rattle.ts_plain.specs.Rules.{volume, counted}
use Rattle.ts_plain.specs.Insides.{IsSide}

-- a number that is positive, as a natural one
natural : (z : ℤ) → pos 1 ≤ℤ z → (1 ≤ natural_of z) × (pos (natural_of z) ≡ z)
natural (pos n) h = (grind (arith, ints, h), refl)
natural (negsuc n) h = absurd (grind (arith, ints, h))

pub count_is : (x y : ℤ) → x ≤ℤ y → (1 ≤ count_between x y) × (pos (count_between x y) ≡ y -ℤ x +ℤ pos 1)
count_is x y h = natural (y -ℤ x +ℤ pos 1) (grind (arith, ints, h))

-- a hull has a cell
pub volume_some : (hull : List Side) → All IsSide hull → 1 ≤ volume hull
volume_some [] all = omega arith
volume_some (side ∷ hull) all =
    let is = All-head IsSide side hull all in
    mul-le 1 1 (count_between side.low side.high) (volume hull) (count_is side.low side.high is.some).0 (volume_some hull (All-tail IsSide side hull all))

-- where a number of cells that has its width is that of the hull, a dense head tells of so many
pub counted_whole : (hull : List Side) (cells : ℕ) → cells ≡ volume hull → cells < 2 ^ 64 → counted true hull cells ≡ cells
counted_whole hull cells whole room = min-eq_left (omega (arith, whole, room)) ∙ sym whole

-- ---- a product of sides, of which those before i were taken

-- how many numbers lie on the side at a place
abbrev pub count_at : List Side → ℕ → Side → ℕ
count_at hull i e = count_between (get_or hull i e).low (get_or hull i e).high

pub volume_on : (hull : List Side) (i : ℕ) (e : Side) (cells all : ℕ) → i < length hull → cells * volume (drop i hull) ≡ all
    → (cells * count_at hull i e) * volume (drop (i + 1) hull) ≡ all
volume_on hull i e cells all more was =
    mul_assoc cells (count_at hull i e) (volume (drop (i + 1) hull)) ∙ ap (λ n. cells * n) (sym (ap volume (drop_more hull i e more))) ∙ was

-- no side makes the product less
pub volume_grows : (hull : List Side) (i : ℕ) (e : Side) (cells all : ℕ) → All IsSide hull → i < length hull → 1 ≤ cells → cells * volume (drop i hull) ≡ all
    → (1 ≤ cells * count_at hull i e) × (cells * count_at hull i e ≤ all) × (count_at hull i e ≤ all)
volume_grows hull i e cells all sides more some was =
    let count = count_at hull i e in
    let is : IsSide (get_or hull i e) = sides i e more in
    let one : 1 ≤ count = (count_is (get_or hull i e).low (get_or hull i e).high is.some).0 in
    let others : 1 ≤ volume (drop (i + 1) hull) = volume_some (drop (i + 1) hull) (All-drop IsSide (i + 1) hull sides) in
    let product : 1 ≤ cells * count = mul-le 1 1 cells count some one in
    let whole = volume_on hull i e cells all more was in
    let large = mul-le (cells * count) 1 (cells * count) (volume (drop (i + 1) hull)) (le_refl _) others in
    let larger = mul-le 1 count cells count some (le_refl _) in
    (product, omega (arith, whole, large), omega (arith, whole, large, larger))

-- a side with so many numbers makes the hull as large
pub volume_side : (hull : List Side) (i : ℕ) (e : Side) (n cells all : ℕ) → All IsSide hull → i < length hull → 1 ≤ cells → cells * volume (drop i hull) ≡ all → n ≤ count_at hull i e → n ≤ all
volume_side hull i e n cells all sides more some was large = let grows = volume_grows hull i e cells all sides more some was in omega (arith, grows.2, large)

-- what closes a loop that multiplies the sides
pub ruleset volume_loop = (volume_on, volume_grows)
