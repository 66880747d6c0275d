-- What is read as a hull lies in the domain, and what is read as coordinates in the hull.
use Rattle.std.proofs.Common.{◌≡◌, ℤ, Bool, true, false, ◌&&◌, int_le, List, [], ◌∷◌, length, Ok, Err, refl, subst, arith}
use Rattle.std.specs.Prelude.{◌≤ℤ◌, map, if◌then◌else◌}
use Rattle.std.specs.List.{All}
use Rattle.std.proofs.lemmas.Int.{ints}
use Rattle.std.proofs.lemmas.Bool.{and_parts, and_from}
use Rattle.std.proofs.lemmas.List.Elements.{All-nil, All-cons, All-head, All-tail}
use Rattle.ts_domain.specs.declared.dims.Dim.{Dim}
use Rattle.ts_domain.specs.Dims.{IsSoundDim}
use Rattle.ts_domain.specs.Bounds.{is_between}
use Rattle.ts_domain.specs.Domains.{is_in_domain}
use Rattle.ts_wire.specs.Place.{Place, Read, ◌>>=◌, both, each_at}
use Rattle.ts_wire.specs.Exact.{EachFits}
use Rattle.ts_wire.specs.Numbers.{int_at}
use Rattle.ts_wire.proofs.Laws.{same_ok, not_both, bound, EachFits-length}
use Rattle.ts_plain.specs.declared.stored.Side.{Side}
use Rattle.ts_plain.specs.Rules.{is_on_side, side_of, from_on}
use Rattle.ts_plain.specs.Plain.{coord_at, side_at, hull_at}
use Rattle.ts_plain.specs.Insides.{IsSide, LiesIn, IsHull}

-- what holds of each value that is read for an item holds of all
each_all : {D A : Type 0} (P : D → Type 0) (F : D → A → Type 0) (read : D → Place → Read A) → ((d : D) (p : Place) (x : A × Place) → P d → read d p ≡ Ok x → F d x.0)
    → (ds : List D) (p : Place) (x : List A × Place) → All P ds → each_at read ds p ≡ Ok x → EachFits F ds x.0
unfolding each_at
each_all P F read each [] p x all h = subst (λ y. EachFits F [] y.0) (same_ok (Ok ([], p)) ([], p) x refl h) tt
each_all P F read each (d ∷ ds) p x all h =
    let b = bound (both (read d) (λ _. each_at read ds) p) (λ y. Ok (y.0.0 ∷ y.0.1, y.1)) x h in
    let c = bound (read d p) (λ y. each_at read ds y.1 >>= λ z. Ok ((y.0, z.0), z.1)) b.first b.was in
    let e = bound (each_at read ds c.first.1) (λ z. Ok ((c.first.0, z.0), z.1)) b.first c.next in
    let first = each d p c.first (All-head P d ds all) c.was in
    let others = each_all P F read each ds c.first.1 e.first (All-tail P d ds all) e.was in
    let pair = same_ok (Ok ((c.first.0, e.first.0), e.first.1)) _ b.first refl e.next in
    let list = same_ok (Ok (b.first.0.0 ∷ b.first.0.1, b.first.1)) _ x refl b.next in
    subst (λ y. EachFits F (d ∷ ds) y.0) list (subst (λ y. EachFits F (d ∷ ds) (y.0.0 ∷ y.0.1)) pair (first, others))

-- a coordinate that is read lies on the side
coord_on : (side : Side) (p : Place) (x : ℤ × Place) → coord_at side p ≡ Ok x → is_on_side side x.0 ≡ true
unfolding coord_at
coord_on side p x h =
    let b = bound (int_at 16 true p) (λ y. if is_on_side side y.0 then Ok y else Err p.at) x h in
    kept b.first (is_on_side side b.first.0) refl b.next
  where
    kept : (y : ℤ × Place) (b : Bool) → is_on_side side y.0 ≡ b → (if b then Ok y else Err p.at) ≡ Ok x → is_on_side side x.0 ≡ true
    kept y true e k = subst (λ z. is_on_side side z.0 ≡ true) (same_ok (Ok y) y x refl k) e
    kept y false e k = absurd (not_both (Err p.at) x p.at k refl)

on_parts : (l h x : ℤ) → int_le l x && int_le x h ≡ true → (l ≤ℤ x) × (x ≤ℤ h)
on_parts l h x e = let both = and_parts (int_le l x) (int_le x h) e in (grind (arith, ints, both), grind (arith, ints, both))

-- a side that is read lies in its dimension
side_in : (d : Dim) (p : Place) (x : Side × Place) → IsSoundDim d → side_at d p ≡ Ok x → LiesIn d x.0
unfolding side_at
side_in d p x sound h =
    let b = bound (both (coord_at (side_of d)) (λ low. coord_at (from_on (side_of d) low)) p) (λ y. Ok (made y.0, y.1)) x h in
    let c = bound (coord_at (side_of d) p) (λ y. coord_at (from_on (side_of d) y.0) y.1 >>= λ z. Ok ((y.0, z.0), z.1)) b.first b.was in
    let e = bound (coord_at (from_on (side_of d) c.first.0) c.first.1) (λ z. Ok ((c.first.0, z.0), z.1)) b.first c.next in
    let low = on_parts d.low d.high c.first.0 (coord_on (side_of d) p c.first c.was) in
    let high = on_parts c.first.0 d.high e.first.0 (coord_on (from_on (side_of d) c.first.0) c.first.1 e.first e.was) in
    let pair = same_ok (Ok ((c.first.0, e.first.0), e.first.1)) _ b.first refl e.next in
    let side = same_ok (Ok (made b.first.0, b.first.1)) _ x refl b.next in
    subst (λ y. LiesIn d y.0) side (subst (λ y. LiesIn d (made y.0)) pair (lies c.first.0 e.first.0 low.0 high.0 high.1))
  where
    made : ℤ × ℤ → Side
    made y = record { low = y.0; high = y.1 }

    lies : (l h : ℤ) → d.low ≤ℤ l → l ≤ℤ h → h ≤ℤ d.high → LiesIn d (made (l, h))
    lies l h a b c =
        let dim = sound.valid in
        let low = dim.low in
        let high = dim.high in
        record {
          is = record {
            low = record { above = grind (arith, ints, low.above); below = grind (arith, ints, high.below) };
            high = record { above = grind (arith, ints, low.above); below = grind (arith, ints, high.below) };
            some = b;
          };
          low = a;
          high = c;
        }

-- a hull that is read lies in the domain
pub hull_in : (dims : List Dim) (p q : Place) (hull : List Side) → All IsSoundDim dims → hull_at dims p ≡ Ok (hull, q) → IsHull dims hull
unfolding hull_at
hull_in dims p q hull sound h = each_all IsSoundDim LiesIn side_at side_in dims p (hull, q) sound h

-- each side of a hull is one
pub hull_sides : (dims : List Dim) (hull : List Side) → IsHull dims hull → All IsSide hull
hull_sides [] [] is = All-nil IsSide
hull_sides [] (side ∷ hull) is = absurd is
hull_sides (d ∷ dims) [] is = absurd is
hull_sides (d ∷ dims) (side ∷ hull) is = All-cons IsSide side hull is.0.is (hull_sides dims hull is.1)

-- a hull has as many sides as the domain has dimensions
pub hull_length : (dims : List Dim) (hull : List Side) → IsHull dims hull → length hull ≡ length dims
hull_length dims hull is = EachFits-length LiesIn dims hull is

-- coordinates on the sides of a hull lie in the domain
sides_in : (dims : List Dim) (hull : List Side) (coords : List ℤ) → IsHull dims hull → EachFits (λ (side : Side) x. is_on_side side x ≡ true) hull coords
    → is_between (map (λ d. d.low) dims) (map (λ d. d.high) dims) coords ≡ true
sides_in [] [] [] is on = refl
sides_in [] [] (x ∷ coords) is on = absurd on
sides_in [] (side ∷ hull) coords is on = absurd is
sides_in (d ∷ dims) [] coords is on = absurd is
sides_in (d ∷ dims) (side ∷ hull) [] is on = absurd on
sides_in (d ∷ dims) (side ∷ hull) (x ∷ coords) is on =
    let here = on_parts side.low side.high x on.0 in
    let lies = is.0 in
    let low = lies.low in
    let high = lies.high in
    let first : int_le d.low x && int_le x d.high ≡ true = grind (arith, ints, here, low, high) in
    and_from (int_le d.low x && int_le x d.high) _ first (sides_in dims hull coords is.1 on.1)

-- coordinates that are read lie in the domain
pub coords_in : (dims : List Dim) (hull : List Side) (p q : Place) (coords : List ℤ) → IsHull dims hull → each_at coord_at hull p ≡ Ok (coords, q) → is_in_domain dims coords ≡ true
coords_in dims hull p q coords is h =
    sides_in dims hull coords is (each_all IsSide (λ side y. is_on_side side y ≡ true) coord_at (λ side r y _ k. coord_on side r y k) hull p (coords, q) (hull_sides dims hull is) h)
