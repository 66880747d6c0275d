-- Reading the boxes of tiles: their corners side by side, and that they are like the hull.
use Rattle.std.proofs.Common.{◌≡◌, ℕ, ◌+◌, ◌-◌, ◌<◌, ◌≤◌, ℤ, int_le, true, List, [], ◌∷◌, ◌++◌, length, Ok, Err, refl, sym, ap, subst, ◌∙◌, arith, length-append}
use Rattle.std.specs.List.{All}
use Rattle.std.proofs.lemmas.Int.{ints}
use Rattle.std.proofs.lemmas.Bool.{and_parts, and_from}
use Rattle.std.proofs.lemmas.List.Elements.{All-nil, All-cons, All-append}
use Rattle.ts_domain.specs.declared.boxes.SubBox.{SubBox}
use Rattle.ts_domain.specs.Bounds.{are_bounds}
use Rattle.ts_domain.specs.Boxes.{IsBox}
use Rattle.ts_domain.specs.Rects.{IsLike}
use Rattle.ts_wire.specs.Place.{Place, Read, ◌>>=◌, items_at}
use Rattle.ts_wire.proofs.Loop.{with_front, items_on, items_stop, items_done}
use Rattle.ts_plain.specs.declared.stored.Side.{Side}
use Rattle.ts_plain.specs.Writes.{sides_of}
use Rattle.ts_footer.specs.TreeTexts.{IsSpan, bounds_at, leaf_at}
use Rattle.ts_plain.specs.Writes.{box_of}

-- one side more
sides_more : (ls hs : List ℤ) (l h : ℤ) → are_bounds ls hs ≡ true → sides_of (ls ++ l ∷ []) (hs ++ h ∷ []) ≡ sides_of ls hs ++ record { low = l; high = h } ∷ []
sides_more [] [] l h e = refl
sides_more [] (g ∷ hs) l h e = cc
sides_more (k ∷ ls) [] l h e = cc
sides_more (k ∷ ls) (g ∷ hs) l h e = ap (λ more. record { low = k; high = g } ∷ more) (sides_more ls hs l h (and_parts (int_le k g) (are_bounds ls hs) e).1)

bounds_more : (ls hs : List ℤ) (l h : ℤ) → are_bounds ls hs ≡ true → int_le l h ≡ true → are_bounds (ls ++ l ∷ []) (hs ++ h ∷ []) ≡ true
bounds_more [] [] l h e is = and_from (int_le l h) true is refl
bounds_more [] (g ∷ hs) l h e is = cc
bounds_more (k ∷ ls) [] l h e is = cc
bounds_more (k ∷ ls) (g ∷ hs) l h e is =
    let parts = and_parts (int_le k g) (are_bounds ls hs) e in
    and_from (int_le k g) (are_bounds (ls ++ l ∷ []) (hs ++ h ∷ [])) parts.0 (bounds_more ls hs l h parts.1 is)

-- the sides so far, and those that are left
abbrev pub Corners : ℕ → ℕ → List ℤ → List ℤ → Place → Read (List Side) → Type 0
Corners n i ls hs p all = (length ls ≡ i) × (are_bounds ls hs ≡ true) × (with_front (sides_of ls hs) (items_at (λ _. bounds_at) (n - i) (sides_of ls hs) p) ≡ all)

pub corners_on : (n i : ℕ) (ls hs : List ℤ) (p q : Place) (side : Side) (all : Read (List Side)) → i < n → Corners n i ls hs p all → bounds_at p ≡ Ok (side, q) → IsSpan side
    → Corners n (i + 1) (ls ++ side.low ∷ []) (hs ++ side.high ∷ []) q all
corners_on n i ls hs p q side all more (count, bounds, so) was span =
    let front = sides_more ls hs side.low side.high bounds in
    let step = items_on (λ _. bounds_at) n i (sides_of ls hs) p q side all more was so in
    let here : int_le side.low side.high ≡ true = grind (arith, ints, span) in
    (omega (arith, length-append ls (side.low ∷ [])), bounds_more ls hs side.low side.high bounds here, ap (λ f. with_front f (items_at (λ _. bounds_at) (n - (i + 1)) f q)) front ∙ step)

pub corners_next : (n i : ℕ) (ls hs lows highs : List ℤ) (p q : Place) (side : Side) (all : Read (List Side)) → i < n → Corners n i ls hs p all × (length hs ≡ i) → bounds_at p ≡ Ok (side, q) → IsSpan side
    → lows ≡ ls ++ side.low ∷ [] → highs ≡ hs ++ side.high ∷ [] → Corners n (i + 1) lows highs q all × (length highs ≡ i + 1)
corners_next n i ls hs lows highs p q side all more (so, many) was span low high =
    let long : length highs ≡ i + 1 = omega (arith, ap length high, length-append hs (side.high ∷ [])) in
    (subst (λ (text : List ℤ). Corners n (i + 1) text highs q all) (sym low) (subst (λ (text : List ℤ). Corners n (i + 1) (ls ++ side.low ∷ []) text q all) (sym high) (corners_on n i ls hs p q side all more so was span)), long)

pub corners_stop : (n i : ℕ) (ls hs : List ℤ) (p : Place) (all : Read (List Side)) (at : ℕ) → i < n → Corners n i ls hs p all → bounds_at p ≡ Err at → all ≡ Err at
corners_stop n i ls hs p all at more (count, bounds, so) was = items_stop (λ _. bounds_at) n i (sides_of ls hs) p all more so at was

pub corners_done : (n i : ℕ) (ls hs : List ℤ) (p : Place) (all : Read (List Side)) → n ≤ i → Corners n i ls hs p all → all ≡ Ok (sides_of ls hs, p)
corners_done n i ls hs p all over (count, bounds, so) = items_done (λ _. bounds_at) n i (sides_of ls hs) p all over so

pub ruleset corners_loop = (corners_on, corners_stop, corners_done)

-- the box between the sides of its corners
pub box_back : (ls hs : List ℤ) → are_bounds ls hs ≡ true → box_of (sides_of ls hs) ≡ record { low = ls; high = hs }
box_back [] [] e = refl
box_back [] (h ∷ hs) e = cc
box_back (l ∷ ls) [] e = cc
box_back (l ∷ ls) (h ∷ hs) e =
    ap (λ (box : SubBox). record { low = l ∷ box.low; high = h ∷ box.high }) (box_back ls hs (and_parts (int_le l h) (are_bounds ls hs) e).1)

pub leaf_read : (n : ℕ) (box : SubBox) (p q : Place) → items_at (λ _. bounds_at) n [] p ≡ Ok (sides_of box.low box.high, q) → IsBox box → leaf_at n p ≡ Ok (box, q)
unfolding leaf_at
leaf_read n box p q was valid = ap (λ r. r >>= λ x. Ok (box_of x.0, x.1)) was ∙ ap (λ b. Ok (b, q)) (box_back box.low box.high valid)

-- one box more
pub likes_more : (hull : SubBox) (boxes : List SubBox) (box : SubBox) → All (IsLike hull) boxes → IsLike hull box → All (IsLike hull) (boxes ++ box ∷ [])
likes_more hull boxes box all is = All-append (IsLike hull) boxes (box ∷ []) all (All-cons (IsLike hull) box [] is (All-nil (IsLike hull)))

-- the boxes so far, and those that are left
abbrev pub Leaves : SubBox → ℕ → ℕ → List SubBox → Place → Read (List SubBox) → Type 0
Leaves hull n i boxes p all =
    (length boxes ≡ i) × All (IsLike hull) boxes × (with_front boxes (items_at (λ _. leaf_at (length hull.low)) (n - i) boxes p) ≡ all)

pub leaves_next : (hull : SubBox) (n i : ℕ) (boxes more : List SubBox) (box : SubBox) (p q : Place) (all : Read (List SubBox)) → i < n → Leaves hull n i boxes p all
    → leaf_at (length hull.low) p ≡ Ok (box, q) → IsLike hull box → more ≡ boxes ++ box ∷ [] → Leaves hull n (i + 1) more q all
leaves_next hull n i boxes more box p q all left (count, like, so) was is pushed =
    let step = items_on (λ _. leaf_at (length hull.low)) n i boxes p q box all left was so in
    subst (λ (text : List SubBox). Leaves hull n (i + 1) text q all) (sym pushed) (omega (arith, length-append boxes (box ∷ [])), likes_more hull boxes box like is, step)
