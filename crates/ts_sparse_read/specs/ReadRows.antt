-- Columns as rows: what holds of each value of a column holds of the rows; and sides that columns span make the leaf.
use Rattle.std.proofs.Common.{◌≡◌, ℕ, suc, ◌≤◌, Bool, true, false, ◌&&◌, ◌||◌, ℤ, int_le, List, [], ◌∷◌, length, Option, Some, None, refl, sym, ap, ◌∙◌, arith}
use Rattle.std.specs.Prelude.{IsTrue, nat_lt, if◌then◌else◌}
use Rattle.std.specs.List.{All, list_any}
use Rattle.std.proofs.Math.ListN.{length-replicate}
use Rattle.std.proofs.lemmas.Int.{ints}
use Rattle.std.proofs.lemmas.Bool.{and_parts, and_from}
use Rattle.std.proofs.lemmas.List.Elements.{All-nil, All-cons, All-head, All-tail, All-replicate, All-weaker}
use Rattle.ts_base.specs.declared.values.Val.{Val}
use Rattle.ts_domain.specs.declared.boxes.SubBox.{SubBox}
use Rattle.ts_domain.specs.Bounds.{is_between}
use Rattle.ts_domain.proofs.Between.{length-is_between, are_bounds-is_between, is_between-low, is_between-high}
use Rattle.ts_wire.specs.Exact.{EachFits}
use Rattle.ts_schema.specs.declared.frames.Frame.{Frame}
use Rattle.ts_plain.specs.declared.stored.StoredHead.{StoredHead}
use Rattle.ts_plain.specs.declared.stored.StoredCell.{StoredCell}
use Rattle.ts_plain.specs.Rules.{coords_rise, origin_rises}
use Rattle.ts_sparse.specs.Sparse.{leaf_of}
use Rattle.ts_sparse.specs.Cuts.{MayFollow, Rise}
use Rattle.ts_sparse.proofs.CutLaws.{leaf_is_hull}
use Rattle.ts_sparse_read.specs.Faults.{Ranged}
use Rattle.ts_sparse_read.specs.TileReads.{put_before, rows_in, cells_from, coords_fault, origin_fault, order_fault}

-- ---- columns as rows

-- so many values, each of which fits
pub record IsColumn {X : Type 0} (Fits : X → Type 0) (count : ℕ) (xs : List X) : Type 0 where
  pub many : length xs ≡ count
  pub fits : All Fits xs

-- a column for each item of the known list, whose values fit that item
abbrev pub AreColumns : {D X : Type 0} → (D → X → Type 0) → ℕ → List D → List (List X) → Type 0
AreColumns Fits count ds columns = EachFits (λ d xs. IsColumn (Fits d) count xs) ds columns

length_before : {X : Type 0} (xs : List X) (rows : List (List X)) → length xs ≡ length rows → length (put_before xs rows) ≡ length rows
length_before [] [] same = refl
length_before [] (row ∷ rows) same = absurd (omega (arith, same))
length_before (x ∷ xs) [] same = refl
length_before (x ∷ xs) (row ∷ rows) same = ap suc (length_before xs rows (omega (arith, same)))

module _ {X : Type 0} (P : X → Type 0) (Q R : List X → Type 0) where
  all_before : ((x : X) (row : List X) → P x → Q row → R (x ∷ row)) → (xs : List X) (rows : List (List X)) → All P xs → All Q rows → All R (put_before xs rows)
  all_before join [] rows ps qs = All-nil R
  all_before join (x ∷ xs) [] ps qs = All-nil R
  all_before join (x ∷ xs) (row ∷ rows) ps qs =
      All-cons R (x ∷ row) (put_before xs rows) (join x row (All-head P x xs ps) (All-head Q row rows qs)) (all_before join xs rows (All-tail P x xs ps) (All-tail Q row rows qs))

  all_apart : ((x : X) (row : List X) → R (x ∷ row) → P x × Q row) → (xs : List X) (rows : List (List X)) → length xs ≡ length rows → All R (put_before xs rows) → All P xs × All Q rows
  all_apart split [] [] same all = (All-nil P, All-nil Q)
  all_apart split [] (row ∷ rows) same all = absurd (omega (arith, same))
  all_apart split (x ∷ xs) [] same all = absurd (omega (arith, same))
  all_apart split (x ∷ xs) (row ∷ rows) same all =
      let here = split x row (All-head R (x ∷ row) (put_before xs rows) all) in
      let more = all_apart split xs rows (omega (arith, same)) (All-tail R (x ∷ row) (put_before xs rows) all) in
      (All-cons P x xs here.0 more.0, All-cons Q row rows here.1 more.1)

-- columns whose values fit are as many rows, whose values fit one by one
pub rows_fit : {D X : Type 0} (Fits : D → X → Type 0) (count : ℕ) (ds : List D) (columns : List (List X)) → AreColumns Fits count ds columns → IsColumn (EachFits Fits ds) count (rows_in count columns)
rows_fit {X = X} Fits count [] [] are =
    let none : List X = [] in
    record { many = length-replicate count none; fits = All-replicate (EachFits Fits []) count none tt }
rows_fit Fits count [] (xs ∷ columns) are = absurd are
rows_fit Fits count (d ∷ ds) [] are = absurd are
rows_fit Fits count (d ∷ ds) (xs ∷ columns) are =
    let more = rows_fit Fits count ds columns are.1 in
    record {
      many = length_before xs (rows_in count columns) (are.0.many ∙ sym more.many) ∙ more.many;
      fits = all_before (Fits d) (EachFits Fits ds) (EachFits Fits (d ∷ ds)) (λ x row a b. (a, b)) xs (rows_in count columns) are.0.fits more.fits;
    }

-- ---- sides

-- the number lies on the side
abbrev pub IsOn : ℤ → ℤ → ℤ → Type 0
IsOn low high x = IsTrue (int_le low x && int_le x high)

-- so many numbers on the side, one at each of its ends
pub record IsSide (low high : ℤ) (count : ℕ) (xs : List ℤ) : Type 0 where
  pub many : length xs ≡ count
  pub inside : All (IsOn low high) xs
  pub at_low : list_any (λ x. int_le x low) xs ≡ true
  pub at_high : list_any (λ x. int_le high x) xs ≡ true

-- columns that span the sides with these ends
abbrev pub AreSides : ℕ → List ℤ → List ℤ → List (List ℤ) → Type 0
AreSides count [] [] [] = Unit {0}
AreSides count (l ∷ lows) (h ∷ highs) (xs ∷ columns) = IsSide l h count xs × AreSides count lows highs columns
AreSides count _ _ _ = ⊥

-- the rows of columns that span sides lie between their ends
pub rows_between : (count : ℕ) (lows highs : List ℤ) (columns : List (List ℤ)) → AreSides count lows highs columns → IsColumn (λ row. IsTrue (is_between lows highs row)) count (rows_in count columns)
rows_between count [] [] [] are =
    let none : List ℤ = [] in
    record { many = length-replicate count none; fits = All-replicate (λ row. IsTrue (is_between [] [] row)) count none refl }
rows_between count [] [] (xs ∷ columns) are = absurd are
rows_between count [] (h ∷ highs) columns are = absurd are
rows_between count (l ∷ lows) [] columns are = absurd are
rows_between count (l ∷ lows) (h ∷ highs) [] are = absurd are
rows_between count (l ∷ lows) (h ∷ highs) (xs ∷ columns) are =
    let more = rows_between count lows highs columns are.1 in
    record {
      many = length_before xs (rows_in count columns) (are.0.many ∙ sym more.many) ∙ more.many;
      fits = all_before (IsOn l h) (λ row. IsTrue (is_between lows highs row)) (λ row. IsTrue (is_between (l ∷ lows) (h ∷ highs) row))
          (λ x row a b. and_from (int_le l x && int_le x h) (is_between lows highs row) a b) xs (rows_in count columns) are.0.inside more.fits;
    }

-- each number is at most the other one of its place
abbrev pub AtMost : List ℤ → List ℤ → Type 0
AtMost xs ys = EachFits (λ x y. int_le x y ≡ true) xs ys

low_end : (low l h : ℤ) (xs : List ℤ) → list_any (λ x. int_le x low) xs ≡ true → All (IsOn l h) xs → int_le l low ≡ true
low_end low l h [] any all = absurd (cc)
low_end low l h (x ∷ xs) any all = go (int_le x low) refl any (λ more. low_end low l h xs more (All-tail (IsOn l h) x xs all))
  where
    go : (b : Bool) → int_le x low ≡ b → (b || list_any (λ x. int_le x low) xs) ≡ true → (list_any (λ x. int_le x low) xs ≡ true → int_le l low ≡ true) → int_le l low ≡ true
    go true is any more = let on = and_parts (int_le l x) (int_le x h) (All-head (IsOn l h) x xs all) in let a = on.0 in grind (arith, ints)
    go false is any more = more any

high_end : (high l h : ℤ) (xs : List ℤ) → list_any (λ x. int_le high x) xs ≡ true → All (IsOn l h) xs → int_le high h ≡ true
high_end high l h [] any all = absurd (cc)
high_end high l h (x ∷ xs) any all = go (int_le high x) refl any (λ more. high_end high l h xs more (All-tail (IsOn l h) x xs all))
  where
    go : (b : Bool) → int_le high x ≡ b → (b || list_any (λ x. int_le high x) xs) ≡ true → (list_any (λ x. int_le high x) xs ≡ true → int_le high h ≡ true) → int_le high h ≡ true
    go true is any more = let on = and_parts (int_le l x) (int_le x h) (All-head (IsOn l h) x xs all) in let a = on.1 in grind (arith, ints)
    go false is any more = more any

-- a box that has all rows reaches to the ends of the sides
sides_inside : (count : ℕ) (lows highs ls hs : List ℤ) (columns : List (List ℤ)) → AreSides count lows highs columns → length ls ≡ length lows → length hs ≡ length highs
    → All (λ row. IsTrue (is_between ls hs row)) (rows_in count columns) → AtMost ls lows × AtMost highs hs
sides_inside count [] [] [] [] [] are long wide all = (tt, tt)
sides_inside count [] [] [] (h ∷ hs) [] are long wide all = absurd (omega (arith, wide))
sides_inside count [] [] (l ∷ ls) hs [] are long wide all = absurd (omega (arith, long))
sides_inside count [] [] ls hs (xs ∷ columns) are long wide all = absurd are
sides_inside count [] (high ∷ highs) ls hs columns are long wide all = absurd are
sides_inside count (low ∷ lows) [] ls hs columns are long wide all = absurd are
sides_inside count (low ∷ lows) (high ∷ highs) ls hs [] are long wide all = absurd are
sides_inside count (low ∷ lows) (high ∷ highs) [] hs (xs ∷ columns) are long wide all = absurd (omega (arith, long))
sides_inside count (low ∷ lows) (high ∷ highs) (l ∷ ls) [] (xs ∷ columns) are long wide all = absurd (omega (arith, wide))
sides_inside count (low ∷ lows) (high ∷ highs) (l ∷ ls) (h ∷ hs) (xs ∷ columns) are long wide all =
    let parts = all_apart (IsOn l h) (λ row. IsTrue (is_between ls hs row)) (λ row. IsTrue (is_between (l ∷ ls) (h ∷ hs) row))
    (λ x row t. and_parts (int_le l x && int_le x h) (is_between ls hs row) t) xs (rows_in count columns) (are.0.many ∙ sym (rows_between count lows highs columns are.1).many) all in
    let more = sides_inside count lows highs ls hs columns are.1 (omega (arith, long)) (omega (arith, wide)) parts.1 in
    ((low_end low l h xs are.0.at_low parts.0, more.0), (high_end high l h xs are.0.at_high parts.0, more.1))

same_int : (x y : ℤ) → int_le x y ≡ true → int_le y x ≡ true → x ≡ y
same_int x y a b = grind (arith, ints)

same_lows : (ls hs xs : List ℤ) → IsTrue (is_between ls hs xs) → AtMost xs ls → xs ≡ ls
same_lows [] hs [] t most = refl
same_lows [] hs (x ∷ xs) t most = absurd most
same_lows (l ∷ ls) hs [] t most = absurd most
same_lows (l ∷ ls) [] (x ∷ xs) t most = absurd (cc)
same_lows (l ∷ ls) (h ∷ hs) (x ∷ xs) t most =
    let parts = and_parts (int_le l x && int_le x h) (is_between ls hs xs) t in
    let here = same_int x l most.0 (and_parts (int_le l x) (int_le x h) parts.0).0 in
    ap (λ y. y ∷ xs) here ∙ ap (λ ys. l ∷ ys) (same_lows ls hs xs parts.1 most.1)

same_highs : (ls hs xs : List ℤ) → IsTrue (is_between ls hs xs) → AtMost hs xs → xs ≡ hs
same_highs ls [] [] t most = refl
same_highs ls [] (x ∷ xs) t most = absurd most
same_highs ls (h ∷ hs) [] t most = absurd most
same_highs [] (h ∷ hs) (x ∷ xs) t most = absurd (cc)
same_highs (l ∷ ls) (h ∷ hs) (x ∷ xs) t most =
    let parts = and_parts (int_le l x && int_le x h) (is_between ls hs xs) t in
    let here = same_int x h (and_parts (int_le l x) (int_le x h) parts.0).1 most.0 in
    ap (λ y. y ∷ xs) here ∙ ap (λ ys. h ∷ ys) (same_highs ls hs xs parts.1 most.1)

-- ---- cells

cells_long : (coords : List (List ℤ)) (origins : List ℕ) (rows : List (List Val)) → length origins ≡ length coords → length rows ≡ length coords → length (cells_from coords origins rows) ≡ length coords
cells_long [] origins rows as_many same = refl
cells_long (c ∷ coords) [] rows as_many same = absurd (omega (arith, as_many))
cells_long (c ∷ coords) (o ∷ origins) [] as_many same = absurd (omega (arith, same))
cells_long (c ∷ coords) (o ∷ origins) (r ∷ rows) as_many same = ap suc (cells_long coords origins rows (omega (arith, as_many)) (omega (arith, same)))

-- there are as many cells as there are coordinates, origins and rows
pub cells_many : (count : ℕ) (coords : List (List ℤ)) (origins : List ℕ) (rows : List (List Val)) → length coords ≡ count → length origins ≡ count → length rows ≡ count
    → length (cells_from coords origins rows) ≡ count
cells_many count coords origins rows some as_many same = cells_long coords origins rows (as_many ∙ sym some) (same ∙ sym some) ∙ some

-- what holds of cells by their coordinates, their origins and their rows
pub cells_all : (Q : StoredCell → Type 0) (P : List ℤ → Type 0) (O : ℕ → Type 0) (R : List Val → Type 0) → ((coords : List ℤ) (origin : ℕ) (row : List Val) → P coords → O origin → R row → Q (record { coords = coords; origin = origin; row = row }))
    → (coords : List (List ℤ)) (origins : List ℕ) (rows : List (List Val)) → All P coords → All O origins → All R rows → All Q (cells_from coords origins rows)
cells_all Q P O R join [] origins rows ps os rs = All-nil Q
cells_all Q P O R join (c ∷ coords) [] rows ps os rs = All-nil Q
cells_all Q P O R join (c ∷ coords) (o ∷ origins) [] ps os rs = All-nil Q
cells_all Q P O R join (c ∷ coords) (o ∷ origins) (r ∷ rows) ps os rs =
    All-cons Q (record { coords = c; origin = o; row = r }) (cells_from coords origins rows) (join c o r (All-head P c coords ps) (All-head O o origins os) (All-head R r rows rs))
    (cells_all Q P O R join coords origins rows (All-tail P c coords ps) (All-tail O o origins os) (All-tail R r rows rs))

coords_all : (P : List ℤ → Type 0) (coords : List (List ℤ)) (origins : List ℕ) (rows : List (List Val)) → length origins ≡ length coords → length rows ≡ length coords
    → All (λ (c : StoredCell). P c.coords) (cells_from coords origins rows) → All P coords
coords_all P [] origins rows as_many same all = All-nil P
coords_all P (c ∷ coords) [] rows as_many same all = absurd (omega (arith, as_many))
coords_all P (c ∷ coords) (o ∷ origins) [] as_many same all = absurd (omega (arith, same))
coords_all P (c ∷ coords) (o ∷ origins) (r ∷ rows) as_many same all =
    let T = λ (d : StoredCell). P d.coords in
    All-cons P c coords (All-head T (record { coords = c; origin = o; row = r }) (cells_from coords origins rows) all)
    (coords_all P coords origins rows (omega (arith, as_many)) (omega (arith, same)) (All-tail T (record { coords = c; origin = o; row = r }) (cells_from coords origins rows) all))

-- ---- the leaf

-- the hull of cells that span the sides of a leaf is that leaf
hull_by : (leaf : SubBox) (count : ℕ) (columns : List (List ℤ)) (cells : List StoredCell) → 1 ≤ length cells → AreSides count leaf.low leaf.high columns
    → All (λ (c : StoredCell). IsTrue (is_between leaf.low leaf.high c.coords)) cells → ((P : List ℤ → Type 0) → All (λ (c : StoredCell). P c.coords) cells → All P (rows_in count columns)) → leaf_of cells ≡ leaf
hull_by leaf count columns [] some are inside back = absurd (omega (arith, some))
hull_by leaf count columns (c ∷ cells) some are inside back =
    let hull = leaf_of (c ∷ cells) in
    let like = All-weaker (λ (d : StoredCell). IsTrue (is_between leaf.low leaf.high d.coords)) (λ (d : StoredCell). length d.coords ≡ length leaf.low)
    (λ d t. sym (length-is_between leaf.low leaf.high d.coords t).0) (c ∷ cells) inside in
    let is = leaf_is_hull leaf c cells like in
    let box = are_bounds-is_between hull.low hull.high c.coords (All-head (λ (d : StoredCell). IsTrue (is_between hull.low hull.high d.coords)) c cells is.covers) in
    let low_in = is.least leaf inside hull.low (is_between-low hull.low hull.high box) in
    let high_in = is.least leaf inside hull.high (is_between-high hull.low hull.high box) in
    let low_long = length-is_between leaf.low leaf.high hull.low low_in in
    let high_long = length-is_between leaf.low leaf.high hull.high high_in in
    let ends = sides_inside count leaf.low leaf.high hull.low hull.high columns are (sym low_long.0) (sym high_long.1) (back (λ row. IsTrue (is_between hull.low hull.high row)) is.covers) in
    let low = same_lows leaf.low leaf.high hull.low low_in ends.0 in
    let high = same_highs leaf.low leaf.high hull.high high_in ends.1 in
    λ i. record { low = low i; high = high i }

-- so it is of cells that were made of such columns
pub hull_is_leaf : (leaf : SubBox) (count : ℕ) (columns : List (List ℤ)) (origins : List ℕ) (rows : List (List Val)) → 1 ≤ count → AreSides count leaf.low leaf.high columns → length origins ≡ count → length rows ≡ count
    → All (λ (c : StoredCell). IsTrue (is_between leaf.low leaf.high c.coords)) (cells_from (rows_in count columns) origins rows) → leaf_of (cells_from (rows_in count columns) origins rows) ≡ leaf
hull_is_leaf leaf count columns origins rows some are as_many same inside =
    let coords = rows_in count columns in
    let many = (rows_between count leaf.low leaf.high columns are).many in
    let long = cells_many count coords origins rows many as_many same in
    hull_by leaf count columns (cells_from coords origins rows) (omega (arith, long, some)) are inside (λ P all. coords_all P coords origins rows (as_many ∙ sym many) (same ∙ sym many) all)

-- ---- their order

-- cells with no fault in their order rise
pub cells_rise : (frame : Frame) (head : StoredHead) (consolidated : Bool) (ranges : List Ranged) (place : ℕ) (before : Option StoredCell) (cells : List StoredCell)
    → All (λ (c : StoredCell). IsTrue (nat_lt c.origin (length head.origins))) cells → order_fault frame consolidated ranges place before cells ≡ None → Rise frame head before cells
cells_rise frame head consolidated ranges place before [] known none = tt
cells_rise frame head consolidated ranges place before (c ∷ cells) known none =
    go (coords_rise frame before c.coords) refl (origin_rises frame.dense before c.coords c.origin) refl none
    (λ rest. cells_rise frame head consolidated ranges (suc place) (Some c) cells (All-tail (λ (c : StoredCell). IsTrue (nat_lt c.origin (length head.origins))) c cells known) rest)
  where
    go : (a : Bool) → coords_rise frame before c.coords ≡ a → (b : Bool) → origin_rises frame.dense before c.coords c.origin ≡ b
        → (if a then (if b then order_fault frame consolidated ranges (suc place) (Some c) cells else Some (origin_fault frame consolidated ranges place)) else Some (coords_fault frame ranges place)) ≡ None
        → (order_fault frame consolidated ranges (suc place) (Some c) cells ≡ None → Rise frame head (Some c) cells) → MayFollow frame head before c × Rise frame head (Some c) cells
    go true is true rises none more = (
      record {
        rises = is;
        known = and_from (nat_lt c.origin (length head.origins)) (origin_rises frame.dense before c.coords c.origin) (All-head (λ (c : StoredCell). IsTrue (nat_lt c.origin (length head.origins))) c cells known) rises;
      },
      more none,
    )
    go true is false rises none more = absurd (cc)
    go false is b rises none more = absurd (cc)
