-- The columns of a tile, one by one.
use Rattle.std.proofs.Common.{◌≡◌, ℕ, zero, suc, ◌+◌, ◌<◌, ◌≤◌, Bool, true, false, not, ◌&&◌, cond, ℤ, pos, int_le, List, [], ◌∷◌, ◌++◌, length, drop, take, get_or, Some, None, Result, Ok, Err, refl, sym, ap, subst, ◌∙◌, add-one, append_assoc}
use Rattle.std.specs.List.{All, list_any, position_from}
use Rattle.std.proofs.lemmas.List.{drop_more, drop_all, take_more, take_all, append-nil}
use Rattle.std.proofs.lemmas.List.Elements.{All-nil, All-cons, All-append}
use Rattle.ts_base.specs.declared.names.Part.TheVariants as part
use Rattle.ts_base.specs.declared.values.Val.{Val}
use Rattle.ts_base.specs.declared.values.ValType.{ValType}
use Rattle.ts_domain.specs.declared.dims.Dim.{Dim}
use Rattle.ts_domain.specs.declared.boxes.SubBox.{SubBox}
use Rattle.ts_schema.specs.declared.attrs.Attr.{Attr}
use Rattle.ts_column.specs.Coords.{is_out, first_out, coords_in, AreCoords}
use Rattle.ts_sparse_read.specs.declared.faults.CellFault.{CellFault}
use Rattle.ts_sparse_read.specs.declared.faults.CellFault.TheVariants as told
use Rattle.ts_sparse_read.specs.Faults.{Fault, and_then, Ranged, bytes_of, in_part}
use Rattle.ts_sparse_read.specs.TileReads.{is_among, coords_of_tile, vals_if, vals_of_tile}
use Rattle.ts_sparse_read.specs.Reads.{IsCellFault, DecodesFault}
use Rattle.ts_sparse_read.specs.ReadRows.{IsOn, IsSide, AreSides}

-- ---- answers

-- a fault that is told is that of the answer
pub decodes_err : {A B : Type 0} (seen : A → B) (answer : Result B Fault) (f : Fault) (fault : CellFault) → answer ≡ Err f → IsCellFault f fault → DecodesFault seen answer (Err fault)
decodes_err seen answer f (told.Broken part at) is tells = is ∙ ap Err tells
decodes_err seen answer f told.OutOfMemory is tells = tt

-- the columns so far before those that are left
abbrev behind : {X : Type 0} → List X → Result (List X) Fault → Result (List X) Fault
behind front r = and_then r (λ rest. Ok (front ++ rest))

behind_next : {X : Type 0} (front : List X) (x : X) (r : Result (List X) Fault) → behind front (and_then r (λ rest. Ok (x ∷ rest))) ≡ behind (front ++ x ∷ []) r
behind_next front x (Ok rest) = ap Ok (sym (append_assoc front (x ∷ []) rest))
behind_next front x (Err f) = refl

module _ {D X : Type 0} (one : ℕ → D → Result X Fault) (all : ℕ → List D → Result (List X) Fault) (none : (k : ℕ) → all k [] ≡ Ok [])
    (next : (k : ℕ) (d : D) (ds : List D) → all k (d ∷ ds) ≡ and_then (one k d) (λ x. and_then (all (suc k) ds) (λ xs. Ok (x ∷ xs)))) where
  -- the answers so far before those of the items that are left are those of all items
  abbrev Going : List D → List X → ℕ → Type 0
  Going ds front k = all 0 ds ≡ behind front (all k (drop k ds))

  split : (ds : List D) (k : ℕ) (d e : D) → k < length ds → d ≡ get_or ds k e → drop k ds ≡ d ∷ drop (k + 1) ds
  split ds k d e within is = drop_more ds k e within ∙ ap (λ (c : D). c ∷ drop (k + 1) ds) (sym is)

  going_none : (ds : List D) → Going ds [] 0
  going_none ds = same (all 0 ds)
    where
      same : (r : Result (List X) Fault) → r ≡ behind [] r
      same (Ok xs) = refl
      same (Err f) = refl

  going_more : (ds : List D) (front other : List X) (k : ℕ) (d e : D) (x : X) → Going ds front k → k < length ds → d ≡ get_or ds k e → one k d ≡ Ok x → other ≡ front ++ x ∷ [] → Going ds other (k + 1)
  going_more ds front other k d e x going within is found push =
      let rest = drop (k + 1) ds in
      going ∙ ap (λ l. behind front (all k l)) (split ds k d e within is) ∙ ap (behind front) (next k d rest)
      ∙ ap (λ (r : Result X Fault). behind front (and_then r (λ x. and_then (all (suc k) rest) (λ xs. Ok (x ∷ xs))))) found
      ∙ behind_next front x (all (suc k) rest)
      ∙ ap (λ l. behind l (all (suc k) rest)) (sym push) ∙ ap (λ i. behind other (all i rest)) (sym (add-one k))

  going_stops : (ds : List D) (front : List X) (k : ℕ) (d e : D) (fault : CellFault) → Going ds front k → k < length ds → d ≡ get_or ds k e → DecodesFault (λ (x : X). x) (one k d) (Err fault)
      → DecodesFault (λ (xs : List X). xs) (all 0 ds) (Err fault)
  going_stops ds front k d e (told.Broken part at) going within is found =
      let rest = drop (k + 1) ds in
      going ∙ ap (λ l. behind front (all k l)) (split ds k d e within is) ∙ ap (behind front) (next k d rest)
      ∙ ap (λ (r : Result X Fault). behind front (and_then r (λ x. and_then (all (suc k) rest) (λ xs. Ok (x ∷ xs))))) found
  going_stops ds front k d e told.OutOfMemory going within is found = tt

  going_all : (ds : List D) (front : List X) (k : ℕ) → Going ds front k → length ds ≤ k → all 0 ds ≡ Ok front
  going_all ds front k going over = going ∙ ap (λ l. behind front (all k l)) (drop_all k ds over) ∙ ap (behind front) (none k) ∙ ap Ok (append-nil front)

-- ---- coordinates

-- what is read of a dimension
abbrev coords_at : SubBox → ℕ → List Ranged → ℕ → Dim → Result (List ℤ) Fault
coords_at leaf count ranges k d = in_part ranges (part.Dim k) (coords_in d.ty (get_or leaf.low k (pos 0)) (get_or leaf.high k (pos 0)) count (bytes_of ranges (part.Dim k)))

module _ (leaf : SubBox) (count : ℕ) (ranges : List Ranged) where
  -- the columns so far before those of the dimensions that are left are all columns
  abbrev pub GoingCoords : List Dim → List (List ℤ) → ℕ → Type 0
  GoingCoords dims front k = Going (coords_at leaf count ranges) (coords_of_tile leaf count ranges) (λ _. refl) (λ _ _ _. refl) dims front k

  -- before the first dimension there is no column
  pub coords_none : (ds : List Dim) → GoingCoords ds [] 0
  coords_none = going_none (coords_at leaf count ranges) (coords_of_tile leaf count ranges) (λ _. refl) (λ _ _ _. refl)

  -- one dimension more
  pub coords_more : (ds : List Dim) (front other : List (List ℤ)) (k : ℕ) (d e : Dim) (x : List ℤ) → GoingCoords ds front k → k < length ds → d ≡ get_or ds k e → coords_at leaf count ranges k d ≡ Ok x
      → other ≡ front ++ x ∷ [] → GoingCoords ds other (k + 1)
  coords_more = going_more (coords_at leaf count ranges) (coords_of_tile leaf count ranges) (λ _. refl) (λ _ _ _. refl)

  -- what is broken at a dimension is what is broken at all
  pub coords_stop : (ds : List Dim) (front : List (List ℤ)) (k : ℕ) (d e : Dim) (fault : CellFault) → GoingCoords ds front k → k < length ds → d ≡ get_or ds k e
      → DecodesFault (λ (x : List ℤ). x) (coords_at leaf count ranges k d) (Err fault) → DecodesFault (λ (xs : List (List ℤ)). xs) (coords_of_tile leaf count ranges 0 ds) (Err fault)
  coords_stop = going_stops (coords_at leaf count ranges) (coords_of_tile leaf count ranges) (λ _. refl) (λ _ _ _. refl)

  -- behind the last dimension there are all columns
  pub coords_all : (ds : List Dim) (front : List (List ℤ)) (k : ℕ) → GoingCoords ds front k → length ds ≤ k → coords_of_tile leaf count ranges 0 ds ≡ Ok front
  coords_all = going_all (coords_at leaf count ranges) (coords_of_tile leaf count ranges) (λ _. refl) (λ _ _ _. refl)

-- one side more
pub sides_more : (count : ℕ) (lows highs : List ℤ) (columns : List (List ℤ)) (l h : ℤ) (xs : List ℤ) → AreSides count lows highs columns → IsSide l h count xs
    → AreSides count (lows ++ l ∷ []) (highs ++ h ∷ []) (columns ++ xs ∷ [])
sides_more count [] [] [] l h xs are side = (side, tt)
sides_more count [] [] (ys ∷ columns) l h xs are side = absurd are
sides_more count [] (g ∷ highs) columns l h xs are side = absurd are
sides_more count (a ∷ lows) [] columns l h xs are side = absurd are
sides_more count (a ∷ lows) (g ∷ highs) [] l h xs are side = absurd are
sides_more count (a ∷ lows) (g ∷ highs) (ys ∷ columns) l h xs are side = (are.0, sides_more count lows highs columns l h xs are.1 side)

-- the columns so far span the sides so far
abbrev pub Spanning : ℕ → List ℤ → List ℤ → List (List ℤ) → ℕ → Type 0
Spanning count lows highs columns k = AreSides count (take k lows) (take k highs) columns

-- one dimension more
pub spanning_more : (count : ℕ) (lows highs : List ℤ) (columns other : List (List ℤ)) (k : ℕ) (xs : List ℤ) → Spanning count lows highs columns k → k < length lows → k < length highs
    → IsSide (get_or lows k (pos 0)) (get_or highs k (pos 0)) count xs → other ≡ columns ++ xs ∷ [] → Spanning count lows highs other (k + 1)
spanning_more count lows highs columns other k xs are low high side push =
    rw (take_more lows k (pos 0) low, take_more highs k (pos 0) high, push) (sides_more count (take k lows) (take k highs) columns (get_or lows k (pos 0)) (get_or highs k (pos 0)) xs are side)

-- behind the last dimension the columns span all sides
pub spanning_all : (count : ℕ) (lows highs : List ℤ) (columns : List (List ℤ)) (k : ℕ) → Spanning count lows highs columns k → length lows ≤ k → length highs ≤ k → AreSides count lows highs columns
spanning_all count lows highs columns k are low high =
    subst (λ (ls : List ℤ). AreSides count ls highs columns) (take_all k lows low) (subst (λ (hs : List ℤ). AreSides count (take k lows) hs columns) (take_all k highs high) are)

-- columns that span sides are of so many values each
pub sides_long : (count : ℕ) (lows highs : List ℤ) (columns : List (List ℤ)) → AreSides count lows highs columns → All (λ (xs : List ℤ). length xs ≡ count) columns × (length columns ≡ length lows)
sides_long count [] [] [] are = (All-nil (λ (xs : List ℤ). length xs ≡ count), refl)
sides_long count [] [] (ys ∷ columns) are = absurd are
sides_long count [] (g ∷ highs) columns are = absurd are
sides_long count (a ∷ lows) [] columns are = absurd are
sides_long count (a ∷ lows) (g ∷ highs) [] are = absurd are
sides_long count (a ∷ lows) (g ∷ highs) (ys ∷ columns) are =
    let more = sides_long count lows highs columns are.1 in
    (All-cons (λ (xs : List ℤ). length xs ≡ count) ys columns are.0.many more.0, ap suc more.1)

all_on : (low high : ℤ) (i : ℕ) (xs : List ℤ) → position_from (is_out low high) i xs ≡ None → All (IsOn low high) xs
all_on low high i [] none = All-nil (IsOn low high)
all_on low high i (x ∷ xs) none = go (int_le low x && int_le x high) refl none (λ rest. all_on low high (i + 1) xs rest)
  where
    go : (b : Bool) → (int_le low x && int_le x high) ≡ b → cond (not b) (Some i) (position_from (is_out low high) (i + 1) xs) ≡ None
        → (position_from (is_out low high) (i + 1) xs ≡ None → All (IsOn low high) xs) → All (IsOn low high) (x ∷ xs)
    go true is none more = All-cons (IsOn low high) x xs is (more none)
    go false is none more = absurd (cc)

-- coordinates that were read span the side
pub coords_side : (ty : ValType) (low high : ℤ) (count : ℕ) (bytes : List ℕ) (xs : List ℤ) → AreCoords ty low high count bytes xs → IsSide low high count xs
unfolding first_out
coords_side ty low high count bytes xs are = side (list_any (λ x. int_le x low) xs) refl (list_any (λ x. int_le high x) xs) refl are.spans
  where
    side : (a : Bool) → list_any (λ x. int_le x low) xs ≡ a → (b : Bool) → list_any (λ x. int_le high x) xs ≡ b
        → cond (a && b) (position_from (is_out low high) 0 xs) (Some 0) ≡ None → IsSide low high count xs
    side true a true b none = record { many = are.many; inside = all_on low high 0 xs none; at_low = a; at_high = b }
    side true a false b none = absurd (cc)
    side false a b is none = absurd (cc)

-- ---- values

module _ (places : List ℕ) (count : ℕ) (ranges : List Ranged) where
  -- what is read of an attribute
  abbrev vals_at : ℕ → Attr → Result (List Val) Fault
  vals_at k a = vals_if (is_among places k) count ranges k a

  -- the columns so far before those of the attributes that are left are all columns
  abbrev pub GoingVals : List Attr → List (List Val) → ℕ → Type 0
  GoingVals attrs front k = Going vals_at (vals_of_tile places count ranges) (λ _. refl) (λ _ _ _. refl) attrs front k

  -- before the first attribute there is no column
  pub vals_none : (ds : List Attr) → GoingVals ds [] 0
  vals_none = going_none vals_at (vals_of_tile places count ranges) (λ _. refl) (λ _ _ _. refl)

  -- one attribute more
  pub vals_more : (ds : List Attr) (front other : List (List Val)) (k : ℕ) (d e : Attr) (x : List Val) → GoingVals ds front k → k < length ds → d ≡ get_or ds k e → vals_at k d ≡ Ok x
      → other ≡ front ++ x ∷ [] → GoingVals ds other (k + 1)
  vals_more = going_more vals_at (vals_of_tile places count ranges) (λ _. refl) (λ _ _ _. refl)

  -- what is broken at an attribute is what is broken at all
  pub vals_stop : (ds : List Attr) (front : List (List Val)) (k : ℕ) (d e : Attr) (fault : CellFault) → GoingVals ds front k → k < length ds → d ≡ get_or ds k e
      → DecodesFault (λ (x : List Val). x) (vals_at k d) (Err fault) → DecodesFault (λ (xs : List (List Val)). xs) (vals_of_tile places count ranges 0 ds) (Err fault)
  vals_stop = going_stops vals_at (vals_of_tile places count ranges) (λ _. refl) (λ _ _ _. refl)

  -- behind the last attribute there are all columns
  pub vals_all : (ds : List Attr) (front : List (List Val)) (k : ℕ) → GoingVals ds front k → length ds ≤ k → vals_of_tile places count ranges 0 ds ≡ Ok front
  vals_all = going_all vals_at (vals_of_tile places count ranges) (λ _. refl) (λ _ _ _. refl)

-- one column more of so many values
pub many_more : (count : ℕ) (columns other : List (List Val)) (xs : List Val) → All (λ (column : List Val). length column ≡ count) columns → length xs ≡ count → other ≡ columns ++ xs ∷ []
    → All (λ (column : List Val). length column ≡ count) other
many_more count columns other xs all many push =
    let L = λ (column : List Val). length column ≡ count in
    subst (λ (cs : List (List Val)). All L cs) (sym push) (All-append L columns (xs ∷ []) all (All-cons L xs [] many (All-nil L)))

-- the steps of the loop over the dimensions
pub ruleset coords_steps = (coords_none, coords_more, coords_stop, coords_all, spanning_more, spanning_all)

-- the steps of the loop over the attributes
pub ruleset vals_steps = (vals_none, vals_more, vals_stop, vals_all, many_more)
