-- What the columns of a tile that were read keep.
use Rattle.std.proofs.Common.{◌≡◌, ℕ, zero, suc, ◌+◌, ◌^◌, ◌<◌, ◌≤◌, Bool, true, false, not, ◌&&◌, cond, ℤ, pos, negsuc, int_le, List, [], ◌∷◌, ◌++◌, length, map, drop, get_or, replicate, Option, Some, None, Result, Ok, Err, refl, sym, ap, subst, ◌∙◌, arith, drop-cons, length-append}
use Rattle.std.specs.Prelude.{◌≤ℤ◌}
use Rattle.std.specs.List.{All, list_any, position_from}
use Rattle.std.proofs.Math.ListN.{length-replicate}
use Rattle.std.proofs.lemmas.Int.{ints}
use Rattle.std.proofs.lemmas.List.{drop_all}
use Rattle.std.proofs.lemmas.List.Elements.{All-nil, All-cons, All-head, All-tail, All-replicate}
use Rattle.ts_base.specs.declared.names.Part.{Part}
use Rattle.ts_base.specs.declared.names.Part.TheVariants as part
use Rattle.ts_base.specs.contracts.names.PartPartialEq.TheImpl as same
use Rattle.ts_base.specs.declared.values.Val.{Val}
use Rattle.ts_base.specs.declared.values.Val.TheVariants.{Null, Int, Bytes}
use Rattle.ts_base.specs.declared.values.ValType.{ValType}
use Rattle.ts_base.specs.declared.values.ValType.TheVariants.{I8, I16, I32, I64, U8, U16, U32, U64, Text, Blob}
use Rattle.ts_base.specs.Values.{is_integer, width_of, least_of, greatest_of}
use Rattle.ts_domain.specs.declared.dims.Dim.{Dim}
use Rattle.ts_domain.specs.declared.boxes.SubBox.{SubBox}
use Rattle.ts_value.specs.Fits.{Fits}
use Rattle.ts_value.proofs.FitLaws.{fits_of-Fits}
use Rattle.ts_wire.specs.Place.{place}
use Rattle.ts_wire.specs.Exact.{IsBytes, EachFits}
use Rattle.ts_wire.specs.Numbers.{FitsInt}
use Rattle.ts_wire.specs.Fields.{FitsSized, FitsVal}
use Rattle.ts_wire.proofs.Laws.{bound, whole_found}
use Rattle.ts_schema.specs.declared.attrs.Attr.{Attr}
use Rattle.ts_plain.specs.Plain.{FitsValue}
use Rattle.ts_table.specs.Texts.{joined}
use Rattle.ts_column.specs.Tiles.{TileBreak, is_signed, ints_in, tile_vals}
use Rattle.ts_column.specs.Coords.{is_out, first_out, unless_at, coords_in}
use Rattle.ts_column.specs.Origins.{origins_in}
use Rattle.ts_column.specs.Spelled.{text_of, var_bytes, tile_of}
use Rattle.ts_column.specs.declared.tiles.Tile.{Tile}
use Rattle.ts_column.proofs.IntLaws.{ints_exact, each_alone}
use Rattle.ts_column.proofs.OriginLaws as entries
use Rattle.ts_column.proofs.TileLaws.{widths, tile_spelled}
use Rattle.ts_sparse_read.specs.Faults.{Fault, and_then, Ranged, bytes_of, in_part, in_tile}
use Rattle.ts_sparse_read.specs.TileReads.{is_among, coords_of_tile, tile_in, vals_if, vals_of_tile, origins_if}
use Rattle.ts_sparse_read.specs.ReadRows.{IsColumn, AreColumns, IsOn, IsSide, AreSides}

-- ---- answers

-- a step that gave a value came behind one that gave a value
pub then_ok : {A B : Type 0} (r : Result A Fault) (next : A → Result B Fault) (y : B) → and_then r next ≡ Ok y → (x : A) × (r ≡ Ok x) × (next x ≡ Ok y)
then_ok (Ok x) next y h = (x, refl, h)
then_ok (Err fault) next y h = absurd (cc)

-- what was read of a part is what its bytes hold
pub part_ok : {A : Type 0} (ranges : List Ranged) (p : Part) (r : Result A ℕ) (x : A) → in_part ranges p r ≡ Ok x → r ≡ Ok x
part_ok ranges p (Ok y) x h = let is : y ≡ x = cc in ap Ok is
part_ok ranges p (Err at) x h = absurd (cc)

-- and so it is of a tile
pub tile_ok : {A : Type 0} (ranges : List Ranged) (k : ℕ) (r : Result A TileBreak) (x : A) → in_tile ranges k r ≡ Ok x → r ≡ Ok x
tile_ok ranges k (Ok y) x h = let is : y ≡ x = cc in ap Ok is
tile_ok ranges k (Err broken) x h = absurd (cc)

-- what holds of all bytes that were got holds of those of each part
pub bytes_keep : (P : List ℕ → Type 0) → P [] → (ranges : List Ranged) (p : Part) → All (λ (r : Ranged). P r.bytes) ranges → P (bytes_of ranges p)
bytes_keep P none [] p all = none
bytes_keep P none (r ∷ ranges) p all =
    go ((same.ghosts).eq r.part p) (All-head (λ (r : Ranged). P r.bytes) r ranges all) (bytes_keep P none ranges p (All-tail (λ (r : Ranged). P r.bytes) r ranges all))
  where
    go : (b : Bool) → P r.bytes → P (bytes_of ranges p) → P (cond b r.bytes (bytes_of ranges p))
    go true here more = here
    go false here more = more

-- those of each part are bytes
pub bytes_are : (ranges : List Ranged) (p : Part) → All (λ (r : Ranged). IsBytes r.bytes) ranges → IsBytes (bytes_of ranges p)
bytes_are ranges p all = bytes_keep IsBytes (λ i. omega arith) ranges p all

-- and few
pub bytes_few : (ranges : List Ranged) (p : Part) → All (λ (r : Ranged). length r.bytes < 2 ^ 64) ranges → length (bytes_of ranges p) < 2 ^ 64
bytes_few ranges p all = bytes_keep (λ bytes. length bytes < 2 ^ 64) (omega arith) ranges p all

-- ---- coordinates

all_on : (low high : ℤ) (i : ℕ) (xs : List ℤ) → position_from (is_out low high) i xs ≡ None → All (IsOn low high) xs
all_on low high i [] none = All-nil (IsOn low high)
all_on low high i (x ∷ xs) none = go (int_le low x && int_le x high) refl none (λ rest. all_on low high (i + 1) xs rest)
  where
    go : (b : Bool) → (int_le low x && int_le x high) ≡ b → cond (not b) (Some i) (position_from (is_out low high) (i + 1) xs) ≡ None
        → (position_from (is_out low high) (i + 1) xs ≡ None → All (IsOn low high) xs) → All (IsOn low high) (x ∷ xs)
    go true is none more = All-cons (IsOn low high) x xs is (more none)
    go false is none more = absurd (cc)

-- coordinates that were read are so many in their type, and span the side
pub coords_column : (ty : ValType) (low high : ℤ) (count : ℕ) (bytes : List ℕ) (xs : List ℤ) → is_integer ty ≡ true → IsBytes bytes → coords_in ty low high count bytes ≡ Ok xs
    → IsColumn (FitsInt (width_of ty) (is_signed ty)) count xs × IsSide low high count xs
unfolding coords_in ints_in first_out
coords_column ty low high count bytes xs is all found =
    let b = bound (ints_in (width_of ty) (is_signed ty) count bytes) (λ ys. unless_at (width_of ty) ys (first_out low high ys)) xs found in
    let w = widths ty is in
    let was = whole_found (ints_exact (width_of ty) (is_signed ty) count w.0 w.1) (place bytes 0) b.first all b.was in
    let P = λ (ys : List ℤ). IsColumn (FitsInt (width_of ty) (is_signed ty)) count ys × IsSide low high count ys in
    let fits = each_alone (FitsInt (width_of ty) (is_signed ty)) [] b.first was.1.1 in
    let kept = spans b.first (first_out low high b.first) refl b.next in
    subst P kept.0 (record { many = was.1.0; fits = fits }, side b.first (list_any (λ x. int_le x low) b.first) refl (list_any (λ x. int_le high x) b.first) refl was.1.0 kept.1)
  where
    spans : (ys : List ℤ) (o : Option ℕ) → first_out low high ys ≡ o → unless_at (width_of ty) ys o ≡ Ok xs → (ys ≡ xs) × (first_out low high ys ≡ None)
    spans ys None is h = let same : ys ≡ xs = cc in (same, is)
    spans ys (Some i) is h = absurd (cc)

    side : (ys : List ℤ) (a : Bool) → list_any (λ x. int_le x low) ys ≡ a → (b : Bool) → list_any (λ x. int_le high x) ys ≡ b → length ys ≡ count
        → cond (a && b) (position_from (is_out low high) 0 ys) (Some 0) ≡ None → IsSide low high count ys
    side ys true a true b many none = record { many = many; inside = all_on low high 0 ys none; at_low = a; at_high = b }
    side ys true a false b many none = absurd (cc)
    side ys false a b is many none = absurd (cc)

-- the columns of coordinates that were read
pub coords_columns : (leaf : SubBox) (count : ℕ) (ranges : List Ranged) → All (λ (r : Ranged). IsBytes r.bytes) ranges → (k : ℕ) (dims : List Dim) (columns : List (List ℤ))
    → k + length dims ≡ length leaf.low → k + length dims ≡ length leaf.high → All (λ (d : Dim). is_integer d.ty ≡ true) dims → coords_of_tile leaf count ranges k dims ≡ Ok columns
    → AreColumns (λ (d : Dim). FitsInt (width_of d.ty) (is_signed d.ty)) count dims columns × AreSides count (drop k leaf.low) (drop k leaf.high) columns
coords_columns leaf count ranges bytes k [] columns lows highs ints found =
    let is : [] ≡ columns = cc in
    let F = λ (d : Dim) (xs : List ℤ). IsColumn (FitsInt (width_of d.ty) (is_signed d.ty)) count xs in
    subst (λ (ys : List (List ℤ)). EachFits F [] ys × AreSides count (drop k leaf.low) (drop k leaf.high) ys) is
    (tt, rw (drop_all k leaf.low (omega (arith, lows)), drop_all k leaf.high (omega (arith, highs))) tt)
coords_columns leaf count ranges bytes k (d ∷ dims) columns lows highs ints found =
    let a = then_ok (in_part ranges (part.Dim k) (coords_in d.ty (get_or leaf.low k (pos 0)) (get_or leaf.high k (pos 0)) count (bytes_of ranges (part.Dim k))))
    (λ xs. and_then (coords_of_tile leaf count ranges (suc k) dims) (λ more. Ok (xs ∷ more))) columns found in
    let b = then_ok (coords_of_tile leaf count ranges (suc k) dims) (λ more. Ok (a.0 ∷ more)) columns a.2 in
    let is : a.0 ∷ b.0 ≡ columns = cc (b.2) in
    let F = λ (d : Dim) (xs : List ℤ). IsColumn (FitsInt (width_of d.ty) (is_signed d.ty)) count xs in
    let I = λ (d : Dim). is_integer d.ty ≡ true in
    let one = coords_column d.ty (get_or leaf.low k (pos 0)) (get_or leaf.high k (pos 0)) count (bytes_of ranges (part.Dim k)) a.0 (All-head I d dims ints) (bytes_are ranges (part.Dim k) bytes) (part_ok ranges (part.Dim k) _ a.0 a.1) in
    let more = coords_columns leaf count ranges bytes (suc k) dims b.0 (omega (arith, lows)) (omega (arith, highs)) (All-tail I d dims ints) b.1 in
    let low_here : k < length leaf.low = omega (arith, lows) in
    let high_here : k < length leaf.high = omega (arith, highs) in
    subst (λ (ys : List (List ℤ)). EachFits F (d ∷ dims) ys × AreSides count (drop k leaf.low) (drop k leaf.high) ys) is
    ((one.0, more.0), rw (drop-cons leaf.low k (pos 0), drop-cons leaf.high k (pos 0)) (one.1, more.1))

-- ---- values

-- an integer of some type has room in 16 bytes
wide_int : (ty : ValType) (z : ℤ) → least_of ty ≤ℤ z → z ≤ℤ greatest_of ty → FitsInt 16 true z
wide_int I8 (pos a) low high = omega (arith, ints)
wide_int I8 (negsuc a) low high = omega (arith, ints)
wide_int I16 (pos a) low high = omega (arith, ints)
wide_int I16 (negsuc a) low high = omega (arith, ints)
wide_int I32 (pos a) low high = omega (arith, ints)
wide_int I32 (negsuc a) low high = omega (arith, ints)
wide_int I64 (pos a) low high = omega (arith, ints)
wide_int I64 (negsuc a) low high = omega (arith, ints)
wide_int U8 (pos a) low high = omega (arith, ints)
wide_int U16 (pos a) low high = omega (arith, ints)
wide_int U32 (pos a) low high = omega (arith, ints)
wide_int U64 (pos a) low high = omega (arith, ints)
wide_int Text (pos a) low high = omega (arith, ints)
wide_int Blob (pos a) low high = omega (arith, ints)
wide_int U8 (negsuc a) low high = absurd (omega (arith, ints))
wide_int U16 (negsuc a) low high = absurd (omega (arith, ints))
wide_int U32 (negsuc a) low high = absurd (omega (arith, ints))
wide_int U64 (negsuc a) low high = absurd (omega (arith, ints))
wide_int Text (negsuc a) low high = absurd (omega (arith, ints))
wide_int Blob (negsuc a) low high = absurd (omega (arith, ints))

-- byte lists that are bytes and few together are so each
texts_small : (vals : List Val) → IsBytes (joined (map text_of vals)) → length (joined (map text_of vals)) < 2 ^ 64 → All (λ v. FitsSized 8 (text_of v)) vals
texts_small [] bytes few = All-nil (λ v. FitsSized 8 (text_of v))
texts_small (v ∷ vals) bytes few =
    let parts = length-append (text_of v) (joined (map text_of vals)) in
    All-cons (λ v. FitsSized 8 (text_of v)) v vals (omega (arith, parts, few), front (text_of v) (joined (map text_of vals)) bytes)
    (texts_small vals (back (text_of v) (joined (map text_of vals)) bytes) (omega (arith, parts, few)))
  where
    front : (a b : List ℕ) → IsBytes (a ++ b) → IsBytes a
    front [] b all i = omega arith
    front (x ∷ a) b all zero = all 0
    front (x ∷ a) b all (suc i) = front a b (λ j. all (suc j)) i

    back : (a b : List ℕ) → IsBytes (a ++ b) → IsBytes b
    back [] b all = all
    back (x ∷ a) b all = back a b (λ j. all (suc j))

value_fits : (a : Attr) (v : Val) → Fits a.ty a.nullable v → (is_integer a.ty ≡ false → FitsSized 8 (text_of v)) → FitsValue a v
value_fits a v fits text = (has_room v fits text, fits_of-Fits a.ty a.nullable v fits)
  where
    no_bytes : (ty : ValType) (nullable : Bool) (bytes : List ℕ) → is_integer ty ≡ true → Fits ty nullable (Bytes bytes) → ⊥
    no_bytes Text nullable bytes is fits = cc
    no_bytes Blob nullable bytes is fits = cc
    no_bytes _ nullable bytes is fits = fits

    text_room : (bytes : List ℕ) (b : Bool) → is_integer a.ty ≡ b → Fits a.ty a.nullable (Bytes bytes) → (is_integer a.ty ≡ false → FitsSized 8 bytes) → FitsSized 8 bytes
    text_room bytes true is fits text = absurd (no_bytes a.ty a.nullable bytes is fits)
    text_room bytes false is fits text = text is

    has_room : (v : Val) → Fits a.ty a.nullable v → (is_integer a.ty ≡ false → FitsSized 8 (text_of v)) → FitsVal v
    has_room Null fits text = tt
    has_room (Int z) fits text = wide_int a.ty z fits.1 fits.2
    has_room (Bytes bytes) fits text = text_room bytes (is_integer a.ty) refl fits text

-- the values of a tile that were read may stand under the attribute
pub value_column_fits : (a : Attr) (count : ℕ) (tile : Tile) (vals : List Val) → IsBytes tile.fixed → IsBytes tile.var → IsBytes tile.validity → length tile.var < 2 ^ 64
    → tile_vals a.ty a.nullable count tile ≡ Ok vals → IsColumn (FitsValue a) count vals
unfolding tile_of
value_column_fits a count tile vals fixed var validity few found =
    let was = tile_spelled a.ty a.nullable count tile vals fixed var validity found in
    record { many = was.many; fits = go (is_integer a.ty) refl (ap (λ (t : Tile). t.var) was.spelled) was.fits }
  where
    each : (vals : List Val) → All (Fits a.ty a.nullable) vals → (is_integer a.ty ≡ false → All (λ v. FitsSized 8 (text_of v)) vals) → All (FitsValue a) vals
    each [] fits texts = All-nil (FitsValue a)
    each (v ∷ vals) fits texts =
        let T = λ (v : Val). FitsSized 8 (text_of v) in
        All-cons (FitsValue a) v vals (value_fits a v (All-head (Fits a.ty a.nullable) v vals fits) (λ is. All-head T v vals (texts is)))
        (each vals (All-tail (Fits a.ty a.nullable) v vals fits) (λ is. All-tail T v vals (texts is)))

    go : (b : Bool) → is_integer a.ty ≡ b → tile.var ≡ var_bytes b vals → All (Fits a.ty a.nullable) vals → All (FitsValue a) vals
    go true is same fits = each vals fits (λ not. absurd (cc))
    go false is same fits =
        let small = texts_small vals (subst IsBytes same var) (subst (λ (b : List ℕ). length b < 2 ^ 64) same few) in
        each vals fits (λ _. small)

-- the columns of values that were read, where each keeps what is asked
vals_columns : (places : List ℕ) (count : ℕ) (ranges : List Ranged) (M : ℕ → Type 0) (D : Attr → Val → Type 0)
    → ((k : ℕ) (a : Attr) (xs : List Val) → M k → vals_if (is_among places k) count ranges k a ≡ Ok xs → IsColumn (D a) count xs)
    → (k : ℕ) (attrs : List Attr) (columns : List (List Val)) → ((i : ℕ) → k ≤ i → i < k + length attrs → M i) → vals_of_tile places count ranges k attrs ≡ Ok columns → AreColumns D count attrs columns
vals_columns places count ranges M D one k [] columns may found =
    let is : [] ≡ columns = cc in
    subst (λ (ys : List (List Val)). EachFits (λ (a : Attr) (xs : List Val). IsColumn (D a) count xs) [] ys) is tt
vals_columns places count ranges M D one k (a ∷ attrs) columns may found =
    let first = then_ok (vals_if (is_among places k) count ranges k a) (λ vals. and_then (vals_of_tile places count ranges (suc k) attrs) (λ more. Ok (vals ∷ more))) columns found in
    let rest = then_ok (vals_of_tile places count ranges (suc k) attrs) (λ more. Ok (first.0 ∷ more)) columns first.2 in
    let is : first.0 ∷ rest.0 ≡ columns = cc (rest.2) in
    subst (λ (ys : List (List Val)). EachFits (λ (a : Attr) (xs : List Val). IsColumn (D a) count xs) (a ∷ attrs) ys) is
    (one k a first.0 (may k (omega arith) (omega arith)) first.1, vals_columns places count ranges M D one (suc k) attrs rest.0 (λ i from to. may i (omega (arith, from)) (omega (arith, to))) rest.1)

read_column : (count : ℕ) (ranges : List Ranged) → All (λ (r : Ranged). IsBytes r.bytes) ranges → All (λ (r : Ranged). length r.bytes < 2 ^ 64) ranges
    → (k : ℕ) (a : Attr) (xs : List Val) → vals_if true count ranges k a ≡ Ok xs → IsColumn (FitsValue a) count xs
read_column count ranges bytes short k a xs found =
    value_column_fits a count (tile_in ranges k) xs (bytes_are ranges (part.Attr k) bytes) (bytes_are ranges (part.Var k) bytes) (bytes_are ranges (part.Validity k) bytes) (bytes_few ranges (part.Var k) short)
    (tile_ok ranges k (tile_vals a.ty a.nullable count (tile_in ranges k)) xs found)

-- there are as many columns of values as attributes, each of so many
pub vals_long : (places : List ℕ) (count : ℕ) (ranges : List Ranged) → All (λ (r : Ranged). IsBytes r.bytes) ranges → All (λ (r : Ranged). length r.bytes < 2 ^ 64) ranges
    → (attrs : List Attr) (columns : List (List Val)) → vals_of_tile places count ranges 0 attrs ≡ Ok columns → AreColumns (λ _ _. Unit {0}) count attrs columns
vals_long places count ranges bytes short attrs columns found =
    vals_columns places count ranges (λ _. Unit {0}) (λ _ _. Unit {0}) (λ k a xs _ h. one k a xs (is_among places k) h) 0 attrs columns (λ _ _ _. tt) found
  where
    any : (xs : List Val) → All (λ _. Unit {0}) xs
    any [] = All-nil (λ _. Unit {0})
    any (x ∷ xs) = All-cons (λ _. Unit {0}) x xs tt (any xs)

    one : (k : ℕ) (a : Attr) (xs : List Val) (b : Bool) → vals_if b count ranges k a ≡ Ok xs → IsColumn (λ _. Unit {0}) count xs
    one k a xs true h = record { many = (read_column count ranges bytes short k a xs h).many; fits = any xs }
    one k a xs false h =
        let is : replicate count Null ≡ xs = cc in
        record { many = ap length (sym is) ∙ length-replicate count Null; fits = any xs }

-- where all attributes are read, the values may stand under them
pub vals_fit : (places : List ℕ) (count : ℕ) (ranges : List Ranged) → All (λ (r : Ranged). IsBytes r.bytes) ranges → All (λ (r : Ranged). length r.bytes < 2 ^ 64) ranges
    → (attrs : List Attr) (columns : List (List Val)) → ((k : ℕ) → k < length attrs → is_among places k ≡ true) → vals_of_tile places count ranges 0 attrs ≡ Ok columns → AreColumns FitsValue count attrs columns
vals_fit places count ranges bytes short attrs columns all found =
    vals_columns places count ranges (λ k. is_among places k ≡ true) FitsValue (λ k a xs is h. one k a xs (is_among places k) is h) 0 attrs columns (λ i _ to. all i (omega (arith, to))) found
  where
    one : (k : ℕ) (a : Attr) (xs : List Val) (b : Bool) → b ≡ true → vals_if b count ranges k a ≡ Ok xs → IsColumn (FitsValue a) count xs
    one k a xs true is h = read_column count ranges bytes short k a xs h
    one k a xs false is h = absurd (cc)

-- ---- origins

-- the origins that were read are so many, and in the table
pub origins_column : (consolidated : Bool) (table count : ℕ) (ranges : List Ranged) (origins : List ℕ) → All (λ (r : Ranged). IsBytes r.bytes) ranges → 1 ≤ table → table < 256 ^ 4
    → origins_if consolidated table count ranges ≡ Ok origins → IsColumn (λ o. o < table) count origins
origins_column true table count ranges origins bytes some few found =
    let was = entries.decoded_spelled table count (bytes_of ranges part.Origin) (Ok origins) few (bytes_are ranges part.Origin bytes) (part_ok ranges part.Origin (origins_in table count (bytes_of ranges part.Origin)) origins found) in
    record { many = was.many; fits = was.known }
origins_column false table count ranges origins bytes some few found =
    let is : replicate count 0 ≡ origins = cc in
    subst (λ (os : List ℕ). IsColumn (λ o. o < table) count os) is (record { many = length-replicate count 0; fits = All-replicate (λ o. o < table) count 0 (omega arith) })
