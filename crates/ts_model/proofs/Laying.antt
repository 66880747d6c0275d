-- What a write lays, by its columns or over a box: cells that are apart, in the domain, with rows that fit.
use Rattle.std.proofs.Common.{◌≡◌, ℕ, zero, suc, ◌+◌, ◌*◌, ◌-◌, ◌<◌, ◌≤◌, ◌^◌, ℤ, Bool, true, false, not, ◌&&◌, cond, nat_eq, nat_le, List, [], ◌∷◌, ◌++◌, length, Option, Some, None, Result, Ok, Err, refl, sym, ap, ◌∙◌, subst, arith}
use Rattle.std.specs.Prelude.{IsTrue, ⊤, int_le, nat_lt, option_map, option_and_then, slice_get, find, is_some}
use Rattle.std.specs.List.{All, AllZip, list_all, cons_option}
use Rattle.std.specs.Bool.{Decides}
use Rattle.std.proofs.lemmas.Bool.{and_parts, and_from, ltb-false, ltb-true, eqb-true, leb-true, true≢false, false_from_ne_true}
use Rattle.std.proofs.lemmas.Bool.Decides.{Decides-int_eq}
use Rattle.std.proofs.lemmas.Slice.Eq.{slice_eq-Decides}
use Rattle.std.proofs.lemmas.Int.{ints}
use Rattle.std.proofs.lemmas.List.{length-map}
use Rattle.std.proofs.lemmas.Option.{same_Some}
use Rattle.std.proofs.lemmas.List.Elements.{All-nil, All-cons, All-head, All-tail, All-contains, All-weaker}
use Rattle.ts_base.specs.declared.heads.Cell.{Cell}
use Rattle.ts_base.specs.declared.values.Val.{Val}
use Rattle.ts_base.specs.declared.values.Val.TheVariants.{Int, Bytes, Null}
use Rattle.ts_base.specs.declared.values.ValType.{ValType}
use Rattle.ts_base.specs.declared.values.ValType.TheVariants.{I8, I16, I32, I64, U8, U16, U32, U64, Text, Blob}
use Rattle.ts_base.specs.Coords.{coords_eq}
use Rattle.ts_base.specs.Labels.{is_label}
use Rattle.ts_value.specs.Fits.{fits_of}
use Rattle.ts_wire.specs.Exact.{IsBytes}
use Rattle.ts_wire.specs.Fields.{FitsVal}
use Rattle.ts_domain.specs.declared.dims.Dim.{Dim}
use Rattle.ts_domain.specs.declared.boxes.SubBox.{SubBox}
use Rattle.ts_domain.specs.Boxes.{IsBox, cells_of}
use Rattle.ts_domain.specs.Domains.{first_bound_outside, first_outside}
use Rattle.ts_domain.proofs.Between.{is_between-low}
use Rattle.ts_domain.proofs.DomainLemmas.{All-IsDomain, is_in_domain-first_outside}
use Rattle.ts_order.specs.Orders.{coords_in_order}
use Rattle.ts_cond.specs.declared.query.NamedBox.{NamedBox}
use Rattle.ts_schema.specs.declared.attrs.Attr.{Attr}
use Rattle.ts_schema.specs.declared.frames.Frame.{Frame}
use Rattle.ts_schema.specs.FrameTexts.{IsFrame, is_bound}
use Rattle.ts_schema.specs.Attrs.{same_name}
use Rattle.ts_model.specs.declared.answers.Refusal.{Refusal}
use Rattle.ts_model.specs.declared.answers.Refusal.TheVariants as refusal
use Rattle.ts_model.specs.declared.commands.ColIn.{ColIn}
use Rattle.ts_model.specs.declared.commands.WriteIn.{WriteIn}
use Rattle.ts_model.specs.Deeds.{row_at, are_apart, RowFits, CellFits}
use Rattle.ts_model.specs.Commands.{◌or_else◌, or_clash, column, so_many, count_of, all_of, coordinate, hex_digit, blob_bytes, said_by, value_of, dim_column, attr_column, columns, stray, across, cells_from, cells_at, outside_in, again_in, unless, laid, laid_apart, laid_sparse, laid_over, laid_dense, FillBox, LaidFollows, is_byte, is_spelled_val, is_spelled_col, is_spelled_box, is_spelled_write}
use Rattle.ts_model.specs.Queries.{box_of, counted_cells, low_of, most_cells, over_most, stray_bound, bound_outside}
use Rattle.ts_model.specs.Selections.{IsNamedBox}
use Rattle.ts_model.proofs.BoxCells.{box_apart, box_cells, box_fit, box_length}
use Rattle.ts_model.proofs.Checked.{box_ordered}
use Rattle.ts_model.proofs.ListLemmas.{find-Some, Contains-slice_get}
use Rattle.ts_model.proofs.Spelled.{all_tested, neither, none_before, no_fault, spelled_fits}

-- ---- answers that are there

-- an answer has one value
same_Ok : {A : Type 0} (r : Result A Refusal) (x y : A) → r ≡ Ok x → r ≡ Ok y → x ≡ y
same_Ok r x y e f = cc

-- where the second of two steps gives a value, the first gave one too
both_ok : {A B : Type 0} (r : Result A Refusal) (f : A → Result B Refusal) (y : B) → r or_else f ≡ Ok y → (x : A) × (r ≡ Ok x) × (f x ≡ Ok y)
both_ok (Ok x) f y e = (x, refl, e)
both_ok (Err e) f y h = cc

-- a value that is no clash is there
there : {A : Type 0} (label : List ℕ) (o : Option A) (x : A) → or_clash label o ≡ Ok x → o ≡ Some x
there label None x e = cc
there label (Some y) x e = ap Some (same_Ok (Ok y) y x refl e)

-- where the second of two searches finds something, the first found something too
both_some : {A B : Type 0} (f : A → Option B) (o : Option A) (y : B) → option_and_then f o ≡ Some y → (x : A) × (o ≡ Some x) × (f x ≡ Some y)
both_some f None y e = cc
both_some f (Some x) y e = (x, refl, e)

-- what is made of something was made of something that is there
mapped_some : {A B : Type 0} (f : A → B) (o : Option A) (y : B) → option_map f o ≡ Some y → (x : A) × (o ≡ Some x) × (f x ≡ y)
mapped_some f None y e = cc
mapped_some f (Some x) y e = (x, refl, same_Some (f x) y e)

-- where a choice gives a value, its test was passed, and it is that value
chosen : {A : Type 0} (b : Bool) (x y : A) → cond b (Some x) None ≡ Some y → (b ≡ true) × (x ≡ y)
chosen true x y e = (refl, same_Some x y e)
chosen false x y e = cc

-- ---- columns

-- each column that was made is what its item asked for
columns_zip : {A B : Type 0} (P : A → B → Type 0) (f : A → Result B Refusal) → ((x : A) (y : B) → f x ≡ Ok y → P x y) → (xs : List A) (ys : List B) → columns f xs ≡ Ok ys → AllZip P xs ys
columns_zip P f shows [] [] e = tt
columns_zip P f shows [] (y ∷ ys) e = cc
columns_zip P f shows (x ∷ xs) ys e =
    let first = both_ok (f x) _ ys e in
    let second = both_ok (columns f xs) _ ys first.2 in
    subst (AllZip P (x ∷ xs)) (same_Ok (Ok (first.0 ∷ second.0)) (first.0 ∷ second.0) ys refl second.2) (shows x first.0 first.1, columns_zip P f shows xs second.0 second.1)

-- the values of a column of a write: as many as cells, and each has a spelling
record IsColumn (count : ℕ) (values : List Val) : Type 0 where
  exact : length values ≡ count
  some : 1 ≤ count
  few : count < 2 ^ 64
  spelled : All (λ v. is_spelled_val v ≡ true) values

-- the values that a write has under a name are such a column
is_column : (cols : List ColIn) (count : ℕ) (label : List ℕ) (values : List Val) → IsTrue (list_all is_spelled_col cols) → option_and_then (so_many count) (column cols label) ≡ Some values
    → IsColumn count values
is_column cols count label values spelled e =
    let first = both_some (so_many count) (column cols label) values e in
    let found = mapped_some (λ (c : ColIn). c.values) (find (λ c. same_name c.name label) cols) first.0 first.1 in
    let col = found.0 in
    let member = (find-Some (λ (c : ColIn). same_name c.name label) cols col found.1).0 in
    let good = All-contains (λ c. is_spelled_col c ≡ true) cols col (all_tested (λ c. is_spelled_col c ≡ true) is_spelled_col (λ c h. h) cols spelled) member in
    let one = and_parts (is_label col.name) _ good in
    let two = and_parts (nat_lt 0 (length col.values)) _ one.1 in
    let three = and_parts (nat_lt (length col.values) (2 ^ 64)) (list_all is_spelled_val col.values) two.1 in
    let all = chosen (nat_eq (length first.0) count) first.0 values first.2 in
    let same : col.values ≡ values = found.2 ∙ all.1 in
    let exact : length values ≡ count = ap length (sym all.1) ∙ eqb-true (length first.0) count all.0 in
    let long : length col.values ≡ count = ap length same ∙ exact in
    let some = ltb-true 0 (length col.values) two.0 in
    let few = ltb-true (length col.values) (2 ^ 64) three.0 in
    record {
      exact = exact;
      some = omega (arith, some, long);
      few = omega (arith, few, long);
      spelled = subst (All (λ v. is_spelled_val v ≡ true)) same (all_tested (λ v. is_spelled_val v ≡ true) is_spelled_val (λ v h. h) col.values three.1);
    }

-- what is said of each item in turn, and there is one answer for each
all_of_all : {A B : Type 0} (P : A → Type 0) (Q : B → Type 0) (f : A → Option B) → ((x : A) (y : B) → P x → f x ≡ Some y → Q y) → (xs : List A) (ys : List B) → All P xs → all_of f xs ≡ Some ys
    → All Q ys × (length ys ≡ length xs)
all_of_all P Q f shows [] [] all e = (All-nil Q, refl)
all_of_all P Q f shows [] (y ∷ ys) all e = cc
all_of_all P Q f shows (x ∷ xs) ys all e =
    let first = both_some _ (f x) ys e in
    let second = mapped_some (λ zs. first.0 ∷ zs) (all_of f xs) ys first.2 in
    let rest = all_of_all P Q f shows xs second.0 (All-tail P x xs all) second.1 in
    let here = shows x first.0 (All-head P x xs all) first.1 in
    subst (λ zs. All Q zs × (length zs ≡ length (x ∷ xs))) second.2 (All-cons Q first.0 second.0 here rest.0, ap suc rest.1)

-- the column of a dimension: as many numbers as cells
record IsDimColumn (count : ℕ) (d : Dim) (numbers : List ℤ) : Type 0 where
  exact : length numbers ≡ count
  some : 1 ≤ count
  few : count < 2 ^ 64

-- the column that is laid for a dimension is one of that dimension
dim_column_is : (cols : List ColIn) (count : ℕ) → IsTrue (list_all is_spelled_col cols) → (d : Dim) (numbers : List ℤ) → dim_column cols count d ≡ Ok numbers → IsDimColumn count d numbers
dim_column_is cols count spelled d numbers e =
    let made = there d.name _ numbers e in
    let parts = both_some (all_of coordinate) (option_and_then (so_many count) (column cols d.name)) numbers made in
    let col = is_column cols count d.name parts.0 spelled parts.1 in
    let read = all_of_all (λ (v : Val). ⊤) (λ (z : ℤ). ⊤) coordinate (λ v z all h. tt) parts.0 numbers (λ k d lt. tt) parts.2 in
    record { exact = read.1 ∙ col.exact; some = col.some; few = col.few }

-- ---- values

-- a digit of a blob says less than 16
digit_few : (b high : ℕ) → hex_digit b ≡ Some high → high < 16
digit_few b high e = by (nat_le 48 b && nat_le b 57) (nat_le 97 b && nat_le b 102) refl refl e
  where
    by : (p q : Bool) → (nat_le 48 b && nat_le b 57) ≡ p → (nat_le 97 b && nat_le b 102) ≡ q → cond p (Some (b - 48)) (cond q (Some (b - 87)) None) ≡ Some high → high < 16
    by true q h k e = let most = leb-true b 57 (and_parts (nat_le 48 b) (nat_le b 57) h).1 in let same = same_Some (b - 48) high e in omega (arith, most, same)
    by false true h k e = let most = leb-true b 102 (and_parts (nat_le 97 b) (nat_le b 102) k).1 in let same = same_Some (b - 87) high e in omega (arith, most, same)
    by false false h k e = cc

-- bytes and another are bytes
more_bytes : (b : ℕ) (bs : List ℕ) → b < 256 → IsBytes bs → IsBytes (b ∷ bs)
more_bytes b bs few all zero = few
more_bytes b bs few all (suc i) = all i

-- the digits of a blob say bytes, at most as many as digits
blob_is : (text bytes : List ℕ) → blob_bytes text ≡ Some bytes → IsBytes bytes × (length bytes ≤ length text)
blob_is [] [] e = (λ i. omega arith, omega arith)
blob_is [] (b ∷ bytes) e = cc
blob_is (x ∷ []) bytes e = cc
blob_is (x ∷ y ∷ rest) bytes e =
    let first = both_some _ (hex_digit x) bytes e in
    let second = both_some _ (hex_digit y) bytes first.2 in
    let third = mapped_some (λ bs. (first.0 * 16 + second.0) ∷ bs) (blob_bytes rest) bytes second.2 in
    let high = digit_few x first.0 first.1 in
    let low = digit_few y second.0 second.1 in
    let before = blob_is rest third.0 third.1 in
    let few : first.0 * 16 + second.0 < 256 = omega (arith, high, low) in
    subst (λ bs. IsBytes bs × (length bs ≤ length (x ∷ y ∷ rest))) third.2 (more_bytes (first.0 * 16 + second.0) third.0 few before.0, omega (arith, before.1))

-- what a value with a spelling says fits its field
said_fits : (ty : ValType) (v said : Val) → is_spelled_val v ≡ true → said_by ty v ≡ Some said → FitsVal said
said_fits I8 v said spelled e = subst FitsVal (same_Some v said e) (spelled_fits v spelled)
said_fits I16 v said spelled e = subst FitsVal (same_Some v said e) (spelled_fits v spelled)
said_fits I32 v said spelled e = subst FitsVal (same_Some v said e) (spelled_fits v spelled)
said_fits I64 v said spelled e = subst FitsVal (same_Some v said e) (spelled_fits v spelled)
said_fits U8 v said spelled e = subst FitsVal (same_Some v said e) (spelled_fits v spelled)
said_fits U16 v said spelled e = subst FitsVal (same_Some v said e) (spelled_fits v spelled)
said_fits U32 v said spelled e = subst FitsVal (same_Some v said e) (spelled_fits v spelled)
said_fits U64 v said spelled e = subst FitsVal (same_Some v said e) (spelled_fits v spelled)
said_fits Text v said spelled e = subst FitsVal (same_Some v said e) (spelled_fits v spelled)
said_fits Blob Null said spelled e = subst FitsVal (same_Some Null said e) tt
said_fits Blob (Int z) said spelled e = subst FitsVal (same_Some (Int z) said e) (spelled_fits (Int z) spelled)
said_fits Blob (Bytes text) said spelled e =
    let made = mapped_some Bytes (blob_bytes text) said e in
    let is = blob_is text made.0 made.1 in
    let few = ltb-true (length text) (2 ^ 64) (and_parts (nat_lt (length text) (2 ^ 64)) (list_all is_byte text) spelled).0 in
    subst FitsVal made.2 (omega (arith, few, is.1), is.0)

-- the value may stand under the attribute, and fits its field
abbrev IsValueOf : Attr → Val → Type 0
IsValueOf a v = FitsVal v × IsTrue (fits_of a.ty a.nullable v)

-- what a value with a spelling says of an attribute may stand under it
value_is : (a : Attr) (v said : Val) → is_spelled_val v ≡ true → value_of a v ≡ Some said → IsValueOf a said
value_is a v said spelled e =
    let parts = both_some (λ x. cond (fits_of a.ty a.nullable x) (Some x) None) (said_by a.ty v) said e in
    let kept = chosen (fits_of a.ty a.nullable parts.0) parts.0 said parts.2 in
    subst (IsValueOf a) kept.1 (said_fits a.ty v parts.0 spelled parts.1, kept.0)

-- the column of an attribute: as many values as cells, and each may stand under it
record IsAttrColumn (count : ℕ) (a : Attr) (values : List Val) : Type 0 where
  exact : length values ≡ count
  fit : All (IsValueOf a) values

-- the column that is laid for an attribute is one of that attribute
attr_column_is : (cols : List ColIn) (count : ℕ) → IsTrue (list_all is_spelled_col cols) → (a : Attr) (values : List Val) → attr_column cols count a ≡ Ok values → IsAttrColumn count a values
attr_column_is cols count spelled a values e =
    let made = there a.name _ values e in
    let parts = both_some (all_of (value_of a)) (option_and_then (so_many count) (column cols a.name)) values made in
    let col = is_column cols count a.name parts.0 spelled parts.1 in
    let read = all_of_all (λ v. is_spelled_val v ≡ true) (IsValueOf a) (value_of a) (value_is a) parts.0 values col.spelled parts.2 in
    record { exact = read.1 ∙ col.exact; fit = read.0 }

-- ---- cells

-- an item within a list is there
item_there : {A : Type 0} (xs : List A) (i : ℕ) → i < length xs → (x : A) × (slice_get xs i ≡ Some x)
item_there [] i lt = absurd (omega arith)
item_there (x ∷ xs) zero lt = (x, refl)
item_there (x ∷ xs) (suc i) lt = item_there xs i (omega arith)

-- a cell has one coordinate for each dimension
coords_many : (count place : ℕ) (dims : List Dim) (coords : List (List ℤ)) → place < count → AllZip (IsDimColumn count) dims coords → length (across place coords) ≡ length dims
coords_many count place [] [] lt each = refl
coords_many count place [] (c ∷ coords) lt each = absurd each
coords_many count place (d ∷ dims) [] lt each = absurd each
coords_many count place (d ∷ dims) (c ∷ coords) lt each =
    let long = each.0.exact in
    let item = item_there c place (omega (arith, lt, long)) in
    ap (λ o. length (cons_option o (across place coords))) item.1 ∙ ap suc (coords_many count place dims coords lt each.1)

-- the row of a cell fits the attributes
row_fits : (count place : ℕ) (attrs : List Attr) (rows : List (List Val)) → place < count → AllZip (IsAttrColumn count) attrs rows → RowFits attrs (across place rows)
row_fits count place [] [] lt each = tt
row_fits count place [] (c ∷ rows) lt each = absurd each
row_fits count place (a ∷ attrs) [] lt each = absurd each
row_fits count place (a ∷ attrs) (c ∷ rows) lt each =
    let long = each.0.exact in
    let item = item_there c place (omega (arith, lt, long)) in
    let value = All-contains (IsValueOf a) c item.0 each.0.fit (Contains-slice_get c place item.0 item.1) in
    subst (λ o. RowFits (a ∷ attrs) (cons_option o (across place rows))) (sym item.1) (value.0, value.1, row_fits count place attrs rows lt each.1)

-- there are so many cells as were asked for
pub length-cells_from : (coords : List (List ℤ)) (rows : List (List Val)) (place more : ℕ) → length (cells_from coords rows place more) ≡ more
length-cells_from coords rows place zero = refl
length-cells_from coords rows place (suc more) = ap suc (length-cells_from coords rows (suc place) more)

-- each cell that lies in the domain fits
cells_fit : (dims : List Dim) (attrs : List Attr) (count place more : ℕ) (coords : List (List ℤ)) (rows : List (List Val)) → place + more ≤ count
    → AllZip (IsDimColumn count) dims coords → AllZip (IsAttrColumn count) attrs rows → outside_in dims (cells_from coords rows place more) ≡ None
    → All (CellFits dims attrs) (cells_from coords rows place more)
cells_fit dims attrs count place zero coords rows le left right none = All-nil (CellFits dims attrs)
cells_fit dims attrs count place (suc more) coords rows le left right none =
    let cell : Cell = record { coords = across place coords; row = across place rows } in
    let parts = neither (option_map (λ o. refusal.Domain o.dim o.value) (first_outside dims (across place coords))) (outside_in dims (cells_from coords rows (suc place) more)) none in
    let inside = none_before (λ o. refusal.Domain o.dim o.value) (first_outside dims (across place coords)) parts.0 in
    let long = coords_many count place dims coords (omega (arith, le)) left in
    let fits : CellFits dims attrs cell = record { inside = is_in_domain-first_outside 0 dims (across place coords) long inside; row = row_fits count place attrs rows (omega (arith, le)) right } in
    All-cons (CellFits dims attrs) cell (cells_from coords rows (suc place) more) fits (cells_fit dims attrs count (suc place) more coords rows (omega (arith, le)) left right parts.1)

-- ---- cells apart

-- the test of coordinates tells which are equal
pub coords_decide : (c d : List ℤ) → Decides (coords_eq c d) (c ≡ d)
coords_decide c d = slice_eq-Decides Decides-int_eq c d (coords_eq c d) refl

-- coordinates that differ from others, these differ from
coords_apart : (c d : List ℤ) → coords_eq c d ≡ false → coords_eq d c ≡ false
coords_apart c d apart = false_from_ne_true (coords_eq d c) (λ same. true≢false (sym ((coords_decide c d).1 (sym ((coords_decide d c).0 same))) ∙ apart))

-- what is not found with one more cell is not found without it, and is not that cell
not_with : (c : List ℤ) (before : List Cell) (cell : Cell) → is_some (row_at c (before ++ cell ∷ [])) ≡ false → (is_some (row_at c before) ≡ false) × (coords_eq cell.coords c ≡ false)
not_with c [] cell none = by (coords_eq cell.coords c) none
  where
    by : (b : Bool) → is_some (cond b (Some cell.row) None) ≡ false → (false ≡ false) × (b ≡ false)
    by true h = cc
    by false h = (refl, refl)
not_with c (x ∷ before) cell none = by (coords_eq x.coords c) (not_with c before cell) none
  where
    by : (b : Bool) → (is_some (row_at c (before ++ cell ∷ [])) ≡ false → (is_some (row_at c before) ≡ false) × (coords_eq cell.coords c ≡ false))
        → is_some (cond b (Some x.row) (row_at c (before ++ cell ∷ []))) ≡ false → (is_some (cond b (Some x.row) (row_at c before)) ≡ false) × (coords_eq cell.coords c ≡ false)
    by true rest h = cc
    by false rest h = rest h

-- a coordinate that is that of no cell is not found
not_among : (c : List ℤ) (cells : List Cell) → All (λ (x : Cell). coords_eq c x.coords ≡ false) cells → is_some (row_at c cells) ≡ false
not_among c [] all = refl
not_among c (x ∷ cells) all =
    let here = coords_apart c x.coords (All-head (λ (x : Cell). coords_eq c x.coords ≡ false) x cells all) in
    ap (λ b. is_some (cond b (Some x.row) (row_at c cells))) here ∙ not_among c cells (All-tail (λ (x : Cell). coords_eq c x.coords ≡ false) x cells all)

-- the cell was not found before
abbrev IsNew : List Cell → Cell → Type 0
IsNew before x = is_some (row_at x.coords before) ≡ false

-- cells that were not found before, and are apart from each other
record AreNew (before cells : List Cell) : Type 0 where
  new : All (IsNew before) cells
  apart : are_apart cells ≡ true

-- where no cell is found among those before it, the cells are such
cells_new : (before : List Cell) (place : ℕ) (cells : List Cell) → again_in before place cells ≡ None → AreNew before cells
cells_new before place [] none = record { new = All-nil (IsNew before); apart = refl }
cells_new before place (cell ∷ cells) none =
    let parts = no_fault (is_some (row_at cell.coords before)) _ _ none in
    let longer : List Cell = before ++ cell ∷ [] in
    let rest = cells_new longer (suc place) cells parts.1 in
    let others = All-weaker (IsNew longer) (λ x. coords_eq cell.coords x.coords ≡ false) (λ x h. (not_with x.coords before cell h).1) cells rest.new in
    let earlier = All-weaker (IsNew longer) (IsNew before) (λ x h. (not_with x.coords before cell h).0) cells rest.new in
    record {
      new = All-cons (IsNew before) cell cells parts.0 earlier;
      apart = and_from (not (is_some (row_at cell.coords cells))) (are_apart cells) (ap not (not_among cell.coords cells others)) rest.apart;
    }

-- ---- all

-- cells that are kept are those that were given, and nothing stands against them
kept_unless : (cells kept : List Cell) (o : Option Refusal) → unless cells o ≡ Ok kept → (cells ≡ kept) × (o ≡ None)
kept_unless cells kept None e = (same_Ok (Ok cells) cells kept refl e, refl)
kept_unless cells kept (Some r) e = cc

-- an array with a dimension has as many cells in a write as that dimension's column has values
count_is : (dims : List Dim) (count : ℕ) (coords : List (List ℤ)) → 1 ≤ length dims → AllZip (IsDimColumn count) dims coords → (1 ≤ count) × (count < 2 ^ 64)
count_is [] count coords some each = absurd (omega arith)
count_is (d ∷ dims) count [] some each = absurd each
count_is (d ∷ dims) count (c ∷ coords) some each = (each.0.some, each.0.few)

-- a number of cells that is not too many is at most 2^20
most_of : (count : ℕ) → over_most count ≡ None → count ≤ 2 ^ 20
most_of count none = ltb-false most_cells count (no_fault (nat_lt most_cells count) (refusal.TooMany count) None none).0

-- the cells that a write to a sparse array lays may be those of a write
apart_follows : (frame : Frame) (attrs : List Attr) (cols : List ColIn) (cells : List Cell) → IsTrue (list_all is_spelled_col cols) → 1 ≤ length frame.domain → frame.dense ≡ false
    → laid_apart frame.domain attrs cols ≡ Ok cells → LaidFollows frame attrs cells
apart_follows frame attrs cols cells spelled some sparse e =
    let dims = frame.domain in
    let count = count_of dims cols in
    let first = both_ok (columns (dim_column cols count) dims) _ cells e in
    let second = both_ok (columns (attr_column cols count) attrs) _ cells first.2 in
    let coords = first.0 in
    let rows = second.0 in
    let left = columns_zip (IsDimColumn count) (dim_column cols count) (dim_column_is cols count spelled) dims coords first.1 in
    let right = columns_zip (IsAttrColumn count) (attr_column cols count) (attr_column_is cols count spelled) attrs rows second.1 in
    let kept = kept_unless (cells_from coords rows 0 count) cells _ second.2 in
    let one = neither (option_map refusal.SchemaClash (stray dims attrs cols)) _ kept.1 in
    let two = neither (outside_in dims (cells_from coords rows 0 count)) _ one.1 in
    let three = neither (again_in [] 0 (cells_from coords rows 0 count)) (over_most count) two.1 in
    let size = count_is dims count coords some left in
    let most = most_of count three.1 in
    let long = length-cells_from coords rows 0 count in
    subst (LaidFollows frame attrs) kept.0 (record {
      some_cell = omega (arith, size.0, long);
      few = omega (arith, most, long);
      apart = (cells_new [] 0 (cells_from coords rows 0 count) three.0).apart;
      fit = cells_fit dims attrs count 0 count coords rows (omega arith) left right two.0;
      boxed = λ dense. absurd (true≢false (sym dense ∙ sparse));
    })

-- a sparse array has no box in its writes
sparse_follows : (frame : Frame) (attrs : List Attr) (named : List NamedBox) (cols : List ColIn) (cells : List Cell) → IsTrue (list_all is_spelled_col cols) → 1 ≤ length frame.domain → frame.dense ≡ false
    → laid_sparse frame.domain attrs named cols ≡ Ok cells → LaidFollows frame attrs cells
sparse_follows frame attrs [] cols cells spelled some sparse e = apart_follows frame attrs cols cells spelled some sparse e
sparse_follows frame attrs (b ∷ named) cols cells spelled some sparse e = cc

-- ---- the cells of a box

-- bounds that have a spelling are in order
pub named_spelled : (b : NamedBox) → is_spelled_box b ≡ true → IsNamedBox b
named_spelled b spelled =
    let one = and_parts (is_label b.name) _ spelled in
    let two = and_parts (is_bound b.low) _ one.1 in
    let three = and_parts (is_bound b.high) (int_le b.low b.high) two.1 in
    omega (arith, ints, three.1)

-- a box whose cells are not too many has at most 2^20, so that their number is the one that is counted
few_cells : (sub : SubBox) → over_most (counted_cells sub) ≡ None → (cells_of sub ≤ 2 ^ 20) × (counted_cells sub ≡ cells_of sub)
few_cells sub none =
    let most = most_of (counted_cells sub) none in
    (omega (arith, most), omega (arith, most))

-- cells of a box: there is one
some_filled : (cells : List Cell) → FillBox cells → 1 ≤ length cells
some_filled [] box =
    let corner = is_between-low box.sub.low box.sub.high box.valid in
    absurd (true≢false (sym corner ∙ sym (box.each box.sub.low)))
some_filled (cell ∷ cells) box = omega arith

-- the cells that a write lays over a box may be those of a write
over_follows : (frame : Frame) (attrs : List Attr) (w : WriteIn) (sub : SubBox) (cells : List Cell) → IsTrue (list_all is_spelled_col w.cols) → IsBox sub → length sub.low ≡ length frame.domain
    → laid_over frame.domain attrs w sub ≡ Ok cells → LaidFollows frame attrs cells
over_follows frame attrs w sub cells spelled valid wide e =
    let dims = frame.domain in
    let count = counted_cells sub in
    let first = both_ok (columns (attr_column w.cols count) attrs) _ cells e in
    let rows = first.0 in
    let right = columns_zip (IsAttrColumn count) (attr_column w.cols count) (attr_column_is w.cols count spelled) attrs rows first.1 in
    let filled = cells_at (coords_in_order w.layout sub) rows 0 in
    let kept = kept_unless filled cells _ first.2 in
    let one = neither (option_map refusal.SchemaClash (stray_bound dims w.sub)) _ kept.1 in
    let two = neither (option_map refusal.SchemaClash (stray [] attrs w.cols)) _ one.1 in
    let three = neither (bound_outside dims sub) (over_most count) two.1 in
    let none = none_before (λ o. refusal.Domain o.dim o.value) (first_bound_outside dims sub) three.0 in
    let size = few_cells sub three.1 in
    let long = box_length sub w.layout rows valid in
    let box = box_cells sub w.layout rows valid in
    subst (LaidFollows frame attrs) kept.0 (record {
      some_cell = some_filled filled box;
      few = omega (arith, size.0, long);
      apart = box_apart sub w.layout rows valid;
      fit = box_fit dims attrs sub w.layout rows valid none wide (λ place below. row_fits count place attrs rows (omega (arith, size.1, below)) right);
      boxed = λ dense. box;
    })

-- ---- what is laid

-- the cells that are laid may be those of a write
pub laid_follows : (frame : Frame) (attrs : List Attr) (w : WriteIn) (cells : List Cell) → IsTrue (is_spelled_write w) → IsFrame frame → laid frame attrs w ≡ Ok cells → LaidFollows frame attrs cells
laid_follows frame attrs w cells spelled is e = by frame.dense refl e
  where
    texts : IsTrue (list_all is_spelled_col w.cols) × IsTrue (list_all is_spelled_box w.sub)
    texts = and_parts (list_all is_spelled_col w.cols) (list_all is_spelled_box w.sub) spelled

    valid : IsBox (box_of w.sub frame.domain)
    valid = box_ordered w.sub frame.domain (All-IsDomain frame.domain is.domain) (all_tested IsNamedBox is_spelled_box named_spelled w.sub texts.1)

    by : (b : Bool) → frame.dense ≡ b → cond b (laid_dense frame.domain attrs w) (laid_sparse frame.domain attrs w.sub w.cols) ≡ Ok cells → LaidFollows frame attrs cells
    by true dense lays = over_follows frame attrs w (box_of w.sub frame.domain) cells texts.0 valid (length-map frame.domain (low_of w.sub)) lays
    by false sparse lays = sparse_follows frame attrs w.sub w.cols cells texts.0 (is.domain).some sparse lays
