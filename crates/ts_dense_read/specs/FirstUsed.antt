-- The first object that a fetch of a dense fragment reads has so many bytes for each cell; where it reads none, the slots have no values and nothing is broken.
use Rattle.std.proofs.Common.{◌≡◌, ℕ, suc, ◌*◌, ◌≤◌, Bool, true, false, if◌then◌else◌, List, [], ◌∷◌, ◌++◌, length, drop, replicate, Result, Ok, refl, sym, ap, ◌∙◌, subst, arith, ◌⊎◌, inl, inr, ◌+◌, ◌<◌, nat_eq}
use Rattle.std.specs.List.{flat_map, All}
use Rattle.std.proofs.Math.ListN.{length-replicate}
use Rattle.std.proofs.lemmas.Bool.{cases_lt, cond-true, cond-false, eq-eqb, or_left, or_right, true≢false}
use Rattle.std.proofs.lemmas.List.Elements.{All-cons, All-nil, All-replicate}
use Rattle.ts_base.specs.declared.names.Part.{Part}
use Rattle.ts_base.specs.declared.names.Part.TheVariants as part
use Rattle.ts_base.specs.declared.values.ValType.{ValType}
use Rattle.ts_base.specs.declared.values.Val.{Val}
use Rattle.ts_base.specs.declared.values.Val.TheVariants.{Null}
use Rattle.ts_base.specs.Values.{is_integer, width_of}
use Rattle.ts_domain.specs.declared.boxes.SubBox.{SubBox}
use Rattle.ts_order.specs.Orders.{coords_in_order}
use Rattle.ts_wire.specs.Place.{each_at}
use Rattle.ts_wire.specs.Exact.{EachFits}
use Rattle.ts_wire.specs.Numbers.{number_at}
use Rattle.ts_schema.specs.declared.attrs.Attr.{Attr}
use Rattle.ts_schema.specs.declared.frames.Frame.{Frame}
use Rattle.ts_plain.specs.declared.stored.StoredHead.{StoredHead}
use Rattle.ts_plain.specs.declared.stored.StoredCell.{StoredCell}
use Rattle.ts_footer.specs.declared.columns.ColumnForm.{ColumnForm}
use Rattle.ts_footer.specs.declared.columns.ColumnForm.TheVariants.{Fixed, Var}
use Rattle.ts_footer.specs.declared.columns.ColumnSize.{ColumnSize}
use Rattle.ts_footer.specs.declared.footers.Footer.{Footer}
use Rattle.ts_footer.specs.Columns.{validity_forms, attr_forms, origin_forms, column_forms}
use Rattle.ts_column.proofs.TileLaws.{widths}
use Rattle.ts_sparse_read.specs.declared.opened.UsedColumn.{UsedColumn}
use Rattle.ts_sparse_read.specs.declared.opened.WantedTile.{WantedTile}
use Rattle.ts_sparse_read.specs.Faults.{Fault, and_then, Ranged, bytes_of}
use Rattle.ts_sparse_read.specs.Judges.{ranged}
use Rattle.ts_sparse_read.specs.TileReads.{rows_in, cells_from, is_among, tile_in, vals_if, vals_of_tile}
use Rattle.ts_sparse_read.specs.Used.{value_parts, validity_parts, attr_parts, origin_parts, column_parts, no_size, columns_told, is_used, used_among}
use Rattle.ts_sparse_read.specs.ReadRows.{IsColumn, AreColumns, rows_fit}
use Rattle.ts_sparse_read.specs.ReadColumns.{then_ok, part_ok, tile_ok}
use Rattle.ts_dense_read.specs.SlotReads.{may_be_slot, slot_origin_at, slot_origins_in, slot_origins_if, slots_of_tile}
use Rattle.ts_dense_read.specs.SpaceOpens.{space_used}
use Rattle.ts_dense_read.specs.SpaceJudges.{slots_of_tiles}
use Rattle.ts_dense_read.specs.LongReads.{fixed_width, long_number, long_ruled, long_each, long_whole, tile_long}

-- ---- where no attribute is read

-- none of the attributes from the k-th on is read
abbrev pub NoneRead : List ℕ → ℕ → List Attr → Type 0
NoneRead places k [] = Unit {0}
NoneRead places k (a ∷ attrs) = (is_among places k ≡ false) × NoneRead places (suc k) attrs

-- a column of nulls for each attribute
abbrev pub null_columns : ℕ → List Attr → List (List Val)
null_columns count [] = []
null_columns count (a ∷ attrs) = replicate count Null ∷ null_columns count attrs

-- none of them is among the places
none_at : (places : List ℕ) (k : ℕ) (attrs : List Attr) (j : ℕ) → NoneRead places k attrs → k ≤ j → j < k + length attrs → is_among places j ≡ false
none_at places k [] j none above below = absurd (omega (arith, above, below))
none_at places k (a ∷ attrs) j none above below = by (cases_lt k j) (λ behind. none_at places (suc k) attrs j none.1 (omega (arith, behind)) (omega (arith, below)))
  where
    by : (k < j) ⊎ (j ≤ k) → (k < j → is_among places j ≡ false) → is_among places j ≡ false
    by (inl behind) later = later behind
    by (inr here) later = let same : j ≡ k = omega (arith, above, here) in subst (λ n. is_among places n ≡ false) (sym same) none.0

-- so each place is behind the attributes
pub none_named : (attrs : List Attr) (all places : List ℕ) → NoneRead all 0 attrs → ((q : ℕ) → is_among places q ≡ true → is_among all q ≡ true) → All (λ (k : ℕ). length attrs ≤ k) places
none_named attrs all [] none among = All-nil (λ (k : ℕ). length attrs ≤ k)
none_named attrs all (q ∷ places) none among =
    All-cons (λ (k : ℕ). length attrs ≤ k) q places (by (cases_lt q (length attrs))) (none_named attrs all places none (λ p is. among p (or_right (nat_eq q p) (is_among places p) is)))
  where
    by : (q < length attrs) ⊎ (length attrs ≤ q) → length attrs ≤ q
    by (inl within) = absurd (true≢false (sym (among q (or_left (nat_eq q q) (is_among places q) (eq-eqb q q refl))) ∙ none_at all 0 attrs q none (omega arith) (omega (arith, within))))
    by (inr past) = past

-- so many cells have nulls alone, where none of their attributes is read
none_vals : (places : List ℕ) (count : ℕ) (ranges : List Ranged) (k : ℕ) (attrs : List Attr) → NoneRead places k attrs → vals_of_tile places count ranges k attrs ≡ Ok (null_columns count attrs)
none_vals places count ranges k [] none = refl
none_vals places count ranges k (a ∷ attrs) none =
    ap (λ b. and_then (vals_if b count ranges k a) (λ vals. and_then (vals_of_tile places count ranges (suc k) attrs) (λ columns. Ok (vals ∷ columns)))) none.0
    ∙ ap (λ (r : Result (List (List Val)) Fault). and_then r (λ columns. Ok (replicate count Null ∷ columns))) (none_vals places count ranges (suc k) attrs none.1)

-- a value that is null
abbrev pub IsNull : Attr → Val → Type 0
IsNull a v = v ≡ Null

-- they are columns of so many nulls
null_are : (count : ℕ) (attrs : List Attr) → AreColumns IsNull count attrs (null_columns count attrs)
null_are count [] = tt
null_are count (a ∷ attrs) = (record { many = length-replicate count Null; fits = All-replicate (λ v. v ≡ Null) count Null refl }, null_are count attrs)

-- they are so many rows of nulls
pub null_rows : (count : ℕ) (attrs : List Attr) → IsColumn (EachFits IsNull attrs) count (rows_in count (null_columns count attrs))
null_rows count attrs = rows_fit IsNull count attrs (null_columns count attrs) (null_are count attrs)

-- the slots of a tile of an ordinary fragment of which no attribute is read
abbrev pub null_slots : Frame → List Attr → SubBox → ℕ → List StoredCell
null_slots frame attrs leaf count = cells_from (coords_in_order frame.cell leaf) (replicate count 0) (rows_in count (null_columns count attrs))

-- so are the slots that are read of a tile
none_slots : (frame : Frame) (attrs : List Attr) (places : List ℕ) (head : StoredHead) (leaf : SubBox) (count : ℕ) (ranges : List Ranged) → NoneRead places 0 attrs → head.consolidated ≡ false
    → slots_of_tile frame attrs places head leaf count ranges ≡ Ok (null_slots frame attrs leaf count)
unfolding slots_of_tile
none_slots frame attrs places head leaf count ranges none ordinary =
    ap (λ (r : Result (List (List Val)) Fault).
    and_then r (λ vals.
    and_then (slot_origins_if head.consolidated (length head.origins) places attrs count (rows_in count vals) ranges) (λ origins.
    Ok (cells_from (coords_in_order frame.cell leaf) origins (rows_in count vals)))))
    (none_vals places count ranges 0 attrs none)
    ∙ ap (λ b.
    and_then (slot_origins_if b (length head.origins) places attrs count (rows_in count (null_columns count attrs)) ranges) (λ origins.
    Ok (cells_from (coords_in_order frame.cell leaf) origins (rows_in count (null_columns count attrs)))))
    ordinary

-- whatever was got of its tiles, nothing is broken
pub none_tiles : (frame : Frame) (attrs : List Attr) (places : List ℕ) (head : StoredHead) (tiles : List WantedTile) (got : List (List ℕ)) → NoneRead places 0 attrs → head.consolidated ≡ false
    → slots_of_tiles frame attrs places head tiles got ≡ Ok (flat_map (λ (t : WantedTile). null_slots frame attrs t.leaf t.cells) tiles)
none_tiles frame attrs places head [] got none ordinary = refl
none_tiles frame attrs places head (t ∷ tiles) got none ordinary =
    ap (λ (r : Result (List StoredCell) Fault). and_then r (λ slots. and_then (slots_of_tiles frame attrs places head tiles (drop (length t.spans) got)) (λ others. Ok (slots ++ others))))
    (none_slots frame attrs places head t.leaf t.cells (ranged t.spans got) none ordinary)
    ∙ ap (λ (r : Result (List StoredCell) Fault). and_then r (λ others. Ok (null_slots frame attrs t.leaf t.cells ++ others))) (none_tiles frame attrs places head tiles (drop (length t.spans) got) none ordinary)

-- ---- the first object

-- the first of these objects is that of this part, in so many bytes for each cell
pub record IsFirst (p : Part) (width : ℕ) (used : List UsedColumn) : Type 0 where
  pub size : ColumnSize
  pub others : List UsedColumn
  pub is : used ≡ record { part = p; form = Fixed width; size = size } ∷ others

module _ (places : List ℕ) (p : Part) (width : ℕ) where
  -- of these parts the first that is read is this one, whatever sizes are told
  abbrev pub FirstOf : List Part → List ColumnForm → Type 0
  FirstOf parts forms = (sizes : List ColumnSize) → IsFirst p width (used_among places (columns_told parts forms sizes))

  -- a part that is read, in front
  first_here : (parts : List Part) (forms : List ColumnForm) → is_used places p ≡ true → FirstOf (p ∷ parts) (Fixed width ∷ forms)
  first_here parts forms used [] =
      let rest = used_among places (columns_told parts forms []) in
      record { size = no_size; others = rest; is = cond-true (is_used places p) (record { part = p; form = Fixed width; size = no_size } ∷ rest) rest used }
  first_here parts forms used (s ∷ sizes) =
      let rest = used_among places (columns_told parts forms sizes) in
      record { size = s; others = rest; is = cond-true (is_used places p) (record { part = p; form = Fixed width; size = s } ∷ rest) rest used }

  -- one that is not read, in front
  first_behind : (q : Part) (form : ColumnForm) (parts : List Part) (forms : List ColumnForm) → is_used places q ≡ false → FirstOf parts forms → FirstOf (q ∷ parts) (form ∷ forms)
  first_behind q form parts forms unused first [] =
      let rest = used_among places (columns_told parts forms []) in
      let f = first [] in
      record { size = f.size; others = f.others; is = cond-false (is_used places q) (record { part = q; form = form; size = no_size } ∷ rest) rest unused ∙ f.is }
  first_behind q form parts forms unused first (s ∷ sizes) =
      let rest = used_among places (columns_told parts forms sizes) in
      let f = first sizes in
      record { size = f.size; others = f.others; is = cond-false (is_used places q) (record { part = q; form = form; size = s } ∷ rest) rest unused ∙ f.is }

  -- the parts of an attribute that is not read, in front
  first_past : (b n : Bool) (w k : ℕ) (inner parts : List Part) (own forms : List ColumnForm) → is_among places k ≡ false → FirstOf (inner ++ parts) (own ++ forms)
      → FirstOf ((value_parts b k ++ (validity_parts n k ++ inner)) ++ parts) ((((if b then Fixed w ∷ [] else Fixed 8 ∷ (Var ∷ [])) ++ validity_forms n) ++ own) ++ forms)
  first_past true true w k inner parts own forms unused first =
      first_behind (part.Attr k) (Fixed w) (part.Validity k ∷ (inner ++ parts)) (Fixed 1 ∷ (own ++ forms)) unused (first_behind (part.Validity k) (Fixed 1) (inner ++ parts) (own ++ forms) unused first)
  first_past true false w k inner parts own forms unused first = first_behind (part.Attr k) (Fixed w) (inner ++ parts) (own ++ forms) unused first
  first_past false true w k inner parts own forms unused first =
      first_behind (part.Attr k) (Fixed 8) (part.Var k ∷ (part.Validity k ∷ (inner ++ parts))) (Var ∷ (Fixed 1 ∷ (own ++ forms))) unused
      (first_behind (part.Var k) Var (part.Validity k ∷ (inner ++ parts)) (Fixed 1 ∷ (own ++ forms)) unused (first_behind (part.Validity k) (Fixed 1) (inner ++ parts) (own ++ forms) unused first))
  first_past false false w k inner parts own forms unused first =
      first_behind (part.Attr k) (Fixed 8) (part.Var k ∷ (inner ++ parts)) (Var ∷ (own ++ forms)) unused (first_behind (part.Var k) Var (inner ++ parts) (own ++ forms) unused first)

  -- the parts of attributes of which none is read, in front
  first_after : (k : ℕ) (attrs : List Attr) (parts : List Part) (forms : List ColumnForm) → NoneRead places k attrs → FirstOf parts forms → FirstOf (attr_parts k attrs ++ parts) (flat_map attr_forms attrs ++ forms)
  first_after k [] parts forms none first = first
  first_after k (a ∷ attrs) parts forms none first =
      first_past (is_integer a.ty) a.nullable (width_of a.ty) k (attr_parts (suc k) attrs) parts (flat_map attr_forms attrs) forms none.0 (first_after (suc k) attrs parts forms none.1 first)

-- the first part of an attribute that is read
first_attr : (places : List ℕ) (b n : Bool) (ty : ValType) (k : ℕ) (inner parts : List Part) (own forms : List ColumnForm) → is_among places k ≡ true
    → FirstOf places (part.Attr k) (fixed_width b ty) ((value_parts b k ++ (validity_parts n k ++ inner)) ++ parts) ((((if b then Fixed (width_of ty) ∷ [] else Fixed 8 ∷ (Var ∷ [])) ++ validity_forms n) ++ own) ++ forms)
first_attr places true n ty k inner parts own forms used = first_here places (part.Attr k) (width_of ty) ((validity_parts n k ++ inner) ++ parts) ((validity_forms n ++ own) ++ forms) used
first_attr places false n ty k inner parts own forms used = first_here places (part.Attr k) 8 (part.Var k ∷ ((validity_parts n k ++ inner) ++ parts)) (Var ∷ ((validity_forms n ++ own) ++ forms)) used

-- each value takes a byte at least
fixed_wide : (b : Bool) (ty : ValType) → is_integer ty ≡ b → 1 ≤ fixed_width b ty
fixed_wide true ty is = (widths ty is).0
fixed_wide false ty is = omega arith

-- some of the attributes from the k-th on is read: the first that is has so many bytes for each cell
pub record SomeRead (places : List ℕ) (k : ℕ) (attrs : List Attr) : Type 0 where
  pub first : Part
  pub width : ℕ
  pub wide : 1 ≤ width
  pub is_first : (parts : List Part) (forms : List ColumnForm) → FirstOf places first width (attr_parts k attrs ++ parts) (flat_map attr_forms attrs ++ forms)
  pub long : (count : ℕ) (ranges : List Ranged) (vals : List (List Val)) → vals_of_tile places count ranges k attrs ≡ Ok vals → length (bytes_of ranges first) ≡ width * count

-- the steps of reading attributes behind one
abbrev vals_behind : List ℕ → ℕ → List Ranged → ℕ → List Attr → List Val → Result (List (List Val)) Fault
vals_behind places count ranges k attrs vals = and_then (vals_of_tile places count ranges (suc k) attrs) (λ columns. Ok (vals ∷ columns))

-- none of the attributes is read, or some is
none_or_some : (places : List ℕ) (k : ℕ) (attrs : List Attr) → NoneRead places k attrs ⊎ SomeRead places k attrs
none_or_some places k [] = inl tt
none_or_some places k (a ∷ attrs) = by (is_among places k) refl (none_or_some places (suc k) attrs)
  where
    here_long : is_among places k ≡ true → (count : ℕ) (ranges : List Ranged) (vals : List (List Val)) → vals_of_tile places count ranges k (a ∷ attrs) ≡ Ok vals → length (bytes_of ranges (part.Attr k)) ≡ fixed_width (is_integer a.ty) a.ty * count
    here_long used count ranges vals h =
        let b = then_ok (vals_if (is_among places k) count ranges k a) (vals_behind places count ranges k attrs) vals h in
        let read : vals_if true count ranges k a ≡ Ok b.0 = sym (ap (λ t. vals_if t count ranges k a) used) ∙ b.1 in
        tile_long a.ty a.nullable count (tile_in ranges k) b.0 (tile_ok ranges k _ b.0 read)

    behind_long : (some : SomeRead places (suc k) attrs) (count : ℕ) (ranges : List Ranged) (vals : List (List Val)) → vals_of_tile places count ranges k (a ∷ attrs) ≡ Ok vals → length (bytes_of ranges some.first) ≡ some.width * count
    behind_long some count ranges vals h =
        let b = then_ok (vals_if (is_among places k) count ranges k a) (vals_behind places count ranges k attrs) vals h in
        let c = then_ok (vals_of_tile places count ranges (suc k) attrs) (λ columns. Ok (b.0 ∷ columns)) vals b.2 in
        some.long count ranges c.0 c.1

    by : (b : Bool) → is_among places k ≡ b → NoneRead places (suc k) attrs ⊎ SomeRead places (suc k) attrs → NoneRead places k (a ∷ attrs) ⊎ SomeRead places k (a ∷ attrs)
    by true used rest = inr (record {
      first = part.Attr k;
      width = fixed_width (is_integer a.ty) a.ty;
      wide = fixed_wide (is_integer a.ty) a.ty refl;
      is_first = λ parts forms. first_attr places (is_integer a.ty) a.nullable a.ty k (attr_parts (suc k) attrs) parts (flat_map attr_forms attrs) forms used;
      long = here_long used;
    })
    by false unused (inl none) = inl (unused, none)
    by false unused (inr some) = inr (record {
      first = some.first;
      width = some.width;
      wide = some.wide;
      is_first = λ parts forms.
          first_past places some.first some.width (is_integer a.ty) a.nullable (width_of a.ty) k (attr_parts (suc k) attrs) parts (flat_map attr_forms attrs) forms unused (some.is_first parts forms);
      long = behind_long some;
    })

-- ---- of a whole fragment

-- the first object that a fetch reads has so many bytes for each cell, and what was read of a tile is as long
pub record HasFirst (attrs : List Attr) (footer : Footer) (places : List ℕ) : Type 0 where
  pub first : Part
  pub width : ℕ
  pub wide : 1 ≤ width
  pub is_first : IsFirst first width (space_used attrs footer places)
  pub long : (frame : Frame) (leaf : SubBox) (count : ℕ) (ranges : List Ranged) (slots : List StoredCell) → slots_of_tile frame attrs places footer.head leaf count ranges ≡ Ok slots
      → length (bytes_of ranges first) ≡ width * count

-- it reads no attribute, of an ordinary fragment
pub record ReadsNone (attrs : List Attr) (footer : Footer) (places : List ℕ) : Type 0 where
  pub none : NoneRead places 0 attrs
  pub ordinary : footer.head.consolidated ≡ false

-- an answer holds one value
one_answer : {A : Type 0} (x y : A) → ◌≡◌ {A = Result A Fault} (Ok x) (Ok y) → x ≡ y
one_answer x y e = cc

module _ (frame : Frame) (attrs : List Attr) (places : List ℕ) (head : StoredHead) (leaf : SubBox) (count : ℕ) (ranges : List Ranged) (slots : List StoredCell) where
  -- the slots with these values, whose origins are read
  abbrev slots_with : List (List Val) → Result (List StoredCell) Fault
  slots_with vals =
      and_then (slot_origins_if head.consolidated (length head.origins) places attrs count (rows_in count vals) ranges) (λ origins. Ok (cells_from (coords_in_order frame.cell leaf) origins (rows_in count vals)))

  -- where the slots were read, so were their values
  vals_read : slots_of_tile frame attrs places head leaf count ranges ≡ Ok slots → (vals : List (List Val)) × (vals_of_tile places count ranges 0 attrs ≡ Ok vals) × (slots_with vals ≡ Ok slots)
  unfolding slots_of_tile
  vals_read h = then_ok (vals_of_tile places count ranges 0 attrs) slots_with slots h

  -- where no attribute is read, the origins of a consolidated fragment take four bytes each
  origins_long : head.consolidated ≡ true → NoneRead places 0 attrs → slots_of_tile frame attrs places head leaf count ranges ≡ Ok slots → length (bytes_of ranges part.Origin) ≡ 4 * count
  unfolding slot_origins_in slot_origin_at
  origins_long consolidated none h =
      let v = vals_read h in
      let same : v.0 ≡ null_columns count attrs = one_answer v.0 (null_columns count attrs) (sym v.1 ∙ none_vals places count ranges 0 attrs none) in
      let rows = rows_in count v.0 in
      let many : length rows ≡ count = ap (λ vals. length (rows_in count vals)) same ∙ (null_rows count attrs).many in
      let o = then_ok (slot_origins_if head.consolidated (length head.origins) places attrs count rows ranges) (λ origins. Ok (cells_from (coords_in_order frame.cell leaf) origins rows)) slots v.2 in
      let read : slot_origins_if true (length head.origins) places attrs count rows ranges ≡ Ok o.0 = sym (ap (λ b. slot_origins_if b (length head.origins) places attrs count rows ranges) consolidated) ∙ o.1 in
      let bytes = bytes_of ranges part.Origin in
      let whole = part_ok ranges part.Origin (slot_origins_in (length head.origins) places attrs rows bytes) o.0 read in
      let one = slot_origin_at (length head.origins) places attrs in
      long_whole (4 * length rows) (each_at one rows) bytes 0 o.0 (long_each 4 one (λ row. long_ruled 4 (may_be_slot (length head.origins) places attrs row) (number_at 4) (long_number 4)) rows) whole
      ∙ ap (λ n. 4 * n) many

-- a fetch reads nothing of a tile, or has such a first object
pub none_or_first : (attrs : List Attr) (footer : Footer) (places : List ℕ) → ReadsNone attrs footer places ⊎ HasFirst attrs footer places
unfolding space_used column_parts column_forms
none_or_first attrs footer places = by (none_or_some places 0 attrs) footer.head.consolidated refl
  where
    by : NoneRead places 0 attrs ⊎ SomeRead places 0 attrs → (b : Bool) → footer.head.consolidated ≡ b → ReadsNone attrs footer places ⊎ HasFirst attrs footer places
    by (inr some) b is = inr (record {
      first = some.first;
      width = some.width;
      wide = some.wide;
      is_first = some.is_first (origin_parts footer.head.consolidated) (origin_forms footer.head.consolidated) footer.sizes;
      long = λ frame leaf count ranges slots h. let v = vals_read frame attrs places footer.head leaf count ranges slots h in some.long count ranges v.0 v.1;
    })
    by (inl none) false is = inl (record { none = none; ordinary = is })
    by (inl none) true is = inr (record {
      first = part.Origin;
      width = 4;
      wide = omega arith;
      is_first = subst (λ b. IsFirst part.Origin 4 (used_among places (columns_told (attr_parts 0 attrs ++ origin_parts b) (flat_map attr_forms attrs ++ origin_forms b) footer.sizes))) (sym is)
          (first_after places part.Origin 4 0 attrs (origin_parts true) (origin_forms true) none (first_here places part.Origin 4 [] [] refl) footer.sizes);
      long = λ frame leaf count ranges slots h. origins_long frame attrs places footer.head leaf count ranges slots is none h;
    })
