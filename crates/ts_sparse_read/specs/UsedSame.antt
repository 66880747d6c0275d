-- What was told of sizes tells which objects are used, and so what of the tiles is read.
use Rattle.std.proofs.Common.{◌≡◌, ℕ, zero, suc, ◌≤◌, Bool, true, false, cond, List, [], ◌∷◌, ◌++◌, length, map, get_or, Option, refl, sym, ap, ◌∙◌, subst, arith, ◌⊎◌, inl, inr, length-append, append_assoc}
use Rattle.std.specs.Prelude.{filter, Contains, if◌then◌else◌, nat_le}
use Rattle.std.specs.List.{flat_map, list_all, All, AllByRecursion}
use Rattle.std.proofs.lemmas.Bool.{and_parts, both_ways}
use Rattle.std.proofs.lemmas.List.Elements.{All-head, All-tail, All-nil, All-cons, All-map, All-weaker, All-contains, All-filter, filter_passes}
use Rattle.ts_base.specs.declared.names.Part.{Part}
use Rattle.ts_base.specs.declared.names.Part.TheVariants as part
use Rattle.ts_base.specs.declared.values.ValType.{ValType}
use Rattle.ts_base.specs.declared.values.ValType.TheVariants.{I8, I16, I32, I64, U8, U16, U32, U64, Text, Blob}
use Rattle.ts_base.specs.declared.values.Val.{Val}
use Rattle.ts_base.specs.Values.{is_integer, width_of}
use Rattle.ts_domain.specs.declared.dims.Dim.{Dim}
use Rattle.ts_domain.specs.declared.boxes.SubBox.{SubBox}
use Rattle.ts_schema.specs.declared.attrs.Attr.{Attr}
use Rattle.ts_schema.specs.declared.frames.Frame.{Frame}
use Rattle.ts_schema.specs.Parts.{Sized}
use Rattle.ts_plain.specs.declared.stored.StoredHead.{StoredHead}
use Rattle.ts_plain.specs.declared.stored.StoredCell.{StoredCell}
use Rattle.ts_footer.specs.declared.columns.ColumnForm.{ColumnForm}
use Rattle.ts_footer.specs.declared.columns.ColumnForm.TheVariants.{Fixed, Var}
use Rattle.ts_footer.specs.declared.columns.ColumnSize.{ColumnSize}
use Rattle.ts_footer.specs.declared.footers.Footer.{Footer}
use Rattle.ts_footer.specs.Columns.{dim_form, value_forms, validity_forms, attr_forms, origin_forms, column_forms}
use Rattle.ts_sparse_read.specs.declared.opened.UsedColumn.{UsedColumn}
use Rattle.ts_sparse_read.specs.Faults.{Fault, and_then, Ranged}
use Rattle.std.specs.Prelude.{Result, Ok}
use Rattle.ts_sparse_read.specs.TileReads.{is_among, coords_of_tile, vals_if, vals_of_tile, origins_if, cells_from, rows_in, order_fault, unless, cells_of_tile}
use Rattle.ts_sparse_read.specs.Used.{dim_parts, value_parts, validity_parts, attr_parts, origin_parts, column_parts, no_size, columns_told, is_used, used_among}
use Rattle.ts_sparse_read.specs.Opens.{used_in, are_readable}
use Rattle.ts_sparse_read.specs.HeardOnce.{sized_of}
use Rattle.ts_sparse_read.specs.UsedOnce.{each_behind, Distinct, parts_once}

-- ---- what is told of parts

-- what holds of each part holds of what is told of it
pub told_parts : (P : Part → Type 0) (parts : List Part) (forms : List ColumnForm) (sizes : List ColumnSize) → AllByRecursion P parts → All (λ (c : UsedColumn). P c.part) (columns_told parts forms sizes)
told_parts P [] forms sizes all = All-nil (λ (c : UsedColumn). P c.part)
told_parts P (p ∷ parts) [] sizes all = All-nil (λ (c : UsedColumn). P c.part)
told_parts P (p ∷ parts) (f ∷ forms) [] all = All-cons (λ (c : UsedColumn). P c.part) (record { part = p; form = f; size = no_size }) (columns_told parts forms []) all.0 (told_parts P parts forms [] all.1)
told_parts P (p ∷ parts) (f ∷ forms) (s ∷ sizes) all = All-cons (λ (c : UsedColumn). P c.part) (record { part = p; form = f; size = s }) (columns_told parts forms sizes) all.0 (told_parts P parts forms sizes all.1)

-- and of each part, where each has a form
pub told_each : (P : Part → Type 0) (parts : List Part) (forms : List ColumnForm) (sizes : List ColumnSize) → length forms ≡ length parts → All (λ (c : UsedColumn). P c.part) (columns_told parts forms sizes) → AllByRecursion P parts
told_each P [] forms sizes many all = tt
told_each P (p ∷ parts) [] sizes many all = absurd (omega arith)
told_each P (p ∷ parts) (f ∷ forms) [] many all =
    let first : UsedColumn = record { part = p; form = f; size = no_size } in
    (All-head (λ (c : UsedColumn). P c.part) first (columns_told parts forms []) all, told_each P parts forms [] (omega arith) (All-tail (λ (c : UsedColumn). P c.part) first (columns_told parts forms []) all))
told_each P (p ∷ parts) (f ∷ forms) (s ∷ sizes) many all =
    let first : UsedColumn = record { part = p; form = f; size = s } in
    (All-head (λ (c : UsedColumn). P c.part) first (columns_told parts forms sizes) all, told_each P parts forms sizes (omega arith) (All-tail (λ (c : UsedColumn). P c.part) first (columns_told parts forms sizes) all))

-- of the same part the same size is told
abbrev SizedAs : UsedColumn → UsedColumn → Type 0
SizedAs column c = c.part ≡ column.part → c.size.length ≡ column.size.length

-- what a list has is its first item, or behind it
first_or : {X : Type 0} (x y : X) (xs : List X) → Contains (x ∷ xs) y → (x ≡ y) ⊎ Contains xs y
first_or x y xs (zero, within, same) = inl same
first_or x y xs (suc k, within, same) = inr (k, omega (arith, within), same)

-- one part more, which is none of the others
one_told : (column c : UsedColumn) (others : List UsedColumn) → All (λ (o : UsedColumn). c.part ≡ o.part → ⊥) others → (Contains others column → All (SizedAs column) others) → (c ≡ column) ⊎ Contains others column → All (SizedAs column) (c ∷ others)
one_told column c others far more (inl same) =
    All-cons (SizedAs column) c others (λ e. ap (λ (o : UsedColumn). o.size.length) same)
    (All-weaker (λ (o : UsedColumn). c.part ≡ o.part → ⊥) (SizedAs column) (λ o apart e. absurd (apart (ap (λ (z : UsedColumn). z.part) same ∙ sym e))) others far)
one_told column c others far more (inr there) =
    All-cons (SizedAs column) c others (λ e. absurd (All-contains (λ (o : UsedColumn). c.part ≡ o.part → ⊥) others column far there e)) (more there)

-- of each part one size is told
told_once : (column : UsedColumn) (parts : List Part) (forms : List ColumnForm) (sizes : List ColumnSize) → Distinct parts → Contains (columns_told parts forms sizes) column → All (SizedAs column) (columns_told parts forms sizes)
told_once column [] forms sizes once there = All-nil (SizedAs column)
told_once column (p ∷ parts) [] sizes once there = All-nil (SizedAs column)
told_once column (p ∷ parts) (f ∷ forms) [] once there =
    let first : UsedColumn = record { part = p; form = f; size = no_size } in
    one_told column first (columns_told parts forms []) (told_parts (λ q. p ≡ q → ⊥) parts forms [] once.0) (told_once column parts forms [] once.1) (first_or first column (columns_told parts forms []) there)
told_once column (p ∷ parts) (f ∷ forms) (s ∷ sizes) once there =
    let first : UsedColumn = record { part = p; form = f; size = s } in
    one_told column first (columns_told parts forms sizes) (told_parts (λ q. p ≡ q → ⊥) parts forms sizes once.0) (told_once column parts forms sizes once.1) (first_or first column (columns_told parts forms sizes) there)

-- the objects of a fragment with this metadata
abbrev pub told_in : Frame → List Attr → Footer → List UsedColumn
told_in frame attrs footer = columns_told (column_parts frame.domain attrs footer.head.consolidated) (column_forms frame.domain attrs footer.head.consolidated) footer.sizes

-- where the size of a used object is told, it is that of the object of the same part
pub used_sizes : (frame : Frame) (attrs : List Attr) (footer : Footer) (places : List ℕ) (column : UsedColumn) → Contains (told_in frame attrs footer) column
    → All (λ (s : Sized). s.part ≡ column.part → s.size ≡ column.size.length) (map sized_of (used_in frame attrs footer places))
unfolding used_in
used_sizes frame attrs footer places column there =
    let told = told_in frame attrs footer in
    let once = told_once column (column_parts frame.domain attrs footer.head.consolidated) (column_forms frame.domain attrs footer.head.consolidated) footer.sizes (parts_once frame.domain attrs footer.head.consolidated) there in
    All-map (λ (s : Sized). s.part ≡ column.part → s.size ≡ column.size.length) sized_of (used_among places told) (All-filter (λ (c : UsedColumn). is_used places c.part) (SizedAs column) told once)

-- ---- which objects are used

mapped_back : {X Y : Type 0} (P : Y → Type 0) (f : X → Y) (xs : List X) → All P (map f xs) → All (λ x. P (f x)) xs
mapped_back P f [] all = All-nil (λ x. P (f x))
mapped_back P f (x ∷ xs) all = All-cons (λ x. P (f x)) x xs (All-head P (f x) (map f xs) all) (mapped_back P f xs (All-tail P (f x) (map f xs) all))

filtered_back : {X : Type 0} (p : X → Bool) (P : X → Type 0) (xs : List X) → All P (filter p xs) → All (λ x. p x ≡ true → P x) xs
filtered_back p P [] all = All-nil (λ x. p x ≡ true → P x)
filtered_back p P (x ∷ xs) all = by (p x) refl all (filtered_back p P xs)
  where
    by : (b : Bool) → p x ≡ b → All P (cond b (x ∷ filter p xs) (filter p xs)) → (All P (filter p xs) → All (λ x. p x ≡ true → P x) xs) → All (λ x. p x ≡ true → P x) (x ∷ xs)
    by true e passed more = All-cons (λ x. p x ≡ true → P x) x xs (λ _. All-head P x (filter p xs) passed) (more (All-tail P x (filter p xs) passed))
    by false e passed more = All-cons (λ x. p x ≡ true → P x) x xs (λ is. absurd (both_ways (p x) e is)) (more passed)

-- tests that agree at each item keep the same items
filter_same : {X : Type 0} (p q : X → Bool) (xs : List X) → All (λ x. p x ≡ q x) xs → filter p xs ≡ filter q xs
filter_same p q [] all = refl
filter_same p q (x ∷ xs) all =
    ap (λ b. cond b (x ∷ filter p xs) (filter p xs)) (All-head (λ x. p x ≡ q x) x xs all)
    ∙ ap (λ ys. cond (q x) (x ∷ ys) ys) (filter_same p q xs (All-tail (λ x. p x ≡ q x) x xs all))

same_tests : (b c : Bool) → (b ≡ true → c ≡ true) → (c ≡ true → b ≡ true) → b ≡ c
same_tests true c there back = sym (there refl)
same_tests false true there back = back refl
same_tests false false there back = refl

-- what one fetch was told of, the other reads
used_there : (ps qs : List ℕ) (told : List UsedColumn) → map sized_of (used_among ps told) ≡ map sized_of (used_among qs told) → All (λ (c : UsedColumn). is_used ps c.part ≡ true → is_used qs c.part ≡ true) told
used_there ps qs told same =
    let Q : Sized → Type 0 = λ s. is_used qs s.part ≡ true in
    let passes : All (λ (c : UsedColumn). is_used qs c.part ≡ true) (used_among qs told) = filter_passes (λ (c : UsedColumn). is_used qs c.part) told in
    let on : All Q (map sized_of (used_among ps told)) = subst (All Q) (sym same) (All-map Q sized_of (used_among qs told) passes) in
    filtered_back (λ (c : UsedColumn). is_used ps c.part) (λ (c : UsedColumn). is_used qs c.part ≡ true) told (mapped_back Q sized_of (used_among ps told) on)

used_alike : (ps qs : List ℕ) (told : List UsedColumn) → map sized_of (used_among ps told) ≡ map sized_of (used_among qs told) → All (λ (c : UsedColumn). is_used ps c.part ≡ is_used qs c.part) told
used_alike ps qs told same =
    let there = used_there ps qs told same in
    let back = used_there qs ps told (sym same) in
    λ k d within. same_tests (is_used ps (get_or told k d).part) (is_used qs (get_or told k d).part) (there k d within) (back k d within)

-- ---- each part has a form

forms_more : {X Y : Type 0} (xs vs : List X) (ys ws : List Y) → length xs ≡ length ys → length vs ≡ length ws → length (xs ++ vs) ≡ length (ys ++ ws)
forms_more xs vs ys ws one two = omega (arith, one, two, length-append xs vs, length-append ys ws)

dims_many : (k : ℕ) (dims : List Dim) → length (map dim_form dims) ≡ length (dim_parts k dims)
dims_many k [] = refl
dims_many k (d ∷ dims) = ap suc (dims_many (suc k) dims)

values_many : (k : ℕ) (ty : ValType) (b : Bool) → length (if b then Fixed (width_of ty) ∷ [] else Fixed 8 ∷ (Var ∷ [])) ≡ length (value_parts b k)
values_many k ty true = refl
values_many k ty false = refl

validity_many : (k : ℕ) (b : Bool) → length (validity_forms b) ≡ length (validity_parts b k)
validity_many k true = refl
validity_many k false = refl

attrs_many : (k : ℕ) (attrs : List Attr) → length (flat_map attr_forms attrs) ≡ length (attr_parts k attrs)
attrs_many k [] = refl
attrs_many k (a ∷ attrs) =
    omega (
      arith,
      values_many k a.ty (is_integer a.ty),
      validity_many k a.nullable,
      attrs_many (suc k) attrs,
      length-append (value_forms a.ty ++ validity_forms a.nullable) (flat_map attr_forms attrs),
      length-append (value_forms a.ty) (validity_forms a.nullable),
      length-append (value_parts (is_integer a.ty) k) (validity_parts a.nullable k ++ attr_parts (suc k) attrs),
      length-append (validity_parts a.nullable k) (attr_parts (suc k) attrs),
    )

origin_many : (b : Bool) → length (origin_forms b) ≡ length (origin_parts b)
origin_many true = refl
origin_many false = refl

-- there are as many forms as parts
pub forms_many : (dims : List Dim) (attrs : List Attr) (consolidated : Bool) → length (column_forms dims attrs consolidated) ≡ length (column_parts dims attrs consolidated)
unfolding column_forms column_parts
forms_many dims attrs consolidated =
    forms_more (map dim_form dims) (flat_map attr_forms attrs ++ origin_forms consolidated) (dim_parts 0 dims) (attr_parts 0 attrs ++ origin_parts consolidated) (dims_many 0 dims)
    (forms_more (flat_map attr_forms attrs) (origin_forms consolidated) (attr_parts 0 attrs) (origin_parts consolidated) (attrs_many 0 attrs) (origin_many consolidated))

-- ---- what is read of tiles

module _ (ps qs : List ℕ) where
  -- the two fetches read the part, or neither does
  abbrev Alike : Part → Type 0
  Alike p = is_used ps p ≡ is_used qs p

  -- where they read the same parts of attributes, they read the same attributes
  first_alike : (b : Bool) (k : ℕ) (rest : List Part) → AllByRecursion Alike (value_parts b k ++ rest) → is_among ps k ≡ is_among qs k
  first_alike true k rest all = all.0
  first_alike false k rest all = all.0

  vals_same : (count : ℕ) (ranges : List Ranged) (k : ℕ) (attrs : List Attr) (others : List Part) → AllByRecursion Alike (attr_parts k attrs ++ others) → vals_of_tile ps count ranges k attrs ≡ vals_of_tile qs count ranges k attrs
  vals_same count ranges k [] others all = refl
  vals_same count ranges k (a ∷ attrs) others all =
      let spread : AllByRecursion Alike (value_parts (is_integer a.ty) k ++ ((validity_parts a.nullable k ++ attr_parts (suc k) attrs) ++ others)) =
      subst (AllByRecursion Alike) (append_assoc (value_parts (is_integer a.ty) k) (validity_parts a.nullable k ++ attr_parts (suc k) attrs) others) all in
      let first = first_alike (is_integer a.ty) k ((validity_parts a.nullable k ++ attr_parts (suc k) attrs) ++ others) spread in
      let behind = each_behind Alike (value_parts (is_integer a.ty) k) ((validity_parts a.nullable k ++ attr_parts (suc k) attrs) ++ others) spread in
      let last = each_behind Alike (validity_parts a.nullable k) (attr_parts (suc k) attrs ++ others)
      (subst (AllByRecursion Alike) (append_assoc (validity_parts a.nullable k) (attr_parts (suc k) attrs) others) behind) in
      let more = vals_same count ranges (suc k) attrs others last in
      ap (λ b. and_then (vals_if b count ranges k a) (λ vals. and_then (vals_of_tile ps count ranges (suc k) attrs) (λ columns. Ok (vals ∷ columns)))) first
      ∙ ap (λ (r : Result (List (List Val)) Fault). and_then (vals_if (is_among qs k) count ranges k a) (λ vals. and_then r (λ columns. Ok (vals ∷ columns)))) more

  -- then they read the same cells of a tile
  cells_same : (frame : Frame) (attrs : List Attr) (head : StoredHead) (before : Option StoredCell) (leaf : SubBox) (count : ℕ) (ranges : List Ranged)
      → AllByRecursion Alike (column_parts frame.domain attrs head.consolidated) → cells_of_tile frame attrs ps head before leaf count ranges ≡ cells_of_tile frame attrs qs head before leaf count ranges
  unfolding column_parts cells_of_tile
  cells_same frame attrs head before leaf count ranges all =
      let behind = each_behind Alike (dim_parts 0 frame.domain) (attr_parts 0 attrs ++ origin_parts head.consolidated) all in
      ap (λ (r : Result (List (List Val)) Fault).
      and_then (coords_of_tile leaf count ranges 0 frame.domain) (λ coords.
      and_then r (λ vals.
      and_then (origins_if head.consolidated (length head.origins) count ranges) (λ origins.
      unless (cells_from (rows_in count coords) origins (rows_in count vals)) (order_fault frame head.consolidated ranges 0 before (cells_from (rows_in count coords) origins (rows_in count vals)))))))
      (vals_same count ranges 0 attrs (origin_parts head.consolidated) behind)

-- two fetches that were told of the same sizes use the same objects, and read the same cells of a tile
pub record AreSame (frame : Frame) (attrs : List Attr) (footer : Footer) (ps qs : List ℕ) : Type 0 where
  pub used : used_in frame attrs footer ps ≡ used_in frame attrs footer qs
  pub cells : (before : Option StoredCell) (leaf : SubBox) (count : ℕ) (ranges : List Ranged) → cells_of_tile frame attrs ps footer.head before leaf count ranges ≡ cells_of_tile frame attrs qs footer.head before leaf count ranges

-- so it is where their lists of sizes are one
pub used_same : (frame : Frame) (attrs : List Attr) (footer : Footer) (ps qs : List ℕ) → map sized_of (used_in frame attrs footer ps) ≡ map sized_of (used_in frame attrs footer qs) → AreSame frame attrs footer ps qs
unfolding used_in
used_same frame attrs footer ps qs same =
    let told = told_in frame attrs footer in
    let alike = used_alike ps qs told same in
    let parts = column_parts frame.domain attrs footer.head.consolidated in
    let forms = column_forms frame.domain attrs footer.head.consolidated in
    let each = told_each (Alike ps qs) parts forms footer.sizes (forms_many frame.domain attrs footer.head.consolidated) alike in
    record {
      used = filter_same (λ (c : UsedColumn). is_used ps c.part) (λ (c : UsedColumn). is_used qs c.part) told alike;
      cells = λ before leaf count ranges. cells_same ps qs frame attrs footer.head before leaf count ranges each;
    }

-- ---- the first object

-- the first object that a fetch reads has the coordinates along the first dimension, in some bytes for each cell
pub record HasFirst (used : List UsedColumn) : Type 0 where
  pub width : ℕ
  pub wide : 1 ≤ width
  pub size : ColumnSize
  pub others : List UsedColumn
  pub is : used ≡ record { part = part.Dim 0; form = Fixed width; size = size } ∷ others

-- integers take a byte at least
some_width : (ty : ValType) → is_integer ty ≡ true → 1 ≤ width_of ty
some_width I8 e = omega arith
some_width I16 e = omega arith
some_width I32 e = omega arith
some_width I64 e = omega arith
some_width U8 e = omega arith
some_width U16 e = omega arith
some_width U32 e = omega arith
some_width U64 e = omega arith
some_width Text e = absurd (cc)
some_width Blob e = absurd (cc)

-- where all dimensions have integer types, the first has
first_integer : (d : Dim) (dims : List Dim) → are_readable (d ∷ dims) ≡ true → is_integer d.ty ≡ true
first_integer d dims e =
    let all = (and_parts (nat_le 1 (length (d ∷ dims))) (list_all (λ (d : Dim). is_integer d.ty) (d ∷ dims)) e).1 in
    (and_parts (is_integer d.ty) (list_all (λ (d : Dim). is_integer d.ty) dims) all).0

-- a fetch of an array whose dimensions have integer types has such a first object
pub first_used : (frame : Frame) (attrs : List Attr) (footer : Footer) (places : List ℕ) → are_readable frame.domain ≡ true → HasFirst (used_in frame attrs footer places)
unfolding used_in column_parts column_forms
first_used frame attrs footer places readable = by frame.domain readable footer.sizes
  where
    by : (dims : List Dim) → are_readable dims ≡ true → (sizes : List ColumnSize)
        → HasFirst (used_among places (columns_told (column_parts dims attrs footer.head.consolidated) (column_forms dims attrs footer.head.consolidated) sizes))
    by [] e sizes = absurd (cc)
    by (d ∷ dims) e [] = record { width = width_of d.ty; wide = some_width d.ty (first_integer d dims e); size = no_size; others = _; is = refl }
    by (d ∷ dims) e (s ∷ sizes) = record { width = width_of d.ty; wide = some_width d.ty (first_integer d dims e); size = s; others = _; is = refl }
