-- What the objects of the columns of slots tell of the slots.
use Rattle.std.proofs.Common.{◌≡◌, ℕ, suc, ◌^◌, ◌<◌, Bool, true, false, not, List, [], ◌∷◌, ◌++◌, length, map, get_or, drop, sum, refl, sym, ap, ◌∙◌, subst, ◌⊎◌, inl, inr}
use Rattle.std.specs.Prelude.{IsTrue}
use Rattle.std.specs.List.{flat_map, All}
use Rattle.std.proofs.lemmas.Bool.{true≢false}
use Rattle.std.proofs.lemmas.List.{length-map}
use Rattle.std.proofs.lemmas.List.Elements.{All-head, All-tail, All-weaker, All-map}
use Rattle.ts_base.specs.declared.values.Val.{Val}
use Rattle.ts_base.specs.declared.values.Val.TheVariants.{Null, Int, Bytes}
use Rattle.ts_base.specs.declared.values.ValType.{ValType}
use Rattle.ts_base.specs.declared.values.ValType.TheVariants.{Text, Blob}
use Rattle.ts_base.specs.declared.names.Part.TheVariants as part
use Rattle.ts_base.specs.Values.{is_integer}
use Rattle.ts_value.specs.Fits.{fits_of}
use Rattle.ts_wire.specs.Exact.{EachFits}
use Rattle.ts_wire.specs.Fields.{bool_bytes}
use Rattle.ts_wire.proofs.Numbers.{number_exact}
use Rattle.ts_schema.specs.declared.attrs.Attr.{Attr}
use Rattle.ts_plain.specs.declared.stored.StoredCell.{StoredCell}
use Rattle.ts_plain.specs.Plain.{FitsValue}
use Rattle.ts_column.specs.Tiles.{is_there}
use Rattle.ts_column.specs.Spelled.{text_of}
use Rattle.ts_table.specs.Texts.{joined}
use Rattle.ts_sparse.specs.Tilings.{starts_in}
use Rattle.ts_sparse.specs.Sparse.{Object, value_column, validity_objects}
use Rattle.ts_sparse.proofs.Apart.{split_same, lists_same}
use Rattle.ts_sparse.proofs.Rows.{at_front, Same}
use Rattle.ts_sparse.proofs.Shapes.{length-tile_starts}
use Rattle.ts_sparse.proofs.ColumnLaws.{Short, column_same, marks_same, bytes_same, inside_small, length-starts_in}
use Rattle.ts_sparse.proofs.OnePiece.{Alike, alike-append, alike_many, AllShort, short_parts, columns_long, validity_alike}
use Rattle.ts_dense.specs.Slots.{tiles_by, is_hole}
use Rattle.ts_dense.specs.Dense.{starts_object, bytes_object, fixed_objects, attr_objects}
use Rattle.ts_dense.proofs.TileLists.{length_tiles, all_tiles, shaped}
use Rattle.ts_dense.proofs.TileTexts.{texts_same}

-- ---- objects that are alike

module _ (counts : List ℕ) (cs es : List StoredCell) (long : length cs ≡ length es) where
  fixed_alike : (b : Bool) (k : ℕ) (a : Attr) → Alike (fixed_objects b counts k a.ty (value_column k cs)) (fixed_objects b counts k a.ty (value_column k es))
  fixed_alike true k a = (refl, (refl, tt))
  fixed_alike false k a =
      let xs = tiles_by counts (map text_of (value_column k cs)) in
      let ys = tiles_by counts (map text_of (value_column k es)) in
      (refl, (refl, (refl, (length-tile_starts 14 xs ∙ length_tiles counts (map text_of (value_column k cs)) ∙ sym (length_tiles counts (map text_of (value_column k es))) ∙ sym (length-tile_starts 14 ys), tt))))

  -- slots that are as many have objects that are alike
  pub attrs_alike : (k : ℕ) (attrs : List Attr) → Alike (attr_objects counts k attrs cs) (attr_objects counts k attrs es)
  attrs_alike k [] = tt
  attrs_alike k (a ∷ attrs) =
      alike-append (fixed_objects (is_integer a.ty) counts k a.ty (value_column k cs)) (fixed_objects (is_integer a.ty) counts k a.ty (value_column k es)) _ _ (fixed_alike (is_integer a.ty) k a)
      (alike-append (validity_objects a.nullable k (value_column k cs)) (validity_objects a.nullable k (value_column k es)) _ _ (validity_alike cs es long a.nullable k) (attrs_alike (suc k) attrs))

-- ---- what a slot has

-- a hole has no values, another slot has one for each of these attributes, from a place on
abbrev pub Held : ℕ → List Attr → StoredCell → Type 0
Held k attrs slot = ((is_hole slot ≡ true) × (slot.row ≡ [])) ⊎ ((is_hole slot ≡ false) × EachFits FitsValue attrs (drop k slot.row))

-- the attribute, with nulls allowed
abbrev loose : Attr → Attr
loose a = record a { nullable = true }

loose_bytes : (ty : ValType) (nullable : Bool) (bytes : List ℕ) → IsTrue (fits_of ty nullable (Bytes bytes)) → IsTrue (fits_of ty true (Bytes bytes))
loose_bytes Text nullable bytes fits = fits
loose_bytes Blob nullable bytes fits = fits
loose_bytes _ nullable bytes fits = absurd (true≢false (sym fits))

loose_value : (a : Attr) (v : Val) → FitsValue a v → FitsValue (loose a) v
loose_value a Null fits = (tt, refl)
loose_value a (Int z) fits = fits
loose_value a (Bytes bytes) fits = (fits.0, loose_bytes a.ty a.nullable bytes fits.1)

value_there : (a : Attr) (v : Val) → a.nullable ≡ false → FitsValue a v → is_there v ≡ true
value_there a Null never fits = absurd (true≢false (sym fits.1 ∙ never))
value_there a (Int z) never fits = refl
value_there a (Bytes bytes) never fits = refl

module _ (k : ℕ) (a : Attr) (attrs : List Attr) where
  in_row : (slot : StoredCell) → EachFits FitsValue (a ∷ attrs) (drop k slot.row) → FitsValue a (get_or slot.row k Null)
  in_row slot fits = (at_front FitsValue Null (λ (c : StoredCell). c.row) a attrs k slot.row fits).0

  value_in : (slot : StoredCell) → Held k (a ∷ attrs) slot → FitsValue (loose a) (get_or slot.row k Null)
  value_in slot (inl none) = subst (λ row. FitsValue (loose a) (get_or row k Null)) (sym none.1) (tt, refl)
  value_in slot (inr some) = loose_value a (get_or slot.row k Null) (in_row slot some.1)

  there_in : (slot : StoredCell) → a.nullable ≡ false → Held k (a ∷ attrs) slot → is_there (get_or slot.row k Null) ≡ not (is_hole slot)
  there_in slot never (inl none) = ap (λ row. is_there (get_or row k Null)) none.1 ∙ ap not (sym none.0)
  there_in slot never (inr some) = value_there a (get_or slot.row k Null) never (in_row slot some.1) ∙ ap not (sym some.0)

  next_in : (slot : StoredCell) → Held k (a ∷ attrs) slot → Held (suc k) attrs slot
  next_in slot (inl none) = inl none
  next_in slot (inr some) = inr (some.0, (at_front FitsValue Null (λ (c : StoredCell). c.row) a attrs k slot.row some.1).1.0)

  values_in : (slots : List StoredCell) → All (Held k (a ∷ attrs)) slots → All (FitsValue (loose a)) (value_column k slots)
  values_in slots held =
      All-map (FitsValue (loose a)) (λ (c : StoredCell). get_or c.row k Null) slots
      (All-weaker (Held k (a ∷ attrs)) (λ (c : StoredCell). FitsValue (loose a) (get_or c.row k Null)) (λ c h. value_in c h) slots held)

  -- where no value is null, the slots without a value are the holes
  marks_in : (slots : List StoredCell) → a.nullable ≡ false → All (Held k (a ∷ attrs)) slots → map is_there (value_column k slots) ≡ map not (map is_hole slots)
  marks_in [] never held = refl
  marks_in (c ∷ slots) never held =
      let one = there_in c never (All-head (Held k (a ∷ attrs)) c slots held) in
      let rest = marks_in slots never (All-tail (Held k (a ∷ attrs)) c slots held) in
      ap (λ b. b ∷ map is_there (value_column k slots)) one ∙ ap (λ bs. not (is_hole c) ∷ bs) rest

-- ---- one column

module _ (counts : List ℕ) (a : Attr) (k : ℕ) (vs ws : List Val) (all : length vs ≡ sum counts) (long : length vs ≡ length ws) (fv : All (FitsValue (loose a)) vs) (fw : All (FitsValue (loose a)) ws) where
  second_short : (o p : Object) → Short a (o ∷ (p ∷ [])) → length p.body < 2 ^ 64
  second_short o p short = All-head (λ o. length o.body < 2 ^ 64) p [] (All-tail (λ o. length o.body < 2 ^ 64) o (p ∷ []) short)

  abbrev first_body : List Object → List ℕ
  first_body [] = []
  first_body (o ∷ os) = o.body

  abbrev second_of : List Object → Object
  second_of [] = record { part = part.Meta; body = []; starts = [] }
  second_of (o ∷ []) = o
  second_of (o ∷ p ∷ os) = p

  -- the objects of a column, and which values are there, tell the values
  values_told : (b : Bool) → is_integer a.ty ≡ b → Short a (fixed_objects b counts k a.ty vs) → Short a (fixed_objects b counts k a.ty ws)
      → fixed_objects b counts k a.ty vs ≡ fixed_objects b counts k a.ty ws → map is_there vs ≡ map is_there ws → vs ≡ ws
  values_told true is sv sw fixed marks =
      column_same (loose a) 0 k true vs ws is long fv fw sv sw fixed (ap (λ bs. record { part = part.Validity k; body = flat_map bool_bytes bs; starts = [] } ∷ []) marks)
  values_told false is sv sw fixed marks =
      let xs = map text_of vs in
      let ys = map text_of ws in
      let whole : length xs ≡ sum counts = length-map vs text_of ∙ all in
      let same_long : length xs ≡ length ys = length-map vs text_of ∙ long ∙ sym (length-map ws text_of) in
      let others = ap second_of fixed in
      let few = second_short (starts_object counts k vs) (bytes_object counts k vs) sv in
      let many = second_short (starts_object counts k ws) (bytes_object counts k ws) sw in
      let inside = lists_same (number_exact 8) (starts_in (tiles_by counts xs)) (starts_in (tiles_by counts ys)) (length-starts_in a (tiles_by counts xs) (tiles_by counts ys) (shaped counts xs ys same_long))
      (inside_small a (tiles_by counts xs) (subst (λ zs. length (joined zs) < 256 ^ 8) (sym (all_tiles counts xs whole)) few))
      (inside_small a (tiles_by counts ys) (subst (λ zs. length (joined zs) < 256 ^ 8) (sym (all_tiles counts ys (sym same_long ∙ whole))) many)) (ap first_body fixed) in
      bytes_same (loose a) vs ws is fv fw (texts_same counts xs ys whole same_long inside (ap (λ o. o.starts) others) (ap (λ o. o.body) others)) marks

-- ---- all columns

module _ (counts : List ℕ) (cs es : List StoredCell) (all : length cs ≡ sum counts) (long : length cs ≡ length es) (holes : map is_hole cs ≡ map is_hole es) where
  marks_told : (t : Bool) (k : ℕ) (a : Attr) (attrs : List Attr) → a.nullable ≡ t → All (Held k (a ∷ attrs)) cs → All (Held k (a ∷ attrs)) es
      → validity_objects t k (value_column k cs) ≡ validity_objects t k (value_column k es) → map is_there (value_column k cs) ≡ map is_there (value_column k es)
  marks_told true k a attrs may hc he same = marks_same (loose a) true k (value_column k cs) (value_column k es) refl (columns_long cs es long k) (values_in k a attrs cs hc) (values_in k a attrs es he) same
  marks_told false k a attrs never hc he same = marks_in k a attrs cs never hc ∙ ap (map not) holes ∙ sym (marks_in k a attrs es never he)

  -- the objects of all attributes tell each column
  pub attrs_told : (k : ℕ) (attrs : List Attr) → All (Held k attrs) cs → All (Held k attrs) es → AllShort (attr_objects counts k attrs cs) → AllShort (attr_objects counts k attrs es)
      → attr_objects counts k attrs cs ≡ attr_objects counts k attrs es → Same FitsValue Null (λ c. c.row) k attrs cs es
  attrs_told k [] hc he sc se same = tt
  attrs_told k (a ∷ attrs) hc he sc se same =
      let b = is_integer a.ty in
      let one = fixed_objects b counts k a.ty (value_column k cs) in
      let two = fixed_objects b counts k a.ty (value_column k es) in
      let vone = validity_objects a.nullable k (value_column k cs) in
      let vtwo = validity_objects a.nullable k (value_column k es) in
      let after = attr_objects counts (suc k) attrs cs in
      let behind = attr_objects counts (suc k) attrs es in
      let first = split_same one two (vone ++ after) (vtwo ++ behind) (alike_many one two (fixed_alike counts cs es long b k a)) same in
      let second = split_same vone vtwo after behind (alike_many vone vtwo (validity_alike cs es long a.nullable k)) first.1 in
      let s1 = short_parts one (vone ++ after) sc in
      let s2 = short_parts two (vtwo ++ behind) se in
      let column = values_told counts a k (value_column k cs) (value_column k es) (length-map cs (λ c. _) ∙ all) (columns_long cs es long k) (values_in k a attrs cs hc) (values_in k a attrs es he) b refl s1.0 s2.0 first.0
      (marks_told a.nullable k a attrs refl hc he second.0) in
      let lower : (slots : List StoredCell) → All (Held k (a ∷ attrs)) slots → All (Held (suc k) attrs) slots = λ slots held. All-weaker (Held k (a ∷ attrs)) (Held (suc k) attrs) (λ c h. next_in k a attrs c h) slots held in
      (column, attrs_told (suc k) attrs (lower cs hc) (lower es he) (short_parts vone after s1.1).1 (short_parts vtwo behind s2.1).1 second.1)
