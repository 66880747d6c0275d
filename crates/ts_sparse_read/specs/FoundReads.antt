-- What is found of the parts of a tile is read as its columns.
use Rattle.std.specs.Prelude.{replicate, if◌then◌else◌, nat_eq}
use Rattle.std.proofs.Common.{◌≡◌, ℕ, zero, suc, ◌^◌, ◌<◌, ◌≤◌, ℤ, pos, Bool, true, false, cond, List, [], ◌∷◌, ◌++◌, length, map, get_or, drop, Ok, refl, sym, ap, ◌∙◌, subst, arith}
use Rattle.std.specs.List.{flat_map, All}
use Rattle.std.proofs.lemmas.Bool.{eqb-true, eq-eqb}
use Rattle.std.proofs.lemmas.Bool.Decides.{nat_tests}
use Rattle.std.proofs.lemmas.List.{length-map}
use Rattle.std.proofs.lemmas.List.Elements.{All-head, All-tail, All-nil, All-cons, All-weaker}
use Rattle.ts_base.specs.declared.names.Part.{Part}
use Rattle.ts_base.specs.declared.names.Part.TheVariants as part
use Rattle.ts_base.specs.declared.names.PartBytes.{PartBytes}
use Rattle.ts_base.specs.contracts.names.PartPartialEq.TheImpl as same
use Rattle.ts_base.specs.declared.values.Val.{Val}
use Rattle.ts_base.specs.declared.values.Val.TheVariants.{Null, Int, Bytes}
use Rattle.ts_base.specs.declared.values.ValType.{ValType}
use Rattle.ts_base.specs.Values.{is_integer, width_of}
use Rattle.ts_domain.specs.declared.dims.Dim.{Dim}
use Rattle.ts_schema.specs.declared.attrs.Attr.{Attr}
use Rattle.ts_value.specs.Fits.{Fits}
use Rattle.ts_value.proofs.FitLaws.{Fits-fits_of}
use Rattle.ts_wire.specs.Exact.{IsBytes, EachFits}
use Rattle.ts_wire.specs.Numbers.{number_bytes, int_bytes, FitsInt}
use Rattle.ts_wire.specs.Fields.{FitsVal}
use Rattle.ts_plain.specs.Plain.{FitsValue}
use Rattle.ts_plain.specs.Rules.{may_count}
use Rattle.ts_plain.specs.declared.stored.StoredCell.{StoredCell}
use Rattle.ts_table.specs.Texts.{joined}
use Rattle.ts_column.specs.Tiles.{is_signed, tile_vals}
use Rattle.ts_column.specs.Origins.{origins_in}
use Rattle.ts_column.specs.Spelled.{text_of, fixed_bytes, var_bytes, validity_bytes, tile_of}
use Rattle.ts_column.proofs.TileLaws.{tile_back}
use Rattle.ts_column.proofs.OriginLaws.{encoded_back}
use Rattle.ts_sparse.specs.Sparse.{coord_column, value_column, origin_column, leaf_of}
use Rattle.ts_sparse_read.specs.Faults.{Ranged, bytes_of, and_then, in_part, in_tile}
use Rattle.ts_sparse_read.specs.TileReads.{is_among, coords_of_tile, tile_in, vals_if, vals_of_tile, origins_if}
use Rattle.ts_sparse_read.specs.Used.{is_used}
use Rattle.ts_sparse_read.specs.FoundLeaves.{HasCoord, coords_found}
use Rattle.ts_sparse_read.specs.FoundParts.{dim_found, value_found, validity_found, attr_found, origin_found, bytes_at}
use Rattle.ts_sparse_read.specs.FoundRows.{columns_by, coord_functions, value_functions, each_there}

-- ---- parts that are others

-- none of these is the part
abbrev pub IsNone : Part → List PartBytes → Type 0
IsNone p [] = Unit {0}
IsNone p (x ∷ xs) = ((same.ghosts).eq x.part p ≡ false) × IsNone p xs

-- what is none of the part is passed over
pub passed : (p : Part) (xs ys : List PartBytes) → IsNone p xs → bytes_at (xs ++ ys) p ≡ bytes_at ys p
passed p [] ys none = refl
passed p (x ∷ xs) ys none = ap (λ b. cond b x.bytes (bytes_at (xs ++ ys) p)) none.0 ∙ passed p xs ys none.1

joined_none : (p : Part) (xs ys : List PartBytes) → IsNone p xs → IsNone p ys → IsNone p (xs ++ ys)
joined_none p [] ys a b = b
joined_none p (x ∷ xs) ys a b = (a.0, joined_none p xs ys a.1 b)

nothing_at : (p : Part) (xs : List PartBytes) → IsNone p xs → bytes_at xs p ≡ []
nothing_at p [] none = refl
nothing_at p (x ∷ xs) none = ap (λ b. cond b x.bytes (bytes_at xs p)) none.0 ∙ nothing_at p xs none.1

-- the part is not that of the dimension at a place
abbrev pub NoDim : Part → ℕ → Type 0
NoDim p k = (same.ghosts).eq (part.Dim k) p ≡ false

-- the part is none of the attribute at a place
pub record NoAttr (p : Part) (k : ℕ) : Type 0 where
  pub attr : (same.ghosts).eq (part.Attr k) p ≡ false
  pub var : (same.ghosts).eq (part.Var k) p ≡ false
  pub validity : (same.ghosts).eq (part.Validity k) p ≡ false

other : (j k : ℕ) → j < k → nat_eq j k ≡ false
other j k less = grind (arith, nat_tests)

another : (j k : ℕ) → k < j → nat_eq j k ≡ false
another j k less = grind (arith, nat_tests)

itself : (k : ℕ) → nat_eq k k ≡ true
itself k = eq-eqb k k refl

module _ (tile : List StoredCell) where
  -- a part of no dimension is not among theirs
  pub dims_none : (p : Part) (k : ℕ) (dims : List Dim) → ((j : ℕ) → NoDim p j) → IsNone p (dim_found k dims tile)
  dims_none p k [] apart = tt
  dims_none p k (d ∷ dims) apart = (apart k, dims_none p (suc k) dims apart)

  value_none : (p : Part) (b : Bool) (k : ℕ) (ty : ValType) (vals : List Val) → NoAttr p k → IsNone p (value_found b k ty vals)
  value_none p true k ty vals apart = (apart.attr, tt)
  value_none p false k ty vals apart = (apart.attr, (apart.var, tt))

  validity_none : (p : Part) (b : Bool) (k : ℕ) (vals : List Val) → NoAttr p k → IsNone p (validity_found b k vals)
  validity_none p true k vals apart = (apart.validity, tt)
  validity_none p false k vals apart = tt

  -- a part of no attribute is not among theirs
  pub attrs_none : (p : Part) (k : ℕ) (attrs : List Attr) → ((j : ℕ) → k ≤ j → NoAttr p j) → IsNone p (attr_found k attrs tile)
  attrs_none p k [] apart = tt
  attrs_none p k (a ∷ attrs) apart =
      let vals = value_column k tile in
      joined_none p (value_found (is_integer a.ty) k a.ty vals) (validity_found a.nullable k vals ++ attr_found (suc k) attrs tile) (value_none p (is_integer a.ty) k a.ty vals (apart k (omega arith)))
      (joined_none p (validity_found a.nullable k vals) (attr_found (suc k) attrs tile) (validity_none p a.nullable k vals (apart k (omega arith))) (attrs_none p (suc k) attrs (λ j h. apart j (omega arith))))

  origin_none : (p : Part) (b : Bool) → (same.ghosts).eq part.Origin p ≡ false → IsNone p (origin_found b tile)
  origin_none p true apart = (apart, tt)
  origin_none p false apart = tt

  attr_passed : (p : Part) (k : ℕ) (a : Attr) (attrs : List Attr) (more : List PartBytes) → NoAttr p k → bytes_at (attr_found k (a ∷ attrs) tile ++ more) p ≡ bytes_at (attr_found (suc k) attrs tile ++ more) p
  attr_passed p k a attrs more apart = by (is_integer a.ty) a.nullable
    where
      by : (b v : Bool) → bytes_at ((value_found b k a.ty (value_column k tile) ++ (validity_found v k (value_column k tile) ++ attr_found (suc k) attrs tile)) ++ more) p ≡ bytes_at (attr_found (suc k) attrs tile ++ more) p
      by true true = rw (apart.attr, apart.validity) refl
      by true false = rw apart.attr refl
      by false true = rw (apart.attr, apart.var, apart.validity) refl
      by false false = rw (apart.attr, apart.var) refl

-- ---- reading columns

module _ (places : List ℕ) (ranges : List Ranged) (tile : List StoredCell) (count : ℕ) (many : length tile ≡ count) where
  -- each part that is read, and is none of these, has what the list says
  abbrev pub AreFound : (Part → Type 0) → List PartBytes → Type 0
  AreFound Of found = (p : Part) → Of p → is_used places p ≡ true → bytes_of ranges p ≡ bytes_at found p

  -- ---- coordinates

  -- the part is of no dimension before the k-th
  abbrev pub FromDim : ℕ → Part → Type 0
  FromDim k p = (j : ℕ) → j < k → NoDim p j

  -- the coordinates fit their dimensions, the first of which is that of the k-th coordinate
  abbrev pub FitsFrom : ℕ → List Dim → StoredCell → Type 0
  FitsFrom k dims c = EachFits (λ (d : Dim) (x : ℤ). FitsInt (width_of d.ty) (is_signed d.ty) x) dims (drop k c.coords)

  coords_all : (k : ℕ) (d : Dim) (dims : List Dim) (cells : List StoredCell) → All (FitsFrom k (d ∷ dims)) cells
      → All (HasCoord k) cells × (All (FitsInt (width_of d.ty) (is_signed d.ty)) (coord_column k cells) × All (FitsFrom (suc k) dims) cells)
  coords_all k d dims [] fits = (All-nil (HasCoord k), (All-nil (FitsInt (width_of d.ty) (is_signed d.ty)), All-nil (FitsFrom (suc k) dims)))
  coords_all k d dims (c ∷ cells) fits =
      let here = each_there (λ (d : Dim) (x : ℤ). FitsInt (width_of d.ty) (is_signed d.ty) x) d dims k c.coords (pos 0) (All-head (FitsFrom k (d ∷ dims)) c cells fits) in
      let others = coords_all k d dims cells (All-tail (FitsFrom k (d ∷ dims)) c cells fits) in (
        All-cons (HasCoord k) c cells here.0 others.0,
        (All-cons (FitsInt (width_of d.ty) (is_signed d.ty)) (get_or c.coords k (pos 0)) (coord_column k cells) here.1 others.1.0, All-cons (FitsFrom (suc k) dims) c cells here.2 others.1.1),
      )

  -- the coordinates along the dimensions are read
  pub coords_read : (k : ℕ) (dims : List Dim) (more : List PartBytes) → 1 ≤ length tile → AreFound (FromDim k) (dim_found k dims tile ++ more) → All (λ (d : Dim). is_integer d.ty ≡ true) dims → All (FitsFrom k dims) tile
      → coords_of_tile (leaf_of tile) count ranges k dims ≡ Ok (columns_by (coord_functions k dims) tile)
  coords_read k [] more some found ints fits = refl
  coords_read k (d ∷ dims) more some found ints fits =
      let all = coords_all k d dims tile fits in
      let spelled : bytes_of ranges (part.Dim k) ≡ flat_map (int_bytes (width_of d.ty)) (coord_column k tile) =
      found (part.Dim k) (λ j less. other j k less) refl ∙ ap (λ b. cond b (flat_map (int_bytes (width_of d.ty)) (coord_column k tile)) (bytes_at (dim_found (suc k) dims tile ++ more) (part.Dim k))) (itself k) in
      let read = coords_found d.ty k count tile (bytes_of ranges (part.Dim k)) (All-head (λ (d : Dim). is_integer d.ty ≡ true) d dims ints) some many all.0 all.1.0 spelled in
      let next : AreFound (FromDim (suc k)) (dim_found (suc k) dims tile ++ more) = λ p from used.
      found p (λ j less. from j (omega arith)) used ∙ ap (λ b. cond b (flat_map (int_bytes (width_of d.ty)) (coord_column k tile)) (bytes_at (dim_found (suc k) dims tile ++ more) p)) (from k (omega arith)) in
      let others = coords_read (suc k) dims more some next (All-tail (λ (d : Dim). is_integer d.ty ≡ true) d dims ints) all.1.1 in
      ap (λ r. and_then (in_part ranges (part.Dim k) r) (λ xs. and_then (coords_of_tile (leaf_of tile) count ranges (suc k) dims) (λ columns. Ok (xs ∷ columns)))) read
      ∙ ap (λ r. and_then r (λ columns. Ok (coord_column k tile ∷ columns))) others

  -- ---- values

  -- the part is of no dimension, and of no attribute before the k-th
  abbrev pub FromAttr : ℕ → Part → Type 0
  FromAttr k p = ((j : ℕ) → NoDim p j) × ((j : ℕ) → j < k → NoAttr p j)

  -- the values fit their attributes, the first of which is that of the k-th value
  abbrev pub ValsFrom : ℕ → List Attr → StoredCell → Type 0
  ValsFrom k attrs c = EachFits FitsValue attrs (drop k c.row)

  vals_all : (k : ℕ) (a : Attr) (attrs : List Attr) (cells : List StoredCell) → All (ValsFrom k (a ∷ attrs)) cells → All (FitsValue a) (value_column k cells) × All (ValsFrom (suc k) attrs) cells
  vals_all k a attrs [] fits = (All-nil (FitsValue a), All-nil (ValsFrom (suc k) attrs))
  vals_all k a attrs (c ∷ cells) fits =
      let here = each_there FitsValue a attrs k c.row Null (All-head (ValsFrom k (a ∷ attrs)) c cells fits) in
      let others = vals_all k a attrs cells (All-tail (ValsFrom k (a ∷ attrs)) c cells fits) in
      (All-cons (FitsValue a) (get_or c.row k Null) (value_column k cells) here.1 others.0, All-cons (ValsFrom (suc k) attrs) c cells here.2 others.1)

  append_bytes : (a b : List ℕ) → IsBytes a → IsBytes b → IsBytes (a ++ b)
  append_bytes [] b one two = two
  append_bytes (x ∷ a) b one two = by (one 0) (append_bytes a b (λ j. one (suc j)) two)
    where
      by : x < 256 → IsBytes (a ++ b) → IsBytes (x ∷ (a ++ b))
      by first others zero = first
      by first others (suc i) = others i

  text_bytes : (v : Val) → FitsVal v → IsBytes (text_of v)
  text_bytes Null fits = λ i. omega arith
  text_bytes (Int z) fits = λ i. omega arith
  text_bytes (Bytes bytes) fits = fits.1

  texts_bytes : (a : Attr) (vals : List Val) → All (FitsValue a) vals → IsBytes (joined (map text_of vals))
  texts_bytes a [] fits = λ i. omega arith
  texts_bytes a (v ∷ vals) fits = append_bytes (text_of v) (joined (map text_of vals)) (text_bytes v (All-head (FitsValue a) v vals fits).0) (texts_bytes a vals (All-tail (FitsValue a) v vals fits))

  var_are_bytes : (b : Bool) (a : Attr) (vals : List Val) → All (FitsValue a) vals → IsBytes (var_bytes b vals)
  var_are_bytes true a vals fits = λ i. omega arith
  var_are_bytes false a vals fits = texts_bytes a vals fits

  nulls : (cells : List StoredCell) → replicate (length cells) Null ≡ map (λ c. Null) cells
  nulls [] = refl
  nulls (c ∷ cells) = ap (λ more. Null ∷ more) (nulls cells)

  -- the parts of an attribute
  module _ (k : ℕ) (a : Attr) (attrs : List Attr) (consolidated : Bool) where
    -- what is found of the attributes behind it, and of the origins
    abbrev behind : List PartBytes
    behind = attr_found (suc k) attrs tile ++ origin_found consolidated tile

    -- what is found of it and of those behind it
    abbrev here : List PartBytes
    here = attr_found k (a ∷ attrs) tile ++ origin_found consolidated tile

    behind_none : (p : Part) → ((j : ℕ) → suc k ≤ j → NoAttr p j) → (same.ghosts).eq part.Origin p ≡ false → IsNone p behind
    behind_none p apart origin = joined_none p (attr_found (suc k) attrs tile) (origin_found consolidated tile) (attrs_none tile p (suc k) attrs apart) (origin_none tile p consolidated origin)

    attr_here : bytes_at here (part.Attr k) ≡ fixed_bytes (is_integer a.ty) a.ty (value_column k tile)
    attr_here = by (is_integer a.ty)
      where
        by : (b : Bool) → bytes_at ((value_found b k a.ty (value_column k tile) ++ (validity_found a.nullable k (value_column k tile) ++ attr_found (suc k) attrs tile)) ++ origin_found consolidated tile) (part.Attr k) ≡ fixed_bytes b a.ty (value_column k tile)
        by true = rw (itself k) refl
        by false = rw (itself k) refl

    var_here : bytes_at here (part.Var k) ≡ var_bytes (is_integer a.ty) (value_column k tile)
    var_here = by (is_integer a.ty) a.nullable
      where
        none : bytes_at behind (part.Var k) ≡ []
        none = nothing_at (part.Var k) behind (behind_none (part.Var k) (λ j h. record { attr = refl; var = another j k h; validity = refl }) refl)

        by : (b v : Bool) → bytes_at ((value_found b k a.ty (value_column k tile) ++ (validity_found v k (value_column k tile) ++ attr_found (suc k) attrs tile)) ++ origin_found consolidated tile) (part.Var k) ≡ var_bytes b (value_column k tile)
        by true true = none
        by true false = none
        by false v = rw (itself k) refl

    validity_here : bytes_at here (part.Validity k) ≡ validity_bytes a.nullable (value_column k tile)
    validity_here = by (is_integer a.ty) a.nullable
      where
        none : bytes_at behind (part.Validity k) ≡ []
        none = nothing_at (part.Validity k) behind (behind_none (part.Validity k) (λ j h. record { attr = refl; var = refl; validity = another j k h }) refl)

        by : (b v : Bool) → bytes_at ((value_found b k a.ty (value_column k tile) ++ (validity_found v k (value_column k tile) ++ attr_found (suc k) attrs tile)) ++ origin_found consolidated tile) (part.Validity k) ≡ validity_bytes v (value_column k tile)
        by true true = rw (itself k) refl
        by true false = none
        by false true = rw (itself k) refl
        by false false = none

    tile_is : AreFound (FromAttr k) here → is_among places k ≡ true → tile_in ranges k ≡ tile_of a.ty a.nullable (value_column k tile)
    unfolding tile_of
    tile_is found used =
        let attr = found (part.Attr k) ((λ j. refl), λ j less. record { attr = other j k less; var = refl; validity = refl }) used ∙ attr_here in
        let var = found (part.Var k) ((λ j. refl), λ j less. record { attr = refl; var = other j k less; validity = refl }) used ∙ var_here in
        let validity = found (part.Validity k) ((λ j. refl), λ j less. record { attr = refl; var = refl; validity = other j k less }) used ∙ validity_here in
        λ i. record { fixed = attr i; var = var i; validity = validity i }

    vals_here : (b : Bool) → is_among places k ≡ b → AreFound (FromAttr k) here → ((p : Part) → is_used places p ≡ true → length (bytes_of ranges p) < 2 ^ 64) → All (FitsValue a) (value_column k tile)
        → vals_if b count ranges k a ≡ Ok (map (λ c. if b then get_or c.row k Null else Null) tile)
    vals_here true used found short fits =
        let column = value_column k tile in
        let long : length column ≡ count = length-map tile (λ c. get_or c.row k Null) ∙ many in
        let all : All (Fits a.ty a.nullable) column = All-weaker (FitsValue a) (Fits a.ty a.nullable) (λ v f. Fits-fits_of a.ty a.nullable v f.1) column fits in
        let var = found (part.Var k) ((λ j. refl), λ j less. record { attr = refl; var = other j k less; validity = refl }) used ∙ var_here in
        let room : length (var_bytes (is_integer a.ty) column) < 2 ^ 64 = subst (λ bytes. length bytes < 2 ^ 64) var (short (part.Var k) used) in
        let back = tile_back a.ty a.nullable column all (var_are_bytes (is_integer a.ty) a column fits) room in
        ap (λ t. in_tile ranges k (tile_vals a.ty a.nullable count t)) (tile_is found used)
        ∙ ap (λ n. in_tile ranges k (tile_vals a.ty a.nullable n (tile_of a.ty a.nullable column))) (sym long) ∙ ap (in_tile ranges k) back
    vals_here false used found short fits = ap (λ n. Ok (replicate n Null)) (sym many) ∙ ap Ok (nulls tile)

  -- the values of the attributes are read
  pub vals_read : (k : ℕ) (attrs : List Attr) (consolidated : Bool) → AreFound (FromAttr k) (attr_found k attrs tile ++ origin_found consolidated tile) → ((p : Part) → is_used places p ≡ true → length (bytes_of ranges p) < 2 ^ 64) → All (ValsFrom k attrs) tile
      → vals_of_tile places count ranges k attrs ≡ Ok (columns_by (value_functions places k attrs) tile)
  vals_read k [] consolidated found short fits = refl
  vals_read k (a ∷ attrs) consolidated found short fits =
      let all = vals_all k a attrs tile fits in
      let one = vals_here k a attrs consolidated (is_among places k) refl found short all.0 in
      let next : AreFound (FromAttr (suc k)) (attr_found (suc k) attrs tile ++ origin_found consolidated tile) = λ p from used.
      found p (from.0, λ j less. from.1 j (omega arith)) used ∙ attr_passed tile p k a attrs (origin_found consolidated tile) (from.1 k (omega arith)) in
      let others = vals_read (suc k) attrs consolidated next short all.1 in
      ap (λ r. and_then r (λ vals. and_then (vals_of_tile places count ranges (suc k) attrs) (λ columns. Ok (vals ∷ columns)))) one
      ∙ ap (λ r. and_then r (λ columns. Ok (map (λ c. if is_among places k then get_or c.row k Null else Null) tile ∷ columns))) others

  -- ---- origins

  all_zero : (entries : ℕ) (cells : List StoredCell) → entries ≡ 1 → All (λ i. i < entries) (origin_column cells) → replicate (length cells) 0 ≡ origin_column cells
  all_zero entries [] one known = refl
  all_zero entries (c ∷ cells) one known =
      let less = All-head (λ i. i < entries) c.origin (origin_column cells) known in
      let here : 0 ≡ c.origin = omega arith in
      ap (λ o. o ∷ replicate (length cells) 0) here ∙ ap (λ os. c.origin ∷ os) (all_zero entries cells one (All-tail (λ i. i < entries) c.origin (origin_column cells) known))

  -- the origins are read
  pub origins_read : (consolidated : Bool) (entries : ℕ) → bytes_of ranges part.Origin ≡ bytes_at (origin_found consolidated tile) part.Origin → may_count consolidated entries ≡ true → entries < 2 ^ 32 → All (λ i. i < entries) (origin_column tile)
      → origins_if consolidated entries count ranges ≡ Ok (origin_column tile)
  origins_read true entries found may few known =
      let long : length (origin_column tile) ≡ count = length-map tile (λ (c : StoredCell). c.origin) ∙ many in
      ap (λ bytes. in_part ranges part.Origin (origins_in entries count bytes)) found ∙ ap (λ n. in_part ranges part.Origin (origins_in entries n (flat_map (number_bytes 4) (origin_column tile)))) (sym long)
      ∙ ap (in_part ranges part.Origin) (encoded_back entries (origin_column tile) (Ok (flat_map (number_bytes 4) (origin_column tile))) few known refl)
  origins_read false entries found may few known =
      let one : entries ≡ 1 = eqb-true entries 1 may in
      ap (λ n. Ok (replicate n 0)) (sym many) ∙ ap Ok (all_zero entries tile one known)
