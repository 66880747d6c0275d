-- The parts of a sparse fragment store one piece.
use Rattle.std.proofs.Common.{◌≡◌, ℕ, suc, ◌+◌, ◌^◌, ◌<◌, ℤ, pos, Bool, true, false, List, [], ◌∷◌, ◌++◌, length, map, Option, refl, sym, ap, ◌∙◌, subst, arith, append_assoc, length-append}
use Rattle.std.specs.Prelude.{IsTrue, nat_lt}
use Rattle.std.specs.List.{All}
use Rattle.std.proofs.lemmas.Bool.{and_parts, ltb-true, eqb-true}
use Rattle.std.proofs.lemmas.List.{length-map}
use Rattle.std.proofs.lemmas.List.Elements.{All-head, All-tail, All-nil, All-cons, All-weaker}
use Rattle.std.proofs.lemmas.Option.{same_Some}
use Rattle.ts_base.specs.declared.names.PartBytes.{PartBytes}
use Rattle.ts_base.specs.declared.keys.FragKey.{FragKey}
use Rattle.ts_base.specs.declared.values.Val.TheVariants.{Null}
use Rattle.ts_base.specs.declared.heads.Piece.{Piece}
use Rattle.ts_base.specs.declared.names.Part.{Part}
use Rattle.ts_base.specs.declared.names.Part.TheVariants as part
use Rattle.ts_base.specs.Values.{width_of, is_integer}
use Rattle.ts_domain.specs.declared.dims.Dim.{Dim}
use Rattle.ts_wire.specs.declared.kinds.Kind.{Kind}
use Rattle.ts_wire.specs.declared.kinds.Kind.TheVariants as kind
use Rattle.ts_wire.specs.Exact.{InTurn, EachFits}
use Rattle.ts_wire.specs.Numbers.{FitsInt}
use Rattle.ts_wire.specs.Envelope.{wrapped, unwrapped}
use Rattle.ts_wire.proofs.Laws.{same_ok}
use Rattle.ts_wire.proofs.Numbers.{number_exact, int_exact}
use Rattle.ts_wire.proofs.Objects.{unwrapped_only, length-wrapped}
use Rattle.ts_schema.specs.declared.attrs.Attr.{Attr}
use Rattle.ts_schema.specs.declared.frames.Frame.{Frame}
use Rattle.ts_schema.specs.declared.schemas.Schema.{Schema}
use Rattle.ts_plain.specs.declared.stored.StoredCell.{StoredCell}
use Rattle.ts_plain.specs.declared.stored.StoredPiece.{StoredPiece}
use Rattle.ts_plain.specs.Rules.{last_of, origin_rises, may_count}
use Rattle.ts_plain.specs.Plain.{FitsValue, FitsCell}
use Rattle.ts_plain.specs.Pieces.{piece_of}
use Rattle.ts_plain.proofs.PlainExact.{head_exact}
use Rattle.ts_column.specs.Tiles.{is_signed}
use Rattle.ts_column.proofs.TileLaws.{widths}
use Rattle.ts_column.specs.Spelled.{text_of}
use Rattle.ts_sparse.specs.Tilings.{tiles_of}
use Rattle.ts_sparse.specs.Sparse.{coord_column, value_column, origin_column, Object, dim_objects, fixed_objects, validity_objects, attr_objects, origin_objects, objects_of, sizes_of, meta_bytes, column_part, meta_part, parts_of, FitsSparse, IsThere, IsSparse}
use Rattle.ts_sparse.proofs.Apart.{split_same, spells_apart, lists_apart, lists_same}
use Rattle.ts_sparse.proofs.Shapes.{all_parts, shaped, shaped_many, length-tile_starts}
use Rattle.ts_sparse.proofs.RoomLaws.{room_of_short}
use Rattle.ts_sparse.proofs.Rows.{cons_parts, Ends, Same, here, next, rows_same}
use Rattle.ts_sparse.proofs.ColumnLaws.{column_same}

-- ---- objects

-- as many objects of the same parts, with as many starts
abbrev pub Alike : List Object → List Object → Type 0
Alike [] [] = Unit {0}
Alike [] (p ∷ ps) = ⊥
Alike (o ∷ os) [] = ⊥
Alike (o ∷ os) (p ∷ ps) = (o.part ≡ p.part) × ((length o.starts ≡ length p.starts) × Alike os ps)

pub alike-append : (os ps more rest : List Object) → Alike os ps → Alike more rest → Alike (os ++ more) (ps ++ rest)
alike-append [] [] more rest a b = b
alike-append [] (p ∷ ps) more rest a b = absurd a
alike-append (o ∷ os) [] more rest a b = absurd a
alike-append (o ∷ os) (p ∷ ps) more rest a b = (a.0, (a.1.0, alike-append os ps more rest a.1.1 b))

pub alike_many : (os ps : List Object) → Alike os ps → length os ≡ length ps
alike_many [] [] a = refl
alike_many [] (p ∷ ps) a = absurd a
alike_many (o ∷ os) [] a = absurd a
alike_many (o ∷ os) (p ∷ ps) a = ap suc (alike_many os ps a.1.1)

pub alike_sizes : (os ps : List Object) → Alike os ps → length (sizes_of os) ≡ length (sizes_of ps)
alike_sizes [] [] a = refl
alike_sizes [] (p ∷ ps) a = absurd a
alike_sizes (o ∷ os) [] a = absurd a
alike_sizes (o ∷ os) (p ∷ ps) a = omega (arith, length-append o.starts (sizes_of os), length-append p.starts (sizes_of ps), a.1.0, alike_sizes os ps a.1.1)

-- no body is longer than a length can say
abbrev pub AllShort : List Object → Type 0
AllShort os = All (λ o. length o.body < 2 ^ 64) os

pub short_parts : (os ps : List Object) → AllShort (os ++ ps) → AllShort os × AllShort ps
short_parts [] ps short = (All-nil (λ o. length o.body < 2 ^ 64), short)
short_parts (o ∷ os) ps short =
    let rest = short_parts os ps (All-tail (λ o. length o.body < 2 ^ 64) o (os ++ ps) short) in
    (All-cons (λ o. length o.body < 2 ^ 64) o os (All-head (λ o. length o.body < 2 ^ 64) o (os ++ ps) short) rest.0, rest.1)

module _ (cs es : List StoredCell) (long : length cs ≡ length es) where
  dims_alike : (k : ℕ) (ds : List Dim) → Alike (dim_objects k ds cs) (dim_objects k ds es)
  dims_alike k [] = tt
  dims_alike k (d ∷ ds) = (refl, (refl, dims_alike (suc k) ds))

  pub columns_long : (k : ℕ) → length (value_column k cs) ≡ length (value_column k es)
  columns_long k = length-map cs (λ c. _) ∙ long ∙ sym (length-map es (λ c. _))

  fixed_alike : (b : Bool) (n k : ℕ) (a : Attr) → Alike (fixed_objects b n k a.ty (value_column k cs)) (fixed_objects b n k a.ty (value_column k es))
  fixed_alike true n k a = (refl, (refl, tt))
  fixed_alike false n k a =
      let xs = map text_of (value_column k cs) in
      let ys = map text_of (value_column k es) in
      let same : length xs ≡ length ys = length-map (value_column k cs) text_of ∙ columns_long k ∙ sym (length-map (value_column k es) text_of) in
      (refl, (refl, (refl, (length-tile_starts 14 (tiles_of n xs) ∙ shaped_many (tiles_of n xs) (tiles_of n ys) (shaped n xs ys same) ∙ sym (length-tile_starts 14 (tiles_of n ys)), tt))))

  pub validity_alike : (b : Bool) (k : ℕ) → Alike (validity_objects b k (value_column k cs)) (validity_objects b k (value_column k es))
  validity_alike true k = (refl, (refl, tt))
  validity_alike false k = tt

  attrs_alike : (n k : ℕ) (attrs : List Attr) → Alike (attr_objects n k attrs cs) (attr_objects n k attrs es)
  attrs_alike n k [] = tt
  attrs_alike n k (a ∷ attrs) =
      alike-append (fixed_objects (is_integer a.ty) n k a.ty (value_column k cs)) (fixed_objects (is_integer a.ty) n k a.ty (value_column k es)) _ _ (fixed_alike (is_integer a.ty) n k a)
      (alike-append (validity_objects a.nullable k (value_column k cs)) (validity_objects a.nullable k (value_column k es)) _ _ (validity_alike a.nullable k) (attrs_alike n (suc k) attrs))

  pub origins_alike : (b : Bool) → Alike (origin_objects b cs) (origin_objects b es)
  origins_alike true = (refl, (refl, tt))
  origins_alike false = tt

  -- ---- from objects to columns

  abbrev first_body : List Object → List ℕ
  first_body [] = []
  first_body (o ∷ os) = o.body

  abbrev OfType : Dim → ℤ → Type 0
  OfType d x = FitsInt (width_of d.ty) (is_signed d.ty) x

  dims_apart : (k : ℕ) (ds : List Dim) (more rest : List Object) → All (λ d. is_integer d.ty ≡ true) ds
      → Ends OfType (pos 0) (λ c. c.coords) k ds cs → Ends OfType (pos 0) (λ c. c.coords) k ds es
      → dim_objects k ds cs ++ more ≡ dim_objects k ds es ++ rest → Same OfType (pos 0) (λ c. c.coords) k ds cs es × (more ≡ rest)
  dims_apart k [] more rest ints fc fe same = (tt, same)
  dims_apart k (d ∷ ds) more rest ints fc fe same =
      let parts = cons_parts _ _ (dim_objects (suc k) ds cs ++ more) (dim_objects (suc k) ds es ++ rest) same in
      let width = widths d.ty (All-head (λ d. is_integer d.ty ≡ true) d ds ints) in
      let column = lists_same (int_exact (width_of d.ty) (is_signed d.ty) width.0 width.1) (coord_column k cs) (coord_column k es)
      (length-map cs (λ c. _) ∙ long ∙ sym (length-map es (λ c. _))) (here OfType (pos 0) (λ c. c.coords) k d ds cs fc) (here OfType (pos 0) (λ c. c.coords) k d ds es fe) (ap (λ o. o.body) parts.0) in
      let others = dims_apart (suc k) ds more rest (All-tail (λ d. is_integer d.ty ≡ true) d ds ints) (next OfType (pos 0) (λ c. c.coords) k d ds cs fc) (next OfType (pos 0) (λ c. c.coords) k d ds es fe) parts.1 in
      ((column, others.0), others.1)

  attrs_apart : (n k : ℕ) (attrs : List Attr) (more rest : List Object)
      → Ends FitsValue Null (λ c. c.row) k attrs cs → Ends FitsValue Null (λ c. c.row) k attrs es
      → AllShort (attr_objects n k attrs cs) → AllShort (attr_objects n k attrs es)
      → attr_objects n k attrs cs ++ more ≡ attr_objects n k attrs es ++ rest → Same FitsValue Null (λ c. c.row) k attrs cs es × (more ≡ rest)
  attrs_apart n k [] more rest fc fe sc se same = (tt, same)
  attrs_apart n k (a ∷ attrs) more rest fc fe sc se same =
      let b = is_integer a.ty in
      let one = fixed_objects b n k a.ty (value_column k cs) in
      let two = fixed_objects b n k a.ty (value_column k es) in
      let vone = validity_objects a.nullable k (value_column k cs) in
      let vtwo = validity_objects a.nullable k (value_column k es) in
      let after = attr_objects n (suc k) attrs cs in
      let behind = attr_objects n (suc k) attrs es in
      let first = split_same one two ((vone ++ after) ++ more) ((vtwo ++ behind) ++ rest) (alike_many one two (fixed_alike b n k a))
      (sym (append_assoc one (vone ++ after) more) ∙ same ∙ append_assoc two (vtwo ++ behind) rest) in
      let second = split_same vone vtwo (after ++ more) (behind ++ rest) (alike_many vone vtwo (validity_alike a.nullable k))
      (sym (append_assoc vone after more) ∙ first.1 ∙ append_assoc vtwo behind rest) in
      let s1 = short_parts one (vone ++ after) sc in
      let s2 = short_parts two (vtwo ++ behind) se in
      let column = column_same a n k b (value_column k cs) (value_column k es) refl (columns_long k) (here FitsValue Null (λ c. c.row) k a attrs cs fc) (here FitsValue Null (λ c. c.row) k a attrs es fe) s1.0 s2.0 first.0 second.0 in
      let others = attrs_apart n (suc k) attrs more rest (next FitsValue Null (λ c. c.row) k a attrs cs fc) (next FitsValue Null (λ c. c.row) k a attrs es fe)
      (short_parts vone after s1.1).1 (short_parts vtwo behind s2.1).1 second.1 in
      ((column, others.0), others.1)

  -- origins
  pub origins_same : (b : Bool) → All (λ i. i < 256 ^ 4) (origin_column cs) → All (λ i. i < 256 ^ 4) (origin_column es)
      → (b ≡ false → All (λ i. i ≡ 0) (origin_column cs)) → (b ≡ false → All (λ i. i ≡ 0) (origin_column es)) → origin_objects b cs ≡ origin_objects b es → origin_column cs ≡ origin_column es
  origins_same true fc fe zc ze same = lists_same (number_exact 4) (origin_column cs) (origin_column es) (length-map cs (λ c. _) ∙ long ∙ sym (length-map es (λ c. _))) fc fe (ap first_body same)
  origins_same false fc fe zc ze same = zeros (origin_column cs) (origin_column es) (length-map cs (λ c. _) ∙ long ∙ sym (length-map es (λ c. _))) (zc refl) (ze refl)
    where
      zeros : (xs ys : List ℕ) → length xs ≡ length ys → All (λ i. i ≡ 0) xs → All (λ i. i ≡ 0) ys → xs ≡ ys
      zeros [] [] h a b = refl
      zeros [] (y ∷ ys) h a b = absurd (omega arith)
      zeros (x ∷ xs) [] h a b = absurd (omega arith)
      zeros (x ∷ xs) (y ∷ ys) h a b =
          ap (λ i. i ∷ xs) (All-head (λ i. i ≡ 0) x xs a ∙ sym (All-head (λ i. i ≡ 0) y ys b)) ∙ ap (λ is. y ∷ is) (zeros xs ys (omega arith) (All-tail (λ i. i ≡ 0) x xs a) (All-tail (λ i. i ≡ 0) y ys b))

-- cells with the same coordinates, origins and rows
pub cells_same : (cs es : List StoredCell) → map (λ c. c.coords) cs ≡ map (λ c. c.coords) es → map (λ c. c.row) cs ≡ map (λ c. c.row) es → origin_column cs ≡ origin_column es → cs ≡ es
cells_same [] [] a b o = refl
cells_same [] (e ∷ es) a b o = absurd (omega (arith, ap length a))
cells_same (c ∷ cs) [] a b o = absurd (omega (arith, ap length a))
cells_same (c ∷ cs) (e ∷ es) a b o =
    let coords = cons_parts c.coords e.coords (map (λ c. c.coords) cs) (map (λ c. c.coords) es) a in
    let rows = cons_parts c.row e.row (map (λ c. c.row) cs) (map (λ c. c.row) es) b in
    let origins = cons_parts c.origin e.origin (origin_column cs) (origin_column es) o in
    let one = coords.0 in let two = rows.0 in let three = origins.0 in
    let rest = cells_same cs es coords.1 rows.1 origins.1 in
    λ i. record { coords = one i; origin = three i; row = two i } ∷ rest i

-- ---- what is there under one name

-- one object has one body
body_same : (k : Kind) (a b : List ℕ) → length (wrapped k a) < 2 ^ 64 → length (wrapped k b) < 2 ^ 64 → wrapped k a ≡ wrapped k b → a ≡ b
body_same k a b fa fb same =
    let one = unwrapped_only k a (omega (arith, length-wrapped k a)) in
    let two = unwrapped_only k b (omega (arith, length-wrapped k b)) in
    same_ok (unwrapped k (wrapped k a)) a b one (ap (unwrapped k) same ∙ two)

module _ (look : Part → Option (List ℕ)) where
  pub there_same : (k : Kind) (p q : Part) (a b : List ℕ) → p ≡ q → IsThere look (record { part = p; bytes = wrapped k a }) → IsThere look (record { part = q; bytes = wrapped k b }) → a ≡ b
  there_same k p q a b same one two =
      body_same k a b one.few two.few (same_Some (wrapped k a) (wrapped k b) (sym one.there ∙ ap look same ∙ two.there))

  -- objects that are alike, are there and have the same sizes are the same
  pub objects_same : (os ps : List Object) → Alike os ps → All (IsThere look) (map column_part os) → All (IsThere look) (map column_part ps) → sizes_of os ≡ sizes_of ps → os ≡ ps
  objects_same [] [] a fo fp sizes = refl
  objects_same [] (p ∷ ps) a fo fp sizes = absurd a
  objects_same (o ∷ os) [] a fo fp sizes = absurd a
  objects_same (o ∷ os) (p ∷ ps) a fo fp sizes =
      let body = there_same kind.Column o.part p.part o.body p.body a.0 (All-head (IsThere look) (column_part o) (map column_part os) fo) (All-head (IsThere look) (column_part p) (map column_part ps) fp) in
      let cut = cons_parts (14 + length o.body) (14 + length p.body) (o.starts ++ sizes_of os) (p.starts ++ sizes_of ps) sizes in
      let starts = split_same o.starts p.starts (sizes_of os) (sizes_of ps) a.1.0 cut.1 in
      let rest = objects_same os ps a.1.1 (All-tail (IsThere look) (column_part o) (map column_part os) fo) (All-tail (IsThere look) (column_part p) (map column_part ps) fp) starts.1 in
      let part = a.0 in let begun = starts.0 in
      λ i. record { part = part i; body = body i; starts = begun i } ∷ rest i

  pub there_short : (os : List Object) → All (IsThere look) (map column_part os) → AllShort os
  there_short [] there = All-nil (λ o. length o.body < 2 ^ 64)
  there_short (o ∷ os) there =
      let here = All-head (IsThere look) (column_part o) (map column_part os) there in
      let few = here.few in
      All-cons (λ o. length o.body < 2 ^ 64) o os (omega (arith, few, length-wrapped kind.Column o.body)) (there_short os (All-tail (IsThere look) (column_part o) (map column_part os) there))

-- ---- what holds of each cell

pub in_turn_all : {X : Type 0} (Fits : List X → X → Type 0) (P : X → Type 0) → ((front : List X) (x : X) → Fits front x → P x) → (front xs : List X) → InTurn Fits front xs → All P xs
in_turn_all Fits P f front [] fits = All-nil P
in_turn_all Fits P f front (x ∷ xs) fits = All-cons P x xs (f front x fits.0) (in_turn_all Fits P f (front ++ x ∷ []) xs fits.1)

pub all_mapped : {X Y : Type 0} (P : Y → Type 0) (f : X → Y) (xs : List X) → All (λ x. P (f x)) xs → All P (map f xs)
all_mapped P f [] all = All-nil P
all_mapped P f (x ∷ xs) all = All-cons P (f x) (map f xs) (All-head (λ x. P (f x)) x xs all) (all_mapped P f xs (All-tail (λ x. P (f x)) x xs all))

module _ (frame : Frame) (attrs : List Attr) (frag : FragKey) where
  rows_fit : (s : StoredPiece) → FitsSparse frame attrs frag s → All (λ c. EachFits FitsValue attrs c.row) s.cells
  rows_fit s fits = in_turn_all (FitsCell frame attrs s.head) (λ c. EachFits FitsValue attrs c.row) (λ front c f. f.row) [] s.cells (fits.plain).cells

  origins_fit : (s : StoredPiece) → FitsSparse frame attrs frag s → All (λ i. i < 256 ^ 4) (origin_column s.cells)
  origins_fit s fits = all_mapped (λ i. i < 256 ^ 4) (λ (c : StoredCell). c.origin) s.cells (in_turn_all (FitsCell frame attrs s.head) (λ c. c.origin < 256 ^ 4) (λ front c f. f.origin) [] s.cells (fits.plain).cells)

  -- a fragment that is not consolidated has one origin
  origins_zero : (s : StoredPiece) → FitsSparse frame attrs frag s → s.head.consolidated ≡ false → All (λ i. i ≡ 0) (origin_column s.cells)
  origins_zero s fits no_other =
      let one : IsTrue (may_count false (length s.head.origins)) = subst (λ b. IsTrue (may_count b (length s.head.origins))) no_other (fits.plain).head.some_origin in
      let only = eqb-true (length s.head.origins) 1 one in
      all_mapped (λ i. i ≡ 0) (λ (c : StoredCell). c.origin) s.cells (in_turn_all (FitsCell frame attrs s.head) (λ c. c.origin ≡ 0)
      (λ front c f. let below = ltb-true c.origin (length s.head.origins) (and_parts (nat_lt c.origin (length s.head.origins)) (origin_rises frame.dense (last_of front) c.coords c.origin) f.known).0 in omega arith) [] s.cells (fits.plain).cells)

  objects_alike : (s t : StoredPiece) → s.head ≡ t.head → length s.cells ≡ length t.cells → Alike (objects_of frame attrs s) (objects_of frame attrs t)
  unfolding objects_of
  objects_alike s t same long =
      let kinds : s.head.consolidated ≡ t.head.consolidated = ap (λ h. h.consolidated) same in
      let last : Alike (origin_objects s.head.consolidated s.cells) (origin_objects t.head.consolidated t.cells) = subst (λ b. Alike (origin_objects s.head.consolidated s.cells) (origin_objects b t.cells)) kinds (origins_alike s.cells t.cells long s.head.consolidated) in
      alike-append (dim_objects 0 frame.domain s.cells) (dim_objects 0 frame.domain t.cells) _ _ (dims_alike s.cells t.cells long 0 frame.domain)
      (alike-append (attr_objects frame.capacity 0 attrs s.cells) (attr_objects frame.capacity 0 attrs t.cells) _ _ (attrs_alike s.cells t.cells long frame.capacity 0 attrs) last)

  -- the same objects hold the same cells
  objects_tell : (s t : StoredPiece) → FitsSparse frame attrs frag s → FitsSparse frame attrs frag t → s.head ≡ t.head → length s.cells ≡ length t.cells
      → AllShort (objects_of frame attrs s) → AllShort (objects_of frame attrs t) → objects_of frame attrs s ≡ objects_of frame attrs t → s.cells ≡ t.cells
  unfolding objects_of
  objects_tell s t fs ft same long ss st objects =
      let cs = s.cells in
      let es = t.cells in
      let kinds : s.head.consolidated ≡ t.head.consolidated = ap (λ h. h.consolidated) same in
      let dims = dims_apart cs es long 0 frame.domain _ _ fs.ints fs.typed ft.typed objects in
      let s1 = (short_parts (dim_objects 0 frame.domain cs) (attr_objects frame.capacity 0 attrs cs ++ origin_objects s.head.consolidated cs) ss).1 in
      let s2 = (short_parts (dim_objects 0 frame.domain es) (attr_objects frame.capacity 0 attrs es ++ origin_objects t.head.consolidated es) st).1 in
      let values = attrs_apart cs es long frame.capacity 0 attrs _ _ (rows_fit s fs) (rows_fit t ft) (short_parts (attr_objects frame.capacity 0 attrs cs) (origin_objects s.head.consolidated cs) s1).0 (short_parts (attr_objects frame.capacity 0 attrs es) (origin_objects t.head.consolidated es) s2).0 dims.1 in
      let last : origin_objects s.head.consolidated cs ≡ origin_objects s.head.consolidated es = values.1 ∙ ap (λ b. origin_objects b es) (sym kinds) in
      let origins = origins_same cs es long s.head.consolidated (origins_fit s fs) (origins_fit t ft) (origins_zero s fs) (λ no_other. origins_zero t ft (sym kinds ∙ no_other)) last in
      cells_same cs es
      (rows_same (OfType cs es long) (pos 0) (λ c. c.coords) 0 frame.domain cs es long fs.typed ft.typed dims.0)
      (rows_same FitsValue Null (λ c. c.row) 0 attrs cs es long (rows_fit s fs) (rows_fit t ft) values.0)
      origins

  -- eight bytes can say each length of an object that is there
  room : {look : Part → Option (List ℕ)} (s : StoredPiece) → All (IsThere look) (parts_of frame attrs s) → All (λ size. size < 2 ^ 64) (sizes_of (objects_of frame attrs s))
  room {look = look} s there = room_of_short frame attrs s (All-weaker (IsThere look) (λ (p : PartBytes). length p.bytes < 2 ^ 64) (λ p is. is.few) (parts_of frame attrs s) there)

  -- the parts store one thing
  pub one_stored : (look : Part → Option (List ℕ)) (s t : StoredPiece) → FitsSparse frame attrs frag s → FitsSparse frame attrs frag t
      → All (IsThere look) (parts_of frame attrs s) → All (IsThere look) (parts_of frame attrs t) → s ≡ t
  unfolding parts_of meta_bytes
  one_stored look s t fs ft ps pt =
      let p = all_parts (IsThere look) (map column_part (objects_of frame attrs s)) (meta_part frame attrs s ∷ []) ps in
      let q = all_parts (IsThere look) (map column_part (objects_of frame attrs t)) (meta_part frame attrs t ∷ []) pt in
      let meta = there_same look kind.Meta part.Meta part.Meta (meta_bytes frame attrs s) (meta_bytes frame attrs t) refl (All-head (IsThere look) (meta_part frame attrs s) [] p.1) (All-head (IsThere look) (meta_part frame attrs t) [] q.1) in
      let head = spells_apart (head_exact frame frag) s.head t.head _ _ (fs.plain).head (ft.plain).head meta in
      let tiles = spells_apart (number_exact 4) (length (tiles_of frame.capacity s.cells)) (length (tiles_of frame.capacity t.cells)) _ _ fs.few ft.few head.1 in
      let long : length s.cells ≡ length t.cells = (fs.plain).count ∙ ap (λ h. h.cells) head.0 ∙ sym (ft.plain).count in
      let alike = objects_alike s t head.0 long in
      let sizes = lists_apart (number_exact 8) (sizes_of (objects_of frame attrs s)) (sizes_of (objects_of frame attrs t)) _ _ (alike_sizes (objects_of frame attrs s) (objects_of frame attrs t) alike) (room s ps) (room t pt) tiles.1 in
      let objects = objects_same look (objects_of frame attrs s) (objects_of frame attrs t) alike p.0 q.0 sizes.0 in
      let cells = objects_tell s t fs ft head.0 long (there_short look (objects_of frame attrs s) p.0) (there_short look (objects_of frame attrs t) q.0) objects in
      let first = head.0 in
      λ i. record { head = first i; cells = cells i }

-- the parts of a fragment store one piece
pub one_sparse : (frame : Frame) (schema : Schema) (p q : Piece) (look : Part → Option (List ℕ)) → p.head.frag ≡ q.head.frag → IsSparse frame schema p look → IsSparse frame schema q look → p ≡ q
one_sparse frame schema p q look named is other =
    let P : FragKey → Type 0 = λ frag. FitsSparse frame schema.attrs frag other.stored in
    let fits : FitsSparse frame schema.attrs p.head.frag other.stored = subst P (sym named) other.fits in
    let same = one_stored frame schema.attrs p.head.frag look is.stored other.stored is.fits fits is.parts other.parts in
    is.same ∙ ap (λ s. piece_of p.head.frag s) same ∙ ap (λ frag. piece_of frag other.stored) named ∙ sym other.same
