-- Two fetches that were told of the same sizes, and got the same of the same objects, read slots of the same bytes: where one finds nothing broken, so does the other.
use Rattle.std.proofs.Common.{◌≡◌, ℕ, suc, ◌*◌, ◌≤◌, Bool, true, false, not, ◌&&◌, ◌||◌, cond, nat_eq, nat_lt, List, [], ◌∷◌, ◌++◌, length, map, drop, Result, Ok, Err, refl, sym, ap, ◌∙◌, subst, arith, append_assoc, ◌⊎◌, inl, inr}
use Rattle.std.specs.Prelude.{filter}
use Rattle.std.specs.List.{flat_map, All, AllByRecursion}
use Rattle.std.proofs.Math.Nat.{le_of_mul-le-mul_left}
use Rattle.std.proofs.lemmas.Bool.{both_ways, cond-true, ltb-false, le-ltb, eq-eqb}
use Rattle.std.proofs.lemmas.List.{length-map}
use Rattle.std.proofs.lemmas.List.Elements.{All-nil, All-cons, All-head, All-tail, All-map, filter_passes}
use Rattle.ts_base.specs.declared.names.Part.{Part}
use Rattle.ts_base.specs.declared.names.Part.TheVariants as part
use Rattle.ts_base.specs.contracts.names.PartPartialEq.TheImpl as same
use Rattle.ts_base.specs.declared.values.Val.{Val}
use Rattle.ts_base.specs.Values.{is_integer}
use Rattle.ts_domain.specs.declared.boxes.SubBox.{SubBox}
use Rattle.ts_order.specs.Orders.{coords_in_order}
use Rattle.ts_wire.specs.Place.{place, ruled, each_at, whole}
use Rattle.ts_wire.specs.Numbers.{number_at}
use Rattle.ts_schema.specs.declared.attrs.Attr.{Attr}
use Rattle.ts_schema.specs.declared.frames.Frame.{Frame}
use Rattle.ts_schema.specs.Parts.{Got, Sized}
use Rattle.ts_plain.specs.declared.stored.StoredHead.{StoredHead}
use Rattle.ts_plain.specs.declared.stored.StoredCell.{StoredCell}
use Rattle.ts_footer.specs.declared.columns.ColumnForm.TheVariants.{Fixed}
use Rattle.ts_footer.specs.declared.columns.ColumnSize.{ColumnSize}
use Rattle.ts_footer.specs.declared.footers.Footer.{Footer}
use Rattle.ts_footer.specs.Columns.{column_forms}
use Rattle.ts_fetch.specs.declared.planned.Planned.{Planned}
use Rattle.ts_fetch.specs.Plans.{AreRanges}
use Rattle.ts_dense.specs.Slots.{no_origin}
use Rattle.ts_sparse_read.specs.declared.opened.Span.{Span}
use Rattle.ts_sparse_read.specs.declared.opened.UsedColumn.{UsedColumn}
use Rattle.ts_sparse_read.specs.declared.opened.WantedTile.{WantedTile}
use Rattle.ts_sparse_read.specs.Faults.{Fault, and_then, Ranged, bytes_of, in_part}
use Rattle.ts_sparse_read.specs.TileReads.{rows_in, cells_from, is_among, vals_if, vals_of_tile}
use Rattle.ts_sparse_read.specs.Used.{value_parts, validity_parts, attr_parts, origin_parts, column_parts, columns_told, is_used, used_among}
use Rattle.ts_sparse_read.specs.Opens.{span_call, tile_calls}
use Rattle.ts_sparse_read.specs.Judges.{ranged}
use Rattle.ts_sparse_read.specs.HeardOnce.{gots_on, got_of, cons_parts, sized_of}
use Rattle.ts_sparse_read.specs.UsedOnce.{each_behind}
use Rattle.ts_sparse_read.specs.UsedSame.{told_each, forms_many}
use Rattle.ts_sparse_read.specs.ReadColumns.{then_ok}
use Rattle.ts_dense_read.specs.SlotReads.{is_of_hole, are_of_hole, slot_origin_at, slot_origins_in, slot_origins_if, slots_of_tile}
use Rattle.ts_dense_read.specs.SpaceOpens.{space_used, space_span, space_tile, space_tiles}
use Rattle.ts_dense_read.specs.SpaceJudges.{slots_of_tiles}
use Rattle.ts_dense_read.specs.FirstUsed.{HasFirst}

-- ---- which objects are used

-- what holds of what f makes of items holds of the items
mapped_back : {X Y : Type 0} (P : Y → Type 0) (f : X → Y) (xs : List X) → All P (map f xs) → All (λ x. P (f x)) xs
mapped_back P f [] all = All-nil (λ x. P (f x))
mapped_back P f (x ∷ xs) all = All-cons (λ x. P (f x)) x xs (All-head P (f x) (map f xs) all) (mapped_back P f xs (All-tail P (f x) (map f xs) all))

-- what holds of the items that pass a test holds of each item that does
filtered_back : {X : Type 0} (p : X → Bool) (P : X → Type 0) (xs : List X) → All P (filter p xs) → All (λ x. p x ≡ true → P x) xs
filtered_back p P [] all = All-nil (λ x. p x ≡ true → P x)
filtered_back p P (x ∷ xs) all = by (p x) refl all (filtered_back p P xs)
  where
    by : (b : Bool) → p x ≡ b → All P (cond b (x ∷ filter p xs) (filter p xs)) → (All P (filter p xs) → All (λ x. p x ≡ true → P x) xs) → All (λ x. p x ≡ true → P x) (x ∷ xs)
    by true e passed more = All-cons (λ x. p x ≡ true → P x) x xs (λ _. All-head P x (filter p xs) passed) (more (All-tail P x (filter p xs) passed))
    by false e passed more = All-cons (λ x. p x ≡ true → P x) x xs (λ is. absurd (both_ways (p x) e is)) (more passed)

-- tests that agree at each item keep the same items
filter_same : {X : Type 0} (p q : X → Bool) (xs : List X) → All (λ x. p x ≡ q x) xs → filter p xs ≡ filter q xs
filter_same p q [] all = refl
filter_same p q (x ∷ xs) all =
    ap (λ b. cond b (x ∷ filter p xs) (filter p xs)) (All-head (λ x. p x ≡ q x) x xs all)
    ∙ ap (λ ys. cond (q x) (x ∷ ys) ys) (filter_same p q xs (All-tail (λ x. p x ≡ q x) x xs all))

-- tests that imply one another agree
same_tests : (b c : Bool) → (b ≡ true → c ≡ true) → (c ≡ true → b ≡ true) → b ≡ c
same_tests true c there back = sym (there refl)
same_tests false true there back = back refl
same_tests false false there back = refl

-- what one fetch was told of, the other reads
used_there : (ps qs : List ℕ) (told : List UsedColumn) → map sized_of (used_among ps told) ≡ map sized_of (used_among qs told) → All (λ (c : UsedColumn). is_used ps c.part ≡ true → is_used qs c.part ≡ true) told
used_there ps qs told same =
    let Q : Sized → Type 0 = λ s. is_used qs s.part ≡ true in
    let passes : All (λ (c : UsedColumn). is_used qs c.part ≡ true) (used_among qs told) = filter_passes (λ (c : UsedColumn). is_used qs c.part) told in
    let on : All Q (map sized_of (used_among ps told)) = subst (All Q) (sym same) (All-map Q sized_of (used_among qs told) passes) in
    filtered_back (λ (c : UsedColumn). is_used ps c.part) (λ (c : UsedColumn). is_used qs c.part ≡ true) told (mapped_back Q sized_of (used_among ps told) on)

-- what is read by either is read by both
both_used : (ps qs : List ℕ) (told : List UsedColumn) → All (λ (c : UsedColumn). is_used ps c.part ≡ true → is_used qs c.part ≡ true) told
    → All (λ (c : UsedColumn). is_used qs c.part ≡ true → is_used ps c.part ≡ true) told → All (λ (c : UsedColumn). is_used ps c.part ≡ is_used qs c.part) told
both_used ps qs [] there back = All-nil (λ (c : UsedColumn). is_used ps c.part ≡ is_used qs c.part)
both_used ps qs (c ∷ told) there back =
    let T = λ (c : UsedColumn). is_used ps c.part ≡ true → is_used qs c.part ≡ true in
    let B = λ (c : UsedColumn). is_used qs c.part ≡ true → is_used ps c.part ≡ true in
    All-cons (λ (c : UsedColumn). is_used ps c.part ≡ is_used qs c.part) c told (same_tests (is_used ps c.part) (is_used qs c.part) (All-head T c told there) (All-head B c told back))
    (both_used ps qs told (All-tail T c told there) (All-tail B c told back))

-- ---- which attributes are read

module _ (ps qs : List ℕ) where
  -- the two fetches read the part, or neither does
  abbrev Alike : Part → Type 0
  Alike p = is_used ps p ≡ is_used qs p

  -- they read the same of the attributes from the k-th on
  abbrev pub SameAttrs : ℕ → List Attr → Type 0
  SameAttrs k [] = Unit {0}
  SameAttrs k (a ∷ attrs) = (is_among ps k ≡ is_among qs k) × SameAttrs (suc k) attrs

  -- where they read the same first part of an attribute, they read the attribute, or neither does
  first_alike : (b : Bool) (k : ℕ) (rest : List Part) → AllByRecursion Alike (value_parts b k ++ rest) → is_among ps k ≡ is_among qs k
  first_alike true k rest all = all.0
  first_alike false k rest all = all.0

  -- so it is of all attributes whose parts they read alike
  attrs_alike : (k : ℕ) (attrs : List Attr) (others : List Part) → AllByRecursion Alike (attr_parts k attrs ++ others) → SameAttrs k attrs
  attrs_alike k [] others all = tt
  attrs_alike k (a ∷ attrs) others all =
      let spread : AllByRecursion Alike (value_parts (is_integer a.ty) k ++ ((validity_parts a.nullable k ++ attr_parts (suc k) attrs) ++ others)) =
      subst (AllByRecursion Alike) (append_assoc (value_parts (is_integer a.ty) k) (validity_parts a.nullable k ++ attr_parts (suc k) attrs) others) all in
      let behind = each_behind Alike (value_parts (is_integer a.ty) k) ((validity_parts a.nullable k ++ attr_parts (suc k) attrs) ++ others) spread in
      let last = each_behind Alike (validity_parts a.nullable k) (attr_parts (suc k) attrs ++ others)
      (subst (AllByRecursion Alike) (append_assoc (validity_parts a.nullable k) (attr_parts (suc k) attrs) others) behind) in
      (first_alike (is_integer a.ty) k ((validity_parts a.nullable k ++ attr_parts (suc k) attrs) ++ others) spread, attrs_alike (suc k) attrs others last)

  -- then they read the same values
  vals_alike : (count : ℕ) (ranges : List Ranged) (k : ℕ) (attrs : List Attr) → SameAttrs k attrs → vals_of_tile ps count ranges k attrs ≡ vals_of_tile qs count ranges k attrs
  vals_alike count ranges k [] all = refl
  vals_alike count ranges k (a ∷ attrs) all =
      ap (λ b. and_then (vals_if b count ranges k a) (λ vals. and_then (vals_of_tile ps count ranges (suc k) attrs) (λ columns. Ok (vals ∷ columns)))) all.0
      ∙ ap (λ (r : Result (List (List Val)) Fault). and_then (vals_if (is_among qs k) count ranges k a) (λ vals. and_then r (λ columns. Ok (vals ∷ columns)))) (vals_alike count ranges (suc k) attrs all.1)

  -- take the same slots for holes
  holes_alike : (k : ℕ) (attrs : List Attr) (row : List Val) → SameAttrs k attrs → are_of_hole ps k attrs row ≡ are_of_hole qs k attrs row
  holes_alike k [] row all = refl
  holes_alike k (a ∷ attrs) [] all = refl
  holes_alike k (a ∷ attrs) (v ∷ row) all =
      ap (λ b. (not b || is_of_hole a v) && are_of_hole ps (suc k) attrs row) all.0 ∙ ap (λ b. (not (is_among qs k) || is_of_hole a v) && b) (holes_alike (suc k) attrs row all.1)

  -- so they read the same origins
  origins_alike : (entries : ℕ) (attrs : List Attr) (rows : List (List Val)) (bytes : List ℕ) → SameAttrs 0 attrs → slot_origins_in entries ps attrs rows bytes ≡ slot_origins_in entries qs attrs rows bytes
  unfolding slot_origins_in slot_origin_at
  origins_alike entries attrs rows bytes all =
      let tests : (row : List Val) → are_of_hole ps 0 attrs row ≡ are_of_hole qs 0 attrs row = λ row. holes_alike 0 attrs row all in
      λ i. whole (each_at (λ row. ruled (λ origin. nat_lt origin entries || (nat_eq origin no_origin && tests row i)) (number_at 4)) rows) (place bytes 0)

  -- also where there are none
  slot_origins_alike : (consolidated : Bool) (entries : ℕ) (attrs : List Attr) (count : ℕ) (rows : List (List Val)) (ranges : List Ranged) → SameAttrs 0 attrs
      → slot_origins_if consolidated entries ps attrs count rows ranges ≡ slot_origins_if consolidated entries qs attrs count rows ranges
  slot_origins_alike true entries attrs count rows ranges all = ap (in_part ranges part.Origin) (origins_alike entries attrs rows (bytes_of ranges part.Origin) all)
  slot_origins_alike false entries attrs count rows ranges all = refl

  -- steps that agree give the same
  steps_alike : {A B : Type 0} (f g : A → Result B Fault) → ((x : A) → f x ≡ g x) → (r : Result A Fault) → and_then r f ≡ and_then r g
  steps_alike f g agree (Ok x) = agree x
  steps_alike f g agree (Err fault) = refl

  -- and the same slots of a tile
  slots_alike : (frame : Frame) (attrs : List Attr) (head : StoredHead) (leaf : SubBox) (count : ℕ) (ranges : List Ranged) → SameAttrs 0 attrs
      → slots_of_tile frame attrs ps head leaf count ranges ≡ slots_of_tile frame attrs qs head leaf count ranges
  unfolding slots_of_tile
  slots_alike frame attrs head leaf count ranges all =
      let made : List (List Val) → Result (List ℕ) Fault → Result (List StoredCell) Fault = λ vals r. and_then r (λ origins. Ok (cells_from (coords_in_order frame.cell leaf) origins (rows_in count vals))) in
      let one : List (List Val) → Result (List StoredCell) Fault = λ vals. made vals (slot_origins_if head.consolidated (length head.origins) ps attrs count (rows_in count vals) ranges) in
      let two : List (List Val) → Result (List StoredCell) Fault = λ vals. made vals (slot_origins_if head.consolidated (length head.origins) qs attrs count (rows_in count vals) ranges) in
      ap (λ (r : Result (List (List Val)) Fault). and_then r one) (vals_alike count ranges 0 attrs all)
      ∙ steps_alike one two (λ vals. ap (made vals) (slot_origins_alike head.consolidated (length head.origins) attrs count (rows_in count vals) ranges all)) (vals_of_tile qs count ranges 0 attrs)

  -- and of tiles
  pub tiles_alike : (frame : Frame) (attrs : List Attr) (head : StoredHead) (tiles : List WantedTile) (got : List (List ℕ)) → SameAttrs 0 attrs
      → slots_of_tiles frame attrs ps head tiles got ≡ slots_of_tiles frame attrs qs head tiles got
  tiles_alike frame attrs head [] got all = refl
  tiles_alike frame attrs head (t ∷ tiles) got all =
      let behind : Result (List StoredCell) Fault → List StoredCell → Result (List StoredCell) Fault = λ r slots. and_then r (λ others. Ok (slots ++ others)) in
      let one = slots_of_tiles frame attrs ps head tiles (drop (length t.spans) got) in
      let two = slots_of_tiles frame attrs qs head tiles (drop (length t.spans) got) in
      ap (λ (r : Result (List StoredCell) Fault). and_then r (behind one)) (slots_alike frame attrs head t.leaf t.cells (ranged t.spans got) all)
      ∙ ap (λ (r : Result (List StoredCell) Fault). and_then (slots_of_tile frame attrs qs head t.leaf t.cells (ranged t.spans got)) (behind r)) (tiles_alike frame attrs head tiles (drop (length t.spans) got) all)

-- two fetches use the same objects, and read the same attributes
pub record AreSame (attrs : List Attr) (footer : Footer) (ps qs : List ℕ) : Type 0 where
  pub used : space_used attrs footer ps ≡ space_used attrs footer qs
  pub read : SameAttrs ps qs 0 attrs

-- so it is where their lists of sizes are one
pub used_same : (attrs : List Attr) (footer : Footer) (ps qs : List ℕ) → map sized_of (space_used attrs footer ps) ≡ map sized_of (space_used attrs footer qs) → AreSame attrs footer ps qs
unfolding space_used column_parts
used_same attrs footer ps qs same =
    let parts = column_parts [] attrs footer.head.consolidated in
    let forms = column_forms [] attrs footer.head.consolidated in
    let told = columns_told parts forms footer.sizes in
    let alike = both_used ps qs told (used_there ps qs told same) (used_there qs ps told (sym same)) in
    let each = told_each (Alike ps qs) parts forms footer.sizes (forms_many [] attrs footer.head.consolidated) alike in
    record {
      used = filter_same (λ (c : UsedColumn). is_used ps c.part) (λ (c : UsedColumn). is_used qs c.part) told alike;
      read = attrs_alike ps qs 0 attrs (origin_parts footer.head.consolidated) each;
    }

-- ---- what was got of tiles

-- a step that failed did so at once, or behind one that gave a value
stopped : {A B : Type 0} (r : Result A Fault) (next : A → Result B Fault) (fault : Fault) → and_then r next ≡ Err fault → (r ≡ Err fault) ⊎ ((x : A) × (r ≡ Ok x) × (next x ≡ Err fault))
stopped (Ok x) next fault h = inr (x, refl, h)
stopped (Err there) next fault h = let is : there ≡ fault = cc in inl (ap Err is)

-- what was got of these spans is the same, and so is what was got of those behind them
record SameRanged (xs ys : List Span) (plan other : List Planned) (got heard : List (List ℕ)) : Type 0 where
  same : ranged xs got ≡ ranged ys heard
  one : AreRanges plan (drop (length xs) got)
  two : AreRanges other (drop (length ys) heard)
  rest : gots_on plan (drop (length xs) got) ≡ gots_on other (drop (length ys) heard)

-- plans with as many spans in front that heard the same got the same of these spans
same_ranged : (xs ys : List Span) (plan other : List Planned) (got heard : List (List ℕ)) → length xs ≡ length ys → AreRanges (map span_call xs ++ plan) got → AreRanges (map span_call ys ++ other) heard
    → gots_on (map span_call xs ++ plan) got ≡ gots_on (map span_call ys ++ other) heard → SameRanged xs ys plan other got heard
same_ranged [] [] plan other got heard many one two e = record { same = refl; one = one; two = two; rest = e }
same_ranged [] (y ∷ ys) plan other got heard many one two e = absurd (omega (arith, many))
same_ranged (x ∷ xs) [] plan other got heard many one two e = absurd (omega (arith, many))
same_ranged (x ∷ xs) (y ∷ ys) plan other [] heard many one two e = absurd one
same_ranged (x ∷ xs) (y ∷ ys) plan other (b ∷ got) [] many one two e = absurd two
same_ranged (x ∷ xs) (y ∷ ys) plan other (b ∷ got) (c ∷ heard) many one two e =
    let parts = cons_parts (got_of x b) (got_of y c) (gots_on (map span_call xs ++ plan) got) (gots_on (map span_call ys ++ other) heard) e in
    let names : x.part ≡ y.part = ap (λ (g : Got). g.part) parts.0 in
    let froms : x.from ≡ y.from = ap (λ (g : Got). g.at) parts.0 in
    let bytes : b ≡ c = ap (λ (g : Got). g.bytes) parts.0 in
    let rest = same_ranged xs ys plan other got heard (omega (arith, many)) one.1 two.1 parts.1 in
    record {
      same = (λ i. record { part = names i; from = froms i; bytes = bytes i } ∷ rest.same i);
      one = rest.one;
      two = rest.two;
      rest = rest.rest;
    }

-- two tiles of which the same was got have as many cells, where the bytes of one of them are as many as its cells ask
same_count : (width m n : ℕ) (b c : List ℕ) → 1 ≤ width → b ≡ c → nat_lt (length b) (width * m) ≡ nat_lt (length c) (width * n) → length b ≡ width * m → length c ≤ width * n → m ≡ n
same_count width m n b c wide same ends long few =
    let lengths : length b ≡ length c = ap length same in
    let full : nat_lt (length b) (width * m) ≡ false = le-ltb (length b) (width * m) (omega (arith, long)) in
    let other : width * n ≤ length c = ltb-false (length c) (width * n) (sym ends ∙ full) in
    let to : width * m ≤ width * n = omega (arith, lengths, long, few) in
    let back : width * n ≤ width * m = omega (arith, lengths, long, other) in
    let less : m ≤ n = le_of_mul-le-mul_left to (omega (arith, wide)) in
    let more : n ≤ m = le_of_mul-le-mul_left back (omega (arith, wide)) in
    omega (arith, less, more)

-- the slots in a box with these values and origins
abbrev made_in : Frame → ℕ → SubBox → List (List Val) → Result (List ℕ) Fault → Result (List StoredCell) Fault
made_in frame count box vals r = and_then r (λ origins. Ok (cells_from (coords_in_order frame.cell box) origins (rows_in count vals)))

-- where slots lie does not tell whether they are broken
leaf_free : (frame : Frame) (attrs : List Attr) (places : List ℕ) (head : StoredHead) (leaf other : SubBox) (count : ℕ) (ranges : List Ranged) (slots : List StoredCell) (fault : Fault)
    → slots_of_tile frame attrs places head leaf count ranges ≡ Ok slots → slots_of_tile frame attrs places head other count ranges ≡ Err fault → ⊥
unfolding slots_of_tile
leaf_free frame attrs places head leaf other count ranges slots fault = by (vals_of_tile places count ranges 0 attrs)
  where
    by_origins : (vals : List (List Val)) (r : Result (List ℕ) Fault) → made_in frame count leaf vals r ≡ Ok slots → made_in frame count other vals r ≡ Err fault → ⊥
    by_origins vals (Ok origins) one two = cc
    by_origins vals (Err there) one two = cc

    by : (r : Result (List (List Val)) Fault) → and_then r (λ vals. made_in frame count leaf vals (slot_origins_if head.consolidated (length head.origins) places attrs count (rows_in count vals) ranges)) ≡ Ok slots
        → and_then r (λ vals. made_in frame count other vals (slot_origins_if head.consolidated (length head.origins) places attrs count (rows_in count vals) ranges)) ≡ Err fault → ⊥
    by (Ok vals) one two = by_origins vals (slot_origins_if head.consolidated (length head.origins) places attrs count (rows_in count vals) ranges) one two
    by (Err there) one two = cc

-- a part is itself
part_itself : (p : Part) → (same.ghosts).eq p p ≡ true
part_itself part.Meta = refl
part_itself (part.Attr n) = eq-eqb n n refl
part_itself (part.Var n) = eq-eqb n n refl
part_itself (part.Validity n) = eq-eqb n n refl
part_itself (part.Dim n) = eq-eqb n n refl
part_itself part.Origin = refl
part_itself part.Plain = refl

module _ (frame : Frame) (attrs : List Attr) (footer : Footer) (places : List ℕ) where
  -- the gets of the tiles at these places
  abbrev gets : List UsedColumn → List ℕ → List Planned
  gets used tiles = flat_map tile_calls (space_tiles frame footer used tiles)

  -- the slots of the tiles at these places
  abbrev slots_at : List UsedColumn → List ℕ → List (List ℕ) → Result (List StoredCell) Fault
  slots_at used tiles got = slots_of_tiles frame attrs places footer.head (space_tiles frame footer used tiles) got

  -- of what is the same, not one reading finds nothing broken and another something
  abbrev pub NotBoth : List UsedColumn → Type 0
  NotBoth used = (tiles more : List ℕ) (got heard : List (List ℕ)) (slots : List StoredCell) (fault : Fault) → AreRanges (gets used tiles) got → AreRanges (gets used more) heard
      → gots_on (gets used tiles) got ≡ gots_on (gets used more) heard → slots_at used tiles got ≡ Ok slots → slots_at used more heard ≡ Err fault → ⊥

  module _ (p : Part) (width : ℕ) (wide : 1 ≤ width) (size : ColumnSize) (others : List UsedColumn)
      (long : (leaf : SubBox) (count : ℕ) (ranges : List Ranged) (slots : List StoredCell) → slots_of_tile frame attrs places footer.head leaf count ranges ≡ Ok slots → length (bytes_of ranges p) ≡ width * count) where
    -- the first object has so many bytes for each cell
    abbrev objects : List UsedColumn
    objects = record { part = p; form = Fixed width; size = size } ∷ others

    -- the spans of the tile at a place
    abbrev spans_at : ℕ → List Span
    spans_at i = map (space_span frame footer i) objects

    -- something is got of a tile
    some_got : (j : ℕ) (more : List ℕ) (heard : List (List ℕ)) → AreRanges (gets objects (j ∷ more)) heard → [] ≡ gots_on (gets objects (j ∷ more)) heard → ⊥
    some_got j more [] two e = two
    some_got j more (c ∷ heard) two e = cc

    -- two tiles of which the same was got have as many cells
    cells_same : (i j : ℕ) (tiles more : List ℕ) (b c : List ℕ) (got heard : List (List ℕ)) (slots : List StoredCell) → AreRanges (gets objects (j ∷ more)) (c ∷ heard)
        → gots_on (gets objects (i ∷ tiles)) (b ∷ got) ≡ gots_on (gets objects (j ∷ more)) (c ∷ heard)
        → slots_of_tile frame attrs places footer.head (space_tile frame footer objects i).leaf (space_tile frame footer objects i).cells (ranged (spans_at i) (b ∷ got)) ≡ Ok slots
        → (space_tile frame footer objects i).cells ≡ (space_tile frame footer objects j).cells
    cells_same i j tiles more b c got heard slots two e ok =
        let t = space_tile frame footer objects i in
        let u = space_tile frame footer objects j in
        let first : UsedColumn = record { part = p; form = Fixed width; size = size } in
        let parts = cons_parts (got_of (space_span frame footer i first) b) (got_of (space_span frame footer j first) c)
        (gots_on (map span_call (map (space_span frame footer i) others) ++ gets objects tiles) got) (gots_on (map span_call (map (space_span frame footer j) others) ++ gets objects more) heard) e in
        let bytes : b ≡ c = ap (λ (g : Got). g.bytes) parts.0 in
        let ends : nat_lt (length b) (width * t.cells) ≡ nat_lt (length c) (width * u.cells) = ap (λ (g : Got). g.ends) parts.0 in
        let here : bytes_of (ranged (spans_at i) (b ∷ got)) p ≡ b = cond-true ((same.ghosts).eq p p) b (bytes_of (ranged (map (space_span frame footer i) others) got) p) (part_itself p) in
        let all : length b ≡ width * t.cells = ap length (sym here) ∙ long t.leaf t.cells (ranged (spans_at i) (b ∷ got)) slots ok in
        same_count width t.cells u.cells b c wide bytes ends all two.0.1

    not_both_tiles : NotBoth objects
    not_both_tiles tiles [] got heard slots fault one two e ok bad = cc
    not_both_tiles [] (j ∷ more) got heard slots fault one two e ok bad = some_got j more heard two e
    not_both_tiles (i ∷ tiles) (j ∷ more) [] heard slots fault one two e ok bad = one
    not_both_tiles (i ∷ tiles) (j ∷ more) (b ∷ got) [] slots fault one two e ok bad = two
    not_both_tiles (i ∷ tiles) (j ∷ more) (b ∷ got) (c ∷ heard) slots fault one two e ok bad =
        let t = space_tile frame footer objects i in
        let u = space_tile frame footer objects j in
        let many : length t.spans ≡ length u.spans = length-map objects (space_span frame footer i) ∙ sym (length-map objects (space_span frame footer j)) in
        let is = same_ranged t.spans u.spans (gets objects tiles) (gets objects more) (b ∷ got) (c ∷ heard) many one two e in
        let then_slots : List ℕ → List (List ℕ) → List StoredCell → Result (List StoredCell) Fault = λ rest found own. and_then (slots_at objects rest found) (λ next. Ok (own ++ next)) in
        let first = then_ok (slots_of_tile frame attrs places footer.head t.leaf t.cells (ranged t.spans (b ∷ got))) (then_slots tiles (drop (length t.spans) (b ∷ got))) slots ok in
        let rest = then_ok (slots_at objects tiles (drop (length t.spans) (b ∷ got))) (λ next. Ok (first.0 ++ next)) slots first.2 in
        let cells : t.cells ≡ u.cells = cells_same i j tiles more b c got heard first.0 two e first.1 in
        elim (stopped (slots_of_tile frame attrs places footer.head u.leaf u.cells (ranged u.spans (c ∷ heard))) (then_slots more (drop (length u.spans) (c ∷ heard))) fault bad) [
          | inl here ↦
              leaf_free frame attrs places footer.head t.leaf u.leaf t.cells (ranged t.spans (b ∷ got)) first.0 fault first.1
              (ap (λ k. slots_of_tile frame attrs places footer.head u.leaf k (ranged t.spans (b ∷ got))) cells ∙ ap (slots_of_tile frame attrs places footer.head u.leaf u.cells) is.same ∙ here)
          | inr behind ↦ elim (stopped (slots_at objects more (drop (length u.spans) (c ∷ heard))) (λ next. Ok (behind.0 ++ next)) fault behind.2) [
            | inl there ↦ not_both_tiles tiles more (drop (length t.spans) (b ∷ got)) (drop (length u.spans) (c ∷ heard)) rest.0 fault is.one is.two is.rest rest.1 there
            | inr none ↦ no_fault (behind.0 ++ none.0) fault none.2
          ]
        ]
      where
        no_fault : (made : List StoredCell) (at : Fault) → ◌≡◌ {A = Result (List StoredCell) Fault} (Ok made) (Err at) → ⊥
        no_fault made at e = cc

  -- so it is where the first object that is used has so many bytes for each cell
  pub not_both_read : HasFirst attrs footer places → NotBoth (space_used attrs footer places)
  not_both_read f =
      let first = f.is_first in
      subst NotBoth (sym first.is) (not_both_tiles f.first f.width f.wide first.size first.others (λ leaf count ranges slots ok. f.long frame leaf count ranges slots ok))
