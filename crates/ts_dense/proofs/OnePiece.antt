-- The parts of a dense fragment store one piece.
use Rattle.std.proofs.Common.{◌≡◌, ℕ, suc, ◌^◌, ◌<◌, ℤ, Bool, true, false, not, cond, List, [], ◌∷◌, ◌++◌, length, map, get_or, sum, Option, refl, sym, ap, ◌∙◌, subst, arith, inl, inr}
use Rattle.std.specs.Prelude.{IsTrue, nat_lt, nat_eq}
use Rattle.std.specs.List.{All}
use Rattle.std.proofs.lemmas.Bool.{true≢false, and_parts, ltb-true, eqb-true, ne_eqb}
use Rattle.std.proofs.lemmas.List.{length-map}
use Rattle.std.proofs.lemmas.List.Elements.{All-head, All-map, All-weaker, All-contains}
use Rattle.ts_base.specs.declared.names.PartBytes.{PartBytes}
use Rattle.ts_base.specs.declared.keys.FragKey.{FragKey}
use Rattle.ts_base.specs.declared.values.Val.TheVariants.{Null}
use Rattle.ts_base.specs.declared.heads.Piece.{Piece}
use Rattle.ts_base.specs.declared.names.Part.{Part}
use Rattle.ts_base.specs.declared.names.Part.TheVariants as part
use Rattle.ts_domain.proofs.DomainLemmas.{All-IsDomain}
use Rattle.ts_wire.specs.declared.kinds.Kind.TheVariants as kind
use Rattle.ts_wire.specs.Exact.{EachFits}
use Rattle.ts_wire.proofs.Numbers.{number_exact}
use Rattle.ts_schema.specs.declared.attrs.Attr.{Attr}
use Rattle.ts_schema.specs.declared.frames.Frame.{Frame}
use Rattle.ts_schema.specs.declared.schemas.Schema.{Schema}
use Rattle.ts_plain.specs.declared.stored.StoredHead.{StoredHead}
use Rattle.ts_plain.specs.declared.stored.StoredCell.{StoredCell}
use Rattle.ts_plain.specs.declared.stored.StoredPiece.{StoredPiece}
use Rattle.ts_plain.specs.Rules.{last_of, origin_rises, may_count}
use Rattle.ts_plain.specs.Plain.{FitsValue, FitsCell}
use Rattle.ts_plain.specs.Pieces.{piece_of}
use Rattle.ts_plain.specs.Writes.{box_of}
use Rattle.ts_plain.proofs.PlainExact.{head_exact}
use Rattle.ts_sparse.specs.Sparse.{origin_column, Object, origin_objects, sizes_of, column_part, IsThere}
use Rattle.ts_sparse.proofs.Apart.{split_same, spells_apart, lists_same}
use Rattle.ts_sparse.proofs.Shapes.{all_parts}
use Rattle.ts_sparse.proofs.Rows.{cons_parts, Same, rows_same}
use Rattle.ts_sparse.proofs.OnePiece.{Alike, alike-append, alike_many, alike_sizes, AllShort, short_parts, origins_alike, origins_same, cells_same, there_same, objects_same, there_short, in_turn_all}
use Rattle.ts_dense.specs.Slots.{tiles_over, counts_over, coords_over, no_origin, hole, is_hole, slots_of, cells_in}
use Rattle.ts_dense.specs.Dense.{attr_objects, objects_of, meta_bytes, meta_part, parts_of, FitsDense, IsDense}
use Rattle.ts_dense.proofs.RoomLaws.{room_of_short}
use Rattle.ts_dense.proofs.SlotColumns.{Held, attrs_alike, attrs_told}
use Rattle.ts_dense.proofs.HullOrder.{counts_many}
use Rattle.ts_dense.proofs.SpaceTiles.{slots_stand}
use Rattle.ts_dense.proofs.SlotLaws.{slots_many, IsSlotOf, each_slot, cells_back, slots_are_cells}

-- ---- the cells among slots

-- holes stand where the origins say so
holes_same : (cs es : List StoredCell) → origin_column cs ≡ origin_column es → map is_hole cs ≡ map is_hole es
holes_same [] [] same = refl
holes_same [] (e ∷ es) same = absurd (omega (arith, ap length same))
holes_same (c ∷ cs) [] same = absurd (omega (arith, ap length same))
holes_same (c ∷ cs) (e ∷ es) same =
    let origins = cons_parts c.origin e.origin (origin_column cs) (origin_column es) same in
    ap (λ i. nat_eq i no_origin ∷ map is_hole cs) origins.0 ∙ ap (λ bs. is_hole e ∷ bs) (holes_same cs es origins.1)

kept_one : {A : Type 0} (f : StoredCell → A) (p q : Bool) (c e : StoredCell) (cs es : List StoredCell) → p ≡ q → f c ≡ f e → map f cs ≡ map f es
    → map f (cond (not p) (c ∷ cs) cs) ≡ map f (cond (not q) (e ∷ es) es)
kept_one f true true c e cs es same one rest = rest
kept_one f true false c e cs es same one rest = absurd (true≢false same)
kept_one f false true c e cs es same one rest = absurd (true≢false (sym same))
kept_one f false false c e cs es same one rest = ap (λ x. x ∷ map f cs) one ∙ ap (λ xs. f e ∷ xs) rest

-- what is the same of slots with the same holes is the same of their cells
kept_same : {A : Type 0} (f : StoredCell → A) (cs es : List StoredCell) → map is_hole cs ≡ map is_hole es → map f cs ≡ map f es → map f (cells_in cs) ≡ map f (cells_in es)
kept_same f [] [] holes same = refl
kept_same f [] (e ∷ es) holes same = absurd (omega (arith, ap length holes))
kept_same f (c ∷ cs) [] holes same = absurd (omega (arith, ap length holes))
kept_same f (c ∷ cs) (e ∷ es) holes same =
    let first = cons_parts (is_hole c) (is_hole e) (map is_hole cs) (map is_hole es) holes in
    let parts = cons_parts (f c) (f e) (map f cs) (map f es) same in
    kept_one f (is_hole c) (is_hole e) c e (cells_in cs) (cells_in es) first.0 parts.0 (kept_same f cs es first.1 parts.1)

columns_kept : (k : ℕ) (attrs : List Attr) (cs es : List StoredCell) → map is_hole cs ≡ map is_hole es
    → Same FitsValue Null (λ c. c.row) k attrs cs es → Same FitsValue Null (λ c. c.row) k attrs (cells_in cs) (cells_in es)
columns_kept k [] cs es holes same = tt
columns_kept k (a ∷ attrs) cs es holes same = (kept_same (λ (c : StoredCell). get_or c.row k Null) cs es holes same.0, columns_kept (suc k) attrs cs es holes same.1)

-- ---- the objects of slots under a head

module _ (frame : Frame) (attrs : List Attr) where
  abbrev objects_in : StoredHead → List StoredCell → List Object
  objects_in head slots = attr_objects (counts_over frame (box_of head.hull)) 0 attrs slots ++ origin_objects head.consolidated slots

  slots_alike : (head : StoredHead) (cs es : List StoredCell) → length cs ≡ length es → Alike (objects_in head cs) (objects_in head es)
  slots_alike head cs es long =
      let counts = counts_over frame (box_of head.hull) in
      alike-append (attr_objects counts 0 attrs cs) (attr_objects counts 0 attrs es) _ _ (attrs_alike counts cs es long 0 attrs) (origins_alike cs es long head.consolidated)

  -- what is known of slots, some of which are holes
  record Known (head : StoredHead) (slots : List StoredCell) : Type 0 where
    held : All (Held 0 attrs) slots
    small : All (λ i. i < 256 ^ 4) (origin_column slots)
    zero_only : head.consolidated ≡ false → All (λ i. i ≡ 0) (origin_column slots)
    rows : All (λ c. EachFits FitsValue attrs c.row) (cells_in slots)
    short : AllShort (objects_in head slots)

  -- the same objects hold the same cells
  objects_tell : (head : StoredHead) (cs es : List StoredCell) → length cs ≡ sum (counts_over frame (box_of head.hull)) → map (λ (c : StoredCell). c.coords) cs ≡ map (λ (c : StoredCell). c.coords) es
      → Known head cs → Known head es → objects_in head cs ≡ objects_in head es → cells_in cs ≡ cells_in es
  objects_tell head cs es all coords kc ke objects =
      let counts = counts_over frame (box_of head.hull) in
      let coords_of : StoredCell → List ℤ = λ c. c.coords in
      let long : length cs ≡ length es = sym (length-map cs coords_of) ∙ ap length coords ∙ length-map es coords_of in
      let one = attr_objects counts 0 attrs cs in
      let two = attr_objects counts 0 attrs es in
      let parts = split_same one two (origin_objects head.consolidated cs) (origin_objects head.consolidated es) (alike_many one two (attrs_alike counts cs es long 0 attrs)) objects in
      let origins = origins_same cs es long head.consolidated kc.small ke.small kc.zero_only ke.zero_only parts.1 in
      let holes = holes_same cs es origins in
      let values = attrs_told counts cs es all long holes 0 attrs kc.held ke.held (short_parts one (origin_objects head.consolidated cs) kc.short).0 (short_parts two (origin_objects head.consolidated es) ke.short).0 parts.0 in
      let kept = kept_same coords_of cs es holes coords in
      let as_many : length (cells_in cs) ≡ length (cells_in es) = sym (length-map (cells_in cs) coords_of) ∙ ap length kept ∙ length-map (cells_in es) coords_of in
      cells_same (cells_in cs) (cells_in es) kept
      (rows_same FitsValue Null (λ c. c.row) 0 attrs (cells_in cs) (cells_in es) as_many kc.rows ke.rows (columns_kept 0 attrs cs es holes values))
      (kept_same (λ (c : StoredCell). c.origin) cs es holes origins)

-- ---- what holds of each slot

-- what holds of holes and of the cells holds of the slots
each_holds : (frame : Frame) (s : StoredPiece) (P : StoredCell → Type 0) → ((at : List ℤ) → P (hole at)) → All P s.cells → All P (slots_of frame s)
unfolding slots_of
each_holds frame s P holes cells =
    let coords = coords_over frame (box_of s.head.hull) in
    All-weaker (IsSlotOf s.cells) P (λ slot is. by slot is) (slots_of frame s) (each_slot coords s.cells)
  where
    by : (slot : StoredCell) → IsSlotOf s.cells slot → P slot
    by slot (inl e) = subst P (sym e) (holes slot.coords)
    by slot (inr is) = All-contains P s.cells slot cells is

module _ (frame : Frame) (attrs : List Attr) (frag : FragKey) where
  place_below : (head : StoredHead) (front : List StoredCell) (c : StoredCell) → FitsCell frame attrs head front c → c.origin < length head.origins
  place_below head front c fits = ltb-true c.origin (length head.origins) (and_parts (nat_lt c.origin (length head.origins)) (origin_rises frame.dense (last_of front) c.coords c.origin) fits.known).0

  cells_held : (s : StoredPiece) → FitsDense frame attrs frag s → All (Held 0 attrs) s.cells
  cells_held s fits =
      in_turn_all (FitsCell frame attrs s.head) (Held 0 attrs)
      (λ front c f. let below = place_below s.head front c f in let few = (fits.head).few_origins in inr (ne_eqb c.origin no_origin (λ same. omega (arith, same, below, few)), f.row)) [] s.cells fits.cells

  slots_small : (s : StoredPiece) → FitsDense frame attrs frag s → All (λ i. i < 256 ^ 4) (origin_column (slots_of frame s))
  slots_small s fits =
      All-map (λ i. i < 256 ^ 4) (λ (c : StoredCell). c.origin) (slots_of frame s)
      (each_holds frame s (λ (c : StoredCell). c.origin < 256 ^ 4) (λ at. omega arith) (in_turn_all (FitsCell frame attrs s.head) (λ c. c.origin < 256 ^ 4) (λ front c f. f.origin) [] s.cells fits.cells))

  -- a fragment that is not consolidated has one origin, and no hole
  slots_zero : (s : StoredPiece) → FitsDense frame attrs frag s → s.head.consolidated ≡ false → All (λ i. i ≡ 0) (origin_column (slots_of frame s))
  slots_zero s fits no_other =
      let one : IsTrue (may_count false (length s.head.origins)) = subst (λ b. IsTrue (may_count b (length s.head.origins))) no_other (fits.head).some_origin in
      let only = eqb-true (length s.head.origins) 1 one in
      let zeros = in_turn_all (FitsCell frame attrs s.head) (λ c. c.origin ≡ 0) (λ front c f. let below = place_below s.head front c f in omega (arith, below, only)) [] s.cells fits.cells in
      All-map (λ i. i ≡ 0) (λ (c : StoredCell). c.origin) (slots_of frame s) (subst (All (λ (c : StoredCell). c.origin ≡ 0)) (sym (slots_are_cells frame attrs frag s fits no_other)) zeros)

  -- the space tiles have room for the slots, and for no more
  slots_counted : (s : StoredPiece) → FitsDense frame attrs frag s → length (slots_of frame s) ≡ sum (counts_over frame (box_of s.head.hull))
  unfolding slots_of
  slots_counted s fits =
      slots_many (coords_over frame (box_of s.head.hull)) s.cells ∙ sym (counts_many frame s.head.hull (All-IsDomain frame.domain (fits.sound).domain) (fits.head).hull)

  known_slots : {look : Part → Option (List ℕ)} (s : StoredPiece) → FitsDense frame attrs frag s → All (IsThere look) (map column_part (objects_of frame attrs s)) → Known frame attrs s.head (slots_of frame s)
  unfolding objects_of
  known_slots {look = look} s fits there = record {
    held = each_holds frame s (Held 0 attrs) (λ at. inl (refl, refl)) (cells_held s fits);
    small = slots_small s fits;
    zero_only = slots_zero s fits;
    rows = subst (All (λ (c : StoredCell). EachFits FitsValue attrs c.row)) (sym (cells_back frame attrs frag s fits)) (in_turn_all (FitsCell frame attrs s.head) (λ c. EachFits FitsValue attrs c.row) (λ front c f. f.row) [] s.cells fits.cells);
    short = there_short look (objects_of frame attrs s) there;
  }

  -- eight bytes can say each length of an object that is there
  room : {look : Part → Option (List ℕ)} (s : StoredPiece) → All (IsThere look) (parts_of frame attrs s) → All (λ size. size < 2 ^ 64) (sizes_of (objects_of frame attrs s))
  room {look = look} s there = room_of_short frame attrs s (All-weaker (IsThere look) (λ (p : PartBytes). length p.bytes < 2 ^ 64) (λ p is. is.few) (parts_of frame attrs s) there)

  -- ---- one stored form

  -- stored forms with one head, whose objects are there, are one
  same_cells : (look : Part → Option (List ℕ)) (s t : StoredPiece) → FitsDense frame attrs frag s → FitsDense frame attrs frag t → s.head ≡ t.head
      → All (IsThere look) (map column_part (objects_of frame attrs s)) → All (IsThere look) (map column_part (objects_of frame attrs t))
      → (Alike (objects_of frame attrs s) (objects_of frame attrs t) → sizes_of (objects_of frame attrs s) ≡ sizes_of (objects_of frame attrs t)) → s.cells ≡ t.cells
  unfolding objects_of
  same_cells look s t fs ft same ps pt sizes =
      let cs = slots_of frame s in
      let es = slots_of frame t in
      let coords : map (λ (c : StoredCell). c.coords) cs ≡ map (λ (c : StoredCell). c.coords) es = slots_stand frame attrs frag s fs ∙ ap (λ h. coords_over frame (box_of h.hull)) same ∙ sym (slots_stand frame attrs frag t ft) in
      let long : length cs ≡ length es = sym (length-map cs (λ (c : StoredCell). c.coords)) ∙ ap length coords ∙ length-map es (λ (c : StoredCell). c.coords) in
      let moved : objects_in frame attrs s.head es ≡ objects_of frame attrs t = ap (λ h. objects_in frame attrs h es) same in
      let alike = subst (Alike (objects_of frame attrs s)) moved (slots_alike frame attrs s.head cs es long) in
      let objects = objects_same look (objects_of frame attrs s) (objects_of frame attrs t) alike ps pt (sizes alike) in
      let known : Known frame attrs s.head es = subst (λ h. Known frame attrs h es) (sym same) (known_slots {look = look} t ft pt) in
      let cells = objects_tell frame attrs s.head cs es (slots_counted s fs) coords (known_slots {look = look} s fs ps) known (objects ∙ sym moved) in
      sym (cells_back frame attrs frag s fs) ∙ cells ∙ cells_back frame attrs frag t ft

  -- the parts store one thing
  pub one_stored : (look : Part → Option (List ℕ)) (s t : StoredPiece) → FitsDense frame attrs frag s → FitsDense frame attrs frag t
      → All (IsThere look) (parts_of frame attrs s) → All (IsThere look) (parts_of frame attrs t) → s ≡ t
  unfolding parts_of meta_bytes
  one_stored look s t fs ft ps pt =
      let p = all_parts (IsThere look) (map column_part (objects_of frame attrs s)) (meta_part frame attrs s ∷ []) ps in
      let q = all_parts (IsThere look) (map column_part (objects_of frame attrs t)) (meta_part frame attrs t ∷ []) pt in
      let meta = there_same look kind.Meta part.Meta part.Meta (meta_bytes frame attrs s) (meta_bytes frame attrs t) refl (All-head (IsThere look) (meta_part frame attrs s) [] p.1) (All-head (IsThere look) (meta_part frame attrs t) [] q.1) in
      let head = spells_apart (head_exact frame frag) s.head t.head _ _ fs.head ft.head meta in
      let tiles = spells_apart (number_exact 4) (length (tiles_over frame (box_of s.head.hull))) (length (tiles_over frame (box_of t.head.hull))) _ _ fs.few ft.few head.1 in
      let cells = same_cells look s t fs ft head.0 p.0 q.0
      (λ alike. lists_same (number_exact 8) (sizes_of (objects_of frame attrs s)) (sizes_of (objects_of frame attrs t)) (alike_sizes (objects_of frame attrs s) (objects_of frame attrs t) alike) (room {look = look} s ps) (room {look = look} t pt) tiles.1) in
      let first = head.0 in
      λ i. record { head = first i; cells = cells i }

-- the parts of a fragment store one piece
pub one_dense : (frame : Frame) (schema : Schema) (p q : Piece) (look : Part → Option (List ℕ)) → p.head.frag ≡ q.head.frag → IsDense frame schema p look → IsDense frame schema q look → p ≡ q
one_dense frame schema p q look named is other =
    let P : FragKey → Type 0 = λ frag. FitsDense frame schema.attrs frag other.stored in
    let fits : FitsDense frame schema.attrs p.head.frag other.stored = subst P (sym named) other.fits in
    let same = one_stored frame schema.attrs p.head.frag look is.stored other.stored is.fits fits is.parts other.parts in
    is.same ∙ ap (λ s. piece_of p.head.frag s) same ∙ ap (λ frag. piece_of frag other.stored) named ∙ sym other.same
