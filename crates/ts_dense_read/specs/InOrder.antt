-- The versions that a fetch takes lie in the domain, and ascend in global order.
use Rattle.std.proofs.Common.{◌≡◌, ℕ, suc, ◌+◌, ◌<◌, ℤ, Bool, true, false, cond, List, [], ◌∷◌, ◌++◌, length, map, filter, get_or, refl, sym, ap, ◌∙◌, subst, arith}
use Rattle.std.specs.Prelude.{IsTrue, not, if◌then◌else◌}
use Rattle.std.specs.List.{flat_map, All, AllByRecursion}
use Rattle.std.specs.Ordering.{ordering_then}
use Rattle.std.specs.declared.cmp.Ordering.{Ordering}
use Rattle.std.specs.declared.cmp.Ordering.TheVariants.{Less}
use Rattle.std.proofs.lemmas.List.{map-append}
use Rattle.std.proofs.lemmas.List.Elements.{All-nil, All-cons}
use Rattle.ts_base.specs.declared.values.Val.{Val}
use Rattle.ts_base.specs.declared.heads.Version.{Version}
use Rattle.ts_base.specs.Keys.{key_cmp}
use Rattle.ts_domain.specs.declared.boxes.SubBox.{SubBox}
use Rattle.ts_domain.specs.Boxes.{is_in_box, do_boxes_meet}
use Rattle.ts_domain.specs.Domains.{LiesInDomain}
use Rattle.ts_domain.specs.Rects.{places_from, places_meeting}
use Rattle.ts_order.specs.Orders.{order_cmp, global_cmp, coords_in_order}
use Rattle.ts_order.specs.Tiles.{cut_box, tile_box}
use Rattle.ts_order.proofs.InOrder.{InOrder}
use Rattle.ts_wire.specs.Exact.{EachFits}
use Rattle.ts_schema.specs.declared.attrs.Attr.{Attr}
use Rattle.ts_schema.specs.declared.frames.Frame.{Frame}
use Rattle.ts_plain.specs.declared.stored.StoredHead.{StoredHead}
use Rattle.ts_plain.specs.declared.stored.StoredCell.{StoredCell}
use Rattle.ts_plain.specs.Plain.{FitsSide}
use Rattle.ts_plain.specs.Pieces.{version_in}
use Rattle.ts_plain.specs.Writes.{box_of}
use Rattle.ts_plain.specs.Merges.{global_order, version_cmp, VersionsAscend, LiesInside, IsOrdered}
use Rattle.ts_footer.specs.declared.footers.Footer.{Footer}
use Rattle.ts_footer.specs.declared.tilings.Tiling.TheVariants.{Dense}
use Rattle.ts_footer.proofs.MetaObjects.{laid_found}
use Rattle.ts_actor.specs.PieceLaws.{TakesOrdered}
use Rattle.ts_dense.specs.Slots.{tiles_over, is_hole, cells_in, versions_of}
use Rattle.ts_dense.proofs.HullOrder.{hull_box}
use Rattle.ts_dense.proofs.SpaceTiles.{coords_of}
use Rattle.ts_sparse_read.specs.declared.opened.UsedColumn.{UsedColumn}
use Rattle.ts_sparse_read.specs.TileReads.{cells_from}
use Rattle.ts_sparse_read.specs.Opens.{no_box, is_box_in}
use Rattle.ts_sparse_read.specs.InOrder.{taken_ordered}
use Rattle.ts_sparse_read.specs.WholeTiles.{in_domain}
use Rattle.ts_dense_read.specs.AnyTiles.{numbers_in_order, numbers_whole, IsTilePart, tile_part, joined, parts_in_order, parts_inside}
use Rattle.ts_dense_read.specs.SpaceOpens.{space_tiles, space_places}
use Rattle.ts_dense_read.specs.SpaceCodecs.{space_codec}
use Rattle.ts_dense_read.specs.ReadSlots.{AreRead, taken_slots}

-- ---- some of a list

module _ {X : Type 0} (p : X → Bool) where
  -- what holds of all holds of those that pass
  filter_all : (P : X → Type 0) (xs : List X) → AllByRecursion P xs → AllByRecursion P (filter p xs)
  filter_all P [] all = tt
  filter_all P (x ∷ xs) all = by (filter_all P xs all.1) (p x)
    where
      by : AllByRecursion P (filter p xs) → (b : Bool) → AllByRecursion P (cond b (x ∷ filter p xs) (filter p xs))
      by rest true = (all.0, rest)
      by rest false = rest

  -- those that pass keep their order
  filter_in_order : (cmp : X → X → Ordering) (xs : List X) → InOrder cmp xs → InOrder cmp (filter p xs)
  filter_in_order cmp [] up = tt
  filter_in_order cmp (x ∷ xs) up = by (filter_in_order cmp xs up.1) (p x)
    where
      by : InOrder cmp (filter p xs) → (b : Bool) → InOrder cmp (cond b (x ∷ filter p xs) (filter p xs))
      by rest true = (filter_all (λ (y : X). cmp x y ≡ Less) xs up.0, rest)
      by rest false = rest

-- of what f makes, those pass that are made of what passes
filter_made : {X Y : Type 0} (p : Y → Bool) (f : X → Y) (xs : List X) → filter p (map f xs) ≡ map f (filter (λ x. p (f x)) xs)
filter_made p f [] = refl
filter_made p f (x ∷ xs) = by (p (f x)) (filter_made p f xs)
  where
    by : (b : Bool) → filter p (map f xs) ≡ map f (filter (λ x. p (f x)) xs) → cond b (f x ∷ filter p (map f xs)) (filter p (map f xs)) ≡ map f (cond b (x ∷ filter (λ x. p (f x)) xs) (filter (λ x. p (f x)) xs))
    by true rest = ap (λ ys. f x ∷ ys) rest
    by false rest = rest

-- ---- the tiles that meet a box

-- what stands at the places of the boxes that meet a box are those boxes
boxes_met : (sub : SubBox) (f : ℕ → SubBox) (first : ℕ) (boxes : List SubBox) → ((k : ℕ) → k < length boxes → f (first + k) ≡ get_or boxes k no_box)
    → map f (places_from sub first boxes) ≡ filter (λ (b : SubBox). do_boxes_meet b sub) boxes
boxes_met sub f first [] at = refl
boxes_met sub f first (b ∷ bs) at =
    let step = λ (k : ℕ) (within : k < length bs). let next : (first + 1) + k ≡ first + suc k = omega arith in ap f next ∙ at (suc k) (omega (arith, within)) in
    let none : first ≡ first + 0 = omega arith in
    by (do_boxes_meet b sub) (boxes_met sub f (first + 1) bs step) (ap f none ∙ at 0 (omega arith))
  where
    by : (t : Bool) → map f (places_from sub (first + 1) bs) ≡ filter (λ (b : SubBox). do_boxes_meet b sub) bs → f first ≡ b
        → map f (if t then first ∷ places_from sub (first + 1) bs else places_from sub (first + 1) bs) ≡ cond t (b ∷ filter (λ (b : SubBox). do_boxes_meet b sub) bs) (filter (λ (b : SubBox). do_boxes_meet b sub) bs)
    by true rest here = ap (λ (x : SubBox). x ∷ map f (places_from sub (first + 1) bs)) here ∙ ap (λ (ys : List SubBox). b ∷ ys) rest
    by false rest here = rest

-- so it is of all boxes
pub boxes_meeting : (sub : SubBox) (boxes : List SubBox) → map (λ (i : ℕ). get_or boxes i no_box) (places_meeting sub boxes) ≡ filter (λ (b : SubBox). do_boxes_meet b sub) boxes
boxes_meeting sub boxes = boxes_met sub (λ (i : ℕ). get_or boxes i no_box) 0 boxes (λ k within. let same : 0 + k ≡ k = omega arith in ap (λ (n : ℕ). get_or boxes n no_box) same)

-- numbers of space tiles whose parts of a box are the boxes at these places, in tile order
record AreNumbered (frame : Frame) (hull : SubBox) (boxes : List SubBox) : Type 0 where
  numbers : List (List ℤ)
  made : boxes ≡ map (cut_box frame.domain hull) numbers
  up : InOrder (order_cmp frame.tile) numbers
  whole : AllByRecursion (λ (n : List ℤ). length n ≡ length frame.domain) numbers

-- the boxes of the tiles that a fetch reads are such
numbered : (frame : Frame) (hull sub : SubBox) → LiesInDomain frame.domain hull → (b : Bool)
    → AreNumbered frame hull (map (λ (i : ℕ). get_or (tiles_over frame hull) i no_box) (if b then places_meeting sub (tiles_over frame hull) else []))
numbered frame hull sub inside true =
    let ns = coords_in_order frame.tile (tile_box frame.domain hull) in
    let p = λ (n : List ℤ). do_boxes_meet (cut_box frame.domain hull n) sub in
    record {
      numbers = filter p ns;
      made = boxes_meeting sub (tiles_over frame hull) ∙ filter_made (λ (b : SubBox). do_boxes_meet b sub) (cut_box frame.domain hull) ns;
      up = filter_in_order p (order_cmp frame.tile) ns (numbers_in_order frame.domain frame.tile frame.cell hull inside);
      whole = filter_all p (λ (n : List ℤ). length n ≡ length frame.domain) ns (numbers_whole frame.domain frame.tile frame.cell hull inside);
    }
numbered frame hull sub inside false = record { numbers = []; made = refl; up = tt; whole = tt }

-- ---- slots at coordinates

-- slots are made at these coordinates, of some origins and rows
abbrev pub IsMadeAt : List (List ℤ) → List StoredCell → Type 0
IsMadeAt coords slots = (origins : List ℕ) × (rows : List (List Val)) × (cells_from coords origins rows ≡ slots)

-- what holds of the coordinates holds of those of the slots
front_all : (P : List ℤ → Type 0) (coords : List (List ℤ)) (origins : List ℕ) (rows : List (List Val)) → AllByRecursion P coords → AllByRecursion P (coords_of (cells_from coords origins rows))
front_all P [] origins rows all = tt
front_all P (c ∷ coords) [] rows all = tt
front_all P (c ∷ coords) (o ∷ origins) [] all = tt
front_all P (c ∷ coords) (o ∷ origins) (r ∷ rows) all = (all.0, front_all P coords origins rows all.1)

-- the slots are in the order of the coordinates
front_in_order : (cmp : List ℤ → List ℤ → Ordering) (coords : List (List ℤ)) (origins : List ℕ) (rows : List (List Val)) → InOrder cmp coords → InOrder cmp (coords_of (cells_from coords origins rows))
front_in_order cmp [] origins rows up = tt
front_in_order cmp (c ∷ coords) [] rows up = tt
front_in_order cmp (c ∷ coords) (o ∷ origins) [] up = tt
front_in_order cmp (c ∷ coords) (o ∷ origins) (r ∷ rows) up = (front_all (λ (y : List ℤ). cmp c y ≡ Less) coords origins rows up.0, front_in_order cmp coords origins rows up.1)

-- the coordinates of all slots are those of each part
pub coords_joined : (parts : List (List StoredCell)) → coords_of (flat_map (λ (t : List StoredCell). t) parts) ≡ joined (map coords_of parts)
coords_joined [] = refl
coords_joined (slots ∷ parts) =
    map-append (λ (c : StoredCell). c.coords) slots (flat_map (λ (t : List StoredCell). t) parts) ∙ ap (λ (more : List (List ℤ)). coords_of slots ++ more) (coords_joined parts)

module _ (frame : Frame) (hull : SubBox) (inside : LiesInDomain frame.domain hull) where
  -- coordinates of the space tile of these numbers, in global order
  abbrev IsPart : List ℤ → List (List ℤ) → Type 0
  IsPart n xs = IsTilePart frame.domain frame.tile frame.cell hull inside n xs

  -- slots of a tile stand at coordinates of its space tile, in global order
  part_made : (n : List ℤ) (slots : List StoredCell) → length n ≡ length frame.domain → IsMadeAt (coords_in_order frame.cell (cut_box frame.domain hull n)) slots → IsPart n (coords_of slots)
  part_made n slots long is =
      let coords = coords_in_order frame.cell (cut_box frame.domain hull n) in
      let part = tile_part frame.domain frame.tile frame.cell hull inside n long in
      subst (λ (cells : List StoredCell). IsPart n (coords_of cells)) is.2
      (record { up = front_in_order (global_cmp frame.domain frame.tile frame.cell) coords is.0 is.1 part.up; has = front_all _ coords is.0 is.1 part.has })

  -- so do those of all tiles
  parts_made : (ns : List (List ℤ)) (parts : List (List StoredCell)) → AllByRecursion (λ (n : List ℤ). length n ≡ length frame.domain) ns
      → EachFits (λ (leaf : SubBox) (slots : List StoredCell). IsMadeAt (coords_in_order frame.cell leaf) slots) (map (cut_box frame.domain hull) ns) parts → EachFits IsPart ns (map coords_of parts)
  parts_made [] [] whole are = tt
  parts_made [] (slots ∷ parts) whole are = absurd are
  parts_made (n ∷ ns) [] whole are = absurd are
  parts_made (n ∷ ns) (slots ∷ parts) whole are = (part_made n slots whole.0 are.0, parts_made ns parts whole.1 are.1)

-- ---- the slots that a fetch read

-- the box of the tile at a place
abbrev pub leaf_at : Frame → Footer → ℕ → SubBox
leaf_at frame footer i = get_or (tiles_over frame (box_of footer.head.hull)) i no_box

module _ (frame : Frame) (attrs : List Attr) (places : List ℕ) (footer : Footer) (used : List UsedColumn) where
  -- the slots of each tile stand at the coordinates of its box
  stand : (is : List ℕ) (got : List (List ℕ)) (parts : List (List StoredCell)) → AreRead frame attrs places footer.head (space_tiles frame footer used is) got parts
      → EachFits (λ (leaf : SubBox) (slots : List StoredCell). IsMadeAt (coords_in_order frame.cell leaf) slots) (map (leaf_at frame footer) is) parts
  stand [] got [] are = tt
  stand [] got (slots ∷ parts) are = absurd are
  stand (i ∷ is) got [] are = absurd are
  stand (i ∷ is) got (slots ∷ parts) are = ((are.0.origins, _, are.0.made), stand is _ parts are.1)

-- what holds of the coordinates of all slots holds of those that have cells
kept_all : (P : List ℤ → Type 0) (slots : List StoredCell) → AllByRecursion P (coords_of slots) → AllByRecursion P (coords_of (cells_in slots))
kept_all P [] all = tt
kept_all P (s ∷ slots) all = by (kept_all P slots all.1) (not (is_hole s))
  where
    by : AllByRecursion P (coords_of (cells_in slots)) → (b : Bool) → AllByRecursion P (coords_of (cond b (s ∷ cells_in slots) (cells_in slots)))
    by rest true = (all.0, rest)
    by rest false = rest

-- the cells of slots keep their order
pub kept_in_order : (cmp : List ℤ → List ℤ → Ordering) (slots : List StoredCell) → InOrder cmp (coords_of slots) → InOrder cmp (coords_of (cells_in slots))
kept_in_order cmp [] up = tt
kept_in_order cmp (s ∷ slots) up = by (kept_in_order cmp slots up.1) (not (is_hole s))
  where
    by : InOrder cmp (coords_of (cells_in slots)) → (b : Bool) → InOrder cmp (coords_of (cond b (s ∷ cells_in slots) (cells_in slots)))
    by rest true = (kept_all (λ (y : List ℤ). cmp s.coords y ≡ Less) slots up.0, rest)
    by rest false = rest

module _ (frame : Frame) (head : StoredHead) where
  below : (c : StoredCell) (cells : List StoredCell) → AllByRecursion (λ (y : List ℤ). global_order frame c.coords y ≡ Less) (coords_of cells)
      → AllByRecursion (λ (w : Version). version_cmp (global_order frame) (version_in head c) w ≡ Less) (map (version_in head) cells)
  below c [] less = tt
  below c (d ∷ cells) less = (ap (λ o. ordering_then o (key_cmp (version_in head c).key (version_in head d).key)) less.0, below c cells less.1)

  -- cells in global order hold versions that ascend
  ascend : (cells : List StoredCell) → InOrder (global_order frame) (coords_of cells) → VersionsAscend (global_order frame) (map (version_in head) cells)
  ascend [] up = tt
  ascend (c ∷ cells) up = (below c cells up.0, ascend cells up.1)

  -- those in the hull lie in the domain
  within : EachFits FitsSide frame.domain head.hull → (cells : List StoredCell) → AllByRecursion (λ (x : List ℤ). IsTrue (is_in_box (box_of head.hull) x)) (coords_of cells)
      → All (LiesInside frame) (map (version_in head) cells)
  within fits [] all = All-nil (LiesInside frame)
  within fits (c ∷ cells) all =
      All-cons (LiesInside frame) (version_in head c) (map (version_in head) cells) (in_domain frame.domain head.hull c.coords fits all.0) (within fits cells all.1)

  -- slots in global order in the hull hold versions in order
  pub slots_ordered : EachFits FitsSide frame.domain head.hull → (slots : List StoredCell) → InOrder (global_order frame) (coords_of slots)
      → AllByRecursion (λ (x : List ℤ). IsTrue (is_in_box (box_of head.hull) x)) (coords_of slots) → IsOrdered frame (versions_of head slots)
  slots_ordered fits slots up all = record {
    inside = within fits (cells_in slots) (kept_all (λ (x : List ℤ). IsTrue (is_in_box (box_of head.hull) x)) slots all);
    ascend = ascend (cells_in slots) (kept_in_order (global_order frame) slots up);
  }

-- the versions of the slots that were read are in order
read_ordered : (frame : Frame) (attrs : List Attr) (places : List ℕ) (footer : Footer) (used : List UsedColumn) (sub : SubBox) (got : List (List ℕ)) (parts : List (List StoredCell))
    → EachFits FitsSide frame.domain footer.head.hull → AreRead frame attrs places footer.head (space_tiles frame footer used (space_places frame sub footer)) got parts
    → IsOrdered frame (versions_of footer.head (flat_map (λ (t : List StoredCell). t) parts))
read_ordered frame attrs places footer used sub got parts fits are =
    let hull = box_of footer.head.hull in
    let inside = (hull_box frame.domain footer.head.hull fits).1 in
    let is = numbered frame hull sub inside (is_box_in frame.domain sub) in
    let stood = stand frame attrs places footer used (space_places frame sub footer) got parts are in
    let made = parts_made frame hull inside is.numbers parts is.whole
    (subst (λ (boxes : List SubBox). EachFits (λ (leaf : SubBox) (slots : List StoredCell). IsMadeAt (coords_in_order frame.cell leaf) slots) boxes parts) is.made stood) in
    let same = sym (coords_joined parts) in
    slots_ordered frame footer.head fits (flat_map (λ (t : List StoredCell). t) parts)
    (subst (InOrder (global_order frame)) same (parts_in_order frame.domain frame.tile frame.cell hull inside is.numbers (map coords_of parts) is.up made))
    (subst (AllByRecursion (λ (x : List ℤ). IsTrue (is_in_box hull x))) same (parts_inside frame.domain frame.tile frame.cell hull inside is.numbers (map coords_of parts) made))

-- ---- what a fetch takes

-- whatever replies come, the versions that a fetch takes are in order
pub space_ordered : TakesOrdered space_codec
space_ordered frame s frag object want gots sizes versions all short ends =
    let took = taken_slots frame s frag object want gots sizes versions ends in
    let fits = (laid_found Dense frame s.attrs frag object took.footer all short took.read).0 in
    subst (IsOrdered frame) took.took
    (taken_ordered frame want (versions_of took.footer.head (flat_map (λ (t : List StoredCell). t) took.parts)) (read_ordered frame s.attrs want.attrs took.footer _ want.sub took.got took.parts (fits.head).hull took.are))
