-- Where all is wanted, all tiles are read, and with the head of the metadata their cells keep all rules of a sparse fragment.
use Rattle.std.proofs.Common.{◌≡◌, ℕ, zero, suc, ◌+◌, ◌*◌, ◌<◌, ◌≤◌, ℤ, Bool, true, false, ◌&&◌, ◌||◌, nat_le, nat_eq, int_le, List, [], ◌∷◌, length, map, get_or, Option, None, refl, sym, ap, ◌∙◌, subst, arith, add-one}
use Rattle.std.specs.Prelude.{IsTrue, max, if◌then◌else◌}
use Rattle.std.specs.List.{list_all, All}
use Rattle.std.proofs.lemmas.Int.{ints}
use Rattle.std.proofs.lemmas.Bool.{and_parts, and_from, leb-true, le-leb, eq-eqb, eqb-false}
use Rattle.std.proofs.lemmas.List.{length-map}
use Rattle.std.proofs.lemmas.List.Elements.{All-head, All-tail, All-nil, All-weaker, All-append}
use Rattle.ts_base.specs.declared.keys.FragKey.{FragKey}
use Rattle.ts_base.specs.Values.{is_integer}
use Rattle.ts_domain.specs.declared.dims.Dim.{Dim}
use Rattle.ts_domain.specs.declared.boxes.SubBox.{SubBox}
use Rattle.ts_domain.specs.Bounds.{are_bounds}
use Rattle.ts_domain.specs.Boxes.{is_in_box, do_boxes_meet}
use Rattle.ts_domain.specs.Dims.{IsDim, IsSoundDim, IsDomain}
use Rattle.ts_domain.specs.Domains.{whole_domain, is_in_domain}
use Rattle.ts_domain.specs.Rects.{places_meeting, places_from as meeting_from}
use Rattle.ts_domain.proofs.Between.{is_between-low}
use Rattle.ts_domain.proofs.BoxLemmas.{do_boxes_meet-ShareCell}
use Rattle.ts_domain.proofs.DomainLemmas.{All-IsDomain}
use Rattle.ts_rtree.specs.Trees.{nodes_of}
use Rattle.ts_wire.specs.Exact.{EachFits}
use Rattle.ts_schema.specs.declared.attrs.Attr.{Attr}
use Rattle.ts_schema.specs.declared.frames.Frame.{Frame}
use Rattle.ts_schema.specs.FrameTexts.{IsFrame}
use Rattle.ts_schema.specs.SchemaTexts.{AreAttrs}
use Rattle.ts_plain.specs.declared.stored.Side.{Side}
use Rattle.ts_plain.specs.declared.stored.StoredCell.{StoredCell}
use Rattle.ts_plain.specs.declared.stored.StoredPiece.{StoredPiece}
use Rattle.ts_plain.specs.Plain.{FitsSide, FitsValue}
use Rattle.ts_plain.specs.Writes.{box_of}
use Rattle.ts_footer.specs.declared.footers.Footer.{Footer}
use Rattle.ts_footer.specs.Footers.{leaves_in, FitsFooter}
use Rattle.ts_model.specs.Queries.{places_from}
use Rattle.ts_sparse.specs.Tilings.{tiles_of}
use Rattle.ts_sparse.specs.Sparse.{leaf_of, FitsTypes, FitsSparse}
use Rattle.ts_sparse.specs.Cuts.{last_or}
use Rattle.ts_sparse.proofs.OrderLaws.{AllAlone, rises_in_turn}
use Rattle.ts_sparse.proofs.TopLaws.{last_box, top_of_cells}
use Rattle.ts_sparse_read.specs.declared.opened.UsedColumn.{UsedColumn}
use Rattle.ts_sparse_read.specs.TileReads.{is_among}
use Rattle.ts_sparse_read.specs.Used.{tile_size}
use Rattle.ts_sparse_read.specs.Opens.{no_box, tiles_at, are_readable, is_box_in, places_for}
use Rattle.ts_sparse_read.specs.ReadCells.{AreRead}
use Rattle.ts_sparse_read.specs.SoundTiles.{known_leaves, all_places, tiles_hold, last_one, leaves_within}
use Rattle.ts_sparse_read.specs.InOrder.{IsOnHull, all_rise, all_on_hull}
use Rattle.ts_sparse_read.specs.TilesAgain.{joined_tiles, AreSized, tiles_again}

-- ---- the box of the whole domain

integers_from : (dims : List Dim) → All IsDim dims → list_all (λ (d : Dim). is_integer d.ty) dims ≡ true
integers_from [] all = refl
integers_from (d ∷ dims) all =
    and_from (is_integer d.ty) (list_all (λ (d : Dim). is_integer d.ty) dims) (All-head IsDim d dims all).integer (integers_from dims (All-tail IsDim d dims all))

bounds_from : (dims : List Dim) → All IsSoundDim dims → are_bounds (map (λ (d : Dim). d.low) dims) (map (λ (d : Dim). d.high) dims) ≡ true
bounds_from [] all = refl
bounds_from (d ∷ dims) all =
    let ordered = (All-head IsSoundDim d dims all).ordered in
    let le : int_le d.low d.high ≡ true = grind (arith, ints, ordered) in
    and_from (int_le d.low d.high) (are_bounds (map (λ (d : Dim). d.low) dims) (map (λ (d : Dim). d.high) dims)) le (bounds_from dims (All-tail IsSoundDim d dims all))

-- it is a box in the array
pub whole_is_box : (dims : List Dim) → IsDomain dims → is_box_in dims (whole_domain dims) ≡ true
whole_is_box dims is =
    let readable = and_from (nat_le 1 (length dims)) (list_all (λ (d : Dim). is_integer d.ty) dims) (le-leb 1 (length dims) is.some) (integers_from dims is.valid) in
    let long = eq-eqb (length (map (λ (d : Dim). d.low) dims)) (length dims) (length-map dims (λ (d : Dim). d.low)) in
    and_from (are_readable dims) _ readable (and_from (nat_eq (length (map (λ (d : Dim). d.low) dims)) (length dims)) _ long (bounds_from dims (All-IsDomain dims is)))

-- coordinates in a hull in the domain lie in the domain
pub in_domain : (dims : List Dim) (hull : List Side) (coords : List ℤ) → EachFits FitsSide dims hull → IsTrue (is_in_box (box_of hull) coords) → IsTrue (is_in_domain dims coords)
in_domain [] [] [] fits inside = refl
in_domain [] [] (x ∷ coords) fits inside = absurd (cc)
in_domain [] (side ∷ hull) coords fits inside = absurd fits
in_domain (d ∷ dims) [] coords fits inside = absurd fits
in_domain (d ∷ dims) (side ∷ hull) [] fits inside = absurd (cc)
in_domain (d ∷ dims) (side ∷ hull) (x ∷ coords) fits inside =
    let low = and_parts (int_le d.low side.low) (int_le side.low d.high) (fits.0).low.1 in
    let high = and_parts (int_le side.low side.high) (int_le side.high d.high) (fits.0).high.1 in
    let parts = and_parts (int_le side.low x && int_le x side.high) (is_in_box (box_of hull) coords) inside in
    let here = and_parts (int_le side.low x) (int_le x side.high) parts.0 in
    and_from (int_le d.low x && int_le x d.high) (is_in_domain dims coords) (between d.low side.low x side.high d.high low.0 here.0 here.1 high.1) (in_domain dims hull coords fits.1 parts.1)
  where
    between : (a b c d e : ℤ) → int_le a b ≡ true → int_le b c ≡ true → int_le c d ≡ true → int_le d e ≡ true → int_le a c && int_le c e ≡ true
    between a b c d e ab bc cd de = grind (arith, ints)

-- ---- places in a row

-- where all boxes meet a box, all places are found
meeting_all : (sub : SubBox) (at : ℕ) (boxes : List SubBox) → All (λ (b : SubBox). do_boxes_meet b sub ≡ true) boxes → meeting_from sub at boxes ≡ places_from at (length boxes)
meeting_all sub at [] all = refl
meeting_all sub at (b ∷ bs) all =
    ap (λ (t : Bool). if t then at ∷ meeting_from sub (at + 1) bs else meeting_from sub (at + 1) bs) (All-head (λ (b : SubBox). do_boxes_meet b sub ≡ true) b bs all)
    ∙ ap (λ (k : ℕ). at ∷ meeting_from sub k bs) (add-one at)
    ∙ ap (λ (ps : List ℕ). at ∷ ps) (meeting_all sub (suc at) bs (All-tail (λ (b : SubBox). do_boxes_meet b sub ≡ true) b bs all))

-- the items behind the first one stand one place further
further : {X : Type 0} (x : X) (xs : List X) (d : X) (first count : ℕ) → map (λ (k : ℕ). get_or (x ∷ xs) k d) (places_from (suc first) count) ≡ map (λ (k : ℕ). get_or xs k d) (places_from first count)
further x xs d first zero = refl
further x xs d first (suc more) = ap (λ ys. get_or xs first d ∷ ys) (further x xs d (suc first) more)

-- the items at all places are the list
items_at_all : {X : Type 0} (xs : List X) (d : X) → map (λ (k : ℕ). get_or xs k d) (places_from 0 (length xs)) ≡ xs
items_at_all [] d = refl
items_at_all (x ∷ xs) d = ap (λ ys. x ∷ ys) (further x xs d 0 (length xs) ∙ items_at_all xs d)

-- each place of a row is among them
pub all_among : (first count k : ℕ) → first ≤ k → k < first + count → is_among (places_from first count) k ≡ true
all_among first zero k from to = absurd (omega (arith, from, to))
all_among first (suc more) k from to = by (nat_eq first k) refl (λ later. all_among (suc first) more k later (omega (arith, to)))
  where
    by : (b : Bool) → nat_eq first k ≡ b → (suc first ≤ k → is_among (places_from (suc first) more) k ≡ true) → is_among (places_from first (suc more)) k ≡ true
    by true e behind = ap (λ (t : Bool). t || is_among (places_from (suc first) more) k) e
    by false e behind =
        let other = eqb-false first k e in
        ap (λ (t : Bool). t || is_among (places_from (suc first) more) k) e ∙ behind (omega (arith, from, other))

module _ (frame : Frame) (attrs : List Attr) (frag : FragKey) (footer : Footer) (fits : FitsFooter frame attrs frag footer) where
  -- ---- all tiles

  -- each leaf meets the whole domain
  leaves_meet : All (λ (leaf : SubBox). do_boxes_meet leaf (whole_domain frame.domain) ≡ true) (leaves_in footer.tree)
  leaves_meet i d within =
      let leaf = get_or (leaves_in footer.tree) i d in
      let rect = (known_leaves frame attrs frag footer fits).each i d within in
      let own = is_between-low leaf.low leaf.high (rect.like).valid in
      let hull = leaves_within frame attrs frag footer fits i d within leaf.low own in
      do_boxes_meet-ShareCell leaf (whole_domain frame.domain) (leaf.low, own, in_domain frame.domain (footer.head).hull leaf.low (fits.head).hull hull)

  -- so all tiles are read
  pub places_whole : IsDomain frame.domain → places_for frame (whole_domain frame.domain) footer ≡ places_from 0 (length (leaves_in footer.tree))
  places_whole is =
      ap (λ (b : Bool). if b then places_meeting (whole_domain frame.domain) (leaves_in footer.tree) else []) (whole_is_box frame.domain is)
      ∙ meeting_all (whole_domain frame.domain) 0 (leaves_in footer.tree) leaves_meet

  module _ (used : List UsedColumn) (places : List ℕ) where
    abbrev AreTiles : Option StoredCell → ℕ → ℕ → List (List StoredCell) → Type 0
    AreTiles before i count parts = AreRead frame attrs places footer.head before (tiles_at frame footer used (places_from i count)) parts

    read_many : (before : Option StoredCell) (i count : ℕ) (parts : List (List StoredCell)) → AreTiles before i count parts → length parts ≡ count
    read_many before i zero [] are = refl
    read_many before i zero (cells ∷ parts) are = absurd are
    read_many before i (suc more) [] are = absurd are
    read_many before i (suc more) (cells ∷ parts) are = ap suc (read_many (last_or before cells) (suc i) more parts are.1)

    read_sized : (before : Option StoredCell) (i count : ℕ) (parts : List (List StoredCell)) → AreTiles before i count parts → AreSized (tile_size frame.capacity) (footer.head).cells i parts
    read_sized before i zero [] are = tt
    read_sized before i zero (cells ∷ parts) are = absurd are
    read_sized before i (suc more) [] are = absurd are
    read_sized before i (suc more) (cells ∷ parts) are = ((are.0).many, read_sized (last_or before cells) (suc i) more parts are.1)

    read_leaves : (before : Option StoredCell) (i count : ℕ) (parts : List (List StoredCell)) → AreTiles before i count parts
        → map leaf_of parts ≡ map (λ (k : ℕ). get_or (leaves_in footer.tree) k no_box) (places_from i count)
    read_leaves before i zero [] are = refl
    read_leaves before i zero (cells ∷ parts) are = absurd are
    read_leaves before i (suc more) [] are = absurd are
    read_leaves before i (suc more) (cells ∷ parts) are =
        ap (λ (leaf : SubBox). leaf ∷ map leaf_of parts) (are.0).hull
        ∙ ap (λ (leaves : List SubBox). get_or (leaves_in footer.tree) i no_box ∷ leaves) (read_leaves (last_or before cells) (suc i) more parts are.1)

    read_typed : (before : Option StoredCell) (i count : ℕ) (parts : List (List StoredCell)) → AreTiles before i count parts → All (FitsTypes frame.domain) (joined_tiles parts)
    read_typed before i zero [] are = All-nil (FitsTypes frame.domain)
    read_typed before i zero (cells ∷ parts) are = absurd are
    read_typed before i (suc more) [] are = absurd are
    read_typed before i (suc more) (cells ∷ parts) are =
        All-append (FitsTypes frame.domain) cells (joined_tiles parts) (are.0).typed (read_typed (last_or before cells) (suc i) more parts are.1)

    -- a value for each attribute
    abbrev IsFull : StoredCell → Type 0
    IsFull c = EachFits FitsValue attrs c.row

    read_full : ((k : ℕ) → k < length attrs → is_among places k ≡ true) → (before : Option StoredCell) (i count : ℕ) (parts : List (List StoredCell)) → AreTiles before i count parts → All IsFull (joined_tiles parts)
    read_full among before i zero [] are = All-nil IsFull
    read_full among before i zero (cells ∷ parts) are = absurd are
    read_full among before i (suc more) [] are = absurd are
    read_full among before i (suc more) (cells ∷ parts) are =
        All-append IsFull cells (joined_tiles parts) ((are.0).fits among) (read_full among (last_or before cells) (suc i) more parts are.1)

    alone_all : (cells : List StoredCell) → All (IsOnHull frame footer.head) cells → All IsFull cells → AllAlone frame footer.head attrs cells
    alone_all [] on full = tt
    alone_all (c ∷ cells) on full =
        let is = All-head (IsOnHull frame footer.head) c cells on in (
          record { coords = is.0; origin = is.1; row = All-head IsFull c cells full },
          alone_all cells (All-tail (IsOnHull frame footer.head) c cells on) (All-tail IsFull c cells full),
        )

    -- ---- what is stored

    -- the head of the metadata with the cells of these tiles
    abbrev pub stored_of : List (List StoredCell) → StoredPiece
    stored_of parts = record { head = footer.head; cells = joined_tiles parts }

    -- with those of all tiles, of which all attributes were read, it keeps all rules
    pub whole_fits : IsFrame frame → AreAttrs attrs → ((k : ℕ) → k < length attrs → is_among places k ≡ true) → (parts : List (List StoredCell))
        → AreRead frame attrs places footer.head None (tiles_at frame footer used (places_for frame (whole_domain frame.domain) footer)) parts → FitsSparse frame attrs frag (stored_of parts)
    whole_fits is_frame are_attrs among parts read =
        let leaves = leaves_in footer.tree in
        let count = length leaves in
        let cells = joined_tiles parts in
        let row = places_whole is_frame.domain in
        let are : AreTiles None 0 count parts = subst (λ (tiles : List ℕ). AreRead frame attrs places footer.head None (tiles_at frame footer used tiles) parts) row read in
        let wide : 1 ≤ frame.capacity = leb-true 1 frame.capacity (and_parts (nat_le 1 frame.capacity) (nat_le frame.capacity 1000000) is_frame.capacity).0 in
        let same : max frame.capacity 1 ≡ frame.capacity = omega (arith, wide) in
        let many = read_many None 0 count parts are in
        let hold = tiles_hold frame attrs frag footer fits in
        let P : ℕ → Type 0 = λ n. (AreSized n (footer.head).cells 0 parts × ((footer.head).cells ≤ length parts * n)) × (length parts * n < (footer.head).cells + n) in
        let counts = subst (λ (k : ℕ). ((footer.head).cells ≤ k * tile_size frame.capacity) × (k * tile_size frame.capacity < (footer.head).cells + tile_size frame.capacity)) (sym many) hold in
        let sized = subst P same ((read_sized None 0 count parts are, counts.0), counts.1) in
        let again = tiles_again frame.capacity (footer.head).cells parts wide sized.0.0 sized.0.1 sized.1 in
        let hulls = ap (map leaf_of) again.1 ∙ read_leaves None 0 count parts are ∙ items_at_all leaves no_box in
        let known = known_leaves frame attrs frag footer fits in
        let top = last_one (nodes_of leaves) (box_of (footer.head).hull) known.top in
        let rise = all_rise frame attrs places footer.head None (tiles_at frame footer used (places_for frame (whole_domain frame.domain) footer)) parts read in
        let on = all_on_hull frame attrs frag footer fits used places None (places_for frame (whole_domain frame.domain) footer) parts (all_places frame attrs frag footer fits (whole_domain frame.domain)) read in
        let alone = alone_all cells on (read_full among None 0 count parts are) in
        let few_tiles : length (tiles_of frame.capacity cells) ≡ footer.tiles = ap length again.1 ∙ many ∙ known.many in
        record {
          plain = record { head = fits.head; count = again.0; cells = rises_in_turn frame footer.head attrs [] cells rise alone };
          capacity = wide;
          few_attrs = leb-true (length attrs) 64 (and_parts (nat_le 1 (length attrs)) (nat_le (length attrs) 64) are_attrs.count).1;
          ints = All-weaker IsDim (λ (d : Dim). is_integer d.ty ≡ true) (λ d is. is.integer) frame.domain (is_frame.domain).valid;
          typed = read_typed None 0 count parts are;
          tight = sym (top_of_cells frame.capacity cells) ∙ ap (λ (boxes : List SubBox). last_box (nodes_of boxes)) hulls ∙ top;
          few = (let room = fits.few in omega (arith, few_tiles, room));
        }
