-- What sound metadata says of the tiles of a fragment: each can be read, its spans are short, and its leaf lies in the hull.
use Rattle.std.proofs.Common.{◌≡◌, ℕ, zero, suc, ◌+◌, ◌-◌, ◌*◌, ◌/◌, ◌%◌, ◌^◌, ◌<◌, ◌≤◌, Bool, true, false, nat_le, List, [], ◌∷◌, ◌++◌, length, map, get_or, slice_get, Option, Some, None, refl, sym, ap, ◌∙◌, subst, arith}
use Rattle.std.specs.Prelude.{IsTrue, min, if◌then◌else◌}
use Rattle.std.specs.List.{flat_map, list_all, All}
use Rattle.std.specs.Option.{IsSomeAnd}
use Rattle.std.proofs.Math.Nat.{div-add-mod, mod-lt, mul-le-mul_left, mul-le-mul_right}
use Rattle.std.proofs.lemmas.Bool.{and_parts, leb-true, eqb-true}
use Rattle.std.proofs.lemmas.List.{length-map}
use Rattle.std.proofs.lemmas.List.Elements.{All-head, All-tail, All-nil, All-cons, All-weaker, All-append, All-filter}
use Rattle.ts_base.specs.declared.keys.FragKey.{FragKey}
use Rattle.ts_base.specs.declared.names.Part.{Part}
use Rattle.ts_base.specs.Values.{is_integer}
use Rattle.ts_domain.specs.declared.dims.Dim.{Dim}
use Rattle.ts_domain.specs.declared.boxes.SubBox.{SubBox}
use Rattle.ts_domain.specs.Boxes.{Covers, hull_of, do_boxes_meet}
use Rattle.ts_domain.specs.Rects.{IsLike, places_from, places_meeting}
use Rattle.ts_domain.proofs.BoxLemmas.{IsHullOf-hull_of}
use Rattle.ts_domain.proofs.RectLemmas.{as_many}
use Rattle.ts_rtree.specs.Trees.{Rooted, upper_of, nodes_of}
use Rattle.ts_rtree.proofs.Likes.{like_hull}
use Rattle.ts_wire.specs.Exact.{InTurn, EachFits}
use Rattle.ts_wire.proofs.Laws.{EachFits-length}
use Rattle.ts_schema.specs.declared.attrs.Attr.{Attr}
use Rattle.ts_schema.specs.declared.frames.Frame.{Frame}
use Rattle.ts_plain.specs.declared.stored.Side.{Side}
use Rattle.ts_plain.specs.Rules.{last_of, may_count}
use Rattle.ts_plain.specs.Writes.{box_of}
use Rattle.ts_footer.specs.declared.columns.ColumnForm.{ColumnForm}
use Rattle.ts_footer.specs.declared.columns.ColumnForm.TheVariants.{Fixed, Var}
use Rattle.ts_footer.specs.declared.columns.ColumnSize.{ColumnSize}
use Rattle.ts_footer.specs.declared.footers.Footer.{Footer}
use Rattle.ts_footer.specs.Columns.{tiles_for, column_forms, FitsStart, FitsSize}
use Rattle.ts_footer.specs.Footers.{leaves_in, FitsRect, FitsTree, FitsFooter}
use Rattle.ts_sparse.proofs.TopLaws.{hull_with, hull_all, last_box, top_is_hull}
use Rattle.ts_sparse_read.specs.declared.opened.UsedColumn.{UsedColumn}
use Rattle.ts_sparse_read.specs.Used.{column_parts, columns_told, is_used, tile_size, span_by, span_of}
use Rattle.ts_sparse_read.specs.Opens.{no_box, used_in, tile_at, tiles_at, are_readable, is_box_in, places_for, size_call, span_call, tile_calls, calls_for}
use Rattle.ts_sparse_read.specs.ReadCells.{IsShortCall, MayRead}

-- ---- how many tiles there are

-- so many tiles hold all cells, and one tile less doesn't
bounds_by : (n total q r : ℕ) → n * q + r ≡ total → r < n → (total ≤ (q + min 1 r) * n) × ((q + min 1 r) * n < total + n)
bounds_by n total q zero whole left = (omega arith, omega arith)
bounds_by n total q (suc r) whole left =
    let one : min 1 (suc r) ≡ 1 = omega arith in
    let more : (q + 1) * n ≡ n * q + n = omega arith in
    let same : (q + min 1 (suc r)) * n ≡ n * q + n = ap (λ (k : ℕ). (q + k) * n) one ∙ more in
    (omega (arith, same), omega (arith, same))

pub tiles_bounds : (n total : ℕ) → 1 ≤ n → (total ≤ (total / n + min 1 (total % n)) * n) × ((total / n + min 1 (total % n)) * n < total + n)
tiles_bounds n total some = bounds_by n total (total / n) (total % n) (div-add-mod total n) (mod-lt total some)

-- each of them begins before the last cell
pub begins_within : (n total count i : ℕ) → count * n < total + n → i < count → i * n < total
begins_within n total count i last within =
    let more : suc i * n ≤ count * n = mul-le-mul_right n within in
    omega (arith, more, last)

-- ---- spans

-- no tile starts behind the end of its object
starts_within : (end : ℕ) (front starts : List ℕ) (i : ℕ) → InTurn (FitsStart end) front starts → get_or starts i end ≤ end
starts_within end front [] i fits = omega arith
starts_within end front (start ∷ starts) zero fits = leb-true start end (and_parts _ (nat_le start end) fits.0).1
starts_within end front (start ∷ starts) (suc i) fits = starts_within end (front ++ start ∷ []) starts i fits.1

-- the span of a tile is no longer than its object
span_short : (form : ColumnForm) (n cells tiles i : ℕ) (p : Part) (size : ColumnSize) → FitsSize cells tiles form size → (span_by form n cells i p size).count < 2 ^ 64
span_short (Fixed width) n cells tiles i p size fits =
    let few : min n (cells - i * n) ≤ cells = omega arith in
    let more : width * min n (cells - i * n) ≤ width * cells = mul-le-mul_left width few in
    let long : size.length ≡ 14 + width * cells = fits.keeps.0 in
    let room : size.length < 256 ^ 8 = fits.room in
    omega (arith, more, long, room)
span_short Var n cells tiles i p size fits =
    let end : get_or size.starts (suc i) size.length ≤ size.length = starts_within size.length [] size.starts (suc i) (fits.keeps).each in
    let room : size.length < 256 ^ 8 = fits.room in
    omega (arith, end, room)

-- what is told of a column fits its form
abbrev pub IsTold : ℕ → ℕ → UsedColumn → Type 0
IsTold cells tiles column = FitsSize cells tiles column.form column.size

told_each : (cells tiles : ℕ) (parts : List Part) (forms : List ColumnForm) (sizes : List ColumnSize) → EachFits (FitsSize cells tiles) forms sizes → All (IsTold cells tiles) (columns_told parts forms sizes)
told_each cells tiles [] forms sizes fits = All-nil (IsTold cells tiles)
told_each cells tiles (p ∷ parts) [] sizes fits = All-nil (IsTold cells tiles)
told_each cells tiles (p ∷ parts) (f ∷ forms) [] fits = absurd fits
told_each cells tiles (p ∷ parts) (f ∷ forms) (s ∷ sizes) fits =
    All-cons (IsTold cells tiles) (record { part = p; form = f; size = s }) (columns_told parts forms sizes) fits.0 (told_each cells tiles parts forms sizes fits.1)

spans_short : (n cells tiles i : ℕ) (used : List UsedColumn) → All (IsTold cells tiles) used → All IsShortCall (map span_call (map (span_of n cells i) used))
spans_short n cells tiles i [] told = All-nil IsShortCall
spans_short n cells tiles i (c ∷ used) told =
    All-cons IsShortCall (span_call (span_of n cells i c)) (map span_call (map (span_of n cells i) used))
    (span_short c.form n cells tiles i c.part c.size (All-head (IsTold cells tiles) c used told)) (spans_short n cells tiles i used (All-tail (IsTold cells tiles) c used told))

sizes_short : (used : List UsedColumn) → All IsShortCall (map size_call used)
sizes_short [] = All-nil IsShortCall
sizes_short (c ∷ used) = All-cons IsShortCall (size_call c) (map size_call used) tt (sizes_short used)

-- ---- the hull of the leaves

last_is : (b : SubBox) (bs : List SubBox) → last_of (b ∷ bs) ≡ Some (last_box (b ∷ bs))
last_is b [] = refl
last_is b (c ∷ bs) =
    let first : suc (suc (length bs)) - 1 ≡ suc (length bs) = omega arith in
    let second : length bs ≡ suc (length bs) - 1 = omega arith in
    ap (slice_get (b ∷ (c ∷ bs))) first ∙ ap (slice_get (c ∷ bs)) second ∙ last_is c bs

-- the box that stands last is no other
pub last_one : (boxes : List SubBox) (hull : SubBox) → last_of boxes ≡ Some hull → last_box boxes ≡ hull
last_one [] hull last = absurd (cc)
last_one (b ∷ bs) hull last = let there = last_is b bs in cc

with_covers : (sub hull : SubBox) (bs : List SubBox) → IsLike sub hull → All (IsLike sub) bs → Covers (hull_with hull bs) hull × All (λ (b : SubBox). Covers (hull_with hull bs) b) bs
with_covers sub hull [] this all = ((λ coords inside. inside), All-nil (λ (b : SubBox). Covers hull b))
with_covers sub hull (b ∷ bs) this all =
    let that = All-head (IsLike sub) b bs all in
    let is = IsHullOf-hull_of hull b this.valid that.valid (that.dims ∙ sym this.dims) in
    let rest = with_covers sub (hull_of hull b) bs (like_hull sub hull b this that) (All-tail (IsLike sub) b bs all) in (
      (λ coords inside. rest.0 coords (is.first coords inside)),
      All-cons (λ (c : SubBox). Covers (hull_with (hull_of hull b) bs) c) b bs (λ coords inside. rest.0 coords (is.second coords inside)) rest.1,
    )

all_covered : (sub : SubBox) (leaves : List SubBox) → All (IsLike sub) leaves → All (λ (b : SubBox). Covers (hull_all leaves) b) leaves
all_covered sub [] all = All-nil (λ (b : SubBox). Covers (hull_all []) b)
all_covered sub (b ∷ bs) all =
    let covers = with_covers sub b bs (All-head (IsLike sub) b bs all) (All-tail (IsLike sub) b bs all) in
    All-cons (λ (c : SubBox). Covers (hull_with b bs) c) b bs covers.0 covers.1

-- ---- which tiles are wanted

-- the places are those of boxes
places_below : (sub : SubBox) (at end : ℕ) (boxes : List SubBox) → at + length boxes ≤ end → All (λ (i : ℕ). i < end) (places_from sub at boxes)
places_below sub at end [] room = All-nil (λ (i : ℕ). i < end)
places_below sub at end (b ∷ bs) room = by (places_below sub (at + 1) end bs (omega (arith, room))) (do_boxes_meet b sub)
  where
    by : All (λ (i : ℕ). i < end) (places_from sub (at + 1) bs) → (t : Bool) → All (λ (i : ℕ). i < end) (if t then at ∷ places_from sub (at + 1) bs else places_from sub (at + 1) bs)
    by rest true = All-cons (λ (i : ℕ). i < end) at (places_from sub (at + 1) bs) (omega (arith, room)) rest
    by rest false = rest

-- what holds of each place holds of what is made of it
all_made : {X Y : Type 0} (P : X → Type 0) (Q : Y → Type 0) (f : X → Y) (xs : List X) → ((x : X) → P x → Q (f x)) → All P xs → All Q (map f xs)
all_made P Q f [] step all = All-nil Q
all_made P Q f (x ∷ xs) step all = All-cons Q (f x) (map f xs) (step x (All-head P x xs all)) (all_made P Q f xs step (All-tail P x xs all))

integers_all : (dims : List Dim) → list_all (λ (d : Dim). is_integer d.ty) dims ≡ true → All (λ (d : Dim). is_integer d.ty ≡ true) dims
integers_all [] e = All-nil (λ (d : Dim). is_integer d.ty ≡ true)
integers_all (d ∷ dims) e =
    let parts = and_parts (is_integer d.ty) (list_all (λ (d : Dim). is_integer d.ty) dims) e in
    All-cons (λ (d : Dim). is_integer d.ty ≡ true) d dims parts.0 (integers_all dims parts.1)

-- what is known of the leaves of a tree
pub record LeavesFit (hull : SubBox) (tiles : ℕ) (leaves : List SubBox) : Type 0 where
  pub many : length leaves ≡ tiles
  pub each : All (FitsRect hull) leaves
  pub top : last_of (nodes_of leaves) ≡ Some hull

leaves_fit : (hull : SubBox) (tiles : ℕ) (tree : Option Rooted) → IsSomeAnd tree (FitsTree hull tiles) → LeavesFit hull tiles (leaves_in tree)
leaves_fit hull tiles None fits = absurd fits
leaves_fit hull tiles (Some tree) fits = record { many = fits.many; each = fits.leaves; top = fits.top }

module _ (frame : Frame) (attrs : List Attr) (frag : FragKey) (footer : Footer) (fits : FitsFooter frame attrs frag footer) where
  pub known_leaves : LeavesFit (box_of (footer.head).hull) footer.tiles (leaves_in footer.tree)
  known_leaves = leaves_fit (box_of (footer.head).hull) footer.tiles footer.tree fits.tree

  -- the tile at this place is there, and its dimensions are of integers
  abbrev pub IsPlace : ℕ → Type 0
  IsPlace i = (i < length (leaves_in footer.tree)) × IsTrue (are_readable frame.domain)

  pub all_places : (sub : SubBox) → All IsPlace (places_for frame sub footer)
  all_places sub = by (is_box_in frame.domain sub) refl
    where
      by : (b : Bool) → is_box_in frame.domain sub ≡ b → All IsPlace (if b then places_meeting sub (leaves_in footer.tree) else [])
      by true e =
          let readable = (and_parts (are_readable frame.domain) _ e).0 in
          All-weaker (λ (i : ℕ). i < length (leaves_in footer.tree)) IsPlace (λ i within. (within, readable)) (places_meeting sub (leaves_in footer.tree))
          (places_below sub 0 (length (leaves_in footer.tree)) (leaves_in footer.tree) (omega arith))
      by false e = All-nil IsPlace

  -- the number of tiles holds all cells
  pub tiles_hold : ((footer.head).cells ≤ length (leaves_in footer.tree) * tile_size frame.capacity) × (length (leaves_in footer.tree) * tile_size frame.capacity < (footer.head).cells + tile_size frame.capacity)
  tiles_hold =
      let n = tile_size frame.capacity in
      let count : length (leaves_in footer.tree) ≡ tiles_for frame.capacity (footer.head).cells = known_leaves.many ∙ fits.tiles in
      subst (λ (k : ℕ). ((footer.head).cells ≤ k * n) × (k * n < (footer.head).cells + n)) (sym count) (tiles_bounds n (footer.head).cells (omega arith))

  some_origin : 1 ≤ length (footer.head).origins
  some_origin = by (footer.head).consolidated (fits.head).some_origin
    where
      by : (b : Bool) → IsTrue (may_count b (length (footer.head).origins)) → 1 ≤ length (footer.head).origins
      by true e = leb-true 1 (length (footer.head).origins) e
      by false e = let one = eqb-true (length (footer.head).origins) 1 e in omega (arith, one)

  -- it can be read
  may_read : (used : List UsedColumn) (i : ℕ) → IsPlace i → MayRead frame footer.head (tile_at frame footer used i)
  may_read used i place =
      let n = tile_size frame.capacity in
      let within : i * n < (footer.head).cells = begins_within n (footer.head).cells (length (leaves_in footer.tree)) i tiles_hold.1 place.0 in
      let size : 1 ≤ n = omega arith in
      let readable = and_parts (nat_le 1 (length frame.domain)) _ place.1 in
      let rect = known_leaves.each i no_box place.0 in
      let lows = (rect.like).dims ∙ length-map (footer.head).hull (λ (side : Side). side.low) ∙ EachFits-length _ frame.domain (footer.head).hull (fits.head).hull in
      record {
        some_cell = omega (arith, within, size);
        some_dim = leb-true 1 (length frame.domain) readable.0;
        ints = integers_all frame.domain readable.1;
        lows = lows;
        highs = as_many (tile_at frame footer used i).leaf (rect.like).valid ∙ lows;
        some_origin = some_origin;
        few_origins = (fits.head).few_origins;
      }

  -- so can all that are wanted
  pub may_read_all : (used : List UsedColumn) (sub : SubBox) → All (MayRead frame footer.head) (tiles_at frame footer used (places_for frame sub footer))
  may_read_all used sub = all_made IsPlace (MayRead frame footer.head) (tile_at frame footer used) (places_for frame sub footer) (may_read used) (all_places sub)

  -- what is told of the objects that are read fits
  told_used : (places : List ℕ) → All (IsTold (footer.head).cells footer.tiles) (used_in frame attrs footer places)
  unfolding used_in
  told_used places =
      All-filter (λ (c : UsedColumn). is_used places c.part) (IsTold (footer.head).cells footer.tiles) _
      (told_each (footer.head).cells footer.tiles (column_parts frame.domain attrs (footer.head).consolidated) (column_forms frame.domain attrs (footer.head).consolidated) footer.sizes fits.sizes)

  tile_calls_short : (used : List UsedColumn) → All (IsTold (footer.head).cells footer.tiles) used → (tiles : List ℕ) → All IsShortCall (flat_map tile_calls (tiles_at frame footer used tiles))
  tile_calls_short used told [] = All-nil IsShortCall
  tile_calls_short used told (i ∷ tiles) =
      All-append IsShortCall (tile_calls (tile_at frame footer used i)) (flat_map tile_calls (tiles_at frame footer used tiles))
      (spans_short (tile_size frame.capacity) (footer.head).cells footer.tiles i used told) (tile_calls_short used told tiles)

  -- no call of the plan asks for too many bytes
  pub calls_short : (places tiles : List ℕ) → All IsShortCall (calls_for (used_in frame attrs footer places) (tiles_at frame footer (used_in frame attrs footer places) tiles))
  calls_short places tiles =
      let used = used_in frame attrs footer places in
      All-append IsShortCall (map size_call used) (flat_map tile_calls (tiles_at frame footer used tiles)) (sizes_short used) (tile_calls_short used (told_used places) tiles)

  -- the hull has all cells of each leaf
  pub leaves_within : All (λ (leaf : SubBox). Covers (box_of (footer.head).hull) leaf) (leaves_in footer.tree)
  unfolding upper_of
  leaves_within =
      let leaves = leaves_in footer.tree in
      let hull = box_of (footer.head).hull in
      let same : hull_all leaves ≡ hull = sym (top_is_hull leaves) ∙ last_one (nodes_of leaves) hull known_leaves.top in
      let like = All-weaker (FitsRect hull) (IsLike hull) (λ leaf f. f.like) leaves known_leaves.each in
      subst (λ (box : SubBox). All (λ (leaf : SubBox). Covers box leaf) leaves) same (all_covered hull leaves like)
