-- A fetch begins with a plan whose parts have names, over tiles whose spans have room.
use Rattle.std.proofs.Common.{◌≡◌, ℕ, suc, ◌+◌, ◌≤◌, Bool, true, false, List, [], ◌∷◌, ◌++◌, length, map, Option, Some, None, refl, sym, ap, subst, ◌∙◌, arith}
use Rattle.std.specs.Prelude.{max, IfSome, if◌then◌else◌}
use Rattle.std.specs.List.{All, flat_map}
use Rattle.std.specs.Option.{IsSomeAnd}
use Rattle.std.proofs.lemmas.List.Elements.{All-nil, All-cons, All-head, All-tail, All-append, All-weaker}
use Rattle.ts_base.specs.declared.keys.FragKey.{FragKey}
use Rattle.ts_base.specs.declared.names.Part.{Part}
use Rattle.ts_base.specs.declared.names.Part.TheVariants as part
use Rattle.ts_base.specs.Names.{IsSpelledPart}
use Rattle.ts_base.specs.Values.{is_integer}
use Rattle.ts_domain.specs.declared.dims.Dim.{Dim}
use Rattle.ts_domain.specs.declared.boxes.SubBox.{SubBox}
use Rattle.ts_wire.specs.Exact.{EachFits}
use Rattle.ts_schema.specs.declared.attrs.Attr.{Attr}
use Rattle.ts_schema.specs.declared.frames.Frame.{Frame}
use Rattle.ts_schema.specs.declared.wants.Want.{Want}
use Rattle.ts_plain.specs.declared.stored.Side.{Side}
use Rattle.ts_plain.specs.Insides.{IsHull}
use Rattle.ts_plain.proofs.Insides.{hull_length}
use Rattle.ts_plain.specs.Writes.{box_of}
use Rattle.ts_rtree.specs.Trees.{Rooted}
use Rattle.ts_footer.specs.declared.columns.ColumnForm.{ColumnForm}
use Rattle.ts_footer.specs.declared.columns.ColumnForm.TheVariants.{Fixed, Var}
use Rattle.ts_footer.specs.declared.columns.ColumnSize.{ColumnSize}
use Rattle.ts_footer.specs.declared.footers.Footer.{Footer}
use Rattle.ts_footer.specs.Columns.{column_forms, FitsSize}
use Rattle.ts_footer.specs.Footers.{leaves_in, FitsRect, FitsTree, FitsFooter}
use Rattle.ts_fetch.specs.declared.planned.Planned.{Planned}
use Rattle.ts_fetch.specs.Plans.{Going, begun, IsSpelledPlanned}
use Rattle.ts_sparse_read.specs.declared.opened.Opened.{Opened}
use Rattle.ts_sparse_read.specs.declared.opened.UsedColumn.{UsedColumn}
use Rattle.ts_sparse_read.specs.declared.opened.WantedTile.{WantedTile}
use Rattle.ts_sparse_read.specs.Used.{dim_parts, value_parts, validity_parts, attr_parts, origin_parts, column_parts, no_size, columns_told, is_used, used_among, span_by, span_of}
use Rattle.ts_sparse_read.specs.Opens.{used_in, size_call, span_call, tile_calls, calls_for, fetch_for}
use Rattle.ts_sparse_read.specs.Fits.{HasCells, FitsLeaf, tile_over, tiles_over}

-- ---- what is taken among columns

-- what holds of all holds of those that are read
pub used_keep : (P : UsedColumn → Type 0) (places : List ℕ) (columns : List UsedColumn) → All P columns → All P (used_among places columns)
used_keep P places [] all = All-nil P
used_keep P places (c ∷ columns) all = go (is_used places c.part) (used_keep P places columns (All-tail P c columns all))
  where
    go : (b : Bool) → All P (used_among places columns) → All P (if b then c ∷ used_among places columns else used_among places columns)
    go true more = All-cons P c (used_among places columns) (All-head P c columns all) more
    go false more = more

-- ---- lengths

has_cells : (cells tiles : ℕ) (p : Part) (form : ColumnForm) (size : ColumnSize) → FitsSize cells tiles form size → HasCells cells (record { part = p; form = form; size = size })
has_cells cells tiles p (Fixed width) size fits = fits.keeps.0
has_cells cells tiles p Var size fits = tt

pub told_fit : (cells tiles : ℕ) (parts : List Part) (forms : List ColumnForm) (sizes : List ColumnSize) → EachFits (FitsSize cells tiles) forms sizes → All (HasCells cells) (columns_told parts forms sizes)
told_fit cells tiles [] forms sizes fits = All-nil (HasCells cells)
told_fit cells tiles (p ∷ parts) [] sizes fits = All-nil (HasCells cells)
told_fit cells tiles (p ∷ parts) (f ∷ forms) [] fits = absurd fits
told_fit cells tiles (p ∷ parts) (f ∷ forms) (s ∷ sizes) fits =
    All-cons (HasCells cells) (record { part = p; form = f; size = s }) (columns_told parts forms sizes) (has_cells cells tiles p f s fits.0) (told_fit cells tiles parts forms sizes fits.1)

-- the objects that are read are as long as their cells ask
pub used_fit : (frame : Frame) (attrs : List Attr) (frag : FragKey) (footer : Footer) (places : List ℕ) (used : List UsedColumn) → FitsFooter frame attrs frag footer → used ≡ used_in frame attrs footer places
    → All (HasCells footer.head.cells) used
unfolding used_in
used_fit frame attrs frag footer places used fits is =
    let parts = column_parts frame.domain attrs footer.head.consolidated in
    let forms = column_forms frame.domain attrs footer.head.consolidated in
    subst (All (HasCells footer.head.cells)) (sym is)
    (used_keep (HasCells footer.head.cells) places (columns_told parts forms footer.sizes) (told_fit footer.head.cells footer.tiles parts forms footer.sizes fits.sizes))

-- ---- names

dims_named : (k : ℕ) (dims : List Dim) → k + length dims ≤ 8 → All IsSpelledPart (dim_parts k dims)
dims_named k [] few = All-nil IsSpelledPart
dims_named k (d ∷ dims) few = All-cons IsSpelledPart (part.Dim k) (dim_parts (suc k) dims) (omega (arith, few)) (dims_named (suc k) dims (omega (arith, few)))

values_named : (integer : Bool) (k : ℕ) → k ≤ 63 → All IsSpelledPart (value_parts integer k)
values_named true k few = All-cons IsSpelledPart (part.Attr k) [] few (All-nil IsSpelledPart)
values_named false k few = All-cons IsSpelledPart (part.Attr k) (part.Var k ∷ []) few (All-cons IsSpelledPart (part.Var k) [] few (All-nil IsSpelledPart))

marks_named : (nullable : Bool) (k : ℕ) → k ≤ 63 → All IsSpelledPart (validity_parts nullable k)
marks_named true k few = All-cons IsSpelledPart (part.Validity k) [] few (All-nil IsSpelledPart)
marks_named false k few = All-nil IsSpelledPart

attrs_named : (k : ℕ) (attrs : List Attr) → k + length attrs ≤ 64 → All IsSpelledPart (attr_parts k attrs)
attrs_named k [] few = All-nil IsSpelledPart
attrs_named k (a ∷ attrs) few =
    let here : k ≤ 63 = omega (arith, few) in
    All-append IsSpelledPart (value_parts (is_integer a.ty) k) (validity_parts a.nullable k ++ attr_parts (suc k) attrs) (values_named (is_integer a.ty) k here)
    (All-append IsSpelledPart (validity_parts a.nullable k) (attr_parts (suc k) attrs) (marks_named a.nullable k here) (attrs_named (suc k) attrs (omega (arith, few))))

origins_named : (consolidated : Bool) → All IsSpelledPart (origin_parts consolidated)
origins_named true = All-cons IsSpelledPart part.Origin [] tt (All-nil IsSpelledPart)
origins_named false = All-nil IsSpelledPart

pub parts_named : (dims : List Dim) (attrs : List Attr) (consolidated : Bool) → length dims ≤ 8 → length attrs ≤ 64 → All IsSpelledPart (column_parts dims attrs consolidated)
unfolding column_parts
parts_named dims attrs consolidated few_dims few =
    All-append IsSpelledPart (dim_parts 0 dims) (attr_parts 0 attrs ++ origin_parts consolidated) (dims_named 0 dims (omega (arith, few_dims)))
    (All-append IsSpelledPart (attr_parts 0 attrs) (origin_parts consolidated) (attrs_named 0 attrs (omega (arith, few))) (origins_named consolidated))

-- the part has a name
abbrev pub IsNamed : UsedColumn → Type 0
IsNamed column = IsSpelledPart column.part

pub told_named : (parts : List Part) (forms : List ColumnForm) (sizes : List ColumnSize) → All IsSpelledPart parts → All IsNamed (columns_told parts forms sizes)
told_named [] forms sizes all = All-nil IsNamed
told_named (p ∷ parts) [] sizes all = All-nil IsNamed
told_named (p ∷ parts) (f ∷ forms) [] all =
    All-cons IsNamed (record { part = p; form = f; size = no_size }) (columns_told parts forms []) (All-head IsSpelledPart p parts all) (told_named parts forms [] (All-tail IsSpelledPart p parts all))
told_named (p ∷ parts) (f ∷ forms) (s ∷ sizes) all =
    All-cons IsNamed (record { part = p; form = f; size = s }) (columns_told parts forms sizes) (All-head IsSpelledPart p parts all) (told_named parts forms sizes (All-tail IsSpelledPart p parts all))

pub sizes_named : (used : List UsedColumn) → All IsNamed used → All IsSpelledPlanned (map size_call used)
sizes_named [] all = All-nil IsSpelledPlanned
sizes_named (c ∷ used) all = All-cons IsSpelledPlanned (size_call c) (map size_call used) (All-head IsNamed c used all) (sizes_named used (All-tail IsNamed c used all))

span_named : (n cells i : ℕ) (form : ColumnForm) (p : Part) (size : ColumnSize) → IsSpelledPart p → IsSpelledPlanned (span_call (span_by form n cells i p size))
span_named n cells i (Fixed width) p size is = is
span_named n cells i Var p size is = is

spans_named : (n cells i : ℕ) (used : List UsedColumn) → All IsNamed used → All IsSpelledPlanned (map span_call (map (span_of n cells i) used))
spans_named n cells i [] all = All-nil IsSpelledPlanned
spans_named n cells i (c ∷ used) all =
    All-cons IsSpelledPlanned (span_call (span_of n cells i c)) (map span_call (map (span_of n cells i) used)) (span_named n cells i c.form c.part c.size (All-head IsNamed c used all))
    (spans_named n cells i used (All-tail IsNamed c used all))

tiles_named : (n cells : ℕ) (leaves : List SubBox) (used : List UsedColumn) (places : List ℕ) → All IsNamed used → All IsSpelledPlanned (flat_map tile_calls (map (tile_over n cells leaves used) places))
tiles_named n cells leaves used [] all = All-nil IsSpelledPlanned
tiles_named n cells leaves used (i ∷ places) all =
    All-append IsSpelledPlanned (map span_call (map (span_of n cells i) used)) (flat_map tile_calls (map (tile_over n cells leaves used) places)) (spans_named n cells i used all) (tiles_named n cells leaves used places all)

-- each call of the plan is on a part that has a name
pub plan_named : (frame : Frame) (attrs : List Attr) (footer : Footer) (wanted : List ℕ) (used : List UsedColumn) (n cells : ℕ) (leaves : List SubBox) (sub : SubBox) (tiles : List WantedTile) (plan : List Planned)
    → length frame.domain ≤ 8 → length attrs ≤ 64 → used ≡ used_in frame attrs footer wanted → tiles ≡ tiles_over frame.domain n cells leaves used sub → plan ≡ calls_for used tiles → All IsSpelledPlanned plan
unfolding used_in
plan_named frame attrs footer wanted used n cells leaves sub tiles plan few_dims few is tiles_are plan_is =
    let parts = column_parts frame.domain attrs footer.head.consolidated in
    let forms = column_forms frame.domain attrs footer.head.consolidated in
    let named : All IsNamed used = subst (All IsNamed) (sym is) (used_keep IsNamed wanted (columns_told parts forms footer.sizes) (told_named parts forms footer.sizes (parts_named frame.domain attrs footer.head.consolidated few_dims few))) in
    let calls = All-append IsSpelledPlanned (map size_call used) (flat_map tile_calls (tiles_over frame.domain n cells leaves used sub)) (sizes_named used named) (tiles_named n cells leaves used _ named) in
    subst (All IsSpelledPlanned) (sym (plan_is ∙ ap (calls_for used) tiles_are)) calls

-- ---- the tree

length-lows : (hull : List Side) → length (box_of hull).low ≡ length hull
length-lows [] = refl
length-lows (side ∷ hull) = ap suc (length-lows hull)

leaf_fits : (dims : List Dim) (hull : List Side) (box : SubBox) → IsHull dims hull → FitsRect (box_of hull) box → FitsLeaf dims box
leaf_fits dims hull box is fits = record { valid = fits.like.valid; count = fits.like.dims ∙ length-lows hull ∙ hull_length dims hull is; low = fits.low; high = fits.high }

-- the tree of metadata is over as many tiles as it says, whose boxes are such as the array has
pub tree_many : (frame : Frame) (attrs : List Attr) (frag : FragKey) (footer : Footer) → FitsFooter frame attrs frag footer → IfSome footer.tree (λ (tree : Rooted). length tree.leaves ≡ footer.tiles)
tree_many frame attrs frag footer fits = go footer.tree fits.tree
  where
    go : (tree : Option Rooted) → IsSomeAnd tree (FitsTree (box_of footer.head.hull) footer.tiles) → IfSome tree (λ (t : Rooted). length t.leaves ≡ footer.tiles)
    go None fit = tt
    go (Some t) fit = fit.many

pub tree_leaves : (frame : Frame) (attrs : List Attr) (frag : FragKey) (footer : Footer) → FitsFooter frame attrs frag footer → IsHull frame.domain footer.head.hull → IfSome footer.tree (λ (tree : Rooted). All (FitsLeaf frame.domain) tree.leaves)
tree_leaves frame attrs frag footer fits is = go footer.tree fits.tree
  where
    go : (tree : Option Rooted) → IsSomeAnd tree (FitsTree (box_of footer.head.hull) footer.tiles) → IfSome tree (λ (t : Rooted). All (FitsLeaf frame.domain) t.leaves)
    go None fit = tt
    go (Some t) fit = All-weaker (FitsRect (box_of footer.head.hull)) (FitsLeaf frame.domain) (λ box fits_box. leaf_fits frame.domain footer.head.hull box is fits_box) t.leaves fit.leaves

-- ---- the fetch

pub fetch_is : (frame : Frame) (attrs : List Attr) (frag : FragKey) (want : Want) (footer : Footer) (used : List UsedColumn) (tiles : List WantedTile) (plan : List Planned) (fields : List Attr) (wanted : Want) (fetch : Going Opened)
    → fetch ≡ begun {G = Opened} (record { frame = frame; attrs = fields; want = wanted; head = footer.head; tiles = tiles }) frag plan → fields ≡ attrs → wanted ≡ want → used ≡ used_in frame attrs footer want.attrs
    → tiles ≡ tiles_over frame.domain (max frame.capacity 1) footer.head.cells (leaves_in footer.tree) used want.sub → plan ≡ calls_for used tiles
    → fetch ≡ fetch_for frame attrs frag want footer (used_in frame attrs footer want.attrs)
fetch_is frame attrs frag want footer used tiles plan fields wanted fetch is same_attrs same_want used_is tiles_are plan_is =
    let T = λ (us : List UsedColumn). tiles_over frame.domain (max frame.capacity 1) footer.head.cells (leaves_in footer.tree) us want.sub in
    let F = λ (l : List Attr) (w : Want) (ts : List WantedTile) (p : List Planned). begun {G = Opened} (record { frame = frame; attrs = l; want = w; head = footer.head; tiles = ts }) frag p in
    is
    ∙ ap (λ l. F l wanted tiles plan) same_attrs
    ∙ ap (λ w. F attrs w tiles plan) same_want
    ∙ ap (λ p. F attrs want tiles p) plan_is
    ∙ ap (λ ts. F attrs want ts (calls_for used ts)) tiles_are
    ∙ ap (λ us. F attrs want (T us) (calls_for us (T us))) used_is
