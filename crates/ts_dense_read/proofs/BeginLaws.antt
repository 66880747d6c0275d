-- A fetch begins with a plan whose parts have names, and is the one that is defined.
use Rattle.std.proofs.Common.{◌≡◌, ℕ, ◌≤◌, List, [], ◌∷◌, length, map, sym, ap, subst, ◌∙◌, arith}
use Rattle.std.specs.List.{All, flat_map}
use Rattle.std.proofs.lemmas.List.Elements.{All-nil, All-cons, All-head, All-tail, All-append}
use Rattle.ts_base.specs.declared.keys.FragKey.{FragKey}
use Rattle.ts_base.specs.declared.names.Part.{Part}
use Rattle.ts_base.specs.Names.{IsSpelledPart}
use Rattle.ts_domain.specs.declared.boxes.SubBox.{SubBox}
use Rattle.ts_schema.specs.declared.attrs.Attr.{Attr}
use Rattle.ts_schema.specs.declared.frames.Frame.{Frame}
use Rattle.ts_schema.specs.declared.wants.Want.{Want}
use Rattle.ts_footer.specs.declared.columns.ColumnForm.{ColumnForm}
use Rattle.ts_footer.specs.declared.columns.ColumnForm.TheVariants.{Fixed, Var}
use Rattle.ts_footer.specs.declared.columns.ColumnSize.{ColumnSize}
use Rattle.ts_footer.specs.declared.footers.Footer.{Footer}
use Rattle.ts_footer.specs.Columns.{column_forms}
use Rattle.ts_fetch.specs.declared.planned.Planned.{Planned}
use Rattle.ts_fetch.specs.Plans.{Going, begun, IsSpelledPlanned}
use Rattle.ts_dense.specs.Slots.{tiles_over}
use Rattle.ts_sparse_read.specs.declared.opened.UsedColumn.{UsedColumn}
use Rattle.ts_sparse_read.specs.declared.opened.WantedTile.{WantedTile}
use Rattle.ts_sparse_read.specs.Used.{column_parts, columns_told}
use Rattle.ts_sparse_read.specs.Opens.{size_call, span_call, tile_calls, calls_for}
use Rattle.ts_sparse_read.proofs.OpenLaws.{used_keep, parts_named, IsNamed, told_named, sizes_named}
use Rattle.ts_dense_read.specs.declared.opened.Opened.{Opened}
use Rattle.ts_dense_read.specs.SpaceOpens.{span_from, hull_in, space_used, space_fetch}
use Rattle.ts_dense_read.specs.SpaceTakes.{span_behind, tile_among, tiles_met}

-- ---- names

span_named : (before cells i : ℕ) (form : ColumnForm) (p : Part) (size : ColumnSize) → IsSpelledPart p → IsSpelledPlanned (span_call (span_from form before cells i p size))
span_named before cells i (Fixed width) p size is = is
span_named before cells i Var p size is = is

spans_named : (before cells i : ℕ) (used : List UsedColumn) → All IsNamed used → All IsSpelledPlanned (map span_call (map (span_behind before cells i) used))
spans_named before cells i [] all = All-nil IsSpelledPlanned
spans_named before cells i (c ∷ used) all =
    All-cons IsSpelledPlanned (span_call (span_behind before cells i c)) (map span_call (map (span_behind before cells i) used)) (span_named before cells i c.form c.part c.size (All-head IsNamed c used all))
    (spans_named before cells i used (All-tail IsNamed c used all))

tiles_named : (boxes : List SubBox) (used : List UsedColumn) (places : List ℕ) → All IsNamed used → All IsSpelledPlanned (flat_map tile_calls (map (tile_among boxes used) places))
tiles_named boxes used [] all = All-nil IsSpelledPlanned
tiles_named boxes used (i ∷ places) all =
    All-append IsSpelledPlanned (tile_calls (tile_among boxes used i)) (flat_map tile_calls (map (tile_among boxes used) places)) (spans_named _ _ i used all) (tiles_named boxes used places all)

-- each call of the plan is on a part that has a name
pub plan_named : (frame : Frame) (attrs : List Attr) (footer : Footer) (wanted : List ℕ) (used : List UsedColumn) (hull sub : SubBox) (tiles : List WantedTile) (plan : List Planned)
    → length attrs ≤ 64 → used ≡ space_used attrs footer wanted → tiles ≡ tiles_met frame hull used sub → plan ≡ calls_for used tiles → All IsSpelledPlanned plan
unfolding space_used
plan_named frame attrs footer wanted used hull sub tiles plan few is tiles_are plan_is =
    let parts = column_parts [] attrs footer.head.consolidated in
    let forms = column_forms [] attrs footer.head.consolidated in
    let named : All IsNamed used = subst (All IsNamed) (sym is) (used_keep IsNamed wanted (columns_told parts forms footer.sizes) (told_named parts forms footer.sizes (parts_named [] attrs footer.head.consolidated (omega arith) few))) in
    let calls = All-append IsSpelledPlanned (map size_call used) (flat_map tile_calls (tiles_met frame hull used sub)) (sizes_named used named) (tiles_named (tiles_over frame hull) used _ named) in
    subst (All IsSpelledPlanned) (sym (plan_is ∙ ap (calls_for used) tiles_are)) calls

-- ---- the fetch

pub fetch_is : (frame : Frame) (attrs : List Attr) (frag : FragKey) (want : Want) (footer : Footer) (used : List UsedColumn) (tiles : List WantedTile) (plan : List Planned) (fields : List Attr) (wanted : Want) (fetch : Going Opened)
    → fetch ≡ begun {G = Opened} (record { frame = frame; attrs = fields; want = wanted; head = footer.head; tiles = tiles }) frag plan → fields ≡ attrs → wanted ≡ want → used ≡ space_used attrs footer want.attrs
    → tiles ≡ tiles_met frame (hull_in footer) used want.sub → plan ≡ calls_for used tiles
    → fetch ≡ space_fetch frame attrs frag want footer (space_used attrs footer want.attrs)
fetch_is frame attrs frag want footer used tiles plan fields wanted fetch is same_attrs same_want used_is tiles_are plan_is =
    let T = λ (us : List UsedColumn). tiles_met frame (hull_in footer) us want.sub in
    let F = λ (l : List Attr) (w : Want) (ts : List WantedTile) (p : List Planned). begun {G = Opened} (record { frame = frame; attrs = l; want = w; head = footer.head; tiles = ts }) frag p in
    is
    ∙ ap (λ l. F l wanted tiles plan) same_attrs
    ∙ ap (λ w. F attrs w tiles plan) same_want
    ∙ ap (λ p. F attrs want tiles p) plan_is
    ∙ ap (λ ts. F attrs want ts (calls_for used ts)) tiles_are
    ∙ ap (λ us. F attrs want (T us) (calls_for us (T us))) used_is
