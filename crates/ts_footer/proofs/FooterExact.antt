-- What the metadata stores is read exactly: each field, and the whole.
use Rattle.std.proofs.Common.{◌≡◌, ℕ, ◌^◌, ◌<◌, ◌≤◌, true, ◌&&◌, nat_eq, nat_le, int_le, List, [], ◌∷◌, ◌++◌, map, Option, Some, None, refl, sym, ap, subst, ◌∙◌, arith, append_assoc, ℤ}
use Rattle.std.specs.List.{All, flat_map}
use Rattle.std.specs.Option.{IsSomeAnd}
use Rattle.std.proofs.lemmas.Bool.{and_parts, and_from, leb-true, eqb-true, eq-eqb}
use Rattle.std.proofs.lemmas.List.{append-nil}
use Rattle.std.proofs.lemmas.List.Concat.{flat_map-append}
use Rattle.std.proofs.lemmas.List.Elements.{All-nil, All-cons}
use Rattle.ts_base.specs.declared.keys.FragKey.{FragKey}
use Rattle.ts_domain.specs.declared.dims.Dim.{Dim}
use Rattle.ts_domain.specs.declared.boxes.SubBox.{SubBox}
use Rattle.ts_domain.specs.Bounds.{are_bounds}
use Rattle.ts_domain.specs.Rects.{rect_bytes}
use Rattle.ts_wire.specs.Exact.{Exact, EachFits}
use Rattle.ts_wire.specs.Numbers.{number_bytes, FitsInt}
use Rattle.ts_wire.proofs.Laws.{restated, given_exact, mapped_exact, both_exact, ruled_exact, items_exact, each_exact}
use Rattle.ts_wire.proofs.Numbers.{number_exact}
use Rattle.ts_schema.specs.declared.attrs.Attr.{Attr}
use Rattle.ts_schema.specs.declared.frames.Frame.{Frame}
use Rattle.ts_rtree.specs.Trees.{Rooted, nodes_of}
use Rattle.ts_plain.specs.declared.stored.Side.{Side}
use Rattle.ts_plain.specs.declared.stored.StoredHead.{StoredHead}
use Rattle.ts_plain.specs.Plain.{FitsSide, FitsHeadBy}
use Rattle.ts_plain.specs.Rules.{is_full, last_of}
use Rattle.ts_plain.proofs.PlainExact.{head_by_exact}
use Rattle.ts_footer.specs.declared.columns.ColumnForm.{ColumnForm}
use Rattle.ts_footer.specs.declared.columns.ColumnForm.TheVariants.{Fixed, Var}
use Rattle.ts_footer.specs.declared.columns.ColumnSize.{ColumnSize}
use Rattle.ts_footer.specs.Columns.{tiles_for, tile_count_at, fixed_length, fixed_at, may_start, start_at, starts_at, size_at, sizes_at, sizes_of, FitsStart, FitsStarts, FitsSize}
use Rattle.ts_plain.specs.Writes.{box_of}
use Rattle.ts_footer.specs.Footers.{laid_tiles_at, laid_footer_at, leaves_in, layout_bytes, footer_bytes, FitsRect, FitsTree, FitsTreeIn, FitsLaidFooter}
use Rattle.ts_footer.specs.declared.tilings.Tiling.{Tiling}
use Rattle.ts_footer.specs.declared.tilings.Tiling.TheVariants.{Sparse, Dense}
use Rattle.ts_footer.specs.Tilings.{full_in, forms_in, tile_total, tree_in}
use Rattle.ts_footer.proofs.FooterReads.{some_cell, tiles_some}
use Rattle.ts_footer.proofs.Writes.{no_boxes}
use Rattle.ts_footer.proofs.TreeExact.{tree_text, tree_exact}

-- ---- the objects of columns

count_exact : (total : ℕ) → Exact (λ tiles. (tiles < 256 ^ 4) × (nat_eq tiles total ≡ true)) (number_bytes 4) (tile_count_at total)
unfolding tile_count_at
count_exact total = ruled_exact (λ tiles. nat_eq tiles total) (number_exact 4)

fixed_exact : (width cells : ℕ) → Exact (λ n. (n < 256 ^ 8) × (nat_eq n (fixed_length width cells) ≡ true)) (number_bytes 8) (fixed_at width cells)
unfolding fixed_at
fixed_exact width cells = ruled_exact (λ n. nat_eq n (fixed_length width cells)) (number_exact 8)

start_exact : (end : ℕ) (front : List ℕ) → end < 256 ^ 8 → Exact (FitsStart end front) (number_bytes 8) (start_at end front)
unfolding start_at
start_exact end front few =
    restated (ruled_exact (λ start. may_start (last_of front) start && nat_le start end) (number_exact 8)) (λ start fits. (fits.1, refl))
    (λ start fits. let most = leb-true start end (and_parts (may_start (last_of front) start) (nat_le start end) fits).1 in (omega (arith, few, most), fits))

starts_exact : (tiles end : ℕ) → end < 256 ^ 8 → Exact (FitsStarts tiles end) (flat_map (number_bytes 8)) (starts_at tiles end)
unfolding starts_at
starts_exact tiles end few =
    restated (items_exact (λ front. start_exact end front few) tiles []) (λ starts fits. (record { many = fits.0; each = fits.1 }, refl)) (λ starts fits. (fits.many, fits.each))

-- the numbers that stand for one object
abbrev size_bytes : ColumnSize → List ℕ
size_bytes size = flat_map (number_bytes 8) (size.length ∷ size.starts)

size_exact : (cells tiles : ℕ) (form : ColumnForm) → Exact (FitsSize cells tiles form) size_bytes (size_at cells tiles form)
unfolding size_at
size_exact cells tiles (Fixed width) = mapped_exact (fixed_exact width cells) (record {
  there = λ n fits. (record { room = fits.0; keeps = (eqb-true n (fixed_length width cells) fits.1, refl) }, sym (append-nil (number_bytes 8 n)));
  back = λ size fits. (
    size.length,
    (fits.room, eq-eqb size.length (fixed_length width cells) fits.keeps.0),
    ap (λ starts. record { length = size.length; starts = starts }) (sym fits.keeps.1),
    sym (append-nil (number_bytes 8 size.length)) ∙ ap (λ starts. number_bytes 8 size.length ++ flat_map (number_bytes 8) starts) (sym fits.keeps.1),
  );
})
size_exact cells tiles Var = mapped_exact (both_exact (number_exact 8) (λ n few. starts_exact tiles n few)) (record {
  there = λ x fits. (record { room = fits.0; keeps = fits.1 }, refl);
  back = λ size fits. ((size.length, size.starts), (fits.room, fits.keeps), refl, refl);
})

sizes_spelled : (sizes : List ColumnSize) → flat_map size_bytes sizes ≡ flat_map (number_bytes 8) (sizes_of sizes)
sizes_spelled [] = refl
sizes_spelled (size ∷ sizes) =
    ap (λ text. size_bytes size ++ text) (sizes_spelled sizes)
    ∙ append_assoc (number_bytes 8 size.length) (flat_map (number_bytes 8) size.starts) (flat_map (number_bytes 8) (sizes_of sizes))
    ∙ ap (λ text. number_bytes 8 size.length ++ text) (sym (flat_map-append (number_bytes 8) size.starts (sizes_of sizes)))

sizes_exact : (cells tiles : ℕ) (forms : List ColumnForm)
    → Exact (EachFits (FitsSize cells tiles) forms) (λ sizes. flat_map (number_bytes 8) (sizes_of sizes)) (sizes_at cells tiles forms)
unfolding sizes_at
sizes_exact cells tiles forms = restated (each_exact (size_exact cells tiles) forms) (λ sizes fits. (fits, sizes_spelled sizes)) (λ sizes fits. fits)

-- ---- the hull

abbrev Fits : ℤ → Type 0
Fits x = FitsInt 16 true x

-- what is known of the hull of a head that fits
record AreEnds (hull : List Side) : Type 0 where
  bounds : are_bounds (map (λ side. side.low) hull) (map (λ side. side.high) hull) ≡ true
  low : All Fits (map (λ side. side.low) hull)
  high : All Fits (map (λ side. side.high) hull)

are_ends : (dims : List Dim) (hull : List Side) → EachFits FitsSide dims hull → AreEnds hull
are_ends [] [] fits = record { bounds = refl; low = All-nil Fits; high = All-nil Fits }
are_ends [] (side ∷ hull) fits = absurd fits
are_ends (d ∷ dims) [] fits = absurd fits
are_ends (d ∷ dims) (side ∷ hull) (first, others) =
    let rest = are_ends dims hull others in
    let span : int_le side.low side.high ≡ true = (and_parts (int_le side.low side.high) (int_le side.high d.high) first.high.1).0 in
    record {
      bounds = and_from (int_le side.low side.high) _ span rest.bounds;
      low = All-cons Fits side.low (map (λ side. side.low) hull) first.low.0 rest.low;
      high = All-cons Fits side.high (map (λ side. side.high) hull) first.high.0 rest.high;
    }

-- the hull of a head that fits is a box with room
hull_rect : (dims : List Dim) (hull : List Side) → EachFits FitsSide dims hull → FitsRect (box_of hull) (box_of hull)
hull_rect dims hull fits =
    let ends = are_ends dims hull fits in
    record { like = record { valid = ends.bounds; dims = refl }; low = ends.low; high = ends.high }

-- ---- the whole

-- the spelling of a tree, where there is one
abbrev boxes_text : Option Rooted → List ℕ
boxes_text tree = flat_map rect_bytes (nodes_of (leaves_in tree))

-- what is known of a tree that is there
tree_parts : (hull : SubBox) (tiles : ℕ) (tree : Option Rooted) → IsSomeAnd tree (FitsTree hull tiles)
    → (t : Rooted) × FitsTree hull tiles t × (Some t ≡ tree) × (tree_text t ≡ boxes_text tree)
tree_parts hull tiles None fits = absurd fits
tree_parts hull tiles (Some t) fits = (t, fits, refl, refl)

-- a tree where there is one to be
tree_in_exact : (tiling : Tiling) (frame : Frame) (frag : FragKey) (head : StoredHead) (tiles : ℕ) → FitsHeadBy (full_in tiling frame.dense) frame frag head
    → nat_eq tiles (tile_total tiling frame head) ≡ true → Exact (FitsTreeIn tiling (box_of head.hull) tiles) boxes_text (tree_in tiling (box_of head.hull) tiles)
tree_in_exact Sparse frame frag head tiles fits as_many =
    let some = some_cell (is_full frame.dense) frame frag head fits in
    let more = tiles_some frame.capacity head.cells some in
    let same = eqb-true tiles (tiles_for frame.capacity head.cells) as_many in
    mapped_exact (tree_exact (box_of head.hull) tiles (subst (λ n. 1 ≤ n) (sym same) more) (hull_rect frame.domain head.hull fits.hull)) (record {
      there = λ t fit. (fit, refl);
      back = λ tree fit. tree_parts (box_of head.hull) tiles tree fit;
    })
tree_in_exact Dense frame frag head tiles fits as_many = restated (given_exact None) (λ tree none. (none, sym (ap boxes_text none ∙ no_boxes))) (λ tree none. none)

-- what fits behind a head
abbrev FitsTiles : Tiling → Frame → List Attr → StoredHead → ℕ × (List ColumnSize × Option Rooted) → Type 0
FitsTiles tiling frame attrs head x =
    ((x.0 < 256 ^ 4) × (nat_eq x.0 (tile_total tiling frame head) ≡ true))
    × (EachFits (FitsSize head.cells x.0) (forms_in tiling frame attrs head.consolidated) x.1.0 × FitsTreeIn tiling (box_of head.hull) x.0 x.1.1)

abbrev tiles_text : ℕ × (List ColumnSize × Option Rooted) → List ℕ
tiles_text x = number_bytes 4 x.0 ++ (flat_map (number_bytes 8) (sizes_of x.1.0) ++ boxes_text x.1.1)

tiles_exact : (tiling : Tiling) (frame : Frame) (attrs : List Attr) (frag : FragKey) (head : StoredHead) → FitsHeadBy (full_in tiling frame.dense) frame frag head
    → Exact (FitsTiles tiling frame attrs head) tiles_text (laid_tiles_at tiling frame attrs head)
unfolding laid_tiles_at
tiles_exact tiling frame attrs frag head fits =
    both_exact (count_exact (tile_total tiling frame head)) (λ tiles as_many.
    both_exact (sizes_exact head.cells tiles (forms_in tiling frame attrs head.consolidated)) (λ _ _. tree_in_exact tiling frame frag head tiles fits as_many.1))

-- each spelling of what fits is read, and nothing else
pub footer_exact : (tiling : Tiling) (frame : Frame) (attrs : List Attr) (frag : FragKey) → Exact (FitsLaidFooter tiling frame attrs frag) footer_bytes (laid_footer_at tiling frame attrs frag)
unfolding laid_footer_at layout_bytes
footer_exact tiling frame attrs frag = mapped_exact (both_exact (head_by_exact (full_in tiling frame.dense) frame frag) (λ head fits. tiles_exact tiling frame attrs frag head fits)) (record {
  there = λ x fits. (
    record {
      head = fits.0;
      tiles = eqb-true x.1.0 (tile_total tiling frame x.0) fits.1.0.1;
      few = fits.1.0.0;
      sizes = fits.1.1.0;
      tree = fits.1.1.1;
    },
    refl,
  );
  back = λ footer fits. (
    (footer.head, (footer.tiles, (footer.sizes, footer.tree))),
    (fits.head, ((fits.few, eq-eqb footer.tiles (tile_total tiling frame footer.head) fits.tiles), (fits.sizes, fits.tree))),
    refl,
    refl,
  );
})
