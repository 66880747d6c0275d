-- What a plain object stores is read exactly: each field before the cells, each cell, and the whole.
use Rattle.std.proofs.Common.{◌≡◌, ℕ, ◌^◌, ◌<◌, ℤ, Bool, true, ◌&&◌, nat_lt, List, [], length, Option, refl, lit≤}
use Rattle.std.specs.Bool.{beq}
use Rattle.std.specs.List.{flat_map}
use Rattle.ts_base.specs.declared.keys.Key.{Key}
use Rattle.ts_base.specs.declared.keys.FragKey.{FragKey}
use Rattle.ts_domain.specs.declared.dims.Dim.{Dim}
use Rattle.ts_wire.specs.Exact.{Exact, InTurn, EachFits}
use Rattle.ts_wire.specs.Numbers.{number_bytes, int_bytes}
use Rattle.ts_wire.specs.Fields.{bool_bytes, key_bytes, val_bytes}
use Rattle.ts_wire.proofs.Laws.{restated, mapped_exact, both_exact, ruled_exact, items_exact, numbered_exact, each_exact}
use Rattle.ts_wire.proofs.Numbers.{number_exact, int_exact}
use Rattle.ts_wire.proofs.FieldLaws.{bool_exact, key_exact}
use Rattle.ts_schema.specs.declared.attrs.Attr.{Attr}
use Rattle.ts_schema.specs.declared.frames.Frame.{Frame}
use Rattle.ts_schema.proofs.SchemaLaws.{fill_exact}
use Rattle.ts_plain.specs.declared.stored.Side.{Side}
use Rattle.ts_plain.specs.declared.stored.StoredHead.{StoredHead}
use Rattle.ts_plain.specs.declared.stored.StoredCell.{StoredCell}
use Rattle.ts_plain.specs.Rules.{is_on_side, side_of, from_on, may_span, is_full, may_hold, may_count, last_of, may_be_origin, coords_rise, origin_rises}
use Rattle.ts_plain.specs.Plain.{dense_at, consolidated_at, coord_at, side_at, hull_at, cells_at, origin_count_at, origin_at, origins_at, head_by, head_at, coords_at, index_at, value_at, row_at, cell_at, plain_at, side_bytes, hull_bytes, origins_bytes, head_bytes, cell_bytes, plain_bytes, FitsCoord, FitsSide, FitsOrigin, FitsHeadBy, FitsHead, FitsValue, FitsCell, FitsPlain}

-- ---- before the cells

dense_exact : (dense : Bool) → Exact (λ stored. Unit {0} × (beq dense stored ≡ true)) bool_bytes (dense_at dense)
unfolding dense_at
dense_exact dense = ruled_exact (beq dense) bool_exact

consolidated_exact : (frag : FragKey) → Exact (λ consolidated. Unit {0} × (may_span frag consolidated ≡ true)) bool_bytes (consolidated_at frag)
unfolding consolidated_at
consolidated_exact frag = ruled_exact (may_span frag) bool_exact

coord_exact : (side : Side) → Exact (FitsCoord side) (int_bytes 16) (coord_at side)
unfolding coord_at
coord_exact side = ruled_exact (is_on_side side) (int_exact 16 true (lit≤ tt) (lit≤ tt))

side_exact : (d : Dim) → Exact (FitsSide d) side_bytes (side_at d)
unfolding side_at side_bytes
side_exact d = mapped_exact (both_exact (coord_exact (side_of d)) (λ low _. coord_exact (from_on (side_of d) low))) (record {
  there = λ x fits. (record { low = fits.0; high = fits.1 }, refl);
  back = λ side fits. ((side.low, side.high), (fits.low, fits.high), refl, refl);
})

hull_exact : (dims : List Dim) → Exact (EachFits FitsSide dims) hull_bytes (hull_at dims)
unfolding hull_at hull_bytes
hull_exact dims = each_exact side_exact dims

cells_exact : (full : Bool) (hull : List Side) → Exact (λ cells. (cells < 256 ^ 8) × (may_hold full hull cells ≡ true)) (number_bytes 8) (cells_at full hull)
unfolding cells_at
cells_exact full hull = ruled_exact (may_hold full hull) (number_exact 8)

origin_count_exact : (consolidated : Bool) → Exact (λ count. (count < 256 ^ 4) × (may_count consolidated count ≡ true)) (number_bytes 4) (origin_count_at consolidated)
unfolding origin_count_at
origin_count_exact consolidated = ruled_exact (may_count consolidated) (number_exact 4)

origin_exact : (frag : FragKey) (consolidated : Bool) (count : ℕ) (front : List Key) → Exact (FitsOrigin frag consolidated count front) key_bytes (origin_at frag consolidated count front)
unfolding origin_at
origin_exact frag consolidated count front =
    restated (ruled_exact (may_be_origin frag consolidated count front) key_exact)
    (λ key fits. (record { range = fits.0; in_place = fits.1 }, refl)) (λ key fits. (fits.range, fits.in_place))

-- the origins are so many as may be, and each is in its place
abbrev FitsOrigins : FragKey → Bool → List Key → Type 0
FitsOrigins frag consolidated origins =
    ((length origins < 256 ^ 4) × (may_count consolidated (length origins) ≡ true)) × InTurn (FitsOrigin frag consolidated (length origins)) [] origins

origins_exact : (frag : FragKey) (consolidated : Bool) → Exact (FitsOrigins frag consolidated) origins_bytes (origins_at frag consolidated)
unfolding origins_at origins_bytes
origins_exact frag consolidated = numbered_exact (origin_count_exact consolidated) (λ count _. origin_exact frag consolidated count)

pub head_by_exact : (full : Bool → Bool) (frame : Frame) (frag : FragKey) → Exact (FitsHeadBy full frame frag) head_bytes (head_by full frame frag)
unfolding head_by head_bytes
head_by_exact full frame frag =
    mapped_exact (both_exact key_exact (λ _ _. both_exact (dense_exact frame.dense) (λ _ _. both_exact (consolidated_exact frag) (λ consolidated _.
    both_exact (hull_exact frame.domain) (λ hull _. both_exact (cells_exact (full consolidated) hull) (λ _ _. origins_exact frag consolidated)))))) (record {
      there = λ x fits. (
        record {
          schema = fits.0;
          kind = fits.1.0.1;
          span = fits.1.1.0.1;
          hull = fits.1.1.1.0;
          cells = fits.1.1.1.1.0.0;
          as_many = fits.1.1.1.1.0.1;
          few_origins = fits.1.1.1.1.1.0.0;
          some_origin = fits.1.1.1.1.1.0.1;
          origins = fits.1.1.1.1.1.1;
        },
        refl,
      );
      back = λ head fits. (
        (head.schema, (head.dense, (head.consolidated, (head.hull, (head.cells, head.origins))))),
        (fits.schema, ((tt, fits.kind), ((tt, fits.span), (fits.hull, ((fits.cells, fits.as_many), ((fits.few_origins, fits.some_origin), fits.origins)))))),
        refl,
        refl,
      );
    })

pub head_exact : (frame : Frame) (frag : FragKey) → Exact (FitsHead frame frag) head_bytes (head_at frame frag)
head_exact frame frag = head_by_exact (is_full frame.dense) frame frag

-- ---- cells

coords_exact : (frame : Frame) (hull : List Side) (before : Option StoredCell)
    → Exact (λ coords. EachFits FitsCoord hull coords × (coords_rise frame before coords ≡ true)) (flat_map (int_bytes 16)) (coords_at frame hull before)
unfolding coords_at
coords_exact frame hull before = ruled_exact (coords_rise frame before) (each_exact coord_exact hull)

index_exact : (dense : Bool) (count : ℕ) (before : Option StoredCell) (coords : List ℤ)
    → Exact (λ origin. (origin < 256 ^ 4) × (nat_lt origin count && origin_rises dense before coords origin ≡ true)) (number_bytes 4) (index_at dense count before coords)
unfolding index_at
index_exact dense count before coords = ruled_exact (λ origin. nat_lt origin count && origin_rises dense before coords origin) (number_exact 4)

value_exact : (attr : Attr) → Exact (FitsValue attr) val_bytes (value_at attr)
unfolding value_at
value_exact attr = fill_exact attr.ty attr.nullable

row_exact : (attrs : List Attr) → Exact (EachFits FitsValue attrs) (flat_map val_bytes) (row_at attrs)
unfolding row_at
row_exact attrs = each_exact value_exact attrs

pub cell_exact : (frame : Frame) (attrs : List Attr) (head : StoredHead) (front : List StoredCell) → Exact (FitsCell frame attrs head front) cell_bytes (cell_at frame attrs head front)
unfolding cell_at cell_bytes
cell_exact frame attrs head front =
    mapped_exact (both_exact (coords_exact frame head.hull (last_of front)) (λ coords _. both_exact (index_exact frame.dense (length head.origins) (last_of front) coords) (λ _ _. row_exact attrs))) (record {
      there = λ x fits. (record { coords = fits.0.0; rises = fits.0.1; origin = fits.1.0.0; known = fits.1.0.1; row = fits.1.1 }, refl);
      back = λ cell fits. ((cell.coords, (cell.origin, cell.row)), ((fits.coords, fits.rises), ((fits.origin, fits.known), fits.row)), refl, refl);
    })

-- ---- the whole

pub plain_exact : (frame : Frame) (attrs : List Attr) (frag : FragKey) → Exact (FitsPlain frame attrs frag) plain_bytes (plain_at frame attrs frag)
unfolding plain_at plain_bytes
plain_exact frame attrs frag = mapped_exact (both_exact (head_exact frame frag) (λ head _. items_exact (cell_exact frame attrs head) head.cells [])) (record {
  there = λ x fits. (record { head = fits.0; count = fits.1.0; cells = fits.1.1 }, refl);
  back = λ stored fits. ((stored.head, stored.cells), (fits.head, (fits.count, fits.cells)), refl, refl);
})
