-- The plan of a fetch over the parts of a stored dense piece is right about what is held.
use Rattle.std.proofs.Common.{◌≡◌, ℕ, Bool, true, false, cond, List, [], ◌∷◌, ◌++◌, length, map, Some, refl, ap, ◌∙◌, subst}
use Rattle.std.specs.Prelude.{filter}
use Rattle.std.specs.List.{All, AllByRecursion, flat_map}
use Rattle.std.proofs.lemmas.List.Elements.{All-head, All-tail, All-from_recursion}
use Rattle.ts_base.specs.declared.names.Part.{Part}
use Rattle.ts_wire.specs.declared.kinds.Kind.TheVariants as kind
use Rattle.ts_wire.specs.Envelope.{wrapped}
use Rattle.ts_wire.proofs.Objects.{length-wrapped}
use Rattle.ts_schema.specs.declared.attrs.Attr.{Attr}
use Rattle.ts_schema.specs.declared.frames.Frame.{Frame}
use Rattle.ts_schema.specs.Parts.{Look}
use Rattle.ts_plain.specs.declared.stored.StoredPiece.{StoredPiece}
use Rattle.ts_footer.specs.declared.columns.ColumnForm.{ColumnForm}
use Rattle.ts_footer.specs.declared.columns.ColumnForm.TheVariants.{Fixed, Var}
use Rattle.ts_footer.specs.declared.columns.ColumnSize.{ColumnSize}
use Rattle.ts_footer.specs.declared.footers.Footer.{Footer}
use Rattle.ts_footer.specs.Columns.{column_forms}
use Rattle.ts_fetch.specs.declared.planned.Planned.{Planned}
use Rattle.ts_fetch.specs.Plans.{IsRight}
use Rattle.ts_sparse.specs.Sparse.{Object, column_part, IsThere}
use Rattle.ts_sparse.specs.Told.{size_of}
use Rattle.ts_sparse.proofs.Shapes.{all_parts}
use Rattle.ts_dense.specs.Dense.{objects_of, meta_part, parts_of}
use Rattle.ts_sparse_read.specs.declared.opened.UsedColumn.{UsedColumn}
use Rattle.ts_sparse_read.specs.Used.{column_parts, columns_told, is_used}
use Rattle.ts_sparse_read.specs.Opens.{size_call, span_call, tile_calls, calls_for}
use Rattle.ts_dense_read.specs.SpaceOpens.{space_used, span_from, cells_before, cells_there, space_span, space_tiles}
use Rattle.ts_dense_read.specs.Told.{footer_of}
use Rattle.ts_dense_read.specs.FoundSpans.{parts_match}

-- ---- the plan

module _ (look : Look) where
  -- the object of a column is held, and as long as the metadata says
  record IsHeld (column : UsedColumn) : Type 0 where
    bytes : List ℕ
    held : look column.part ≡ Some bytes
    sized : length bytes ≡ (column.size).length

  -- so it is of each object that is there
  told_held : (os : List Object) (forms : List ColumnForm) → All (IsThere look) (map column_part os) → AllByRecursion IsHeld (columns_told (map (λ o. o.part) os) forms (map size_of os))
  told_held [] forms there = tt
  told_held (o ∷ os) [] there = tt
  told_held (o ∷ os) (f ∷ forms) there =
      let here = All-head (IsThere look) (column_part o) (map column_part os) there in (
        record { bytes = wrapped kind.Column o.body; held = here.there; sized = length-wrapped kind.Column o.body },
        told_held os forms (All-tail (IsThere look) (column_part o) (map column_part os) there),
      )

  -- and of those that are used
  used_held : (p : UsedColumn → Bool) (columns : List UsedColumn) → AllByRecursion IsHeld columns → AllByRecursion IsHeld (filter p columns)
  used_held p [] all = tt
  used_held p (c ∷ columns) all = by (used_held p columns all.1) (p c)
    where
      by : AllByRecursion IsHeld (filter p columns) → (b : Bool) → AllByRecursion IsHeld (cond b (c ∷ filter p columns) (filter p columns))
      by rest true = (all.0, rest)
      by rest false = rest

  -- calls of two lists are right
  both_right : (xs ys : List Planned) → AllByRecursion (IsRight look) xs → AllByRecursion (IsRight look) ys → AllByRecursion (IsRight look) (xs ++ ys)
  both_right [] ys first second = second
  both_right (x ∷ xs) ys first second = (first.0, both_right xs ys first.1 second)

  -- the sizes are right
  sizes_right : (used : List UsedColumn) → AllByRecursion IsHeld used → AllByRecursion (IsRight look) (map size_call used)
  sizes_right [] all = tt
  sizes_right (c ∷ used) all = let h = all.0 in ((h.bytes, h.held, h.sized), sizes_right used all.1)

  -- a span lies in the part of its object
  span_part : (form : ColumnForm) (first count i : ℕ) (p : Part) (size : ColumnSize) → (span_from form first count i p size).part ≡ p
  span_part (Fixed width) first count i p size = refl
  span_part Var first count i p size = refl

  module _ (frame : Frame) (footer : Footer) where
    -- the spans of a tile are right
    spans_right : (i : ℕ) (used : List UsedColumn) → AllByRecursion IsHeld used → AllByRecursion (IsRight look) (map span_call (map (space_span frame footer i) used))
    spans_right i [] all = tt
    spans_right i (c ∷ used) all = let h = all.0 in ((h.bytes, ap look (span_part c.form (cells_before frame footer i) (cells_there frame footer i) i c.part c.size) ∙ h.held), spans_right i used all.1)

    -- those of all tiles are
    tiles_right : (used : List UsedColumn) (tiles : List ℕ) → AllByRecursion IsHeld used → AllByRecursion (IsRight look) (flat_map tile_calls (space_tiles frame footer used tiles))
    tiles_right used [] all = tt
    tiles_right used (i ∷ tiles) all =
        both_right (map span_call (map (space_span frame footer i) used)) (flat_map tile_calls (space_tiles frame footer used tiles)) (spans_right i used all) (tiles_right used tiles all)

  -- the objects of columns are there
  objects_there : (frame : Frame) (attrs : List Attr) (s : StoredPiece) → All (IsThere look) (parts_of frame attrs s) → All (IsThere look) (map column_part (objects_of frame attrs s))
  unfolding parts_of
  objects_there frame attrs s there = (all_parts (IsThere look) (map column_part (objects_of frame attrs s)) (meta_part frame attrs s ∷ []) there).0

  -- the plan is right, whichever attributes and tiles it reads
  pub plan_right : (frame : Frame) (attrs : List Attr) (s : StoredPiece) (places tiles : List ℕ) → All (IsThere look) (parts_of frame attrs s)
      → All (IsRight look) (calls_for (space_used attrs (footer_of frame attrs s) places) (space_tiles frame (footer_of frame attrs s) (space_used attrs (footer_of frame attrs s) places) tiles))
  unfolding space_used
  plan_right frame attrs s places tiles there =
      let footer = footer_of frame attrs s in
      let objects = objects_of frame attrs s in
      let forms = column_forms [] attrs s.head.consolidated in
      let P : List Part → Type 0 = λ ps. AllByRecursion IsHeld (columns_told ps forms (map size_of objects)) in
      let told = subst P (parts_match frame attrs s) (told_held objects forms (objects_there frame attrs s there)) in
      let used = space_used attrs footer places in
      let held : AllByRecursion IsHeld used = used_held (λ column. is_used places column.part) (columns_told (column_parts [] attrs s.head.consolidated) forms (map size_of objects)) told in
      All-from_recursion (IsRight look) (calls_for used (space_tiles frame footer used tiles))
      (both_right (map size_call used) (flat_map tile_calls (space_tiles frame footer used tiles)) (sizes_right used held) (tiles_right frame footer used tiles held))
