-- A fetch of a sparse fragment asks for parts of its own fragment, takes what lies in the box that is wanted, and makes no more gets than it may.
use Rattle.std.proofs.Common.{◌≡◌, ℕ, ◌+◌, ◌*◌, ◌≤◌, Bool, true, false, cond, List, [], ◌∷◌, ◌++◌, length, map, Option, None, Result, Ok, refl, sym, ap, ◌∙◌, subst, arith, inl}
use Rattle.std.specs.Prelude.{IsTrue, filter, if◌then◌else◌}
use Rattle.std.specs.List.{flat_map}
use Rattle.std.specs.Option.{IsSomeAnd}
use Rattle.std.proofs.Math.Nat.{mul-le-mul}
use Rattle.std.proofs.lemmas.Bool.{and_parts}
use Rattle.std.proofs.lemmas.List.{length-map}
use Rattle.std.proofs.lemmas.List.Elements.{All-map, All-weaker, filter_passes}
use Rattle.ts_base.specs.declared.names.Part.{Part}
use Rattle.ts_base.specs.declared.heads.Piece.{Piece}
use Rattle.ts_base.specs.declared.heads.Version.{Version}
use Rattle.ts_base.specs.Keys.{is_within}
use Rattle.ts_domain.specs.declared.boxes.SubBox.{SubBox}
use Rattle.ts_domain.specs.Boxes.{is_in_box}
use Rattle.ts_domain.specs.Rects.{places_meeting}
use Rattle.ts_rtree.specs.Trees.{count_meeting}
use Rattle.ts_rtree.proofs.Meeting.{length-places_from}
use Rattle.ts_wire.proofs.Laws.{same_ok}
use Rattle.ts_schema.specs.declared.attrs.Attr.{Attr}
use Rattle.ts_schema.specs.declared.frames.Frame.{Frame}
use Rattle.ts_schema.specs.declared.schemas.Schema.{Schema}
use Rattle.ts_schema.specs.declared.wants.Want.{Want}
use Rattle.ts_schema.specs.Wants.{taken, cut, is_wanted}
use Rattle.ts_plain.specs.declared.stored.StoredCell.{StoredCell}
use Rattle.ts_plain.specs.Pieces.{version_in}
use Rattle.ts_plain.specs.Writes.{stored_for}
use Rattle.ts_footer.specs.declared.columns.ColumnForm.{ColumnForm}
use Rattle.ts_footer.specs.declared.columns.ColumnSize.{ColumnSize}
use Rattle.ts_footer.specs.declared.footers.Footer.{Footer}
use Rattle.ts_footer.specs.Columns.{column_forms}
use Rattle.ts_footer.specs.Footers.{footer_stored, leaves_in}
use Rattle.ts_sparse.specs.Sparse.{leaves_of}
use Rattle.ts_sparse.specs.Told.{footer_of}
use Rattle.ts_sparse.proofs.ToldLaws.{footer_told}
use Rattle.ts_actor.specs.PieceLaws.{AsksOwn, AreInBox, TakesInside, TakesSpelled, AsksBounded}
use Rattle.ts_fetch.specs.declared.planned.Planned.{Planned}
use Rattle.ts_fetch.specs.declared.judging.Verdict.TheVariants.{Whole}
use Rattle.ts_fetch.specs.Plans.{Going, gets_planned, gets_left}
use Rattle.ts_fetch.proofs.PlanLaws.{plan_pays}
use Rattle.ts_fetch.proofs.Heard.{asks_own}
use Rattle.ts_fetch.proofs.Inside.{takes_inside, takes_once}
use Rattle.ts_sparse_read.specs.declared.opened.Opened.{Opened}
use Rattle.ts_sparse_read.specs.declared.opened.UsedColumn.{UsedColumn}
use Rattle.ts_sparse_read.specs.declared.opened.Span.{Span}
use Rattle.ts_sparse_read.specs.Faults.{Fault}
use Rattle.ts_sparse_read.specs.Used.{column_parts, no_size, columns_told, is_used, used_among, tile_size, span_of}
use Rattle.ts_sparse_read.specs.Opens.{used_in, tiles_at, size_call, span_call, tile_calls, calls_for, are_readable, is_box_in, places_for, opened_for}
use Rattle.ts_sparse_read.specs.Judges.{cells_of_tiles, sparse_judge}
use Rattle.ts_sparse_read.specs.Codecs.{sparse_codec, IsSparseIn, objects_used, sparse_gets}
use Rattle.ts_sparse_read.specs.BegunFetches.{is_begun, sparse_by_plan, takes_cells}
use Rattle.ts_sparse_read.specs.HeardOnce.{sizes_on}
use Rattle.ts_sparse_read.specs.SparseBroken.{some_told}

-- a fetch asks for parts of its own fragment alone
pub sparse_own : AsksOwn sparse_codec
sparse_own = asks_own sparse_judge sparse_codec sparse_by_plan

-- ---- where the versions lie

-- what is wanted of versions lies in the box; this lemma stands in ts_actor's PlainLaws too, where it is private
taken_inside : (want : Want) (versions : List Version) → AreInBox want.sub (taken want versions)
taken_inside want versions =
    let P : Version → Type 0 = λ v. IsTrue (is_in_box want.sub v.coords) in
    let W : Version → Type 0 = λ v. is_wanted want v ≡ true in
    All-map P (cut want) (filter (is_wanted want) versions)
    (All-weaker W P (λ v is. (and_parts (is_within want.a want.b v.key) (is_in_box want.sub v.coords) is).1) (filter (is_wanted want) versions) (filter_passes (is_wanted want) versions))

-- a fetch takes what is wanted of the cells that it read
pub sparse_inside : TakesInside sparse_codec
sparse_inside sub f r versions fetches takes =
    let i = takes_inside sparse_judge sparse_codec sparse_by_plan sub f r versions fetches takes in
    let b = is_begun i.frame i.schema i.frag i.object i.want i.first i.opened in
    let opened = opened_for i.frame (i.schema).attrs i.want b.footer (used_in i.frame (i.schema).attrs b.footer (i.want).attrs) in
    let judged : sparse_judge opened i.got ≡ Whole versions = ap (λ (g : Going Opened). sparse_judge g.given i.got) (sym b.is) ∙ i.judged in
    let t = takes_cells opened i.got versions judged in
    subst (λ (box : SubBox). AreInBox box versions) i.sub_is (subst (AreInBox (i.want).sub) (sym t.same) (taken_inside i.want (map (version_in (b.footer).head) t.cells)))

-- ---- what is taken at once

-- a fetch with an empty plan reads no tile
no_places : (frame : Frame) (attrs : List Attr) (want : Want) (footer : Footer)
    → calls_for (used_in frame attrs footer want.attrs) (tiles_at frame footer (used_in frame attrs footer want.attrs) (places_for frame want.sub footer)) ≡ [] → places_for frame want.sub footer ≡ []
no_places frame attrs want footer empty = by (is_box_in frame.domain want.sub) refl
  where
    by : (b : Bool) → is_box_in frame.domain want.sub ≡ b → places_for frame want.sub footer ≡ []
    by true e =
        let readable = (and_parts (are_readable frame.domain) _ e).0 in
        absurd (some_told frame attrs footer want.attrs (places_for frame want.sub footer) readable (ap sizes_on empty))
    by false e = ap (λ b. if b then places_meeting want.sub (leaves_in footer.tree) else []) e

same_cells_taken : (cells others : List StoredCell) → ◌≡◌ {A = Result (List StoredCell) Fault} (Ok cells) (Ok others) → cells ≡ others
same_cells_taken cells others e = cc

-- so it takes nothing
pub sparse_found : TakesSpelled sparse_codec IsSparseIn
sparse_found frame s frag object want fetch versions all short opens takes =
    let once = takes_once sparse_judge sparse_codec sparse_by_plan frame s frag object want fetch versions opens takes in
    let b = is_begun frame s frag object want fetch opens in
    let used = used_in frame s.attrs b.footer want.attrs in
    let places = places_for frame want.sub b.footer in
    let empty : calls_for used (tiles_at frame b.footer used places) ≡ [] = ap (λ (g : Going Opened). g.left) (sym b.is) ∙ once.0 in
    let judged : sparse_judge (opened_for frame s.attrs want b.footer used) [] ≡ Whole versions = ap (λ (g : Going Opened). sparse_judge g.given []) (sym b.is) ∙ once.1 in
    let t = takes_cells (opened_for frame s.attrs want b.footer used) [] versions judged in
    let none = no_places frame s.attrs want b.footer empty in
    let no_cells = same_cells_taken t.cells [] (sym t.read ∙ ap (λ (is : List ℕ). cells_of_tiles frame s.attrs want.attrs (b.footer).head None (tiles_at frame b.footer used is) []) none) in
    inl (t.same ∙ ap (λ (cells : List StoredCell). taken want (map (version_in (b.footer).head) cells)) no_cells)

-- ---- how many gets

-- sizes are no gets
gets_sizes : (used : List UsedColumn) (plan : List Planned) → gets_planned (map size_call used ++ plan) ≡ gets_planned plan
gets_sizes [] plan = refl
gets_sizes (c ∷ used) plan = gets_sizes used plan

-- each span is one
gets_spans : (spans : List Span) (plan : List Planned) → gets_planned (map span_call spans ++ plan) ≡ length spans + gets_planned plan
gets_spans [] plan = omega arith
gets_spans (z ∷ spans) plan = let more = gets_spans spans plan in omega (arith, more)

-- each tile has a span in each object
gets_tiles : (frame : Frame) (footer : Footer) (used : List UsedColumn) (places : List ℕ) → gets_planned (flat_map tile_calls (tiles_at frame footer used places)) ≡ length places * length used
gets_tiles frame footer used [] = omega arith
gets_tiles frame footer used (i ∷ places) =
    let more = gets_tiles frame footer used places in
    let here = gets_spans (map (span_of (tile_size frame.capacity) footer.head.cells i) used) (flat_map tile_calls (tiles_at frame footer used places)) in
    let many = length-map used (span_of (tile_size frame.capacity) footer.head.cells i) in
    omega (arith, more, here, many)

-- no more objects are used than there are parts that are
one_more : {X Y : Type 0} (b : Bool) (x : X) (xs : List X) (y : Y) (ys : List Y) → length xs ≤ length ys → length (cond b (x ∷ xs) xs) ≤ length (cond b (y ∷ ys) ys)
one_more true x xs y ys few = omega (arith, few)
one_more false x xs y ys few = few

used_few : (places : List ℕ) (parts : List Part) (forms : List ColumnForm) (sizes : List ColumnSize) → length (used_among places (columns_told parts forms sizes)) ≤ length (filter (is_used places) parts)
used_few places [] forms sizes = omega arith
used_few places (p ∷ parts) [] sizes = omega arith
used_few places (p ∷ parts) (f ∷ forms) [] =
    one_more (is_used places p) (record { part = p; form = f; size = no_size }) (used_among places (columns_told parts forms [])) p (filter (is_used places) parts) (used_few places parts forms [])
used_few places (p ∷ parts) (f ∷ forms) (z ∷ sizes) =
    one_more (is_used places p) (record { part = p; form = f; size = z }) (used_among places (columns_told parts forms sizes)) p (filter (is_used places) parts) (used_few places parts forms sizes)

-- nor more tiles than leaves that meet the box
places_few : (frame : Frame) (sub : SubBox) (footer : Footer) → length (places_for frame sub footer) ≤ count_meeting sub (leaves_in footer.tree)
places_few frame sub footer = by (is_box_in frame.domain sub)
  where
    by : (b : Bool) → length (if b then places_meeting sub (leaves_in footer.tree) else []) ≤ count_meeting sub (leaves_in footer.tree)
    by true = let many = length-places_from sub 0 (leaves_in footer.tree) in omega (arith, many)
    by false = omega arith

-- so many gets are planned
module _ (frame : Frame) (s : Schema) (p : Piece) (want : Want) where
  -- what the metadata of the piece stores
  abbrev told : Footer
  told = footer_of frame s.attrs (stored_for p)

  plan_few : gets_planned (calls_for (used_in frame s.attrs told want.attrs) (tiles_at frame told (used_in frame s.attrs told want.attrs) (places_for frame want.sub told))) ≤ sparse_gets frame s p want
  unfolding used_in
  plan_few =
      let used = used_in frame s.attrs told want.attrs in
      let places = places_for frame want.sub told in
      let parts = column_parts frame.domain s.attrs p.head.consolidated in
      let forms = column_forms frame.domain s.attrs p.head.consolidated in
      let behind = gets_sizes used (flat_map tile_calls (tiles_at frame told used places)) ∙ gets_tiles frame told used places in
      let few : length places * length used ≤ count_meeting want.sub (leaves_of frame.capacity (stored_for p).cells) * objects_used frame s.attrs p want.attrs =
      mul-le-mul (places_few frame want.sub told) (used_few want.attrs parts forms told.sizes) in
      subst (λ n. n ≤ sparse_gets frame s p want) (sym behind) few

-- a fetch makes no more gets than that
pub sparse_bounded : AsksBounded sparse_codec IsSparseIn gets_left sparse_gets
sparse_bounded = record {
  pays = plan_pays sparse_judge;
  fair = λ frame s p look want object f is there opens.
      let P : List ℕ → Type 0 = λ bytes. footer_stored frame s.attrs p.head.frag bytes ≡ Ok (footer_of frame s.attrs (stored_for p)) in
      let stored : P object = subst (λ (o : Option (List ℕ)). IsSomeAnd o P) there (footer_told frame s.attrs p look is.stored) in
      let b = is_begun frame s p.head.frag object want f opens in
      let same : b.footer ≡ footer_of frame s.attrs (stored_for p) = same_ok (footer_stored frame s.attrs p.head.frag object) b.footer (footer_of frame s.attrs (stored_for p)) b.read stored in
      subst (λ (g : Going Opened). gets_left g ≤ sparse_gets frame s p want) (sym b.is)
      (subst (λ (footer : Footer). gets_planned (calls_for (used_in frame s.attrs footer want.attrs) (tiles_at frame footer (used_in frame s.attrs footer want.attrs) (places_for frame want.sub footer))) ≤ sparse_gets frame s p want) (sym same)
      (plan_few frame s p want));
}
