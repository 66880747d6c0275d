-- A fetch of a dense fragment asks for parts of its own fragment, takes what lies in the box that is wanted, and makes no more gets than it may.
use Rattle.std.proofs.Common.{◌≡◌, ℕ, zero, suc, ◌+◌, ◌*◌, ◌<◌, ◌≤◌, Bool, true, false, not, ◌||◌, cond, List, [], ◌∷◌, ◌++◌, length, map, replicate, get_or, Result, Ok, Err, refl, sym, ap, ◌∙◌, subst, arith, inl, inr}
use Rattle.std.specs.Prelude.{IsTrue, filter, if◌then◌else◌}
use Rattle.std.specs.List.{flat_map, All, list_any}
use Rattle.std.proofs.Math.Nat.{mul-le-mul}
use Rattle.std.proofs.lemmas.Bool.{and_parts, eqb-true}
use Rattle.std.proofs.lemmas.List.{length-map}
use Rattle.std.proofs.lemmas.List.Elements.{All-nil, All-head, All-tail, All-map, All-weaker, All-filter, All-append, All-replicate, All-get_or, filter_passes}
use Rattle.ts_base.specs.declared.keys.Key.{Key}
use Rattle.ts_base.specs.declared.keys.FragKey.{FragKey}
use Rattle.ts_base.specs.declared.names.Part.{Part}
use Rattle.ts_base.specs.declared.heads.Head.{Head}
use Rattle.ts_base.specs.declared.heads.Piece.{Piece}
use Rattle.ts_base.specs.declared.heads.Version.{Version}
use Rattle.ts_base.specs.declared.values.Val.{Val}
use Rattle.ts_base.specs.declared.values.Val.TheVariants.{Null}
use Rattle.ts_base.specs.Keys.{is_within, key_eq}
use Rattle.ts_domain.specs.declared.boxes.SubBox.{SubBox}
use Rattle.ts_domain.specs.Boxes.{is_in_box}
use Rattle.ts_domain.specs.Rects.{places_meeting}
use Rattle.ts_order.specs.Orders.{coords_in_order}
use Rattle.ts_rtree.specs.Trees.{count_meeting}
use Rattle.ts_rtree.proofs.Meeting.{length-places_from}
use Rattle.ts_wire.specs.declared.faults.ReadFault.TheVariants as fault
use Rattle.ts_wire.specs.Exact.{IsBytes, EachFits}
use Rattle.ts_wire.specs.Place.{◌>>=◌}
use Rattle.ts_wire.proofs.Laws.{same_ok, EachFits-length}
use Rattle.ts_schema.specs.declared.attrs.Attr.{Attr}
use Rattle.ts_schema.specs.declared.frames.Frame.{Frame}
use Rattle.ts_schema.specs.declared.schemas.Schema.{Schema}
use Rattle.ts_schema.specs.declared.wants.Want.{Want}
use Rattle.ts_schema.specs.Parts.{Look, IsShort}
use Rattle.ts_schema.specs.Wants.{value_of, taken, cut, is_wanted}
use Rattle.ts_plain.specs.declared.stored.Side.{Side}
use Rattle.ts_plain.specs.declared.stored.StoredHead.{StoredHead}
use Rattle.ts_plain.specs.declared.stored.StoredCell.{StoredCell}
use Rattle.ts_plain.specs.Rules.{may_count}
use Rattle.ts_plain.specs.Plain.{FitsSide}
use Rattle.ts_plain.specs.Pieces.{origin_key, version_in, head_of, piece_of}
use Rattle.ts_plain.specs.Writes.{box_of}
use Rattle.ts_plain.proofs.KeyLemmas.{key_itself}
use Rattle.ts_footer.specs.declared.columns.ColumnForm.{ColumnForm}
use Rattle.ts_footer.specs.declared.columns.ColumnForm.TheVariants.{Fixed}
use Rattle.ts_footer.specs.declared.columns.ColumnSize.{ColumnSize}
use Rattle.ts_footer.specs.declared.footers.Footer.{Footer}
use Rattle.ts_footer.specs.declared.tilings.Tiling.TheVariants.{Dense}
use Rattle.ts_footer.specs.Columns.{column_forms}
use Rattle.ts_footer.specs.Footers.{dense_footer_stored}
use Rattle.ts_footer.specs.Metas.{meta_of, laid_meta_in, dense_head_in, IsLaidMetaObject}
use Rattle.ts_footer.proofs.MetaObjects.{laid_found, laid_meta_found, laid_only_head}
use Rattle.ts_model.specs.Consolidated.{box_in}
use Rattle.ts_actor.specs.PieceLaws.{AsksOwn, AreInBox, TakesInside, TakesSpelled, AsksBounded, IsBare}
use Rattle.ts_fetch.specs.declared.planned.Planned.{Planned}
use Rattle.ts_fetch.specs.declared.judging.Verdict.TheVariants.{Whole}
use Rattle.ts_fetch.specs.Plans.{Going, gets_planned, gets_left}
use Rattle.ts_fetch.proofs.PlanLaws.{plan_pays}
use Rattle.ts_fetch.proofs.Heard.{asks_own}
use Rattle.ts_fetch.proofs.Inside.{takes_inside, takes_once}
use Rattle.ts_dense.specs.Slots.{tiles_over, is_hole, cells_in, versions_of}
use Rattle.ts_dense.specs.Dense.{IsStored, IsDense}
use Rattle.ts_sparse_read.specs.declared.opened.UsedColumn.{UsedColumn}
use Rattle.ts_sparse_read.specs.declared.opened.WantedTile.{WantedTile}
use Rattle.ts_sparse_read.specs.declared.opened.Span.{Span}
use Rattle.ts_sparse_read.specs.Faults.{Fault}
use Rattle.ts_sparse_read.specs.TileReads.{rows_in}
use Rattle.ts_sparse_read.specs.Used.{column_parts, no_size, columns_told, is_used, used_among}
use Rattle.ts_sparse_read.specs.Opens.{no_box, size_call, span_call, tile_calls, calls_for, is_box_in}
use Rattle.ts_sparse_read.specs.ReadRows.{cells_all}
use Rattle.ts_dense_read.specs.declared.opened.Opened.{Opened}
use Rattle.ts_dense_read.specs.SpaceOpens.{space_used, hull_in, space_span, space_tile, space_tiles, space_places, space_opened}
use Rattle.ts_dense_read.specs.SpaceJudges.{space_judge}
use Rattle.ts_dense_read.specs.SpaceCodecs.{space_codec, space_head, objects_used, space_gets}
use Rattle.ts_dense_read.specs.Told.{footer_of}
use Rattle.ts_dense_read.specs.FoundFooters.{footer_told}
use Rattle.ts_dense_read.specs.BegunFetches.{is_begun, space_by_plan, takes_slots}
use Rattle.ts_dense_read.specs.FirstUsed.{HasFirst, IsNull, none_named, null_columns, null_rows, null_slots, none_tiles, none_or_first}
use Rattle.ts_dense_read.specs.InHull.{LieIn, tiles_inside, places_below}

-- a fetch asks for parts of its own fragment alone
pub space_own : AsksOwn space_codec
space_own = asks_own space_judge space_codec space_by_plan

-- ---- where the versions lie

-- what is wanted of versions lies in the box; this lemma stands in ts_actor's PlainLaws too, where it is private
taken_inside : (want : Want) (versions : List Version) → AreInBox want.sub (taken want versions)
taken_inside want versions =
    let P : Version → Type 0 = λ v. IsTrue (is_in_box want.sub v.coords) in
    let W : Version → Type 0 = λ v. is_wanted want v ≡ true in
    All-map P (cut want) (filter (is_wanted want) versions)
    (All-weaker W P (λ v is. (and_parts (is_within want.a want.b v.key) (is_in_box want.sub v.coords) is).1) (filter (is_wanted want) versions) (filter_passes (is_wanted want) versions))

-- a fetch takes what is wanted of the slots that it read
pub space_inside : TakesInside space_codec
space_inside sub f r versions fetches takes =
    let i = takes_inside space_judge space_codec space_by_plan sub f r versions fetches takes in
    let b = is_begun i.frame i.schema i.frag i.object i.want i.first i.opened in
    let opened = space_opened i.frame (i.schema).attrs i.want b.footer (space_used (i.schema).attrs b.footer (i.want).attrs) in
    let judged : space_judge opened i.got ≡ Whole versions = ap (λ (g : Going Opened). space_judge g.given i.got) (sym b.is) ∙ i.judged in
    let t = takes_slots opened i.got versions judged in
    subst (λ (box : SubBox). AreInBox box versions) i.sub_is (subst (AreInBox (i.want).sub) (sym t.same) (taken_inside i.want (versions_of (b.footer).head t.slots)))

-- ---- how many gets

-- sizes are no gets
gets_sizes : (used : List UsedColumn) (plan : List Planned) → gets_planned (map size_call used ++ plan) ≡ gets_planned plan
gets_sizes [] plan = refl
gets_sizes (c ∷ used) plan = gets_sizes used plan

-- each span is one
gets_spans : (spans : List Span) (plan : List Planned) → gets_planned (map span_call spans ++ plan) ≡ length spans + gets_planned plan
gets_spans [] plan = omega arith
gets_spans (z ∷ spans) plan = let more = gets_spans spans plan in omega (arith, more)

-- each tile has a span in each object
gets_tiles : (frame : Frame) (footer : Footer) (used : List UsedColumn) (places : List ℕ) → gets_planned (flat_map tile_calls (space_tiles frame footer used places)) ≡ length places * length used
gets_tiles frame footer used [] = omega arith
gets_tiles frame footer used (i ∷ places) =
    let more = gets_tiles frame footer used places in
    let here = gets_spans (map (space_span frame footer i) used) (flat_map tile_calls (space_tiles frame footer used places)) in
    let many = length-map used (space_span frame footer i) in
    omega (arith, more, here, many)

-- no more objects are used than there are parts that are
one_more : {X Y : Type 0} (b : Bool) (x : X) (xs : List X) (y : Y) (ys : List Y) → length xs ≤ length ys → length (cond b (x ∷ xs) xs) ≤ length (cond b (y ∷ ys) ys)
one_more true x xs y ys few = omega (arith, few)
one_more false x xs y ys few = few

used_few : (places : List ℕ) (parts : List Part) (forms : List ColumnForm) (sizes : List ColumnSize) → length (used_among places (columns_told parts forms sizes)) ≤ length (filter (is_used places) parts)
used_few places [] forms sizes = omega arith
used_few places (p ∷ parts) [] sizes = omega arith
used_few places (p ∷ parts) (f ∷ forms) [] =
    one_more (is_used places p) (record { part = p; form = f; size = no_size }) (used_among places (columns_told parts forms [])) p (filter (is_used places) parts) (used_few places parts forms [])
used_few places (p ∷ parts) (f ∷ forms) (z ∷ sizes) =
    one_more (is_used places p) (record { part = p; form = f; size = z }) (used_among places (columns_told parts forms sizes)) p (filter (is_used places) parts) (used_few places parts forms sizes)

-- nor more tiles than meet the box
places_few : (frame : Frame) (sub : SubBox) (footer : Footer) → length (space_places frame sub footer) ≤ count_meeting sub (tiles_over frame (hull_in footer))
places_few frame sub footer = by (is_box_in frame.domain sub)
  where
    by : (b : Bool) → length (if b then places_meeting sub (tiles_over frame (hull_in footer)) else []) ≤ count_meeting sub (tiles_over frame (hull_in footer))
    by true = let many = length-places_from sub 0 (tiles_over frame (hull_in footer)) in omega (arith, many)
    by false = omega arith

-- a fetch from this metadata plans a get for each tile that meets the box, of each object that it reads
plan_few : (frame : Frame) (attrs : List Attr) (want : Want) (footer : Footer)
    → gets_planned (calls_for (space_used attrs footer want.attrs) (space_tiles frame footer (space_used attrs footer want.attrs) (space_places frame want.sub footer)))
    ≤ count_meeting want.sub (tiles_over frame (hull_in footer)) * length (filter (is_used want.attrs) (column_parts [] attrs footer.head.consolidated))
unfolding space_used
plan_few frame attrs want footer =
    let used = space_used attrs footer want.attrs in
    let places = space_places frame want.sub footer in
    let parts = column_parts [] attrs footer.head.consolidated in
    let forms = column_forms [] attrs footer.head.consolidated in
    let behind = gets_sizes used (flat_map tile_calls (space_tiles frame footer used places)) ∙ gets_tiles frame footer used places in
    let few : length places * length used ≤ count_meeting want.sub (tiles_over frame (hull_in footer)) * length (filter (is_used want.attrs) parts) =
    mul-le-mul (places_few frame want.sub footer) (used_few want.attrs parts forms footer.sizes) in
    subst (λ n. n ≤ count_meeting want.sub (tiles_over frame (hull_in footer)) * length (filter (is_used want.attrs) parts)) (sym behind) few

-- what the metadata of a stored piece tells of its hull and of its parts its head tells too
stored_few : (frame : Frame) (s : Schema) (p : Piece) (look : Look) (want : Want) (is : IsStored frame s.attrs p look)
    → count_meeting want.sub (tiles_over frame (hull_in (footer_of frame s.attrs is.stored))) * length (filter (is_used want.attrs) (column_parts [] s.attrs (is.stored).head.consolidated)) ≡ space_gets frame s p want
unfolding piece_of head_of
stored_few frame s p look want is =
    ap (λ (q : Piece). count_meeting want.sub (tiles_over frame (box_in q.head)) * objects_used s.attrs q want.attrs) (sym is.same)

-- a fetch makes no more gets than that
pub space_bounded : AsksBounded space_codec IsDense gets_left space_gets
space_bounded = record {
  pays = plan_pays space_judge;
  fair = λ frame s p look want object f is there opens.
      let footer = footer_of frame s.attrs is.stored in
      let b = is_begun frame s p.head.frag object want f opens in
      let same : b.footer ≡ footer = same_ok (dense_footer_stored frame s.attrs p.head.frag object) b.footer footer b.read (footer_told frame s.attrs p look is object there) in
      let plan : Footer → List Planned = λ (t : Footer). calls_for (space_used s.attrs t want.attrs) (space_tiles frame t (space_used s.attrs t want.attrs) (space_places frame want.sub t)) in
      subst (λ (g : Going Opened). gets_left g ≤ space_gets frame s p want) (sym b.is)
      (subst (λ (t : Footer). gets_planned (plan t) ≤ space_gets frame s p want) (sym same)
      (subst (λ (n : ℕ). gets_planned (plan footer) ≤ n) (stored_few frame s p look want is) (plan_few frame s.attrs want footer)));
}

-- ---- what is taken at once

-- what holds of all parts of a list that is made of lists holds of all of it
all_flat : {X Y : Type 0} (P : Y → Type 0) (f : X → List Y) (xs : List X) → All (λ (x : X). All P (f x)) xs → All P (flat_map f xs)
all_flat P f [] all = All-nil P
all_flat {X} P f (x ∷ xs) all = All-append P (f x) (flat_map f xs) (All-head (λ (x : X). All P (f x)) x xs all) (all_flat P f xs (All-tail (λ (x : X). All P (f x)) x xs all))

-- a slot in the hull, of the first write, with nulls alone
record IsNullSlot (hull : SubBox) (attrs : List Attr) (slot : StoredCell) : Type 0 where
  inside : LieIn hull slot.coords
  first : slot.origin ≡ 0
  nulls : EachFits IsNull attrs slot.row

-- so are all slots of tiles of which nothing is read
null_inside : (frame : Frame) (attrs : List Attr) (sub : SubBox) (footer : Footer) (used : List UsedColumn) → length (hull_in footer).low ≡ length frame.domain → length (hull_in footer).high ≡ length frame.domain
    → All (IsNullSlot (hull_in footer) attrs) (flat_map (λ (t : WantedTile). null_slots frame attrs t.leaf t.cells) (space_tiles frame footer used (space_places frame sub footer)))
null_inside frame attrs sub footer used lows highs =
    let T : WantedTile → Type 0 = λ t. All (IsNullSlot hull attrs) (null_slots frame attrs t.leaf t.cells) in
    all_flat (IsNullSlot hull attrs) (λ (t : WantedTile). null_slots frame attrs t.leaf t.cells) (space_tiles frame footer used (space_places frame sub footer))
    (All-map T (space_tile frame footer used) (space_places frame sub footer) (All-weaker (λ i. i < length boxes) (λ i. T (space_tile frame footer used i)) (λ i below. at_place i below) (space_places frame sub footer) (below (is_box_in frame.domain sub))))
  where
    -- the hull, and its tiles
    hull : SubBox
    hull = hull_in footer

    boxes : List SubBox
    boxes = tiles_over frame (hull_in footer)

    below : (b : Bool) → All (λ i. i < length boxes) (if b then places_meeting sub boxes else [])
    below true = All-weaker (λ i. i < 0 + length boxes) (λ i. i < length boxes) (λ i few. omega (arith, few)) (places_meeting sub boxes) (places_below sub 0 boxes)
    below false = All-nil (λ i. i < length boxes)

    in_leaf : (leaf : SubBox) (count : ℕ) → All (LieIn hull) (coords_in_order frame.cell leaf) → All (IsNullSlot hull attrs) (null_slots frame attrs leaf count)
    in_leaf leaf count inside =
        cells_all (IsNullSlot hull attrs) (LieIn hull) (λ o. o ≡ 0) (EachFits IsNull attrs) (λ coords origin row a b c. record { inside = a; first = b; nulls = c })
        (coords_in_order frame.cell leaf) (replicate count 0) (rows_in count (null_columns count attrs)) inside (All-replicate (λ o. o ≡ 0) count 0 refl) (null_rows count attrs).fits

    at_place : (i : ℕ) → i < length boxes → All (IsNullSlot hull attrs) (null_slots frame attrs (space_tile frame footer used i).leaf (space_tile frame footer used i).cells)
    at_place i few =
        in_leaf (space_tile frame footer used i).leaf (space_tile frame footer used i).cells
        (All-get_or (λ (t : SubBox). All (LieIn hull) (coords_in_order frame.cell t)) boxes i no_box few (tiles_inside frame.domain frame.tile frame.cell hull lows highs))

-- ---- the versions that are taken so

-- a row of nulls has null at each place, and behind its end
null_at : (attrs : List Attr) (row : List Val) (k : ℕ) → EachFits IsNull attrs row → get_or row k Null ≡ Null
null_at [] [] zero fits = refl
null_at [] [] (suc k) fits = refl
null_at [] (v ∷ row) k fits = absurd fits
null_at (a ∷ attrs) [] k fits = absurd fits
null_at (a ∷ attrs) (v ∷ row) zero fits = fits.0
null_at (a ∷ attrs) (v ∷ row) (suc k) fits = null_at attrs row k fits.1

-- the only origin is among the origins
known_first : (origins : List Key) → length origins ≡ 1 → list_any (key_eq (origin_key origins 0)) origins ≡ true
known_first [] one = absurd (omega (arith, one))
known_first (k ∷ ks) one = ap (λ b. b || list_any (key_eq k) ks) (key_itself k)

module _ (frag : FragKey) (stored : StoredHead) (attrs : List Attr) (want : Want) (one : length stored.origins ≡ 1) where
  -- what is wanted of a slot with nulls alone is a version of which no value was read
  bare_version : (slot : StoredCell) → IsNullSlot (box_of stored.hull) attrs slot → IsBare (head_of frag stored) (cut want (version_in stored slot))
  unfolding head_of
  bare_version slot is = record {
    schema = refl;
    origin = subst (λ n. list_any (key_eq (origin_key stored.origins n)) stored.origins ≡ true) (sym is.first) (known_first stored.origins one);
    hull = is.inside;
    row = All-map (λ (x : Val). x ≡ Null) (value_of slot.row) want.attrs (λ k d within. null_at attrs slot.row (get_or want.attrs k d) is.nulls);
  }

  -- and so is all that is wanted of such slots
  bare_taken : (slots : List StoredCell) → All (IsNullSlot (box_of stored.hull) attrs) slots → All (IsBare (head_of frag stored)) (taken want (versions_of stored slots))
  bare_taken slots all =
      let head = head_of frag stored in
      let P : Version → Type 0 = λ v. IsBare head (cut want v) in
      let versions = versions_of stored slots in
      All-map (IsBare head) (cut want) (filter (is_wanted want) versions)
      (All-filter (is_wanted want) P versions
      (All-map P (version_in stored) (cells_in slots)
      (All-filter (λ (slot : StoredCell). not (is_hole slot)) (λ (slot : StoredCell). P (version_in stored slot)) slots
      (All-weaker (IsNullSlot (box_of stored.hull) attrs) (λ (slot : StoredCell). P (version_in stored slot)) bare_version slots all))))

-- the head in the object of the metadata is that of the fragment
head_told : (frame : Frame) (attrs : List Attr) (frag : FragKey) (object : List ℕ) (footer : Footer) → frame.dense ≡ true → IsBytes object → IsShort object → dense_footer_stored frame attrs frag object ≡ Ok footer
    → space_head frame frag object ≡ Ok (head_of frag footer.head)
unfolding laid_meta_in meta_of
head_told frame attrs frag object footer dense all short read =
    let meta = meta_of frag footer in
    let step : laid_meta_in Dense frame attrs frag object ≡ Ok meta = ap (λ r. r >>= λ (t : Footer). Ok (meta_of frag t)) read in
    let found = laid_meta_found Dense frame attrs frag object meta all short step in
    ap (λ b. if b then dense_head_in frame frag object else Err 0) dense ∙ by found.0 found.1 (dense_head_in frame frag object) refl
  where
    by : IsLaidMetaObject Dense frame attrs (meta_of frag footer) object → (meta_of frag footer).head.frag ≡ frag → (r : Result Head ℕ) → dense_head_in frame frag object ≡ r → dense_head_in frame frag object ≡ Ok (head_of frag footer.head)
    by is named (Ok head) e = e ∙ ap Ok (laid_only_head Dense frame attrs (meta_of frag footer) frag object (Ok head) named is e)
    by is named (Err at) e = absurd (laid_only_head Dense frame attrs (meta_of frag footer) frag object (Err (fault.Damaged (record { at = at }))) named is e)

-- a fetch with an empty plan reads no object
nothing_used : (frame : Frame) (attrs : List Attr) (want : Want) (footer : Footer) → HasFirst attrs footer want.attrs
    → calls_for (space_used attrs footer want.attrs) (space_tiles frame footer (space_used attrs footer want.attrs) (space_places frame want.sub footer)) ≡ [] → ⊥
nothing_used frame attrs want footer f empty =
    let first = f.is_first in
    let used : List UsedColumn = record { part = f.first; form = Fixed f.width; size = first.size } ∷ first.others in
    let other : calls_for used (space_tiles frame footer used (space_places frame want.sub footer)) ≡ [] = ap (λ (us : List UsedColumn). calls_for us (space_tiles frame footer us (space_places frame want.sub footer))) (sym first.is) ∙ empty in
    cc

-- an answer holds one list of slots
same_slots : (slots others : List StoredCell) → ◌≡◌ {A = Result (List StoredCell) Fault} (Ok slots) (Ok others) → slots ≡ others
same_slots slots others e = cc

-- a head tells whether a consolidation made its fragment
ordinary_told : (frag : FragKey) (head : StoredHead) → head.consolidated ≡ false → (head_of frag head).consolidated ≡ false
unfolding head_of
ordinary_told frag head is = is

-- what a fetch takes at once it takes without a value
pub space_found : TakesSpelled space_codec IsDense
space_found frame s frag object want fetch versions all short opens takes =
    let once = takes_once space_judge space_codec space_by_plan frame s frag object want fetch versions opens takes in
    let b = is_begun frame s frag object want fetch opens in
    let footer = b.footer in
    let used = space_used s.attrs footer want.attrs in
    let places = space_places frame want.sub footer in
    let empty : calls_for used (space_tiles frame footer used places) ≡ [] = ap (λ (g : Going Opened). g.left) (sym b.is) ∙ once.0 in
    let judged : space_judge (space_opened frame s.attrs want footer used) [] ≡ Whole versions = ap (λ (g : Going Opened). space_judge g.given []) (sym b.is) ∙ once.1 in
    let t = takes_slots (space_opened frame s.attrs want footer used) [] versions judged in
    let fits = (laid_found Dense frame s.attrs frag object footer all short b.read).0 in
    let sides = EachFits-length FitsSide frame.domain footer.head.hull fits.head.hull in
    let lows : length (hull_in footer).low ≡ length frame.domain = length-map footer.head.hull (λ (side : Side). side.low) ∙ sides in
    let highs : length (hull_in footer).high ≡ length frame.domain = length-map footer.head.hull (λ (side : Side). side.high) ∙ sides in
    elim (none_or_first s.attrs footer want.attrs) [
      | inl reads ↦
          let slots = same_slots t.slots (flat_map (λ (w : WantedTile). null_slots frame s.attrs w.leaf w.cells) (space_tiles frame footer used places))
          (sym t.read ∙ none_tiles frame s.attrs want.attrs footer.head (space_tiles frame footer used places) [] reads.none reads.ordinary) in
          let one : length footer.head.origins ≡ 1 = eqb-true (length footer.head.origins) 1 (subst (λ c. IsTrue (may_count c (length footer.head.origins))) reads.ordinary fits.head.some_origin) in
          let nulls = subst (All (IsNullSlot (hull_in footer) s.attrs)) (sym slots) (null_inside frame s.attrs want.sub footer used lows highs) in
          inr (inr (record {
            head = head_of frag footer.head;
            reads = head_told frame s.attrs frag object footer b.dense all short b.read;
            ordinary = ordinary_told frag footer.head reads.ordinary;
            unread = none_named s.attrs want.attrs want.attrs reads.none (λ q is. is);
            bare = subst (All (IsBare (head_of frag footer.head))) (sym t.same) (bare_taken frag footer.head s.attrs want one t.slots nulls);
          }))
      | inr f ↦ absurd (nothing_used frame s.attrs want footer f empty)
    ]
