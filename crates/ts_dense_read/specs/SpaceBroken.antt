-- What a fetch of a dense fragment refuses is broken, and what it takes is not.
use Rattle.std.proofs.Common.{◌≡◌, ℕ, Bool, true, false, ◌&&◌, List, [], ◌∷◌, ◌++◌, length, map, Result, Ok, Err, refl, sym, ap, ◌∙◌, subst, arith, ◌⊎◌, inl, inr}
use Rattle.std.specs.Prelude.{Contains, min, if◌then◌else◌, nat_eq, nat_lt}
use Rattle.std.specs.List.{flat_map, All}
use Rattle.std.proofs.lemmas.Bool.{and_parts, both_ways}
use Rattle.std.proofs.lemmas.List.Elements.{All-head, All-tail, All-nil, All-cons, All-map, All-weaker, All-contains, All-filter, All-contains_itself, All-append, Contains-append_right}
use Rattle.ts_base.specs.declared.keys.FragKey.{FragKey}
use Rattle.ts_base.specs.declared.heads.Head.{Head}
use Rattle.ts_base.specs.declared.names.Part.{Part}
use Rattle.ts_base.specs.declared.names.Part.TheVariants as part
use Rattle.ts_base.specs.declared.heads.Version.{Version}
use Rattle.ts_domain.specs.declared.boxes.SubBox.{SubBox}
use Rattle.ts_domain.specs.Bounds.{are_bounds}
use Rattle.ts_domain.specs.Rects.{places_meeting}
use Rattle.ts_wire.specs.declared.faults.ReadFault.TheVariants as fault
use Rattle.ts_wire.specs.Place.{◌>>=◌}
use Rattle.ts_wire.proofs.Laws.{same_ok, not_both}
use Rattle.ts_schema.specs.declared.attrs.Attr.{Attr}
use Rattle.ts_schema.specs.declared.frames.Frame.{Frame}
use Rattle.ts_schema.specs.declared.schemas.Schema.{Schema}
use Rattle.ts_schema.specs.declared.wants.Want.{Want}
use Rattle.ts_schema.specs.Parts.{Got, Sized}
use Rattle.ts_plain.specs.declared.stored.StoredCell.{StoredCell}
use Rattle.ts_footer.specs.declared.columns.ColumnForm.{ColumnForm}
use Rattle.ts_footer.specs.declared.columns.ColumnForm.TheVariants.{Fixed, Var}
use Rattle.ts_footer.specs.declared.columns.ColumnSize.{ColumnSize}
use Rattle.ts_footer.specs.declared.footers.Footer.{Footer}
use Rattle.ts_footer.specs.declared.tilings.Tiling.TheVariants.{Dense}
use Rattle.ts_footer.specs.Columns.{column_forms}
use Rattle.ts_footer.specs.Footers.{dense_footer_stored}
use Rattle.ts_footer.specs.Metas.{meta_of, laid_meta_in, dense_meta_in, dense_head_in}
use Rattle.ts_footer.proofs.MetaObjects.{laid_broken_head}
use Rattle.ts_model.specs.Codecs.{Breaks, Takes}
use Rattle.ts_actor.specs.PieceLaws.{whole_got, RefusesBroken, OpensUnbroken, EndsWith, JudgesRight}
use Rattle.ts_fetch.specs.declared.planned.Planned.{Planned}
use Rattle.ts_fetch.specs.declared.planned.Planned.TheVariants.{SizeOf, Range}
use Rattle.ts_fetch.specs.declared.judging.Verdict.TheVariants.{Whole, Broken}
use Rattle.ts_fetch.specs.Plans.{Going, HeardAll, IsJudged, IsOtherSize}
use Rattle.ts_fetch.proofs.Heard.{takes_judged, breaks_judged}
use Rattle.ts_dense.specs.Slots.{tiles_over}
use Rattle.ts_sparse_read.specs.declared.opened.UsedColumn.{UsedColumn}
use Rattle.ts_sparse_read.specs.declared.opened.Span.{Span}
use Rattle.ts_sparse_read.specs.declared.opened.WantedTile.{WantedTile}
use Rattle.ts_sparse_read.specs.Faults.{Fault}
use Rattle.ts_sparse_read.specs.Used.{column_parts, columns_told, is_used}
use Rattle.ts_sparse_read.specs.Opens.{used_in, tile_calls, size_call, span_call, are_readable, is_box_in, calls_for}
use Rattle.ts_sparse_read.specs.HeardOnce.{gots_on, sizes_on, sized_of, sizes_used, heard_gots, heard_sizes, heard_all, heard_there, told_all, gots_behind, ranges_behind, cons_parts}
use Rattle.ts_sparse_read.specs.UsedOnce.{parts_not_meta}
use Rattle.ts_sparse_read.specs.UsedSame.{told_parts, used_sizes}
use Rattle.ts_dense_read.specs.declared.opened.Opened.{Opened}
use Rattle.ts_dense_read.specs.SpaceOpens.{space_used, span_from, hull_in, cells_before, cells_there, space_span, space_tile, space_tiles, space_places, space_opened, space_fetch, space_opens}
use Rattle.ts_dense_read.specs.SpaceJudges.{slots_of_tiles, space_judge}
use Rattle.ts_dense_read.specs.SpaceCodecs.{space_codec, space_head, IsMetaBroken, IsMetaGot, IsSizeBroken, IsTileBroken, IsSpaceBroken, InSparse, InMeta, InSize, InTile}
use Rattle.ts_dense_read.specs.BegunFetches.{is_begun, space_by_plan, takes_slots, breaks_slots}
use Rattle.ts_dense_read.specs.FirstUsed.{HasFirst, ReadsNone, none_tiles, none_or_first}
use Rattle.ts_dense_read.specs.SameSlots.{used_same, tiles_alike, not_both_read}

-- ---- the metadata alone

-- the object of the metadata is broken there
meta_broken : (frame : Frame) (s : Schema) (frag : FragKey) (object : List ℕ) (at : ℕ) → dense_footer_stored frame s.attrs frag object ≡ Err at → IsSpaceBroken frame s frag (whole_got part.Meta object) [] part.Meta at
meta_broken frame s frag object at h = InMeta (record {
  got = record { part = part.Meta; at = 0; bytes = object; ends = true };
  was_got = (0, omega arith, refl);
  meta = refl;
  from_start = refl;
  to_end = refl;
  is_named = refl;
  broken = h;
})

-- a step that gives a value fails where the one before it does
before_step : {A B : Type 0} (r : Result A ℕ) (f : A → B) (at : ℕ) → (r >>= λ x. Ok (f x)) ≡ Err at → r ≡ Err at
before_step (Ok x) f at h = absurd (not_both (Ok (f x)) (f x) at refl h)
before_step (Err there) f at h = let same : there ≡ at = cc in ap Err same

-- in a sparse array any object is broken at its first byte
sparse_broken : (frame : Frame) (s : Schema) (frag : FragKey) (object : List ℕ) (at : ℕ) → frame.dense ≡ false → 0 ≡ at → IsSpaceBroken frame s frag (whole_got part.Meta object) [] part.Meta at
sparse_broken frame s frag object at sparse first = InSparse sparse refl (sym first)

-- an object that is broken at its first byte is broken nowhere else
first_offset : {A : Type 0} (at : ℕ) → ◌≡◌ {A = Result A ℕ} (Err 0) (Err at) → 0 ≡ at
first_offset at e = cc

-- an object whose head is refused is broken at the offset that is told
head_refused : (frame : Frame) (s : Schema) (frag : FragKey) (object : List ℕ) (at : ℕ) → space_head frame frag object ≡ Err at → IsSpaceBroken frame s frag (whole_got part.Meta object) [] part.Meta at
unfolding laid_meta_in
head_refused frame s frag object at h = by frame.dense refl h
  where
    by : (b : Bool) → frame.dense ≡ b → (if b then dense_head_in frame frag object else Err 0) ≡ Err at → IsSpaceBroken frame s frag (whole_got part.Meta object) [] part.Meta at
    by true dense e =
        let broken : dense_meta_in frame s.attrs frag object ≡ Err at = laid_broken_head Dense frame s.attrs frag object (Err (fault.Damaged (record { at = at }))) e in
        meta_broken frame s frag object at (before_step (dense_footer_stored frame s.attrs frag object) (meta_of frag) at broken)
    by false sparse e = sparse_broken frame s frag object at sparse (first_offset {A = Head} at e)

-- so is one on which no fetch begins
opens_refused : (frame : Frame) (s : Schema) (frag : FragKey) (object : List ℕ) (want : Want) (at : ℕ) → space_opens frame s frag object want ≡ Err at → IsSpaceBroken frame s frag (whole_got part.Meta object) [] part.Meta at
unfolding space_opens
opens_refused frame s frag object want at h = by frame.dense refl h
  where
    by : (b : Bool) → frame.dense ≡ b → (if b then (dense_footer_stored frame s.attrs frag object >>= λ footer. Ok (space_fetch frame s.attrs frag want footer (space_used s.attrs footer want.attrs))) else Err 0) ≡ Err at
        → IsSpaceBroken frame s frag (whole_got part.Meta object) [] part.Meta at
    by true dense e =
        meta_broken frame s frag object at
        (before_step (dense_footer_stored frame s.attrs frag object) (λ footer. space_fetch frame s.attrs frag want footer (space_used s.attrs footer want.attrs)) at e)
    by false sparse e = sparse_broken frame s frag object at sparse (first_offset {A = Going Opened} at e)

-- an object that is refused is broken at the offset that is told
pub space_broken : RefusesBroken space_codec IsSpaceBroken
space_broken = record { head = head_refused; opens = opens_refused }

-- where a tile is broken, some size is told
some_told : (frame : Frame) (attrs : List Attr) (footer : Footer) (places tiles : List ℕ) (got : List (List ℕ)) (fault : Fault)
    → slots_of_tiles frame attrs places footer.head (space_tiles frame footer (space_used attrs footer places) tiles) got ≡ Err fault
    → sizes_on (calls_for (space_used attrs footer places) (space_tiles frame footer (space_used attrs footer places) tiles)) ≡ [] → ⊥
some_told frame attrs footer places tiles got fault broken none = by (none_or_first attrs footer places)
  where
    fails : (slots : List StoredCell) → ◌≡◌ {A = Result (List StoredCell) Fault} (Ok slots) (Err fault) → ⊥
    fails slots e = cc

    by : ReadsNone attrs footer places ⊎ HasFirst attrs footer places → ⊥
    by (inl reads) = fails _ (sym (none_tiles frame attrs places footer.head (space_tiles frame footer (space_used attrs footer places) tiles) got reads.none reads.ordinary) ∙ broken)
    by (inr f) =
        let used = space_used attrs footer places in
        let first = f.is_first in
        let told : map sized_of used ≡ [] = sym (sizes_used used (space_tiles frame footer used tiles)) ∙ none in
        let other : map sized_of (record { part = f.first; form = Fixed f.width; size = first.size } ∷ first.others) ≡ [] = ap (map sized_of) (sym first.is) ∙ told in
        cc

-- in a dense array nothing but the object of the metadata itself is broken where no more was got, and no size was told
pub broken_meta : (frame : Frame) (s : Schema) (frag : FragKey) (object : List ℕ) (named : Part) (at : ℕ) → frame.dense ≡ true → IsSpaceBroken frame s frag (whole_got part.Meta object) [] named at
    → dense_footer_stored frame s.attrs frag object ≡ Err at
broken_meta frame s frag object named at dense (InSparse sparse is first) = absurd (both_ways frame.dense sparse dense)
broken_meta frame s frag object named at dense (InMeta is) =
    let P : Got → Type 0 = λ g. g.bytes ≡ object in
    let same : (is.got).bytes ≡ object = All-contains P (whole_got part.Meta object) is.got (All-cons P _ [] refl (All-nil P)) is.was_got in
    subst (λ bytes. dense_footer_stored frame s.attrs frag bytes ≡ Err at) same is.broken
broken_meta frame s frag object named at dense (InSize is) = absurd (omega (arith, is.was_told.1))
broken_meta frame s frag object named at dense (InTile is) =
    let plan = calls_for (space_used s.attrs is.footer is.places) (space_tiles frame is.footer (space_used s.attrs is.footer is.places) is.tiles) in
    let none : sizes_on plan ≡ [] = sym (heard_sizes (whole_got part.Meta is.object) plan is.got (whole_got part.Meta object) [] is.heard) in
    absurd (some_told frame s.attrs is.footer is.places is.tiles is.got (record { part = named; at = at }) is.broken none)

-- no fetch begins on a broken object
pub space_whole : OpensUnbroken space_codec IsSpaceBroken
space_whole frame s frag object want named at fetch is h =
    let b = is_begun frame s frag object want fetch h in
    not_both (dense_footer_stored frame s.attrs frag object) b.footer at b.read (broken_meta frame s frag object named at b.dense is)

-- ---- what is refused

-- where some tile is read, all dimensions have integer types
readable_there : (frame : Frame) (sub : SubBox) (footer : Footer) → (space_places frame sub footer ≡ [] → ⊥) → are_readable frame.domain ≡ true
readable_there frame sub footer some = by (is_box_in frame.domain sub) refl
  where
    by : (b : Bool) → is_box_in frame.domain sub ≡ b → are_readable frame.domain ≡ true
    by true e = (and_parts (are_readable frame.domain) (nat_eq (length sub.low) (length frame.domain) && are_bounds sub.low sub.high) e).0
    by false e = absurd (some (ap (λ b. if b then places_meeting sub (tiles_over frame (hull_in footer)) else []) e))

-- the objects of a fragment with this metadata
abbrev told_of : List Attr → Footer → List UsedColumn
told_of attrs footer = columns_told (column_parts [] attrs footer.head.consolidated) (column_forms [] attrs footer.head.consolidated) footer.sizes

module _ (frame : Frame) (s : Schema) (frag : FragKey) (object : List ℕ) (want : Want) (footer : Footer) (read : dense_footer_stored frame s.attrs frag object ≡ Ok footer) where
  -- the objects that are used
  abbrev used : List UsedColumn
  used = space_used s.attrs footer want.attrs

  -- the places of the tiles
  abbrev tiles : List ℕ
  tiles = space_places frame want.sub footer

  -- the plan
  abbrev fetch_plan : List Planned
  fetch_plan = calls_for used (space_tiles frame footer used tiles)

  -- the judge finds a tile broken
  tile_broken : (gots : List Got) (sizes : List Sized) (named : Part) (at : ℕ) → IsJudged space_judge (whole_got part.Meta object) (space_opened frame s.attrs want footer used) fetch_plan (Broken named at) gots sizes
      → IsSpaceBroken frame s frag gots sizes named at
  tile_broken gots sizes named at j =
      let broken = breaks_slots (space_opened frame s.attrs want footer used) j.got named at j.judged in
      InTile (record {
        object = object;
        footer = footer;
        read = read;
        places = want.attrs;
        tiles = tiles;
        got = j.got;
        dims = readable_there frame want.sub footer (λ none. fails (record { part = named; at = at }) (sym (ap (λ (places : List ℕ). slots_of_tiles frame s.attrs want.attrs footer.head (space_tiles frame footer used places) j.got) none) ∙ broken));
        heard = j.heard;
        broken = broken;
      })
    where
      fails : (fault : Fault) → ◌≡◌ {A = Result (List StoredCell) Fault} (Ok []) (Err fault) → ⊥
      fails fault e = cc

  -- a call that asks for a size asks for that of an object
  abbrev AsksObject : Planned → Type 0
  AsksObject (SizeOf p n) = (column : UsedColumn) × (Contains (told_of s.attrs footer) column) × (column.part ≡ p) × (column.size.length ≡ n)
  AsksObject (Range p from count) = Unit {0}

  -- each size that is asked is that of an object
  asks_objects : All AsksObject (map size_call used)
  unfolding space_used
  asks_objects =
      let told = told_of s.attrs footer in
      let there = All-filter (λ (c : UsedColumn). is_used want.attrs c.part) (Contains told) told (All-contains_itself told) in
      All-map AsksObject size_call used (All-weaker (Contains told) (λ (c : UsedColumn). AsksObject (size_call c)) (λ c is. (c, is, refl, refl)) used there)

  -- no size is asked for a tile
  asks_spans : (tiles : List WantedTile) → All AsksObject (flat_map tile_calls tiles)
  asks_spans [] = All-nil AsksObject
  asks_spans (t ∷ tiles) = All-append AsksObject (map span_call t.spans) (flat_map tile_calls tiles) (All-map AsksObject span_call t.spans (λ k d within. tt)) (asks_spans tiles)

  -- a told size is another than the metadata states
  size_broken : (gots : List Got) (sizes : List Sized) (named : Part) (at : ℕ) → IsOtherSize (whole_got part.Meta object) fetch_plan named at gots sizes → IsSpaceBroken frame s frag gots sizes named at
  size_broken gots sizes named at o =
      let asks = All-append AsksObject (map size_call used) (flat_map tile_calls (space_tiles frame footer used tiles)) asks_objects (asks_spans (space_tiles frame footer used tiles)) in
      let found : AsksObject (SizeOf named o.size) = All-contains AsksObject (o.front ++ SizeOf named o.size ∷ o.rest) (SizeOf named o.size) (subst (All AsksObject) o.plan_is asks)
      (Contains-append_right o.front (SizeOf named o.size ∷ o.rest) (SizeOf named o.size) (0, omega arith, refl)) in
      let whole : Got = record { part = part.Meta; at = 0; bytes = object; ends = true } in
      InSize (record {
        footer = footer;
        meta = record { got = whole; was_got = heard_there (whole_got part.Meta object) o.front o.got gots o.before whole o.heard (0, omega arith, refl); meta = refl; from_start = refl; to_end = refl; read = read };
        column = found.0;
        is_column = found.1;
        is_named = found.2;
        count = o.count;
        was_told = subst (λ (all : List Sized). Contains all (record { part = named; size = o.count })) (sym o.told_is) (0, omega arith, refl);
        other = λ same. o.other (same ∙ found.3);
        lesser = o.at_is ∙ ap (min o.count) (sym found.3);
      })

-- what a fetch refuses is broken
refused : (frame : Frame) (s : Schema) (frag : FragKey) (object : List ℕ) (want : Want) (gots : List Got) (sizes : List Sized) (named : Part) (at : ℕ)
    → EndsWith space_codec frame s frag object want (Breaks named at) gots sizes → IsSpaceBroken frame s frag gots sizes named at
refused frame s frag object want gots sizes named at ends =
    let end = breaks_judged space_judge space_codec space_by_plan frame s frag object want gots sizes named at ends in
    let b = is_begun frame s frag object want end.0 end.1 in
    let Ends : Going Opened → Type 0 = λ f. IsJudged space_judge (whole_got part.Meta object) f.given f.left (Broken named at) gots sizes ⊎ IsOtherSize (whole_got part.Meta object) f.left named at gots sizes in
    elim (subst Ends b.is end.2) [
      | inl j ↦ tile_broken frame s frag object want b.footer b.read gots sizes named at j
      | inr o ↦ size_broken frame s frag object want b.footer b.read gots sizes named at o
    ]

-- ---- what is taken

-- a get is not of the metadata
abbrev NotMeta : Planned → Type 0
NotMeta (SizeOf p n) = Unit {0}
NotMeta (Range p from count) = p ≡ part.Meta → ⊥

-- what such gets got is not of the metadata
gots_not_meta : (plan : List Planned) (got : List (List ℕ)) → All NotMeta plan → All (λ (g : Got). g.part ≡ part.Meta → ⊥) (gots_on plan got)
gots_not_meta [] got all = All-nil (λ (g : Got). g.part ≡ part.Meta → ⊥)
gots_not_meta (SizeOf p n ∷ plan) got all = gots_not_meta plan got (All-tail NotMeta (SizeOf p n) plan all)
gots_not_meta (Range p from count ∷ plan) [] all = All-nil (λ (g : Got). g.part ≡ part.Meta → ⊥)
gots_not_meta (Range p from count ∷ plan) (bytes ∷ got) all =
    All-cons (λ (g : Got). g.part ≡ part.Meta → ⊥) (record { part = p; at = from; bytes = bytes; ends = nat_lt (length bytes) count }) (gots_on plan got)
    (All-head NotMeta (Range p from count) plan all) (gots_not_meta plan got (All-tail NotMeta (Range p from count) plan all))

-- a span of an object is one of its part
span_part : (form : ColumnForm) (first count i : ℕ) (p : Part) (size : ColumnSize) → (span_from form first count i p size).part ≡ p
span_part (Fixed width) first count i p size = refl
span_part Var first count i p size = refl

-- what was got of the parts of one fragment by two fetches that use the same objects is not once whole and once broken
two_fetches : (frame : Frame) (attrs : List Attr) (footer : Footer) (places : List ℕ) (tiles more : List ℕ) (object other : List ℕ) (got found : List (List ℕ)) (gots : List Got) (sizes : List Sized) (slots : List StoredCell) (fault : Fault)
    → HeardAll (whole_got part.Meta object) (calls_for (space_used attrs footer places) (space_tiles frame footer (space_used attrs footer places) tiles)) got gots sizes
    → HeardAll (whole_got part.Meta other) (calls_for (space_used attrs footer places) (space_tiles frame footer (space_used attrs footer places) more)) found gots sizes
    → slots_of_tiles frame attrs places footer.head (space_tiles frame footer (space_used attrs footer places) tiles) got ≡ Ok slots
    → slots_of_tiles frame attrs places footer.head (space_tiles frame footer (space_used attrs footer places) more) found ≡ Err fault → ⊥
two_fetches frame attrs footer places tiles more object other got found gots sizes slots fault one two whole broken = by (none_or_first attrs footer places)
  where
    fails : (made : List StoredCell) → ◌≡◌ {A = Result (List StoredCell) Fault} (Ok made) (Err fault) → ⊥
    fails made e = cc

    by : ReadsNone attrs footer places ⊎ HasFirst attrs footer places → ⊥
    by (inl reads) = fails _ (sym (none_tiles frame attrs places footer.head (space_tiles frame footer (space_used attrs footer places) more) found reads.none reads.ordinary) ∙ broken)
    by (inr f) =
        let objects = space_used attrs footer places in
        let here = space_tiles frame footer objects tiles in
        let there = space_tiles frame footer objects more in
        let turned = heard_gots part.Meta object (calls_for objects here) got gots sizes one in
        let again = heard_gots part.Meta other (calls_for objects there) found gots sizes two in
        let parts = cons_parts _ _ (gots_on (calls_for objects here) got) (gots_on (calls_for objects there) found) (sym turned ∙ again) in
        let behind : gots_on (flat_map tile_calls here) got ≡ gots_on (flat_map tile_calls there) found =
        sym (gots_behind objects (flat_map tile_calls here) got) ∙ parts.1 ∙ gots_behind objects (flat_map tile_calls there) found in
        not_both_read frame attrs footer places f tiles more got found slots fault
        (ranges_behind objects (flat_map tile_calls here) got one.ranges) (ranges_behind objects (flat_map tile_calls there) found two.ranges) behind whole broken

-- the metadata that was got is one object
module _ (frame : Frame) (s : Schema) (frag : FragKey) (object : List ℕ) (footer : Footer) (read : dense_footer_stored frame s.attrs frag object ≡ Ok footer) (places tiles : List ℕ) (got : List (List ℕ)) (gots : List Got) (sizes : List Sized)
    (heard : HeardAll (whole_got part.Meta object) (calls_for (space_used s.attrs footer places) (space_tiles frame footer (space_used s.attrs footer places) tiles)) got gots sizes) where
  -- the objects that are read
  abbrev objects : List UsedColumn
  objects = space_used s.attrs footer places

  -- the calls of the plan
  abbrev calls : List Planned
  calls = calls_for objects (space_tiles frame footer objects tiles)

  -- none of them is the metadata
  objects_not_meta : All (λ (c : UsedColumn). c.part ≡ part.Meta → ⊥) objects
  unfolding space_used
  objects_not_meta =
      let P : Part → Type 0 = λ p. p ≡ part.Meta → ⊥ in
      let parts = column_parts [] s.attrs footer.head.consolidated in
      let forms = column_forms [] s.attrs footer.head.consolidated in
      All-filter (λ (c : UsedColumn). is_used places c.part) (λ (c : UsedColumn). P c.part) (told_of s.attrs footer) (told_parts P parts forms footer.sizes (parts_not_meta [] s.attrs footer.head.consolidated))

  -- nor is a span of a tile
  spans_not_meta : (i : ℕ) → All NotMeta (tile_calls (space_tile frame footer objects i))
  spans_not_meta i =
      let each = All-weaker (λ (c : UsedColumn). c.part ≡ part.Meta → ⊥) (λ (c : UsedColumn). NotMeta (span_call (space_span frame footer i c)))
      (λ c apart e. apart (sym (span_part c.form (cells_before frame footer i) (cells_there frame footer i) i c.part c.size) ∙ e)) objects objects_not_meta in
      All-map NotMeta span_call (map (space_span frame footer i) objects) (All-map (λ (z : Span). NotMeta (span_call z)) (space_span frame footer i) objects each)

  -- nor one of any of them
  tiles_not_meta : (is : List ℕ) → All NotMeta (flat_map tile_calls (space_tiles frame footer objects is))
  tiles_not_meta [] = All-nil NotMeta
  tiles_not_meta (i ∷ is) = All-append NotMeta (tile_calls (space_tile frame footer objects i)) (flat_map tile_calls (space_tiles frame footer objects is)) (spans_not_meta i) (tiles_not_meta is)

  -- so no call gets it
  calls_not_meta : All NotMeta calls
  calls_not_meta = All-append NotMeta (map size_call objects) (flat_map tile_calls (space_tiles frame footer objects tiles)) (All-map NotMeta size_call objects (λ k d within. tt)) (tiles_not_meta tiles)

  -- so what was got of it is the whole object
  meta_one : (g : Got) → Contains gots g → g.part ≡ part.Meta → g.bytes ≡ object
  meta_one g there =
      let P : Got → Type 0 = λ x. x.part ≡ part.Meta → x.bytes ≡ object in
      let whole : Got = record { part = part.Meta; at = 0; bytes = object; ends = true } in
      let others = All-weaker (λ (x : Got). x.part ≡ part.Meta → ⊥) P (λ x apart e. absurd (apart e)) (gots_on calls got) (gots_not_meta calls got calls_not_meta) in
      All-contains P gots g (heard_all P (whole_got part.Meta object) calls got gots sizes heard (All-cons P whole [] (λ e. refl) (All-nil P)) others) there

  -- the metadata is not broken
  not_in_meta : (named : Part) (at : ℕ) → IsMetaBroken frame s frag gots named at → ⊥
  not_in_meta named at is =
      not_both (dense_footer_stored frame s.attrs frag object) footer at read (subst (λ (bytes : List ℕ). dense_footer_stored frame s.attrs frag bytes ≡ Err at) (meta_one is.got is.was_got is.meta) is.broken)

  -- it says one thing
  footer_one : (found : Footer) → IsMetaGot frame s frag gots found → found ≡ footer
  footer_one found is =
      same_ok (dense_footer_stored frame s.attrs frag object) found footer (subst (λ (bytes : List ℕ). dense_footer_stored frame s.attrs frag bytes ≡ Ok found) (meta_one is.got is.was_got is.meta) is.read) read

  -- of each object one size is told
  sizes_one : (column : UsedColumn) → Contains (told_of s.attrs footer) column → All (λ (z : Sized). z.part ≡ column.part → z.size ≡ column.size.length) (map sized_of objects)
  unfolding space_used used_in
  sizes_one column there = used_sizes (record frame { domain = [] }) s.attrs footer places column there

  -- each size that was told is the stated one
  not_in_size : (named : Part) (at : ℕ) → IsSizeBroken frame s frag gots sizes named at → ⊥
  not_in_size named at is =
      let Told : Sized → Type 0 = λ z. z.part ≡ (is.column).part → z.size ≡ ((is.column).size).length in
      let there = subst (λ (f : Footer). Contains (told_of s.attrs f) is.column) (footer_one is.footer is.meta) is.is_column in
      let each : All Told (map sized_of objects) = sizes_one is.column there in
      let on : All Told (sizes_on calls) = subst (All Told) (sym (sizes_used objects (space_tiles frame footer objects tiles))) each in
      let all : All Told sizes = told_all Told (whole_got part.Meta object) calls got gots sizes heard (All-nil Told) on in
      is.other (All-contains Told sizes (record { part = named; size = is.count }) all is.was_told (sym is.is_named))

  -- nor are the tiles broken, where their slots were read
  not_in_tile : (slots : List StoredCell) → slots_of_tiles frame s.attrs places footer.head (space_tiles frame footer objects tiles) got ≡ Ok slots → (named : Part) (at : ℕ) → IsTileBroken frame s frag gots sizes named at → ⊥
  not_in_tile slots whole named at is =
      let calls_in : Footer → List UsedColumn → List Planned = λ f us. calls_for us (space_tiles frame f us is.tiles) in
      let turned = heard_gots part.Meta object calls got gots sizes heard in
      let other = heard_gots part.Meta is.object (calls_in is.footer (space_used s.attrs is.footer is.places)) is.got gots sizes is.heard in
      let parts = cons_parts _ _ (gots_on calls got) (gots_on (calls_in is.footer (space_used s.attrs is.footer is.places)) is.got) (sym turned ∙ other) in
      let one_object : object ≡ is.object = ap (λ (g : Got). g.bytes) parts.0 in
      let one_footer : is.footer ≡ footer = same_ok (dense_footer_stored frame s.attrs frag is.object) is.footer footer is.read (subst (λ (bytes : List ℕ). dense_footer_stored frame s.attrs frag bytes ≡ Ok footer) one_object read) in
      with_footer is.places is.tiles is.got is.object named at
      (subst (λ (f : Footer). HeardAll (whole_got part.Meta is.object) (calls_in f (space_used s.attrs f is.places)) is.got gots sizes) one_footer is.heard)
      (subst (λ (f : Footer). slots_of_tiles frame s.attrs is.places f.head (space_tiles frame f (space_used s.attrs f is.places) is.tiles) is.got ≡ Err (record { part = named; at = at })) one_footer is.broken)
    where
      -- with the same metadata
      with_footer : (qs more : List ℕ) (found : List (List ℕ)) (whole_object : List ℕ) (named : Part) (at : ℕ)
          → HeardAll (whole_got part.Meta whole_object) (calls_for (space_used s.attrs footer qs) (space_tiles frame footer (space_used s.attrs footer qs) more)) found gots sizes
          → slots_of_tiles frame s.attrs qs footer.head (space_tiles frame footer (space_used s.attrs footer qs) more) found ≡ Err (record { part = named; at = at }) → ⊥
      with_footer qs more found whole_object named at again broken =
          let others = space_used s.attrs footer qs in
          let told : map sized_of objects ≡ map sized_of others =
          sym (sizes_used objects (space_tiles frame footer objects tiles)) ∙ sym (heard_sizes (whole_got part.Meta object) calls got gots sizes heard)
          ∙ heard_sizes (whole_got part.Meta whole_object) (calls_for others (space_tiles frame footer others more)) found gots sizes again ∙ sizes_used others (space_tiles frame footer others more) in
          let same = used_same s.attrs footer places qs told in
          two_fetches frame s.attrs footer qs tiles more object whole_object got found gots sizes slots (record { part = named; at = at })
          (subst (λ (us : List UsedColumn). HeardAll (whole_got part.Meta object) (calls_for us (space_tiles frame footer us tiles)) got gots sizes) same.used heard) again
          (sym (tiles_alike places qs frame s.attrs footer.head (space_tiles frame footer others tiles) got same.read)
          ∙ subst (λ (us : List UsedColumn). slots_of_tiles frame s.attrs places footer.head (space_tiles frame footer us tiles) got ≡ Ok slots) same.used whole)
          broken

-- what a fetch takes is not broken
taken_whole : (frame : Frame) (s : Schema) (frag : FragKey) (object : List ℕ) (want : Want) (gots : List Got) (sizes : List Sized) (versions : List Version) (named : Part) (at : ℕ)
    → EndsWith space_codec frame s frag object want (Takes versions) gots sizes → IsSpaceBroken frame s frag gots sizes named at → ⊥
taken_whole frame s frag object want gots sizes versions named at ends broken =
    let end = takes_judged space_judge space_codec space_by_plan frame s frag object want gots sizes versions ends in
    let b = is_begun frame s frag object want end.0 end.1 in
    let j = subst (λ (f : Going Opened). IsJudged space_judge (whole_got part.Meta object) f.given f.left (Whole versions) gots sizes) b.is end.2 in
    let t = takes_slots (space_opened frame s.attrs want b.footer (space_used s.attrs b.footer want.attrs)) j.got versions j.judged in
    let tiles = space_places frame want.sub b.footer in
    elim broken [
      | InSparse sparse is first ↦ absurd (both_ways frame.dense sparse b.dense)
      | InMeta is ↦ not_in_meta frame s frag object b.footer b.read want.attrs tiles j.got gots sizes j.heard named at is
      | InSize is ↦ not_in_size frame s frag object b.footer b.read want.attrs tiles j.got gots sizes j.heard named at is
      | InTile is ↦ not_in_tile frame s frag object b.footer b.read want.attrs tiles j.got gots sizes j.heard t.slots t.read named at is
    ]

-- what a fetch refuses is broken by what it got, and what it takes is not
pub space_judges : JudgesRight space_codec IsSpaceBroken
space_judges = record { breaks = refused; whole = taken_whole }
