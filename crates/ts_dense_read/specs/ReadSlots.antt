-- What a fetch takes is what is wanted of the slots of the tiles that it read.
use Rattle.std.proofs.Common.{◌≡◌, ℕ, Bool, true, false, List, [], ◌∷◌, ◌++◌, length, drop, Result, Ok, Err, refl, sym, ap, ◌∙◌, subst}
use Rattle.std.specs.Prelude.{if◌then◌else◌}
use Rattle.std.specs.List.{flat_map}
use Rattle.ts_base.specs.declared.keys.FragKey.{FragKey}
use Rattle.ts_base.specs.declared.values.Val.{Val}
use Rattle.ts_base.specs.declared.heads.Version.{Version}
use Rattle.ts_domain.specs.declared.boxes.SubBox.{SubBox}
use Rattle.ts_order.specs.Orders.{coords_in_order}
use Rattle.ts_wire.specs.Place.{◌>>=◌}
use Rattle.ts_wire.proofs.Laws.{bound, same_ok}
use Rattle.ts_schema.specs.declared.attrs.Attr.{Attr}
use Rattle.ts_schema.specs.declared.frames.Frame.{Frame}
use Rattle.ts_schema.specs.declared.schemas.Schema.{Schema}
use Rattle.ts_schema.specs.declared.wants.Want.{Want}
use Rattle.ts_schema.specs.Parts.{Got, Sized}
use Rattle.ts_schema.specs.Wants.{taken}
use Rattle.ts_plain.specs.declared.stored.StoredHead.{StoredHead}
use Rattle.ts_plain.specs.declared.stored.StoredCell.{StoredCell}
use Rattle.ts_footer.specs.declared.footers.Footer.{Footer}
use Rattle.ts_footer.specs.Footers.{dense_footer_stored}
use Rattle.ts_model.specs.Codecs.{Takes}
use Rattle.ts_actor.specs.PieceLaws.{whole_got, EndsWith}
use Rattle.ts_fetch.specs.declared.judging.Verdict.TheVariants.{Whole}
use Rattle.ts_fetch.specs.Plans.{Going, begun, AreRanges, IsJudged}
use Rattle.ts_fetch.specs.PlanCodecs.{GoesByPlan}
use Rattle.ts_fetch.proofs.Heard.{takes_judged}
use Rattle.ts_dense.specs.Slots.{versions_of}
use Rattle.ts_sparse_read.specs.declared.opened.WantedTile.{WantedTile}
use Rattle.ts_sparse_read.specs.Faults.{Fault, and_then, Ranged}
use Rattle.ts_sparse_read.specs.TileReads.{rows_in, cells_from, vals_of_tile}
use Rattle.ts_sparse_read.specs.Judges.{ranged}
use Rattle.ts_sparse_read.specs.Opens.{calls_for}
use Rattle.ts_sparse_read.specs.ReadColumns.{then_ok}
use Rattle.ts_dense_read.specs.declared.opened.Opened.{Opened}
use Rattle.ts_dense_read.specs.SlotReads.{slot_origins_if, slots_of_tile}
use Rattle.ts_dense_read.specs.SpaceOpens.{space_used, space_tiles, space_places, space_opened, space_fetch, space_opens}
use Rattle.ts_dense_read.specs.SpaceJudges.{slots_of_tiles, verdict_on, space_judge}
use Rattle.ts_dense_read.specs.SpaceCodecs.{space_codec}

-- ---- one tile

-- the columns of a space tile that was read, and the slots that they make
pub record IsReadTile (frame : Frame) (attrs : List Attr) (places : List ℕ) (head : StoredHead) (leaf : SubBox) (count : ℕ) (ranges : List Ranged) (slots : List StoredCell) : Type 0 where
  pub vals : List (List Val)
  pub origins : List ℕ
  pub vals_are : vals_of_tile places count ranges 0 attrs ≡ Ok vals
  pub origins_are : slot_origins_if head.consolidated (length head.origins) places attrs count (rows_in count vals) ranges ≡ Ok origins
  pub made : cells_from (coords_in_order frame.cell leaf) origins (rows_in count vals) ≡ slots

-- the slots of a tile that was read are made of its columns
tile_read : (frame : Frame) (attrs : List Attr) (places : List ℕ) (head : StoredHead) (leaf : SubBox) (count : ℕ) (ranges : List Ranged) (slots : List StoredCell)
    → slots_of_tile frame attrs places head leaf count ranges ≡ Ok slots → IsReadTile frame attrs places head leaf count ranges slots
unfolding slots_of_tile
tile_read frame attrs places head leaf count ranges slots found =
    let a = then_ok (vals_of_tile places count ranges 0 attrs)
    (λ vals. and_then (slot_origins_if head.consolidated (length head.origins) places attrs count (rows_in count vals) ranges) (λ origins. Ok (cells_from (coords_in_order frame.cell leaf) origins (rows_in count vals)))) slots found in
    let b = then_ok (slot_origins_if head.consolidated (length head.origins) places attrs count (rows_in count a.0) ranges) (λ origins. Ok (cells_from (coords_in_order frame.cell leaf) origins (rows_in count a.0))) slots a.2 in
    let same : cells_from (coords_in_order frame.cell leaf) b.0 (rows_in count a.0) ≡ slots = cc (b.2) in
    record { vals = a.0; origins = b.0; vals_are = a.1; origins_are = b.1; made = same }

-- ---- tile by tile

module _ (frame : Frame) (attrs : List Attr) (places : List ℕ) (head : StoredHead) where
  -- the slots of each tile, read of what was got of its spans
  abbrev pub AreRead : List WantedTile → List (List ℕ) → List (List StoredCell) → Type 0
  AreRead [] got [] = Unit {0}
  AreRead [] got (slots ∷ parts) = ⊥
  AreRead (t ∷ tiles) got [] = ⊥
  AreRead (t ∷ tiles) got (slots ∷ parts) = IsReadTile frame attrs places head t.leaf t.cells (ranged t.spans got) slots × AreRead tiles (drop (length t.spans) got) parts

  -- the slots of all tiles are those of each
  tiles_read : (tiles : List WantedTile) (got : List (List ℕ)) (slots : List StoredCell) → slots_of_tiles frame attrs places head tiles got ≡ Ok slots
      → (parts : List (List StoredCell)) × (flat_map (λ (t : List StoredCell). t) parts ≡ slots) × AreRead tiles got parts
  tiles_read [] got slots found = ([], (let same : [] ≡ slots = cc in same), tt)
  tiles_read (t ∷ tiles) got slots found =
      let first = then_ok (slots_of_tile frame attrs places head t.leaf t.cells (ranged t.spans got))
      (λ own. and_then (slots_of_tiles frame attrs places head tiles (drop (length t.spans) got)) (λ others. Ok (own ++ others))) slots found in
      let second = then_ok (slots_of_tiles frame attrs places head tiles (drop (length t.spans) got)) (λ others. Ok (first.0 ++ others)) slots first.2 in
      let is = tile_read frame attrs places head t.leaf t.cells (ranged t.spans got) first.0 first.1 in
      let rest = tiles_read tiles (drop (length t.spans) got) second.0 second.1 in
      let same : first.0 ++ second.0 ≡ slots = cc (second.2) in
      (first.0 ∷ rest.0, ap (λ (more : List StoredCell). first.0 ++ more) rest.1 ∙ same, (is, rest.2))

-- ---- what the judge says

-- where it takes versions, they are those wanted of the cells that the slots of all tiles have
judged_slots : (opened : Opened) (got : List (List ℕ)) (versions : List Version) → space_judge opened got ≡ Whole versions
    → (slots : List StoredCell) × (slots_of_tiles opened.frame opened.attrs (opened.want).attrs opened.head opened.tiles got ≡ Ok slots) × (taken opened.want (versions_of opened.head slots) ≡ versions)
unfolding space_judge
judged_slots opened got versions h = by (slots_of_tiles opened.frame opened.attrs (opened.want).attrs opened.head opened.tiles got) refl h
  where
    by : (r : Result (List StoredCell) Fault) → slots_of_tiles opened.frame opened.attrs (opened.want).attrs opened.head opened.tiles got ≡ r → verdict_on opened r ≡ Whole versions
        → (slots : List StoredCell) × (slots_of_tiles opened.frame opened.attrs (opened.want).attrs opened.head opened.tiles got ≡ Ok slots) × (taken opened.want (versions_of opened.head slots) ≡ versions)
    by (Ok slots) e k = (slots, e, (let same : taken opened.want (versions_of opened.head slots) ≡ versions = cc in same))
    by (Err fault) e k = absurd (cc)

-- ---- how a fetch began

-- the metadata that begins a fetch
record IsOpened (frame : Frame) (s : Schema) (frag : FragKey) (object : List ℕ) (want : Want) (f : Going Opened) : Type 0 where
  footer : Footer
  dense : frame.dense ≡ true
  read : dense_footer_stored frame s.attrs frag object ≡ Ok footer
  same : space_fetch frame s.attrs frag want footer (space_used s.attrs footer want.attrs) ≡ f

-- each fetch began with metadata, in a dense array
opened_so : (frame : Frame) (s : Schema) (frag : FragKey) (object : List ℕ) (want : Want) (f : Going Opened) → space_opens frame s frag object want ≡ Ok f → IsOpened frame s frag object want f
unfolding space_opens
opened_so frame s frag object want f found = by frame.dense refl found
  where
    next : Footer → Result (Going Opened) ℕ
    next footer = Ok (space_fetch frame s.attrs frag want footer (space_used s.attrs footer want.attrs))

    by : (b : Bool) → frame.dense ≡ b → (if b then (dense_footer_stored frame s.attrs frag object >>= next) else Err 0) ≡ Ok f → IsOpened frame s frag object want f
    by true e k =
        let b = bound (dense_footer_stored frame s.attrs frag object) next f k in
        record { footer = b.first; dense = e; read = b.was; same = same_ok (next b.first) (space_fetch frame s.attrs frag want b.first (space_used s.attrs b.first want.attrs)) f refl b.next }
    by false e k = absurd (cc)

-- each fetch begins with a plan, and goes by it
goes_by_plan : GoesByPlan space_judge space_codec
goes_by_plan = record {
  begins = λ frame s frag object want f opened.
      let is = opened_so frame s frag object want f opened in
      subst (λ (g : Going Opened). g ≡ begun g.given frag g.left) is.same refl;
  steps = λ f r. refl;
}

-- ---- what a fetch takes

-- the metadata of a fetch, and the slots of the tiles that it read, of which it took these versions
pub record TakenSlots (frame : Frame) (attrs : List Attr) (frag : FragKey) (object : List ℕ) (want : Want) (versions : List Version) : Type 0 where
  pub footer : Footer
  pub dense : frame.dense ≡ true
  pub read : dense_footer_stored frame attrs frag object ≡ Ok footer
  pub got : List (List ℕ)
  pub ranges : AreRanges (calls_for (space_used attrs footer want.attrs) (space_tiles frame footer (space_used attrs footer want.attrs) (space_places frame want.sub footer))) got
  pub parts : List (List StoredCell)
  pub are : AreRead frame attrs want.attrs footer.head (space_tiles frame footer (space_used attrs footer want.attrs) (space_places frame want.sub footer)) got parts
  pub took : taken want (versions_of footer.head (flat_map (λ (t : List StoredCell). t) parts)) ≡ versions

-- what a fetch takes are the versions wanted of such slots
pub taken_slots : (frame : Frame) (s : Schema) (frag : FragKey) (object : List ℕ) (want : Want) (gots : List Got) (sizes : List Sized) (versions : List Version)
    → EndsWith space_codec frame s frag object want (Takes versions) gots sizes → TakenSlots frame s.attrs frag object want versions
taken_slots frame s frag object want gots sizes versions ends =
    let took = takes_judged space_judge space_codec goes_by_plan frame s frag object want gots sizes versions ends in
    let is = opened_so frame s frag object want took.0 took.1 in
    let used = space_used s.attrs is.footer want.attrs in
    let tiles = space_tiles frame is.footer used (space_places frame want.sub is.footer) in
    let judged = subst (λ (g : Going Opened). IsJudged space_judge (whole_got (space_codec.head_part frame) object) g.given g.left (Whole versions) gots sizes) (sym is.same) took.2 in
    let found = judged_slots (space_opened frame s.attrs want is.footer used) judged.got versions judged.judged in
    let split = tiles_read frame s.attrs want.attrs is.footer.head tiles judged.got found.0 found.1 in
    record {
      footer = is.footer;
      dense = is.dense;
      read = is.read;
      got = judged.got;
      ranges = judged.heard.ranges;
      parts = split.0;
      are = split.2;
      took = ap (λ (slots : List StoredCell). taken want (versions_of is.footer.head slots)) split.1 ∙ found.2;
    }
