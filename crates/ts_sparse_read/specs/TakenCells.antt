-- What a fetch takes is what is wanted of the cells of the tiles that it read.
use Rattle.std.proofs.Common.{◌≡◌, ℕ, List, map, None, Ok, refl, sym, ap, ◌∙◌, subst}
use Rattle.std.specs.List.{flat_map}
use Rattle.ts_base.specs.declared.keys.FragKey.{FragKey}
use Rattle.ts_base.specs.declared.heads.Version.{Version}
use Rattle.ts_wire.specs.Exact.{IsBytes}
use Rattle.ts_wire.proofs.Laws.{bound, same_ok}
use Rattle.ts_schema.specs.declared.attrs.Attr.{Attr}
use Rattle.ts_schema.specs.declared.frames.Frame.{Frame}
use Rattle.ts_schema.specs.declared.schemas.Schema.{Schema}
use Rattle.ts_schema.specs.declared.wants.Want.{Want}
use Rattle.ts_schema.specs.Parts.{Got, Sized, IsShort}
use Rattle.ts_schema.specs.Wants.{taken}
use Rattle.ts_plain.specs.declared.stored.StoredCell.{StoredCell}
use Rattle.ts_plain.specs.Pieces.{version_in}
use Rattle.ts_footer.specs.declared.footers.Footer.{Footer}
use Rattle.ts_footer.specs.Footers.{footer_stored, FitsFooter}
use Rattle.ts_footer.proofs.MetaObjects.{stored_found}
use Rattle.ts_model.specs.Codecs.{Takes}
use Rattle.ts_actor.specs.PieceLaws.{whole_got, EndsWith}
use Rattle.ts_fetch.specs.declared.judging.Verdict.TheVariants.{Whole}
use Rattle.ts_fetch.specs.Plans.{Going, begun, IsJudged}
use Rattle.ts_fetch.specs.PlanCodecs.{GoesByPlan}
use Rattle.ts_fetch.proofs.Heard.{takes_judged}
use Rattle.ts_sparse_read.specs.declared.opened.Opened.{Opened}
use Rattle.ts_sparse_read.specs.Opens.{used_in, tiles_at, places_for, calls_for, opened_for, fetch_for, sparse_opens}
use Rattle.ts_sparse_read.specs.Judges.{sparse_judge}
use Rattle.ts_sparse_read.specs.Codecs.{sparse_codec}
use Rattle.ts_sparse_read.specs.ReadCells.{ranges_got, AreRead, tiles_read, judged_cells}
use Rattle.ts_sparse_read.specs.SoundTiles.{may_read_all, calls_short}

-- the metadata of a fetch, and the cells of the tiles that it read, of which it took these versions
pub record TakenCells (frame : Frame) (attrs : List Attr) (frag : FragKey) (object : List ℕ) (want : Want) (versions : List Version) : Type 0 where
  pub footer : Footer
  pub read : footer_stored frame attrs frag object ≡ Ok footer
  pub fits : FitsFooter frame attrs frag footer
  pub parts : List (List StoredCell)
  pub are : AreRead frame attrs want.attrs footer.head None (tiles_at frame footer (used_in frame attrs footer want.attrs) (places_for frame want.sub footer)) parts
  pub took : taken want (map (version_in footer.head) (flat_map (λ (t : List StoredCell). t) parts)) ≡ versions

-- the fetch that metadata begins
abbrev opening : Frame → Schema → FragKey → Want → Footer → Going Opened
opening frame s frag want footer = fetch_for frame s.attrs frag want footer (used_in frame s.attrs footer want.attrs)

-- each fetch begins with a plan, and goes by it
pub goes_by_plan : GoesByPlan sparse_judge sparse_codec
unfolding sparse_opens
goes_by_plan = record {
  begins = λ frame s frag object want f opened.
      let b = bound (footer_stored frame s.attrs frag object) (λ footer. Ok (opening frame s frag want footer)) f opened in
      let same = same_ok (Ok (opening frame s frag want b.first)) (opening frame s frag want b.first) f refl b.next in
      subst (λ (g : Going Opened). g ≡ begun g.given frag g.left) same refl;
  steps = λ f r. refl;
}

-- so it is where the judge says that they are these versions
by_judge : (frame : Frame) (s : Schema) (frag : FragKey) (object : List ℕ) (want : Want) (gots : List Got) (sizes : List Sized) (versions : List Version) (footer : Footer)
    → footer_stored frame s.attrs frag object ≡ Ok footer → FitsFooter frame s.attrs frag footer
    → IsJudged sparse_judge (whole_got (sparse_codec.head_part frame) object) (opening frame s frag want footer).given (opening frame s frag want footer).left (Whole versions) gots sizes
    → TakenCells frame s.attrs frag object want versions
by_judge frame s frag object want gots sizes versions footer read fits is =
    let used = used_in frame s.attrs footer want.attrs in
    let places = places_for frame want.sub footer in
    let tiles = tiles_at frame footer used places in
    let found = judged_cells (opened_for frame s.attrs want footer used) is.got versions is.judged in
    let got = ranges_got (calls_for used tiles) is.got (calls_short frame s.attrs frag footer fits want.attrs places) is.heard.ranges in
    let split = tiles_read frame s.attrs want.attrs footer.head None tiles is.got found.0 (may_read_all frame s.attrs frag footer fits used want.sub) got found.1 in
    record {
      footer = footer;
      read = read;
      fits = fits;
      parts = split.0;
      are = split.2;
      took = ap (λ (cells : List StoredCell). taken want (map (version_in footer.head) cells)) split.1 ∙ found.2;
    }

-- what a fetch takes are the versions wanted of such cells
pub taken_cells : (frame : Frame) (s : Schema) (frag : FragKey) (object : List ℕ) (want : Want) (gots : List Got) (sizes : List Sized) (versions : List Version)
    → IsBytes object → IsShort object → EndsWith sparse_codec frame s frag object want (Takes versions) gots sizes → TakenCells frame s.attrs frag object want versions
unfolding sparse_opens
taken_cells frame s frag object want gots sizes versions all short ends =
    let took = takes_judged sparse_judge sparse_codec goes_by_plan frame s frag object want gots sizes versions ends in
    let b = bound (footer_stored frame s.attrs frag object) (λ footer. Ok (opening frame s frag want footer)) took.0 took.1 in
    let same = same_ok (Ok (opening frame s frag want b.first)) (opening frame s frag want b.first) took.0 refl b.next in
    let judged = subst (λ (g : Going Opened). IsJudged sparse_judge (whole_got (sparse_codec.head_part frame) object) g.given g.left (Whole versions) gots sizes) (sym same) took.2 in
    by_judge frame s frag object want gots sizes versions b.first b.was (stored_found frame s.attrs frag object b.first all short b.was).0 judged
