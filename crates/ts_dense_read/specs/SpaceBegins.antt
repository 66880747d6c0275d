-- A fetch of a dense fragment begins well on the parts of a piece, asks for parts that are held, and goes on well with what is held.
use Rattle.std.proofs.Common.{◌≡◌, ℕ, true, List, map, Some, Result, Ok, Err, sym, ap, ◌∙◌}
use Rattle.std.specs.List.{All}
use Rattle.std.proofs.lemmas.Bool.{cond-true}
use Rattle.ts_base.specs.declared.keys.FragKey.{FragKey}
use Rattle.ts_base.specs.declared.names.Name.TheVariants as name
use Rattle.ts_base.specs.declared.names.Part.{Part}
use Rattle.ts_base.specs.declared.names.Part.TheVariants as part
use Rattle.ts_base.specs.declared.heads.Piece.{Piece}
use Rattle.ts_store.specs.declared.call.Call.{Call}
use Rattle.ts_store.specs.declared.call.Reply.{Reply}
use Rattle.ts_wire.specs.Place.{◌>>=◌}
use Rattle.ts_schema.specs.declared.attrs.Attr.{Attr}
use Rattle.ts_schema.specs.declared.frames.Frame.{Frame}
use Rattle.ts_schema.specs.declared.schemas.Schema.{Schema}
use Rattle.ts_schema.specs.declared.wants.Want.{Want}
use Rattle.ts_schema.specs.Parts.{Look}
use Rattle.ts_schema.specs.Wants.{taken}
use Rattle.ts_plain.specs.declared.stored.StoredPiece.{StoredPiece}
use Rattle.ts_plain.specs.Pieces.{version_in, piece_of}
use Rattle.ts_footer.specs.declared.footers.Footer.{Footer}
use Rattle.ts_footer.specs.Footers.{dense_footer_stored}
use Rattle.ts_model.specs.Codecs.{AsksLooks, AsksHeld, SpeaksOf, IsToldOf, GoesWell, OpensWell}
use Rattle.ts_fetch.specs.declared.judging.Verdict.TheVariants.{Whole}
use Rattle.ts_fetch.specs.Plans.{Going, ranges_of}
use Rattle.ts_fetch.proofs.PlanLaws.{asks_held, goes_well, plan_looks, starts_well}
use Rattle.ts_sparse.specs.Sparse.{IsThere}
use Rattle.ts_dense.specs.Dense.{parts_of, FitsDense, IsStored, IsDense}
use Rattle.ts_sparse_read.specs.Opens.{calls_for}
use Rattle.ts_dense_read.specs.declared.opened.Opened.{Opened}
use Rattle.ts_dense_read.specs.SpaceOpens.{space_used, space_tiles, space_places, space_opened, space_fetch, space_opens}
use Rattle.ts_dense_read.specs.SpaceJudges.{space_judge}
use Rattle.ts_dense_read.specs.SpaceCodecs.{space_codec, SpaceTracks}
use Rattle.ts_dense_read.specs.Told.{footer_of}
use Rattle.ts_dense_read.specs.FoundFooters.{footer_told}
use Rattle.ts_dense_read.specs.FoundPlans.{plan_right}

-- ---- what is promised

-- a fetch begins well
abbrev pub SpaceBeginsWell : Type 0
SpaceBeginsWell = (frame : Frame) (s : Schema) (p : Piece) (look : Look) (want : Want) (object : List ℕ) → IsDense frame s p look → look part.Meta ≡ Some object
    → OpensWell space_codec (SpaceTracks frame s p look want) frame s p object want

-- a fetch asks for parts that the fragment has
abbrev pub SpaceAsks : Type 0
SpaceAsks = (frame : Frame) (s : Schema) (p : Piece) (look : Look) (want : Want) (f : Going Opened) (c : Call) → SpaceTracks frame s p look want f c → AsksHeld look p.head.frag c

-- a fetch that is told what is held goes on well
abbrev pub SpaceGoes : Type 0
SpaceGoes = (frame : Frame) (s : Schema) (p : Piece) (look : Look) (want : Want) (f : Going Opened) (c : Call) (part : Part) (bytes : List ℕ) (r : Reply)
    → SpaceTracks frame s p look want f c → look part ≡ Some bytes → SpeaksOf c (name.Part p.head.frag part) → IsToldOf c bytes r → GoesWell (SpaceTracks frame s p look want) (taken want p.versions) (space_codec.steps f r)

-- the judge finds what is wanted in what the gets of the plan find, over the parts of what is stored
abbrev pub JudgeFinds : Type 0
JudgeFinds = (frame : Frame) (attrs : List Attr) (frag : FragKey) (s : StoredPiece) (look : Look) → FitsDense frame attrs frag s → All (IsThere look) (parts_of frame attrs s) → (want : Want)
    → space_judge (space_opened frame attrs want (footer_of frame attrs s) (space_used attrs (footer_of frame attrs s) want.attrs))
    (ranges_of look (calls_for (space_used attrs (footer_of frame attrs s) want.attrs) (space_tiles frame (footer_of frame attrs s) (space_used attrs (footer_of frame attrs s) want.attrs) (space_places frame want.sub (footer_of frame attrs s)))))
    ≡ Whole (taken want (map (version_in s.head) s.cells))

-- ---- steps

-- a fetch asks for nothing but gets and sizes
pub space_looks : AsksLooks space_codec
space_looks f r g c asked = plan_looks space_judge f g r c asked

-- a fetch asks for parts that the fragment has
pub space_asks : SpaceAsks
space_asks frame s p look want f c on = asks_held space_judge look p.head.frag (taken want p.versions) f c on

-- a fetch that is told what is held goes on well
pub space_goes : SpaceGoes
space_goes frame s p look want f c part bytes r on held speaks told = goes_well space_judge look p.head.frag (taken want p.versions) f c part bytes r on held speaks told

-- ---- the beginning

-- the versions of a piece are those that its cells hold
versions_are : (frame : Frame) (attrs : List Attr) (p : Piece) (look : Look) (is : IsStored frame attrs p look) → p.versions ≡ map (version_in (is.stored).head) (is.stored).cells
unfolding piece_of
versions_are frame attrs p look is = ap (λ (q : Piece). q.versions) is.same

-- in a dense array a fetch begins on the metadata that is read
pub opens_on : (frame : Frame) (s : Schema) (frag : FragKey) (object : List ℕ) (want : Want) (footer : Footer) → frame.dense ≡ true → dense_footer_stored frame s.attrs frag object ≡ Ok footer
    → space_opens frame s frag object want ≡ Ok (space_fetch frame s.attrs frag want footer (space_used s.attrs footer want.attrs))
unfolding space_opens
opens_on frame s frag object want footer dense read =
    let begins : Footer → Result (Going Opened) ℕ = λ told. Ok (space_fetch frame s.attrs frag want told (space_used s.attrs told want.attrs)) in
    cond-true frame.dense (dense_footer_stored frame s.attrs frag object >>= begins) (Err 0) dense ∙ ap (λ r. r >>= begins) read

-- a fetch begins well, where the judge finds what is wanted
pub space_opens_well : JudgeFinds → SpaceBeginsWell
space_opens_well judge_finds frame s p look want object is held =
    let footer = footer_of frame s.attrs is.stored in
    let used = space_used s.attrs footer want.attrs in
    let places = space_places frame want.sub footer in
    let given = space_opened frame s.attrs want footer used in
    let plan = calls_for used (space_tiles frame footer used places) in
    let finds : space_judge given (ranges_of look plan) ≡ Whole (taken want p.versions) =
    judge_finds frame s.attrs p.head.frag is.stored look is.fits is.parts want ∙ ap (λ vs. Whole (taken want vs)) (sym (versions_are frame s.attrs p look is)) in
    let right = plan_right look frame s.attrs is.stored want.attrs places is.parts in
    record {
      fetch = space_fetch frame s.attrs p.head.frag want footer used;
      opens = opens_on frame s p.head.frag object want footer is.fits.dense (footer_told frame s.attrs p look is object held);
      starts = starts_well space_judge look p.head.frag (taken want p.versions) given plan right finds;
    }
