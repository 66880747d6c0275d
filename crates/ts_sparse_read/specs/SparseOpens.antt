-- A fetch of a sparse fragment begins well on the parts of a piece.
use Rattle.std.proofs.Common.{◌≡◌, ℕ, List, map, Option, Some, Ok, sym, ap, ◌∙◌, subst}
use Rattle.std.specs.Option.{IsSomeAnd}
use Rattle.ts_base.specs.declared.heads.Piece.{Piece}
use Rattle.ts_base.specs.declared.names.Part.TheVariants as part
use Rattle.ts_wire.specs.Place.{◌>>=◌}
use Rattle.ts_schema.specs.declared.attrs.Attr.{Attr}
use Rattle.ts_schema.specs.declared.frames.Frame.{Frame}
use Rattle.ts_schema.specs.Parts.{Look}
use Rattle.ts_schema.specs.Wants.{taken}
use Rattle.ts_plain.specs.Pieces.{version_in, piece_of}
use Rattle.ts_plain.specs.Writes.{stored_for}
use Rattle.ts_footer.specs.Footers.{footer_stored}
use Rattle.ts_fetch.specs.declared.judging.Verdict.TheVariants.{Whole}
use Rattle.ts_fetch.specs.Plans.{ranges_of}
use Rattle.ts_fetch.proofs.PlanLaws.{starts_well}
use Rattle.ts_sparse.specs.Sparse.{IsStored}
use Rattle.ts_sparse.specs.Told.{footer_of}
use Rattle.ts_sparse.proofs.FormLaws.{form_of}
use Rattle.ts_sparse.proofs.ToldLaws.{footer_told}
use Rattle.ts_sparse_read.specs.Opens.{used_in, tiles_at, places_for, calls_for, opened_for, fetch_for, sparse_opens}
use Rattle.ts_sparse_read.specs.Judges.{sparse_judge}
use Rattle.ts_sparse_read.specs.SparseLaws.{SparseOpens}
use Rattle.ts_sparse_read.specs.FoundTiles.{tile_found}
use Rattle.ts_sparse_read.specs.FoundParts.{parts_match}
use Rattle.ts_sparse_read.specs.FoundPlans.{plan_right}
use Rattle.ts_sparse_read.specs.FoundPieces.{judge_finds}

-- the object that is there stores what is told of the piece
meta_read : (frame : Frame) (attrs : List Attr) (p : Piece) (look : Look) (object : List ℕ) (is : IsStored frame attrs p look) → look part.Meta ≡ Some object → footer_stored frame attrs p.head.frag object ≡ Ok (footer_of frame attrs is.stored)
meta_read frame attrs p look object is held =
    let Q : Option (List ℕ) → Type 0 = λ o. IsSomeAnd o (λ object. footer_stored frame attrs p.head.frag object ≡ Ok (footer_of frame attrs (stored_for p))) in
    let told : footer_stored frame attrs p.head.frag object ≡ Ok (footer_of frame attrs (stored_for p)) = subst Q held (footer_told frame attrs p look is) in
    told ∙ ap (λ s. Ok (footer_of frame attrs s)) (sym (form_of frame attrs p look is))

-- the versions of a piece are those that its cells hold
versions_are : (frame : Frame) (attrs : List Attr) (p : Piece) (look : Look) (is : IsStored frame attrs p look) → p.versions ≡ map (version_in (is.stored).head) (is.stored).cells
unfolding piece_of
versions_are frame attrs p look is = ap (λ (q : Piece). q.versions) is.same

-- a fetch begins well
pub sparse_opens_well : SparseOpens
unfolding sparse_opens
sparse_opens_well frame s p look want object is held =
    let st = is.stored in
    let footer = footer_of frame s.attrs st.stored in
    let used = used_in frame s.attrs footer want.attrs in
    let given = opened_for frame s.attrs want footer used in
    let plan = calls_for used (tiles_at frame footer used (places_for frame want.sub footer)) in
    let finds : sparse_judge given (ranges_of look plan) ≡ Whole (taken want p.versions) =
    judge_finds tile_found frame s.attrs p.head.frag st.stored look st.fits st.parts want is.some_dim ∙ ap (λ vs. Whole (taken want vs)) (sym (versions_are frame s.attrs p look st)) in
    let right = plan_right look frame s.attrs st.stored want.attrs (places_for frame want.sub footer) (parts_match frame s.attrs st.stored) st.parts in
    record {
      fetch = fetch_for frame s.attrs p.head.frag want footer used;
      opens = ap (λ r. r >>= λ told. Ok (fetch_for frame s.attrs p.head.frag want told (used_in frame s.attrs told want.attrs))) (meta_read frame s.attrs p look object st held);
      starts = starts_well sparse_judge look p.head.frag (taken want p.versions) given plan right finds;
    }
