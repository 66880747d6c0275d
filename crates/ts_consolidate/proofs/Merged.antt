-- What is made of the heads of sources, and of what was got of them, is what the sources are merged into.
use Rattle.std.proofs.Common.{◌≡◌, ℕ, ◌<◌, ◌^◌, List, ◌∷◌, length, sym, ap, ◌∙◌, subst, arith}
use Rattle.ts_base.specs.declared.heads.Head.{Head}
use Rattle.ts_base.specs.declared.heads.Piece.{Piece}
use Rattle.ts_base.specs.declared.heads.Version.{Version}
use Rattle.ts_schema.specs.declared.attrs.Attr.{Attr}
use Rattle.ts_schema.specs.declared.frames.Frame.{Frame}
use Rattle.ts_model.specs.Consolidated.{IsConsolidated}
use Rattle.ts_model.specs.Merging.{AreSources, EachAlike, MergesTo, all_got, heads_of, merged_piece, merged_with}
use Rattle.ts_model.proofs.Alike.{merged_got}
use Rattle.ts_model.proofs.MergedFits.{sources_merge, sources_fit}
use Rattle.ts_consolidate.specs.Consolidations.{IsConsolidationOf}

pub merged_sources : (frame : Frame) (attrs : List Attr) (id : ℕ) (first : Head) (others : List Head) (got : List (List Version)) (p : Piece) (ps : List Piece) (piece : Piece)
    → piece ≡ merged_with frame id first others (all_got got) → length piece.versions < 2 ^ 64 → length piece.head.origins < 2 ^ 32
    → AreSources frame attrs (p ∷ ps) → p.head ≡ first → heads_of ps ≡ others → EachAlike (p ∷ ps) got → IsConsolidationOf frame attrs id p ps piece
merged_sources frame attrs id first others got p ps piece made few few_origins are head heads alike =
    let same : piece ≡ merged_piece frame id p ps =
    made ∙ ap (λ (h : Head). merged_with frame id h others (all_got got)) (sym head) ∙ ap (λ hs. merged_with frame id p.head hs (all_got got)) (sym heads) ∙ merged_got frame id p ps got alike in
    let versions = ap (λ (q : Piece). length q.versions) same in
    let origins = ap (λ (q : Piece). length q.head.origins) same in
    record {
      is = same;
      merges = subst (MergesTo (p ∷ ps)) (sym same) (sources_merge frame attrs id p ps are (omega (arith, few, versions)) (omega (arith, few_origins, origins)));
      fits = subst (IsConsolidated frame attrs) (sym same) (sources_fit frame attrs id p ps are (omega (arith, few, versions)) (omega (arith, few_origins, origins)));
    }
