-- The versions of all batches lie in the domain, and what is made of sources is what they are merged into.
use Rattle.std.proofs.Common.{◌≡◌, ◌<◌, ◌^◌, List, length, sym, ap, ◌∙◌, subst, arith}
use Rattle.std.specs.Prelude.{IsTrue, All}
use Rattle.std.proofs.lemmas.List.{length-map}
use Rattle.ts_base.specs.declared.heads.Head.{Head}
use Rattle.ts_base.specs.declared.heads.Piece.{Piece}
use Rattle.ts_base.specs.declared.heads.Version.{Version}
use Rattle.ts_base.specs.declared.keys.Key.{Key}
use Rattle.ts_domain.specs.Domains.{is_in_domain}
use Rattle.ts_batch.specs.Batches.{versions_of}
use Rattle.ts_piece.specs.Spots.{spotted, version_in}
use Rattle.ts_model.specs.Merging.{all_got, merged_head, merged_versions, merged_with}
use Rattle.ts_consolidate.specs.Consolidations.{IsConsolidationOf}
use Rattle.ts_consolidate.proofs.Merged.{merged_sources}
use Rattle.ts_consolidate.proofs.Placed.{joined_all}
use Rattle.ts_consolidate.proofs.merging.merge_pieces.Goals as goal

pub merged_spots-requires : goal.merged_spots-requires
merged_spots-requires c =
    let inside = λ (version : Version). IsTrue (is_in_domain c.args.frame.now.domain version.coords) in
    subst (All inside) (sym (ap versions_of c.as_slice.ensures.value ∙ c.in_ok-batches.ensures)) (joined_all inside c.args.got c.requires.inside)

pub returns-clause-sources : goal.returns-clause-sources
returns-clause-sources c =
    let frame = c.args.frame.now in
    let first = c.args.first.now in
    let others = c.args.others.now in
    let head = c.merged_head-head.result in
    let batches = c.in_ok-batches.batches.items in
    let spots = c.in_ok-spots.spots.items in
    let kept = spotted batches spots in
    let got = ap versions_of c.as_slice.ensures.value ∙ c.in_ok-batches.ensures in
    let versions : kept ≡ merged_versions frame first.dense (all_got c.args.got) =
    ap (λ (bs : List (List Version)). spotted bs spots) (sym c.as_slice.ensures.value) ∙ c.in_ok-spots.ensures.kept ∙ ap (merged_versions frame first.dense) got in
    let long : length kept ≡ length spots = length-map spots (version_in batches) in
    let count : c.len-count.result ≡ length kept = omega (arith, long, c.len-count.ensures) in
    let of : head ≡ merged_head c.args.id first others (length kept) = c.merged_head-head.ensures ∙ ap (merged_head c.args.id first others) count in
    let heads = of ∙ ap (λ (vs : List Version). merged_head c.args.id first others (length vs)) versions in
    let piece : Piece = record { head = head; versions = kept } in
    let made : piece ≡ merged_with frame c.args.id first others (all_got c.args.got) = λ i. record { head = heads i; versions = versions i } in
    let few : length kept < 2 ^ 64 = omega (arith, count, c.len-count.type_inv) in
    let origins : length head.origins ≡ length c.in_ok-origins.origins = ap (λ (h : Head). length h.origins) of ∙ ap (λ (ks : List Key). length ks) (sym c.in_ok-origins.ensures) in
    let few_origins : length head.origins < 2 ^ 32 = omega (arith, origins, c.len.ensures, c.from.ensures, c.if-len-from.false) in
    λ attrs p ps are same rest alike. subst (IsConsolidationOf frame attrs c.args.id p ps) (sym c.of.ensures) (merged_sources frame attrs c.args.id first others c.args.got p ps piece made few few_origins are same rest alike)
