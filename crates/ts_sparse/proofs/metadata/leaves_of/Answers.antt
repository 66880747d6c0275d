-- There is a cell, all boxes have as many dimensions, and those of the tiles are the leaves.
use Rattle.std.proofs.Common.{◌≡◌, ◌≤◌, List, length, ap, sym, subst, ◌∙◌, arith}
use Rattle.std.proofs.lemmas.Result.{IfOk-weaker}
use Rattle.ts_base.specs.declared.heads.Version.{Version}
use Rattle.ts_domain.specs.declared.boxes.SubBox.{SubBox}
use Rattle.ts_domain.specs.Rects.{AllLike}
use Rattle.ts_piece.specs.Spots.{spotted}
use Rattle.ts_rtree.specs.Trees.{hulls_of}
use Rattle.ts_sparse.specs.Sparse.{leaves_of}
use Rattle.ts_sparse.specs.Laying.{boxes_of, cells_of}
use Rattle.ts_sparse.proofs.SpotLaws.{spotted_long}
use Rattle.ts_sparse.proofs.MetaLaws.{some_versions, boxes_alike, leaves_same, leaves_alike, leaves_there}
use Rattle.ts_sparse.proofs.metadata.leaves_of.Goals as goal

pub tile_boxes-requires-clause-some : goal.tile_boxes-requires-clause-some
tile_boxes-requires-clause-some c =
    let some : 1 ≤ length c.args.piece.now.versions = some_versions c.args.frame.now c.args.schema.now.attrs c.args.piece.now.head.frag c.args.piece.now c.requires in
    let long = spotted_long c.parts.result.batches.now c.parts.result.spots.now in
    let same = ap length c.parts.ensures.versions in
    omega (arith, some, long, same)

pub tile_boxes-requires-clause-alike : goal.tile_boxes-requires-clause-alike
tile_boxes-requires-clause-alike c =
    subst (λ (versions : List Version). AllLike (boxes_of versions)) (sym c.parts.ensures.versions) (boxes_alike c.args.frame.now c.args.schema.now.attrs c.args.piece.now.head.frag c.args.piece.now c.requires)

pub returns-clause-leaves : goal.returns-clause-leaves
returns-clause-leaves c =
    let n = c.args.frame.now.capacity in
    IfOk-weaker c.tile_boxes.result (λ leaves. leaves ≡ hulls_of n (boxes_of (spotted c.parts.result.batches.now c.parts.result.spots.now))) (λ leaves. leaves ≡ leaves_of n (cells_of c.args.piece.now))
    (λ leaves h. h ∙ ap (λ (versions : List Version). hulls_of n (boxes_of versions)) c.parts.ensures.versions ∙ leaves_same n c.args.piece.now) c.tile_boxes.ensures

pub returns-clause-alike : goal.returns-clause-alike
returns-clause-alike c =
    let n = c.args.frame.now.capacity in
    let all = leaves_alike c.args.frame.now c.args.schema.now.attrs c.args.piece.now.head.frag c.args.piece.now c.requires in
    IfOk-weaker c.tile_boxes.result (λ leaves. leaves ≡ hulls_of n (boxes_of (spotted c.parts.result.batches.now c.parts.result.spots.now))) AllLike
    (λ leaves h. subst AllLike (sym (h ∙ ap (λ (versions : List Version). hulls_of n (boxes_of versions)) c.parts.ensures.versions)) all) c.tile_boxes.ensures

pub returns-clause-some : goal.returns-clause-some
returns-clause-some c =
    let n = c.args.frame.now.capacity in
    let some = leaves_there c.args.frame.now c.args.schema.now.attrs c.args.piece.now.head.frag c.args.piece.now c.requires in
    IfOk-weaker c.tile_boxes.result (λ leaves. leaves ≡ hulls_of n (boxes_of (spotted c.parts.result.batches.now c.parts.result.spots.now))) (λ leaves. 1 ≤ length leaves)
    (λ leaves h. subst (λ (boxes : List SubBox). 1 ≤ length boxes) (sym (h ∙ ap (λ (versions : List Version). hulls_of n (boxes_of versions)) c.parts.ensures.versions)) some) c.tile_boxes.ensures
