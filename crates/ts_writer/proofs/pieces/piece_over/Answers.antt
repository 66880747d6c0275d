use Rattle.std.proofs.Common.{◌≡◌, List, [], ◌∷◌, ap, ◌∙◌, arith}
use Rattle.ts_base.specs.declared.heads.Version.{Version}
use Rattle.ts_domain.specs.Boxes.{cells_of}
use Rattle.ts_domain.proofs.DomainLemmas.{All-IsDomain}
use Rattle.ts_order.specs.Orders.{coords_in_order}
use Rattle.ts_table.specs.BoxTables.{versions_over}
use Rattle.ts_writer.proofs.BoxSpots.{piece_is, spots_fit}
use Rattle.ts_writer.proofs.pieces.piece_over.Goals as goal

pub of-requires : goal.of-requires
of-requires c =
    let frame = c.args.frame.now in
    let cells = coords_in_order c.args.layout c.args.sub in
    let one = c.in_ok-batches.ensures.items ∙ ap (λ (t : List Version). t ∷ []) (c.of_box.ensures ∙ c.of-table.ensures ∙ ap (λ rows. versions_over c.args.origin rows 0 cells) c.into_vec.ensures) in
    spots_fit frame c.args.origin c.args.layout c.args.sub c.args.rows c.requires.valid (All-IsDomain frame.domain c.requires.frame.domain) c.requires.inside c.in_ok-batches.batches.items c.in_ok-spots.spots.items one c.in_ok-spots.ensures

pub returns : goal.returns
returns c =
    let frame = c.args.frame.now in
    let cells = coords_in_order c.args.layout c.args.sub in
    let one = c.in_ok-batches.ensures.items ∙ ap (λ (t : List Version). t ∷ []) (c.of_box.ensures ∙ c.of-table.ensures ∙ ap (λ rows. versions_over c.args.origin rows 0 cells) c.into_vec.ensures) in
    let all : c.cells-count.result ≡ cells_of c.args.sub = omega (arith, c.cells-count.ensures.capped, c.requires.few) in
    c.of.ensures
    ∙ piece_is frame c.args.origin c.args.layout c.args.sub c.args.rows c.requires.valid (All-IsDomain frame.domain c.requires.frame.domain) c.requires.inside c.in_ok-batches.batches.items c.in_ok-spots.spots.items one c.in_ok-spots.ensures
    c.cells-count.result c.in_ok-head.head all c.in_ok-head.ensures
