use Rattle.std.proofs.Common.{length, ◌∙◌}
use Rattle.std.proofs.lemmas.Result.{IfOk-weaker}
use Rattle.ts_writer.proofs.Globals.{piece_parts, places_within, versions_global}
use Rattle.ts_writer.specs.Tables.{cells_in}
use Rattle.ts_writer.proofs.pieces.piece_of.Goals as goal

pub of_table-requires : goal.of_table-requires
of_table-requires c = places_within (length c.args.table) c.args.places c.requires.global.each

pub returns : goal.returns
returns c =
    let versions = versions_global c.args.frame.now c.args.table c.args.places c.requires.global c.args.origin.key c.args.origin.schema c.requires.own in
    IfOk-weaker c.of_table.result _ _ (λ piece is.
    is ∙ (λ i. record { head = c.in_ok-head.ensures i; versions = versions i })
    ∙ piece_parts c.args.frame.now (record { key = c.args.origin.key; schema = c.args.origin.schema; cells = cells_in c.args.table })) c.of_table.ensures
