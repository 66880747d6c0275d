-- No cell comes twice, and there may be too many.
use Rattle.std.proofs.Common.{[], length, sym, ap, ◌∙◌}
use Rattle.ts_model.specs.Commands.{again_in}
use Rattle.ts_model.specs.Queries.{over_most}
use Rattle.ts_writer.specs.Tables.{cells_in}
use Rattle.ts_writer.proofs.Globals.{once}
use Rattle.ts_writer.proofs.Pieced.{pieced_none, refused_second}
use Rattle.ts_writer.proofs.laying.tested.Goals as goal

pub returns-in-Some-over_most : goal.returns-in-Some-over_most
returns-in-Some-over_most c =
    let global = rw c.in-Some.is at c.in_ok-places.ensures.some in
    refused_second c.args.frame.now c.args.origin (cells_in c.args.table) (again_in [] 0 (cells_in c.args.table)) (over_most (length c.args.table)) c.in-Some-over_most.refusal
    (once c.args.frame.now c.args.table c.in-Some.places global) (sym (c.over_most.ensures ∙ ap over_most c.len-count.ensures) ∙ c.in-Some-over_most.is)

pub returns-in_ok-piece_of-in-None : goal.returns-in_ok-piece_of-in-None
returns-in_ok-piece_of-in-None c =
    let global = rw c.in-Some.is at c.in_ok-places.ensures.some in
    pieced_none c.args.frame.now c.args.origin (cells_in c.args.table) (again_in [] 0 (cells_in c.args.table)) (over_most (length c.args.table)) c.in_ok-piece_of-in-None.field-0
    (once c.args.frame.now c.args.table c.in-Some.places global) (sym (c.over_most.ensures ∙ ap over_most c.len-count.ensures) ∙ c.in-None.is) c.in_ok-piece_of-in-None.ensures
