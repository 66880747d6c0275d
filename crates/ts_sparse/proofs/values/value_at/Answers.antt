-- The source of the batch has its values.
use Rattle.std.proofs.Common.{rules, arith, ◌<◌, [], length, ◌∙◌, FitsSigned, to_z-of_z}
use Rattle.std.specs.List.{slice_index_or}
use Rattle.std.specs.Int.{w128}
use Rattle.ts_sparse.proofs.SeenLaws.{source_there, int_there, ints_long, value_there}
use Rattle.ts_sparse.proofs.values.value_at.Goals as goal

pub number_in-requires : goal.number_in-requires
number_in-requires c =
    let is = source_there c.args.attr c.args.batches.now c.args.sources.now c.args.spot _ _ c.requires.sources c.requires.there c.in-Integers.is in
    let there : c.args.spot.place < length (slice_index_or c.args.batches.now c.args.spot.batch []) = c.requires.there in
    omega (arith, there, ints_long c.args.attr _ _ is)

pub returns-in-Integers : goal.returns-in-Integers
returns-in-Integers c =
    let is = source_there c.args.attr c.args.batches.now c.args.sources.now c.args.spot _ _ c.requires.sources c.requires.there c.in-Integers.is in
    let z : FitsSigned w128 c.number_in.result = search rules in
    int_there c.args.attr _ _ c.args.spot.place _ is c.requires.there (to_z-of_z z ∙ c.number_in.ensures)

pub at-requires : goal.at-requires
at-requires c =
    let is = source_there c.args.attr c.args.batches.now c.args.sources.now c.args.spot _ _ c.requires.sources c.requires.there c.in-Column.is in
    let long = is.long in
    let there : c.args.spot.place < length (slice_index_or c.args.batches.now c.args.spot.batch []) = c.requires.there in
    omega (arith, there, long)

pub returns-in-Column : goal.returns-in-Column
returns-in-Column c =
    let is = source_there c.args.attr c.args.batches.now c.args.sources.now c.args.spot _ _ c.requires.sources c.requires.there c.in-Column.is in
    value_there c.args.attr _ _ c.args.spot.place _ is c.requires.there c.at.ensures
