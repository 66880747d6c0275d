-- The slice of the batch has its coordinates.
use Rattle.std.proofs.Common.{rules, arith, ◌<◌, [], length, ◌∙◌, FitsSigned, to_z-of_z}
use Rattle.std.specs.List.{slice_index_or}
use Rattle.std.specs.Int.{w128}
use Rattle.ts_sparse.proofs.SeenLaws.{slice_there, coord_there, coords_long}
use Rattle.ts_sparse.proofs.coords.coord_at.Goals as goal

pub number_in-requires : goal.number_in-requires
number_in-requires c =
    let is = slice_there c.args.dim c.args.batches.now c.args.slices.now c.args.spot _ _ c.requires.slices c.requires.there c.in-Some.is in
    let there : c.args.spot.place < length (slice_index_or c.args.batches.now c.args.spot.batch []) = c.requires.there in
    omega (arith, there, coords_long c.args.dim _ _ is)

pub returns-in-Some : goal.returns-in-Some
returns-in-Some c =
    let is = slice_there c.args.dim c.args.batches.now c.args.slices.now c.args.spot _ _ c.requires.slices c.requires.there c.in-Some.is in
    let z : FitsSigned w128 c.number_in.result = search rules in
    to_z-of_z z ∙ c.number_in.ensures ∙ coord_there c.args.dim _ _ c.args.spot.place is c.requires.there
