-- A piece that can be written names its writes, and its parts have spellings.
use Rattle.std.proofs.Common.{◌≤◌, length, arith}
use Rattle.ts_plain.specs.Writes.{stored_for}
use Rattle.ts_sparse_read.proofs.PieceParts.{names_writes, built_spelled}
use Rattle.ts_sparse_read.proofs.pieces.SparsePiecesPieces.parts.Goals as goal

pub build-requires-clause-names : goal.build-requires-clause-names
build-requires-clause-names c = names_writes c.args.frame.now c.args.schema.now.attrs c.args.piece.now c.requires

pub returns-clause-spelled : goal.returns-clause-spelled
returns-clause-spelled c =
    let dims : length c.args.frame.now.domain ≤ 8 = omega (arith, c.count-count.ensures.count, c.count-count.ensures.room) in
    built_spelled c.args.frame.now c.args.schema.now.attrs (stored_for c.args.piece.now) c.build.result dims c.requires.fits.few_attrs c.build.ensures.parts
