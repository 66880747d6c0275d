use Rattle.std.proofs.Common.{◌∙◌}
use Rattle.ts_actor.specs.PlainWrites.{storable_names}
use Rattle.ts_actor.proofs.plain_pieces.PlainPiecesPieces.parts.Goals as goal

pub write_plain-requires : goal.write_plain-requires
write_plain-requires c = rw (c.in_ok-rows.ensures ∙ c.in_ok-cells.ensures) (storable_names c.args._frame.now c.args._schema.now.attrs c.args.piece.now c.requires)
