use Rattle.std.proofs.Common.{sym, ap, subst, ◌∙◌}
use Rattle.ts_model.specs.Deeds.{IsKey}
use Rattle.ts_model.specs.Commands.{laid}
use Rattle.ts_model.specs.States.{puts_cells, works}
use Rattle.ts_writer.specs.Laying.{pieced}
use Rattle.ts_writer.proofs.Written.{refused_of}
use Rattle.ts_writer.proofs.writing.write.Goals as goal

pub put_piece-requires-clause-key : goal.put_piece-requires-clause-key
put_piece-requires-clause-key g c = subst IsKey c.key_of.ensures.is c.key_of.ensures.key

pub put_piece-requires-clause-schema : goal.put_piece-requires-clause-schema
put_piece-requires-clause-schema g c = subst IsKey c.schema_key.ensures.is c.schema_key.ensures.key

pub put_piece-requires-clause-laid : goal.put_piece-requires-clause-laid
put_piece-requires-clause-laid g c =
    (λ i. pieced c.args.frame.now (record { key = sym c.key_of.ensures.is i; schema = sym c.schema_key.ensures.is i }) (laid c.args.frame.now c.args.current.now.attrs c.write_in-write.result.now)) ∙ c.in-Ok.ensures

pub returns-in-Err-Refused-clause-is : goal.returns-in-Err-Refused-clause-is
returns-in-Err-Refused-clause-is g c listed =
    let frame = c.args.frame.now in
    let current = c.args.current.now in
    let lays = rw c.in-Err-Refused.field-0-is at c.in-Err-Refused.ensures in
    let refused = refused_of frame (record { key = c.key_of.result; schema = c.schema_key.result }) (laid frame current.attrs c.write_in-write.result.now) c.in-Err-Refused.refusal lays in
    let ended = rw c.in-Err-Refused.field-0-is at c.refuse.ensures.is in
    ended ∙ ap (puts_cells (g.P.Pieces.codec) c.args.job.now frame current) (sym refused) ∙ ap (λ command. works (g.P.Pieces.codec) c.args.job.now command listed frame current) (sym c.write_in-write.ensures.is)
