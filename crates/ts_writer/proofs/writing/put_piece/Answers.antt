use Rattle.std.proofs.Common.{subst, sym, ap, ◌∙◌}
use Rattle.ts_writer.proofs.Written.{laid_of, put_laid}
use Rattle.ts_model.specs.Jobs.{key_of}
use Rattle.ts_model.specs.Pieces.{IsOrdinary, IsClose}
use Rattle.ts_model.specs.Commands.{laid}
use Rattle.ts_model.proofs.LaidLaws.{written_close, written_ordinary}
use Rattle.ts_writer.proofs.writing.put_piece.Goals as goal

pub parts-requires : goal.parts-requires
parts-requires g c =
    let frame = c.args.frame.now in
    let attrs = c.args.current.now.attrs in
    let write = c.args.write.now in
    let is = laid_of frame (record { key = key_of c.args.job.now; schema = c.args.current.now.key }) (laid frame attrs write) c.args.piece c.requires.laid in
    let same = is.is in
    (g.met.P.Pieces.laws).ordinary _ _ _ tt
    (subst (IsOrdinary frame attrs) (sym same) (written_ordinary frame attrs (key_of c.args.job.now) c.args.current.now.key write is.cells c.requires.frame c.requires.attrs c.requires.key c.requires.schema c.requires.spelled is.laid))
    (subst IsClose (sym same) (written_close frame attrs (key_of c.args.job.now) c.args.current.now.key write is.cells c.requires.frame c.requires.spelled is.laid))

pub returns-clause-is : goal.returns-clause-is
returns-clause-is g c =
    let is = laid_of c.args.frame.now (record { key = key_of c.args.job.now; schema = c.args.current.now.key }) (laid c.args.frame.now c.args.current.now.attrs c.args.write.now) c.args.piece c.requires.laid in
    put_laid (g.P.Pieces.codec) c.args.job.now c.args.frame.now c.args.current.now (laid c.args.frame.now c.args.current.now.attrs c.args.write.now) c.args.piece c.frag_of-frag.result c.in_ok-parts.parts c.in_ok-objects.objects c.put.result
    is c.frag_of-frag.ensures.is c.in_ok-parts.ensures.is c.in_ok-objects.ensures.is c.put.ensures.is
