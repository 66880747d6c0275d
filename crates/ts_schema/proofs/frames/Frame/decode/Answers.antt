-- What was read is what is spelled, by the laws of frames.
use Rattle.std.proofs.Common.{◌<◌, ◌^◌, length, arith, rules}
use Rattle.ts_wire.specs.declared.kinds.Kind.TheVariants as kind
use Rattle.ts_wire.proofs.Objects.{plain_found, plain_only, plain_cut}
use Rattle.ts_schema.specs.FrameTexts.{frame_of, frame_object}
use Rattle.ts_schema.proofs.FrameLaws.{frame_exact}
use Rattle.ts_schema.proofs.frames.Frame.decode.Goals as goal

pub returns-clause-found : goal.returns-clause-found
unfolding frame_of frame_object
returns-clause-found c = plain_found frame_exact (λ frame. frame) kind.Domain _ _ (λ i. omega (arith, c.type_inv.object i)) c.read_frame.ensures

pub returns-clause-only : goal.returns-clause-only
unfolding frame_of frame_object
returns-clause-only c frame is same =
    let few : length c.args.object.now < 2 ^ 64 = search rules in
    plain_only frame_exact (λ frame. frame) kind.Domain _ _ few c.read_frame.ensures frame is same

pub returns-clause-cut : goal.returns-clause-cut
unfolding frame_of frame_object
returns-clause-cut c frame few cut = plain_cut frame_exact (λ frame. frame) kind.Domain _ _ c.read_frame.ensures frame few cut
