-- Each byte list is written behind those so far, and in the end all are.
use Rattle.std.proofs.Common.{ap, ◌∙◌, arith}
use Rattle.std.proofs.lemmas.Result.{IfOk-weaker}
use Rattle.ts_wire.specs.declared.kinds.Kind.TheVariants as kind
use Rattle.ts_wire.specs.Envelope.{wrapped}
use Rattle.ts_sparse.proofs.SpotLaws.{text_next, text_last}
use Rattle.ts_sparse.proofs.text_objects.text_objects.Goals as goal

pub push-requires-clause-some : goal.push-requires-clause-some
push-requires-clause-some c = omega (arith, c.loop-spot.invariant.tile, c.requires.tile)

pub push-requires-clause-begun : goal.push-requires-clause-begun
push-requires-clause-begun c = omega (arith, c.loop-spot.invariant.begun)

pub loop-spot-preserved : goal.loop-spot-preserved
loop-spot-preserved c =
    text_next c.args.attr c.args.tile c.parts.result.batches.now c.parts.result.spots.now c.loop-spot.spot-index _ _ c.loop-spot.scribe _ c.loop-spot.invariant c.loop-spot-test.true c.text_at.ensures c.in_ok-push.ensures

pub returns : goal.returns
returns c =
    let all = text_last c.args.attr c.args.tile c.parts.result.batches.now c.parts.result.spots.now c.args.piece.now.versions c.loop-spot.spot-index c.loop-spot.scribe c.loop-spot.invariant c.loop-spot-test.false c.parts.ensures.versions in
    record {
      starts = IfOk-weaker c.into_objects.result _ _ (λ objects is. is ∙ ap (wrapped kind.Column) all.starts) c.into_objects.ensures.starts;
      bytes = IfOk-weaker c.into_objects.result _ _ (λ objects is. is ∙ ap (wrapped kind.Column) all.bytes) c.into_objects.ensures.bytes;
      tiles = IfOk-weaker c.into_objects.result _ _ (λ objects is. is ∙ all.tiles) c.into_objects.ensures.tiles;
    }
