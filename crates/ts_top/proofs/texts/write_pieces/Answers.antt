-- Where a write fails, a front of the pieces was appended.
use Rattle.std.proofs.Common.{arith, ◌<◌, [], ◌++◌, ◌+◌, length, take, drop, subst, sym, ◌∙◌}
use Rattle.std.proofs.lemmas.List.{get_or_default}
use Rattle.std.specs.List.{flat_map}
use Rattle.ts_store.specs.Streams.{AppendsFront}
use Rattle.ts_top.proofs.Fronts.{around, front_behind, front_of_longer, on_err}
use Rattle.ts_top.proofs.texts.write_pieces.Goals as goal

pub returns-in_err-write_all-clause-front : goal.returns-in_err-write_all-clause-front
returns-in_err-write_all-clause-front g c =
    let pieces = c.args.pieces.now in
    let i = c.loop-piece.piece-index in
    let piece = c.as_slice.result.now in
    let there : c.loop-piece.piece-index < length c.args.pieces.now = omega (arith, c.loop-piece-test.true, c.loop-piece.auto.piece-index-end) in
    let old = g.K.Sink.contents c.args.sink.now in
    let new = g.K.Sink.contents c.write_all.new.sink in
    let front = front_behind old (g.K.Sink.contents c.loop-piece.sink) new (flat_map (λ p. p) (take i pieces)) piece c.loop-piece.invariant.0 c.in_err-write_all.ensures.front in
    on_err c.from_residual.result _ (subst (AppendsFront old new) (sym (around pieces i piece there (c.as_slice.ensures ∙ c.piece-item.is ∙ get_or_default pieces i c.piece-item.result [] there))) (front_of_longer old new (flat_map (λ p. p) (take i pieces) ++ piece) (flat_map (λ p. p) (drop (i + 1) pieces)) front))
