-- Each line stands behind those of its lane.
use Rattle.std.proofs.Common.{◌≡◌, ◌<◌, ◌∷◌, [], ◌++◌, ◌∙◌, length, sym, subst}
use Rattle.std.proofs.iter.Next.{Yields-more}
use Rattle.std.specs.Vec.Iter.{into_iter_items, into_iter_steps}
use Rattle.ts_top.specs.Items.{lanes_in}
use Rattle.ts_top.specs.Queues.{AreLaid}
use Rattle.ts_top.proofs.Gathered.{given_first}
use Rattle.ts_top.proofs.Queued.{has_queue}
use Rattle.ts_top.proofs.queues.queues_of.Goals as goal

pub push_line-requires : goal.push_line-requires
push_line-requires c =
    let start = c.into_iter-line-iterator.result in
    let front = c.loop-line.yielded in
    let line = c.in-Some.line in
    let more = Yields-more into_iter_steps start front c.loop-line.line-iterator line c.next.new.self c.loop-line.yielded_by c.in-Some.ensures.steps in
    let are = sym c.into_vec-line-items.ensures ∙ sym c.into_iter-line-iterator.ensures.into_iter_gives.0 ∙ given_first start (front ++ line ∷ []) c.next.new.self more in
    subst (λ n. line.lane < n) (sym c.loop-line.invariant.count) (has_queue c.args.lines front (into_iter_items c.next.new.self) line are)

pub loop-line-preserved : goal.loop-line-preserved
loop-line-preserved c =
    let lanes = lanes_in c.args.lines in
    let queues = c.loop-line.queues.items in
    let same : length queues ≡ lanes = c.loop-line.invariant.count in
    let laid = c.in_ok-push_line.ensures c.loop-line.yielded (subst (λ n. AreLaid n c.loop-line.yielded queues) (sym same) c.loop-line.invariant) in
    subst (λ n. AreLaid n (c.loop-line.yielded ++ c.in-Some.line ∷ []) c.push_line.new.queues.items) same laid
