use Rattle.std.proofs.Common.{◌∷◌, [], ◌++◌, ◌∙◌, sym, ap, arith, length}
use Rattle.std.proofs.iter.Next.{Yields-more}
use Rattle.std.specs.Vec.Iter.{into_iter_items, into_iter_steps}
use Rattle.ts_top.proofs.Gathered.{given_first, room_left}
use Rattle.ts_top.proofs.results.in_one.Goals as goal

pub push_all-requires : goal.push_all-requires
push_all-requires c =
    let start = c.into_iter-own-iterator.result in
    let front = c.loop-own.yielded in
    let own = c.in-Some.own in
    let more = Yields-more into_iter_steps start front c.loop-own.own-iterator own c.next.new.self c.loop-own.yielded_by c.in-Some.ensures.steps in
    let are = sym c.into_iter-own-iterator.ensures.into_iter_gives.0 ∙ given_first start (front ++ own ∷ []) c.next.new.self more in
    let left = room_left c.args.ends.items front (into_iter_items c.next.new.self) own are in
    let so_far = ap length c.loop-own.invariant.0 in
    record { room = omega (arith, left, so_far, c.loop-own.invariant.1, c.requires.room) }
