-- The lane of the line has one more.
use Rattle.std.proofs.Common.{◌≡◌, ◌++◌, ◌∷◌, [], length, refl}
use Rattle.std.specs.Prelude.{slice_set}
use Rattle.std.proofs.lemmas.Option.{slice_get_read}
use Rattle.ts_top.specs.Queues.{AreLaid}
use Rattle.ts_top.proofs.Queued.{laid_more, on_ok}
use Rattle.ts_top.proofs.queues.push_line.Goals as goal

pub returns : goal.returns
returns c = λ before are.
    let queues = c.args.queues.now.items in
    let line = c.args.line in
    let had = c.index_mut.result.now in
    let at = slice_get_read queues (length queues) line.lane had refl c.requires c.index_mut.ensures.value in
    on_ok c.push.result (c.push.new.self ≡ had ++ line ∷ []) (AreLaid (length queues) (before ++ line ∷ []) (slice_set queues line.lane c.push.new.self)) c.push.ensures (λ is. laid_more before queues line had c.push.new.self at is are)
