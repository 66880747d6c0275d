use Rattle.std.proofs.Common.{◌≡◌, ◌+◌, ◌-◌, ◌*◌, take, drop, ap, arith}
use Rattle.ts_footer.proofs.Sames.{same_on}
use Rattle.ts_footer.proofs.trees.read_same.Goals as goal

pub loop-place-preserved : goal.loop-place-preserved
loop-place-preserved c =
    let l = c.loop-place in
    let wide : 16 * l.place + 16 - 16 * l.place ≡ 16 = omega arith in
    same_on c.args.count l.place c.args.first.now c.args.second.now _ _ l.cursor _ _ c.loop-place-test.true
    (ap (λ n. take n (drop (16 * l.place) c.args.first.now)) wide) (ap (λ n. take n (drop (16 * l.place) c.args.second.now)) wide) l.invariant c.in-Ok.ensures
