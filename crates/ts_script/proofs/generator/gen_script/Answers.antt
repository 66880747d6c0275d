use Rattle.std.proofs.Common.{◌≡◌, arith, length, refl}
use Rattle.ts_script.proofs.generator.gen_script.Goals as goal

pub returns-clause-limited : goal.returns-clause-limited
returns-clause-limited c =
    let first : length c.push.new.self.items ≡ 1 = rw (c.in_ok-push.ensures.items, c.new-lines.ensures.items) refl in
    rw c.from_vec.ensures (record {
      few = omega (arith, first, c.in_ok-push_writes.ensures.many, c.in_ok-push_closing.ensures.many, c.requires);
      fit = c.in_ok-push_closing.ensures.fit;
    })
