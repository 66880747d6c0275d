-- What is spelled is read again, since an object has fewer than 2 ^ 64 bytes.
use Rattle.std.proofs.Common.{◌<◌, ◌^◌, length, ap, ◌∙◌, arith}
use Rattle.ts_wire.specs.declared.kinds.Kind.TheVariants as kind
use Rattle.ts_wire.proofs.Objects.{object_only, length-wrapped}
use Rattle.ts_cond.specs.CondTexts.{cond_bytes, cond_of, cond_object}
use Rattle.ts_cond.proofs.ConditionLaws.{cond_exact}
use Rattle.ts_cond.proofs.cond.Cond.encode.Goals as goal

pub returns-clause-again : goal.returns-clause-again
unfolding cond_of cond_object
returns-clause-again c is =
    let same = c.in_ok-object.ensures in
    let few : length (cond_bytes c.args.self.now) < 2 ^ 64 = omega (arith, c.has_length.ensures, ap length same, length-wrapped kind.Delete (cond_bytes c.args.self.now)) in
    ap cond_of same ∙ object_only cond_exact kind.Delete c.args.self.now few is
