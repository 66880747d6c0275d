-- What was read is what is spelled, by the law of conditions.
use Rattle.std.proofs.Common.{◌<◌, ◌^◌, length, arith, rules}
use Rattle.ts_wire.specs.declared.kinds.Kind.TheVariants as kind
use Rattle.ts_wire.proofs.Objects.{decoded_found, decoded_only, decoded_cut}
use Rattle.ts_cond.specs.CondTexts.{cond_of, cond_object}
use Rattle.ts_cond.proofs.ConditionLaws.{cond_exact}
use Rattle.ts_cond.proofs.cond.Cond.decode.Goals as goal

pub returns-clause-found : goal.returns-clause-found
unfolding cond_of cond_object
returns-clause-found c = decoded_found cond_exact (λ cond. cond) kind.Delete _ _ (λ i. omega (arith, c.type_inv.object i)) c.read_cond.ensures

pub returns-clause-only : goal.returns-clause-only
unfolding cond_of cond_object
returns-clause-only c cond is same =
    let few : length c.args.object.now < 2 ^ 64 = search rules in
    decoded_only cond_exact (λ cond. cond) kind.Delete _ _ few c.read_cond.ensures cond is same

pub returns-clause-cut : goal.returns-clause-cut
unfolding cond_of cond_object
returns-clause-cut c cond few cut = decoded_cut cond_exact (λ cond. cond) kind.Delete _ _ c.read_cond.ensures cond few cut
