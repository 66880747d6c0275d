use Rattle.std.proofs.Common.{◌≡◌, rules}
use Rattle.ts_domain.specs.Dims.{IsDomain}
use Rattle.ts_domain.proofs.DomainLemmas.{IsDomainBuffer-written}
use Rattle.ts_domain.proofs.domain.Domain.of.Goals as goal

pub invariant_of-result : goal.invariant_of-result
invariant_of-result c =
    let dims = c.args.dims.now in
    let domain : IsDomain dims = record { some = c.requires.some; valid = c.requires.valid; sound = c.requires.sound } in
    let written : c.copy_from_slice.new.self ≡ dims = search rules in
    IsDomainBuffer-written dims c.copy_from_slice.new.self c.index-dims-0.result domain c.index-dims-0.is written
