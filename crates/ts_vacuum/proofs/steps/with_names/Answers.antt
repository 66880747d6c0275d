-- An unlock removes the leases that it found, which were listed.
use Rattle.std.proofs.Common.{sym, subst, ap, ◌∙◌}
use Rattle.std.specs.Prelude.{All}
use Rattle.std.proofs.lemmas.List.Elements.{All-filter}
use Rattle.ts_base.specs.Names.{IsSpelled}
use Rattle.ts_model.specs.declared.answers.Outcome.TheVariants.{Unlocked}
use Rattle.ts_model.specs.States.{is_unlocked, removing, unlocks}
use Rattle.ts_vacuum.proofs.RemovalLaws.{list_removing}
use Rattle.ts_vacuum.proofs.steps.with_names.Goals as goal

pub returns-in_ok-leases-in-Unlock-clause-is : goal.returns-in_ok-leases-in-Unlock-clause-is
returns-in_ok-leases-in-Unlock-clause-is g c =
    rw c.in-Unlock.is (c.remove.ensures.is ∙ ap (λ n. removing c.in_ok-leases-in-Unlock.leases 0 (Unlocked n)) c.len-count.ensures ∙ ap unlocks c.in_ok-leases-in-Unlock.ensures)

pub returns-in_ok-leases-in-Unlock-clause-may : goal.returns-in_ok-leases-in-Unlock-clause-may
returns-in_ok-leases-in-Unlock-clause-may g c =
    let leases = c.in_ok-leases-in-Unlock.leases in
    let spelled = subst (All IsSpelled) (sym c.in_ok-leases-in-Unlock.ensures) (All-filter (is_unlocked c.in-Unlock.seed c.in-Unlock.lane) IsSpelled c.args.names c.requires.names) in
    list_removing leases c.remove.result spelled c.remove.ensures.removes
