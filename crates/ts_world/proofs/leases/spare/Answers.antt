-- The lease that the call would remove is live, or it is not.
use Rattle.std.proofs.Common.{sym, ◌∙◌, subst}
use Rattle.std.proofs.lemmas.Bool.{true≢false}
use Rattle.std.proofs.lemmas.Option.{same_Some}
use Rattle.ts_world.specs.Breaks.{IsLive}
use Rattle.ts_world.specs.Slots.{standings}
use Rattle.ts_world.proofs.LiveLeases.{live_from, live_to}
use Rattle.ts_world.proofs.leases.spare.Goals as goal

pub returns-then-is_live : goal.returns-then-is_live
returns-then-is_live g c = record {
  removes = sym c.in-Some.ensures;
  live = live_from c.args.jobs.now c.args.slots.now c.args.actor c.in-Some.lease (sym c.is_live.ensures ∙ c.if-is_live.true);
}

pub returns : goal.returns
returns g c = λ lease takes.
    let live = subst (IsLive c.args.jobs.now (standings c.args.slots.now) c.args.actor) (sym (same_Some c.in-Some.lease lease (c.in-Some.ensures ∙ takes.removes))) takes.live in
    true≢false (sym (live_to c.args.jobs.now c.args.slots.now c.args.actor c.in-Some.lease live) ∙ (sym c.is_live.ensures ∙ c.if-is_live.false))
