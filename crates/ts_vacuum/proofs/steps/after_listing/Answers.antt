-- The listing failed.
use Rattle.std.proofs.Common.{sym, ap, ◌∙◌, arith}
use Rattle.ts_model.specs.declared.states.State.TheVariants.{Over}
use Rattle.ts_model.specs.States.{end_by, listing_of, lists}
use Rattle.ts_vacuum.proofs.RemovalLaws.{no_names}
use Rattle.ts_vacuum.proofs.steps.after_listing.Goals as goal

pub returns-in_default : goal.returns-in_default
returns-in_default g c = record {
  is = ap Over (c.end_by.ensures ∙ ap (λ call. end_by call c.args.reply) c.listing_of.ensures.is) ∙ sym (no_names (listing_of c.args.command.now) (lists c.args.command.now) c.args.reply c.in_default.not-Names);
  may = tt;
  few = omega arith;
}
