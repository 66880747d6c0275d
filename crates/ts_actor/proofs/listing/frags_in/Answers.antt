-- One more name is looked at.
use Rattle.std.proofs.Common.{◌++◌, sym, ◌∙◌, ap, get_or}
use Rattle.std.specs.Prelude.{option_to_list}
use Rattle.ts_base.specs.declared.names.Name.TheVariants.{Domain}
use Rattle.ts_actor.specs.Listings.{frag_in}
use Rattle.ts_actor.proofs.Collected.{filter_map-more}
use Rattle.ts_actor.proofs.listing.frags_in.Goals as goal

pub loop-name-preserved : goal.loop-name-preserved
loop-name-preserved c =
    record {
      is =
          c.in_ok-add_frag.ensures.is
          ∙ ap (λ fs. fs ++ option_to_list (frag_in c.args.kind (get_or c.args.names.now c.loop-name.name-index Domain))) c.loop-name.invariant.is
          ∙ sym (filter_map-more (frag_in c.args.kind) c.args.names.now c.loop-name.name-index Domain c.loop-name-test.true);
      spelled = c.in_ok-add_frag.ensures.spelled;
    }
