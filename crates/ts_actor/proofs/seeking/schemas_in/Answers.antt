-- One more name is looked at.
use Rattle.std.proofs.Common.{◌++◌, sym, ◌∙◌, ap, get_or}
use Rattle.std.specs.Prelude.{option_to_list}
use Rattle.ts_base.specs.declared.names.Name.TheVariants.{Domain}
use Rattle.ts_model.specs.States.{schema_key_in}
use Rattle.ts_actor.proofs.Collected.{filter_map-more}
use Rattle.ts_actor.proofs.seeking.schemas_in.Goals as goal

pub loop-name-preserved : goal.loop-name-preserved
loop-name-preserved c =
    c.in_ok-add_schema.ensures
    ∙ ap (λ keys. keys ++ option_to_list (schema_key_in (get_or c.args.names.now c.loop-name.name-index Domain))) c.loop-name.invariant
    ∙ sym (filter_map-more schema_key_in c.args.names.now c.loop-name.name-index Domain c.loop-name-test.true)
