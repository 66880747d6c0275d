-- Full slots have the values of the versions.
use Rattle.std.proofs.Common.{map, sym, ap, ◌∙◌}
use Rattle.std.specs.List.{flat_map}
use Rattle.std.proofs.lemmas.Result.{IfOk-weaker}
use Rattle.ts_wire.specs.declared.kinds.Kind.TheVariants as kind
use Rattle.ts_wire.specs.Envelope.{wrapped}
use Rattle.ts_wire.specs.Fields.{bool_bytes}
use Rattle.ts_column.specs.Tiles.{is_there}
use Rattle.ts_dense.proofs.FullSlots.{full_values}
use Rattle.ts_dense.proofs.columns.validity_object.Goals as goal

pub returns-in-Full : goal.returns-in-Full
returns-in-Full c =
    IfOk-weaker c.validity_object.result _ _
    (λ bytes is. is ∙ ap (λ vals. wrapped kind.Column (flat_map bool_bytes (map is_there vals))) (sym (full_values c.args.slots.now c.in-Full.is c.args.attr))) c.validity_object.ensures
