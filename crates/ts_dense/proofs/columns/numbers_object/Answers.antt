-- Full slots have the integers of the versions.
use Rattle.std.proofs.Common.{map, sym, ap, ◌∙◌}
use Rattle.std.specs.Prelude.{Option}
use Rattle.std.specs.List.{flat_map}
use Rattle.std.proofs.lemmas.Result.{IfOk-weaker}
use Rattle.ts_base.specs.declared.heads.Version.{Version}
use Rattle.ts_base.specs.Values.{width_of}
use Rattle.ts_wire.specs.declared.kinds.Kind.TheVariants as kind
use Rattle.ts_wire.specs.Envelope.{wrapped}
use Rattle.ts_wire.specs.Numbers.{FitsInt, int_bytes}
use Rattle.ts_column.specs.Spelled.{number_of}
use Rattle.ts_column.specs.Tiles.{is_signed}
use Rattle.ts_dense.specs.Laying.{value_in}
use Rattle.ts_dense.proofs.FullSlots.{full_has, full_values}
use Rattle.ts_dense.proofs.columns.numbers_object.Goals as goal

pub numbers_object-requires-clause-fits : goal.numbers_object-requires-clause-fits
numbers_object-requires-clause-fits c =
    full_has c.args.slots.now c.in-Full.is (λ (slot : Option Version). FitsInt (width_of c.args.ty) (is_signed c.args.ty) (number_of (value_in c.args.attr slot))) c.requires.fits

pub returns-in-Full : goal.returns-in-Full
returns-in-Full c =
    IfOk-weaker c.numbers_object.result _ _
    (λ bytes is. is ∙ ap (λ vals. wrapped kind.Column (flat_map (int_bytes (width_of c.args.ty)) (map number_of vals))) (sym (full_values c.args.slots.now c.in-Full.is c.args.attr))) c.numbers_object.ensures
