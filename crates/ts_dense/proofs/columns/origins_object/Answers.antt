-- Full slots have the origins of the versions.
use Rattle.std.proofs.Common.{sym, ap, ◌∙◌}
use Rattle.std.specs.Prelude.{Option}
use Rattle.std.specs.List.{flat_map}
use Rattle.std.specs.Option.{IfSome}
use Rattle.std.proofs.lemmas.Result.{IfOk-weaker}
use Rattle.ts_base.specs.declared.heads.Version.{Version}
use Rattle.ts_wire.specs.declared.kinds.Kind.TheVariants as kind
use Rattle.ts_wire.specs.Envelope.{wrapped}
use Rattle.ts_wire.specs.Numbers.{number_bytes}
use Rattle.ts_plain.specs.Writes.{HasPlace}
use Rattle.ts_dense.proofs.FullSlots.{full_has, full_origins}
use Rattle.ts_dense.proofs.columns.origins_object.Goals as goal

pub origins_object-requires-clause-known : goal.origins_object-requires-clause-known
origins_object-requires-clause-known c =
    full_has c.args.slots.now c.in-Full.is (λ (slot : Option Version). IfSome slot (λ (v : Version). HasPlace c.args.slots.now.origins.now v.key)) c.requires.known

pub returns-in-Full : goal.returns-in-Full
returns-in-Full c =
    IfOk-weaker c.origins_object.result _ _
    (λ bytes is. is ∙ ap (λ is. wrapped kind.Column (flat_map (number_bytes 4) is)) (sym (full_origins c.args.slots.now c.in-Full.is c.args.slots.now.origins.now))) c.origins_object.ensures
