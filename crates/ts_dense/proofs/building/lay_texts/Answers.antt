-- The byte lists are those of the slots.
use Rattle.std.proofs.Common.{ap, ◌∙◌}
use Rattle.std.proofs.lemmas.Result.{on_ok_weaker}
use Rattle.ts_dense.proofs.SlotLays.{texts_laid}
use Rattle.ts_wire.specs.declared.kinds.Kind.TheVariants as kind
use Rattle.ts_wire.specs.Envelope.{wrapped}
use Rattle.ts_dense.proofs.building.lay_texts.Goals as goal

pub returns : goal.returns
returns c =
    on_ok_weaker c.lay-2.result
    (λ push. texts_laid c.args.laid.now c.lay.new.self c.lay-2.new.self c.args.place c.args.slots.now c.as_slice-counts.result.now c.in_ok-texts.texts c.in_ok-bytes.bytes c.in_ok-bytes-2.bytes c.as_slice.result.now
    c.as_slice-counts.ensures c.in_ok-texts.ensures c.in_ok-bytes.ensures c.in_ok-lay.ensures (c.in_ok-bytes-2.ensures ∙ ap (wrapped kind.Column) c.bytes.ensures) (c.as_slice.ensures ∙ c.in_ok-starts.ensures) push) c.lay-2.ensures
