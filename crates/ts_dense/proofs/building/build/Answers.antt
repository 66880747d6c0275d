-- The versions in slots name their writes, and their values fit. The columns and the metadata are all parts.
use Rattle.std.proofs.Common.{◌≡◌, ap, ◌∙◌}
use Rattle.ts_base.specs.declared.heads.Head.{Head}
use Rattle.ts_sparse.specs.Laying.{with_objects, none_laid}
use Rattle.ts_wire.specs.declared.kinds.Kind.TheVariants as kind
use Rattle.ts_wire.specs.Envelope.{wrapped}
use Rattle.ts_dense.specs.Laying.{meta_with, slot_objects}
use Rattle.ts_dense.proofs.SlotFits.{slots_named, slots_fit}
use Rattle.ts_dense.proofs.PartLaws.{all_parts_built}
use Rattle.ts_dense.proofs.building.build.Goals as goal

pub lay_columns-requires-clause-fits : goal.lay_columns-requires-clause-fits
lay_columns-requires-clause-fits c =
    let frame = c.args.frame.now in
    let slots = c.in_ok-slots.slots in
    slots_fit frame c.args.schema.now.attrs c.args.piece.now slots c.in_ok-slots.ensures c.requires.fits

pub lay_columns-requires-clause-known : goal.lay_columns-requires-clause-known
lay_columns-requires-clause-known c =
    let frame = c.args.frame.now in
    let slots = c.in_ok-slots.slots in
    slots_named frame c.args.schema.now.attrs c.args.piece.now slots c.in_ok-slots.ensures c.requires.names

pub returns-clause-parts : goal.returns-clause-parts
returns-clause-parts c =
    let frame = c.args.frame.now in
    let attrs = c.args.schema.now.attrs in
    let slots = c.in_ok-slots.slots in
    let tiles = c.len-tiles.result in
    let sizes = c.as_slice.result.now in
    let head : c.head-head.result.now ≡ c.args.piece.now.head = c.head-head.ensures in
    all_parts_built frame attrs c.args.piece.now slots c.in_ok-slots.ensures tiles c.in_ok-laid.laid c.in_ok-bytes.bytes c.push.new.self c.len-tiles.ensures
    (c.in_ok-laid.ensures ∙ ap (λ (h : Head). with_objects none_laid (slot_objects attrs h.consolidated slots)) head)
    (c.in_ok-bytes.ensures.spelled ∙ ap (λ (h : Head). wrapped kind.Meta (meta_with h tiles sizes)) head ∙ ap (λ ns. wrapped kind.Meta (meta_with c.args.piece.now.head tiles ns)) c.as_slice.ensures) c.in_ok-push.ensures.ok
