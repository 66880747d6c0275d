use Rattle.std.proofs.Common.{◌≡◌, ◌*◌, ◌+◌, length, get_or, arith, ◌∙◌, sym, refl}
use Rattle.std.specs.Prelude.{◌%◌}
use Rattle.ts_model.proofs.BlobDigits.{blob_more, blob_odd}
use Rattle.ts_model.proofs.blobs.blob_bytes.Goals as goal

pub loop-pair-preserved : goal.loop-pair-preserved
loop-pair-preserved c =
    let text = c.args.text.now in
    let pair = c.loop-pair.pair in
    rw c.in_ok-push-in-Some.ensures.ok
    (blob_more text c.loop-pair.bytes pair (get_or text (2 * pair) 0) (get_or text (2 * pair + 1) 0) _ c.loop-pair-test.true refl refl c.loop-pair.invariant c.in-Some.byte (sym c.byte_of.ensures ∙ c.in-Some.is))

pub returns-else-text-eq0 : goal.returns-else-text-eq0
returns-else-text-eq0 c =
    let text = c.args.text.now in
    let other = c.if-text-eq0.false in
    let odd : length text % 2 ≡ 1 = omega (arith, other) in
    blob_odd text c.loop-pair.bytes c.loop-pair.pair _ c.loop-pair-test.false c.loop-pair.auto.pair-end odd c.loop-pair.invariant
