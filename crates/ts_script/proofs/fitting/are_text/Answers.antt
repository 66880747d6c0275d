-- What the type of bytes says of them.
use Rattle.std.proofs.Common.{◌<◌, ◌^◌, length, arith}
use Rattle.ts_script.proofs.Typed.{text_typed}
use Rattle.ts_script.proofs.fitting.are_text.Goals as goal

pub returns : goal.returns
returns c =
    let bytes = c.args.bytes.now in
    let few : length bytes < 2 ^ 64 = omega arith in
    text_typed bytes few (λ i. omega (arith, c.type_inv.bytes i))
