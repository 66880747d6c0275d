use Rattle.std.proofs.Common.{◌≡◌, ◌∙◌, ap, Some}
use Rattle.std.specs.Int.{to_be_bytes, from_be_bytes, w128}
use Rattle.uuid.specs.Text.{parsed}
use Rattle.uuid.proofs.RoundTrips.{parse_gives}
use Rattle.uuid.proofs.OrderLemmas.{from_be_bytes-to_be_bytes_16}
use Rattle.ts_base.proofs.Ids.{id_parses}
use Rattle.ts_base.proofs.parse.read_id.Goals as goal

pub returns-in-Ok : goal.returns-in-Ok
returns-in-Ok c = λ id fits is.
    let reads : Some (to_be_bytes w128 id) ≡ parsed c.args.text.now = id_parses id c.args.text.now is in
    let gives = parse_gives c.parse_str.result c.args.text.now (to_be_bytes w128 id) c.parse_str.ensures.ok c.parse_str.ensures.bytes reads in
    let bytes : c.in-Ok.id ≡ to_be_bytes w128 id = cc in
    c.as_u128.ensures ∙ ap (from_be_bytes w128) bytes ∙ from_be_bytes-to_be_bytes_16 id fits

pub returns-in-Err : goal.returns-in-Err
returns-in-Err c = λ id fits is.
    let reads : Some (to_be_bytes w128 id) ≡ parsed c.args.text.now = id_parses id c.args.text.now is in
    let gives = parse_gives c.parse_str.result c.args.text.now (to_be_bytes w128 id) c.parse_str.ensures.ok c.parse_str.ensures.bytes reads in
    cc
