-- What was read as fields are few fields.
use Rattle.std.proofs.Common.{length, subst}
use Rattle.ts_wire.specs.Exact.{IsBytes}
use Rattle.ts_cond.proofs.CondLaws.{few_fields, fields_exact}
use Rattle.ts_cond.proofs.cond_reading.read_body.Goals as goal

pub read_tree-requires : goal.read_tree-requires
read_tree-requires c =
    let bytes : IsBytes c.args.cursor.now.rest = subst IsBytes c.rest.ensures c.has_bytes.ensures in
    let are = (fields_exact.takes c.args.cursor.now (c.in_ok-fields.fields, c.read_fields.new.cursor) bytes c.in_ok-fields.ensures).1 in
    few_fields (length c.in_ok-fields.fields) are.count
