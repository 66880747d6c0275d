use Rattle.std.proofs.Common.{◌≡◌, drop}
use Rattle.ts_schema.specs.Attrs.{has_label}
use Rattle.ts_model.specs.Queries.{items_at}
use Rattle.ts_model.specs.Used.{field_names, shows_name}
use Rattle.ts_reader.proofs.used.shows_name.Given as goal

-- it is shown where one of the fields from here on has the name
abbrev pub invariant-loop-field : goal.invariant-loop-field
invariant-loop-field l = has_label (items_at (drop l.field l.reading.ready.fields) (field_names l.reading.frame.domain l.reading.current.attrs)) l.name ≡ shows_name l.reading l.name
