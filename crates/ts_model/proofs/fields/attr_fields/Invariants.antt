use Rattle.std.proofs.Common.{◌≡◌, map, take}
use Rattle.ts_model.specs.Queries.{attr_field}
use Rattle.ts_model.proofs.fields.attr_fields.Given as goal

-- the fields of the attributes so far
abbrev pub invariant-loop-attr : goal.invariant-loop-attr
invariant-loop-attr l = l.fields ≡ map attr_field (take l.attr-index l.attrs)
