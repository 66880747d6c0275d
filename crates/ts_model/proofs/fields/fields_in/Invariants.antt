use Rattle.std.proofs.Common.{◌≡◌, ◌++◌, drop, map, take}
use Rattle.ts_model.specs.Queries.{attr_field, dim_fields}
use Rattle.ts_model.proofs.fields.fields_in.Given as goal

-- the fields of the dimensions so far, and those of the dimensions from here on
abbrev pub invariant-loop-place : goal.invariant-loop-place
invariant-loop-place l = l.fields ++ dim_fields l.place (drop l.place l.frame.domain) ≡ dim_fields 0 l.frame.domain

-- the fields of the dimensions, and of the attributes so far
abbrev pub invariant-loop-attr : goal.invariant-loop-attr
invariant-loop-attr l = l.fields ≡ dim_fields 0 l.frame.domain ++ map attr_field (take l.attr-index l.schema.attrs)
