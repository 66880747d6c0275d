use Rattle.std.proofs.Common.{◌≡◌, ◌++◌, drop}
use Rattle.ts_model.specs.Used.{used_attrs}
use Rattle.ts_reader.proofs.used.used_attrs.Given as goal

-- those so far, and those of the attributes from here on
abbrev pub invariant-loop-attr : goal.invariant-loop-attr
invariant-loop-attr l = l.used ++ used_attrs l.reading (drop l.attr-index l.attrs) ≡ used_attrs l.reading l.attrs
