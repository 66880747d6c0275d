use Rattle.std.proofs.Common.{◌≡◌, ◌++◌, take}
use Rattle.std.specs.List.{flat_map}
use Rattle.ts_footer.specs.Columns.{attr_forms}
use Rattle.ts_sparse_read.proofs.forms.push_attrs.Given as goal

-- the forms of the attributes so far
abbrev pub invariant-loop-attr : goal.invariant-loop-attr
invariant-loop-attr l = l.forms ≡ l.fn.forms ++ flat_map attr_forms (take l.attr-index l.attrs)
