use Rattle.std.proofs.Common.{◌≡◌, drop}
use Rattle.ts_model.specs.Used.{deletes_name}
use Rattle.ts_reader.proofs.used.deletes_name.Given as goal

-- it is named where one of the deletes from here on names it
abbrev pub invariant-loop-deletion : goal.invariant-loop-deletion
invariant-loop-deletion l = deletes_name (drop l.deletion-index l.erased) l.name ≡ deletes_name l.erased l.name
