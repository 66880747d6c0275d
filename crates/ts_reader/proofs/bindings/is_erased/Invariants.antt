use Rattle.std.proofs.Common.{◌≡◌, drop}
use Rattle.std.specs.List.{list_any}
use Rattle.ts_reader.specs.Deletes.{erases}
use Rattle.ts_reader.proofs.bindings.is_erased.Given as goal

-- the version is erased where one of the deletes from here on erases it
abbrev pub invariant-loop-place : goal.invariant-loop-place
invariant-loop-place l = list_any (erases (l.binding).attrs l.version) (drop l.place l.erased) ≡ list_any (erases (l.binding).attrs l.version) l.erased
