-- The `.vac` objects so far whose fragments are not in the set.
use Rattle.std.proofs.Common.{◌≡◌, ◌++◌, map, not, take}
use Rattle.std.specs.Prelude.{filter}
use Rattle.std.specs.BTreeSet.{contains}
use Rattle.ts_base.specs.Keys.{frag_cmp}
use Rattle.ts_model.specs.States.{vac_of}
use Rattle.ts_vacuum.proofs.removed.add_vacs_beside.Given as goal

abbrev pub invariant-loop-vac : goal.invariant-loop-vac
invariant-loop-vac l = l.names ≡ l.fn.names ++ map (λ v. vac_of v.frag) (filter (λ v. not (contains frag_cmp l.gone v.frag)) (take l.vac-index l.vacs))
