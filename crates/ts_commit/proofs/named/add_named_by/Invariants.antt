-- What the `.vac` objects so far name that belong to one of the fragments.
use Rattle.std.proofs.Common.{◌≡◌, take}
use Rattle.std.specs.Prelude.{filter}
use Rattle.std.specs.BTreeSet.{contains}
use Rattle.std.specs.List.{flat_map}
use Rattle.ts_base.specs.Keys.{frag_cmp}
use Rattle.ts_commit.specs.Selections.{with_names}
use Rattle.ts_commit.proofs.named.add_named_by.Given as goal

abbrev pub invariant-loop-vac : goal.invariant-loop-vac
invariant-loop-vac l = l.named.keys ≡ with_names l.fn.named.keys (flat_map (λ v. v.names) (filter (λ v. contains frag_cmp l.frags v.frag) (take l.vac-index l.vacs)))
