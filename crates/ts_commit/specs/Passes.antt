-- What the passes of a plan over the heads keep.
use Rattle.std.specs.Prelude.{◌-◌, ◌^◌, Bool, not, ◌&&◌, List, [], ◌∷◌, Option, Some, None, filter, length, min}
use Rattle.std.specs.BTreeSet.{contains}
use Rattle.std.specs.List.{sum_by}
use Rattle.ts_base.specs.Keys.{frag_cmp}
use Rattle.ts_base.specs.declared.heads.Head.{Head}
use Rattle.ts_commit.specs.declared.choices.Eligible.{Eligible}
use Rattle.ts_commit.specs.declared.hulls.Hull.{Hull}
use Rattle.ts_commit.specs.declared.totals.Total.{Total}
use Rattle.ts_commit.specs.Plans.{is_inside, low_of_all, high_of_all, origins_of_all}

-- the fragment is in the interval, and it is none of those that `.vac` objects name
abbrev pub passes : Eligible → Head → Bool
passes eligible head = is_inside eligible.from eligible.to head.frag && not (contains frag_cmp eligible.merged head.frag)

-- the eligible ones of the heads
abbrev pub passed : Eligible → List Head → List Head
passed eligible heads = filter (passes eligible) heads

-- the common hull of fragments, if there are any, of the kind of the first one
abbrev pub hull_of_all : List Head → Option Hull
hull_of_all [] = None
hull_of_all (head ∷ others) = Some (record { dense = head.dense; low = low_of_all head others; high = high_of_all head others })

-- what fragments come to, where a sum of cells is cut off at 2^64 - 1
abbrev pub total_of : List Head → Total
total_of heads = record {
  count = length heads;
  origins = origins_of_all heads;
  cells = min (sum_by (λ head. head.cells) heads) (2 ^ 64 - 1);
  hull = hull_of_all heads;
}
