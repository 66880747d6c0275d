-- What a consolidation merges.
use Rattle.std.specs.Prelude.{◌≡◌, ℕ, ℤ, ◌+◌, ◌*◌, ◌^◌, ◌<◌, ◌≤◌, Bool, true, false, cond, not, ◌&&◌, List, [], ◌∷◌, ◌++◌, ◌⊎◌, Option, Some, None, Contains, filter, find, length, nat_le, nat_lt, map as list_map}
use Rattle.std.specs.List.{fold, sum_by}
use Rattle.std.specs.List.Sorted.{IsStrictlySortedBy}
use Rattle.std.specs.Option.{option_map}
use Rattle.ts_base.specs.declared.keys.Key.{Key}
use Rattle.ts_base.specs.declared.keys.FragKey.{FragKey}
use Rattle.ts_base.specs.declared.heads.Head.{Head}
use Rattle.ts_base.specs.Keys.{frag_cmp, key_eq}
use Rattle.ts_domain.specs.Bounds.{least_corner, greatest_corner, cells_between}
use Rattle.ts_commit.specs.declared.vacs.VacOf.{VacOf}
use Rattle.ts_commit.specs.declared.vacs.Limits.{Limits}
use Rattle.ts_commit.specs.declared.vacs.Planned.{Planned}
use Rattle.ts_commit.specs.declared.vacs.Planned.TheVariants as planned
use Rattle.ts_commit.specs.Selections.{is_merged}

-- ---- what may be merged

-- the fragment is in [a, b]: its least and its greatest timestamp are, both ends included
abbrev pub is_inside : ℕ → ℕ → FragKey → Bool
is_inside a b f = (nat_le a f.t1 && nat_le f.t1 b) && (nat_le a f.t2 && nat_le f.t2 b)

-- a committed fragment is eligible where it is in [from, to] and no `.vac` names it which counts
abbrev pub is_eligible : List VacOf → ℕ → ℕ → Head → Bool
is_eligible vacs from to head = is_inside from to head.frag && not (is_merged vacs head.frag)

-- the eligible ones of the committed fragments, in their order
abbrev pub eligible : List Head → List VacOf → ℕ → ℕ → List Head
eligible heads vacs from to = filter (is_eligible vacs from to) heads

-- those that are written in a schema
abbrev pub of_schema : Key → List Head → List Head
of_schema k heads = filter (λ head. key_eq head.schema k) heads

-- at least so many of all share the schema of the fragment, itself counted
abbrev pub is_shared : ℕ → List Head → Head → Bool
is_shared least all head = nat_le least (length (of_schema head.schema all))

-- the schema of the first fragment that shares its schema with at least so many
abbrev pub shared_schema : ℕ → List Head → Option Key
shared_schema least all = option_map (λ head. head.schema) (find (is_shared least all) all)

-- ---- the bounds

-- the corners of the common hull
abbrev pub low_of_all : Head → List Head → List ℤ
low_of_all head others = fold (λ low x. least_corner low x.low) head.low others

abbrev pub high_of_all : Head → List Head → List ℤ
high_of_all head others = fold (λ high x. greatest_corner high x.high) head.high others

-- the cells: the sum for sparse fragments, those of the common hull for dense ones
abbrev pub cells_of_all : List Head → ℕ
cells_of_all [] = 0
cells_of_all (head ∷ heads) = cond head.dense (cells_between (low_of_all head heads) (high_of_all head heads)) (sum_by (λ x. x.cells) (head ∷ heads))

-- the weight of fragments whose schema has so many attributes: each cell counts once for each attribute, and once for its place
abbrev pub weight : ℕ → List Head → ℕ
weight attributes heads = cells_of_all heads * (attributes + 1)

-- the origins of fragments, added up
abbrev pub origins_of_all : List Head → ℕ
origins_of_all heads = sum_by (λ head. length head.origins) heads

-- fragments may be merged together: they are at most so many, not too heavy, and their origins can be numbered by 32 bits
abbrev pub is_in_bounds : ℕ → Limits → List Head → Bool
is_in_bounds attributes limits heads = nat_le (length heads) limits.max && (nat_le (weight attributes heads) (2 ^ 24) && nat_lt (origins_of_all heads) (2 ^ 32))

-- ---- the plan

-- fragments are added in their order, up to the first that would pass a bound
abbrev pub taken_from : ℕ → Limits → List Head → List Head → List Head
taken_from attributes limits so_far [] = so_far
taken_from attributes limits so_far (head ∷ heads) = cond (is_in_bounds attributes limits (so_far ++ head ∷ [])) (taken_from attributes limits (so_far ++ head ∷ []) heads) so_far

-- the plan where so many fragments are eligible and these can be taken
abbrev pub plan_by : Limits → ℕ → List Head → Planned
plan_by limits count taken = cond (nat_le limits.min (length taken)) (planned.Take (list_map (λ head. head.frag) taken)) (planned.Nothing count)

-- the plan for the eligible fragments and the schema that enough of them share, if there is one
abbrev pub plan_in : (Key → ℕ) → Limits → List Head → Option Key → Planned
plan_in attributes limits all None = planned.Nothing (length all)
plan_in attributes limits all (Some k) = plan_by limits (length all) (taken_from (attributes k) limits [] (of_schema k all))

-- the plan of a consolidation, where `attributes` gives the number of attributes of a schema
abbrev pub plan_of : List Head → List VacOf → (Key → ℕ) → ℕ → ℕ → Limits → Planned
plan_of heads vacs attributes from to limits = plan_in attributes limits (eligible heads vacs from to) (shared_schema limits.min (eligible heads vacs from to))

-- the counts are, for each head, the number of attributes of its schema
abbrev pub AreAttributes : (Key → ℕ) → List Head → List ℕ → Type 0
AreAttributes attributes heads counts = list_map (λ head. attributes head.schema) heads ≡ counts

-- the number of attributes of a schema: that which stands for the first head of the schema
abbrev pub attributes_in : List Head → List ℕ → Key → ℕ
attributes_in (head ∷ heads) (count ∷ counts) k = cond (key_eq head.schema k) count (attributes_in heads counts k)
attributes_in _ _ k = 0

-- ---- the plan in words

-- the first fragment that shares its schema with at least so many of all is of this schema
pub record IsFirstShared (least : ℕ) (all : List Head) (k : Key) : Type 0 where
  pub before : List Head
  pub head : Head
  pub after : List Head
  pub split : all ≡ before ++ head ∷ after
  pub schema : head.schema ≡ k
  pub enough : least ≤ length (of_schema k all)
  pub fewer : (other : Head) → Contains before other → length (of_schema other.schema all) < least

-- fragments that can be taken: eligible ones of the one schema, in their order and with none left out in between, which keep the bounds together, and would not with the next one
pub record CanBeTaken (heads : List Head) (vacs : List VacOf) (attributes : Key → ℕ) (from to : ℕ) (limits : Limits) (k : Key) (taken : List Head) : Type 0 where
  pub schema : IsFirstShared limits.min (eligible heads vacs from to) k
  pub committed : (head : Head) → Contains taken head → Contains heads head
  pub inside : (head : Head) → Contains taken head → is_inside from to head.frag ≡ true
  pub unmerged : (head : Head) → Contains taken head → is_merged vacs head.frag ≡ false
  pub alike : (head : Head) → Contains taken head → head.schema ≡ k
  pub left : List Head
  pub first : of_schema k (eligible heads vacs from to) ≡ taken ++ left
  pub most : length taken ≤ limits.max
  pub light : weight (attributes k) taken ≤ 2 ^ 24
  pub origins : origins_of_all taken < 2 ^ 32
  pub full : (next : Head) (rest : List Head) → left ≡ next ∷ rest → is_in_bounds (attributes k) limits (taken ++ next ∷ []) ≡ false

-- a plan that takes fragments: all that can be taken, at least the least number; they ascend where the heads do
pub record Takes (heads : List Head) (vacs : List VacOf) (attributes : Key → ℕ) (from to : ℕ) (limits : Limits) (sources : List FragKey) : Type 0 where
  pub schema : Key
  pub taken : List Head
  pub named : sources ≡ list_map (λ head. head.frag) taken
  pub can : CanBeTaken heads vacs attributes from to limits schema taken
  pub least : limits.min ≤ length taken
  pub ascend : IsStrictlySortedBy frag_cmp (list_map (λ head. head.frag) heads) → IsStrictlySortedBy frag_cmp sources

-- fragments that can be taken, and are fewer than the least number
pub record CanTakeFew (heads : List Head) (vacs : List VacOf) (attributes : Key → ℕ) (from to : ℕ) (limits : Limits) : Type 0 where
  pub schema : Key
  pub taken : List Head
  pub can : CanBeTaken heads vacs attributes from to limits schema taken
  pub fewer : length taken < limits.min

-- a plan that takes nothing, and tells how many are eligible: too few share the schema of any of them, or too few can be taken
pub record TakesNothing (heads : List Head) (vacs : List VacOf) (attributes : Key → ℕ) (from to : ℕ) (limits : Limits) (count : ℕ) : Type 0 where
  pub counted : count ≡ length (eligible heads vacs from to)
  pub cause : ((head : Head) → Contains (eligible heads vacs from to) head → length (of_schema head.schema (eligible heads vacs from to)) < limits.min) ⊎ CanTakeFew heads vacs attributes from to limits

-- the plan takes fragments or nothing
abbrev pub IsPlan : List Head → List VacOf → (Key → ℕ) → ℕ → ℕ → Limits → Planned → Type 0
IsPlan heads vacs attributes from to limits (planned.Take sources) = Takes heads vacs attributes from to limits sources
IsPlan heads vacs attributes from to limits (planned.Nothing count) = TakesNothing heads vacs attributes from to limits count
