-- Worked rows: which fragments are usable, loaded, clipped, planned, merged and removed.
use Rattle.std.proofs.Common.{◌≡◌, ℕ, pos, Bool, true, false, List, [], ◌∷◌, refl}
use Rattle.ts_base.specs.declared.keys.Key.{Key}
use Rattle.ts_base.specs.declared.keys.FragKey.{FragKey}
use Rattle.ts_base.specs.declared.heads.Head.{Head}
use Rattle.ts_commit.specs.declared.vacs.VacOf.{VacOf}
use Rattle.ts_commit.specs.declared.vacs.Limits.{Limits}
use Rattle.ts_commit.specs.declared.vacs.Planned.TheVariants as planned
use Rattle.ts_commit.specs.Selections.{is_usable, usable, loaded, clipped_names, removal_set, names_merged}
use Rattle.ts_commit.specs.Plans.{plan_of, attributes_in}

abbrev key : ℕ → ℕ → Key
key t id = record { t = t; id = id }

abbrev frag : ℕ → ℕ → ℕ → FragKey
frag t1 t2 id = record { t1 = t1; t2 = t2; id = id; v = 1 }

-- a fragment of so many cells at the coordinates from one number to another, written in the schema of an identifier
abbrev head : Bool → FragKey → ℕ → ℕ → ℕ → List Key → Head
head dense f schema low high origins = record { frag = f; schema = key 0 schema; dense = dense; consolidated = false; low = pos low ∷ []; high = pos high ∷ []; cells = 2; origins = origins }

-- two writes, stamped 1 and 5, and what a consolidation merged them into
abbrev first : Bool → Head
first dense = head dense (frag 1 1 2) 1 0 1 (key 1 2 ∷ [])

abbrev second : Bool → Head
second dense = head dense (frag 5 5 3) 1 1 2 (key 5 3 ∷ [])

abbrev both : Bool → Head
both dense = head dense (frag 1 5 4) 1 0 2 (key 1 2 ∷ key 5 3 ∷ [])

abbrev all : Bool → List Head
all dense = first dense ∷ both dense ∷ second dense ∷ []

abbrev merged : List VacOf
merged = record { frag = frag 1 5 4; names = frag 1 1 2 ∷ frag 5 5 3 ∷ [] } ∷ []

abbrev limits : ℕ → Limits
limits max = record { min = 2; max = max }

-- ---- reads

-- a merged fragment of a dense array is not usable where the interval cuts its span, one of a sparse array is
dense_is_cut : is_usable 0 3 (both true) ≡ false
dense_is_cut = refl

sparse_is_cut : is_usable 0 3 (both false) ≡ true
sparse_is_cut = refl

-- a span that does not meet the interval is not usable, and nothing meets an empty interval
beside_the_interval : usable 2 4 (first false ∷ second false ∷ []) ≡ []
beside_the_interval = refl

empty_interval : usable 5 1 (all false) ≡ []
empty_interval = refl

-- a fragment that the `.vac` of a usable one names is not loaded
loads_merged : loaded 0 9 (all true) merged ≡ both true ∷ []
loads_merged = refl

-- a dense read that ends within the span loads the first write, and nothing is clipped
loads_first : loaded 0 3 (all true) merged ≡ first true ∷ []
loads_first = refl

clips_none : clipped_names 0 3 (all true) ≡ []
clips_none = refl

-- the same read of a sparse array loads the merged fragment
loads_cut : loaded 0 3 (all false) merged ≡ both false ∷ []
loads_cut = refl

-- once both writes are removed the dense read loads nothing, and the merged fragment is clipped
loads_nothing : loaded 0 3 (both true ∷ []) merged ≡ []
loads_nothing = refl

clips_merged : clipped_names 0 3 (both true ∷ []) ≡ frag 1 5 4 ∷ []
clips_merged = refl

-- ---- plans

-- two writes to a sparse array, stamped 1 and 2: a consolidation at 3 takes both, and where they are named by its `.vac` the next one has only the merged one
abbrev write : ℕ → ℕ → Head
write t id = head false (frag t t id) 1 t t (key t id ∷ [])

abbrev merged_writes : Head
merged_writes = head false (frag 1 2 4) 1 1 2 (key 1 2 ∷ key 2 3 ∷ [])

takes_two_writes : plan_of (write 1 2 ∷ write 2 3 ∷ []) [] (λ k. 1) 0 3 (limits 64) ≡ planned.Take (frag 1 1 2 ∷ frag 2 2 3 ∷ [])
takes_two_writes = refl

leaves_merged : plan_of (write 1 2 ∷ merged_writes ∷ write 2 3 ∷ []) (record { frag = frag 1 2 4; names = frag 1 1 2 ∷ frag 2 2 3 ∷ [] } ∷ []) (λ k. 1) 0 9 (limits 64) ≡ planned.Nothing 1
leaves_merged = refl

-- of one write there is nothing to merge
takes_nothing : plan_of (write 1 2 ∷ []) [] (λ k. 1) 0 9 (limits 64) ≡ planned.Nothing 1
takes_nothing = refl

-- two writes to a dense array whose boxes overlap
takes_both : plan_of (first true ∷ second true ∷ []) [] (λ k. 1) 0 6 (limits 64) ≡ planned.Take (frag 1 1 2 ∷ frag 5 5 3 ∷ [])
takes_both = refl

-- a fragment that ends behind the interval is not eligible, and in an empty interval none is
ends_behind : plan_of (all false) [] (λ k. 1) 0 4 (limits 64) ≡ planned.Nothing 1
ends_behind = refl

nothing_between : plan_of (all false) [] (λ k. 1) 9 0 (limits 64) ≡ planned.Nothing 0
nothing_between = refl

-- two writes of two schemas share none
two_schemas : plan_of (head false (frag 1 1 2) 1 5 5 [] ∷ head false (frag 6 6 4) 3 5 5 [] ∷ []) [] (λ k. 1) 0 7 (limits 64) ≡ planned.Nothing 2
two_schemas = refl

-- the first schema that two of the fragments share is taken, with as many fragments as may be
abbrev of : ℕ → ℕ → Head
of schema t = head false (frag t t t) schema 0 0 []

shares_schema : plan_of (of 7 1 ∷ of 8 2 ∷ of 9 3 ∷ of 9 4 ∷ of 8 5 ∷ of 8 6 ∷ []) [] (λ k. 1) 0 9 (limits 2) ≡ planned.Take (frag 2 2 2 ∷ frag 5 5 5 ∷ [])
shares_schema = refl

-- a fragment that a `.vac` names does not count for its schema
merged_counts_not : plan_of (of 7 1 ∷ of 7 2 ∷ of 8 3 ∷ of 8 4 ∷ []) (record { frag = frag 2 2 9; names = frag 2 2 2 ∷ [] } ∷ []) (λ k. 1) 0 9 (limits 64) ≡ planned.Take (frag 3 3 3 ∷ frag 4 4 4 ∷ [])
merged_counts_not = refl

-- where one fragment is enough one is taken, where none is enough still a schema is asked for, and where more are asked for than may be taken nothing is
one_is_enough : plan_of (of 7 1 ∷ of 8 2 ∷ of 8 3 ∷ []) [] (λ k. 1) 0 9 (record { min = 1; max = 64 }) ≡ planned.Take (frag 1 1 1 ∷ [])
one_is_enough = refl

none_is_no_plan : plan_of [] [] (λ k. 1) 0 9 (record { min = 0; max = 64 }) ≡ planned.Nothing 0
none_is_no_plan = refl

more_than_may_be : plan_of (of 7 1 ∷ of 7 2 ∷ of 7 3 ∷ []) [] (λ k. 1) 0 9 (record { min = 3; max = 2 }) ≡ planned.Nothing 3
more_than_may_be = refl

-- the weight of dense fragments is that of the common hull: 2^23 cells of one attribute are just not too many, one cell more is
just_light : plan_of (head true (frag 1 1 1) 7 1 1 [] ∷ head true (frag 2 2 2) 7 0x800000 0x800000 [] ∷ []) [] (λ k. 1) 0 9 (limits 64) ≡ planned.Take (frag 1 1 1 ∷ frag 2 2 2 ∷ [])
just_light = refl

too_heavy : plan_of (head true (frag 1 1 1) 7 0 0 [] ∷ head true (frag 2 2 2) 7 0x800000 0x800000 [] ∷ []) [] (λ k. 1) 0 9 (limits 64) ≡ planned.Nothing 2
too_heavy = refl

-- that of sparse ones is the sum, here of cells of three attributes
abbrev heavy : ℕ → ℕ → Head
heavy cells t = record (of 7 t) { cells = cells }

sum_is_light : plan_of (heavy 0x200000 1 ∷ heavy 0x200000 2 ∷ []) [] (λ k. 3) 0 9 (limits 64) ≡ planned.Take (frag 1 1 1 ∷ frag 2 2 2 ∷ [])
sum_is_light = refl

sum_is_heavy : plan_of (heavy 0x200000 1 ∷ heavy 0x200001 2 ∷ []) [] (λ k. 3) 0 9 (limits 64) ≡ planned.Nothing 2
sum_is_heavy = refl

-- what stands behind a fragment that is too heavy is not taken
stops_at_the_first : plan_of (heavy 1 1 ∷ heavy 1 2 ∷ heavy 0x800000 3 ∷ heavy 1 4 ∷ []) [] (λ k. 1) 0 9 (limits 64) ≡ planned.Take (frag 1 1 1 ∷ frag 2 2 2 ∷ [])
stops_at_the_first = refl

-- the number of attributes stands for the first head of the schema
finds_attributes : attributes_in (of 7 1 ∷ of 8 2 ∷ of 7 3 ∷ []) (5 ∷ 6 ∷ 5 ∷ []) (key 0 8) ≡ 6
finds_attributes = refl

-- ---- names

removes_each_once : removal_set (record { frag = frag 1 6 9; names = frag 5 5 3 ∷ frag 6 6 7 ∷ [] } ∷ merged) ≡ frag 1 1 2 ∷ frag 5 5 3 ∷ frag 6 6 7 ∷ []
removes_each_once = refl

-- the names of a consolidation are its sources and what these were merged of
merges_names : names_merged merged (frag 1 5 4 ∷ frag 6 6 7 ∷ []) ≡ frag 1 1 2 ∷ frag 1 5 4 ∷ frag 5 5 3 ∷ frag 6 6 7 ∷ []
merges_names = refl
