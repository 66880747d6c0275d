-- The fields of a frame are read exactly.
use Rattle.std.proofs.Common.{◌≡◌, ℕ, zero, suc, ◌+◌, ◌<◌, ◌≤◌, ◌^◌, ℤ, pos, negsuc, Bool, true, false, nat_le, nat_eq, int_le, int_lt, if◌then◌else◌, List, [], ◌∷◌, ◌++◌, length, Option, Some, None, refl, ap, ◌∙◌, arith, lit<, lit≤, length-append}
use Rattle.std.specs.Prelude.{IsTrue, option_map, neg_ℤ, nat_lt}
use Rattle.std.specs.List.{All}
use Rattle.std.specs.Option.{option_or}
use Rattle.std.proofs.lemmas.Int.{ints}
use Rattle.std.proofs.lemmas.Bool.Decides.{nat_tests}
use Rattle.std.proofs.lemmas.Bool.{and_parts, and_from, leb-true, le-leb}
use Rattle.std.proofs.lemmas.List.Elements.{All-nil, All-cons, All-head, All-tail}
use Rattle.ts_base.specs.Labels.{is_label}
use Rattle.ts_base.specs.Values.{is_integer, least_of}
use Rattle.ts_domain.specs.declared.dims.Dim.{Dim}
use Rattle.ts_domain.specs.declared.dims.DomainFault.{DomainFault}
use Rattle.ts_domain.specs.declared.dims.DomainFault.TheVariants.{TooManyDims, EmptyDim, BadExtent, PastType, DuplicateName}
use Rattle.ts_domain.specs.declared.orders.Order.{Order}
use Rattle.ts_domain.specs.declared.orders.Order.TheVariants.{Row, Col}
use Rattle.ts_domain.specs.Dims.{IsBound, IsDim, IsDomain, dim_fault, fault_behind}
use Rattle.ts_wire.specs.Exact.{Exact, InTurn}
use Rattle.ts_wire.specs.Numbers.{number_bytes, int_bytes, FitsInt}
use Rattle.ts_wire.specs.Fields.{label_bytes, sized_bytes}
use Rattle.ts_wire.proofs.Laws.{restated, mapped_exact, both_exact, ruled_exact, judged_exact, counted_exact}
use Rattle.ts_wire.proofs.Numbers.{number_exact, int_exact, length-number_bytes}
use Rattle.ts_wire.proofs.FieldLaws.{bool_exact, label_exact}
use Rattle.ts_schema.specs.SchemaTexts.{type_bytes}
use Rattle.ts_schema.specs.FrameTexts.{order_code, order_at, order_bytes, is_capacity, capacity_at, is_dim_count, dim_count_at, integer_type_at, is_bound, bound_at, dim_fields_at, place_of_fault, dim_broken, dim_at, dims_at, frame_at, dim_bytes, dims_bytes, frame_bytes, IsFrame}
use Rattle.ts_schema.proofs.SchemaLaws.{type_exact}
use Rattle.ts_schema.proofs.DimLemmas.{neither, no_fault}

-- ---- the fields

order_exact : Exact (λ (order : Order). Unit {0}) order_bytes order_at
unfolding order_bytes order_at
order_exact = mapped_exact (ruled_exact (λ code. nat_le code 1) (number_exact 1)) (record {
  there = λ code fits. (tt, there code (leb-true code 1 fits.1));
  back = λ order all. back order;
})
  where
    there : (code : ℕ) → code ≤ 1 → number_bytes 1 code ≡ number_bytes 1 (order_code (if nat_eq code 0 then Row else Col))
    there zero h = refl
    there (suc zero) h = refl
    there (suc (suc code)) h = absurd (omega arith)

    back : (order : Order) → (code : ℕ) × ((code < 256 ^ 1) × (nat_le code 1 ≡ true)) × ((if nat_eq code 0 then Row else Col) ≡ order) × (number_bytes 1 code ≡ number_bytes 1 (order_code order))
    back Row = (0, (lit< tt, refl), refl, refl)
    back Col = (1, (lit< tt, refl), refl, refl)

capacity_exact : Exact (λ capacity. (capacity < 256 ^ 4) × (is_capacity capacity ≡ true)) (number_bytes 4) capacity_at
unfolding capacity_at
capacity_exact = ruled_exact is_capacity (number_exact 4)

capacity_few : (capacity : ℕ) → is_capacity capacity ≡ true → capacity < 256 ^ 4
capacity_few capacity h = let parts = and_parts (nat_le 1 capacity) (nat_le capacity 1000000) h in let most = leb-true capacity 1000000 parts.1 in omega (arith, most)

dim_count_exact : Exact (λ count. (count < 256 ^ 1) × (is_dim_count count ≡ true)) (number_bytes 1) dim_count_at
unfolding dim_count_at
dim_count_exact = ruled_exact is_dim_count (number_exact 1)

dim_count_few : (count : ℕ) → is_dim_count count ≡ true → (1 ≤ count) × (count ≤ 8)
dim_count_few count h = let parts = and_parts (nat_le 1 count) (nat_le count 8) h in (leb-true 1 count parts.0, leb-true count 8 parts.1)

few_dim_count : (count : ℕ) → 1 ≤ count → count ≤ 8 → is_dim_count count ≡ true
few_dim_count count some few = and_from (nat_le 1 count) (nat_le count 8) (le-leb 1 count some) (le-leb count 8 few)

integer_type_exact : Exact (λ ty. Unit {0} × (is_integer ty ≡ true)) type_bytes integer_type_at
unfolding integer_type_at
integer_type_exact = ruled_exact is_integer type_exact

-- ---- bounds

bound_is : (z : ℤ) → is_bound z ≡ true → IsBound z
bound_is z h = let parts = and_parts (int_le (neg_ℤ (pos (2 ^ 64))) z) (int_le z (pos (2 ^ 64))) h in record { above = omega (arith, ints, parts.0); below = omega (arith, ints, parts.1) }

is_bound_of : (z : ℤ) → IsBound z → is_bound z ≡ true
is_bound_of z is = let above = is.above in let below = is.below in grind (arith, ints, nat_tests)

bound_fits : (z : ℤ) → IsBound z → FitsInt 16 true z
bound_fits (pos a) is = omega (arith, ints, is.below)
bound_fits (negsuc a) is = omega (arith, ints, is.above)

bound_exact : Exact IsBound (int_bytes 16) bound_at
unfolding bound_at
bound_exact = restated (ruled_exact is_bound (int_exact 16 true (lit≤ tt) (lit≤ tt))) (λ z fits. (bound_is z fits.1, refl)) (λ z is. (bound_fits z is, is_bound_of z is))

-- ---- dimensions

-- the name is a label, the type is one of integers, and the numbers are in range
abbrev HasFields : Dim → Type 0
HasFields d = IsTrue (is_label d.name) × IsDim d

dim_fields_exact : Exact HasFields dim_bytes dim_fields_at
unfolding dim_fields_at dim_bytes
dim_fields_exact = mapped_exact (both_exact label_exact (λ _ _. both_exact integer_type_exact (λ _ _. both_exact bound_exact (λ _ _. both_exact bound_exact (λ _ _. bound_exact))))) (record {
  there = λ x fits. ((fits.0, record { integer = fits.1.0.1; low = fits.1.1.0; high = fits.1.1.1.0; extent = fits.1.1.1.1 }), refl);
  back = λ d fits. ((d.name, (d.ty, (d.low, (d.high, d.extent)))), (fits.0, ((tt, fits.1.integer), (fits.1.low, (fits.1.high, fits.1.extent)))), refl, refl);
})

length-dim_bytes : (d : Dim) → length (dim_bytes d) ≡ length d.name + 50
unfolding dim_bytes label_bytes sized_bytes type_bytes int_bytes
length-dim_bytes d = simp (length-append, length-number_bytes) (omega arith)

place_near : (d : Dim) (fault : DomainFault) → place_of_fault d fault ≤ length d.name + 50
place_near d (TooManyDims n) = omega arith
place_near d (EmptyDim n) = omega arith
place_near d (BadExtent n) = omega arith
place_near d (PastType n) = near (int_lt d.low (least_of d.ty))
  where
    near : (b : Bool) → (if b then length d.name + 2 else length d.name + 34) ≤ length d.name + 50
    near true = omega arith
    near false = omega arith
place_near d (DuplicateName n) = omega arith

broken_near : (front : List Dim) (d : Dim) (far : ℕ) → HasFields d → dim_broken front d ≡ Some far → far ≤ length (dim_bytes d)
unfolding dim_broken
broken_near front d far fits h = near (dim_fault front d) h
  where
    some_same : (n far : ℕ) → Some n ≡ Some far → n ≡ far
    some_same n far h = cc

    near : (fault : Option DomainFault) → option_map (place_of_fault d) fault ≡ Some far → far ≤ length (dim_bytes d)
    near None h = cc
    near (Some fault) h = let place = place_near d fault in let long = length-dim_bytes d in let same = some_same (place_of_fault d fault) far h in omega (arith, place, long, same)

-- a dimension behind others: its fields are in range, and it has no fault
abbrev FitsDim : List Dim → Dim → Type 0
FitsDim front d = HasFields d × (dim_fault front d ≡ None)

dim_exact : (front : List Dim) → Exact (FitsDim front) dim_bytes (dim_at front)
unfolding dim_at dim_broken
dim_exact front = restated (judged_exact (dim_broken front) (broken_near front) dim_fields_exact) (λ d fits. ((fits.0, none_of d fits.1), refl)) (λ d fits. (fits.0, of_none d fits.1))
  where
    none_of : (d : Dim) → dim_broken front d ≡ None → dim_fault front d ≡ None
    none_of d h = none (dim_fault front d) h
      where
        none : (fault : Option DomainFault) → option_map (place_of_fault d) fault ≡ None → fault ≡ None
        none None h = refl
        none (Some fault) h = cc

    of_none : (d : Dim) → dim_fault front d ≡ None → dim_broken front d ≡ None
    of_none d h = ap (option_map (place_of_fault d)) h

-- the dimensions of a frame
abbrev AreDims : List Dim → Type 0
AreDims dims = All (λ (d : Dim). IsTrue (is_label d.name)) dims × IsDomain dims

in_turn : (front dims : List Dim) → All (λ (d : Dim). IsTrue (is_label d.name)) dims → All IsDim dims → fault_behind front dims ≡ None → InTurn FitsDim front dims
in_turn front [] labels valid none = tt
in_turn front (d ∷ ds) labels valid none =
    let parts = neither (dim_fault front d) (fault_behind (front ++ d ∷ []) ds) none in (
      ((All-head (λ d. IsTrue (is_label d.name)) d ds labels, All-head IsDim d ds valid), parts.0),
      in_turn (front ++ d ∷ []) ds (All-tail (λ d. IsTrue (is_label d.name)) d ds labels) (All-tail IsDim d ds valid) parts.1,
    )

record Turned (front dims : List Dim) : Type 0 where
  labels : All (λ (d : Dim). IsTrue (is_label d.name)) dims
  valid : All IsDim dims
  none : fault_behind front dims ≡ None

turned : (front dims : List Dim) → InTurn FitsDim front dims → Turned front dims
turned front [] fits = record { labels = All-nil (λ (d : Dim). IsTrue (is_label d.name)); valid = All-nil IsDim; none = refl }
turned front (d ∷ ds) fits =
    let rest = turned (front ++ d ∷ []) ds fits.1 in record {
      labels = All-cons (λ (d : Dim). IsTrue (is_label d.name)) d ds fits.0.0.0 rest.labels;
      valid = All-cons IsDim d ds fits.0.0.1 rest.valid;
      none = ap (λ o. option_or o (fault_behind (front ++ d ∷ []) ds)) fits.0.1 ∙ rest.none;
    }

dims_exact : Exact AreDims dims_bytes dims_at
unfolding dims_at dims_bytes
dims_exact = restated (counted_exact dim_count_exact dim_exact) (λ dims fits. (there dims fits.0.1 fits.1, refl)) back
  where
    there : (dims : List Dim) → is_dim_count (length dims) ≡ true → InTurn FitsDim [] dims → AreDims dims
    there dims count each =
        let t = turned [] dims each in
        let few = dim_count_few (length dims) count in
        let short : nat_lt 8 (length dims) ≡ false = grind (arith, few) in
        (t.labels, record { some = few.0; valid = t.valid; sound = rw short t.none })

    back : (dims : List Dim) → AreDims dims → ((length dims < 256 ^ 1) × (is_dim_count (length dims) ≡ true)) × InTurn FitsDim [] dims
    back dims are =
        let parts = no_fault (nat_lt 8 (length dims)) _ _ are.1.sound in
        let few : length dims ≤ 8 = grind (arith, parts.0) in
        ((omega (arith, few), few_dim_count (length dims) are.1.some few), in_turn [] dims are.0 are.1.valid parts.1)

-- ---- the frame

pub frame_exact : Exact IsFrame frame_bytes frame_at
unfolding frame_at frame_bytes
frame_exact = mapped_exact (both_exact bool_exact (λ _ _. both_exact order_exact (λ _ _. both_exact order_exact (λ _ _. both_exact capacity_exact (λ _ _. dims_exact))))) (record {
  there = λ x fits. (record { capacity = fits.1.1.1.0.1; labels = fits.1.1.1.1.0; domain = fits.1.1.1.1.1 }, refl);
  back = λ frame is. ((frame.dense, (frame.cell, (frame.tile, (frame.capacity, frame.domain)))), (tt, (tt, (tt, ((capacity_few frame.capacity is.capacity, is.capacity), (is.labels, is.domain))))), refl, refl);
})
