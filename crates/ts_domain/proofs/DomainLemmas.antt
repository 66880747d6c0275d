-- What follows where dimensions have no fault, and where coordinates lie in a domain.
use Rattle.std.proofs.Common.{◌≡◌, ℕ, suc, ◌≤◌, Bool, true, false, ◌&&◌, cond, List, [], ◌∷◌, ◌++◌, length, get_or, take, drop, replicate, Option, Some, None, Result, Ok, Err, refl, sym, ap, ◌∙◌, arith, ℤ, pos, ◌+ℤ◌, ◌-ℤ◌}
use Rattle.std.specs.Prelude.{IsTrue, IsOk, int_le, int_lt, nat_lt}
use Rattle.std.specs.List.{All}
use Rattle.std.specs.Option.{option_or}
use Rattle.std.specs.Result.{result_err}
use Rattle.std.proofs.Math.Seq.{take-append_seam}
use Rattle.std.proofs.lemmas.Int.{ints}
use Rattle.std.proofs.lemmas.Bool.{and_parts, and_from, or_parts}
use Rattle.std.proofs.lemmas.List.Elements.{All-nil, All-cons, All-head, All-tail}
use Rattle.ts_base.specs.Values.{least_of, greatest_of}
use Rattle.ts_base.specs.Buffers.{pad, padded_is}
use Rattle.ts_domain.specs.declared.dims.Dim.{Dim}
use Rattle.ts_domain.specs.Dims.{IsDim, IsSoundDim, IsDomain, end_of_tiles, is_empty_dim, has_bad_extent, is_past_type, dim_fault, fault_behind}
use Rattle.ts_domain.specs.DomainBuffer.{padded, IsDomainBuffer}
use Rattle.ts_domain.specs.Domains.{is_in_domain, outside_dim, first_outside_from, first_bound_outside_from}

-- ---- no fault

-- no fault of a choice: the test failed, and there is none of the others
no_fault : {A : Type 0} (b : Bool) (x : A) (rest : Option A) → cond b (Some x) rest ≡ None → (b ≡ false) × (rest ≡ None)
no_fault true x rest e = cc
no_fault false x rest e = (refl, e)

neither : {A : Type 0} (a b : Option A) → option_or a b ≡ None → (a ≡ None) × (b ≡ None)
neither None b e = (refl, e)
neither (Some x) b e = cc

-- a dimension that has no fault behind others is sound
IsSoundDim-dim_fault : (earlier : List Dim) (d : Dim) → IsDim d → dim_fault earlier d ≡ None → IsSoundDim d
IsSoundDim-dim_fault earlier d valid none =
    let empty = no_fault (is_empty_dim d) _ _ none in
    let extent = no_fault (has_bad_extent d) _ _ empty.1 in
    let type_ends = no_fault (is_past_type d) _ _ extent.1 in
    let size = or_parts (int_lt d.extent (pos 1)) (int_lt (d.high -ℤ d.low +ℤ pos 1) d.extent) extent.0 in
    let ends = or_parts (int_lt d.low (least_of d.ty)) (int_lt (greatest_of d.ty) (end_of_tiles d)) type_ends.0 in
    record {
      valid = valid;
      ordered = omega (arith, ints, empty.0);
      some = omega (arith, ints, size.0);
      within = omega (arith, ints, size.1);
      from_least = omega (arith, ints, ends.0);
      to_greatest = omega (arith, ints, ends.1);
    }

All-fault_behind : (earlier dims : List Dim) → All IsDim dims → fault_behind earlier dims ≡ None → All IsSoundDim dims
All-fault_behind earlier [] valid none = All-nil IsSoundDim
All-fault_behind earlier (d ∷ ds) valid none =
    let parts = neither (dim_fault earlier d) (fault_behind (earlier ++ d ∷ []) ds) none in
    All-cons IsSoundDim d ds (IsSoundDim-dim_fault earlier d (All-head IsDim d ds valid) parts.0)
    (All-fault_behind (earlier ++ d ∷ []) ds (All-tail IsDim d ds valid) parts.1)

-- each dimension of a domain is sound
pub All-IsDomain : (dims : List Dim) → IsDomain dims → All IsSoundDim dims
All-IsDomain dims is = All-fault_behind [] dims is.valid (no_fault (nat_lt 8 (length dims)) _ _ is.sound).1

-- and there are at most 8
pub length-IsDomain : (dims : List Dim) → IsDomain dims → length dims ≤ 8
length-IsDomain dims is = let few = (no_fault (nat_lt 8 (length dims)) _ _ is.sound).0 in grind (arith, few)

-- ---- the buffer

pub padded-pad : (dims : List Dim) (d : Dim) → 1 ≤ length dims → d ≡ get_or dims 0 d → padded dims ≡ pad 8 d dims
padded-pad [] d some is = absurd (omega arith)
padded-pad (e ∷ es) d some is = ap (λ x. pad 8 x (e ∷ es)) (sym is)

-- dimensions written over a buffer of the first one
pub IsDomainBuffer-written : (dims written : List Dim) (d : Dim) → IsDomain dims → d ≡ get_or dims 0 d → written ≡ dims
    → IsDomainBuffer (record { dims = written ++ drop (length dims) (replicate 8 d); count = length dims })
IsDomainBuffer-written dims written d is first same =
    let room = length-IsDomain dims is in
    let buffer = padded_is 8 d dims written same room in
    let front : take (length dims) (written ++ drop (length dims) (replicate 8 d)) ≡ dims = rw same (take-append_seam dims (drop (length dims) (replicate 8 d))) in
    record {
      domain = rw front is;
      fits = room;
      used = buffer.used;
      rest = rw front (padded-pad dims d is.some first) ∙ sym (rw front at (sym buffer.rest));
    }

-- ---- inside and outside

-- a number lies in its dimension exactly where it is not outside
passed : {A : Type 0} (b : Bool) (x : A) → cond b None (Some x) ≡ None → b ≡ true
passed true x e = refl
passed false x e = cc

outside_dim-none : (place : ℕ) (d : Dim) (x : ℤ) → outside_dim place d x ≡ None → IsTrue (int_le d.low x && int_le x d.high)
outside_dim-none place d x none = passed (int_le d.low x && int_le x d.high) _ none

none-outside_dim : (place : ℕ) (d : Dim) (x : ℤ) → IsTrue (int_le d.low x && int_le x d.high) → outside_dim place d x ≡ None
none-outside_dim place d x inside = rw inside refl

pub is_in_domain-first_outside : (place : ℕ) (dims : List Dim) (xs : List ℤ) → length xs ≡ length dims → first_outside_from place dims xs ≡ None → IsTrue (is_in_domain dims xs)
is_in_domain-first_outside place [] [] e none = refl
is_in_domain-first_outside place [] (x ∷ xs) e none = cc
is_in_domain-first_outside place (d ∷ ds) [] e none = cc
is_in_domain-first_outside place (d ∷ ds) (x ∷ xs) e none =
    let parts = neither (outside_dim place d x) (first_outside_from (suc place) ds xs) none in
    and_from _ _ (outside_dim-none place d x parts.0) (is_in_domain-first_outside (suc place) ds xs (cc) parts.1)

pub first_outside-is_in_domain : (place : ℕ) (dims : List Dim) (xs : List ℤ) → IsTrue (is_in_domain dims xs) → first_outside_from place dims xs ≡ None
first_outside-is_in_domain place [] xs inside = refl
first_outside-is_in_domain place (d ∷ ds) [] inside = refl
first_outside-is_in_domain place (d ∷ ds) (x ∷ xs) inside =
    let parts = and_parts (int_le d.low x && int_le x d.high) (is_in_domain ds xs) inside in
    rw (none-outside_dim place d x parts.0) (first_outside-is_in_domain (suc place) ds xs parts.1)

-- the bounds of a box are outside exactly where one of its corners is
pub none-first_bound_outside : (place : ℕ) (dims : List Dim) (ls hs : List ℤ) → first_outside_from place dims ls ≡ None → first_outside_from place dims hs ≡ None → first_bound_outside_from place dims ls hs ≡ None
none-first_bound_outside place [] ls hs low high = refl
none-first_bound_outside place (d ∷ ds) [] hs low high = refl
none-first_bound_outside place (d ∷ ds) (l ∷ ls) [] low high = refl
none-first_bound_outside place (d ∷ ds) (l ∷ ls) (h ∷ hs) low high =
    let first = neither (outside_dim place d l) (first_outside_from (suc place) ds ls) low in
    let second = neither (outside_dim place d h) (first_outside_from (suc place) ds hs) high in
    rw (first.0, second.0) (none-first_bound_outside (suc place) ds ls hs first.1 second.1)

pub first_bound_outside-none : (place : ℕ) (dims : List Dim) (ls hs : List ℤ) → length hs ≡ length ls → first_bound_outside_from place dims ls hs ≡ None
    → (first_outside_from place dims ls ≡ None) × (first_outside_from place dims hs ≡ None)
first_bound_outside-none place [] ls hs e none = (refl, refl)
first_bound_outside-none place (d ∷ ds) [] [] e none = (refl, refl)
first_bound_outside-none place (d ∷ ds) [] (h ∷ hs) e none = cc
first_bound_outside-none place (d ∷ ds) (l ∷ ls) [] e none = cc
first_bound_outside-none place (d ∷ ds) (l ∷ ls) (h ∷ hs) e none =
    let first = neither (outside_dim place d l) _ none in
    let second = neither (outside_dim place d h) (first_bound_outside_from (suc place) ds ls hs) first.1 in
    let rest = first_bound_outside-none (suc place) ds ls hs (cc) second.1 in
    (rw first.0 rest.0, rw second.0 rest.1)

-- a result is Ok exactly where it has no error
pub IsOk-result_err : {A E : Type 0} (r : Result A E) → result_err r ≡ None → IsOk r
IsOk-result_err (Ok x) e = refl
IsOk-result_err (Err x) e = cc

pub result_err-IsOk : {A E : Type 0} (r : Result A E) → IsOk r → result_err r ≡ None
result_err-IsOk (Ok x) is = refl
result_err-IsOk (Err x) is = cc
