-- A loop that reads dimensions, each added to those before it.
use Rattle.std.proofs.Common.{◌≡◌, ℕ, ◌+◌, ◌-◌, ◌<◌, ◌≤◌, List, [], ◌∷◌, ◌++◌, length, Ok, Err, refl, sym, ap, ◌∙◌, arith, length-append}
use Rattle.ts_wire.specs.Place.{Place, Read, ◌>>=◌, items_at}
use Rattle.ts_wire.proofs.Laws.{same_ok}
use Rattle.ts_wire.proofs.Loop.{with_front, items_on, items_stop, items_done, items_start}
use Rattle.ts_domain.specs.declared.dims.Dim.{Dim}
use Rattle.ts_schema.specs.FrameTexts.{dim_at, next_dim_at}

-- the dimensions with one more
abbrev next_of : List Dim → Dim × Place → Read (List Dim)
next_of front x = Ok (front ++ x.0 ∷ [], x.1)

-- what was added is a dimension that was read
pub record Added (front next : List Dim) (p q : Place) : Type 0 where
  pub dim : Dim
  pub was : dim_at front p ≡ Ok (dim, q)
  pub next_is : next ≡ front ++ dim ∷ []

added : (front next : List Dim) (p q : Place) → next_dim_at front p ≡ Ok (next, q) → Added front next p q
unfolding next_dim_at
added front next p q h = of (dim_at front p) refl h
  where
    of : (r : Read Dim) → dim_at front p ≡ r → (r >>= next_of front) ≡ Ok (next, q) → Added front next p q
    of (Ok x) was h =
        let same = same_ok (next_of front x) _ _ refl h in
        record { dim = x.0; was = was ∙ ap (λ q. Ok (x.0, q)) (ap (λ y. y.1) same); next_is = sym (ap (λ y. y.0) same) }
    of (Err at) was h = cc

broken : (front : List Dim) (p : Place) (at : ℕ) → next_dim_at front p ≡ Err at → dim_at front p ≡ Err at
unfolding next_dim_at
broken front p at h = of (dim_at front p) h
  where
    of : (r : Read Dim) → (r >>= next_of front) ≡ Err at → r ≡ Err at
    of (Ok x) h = cc
    of (Err here) h = cc

pub dims_on : (n i : ℕ) (front next : List Dim) (p q : Place) (all : Read (List Dim)) → i < n → next_dim_at front p ≡ Ok (next, q)
    → with_front front (items_at dim_at (n - i) front p) ≡ all → with_front next (items_at dim_at (n - (i + 1)) next q) ≡ all
dims_on n i front next p q all more h was =
    let a = added front next p q h in
    rw a.next_is (items_on dim_at n i front p q a.dim all more a.was was)

pub dims_first : (n : ℕ) (next : List Dim) (p q : Place) → 1 ≤ n → next_dim_at [] p ≡ Ok (next, q)
    → with_front next (items_at dim_at (n - 1) next q) ≡ items_at dim_at n [] p
dims_first n next p q some h = dims_on n 0 [] next p q _ (omega arith) h (items_start dim_at n p)

pub dims_stop : (n i : ℕ) (front : List Dim) (p : Place) (all : Read (List Dim)) → i < n
    → with_front front (items_at dim_at (n - i) front p) ≡ all → (at : ℕ) → next_dim_at front p ≡ Err at → all ≡ Err at
dims_stop n i front p all more was at h = items_stop dim_at n i front p all more was at (broken front p at h)

pub dims_first_stop : (n : ℕ) (p : Place) → 1 ≤ n → (at : ℕ) → next_dim_at [] p ≡ Err at → items_at dim_at n [] p ≡ Err at
dims_first_stop n p some at h = dims_stop n 0 [] p _ (omega arith) (items_start dim_at n p) at h

pub added_length : (front next : List Dim) (p q : Place) → next_dim_at front p ≡ Ok (next, q) → length next ≡ length front + 1
added_length front next p q h =
    let a = added front next p q h in
    ap length a.next_is ∙ length-append front (a.dim ∷ [])

pub ruleset dims_loop = (dims_on, dims_first, dims_stop, dims_first_stop, added_length, items_done)
