-- Bounds are those of a box in an array.
use Rattle.std.proofs.Common.{◌≡◌, ℕ, suc, ◌+◌, ◌<◌, ◌≤◌, Bool, true, false, ◌&&◌, ℤ, pos, int_le, List, [], ◌∷◌, length, get_or, drop, refl, sym, ap, ◌∙◌, arith, nat_eq, ◌≢◌, le-leb, eq-eqb}
use Rattle.std.specs.List.{All, list_all}
use Rattle.std.proofs.lemmas.List.{drop_more, drop_all}
use Rattle.std.proofs.lemmas.List.Elements.{All-head, All-tail}
use Rattle.ts_base.specs.Values.{is_integer}
use Rattle.ts_domain.specs.declared.dims.Dim.{Dim}
use Rattle.ts_domain.specs.declared.boxes.SubBox.{SubBox}
use Rattle.ts_domain.specs.Bounds.{are_bounds}
use Rattle.ts_domain.specs.Dims.{IsDim, IsDomain}
use Rattle.ts_sparse_read.specs.Opens.{are_readable, is_box_in}

all_integers : (dims : List Dim) → All IsDim dims → list_all (λ d. is_integer d.ty) dims ≡ true
all_integers [] all = refl
all_integers (d ∷ dims) all =
    let here : is_integer d.ty ≡ true = (All-head IsDim d dims all).integer in
    ap (λ b. b && list_all (λ e. is_integer e.ty) dims) here ∙ all_integers dims (All-tail IsDim d dims all)

readable : (dims : List Dim) → IsDomain dims → are_readable dims ≡ true
readable dims is = ap (λ b. b && list_all (λ d. is_integer d.ty) dims) (le-leb 1 (length dims) is.some) ∙ all_integers dims is.valid

-- each array is one that can be read
pub domain_readable : (dims : List Dim) (sub : SubBox) → IsDomain dims → length sub.low ≡ length dims → is_box_in dims sub ≡ are_bounds sub.low sub.high
domain_readable dims sub is same =
    ap (λ b. b && (nat_eq (length sub.low) (length dims) && are_bounds sub.low sub.high)) (readable dims is)
    ∙ ap (λ b. b && are_bounds sub.low sub.high) (eq-eqb (length sub.low) (length dims) same)

pub other_dims : (dims : List Dim) (sub : SubBox) → IsDomain dims → nat_eq (length sub.low) (length dims) ≡ false → is_box_in dims sub ≡ false
other_dims dims sub is other =
    ap (λ b. b && (nat_eq (length sub.low) (length dims) && are_bounds sub.low sub.high)) (readable dims is)
    ∙ ap (λ b. b && are_bounds sub.low sub.high) other

-- ---- one dimension after another

pub bounds_uneven : (ls hs : List ℤ) → length ls ≢ length hs → are_bounds ls hs ≡ false
bounds_uneven [] [] other = absurd (other refl)
bounds_uneven [] (h ∷ hs) other = refl
bounds_uneven (l ∷ ls) [] other = refl
bounds_uneven (l ∷ ls) (h ∷ hs) other = go (int_le l h) (bounds_uneven ls hs (λ same. other (ap suc same)))
  where
    go : (b : Bool) → are_bounds ls hs ≡ false → (b && are_bounds ls hs) ≡ false
    go true e = e
    go false e = refl

bounds_next : (ls hs : List ℤ) (k : ℕ) → k < length ls → length ls ≡ length hs
    → are_bounds (drop k ls) (drop k hs) ≡ (int_le (get_or ls k (pos 0)) (get_or hs k (pos 0)) && are_bounds (drop (k + 1) ls) (drop (k + 1) hs))
bounds_next ls hs k within same =
    ap (λ xs. are_bounds xs (drop k hs)) (drop_more ls k (pos 0) within)
    ∙ ap (are_bounds (get_or ls k (pos 0) ∷ drop (k + 1) ls)) (drop_more hs k (pos 0) (omega (arith, within, same)))

pub bounds_on : (ls hs : List ℤ) (k : ℕ) → are_bounds (drop k ls) (drop k hs) ≡ are_bounds ls hs → k < length ls → length ls ≡ length hs → int_le (get_or ls k (pos 0)) (get_or hs k (pos 0)) ≡ true
    → are_bounds (drop (k + 1) ls) (drop (k + 1) hs) ≡ are_bounds ls hs
bounds_on ls hs k so within same fine =
    ap (λ b. b && are_bounds (drop (k + 1) ls) (drop (k + 1) hs)) (sym fine) ∙ sym (bounds_next ls hs k within same) ∙ so

pub bounds_here : (ls hs : List ℤ) (k : ℕ) → are_bounds (drop k ls) (drop k hs) ≡ are_bounds ls hs → k < length ls → length ls ≡ length hs → int_le (get_or ls k (pos 0)) (get_or hs k (pos 0)) ≡ false
    → are_bounds ls hs ≡ false
bounds_here ls hs k so within same above = sym so ∙ bounds_next ls hs k within same ∙ ap (λ b. b && are_bounds (drop (k + 1) ls) (drop (k + 1) hs)) above

pub bounds_end : (ls hs : List ℤ) (k : ℕ) → are_bounds (drop k ls) (drop k hs) ≡ are_bounds ls hs → length ls ≤ k → length ls ≡ length hs → are_bounds ls hs ≡ true
bounds_end ls hs k so over same = sym so ∙ ap (λ xs. are_bounds xs (drop k hs)) (drop_all k ls over) ∙ ap (are_bounds []) (drop_all k hs (omega (arith, over, same)))
