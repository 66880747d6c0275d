-- The places of a list, one after another.
use Rattle.std.proofs.Common.{◌≡◌, ℕ, suc, ◌+◌, ◌-◌, ◌<◌, ◌≤◌, Bool, true, false, not, refl, List, [], ◌∷◌, ◌++◌, map, length, get_or, Some, None, sym, ap, ◌∙◌, arith}
use Rattle.std.specs.Prelude.{All, cond, filter}
use Rattle.std.specs.List.{range_with_len}
use Rattle.std.proofs.lemmas.List.{length-map, get_or-map, map-id, append-nil}
use Rattle.std.proofs.lemmas.List.Elements.{All-filter, All-head, All-tail}
use Rattle.std.proofs.lemmas.List.Filters.{length-filter_both}
use Rattle.std.proofs.lemmas.List.FromFn.{map-range_with_len_more, length-range_with_len, get_or-range_with_len, fill_by_all, filter_of_map_range_with_len_more}
use Rattle.ts_base.specs.declared.heads.Version.{Version}
use Rattle.ts_cond.specs.declared.fields.Pick.{Pick}
use Rattle.ts_cond.specs.Tests.{Condition}
use Rattle.ts_match.specs.Matching.{matches_at}
use Rattle.ts_table.specs.Tables.{no_version}
use Rattle.ts_select.specs.Cells.{cell_of, cell_at}
use Rattle.ts_select.specs.Places.{passes_at}

-- one place more passes, or not
passing_more : (passes : ℕ → Bool) (n : ℕ) → filter passes (range_with_len 0 (n + 1)) ≡ filter passes (range_with_len 0 n) ++ cond (passes n) (n ∷ []) []
passing_more passes n =
    ap (filter passes) (sym (map-id (range_with_len 0 (n + 1)))) ∙ filter_of_map_range_with_len_more passes (λ k. k) 0 n n (omega arith)
    ∙ ap (λ ks. filter passes ks ++ cond (passes n) (n ∷ []) []) (map-id (range_with_len 0 n))

pub passing_taken : (passes : ℕ → Bool) (n : ℕ) → passes n ≡ true → filter passes (range_with_len 0 (n + 1)) ≡ filter passes (range_with_len 0 n) ++ n ∷ []
passing_taken passes n here = passing_more passes n ∙ ap (λ t. filter passes (range_with_len 0 n) ++ cond t (n ∷ []) []) here

pub passing_left : (passes : ℕ → Bool) (n : ℕ) → passes n ≡ false → filter passes (range_with_len 0 (n + 1)) ≡ filter passes (range_with_len 0 n)
passing_left passes n here = passing_more passes n ∙ ap (λ t. filter passes (range_with_len 0 n) ++ cond t (n ∷ []) []) here ∙ append-nil (filter passes (range_with_len 0 n))

pub ruleset steps = (passing_taken, passing_left)

-- one place more
pub range_more : (n : ℕ) → range_with_len 0 (n + 1) ≡ range_with_len 0 n ++ n ∷ []
range_more n = sym (map-id (range_with_len 0 (n + 1))) ∙ map-range_with_len_more (λ (k : ℕ). k) 0 n n (omega arith) ∙ ap (λ ks. ks ++ n ∷ []) (map-id (range_with_len 0 n))

pub ruleset ranges = (range_more)

-- each place of a list lies within it
pub range_within : (n : ℕ) → All (λ place. place < n) (range_with_len 0 n)
range_within n k d below =
    let there : k < n = omega (arith, below, length-range_with_len 0 n) in
    omega (arith, there, get_or-range_with_len 0 n k d there)

pub passing_within : (passes : ℕ → Bool) (n : ℕ) → All (λ place. place < n) (filter passes (range_with_len 0 n))
passing_within passes n = All-filter passes (λ place. place < n) (range_with_len 0 n) (range_within n)

-- and there are no more than the list has
pub passing_few : (passes : ℕ → Bool) (n : ℕ) → length (filter passes (range_with_len 0 n)) ≤ n
passing_few passes n = omega (arith, length-filter_both passes (λ k. not (passes k)) (λ k. refl) (range_with_len 0 n), length-range_with_len 0 n)

-- the cells at all places are all cells
pub all_cells : (versions : List Version) → map (cell_at versions) (range_with_len 0 (length versions)) ≡ map cell_of versions
all_cells versions =
    sym (fill_by_all (cell_at versions) (map cell_of versions) (length versions) (cell_of no_version) (length-map versions cell_of) (λ k below. get_or-map cell_of versions k no_version (cell_of no_version) below))

-- the places from the one before on
pub place_before : (left n : ℕ) → 0 < left → left ≤ n → range_with_len (left - 1) (n - (left - 1)) ≡ (left - 1) ∷ range_with_len left (n - left)
place_before left n some within =
    let longer : n - (left - 1) ≡ suc (n - left) = omega arith in
    let next : left - 1 + 1 ≡ left = omega arith in
    ap (range_with_len (left - 1)) longer ∙ ap (λ k. (left - 1) ∷ range_with_len k (n - left)) next

-- two tests that agree on all items keep the same ones
filter_same : {A : Type 0} (p q : A → Bool) (xs : List A) → All (λ x. p x ≡ q x) xs → filter p xs ≡ filter q xs
filter_same p q [] same = refl
filter_same p q (x ∷ xs) same =
    (λ i. cond (All-head (λ x. p x ≡ q x) x xs same i) (x ∷ filter_same p q xs (All-tail (λ x. p x ≡ q x) x xs same) i) (filter_same p q xs (All-tail (λ x. p x ≡ q x) x xs same) i))

-- without a filter all places pass
pub passing_all : (picks : List Pick) (versions : List Version) (places : List ℕ) → places ≡ range_with_len 0 (length versions) → places ≡ filter (passes_at picks None versions) (range_with_len 0 (length versions))
passing_all picks versions places all = all ∙ sym (kept (range_with_len 0 (length versions)))
  where
    kept : (ks : List ℕ) → filter (λ (k : ℕ). true) ks ≡ ks
    kept [] = refl
    kept (k ∷ ks) = ap (λ js. k ∷ js) (kept ks)

-- the places that are found are those of the versions that match
pub passing_found : (picks : List Pick) (condition : Condition) (versions : List Version) (found : List Bool) (places : List ℕ) → found ≡ map (matches_at picks condition) versions
    → places ≡ filter (λ place. get_or found place false) (range_with_len 0 (length found)) → places ≡ filter (passes_at picks (Some condition) versions) (range_with_len 0 (length versions))
passing_found picks condition versions found places is at =
    let many : length found ≡ length versions = ap length is ∙ length-map versions (matches_at picks condition) in
    at ∙ ap (λ n. filter (λ place. get_or found place false) (range_with_len 0 n)) many
    ∙ filter_same (λ place. get_or found place false) (passes_at picks (Some condition) versions) (range_with_len 0 (length versions)) (λ k d below.
    let there : get_or (range_with_len 0 (length versions)) k d < length versions = range_within (length versions) k d below in
    ap (λ list. get_or list (get_or (range_with_len 0 (length versions)) k d) false) is ∙ get_or-map (matches_at picks condition) versions (get_or (range_with_len 0 (length versions)) k d) no_version false there)

pub ruleset passings = (passing_all, passing_found)
