-- Steps of the loops that make generated lines, and that these lines can be.
use Rattle.std.proofs.Common.{rules, ◌≡◌, ℕ, zero, suc, ◌+◌, ◌-◌, ◌*◌, ◌%◌, ◌^◌, ◌<◌, ◌≤◌, pos, List, [], ◌∷◌, ◌++◌, codes, length, true, false, nat_lt, Some, refl, sym, ap, ◌∙◌, append_assoc, arith}
use Rattle.std.specs.List.{list_all, range_with_len}
use Rattle.std.proofs.lemmas.Bool.{and_from, lt-ltb}
use Rattle.std.proofs.lemmas.List.FromFn.{length-map-range_with_len}
use Rattle.ts_base.specs.declared.values.Val.{Val}
use Rattle.ts_base.specs.declared.values.Val.TheVariants.{Int}
use Rattle.ts_base.specs.Labels.{is_label}
use Rattle.ts_model.specs.declared.commands.Line.{Line}
use Rattle.ts_model.specs.Commands.{fits, is_spelled_col, is_spelled_val}
use Rattle.ts_script.specs.Generator.{batch, numbers_written, place_of, values_of, write_lines}
use Rattle.ts_script.specs.Words.{line_alone}

-- one value more
pub values_more : (number : ℕ → ℕ) (first i count : ℕ) (done whole : List Val) (val : Val) → i < count → val ≡ Int (pos (number (first + i)))
    → done ++ values_of number (range_with_len (first + i) (count - i)) ≡ whole → (done ++ val ∷ []) ++ values_of number (range_with_len (first + (i + 1)) (count - (i + 1))) ≡ whole
values_more number first i count done whole val lt is was =
    let left : count - i ≡ suc (count - (i + 1)) = omega (arith, lt) in
    let next : first + (i + 1) ≡ first + i + 1 = omega arith in
    append_assoc done (val ∷ []) _ ∙ ap (λ v. done ++ v ∷ values_of number (range_with_len (first + (i + 1)) (count - (i + 1)))) is
    ∙ ap (λ n. done ++ Int (pos (number (first + i))) ∷ values_of number (range_with_len n (count - (i + 1)))) next
    ∙ ap (λ n. done ++ values_of number (range_with_len (first + i) n)) (sym left) ∙ was

-- one write more
pub writes_more : (cells k count : ℕ) (done whole : List Line) (line : Line) → k < count → line ≡ line_alone (Some (k + 1)) false (numbers_written (batch cells k))
    → done ++ write_lines cells k (count - k) ≡ whole → (done ++ line ∷ []) ++ write_lines cells (k + 1) (count - (k + 1)) ≡ whole
writes_more cells k count done whole line lt is was =
    let left : count - k ≡ suc (count - (k + 1)) = omega (arith, lt) in
    append_assoc done (line ∷ []) _ ∙ ap (λ l. done ++ l ∷ write_lines cells (k + 1) (count - (k + 1))) is
    ∙ ap (λ n. done ++ write_lines cells k n) (sym left) ∙ was

-- a number of 64 bits has a spelling
number_spelled : (n : ℕ) → n < 2 ^ 64 → is_spelled_val (Int (pos n)) ≡ true
number_spelled n few = lt-ltb n (2 ^ 127) (omega (arith, few))

values_spelled : (number : ℕ → ℕ) (first count : ℕ) → ((i : ℕ) → i < first + count → number i < 2 ^ 64) → list_all is_spelled_val (values_of number (range_with_len first count)) ≡ true
values_spelled number first zero few = refl
values_spelled number first (suc count) few =
    and_from (is_spelled_val (Int (pos (number first)))) (list_all is_spelled_val (values_of number (range_with_len (first + 1) count))) (number_spelled (number first) (few first (omega arith)))
    (values_spelled number (first + 1) count (λ i less. few i (omega (arith, less))))

column_spelled : (name : List ℕ) (number : ℕ → ℕ) (first count : ℕ) → is_label name ≡ true → 1 ≤ count → count ≤ 100 → ((i : ℕ) → i < first + count → number i < 2 ^ 64)
    → is_spelled_col (record { name = name; values = values_of number (range_with_len first count) }) ≡ true
column_spelled name number first count label some most few =
    let values = values_of number (range_with_len first count) in
    let long : length values ≡ count = length-map-range_with_len (λ i. Int (pos (number i))) first count in
    let at_least : nat_lt 0 (length values) ≡ true = rw long (lt-ltb 0 count (omega (arith, some))) in
    let at_most : nat_lt (length values) (2 ^ 64) ≡ true = rw long (lt-ltb count (2 ^ 64) (omega (arith, most))) in
    and_from (is_label name) _ label (and_from (nat_lt 0 (length values)) _ at_least (and_from (nat_lt (length values) (2 ^ 64)) _ at_most (values_spelled number first count few)))

place_few : (i : ℕ) → place_of i < 2 ^ 64
place_few i = let below : i * 48271 % 10000 < 10000 = search rules in omega (arith, below)

-- a write of numbers is a command that there can be
pub writes_fit : (first count : ℕ) → 1 ≤ count → count ≤ 100 → first + count ≤ 100000 → fits (numbers_written (range_with_len first count)) ≡ true
writes_fit first count some most all =
    let v = column_spelled (codes "v") (λ i. i) first count refl some most (λ i less. omega (arith, less, all)) in
    let x = column_spelled (codes "x") place_of first count refl some most (λ i less. place_few i) in
    rw (v, x) refl
