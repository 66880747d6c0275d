-- The lines of a script in lane order: the place that a lane's command has among all.
use Rattle.std.proofs.Common.{◌≡◌, ℕ, zero, suc, ◌+◌, ◌-◌, ◌<◌, ◌≤◌, inl, inr, nat_eq, List, [], ◌∷◌, ◌++◌, Some, length, refl, sym, ◌∙◌, ap, subst, arith, cond}
use Rattle.std.specs.Prelude.{All, flat_map, slice_get}
use Rattle.std.proofs.lemmas.Bool.{cond_both, eqb-true, ne_eqb}
use Rattle.std.proofs.lemmas.Option.{same_Some, none-some, slice_get_cases, slice_get_within}
use Rattle.std.proofs.lemmas.List.Elements.{All-head, All-tail, All-weaker}
use Rattle.ts_model.specs.declared.commands.Line.{Line}
use Rattle.ts_law.specs.Fresh.{Numbered, lines_in, by_lanes, in_lane_order, lane_of, lanes_of}
use Rattle.ts_lanes.specs.Commands.{IsCommand}
use Rattle.ts_lanes.specs.Together.{Numbers}
use Rattle.ts_top.specs.Crews.{count_of, item_of}
use Rattle.ts_top.proofs.Rows.{before, rows_length, row_at, place_in_row}

-- ---- the lines of one lane

-- a line among those of a lane is one of the lane, with the number of its place
pub line_in : (lane number : ℕ) (lines : List Line) (i : ℕ) (item : Numbered) → slice_get (lines_in lane number lines) i ≡ Some item → ((item.line).lane ≡ lane) × (item.number ≡ number + i)
line_in lane number [] i item at = absurd (none-some item at)
line_in lane number (line ∷ lines) i item at =
    let own : Numbered = record { number = number; line = line } in
    cond_both (nat_eq line.lane lane) (own ∷ lines_in lane (number + 1) lines) (lines_in lane number lines)
    (λ xs. slice_get xs i ≡ Some item → ((item.line).lane ≡ lane) × (item.number ≡ number + i))
    (λ is here. own_or_later (eqb-true line.lane lane is) (line_in lane (number + 1) lines) i here)
    (λ is later. line_in lane number lines i item later) at
  where
    own_or_later : line.lane ≡ lane → ((i : ℕ) (item : Numbered) → slice_get (lines_in lane (number + 1) lines) i ≡ Some item → ((item.line).lane ≡ lane) × (item.number ≡ number + 1 + i)) → (i : ℕ) → slice_get (record { number = number; line = line } ∷ lines_in lane (number + 1) lines) i ≡ Some item → ((item.line).lane ≡ lane) × (item.number ≡ number + i)
    own_or_later is rest zero here =
        let same = same_Some (record { number = number; line = line }) item here in
        (sym (ap (λ (x : Numbered). (x.line).lane) same) ∙ is, let numbers : number ≡ item.number = ap (λ (x : Numbered). x.number) same in omega (arith, numbers))
    own_or_later is rest (suc k) later = let (own, numbers) = rest k item later in (own, omega (arith, numbers))

-- where each line's lane is a lower one, the lane has none
none_in : (lane number : ℕ) (lines : List Line) → All (λ line. line.lane < lane) lines → lines_in lane number lines ≡ []
none_in lane number [] lower = refl
none_in lane number (line ∷ lines) lower =
    let less = All-head (λ (l : Line). l.lane < lane) line lines lower in
    ap (λ t. cond t (record { number = number; line = line } ∷ lines_in lane (number + 1) lines) (lines_in lane number lines)) (ne_eqb line.lane lane (λ same. omega (arith, less, same)))
    ∙ none_in lane number lines (All-tail (λ (l : Line). l.lane < lane) line lines lower)

-- ---- the lines of lanes, one row a lane

-- the lanes from one on that come after each line's have no line
none_from : (count lane : ℕ) (lines : List Line) → All (λ line. line.lane < lane) lines → by_lanes count lane lines ≡ []
none_from zero lane lines lower = refl
none_from (suc count) lane lines lower =
    ap (λ xs. xs ++ by_lanes count (lane + 1) lines) (none_in lane 1 lines lower)
    ∙ none_from count (lane + 1) lines (All-weaker (λ (l : Line). l.lane < lane) (λ (l : Line). l.lane < lane + 1) (λ l less. omega (arith, less)) lines lower)

-- so fewer lanes have the same lines
fewer_lanes : (most count lane : ℕ) (lines : List Line) → count ≤ most → All (λ line. line.lane < lane + count) lines → by_lanes most lane lines ≡ by_lanes count lane lines
fewer_lanes most zero lane lines few lower = none_from most lane lines (All-weaker (λ (l : Line). l.lane < lane + 0) (λ (l : Line). l.lane < lane) (λ l less. omega (arith, less)) lines lower)
fewer_lanes zero (suc count) lane lines few lower = absurd (omega (arith, few))
fewer_lanes (suc most) (suc count) lane lines few lower =
    ap (λ xs. lines_in lane 1 lines ++ xs)
    (fewer_lanes most count (lane + 1) lines (omega (arith, few)) (All-weaker (λ (l : Line). l.lane < lane + suc count) (λ (l : Line). l.lane < lane + 1 + count) (λ l less. omega (arith, less)) lines lower))

-- the lines of each of so many lanes from one on
abbrev rows_of : ℕ → ℕ → List Line → List (List Numbered)
rows_of zero lane lines = []
rows_of (suc count) lane lines = lines_in lane 1 lines ∷ rows_of count (lane + 1) lines

rows_many : (count lane : ℕ) (lines : List Line) → length (rows_of count lane lines) ≡ count
rows_many zero lane lines = refl
rows_many (suc count) lane lines = ap suc (rows_many count (lane + 1) lines)

row_there : (count lane : ℕ) (lines : List Line) (i : ℕ) → i < count → slice_get (rows_of count lane lines) i ≡ Some (lines_in (lane + i) 1 lines)
row_there zero lane lines i less = absurd (omega (arith, less))
row_there (suc count) lane lines zero less = ap (λ k. Some (lines_in k 1 lines)) (let none : lane ≡ lane + 0 = omega arith in none)
row_there (suc count) lane lines (suc i) less =
    let next : lane + 1 + i ≡ lane + suc i = omega arith in
    row_there count (lane + 1) lines i (omega (arith, less)) ∙ ap (λ k. Some (lines_in k 1 lines)) next

by_rows : (count lane : ℕ) (lines : List Line) → by_lanes count lane lines ≡ flat_map (λ row. row) (rows_of count lane lines)
by_rows zero lane lines = refl
by_rows (suc count) lane lines = ap (λ xs. lines_in lane 1 lines ++ xs) (by_rows count (lane + 1) lines)

-- ---- the numbers of the commands

-- the number that a lane's command has among all: behind the commands of the lower lanes, and those of its own lane before it
abbrev pub index : List Line → ℕ → ℕ → ℕ
index lines lane number = before (count_of lines) lane + (number - 1)

module _ (lanes : ℕ) (lines : List Line) (few : lanes ≤ 8) (within : All (λ line. line.lane < lanes) lines) where
  -- the rows of the lanes
  abbrev rows : List (List Numbered)
  rows = rows_of lanes 0 lines

  in_rows : in_lane_order lines ≡ flat_map (λ row. row) rows
  in_rows = fewer_lanes 8 lanes 0 lines few (All-weaker (λ (l : Line). l.lane < lanes) (λ (l : Line). l.lane < 0 + lanes) (λ l less. omega (arith, less)) lines within) ∙ by_rows lanes 0 lines

  row_is : (lane : ℕ) → lane < lanes → slice_get rows lane ≡ Some (lines_in lane 1 lines)
  row_is lane less = let same : 0 + lane ≡ lane = omega arith in row_there lanes 0 lines lane less ∙ ap (λ k. Some (lines_in k 1 lines)) same

  counted : (lane : ℕ) (row : List Numbered) → slice_get rows lane ≡ Some row → length row ≡ count_of lines lane
  counted lane row at =
      let many = rows_many lanes 0 lines in
      let less : lane < lanes = let there = slice_get_within rows lane row at in omega (arith, there, many) in
      ap length (same_Some row (lines_in lane 1 lines) (sym at ∙ row_is lane less))

  -- all lines are as many as the lanes have together
  pub lines_length : length (in_lane_order lines) ≡ before (count_of lines) lanes
  lines_length = ap length in_rows ∙ rows_length (λ row. row) (count_of lines) rows counted ∙ ap (before (count_of lines)) (rows_many lanes 0 lines)

  -- at the number of a command stands its line
  pub item_at : (lane number : ℕ) → IsCommand lanes (count_of lines) lane number → slice_get (in_lane_order lines) (index lines lane number) ≡ item_of lines lane number
  item_at lane number (less, from, to) =
      ap (λ xs. slice_get xs (index lines lane number)) in_rows ∙ row_at (λ row. row) (count_of lines) rows lane (lines_in lane 1 lines) (number - 1) counted (row_is lane less) (omega (arith, from, to))

  -- there is one, which is of the lane and has the number
  pub item_there : (lane number : ℕ) → IsCommand lanes (count_of lines) lane number → (item : Numbered) × (item_of lines lane number ≡ Some item) × ((item.line).lane ≡ lane) × (item.number ≡ number)
  item_there lane number (less, from, to) = elim (slice_get_cases (lines_in lane 1 lines) (number - 1)).1 [
    | inl there ↦
        let (own, numbers) = line_in lane 1 lines (number - 1) there.0 there.2 in
        (there.0, there.2, own, omega (arith, numbers, from))
    | inr past ↦ absurd (omega (arith, past.0, from, to))
  ]

  -- each place among all is the number of a command
  pub command_at : (k : ℕ) → k < length (in_lane_order lines) → (lane : ℕ) × (number : ℕ) × IsCommand lanes (count_of lines) lane number × (k ≡ index lines lane number)
  command_at k less =
      let (lane, row, j, at, inside, same) = place_in_row (λ row. row) (count_of lines) rows k counted (subst (λ n. k < n) (ap length in_rows) less) in
      let there = slice_get_within rows lane row at in
      let many = rows_many lanes 0 lines in
      let count = counted lane row at in
      (lane, 1 + j, (omega (arith, there, many), omega arith, omega (arith, inside, count)), omega (arith, same))

  -- the number of a command is below that of all lines
  pub index_within : (lane number : ℕ) → IsCommand lanes (count_of lines) lane number → index lines lane number < length (in_lane_order lines)
  index_within lane number is =
      let (item, at, own, numbers) = item_there lane number is in
      slice_get_within (in_lane_order lines) (index lines lane number) item (item_at lane number is ∙ at)

  -- the commands are numbered so among all
  pub numbers : Numbers lanes (count_of lines) (index lines) (lanes_of (in_lane_order lines))
  numbers = record {
    lane = λ lane number is. let (item, at, own, same) = item_there lane number is in ap lane_of (item_at lane number is ∙ at) ∙ own;
    order = λ lane number other less. omega arith;
    apart = λ lane number other is also same. let from = is.1 in let too = also.1 in omega (arith, same, from, too);
  }
