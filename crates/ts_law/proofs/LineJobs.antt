-- The lines of a script in lane order, and the jobs that are made of them.
use Rattle.std.proofs.Common.{◌≡◌, ℕ, zero, suc, ◌+◌, ◌*◌, ◌/◌, ◌^◌, ◌<◌, ◌≤◌, Bool, true, false, nat_eq, nat_lt, ◌&&◌, List, [], ◌∷◌, ◌++◌, Some, length, refl, sym, ◌∙◌, ap, subst, arith, cond, length-append}
use Rattle.std.specs.Prelude.{All, Contains, slice_get, IsTrue, ⊤}
use Rattle.std.proofs.lemmas.Bool.{and_parts, and_from, cond_both, eqb-false, eqb-true, lt-ltb, ltb-false, ltb-true, ne_eqb}
use Rattle.std.proofs.lemmas.Option.{same_Some, none-some, slice_get_within}
use Rattle.std.proofs.lemmas.List.Elements.{All-nil, All-cons, All-head, All-tail, All-append, All-contains, All-contains_itself, All-weaker}
use Rattle.ts_model.specs.declared.commands.Command.{Command}
use Rattle.ts_model.specs.declared.commands.Command.TheVariants.{Create, Evolve, Write, Read, Delete, Consolidate, Vacuum, Unlock, Fragments}
use Rattle.ts_model.specs.declared.commands.Job.{Job}
use Rattle.ts_model.specs.declared.commands.Line.{Line}
use Rattle.ts_model.specs.Commands.{are_limits, fits, is_spelled_query}
use Rattle.ts_model.specs.Jobs.{IsFit, AreFit, IsFitLine, AreApart}
use Rattle.ts_model.proofs.ListLemmas.{Contains-here, Contains-there, Contains-slice_get, slice_get-Contains}
use Rattle.ts_law.specs.Fresh.{Numbered, lines_in, by_lanes, in_lane_order, command_at, ends_at, id_of, job_from, seed_in, seeded, IsStampOf, IsJobOf, AreJobsOf}
use Rattle.ts_law.proofs.Lists.{item_at}

-- ---- lines in their places

-- the place of a line: by its lane, and then by its number there
abbrev pub place_of : Numbered → ℕ
place_of item = (item.line).lane * 2 ^ 32 + item.number

-- each stands before those behind it
abbrev pub AreRising : List Numbered → Type 0
AreRising [] = ⊤
AreRising (x ∷ xs) = All (λ y. place_of x < place_of y) xs × AreRising xs

-- a line whose number has 32 bits, and that there can be
pub record IsFitItem (item : Numbered) : Type 0 where
  pub few : item.number < 2 ^ 32
  pub fit : IsFitLine item.line

-- lines in order, each one that there can be
pub record AreInOrder (items : List Numbered) : Type 0 where
  pub rising : AreRising items
  pub fit : All IsFitItem items

-- no two stand in one place
same_place : (items : List Numbered) → AreRising items → (i k : ℕ) (a b : Numbered) → slice_get items i ≡ Some a → slice_get items k ≡ Some b → place_of a ≡ place_of b → i ≡ k
same_place [] rising i k a b at_i at_k same = absurd (none-some a at_i)
same_place (x ∷ xs) rising zero zero a b at_i at_k same = refl
same_place (x ∷ xs) rising zero (suc k) a b at_i at_k same =
    let less = All-contains (λ y. place_of x < place_of y) xs b rising.0 (Contains-slice_get xs k b at_k) in
    absurd (omega (arith, less, same, ap place_of (same_Some x a at_i)))
same_place (x ∷ xs) rising (suc i) zero a b at_i at_k same =
    let less = All-contains (λ y. place_of x < place_of y) xs a rising.0 (Contains-slice_get xs i a at_i) in
    absurd (omega (arith, less, same, ap place_of (same_Some x b at_k)))
same_place (x ∷ xs) rising (suc i) (suc k) a b at_i at_k same = ap suc (same_place xs rising.1 i k a b at_i at_k same)

-- lines in order before others
rising-append : (xs ys : List Numbered) → AreRising xs → AreRising ys → ((x y : Numbered) → Contains xs x → Contains ys y → place_of x < place_of y) → AreRising (xs ++ ys)
rising-append [] ys front back less = back
rising-append (x ∷ xs) ys front back less = (
  All-append (λ y. place_of x < place_of y) xs ys front.0 (All-weaker (Contains ys) (λ y. place_of x < place_of y) (λ y at. less x y (Contains-here x xs) at) ys (All-contains_itself ys)),
  rising-append xs ys front.1 back (λ a b a_at b_at. less a b (Contains-there x xs a a_at) b_at),
)

-- a line of a lane, numbered from a number on
record IsOfLane (lane least : ℕ) (lines : List Line) (item : Numbered) : Type 0 where
  lane_is : (item.line).lane ≡ lane
  from : least ≤ item.number
  below : item.number < least + length lines
  among : Contains lines item.line

of_lane : (lane number : ℕ) (lines : List Line) → All (IsOfLane lane number lines) (lines_in lane number lines)
of_lane lane number [] = All-nil (IsOfLane lane number [])
of_lane lane number (line ∷ lines) =
    let item : Numbered = record { number = number; line = line } in
    let all : List Line = line ∷ lines in
    let after : (least : ℕ) → number ≤ least → least ≤ number + 1 → All (IsOfLane lane least lines) (lines_in lane least lines) → All (IsOfLane lane number all) (lines_in lane least lines) = λ least low high.
    All-weaker (IsOfLane lane least lines) (IsOfLane lane number all)
    (λ x is. record { lane_is = is.lane_is; from = omega (arith, low, is.from); below = omega (arith, high, is.below); among = Contains-there line lines x.line is.among })
    (lines_in lane least lines) in
    cond_both (nat_eq line.lane lane) (item ∷ lines_in lane (number + 1) lines) (lines_in lane number lines) (All (IsOfLane lane number all))
    (λ is.
    All-cons (IsOfLane lane number all) item (lines_in lane (number + 1) lines)
    (record { lane_is = eqb-true line.lane lane is; from = omega arith; below = omega arith; among = Contains-here line lines })
    (after (number + 1) (omega arith) (omega arith) (of_lane lane (number + 1) lines)))
    (λ is. after number (omega arith) (omega arith) (of_lane lane number lines))

rising_lane : (lane number : ℕ) (lines : List Line) → AreRising (lines_in lane number lines)
rising_lane lane number [] = tt
rising_lane lane number (line ∷ lines) =
    let item : Numbered = record { number = number; line = line } in
    cond_both (nat_eq line.lane lane) (item ∷ lines_in lane (number + 1) lines) (lines_in lane number lines) AreRising
    (λ is. (
      All-weaker (IsOfLane lane (number + 1) lines) (λ y. place_of item < place_of y) (λ y at. omega (arith, at.lane_is, at.from, eqb-true line.lane lane is)) (lines_in lane (number + 1) lines) (of_lane lane (number + 1) lines),
      rising_lane lane (number + 1) lines,
    ))
    (λ is. rising_lane lane number lines)

-- a line of the lanes from one on
record IsOfLanes (lane : ℕ) (lines : List Line) (item : Numbered) : Type 0 where
  from : lane ≤ (item.line).lane
  below : item.number ≤ length lines
  among : Contains lines item.line

of_lanes : (count lane : ℕ) (lines : List Line) → All (IsOfLanes lane lines) (by_lanes count lane lines)
of_lanes zero lane lines = All-nil (IsOfLanes lane lines)
of_lanes (suc count) lane lines =
    All-append (IsOfLanes lane lines) (lines_in lane 1 lines) (by_lanes count (lane + 1) lines)
    (All-weaker (IsOfLane lane 1 lines) (IsOfLanes lane lines) (λ x is. record { from = omega (arith, is.lane_is); below = omega (arith, is.below); among = is.among }) (lines_in lane 1 lines) (of_lane lane 1 lines))
    (All-weaker (IsOfLanes (lane + 1) lines) (IsOfLanes lane lines) (λ x is. record { from = omega (arith, is.from); below = is.below; among = is.among }) (by_lanes count (lane + 1) lines) (of_lanes count (lane + 1) lines))

rising_lanes : (count lane : ℕ) (lines : List Line) → length lines < 2 ^ 32 → AreRising (by_lanes count lane lines)
rising_lanes zero lane lines few = tt
rising_lanes (suc count) lane lines few =
    rising-append (lines_in lane 1 lines) (by_lanes count (lane + 1) lines) (rising_lane lane 1 lines) (rising_lanes count (lane + 1) lines few)
    (λ x y x_at y_at.
    let front = All-contains (IsOfLane lane 1 lines) (lines_in lane 1 lines) x (of_lane lane 1 lines) x_at in
    let back = All-contains (IsOfLanes (lane + 1) lines) (by_lanes count (lane + 1) lines) y (of_lanes count (lane + 1) lines) y_at in
    omega (arith, front.lane_is, front.below, back.from, few))

-- the lines of a script in lane order are in order
pub in_order : (lines : List Line) → length lines < 2 ^ 32 → All IsFitLine lines → AreInOrder (in_lane_order lines)
in_order lines few fit = record {
  rising = rising_lanes 8 0 lines few;
  fit = All-weaker (IsOfLanes 0 lines) IsFitItem (λ x is. record { few = omega (arith, few, is.below); fit = All-contains IsFitLine lines x.line fit is.among }) (in_lane_order lines) (of_lanes 8 0 lines);
}

-- each has a number up to the count of the lines, and is one of them
pub numbers_of : (lines : List Line) → All (λ item. item.number ≤ length lines) (in_lane_order lines)
numbers_of lines = All-weaker (IsOfLanes 0 lines) (λ item. item.number ≤ length lines) (λ x is. is.below) (in_lane_order lines) (of_lanes 8 0 lines)

pub among_lines : (lines : List Line) (item : Numbered) → Contains (in_lane_order lines) item → Contains lines item.line
among_lines lines item at = (All-contains (IsOfLanes 0 lines) (in_lane_order lines) item (of_lanes 8 0 lines) at).among

-- ---- each line has its place

-- how many lines a lane has does not depend on their numbers
same_count : (lane a b : ℕ) (lines : List Line) → length (lines_in lane a lines) ≡ length (lines_in lane b lines)
same_count lane a b [] = refl
same_count lane a b (line ∷ lines) = elim (nat_eq line.lane lane) as (λ t. length (cond t (record { number = a; line = line } ∷ lines_in lane (a + 1) lines) (lines_in lane a lines)) ≡ length (cond t (record { number = b; line = line } ∷ lines_in lane (b + 1) lines) (lines_in lane b lines))) [
  | true ↦ ap suc (same_count lane (a + 1) (b + 1) lines)
  | false ↦ same_count lane a b lines
]

-- a line of the lane is one more
one_more : (lane : ℕ) (line : Line) (lines : List Line) → nat_eq line.lane lane ≡ true → length (lines_in lane 1 (line ∷ lines)) ≡ 1 + length (lines_in lane 1 lines)
one_more lane line lines is =
    let first : length (lines_in lane 1 (line ∷ lines)) ≡ suc (length (lines_in lane 2 lines)) = ap (λ t. length (cond t (record { number = 1; line = line } ∷ lines_in lane 2 lines) (lines_in lane 1 lines))) is in
    omega (arith, first, same_count lane 2 1 lines)

-- and one of another lane is none
no_more : (lane : ℕ) (line : Line) (lines : List Line) → nat_eq line.lane lane ≡ false → length (lines_in lane 1 (line ∷ lines)) ≡ length (lines_in lane 1 lines)
no_more lane line lines is = ap (λ t. length (cond t (record { number = 1; line = line } ∷ lines_in lane 2 lines) (lines_in lane 1 lines))) is

-- a line of a lane before these is not among them
line_before : (count lane : ℕ) (line : Line) (lines : List Line) → line.lane < lane → length (by_lanes count lane (line ∷ lines)) ≡ length (by_lanes count lane lines)
line_before zero lane line lines less = refl
line_before (suc count) lane line lines less =
    let first = no_more lane line lines (ne_eqb line.lane lane (λ same. omega (arith, less, same))) in
    let rest = line_before count (lane + 1) line lines (omega (arith, less)) in
    length-append (lines_in lane 1 (line ∷ lines)) (by_lanes count (lane + 1) (line ∷ lines)) ∙ omega (arith, first, rest, length-append (lines_in lane 1 lines) (by_lanes count (lane + 1) lines))

-- a line of one of these lanes is among them once
line_once : (count lane : ℕ) (line : Line) (lines : List Line) → lane ≤ line.lane → line.lane < lane + count → length (by_lanes count lane (line ∷ lines)) ≡ 1 + length (by_lanes count lane lines)
line_once zero lane line lines low high = absurd (omega (arith, low, high))
line_once (suc count) lane line lines low high = by (nat_eq line.lane lane) refl (λ here. line_once count (lane + 1) line lines here (omega (arith, high)))
  where
    whole : length (by_lanes (suc count) lane (line ∷ lines)) ≡ length (lines_in lane 1 (line ∷ lines)) + length (by_lanes count (lane + 1) (line ∷ lines))
    whole = length-append (lines_in lane 1 (line ∷ lines)) (by_lanes count (lane + 1) (line ∷ lines))

    parts : length (by_lanes (suc count) lane lines) ≡ length (lines_in lane 1 lines) + length (by_lanes count (lane + 1) lines)
    parts = length-append (lines_in lane 1 lines) (by_lanes count (lane + 1) lines)

    above : (t : Bool) → nat_lt lane line.lane ≡ t → (line.lane ≡ lane → ⊥) → lane + 1 ≤ line.lane
    above true is other = omega (arith, ltb-true lane line.lane is)
    above false is other = absurd (other (omega (arith, low, ltb-false lane line.lane is)))

    by : (t : Bool) → nat_eq line.lane lane ≡ t → (lane + 1 ≤ line.lane → length (by_lanes count (lane + 1) (line ∷ lines)) ≡ 1 + length (by_lanes count (lane + 1) lines))
        → length (by_lanes (suc count) lane (line ∷ lines)) ≡ 1 + length (by_lanes (suc count) lane lines)
    by true is later =
        let same = eqb-true line.lane lane is in
        let first = one_more lane line lines is in
        let rest = line_before count (lane + 1) line lines (omega (arith, same)) in
        omega (arith, whole, parts, first, rest)
    by false is later =
        let other = eqb-false line.lane lane is in
        let first = no_more lane line lines is in
        let rest = later (above (nat_lt lane line.lane) refl other) in
        omega (arith, whole, parts, first, rest)

no_lines : (count lane : ℕ) → length (by_lanes count lane []) ≡ 0
no_lines zero lane = refl
no_lines (suc count) lane = no_lines count (lane + 1)

-- the lines of a script in lane order are as many as its lines
pub each_line : (lines : List Line) → All IsFitLine lines → length (in_lane_order lines) ≡ length lines
each_line [] fit = no_lines 8 0
each_line (line ∷ lines) fit =
    let once = line_once 8 0 line lines (omega arith) (All-head IsFitLine line lines fit).lane in
    let rest = each_line lines (All-tail IsFitLine line lines fit) in
    omega (arith, once, rest)

-- ---- their jobs

-- a command that there can be is one at its stamp
command_fits : (to_stamp : Bool) (at : ℕ) (c : Command) → at < 2 ^ 64 → IsTrue (fits c) → IsTrue (fits (ends_at to_stamp at c))
command_fits true at (Read from to query) small fit =
    let parts = and_parts (nat_lt from (2 ^ 64)) (nat_lt to (2 ^ 64) && is_spelled_query query) fit in
    let rest = and_parts (nat_lt to (2 ^ 64)) (is_spelled_query query) parts.1 in
    and_from (nat_lt from (2 ^ 64)) (nat_lt at (2 ^ 64) && is_spelled_query query) parts.0 (and_from (nat_lt at (2 ^ 64)) (is_spelled_query query) (lt-ltb at (2 ^ 64) small) rest.1)
command_fits true at (Consolidate from to limits) small fit =
    let parts = and_parts (nat_lt from (2 ^ 64)) (nat_lt to (2 ^ 64) && are_limits limits) fit in
    let rest = and_parts (nat_lt to (2 ^ 64)) (are_limits limits) parts.1 in
    and_from (nat_lt from (2 ^ 64)) (nat_lt at (2 ^ 64) && are_limits limits) parts.0 (and_from (nat_lt at (2 ^ 64)) (are_limits limits) (lt-ltb at (2 ^ 64) small) rest.1)
command_fits true at (Create f) small fit = fit
command_fits true at (Evolve change) small fit = fit
command_fits true at (Write w) small fit = fit
command_fits true at (Delete text) small fit = fit
command_fits true at Vacuum small fit = fit
command_fits true at (Unlock seed lane) small fit = fit
command_fits true at Fragments small fit = fit
command_fits false at c small fit = fit

-- it is one in a run of a seed of 64 bits, in a lane of 32
seeded_fits : (seed lane : ℕ) (c : Command) → seed < 2 ^ 64 → lane < 2 ^ 32 → IsTrue (fits c) → IsTrue (fits (seeded seed lane c))
seeded_fits seed lane (Unlock own other) small few fit = and_from (nat_lt seed (2 ^ 64)) (nat_lt lane (2 ^ 32)) (lt-ltb seed (2 ^ 64) small) (lt-ltb lane (2 ^ 32) few)
seeded_fits seed lane (Create f) small few fit = fit
seeded_fits seed lane (Evolve change) small few fit = fit
seeded_fits seed lane (Write w) small few fit = fit
seeded_fits seed lane (Read from to query) small few fit = fit
seeded_fits seed lane (Delete text) small few fit = fit
seeded_fits seed lane (Consolidate from to limits) small few fit = fit
seeded_fits seed lane Vacuum small few fit = fit
seeded_fits seed lane Fragments small few fit = fit

-- the seed of the identifier of a command is that of its run
pub seed_of_id : (seed lane number : ℕ) → lane < 2 ^ 32 → number < 2 ^ 32 → seed_in (id_of seed lane number) ≡ seed
seed_of_id seed lane number lane_fits few = omega arith

module _ (gives : ℕ → Bool) (seed : ℕ) (items : List Numbered) (jobs : List Job) (are : AreJobsOf gives seed items jobs) (order : AreInOrder items) where
  -- a job is that of the line at its place
  pub line_of : (i : ℕ) (job : Job) → slice_get jobs i ≡ Some job → (item : Numbered) × (slice_get items i ≡ Some item) × IsJobOf gives (id_of seed (item.line).lane item.number) item.line job
  line_of i job at =
      let there = item_at jobs items i are.one_each (slice_get_within jobs i job at) in
      (there.0, there.1, are.each i there.0 job there.1 at)

  pub fit_at : (i : ℕ) (item : Numbered) → slice_get items i ≡ Some item → IsFitItem item
  fit_at i item at = All-contains IsFitItem items item order.fit (Contains-slice_get items i item at)

  -- the identifiers of the jobs are apart
  pub ids_apart : AreApart jobs
  ids_apart i k a b at_i at_k same =
      let (x, x_at, x_is) = line_of i a at_i in
      let (y, y_at, y_is) = line_of k b at_k in
      let ids : id_of seed (x.line).lane x.number ≡ id_of seed (y.line).lane y.number = sym x_is.id_is ∙ same ∙ y_is.id_is in
      same_place items order.rising i k x y x_at y_at (omega (arith, ids))

  -- the upper 64 bits of an identifier are the seed
  pub id_has_seed : (i : ℕ) (job : Job) → slice_get jobs i ≡ Some job → job.id / 2 ^ 64 ≡ seed
  id_has_seed i job at =
      let (x, x_at, is) = line_of i job at in
      let small = fit_at i x x_at in
      ap (λ n. n / 2 ^ 64) is.id_is ∙ seed_of_id seed (x.line).lane x.number (omega (arith, (small.fit).lane)) small.few

  -- the jobs are such as there can be
  pub jobs_fit : seed < 2 ^ 64 → AreFit jobs
  jobs_fit seed_fits = All-weaker (Contains jobs) IsFit one jobs (All-contains_itself jobs)
    where
      width : (s l n : ℕ) → s < 2 ^ 64 → l < 2 ^ 32 → n < 2 ^ 32 → s * 2 ^ 64 + l * 2 ^ 32 + n < 2 ^ 128
      width s l n s_fits l_fits n_fits = omega arith

      one : (job : Job) → Contains jobs job → IsFit job
      one job among =
          let (i, at) = slice_get-Contains jobs job among in
          let (x, x_at, is) = line_of i job at in
          let small = fit_at i x x_at in
          record {
            stamp = (is.stamp).width;
            id = subst (λ n. n < 2 ^ 128) (sym is.id_is) (width seed (x.line).lane x.number seed_fits (omega (arith, (small.fit).lane)) small.few);
            command = subst (λ c. IsTrue (fits c)) (sym (is.command ∙ ap (λ s. command_at s x.line job.at) (seed_of_id seed (x.line).lane x.number (omega (arith, (small.fit).lane)) small.few)))
                (seeded_fits seed (x.line).lane (ends_at (x.line).to_stamp job.at (x.line).command) seed_fits (omega (arith, (small.fit).lane)) (command_fits (x.line).to_stamp job.at (x.line).command (is.stamp).width (small.fit).command));
          }

-- the job that is made of a line is that of the line
pub job_of_line : (gives : ℕ → Bool) (id : ℕ) (line : Line) (at : ℕ) → IsStampOf gives line at → IsJobOf gives id line (job_from id line at)
job_of_line gives id line at stamp = record { id_is = refl; stamp = stamp; command = refl; stop = refl }
