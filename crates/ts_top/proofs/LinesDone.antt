-- The lines of a run in lanes: the lane of each call, the turns of the commands of a lane, and that the command of each line was done.
use Rattle.std.proofs.Common.{◌≡◌, ℕ, zero, suc, ◌<◌, ◌≤◌, Bool, true, false, cond, List, [], ◌∷◌, Option, Some, None, length, sym, ◌∙◌, ap, subst, arith}
use Rattle.std.specs.Prelude.{All, Contains, slice_get}
use Rattle.std.specs.List.{cons_option}
use Rattle.std.proofs.lemmas.List.Elements.{All-contains, All-contains_itself, All-head, All-tail, All-weaker, Contains-append_right}
use Rattle.std.proofs.lemmas.Option.{none-some, same_Some, slice_get_within}
use Rattle.ts_base.specs.Held.{Held}
use Rattle.ts_store.specs.Calls.{is_no_memory}
use Rattle.ts_model.specs.declared.answers.Driven.{Driven}
use Rattle.ts_model.specs.declared.answers.Outcome.{Outcome}
use Rattle.ts_model.specs.declared.commands.Job.{Job}
use Rattle.ts_model.specs.declared.commands.Line.{Line}
use Rattle.ts_model.specs.Deeds.{History}
use Rattle.ts_model.specs.Jobs.{key_of}
use Rattle.ts_model.specs.Stops.{Uncut}
use Rattle.ts_model.specs.Told.{Told, trace_of}
use Rattle.ts_model.proofs.ListLemmas.{Contains-here, Contains-slice_get, slice_get-Contains}
use Rattle.ts_law.specs.Fresh.{Numbered, command_at, id_of, in_lane_order, lanes_of, seed_in, lane_of as line_lane}
use Rattle.ts_law.specs.Lanes.{IsBefore, IsOwned, IsWithin, InTurn, lane_by, one_lane}
use Rattle.ts_law.specs.Runs.{AreSegments}
use Rattle.ts_law.proofs.LineJobs.{IsFitItem, among_lines, seed_of_id}
use Rattle.ts_law.proofs.Lists.{item_at}
use Rattle.ts_top.specs.Lanes.{ComeInTurn, IsOfLane, LineWasDone}
use Rattle.ts_top.specs.Runners.{run_codec}
use Rattle.ts_top.specs.Seen.{AreInOneLane}
use Rattle.ts_top.specs.Times.{Made, Span}
use Rattle.ts_top.specs.Together.{WasDone}
use Rattle.ts_top.proofs.LanesEnds.{done_so}
use Rattle.ts_top.proofs.LanesTold.{span, there}
use Rattle.ts_top.proofs.OwnCalls.{own_stop}
use Rattle.ts_top.proofs.Promises.{same_job}
use Rattle.ts_top.proofs.RunTimes.{InLanes, run}
use Rattle.ts_top.proofs.TimesTold.{IsTold, all_made, call_made, find_call, made_in}

-- each call of the journal is one of a command, in the lane of its line
pub of_lanes : (items : List Numbered) (jobs : List Job) → length jobs ≡ length items → (told : List Told) → All (IsWithin jobs) told → All (IsOfLane items) (all_made (lane_by (lanes_of items)) told)
of_lanes items jobs one_each told within =
    All-weaker (Contains (all_made (lane_by (lanes_of items)) told)) (IsOfLane items) one (all_made (lane_by (lanes_of items)) told) (All-contains_itself (all_made (lane_by (lanes_of items)) told))
  where
    one : (c : Made) → Contains (all_made (lane_by (lanes_of items)) told) c → IsOfLane items c
    one c among =
        let (n, at) = slice_get-Contains (all_made (lane_by (lanes_of items)) told) c among in
        let is : IsTold (lane_by (lanes_of items)) told n c = find_call (lane_by (lanes_of items)) told n c at in
        let in_told : Contains told is.e = subst (λ l. Contains l is.e) (sym is.parts) (Contains-append_right is.earlier (is.e ∷ is.later) is.e (Contains-here is.e is.later)) in
        let less : c.number < length jobs = All-contains (IsWithin jobs) told is.e within in_told c.number is.mine in
        let (item, item_there) = item_at jobs items c.number one_each less in
        (item, item_there, ap (λ (x : Made). x.entry.lane) (sym is.is) ∙ ap line_lane item_there)

-- the commands of a lane come one after the other in the journal
pub come_in_turn : (lanes : ℕ → ℕ) (told : List Told) → All IsOwned told → InTurn lanes told → ComeInTurn (all_made (lane_by lanes) told)
come_in_turn lanes [] owned turn i n a b order at_i at_n same = absurd (none-some a at_i)
come_in_turn lanes (e ∷ told) owned turn i n a b order at_i at_n same =
    by (λ k p less at_k at_p. come_in_turn lanes told (All-tail IsOwned e told owned) turn.1 k p a b less at_k at_p same) (is_no_memory e.reply) e.job mine.1 i n order at_i at_n
  where
    mine : IsOwned e
    mine = All-head IsOwned e told owned

    Calls : Bool → Option ℕ → List Made
    Calls t o = cons_option (cond t None (made_in (lane_by lanes) e o)) (all_made (lane_by lanes) told)

    -- so it is of the later calls
    Later : Type 0
    Later = (k p : ℕ) → k ≤ p → slice_get (all_made (lane_by lanes) told) k ≡ Some a → slice_get (all_made (lane_by lanes) told) p ≡ Some b → a.number ≤ b.number

    -- the first of two calls is the first of all
    first : (number k : ℕ) → e.job ≡ Some number → call_made (lane_by lanes) e number ≡ a → slice_get (all_made (lane_by lanes) told) k ≡ Some b → a.number ≤ b.number
    first number k by_it is_a at_k =
        let is : IsTold (lane_by lanes) told k b = find_call (lane_by lanes) told k b at_k in
        let in_told : Contains told is.e = subst (λ l. Contains l is.e) (sym is.parts) (Contains-append_right is.earlier (is.e ∷ is.later) is.e (Contains-here is.e is.later)) in
        let lane : lanes number ≡ lanes b.number = ap (λ (x : Made). x.entry.lane) is_a ∙ same ∙ sym (ap (λ (x : Made). x.entry.lane) is.is) in
        let most : number ≤ b.number = All-contains (IsBefore lanes e) told is.e turn.0 in_told number b.number by_it is.mine lane in
        subst (λ x. x ≤ b.number) (ap (λ (x : Made). x.number) is_a) most

    by_place : Later → (number : ℕ) → e.job ≡ Some number → (k p : ℕ) → k ≤ p → slice_get (call_made (lane_by lanes) e number ∷ all_made (lane_by lanes) told) k ≡ Some a → slice_get (call_made (lane_by lanes) e number ∷ all_made (lane_by lanes) told) p ≡ Some b → a.number ≤ b.number
    by_place later number by_it zero zero less at_k at_p = let one : a ≡ b = same_Some a b (sym at_k ∙ at_p) in subst (λ (x : Made). a.number ≤ x.number) one (omega arith)
    by_place later number by_it zero (suc p) less at_k at_p = first number p by_it (same_Some (call_made (lane_by lanes) e number) a at_k) at_p
    by_place later number by_it (suc k) zero less at_k at_p = absurd (omega (arith, less))
    by_place later number by_it (suc k) (suc p) less at_k at_p = later k p (omega (arith, less)) at_k at_p

    by : Later → (t : Bool) (o : Option ℕ) → o ≡ Some mine.0 → (k p : ℕ) → k ≤ p → slice_get (Calls t o) k ≡ Some a → slice_get (Calls t o) p ≡ Some b → a.number ≤ b.number
    by later true o is k p less at_k at_p = later k p less at_k at_p
    by later false None is k p less at_k at_p = absurd (none-some mine.0 is)
    by later false (Some number) is k p less at_k at_p = by_place later number (mine.1 ∙ ap Some (sym (same_Some number mine.0 is))) k p less at_k at_p

-- where all jobs have one lane they come one after the other
turns_one : (lanes : ℕ → ℕ) (own : ℕ) (jobs : List Job) → ((number : ℕ) → number < length jobs → lanes number ≡ own) → (told : List Told) → All (IsWithin jobs) told → InTurn lanes told → InTurn one_lane told
turns_one lanes own jobs same [] within turn = tt
turns_one lanes own jobs same (e ∷ told) within turn = (
  All-weaker (Contains told) (IsBefore one_lane e) (λ d among i j by_i by_j _.
      let first = All-head (IsWithin jobs) e told within i by_i in
      let second = All-contains (IsWithin jobs) told d (All-tail (IsWithin jobs) e told within) among j by_j in
      All-contains (IsBefore lanes e) told d turn.0 among i j by_i by_j (same i first ∙ sym (same j second))) told (All-contains_itself told),
  turns_one lanes own jobs same told (All-tail (IsWithin jobs) e told within) turn.1,
)

-- those of a script of one lane do
pub one_turn : (lines : List Line) (jobs : List Job) → length jobs ≡ length (in_lane_order lines) → (told : List Told) → All (IsWithin jobs) told → InTurn (lanes_of (in_lane_order lines)) told → AreInOneLane lines → InTurn one_lane told
one_turn lines jobs one_each told within turn (own, all) = turns_one (lanes_of (in_lane_order lines)) own jobs in_lane told within turn
  where
    in_lane : (number : ℕ) → number < length jobs → lanes_of (in_lane_order lines) number ≡ own
    in_lane number less =
        let (item, at) = item_at jobs (in_lane_order lines) number one_each less in
        ap line_lane at ∙ All-contains (λ line. line.lane ≡ own) lines item.line all (among_lines lines item (Contains-slice_get (in_lane_order lines) number item at))

-- the command of a line was done
pub line_done : (gives : ℕ → Bool) (seed : ℕ) (items : List Numbered) (jobs : List Job) (past : History) (m : Held) (told : List Told) (results : List (Driven Outcome)) (w : InLanes gives seed items jobs past m told results)
    → AreSegments run_codec jobs results told → (i : ℕ) (item : Numbered) (result : Driven Outcome) → slice_get items i ≡ Some item → slice_get results i ≡ Some result
    → (from : ℕ) × (to : ℕ) × LineWasDone gives seed (record { run = run gives seed items jobs past m told results w; number = i; from = from; to = to }) item result
line_done gives seed items jobs past m told results w segments i item result item_there result_at =
    let (job, is_job) = item_at items jobs i (sym w.are.one_each) (slice_get_within items i item item_there) in
    let of_line = w.are.each i item job item_there is_job in
    let id : ℕ = id_of seed (item.line).lane item.number in
    let same = same_job gives id item.line job of_line in
    let s : Span = span gives seed items jobs past m told results w i job is_job in
    let done : WasDone s (key_of job) (item.line).stop result job.command =
    subst (λ stops. WasDone s (key_of job) stops result job.command) of_line.stop (done_so gives seed items jobs past m told results w i job is_job segments result result_at) in
    let small = All-contains IsFitItem items item w.order.fit (Contains-slice_get items i item item_there) in
    let seed_is : seed_in id ≡ seed = seed_of_id seed (item.line).lane item.number (omega (arith, (small.fit).lane)) small.few in
    let as_line : WasDone s (record { t = job.at; id = id }) (item.line).stop result (command_at (seed_in id) item.line job.at) =
    subst (λ j. WasDone s (key_of j) (item.line).stop result j.command) same done in
    let there_is = there gives seed items jobs past m told results w i job is_job in (
      there_is.from,
      there_is.to,
      (
        own_stop (lane_by (lanes_of items)) i m told w.owned (item.line).stop (subst (λ stops. Uncut stops 0 (trace_of i told)) of_line.stop (w.driven.driven i job result is_job result_at).uncut),
        (job.at, of_line.stamp, subst (λ x. WasDone s (record { t = job.at; id = id }) (item.line).stop result (command_at x item.line job.at)) seed_is as_line),
      ),
    )
