-- The lines of a script in queues: how many lanes there are, and the line that a lane takes.
use Rattle.std.proofs.Common.{◌≡◌, ℕ, zero, suc, ◌+◌, ◌-◌, ◌<◌, ◌≤◌, ◌^◌, List, [], ◌∷◌, ◌++◌, Some, Result, Ok, Err, length, nat_eq, arith, refl, sym, ◌∙◌, ap, subst, append-nil, append_assoc, length-drop}
use Rattle.std.specs.Prelude.{All, Contains, OnOk, drop, slice_get, slice_set}
use Rattle.std.proofs.lemmas.Bool.{cond_both, eqb-true, eqb-false}
use Rattle.std.proofs.lemmas.Option.{same_Some, slice_get_within}
use Rattle.std.proofs.lemmas.List.{length-set}
use Rattle.std.proofs.lemmas.List.Elements.{All-nil, All-cons, All-head, All-tail, All-contains, Contains-append_right, filter-append}
use Rattle.ts_model.proofs.ListLemmas.{Contains-here}
use Rattle.ts_model.specs.declared.commands.Line.{Line}
use Rattle.ts_model.specs.Jobs.{IsFitLine}
use Rattle.ts_law.specs.Fresh.{lines_in}
use Rattle.ts_lanes.specs.Lanes.{AreQueues}
use Rattle.ts_script.specs.Script.{AreLimited}
use Rattle.ts_top.specs.Crews.{count_of, item_of}
use Rattle.ts_top.specs.Items.{lanes_in}
use Rattle.ts_top.specs.Queues.{AreLaid, IsQueued, Waits, of_lane}

-- the lines of a lane are those of the lane among them
pub of_lane_same : (lane number : ℕ) (lines : List Line) → lines_in lane number (of_lane lane lines) ≡ lines_in lane number lines
of_lane_same lane number [] = refl
of_lane_same lane number (line ∷ lines) =
    cond_both (nat_eq line.lane lane) (line ∷ of_lane lane lines) (of_lane lane lines) (λ q. lines_in lane number q ≡ lines_in lane number (line ∷ lines))
    (λ is. rw (is) (ap (λ xs. record { number = number; line = line } ∷ xs) (of_lane_same lane (number + 1) lines)))
    (λ is. rw (is) (of_lane_same lane number lines))

-- they are of the lane, and there can be such
pub of_lane_queued : (lane : ℕ) (lines : List Line) → All IsFitLine lines → All (IsQueued lane) (of_lane lane lines)
of_lane_queued lane [] fit = All-nil (IsQueued lane)
of_lane_queued lane (line ∷ lines) fit =
    cond_both (nat_eq line.lane lane) (line ∷ of_lane lane lines) (of_lane lane lines) (All (IsQueued lane))
    (λ is. All-cons (IsQueued lane) line (of_lane lane lines) (eqb-true line.lane lane is, All-head IsFitLine line lines fit) (of_lane_queued lane lines (All-tail IsFitLine line lines fit)))
    (λ is. of_lane_queued lane lines (All-tail IsFitLine line lines fit))

-- and there are no more of them than lines
of_lane_few : (lane : ℕ) (lines : List Line) → length (of_lane lane lines) ≤ length lines
of_lane_few lane [] = omega arith
of_lane_few lane (line ∷ lines) =
    cond_both (nat_eq line.lane lane) (line ∷ of_lane lane lines) (of_lane lane lines) (λ q. length q ≤ suc (length lines))
    (λ is. omega (arith, of_lane_few lane lines))
    (λ is. omega (arith, of_lane_few lane lines))

-- at first the queue of a lane has all its lines
pub waits_first : (lines : List Line) (lane : ℕ) → All IsFitLine lines → length lines < 2 ^ 32 → Waits lines lane 1 (of_lane lane lines)
waits_first lines lane fit few = record { from = of_lane_same lane 1 lines; own = of_lane_queued lane lines fit; few = omega (arith, of_lane_few lane lines, few) }

-- as many as there are
long : (lane number : ℕ) (queue : List Line) → All (IsQueued lane) queue → length (lines_in lane number queue) ≡ length queue
long lane number [] own = refl
long lane number (line ∷ queue) own =
    cond_both (nat_eq line.lane lane) (record { number = number; line = line } ∷ lines_in lane (number + 1) queue) (lines_in lane number queue) (λ xs. length xs ≡ suc (length queue))
    (λ is. ap suc (long lane (number + 1) queue (All-tail (IsQueued lane) line queue own)))
    (λ is. absurd (eqb-false line.lane lane is (All-head (IsQueued lane) line queue own).0))

-- the first of a list from a place on stands there, and behind it comes the list from the next place on
first_there : {X : Type 0} (xs : List X) (n : ℕ) (x : X) (rest : List X) → drop n xs ≡ x ∷ rest → (slice_get xs n ≡ Some x) × (drop (suc n) xs ≡ rest)
first_there [] zero x rest is = cc
first_there [] (suc n) x rest is = cc
first_there (y ∷ xs) zero x rest is = (ap (λ l. slice_get l 0) is, ap (drop 1) is)
first_there (y ∷ xs) (suc n) x rest is = first_there xs n x rest is

-- the line that a lane takes off its queue, and what is left there
pub record Taken (lines : List Line) (lane number : ℕ) (line : Line) (queue : List Line) : Type 0 where
  pub at : item_of lines lane number ≡ Some (record { number = number; line = line })
  pub lane_is : line.lane ≡ lane
  pub fit : IsFitLine line
  pub left : Waits lines lane (number + 1) queue

-- the first line of a queue is that of the next command, and behind it the queue has those from the command after it on
pub taken : (lines : List Line) (lane number : ℕ) (line : Line) (queue : List Line) → 1 ≤ number → Waits lines lane number (line ∷ queue) → Taken lines lane number line queue
taken lines lane number line queue some waits =
    let own = All-head (IsQueued lane) line queue waits.own in
    let is : lines_in lane number (line ∷ queue) ≡ record { number = number; line = line } ∷ lines_in lane (number + 1) queue =
    cond_both (nat_eq line.lane lane) (record { number = number; line = line } ∷ lines_in lane (number + 1) queue) (lines_in lane number queue) (λ xs. xs ≡ record { number = number; line = line } ∷ lines_in lane (number + 1) queue)
    (λ is. refl)
    (λ is. absurd (eqb-false line.lane lane is own.0)) in
    let first = first_there (lines_in lane 1 lines) (number - 1) (record { number = number; line = line }) (lines_in lane (number + 1) queue) (sym waits.from ∙ is) in
    let next : suc (number - 1) ≡ (number + 1) - 1 = omega (arith, some) in
    record {
      at = first.0;
      lane_is = own.0;
      fit = own.1;
      left = record { from = sym first.1 ∙ ap (λ n. drop n (lines_in lane 1 lines)) next; own = All-tail (IsQueued lane) line queue waits.own; few = omega (arith, waits.few) };
    }

-- the queue of a lane that has commands left is not empty
pub some_left : (lines : List Line) (lane number : ℕ) → 1 ≤ number → number ≤ count_of lines lane → Waits lines lane number [] → ⊥
some_left lines lane number some most waits =
    let none : 0 ≡ length (lines_in lane 1 lines) - (number - 1) = ap length waits.from ∙ length-drop (number - 1) (lines_in lane 1 lines) in
    omega (arith, none, some, most)

-- at first it has as many as the lane
pub all_wait : (lines : List Line) (lane : ℕ) (queue : List Line) → Waits lines lane 1 queue → length queue ≡ count_of lines lane
all_wait lines lane queue waits = sym (long lane 1 queue waits.own) ∙ ap length waits.from

-- the queues with one more line, which stands behind those of its lane
set_same : {X : Type 0} (xs : List X) (i : ℕ) (x : X) → i < length xs → slice_get (slice_set xs i x) i ≡ Some x
set_same [] i x less = absurd (omega (arith, less))
set_same (y ∷ xs) zero x less = refl
set_same (y ∷ xs) (suc i) x less = set_same xs i x (omega (arith, less))

set_other : {X : Type 0} (xs : List X) (i k : ℕ) (x : X) → (i ≡ k → ⊥) → slice_get (slice_set xs i x) k ≡ slice_get xs k
set_other [] i k x apart = refl
set_other (y ∷ xs) zero zero x apart = absurd (apart refl)
set_other (y ∷ xs) zero (suc k) x apart = refl
set_other (y ∷ xs) (suc i) zero x apart = refl
set_other (y ∷ xs) (suc i) (suc k) x apart = set_other xs i k x (λ same. apart (ap suc same))

-- and each lane but that has what it had
pub laid_more : (before : List Line) (queues : List (List Line)) (line : Line) (had queue : List Line) → slice_get queues line.lane ≡ Some had → queue ≡ had ++ line ∷ [] → AreLaid (length queues) before queues
    → AreLaid (length queues) (before ++ line ∷ []) (slice_set queues line.lane queue)
laid_more before queues line had queue at is are = record { count = length-set queues line.lane queue; each = each }
  where
    less : line.lane < length queues
    less = slice_get_within queues line.lane had at

    each : (lane : ℕ) (own : List Line) → slice_get (slice_set queues line.lane queue) lane ≡ Some own → own ≡ of_lane lane (before ++ line ∷ [])
    each lane own there =
        cond_both (nat_eq line.lane lane) (line ∷ []) [] (λ xs. own ≡ of_lane lane before ++ xs)
        (λ same.
        let there_is : slice_get (slice_set queues line.lane queue) line.lane ≡ Some own = subst (λ n. slice_get (slice_set queues line.lane queue) n ≡ Some own) (sym (eqb-true line.lane lane same)) there in
        let is_own : queue ≡ own = same_Some queue own (sym (set_same queues line.lane queue less) ∙ there_is) in
        let had_is : had ≡ of_lane line.lane before = are.each line.lane had at in
        sym is_own ∙ is ∙ ap (λ xs. xs ++ line ∷ []) had_is ∙ ap (λ n. of_lane n before ++ line ∷ []) (eqb-true line.lane lane same))
        (λ other. are.each lane own (sym (set_other queues line.lane lane queue (eqb-false line.lane lane other)) ∙ there) ∙ sym (append-nil (of_lane lane before)))
        ∙ sym (filter-append (λ (l : Line). nat_eq l.lane lane) before (line ∷ []))

-- what follows from what holds where a result is none of want of memory
pub on_ok : {A E : Type 0} (r : Result A E) (P Q : Type 0) → OnOk r P → (P → Q) → OnOk r Q
on_ok (Ok x) P Q holds so = so holds
on_ok (Err e) P Q holds so = tt

-- lines that there can be are of eight lanes
pub few_lanes : (lines : List Line) → All IsFitLine lines → lanes_in lines ≤ 8
few_lanes [] fit = omega arith
few_lanes (line ∷ lines) fit = omega (arith, (All-head IsFitLine line lines fit).lane, few_lanes lines (All-tail IsFitLine line lines fit))

-- each line is of one of the lanes
pub in_lanes : (lines : List Line) → All (λ line. line.lane < lanes_in lines) lines
in_lanes lines = within lines (lanes_in lines) (omega arith)
  where
    within : (ls : List Line) (lanes : ℕ) → lanes_in ls ≤ lanes → All (λ line. line.lane < lanes) ls
    within [] lanes most = All-nil (λ line. line.lane < lanes)
    within (line ∷ ls) lanes most = All-cons (λ line. line.lane < lanes) line ls (omega (arith, most)) (within ls lanes (omega (arith, most)))

-- a line behind others has a queue
pub has_queue : (lines front rest : List Line) (line : Line) → lines ≡ (front ++ line ∷ []) ++ rest → line.lane < lanes_in lines
has_queue lines front rest line are =
    All-contains (λ (l : Line). l.lane < lanes_in lines) lines line (in_lanes lines) (subst (λ ls. Contains ls line) (sym (are ∙ append_assoc front (line ∷ []) rest)) (Contains-append_right front (line ∷ rest) line (Contains-here line rest)))

-- so each lane has a queue of all its commands
pub all_queued : (lines : List Line) (queues : List (List Line)) → AreLimited lines → AreLaid (lanes_in lines) lines queues → AreQueues (lanes_in lines) (Waits lines) queues
all_queued lines queues limited laid = record {
  one_each = laid.count;
  all = λ lane queue at. subst (Waits lines lane 1) (sym (laid.each lane queue at)) (waits_first lines lane limited.fit (let few = limited.few in omega (arith, few)));
}
