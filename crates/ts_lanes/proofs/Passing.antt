-- The passes of lanes: split off the first one, and joined again once their commands are done.
use Rattle.std.proofs.Common.{◌≡◌, ◌⊎◌, ⊎_elim, inl, inr, ℕ, zero, suc, ◌+◌, ◌-◌, ◌<◌, ◌≤◌, ◌==◌, ◌||◌, Bool, true, false, Some, None, List, [], ◌∷◌, ◌++◌, length, length-append, slice_get, slice_index_or, vec_capacity, refl, sym, ap, ◌∙◌, subst, arith, ne_eqb, eq-eqb, ◌≢◌}
use Rattle.std.proofs.lemmas.Option.{slice_get_within, slice_get_read}
use Rattle.std.specs.declared.alloc.Global.{Global}
use Rattle.std.specs.declared.vec.Vec.{Vec}
use Rattle.ts_model.specs.declared.answers.Driven.{Driven}
use Rattle.ts_model.specs.declared.answers.Outcome.{Outcome}
use Rattle.ts_model.specs.States.{Exchange}
use Rattle.ts_turnstile.specs.declared.view.View.{View}
use Rattle.ts_turnstile.specs.Lanes.{has, Hears}
use Rattle.ts_turnstile.specs.Turns.{turns_by}
use Rattle.ts_turnstile.specs.Views.{lanes_of, lanes_if, naming, left_of, right_of, joined_view}
use Rattle.ts_turnstile.specs.Rule.{Claim, claim_of}
use Rattle.ts_turnstile.proofs.Truths.{both_of, off, or_left, or_right, or_split, has_append, has_here, has_one}
use Rattle.ts_lanes.specs.Lanes.{LaneDid, MaySplit, IsNewLane, AreRooms, AreQueues, DidDown, LanesDid}

-- ---- lists

pub pushed : {X : Type 0} (xs : List X) (y : X) (n : ℕ) (x : X) → slice_get (xs ++ y ∷ []) n ≡ Some x → (slice_get xs n ≡ Some x) ⊎ ((n ≡ length xs) × (y ≡ x))
pushed [] y zero x at = inr (refl, let both : Some y ≡ Some x = at in cc)
pushed [] y (suc n) x at = absurd (let never : None ≡ Some x = at in cc)
pushed (z ∷ xs) y zero x at = inl at
pushed (z ∷ xs) y (suc n) x at =
    ⊎_elim
    (λ (old : slice_get xs n ≡ Some x). inl old)
    (λ (new : (n ≡ length xs) × (y ≡ x)). let place = new.0 in let next : suc n ≡ length (z ∷ xs) = omega arith in inr (next, new.1))
    (pushed xs y n x at)

pub slice_get-front : {X : Type 0} (xs ys : List X) (n : ℕ) (x : X) → slice_get xs n ≡ Some x → slice_get (xs ++ ys) n ≡ Some x
slice_get-front [] ys n x at = absurd (let never : None ≡ Some x = at in cc)
slice_get-front (z ∷ xs) ys zero x at = at
slice_get-front (z ∷ xs) ys (suc n) x at = slice_get-front xs ys n x at

pub slice_get-last : {X : Type 0} (xs : List X) (y : X) → slice_get (xs ++ y ∷ []) (length xs) ≡ Some y
slice_get-last [] y = refl
slice_get-last (z ∷ xs) y = slice_get-last xs y

pub no_rooms : {X : Type 0} (xs : List X) → length xs ≡ 0 → xs ≡ []
no_rooms [] none = refl
no_rooms (x ∷ xs) none = absurd (omega arith)

-- ---- queues

-- the queue of a lane is among them
pub queue_there : {Q : Type 0} (waits : ℕ → ℕ → Q → Type 0) (lanes lane : ℕ) (queues : List Q) (queue : Q) → AreQueues lanes waits queues → lane < lanes → queue ≡ slice_index_or queues lane queue → waits lane 1 queue
queue_there waits lanes lane queues queue queued below is = queued.all lane queue (slice_get_read queues lanes lane queue (sym queued.one_each) below is)

-- the queue of the highest lane is taken, and those below it are left
pub queue_taken : {Q : Type 0} (waits : ℕ → ℕ → Q → Type 0) (lane : ℕ) (queues front : List Q) (queue : Q) → AreQueues (lane + 1) waits queues → queues ≡ front ++ queue ∷ []
    → (length front ≡ lane) × ((n : ℕ) (own : Q) → slice_get front n ≡ Some own → waits n 1 own) × waits lane 1 queue
queue_taken waits lane queues front queue queued parts =
    let both : length queues ≡ length front + 1 = ap length parts ∙ length-append front (queue ∷ []) in
    let many = queued.one_each in
    let place : length front ≡ lane = omega arith in (
      place,
      (λ n own at. queued.all n own (subst (λ l. slice_get l n ≡ Some own) (sym parts) (slice_get-front front (queue ∷ []) n own at))),
      subst (λ n. waits n 1 queue) place (queued.all (length front) queue (subst (λ l. slice_get l (length front) ≡ Some queue) (sym parts) (slice_get-last front queue))),
    )

-- ---- splitting

-- the lanes of a pass that is not gone
pub lanes_there : (v : View) → v.spent ≡ false → lanes_of v ≡ v.lane ∷ v.joined
lanes_there v alive = ap (λ b. lanes_if b v.lane v.joined) alive

-- all lanes may be split off a pass that has split off none
pub may_all : (top : ℕ) (v : View) → MaySplit 0 0 v → v.split_off ≡ [] → MaySplit top top v
may_all top v may none = record {
  below = omega arith;
  first = may.first;
  lanes = may.lanes;
  seen = may.seen;
  unsplit = λ n above below. ap (has n) none;
  within = λ n one. absurd (off (sym (ap (has n) none) ∙ one));
}

-- a lane that may be split off was not
pub unsplit : (top lane : ℕ) (v : View) → 0 < lane → MaySplit top lane v → has lane (0 ∷ v.split_off) ≡ false
unsplit top lane v some may = ap (λ b. b || has lane v.split_off) (ne_eqb 0 lane (λ same. omega arith)) ∙ may.unsplit lane some (omega arith)

pub left_may : (top lane : ℕ) (v w : View) → 0 < lane → MaySplit top lane v → w ≡ left_of (naming v lane) → MaySplit top (lane - 1) w
left_may top lane v w some may is =
    subst (MaySplit top (lane - 1)) (sym is) (record {
      below = let b = may.below in omega arith;
      first = may.first;
      lanes = may.lanes;
      seen = may.seen;
      unsplit = λ n above below. ap (λ b. b || has n v.split_off) (ne_eqb lane n (λ same. omega arith)) ∙ may.unsplit n above (omega arith);
      within = λ n one. ⊎_elim
          (λ (same : (lane == n) ≡ true). let is_lane : lane ≡ n = has_one n lane (or_left (lane == n) false same) in let b = may.below in omega arith)
          (λ (old : has n v.split_off ≡ true). may.within n old)
          (or_split (lane == n) (has n v.split_off) one);
    })

pub right_new : (top lane : ℕ) (v w : View) → MaySplit top lane v → w ≡ right_of (naming v lane) → IsNewLane lane w
right_new top lane v w may is = subst (IsNewLane lane) (sym is) (record { lanes = refl; own = refl; none = ap (turns_by lane) may.seen })

-- the first pass is that of lane 0
pub first_new : (top : ℕ) (v : View) → v.spent ≡ false → MaySplit top 0 v → IsNewLane 0 v
first_new top v alive may =
    let both : v.lane ∷ v.joined ≡ 0 ∷ [] = sym (lanes_there v alive) ∙ may.lanes in
    record { lanes = may.lanes; own = let own : v.lane ≡ 0 = cc in own; none = ap (turns_by 0) may.seen }

-- ---- joining

module _ (came : ℕ → ℕ → List Exchange → Driven Outcome → Type 0) (count : ℕ → ℕ) where
  -- lane 0 alone
  pub did_first : (top : ℕ) (v w : View) (room : Vec (Driven Outcome) Global) → MaySplit top 0 v → claim_of w ≡ claim_of v → LaneDid came (count 0) 0 room.items (turns_by 0 w.seen) → DidDown came count top 0 ([] ++ room ∷ []) w
  did_first top v w room may same did =
      let lanes : lanes_of w ≡ 0 ∷ [] = ap (λ (k : Claim). k.lanes) same ∙ may.lanes in
      record {
        one_each = refl;
        first = ap (λ (k : Claim). k.first) same ∙ may.first;
        lanes = λ n below. let none : 0 ≡ n = omega arith in subst (λ l. has n l ≡ true) (sym lanes) (subst (λ k. has k (0 ∷ []) ≡ true) none (has_here 0 []));
        only = λ n one. let none : 0 ≡ n = has_one n 0 (subst (λ l. has n l ≡ true) lanes one) in omega arith;
        within = λ n one. may.within n (subst (λ l. has n l ≡ true) (ap (λ (k : Claim). k.split_off) same) one);
        did = λ n own at. only_one n own at;
      }
    where
      only_one : (n : ℕ) (own : Vec (Driven Outcome) Global) → slice_get (room ∷ []) n ≡ Some own → LaneDid came (count n) n own.items (turns_by n w.seen)
      only_one zero own at = let same_room : room ≡ own = let both : Some room ≡ Some own = at in cc in subst (λ (r : Vec (Driven Outcome) Global). LaneDid came (count 0) 0 r.items (turns_by 0 w.seen)) same_room did
      only_one (suc n) own at = absurd (let never : None ≡ Some own = at in cc)

  -- the next lane joins those below it
  pub did_joined : (top lane : ℕ) (w u w' : View) (results : List (Vec (Driven Outcome) Global)) (room : Vec (Driven Outcome) Global) → 0 < lane → w.spent ≡ false → lanes_of u ≡ lane ∷ []
      → DidDown came count top (lane - 1) results w → LaneDid came (count lane) lane room.items (turns_by lane u.seen) → w' ≡ joined_view w u → Hears w.seen (lanes_of w) w'.seen → Hears u.seen (lanes_of u) w'.seen
      → DidDown came count top lane (results ++ room ∷ []) w'
  did_joined top lane w u w' results room some alive single down did is left right =
      let alive' : w'.spent ≡ false = ap (λ (k : View). k.spent) is ∙ alive in
      let lanes : lanes_of w' ≡ lanes_of w ++ lane ∷ [] = ap lanes_of is ∙ ap (λ b. lanes_if b w.lane (w.joined ++ lanes_of u)) alive ∙ ap (λ l. (w.lane ∷ w.joined) ++ l) single ∙ ap (λ l. l ++ lane ∷ []) (sym (lanes_there w alive)) in
      let sum : (n : ℕ) → has n (lanes_of w') ≡ (has n (lanes_of w) || has n (lane ∷ [])) = λ n. ap (has n) lanes ∙ has_append n (lanes_of w) (lane ∷ []) in
      let many = down.one_each in
      let last : length results ≡ lane = omega arith in
      record {
        one_each = omega (arith, length-append results (room ∷ []));
        first = ap (λ (k : View). k.first) is ∙ down.first;
        lanes = λ n below. sum n ∙ joined_lane n (lane == n) refl below;
        only = λ n one. ⊎_elim
            (λ (old : has n (lanes_of w) ≡ true). let b = down.only n old in omega arith)
            (λ (new : has n (lane ∷ []) ≡ true). let same : lane ≡ n = has_one n lane new in omega arith)
            (or_split (has n (lanes_of w)) (has n (lane ∷ [])) (sym (sum n) ∙ one));
        within = λ n one. down.within n (subst (λ l. has n l ≡ true) (ap (λ (k : View). k.split_off) is) one);
        did = λ n own at. ⊎_elim
            (λ (old : slice_get results n ≡ Some own).
            let below = slice_get_within results n own old in
            subst (LaneDid came (count n) n own.items) (sym (left.own n (down.lanes n (omega arith)))) (down.did n own old))
            (λ (new : (n ≡ length results) × (room ≡ own)).
            let same : lane ≡ n = sym last ∙ sym new.0 in
            subst (λ k. LaneDid came (count k) k own.items (turns_by k w'.seen)) same
            (subst (λ (r : Vec (Driven Outcome) Global). LaneDid came (count lane) lane r.items (turns_by lane w'.seen)) new.1
            (subst (LaneDid came (count lane) lane room.items) (sym (right.own lane (subst (λ l. has lane l ≡ true) (sym single) (has_here lane [])))) did)))
            (pushed results room n own at);
      }
    where
      joined_lane : (n : ℕ) (b : Bool) → (lane == n) ≡ b → n ≤ lane → (has n (lanes_of w) || has n (lane ∷ [])) ≡ true
      joined_lane n true same below = or_right (has n (lanes_of w)) (has n (lane ∷ [])) (or_left (lane == n) false same)
      joined_lane n false other below = or_left (has n (lanes_of w)) (has n (lane ∷ [])) (down.lanes n (let apart : lane ≢ n = λ same. both_of (lane == n) (eq-eqb lane n same) other in omega arith))

  -- all lanes are joined
  pub did_all : (lanes top : ℕ) (results : List (Vec (Driven Outcome) Global)) (w : View) → lanes ≡ top + 1 → DidDown came count top top results w → LanesDid came lanes count results w
  did_all lanes top results w is down =
      let many = down.one_each in
      record {
        one_each = omega arith;
        first = down.first;
        joined = λ n one. down.lanes n (⊎_elim
            (λ (zeroth : (0 == n) ≡ true). let none : 0 ≡ n = has_one n 0 (or_left (0 == n) false zeroth) in omega arith)
            (λ (split : has n w.split_off ≡ true). down.within n split)
            (or_split (0 == n) (has n w.split_off) one));
        did = down.did;
        others = λ n one above. let b = down.only n one in absurd (omega arith);
      }

  -- there are none
  pub did_none : (results : List (Vec (Driven Outcome) Global)) (w : View) → length results ≡ 0 → MaySplit 0 0 w → w.split_off ≡ [] → LanesDid came 0 count results w
  did_none results w none may split =
      record {
        one_each = none;
        first = may.first;
        joined = λ n one. subst (λ l. has n l ≡ true) (sym may.lanes) (subst (λ l. has n (0 ∷ l) ≡ true) split one);
        did = λ n own at. let within = slice_get_within results n own at in absurd (omega arith);
        others = λ n one above. ap (turns_by n) may.seen;
      }

  -- the room of the highest lane is taken, and those below it are left
  pub room_taken : (lane : ℕ) (rooms front : List (Vec (Driven Outcome) Global)) (room : Vec (Driven Outcome) Global) → length rooms ≡ lane + 1 → AreRooms count rooms → rooms ≡ front ++ room ∷ []
      → (length front ≡ lane) × AreRooms count front × (room.items ≡ []) × (count lane ≤ vec_capacity room)
  room_taken lane rooms front room many all parts =
      let both : length rooms ≡ length front + 1 = ap length parts ∙ length-append front (room ∷ []) in
      let place : length front ≡ lane = omega arith in
      let mine = all (length front) room (subst (λ l. slice_get l (length front) ≡ Some room) (sym parts) (slice_get-last front room)) in (
        place,
        (λ n own at. all n own (subst (λ l. slice_get l n ≡ Some own) (sym parts) (slice_get-front front (room ∷ []) n own at))),
        mine.0,
        subst (λ n. count n ≤ vec_capacity room) place mine.1,
      )
