-- The turns of all lanes: their order, and those of each command.
use Rattle.std.proofs.Common.{◌≡◌, ◌≢◌, ℕ, zero, suc, ◌+◌, ◌<◌, ◌≤◌, ◌==◌, Bool, true, false, cond, Option, Some, None, List, [], ◌∷◌, ◌++◌, length, map, All, slice_get, refl, sym, ap, ◌∙◌, subst, arith, eq-eqb, ne_eqb, append-nil}
use Rattle.std.specs.Bool.{⊤}
use Rattle.std.specs.List.{cons_option, filter_map}
use Rattle.std.proofs.lemmas.List.Elements.{filter_map-append, All-nil, All-cons, All-head, All-tail, All-append, All-weaker}
use mathlib.Core.Logic.{dite}
use native.Mathlib.Decide.{ℕ_discrete}
use Rattle.ts_model.specs.declared.answers.Driven.{Driven}
use Rattle.ts_model.specs.declared.answers.Outcome.{Outcome}
use Rattle.ts_model.specs.States.{Exchange}
use Rattle.ts_model.specs.Told.{IsShortCall}
use Rattle.ts_turnstile.specs.declared.turn.Turn.{Turn}
use Rattle.ts_turnstile.specs.Turns.{turns_by}
use Rattle.ts_lanes.specs.Commands.{exchange_in, IsTurnOf, Did}

-- ---- lists of turns, by lanes

-- what holds of the turns of each lane holds of all
pub all_by : (P : Turn → Type 0) (turns : List Turn) → ((lane : ℕ) → All P (turns_by lane turns)) → All P turns
all_by P [] each = All-nil P
all_by P (t ∷ turns) each =
    let here : All P (t ∷ turns_by t.lane turns) = subst (λ b. All P (cond b (t ∷ turns_by t.lane turns) (turns_by t.lane turns))) (eq-eqb t.lane t.lane refl) (each t.lane) in
    All-cons P t turns (All-head P t (turns_by t.lane turns) here) (all_by P turns (λ lane. of_rest (t.lane == lane) (turns_by lane turns) (each lane)))
  where
    of_rest : (own : Bool) (rest : List Turn) → All P (cond own (t ∷ rest) rest) → All P rest
    of_rest true rest all = All-tail P t rest all
    of_rest false rest all = all

-- what holds of the turns of a lane holds of each turn that is in this lane
pub all_in_lane : (P : Turn → Type 0) (lane : ℕ) (turns : List Turn) → All P (turns_by lane turns) → All (λ u. lane ≡ u.lane → P u) turns
all_in_lane P lane [] all = All-nil (λ u. lane ≡ u.lane → P u)
all_in_lane P lane (t ∷ turns) all =
    dite (ℕ_discrete t.lane lane)
    (λ (same : t.lane ≡ lane).
    let here : All P (t ∷ turns_by lane turns) = subst (λ b. All P (cond b (t ∷ turns_by lane turns) (turns_by lane turns))) (eq-eqb t.lane lane same) all in
    All-cons (λ u. lane ≡ u.lane → P u) t turns (λ is. All-head P t (turns_by lane turns) here) (all_in_lane P lane turns (All-tail P t (turns_by lane turns) here)))
    (λ (other : t.lane ≢ lane).
    let here : All P (turns_by lane turns) = subst (λ b. All P (cond b (t ∷ turns_by lane turns) (turns_by lane turns))) (ne_eqb t.lane lane other) all in
    All-cons (λ u. lane ≡ u.lane → P u) t turns (λ is. absurd (other (sym is))) (all_in_lane P lane turns here))

pub all_both : {A : Type 0} (P Q : A → Type 0) (xs : List A) → All P xs → All Q xs → All (λ x. P x × Q x) xs
all_both P Q [] p q = All-nil (λ x. P x × Q x)
all_both P Q (x ∷ xs) p q = All-cons (λ x. P x × Q x) x xs (All-head P x xs p, All-head Q x xs q) (all_both P Q xs (All-tail P x xs p) (All-tail Q x xs q))

-- ---- the order of the numbers

-- no turn of a later command stands before one of an earlier command
abbrev pub Sorted : List Turn → Type 0
Sorted [] = ⊤
Sorted (t ∷ turns) = All (λ u. t.number ≤ u.number) turns × Sorted turns

-- the same of turns in several lanes
abbrev pub InOrder : List Turn → Type 0
InOrder [] = ⊤
InOrder (t ∷ turns) = All (λ u. t.lane ≡ u.lane → t.number ≤ u.number) turns × InOrder turns

pub in_order : (turns : List Turn) → ((lane : ℕ) → Sorted (turns_by lane turns)) → InOrder turns
in_order [] each = tt
in_order (t ∷ turns) each =
    let here : Sorted (t ∷ turns_by t.lane turns) = subst (λ b. Sorted (cond b (t ∷ turns_by t.lane turns) (turns_by t.lane turns))) (eq-eqb t.lane t.lane refl) (each t.lane) in
    (all_in_lane (λ u. t.number ≤ u.number) t.lane turns here.0, in_order turns (λ lane. of_rest (t.lane == lane) (turns_by lane turns) (each lane)))
  where
    of_rest : (own : Bool) (rest : List Turn) → Sorted (cond own (t ∷ rest) rest) → Sorted rest
    of_rest true rest sorted = sorted.1
    of_rest false rest sorted = sorted

-- turns of one command before those of later ones
sorted_append : (lane number : ℕ) (own rest : List Turn) → All (IsTurnOf lane number) own → Sorted rest → All (λ u. 1 + number ≤ u.number) rest → Sorted (own ++ rest)
sorted_append lane number [] rest of_it sorted later = sorted
sorted_append lane number (t ∷ own) rest of_it sorted later =
    let first = All-head (IsTurnOf lane number) t own of_it in
    let rest_of_it = All-tail (IsTurnOf lane number) t own of_it in
    let mine : t.number ≡ number = first.1 in (
      All-append (λ u. t.number ≤ u.number) own rest
          (All-weaker (IsTurnOf lane number) (λ u. t.number ≤ u.number) (λ u is. let theirs : u.number ≡ number = is.1 in omega arith) own rest_of_it)
          (All-weaker (λ u. 1 + number ≤ u.number) (λ u. t.number ≤ u.number) (λ u is. omega arith) rest later),
      sorted_append lane number own rest rest_of_it sorted later,
    )

-- ---- the turns of one lane's commands

module _ (came : ℕ → ℕ → List Exchange → Driven Outcome → Type 0) (lane : ℕ) where
  -- their numbers are those of the commands
  pub did_within : (number : ℕ) (results : List (Driven Outcome)) (turns : List Turn) → Did came lane number results turns → All (λ t. (t.lane ≡ lane) × (number ≤ t.number) × (t.number < number + length results) × IsShortCall t.call) turns
  did_within number [] turns none = subst (All (λ t. (t.lane ≡ lane) × (number ≤ t.number) × (t.number < number + 0) × IsShortCall t.call)) (sym none) (All-nil (λ t. (t.lane ≡ lane) × (number ≤ t.number) × (t.number < number + 0) × IsShortCall t.call))
  did_within number (result ∷ results) turns (own, rest, parts, of_it, came_out, did) =
      let P : Turn → Type 0 = λ t. (t.lane ≡ lane) × (number ≤ t.number) × (t.number < number + length (result ∷ results)) × IsShortCall t.call in
      subst (All P) (sym parts)
      (All-append P own rest
      (All-weaker (IsTurnOf lane number) P (λ t is. let mine : t.number ≡ number = is.1 in (is.0, omega arith, omega arith, is.2)) own of_it)
      (All-weaker (λ t. (t.lane ≡ lane) × (1 + number ≤ t.number) × (t.number < 1 + number + length results) × IsShortCall t.call) P (λ t is. let a = is.1 in let b = is.2 in (is.0, omega arith, omega arith, is.3)) rest (did_within (1 + number) results rest did)))

  pub did_sorted : (number : ℕ) (results : List (Driven Outcome)) (turns : List Turn) → Did came lane number results turns → Sorted turns
  did_sorted number [] turns none = subst Sorted (sym none) tt
  did_sorted number (result ∷ results) turns (own, rest, parts, of_it, came_out, did) =
      subst Sorted (sym parts)
      (sorted_append lane number own rest of_it (did_sorted (1 + number) results rest did)
      (All-weaker (λ t. (t.lane ≡ lane) × (1 + number ≤ t.number) × (t.number < 1 + number + length results) × IsShortCall t.call) (λ u. 1 + number ≤ u.number) (λ t is. is.1) rest (did_within (1 + number) results rest did)))

-- the call of a turn, where it is one of the command with a number
abbrev pub numbered_call : ℕ → Turn → Option Exchange
numbered_call number t = cond (t.number == number) (Some (exchange_in t)) None

-- the calls of the turns of the command with a number
abbrev pub numbered : ℕ → List Turn → List Exchange
numbered number turns = filter_map (numbered_call number) turns

numbered_own : (lane number : ℕ) (own : List Turn) → All (IsTurnOf lane number) own → numbered number own ≡ map exchange_in own
numbered_own lane number [] of_it = refl
numbered_own lane number (t ∷ own) of_it =
    ap (λ b. cons_option (cond b (Some (exchange_in t)) None) (numbered number own)) (eq-eqb t.number number (All-head (IsTurnOf lane number) t own of_it).1)
    ∙ ap (λ l. exchange_in t ∷ l) (numbered_own lane number own (All-tail (IsTurnOf lane number) t own of_it))

numbered_none : (number : ℕ) (turns : List Turn) → All (λ t. t.number ≢ number) turns → numbered number turns ≡ []
numbered_none number [] others = refl
numbered_none number (t ∷ turns) others =
    ap (λ b. cons_option (cond b (Some (exchange_in t)) None) (numbered number turns)) (ne_eqb t.number number (All-head (λ t. t.number ≢ number) t turns others))
    ∙ numbered_none number turns (All-tail (λ t. t.number ≢ number) t turns others)

-- each command came out by the calls with its number
pub came_by : (came : ℕ → ℕ → List Exchange → Driven Outcome → Type 0) (lane number : ℕ) (results : List (Driven Outcome)) (turns : List Turn) → Did came lane number results turns
    → (k : ℕ) (result : Driven Outcome) → slice_get results k ≡ Some result → came lane (number + k) (numbered (number + k) turns) result
came_by came lane number [] turns none k result at = absurd (let never : None ≡ Some result = at in cc)
came_by came lane number (first ∷ results) turns (own, rest, parts, of_it, came_out, did) zero result at =
    let same : first ≡ result = let both : Some first ≡ Some result = at in cc in
    let place : number ≡ number + 0 = omega arith in
    let later : All (λ t. t.number ≢ number) rest = All-weaker (λ t. (t.lane ≡ lane) × (1 + number ≤ t.number) × (t.number < 1 + number + length results) × IsShortCall t.call) (λ t. t.number ≢ number) (λ t is. λ mine. let a = is.1 in absurd (omega arith)) rest (did_within came lane (1 + number) results rest did) in
    let calls : numbered number turns ≡ map exchange_in own =
    ap (numbered number) parts ∙ filter_map-append (numbered_call number) own rest ∙ ap (λ l. l ++ numbered number rest) (numbered_own lane number own of_it) ∙ ap (λ l. map exchange_in own ++ l) (numbered_none number rest later) ∙ append-nil (map exchange_in own) in
    subst (λ n. came lane n (numbered n turns) result) place (subst (λ r. came lane number (numbered number turns) r) same (subst (λ l. came lane number l first) (sym calls) came_out))
came_by came lane number (first ∷ results) turns (own, rest, parts, of_it, came_out, did) (suc k) result at =
    let place : 1 + number + k ≡ number + suc k = omega arith in
    let others : All (λ t. t.number ≢ 1 + number + k) own = All-weaker (IsTurnOf lane number) (λ t. t.number ≢ 1 + number + k) (λ t is. λ mine. let own_number = is.1 in absurd (omega arith)) own of_it in
    let calls : numbered (1 + number + k) turns ≡ numbered (1 + number + k) rest =
    ap (numbered (1 + number + k)) parts ∙ filter_map-append (numbered_call (1 + number + k)) own rest ∙ ap (λ l. l ++ numbered (1 + number + k) rest) (numbered_none (1 + number + k) own others) in
    subst (λ n. came lane n (numbered n turns) result) place (subst (λ l. came lane (1 + number + k) l result) (sym calls) (came_by came lane (1 + number) results rest did k result at))
