-- The turns of all lanes as one list of calls.
use Rattle.std.proofs.Common.{◌≡◌, ◌≢◌, ⊎_elim, ℕ, ◌≤◌, ◌==◌, Bool, true, false, cond, Option, Some, None, IfSome, List, [], ◌∷◌, All, inl, inr, refl, sym, ap, ◌∙◌, subst, eq-eqb, ne_eqb, nat_eq}
use Rattle.std.specs.List.{cons_option}
use Rattle.std.proofs.lemmas.List.Elements.{All-nil, All-cons, All-head, All-tail}
use mathlib.Core.Logic.{dite}
use native.Mathlib.Decide.{ℕ_discrete}
use Rattle.ts_base.specs.Held.{Held}
use Rattle.ts_store.specs.declared.call.Call.{Call}
use Rattle.ts_store.specs.declared.call.Reply.{Reply}
use Rattle.ts_store.specs.declared.call.Reply.TheVariants as reply
use Rattle.ts_store.specs.declared.fate.Fate.{Fate}
use Rattle.ts_store.specs.Calls.{after, is_no_memory, FitsCall}
use Rattle.ts_store.specs.Journals.{entry}
use Rattle.ts_store.specs.Recorders.{WasMade}
use Rattle.ts_store.specs.Stores.{Steps}
use Rattle.ts_model.specs.States.{Exchange}
use Rattle.ts_model.specs.Told.{Told, trace_of, exchange_of, changes, after_told, held_told, IsShortCall, Suits, IsReplied, Replied, entries_of}
use Rattle.ts_model.specs.Driving.{Leaves}
use Rattle.ts_actor.specs.Drives.{Exchanged, MayBeMade, MadeOf}
use Rattle.ts_turnstile.specs.declared.turn.Turn.{Turn}
use Rattle.ts_turnstile.specs.Turns.{entries_in, turns_by}
use Rattle.ts_turnstile.specs.Chains.{CallDid, Missed, TurnDid, LeadTo}
use Rattle.ts_lanes.specs.Commands.{IsCommand, exchange_in}
use Rattle.ts_lanes.specs.Together.{Numbers, held_on, told_over, told_by, lane_in, IsOfCommand, IsBefore, InTurn}
use Rattle.ts_lanes.proofs.Merging.{all_both, InOrder, numbered_call, numbered}

-- the turn is one of a command, and its call is short
abbrev pub IsOwned : ℕ → (ℕ → ℕ) → Turn → Type 0
IsOwned lanes count t = IsCommand lanes count t.lane t.number × IsShortCall t.call

module _ (index : ℕ → ℕ → ℕ) where
  -- what holds of the turns holds of their calls
  pub all_told : (P : Turn → Type 0) (Q : Told → Type 0) → ((o : Option Held) (t : Turn) → P t → Q (told_over index o t)) → (turns : List Turn) → All P turns → (o : Option Held) → All Q (told_by index o turns)
  all_told P Q on [] all o = All-nil Q
  all_told P Q on (t ∷ turns) all o = All-cons Q (told_over index o t) (told_by index (held_on o t) turns) (on o t (All-head P t turns all)) (all_told P Q on turns (All-tail P t turns all) (held_on o t))

module _ {S : Type 0} (index : ℕ → ℕ → ℕ) (held : S → Option Held) (last : S → Fate) (faults asked : S → ℕ) (notes : S → Call → Reply → S → Type 0) where
  abbrev did : S → Turn → S → Type 0
  did = TurnDid held last faults asked notes

  abbrev exchanged : S → Exchange → S → Type 0
  exchanged = Exchanged held last faults (WasMade asked notes)

  -- just these calls were made of the store
  pub made_of : (store later : S) (turns : List Turn) (o : Option Held) → All (λ t. IsShortCall t.call) turns → LeadTo did store turns later → MadeOf last exchanged store (told_by index o turns) later
  made_of store later [] o short same = same
  made_of store later (t ∷ turns) o short (between, step, rest) = (
    between,
    ⊎_elim
        {C = MayBeMade last exchanged store (told_over index o t) between}
        (λ (made : CallDid held last faults asked notes store t between). inl (record { fits = made.fits; short = All-head (λ t. IsShortCall t.call) t turns short; spelled = made.spelled; answers = made.answers; cause = made.cause; noted = made.noted }, made.fate))
        (λ (missed : Missed store t between). inr (missed.same, missed.missed))
        step,
    made_of between later turns (held_on o t) (All-tail (λ t. IsShortCall t.call) t turns short) rest,
  )

  no_memory : (r : Reply) → is_no_memory r ≡ true → r ≡ reply.NoMemory
  no_memory reply.NoMemory is = refl
  no_memory _ is = let never : ⊥ = cc in absurd never

  fits_no_memory : (c : Call) → FitsCall c reply.NoMemory
  fits_no_memory c = tt

  -- each reply suits its call
  pub suits : (store later : S) (turns : List Turn) (o : Option Held) → All (λ t. IsShortCall t.call) turns → LeadTo did store turns later → All Suits (told_by index o turns)
  suits store later [] o short same = All-nil Suits
  suits store later (t ∷ turns) o short (between, step, rest) =
      let mine : IsShortCall t.call = All-head (λ t. IsShortCall t.call) t turns short in
      All-cons Suits (told_over index o t) (told_by index (held_on o t) turns)
      (⊎_elim
      {C = Suits (told_over index o t)}
      (λ (made : CallDid held last faults asked notes store t between). record {
        short = mine;
        fits = made.fits;
        failed = λ failed. λ is_done. made.answers.failed failed (sym made.fate ∙ is_done);
        served = λ served. made.fate ∙ made.answers.served served;
      })
      (λ (missed : Missed store t between).
      let said = no_memory t.reply missed.missed in
      record {
        short = mine;
        fits = subst (FitsCall t.call) (sym said) (fits_no_memory t.call);
        failed = λ failed. λ is_done. let never : ⊥ = cc in never;
        served = λ served. missed.fate;
      })
      step)
      (suits between later turns (held_on o t) (All-tail (λ t. IsShortCall t.call) t turns short) rest)

  -- over a store that told what it held each call is replied to over what those before it left
  replied_once : (m : Held) (store between : S) (t : Turn) → held store ≡ Some m → did store t between → IsReplied m (told_over index (Some m) t) × (held between ≡ Some (after_told m (told_over index (Some m) t)))
  replied_once m store between t is step =
      ⊎_elim
      (λ (made : CallDid held last faults asked notes store t between).
      let stepped : Steps (is_no_memory t.reply) m (held between) (last between) t.call t.reply = subst (λ o. IfSome o (λ h. Steps (is_no_memory t.reply) h (held between) (last between) t.call t.reply)) is made.answers.told in
      by_memory (is_no_memory t.reply) refl (subst (λ f. Steps (is_no_memory t.reply) m (held between) f t.call t.reply) (sym made.fate) stepped))
      (λ (missed : Missed store t between).
      (inl (missed.missed, ap (λ b. cond b false (changes m t.call t.fate)) missed.missed), ap held missed.same ∙ is ∙ ap (λ b. Some (cond b m (after m t.call t.fate))) (sym missed.missed)))
      step
    where
      by_memory : (b : Bool) → is_no_memory t.reply ≡ b → Steps b m (held between) t.fate t.call t.reply → IsReplied m (told_over index (Some m) t) × (held between ≡ Some (after_told m (told_over index (Some m) t)))
      by_memory true missed now = (inl (missed, ap (λ b. cond b false (changes m t.call t.fate)) missed), now ∙ ap (λ b. Some (cond b m (after m t.call t.fate))) (sym missed))
      by_memory false found now = (inr (now.1, ap (λ b. cond b false (changes m t.call t.fate)) found), now.0 ∙ ap (λ b. Some (cond b m (after m t.call t.fate))) (sym found))

  leaves_from : (m : Held) (store later : S) (turns : List Turn) → held store ≡ Some m → LeadTo did store turns later → Replied m (told_by index (Some m) turns) × (held later ≡ Some (held_told m (told_by index (Some m) turns)))
  leaves_from m store later [] is same = (tt, ap held same ∙ is)
  leaves_from m store later (t ∷ turns) is (between, step, rest) =
      let once = replied_once m store between t is step in
      let on = leaves_from (after_told m (told_over index (Some m) t)) between later turns once.1 rest in
      ((once.0, on.0), on.1)

  pub leaves : (store later : S) (turns : List Turn) → LeadTo did store turns later → IfSome (held store) (λ m. Leaves m (held later) (told_by index (held store) turns))
  leaves store later turns lead = of_held (held store) refl
    where
      of_held : (o : Option Held) → held store ≡ o → IfSome o (λ m. Leaves m (held later) (told_by index o turns))
      of_held None is = tt
      of_held (Some m) is = let all = leaves_from m store later turns is lead in record { replied = all.0; held = all.1 }

module _ (lanes : ℕ) (count : ℕ → ℕ) (index : ℕ → ℕ → ℕ) (lane_of : ℕ → ℕ) (numbers : Numbers lanes count index lane_of) where
  -- each call is one of a command
  pub owned : (turns : List Turn) (o : Option Held) → All (IsOwned lanes count) turns → All (IsOfCommand lanes count index) (told_by index o turns)
  owned turns o all = all_told index (IsOwned lanes count) (IsOfCommand lanes count index) (λ o t is. (t.lane, t.number, is.0, refl)) turns all o

  -- the journal has their entries
  pub entries : (turns : List Turn) (o : Option Held) → All (IsOwned lanes count) turns → entries_of (lane_in lane_of) (told_by index o turns) ≡ entries_in turns
  entries [] o all = refl
  entries (t ∷ turns) o all =
      ap (λ l. cons_option (cond (is_no_memory t.reply) None (Some (entry l t.call t.fate))) (entries_of (lane_in lane_of) (told_by index (held_on o t) turns))) (numbers.lane t.lane t.number (All-head (IsOwned lanes count) t turns all).0)
      ∙ ap (λ l. cons_option (cond (is_no_memory t.reply) None (Some (entry t.lane t.call t.fate))) l) (entries turns (held_on o t) (All-tail (IsOwned lanes count) t turns all))

  -- those of a lane's commands come one after the other
  pub in_turn : (turns : List Turn) (o : Option Held) → All (IsOwned lanes count) turns → InOrder turns → InTurn lane_of (told_by index o turns)
  in_turn [] o all order = tt
  in_turn (t ∷ turns) o all order = (
    all_told index (λ u. IsOwned lanes count u × (t.lane ≡ u.lane → t.number ≤ u.number)) (IsBefore lane_of (told_over index o t))
        (λ o u is. λ i j mine theirs same.
        let first : index t.lane t.number ≡ i = cc in
        let second : index u.lane u.number ≡ j = cc in
        let one_lane : t.lane ≡ u.lane = sym (numbers.lane t.lane t.number (All-head (IsOwned lanes count) t turns all).0) ∙ ap lane_of first ∙ same ∙ sym (ap lane_of second) ∙ numbers.lane u.lane u.number is.0.0 in
        let least : index t.lane t.number ≤ index t.lane u.number = numbers.order t.lane t.number u.number (is.1 one_lane) in
        subst (λ n. n ≤ j) first (subst (λ n. index t.lane t.number ≤ n) (ap (λ l. index l u.number) one_lane ∙ second) least))
        turns (all_both (IsOwned lanes count) (λ u. t.lane ≡ u.lane → t.number ≤ u.number) turns (All-tail (IsOwned lanes count) t turns all) order.0) (held_on o t),
    in_turn turns (held_on o t) (All-tail (IsOwned lanes count) t turns all) order.1,
  )

  module _ (lane number : ℕ) (is : IsCommand lanes count lane number) where
    -- a turn's call is one of the command where the turn is one of its lane with its number
    turn_is : (t : Turn) (o : Option Held) (lane_turns : List Turn) (calls : List Exchange) → IsOwned lanes count t → calls ≡ numbered number lane_turns
        → cons_option (exchange_of (index lane number) (told_over index o t)) calls ≡ numbered number (cond (t.lane == lane) (t ∷ lane_turns) lane_turns)
    turn_is t o lane_turns calls own same =
        dite (ℕ_discrete t.lane lane)
        (λ (one_lane : t.lane ≡ lane).
        let mine : numbered number (cond (t.lane == lane) (t ∷ lane_turns) lane_turns) ≡ cons_option (numbered_call number t) (numbered number lane_turns) = ap (λ b. numbered number (cond b (t ∷ lane_turns) lane_turns)) (eq-eqb t.lane lane one_lane) in
        let by : nat_eq (index t.lane t.number) (index lane number) ≡ (t.number == number) =
        dite (ℕ_discrete t.number number)
        (λ (one : t.number ≡ number). eq-eqb (index t.lane t.number) (index lane number) (ap (λ l. index l t.number) one_lane ∙ ap (index lane) one) ∙ sym (eq-eqb t.number number one))
        (λ (other : t.number ≢ number).
        ne_eqb (index t.lane t.number) (index lane number) (λ hit. other (numbers.apart lane t.number number (subst (λ l. IsCommand lanes count l t.number) one_lane own.0) is (sym (ap (λ l. index l t.number) one_lane) ∙ hit)))
        ∙ sym (ne_eqb t.number number other)) in
        ap (λ b. cons_option (cond b (Some (exchange_in t)) None) calls) by ∙ ap (cons_option (numbered_call number t)) same ∙ sym mine)
        (λ (apart : t.lane ≢ lane).
        let others : numbered number (cond (t.lane == lane) (t ∷ lane_turns) lane_turns) ≡ numbered number lane_turns = ap (λ b. numbered number (cond b (t ∷ lane_turns) lane_turns)) (ne_eqb t.lane lane apart) in
        let by : nat_eq (index t.lane t.number) (index lane number) ≡ false = ne_eqb (index t.lane t.number) (index lane number) (λ hit. apart (sym (numbers.lane t.lane t.number own.0) ∙ ap lane_of hit ∙ numbers.lane lane number is)) in
        ap (λ b. cons_option (cond b (Some (exchange_in t)) None) calls) by ∙ same ∙ sym others)

    -- the calls of a command are those with its number in its lane
    pub trace_is : (turns : List Turn) (o : Option Held) → All (IsOwned lanes count) turns → trace_of (index lane number) (told_by index o turns) ≡ numbered number (turns_by lane turns)
    trace_is [] o all = refl
    trace_is (t ∷ turns) o all = turn_is t o (turns_by lane turns) (trace_of (index lane number) (told_by index (held_on o t) turns)) (All-head (IsOwned lanes count) t turns all) (trace_is turns (held_on o t) (All-tail (IsOwned lanes count) t turns all))
