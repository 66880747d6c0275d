-- What turns leave of the store, and what a whole call tells of its pass.
use Rattle.std.proofs.Common.{◌≡◌, ◌≢◌, ⊎_elim, ℕ, ◌+◌, ◌≤◌, Bool, true, false, Option, Some, None, IfSome, IsSome, List, [], ◌∷◌, ◌++◌, refl, sym, ap, ◌∙◌, subst, arith, cond, append-nil}
use Rattle.std.specs.List.{cons_option}
use Rattle.ts_base.specs.Held.{Held}
use Rattle.ts_store.specs.declared.fate.Fate.{Fate}
use Rattle.ts_store.specs.declared.fate.Fate.TheVariants as fate
use Rattle.ts_store.specs.declared.call.Call.{Call}
use Rattle.ts_store.specs.declared.call.Reply.{Reply}
use Rattle.ts_store.specs.declared.journal.Entry.{Entry}
use Rattle.ts_store.specs.Calls.{is_no_memory, reply_of}
use Rattle.ts_store.specs.Counts.{capped}
use Rattle.ts_store.specs.Journals.{entry, held_after, failures, EntersIf, Enters}
use Rattle.ts_store.specs.Stores.{Steps}
use Rattle.ts_store.proofs.JournalLemmas.{held_after-append, held_after-Enters, failures-append, failures-Enters}
use Rattle.ts_turnstile.specs.declared.closed.Closed.{Closed}
use Rattle.ts_turnstile.specs.declared.turn.Turn.{Turn}
use Rattle.ts_turnstile.specs.declared.view.Opening.{Opening}
use Rattle.ts_turnstile.specs.declared.view.View.{View}
use Rattle.ts_turnstile.specs.Lanes.{Hears}
use Rattle.ts_turnstile.specs.Turns.{turn, entries_in}
use Rattle.ts_turnstile.specs.Chains.{CallDid, Missed, TurnDid, LeadTo}
use Rattle.ts_turnstile.specs.Views.{opening_of, lanes_of, saw}
use Rattle.ts_turnstile.specs.Passes.{CalledInTurn}
use Rattle.ts_turnstile.specs.Rule.{Replays, Stands}
use Rattle.ts_turnstile.proofs.Growth.{entries_in-append}

module _ {S : Type 0} (did : S → Turn → S → Type 0) where
  -- one more turn
  pub lead_on : (before between after : S) (turns : List Turn) (t : Turn) → LeadTo did before turns between → did between t after → LeadTo did before (turns ++ t ∷ []) after
  lead_on before between after [] t is here = let P : S → Type 0 = λ s. did s t after in (after, subst P is here, refl)
  lead_on before between after (u ∷ turns) t (s, first, rest) here = (s, first, lead_on s between after turns t rest here)

module _ {S : Type 0} (held : S → Option Held) (last : S → Fate) (faults asked : S → ℕ) (notes : S → Call → Reply → S → Type 0) where
  abbrev did : S → Turn → S → Type 0
  did = TurnDid held last faults asked notes

  -- a turn enters what it has in the journal
  enters_once : (t : Turn) (journal : List Entry) → Enters journal (journal ++ entries_in (t ∷ [])) t.lane t.call t.fate t.reply
  enters_once t journal = by_memory (is_no_memory t.reply)
    where
      by_memory : (b : Bool) → EntersIf b journal (journal ++ cons_option (cond b None (Some (entry t.lane t.call t.fate))) []) (entry t.lane t.call t.fate)
      by_memory true = append-nil journal
      by_memory false = refl

  -- what is held after a turn is what its entry leaves
  held_once : (m : Held) (before later : S) (t : Turn) → held before ≡ Some m → did before t later → held later ≡ Some (held_after m (entries_in (t ∷ [])))
  held_once m before later t is step = ⊎_elim
      (λ (made : CallDid held last faults asked notes before t later).
      held_after-Enters m (held before) (held later) [] (entries_in (t ∷ [])) t.lane t.call t.fate t.reply is
      (subst (λ f. IfSome (held before) (λ h. Steps (is_no_memory t.reply) h (held later) f t.call t.reply)) (sym made.fate) made.answers.told) (enters_once t []))
      (λ (missed : Missed before t later). ap held missed.same ∙ is ∙ ap (λ b. Some (held_after m (cons_option (cond b None (Some (entry t.lane t.call t.fate))) []))) (sym missed.missed))
      step

  -- what is held after turns is what their entries leave
  pub held_by_turns : (m : Held) (before later : S) (turns : List Turn) → held before ≡ Some m → LeadTo did before turns later → held later ≡ Some (held_after m (entries_in turns))
  held_by_turns m before later [] is same = ap held same ∙ is
  held_by_turns m before later (t ∷ turns) is (between, step, rest) =
      held_by_turns (held_after m (entries_in (t ∷ []))) between later turns (held_once m before between t is step) rest
      ∙ ap Some (sym (held_after-append m (entries_in (t ∷ [])) (entries_in turns)) ∙ ap (held_after m) (sym (entries_in-append (t ∷ []) turns)))

  rose_once : (base : ℕ) (before later : S) (t : Turn) → capped base ≤ faults before → did before t later → capped (base + failures (entries_in (t ∷ []))) ≤ faults later
  rose_once base before later t kept step = ⊎_elim
      (λ (made : CallDid held last faults asked notes before t later).
      failures-Enters base (faults before) (faults later) [] (entries_in (t ∷ [])) t.lane t.call t.fate t.reply (let none : base ≡ base + 0 = omega arith in subst (λ n. capped n ≤ faults before) none kept) made.cause (λ served. made.fate ∙ made.answers.served served) (enters_once t []))
      (λ (missed : Missed before t later).
      let none : failures (entries_in (t ∷ [])) ≡ 0 = ap (λ b. failures (cons_option (cond b None (Some (entry t.lane t.call t.fate))) [])) missed.missed in
      let same : faults later ≡ faults before = ap faults missed.same in omega arith)
      step

  -- the count of faults rose by the failed calls
  pub rose_by_turns : (base : ℕ) (before later : S) (turns : List Turn) → capped base ≤ faults before → LeadTo did before turns later → capped (base + failures (entries_in turns)) ≤ faults later
  rose_by_turns base before later [] kept same = let is : faults later ≡ faults before = ap faults same in omega arith
  rose_by_turns base before later (t ∷ turns) kept (between, step, rest) =
      let on = rose_by_turns (base + failures (entries_in (t ∷ []))) between later turns (rose_once base before between t kept step) rest in
      let all : failures (entries_in (t ∷ turns)) ≡ failures (entries_in (t ∷ [])) + failures (entries_in turns) = ap failures (entries_in-append (t ∷ []) turns) ∙ failures-append (entries_in (t ∷ [])) (entries_in turns) in
      omega (arith, on, all)

  held_first : (m : Option Held) (P : Held → Type 0) → ((h : Held) → m ≡ Some h → P h) → IfSome m P
  held_first None P on = tt
  held_first (Some h) P on = on h refl

  -- a store that the turns led to replays their entries
  pub replays : (start : S) (v : View) (home : Closed S) → Stands did start v.seen home → v.opening ≡ opening_of held faults start → Replays held faults v.opening (entries_in v.seen) home
  replays start v home stands opened =
      let P : Opening → Type 0 = λ o. Replays held faults o (entries_in v.seen) home in
      subst P (sym opened) (record {
        enters = stands.enters;
        told = held_first (held start) (λ m. held home.store ≡ Some (held_after m (entries_in v.seen))) (λ m is. held_by_turns m start home.store v.seen is stands.leads);
        rose = rose_by_turns (faults start) start home.store v.seen (omega arith) stands.leads;
      })

  -- a call in turn is what `CalledInTurn` says
  pub called : (start between later : S) (v w : View) (lane number : ℕ) (before : List Turn) (call : Call) (done : Fate) (said : Reply) → v.lane ≡ lane → w ≡ saw v (before ++ turn lane number call done said ∷ [])
      → v.opening ≡ opening_of held faults start → Hears v.seen (lanes_of v) before → LeadTo did start before between → did between (turn lane number call done said) later
      → CalledInTurn v w number call said
  called start between later v w lane number before call done said own is opened goes_on leads step =
      let seen : w.seen ≡ before ++ turn lane number call done said ∷ [] = ap (λ (u : View). u.seen) is in
      record {
        same = is ∙ ap (saw v) (sym seen);
        before = before;
        did = done;
        goes_on = goes_on;
        turns = seen ∙ ap (λ l. before ++ turn l number call done said ∷ []) (sym own);
        replied = λ made. subst (λ (o : Opening). IfSome o.held (λ m. (said ≡ reply_of (held_after m (entries_in before)) call done) × (done ≢ fate.Unknown))) (sym opened)
            (held_first (held start) (λ m. (said ≡ reply_of (held_after m (entries_in before)) call done) × (done ≢ fate.Unknown)) (λ m was. replied made m (held_by_turns m start between before was leads)));
        failed = λ failed. ⊎_elim
            (λ (made : CallDid held last faults asked notes between (turn lane number call done said) later). λ is_done. made.answers.failed failed (sym made.fate ∙ is_done))
            (λ (missed : Missed between (turn lane number call done said) later). λ is_done. memory_found (sym (ap is_no_memory failed) ∙ missed.missed))
            step;
        served = λ served. ⊎_elim
            (λ (made : CallDid held last faults asked notes between (turn lane number call done said) later). made.fate ∙ made.answers.served served)
            (λ (missed : Missed between (turn lane number call done said) later). missed.fate)
            step;
      }
    where
      memory_found : false ≡ true → ⊥
      memory_found e = let never : ⊥ = cc in never

      replied : is_no_memory said ≡ false → (m : Held) → held between ≡ Some (held_after m (entries_in before)) → (said ≡ reply_of (held_after m (entries_in before)) call done) × (done ≢ fate.Unknown)
      replied found m was = ⊎_elim
          (λ (made : CallDid held last faults asked notes between (turn lane number call done said) later).
          let stepped : Steps (is_no_memory said) (held_after m (entries_in before)) (held later) (last later) call said = subst (λ o. IfSome o (λ h. Steps (is_no_memory said) h (held later) (last later) call said)) was made.answers.told in
          let entered : Steps false (held_after m (entries_in before)) (held later) (last later) call said = subst (λ b. Steps b (held_after m (entries_in before)) (held later) (last later) call said) found stepped in
          (entered.1 ∙ ap (reply_of (held_after m (entries_in before)) call) (sym made.fate), λ unknown. made.answers.known (subst (λ o. IsSome o) (sym was) refl) (sym made.fate ∙ unknown)))
          (λ (missed : Missed between (turn lane number call done said) later). absurd (memory_found (sym found ∙ missed.missed)))
          step

-- a view that has drawn a ticket, had its turn and gave the ticket back
pub back_again : (v : View) (seen : List Turn) → v.ticket ≡ None → v.turn ≡ false → record (saw v seen) { ticket = None; turn = false } ≡ saw v seen
back_again v seen idle waits = λ k. record (saw v seen) { ticket = sym idle k; turn = sym waits k }
