-- All lanes together: the turns that the store had are those of their commands.
use Rattle.std.proofs.Common.{◌≡◌, ⊎_elim, ℕ, ◌+◌, ◌<◌, ◌≤◌, Bool, true, false, Option, Some, None, List, [], length, slice_get, slice_index_or, All, refl, sym, ◌∙◌, subst, arith}
use Rattle.std.specs.declared.alloc.Global.{Global}
use Rattle.std.specs.declared.vec.Vec.{Vec}
use Rattle.std.proofs.lemmas.Option.{slice_get_cases, slice_get_within}
use Rattle.std.proofs.lemmas.List.Elements.{All-nil, All-weaker}
use Rattle.ts_base.specs.Held.{Held}
use Rattle.ts_store.specs.declared.call.Call.{Call}
use Rattle.ts_store.specs.declared.call.Reply.{Reply}
use Rattle.ts_store.specs.declared.fate.Fate.{Fate}
use Rattle.ts_store.specs.declared.journal.Entry.{Entry}
use Rattle.ts_store.specs.Counts.{capped}
use Rattle.ts_store.specs.Journals.{failures}
use Rattle.ts_model.specs.declared.answers.Driven.{Driven}
use Rattle.ts_model.specs.declared.answers.Outcome.{Outcome}
use Rattle.ts_model.specs.States.{Exchange}
use Rattle.ts_model.specs.Told.{IsShortCall}
use Rattle.ts_turnstile.specs.declared.turn.Turn.{Turn}
use Rattle.ts_turnstile.specs.declared.view.View.{View}
use Rattle.ts_turnstile.specs.Lanes.{has}
use Rattle.ts_turnstile.specs.Turns.{turns_by, entries_in}
use Rattle.ts_turnstile.specs.Chains.{TurnDid, LeadTo}
use Rattle.ts_turnstile.specs.Views.{lanes_of}
use Rattle.ts_turnstile.proofs.Replayed.{rose_by_turns}
use Rattle.ts_lanes.specs.Commands.{IsCommand}
use Rattle.ts_lanes.specs.Lanes.{LaneDid, LanesDid}
use Rattle.ts_lanes.specs.Together.{Numbers, told_by, DidTogether}
use Rattle.ts_lanes.proofs.Merging.{all_by, Sorted, in_order, did_within, did_sorted, came_by}
use Rattle.ts_lanes.proofs.Telling.{IsOwned, made_of, suits, leaves, owned, entries, in_turn, trace_is}

module _ (came : ℕ → ℕ → List Exchange → Driven Outcome → Type 0) (lanes : ℕ) (count : ℕ → ℕ) (results : List (Vec (Driven Outcome) Global)) (w : View)
    (all : LanesDid came lanes count results w) (others : (n : ℕ) → has n (lanes_of w) ≡ false → turns_by n w.seen ≡ []) where
  -- each lane did its commands, and no other had a turn
  each_lane : (P : ℕ → List Turn → Type 0) → ((n : ℕ) (own : Vec (Driven Outcome) Global) → n < lanes → LaneDid came (count n) n own.items (turns_by n w.seen) → P n (turns_by n w.seen)) → ((n : ℕ) → P n []) → (n : ℕ) → P n (turns_by n w.seen)
  each_lane P did none n =
      ⊎_elim
      (λ (there : (own : Vec (Driven Outcome) Global) × (n < length results) × (slice_get results n ≡ Some own) × (slice_index_or results n own ≡ own)).
      let below = there.1 in let many = all.one_each in did n there.0 (omega arith) (all.did n there.0 there.2))
      (λ (past : (length results ≤ n) × (slice_get results n ≡ None)).
      let above = past.0 in let many = all.one_each in
      subst (P n) (sym (nobody (has n (lanes_of w)) refl (omega arith))) (none n))
      (slice_get_cases results n).1
    where
      nobody : (b : Bool) → has n (lanes_of w) ≡ b → lanes ≤ n → turns_by n w.seen ≡ []
      nobody true one above = all.others n one above
      nobody false none above = others n none

  pub all_owned : All (IsOwned lanes count) w.seen
  all_owned = all_by (IsOwned lanes count) w.seen
      (each_lane (λ n turns. All (IsOwned lanes count) turns)
      (λ n own below did.
      All-weaker (λ t. (t.lane ≡ n) × (1 ≤ t.number) × (t.number < 1 + length own.items) × IsShortCall t.call) (IsOwned lanes count)
      (λ t is.
      let same : n ≡ t.lane = sym is.0 in let many = did.one_each in let top = is.2 in let most : t.number ≤ count n = omega arith in
      (subst (λ l. IsCommand lanes count l t.number) same (below, is.1, most), is.3))
      (turns_by n w.seen) (did_within came n 1 own.items (turns_by n w.seen) did.did))
      (λ n. All-nil (IsOwned lanes count)))

  all_short : All (λ t. IsShortCall t.call) w.seen
  all_short = All-weaker (IsOwned lanes count) (λ t. IsShortCall t.call) (λ t is. is.1) w.seen all_owned

  each_sorted : (n : ℕ) → Sorted (turns_by n w.seen)
  each_sorted = each_lane (λ n turns. Sorted turns) (λ n own below did. did_sorted came n 1 own.items (turns_by n w.seen) did.did) (λ n. tt)

  module _ {S : Type 0} (index : ℕ → ℕ → ℕ) (lane_of : ℕ → ℕ) (numbers : Numbers lanes count index lane_of) (held : S → Option Held) (last : S → Fate) (faults asked : S → ℕ) (notes : S → Call → Reply → S → Type 0) where
    -- the commands were done together
    pub together : (store later : S) (journal : List Entry) → LeadTo (TurnDid held last faults asked notes) store w.seen later → journal ≡ entries_in w.seen
        → DidTogether came lanes count index lane_of held last faults asked notes store later journal results
    together store later journal lead is = record {
      told = told_by index (held store) w.seen;
      owned = owned lanes count index lane_of numbers w.seen (held store) all_owned;
      made_of = made_of index held last faults asked notes store later w.seen (held store) all_short lead;
      suit = suits index held last faults asked notes store later w.seen (held store) all_short lead;
      entries = entries lanes count index lane_of numbers w.seen (held store) all_owned ∙ sym is;
      in_turn = in_turn lanes count index lane_of numbers w.seen (held store) all_owned (in_order w.seen each_sorted);
      over = leaves index held last faults asked notes store later w.seen lead;
      rose = subst (λ l. capped (faults store + failures l) ≤ faults later) (sym is) (rose_by_turns held last faults asked notes (faults store) store later w.seen (omega arith) lead);
      one_each = all.one_each;
      each = λ lane own at. (all.did lane own at).one_each;
      came_out = λ lane number own result at there.
          let did = all.did lane own at in
          let within = slice_get_within own.items number result there in
          let below = slice_get_within results lane own at in
          let many = all.one_each in
          let few = did.one_each in
          let lane_is : lane < lanes = omega arith in
          let number_is : 1 + number ≤ count lane = omega arith in
          let least : 1 ≤ 1 + number = omega arith in
          subst (λ l. came lane (1 + number) l result)
          (sym (trace_is lanes count index lane_of numbers lane (1 + number) (lane_is, least, number_is) w.seen (held store) all_owned))
          (came_by came lane 1 own.items (turns_by lane w.seen) did.did number result there);
    }
