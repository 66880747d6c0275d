-- The steps as seats make them, and what follows for a whole call.
use Rattle.std.proofs.Common.{◌≡◌, ℕ, ◌+◌, ◌%◌, ◌<◌, ◌^◌, ◌==◌, Bool, true, false, Option, Some, None, cond, List, [], ◌∷◌, ◌++◌, length, refl, sym, ap, ◌∙◌, subst, eq-eqb, arith, append-nil}
use Rattle.std.specs.List.{cons_option}
use mathlib.Core.Option as raw
use lib.ListN.{get_elem?}
use prog.Atomic.{either}
use Rattle.atomic_table.specs.Table.{Me, step, Allows, Final, Seen}
use Rattle.ts_base.specs.Held.{Held}
use Rattle.ts_store.specs.declared.fate.Fate.{Fate}
use Rattle.ts_store.specs.declared.call.Call.{Call}
use Rattle.ts_store.specs.declared.call.Reply.{Reply}
use Rattle.ts_store.specs.Calls.{is_no_memory}
use Rattle.ts_store.specs.Journals.{entry}
use Rattle.ts_turnstile.specs.declared.told.Told.{Told}
use Rattle.ts_turnstile.specs.declared.closed.Closed.{Closed}
use Rattle.ts_turnstile.specs.declared.slot.Slot.{Slot}
use Rattle.ts_turnstile.specs.declared.slot.Slot.TheVariants as slot
use Rattle.ts_turnstile.specs.declared.turn.Turn.{Turn}
use Rattle.ts_turnstile.specs.declared.view.View.{View}
use Rattle.ts_turnstile.specs.Lanes.{has, Hears}
use Rattle.ts_turnstile.specs.Turns.{turn, entries_in, turns_by}
use Rattle.ts_turnstile.specs.Places.{place_in, place_after}
use Rattle.ts_turnstile.specs.Views.{opening_of, view_in, lanes_of, lanes_if, in_turn}
use Rattle.ts_turnstile.specs.Rule.{Stands, Orderly}
use Rattle.ts_turnstile.specs.Plays.{Took, drew, posted, served}
use Rattle.ts_turnstile.proofs.Growth.{entries_in-append, calls_by-entries, place_last, place_kept}
use Rattle.ts_turnstile.proofs.Truths.{has_here}
use Rattle.ts_turnstile.proofs.Steps.{draws, posts, serves, closes}

pub in_three : (n i : ℕ) → n ≡ 3 → i < 3 → i < n
in_three n i is below = omega arith

-- a pass's view, where its badge was a seat's
pub same_view : (views : List View) (v : View) → views ≡ v ∷ [] → view_in views ≡ v
same_view views v is = ap view_in is

-- what a pass keeps, with a view that waits for nothing
pub pass_kept : (views : List View) (v : View) (lane : ℕ) (place : Option ℕ) → views ≡ v ∷ [] → v.ticket ≡ None → v.turn ≡ false → v.spent ≡ false → v.lane ≡ lane → place ≡ place_in lane (entries_in v.seen)
    → (views ≡ view_in views ∷ []) × (((view_in views).ticket ≡ None) × ((view_in views).turn ≡ false) × ((view_in views).spent ≡ false) × ((view_in views).lane ≡ lane)) × (place ≡ place_in lane (entries_in (view_in views).seen))
pass_kept views v lane place is idle waits alive own at =
    let P : List View → Type 0 = λ l. (l ≡ view_in l ∷ []) × (((view_in l).ticket ≡ None) × ((view_in l).turn ≡ false) × ((view_in l).spent ≡ false) × ((view_in l).lane ≡ lane)) × (place ≡ place_in lane (entries_in (view_in l).seen)) in
    subst P (sym is) (refl, (idle, waits, alive, own), at)

-- the place of a lane's last call stays with what others call
pub place_heard : (lane : ℕ) (v : View) (turns : List Turn) → v.spent ≡ false → v.lane ≡ lane → Hears v.seen (lanes_of v) turns → place_in lane (entries_in turns) ≡ place_in lane (entries_in v.seen)
place_heard lane v turns alive own heard =
    let lanes : lanes_of v ≡ v.lane ∷ v.joined = ap (λ b. lanes_if b v.lane v.joined) alive in
    let mine : has lane (lanes_of v) ≡ true = subst (λ l. has lane l ≡ true) (sym lanes) (subst (λ n. has lane (n ∷ v.joined) ≡ true) (sym own) (has_here lane v.joined)) in
    place_kept lane (entries_in v.seen) (entries_in turns)
    (entries_in heard.begins.0, ap entries_in heard.begins.1 ∙ entries_in-append v.seen heard.begins.0)
    (calls_by-entries lane turns ∙ ap entries_in (heard.own lane mine) ∙ sym (calls_by-entries lane v.seen))

-- the place after a turn of the lane
pub placed : (missed : Bool) (lane number : ℕ) (call : Call) (did : Fate) (said : Reply) (turns : List Turn) → is_no_memory said ≡ missed
    → place_in lane (entries_in (turns ++ turn lane number call did said ∷ [])) ≡ place_after (cond missed None (Some (length (entries_in turns)))) (place_in lane (entries_in turns))
placed true lane number call did said turns is =
    ap (place_in lane) (entries_in-append turns (turn lane number call did said ∷ []) ∙ ap (λ b. entries_in turns ++ cons_option (cond b None (Some (entry lane call did))) []) is ∙ append-nil (entries_in turns))
placed false lane number call did said turns is =
    ap (place_in lane) (entries_in-append turns (turn lane number call did said ∷ []) ∙ ap (λ b. entries_in turns ++ cons_option (cond b None (Some (entry lane call did))) []) is)
    ∙ place_last lane (entries_in turns) (entry lane call did) (eq-eqb lane lane refl)

module _ {S : Type 0} (held : S → Option Held) (faults : S → ℕ) (did : S → Turn → S → Type 0) (start : S) where
  pub draws_from : (slots id old : ℕ) (m m0 : Me (Slot S) View) → m ≡ m0 → m0.0.ticket ≡ None → m0.0.turn ≡ false → old + 1 < 2 ^ 64
      → Allows (Orderly held faults did start) slots id m 1 (λ n. either (n == old) (old + 1) n) (drew (step slots 1 old (old + 1) raw.none) m)
  draws_from slots id old m m0 same idle waits few =
      draws held faults did start slots id old m (ap (λ (x : Me (Slot S) View). x.0.ticket) same ∙ idle) (ap (λ (x : Me (Slot S) View). x.0.turn) same ∙ waits) few

  pub posts_from : (slots id old new : ℕ) (m : Me (Slot S) View) (v : View) (c : List (ℕ × Slot S)) (done : Told Turn) → m ≡ (v, c) → v ≡ in_turn v v.seen → done.value.lane ≡ v.lane
      → old ≡ length (entries_in v.seen) → new ≡ length (entries_in (v.seen ++ done.value ∷ []))
      → Allows (Orderly held faults did start) slots id m 0 (λ n. either (n == old) new n) (posted (step slots 0 old new (raw.some (slot.Done done))) m)
  posts_from slots id old new m v c done same turn lane was is =
      subst (λ (x : Me (Slot S) View). Allows (Orderly held faults did start) slots id x 0 (λ n. either (n == old) new n) (posted (step slots 0 old new (raw.some (slot.Done done))) x)) (sym same)
      (posts held faults did start slots id old new (v, c) done (ap (λ (x : View). x.turn) turn) lane was is)

  pub serves_from : (slots id : ℕ) (m : Me (Slot S) View) (home : Closed S) → m.1 ≡ (0, slot.Home home) ∷ [] → m.0.turn ≡ true → Stands did start m.0.seen home
      → Allows (Orderly held faults did start) slots id m 2 (λ n. (n + 1) % 2 ^ 64) (served (step slots 2 1 0 raw.none) m)
  serves_from slots id m home out turns stands =
      subst (λ (c : List (ℕ × Slot S)). Allows (Orderly held faults did start) slots id (m.0, c) 2 (λ n. (n + 1) % 2 ^ 64) (served (step slots 2 1 0 raw.none) (m.0, c))) (sym out)
      (serves held faults did start slots id m.0 home turns stands)

  abbrev or_this : Closed S → Slot S → Closed S
  or_this home (slot.Home other) = other
  or_this home _ = home

  -- the store in a seat's slot, if one is there
  abbrev home_in : Closed S → List (ℕ × Slot S) → Closed S
  home_in home [] = home
  home_in home (x ∷ xs) = or_this home x.1

  -- the store that was lifted is the one that was taken
  pub lifted : (m m' : Me (Slot S) View) (home : Closed S) → Took held faults did start m m' → m.1 ≡ [] → m'.1 ≡ (0, slot.Home home) ∷ []
      → (m'.0 ≡ in_turn m.0 m'.0.seen) × Stands did start m'.0.seen home
  lifted m m' home took empty out =
      let had : m'.1 ≡ (0, slot.Home took.home) ∷ m.1 = ap (λ (x : Me (Slot S) View). x.1) took.seat in
      let one : took.home ≡ home = ap (home_in home) (sym had ∙ out) in
      (ap (λ (x : Me (Slot S) View). x.0) took.seat, subst (λ h. Stands did start m'.0.seen h) one took.stands)

  -- the store of a closed table
  pub closed : (id : ℕ) (v v0 : View) (ws : List ℕ) (xs : List (Slot S)) (there : Slot S) → v ≡ v0 → v0.first ≡ true → v0.turn ≡ false → v0.spent ≡ false
      → ((lane : ℕ) → has lane (0 ∷ v0.split_off) ≡ true → has lane (lanes_of v0) ≡ true)
      → Final (Seen (Orderly held faults did start) id v) ws xs → get_elem? xs 0 ≡ raw.some there
      → (home : Closed S) × (there ≡ slot.Home home) × Stands did start v0.seen home × (v0.opening ≡ opening_of held faults start) × ((lane : ℕ) → has lane (lanes_of v0) ≡ false → turns_by lane v0.seen ≡ [])
  closed id v v0 ws xs there same first waits alive joined final out =
      let all = closes held faults did start id v0 ws xs first waits alive joined (subst (λ (x : View). Final (Seen (Orderly held faults did start) id x) ws xs) same final) in
      (all.0, raw.some-injective _ _ (sym out ∙ all.1), all.2, all.3, all.4)
