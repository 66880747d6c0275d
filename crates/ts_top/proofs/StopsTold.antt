-- The calls of a command keep its stop: it made none at which it was to be stopped.
use Rattle.std.proofs.Common.{◌≡◌, inl, inr, ℕ, ◌+◌, ◌<◌, ◌≤◌, Bool, true, false, cond, nat_le, List, [], ◌∷◌, Option, Some, None, length, ap, subst, arith}
use Rattle.std.proofs.lemmas.Bool.{leb-false}
use Rattle.std.specs.Prelude.{Contains}
use Rattle.std.specs.List.{cons_option}
use Rattle.std.proofs.lemmas.Option.{none-some, same_Some}
use Rattle.std.proofs.lemmas.List.Elements.{All-contains_itself, All-weaker}
use Rattle.ts_base.specs.Held.{Held}
use Rattle.ts_base.specs.declared.heads.Point.{Point}
use Rattle.ts_base.specs.declared.heads.Stop.{Stop}
use Rattle.ts_base.specs.declared.heads.Stop.TheVariants as stop
use Rattle.ts_store.specs.Calls.{is_no_memory}
use Rattle.ts_store.specs.declared.journal.Entry.{Entry}
use Rattle.ts_model.specs.States.{Exchange}
use Rattle.ts_model.specs.Stops.{Uncut, is_point}
use Rattle.ts_model.specs.Told.{Told, entries_of, entry_of, trace_of}
use Rattle.ts_model.proofs.ListLemmas.{Contains-cons, Contains-here, Contains-nil, Contains-there, filter_map-Contains}
use Rattle.ts_top.specs.Promise.{KeepsStop}
use Rattle.ts_top.proofs.MergesTold.{calls_in}
use Rattle.ts_top.proofs.Removed.{exchange_among, trace_first}

-- calls that a stop before a kind cut off at none of them have none of that kind
uncut_each : (point : Point) (made : ℕ) (xs : List Exchange) → Uncut (stop.Before point) made xs → (x : Exchange) → Contains xs x → is_point point x.call ≡ false
uncut_each point made [] uncut x at = absurd (Contains-nil x at)
uncut_each point made (y ∷ xs) uncut x at = elim (Contains-cons y xs x at) [
  | inl same ↦ subst (λ (z : Exchange). is_point point z.call ≡ false) same uncut.0
  | inr later ↦ uncut_each point (made + 1) xs uncut.1 x later
]

module _ (lane : Option ℕ → ℕ) (i : ℕ) where
  -- calls that a stop after so many cut off at none of them are no more, with those before them
  uncut_count : (most made : ℕ) (c : List Told) → ((e : Told) → Contains c e → e.job ≡ Some i) → made ≤ most → Uncut (stop.Calls most) made (trace_of i c) → made + length (entries_of lane c) ≤ most
  uncut_count most made [] own few uncut = omega (arith, few)
  uncut_count most made (e ∷ c) own few uncut =
      let (before, later) = subst (Uncut (stop.Calls most) made) (trace_first i e c (own e (Contains-here e c))) uncut in
      let less : made < most = not_most made most before in
      let rest = uncut_count most (made + 1) c (λ x at. own x (Contains-there e c x at)) (omega (arith, less)) later in
      elim (is_no_memory e.reply) as (λ b. made + length (cons_option (cond b None (Some (record { lane = lane e.job; call = e.call; fate = e.fate }))) (entries_of lane c)) ≤ most) [
        | true ↦ omega (arith, rest)
        | false ↦ omega (arith, rest)
      ]
    where
      not_most : (n k : ℕ) → nat_le k n ≡ false → n < k
      not_most n k is = leb-false k n is

  -- the call of an entry is that of a call
  entry_call : (e : Told) (y : Entry) → entry_of lane e ≡ Some y → e.call ≡ y.call
  entry_call e y is = by (is_no_memory e.reply) is
    where
      own : Entry
      own = record { lane = lane e.job; call = e.call; fate = e.fate }

      by : (b : Bool) → cond b None (Some own) ≡ Some y → own.call ≡ y.call
      by true none = absurd (none-some y none)
      by false some = ap (λ (x : Entry). x.call) (same_Some own y some)

  -- the calls of a job keep the stop that cut off none of them
  pub keeps_stop : (m : Held) (a c : List Told) → ((e : Told) → Contains c e → e.job ≡ Some i) → (stops : Stop) → Uncut stops 0 (trace_of i c) → KeepsStop stops (calls_in m lane a c)
  keeps_stop m a c own stop.Never uncut = tt
  keeps_stop m a c own (stop.Calls most) uncut = omega (arith, uncut_count most 0 c own (omega arith) uncut)
  keeps_stop m a c own (stop.Before point) uncut = All-weaker (Contains (entries_of lane c)) (λ (e : Entry). is_point point e.call ≡ false) each (entries_of lane c) (All-contains_itself (entries_of lane c))
    where
      each : (y : Entry) → Contains (entries_of lane c) y → is_point point y.call ≡ false
      each y at =
          let (e, among, is) = filter_map-Contains (entry_of lane) c y at in
          subst (λ q. is_point point q ≡ false) (entry_call e y is)
          (uncut_each point 0 (trace_of i c) uncut (record { call = e.call; reply = e.reply }) (exchange_among i c e among (own e among)))
