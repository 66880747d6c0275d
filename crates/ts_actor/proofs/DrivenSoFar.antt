-- A machine on its way: the calls that it has made, one more of them, and its end.
use Rattle.std.proofs.Common.{◌≡◌, ℕ, ◌+◌, ◌-◌, ◌^◌, min, Bool, true, false, List, [], ◌∷◌, ◌++◌, length, refl, sym, ap, ◌∙◌, subst, arith, append_assoc, append-nil, length-append}
use Rattle.ts_base.specs.declared.heads.Stop.{Stop}
use Rattle.ts_store.specs.declared.call.Call.{Call}
use Rattle.ts_store.specs.declared.call.Reply.{Reply}
use Rattle.ts_store.specs.declared.call.Reply.TheVariants as reply
use Rattle.ts_store.specs.Calls.{FitsCall, IsSpelledReply}
use Rattle.ts_model.specs.declared.answers.Driven.TheVariants as driven
use Rattle.ts_model.specs.States.{Exchange}
use Rattle.ts_model.specs.Stops.{cuts, Uncut}
use Rattle.ts_actor.specs.Traces.{Trace, Expects, CanCome, start, asking, filled}
use Rattle.ts_actor.specs.Drives.{MadeInTurn, AreAsked, Drove}

leads_push : {S : Type 0} (call : S → Exchange → S → Type 0) (before between after : S) (xs : List Exchange) (x : Exchange)
    → MadeInTurn call before xs between → call between x after → MadeInTurn call before (xs ++ x ∷ []) after
leads_push {S} call before between after [] x is here = let P : S → Type 0 = λ s. call s x after in (after, subst P is here, refl)
leads_push call before between after (y ∷ xs) x (s, first, rest) here = (s, first, leads_push call s between after xs x rest here)

asked_push : {A T : Type 0} (task : A → T) (follows : A → Trace → Type 0) (k : T) (past xs : List Exchange) (x : Exchange) (a : A)
    → AreAsked task follows k past xs → task a ≡ k → follows a (asking (past ++ xs) x.call) → AreAsked task follows k past (xs ++ x ∷ [])
asked_push task follows k past [] x a asked same there =
    let P : List Exchange → Type 0 = λ t. follows a (asking t x.call) in
    ((a, same, subst P (append-nil past) there), tt)
asked_push task follows k past (y ∷ xs) x a asked same there =
    let P : List Exchange → Type 0 = λ t. follows a (asking t x.call) in
    (asked.0, asked_push task follows k (past ++ y ∷ []) xs x a asked.1 same (subst P (sym (append_assoc past (y ∷ []) xs)) there))

uncut_push : (stop : Stop) (made : ℕ) (xs : List Exchange) (x : Exchange) → Uncut stop made xs → cuts stop (made + length xs) x.call ≡ false → Uncut stop made (xs ++ x ∷ [])
uncut_push stop made [] x uncut here = let none : made ≡ made + 0 = omega arith in (ap (λ n. cuts stop n x.call) none ∙ here, tt)
uncut_push stop made (y ∷ xs) x uncut here =
    let next : made + 1 + length xs ≡ made + length (y ∷ xs) = omega arith in
    (uncut.0, uncut_push stop (made + 1) xs x uncut.1 (ap (λ n. cuts stop n x.call) next ∙ here))

-- the test tells whether the stop cuts the machine off where it would make the call, after so many others
abbrev pub TellsCut : Stop → ℕ → Call → Bool → Type 0
TellsCut stop made c cut = (n : ℕ) → made ≡ min n (2 ^ 64 - 1) → cut ≡ cuts stop n c

-- the machine has made the calls of a trace, which led to the store as it is, and the reply to the last one is due
pub record DrivenSoFar {A T S : Type 0} (task : A → T) (follows : A → Trace → Type 0) (call : S → Exchange → S → Type 0) (stop : Stop) (first : A) (before : S) (now : A) (between : S) (made : ℕ) (said : Reply) : Type 0 where
  pub trace : Trace
  pub due : follows now trace
  pub can_come : CanCome trace.asked said
  pub spelled : IsSpelledReply said
  pub same : task now ≡ task first
  pub calls : MadeInTurn call before (filled trace said) between
  pub asked : AreAsked task follows (task first) [] (filled trace said)
  pub uncut : Uncut stop 0 (filled trace said)
  pub counted : made ≡ min (length (filled trace said)) (2 ^ 64 - 1)

module _ {A T O S : Type 0} (task : A → T) (follows : A → Trace → Type 0) (ends : T → List Exchange → O → Type 0) (call : S → Exchange → S → Type 0) (stop : Stop) (first : A) (before : S) where
  -- no call was made yet
  pub at_start : follows first start → DrivenSoFar task follows call stop first before first before 0 reply.Start
  at_start due = record { trace = start; due = due; can_come = refl; spelled = tt; same = refl; calls = refl; asked = tt; uncut = tt; counted = refl }

  module _ (now : A) (between : S) (made : ℕ) (said : Reply) (so_far : DrivenSoFar task follows call stop first before now between made said) where
    -- the reply can come
    pub expects : Expects (follows now) said
    expects = record { trace = so_far.trace; follows_it = so_far.due; can_come = so_far.can_come }

    -- the machine is done
    pub done : (last : A) (out : O) → ends (task now) (filled so_far.trace said) out → Drove task follows ends call first last before between stop (driven.Done out)
    done last out is =
        let P : T → Type 0 = λ k. ends k (filled so_far.trace said) out in
        record { trace = filled so_far.trace said; calls = so_far.calls; asked = so_far.asked; uncut = so_far.uncut; end = subst P so_far.same is }

    -- the stop cuts it off
    pub stopped : (last : A) (c : Call) (cut : Bool) → follows last (asking (filled so_far.trace said) c) → TellsCut stop made c cut → cut ≡ true → Drove task follows ends call first last before between stop driven.Stopped
    stopped last c cut due tells is = record {
      trace = filled so_far.trace said;
      calls = so_far.calls;
      asked = so_far.asked;
      uncut = so_far.uncut;
      end = (c, due, sym (tells (length (filled so_far.trace said)) so_far.counted) ∙ is);
    }

    -- it makes one more call
    pub one_more : (next : A) (after : S) (c : Call) (r : Reply) (more : ℕ) (cut : Bool) → follows next (asking (filled so_far.trace said) c) → task next ≡ task now
        → TellsCut stop made c cut → cut ≡ false → FitsCall c r → IsSpelledReply r → call between (record { call = c; reply = r }) after → more ≡ min (made + 1) (2 ^ 64 - 1)
        → DrivenSoFar task follows call stop first before next after more r
    one_more next after c r more cut due same tells is fits spelled called counts =
        let past = filled so_far.trace said in
        let counted = so_far.counted in
        let none : 0 + length past ≡ length past = omega arith in
        record {
          trace = asking past c;
          due = due;
          can_come = fits;
          spelled = spelled;
          same = same ∙ so_far.same;
          calls = leads_push call before between after past (record { call = c; reply = r }) so_far.calls called;
          asked = asked_push task follows (task first) [] past (record { call = c; reply = r }) next so_far.asked (same ∙ so_far.same) due;
          uncut = uncut_push stop 0 past (record { call = c; reply = r }) so_far.uncut (ap (λ n. cuts stop n c) none ∙ sym (tells (length past) so_far.counted) ∙ is);
          counted = omega (arith, length-append past (record { call = c; reply = r } ∷ []));
        }
