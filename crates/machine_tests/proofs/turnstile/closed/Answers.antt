-- Lane 0 and the other one are all lanes, and both are in the first pass once it is joined.
use Rattle.std.proofs.Common.{◌≡◌, ℕ, Bool, true, false, List, [], ◌∷◌, ◌++◌, ap, sym, ◌∙◌}
use Rattle.ts_turnstile.specs.declared.view.View.{View}
use Rattle.ts_turnstile.specs.Lanes.{has}
use Rattle.ts_turnstile.specs.Passes.{pass_view}
use Rattle.ts_turnstile.specs.Rule.{Claim, claim_of}
use Rattle.ts_turnstile.specs.Views.{lanes_of, lanes_if, joined_view}
use Rattle.machine_tests.proofs.turnstile.closed.Goals as goal

more_lanes : (spent : Bool) (lane : ℕ) (joined more : List ℕ) → lanes_if spent lane joined ≡ 0 ∷ [] → lanes_if spent lane (joined ++ more) ≡ 0 ∷ more
more_lanes true lane joined more is = let never : ⊥ = cc in absurd never
more_lanes false lane joined more is = ap (λ l. l ++ more) is

all_joined : (v u w : View) (other : ℕ) → claim_of v ≡ record { lanes = 0 ∷ []; first = true; split_off = other ∷ [] } → lanes_of u ≡ other ∷ [] → w ≡ joined_view v u
    → (lane : ℕ) → has lane (0 ∷ w.split_off) ≡ true → has lane (lanes_of w) ≡ true
all_joined v u w other claim single joined lane is =
    let split : w.split_off ≡ other ∷ [] = ap (λ (x : View). x.split_off) joined ∙ ap (λ (c : Claim). c.split_off) claim in
    let lanes : lanes_of w ≡ 0 ∷ other ∷ [] = ap lanes_of joined ∙ more_lanes v.spent v.lane v.joined (lanes_of u) (ap (λ (c : Claim). c.lanes) claim) ∙ ap (λ l. 0 ∷ l) single in
    ap (has lane) lanes ∙ sym (ap (λ l. has lane (0 ∷ l)) split) ∙ is

pub close-store-requires-clause-joined : goal.close-store-requires-clause-joined
close-store-requires-clause-joined c _ =
    all_joined (pass_view c.args.first) (pass_view c.args.other) (pass_view c.join.new.pass) _ c.requires.first c.requires.other c.join.ensures.joined
