-- Over nothing each identifier is new.
use Rattle.std.proofs.Common.{◌≡◌, ℕ, ◌^◌, ◌/◌, [], refl, subst, arith}
use Rattle.ts_base.specs.Held.{Held}
use Rattle.ts_model.specs.Deeds.{History}
use Rattle.ts_law.specs.Fresh.{IsCarried}
use Rattle.ts_law.proofs.FirstStands.{nothing, fresh_over_nothing}
use Rattle.world_tests.proofs.worlds.spawn.Goals as goal

-- nothing was carried where it began empty
none_carried : (opening : Held) (past : History) (id : ℕ) → opening ≡ nothing → past ≡ [] → IsCarried opening past id → ⊥
none_carried opening past id bare young carried =
    let Q : History → Type 0 = λ h. IsCarried nothing h id in
    let P : Held → Type 0 = λ m. IsCarried m past id in
    fresh_over_nothing (id / 2 ^ 64) id refl (subst Q young (subst P bare carried))

pub step-requires-after_bounds : goal.step-requires-after_bounds
step-requires-after_bounds g c = λ κs outlives. record {
  fewer = omega (arith, c.requires.few);
  value = c.requires.fits;
  new = λ carried. absurd (none_carried c.args.world.now.opening c.args.world.now.past c.args.id c.requires.began.0 c.requires.began.1 carried);
}
