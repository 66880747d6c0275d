-- What a world began with stays, whatever happens.
use Rattle.std.proofs.Common.{◌≡◌, List, [], ◌∷◌, ◌++◌, ap}
use Rattle.std.specs.Prelude.{Result, Ok, Err, OnOk, OnErr}
use Rattle.ts_base.specs.Held.{Held}
use Rattle.ts_model.specs.Codecs.{Codec}
use Rattle.ts_model.specs.Told.{Told, IsReplied, Replied, after_told, held_told}
use Rattle.ts_world.specs.declared.events.Event.{Event}
use Rattle.ts_world.specs.declared.events.Event.TheVariants.{Spawn, Step, Stop, Break, Restart}
use Rattle.ts_world.specs.declared.events.WorldFault.{WorldFault}
use Rattle.ts_world.specs.Views.{WorldView}
use Rattle.ts_world.specs.Clauses.{Happens}

-- one call more is replied to
pub replied-push : (m : Held) (told : List Told) (e : Told) → Replied m told → IsReplied (held_told m told) e → Replied m (told ++ e ∷ [])
replied-push m [] e r q = (q, tt)
replied-push m (d ∷ told) e r q = (r.0, replied-push (after_told m d) told e r.1 q)

-- an event leaves what the store held at the beginning as it was
opening_stays : {F : Type 0} (codec : Codec F) (e : Event) (w later : WorldView) → Happens codec e w later → later.opening ≡ w.opening
opening_stays codec (Spawn command at id) w later spawned = ap (λ v. v.opening) spawned.is
opening_stays codec (Step number fate) w later called = ap (λ v. v.opening) called.is
opening_stays codec (Stop number fate) w later called = ap (λ v. v.opening) called.is
opening_stays codec (Break lease) w later is = ap (λ v. v.opening) is
opening_stays codec Restart w later is = ap (λ v. v.opening) is

-- so does one that was refused
pub opening_either : {F : Type 0} (codec : Codec F) (e : Event) (w later : WorldView) (r : Result (Unit {0}) WorldFault) → OnOk r (Happens codec e w later) → OnErr r (later ≡ w) → later.opening ≡ w.opening
opening_either codec e w later (Ok done) happens same = opening_stays codec e w later happens
opening_either codec e w later (Err fault) happens same = ap (λ v. v.opening) same
