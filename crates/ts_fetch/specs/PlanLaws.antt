-- What fetches by a plan keep, whatever the judge is.
use Rattle.std.specs.Prelude.{◌≡◌, ◌≢◌, ℕ, ◌+◌, ◌≤◌, min, List, Some, IsTrue, All}
use Rattle.ts_base.specs.declared.keys.FragKey.{FragKey}
use Rattle.ts_base.specs.declared.names.Part.{Part}
use Rattle.ts_base.specs.declared.names.Name.TheVariants as name
use Rattle.ts_base.specs.declared.heads.Version.{Version}
use Rattle.ts_store.specs.declared.call.Call.{Call}
use Rattle.ts_store.specs.declared.call.Reply.{Reply}
use Rattle.ts_store.specs.declared.call.Reply.TheVariants as reply
use Rattle.ts_schema.specs.Parts.{Look}
use Rattle.ts_model.specs.Codecs.{Asks, Breaks, is_look, IsToldOf, SpeaksOf, AsksHeld, GoesWell}
use Rattle.ts_actor.specs.PieceLaws.{gets_of}
use Rattle.ts_fetch.specs.declared.planned.Planned.{Planned}
use Rattle.ts_fetch.specs.declared.planned.Planned.TheVariants.{SizeOf}
use Rattle.ts_fetch.specs.declared.judging.Verdict.TheVariants.{Whole}
use Rattle.ts_fetch.specs.Plans.{Judging, Going, begun, plan_steps, gets_left, IsRight, ranges_of, OnPlan}

-- where a plan is right about what is held, and the judge finds what is wanted in those ranges, a fetch begins well
abbrev pub StartsWell : {G : Type 0} → Judging G → Type 0
StartsWell {G} judge = (look : Look) (frag : FragKey) (wanted : List Version) (given : G) (plan : List Planned) → All (IsRight look) plan → judge given (ranges_of look plan) ≡ Whole wanted
    → GoesWell (OnPlan judge look frag wanted) wanted (plan_steps judge (begun given frag plan) reply.Start)

-- such a fetch asks for parts that are held
abbrev pub AsksParts : {G : Type 0} → Judging G → Type 0
AsksParts {G} judge = (look : Look) (frag : FragKey) (wanted : List Version) (f : Going G) (c : Call) → OnPlan judge look frag wanted f c → AsksHeld look frag c

-- told what is held, it goes on well
abbrev pub GoesOn : {G : Type 0} → Judging G → Type 0
GoesOn {G} judge = (look : Look) (frag : FragKey) (wanted : List Version) (f : Going G) (c : Call) (part : Part) (bytes : List ℕ) (r : Reply)
    → OnPlan judge look frag wanted f c → look part ≡ Some bytes → SpeaksOf c (name.Part frag part) → IsToldOf c bytes r → GoesWell (OnPlan judge look frag wanted) wanted (plan_steps judge f r)

-- a fetch asks for nothing but gets and sizes
abbrev pub PlanLooks : {G : Type 0} → Judging G → Type 0
PlanLooks {G} judge = (f g : Going G) (r : Reply) (c : Call) → plan_steps judge f r ≡ Asks g c → IsTrue (is_look c)

-- each get is one of those that were planned
abbrev pub PlanPays : {G : Type 0} → Judging G → Type 0
PlanPays {G} judge = (f g : Going G) (r : Reply) (c : Call) → plan_steps judge f r ≡ Asks g c → gets_left g + gets_of c ≤ gets_left f

-- a fetch asks for parts of its own fragment, and stays with it
abbrev pub PlanOwn : {G : Type 0} → Judging G → Type 0
PlanOwn {G} judge = (f g : Going G) (r : Reply) (c : Call) → plan_steps judge f r ≡ Asks g c → (g.frag ≡ f.frag) × ((part : Part) × SpeaksOf c (name.Part f.frag part))

-- a told size other than the stated one is damage at the lesser of the two
abbrev pub BreaksAtLesser : {G : Type 0} → Judging G → Type 0
BreaksAtLesser {G} judge = (f : Going G) (part : Part) (size count : ℕ) → f.waits ≡ Some (SizeOf part size) → count ≢ size → plan_steps judge f (reply.Length count) ≡ Breaks part (min count size)
