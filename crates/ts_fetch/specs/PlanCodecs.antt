-- What holds of a way to read fragments whose fetches go by a plan.
use Rattle.std.specs.Prelude.{◌≡◌, ℕ, List, [], Ok, ◌⊎◌}
use Rattle.ts_base.specs.declared.keys.FragKey.{FragKey}
use Rattle.ts_base.specs.declared.names.Part.{Part}
use Rattle.ts_base.specs.declared.heads.Version.{Version}
use Rattle.ts_domain.specs.declared.boxes.SubBox.{SubBox}
use Rattle.ts_store.specs.declared.call.Reply.{Reply}
use Rattle.ts_store.specs.declared.call.Reply.TheVariants as reply
use Rattle.ts_schema.specs.declared.frames.Frame.{Frame}
use Rattle.ts_schema.specs.declared.schemas.Schema.{Schema}
use Rattle.ts_schema.specs.declared.wants.Want.{Want}
use Rattle.ts_schema.specs.Parts.{Got, Sized}
use Rattle.ts_model.specs.Codecs.{Codec, Takes, Breaks}
use Rattle.ts_actor.specs.PieceLaws.{whole_got, IsFetchIn, EndsWith}
use Rattle.ts_fetch.specs.declared.judging.Verdict.TheVariants.{Whole, Broken}
use Rattle.ts_fetch.specs.Plans.{Judging, Going, begun, plan_steps, IsJudged, IsOtherSize}

-- each fetch begins with a plan, and goes by it
pub record GoesByPlan {G : Type 0} (judge : Judging G) (codec : Codec (Going G)) : Type 0 where
  pub begins : (frame : Frame) (s : Schema) (frag : FragKey) (object : List ℕ) (want : Want) (f : Going G) → codec.opens frame s frag object want ≡ Ok f → f ≡ begun f.given frag f.left
  pub steps : (f : Going G) (r : Reply) → codec.steps f r ≡ plan_steps judge f r

-- whatever of the replies that can come, what a fetch takes is what the judge says of the ranges of the whole plan
abbrev pub TakesJudged : {G : Type 0} → Judging G → Codec (Going G) → Type 0
TakesJudged {G} judge codec = (frame : Frame) (s : Schema) (frag : FragKey) (object : List ℕ) (want : Want) (gots : List Got) (sizes : List Sized) (versions : List Version)
    → EndsWith codec frame s frag object want (Takes versions) gots sizes
    → (f : Going G) × (codec.opens frame s frag object want ≡ Ok f) × IsJudged judge (whole_got (codec.head_part frame) object) f.given f.left (Whole versions) gots sizes

-- whatever of the replies that can come, where a fetch finds a part broken the judge says so of the ranges of the whole plan, or a told size is another than the stated one
abbrev pub BreaksJudged : {G : Type 0} → Judging G → Codec (Going G) → Type 0
BreaksJudged {G} judge codec = (frame : Frame) (s : Schema) (frag : FragKey) (object : List ℕ) (want : Want) (gots : List Got) (sizes : List Sized) (part : Part) (at : ℕ)
    → EndsWith codec frame s frag object want (Breaks part at) gots sizes
    → (f : Going G) × (codec.opens frame s frag object want ≡ Ok f)
    × (IsJudged judge (whole_got (codec.head_part frame) object) f.given f.left (Broken part at) gots sizes ⊎ IsOtherSize (whole_got (codec.head_part frame) object) f.left part at gots sizes)

-- a fetch that takes versions without a call has an empty plan, and the judge says so of no ranges
abbrev pub TakesAtOnce : {G : Type 0} → Judging G → Codec (Going G) → Type 0
TakesAtOnce {G} judge codec = (frame : Frame) (s : Schema) (frag : FragKey) (object : List ℕ) (want : Want) (f : Going G) (versions : List Version) → codec.opens frame s frag object want ≡ Ok f
    → codec.steps f reply.Start ≡ Takes versions → (f.left ≡ []) × (judge f.given [] ≡ Whole versions)

-- some fetch of what is wanted in a box began so that the judge says this of some ranges
pub record IsJudgedIn {G : Type 0} (judge : Judging G) (codec : Codec (Going G)) (sub : SubBox) (versions : List Version) : Type 0 where
  pub frame : Frame
  pub schema : Schema
  pub frag : FragKey
  pub object : List ℕ
  pub want : Want
  pub first : Going G
  pub got : List (List ℕ)
  pub sub_is : want.sub ≡ sub
  pub opened : codec.opens frame schema frag object want ≡ Ok first
  pub judged : judge first.given got ≡ Whole versions

-- whatever replies come, also those that cannot, what a fetch takes is what the judge says of some ranges
abbrev pub TakesJudgedIn : {G : Type 0} → Judging G → Codec (Going G) → Type 0
TakesJudgedIn {G} judge codec = (sub : SubBox) (f : Going G) (r : Reply) (versions : List Version) → IsFetchIn codec sub f → codec.steps f r ≡ Takes versions → IsJudgedIn judge codec sub versions
