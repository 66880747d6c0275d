-- What a fetch by a plan takes the judge says, whatever replies came.
use Rattle.std.proofs.Common.{◌≡◌, ℕ, Bool, true, false, nat_eq, min, List, [], ◌∷◌, ◌++◌, Option, Some, None, Ok, refl, sym, ap, subst, ◌∙◌}
use Rattle.std.specs.Prelude.{if◌then◌else◌}
use Rattle.ts_base.specs.declared.keys.FragKey.{FragKey}
use Rattle.ts_domain.specs.declared.boxes.SubBox.{SubBox}
use Rattle.ts_store.specs.declared.call.Reply.{Reply}
use Rattle.ts_store.specs.declared.call.Reply.TheVariants as reply
use Rattle.ts_schema.specs.declared.frames.Frame.{Frame}
use Rattle.ts_schema.specs.declared.schemas.Schema.{Schema}
use Rattle.ts_schema.specs.declared.wants.Want.{Want}
use Rattle.ts_model.specs.Codecs.{Codec, Stepped, Asks, Takes, Breaks}
use Rattle.ts_actor.specs.PieceLaws.{IsFetchIn, Begun, Went}
use Rattle.ts_fetch.specs.declared.planned.Planned.{Planned}
use Rattle.ts_fetch.specs.declared.planned.Planned.TheVariants.{SizeOf, Range}
use Rattle.ts_fetch.specs.declared.judging.Verdict.{Verdict}
use Rattle.ts_fetch.specs.declared.judging.Verdict.TheVariants.{Whole, Broken}
use Rattle.ts_fetch.specs.Plans.{Judging, Going, stepped, asks_next, told, plan_steps}
use Rattle.ts_fetch.specs.PlanCodecs.{GoesByPlan, TakesAtOnce, TakesJudgedIn}

module _ {G : Type 0} (judge : Judging G) where
  -- a step that asks leaves what is known, one that takes takes what the judge says of some ranges
  abbrev Says : G → Stepped (Going G) → Type 0
  Says given (Asks g c) = g.given ≡ given
  Says given (Takes versions) = (got : List (List ℕ)) × (judge given got ≡ Whole versions)
  Says given (Breaks part at) = Unit {0}

  next_says : (given : G) (frag : FragKey) (left : List Planned) (got : List (List ℕ)) → Says given (asks_next judge given frag left got)
  next_says given frag [] got = over (judge given got) refl
    where
      over : (j : Verdict) → judge given got ≡ j → Says given (stepped j)
      over (Whole versions) is = (got, is)
      over (Broken part at) is = tt
  next_says given frag (p ∷ left) got = refl

  told_says : (given : G) (frag : FragKey) (w : Option Planned) (left : List Planned) (got : List (List ℕ)) (r : Reply) → Says given (told judge given frag w left got r)
  told_says given frag None left got r = next_says given frag left got
  told_says given frag (Some (SizeOf part size)) left got (reply.Length count) = tested (nat_eq count size)
    where
      tested : (b : Bool) → Says given (if b then asks_next judge given frag left got else Breaks part (min count size))
      tested true = next_says given frag left got
      tested false = tt
  told_says given frag (Some (Range part from count)) left got (reply.Bytes bytes) = next_says given frag left (got ++ bytes ∷ [])
  told_says given frag (Some (SizeOf part size)) left got r = refl
  told_says given frag (Some (Range part from count)) left got r = refl

  module _ (codec : Codec (Going G)) (goes : GoesByPlan judge codec) where
    step_says : (f : Going G) (r : Reply) (step : Stepped (Going G)) → codec.steps f r ≡ step → Says f.given step
    step_says f r step is = subst (Says f.given) (sym (goes.steps f r) ∙ is) (told_says f.given f.frag f.waits f.left f.got r)

    -- how a fetch began
    record BeganIn (sub : SubBox) (f : Going G) : Type 0 where
      frame : Frame
      schema : Schema
      frag : FragKey
      object : List ℕ
      want : Want
      first : Going G
      sub_is : want.sub ≡ sub
      opened : codec.opens frame schema frag object want ≡ Ok first
      given_is : f.given ≡ first.given

    began : (sub : SubBox) (f : Going G) → IsFetchIn codec sub f → BeganIn sub f
    began sub f (Begun frame s frag object want g sub_is opened) = record {
      frame = frame;
      schema = s;
      frag = frag;
      object = object;
      want = want;
      first = g;
      sub_is = sub_is;
      opened = opened;
      given_is = refl;
    }
    began sub f (Went g r h c before asked) =
        let b = began sub g before in
        record {
          frame = b.frame;
          schema = b.schema;
          frag = b.frag;
          object = b.object;
          want = b.want;
          first = b.first;
          sub_is = b.sub_is;
          opened = b.opened;
          given_is = step_says g r (Asks h c) asked ∙ b.given_is;
        }

    pub takes_inside : TakesJudgedIn judge codec
    takes_inside sub f r versions fetches takes =
        let b = began sub f fetches in
        let says = step_says f r (Takes versions) takes in
        record {
          frame = b.frame;
          schema = b.schema;
          frag = b.frag;
          object = b.object;
          want = b.want;
          first = b.first;
          got = says.0;
          sub_is = b.sub_is;
          opened = b.opened;
          judged = ap (λ (given : G). judge given says.0) (sym b.given_is) ∙ says.1;
        }

    pub takes_once : TakesAtOnce judge codec
    takes_once frame s frag object want f versions opened takes =
        by f.left (ap (λ (g : Going G). plan_steps judge g reply.Start) (sym (goes.begins frame s frag object want f opened)) ∙ sym (goes.steps f reply.Start) ∙ takes)
      where
        by : (left : List Planned) → asks_next judge f.given frag left [] ≡ Takes versions → (left ≡ []) × (judge f.given [] ≡ Whole versions)
        by [] e = (refl, over (judge f.given []) e)
          where
            over : (j : Verdict) → stepped {F = Going G} j ≡ Takes versions → j ≡ Whole versions
            over (Whole vs) is = cc
            over (Broken part at) is = absurd (cc)
        by (p ∷ left) e = absurd (cc)
