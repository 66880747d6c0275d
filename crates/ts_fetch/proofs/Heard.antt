-- What a fetch by a plan heard when it asks, takes or breaks.
use Rattle.std.proofs.Common.{◌≡◌, ℕ, ◌≤◌, Bool, true, false, nat_eq, min, List, [], ◌∷◌, ◌++◌, length, Option, Some, Ok, refl, sym, ap, subst, ◌∙◌, append_assoc, inl, inr, ◌⊎◌}
use Rattle.std.specs.Prelude.{if◌then◌else◌, nat_lt}
use Rattle.std.proofs.lemmas.Bool.{eqb-true, eqb-false}
use Rattle.std.proofs.lemmas.List.{append-nil}
use Rattle.ts_wire.specs.Exact.{IsBytes}
use Rattle.ts_base.specs.declared.keys.FragKey.{FragKey}
use Rattle.ts_base.specs.declared.names.Part.{Part}
use Rattle.ts_base.specs.declared.names.Name.TheVariants as name
use Rattle.ts_store.specs.declared.call.Call.{Call}
use Rattle.ts_store.specs.declared.call.Call.TheVariants as call
use Rattle.ts_store.specs.declared.call.Reply.{Reply}
use Rattle.ts_store.specs.declared.call.Reply.TheVariants as reply
use Rattle.ts_schema.specs.declared.frames.Frame.{Frame}
use Rattle.ts_schema.specs.declared.schemas.Schema.{Schema}
use Rattle.ts_schema.specs.declared.wants.Want.{Want}
use Rattle.ts_schema.specs.Parts.{Got, Sized}
use Rattle.ts_model.specs.Codecs.{Codec, Stepped, Asks, Takes, Breaks, SpeaksOf}
use Rattle.ts_actor.specs.PieceLaws.{whole_got, got_with, sized_with, MayReply, IsFetchOf, First, Then, EndsWith, AtOnce, AfterReply, AsksOwn}
use Rattle.ts_fetch.specs.declared.planned.Planned.{Planned}
use Rattle.ts_fetch.specs.declared.planned.Planned.TheVariants.{SizeOf, Range}
use Rattle.ts_fetch.specs.declared.judging.Verdict.{Verdict}
use Rattle.ts_fetch.specs.declared.judging.Verdict.TheVariants.{Whole, Broken}
use Rattle.ts_fetch.specs.Plans.{Judging, Going, call_of, stepped, asks_next, asks_size, told, plan_steps, AreRanges, gots_after, sizes_after, HeardAll, IsJudged, IsOtherSize}
use Rattle.ts_fetch.specs.PlanCodecs.{GoesByPlan, TakesJudged, BreaksJudged}

-- ---- one call more

ranges_size : (done : List Planned) (got : List (List ℕ)) (part : Part) (size : ℕ) → AreRanges done got → AreRanges (done ++ SizeOf part size ∷ []) got
ranges_size [] [] part size are = are
ranges_size [] (b ∷ got) part size are = are
ranges_size (SizeOf q n ∷ done) got part size are = ranges_size done got part size are
ranges_size (Range q from n ∷ done) [] part size are = are
ranges_size (Range q from n ∷ done) (b ∷ got) part size are = (are.0, ranges_size done got part size are.1)

ranges_range : (done : List Planned) (got : List (List ℕ)) (part : Part) (from count : ℕ) (bytes : List ℕ) → AreRanges done got → IsBytes bytes × (length bytes ≤ count) → AreRanges (done ++ Range part from count ∷ []) (got ++ bytes ∷ [])
ranges_range [] [] part from count bytes are few = (few, are)
ranges_range [] (b ∷ got) part from count bytes are few = absurd are
ranges_range (SizeOf q n ∷ done) got part from count bytes are few = ranges_range done got part from count bytes are few
ranges_range (Range q at n ∷ done) [] part from count bytes are few = absurd are
ranges_range (Range q at n ∷ done) (b ∷ got) part from count bytes are few = (are.0, ranges_range done got part from count bytes are.1 few)

gots_size : (done : List Planned) (got : List (List ℕ)) (gots : List Got) (part : Part) (size : ℕ) → AreRanges done got → gots_after (done ++ SizeOf part size ∷ []) got gots ≡ gots_after done got gots
gots_size [] got gots part size are = refl
gots_size (SizeOf q n ∷ done) got gots part size are = gots_size done got gots part size are
gots_size (Range q from n ∷ done) [] gots part size are = absurd are
gots_size (Range q from n ∷ done) (b ∷ got) gots part size are = gots_size done got _ part size are.1

gots_range : (done : List Planned) (got : List (List ℕ)) (gots : List Got) (part : Part) (from count : ℕ) (bytes : List ℕ) → AreRanges done got
    → gots_after (done ++ Range part from count ∷ []) (got ++ bytes ∷ []) gots ≡ record { part = part; at = from; bytes = bytes; ends = nat_lt (length bytes) count } ∷ gots_after done got gots
gots_range [] [] gots part from count bytes are = refl
gots_range [] (b ∷ got) gots part from count bytes are = absurd are
gots_range (SizeOf q n ∷ done) got gots part from count bytes are = gots_range done got gots part from count bytes are
gots_range (Range q at n ∷ done) [] gots part from count bytes are = absurd are
gots_range (Range q at n ∷ done) (b ∷ got) gots part from count bytes are = gots_range done got _ part from count bytes are.1

sizes_size : (done : List Planned) (sizes : List Sized) (part : Part) (size : ℕ) → sizes_after (done ++ SizeOf part size ∷ []) sizes ≡ record { part = part; size = size } ∷ sizes_after done sizes
sizes_size [] sizes part size = refl
sizes_size (SizeOf q n ∷ done) sizes part size = sizes_size done _ part size
sizes_size (Range q at n ∷ done) sizes part size = sizes_size done sizes part size

sizes_range : (done : List Planned) (sizes : List Sized) (part : Part) (from count : ℕ) → sizes_after (done ++ Range part from count ∷ []) sizes ≡ sizes_after done sizes
sizes_range [] sizes part from count = refl
sizes_range (SizeOf q n ∷ done) sizes part from count = sizes_range done _ part from count
sizes_range (Range q at n ∷ done) sizes part from count = sizes_range done sizes part from count

heard_size : (start : List Got) (done : List Planned) (got : List (List ℕ)) (gots : List Got) (sizes : List Sized) (part : Part) (size : ℕ) → HeardAll start done got gots sizes
    → HeardAll start (done ++ SizeOf part size ∷ []) got gots (record { part = part; size = size } ∷ sizes)
heard_size start done got gots sizes part size heard = record {
  ranges = ranges_size done got part size heard.ranges;
  gots_are = heard.gots_are ∙ sym (gots_size done got start part size heard.ranges);
  sizes_are = ap (λ (zs : List Sized). record { part = part; size = size } ∷ zs) heard.sizes_are ∙ sym (sizes_size done [] part size);
}

heard_range : (start : List Got) (done : List Planned) (got : List (List ℕ)) (gots : List Got) (sizes : List Sized) (part : Part) (from count : ℕ) (bytes : List ℕ) → HeardAll start done got gots sizes → IsBytes bytes × (length bytes ≤ count)
    → HeardAll start (done ++ Range part from count ∷ []) (got ++ bytes ∷ []) (record { part = part; at = from; bytes = bytes; ends = nat_lt (length bytes) count } ∷ gots) sizes
heard_range start done got gots sizes part from count bytes heard few = record {
  ranges = ranges_range done got part from count bytes heard.ranges few;
  gots_are = ap (λ (zs : List Got). record { part = part; at = from; bytes = bytes; ends = nat_lt (length bytes) count } ∷ zs) heard.gots_are ∙ sym (gots_range done got start part from count bytes heard.ranges);
  sizes_are = heard.sizes_are ∙ sym (sizes_range done [] part from count);
}

-- the call is the planned one, or the size of a part of which a range is waited for, so that no reply leads on
abbrev Way : FragKey → Planned → Call → List Sized → List Sized → Type 0
Way frag now c sizes before = ((sizes ≡ before) × (c ≡ call_of frag now)) ⊎ ((part : Part) × (from : ℕ) × (count : ℕ) × (now ≡ Range part from count) × (c ≡ call.Size (name.Part frag part)))

module _ {G : Type 0} (judge : Judging G) (start : List Got) (given : G) (frag : FragKey) (plan : List Planned) where
  -- a fetch waits for the reply to this call, after so much was got and told
  record Heard (gots : List Got) (sizes : List Sized) (f : Going G) (c : Call) : Type 0 where
    done : List Planned
    now : Planned
    before : List Sized
    waits : f.waits ≡ Some now
    frag_is : f.frag ≡ frag
    given_is : f.given ≡ given
    plan_is : plan ≡ done ++ now ∷ f.left
    heard : HeardAll start done f.got gots before
    way : Way frag now c sizes before

  abbrev Outcome : List Got → List Sized → Stepped (Going G) → Type 0
  Outcome gots sizes (Asks g c) = Heard gots sizes g c
  Outcome gots sizes (Takes versions) = IsJudged judge start given plan (Whole versions) gots sizes
  Outcome gots sizes (Breaks part at) = IsJudged judge start given plan (Broken part at) gots sizes ⊎ IsOtherSize start plan part at gots sizes

  -- the next call, or what the judge says
  next_heard : (done left : List Planned) (got : List (List ℕ)) (gots : List Got) (sizes : List Sized) → plan ≡ done ++ left → HeardAll start done got gots sizes → Outcome gots sizes (asks_next judge given frag left got)
  next_heard done [] got gots sizes plan_is heard = over (judge given got) refl
    where
      all : HeardAll start plan got gots sizes
      all = subst (λ (ps : List Planned). HeardAll start ps got gots sizes) (sym (plan_is ∙ append-nil done)) heard

      over : (j : Verdict) → judge given got ≡ j → Outcome gots sizes (stepped j)
      over (Whole versions) is = record { got = got; heard = all; judged = is }
      over (Broken part at) is = inl (record { got = got; heard = all; judged = is })
  next_heard done (p ∷ left) got gots sizes plan_is heard = record {
    done = done;
    now = p;
    before = sizes;
    waits = refl;
    frag_is = refl;
    given_is = refl;
    plan_is = plan_is;
    heard = heard;
    way = inl (refl, refl);
  }

  -- it asks for a size and waits as before
  again : (p : Planned) (part : Part) (done left : List Planned) (got : List (List ℕ)) (gots : List Got) (before sizes : List Sized) → plan ≡ done ++ p ∷ left → HeardAll start done got gots before
      → Way frag p (call.Size (name.Part frag part)) sizes before → Outcome gots sizes (asks_size given frag p part left got)
  again p part done left got gots before sizes plan_is heard way = record {
    done = done;
    now = p;
    before = before;
    waits = refl;
    frag_is = refl;
    given_is = refl;
    plan_is = plan_is;
    heard = heard;
    way = way;
  }

  -- the plan, split behind the call
  split_on : (done left : List Planned) (p : Planned) → plan ≡ done ++ p ∷ left → plan ≡ (done ++ p ∷ []) ++ left
  split_on done left p is = is ∙ sym (append_assoc done (p ∷ []) left)

  -- a reply to the planned call
  fit_heard : (now : Planned) (done left : List Planned) (got : List (List ℕ)) (gots : List Got) (before : List Sized) (r : Reply) → plan ≡ done ++ now ∷ left → HeardAll start done got gots before
      → MayReply (call_of frag now) r → Outcome (got_with (call_of frag now) r gots) (sized_with (call_of frag now) r before) (told judge given frag (Some now) left got r)
  fit_heard (SizeOf part size) done left got gots before (reply.Length count) plan_is heard may = tested (nat_eq count size) refl
    where
      next : count ≡ size → Outcome gots (record { part = part; size = count } ∷ before) (asks_next judge given frag left got)
      next same = subst (λ (n : ℕ). Outcome gots (record { part = part; size = n } ∷ before) (asks_next judge given frag left got)) (sym same)
          (next_heard (done ++ SizeOf part size ∷ []) left got gots _ (split_on done left (SizeOf part size) plan_is) (heard_size start done got gots before part size heard))

      tested : (b : Bool) → nat_eq count size ≡ b → Outcome gots (record { part = part; size = count } ∷ before) (if b then asks_next judge given frag left got else Breaks part (min count size))
      tested true e = next (eqb-true count size e)
      tested false e = inr (record {
        front = done;
        rest = left;
        got = got;
        before = before;
        size = size;
        count = count;
        plan_is = plan_is;
        heard = heard;
        told_is = refl;
        other = eqb-false count size e;
        at_is = refl;
      })
  fit_heard (Range part from count) done left got gots before (reply.Bytes bytes) plan_is heard may =
      next_heard (done ++ Range part from count ∷ []) left (got ++ bytes ∷ []) _ before (split_on done left (Range part from count) plan_is) (heard_range start done got gots before part from count bytes heard may)
  fit_heard (SizeOf part size) done left got gots before r plan_is heard may = again (SizeOf part size) part done left got gots before before plan_is heard (inl (refl, refl))
  fit_heard (Range part from count) done left got gots before r plan_is heard may = again (Range part from count) part done left got gots before before plan_is heard (inr (part, from, count, refl, refl))

  -- a reply to a size, where a range is waited for
  lost_heard : (part : Part) (from count : ℕ) (done left : List Planned) (got : List (List ℕ)) (gots : List Got) (before sizes : List Sized) (r : Reply) → plan ≡ done ++ Range part from count ∷ left → HeardAll start done got gots before
      → MayReply (call.Size (name.Part frag part)) r
      → Outcome (got_with (call.Size (name.Part frag part)) r gots) (sized_with (call.Size (name.Part frag part)) r sizes) (told judge given frag (Some (Range part from count)) left got r)
  lost_heard part from count done left got gots before sizes (reply.Bytes bytes) plan_is heard may = absurd may
  lost_heard part from count done left got gots before sizes r plan_is heard may = again (Range part from count) part done left got gots before _ plan_is heard (inr (part, from, count, refl, refl))

  -- a reply that can come
  told_heard : (gots : List Got) (sizes : List Sized) (f : Going G) (c : Call) (r : Reply) → Heard gots sizes f c → MayReply c r → Outcome (got_with c r gots) (sized_with c r sizes) (plan_steps judge f r)
  told_heard gots sizes f c r h may =
      subst (λ (q : Option Planned). Outcome (got_with c r gots) (sized_with c r sizes) (told judge f.given f.frag q f.left f.got r)) (sym h.waits)
      (subst (λ (k : FragKey). Outcome (got_with c r gots) (sized_with c r sizes) (told judge f.given k (Some h.now) f.left f.got r)) (sym h.frag_is)
      (subst (λ (k : G). Outcome (got_with c r gots) (sized_with c r sizes) (told judge k frag (Some h.now) f.left f.got r)) (sym h.given_is)
      (by h.way)))
    where
      by : Way frag h.now c sizes h.before → Outcome (got_with c r gots) (sized_with c r sizes) (told judge given frag (Some h.now) f.left f.got r)
      by (inl fits) =
          subst (λ (d : Call). Outcome (got_with d r gots) (sized_with d r sizes) (told judge given frag (Some h.now) f.left f.got r)) (sym fits.1)
          (subst (λ (zs : List Sized). Outcome (got_with (call_of frag h.now) r gots) (sized_with (call_of frag h.now) r zs) (told judge given frag (Some h.now) f.left f.got r)) (sym fits.0)
          (fit_heard h.now h.done f.left f.got gots h.before r h.plan_is h.heard (subst (λ (d : Call). MayReply d r) fits.1 may)))
      by (inr (part, from, count, now_is, call_is)) =
          subst (λ (d : Call). Outcome (got_with d r gots) (sized_with d r sizes) (told judge given frag (Some h.now) f.left f.got r)) (sym call_is)
          (subst (λ (p : Planned). Outcome (got_with (call.Size (name.Part frag part)) r gots) (sized_with (call.Size (name.Part frag part)) r sizes) (told judge given frag (Some p) f.left f.got r)) (sym now_is)
          (lost_heard part from count h.done f.left f.got gots h.before sizes r (subst (λ (p : Planned). plan ≡ h.done ++ p ∷ f.left) now_is h.plan_is) h.heard (subst (λ (d : Call). MayReply d r) call_is may)))

  -- the call is on a part of the fragment
  own_heard : (gots : List Got) (sizes : List Sized) (f : Going G) (c : Call) → Heard gots sizes f c → (part : Part) × SpeaksOf c (name.Part frag part)
  own_heard gots sizes f c h = by h.way
    where
      planned : (p : Planned) → (part : Part) × SpeaksOf (call_of frag p) (name.Part frag part)
      planned (SizeOf part size) = (part, refl)
      planned (Range part from count) = (part, refl)

      by : Way frag h.now c sizes h.before → (part : Part) × SpeaksOf c (name.Part frag part)
      by (inl fits) = subst (λ (d : Call). (part : Part) × SpeaksOf d (name.Part frag part)) (sym fits.1) (planned h.now)
      by (inr (part, from, count, now_is, call_is)) = (part, subst (λ (d : Call). SpeaksOf d (name.Part frag part)) (sym call_is) refl)

-- ---- of a way to read fragments

module _ {G : Type 0} (judge : Judging G) (codec : Codec (Going G)) (goes : GoesByPlan judge codec) (frame : Frame) (s : Schema) (frag : FragKey) (object : List ℕ) (want : Want) where
  abbrev start : List Got
  start = whole_got (codec.head_part frame) object

  -- where it begins
  first_heard : (f : Going G) → codec.opens frame s frag object want ≡ Ok f → Outcome judge start f.given frag f.left start [] (codec.steps f reply.Start)
  first_heard f opened =
      subst (Outcome judge start f.given frag f.left start []) (sym (goes.steps f reply.Start))
      (subst (λ (g : Going G). Outcome judge start f.given frag f.left start [] (plan_steps judge g reply.Start)) (sym (goes.begins frame s frag object want f opened))
      (next_heard judge start f.given frag f.left [] f.left [] start [] refl (record { ranges = tt; gots_are = refl; sizes_are = refl })))

  abbrev Fetching : List Got → List Sized → Stepped (Going G) → Type 0
  Fetching gots sizes step = (f : Going G) × (codec.opens frame s frag object want ≡ Ok f) × Outcome judge start f.given frag f.left gots sizes step

  fetch_heard : (gots : List Got) (sizes : List Sized) (f : Going G) (c : Call) → IsFetchOf codec frame s frag object want gots sizes f c → Fetching gots sizes (Asks f c)
  fetch_heard gots sizes f c (First g h d opened asked) = (g, opened, subst (Outcome judge start g.given frag g.left start []) asked (first_heard g opened))
  fetch_heard gots sizes f c (Then gs ss g h d e r before may asked) =
      let heard = fetch_heard gs ss g d before in
      (heard.0, heard.1, subst (Outcome judge start heard.0.given frag heard.0.left (got_with d r gs) (sized_with d r ss)) (sym (goes.steps g r) ∙ asked) (told_heard judge start heard.0.given frag heard.0.left gs ss g d r heard.2 may))

  end_heard : (end : Stepped (Going G)) (gots : List Got) (sizes : List Sized) → EndsWith codec frame s frag object want end gots sizes → Fetching gots sizes end
  end_heard end gots sizes (AtOnce f opened is) = (f, opened, subst (Outcome judge start f.given frag f.left start []) is (first_heard f opened))
  end_heard end gots sizes (AfterReply gs ss g d r before may is) =
      let heard = fetch_heard gs ss g d before in
      (heard.0, heard.1, subst (Outcome judge start heard.0.given frag heard.0.left (got_with d r gs) (sized_with d r ss)) (sym (goes.steps g r) ∙ is) (told_heard judge start heard.0.given frag heard.0.left gs ss g d r heard.2 may))

-- a fetch asks for parts of its own fragment alone
pub asks_own : {G : Type 0} (judge : Judging G) (codec : Codec (Going G)) → GoesByPlan judge codec → AsksOwn codec
asks_own judge codec goes frame s frag object want gots sizes f c is =
    let heard = fetch_heard judge codec goes frame s frag object want gots sizes f c is in
    own_heard judge (whole_got (codec.head_part frame) object) heard.0.given frag heard.0.left gots sizes f c heard.2

-- it takes what the judge says of the ranges of the whole plan
pub takes_judged : {G : Type 0} (judge : Judging G) (codec : Codec (Going G)) → GoesByPlan judge codec → TakesJudged judge codec
takes_judged judge codec goes frame s frag object want gots sizes versions ends = end_heard judge codec goes frame s frag object want (Takes versions) gots sizes ends

-- so it is where it breaks, but for another size
pub breaks_judged : {G : Type 0} (judge : Judging G) (codec : Codec (Going G)) → GoesByPlan judge codec → BreaksJudged judge codec
breaks_judged judge codec goes frame s frag object want gots sizes part at ends = end_heard judge codec goes frame s frag object want (Breaks part at) gots sizes ends
