-- Two ways to write fragments that each keep the laws keep them as one.
use Rattle.std.proofs.Common.{◌≡◌, ℕ, ◌+◌, ◌≤◌, Bool, true, false, List, Ok, Some, refl, sym, subst, inl, inr}
use Rattle.std.specs.Prelude.{if◌then◌else◌}
use Rattle.ts_base.specs.declared.keys.FragKey.{FragKey}
use Rattle.ts_base.specs.declared.names.Name.TheVariants as name
use Rattle.ts_base.specs.declared.names.Part.{Part}
use Rattle.ts_base.specs.declared.heads.Piece.{Piece}
use Rattle.ts_domain.specs.declared.boxes.SubBox.{SubBox}
use Rattle.ts_store.specs.declared.call.Call.{Call}
use Rattle.ts_store.specs.declared.call.Reply.{Reply}
use Rattle.ts_schema.specs.declared.frames.Frame.{Frame}
use Rattle.ts_schema.specs.declared.schemas.Schema.{Schema}
use Rattle.ts_schema.specs.declared.wants.Want.{Want}
use Rattle.ts_schema.specs.Parts.{Look, Got, Sized}
use Rattle.ts_schema.specs.Wants.{taken}
use Rattle.ts_model.specs.Codecs.{Codec, Stepped, Asks, Takes, Breaks, Spelled, Tracking, CodecLaws, CodecLawsOn, GoesWell, AsksLooks, AsksHeld, SpeaksOf, IsToldOf}
use Rattle.ts_model.specs.States.{all_of}
use Rattle.ts_actor.specs.PieceLaws.{Off, gets_of, SpellsOne, RefusesBroken, OpensUnbroken, IsFetchIn, Begun, Went, AreInBox, TakesInside, IsFetchOf, First, Then, EndsWith, AtOnce, AfterReply, JudgesRight, AsksOwn, TakesOrdered, TakesStorable, TakesSpelled, NamesHead, SettlesHeads, AsksBounded}
use Rattle.ts_kinds.specs.declared.either_fetch.EitherFetch.{EitherFetch}
use Rattle.ts_kinds.specs.declared.either_fetch.EitherFetch.TheVariants.{Dense, Sparse}
use Rattle.ts_kinds.specs.Kinds.{OfKind, seen_step, seen_ok, either_steps, either_codec, either_spelled, either_off, either_tracks, either_count, either_most}
use Rattle.ts_kinds.specs.Seen.{bare_as, opened, asked, took, well, seen_refuses, seen_unbroken, seen_settles, seen_judges, seen_own, seen_ordered, seen_stores, seen_found, seen_fair, seen_laws}

-- ---- the way of one kind of array

-- the way of one kind, whatever the frame is
abbrev codec_in : {F G : Type 0} → Bool → Codec F → Codec G → Codec (EitherFetch F G)
codec_in dense d e = record {
  writable = λ frame attrs p. OfKind dense (d.writable frame attrs p) (e.writable frame attrs p);
  parts = λ frame s p. if dense then d.parts frame s p else e.parts frame s p;
  head_part = λ frame. if dense then d.head_part frame else e.head_part frame;
  head = λ frame frag object. if dense then d.head frame frag object else e.head frame frag object;
  opens = λ frame s frag object want. if dense then seen_ok (λ f. Dense f) (d.opens frame s frag object want) else seen_ok (λ g. Sparse g) (e.opens frame s frag object want);
  steps = either_steps d e;
}

-- the grammar of one kind: which piece parts spell
abbrev spelled_in : Bool → Spelled → Spelled → Spelled
spelled_in dense d e frame s p look = OfKind dense (d frame s p look) (e frame s p look)

-- what is broken by it
abbrev off_in : Bool → Off → Off → Off
off_in dense d e frame s frag gots sizes part at = OfKind dense (d frame s frag gots sizes part at) (e frame s frag gots sizes part at)

-- how many gets a fetch may make in an array of one kind
abbrev most_in : Bool → (Frame → Schema → Piece → Want → ℕ) → (Frame → Schema → Piece → Want → ℕ) → Frame → Schema → Piece → Want → ℕ
most_in dense d e frame s p want = if dense then d frame s p want else e frame s p want

-- ---- the grammar

-- the parts of a fragment hold one piece, since those of its kind do
pub either_one : (d e : Spelled) → SpellsOne d → SpellsOne e → SpellsOne (either_spelled d e)
either_one d e one two frame = of_kind frame.dense frame
  where
    of_kind : (dense : Bool) → SpellsOne (spelled_in dense d e)
    of_kind true = one
    of_kind false = two

module _ {F G : Type 0} (d : Codec F) (e : Codec G) where
  -- a fetch goes on as it does in the way of dense arrays
  dense_same : (f : F) (r : Reply) → either_steps d e (Dense f) r ≡ seen_step (λ f. Dense f) (d.steps f r)
  dense_same f r = refl

  -- a fetch goes on as it does in the way of sparse ones
  sparse_same : (g : G) (r : Reply) → either_steps d e (Sparse g) r ≡ seen_step (λ g. Sparse g) (e.steps g r)
  sparse_same g r = refl

  -- ---- runs of fetches

  module _ (frame : Frame) (s : Schema) (frag : FragKey) (object : List ℕ) (want : Want) where
    -- a run in an array goes in the way of its kind
    run_of_kind : (gots : List Got) (sizes : List Sized) (h : EitherFetch F G) (c : Call) → IsFetchOf (either_codec d e) frame s frag object want gots sizes h c
        → IsFetchOf (codec_in frame.dense d e) frame s frag object want gots sizes h c
    run_of_kind _ _ _ _ (First k h c opens asks) = First k h c opens asks
    run_of_kind _ _ _ _ (Then before told k h b c r is may asks) = Then before told k h b c r (run_of_kind before told k b is) may asks

    -- it ends there as it does
    ends_of_kind : (end : Stepped (EitherFetch F G)) (gots : List Got) (sizes : List Sized) → EndsWith (either_codec d e) frame s frag object want end gots sizes
        → EndsWith (codec_in frame.dense d e) frame s frag object want end gots sizes
    ends_of_kind end gots sizes (AtOnce k opens ends) = AtOnce k opens ends
    ends_of_kind end gots sizes (AfterReply before told k c r is may ends) = AfterReply before told k c r (run_of_kind before told k c is) may ends

  -- a fetch in a box goes in its own way
  abbrev InOwn : SubBox → EitherFetch F G → Type 0
  InOwn sub (Dense f) = IsFetchIn d sub f
  InOwn sub (Sparse g) = IsFetchIn e sub g

  -- a fetch that begins in a box begins there in its own way
  begun_own : (sub : SubBox) (frame : Frame) (s : Schema) (frag : FragKey) (object : List ℕ) (want : Want) (h : EitherFetch F G) → want.sub ≡ sub → (dense : Bool)
      → (codec_in dense d e).opens frame s frag object want ≡ Ok h → InOwn sub h
  begun_own sub frame s frag object want h same true opens =
      let one = opened (λ f. Dense f) (d.opens frame s frag object want) h opens in
      let Own : EitherFetch F G → Type 0 = λ k. InOwn sub k in
      subst Own (sym one.2) (Begun frame s frag object want one.0 same one.1)
  begun_own sub frame s frag object want h same false opens =
      let one = opened (λ g. Sparse g) (e.opens frame s frag object want) h opens in
      let Own : EitherFetch F G → Type 0 = λ k. InOwn sub k in
      subst Own (sym one.2) (Begun frame s frag object want one.0 same one.1)

  -- a fetch that goes on does so in its own way
  went_own : (sub : SubBox) (h : EitherFetch F G) (r : Reply) (k : EitherFetch F G) (c : Call) → InOwn sub h → either_steps d e h r ≡ Asks k c → InOwn sub k
  went_own sub (Dense f) r k c own asks =
      let one = asked (λ f. Dense f) (d.steps f r) k c asks in
      let Own : EitherFetch F G → Type 0 = λ k. InOwn sub k in
      subst Own (sym one.2) (Went f r one.0 c own one.1)
  went_own sub (Sparse g) r k c own asks =
      let one = asked (λ g. Sparse g) (e.steps g r) k c asks in
      let Own : EitherFetch F G → Type 0 = λ k. InOwn sub k in
      subst Own (sym one.2) (Went g r one.0 c own one.1)

  -- so each fetch in a box is one of its own way
  fetch_own : (sub : SubBox) (h : EitherFetch F G) → IsFetchIn (either_codec d e) sub h → InOwn sub h
  fetch_own sub _ (Begun frame s frag object want h same opens) = begun_own sub frame s frag object want h same frame.dense opens
  fetch_own sub _ (Went k r h c is asks) = went_own sub k r h c (fetch_own sub k is) asks

  -- ---- laws of heads and of fetches

  -- a head bears the name of its fragment
  pub either_names : NamesHead d → NamesHead e → NamesHead (either_codec d e)
  either_names one two frame = of_kind frame.dense frame
    where
      of_kind : (dense : Bool) → NamesHead (codec_in dense d e)
      of_kind true = one
      of_kind false = two

  -- a fetch asks for parts of its own fragment alone
  pub either_own : AsksOwn d → AsksOwn e → AsksOwn (either_codec d e)
  either_own one two frame s frag object want gots sizes h c is = of_kind frame.dense frame s frag object want gots sizes h c (run_of_kind frame s frag object want gots sizes h c is)
    where
      of_kind : (dense : Bool) → AsksOwn (codec_in dense d e)
      of_kind true = seen_own (λ f. Dense f) d (either_steps d e) dense_same one
      of_kind false = seen_own (λ g. Sparse g) e (either_steps d e) sparse_same two

  -- what a fetch takes lies in the box that was wanted
  pub either_inside : TakesInside d → TakesInside e → TakesInside (either_codec d e)
  either_inside one two sub h r versions is = of_fetch h (fetch_own sub h is)
    where
      of_fetch : (h : EitherFetch F G) → InOwn sub h → either_steps d e h r ≡ Takes versions → AreInBox sub versions
      of_fetch (Dense f) own takes = one sub f r versions own (took (λ f. Dense f) (d.steps f r) versions takes)
      of_fetch (Sparse g) own takes = two sub g r versions own (took (λ g. Sparse g) (e.steps g r) versions takes)

  -- what a fetch takes stands in order
  pub either_ordered : TakesOrdered d → TakesOrdered e → TakesOrdered (either_codec d e)
  either_ordered one two frame s frag object want gots sizes versions bytes short ends =
      of_kind frame.dense frame s frag object want gots sizes versions bytes short (ends_of_kind frame s frag object want (Takes versions) gots sizes ends)
    where
      of_kind : (dense : Bool) → TakesOrdered (codec_in dense d e)
      of_kind true = seen_ordered (λ f. Dense f) d (either_steps d e) dense_same one
      of_kind false = seen_ordered (λ g. Sparse g) e (either_steps d e) sparse_same two

  -- what a fetch of all takes can be written again
  pub either_stores : TakesStorable d → TakesStorable e → TakesStorable (either_codec d e)
  either_stores one two frame s frag object head gots sizes versions is_frame are_attrs spelled bytes short is_head in_schema ends =
      of_kind frame.dense frame s frag object head gots sizes versions is_frame are_attrs spelled bytes short is_head in_schema
      (ends_of_kind frame s frag object (all_of frame s.attrs) (Takes versions) gots sizes ends)
    where
      of_kind : (dense : Bool) → TakesStorable (codec_in dense d e)
      of_kind true = seen_stores (λ f. Dense f) d (either_steps d e) dense_same one
      of_kind false = seen_stores (λ g. Sparse g) e (either_steps d e) sparse_same two

  -- what a fetch takes at once is what is wanted of the piece that is spelled
  pub either_found : (sd se : Spelled) → TakesSpelled d sd → TakesSpelled e se → TakesSpelled (either_codec d e) (either_spelled sd se)
  either_found sd se one two frame s frag object want h versions bytes short opens takes =
      elim (of_kind frame.dense frame s frag object want h versions bytes short opens takes) [
        | inl none ↦ inl none
        | inr (inl found) ↦ inr (inl found)
        | inr (inr bare) ↦ inr (inr (bare_as (codec_in frame.dense d e) (either_codec d e) frame s frag object want versions refl bare))
      ]
    where
      of_kind : (dense : Bool) → TakesSpelled (codec_in dense d e) (spelled_in dense sd se)
      of_kind true = seen_found (λ f. Dense f) d (either_steps d e) dense_same sd one
      of_kind false = seen_found (λ g. Sparse g) e (either_steps d e) sparse_same se two

  -- ---- how many gets

  -- a fetch makes no more gets than it may
  pub either_bounded : (sd se : Spelled) (gd : F → ℕ) (ge : G → ℕ) (md me : Frame → Schema → Piece → Want → ℕ) → AsksBounded d sd gd md → AsksBounded e se ge me
      → AsksBounded (either_codec d e) (either_spelled sd se) (either_count gd ge) (either_most md me)
  either_bounded sd se gd ge md me one two = record { pays = pays; fair = λ frame. fair frame.dense frame }
    where
      -- each get takes one of those that the fetch may make
      pays : (h k : EitherFetch F G) (r : Reply) (c : Call) → either_steps d e h r ≡ Asks k c → either_count gd ge k + gets_of c ≤ either_count gd ge h
      pays (Dense f) k r c asks =
          let step = asked (λ f. Dense f) (d.steps f r) k c asks in
          let Paid : EitherFetch F G → Type 0 = λ h. either_count gd ge h + gets_of c ≤ gd f in
          subst Paid (sym step.2) (one.pays f step.0 r c step.1)
      pays (Sparse g) k r c asks =
          let step = asked (λ g. Sparse g) (e.steps g r) k c asks in
          let Paid : EitherFetch F G → Type 0 = λ h. either_count gd ge h + gets_of c ≤ ge g in
          subst Paid (sym step.2) (two.pays g step.0 r c step.1)

      -- a fetch of a piece may make as many as in the way of its array
      fair : (dense : Bool) (frame : Frame) (s : Schema) (p : Piece) (look : Look) (want : Want) (object : List ℕ) (h : EitherFetch F G) → spelled_in dense sd se frame s p look
          → look ((codec_in dense d e).head_part frame) ≡ Some object → (codec_in dense d e).opens frame s p.head.frag object want ≡ Ok h
          → either_count gd ge h ≤ most_in dense md me frame s p want
      fair true = seen_fair (λ f. Dense f) d (either_steps d e) dense_same sd gd md (either_count gd ge) (λ f. refl) one
      fair false = seen_fair (λ g. Sparse g) e (either_steps d e) sparse_same se ge me (either_count gd ge) (λ g. refl) two

-- ---- laws of what is broken

module _ {F G : Type 0} (d : Codec F) (e : Codec G) (od oe : Off) where
  -- what is refused is broken at the offset that is told
  pub either_broken : RefusesBroken d od → RefusesBroken e oe → RefusesBroken (either_codec d e) (either_off od oe)
  either_broken one two = record { head = λ frame. (of_kind frame.dense).head frame; opens = λ frame. (of_kind frame.dense).opens frame }
    where
      of_kind : (dense : Bool) → RefusesBroken (codec_in dense d e) (off_in dense od oe)
      of_kind true = seen_refuses (λ f. Dense f) d (either_steps d e) (dense_same d e) od one
      of_kind false = seen_refuses (λ g. Sparse g) e (either_steps d e) (sparse_same d e) oe two

  -- no fetch begins on a broken object
  pub either_whole : OpensUnbroken d od → OpensUnbroken e oe → OpensUnbroken (either_codec d e) (either_off od oe)
  either_whole one two frame = of_kind frame.dense frame
    where
      of_kind : (dense : Bool) → OpensUnbroken (codec_in dense d e) (off_in dense od oe)
      of_kind true = seen_unbroken (λ f. Dense f) d (either_steps d e) (dense_same d e) od one
      of_kind false = seen_unbroken (λ g. Sparse g) e (either_steps d e) (sparse_same d e) oe two

  -- a head that is read is settled by a front of its object
  pub either_settled : SettlesHeads d od → SettlesHeads e oe → SettlesHeads (either_codec d e) (either_off od oe)
  either_settled one two frame frag object head bytes is =
      let settled = of_kind frame.dense frame frag object head bytes is in record { end = settled.end; whole = settled.whole; alone = settled.alone }
    where
      of_kind : (dense : Bool) → SettlesHeads (codec_in dense d e) (off_in dense od oe)
      of_kind true = seen_settles (λ f. Dense f) d (either_steps d e) (dense_same d e) od one
      of_kind false = seen_settles (λ g. Sparse g) e (either_steps d e) (sparse_same d e) oe two

  -- a fetch refuses what is broken, and takes nothing of it
  pub either_judges : JudgesRight d od → JudgesRight e oe → JudgesRight (either_codec d e) (either_off od oe)
  either_judges one two = record {
    breaks = λ frame s frag object want gots sizes part at ends. (of_kind frame.dense).breaks frame s frag object want gots sizes part at (ends_of_kind d e frame s frag object want (Breaks part at) gots sizes ends);
    whole = λ frame s frag object want gots sizes versions part at ends. (of_kind frame.dense).whole frame s frag object want gots sizes versions part at (ends_of_kind d e frame s frag object want (Takes versions) gots sizes ends);
  }
    where
      of_kind : (dense : Bool) → JudgesRight (codec_in dense d e) (off_in dense od oe)
      of_kind true = seen_judges (λ f. Dense f) d (either_steps d e) (dense_same d e) od one
      of_kind false = seen_judges (λ g. Sparse g) e (either_steps d e) (sparse_same d e) oe two

-- ---- laws of what is written and read

-- a way to write fragments of any array is one to write those of some arrays
pub laws_on : {F : Type 0} (On : Frame → Type 0) (codec : Codec F) (spelled : Spelled) (tracks : Tracking F) → CodecLaws codec spelled tracks → CodecLawsOn On codec spelled tracks
laws_on On codec spelled tracks laws = record {
  ordinary = λ frame attrs p on. laws.ordinary frame attrs p tt;
  merged = λ frame attrs id p ps on. laws.merged frame attrs id p ps tt;
  parts = laws.parts;
  last = laws.last;
  storable = laws.storable;
  once = laws.once;
  head = laws.head;
  looks = laws.looks;
  opens = laws.opens;
  asks = laws.asks;
  goes = laws.goes;
}

-- the arrays of one kind
abbrev pub IsOfKind : Bool → Frame → Type 0
IsOfKind dense frame = frame.dense ≡ dense

module _ {F G : Type 0} (d : Codec F) (e : Codec G) (sd se : Spelled) (td : Tracking F) (te : Tracking G) (one : CodecLawsOn (IsOfKind true) d sd td) (two : CodecLawsOn (IsOfKind false) e se te) where
  -- a fetch asks for nothing but gets and sizes
  looks : AsksLooks (either_codec d e)
  looks (Dense f) r k c asks = let step = asked (λ f. Dense f) (d.steps f r) k c asks in one.looks f r step.0 c step.1
  looks (Sparse g) r k c asks = let step = asked (λ g. Sparse g) (e.steps g r) k c asks in two.looks g r step.0 c step.1

  -- a fetch asks for parts that the fragment has
  asks_held : (frame : Frame) (s : Schema) (p : Piece) (look : Look) (want : Want) (h : EitherFetch F G) (c : Call) → either_tracks td te frame s p look want h c → AsksHeld look p.head.frag c
  asks_held frame s p look want (Dense f) c on = one.asks frame s p look want f c on
  asks_held frame s p look want (Sparse g) c on = two.asks frame s p look want g c on

  -- a fetch that is told what is held goes on well
  goes_well : (frame : Frame) (s : Schema) (p : Piece) (look : Look) (want : Want) (h : EitherFetch F G) (c : Call) (part : Part) (bytes : List ℕ) (r : Reply)
      → either_tracks td te frame s p look want h c → look part ≡ Some bytes → SpeaksOf c (name.Part p.head.frag part) → IsToldOf c bytes r
      → GoesWell (either_tracks td te frame s p look want) (taken want p.versions) (either_steps d e h r)
  goes_well frame s p look want (Dense f) c part bytes r on held speaks is_told =
      well (λ f. Dense f) (td frame s p look want) (either_tracks td te frame s p look want) (λ f c on. on) (taken want p.versions) (d.steps f r) (one.goes frame s p look want f c part bytes r on held speaks is_told)
  goes_well frame s p look want (Sparse g) c part bytes r on held speaks is_told =
      well (λ g. Sparse g) (te frame s p look want) (either_tracks td te frame s p look want) (λ g c on. on) (taken want p.versions) (e.steps g r) (two.goes frame s p look want g c part bytes r on held speaks is_told)

  -- the laws of one kind of array
  laws_in : (dense : Bool) → CodecLawsOn (IsOfKind dense) (codec_in dense d e) (spelled_in dense sd se) (either_tracks td te)
  laws_in true = seen_laws (λ f. Dense f) d (either_steps d e) (dense_same d e) (IsOfKind true) sd td (either_tracks td te) (λ frame s p look want f c on. on) looks asks_held goes_well one
  laws_in false = seen_laws (λ g. Sparse g) e (either_steps d e) (sparse_same d e) (IsOfKind false) se te (either_tracks td te) (λ frame s p look want g c on. on) looks asks_held goes_well two

  -- what is written is read again, and fetches find what was written: it is enough that the first way writes dense arrays, and the second sparse ones
  pub either_laws : CodecLaws (either_codec d e) (either_spelled sd se) (either_tracks td te)
  either_laws = record {
    ordinary = λ frame attrs p any. (laws_in frame.dense).ordinary frame attrs p refl;
    merged = λ frame attrs id p ps any. (laws_in frame.dense).merged frame attrs id p ps refl;
    parts = λ frame. (laws_in frame.dense).parts frame;
    last = λ frame. (laws_in frame.dense).last frame;
    storable = λ frame. (laws_in frame.dense).storable frame;
    once = λ frame. (laws_in frame.dense).once frame;
    head = λ frame. (laws_in frame.dense).head frame;
    looks = looks;
    opens = λ frame s p look want object is there. let begun = (laws_in frame.dense).opens frame s p look want object is there in record { fetch = begun.fetch; opens = begun.opens; starts = begun.starts };
    asks = asks_held;
    goes = goes_well;
  }
