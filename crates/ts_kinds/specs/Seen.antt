-- One way to write fragments keeps its laws where its fetches are seen among others.
use Rattle.std.proofs.Common.{◌≡◌, ℕ, ◌≤◌, List, Result, Ok, Err, Some, refl, sym, ap, subst, ◌∙◌, inl, inr}
use Rattle.ts_base.specs.declared.keys.FragKey.{FragKey}
use Rattle.ts_base.specs.declared.names.Name.TheVariants as name
use Rattle.ts_base.specs.declared.names.Part.{Part}
use Rattle.ts_base.specs.declared.heads.Piece.{Piece}
use Rattle.ts_base.specs.declared.heads.Version.{Version}
use Rattle.ts_store.specs.declared.call.Call.{Call}
use Rattle.ts_store.specs.declared.call.Reply.{Reply}
use Rattle.ts_store.specs.declared.call.Reply.TheVariants as reply
use Rattle.ts_schema.specs.declared.frames.Frame.{Frame}
use Rattle.ts_schema.specs.declared.schemas.Schema.{Schema}
use Rattle.ts_schema.specs.declared.wants.Want.{Want}
use Rattle.ts_schema.specs.Parts.{Look, Got, Sized}
use Rattle.ts_schema.specs.Wants.{taken}
use Rattle.ts_model.specs.Codecs.{Codec, Stepped, Asks, Takes, Breaks, Spelled, Tracking, CodecLawsOn, OpensWell, GoesWell, AsksLooks, AsksHeld, SpeaksOf, IsToldOf}
use Rattle.ts_actor.specs.PieceLaws.{Off, RefusesBroken, OpensUnbroken, IsFetchOf, First, Then, EndsWith, AtOnce, AfterReply, JudgesRight, AsksOwn, TakesOrdered, TakesStorable, TakesSpelled, TakesBare, SettlesHeads, AsksBounded}
use Rattle.ts_kinds.specs.Kinds.{seen_step, seen_ok}

-- ---- one answer, one step

module _ {F H : Type 0} (seen : F → H) where
  -- a fetch that is seen was one
  pub opened : (r : Result F ℕ) (h : H) → seen_ok seen r ≡ Ok h → (f : F) × (r ≡ Ok f) × (h ≡ seen f)
  opened (Ok f) h e = let same : seen f ≡ h = cc in (f, refl, sym same)
  opened (Err at) h e = absurd (cc)

  -- what is refused was refused
  pub refused : (r : Result F ℕ) (at : ℕ) → seen_ok seen r ≡ Err at → r ≡ Err at
  refused (Ok f) at e = absurd (cc)
  refused (Err b) at e = let same : b ≡ at = cc in ap (λ x. Err x) same

  -- a fetch that is seen to ask does ask
  pub asked : (step : Stepped F) (h : H) (c : Call) → seen_step seen step ≡ Asks h c → (f : F) × (step ≡ Asks f c) × (h ≡ seen f)
  asked (Asks f d) h c e = let same : d ≡ c = cc in let there : seen f ≡ h = cc in (f, ap (λ x. Asks f x) same, sym there)
  asked (Takes vs) h c e = absurd (cc)
  asked (Breaks part at) h c e = absurd (cc)

  -- what is seen to be taken is taken
  pub took : (step : Stepped F) (versions : List Version) → seen_step seen step ≡ Takes versions → step ≡ Takes versions
  took (Asks f c) versions e = absurd (cc)
  took (Takes vs) versions e = let same : vs ≡ versions = cc in ap (λ x. Takes x) same
  took (Breaks part at) versions e = absurd (cc)

  -- what is seen to be refused is refused
  pub broke : (step : Stepped F) (part : Part) (at : ℕ) → seen_step seen step ≡ Breaks part at → step ≡ Breaks part at
  broke (Asks f c) part at e = absurd (cc)
  broke (Takes vs) part at e = absurd (cc)
  broke (Breaks p b) part at e = let one : p ≡ part = cc in let two : b ≡ at = cc in ap (λ x. Breaks x b) one ∙ ap (λ x. Breaks part x) two

  -- a step that goes well is seen to go well
  pub well : (tracks : F → Call → Type 0) (shown : H → Call → Type 0) → ((f : F) (c : Call) → tracks f c → shown (seen f) c) → (wanted : List Version) (step : Stepped F)
      → GoesWell tracks wanted step → GoesWell shown wanted (seen_step seen step)
  well tracks shown on wanted (Asks f c) goes = on f c goes
  well tracks shown on wanted (Takes vs) goes = goes
  well tracks shown on wanted (Breaks part at) goes = goes

-- ---- versions of which no value was read

-- a way that reads the same head of an object takes the same versions as bare
pub bare_as : {F H : Type 0} (one : Codec F) (other : Codec H) (frame : Frame) (s : Schema) (frag : FragKey) (object : List ℕ) (want : Want) (versions : List Version) → one.head frame frag object ≡ other.head frame frag object
    → TakesBare one frame s frag object want versions → TakesBare other frame s frag object want versions
bare_as one other frame s frag object want versions same bare = record { head = bare.head; reads = sym same ∙ bare.reads; ordinary = bare.ordinary; unread = bare.unread; bare = bare.bare }

-- ---- a way whose fetches are seen among others

-- the way whose fetches are seen so, and go on by these steps
abbrev pub seen_codec : {F H : Type 0} → (F → H) → Codec F → (H → Reply → Stepped H) → Codec H
seen_codec seen codec steps = record {
  writable = codec.writable;
  parts = codec.parts;
  head_part = codec.head_part;
  head = codec.head;
  opens = λ frame s frag object want. seen_ok seen (codec.opens frame s frag object want);
  steps = steps;
}

module _ {F H : Type 0} (seen : F → H) (codec : Codec F) (steps : H → Reply → Stepped H) (same : (f : F) (r : Reply) → steps (seen f) r ≡ seen_step seen (codec.steps f r)) where
  -- the steps of a fetch that is seen are its own
  steps_of : (f : F) (h : H) (r : Reply) → h ≡ seen f → seen_step seen (codec.steps f r) ≡ steps h r
  steps_of f h r e = sym (same f r) ∙ ap (λ x. steps x r) (sym e)

  module _ (frame : Frame) (s : Schema) (frag : FragKey) (object : List ℕ) (want : Want) where
    -- a run of the way that is seen is a run of the way itself
    seen_of : (gots : List Got) (sizes : List Sized) (h : H) (c : Call) → IsFetchOf (seen_codec seen codec steps) frame s frag object want gots sizes h c
        → (f : F) × IsFetchOf codec frame s frag object want gots sizes f c × (h ≡ seen f)
    seen_of _ _ _ _ (First k h c opens asks) =
        let begun = opened seen (codec.opens frame s frag object want) k opens in
        let one = asked seen (codec.steps begun.0 reply.Start) h c (steps_of begun.0 k reply.Start begun.2 ∙ asks) in
        (one.0, First begun.0 one.0 c begun.1 one.1, one.2)
    seen_of _ _ _ _ (Then before told k h b c r is may asks) =
        let run = seen_of before told k b is in
        let one = asked seen (codec.steps run.0 r) h c (steps_of run.0 k r run.2 ∙ asks) in
        (one.0, Then before told run.0 one.0 b c r run.1 may one.1, one.2)

    -- it ends as it is seen to end
    seen_ends : (end : Stepped F) (shown : Stepped H) → ((step : Stepped F) → seen_step seen step ≡ shown → step ≡ end) → (gots : List Got) (sizes : List Sized)
        → EndsWith (seen_codec seen codec steps) frame s frag object want shown gots sizes → EndsWith codec frame s frag object want end gots sizes
    seen_ends end shown only gots sizes (AtOnce k opens ends) =
        let begun = opened seen (codec.opens frame s frag object want) k opens in
        AtOnce begun.0 begun.1 (only (codec.steps begun.0 reply.Start) (steps_of begun.0 k reply.Start begun.2 ∙ ends))
    seen_ends end shown only gots sizes (AfterReply before told k c r is may ends) =
        let run = seen_of before told k c is in
        AfterReply before told run.0 c r run.1 may (only (codec.steps run.0 r) (steps_of run.0 k r run.2 ∙ ends))

    -- it takes what it is seen to take
    seen_takes : (gots : List Got) (sizes : List Sized) (versions : List Version) → EndsWith (seen_codec seen codec steps) frame s frag object want (Takes versions) gots sizes
        → EndsWith codec frame s frag object want (Takes versions) gots sizes
    seen_takes gots sizes versions = seen_ends (Takes versions) (Takes versions) (λ step. took seen step versions) gots sizes

    -- it refuses what it is seen to refuse
    seen_breaks : (gots : List Got) (sizes : List Sized) (part : Part) (at : ℕ) → EndsWith (seen_codec seen codec steps) frame s frag object want (Breaks part at) gots sizes
        → EndsWith codec frame s frag object want (Breaks part at) gots sizes
    seen_breaks gots sizes part at = seen_ends (Breaks part at) (Breaks part at) (λ step. broke seen step part at) gots sizes

  -- ---- its laws

  -- what is refused is broken at the offset that is told
  pub seen_refuses : (off : Off) → RefusesBroken codec off → RefusesBroken (seen_codec seen codec steps) off
  seen_refuses off law = record {
    head = law.head;
    opens = λ frame s frag object want at e. law.opens frame s frag object want at (refused seen (codec.opens frame s frag object want) at e);
  }

  -- no fetch begins on a broken object
  pub seen_unbroken : (off : Off) → OpensUnbroken codec off → OpensUnbroken (seen_codec seen codec steps) off
  seen_unbroken off law frame s frag object want part at h is opens =
      let begun = opened seen (codec.opens frame s frag object want) h opens in law frame s frag object want part at begun.0 is begun.1

  -- a head that is read is settled by the same front
  pub seen_settles : (off : Off) → SettlesHeads codec off → SettlesHeads (seen_codec seen codec steps) off
  seen_settles off law frame frag object head bytes is = let one = law frame frag object head bytes is in record { end = one.end; whole = one.whole; alone = one.alone }

  -- a fetch refuses what is broken, and takes nothing of it
  pub seen_judges : (off : Off) → JudgesRight codec off → JudgesRight (seen_codec seen codec steps) off
  seen_judges off law = record {
    breaks = λ frame s frag object want gots sizes part at ends. law.breaks frame s frag object want gots sizes part at (seen_breaks frame s frag object want gots sizes part at ends);
    whole = λ frame s frag object want gots sizes versions part at ends. law.whole frame s frag object want gots sizes versions part at (seen_takes frame s frag object want gots sizes versions ends);
  }

  -- a fetch asks for parts of its own fragment alone
  pub seen_own : AsksOwn codec → AsksOwn (seen_codec seen codec steps)
  seen_own law frame s frag object want gots sizes h c is = let run = seen_of frame s frag object want gots sizes h c is in law frame s frag object want gots sizes run.0 c run.1

  -- what a fetch takes stands in order
  pub seen_ordered : TakesOrdered codec → TakesOrdered (seen_codec seen codec steps)
  seen_ordered law frame s frag object want gots sizes versions bytes short ends =
      law frame s frag object want gots sizes versions bytes short (seen_takes frame s frag object want gots sizes versions ends)

  -- what a fetch of all takes can be written again
  pub seen_stores : TakesStorable codec → TakesStorable (seen_codec seen codec steps)
  seen_stores law frame s frag object head gots sizes versions is_frame are_attrs spelled bytes short is_head in_schema ends =
      law frame s frag object head gots sizes versions is_frame are_attrs spelled bytes short is_head in_schema (seen_takes frame s frag object _ gots sizes versions ends)

  -- what a fetch takes at once is what is wanted of the piece that is spelled
  pub seen_found : (spelled : Spelled) → TakesSpelled codec spelled → TakesSpelled (seen_codec seen codec steps) spelled
  seen_found spelled law frame s frag object want h versions bytes short opens takes =
      let begun = opened seen (codec.opens frame s frag object want) h opens in
      elim (law frame s frag object want begun.0 versions bytes short begun.1 (took seen (codec.steps begun.0 reply.Start) versions (steps_of begun.0 h reply.Start begun.2 ∙ takes))) [
        | inl none ↦ inl none
        | inr (inl found) ↦ inr (inl found)
        | inr (inr bare) ↦ inr (inr (bare_as codec (seen_codec seen codec steps) frame s frag object want versions refl bare))
      ]

  -- a fetch of a piece may make as many gets as before
  pub seen_fair : (spelled : Spelled) (gets : F → ℕ) (most : Frame → Schema → Piece → Want → ℕ) (shown : H → ℕ) → ((f : F) → shown (seen f) ≡ gets f) → AsksBounded codec spelled gets most
      → (frame : Frame) (s : Schema) (p : Piece) (look : Look) (want : Want) (object : List ℕ) (h : H) → spelled frame s p look → look (codec.head_part frame) ≡ Some object
      → seen_ok seen (codec.opens frame s p.head.frag object want) ≡ Ok h → shown h ≤ most frame s p want
  seen_fair spelled gets most shown counts law frame s p look want object h is there opens =
      let begun = opened seen (codec.opens frame s p.head.frag object want) h opens in
      let few = law.fair frame s p look want object begun.0 is there begun.1 in
      let Fewer : ℕ → Type 0 = λ n. n ≤ most frame s p want in
      subst Fewer (sym (counts begun.0) ∙ ap shown (sym begun.2)) few

  -- what is written is read, where the laws of fetches hold also of those that are not seen so
  pub seen_laws : (On : Frame → Type 0) (spelled : Spelled) (tracks : Tracking F) (shown : Tracking H)
      → ((frame : Frame) (s : Schema) (p : Piece) (look : Look) (want : Want) (f : F) (c : Call) → tracks frame s p look want f c → shown frame s p look want (seen f) c)
      → AsksLooks (seen_codec seen codec steps)
      → ((frame : Frame) (s : Schema) (p : Piece) (look : Look) (want : Want) (h : H) (c : Call) → shown frame s p look want h c → AsksHeld look p.head.frag c)
      → ((frame : Frame) (s : Schema) (p : Piece) (look : Look) (want : Want) (h : H) (c : Call) (part : Part) (bytes : List ℕ) (r : Reply)
      → shown frame s p look want h c → look part ≡ Some bytes → SpeaksOf c (name.Part p.head.frag part) → IsToldOf c bytes r → GoesWell (shown frame s p look want) (taken want p.versions) (steps h r))
      → CodecLawsOn On codec spelled tracks → CodecLawsOn On (seen_codec seen codec steps) spelled shown
  seen_laws On spelled tracks shown on looks asks goes law = record {
    ordinary = law.ordinary;
    merged = law.merged;
    parts = law.parts;
    last = law.last;
    storable = law.storable;
    once = law.once;
    head = law.head;
    looks = looks;
    opens = opens;
    asks = asks;
    goes = goes;
  }
    where
      opens : (frame : Frame) (s : Schema) (p : Piece) (look : Look) (want : Want) (object : List ℕ) → spelled frame s p look → look (codec.head_part frame) ≡ Some object
          → OpensWell (seen_codec seen codec steps) (shown frame s p look want) frame s p object want
      opens frame s p look want object is there =
          let begun = law.opens frame s p look want object is there in
          let Well : Stepped H → Type 0 = λ step. GoesWell (shown frame s p look want) (taken want p.versions) step in
          record {
            fetch = seen begun.fetch;
            opens = ap (λ x. seen_ok seen x) begun.opens;
            starts = subst Well (sym (same begun.fetch reply.Start)) (well seen (tracks frame s p look want) (shown frame s p look want) (on frame s p look want) (taken want p.versions) (codec.steps begun.fetch reply.Start) begun.starts);
          }
