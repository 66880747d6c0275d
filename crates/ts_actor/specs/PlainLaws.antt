-- Plain fragments are read as they were written.
use Rattle.std.proofs.Common.{◌≡◌, ℕ, zero, suc, Bool, true, false, cond, map, List, [], ◌∷◌, slice_get, Some, Result, Ok, Err, refl, sym, ap, ◌∙◌, subst, arith, inl, inr}
use Rattle.std.specs.List.{All, AllByRecursion}
use Rattle.std.specs.declared.cmp.Ordering.TheVariants.{Less}
use Rattle.std.proofs.lemmas.Option.{same_Some}
use Rattle.std.specs.Prelude.{IsTrue, ◌≤◌, length, filter}
use Rattle.std.proofs.lemmas.Bool.{and_parts}
use Rattle.std.proofs.lemmas.List.Elements.{All-nil, All-cons, All-head, All-contains, All-map, All-filter, All-weaker, filter_passes}
use Rattle.ts_base.specs.declared.names.Part.TheVariants as part
use Rattle.ts_base.specs.declared.names.PartBytes.{PartBytes}
use Rattle.ts_base.specs.declared.keys.FragKey.{FragKey}
use Rattle.ts_base.specs.declared.heads.Piece.{Piece}
use Rattle.ts_base.specs.declared.heads.Version.{Version}
use Rattle.ts_domain.specs.Boxes.{is_in_box}
use Rattle.ts_base.specs.Keys.{is_within}
use Rattle.ts_store.specs.declared.call.Call.{Call}
use Rattle.ts_wire.specs.declared.kinds.Kind.TheVariants as kind
use Rattle.ts_wire.specs.declared.faults.ReadFault.TheVariants as fault
use Rattle.ts_wire.specs.Place.{◌>>=◌}
use Rattle.ts_wire.proofs.Laws.{goes_on, bound, not_both}
use Rattle.ts_wire.proofs.Objects.{length-wrapped}
use Rattle.ts_schema.specs.declared.attrs.Attr.{Attr}
use Rattle.ts_schema.specs.declared.frames.Frame.{Frame}
use Rattle.ts_schema.specs.declared.schemas.Schema.{Schema}
use Rattle.ts_schema.specs.declared.wants.Want.{Want}
use Rattle.ts_schema.specs.Parts.{Look, Got, Sized, look_in, IsShort}
use Rattle.ts_base.specs.declared.names.Part.{Part}
use Rattle.ts_schema.specs.Wants.{taken, cut, is_wanted}
use Rattle.ts_plain.specs.Plain.{plain_bytes}
use Rattle.ts_plain.specs.Pieces.{plain_piece, IsPlainObject, IsPlain}
use Rattle.ts_plain.specs.Writes.{stored_for}
use Rattle.ts_plain.specs.Merges.{Order, global_order, version_cmp, VersionsAscend, LiesInside, IsOrdered}
use Rattle.ts_plain.proofs.PlainPieces.{piece_again, piece_found, head_again, one_plain, broken_head}
use Rattle.ts_plain.proofs.OrderedPieces as ordered
use Rattle.ts_model.specs.Merging.{AreSources, merged_piece}
use Rattle.ts_model.proofs.ListLemmas.{Contains-here}
use Rattle.ts_model.proofs.MergedFits.{merged_first}
use Rattle.ts_model.specs.Codecs.{CodecLaws, OpensWell, Stepped, Asks, Takes, Breaks}
use Rattle.ts_actor.specs.PlainCodec.{plain_object, plain_parts, plain_codec, NeverWaits, IsPlainBroken, IsPlainStorable}
use Rattle.ts_actor.specs.PieceLaws.{whole_got, SpellsOne, RefusesBroken, OpensUnbroken, Begun, Went, AreInBox, TakesInside, IsFetchOf, First, Then, EndsWith, AtOnce, AfterReply, JudgesRight, AsksBounded, AsksOwn, TakesOrdered, TakesSpelled}
use Rattle.ts_actor.specs.PlainWrites.{plain_storable}
use Rattle.ts_actor.specs.PlainMerges.{storable_plain}
use Rattle.ts_actor.specs.PlainSources.{storable_some, plain_source}

-- the object of a piece that can be stored holds it, where it is short enough to be got at once
object_holds : (frame : Frame) (attrs : List Attr) (p : Piece) → IsPlainStorable frame attrs p → IsShort (plain_object p) → IsPlainObject frame attrs p (plain_object p)
object_holds frame attrs p is short = record {
  stored = stored_for p;
  fits = is.fits;
  few = omega (arith, short, length-wrapped kind.Plain (plain_bytes (stored_for p)));
  spelled = refl;
  same = is.same;
}

-- the one part of such a piece spells it
parts_spell : (frame : Frame) (s : Schema) (p : Piece) → IsPlainStorable frame s.attrs p → All (λ x. IsShort x.bytes) (plain_parts frame s p) → IsPlain frame s p (look_in (plain_parts frame s p))
parts_spell frame s p is short = (plain_object p, refl, object_holds frame s.attrs p is (All-head (λ (x : PartBytes). IsShort x.bytes) _ [] short))

-- a list of one item has no second one
only_place : {X : Type 0} (x y : X) (i : ℕ) → slice_get (x ∷ []) i ≡ Some y → i ≡ 0
only_place x y zero h = refl
only_place x y (suc i) h = absurd (cc)

-- a fetch of what the object of a piece holds has what is wanted at once
opens_well : (frame : Frame) (s : Schema) (p : Piece) (look : Look) (want : Want) (object : List ℕ) → IsPlain frame s p look → look part.Plain ≡ Some object
    → OpensWell plain_codec (NeverWaits frame s p look want) frame s p object want
opens_well frame s p look want object is there =
    let holds : IsPlainObject frame s.attrs p object = subst (IsPlainObject frame s.attrs p) (same_Some is.0 object (sym is.1 ∙ there)) is.2 in
    record {
      fetch = taken want p.versions;
      opens = goes_on (plain_piece frame s.attrs p.head.frag object) (λ q. Ok (taken want q.versions)) p (Ok (taken want p.versions)) (piece_again frame s.attrs p object holds) refl;
      starts = refl;
    }

-- a fetch that has all that is wanted asks for no call
takes_all : (f g : List Version) (c : Call) → Takes f ≡ Asks g c → ⊥
takes_all f g c e = cc

-- pieces that plain objects can hold are merged into one that has a version
plain_kept : (frame : Frame) (attrs : List Attr) (id : ℕ) (p : Piece) (ps : List Piece) → AreSources frame attrs (p ∷ ps) → IsPlainStorable frame attrs p → 1 ≤ length (merged_piece frame id p ps).versions
plain_kept frame attrs id p ps are is = merged_first frame id p ps (storable_some frame attrs p are.is_frame are.are_attrs is)

-- the laws of plain fragments
pub plain_laws : CodecLaws plain_codec IsPlain NeverWaits
plain_laws = record {
  ordinary = λ frame attrs p any is close. storable_plain frame attrs p is.some (inl is);
  merged = λ frame attrs id p ps any are each is few. storable_plain frame attrs (merged_piece frame id p ps) (plain_kept frame attrs id p ps are (each p (Contains-here p ps))) (inr is);
  parts = parts_spell;
  last = λ frame s p is. ([], plain_object p, refl);
  storable = λ frame s p look is_frame are_attrs own is. (plain_source frame s.attrs p is.0 is_frame are_attrs own is.2, plain_storable frame s.attrs p (record { bytes = is.0; spelled = is.2 }));
  once = λ frame s p i k x y at_i at_k _. only_place _ x i at_i ∙ sym (only_place _ y k at_k);
  head = λ frame s p look is. (is.0, is.1, head_again frame s.attrs p is.0 is.2);
  looks = λ f r g c asked. absurd (takes_all f g c asked);
  opens = opens_well;
  asks = λ frame s p look want f c never. absurd never;
  goes = λ frame s p look want f c part bytes r never _ _ _. absurd never;
}

-- ---- one piece, and what is refused

-- the one object of a fragment holds one piece
pub plain_one : SpellsOne IsPlain
plain_one frame s p q look named is other = one_plain frame s p q look named is other

-- an object that is broken, as a whole plain fragment, is broken in the one part that was got
broken_there : (frame : Frame) (s : Schema) (frag : FragKey) (object : List ℕ) (at : ℕ) → plain_piece frame s.attrs frag object ≡ Err at
    → IsPlainBroken frame s frag (whole_got part.Plain object) [] part.Plain at
broken_there frame s frag object at h = record {
  got = record { part = part.Plain; at = 0; bytes = object; ends = true };
  was_got = (0, omega arith, refl);
  head_part = refl;
  from_start = refl;
  to_end = refl;
  is_named = refl;
  broken = h;
}

-- what is wanted is found unless the object is broken
fetch_broken : (want : Want) (r : Result Piece ℕ) (at : ℕ) → r >>= (λ p. Ok (taken want p.versions)) ≡ Err at → r ≡ Err at
fetch_broken want (Ok p) at h = absurd (not_both (Ok (taken want p.versions)) (taken want p.versions) at refl h)
fetch_broken want (Err there) at h = let same : there ≡ at = cc in ap Err same

-- an object that is refused is broken at the offset that is told
pub plain_broken : RefusesBroken plain_codec IsPlainBroken
plain_broken = record {
  head = λ frame s frag object at h. broken_there frame s frag object at (broken_head frame s.attrs frag object (Err (fault.Damaged (record { at = at }))) h);
  opens = λ frame s frag object want at h. broken_there frame s frag object at (fetch_broken want (plain_piece frame s.attrs frag object) at h);
}

-- an object that is broken so is broken as a whole plain fragment
pub broken_object : (frame : Frame) (s : Schema) (frag : FragKey) (object : List ℕ) (named : Part) (at : ℕ) → IsPlainBroken frame s frag (whole_got part.Plain object) [] named at → plain_piece frame s.attrs frag object ≡ Err at
broken_object frame s frag object named at is =
    let P : Got → Type 0 = λ g. g.bytes ≡ object in
    let same : (is.got).bytes ≡ object = All-contains P (whole_got part.Plain object) is.got (All-cons P _ [] refl (All-nil P)) is.was_got in
    subst (λ bytes. plain_piece frame s.attrs frag bytes ≡ Err at) same is.broken

-- no piece is found in a broken object
pub plain_whole : OpensUnbroken plain_codec IsPlainBroken
plain_whole frame s frag object want named at fetch is h =
    let b = bound (plain_piece frame s.attrs frag object) (λ p. Ok (taken want p.versions)) fetch h in
    not_both (plain_piece frame s.attrs frag object) b.first at b.was (broken_object frame s frag object named at is)

-- ---- where the versions lie

-- what is wanted of versions lies in the box
taken_inside : (want : Want) (versions : List Version) → AreInBox want.sub (taken want versions)
taken_inside want versions =
    let P : Version → Type 0 = λ v. IsTrue (is_in_box want.sub v.coords) in
    let W : Version → Type 0 = λ v. is_wanted want v ≡ true in
    All-map P (cut want) (filter (is_wanted want) versions)
    (All-weaker W P (λ v is. (and_parts (is_within want.a want.b v.key) (is_in_box want.sub v.coords) is).1) (filter (is_wanted want) versions) (filter_passes (is_wanted want) versions))

-- a fetch takes what it found when it began
pub plain_inside : TakesInside plain_codec
plain_inside sub f r versions (Begun frame s frag object want g same opens) takes =
    let b = bound (plain_piece frame s.attrs frag object) (λ p. Ok (taken want p.versions)) g opens in
    let found : taken want b.first.versions ≡ g = cc (b.next) in
    let took : g ≡ versions = cc in
    subst (λ box. AreInBox box versions) same (subst (AreInBox want.sub) (found ∙ took) (taken_inside want b.first.versions))
plain_inside sub f r versions (Went g r' h c is asked) takes = absurd (takes_all g h c asked)

-- a fetch makes no call, so it waits for none
pub waits_never : (frame : Frame) (s : Schema) (frag : FragKey) (object : List ℕ) (want : Want) (gots : List Got) (sizes : List Sized) (f : List Version) (c : Call) → IsFetchOf plain_codec frame s frag object want gots sizes f c → ⊥
waits_never frame s frag object want gots sizes f c (First g h d is asked) = takes_all g h d asked
waits_never frame s frag object want gots sizes f c (Then gs ss g h d e r before may asked) = takes_all g h e asked

-- it refuses nothing that it began on, and takes nothing of a broken object
pub plain_judges : JudgesRight plain_codec IsPlainBroken
plain_judges = record {
  breaks = breaks;
  whole = whole;
}
  where
    never : (f : List Version) (part : Part) (at : ℕ) (a b : Stepped (List Version)) → a ≡ Takes f → b ≡ Breaks part at → a ≡ b → ⊥
    never f part at a b g h e = cc

    breaks : (frame : Frame) (s : Schema) (frag : FragKey) (object : List ℕ) (want : Want) (gots : List Got) (sizes : List Sized) (part : Part) (at : ℕ)
        → EndsWith plain_codec frame s frag object want (Breaks part at) gots sizes → IsPlainBroken frame s frag gots sizes part at
    breaks frame s frag object want gots sizes part at (AtOnce f is e) = absurd (never f part at _ _ refl refl e)
    breaks frame s frag object want gots sizes part at (AfterReply gs ss f c r waits may e) = absurd (waits_never frame s frag object want gs ss f c waits)

    whole : (frame : Frame) (s : Schema) (frag : FragKey) (object : List ℕ) (want : Want) (gots : List Got) (sizes : List Sized) (versions : List Version) (part : Part) (at : ℕ)
        → EndsWith plain_codec frame s frag object want (Takes versions) gots sizes → IsPlainBroken frame s frag gots sizes part at → ⊥
    whole frame s frag object want gots sizes versions part at (AtOnce f is e) broken = plain_whole frame s frag object want part at f broken is
    whole frame s frag object want gots sizes versions part at (AfterReply gs ss f c r waits may e) broken = waits_never frame s frag object want gs ss f c waits

-- it asks for nothing
pub plain_own : AsksOwn plain_codec
plain_own frame s frag object want gots sizes f c waits = absurd (waits_never frame s frag object want gots sizes f c waits)

-- ---- the order of what is taken

module _ (cmp : Order) (want : Want) where
  -- what holds of versions holds of those that are wanted, where it does not look at their rows
  kept : (P : Version → Type 0) → ((v : Version) → P v → P (cut want v)) → (vs : List Version) → AllByRecursion P vs → AllByRecursion P (taken want vs)
  kept P cuts [] all = tt
  kept P cuts (v ∷ vs) all = by (is_wanted want v) (kept P cuts vs all.1)
    where
      by : (b : Bool) → AllByRecursion P (taken want vs) → AllByRecursion P (map (cut want) (cond b (v ∷ filter (is_wanted want) vs) (filter (is_wanted want) vs)))
      by true rest = (cuts v all.0, rest)
      by false rest = rest

  -- the wanted ones of versions that ascend do so too
  taken_ascends : (vs : List Version) → VersionsAscend cmp vs → VersionsAscend cmp (taken want vs)
  taken_ascends [] up = tt
  taken_ascends (v ∷ vs) up = by (is_wanted want v) (taken_ascends vs up.1)
    where
      by : (b : Bool) → VersionsAscend cmp (taken want vs) → VersionsAscend cmp (map (cut want) (cond b (v ∷ filter (is_wanted want) vs) (filter (is_wanted want) vs)))
      by true rest = (kept (λ (w : Version). version_cmp cmp v w ≡ Less) (λ w less. less) vs up.0, rest)
      by false rest = rest

taken_ordered : (frame : Frame) (want : Want) (vs : List Version) → IsOrdered frame vs → IsOrdered frame (taken want vs)
taken_ordered frame want vs is = record {
  inside = All-map (LiesInside frame) (cut want) (filter (is_wanted want) vs) (All-filter (is_wanted want) (LiesInside frame) vs is.inside);
  ascend = taken_ascends (global_order frame) want vs is.ascend;
}

-- a fetch takes wanted versions of the piece that the object holds
pub plain_ordered : TakesOrdered plain_codec
plain_ordered frame s frag object want gots sizes versions all short (AtOnce f is e) =
    let b = bound (plain_piece frame s.attrs frag object) (λ p. Ok (taken want p.versions)) f is in
    let found = (piece_found frame s.attrs frag object b.first all short b.was).0 in
    let same : taken want b.first.versions ≡ f = cc (b.next) in
    let took : f ≡ versions = cc in
    subst (IsOrdered frame) (same ∙ took) (taken_ordered frame want b.first.versions (ordered.plain_ordered frame s.attrs b.first object found))
plain_ordered frame s frag object want gots sizes versions all short (AfterReply gs ss f c r waits may e) = absurd (waits_never frame s frag object want gs ss f c waits)

-- it takes what is wanted of the piece that the object spells
pub plain_found : TakesSpelled plain_codec IsPlain
plain_found frame s frag object want fetch versions all short is e =
    let b = bound (plain_piece frame s.attrs frag object) (λ p. Ok (taken want p.versions)) fetch is in
    let found = piece_found frame s.attrs frag object b.first all short b.was in
    let same : taken want b.first.versions ≡ fetch = cc (b.next) in
    let took : fetch ≡ versions = cc in
    inr (inl (b.first, found.1, (object, refl, found.0), sym (same ∙ took)))

-- it makes no get
pub plain_bounded : AsksBounded plain_codec IsPlain (λ _. 0) (λ _ _ _ _. 0)
plain_bounded = record {
  pays = λ f g r c asked. absurd (takes_all f g c asked);
  fair = λ frame s p look want object f is there opens. omega arith;
}
