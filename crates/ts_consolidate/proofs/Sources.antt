-- What the fetches of sources take: pieces that can be written, and that can be merged.
use Rattle.std.proofs.Common.{◌≡◌, ℕ, suc, zero, true, false, List, [], ◌∷◌, ◌++◌, length, take, Bool, not, cond, Some, Result, Ok, Err, IfOk, inl, inr, refl, sym, ap, subst, ◌∙◌, arith}
use Rattle.std.specs.Prelude.{◌<◌, ◌^◌, ◌&&◌, ⊤, slice_get, nat_lt, Contains, All, IsTrue, MatchResult}
use Rattle.std.proofs.lemmas.Bool.{true≢false, and_parts, ltb-true}
use Rattle.std.proofs.lemmas.Option.{same_Some, none-some}
use Rattle.std.proofs.lemmas.List.Elements.{All-nil, All-cons, All-head, All-tail, All-weaker}
use Rattle.ts_base.specs.declared.keys.Key.{Key}
use Rattle.ts_base.specs.declared.heads.Head.{Head}
use Rattle.ts_base.specs.declared.heads.Piece.{Piece}
use Rattle.ts_base.specs.declared.heads.Version.{Version}
use Rattle.ts_base.specs.Names.{IsSpelledFrag}
use Rattle.ts_domain.specs.Domains.{is_in_domain}
use Rattle.ts_schema.specs.declared.attrs.Attr.{Attr}
use Rattle.ts_schema.specs.declared.frames.Frame.{Frame}
use Rattle.ts_schema.specs.declared.schemas.Schema.{Schema}
use Rattle.ts_schema.specs.FrameTexts.{IsFrame}
use Rattle.ts_schema.specs.SchemaTexts.{AreAttrs}
use Rattle.ts_store.specs.declared.call.Call.{Call}
use Rattle.ts_store.specs.declared.call.Reply.{Reply}
use Rattle.ts_store.specs.declared.call.Reply.TheVariants as reply
use Rattle.ts_model.specs.declared.states.Opened.{Opened}
use Rattle.ts_model.specs.declared.states.Survey.{Survey}
use Rattle.ts_model.specs.Codecs.{Stepped, Codec, Asks, Takes, Breaks}
use Rattle.ts_model.specs.Consolidated.{IsConsolidated, IsMergedVersion, IsStorable}
use Rattle.ts_model.specs.Pieces.{IsVersion}
use Rattle.ts_model.specs.Merging.{AreSources, EachAlike, HasBox, merged_piece, merged_with}
use Rattle.ts_model.specs.Merging as merges
use Rattle.ts_model.specs.States.{all_of, can_be_named, heads_of, merge_objects, putting, puts_piece}
use Rattle.ts_model.specs.declared.states.State.TheVariants.{Over}
use Rattle.ts_model.specs.declared.answers.Outcome.TheVariants as outcome
use Rattle.ts_base.specs.declared.keys.FragKey.{FragKey}
use Rattle.ts_model.proofs.ListLemmas.{Contains-nil, Contains-cons}
use Rattle.ts_model.proofs.MergedFits.{source_box}
use Rattle.ts_actor.specs.PieceLaws.{AfterReply, AtOnce, First, MayReply, TakesStorable, Then, got_with, sized_with, whole_got}
use Rattle.ts_consolidate.specs.declared.fetching.SourceStep.{SourceStep}
use Rattle.ts_consolidate.specs.Fetching.{LeadsOn, step_by}
use Rattle.ts_consolidate.specs.Merges.{AreGot, HasSources, IsGoing, IsGot, IsSource}
use Rattle.ts_consolidate.specs.Consolidations.{IsConsolidationOf}

-- ---- fetches

module _ {F : Type 0} (codec : Codec F) (stores : TakesStorable codec) (frame : Frame) (schema : Schema) (o : Opened) (is_frame : IsFrame frame) (are_attrs : AreAttrs schema.attrs) (is : IsSource codec frame schema o) where
  -- where a fetch begins
  pub leads_first : (f : F) (l : SourceStep F) → codec.opens frame schema o.frag o.object (all_of frame schema.attrs) ≡ Ok f → l ≡ step_by o.frag (codec.steps f reply.Start) → LeadsOn codec frame schema o l
  leads_first f l opens led = subst (LeadsOn codec frame schema o) (sym led) (by (codec.steps f reply.Start) refl)
    where
      by : (x : Stepped F) → codec.steps f reply.Start ≡ x → LeadsOn codec frame schema o (step_by o.frag x)
      by (Asks g c) e = record { gots = whole_got (codec.head_part frame) o.object; sizes = []; going = First f g c opens e }
      by (Takes vs) e =
          stores frame schema o.frag o.object o.head (whole_got (codec.head_part frame) o.object) [] vs is_frame are_attrs (is.opened).spelled (is.opened).bytes (is.opened).short (is.opened).read is.in_schema (AtOnce f opens e)
      by (Breaks part at) e = tt

  -- where a reply leads it
  pub leads_told : (f : F) (c : Call) (r : Reply) (l : SourceStep F) → IsGoing codec frame schema o f c → MayReply c r → l ≡ step_by o.frag (codec.steps f r) → LeadsOn codec frame schema o l
  leads_told f c r l was may led = subst (LeadsOn codec frame schema o) (sym led) (by (codec.steps f r) refl)
    where
      by : (x : Stepped F) → codec.steps f r ≡ x → LeadsOn codec frame schema o (step_by o.frag x)
      by (Asks g d) e = record { gots = got_with c r was.gots; sizes = sized_with c r was.sizes; going = Then was.gots was.sizes f g c d r was.going may e }
      by (Takes vs) e =
          stores frame schema o.frag o.object o.head (got_with c r was.gots) (sized_with c r was.sizes) vs is_frame are_attrs (is.opened).spelled (is.opened).bytes (is.opened).short (is.opened).read is.in_schema
          (AfterReply was.gots was.sizes f c r was.going may e)
      by (Breaks part at) e = tt

-- ---- what was got

module _ {F : Type 0} (codec : Codec F) (frame : Frame) (attrs : List Attr) where
  -- the versions of one source more
  pub got_more : (opened : List Opened) (got : List (List Version)) (place : ℕ) (o : Opened) (vs : List Version) → slice_get opened place ≡ Some o → AreGot codec frame attrs (take place opened) got → IsGot codec frame attrs o vs
      → AreGot codec frame attrs (take (suc place) opened) (got ++ vs ∷ [])
  got_more [] got place o vs at are is = absurd (none-some o at)
  got_more (x ∷ xs) [] zero o vs at are is = (subst (λ y. IsGot codec frame attrs y vs) (sym (same_Some x o at)) is, tt)
  got_more (x ∷ xs) (us ∷ got) zero o vs at are is = absurd are
  got_more (x ∷ xs) [] (suc place) o vs at are is = absurd are
  got_more (x ∷ xs) (us ∷ got) (suc place) o vs at are is = (are.0, got_more xs got place o vs at are.1 is)

  -- the pieces of sources, of which these versions were got
  abbrev pub pieces_of : List Opened → List (List Version) → List Piece
  pieces_of (o ∷ opened) (vs ∷ got) = record { head = o.head; versions = vs } ∷ pieces_of opened got
  pieces_of _ _ = []

  -- their heads
  pub heads_same : (opened : List Opened) (got : List (List Version)) → AreGot codec frame attrs opened got → merges.heads_of (pieces_of opened got) ≡ heads_of opened
  heads_same [] [] are = refl
  heads_same [] (vs ∷ got) are = absurd are
  heads_same (o ∷ opened) [] are = absurd are
  heads_same (o ∷ opened) (vs ∷ got) are = ap (λ (hs : List Head). o.head ∷ hs) (heads_same opened got are.1)

  -- what was got of them is their versions
  pub each_alike : (opened : List Opened) (got : List (List Version)) → AreGot codec frame attrs opened got → EachAlike (pieces_of opened got) got
  each_alike [] [] are = tt
  each_alike [] (vs ∷ got) are = absurd are
  each_alike (o ∷ opened) [] are = absurd are
  each_alike (o ∷ opened) (vs ∷ got) are = (λ k c. refl, each_alike opened got are.1)

  -- each can be written
  each_storable : (opened : List Opened) (got : List (List Version)) → AreGot codec frame attrs opened got → (p : Piece) → Contains (pieces_of opened got) p → IsStorable frame attrs p
  each_storable [] got are p at = absurd (Contains-nil p at)
  each_storable (o ∷ opened) [] are p at = absurd are
  each_storable (o ∷ opened) (vs ∷ got) are p at = elim (Contains-cons (record { head = o.head; versions = vs }) (pieces_of opened got) p at) [
    | inl same ↦ subst (IsStorable frame attrs) same are.0.0
    | inr behind ↦ each_storable opened got are.1 p behind
  ]

  -- also in the way of the codec
  pub each_writable : (opened : List Opened) (got : List (List Version)) → AreGot codec frame attrs opened got → (p : Piece) → Contains (pieces_of opened got) p → codec.writable frame attrs p
  each_writable [] got are p at = absurd (Contains-nil p at)
  each_writable (o ∷ opened) [] are p at = absurd are
  each_writable (o ∷ opened) (vs ∷ got) are p at = elim (Contains-cons (record { head = o.head; versions = vs }) (pieces_of opened got) p at) [
    | inl same ↦ subst (codec.writable frame attrs) same are.0.1
    | inr behind ↦ each_writable opened got are.1 p behind
  ]

  -- each is in the schema
  each_in : (k : Key) (opened : List Opened) (got : List (List Version)) → All (λ (o : Opened). o.head.schema ≡ k) opened → (p : Piece) → Contains (pieces_of opened got) p → p.head.schema ≡ k
  each_in k [] got are p at = absurd (Contains-nil p at)
  each_in k (o ∷ opened) [] are p at = absurd (Contains-nil p at)
  each_in k (o ∷ opened) (vs ∷ got) are p at = elim (Contains-cons (record { head = o.head; versions = vs }) (pieces_of opened got) p at) [
    | inl same ↦ ap (λ (q : Piece). q.head.schema) (sym same) ∙ All-head (λ (o : Opened). o.head.schema ≡ k) o opened are
    | inr behind ↦ each_in k opened got (All-tail (λ (o : Opened). o.head.schema ≡ k) o opened are) p behind
  ]

  -- they can be merged
  pub are_sources : (k : Key) (opened : List Opened) (got : List (List Version)) → IsFrame frame → AreAttrs attrs → All (λ (o : Opened). o.head.schema ≡ k) opened → AreGot codec frame attrs opened got → AreSources frame attrs (pieces_of opened got)
  are_sources k opened got is_frame are_attrs in_schema are = record {
    is_frame = is_frame;
    are_attrs = are_attrs;
    one_schema = λ p q p_at q_at. each_in k opened got in_schema p p_at ∙ sym (each_in k opened got in_schema q q_at);
    storable = each_storable opened got are;
  }

  -- their boxes are of the array's dimensions
  pub each_box : (opened : List Opened) (got : List (List Version)) → AreGot codec frame attrs opened got → All (HasBox frame) (heads_of opened)
  each_box [] got are = All-nil (HasBox frame)
  each_box (o ∷ opened) [] are = absurd are
  each_box (o ∷ opened) (vs ∷ got) are = All-cons (HasBox frame) o.head (heads_of opened) (source_box frame attrs (record { head = o.head; versions = vs }) are.0.0) (each_box opened got are.1)

  -- a version lies in the domain
  abbrev pub Inside : Version → Type 0
  Inside v = IsTrue (is_in_domain frame.domain v.coords)

  versions_inside : (p : Piece) → IsStorable frame attrs p → All Inside p.versions
  versions_inside p (inl is) = All-weaker (IsVersion frame attrs p.head is.key) Inside (λ (v : Version) (of : IsVersion frame attrs p.head is.key v). of.inside) p.versions is.versions
  versions_inside p (inr is) = All-weaker (IsMergedVersion frame attrs p.head) Inside (λ (v : Version) (of : IsMergedVersion frame attrs p.head v). of.inside) p.versions is.versions

  -- so does each that was got
  pub each_inside : (opened : List Opened) (got : List (List Version)) → AreGot codec frame attrs opened got → All (All Inside) got
  each_inside [] [] are = All-nil (All Inside)
  each_inside [] (vs ∷ got) are = absurd are
  each_inside (o ∷ opened) [] are = absurd are
  each_inside (o ∷ opened) (vs ∷ got) are = All-cons (All Inside) vs got (versions_inside (record { head = o.head; versions = vs }) are.0.0) (each_inside opened got are.1)

-- ---- the piece

-- what pieces are merged into that can be written can be written too
abbrev pub Merges : {F : Type 0} → Codec F → Type 0
Merges codec = (frame : Frame) (attrs : List Attr) (id : ℕ) (p : Piece) (ps : List Piece) → ⊤ → AreSources frame attrs (p ∷ ps) → ((q : Piece) → Contains (p ∷ ps) q → codec.writable frame attrs q)
    → IsConsolidated frame attrs (merged_piece frame id p ps) → (merged_piece frame id p ps).head.cells < 2 ^ 32 → codec.writable frame attrs (merged_piece frame id p ps)

-- the number of cells that the head of a piece counts which can be named
few_cells : (p : Piece) → can_be_named p ≡ true → p.head.cells < 2 ^ 32
few_cells p named =
    ltb-true p.head.cells (2 ^ 32) (and_parts (nat_lt (length p.versions) (2 ^ 32)) (nat_lt p.head.cells (2 ^ 32))
    (and_parts (nat_lt (length p.head.origins) (2 ^ 32)) (nat_lt (length p.versions) (2 ^ 32) && nat_lt p.head.cells (2 ^ 32)) named).1).1

-- what holds of a result, and what follows from its being there
pub both_ok : {E : Type 0} (r : Result Piece E) (A B C : Piece → Type 0) (D : E → Type 0) → ((p : Piece) → A p → B p → C p) → IfOk r A → MatchResult r B D → IfOk r C
both_ok (Ok p) A B C D on a b = on p a b
both_ok (Err e) A B C D on a b = tt

module _ {F : Type 0} (codec : Codec F) (s : Survey) (schema : Schema) (o : Opened) (others : List Opened) (got : List (List Version)) (has : HasSources codec s schema (o ∷ others)) (are : AreGot codec s.frame schema.attrs (o ∷ others) got) where
  in_schema : All (λ (x : Opened). x.head.schema ≡ schema.key) (o ∷ others)
  in_schema = All-weaker (IsSource codec s.frame schema) (λ (x : Opened). x.head.schema ≡ schema.key) (λ x is. is.in_schema) (o ∷ others) has.each

  -- the piece is what sources are merged into, in whichever schema and of whichever pieces these heads and versions are
  abbrev pub IsOfSources : ℕ → Frame → List Head → Piece → Type 0
  IsOfSources id f hs piece =
      (attrs : List Attr) (p : Piece) (ps : List Piece) → AreSources f attrs (p ∷ ps) → p.head ≡ o.head → merges.heads_of ps ≡ hs → EachAlike (p ∷ ps) got → IsConsolidationOf f attrs id p ps piece

  -- what is made of the sources is one that a consolidation makes, and it can be written where it can be named
  pub fits_of : Merges codec → (id : ℕ) (f : Frame) (hs : List Head) (piece : Piece) → f ≡ s.frame → hs ≡ heads_of others → IsOfSources id f hs piece
      → IsConsolidated s.frame schema.attrs piece × (can_be_named piece ≡ true → codec.writable s.frame schema.attrs piece)
  fits_of merged id f hs piece frames same of = by got are of
    where
      by : (got : List (List Version)) → AreGot codec s.frame schema.attrs (o ∷ others) got
          → ((attrs : List Attr) (p : Piece) (ps : List Piece) → AreSources f attrs (p ∷ ps) → p.head ≡ o.head → merges.heads_of ps ≡ hs → EachAlike (p ∷ ps) got → IsConsolidationOf f attrs id p ps piece)
          → IsConsolidated s.frame schema.attrs piece × (can_be_named piece ≡ true → codec.writable s.frame schema.attrs piece)
      by [] are of = absurd are
      by (vs ∷ got) are of =
          let p : Piece = record { head = o.head; versions = vs } in
          let ps = pieces_of codec s.frame schema.attrs others got in
          let sources = are_sources codec s.frame schema.attrs schema.key (o ∷ others) (vs ∷ got) (has.survey).is_frame has.attrs in_schema are in
          let made : IsConsolidationOf s.frame schema.attrs id p ps piece = subst (λ (f : Frame). IsConsolidationOf f schema.attrs id p ps piece) frames
          (of schema.attrs p ps (subst (λ (f : Frame). AreSources f schema.attrs (p ∷ ps)) (sym frames) sources) refl (heads_same codec s.frame schema.attrs others got are.1 ∙ sym same) (each_alike codec s.frame schema.attrs (o ∷ others) (vs ∷ got) are)) in (
            made.fits,
            λ named. subst (codec.writable s.frame schema.attrs) (sym made.is) (merged s.frame schema.attrs id p ps tt sources (each_writable codec s.frame schema.attrs (o ∷ others) (vs ∷ got) are)
                (subst (IsConsolidated s.frame schema.attrs) made.is made.fits) (few_cells (merged_piece s.frame id p ps) (ap can_be_named (sym made.is) ∙ named))),
          )

-- a piece that a consolidation makes has a fragment that runs forward
spelled_of : (frame : Frame) (attrs : List Attr) (p : Piece) → IsConsolidated frame attrs p → p.head.frag.v ≡ 1 → IsSpelledFrag p.head.frag
spelled_of frame attrs p is one =
    let first = (is.span).least in
    let before = (is.span).up_to first.0 first.1 in
    record { span = omega (arith, before, first.2); version = one }

-- so does one that is made of heads
pub each_spelled : {E : Type 0} (frame : Frame) (attrs : List Attr) (f : Frame) (id : ℕ) (first : Head) (hs : List Head) (vs : List Version) (r : Result Piece E) → IfOk r (IsConsolidated frame attrs) → IfOk r (λ (p : Piece). p ≡ merged_with f id first hs vs)
    → IfOk r (λ (p : Piece). IsSpelledFrag p.head.frag)
each_spelled frame attrs f id first hs vs (Ok p) is made = spelled_of frame attrs p is (ap (λ (q : Piece). q.head.frag.v) made)
each_spelled frame attrs f id first hs vs (Err e) is made = tt

-- what is not false is true
pub true_of : (b : Bool) → not b ≡ false → b ≡ true
true_of true e = refl
true_of false e = absurd (true≢false e)

-- what is put of a piece that can be named
pub puts_named : {F : Type 0} (codec : Codec F) (f frame : Frame) (schema : Schema) (p piece : Piece) (ns names : List FragKey) (n count : ℕ)
    → f ≡ frame → p ≡ piece → ns ≡ names → n ≡ count → can_be_named p ≡ true
    → putting (merge_objects codec f schema p ns) 0 (outcome.Consolidated p.head.frag n) ≡ puts_piece codec frame schema names count piece
puts_named codec f frame schema p piece ns names n count frames same all counted named =
    ap (λ g. putting (merge_objects codec g schema p ns) 0 (outcome.Consolidated p.head.frag n)) frames
    ∙ ap (λ l. putting (merge_objects codec frame schema p l) 0 (outcome.Consolidated p.head.frag n)) all
    ∙ ap (λ k. putting (merge_objects codec frame schema p names) 0 (outcome.Consolidated p.head.frag k)) counted
    ∙ ap (λ b. cond b (putting (merge_objects codec frame schema p names) 0 (outcome.Consolidated p.head.frag count)) (Over outcome.OutOfMemory)) (sym named)
    ∙ ap (puts_piece codec frame schema names count) same
