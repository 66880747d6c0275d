-- What a fetch that wants all takes of a plain object is all versions of the piece there, so with its head it is a piece that can be written.
use Rattle.std.proofs.Common.{◌≡◌, ℕ, zero, suc, ◌-◌, ◌^◌, true, false, cond, List, [], ◌∷◌, length, Ok, inl, inr, refl, sym, ◌∙◌, ap, subst, arith}
use Rattle.std.specs.Prelude.{IsTrue, nat_le, filter, map as list_map}
use Rattle.std.specs.List.{All, AllByRecursion}
use Rattle.std.proofs.lemmas.Bool.{and_from, le-leb, eqb-true}
use Rattle.std.proofs.lemmas.List.Elements.{All-contains, All-head, All-tail}
use Rattle.ts_base.specs.declared.keys.Key.{Key}
use Rattle.ts_base.specs.declared.keys.FragKey.{FragKey}
use Rattle.ts_base.specs.declared.heads.Head.{Head}
use Rattle.ts_base.specs.declared.heads.Piece.{Piece}
use Rattle.ts_base.specs.declared.heads.Version.{Version}
use Rattle.ts_base.specs.declared.values.Val.{Val}
use Rattle.ts_base.specs.Keys.{is_within, frag_of}
use Rattle.ts_base.specs.Names.{IsSpelledFrag}
use Rattle.ts_domain.specs.Boxes.{is_in_box}
use Rattle.ts_domain.specs.Domains.{whole_domain, is_in_domain}
use Rattle.ts_wire.specs.Exact.{InTurn}
use Rattle.ts_wire.proofs.Laws.{bound, same_ok}
use Rattle.ts_schema.specs.declared.attrs.Attr.{Attr}
use Rattle.ts_schema.specs.declared.frames.Frame.{Frame}
use Rattle.ts_schema.specs.declared.schemas.Schema.{Schema}
use Rattle.ts_schema.specs.FrameTexts.{IsFrame}
use Rattle.ts_schema.specs.SchemaTexts.{AreAttrs}
use Rattle.ts_schema.specs.Wants.{value_of, cut_row, cut, is_wanted, taken}
use Rattle.ts_plain.specs.Rules.{may_span, may_count, own_key}
use Rattle.ts_plain.specs.Plain.{FitsHead, FitsOrigin}
use Rattle.ts_plain.specs.Pieces.{head_of, piece_of, plain_piece, plain_head, IsPlainObject}
use Rattle.ts_plain.proofs.PlainPieces.{piece_found, head_again}
use Rattle.ts_plain.specs.declared.stored.StoredHead.{StoredHead}
use Rattle.ts_model.specs.Consolidated.{NamesOwn, IsMergedVersion, IsStorable}
use Rattle.ts_model.specs.Deeds.{IsKey, RowFits}
use Rattle.ts_model.specs.Pieces.{IsVersion}
use Rattle.ts_model.specs.Queries.{places_from}
use Rattle.ts_model.specs.States.{all_of}
use Rattle.ts_model.proofs.KeyLemmas.{key_same}
use Rattle.ts_model.proofs.Members.{key_there}
use Rattle.ts_actor.specs.PieceLaws.{AtOnce, AfterReply, TakesStorable}
use Rattle.ts_actor.specs.PlainWrites.{plain_storable}
use Rattle.ts_actor.specs.PlainCodec.{IsPlainStorable, plain_codec}
use Rattle.ts_actor.specs.PlainLaws.{waits_never}
use Rattle.ts_actor.specs.PlainSources.{plain_source}

-- ---- rows that are left whole

-- the values behind the first one stand one place further
one_further : (x : Val) (row : List Val) (first count : ℕ) → list_map (value_of (x ∷ row)) (places_from (suc first) count) ≡ list_map (value_of row) (places_from first count)
one_further x row first zero = refl
one_further x row first (suc more) = ap (λ vs. value_of row first ∷ vs) (one_further x row (suc first) more)

-- the values at all places are the row
all_places : (row : List Val) → cut_row (places_from 0 (length row)) row ≡ row
all_places [] = refl
all_places (x ∷ row) = ap (λ vs. x ∷ vs) (one_further x row 0 (length row) ∙ all_places row)

-- a row that fits has a value for each attribute
fits_long : (attrs : List Attr) (row : List Val) → RowFits attrs row → length attrs ≡ length row
fits_long [] [] fit = refl
fits_long [] (v ∷ row) fit = absurd fit
fits_long (a ∷ attrs) [] fit = absurd fit
fits_long (a ∷ attrs) (v ∷ row) fit = ap suc (fits_long attrs row fit.2)

whole_row : (attrs : List Attr) (row : List Val) → RowFits attrs row → cut_row (places_from 0 (length attrs)) row ≡ row
whole_row attrs row fit = ap (λ n. cut_row (places_from 0 n) row) (fits_long attrs row fit) ∙ all_places row

-- ---- pieces of which all is wanted

module _ (frame : Frame) (attrs : List Attr) where
  -- a version with a key, a cell of the domain and a whole row
  record IsWhole (v : Version) : Type 0 where
    key : IsKey v.key
    inside : IsTrue (is_in_domain frame.domain v.coords)
    row : RowFits attrs v.row

  -- each version that can be written is such a one
  of_write : (p : Piece) (k : Key) → IsKey k → (vs : List Version) → All (IsVersion frame attrs p.head k) vs → AllByRecursion IsWhole vs
  of_write p k fits [] all = tt
  of_write p k fits (v ∷ vs) all =
      let is = All-head (IsVersion frame attrs p.head k) v vs all in
      let t = ap (λ (x : Key). x.t) is.by_own in
      let id = ap (λ (x : Key). x.id) is.by_own in
      (record { key = record { t = omega (arith, fits.t, t); id = omega (arith, fits.id, id) }; inside = is.inside; row = is.row }, of_write p k fits vs (All-tail (IsVersion frame attrs p.head k) v vs all))

  of_origins : (p : Piece) → All IsKey p.head.origins → (vs : List Version) → All (IsMergedVersion frame attrs p.head) vs → AllByRecursion IsWhole vs
  of_origins p keys [] all = tt
  of_origins p keys (v ∷ vs) all =
      let is = All-head (IsMergedVersion frame attrs p.head) v vs all in
      (record { key = All-contains IsKey p.head.origins v.key keys (key_there v.key p.head.origins is.by_origin); inside = is.inside; row = is.row }, of_origins p keys vs (All-tail (IsMergedVersion frame attrs p.head) v vs all))

  are_whole : (p : Piece) → IsStorable frame attrs p → AllByRecursion IsWhole p.versions
  are_whole p storable = elim storable [
    | inl is ↦ of_write p is.key is.is_key p.versions is.versions
    | inr is ↦ of_origins p is.are_keys p.versions is.versions
  ]

  -- such a version is wanted, and left as it is
  is_taken : (v : Version) → IsWhole v → is_wanted (all_of frame attrs) v ≡ true
  is_taken v is =
      and_from (is_within 0 (2 ^ 64 - 1) v.key) (is_in_box (whole_domain frame.domain) v.coords)
      (and_from (nat_le 0 v.key.t) (nat_le v.key.t (2 ^ 64 - 1)) (le-leb 0 v.key.t (omega arith)) (le-leb v.key.t (2 ^ 64 - 1) (omega (arith, is.key.t)))) is.inside

  is_cut : (v : Version) → IsWhole v → cut (all_of frame attrs) v ≡ v
  is_cut v is = let row = whole_row attrs v.row is.row in λ i. record { key = v.key; schema = v.schema; coords = v.coords; row = row i }

  all_taken : (vs : List Version) → AllByRecursion IsWhole vs → taken (all_of frame attrs) vs ≡ vs
  all_taken [] are = refl
  all_taken (v ∷ vs) are =
      ap (λ b. list_map (cut (all_of frame attrs)) (cond b (v ∷ filter (is_wanted (all_of frame attrs)) vs) (filter (is_wanted (all_of frame attrs)) vs))) (is_taken v are.0)
      ∙ ap (λ x. x ∷ taken (all_of frame attrs) vs) (is_cut v are.0) ∙ ap (λ l. v ∷ l) (all_taken vs are.1)

  -- what is taken of a piece that can be written, where all is wanted, are its versions
  pub taken_whole : (p : Piece) → IsStorable frame attrs p → taken (all_of frame attrs) p.versions ≡ p.versions
  taken_whole p storable = all_taken p.versions (are_whole p storable)

-- ---- heads of ordinary fragments

module _ (frame : Frame) (frag : FragKey) (known : IsSpelledFrag frag) where
  -- the key of its write names the fragment
  own_frag : frag.t1 ≡ frag.t2 → frag_of (own_key frag) ≡ frag
  own_frag one = λ i. record { t1 = frag.t1; t2 = one i; id = frag.id; v = sym known.version i }

  -- the one origin is that key
  one_origin : (count : ℕ) (ks : List Key) → length ks ≡ 1 → InTurn (FitsOrigin frag false count) [] ks → ks ≡ own_key frag ∷ []
  one_origin count [] one fits = absurd (omega (arith, one))
  one_origin count (k ∷ []) one fits = ap (λ l. l ∷ []) (key_same k (own_key frag) (fits.0).in_place)
  one_origin count (k ∷ l ∷ ks) one fits = absurd (omega (arith, one))

  -- so a head that no consolidation made is named by its origin
  pub names_own : (head : StoredHead) → FitsHead frame frag head → NamesOwn (head_of frag head)
  unfolding head_of
  names_own head fits ordinary =
      let one = eqb-true (length head.origins) 1 (subst (λ b. may_count b (length head.origins) ≡ true) ordinary fits.some_origin) in
      let same = eqb-true frag.t1 frag.t2 (subst (λ b. may_span frag b ≡ true) ordinary fits.span) in
      (own_key frag, one_origin (length head.origins) head.origins one (subst (λ b. InTurn (FitsOrigin frag b (length head.origins)) [] head.origins) ordinary fits.origins), sym (own_frag same))

-- ---- what is taken can be written

-- with the head it is the piece that the object holds
module _ (frame : Frame) (s : Schema) (frag : FragKey) (object : List ℕ) (head : Head) (p : Piece) (versions : List Version) where
  held_again : IsFrame frame → AreAttrs s.attrs → IsSpelledFrag frag → plain_head frame frag object ≡ Ok head → IsPlainObject frame s.attrs p object → p.head.frag ≡ frag
      → taken (all_of frame s.attrs) p.versions ≡ versions
      → IsStorable frame s.attrs (record { head = head; versions = versions }) × IsPlainStorable frame s.attrs (record { head = head; versions = versions })
  unfolding piece_of
  held_again is_frame are_attrs known read is named took =
      let own : NamesOwn p.head = subst NamesOwn (sym (ap (λ (q : Piece). q.head) is.same)) (names_own frame p.head.frag (subst IsSpelledFrag (sym named) known) (is.stored).head (is.fits).head) in
      let storable = plain_source frame s.attrs p object is_frame are_attrs own is in
      let heads : p.head ≡ head = same_ok (plain_head frame frag object) p.head head (ap (λ f. plain_head frame f object) (sym named) ∙ head_again frame s.attrs p object is) read in
      let got : p.versions ≡ versions = sym (taken_whole frame s.attrs p storable) ∙ took in
      let same : p ≡ record { head = head; versions = versions } = λ i. record { head = heads i; versions = got i } in
      subst (λ (q : Piece). IsStorable frame s.attrs q × IsPlainStorable frame s.attrs q) same (storable, plain_storable frame s.attrs p (record { bytes = object; spelled = is }))

-- a fetch that wants all takes at once, and the piece that the object holds can be written
pub plain_stores : TakesStorable plain_codec
plain_stores frame s frag object head gots sizes versions is_frame are_attrs known all short read named (AtOnce f is e) =
    let b = bound (plain_piece frame s.attrs frag object) (λ p. Ok (taken (all_of frame s.attrs) p.versions)) f is in
    let found = piece_found frame s.attrs frag object b.first all short b.was in
    let same : taken (all_of frame s.attrs) b.first.versions ≡ f = cc (b.next) in
    let took : f ≡ versions = cc in
    held_again frame s frag object head b.first versions is_frame are_attrs known read found.0 found.1 (same ∙ took)
plain_stores frame s frag object head gots sizes versions is_frame are_attrs known all short read named (AfterReply gs ss f c r waits may e) = absurd (waits_never frame s frag object (all_of frame s.attrs) gs ss f c waits)
