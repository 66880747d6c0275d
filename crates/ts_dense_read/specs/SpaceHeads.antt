-- The head in the metadata of a dense fragment bears the name of its fragment, and what stands before the number of tiles settles it.
use Rattle.std.proofs.Common.{◌≡◌, ℕ, ◌+◌, ◌≤◌, Bool, true, false, nat_eq, if◌then◌else◌, List, [], ◌++◌, length, take, drop, Option, None, Result, Ok, Err, refl, sym, ap, ◌∙◌, subst, arith}
use Rattle.std.proofs.lemmas.List.{take_at, drop_at, drop-take, take-append-drop}
use Rattle.ts_base.specs.declared.keys.FragKey.{FragKey}
use Rattle.ts_base.specs.declared.heads.Head.{Head}
use Rattle.ts_base.specs.declared.names.Part.TheVariants as part
use Rattle.ts_wire.specs.declared.kinds.Kind.TheVariants as kind
use Rattle.ts_wire.specs.Place.{Place, Read, place, ◌>>=◌, whole}
use Rattle.ts_wire.specs.Numbers.{number_at}
use Rattle.ts_wire.specs.Exact.{IsBytes}
use Rattle.ts_wire.specs.Envelope.{envelope_bytes, wrapped, unwrapped, object_at}
use Rattle.ts_wire.proofs.Laws.{same_ok, not_both, bound, IsBytes-drop}
use Rattle.ts_wire.proofs.Objects.{unwrapped_found, length-envelope_bytes}
use Rattle.ts_schema.specs.declared.attrs.Attr.{Attr}
use Rattle.ts_schema.specs.declared.frames.Frame.{Frame}
use Rattle.ts_rtree.specs.Trees.{Rooted}
use Rattle.ts_plain.specs.declared.stored.StoredHead.{StoredHead}
use Rattle.ts_plain.specs.Plain.{head_by, head_bytes}
use Rattle.ts_plain.specs.Pieces.{head_of}
use Rattle.ts_plain.proofs.PlainExact.{head_by_exact}
use Rattle.ts_footer.specs.declared.columns.ColumnSize.{ColumnSize}
use Rattle.ts_footer.specs.declared.footers.Footer.{Footer}
use Rattle.ts_footer.specs.declared.tilings.Tiling.TheVariants.{Dense}
use Rattle.ts_footer.specs.Columns.{tile_count_at, column_forms, sizes_at}
use Rattle.ts_footer.specs.Tilings.{full_in, tile_total}
use Rattle.ts_footer.specs.Footers.{laid_tiles_at, laid_footer_at, laid_footer_stored, laid_head_stored, dense_footer_stored, dense_head_stored}
use Rattle.ts_footer.specs.Metas.{laid_head_in, dense_head_in}
use Rattle.ts_actor.specs.PieceLaws.{NamesHead, SettlesHeads}
use Rattle.ts_dense_read.specs.SpaceCodecs.{space_codec, space_head, IsSpaceBroken}
use Rattle.ts_dense_read.specs.SpaceBroken.{broken_meta}
use Rattle.ts_dense_read.specs.Onwards.{Onward, pair_of, value_of, onward_both, onward_ruled, onward_given, onward_number, onward_sizes}

-- ---- the head

-- a head that is read is that of a dense array
pub record IsDenseHead (frame : Frame) (frag : FragKey) (object : List ℕ) (head : Head) : Type 0 where
  pub dense : frame.dense ≡ true
  pub read : dense_head_in frame frag object ≡ Ok head

-- each head that is read is one
pub dense_head : (frame : Frame) (frag : FragKey) (object : List ℕ) (head : Head) → space_head frame frag object ≡ Ok head → IsDenseHead frame frag object head
dense_head frame frag object head h = by frame.dense refl h
  where
    by : (b : Bool) → frame.dense ≡ b → (if b then dense_head_in frame frag object else Err 0) ≡ Ok head → IsDenseHead frame frag object head
    by true dense e = record { dense = dense; read = e }
    by false sparse e = absurd (not_both (Err 0) head 0 e refl)

-- the head bears the name under which it is read
pub space_names : NamesHead space_codec
unfolding laid_head_in head_of
space_names frame frag object head h =
    let d = dense_head frame frag object head h in
    let b = bound (dense_head_stored frame frag object) (λ stored. Ok (head_of frag stored)) head d.read in
    sym (ap (λ (x : Head). x.frag) (same_ok (Ok (head_of frag b.first)) (head_of frag b.first) head refl b.next))

-- ---- what is broken is behind the head

-- the reader of what stands before the number of tiles, where each fragment has each cell of its hull
abbrev full_head_at : Frame → FragKey → Place → Read StoredHead
full_head_at frame frag = head_by (full_in Dense frame.dense) frame frag

-- the reader of all that stands behind a head
abbrev space_tiles_at : Frame → List Attr → StoredHead → Place → Read (ℕ × (List ColumnSize × Option Rooted))
space_tiles_at frame attrs head = laid_tiles_at Dense frame attrs head

-- it does not go back
onward_tiles : (frame : Frame) (attrs : List Attr) (head : StoredHead) → Onward (space_tiles_at frame attrs head)
unfolding laid_tiles_at tile_count_at
onward_tiles frame attrs head =
    onward_both (tile_count_at (tile_total Dense frame head)) _ (onward_ruled _ (number_at 4) (onward_number 4)) (λ tiles.
    onward_both (sizes_at head.cells tiles (column_forms [] attrs head.consolidated)) _ (onward_sizes head.cells tiles (column_forms [] attrs head.consolidated)) (λ _. onward_given None))

-- what is stored of these parts
abbrev footer_from : StoredHead × (ℕ × (List ColumnSize × Option Rooted)) → Footer
footer_from x = record { head = x.0; tiles = x.1.0; sizes = x.1.1.0; tree = x.1.1.1 }

module _ (frame : Frame) (attrs : List Attr) (frag : FragKey) (stored : StoredHead) (behind : Place) (at : ℕ) where
  -- the head, and what was read behind it
  abbrev with_tiles : Read (ℕ × (List ColumnSize × Option Rooted)) → Read (StoredHead × (ℕ × (List ColumnSize × Option Rooted)))
  with_tiles r = r >>= pair_of (stored, behind)

  -- the metadata with these parts
  abbrev made : (StoredHead × (ℕ × (List ColumnSize × Option Rooted))) × Place → Read Footer
  made x = value_of footer_from x

  -- the metadata, unless something follows it
  abbrev end : Footer × Place → Result Footer ℕ
  end x = if nat_eq (length x.1.rest) 0 then Ok x.0 else Err x.1.at

  -- a fault of the tiles, or of what follows them
  tiles_behind : (r : Read (ℕ × (List ColumnSize × Option Rooted))) → space_tiles_at frame attrs stored behind ≡ r → ((with_tiles r >>= made) >>= end) ≡ Err at → behind.at ≤ at
  tiles_behind (Err there) was e = let same : there ≡ at = cc in (onward_tiles frame attrs stored).stops behind at (was ∙ ap Err same)
  tiles_behind (Ok b) was e =
      let more = (onward_tiles frame attrs stored).on behind b was in
      let same = by (nat_eq (length b.1.rest) 0) e in
      omega (arith, more, same)
    where
      by : (z : Bool) → (if z then Ok (footer_from (stored, b.0)) else Err b.1.at) ≡ Err at → b.1.at ≡ at
      by true f = absurd (not_both (Ok (footer_from (stored, b.0))) (footer_from (stored, b.0)) at refl f)
      by false f = cc

  -- where the head was read, what breaks the whole object is behind it
  behind_head : (object body : List ℕ) → unwrapped kind.Meta object ≡ Ok body → full_head_at frame frag (place body 14) ≡ Ok (stored, behind) → dense_footer_stored frame attrs frag object ≡ Err at → behind.at ≤ at
  unfolding laid_footer_stored laid_footer_at object_at
  behind_head object body unwraps reads h =
      let in_body : whole (laid_footer_at Dense frame attrs frag) (place body 14) ≡ Err at = sym (ap (λ r. r >>= λ bytes. whole (laid_footer_at Dense frame attrs frag) (place bytes 14)) unwraps) ∙ h in
      let after : Read StoredHead → Result Footer ℕ = λ r. ((r >>= λ a. space_tiles_at frame attrs a.0 a.1 >>= pair_of a) >>= made) >>= end in
      tiles_behind (space_tiles_at frame attrs stored behind) refl (sym (ap after reads) ∙ in_body)

-- ---- the front settles the head

-- how a head was read: the body of its object, what is stored of it, and the place behind it
record ReadsHead (frame : Frame) (frag : FragKey) (object : List ℕ) (head : Head) : Type 0 where
  body : List ℕ
  stored : StoredHead
  behind : Place
  unwraps : unwrapped kind.Meta object ≡ Ok body
  reads : full_head_at frame frag (place body 14) ≡ Ok (stored, behind)
  is : head ≡ head_of frag stored

-- each head was read so
head_read : (frame : Frame) (frag : FragKey) (object : List ℕ) (head : Head) → dense_head_in frame frag object ≡ Ok head → ReadsHead frame frag object head
unfolding laid_head_in laid_head_stored
head_read frame frag object head h =
    let b = bound (dense_head_stored frame frag object) (λ stored. Ok (head_of frag stored)) head h in
    let c = bound (unwrapped kind.Meta object) (λ body. full_head_at frame frag (place body 14) >>= λ x. Ok x.0) b.first b.was in
    let d = bound (full_head_at frame frag (place c.first 14)) (λ x. Ok x.0) b.first c.next in
    record {
      body = c.first;
      stored = d.first.0;
      behind = d.first.1;
      unwraps = c.was;
      reads = d.was;
      is = sym (same_ok (Ok (head_of frag b.first)) (head_of frag b.first) head refl b.next) ∙ ap (head_of frag) (sym (same_ok (Ok d.first.0) d.first.0 b.first refl d.next));
    }

-- behind its first 14 bytes an object has its body
body_is : (object body : List ℕ) → IsBytes object → unwrapped kind.Meta object ≡ Ok body → drop 14 object ≡ body
unfolding wrapped
body_is object body all h =
    ap (drop 14) (unwrapped_found kind.Meta object body all h) ∙ drop_at (envelope_bytes kind.Meta (length body)) body 14 (length-envelope_bytes kind.Meta (length body))

-- the body of an object of bytes are bytes
body_bytes : (object body : List ℕ) → IsBytes object → unwrapped kind.Meta object ≡ Ok body → IsBytes body
body_bytes object body all h = subst IsBytes (body_is object body all h) (IsBytes-drop 14 object all)

-- another object with the same bytes up to the end of the head has the same head
same_head : (frame : Frame) (frag : FragKey) (object other : List ℕ) (head found : Head) (x : ReadsHead frame frag object head) (y : ReadsHead frame frag other found)
    → IsBytes object → IsBytes other → take x.behind.at other ≡ take x.behind.at object → found ≡ head
same_head frame frag object other head found x y all all_other front =
    let exact = head_by_exact (full_in Dense frame.dense) frame frag in
    let taken = exact.takes (place x.body 14) (x.stored, x.behind) (body_bytes object x.body all x.unwraps) x.reads in
    let text = head_bytes x.stored in
    let n = length text in
    let cut : (bytes body : List ℕ) → drop 14 bytes ≡ body → drop 14 (take x.behind.at bytes) ≡ take n body =
    λ bytes body is. ap (λ k. drop 14 (take k bytes)) taken.0.count ∙ drop-take 14 n bytes ∙ ap (take n) is in
    let own : take n x.body ≡ text = ap (take n) taken.0.parts ∙ take_at text x.behind.rest n refl in
    let same : take n y.body ≡ text = sym (cut other y.body (body_is other y.body all_other y.unwraps)) ∙ ap (drop 14) front ∙ cut object x.body (body_is object x.body all x.unwraps) ∙ own in
    let split : y.body ≡ text ++ drop n y.body = sym (take-append-drop n y.body) ∙ ap (λ xs. xs ++ drop n y.body) same in
    let again = exact.again x.stored (drop n y.body) 14 taken.1 in
    let both = same_ok (full_head_at frame frag (place y.body 14)) (y.stored, y.behind) (x.stored, place (drop n y.body) (14 + n)) y.reads (ap (λ bytes. full_head_at frame frag (place bytes 14)) split ∙ again) in
    y.is ∙ ap (λ (z : StoredHead × Place). head_of frag z.0) both ∙ sym x.is

-- what stands before the number of tiles settles the head
pub space_settles : SettlesHeads space_codec IsSpaceBroken
space_settles frame frag object head all h =
    let d = dense_head frame frag object head h in
    let x = head_read frame frag object head d.read in
    record {
      end = x.behind.at;
      whole = λ s at broken. behind_head frame s.attrs frag x.stored x.behind at object x.body x.unwraps x.reads (broken_meta frame s frag object part.Meta at d.dense broken);
      alone = λ other found all_other front read. same_head frame frag object other head found x (head_read frame frag other found (dense_head frame frag other found read).read) all all_other front;
    }
