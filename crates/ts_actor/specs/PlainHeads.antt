-- The head of a plain object bears the name of its fragment, and what stands before the cells settles it.
use Rattle.std.proofs.Common.{◌≡◌, ℕ, ◌+◌, ◌≤◌, Bool, true, false, nat_eq, if◌then◌else◌, List, [], ◌++◌, length, take, drop, Result, Ok, Err, refl, sym, ap, ◌∙◌, subst, arith}
use Rattle.std.proofs.lemmas.List.{take_at, drop_at, drop-take, take-append-drop}
use Rattle.ts_base.specs.declared.keys.FragKey.{FragKey}
use Rattle.ts_base.specs.declared.heads.Head.{Head}
use Rattle.ts_base.specs.declared.names.Part.TheVariants as part
use Rattle.ts_wire.specs.declared.kinds.Kind.TheVariants as kind
use Rattle.ts_wire.specs.Place.{Place, Read, place, ◌>>=◌, whole, items_at}
use Rattle.ts_wire.specs.Exact.{IsBytes}
use Rattle.ts_wire.specs.Envelope.{envelope_bytes, wrapped, unwrapped, object_at}
use Rattle.ts_wire.proofs.Laws.{same_ok, not_both, bound, items_exact, IsBytes-drop}
use Rattle.ts_wire.proofs.Objects.{unwrapped_found, length-envelope_bytes}
use Rattle.ts_schema.specs.declared.attrs.Attr.{Attr}
use Rattle.ts_schema.specs.declared.frames.Frame.{Frame}
use Rattle.ts_plain.specs.declared.stored.StoredHead.{StoredHead}
use Rattle.ts_plain.specs.declared.stored.StoredCell.{StoredCell}
use Rattle.ts_plain.specs.declared.stored.StoredPiece.{StoredPiece}
use Rattle.ts_plain.specs.Plain.{head_at, cell_at, plain_at, plain_stored, head_stored, head_bytes}
use Rattle.ts_plain.specs.Pieces.{head_of, piece_of, plain_piece, plain_head}
use Rattle.ts_plain.proofs.PlainExact.{head_exact, cell_exact}
use Rattle.ts_actor.specs.PlainCodec.{plain_codec, IsPlainBroken}
use Rattle.ts_actor.specs.PieceLaws.{NamesHead, SettlesHeads}
use Rattle.ts_actor.specs.PlainLaws.{broken_object}

-- the head bears the name under which it is read
pub plain_names : NamesHead plain_codec
unfolding plain_head head_of
plain_names frame frag object head h =
    let b = bound (head_stored frame frag object) (λ stored. Ok (head_of frag stored)) head h in
    sym (ap (λ (x : Head). x.frag) (same_ok (Ok (head_of frag b.first)) (head_of frag b.first) head refl b.next))

-- how a head was read: the body of its object, what is stored of it, and the place behind it
pub record ReadsHead (frame : Frame) (frag : FragKey) (object : List ℕ) (head : Head) : Type 0 where
  pub body : List ℕ
  pub stored : StoredHead
  pub behind : Place
  pub unwraps : unwrapped kind.Plain object ≡ Ok body
  pub reads : head_at frame frag (place body 14) ≡ Ok (stored, behind)
  pub is : head ≡ head_of frag stored

head_read : (frame : Frame) (frag : FragKey) (object : List ℕ) (head : Head) → plain_head frame frag object ≡ Ok head → ReadsHead frame frag object head
unfolding plain_head head_stored
head_read frame frag object head h =
    let b = bound (head_stored frame frag object) (λ stored. Ok (head_of frag stored)) head h in
    let c = bound (unwrapped kind.Plain object) (λ body. head_at frame frag (place body 14) >>= λ x. Ok x.0) b.first b.was in
    let d = bound (head_at frame frag (place c.first 14)) (λ x. Ok x.0) b.first c.next in
    record {
      body = c.first;
      stored = d.first.0;
      behind = d.first.1;
      unwraps = c.was;
      reads = d.was;
      is = sym (same_ok (Ok (head_of frag b.first)) (head_of frag b.first) head refl b.next) ∙ ap (head_of frag) (sym (same_ok (Ok d.first.0) d.first.0 b.first refl d.next));
    }

-- behind its first 14 bytes an object has its body
body_is : (object body : List ℕ) → IsBytes object → unwrapped kind.Plain object ≡ Ok body → drop 14 object ≡ body
unfolding wrapped
body_is object body all h =
    ap (drop 14) (unwrapped_found kind.Plain object body all h) ∙ drop_at (envelope_bytes kind.Plain (length body)) body 14 (length-envelope_bytes kind.Plain (length body))

-- the body of an object of bytes are bytes
body_bytes : (object body : List ℕ) → IsBytes object → unwrapped kind.Plain object ≡ Ok body → IsBytes body
body_bytes object body all h = subst IsBytes (body_is object body all h) (IsBytes-drop 14 object all)

-- ---- what is broken is behind the head

-- no piece is stored where none is found
stored_broken : (frag : FragKey) (r : Result StoredPiece ℕ) (at : ℕ) → (r >>= λ stored. Ok (piece_of frag stored)) ≡ Err at → r ≡ Err at
stored_broken frag (Ok stored) at e = absurd (not_both (Ok (piece_of frag stored)) (piece_of frag stored) at refl e)
stored_broken frag (Err there) at e = let same : there ≡ at = cc in ap Err same

module _ (frame : Frame) (attrs : List Attr) (frag : FragKey) (stored : StoredHead) (behind : Place) (at : ℕ) (all : IsBytes behind.rest) where
  -- the piece with these cells
  abbrev whole_piece : List StoredCell → StoredPiece
  whole_piece cells = record { head = stored; cells = cells }

  abbrev with_cells : Read (List StoredCell) → Read (StoredHead × List StoredCell)
  with_cells r = r >>= λ b. Ok ((stored, b.0), b.1)

  abbrev made : (StoredHead × List StoredCell) × Place → Read StoredPiece
  made x = Ok (record { head = x.0.0; cells = x.0.1 }, x.1)

  abbrev end : StoredPiece × Place → Result StoredPiece ℕ
  end x = if nat_eq (length x.1.rest) 0 then Ok x.0 else Err x.1.at

  -- a fault of the cells, or of what follows them
  cells_behind : (r : Read (List StoredCell)) → items_at (cell_at frame attrs stored) stored.cells [] behind ≡ r → ((with_cells r >>= made) >>= end) ≡ Err at → behind.at ≤ at
  cells_behind (Err there) was e =
      let same : there ≡ at = cc in
      subst (λ n. behind.at ≤ n) same ((items_exact (cell_exact frame attrs stored) stored.cells []).within behind there all was).0
  cells_behind (Ok b) was e =
      let took = ((items_exact (cell_exact frame attrs stored) stored.cells []).takes behind b all was).0 in
      omega (arith, took.count, by (nat_eq (length b.1.rest) 0) e)
    where
      by : (z : Bool) → (if z then Ok (whole_piece b.0) else Err b.1.at) ≡ Err at → b.1.at ≡ at
      by true f = absurd (not_both (Ok (whole_piece b.0)) (whole_piece b.0) at refl f)
      by false f = cc

  -- where the head was read, what breaks the whole object is behind it
  behind_head : (object body : List ℕ) → unwrapped kind.Plain object ≡ Ok body → head_at frame frag (place body 14) ≡ Ok (stored, behind) → plain_stored frame attrs frag object ≡ Err at → behind.at ≤ at
  unfolding plain_stored plain_at object_at
  behind_head object body unwraps reads h =
      let in_body : whole (plain_at frame attrs frag) (place body 14) ≡ Err at = sym (ap (λ r. r >>= λ bytes. whole (plain_at frame attrs frag) (place bytes 14)) unwraps) ∙ h in
      let after : Read StoredHead → Result StoredPiece ℕ = λ r. ((r >>= λ a. items_at (cell_at frame attrs a.0) a.0.cells [] a.1 >>= λ b. Ok ((a.0, b.0), b.1)) >>= made) >>= end in
      cells_behind (items_at (cell_at frame attrs stored) stored.cells [] behind) refl (sym (ap after reads) ∙ in_body)

-- ---- the front settles the head

-- another object with the same bytes up to the end of the head has the same head
same_head : (frame : Frame) (frag : FragKey) (object other : List ℕ) (head found : Head) (x : ReadsHead frame frag object head) (y : ReadsHead frame frag other found)
    → IsBytes object → IsBytes other → take x.behind.at other ≡ take x.behind.at object → found ≡ head
same_head frame frag object other head found x y all all_other front =
    let taken = (head_exact frame frag).takes (place x.body 14) (x.stored, x.behind) (body_bytes object x.body all x.unwraps) x.reads in
    let text = head_bytes x.stored in
    let n = length text in
    let cut : (bytes body : List ℕ) → drop 14 bytes ≡ body → drop 14 (take x.behind.at bytes) ≡ take n body =
    λ bytes body is. ap (λ k. drop 14 (take k bytes)) taken.0.count ∙ drop-take 14 n bytes ∙ ap (take n) is in
    let own : take n x.body ≡ text = ap (take n) taken.0.parts ∙ take_at text x.behind.rest n refl in
    let same : take n y.body ≡ text = sym (cut other y.body (body_is other y.body all_other y.unwraps)) ∙ ap (drop 14) front ∙ cut object x.body (body_is object x.body all x.unwraps) ∙ own in
    let split : y.body ≡ text ++ drop n y.body = sym (take-append-drop n y.body) ∙ ap (λ xs. xs ++ drop n y.body) same in
    let again = (head_exact frame frag).again x.stored (drop n y.body) 14 taken.1 in
    let both = same_ok (head_at frame frag (place y.body 14)) (y.stored, y.behind) (x.stored, place (drop n y.body) (14 + n)) y.reads (ap (λ bytes. head_at frame frag (place bytes 14)) split ∙ again) in
    y.is ∙ ap (λ (z : StoredHead × Place). head_of frag z.0) both ∙ sym x.is

-- what stands before the cells settles the head
pub plain_settles : SettlesHeads plain_codec IsPlainBroken
unfolding plain_piece
plain_settles frame frag object head all h =
    let x = head_read frame frag object head h in
    let bytes = ((head_exact frame frag).takes (place x.body 14) (x.stored, x.behind) (body_bytes object x.body all x.unwraps) x.reads).0.bytes in
    record {
      end = x.behind.at;
      whole = λ s at broken.
          behind_head frame s.attrs frag x.stored x.behind at bytes object x.body x.unwraps x.reads
          (stored_broken frag (plain_stored frame s.attrs frag object) at (broken_object frame s frag object part.Plain at broken));
      alone = λ other found all_other front read. same_head frame frag object other head found x (head_read frame frag other found read) all all_other front;
    }
