-- A plain object holds one piece, and its head is read without the schema.
use Rattle.std.proofs.Common.{◌≡◌, ℕ, ◌^◌, ◌<◌, Bool, true, false, nat_eq, if◌then◌else◌, List, [], length, Ok, Err, Result, refl, sym, ap, ◌∙◌, subst, arith}
use Rattle.std.proofs.lemmas.Option.{same_Some}
use Rattle.ts_base.specs.declared.keys.FragKey.{FragKey}
use Rattle.ts_base.specs.declared.heads.Piece.{Piece}
use Rattle.ts_base.specs.declared.heads.Head.{Head}
use Rattle.ts_base.specs.declared.names.Part.{Part}
use Rattle.ts_wire.specs.declared.faults.ReadFault.{ReadFault}
use Rattle.ts_wire.specs.declared.faults.ReadFault.TheVariants as fault
use Rattle.ts_wire.specs.declared.kinds.Kind.TheVariants as kind
use Rattle.ts_wire.specs.Place.{Place, Read, place, ◌>>=◌, both, whole, items_at}
use Rattle.ts_wire.specs.Exact.{IsBytes}
use Rattle.ts_wire.specs.Reading.{DecodesOr, IsRead}
use Rattle.ts_wire.specs.Envelope.{wrapped, unwrapped, object_at}
use Rattle.ts_wire.proofs.Laws.{same_ok, not_both, bound, goes_on}
use Rattle.ts_wire.proofs.Objects.{object_found, object_only, length-wrapped}
use Rattle.ts_schema.specs.declared.attrs.Attr.{Attr}
use Rattle.ts_schema.specs.declared.frames.Frame.{Frame}
use Rattle.ts_schema.specs.declared.schemas.Schema.{Schema}
use Rattle.ts_plain.specs.declared.stored.StoredHead.{StoredHead}
use Rattle.ts_plain.specs.declared.stored.StoredCell.{StoredCell}
use Rattle.ts_plain.specs.declared.stored.StoredPiece.{StoredPiece}
use Rattle.ts_plain.specs.Plain.{head_at, cell_at, plain_at, plain_stored, head_stored, plain_bytes, FitsPlain}
use Rattle.ts_plain.specs.Pieces.{head_of, piece_of, plain_piece, plain_head, BreaksSo, IsPlainObject, IsPlain}
use Rattle.ts_plain.proofs.PlainExact.{plain_exact}

-- ---- one object, one piece

-- what fits and is spelled is read
stored_again : (frame : Frame) (attrs : List Attr) (frag : FragKey) (stored : StoredPiece) → FitsPlain frame attrs frag stored → length (plain_bytes stored) < 2 ^ 64
    → plain_stored frame attrs frag (wrapped kind.Plain (plain_bytes stored)) ≡ Ok stored
unfolding plain_stored
stored_again frame attrs frag stored fits few = object_only (plain_exact frame attrs frag) kind.Plain stored few fits

-- the object of a piece is read as that piece
pub piece_again : (frame : Frame) (attrs : List Attr) (p : Piece) (bytes : List ℕ) → IsPlainObject frame attrs p bytes → plain_piece frame attrs p.head.frag bytes ≡ Ok p
unfolding plain_piece
piece_again frame attrs p bytes is =
    let frag = p.head.frag in
    let was : plain_stored frame attrs frag bytes ≡ Ok is.stored = ap (plain_stored frame attrs frag) is.spelled ∙ stored_again frame attrs frag is.stored is.fits is.few in
    goes_on (plain_stored frame attrs frag bytes) (λ stored. Ok (piece_of frag stored)) is.stored (Ok p) was (ap Ok (sym is.same))

-- what is read is the piece that the object holds, under its name
pub piece_found : (frame : Frame) (attrs : List Attr) (frag : FragKey) (bytes : List ℕ) (p : Piece) → IsBytes bytes → length bytes < 2 ^ 64
    → plain_piece frame attrs frag bytes ≡ Ok p → IsPlainObject frame attrs p bytes × (p.head.frag ≡ frag)
unfolding plain_piece plain_stored piece_of head_of
piece_found frame attrs frag bytes p all few h =
    let step = bound (plain_stored frame attrs frag bytes) (λ stored. Ok (piece_of frag stored)) p h in
    let was = object_found (plain_exact frame attrs frag) kind.Plain bytes step.first all step.was in
    let room : length (plain_bytes step.first) < 2 ^ 64 = omega (arith, ap length was.1, length-wrapped kind.Plain (plain_bytes step.first)) in
    let same : piece_of frag step.first ≡ p = same_ok (Ok (piece_of frag step.first)) (piece_of frag step.first) p refl step.next in
    let P : Piece → Type 0 = λ q. IsPlainObject frame attrs q bytes × (q.head.frag ≡ frag) in
    subst P same (record { stored = step.first; fits = was.0; few = room; spelled = was.1; same = refl }, refl)

-- two pieces of one fragment with the same object are one piece
pub one_object : (frame : Frame) (attrs : List Attr) (p q : Piece) (bytes : List ℕ) → p.head.frag ≡ q.head.frag
    → IsPlainObject frame attrs p bytes → IsPlainObject frame attrs q bytes → p ≡ q
one_object frame attrs p q bytes named is other =
    let P : FragKey → Type 0 = λ frag. plain_piece frame attrs frag bytes ≡ Ok p in
    same_ok (plain_piece frame attrs q.head.frag bytes) p q (subst P named (piece_again frame attrs p bytes is)) (piece_again frame attrs q bytes other)

-- two pieces of one fragment with the same parts are one piece
pub one_plain : (frame : Frame) (schema : Schema) (p q : Piece) (parts : Part → _) → p.head.frag ≡ q.head.frag
    → IsPlain frame schema p parts → IsPlain frame schema q parts → p ≡ q
one_plain frame schema p q parts named is other =
    let P : List ℕ → Type 0 = λ bytes. IsPlainObject frame schema.attrs q bytes in
    one_object frame schema.attrs p q is.0 named is.2 (subst P (sym (same_Some is.0 other.0 (sym is.1 ∙ other.1))) other.2)

-- ---- the head, read without the schema

-- a step behind a fault fails so
stays : {A B : Type 0} (r : Result A ℕ) (f : A → Result B ℕ) (at : ℕ) → r ≡ Err at → r >>= f ≡ Err at
stays r f at h = ap (λ q. q >>= f) h

-- where a field before the cells is broken, the whole object is broken there, whatever the attributes are
pub head_broken : (frame : Frame) (attrs : List Attr) (frag : FragKey) (object : List ℕ) (at : ℕ) → head_stored frame frag object ≡ Err at → plain_stored frame attrs frag object ≡ Err at
unfolding head_stored plain_stored plain_at object_at
head_broken frame attrs frag object at h = by_body (unwrapped kind.Plain object) h
  where
    by_head : (r : Read StoredHead) → (r >>= λ x. Ok x.0) ≡ Err at → r ≡ Err at
    by_head (Ok x) e = absurd (not_both (Ok x.0) x.0 at refl e)
    by_head (Err there) e = let same : there ≡ at = cc in ap Err same

    made : (StoredHead × List StoredCell) × Place → Read StoredPiece
    made x = Ok (record { head = x.0.0; cells = x.0.1 }, x.1)

    cells_of : StoredHead × Place → Read (StoredHead × List StoredCell)
    cells_of a = items_at (cell_at frame attrs a.0) a.0.cells [] a.1 >>= λ b. Ok ((a.0, b.0), b.1)

    end : StoredPiece × Place → Result StoredPiece ℕ
    end x = if nat_eq (length x.1.rest) 0 then Ok x.0 else Err x.1.at

    by_body : (r : Result (List ℕ) ℕ) → (r >>= λ body. head_at frame frag (place body 14) >>= λ x. Ok x.0) ≡ Err at → (r >>= λ body. whole (plain_at frame attrs frag) (place body 14)) ≡ Err at
    by_body (Ok body) e =
        let head = head_at frame frag (place body 14) in
        stays ((head >>= cells_of) >>= made) end at (stays (head >>= cells_of) made at (stays head cells_of at (by_head head e)))
    by_body (Err there) e = let same : there ≡ at = cc in ap Err same

-- where the whole object is read, so is its head, whatever the attributes are
pub head_read : (frame : Frame) (attrs : List Attr) (frag : FragKey) (object : List ℕ) (stored : StoredPiece) → plain_stored frame attrs frag object ≡ Ok stored → head_stored frame frag object ≡ Ok stored.head
unfolding head_stored plain_stored plain_at object_at
head_read frame attrs frag object stored h =
    let body = bound (unwrapped kind.Plain object) (λ body. whole (plain_at frame attrs frag) (place body 14)) stored h in
    let inside = bound (plain_at frame attrs frag (place body.first 14)) (λ x. if nat_eq (length x.1.rest) 0 then Ok x.0 else Err x.1.at) stored body.next in
    let kept : inside.first.0 ≡ stored = end_ok inside.first (nat_eq (length inside.first.1.rest) 0) inside.next in
    let pair = bound (both (head_at frame frag) (λ head. items_at (cell_at frame attrs head) head.cells []) (place body.first 14)) (λ x. Ok (made x.0, x.1)) inside.first inside.was in
    let head = bound (head_at frame frag (place body.first 14)) (λ a. items_at (cell_at frame attrs a.0) a.0.cells [] a.1 >>= λ b. Ok ((a.0, b.0), b.1)) pair.first pair.was in
    let cells = bound (items_at (cell_at frame attrs head.first.0) head.first.0.cells [] head.first.1) (λ b. Ok ((head.first.0, b.0), b.1)) pair.first head.next in
    let first : head.first.0 ≡ pair.first.0.0 = ap (λ x. x.0.0) (same_ok (Ok ((head.first.0, cells.first.0), cells.first.1)) _ pair.first refl cells.next) in
    let last : pair.first.0.0 ≡ stored.head = ap (λ x. x.0.head) (same_ok (Ok (made pair.first.0, pair.first.1)) _ inside.first refl pair.next) ∙ ap (λ s. s.head) kept in
    goes_on (unwrapped kind.Plain object) (λ b. head_at frame frag (place b 14) >>= λ x. Ok x.0) body.first (Ok stored.head) body.was
    (goes_on (head_at frame frag (place body.first 14)) (λ x. Ok x.0) head.first (Ok stored.head) head.was (ap Ok (first ∙ last)))
  where
    made : StoredHead × List StoredCell → StoredPiece
    made x = record { head = x.0; cells = x.1 }

    end_ok : (y : StoredPiece × Place) (b : Bool) → (if b then Ok y.0 else Err y.1.at) ≡ Ok stored → y.0 ≡ stored
    end_ok y true e = same_ok (Ok y.0) y.0 stored refl e
    end_ok y false e = absurd (not_both (Err y.1.at) stored y.1.at e refl)

-- ---- what the calls say

-- an answer that is that of a value is the value
answered : {A : Type 0} (answer : Result A ℕ) (x : A) (result : Result A ReadFault) → answer ≡ Ok x → DecodesOr (λ y. y) answer result → IsRead (λ y. y) x result
answered answer x (Ok found) was h = same_ok answer found x h was
answered answer x (Err (fault.Damaged damaged)) was h = not_both answer x damaged.at was h
answered answer x (Err fault.OutOfMemory) was h = tt

-- what is spelled is read
pub piece_only : (frame : Frame) (attrs : List Attr) (piece : Piece) (frag : FragKey) (object : List ℕ) (result : Result Piece ReadFault) → piece.head.frag ≡ frag
    → IsPlainObject frame attrs piece object → DecodesOr (λ p. p) (plain_piece frame attrs frag object) result → IsRead (λ p. p) piece result
piece_only frame attrs piece frag object result named is h =
    answered (plain_piece frame attrs frag object) piece result (ap (λ f. plain_piece frame attrs f object) (sym named) ∙ piece_again frame attrs piece object is) h

-- the head of what is spelled is read
pub head_again : (frame : Frame) (attrs : List Attr) (p : Piece) (bytes : List ℕ) → IsPlainObject frame attrs p bytes → plain_head frame p.head.frag bytes ≡ Ok p.head
unfolding plain_head piece_of
head_again frame attrs p bytes is =
    let frag = p.head.frag in
    let was : plain_stored frame attrs frag bytes ≡ Ok is.stored = ap (plain_stored frame attrs frag) is.spelled ∙ stored_again frame attrs frag is.stored is.fits is.few in
    let same : head_of frag is.stored.head ≡ p.head = sym (ap (λ q. q.head) is.same) in
    goes_on (head_stored frame frag bytes) (λ head. Ok (head_of frag head)) is.stored.head (Ok p.head) (head_read frame attrs frag bytes is.stored was) (ap Ok same)

pub only_head : (frame : Frame) (attrs : List Attr) (piece : Piece) (frag : FragKey) (object : List ℕ) (result : Result Head ReadFault) → piece.head.frag ≡ frag
    → IsPlainObject frame attrs piece object → DecodesOr (λ p. p) (plain_head frame frag object) result → IsRead (λ p. p) piece.head result
only_head frame attrs piece frag object result named is h =
    answered (plain_head frame frag object) piece.head result (ap (λ f. plain_head frame f object) (sym named) ∙ head_again frame attrs piece object is) h

-- what is broken before the cells is broken in the whole, whatever the attributes are
pub broken_head : (frame : Frame) (attrs : List Attr) (frag : FragKey) (object : List ℕ) (result : Result Head ReadFault)
    → DecodesOr (λ p. p) (plain_head frame frag object) result → BreaksSo (plain_piece frame attrs frag object) result
unfolding plain_head plain_piece
broken_head frame attrs frag object (Ok found) h = tt
broken_head frame attrs frag object (Err fault.OutOfMemory) h = tt
broken_head frame attrs frag object (Err (fault.Damaged damaged)) h =
    stays (plain_stored frame attrs frag object) (λ stored. Ok (piece_of frag stored)) damaged.at (head_broken frame attrs frag object damaged.at (by_head (head_stored frame frag object) h))
  where
    by_head : (r : Result StoredHead ℕ) → (r >>= λ head. Ok (head_of frag head)) ≡ Err damaged.at → r ≡ Err damaged.at
    by_head (Ok head) e = absurd (not_both (Ok (head_of frag head)) _ damaged.at refl e)
    by_head (Err there) e = let same : there ≡ damaged.at = cc in ap Err same
