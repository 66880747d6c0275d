-- The head in the metadata of a sparse fragment bears the name of its fragment, and what stands before the number of tiles settles it.
use Rattle.std.proofs.Common.{◌≡◌, ℕ, zero, suc, ◌+◌, ◌≤◌, Bool, true, false, nat_lt, nat_eq, if◌then◌else◌, List, [], ◌∷◌, ◌++◌, length, take, drop, zip, Option, Some, Result, Ok, Err, refl, sym, ap, ◌∙◌, subst, arith}
use Rattle.std.proofs.lemmas.List.{take_at, drop_at, drop-take, take-append-drop}
use Rattle.ts_base.specs.declared.keys.FragKey.{FragKey}
use Rattle.ts_base.specs.declared.heads.Head.{Head}
use Rattle.ts_base.specs.declared.names.Part.TheVariants as part
use Rattle.ts_domain.specs.declared.boxes.SubBox.{SubBox}
use Rattle.ts_wire.specs.declared.kinds.Kind.TheVariants as kind
use Rattle.ts_wire.specs.Place.{Place, Read, place, ◌>>=◌, bytes_at, given, mapped, both, ruled, items_at, each_at, whole}
use Rattle.byteorder.specs.Endian.{little_number}
use Rattle.ts_wire.specs.Numbers.{number_at, int_of, int_at}
use Rattle.ts_wire.specs.Exact.{IsBytes}
use Rattle.ts_wire.specs.Envelope.{envelope_bytes, wrapped, unwrapped, object_at}
use Rattle.ts_wire.proofs.Laws.{same_ok, not_both, bound, IsBytes-drop}
use Rattle.ts_wire.proofs.Objects.{unwrapped_found, length-envelope_bytes}
use Rattle.ts_schema.specs.declared.attrs.Attr.{Attr}
use Rattle.ts_schema.specs.declared.frames.Frame.{Frame}
use Rattle.ts_rtree.specs.Trees.{Rooted}
use Rattle.ts_plain.specs.declared.stored.StoredHead.{StoredHead}
use Rattle.ts_plain.specs.Plain.{head_at, head_bytes}
use Rattle.ts_plain.specs.Pieces.{head_of}
use Rattle.ts_plain.specs.Writes.{box_of}
use Rattle.ts_plain.proofs.PlainExact.{head_exact}
use Rattle.ts_footer.specs.declared.columns.ColumnForm.{ColumnForm}
use Rattle.ts_footer.specs.declared.columns.ColumnForm.TheVariants.{Fixed, Var}
use Rattle.ts_footer.specs.declared.columns.ColumnSize.{ColumnSize}
use Rattle.ts_footer.specs.declared.footers.Footer.{Footer}
use Rattle.ts_footer.specs.Columns.{tiles_for, tile_count_at, column_forms, fixed_length, fixed_at, start_at, starts_at, size_at, sizes_at}
use Rattle.ts_footer.specs.TreeTexts.{same_at, bounds_at, leaf_at, leaves_at, fields_of, topped, boxes_at, one_at, many_at, tree_at}
use Rattle.ts_footer.specs.Footers.{laid_tiles_at, laid_footer_at, laid_footer_stored, laid_head_stored, tiles_at, footer_at, footer_stored, head_stored}
use Rattle.ts_footer.specs.Metas.{laid_head_in, head_in}
use Rattle.ts_actor.specs.PieceLaws.{NamesHead, SettlesHeads}
use Rattle.ts_sparse_read.specs.Codecs.{sparse_codec, IsSparseBroken}
use Rattle.ts_sparse_read.specs.SparseBroken.{broken_meta}

-- the head bears the name under which it is read
pub sparse_names : NamesHead sparse_codec
unfolding laid_head_in head_of
sparse_names frame frag object head h =
    let b = bound (head_stored frame frag object) (λ stored. Ok (head_of frag stored)) head h in
    sym (ap (λ (x : Head). x.frag) (same_ok (Ok (head_of frag b.first)) (head_of frag b.first) head refl b.next))

-- ---- reading goes on

-- a reader does not go back: neither the place behind a value nor a broken field is before the place where it began
record Onward {A : Type 0} (read : Place → Read A) : Type 0 where
  on : (p : Place) (y : A × Place) → read p ≡ Ok y → p.at ≤ y.1.at
  stops : (p : Place) (at : ℕ) → read p ≡ Err at → p.at ≤ at

-- one answer holds one value
ok_same : {A : Type 0} (x y : A) → ◌≡◌ {A = Result A ℕ} (Ok x) (Ok y) → x ≡ y
ok_same x y e = cc

not_ok : {A : Type 0} (x : A) (at : ℕ) → ◌≡◌ {A = Result A ℕ} (Ok x) (Err at) → ⊥
not_ok x at e = cc

not_err : {A : Type 0} (at : ℕ) (x : A) → ◌≡◌ {A = Result A ℕ} (Err at) (Ok x) → ⊥
not_err at x e = cc

-- the next n bytes, unless there are fewer
abbrev bytes_if : ℕ → Place → Bool → Read (List ℕ)
bytes_if n p fewer = if fewer then Err p.at else Ok (take n p.rest, place (drop n p.rest) (p.at + n))

onward_bytes : (n : ℕ) → Onward (bytes_at n)
onward_bytes n = record { on = λ p y e. on p y (nat_lt (length p.rest) n) e; stops = λ p at e. stops p at (nat_lt (length p.rest) n) e }
  where
    on : (p : Place) (y : List ℕ × Place) (b : Bool) → bytes_if n p b ≡ Ok y → p.at ≤ y.1.at
    on p y true e = absurd (not_err p.at y e)
    on p y false e =
        let x : List ℕ × Place = (take n p.rest, place (drop n p.rest) (p.at + n)) in
        subst (λ (z : List ℕ × Place). p.at ≤ z.1.at) (ok_same x y e) (omega arith)

    stops : (p : Place) (at : ℕ) (b : Bool) → bytes_if n p b ≡ Err at → p.at ≤ at
    stops p at true e = let same : p.at ≡ at = cc in omega (arith, same)
    stops p at false e = let x : List ℕ × Place = (take n p.rest, place (drop n p.rest) (p.at + n)) in absurd (not_ok x at e)

-- what f makes of a value that was read
abbrev value_of : {A B : Type 0} → (A → B) → A × Place → Read B
value_of f x = Ok (f x.0, x.1)

onward_mapped : {A B : Type 0} (f : A → B) (read : Place → Read A) → Onward read → Onward (mapped f read)
onward_mapped {A} {B} f read onward = record { on = λ p y e. on p y (read p) refl e; stops = λ p at e. stops p at (read p) refl e }
  where
    on : (p : Place) (y : B × Place) (r : Read A) → read p ≡ r → (r >>= value_of f) ≡ Ok y → p.at ≤ y.1.at
    on p y (Ok x) was e = let z : B × Place = (f x.0, x.1) in subst (λ (w : B × Place). p.at ≤ w.1.at) (ok_same z y e) (onward.on p x was)
    on p y (Err there) was e = absurd (not_err there y e)

    stops : (p : Place) (at : ℕ) (r : Read A) → read p ≡ r → (r >>= value_of f) ≡ Err at → p.at ≤ at
    stops p at (Ok x) was e = let z : B × Place = (f x.0, x.1) in absurd (not_ok z at e)
    stops p at (Err there) was e = let same : there ≡ at = cc in onward.stops p at (was ∙ ap Err same)

-- two values that were read one after the other
abbrev pair_of : {A B : Type 0} → A × Place → B × Place → Read (A × B)
pair_of a b = Ok ((a.0, b.0), b.1)

onward_both : {A B : Type 0} (read : Place → Read A) (next : A → Place → Read B) → Onward read → ((a : A) → Onward (next a)) → Onward (both read next)
onward_both {A} {B} read next first second = record { on = λ p y e. on p y (read p) refl e; stops = λ p at e. stops p at (read p) refl e }
  where
    on_next : (p : Place) (y : (A × B) × Place) (a : A × Place) (r : Read B) → p.at ≤ a.1.at → next a.0 a.1 ≡ r → (r >>= pair_of a) ≡ Ok y → p.at ≤ y.1.at
    on_next p y a (Ok b) upto was e =
        let z : (A × B) × Place = ((a.0, b.0), b.1) in
        let more = (second a.0).on a.1 b was in
        subst (λ (w : (A × B) × Place). p.at ≤ w.1.at) (ok_same z y e) (omega (arith, upto, more))
    on_next p y a (Err there) upto was e = absurd (not_err there y e)

    stops_next : (p : Place) (at : ℕ) (a : A × Place) (r : Read B) → p.at ≤ a.1.at → next a.0 a.1 ≡ r → (r >>= pair_of a) ≡ Err at → p.at ≤ at
    stops_next p at a (Ok b) upto was e = let z : (A × B) × Place = ((a.0, b.0), b.1) in absurd (not_ok z at e)
    stops_next p at a (Err there) upto was e = let same : there ≡ at = cc in let more = (second a.0).stops a.1 at (was ∙ ap Err same) in omega (arith, upto, more)

    on : (p : Place) (y : (A × B) × Place) (r : Read A) → read p ≡ r → (r >>= λ a. next a.0 a.1 >>= pair_of a) ≡ Ok y → p.at ≤ y.1.at
    on p y (Ok a) was e = on_next p y a (next a.0 a.1) (first.on p a was) refl e
    on p y (Err there) was e = absurd (not_err there y e)

    stops : (p : Place) (at : ℕ) (r : Read A) → read p ≡ r → (r >>= λ a. next a.0 a.1 >>= pair_of a) ≡ Err at → p.at ≤ at
    stops p at (Ok a) was e = stops_next p at a (next a.0 a.1) (first.on p a was) refl e
    stops p at (Err there) was e = let same : there ≡ at = cc in first.stops p at (was ∙ ap Err same)

-- a value, unless its rule fails
abbrev value_if : {A : Type 0} → Place → A × Place → Bool → Read A
value_if p x passes = if passes then Ok x else Err p.at

onward_ruled : {A : Type 0} (rule : A → Bool) (read : Place → Read A) → Onward read → Onward (ruled rule read)
onward_ruled {A} rule read onward = record { on = λ p y e. on p y (read p) refl e; stops = λ p at e. stops p at (read p) refl e }
  where
    passed : (p : Place) (x y : A × Place) (b : Bool) → p.at ≤ x.1.at → value_if p x b ≡ Ok y → p.at ≤ y.1.at
    passed p x y true upto e = subst (λ (z : A × Place). p.at ≤ z.1.at) (ok_same x y e) upto
    passed p x y false upto e = absurd (not_err p.at y e)

    failed_there : (p : Place) (at : ℕ) (x : A × Place) (b : Bool) → value_if p x b ≡ Err at → p.at ≤ at
    failed_there p at x true e = absurd (not_ok x at e)
    failed_there p at x false e = let same : p.at ≡ at = cc in omega (arith, same)

    on : (p : Place) (y : A × Place) (r : Read A) → read p ≡ r → (r >>= λ x. value_if p x (rule x.0)) ≡ Ok y → p.at ≤ y.1.at
    on p y (Ok x) was e = passed p x y (rule x.0) (onward.on p x was) e
    on p y (Err there) was e = absurd (not_err there y e)

    stops : (p : Place) (at : ℕ) (r : Read A) → read p ≡ r → (r >>= λ x. value_if p x (rule x.0)) ≡ Err at → p.at ≤ at
    stops p at (Ok x) was e = failed_there p at x (rule x.0) e
    stops p at (Err there) was e = let same : there ≡ at = cc in onward.stops p at (was ∙ ap Err same)

onward_given : {A : Type 0} (x : A) → Onward (given x)
onward_given {A} x = record { on = on; stops = stops }
  where
    on : (p : Place) (y : A × Place) → given x p ≡ Ok y → p.at ≤ y.1.at
    on p y e = let z : A × Place = (x, p) in subst (λ (w : A × Place). p.at ≤ w.1.at) (ok_same z y e) (omega arith)

    stops : (p : Place) (at : ℕ) → given x p ≡ Err at → p.at ≤ at
    stops p at e = let z : A × Place = (x, p) in absurd (not_ok z at e)

onward_items : {A : Type 0} (read : List A → Place → Read A) → ((front : List A) → Onward (read front)) → (n : ℕ) (front : List A) → Onward (items_at read n front)
unfolding items_at
onward_items {A} read each zero front = onward_given []
onward_items {A} read each (suc n) front =
    onward_mapped (λ (x : A × List A). x.0 ∷ x.1) (both (read front) (λ a. items_at read n (front ++ a ∷ []))) (onward_both (read front) (λ a. items_at read n (front ++ a ∷ [])) (each front) (λ a. onward_items read each n (front ++ a ∷ [])))

onward_each : {D A : Type 0} (read : D → Place → Read A) → ((d : D) → Onward (read d)) → (ds : List D) → Onward (each_at read ds)
unfolding each_at
onward_each {D} {A} read each [] = onward_given []
onward_each {D} {A} read each (d ∷ ds) = onward_mapped (λ (x : A × List A). x.0 ∷ x.1) (both (read d) (λ _. each_at read ds)) (onward_both (read d) (λ _. each_at read ds) (each d) (λ _. onward_each read each ds))

-- ---- what stands behind the head

onward_number : (n : ℕ) → Onward (number_at n)
unfolding number_at
onward_number n = onward_mapped (little_number n) (bytes_at n) (onward_bytes n)

onward_int : (n : ℕ) (signed : Bool) → Onward (int_at n signed)
unfolding int_at
onward_int n signed = onward_mapped (int_of n signed) (bytes_at n) (onward_bytes n)

onward_start : (end : ℕ) (front : List ℕ) → Onward (start_at end front)
unfolding start_at
onward_start end front = onward_ruled _ (number_at 8) (onward_number 8)

onward_starts : (tiles end : ℕ) → Onward (starts_at tiles end)
unfolding starts_at
onward_starts tiles end = onward_items (start_at end) (onward_start end) tiles []

onward_size : (cells tiles : ℕ) (form : ColumnForm) → Onward (size_at cells tiles form)
unfolding size_at fixed_at
onward_size cells tiles (Fixed width) = onward_mapped _ (fixed_at width cells) (onward_ruled (λ n. nat_eq n (fixed_length width cells)) (number_at 8) (onward_number 8))
onward_size cells tiles Var = onward_mapped _ (both (number_at 8) (starts_at tiles)) (onward_both (number_at 8) (starts_at tiles) (onward_number 8) (onward_starts tiles))

onward_sizes : (cells tiles : ℕ) (forms : List ColumnForm) → Onward (sizes_at cells tiles forms)
unfolding sizes_at
onward_sizes cells tiles forms = onward_each (size_at cells tiles) (onward_size cells tiles) forms

onward_same : (e : List ℕ × List ℕ) → Onward (same_at e)
unfolding same_at
onward_same e = onward_ruled _ (bytes_at 16) (onward_bytes 16)

onward_boxes : (hull : SubBox) (boxes : List SubBox) → Onward (boxes_at hull boxes)
unfolding boxes_at
onward_boxes hull boxes = onward_each same_at onward_same (zip (fields_of boxes) (fields_of (topped hull boxes)))

onward_bounds : Onward bounds_at
unfolding bounds_at
onward_bounds = onward_mapped _ (both (int_at 16 true) _) (onward_both (int_at 16 true) _ (onward_int 16 true) (λ low. onward_ruled _ (int_at 16 true) (onward_int 16 true)))

onward_leaf : (n : ℕ) → Onward (leaf_at n)
unfolding leaf_at
onward_leaf n = onward_mapped box_of (items_at (λ _. bounds_at) n []) (onward_items (λ _. bounds_at) (λ _. onward_bounds) n [])

onward_leaves : (n count : ℕ) → Onward (leaves_at n count)
unfolding leaves_at
onward_leaves n count = onward_items (λ _. leaf_at n) (λ _. onward_leaf n) count []

onward_tree : (hull : SubBox) (count : ℕ) (b : Bool) → Onward (if b then one_at hull else many_at hull count)
unfolding one_at many_at
onward_tree hull count true = onward_mapped _ (boxes_at hull (hull ∷ [])) (onward_boxes hull (hull ∷ []))
onward_tree hull count false = onward_mapped _ (both (leaves_at (length hull.low) count) _) (onward_both (leaves_at (length hull.low) count) _ (onward_leaves (length hull.low) count) (λ leaves. onward_boxes hull _))

-- the reader of all that stands behind a head
onward_tiles : (frame : Frame) (attrs : List Attr) (head : StoredHead) → Onward (tiles_at frame attrs head)
unfolding laid_tiles_at tile_count_at
onward_tiles frame attrs head =
    onward_both (tile_count_at (tiles_for frame.capacity head.cells)) _ (onward_ruled _ (number_at 4) (onward_number 4)) (λ tiles.
    onward_both (sizes_at head.cells tiles (column_forms frame.domain attrs head.consolidated)) _ (onward_sizes head.cells tiles (column_forms frame.domain attrs head.consolidated)) (λ _.
    onward_mapped Some (tree_at (box_of head.hull) tiles) (onward_tree (box_of head.hull) tiles (nat_eq tiles 1))))

-- ---- what is broken is behind the head

-- what is stored of these parts
abbrev footer_from : StoredHead × (ℕ × (List ColumnSize × Option Rooted)) → Footer
footer_from x = record { head = x.0; tiles = x.1.0; sizes = x.1.1.0; tree = x.1.1.1 }

module _ (frame : Frame) (attrs : List Attr) (frag : FragKey) (stored : StoredHead) (behind : Place) (at : ℕ) where
  -- the head, and what was read behind it
  abbrev with_tiles : Read (ℕ × (List ColumnSize × Option Rooted)) → Read (StoredHead × (ℕ × (List ColumnSize × Option Rooted)))
  with_tiles r = r >>= pair_of (stored, behind)

  -- the metadata with these parts
  abbrev made : (StoredHead × (ℕ × (List ColumnSize × Option Rooted))) × Place → Read Footer
  made x = value_of footer_from x

  -- the metadata, unless something follows it
  abbrev end : Footer × Place → Result Footer ℕ
  end x = if nat_eq (length x.1.rest) 0 then Ok x.0 else Err x.1.at

  -- a fault of the tiles, or of what follows them
  tiles_behind : (r : Read (ℕ × (List ColumnSize × Option Rooted))) → tiles_at frame attrs stored behind ≡ r → ((with_tiles r >>= made) >>= end) ≡ Err at → behind.at ≤ at
  tiles_behind (Err there) was e = let same : there ≡ at = cc in (onward_tiles frame attrs stored).stops behind at (was ∙ ap Err same)
  tiles_behind (Ok b) was e =
      let more = (onward_tiles frame attrs stored).on behind b was in
      let same = by (nat_eq (length b.1.rest) 0) e in
      omega (arith, more, same)
    where
      by : (z : Bool) → (if z then Ok (footer_from (stored, b.0)) else Err b.1.at) ≡ Err at → b.1.at ≡ at
      by true f = absurd (not_both (Ok (footer_from (stored, b.0))) (footer_from (stored, b.0)) at refl f)
      by false f = cc

  -- where the head was read, what breaks the whole object is behind it
  behind_head : (object body : List ℕ) → unwrapped kind.Meta object ≡ Ok body → head_at frame frag (place body 14) ≡ Ok (stored, behind) → footer_stored frame attrs frag object ≡ Err at → behind.at ≤ at
  unfolding laid_footer_stored laid_footer_at object_at
  behind_head object body unwraps reads h =
      let in_body : whole (footer_at frame attrs frag) (place body 14) ≡ Err at = sym (ap (λ r. r >>= λ bytes. whole (footer_at frame attrs frag) (place bytes 14)) unwraps) ∙ h in
      let after : Read StoredHead → Result Footer ℕ = λ r. ((r >>= λ a. tiles_at frame attrs a.0 a.1 >>= pair_of a) >>= made) >>= end in
      tiles_behind (tiles_at frame attrs stored behind) refl (sym (ap after reads) ∙ in_body)

-- ---- the front settles the head

-- how a head was read: the body of its object, what is stored of it, and the place behind it
record ReadsHead (frame : Frame) (frag : FragKey) (object : List ℕ) (head : Head) : Type 0 where
  body : List ℕ
  stored : StoredHead
  behind : Place
  unwraps : unwrapped kind.Meta object ≡ Ok body
  reads : head_at frame frag (place body 14) ≡ Ok (stored, behind)
  is : head ≡ head_of frag stored

head_read : (frame : Frame) (frag : FragKey) (object : List ℕ) (head : Head) → head_in frame frag object ≡ Ok head → ReadsHead frame frag object head
unfolding laid_head_in laid_head_stored
head_read frame frag object head h =
    let b = bound (head_stored frame frag object) (λ stored. Ok (head_of frag stored)) head h in
    let c = bound (unwrapped kind.Meta object) (λ body. head_at frame frag (place body 14) >>= λ x. Ok x.0) b.first b.was in
    let d = bound (head_at frame frag (place c.first 14)) (λ x. Ok x.0) b.first c.next in
    record {
      body = c.first;
      stored = d.first.0;
      behind = d.first.1;
      unwraps = c.was;
      reads = d.was;
      is = sym (same_ok (Ok (head_of frag b.first)) (head_of frag b.first) head refl b.next) ∙ ap (head_of frag) (sym (same_ok (Ok d.first.0) d.first.0 b.first refl d.next));
    }

-- behind its first 14 bytes an object has its body
body_is : (object body : List ℕ) → IsBytes object → unwrapped kind.Meta object ≡ Ok body → drop 14 object ≡ body
unfolding wrapped
body_is object body all h =
    ap (drop 14) (unwrapped_found kind.Meta object body all h) ∙ drop_at (envelope_bytes kind.Meta (length body)) body 14 (length-envelope_bytes kind.Meta (length body))

-- the body of an object of bytes are bytes
body_bytes : (object body : List ℕ) → IsBytes object → unwrapped kind.Meta object ≡ Ok body → IsBytes body
body_bytes object body all h = subst IsBytes (body_is object body all h) (IsBytes-drop 14 object all)

-- another object with the same bytes up to the end of the head has the same head
same_head : (frame : Frame) (frag : FragKey) (object other : List ℕ) (head found : Head) (x : ReadsHead frame frag object head) (y : ReadsHead frame frag other found)
    → IsBytes object → IsBytes other → take x.behind.at other ≡ take x.behind.at object → found ≡ head
same_head frame frag object other head found x y all all_other front =
    let taken = (head_exact frame frag).takes (place x.body 14) (x.stored, x.behind) (body_bytes object x.body all x.unwraps) x.reads in
    let text = head_bytes x.stored in
    let n = length text in
    let cut : (bytes body : List ℕ) → drop 14 bytes ≡ body → drop 14 (take x.behind.at bytes) ≡ take n body =
    λ bytes body is. ap (λ k. drop 14 (take k bytes)) taken.0.count ∙ drop-take 14 n bytes ∙ ap (take n) is in
    let own : take n x.body ≡ text = ap (take n) taken.0.parts ∙ take_at text x.behind.rest n refl in
    let same : take n y.body ≡ text = sym (cut other y.body (body_is other y.body all_other y.unwraps)) ∙ ap (drop 14) front ∙ cut object x.body (body_is object x.body all x.unwraps) ∙ own in
    let split : y.body ≡ text ++ drop n y.body = sym (take-append-drop n y.body) ∙ ap (λ xs. xs ++ drop n y.body) same in
    let again = (head_exact frame frag).again x.stored (drop n y.body) 14 taken.1 in
    let both = same_ok (head_at frame frag (place y.body 14)) (y.stored, y.behind) (x.stored, place (drop n y.body) (14 + n)) y.reads (ap (λ bytes. head_at frame frag (place bytes 14)) split ∙ again) in
    y.is ∙ ap (λ (z : StoredHead × Place). head_of frag z.0) both ∙ sym x.is

-- what stands before the number of tiles settles the head
pub sparse_settles : SettlesHeads sparse_codec IsSparseBroken
sparse_settles frame frag object head all h =
    let x = head_read frame frag object head h in
    record {
      end = x.behind.at;
      whole = λ s at broken. behind_head frame s.attrs frag x.stored x.behind at object x.body x.unwraps x.reads (broken_meta frame s frag object part.Meta at broken);
      alone = λ other found all_other front read. same_head frame frag object other head found x (head_read frame frag other found read) all all_other front;
    }
