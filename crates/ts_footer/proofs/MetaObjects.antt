-- An object of metadata holds one metadata, and its head is read without the schema.
use Rattle.std.proofs.Common.{◌≡◌, ℕ, ◌^◌, ◌<◌, ◌≤◌, Bool, true, false, nat_eq, if◌then◌else◌, List, [], ◌∷◌, length, map, Option, Ok, Err, Result, IfOk, refl, sym, ap, ◌∙◌, subst, arith}
use Rattle.std.specs.Bool.{beq}
use Rattle.std.specs.List.{All}
use Rattle.std.proofs.lemmas.Bool.{true≢false, eqb-true}
use Rattle.std.proofs.lemmas.List.{length-map}
use Rattle.std.proofs.lemmas.Result.{IfOk-weaker}
use Rattle.ts_base.specs.declared.keys.FragKey.{FragKey}
use Rattle.ts_base.specs.declared.heads.Head.{Head}
use Rattle.ts_domain.specs.Dims.{IsSoundDim}
use Rattle.ts_wire.specs.declared.faults.ReadFault.{ReadFault}
use Rattle.ts_wire.specs.declared.faults.ReadFault.TheVariants as fault
use Rattle.ts_wire.specs.declared.kinds.Kind.TheVariants as kind
use Rattle.ts_wire.specs.Place.{Place, Read, place, ◌>>=◌, mapped, both, whole}
use Rattle.ts_wire.specs.Exact.{IsBytes, EachFits}
use Rattle.ts_wire.specs.Reading.{DecodesOr, IsRead, IsDamagedAt}
use Rattle.ts_wire.specs.Envelope.{wrapped, unwrapped, IsCut, object_at}
use Rattle.ts_wire.proofs.Laws.{same_ok, same_err, not_both, bound, goes_on}
use Rattle.ts_wire.proofs.Objects.{object_found, object_only, unwrapped_cut, length-wrapped}
use Rattle.ts_schema.specs.declared.attrs.Attr.{Attr}
use Rattle.ts_schema.specs.declared.frames.Frame.{Frame}
use Rattle.ts_rtree.specs.Trees.{Rooted}
use Rattle.ts_plain.specs.declared.stored.Side.{Side}
use Rattle.ts_plain.specs.declared.stored.StoredHead.{StoredHead}
use Rattle.ts_plain.specs.Rules.{volume, may_hold, counted}
use Rattle.ts_plain.specs.Plain.{head_by}
use Rattle.ts_plain.specs.Pieces.{head_of, BreaksSo}
use Rattle.ts_plain.specs.Writes.{sides_of}
use Rattle.ts_plain.proofs.Volumes.{counted_whole}
use Rattle.ts_footer.specs.declared.columns.ColumnForm.{ColumnForm}
use Rattle.ts_footer.specs.declared.columns.ColumnForm.TheVariants.{Fixed, Var}
use Rattle.ts_footer.specs.declared.columns.ColumnSize.{ColumnSize}
use Rattle.ts_footer.specs.declared.footers.Footer.{Footer}
use Rattle.ts_footer.specs.declared.metas.Meta.{Meta}
use Rattle.ts_footer.specs.declared.tilings.Tiling.{Tiling}
use Rattle.ts_footer.specs.declared.tilings.Tiling.TheVariants.{Sparse, Dense}
use Rattle.ts_footer.specs.Columns.{FitsSize}
use Rattle.ts_footer.specs.Tilings.{tiling_of, full_in, forms_in}
use Rattle.ts_footer.specs.Footers.{laid_tiles_at, laid_footer_at, laid_footer_stored, laid_head_stored, footer_stored, footer_bytes, FitsLaidFooter, FitsFooter}
use Rattle.ts_footer.specs.Metas.{some_before, starts_of, meta_of, laid_meta_in, laid_head_in, meta_in, head_in, meta_by, IsLaidMetaObject, IsMetaObject, IsMetaObjectBy, HasEach, sizes_for, footer_for, footer_by, HasMetaObjectBy, IsWritable}
use Rattle.ts_footer.proofs.FooterReads.{sides_hull, some_cell, total_some}
use Rattle.ts_footer.proofs.FooterExact.{footer_exact}

-- ---- one object, one metadata

-- what fits and is spelled is read
pub laid_again : (tiling : Tiling) (frame : Frame) (attrs : List Attr) (frag : FragKey) (stored : Footer) → FitsLaidFooter tiling frame attrs frag stored → length (footer_bytes stored) < 2 ^ 64
    → laid_footer_stored tiling frame attrs frag (wrapped kind.Meta (footer_bytes stored)) ≡ Ok stored
unfolding laid_footer_stored
laid_again tiling frame attrs frag stored fits few = object_only (footer_exact tiling frame attrs frag) kind.Meta stored few fits

-- what is read fits, and the object is its spelling
pub laid_found : (tiling : Tiling) (frame : Frame) (attrs : List Attr) (frag : FragKey) (object : List ℕ) (footer : Footer) → IsBytes object → length object < 2 ^ 64 → laid_footer_stored tiling frame attrs frag object ≡ Ok footer
    → FitsLaidFooter tiling frame attrs frag footer × (object ≡ wrapped kind.Meta (footer_bytes footer)) × (length (footer_bytes footer) < 2 ^ 64)
unfolding laid_footer_stored
laid_found tiling frame attrs frag object footer all few read =
    let was = object_found (footer_exact tiling frame attrs frag) kind.Meta object footer all read in
    let room : length (footer_bytes footer) < 2 ^ 64 = omega (arith, few, ap length was.1, length-wrapped kind.Meta (footer_bytes footer)) in
    (was.0, was.1, room)

object_again : (tiling : Tiling) (frame : Frame) (attrs : List Attr) (m : Meta) (bytes : List ℕ) → (is : IsLaidMetaObject tiling frame attrs m bytes) → laid_footer_stored tiling frame attrs m.head.frag bytes ≡ Ok is.stored
object_again tiling frame attrs m bytes is = ap (laid_footer_stored tiling frame attrs m.head.frag) is.spelled ∙ laid_again tiling frame attrs m.head.frag is.stored is.fits is.few

-- the object of metadata is read as that metadata
pub laid_meta_again : (tiling : Tiling) (frame : Frame) (attrs : List Attr) (m : Meta) (bytes : List ℕ) → IsLaidMetaObject tiling frame attrs m bytes → laid_meta_in tiling frame attrs m.head.frag bytes ≡ Ok m
unfolding laid_meta_in
laid_meta_again tiling frame attrs m bytes is =
    goes_on (laid_footer_stored tiling frame attrs m.head.frag bytes) (λ stored. Ok (meta_of m.head.frag stored)) is.stored (Ok m) (object_again tiling frame attrs m bytes is) (ap Ok (sym is.same))

-- what is read is the metadata that the object holds, under its name
pub laid_meta_found : (tiling : Tiling) (frame : Frame) (attrs : List Attr) (frag : FragKey) (bytes : List ℕ) (m : Meta) → IsBytes bytes → length bytes < 2 ^ 64
    → laid_meta_in tiling frame attrs frag bytes ≡ Ok m → IsLaidMetaObject tiling frame attrs m bytes × (m.head.frag ≡ frag)
unfolding laid_meta_in meta_of head_of
laid_meta_found tiling frame attrs frag bytes m all few h =
    let step = bound (laid_footer_stored tiling frame attrs frag bytes) (λ stored. Ok (meta_of frag stored)) m h in
    let was = laid_found tiling frame attrs frag bytes step.first all few step.was in
    let same : meta_of frag step.first ≡ m = same_ok (Ok (meta_of frag step.first)) (meta_of frag step.first) m refl step.next in
    let P : Meta → Type 0 = λ n. IsLaidMetaObject tiling frame attrs n bytes × (n.head.frag ≡ frag) in
    subst P same (record { stored = step.first; fits = was.0; few = was.2; spelled = was.1; same = refl }, refl)

-- ---- the head, read without the schema

-- a step behind a fault fails so
stays : {A B : Type 0} (r : Result A ℕ) (f : A → Result B ℕ) (at : ℕ) → r ≡ Err at → r >>= f ≡ Err at
stays r f at h = ap (λ q. q >>= f) h

-- the parts of what is stored
abbrev Parts : Type 0
Parts = StoredHead × (ℕ × (List ColumnSize × Option Rooted))

abbrev footer_from : Parts → Footer
footer_from x = record { head = x.0; tiles = x.1.0; sizes = x.1.1.0; tree = x.1.1.1 }

-- the parts of a value that was read whole, the first of which stands at the place
record Whole {A B C : Type 0} (read : Place → Read A) (f : A × B → C) (p : Place) (z : C) : Type 0 where
  parts : A × B
  behind : Place
  first : read p ≡ Ok (parts.0, behind)
  made : f parts ≡ z

module _ {A B C : Type 0} (read : Place → Read A) (next : A → Place → Read B) (f : A × B → C) (p : Place) where
  -- the steps of reading a value of two parts whole
  abbrev pair_of : A × Place → B × Place → Read (A × B)
  pair_of a b = Ok ((a.0, b.0), b.1)

  abbrev then_next : A × Place → Read (A × B)
  then_next a = next a.0 a.1 >>= pair_of a

  abbrev made_of : (A × B) × Place → Read C
  made_of x = Ok (f x.0, x.1)

  abbrev end_of : C × Place → Result C ℕ
  end_of x = if nat_eq (length x.1.rest) 0 then Ok x.0 else Err x.1.at

  -- where the first part is broken, the whole is broken there
  front_broken : (at : ℕ) → read p ≡ Err at → whole (mapped f (both read next)) p ≡ Err at
  front_broken at was = ap (λ r. ((r >>= then_next) >>= made_of) >>= end_of) was

  end_ok : (y : C × Place) (z : C) (b : Bool) → (if b then Ok y.0 else Err y.1.at) ≡ Ok z → y.0 ≡ z
  end_ok y z true e = same_ok (Ok y.0) y.0 z refl e
  end_ok y z false e = absurd (not_both (Err y.1.at) z y.1.at e refl)

  by_second : (a : A × Place) (z : C) (r : Read B) → read p ≡ Ok a → (((r >>= pair_of a) >>= made_of) >>= end_of) ≡ Ok z → Whole read f p z
  by_second a z (Ok b) was e = record { parts = (a.0, b.0); behind = a.1; first = was; made = end_ok (f (a.0, b.0), b.1) z (nat_eq (length b.1.rest) 0) e }
  by_second a z (Err at) was e = absurd (not_both (Err at) z at e refl)

  by_first : (z : C) (r : Read A) → read p ≡ r → (((r >>= then_next) >>= made_of) >>= end_of) ≡ Ok z → Whole read f p z
  by_first z (Ok a) was e = by_second a z (next a.0 a.1) was e
  by_first z (Err at) was e = absurd (not_both (Err at) z at e refl)

  -- a value that is read whole has its first part at the place
  front_read : (z : C) → whole (mapped f (both read next)) p ≡ Ok z → Whole read f p z
  front_read z h = by_first z (read p) refl h

-- where a field of the head is broken, the whole object is broken there, whatever the attributes are
head_broken : (tiling : Tiling) (frame : Frame) (attrs : List Attr) (frag : FragKey) (object : List ℕ) (at : ℕ) → laid_head_stored tiling frame frag object ≡ Err at → laid_footer_stored tiling frame attrs frag object ≡ Err at
unfolding laid_head_stored laid_footer_stored laid_footer_at object_at
head_broken tiling frame attrs frag object at h = by_body (unwrapped kind.Meta object) h
  where
    by_head : (r : Read StoredHead) → (r >>= λ x. Ok x.0) ≡ Err at → r ≡ Err at
    by_head (Ok x) e = absurd (not_both (Ok x.0) x.0 at refl e)
    by_head (Err there) e = let same : there ≡ at = cc in ap Err same

    by_body : (r : Result (List ℕ) ℕ) → (r >>= λ body. head_by (full_in tiling frame.dense) frame frag (place body 14) >>= λ x. Ok x.0) ≡ Err at → (r >>= λ body. whole (laid_footer_at tiling frame attrs frag) (place body 14)) ≡ Err at
    by_body (Ok body) e = front_broken (head_by (full_in tiling frame.dense) frame frag) (laid_tiles_at tiling frame attrs) footer_from (place body 14) at (by_head (head_by (full_in tiling frame.dense) frame frag (place body 14)) e)
    by_body (Err there) e = let same : there ≡ at = cc in ap Err same

-- where the whole object is read, so is its head, whatever the attributes are
head_read : (tiling : Tiling) (frame : Frame) (attrs : List Attr) (frag : FragKey) (object : List ℕ) (stored : Footer) → laid_footer_stored tiling frame attrs frag object ≡ Ok stored → laid_head_stored tiling frame frag object ≡ Ok stored.head
unfolding laid_head_stored laid_footer_stored laid_footer_at object_at
head_read tiling frame attrs frag object stored h =
    let body = bound (unwrapped kind.Meta object) (λ body. whole (laid_footer_at tiling frame attrs frag) (place body 14)) stored h in
    let front = front_read (head_by (full_in tiling frame.dense) frame frag) (laid_tiles_at tiling frame attrs) footer_from (place body.first 14) stored body.next in
    goes_on (unwrapped kind.Meta object) (λ b. head_by (full_in tiling frame.dense) frame frag (place b 14) >>= λ x. Ok x.0) body.first (Ok stored.head) body.was
    (goes_on (head_by (full_in tiling frame.dense) frame frag (place body.first 14)) (λ x. Ok x.0) (front.parts.0, front.behind) (Ok stored.head) front.first (ap (λ s. Ok s.head) front.made))

-- ---- what is written again

-- the sides of the corners of a hull are those of the hull
hull_back : (hull : List Side) → sides_of (map (λ side. side.low) hull) (map (λ side. side.high) hull) ≡ hull
hull_back [] = refl
hull_back (side ∷ hull) = ap (λ sides. side ∷ sides) (hull_back hull)

-- what is known of what is said of each object
record AreBack (forms : List ColumnForm) (sizes : List ColumnSize) : Type 0 where
  each : HasEach forms (map (λ size. size.length) sizes) (starts_of sizes)
  same : sizes_for forms (map (λ size. size.length) sizes) (starts_of sizes) ≡ sizes

-- starts that are some stay
some_kept : (starts : List ℕ) (others : List (List ℕ)) → 1 ≤ length starts → some_before starts others ≡ starts ∷ others
some_kept [] others some = absurd (omega arith)
some_kept (s ∷ starts) others some = refl

sizes_back : (cells tiles : ℕ) (forms : List ColumnForm) (sizes : List ColumnSize) → 1 ≤ tiles → EachFits (FitsSize cells tiles) forms sizes → AreBack forms sizes
sizes_back cells tiles [] [] some fits = record { each = tt; same = refl }
sizes_back cells tiles [] (size ∷ sizes) some fits = absurd fits
sizes_back cells tiles (form ∷ forms) [] some fits = absurd fits
sizes_back cells tiles (Fixed width ∷ forms) (size ∷ sizes) some (first, others) =
    let rest = sizes_back cells tiles forms sizes some others in
    let lengths = map (λ (s : ColumnSize). s.length) sizes in
    let starts : some_before size.starts (starts_of sizes) ≡ starts_of sizes = ap (λ s. some_before s (starts_of sizes)) first.keeps.1 in
    record {
      each = subst (HasEach forms lengths) (sym starts) rest.each;
      same = ap (λ s. record { length = size.length; starts = [] } ∷ sizes_for forms lengths s) starts ∙ ap (λ ss. record { length = size.length; starts = [] } ∷ ss) rest.same
          ∙ ap (λ s. record { length = size.length; starts = s } ∷ sizes) (sym first.keeps.1);
    }
sizes_back cells tiles (Var ∷ forms) (size ∷ sizes) some (first, others) =
    let rest = sizes_back cells tiles forms sizes some others in
    let lengths = map (λ (s : ColumnSize). s.length) sizes in
    let long : 1 ≤ length size.starts = subst (λ n. 1 ≤ n) (sym first.keeps.many) some in
    let starts = some_kept size.starts (starts_of sizes) long in
    record {
      each = subst (HasEach (Var ∷ forms) (size.length ∷ lengths)) (sym starts) rest.each;
      same = ap (sizes_for (Var ∷ forms) (size.length ∷ lengths)) starts ∙ ap (λ ss. size ∷ ss) rest.same;
    }

-- the objects of the fragment with this metadata
abbrev forms_for : Tiling → Frame → List Attr → Meta → List ColumnForm
forms_for tiling frame attrs m = forms_in tiling frame attrs m.head.consolidated

-- metadata that fits has tiles
has_tiles : (tiling : Tiling) (frame : Frame) (attrs : List Attr) (frag : FragKey) (footer : Footer) → All IsSoundDim frame.domain → FitsLaidFooter tiling frame attrs frag footer → 1 ≤ footer.tiles
has_tiles tiling frame attrs frag footer sound fits =
    let hull = sides_hull frame.domain footer.head.hull sound fits.head.hull in
    let some = some_cell (full_in tiling frame.dense) frame frag footer.head fits.head in
    subst (λ n. 1 ≤ n) (sym fits.tiles) (total_some tiling frame footer.head sound hull some)

-- a head whose fields keep their rules, by the kind of the array, tells of as many cells as it stores
told_by : (any dense consolidated : Bool) (hull : List Side) (cells : ℕ) → beq any dense ≡ true → may_hold (full_in (if any then Dense else Sparse) any consolidated) hull cells ≡ true → cells < 2 ^ 64
    → counted dense hull cells ≡ cells
told_by false false consolidated hull cells kind held room = refl
told_by false true consolidated hull cells kind held room = absurd (true≢false (sym kind))
told_by true false consolidated hull cells kind held room = absurd (true≢false (sym kind))
told_by true true consolidated hull cells kind held room = counted_whole hull cells (eqb-true cells (volume hull) held) room

-- what is stored of the metadata that an object holds is what the object stores
footer_back : (frame : Frame) (attrs : List Attr) (frag : FragKey) (footer : Footer) → All IsSoundDim frame.domain → FitsLaidFooter (tiling_of frame) frame attrs frag footer
    → footer_for (forms_for (tiling_of frame) frame attrs (meta_of frag footer)) (meta_of frag footer) ≡ footer
unfolding meta_of head_of
footer_back frame attrs frag footer sound fits =
    let tiling = tiling_of frame in
    let head = footer.head in
    let hull = hull_back head.hull in
    let told = told_by frame.dense head.dense head.consolidated head.hull head.cells (fits.head).kind (fits.head).as_many (fits.head).cells in
    let sizes = sizes_back head.cells footer.tiles (forms_in tiling frame attrs head.consolidated) footer.sizes (has_tiles tiling frame attrs frag footer sound fits) fits.sizes in
    λ i. record {
      head = record { schema = head.schema; dense = head.dense; consolidated = head.consolidated; hull = hull i; cells = told i; origins = head.origins };
      tiles = footer.tiles;
      sizes = sizes.same i;
      tree = footer.tree;
    }

footer_writable : (tiling : Tiling) (frame : Frame) (attrs : List Attr) (frag : FragKey) (footer : Footer) → All IsSoundDim frame.domain → FitsLaidFooter tiling frame attrs frag footer
    → IsWritable (forms_for tiling frame attrs (meta_of frag footer)) (meta_of frag footer)
unfolding meta_of head_of
footer_writable tiling frame attrs frag footer sound fits =
    let head = footer.head in
    let sizes = sizes_back head.cells footer.tiles (forms_in tiling frame attrs head.consolidated) footer.sizes (has_tiles tiling frame attrs frag footer sound fits) fits.sizes in
    record {
      corners = length-map head.hull (λ (side : Side). side.high) ∙ sym (length-map head.hull (λ (side : Side). side.low));
      few = fits.head.few_origins;
      objects = sizes.each;
    }

-- metadata that some object holds can be written
pub is_writable : (tiling : Tiling) (frame : Frame) (attrs : List Attr) (m : Meta) (bytes : List ℕ) → All IsSoundDim frame.domain → IsLaidMetaObject tiling frame attrs m bytes
    → IsWritable (forms_for tiling frame attrs m) m
is_writable tiling frame attrs m bytes sound is =
    subst (λ n. IsWritable (forms_for tiling frame attrs n) n) (sym is.same) (footer_writable tiling frame attrs m.head.frag is.stored sound is.fits)

-- what is stored of it is what each object that holds it stores
stored_one : (frame : Frame) (attrs : List Attr) (m : Meta) (bytes : List ℕ) → All IsSoundDim frame.domain → IsMetaObjectBy frame attrs m bytes
    → wrapped kind.Meta (footer_bytes (footer_by frame attrs m)) ≡ bytes
stored_one frame attrs m bytes sound is =
    let same : footer_by frame attrs m ≡ is.stored = ap (λ n. footer_by frame attrs n) is.same ∙ footer_back frame attrs m.head.frag is.stored sound is.fits in
    ap (λ stored. wrapped kind.Meta (footer_bytes stored)) same ∙ sym is.spelled

-- ---- what the calls say

-- an answer that is that of a value is the value
answered : {A : Type 0} (answer : Result A ℕ) (x : A) (result : Result A ReadFault) → answer ≡ Ok x → DecodesOr (λ y. y) answer result → IsRead (λ y. y) x result
answered answer x (Ok found) was h = same_ok answer found x h was
answered answer x (Err (fault.Damaged damaged)) was h = not_both answer x damaged.at was h
answered answer x (Err fault.OutOfMemory) was h = tt

pub stored_fits : (tiling : Tiling) (frame : Frame) (attrs : List Attr) (frag : FragKey) (object : List ℕ) (result : Result Footer ReadFault) → IsBytes object → length object < 2 ^ 64
    → DecodesOr (λ footer. footer) (laid_footer_stored tiling frame attrs frag object) result → IfOk result (FitsLaidFooter tiling frame attrs frag)
stored_fits tiling frame attrs frag object (Ok footer) all few h = (laid_found tiling frame attrs frag object footer all few h).0
stored_fits tiling frame attrs frag object (Err e) all few h = tt

pub stored_spells : (tiling : Tiling) (frame : Frame) (attrs : List Attr) (frag : FragKey) (object : List ℕ) (result : Result Footer ReadFault) → IsBytes object → length object < 2 ^ 64
    → DecodesOr (λ footer. footer) (laid_footer_stored tiling frame attrs frag object) result → IfOk result (λ footer. object ≡ wrapped kind.Meta (footer_bytes footer))
stored_spells tiling frame attrs frag object (Ok footer) all few h = (laid_found tiling frame attrs frag object footer all few h).1
stored_spells tiling frame attrs frag object (Err e) all few h = tt

pub found_in : (tiling : Tiling) (frame : Frame) (attrs : List Attr) (frag : FragKey) (object : List ℕ) (result : Result Meta ReadFault) → IsBytes object → length object < 2 ^ 64
    → DecodesOr (λ m. m) (laid_meta_in tiling frame attrs frag object) result → IfOk result (λ m. IsLaidMetaObject tiling frame attrs m object × (m.head.frag ≡ frag))
found_in tiling frame attrs frag object (Ok m) all few h = laid_meta_found tiling frame attrs frag object m all few h
found_in tiling frame attrs frag object (Err e) all few h = tt

pub writable_in : (tiling : Tiling) (frame : Frame) (attrs : List Attr) (frag : FragKey) (object : List ℕ) (result : Result Meta ReadFault) → All IsSoundDim frame.domain → IsBytes object → length object < 2 ^ 64
    → DecodesOr (λ m. m) (laid_meta_in tiling frame attrs frag object) result → IfOk result (λ m. IsWritable (forms_for tiling frame attrs m) m)
writable_in tiling frame attrs frag object (Ok m) sound all few h = is_writable tiling frame attrs m object sound (laid_meta_found tiling frame attrs frag object m all few h).0
writable_in tiling frame attrs frag object (Err e) sound all few h = tt

-- what is spelled is read
pub only_in : (tiling : Tiling) (frame : Frame) (attrs : List Attr) (m : Meta) (frag : FragKey) (object : List ℕ) (result : Result Meta ReadFault) → m.head.frag ≡ frag
    → IsLaidMetaObject tiling frame attrs m object → DecodesOr (λ p. p) (laid_meta_in tiling frame attrs frag object) result → IsRead (λ p. p) m result
only_in tiling frame attrs m frag object result named is h =
    answered (laid_meta_in tiling frame attrs frag object) m result (ap (λ f. laid_meta_in tiling frame attrs f object) (sym named) ∙ laid_meta_again tiling frame attrs m object is) h

-- the head of what is spelled is read
head_again : (tiling : Tiling) (frame : Frame) (attrs : List Attr) (m : Meta) (bytes : List ℕ) → IsLaidMetaObject tiling frame attrs m bytes → laid_head_in tiling frame m.head.frag bytes ≡ Ok m.head
unfolding laid_head_in meta_of
head_again tiling frame attrs m bytes is =
    let frag = m.head.frag in
    let same : head_of frag is.stored.head ≡ m.head = sym (ap (λ q. q.head) is.same) in
    goes_on (laid_head_stored tiling frame frag bytes) (λ head. Ok (head_of frag head)) is.stored.head (Ok m.head) (head_read tiling frame attrs frag bytes is.stored (object_again tiling frame attrs m bytes is)) (ap Ok same)

pub laid_only_head : (tiling : Tiling) (frame : Frame) (attrs : List Attr) (m : Meta) (frag : FragKey) (object : List ℕ) (result : Result Head ReadFault) → m.head.frag ≡ frag
    → IsLaidMetaObject tiling frame attrs m object → DecodesOr (λ p. p) (laid_head_in tiling frame frag object) result → IsRead (λ p. p) m.head result
laid_only_head tiling frame attrs m frag object result named is h =
    answered (laid_head_in tiling frame frag object) m.head result (ap (λ f. laid_head_in tiling frame f object) (sym named) ∙ head_again tiling frame attrs m object is) h

-- what is broken in the head is broken in the whole, whatever the attributes are
pub laid_broken_head : (tiling : Tiling) (frame : Frame) (attrs : List Attr) (frag : FragKey) (object : List ℕ) (result : Result Head ReadFault)
    → DecodesOr (λ p. p) (laid_head_in tiling frame frag object) result → BreaksSo (laid_meta_in tiling frame attrs frag object) result
unfolding laid_head_in laid_meta_in
laid_broken_head tiling frame attrs frag object (Ok found) h = tt
laid_broken_head tiling frame attrs frag object (Err fault.OutOfMemory) h = tt
laid_broken_head tiling frame attrs frag object (Err (fault.Damaged damaged)) h =
    stays (laid_footer_stored tiling frame attrs frag object) (λ stored. Ok (meta_of frag stored)) damaged.at (head_broken tiling frame attrs frag object damaged.at (by_head (laid_head_stored tiling frame frag object) h))
  where
    by_head : (r : Result StoredHead ℕ) → (r >>= λ head. Ok (head_of frag head)) ≡ Err damaged.at → r ≡ Err damaged.at
    by_head (Ok head) e = absurd (not_both (Ok (head_of frag head)) _ damaged.at refl e)
    by_head (Err there) e = let same : there ≡ damaged.at = cc in ap Err same

-- metadata that some object holds is written as that object
pub one_meta : {E : Type 0} (frame : Frame) (attrs : List Attr) (m : Meta) (object : List ℕ) (result : Result (List ℕ) E) → All IsSoundDim frame.domain → IsMetaObjectBy frame attrs m object
    → IfOk result (λ bytes. bytes ≡ wrapped kind.Meta (footer_bytes (footer_by frame attrs m))) → IfOk result (λ bytes. bytes ≡ object)
one_meta frame attrs m object result sound is =
    IfOk-weaker result (λ bytes. bytes ≡ wrapped kind.Meta (footer_bytes (footer_by frame attrs m))) (λ bytes. bytes ≡ object)
    (λ bytes h. h ∙ stored_one frame attrs m object sound is)

-- so it gives such an object
pub meta_written : {E : Type 0} (frame : Frame) (attrs : List Attr) (m : Meta) (result : Result (List ℕ) E) → All IsSoundDim frame.domain → HasMetaObjectBy frame attrs m
    → IfOk result (λ bytes. bytes ≡ wrapped kind.Meta (footer_bytes (footer_by frame attrs m))) → IfOk result (IsMetaObjectBy frame attrs m)
meta_written frame attrs m result sound has written =
    IfOk-weaker result (λ bytes. bytes ≡ has.bytes) (IsMetaObjectBy frame attrs m) (λ bytes h. subst (IsMetaObjectBy frame attrs m) (sym h) has.spelled)
    (one_meta frame attrs m has.bytes result sound has.spelled written)

-- what is written so is read again
pub meta_undone : {E : Type 0} (frame : Frame) (attrs : List Attr) (m : Meta) (result : Result (List ℕ) E) → All IsSoundDim frame.domain → HasMetaObjectBy frame attrs m
    → IfOk result (λ bytes. bytes ≡ wrapped kind.Meta (footer_bytes (footer_by frame attrs m))) → IfOk result (λ bytes. meta_by frame attrs m.head.frag bytes ≡ Ok m)
meta_undone frame attrs m result sound has written =
    IfOk-weaker result (IsMetaObjectBy frame attrs m) (λ bytes. meta_by frame attrs m.head.frag bytes ≡ Ok m) (λ bytes is. laid_meta_again (tiling_of frame) frame attrs m bytes is)
    (meta_written frame attrs m result sound has written)

-- an object that is cut behind its envelope is broken at its length
pub cut_in : (tiling : Tiling) (frame : Frame) (attrs : List Attr) (frag : FragKey) (object body : List ℕ) (result : Result Meta ReadFault) → DecodesOr (λ m. m) (laid_meta_in tiling frame attrs frag object) result
    → length body < 2 ^ 64 → IsCut 14 (wrapped kind.Meta body) object → IsDamagedAt 6 result
unfolding laid_meta_in laid_footer_stored object_at
cut_in tiling frame attrs frag object body result h few cut = broken result (stays (laid_footer_stored tiling frame attrs frag object) (λ footer. Ok (meta_of frag footer)) 6 short) h
  where
    short : laid_footer_stored tiling frame attrs frag object ≡ Err 6
    short = stays (unwrapped kind.Meta object) (λ b. whole (laid_footer_at tiling frame attrs frag) (place b 14)) 6 (unwrapped_cut kind.Meta body object few cut)

    broken : (r : Result Meta ReadFault) → laid_meta_in tiling frame attrs frag object ≡ Err 6 → DecodesOr (λ m. m) (laid_meta_in tiling frame attrs frag object) r → IsDamagedAt 6 r
    broken (Ok m) was k = absurd (not_both (laid_meta_in tiling frame attrs frag object) m 6 k was)
    broken (Err (fault.Damaged damaged)) was k = same_err (laid_meta_in tiling frame attrs frag object) damaged.at 6 k was
    broken (Err fault.OutOfMemory) was k = tt

-- ---- where coordinates are stored

-- what fits and is spelled is read
pub stored_again : (frame : Frame) (attrs : List Attr) (frag : FragKey) (stored : Footer) → FitsFooter frame attrs frag stored → length (footer_bytes stored) < 2 ^ 64
    → footer_stored frame attrs frag (wrapped kind.Meta (footer_bytes stored)) ≡ Ok stored
stored_again frame attrs frag stored fits few = laid_again Sparse frame attrs frag stored fits few

-- what is read fits, and the object is its spelling
pub stored_found : (frame : Frame) (attrs : List Attr) (frag : FragKey) (object : List ℕ) (footer : Footer) → IsBytes object → length object < 2 ^ 64 → footer_stored frame attrs frag object ≡ Ok footer
    → FitsFooter frame attrs frag footer × (object ≡ wrapped kind.Meta (footer_bytes footer)) × (length (footer_bytes footer) < 2 ^ 64)
stored_found frame attrs frag object footer all few read = laid_found Sparse frame attrs frag object footer all few read

-- the object of metadata is read as that metadata
pub meta_again : (frame : Frame) (attrs : List Attr) (m : Meta) (bytes : List ℕ) → IsMetaObject frame attrs m bytes → meta_in frame attrs m.head.frag bytes ≡ Ok m
meta_again frame attrs m bytes is = laid_meta_again Sparse frame attrs m bytes is

-- what is read is the metadata that the object holds, under its name
pub meta_found : (frame : Frame) (attrs : List Attr) (frag : FragKey) (bytes : List ℕ) (m : Meta) → IsBytes bytes → length bytes < 2 ^ 64
    → meta_in frame attrs frag bytes ≡ Ok m → IsMetaObject frame attrs m bytes × (m.head.frag ≡ frag)
meta_found frame attrs frag bytes m all few h = laid_meta_found Sparse frame attrs frag bytes m all few h

-- the head of what is spelled is read
pub only_head : (frame : Frame) (attrs : List Attr) (m : Meta) (frag : FragKey) (object : List ℕ) (result : Result Head ReadFault) → m.head.frag ≡ frag
    → IsMetaObject frame attrs m object → DecodesOr (λ p. p) (head_in frame frag object) result → IsRead (λ p. p) m.head result
only_head frame attrs m frag object result named is h = laid_only_head Sparse frame attrs m frag object result named is h

-- what is broken in the head is broken in the whole, whatever the attributes are
pub broken_head : (frame : Frame) (attrs : List Attr) (frag : FragKey) (object : List ℕ) (result : Result Head ReadFault)
    → DecodesOr (λ p. p) (head_in frame frag object) result → BreaksSo (meta_in frame attrs frag object) result
broken_head frame attrs frag object result h = laid_broken_head Sparse frame attrs frag object result h
