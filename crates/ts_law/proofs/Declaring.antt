-- What a create and an evolve make is sound, and what objects spell is read again.
use Rattle.std.proofs.Common.{◌≡◌, ℕ, ℤ, pos, ◌<◌, ◌≤◌, ◌^◌, Bool, true, false, not, ◌||◌, cond, nat_eq, nat_le, List, [], ◌∷◌, ◌++◌, length, drop, filter, Some, None, Ok, refl, sym, ap, ◌∙◌, arith}
use Rattle.std.specs.Prelude.{IsTrue, nat_lt, option_map, int_le, neg_ℤ}
use Rattle.std.specs.List.{All, list_all}
use Rattle.std.proofs.lemmas.Int.{ints}
use Rattle.std.proofs.lemmas.Bool.{and_parts, and_from, or_parts, ltb-true, le-leb, cond_both}
use Rattle.std.proofs.lemmas.List.{drop_at}
use Rattle.std.proofs.lemmas.List.Elements.{All-nil, All-cons, All-head, All-tail, All-append}
use Rattle.std.proofs.lemmas.Slice.Eq.{bytes_eq-Decides}
use Rattle.ts_base.specs.Labels.{is_label}
use Rattle.ts_base.specs.Values.{is_integer}
use Rattle.ts_value.specs.Fits.{fits_of}
use Rattle.ts_wire.specs.declared.kinds.Kind.{Kind}
use Rattle.ts_wire.specs.declared.kinds.Kind.TheVariants as kind
use Rattle.ts_wire.specs.Place.{place}
use Rattle.ts_wire.specs.Exact.{InTurn}
use Rattle.ts_wire.specs.Fields.{FitsVal}
use Rattle.ts_wire.specs.Envelope.{envelope_bytes, wrapped}
use Rattle.ts_wire.proofs.Objects.{length-envelope_bytes, length-wrapped, object_only}
use Rattle.ts_wire.proofs.Laws.{same_ok}
use Rattle.ts_domain.specs.declared.dims.Dim.{Dim}
use Rattle.ts_domain.specs.Dims.{IsBound, IsDim, domain_fault, has_name}
use Rattle.ts_schema.specs.declared.attrs.Attr.{Attr}
use Rattle.ts_schema.specs.declared.frames.Frame.{Frame}
use Rattle.ts_schema.specs.declared.evolution.Evolution.{Evolution}
use Rattle.ts_schema.specs.Attrs.{has_label, has_attr}
use Rattle.ts_schema.specs.Faults.{attr_fault, fault_behind, count_fault, schema_fault}
use Rattle.ts_schema.specs.Evolutions.{less_fault, without, evolved_attrs, evolution_fault}
use Rattle.ts_schema.specs.FrameTexts.{is_capacity, is_bound, frame_at, frame_bytes, frame_object, frame_of, IsFrame}
use Rattle.ts_schema.specs.SchemaTexts.{is_attr_count, attrs_bytes, schema_object, schema_of, FitsAttr, AreAttrs}
use Rattle.ts_schema.specs.Parts.{IsShort}
use Rattle.ts_schema.proofs.FrameLaws.{frame_exact}
use Rattle.ts_schema.proofs.SchemaLaws.{attrs_exact}
use Rattle.ts_model.specs.declared.commands.FrameIn.{FrameIn}
use Rattle.ts_model.specs.declared.commands.Command.TheVariants.{Create, Evolve}
use Rattle.ts_model.specs.declared.answers.Refusal.TheVariants as refusal
use Rattle.ts_model.specs.Commands.{frame_made, create_refusal, is_spelled_dim, is_spelled_attr, is_spelled_val, fits}
use Rattle.ts_model.specs.States.{is_own_frame}
use Rattle.ts_model.proofs.Spelled.{all_tested, neither, none_before, no_fault, spelled_fits}

-- ---- attributes

-- the name is a label, and the fill fits its field
abbrev pub IsSpelledAttr : Attr → Type 0
IsSpelledAttr a = IsTrue (is_label a.name) × FitsVal a.fill

-- an attribute that passes the test of its spelling has one
spelled_attr : (a : Attr) → is_spelled_attr a ≡ true → IsSpelledAttr a
spelled_attr a h = let parts = and_parts (is_label a.name) (is_spelled_val a.fill) h in (parts.0, spelled_fits a.fill parts.1)

-- where a choice between nothing and a fault gives nothing, its test was passed
passed : {A : Type 0} (b : Bool) (x : A) → cond b None (Some x) ≡ None → b ≡ true
passed true x e = refl
passed false x e = cc

-- an attribute without a fault fits behind those before it
attr_fits : (dims : List Dim) (front : List Attr) (a : Attr) → IsSpelledAttr a → attr_fault dims front a ≡ None → FitsAttr front a
attr_fits dims front a spelled none =
    let named = no_fault (has_attr front a.name || has_name dims a.name) _ _ none in
    record {
      label = spelled.0;
      new_name = ap not (or_parts (has_attr front a.name) (has_name dims a.name) named.0).0;
      value = spelled.1;
      fill = passed (fits_of a.ty a.nullable a.fill) _ named.1;
    }

-- attributes without a fault fit one behind the other
attrs_in_turn : (dims : List Dim) (front attrs : List Attr) → All IsSpelledAttr attrs → fault_behind dims front attrs ≡ None → InTurn FitsAttr front attrs
attrs_in_turn dims front [] spelled none = tt
attrs_in_turn dims front (a ∷ attrs) spelled none =
    let parts = neither (attr_fault dims front a) (fault_behind dims (front ++ a ∷ []) attrs) none in
    (attr_fits dims front a (All-head IsSpelledAttr a attrs spelled) parts.0, attrs_in_turn dims (front ++ a ∷ []) attrs (All-tail IsSpelledAttr a attrs spelled) parts.1)

-- a number without a fault is one that attributes can have
count_sound : (count : ℕ) → count_fault count ≡ None → is_attr_count count ≡ true
count_sound count none =
    let some = no_fault (nat_eq count 0) _ _ none in
    let few = no_fault (nat_lt 64 count) _ _ some.1 in
    let low : 1 ≤ count = grind (arith, some.0) in
    let high : count ≤ 64 = grind (arith, few.0) in
    and_from (nat_le 1 count) (nat_le count 64) (le-leb 1 count low) (le-leb count 64 high)

-- attributes without a fault, each with a spelling, are those of a schema
pub attrs_sound : (dims : List Dim) (attrs : List Attr) → All IsSpelledAttr attrs → schema_fault dims attrs ≡ None → AreAttrs attrs
attrs_sound dims attrs spelled none =
    let parts = neither (fault_behind dims [] attrs) (count_fault (length attrs)) none in
    record { count = count_sound (length attrs) parts.1; each = attrs_in_turn dims [] attrs spelled parts.0 }

-- ---- create

-- the parts of what a create that can be has, and is not refused for
record IsCreate (f : FrameIn) : Type 0 where
  some : 1 ≤ length f.dims
  dims : list_all is_spelled_dim f.dims ≡ true
  capacity : is_capacity f.capacity ≡ true
  attrs : list_all is_spelled_attr f.attrs ≡ true
  domain : domain_fault f.dims ≡ None
  schema : schema_fault f.dims f.attrs ≡ None

-- a create that can be, and is not refused, has all of these
is_create : (f : FrameIn) → IsTrue (fits (Create f)) → create_refusal f ≡ None → IsCreate f
is_create f can none =
    let first = and_parts (nat_lt 0 (length f.dims)) _ can in
    let second = and_parts (list_all is_spelled_dim f.dims) _ first.1 in
    let third = and_parts (is_capacity f.capacity) (list_all is_spelled_attr f.attrs) second.1 in
    let faults = neither (option_map refusal.DomainBad (domain_fault f.dims)) (option_map refusal.SchemaBad (schema_fault f.dims f.attrs)) none in
    record {
      some = ltb-true 0 (length f.dims) first.0;
      dims = second.0;
      capacity = third.0;
      attrs = third.1;
      domain = none_before refusal.DomainBad (domain_fault f.dims) faults.0;
      schema = none_before refusal.SchemaBad (schema_fault f.dims f.attrs) faults.1;
    }

-- a number that passes the test of a bound is one
bound_is : (z : ℤ) → is_bound z ≡ true → IsBound z
bound_is z h = let parts = and_parts (int_le (neg_ℤ (pos (2 ^ 64))) z) (int_le z (pos (2 ^ 64))) h in record { above = omega (arith, ints, parts.0); below = omega (arith, ints, parts.1) }

-- a dimension with a spelling has a label, and its numbers are in range
abbrev IsSpelledDim : Dim → Type 0
IsSpelledDim d = IsTrue (is_label d.name) × IsDim d

-- a dimension that passes the test of its spelling has one
spelled_dim : (d : Dim) → is_spelled_dim d ≡ true → IsSpelledDim d
spelled_dim d h =
    let first = and_parts (is_label d.name) _ h in
    let second = and_parts (is_integer d.ty) _ first.1 in
    let third = and_parts (is_bound d.low) _ second.1 in
    let fourth = and_parts (is_bound d.high) (is_bound d.extent) third.1 in
    (first.0, record { integer = second.0; low = bound_is d.low third.0; high = bound_is d.high fourth.0; extent = bound_is d.extent fourth.1 })

-- the frame of a create that is not refused is a frame
pub created_frame : (f : FrameIn) → IsTrue (fits (Create f)) → create_refusal f ≡ None → IsFrame (frame_made f)
created_frame f can none =
    let is = is_create f can none in
    record {
      capacity = is.capacity;
      labels = all_tested (λ (d : Dim). IsTrue (is_label d.name)) is_spelled_dim (λ d h. (spelled_dim d h).0) f.dims is.dims;
      domain = record { some = is.some; valid = all_tested IsDim is_spelled_dim (λ d h. (spelled_dim d h).1) f.dims is.dims; sound = is.domain };
    }

-- the attributes of a create that is not refused have no fault
pub created_sound : (f : FrameIn) → IsTrue (fits (Create f)) → create_refusal f ≡ None → schema_fault f.dims f.attrs ≡ None
created_sound f can none = (is_create f can none).schema

-- the attributes of a create that is not refused are those of a schema
pub created_attrs : (f : FrameIn) → IsTrue (fits (Create f)) → create_refusal f ≡ None → AreAttrs f.attrs
created_attrs f can none =
    let is = is_create f can none in
    attrs_sound f.dims f.attrs (all_tested IsSpelledAttr is_spelled_attr spelled_attr f.attrs is.attrs) is.schema

-- ---- evolve

-- attributes that fit one behind the other have a spelling
spelled_in_turn : (front attrs : List Attr) → InTurn FitsAttr front attrs → All IsSpelledAttr attrs
spelled_in_turn front [] each = All-nil IsSpelledAttr
spelled_in_turn front (a ∷ attrs) each = All-cons IsSpelledAttr a attrs (each.0.label, each.0.value) (spelled_in_turn (front ++ a ∷ []) attrs each.1)

-- what holds of each item holds of each that passes a test
kept_all : {A : Type 0} (P : A → Type 0) (test : A → Bool) (xs : List A) → All P xs → All P (filter test xs)
kept_all P test [] all = All-nil P
kept_all P test (x ∷ xs) all =
    let rest = kept_all P test xs (All-tail P x xs all) in
    cond_both (test x) (x ∷ filter test xs) (filter test xs) (All P) (λ _. All-cons P x (filter test xs) (All-head P x xs all) rest) (λ _. rest)

-- the attributes after a change that is not refused have no fault
pub evolved_sound : (dims : List Dim) (attrs : List Attr) (change : Evolution) → AreAttrs attrs → IsTrue (fits (Evolve change)) → evolution_fault dims attrs change ≡ None
    → schema_fault dims (evolved_attrs attrs change) ≡ None
evolved_sound dims attrs change are can none = (neither (less_fault attrs [] change.less) (schema_fault dims (evolved_attrs attrs change)) none).1

-- the attributes after a change that is not refused are those of a schema
pub evolved_are_attrs : (dims : List Dim) (attrs : List Attr) (change : Evolution) → AreAttrs attrs → IsTrue (fits (Evolve change)) → evolution_fault dims attrs change ≡ None
    → AreAttrs (evolved_attrs attrs change)
evolved_are_attrs dims attrs change are can none =
    attrs_sound dims (evolved_attrs attrs change)
    (All-append IsSpelledAttr (without change.less attrs) change.add
    (kept_all IsSpelledAttr (λ a. not (has_label change.less a.name)) attrs (spelled_in_turn [] attrs are.each))
    (all_tested IsSpelledAttr is_spelled_attr spelled_attr change.add can))
    (evolved_sound dims attrs change are can none)

-- ---- objects

-- the body of a short object is short
pub short_body : (k : Kind) (body : List ℕ) → IsShort (wrapped k body) → length body < 2 ^ 64
short_body k body short = let long = length-wrapped k body in omega (arith, short, long)

-- the object of a frame is read as that frame
pub frame_again : (frame : Frame) → IsFrame frame → IsShort (frame_object frame) → frame_of (frame_object frame) ≡ Ok frame
unfolding frame_of frame_object
frame_again frame is short = object_only frame_exact kind.Domain frame (short_body kind.Domain (frame_bytes frame) short) is

-- the object of a schema is read as its attributes
pub attrs_again : (attrs : List Attr) → AreAttrs attrs → IsShort (schema_object attrs) → schema_of (schema_object attrs) ≡ Ok attrs
unfolding schema_of schema_object
attrs_again attrs are short = object_only attrs_exact kind.Schema attrs (short_body kind.Schema (attrs_bytes attrs) short) are

-- objects of one kind that are equal have equal bodies
same_body : (k : Kind) (a b : List ℕ) → wrapped k a ≡ wrapped k b → a ≡ b
unfolding wrapped
same_body k a b same = sym (body a) ∙ ap (drop 14) same ∙ body b
  where
    body : (bs : List ℕ) → drop 14 (envelope_bytes k (length bs) ++ bs) ≡ bs
    body bs = drop_at (envelope_bytes k (length bs)) bs 14 (length-envelope_bytes k (length bs))

-- frames with one object are one
pub frame_one : (f g : Frame) → IsFrame f → IsFrame g → frame_object f ≡ frame_object g → f ≡ g
unfolding frame_object
frame_one f g is that same =
    let bodies = same_body kind.Domain (frame_bytes f) (frame_bytes g) same in
    let first = frame_exact.again f [] 0 is in
    let second = frame_exact.again g [] 0 that in
    ap (λ x. x.0) (same_ok (frame_at (place (frame_bytes g ++ []) 0)) _ _ (ap (λ bs. frame_at (place (bs ++ []) 0)) (sym bodies) ∙ first) second)

-- where a create takes the object of a frame for that of its own, the two frames are one
pub own_frame : (f : FrameIn) (g : Frame) (bytes : List ℕ) → IsFrame (frame_made f) → IsFrame g → bytes ≡ frame_object g → is_own_frame (Some f) bytes ≡ true → frame_made f ≡ g
own_frame f g bytes is that spelled own = frame_one (frame_made f) g is that ((bytes_eq-Decides (frame_object (frame_made f)) bytes).0 own ∙ spelled)
