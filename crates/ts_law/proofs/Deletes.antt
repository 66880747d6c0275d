-- The condition of a delete: the fields of an array are such as conditions name, and what a delete's text spells over them has an object.
use Rattle.std.proofs.Common.{◌≡◌, ℕ, suc, ◌+◌, ◌<◌, ◌≤◌, ◌^◌, Bool, true, false, not, ◌||◌, cond, nat_eq, nat_le, nat_lt, List, [], ◌∷◌, ◌++◌, length, length-append, Some, None, Ok, refl, sym, ap, subst, ◌∙◌, arith, append_assoc}
use Rattle.std.specs.Prelude.{IsTrue, Result, Err}
use Rattle.std.specs.List.{All, list_all}
use Rattle.std.specs.Ordering.{is_eq}
use Rattle.std.specs.Cmp.Lexicographic.{pointwise}
use Rattle.std.proofs.lemmas.Bool.{and_parts, or_parts, le-leb, leb-true, ltb-true}
use Rattle.std.proofs.lemmas.List.{append-nil, length-map}
use Rattle.std.proofs.lemmas.List.Elements.{All-head, All-tail}
use Rattle.std.proofs.lemmas.List.Folds.{list_any-append}
use Rattle.std.proofs.lemmas.Option.{same_Some}
use Rattle.ts_base.specs.declared.keys.Key.{Key}
use Rattle.ts_base.specs.declared.values.ValType.{ValType}
use Rattle.ts_base.specs.declared.values.ValType.TheVariants.{I8, I16, I32, I64, U8, U16, U32, U64, Text, Blob}
use Rattle.ts_base.specs.Labels.{is_label}
use Rattle.ts_base.specs.Values.{is_integer}
use Rattle.ts_value.specs.Fill.{fill_of}
use Rattle.ts_value.specs.Order.{val_cmp}
use Rattle.ts_wire.specs.Exact.{InTurn}
use Rattle.ts_wire.specs.Fields.{FitsVal}
use Rattle.ts_domain.specs.declared.dims.Dim.{Dim}
use Rattle.ts_domain.specs.Dims.{IsDim, has_name, is_empty_dim, has_bad_extent, is_past_type, fault_behind as dim_fault_behind, dim_fault}
use Rattle.ts_domain.proofs.DomainLemmas.{length-IsDomain}
use Rattle.ts_schema.specs.declared.attrs.Attr.{Attr}
use Rattle.ts_schema.specs.declared.frames.Frame.{Frame}
use Rattle.ts_schema.specs.declared.schemas.Schema.{Schema}
use Rattle.ts_schema.specs.Attrs.{has_attr}
use Rattle.ts_schema.specs.Faults.{attr_fault, fault_behind, schema_fault}
use Rattle.ts_schema.specs.FrameTexts.{IsFrame}
use Rattle.ts_schema.specs.SchemaTexts.{AreAttrs, FitsAttr}
use Rattle.ts_cond.specs.declared.fields.CondField.{CondField}
use Rattle.ts_cond.specs.declared.faults.CondFault.{CondFault}
use Rattle.ts_cond.specs.CondTexts.{AreFields, FitsField, IsCond, has_field}
use Rattle.ts_cond.specs.Machine.{parsed}
use Rattle.ts_cond.specs.Tests.{Condition}
use Rattle.ts_cond.proofs.ParsedLaws.{parsed_has_object}
use Rattle.ts_model.specs.declared.answers.Refusal.{Refusal}
use Rattle.ts_model.specs.declared.answers.Refusal.TheVariants as refusal
use Rattle.ts_model.specs.Commands.{is_byte, is_text}
use Rattle.ts_model.specs.Deeds.{History, IsHistory, frame_in, schema_with}
use Rattle.ts_model.specs.Queries.{attr_field, attr_fields, condition_in, dim_field, dim_fields, fields_in, or_refused, delete_condition}
use Rattle.ts_model.proofs.HistoryLaws.{frame_in-append, schema_follows, schema_with-is}
use Rattle.ts_model.proofs.Spelled.{bytes_tested, neither, no_fault}

-- ---- lists that fit one behind the other

-- more items fit behind those that do
InTurn-append : {A : Type 0} (Fits : List A → A → Type 0) (front xs ys : List A) → InTurn Fits front xs → InTurn Fits (front ++ xs) ys → InTurn Fits front (xs ++ ys)
InTurn-append Fits front [] ys first second = subst (λ l. InTurn Fits l ys) (append-nil front) second
InTurn-append Fits front (x ∷ xs) ys first second =
    (first.0, InTurn-append Fits (front ++ x ∷ []) xs ys first.1 (subst (λ l. InTurn Fits l ys) (sym (append_assoc front (x ∷ []) xs)) second))

-- ---- the fields of an array

-- a dimension's fill fits its field
fill_fits : (ty : ValType) → is_integer ty ≡ true → FitsVal (fill_of ty false)
fill_fits I8 is = omega arith
fill_fits I16 is = omega arith
fill_fits I32 is = omega arith
fill_fits I64 is = omega arith
fill_fits U8 is = omega arith
fill_fits U16 is = omega arith
fill_fits U32 is = omega arith
fill_fits U64 is = omega arith
fill_fits Text is = cc
fill_fits Blob is = cc

-- a dimension's fill is the default fill
fill_is : (ty : ValType) → is_eq (val_cmp (fill_of ty false) (fill_of ty false)) ≡ true
fill_is I8 = refl
fill_is I16 = refl
fill_is I32 = refl
fill_is I64 = refl
fill_is U8 = refl
fill_is U16 = refl
fill_is U32 = refl
fill_is U64 = refl
fill_is Text = refl
fill_is Blob = refl

-- the fields of dimensions have their names
dims_named : (place : ℕ) (dims : List Dim) (name : List ℕ) → has_field (dim_fields place dims) name ≡ has_name dims name
dims_named place [] name = refl
dims_named place (d ∷ dims) name = ap (λ b. pointwise nat_eq d.name name || b) (dims_named (suc place) dims name)

-- the fields of attributes have their names
attrs_named : (attrs : List Attr) (name : List ℕ) → has_field (attr_fields attrs) name ≡ has_attr attrs name
attrs_named [] name = refl
attrs_named (a ∷ attrs) name = ap (λ b. pointwise nat_eq a.name name || b) (attrs_named attrs name)

-- the fields of two lists of dimensions, one after the other
dim_fields-push : (place : ℕ) (front : List Dim) (d : Dim) → dim_fields place (front ++ d ∷ []) ≡ dim_fields place front ++ dim_field (place + length front) d ∷ []
dim_fields-push place [] d = ap (λ n. dim_field n d ∷ []) (omega arith)
dim_fields-push place (x ∷ front) d = ap (λ l. dim_field place x ∷ l) (dim_fields-push (suc place) front d ∙ ap (λ n. dim_fields (suc place) front ++ dim_field n d ∷ []) (omega arith))

-- there are as many fields as dimensions
length-dim_fields : (place : ℕ) (dims : List Dim) → length (dim_fields place dims) ≡ length dims
length-dim_fields place [] = refl
length-dim_fields place (d ∷ dims) = ap suc (length-dim_fields (suc place) dims)

-- a dimension without a fault has a new name
new_dim : (front : List Dim) (d : Dim) → dim_fault front d ≡ None → has_name front d.name ≡ false
new_dim front d none =
    let some = no_fault (is_empty_dim d) _ _ none in
    let tiled = no_fault (has_bad_extent d) _ _ some.1 in
    let typed = no_fault (is_past_type d) _ _ tiled.1 in
    (no_fault (has_name front d.name) _ _ typed.1).0

-- the field of a dimension fits behind those of the dimensions before it
dim_fits : (front : List Dim) (d : Dim) → length front < 8 → IsTrue (is_label d.name) → IsDim d → dim_fault front d ≡ None → FitsField (dim_fields 0 front) (dim_field (length front) d)
dim_fits front d few label is none = record {
  label = label;
  new_name = ap not (dims_named 0 front d.name ∙ new_dim front d none);
  index = le-leb (length front) 7 (omega (arith, few));
  type = is.integer;
  null = refl;
  value = fill_fits d.ty is.integer;
  default = fill_is d.ty;
}

-- the fields of dimensions fit one behind the other
dims_in_turn : (front dims : List Dim) → length front + length dims ≤ 8 → All (λ (d : Dim). IsTrue (is_label d.name)) dims → All IsDim dims → dim_fault_behind front dims ≡ None
    → InTurn FitsField (dim_fields 0 front) (dim_fields (length front) dims)
dims_in_turn front [] few labels are none = tt
dims_in_turn front (d ∷ dims) few labels are none =
    let parts = neither (dim_fault front d) (dim_fault_behind (front ++ d ∷ []) dims) none in
    let more : length (front ++ d ∷ []) ≡ suc (length front) = length-append front (d ∷ []) ∙ omega arith in (
      dim_fits front d (omega arith) (All-head (λ (d : Dim). IsTrue (is_label d.name)) d dims labels) (All-head IsDim d dims are) parts.0,
      subst (λ l. InTurn FitsField l (dim_fields (suc (length front)) dims)) (dim_fields-push 0 front d ∙ ap (λ n. dim_fields 0 front ++ dim_field n d ∷ []) (omega arith))
          (subst (λ n. InTurn FitsField (dim_fields 0 (front ++ d ∷ [])) (dim_fields n dims)) more
          (dims_in_turn (front ++ d ∷ []) dims (omega (arith, more, few)) (All-tail (λ (d : Dim). IsTrue (is_label d.name)) d dims labels) (All-tail IsDim d dims are) parts.1)),
    )

-- the fields that stand before an attribute's: those of the dimensions, and of the attributes before it
abbrev before_attr : List Dim → List Attr → List CondField
before_attr dims front = dim_fields 0 dims ++ attr_fields front

-- the field of an attribute fits behind those
attr_fits : (dims : List Dim) (front : List Attr) (a : Attr) → FitsAttr front a → attr_fault dims front a ≡ None → FitsField (before_attr dims front) (attr_field a)
attr_fits dims front a fits none =
    let names = or_parts (has_attr front a.name) (has_name dims a.name) (no_fault (has_attr front a.name || has_name dims a.name) _ _ none).0 in
    record {
      label = fits.label;
      new_name = ap not (list_any-append (λ (f : CondField). pointwise nat_eq f.name a.name) (dim_fields 0 dims) (attr_fields front)
          ∙ ap (λ b. b || has_field (attr_fields front) a.name) (dims_named 0 dims a.name ∙ names.1) ∙ attrs_named front a.name ∙ names.0);
      index = refl;
      type = refl;
      null = refl;
      value = fits.value;
      default = fits.fill;
    }

-- the fields of two lists of attributes, one after the other
attr_fields-push : (front : List Attr) (a : Attr) → attr_fields (front ++ a ∷ []) ≡ attr_fields front ++ attr_field a ∷ []
attr_fields-push [] a = refl
attr_fields-push (x ∷ front) a = ap (λ l. attr_field x ∷ l) (attr_fields-push front a)

-- the fields of attributes fit one behind the other, behind those of the dimensions
attrs_in_turn : (dims : List Dim) (front attrs : List Attr) → InTurn FitsAttr front attrs → fault_behind dims front attrs ≡ None → InTurn FitsField (before_attr dims front) (attr_fields attrs)
attrs_in_turn dims front [] are none = tt
attrs_in_turn dims front (a ∷ attrs) are none =
    let parts = neither (attr_fault dims front a) (fault_behind dims (front ++ a ∷ []) attrs) none in (
      attr_fits dims front a are.0 parts.0,
      subst (λ l. InTurn FitsField l (attr_fields attrs))
          (ap (λ l. dim_fields 0 dims ++ l) (attr_fields-push front a) ∙ sym (append_assoc (dim_fields 0 dims) (attr_fields front) (attr_field a ∷ [])))
          (attrs_in_turn dims (front ++ a ∷ []) attrs are.1 parts.1),
    )

module _ (frame : Frame) (attrs : List Attr) (is : IsFrame frame) (are : AreAttrs attrs) (sound : schema_fault frame.domain attrs ≡ None) where
  -- there are so few fields as conditions know
  fields_few : length (fields_in frame.domain attrs) ≤ 72
  fields_few =
      let dims = length-IsDomain frame.domain is.domain in
      let few = leb-true (length attrs) 64 (and_parts (nat_le 1 (length attrs)) (nat_le (length attrs) 64) are.count).1 in
      omega (arith, length-append (dim_fields 0 frame.domain) (attr_fields attrs), length-dim_fields 0 frame.domain, length-map attrs attr_field, dims, few)

  -- the fields of the array fit one behind the other
  fields_in_turn : InTurn FitsField [] (fields_in frame.domain attrs)
  fields_in_turn = InTurn-append FitsField [] (dim_fields 0 frame.domain) (attr_fields attrs)
      (dims_in_turn [] frame.domain (let few = length-IsDomain frame.domain is.domain in omega (arith, few)) is.labels (is.domain).valid (no_fault _ _ _ (is.domain).sound).1)
      (subst (λ l. InTurn FitsField l (attr_fields attrs)) (append-nil (dim_fields 0 frame.domain))
      (attrs_in_turn frame.domain [] attrs are.each (neither (fault_behind frame.domain [] attrs) _ sound).0))

  -- the fields of the array are such as conditions name
  pub fields_fit : AreFields (fields_in frame.domain attrs)
  fields_fit = record { count = fields_few; each = fields_in_turn }

-- ---- schemas and frames

-- the attributes of a schema have no fault beside the dimensions of the history's frame
pub schema_sound : (h : History) (k : Key) (s : Schema) (frame : Frame) → IsHistory h → schema_with h k ≡ Some s → frame_in h ≡ Some frame → schema_fault frame.domain s.attrs ≡ None
schema_sound h k s frame is declared framed =
    let place = schema_follows h s is (schema_with-is h k s declared).0 in
    let follows = place.3 in
    let one_frame : follows.frame ≡ frame = same_Some follows.frame frame (sym (frame_in-append place.0 _ follows.frame follows.framed) ∙ ap frame_in (sym place.2) ∙ framed) in
    subst (λ f. schema_fault f.domain s.attrs ≡ None) one_frame follows.sound

-- ---- conditions

-- an answer has one condition
one_condition : (r : Result Condition Refusal) (d c : Condition) → r ≡ Ok d → r ≡ Ok c → d ≡ c
one_condition r d c first second = cc

-- a condition that is not refused is the one that was parsed
read_as : (found : Result Condition CondFault) (c : Condition) → or_refused found ≡ Ok c → found ≡ Ok c
read_as (Ok d) c says = ap Ok (one_condition (Ok d) d c refl says)
read_as (Err fault) c says = cc

-- the condition of a sparse array's delete is the one that its text spells
parsed_as : (dense : Bool) (found : Result Condition CondFault) (c : Condition) → dense ≡ false → cond dense (Err refusal.DenseArray) (or_refused found) ≡ Ok c → found ≡ Ok c
parsed_as true found c sparse says = cc
parsed_as false found c sparse says = read_as found c says

-- an array whose delete is not refused is sparse
pub delete_condition_sparse : (frame : Frame) (attrs : List Attr) (text : List ℕ) (c : Condition) → delete_condition frame attrs text ≡ Ok c → frame.dense ≡ false
delete_condition_sparse frame attrs text c says = by frame.dense says
  where
    by : (b : Bool) → cond b (Err refusal.DenseArray) (condition_in frame.domain attrs text) ≡ Ok c → b ≡ false
    by true h = cc
    by false h = refl

-- a text of bytes that a delete spells over the fields of an array is a condition that has an object
pub delete_condition_spelled : (frame : Frame) (attrs : List Attr) (text : List ℕ) (c : Condition) → IsFrame frame → AreAttrs attrs → schema_fault frame.domain attrs ≡ None → frame.dense ≡ false → IsTrue (is_text text)
    → delete_condition frame attrs text ≡ Ok c → IsCond c
delete_condition_spelled frame attrs text c is are sound sparse can says =
    let parts = and_parts (nat_lt (length text) (2 ^ 64)) (list_all is_byte text) can in
    parsed_has_object text (fields_in frame.domain attrs) c (bytes_tested text parts.1) (ltb-true (length text) (2 ^ 64) parts.0) (fields_fit frame attrs is are sound)
    (parsed_as frame.dense (parsed text (fields_in frame.domain attrs)) c sparse says)
