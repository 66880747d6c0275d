-- What the objects of a column tell of its values.
use Rattle.std.proofs.Common.{◌≡◌, ℕ, ◌+◌, ◌^◌, ◌<◌, ℤ, Bool, true, false, ◌&&◌, List, [], ◌∷◌, ◌++◌, length, map, refl, sym, ap, ◌∙◌, subst, arith, append_assoc, length-append}
use Rattle.std.specs.Prelude.{IsTrue, int_le}
use Rattle.std.specs.List.{flat_map, All}
use Rattle.std.proofs.lemmas.Bool.{true≢false, and_parts}
use Rattle.std.proofs.lemmas.List.{length-map}
use Rattle.std.proofs.lemmas.List.Elements.{All-head, All-tail, All-nil, All-cons, All-append}
use Rattle.ts_base.specs.declared.values.Val.{Val}
use Rattle.ts_base.specs.declared.values.Val.TheVariants.{Null, Int, Bytes}
use Rattle.ts_base.specs.declared.values.ValType.{ValType}
use Rattle.ts_base.specs.declared.values.ValType.TheVariants.{I8, I16, I32, I64, U8, U16, U32, U64, Text, Blob}
use Rattle.ts_base.specs.Values.{width_of, is_integer, least_of, greatest_of}
use Rattle.ts_base.specs.declared.names.Part.TheVariants as part
use Rattle.ts_value.specs.Fits.{fits_of}
use Rattle.ts_value.proofs.FitLaws.{Fits-fits_of}
use Rattle.ts_column.proofs.TileLaws.{widths, number_fits}
use Rattle.ts_wire.specs.Numbers.{FitsInt}
use Rattle.ts_wire.proofs.Numbers.{number_exact, int_exact}
use Rattle.ts_wire.proofs.FieldLaws.{bool_exact}
use Rattle.ts_schema.specs.declared.attrs.Attr.{Attr}
use Rattle.ts_plain.specs.Plain.{FitsValue}
use Rattle.ts_column.specs.Tiles.{is_signed, is_there}
use Rattle.ts_table.specs.Texts.{joined, starts_from}
use Rattle.ts_sparse.specs.Tilings.{tiles_of, starts_in}
use Rattle.ts_column.specs.Spelled.{number_of, text_of}
use Rattle.ts_sparse.specs.Sparse.{Object, starts_object, bytes_object, fixed_objects, validity_objects}
use Rattle.ts_sparse.proofs.Apart.{lists_same}
use Rattle.ts_sparse.proofs.Shapes.{Shaped, shaped, all_tiles, texts_same, length-starts_from}
use Rattle.ts_sparse.proofs.Rows.{cons_parts}

-- ---- numbers

-- what stands for a value that passes the test has room in the width of its type
pub number_in : (ty : ValType) (nullable : Bool) (v : Val) → is_integer ty ≡ true → IsTrue (fits_of ty nullable v) → FitsInt (width_of ty) (is_signed ty) (number_of v)
number_in ty nullable v is fits = number_fits ty nullable v is (Fits-fits_of ty nullable v fits)

-- ---- values from what stands for them

-- no byte list under an integer type, and no integer under another
no_bytes : (ty : ValType) (nullable : Bool) (bytes : List ℕ) → is_integer ty ≡ true → IsTrue (fits_of ty nullable (Bytes bytes)) → ⊥
no_bytes I8 nullable bytes is fits = true≢false (sym fits)
no_bytes I16 nullable bytes is fits = true≢false (sym fits)
no_bytes I32 nullable bytes is fits = true≢false (sym fits)
no_bytes I64 nullable bytes is fits = true≢false (sym fits)
no_bytes U8 nullable bytes is fits = true≢false (sym fits)
no_bytes U16 nullable bytes is fits = true≢false (sym fits)
no_bytes U32 nullable bytes is fits = true≢false (sym fits)
no_bytes U64 nullable bytes is fits = true≢false (sym fits)
no_bytes Text nullable bytes is fits = true≢false (sym is)
no_bytes Blob nullable bytes is fits = true≢false (sym is)

no_number : (ty : ValType) (nullable : Bool) (z : ℤ) → is_integer ty ≡ false → IsTrue (fits_of ty nullable (Int z)) → ⊥
no_number ty nullable z is fits = true≢false (sym (and_parts (is_integer ty) (int_le (least_of ty) z && int_le z (greatest_of ty)) fits).0 ∙ is)

int_same : (ty : ValType) (nullable : Bool) (v w : Val) → is_integer ty ≡ true → IsTrue (fits_of ty nullable v) → IsTrue (fits_of ty nullable w) → number_of v ≡ number_of w → is_there v ≡ is_there w → v ≡ w
int_same ty nullable Null Null is fv fw number there = refl
int_same ty nullable Null (Int z) is fv fw number there = absurd (true≢false (sym there))
int_same ty nullable Null (Bytes b) is fv fw number there = absurd (no_bytes ty nullable b is fw)
int_same ty nullable (Int z) Null is fv fw number there = absurd (true≢false there)
int_same ty nullable (Int z) (Int y) is fv fw number there = ap Int number
int_same ty nullable (Int z) (Bytes b) is fv fw number there = absurd (no_bytes ty nullable b is fw)
int_same ty nullable (Bytes b) w is fv fw number there = absurd (no_bytes ty nullable b is fv)

text_same : (ty : ValType) (nullable : Bool) (v w : Val) → is_integer ty ≡ false → IsTrue (fits_of ty nullable v) → IsTrue (fits_of ty nullable w) → text_of v ≡ text_of w → is_there v ≡ is_there w → v ≡ w
text_same ty nullable Null Null is fv fw text there = refl
text_same ty nullable Null (Bytes b) is fv fw text there = absurd (true≢false (sym there))
text_same ty nullable Null (Int z) is fv fw text there = absurd (no_number ty nullable z is fw)
text_same ty nullable (Bytes b) Null is fv fw text there = absurd (true≢false there)
text_same ty nullable (Bytes b) (Bytes c) is fv fw text there = ap Bytes text
text_same ty nullable (Bytes b) (Int z) is fv fw text there = absurd (no_number ty nullable z is fw)
text_same ty nullable (Int z) w is fv fw text there = absurd (no_number ty nullable z is fv)

-- ---- columns

module _ (a : Attr) where
  abbrev Fitting : List Val → Type 0
  Fitting vals = All (FitsValue a) vals

  numbers_fit : (vals : List Val) → is_integer a.ty ≡ true → Fitting vals → All (FitsInt (width_of a.ty) (is_signed a.ty)) (map number_of vals)
  numbers_fit [] is fits = All-nil (FitsInt (width_of a.ty) (is_signed a.ty))
  numbers_fit (v ∷ vals) is fits =
      All-cons (FitsInt (width_of a.ty) (is_signed a.ty)) (number_of v) (map number_of vals) (number_in a.ty a.nullable v is (All-head (FitsValue a) v vals fits).1)
      (numbers_fit vals is (All-tail (FitsValue a) v vals fits))

  all_there : (vs ws : List Val) → length vs ≡ length ws → a.nullable ≡ false → Fitting vs → Fitting ws → map is_there vs ≡ map is_there ws
  all_there [] [] long never fv fw = refl
  all_there [] (w ∷ ws) long never fv fw = absurd (omega arith)
  all_there (v ∷ vs) [] long never fv fw = absurd (omega arith)
  all_there (v ∷ vs) (w ∷ ws) long never fv fw =
      let one = there v (All-head (FitsValue a) v vs fv).1 in
      let two = there w (All-head (FitsValue a) w ws fw).1 in
      ap (λ b. b ∷ map is_there vs) (one ∙ sym two) ∙ ap (λ bs. is_there w ∷ bs) (all_there vs ws (omega arith) never (All-tail (FitsValue a) v vs fv) (All-tail (FitsValue a) w ws fw))
    where
      there : (v : Val) → IsTrue (fits_of a.ty a.nullable v) → is_there v ≡ true
      there Null fits = absurd (true≢false (sym fits ∙ never))
      there (Int z) fits = refl
      there (Bytes b) fits = refl

  bools_fit : (bs : List Bool) → All (λ (b : Bool). Unit {0}) bs
  bools_fit [] = All-nil (λ (b : Bool). Unit {0})
  bools_fit (b ∷ bs) = All-cons (λ (b : Bool). Unit {0}) b bs tt (bools_fit bs)

  pub marks_same : (t : Bool) (k : ℕ) (vs ws : List Val) → a.nullable ≡ t → length vs ≡ length ws → Fitting vs → Fitting ws → validity_objects t k vs ≡ validity_objects t k ws → map is_there vs ≡ map is_there ws
  marks_same false k vs ws is long fv fw same = all_there vs ws long is fv fw
  marks_same true k vs ws is long fv fw same =
      lists_same bool_exact (map is_there vs) (map is_there ws) (length-map vs is_there ∙ long ∙ sym (length-map ws is_there)) (bools_fit (map is_there vs)) (bools_fit (map is_there ws)) (ap first_body same)
    where
      first_body : List Object → List ℕ
      first_body [] = []
      first_body (o ∷ os) = o.body

  ints_same : (vs ws : List Val) → is_integer a.ty ≡ true → Fitting vs → Fitting ws → map number_of vs ≡ map number_of ws → map is_there vs ≡ map is_there ws → vs ≡ ws
  ints_same [] [] is fv fw numbers marks = refl
  ints_same [] (w ∷ ws) is fv fw numbers marks = absurd (omega (arith, ap length numbers))
  ints_same (v ∷ vs) [] is fv fw numbers marks = absurd (omega (arith, ap length numbers))
  ints_same (v ∷ vs) (w ∷ ws) is fv fw numbers marks =
      let one = cons_parts (number_of v) (number_of w) (map number_of vs) (map number_of ws) numbers in
      let two = cons_parts (is_there v) (is_there w) (map is_there vs) (map is_there ws) marks in
      ap (λ x. x ∷ vs) (int_same a.ty a.nullable v w is (All-head (FitsValue a) v vs fv).1 (All-head (FitsValue a) w ws fw).1 one.0 two.0)
      ∙ ap (λ xs. w ∷ xs) (ints_same vs ws is (All-tail (FitsValue a) v vs fv) (All-tail (FitsValue a) w ws fw) one.1 two.1)

  pub bytes_same : (vs ws : List Val) → is_integer a.ty ≡ false → Fitting vs → Fitting ws → map text_of vs ≡ map text_of ws → map is_there vs ≡ map is_there ws → vs ≡ ws
  bytes_same [] [] is fv fw texts marks = refl
  bytes_same [] (w ∷ ws) is fv fw texts marks = absurd (omega (arith, ap length texts))
  bytes_same (v ∷ vs) [] is fv fw texts marks = absurd (omega (arith, ap length texts))
  bytes_same (v ∷ vs) (w ∷ ws) is fv fw texts marks =
      let one = cons_parts (text_of v) (text_of w) (map text_of vs) (map text_of ws) texts in
      let two = cons_parts (is_there v) (is_there w) (map is_there vs) (map is_there ws) marks in
      ap (λ x. x ∷ vs) (text_same a.ty a.nullable v w is (All-head (FitsValue a) v vs fv).1 (All-head (FitsValue a) w ws fw).1 one.0 two.0)
      ∙ ap (λ xs. w ∷ xs) (bytes_same vs ws is (All-tail (FitsValue a) v vs fv) (All-tail (FitsValue a) w ws fw) one.1 two.1)

  -- ---- starts have room

  abbrev Small : ℕ → Type 0
  Small i = i < 256 ^ 8

  starts_small : (at : ℕ) (texts : List (List ℕ)) → at + length (joined texts) < 256 ^ 8 → All Small (starts_from at texts)
  starts_small at [] few = All-nil Small
  starts_small at (t ∷ texts) few =
      let long = length-append t (joined texts) in
      All-cons Small at (starts_from (at + length t) texts) (omega arith) (starts_small (at + length t) texts (omega arith))

  pub joined-append : (xs ys : List (List ℕ)) → joined (xs ++ ys) ≡ joined xs ++ joined ys
  joined-append [] ys = refl
  joined-append (x ∷ xs) ys = ap (λ more. x ++ more) (joined-append xs ys) ∙ sym (append_assoc x (joined xs) (joined ys))

  pub inside_small : (tiles : List (List (List ℕ))) → length (joined (flat_map (λ t. t) tiles)) < 256 ^ 8 → All Small (starts_in tiles)
  inside_small [] few = All-nil Small
  inside_small (t ∷ tiles) few =
      let long = ap length (joined-append t (flat_map (λ t. t) tiles)) ∙ length-append (joined t) (joined (flat_map (λ t. t) tiles)) in
      All-append Small (starts_from 0 t) (starts_in tiles) (starts_small 0 t (omega arith)) (inside_small tiles (omega arith))

  pub length-starts_in : (ts us : List (List (List ℕ))) → Shaped ts us → length (starts_in ts) ≡ length (starts_in us)
  length-starts_in [] [] s = refl
  length-starts_in [] (u ∷ us) s = absurd s
  length-starts_in (t ∷ ts) [] s = absurd s
  length-starts_in (t ∷ ts) (u ∷ us) s =
      omega (arith, length-append (starts_from 0 t) (starts_in ts), length-append (starts_from 0 u) (starts_in us), length-starts_from 0 t, length-starts_from 0 u, s.0, length-starts_in ts us s.1)

  -- ---- one column

  abbrev pub Short : List Object → Type 0
  Short os = All (λ o. length o.body < 2 ^ 64) os

  second_short : (o p : Object) → Short (o ∷ (p ∷ [])) → length p.body < 2 ^ 64
  second_short o p short = All-head (λ o. length o.body < 2 ^ 64) p [] (All-tail (λ o. length o.body < 2 ^ 64) o (p ∷ []) short)

  -- the objects of a column tell its values
  pub column_same : (n k : ℕ) (b : Bool) (vs ws : List Val) → is_integer a.ty ≡ b → length vs ≡ length ws → Fitting vs → Fitting ws → Short (fixed_objects b n k a.ty vs) → Short (fixed_objects b n k a.ty ws)
      → fixed_objects b n k a.ty vs ≡ fixed_objects b n k a.ty ws → validity_objects a.nullable k vs ≡ validity_objects a.nullable k ws → vs ≡ ws
  column_same n k true vs ws is long fv fw sv sw fixed validity =
      let width = widths a.ty is in
      let numbers = lists_same (int_exact (width_of a.ty) (is_signed a.ty) width.0 width.1) (map number_of vs) (map number_of ws) (length-map vs number_of ∙ long ∙ sym (length-map ws number_of)) (numbers_fit vs is fv) (numbers_fit ws is fw) (ap first_body fixed) in
      ints_same vs ws is fv fw numbers (marks_same a.nullable k vs ws refl long fv fw validity)
    where
      first_body : List Object → List ℕ
      first_body [] = []
      first_body (o ∷ os) = o.body
  column_same n k false vs ws is long fv fw sv sw fixed validity =
      let xs = map text_of vs in
      let ys = map text_of ws in
      let same_long : length xs ≡ length ys = length-map vs text_of ∙ long ∙ sym (length-map ws text_of) in
      let others = ap second fixed in
      let few = second_short (starts_object n k vs) (bytes_object n k vs) sv in
      let many = second_short (starts_object n k ws) (bytes_object n k ws) sw in
      let s = shaped n xs ys same_long in
      let inside = lists_same (number_exact 8) (starts_in (tiles_of n xs)) (starts_in (tiles_of n ys)) (length-starts_in (tiles_of n xs) (tiles_of n ys) s)
      (inside_small (tiles_of n xs) (subst (λ zs. length (joined zs) < 256 ^ 8) (sym (all_tiles n xs)) few)) (inside_small (tiles_of n ys) (subst (λ zs. length (joined zs) < 256 ^ 8) (sym (all_tiles n ys)) many)) (ap first_body fixed) in
      bytes_same vs ws is fv fw (texts_same n xs ys same_long inside (ap (λ o. o.starts) others) (ap (λ o. o.body) others)) (marks_same a.nullable k vs ws refl long fv fw validity)
    where
      first_body : List Object → List ℕ
      first_body [] = []
      first_body (o ∷ os) = o.body

      second : List Object → Object
      second [] = record { part = part.Meta; body = []; starts = [] }
      second (o ∷ []) = o
      second (o ∷ p ∷ os) = p
