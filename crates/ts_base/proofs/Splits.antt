-- A text of a number, an identifier and the like that another text follows: its parts are told apart.
use Rattle.std.proofs.Common.{◌≡◌, ℕ, ◌<◌, ◌≤◌, ◌^◌, List, [], ◌∷◌, ◌++◌, length, drop, codes, decimal, slice_index, refl, sym, ap, ◌∙◌, arith}
use Rattle.std.specs.Char.{digit_value}
use Rattle.std.specs.Str.Parse.{AllDigits}
use Rattle.std.proofs.lemmas.List.{append_assoc}
use Rattle.std.proofs.lemmas.Fmt.{decimal_is_IsNumeral, decimal_injective}
use Rattle.ts_base.specs.declared.keys.FragKey.{FragKey}
use Rattle.ts_base.specs.Spelling.{id_text, span_text, frag_text, FitsFrag}
use Rattle.ts_base.proofs.Ids.{length_of_id, id_injective}

-- a byte that ends a number
abbrev pub IsStop : ℕ → Type 0
IsStop c = 10 ≤ digit_value c

-- one text has one byte at a place
pub byte_at : (place : ℕ) {xs ys : List ℕ} → xs ≡ ys → slice_index xs place ≡ slice_index ys place
byte_at place same = ap (λ (text : List ℕ). slice_index text place) same

-- two parts as long as each other, in front of the rest
pub front_split : (xs ys r s : List ℕ) → length xs ≡ length ys → xs ++ r ≡ ys ++ s → (xs ≡ ys) × (r ≡ s)
front_split [] [] r s len same = (refl, same)
front_split [] (y ∷ ys) r s len same = absurd (omega arith)
front_split (x ∷ xs) [] r s len same = absurd (omega arith)
front_split (x ∷ xs) (y ∷ ys) r s len same =
    let head : x ≡ y = cc in
    let tail : xs ++ r ≡ ys ++ s = cc in
    let rest = front_split xs ys r s (omega arith) tail in
    (let parts : xs ≡ ys = rest.0 in cc, rest.1)

-- two runs of digits, each ended by a stop
pub digits_split : (xs ys : List ℕ) (c d : ℕ) (r s : List ℕ) → AllDigits 10 xs → AllDigits 10 ys → IsStop c → IsStop d
    → xs ++ c ∷ r ≡ ys ++ d ∷ s → (xs ≡ ys) × (c ∷ r ≡ d ∷ s)
digits_split [] [] c d r s all_x all_y stop_c stop_d same = (refl, same)
digits_split [] (y ∷ ys) c d r s all_x all_y stop_c stop_d same =
    let head : c ≡ y = cc in
    absurd (omega (arith, ap digit_value head, all_y.0))
digits_split (x ∷ xs) [] c d r s all_x all_y stop_c stop_d same =
    let head : x ≡ d = cc in
    absurd (omega (arith, ap digit_value head, all_x.0))
digits_split (x ∷ xs) (y ∷ ys) c d r s all_x all_y stop_c stop_d same =
    let head : x ≡ y = cc in
    let tail : xs ++ c ∷ r ≡ ys ++ d ∷ s = cc in
    let rest = digits_split xs ys c d r s all_x.1 all_y.1 stop_c stop_d tail in
    (let parts : xs ≡ ys = rest.0 in cc, rest.1)

-- two numbers, each ended by a stop
pub decimal_split : (m n c d : ℕ) (r s : List ℕ) → m < 2 ^ 64 → n < 2 ^ 64 → IsStop c → IsStop d
    → decimal m ++ c ∷ r ≡ decimal n ++ d ∷ s → (m ≡ n) × (c ∷ r ≡ d ∷ s)
decimal_split m n c d r s fits_m fits_n stop_c stop_d same =
    let parts = digits_split (decimal m) (decimal n) c d r s (decimal_is_IsNumeral m fits_m).0.1 (decimal_is_IsNumeral n fits_n).0.1 stop_c stop_d same in
    (decimal_injective m n fits_m fits_n parts.0, parts.1)

-- two identifiers
pub id_split : (a b : ℕ) (r s : List ℕ) → a < 2 ^ 128 → b < 2 ^ 128 → id_text a ++ r ≡ id_text b ++ s → (a ≡ b) × (r ≡ s)
id_split a b r s fits_a fits_b same =
    let parts = front_split (id_text a) (id_text b) r s (omega (arith, length_of_id a, length_of_id b)) same in
    (id_injective a b fits_a fits_b parts.0, parts.1)

-- a span in front of a text, part by part
pub span_parts : (t1 t2 id : ℕ) (r : List ℕ) → span_text t1 t2 id ++ r ≡ 95 ∷ 95 ∷ (decimal t1 ++ 95 ∷ (decimal t2 ++ 95 ∷ (id_text id ++ r)))
span_parts t1 t2 id r = simp append_assoc

-- two fragments' spans, and what follows each
pub span_split : (f g : FragKey) (r s : List ℕ) → FitsFrag f → FitsFrag g → span_text f.t1 f.t2 f.id ++ r ≡ span_text g.t1 g.t2 g.id ++ s
    → (f.t1 ≡ g.t1) × (f.t2 ≡ g.t2) × (f.id ≡ g.id) × (r ≡ s)
span_split f g r s fits_f fits_g same =
    let whole = sym (span_parts f.t1 f.t2 f.id r) ∙ same ∙ span_parts g.t1 g.t2 g.id s in
    let from = decimal_split f.t1 g.t1 95 95 _ _ fits_f.t1 fits_g.t1 (omega arith) (omega arith) (ap (drop 2) whole) in
    let to = decimal_split f.t2 g.t2 95 95 _ _ fits_f.t2 fits_g.t2 (omega arith) (omega arith) (ap (drop 1) from.1) in
    let id = id_split f.id g.id r s fits_f.id fits_g.id (ap (drop 1) to.1) in
    (from.0, to.0, id.0, id.1)

-- a fragment's key in front of a text: its span, and then its version
frag_parts : (f : FragKey) (r : List ℕ) → frag_text f ++ r ≡ span_text f.t1 f.t2 f.id ++ 95 ∷ (decimal f.v ++ r)
frag_parts f r =
    append_assoc (span_text f.t1 f.t2 f.id ++ codes "_") (decimal f.v) r ∙ append_assoc (span_text f.t1 f.t2 f.id) (codes "_") (decimal f.v ++ r)

-- two keys of fragments, each ended by a stop
pub frag_split : (f g : FragKey) (c d : ℕ) (r s : List ℕ) → FitsFrag f → FitsFrag g → IsStop c → IsStop d
    → frag_text f ++ c ∷ r ≡ frag_text g ++ d ∷ s → (f ≡ g) × (c ∷ r ≡ d ∷ s)
frag_split f g c d r s fits_f fits_g stop_c stop_d same =
    let whole = sym (frag_parts f (c ∷ r)) ∙ same ∙ frag_parts g (d ∷ s) in
    let spans = span_split f g (95 ∷ (decimal f.v ++ c ∷ r)) (95 ∷ (decimal g.v ++ d ∷ s)) fits_f fits_g whole in
    let version = decimal_split f.v g.v c d r s (omega (arith, fits_f.v)) (omega (arith, fits_g.v)) stop_c stop_d (ap (drop 1) spans.3) in
    (λ i. record { t1 = spans.0 i; t2 = spans.1 i; id = spans.2 i; v = version.0 i }, version.1)
