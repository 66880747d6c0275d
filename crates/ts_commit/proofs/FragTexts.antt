-- A text is read as the fragment that it spells.
use Rattle.std.proofs.Common.{◌≡◌, ℕ, zero, suc, ◌<◌, ◌≤◌, ◌^◌, Bool, true, false, ◌&&◌, cond, nat_eq, nat_lt, nat_le, List, [], ◌∷◌, ◌++◌, length, length-append, codes, decimal, Some, None, IsAscii, IsUtf8, slice_index, lit<, refl, sym, ap, ◌∙◌, subst, arith}
use Rattle.std.proofs.lemmas.Bool.{leb-true, le-leb, lt-ltb, ltb-true, eqb-true, eq-eqb}
use Rattle.std.proofs.lemmas.Fmt.{decimal_is_IsNumeral, length-decimal-le, IsAscii-decimal}
use Rattle.std.proofs.lemmas.List.{append_assoc, append_cancel_left}
use Rattle.std.proofs.lemmas.Str.{IsAscii-append, IsUtf8-from_ascii}
use Rattle.std.specs.Cmp.Lexicographic.{pointwise}
use Rattle.std.specs.Int.{from_be_bytes, w128}
use Rattle.std.specs.Option.{option_map_or}
use Rattle.std.specs.Str.Parse.{digits_value}
use Rattle.uuid.proofs.OrderLemmas.{from_be_bytes-to_be_bytes_16}
use Rattle.ts_base.specs.declared.keys.FragKey.{FragKey}
use Rattle.ts_base.specs.declared.names.CommitKind.TheVariants as kind
use Rattle.ts_base.specs.declared.names.Name.TheVariants as name
use Rattle.ts_base.specs.Spelling.{id_text, span_text, frag_text, name_text, FitsFrag}
use Rattle.ts_base.proofs.Splits.{front_split}
use Rattle.ts_base.proofs.Ids.{ascii_id, id_parses, length_of_id}
use Rattle.ts_base.proofs.Reading.{frag_read}
use Rattle.ts_commit.specs.Vacs.{behind, before, pieces_of, does_spell, IsFragText, frag_in}

-- ---- tests

and_parts : (a b : Bool) → (a && b) ≡ true → (a ≡ true) × (b ≡ true)
and_parts true b is = (refl, is)
and_parts false b is = absurd_test is
  where
    absurd_test : false ≡ true → (false ≡ true) × (b ≡ true)
    absurd_test is = cc

and_from : (a b : Bool) → a ≡ true → b ≡ true → (a && b) ≡ true
and_from a b is also = ap (λ t. t && b) is ∙ also

-- texts that are equal byte by byte are one
texts_same : (xs ys : List ℕ) → pointwise nat_eq xs ys ≡ true → xs ≡ ys
texts_same [] [] is = refl
texts_same [] (y ∷ ys) is = cc
texts_same (x ∷ xs) [] is = cc
texts_same (x ∷ xs) (y ∷ ys) is =
    let parts = and_parts (nat_eq x y) (pointwise nat_eq xs ys) is in
    ap (λ b. b ∷ xs) (eqb-true x y parts.0) ∙ ap (λ l. y ∷ l) (texts_same xs ys parts.1)

text_itself : (xs : List ℕ) → pointwise nat_eq xs xs ≡ true
text_itself [] = refl
text_itself (x ∷ xs) = and_from (nat_eq x x) (pointwise nat_eq xs xs) (eq-eqb x x refl) (text_itself xs)

-- ---- the pieces of a name

pieces_are : (f : FragKey) (text : List ℕ) → FitsFrag f → text ≡ frag_text f → pieces_of text ≡ f
pieces_are f text fits same =
    let cut = frag_read f text _ _ _ _ _ _ _ _ fits same refl refl refl refl refl refl refl refl in
    let t1 = ap (digits_value 10) cut.0 ∙ (decimal_is_IsNumeral f.t1 fits.t1).1 in
    let t2 = ap (digits_value 10) cut.1 ∙ (decimal_is_IsNumeral f.t2 fits.t2).1 in
    let parses = id_parses f.id (before (behind (behind (behind (behind text))))) cut.2 in
    let id = ap (λ bytes. option_map_or (from_be_bytes w128) bytes 0) (sym parses) ∙ from_be_bytes-to_be_bytes_16 f.id fits.id in
    let v = ap (digits_value 10) cut.3 ∙ (decimal_is_IsNumeral f.v (omega (arith, fits.v))).1 in
    λ i. record { t1 = t1 i; t2 = t2 i; id = id i; v = v i }

spells_only : (f : FragKey) (text : List ℕ) → IsFragText f text → does_spell f text ≡ true
spells_only f text is =
    and_from (nat_le f.t1 f.t2 && nat_eq f.v 1) _ (and_from (nat_le f.t1 f.t2) (nat_eq f.v 1) (le-leb f.t1 f.t2 is.spelled.span) (eq-eqb f.v 1 is.spelled.version))
    (and_from (nat_lt f.t1 (2 ^ 64) && (nat_lt f.t2 (2 ^ 64) && nat_lt f.id (2 ^ 128))) (pointwise nat_eq text (frag_text f))
    (and_from (nat_lt f.t1 (2 ^ 64)) _ (lt-ltb f.t1 (2 ^ 64) is.fits.t1) (and_from (nat_lt f.t2 (2 ^ 64)) (nat_lt f.id (2 ^ 128)) (lt-ltb f.t2 (2 ^ 64) is.fits.t2) (lt-ltb f.id (2 ^ 128) is.fits.id)))
    (ap (λ t. pointwise nat_eq t (frag_text f)) is.same ∙ text_itself (frag_text f)))

spells_found : (f : FragKey) (text : List ℕ) → does_spell f text ≡ true → IsFragText f text
spells_found f text is =
    let whole = and_parts (nat_le f.t1 f.t2 && nat_eq f.v 1) _ is in
    let spelled = and_parts (nat_le f.t1 f.t2) (nat_eq f.v 1) whole.0 in
    let rest = and_parts (nat_lt f.t1 (2 ^ 64) && (nat_lt f.t2 (2 ^ 64) && nat_lt f.id (2 ^ 128))) (pointwise nat_eq text (frag_text f)) whole.1 in
    let first = and_parts (nat_lt f.t1 (2 ^ 64)) _ rest.0 in
    let second = and_parts (nat_lt f.t2 (2 ^ 64)) (nat_lt f.id (2 ^ 128)) first.1 in
    let version : f.v ≡ 1 = eqb-true f.v 1 spelled.1 in
    record {
      spelled = record { span = leb-true f.t1 f.t2 spelled.0; version = version };
      fits = record { t1 = ltb-true f.t1 (2 ^ 64) first.0; t2 = ltb-true f.t2 (2 ^ 64) second.0; id = ltb-true f.id (2 ^ 128) second.1; v = omega arith };
      same = texts_same text (frag_text f) rest.1;
    }

-- ---- the two laws

pub frag_in-only : (f : FragKey) (text : List ℕ) → IsFragText f text → frag_in text ≡ Some f
unfolding frag_in
frag_in-only f text is =
    let pieces = pieces_are f text is.fits is.same in
    ap (λ t. cond t (Some (pieces_of text)) None) (ap (λ g. does_spell g text) pieces ∙ spells_only f text is) ∙ ap Some pieces

pub frag_in-found : (f : FragKey) (text : List ℕ) → frag_in text ≡ Some f → IsFragText f text
unfolding frag_in
frag_in-found f text is = by (does_spell (pieces_of text) text) refl is
  where
    by : (t : Bool) → does_spell (pieces_of text) text ≡ t → cond t (Some (pieces_of text)) None ≡ Some f → IsFragText f text
    by true spells is = let same : pieces_of text ≡ f = cc in subst (λ g. IsFragText g text) same (spells_found (pieces_of text) text spells)
    by false spells is = let never : ⊥ = cc in absurd never

-- a name has 80 bytes at most
pub length-frag_text : (f : FragKey) → FitsFrag f → length (frag_text f) ≤ 80
length-frag_text f fits =
    let t1 = length-decimal-le 20 f.t1 (omega arith) (omega (arith, fits.t1)) fits.t1 in
    let t2 = length-decimal-le 20 f.t2 (omega arith) (omega (arith, fits.t2)) fits.t2 in
    let v = length-decimal-le 3 f.v (omega arith) (omega (arith, fits.v)) (omega (arith, fits.v)) in
    simp length-append (omega (arith, t1, t2, v, length_of_id f.id))

-- ---- the name of a `.vac` round a fragment's name

pub commit_text : (f : FragKey) → (codes "__commits/" ++ frag_text f) ++ codes ".vac" ≡ name_text (name.Commit f kind.Vac)
commit_text f = sym (append_assoc (codes "__commits/" ++ frag_text f) (codes ".") (codes "vac"))

pub text_between : (text : List ℕ) (f : FragKey) → (codes "__commits/" ++ text) ++ codes ".vac" ≡ name_text (name.Commit f kind.Vac) → text ≡ frag_text f
text_between text f same =
    let whole : (codes "__commits/" ++ text) ++ codes ".vac" ≡ (codes "__commits/" ++ frag_text f) ++ codes ".vac" = same ∙ sym (commit_text f) in
    let long : length (codes "__commits/" ++ text) ≡ length (codes "__commits/" ++ frag_text f) =
    omega (arith, ap length whole, length-append (codes "__commits/" ++ text) (codes ".vac"), length-append (codes "__commits/" ++ frag_text f) (codes ".vac")) in
    append_cancel_left (codes "__commits/") text (frag_text f) (front_split (codes "__commits/" ++ text) (codes "__commits/" ++ frag_text f) (codes ".vac") (codes ".vac") long whole).0

-- a name is ASCII text
pub IsAscii-frag_text : (f : FragKey) → FitsFrag f → IsAscii (frag_text f)
IsAscii-frag_text f fits =
    let line : IsAscii (codes "_") = λ i. one i in
    let start : IsAscii (codes "__") = IsAscii-append (codes "_") (codes "_") line line in
    let t1 = IsAscii-append (codes "__" ++ decimal f.t1) (codes "_") (IsAscii-append (codes "__") (decimal f.t1) start (IsAscii-decimal f.t1 fits.t1)) line in
    let t2 = IsAscii-append (codes "__" ++ decimal f.t1 ++ codes "_" ++ decimal f.t2) (codes "_") (IsAscii-append (codes "__" ++ decimal f.t1 ++ codes "_") (decimal f.t2) t1 (IsAscii-decimal f.t2 fits.t2)) line in
    let id = IsAscii-append (codes "__" ++ decimal f.t1 ++ codes "_" ++ decimal f.t2 ++ codes "_") (id_text f.id) t2 (ascii_id f.id) in
    IsAscii-append (span_text f.t1 f.t2 f.id ++ codes "_") (decimal f.v) (IsAscii-append (span_text f.t1 f.t2 f.id) (codes "_") id line) (IsAscii-decimal f.v (omega (arith, fits.v)))
  where
    one : (i : ℕ) → slice_index (codes "_") i < 128
    one zero = lit< tt
    one (suc i) = lit< tt

-- a text that is a fragment's name has room
pub name_has_room : (f : FragKey) (text : List ℕ) → IsFragText f text → length text ≤ 80
name_has_room f text is = omega (arith, length-frag_text f is.fits, ap length is.same)

pub text_is : (f : FragKey) (text : List ℕ) → IsFragText f text → IsUtf8 text
text_is f text is = subst IsUtf8 (sym is.same) (IsUtf8-from_ascii (frag_text f) (IsAscii-frag_text f is.fits))
