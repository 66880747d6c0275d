-- The values that a text spells have room in an object, and a text among them is in UTF-8.
use Rattle.std.proofs.Common.{◌≡◌, ℕ, zero, suc, ◌+◌, ◌-◌, ◌*◌, ◌/◌, ◌%◌, ◌^◌, ◌<◌, ◌≤◌, pos, Bool, true, false, ◌&&◌, ◌||◌, not, nat_eq, nat_lt, if◌then◌else◌, List, [], ◌∷◌, ◌++◌, length, take, drop, Option, Some, None, codes, neg_ℤ, cond, refl, sym, ap, ◌∙◌, subst, arith, length-drop}
use Rattle.std.proofs.Math.Nat.{pow-suc, pow-zero, pow-le-pow_right, mul-le-mul_right, min-le_left, min-le_right}
use Rattle.std.proofs.lemmas.Bool.{ne_eqb}
use Rattle.std.proofs.lemmas.List.{length-take}
use Rattle.std.proofs.lemmas.Str.{IsUtf8-from_is_utf8, is_utf8-from_IsUtf8, encode_ascii}
use Rattle.std.specs.Char.{is_ascii_digit, is_ascii_alphabetic, is_ascii_hexdigit}
use Rattle.std.specs.Cmp.Lexicographic.{pointwise}
use Rattle.std.specs.Str.{is_utf8}
use Rattle.ts_base.specs.declared.values.Val.TheVariants.{Int, Bytes}
use Rattle.ts_base.specs.Labels.{label_of}
use Rattle.ts_wire.specs.Exact.{IsBytes}
use Rattle.ts_wire.specs.Fields.{FitsVal}
use Rattle.ts_wire.specs.Numbers.{FitsInt}
use Rattle.ts_wire.proofs.Laws.{IsBytes-take}
use Rattle.ts_cond.specs.declared.nodes.CondOp.{CondOp}
use Rattle.ts_cond.specs.declared.nodes.CondOp.TheVariants.{Less, AtMost, Greater, AtLeast, Equal, Unequal}
use Rattle.ts_cond.specs.Tokens.{Kind, Open, Close, Comma, And, Or, Not, In, Is, Null, Compares, Number, Text, Blob, Front, token, blank, begins_with, run_of, with_equals, unequal, decimal_from, digits_of, number, negative, end_from, text_to, text, reserved_kind, kind_by, word_len, word, is_blob, blob_or_word, front, Scan, End, Bad, Then, put_kind, put, more_of, scan, tokens_of, unquoted, hex_digit, unhexed}
use lib.Dec.{T, ltb, ltb→lt}
use lib.Utf8.{encode, encodes, scalar, scalars}

-- a value has room in an object, and a text is in UTF-8
abbrev pub IsGood : Kind → Type 0
IsGood (Number z) = FitsVal (Int z)
IsGood (Text raw) = FitsVal (Bytes (unquoted false raw)) × (is_utf8 (unquoted false raw) ≡ true)
IsGood (Blob digits) = FitsVal (Bytes (unhexed digits))
IsGood _ = Unit {0}

abbrev IsGoodOr : Option Kind → Type 0
IsGoodOr None = Unit {0}
IsGoodOr (Some kind) = IsGood kind

abbrev IsGoodFront : Option Front → Type 0
IsGoodFront None = Unit {0}
IsGoodFront (Some front) = IsGoodOr front.kind

abbrev pub AreGood : Scan → Type 0
AreGood (End at) = Unit {0}
AreGood (Bad at) = Unit {0}
AreGood (Then kind at rest) = IsGood kind × AreGood rest

-- ---- numbers

decimal_few : (v : ℕ) (bs : List ℕ) → IsBytes bs → decimal_from v bs + 23 ≤ (v + 23) * 10 ^ length bs
decimal_few v [] all = rw (pow-zero 10) (omega arith)
decimal_few v (b ∷ bs) all =
    let byte = all 0 in
    let more = decimal_few (v * 10 + (b - 48)) bs (λ i. all (suc i)) in
    let step : v * 10 + (b - 48) + 23 ≤ (v + 23) * 10 = omega (arith, byte) in
    let power : (v + 23) * 10 ^ length (b ∷ bs) ≡ (v + 23) * (10 ^ length bs * 10) = ap (λ k. (v + 23) * k) (pow-suc 10 (length bs)) in
    omega (arith, more, mul-le-mul_right (10 ^ length bs) step, power)

-- a number of 20 digits or fewer
number_few : (n : ℕ) (bs : List ℕ) → IsBytes bs → n ≤ 20 → decimal_from 0 (take n bs) < 2 ^ 127
number_few n bs all few =
    let short = length-take n bs in
    let less : length (take n bs) ≤ 20 = omega (arith, short, min-le_left n (length bs), few) in
    let bound = decimal_few 0 (take n bs) (IsBytes-take n bs all) in
    let power : 10 ^ length (take n bs) ≤ 10 ^ 20 = pow-le-pow_right (omega arith) less in
    omega (arith, bound, power)

neg_fits : (n : ℕ) → n < 2 ^ 127 → FitsInt 16 true (neg_ℤ (pos n))
neg_fits zero few = omega arith
neg_fits (suc n) few = omega (arith, few)

digits_few : (bytes : List ℕ) → digits_of bytes ≤ 20
digits_few bytes = min-le_left 20 (run_of is_ascii_digit bytes)

-- ---- blobs

hex_few : (b : ℕ) → hex_digit b ≤ 15
hex_few b = grind (arith, min-le_left 15 (b - 87))

unhexed_bytes : (digits : List ℕ) → IsBytes (unhexed digits)
unhexed_bytes [] i = omega arith
unhexed_bytes (high ∷ []) i = omega arith
unhexed_bytes (high ∷ low ∷ rest) zero = omega (arith, hex_few high, hex_few low)
unhexed_bytes (high ∷ low ∷ rest) (suc i) = unhexed_bytes rest i

unhexed_short : (digits : List ℕ) → length (unhexed digits) ≤ length digits
unhexed_short [] = omega arith
unhexed_short (high ∷ []) = omega arith
unhexed_short (high ∷ low ∷ rest) = omega (arith, unhexed_short rest)

-- ---- texts

short_case : (c : Bool) (b : ℕ) (xs ys bs : List ℕ) → length xs ≤ length bs → length ys ≤ length bs → length (if c then xs else b ∷ ys) ≤ suc (length bs)
short_case true b xs ys bs one other = omega (arith, one)
short_case false b xs ys bs one other = omega (arith, other)

unquoted_short : (second : Bool) (raw : List ℕ) → length (unquoted second raw) ≤ length raw
unquoted_short second [] = omega arith
unquoted_short second (b ∷ bs) = short_case (nat_eq b 39 && not second) b (unquoted true bs) (unquoted false bs) bs (unquoted_short true bs) (unquoted_short false bs)

bytes_more : (b : ℕ) (bs : List ℕ) → b < 256 → IsBytes bs → IsBytes (b ∷ bs)
bytes_more b bs one more zero = one
bytes_more b bs one more (suc i) = more i

bytes_case : (c : Bool) (b : ℕ) (xs ys : List ℕ) → b < 256 → IsBytes xs → IsBytes ys → IsBytes (if c then xs else b ∷ ys)
bytes_case true b xs ys one some other = some
bytes_case false b xs ys one some other = bytes_more b ys one other

unquoted_bytes : (second : Bool) (raw : List ℕ) → IsBytes raw → IsBytes (unquoted second raw)
unquoted_bytes second [] all = all
unquoted_bytes second (b ∷ bs) all =
    let behind : IsBytes bs = λ i. all (suc i) in
    bytes_case (nat_eq b 39 && not second) b (unquoted true bs) (unquoted false bs) (all 0) (unquoted_bytes true bs behind) (unquoted_bytes false bs behind)

-- a byte that is no quote stays
stays : (second : Bool) (x : ℕ) (bs : List ℕ) → 128 ≤ x → unquoted second (x ∷ bs) ≡ x ∷ unquoted false bs
stays second x bs high = rw (ne_eqb x 39 (λ same. omega (arith, high, same))) refl

stay_twice : (second : Bool) (x y : ℕ) (bs : List ℕ) → 128 ≤ x → 128 ≤ y → unquoted second (x ∷ y ∷ bs) ≡ x ∷ y ∷ unquoted false bs
stay_twice second x y bs high next = stays second x (y ∷ bs) high ∙ ap (λ more. x ∷ more) (stays false y bs next)

-- so does a character of several bytes
wide_stays : (second : Bool) (c : ℕ) (rest : List ℕ) → 128 ≤ c → unquoted second (encode c ++ rest) ≡ encode c ++ unquoted false rest
unfolding encode
wide_stays second c rest wide = by_first (ltb c 128) refl
  where
    next : ℕ → ℕ
    next bits = 128 + bits % 64

    by_len : (a b : Bool)
        → unquoted second (cond a ((192 + c / 64) ∷ (128 + c % 64) ∷ []) (cond b ((224 + c / 4096) ∷ (128 + (c / 64) % 64) ∷ (128 + c % 64) ∷ []) ((240 + c / 262144) ∷ (128 + (c / 4096) % 64) ∷ (128 + (c / 64) % 64) ∷ (128 + c % 64) ∷ [])) ++ rest)
        ≡ cond a ((192 + c / 64) ∷ (128 + c % 64) ∷ []) (cond b ((224 + c / 4096) ∷ (128 + (c / 64) % 64) ∷ (128 + c % 64) ∷ []) ((240 + c / 262144) ∷ (128 + (c / 4096) % 64) ∷ (128 + (c / 64) % 64) ∷ (128 + c % 64) ∷ [])) ++ unquoted false rest
    by_len true b = stay_twice second (192 + c / 64) (128 + c % 64) rest (omega arith) (omega arith)
    by_len false true =
        stays second (224 + c / 4096) ((128 + (c / 64) % 64) ∷ (128 + c % 64) ∷ rest) (omega arith)
        ∙ ap (λ more. (224 + c / 4096) ∷ more) (stay_twice false (128 + (c / 64) % 64) (128 + c % 64) rest (omega arith) (omega arith))
    by_len false false =
        stay_twice second (240 + c / 262144) (128 + (c / 4096) % 64) ((128 + (c / 64) % 64) ∷ (128 + c % 64) ∷ rest) (omega arith) (omega arith)
        ∙ ap (λ more. (240 + c / 262144) ∷ (128 + (c / 4096) % 64) ∷ more) (stay_twice false (128 + (c / 64) % 64) (128 + c % 64) rest (omega arith) (omega arith))

    by_first : (f : Bool) → ltb c 128 ≡ f
        → unquoted second (cond f (c ∷ []) (cond (ltb c 2048) ((192 + c / 64) ∷ (128 + c % 64) ∷ []) (cond (ltb c 65536) ((224 + c / 4096) ∷ (128 + (c / 64) % 64) ∷ (128 + c % 64) ∷ []) ((240 + c / 262144) ∷ (128 + (c / 4096) % 64) ∷ (128 + (c / 64) % 64) ∷ (128 + c % 64) ∷ []))) ++ rest)
        ≡ cond f (c ∷ []) (cond (ltb c 2048) ((192 + c / 64) ∷ (128 + c % 64) ∷ []) (cond (ltb c 65536) ((224 + c / 4096) ∷ (128 + (c / 64) % 64) ∷ (128 + c % 64) ∷ []) ((240 + c / 262144) ∷ (128 + (c / 4096) % 64) ∷ (128 + (c / 64) % 64) ∷ (128 + c % 64) ∷ []))) ++ unquoted false rest
    by_first true e = absurd (omega (arith, ltb→lt c 128 (subst T (sym e) tt), wide))
    by_first false e = by_len (ltb c 2048) (ltb c 65536)

quote_case : (q : Bool) (c : ℕ) (xs ys cs ds : List ℕ) → encode c ≡ c ∷ [] → xs ≡ encodes cs → ys ≡ encodes ds → (if q then xs else c ∷ ys) ≡ encodes (if q then cs else c ∷ ds)
quote_case true c xs ys cs ds one some other = some
quote_case false c xs ys cs ds one some other = ap (λ more. c ∷ more) other ∙ ap (λ text. text ++ encodes ds) (sym one)

small_case : (second b : Bool) (c : ℕ) (cs : List ℕ) → nat_lt c 128 ≡ b → unquoted true (encodes cs) ≡ encodes (unquoted true cs) → unquoted false (encodes cs) ≡ encodes (unquoted false cs)
    → unquoted second (encode c ++ encodes cs) ≡ encodes (unquoted second (c ∷ cs))
small_case second true c cs e some other =
    let one = encode_ascii c (grind (arith, e)) in
    ap (λ text. unquoted second (text ++ encodes cs)) one
    ∙ quote_case (nat_eq c 39 && not second) c (unquoted true (encodes cs)) (unquoted false (encodes cs)) (unquoted true cs) (unquoted false cs) one some other
small_case second false c cs e some other =
    let wide : 128 ≤ c = grind (arith, e) in
    wide_stays second c (encodes cs) wide ∙ ap (λ more. encode c ++ more) other ∙ sym (ap encodes (stays second c cs wide))

-- what is left of characters, where quotes are taken out, are characters
unquoted_encodes : (second : Bool) (cs : List ℕ) → unquoted second (encodes cs) ≡ encodes (unquoted second cs)
unquoted_encodes second [] = refl
unquoted_encodes second (c ∷ cs) = small_case second (nat_lt c 128) c cs refl (unquoted_encodes true cs) (unquoted_encodes false cs)

scalar_case : (q : Bool) (c : ℕ) (xs ys : List ℕ) → scalar c ≡ true → scalars xs ≡ true → scalars ys ≡ true → scalars (if q then xs else c ∷ ys) ≡ true
scalar_case true c xs ys one some other = some
scalar_case false c xs ys one some other = both_true (scalar c) (scalars ys) one other
  where
    both_true : (a b : Bool) → a ≡ true → b ≡ true → (a && b) ≡ true
    both_true true b h k = k
    both_true false b h k = h

and_first : (a b : Bool) → (a && b) ≡ true → a ≡ true
and_first true b h = refl
and_first false b h = h

and_second : (a b : Bool) → (a && b) ≡ true → b ≡ true
and_second true b h = h
and_second false b h = absurd (let same : false ≡ true = h in cc)

unquoted_scalars : (second : Bool) (cs : List ℕ) → scalars cs ≡ true → scalars (unquoted second cs) ≡ true
unquoted_scalars second [] h = refl
unquoted_scalars second (c ∷ cs) h =
    let more = and_second (scalar c) (scalars cs) h in
    scalar_case (nat_eq c 39 && not second) c (unquoted true cs) (unquoted false cs) (and_first (scalar c) (scalars cs) h) (unquoted_scalars true cs more) (unquoted_scalars false cs more)

unquoted_utf8 : (raw : List ℕ) → is_utf8 raw ≡ true → is_utf8 (unquoted false raw) ≡ true
unquoted_utf8 raw h =
    let was = IsUtf8-from_is_utf8 raw h in
    let cs = was.0 in
    is_utf8-from_IsUtf8 (unquoted false raw) (unquoted false cs, (unquoted_scalars false cs was.1.0, sym (unquoted_encodes false cs) ∙ ap (unquoted false) was.1.1))

-- ---- tokens

good_if : (b : Bool) (x y : Option Front) → (b ≡ true → IsGoodFront x) → IsGoodFront y → IsGoodFront (if b then x else y)
good_if true x y one other = one refl
good_if false x y one other = other

kind_if : (b : Bool) (x y : Kind) → IsGood x → IsGood y → IsGood (if b then x else y)
kind_if true x y one other = one
kind_if false x y one other = other

good_reserved : (w : List ℕ) → IsGood (reserved_kind w)
good_reserved w =
    kind_if (pointwise nat_eq w (codes "and")) And _ tt
    (kind_if (pointwise nat_eq w (codes "or")) Or _ tt
    (kind_if (pointwise nat_eq w (codes "not")) Not _ tt (kind_if (pointwise nat_eq w (codes "in")) In _ tt (kind_if (pointwise nat_eq w (codes "is")) Is Null tt tt))))

good_kind : (label : Option (List ℕ)) (w : List ℕ) → IsGood (kind_by label w)
good_kind (Some label) w = tt
good_kind None w = good_reserved w

good_equals : (longer shorter : CondOp) (bytes : List ℕ) → IsGoodFront (with_equals longer shorter bytes)
good_equals longer shorter bytes = good_if (begins_with 61 bytes) (token (Compares longer) 2) (token (Compares shorter) 1) (λ _. tt) tt

good_unequal : (bytes : List ℕ) → IsGoodFront (unequal bytes)
good_unequal bytes = good_if (begins_with 61 bytes) (token (Compares Unequal) 2) None (λ _. tt) tt

good_number : (bytes : List ℕ) → IsBytes bytes → IsGoodFront (number bytes)
good_number bytes all = number_few (digits_of bytes) bytes all (digits_few bytes)

good_negative : (bytes : List ℕ) → IsBytes bytes → IsGoodFront (negative bytes)
good_negative bytes all =
    good_if (nat_eq (digits_of bytes) 0) None _ (λ _. tt) (neg_fits (decimal_from 0 (take (digits_of bytes) bytes)) (number_few (digits_of bytes) bytes all (digits_few bytes)))

good_text_to : (end : Option ℕ) (bytes : List ℕ) → IsBytes bytes → length bytes < 2 ^ 64 → IsGoodFront (text_to end bytes)
good_text_to None bytes all short = tt
good_text_to (Some end) bytes all short =
    let raw = take (end - 1) bytes in
    let count = length-take (end - 1) bytes in
    let less : length raw ≤ length bytes = omega (arith, count, min-le_right (end - 1) (length bytes)) in
    let room : length (unquoted false raw) < 2 ^ 64 = omega (arith, unquoted_short false raw, less, short) in
    good_if (is_utf8 raw) (token (Text raw) (end + 1)) None
    (λ h. ((room, unquoted_bytes false raw (IsBytes-take (end - 1) bytes all)), unquoted_utf8 raw h)) tt

good_blob : (bytes behind : List ℕ) → IsBytes behind → length behind < 2 ^ 64 → IsGoodFront (blob_or_word bytes behind)
good_blob bytes behind all short =
    let n = run_of is_ascii_hexdigit (drop 1 behind) in
    let digits = take n (drop 1 behind) in
    let count = length-take n (drop 1 behind) in
    let less : length digits ≤ length behind = omega (arith, count, min-le_right n (length (drop 1 behind)), length-drop 1 behind) in
    let room : length (unhexed digits) < 2 ^ 64 = omega (arith, unhexed_short digits, less, short) in
    good_if (begins_with 39 behind && is_blob (drop 1 behind)) (token (Blob digits) (n + 3)) (word bytes) (λ _. (room, unhexed_bytes digits)) (good_kind (label_of (take (word_len bytes) bytes)) (take (word_len bytes) bytes))

good_front : (bytes : List ℕ) → IsBytes bytes → length bytes < 2 ^ 64 → IsGoodFront (front bytes)
good_front [] all short = tt
good_front (b ∷ bs) all short =
    let behind : IsBytes bs = λ i. all (suc i) in
    let less : length bs < 2 ^ 64 = omega (arith, short) in
    good_if (nat_eq b 32 || nat_eq b 9) blank _ (λ _. tt)
    (good_if (nat_eq b 40) (token Open 1) _ (λ _. tt)
    (good_if (nat_eq b 41) (token Close 1) _ (λ _. tt)
    (good_if (nat_eq b 44) (token Comma 1) _ (λ _. tt)
    (good_if (nat_eq b 61) (token (Compares Equal) 1) _ (λ _. tt)
    (good_if (nat_eq b 60) (with_equals AtMost Less bs) _ (λ _. good_equals AtMost Less bs)
    (good_if (nat_eq b 62) (with_equals AtLeast Greater bs) _ (λ _. good_equals AtLeast Greater bs)
    (good_if (nat_eq b 33) (unequal bs) _ (λ _. good_unequal bs)
    (good_if (nat_eq b 45) (negative bs) _ (λ _. good_negative bs behind)
    (good_if (nat_eq b 39) (text bs) _ (λ _. good_text_to (end_from 0 false bs) bs behind less)
    (good_if (nat_eq b 120) (blob_or_word (b ∷ bs) bs) _ (λ _. good_blob (b ∷ bs) bs behind less)
    (good_if (is_ascii_digit b) (number (b ∷ bs)) _ (λ _. good_number (b ∷ bs) all)
    (good_if (is_ascii_alphabetic b) (word (b ∷ bs)) None (λ _. good_kind (label_of (take (word_len (b ∷ bs)) (b ∷ bs))) (take (word_len (b ∷ bs)) (b ∷ bs))) tt))))))))))))

good_put_kind : (kind : Option Kind) (at : ℕ) (rest : Scan) → IsGoodOr kind → AreGood rest → AreGood (put_kind kind at rest)
good_put_kind None at rest good more = more
good_put_kind (Some kind) at rest good more = (good, more)

good_put : (front : Option Front) (at : ℕ) (rest : Scan) → IsGoodFront front → AreGood rest → AreGood (put front at rest)
good_put None at rest good more = tt
good_put (Some front) at rest good more = good_put_kind front.kind at rest good more

good_scan : (skip at : ℕ) (bytes : List ℕ) → IsBytes bytes → length bytes < 2 ^ 64 → AreGood (scan skip at bytes)
unfolding scan
good_scan skip at [] all short = tt
good_scan (suc skip) at (b ∷ bs) all short = good_scan skip (at + 1) bs (λ i. all (suc i)) (omega (arith, short))
good_scan zero at (b ∷ bs) all short =
    good_put (front (b ∷ bs)) at (scan (more_of (front (b ∷ bs))) (at + 1) bs) (good_front (b ∷ bs) all short) (good_scan (more_of (front (b ∷ bs))) (at + 1) bs (λ i. all (suc i)) (omega (arith, short)))

-- the tokens of a text in memory
pub good_tokens : (text : List ℕ) → IsBytes text → length text < 2 ^ 64 → AreGood (tokens_of text)
good_tokens text all short = good_scan 0 0 text all short
