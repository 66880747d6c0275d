-- The bytes of digits, two for each.
use Rattle.std.proofs.Common.{◌≡◌, ℕ, ◌+◌, ◌*◌, ◌<◌, ◌≤◌, List, [], ◌∷◌, ◌++◌, length, drop, get_or, Option, Some, None, refl, sym, ap, ◌∙◌, append_assoc, arith}
use Rattle.std.specs.Prelude.{◌/◌, ◌%◌, option_and_then}
use Rattle.std.specs.Option.{option_map}
use Rattle.std.proofs.lemmas.List.{drop_more, drop_all}
use Rattle.ts_model.specs.Commands.{hex_digit, blob_bytes, byte_of}

-- what is left begins with two digits
two_left : (text : List ℕ) (pair high low : ℕ) → pair < length text / 2 → high ≡ get_or text (2 * pair) 0 → low ≡ get_or text (2 * pair + 1) 0 → drop (2 * pair) text ≡ high ∷ low ∷ drop (2 * (pair + 1)) text
two_left text pair high low lt first second =
    let one : drop (2 * pair) text ≡ get_or text (2 * pair) 0 ∷ drop (2 * pair + 1) text = drop_more text (2 * pair) 0 (omega (arith, lt)) in
    let two : drop (2 * pair + 1) text ≡ get_or text (2 * pair + 1) 0 ∷ drop (2 * pair + 1 + 1) text = drop_more text (2 * pair + 1) 0 (omega (arith, lt)) in
    let next : 2 * pair + 1 + 1 ≡ 2 * (pair + 1) = omega arith in
    one ∙ ap (λ x. x ∷ drop (2 * pair + 1) text) (sym first) ∙ ap (λ xs. high ∷ xs) (two ∙ ap (λ x. x ∷ drop (2 * pair + 1 + 1) text) (sym second) ∙ ap (λ n. low ∷ drop n text) next)

-- one byte more in front
pushed : (bytes : List ℕ) (byte : ℕ) (o : Option (List ℕ)) → option_map (λ rest. (bytes ++ byte ∷ []) ++ rest) o ≡ option_map (λ rest. bytes ++ rest) (option_map (λ rest. byte ∷ rest) o)
pushed bytes byte None = refl
pushed bytes byte (Some rest) = ap Some (append_assoc bytes (byte ∷ []) rest)

-- the bytes of two digits and more
by_byte : (high low : ℕ) (rest : List ℕ) → blob_bytes (high ∷ low ∷ rest) ≡ option_and_then (λ byte. option_map (λ bytes. byte ∷ bytes) (blob_bytes rest)) (byte_of high low)
by_byte high low rest = by (hex_digit high) (hex_digit low)
  where
    by : (h l : Option ℕ) → option_and_then (λ high. option_and_then (λ low. option_map (λ bytes. (high * 16 + low) ∷ bytes) (blob_bytes rest)) l) h
        ≡ option_and_then (λ byte. option_map (λ bytes. byte ∷ bytes) (blob_bytes rest)) (option_and_then (λ high. option_map (λ low. high * 16 + low) l) h)
    by None l = refl
    by (Some h) None = refl
    by (Some h) (Some l) = refl

module _ (text bytes : List ℕ) (pair high low : ℕ) (whole : Option (List ℕ)) (lt : pair < length text / 2) (first : high ≡ get_or text (2 * pair) 0) (second : low ≡ get_or text (2 * pair + 1) 0) (was : option_map (λ rest. bytes ++ rest) (blob_bytes (drop (2 * pair) text)) ≡ whole) where
  -- what the two digits are, and the bytes of the rest
  at_byte : option_map (λ rest. bytes ++ rest) (option_and_then (λ byte. option_map (λ rest. byte ∷ rest) (blob_bytes (drop (2 * (pair + 1)) text))) (byte_of high low)) ≡ whole
  at_byte = ap (option_map (λ rest. bytes ++ rest)) (sym (by_byte high low (drop (2 * (pair + 1)) text))) ∙ ap (λ xs. option_map (λ rest. bytes ++ rest) (blob_bytes xs)) (sym (two_left text pair high low lt first second)) ∙ was

  -- two digits that are a byte
  pub blob_more : (byte : ℕ) → byte_of high low ≡ Some byte → option_map (λ rest. (bytes ++ byte ∷ []) ++ rest) (blob_bytes (drop (2 * (pair + 1)) text)) ≡ whole
  blob_more byte e =
      pushed bytes byte (blob_bytes (drop (2 * (pair + 1)) text))
      ∙ ap (λ o. option_map (λ rest. bytes ++ rest) (option_and_then (λ b. option_map (λ rest. b ∷ rest) (blob_bytes (drop (2 * (pair + 1)) text))) o)) (sym e) ∙ at_byte

-- a digit is left over
pub blob_odd : (text bytes : List ℕ) (pair : ℕ) (whole : Option (List ℕ)) → length text / 2 ≤ pair → pair ≤ length text / 2 → length text % 2 ≡ 1 → option_map (λ rest. bytes ++ rest) (blob_bytes (drop (2 * pair) text)) ≡ whole → None ≡ whole
blob_odd text bytes pair whole le ge odd was =
    let one : drop (2 * pair) text ≡ get_or text (2 * pair) 0 ∷ drop (2 * pair + 1) text = drop_more text (2 * pair) 0 (omega (arith, le, ge, odd)) in
    let none : drop (2 * pair + 1) text ≡ [] = drop_all (2 * pair + 1) text (omega (arith, le, ge, odd)) in
    ap (λ xs. option_map (λ rest. bytes ++ rest) (blob_bytes xs)) (sym (one ∙ ap (λ xs. get_or text (2 * pair) 0 ∷ xs) none)) ∙ was
