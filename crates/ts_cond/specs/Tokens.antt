-- The tokens of a condition's text: each is the longest that stands at its place, but a quoted text ends at the first quote that is not doubled.
use Rattle.std.specs.Prelude.{ℕ, zero, suc, ◌+◌, ◌-◌, ◌*◌, ◌%◌, ℤ, pos, neg_ℤ, min, Bool, true, false, ◌&&◌, ◌||◌, not, if◌then◌else◌, List, [], ◌∷◌, take, drop, codes, Option, Some, None, nat_eq, nat_le}
use Rattle.std.specs.Char.{is_ascii_digit, is_ascii_alphabetic, is_ascii_hexdigit}
use Rattle.std.specs.Cmp.Lexicographic.{pointwise}
use Rattle.std.specs.Str.{is_utf8}
use Rattle.ts_base.specs.Labels.{is_word_byte, label_of}
use Rattle.ts_cond.specs.declared.nodes.CondOp.{CondOp}
use Rattle.ts_cond.specs.declared.nodes.CondOp.TheVariants.{Less, AtMost, Greater, AtLeast, Equal, Unequal}

-- what a token is: a mark, a word, a label, or a value; a text has its quotes still doubled, a blob is in hexadecimal digits
pub data Kind : Type 0 where
  Open : Kind
  Close : Kind
  Comma : Kind
  And : Kind
  Or : Kind
  Not : Kind
  In : Kind
  Is : Kind
  Null : Kind
  Compares : CondOp → Kind
  Label : List ℕ → Kind
  Number : ℤ → Kind
  Text : List ℕ → Kind
  Blob : List ℕ → Kind

-- what stands at the front of a text: a blank where there is no token, and how many bytes it has
pub record Front : Type 0 where
  pub kind : Option Kind
  pub len : ℕ

abbrev pub token : Kind → ℕ → Option Front
token kind len = Some (record { kind = Some kind; len = len })

abbrev pub blank : Option Front
blank = Some (record { kind = None; len = 1 })

abbrev pub begins_with : ℕ → List ℕ → Bool
begins_with b [] = false
begins_with b (x ∷ xs) = nat_eq x b

-- the first byte passes the test
abbrev pub starts : (ℕ → Bool) → List ℕ → Bool
starts test [] = false
starts test (b ∷ bs) = test b

-- where the first byte stands that fails the test; `place` bytes stand before these
abbrev pub run_from : ℕ → (ℕ → Bool) → List ℕ → ℕ
run_from place test [] = place
run_from place test (b ∷ bs) = if test b then run_from (place + 1) test bs else place

-- so many of the first bytes pass the test
abbrev pub run_of : (ℕ → Bool) → List ℕ → ℕ
run_of test bytes = run_from 0 test bytes

-- one of two comparisons, the longer where a `=` follows
abbrev pub with_equals : CondOp → CondOp → List ℕ → Option Front
with_equals longer shorter bytes = if begins_with 61 bytes then token (Compares longer) 2 else token (Compares shorter) 1

-- `!` is no token without its `=`
abbrev pub unequal : List ℕ → Option Front
unequal bytes = if begins_with 61 bytes then token (Compares Unequal) 2 else None

-- the number that decimal digits spell behind another
abbrev pub decimal_from : ℕ → List ℕ → ℕ
decimal_from value [] = value
decimal_from value (b ∷ bs) = decimal_from (value * 10 + (b - 48)) bs

-- at most 20 digits
abbrev pub digits_of : List ℕ → ℕ
digits_of bytes = min 20 (run_of is_ascii_digit bytes)

abbrev pub number : List ℕ → Option Front
number bytes = token (Number (pos (decimal_from 0 (take (digits_of bytes) bytes)))) (digits_of bytes)

-- what follows a minus sign
abbrev pub negative : List ℕ → Option Front
negative bytes =
    if nat_eq (digits_of bytes) 0 then None
    else token (Number (neg_ℤ (pos (decimal_from 0 (take (digits_of bytes) bytes))))) (digits_of bytes + 1)

-- where a text ends behind its opening quote: before the first byte that follows an odd number of quotes in a row; `odd` whether that many stand before
abbrev pub end_from : ℕ → Bool → List ℕ → Option ℕ
end_from place false [] = None
end_from place true [] = Some place
end_from place odd (b ∷ bs) = if nat_eq b 39 then end_from (place + 1) (not odd) bs else (if odd then Some place else end_from (place + 1) false bs)

-- a text in UTF-8 that ends at this place, or not at all
abbrev pub text_to : Option ℕ → List ℕ → Option Front
text_to None bytes = None
text_to (Some end) bytes = if is_utf8 (take (end - 1) bytes) then token (Text (take (end - 1) bytes)) (end + 1) else None

-- what follows an opening quote
abbrev pub text : List ℕ → Option Front
text bytes = text_to (end_from 0 false bytes) bytes

-- the word that is no label
abbrev pub reserved_kind : List ℕ → Kind
reserved_kind word =
    if pointwise nat_eq word (codes "and") then And
    else if pointwise nat_eq word (codes "or") then Or
    else if pointwise nat_eq word (codes "not") then Not
    else if pointwise nat_eq word (codes "in") then In
    else if pointwise nat_eq word (codes "is") then Is
    else Null

abbrev pub kind_by : Option (List ℕ) → List ℕ → Kind
kind_by (Some label) word = Label label
kind_by None word = reserved_kind word

-- at most 64 bytes
abbrev pub word_len : List ℕ → ℕ
word_len bytes = min 64 (run_of is_word_byte bytes)

-- a label, or one of the words that are none
abbrev pub word : List ℕ → Option Front
word bytes = token (kind_by (label_of (take (word_len bytes) bytes)) (take (word_len bytes) bytes)) (word_len bytes)

-- behind `x'`: pairs of hexadecimal digits, and a quote
abbrev pub is_blob : List ℕ → Bool
is_blob bytes = nat_eq (run_of is_ascii_hexdigit bytes % 2) 0 && begins_with 39 (drop (run_of is_ascii_hexdigit bytes) bytes)

-- a blob behind its `x`, if one stands there
abbrev pub blob_or_word : List ℕ → List ℕ → Option Front
blob_or_word bytes behind =
    if begins_with 39 behind && is_blob (drop 1 behind)
    then token (Blob (take (run_of is_ascii_hexdigit (drop 1 behind)) (drop 1 behind))) (run_of is_ascii_hexdigit (drop 1 behind) + 3)
    else word bytes

-- what stands at the front: nothing where the first byte begins no token
abbrev pub front : List ℕ → Option Front
front [] = None
front (b ∷ bs) =
    if nat_eq b 32 || nat_eq b 9 then blank
    else if nat_eq b 40 then token Open 1
    else if nat_eq b 41 then token Close 1
    else if nat_eq b 44 then token Comma 1
    else if nat_eq b 61 then token (Compares Equal) 1
    else if nat_eq b 60 then with_equals AtMost Less bs
    else if nat_eq b 62 then with_equals AtLeast Greater bs
    else if nat_eq b 33 then unequal bs
    else if nat_eq b 45 then negative bs
    else if nat_eq b 39 then text bs
    else if nat_eq b 120 then blob_or_word (b ∷ bs) bs
    else if is_ascii_digit b then number (b ∷ bs)
    else if is_ascii_alphabetic b then word (b ∷ bs)
    else None

-- a text in tokens, each with the offset of its first byte: the text's end, a byte that begins no token, or a token and the rest
pub data Scan : Type 0 where
  End : ℕ → Scan
  Bad : ℕ → Scan
  Then : Kind → ℕ → Scan → Scan

-- a token and then the rest, or the rest alone
abbrev pub put_kind : Option Kind → ℕ → Scan → Scan
put_kind None at rest = rest
put_kind (Some kind) at rest = Then kind at rest

-- what is at the front, and then the rest
abbrev pub put : Option Front → ℕ → Scan → Scan
put None at rest = Bad at
put (Some front) at rest = put_kind front.kind at rest

-- how many more bytes what is at the front has behind its first
abbrev pub more_of : Option Front → ℕ
more_of None = 0
more_of (Some front) = front.len - 1

-- the tokens of the bytes from here on, where the first `skip` belong to the last token
unfoldable pub scan : ℕ → ℕ → List ℕ → Scan
scan skip at [] = End at
scan (suc skip) at (b ∷ bs) = scan skip (at + 1) bs
scan zero at (b ∷ bs) = put (front (b ∷ bs)) at (scan (more_of (front (b ∷ bs))) (at + 1) bs)

-- the tokens of a text
abbrev pub tokens_of : List ℕ → Scan
tokens_of bytes = scan 0 0 bytes

-- a text without the first of each two quotes; `second` whether that one was the last byte
abbrev pub unquoted : Bool → List ℕ → List ℕ
unquoted second [] = []
unquoted second (b ∷ bs) = if nat_eq b 39 && not second then unquoted true bs else b ∷ unquoted false bs

-- the number of a hexadecimal digit
abbrev pub hex_digit : ℕ → ℕ
hex_digit b = if nat_le b 57 then b - 48 else if nat_le b 70 then b - 55 else min 15 (b - 87)

-- the bytes that pairs of digits spell
abbrev pub unhexed : List ℕ → List ℕ
unhexed (high ∷ low ∷ rest) = (16 * hex_digit high + hex_digit low) ∷ unhexed rest
unhexed _ = []
