-- Labels: the names of dimensions, attributes and fields.
use Rattle.std.specs.Prelude.{ℕ, Bool, false, ◌&&◌, ◌||◌, not, cond, List, [], ◌∷◌, length, codes, Option, Some, None, nat_eq, nat_le}
use Rattle.std.specs.List.{list_all, list_any}
use Rattle.std.specs.Char.{is_ascii_alphabetic, is_ascii_alphanumeric}
use Rattle.std.specs.Cmp.Lexicographic.{pointwise}

-- an ASCII letter or digit, or the underscore
abbrev pub is_word_byte : ℕ → Bool
is_word_byte b = is_ascii_alphanumeric b || nat_eq b 95

-- an ASCII letter, and then letters, digits and underscores
abbrev pub is_word : List ℕ → Bool
is_word [] = false
is_word (b ∷ bs) = is_ascii_alphabetic b && list_all is_word_byte bs

-- the words that conditions are written with
abbrev pub reserved_words : List (List ℕ)
reserved_words = codes "and" ∷ codes "or" ∷ codes "not" ∷ codes "in" ∷ codes "is" ∷ codes "null" ∷ []

-- the text is one of the reserved words
abbrev pub is_reserved : List ℕ → Bool
is_reserved text = list_any (pointwise nat_eq text) reserved_words

-- a word of at most 64 bytes that is not reserved
abbrev pub is_label : List ℕ → Bool
is_label text = is_word text && nat_le (length text) 64 && not (is_reserved text)

-- the text, where it is a label
abbrev pub label_of : List ℕ → Option (List ℕ)
label_of text = cond (is_label text) (Some text) None
