-- Tokens, as the code has them.
use Rattle.std.specs.Prelude.{ℕ, Bool, Option, Some, None}
use Rattle.std.specs.Char.{is_ascii_digit, is_ascii_hexdigit}
use Rattle.ts_base.specs.Labels.{is_word_byte}
use Rattle.ts_cond.specs.declared.tokens.Class.{Class}
use Rattle.ts_cond.specs.declared.tokens.Class.TheVariants as class
use Rattle.ts_cond.specs.declared.tokens.Kind.{Kind}
use Rattle.ts_cond.specs.declared.tokens.Kind.TheVariants as kind
use Rattle.ts_cond.specs.declared.tokens.Front.{Front}
use Rattle.ts_cond.specs.Tokens as plain

-- whether a byte is of the class
abbrev pub passes : Class → ℕ → Bool
passes class.Digit b = is_ascii_digit b
passes class.Word b = is_word_byte b
passes class.Hex b = is_ascii_hexdigit b

abbrev pub kind_of : Kind → plain.Kind
kind_of kind.Open = plain.Open
kind_of kind.Close = plain.Close
kind_of kind.Comma = plain.Comma
kind_of kind.And = plain.And
kind_of kind.Or = plain.Or
kind_of kind.Not = plain.Not
kind_of kind.In = plain.In
kind_of kind.Is = plain.Is
kind_of kind.Null = plain.Null
kind_of (kind.Compares op) = plain.Compares op
kind_of (kind.Label label) = plain.Label label
kind_of (kind.Number z) = plain.Number z
kind_of (kind.Text bytes) = plain.Text bytes.now
kind_of (kind.Blob digits) = plain.Blob digits.now

abbrev pub some_kind : Option Kind → Option plain.Kind
some_kind (Some kind) = Some (kind_of kind)
some_kind None = None

abbrev pub seen_front : Option Front → Option plain.Front
seen_front None = None
seen_front (Some front) = Some (record { kind = some_kind front.kind; len = front.len })
