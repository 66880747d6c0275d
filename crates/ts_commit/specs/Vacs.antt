-- The object of a `.vac`: how its names are spelled, and how they are read.
use Rattle.std.specs.Prelude.{◌≡◌, ◌≤◌, ℕ, ◌+◌, ◌-◌, ◌^◌, ◌==◌, Bool, true, ◌&&◌, cond, nat_eq, nat_lt, nat_le, max, filter, List, [], ◌∷◌, ◌++◌, length, take, drop, slice_index_or, Option, Some, None, Result, Ok, Err}
use Rattle.std.specs.Cmp.Lexicographic.{pointwise}
use Rattle.std.specs.Int.{from_be_bytes, w128}
use Rattle.std.specs.List.{flat_map, before_first, after_first, position}
use Rattle.std.specs.Option.{option_map_or}
use Rattle.std.specs.Str.Parse.{digits_value}
use Rattle.uuid.specs.Text.{parsed}
use Rattle.ts_base.specs.declared.keys.FragKey.{FragKey}
use Rattle.ts_base.specs.declared.names.CommitKind.TheVariants as kind
use Rattle.ts_base.specs.declared.names.Name.{Name}
use Rattle.ts_base.specs.declared.names.Name.TheVariants as name
use Rattle.ts_base.specs.Keys.{frag_lt}
use Rattle.ts_base.specs.Names.{IsSpelledFrag}
use Rattle.ts_base.specs.Spelling.{frag_text, FitsFrag}
use Rattle.ts_wire.specs.declared.kinds.Kind.TheVariants as object
use Rattle.ts_wire.specs.Envelope.{wrapped, unwrapped}
use Rattle.ts_wire.specs.Exact.{InTurn}
use Rattle.ts_wire.specs.Place.{Place, Read, place, ◌>>=◌, items_at, whole}

-- ---- how names are spelled

-- a line: a fragment's name and a line feed
unfoldable pub line_bytes : FragKey → List ℕ
line_bytes f = frag_text f ++ 10 ∷ []

-- the object: a line for each name
unfoldable pub vac_object : List FragKey → List ℕ
vac_object names = wrapped object.Vac (flat_map line_bytes names)

-- the fragment may stand behind these: it is above the last of them
abbrev pub follows : List FragKey → FragKey → Bool
follows front f = cond (nat_eq (length front) 0) true (frag_lt (slice_index_or front (length front - 1) f) f)

-- a name behind others: it has a spelling, and it is above those
pub record FitsName (front : List FragKey) (f : FragKey) : Type 0 where
  pub spelled : IsSpelledFrag f
  pub fits : FitsFrag f
  pub ascends : follows front f ≡ true

-- names that a `.vac` may have: one or more, each with a spelling, ascending and each once
pub record AreNames (names : List FragKey) : Type 0 where
  pub some : 1 ≤ length names
  pub each : InTurn FitsName [] names

-- ---- how they are read

-- a text behind its first `_`, and before it
abbrev pub behind : List ℕ → List ℕ
behind text = after_first (λ b. b == 95) text

abbrev pub before : List ℕ → List ℕ
before text = before_first (λ b. b == 95) text

-- the pieces of a text of the form `__t1_t2_id_v`, as numbers
abbrev pub pieces_of : List ℕ → FragKey
pieces_of text = record {
  t1 = digits_value 10 (before (behind (behind text)));
  t2 = digits_value 10 (before (behind (behind (behind text))));
  id = option_map_or (from_be_bytes w128) (parsed (before (behind (behind (behind (behind text)))))) 0;
  v = digits_value 10 (behind (behind (behind (behind (behind text)))));
}

-- the text is the spelling of the fragment
abbrev pub does_spell : FragKey → List ℕ → Bool
does_spell f text = (nat_le f.t1 f.t2 && nat_eq f.v 1) && ((nat_lt f.t1 (2 ^ 64) && (nat_lt f.t2 (2 ^ 64) && nat_lt f.id (2 ^ 128))) && pointwise nat_eq text (frag_text f))

-- the text is the spelling of a fragment whose key has one
pub record IsFragText (f : FragKey) (text : List ℕ) : Type 0 where
  pub spelled : IsSpelledFrag f
  pub fits : FitsFrag f
  pub same : text ≡ frag_text f

-- the fragment whose spelling the text is, if it is one
unfoldable pub frag_in : List ℕ → Option FragKey
frag_in text = cond (does_spell (pieces_of text) text) (Some (pieces_of text)) None

-- the fragment of a `.vac`
abbrev pub merged_in : Option Name → Option FragKey
merged_in (Some (name.Commit f kind.Vac)) = Some f
merged_in _ = None

-- a line feed
abbrev pub is_feed : ℕ → Bool
is_feed b = b == 10

-- the fragment, if it may stand behind these
abbrev pub behind_of : List FragKey → Option FragKey → Option FragKey
behind_of front None = None
behind_of front (Some f) = cond (follows front f) (Some f) None

-- the name of a line with so many bytes before its line feed
abbrev pub named_at : Place → ℕ → Option FragKey → Read FragKey
named_at p n None = Err p.at
named_at p n (Some f) = Ok (f, place (drop (n + 1) p.rest) (p.at + (n + 1)))

abbrev pub line_to : List FragKey → Place → Option ℕ → Read FragKey
line_to front p None = Err p.at
line_to front p (Some n) = named_at p n (behind_of front (frag_in (take n p.rest)))

-- a line behind others: a name that may stand there, up to the first line feed
unfoldable pub line_at : List FragKey → Place → Read FragKey
line_at front p = line_to front p (position is_feed p.rest)

-- how many lines there are to be: as many as line feeds, and one at least
abbrev pub lines_in : List ℕ → ℕ
lines_in body = max 1 (length (filter is_feed body))

-- the names that an object spells, or the offset of its first broken field; a line is one field
unfoldable pub names_of : List ℕ → Result (List FragKey) ℕ
names_of bytes = unwrapped object.Vac bytes >>= λ body. whole (items_at line_at (lines_in body) []) (place body 14)
