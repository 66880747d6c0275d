-- The piece that a plain object holds.
use Rattle.std.specs.Prelude.{◌≡◌, ℕ, ◌^◌, ◌<◌, List, length, map, get_or, Option, Some, Result, Ok, Err}
use Rattle.ts_base.specs.declared.keys.Key.{Key}
use Rattle.ts_base.specs.declared.keys.FragKey.{FragKey}
use Rattle.ts_base.specs.declared.heads.Version.{Version}
use Rattle.ts_base.specs.declared.heads.Piece.{Piece}
use Rattle.ts_base.specs.declared.heads.Head.{Head}
use Rattle.ts_base.specs.declared.names.Part.{Part}
use Rattle.ts_base.specs.declared.names.Part.TheVariants as part
use Rattle.ts_wire.specs.declared.faults.ReadFault.{ReadFault}
use Rattle.ts_wire.specs.declared.faults.ReadFault.TheVariants as fault
use Rattle.ts_wire.specs.declared.kinds.Kind.TheVariants as kind
use Rattle.ts_wire.specs.Place.{◌>>=◌}
use Rattle.ts_wire.specs.Envelope.{wrapped}
use Rattle.ts_schema.specs.declared.attrs.Attr.{Attr}
use Rattle.ts_schema.specs.declared.frames.Frame.{Frame}
use Rattle.ts_schema.specs.declared.schemas.Schema.{Schema}
use Rattle.ts_plain.specs.declared.stored.StoredHead.{StoredHead}
use Rattle.ts_plain.specs.declared.stored.StoredCell.{StoredCell}
use Rattle.ts_plain.specs.declared.stored.StoredPiece.{StoredPiece}
use Rattle.ts_plain.specs.Rules.{counted}
use Rattle.ts_plain.specs.Plain.{plain_stored, head_stored, plain_bytes, FitsPlain}

-- no key, where there is no such origin
abbrev pub no_key : Key
no_key = record { t = 0; id = 0 }

-- the key at a place in a list of origins
abbrev pub origin_key : List Key → ℕ → Key
origin_key origins place = get_or origins place no_key

-- the version that a cell holds
abbrev pub version_in : StoredHead → StoredCell → Version
version_in head cell = record { key = origin_key head.origins cell.origin; schema = head.schema; coords = cell.coords; row = cell.row }

-- the head of the fragment: a dense one counts the cells of its hull
unfoldable pub head_of : FragKey → StoredHead → Head
head_of frag head = record {
  frag = frag;
  schema = head.schema;
  dense = head.dense;
  consolidated = head.consolidated;
  low = map (λ side. side.low) head.hull;
  high = map (λ side. side.high) head.hull;
  cells = counted head.dense head.hull head.cells;
  origins = head.origins;
}

-- the piece that what is stored holds, under the name of its fragment
unfoldable pub piece_of : FragKey → StoredPiece → Piece
piece_of frag stored = record { head = head_of frag stored.head; versions = map (version_in stored.head) stored.cells }

-- the piece that the object under this name holds, or the offset of the first broken field
unfoldable pub plain_piece : Frame → List Attr → FragKey → List ℕ → Result Piece ℕ
plain_piece frame attrs frag object = plain_stored frame attrs frag object >>= λ stored. Ok (piece_of frag stored)

-- the head of the piece that the object under this name holds, or the offset of the first broken field before the cells
unfoldable pub plain_head : Frame → FragKey → List ℕ → Result Head ℕ
plain_head frame frag object = head_stored frame frag object >>= λ head. Ok (head_of frag head)

-- where a call answers an offset, the object is broken there
abbrev pub BreaksSo : {A B : Type 0} → Result B ℕ → Result A ReadFault → Type 0
BreaksSo answer (Ok _) = Unit {0}
BreaksSo answer (Err (fault.Damaged damaged)) = answer ≡ Err damaged.at
BreaksSo answer (Err fault.OutOfMemory) = Unit {0}

-- the bytes are those of an object that holds the piece
pub record IsPlainObject (frame : Frame) (attrs : List Attr) (piece : Piece) (bytes : List ℕ) : Type 0 where
  pub stored : StoredPiece
  pub fits : FitsPlain frame attrs piece.head.frag stored
  pub few : length (plain_bytes stored) < 2 ^ 64
  pub spelled : bytes ≡ wrapped kind.Plain (plain_bytes stored)
  pub same : piece ≡ piece_of piece.head.frag stored

-- the one part of the fragment is a plain object that holds the piece
abbrev pub IsPlain : Frame → Schema → Piece → (Part → Option (List ℕ)) → Type 0
IsPlain frame schema piece parts = (bytes : List ℕ) × (parts part.Plain ≡ Some bytes) × IsPlainObject frame schema.attrs piece bytes
