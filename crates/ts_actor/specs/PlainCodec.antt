-- How plain fragments are written and read: the whole fragment in its one part, so that a fetch makes no call.
use Rattle.std.specs.Prelude.{◌≡◌, ℕ, true, List, [], ◌∷◌, Result, Ok, Err, Contains}
use Rattle.ts_base.specs.declared.keys.FragKey.{FragKey}
use Rattle.ts_base.specs.declared.names.Part.{Part}
use Rattle.ts_base.specs.declared.names.Part.TheVariants as part
use Rattle.ts_base.specs.declared.names.PartBytes.{PartBytes}
use Rattle.ts_base.specs.declared.heads.Version.{Version}
use Rattle.ts_base.specs.declared.heads.Piece.{Piece}
use Rattle.ts_store.specs.declared.call.Call.{Call}
use Rattle.ts_wire.specs.declared.kinds.Kind.TheVariants as kind
use Rattle.ts_wire.specs.Place.{◌>>=◌}
use Rattle.ts_wire.specs.Envelope.{wrapped}
use Rattle.ts_schema.specs.declared.frames.Frame.{Frame}
use Rattle.ts_schema.specs.declared.schemas.Schema.{Schema}
use Rattle.ts_schema.specs.declared.wants.Want.{Want}
use Rattle.ts_schema.specs.Parts.{Look, Got, Sized}
use Rattle.ts_schema.specs.Wants.{taken}
use Rattle.ts_schema.specs.declared.attrs.Attr.{Attr}
use Rattle.ts_plain.specs.Plain.{plain_bytes, FitsPlain}
use Rattle.ts_plain.specs.Pieces.{plain_piece, plain_head, piece_of}
use Rattle.ts_plain.specs.Writes.{stored_for}
use Rattle.ts_model.specs.Codecs.{Codec, Takes}

-- the one object of a piece
abbrev pub plain_object : Piece → List ℕ
plain_object p = wrapped kind.Plain (plain_bytes (stored_for p))

-- the one part of a piece
abbrev pub plain_parts : Frame → Schema → Piece → List PartBytes
plain_parts frame s p = record { part = part.Plain; bytes = plain_object p } ∷ []

-- the versions that are wanted of the piece that the object holds, or the offset of the first broken field
abbrev pub plain_fetch : Frame → Schema → FragKey → List ℕ → Want → Result (List Version) ℕ
plain_fetch frame s frag object want = plain_piece frame s.attrs frag object >>= λ p. Ok (taken want p.versions)

-- what is stored of the piece keeps all rules, and holds the piece
pub record IsPlainStorable (frame : Frame) (attrs : List Attr) (p : Piece) : Type 0 where
  pub fits : FitsPlain frame attrs p.head.frag (stored_for p)
  pub same : p ≡ piece_of p.head.frag (stored_for p)

-- plain fragments: what is wanted is found in the object that has the head, and no further call is asked for
abbrev pub plain_codec : Codec (List Version)
plain_codec = record { writable = IsPlainStorable; parts = plain_parts; head_part = λ _. part.Plain; head = plain_head; opens = plain_fetch; steps = λ versions _. Takes versions }

-- a fetch never waits for a reply
abbrev pub NeverWaits : Frame → Schema → Piece → Look → Want → List Version → Call → Type 0
NeverWaits frame s p look want fetch c = ⊥

-- the part that has the head was got whole, and its object is broken at this offset
pub record IsPlainBroken (frame : Frame) (s : Schema) (frag : FragKey) (gots : List Got) (sizes : List Sized) (named : Part) (at : ℕ) : Type 0 where
  pub got : Got
  pub was_got : Contains gots got
  pub head_part : got.part ≡ part.Plain
  pub from_start : got.at ≡ 0
  pub to_end : got.ends ≡ true
  pub is_named : named ≡ part.Plain
  pub broken : plain_piece frame s.attrs frag got.bytes ≡ Err at
