-- How fragments are written and read, as plain functions: what a machine that writes and reads them computes.
use Rattle.std.specs.Prelude.{◌≡◌, ◌<◌, ◌^◌, Contains, ℕ, Bool, true, false, List, [], ◌∷◌, ◌++◌, Some, length, slice_get, Result, Ok, IsTrue, All, ⊤}
use Rattle.ts_base.specs.declared.keys.FragKey.{FragKey}
use Rattle.ts_base.specs.declared.names.Name.{Name}
use Rattle.ts_base.specs.declared.names.Part.{Part}
use Rattle.ts_base.specs.declared.names.PartBytes.{PartBytes}
use Rattle.ts_base.specs.declared.heads.Version.{Version}
use Rattle.ts_base.specs.declared.heads.Piece.{Piece}
use Rattle.ts_base.specs.declared.heads.Head.{Head}
use Rattle.ts_store.specs.declared.call.Call.{Call}
use Rattle.ts_store.specs.declared.call.Reply.{Reply}
use Rattle.ts_schema.specs.declared.attrs.Attr.{Attr}
use Rattle.ts_schema.specs.declared.frames.Frame.{Frame}
use Rattle.ts_schema.specs.declared.schemas.Schema.{Schema}
use Rattle.ts_schema.specs.declared.wants.Want.{Want}
use Rattle.ts_schema.specs.FrameTexts.{IsFrame}
use Rattle.ts_schema.specs.SchemaTexts.{AreAttrs}
use Rattle.ts_schema.specs.Wants.{taken}
use Rattle.ts_schema.specs.Parts.{Look, look_in, IsShort}
use Rattle.ts_store.specs.Calls.{part_of}
use Rattle.ts_model.specs.Pieces.{IsOrdinary, IsClose}
use Rattle.ts_model.specs.Consolidated.{NamesOwn, IsConsolidated, IsStorable}
use Rattle.ts_model.specs.Merging.{AreSources, merged_piece}
use Rattle.ts_base.specs.declared.names.Name.TheVariants as name
use Rattle.ts_store.specs.declared.call.Call.TheVariants as call
use Rattle.ts_store.specs.declared.call.Reply.TheVariants as reply

-- what a fetch does with a reply: it asks for a call, it has all the versions that were wanted, or a part breaks its layout at an offset
pub data Stepped (F : Type 0) : Type 0 where
  Asks : F → Call → Stepped F
  Takes : List Version → Stepped F
  Breaks : Part → ℕ → Stepped F

-- one way to write fragments and to read them; F is how far a fetch has come
pub record Codec (F : Type 0) : Type 1 where
  -- the pieces that can be written so in an array of a frame, in a schema with these attributes
  pub writable : Frame → List Attr → Piece → Type 0
  -- the parts of a piece in the order of their puts, that of the head last
  pub parts : Frame → Schema → Piece → List PartBytes
  -- the part that has the head
  pub head_part : Frame → Part
  -- the head in the object of that part, or the offset at which the object is broken
  pub head : Frame → FragKey → List ℕ → Result Head ℕ
  -- a fetch of what is wanted of a fragment, from that object on
  pub opens : Frame → Schema → FragKey → List ℕ → Want → Result F ℕ
  -- what a fetch does with the reply to the call that it asked for; the first one is Start
  pub steps : F → Reply → Stepped F

-- ---- what the model asks of them

-- in an array of a frame the parts spell a piece, whose cells are written in a schema
abbrev pub Spelled : Type 1
Spelled = Frame → Schema → Piece → Look → Type 0

-- gets and sizes look at what is held
abbrev pub is_look : Call → Bool
is_look (call.Get n from len) = true
is_look (call.Size n) = true
is_look _ = false

-- a fetch asks for nothing but gets and sizes
abbrev pub AsksLooks : {F : Type 0} → Codec F → Type 0
AsksLooks {F} codec = (f : F) (r : Reply) (g : F) (c : Call) → codec.steps f r ≡ Asks g c → IsTrue (is_look c)

-- a fetch waits for the reply to a call, on its way to what is wanted of the piece that the parts spell
abbrev pub Tracking : Type 0 → Type 1
Tracking F = Frame → Schema → Piece → Look → Want → F → Call → Type 0

-- the reply to a call on a part with these bytes
abbrev pub IsToldOf : Call → List ℕ → Reply → Type 0
IsToldOf (call.Get n from len) bytes r = r ≡ reply.Bytes (part_of from len bytes)
IsToldOf (call.Size n) bytes r = r ≡ reply.Length (length bytes)
IsToldOf _ bytes r = ⊥

-- the call asks for bytes of a part of the fragment, or for its size
abbrev pub SpeaksOf : Call → Name → Type 0
SpeaksOf (call.Get n from len) m = n ≡ m
SpeaksOf (call.Size n) m = n ≡ m
SpeaksOf _ m = ⊥

-- the call is on a part that the fragment has
pub record AsksHeld (look : Look) (frag : FragKey) (c : Call) : Type 0 where
  pub part : Part
  pub bytes : List ℕ
  pub held : look part ≡ Some bytes
  pub named : SpeaksOf c (name.Part frag part)

-- a fetch goes on or has all versions; it finds nothing broken
abbrev pub GoesWell : {F : Type 0} → (F → Call → Type 0) → List Version → Stepped F → Type 0
GoesWell tracks wanted (Asks f c) = tracks f c
GoesWell tracks wanted (Takes vs) = vs ≡ wanted
GoesWell tracks wanted (Breaks part at) = ⊥

-- a fetch that begins on the parts of a piece goes well
pub record OpensWell {F : Type 0} (codec : Codec F) (tracks : F → Call → Type 0) (frame : Frame) (schema : Schema) (p : Piece) (object : List ℕ) (want : Want) : Type 0 where
  pub fetch : F
  pub opens : codec.opens frame schema p.head.frag object want ≡ Ok fetch
  pub starts : GoesWell tracks (taken want p.versions) (codec.steps fetch reply.Start)

-- the laws of one way to write fragments and to read them, which writes those arrays that `On` says
pub record CodecLawsOn {F : Type 0} (On : Frame → Type 0) (codec : Codec F) (spelled : Spelled) (tracks : Tracking F) : Type 0 where
  -- a piece that one write makes can be written
  pub ordinary : (frame : Frame) (attrs : List Attr) (p : Piece) → On frame → IsOrdinary frame attrs p → IsClose p → codec.writable frame attrs p
  -- what pieces are merged into that can be written can be written too, where its cells can be counted in 32 bits
  pub merged : (frame : Frame) (attrs : List Attr) (id : ℕ) (p : Piece) (ps : List Piece) → On frame → AreSources frame attrs (p ∷ ps) → ((q : Piece) → Contains (p ∷ ps) q → codec.writable frame attrs q)
      → IsConsolidated frame attrs (merged_piece frame id p ps) → (merged_piece frame id p ps).head.cells < 2 ^ 32 → codec.writable frame attrs (merged_piece frame id p ps)
  -- the parts of a piece that can be written spell it, where each is short enough to be got at once
  pub parts : (frame : Frame) (s : Schema) (p : Piece) → codec.writable frame s.attrs p → All (λ x. IsShort x.bytes) (codec.parts frame s p) → spelled frame s p (look_in (codec.parts frame s p))
  -- the part that has the head is the last
  pub last : (frame : Frame) (s : Schema) (p : Piece) → codec.writable frame s.attrs p
      → (front : List PartBytes) × (bytes : List ℕ) × (codec.parts frame s p ≡ front ++ record { part = codec.head_part frame; bytes = bytes } ∷ [])
  -- a piece that is spelled can be written once more, so that it can be a source of a consolidation; one of a single write has to be named by it
  pub storable : (frame : Frame) (s : Schema) (p : Piece) (look : Look) → IsFrame frame → AreAttrs s.attrs → NamesOwn p.head → spelled frame s p look → IsStorable frame s.attrs p × codec.writable frame s.attrs p
  -- no part comes twice
  pub once : (frame : Frame) (s : Schema) (p : Piece) (i k : ℕ) (x y : PartBytes) → slice_get (codec.parts frame s p) i ≡ Some x → slice_get (codec.parts frame s p) k ≡ Some y → x.part ≡ y.part → i ≡ k
  -- the part with the head is there, and its object is read as the piece's head
  pub head : (frame : Frame) (s : Schema) (p : Piece) (look : Look) → spelled frame s p look
      → (object : List ℕ) × (look (codec.head_part frame) ≡ Some object) × (codec.head frame p.head.frag object ≡ Ok p.head)
  -- a fetch asks for nothing but gets and sizes
  pub looks : AsksLooks codec
  -- a fetch begins well
  pub opens : (frame : Frame) (s : Schema) (p : Piece) (look : Look) (want : Want) (object : List ℕ) → spelled frame s p look → look (codec.head_part frame) ≡ Some object
      → OpensWell codec (tracks frame s p look want) frame s p object want
  -- a fetch asks for parts that the fragment has
  pub asks : (frame : Frame) (s : Schema) (p : Piece) (look : Look) (want : Want) (f : F) (c : Call) → tracks frame s p look want f c → AsksHeld look p.head.frag c
  -- a fetch that is told what is held goes on well
  pub goes : (frame : Frame) (s : Schema) (p : Piece) (look : Look) (want : Want) (f : F) (c : Call) (part : Part) (bytes : List ℕ) (r : Reply)
      → tracks frame s p look want f c → look part ≡ Some bytes → SpeaksOf c (name.Part p.head.frag part) → IsToldOf c bytes r → GoesWell (tracks frame s p look want) (taken want p.versions) (codec.steps f r)

-- the laws of a way to write fragments of any array
abbrev pub CodecLaws : {F : Type 0} → Codec F → Spelled → Tracking F → Type 0
CodecLaws codec spelled tracks = CodecLawsOn (λ (frame : Frame). ⊤) codec spelled tracks
