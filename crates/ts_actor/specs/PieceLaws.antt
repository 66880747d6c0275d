-- What the grammar of the parts says of one piece, and of the objects that are refused; and where the versions lie that a fetch takes.
use Rattle.std.specs.Prelude.{◌≡◌, ℕ, ◌≤◌, true, false, List, [], ◌∷◌, ◌++◌, length, take, nat_lt, Some, Ok, Err, IsTrue, All, ◌⊎◌}
use Rattle.ts_base.specs.declared.names.Name.TheVariants as name
use Rattle.ts_store.specs.declared.call.Call.TheVariants as call
use Rattle.ts_store.specs.declared.call.Reply.TheVariants as reply
use Rattle.ts_base.specs.declared.keys.FragKey.{FragKey}
use Rattle.ts_base.specs.declared.names.Part.{Part}
use Rattle.ts_base.specs.declared.names.PartBytes.{PartBytes}
use Rattle.ts_base.specs.declared.heads.Head.{Head}
use Rattle.ts_base.specs.declared.heads.Piece.{Piece}
use Rattle.ts_base.specs.declared.heads.Version.{Version}
use Rattle.ts_base.specs.declared.values.Val.{Val}
use Rattle.ts_base.specs.declared.values.Val.TheVariants.{Null}
use Rattle.ts_commit.specs.Selections.{has_origin}
use Rattle.ts_domain.specs.declared.boxes.SubBox.{SubBox}
use Rattle.ts_domain.specs.Boxes.{is_in_box}
use Rattle.ts_domain.specs.Bounds.{is_between}
use Rattle.ts_store.specs.declared.call.Call.{Call}
use Rattle.ts_store.specs.declared.call.Reply.{Reply}
use Rattle.ts_store.specs.Calls.{FitsCall}
use Rattle.ts_wire.specs.Exact.{IsBytes}
use Rattle.ts_schema.specs.declared.attrs.Attr.{Attr}
use Rattle.ts_schema.specs.declared.frames.Frame.{Frame}
use Rattle.ts_schema.specs.declared.schemas.Schema.{Schema}
use Rattle.ts_schema.specs.declared.wants.Want.{Want}
use Rattle.ts_schema.specs.Parts.{Look, Got, Sized, look_in, IsShort}
use Rattle.ts_schema.specs.Wants.{taken}
use Rattle.ts_plain.specs.Merges.{IsOrdered}
use Rattle.ts_model.specs.Codecs.{Codec, Spelled, Stepped, Asks, Takes, Breaks, SpeaksOf}
use Rattle.ts_base.specs.Names.{IsSpelledFrag}
use Rattle.ts_schema.specs.FrameTexts.{IsFrame}
use Rattle.ts_schema.specs.SchemaTexts.{AreAttrs}
use Rattle.ts_model.specs.Consolidated.{IsStorable}
use Rattle.ts_model.specs.States.{all_of}
pub use Rattle.ts_model.specs.Gets.{gets_of, AsksBounded}

-- what was got of the parts, and the sizes that were told, break the grammar first in a part at an offset
abbrev pub Off : Type 1
Off = Frame → Schema → FragKey → List Got → List Sized → Part → ℕ → Type 0

-- one part was got, and whole
abbrev pub whole_got : Part → List ℕ → List Got
whole_got part object = record { part = part; at = 0; bytes = object; ends = true } ∷ []

-- two pieces of one fragment that are spelled by the same parts are one piece
abbrev pub SpellsOne : Spelled → Type 0
SpellsOne spelled = (frame : Frame) (s : Schema) (p q : Piece) (look : Look) → p.head.frag ≡ q.head.frag → spelled frame s p look → spelled frame s q look → p ≡ q

-- where the object of the part with the head is refused at an offset, it breaks the grammar first there
pub record RefusesBroken {F : Type 0} (codec : Codec F) (off : Off) : Type 0 where
  -- the head is read without the schema, so a broken one breaks the grammar in every schema
  pub head : (frame : Frame) (s : Schema) (frag : FragKey) (object : List ℕ) (at : ℕ) → codec.head frame frag object ≡ Err at
      → off frame s frag (whole_got (codec.head_part frame) object) [] (codec.head_part frame) at
  -- so it is where a fetch finds the object broken, whatever is wanted
  pub opens : (frame : Frame) (s : Schema) (frag : FragKey) (object : List ℕ) (want : Want) (at : ℕ) → codec.opens frame s frag object want ≡ Err at
      → off frame s frag (whole_got (codec.head_part frame) object) [] (codec.head_part frame) at

-- where the object of the part with the head breaks the grammar by itself, no fetch begins on it, whatever is wanted
abbrev pub OpensUnbroken : {F : Type 0} → Codec F → Off → Type 0
OpensUnbroken {F} codec off = (frame : Frame) (s : Schema) (frag : FragKey) (object : List ℕ) (want : Want) (part : Part) (at : ℕ) (fetch : F)
    → off frame s frag (whole_got (codec.head_part frame) object) [] part at → codec.opens frame s frag object want ≡ Ok fetch → ⊥

-- a fetch of what is wanted in a box: it began so, and went on over whatever replies
pub data IsFetchIn {F : Type 0} (codec : Codec F) (sub : SubBox) : F → Type 0 where
  Begun : (frame : Frame) (s : Schema) (frag : FragKey) (object : List ℕ) (want : Want) (f : F) → want.sub ≡ sub → codec.opens frame s frag object want ≡ Ok f → IsFetchIn codec sub f
  Went : (f : F) (r : Reply) (g : F) (c : Call) → IsFetchIn codec sub f → codec.steps f r ≡ Asks g c → IsFetchIn codec sub g

-- the versions lie in the box
abbrev pub AreInBox : SubBox → List Version → Type 0
AreInBox sub versions = All (λ v. IsTrue (is_in_box sub v.coords)) versions

-- whatever the replies are, the versions that a fetch takes lie in the box that was wanted
abbrev pub TakesInside : {F : Type 0} → Codec F → Type 0
TakesInside {F} codec = (sub : SubBox) (f : F) (r : Reply) (versions : List Version) → IsFetchIn codec sub f → codec.steps f r ≡ Takes versions → AreInBox sub versions

-- ---- fetches that make calls

-- what was got of a fragment, once this reply came to this call
abbrev pub got_with : Call → Reply → List Got → List Got
got_with (call.Get (name.Part frag part) from len) (reply.Bytes bytes) gots = record { part = part; at = from; bytes = bytes; ends = nat_lt (length bytes) len } ∷ gots
got_with _ _ gots = gots

-- which sizes were told, once this reply came to this call
abbrev pub sized_with : Call → Reply → List Sized → List Sized
sized_with (call.Size (name.Part frag part)) (reply.Length count) sizes = record { part = part; size = count } ∷ sizes
sized_with _ _ sizes = sizes

-- the reply can come to the call: it fits it, and a get is told bytes, at most as many as it asks for
abbrev pub MayReply : Call → Reply → Type 0
MayReply (call.Get n from len) (reply.Bytes bytes) = IsBytes bytes × (length bytes ≤ len)
MayReply c r = FitsCall c r

-- a fetch waits for the reply to a call, after so much was got and told, whatever of what can come that was
pub data IsFetchOf {F : Type 0} (codec : Codec F) (frame : Frame) (s : Schema) (frag : FragKey) (object : List ℕ) (want : Want) : List Got → List Sized → F → Call → Type 0 where
  First : (f g : F) (c : Call) → codec.opens frame s frag object want ≡ Ok f → codec.steps f reply.Start ≡ Asks g c
      → IsFetchOf codec frame s frag object want (whole_got (codec.head_part frame) object) [] g c
  Then : (gots : List Got) (sizes : List Sized) (f g : F) (c d : Call) (r : Reply) → IsFetchOf codec frame s frag object want gots sizes f c → MayReply c r → codec.steps f r ≡ Asks g d
      → IsFetchOf codec frame s frag object want (got_with c r gots) (sized_with c r sizes) g d

-- where a fetch ends with an answer: at once, or with the reply to a call that it waited for
pub data EndsWith {F : Type 0} (codec : Codec F) (frame : Frame) (s : Schema) (frag : FragKey) (object : List ℕ) (want : Want) (end : Stepped F) : List Got → List Sized → Type 0 where
  AtOnce : (f : F) → codec.opens frame s frag object want ≡ Ok f → codec.steps f reply.Start ≡ end → EndsWith codec frame s frag object want end (whole_got (codec.head_part frame) object) []
  AfterReply : (gots : List Got) (sizes : List Sized) (f : F) (c : Call) (r : Reply) → IsFetchOf codec frame s frag object want gots sizes f c → MayReply c r → codec.steps f r ≡ end
      → EndsWith codec frame s frag object want end (got_with c r gots) (sized_with c r sizes)

-- what a fetch refuses is broken by what it got, and what it takes is not
pub record JudgesRight {F : Type 0} (codec : Codec F) (off : Off) : Type 0 where
  pub breaks : (frame : Frame) (s : Schema) (frag : FragKey) (object : List ℕ) (want : Want) (gots : List Got) (sizes : List Sized) (part : Part) (at : ℕ)
      → EndsWith codec frame s frag object want (Breaks part at) gots sizes → off frame s frag gots sizes part at
  pub whole : (frame : Frame) (s : Schema) (frag : FragKey) (object : List ℕ) (want : Want) (gots : List Got) (sizes : List Sized) (versions : List Version) (part : Part) (at : ℕ)
      → EndsWith codec frame s frag object want (Takes versions) gots sizes → off frame s frag gots sizes part at → ⊥

-- a fetch asks for parts of its own fragment alone, whatever replies come
abbrev pub AsksOwn : {F : Type 0} → Codec F → Type 0
AsksOwn {F} codec = (frame : Frame) (s : Schema) (frag : FragKey) (object : List ℕ) (want : Want) (gots : List Got) (sizes : List Sized) (f : F) (c : Call)
    → IsFetchOf codec frame s frag object want gots sizes f c → (part : Part) × SpeaksOf c (name.Part frag part)

-- whatever replies come, the versions that a fetch takes lie in the domain and ascend in global order, those of one place by ascending key
abbrev pub TakesOrdered : {F : Type 0} → Codec F → Type 0
TakesOrdered {F} codec = (frame : Frame) (s : Schema) (frag : FragKey) (object : List ℕ) (want : Want) (gots : List Got) (sizes : List Sized) (versions : List Version)
    → IsBytes object → IsShort object → EndsWith codec frame s frag object want (Takes versions) gots sizes → IsOrdered frame versions

-- whatever replies come, the head of a fragment with all versions that a fetch of all of it takes is a piece that can be written once more
abbrev pub TakesStorable : {F : Type 0} → Codec F → Type 0
TakesStorable {F} codec = (frame : Frame) (s : Schema) (frag : FragKey) (object : List ℕ) (head : Head) (gots : List Got) (sizes : List Sized) (versions : List Version)
    → IsFrame frame → AreAttrs s.attrs → IsSpelledFrag frag → IsBytes object → IsShort object → codec.head frame frag object ≡ Ok head → head.schema ≡ s.key
    → EndsWith codec frame s frag object (all_of frame s.attrs) (Takes versions) gots sizes
    → IsStorable frame s.attrs (record { head = head; versions = versions }) × codec.writable frame s.attrs (record { head = head; versions = versions })

-- a version of one of the fragment's writes, of a cell of its hull, of which no value was read
pub record IsBare (head : Head) (v : Version) : Type 0 where
  pub schema : v.schema ≡ head.schema
  pub origin : has_origin v.key head ≡ true
  pub hull : IsTrue (is_between head.low head.high v.coords)
  pub row : All (λ (x : Val). x ≡ Null) v.row

-- the object of the head's part is read as the head of a fragment that no consolidation made, no attribute is wanted that there is, and the versions are bare ones of that head
pub record TakesBare {F : Type 0} (codec : Codec F) (frame : Frame) (s : Schema) (frag : FragKey) (object : List ℕ) (want : Want) (versions : List Version) : Type 0 where
  pub head : Head
  pub reads : codec.head frame frag object ≡ Ok head
  pub ordinary : head.consolidated ≡ false
  pub unread : All (λ (k : ℕ). length s.attrs ≤ k) want.attrs
  pub bare : All (IsBare head) versions

-- versions that are taken at once come from the object of the head's part alone: there are none, or it spells a piece by itself and they are what is wanted of that, or no value is wanted and they are bare
abbrev pub TakesSpelled : {F : Type 0} → Codec F → Spelled → Type 0
TakesSpelled {F} codec spelled = (frame : Frame) (s : Schema) (frag : FragKey) (object : List ℕ) (want : Want) (fetch : F) (versions : List Version)
    → IsBytes object → IsShort object → codec.opens frame s frag object want ≡ Ok fetch → codec.steps fetch reply.Start ≡ Takes versions
    → (versions ≡ [])
    ⊎ (((p : Piece) × (p.head.frag ≡ frag) × spelled frame s p (look_in (record { part = codec.head_part frame; bytes = object } ∷ [])) × (versions ≡ taken want p.versions))
    ⊎ TakesBare codec frame s frag object want versions)

-- ---- heads

-- a head bears the name of its fragment
abbrev pub NamesHead : {F : Type 0} → Codec F → Type 0
NamesHead {F} codec = (frame : Frame) (frag : FragKey) (object : List ℕ) (head : Head) → codec.head frame frag object ≡ Ok head → head.frag ≡ frag

-- a front of the object settles its head: nothing breaks the grammar within it, whatever the schema is, and no object with the same front has another head
pub record IsSettled {F : Type 0} (codec : Codec F) (off : Off) (frame : Frame) (frag : FragKey) (object : List ℕ) (head : Head) : Type 0 where
  pub end : ℕ
  pub whole : (s : Schema) (at : ℕ) → off frame s frag (whole_got (codec.head_part frame) object) [] (codec.head_part frame) at → end ≤ at
  pub alone : (other : List ℕ) (found : Head) → IsBytes other → take end other ≡ take end object → codec.head frame frag other ≡ Ok found → found ≡ head

-- a head that is read is settled, so none is read of an object that is broken within it
abbrev pub SettlesHeads : {F : Type 0} → Codec F → Off → Type 0
SettlesHeads {F} codec off = (frame : Frame) (frag : FragKey) (object : List ℕ) (head : Head) → IsBytes object → codec.head frame frag object ≡ Ok head → IsSettled codec off frame frag object head
