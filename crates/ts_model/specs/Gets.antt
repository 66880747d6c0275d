-- How many gets a fetch may make.
use Rattle.std.specs.Prelude.{◌≡◌, ℕ, ◌+◌, ◌≤◌, List, Some, Ok}
use Rattle.ts_base.specs.declared.heads.Piece.{Piece}
use Rattle.ts_store.specs.declared.call.Call.{Call}
use Rattle.ts_store.specs.declared.call.Call.TheVariants as call
use Rattle.ts_store.specs.declared.call.Reply.{Reply}
use Rattle.ts_schema.specs.declared.frames.Frame.{Frame}
use Rattle.ts_schema.specs.declared.schemas.Schema.{Schema}
use Rattle.ts_schema.specs.declared.wants.Want.{Want}
use Rattle.ts_schema.specs.Parts.{Look}
use Rattle.ts_model.specs.Codecs.{Codec, Spelled, Asks}

-- one for a get, none for another call
abbrev pub gets_of : Call → ℕ
gets_of (call.Get n from len) = 1
gets_of _ = 0

-- the most gets that a fetch of what is wanted of a piece may make, in an array of a frame and in a schema
abbrev pub MostGets : Type 0
MostGets = Frame → Schema → Piece → Want → ℕ

-- each get takes one of those that the fetch may make, and a fetch of a piece may make so many
pub record AsksBounded {F : Type 0} (codec : Codec F) (spelled : Spelled) (gets : F → ℕ) (most : MostGets) : Type 0 where
  pub pays : (f g : F) (r : Reply) (c : Call) → codec.steps f r ≡ Asks g c → gets g + gets_of c ≤ gets f
  pub fair : (frame : Frame) (s : Schema) (p : Piece) (look : Look) (want : Want) (object : List ℕ) (f : F) → spelled frame s p look → look (codec.head_part frame) ≡ Some object
      → codec.opens frame s p.head.frag object want ≡ Ok f → gets f ≤ most frame s p want
