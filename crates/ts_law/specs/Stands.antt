-- A map of objects stands for a history.
use Rattle.std.specs.Prelude.{◌≡◌, ◌<◌, ℕ, true, List, Some, option_map, Ok, IsTrue, Contains, ⊤}
use Rattle.ts_base.specs.declared.keys.Key.{Key}
use Rattle.ts_base.specs.declared.keys.FragKey.{FragKey}
use Rattle.ts_base.specs.declared.names.Name.{Name}
use Rattle.ts_base.specs.declared.names.Part.{Part}
use Rattle.ts_base.specs.declared.heads.Head.{Head}
use Rattle.ts_base.specs.declared.heads.Piece.{Piece}
use Rattle.ts_model.specs.declared.deeds.Written.{Written}
use Rattle.ts_schema.specs.declared.frames.Frame.{Frame}
use Rattle.ts_schema.specs.declared.schemas.Schema.{Schema}
use Rattle.ts_commit.specs.Selections.{has_origin}
use Rattle.ts_commit.specs.Vacs.{names_of, AreNames}
use Rattle.ts_base.specs.Held.{Held}
use Rattle.ts_base.specs.declared.names.CommitKind.TheVariants.{Del}
use Rattle.ts_base.specs.Keys.{frag_of}
use Rattle.ts_base.specs.Names.{wrt_of, IsSpelledFrag}
use Rattle.ts_base.specs.Spelling.{FitsFrag}
use Rattle.ts_schema.specs.FrameTexts.{frame_object}
use Rattle.ts_schema.specs.SchemaTexts.{schema_object}
use Rattle.ts_schema.specs.Parts.{Look, IsShort}
use Rattle.ts_law.specs.Origins.{HoldsWrites}
use Rattle.ts_model.specs.States.{vac_of}
use Rattle.ts_model.specs.Codecs.{Spelled}
use Rattle.ts_cond.specs.CondTexts.{cond_object}
use Rattle.ts_model.specs.Deeds.{History, frame_in, writes, schema_with, deletion_of, IsHistory}
use Rattle.ts_base.specs.declared.names.Name.TheVariants as name
use Rattle.std.specs.FinMap as map

-- the name is none of a lease
abbrev pub IsNoLease : Name → Type 0
IsNoLease (name.Lease k mode) = ⊥
IsNoLease n = ⊤

-- a fragment is committed while its `.wrt` is held
abbrev pub IsCommitted : Held → FragKey → Type 0
IsCommitted m f = IsTrue (map.contains_key m (wrt_of f))

-- the parts of a fragment spell the piece, each in so few bytes that one get can ask for all of them
pub record Spells (spelled : Spelled) (m : Held) (frame : Frame) (s : Schema) (f : FragKey) (p : Piece) : Type 0 where
  pub look : Look
  pub spells : spelled frame s p look
  pub held : (part : Part) (bytes : List ℕ) → look part ≡ Some bytes → map.get m (name.Part f part) ≡ Some bytes
  pub short : (part : Part) (bytes : List ℕ) → look part ≡ Some bytes → IsShort bytes
  pub named : p.head.frag ≡ f

-- the name of a fragment has a spelling
abbrev pub HasName : FragKey → Type 0
HasName f = IsSpelledFrag f × FitsFrag f

-- the parts of the fragment spell the piece, and it holds writes of the history
pub record HoldsIn (spelled : Spelled) (h : History) (m : Held) (f : FragKey) (p : Piece) : Type 0 where
  pub frame : Frame
  pub framed : frame_in h ≡ Some frame
  pub dense : p.head.dense ≡ frame.dense
  pub schema : Schema
  pub declared : schema_with h p.head.schema ≡ Some schema
  pub spells : Spells spelled m frame schema f p
  pub holds : HoldsWrites h p
  pub name : HasName f

-- the write of the key went into the fragment
pub record WentInto (spelled : Spelled) (h : History) (m : Held) (f : FragKey) (k : Key) : Type 0 where
  pub piece : Piece
  pub holds : HoldsIn spelled h m f piece
  pub origin : has_origin k piece.head ≡ true

-- each write is in its own fragment, which is committed
abbrev pub EachInItsOwn : Spelled → Held → History → Type 0
EachInItsOwn spelled m h = (w : Written) → Contains (writes h) w → IsCommitted m (frag_of w.key) × WentInto spelled h m (frag_of w.key) w.key

-- ---- what the `.vac` objects tell

-- what the held `.vac` of a fragment names
pub record Names (m : Held) (g : FragKey) (names : List FragKey) : Type 0 where
  pub bytes : List ℕ
  pub held : map.get m (vac_of g) ≡ Some bytes
  pub reads : names_of bytes ≡ Ok names

-- the held `.vac` of a fragment names another
abbrev pub DoesName : Held → FragKey → FragKey → Type 0
DoesName m g f = (names : List FragKey) × Names m g names × Contains names f

-- each origin of a head is one of another
abbrev pub AreWithin : Head → Head → Type 0
AreWithin a b = (k : Key) → has_origin k a ≡ true → has_origin k b ≡ true

-- all that went into a fragment went into another
pub record Within (spelled : Spelled) (h : History) (m : Held) (f g : FragKey) : Type 0 where
  pub piece : Piece
  pub holds : HoldsIn spelled h m f piece
  pub other : Piece
  pub other_holds : HoldsIn spelled h m g other
  pub within : AreWithin piece.head other.head

-- what the `.vac` objects of committed fragments tell
pub record AreMerged (spelled : Spelled) (h : History) (m : Held) : Type 0 where
  -- each spells names, and is so short that one get can ask for all of it
  pub reads : (g : FragKey) (bytes : List ℕ) → IsCommitted m g → map.get m (vac_of g) ≡ Some bytes → IsShort bytes × ((names : List FragKey) × (names_of bytes ≡ Ok names) × AreNames names)
  -- all that went into a committed fragment that it names went into the one whose `.vac` it is
  pub within : (g f : FragKey) → IsCommitted m g → IsCommitted m f → DoesName m g f → Within spelled h m f g
  -- the committed fragments have ranks below a bound, and it names committed fragments of a lower rank alone
  pub rank : FragKey → ℕ
  pub top : ℕ
  pub below : (f : FragKey) → IsCommitted m f → rank f < top
  pub falls : (g f : FragKey) → IsCommitted m g → IsCommitted m f → DoesName m g f → rank f < rank g

-- the `.vac` of a committed fragment names it
abbrev pub IsNamed : Held → FragKey → Type 0
IsNamed m f = (g : FragKey) × IsCommitted m g × DoesName m g f

-- the write of the key went into a committed fragment
pub record IsReached (spelled : Spelled) (h : History) (m : Held) (k : Key) : Type 0 where
  pub frag : FragKey
  pub committed : IsCommitted m frag
  pub went : WentInto spelled h m frag k

-- the map stands for the history
pub record Stands (spelled : Spelled) (m : Held) (h : History) : Type 0 where
  pub history : IsHistory h
  -- the frame is held exactly where the history has one, and spells it
  pub frame : map.get m name.Domain ≡ option_map frame_object (frame_in h)
  -- the schemas that are held are those of the history, each spelling its attributes
  pub schemas : (k : Key) → map.get m (name.Schema k) ≡ option_map (λ s. schema_object s.attrs) (schema_with h k)
  -- the deletes that are held are those of the history, each spelling its condition
  pub deletes : (f : FragKey) → map.get m (name.Commit f Del) ≡ option_map (λ e. cond_object e.cond) (deletion_of h f)
  -- each is so short that one get can ask for all of it
  pub short_frame : (bytes : List ℕ) → map.get m name.Domain ≡ Some bytes → IsShort bytes
  pub short_schemas : (k : Key) (bytes : List ℕ) → map.get m (name.Schema k) ≡ Some bytes → IsShort bytes
  pub short_deletes : (f : FragKey) (bytes : List ℕ) → map.get m (name.Commit f Del) ≡ Some bytes → IsShort bytes
  -- the parts of a committed fragment spell a piece, which holds what its origins wrote
  pub whole : (f : FragKey) → IsCommitted m f → (p : Piece) × HoldsIn spelled h m f p
  -- the `.vac` objects of committed fragments tell what is so
  pub merged : AreMerged spelled h m
  -- each write went into a committed fragment
  pub covered : (w : Written) → Contains (writes h) w → IsReached spelled h m w.key
