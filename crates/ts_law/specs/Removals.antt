-- Which removals leave objects that stand for the same history, and how a set of fragments is covered from outside.
use Rattle.std.specs.Prelude.{◌≡◌, ◌≢◌, ℕ, List, Some, Contains}
use Rattle.ts_base.specs.declared.keys.FragKey.{FragKey}
use Rattle.ts_base.specs.declared.names.Name.{Name}
use Rattle.ts_base.specs.declared.names.Part.{Part}
use Rattle.ts_base.specs.Held.{Held}
use Rattle.ts_base.specs.Names.{wrt_of}
use Rattle.ts_model.specs.Codecs.{Spelled}
use Rattle.ts_model.specs.Deeds.{History}
use Rattle.ts_model.specs.States.{vac_of}
use Rattle.ts_law.specs.Stands.{IsCommitted, Within}
use Rattle.ts_base.specs.declared.names.Name.TheVariants as name
use Rattle.std.specs.FinMap as map

-- ---- one removal

-- an object can be removed: the `.wrt` of a fragment, where all that went into it went into another committed one; a part of a fragment that is not committed; or a `.vac`
pub data SafeRemoval (spelled : Spelled) (m : Held) (h : History) (n : Name) : Type 0 where
  -- all that went into a fragment went into another committed one, and its `.wrt` is removed
  OfCommit : (f g : FragKey) → n ≡ wrt_of f → g ≢ f → IsCommitted m g → Within spelled h m f g → SafeRemoval spelled m h n
  -- a fragment is not committed, and a part of it is removed
  OfPart : (f : FragKey) (part : Part) → n ≡ name.Part f part → (IsCommitted m f → ⊥) → SafeRemoval spelled m h n
  -- a `.vac` is removed
  OfVac : (f : FragKey) → n ≡ vac_of f → SafeRemoval spelled m h n

-- the object is no part of the fragment
abbrev pub IsNoPartOf : FragKey → Name → Type 0
IsNoPartOf f n = (part : Part) → n ≢ name.Part f part

-- what remains of these objects when one was to be removed, whatever came of that: the others are held as before, and nothing is new
pub record Remains (m : Held) (n : Name) (later : Held) : Type 0 where
  pub others : (q : Name) → q ≢ n → map.get later q ≡ map.get m q
  pub before : (q : Name) (bytes : List ℕ) → map.get later q ≡ Some bytes → map.get m q ≡ Some bytes

-- ---- sets of fragments

-- a committed fragment outside of a set has all that went into a fragment
pub record IsCoveredOutside (spelled : Spelled) (h : History) (m : Held) (set : List FragKey) (f : FragKey) : Type 0 where
  pub other : FragKey
  pub committed : IsCommitted m other
  pub outside : Contains set other → ⊥
  pub within : Within spelled h m f other

-- each committed fragment of a set is covered from outside
abbrev pub AreCoveredOutside : Spelled → History → Held → List FragKey → Type 0
AreCoveredOutside spelled h m set = (f : FragKey) → Contains set f → IsCommitted m f → IsCoveredOutside spelled h m set f
