-- Worked rows: what fragments hold of the writes that went into them, which of them a read can use, and what is clipped from it.
use Rattle.std.proofs.Common.{◌≡◌, ℕ, ℤ, Bool, true, false, List, [], ◌∷◌, Some, None, refl}
use Rattle.std.specs.Prelude.{pos}
use Rattle.ts_base.specs.declared.keys.Key.{Key}
use Rattle.ts_base.specs.declared.heads.Cell.{Cell}
use Rattle.ts_base.specs.declared.heads.Head.{Head}
use Rattle.ts_base.specs.declared.heads.Version.{Version}
use Rattle.ts_base.specs.declared.values.Val.TheVariants.{Int}
use Rattle.ts_commit.specs.Selections.{is_usable}
use Rattle.ts_model.specs.declared.deeds.Deed.TheVariants.{Wrote, Erased}
use Rattle.ts_model.specs.declared.deeds.Deletion.{Deletion}
use Rattle.ts_model.specs.declared.deeds.Written.{Written}
use Rattle.ts_model.specs.Deeds.{History}
use Rattle.ts_model.specs.Merging.{left_of}
use Rattle.ts_law.specs.Ends.{without_clipped}
use Rattle.ts_law.specs.Origins.{origins_of, wrote_in, last_version, newest_at, kept_of}

-- a key of a stamp and an identifier
abbrev key : ℕ → ℕ → Key
key t id = record { t = t; id = id }

-- a cell with one integer
abbrev cell : ℤ → ℤ → Cell
cell x value = record { coords = x ∷ []; row = Int value ∷ [] }

-- the first write has the cells 0 and 1, the second has 1 and 2
abbrev first : Written
first = record { key = key 1 2; schema = key 0 1; cells = cell (pos 0) (pos 10) ∷ cell (pos 1) (pos 11) ∷ [] }

abbrev second : Written
second = record { key = key 5 3; schema = key 0 1; cells = cell (pos 1) (pos 21) ∷ cell (pos 2) (pos 22) ∷ [] }

-- the history of the two
abbrev both : History
both = Wrote first ∷ Wrote second ∷ []

-- what a write makes of a coordinate
abbrev version : Written → ℤ → ℤ → Version
version w x value = record { key = w.key; schema = w.schema; coords = x ∷ []; row = Int value ∷ [] }

-- the head of the fragment that both went into, in a dense array or in a sparse one
abbrev merged : Bool → Head
merged dense = record {
  frag = record { t1 = 1; t2 = 5; id = 4; v = 1 };
  schema = key 0 1;
  dense = dense;
  consolidated = true;
  low = pos 0 ∷ [];
  high = pos 2 ∷ [];
  cells = 3;
  origins = key 1 2 ∷ key 5 3 ∷ [];
}

-- the head of the second write's own fragment
abbrev alone : Head
alone = record {
  frag = record { t1 = 5; t2 = 5; id = 3; v = 1 };
  schema = key 0 1;
  dense = true;
  consolidated = false;
  low = pos 1 ∷ [];
  high = pos 2 ∷ [];
  cells = 2;
  origins = key 5 3 ∷ [];
}

-- both writes went into the one, and the second into its own
origins_of_merged : origins_of both (merged true) ≡ first ∷ second ∷ []
origins_of_merged = refl

origins_of_alone : origins_of both alone ≡ second ∷ []
origins_of_alone = refl

-- where the last versions are kept alone, the first write's version of the cell 1 is not kept
earlier_is_gone : kept_of true (origins_of both (merged true)) (key 1 2) (pos 1 ∷ []) ≡ None
earlier_is_gone = refl

-- its version of the cell 0 is
only_one_stays : kept_of true (origins_of both (merged true)) (key 1 2) (pos 0 ∷ []) ≡ Some (version first (pos 0) (pos 10))
only_one_stays = refl

-- and so is the last version of the cell 1
last_one_stays : kept_of true (origins_of both (merged true)) (key 5 3) (pos 1 ∷ []) ≡ Some (version second (pos 1) (pos 21))
last_one_stays = refl

-- a sparse array keeps both versions of the cell 1
earlier_stays : kept_of false (origins_of both (merged false)) (key 1 2) (pos 1 ∷ []) ≡ Some (version first (pos 1) (pos 11))
earlier_stays = refl

-- of what went into the merged fragment a read of all wants the last version of the cell 1, and one up to 3 the earlier
last_of_all : last_version (wrote_in both 0 9 (merged false ∷ [])) (pos 1 ∷ []) ≡ Some (version second (pos 1) (pos 21))
last_of_all = refl

last_up_to_three : last_version (wrote_in both 0 3 (merged false ∷ [])) (pos 1 ∷ []) ≡ Some (version first (pos 1) (pos 11))
last_up_to_three = refl

-- a write that went into none of the fragments is not wanted
first_is_left_out : last_version (wrote_in both 0 9 (alone ∷ [])) (pos 0 ∷ []) ≡ None
first_is_left_out = refl

-- a write that went into two fragments is wanted once
once_of_two : wrote_in both 0 9 (alone ∷ merged true ∷ []) ≡ first ∷ second ∷ []
once_of_two = refl

-- the newest version is the one with the greatest key, wherever it stands
newest_of_two : newest_at (version second (pos 1) (pos 21) ∷ version first (pos 1) (pos 11) ∷ []) (pos 1 ∷ []) ≡ Some (version second (pos 1) (pos 21))
newest_of_two = refl

-- a read up to 3 cannot use a dense fragment whose span reaches to 5
dense_is_not_usable : is_usable 0 3 (merged true) ≡ false
dense_is_not_usable = refl

-- it can use a sparse one, and a read of all can use both
sparse_is_usable : is_usable 0 3 (merged false) ≡ true
sparse_is_usable = refl

dense_is_usable_by_all : is_usable 0 9 (merged true) ≡ true
dense_is_usable_by_all = refl

-- ---- clipping

-- a dense read up to 3 that finds the merged fragment alone leaves the first write out, and a delete in
first_is_clipped : (e : Deletion) → without_clipped 0 3 (merged true ∷ []) (Wrote first ∷ Erased e ∷ Wrote second ∷ []) ≡ Erased e ∷ Wrote second ∷ []
first_is_clipped e = refl

-- one of all leaves no write out, nor does a sparse read
none_is_clipped : without_clipped 0 9 (merged true ∷ []) both ≡ both
none_is_clipped = refl

sparse_clips_none : without_clipped 0 3 (merged false ∷ []) both ≡ both
sparse_clips_none = refl

-- ---- merging

-- all versions of the two writes' own fragments
abbrev versions : List Version
versions = version first (pos 0) (pos 10) ∷ version first (pos 1) (pos 11) ∷ version second (pos 1) (pos 21) ∷ version second (pos 2) (pos 22) ∷ []

-- where the newest are left alone, the first write's version of the cell 1 is dropped
older_is_dropped : left_of true versions (key 1 2) (pos 1 ∷ []) ≡ None
older_is_dropped = refl

newer_is_left : left_of true versions (key 5 3) (pos 1 ∷ []) ≡ Some (version second (pos 1) (pos 21))
newer_is_left = refl

-- else both are left
older_is_left : left_of false versions (key 1 2) (pos 1 ∷ []) ≡ Some (version first (pos 1) (pos 11))
older_is_left = refl

both_are_left : left_of false versions (key 5 3) (pos 1 ∷ []) ≡ Some (version second (pos 1) (pos 21))
both_are_left = refl
