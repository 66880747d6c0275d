-- The newest of versions, one after another.
use Rattle.std.proofs.Common.{◌≡◌, List, [], ◌∷◌, ◌++◌, refl}
use Rattle.std.specs.FinMap as finite
use Rattle.ts_base.specs.declared.heads.Version.{Version}
use Rattle.ts_model.specs.Pieces.{Newest, with_version, newest_of, newest_after}

-- a scan goes on where an earlier one ended
pub newest_after_more : (vs ws : List Version) (m : Newest) → newest_after m (vs ++ ws) ≡ newest_after (newest_after m vs) ws
newest_after_more [] ws m = refl
newest_after_more (v ∷ vs) ws m = newest_after_more vs ws (with_version m v)

-- the newest of versions are found by a scan from none
pub newest_of_is : (vs : List Version) → newest_of vs ≡ newest_after finite.empty vs
unfolding newest_of
newest_of_is vs = refl
