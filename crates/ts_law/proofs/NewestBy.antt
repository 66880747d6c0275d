-- The newest version of a list, where the list has versions of some writes alone, and that of their last one.
use Rattle.std.proofs.Common.{◌≡◌, ℤ, true, false, List, Option, Some, None, refl, sym, ◌∙◌, ap, subst}
use Rattle.std.specs.Prelude.{Contains, filter, option_map, option_and_then}
use Rattle.std.specs.Option.{is_some}
use Rattle.std.proofs.lemmas.Bool.{true≢false}
use Rattle.std.proofs.lemmas.Option.{same_Some, none-some}
use Rattle.ts_base.specs.declared.values.Val.{Val}
use Rattle.ts_base.specs.declared.heads.Version.{Version}
use Rattle.ts_base.specs.Keys.{key_lt}
use Rattle.ts_base.specs.Coords.{coords_eq}
use Rattle.ts_model.specs.declared.deeds.Written.{Written}
use Rattle.ts_model.specs.Deeds.{row_at, has_cell}
use Rattle.ts_model.specs.Pieces.{version_at, version_of}
use Rattle.ts_model.proofs.ListLemmas.{Contains-nil, Contains-filter, filter-Contains}
use Rattle.ts_model.proofs.KeyLemmas.{greatest-None, greatest-Some, same_from_both}
pub use Rattle.ts_model.proofs.Members.{newest_is_at, found_there}
use Rattle.ts_law.specs.Origins.{last_of, last_version, newest_at}

-- the version that a row makes
abbrev pub version_with : Written → List ℤ → List Val → Version
version_with w c row = record { key = w.key; schema = w.schema; coords = c; row = row }

-- a write has a cell where it makes a version
pub has_cell-version : (w : Written) (c : List ℤ) (v : Version) → version_of w c ≡ Some v → has_cell c w ≡ true
has_cell-version w c v = elim (row_at c w.cells) as (λ o. option_map (version_with w c) o ≡ Some v → is_some o ≡ true) [
  | None ↦ λ e. absurd (none-some v e)
  | Some row ↦ λ _. refl
]

-- a write makes a version where it has a cell
pub version-has_cell : (w : Written) (c : List ℤ) → has_cell c w ≡ true → (v : Version) × (version_of w c ≡ Some v)
version-has_cell w c = elim (row_at c w.cells) as (λ o. is_some o ≡ true → (v : Version) × (option_map (version_with w c) o ≡ Some v)) [
  | None ↦ λ e. absurd (true≢false (sym e))
  | Some row ↦ λ _. (version_with w c row, refl)
]

-- the version that a write makes has its key
pub key_of_version : (w : Written) (c : List ℤ) (v : Version) → version_of w c ≡ Some v → v.key ≡ w.key
key_of_version w c v = elim (row_at c w.cells) as (λ o. option_map (version_with w c) o ≡ Some v → v.key ≡ w.key) [
  | None ↦ λ e. absurd (none-some v e)
  | Some row ↦ λ e. ap (λ u. u.key) (sym (same_Some _ v e))
]

-- the last write that has a coordinate is one of the writes, and has it
pub last_is : (ws : List Written) (c : List ℤ) (w : Written) → last_of ws c ≡ Some w → Contains ws w × (has_cell c w ≡ true)
last_is ws c w e = filter-Contains (has_cell c) ws w (greatest-Some (λ u. u.key) (filter (has_cell c) ws) w e).member

module _ (vs : List Version) (ws : List Written) (c : List ℤ)
    (of_write : (v : Version) → version_at vs v.key c ≡ Some v → (w : Written) × Contains ws w × (version_of w c ≡ Some v))
    (has_last : (w : Written) (v : Version) → last_of ws c ≡ Some w → version_of w c ≡ Some v → version_at vs v.key c ≡ Some v) where
  both : (o : Option Version) (q : Option Written) → newest_at vs c ≡ o → last_of ws c ≡ q → o ≡ option_and_then (λ w. version_of w c) q
  both None None newest last = refl
  both None (Some w) newest last =
      let made = version-has_cell w c (last_is ws c w last).1 in
      let there = found_there vs (made.0).key c made.0 (has_last w made.0 last made.1) in
      absurd (Contains-nil made.0 (subst (λ l. Contains l made.0) (greatest-None (λ v. v.key) (filter (λ u. coords_eq u.coords c) vs) newest) there))
  both (Some v) None newest last =
      let own = of_write v (newest_is_at vs c v newest) in
      absurd (Contains-nil own.0 (subst (λ l. Contains l own.0) (greatest-None (λ w. w.key) (filter (has_cell c) ws) last) (Contains-filter (has_cell c) ws own.0 own.1 (has_cell-version own.0 c v own.2))))
  both (Some v) (Some w) newest last =
      let made = version-has_cell w c (last_is ws c w last).1 in
      let at_last = has_last w made.0 last made.1 in
      let own = of_write v (newest_is_at vs c v newest) in
      let not_above : key_lt v.key (made.0).key ≡ false = (greatest-Some (λ u. u.key) (filter (λ u. coords_eq u.coords c) vs) v newest).top made.0 (found_there vs (made.0).key c made.0 at_last) in
      let below : key_lt w.key (own.0).key ≡ false = (greatest-Some (λ u. u.key) (filter (has_cell c) ws) w last).top own.0 (Contains-filter (has_cell c) ws own.0 own.1 (has_cell-version own.0 c v own.2)) in
      let not_below : key_lt (made.0).key v.key ≡ false =
      subst (λ k. key_lt k v.key ≡ false) (sym (key_of_version w c made.0 made.1)) (subst (λ k. key_lt w.key k ≡ false) (sym (key_of_version own.0 c v own.2)) below) in
      let same : v.key ≡ (made.0).key = same_from_both v.key (made.0).key not_above not_below in
      sym (newest_is_at vs c v newest) ∙ ap (λ k. version_at vs k c) same ∙ at_last ∙ sym made.1

  -- the newest version there is that of the last write
  pub newest_by : newest_at vs c ≡ last_version ws c
  newest_by = both (newest_at vs c) (last_of ws c) refl refl
