-- Lists of versions in which the same is found are merged alike.
use Rattle.std.proofs.Common.{◌≡◌, ℕ, ℤ, Bool, true, false, cond, ◌&&◌, List, [], ◌∷◌, Option, Some, None, refl, sym, ◌∙◌, ap, subst}
use Rattle.std.specs.Prelude.{Contains, filter, map as list_map}
use Rattle.std.specs.Cmp.{IsTotalOrder}
use Rattle.std.specs.List.{AllByRecursion}
use Rattle.std.specs.Ordering.{eq_by_cmp}
use Rattle.std.specs.declared.cmp.Ordering.{Ordering}
use Rattle.std.specs.FinMap.{IsAntisymmetric}
use Rattle.std.specs.FinMap as map
use Rattle.std.specs.FinMap.Entries.{same_entries}
use Rattle.std.proofs.lemmas.Option.{same_Some, none-some}
use Rattle.ts_base.specs.declared.keys.Key.{Key}
use Rattle.ts_base.specs.declared.heads.Piece.{Piece}
use Rattle.ts_base.specs.declared.heads.Version.{Version}
use Rattle.ts_base.specs.Keys.{key_eq}
use Rattle.ts_base.specs.Coords.{coords_eq}
use Rattle.ts_schema.specs.declared.frames.Frame.{Frame}
use Rattle.ts_commit.specs.Selections.{keeps_last}
use Rattle.ts_model.specs.Pieces.{version_at, newest_of}
use Rattle.ts_model.proofs.KeyLemmas.{greatest-None, greatest-Some, same_from_both, same_from_tie}
use Rattle.ts_model.proofs.ListLemmas.{Contains-nil, find-append, or_else}
use Rattle.ts_model.proofs.Newest.{coords_total, coords_exact, get_newest_of}
use Rattle.ts_model.specs.declared.merging.VersionPlace.{VersionPlace}
use Rattle.ts_model.specs.Merging.{newest_at, all_versions, with_key, left_of, version_place_cmp, version_place, placed_of, in_version_order, merged_versions, made_with, merged_with, heads_of, merged_piece, AreAlike, EachAlike, all_got}
use Rattle.ts_model.proofs.Members.{newest_is_at, found_there}
use Rattle.ts_model.proofs.UnionLaws.{version_total, version_exact, Entry, IsNamed, entries_in, named, back, found}

-- the newest version is the same
pub newest_alike : (vs us : List Version) → AreAlike vs us → (c : List ℤ) → newest_at vs c ≡ newest_at us c
newest_alike vs us alike c = by (newest_at vs c) (newest_at us c) refl refl
  where
    none_there : (xs : List Version) (k : Key) (v : Version) → newest_at xs c ≡ None → version_at xs k c ≡ Some v → ⊥
    none_there xs k v none found = Contains-nil v (subst (λ l. Contains l v) (greatest-None (λ u. u.key) (filter (λ u. coords_eq u.coords c) xs) none) (found_there xs k c v found))

    by : (o q : Option Version) → newest_at vs c ≡ o → newest_at us c ≡ q → o ≡ q
    by None None first second = refl
    by None (Some u) first second = absurd (none_there vs u.key u first (alike u.key c ∙ newest_is_at us c u second))
    by (Some v) None first second = absurd (none_there us v.key v second (sym (alike v.key c) ∙ newest_is_at vs c v first))
    by (Some v) (Some u) first second =
        let v_there : version_at us v.key c ≡ Some v = sym (alike v.key c) ∙ newest_is_at vs c v first in
        let u_there : version_at vs u.key c ≡ Some u = alike u.key c ∙ newest_is_at us c u second in
        let not_above = (greatest-Some (λ x. x.key) (filter (λ x. coords_eq x.coords c) vs) v first).top u (found_there vs u.key c u u_there) in
        let not_below = (greatest-Some (λ x. x.key) (filter (λ x. coords_eq x.coords c) us) u second).top v (found_there us v.key c v v_there) in
        let same : v.key ≡ u.key = same_from_both v.key u.key not_above not_below in
        sym v_there ∙ ap (λ k. version_at us k c) same ∙ newest_is_at us c u second

-- what is left is the same
pub left_alike : (last : Bool) (vs us : List Version) → AreAlike vs us → (k : Key) (c : List ℤ) → left_of last vs k c ≡ left_of last us k c
left_alike true vs us alike k c = ap (with_key k) (newest_alike vs us alike c)
left_alike false vs us alike k c = alike k c

-- so the same is found in all of them
pub all_alike : (ps : List Piece) (got : List (List Version)) → EachAlike ps got → AreAlike (all_versions ps) (all_got got)
all_alike [] [] each k c = refl
all_alike [] (vs ∷ got) each k c = absurd each
all_alike (p ∷ ps) [] each k c = absurd each
all_alike (p ∷ ps) (vs ∷ got) each k c =
    find-append (λ v. key_eq v.key k && coords_eq v.coords c) p.versions (all_versions ps)
    ∙ ap (λ o. or_else o (version_at (all_versions ps) k c)) (each.0 k c) ∙ ap (or_else (version_at vs k c)) (all_alike ps got each.1 k c)
    ∙ sym (find-append (λ v. key_eq v.key k && coords_eq v.coords c) vs (all_got got))

-- what is left of what was got is what is left of the pieces
pub left_of_got : (last : Bool) (ps : List Piece) (got : List (List Version)) → EachAlike ps got → (k : Key) (c : List ℤ) → left_of last (all_got got) k c ≡ left_of last (all_versions ps) k c
left_of_got last ps got each k c = sym (left_alike last (all_versions ps) (all_got got) (all_alike ps got each) k c)

-- ---- what they are merged into is the same

-- maps in which the same is found have the same entries
same_map : {K X : Type 0} {R : K → K → Ordering} → IsTotalOrder R → IsAntisymmetric R → (m n : map.FinMap R X) → ((k : K) → map.get m k ≡ map.get n k) → map.entries m ≡ map.entries n
same_map {R = R} total exact m n same =
    same_entries R total exact (map.entries m) (map.entries n) (map.entries_sorted m) (map.entries_sorted n) (λ k. sym (map.get-entries m k) ∙ same k ∙ map.get-entries n k)

module _ (frame : Frame) where
  -- a version that is found stands at its place
  found_place : (p : VersionPlace) (v : Version) (es : List Entry) → AllByRecursion (IsNamed frame) es → map.find version_place_cmp p es ≡ Some v → p ≡ version_place frame v.coords v.key
  found_place p v [] named e = absurd (none-some v e)
  found_place p v (x ∷ es) named e = by (eq_by_cmp version_place_cmp p x.0) refl e (λ later. found_place p v es named.1 later)
    where
      by : (b : Bool) → eq_by_cmp version_place_cmp p x.0 ≡ b → cond b (Some x.1) (map.find version_place_cmp p es) ≡ Some v → (map.find version_place_cmp p es ≡ Some v → p ≡ version_place frame v.coords v.key) → p ≡ version_place frame v.coords v.key
      by true tie is later = same_from_tie version_total version_exact p x.0 tie ∙ named.0 ∙ ap (λ (u : Version). version_place frame u.coords u.key) (same_Some x.1 v is)
      by false other is later = later is

  -- at the place of a key and coordinates the versions have what they have there
  find_at : (vs : List Version) (p : VersionPlace) (k : Key) (c : List ℤ) → p ≡ version_place frame c k → map.find version_place_cmp p (entries_in frame vs) ≡ version_at vs k c
  find_at vs p k c is =
      ap (λ q. map.find version_place_cmp q (entries_in frame vs)) is ∙ sym (found frame k c (entries_in frame vs) (named frame vs)) ∙ ap (λ l. version_at l k c) (back frame vs)

  same_find : (vs us : List Version) → AreAlike vs us → (p : VersionPlace) → map.find version_place_cmp p (entries_in frame vs) ≡ map.find version_place_cmp p (entries_in frame us)
  same_find vs us alike p = by (map.find version_place_cmp p (entries_in frame vs)) (map.find version_place_cmp p (entries_in frame us)) refl refl
    where
      one : (v : Version) → p ≡ version_place frame v.coords v.key → map.find version_place_cmp p (entries_in frame vs) ≡ map.find version_place_cmp p (entries_in frame us)
      one v is = find_at vs p v.key v.coords is ∙ alike v.key v.coords ∙ sym (find_at us p v.key v.coords is)

      by : (o q : Option Version) → map.find version_place_cmp p (entries_in frame vs) ≡ o → map.find version_place_cmp p (entries_in frame us) ≡ q → o ≡ q
      by None None first second = refl
      by (Some v) q first second = sym first ∙ one v (found_place p v (entries_in frame vs) (named frame vs) first) ∙ second
      by None (Some u) first second = sym first ∙ one u (found_place p u (entries_in frame us) (named frame us) second) ∙ second

  -- in order they are the same
  pub in_order_alike : (vs us : List Version) → AreAlike vs us → in_version_order frame vs ≡ in_version_order frame us
  unfolding placed_of
  in_order_alike vs us alike =
      ap (list_map (λ e. e.1)) (same_map version_total version_exact (map.from_entries {R = version_place_cmp} (entries_in frame vs)) (map.from_entries {R = version_place_cmp} (entries_in frame us))
      (λ p. map.get-from_entries version_total (entries_in frame vs) p ∙ same_find vs us alike p ∙ sym (map.get-from_entries version_total (entries_in frame us) p)))

  -- what is kept of them is the same
  pub merged_alike : (last : Bool) (vs us : List Version) → AreAlike vs us → merged_versions frame last vs ≡ merged_versions frame last us
  merged_alike true vs us alike =
      ap (λ es. in_version_order frame (list_map (λ e. e.1) es)) (same_map coords_total coords_exact (newest_of vs) (newest_of us) (λ c. get_newest_of vs c ∙ newest_alike vs us alike c ∙ sym (get_newest_of us c)))
  merged_alike false vs us alike = in_order_alike vs us alike

  -- what pieces are merged into is made of what was got of them
  pub merged_got : (id : ℕ) (p : Piece) (ps : List Piece) (got : List (List Version)) → EachAlike (p ∷ ps) got → merged_with frame id p.head (heads_of ps) (all_got got) ≡ merged_piece frame id p ps
  merged_got id p ps got each =
      let same = merged_alike (keeps_last p.head) (all_versions (p ∷ ps)) (all_got got) (all_alike (p ∷ ps) got each) in
      ap (made_with id p.head (heads_of ps)) (sym same)
