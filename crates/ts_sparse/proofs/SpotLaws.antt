-- The versions at spots, and what is written of them one after another.
use Rattle.std.proofs.Common.{◌≡◌, ℕ, zero, suc, ◌+◌, ◌<◌, ◌≤◌, ℤ, List, [], ◌∷◌, ◌++◌, length, map, take, get_or, refl, sym, ap, ◌∙◌, subst, arith}
use Rattle.std.specs.List.{All, flat_map}
use Rattle.std.proofs.lemmas.List.{length-map, map-append, take_more, take_all}
use Rattle.ts_base.specs.declared.heads.Version.{Version}
use Rattle.ts_base.specs.declared.keys.Key.{Key}
use Rattle.ts_base.specs.declared.values.Val.TheVariants.{Null}
use Rattle.ts_base.specs.declared.values.ValType.{ValType}
use Rattle.ts_base.specs.Values.{width_of}
use Rattle.ts_wire.specs.Numbers.{FitsInt, int_bytes}
use Rattle.ts_plain.specs.Writes.{HasPlace}
use Rattle.ts_column.specs.Spelled.{number_of, text_of}
use Rattle.ts_column.specs.Tiles.{is_signed}
use Rattle.ts_column.proofs.Written.{spelled_more}
use Rattle.ts_piece.specs.declared.spots.Spot.{Spot}
use Rattle.ts_piece.specs.Spots.{version_in, spotted}
use Rattle.ts_sparse.specs.declared.text_objects.TextScribe.{TextScribe}
use Rattle.ts_sparse.specs.Laying.{values_along}
use Rattle.ts_sparse.specs.TextObjects.{HasWritten}

-- ---- versions at spots

-- the version at a spot of theirs
pub spotted_at : (batches : List (List Version)) (spots : List Spot) (i : ℕ) (d : Spot) (v : Version) → i < length spots → v ≡ version_in batches (get_or spots i d) → v ≡ get_or (spotted batches spots) i v
spotted_at batches [] i d v within is = absurd (omega (arith, within))
spotted_at batches (t ∷ spots) zero d v within is = is
spotted_at batches (t ∷ spots) (suc i) d v within is = spotted_at batches spots i d v (omega (arith, within)) is

pub spotted_long : (batches : List (List Version)) (spots : List Spot) → length (spotted batches spots) ≡ length spots
spotted_long batches spots = length-map spots (version_in batches)

-- what holds of all versions holds of the one at a spot of theirs
spotted_has : (P : Version → Type 0) (batches : List (List Version)) (spots : List Spot) (versions : List Version) (i : ℕ) (d : Spot) (v : Version) → spotted batches spots ≡ versions → All P versions → i < length spots
    → v ≡ version_in batches (get_or spots i d) → P v
spotted_has P batches spots versions i d v same all within is =
    let short : i < length (spotted batches spots) = omega (arith, within, length-map spots (version_in batches)) in
    subst P (sym (spotted_at batches spots i d v within is)) (subst (All P) (sym same) all i v short)

-- the integer of the version at a spot has room
pub integer_fits : (ty : ValType) (f : Version → ℤ) (batches : List (List Version)) (spots : List Spot) (versions : List Version) (i : ℕ) (d : Spot) (z : ℤ) → spotted batches spots ≡ versions
    → All (λ (v : Version). FitsInt (width_of ty) (is_signed ty) (f v)) versions → i < length spots → z ≡ f (version_in batches (get_or spots i d)) → FitsInt (width_of ty) (is_signed ty) z
integer_fits ty f batches spots versions i d z same all within is =
    subst (FitsInt (width_of ty) (is_signed ty)) (sym is)
    (spotted_has (λ (v : Version). FitsInt (width_of ty) (is_signed ty) (f v)) batches spots versions i d (version_in batches (get_or spots i d)) same all within refl)

-- and its write is known
pub key_known : (origins : List Key) (batches : List (List Version)) (spots : List Spot) (versions : List Version) (i : ℕ) (d : Spot) (v : Version) (k : Key) → spotted batches spots ≡ versions → All (λ (v : Version). HasPlace origins v.key) versions
    → i < length spots → v ≡ version_in batches (get_or spots i d) → k ≡ v.key → HasPlace origins k
key_known origins batches spots versions i d v k same all within at is =
    subst (HasPlace origins) (sym is) (spotted_has (λ (v : Version). HasPlace origins v.key) batches spots versions i d v same all within at)

-- ---- the integers one after another

fused : (f : Version → ℤ) (batches : List (List Version)) (spots : List Spot) → map f (spotted batches spots) ≡ map (λ s. f (version_in batches s)) spots
fused f batches [] = refl
fused f batches (s ∷ spots) = ap (λ zs. f (version_in batches s) ∷ zs) (fused f batches spots)

-- one integer more
pub integer_next : (f : Version → ℤ) (n w : ℕ) (batches : List (List Version)) (spots : List Spot) (i : ℕ) (d : Spot) (y z : ℤ) (was next : List ℕ) → was ≡ flat_map (int_bytes n) (map f (spotted batches (take i spots))) → i < length spots
    → z ≡ f (version_in batches (get_or spots i d)) → w ≡ n → y ≡ z → next ≡ was ++ int_bytes w y → next ≡ flat_map (int_bytes n) (map f (spotted batches (take (i + 1) spots)))
integer_next f n w batches spots i d y z was next so_far within is width same push =
    let at : Spot → ℤ = λ s. f (version_in batches s) in
    push ∙ ap (λ m. was ++ int_bytes m y) width ∙ ap (λ o. o ++ int_bytes n y) so_far ∙ ap (λ zs. flat_map (int_bytes n) zs ++ int_bytes n y) (fused f batches (take i spots))
    ∙ ap (λ x. flat_map (int_bytes n) (map at (take i spots)) ++ int_bytes n x) (same ∙ is)
    ∙ sym (spelled_more (int_bytes n) at spots i d within) ∙ ap (flat_map (int_bytes n)) (sym (fused f batches (take (i + 1) spots)))

-- the integers that are stored for values
stored : (attr : ℕ) (versions : List Version) → map (λ (v : Version). number_of (get_or v.row attr Null)) versions ≡ map number_of (values_along attr versions)
stored attr [] = refl
stored attr (v ∷ versions) = ap (λ zs. number_of (get_or v.row attr Null) ∷ zs) (stored attr versions)

-- one more of those that are stored for values
pub number_next : (attr n w : ℕ) (batches : List (List Version)) (spots : List Spot) (i : ℕ) (d : Spot) (y z : ℤ) (was next : List ℕ) → was ≡ flat_map (int_bytes n) (map number_of (values_along attr (spotted batches (take i spots)))) → i < length spots
    → z ≡ number_of (get_or (version_in batches (get_or spots i d)).row attr Null) → w ≡ n → y ≡ z → next ≡ was ++ int_bytes w y → next ≡ flat_map (int_bytes n) (map number_of (values_along attr (spotted batches (take (i + 1) spots))))
number_next attr n w batches spots i d y z was next so_far within is width same push =
    integer_next (λ (v : Version). number_of (get_or v.row attr Null)) n w batches spots i d y z was next (so_far ∙ ap (flat_map (int_bytes n)) (sym (stored attr (spotted batches (take i spots))))) within is width same push
    ∙ ap (flat_map (int_bytes n)) (stored attr (spotted batches (take (i + 1) spots)))

-- ---- the texts one after another

-- one text more of those that are stored for values
texts_more : (attr : ℕ) (batches : List (List Version)) (spots : List Spot) (i : ℕ) (d : Spot) → i < length spots
    → map text_of (values_along attr (spotted batches (take (i + 1) spots))) ≡ map text_of (values_along attr (spotted batches (take i spots))) ++ text_of (get_or (version_in batches (get_or spots i d)).row attr Null) ∷ []
texts_more attr batches spots i d within =
    let v = version_in batches (get_or spots i d) in
    ap (λ front. map text_of (values_along attr (spotted batches front))) (take_more spots i d within)
    ∙ ap (λ versions. map text_of (values_along attr versions)) (map-append (version_in batches) (take i spots) (get_or spots i d ∷ []))
    ∙ ap (map text_of) (map-append (λ (v : Version). get_or v.row attr Null) (spotted batches (take i spots)) (v ∷ []))
    ∙ map-append text_of (values_along attr (spotted batches (take i spots))) (get_or v.row attr Null ∷ [])

-- one text more is written
pub text_next : (attr n : ℕ) (batches : List (List Version)) (spots : List Spot) (i : ℕ) (d : Spot) (x : List ℕ) (was next : TextScribe) → HasWritten n (map text_of (values_along attr (spotted batches (take i spots)))) was → i < length spots
    → x ≡ text_of (get_or (version_in batches (get_or spots i d)).row attr Null) → ((m : ℕ) (texts : List (List ℕ)) → HasWritten m texts was → HasWritten m (texts ++ x ∷ []) next)
    → HasWritten n (map text_of (values_along attr (spotted batches (take (i + 1) spots)))) next
text_next attr n batches spots i d x was next so_far within is push =
    let texts = map text_of (values_along attr (spotted batches (take i spots))) in
    subst (λ ts. HasWritten n ts next) (ap (λ y. texts ++ y ∷ []) is ∙ sym (texts_more attr batches spots i d within)) (push n texts so_far)

-- and at the end those of all versions are
pub text_last : (attr n : ℕ) (batches : List (List Version)) (spots : List Spot) (versions : List Version) (i : ℕ) (all : TextScribe) → HasWritten n (map text_of (values_along attr (spotted batches (take i spots)))) all → length spots ≤ i
    → spotted batches spots ≡ versions → HasWritten n (map text_of (values_along attr versions)) all
text_last attr n batches spots versions i all so_far past same =
    subst (λ vs. HasWritten n (map text_of (values_along attr vs)) all) (ap (spotted batches) (take_all i spots past) ∙ same) so_far
