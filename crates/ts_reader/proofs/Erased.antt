-- What is left of versions once the deletes are over them.
use Rattle.std.proofs.Common.{◌≡◌, ℕ, ℤ, ◌+◌, ◌<◌, suc, zero, Bool, true, false, not, ◌||◌, cond, List, [], ◌∷◌, length, drop, Option, Some, None, map, refl, sym, ap, ◌∙◌, arith, get_or}
use Rattle.std.specs.Prelude.{filter, slice_get, find, if◌then◌else◌}
use Rattle.std.specs.List.{list_any, AllByRecursion}
use Rattle.std.specs.Option.{option_map_or}
use Rattle.ts_base.specs.declared.keys.Key.{Key}
use Rattle.ts_base.specs.declared.heads.Version.{Version}
use Rattle.ts_base.specs.declared.values.Val.{Val}
use Rattle.ts_base.specs.Keys.{key_eq}
use Rattle.ts_schema.specs.declared.schemas.Schema.{Schema}
use Rattle.ts_model.specs.declared.states.Reading.{Reading}
use Rattle.ts_schema.specs.Attrs.{shown_row}
use Rattle.ts_model.specs.Answers.{fills_of}
use Rattle.ts_model.specs.States.{attrs_got, cell_shown, is_erased_by, known_attrs, row_or_fill}
use Rattle.ts_reader.specs.Deletes.{all_shown, erases}

one_so : (P : List ℤ → Type 0) (r : Reading) (schemas : List Schema) (v : Version) (left : List Version) (b : Bool) → P v.coords → AllByRecursion (λ (e : List ℤ × List Val). P e.0) (map (cell_shown r schemas) left)
    → AllByRecursion (λ (e : List ℤ × List Val). P e.0) (map (cell_shown r schemas) (cond (not b) (v ∷ left) left))
one_so P r schemas v left true here all = all
one_so P r schemas v left false here all = (here, all)

-- what is true of the coordinates of each version is true of those of each cell that is shown
pub cells_so : (P : List ℤ → Type 0) (r : Reading) (schemas : List Schema) (vs : List Version) → AllByRecursion (λ v. P v.coords) vs → AllByRecursion (λ (e : List ℤ × List Val). P e.0) (all_shown r schemas vs)
cells_so P r schemas [] all = tt
cells_so P r schemas (v ∷ vs) all = one_so P r schemas v (filter (λ w. not (is_erased_by r schemas w)) vs) (is_erased_by r schemas v) all.0 (cells_so P r schemas vs all.1)

-- the row that a dense array shows of its newest version
pub filled_row : (r : Reading) (schemas : List Schema) (v : Version) (b : Bool) → list_any (erases (attrs_got r schemas v.schema) v) r.deletions ≡ b
    → row_or_fill r schemas (Some v) ≡ cond b (fills_of (r.current).attrs) (shown_row (attrs_got r schemas v.schema) v.row (r.current).attrs)
filled_row r schemas v b is = ap row is ∙ by_test b
  where
    row : Bool → List Val
    row e = option_map_or (λ vals. vals) (cond (not e) (Some (shown_row (attrs_got r schemas v.schema) v.row (r.current).attrs)) None) (fills_of (r.current).attrs)

    by_test : (e : Bool) → row e ≡ cond e (fills_of (r.current).attrs) (shown_row (attrs_got r schemas v.schema) v.row (r.current).attrs)
    by_test true = refl
    by_test false = refl

-- ---- lists that were mapped

-- what stands at a place of a list that was mapped
pub mapped_at : {X Y : Type 0} (f : X → Y) (xs : List X) (i : ℕ) (x : X) (y : Y) → slice_get xs i ≡ Some x → slice_get (map f xs) i ≡ Some y → y ≡ f x
mapped_at f [] i x y at mapped = absurd (cc)
mapped_at f (z ∷ xs) zero x y at mapped = let one : z ≡ x = cc in let two : f z ≡ y = cc in sym two ∙ ap f one
mapped_at f (z ∷ xs) (suc i) x y at mapped = mapped_at f xs i x y at mapped

-- one item less to look at
pub any_on : {X : Type 0} (test : X → Bool) (xs : List X) (i : ℕ) (x : X) → slice_get xs i ≡ Some x → list_any test (drop i xs) ≡ (test x || list_any test (drop (i + 1) xs))
any_on test [] i x at = absurd (cc)
any_on test (y ∷ xs) zero x at = let one : y ≡ x = cc in ap (λ z. test z || list_any test xs) one
any_on test (y ∷ xs) (suc i) x at = let next : suc i + 1 ≡ suc (i + 1) = omega arith in rw next (any_on test xs i x at)

-- what stands at a place within a list
pub there_at : {X : Type 0} (xs : List X) (i : ℕ) (d : X) → i < length xs → slice_get xs i ≡ Some (get_or xs i d)
there_at [] i d within = absurd (omega (arith, within))
there_at (x ∷ xs) zero d within = refl
there_at (x ∷ xs) (suc i) d within = there_at xs i d (omega (arith, within))

-- the attributes of a schema beside the one there are those that were found
pub known_further : (r : Reading) (schemas : List Schema) (k : Key) (o : Option Schema) → key_eq k (r.current).key ≡ false → find (λ s. key_eq s.key k) schemas ≡ o → known_attrs r schemas k ≡ option_map_or (λ s. s.attrs) o []
known_further r schemas k o other found =
    ap (λ b. option_map_or (λ s. s.attrs) (if b then Some r.current else find (λ s. key_eq s.key k) schemas) []) other
    ∙ ap (λ (p : Option Schema). option_map_or (λ s. s.attrs) p []) found
