-- Trees of keys: what one more of them changes, and what they hold in order; and what is true of each of the newest versions.
use Rattle.std.proofs.Common.{◌≡◌, ℤ, Bool, not, true, false, cond, List, [], ◌∷◌, length, Some, map, Ordering, Less, Equal, Greater, refl, sym, ap, subst, ◌∙◌, arith}
use Rattle.std.specs.List.{AllByRecursion}
use Rattle.std.specs.Ordering.{int_cmp}
use Rattle.std.specs.Cmp.Lexicographic.{slice_cmp}
use Rattle.std.specs.BTreeMap as tree
use Rattle.std.specs.FinMap as finite
use Rattle.ts_base.specs.declared.keys.Key.{Key}
use Rattle.ts_base.specs.declared.heads.Version.{Version}
use Rattle.ts_base.specs.Keys.{key_cmp, key_eq}
use Rattle.ts_base.specs.Exact.{key_total, key_exact}
use Rattle.ts_store.proofs.Trees.{insert-tree, entries-tree}
use Rattle.ts_model.specs.Pieces.{Newest, with_version, newest_of, newest_after}
pub use Rattle.ts_actor.proofs.Newer.{newest_after_more, newest_of_is}
use Rattle.ts_model.proofs.Newest.{coords_total}
use Rattle.ts_reader.specs.Newest.{keys_in, with_other}

-- ---- keys

-- another key takes its place in the tree
pub other_put : (m n : tree.BTreeMap Key Key) (there key : Key) → key_eq key there ≡ false → tree.Updates key_cmp m n key (Some key) → keys_in n ≡ with_other there key (keys_in m)
other_put m n there key other updates =
    insert-tree key_total key_exact m n key key updates ∙ sym (ap (λ b. cond (not b) (finite.insert (keys_in m) key key) (keys_in m)) other)

-- the keys of a tree are those of the map, in order
pub keys_in_order : (m : tree.BTreeMap Key Key) (all : finite.FinMap key_cmp Key) → tree.IsOrdered key_cmp m → keys_in m ≡ all → tree.keys m ≡ finite.keys all
keys_in_order m all ordered same = ap (λ es. map (λ e. e.0) es) (sym (entries-tree key_total m.entries ordered) ∙ ap finite.entries same)

-- ---- what is true of each of the newest versions

module _ (P : Version → Type 0) where
  -- it is true of the version of each entry
  abbrev AreSo : List (List ℤ × Version) → Type 0
  AreSo es = AllByRecursion (λ e. P e.1) es

  so_placed : (v : Version) → P v → (e : List ℤ × Version) (es : List (List ℤ × Version)) → AreSo (e ∷ es) → AreSo (finite.put (slice_cmp int_cmp) v.coords v es) → (o : Ordering) → slice_cmp int_cmp v.coords e.0 ≡ o
      → AreSo (finite.put (slice_cmp int_cmp) v.coords v (e ∷ es))
  so_placed v so e es all later Less is = rw is (so, all)
  so_placed v so e es all later Equal is = rw is (so, all.1)
  so_placed v so e es all later Greater is = rw is (all.0, later)

  so_put : (v : Version) → P v → (es : List (List ℤ × Version)) → AreSo es → AreSo (finite.put (slice_cmp int_cmp) v.coords v es)
  so_put v so [] all = (so, tt)
  so_put v so (e ∷ es) all = so_placed v so e es all (so_put v so es all.1) (slice_cmp int_cmp v.coords e.0) refl

  so_with : (m : Newest) (v : Version) → P v → (b : Bool) → AreSo (finite.entries m) → AreSo (finite.entries (cond b (finite.insert m v.coords v) m))
  so_with m v so true all = subst AreSo (sym (finite.entries-insert coords_total m v.coords v)) (so_put v so (finite.entries m) all)
  so_with m v so false all = all

  so_after : (m : Newest) (vs : List Version) → AllByRecursion P vs → AreSo (finite.entries m) → AreSo (finite.entries (newest_after m vs))
  so_after m [] each all = all
  so_after m (v ∷ vs) each all = so_after (with_version m v) vs each.1 (so_with m v each.0 _ all)

  so_none : (es : List (List ℤ × Version)) → length es ≡ 0 → AreSo es
  so_none [] e = tt
  so_none (x ∷ es) e = absurd (omega arith)

  so_newest : (vs : List Version) → AllByRecursion P vs → AreSo (finite.entries (newest_of vs))
  so_newest vs each = rw (newest_of_is vs) (so_after finite.empty vs each (so_none (finite.entries finite.empty) (sym (finite.len-entries finite.empty) ∙ finite.len-empty (slice_cmp int_cmp) Version)))

  so_values : (es : List (List ℤ × Version)) → AreSo es → AllByRecursion P (map (λ e. e.1) es)
  so_values [] all = tt
  so_values (e ∷ es) all = (all.0, so_values es all.1)

  -- what is true of each version is true of each of the newest
  pub newest_so : (vs : List Version) → AllByRecursion P vs → AllByRecursion P (finite.values (newest_of vs))
  newest_so vs each = so_values (finite.entries (newest_of vs)) (so_newest vs each)
