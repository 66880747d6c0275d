-- A map from keys in order, kept in a tree, seen as a finite map. Only equal keys tie.
use Rattle.std.proofs.Common.{◌≡◌, List, [], ◌∷◌, Option, None, Some, cond, length, arith, refl, sym, ap, ◌∙◌}
use Rattle.std.specs.declared.cmp.Ordering.{Ordering}
use Rattle.std.specs.declared.cmp.Ordering.TheVariants.{Less}
use Rattle.std.specs.Ordering.{is_eq, eq_by_cmp}
use Rattle.std.specs.Cmp.{IsTotalOrder, eq_by_cmp_equiv}
use Rattle.std.specs.Map.{lookup, keys_of}
use Rattle.std.specs.BTreeMap as tree
use Rattle.std.specs.List.{AllByRecursion}
use Rattle.std.specs.List.Sorted.{IsStrictlySortedBy}
use Rattle.std.specs.FinMap.{IsAntisymmetric, get, insert, remove, entries, from_entries, empty, find, put, get-from_entries, get-insert, get-remove, entries-insert, same_map, len-entries, len-empty}

module _ {K X : Type 0} {R : K → K → Ordering} (total : IsTotalOrder R) where
  -- the two ways to look a key up in a list of entries
  find-lookup : (q : K) (es : List (K × X)) → find R q es ≡ lookup (λ k. is_eq (R q k)) es
  find-lookup q [] = refl
  find-lookup q (e ∷ es) = ap (cond (is_eq (R q e.0)) (Some e.1)) (find-lookup q es)

  -- what the map has at a key
  pub get-tree : (m : tree.BTreeMap K X) (q : K) → get (from_entries {R = R} m.entries) q ≡ tree.get R m q
  get-tree m q = get-from_entries total m.entries q ∙ find-lookup q m.entries

  -- how a tie reads from the other side
  turned : (q k : K) (x y : Option X) → cond (eq_by_cmp R q k) x y ≡ cond (eq_by_cmp R k q) x y
  turned q k x y = ap (λ b. cond b x y) ((eq_by_cmp_equiv total).symm q k)

  module _ (exact : IsAntisymmetric R) where
    -- a tree that was given a value at a key is the map with that value
    pub insert-tree : (m n : tree.BTreeMap K X) (k : K) (v : X) → tree.Updates R m n k (Some v)
        → from_entries {R = R} n.entries ≡ insert (from_entries m.entries) k v
    insert-tree m n k v updates =
        same_map total exact _ _ (λ q.
        get-tree n q ∙ updates.0 q
        ∙ sym (get-insert total _ k v q ∙ turned q k _ _ ∙ ap (cond (eq_by_cmp R k q) (Some v)) (get-tree m q)))

    -- a tree whose entry at a key was taken out is the map without it
    pub remove-tree : (m n : tree.BTreeMap K X) (k : K) → tree.Updates R m n k None
        → from_entries {R = R} n.entries ≡ remove (from_entries m.entries) k
    remove-tree m n k updates =
        same_map total exact _ _ (λ q.
        get-tree n q ∙ updates.0 q
        ∙ sym (get-remove total _ k q ∙ turned q k _ _ ∙ ap (cond (eq_by_cmp R k q) None) (get-tree m q)))

  no_entries : (es : List (K × X)) → length es ≡ 0 → es ≡ []
  no_entries [] none = refl
  no_entries (e ∷ es) none = absurd (omega arith)

  -- an entry whose key is below all others goes to the front
  put_front : (e : K × X) (es : List (K × X)) → AllByRecursion (λ k. R e.0 k ≡ Less) (keys_of es) → put R e.0 e.1 es ≡ e ∷ es
  put_front e [] below = refl
  put_front e (f ∷ es) below = rw below.0

  -- the map of entries in order has just these
  pub entries-tree : (es : List (K × X)) → IsStrictlySortedBy R (keys_of es) → entries (from_entries {R = R} es) ≡ es
  unfolding IsStrictlySortedBy
  entries-tree [] sorted = no_entries _ (sym (len-entries (empty {R = R})) ∙ len-empty R X)
  entries-tree (e ∷ es) sorted =
      entries-insert total (from_entries es) e.0 e.1
      ∙ ap (put R e.0 e.1) (entries-tree es sorted.1)
      ∙ put_front e es sorted.0
