-- Trees of keys: what one more key changes, and the keys in order.
use Rattle.std.proofs.Common.{◌≡◌, Some, map, sym, ap, ◌∙◌}
use Rattle.std.specs.BTreeMap as tree
use Rattle.std.specs.FinMap as finite
use Rattle.ts_base.specs.declared.keys.Key.{Key}
use Rattle.ts_base.specs.Keys.{key_cmp}
use Rattle.ts_base.specs.Exact.{key_total, key_exact}
use Rattle.ts_store.proofs.Trees.{insert-tree, entries-tree}
use Rattle.ts_consolidate.specs.Named.{keys_in}

-- a key takes its place in the tree
pub key_put : (m n : tree.BTreeMap Key Key) (key : Key) → tree.Updates key_cmp m n key (Some key) → keys_in n ≡ finite.insert (keys_in m) key key
key_put m n key updates = insert-tree key_total key_exact m n key key updates

-- the keys of a tree are those of the map, in order
pub keys_in_order : (m : tree.BTreeMap Key Key) (all : finite.FinMap key_cmp Key) → tree.IsOrdered key_cmp m → keys_in m ≡ all → tree.keys m ≡ finite.keys all
keys_in_order m all ordered same = ap (λ es. map (λ e. e.0) es) (sym (entries-tree key_total m.entries ordered) ∙ ap finite.entries same)
