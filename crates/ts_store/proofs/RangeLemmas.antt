-- The names under a prefix are those between its bounds.
use Rattle.std.proofs.Common.{◌≡◌, ℕ, ◌<◌, Bool, true, false, not, ◌&&◌, List, [], ◌∷◌, map, filter, cond, refl, ap, ◌∙◌, arith}
use Rattle.std.specs.declared.cmp.Ordering.{Ordering}
use Rattle.std.specs.declared.cmp.Ordering.TheVariants.{Less, Equal, Greater}
use Rattle.std.specs.Ordering.{nat_cmp, is_le, is_lt, is_eq, ordering_then}
use Rattle.std.proofs.lemmas.Cmp.{ranked}
use Rattle.std.specs.BTreeMap.Range.{range_contains, entries_between}
use Rattle.std.specs.declared.ops.Bound.{Bound}
use Rattle.ts_base.specs.declared.keys.Key.{Key}
use Rattle.ts_base.specs.declared.keys.FragKey.{FragKey}
use Rattle.ts_base.specs.declared.names.CommitKind.{CommitKind}
use Rattle.ts_base.specs.declared.names.LeaseMode.{LeaseMode}
use Rattle.ts_base.specs.declared.names.Part.{Part}
use Rattle.ts_base.specs.declared.names.Part.TheVariants as part
use Rattle.ts_base.specs.declared.names.CommitKind.TheVariants as kind
use Rattle.ts_base.specs.declared.names.LeaseMode.TheVariants as mode
use Rattle.ts_base.specs.declared.names.Name.{Name}
use Rattle.ts_base.specs.declared.names.Name.TheVariants as name
use Rattle.ts_base.specs.declared.names.Prefix.{Prefix}
use Rattle.ts_base.specs.declared.names.Prefix.TheVariants as prefix
use Rattle.ts_base.specs.contracts.names.PartOrd.TheImpl as part_order
use Rattle.ts_base.specs.contracts.names.CommitKindOrd.TheImpl as kind_order
use Rattle.ts_base.specs.contracts.names.LeaseModeOrd.TheImpl as mode_order
use Rattle.ts_base.specs.Keys.{key_cmp, frag_cmp}
use Rattle.ts_base.specs.Names.{name_cmp, is_under}
use Rattle.ts_store.specs.Ranges.{least_key, least_frag, start_of, end_of}

-- no number is below 0
none_below : (n : ℕ) (r : Ordering) → r ≡ nat_cmp 0 n → is_le r ≡ true
none_below n Less e = refl
none_below n Equal e = refl
none_below n Greater e = let below : n < 0 = ranked 0 n Greater e in absurd (omega arith)

least : (n : ℕ) → is_le (nat_cmp 0 n) ≡ true
least n = none_below n (nat_cmp 0 n) refl

-- what compares so in each part compares so as a whole
both_le : (first second : Ordering) → is_le first ≡ true → is_le second ≡ true → is_le (ordering_then first second) ≡ true
both_le Less second le le' = refl
both_le Equal second le le' = le'
both_le Greater second le le' = cc

least_key_le : (k : Key) → is_le (key_cmp least_key k) ≡ true
least_key_le k = both_le (nat_cmp 0 k.t) (nat_cmp 0 k.id) (least k.t) (least k.id)

least_frag_le : (f : FragKey) → is_le (frag_cmp least_frag f) ≡ true
least_frag_le f =
    both_le (nat_cmp 0 f.t1) _ (least f.t1) (
    both_le (nat_cmp 0 f.t2) _ (least f.t2) (
    both_le (nat_cmp 0 f.id) _ (least f.id) (least f.v)))

least_kind_le : (k : CommitKind) → is_le ((kind_order.ghosts).cmp kind.Wrt k) ≡ true
least_kind_le kind.Wrt = refl
least_kind_le kind.Del = refl
least_kind_le kind.Vac = refl

least_part_le : (p : Part) → is_le ((part_order.ghosts).cmp part.Meta p) ≡ true
least_part_le part.Meta = refl
least_part_le _ = refl

least_mode_le : (m : LeaseMode) → is_le ((mode_order.ghosts).cmp mode.Shr m) ≡ true
least_mode_le mode.Shr = refl
least_mode_le mode.Exc = refl

least_schema : (k : Key) → is_le (name_cmp (name.Schema least_key) (name.Schema k)) ≡ true
least_schema k = least_key_le k

least_commit : (f : FragKey) (k : CommitKind) → is_le (name_cmp (name.Commit least_frag kind.Wrt) (name.Commit f k)) ≡ true
least_commit f k = both_le (frag_cmp least_frag f) _ (least_frag_le f) (least_kind_le k)

least_part : (f : FragKey) (p : Part) → is_le (name_cmp (name.Part least_frag part.Meta) (name.Part f p)) ≡ true
least_part f p = both_le (frag_cmp least_frag f) _ (least_frag_le f) (least_part_le p)

least_lease : (k : Key) (m : LeaseMode) → is_le (name_cmp (name.Lease least_key mode.Shr) (name.Lease k m)) ≡ true
least_lease k m = both_le (key_cmp least_key k) _ (least_key_le k) (least_mode_le m)

-- a fragment's parts lie between its first and its last
between_parts : (r : Ordering) (p : Part)
    → is_le (ordering_then r ((part_order.ghosts).cmp part.Meta p)) && not (is_lt (ordering_then r ((part_order.ghosts).cmp part.Plain p))) ≡ is_eq r
between_parts Less p = refl
between_parts Equal part.Meta = refl
between_parts Equal part.Plain = refl
between_parts Equal _ = refl
between_parts Greater p = refl

-- a name lies between the bounds of a prefix where it begins with the prefix
pub range_contains-is_under : (prefix : Prefix) (n : Name) → range_contains name_cmp (start_of prefix) (end_of prefix) n ≡ is_under prefix n
range_contains-is_under prefix.Schemas (name.Schema k) = ap (λ b. b && true) (least_schema k)
range_contains-is_under prefix.Schemas (name.Commit f k) = ap not (least_commit f k)
range_contains-is_under prefix.Commits (name.Commit f k) = ap (λ b. b && true) (least_commit f k)
range_contains-is_under prefix.Commits (name.Part f p) = ap not (least_part f p)
range_contains-is_under prefix.Leases (name.Lease k m) = ap (λ b. b && true) (least_lease k m)
range_contains-is_under (prefix.Fragment f) (name.Part g p) = between_parts (frag_cmp f g) p
range_contains-is_under _ _ = refl

pushed : {K X : Type 0} (b : Bool) (e : K × X) (es : List (K × X)) → map (λ f. f.0) (cond b (e ∷ es) es) ≡ cond b (e.0 ∷ map (λ f. f.0) es) (map (λ f. f.0) es)
pushed true e es = refl
pushed false e es = refl

-- the keys of the entries whose keys pass a test are the keys that pass a test which answers alike
pub keys-entries : {K X : Type 0} (s t : K → Bool) → ((k : K) → s k ≡ t k) → (es : List (K × X)) → map (λ e. e.0) (filter (λ e. s e.0) es) ≡ filter t (map (λ e. e.0) es)
keys-entries s t same [] = refl
keys-entries s t same (e ∷ es) =
    pushed (s e.0) e (filter (λ f. s f.0) es)
    ∙ ap (λ b. cond b (e.0 ∷ map (λ f. f.0) (filter (λ f. s f.0) es)) (map (λ f. f.0) (filter (λ f. s f.0) es))) (same e.0)
    ∙ ap (λ ks. cond (t e.0) (e.0 ∷ ks) ks) (keys-entries s t same es)

-- of entries in any order, the keys between the bounds of a prefix are the names that begin with it
pub keys-entries_between : {X : Type 0} (prefix : Prefix) (start end : Bound Name) (es : List (Name × X)) → start ≡ start_of prefix → end ≡ end_of prefix
    → map (λ e. e.0) (entries_between name_cmp start end es) ≡ filter (is_under prefix) (map (λ e. e.0) es)
keys-entries_between prefix start end es starts ends =
    keys-entries (range_contains name_cmp start end) (is_under prefix) (λ n.
    ap (λ bound. range_contains name_cmp bound end n) starts
    ∙ ap (λ bound. range_contains name_cmp (start_of prefix) bound n) ends
    ∙ range_contains-is_under prefix n) es
