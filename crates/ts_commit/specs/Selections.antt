-- Which fragments a read uses, which it loads, what is clipped, and what a vacuum removes.
use Rattle.std.specs.Prelude.{ℕ, Bool, not, ◌&&◌, ◌||◌, List, [], ◌++◌, filter, nat_le, map as list_map}
use Rattle.std.specs.List.{list_any, flat_map, fold}
use Rattle.std.specs.BTreeSet.{insert_key}
use Rattle.ts_base.specs.declared.keys.Key.{Key}
use Rattle.ts_base.specs.declared.keys.FragKey.{FragKey}
use Rattle.ts_base.specs.declared.heads.Head.{Head}
use Rattle.ts_base.specs.Keys.{key_eq, frag_eq, frag_cmp, is_within}
use Rattle.ts_commit.specs.declared.vacs.VacOf.{VacOf}

-- the span of the fragment meets [a, b]; nothing meets an empty interval
abbrev pub meets : ℕ → ℕ → FragKey → Bool
meets a b f = nat_le a b && (nat_le f.t1 b && nat_le a f.t2)

-- the span of the fragment lies in [a, b]
abbrev pub lies_in : ℕ → ℕ → FragKey → Bool
lies_in a b f = nat_le a f.t1 && nat_le f.t2 b

-- the fragment is one of these
abbrev pub is_among : FragKey → List FragKey → Bool
is_among f frags = list_any (frag_eq f) frags

-- the write of the key went into the fragment
abbrev pub has_origin : Key → Head → Bool
has_origin k head = list_any (key_eq k) head.origins

-- the fragment keeps of each cell the last version alone
abbrev pub keeps_last : Head → Bool
keeps_last head = head.dense

-- a committed fragment is usable where its span meets [a, b], and lies in it if the fragment keeps the last versions alone
abbrev pub is_usable : ℕ → ℕ → Head → Bool
is_usable a b head = meets a b head.frag && (not (keeps_last head) || lies_in a b head.frag)

-- the usable ones of the committed fragments
abbrev pub usable : ℕ → ℕ → List Head → List Head
usable a b heads = filter (is_usable a b) heads

-- one of these is the head of the fragment
abbrev pub is_head_of : FragKey → Head → Bool
is_head_of f head = frag_eq head.frag f

-- the `.vac` of one of these fragments names the fragment
abbrev pub is_named : List Head → List VacOf → FragKey → Bool
is_named heads vacs f = list_any (λ v. list_any (is_head_of v.frag) heads && is_among f v.names) vacs

-- a read loads the usable committed fragments that no `.vac` of a usable committed fragment names
abbrev pub loaded : ℕ → ℕ → List Head → List VacOf → List Head
loaded a b heads vacs = filter (λ head. not (is_named (usable a b heads) vacs head.frag)) (usable a b heads)

-- a write in [a, b] is clipped where it went into no usable committed fragment
abbrev pub is_clipped : ℕ → ℕ → List Head → Key → Bool
is_clipped a b heads k = is_within a b k && not (list_any (has_origin k) (usable a b heads))

-- the clipped fragments: those that are committed and not usable, and that a clipped write went into
abbrev pub clips : ℕ → ℕ → List Head → Head → Bool
clips a b heads head = not (is_usable a b head) && list_any (is_clipped a b heads) head.origins

abbrev pub clipped_names : ℕ → ℕ → List Head → List FragKey
clipped_names a b heads = list_map (λ head. head.frag) (filter (clips a b heads) heads)

-- one of the `.vac` objects names the fragment
abbrev pub is_merged : List VacOf → FragKey → Bool
is_merged vacs f = list_any (λ v. is_among f v.names) vacs

-- these fragments and others, ascending and each once
abbrev pub with_names : List FragKey → List FragKey → List FragKey
with_names frags others = fold (insert_key frag_cmp) frags others

-- the fragments, ascending and each once
abbrev pub in_order : List FragKey → List FragKey
in_order frags = with_names [] frags

-- the removal set of a vacuum: all that the `.vac` objects name which count
abbrev pub removal_set : List VacOf → List FragKey
removal_set vacs = in_order (flat_map (λ v. v.names) vacs)

-- the names of a consolidation's `.vac`: its sources, and what the `.vac` objects of these name
abbrev pub names_merged : List VacOf → List FragKey → List FragKey
names_merged vacs sources = in_order (sources ++ flat_map (λ v. v.names) (filter (λ v. is_among v.frag sources) vacs))

-- the fragment is a source, or the `.vac` of a source names it
abbrev pub is_taken : List VacOf → List FragKey → FragKey → Bool
is_taken vacs sources f = is_among f sources || list_any (λ v. is_among v.frag sources && is_among f v.names) vacs
