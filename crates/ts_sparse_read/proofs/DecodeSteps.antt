-- Columns of all tiles are decoded one after another.
use Rattle.std.proofs.Common.{◌≡◌, ℕ, suc, ◌+◌, ◌-◌, ◌<◌, ◌≤◌, min, Bool, true, false, List, [], ◌∷◌, ◌++◌, length, get_or, drop, replicate, Option, Some, None, refl, sym, ap, subst, ◌∙◌, arith, append_assoc}
use Rattle.std.specs.Prelude.{Ok, IfSome}
use Rattle.std.specs.Option.{option_to_list}
use Rattle.std.proofs.lemmas.List.{append-nil}
use Rattle.ts_base.specs.declared.values.Val.{Val}
use Rattle.ts_schema.specs.declared.attrs.Attr.{Attr}
use Rattle.ts_column.specs.Tiles.{then_part, tile_vals, tiles_vals}
use Rattle.ts_column.proofs.TileLaws.{then_ok}
use Rattle.ts_sparse_read.specs.declared.opened.WantedTile.{WantedTile}
use Rattle.ts_sparse_read.specs.Faults.{in_tile}
use Rattle.ts_sparse_read.specs.Judges.{ranged}
use Rattle.ts_sparse_read.specs.TileReads.{is_among, tile_in, vals_of_tile}
use Rattle.ts_sparse_read.specs.Decoded.{counts_of, attr_tiles, null_columns, AreOfAttr, AreDecoded, turned}
use Rattle.ts_sparse_read.proofs.ColumnSteps.{GoingVals, vals_none, vals_more, vals_all}
use Rattle.ts_sparse_read.proofs.TileSifts.{drop_here, drop_capped}

-- ---- one attribute

-- what is decoded of all tiles is what is read of each
pub of_attr : (k : ℕ) (a : Attr) (tiles : List WantedTile) (got : List (List ℕ)) (columns : List (List Val)) → tiles_vals a.ty a.nullable (counts_of tiles) (attr_tiles k tiles got) ≡ Ok columns → AreOfAttr true k a tiles got columns
of_attr k a [] got columns h = let is : [] ≡ columns = cc in subst (AreOfAttr true k a [] got) is tt
of_attr k a (t ∷ tiles) got columns h =
    let rest = tiles_vals a.ty a.nullable (counts_of tiles) (attr_tiles k tiles (drop (length t.spans) got)) in
    let one = then_ok (tile_vals a.ty a.nullable t.cells (tile_in (ranged t.spans got) k)) (λ vals. then_part rest (λ others. Ok (vals ∷ others))) columns h in
    let more = then_ok rest (λ others. Ok (one.0 ∷ others)) columns one.2 in
    let is : one.0 ∷ more.0 ≡ columns = cc (more.2) in
    subst (AreOfAttr true k a (t ∷ tiles) got) is (ap (in_tile (ranged t.spans got) k) one.1, of_attr k a tiles (drop (length t.spans) got) more.0 more.1)

-- an attribute that is not read is null
pub of_none : (k : ℕ) (a : Attr) (tiles : List WantedTile) (got : List (List ℕ)) → AreOfAttr false k a tiles got (null_columns (counts_of tiles))
of_none k a [] got = tt
of_none k a (t ∷ tiles) got = (refl, of_none k a tiles (drop (length t.spans) got))

-- ---- one column more for each list

-- each list with one item more
abbrev with_each : {X : Type 0} → List (List X) → List X → List (List X)
with_each [] xs = []
with_each (l ∷ lists) [] = []
with_each (l ∷ lists) (x ∷ xs) = (l ++ x ∷ []) ∷ with_each lists xs

turned_on : {X : Type 0} (ls ms : List (List X)) (xs : List X) → length xs ≡ length ls → turned (ls ++ ms) xs ≡ ms ++ with_each ls xs
turned_on [] ms [] same = sym (append-nil ms)
turned_on [] ms (x ∷ xs) same = absurd (omega (arith, same))
turned_on (l ∷ ls) ms [] same = absurd (omega (arith, same))
turned_on (l ∷ ls) ms (x ∷ xs) same =
    let more = (l ++ x ∷ []) ∷ [] in
    ap (λ all. turned all xs) (append_assoc ls ms more) ∙ turned_on ls (ms ++ more) xs (omega (arith, same)) ∙ append_assoc ms more (with_each ls xs)

turned_all : {X : Type 0} (ls : List (List X)) (xs : List X) → length xs ≡ length ls → turned ls xs ≡ with_each ls xs
turned_all ls xs same = ap (λ all. turned all xs) (sym (append-nil ls)) ∙ turned_on ls [] xs same

-- a column more is the first of those that are left
pub turned_more : {X : Type 0} (old mid : List (List X)) (x : X) (xs : List X) → mid ≡ turned old (x ∷ []) → turned mid xs ≡ turned old (x ∷ xs)
turned_more {X = X} [] mid x xs is = ap (λ ls. turned ls xs) is ∙ none xs
  where
    none : (ys : List X) → turned [] ys ≡ []
    none [] = refl
    none (y ∷ ys) = refl
turned_more (l ∷ old) mid x xs is = ap (λ ls. turned ls xs) is

-- ---- tiles and counts

pub tiles_many : (k : ℕ) (tiles : List WantedTile) (got : List (List ℕ)) → length (attr_tiles k tiles got) ≡ length (counts_of tiles)
tiles_many k [] got = refl
tiles_many k (t ∷ tiles) got = ap suc (tiles_many k tiles (drop (length t.spans) got))

-- ---- one attribute after another

module _ (places : List ℕ) (attrs : List Attr) where
  -- for each tile the columns so far before those of the attributes that are left are all columns
  abbrev pub Decoding : ℕ → List WantedTile → List (List ℕ) → List (List (List Val)) → Type 0
  Decoding k [] got [] = Unit {0}
  Decoding k [] got (l ∷ lists) = ⊥
  Decoding k (t ∷ tiles) got [] = ⊥
  Decoding k (t ∷ tiles) got (l ∷ lists) = GoingVals places t.cells (ranged t.spans got) attrs l k × Decoding k tiles (drop (length t.spans) got) lists

  -- before the first attribute there are no columns
  pub decoding_none : (tiles : List WantedTile) (got : List (List ℕ)) (lists : List (List (List Val))) → lists ≡ replicate (length tiles) [] → Decoding 0 tiles got lists
  decoding_none tiles got lists is = subst (Decoding 0 tiles got) (sym is) (none tiles got)
    where
      none : (tiles : List WantedTile) (got : List (List ℕ)) → Decoding 0 tiles got (replicate (length tiles) [])
      none [] got = tt
      none (t ∷ tiles) got = (vals_none places t.cells (ranged t.spans got) attrs, none tiles (drop (length t.spans) got))

  as_many : (k j : ℕ) (a : Attr) (read : Bool) (tiles : List WantedTile) (got : List (List ℕ)) (lists : List (List (List Val))) (columns : List (List Val)) → Decoding k tiles got lists → AreOfAttr read j a tiles got columns → length columns ≡ length lists
  as_many k j a read [] got [] [] going are = refl
  as_many k j a read [] got [] (c ∷ columns) going are = absurd are
  as_many k j a read [] got (l ∷ lists) columns going are = absurd going
  as_many k j a read (t ∷ tiles) got [] columns going are = absurd going
  as_many k j a read (t ∷ tiles) got (l ∷ lists) [] going are = absurd are
  as_many k j a read (t ∷ tiles) got (l ∷ lists) (c ∷ columns) going are = ap suc (as_many k j a read tiles (drop (length t.spans) got) lists columns going.1 are.1)

  each_more : (k : ℕ) (a : Attr) (tiles : List WantedTile) (got : List (List ℕ)) (lists : List (List (List Val))) (columns : List (List Val)) → k < length attrs → a ≡ get_or attrs k a
      → Decoding k tiles got lists → AreOfAttr (is_among places k) k a tiles got columns → Decoding (k + 1) tiles got (with_each lists columns)
  each_more k a [] got [] columns within is going are = tt
  each_more k a [] got (l ∷ lists) columns within is going are = absurd going
  each_more k a (t ∷ tiles) got [] columns within is going are = absurd going
  each_more k a (t ∷ tiles) got (l ∷ lists) [] within is going are = absurd are
  each_more k a (t ∷ tiles) got (l ∷ lists) (c ∷ columns) within is going are = (
    vals_more places t.cells (ranged t.spans got) attrs l (l ++ c ∷ []) k a a c going.0 within is are.0 refl,
    each_more k a tiles (drop (length t.spans) got) lists columns within is going.1 are.1,
  )

  -- one attribute more
  pub decoding_more : (tiles : List WantedTile) (got : List (List ℕ)) (lists more : List (List (List Val))) (columns : List (List Val)) (k : ℕ) (a : Attr) (read : Bool) → Decoding k tiles got lists → k < length attrs → a ≡ get_or attrs k a
      → read ≡ is_among places k → AreOfAttr read k a tiles got columns → more ≡ turned lists columns → Decoding (k + 1) tiles got more
  decoding_more tiles got lists more columns k a read going within is among are turn =
      let of : AreOfAttr (is_among places k) k a tiles got columns = subst (λ b. AreOfAttr b k a tiles got columns) among are in
      let all : more ≡ with_each lists columns = turn ∙ turned_all lists columns (as_many k k a read tiles got lists columns going are) in
      subst (Decoding (k + 1) tiles got) (sym all) (each_more k a tiles got lists columns within is going of)

  -- behind the last attribute there are all columns
  pub decoding_all : (tiles : List WantedTile) (got : List (List ℕ)) (lists : List (List (List Val))) (k : ℕ) → Decoding k tiles got lists → length attrs ≤ k → AreDecoded places attrs tiles got lists
  decoding_all [] got [] k going over = tt
  decoding_all [] got (l ∷ lists) k going over = absurd going
  decoding_all (t ∷ tiles) got [] k going over = absurd going
  decoding_all (t ∷ tiles) got (l ∷ lists) k going over =
      (vals_all places t.cells (ranged t.spans got) attrs l k going.0 over, decoding_all tiles (drop (length t.spans) got) lists k going.1 over)

  -- ---- one tile after another

  tile_gone : (t : WantedTile) (tiles : List WantedTile) (got : List (List ℕ)) (vals : List (List (List Val))) → AreDecoded places attrs (t ∷ tiles) got vals → AreDecoded places attrs tiles (drop (length t.spans) got) (drop 1 vals)
  tile_gone t tiles got [] are = tt
  tile_gone t tiles got (v ∷ vals) are = are.1

  -- what comes first is what is read of the next tile
  pub decoded_here : (tiles : List WantedTile) (got : List (List ℕ)) (vals rest : List (List (List Val))) (first : Option (List (List Val))) (t : WantedTile) (i next : ℕ) → AreDecoded places attrs (drop i tiles) (drop next got) vals
      → i < length tiles → get_or tiles i t ≡ t → vals ≡ option_to_list first ++ rest → IfSome first (λ v. vals_of_tile places t.cells (ranged t.spans (drop next got)) 0 attrs ≡ Ok v)
  decoded_here tiles got vals rest None t i next are within is split = tt
  decoded_here tiles got vals rest (Some v) t i next are within is split =
      let with_first : AreDecoded places attrs (drop i tiles) (drop next got) (v ∷ rest) = subst (AreDecoded places attrs (drop i tiles) (drop next got)) split are in
      let here : AreDecoded places attrs (t ∷ drop (suc i) tiles) (drop next got) (v ∷ rest) = subst (λ ts. AreDecoded places attrs ts (drop next got) (v ∷ rest)) (drop_here t i tiles within is) with_first in
      here.0

  -- the others are those of the tiles behind
  pub decoded_more : (tiles : List WantedTile) (got : List (List ℕ)) (vals rest : List (List (List Val))) (t : WantedTile) (i next k : ℕ) → AreDecoded places attrs (drop i tiles) (drop next got) vals
      → i < length tiles → get_or tiles i t ≡ t → rest ≡ drop 1 vals → k ≡ min (length got - next) (length t.spans) → AreDecoded places attrs (drop (i + 1) tiles) (drop (next + k) got) rest
  decoded_more tiles got vals rest t i next k are within is left steps =
      let one : suc i ≡ i + 1 = omega arith in
      let here : AreDecoded places attrs (t ∷ drop (suc i) tiles) (drop next got) vals = subst (λ ts. AreDecoded places attrs ts (drop next got) vals) (drop_here t i tiles within is) are in
      let ends : drop (length t.spans) (drop next got) ≡ drop (next + k) got = sym (drop_capped next (length t.spans) got) ∙ ap (λ m. drop (next + m) got) (sym steps) in
      subst (λ ts. AreDecoded places attrs ts (drop (next + k) got) rest) (ap (λ n. drop n tiles) one)
      (subst (λ gots. AreDecoded places attrs (drop (suc i) tiles) gots rest) ends (subst (AreDecoded places attrs (drop (suc i) tiles) (drop (length t.spans) (drop next got))) (sym left) (tile_gone t (drop (suc i) tiles) (drop next got) vals here)))

-- the steps of the loop over the attributes
pub ruleset decode_steps = (decoding_none, decoding_more, decoding_all)
