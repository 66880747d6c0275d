-- A tile that was read of so many cells has as many values.
use Rattle.std.proofs.Common.{◌≡◌, ℕ, zero, suc, Bool, true, false, List, [], ◌∷◌, ◌++◌, length, map, replicate, refl, sym, ap, subst, ◌∙◌, nat_eq}
use Rattle.std.specs.Prelude.{if◌then◌else◌, Result, Ok, Err}
use Rattle.std.specs.List.{All}
use Rattle.std.proofs.Math.ListN.{length-replicate}
use Rattle.std.proofs.lemmas.List.{length-map}
use Rattle.std.proofs.lemmas.List.Elements.{All-nil, All-cons}
use Rattle.ts_base.specs.declared.values.Val.{Val}
use Rattle.ts_base.specs.declared.values.Val.TheVariants.{Null, Int}
use Rattle.ts_base.specs.declared.values.ValType.{ValType}
use Rattle.ts_base.specs.Values.{is_integer, width_of}
use Rattle.ts_schema.specs.declared.attrs.Attr.{Attr}
use Rattle.ts_wire.specs.Place.{Place, Read, place, ◌>>=◌, given, items_at, each_at, whole}
use Rattle.ts_column.specs.declared.tiles.Tile.{Tile}
use Rattle.ts_wire.specs.Numbers.{int_at}
use Rattle.ts_column.specs.Tiles.{is_signed, ints_at, ints_in, start_at, starts_in, lengths_to, text_at, texts_of, cell_at, cells_in, InFixed, InVar, InValidity, in_part, numbers_in, byte_lists_in, stored_in, tile_vals}
use Rattle.ts_column.proofs.TileLaws.{part_ok, then_ok}
use Rattle.ts_sparse_read.specs.Faults.{and_then, Ranged}
use Rattle.ts_sparse_read.specs.TileReads.{is_among, tile_in, vals_if, vals_of_tile}
use Rattle.ts_sparse_read.specs.ReadColumns as columns

-- ---- readers

-- a step that gave a value came behind one that gave a value
bound : {A B : Type 0} (r : Result A ℕ) (next : A → Result B ℕ) (y : B) → (r >>= next) ≡ Ok y → (x : A) × (r ≡ Ok x) × (next x ≡ Ok y)
bound (Ok x) next y h = (x, refl, h)
bound (Err at) next y h = absurd (cc)

items_many : {A : Type 0} (read : List A → Place → Read A) (n : ℕ) (front : List A) (p : Place) (x : List A × Place) → items_at read n front p ≡ Ok x → length x.0 ≡ n
unfolding items_at
items_many read zero front p x h = let is : ([], p) ≡ x = cc in ap (λ y. length y.0) (sym is)
items_many {A = A} read (suc n) front p x h =
    let all = bound (read front p >>= λ a. items_at read n (front ++ a.0 ∷ []) a.1 >>= λ b. Ok ((a.0, b.0), b.1)) (λ y. Ok (y.0.0 ∷ y.0.1, y.1)) x h in
    let one = bound (read front p) (λ a. items_at read n (front ++ a.0 ∷ []) a.1 >>= λ b. Ok ((a.0, b.0), b.1)) all.0 all.1 in
    let more = bound (items_at read n (front ++ one.0.0 ∷ []) one.0.1) (λ b. Ok ((one.0.0, b.0), b.1)) all.0 one.2 in
    let was : ((one.0.0, more.0.0), more.0.1) ≡ all.0 = cc (more.2) in
    let is : (all.0.0.0 ∷ all.0.0.1, all.0.1) ≡ x = cc (all.2) in
    ap (λ y. length y.0) (sym is) ∙ ap (λ y. suc (length y.0.1)) (sym was) ∙ ap suc (items_many read n (front ++ one.0.0 ∷ []) one.0.1 more.0 more.1)

each_many : {D A : Type 0} (read : D → Place → Read A) (ds : List D) (p : Place) (x : List A × Place) → each_at read ds p ≡ Ok x → length x.0 ≡ length ds
unfolding each_at
each_many read [] p x h = let is : ([], p) ≡ x = cc in ap (λ y. length y.0) (sym is)
each_many read (d ∷ ds) p x h =
    let all = bound (read d p >>= λ a. each_at read ds a.1 >>= λ b. Ok ((a.0, b.0), b.1)) (λ y. Ok (y.0.0 ∷ y.0.1, y.1)) x h in
    let one = bound (read d p) (λ a. each_at read ds a.1 >>= λ b. Ok ((a.0, b.0), b.1)) all.0 all.1 in
    let more = bound (each_at read ds one.0.1) (λ b. Ok ((one.0.0, b.0), b.1)) all.0 one.2 in
    let was : ((one.0.0, more.0.0), more.0.1) ≡ all.0 = cc (more.2) in
    let is : (all.0.0.0 ∷ all.0.0.1, all.0.1) ≡ x = cc (all.2) in
    ap (λ y. length y.0) (sym is) ∙ ap (λ y. suc (length y.0.1)) (sym was) ∙ ap suc (each_many read ds one.0.1 more.0 more.1)

-- what is the whole was read
whole_was : {A : Type 0} (read : Place → Read A) (p : Place) (x : A) → whole read p ≡ Ok x → (q : Place) × (read p ≡ Ok (x, q))
whole_was {A = A} read p x h =
    let one = bound (read p) (λ y. if nat_eq (length y.1.rest) 0 then Ok y.0 else Err y.1.at) x h in
    let is = left one.0 (nat_eq (length one.0.1.rest) 0) one.2 in
    (one.0.1, one.1 ∙ ap (λ a. Ok (a, one.0.1)) is)
  where
    left : (y : A × Place) (b : Bool) → (if b then Ok y.0 else Err y.1.at) ≡ Ok x → y.0 ≡ x
    left y true e = cc
    left y false e = absurd (cc)

-- what is given is what was read
given_same : {A : Type 0} (x y : A) (p q : Place) → given x p ≡ Ok (y, q) → x ≡ y
given_same {A = A} x y p q h = ap front h
  where
    front : Read A → A
    front (Ok z) = z.0
    front (Err at) = x

-- ---- tiles

lengths_many : (starts : List ℕ) (end : ℕ) → length (lengths_to starts end) ≡ length starts
lengths_many [] end = refl
lengths_many (s ∷ starts) end = ap suc (lengths_many starts end)

numbers_many : (ty : ValType) (count : ℕ) (tile : Tile) (vals : List Val) → numbers_in ty count tile ≡ Ok vals → length vals ≡ count
unfolding numbers_in ints_in ints_at
numbers_many ty count tile vals h =
    let one = then_ok (in_part InFixed (ints_in (width_of ty) (is_signed ty) count tile.fixed)) (λ numbers. in_part InVar (whole (given (map Int numbers)) (place tile.var 0))) vals h in
    let read = whole_was (items_at (λ _. int_at (width_of ty) (is_signed ty)) count []) (place tile.fixed 0) one.0 (part_ok InFixed _ one.0 one.1) in
    let end = whole_was (given (map Int one.0)) (place tile.var 0) vals (part_ok InVar _ vals one.2) in
    let is = given_same (map Int one.0) vals (place tile.var 0) end.0 end.1 in
    ap length (sym is) ∙ length-map one.0 Int ∙ items_many (λ _. int_at (width_of ty) (is_signed ty)) count [] (place tile.fixed 0) (one.0, read.0) read.1

texts_many : (ty : ValType) (count : ℕ) (tile : Tile) (vals : List Val) → byte_lists_in ty count tile ≡ Ok vals → length vals ≡ count
unfolding byte_lists_in starts_in texts_of
texts_many ty count tile vals h =
    let end = length tile.var in
    let one = then_ok (in_part InFixed (starts_in end count tile.fixed)) (λ starts. in_part InVar (texts_of ty starts tile.var)) vals h in
    let starts = whole_was (items_at (start_at end) count []) (place tile.fixed 0) one.0 (part_ok InFixed _ one.0 one.1) in
    let texts = whole_was (each_at (text_at ty) (lengths_to one.0 end)) (place tile.var 0) vals (part_ok InVar _ vals one.2) in
    each_many (text_at ty) (lengths_to one.0 end) (place tile.var 0) (vals, texts.0) texts.1 ∙ lengths_many one.0 end ∙ items_many (start_at end) count [] (place tile.fixed 0) (one.0, starts.0) starts.1

stored_many : (b : Bool) (ty : ValType) (count : ℕ) (tile : Tile) (vals : List Val) → stored_in b ty count tile ≡ Ok vals → length vals ≡ count
stored_many true ty count tile vals h = numbers_many ty count tile vals h
stored_many false ty count tile vals h = texts_many ty count tile vals h

cells_many : (nullable : Bool) (stored : List Val) (bytes : List ℕ) (vals : List Val) → cells_in nullable stored bytes ≡ Ok vals → length vals ≡ length stored
cells_many true stored bytes vals h =
    let read = whole_was (each_at cell_at stored) (place bytes 0) vals h in
    each_many cell_at stored (place bytes 0) (vals, read.0) read.1
cells_many false stored bytes vals h =
    let read = whole_was (given stored) (place bytes 0) vals h in
    let is = given_same stored vals (place bytes 0) read.0 read.1 in
    ap length (sym is)

-- the values of so many cells are as many
pub tile_many : (ty : ValType) (nullable : Bool) (count : ℕ) (tile : Tile) (vals : List Val) → tile_vals ty nullable count tile ≡ Ok vals → length vals ≡ count
unfolding tile_vals
tile_many ty nullable count tile vals h =
    let one = then_ok (stored_in (is_integer ty) ty count tile) (λ stored. in_part InValidity (cells_in nullable stored tile.validity)) vals h in
    cells_many nullable one.0 tile.validity vals (part_ok InValidity _ vals one.2) ∙ stored_many (is_integer ty) ty count tile one.0 one.1

-- ---- columns

if_many : (read : Bool) (count : ℕ) (ranges : List Ranged) (k : ℕ) (a : Attr) (vals : List Val) → vals_if read count ranges k a ≡ Ok vals → length vals ≡ count
if_many true count ranges k a vals h = tile_many a.ty a.nullable count (tile_in ranges k) vals (columns.tile_ok ranges k (tile_vals a.ty a.nullable count (tile_in ranges k)) vals h)
if_many false count ranges k a vals h = let is : replicate count Null ≡ vals = cc in ap length (sym is) ∙ length-replicate count Null

-- the columns of so many cells have as many values each
pub vals_many : (places : List ℕ) (count : ℕ) (ranges : List Ranged) (k : ℕ) (attrs : List Attr) (vals : List (List Val)) → vals_of_tile places count ranges k attrs ≡ Ok vals → All (λ (column : List Val). length column ≡ count) vals
vals_many places count ranges k [] vals h =
    let L = λ (column : List Val). length column ≡ count in
    let is : [] ≡ vals = cc in
    subst (All L) is (All-nil L)
vals_many places count ranges k (a ∷ attrs) vals h =
    let L = λ (column : List Val). length column ≡ count in
    let one = columns.then_ok (vals_if (is_among places k) count ranges k a) (λ column. and_then (vals_of_tile places count ranges (suc k) attrs) (λ rest. Ok (column ∷ rest))) vals h in
    let more = columns.then_ok (vals_of_tile places count ranges (suc k) attrs) (λ rest. Ok (one.0 ∷ rest)) vals one.2 in
    let is : one.0 ∷ more.0 ≡ vals = cc (more.2) in
    subst (All L) is (All-cons L one.0 more.0 (if_many (is_among places k) count ranges k a one.0 one.1) (vals_many places count ranges (suc k) attrs more.0 more.1))
