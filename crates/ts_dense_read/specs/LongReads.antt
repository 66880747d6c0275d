-- How many bytes readers take: what was read of the fixed part of a tile tells how many cells the tile has.
use Rattle.std.proofs.Common.{◌≡◌, ℕ, zero, suc, ◌+◌, ◌-◌, ◌*◌, ◌≤◌, Bool, true, false, nat_lt, nat_eq, if◌then◌else◌, ℤ, List, [], ◌∷◌, ◌++◌, length, map, take, drop, Result, Ok, Err, refl, ap, subst, arith}
use Rattle.std.proofs.lemmas.Bool.{ltb-false, eqb-true}
use Rattle.std.proofs.lemmas.List.{length-drop}
use Rattle.byteorder.specs.Endian.{little_number}
use Rattle.ts_base.specs.declared.values.Val.{Val}
use Rattle.ts_base.specs.declared.values.Val.TheVariants.{Int}
use Rattle.ts_base.specs.declared.values.ValType.{ValType}
use Rattle.ts_base.specs.Values.{is_integer, width_of}
use Rattle.ts_wire.specs.Place.{Place, Read, place, ◌>>=◌, bytes_at, given, mapped, both, ruled, items_at, each_at, whole}
use Rattle.ts_wire.specs.Numbers.{number_at, int_of, int_at}
use Rattle.ts_wire.proofs.Laws.{bound}
use Rattle.ts_column.specs.declared.tiles.Tile.{Tile}
use Rattle.ts_column.specs.Tiles.{TileBreak, InFixed, InVar, InValidity, is_signed, ints_at, ints_in, start_at, starts_in, in_part, then_part, numbers_in, byte_lists_in, stored_in, cells_in, texts_of, tile_vals}

-- each value that is read takes so many bytes
pub record TakesLong {A : Type 0} (n : ℕ) (read : Place → Read A) : Type 0 where
  pub long : (p : Place) (y : A × Place) → read p ≡ Ok y → length p.rest ≡ n + length y.1.rest

-- an answer holds one value
one_value : {A : Type 0} (x y : A) → ◌≡◌ {A = Result A ℕ} (Ok x) (Ok y) → x ≡ y
one_value x y e = cc

-- no value is an offset
no_value : {A : Type 0} (at : ℕ) (x : A) → ◌≡◌ {A = Result A ℕ} (Err at) (Ok x) → ⊥
no_value at x e = cc

-- the next n bytes, unless there are fewer
abbrev bytes_if : ℕ → Place → Bool → Read (List ℕ)
bytes_if n p fewer = if fewer then Err p.at else Ok (take n p.rest, place (drop n p.rest) (p.at + n))

-- bytes take as many as they are
pub long_bytes : (n : ℕ) → TakesLong n (bytes_at n)
long_bytes n = record { long = λ p y e. by p y (nat_lt (length p.rest) n) refl e }
  where
    by : (p : Place) (y : List ℕ × Place) (b : Bool) → nat_lt (length p.rest) n ≡ b → bytes_if n p b ≡ Ok y → length p.rest ≡ n + length y.1.rest
    by p y true is e = absurd (no_value p.at y e)
    by p y false is e =
        let x : List ℕ × Place = (take n p.rest, place (drop n p.rest) (p.at + n)) in
        let enough : n ≤ length p.rest = ltb-false (length p.rest) n is in
        let left : length (drop n p.rest) ≡ length p.rest - n = length-drop n p.rest in
        subst (λ (z : List ℕ × Place). length p.rest ≡ n + length z.1.rest) (one_value x y e) (omega (arith, enough, left))

-- what is made of a value takes no more
pub long_mapped : {A B : Type 0} (n : ℕ) (f : A → B) (read : Place → Read A) → TakesLong n read → TakesLong n (mapped f read)
long_mapped {A} {B} n f read takes = record {
  long = λ p y e.
      let b = bound (read p) (λ (x : A × Place). Ok (f x.0, x.1)) y e in
      let z : B × Place = (f b.first.0, b.first.1) in
      subst (λ (w : B × Place). length p.rest ≡ n + length w.1.rest) (one_value z y b.next) (takes.long p b.first b.was);
}

-- a rule takes none
pub long_ruled : {A : Type 0} (n : ℕ) (rule : A → Bool) (read : Place → Read A) → TakesLong n read → TakesLong n (ruled rule read)
long_ruled {A} n rule read takes = record {
  long = λ p y e.
      let b = bound (read p) (λ (x : A × Place). if rule x.0 then Ok x else Err p.at) y e in
      passed p b.first y (rule b.first.0) (takes.long p b.first b.was) b.next;
}
  where
    passed : (p : Place) (x y : A × Place) (b : Bool) → length p.rest ≡ n + length x.1.rest → (if b then Ok x else Err p.at) ≡ Ok y → length p.rest ≡ n + length y.1.rest
    passed p x y true long e = subst (λ (w : A × Place). length p.rest ≡ n + length w.1.rest) (one_value x y e) long
    passed p x y false long e = absurd (no_value p.at y e)

-- one value and then the next take as many as both
pub long_both : {A B : Type 0} (n m : ℕ) (read : Place → Read A) (next : A → Place → Read B) → TakesLong n read → ((a : A) → TakesLong m (next a)) → TakesLong (n + m) (both read next)
long_both {A} {B} n m read next first second = record {
  long = λ p y e.
      let a = bound (read p) (λ (a : A × Place). next a.0 a.1 >>= λ (b : B × Place). Ok ((a.0, b.0), b.1)) y e in
      let b = bound (next a.first.0 a.first.1) (λ (b : B × Place). Ok ((a.first.0, b.0), b.1)) y a.next in
      let z : (A × B) × Place = ((a.first.0, b.first.0), b.first.1) in
      let here = first.long p a.first a.was in
      let there = (second a.first.0).long a.first.1 b.first b.was in
      subst (λ (w : (A × B) × Place). length p.rest ≡ n + m + length w.1.rest) (one_value z y b.next) (omega (arith, here, there));
}

-- a value that takes no bytes takes none
pub long_given : {A : Type 0} (x : A) → TakesLong 0 (given x)
long_given {A} x = record {
  long = λ p y e. let z : A × Place = (x, p) in subst (λ (w : A × Place). length p.rest ≡ 0 + length w.1.rest) (one_value z y e) (omega arith);
}

-- so many bytes are the same number of bytes
long_as : {A : Type 0} (n m : ℕ) (read : Place → Read A) → n ≡ m → TakesLong n read → TakesLong m read
long_as n m read same takes = subst (λ (k : ℕ). TakesLong k read) same takes

-- one value more takes the width of one more
one_more : (w n : ℕ) → w + w * n ≡ w * suc n
one_more w n = omega arith

-- so many values take their widths
pub long_items : {A : Type 0} (w : ℕ) (read : List A → Place → Read A) → ((front : List A) → TakesLong w (read front)) → (n : ℕ) (front : List A) → TakesLong (w * n) (items_at read n front)
unfolding items_at
long_items {A} w read each zero front = long_as 0 (w * 0) (given []) (omega arith) (long_given [])
long_items {A} w read each (suc n) front =
    let next : A → Place → Read (List A) = λ a. items_at read n (front ++ a ∷ []) in
    long_as (w + w * n) (w * suc n) (mapped (λ (x : A × List A). x.0 ∷ x.1) (both (read front) next)) (one_more w n)
    (long_mapped (w + w * n) (λ (x : A × List A). x.0 ∷ x.1) (both (read front) next) (long_both w (w * n) (read front) next (each front) (λ a. long_items w read each n (front ++ a ∷ []))))

-- values for the items of a list take the width of each
pub long_each : {D A : Type 0} (w : ℕ) (read : D → Place → Read A) → ((d : D) → TakesLong w (read d)) → (ds : List D) → TakesLong (w * length ds) (each_at read ds)
unfolding each_at
long_each {D} {A} w read each [] = long_as 0 (w * 0) (given []) (omega arith) (long_given [])
long_each {D} {A} w read each (d ∷ ds) =
    let next : A → Place → Read (List A) = λ _. each_at read ds in
    long_as (w + w * length ds) (w * suc (length ds)) (mapped (λ (x : A × List A). x.0 ∷ x.1) (both (read d) next)) (one_more w (length ds))
    (long_mapped (w + w * length ds) (λ (x : A × List A). x.0 ∷ x.1) (both (read d) next) (long_both w (w * length ds) (read d) next (each d) (λ _. long_each w read each ds)))

-- a number takes its bytes
pub long_number : (n : ℕ) → TakesLong n (number_at n)
unfolding number_at
long_number n = long_mapped n (little_number n) (bytes_at n) (long_bytes n)

-- and so does one that may be negative
pub long_int : (n : ℕ) (signed : Bool) → TakesLong n (int_at n signed)
unfolding int_at
long_int n signed = long_mapped n (int_of n signed) (bytes_at n) (long_bytes n)

-- bytes that were read whole are as many as the value takes
pub long_whole : {A : Type 0} (n : ℕ) (read : Place → Read A) (bytes : List ℕ) (at : ℕ) (x : A) → TakesLong n read → whole read (place bytes at) ≡ Ok x → length bytes ≡ n
long_whole {A} n read bytes at x takes h =
    let b = bound (read (place bytes at)) (λ (y : A × Place). if nat_eq (length y.1.rest) 0 then Ok y.0 else Err y.1.at) x h in
    let here = takes.long (place bytes at) b.first b.was in
    let none : length b.first.1.rest ≡ 0 = by b.first (nat_eq (length b.first.1.rest) 0) refl b.next in
    omega (arith, here, none)
  where
    by : (y : A × Place) (b : Bool) → nat_eq (length y.1.rest) 0 ≡ b → (if b then Ok y.0 else Err y.1.at) ≡ Ok x → length y.1.rest ≡ 0
    by y true is e = eqb-true (length y.1.rest) 0 is
    by y false is e = absurd (no_value y.1.at x e)

-- ---- the fixed part of a tile

-- a part that gave a value comes behind one that did
then_whole : {A B : Type 0} (r : Result A TileBreak) (next : A → Result B TileBreak) (y : B) → then_part r next ≡ Ok y → (x : A) × (r ≡ Ok x)
then_whole (Ok x) next y h = (x, refl)
then_whole (Err e) next y h = absurd (cc)

-- a part of a tile is whole where its answer is
part_whole : {A : Type 0} (part : ℕ → TileBreak) (r : Result A ℕ) (x : A) → in_part part r ≡ Ok x → r ≡ Ok x
part_whole part (Ok y) x h = let is : y ≡ x = cc in ap Ok is
part_whole part (Err at) x h = absurd (cc)

-- how many bytes each value takes in the fixed part
abbrev pub fixed_width : Bool → ValType → ℕ
fixed_width true ty = width_of ty
fixed_width false ty = 8

-- the fixed part of stored values that were read has so many bytes for each of them
stored_long : (b : Bool) (ty : ValType) (count : ℕ) (tile : Tile) (vals : List Val) → stored_in b ty count tile ≡ Ok vals → length tile.fixed ≡ fixed_width b ty * count
unfolding numbers_in byte_lists_in ints_in ints_at starts_in
stored_long true ty count tile vals h =
    let first = then_whole (in_part InFixed (ints_in (width_of ty) (is_signed ty) count tile.fixed)) (λ numbers. in_part InVar (whole (given (map Int numbers)) (place tile.var 0))) vals h in
    let read = part_whole InFixed (ints_in (width_of ty) (is_signed ty) count tile.fixed) first.0 first.1 in
    let one : List ℤ → Place → Read ℤ = λ _. int_at (width_of ty) (is_signed ty) in
    long_whole (width_of ty * count) (items_at one count []) tile.fixed 0 first.0 (long_items (width_of ty) one (λ _. long_int (width_of ty) (is_signed ty)) count []) read
stored_long false ty count tile vals h =
    let first = then_whole (in_part InFixed (starts_in (length tile.var) count tile.fixed)) (λ starts. in_part InVar (texts_of ty starts tile.var)) vals h in
    let read = part_whole InFixed (starts_in (length tile.var) count tile.fixed) first.0 first.1 in
    let one : List ℕ → Place → Read ℕ = start_at (length tile.var) in
    long_whole (8 * count) (items_at one count []) tile.fixed 0 first.0 (long_items 8 one (λ front. long_ruled 8 _ (number_at 8) (long_number 8)) count []) read

-- the fixed part of a tile that was read has so many bytes for each of its cells
pub tile_long : (ty : ValType) (nullable : Bool) (count : ℕ) (tile : Tile) (vals : List Val) → tile_vals ty nullable count tile ≡ Ok vals → length tile.fixed ≡ fixed_width (is_integer ty) ty * count
unfolding tile_vals
tile_long ty nullable count tile vals h =
    let first = then_whole (stored_in (is_integer ty) ty count tile) (λ stored. in_part InValidity (cells_in nullable stored tile.validity)) vals h in
    stored_long (is_integer ty) ty count tile first.0 first.1
