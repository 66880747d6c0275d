-- Loops that write a tile: what was written so far is the spelling of the values before the place.
use Rattle.std.proofs.Common.{◌≡◌, ℕ, zero, suc, ◌+◌, ◌<◌, ◌≤◌, Bool, List, [], ◌∷◌, ◌++◌, length, map, take, get_or, Some, Result, Ok, Err, refl, sym, ap, ◌∙◌, arith, append_assoc, length-append, add-one}
use Rattle.std.specs.Prelude.{IfOk}
use Rattle.std.specs.List.{flat_map, slice_get}
use Rattle.std.proofs.lemmas.List.{append-nil, take_all, length-map}
use Rattle.ts_base.specs.declared.values.Val.{Val}
use Rattle.ts_base.specs.declared.values.Val.TheVariants.{Null}
use Rattle.ts_base.specs.declared.values.ValType.{ValType}
use Rattle.ts_table.specs.Texts.{joined, starts_from}
use Rattle.ts_wire.specs.Numbers.{number_bytes, int_bytes}
use Rattle.ts_wire.specs.Fields.{bool_bytes}
use Rattle.ts_base.specs.declared.lists.OutOfMemory.{OutOfMemory}
use Rattle.ts_column.specs.declared.tiles.Tile.{Tile}
use Rattle.ts_column.specs.Tiles.{is_there, tile_vals}
use Rattle.ts_column.specs.Spelled.{number_of, text_of, value_column}

-- one value more
take_more : {A : Type 0} (xs : List A) (i : ℕ) (d : A) → i < length xs → take (suc i) xs ≡ take i xs ++ get_or xs i d ∷ []
take_more [] i d within = absurd (omega (arith, within))
take_more (x ∷ xs) zero d within = refl
take_more (x ∷ xs) (suc i) d within = ap (λ ys. x ∷ ys) (take_more xs i d (omega (arith, within)))

module _ {A B : Type 0} where
  flat_more : (spell : B → List ℕ) (f : A → B) (xs : List A) (y : A) → flat_map spell (map f (xs ++ y ∷ [])) ≡ flat_map spell (map f xs) ++ spell (f y)
  flat_more spell f [] y = append-nil (spell (f y))
  flat_more spell f (x ∷ xs) y = ap (λ more. spell (f x) ++ more) (flat_more spell f xs y) ∙ sym (append_assoc (spell (f x)) (flat_map spell (map f xs)) (spell (f y)))

  map_more : (f : A → B) (xs : List A) (y : A) → map f (xs ++ y ∷ []) ≡ map f xs ++ f y ∷ []
  map_more f [] y = refl
  map_more f (x ∷ xs) y = ap (λ more. f x ∷ more) (map_more f xs y)

  -- what is spelled of one value more
  pub spelled_more : (spell : B → List ℕ) (f : A → B) (xs : List A) (i : ℕ) (d : A) → i < length xs → flat_map spell (map f (take (i + 1) xs)) ≡ flat_map spell (map f (take i xs)) ++ spell (f (get_or xs i d))
  spelled_more spell f xs i d within = ap (λ k. flat_map spell (map f (take k xs))) (add-one i) ∙ ap (λ ys. flat_map spell (map f ys)) (take_more xs i d within) ∙ flat_more spell f (take i xs) (get_or xs i d)

  pub mapped_more : (f : A → B) (xs : List A) (i : ℕ) (d : A) → i < length xs → map f (take (i + 1) xs) ≡ map f (take i xs) ++ f (get_or xs i d) ∷ []
  mapped_more f xs i d within = ap (λ k. map f (take k xs)) (add-one i) ∙ ap (map f) (take_more xs i d within) ∙ map_more f (take i xs) (get_or xs i d)

-- the value at a place
pub get_there : (vals : List Val) (i : ℕ) (v : Val) → slice_get vals i ≡ Some v → get_or vals i Null ≡ v
get_there [] i v h = absurd (cc)
get_there (w ∷ vals) zero v h = cc
get_there (w ∷ vals) (suc i) v h = get_there vals i v h

-- one integer more
pub number_more : (n : ℕ) (vals : List Val) (i : ℕ) (out next : List ℕ) → i < length vals → out ≡ flat_map (int_bytes n) (map number_of (take i vals)) → next ≡ out ++ int_bytes n (number_of (get_or vals i Null))
    → next ≡ flat_map (int_bytes n) (map number_of (take (i + 1) vals))
number_more n vals i out next within was is = is ∙ ap (λ o. o ++ int_bytes n (number_of (get_or vals i Null))) was ∙ sym (spelled_more (int_bytes n) number_of vals i Null within)

pub all_numbers : (n : ℕ) (vals : List Val) (i : ℕ) → length vals ≤ i → flat_map (int_bytes n) (map number_of (take i vals)) ≡ flat_map (int_bytes n) (map number_of vals)
all_numbers n vals i past = ap (λ vs. flat_map (int_bytes n) (map number_of vs)) (take_all i vals past)

pub ruleset numbers = (number_more, all_numbers)

-- one text more
starts_more : (at : ℕ) (texts : List (List ℕ)) (t : List ℕ) → starts_from at (texts ++ t ∷ []) ≡ starts_from at texts ++ (at + length (joined texts)) ∷ []
starts_more at [] t = ap (λ n. n ∷ []) (omega arith)
starts_more at (x ∷ texts) t =
    let long : at + length x + length (joined texts) ≡ at + length (x ++ joined texts) = omega (arith, length-append x (joined texts)) in
    ap (λ starts. at ∷ starts) (starts_more (at + length x) texts t ∙ ap (λ n. starts_from (at + length x) texts ++ n ∷ []) long)

joined_more : (texts : List (List ℕ)) (t : List ℕ) → joined (texts ++ t ∷ []) ≡ joined texts ++ t
joined_more [] t = append-nil t
joined_more (x ∷ texts) t = ap (λ more. x ++ more) (joined_more texts t) ∙ sym (append_assoc x (joined texts) t)

flat_one : (spell : ℕ → List ℕ) (xs : List ℕ) (y : ℕ) → flat_map spell (xs ++ y ∷ []) ≡ flat_map spell xs ++ spell y
flat_one spell [] y = append-nil (spell y)
flat_one spell (x ∷ xs) y = ap (λ more. spell x ++ more) (flat_one spell xs y) ∙ sym (append_assoc (spell x) (flat_map spell xs) (spell y))

pub start_more : (vals : List Val) (i : ℕ) (bytes out next : List ℕ) → i < length vals → bytes ≡ joined (map text_of (take i vals)) → out ≡ flat_map (number_bytes 8) (starts_from 0 (map text_of (take i vals)))
    → next ≡ out ++ number_bytes 8 (length bytes) → next ≡ flat_map (number_bytes 8) (starts_from 0 (map text_of (take (i + 1) vals)))
start_more vals i bytes out next within are was is =
    let front = map text_of (take i vals) in
    let none : 0 + length (joined front) ≡ length (joined front) = omega arith in
    is ∙ ap (λ o. o ++ number_bytes 8 (length bytes)) was ∙ ap (λ b. flat_map (number_bytes 8) (starts_from 0 front) ++ number_bytes 8 (length b)) are
    ∙ sym (ap (λ ts. flat_map (number_bytes 8) (starts_from 0 ts)) (mapped_more text_of vals i Null within) ∙ ap (flat_map (number_bytes 8)) (starts_more 0 front (text_of (get_or vals i Null)) ∙ ap (λ n. starts_from 0 front ++ n ∷ []) none) ∙ flat_one (number_bytes 8) (starts_from 0 front) (length (joined front)))

pub text_more : (vals : List Val) (i : ℕ) (bytes next : List ℕ) → i < length vals → bytes ≡ joined (map text_of (take i vals)) → next ≡ bytes ++ text_of (get_or vals i Null) → next ≡ joined (map text_of (take (i + 1) vals))
text_more vals i bytes next within was is =
    is ∙ ap (λ b. b ++ text_of (get_or vals i Null)) was ∙ sym (ap joined (mapped_more text_of vals i Null within) ∙ joined_more (map text_of (take i vals)) (text_of (get_or vals i Null)))

pub all_starts : (vals : List Val) (i : ℕ) → length vals ≤ i → flat_map (number_bytes 8) (starts_from 0 (map text_of (take i vals))) ≡ flat_map (number_bytes 8) (starts_from 0 (map text_of vals))
all_starts vals i past = ap (λ vs. flat_map (number_bytes 8) (starts_from 0 (map text_of vs))) (take_all i vals past)

pub all_texts : (vals : List Val) (i : ℕ) → length vals ≤ i → joined (map text_of (take i vals)) ≡ joined (map text_of vals)
all_texts vals i past = ap (λ vs. joined (map text_of vs)) (take_all i vals past)

pub ruleset texts = (start_more, text_more, all_starts, all_texts)

-- one mark more
pub mark_more : (vals : List Val) (i mark : ℕ) (out next : List ℕ) → i < length vals → out ≡ flat_map bool_bytes (map is_there (take i vals)) → next ≡ out ++ mark ∷ [] → bool_bytes (is_there (get_or vals i Null)) ≡ mark ∷ []
    → next ≡ flat_map bool_bytes (map is_there (take (i + 1) vals))
mark_more vals i mark out next within was is means =
    is ∙ ap (λ o. o ++ mark ∷ []) was ∙ ap (λ m. flat_map bool_bytes (map is_there (take i vals)) ++ m) (sym means) ∙ sym (spelled_more bool_bytes is_there vals i Null within)

pub all_marks : (vals : List Val) (i : ℕ) → length vals ≤ i → flat_map bool_bytes (map is_there (take i vals)) ≡ flat_map bool_bytes (map is_there vals)
all_marks vals i past = ap (λ vs. flat_map bool_bytes (map is_there vs)) (take_all i vals past)

pub ruleset marks = (mark_more, all_marks)

-- the values of a column as a row
pub row_more : (vals : List Val) (i : ℕ) (out next : List Val) → i < length vals → out ≡ take i vals → next ≡ out ++ get_or vals i Null ∷ [] → next ≡ take (i + 1) vals
row_more vals i out next within was is = is ∙ ap (λ o. o ++ get_or vals i Null ∷ []) was ∙ sym (take_more vals i Null within) ∙ ap (λ k. take k vals) (sym (add-one i))

pub row_whole : (vals : List Val) (i : ℕ) → length vals ≤ i → take i vals ≡ vals
row_whole vals i past = take_all i vals past

pub ruleset rows = (row_more, row_whole)

-- one row more
pub value_more : (k : ℕ) (rows : List (List Val)) (i : ℕ) (row : List Val) (v : Val) (out next : List Val) → i < length rows → row ≡ get_or rows i row → slice_get row k ≡ Some v → out ≡ value_column k (take i rows) → next ≡ out ++ v ∷ []
    → next ≡ value_column k (take (i + 1) rows)
value_more k rows i row v out next within here got was is =
    let there : get_or (get_or rows i row) k Null ≡ v = ap (λ r. get_or r k Null) (sym here) ∙ get_there row k v got in
    is ∙ ap (λ o. o ++ v ∷ []) was ∙ ap (λ w. value_column k (take i rows) ++ w ∷ []) (sym there) ∙ sym (mapped_more (λ r. get_or r k Null) rows i row within)

pub values_whole : (k : ℕ) (rows : List (List Val)) → value_column k (take (length rows) rows) ≡ value_column k rows
values_whole k rows = ap (value_column k) (take_all (length rows) rows (omega arith))

pub ruleset values = (value_more, values_whole)

-- the tile of the values of rows
pub rows_back : (k : ℕ) (rows : List (List Val)) (vals : List Val) (ty : ValType) (nullable : Bool) (result : Result Tile OutOfMemory) → vals ≡ value_column k rows → IfOk result (λ tile. tile_vals ty nullable (length vals) tile ≡ Ok vals)
    → IfOk result (λ tile. tile_vals ty nullable (length rows) tile ≡ Ok (value_column k rows))
rows_back k rows vals ty nullable (Ok tile) is back =
    let long : length (value_column k rows) ≡ length rows = length-map rows (λ r. get_or r k Null) in
    ap (λ n. tile_vals ty nullable n tile) (sym long) ∙ ap (λ vs. tile_vals ty nullable (length vs) tile) (sym is) ∙ back ∙ ap Ok is
rows_back k rows vals ty nullable (Err e) is back = tt
