-- How long columns are, and how many coordinates cells have.
use Rattle.std.proofs.Common.{◌≡◌, ℕ, zero, suc, ◌+◌, ◌<◌, ◌≤◌, ℤ, Bool, true, false, cond, nat_eq, List, [], ◌∷◌, ◌++◌, length, get_or, drop, append_assoc, Option, Some, None, Result, Ok, Err, refl, sym, ap, ◌∙◌, subst, arith}
use Rattle.std.specs.Prelude.{IsTrue, find, nat_lt, option_and_then, slice_get}
use Rattle.std.specs.List.{All, cons_option, list_all}
use Rattle.std.specs.Option.{option_map}
use Rattle.std.proofs.lemmas.Bool.{and_parts, eqb-true, ltb-true}
use Rattle.std.proofs.lemmas.List.{drop_more}
use Rattle.std.proofs.lemmas.Option.{same_Some}
use Rattle.std.proofs.lemmas.List.Elements.{All-nil, All-cons, All-contains, All-head, All-tail}
use Rattle.ts_base.specs.declared.heads.Cell.{Cell}
use Rattle.ts_base.specs.declared.values.Val.{Val}
use Rattle.ts_base.specs.Labels.{is_label}
use Rattle.ts_schema.specs.declared.attrs.Attr.{Attr}
use Rattle.ts_schema.specs.Attrs.{same_name}
use Rattle.ts_domain.specs.declared.dims.Dim.{Dim}
use Rattle.ts_model.specs.declared.answers.Refusal.{Refusal}
use Rattle.ts_model.specs.declared.commands.ColIn.{ColIn}
use Rattle.ts_model.specs.Commands.{◌or_else◌, or_clash, column, so_many, all_of, attr_column, coordinate, dim_column, columns, across, cells_from, is_spelled_col, value_of}
use Rattle.ts_model.proofs.ListLemmas.{find-Some}
use Rattle.ts_model.proofs.Spelled.{all_tested}

-- values that are there are the same
same_Ok : {A E : Type 0} (x y : A) → ◌≡◌ {A = Result A E} (Ok x) (Ok y) → x ≡ y
same_Ok x y e = cc

-- where the second of two steps gives a value, the first gave one too
both_ok : {A B : Type 0} (r : Result A Refusal) (f : A → Result B Refusal) (y : B) → r or_else f ≡ Ok y → (x : A) × (r ≡ Ok x) × (f x ≡ Ok y)
both_ok (Ok x) f y e = (x, refl, e)
both_ok (Err e) f y h = cc

-- where no name clashes the value is there
there : {A : Type 0} (label : List ℕ) (o : Option A) (x : A) → or_clash label o ≡ Ok x → o ≡ Some x
there label None x e = cc
there label (Some y) x e = ap Some (same_Ok y x e)

-- where the second of two answers is there, the first is too
both_some : {A B : Type 0} (f : A → Option B) (o : Option A) (y : B) → option_and_then f o ≡ Some y → (x : A) × (o ≡ Some x) × (f x ≡ Some y)
both_some f None y e = cc
both_some f (Some x) y e = (x, refl, e)

-- where an answer that was made of another is there, the other is too
mapped_some : {A B : Type 0} (f : A → B) (o : Option A) (y : B) → option_map f o ≡ Some y → (x : A) × (o ≡ Some x) × (f x ≡ y)
mapped_some f None y e = cc
mapped_some f (Some x) y e = (x, refl, same_Some (f x) y e)

-- one column more of those that are found in turn
pub column_more : {A B : Type 0} (f : A → Result B Refusal) (xs : List A) (i : ℕ) (x : A) (y : B) (found : List B) (whole : Result (List B) Refusal) → i < length xs → x ≡ get_or xs i x → f x ≡ Ok y
    → (columns f (drop i xs) or_else λ rest. Ok (found ++ rest)) ≡ whole → (columns f (drop (i + 1) xs) or_else λ rest. Ok ((found ++ y ∷ []) ++ rest)) ≡ whole
column_more {A} {B} f xs i x y found whole lt is says was = by (columns f (drop (i + 1) xs)) left
  where
    left : ((Ok y or_else λ z. columns f (drop (i + 1) xs) or_else λ ys. Ok (z ∷ ys)) or_else λ rest. Ok (found ++ rest)) ≡ whole
    left =
        ap (λ r. (r or_else λ z. columns f (drop (i + 1) xs) or_else λ ys. Ok (z ∷ ys)) or_else λ rest. Ok (found ++ rest)) (sym says)
        ∙ ap (λ zs. columns f zs or_else λ rest. Ok (found ++ rest)) (sym (drop_more xs i x lt ∙ ap (λ z. z ∷ drop (i + 1) xs) (sym is))) ∙ was

    by : (r : Result (List B) Refusal) → ((Ok y or_else λ z. r or_else λ ys. Ok (z ∷ ys)) or_else λ rest. Ok (found ++ rest)) ≡ whole → (r or_else λ rest. Ok ((found ++ y ∷ []) ++ rest)) ≡ whole
    by (Ok ys) e = ap Ok (append_assoc found (y ∷ []) ys) ∙ e
    by (Err r) e = e

-- there is one answer for each item
length-all_of : {A B : Type 0} (f : A → Option B) (xs : List A) (ys : List B) → all_of f xs ≡ Some ys → length ys ≡ length xs
length-all_of f [] [] e = refl
length-all_of f [] (y ∷ ys) e = cc
length-all_of f (x ∷ xs) ys e =
    let first = both_some _ (f x) ys e in
    let second = mapped_some (λ zs. first.0 ∷ zs) (all_of f xs) ys first.2 in
    ap length (sym second.2) ∙ ap suc (length-all_of f xs second.0 second.1)

-- the values that are kept are so many
so_many_long : (count : ℕ) (vals kept : List Val) → so_many count vals ≡ Some kept → length kept ≡ count
so_many_long count vals kept e = by (nat_eq (length vals) count) refl e
  where
    by : (b : Bool) → nat_eq (length vals) count ≡ b → cond b (Some vals) None ≡ Some kept → length kept ≡ count
    by true is h = ap length (sym (same_Some vals kept h)) ∙ eqb-true (length vals) count is
    by false is h = cc

-- the column of a dimension has as many numbers as there are cells
dim_column_long : (cols : List ColIn) (count : ℕ) (d : Dim) (numbers : List ℤ) → dim_column cols count d ≡ Ok numbers → length numbers ≡ count
dim_column_long cols count d numbers e =
    let parts = both_some (all_of coordinate) (option_and_then (so_many count) (column cols d.name)) numbers (there d.name _ numbers e) in
    let sized = both_some (so_many count) (column cols d.name) parts.0 parts.1 in
    length-all_of coordinate parts.0 numbers parts.2 ∙ so_many_long count sized.0 parts.0 sized.2

-- there is a column for each dimension, with as many numbers as there are cells
pub record AreLong (count : ℕ) (dims : List Dim) (coords : List (List ℤ)) : Type 0 where
  pub many : length coords ≡ length dims
  pub long : All (λ (numbers : List ℤ). length numbers ≡ count) coords

-- the columns of dimensions are so
pub dim_columns_long : (cols : List ColIn) (count : ℕ) (dims : List Dim) (coords : List (List ℤ)) → columns (dim_column cols count) dims ≡ Ok coords → AreLong count dims coords
dim_columns_long cols count [] [] e = record { many = refl; long = All-nil (λ (numbers : List ℤ). length numbers ≡ count) }
dim_columns_long cols count [] (c ∷ coords) e = cc
dim_columns_long cols count (d ∷ dims) coords e =
    let first = both_ok (dim_column cols count d) _ coords e in
    let second = both_ok (columns (dim_column cols count) dims) _ coords first.2 in
    let rest = dim_columns_long cols count dims second.0 second.1 in
    subst (AreLong count (d ∷ dims)) (same_Ok _ _ second.2)
    (record { many = ap suc rest.many; long = All-cons (λ (numbers : List ℤ). length numbers ≡ count) first.0 second.0 (dim_column_long cols count d first.0 first.1) rest.long })

-- the column of an attribute has as many values as there are cells
attr_column_long : (cols : List ColIn) (count : ℕ) (a : Attr) (vals : List Val) → attr_column cols count a ≡ Ok vals → length vals ≡ count
attr_column_long cols count a vals e =
    let parts = both_some (all_of (value_of a)) (option_and_then (so_many count) (column cols a.name)) vals (there a.name _ vals e) in
    let sized = both_some (so_many count) (column cols a.name) parts.0 parts.1 in
    length-all_of (value_of a) parts.0 vals parts.2 ∙ so_many_long count sized.0 parts.0 sized.2

-- so have those of all attributes
pub attr_columns_long : (cols : List ColIn) (count : ℕ) (attrs : List Attr) (rows : List (List Val)) → columns (attr_column cols count) attrs ≡ Ok rows → All (λ (vals : List Val). length vals ≡ count) rows
attr_columns_long cols count [] [] e = All-nil (λ (vals : List Val). length vals ≡ count)
attr_columns_long cols count [] (r ∷ rows) e = cc
attr_columns_long cols count (a ∷ attrs) rows e =
    let first = both_ok (attr_column cols count a) _ rows e in
    let second = both_ok (columns (attr_column cols count) attrs) _ rows first.2 in
    let rest = attr_columns_long cols count attrs second.0 second.1 in
    subst (All (λ (vals : List Val). length vals ≡ count)) (same_Ok _ _ second.2)
    (All-cons (λ (vals : List Val). length vals ≡ count) first.0 second.0 (attr_column_long cols count a first.0 first.1) rest)

-- a write to a sparse array has a cell, since each of its columns has a value
pub some_count : (cols : List ColIn) (dims : List Dim) (count : ℕ) (coords : List (List ℤ)) → IsTrue (list_all is_spelled_col cols) → 1 ≤ length dims → columns (dim_column cols count) dims ≡ Ok coords → 1 ≤ count
some_count cols [] count coords spelled some e = absurd (omega (arith, some))
some_count cols (d ∷ dims) count coords spelled some e =
    let first = both_ok (dim_column cols count d) _ coords e in
    let parts = both_some (all_of coordinate) (option_and_then (so_many count) (column cols d.name)) first.0 (there d.name _ first.0 first.1) in
    let sized = both_some (so_many count) (column cols d.name) parts.0 parts.1 in
    let found = mapped_some (λ (c : ColIn). c.values) (find (λ c. same_name c.name d.name) cols) sized.0 sized.1 in
    let member = (find-Some (λ (c : ColIn). same_name c.name d.name) cols found.0 found.1).0 in
    let good = All-contains (λ c. is_spelled_col c ≡ true) cols found.0 (all_tested (λ c. is_spelled_col c ≡ true) is_spelled_col (λ c h. h) cols spelled) member in
    let valued = and_parts (nat_lt 0 (length found.0.values)) _ (and_parts (is_label found.0.name) _ good).1 in
    let long = so_many_long count sized.0 parts.0 sized.2 in
    let kept : sized.0 ≡ parts.0 = by (nat_eq (length sized.0) count) sized.2 in
    let same : length found.0.values ≡ count = ap length found.2 ∙ ap length kept ∙ long in
    let more = ltb-true 0 (length found.0.values) valued.0 in
    omega (arith, more, same)
  where
    by : {vals kept : List Val} (b : Bool) → cond b (Some vals) None ≡ Some kept → vals ≡ kept
    by {vals} {kept} true e = same_Some vals kept e
    by false e = cc

-- an item within a list is there
item_there : {A : Type 0} (xs : List A) (i : ℕ) → i < length xs → (x : A) × (slice_get xs i ≡ Some x)
item_there [] i lt = absurd (omega arith)
item_there (x ∷ xs) zero lt = (x, refl)
item_there (x ∷ xs) (suc i) lt = item_there xs i (omega arith)

-- a place within each column has one number of each
length-across : (count place : ℕ) (coords : List (List ℤ)) → place < count → All (λ (numbers : List ℤ). length numbers ≡ count) coords → length (across place coords) ≡ length coords
length-across count place [] lt long = refl
length-across count place (c ∷ coords) lt long =
    let here = All-head (λ (numbers : List ℤ). length numbers ≡ count) c coords long in
    let item = item_there c place (omega (arith, lt, here)) in
    ap (λ o. length (cons_option o (across place coords))) item.1 ∙ ap suc (length-across count place coords lt (All-tail (λ (numbers : List ℤ). length numbers ≡ count) c coords long))

-- each cell has one coordinate of each column
pub cells_long : (count place more : ℕ) (coords : List (List ℤ)) (rows : List (List Val)) → place + more ≤ count → All (λ (numbers : List ℤ). length numbers ≡ count) coords
    → All (λ (cell : Cell). length cell.coords ≡ length coords) (cells_from coords rows place more)
cells_long count place zero coords rows le long = All-nil (λ (cell : Cell). length cell.coords ≡ length coords)
cells_long count place (suc more) coords rows le long =
    All-cons (λ (cell : Cell). length cell.coords ≡ length coords) (record { coords = across place coords; row = across place rows }) (cells_from coords rows (suc place) more)
    (length-across count place coords (omega (arith, le)) long) (cells_long count (suc place) more coords rows (omega (arith, le)) long)
