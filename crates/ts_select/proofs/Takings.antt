-- Columns taken out of a list.
use Rattle.std.proofs.Common.{◌≡◌, ℕ, ◌+◌, ◌-◌, ◌<◌, ◌≤◌, List, [], ◌∷◌, ◌++◌, length, map, drop, get_or, refl, sym, ap, ◌∙◌, arith, append_assoc, append-nil}
use Rattle.std.specs.Prelude.{filter, nat_lt, cond}
use Rattle.std.proofs.lemmas.Bool.{lt-ltb, le-ltb}
use Rattle.std.proofs.lemmas.List.{drop_more, drop_all, length-drop, get_or-drop}
use Rattle.ts_base.specs.declared.values.Val.{Val}

-- the columns at those of these places where there are columns
abbrev pub columns_in : List (List Val) → List ℕ → List (List Val)
columns_in all fields = map (λ field. get_or all field []) (filter (λ field. nat_lt field (length all)) fields)

-- so many fields are done: their columns are made, and those of the fields behind are still there
pub record IsTaking (fields : List ℕ) (all left columns : List (List Val)) (place : ℕ) : Type 0 where
  pub many : length left ≡ length all
  pub kept : (k : ℕ) → place ≤ k → k < length fields → get_or left (get_or fields k 0) [] ≡ get_or all (get_or fields k 0) []
  pub made : columns ++ columns_in all (drop place fields) ≡ columns_in all fields

pub taking_none : (fields : List ℕ) (all columns : List (List Val)) → columns ≡ [] → IsTaking fields all all columns 0
taking_none fields all columns none = record { many = refl; kept = λ k above below. refl; made = ap (λ cs. cs ++ columns_in all fields) none }

module _ (fields : List ℕ) (all left columns : List (List Val)) (place : ℕ) (taking : IsTaking fields all left columns place) (within : place < length fields) where
  abbrev field : ℕ
  field = get_or fields place 0

  rest : columns ++ columns_in all (field ∷ drop (place + 1) fields) ≡ columns_in all fields
  rest = ap (λ fs. columns ++ columns_in all fs) (sym (drop_more fields place 0 within)) ∙ taking.made

  -- a field that has no column is left out
  pub taking_past : length left ≤ field → IsTaking fields all left columns (place + 1)
  taking_past past = record {
    many = taking.many;
    kept = λ k above below. taking.kept k (omega (arith, above)) below;
    made = ap (λ t. columns ++ map (λ field. get_or all field []) (cond t (field ∷ filter (λ field. nat_lt field (length all)) (drop (place + 1) fields)) (filter (λ field. nat_lt field (length all)) (drop (place + 1) fields)))) (sym (le-ltb field (length all) (omega (arith, past, taking.many)))) ∙ rest;
  }

  -- the column of a field is taken
  pub taking_more : (column : List Val) (other more : List (List Val)) → field < length left → column ≡ get_or left field [] → more ≡ columns ++ column ∷ [] → length other ≡ length left
      → ((k : ℕ) → k < length (drop (place + 1) fields) → get_or other (get_or (drop (place + 1) fields) k 0) [] ≡ get_or left (get_or (drop (place + 1) fields) k 0) []) → IsTaking fields all other more (place + 1)
  taking_more column other more below is push same keeps = record {
    many = same ∙ taking.many;
    kept = λ k above within.
        let behind : k - (place + 1) < length (drop (place + 1) fields) = omega (arith, above, within, length-drop (place + 1) fields) in
        let there : place + 1 + (k - (place + 1)) ≡ k = omega (arith, above) in
        let at : get_or (drop (place + 1) fields) (k - (place + 1)) 0 ≡ get_or fields k 0 = get_or-drop (place + 1) fields (k - (place + 1)) 0 ∙ ap (λ j. get_or fields j 0) there in
        ap (λ f. get_or other f []) (sym at) ∙ keeps (k - (place + 1)) behind ∙ ap (λ f. get_or left f []) at ∙ taking.kept k (omega (arith, above)) within;
    made =
        let one : column ≡ get_or all field [] = is ∙ taking.kept place (omega arith) within in
        ap (λ cs. cs ++ columns_in all (drop (place + 1) fields)) (push ∙ ap (λ c. columns ++ c ∷ []) one)
        ∙ append_assoc columns (get_or all field [] ∷ []) (columns_in all (drop (place + 1) fields))
        ∙ ap (λ t. columns ++ map (λ field. get_or all field []) (cond t (field ∷ filter (λ field. nat_lt field (length all)) (drop (place + 1) fields)) (filter (λ field. nat_lt field (length all)) (drop (place + 1) fields)))) (sym (lt-ltb field (length all) (omega (arith, below, taking.many)))) ∙ rest;
  }

-- behind the last field all columns are made
pub taking_all : (fields : List ℕ) (all left columns : List (List Val)) (place : ℕ) → IsTaking fields all left columns place → length fields ≤ place → columns ≡ columns_in all fields
taking_all fields all left columns place taking over =
    sym (append-nil columns) ∙ ap (λ fs. columns ++ columns_in all fs) (sym (drop_all place fields over)) ∙ taking.made

pub ruleset steps = (taking_none, taking_past, taking_more, taking_all)
