-- JSON values, level by level.
use Rattle.std.proofs.Common.{◌≡◌, ℕ, map, List, [], ◌∷◌, ◌++◌, length, Option, Some, None, option_map, String, BTreeMap, Global, Ordering, Less, Equal, Greater, string_bytes, string_cmp, nat_cmp, is_eq, cond, Bor, refl, ap, ◌∙◌, arith, rules}
use Rattle.std.specs.Prelude as prelude
use Rattle.std.specs.Cmp.Lexicographic.{slice_cmp}
use Rattle.std.specs.Map.{lookup}
use Rattle.std.specs.Ordering.{match_ordering}
use Rattle.std.specs.BTreeMap.{insert_entry, is_at}
use Rattle.serde_json.specs.Data.{Data, null, boolean, number, string, object, put}
use Rattle.serde_json.specs.View.{number_view}
use Rattle.serde_json.specs.Find.{get_member}
use Rattle.ts_script.specs.Trees.{view, members_view}
use Rattle.ts_script.specs.declared.tree.Json.{Json, Null, Bool, Number, Text, Object, the_lemmas}
use Rattle.serde_json.specs.declared.number.Number as kit

-- a list of no items
pub no_items : {A : Type 0} (xs : List A) → length xs ≡ 0 → xs ≡ []
no_items [] e = refl
no_items (x ∷ xs) e = absurd (omega arith)

pub map_one : {A B : Type 0} (f : A → B) (xs : List A) (x : A) → map f (xs ++ x ∷ []) ≡ map f xs ++ f x ∷ []
map_one f [] x = refl
map_one f (y ∷ ys) x = ap (λ zs. f y ∷ zs) (map_one f ys x)

abbrev pub Entry : Type 0
Entry = String Global × Json

by_order : (o : Ordering) (a b c : List Entry) → members_view (match_ordering o a b c) ≡ match_ordering o (members_view a) (members_view b) (members_view c)
by_order Less a b c = refl
by_order Equal a b c = refl
by_order Greater a b c = refl

-- what is inserted into a map is put to its members
pub members_view-insert : (es : List Entry) (k : String Global) (v : Json) → members_view (insert_entry string_cmp es k v) ≡ put (string_bytes k) (view v) (members_view es)
members_view-insert [] k v = refl
members_view-insert (e ∷ es) k v = by_order (string_cmp k e.0) _ _ _ ∙ rw (members_view-insert es k v)

found_or : (o : Ordering) (v : Json) (rest : Option Json) (d : Option Data) → option_map view rest ≡ d → option_map view (cond (is_eq o) (Some v) rest) ≡ match_ordering o d (Some (view v)) d
found_or Less v rest d e = e
found_or Equal v rest d e = refl
found_or Greater v rest d e = e

-- what a map has under a key
pub members_view-lookup : (name : List ℕ) (es : List Entry) → option_map view (lookup (is_at (λ k. slice_cmp nat_cmp name (string_bytes k))) es) ≡ get_member name (members_view es)
members_view-lookup name [] = refl
members_view-lookup name (e ∷ es) = found_or (slice_cmp nat_cmp name (string_bytes e.0)) e.1 _ _ (members_view-lookup name es)

pub view_behind : (r : Option (Bor Json)) → option_map (λ x. view x.now) r ≡ option_map view (option_map (λ x. x.now) r)
view_behind None = refl
view_behind (Some x) = refl

pub view-Null : view Null ≡ null
view-Null = search (rules, the_lemmas)

pub view-Bool : (b : prelude.Bool) → view (Bool b) ≡ boolean b
view-Bool b = search (rules, the_lemmas)

pub view-Number : (n : kit.Number) → view (Number n) ≡ number (number_view n)
view-Number n = search (rules, the_lemmas)

pub view-Text : (s : String Global) → view (Text s) ≡ string (string_bytes s)
view-Text s = search (rules, the_lemmas)

pub view-Object : (m : BTreeMap (String Global) Json) → view (Object m) ≡ object (members_view m.entries)
view-Object m = search (rules, the_lemmas)
